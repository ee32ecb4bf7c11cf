-- Small sheets over two letters, computed from the definitions alone: 0 and 1 are letters, 2 stands for a gap.
use Rattle.std.proofs.Common.{◌≡◌, ℕ, zero, suc, ◌+◌, ◌*◌, ◌%◌, ◌^◌, Bool, true, false, cond, ◌&&◌, ◌||◌, eqb, ltb, List, [], ◌∷◌, ◌++◌, map, length, replicate, Some, None, Ok, Err, Option, Result, refl}
use Rattle.std.specs.List.{AllByRecursion}
use Rattle.faults.specs.declared.Fault.{Fault}
use Rattle.faults.specs.Causes.{short_work, no_string, short_text}
use Rattle.models.specs.Automaton.{Model, last}
use Rattle.sheetlaw.specs.Calls.{Turn, letter, gap, passes}
use Rattle.sheetlaw.specs.Step.{close}
use Rattle.sheetlaw.specs.Runs.{after, turns}
use Rattle.sheetlaw.specs.Law.{text}
use Rattle.sheetlaw.specs.declared.Event.{Event}
use Rattle.sheetlaw.specs.declared.Event.TheVariants.{Letter, Gap}
use Rattle.sheetlaw.specs.declared.Answer.{Answer}
use Rattle.sheetlaw.specs.declared.Answer.TheVariants.{Pending, Kept}
use Rattle.sheetlaw.specs.declared.Counts.{Counts}

-- the first of the words, by length and then by letters, that serves as a row, up to a length
abbrev same : List ℕ → List ℕ → Bool
same [] [] = true
same [] (y ∷ ys) = false
same (x ∷ xs) [] = false
same (x ∷ xs) (y ∷ ys) = eqb x y && same xs ys

abbrev words : ℕ → List (List ℕ)
words zero = [] ∷ []
words (suc n) = map (λ w. 0 ∷ w) (words n) ++ map (λ w. 1 ∷ w) (words n)

abbrev first : (List ℕ → Bool) → List (List ℕ) → Option (List ℕ)
first p [] = None
first p (w ∷ ws) = cond (p w) (Some w) (first p ws)

abbrev or_else : Option (List ℕ) → Option (List ℕ) → Option (List ℕ)
or_else (Some w) o = Some w
or_else None o = o

abbrev first_from : (List ℕ → Bool) → ℕ → ℕ → Option (List ℕ)
first_from p n zero = None
first_from p n (suc more) = or_else (first p (words n)) (first_from p (n + 1) more)

abbrev row_upto : ℕ → Model ℕ → List ℕ → List ℕ → Option (List ℕ)
row_upto most m u w = first_from (λ r. passes m (u ++ r) && same (last (length w) (u ++ r)) w) 1 most

-- an automaton whose state is the last d letters as a binary number behind a 1; it stops where these with one more are barred
abbrev among : ℕ → List ℕ → Bool
among q [] = false
among q (b ∷ bs) = eqb q b || among q bs

abbrev barring : ℕ → List ℕ → Model ℕ
barring d bars = record {
  count = 2 ^ (d + 1);
  start = 1;
  next = λ q a. cond (ltb (2 * q + a) (2 ^ (d + 1))) (Some (2 * q + a)) (cond (among (2 * q + a) bars) None (Some (2 ^ d + (2 * q + a) % 2 ^ d)));
  memory = d;
}

abbrev event : ℕ → List ℕ → Event ℕ × List ℕ
event x work = (cond (eqb x 2) Gap (Letter x), work)

-- what the latest call answered, and what it left in its work table
abbrev latest : List (Turn ℕ) → Result Answer Fault × List ℕ
latest [] = (Ok Pending, [])
latest (gap r ∷ h) = (Ok Pending, [])
latest (letter x work r left ∷ h) = (r, left)

record Example : Type 0 where
  model : Model ℕ
  k : ℕ
  work : List ℕ
  room : ℕ
  trace : List ℕ
  rewritten : List ℕ
  counts : Counts
  answer : Result Answer Fault
  left : List ℕ

abbrev Computes : Example → Type 0
Computes e =
    let row = row_upto 6 e.model in
    let h = turns e.model e.k row (replicate e.room 7) [] (map (λ x. event x e.work) e.trace) in
    let u = after e.model e.k row (replicate e.room 7) h in
    (text h u.1 ≡ e.rewritten) × (close u.0 ≡ e.counts) × (latest h ≡ (e.answer, e.left))

abbrev tally_of : ℕ → ℕ → ℕ → ℕ → ℕ → Counts
tally_of a b c d e = record { letters = a; kept = b; skipped = c; text = d; filled = e }

abbrev examples : List Example
examples =
    -- a window for which two letters are filled in
    record {
      model = barring 3 (18 ∷ 22 ∷ 31 ∷ []);
      k = 4;
      work = replicate 65 9;
      room = 30;
      trace = 0 ∷ 1 ∷ 1 ∷ 1 ∷ 1 ∷ 0 ∷ 0 ∷ 0 ∷ 1 ∷ 0 ∷ 0 ∷ [];
      rewritten = 0 ∷ 1 ∷ 1 ∷ 1 ∷ 0 ∷ 0 ∷ 0 ∷ 1 ∷ 1 ∷ 1 ∷ 0 ∷ 1 ∷ 0 ∷ 0 ∷ [];
      counts = tally_of 11 6 2 14 2;
      answer = Ok (Kept 6 2);
      left = replicate 64 0 ++ 9 ∷ [];
    }
    -- windows that do not pass are skipped
    ∷ record {
      model = barring 2 (8 ∷ []);
      k = 3;
      work = replicate 32 1;
      room = 4;
      trace = 1 ∷ 0 ∷ 0 ∷ 0 ∷ 0 ∷ 0 ∷ 1 ∷ [];
      rewritten = 1 ∷ 0 ∷ 0 ∷ 1 ∷ [];
      counts = tally_of 7 2 3 4 0;
      answer = Ok (Kept 1 0);
      left = replicate 32 0;
    }
    -- equal windows do not merge
    ∷ record {
      model = barring 1 [];
      k = 2;
      work = replicate 16 1;
      room = 9;
      trace = 0 ∷ 0 ∷ 0 ∷ 0 ∷ [];
      rewritten = 0 ∷ 0 ∷ 0 ∷ 0 ∷ [];
      counts = tally_of 4 3 0 4 0;
      answer = Ok (Kept 1 0);
      left = replicate 16 0;
    }
    -- a window that no row leads to
    ∷ record {
      model = barring 1 (5 ∷ []);
      k = 2;
      work = replicate 16 1;
      room = 9;
      trace = 0 ∷ 0 ∷ 2 ∷ 1 ∷ 1 ∷ [];
      rewritten = 0 ∷ 0 ∷ [];
      counts = tally_of 3 1 0 2 0;
      answer = Err (no_string 4);
      left = replicate 16 0;
    }
    -- with a memory of k letters even the next window may need a filling
    ∷ record {
      model = barring 4 (32 ∷ 63 ∷ []);
      k = 4;
      work = replicate 128 1;
      room = 9;
      trace = 0 ∷ 0 ∷ 0 ∷ 0 ∷ 0 ∷ [];
      rewritten = 0 ∷ 0 ∷ 0 ∷ 0 ∷ 1 ∷ 0 ∷ 0 ∷ 0 ∷ 0 ∷ [];
      counts = tally_of 5 2 0 9 1;
      answer = Ok (Kept 5 1);
      left = replicate 128 0;
    }
    -- a text table that is too short for the first window
    ∷ record {
      model = barring 1 [];
      k = 4;
      work = replicate 16 1;
      room = 3;
      trace = 0 ∷ 0 ∷ 0 ∷ 0 ∷ [];
      rewritten = [];
      counts = tally_of 3 0 0 0 0;
      answer = Err (short_text 4);
      left = replicate 16 0;
    }
    -- a work table that is too short
    ∷ record {
      model = barring 1 [];
      k = 4;
      work = replicate 15 1;
      room = 3;
      trace = 0 ∷ 2 ∷ 0 ∷ [];
      rewritten = [];
      counts = tally_of 0 0 0 0 0;
      answer = Err (short_work 16);
      left = replicate 15 1;
    }
    ∷ []

computed : AllByRecursion Computes examples
computed =
    ((refl, refl, refl), ((refl, refl, refl), ((refl, refl, refl), ((refl, refl, refl), ((refl, refl, refl), ((refl, refl, refl), ((refl, refl, refl), tt)))))))
