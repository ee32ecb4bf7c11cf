-- What is decided where the tests come out so: the other way round than Decisions. Assumes nothing.
use Rattle.std.proofs.Common.{◌≡◌, ℕ, ◌+◌, ◌<◌, ◌≤◌, true, false, cond, ltb, leb, List, length, Some, None, Ok, Err, Option, Result, sym, ap, ◌∙◌, arith}
use Rattle.std.proofs.lemmas.Bool.{cond-true, cond-false, lt-ltb, le-ltb, le-leb, lt-leb}
use Rattle.faults.specs.declared.Fault.{Fault}
use Rattle.faults.specs.Causes.{short_work, full_sheet, no_string, short_text}
use Rattle.models.specs.Automaton.{Model}
use Rattle.sheetlaw.specs.Calls.{passes}
use Rattle.sheetlaw.specs.Step.{Contents, Outcome, wait, skip, keep, window, needs, row_to, refuse_if, refuse_none, decide, pauses, pause, leaves_gap, if_taken}

module _ {K : Type 0} (m : Model K) (k : ℕ) (row : List K → List K → Option (List K)) (work room : ℕ) (s : Contents K) (x : K) where
  pub decide_short : work < needs m → decide m k row work room s x ≡ Err (short_work (needs m))
  decide_short h = cond-true (ltb work (needs m)) _ _ (lt-ltb work (needs m) h)

  module _ (long : needs m ≤ work) where
    worked : (rest : Result (Outcome K) Fault) → refuse_if (ltb work (needs m)) (short_work (needs m)) rest ≡ rest
    worked rest = cond-false (ltb work (needs m)) _ _ (le-ltb work (needs m) long)

    pub decide-full : 50000 ≤ s.taken → decide m k row work room s x ≡ Err full_sheet
    decide-full h = worked _ ∙ cond-true (leb 50000 s.taken) _ _ (le-leb 50000 s.taken h)

    module _ (early : s.taken < 50000) where
      counted : (rest : Result (Outcome K) Fault) → refuse_if (ltb work (needs m)) (short_work (needs m)) (refuse_if (leb 50000 s.taken) full_sheet rest) ≡ rest
      counted rest = worked _ ∙ cond-false (leb 50000 s.taken) _ _ (lt-leb 50000 s.taken early)

      pub decide-wait : length (window k s x) < k → decide m k row work room s x ≡ Ok wait
      decide-wait h = counted _ ∙ cond-true (ltb (length (window k s x)) k) _ _ (lt-ltb (length (window k s x)) k h)

      module _ (whole : k ≤ length (window k s x)) where
        full : (a rest : Result (Outcome K) Fault) → cond (ltb (length (window k s x)) k) a rest ≡ rest
        full a rest = cond-false (ltb (length (window k s x)) k) _ _ (le-ltb (length (window k s x)) k whole)

        pub decide-skip : passes m (window k s x) ≡ false → decide m k row work room s x ≡ Ok skip
        decide-skip h = counted _ ∙ full _ _ ∙ cond-false (passes m (window k s x)) _ _ h

        module _ (passing : passes m (window k s x) ≡ true) where
          -- what is left to decide, from the row
          abbrev by_row : Option (List K) → Result (Outcome K) Fault
          by_row o = refuse_none o (no_string s.taken) (λ r. refuse_if (ltb room (s.counts.text + length r)) (short_text (s.counts.text + length r)) (Ok (keep (window k s x) r)))

          rowed : (o : Option (List K)) → row_to row s.latest (window k s x) ≡ o → decide m k row work room s x ≡ by_row o
          rowed o e = counted _ ∙ full _ _ ∙ cond-true (passes m (window k s x)) _ _ passing ∙ ap by_row e

          pub decide_stuck : row_to row s.latest (window k s x) ≡ None → decide m k row work room s x ≡ Err (no_string s.taken)
          decide_stuck e = rowed None e

          module _ (r : List K) (here : row_to row s.latest (window k s x) ≡ Some r) where
            pub decide-long : room < s.counts.text + length r → decide m k row work room s x ≡ Err (short_text (s.counts.text + length r))
            decide-long h = rowed (Some r) here ∙ cond-true (ltb room (s.counts.text + length r)) _ _ (lt-ltb room (s.counts.text + length r) h)

            pub decide-keep : s.counts.text + length r ≤ room → decide m k row work room s x ≡ Ok (keep (window k s x) r)
            decide-keep h = rowed (Some r) here ∙ cond-false (ltb room (s.counts.text + length r)) _ _ (le-ltb room (s.counts.text + length r) h)

-- of the work table it counts only whether it is long enough
pub decide_enough : {K : Type 0} (m : Model K) (k : ℕ) (row : List K → List K → Option (List K)) (work room : ℕ) (s : Contents K) (x : K) → needs m ≤ work
    → decide m k row work room s x ≡ decide m k row (needs m) room s x
decide_enough m k row work room s x h = worked m k row work room s x h _ ∙ sym (worked m k row (needs m) room s x (omega arith) _)

module _ {K : Type 0} (s : Contents K) where
  pub pauses-full : 50000 ≤ s.taken → pauses s ≡ Err full_sheet
  pauses-full h = cond-true (leb 50000 s.taken) _ _ (le-leb 50000 s.taken h)

  pub pauses-early : s.taken < 50000 → pauses s ≡ Ok tt
  pauses-early h = cond-false (leb 50000 s.taken) _ _ (lt-leb 50000 s.taken h)

  pub gap-full : 50000 ≤ s.taken → s ≡ leaves_gap s
  gap-full h = ap (λ o. if_taken o (λ _. pause s) s) (sym (pauses-full h))

  pub gap-early : s.taken < 50000 → pause s ≡ leaves_gap s
  gap-early h = ap (λ o. if_taken o (λ _. pause s) s) (sym (pauses-early h))
