-- What follows of an automaton under a run limit, once it is made or refused. Assumes nothing.
use Rattle.std.proofs.Common.{◌≡◌, ℕ, ◌+◌, ◌*◌, ◌&&◌, Bool, true, false, cond, leb, Some, None, Ok, Err, Option, Result, sym, refl, ap, ◌∙◌}
use Rattle.faults.specs.declared.Fault.{Fault}
use Rattle.faults.specs.Causes.{bad_limit, large_pair}
use Rattle.models.specs.Alphabet.{Alphabet}
use Rattle.models.specs.Automaton.{Model}
use Rattle.pairlaw.specs.Pairs.{pair_model}
use Rattle.runlaw.specs.Runs.{run_model}
use Rattle.stations.specs.Stations.{bind}
use Rattle.listings.specs.Listings.{limited}
use Rattle.listings.specs.Limits.{model_of, model_of_result}
use Rattle.listings.specs.declared.limits.Limited.{Limited}

bind_cond : {X Y : Type 0} (b : Bool) (x y : Result X Fault) (go : X → Result Y Fault) → bind (cond b x y) go ≡ cond b (bind x go) (bind y go)
bind_cond true x y go = refl
bind_cond false x y go = refl

-- what is done with the automaton of the settings is done with it once it is there
limited_bind : {K T : Type 0} (u : Model K) (A : Alphabet K) (o : Option ℕ) (go : Model K → Result T Fault) → bind (limited u A o Ok) go ≡ limited u A o go
limited_bind u A None go = refl
limited_bind u A (Some r) go =
    let n = u.count * (1 + r * A.size) in
    let pair = cond (leb n 4096) (Ok (pair_model u (run_model A r))) (Err (large_pair n)) in
    bind_cond (leb 1 r && leb r 8) pair (Err (bad_limit r)) go
    ∙ ap (λ x. cond (leb 1 r && leb r 8) x (Err (bad_limit r))) (bind_cond (leb n 4096) (Ok (pair_model u (run_model A r))) (Err (large_pair n)) go)

-- r is the automaton that was made, or its refusal
module _ {P K T : Type 0} (m : P → Model K) (A : Alphabet K) (u : Model K) (o : Option ℕ) (go : Model K → Result T Fault) (r : Result (Limited P K) Fault) (e : model_of_result m A r ≡ limited u A o Ok) where
  pub limited_ok : (s : Limited P K) → r ≡ Ok s → go (model_of m A s) ≡ limited u A o go
  limited_ok s is = ap (λ x. bind (model_of_result m A x) go) (sym is) ∙ ap (λ x. bind x go) e ∙ limited_bind u A o go

  pub limited_err : (f : Fault) → r ≡ Err f → Err f ≡ limited u A o go
  limited_err f is = ap (λ x. bind (model_of_result m A x) go) (sym is) ∙ ap (λ x. bind x go) e ∙ limited_bind u A o go
