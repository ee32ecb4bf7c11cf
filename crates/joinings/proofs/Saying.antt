-- What a finding says, on its way to the report. Assumes nothing.
use Rattle.std.proofs.Common.{◌≡◌, ℕ, Ok, Err, Result, refl}
use Rattle.faults.specs.declared.Fault.{Fault}
use Rattle.files.specs.Refusals.{at_line}
use Rattle.files.specs.declared.refusals.Refusal.{Refusal}
use Rattle.joinings.specs.Findings.{Found, said_of, said}
use Rattle.joinings.specs.declared.finding.Finding.{Finding}

abbrev pub said_line : {K : Type 0} → Result (Finding K) Refusal → Result (Found K) Refusal
said_line (Ok f) = Ok (said_of f)
said_line (Err e) = Err e

pub said_at : {K : Type 0} (r : Result (Finding K) Fault) (n : ℕ) → said_line (at_line r n) ≡ at_line (said r) n
said_at (Ok f) n = refl
said_at (Err e) n = refl
