-- Numbers read from columns. Assumes nothing.
--
--   read w bs   the number that stands right-justified with blanks in exactly w columns, with no needless zero
use Rattle.std.specs.Prelude.{ℕ, ◌+◌, ◌-◌, ◌*◌, ◌<◌, Bool, cond, ◌&&◌, List, length, Some, None, fold, Option, ◌==◌, nat_le}

-- a decimal digit
abbrev pub digit : ℕ → Bool
digit b = nat_le 48 b && nat_le b 57

-- what is read after one more digit, where nothing was read while only blanks came; None where the field is broken.
-- Nothing may follow the digit 0 alone
abbrev pub more : Option ℕ → ℕ → Option (Option ℕ)
more None d = Some (Some d)
more (Some n) d = cond (n == 0) None (Some (Some (n * 10 + d)))

-- what is read after one more blank
abbrev pub blank : Option ℕ → Option (Option ℕ)
blank None = Some None
blank (Some n) = None

abbrev pub column : Option ℕ → ℕ → Option (Option ℕ)
column f b = cond (b == 32) (blank f) (cond (digit b) (more f (b - 48)) None)

-- a field that is broken stays so
abbrev pub onward : Option (Option ℕ) → ℕ → Option (Option ℕ)
onward None b = None
onward (Some f) b = column f b

abbrev pub number : Option (Option ℕ) → Option ℕ
number None = None
number (Some f) = f

abbrev pub read : ℕ → List ℕ → Option ℕ
read w bs = cond (length bs == w) (number (fold onward (Some None) bs)) None

-- the number so far, where there is one, is below m
abbrev pub Under : ℕ → Option ℕ → Type 0
Under m None = Unit {0}
Under m (Some n) = n < m
