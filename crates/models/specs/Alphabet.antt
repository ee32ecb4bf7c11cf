-- What a kind of letters is. Assumes nothing.
--
--   Alphabet K    the letters of a kind K: how many there are, the number of each, the letter of each number
--   Numbered A    the letters have exactly the numbers below the size, each letter one of its own
--   lettered A o  the letter whose number an Option holds, if there is one
use Rattle.std.specs.Prelude.{◌≡◌, ℕ, ◌<◌, ◌≤◌, Some, None, Option}

pub record Alphabet (K : Type 0) : Type 0 where
  pub size : ℕ
  pub number : K → ℕ
  pub letter : ℕ → Option K

-- the letter in an Option is there, and has the number n
abbrev pub Bears : {K : Type 0} → (K → ℕ) → ℕ → Option K → Type 0
Bears number n (Some x) = number x ≡ n
Bears number n None = ⊥

pub record Numbered {K : Type 0} (A : Alphabet K) : Type 0 where
  -- 1 to 32 letters
  pub some : 1 ≤ A.size
  pub few : A.size ≤ 32
  -- each letter's number is below the size
  pub below : (x : K) → A.number x < A.size
  -- two letters are the same exactly when their numbers are
  pub apart : (x y : K) → A.number x ≡ A.number y → x ≡ y
  pub given : (x : K) → A.letter (A.number x) ≡ Some x
  -- every number below the size has its letter, and no other number has one
  pub held : (n : ℕ) → n < A.size → Bears A.number n (A.letter n)
  pub past : (n : ℕ) → A.size ≤ n → A.letter n ≡ None

abbrev pub lettered : {K : Type 0} → Alphabet K → Option ℕ → Option K
lettered A (Some n) = A.letter n
lettered A None = None
