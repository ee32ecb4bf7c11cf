-- What a window and a stage show. Assumes nothing.
--
--   shown w         the letters of the window w
--   latest t        the last kept window of a sheet at the stage t, if one is kept
--   full t          whether k letters run at the stage t
--   kept_size k t   how many letters the last kept window has, or k where none is kept
use Rattle.std.specs.Prelude.{ℕ, Bool, true, false, List, take, Some, None, Option}
use Rattle.sheets.specs.declared.window.Window.{Window}
use Rattle.sheets.specs.declared.stage.Stage.{Stage}
use Rattle.sheets.specs.declared.stage.Stage.TheVariants.{Opening, Seeking, Resuming, Going}

abbrev pub shown : {K : Type 0} → Window K → List K
shown w = take w.held w.letters

abbrev pub shown_in : {K : Type 0} → Option (Window K) → Option (List K)
shown_in (Some w) = Some (shown w)
shown_in None = None

abbrev pub held_in : {K : Type 0} → ℕ → Option (Window K) → ℕ
held_in k (Some w) = w.held
held_in k None = k

abbrev pub latest : {K : Type 0} → Stage K → Option (List K)
latest Opening = None
latest Seeking = None
latest (Resuming w) = Some (shown w)
latest (Going w) = Some (shown w)

abbrev pub full : {K : Type 0} → Stage K → Bool
full Opening = false
full Seeking = true
full (Resuming w) = false
full (Going w) = true

abbrev pub kept_size : {K : Type 0} → ℕ → Stage K → ℕ
kept_size k Opening = k
kept_size k Seeking = k
kept_size k (Resuming w) = w.held
kept_size k (Going w) = w.held
