-- What is out, in the list of all that was lent: by number, with `None` for what came back.
use Rattle.std.specs.Prelude.{◌≡◌, ℕ, List, Option, Some, None, slice_index_or, slice_set, count_by, is_some}

module _ {T : Type 0} where
  -- this value is out under this number
  abbrev pub IsOut : List (Option T) → ℕ → T → Type 0
  IsOut out number value = slice_index_or out number None ≡ Some value

  -- nothing is out
  abbrev pub NothingOut : List (Option T) → Type 0
  NothingOut out = (number : ℕ) (value : T) → ¬ (IsOut out number value)

  -- how many are out
  abbrev pub count_out : List (Option T) → ℕ
  count_out out = count_by is_some out

  -- this value was out under this number and is no longer, and all others are as they were
  pub record ComesBack (old : List (Option T)) (number : ℕ) (value : T) (new : List (Option T)) : Type 0 where
    pub was_out : IsOut old number value
    pub struck : new ≡ slice_set old number None
