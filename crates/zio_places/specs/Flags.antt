-- Lists of flags, true for a free sector, and what is kept of one so that a run of free sectors is found without
-- reading them.
use Rattle.std.specs.Prelude.{◌≡◌, ℕ, ◌+◌, ◌<◌, ◌≤◌, max, List, [], ◌∷◌, length, reverse, Bool, true, false, ◌==◌}
use Rattle.std.specs.List.{slice_index_or}
use Rattle.zio_places.specs.declared.summary.Summary.{Summary}

-- the sector is one of the list, and free
abbrev pub flag_at : List Bool → ℕ → Bool
flag_at flags k = slice_index_or flags k false

-- how many are free at the front
abbrev pub front_run : List Bool → ℕ
front_run [] = 0
front_run (false ∷ flags) = 0
front_run (true ∷ flags) = front_run flags + 1

-- how many are free at the back
abbrev pub back_run : List Bool → ℕ
back_run flags = front_run (reverse flags)

-- the longest run of free ones
abbrev pub best_run : List Bool → ℕ
best_run [] = 0
best_run (flag ∷ flags) = max (front_run (flag ∷ flags)) (best_run flags)

abbrev pub summary_of : List Bool → Summary
summary_of flags = record {
  sectors = length flags;
  front = front_run flags;
  back = back_run flags;
  best = best_run flags;
}

-- a run goes on with what follows where all before is of it
abbrev pub extended : Bool → ℕ → ℕ → ℕ
extended true run more = run + more
extended false run more = run

-- what is kept of two lists, one after the other
abbrev pub joined : Summary → Summary → Summary
joined a b = record {
  sectors = a.sectors + b.sectors;
  front = extended (a.front == a.sectors) a.front b.front;
  back = extended (b.back == b.sectors) b.back a.back;
  best = max (max a.best b.best) (a.back + b.front);
}

-- from here on, so many have this flag
pub record AreAll (flags : List Bool) (at count : ℕ) (flag : Bool) : Type 0 where
  pub fits : at + count ≤ length flags
  pub each : (k : ℕ) → at ≤ k → k < at + count → flag_at flags k ≡ flag

-- so many free ones, where the list begins or behind a used one
pub record IsFreeRun (flags : List Bool) (at count : ℕ) : Type 0 where
  pub all : AreAll flags at count true
  pub start : (k : ℕ) → k + 1 ≡ at → flag_at flags k ≡ false

-- from here on, so many got this flag, and the others stay
pub record IsRangeSet (old new : List Bool) (at count : ℕ) (flag : Bool) : Type 0 where
  pub length : length new ≡ length old
  pub within : (k : ℕ) → at ≤ k → k < at + count → flag_at new k ≡ flag
  pub before : (k : ℕ) → k < at → flag_at new k ≡ flag_at old k
  pub after : (k : ℕ) → at + count ≤ k → flag_at new k ≡ flag_at old k
