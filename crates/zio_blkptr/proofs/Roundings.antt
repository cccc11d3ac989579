-- How far a number of sectors can lie above what it is rounded up from.
use Rattle.std.proofs.Common.{◌≡◌, ℕ, ◌+◌, ◌<◌, ◌≤◌, false, ◌||◌, ◌==◌, IsTrue, ⊎_elim, arith, eqb-true}
use Rattle.std.proofs.lemmas.Bool.{or_cases}
use Rattle.zio_types.specs.Places.{rounded_to}
use Rattle.zio_blkptr.specs.Pointers.{is_rounding_of}

-- A number of sectors beside what it is rounded up from.
pub record IsNear (sectors n : ℕ) : Type 0 where
  pub low : n ≤ sectors
  pub high : sectors < n + 8

by_one : (sectors n : ℕ) → sectors ≡ rounded_to 1 n → IsNear sectors n
by_one sectors n e = record { low = omega arith; high = omega arith }

by_two : (sectors n : ℕ) → sectors ≡ rounded_to 2 n → IsNear sectors n
by_two sectors n e = record { low = omega arith; high = omega arith }

by_four : (sectors n : ℕ) → sectors ≡ rounded_to 4 n → IsNear sectors n
by_four sectors n e = record { low = omega arith; high = omega arith }

by_eight : (sectors n : ℕ) → sectors ≡ rounded_to 8 n → IsNear sectors n
by_eight sectors n e = record { low = omega arith; high = omega arith }

-- a rounding is at least the number, and less than the largest unit above it
pub near_by_rounding : (sectors n : ℕ) → IsTrue (is_rounding_of sectors n) → IsNear sectors n
near_by_rounding sectors n h =
    let one = sectors == rounded_to 1 n in
    let two = sectors == rounded_to 2 n in
    let four = sectors == rounded_to 4 n in
    let eight = sectors == rounded_to 8 n in
    ⊎_elim (λ t. by_one sectors n (eqb-true sectors (rounded_to 1 n) t))
    (λ behind. ⊎_elim (λ t. by_two sectors n (eqb-true sectors (rounded_to 2 n) t))
    (λ last. ⊎_elim (λ t. by_four sectors n (eqb-true sectors (rounded_to 4 n) t))
    (λ only. ⊎_elim (λ t. by_eight sectors n (eqb-true sectors (rounded_to 8 n) t)) (λ none. cc) (or_cases eight false only))
    (or_cases four (eight || false) last))
    (or_cases two (four || (eight || false)) behind))
    (or_cases one (two || (four || (eight || false))) h)
