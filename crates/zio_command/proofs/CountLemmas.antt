-- Counts of faults that rise, and that don't.
use Rattle.std.proofs.Common.{◌≡◌, ◌<◌, ◌≤◌, ℕ, List, ◌∷◌, inl, inr, map, subst, arith}
use Rattle.std.proofs.lemmas.Bool.{cases_lt}
use Rattle.std.specs.List.{AllByRecursion}
use Rattle.zio_outside.specs.Outside.{AnyRose, Raised, Rose, count_max}

pub raised_rose : (old new : ℕ) → Raised old new → Rose old new
raised_rose old new (inl more) = inl more
raised_rose old new (inr last) = inr last.1

-- a count that rose doesn't fall
pub raised_first : (old mid new : ℕ) → Raised old mid → mid ≤ new → new ≤ count_max → Raised old new
raised_first old mid new (inl more) kept last = inl (omega arith)
raised_first old mid new (inr there) kept last = inr (there.0, (let m : mid ≡ count_max = there.1 in omega arith))

-- a count that didn't fall rises
pub raised_later : (old mid new : ℕ) → old ≤ mid → Raised mid new → Raised old new
raised_later old mid new kept (inl more) = inl (omega arith)
raised_later old mid new kept (inr last) =
    let m : mid ≡ count_max = last.0 in
    let n : new ≡ count_max = last.1 in
    elim (cases_lt old count_max) [
      | inl less ↦ inl (omega arith)
      | inr full ↦ inr (omega arith, n)
    ]

-- one of these disks failed since its fetch: the first, or one behind it
pub raised_more : {D : Type 0} (faults_at_fetch faults : D → ℕ) (disk : D) (rest disks : List D) (old mid new : ℕ) → disks ≡ disk ∷ rest
    → AllByRecursion (λ n. n < count_max) (map faults_at_fetch disks) → AnyRose (map faults_at_fetch disks) (map faults disks)
    → (faults_at_fetch disk < faults disk → Raised old mid)
    → (AllByRecursion (λ n. n < count_max) (map faults_at_fetch rest) → AnyRose (map faults_at_fetch rest) (map faults rest) → Raised mid new)
    → old ≤ mid → mid ≤ new → new ≤ count_max → Raised old new
raised_more faults_at_fetch faults disk rest disks old mid new e below any first behind kept later last =
    let b : AllByRecursion (λ n. n < count_max) (map faults_at_fetch (disk ∷ rest)) = subst (λ ds. AllByRecursion (λ n. n < count_max) (map faults_at_fetch ds)) e below in
    let r : AnyRose (map faults_at_fetch (disk ∷ rest)) (map faults (disk ∷ rest)) = subst (λ ds. AnyRose (map faults_at_fetch ds) (map faults ds)) e any in
    let less : faults_at_fetch disk < count_max = b.0 in
    elim r [
      | inl (inl more) ↦ raised_first old mid new (first more) later last
      | inl (inr full) ↦ raised_first old mid new (first (let f : faults disk ≡ count_max = full in omega arith)) later last
      | inr others ↦ raised_later old mid new kept (behind b.1 others)
    ]

-- a count that stayed below its last value didn't rise
pub not_rose : (old new : ℕ) → new ≡ old → old < count_max → Rose old new → ⊥
not_rose old new same below (inl more) = omega arith
not_rose old new same below (inr last) = omega arith
