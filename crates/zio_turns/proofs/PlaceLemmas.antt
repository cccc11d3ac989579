-- What values stand at places once one is put or taken.
use Rattle.std.proofs.Common.{◌≡◌, ℕ, zero, suc, ◌<◌, ◌≤◌, ◌∙◌, List, [], ◌∷◌, ◌++◌, length, take, drop, remove, slice_index, get_or, set, Option, Some, None, refl, ap, sym, arith}
use Rattle.zio_turns.specs.LineSums.{sum_of}
use Rattle.zio_turns.specs.LinePlaces.{standing, marks}

pub length_marks : (places : List (Option ℕ)) → length (marks places) ≡ length places
length_marks [] = refl
length_marks (None ∷ places) = ap suc (length_marks places)
length_marks (Some value ∷ places) = ap suc (length_marks places)

pub sum_marks : (places : List (Option ℕ)) → sum_of (marks places) ≡ length (standing places)
sum_marks [] = refl
sum_marks (None ∷ places) = omega (arith, sum_marks places)
sum_marks (Some value ∷ places) = omega (arith, sum_marks places)

-- the k-th value stands at this place, and is taken from it
pub record Taken (places : List (Option ℕ)) (k place : ℕ) : Type 0 where
  pub value : ℕ
  pub within : place < length places
  pub stands : get_or places place None ≡ Some value
  pub is_kth : slice_index (standing places) k ≡ value
  pub others : standing (set places place None) ≡ remove (standing places) k
  pub mark : slice_index (marks places) place ≡ 1
  pub marked : marks (set places place None) ≡ set (marks places) place 0

pub take_at : (places : List (Option ℕ)) (k place : ℕ) → place < length places → sum_of (take place (marks places)) ≤ k
    → k < sum_of (take (suc place) (marks places)) → Taken places k place
take_at [] k place p b l = absurd (omega arith)
take_at (None ∷ places) k zero p b l = absurd (omega arith)
take_at (Some value ∷ places) zero zero p b l = record { value = value; within = p; stands = refl; is_kth = refl; others = refl; mark = refl; marked = refl }
take_at (Some value ∷ places) (suc k) zero p b l = absurd (omega arith)
take_at (None ∷ places) k (suc place) p b l =
    let t : Taken places k place = take_at places k place (omega arith) (omega arith) (omega arith) in
    record { value = t.value; within = p; stands = t.stands; is_kth = t.is_kth; others = t.others; mark = t.mark; marked = ap (λ ms. 0 ∷ ms) t.marked }
take_at (Some value ∷ places) zero (suc place) p b l = absurd (omega arith)
take_at (Some value ∷ places) (suc k) (suc place) p b l =
    let t : Taken places k place = take_at places k place (omega arith) (omega arith) (omega arith) in
    record { value = t.value; within = p; stands = t.stands; is_kth = t.is_kth; others = ap (λ xs. value ∷ xs) t.others; mark = t.mark; marked = ap (λ ms. 1 ∷ ms) t.marked }

none_in : (value : ℕ) (xs : List ℕ) → value ∷ xs ≡ [] → ⊥
none_in value xs e = cc

-- what was not used stays so
pub still_unused : (places : List (Option ℕ)) (used place : ℕ) → standing (drop used places) ≡ []
    → standing (drop used (set places place None)) ≡ []
still_unused [] zero place e = e
still_unused [] (suc used) place e = e
still_unused (None ∷ places) zero zero e = e
still_unused (Some value ∷ places) zero place e = absurd (none_in value (standing places) e)
still_unused (None ∷ places) zero (suc place) e = still_unused places zero place e
still_unused (place0 ∷ places) (suc used) zero e = e
still_unused (place0 ∷ places) (suc used) (suc place) e = still_unused places used place e

-- a value is put where nothing stands from there on
pub record Put (places : List (Option ℕ)) (place value : ℕ) : Type 0 where
  pub stands : standing (set places place (Some value)) ≡ standing places ++ value ∷ []
  pub mark : slice_index (marks places) place ≡ 0
  pub marked : marks (set places place (Some value)) ≡ set (marks places) place 1
  pub unused : standing (drop (suc place) (set places place (Some value))) ≡ []

pub put_at : (places : List (Option ℕ)) (place value : ℕ) → place < length places → standing (drop place places) ≡ []
    → Put places place value
put_at [] place value p e = absurd (omega arith)
put_at (None ∷ places) zero value p e = record { stands = ap (λ xs. value ∷ xs) e ∙ ap (λ xs. xs ++ value ∷ []) (sym e); mark = refl; marked = refl; unused = e }
put_at (Some other ∷ places) zero value p e = absurd (none_in other (standing places) e)
put_at (None ∷ places) (suc place) value p e =
    let t : Put places place value = put_at places place value (omega arith) e in
    record { stands = t.stands; mark = t.mark; marked = ap (λ ms. 0 ∷ ms) t.marked; unused = t.unused }
put_at (Some other ∷ places) (suc place) value p e =
    let t : Put places place value = put_at places place value (omega arith) e in
    record { stands = ap (λ xs. other ∷ xs) t.stands; mark = t.mark; marked = ap (λ ms. 1 ∷ ms) t.marked; unused = t.unused }
