-- The marks of an open batch: where the mark of a request is.
use Rattle.std.proofs.Common.{◌≡◌, ◌≢◌, ◌≤◌, ◌<◌, ℕ, zero, suc, List, [], ◌∷◌, length, map, refl, sym, ap, ◌∙◌, Bool, true, false, ◌==◌, Option, Some, None, Result, Ok, Err, slice_index_or, arith}
use Rattle.std.proofs.lemmas.Bool.{ne_eqb}
use Rattle.std.proofs.lemmas.Bool.Decides.{nat_tests}
use Rattle.std.proofs.lemmas.Cmp.{ranked}
use Rattle.std.proofs.lemmas.List.{length-map}
use Rattle.std.specs.Prelude.{find}
use Rattle.std.specs.List.{AllByRecursion}
use Rattle.std.specs.List.Sorted.{IsBinarySearchResult, IsNonDecreasingBy, IsSearchInRange}
use Rattle.std.specs.Ordering.{nat_cmp, ordering_index}
use Rattle.zio_script.specs.declared.open_batch.RequestMark.{RequestMark}
use Rattle.zio_script.specs.declared.open_batch.OpenBatch.{OpenBatch}
use Rattle.zio_script.specs.declared.script.Request.{Request}
use Rattle.zio_script.specs.Accepted.{AreRising}
use Rattle.zio_script.specs.OpenBatches.{IsBatch, IsParentAt, IsPosition, mark_in}

-- ---- lists by index

pub all_at : {X : Type 0} (P : X → Type 0) (xs : List X) (i : ℕ) (d : X) → AllByRecursion P xs → i < length xs → P (slice_index_or xs i d)
all_at P [] i d all within = absurd (omega arith)
all_at P (x ∷ xs) zero d all within = all.0
all_at P (x ∷ xs) (suc i) d all within = all_at P xs i d all.1 (omega arith)

pub index_map : {X Y : Type 0} (f : X → Y) (xs : List X) (i : ℕ) (d : X) (e : Y) → i < length xs → slice_index_or (map f xs) i e ≡ f (slice_index_or xs i d)
index_map f [] i d e within = absurd (omega arith)
index_map f (x ∷ xs) zero d e within = refl
index_map f (x ∷ xs) (suc i) d e within = index_map f xs i d e (omega arith)

-- ---- numbers

pub numbers_rise : (rs : List Request) → AreRising rs → (i j : ℕ) (d : Request) → i ≤ j → j < length rs
    → (slice_index_or rs i d).number ≤ (slice_index_or rs j d).number
numbers_rise [] rising i j d order within = absurd (omega arith)
numbers_rise (r ∷ rs) rising zero zero d order within = omega arith
numbers_rise (r ∷ rs) rising zero (suc j) d order within =
    let above : r.number < (slice_index_or rs j d).number = all_at (λ (q : Request). r.number < q.number) rs j d rising.0 (omega arith) in
    omega arith
numbers_rise (r ∷ rs) rising (suc i) zero d order within = absurd (omega arith)
numbers_rise (r ∷ rs) rising (suc i) (suc j) d order within = numbers_rise rs rising.1 i j d (omega arith) (omega arith)

-- ---- a request by its number

record FoundAt (batch : List Request) (p i : ℕ) : Type 0 where
  parent : Request
  found : find (λ (r : Request). r.number == p) batch ≡ Some parent
  there : (d : Request) → slice_index_or batch i d ≡ parent

same_number : (n : ℕ) → (n == n) ≡ true
same_number n = grind (arith, nat_tests)

found_at : (batch : List Request) (p i : ℕ) → AreRising batch → i < length batch → ((d : Request) → (slice_index_or batch i d).number ≡ p) → FoundAt batch p i
found_at [] p i rising within is = absurd (omega arith)
found_at (r ∷ batch) p zero rising within is =
    let here : r.number ≡ p = is r in
    let same : (r.number == p) ≡ true = grind (arith, nat_tests) in
    record { parent = r; found = rw same refl; there = λ d. refl }
found_at (r ∷ batch) p (suc i) rising within is =
    let rest = found_at batch p i rising.1 (omega arith) is in
    let above : r.number < (slice_index_or batch i r).number = all_at (λ (q : Request). r.number < q.number) batch i r rising.0 (omega arith) in
    let here : (slice_index_or batch i r).number ≡ p = is r in
    let other : (r.number == p) ≡ false = ne_eqb r.number p (omega arith) in
    record { parent = rest.parent; found = rw other rest.found; there = rest.there }

not_found : (batch : List Request) (p : ℕ) → ((k : ℕ) (d : Request) → k < length batch → (slice_index_or batch k d).number ≢ p)
    → find (λ (r : Request). r.number == p) batch ≡ None
not_found [] p none = refl
not_found (r ∷ batch) p none =
    let other : (r.number == p) ≡ false = ne_eqb r.number p (none 0 r (omega arith)) in
    rw other (not_found batch p (λ k d within. none (suc k) d (omega arith)))

-- ---- a search

marks_rise : (batch : List Request) (f : Request → RequestMark) → ((r : Request) → (f r).number ≡ r.number) → AreRising batch → (p : ℕ)
    → IsNonDecreasingBy (λ (m : RequestMark). ordering_index (nat_cmp m.number p)) (map f batch)
marks_rise [] f same rising p = λ i j d order within. absurd (omega arith)
marks_rise (r ∷ batch) f same rising p = λ i j d order within.
    let len : length (map f (r ∷ batch)) ≡ length (r ∷ batch) = length-map (r ∷ batch) f in
    let low : slice_index_or (map f (r ∷ batch)) i d ≡ f (slice_index_or (r ∷ batch) i r) = index_map f (r ∷ batch) i r d (omega arith) in
    let high : slice_index_or (map f (r ∷ batch)) j d ≡ f (slice_index_or (r ∷ batch) j r) = index_map f (r ∷ batch) j r d (omega arith) in
    let rise : (slice_index_or (r ∷ batch) i r).number ≤ (slice_index_or (r ∷ batch) j r).number = numbers_rise (r ∷ batch) rising i j r order (omega arith) in
    let low_is : (slice_index_or (map f (r ∷ batch)) i d).number ≡ (slice_index_or (r ∷ batch) i r).number = ap (λ (m : RequestMark). m.number) low ∙ same _ in
    let high_is : (slice_index_or (map f (r ∷ batch)) j d).number ≡ (slice_index_or (r ∷ batch) j r).number = ap (λ (m : RequestMark). m.number) high ∙ same _ in
    rw (low_is, high_is) (grind (arith, nat_tests))

pub position_is : (apart : Bool) (batch : List Request) (kept : OpenBatch) (p : ℕ) (result : Result ℕ ℕ) → IsBatch apart batch kept
    → IsSearchInRange result (length kept.marks.items)
    → IsBinarySearchResult (λ (m : RequestMark). nat_cmp m.number p) kept.marks.items result → IsPosition batch kept p result
position_is apart batch kept p (Ok i) is within equal =
    let len : length kept.marks.items ≡ length batch = ap length is.marks ∙ length-map batch (mark_in batch) in
    let inside : i < length batch = omega arith in
    let at : (d : Request) → (slice_index_or batch i d).number ≡ p = λ d.
    let mark : slice_index_or kept.marks.items i (mark_in batch d) ≡ mark_in batch (slice_index_or batch i d)
    = ap (λ (ms : List RequestMark). slice_index_or ms i (mark_in batch d)) is.marks ∙ index_map (mark_in batch) batch i d (mark_in batch d) inside in
    sym (ap (λ (m : RequestMark). m.number) mark) ∙ ranked _ p _ (sym (equal (mark_in batch d))) in
    let found = found_at batch p i is.rising inside at in
    record {
      number = p;
      parent = found.parent;
      under_is = refl;
      found = found.found;
      within = within;
      there = found.there;
      mark = λ d. ap (λ (ms : List RequestMark). slice_index_or ms i d) is.marks
          ∙ (index_map (mark_in batch) batch i found.parent d inside ∙ ap (mark_in batch) (found.there found.parent));
    }
position_is apart batch kept p (Err i) is within parted =
    let len : length kept.marks.items ≡ length batch = ap length is.marks ∙ length-map batch (mark_in batch) in
    let rise : IsNonDecreasingBy (λ (m : RequestMark). ordering_index (nat_cmp m.number p)) kept.marks.items
    = rw is.marks (marks_rise batch (mark_in batch) (λ r. refl) is.rising p) in
    let ends = parted rise in
    not_found batch p (λ k d inside.
    let mark : slice_index_or kept.marks.items k (mark_in batch d) ≡ mark_in batch (slice_index_or batch k d)
    = ap (λ (ms : List RequestMark). slice_index_or ms k (mark_in batch d)) is.marks ∙ index_map (mark_in batch) batch k d (mark_in batch d) inside in
    let number : (slice_index_or kept.marks.items k (mark_in batch d)).number ≡ (slice_index_or batch k d).number = ap (λ (m : RequestMark). m.number) mark in
    λ same. grind (
      arith,
      number,
      same,
      λ (low : k < i). ranked _ p _ (sym (ends.0 k (mark_in batch d) (omega arith) low)),
      λ (high : i ≤ k). ranked _ p _ (sym (ends.1 k (mark_in batch d) high (omega arith))),
    ))

pub parent_of : (batch : List Request) (kept : OpenBatch) (under : Option ℕ) (p i : ℕ) (result : Result ℕ ℕ) → under ≡ Some p → result ≡ Ok i
    → IsPosition batch kept p result → IsParentAt batch kept under i
parent_of batch kept under p i (Ok j) under_is is at = let same : j ≡ i = cc in rw (under_is, ← same) at
parent_of batch kept under p i (Err j) under_is is at = let no : ⊥ = cc in absurd no
