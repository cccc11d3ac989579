-- What the mark of a parent says of the whys of a child, and of the sizes of the batch with it.
use Rattle.std.proofs.Common.{◌≡◌, ◌<◌, ◌+◌, ℕ, List, [], ◌∷◌, ◌++◌, length, map, reverse, refl, sym, ap, ◌∙◌, subst, Bool, true, false, not, cond, ◌||◌, ◌==◌, nat_le, nat_lt, Option, Some, None, arith}
use Rattle.std.proofs.lemmas.Bool.{eqb-true}
use Rattle.std.proofs.lemmas.Bool.Decides.{nat_tests}
use Rattle.std.proofs.lemmas.List.{length-map}
use Rattle.std.specs.Prelude.{find}
use Rattle.std.specs.List.{AllByRecursion}
use Rattle.zio_types.specs.declared.request.Kind.{Kind}
use Rattle.zio_script.specs.declared.limits.TheConstants.{CHILDREN_MAX, DEPTH_MAX}
use Rattle.zio_script.specs.declared.open_batch.OpenBatch.{OpenBatch}
use Rattle.zio_script.specs.declared.open_batch.Stand.{Stand}
use Rattle.zio_script.specs.declared.open_batch.Stand.TheVariants.{Root, Under, Lost}
use Rattle.zio_script.specs.declared.script.Request.{Request}
use Rattle.zio_script.specs.OpenBatches.{IsBatch, IsStand, depth_at, is_full_at, mark_in, marks_after, marks_of, must_at, no_mark}
use Rattle.zio_script.specs.Requests.{is_under_number, kind_of}
use Rattle.zio_script.specs.Whys.{children_in, depth_under, has_bad_parent, levels, may_have, must_parent, parent_in}
use Rattle.zio_script.proofs.MarkLemmas.{NotUnder, depth_of_child, eqb_sym, marks_more, marks_same, marks_set}

-- ---- where a request stands

pub found_number : (rs : List Request) (p : ℕ) (parent : Request) → find (λ (q : Request). q.number == p) rs ≡ Some parent → parent.number ≡ p
found_number [] p parent found = let no : ⊥ = cc in absurd no
found_number (r ∷ rs) p parent found = by_test (r.number == p) refl found (found_number rs p parent)
  where
    by_test : (is : Bool) → (r.number == p) ≡ is → cond is (Some r) (find (λ (q : Request). q.number == p) rs) ≡ Some parent
        → (find (λ (q : Request). q.number == p) rs ≡ Some parent → parent.number ≡ p) → parent.number ≡ p
    by_test true same here rest = let is : r ≡ parent = cc in subst (λ (q : Request). q.number ≡ p) is (eqb-true r.number p same)
    by_test false other there rest = rest there

pub none_of_number : (rs : List Request) (p : ℕ) → find (λ (q : Request). q.number == p) rs ≡ None → AllByRecursion (λ (q : Request). (p == q.number) ≡ false) rs
none_of_number [] p none = tt
none_of_number (r ∷ rs) p none = by_test (r.number == p) refl none (none_of_number rs p)
  where
    by_test : (is : Bool) → (r.number == p) ≡ is → cond is (Some r) (find (λ (q : Request). q.number == p) rs) ≡ None
        → (find (λ (q : Request). q.number == p) rs ≡ None → AllByRecursion (λ (q : Request). (p == q.number) ≡ false) rs)
        → AllByRecursion (λ (q : Request). (p == q.number) ≡ false) (r ∷ rs)
    by_test true same here rest = let no : ⊥ = cc in absurd no
    by_test false other there rest = (eqb_sym r.number p false other, rest there)

pub under_none : (r : Request) (rs : List Request) → r.under ≡ None → AllByRecursion (λ (q : Request). is_under_number r.under q.number ≡ false) rs
under_none r [] is = tt
under_none r (q ∷ rs) is = (rw is refl, under_none r rs is)

pub under_lost : (r : Request) (p : ℕ) (rs : List Request) → r.under ≡ Some p → AllByRecursion (λ (q : Request). (p == q.number) ≡ false) rs
    → AllByRecursion (λ (q : Request). is_under_number r.under q.number ≡ false) rs
under_lost r p [] is other = tt
under_lost r p (q ∷ rs) is other = (rw is other.0, under_lost r p rs is other.1)

-- the marks of the others, with one more request
pub others_after : (apart : Bool) (batch : List Request) (kept : OpenBatch) (r : Request) (stand : Stand) → IsBatch apart batch kept
    → IsStand batch kept r.under stand → AllByRecursion (NotUnder r.number) batch
    → map (mark_in (batch ++ r ∷ [])) batch ≡ marks_after (marks_of batch) stand (kind_of r.work)
others_after apart batch kept r Root is stand past =
    marks_more batch batch r past ∙ marks_same (mark_in batch) batch r (λ q. refl) (under_none r batch stand)
others_after apart batch kept r (Under i) is stand past =
    let len : length kept.marks.items ≡ length batch = ap length is.marks ∙ length-map batch (mark_in batch) in
    let low : i < length kept.marks.items = stand.within in
    marks_more batch batch r past
    ∙ marks_set (mark_in batch) batch i stand.number r (λ q. refl) is.rising stand.under_is (omega arith)
    (λ d. ap (λ (q : Request). q.number) (stand.there d) ∙ found_number batch stand.number stand.parent stand.found)
others_after apart batch kept r Lost is stand past =
    marks_more batch batch r past
    ∙ marks_same (mark_in batch) batch r (λ q. refl) (under_lost r stand.number batch stand.under_is (none_of_number batch stand.number stand.none))

-- ---- what the mark of the parent says

pub must_is : (batch : List Request) (kept : OpenBatch) (under : Option ℕ) (stand : Stand) → IsStand batch kept under stand
    → must_at kept stand ≡ must_parent (parent_in batch under)
must_is batch kept under Root stand = rw stand refl
must_is batch kept under (Under i) stand = rw (stand.under_is, stand.found, stand.mark no_mark) refl
must_is batch kept under Lost stand = rw (stand.under_is, stand.none) refl

deeper : (n m : ℕ) → n ≡ m + 1 → nat_le 16 m ≡ nat_lt 16 n
deeper n m is = grind (arith, nat_tests)

or_assoc : (a b c d : Bool) → c ≡ d → (a || b || c) ≡ ((a || b) || d)
or_assoc true b c d same = refl
or_assoc false true c d same = refl
or_assoc false false c d same = same

pub full_is : (apart : Bool) (batch : List Request) (kept : OpenBatch) (kind : Kind) (under : Option ℕ) (stand : Stand) → IsBatch apart batch kept
    → IsStand batch kept under stand → is_full_at kept kind stand ≡ has_bad_parent batch kind under
full_is apart batch kept kind under Root is stand = rw stand refl
full_is apart batch kept kind under (Under i) is stand =
    let depth : depth_under batch (Some stand.number) ≡ depth_under batch stand.parent.under + 1
    = depth_of_child batch stand.number stand.parent is.rising is.tidy stand.found in
    rw (stand.under_is, stand.found, stand.mark no_mark)
    (or_assoc (not (may_have (kind_of stand.parent.work) kind)) (nat_le CHILDREN_MAX (children_in batch stand.parent.number))
    (nat_le DEPTH_MAX (depth_under batch stand.parent.under)) (nat_lt DEPTH_MAX (depth_under batch (Some stand.number)))
    (deeper (depth_under batch (Some stand.number)) (depth_under batch stand.parent.under) depth))
full_is apart batch kept kind under Lost is stand = rw (stand.under_is, stand.none) refl

levels_none : (rs : List Request) → levels rs None ≡ 0
levels_none [] = refl
levels_none (r ∷ rs) = levels_none rs

-- of a request whose parent is there, if it has one
pub depth_is : (apart : Bool) (batch : List Request) (kept : OpenBatch) (kind : Kind) (under : Option ℕ) (stand : Stand) → IsBatch apart batch kept
    → IsStand batch kept under stand → is_full_at kept kind stand ≡ false → depth_at kept stand ≡ depth_under batch under
depth_is apart batch kept kind under Root is stand good = rw stand (ap (λ (n : ℕ). 1 + n) (sym (levels_none (reverse batch))))
depth_is apart batch kept kind under (Under i) is stand good =
    rw (stand.under_is, stand.mark no_mark) (sym (depth_of_child batch stand.number stand.parent is.rising is.tidy stand.found))
depth_is apart batch kept kind under Lost is stand good = let no : ⊥ = cc in absurd no
