-- The marks of a batch with one more request.
use Rattle.std.proofs.Common.{◌≡◌, ◌≢◌, ◌<◌, ◌+◌, ℕ, zero, suc, List, [], ◌∷◌, ◌++◌, length, map, reverse, refl, sym, ap, ◌∙◌, subst, Bool, true, false, cond, ◌&&◌, ◌==◌, Option, Some, None, slice_index_or, slice_set, arith}
use Rattle.std.proofs.lemmas.Bool.{eqb-true, ne_eqb}
use Rattle.std.proofs.lemmas.Bool.Decides.{nat_tests}
use Rattle.std.proofs.lemmas.List.{reverse-append}
use Rattle.std.proofs.lemmas.List.Sums.{fold-append}
use Rattle.std.specs.Prelude.{count_by, find}
use Rattle.std.specs.List.{AllByRecursion}
use Rattle.zio_types.specs.declared.request.Kind.{Kind}
use Rattle.zio_script.specs.declared.open_batch.RequestMark.{RequestMark}
use Rattle.zio_script.specs.declared.script.Request.{Request}
use Rattle.zio_script.specs.Accepted.{AreBehindParents, AreRising}
use Rattle.zio_script.specs.OpenBatches.{AreTidy, mark_in, no_mark, with_child}
use Rattle.zio_script.specs.Requests.{is_under, is_under_number, kind_of}
use Rattle.zio_script.specs.Whys.{children_in, depth_under, is_write, levels, parent_in, writes_under}
use Rattle.zio_script.proofs.AcceptedLemmas.{all_as, not_under}
use Rattle.zio_script.proofs.ListLemmas.{all_more}
use Rattle.zio_script.proofs.OpenBatchLemmas.{all_at}

-- ---- no request stands under a later one

-- the request stands under no request of this number
abbrev pub NotUnder : ℕ → Request → Type 0
NotUnder n q = is_under_number q.under n ≡ false

none_under_from : (before batch : List Request) (n : ℕ) → AreBehindParents before batch → AllByRecursion (λ (q : Request). q.number < n) before
    → AllByRecursion (λ (q : Request). q.number < n) batch → AllByRecursion (NotUnder n) batch
none_under_from before [] n behind low lows = tt
none_under_from before (q ∷ batch) n behind low lows = (
  not_under (kind_of q.work) q.under before n behind.0 low,
  none_under_from (before ++ q ∷ []) batch n behind.1 (all_more (λ (r : Request). r.number < n) before q low lows.0) lows.1,
)

pub none_under_later : (batch : List Request) (n : ℕ) → AreBehindParents [] batch → AllByRecursion (λ (q : Request). q.number < n) batch
    → AllByRecursion (NotUnder n) batch
none_under_later batch n behind low = none_under_from [] batch n behind tt low

-- ---- what holds of all holds of all in the other order

all_append : {X : Type 0} (P : X → Type 0) (xs ys : List X) → AllByRecursion P xs → AllByRecursion P ys → AllByRecursion P (xs ++ ys)
all_append P [] ys all more = more
all_append P (x ∷ xs) ys all more = (all.0, all_append P xs ys all.1 more)

all_reverse : {X : Type 0} (P : X → Type 0) (xs : List X) → AllByRecursion P xs → AllByRecursion P (reverse xs)
all_reverse P [] all = tt
all_reverse P (x ∷ xs) all =
    subst (λ ys. AllByRecursion P ys) (sym (reverse-append (x ∷ []) xs)) (all_append P (reverse xs) (x ∷ []) (all_reverse P xs all.1) (all.0, tt))

pub tidy_more : (batch : List Request) (r : Request) → AreTidy (reverse batch) → AreBehindParents [] batch → AllByRecursion (λ (q : Request). q.number < r.number) batch
    → is_under_number r.under r.number ≡ false → AreTidy (reverse (batch ++ r ∷ []))
tidy_more batch r tidy behind low own =
    subst AreTidy (sym (reverse-append batch (r ∷ []))) (
      own,
      all_reverse (NotUnder r.number) batch (none_under_later batch r.number behind low),
      all_reverse (λ (q : Request). q.number < r.number) batch low,
      tidy,
    )

-- ---- depths

levels_past : (r : Request) (rs : List Request) (under : Option ℕ) → is_under_number under r.number ≡ false → levels (r ∷ rs) under ≡ levels rs under
levels_past r rs under past = rw past refl

levels_of_none : (rs : List Request) → levels rs None ≡ zero
levels_of_none [] = refl
levels_of_none (r ∷ rs) = levels_of_none rs

found_one : {X : Type 0} (P : X → Type 0) (test : X → Bool) (xs : List X) (x : X) → AllByRecursion P xs → find test xs ≡ Some x → P x
found_one P test [] x all found = let no : ⊥ = cc in absurd no
found_one {X} P test (y ∷ xs) x all found = by_test (test y) found (found_one P test xs x all.1)
  where
    by_test : (is : Bool) → cond is (Some y) (find test xs) ≡ Some x → (find test xs ≡ Some x → P x) → P x
    by_test true here rest = let same : y ≡ x = cc in subst P same all.0
    by_test false there rest = rest there

pub eqb_sym : (a b : ℕ) (is : Bool) → (a == b) ≡ is → (b == a) ≡ is
eqb_sym a b true same = grind (arith, nat_tests)
eqb_sym a b false other = grind (arith, nat_tests)

-- one level more than the parent's own
levels_by : (r : Request) (rs : List Request) (p : ℕ) (parent : Request) (is : Bool) → (r.number == p) ≡ is → AreTidy (r ∷ rs)
    → cond is (Some r) (find (λ (q : Request). q.number == p) rs) ≡ Some parent
    → (find (λ (q : Request). q.number == p) rs ≡ Some parent → levels rs (Some p) ≡ suc (levels rs parent.under))
    → levels (r ∷ rs) (Some p) ≡ suc (levels (r ∷ rs) parent.under)
levels_by r rs p parent true same tidy found rest =
    let is : r ≡ parent = cc in
    let here : (p == r.number) ≡ true = eqb_sym r.number p true same in
    let up : levels (r ∷ rs) (Some p) ≡ suc (levels rs r.under) = rw here refl in
    up ∙ ap suc (sym (levels_past r rs r.under tidy.0)) ∙ ap (λ (q : Request). suc (levels (r ∷ rs) q.under)) is
levels_by r rs p parent false other tidy found rest =
    let here : (p == r.number) ≡ false = eqb_sym r.number p false other in
    let past : is_under_number parent.under r.number ≡ false
    = found_one (NotUnder r.number) (λ (q : Request). q.number == p) rs parent tidy.1 found in
    levels_past r rs (Some p) here ∙ rest found ∙ ap suc (sym (levels_past r rs parent.under past))

pub parent_levels : (rs : List Request) (p : ℕ) (parent : Request) → AreTidy rs → find (λ (r : Request). r.number == p) rs ≡ Some parent
    → levels rs (Some p) ≡ suc (levels rs parent.under)
parent_levels [] p parent tidy found = let no : ⊥ = cc in absurd no
parent_levels (r ∷ rs) p parent tidy found =
    levels_by r rs p parent (r.number == p) refl tidy found (λ there. parent_levels rs p parent tidy.3 there)

-- ---- the request of a number, in the other order

-- each has a number of its own, where they rise
find_append_by : (xs ys : List Request) (p : ℕ) (parent : Request) → find (λ (q : Request). q.number == p) xs ≡ Some parent
    → find (λ (q : Request). q.number == p) (xs ++ ys) ≡ Some parent
find_append_by [] ys p parent found = let no : ⊥ = cc in absurd no
find_append_by (x ∷ xs) ys p parent found = by_test (x.number == p) found (find_append_by xs ys p parent)
  where
    by_test : (is : Bool) → cond is (Some x) (find (λ (q : Request). q.number == p) xs) ≡ Some parent
        → (find (λ (q : Request). q.number == p) xs ≡ Some parent → find (λ (q : Request). q.number == p) (xs ++ ys) ≡ Some parent)
        → cond is (Some x) (find (λ (q : Request). q.number == p) (xs ++ ys)) ≡ Some parent
    by_test true here rest = here
    by_test false there rest = rest there

find_last : (xs : List Request) (r : Request) (p : ℕ) → AllByRecursion (λ (q : Request). q.number ≢ p) xs → r.number ≡ p
    → find (λ (q : Request). q.number == p) (xs ++ r ∷ []) ≡ Some r
find_last [] r p none is = let same : (r.number == p) ≡ true = grind (arith, nat_tests) in rw same refl
find_last (x ∷ xs) r p none is = let other : (x.number == p) ≡ false = ne_eqb x.number p none.0 in rw other (find_last xs r p none.1 is)

-- the numbers above this one aren't it
all_above : (rs : List Request) (n p : ℕ) → AllByRecursion (λ (q : Request). n < q.number) rs → n ≡ p → AllByRecursion (λ (q : Request). q.number ≢ p) (reverse rs)
all_above rs n p above is =
    all_reverse (λ (q : Request). q.number ≢ p) rs
    (all_as (λ (q : Request). n < q.number) (λ (q : Request). q.number ≢ p) rs (λ q low same. let low_is : n < q.number = low in omega (arith, low_is, same, is)) above)

pub find_reversed : (rs : List Request) (p : ℕ) (parent : Request) → AreRising rs → find (λ (q : Request). q.number == p) rs ≡ Some parent
    → find (λ (q : Request). q.number == p) (reverse rs) ≡ Some parent
find_reversed [] p parent rising found = let no : ⊥ = cc in absurd no
find_reversed (r ∷ rs) p parent rising found =
    subst (λ qs. find (λ (q : Request). q.number == p) qs ≡ Some parent) (sym (reverse-append (r ∷ []) rs))
    (by_test (r.number == p) refl found (find_reversed rs p parent rising.1))
  where
    by_test : (is : Bool) → (r.number == p) ≡ is → cond is (Some r) (find (λ (q : Request). q.number == p) rs) ≡ Some parent
        → (find (λ (q : Request). q.number == p) rs ≡ Some parent → find (λ (q : Request). q.number == p) (reverse rs) ≡ Some parent)
        → find (λ (q : Request). q.number == p) (reverse rs ++ r ∷ []) ≡ Some parent
    by_test true same here rest =
        let is : r.number ≡ p = eqb-true r.number p same in
        find_last (reverse rs) r p (all_above rs r.number p rising.0 is) is ∙ here
    by_test false other there rest = find_append_by (reverse rs) (r ∷ []) p parent (rest there)

pub depth_of_child : (batch : List Request) (p : ℕ) (parent : Request) → AreRising batch → AreTidy (reverse batch) → parent_in batch (Some p) ≡ Some parent
    → depth_under batch (Some p) ≡ depth_under batch parent.under + 1
depth_of_child batch p parent rising tidy found =
    let up : levels (reverse batch) (Some p) ≡ suc (levels (reverse batch) parent.under)
    = parent_levels (reverse batch) p parent tidy (find_reversed batch p parent rising found) in
    omega arith

-- ---- the marks of the others

-- a mark with one more request in the batch
abbrev pub with_new : Request → RequestMark → RequestMark
with_new r mark = cond (is_under_number r.under mark.number) (with_child (kind_of r.work) mark) mark

pub count_more : (test : Request → Bool) (batch : List Request) (r : Request) → count_by test (batch ++ r ∷ []) ≡ count_by test batch + cond (test r) 1 0
count_more test batch r = fold-append (λ n q. n + cond (test q) 1 0) 0 batch (r ∷ [])

pub depth_stays : (batch : List Request) (r : Request) (under : Option ℕ) → is_under_number under r.number ≡ false → depth_under (batch ++ r ∷ []) under ≡ depth_under batch under
depth_stays batch r under past =
    ap (λ (rs : List Request). 1 + levels rs under) (reverse-append batch (r ∷ []))
    ∙ ap (λ (n : ℕ). 1 + n) (levels_past r (reverse batch) under past)

mark_by : (under write : Bool) (kind : Kind) (mark : RequestMark) (depth children writes : ℕ) → is_write kind ≡ write → depth ≡ mark.depth
    → children ≡ mark.children + cond under 1 0 → writes ≡ mark.writes + cond (under && write) 1 0
    → ◌≡◌ {A = RequestMark} (record mark { depth = depth; children = children; writes = writes }) (cond under (with_child kind mark) mark)
mark_by true write kind mark depth children writes kind_is depth_is children_is writes_is = rw (kind_is, depth_is, children_is, writes_is) refl
mark_by false write kind mark depth children writes kind_is depth_is children_is writes_is =
    let same_children : children ≡ mark.children = omega arith in
    let same_writes : writes ≡ mark.writes = omega arith in
    rw (depth_is, same_children, same_writes) refl

mark_more : (batch : List Request) (r q : Request) → NotUnder r.number q → mark_in (batch ++ r ∷ []) q ≡ with_new r (mark_in batch q)
mark_more batch r q past =
    mark_by (is_under_number r.under q.number) (is_write (kind_of r.work)) (kind_of r.work) (mark_in batch q)
    (depth_under (batch ++ r ∷ []) q.under) (children_in (batch ++ r ∷ []) q.number) (writes_under (batch ++ r ∷ []) q.number)
    refl (depth_stays batch r q.under past)
    (count_more (λ (p : Request). is_under p q.number) batch r)
    (count_more (λ (p : Request). is_under p q.number && is_write (kind_of p.work)) batch r)

pub marks_more : (batch rs : List Request) (r : Request) → AllByRecursion (NotUnder r.number) rs → map (mark_in (batch ++ r ∷ [])) rs ≡ map (λ q. with_new r (mark_in batch q)) rs
marks_more batch [] r past = refl
marks_more batch (q ∷ rs) r past = rw (mark_more batch r q past.0, marks_more batch rs r past.1) refl

-- ---- which of the others changes

pub marks_same : (f : Request → RequestMark) (rs : List Request) (r : Request) → ((q : Request) → (f q).number ≡ q.number)
    → AllByRecursion (λ (q : Request). is_under_number r.under q.number ≡ false) rs → map (λ q. with_new r (f q)) rs ≡ map f rs
marks_same f [] r same other = refl
marks_same f (q ∷ rs) r same other =
    let here : is_under_number r.under (f q).number ≡ false = rw (same q) other.0 in
    rw (here, marks_same f rs r same other.1) refl

not_under_by : (r : Request) (p : ℕ) (rs : List Request) → r.under ≡ Some p → AllByRecursion (λ (q : Request). p < q.number) rs
    → AllByRecursion (λ (q : Request). is_under_number r.under q.number ≡ false) rs
not_under_by r p [] is above = tt
not_under_by r p (q ∷ rs) is above =
    let low : p < q.number = above.0 in
    let other : (p == q.number) ≡ false = ne_eqb p q.number (omega arith) in
    (rw is other, not_under_by r p rs is above.1)

pub marks_set : (f : Request → RequestMark) (rs : List Request) (i p : ℕ) (r : Request) → ((q : Request) → (f q).number ≡ q.number) → AreRising rs → r.under ≡ Some p
    → i < length rs → ((d : Request) → (slice_index_or rs i d).number ≡ p)
    → map (λ q. with_new r (f q)) rs ≡ slice_set (map f rs) i (with_child (kind_of r.work) (slice_index_or (map f rs) i no_mark))
marks_set f [] i p r same rising is within there = absurd (omega arith)
marks_set f (q ∷ rs) zero p r same rising is within there =
    let number : q.number ≡ p = there q in
    let here : (p == (f q).number) ≡ true = rw (same q) (grind (arith, nat_tests)) in
    let above : AllByRecursion (λ (s : Request). p < s.number) rs = subst (λ n. AllByRecursion (λ (s : Request). n < s.number) rs) number rising.0 in
    let rest : map (λ s. with_new r (f s)) rs ≡ map f rs = marks_same f rs r same (not_under_by r p rs is above) in
    rw (rest, is, here) refl
marks_set f (q ∷ rs) (suc i) p r same rising is within there =
    let number : (slice_index_or rs i q).number ≡ p = there q in
    let above : q.number < (slice_index_or rs i q).number = all_at (λ (s : Request). q.number < s.number) rs i q rising.0 (omega arith) in
    let here : (p == (f q).number) ≡ false = rw (same q) (ne_eqb p q.number (omega arith)) in
    let rest = marks_set f rs i p r same rising.1 is (omega arith) there in
    rw (rest, is, here) refl
