-- A request none of whose children goes again: its attempt leaves nothing of them.
use Rattle.std.proofs.Common.{◌≡◌, ℕ, List, [], ◌∷◌, ◌++◌, map, reverse, Bool, true, false, ◌||◌, Option, Some, None, is_some, refl, sym, ap, ◌∙◌, subst}
use Rattle.std.specs.List.{AllByRecursion}
use Rattle.zio_types.specs.declared.request.Bits.{Bits}
use Rattle.zio_gang.specs.Attempts.{Return, bits_of, has_bits}
use Rattle.zio_trace.specs.Families.{Forest, NoTrees, TreeOf, flat}
use Rattle.zio_trace.specs.Tasks.{One, Task}
use Rattle.zio_children.specs.RequestKids.{FitKids, FitsState, bits_by, kids_by, return_by, returns_in}
use Rattle.zio_children.specs.declared.kids.Kid.{Kid}
use Rattle.zio_children.specs.declared.kids.KidState.{KidState}
use Rattle.zio_children.specs.declared.kids.KidState.TheVariants.{Due, Out, Told, Ended}
use Rattle.zio_frames.specs.Slots.{Slot}
use Rattle.zio_exchange.specs.declared.waiting.UnfinishedRequest.{UnfinishedRequest}
use Rattle.zio_exchange.specs.Wholes.{AreTrees, IsWhole}
use Rattle.zio_stages.specs.KidTrees.{AreLeft, IsKids, IsLeftIn, KidsHeld, trees_left}
use Rattle.zio_stages.proofs.AgainLemmas.{LeftBy, left_by}
use Rattle.zio_stages.proofs.ReverseLemmas.{reverse_first}

-- ---- bits

neither : (a b c d : Bool) → (a || b) || (c || d) ≡ false → (a || c ≡ false) × (b || d ≡ false)
neither false false false false e = (refl, refl)
neither true b c d e = absurd (cc)
neither false true c d e = absurd (cc)
neither false false true d e = absurd (cc)
neither false false false true e = absurd (cc)

no_bits_in : (r : Return) (rs : List Return) → has_bits (bits_of (r ∷ rs)) ≡ false
    → (has_bits r.bits ≡ false) × (has_bits (bits_of rs) ≡ false)
no_bits_in r rs e = neither r.bits.now (bits_of rs).now r.bits.suspend (bits_of rs).suspend e

no_bits_in_both : (rs qs : List Return) → has_bits (bits_of (rs ++ qs)) ≡ false
    → (has_bits (bits_of rs) ≡ false) × (has_bits (bits_of qs) ≡ false)
no_bits_in_both [] qs e = (refl, e)
no_bits_in_both (r ∷ rs) qs e =
    let one : (has_bits r.bits ≡ false) × (has_bits (bits_of (rs ++ qs)) ≡ false) = no_bits_in r (rs ++ qs) e in
    let more : (has_bits (bits_of rs) ≡ false) × (has_bits (bits_of qs) ≡ false) = no_bits_in_both rs qs one.1 in
    (joined_none r rs one.0 more.0, more.1)
  where
    or_none : (a b c d : Bool) → a || c ≡ false → b || d ≡ false → (a || b) || (c || d) ≡ false
    or_none false false false false e f = refl
    or_none true b c d e f = absurd (cc)
    or_none false b true d e f = absurd (cc)
    or_none false true false d e f = absurd (cc)
    or_none false false false true e f = absurd (cc)

    joined_none : (x : Return) (xs : List Return) → has_bits x.bits ≡ false → has_bits (bits_of xs) ≡ false
        → has_bits (bits_of (x ∷ xs)) ≡ false
    joined_none x xs a b = or_none x.bits.now (bits_of xs).now x.bits.suspend (bits_of xs).suspend a b

abbrev Finishes : Kid → Type 0
Finishes k = has_bits (bits_by k.state) ≡ false

all_finish : (kids : List Kid) → has_bits (bits_of (reverse (map return_by kids))) ≡ false → AllByRecursion Finishes kids
all_finish [] e = tt
all_finish (k ∷ kids) e =
    let both = no_bits_in_both (reverse (map return_by kids)) (return_by k ∷ [])
    (ap (λ (rs : List Return). has_bits (bits_of rs)) (sym (reverse_first (return_by k) (map return_by kids))) ∙ e) in
    ((no_bits_in (return_by k) [] both.1).0, all_finish kids both.0)

-- ---- what is left

none_if : (a : Option (List UnfinishedRequest)) → is_some a ≡ false → a ≡ None
none_if None e = refl
none_if (Some ws) e = absurd (cc)

none_heard : (number : ℕ) (state : KidState) (slot : Slot) (a : Option (List UnfinishedRequest)) → has_bits (bits_by state) ≡ false
    → FitsState number state slot → IsLeftIn a slot → a ≡ None
none_heard number Due slot a e f i = absurd f
none_heard number Out slot a e f i = subst (IsLeftIn a) f i
none_heard number (Told pointer) slot a e f i = subst (IsLeftIn a) f i
none_heard number (Ended bits error pointer) slot a e f i =
    let one : One = f.0 in
    let heard = subst (IsLeftIn a) f.1 i in
    none_if a (sym heard.0 ∙ ap (λ (b : Bits). has_bits b) f.2.same_bits ∙ e)

left_first : (a : Option (List UnfinishedRequest)) (again : List (Option (List UnfinishedRequest))) → a ≡ None → trees_left again ≡ []
    → trees_left (a ∷ again) ≡ []
left_first a again none rest = ap (λ (b : Option (List UnfinishedRequest)). trees_left (b ∷ again)) none ∙ rest

none_left : (kids : List Kid) (again : List (Option (List UnfinishedRequest))) (slots : List Slot) → AllByRecursion Finishes kids
    → FitKids kids slots → AreLeft again slots → trees_left again ≡ []
none_left kids [] slots all f h = refl
none_left [] (a ∷ again) [] all f h = left_first a again h.0 (none_left [] again [] all f h.1)
none_left (k ∷ kids) (a ∷ again) [] all f h = left_first a again h.0 (none_left kids again [] all.1 f.1 h.1)
none_left [] (a ∷ again) (s ∷ slots) all f h = absurd f
none_left (k ∷ kids) (a ∷ again) (s ∷ slots) all f h =
    left_first a again (none_heard k.number k.state s a all.0 f.0 h.0) (none_left kids again slots all.1 f.1 h.1)

no_trees : (f : Forest) → AreTrees [] f → f ≡ NoTrees
no_trees NoTrees h = refl
no_trees (TreeOf p kids others) h = absurd h

-- Where no child goes again, nothing is left of them, and the request's own attempt leaves nothing below it.
pub nothing_left : (x : KidsHeld) (attempt : ℕ) (forest : Forest) (asked : List Task) (slots : List Slot)
    → IsKids x attempt forest asked slots → has_bits (bits_of (returns_in x.kids)) ≡ false
    → ((kids_by slots).again ≡ []) × ((kids_by slots).left ≡ NoTrees)
nothing_left x attempt forest asked slots is e =
    let none : trees_left x.again ≡ [] = none_left x.kids.kids x.again slots (all_finish x.kids.kids e) is.fits is.left in
    let by : LeftBy x.again (kids_by slots) = left_by x.again slots is.left (subst (AllByRecursion IsWhole) (sym none) tt) in
    let left : (kids_by slots).left ≡ NoTrees =
    no_trees (kids_by slots).left (subst (λ (ts : List (List UnfinishedRequest)). AreTrees ts (kids_by slots).left) none by.are) in
    (by.list ∙ ap flat left, left)
