-- The pointers that a write's content begins with: how many they are, that they are valid, and that they stay once told.
use Rattle.std.proofs.Common.{◌≡◌, ℕ, zero, suc, ◌+◌, List, [], ◌∷◌, ◌++◌, length, map, reverse, Bool, true, false, ◌&&◌, nat_le, Option, Some, None, refl, sym, ap, subst, ◌∙◌, arith}
use Rattle.std.specs.List.{AllByRecursion, list_all}
use Rattle.std.proofs.lemmas.Bool.{false≢true}
use Rattle.std.proofs.lemmas.List.{length-map, length-reverse, map-append}
use Rattle.zio_types.specs.declared.error.Errno.{Errno}
use Rattle.zio_types.specs.declared.request.Bits.{Bits}
use Rattle.zio_blkptr.specs.declared.pointer.Bp.{Bp}
use Rattle.zio_gang.specs.Attempts.{Child, Return, children_of, insert_children}
use Rattle.zio_gang.specs.ByNumber.{insert_by, insert_if}
use Rattle.zio_children.specs.RequestKids.{IsOutWith, KidsUnderWay, bare_child, child_of, due_kids, fresh_kids, has_told, is_told, kid_handed, kid_is, pointer_by, pointers_of, return_by, returns_in, state_at, state_set}
use Rattle.zio_children.specs.declared.kept.KeptChild.{KeptChild}
use Rattle.zio_children.specs.declared.kids.Kid.{Kid}
use Rattle.zio_children.specs.declared.kids.KidState.{KidState}
use Rattle.zio_children.specs.declared.kids.KidState.TheVariants.{Due, Ended, Out, Told}
use Rattle.zio_children.proofs.KidReturns.{same_pointers}
use Rattle.zio_gang.specs.Pointers.{IsNoneOrValid}
use Rattle.zio_stages.specs.KidPointers.{HasToldValid, HasValid, HaveValidPointers}
use Rattle.zio_stages.specs.WrittenBlocks.{HaveAllTold}
use Rattle.zio_stages.proofs.ReverseLemmas.{all_reversed, reverse_first}

-- ---- children at their places

abbrev pub IsValidIn : Child → Type 0
IsValidIn c = IsNoneOrValid c.pointer

inserted_if : (b : Bool) (x y : Child) (ys zs : List Child) → IsValidIn x → AllByRecursion IsValidIn (y ∷ ys) → AllByRecursion IsValidIn zs
    → AllByRecursion IsValidIn (insert_if b x y ys zs)
inserted_if true x y ys zs p h k = (p, h)
inserted_if false x y ys zs p h k = (h.0, k)

inserted : (x : Child) (ys : List Child) → IsValidIn x → AllByRecursion IsValidIn ys → AllByRecursion IsValidIn (insert_by (λ (c : Child). c.number) x ys)
inserted x [] p h = (p, tt)
inserted x (y ∷ ys) p h = inserted_if (nat_le x.number y.number) x y ys (insert_by (λ (c : Child). c.number) x ys) p h (inserted x ys p h.1)

pub merged_valid : (new kept : List Child) → AllByRecursion IsValidIn new → AllByRecursion IsValidIn kept → AllByRecursion IsValidIn (insert_children new kept)
merged_valid [] kept h k = k
merged_valid (x ∷ new) kept h k = inserted x (insert_children new kept) h.0 (merged_valid new kept h.1 k)

pointers_valid : (cs : List Child) → AllByRecursion IsValidIn cs → AllByRecursion IsNoneOrValid (map (λ (c : Child). c.pointer) cs)
pointers_valid [] h = tt
pointers_valid (c ∷ cs) h = (h.0, pointers_valid cs h.1)

abbrev pub IsValidReturn : Return → Type 0
IsValidReturn r = IsValidIn r.child

pub children_valid : (rs : List Return) → AllByRecursion IsValidReturn rs → AllByRecursion IsValidIn (children_of rs)
children_valid [] h = tt
children_valid (r ∷ rs) h = (h.0, children_valid rs h.1)

pub returns_valid : (kids : List Kid) → AllByRecursion HasToldValid kids → AllByRecursion IsValidReturn (map return_by kids)
returns_valid [] h = tt
returns_valid (k ∷ kids) h = (h.0, returns_valid kids h.1)

pub kept_valid : (kept : List KeptChild) → AllByRecursion HasValid kept → AllByRecursion IsValidIn (map child_of kept)
kept_valid [] h = tt
kept_valid (k ∷ kept) h = (h.0, kept_valid kept h.1)

-- all pointers are none or valid
pub valid_pointers : (x : KidsUnderWay) → HaveValidPointers x → AllByRecursion IsNoneOrValid (pointers_of x)
valid_pointers x h =
    pointers_valid (insert_children (children_of (returns_in x)) (map child_of x.kept))
    (merged_valid (children_of (returns_in x)) (map child_of x.kept)
    (children_valid (returns_in x) (all_reversed IsValidReturn (map return_by x.kids) (returns_valid x.kids h.told)))
    (kept_valid x.kept h.kept))

-- ---- how many they are

count_inserted_if : (b : Bool) (x y : Child) (ys zs : List Child) → length zs ≡ length (x ∷ ys) → length (insert_if b x y ys zs) ≡ length (x ∷ y ∷ ys)
count_inserted_if true x y ys zs e = refl
count_inserted_if false x y ys zs e = ap suc e

count_inserted : (x : Child) (ys : List Child) → length (insert_by (λ (c : Child). c.number) x ys) ≡ length (x ∷ ys)
count_inserted x [] = refl
count_inserted x (y ∷ ys) = count_inserted_if (nat_le x.number y.number) x y ys (insert_by (λ (c : Child). c.number) x ys) (count_inserted x ys)

count_merged : (new kept : List Child) → length (insert_children new kept) ≡ length new + length kept
count_merged [] kept = omega arith
count_merged (x ∷ new) kept = count_inserted x (insert_children new kept) ∙ (let e = count_merged new kept in omega arith)

-- one for each child
pub count_pointers : (x : KidsUnderWay) → length (pointers_of x) ≡ length x.kids + length x.kept
count_pointers x =
    length-map (insert_children (children_of (returns_in x)) (map child_of x.kept)) (λ (c : Child). c.pointer)
    ∙ count_merged (children_of (returns_in x)) (map child_of x.kept)
    ∙ ap (λ n. n + length (map child_of x.kept))
    (length-map (returns_in x) (λ (r : Return). r.child) ∙ length-reverse (map return_by x.kids) ∙ length-map x.kids return_by)
    ∙ ap (λ n. length x.kids + n) (length-map x.kept child_of)

-- ---- they stay once each child told

abbrev told_child : ℕ → Option Bp → Child
told_child number pointer = record { number = number; error = None; pointer = pointer }

abbrev bare_kid : Kid → Child
bare_kid k = told_child k.number (pointer_by k.state)

told_same : (state : KidState) (bits : Bits) (error : Option Errno) (pointer : Option Bp) (rest : Bool) → has_told state && rest ≡ true
    → IsOutWith pointer (Some state) → pointer_by (Ended bits error pointer) ≡ pointer_by state
told_same Due bits error pointer rest told out = absurd out
told_same Out bits error pointer rest told out = absurd (false≢true told)
told_same (Told p) bits error pointer rest told out = sym out
told_same (Ended b e p) bits error pointer rest told out = absurd out

first_true : (a b : Bool) → a && b ≡ true → a ≡ true
first_true true b h = refl
first_true false b h = absurd (false≢true h)

second_true : (a b : Bool) → a && b ≡ true → b ≡ true
second_true true b h = h
second_true false b h = absurd (false≢true h)

bare_stays : (kids : List Kid) (n : ℕ) (bits : Bits) (error : Option Errno) (pointer : Option Bp) → list_all is_told kids ≡ true
    → IsOutWith pointer (state_at kids n) → map bare_kid (state_set kids n (Ended bits error pointer)) ≡ map bare_kid kids
bare_stays [] n bits error pointer told out = refl
bare_stays (k ∷ kids) zero bits error pointer told out =
    ap (λ (p : Option Bp). told_child k.number p ∷ map bare_kid kids)
    (told_same k.state bits error pointer (list_all is_told kids) told out)
bare_stays (k ∷ kids) (suc n) bits error pointer told out =
    ap (λ (cs : List Child). bare_kid k ∷ cs)
    (bare_stays kids n bits error pointer (second_true (is_told k) (list_all is_told kids) told) out)

map_reversed : {X Y : Type 0} (f : X → Y) (xs : List X) → map f (reverse xs) ≡ reverse (map f xs)
map_reversed f [] = refl
map_reversed f (x ∷ xs) =
    ap (map f) (reverse_first x xs) ∙ map-append f (reverse xs) (x ∷ []) ∙ ap (λ ys. ys ++ f x ∷ []) (map_reversed f xs)
    ∙ sym (reverse_first (f x) (map f xs))

bare_returns : (kids : List Kid) → map bare_child (children_of (map return_by kids)) ≡ map bare_kid kids
bare_returns [] = refl
bare_returns (k ∷ kids) = ap (λ (cs : List Child). bare_kid k ∷ cs) (bare_returns kids)

bare_in : (kids : List Kid) → map bare_child (children_of (reverse (map return_by kids))) ≡ reverse (map bare_kid kids)
bare_in kids =
    ap (map bare_child) (map_reversed (λ (r : Return). r.child) (map return_by kids))
    ∙ map_reversed bare_child (children_of (map return_by kids))
    ∙ ap reverse (bare_returns kids)

-- what its own work takes of them is settled then
pub pointers_stay : (x : KidsUnderWay) (n : ℕ) (bits : Bits) (error : Option Errno) (pointer : Option Bp) → list_all is_told x.kids ≡ true
    → IsOutWith pointer (state_at x.kids n) → pointers_of (kid_is x n (Ended bits error pointer)) ≡ pointers_of x
pointers_stay x n bits error pointer told out =
    same_pointers (children_of (returns_in (kid_is x n (Ended bits error pointer)))) (children_of (returns_in x)) (map child_of x.kept)
    (bare_in (state_set x.kids n (Ended bits error pointer)) ∙ ap reverse (bare_stays x.kids n bits error pointer told out) ∙ sym (bare_in x.kids))

-- a child that is out hasn't told
out_untold : (s : KidState) → has_told s ≡ true → s ≡ Out → ⊥
out_untold s told out = false≢true (sym (ap has_told out) ∙ told)

not_out : (kids : List Kid) (n : ℕ) → list_all is_told kids ≡ true → state_at kids n ≡ Some Out → ⊥
not_out [] n told e = absurd (cc)
not_out (k ∷ kids) zero told e =
    let out : k.state ≡ Out = cc in out_untold k.state (first_true (is_told k) (list_all is_told kids) told) out
not_out (k ∷ kids) (suc n) told e = not_out kids n (second_true (is_told k) (list_all is_told kids) told) e

pub none_out : (x : KidsUnderWay) (n : ℕ) → HaveAllTold x → state_at x.kids n ≡ Some Out → ⊥
none_out x n h e = not_out x.kids n h.told e

told_set : (kids : List Kid) (n : ℕ) (bits : Bits) (error : Option Errno) (pointer : Option Bp) → list_all is_told kids ≡ true
    → list_all is_told (state_set kids n (Ended bits error pointer)) ≡ true
told_set [] n bits error pointer h = h
told_set (k ∷ kids) zero bits error pointer h = second_true (is_told k) (list_all is_told kids) h
told_set (k ∷ kids) (suc n) bits error pointer h =
    ap (λ (b : Bool). b && list_all is_told (state_set kids n (Ended bits error pointer))) (first_true (is_told k) (list_all is_told kids) h)
    ∙ told_set kids n bits error pointer (second_true (is_told k) (list_all is_told kids) h)

length_set : (kids : List Kid) (n : ℕ) (state : KidState) → length (state_set kids n state) ≡ length kids
length_set [] n state = refl
length_set (k ∷ kids) zero state = refl
length_set (k ∷ kids) (suc n) state = ap suc (length_set kids n state)

-- one ends, and what they all told stays
pub told_still : (x : KidsUnderWay) (n : ℕ) (bits : Bits) (error : Option Errno) (pointer : Option Bp) → HaveAllTold x
    → IsOutWith pointer (state_at x.kids n)
    → HaveAllTold (kid_is x n (Ended bits error pointer)) × (pointers_of (kid_is x n (Ended bits error pointer)) ≡ pointers_of x)
told_still x n bits error pointer h out = (
  record { all = h.all ∙ sym (length_set x.kids n (Ended bits error pointer)); told = told_set x.kids n bits error pointer h.told },
  pointers_stay x n bits error pointer h.told out,
)

-- ---- what is told is valid

valid_set : (kids : List Kid) (n : ℕ) (state : KidState) → AllByRecursion HasToldValid kids → IsNoneOrValid (pointer_by state)
    → AllByRecursion HasToldValid (state_set kids n state)
valid_set [] n state h p = tt
valid_set (k ∷ kids) zero state h p = (p, h.1)
valid_set (k ∷ kids) (suc n) state h p = (h.0, valid_set kids n state h.1 p)

pub valid_then : (x : KidsUnderWay) (n : ℕ) (state : KidState) → HaveValidPointers x → IsNoneOrValid (pointer_by state) → HaveValidPointers (kid_is x n state)
valid_then x n state h p = record { told = valid_set x.kids n state h.told p; kept = h.kept }

pub valid_handed : (x : KidsUnderWay) → HaveValidPointers x → HaveValidPointers (kid_handed x)
valid_handed x h = record { told = valid_set x.kids x.handed Out h.told tt; kept = h.kept }

due_valid : (numbers : List ℕ) → AllByRecursion HasToldValid (due_kids numbers)
due_valid [] = tt
due_valid (n ∷ numbers) = (tt, due_valid numbers)

pub valid_fresh : (numbers : List ℕ) (kept : List KeptChild) → AllByRecursion HasValid kept → HaveValidPointers (fresh_kids numbers kept)
valid_fresh numbers kept h = record { told = due_valid numbers; kept = h }

-- what a child told is valid
pub valid_at : (kids : List Kid) (n : ℕ) (state : KidState) → AllByRecursion HasToldValid kids → state_at kids n ≡ Some state
    → IsNoneOrValid (pointer_by state)
valid_at [] n state h e = absurd (cc)
valid_at (k ∷ kids) zero state h e = let same : k.state ≡ state = cc in subst (λ s. IsNoneOrValid (pointer_by s)) same h.0
valid_at (k ∷ kids) (suc n) state h e = valid_at kids n state h.1 e
