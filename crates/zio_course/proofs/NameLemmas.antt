-- Look-ups by name and by number.
use Rattle.std.proofs.Common.{◌≡◌, ℕ, ◌-◌, ◌≤◌, List, [], ◌∷◌, ◌++◌, length, map, take, drop, replicate, bytes_eq, eqb, ◌&&◌, ◌||◌, Bool, true, false, Option, Some, None, refl, sym, ap, ◌∙◌}
use Rattle.std.proofs.Math.Seq.{take-append_seam}
use Rattle.std.proofs.lemmas.Bool.Decides.{same_from_decides, Decides-and, Decides-like, Decides-eqb}
use Rattle.std.proofs.lemmas.List.{drop-replicate}
use Rattle.std.proofs.lemmas.Slice.Eq.{bytes_eq-Decides}
use Rattle.std.specs.Int.{from_be_bytes, w128}
use Rattle.std.specs.List.{AllByRecursion, IsDistinct, list_any}
use Rattle.std.specs.Map.{lookup}
use Rattle.std.specs.Prelude.{cond}
use Rattle.zio_types.specs.Filled.{filled_to}
use Rattle.zio_gang.specs.declared.bound.Bound.{Bound}
use Rattle.zio_gang.specs.declared.tree.Tree.{Tree}
use Rattle.zio_course.specs.Names.{byte_order, is_name_in, listed_in, named_in, pairs_of}

-- names are equal where their lengths and their filled characters are
abbrev pub are_same : List ℕ → List ℕ → Bool
are_same xs ys = eqb (length xs) (length ys) && bytes_eq (filled_to 0 16 xs) (filled_to 0 16 ys)

from_filled : (xs ys : List ℕ) → (length xs ≡ length ys) × (filled_to 0 16 xs ≡ filled_to 0 16 ys) → xs ≡ ys
from_filled xs ys h =
    sym (take-append_seam xs (replicate (16 - length xs) 0)) ∙ ap (take (length xs)) h.1
    ∙ ap (λ n. take n (filled_to 0 16 ys)) h.0 ∙ take-append_seam ys (replicate (16 - length ys) 0)

pub same_name : (xs ys : List ℕ) → are_same xs ys ≡ bytes_eq xs ys
same_name xs ys =
    same_from_decides (are_same xs ys) (bytes_eq xs ys)
    (Decides-like (are_same xs ys) (from_filled xs ys) (λ e. (ap length e, ap (filled_to 0 16) e))
    (Decides-and (eqb (length xs) (length ys)) (bytes_eq (filled_to 0 16 xs) (filled_to 0 16 ys))
    (Decides-eqb (length xs) (length ys)) (bytes_eq-Decides (filled_to 0 16 xs) (filled_to 0 16 ys))))
    (bytes_eq-Decides xs ys)

pub same_back : (xs ys : List ℕ) → are_same xs ys ≡ bytes_eq ys xs
same_back xs ys =
    same_from_decides (are_same xs ys) (bytes_eq ys xs)
    (Decides-like (are_same xs ys) (λ h. sym (from_filled xs ys h)) (λ e. (ap length (sym e), ap (filled_to 0 16) (sym e)))
    (Decides-and (eqb (length xs) (length ys)) (bytes_eq (filled_to 0 16 xs) (filled_to 0 16 ys))
    (Decides-eqb (length xs) (length ys)) (bytes_eq-Decides (filled_to 0 16 xs) (filled_to 0 16 ys))))
    (bytes_eq-Decides ys xs)

-- a look-up finds the first entry of the name
pub named_is : {X : Type 0} (name : List ℕ) (entries : List (List ℕ × X)) → lookup (are_same name) entries ≡ named_in entries name
named_is name [] = refl
named_is name (e ∷ es) =
    ap (λ (b : Bool). cond b (Some e.1) (lookup (are_same name) es)) (same_back name e.0)
    ∙ ap (λ o. cond (bytes_eq e.0 name) (Some e.1) o) (named_is name es)

-- a value that is put at a name or taken out
pub named_with : {X : Type 0} (name other : List ℕ) (v : Option X) (old new : List (List ℕ × X))
    → lookup (are_same other) new ≡ cond (are_same name other) v (lookup (are_same other) old)
    → named_in new other ≡ cond (bytes_eq name other) v (named_in old other)
named_with name other v old new h =
    sym (named_is other new)
    ∙ (h ∙ (ap (λ (b : Bool). cond b v (lookup (are_same other) old)) (same_name name other)
    ∙ ap (λ o. cond (bytes_eq name other) v o) (named_is other old)))

-- the same of names without values
pub among_is : (name : List ℕ) (names : List (List ℕ)) → list_any (are_same name) names ≡ is_name_in names name
among_is name [] = refl
among_is name (n ∷ names) =
    ap (λ (b : Bool). b || list_any (are_same name) names) (same_back name n)
    ∙ ap (λ (b : Bool). bytes_eq n name || b) (among_is name names)

pub among_with : (name other : List ℕ) (old new : List (List ℕ))
    → list_any (are_same other) new ≡ cond (are_same name other) true (list_any (are_same other) old)
    → is_name_in new other ≡ cond (bytes_eq name other) true (is_name_in old other)
among_with name other old new h =
    sym (among_is other new)
    ∙ (h ∙ (ap (λ (b : Bool). cond b true (list_any (are_same other) old)) (same_name name other)
    ∙ ap (λ (b : Bool). cond (bytes_eq name other) true b) (among_is other old)))

-- ---- lists by number

abbrev pub list_or : {X : Type 0} → Option (List X) → List X
list_or None = []
list_or (Some xs) = xs

list_if : {X : Type 0} (b : Bool) (xs : List X) (o : Option (List X)) → cond b xs (list_or o) ≡ list_or (cond b (Some xs) o)
list_if true xs o = refl
list_if false xs o = refl

-- a look-up finds the first list of the number
pub listed_is : {X : Type 0} (n : ℕ) (entries : List (ℕ × List X)) → listed_in entries n ≡ list_or (lookup (eqb n) entries)
listed_is n [] = refl
listed_is n (e ∷ es) =
    ap (λ o. cond (eqb n e.0) e.1 o) (listed_is n es) ∙ list_if (eqb n e.0) e.1 (lookup (eqb n) es)

or_with : {X : Type 0} (b : Bool) (v o : Option (List X)) → list_or (cond b v o) ≡ cond b (list_or v) (list_or o)
or_with true v o = refl
or_with false v o = refl

-- a list that is put at a number or taken out
pub listed_with : {X : Type 0} (n other : ℕ) (v : Option (List X)) (old new : List (ℕ × List X))
    → lookup (eqb other) new ≡ cond (eqb n other) v (lookup (eqb other) old)
    → listed_in new other ≡ cond (eqb n other) (list_or v) (listed_in old other)
listed_with n other v old new h =
    listed_is other new
    ∙ (ap list_or h ∙ (or_with (eqb n other) v (lookup (eqb other) old)
    ∙ ap (λ o. cond (eqb n other) (list_or v) o) (sym (listed_is other old))))

pub taken_is : {X : Type 0} (n : ℕ) (entries : List (ℕ × List X)) (o v : Option (List X)) → o ≡ lookup (eqb n) entries → o ≡ v
    → list_or v ≡ listed_in entries n
taken_is n entries o v is at = ap list_or (sym at ∙ is) ∙ sym (listed_is n entries)

cond_twice : {X : Type 0} (b : Bool) (x y z : X) → cond b x (cond b y z) ≡ cond b x z
cond_twice true x y z = refl
cond_twice false x y z = refl

-- a list that was taken out and put back with one more
pub pushed_with : {X : Type 0} (n other : ℕ) (pushed : List X) (old mid new : List (ℕ × List X))
    → lookup (eqb other) new ≡ cond (eqb n other) (Some pushed) (lookup (eqb other) mid)
    → listed_in mid other ≡ cond (eqb n other) [] (listed_in old other)
    → listed_in new other ≡ cond (eqb n other) pushed (listed_in old other)
pushed_with n other pushed old mid new h left =
    listed_with n other (Some pushed) mid new h
    ∙ (ap (λ o. cond (eqb n other) pushed o) left ∙ cond_twice (eqb n other) pushed [] (listed_in old other))

-- ---- the order of names

-- a name in front of zeros
pub order_of : (name copied : List ℕ) → copied ≡ name → length name ≤ 16 → from_be_bytes w128 (copied ++ drop (length name) (replicate 16 0)) ≡ byte_order name
order_of name copied same fits =
    ap (λ (front : List ℕ). from_be_bytes w128 (front ++ drop (length name) (replicate 16 0))) same
    ∙ ap (λ (zeros : List ℕ). from_be_bytes w128 (name ++ zeros)) (drop-replicate (length name) 16 0)

none_same : (name : List ℕ) (names : List (List ℕ)) → AllByRecursion (λ other. are_same name other ≡ false) names → AllByRecursion (λ other. bytes_eq name other ≡ false) names
none_same name [] all = tt
none_same name (n ∷ names) all = (sym (same_name name n) ∙ all.0, none_same name names all.1)

-- no two names are the same
pub once_by_bytes : (names : List (List ℕ)) → IsDistinct are_same names → IsDistinct bytes_eq names
unfolding IsDistinct
once_by_bytes [] once = tt
once_by_bytes (n ∷ names) once = (none_same n names once.0, once_by_bytes names once.1)

-- the names of entries, without what they name
pub names_in : (blocks : List Bound) (entries : List (List ℕ × Tree)) → pairs_of blocks ≡ entries → map (λ (b : Bound). b.name) blocks ≡ map (λ (e : List ℕ × Tree). e.0) entries
names_in blocks entries is = names_alone blocks ∙ ap (map (λ (e : List ℕ × Tree). e.0)) is
  where
    names_alone : (bs : List Bound) → map (λ (b : Bound). b.name) bs ≡ map (λ (e : List ℕ × Tree). e.0) (pairs_of bs)
    names_alone [] = refl
    names_alone (b ∷ bs) = ap (λ (ns : List (List ℕ)). b.name ∷ ns) (names_alone bs)
