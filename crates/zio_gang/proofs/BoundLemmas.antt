-- The bound names are a map.
use Rattle.std.proofs.Common.{◌≡◌, ◌≢◌, ℕ, List, [], ◌∷◌, Bool, true, false, cond, not, find, Some, None, option_map, bytes_eq, refl, sym, ap, ◌∙◌}
use Rattle.std.proofs.lemmas.Slice.Eq.{bytes_eq-Decides}
use Rattle.std.proofs.lemmas.Bool.{false_from_ne_true}
use Rattle.zio_gang.specs.declared.tree.Tree.{Tree}
use Rattle.std.specs.List.{AllByRecursion}
use Rattle.zio_gang.specs.Rounds.{Binding, Bound, NamesOnce, bind, unbind, block_of, is_of}

bytes_eq-same : (name : List ℕ) → bytes_eq name name ≡ true
bytes_eq-same name = (bytes_eq-Decides name name).1 refl

bytes_eq-other : (a b : List ℕ) → a ≢ b → bytes_eq a b ≡ false
bytes_eq-other a b h = false_from_ne_true (bytes_eq a b) (λ e. h ((bytes_eq-Decides a b).0 e))

find-unbind : (name : List ℕ) (bound : Bound) → find (is_of name) (unbind name bound) ≡ None
find-unbind name [] = refl
find-unbind name (b ∷ bound) = go (is_of name b) refl (find-unbind name bound)
  where
    go : (t : Bool) → is_of name b ≡ t → find (is_of name) (unbind name bound) ≡ None →
        find (is_of name) (cond (not t) (b ∷ unbind name bound) (unbind name bound)) ≡ None
    go true e later = later
    go false e later = rw e later

find-unbind-other : (name other : List ℕ) (bound : Bound) → other ≢ name → find (is_of other) (unbind name bound) ≡ find (is_of other) bound
find-unbind-other name other [] h = refl
find-unbind-other name other (b ∷ bound) h = go (is_of name b) refl (find-unbind-other name other bound h)
  where
    go : (t : Bool) → is_of name b ≡ t → find (is_of other) (unbind name bound) ≡ find (is_of other) bound →
        find (is_of other) (cond (not t) (b ∷ unbind name bound) (unbind name bound)) ≡ cond (is_of other b) (Some b) (find (is_of other) bound)
    go true e later =
        let same : b.name ≡ name = (bytes_eq-Decides b.name name).0 e in
        let differs : is_of other b ≡ false = bytes_eq-other b.name other (λ is. h (sym is ∙ same)) in
        rw differs later
    go false e later = ap (cond (is_of other b) (Some b)) later

pub block_of-unbind : (name : List ℕ) (bound : Bound) → block_of (unbind name bound) name ≡ None
block_of-unbind name bound = ap (option_map (λ (b : Binding). b.tree)) (find-unbind name bound)

pub block_of-unbind-other : (name other : List ℕ) (bound : Bound) → other ≢ name → block_of (unbind name bound) other ≡ block_of bound other
block_of-unbind-other name other bound h = ap (option_map (λ (b : Binding). b.tree)) (find-unbind-other name other bound h)

pub block_of-bind : (name : List ℕ) (tree : Tree) (bound : Bound) → block_of (bind name tree bound) name ≡ Some tree
block_of-bind name tree bound = rw (bytes_eq-same name) refl

pub block_of-bind-other : (name other : List ℕ) (tree : Tree) (bound : Bound) → other ≢ name → block_of (bind name tree bound) other ≡ block_of bound other
block_of-bind-other name other tree bound h =
    let differs : bytes_eq name other ≡ false = bytes_eq-other name other (λ same. h (sym same)) in
    rw differs (block_of-unbind-other name other bound h)

-- ---- no name stands twice

-- what holds of all holds of those that are left
kept-unbind : (P : Binding → Type 0) (name : List ℕ) (bound : Bound) → AllByRecursion P bound → AllByRecursion P (unbind name bound)
kept-unbind P name [] h = tt
kept-unbind P name (b ∷ bound) h = go (is_of name b) (kept-unbind P name bound h.1)
  where
    go : (t : Bool) → AllByRecursion P (unbind name bound) → AllByRecursion P (cond (not t) (b ∷ unbind name bound) (unbind name bound))
    go true rest = rest
    go false rest = (h.0, rest)

pub NamesOnce-unbind : (name : List ℕ) (bound : Bound) → NamesOnce bound → NamesOnce (unbind name bound)
NamesOnce-unbind name [] h = tt
NamesOnce-unbind name (b ∷ bound) h = go (is_of name b) (NamesOnce-unbind name bound h.1)
  where
    go : (t : Bool) → NamesOnce (unbind name bound) → NamesOnce (cond (not t) (b ∷ unbind name bound) (unbind name bound))
    go true later = later
    go false later = (kept-unbind (λ other. is_of b.name other ≡ false) name bound h.0, later)

-- none that is left has the name
others-unbind : (name : List ℕ) (bound : Bound) → AllByRecursion (λ other. is_of name other ≡ false) (unbind name bound)
others-unbind name [] = tt
others-unbind name (b ∷ bound) = go (is_of name b) refl (others-unbind name bound)
  where
    go : (t : Bool) → is_of name b ≡ t → AllByRecursion (λ other. is_of name other ≡ false) (unbind name bound) →
        AllByRecursion (λ other. is_of name other ≡ false) (cond (not t) (b ∷ unbind name bound) (unbind name bound))
    go true e later = later
    go false e later = (e, later)

pub NamesOnce-bind : (name : List ℕ) (tree : Tree) (bound : Bound) → NamesOnce bound → NamesOnce (bind name tree bound)
NamesOnce-bind name tree bound h = (others-unbind name bound, NamesOnce-unbind name bound h)
