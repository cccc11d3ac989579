-- What is in flight in another order.
use Rattle.std.proofs.Common.{ℕ, zero, suc, ◌<◌, List, [], ◌∷◌, ◌++◌, length, get_or, set, IsPermutation, subst, arith, append_assoc}
use Rattle.std.specs.List.{flat_map}
use Rattle.std.proofs.slice.Lists.{hd, swap_is}
use Rattle.std.proofs.lemmas.List.Sorted.{IsPermutation-refl, IsPermutation-trans, IsPermutation-append_comm, IsPermutation-append_left, IsPermutation-append_right, IsPermutation-middle, IsPermutation-keeps}

pub swap_fronts : {X : Type 0} (xs ys zs : List X) → IsPermutation (xs ++ (ys ++ zs)) (ys ++ (xs ++ zs))
swap_fronts {X} xs ys zs =
    subst (λ (l : List X). IsPermutation l (ys ++ (xs ++ zs))) (append_assoc xs ys zs)
    (subst (λ (r : List X). IsPermutation (xs ++ ys ++ zs) r) (append_assoc ys xs zs)
    (IsPermutation-append_left zs (xs ++ ys) (ys ++ xs) (IsPermutation-append_comm xs ys)))

-- the first two
pub swap_two : {X : Type 0} (x y : X) (zs : List X) → IsPermutation (x ∷ y ∷ zs) (y ∷ x ∷ zs)
swap_two x y zs = IsPermutation-middle (x ∷ []) y zs

-- one behind another comes to the front
pub dig : {X : Type 0} (xs : List X) (x y : X) (zs : List X) → IsPermutation (xs ++ x ∷ y ∷ zs) (y ∷ (xs ++ x ∷ zs))
dig xs x y zs =
    IsPermutation-trans (xs ++ x ∷ y ∷ zs) (xs ++ y ∷ x ∷ zs) (y ∷ (xs ++ x ∷ zs))
    (IsPermutation-append_right xs (x ∷ y ∷ zs) (y ∷ x ∷ zs) (swap_two x y zs)) (IsPermutation-middle xs y (x ∷ zs))

-- ---- those of nodes in another order

module _ {X Y : Type 0} (f : X → List Y) where
  first_exchanged : (a : X) (xs : List X) (k : ℕ) (d : X) → k < length xs
      → IsPermutation (f a ++ flat_map f xs) (f (get_or xs k d) ++ flat_map f (set xs k a))
  first_exchanged a [] k d h = absurd (omega arith)
  first_exchanged a (y ∷ ys) zero d h = swap_fronts (f a) (f y) (flat_map f ys)
  first_exchanged a (y ∷ ys) (suc k) d h =
      let b : List Y = f (get_or ys k d) in
      let rest : List Y = flat_map f (set ys k a) in
      IsPermutation-trans (f a ++ (f y ++ flat_map f ys)) (f y ++ (f a ++ flat_map f ys)) (b ++ (f y ++ rest))
      (swap_fronts (f a) (f y) (flat_map f ys))
      (IsPermutation-trans (f y ++ (f a ++ flat_map f ys)) (f y ++ (b ++ rest)) (b ++ (f y ++ rest))
      (IsPermutation-append_right (f y) (f a ++ flat_map f ys) (b ++ rest) (first_exchanged a ys k d (omega arith)))
      (swap_fronts (f y) b rest))

  exchanged : (xs : List X) (i j : ℕ) (d : X) → i < length xs → j < length xs
      → IsPermutation (flat_map f xs) (flat_map f (set (set xs i (get_or xs j d)) j (get_or xs i d)))
  exchanged [] i j d p q = absurd (omega arith)
  exchanged (a ∷ xs) zero zero d p q = IsPermutation-refl (f a ++ flat_map f xs)
  exchanged (a ∷ xs) zero (suc j) d p q = first_exchanged a xs j d (omega arith)
  exchanged (a ∷ xs) (suc i) zero d p q = first_exchanged a xs i d (omega arith)
  exchanged (a ∷ xs) (suc i) (suc j) d p q =
      IsPermutation-append_right (f a) (flat_map f xs) (flat_map f (set (set xs i (get_or xs j d)) j (get_or xs i d)))
      (exchanged xs i j d (omega arith) (omega arith))

  pub flat_permuted : (xs ys : List X) → IsPermutation xs ys → IsPermutation (flat_map f xs) (flat_map f ys)
  flat_permuted xs ys =
      IsPermutation-keeps xs (λ l. IsPermutation (flat_map f xs) (flat_map f l)) (IsPermutation-refl (flat_map f xs))
      (λ l i j p q h.
      let d : X = hd l (omega arith) in
      IsPermutation-trans (flat_map f xs) (flat_map f l) (flat_map f _) h
      (subst (λ (m : List X). IsPermutation (flat_map f l) (flat_map f m)) (swap_is l i j d p q) (exchanged l i j d p q))) ys
