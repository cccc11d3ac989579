-- Pairs of a list's items, and where an item of a joined list comes from.
use Rattle.std.proofs.Common.{◌≡◌, ◌≢◌, ℕ, zero, suc, List, [], ◌∷◌, ◌++◌, map, flat_map, Some, Contains, ◌⊎◌, inl, inr, ⊎_elim, refl, ap, subst}
use Rattle.std.specs.List.{AllByRecursion}
use Rattle.std.proofs.lemmas.List.Elements.{Contains-append_cases}
use Rattle.zio_cksum.proofs.AllLemmas.{all_append, all_contained, all_contains, all_map, all_parts, all_weaker}
use Rattle.zio_trace.specs.TreeOrders.{Pairs}
use Rattle.zio_trace.specs.Views.{nth}
use Rattle.zio_trace.proofs.ChoiceLemmas.{contained_cases}
use Rattle.zio_trace.proofs.ListLemmas.{all_front, all_rest, contains_first, contains_later}

-- ---- where items come from

pub contains_flat : {X Y : Type 0} (f : X → List Y) (xs : List X) (y : Y) → Contains (flat_map f xs) y → (x : X) × Contains xs x × Contains (f x) y
contains_flat f [] y c = absurd (all_contains (λ z. ⊥) [] y tt c)
contains_flat f (x ∷ xs) y c =
    ⊎_elim
    (λ (here : Contains (f x) y). (x, contains_first x xs, here))
    (λ (there : Contains (flat_map f xs) y). let k = contains_flat f xs y there in (k.0, contains_later x xs k.0 k.1, k.2))
    (Contains-append_cases (f x) (flat_map f xs) y c)

pub contains_mapped : {X Y : Type 0} (f : X → Y) (xs : List X) (y : Y) → Contains (map f xs) y → (x : X) × Contains xs x × (f x ≡ y)
contains_mapped f [] y c = absurd (all_contains (λ z. ⊥) [] y tt c)
contains_mapped f (x ∷ xs) y c =
    ⊎_elim
    (λ (e : f x ≡ y). (x, contains_first x xs, e))
    (λ (there : Contains (map f xs) y). let k = contains_mapped f xs y there in (k.0, contains_later x xs k.0 k.1, k.2))
    (contained_cases (f x) (map f xs) y c)

pub all_of : {X : Type 0} (P : X → Type 0) (xs : List X) → ((x : X) → Contains xs x → P x) → AllByRecursion P xs
all_of P xs f = all_weaker (Contains xs) P xs f (all_contained xs)

pub nth_contained : {X : Type 0} (n : ℕ) (xs : List X) (x : X) → nth n xs ≡ Some x → Contains xs x
nth_contained n [] x e = absurd (cc)
nth_contained zero (y ∷ ys) x e = let is : y ≡ x = cc in subst (Contains (y ∷ ys)) is (contains_first y ys)
nth_contained (suc n) (y ∷ ys) x e = contains_later y ys x (nth_contained n ys x e)

-- ---- pairs

module _ {X : Type 0} (R : X → X → Type 0) where
  -- of two items one stands before the other, or they are one
  pub pairs_two : (xs : List X) (x y : X) → Pairs R xs → Contains xs x → Contains xs y → (x ≡ y) ⊎ (R x y ⊎ R y x)
  pairs_two [] x y h cx cy = absurd (all_contains (λ z. ⊥) [] x tt cx)
  pairs_two (z ∷ zs) x y h cx cy =
      ⊎_elim
      (λ (zx : z ≡ x).
      ⊎_elim (λ (zy : z ≡ y). inl (let e : x ≡ y = cc in e))
      (λ (later : Contains zs y). inr (inl (subst (λ (w : X). R w y) zx (all_contains (R z) zs y h.0 later))))
      (contained_cases z zs y cy))
      (λ (lx : Contains zs x).
      ⊎_elim (λ (zy : z ≡ y). inr (inr (subst (λ (w : X). R w x) zy (all_contains (R z) zs x h.0 lx))))
      (λ (ly : Contains zs y). pairs_two zs x y h.1 lx ly)
      (contained_cases z zs y cy))
      (contained_cases z zs x cx)

  -- two items at different numbers
  pub pairs_nth : (xs : List X) (i k : ℕ) (x y : X) → Pairs R xs → nth i xs ≡ Some x → nth k xs ≡ Some y → i ≢ k → R x y ⊎ R y x
  pairs_nth [] i k x y h ex ey ne = absurd (cc)
  pairs_nth (z ∷ zs) zero zero x y h ex ey ne = absurd (ne refl)
  pairs_nth (z ∷ zs) zero (suc k) x y h ex ey ne = let is : z ≡ x = cc in inl (subst (λ (w : X). R w y) is (all_contains (R z) zs y h.0 (nth_contained k zs y ey)))
  pairs_nth (z ∷ zs) (suc i) zero x y h ex ey ne = let is : z ≡ y = cc in inr (subst (λ (w : X). R w x) is (all_contains (R z) zs x h.0 (nth_contained i zs x ex)))
  pairs_nth (z ∷ zs) (suc i) (suc k) x y h ex ey ne = pairs_nth zs i k x y h.1 ex ey (λ e. ne (ap suc e))

  pub pairs_append : (xs ys : List X) → Pairs R xs → Pairs R ys → ((x y : X) → Contains xs x → Contains ys y → R x y) → Pairs R (xs ++ ys)
  pairs_append [] ys h k f = k
  pairs_append (x ∷ xs) ys h k f =
      (all_append (R x) xs ys h.0 (all_of (R x) ys (λ y c. f x y (contains_first x xs) c)), pairs_append xs ys h.1 k (λ a b ca cb. f a b (contains_later x xs a ca) cb))

  pub pairs_front : (xs ys : List X) → Pairs R (xs ++ ys) → Pairs R xs
  pairs_front [] ys h = tt
  pairs_front (x ∷ xs) ys h = (all_front (R x) xs ys h.0, pairs_front xs ys h.1)

  pub pairs_rest : (xs ys : List X) → Pairs R (xs ++ ys) → Pairs R ys
  pairs_rest [] ys h = h
  pairs_rest (x ∷ xs) ys h = pairs_rest xs ys h.1

  pub pairs_across : (xs ys : List X) (x y : X) → Pairs R (xs ++ ys) → Contains xs x → Contains ys y → R x y
  pairs_across [] ys x y h cx cy = absurd (all_contains (λ z. ⊥) [] x tt cx)
  pairs_across (z ∷ zs) ys x y h cx cy =
      ⊎_elim
      (λ (e : z ≡ x). subst (λ (w : X). R w y) e (all_contains (R z) ys y (all_rest (R z) zs ys h.0) cy))
      (λ (c : Contains zs x). pairs_across zs ys x y h.1 c cy)
      (contained_cases z zs x cx)

  pub pairs_stronger : (S : X → X → Type 0) (xs : List X) → ((x y : X) → Contains xs x → Contains xs y → S x y → R x y) → Pairs S xs → Pairs R xs
  pairs_stronger S [] f h = tt
  pairs_stronger S (x ∷ xs) f h =
      (all_of (R x) xs (λ y c. f x y (contains_first x xs) (contains_later x xs y c) (all_contains (S x) xs y h.0 c)), pairs_stronger S xs (λ a b ca cb. f a b (contains_later x xs a ca) (contains_later x xs b cb)) h.1)

pub flat_contains : {X Y : Type 0} (f : X → List Y) (xs : List X) (x : X) (y : Y) → Contains xs x → Contains (f x) y → Contains (flat_map f xs) y
flat_contains f xs x y cx cy =
    all_contains (Contains (flat_map f xs)) (f x) y (all_contains (λ z. AllByRecursion (Contains (flat_map f xs)) (f z)) xs x (all_parts f xs) cx) cy

-- of a list of lists: two lists, and each by itself
module _ {X Y : Type 0} (R : Y → Y → Type 0) (f : X → List Y) where
  abbrev pub Across : X → X → Type 0
  Across x y = (p q : Y) → Contains (f x) p → Contains (f y) q → R p q

  pub pairs_lists : (xs : List X) → Pairs R (flat_map f xs) → Pairs Across xs
  pairs_lists [] h = tt
  pairs_lists (x ∷ xs) h =
      (all_of (Across x) xs (λ y c p q cp cq. pairs_across R (f x) (flat_map f xs) p q h cp (flat_contains f xs y q c cq)), pairs_lists xs (pairs_rest R (f x) (flat_map f xs) h))

  pub pairs_each : (xs : List X) → Pairs R (flat_map f xs) → AllByRecursion (λ (x : X). Pairs R (f x)) xs
  pairs_each [] h = tt
  pairs_each (x ∷ xs) h = (pairs_front R (f x) (flat_map f xs) h, pairs_each xs (pairs_rest R (f x) (flat_map f xs) h))

  pub pairs_flat : (xs : List X) → Pairs Across xs → AllByRecursion (λ (x : X). Pairs R (f x)) xs → Pairs R (flat_map f xs)
  pairs_flat [] h k = tt
  pairs_flat (x ∷ xs) h k =
      pairs_append R (f x) (flat_map f xs) k.0 (pairs_flat xs h.1 k.1)
      (λ p q cp cq. let from = contains_flat f xs q cq in all_contains (Across x) xs from.0 h.0 from.1 p q cp from.2)

pub pairs_map : {X Y : Type 0} (R : Y → Y → Type 0) (f : X → Y) (xs : List X) → Pairs (λ (x y : X). R (f x) (f y)) xs → Pairs R (map f xs)
pairs_map R f [] h = tt
pairs_map R f (x ∷ xs) h = (all_map (R (f x)) f xs h.0, pairs_map R f xs h.1)
