-- Sums over views, which are read by place, and what each view keeps.
use Rattle.std.proofs.Common.{◌≡◌, ◌≢◌, ℕ, zero, suc, ◌+◌, ◌<◌, ◌≤◌, List, [], ◌∷◌, ◌++◌, length, get_or, set, refl, sym, ap, ◌∙◌, ⊎_elim, subst, arith, sum_by}
use Rattle.std.proofs.lemmas.List.Sums.{sum_by-cons, sum_by-set, get_or-le-sum_by}
use mathlib.Core.Option.{some, some-injective, some-ne-none}
use lib.ListN.{get_elem?}
use Rattle.atomic_table.proofs.Lists.{at_set, at_snoc, set_else}

module _ {A : Type 0} where
  pub read_at : (xs : List A) (i : ℕ) (x d : A) → get_elem? xs i ≡ some x → (i < length xs) × (get_or xs i d ≡ x)
  read_at [] i x d at = absurd (some-ne-none x (sym at))
  read_at (y ∷ ys) zero x d at = ((omega arith), some-injective y x at)
  read_at (y ∷ ys) (suc i) x d at = let more = read_at ys i x d at in ((omega arith), more.1)

  module _ (f : A → ℕ) where
    pub sum_set : (xs : List A) (i : ℕ) (x y : A) → get_elem? xs i ≡ some x → sum_by f (set xs i y) + f x ≡ sum_by f xs + f y
    sum_set xs i x y at =
        let r = read_at xs i x x at in
        let e : f (get_or xs i x) ≡ f x = ap f r.1 in
        let s : sum_by f (set xs i y) + f (get_or xs i x) ≡ sum_by f xs + f y = sum_by-set f xs i y x r.0 in
        omega arith

    pub sum_one : (xs : List A) (i : ℕ) (x : A) → get_elem? xs i ≡ some x → f x ≤ sum_by f xs
    sum_one xs i x at =
        let r = read_at xs i x x at in
        let e : f (get_or xs i x) ≡ f x = ap f r.1 in
        let le : f (get_or xs i x) ≤ sum_by f xs = get_or-le-sum_by f xs i x r.0 in
        omega arith

    pub sum_two : (z : A) (xs : List A) (i j : ℕ) (x y : A) → f z ≡ 0 → get_elem? xs i ≡ some x → get_elem? xs j ≡ some y → j ≢ i → f x + f y ≤ sum_by f xs
    sum_two z xs i j x y none at there other =
        let s : sum_by f (set xs i z) + f x ≡ sum_by f xs + f z = sum_set xs i x z at in
        let le : f y ≤ sum_by f (set xs i z) = sum_one (set xs i z) j y (set_else xs i j z other ∙ there) in
        omega arith

    pub sum_none : (xs : List A) → ((j : ℕ) (x : A) → get_elem? xs j ≡ some x → f x ≡ 0) → sum_by f xs ≡ 0
    sum_none [] none = refl
    sum_none (x ∷ xs) none =
        let one : f x ≡ 0 = none 0 x refl in
        let more : sum_by f xs ≡ 0 = sum_none xs (λ j y at. none (suc j) y at) in
        let s : sum_by f (x ∷ xs) ≡ f x + sum_by f xs = sum_by-cons f x xs in
        omega arith

  module _ (P : A → Type 0) where
    pub each_set : (xs : List A) (i : ℕ) (y : A) → P y → ((j : ℕ) (u : A) → j ≢ i → get_elem? xs j ≡ some u → P u) → (j : ℕ) (u : A) → get_elem? (set xs i y) j ≡ some u → P u
    each_set xs i y mine others j u at =
        ⊎_elim (λ (t : (j ≡ i) × (y ≡ u)). subst P t.1 mine) (λ (t : (j ≢ i) × (get_elem? xs j ≡ some u)). others j u t.0 t.1) (at_set xs i j y u at)

    pub each_push : (xs : List A) (y : A) → ((j : ℕ) (u : A) → get_elem? xs j ≡ some u → P u) → P y → (j : ℕ) (u : A) → get_elem? (xs ++ y ∷ []) j ≡ some u → P u
    each_push xs y all last j u at = ⊎_elim (λ (h : get_elem? xs j ≡ some u). all j u h) (λ (e : y ≡ u). subst P e last) (at_snoc xs y u j at)
