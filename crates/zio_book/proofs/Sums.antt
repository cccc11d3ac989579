-- Sums over views, and what one changed view leaves true.
use Rattle.std.proofs.Common.{◌≡◌, ◌≢◌, ℕ, zero, suc, ◌+◌, ◌*◌, ◌/◌, ◌%◌, ◌<◌, ◌≤◌, cond, eqb, List, [], ◌∷◌, ◌++◌, length, set, refl, sym, ap, ◌∙◌, ⊎_elim, arith, All, subst, slice_get, Some}
use Rattle.std.proofs.lemmas.List.Elements.{All-nil, All-cons, All-head, All-tail}
use Rattle.std.proofs.lemmas.Bool.Decides.{nat_tests}
use Rattle.std.proofs.Math.Nat.{mod-add-div, add-mul-mod_self_left}
use mathlib.Core.Option.{some, some-injective, some-ne-none}
use lib.ListN.{get_elem?}
use Rattle.atomic_table.proofs.Lists.{at_set}
pub use Rattle.zio_types.proofs.ListLemmas.{total_append, all_map}
use Rattle.zio_book.specs.History.{Leads, total, once_below}

module _ {A : Type 0} where
  pub total_set : (f : A → ℕ) (xs : List A) (i : ℕ) (x y : A) → get_elem? xs i ≡ some x → total f (set xs i y) + f x ≡ total f xs + f y
  total_set f [] i x y at = absurd (some-ne-none x (sym at))
  total_set f (z ∷ zs) zero x y at = let e : f z ≡ f x = ap f (some-injective z x at) in omega arith
  total_set f (z ∷ zs) (suc i) x y at = let more = total_set f zs i x y at in omega arith

  -- a view that counts the same
  pub total_same : (f : A → ℕ) (xs : List A) (i : ℕ) (x y : A) → get_elem? xs i ≡ some x → f y ≡ f x → total f (set xs i y) ≡ total f xs
  total_same f xs i x y at e = let s = total_set f xs i x y at in omega arith

  pub one_of : (f : A → ℕ) (xs : List A) (i : ℕ) (x : A) → get_elem? xs i ≡ some x → f x ≤ total f xs
  one_of f [] i x at = absurd (some-ne-none x (sym at))
  one_of f (z ∷ zs) zero x at = let e : f z ≡ f x = ap f (some-injective z x at) in omega arith
  one_of f (z ∷ zs) (suc i) x at = let more = one_of f zs i x at in omega arith

  pub two_of : (f : A → ℕ) (xs : List A) (i j : ℕ) (x y : A) → get_elem? xs i ≡ some x → get_elem? xs j ≡ some y → j ≢ i → f x + f y ≤ total f xs
  two_of f [] i j x y at at' ne = absurd (some-ne-none x (sym at))
  two_of f (z ∷ zs) zero zero x y at at' ne = absurd (ne refl)
  two_of f (z ∷ zs) zero (suc j) x y at at' ne = let e : f z ≡ f x = ap f (some-injective z x at) in let o = one_of f zs j y at' in omega arith
  two_of f (z ∷ zs) (suc i) zero x y at at' ne = let e : f z ≡ f y = ap f (some-injective z y at') in let o = one_of f zs i x at in omega arith
  two_of f (z ∷ zs) (suc i) (suc j) x y at at' ne = let o = two_of f zs i j x y at at' (λ e. ne (ap suc e)) in omega arith

  pub total_below : (f h : A → ℕ) (xs : List A) → ((i : ℕ) (x : A) → get_elem? xs i ≡ some x → f x ≤ h x) → total f xs ≤ total h xs
  total_below f h [] le = omega arith
  total_below f h (x ∷ xs) le = let one = le 0 x refl in let more = total_below f h xs (λ i y at. le (suc i) y at) in omega arith

  -- where all that g counts is at one place, all that f counts is there
  pub alone : (f g : A → ℕ) (xs : List A) (i : ℕ) (x : A) → get_elem? xs i ≡ some x → total g xs ≡ g x → ((j : ℕ) (y : A) → get_elem? xs j ≡ some y → g y ≡ 0 → f y ≡ 0) → total f xs ≡ f x
  alone f g [] i x at e z = absurd (some-ne-none x (sym at))
  alone f g (y ∷ ys) zero x at e z =
      let a : g y ≡ g x = ap g (some-injective y x at) in let b : f y ≡ f x = ap f (some-injective y x at) in
      let c = nothing f g ys (omega arith) (λ j u at' e'. z (suc j) u at' e') in omega arith where
        nothing : (f g : A → ℕ) (ys : List A) → total g ys ≡ 0 → ((j : ℕ) (y : A) → get_elem? ys j ≡ some y → g y ≡ 0 → f y ≡ 0) → total f ys ≡ 0
        nothing f g [] e z = refl
        nothing f g (y ∷ ys) e z = let a = z 0 y refl (omega arith) in let b = nothing f g ys (omega arith) (λ j u at' e'. z (suc j) u at' e') in omega arith
  alone f g (y ∷ ys) (suc i) x at e z =
      let one = one_of g ys i x at in
      let more = alone f g ys i x at (omega arith) (λ j u at' e'. z (suc j) u at' e') in
      let a = z 0 y refl (omega arith) in omega arith

  pub each_set : (P : ℕ → A → Type 0) (xs : List A) (i : ℕ) (y : A) → P i y → ((j : ℕ) (u : A) → j ≢ i → get_elem? xs j ≡ some u → P j u) → (j : ℕ) (u : A) → get_elem? (set xs i y) j ≡ some u → P j u
  each_set P xs i y mine others j u at =
      ⊎_elim (λ (t : (j ≡ i) × (y ≡ u)). subst (λ (z : ℕ × A). P z.0 z.1) (λ k. (sym t.0 k, t.1 k)) mine) (λ (t : (j ≢ i) × (get_elem? xs j ≡ some u)). others j u t.0 t.1) (at_set xs i j y u at)

  pub get_longer : (xs ys : List A) (k : ℕ) (a : A) → slice_get xs k ≡ Some a → slice_get (xs ++ ys) k ≡ Some a
  get_longer [] ys k a e = absurd (cc)
  get_longer (x ∷ xs) ys zero a e = e
  get_longer (x ∷ xs) ys (suc k) a e = get_longer xs ys k a e

  pub get_last : (xs : List A) (a : A) → slice_get (xs ++ a ∷ []) (length xs) ≡ Some a
  get_last [] a = refl
  get_last (x ∷ xs) a = get_last xs a

  pub get_below : (xs : List A) (k : ℕ) (a : A) → slice_get xs k ≡ Some a → k < length xs
  get_below [] k a e = absurd (cc)
  get_below (x ∷ xs) zero a e = omega arith
  get_below (x ∷ xs) (suc k) a e = let more = get_below xs k a e in omega arith

pub leads_more : {H N : Type 0} (gives : H → N → H → Type 0) (s : H) (log : List N) (t u : H) (n : N) → Leads gives s log t → gives t n u → Leads gives s (log ++ n ∷ []) u
leads_more gives s [] t u n l g = (u, subst (λ y. gives y n u) (sym l) g, refl)
leads_more gives s (m ∷ ms) t u n l g = (l.0, l.1, leads_more gives l.0 ms t u n l.2 g)

-- one more number
pub once_more : (k n : ℕ) → once_below k (n + 1) ≡ once_below k n + cond (eqb k n) 1 0
once_more k n = grind (arith, nat_tests)

-- how far a word wraps makes no difference to its next value
pub wrap_next : (n m : ℕ) → (n % m + 1) % m ≡ (n + 1) % m
wrap_next n m =
    let p : ℕ = m * (n / m) in
    let q : n % m + p ≡ n = mod-add-div n m in
    let e : n + 1 ≡ (n % m + 1) + p = omega arith in
    sym (ap (λ (z : ℕ). z % m) e ∙ add-mul-mod_self_left (n % m + 1) m (n / m))
