-- Elements by number, in lists with one more and in lists with one exchanged.
use Rattle.std.proofs.Common.{◌≡◌, ◌≢◌, ℕ, zero, suc, List, [], ◌∷◌, ◌++◌, length, slice_get, slice_set, Some, ◌⊎◌, inl, inr, refl, ap, subst, arith}
use Rattle.std.specs.List.{AllByRecursion}

pub get_more : {X : Type 0} (xs : List X) (y x : X) (k : ℕ) → slice_get xs k ≡ Some x → slice_get (xs ++ y ∷ []) k ≡ Some x
get_more [] y x k e = absurd (cc)
get_more (z ∷ xs) y x zero e = e
get_more (z ∷ xs) y x (suc k) e = get_more xs y x k e

pub get_last : {X : Type 0} (xs : List X) (y : X) → slice_get (xs ++ y ∷ []) (length xs) ≡ Some y
get_last [] y = refl
get_last (z ∷ xs) y = get_last xs y

-- there is nothing behind the last
pub get_past : {X : Type 0} (xs : List X) (x : X) → slice_get xs (length xs) ≡ Some x → ⊥
get_past [] x e = cc
get_past (z ∷ xs) x e = get_past xs x e

-- of one more it is one of the others, or the last
pub get_either : {X : Type 0} (xs : List X) (y x : X) (k : ℕ) → slice_get (xs ++ y ∷ []) k ≡ Some x
    → (slice_get xs k ≡ Some x) ⊎ ((k ≡ length xs) × (y ≡ x))
get_either [] y x zero e = let is : y ≡ x = cc in inr (refl, is)
get_either [] y x (suc k) e = absurd (cc)
get_either (z ∷ xs) y x zero e = inl e
get_either (z ∷ xs) y x (suc k) e = later (get_either xs y x k e)
  where
    later : (slice_get xs k ≡ Some x) ⊎ ((k ≡ length xs) × (y ≡ x))
        → (slice_get xs k ≡ Some x) ⊎ ((suc k ≡ suc (length xs)) × (y ≡ x))
    later (inl h) = inl h
    later (inr h) = inr (ap suc h.0, h.1)

pub get_set : {X : Type 0} (xs : List X) (k : ℕ) (x y : X) → slice_get xs k ≡ Some x → slice_get (slice_set xs k y) k ≡ Some y
get_set [] k x y h = absurd (cc)
get_set (z ∷ xs) zero x y h = refl
get_set (z ∷ xs) (suc k) x y h = get_set xs k x y h

pub get_other : {X : Type 0} (xs : List X) (k m : ℕ) (y : X) → m ≢ k → slice_get (slice_set xs k y) m ≡ slice_get xs m
get_other [] k m y h = refl
get_other (z ∷ xs) zero zero y h = absurd (h refl)
get_other (z ∷ xs) zero (suc m) y h = refl
get_other (z ∷ xs) (suc k) zero y h = refl
get_other (z ∷ xs) (suc k) (suc m) y h = get_other xs k m y (λ e. h (ap suc e))

-- of one exchanged it is that, or one of the others
pub get_exchanged : {X : Type 0} (xs : List X) (k m : ℕ) (y x : X) → slice_get (slice_set xs k y) m ≡ Some x
    → ((m ≡ k) × (y ≡ x)) ⊎ ((m ≢ k) × (slice_get xs m ≡ Some x))
get_exchanged [] k m y x e = absurd (cc)
get_exchanged (z ∷ xs) zero zero y x e = let is : y ≡ x = cc in inl (refl, is)
get_exchanged (z ∷ xs) zero (suc m) y x e = inr ((λ h. cc), e)
get_exchanged (z ∷ xs) (suc k) zero y x e = inr ((λ h. cc), e)
get_exchanged (z ∷ xs) (suc k) (suc m) y x e = later (get_exchanged xs k m y x e)
  where
    later : ((m ≡ k) × (y ≡ x)) ⊎ ((m ≢ k) × (slice_get xs m ≡ Some x))
        → ((suc m ≡ suc k) × (y ≡ x)) ⊎ ((suc m ≢ suc k) × (slice_get xs m ≡ Some x))
    later (inl h) = inl (ap suc h.0, h.1)
    later (inr h) = inr ((λ e. h.0 (omega arith)), h.1)

pub same_or_not : (m n : ℕ) → (m ≡ n) ⊎ (m ≢ n)
same_or_not zero zero = inl refl
same_or_not zero (suc n) = inr (λ e. cc)
same_or_not (suc m) zero = inr (λ e. cc)
same_or_not (suc m) (suc n) = later (same_or_not m n)
  where
    later : (m ≡ n) ⊎ (m ≢ n) → (suc m ≡ suc n) ⊎ (suc m ≢ suc n)
    later (inl e) = inl (ap suc e)
    later (inr h) = inr (λ e. h (omega arith))

-- ---- what holds of all

pub all_at : {X : Type 0} (P : X → Type 0) (xs : List X) (k : ℕ) (x : X) → AllByRecursion P xs → slice_get xs k ≡ Some x → P x
all_at P [] k x h e = absurd (cc)
all_at P (y ∷ xs) zero x h e = let is : y ≡ x = cc in subst P is h.0
all_at P (y ∷ xs) (suc k) x h e = all_at P xs k x h.1 e

pub all_by_number : {X : Type 0} (P : X → Type 0) (xs : List X) → ((k : ℕ) (x : X) → slice_get xs k ≡ Some x → P x)
    → AllByRecursion P xs
all_by_number P [] h = tt
all_by_number P (x ∷ xs) h = (h 0 x refl, all_by_number P xs (λ k y e. h (suc k) y e))
