-- The trees that are under way, by number.
use Rattle.std.proofs.Common.{◌≡◌, ◌≢◌, ℕ, zero, suc, ◌+◌, List, [], ◌∷◌, slice_get, slice_set, Option, Some, None, IsPermutation, refl, sym, ap, ◌∙◌, subst, arith}
use Rattle.std.proofs.lemmas.List.Sorted.{IsPermutation-refl, IsPermutation-trans, IsPermutation-cons}
use Rattle.zio_trace.specs.Tasks.{Task, Value}
use Rattle.zio_frames.specs.Frames.{Flying}
use Rattle.zio_frames.specs.Running.{all_heard, all_out, settling_from}
use Rattle.zio_frames.specs.Slots.{Heard, IsOut, Slot}
use Rattle.zio_frames.proofs.PermLemmas.{swap_two}
use Rattle.zio_turns.specs.Engine.{TreesStand}
use Rattle.zio_staged.specs.Entries.{IsWith, all_tops, standing, top_at}

-- ---- by number

pub top_set : (tops : List (Option Flying)) (n : ℕ) (x : Flying) (y : Option Flying) → top_at tops n ≡ Some x
    → top_at (slice_set tops n y) n ≡ y
top_set [] n x y e = absurd (cc)
top_set (z ∷ tops) zero x y e = refl
top_set (z ∷ tops) (suc n) x y e = top_set tops n x y e

pub top_other : (tops : List (Option Flying)) (n m : ℕ) (y : Option Flying) → m ≢ n
    → top_at (slice_set tops n y) m ≡ top_at tops m
top_other [] n m y h = refl
top_other (z ∷ tops) zero zero y h = absurd (h refl)
top_other (z ∷ tops) zero (suc m) y h = refl
top_other (z ∷ tops) (suc n) zero y h = refl
top_other (z ∷ tops) (suc n) (suc m) y h = top_other tops n m y (λ e. h (ap suc e))

pub with_top : (tops : List (Option Flying)) (n : ℕ) (x : Flying) (y : Option Flying) → top_at tops n ≡ Some x
    → IsWith (top_at tops) n y (top_at (slice_set tops n y))
with_top tops n x y e = record { there = top_set tops n x y e; others = λ m h. top_other tops n m y h }

-- ---- what is in flight

pub standing_out : (tops : List (Option Flying)) (n : ℕ) (x : Flying) → top_at tops n ≡ Some x
    → IsPermutation (standing tops) (x ∷ standing (slice_set tops n None))
standing_out [] n x e = absurd (cc)
standing_out (None ∷ tops) zero x e = absurd (cc)
standing_out (Some z ∷ tops) zero x e =
    let is : z ≡ x = cc in
    subst (λ (y : Flying). IsPermutation (z ∷ standing tops) (y ∷ standing tops)) is (IsPermutation-refl (z ∷ standing tops))
standing_out (None ∷ tops) (suc n) x e = standing_out tops n x e
standing_out (Some z ∷ tops) (suc n) x e =
    IsPermutation-trans (z ∷ standing tops) (z ∷ x ∷ standing (slice_set tops n None))
    (x ∷ z ∷ standing (slice_set tops n None))
    (IsPermutation-cons z (standing tops) (x ∷ standing (slice_set tops n None)) (standing_out tops n x e))
    (swap_two z x (standing (slice_set tops n None)))

pub standing_in : (tops : List (Option Flying)) (n : ℕ) (x y : Flying) → top_at tops n ≡ Some x
    → IsPermutation (y ∷ standing (slice_set tops n None)) (standing (slice_set tops n (Some y)))
standing_in [] n x y e = absurd (cc)
standing_in (z ∷ tops) zero x y e = IsPermutation-refl (y ∷ standing tops)
standing_in (None ∷ tops) (suc n) x y e = standing_in tops n x y e
standing_in (Some z ∷ tops) (suc n) x y e =
    IsPermutation-trans (y ∷ z ∷ standing (slice_set tops n None)) (z ∷ y ∷ standing (slice_set tops n None))
    (z ∷ standing (slice_set tops n (Some y)))
    (swap_two y z (standing (slice_set tops n None)))
    (IsPermutation-cons z (y ∷ standing (slice_set tops n None)) (standing (slice_set tops n (Some y)))
    (standing_in tops n x y e))

-- ---- with the trees

clash : (x : Flying) → None ≡ Some x → ⊥
clash x e = cc

pub stand_at : (k : ℕ) (tops : List (Option Flying)) (trees : List Slot) (n : ℕ) (x : Flying) → TreesStand k tops trees
    → top_at tops n ≡ Some x
    → x.at ≡ (k + n) ∷ []
stand_at k [] trees n x s e = absurd (clash x e)
stand_at k (None ∷ tops) [] n x s e = absurd s
stand_at k (Some z ∷ tops) [] n x s e = absurd s
stand_at k (None ∷ tops) (IsOut told ∷ trees) n x s e = absurd s
stand_at k (Some z ∷ tops) (Heard v ∷ trees) n x s e = absurd s
stand_at k (None ∷ tops) (Heard v ∷ trees) zero x s e = absurd (clash x e)
stand_at k (Some z ∷ tops) (IsOut told ∷ trees) zero x s e =
    let is : z ≡ x = cc in
    let same : k ≡ k + 0 = omega arith in
    sym (ap (λ (y : Flying). y.at) is) ∙ s.0 ∙ ap (λ i. i ∷ []) same
stand_at k (None ∷ tops) (Heard v ∷ trees) (suc n) x s e =
    let same : suc k + n ≡ k + suc n = omega arith in
    stand_at (suc k) tops trees n x s e ∙ ap (λ i. i ∷ []) same
stand_at k (Some z ∷ tops) (IsOut told ∷ trees) (suc n) x s e =
    let same : suc k + n ≡ k + suc n = omega arith in
    stand_at (suc k) tops trees n x s.1 e ∙ ap (λ i. i ∷ []) same

pub stand_moved : (k : ℕ) (tops : List (Option Flying)) (trees : List Slot) (n : ℕ) (x y : Flying) → TreesStand k tops trees
    → top_at tops n ≡ Some x → y.at ≡ x.at → TreesStand k (slice_set tops n (Some y)) trees
stand_moved k [] trees n x y s e f = absurd (clash x e)
stand_moved k (None ∷ tops) [] n x y s e f = absurd s
stand_moved k (Some z ∷ tops) [] n x y s e f = absurd s
stand_moved k (None ∷ tops) (IsOut told ∷ trees) n x y s e f = absurd s
stand_moved k (Some z ∷ tops) (Heard v ∷ trees) n x y s e f = absurd s
stand_moved k (None ∷ tops) (Heard v ∷ trees) zero x y s e f = absurd (clash x e)
stand_moved k (Some z ∷ tops) (IsOut told ∷ trees) zero x y s e f =
    let is : z ≡ x = cc in
    (f ∙ sym (ap (λ (w : Flying). w.at) is) ∙ s.0, s.1)
stand_moved k (None ∷ tops) (Heard v ∷ trees) (suc n) x y s e f = stand_moved (suc k) tops trees n x y s e f
stand_moved k (Some z ∷ tops) (IsOut told ∷ trees) (suc n) x y s e f = (s.0, stand_moved (suc k) tops trees n x y s.1 e f)

pub stand_ended : (k : ℕ) (tops : List (Option Flying)) (trees : List Slot) (n : ℕ) (x : Flying) (v : Value)
    → TreesStand k tops trees
    → top_at tops n ≡ Some x → TreesStand k (slice_set tops n None) (slice_set trees n (Heard v))
stand_ended k [] trees n x v s e = absurd (clash x e)
stand_ended k (None ∷ tops) [] n x v s e = absurd s
stand_ended k (Some z ∷ tops) [] n x v s e = absurd s
stand_ended k (None ∷ tops) (IsOut told ∷ trees) n x v s e = absurd s
stand_ended k (Some z ∷ tops) (Heard w ∷ trees) n x v s e = absurd s
stand_ended k (None ∷ tops) (Heard w ∷ trees) zero x v s e = absurd (clash x e)
stand_ended k (Some z ∷ tops) (IsOut told ∷ trees) zero x v s e = s.1
stand_ended k (None ∷ tops) (Heard w ∷ trees) (suc n) x v s e = stand_ended (suc k) tops trees n x v s e
stand_ended k (Some z ∷ tops) (IsOut told ∷ trees) (suc n) x v s e = (s.0, stand_ended (suc k) tops trees n x v s.1 e)

-- ---- the first and the last

pub standing_all : (xs : List Flying) → standing (all_tops xs) ≡ xs
standing_all [] = refl
standing_all (x ∷ xs) = ap (λ (ys : List Flying). x ∷ ys) (standing_all xs)

pub stand_slot : (k : ℕ) (tops : List (Option Flying)) (trees : List Slot) (n : ℕ) (x : Flying) → TreesStand k tops trees
    → top_at tops n ≡ Some x → (slot : Slot) × (slice_get trees n ≡ Some slot)
stand_slot k [] trees n x s e = absurd (clash x e)
stand_slot k (None ∷ tops) [] n x s e = absurd s
stand_slot k (Some z ∷ tops) [] n x s e = absurd s
stand_slot k (None ∷ tops) (IsOut told ∷ trees) n x s e = absurd s
stand_slot k (Some z ∷ tops) (Heard v ∷ trees) n x s e = absurd s
stand_slot k (None ∷ tops) (Heard v ∷ trees) zero x s e = absurd (clash x e)
stand_slot k (Some z ∷ tops) (IsOut told ∷ trees) zero x s e = (IsOut told, refl)
stand_slot k (None ∷ tops) (Heard v ∷ trees) (suc n) x s e = stand_slot (suc k) tops trees n x s e
stand_slot k (Some z ∷ tops) (IsOut told ∷ trees) (suc n) x s e = stand_slot (suc k) tops trees n x s.1 e

pub stand_first : (n : ℕ) (qs : List Task) → TreesStand n (all_tops (settling_from n qs)) (all_out qs)
stand_first n [] = tt
stand_first n (q ∷ qs) = (refl, stand_first (suc n) qs)

pub stand_last : (k : ℕ) (tops : List (Option Flying)) (trees : List Slot) → TreesStand k tops trees → standing tops ≡ []
    → (values : List Value) × (trees ≡ all_heard values)
stand_last k [] [] s e = ([], refl)
stand_last k [] (x ∷ trees) s e = absurd s
stand_last k (None ∷ tops) [] s e = absurd s
stand_last k (Some z ∷ tops) [] s e = absurd s
stand_last k (None ∷ tops) (IsOut told ∷ trees) s e = absurd s
stand_last k (Some z ∷ tops) (x ∷ trees) s e = absurd (cc)
stand_last k (None ∷ tops) (Heard v ∷ trees) s e =
    let r = stand_last (suc k) tops trees s e in
    (v ∷ r.0, ap (λ (xs : List Slot). Heard v ∷ xs) r.1)
