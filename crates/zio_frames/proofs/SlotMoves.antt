-- Operations that were asked, each out or answered: one more is out, one tells, one is answered.
use Rattle.std.proofs.Common.{◌≡◌, ℕ, zero, suc, ◌-◌, List, [], ◌∷◌, ◌++◌, length, set, Option, None, refl, sym, ap, subst, ◌∙◌, arith, length-append}
use Rattle.zio_blkptr.specs.declared.pointer.Bp.{Bp}
use Rattle.zio_trace.specs.Calls.{answered_at}
use Rattle.zio_trace.specs.Programs.{Program, Ends, Asks, ◌>>=◌}
use Rattle.zio_trace.specs.Tasks.{Task, Value}
use Rattle.zio_frames.specs.Slots.{Slot, IsOut, Heard, left_behind_slots, outs_before}

-- nothing is answered where one more is out
pub slots_more : {Op A : Type 0} (slots : List Slot) (p : Program Op Value A) → left_behind_slots (slots ++ IsOut None ∷ []) p ≡ left_behind_slots slots p
slots_more [] (Ends a) = refl
slots_more [] (Asks op more) = refl
slots_more (x ∷ slots) (Ends a) = refl
slots_more (Heard v ∷ slots) (Asks op more) = slots_more slots (more v)
slots_more (IsOut told ∷ slots) (Asks op more) = λ i. Asks op (λ v. slots_more slots (more v) i)

-- the nth is out
abbrev pub IsOutAt : ℕ → List Slot → Type 0
IsOutAt n [] = ⊥
IsOutAt zero (IsOut told ∷ slots) = Unit {0}
IsOutAt zero (Heard v ∷ slots) = ⊥
IsOutAt (suc n) (x ∷ slots) = IsOutAt n slots

-- one that is out is answered
pub slots_heard : {Op A : Type 0} (n : ℕ) (v : Value) (slots : List Slot) (p : Program Op Value A) → IsOutAt n slots
    → answered_at (outs_before n slots) v (left_behind_slots slots p) ≡ left_behind_slots (set slots n (Heard v)) p
slots_heard n v [] p h = absurd h
slots_heard zero v (Heard w ∷ slots) p h = absurd h
slots_heard zero v (IsOut told ∷ slots) (Ends a) h = refl
slots_heard zero v (IsOut told ∷ slots) (Asks op more) h = refl
slots_heard (suc n) v (x ∷ slots) (Ends a) h = refl
slots_heard (suc n) v (Heard w ∷ slots) (Asks op more) h = slots_heard n v slots (more w) h
slots_heard (suc n) v (IsOut told ∷ slots) (Asks op more) h = λ i. Asks op (λ w. slots_heard n v slots (more w) h i)

-- one that is out tells a pointer
pub slots_told : {Op A : Type 0} (n : ℕ) (told : Option (Option Bp)) (slots : List Slot) (p : Program Op Value A) → IsOutAt n slots
    → left_behind_slots (set slots n (IsOut told)) p ≡ left_behind_slots slots p
slots_told n told [] p h = absurd h
slots_told zero told (Heard w ∷ slots) p h = absurd h
slots_told zero told (IsOut old ∷ slots) (Ends a) h = refl
slots_told zero told (IsOut old ∷ slots) (Asks op more) h = refl
slots_told (suc n) told (x ∷ slots) (Ends a) h = refl
slots_told (suc n) told (Heard w ∷ slots) (Asks op more) h = slots_told n told slots (more w) h
slots_told (suc n) told (IsOut old ∷ slots) (Asks op more) h = λ i. Asks op (λ w. slots_told n told slots (more w) h i)

-- ---- the last one

last_is : {X : Type 0} (xs : List X) (x : X) → length (xs ++ x ∷ []) - 1 ≡ length xs
last_is xs x = omega (arith, length-append xs (x ∷ []))

pub set_end : {X : Type 0} (xs : List X) (x y : X) → set (xs ++ x ∷ []) (length xs) y ≡ xs ++ y ∷ []
set_end [] x y = refl
set_end (z ∷ xs) x y = ap (λ ys. z ∷ ys) (set_end xs x y)

pub set_last : {X : Type 0} (xs : List X) (x y : X) → set (xs ++ x ∷ []) (length (xs ++ x ∷ []) - 1) y ≡ xs ++ y ∷ []
set_last xs x y = ap (λ n. set (xs ++ x ∷ []) n y) (last_is xs x) ∙ set_end xs x y

out_end : (slots : List Slot) (told : Option (Option Bp)) → IsOutAt (length slots) (slots ++ IsOut told ∷ [])
out_end [] told = tt
out_end (x ∷ slots) told = out_end slots told

pub out_last : (slots : List Slot) (told : Option (Option Bp)) → IsOutAt (length (slots ++ IsOut told ∷ []) - 1) (slots ++ IsOut told ∷ [])
out_last slots told = subst (λ n. IsOutAt n (slots ++ IsOut told ∷ [])) (sym (last_is slots (IsOut told))) (out_end slots told)

-- ---- programs

pub bind_assoc : {A B C : Type 0} (p : Program Task Value A) (f : A → Program Task Value B) (g : B → Program Task Value C) → ((p >>= f) >>= g) ≡ (p >>= λ a. f a >>= g)
bind_assoc (Ends a) f g = refl
bind_assoc (Asks op more) f g = λ i. Asks op (λ v. bind_assoc (more v) f g i)
