-- What holds of a program's end whatever its operations are answered; and the pointer of a null.
use Rattle.std.proofs.Common.{◌≡◌, List, [], ◌∷◌, Bool, true, false, Option, refl}
use Rattle.zio_types.specs.declared.request.Bits.{Bits}
use Rattle.zio_blkptr.specs.declared.pointer.Bp.{Bp}
use Rattle.zio_gang.specs.Attempts.{Child, Own, Pending, closed_if}
use Rattle.zio_trace.specs.Plans.{TaskPlan}
use Rattle.zio_trace.specs.Programs.{Ends, Asks, ◌>>=◌}
use Rattle.zio_trace.specs.Tasks.{Value}
use Rattle.zio_frames.specs.Answering.{EndsAnswered}
use Rattle.zio_frames.specs.Slots.{Heard, IsOut, Slot, left_behind_slots}

-- whatever its operations are answered, this holds of its end
abbrev pub EndsSo : {A : Type 0} → (A → Type 0) → TaskPlan A → Type 0
EndsSo P (Ends a) = P a
EndsSo P (Asks op more) = (v : Value) → EndsSo P (more v)

pub so_behind : {A : Type 0} (P : A → Type 0) (slots : List Slot) (p : TaskPlan A) → EndsSo P p → EndsSo P (left_behind_slots slots p)
so_behind P [] p h = h
so_behind P (x ∷ slots) (Ends a) h = h
so_behind P (Heard v ∷ slots) (Asks op more) h = so_behind P slots (more v) (h v)
so_behind P (IsOut told ∷ slots) (Asks op more) h = λ v. so_behind P slots (more v) (h v)

pub so_answered : {A : Type 0} (P : A → Type 0) (outs : List (Option (Option Bp))) (p : TaskPlan A) → EndsSo P p → EndsAnswered P outs p
so_answered P [] (Ends a) h = h
so_answered P (told ∷ outs) (Ends a) h = h
so_answered P [] (Asks op more) h = λ v kind. so_answered P [] (more v) (h v)
so_answered P (told ∷ outs) (Asks op more) h = λ v kind fits. so_answered P outs (more v) (h v)

pub so_then : {A B : Type 0} (P : B → Type 0) (p : TaskPlan A) (k : A → TaskPlan B) → ((a : A) → EndsSo P (k a)) → EndsSo P (p >>= k)
so_then P (Ends a) k h = h a
so_then P (Asks op more) k h = λ v. so_then P (more v) k h

-- what holds of the end holds of what is made of it
pub so_turned : {A B : Type 0} (P : A → Type 0) (Q : B → Type 0) (p : TaskPlan A) (f : A → B) → ((a : A) → P a → Q (f a)) → EndsSo P p → EndsSo Q (p >>= λ a. Ends (f a))
so_turned P Q (Ends a) f h e = h a e
so_turned P Q (Asks op more) f h e = λ v. so_turned P Q (more v) f h (e v)

-- ---- the pointer of a request that closes

pub pointer_closed : (b : Bool) (p : Pending) (own : Own) (bits : Bits) (kept : List Child) → (closed_if b p own bits kept).return.child.pointer ≡ own.pointer
pointer_closed true p own bits kept = refl
pointer_closed false p own bits kept = refl
