-- A program that stands first in a larger one, or behind operations that have their answers.
use Rattle.std.proofs.Common.{◌≡◌, List, [], ◌∷◌, ◌++◌, Option, refl, ap}
use Rattle.zio_blkptr.specs.declared.pointer.Bp.{Bp}
use Rattle.zio_trace.specs.Plans.{TaskPlan}
use Rattle.zio_trace.specs.Programs.{Ends, Asks, ◌>>=◌}
use Rattle.zio_trace.specs.Tasks.{Task}
use Rattle.zio_frames.specs.Answering.{EndsAnswered, NextAnswered}
use Rattle.zio_frames.specs.Slots.{AllHeard, Heard, IsOut, Slot, left_behind_slots, told_in}
use Rattle.zio_frames.proofs.SlotLemmas.{AnswerAll}

-- ---- first

next_first : {A B : Type 0} (outs : List (Option (Option Bp))) (p : TaskPlan A) (k : A → TaskPlan B) (op : Task) → NextAnswered outs p op → NextAnswered outs (p >>= k) op
next_first outs (Ends a) k op h = absurd h
next_first [] (Asks next more) k op h = h
next_first (told ∷ outs) (Asks next more) k op h = λ v kind fits. next_first outs (more v) k op (h v kind fits)

-- what the first asks, the whole asks
pub next_within : {A B : Type 0} (slots : List Slot) (p : TaskPlan A) (k : A → TaskPlan B) (op : Task) → NextAnswered (told_in slots) (left_behind_slots slots p) op
    → NextAnswered (told_in slots) (left_behind_slots slots (p >>= k)) op
next_within [] p k op h = next_first [] p k op h
next_within (s ∷ slots) (Ends a) k op h = absurd h
next_within (Heard v ∷ slots) (Asks x more) k op h = next_within slots (more v) k op h
next_within (IsOut told ∷ slots) (Asks x more) k op h = λ v kind fits. next_within slots (more v) k op (h v kind fits)

-- whatever of its end the first has, and the rest makes of that
pub ends_first : {A B : Type 0} (P : A → Type 0) (Q : B → Type 0) (outs : List (Option (Option Bp))) (p : TaskPlan A) (f : A → B) → ((a : A) → P a → Q (f a)) → EndsAnswered P outs p
    → EndsAnswered Q outs (p >>= λ a. Ends (f a))
ends_first P Q outs (Ends a) f h e = h a e
ends_first P Q [] (Asks x more) f h e = λ v kind. ends_first P Q [] (more v) f h (e v kind)
ends_first P Q (told ∷ outs) (Asks x more) f h e = λ v kind fits. ends_first P Q outs (more v) f h (e v kind fits)

-- what is left where only the end is turned into another
pub left_turned : {A B : Type 0} (slots : List Slot) (p : TaskPlan A) (f : A → B) → left_behind_slots slots (p >>= λ a. Ends (f a)) ≡ (left_behind_slots slots p >>= λ a. Ends (f a))
left_turned [] p f = refl
left_turned (s ∷ slots) (Ends a) f = refl
left_turned (Heard v ∷ slots) (Asks x more) f = left_turned slots (more v) f
left_turned (IsOut told ∷ slots) (Asks x more) f = λ i. Asks x (λ v. left_turned slots (more v) f i)

-- ---- behind

-- of the first each operation has its answer, so the rest is as if it stood alone
pub left_within : {A B : Type 0} (front rest : List Slot) (p : TaskPlan A) (a : A) (k : A → TaskPlan B) → AnswerAll front p a → left_behind_slots (front ++ rest) (p >>= k) ≡ left_behind_slots rest (k a)
left_within [] rest p a k h = ap (λ q. left_behind_slots rest (q >>= k)) h
left_within (s ∷ front) rest (Ends b) a k h = absurd h
left_within (IsOut told ∷ front) rest (Asks x more) a k h = absurd h
left_within (Heard v ∷ front) rest (Asks x more) a k h = left_within front rest (more v) a k h

pub told_within : (front rest : List Slot) → AllHeard front → told_in (front ++ rest) ≡ told_in rest
told_within [] rest h = refl
told_within (Heard v ∷ front) rest h = told_within front rest h
told_within (IsOut told ∷ front) rest h = absurd (cc)
