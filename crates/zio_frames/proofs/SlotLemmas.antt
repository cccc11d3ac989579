-- Programs with slots put in: the next operation, one that goes out, one that is answered, and the end.
use Rattle.std.proofs.Common.{◌≡◌, ℕ, zero, suc, List, [], ◌∷◌, ◌++◌, length, set, slice_get, Option, Some, None, refl, sym, ap, ◌∙◌}
use Rattle.zio_blkptr.specs.declared.pointer.Bp.{Bp}
use Rattle.zio_trace.specs.Calls.{answered_at}
use Rattle.zio_trace.specs.Plans.{TaskPlan}
use Rattle.zio_trace.specs.Programs.{Ends, Asks, ◌>>=◌}
use Rattle.zio_trace.specs.Tasks.{Task, Value}
use Rattle.zio_frames.specs.Slots.{AsksBehindSlots, Heard, IsOut, Slot, left_behind_slots, outs_before}

-- ---- one more goes out

-- nothing is answered by that
pub slots_more : {A : Type 0} (slots : List Slot) (told : Option (Option Bp)) (p : TaskPlan A) → left_behind_slots (slots ++ IsOut told ∷ []) p ≡ left_behind_slots slots p
slots_more [] told (Ends a) = refl
slots_more [] told (Asks op more) = refl
slots_more (x ∷ slots) told (Ends a) = refl
slots_more (Heard v ∷ slots) told (Asks op more) = slots_more slots told (more v)
slots_more (IsOut out ∷ slots) told (Asks op more) = λ i. Asks op (λ v. slots_more slots told (more v) i)

pub handed_left : {A : Type 0} (slots more : List Slot) (p : TaskPlan A) → more ≡ slots ++ IsOut None ∷ [] → left_behind_slots more p ≡ left_behind_slots slots p
handed_left slots more p e = ap (λ s. left_behind_slots s p) e ∙ slots_more slots None p

-- ---- the next operation

-- the program asks these first, whatever the answers
abbrev pub AsksTasks : {A : Type 0} → List Task → TaskPlan A → Type 0
AsksTasks [] p = Unit {0}
AsksTasks (op ∷ ops) (Ends a) = ⊥
AsksTasks (op ∷ ops) (Asks x more) = (x ≡ op) × ((v : Value) → AsksTasks ops (more v))

pub asks_then : {A B : Type 0} (ops : List Task) (p : TaskPlan A) (k : A → TaskPlan B) → AsksTasks ops p → AsksTasks ops (p >>= k)
asks_then [] p k h = tt
asks_then (op ∷ ops) (Ends a) k h = absurd h
asks_then (op ∷ ops) (Asks x more) k h = (h.0, λ v. asks_then ops (more v) k (h.1 v))

-- the next that is asked stands behind those that are out
pub next_behind_slots : {A : Type 0} (ops : List Task) (slots : List Slot) (op : Task) (p : TaskPlan A) → AsksTasks ops p → slice_get ops (length slots) ≡ Some op
    → AsksBehindSlots slots p op
next_behind_slots [] slots op p h e = absurd (cc)
next_behind_slots (q ∷ ops) [] op (Ends a) h e = absurd h
next_behind_slots (q ∷ ops) [] op (Asks x more) h e = let is : q ≡ op = cc in h.0 ∙ is
next_behind_slots (q ∷ ops) (a ∷ slots) op (Ends b) h e = absurd h
next_behind_slots (q ∷ ops) (Heard v ∷ slots) op (Asks x more) h e = next_behind_slots ops slots op (more v) (h.1 v) e
next_behind_slots (q ∷ ops) (IsOut told ∷ slots) op (Asks x more) h e = λ v _. next_behind_slots ops slots op (more v) (h.1 v) e

-- ---- one is answered

-- an answer put in is the slot that heard it
pub slot_answered : {A : Type 0} (n : ℕ) (v : Value) (told : Option (Option Bp)) (slots : List Slot) (p : TaskPlan A) → slice_get slots n ≡ Some (IsOut told)
    → answered_at (outs_before n slots) v (left_behind_slots slots p) ≡ left_behind_slots (set slots n (Heard v)) p
slot_answered n v told [] p e = absurd (cc)
slot_answered zero v told (x ∷ slots) (Ends c) e = refl
slot_answered (suc n) v told (x ∷ slots) (Ends c) e = refl
slot_answered zero v told (Heard b ∷ slots) (Asks op more) e = absurd (cc)
slot_answered zero v told (IsOut out ∷ slots) (Asks op more) e = refl
slot_answered (suc n) v told (Heard b ∷ slots) (Asks op more) e = slot_answered n v told slots (more b) e
slot_answered (suc n) v told (IsOut out ∷ slots) (Asks op more) e = λ i. Asks op (λ w. slot_answered n v told slots (more w) e i)

pub heard_left : {A : Type 0} (n : ℕ) (v : Value) (slots after : List Slot) (p : TaskPlan A) → slice_get slots n ≡ Some (IsOut None) → after ≡ set slots n (Heard v) →
    left_behind_slots after p ≡ answered_at (outs_before n slots) v (left_behind_slots slots p)
heard_left n v slots after p out e = ap (λ s. left_behind_slots s p) e ∙ sym (slot_answered n v None slots p out)

-- ---- all are answered

-- the slots answer the whole program, which ends with this
abbrev pub AnswerAll : {A : Type 0} → List Slot → TaskPlan A → A → Type 0
AnswerAll [] p a = p ≡ Ends a
AnswerAll (x ∷ slots) (Ends b) a = ⊥
AnswerAll (IsOut told ∷ slots) (Asks op more) a = ⊥
AnswerAll (Heard v ∷ slots) (Asks op more) a = AnswerAll slots (more v) a

pub answers_then : {A B : Type 0} (slots : List Slot) (p : TaskPlan A) (a : A) (k : A → TaskPlan B) (b : B) → AnswerAll slots p a → k a ≡ Ends b → AnswerAll slots (p >>= k) b
answers_then [] p a k b h e = ap (λ q. q >>= k) h ∙ e
answers_then (x ∷ slots) (Ends c) a k b h e = absurd h
answers_then (IsOut told ∷ slots) (Asks op more) a k b h e = absurd h
answers_then (Heard v ∷ slots) (Asks op more) a k b h e = answers_then slots (more v) a k b h e

pub all_answered : {A : Type 0} (slots : List Slot) (p : TaskPlan A) (a : A) → AnswerAll slots p a → left_behind_slots slots p ≡ Ends a
all_answered [] p a h = h
all_answered (x ∷ slots) (Ends c) a h = absurd h
all_answered (IsOut told ∷ slots) (Asks op more) a h = absurd h
all_answered (Heard v ∷ slots) (Asks op more) a h = all_answered slots (more v) a h
