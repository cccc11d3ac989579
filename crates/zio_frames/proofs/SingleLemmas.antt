-- Single operations: each asks itself, and whatever it is answered is in kind.
use Rattle.std.proofs.Common.{◌≡◌, List, [], ◌∷◌, length, Bool, true, false, Option, Some, None, refl, sym, ap, ◌∙◌, subst, arith}
use Rattle.zio_blkptr.specs.declared.pointer.Bp.{Bp}
use Rattle.zio_gang.specs.Attempts.{Terms}
use Rattle.zio_trace.specs.Calls.{FitsEarly}
use Rattle.zio_trace.specs.Conflicts.{is_single}
use Rattle.zio_trace.specs.Keys.{FitsLeft}
use Rattle.zio_trace.specs.Plans.{TaskPlan, plan}
use Rattle.zio_trace.specs.Programs.{Asks, Ends}
use Rattle.zio_trace.specs.Tasks.{Find, Leaf, StoredAs, TakePlaces, Taken, Task, Value}
use Rattle.zio_trace.specs.Underway.{early}
use Rattle.zio_frames.specs.Answering.{IsAnswerTo, NextAnswered}
use Rattle.zio_frames.specs.Frames.{Frame, fresh_frame}
use Rattle.zio_frames.specs.Moves.{AsksNext}
use Rattle.zio_frames.specs.Slots.{Heard, IsOut, Slot, left_behind_slots, told_in}

pub single_kind : (op : Task) → is_single op ≡ true → (v : Value) → IsAnswerTo op v
single_kind (Leaf act) e v = tt
single_kind (Find a) e v = tt
single_kind (TakePlaces tree) e v = tt
single_kind _ e v = absurd (cc)

pub single_left : (op : Task) → is_single op ≡ true → (v : Value) → FitsLeft op v
single_left (Leaf act) e v = tt
single_left (Find a) e v = tt
single_left (TakePlaces tree) e v = tt
single_left _ e v = absurd (cc)

single_plan : (t : Terms) (op : Task) → is_single op ≡ true → plan t op ≡ Asks op (λ v. Ends v)
single_plan t (Leaf act) e = refl
single_plan t (Find a) e = refl
single_plan t (TakePlaces tree) e = refl
single_plan t _ e = absurd (cc)

-- ---- what it asks

ended_behind : (slots : List Slot) (v : Value) → left_behind_slots {Op = Task} slots (Ends v) ≡ Ends v
ended_behind [] v = refl
ended_behind (x ∷ slots) v = refl

nothing_next : (outs : List (Option (Option Bp))) (v : Value) (op : Task) → NextAnswered {A = Value} outs (Ends v) op → ⊥
nothing_next [] v op h = h
nothing_next (r ∷ outs) v op h = h

nothing_behind : (slots behind : List Slot) (v : Value) (op : Task)
    → NextAnswered (told_in slots) (left_behind_slots behind (Ends v)) op → ⊥
nothing_behind slots behind v op h =
    nothing_next (told_in slots) v op
    (subst (λ (p : TaskPlan Value). NextAnswered (told_in slots) p op) (ended_behind behind v) h)

-- some value has the pointer
some_value : (told : Option (Option Bp)) → (v : Value) × FitsEarly early told v
some_value None = (Taken true, tt)
some_value (Some pointer) = (StoredAs (record { error = None; pointer = pointer; heads = [] }), refl)

asks_itself : (q : Task) (slots : List Slot) (op : Task) → is_single q ≡ true
    → NextAnswered (told_in slots) (left_behind_slots slots (Asks q (λ v. Ends v))) op → (slots ≡ []) × (q ≡ op)
asks_itself q [] op e h = (refl, h)
asks_itself q (Heard v ∷ slots) op e h = absurd (nothing_behind slots slots v op h)
asks_itself q (IsOut told ∷ slots) op e h =
    let some = some_value told in
    absurd (nothing_behind slots slots some.0 op (h some.0 (single_kind q e some.0) some.1))

none_asked : (asked : List Task) → length asked ≡ 0 → asked ≡ []
none_asked [] e = refl
none_asked (x ∷ asked) e = absurd (omega arith)

-- a single part that asks has done nothing, and asks itself
pub single_asks : (t : Terms) (x : Frame) (op : Task) → is_single x.op ≡ true → length x.asked ≡ length x.slots
    → AsksNext t x op → fresh_frame op ≡ x
single_asks t x op e l asks =
    let found =
    asks_itself x.op x.slots op e
    (subst (λ (p : TaskPlan Value). NextAnswered (told_in x.slots) (left_behind_slots x.slots p) op)
    (single_plan t x.op e) asks.next) in
    let slots : [] ≡ x.slots = sym found.0 in
    let asked : [] ≡ x.asked = sym (none_asked x.asked (l ∙ ap length found.0)) in
    λ i. record { op = sym found.1 i; asked = asked i; slots = slots i }

asks_whole_if : (t : Terms) (x : Frame) (op : Task) (b : Bool) → is_single x.op ≡ b → length x.asked ≡ length x.slots
    → AsksNext t x op → is_single op ≡ false → is_single x.op ≡ false
asks_whole_if t x op true e l asks many = ap (λ (y : Frame). is_single y.op) (sym (single_asks t x op e l asks)) ∙ many
asks_whole_if t x op false e l asks many = e

-- one that asks what isn't single isn't
pub asks_whole : (t : Terms) (x : Frame) (op : Task) → length x.asked ≡ length x.slots → AsksNext t x op → is_single op ≡ false
    → is_single x.op ≡ false
asks_whole t x op l asks many = asks_whole_if t x op (is_single x.op) refl l asks many
