-- What a program asks behind those of its operations that are out, where each is answered by a value of its own kind.
use Rattle.std.specs.Prelude.{◌≡◌, List, [], ◌∷◌, Option}
use Rattle.zio_blkptr.specs.declared.pointer.Bp.{Bp}
use Rattle.zio_trace.specs.Calls.{FitsEarly}
use Rattle.zio_trace.specs.Plans.{TaskPlan}
use Rattle.zio_trace.specs.Programs.{Ends, Asks}
use Rattle.zio_trace.specs.Tasks.{Attempt, AttemptedBy, One, Stored, StoredAs, Task, Value, WritePart}
use Rattle.zio_trace.specs.Underway.{early}
use Rattle.zio_frames.specs.Slots.{Slot, left_behind_slots, told_in}

-- a part that is written leaves what was stored, and an attempt what it left of its request, with that number
abbrev pub IsAnswerTo : Task → Value → Type 0
IsAnswerTo (WritePart attempt p sum copies levels path bytes) v = (x : Stored) × (v ≡ StoredAs x)
IsAnswerTo (Attempt attempt p kids) v = (one : One) × (v ≡ AttemptedBy one) × (one.return.child.number ≡ p.request.number)
IsAnswerTo _ v = Unit {0}

-- the operation that is asked behind those that are out, whatever of their kind these are answered
abbrev pub NextAnswered : {A : Type 0} → List (Option (Option Bp)) → TaskPlan A → Task → Type 0
NextAnswered outs (Ends a) op = ⊥
NextAnswered [] (Asks next more) op = next ≡ op
NextAnswered (told ∷ outs) (Asks next more) op = (v : Value) → IsAnswerTo next v → FitsEarly early told v → NextAnswered outs (more v) op

abbrev pub AsksBehindAnswers : {A : Type 0} → List Slot → TaskPlan A → Task → Type 0
AsksBehindAnswers slots p op = NextAnswered (told_in slots) (left_behind_slots slots p) op

-- whatever of their kind the operations that are out, and those behind them, are answered, this holds of its end
abbrev pub EndsAnswered : {A : Type 0} → (A → Type 0) → List (Option (Option Bp)) → TaskPlan A → Type 0
EndsAnswered P outs (Ends a) = P a
EndsAnswered P [] (Asks next more) = (v : Value) → IsAnswerTo next v → EndsAnswered P [] (more v)
EndsAnswered P (told ∷ outs) (Asks next more) = (v : Value) → IsAnswerTo next v → FitsEarly early told v → EndsAnswered P outs (more v)
