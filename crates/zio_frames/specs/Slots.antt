-- A program some of whose first operations have their answers, while others of these are out and may have told a pointer.
use Rattle.std.specs.Prelude.{◌≡◌, ℕ, zero, suc, List, [], ◌∷◌, Option}
use Rattle.zio_blkptr.specs.declared.pointer.Bp.{Bp}
use Rattle.zio_trace.specs.Calls.{NextIs}
use Rattle.zio_trace.specs.Programs.{Program, Ends, Asks}
use Rattle.zio_trace.specs.Tasks.{Task, Value}
use Rattle.zio_trace.specs.Underway.{early}

-- an operation that was handed out: it is out, and may have told which pointer its value has, or it has its answer
pub data Slot : Type 0 where
  IsOut : (told : Option (Option Bp)) → Slot
  Heard : Value → Slot

-- what is left of the program whose first operations are these
abbrev pub left_behind_slots : {Op A : Type 0} → List Slot → Program Op Value A → Program Op Value A
left_behind_slots [] p = p
left_behind_slots (x ∷ slots) (Ends a) = Ends a
left_behind_slots (Heard v ∷ slots) (Asks op more) = left_behind_slots slots (more v)
left_behind_slots (IsOut told ∷ slots) (Asks op more) = Asks op (λ v. left_behind_slots slots (more v))

-- of those that are out, what each told
abbrev pub told_in : List Slot → List (Option (Option Bp))
told_in [] = []
told_in (Heard v ∷ slots) = told_in slots
told_in (IsOut told ∷ slots) = told ∷ told_in slots

-- how many of the first n are out
abbrev pub outs_before : ℕ → List Slot → ℕ
outs_before zero slots = 0
outs_before (suc n) [] = 0
outs_before (suc n) (Heard v ∷ slots) = outs_before n slots
outs_before (suc n) (IsOut told ∷ slots) = suc (outs_before n slots)

-- none is out
abbrev pub AllHeard : List Slot → Type 0
AllHeard slots = told_in slots ≡ []

-- the operation that the program asks behind these, whatever those that are out are answered
abbrev pub AsksBehindSlots : {A : Type 0} → List Slot → Program Task Value A → Task → Type 0
AsksBehindSlots slots p op = NextIs early (told_in slots) (left_behind_slots slots p) op
