-- What a device queue holds, which class is served next, and which operation of it is the first.
use Rattle.std.specs.Prelude.{◌≡◌, ℕ, ◌+◌, ◌≤◌, ◌^◌, List, [], ◌∷◌, Bool, true, false, ◌&&◌, ◌||◌, not, Option, Some, None, ◌==◌, if◌then◌else◌, nat_le, nat_lt, find, filter, get_or}
use Rattle.std.specs.List.{list_any}
use Rattle.zio_types.specs.declared.request.Prio.{Prio}
use Rattle.zio_vqueue.specs.declared.op.Op.{Op}
use Rattle.zio_vqueue.specs.Classes.{class_number, classes, is_sync, maximum_of, minimum_of}

-- the queued operations in the order of putting, the active groups of each class in their order, and the end of the last group taken
pub record Queue : Type 0 where
  pub queued : List Op
  pub active : List ℕ
  pub last : ℕ

-- the byte after an operation's last
abbrev pub end_of : Op → ℕ
end_of o = o.at + o.len

-- an operation ends on a device of up to 2^48 bytes
abbrev pub FitsDevice : Op → Type 0
FitsDevice o = end_of o ≤ 2 ^ 48

-- an operation with this ticket is queued
abbrev pub is_queued : ℕ → List Op → Bool
is_queued ticket ops = list_any (λ o. o.ticket == ticket) ops

-- no two operations have one ticket
abbrev pub AreApart : List Op → Type 0
AreApart [] = Unit {0}
AreApart (o ∷ os) = (is_queued o.ticket os ≡ false) × AreApart os

-- a class's active groups
abbrev pub active_of : Queue → Prio → ℕ
active_of q prio = get_or q.active (class_number prio) 0

abbrev pub is_in_class : Prio → Op → Bool
is_in_class prio o = class_number o.prio == class_number prio

-- a class has queued operations, and fewer active groups than the limit
abbrev pub is_due : (Prio → ℕ) → Queue → Prio → Bool
is_due limit q prio = list_any (is_in_class prio) q.queued && nat_lt (active_of q prio) (limit prio)

abbrev pub or_else : {X : Type 0} → Option X → Option X → Option X
or_else (Some x) other = Some x
or_else None other = other

-- the first class below its minimum, or else the first below its maximum
abbrev pub eligible : Queue → Option Prio
eligible q = or_else (find (is_due minimum_of q) classes) (find (is_due maximum_of q) classes)

-- an operation put in before the first that isn't below it by rank
abbrev pub put_before : (Op → ℕ) → Op → List Op → List Op
put_before rank o [] = o ∷ []
put_before rank o (p ∷ ps) = if nat_le (rank o) (rank p) then o ∷ p ∷ ps else p ∷ put_before rank o ps

-- operations by rising rank, those of equal rank as they stood
abbrev pub arranged : (Op → ℕ) → List Op → List Op
arranged rank [] = []
arranged rank (o ∷ os) = put_before rank o (arranged rank os)

-- what orders a class's operations before the time of putting: the offset, and nothing in a sync class
abbrev pub turn_in : Bool → Op → ℕ
turn_in true o = 0
turn_in false o = o.at

-- a class's operations in the order in which they are served from offset 0 on
abbrev pub in_turn : Prio → List Op → List Op
in_turn prio ops = arranged (turn_in (is_sync prio)) (filter (is_in_class prio) ops)

-- the first of a class that is served: in a sync class the one that was put first; else the one of the least offset at or after the end of the last group, or else of the least offset
abbrev pub first_in : Prio → ℕ → List Op → Option Op
first_in prio last ops = or_else (find (λ o. is_sync prio || nat_le last o.at) (in_turn prio ops)) (find (λ o. true) (in_turn prio ops))

-- the operations without those that have the tickets of others
abbrev pub without : List Op → List Op → List Op
without [] ops = ops
without (m ∷ ms) ops = without ms (filter (λ o. not (o.ticket == m.ticket)) ops)
