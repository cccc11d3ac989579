-- Which operations of a device queue are taken together.
use Rattle.std.specs.Prelude.{◌≡◌, ℕ, ◌+◌, ◌≤◌, List, [], ◌∷◌, ◌++◌, Bool, true, false, ◌&&◌, not, Some, filter, slice_set}
use Rattle.std.specs.Bool.{beq}
use Rattle.zio_vqueue.specs.declared.op.Op.{Op}
use Rattle.zio_vqueue.specs.declared.op.Group.{Group}
use Rattle.zio_vqueue.specs.Classes.{class_number}
use Rattle.zio_vqueue.specs.Queues.{Queue, active_of, arranged, eligible, end_of, first_in, without}

-- bytes in a group's span, at most
abbrev pub span_max : ℕ
span_max = 1048576

-- bytes between two neighbours of a group, at most: reads may drop some, writes have none to write
abbrev pub gap_max : Bool → ℕ
gap_max true = 0
gap_max false = 32768

-- an operation may be taken with another: it reads or writes as that does, repairs as that does, and may be joined
abbrev pub may_join : Op → Op → Bool
may_join first o = beq o.write first.write && beq o.flags.repair first.flags.repair && not o.flags.dont_aggregate

-- those that may be taken with the first, by offset, and where offsets are equal by the time of putting
abbrev pub candidates : Op → List Op → List Op
candidates first ops = arranged (λ o. o.at) (filter (may_join first) ops)

-- the second begins at the end of the first, or after no more than the gap
abbrev pub Follows : ℕ → Op → Op → Type 0
Follows gap o p = (end_of o ≤ p.at) × (p.at ≤ end_of o + gap)

-- each of the operations follows the one before
abbrev pub IsChain : ℕ → Op → List Op → Type 0
IsChain gap o [] = Unit {0}
IsChain gap o (p ∷ ps) = Follows gap o p × IsChain gap p ps

-- the last of an operation and those after it
abbrev pub last_of : Op → List Op → Op
last_of o [] = o
last_of o (p ∷ ps) = last_of p ps

-- from the first byte of an operation to the end of another no more bytes than a span has
abbrev pub Spans : Op → Op → Type 0
Spans o p = end_of p ≤ o.at + span_max

abbrev pub SpansAll : Op → List Op → Type 0
SpansAll o [] = Unit {0}
SpansAll o (p ∷ ps) = Spans o (last_of p ps)

-- operations that may be one group: no gap is too wide, and where there are several the span isn't either
abbrev pub IsRun : ℕ → List Op → Type 0
IsRun gap [] = Unit {0}
IsRun gap (o ∷ os) = IsChain gap o os × SpansAll o os

-- the candidates around the first: the longest run downward that ends with it, and with that the longest run upward
pub record IsLongestRun (ops : List Op) (first : Op) (members : List Op) : Type 0 where
  pub below : List Op
  pub lower : List Op
  pub upper : List Op
  pub above : List Op
  pub around : candidates first ops ≡ (below ++ lower) ++ first ∷ (upper ++ above)
  pub members_are : members ≡ lower ++ first ∷ upper
  pub run : IsRun (gap_max first.write) members
  pub no_lower : (rest : List Op) (o : Op) → below ≡ rest ++ o ∷ [] → IsRun (gap_max first.write) (o ∷ lower ++ first ∷ []) → ⊥
  pub no_higher : (o : Op) (rest : List Op) → above ≡ o ∷ rest → IsRun (gap_max first.write) (members ++ o ∷ []) → ⊥

-- the members of the group of its first operation, which may want to be alone
pub record AreTakenWith (ops : List Op) (first : Op) (members : List Op) : Type 0 where
  pub alone : first.flags.dont_aggregate ≡ true → members ≡ first ∷ []
  pub joined : first.flags.dont_aggregate ≡ false → IsLongestRun ops first members

abbrev pub IsSpanOf : Group → List Op → Type 0
IsSpanOf group [] = ⊥
IsSpanOf group (o ∷ os) = (group.at ≡ o.at) × (group.at + group.len ≡ end_of (last_of o os))

-- the group that is taken: of the eligible class, around its first operation, from the lowest offset to the highest end
pub record IsNextGroup (q : Queue) (group : Group) : Type 0 where
  pub first : Op
  pub class : eligible q ≡ Some group.prio
  pub first_is : first_in group.prio q.last q.queued ≡ Some first
  pub members : AreTakenWith q.queued first group.ops
  pub span : IsSpanOf group group.ops

-- the queue after a group is taken
abbrev pub after_take : Queue → Group → Queue
after_take q group = record {
  queued = without group.ops q.queued;
  active = slice_set q.active (class_number group.prio) (active_of q group.prio + 1);
  last = group.at + group.len;
}
