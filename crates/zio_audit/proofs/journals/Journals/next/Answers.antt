use Rattle.std.proofs.Common.{◌+◌, length, sym, ap, ◌∙◌, arith}
use Rattle.zio_spelled.specs.Rounds.{rounds_left}
use Rattle.zio_spelled.specs.Spelled.{first_of}
use Rattle.zio_audit.proofs.JournalReads.{few_left, next_is, one_spelled}
use Rattle.zio_audit.proofs.journals.Journals.next.Goals as goal

pub overflow_add-self-inside : goal.overflow_add-self-inside
overflow_add-self-inside c = let few = c.self.invariant.few in omega arith

pub unreachable-requires : goal.unreachable-requires
unreachable-requires c =
    let none = rw c.in-Err-Faulty.field-0-is at c.in-Err-Faulty.ensures.fault in
    one_spelled c.self.inside.tops.now c.self.inside.read (rounds_left c.self.inside.rounds) c.self.invariant none

pub returns-in-Ok-Some-clause-next : goal.returns-in-Ok-Some-clause-next
returns-in-Ok-Some-clause-next c =
    let left = rounds_left c.self.inside.rounds in
    let read = rw c.in-Ok-Some.field-0-is at c.in-Ok-Some.ensures.read in
    sym c.self.view_is ∙ next_is c.self.inside.tops.now c.self.inside.read left (rounds_left c.next_round.new.self) (first_of left) read.0 c.in-Ok-Some.journal read.1

pub returns-in-Ok-Some-clause-few : goal.returns-in-Ok-Some-clause-few
returns-in-Ok-Some-clause-few c =
    let few = c.self.invariant.few in
    let long = ap length (sym c.self.view_is) ∙ few_left c.self.inside.tops.now (c.self.inside.read + 1) (rounds_left c.self.inside.rounds) in
    omega (arith, few, long)

pub returns-in-Err-Memory-clause-few : goal.returns-in-Err-Memory-clause-few
returns-in-Err-Memory-clause-few c =
    let few = c.self.invariant.few in
    let long = ap length (sym c.self.view_is) ∙ few_left c.self.inside.tops.now (c.self.inside.read + 1) (rounds_left c.self.inside.rounds) in
    omega (arith, few, long)
