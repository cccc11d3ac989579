use Rattle.std.proofs.Common.{arith}
use Rattle.zio_spelled.specs.Rounds.{lines_of_rounds, rounds_left}
use Rattle.zio_spelled.proofs.CountLemmas.{few_rounds, none_spelled, one_counted}
use Rattle.zio_spelled.proofs.count.count_rounds.Goals as goal

pub overflow_add-count : goal.overflow_add-count
overflow_add-count c =
    let few = few_rounds c.args.text.now in
    let whole = c.loop-count.invariant.whole in
    omega (arith, few, whole, c.requires.short)

pub overflow_add-count-in-Ok-Some : goal.overflow_add-count-in-Ok-Some
overflow_add-count-in-Ok-Some c =
    let few = few_rounds c.args.text.now in
    let whole = c.loop-count.invariant.whole in
    omega (arith, few, whole, c.requires.short)

pub returns-in-Err-Faulty : goal.returns-in-Err-Faulty
returns-in-Err-Faulty c =
    let none = rw c.in-Err-Faulty.field-0-is at c.in-Err-Faulty.ensures.fault in
    none_spelled c.args.tops.now c.args.text.now c.loop-count.count (rounds_left c.loop-count.rounds) c.loop-count.invariant none

pub loop-count-preserved-in-Ok-Some : goal.loop-count-preserved-in-Ok-Some
loop-count-preserved-in-Ok-Some c =
    let read = rw c.in-Ok-Some.field-0-is at c.in-Ok-Some.ensures.read in
    one_counted c.args.tops.now (lines_of_rounds c.args.text.now) c.loop-count.count (rounds_left c.loop-count.rounds) (rounds_left c.next_round.new.self) c.in-Ok-Some.field-0-0
    c.loop-count.invariant read.0 read.1
