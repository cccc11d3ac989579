use Rattle.std.proofs.Common.{rules}
use Rattle.zio_spelled.specs.Rounds.{rounds_left}
use Rattle.zio_spelled.proofs.RoundLemmas.{read_fault, read_to_end, read_to_head}
use Rattle.zio_spelled.proofs.rounds.Rounds.next_round.Goals as goal

pub returns-then-is_round-clause-read : goal.returns-then-is_round-clause-read
returns-then-is_round-clause-read c =
    let i = c.loop-line.invariant in
    read_to_head c.args.tops.now c.args.round (rounds_left c.args.self.now) c.in-Some.text.now c.loop-line.rest.now c.in-Some-next_line.behind.now c.in-Some-next_line.line.now c.loop-line.journal
    (search rules) i.read i.left (search rules) (search rules)

pub returns-clause-read : goal.returns-clause-read
returns-clause-read c =
    let i = c.loop-line.invariant in
    read_to_end c.args.tops.now c.args.round (rounds_left c.args.self.now) c.in-Some.text.now c.loop-line.rest.now c.loop-line.journal
    (search rules) i.read i.left (search rules)

pub returns-in-Err-clause-fault : goal.returns-in-Err-clause-fault
returns-in-Err-clause-fault c =
    let i = c.loop-line.invariant in
    read_fault c.args.tops.now c.args.round (rounds_left c.args.self.now) c.in-Some.text.now c.loop-line.rest.now c.in-Some-next_line.behind.now c.in-Some-next_line.line.now c.loop-line.journal c.in-Err.fault
    (search rules) i.read (search rules) (search rules) c.in-Err.ensures.fault
