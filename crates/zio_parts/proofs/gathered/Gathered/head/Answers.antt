use Rattle.std.proofs.Common.{arith}
use Rattle.zio_parts.specs.declared.gathered.Gathered.{Gathered}
use Rattle.zio_parts.proofs.GatherLemmas.{room_fits}
use Rattle.zio_parts.proofs.gathered.Gathered.head.Goals as goal

pub returns-clause-room : goal.returns-clause-room
returns-clause-room c =
    let all : Gathered = record { errors = c.in_ok-errors.errors; bodies = c.in_ok-bodies.bodies; heads = c.push_reserved.new.self } in
    room_fits c.args.path c.args.bytes c.args.members.now c.room_for-room.result all c.room_for-room.ensures c.in_ok-errors.ensures.capacity c.in_ok-bodies.ensures.capacity
    (omega (arith, c.in_ok-heads.ensures.capacity, c.push_reserved.ensures.capacity))
    (omega (arith, c.in_ok-errors.errors.small)) (omega (arith, c.in_ok-bodies.bodies.small)) (omega (arith, c.push_reserved.new.self.small))
