use Rattle.std.proofs.lemmas.Result.{on_ok_weaker}
use Rattle.zio_gang.proofs.MemberLemmas.{none_named, one_named}
use Rattle.zio_gang.proofs.members.add_named.Goals as goal

pub returns-in-Ok : goal.returns-in-Ok
returns-in-Ok c =
    on_ok_weaker c.add.result (one_named c.args.slot.now c.in-Ok.bp c.args.members.now c.add.new.members c.in-Ok.ensures.pointer) c.add.ensures

pub returns-in-Err : goal.returns-in-Err
returns-in-Err c = none_named c.args.slot.now c.args.members.now c.in-Err.ensures.pointer
