use Rattle.std.proofs.lemmas.Result.{on_ok_weaker}
use Rattle.zio_blkptr.proofs.PointerLemmas.{spelling-pointer}
use Rattle.zio_gang.proofs.PlaceLemmas.{named_places, no_places}
use Rattle.zio_gang.proofs.tree.add_member.Goals as goal

pub add_places-requires : goal.add_places-requires
add_places-requires c = (spelling-pointer c.args.slot.now c.in-Ok.bp c.in-Ok.ensures.pointer).0

pub returns-in-Ok : goal.returns-in-Ok
returns-in-Ok c =
    on_ok_weaker c.add_places.result
    (named_places c.args.slot.now c.in-Ok.bp c.args.places.now c.add_places.new.places c.in-Ok.ensures.pointer) c.add_places.ensures

pub returns-in-Err : goal.returns-in-Err
returns-in-Err c = no_places c.args.slot.now c.args.places.now c.in-Err.ensures.pointer
