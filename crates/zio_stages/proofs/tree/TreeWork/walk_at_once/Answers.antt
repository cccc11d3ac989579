use Rattle.std.proofs.Common.{ap}
use Rattle.zio_parts.specs.TreeReads.{Reading}
use Rattle.zio_stages.specs.declared.tree.TreeWork.{TreeWork}
use Rattle.zio_stages.proofs.TreeLemmas.{walked_at_once}
use Rattle.zio_stages.proofs.tree.TreeWork.walk_at_once.Goals as goal

pub hear_walk-requires : goal.hear_walk-requires
hear_walk-requires c = ap (λ (r : Reading). r.phase) c.hand_out_walk.ensures.handed

pub returns-clause-walks : goal.returns-clause-walks
returns-clause-walks c = λ tree asked slots h.
    let mid : TreeWork = record { read = c.hand_out_walk.new.self } in
    let now : TreeWork = record { read = c.hear_walk.new.self } in
    walked_at_once c.args.self.now mid now tree asked slots c.args.walked c.requires c.hand_out_walk.ensures.handed c.hand_out_walk.ensures.slots
    c.hear_walk.ensures.heard c.hear_walk.ensures.slots (c.hear_walk.ensures.left tree.heads) h
