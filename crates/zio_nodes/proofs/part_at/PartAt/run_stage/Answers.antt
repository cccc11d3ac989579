use Rattle.zio_nodes.specs.declared.node.Node.TheVariants.{Part}
use Rattle.zio_nodes.proofs.NodeLemmas.{turn_moves, turn_stays}
use Rattle.zio_masks.specs.declared.stage.Stage.TheVariants.{DvaAllocate}
use Rattle.zio_nodes.proofs.PassLemmas.{other_turn}
use Rattle.zio_nodes.proofs.part_at.PartAt.run_stage.Goals as goal

pub returns-in_default-clause-moves : goal.returns-in_default-clause-moves
returns-in_default-clause-moves g c =
    let s = c.args.services.now in
    turn_moves g.S.Services.made (g.S.Services.tops s) c.tops.result.now s (Part c.args.self.now) (Part c.run_bare.new.self) c.run_bare.result c.tops.ensures
    (g.met.S.Services.made_none s) c.run_bare.ensures.moves

pub returns-in_default-clause-refused : goal.returns-in_default-clause-refused
returns-in_default-clause-refused g c =
    let s = c.args.services.now in
    turn_stays g.S.Services.made (g.S.Services.tops s) c.tops.result.now s (Part c.args.self.now) (Part c.run_bare.new.self) c.run_bare.result c.tops.ensures
    (g.met.S.Services.made_none s) c.run_bare.ensures.refused

pub returns-in-DvaAllocate-clause-pass : goal.returns-in-DvaAllocate-clause-pass
returns-in-DvaAllocate-clause-pass g c = other_turn _ DvaAllocate (Part c.args.self.now) (Part c.dva_allocate.new.self) c.dva_allocate.result c.in-DvaAllocate.is tt
