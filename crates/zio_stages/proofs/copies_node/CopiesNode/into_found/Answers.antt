use Rattle.zio_frames.specs.Frames.{asking}
use Rattle.zio_stages.proofs.CopiesNodeLemmas.{read_node_ends}
use Rattle.zio_stages.proofs.copies_node.CopiesNode.into_found.Goals as goal

pub returns : goal.returns
returns c = λ t st e h.
    read_node_ends t c.args.tops.now c.args.self.io c.args.self.family st c.into_found.result h c.requires.ended (c.into_found.ensures t (asking st) e h.part)
