use Rattle.std.proofs.Common.{subst}
use Rattle.zio_masks.specs.declared.stage.Stage.{Stage}
use Rattle.zio_nodes.specs.LeafAts.{LeafStands}
use Rattle.zio_nodes.proofs.LeafLemmas.{leaf_ends}
use Rattle.zio_nodes.proofs.leaf_at.LeafAt.end.Goals as goal

pub returns-clause-moves : goal.returns-clause-moves
returns-clause-moves c = λ tops t st now.
    leaf_ends t c.args.self.now st c.take_found.result now.is c.requires.stage
    (subst (λ (s : Stage). LeafStands s c.args.self.now.is_out c.args.self.now.work) c.requires.stage c.requires.stands)
    (λ a e. c.take_found.ensures t st.outer a now.is.part e)
