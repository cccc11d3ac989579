use Rattle.std.proofs.Common.{subst, sym}
use Rattle.zio_trace.specs.Leaves.{Answer}
use Rattle.zio_trace.specs.Tasks.{Got}
use Rattle.zio_frames.specs.Moves.{IsEnded}
use Rattle.zio_nodes.proofs.CopiesLemmas.{copies_end}
use Rattle.zio_nodes.proofs.copies_at.CopiesAt.into_outcome.Goals as goal

pub returns-clause-moves : goal.returns-clause-moves
returns-clause-moves c = λ t st now.
    copies_end t c.args.self st c.unsummed.result now.is c.requires.stage
    (subst (λ (a : Answer). IsEnded t st (Got a)) (sym c.unsummed.ensures) (c.into_found.ensures t st now.tops_are now.is.read))
