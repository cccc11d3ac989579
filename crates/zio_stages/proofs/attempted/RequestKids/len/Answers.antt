use Rattle.std.proofs.Common.{length, ap, ◌∙◌}
use Rattle.zio_children.specs.RequestKids.{numbers_of}
use Rattle.zio_stages.specs.KidTrees.{KidsHeld}
use Rattle.zio_stages.proofs.KidMoves.{numbers_count}
use Rattle.zio_stages.proofs.OwnWriteBlock.{numbered_count}
use Rattle.zio_stages.proofs.attempted.RequestKids.len.Goals as goal

pub returns-clause-count : goal.returns-clause-count
returns-clause-count c =
    let x = c.self.inside in
    c.len.ensures ∙ x.again.ok.0 ∙ numbered_count (numbers_of x.kids.kids) x.again.items c.self.invariant.again ∙ numbers_count x.kids.kids
    ∙ ap (λ (v : KidsHeld). length v.kids.kids) c.self.view_is
