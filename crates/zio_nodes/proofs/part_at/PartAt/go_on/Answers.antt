use Rattle.std.proofs.Common.{arith, inl, refl}
use Rattle.zio_stages.proofs.PartMoves.{does_nothing}
use Rattle.zio_nodes.proofs.PartBounds.{one_on}
use Rattle.zio_nodes.proofs.PartLemmas.{part_goes}
use Rattle.zio_nodes.proofs.StageLeads.{next_of}
use Rattle.zio_masks.specs.declared.pipeline.TheConstants.{WRITE}
use Rattle.zio_masks.specs.Stages.{has}
use Rattle.zio_nodes.proofs.PassLemmas.{any_stage}
use Rattle.zio_nodes.proofs.part_at.PartAt.go_on.Goals as goal

pub returns-clause-moves : goal.returns-clause-moves
returns-clause-moves c = λ tops t st now.
    part_goes t st c.args.self.now _ _ (does_nothing t st _ now.is) (one_on c.args.self.now.stage c.next-self.result c.requires.stage c.next-self.ensures).told

pub returns-clause-over : goal.returns-clause-over
returns-clause-over c = λ tops h.
    let at = c.args.self.now in
    let one = one_on at.stage c.next-self.result c.requires.stage c.next-self.ensures in
    record { tops_are = h.tops_are; units = h.units; over = h.over; stands = one.stands tops at.is_due at.node.work h.stands }

pub returns-clause-left : goal.returns-clause-left
returns-clause-left c =
    let at = c.args.self.now in
    let one = one_on at.stage c.next-self.result c.requires.stage c.next-self.ensures in
    omega (arith, one.less, one.write at.node.work.io)

pub returns-clause-stages : goal.returns-clause-stages
returns-clause-stages c =
    inl (next_of WRITE (has WRITE) c.args.self.now.stage c.args.self.now.stage c.next-self.result refl (λ s lt. refl) c.next-self.ensures)

pub returns-clause-pass : goal.returns-clause-pass
returns-clause-pass c = any_stage _ _ _ refl
