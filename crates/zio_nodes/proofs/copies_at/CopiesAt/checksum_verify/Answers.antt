use Rattle.std.proofs.Common.{ap, sym, ◌∙◌, inl}
use Rattle.zio_nodes.specs.Told.{is_told}
use Rattle.zio_nodes.proofs.CopiesLemmas.{copies_go, copies_lead}
use Rattle.zio_nodes.proofs.StageLemmas.{read_verified}
use Rattle.zio_masks.specs.declared.stage.Stage.TheVariants.{ChecksumVerify}
use Rattle.zio_nodes.proofs.copies_at.CopiesAt.checksum_verify.Goals as goal

pub returns-clause-moves : goal.returns-clause-moves
returns-clause-moves c = λ t st now.
    copies_go t st c.args.self.now _ now.is.read now.is.answers
    (ap is_told (read_verified c.next-self.result c.next-self.ensures) ∙ sym (ap is_told c.requires.stage))

pub returns-clause-stages : goal.returns-clause-stages
returns-clause-stages c = inl (copies_lead c.args.self.now ChecksumVerify c.next-self.result c.requires.stage c.next-self.ensures)
