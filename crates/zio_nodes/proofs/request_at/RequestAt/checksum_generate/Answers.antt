use Rattle.std.proofs.Common.{ap, arith, refl, sym, ◌∙◌, inl}
use Rattle.zio_masks.specs.declared.stage.Stage.TheVariants.{ChecksumGenerate, DvaAllocate}
use Rattle.zio_nodes.specs.Told.{is_told}
use Rattle.zio_nodes.specs.declared.request_at.RequestAt.{RequestAt}
use Rattle.zio_nodes.proofs.RequestBoundLemmas.{members_most}
use Rattle.zio_nodes.proofs.RequestMoves.{request_goes}
use Rattle.zio_nodes.proofs.StageLemmas.{write_summed}
use Rattle.zio_nodes.proofs.WriteLemmas.{all_out, stands_in, stands_to, write_less}
use Rattle.zio_nodes.proofs.StageLeads.{write_leads}
use Rattle.zio_nodes.proofs.request_at.RequestAt.checksum_generate.Goals as goal

pub returns-clause-moves : goal.returns-clause-moves
returns-clause-moves c = λ tops t st now.
    request_goes t st c.args.self.now _ now.is (ap is_told (write_summed c.next-self.result c.next-self.ensures) ∙ sym (ap is_told c.requires.stage)) refl

pub returns-clause-over : goal.returns-clause-over
returns-clause-over c = λ tops h.
    let at = c.args.self.now in
    record {
      over = h.over;
      stands = stands_to tops c.next-self.result DvaAllocate at.is_due at.node c.requires.kind (write_summed c.next-self.result c.next-self.ensures) tt
          (all_out tops at.stage ChecksumGenerate at.is_due at.node c.requires.stage tt h.stands)
          (stands_in tops at.stage ChecksumGenerate at.is_due at.node c.requires.kind c.requires.stage tt h.stands);
    }

pub returns-clause-left : goal.returns-clause-left
returns-clause-left c =
    let at = c.args.self.now in
    let after : RequestAt = record { node = at.node; stage = c.next-self.result; is_due = at.is_due } in
    write_less at after ChecksumGenerate DvaAllocate c.requires.kind c.requires.kind c.requires.stage (write_summed c.next-self.result c.next-self.ensures) tt tt refl (omega (arith, members_most at.node.own))

pub returns-clause-stages : goal.returns-clause-stages
returns-clause-stages c = inl (write_leads c.args.self.now ChecksumGenerate c.next-self.result c.requires.kind c.requires.stage c.next-self.ensures)
