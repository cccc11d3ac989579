use Rattle.std.proofs.Common.{ap, arith, length, sym, subst, ◌∙◌, ◌≡◌, inl}
use Rattle.zio_script.specs.Requests.{kind_of}
use Rattle.zio_masks.specs.declared.stage.Stage.{Stage}
use Rattle.zio_masks.specs.declared.stage.Stage.TheVariants.{ChecksumGenerate, WriteCompress}
use Rattle.zio_stages.specs.KidTrees.{KidsHeld}
use Rattle.zio_stages.specs.declared.request_write.Block.{Block}
use Rattle.zio_stages.specs.declared.request_node.RequestNode.{RequestNode}
use Rattle.zio_nodes.specs.Aheads.{FitsBlock, FitsRequest}
use Rattle.zio_nodes.specs.Stalls.{OweNone}
use Rattle.zio_nodes.specs.Told.{is_told}
use Rattle.zio_nodes.specs.declared.ahead.Ahead.{Ahead}
use Rattle.zio_nodes.specs.declared.ahead.Ahead.TheVariants.{OfWrite}
use Rattle.zio_nodes.specs.declared.request_at.RequestAt.{RequestAt}
use Rattle.zio_nodes.proofs.KidMarks.{over_own}
use Rattle.zio_nodes.proofs.RequestMoves.{request_goes}
use Rattle.zio_nodes.proofs.StageLeads.{write_leads}
use Rattle.zio_nodes.proofs.StageLemmas.{write_set}
use Rattle.zio_nodes.proofs.WriteLemmas.{all_out, due_unstored, none_gave, stands_in, stands_to, write_less, written_unstored}
use Rattle.zio_nodes.proofs.request_at.RequestAt.go_on.Goals as goal

-- what fits it is the block that was reckoned
fitting : (at : RequestAt) (ahead : Ahead) (block : Block) → ahead ≡ OfWrite block → FitsRequest at ahead → FitsBlock at block
fitting at ahead block is fits = subst (FitsRequest at) is fits

pub set_block-requires-clause-due : goal.set_block-requires-clause-due
set_block-requires-clause-due c =
    let at = c.args.self.now in
    let over = c.requires.over in
    stands_in over.0 at.stage WriteCompress at.is_due at.node (fitting c.args.self.now _ _ c.in-OfWrite.is c.requires.fits).kind (fitting c.args.self.now _ _ c.in-OfWrite.is c.requires.fits).stage tt over.1.stands

pub set_block-requires-clause-fits : goal.set_block-requires-clause-fits
set_block-requires-clause-fits c = (fitting c.args.self.now _ _ c.in-OfWrite.is c.requires.fits).is

pub returns-clause-moves : goal.returns-clause-moves
returns-clause-moves c = λ tops t st now.
    let at = c.args.self.now in
    let new = c.set_block.new.self in
    let over = c.requires.over in
    let fits = fitting c.args.self.now _ _ c.in-OfWrite.is c.requires.fits in
    let due = stands_in over.0 at.stage WriteCompress at.is_due at.node fits.kind fits.stage tt over.1.stands in
    let kind = ap (λ (r : RequestNode). kind_of r.waiting.request.work) c.set_block.ensures.rest ∙ fits.kind in
    request_goes t st at _ (c.set_block.ensures.set t st now.is)
    (ap is_told (write_set c.next-self.result c.next-self.ensures) ∙ sym (ap is_told fits.stage))
    (none_gave new kind (written_unstored _ new.own c.set_block.ensures.begun) ∙ sym (none_gave at.node fits.kind (due_unstored at.node.own due)))

pub returns-clause-over : goal.returns-clause-over
returns-clause-over c = λ tops h.
    let at = c.args.self.now in
    let new = c.set_block.new.self in
    let rest = c.set_block.ensures.rest in
    let fits = fitting c.args.self.now _ _ c.in-OfWrite.is c.requires.fits in
    let kind = ap (λ (r : RequestNode). kind_of r.waiting.request.work) rest ∙ fits.kind in
    let out = all_out tops at.stage WriteCompress at.is_due at.node fits.stage tt h.stands in
    record {
      over = over_own tops at.node new at.node.family rest h.over (c.set_block.ensures.over tops h.over.own);
      stands = stands_to tops c.next-self.result ChecksumGenerate at.is_due new kind (write_set c.next-self.result c.next-self.ensures) tt
          (subst (λ (k : KidsHeld). k.kids.handed ≡ length k.kids.kids) (sym (ap (λ (r : RequestNode). r.kids) rest)) out) c.set_block.ensures.begun;
    }

pub returns-clause-left : goal.returns-clause-left
returns-clause-left c =
    let at = c.args.self.now in
    let new = c.set_block.new.self in
    let rest = c.set_block.ensures.rest in
    let fits = fitting c.args.self.now _ _ c.in-OfWrite.is c.requires.fits in
    let after : RequestAt = record { node = new; stage = c.next-self.result; is_due = at.is_due } in
    write_less at after WriteCompress ChecksumGenerate fits.kind (ap (λ (r : RequestNode). kind_of r.waiting.request.work) rest ∙ fits.kind) fits.stage
    (write_set c.next-self.result c.next-self.ensures) tt tt (ap (λ (r : RequestNode). r.kids.due) rest) (omega arith)

pub returns-clause-stages : goal.returns-clause-stages
returns-clause-stages c = inl (write_leads c.args.self.now WriteCompress c.next-self.result (fitting c.args.self.now _ _ c.in-OfWrite.is c.requires.fits).kind (fitting c.args.self.now _ _ c.in-OfWrite.is c.requires.fits).stage c.next-self.ensures)

pub returns-clause-leaves : goal.returns-clause-leaves
returns-clause-leaves c =
    subst (λ (s : Stage). OweNone s c.args.self.now.node.family) (sym (fitting c.args.self.now _ _ c.in-OfWrite.is c.requires.fits).stage) (fitting c.args.self.now _ _ c.in-OfWrite.is c.requires.fits).none
