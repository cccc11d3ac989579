use Rattle.std.proofs.Common.{ap, arith, refl}
use Rattle.zio_exchange.specs.Waits.{pending_of}
use Rattle.zio_nodes.specs.Told.{is_told}
use Rattle.zio_nodes.specs.declared.request_at.RequestAt.{RequestAt}
use Rattle.zio_nodes.proofs.FirstStages.{null_told}
use Rattle.zio_nodes.proofs.NullLemmas.{null_ends_left, null_goes, null_no_write, null_runs}
use Rattle.zio_nodes.proofs.RequestMoves.{request_tells}
use Rattle.zio_masks.specs.declared.stage.Stage.TheVariants.{Ready}
use Rattle.zio_nodes.proofs.StageLeads.{null_leads}
use Rattle.zio_nodes.proofs.request_at.RequestAt.null_ready.Goals as goal

pub returns-clause-moves : goal.returns-clause-moves
returns-clause-moves c = λ tops t st now.
    let r = c.args.self.now.node in
    request_tells t st c.args.self.now _ _ now.is now.is
    (c.what_is_no_write_has_no_pointer.ensures t st.outer r.attempt (pending_of r.waiting) now.is.forest now.is.op (null_no_write r.waiting.request.work c.requires.kind))
    (ap is_told c.requires.stage) (ap is_told (null_told c.next-self.result c.next-self.ensures)) refl

pub returns-clause-over : goal.returns-clause-over
returns-clause-over c = λ tops h. record {
  over = h.over;
  stands = null_goes tops c.args.self.now.stage c.next-self.result c.args.self.now.is_due c.args.self.now.node c.requires.kind c.requires.stage (null_told c.next-self.result c.next-self.ensures) h.stands;
}

pub returns-clause-left : goal.returns-clause-left
returns-clause-left c =
    let at : RequestAt = record { node = c.args.self.now.node; stage = c.next-self.result; is_due = c.args.self.now.is_due } in
    omega (arith, null_runs c.args.self.now c.requires.kind c.requires.stage, null_ends_left at c.requires.kind (null_told c.next-self.result c.next-self.ensures))

pub returns-clause-stages : goal.returns-clause-stages
returns-clause-stages c = (c.requires.stage, (null_leads c.args.self.now Ready c.next-self.result c.requires.kind c.requires.stage c.next-self.ensures))
