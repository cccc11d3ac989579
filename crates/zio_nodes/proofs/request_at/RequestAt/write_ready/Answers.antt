use Rattle.std.proofs.Common.{ap, arith, refl, true}
use Rattle.zio_masks.specs.declared.stage.Stage.TheVariants.{Ready, VdevIoStart}
use Rattle.zio_nodes.specs.Told.{is_told}
use Rattle.zio_nodes.specs.declared.request_at.RequestAt.{RequestAt}
use Rattle.zio_nodes.proofs.RequestBoundLemmas.{io_most}
use Rattle.zio_nodes.proofs.RequestMoves.{request_tells, request_waits}
use Rattle.zio_nodes.proofs.StageLemmas.{write_ready}
use Rattle.zio_nodes.proofs.WriteLemmas.{all_out, left_in, stands_in, stands_to}
use Rattle.zio_nodes.proofs.StageLeads.{write_leads}
use Rattle.zio_types.specs.declared.request.Phase.TheVariants.{Ready as ReadyPhase}
use Rattle.zio_nodes.proofs.StageAllows.{stalls_so}
use Rattle.zio_nodes.specs.StageMoves.{stalls_at}
use Rattle.zio_nodes.proofs.request_at.RequestAt.write_ready.Goals as goal

pub ready_write-requires : goal.ready_write-requires
ready_write-requires c =
    let at = c.args.self.now in
    stands_in c.requires.over.0 at.stage Ready at.is_due at.node c.requires.kind c.requires.stage tt c.requires.over.1.stands

pub returns-in-Wait-clause-moves : goal.returns-in-Wait-clause-moves
returns-in-Wait-clause-moves c = λ tops t st now.
    request_waits t st c.args.self.now c.args.self.now c.in-Wait.kind _ now.is refl refl (c.ready_write.ensures.wait c.in-Wait.kind c.in-Wait.is t st now.seated now.is)

pub returns-in-Tell-clause-moves : goal.returns-in-Tell-clause-moves
returns-in-Tell-clause-moves c = λ tops t st now.
    request_tells t st c.args.self.now _ c.in-Tell.pointer now.is now.is (c.ready_write.ensures.tell c.in-Tell.pointer c.in-Tell.is t st now.is)
    (ap is_told c.requires.stage) (ap is_told (write_ready c.next-self.result c.next-self.ensures)) refl

pub returns-in-Tell-clause-over : goal.returns-in-Tell-clause-over
returns-in-Tell-clause-over c = λ tops h.
    let at = c.args.self.now in
    record {
      over = h.over;
      stands = stands_to tops c.next-self.result VdevIoStart true at.node c.requires.kind (write_ready c.next-self.result c.next-self.ensures) tt
          (all_out tops at.stage Ready at.is_due at.node c.requires.stage tt h.stands) (c.ready_write.ensures.ready c.in-Tell.pointer c.in-Tell.is, refl);
    }

pub returns-in-Tell-clause-may : goal.returns-in-Tell-clause-may
returns-in-Tell-clause-may c = (tt, c.ready_write.ensures.valid c.in-Tell.pointer c.in-Tell.is)

pub returns-in-Tell-clause-left : goal.returns-in-Tell-clause-left
returns-in-Tell-clause-left c =
    let at = c.args.self.now in
    let after : RequestAt = record { node = at.node; stage = c.next-self.result; is_due = true } in
    omega (
      arith,
      left_in at Ready c.requires.kind c.requires.stage tt,
      left_in after VdevIoStart c.requires.kind (write_ready c.next-self.result c.next-self.ensures) tt,
      io_most at.node.own,
    )

pub returns-in-Tell-clause-stages : goal.returns-in-Tell-clause-stages
returns-in-Tell-clause-stages c = (c.requires.stage, (write_leads c.args.self.now Ready c.next-self.result c.requires.kind c.requires.stage c.next-self.ensures))

pub returns-in-Wait-clause-stages : goal.returns-in-Wait-clause-stages
returns-in-Wait-clause-stages c =
    (refl, stalls_so c.args.self.now.stage Ready c.in-Wait.kind ReadyPhase c.requires.stage (ap (λ k. stalls_at Ready k ReadyPhase) (c.ready_write.ensures.kind c.in-Wait.kind c.in-Wait.is)))
