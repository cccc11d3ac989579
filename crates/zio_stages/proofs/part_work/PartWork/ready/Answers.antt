use Rattle.std.proofs.Common.{◌≡◌, ◌∙◌, sym, subst}
use Rattle.zio_types.specs.declared.request.ChildKind.{ChildKind}
use Rattle.zio_types.specs.declared.request.ChildKind.TheVariants.{Gang}
use Rattle.zio_types.specs.declared.request.Phase.TheVariants.{Ready}
use Rattle.zio_trace.specs.Tasks.{Value}
use Rattle.zio_trace.specs.Underway.{early}
use Rattle.zio_frames.specs.Answering.{EndsAnswered}
use Rattle.zio_frames.specs.Slots.{left_behind_slots, told_in}
use Rattle.zio_stages.specs.OwnParts.{IsOwed}
use Rattle.zio_stages.specs.PartOwns.{part_plan}
use Rattle.zio_stages.proofs.PartOwed.{owed_ready}
use Rattle.zio_stages.proofs.PartPlacing.{ready_by}
use Rattle.zio_stages.proofs.part_work.PartWork.ready.Goals as goal

pub returns-in-WaitReady-clause-wait : goal.returns-in-WaitReady-clause-wait
returns-in-WaitReady-clause-wait c = λ kind is t f o family st seated h.
    let same : Gang ≡ kind = cc in (
      subst (λ (k : ChildKind). IsOwed k Ready st) same
          (owed_ready t c.args.self.now family f o st c.requires.none seated h (c.next.ensures.waits_ready c.in-WaitReady.is t o h.asked h.slots h.work.own)),
      sym same,
    )

pub returns-in_default-clause-tell : goal.returns-in_default-clause-tell
returns-in_default-clause-tell c = λ pointer is t o asked slots h.
    let x = c.args.self.now.own.part in
    let same : c.pointer.result ≡ pointer = cc in
    subst (λ p. EndsAnswered (λ (v : Value). early v ≡ p) (told_in slots) (left_behind_slots slots (part_plan t o))) same
    (c.pointer.ensures.early (ready_by x.placing x c.requires.placed (λ e. c.in_default.not-WaitReady (c.next.ensures.shows.is ∙ e))) t o asked slots h)
