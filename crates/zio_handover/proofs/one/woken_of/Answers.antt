use Rattle.std.proofs.Common.{List, subst}
use Rattle.zio_latch.specs.declared.view.Event.{Event}
use Rattle.zio_latch.specs.History.{AreOfOne}
use Rattle.zio_handover.proofs.OneChild.{no_one, no_two}
use Rattle.zio_handover.proofs.one.woken_of.Goals as goal

pub unreachable-requires : goal.unreachable-requires
unreachable-requires g c = no_two _ c.args.ended c.args.waited c.in-Ok-Ok.one c.in-Ok-Ok.other c.in-Ok-Ok.is-0 c.in-Ok-Ok.is-1 c.requires.ended c.requires.waited
    (subst (λ (z : List Event × List Event). AreOfOne z.0 z.1) (λ i. (c.receipt.ensures.shown.0 i, c.receipt-in-Ok-Ok.ensures.shown.0 i)) c.compare-both.ensures.order)

pub unreachable-requires-in-Err-Err : goal.unreachable-requires-in-Err-Err
unreachable-requires-in-Err-Err g c = no_one _ c.args.ended c.args.waited c.in-Err-Err.receipt c.in-Err-Err.parked c.in-Err-Err.is-0 c.in-Err-Err.is-1 c.requires.ended c.requires.waited c.compare-both-in-Err-Err.ensures.order
