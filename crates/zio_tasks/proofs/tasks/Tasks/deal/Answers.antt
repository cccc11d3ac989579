use Rattle.std.proofs.Common.{◌<◌, length, arith, subst, slice_index_or}
use Rattle.crossbeam_queue.specs.Passes.{view}
use Rattle.zio_tasks.specs.declared.hand.Hand.{Hand}
use Rattle.zio_tasks.specs.Team.{Given}
use Rattle.zio_tasks.proofs.Settling.{pile_dealt, hand_dealt, turn, turn_rest}
use Rattle.zio_tasks.proofs.tasks.Tasks.deal.Goals as goal

pub loop-pass-preserved : goal.loop-pass-preserved
loop-pass-preserved g c =
    let hs = (view c.args.all).hands in
    let k = c.loop-pass.pass-index in
    let n = c.requires.hands.0 in
    let within : k < length hs = omega arith in
    let init = c.args.passes.now in
    let team = c.loop-pass.passes in
    let item = c.pass-item.result in
    let there : k < length team = omega arith in
    let now = λ (h : Hand g.row.T.Denot). subst (λ y. Given c.args.self.now c.args.place y (slice_index_or team k item) c.give_back.new.pass) (hand_dealt hs k c.args.self.now.passes (view c.loop-pass.all) h within c.loop-pass.invariant.1) c.give_back.ensures.pass in (
      c.give_back.ensures.seat,
      pile_dealt hs k c.args.self.now.passes (view c.loop-pass.all) (view c.give_back.new.all) within c.loop-pass.invariant.1 c.give_back.ensures.hands,
      (λ j d h le. turn (λ j b a. (h : Hand g.row.T.Denot) → Given c.args.self.now c.args.place (slice_index_or hs j h) b a) k init team item c.give_back.new.pass there (λ j d le h. c.loop-pass.invariant.2 j d h le) c.loop-pass.invariant.3 now j d le h),
      turn_rest (λ j b a. (h : Hand g.row.T.Denot) → Given c.args.self.now c.args.place (slice_index_or hs j h) b a) k init team item c.give_back.new.pass there (λ j d le h. c.loop-pass.invariant.2 j d h le) c.loop-pass.invariant.3 now,
    )

pub returns : goal.returns
returns g c = λ j d h le. c.loop-pass.invariant.2 j d h (omega arith)
