use Rattle.std.proofs.Common.{◌≡◌, sym, ◌∙◌, subst, arith, rules}
use Rattle.zio_vqueue.specs.Groups.{gap_max}
use Rattle.zio_vqueue.specs.Spots.{AllFit, IsRising, IsRunAbove, above_spot}
use Rattle.zio_vqueue.proofs.RangeLemmas.{above_range}
use Rattle.zio_vqueue.proofs.GatherLemmas.{AllFit-filter, AllFit-head, AllFit-tail, above_done, above_stopped, rising_more, rising_start, true_not_false}
use Rattle.zio_vqueue.proofs.gather.gather_above.Goals as goal
use Rattle.zio_vqueue.proofs.gather.gather_above.Goals.{in-None, in-Some+then-not-may_follow}

pub loop-spot-init : goal.loop-spot-init
loop-spot-init c =
    let e : c.into_iter-spot-iterator.result ≡ above_spot c.args.from c.args.spots.now.entries =
    c.into_iter-spot-iterator.ensures.into_iter_gives ∙ c.range-spot-items.ensures.between (search rules) ∙ above_range c.args.from c.args.spots.now.entries in (
      tt,
      tt,
      record {
        begun = rising_start _ _ _ c.args.first.now c.args.from c.args.lower.items _ _ _ c.requires.low c.end_of-high.ensures c.requires.run c.in_ok-push.ensures.items e;
        fit = subst AllFit (sym e) (AllFit-filter _ _ c.requires.fit);
      },
    )

pub loop-spot-preserved : goal.loop-spot-preserved
loop-spot-preserved c =
    let t = c.may_follow.ensures.0 (search rules) in (
      tt,
      tt,
      record {
        begun = subst (λ high. IsRising (gap_max c.args.first.now.write) c.args.low high c.push.new.self.items (above_spot c.args.from c.args.spots.now.entries)
            c.push-in-loop-spot.new.self.items c.next.new.self) (sym c.end_of-end.ensures)
            (rising_more (gap_max c.args.first.now.write) c.args.low c.loop-spot.high _ _ _ _ _ _ (c.in-Some.spot.now, c.in-Some.op.now) c.loop-spot.invariant.2.begun c.in-Some.ensures.steps
            c.in_ok-push-2.ensures.items t.0 (omega (arith, t.1, c.gap_max-gap.ensures)) (omega (arith, t.2, c.end_of-end.ensures)));
        fit = AllFit-tail (c.in-Some.spot.now, c.in-Some.op.now) _ (subst AllFit c.in-Some.ensures.steps c.loop-spot.invariant.2.fit);
      },
    )

pub end_of-end-requires : goal.end_of-end-requires
end_of-end-requires c = AllFit-head (c.in-Some.spot.now, c.in-Some.op.now) _ (subst AllFit c.in-Some.ensures.steps c.loop-spot.invariant.2.fit)

pub returns : goal.returns
returns c = elim c.match-next.branch [
  | in-None w ↦ subst (λ members. IsRunAbove (gap_max c.args.first.now.write) members (above_spot c.args.from c.args.spots.now.entries) c.loop-spot.members.items) c.in_ok-push.ensures.items
      (above_done _ c.args.low c.loop-spot.high _ _ _ _ c.loop-spot.invariant.2.begun w.in-None.ensures.steps.0)
  | in-Some+then-not-may_follow w ↦ subst (λ members. IsRunAbove (gap_max c.args.first.now.write) members (above_spot c.args.from c.args.spots.now.entries) c.loop-spot.members.items) c.in_ok-push.ensures.items
      (above_stopped _ c.args.low c.loop-spot.high _ _ _ _ _ _ c.loop-spot.invariant.2.begun w.in-Some.ensures.steps
      (λ h. true_not_false _ (w.may_follow.ensures.1 (h.0, omega (arith, h.1, c.gap_max-gap.ensures), omega (arith, h.2, w.end_of-end.ensures))) w.if-not-may_follow.true))
]
