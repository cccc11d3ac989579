use Rattle.std.proofs.Common.{◌≡◌, ◌++◌, ◌∷◌, [], sym, ap, ◌∙◌, refl, reverse, subst, List, arith, append-nil, rules}
use Rattle.std.specs.Map.{values_of}
use Rattle.zio_vqueue.specs.declared.op.Op.{Op}
use Rattle.zio_vqueue.specs.declared.spots.Spot.{Spot}
use Rattle.zio_vqueue.specs.Groups.{IsRun, gap_max}
use Rattle.zio_vqueue.specs.Spots.{AllFit, below_spot, IsLowOf}
use Rattle.zio_vqueue.proofs.RangeLemmas.{below_range}
use Rattle.zio_vqueue.proofs.GatherLemmas.{AllFit-filter, AllFit-front, AllFit-last, below_done, below_stopped, parts_below, reverse_grown, run_below, true_not_false}
use Rattle.zio_vqueue.proofs.gather.gather_below.Goals as goal
use Rattle.zio_vqueue.proofs.gather.gather_below.Goals.{in-None, in-Some+then-not-may_follow}

pub loop-spot-init : goal.loop-spot-init
loop-spot-init c =
    let e : c.into_iter-spot-iterator.result.iter ≡ below_spot c.args.from c.args.spots.now.entries =
    ap (λ r. r.iter) c.into_iter-spot-iterator.ensures.into_iter_gives ∙ c.rev-spot-items.ensures.source ∙ c.range.ensures.between tt
    ∙ below_range c.args.from c.args.spots.now.entries in
    record {
      parts = rw (c.new-found.ensures.items, e) (sym (append-nil _));
      fit = subst AllFit (sym e) (AllFit-filter _ _ c.requires.fit);
      low = rw c.new-found.ensures.items refl;
      under = omega arith;
      run = rw c.new-found.ensures.items (tt, tt);
    }

pub loop-spot-preserved : goal.loop-spot-preserved
loop-spot-preserved c =
    let more : reverse c.push.new.self.items ≡ (c.in-Some.spot.now, c.in-Some.op.now) ∷ reverse c.loop-spot.found.items =
    reverse_grown c.push.new.self.items c.loop-spot.found.items (c.in-Some.spot.now, c.in-Some.op.now) c.in_ok-push.ensures.items in
    let t = c.may_follow.ensures.0 (search rules) in
    record {
      parts = parts_below _ _ _ _ _ _ c.loop-spot.invariant.parts c.in-Some.ensures.steps more;
      fit = AllFit-front _ _ (subst AllFit c.in-Some.ensures.steps c.loop-spot.invariant.fit);
      low = subst (λ (r : List (Spot × Op)). IsLowOf c.in-Some.op.now.at (values_of r) c.args.first.now) (sym more) refl;
      under = omega (arith, t.0, c.end_of.ensures, c.loop-spot.invariant.under);
      run = subst (λ (r : List (Spot × Op)). IsRun (gap_max c.args.first.now.write) (values_of r ++ c.args.first.now ∷ [])) (sym more)
          (run_below (gap_max c.args.first.now.write) c.loop-spot.low c.in-Some.op.now c.args.first.now (values_of (reverse c.loop-spot.found.items)) c.loop-spot.invariant.low
          (omega (arith, t.0, c.end_of.ensures)) (omega (arith, t.1, c.end_of.ensures, c.gap_max-gap.ensures)) (omega (arith, t.2, c.end_of-end.ensures)) c.loop-spot.invariant.run);
    }

pub end_of-requires : goal.end_of-requires
end_of-requires c = AllFit-last _ _ (subst AllFit c.in-Some.ensures.steps c.loop-spot.invariant.fit)

pub returns : goal.returns
returns c = elim c.match-next.branch [
  | in-None w ↦ below_done _ _ _ _ _ c.loop-spot.invariant.parts w.in-None.ensures.steps.0 c.loop-spot.invariant.run
  | in-Some+then-not-may_follow w ↦ below_stopped _ c.loop-spot.low _ _ _ _ _ _ c.loop-spot.invariant.parts w.in-Some.ensures.steps c.loop-spot.invariant.run c.loop-spot.invariant.low
      (λ h. true_not_false _ (w.may_follow.ensures.1 (omega (arith, h.0, w.end_of.ensures), omega (arith, h.1, w.end_of.ensures, c.gap_max-gap.ensures), omega (arith, h.2, c.end_of-end.ensures))) w.if-not-may_follow.true)
]
