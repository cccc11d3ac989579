use Rattle.std.proofs.Common.{◌≡◌, ◌+◌, ◌-◌, ◌<◌, length, subst, take, arith}
use Rattle.zio_places.specs.Ordered.{all_placed_in}
use Rattle.zio_audit.proofs.JudgeLemmas.{IsBackTo, all_judged, all_taken, back_more, before_last, keeps_then, not_judged, one_judged}
use Rattle.zio_audit.proofs.judge.are_lawful.Goals as goal

pub returns-then-not-branch-clause-lawful : goal.returns-then-not-branch-clause-lawful
returns-then-not-branch-clause-lawful c =
    let not = rw c.if-not-branch.true at c.in_ok-judge_entry.ensures.lawful in
    not_judged c.args.tops.now c.args.entries.now c.loop-entry.entry-index c.entry-item.result c.args.space.now c.loop-entry.space c.loop-entry-test.true c.entry-item.is c.loop-entry.invariant.judged not

pub loop-entry-preserved : goal.loop-entry-preserved
loop-entry-preserved c =
    let is = rw c.if-not-branch.false at c.in_ok-judge_entry.ensures.lawful in
    record {
      judged = one_judged c.args.tops.now c.args.entries.now c.loop-entry.entry-index c.entry-item.result c.args.space.now c.loop-entry.space c.judge_entry.new.space
          c.loop-entry-test.true c.entry-item.is c.loop-entry.invariant.judged is.0 is.1;
      kept = keeps_then c.args.space.now c.loop-entry.space c.judge_entry.new.space c.loop-entry.invariant.kept c.judge_entry.ensures.kept;
    }

pub release_entry-requires : goal.release_entry-requires
release_entry-requires c =
    let more : c.loop-left.left ≡ c.loop-left.left - 1 + 1 = omega arith in
    let below : c.loop-left.left - 1 < length c.args.entries.now = omega arith in (
      all_placed_in (all_taken (take (c.loop-left.left - 1) c.args.entries.now)) c.args.space.now.live,
      before_last c.args.entries.now (c.loop-left.left - 1) c.index-entries-left.result c.args.space.now c.loop-left.space below c.index-entries-left.is
          (subst (λ n. IsBackTo c.args.entries.now n c.args.space.now c.loop-left.space) more c.loop-left.invariant.back),
    )

pub loop-left-preserved : goal.loop-left-preserved
loop-left-preserved c =
    let more : c.loop-left.left ≡ c.loop-left.left - 1 + 1 = omega arith in
    let below : c.loop-left.left - 1 < length c.args.entries.now = omega arith in
    let back = subst (λ n. IsBackTo c.args.entries.now n c.args.space.now c.loop-left.space) more c.loop-left.invariant.back in
    record {
      few = omega arith;
      kept = keeps_then c.args.space.now c.loop-left.space c.release_entry.new.space c.loop-left.invariant.kept c.release_entry.ensures.kept;
      back = back_more c.args.entries.now (c.loop-left.left - 1) c.index-entries-left.result c.args.space.now c.loop-left.space c.release_entry.new.space below c.index-entries-left.is back
          (c.release_entry.ensures.freed (all_placed_in (all_taken (take (c.loop-left.left - 1) c.args.entries.now)) c.args.space.now.live)
          (before_last c.args.entries.now (c.loop-left.left - 1) c.index-entries-left.result c.args.space.now c.loop-left.space below c.index-entries-left.is back));
    }

pub returns-clause-lawful : goal.returns-clause-lawful
returns-clause-lawful c =
    let none : c.loop-left.left ≡ 0 = omega arith in (
      all_judged c.args.tops.now c.args.entries.now c.loop-entry.entry-index c.args.space.now c.loop-entry.space c.loop-entry-test.false c.loop-entry.invariant.judged,
      subst (λ n. IsBackTo c.args.entries.now n c.args.space.now c.loop-left.space) none c.loop-left.invariant.back,
    )
