use Rattle.std.proofs.Common.{sym, ◌∙◌}
use Rattle.std.proofs.lemmas.Bool.{both_ways}
use Rattle.zio_places.specs.Spaces.{used}
use Rattle.zio_audit.proofs.JudgeLemmas.{all_claimed, claimed_same, claimed_sizes, keeps_then, not_copies, one_claimed}
use Rattle.zio_audit.proofs.judge.claim_copies.Goals as goal

pub returns-then-not-is_next_copy-clause-copies : goal.returns-then-not-is_next_copy-clause-copies
returns-then-not-is_next_copy-clause-copies c =
    let same = claimed_same c.args.tops.now c.args.size c.args.places.now c.loop-i.i c.args.space.now c.loop-i.space c.loop-i.invariant.claimed in
    not_copies c.args.tops.now (used c.args.space.now) c.args.size c.args.places.now c.loop-i.i (record { top = 0; sector = 0; sectors = 0 }) c.loop-i-test.true
    (λ next. both_ways c.is_next_copy.result c.if-not-is_next_copy.true ((c.is_next_copy.ensures.copy (used c.args.space.now) same).1 next))

pub is_next_copy-requires : goal.is_next_copy-requires
is_next_copy-requires c = record {
  sizes = c.requires.sizes ∙ sym (claimed_sizes c.args.tops.now c.args.size c.args.places.now c.loop-i.i c.args.space.now c.loop-i.space c.loop-i.invariant.claimed);
  lawful = c.requires.lawful;
  few = c.requires.few;
}

pub loop-i-preserved : goal.loop-i-preserved
loop-i-preserved c =
    let same = claimed_same c.args.tops.now c.args.size c.args.places.now c.loop-i.i c.args.space.now c.loop-i.space c.loop-i.invariant.claimed in
    record {
      claimed = one_claimed c.args.tops.now c.args.size c.args.places.now c.loop-i.i (record { top = 0; sector = 0; sectors = 0 }) c.args.space.now c.loop-i.space c.claim_open.new.space c.loop-i-test.true
          c.loop-i.invariant.claimed ((c.is_next_copy.ensures.copy (used c.args.space.now) same).0 c.if-not-is_next_copy.false) c.in_ok-claim_open.ensures.claimed;
      kept = keeps_then c.args.space.now c.loop-i.space c.claim_open.new.space c.loop-i.invariant.kept c.claim_open.ensures.kept;
    }

pub returns-clause-copies : goal.returns-clause-copies
returns-clause-copies c = all_claimed c.args.tops.now c.args.size c.args.places.now c.loop-i.i c.args.space.now c.loop-i.space c.loop-i-test.false c.loop-i.invariant.claimed
