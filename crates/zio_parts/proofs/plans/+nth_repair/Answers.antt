use Rattle.zio_parts.proofs.WantedLemmas.{nth_before, nth_behind, nth_failed, nth_none}
use Rattle.zio_parts.proofs.plans.+nth_repair.Goals as goal

pub returns-then-n-failed : goal.returns-then-n-failed
returns-then-n-failed t c =
    nth_failed c.args.tops.now c.args.places.now c.args.tried c.args.failed.now c.args.n c.leaf_at-leaf.result
    c.in-len1-up.len_at_least c.if-tried-eq0.true c.if-n-failed.true c.leaf_at-leaf.ensures

pub returns-then-tried-eq0 : goal.returns-then-tried-eq0
returns-then-tried-eq0 t c = nth_none c.args.tops.now c.args.places.now c.args.tried c.args.failed.now c.args.n c.in-len1-up.len_at_least c.if-tried-eq0.true c.if-n-failed.false

pub returns-then-n-leaves : goal.returns-then-n-leaves
returns-then-n-leaves t c =
    nth_before c.args.tops.now c.args.places.now c.args.tried c.args.failed.now c.leaves_at-leaves.result.now c.args.n
    c.in-len1-up.len_at_least c.if-tried-eq0.false c.leaves_at-leaves.ensures c.if-n-leaves.true

pub returns-else-n-leaves : goal.returns-else-n-leaves
returns-else-n-leaves t c =
    nth_behind c.args.tops.now c.args.places.now c.args.tried c.args.failed.now c.leaves_at-leaves.result.now c.args.n _
    c.in-len1-up.len_at_least c.if-tried-eq0.false c.leaves_at-leaves.ensures c.if-n-leaves.false c.nth_repair.ensures
