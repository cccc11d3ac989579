use Rattle.std.proofs.Common.{nat_eq, arith}
use Rattle.std.specs.HashMap.{get}
use Rattle.zio_groups.proofs.TakeLemmas.{kept_more, kept_then, members_more}
use Rattle.zio_groups.proofs.leaf_queue.take_kept.Goals as goal

pub returns-in_err-add-clause-others : goal.returns-in_err-add-clause-others
returns-in_err-add-clause-others c =
    kept_then (get nat_eq c.args.kept.now) (get nat_eq c.loop-op.kept) (get nat_eq c.take_bytes-bytes.new.kept) c.args.ops.now c.loop-op.op-index _ c.loop-op-test.true c.loop-op.invariant.1 c.take_bytes-bytes.ensures.others

pub loop-op-preserved : goal.loop-op-preserved
loop-op-preserved c = (
  members_more (get nat_eq c.args.kept.now) (get nat_eq c.loop-op.kept) c.args.ops.now c.loop-op.op-index _ c.loop-op.members c.add.new.items _ c.loop-op-test.true c.requires.apart c.in_ok-add.ensures.ok c.loop-op.invariant.0 c.take_bytes-bytes.ensures.bytes c.loop-op.invariant.1,
  kept_more (get nat_eq c.args.kept.now) (get nat_eq c.loop-op.kept) (get nat_eq c.take_bytes-bytes.new.kept) c.args.ops.now c.loop-op.op-index _ c.loop-op-test.true c.loop-op.invariant.1 c.take_bytes-bytes.ensures.others,
  λ ticket. omega (arith, c.take_bytes-bytes.ensures.fewer ticket, c.loop-op.invariant.2 ticket),
)
