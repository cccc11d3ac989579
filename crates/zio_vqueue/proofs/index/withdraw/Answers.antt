use Rattle.std.proofs.Common.{false}
use Rattle.zio_types.specs.declared.request.Prio.TheVariants.{SyncRead}
use Rattle.zio_vqueue.specs.declared.op.Op.{Op}
use Rattle.zio_vqueue.specs.declared.spots.Spot.{Spot}
use Rattle.zio_vqueue.specs.Spots.{timed_of}
use Rattle.zio_vqueue.proofs.IndexLemmas.{apart_after, there_after, there_at, without_after, without_done}
use Rattle.zio_vqueue.proofs.index.withdraw.Goals as goal

none_such : Spot × Op
none_such = (
  record { shelf = 0; rank = 0; time = 0 },
  record {
    ticket = 0;
    write = false;
    at = 0;
    len = 0;
    prio = SyncRead;
    flags = record { canfail = false; retry = false; dont_aggregate = false; repair = false };
  },
)

pub loop-spot-preserved : goal.loop-spot-preserved
loop-spot-preserved c = record {
  indexed = c.withdraw_one.ensures.indexed;
  counted = c.withdraw_one.ensures.counted;
  there = there_after _ (timed_of c.withdraw_one.new.spots.entries) c.args.members.now c.loop-spot.spot-index _ c.loop-spot-test.true c.loop-spot.invariant.there c.loop-spot.invariant.apart c.withdraw_one.ensures.times;
  apart = apart_after c.args.members.now c.loop-spot.spot-index none_such c.loop-spot-test.true c.loop-spot.invariant.apart;
  queued = without_after c.args.members.now c.loop-spot.spot-index _ _ _ _ c.loop-spot-test.true c.withdraw_one.ensures.queued c.loop-spot.invariant.queued;
  before = λ time h. c.withdraw_one.ensures.before time (c.loop-spot.invariant.before time h);
}

pub withdraw_one-requires-clause-there : goal.withdraw_one-requires-clause-there
withdraw_one-requires-clause-there c = there_at _ _ _ _ c.loop-spot-test.true c.loop-spot.invariant.there

pub returns : goal.returns
returns c = record {
  queued = without_done c.args.members.now c.loop-spot.spot-index _ _ c.loop-spot-test.false c.loop-spot.invariant.queued;
  before = c.loop-spot.invariant.before;
  indexed = c.loop-spot.invariant.indexed;
  counted = c.loop-spot.invariant.counted;
}
