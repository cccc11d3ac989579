use Rattle.std.proofs.Common.{◌∙◌}
use Rattle.zio_vqueue.proofs.TimedLemmas.{next_apart, next_fits, timed_none, timed_step, timed_whole}
use Rattle.zio_vqueue.proofs.index.timed_anew.Goals as goal

pub loop-op-init : goal.loop-op-init
loop-op-init c = timed_none _ _ _ c.new-spots.ensures.empty (c.into_iter-op-iterator.ensures.into_iter_gives ∙ c.values-op-items.ensures.rest)

pub enter-requires-clause-indexed : goal.enter-requires-clause-indexed
enter-requires-clause-indexed c = c.loop-op.invariant.indexed

pub enter-requires-clause-fits : goal.enter-requires-clause-fits
enter-requires-clause-fits c = next_fits _ _ _ _ _ _ _ c.loop-op.invariant c.in-Some.ensures.steps c.requires.fit

pub enter-requires-clause-apart : goal.enter-requires-clause-apart
enter-requires-clause-apart c = next_apart _ _ _ _ _ _ _ c.loop-op.invariant c.in-Some.ensures.steps c.requires.apart

pub enter-requires-clause-later : goal.enter-requires-clause-later
enter-requires-clause-later c = c.loop-op.invariant.before

pub loop-op-preserved : goal.loop-op-preserved
loop-op-preserved c =
    timed_step _ _ _ _ _ _ _ _ _ c.loop-op.invariant c.in-Some.ensures.steps c.in_ok-enter.ensures.ok c.in_ok-enter.ensures.indexed

pub returns-clause-same : goal.returns-clause-same
returns-clause-same c = timed_whole _ _ _ _ _ c.loop-op.invariant c.in-None.ensures.steps.0

pub returns-clause-indexed : goal.returns-clause-indexed
returns-clause-indexed c = c.loop-op.invariant.indexed

pub returns-clause-before : goal.returns-clause-before
returns-clause-before c = c.loop-op.invariant.before
