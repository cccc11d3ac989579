use Rattle.std.proofs.Common.{sym, ◌∙◌}
use Rattle.zio_vqueue.specs.Classes.{classes}
use Rattle.zio_vqueue.specs.Spots.{is_due_by}
use Rattle.zio_vqueue.proofs.IndexLemmas.{find_here, find_later, find_past}
use Rattle.zio_vqueue.proofs.index.first_due.Goals as goal

pub loop-prio-preserved : goal.loop-prio-preserved
loop-prio-preserved c =
    find_later (is_due_by c.args.waiting.now c.args.active.now c.args.limits.now) c.loop-prio.prio-index classes _ c.loop-prio-test.true (sym c.is_due.ensures ∙ c.if-is_due.false)
    ∙ c.loop-prio.invariant

pub returns-then-is_due : goal.returns-then-is_due
returns-then-is_due c =
    find_here (is_due_by c.args.waiting.now c.args.active.now c.args.limits.now) c.loop-prio.prio-index classes _ c.loop-prio-test.true (sym c.is_due.ensures ∙ c.if-is_due.true)
    ∙ c.loop-prio.invariant

pub returns : goal.returns
returns c = find_past (is_due_by c.args.waiting.now c.args.active.now c.args.limits.now) c.loop-prio.prio-index classes c.loop-prio-test.false ∙ c.loop-prio.invariant
