use Rattle.std.proofs.Common.{sym, ◌∙◌}
use Rattle.zio_counts.proofs.TallyLemmas.{Shows-notified, wakes-notified}
use Rattle.zio_counts.proofs.counts.Counts.notify.Goals as goal

pub returns-clause-event : goal.returns-clause-event
returns-clause-event c =
    λ m n s h. rw c.clear_if.ensures (rw c.is_last-woken.ensures (rw c.join.ensures (rw c.lower.ensures
    (Shows-notified c.args.kind c.args.phase n c.args.error c.args.bits c.args.self.now m s h))))

pub returns-clause-wake : goal.returns-clause-wake
returns-clause-wake c =
    λ m n s h. c.is_last-woken.ensures ∙ sym (wakes-notified c.args.kind c.args.phase n c.args.error c.args.bits c.args.self.now m s h)
