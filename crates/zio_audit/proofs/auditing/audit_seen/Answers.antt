use Rattle.std.proofs.Common.{refl}
use Rattle.zio_audit.specs.Verdicts.{Case}
use Rattle.zio_audit.proofs.auditing.audit_seen.Goals as goal

pub returns-clause-verdict : goal.returns-clause-verdict
returns-clause-verdict c =
    let case : Case = record { script = c.args.script.now; report = c.args.report.now; before = c.args.before.items; after = c.args.after.now } in
    (c.seen_with.ensures case refl (c.in_ok-judged.ensures c.args.after.now)).0

pub returns-clause-place : goal.returns-clause-place
returns-clause-place c =
    let case : Case = record { script = c.args.script.now; report = c.args.report.now; before = c.args.before.items; after = c.args.after.now } in
    (c.seen_with.ensures case refl (c.in_ok-judged.ensures c.args.after.now)).1
