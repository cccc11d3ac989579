use Rattle.std.proofs.Common.{◌∙◌}
use Rattle.zio_audit.proofs.JournalReads.{none_behind, one_behind}
use Rattle.zio_audit.proofs.journals.entries_behind.Goals as goal

pub returns-in-Some : goal.returns-in-Some
returns-in-Some c =
    one_behind c.args.journals.now c.skip.new.self c.next.new.self c.args.rounds c.in-Some.journal c.in_ok-skip.ensures (rw c.in-Some.is at c.in_ok-journal.ensures.next)

pub returns-in-None : goal.returns-in-None
returns-in-None c =
    let ends = rw c.in-None.is at c.in_ok-journal.ensures.next in
    let at = none_behind c.args.journals.now c.skip.new.self c.next.new.self c.args.rounds c.in_ok-skip.ensures ends.0 ends.1 in
    (c.new.ensures ∙ at.0, at.1)
