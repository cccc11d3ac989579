use Rattle.std.proofs.Common.{map, string_bytes, subst}
use Rattle.std.specs.Prelude.{IfSome}
use Rattle.zio_audit.specs.declared.verdict.Verdict.{Verdict}
use Rattle.zio_audit.specs.Seen.{IsSeenIn, verdict_of}
use Rattle.zio_audit.specs.Verdicts.{Case}
use Rattle.zio_command.specs.Outcomes.{Ends}
use Rattle.zio_command.specs.Seen.{ShelfSeen, SinkSeen, shelf_by, sink_by}
use Rattle.zio_command.proofs.CountLemmas.{not_rose}
use Rattle.zio_audit_run.specs.Codes.{AuditEnds, verdict_code, verdict_line}
use Rattle.zio_audit_run.proofs.CodeLemmas.{blamed_ends, judged_ends, told_code}
use Rattle.zio_audit_run.proofs.DueLemmas.{due_comes, read_is, some_sound, told_verdict}
use Rattle.zio_audit_run.proofs.audit.audit_telling.Given as given
use Rattle.zio_audit_run.proofs.audit.audit_telling.Goals as goal

-- a shelf as it is seen, and a sink
abbrev saw : (g : given.Over) → g.row.H.Denot → ShelfSeen
saw g shelf = shelf_by g.H.Shelf.tells g.H.Shelf.image g.H.Shelf.out g.H.Shelf.faults g.H.Shelf.disk_faults g.H.Shelf.fetches g.H.Shelf.returns g.H.Shelf.last_size shelf

abbrev sink : (g : given.Over) → g.row.O.Denot → SinkSeen
sink g out = sink_by g.O.Sink.holds g.O.Sink.faults out

-- ---- the verdict was told, or its line was cut

-- the line and the code are those of the verdict
told_by : (g : given.Over) (c : goal.After-tell g)
    → Ends (verdict_code (verdict_of c.in-Ok.found)) (verdict_line (verdict_of c.in-Ok.found)) c.tell.result.code (g.O.Sink.faults c.args.out.now) (g.O.Sink.faults c.tell.new.out)
    (g.O.Sink.holds c.args.out.now) (g.O.Sink.holds c.tell.new.out)
told_by g c =
    subst (λ (v : Verdict). Ends (verdict_code v) (verdict_line v) c.tell.result.code (g.O.Sink.faults c.args.out.now) (g.O.Sink.faults c.tell.new.out) (g.O.Sink.holds c.args.out.now)
    (g.O.Sink.holds c.tell.new.out)) c.verdict_of.ensures c.tell.ensures

told_ends : (g : given.Over) (c : goal.After-tell g)
    → AuditEnds (map string_bytes c.args.words.now) (sink g c.args.out.now) (sink g c.tell.new.out) (saw g c.args.shelf.now) (saw g c.audit_named.new.shelf) c.tell.result.code
told_ends g c =
    judged_ends (map string_bytes c.args.words.now) (sink g c.args.out.now) (sink g c.tell.new.out) (saw g c.args.shelf.now) (saw g c.audit_named.new.shelf)
    (verdict_of c.in-Ok.found) c.tell.result.code c.in-Ok.ensures.came.judged (told_by g c)

pub returns-in-Ok-clause-ends : goal.returns-in-Ok-clause-ends
returns-in-Ok-clause-ends g c named = told_ends g c

pub returns-in-Ok-clause-verdict : goal.returns-in-Ok-clause-verdict
returns-in-Ok-clause-verdict g c is files tells told =
    told_verdict (map string_bytes c.args.words.now) (sink g c.args.out.now) (sink g c.tell.new.out) (saw g c.args.shelf.now) (saw g c.audit_named.new.shelf)
    c.tell.result.code files (g.met.H.Shelf.one_image c.args.shelf.now) (told_ends g c) is tells told

pub returns-in-Ok-clause-complete : goal.returns-in-Ok-clause-complete
returns-in-Ok-clause-complete g c files due line named tells told is calm quiet =
    due_comes (map string_bytes c.args.words.now) (sink g c.args.out.now) (sink g c.tell.new.out) (saw g c.args.shelf.now) (saw g c.audit_named.new.shelf)
    c.tell.result.code files due line (g.met.H.Shelf.one_image c.args.shelf.now) tells told is calm quiet (told_ends g c)

pub returns-in-Ok-clause-sound_run : goal.returns-in-Ok-clause-sound_run
returns-in-Ok-clause-sound_run g c files due line named tells told is all =
    let shelf = c.args.shelf.now in
    let after = c.audit_named.new.shelf in
    let some = some_sound (g.H.Shelf.sound shelf) (map string_bytes c.args.words.now) named all in
    let below = g.met.H.Shelf.sound_counts shelf some.0 some.1 in
    let same = c.in-Ok.ensures.sound all in
    due_comes (map string_bytes c.args.words.now) (sink g c.args.out.now) (sink g c.tell.new.out) (saw g shelf) (saw g after)
    c.tell.result.code files due line (g.met.H.Shelf.one_image shelf) tells told is
    (not_rose (g.H.Shelf.faults shelf) (g.H.Shelf.faults after) same.0 below.0)
    (not_rose (g.H.Shelf.disk_faults shelf) (g.H.Shelf.disk_faults after) same.1 below.1) (told_ends g c)

pub returns-in-Ok-clause-place : goal.returns-in-Ok-clause-place
returns-in-Ok-clause-place g c is files tells told =
    let names = map string_bytes c.args.words.now in
    let old = saw g c.args.shelf.now in
    let new = saw g c.audit_named.new.shelf in
    let verdict = verdict_of c.in-Ok.found in
    let came = c.in-Ok.ensures.came in (
      told_code verdict c.tell.result.code (sink g c.args.out.now) (sink g c.tell.new.out) (told_by g c) is,
      subst (λ (d : Case). IfSome c.in-Ok.found (IsSeenIn d)) (read_is names old new verdict files (g.met.H.Shelf.one_image c.args.shelf.now) tells told came.judged) came.place,
    )

-- ---- a file was blamed, or the line of that was cut

file_ends : (g : given.Over) (c : goal.After-blame g)
    → AuditEnds (map string_bytes c.args.words.now) (sink g c.args.out.now) (sink g c.blame.new.out) (saw g c.args.shelf.now) (saw g c.audit_named.new.shelf) c.blame.result.code
file_ends g c =
    blamed_ends (map string_bytes c.args.words.now) (sink g c.args.out.now) (sink g c.blame.new.out) (saw g c.args.shelf.now) (saw g c.audit_named.new.shelf)
    c.in-Err-File.k c.blame.result.code (rw c.in-Err-File.field-0-is at c.in-Err-File.ensures.came) c.blame.ensures

pub returns-in-Err-File-clause-ends : goal.returns-in-Err-File-clause-ends
returns-in-Err-File-clause-ends g c named = file_ends g c

pub returns-in-Err-File-clause-complete : goal.returns-in-Err-File-clause-complete
returns-in-Err-File-clause-complete g c files due line named tells told is calm quiet =
    due_comes (map string_bytes c.args.words.now) (sink g c.args.out.now) (sink g c.blame.new.out) (saw g c.args.shelf.now) (saw g c.audit_named.new.shelf)
    c.blame.result.code files due line (g.met.H.Shelf.one_image c.args.shelf.now) tells told is calm quiet (file_ends g c)

pub returns-in-Err-File-clause-sound_run : goal.returns-in-Err-File-clause-sound_run
returns-in-Err-File-clause-sound_run g c files due line named tells told is all =
    let shelf = c.args.shelf.now in
    let after = c.audit_named.new.shelf in
    let some = some_sound (g.H.Shelf.sound shelf) (map string_bytes c.args.words.now) named all in
    let below = g.met.H.Shelf.sound_counts shelf some.0 some.1 in
    let same = c.in-Err-File.ensures.sound all in
    due_comes (map string_bytes c.args.words.now) (sink g c.args.out.now) (sink g c.blame.new.out) (saw g shelf) (saw g after)
    c.blame.result.code files due line (g.met.H.Shelf.one_image shelf) tells told is
    (not_rose (g.H.Shelf.faults shelf) (g.H.Shelf.faults after) same.0 below.0)
    (not_rose (g.H.Shelf.disk_faults shelf) (g.H.Shelf.disk_faults after) same.1 below.1) (file_ends g c)

-- ---- a disk failed

pub returns-in-Err-Device-clause-sound_run : goal.returns-in-Err-Device-clause-sound_run
returns-in-Err-Device-clause-sound_run g c files due line named tells told is all =
    let shelf = c.args.shelf.now in
    let after = c.audit_named.new.shelf in
    let some = some_sound (g.H.Shelf.sound shelf) (map string_bytes c.args.words.now) named all in
    let below = g.met.H.Shelf.sound_counts shelf some.0 some.1 in
    let same = c.in-Err-Device.ensures.sound all in
    let stopped = rw c.in-Err-Device.field-0-is at c.in-Err-Device.ensures.came in
    absurd (not_rose (g.H.Shelf.disk_faults shelf) (g.H.Shelf.disk_faults after) same.1 below.1 stopped.rose)
