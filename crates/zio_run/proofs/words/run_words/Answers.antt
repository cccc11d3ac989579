use Rattle.std.proofs.Common.{◌≡◌, Err, true, false, inl, inr, map, string_bytes, refl, sym, ap, subst}
use Rattle.std.specs.List.{AllByRecursion}
use Rattle.zio_command.specs.declared.words.Command.{Command as Asked}
use Rattle.zio_command.specs.declared.words.WordsError.{WordsError}
use Rattle.zio_command.specs.Commands.{CommandEnds, image_names, mode_of, reads, runs}
use Rattle.zio_command.specs.Seen.{shelf_by, sink_by, source_by}
use Rattle.zio_command.specs.Shelves.{AreLeft, KeepOthers}
use Rattle.zio_command.proofs.CommandLemmas.{command_code, command_complete, command_ended, command_never, command_steady, command_wanting, first_name}
use Rattle.zio_command.proofs.CountLemmas.{not_rose}
use Rattle.zio_command.proofs.EndLemmas.{no_ending}
use Rattle.zio_command.proofs.HealLemmas.{command_healed}
use Rattle.zio_command.proofs.TripLemmas.{KeepOthers-itself}
use Rattle.zio_command.proofs.WordLemmas.{lawful_command, one_command_of}
use Rattle.zio_run.proofs.words.run_words.Goals as goal

pub run_command-requires-clause-command : goal.run_command-requires-clause-command
run_command-requires-clause-command g c = lawful_command c.args.serial (map string_bytes c.args.words.now) c.in-Ok.command c.in-Ok.ensures.ok

-- ---- a command

pub returns-in-Ok-clause-codes : goal.returns-in-Ok-clause-codes
returns-in-Ok-clause-codes g c =
    let source = source_by g.S.Source.left g.S.Source.faults in
    let sink = sink_by g.O.Sink.holds g.O.Sink.faults in
    let saw = shelf_by g.H.Shelf.tells g.H.Shelf.image g.H.Shelf.out g.H.Shelf.faults g.H.Shelf.disk_faults g.H.Shelf.fetches g.H.Shelf.returns g.H.Shelf.last_size in
    command_code c.in-Ok.command (source c.args.script.now) (source c.run_command.new.script) (sink c.args.out.now) (sink c.run_command.new.out)
    (saw c.args.shelf.now) (saw c.run_command.new.shelf) c.args.journal.now c.run_command.new.journal c.run_command.result.code c.run_command.ensures.ends

pub returns-in-Ok-clause-asked : goal.returns-in-Ok-clause-asked
returns-in-Ok-clause-asked g c = inr (inr (c.in-Ok.command, c.in-Ok.ensures.ok))

pub returns-in-Ok-clause-no_command : goal.returns-in-Ok-clause-no_command
returns-in-Ok-clause-no_command g c none = absurd (none c.in-Ok.command c.in-Ok.ensures.ok)

pub returns-in-Ok-clause-words : goal.returns-in-Ok-clause-words
returns-in-Ok-clause-words g c first =
    let source = source_by g.S.Source.left g.S.Source.faults in
    let sink = sink_by g.O.Sink.holds g.O.Sink.faults in
    let saw = shelf_by g.H.Shelf.tells g.H.Shelf.image g.H.Shelf.out g.H.Shelf.faults g.H.Shelf.disk_faults g.H.Shelf.fetches g.H.Shelf.returns g.H.Shelf.last_size in
    absurd (command_never c.in-Ok.command (source c.args.script.now) (source c.run_command.new.script) (sink c.args.out.now) (sink c.run_command.new.out)
    (saw c.args.shelf.now) (saw c.run_command.new.shelf) c.args.journal.now c.run_command.new.journal c.run_command.result.code c.run_command.ensures.ends first)

pub returns-in-Ok-clause-ends : goal.returns-in-Ok-clause-ends
returns-in-Ok-clause-ends g c command is =
    let source = source_by g.S.Source.left g.S.Source.faults in
    let sink = sink_by g.O.Sink.holds g.O.Sink.faults in
    let saw = shelf_by g.H.Shelf.tells g.H.Shelf.image g.H.Shelf.out g.H.Shelf.faults g.H.Shelf.disk_faults g.H.Shelf.fetches g.H.Shelf.returns g.H.Shelf.last_size in
    let ws = map string_bytes c.args.words.now in
    let one = one_command_of c.args.serial ws c.in-Ok.command command c.in-Ok.ensures.ok is in
    let old = saw c.args.shelf.now in
    let new = saw c.run_command.new.shelf in
    let out = sink c.args.out.now in
    let wrote = sink c.run_command.new.out in
    let code = c.run_command.result.code in
    let ends : CommandEnds command (source c.args.script.now) (source c.run_command.new.script) out wrote old new c.args.journal.now c.run_command.new.journal code =
    subst (λ (x : Asked). CommandEnds x (source c.args.script.now) (source c.run_command.new.script) out wrote old new c.args.journal.now c.run_command.new.journal code)
    one c.run_command.ensures.ends in
    ends

pub returns-in-Ok-clause-headline : goal.returns-in-Ok-clause-headline
returns-in-Ok-clause-headline g c command is r e text images told tells each =
    let source = source_by g.S.Source.left g.S.Source.faults in
    let sink = sink_by g.O.Sink.holds g.O.Sink.faults in
    let saw = shelf_by g.H.Shelf.tells g.H.Shelf.image g.H.Shelf.out g.H.Shelf.faults g.H.Shelf.disk_faults g.H.Shelf.fetches g.H.Shelf.returns g.H.Shelf.last_size in
    let ws = map string_bytes c.args.words.now in
    let one = one_command_of c.args.serial ws c.in-Ok.command command c.in-Ok.ensures.ok is in
    let old = saw c.args.shelf.now in
    let new = saw c.run_command.new.shelf in
    let out = sink c.args.out.now in
    let wrote = sink c.run_command.new.out in
    let code = c.run_command.result.code in
    let ends : CommandEnds command (source c.args.script.now) (source c.run_command.new.script) out wrote old new c.args.journal.now c.run_command.new.journal code =
    subst (λ (x : Asked). CommandEnds x (source c.args.script.now) (source c.run_command.new.script) out wrote old new c.args.journal.now c.run_command.new.journal code)
    one c.run_command.ensures.ends in
    let ran = command_ended command (source c.args.script.now) (source c.run_command.new.script) out wrote old new c.args.journal.now c.run_command.new.journal code ends r e in
    (ran.0, ran.1 text told, ran.2.headline images tells each)

pub returns-in-Ok-clause-healed : goal.returns-in-Ok-clause-healed
returns-in-Ok-clause-healed g c command is r e text read images told accepted tells each healed small accepts =
    let source = source_by g.S.Source.left g.S.Source.faults in
    let sink = sink_by g.O.Sink.holds g.O.Sink.faults in
    let saw = shelf_by g.H.Shelf.tells g.H.Shelf.image g.H.Shelf.out g.H.Shelf.faults g.H.Shelf.disk_faults g.H.Shelf.fetches g.H.Shelf.returns g.H.Shelf.last_size in
    let ws = map string_bytes c.args.words.now in
    let one = one_command_of c.args.serial ws c.in-Ok.command command c.in-Ok.ensures.ok is in
    let old = saw c.args.shelf.now in
    let new = saw c.run_command.new.shelf in
    let out = sink c.args.out.now in
    let wrote = sink c.run_command.new.out in
    let journal = c.run_command.new.journal in
    let code = c.run_command.result.code in
    let ends : CommandEnds command (source c.args.script.now) (source c.run_command.new.script) out wrote old new c.args.journal.now journal code =
    subst (λ (x : Asked). CommandEnds x (source c.args.script.now) (source c.run_command.new.script) out wrote old new c.args.journal.now journal code)
    one c.run_command.ensures.ends in
    command_healed command (source c.args.script.now) (source c.run_command.new.script) out wrote old new c.args.journal.now journal code ends r e
    text read images told accepted tells each (c.healed_scripts_store_plainly.ensures text read images journal.places accepted) healed small accepts

pub returns-in-Ok-clause-left : goal.returns-in-Ok-clause-left
returns-in-Ok-clause-left g c command is r plain e tells =
    let one = one_command_of c.args.serial (map string_bytes c.args.words.now) c.in-Ok.command command c.in-Ok.ensures.ok is in
    let left = c.run_command.ensures.left (subst (λ (x : Asked). runs x ≡ true) (sym one) r)
    (subst (λ (x : Asked). (mode_of x).scrubs ≡ false) (sym one) plain) e tells in
    subst (λ (x : Asked). AreLeft g.H.Disk.Disk.image g.H.Disk.Disk.keeps (g.E.Engines.leaves c.run_command.new.journal.rounds) (image_names x)
    (g.H.Shelf.image c.run_command.new.shelf) (g.H.Shelf.keeps c.run_command.new.shelf)) one left

pub returns-in-Ok-clause-steady : goal.returns-in-Ok-clause-steady
returns-in-Ok-clause-steady g c command is e =
    let source = source_by g.S.Source.left g.S.Source.faults in
    let sink = sink_by g.O.Sink.holds g.O.Sink.faults in
    let saw = shelf_by g.H.Shelf.tells g.H.Shelf.image g.H.Shelf.out g.H.Shelf.faults g.H.Shelf.disk_faults g.H.Shelf.fetches g.H.Shelf.returns g.H.Shelf.last_size in
    let ws = map string_bytes c.args.words.now in
    let one = one_command_of c.args.serial ws c.in-Ok.command command c.in-Ok.ensures.ok is in
    let old = saw c.args.shelf.now in
    let new = saw c.run_command.new.shelf in
    let out = sink c.args.out.now in
    let wrote = sink c.run_command.new.out in
    let code = c.run_command.result.code in
    let ends : CommandEnds command (source c.args.script.now) (source c.run_command.new.script) out wrote old new c.args.journal.now c.run_command.new.journal code =
    subst (λ (x : Asked). CommandEnds x (source c.args.script.now) (source c.run_command.new.script) out wrote old new c.args.journal.now c.run_command.new.journal code)
    one c.run_command.ensures.ends in
    let same = command_steady command (source c.args.script.now) (source c.run_command.new.script) out wrote old new c.args.journal.now c.run_command.new.journal code ends e
    (λ r. (let shelf = (c.run_command.ensures.generated (subst (λ (x : Asked). runs x ≡ false) (sym one) r)).0 in
    (ap (λ s. g.H.Shelf.faults s) shelf, ap (λ s. g.H.Shelf.disk_faults s) shelf))) in
    (c.run_command.ensures.source_steady e, same.0, same.1, same.2)

pub returns-in-Ok-clause-complete : goal.returns-in-Ok-clause-complete
returns-in-Ok-clause-complete g c command text read images is r told accepted tells each lawful have p s f d =
    let source = source_by g.S.Source.left g.S.Source.faults in
    let sink = sink_by g.O.Sink.holds g.O.Sink.faults in
    let saw = shelf_by g.H.Shelf.tells g.H.Shelf.image g.H.Shelf.out g.H.Shelf.faults g.H.Shelf.disk_faults g.H.Shelf.fetches g.H.Shelf.returns g.H.Shelf.last_size in
    let ws = map string_bytes c.args.words.now in
    let one = one_command_of c.args.serial ws c.in-Ok.command command c.in-Ok.ensures.ok is in
    let old = saw c.args.shelf.now in
    let new = saw c.run_command.new.shelf in
    let out = sink c.args.out.now in
    let wrote = sink c.run_command.new.out in
    let code = c.run_command.result.code in
    let ends : CommandEnds command (source c.args.script.now) (source c.run_command.new.script) out wrote old new c.args.journal.now c.run_command.new.journal code =
    subst (λ (x : Asked). CommandEnds x (source c.args.script.now) (source c.run_command.new.script) out wrote old new c.args.journal.now c.run_command.new.journal code)
    one c.run_command.ensures.ends in
    command_complete command (source c.args.script.now) (source c.run_command.new.script) out wrote old new c.args.journal.now c.run_command.new.journal code ends
    text read images r told accepted tells each lawful have p s f d

pub returns-in-Ok-clause-sound_run : goal.returns-in-Ok-clause-sound_run
returns-in-Ok-clause-sound_run g c command text read images is r told accepted tells each lawful have source_sound all s =
    let one = one_command_of c.args.serial (map string_bytes c.args.words.now) c.in-Ok.command command c.in-Ok.ensures.ok is in
    let first = first_name command (g.H.Shelf.sound c.args.shelf.now) (lawful_command c.args.serial (map string_bytes c.args.words.now) command is) r all in
    let below = g.met.H.Shelf.sound_counts c.args.shelf.now first.0 first.1 in
    let after = c.run_command.ensures.sound (subst (λ (x : Asked). AllByRecursion (g.H.Shelf.sound c.args.shelf.now) (image_names x)) (sym one) all) in
    returns-in-Ok-clause-complete g c command text read images is r told accepted tells each lawful have
    (not_rose _ _ (c.run_command.ensures.source_sound source_sound).1 (g.met.S.Source.sound_counts c.args.script.now source_sound)) s
    (not_rose _ _ after.0 below.0) (not_rose _ _ after.1 below.1)

pub returns-in-Ok-clause-rest : goal.returns-in-Ok-clause-rest
returns-in-Ok-clause-rest g c command is r five eight text told =
    let one = one_command_of c.args.serial (map string_bytes c.args.words.now) c.in-Ok.command command c.in-Ok.ensures.ok is in
    c.run_command.ensures.rest (subst (λ (x : Asked). reads x ≡ true) (sym one) r) five eight text told

pub returns-in-Ok-clause-unread : goal.returns-in-Ok-clause-unread
returns-in-Ok-clause-unread g c = (
  λ none. absurd (none c.in-Ok.command c.in-Ok.ensures.ok),
  λ command is r. c.run_command.ensures.unread (subst (λ (x : Asked). reads x ≡ false)
      (sym (one_command_of c.args.serial (map string_bytes c.args.words.now) c.in-Ok.command command c.in-Ok.ensures.ok is)) r),
)

pub returns-in-Ok-clause-home : goal.returns-in-Ok-clause-home
returns-in-Ok-clause-home g c command is tells =
    let one = one_command_of c.args.serial (map string_bytes c.args.words.now) c.in-Ok.command command c.in-Ok.ensures.ok is in
    subst (λ (x : Asked). KeepOthers (image_names x) (g.H.Shelf.image c.args.shelf.now) (g.H.Shelf.image c.run_command.new.shelf)
    (g.H.Shelf.out c.args.shelf.now) (g.H.Shelf.out c.run_command.new.shelf)) one (c.run_command.ensures.home tells)

pub returns-in-Ok-clause-sound : goal.returns-in-Ok-clause-sound
returns-in-Ok-clause-sound g c command is all =
    let one = one_command_of c.args.serial (map string_bytes c.args.words.now) c.in-Ok.command command c.in-Ok.ensures.ok is in
    c.run_command.ensures.sound (subst (λ (x : Asked). AllByRecursion (g.H.Shelf.sound c.args.shelf.now) (image_names x)) (sym one) all)

pub returns-in-Ok-clause-unfetched : goal.returns-in-Ok-clause-unfetched
returns-in-Ok-clause-unfetched g c = (
  λ none. absurd (none c.in-Ok.command c.in-Ok.ensures.ok),
  λ command is r. (c.run_command.ensures.generated (subst (λ (x : Asked). runs x ≡ false)
      (sym (one_command_of c.args.serial (map string_bytes c.args.words.now) c.in-Ok.command command c.in-Ok.ensures.ok is)) r)).0,
  c.run_command.ensures.unfetched,
)

pub returns-in-Ok-clause-journal : goal.returns-in-Ok-clause-journal
returns-in-Ok-clause-journal g c = (
  λ none. absurd (none c.in-Ok.command c.in-Ok.ensures.ok),
  λ command is r. (c.run_command.ensures.generated (subst (λ (x : Asked). runs x ≡ false)
      (sym (one_command_of c.args.serial (map string_bytes c.args.words.now) c.in-Ok.command command c.in-Ok.ensures.ok is)) r)).1,
)

-- ---- no command

pub returns-in-Err-Words-clause-codes : goal.returns-in-Err-Words-clause-codes
returns-in-Err-Words-clause-codes g c = elim c.end_with.ensures.ends.codes_are [
  | inl one ↦ inr (inl one)
  | inr (inl six) ↦ inr (inr (inr (inr (inr (inl six)))))
  | inr (inr eight) ↦ absurd (c.end_with.ensures.has_memory eight)
]

pub returns-in-Err-Words-clause-asked : goal.returns-in-Err-Words-clause-asked
returns-in-Err-Words-clause-asked g c = elim c.end_with.ensures.ends.codes_are [
  | inl one ↦ inl one
  | inr (inl six) ↦ inr (inl six)
  | inr (inr eight) ↦ absurd (c.end_with.ensures.has_memory eight)
]

pub returns-in-Err-Words-clause-words : goal.returns-in-Err-Words-clause-words
returns-in-Err-Words-clause-words g c first = c.in-Err-Words.ensures.words (ap (λ (e : WordsError). Err e) c.in-Err-Words.field-0-is)

pub returns-in-Err-Words-clause-ends : goal.returns-in-Err-Words-clause-ends
returns-in-Err-Words-clause-ends g c command is =
    let none = c.in-Err-Words.ensures.words (ap (λ (e : WordsError). Err e) c.in-Err-Words.field-0-is) in
    absurd (none command is)

pub returns-in-Err-Words-clause-headline : goal.returns-in-Err-Words-clause-headline
returns-in-Err-Words-clause-headline g c command is r e text images told tells each =
    let none = c.in-Err-Words.ensures.words (ap (λ (e : WordsError). Err e) c.in-Err-Words.field-0-is) in
    absurd (none command is)

pub returns-in-Err-Words-clause-healed : goal.returns-in-Err-Words-clause-healed
returns-in-Err-Words-clause-healed g c command is r e text read images told accepted tells each healed small accepts =
    let none = c.in-Err-Words.ensures.words (ap (λ (e : WordsError). Err e) c.in-Err-Words.field-0-is) in
    absurd (none command is)

pub returns-in-Err-Words-clause-left : goal.returns-in-Err-Words-clause-left
returns-in-Err-Words-clause-left g c command is r plain e tells =
    let none = c.in-Err-Words.ensures.words (ap (λ (e : WordsError). Err e) c.in-Err-Words.field-0-is) in
    absurd (none command is)

pub returns-in-Err-Words-clause-steady : goal.returns-in-Err-Words-clause-steady
returns-in-Err-Words-clause-steady g c command is e =
    let none = c.in-Err-Words.ensures.words (ap (λ (e : WordsError). Err e) c.in-Err-Words.field-0-is) in
    absurd (none command is)

pub returns-in-Err-Words-clause-complete : goal.returns-in-Err-Words-clause-complete
returns-in-Err-Words-clause-complete g c command text read images is r told accepted tells each lawful have p s f d =
    let none = c.in-Err-Words.ensures.words (ap (λ (e : WordsError). Err e) c.in-Err-Words.field-0-is) in
    absurd (none command is)

pub returns-in-Err-Words-clause-sound_run : goal.returns-in-Err-Words-clause-sound_run
returns-in-Err-Words-clause-sound_run g c command text read images is r told accepted tells each lawful have source all s =
    let none = c.in-Err-Words.ensures.words (ap (λ (e : WordsError). Err e) c.in-Err-Words.field-0-is) in
    absurd (none command is)

pub returns-in-Err-Words-clause-rest : goal.returns-in-Err-Words-clause-rest
returns-in-Err-Words-clause-rest g c command is r five eight text told =
    let none = c.in-Err-Words.ensures.words (ap (λ (e : WordsError). Err e) c.in-Err-Words.field-0-is) in
    absurd (none command is)

pub returns-in-Err-Words-clause-home : goal.returns-in-Err-Words-clause-home
returns-in-Err-Words-clause-home g c command is tells =
    let none = c.in-Err-Words.ensures.words (ap (λ (e : WordsError). Err e) c.in-Err-Words.field-0-is) in
    absurd (none command is)

pub returns-in-Err-Words-clause-sound : goal.returns-in-Err-Words-clause-sound
returns-in-Err-Words-clause-sound g c command is all =
    let none = c.in-Err-Words.ensures.words (ap (λ (e : WordsError). Err e) c.in-Err-Words.field-0-is) in
    absurd (none command is)

-- ---- want of memory

pub returns-clause-codes : goal.returns-clause-codes
returns-clause-codes g c = inr (inr (inr (inr (inr (inr (inr refl))))))

pub returns-clause-asked : goal.returns-clause-asked
returns-clause-asked g c = inr (inr (c.in-Err-Memory.ensures.memory (ap (λ (e : WordsError). Err e) c.in-Err-Memory.field-0-is)))

pub returns-clause-no_command : goal.returns-clause-no_command
returns-clause-no_command g c none =
    let some = c.in-Err-Memory.ensures.memory (ap (λ (e : WordsError). Err e) c.in-Err-Memory.field-0-is) in
    absurd (none some.0 some.1)

pub returns-clause-ends : goal.returns-clause-ends
returns-clause-ends g c command is =
    let source = source_by g.S.Source.left g.S.Source.faults in
    let sink = sink_by g.O.Sink.holds g.O.Sink.faults in
    let saw = shelf_by g.H.Shelf.tells g.H.Shelf.image g.H.Shelf.out g.H.Shelf.faults g.H.Shelf.disk_faults g.H.Shelf.fetches g.H.Shelf.returns g.H.Shelf.last_size in
    command_wanting c.generated_scripts_are_accepted.ensures c.args.serial (map string_bytes c.args.words.now) command (source c.args.script.now) (sink c.args.out.now) (saw c.args.shelf.now)
    c.args.journal.now is

pub returns-clause-headline : goal.returns-clause-headline
returns-clause-headline g c command is r e text images told tells each = absurd (no_ending 8 8 e refl (inr (inr (inr (inr (inr (inr refl)))))))

pub returns-clause-healed : goal.returns-clause-healed
returns-clause-healed g c command is r e text read images told accepted tells each healed small accepts =
    absurd (no_ending 8 8 e refl (inr (inr (inr (inr (inr (inr refl)))))))

pub returns-clause-left : goal.returns-clause-left
returns-clause-left g c command is r plain e tells = absurd (no_ending 8 8 e refl (inr (inr (inr (inr (inr (inr refl)))))))

pub returns-clause-steady : goal.returns-clause-steady
returns-clause-steady g c command is e = (refl, refl, refl, refl)

pub returns-clause-complete : goal.returns-clause-complete
returns-clause-complete g c command text read images is r told accepted tells each lawful have p s f d = inr refl

pub returns-clause-sound_run : goal.returns-clause-sound_run
returns-clause-sound_run g c command text read images is r told accepted tells each lawful have source all s = inr refl

pub returns-clause-home : goal.returns-clause-home
returns-clause-home g c command is tells = KeepOthers-itself (image_names command) (g.H.Shelf.image c.args.shelf.now) (g.H.Shelf.out c.args.shelf.now)
