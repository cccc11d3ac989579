use Rattle.std.proofs.Common.{◌≡◌, ◌∷◌, true, true≢false, inl, inr, map, string_bytes, refl, sym, ap, ◌∙◌}
use Rattle.std.specs.Prelude.{codes}
use Rattle.zio_command.specs.Codes.RunEnds.{Wanting}
use Rattle.zio_command.specs.Seen.{shelf_by, sink_by}
use Rattle.zio_command.specs.Words.{AreImages, IsCommandOf}
use Rattle.zio_command.proofs.CommandLemmas.{wanting}
use Rattle.zio_command.proofs.EndLemmas.{no_ending}
use Rattle.zio_command.proofs.TripLemmas.{KeepOthers-itself}
use Rattle.zio_run.specs.Stable.{plain_run}
use Rattle.zio_run.proofs.DurableLemmas.{is_plain_run, left_stable}
use Rattle.zio_run.proofs.durable.zio_durable_main.Given as given
use Rattle.zio_run.proofs.durable.zio_durable_main.Goals as goal

-- ---- words that name no images

no_images : (g : given.Over) (c : goal.After-end_with g) → AreImages (map string_bytes c.args.words.now) → ⊥
no_images g c are = true≢false (sym (c.are_images.ensures.1 are) ∙ c.if-not-are_images.true)

pub returns-then-not-are_images-clause-codes : goal.returns-then-not-are_images-clause-codes
returns-then-not-are_images-clause-codes g c = elim c.end_with.ensures.ends.codes_are [
  | inl one ↦ inr (inl one)
  | inr (inl six) ↦ inr (inr (inr (inr (inr (inl six)))))
  | inr (inr eight) ↦ absurd (c.end_with.ensures.has_memory eight)
]

pub returns-then-not-are_images-clause-asked : goal.returns-then-not-are_images-clause-asked
returns-then-not-are_images-clause-asked g c = elim c.end_with.ensures.ends.codes_are [
  | inl one ↦ inl one
  | inr (inl six) ↦ inr (inl six)
  | inr (inr eight) ↦ absurd (c.end_with.ensures.has_memory eight)
]

pub returns-then-not-are_images-clause-words : goal.returns-then-not-are_images-clause-words
returns-then-not-are_images-clause-words g c one are = no_images g c are

pub returns-then-not-are_images-clause-ends : goal.returns-then-not-are_images-clause-ends
returns-then-not-are_images-clause-ends g c are = absurd (no_images g c are)

pub returns-then-not-are_images-clause-headline : goal.returns-then-not-are_images-clause-headline
returns-then-not-are_images-clause-headline g c are e text images left tells told = absurd (no_images g c are)

pub returns-then-not-are_images-clause-steady : goal.returns-then-not-are_images-clause-steady
returns-then-not-are_images-clause-steady g c are e = absurd (no_images g c are)

pub returns-then-not-are_images-clause-stable : goal.returns-then-not-are_images-clause-stable
returns-then-not-are_images-clause-stable g c are e tells ran = absurd (no_images g c are)

pub returns-then-not-are_images-clause-healed : goal.returns-then-not-are_images-clause-healed
returns-then-not-are_images-clause-healed g c are e text read images left accepted tells told healed small accepts = absurd (no_images g c are)

pub returns-then-not-are_images-clause-complete : goal.returns-then-not-are_images-clause-complete
returns-then-not-are_images-clause-complete g c text read images are left accepted tells told lawful have p s f d = absurd (no_images g c are)

pub returns-then-not-are_images-clause-sound_run : goal.returns-then-not-are_images-clause-sound_run
returns-then-not-are_images-clause-sound_run g c text read images are left accepted tells told lawful have source all s = absurd (no_images g c are)

pub returns-then-not-are_images-clause-rest : goal.returns-then-not-are_images-clause-rest
returns-then-not-are_images-clause-rest g c are five eight text told = absurd (no_images g c are)

pub returns-then-not-are_images-clause-home : goal.returns-then-not-are_images-clause-home
returns-then-not-are_images-clause-home g c tells = KeepOthers-itself (map string_bytes c.args.words.now) (g.H.Shelf.image c.args.shelf.now) (g.H.Shelf.out c.args.shelf.now)

-- ---- a run over images

are : (g : given.Over) (c : goal.After-drop-words g) → AreImages (map string_bytes c.args.words.now)
are g c = c.are_images.ensures.0 c.if-not-are_images.false

-- the words that are handed on are those of its command
is_run : (g : given.Over) (c : goal.After-drop-words g) → IsCommandOf true (map string_bytes c.as_slice.result.now) (plain_run (map string_bytes c.args.words.now))
is_run g c =
    let words : map string_bytes c.as_slice.result.now ≡ codes "run" ∷ map string_bytes c.args.words.now =
    ap (map string_bytes) c.as_slice.ensures.value ∙ c.in-Ok.ensures in
    is_plain_run (map string_bytes c.as_slice.result.now) (map string_bytes c.args.words.now) words (are g c)

pub returns-in-Ok-clause-asked : goal.returns-in-Ok-clause-asked
returns-in-Ok-clause-asked g c = inr (inr (are g c))

pub returns-in-Ok-clause-no_images : goal.returns-in-Ok-clause-no_images
returns-in-Ok-clause-no_images g c none = absurd (none (are g c))

pub returns-in-Ok-clause-words : goal.returns-in-Ok-clause-words
returns-in-Ok-clause-words g c one named = c.run_words.ensures.words one (plain_run (map string_bytes c.args.words.now)) (is_run g c)

pub returns-in-Ok-clause-ends : goal.returns-in-Ok-clause-ends
returns-in-Ok-clause-ends g c named = c.run_words.ensures.ends (plain_run (map string_bytes c.args.words.now)) (is_run g c)

pub returns-in-Ok-clause-headline : goal.returns-in-Ok-clause-headline
returns-in-Ok-clause-headline g c named e text images left tells told =
    c.run_words.ensures.headline (plain_run (map string_bytes c.args.words.now)) (is_run g c) refl e text images left tells told

pub returns-in-Ok-clause-steady : goal.returns-in-Ok-clause-steady
returns-in-Ok-clause-steady g c named e = c.run_words.ensures.steady (plain_run (map string_bytes c.args.words.now)) (is_run g c) e

pub returns-in-Ok-clause-stable : goal.returns-in-Ok-clause-stable
returns-in-Ok-clause-stable g c named e tells ran =
    left_stable g.H.Disk.Disk.image g.H.Disk.Disk.keeps c.run_words.new.journal.rounds (map string_bytes c.args.words.now)
    (g.H.Shelf.image c.run_words.new.shelf) (g.H.Shelf.keeps c.run_words.new.shelf) (g.met.H.Shelf.one_image c.run_words.new.shelf)
    (c.run_words.ensures.left (plain_run (map string_bytes c.args.words.now)) (is_run g c) refl refl e tells) ran

pub returns-in-Ok-clause-healed : goal.returns-in-Ok-clause-healed
returns-in-Ok-clause-healed g c named e text read images left accepted tells told healed small accepts =
    c.run_words.ensures.healed (plain_run (map string_bytes c.args.words.now)) (is_run g c) refl e text read images left accepted tells told healed small accepts

pub returns-in-Ok-clause-complete : goal.returns-in-Ok-clause-complete
returns-in-Ok-clause-complete g c text read images named left accepted tells told lawful have p s f d =
    c.run_words.ensures.complete (plain_run (map string_bytes c.args.words.now)) text read images (is_run g c) refl left accepted tells told lawful have p s f d

pub returns-in-Ok-clause-sound_run : goal.returns-in-Ok-clause-sound_run
returns-in-Ok-clause-sound_run g c text read images named left accepted tells told lawful have source all s =
    c.run_words.ensures.sound_run (plain_run (map string_bytes c.args.words.now)) text read images (is_run g c) refl left accepted tells told lawful have source all s

pub returns-in-Ok-clause-rest : goal.returns-in-Ok-clause-rest
returns-in-Ok-clause-rest g c named five eight text told = c.run_words.ensures.rest (plain_run (map string_bytes c.args.words.now)) (is_run g c) refl five eight text told

pub returns-in-Ok-clause-unread : goal.returns-in-Ok-clause-unread
returns-in-Ok-clause-unread g c none = absurd (none (are g c))

pub returns-in-Ok-clause-home : goal.returns-in-Ok-clause-home
returns-in-Ok-clause-home g c tells = c.run_words.ensures.home (plain_run (map string_bytes c.args.words.now)) (is_run g c) tells

pub returns-in-Ok-clause-sound : goal.returns-in-Ok-clause-sound
returns-in-Ok-clause-sound g c all = c.run_words.ensures.sound (plain_run (map string_bytes c.args.words.now)) (is_run g c) all

pub returns-in-Ok-clause-unfetched : goal.returns-in-Ok-clause-unfetched
returns-in-Ok-clause-unfetched g c = (λ none. absurd (none (are g c)), c.run_words.ensures.unfetched.2)

pub returns-in-Ok-clause-journal : goal.returns-in-Ok-clause-journal
returns-in-Ok-clause-journal g c none = absurd (none (are g c))

-- ---- want of memory

pub returns-in-Err-clause-codes : goal.returns-in-Err-clause-codes
returns-in-Err-clause-codes g c = inr (inr (inr (inr (inr (inr (inr refl))))))

pub returns-in-Err-clause-asked : goal.returns-in-Err-clause-asked
returns-in-Err-clause-asked g c = inr (inr (c.are_images.ensures.0 c.if-not-are_images.false))

pub returns-in-Err-clause-no_images : goal.returns-in-Err-clause-no_images
returns-in-Err-clause-no_images g c none = absurd (none (c.are_images.ensures.0 c.if-not-are_images.false))

pub returns-in-Err-clause-ends : goal.returns-in-Err-clause-ends
returns-in-Err-clause-ends g c named =
    let sink = sink_by g.O.Sink.holds g.O.Sink.faults in
    let saw = shelf_by g.H.Shelf.tells g.H.Shelf.image g.H.Shelf.out g.H.Shelf.faults g.H.Shelf.disk_faults g.H.Shelf.fetches g.H.Shelf.returns g.H.Shelf.last_size in
    inr (Wanting refl (wanting (sink c.args.out.now) (saw c.args.shelf.now) c.args.journal.now))

pub returns-in-Err-clause-headline : goal.returns-in-Err-clause-headline
returns-in-Err-clause-headline g c named e text images left tells told = absurd (no_ending 8 8 e refl (inr (inr (inr (inr (inr (inr refl)))))))

pub returns-in-Err-clause-stable : goal.returns-in-Err-clause-stable
returns-in-Err-clause-stable g c named e tells ran = absurd (no_ending 8 8 e refl (inr (inr (inr (inr (inr (inr refl)))))))

pub returns-in-Err-clause-healed : goal.returns-in-Err-clause-healed
returns-in-Err-clause-healed g c named e text read images left accepted tells told healed small accepts =
    absurd (no_ending 8 8 e refl (inr (inr (inr (inr (inr (inr refl)))))))

pub returns-in-Err-clause-steady : goal.returns-in-Err-clause-steady
returns-in-Err-clause-steady g c named e = (refl, refl, refl, refl)

pub returns-in-Err-clause-complete : goal.returns-in-Err-clause-complete
returns-in-Err-clause-complete g c text read images named left accepted tells told lawful have p s f d = inr refl

pub returns-in-Err-clause-sound_run : goal.returns-in-Err-clause-sound_run
returns-in-Err-clause-sound_run g c text read images named left accepted tells told lawful have source all s = inr refl

pub returns-in-Err-clause-home : goal.returns-in-Err-clause-home
returns-in-Err-clause-home g c tells = KeepOthers-itself (map string_bytes c.args.words.now) (g.H.Shelf.image c.args.shelf.now) (g.H.Shelf.out c.args.shelf.now)
