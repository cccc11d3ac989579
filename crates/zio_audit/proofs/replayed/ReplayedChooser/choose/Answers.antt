use Rattle.std.proofs.Common.{◌≡◌, ◌++◌, ◌∷◌, [], refl, ap, ◌∙◌}
use Rattle.std.proofs.lemmas.Result.{IfOk-weaker, on_err_weaker}
use Rattle.zio_types.specs.Choices.{Ask, taken_by}
use Rattle.zio_types.specs.Places.{SamePlaces}
use Rattle.zio_places.specs.Spaces.{used}
use Rattle.zio_blocks.specs.Choosers.{AreHeld}
use Rattle.zio_blocks.proofs.ChooserLemmas.{held_sound, live_after, used_after}
use Rattle.zio_audit.specs.Replays.{AreReplayed, IsReplied, SeenReplayed}
use Rattle.zio_audit.proofs.EntryLemmas.{either_way}
use Rattle.zio_audit.proofs.ReplayedLemmas.{reply_asked, reply_lawful}
use Rattle.zio_audit.proofs.replayed.ReplayedChooser.choose.Goals as goal

pub returns-clause-asked : goal.returns-clause-asked
returns-clause-asked g c =
    let old : SeenReplayed = c.args.self.now in
    let new : SeenReplayed = c.answer.new.self in
    let ask : Ask = record { key = c.args.key; size = c.args.size; copies = c.args.copies } in
    IfOk-weaker c.answer.result (λ e. IsReplied g.K.Spelled.journals old ask e new) (λ e. e.asked ≡ ask) (λ e h. ap (λ x. x.asked) h.entry_is ∙ reply_asked g.K.Spelled.journals old.space.sizes (used old.space) ask) c.answer.ensures.answered

pub returns-clause-lawful : goal.returns-clause-lawful
returns-clause-lawful g c =
    let old : SeenReplayed = c.args.self.now in
    let new : SeenReplayed = c.answer.new.self in
    let ask : Ask = record { key = c.args.key; size = c.args.size; copies = c.args.copies } in
    IfOk-weaker c.answer.result (λ e. IsReplied g.K.Spelled.journals old ask e new) (λ e. AreReplayed g.K.Spelled.journals old.space.sizes (used old.space) (e ∷ [])) (λ e h. reply_lawful g.K.Spelled.journals old.space.sizes (used old.space) ask e c.requires.one h.entry_is) c.answer.ensures.answered

pub returns-clause-used : goal.returns-clause-used
returns-clause-used g c =
    let old : SeenReplayed = c.args.self.now in
    let new : SeenReplayed = c.answer.new.self in
    let ask : Ask = record { key = c.args.key; size = c.args.size; copies = c.args.copies } in
    IfOk-weaker c.answer.result (λ e. IsReplied g.K.Spelled.journals old ask e new) (λ e. SamePlaces (used new.space) (taken_by e ++ used old.space)) (λ e h. used_after old.space old.space new.space (taken_by e) refl refl (ap (λ (r : SeenReplayed). r.space.pending) h.after) (ap (λ (r : SeenReplayed). r.space.live) h.after)) c.answer.ensures.answered

pub returns-clause-live : goal.returns-clause-live
returns-clause-live g c =
    let old : SeenReplayed = c.args.self.now in
    let new : SeenReplayed = c.answer.new.self in
    let ask : Ask = record { key = c.args.key; size = c.args.size; copies = c.args.copies } in
    IfOk-weaker c.answer.result (λ e. IsReplied g.K.Spelled.journals old ask e new) (λ e. SamePlaces new.space.live (taken_by e ++ old.space.live)) (λ e h. live_after old.space old.space new.space (taken_by e) refl (ap (λ (r : SeenReplayed). r.space.live) h.after)) c.answer.ensures.answered

pub returns-clause-given : goal.returns-clause-given
returns-clause-given g c =
    let old : SeenReplayed = c.args.self.now in
    let new : SeenReplayed = c.answer.new.self in
    let ask : Ask = record { key = c.args.key; size = c.args.size; copies = c.args.copies } in
    IfOk-weaker c.answer.result (λ e. IsReplied g.K.Spelled.journals old ask e new) (λ e. new.given ≡ old.given ++ e ∷ []) (λ e h. ap (λ (r : SeenReplayed). r.given) h.after) c.answer.ensures.answered

pub returns-clause-held : goal.returns-clause-held
returns-clause-held g c =
    let old : SeenReplayed = c.args.self.now in
    let new : SeenReplayed = c.answer.new.self in
    let ask : Ask = record { key = c.args.key; size = c.args.size; copies = c.args.copies } in
    IfOk-weaker c.answer.result (λ e. IsReplied g.K.Spelled.journals old ask e new) (λ e. AreHeld new.space.sizes (used new.space) new.space.live) (λ e h. held_sound new.space c.answer.ensures.sound) c.answer.ensures.answered

pub returns-clause-sizes : goal.returns-clause-sizes
returns-clause-sizes g c =
    let old : SeenReplayed = c.args.self.now in
    let new : SeenReplayed = c.answer.new.self in
    let ask : Ask = record { key = c.args.key; size = c.args.size; copies = c.args.copies } in
    either_way c.answer.result
    (IfOk-weaker c.answer.result (λ e. IsReplied g.K.Spelled.journals old ask e new) (λ e. new.space.sizes ≡ old.space.sizes) (λ e h. ap (λ (r : SeenReplayed). r.space.sizes) h.after) c.answer.ensures.answered)
    (on_err_weaker c.answer.result (λ same. ap (λ (r : SeenReplayed). r.space.sizes) same) c.answer.ensures.err)

pub returns-clause-err : goal.returns-clause-err
returns-clause-err g c =
    on_err_weaker c.answer.result
    (λ same. (ap (λ (r : SeenReplayed). used r.space) same, ap (λ (r : SeenReplayed). r.space.live) same, ap (λ (r : SeenReplayed). r.given) same)) c.answer.ensures.err
