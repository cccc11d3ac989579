use Rattle.std.proofs.Common.{◌≡◌, Bool, false, ◌↔◌, IsTrue, map, string_bytes, sym, ◌∙◌, true≢false}
use Rattle.zio_command.proofs.WordLemmas.{is_scrub, no_scrub, no_scrub_images}
use Rattle.zio_command.proofs.words.read_scrub.Goals.{in_default-via-in-Some+then-is_plain+else-are_images, in_default-via-in-Some+else-is_plain, in_default-via-in_default}
use Rattle.zio_command.proofs.words.read_scrub.Goals as goal

not_so : {P : Type 0} (b : Bool) → b ≡ false → IsTrue b ↔ P → ¬ P
not_so b is tells p = true≢false (sym (tells.1 p) ∙ is)

pub returns-in_default-clause-words : goal.returns-in_default-clause-words
returns-in_default-clause-words c e = elim c.in_default.branch [
  | in_default-via-in-Some+then-is_plain+else-are_images w ↦
      no_scrub_images (map string_bytes c.args.words.now) _ (map string_bytes w.in-Some.names.now) w.in-Some.ensures
      (λ plain. not_so w.are_images.result w.if-are_images.false w.are_images.ensures)
  | in_default-via-in-Some+else-is_plain w ↦
      no_scrub_images (map string_bytes c.args.words.now) _ (map string_bytes w.in-Some.names.now) w.in-Some.ensures
      (λ plain. absurd (not_so w.is_plain.result w.if-is_plain.false w.is_plain.ensures plain))
  | in_default-via-in_default w ↦
      no_scrub (map string_bytes c.args.words.now) (λ options names split plain named. w.in_default.ensures options names split)
]

pub returns-in-Some-clause-memory : goal.returns-in-Some-clause-memory
returns-in-Some-clause-memory c e =
    is_scrub (map string_bytes c.args.words.now) _ (map string_bytes c.in-Some.names.now) c.in-Some.ensures
    (c.is_plain.ensures.0 c.if-is_plain.true) (c.are_images.ensures.0 c.if-are_images.true)
