use Rattle.std.proofs.Common.{◌≡◌, Bool, false, ◌↔◌, IsTrue, map, string_bytes, sym, ◌∙◌, true≢false}
use Rattle.zio_command.proofs.WordLemmas.{is_run, no_run, no_run_images}
use Rattle.zio_command.proofs.words.read_run.Goals.{in_default-via-in-Some+else-are_images, in_default-via-in_default}
use Rattle.zio_command.proofs.words.read_run.Goals as goal

not_so : {P : Type 0} (b : Bool) → b ≡ false → IsTrue b ↔ P → ¬ P
not_so b is tells p = true≢false (sym (tells.1 p) ∙ is)

pub returns-in_default-clause-words : goal.returns-in_default-clause-words
returns-in_default-clause-words c e = elim c.in_default.branch [
  | in_default-via-in-Some+else-are_images w ↦
      no_run_images c.args.serial (map string_bytes c.args.words.now) _ (map string_bytes w.in-Some.names.now) w.in-Some.ensures
      (not_so w.are_images.result w.if-are_images.false w.are_images.ensures)
  | in_default-via-in_default w ↦ no_run c.args.serial (map string_bytes c.args.words.now) w.in_default.ensures
]

pub returns-in-Some-clause-memory : goal.returns-in-Some-clause-memory
returns-in-Some-clause-memory c e =
    is_run c.args.serial (map string_bytes c.args.words.now) _ (map string_bytes c.in-Some.names.now) c.in-Some.ensures
    (c.are_images.ensures.0 c.if-are_images.true)
