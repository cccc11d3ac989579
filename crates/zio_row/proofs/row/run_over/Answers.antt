use Rattle.std.proofs.Common.{◌≡◌, ℕ, [], ◌∷◌, map, true, ◌⊎◌, inl, inr, ⊎_elim, refl, sym, ap, ◌∙◌, arith}
use Rattle.std.specs.Prelude.{codes, string_bytes}
use Rattle.zio_outside.specs.Memory.{IsSoundSource, source_left}
use Rattle.zio_command.specs.Outcomes.{IsEnding}
use Rattle.zio_command.specs.Words.{IsCommandOf}
use Rattle.zio_row.specs.Row.{blank_image, row_text}
use Rattle.zio_row.proofs.RowEnds.{blank_is_long, image_told, row_command, row_is, row_is_command, shelf_sound, size_lawful}
use Rattle.zio_row.proofs.RowScript.{row_is_read, row_script}
use Rattle.zio_row.proofs.row.run_over.Goals as goal

pub returns-clause-codes : goal.returns-clause-codes
returns-clause-codes g c = λ steady.
    let words : map string_bytes c.as_slice.result.now ≡ codes "run" ∷ codes "a" ∷ [] = ap (map string_bytes) c.as_slice.ensures.value ∙ c.in-Ok.ensures in
    let command : IsCommandOf true (map string_bytes c.as_slice.result.now) row_command = row_is_command (map string_bytes c.as_slice.result.now) words in
    let told : row_text ≡ source_left c.in-Ok-source.source = sym c.in-Ok-source.ensures.left in
    let sound : IsSoundSource c.in-Ok-source.source = record { unlisted = c.in-Ok-source.ensures.fails; faultless = c.in-Ok-source.ensures.faults } in
    let images = image_told blank_image c.args.shelf.now c.requires in
    let code = c.zio_serial_main.result.code in
    ⊎_elim
    (λ (ending : IsEnding code).
    let h = c.zio_serial_main.ensures.headline row_command command refl ending row_text (blank_image ∷ []) told tt images in
    inl ((row_is blank_image c.zio_serial_main.new.journal h.0 _ _ _ code blank_is_long h.1 h.2).code_is))
    (λ (eight : code ≡ 8). inr eight)
    (c.zio_serial_main.ensures.sound_run row_command row_text row_script (blank_image ∷ []) command refl told row_is_read tt images
    (size_lawful blank_image blank_is_long) (omega arith, tt) sound (shelf_sound blank_image c.args.shelf.now c.requires) steady)

pub returns-clause-report : goal.returns-clause-report
returns-clause-report g c = λ zero.
    let words : map string_bytes c.as_slice.result.now ≡ codes "run" ∷ codes "a" ∷ [] = ap (map string_bytes) c.as_slice.ensures.value ∙ c.in-Ok.ensures in
    let command : IsCommandOf true (map string_bytes c.as_slice.result.now) row_command = row_is_command (map string_bytes c.as_slice.result.now) words in
    let told : row_text ≡ source_left c.in-Ok-source.source = sym c.in-Ok-source.ensures.left in
    let images = image_told blank_image c.args.shelf.now c.requires in
    let h = c.zio_serial_main.ensures.headline row_command command refl (inl zero) row_text (blank_image ∷ []) told tt images in
    (row_is blank_image c.zio_serial_main.new.journal h.0 _ _ _ c.zio_serial_main.result.code blank_is_long h.1 h.2).written

pub returns-clause-image : goal.returns-clause-image
returns-clause-image g c = λ zero.
    let words : map string_bytes c.as_slice.result.now ≡ codes "run" ∷ codes "a" ∷ [] = ap (map string_bytes) c.as_slice.ensures.value ∙ c.in-Ok.ensures in
    let command : IsCommandOf true (map string_bytes c.as_slice.result.now) row_command = row_is_command (map string_bytes c.as_slice.result.now) words in
    let told : row_text ≡ source_left c.in-Ok-source.source = sym c.in-Ok-source.ensures.left in
    let images = image_told blank_image c.args.shelf.now c.requires in
    let h = c.zio_serial_main.ensures.headline row_command command refl (inl zero) row_text (blank_image ∷ []) told tt images in
    let row = row_is blank_image c.zio_serial_main.new.journal h.0 _ _ _ c.zio_serial_main.result.code blank_is_long h.1 h.2 in
    record { sector = row.sector; inside = row.inside; stored = row.stored }
