use Rattle.std.proofs.Common.{◌≡◌, ◌==◌, ◌&&◌, false, None, Some, ap, sym, ◌∙◌}
use Rattle.std.specs.Prelude.{option_copied}
use Rattle.std.proofs.lemmas.Bool.{and_from, and_left, and_right, cond-false, cond-true, eq-eqb, ne_eqb}
use Rattle.zio_types.specs.Choices.{Ask, Choice}
use Rattle.zio_audit.proofs.NameLemmas.{fits_here}
use Rattle.zio_audit.proofs.index.entry_for.Goals.{else-entry-size-via-then-entry-size+else-entry-copies, else-entry-size-via-else-entry-size}
use Rattle.zio_audit.proofs.index.entry_for.Goals as goal

pub returns-in_default : goal.returns-in_default
returns-in_default c =
    let ask : Ask = record { key = c.args.key.now; size = c.args.size; copies = c.args.copies } in
    fits_here c.args.entries.now ask None c.requires.distinct (sym (ap option_copied c.in_default.is) ∙ c.entry_with.ensures)

pub returns-then-entry-copies : goal.returns-then-entry-copies
returns-then-entry-copies c =
    let ask : Ask = record { key = c.args.key.now; size = c.args.size; copies = c.args.copies } in
    let e : Choice = c.in-Some.entry.now in
    let size = sym (ap (λ (x : Choice). x.asked.size) c.entry.view_is) ∙ c.if-entry-size.true in
    let copies = sym (ap (λ (x : Choice). x.asked.copies) c.entry.view_is) ∙ c.if-entry-copies.true in
    sym (cond-true ((e.asked.size == ask.size) && (e.asked.copies == ask.copies)) (Some e) None
    (and_from (e.asked.size == ask.size) (e.asked.copies == ask.copies) (eq-eqb e.asked.size ask.size size) (eq-eqb e.asked.copies ask.copies copies)))
    ∙ fits_here c.args.entries.now ask (Some e) c.requires.distinct (sym (ap option_copied c.in-Some.is) ∙ c.entry_with.ensures)

pub returns-else-entry-size : goal.returns-else-entry-size
returns-else-entry-size c =
    let ask : Ask = record { key = c.args.key.now; size = c.args.size; copies = c.args.copies } in
    let e : Choice = c.in-Some.entry.now in
    let other : ((e.asked.size == ask.size) && (e.asked.copies == ask.copies)) ≡ false =
    elim c.else-entry-size.branch [
      | else-entry-size-via-then-entry-size+else-entry-copies w ↦
          and_right (e.asked.size == ask.size) (e.asked.copies == ask.copies)
          (ne_eqb e.asked.copies ask.copies (λ h. w.if-entry-copies.false (ap (λ (x : Choice). x.asked.copies) c.entry.view_is ∙ h)))
      | else-entry-size-via-else-entry-size w ↦
          and_left (e.asked.size == ask.size) (e.asked.copies == ask.copies)
          (ne_eqb e.asked.size ask.size (λ h. w.if-entry-size.false (ap (λ (x : Choice). x.asked.size) c.entry.view_is ∙ h)))
    ] in
    sym (cond-false ((e.asked.size == ask.size) && (e.asked.copies == ask.copies)) (Some e) None other)
    ∙ fits_here c.args.entries.now ask (Some e) c.requires.distinct (sym (ap option_copied c.in-Some.is) ∙ c.entry_with.ensures)
