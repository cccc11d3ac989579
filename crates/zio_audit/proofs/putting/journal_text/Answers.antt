use Rattle.std.proofs.Common.{◌≡◌, ◌++◌, ap, map, ◌∙◌}
use Rattle.zio_report.specs.Lines.{head_text, journal_text}
use Rattle.zio_audit.specs.Marks.{named}
use Rattle.zio_audit.specs.Putting.{no_head, text_of}
use Rattle.zio_audit.proofs.PutLemmas.{same_behind}
use Rattle.zio_audit.proofs.putting.journal_text.Goals as goal

pub returns : goal.returns
returns c =
    let order = c.deref.ensures.value ∙ c.in_ok-completions.ensures ∙ ap (λ ns. map (named 0) ns) c.as_slice.ensures in
    let printed : c.in_ok-round.round ≡ head_text no_head ++ text_of c.args.journal.now =
    c.in_ok-round.ensures ∙ (λ i. head_text no_head ++ journal_text (c.as_slice-2.ensures i) (order i)) in
    let bytes : c.as_bytes.result.now ≡ head_text no_head ++ text_of c.args.journal.now = c.as_bytes.ensures.value ∙ c.as_str.ensures ∙ printed in
    c.in_ok-extend_from_slice.ensures.ok ∙ (λ i. c.new-text.ensures i ++ c.behind_head.result.now)
    ∙ same_behind c.as_bytes.result.now (text_of c.args.journal.now) c.behind_head.result.now bytes c.behind_head.ensures
