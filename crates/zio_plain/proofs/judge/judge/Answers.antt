use Rattle.std.proofs.Common.{◌∙◌, ap, sym, subst, reverse, List}
use Rattle.zio_types.specs.declared.request.Bits.{Bits}
use Rattle.zio_types.specs.declared.request.Kind.{Kind}
use Rattle.zio_script.specs.Requests.{kind_of}
use Rattle.zio_gang.specs.Attempts.{all_bits}
use Rattle.zio_course.specs.Runners.{AreRisingFrom}
use Rattle.zio_plain.specs.declared.waiting.Kept.{Kept}
use Rattle.zio_plain.specs.Judgments.{children_handed, done_in}
use Rattle.zio_plain.specs.Waits.{merged, numbers_in}
use Rattle.zio_plain.proofs.JudgeLemmas.{judged_again, judged_ended, rising_done}
use Rattle.zio_plain.proofs.judge.judge.Goals as goal

pub merged-requires : goal.merged-requires
merged-requires c =
    subst (λ ks. AreRisingFrom 0 (numbers_in ks)) (sym (c.as_slice.ensures ∙ c.in_ok-finished.ensures)) (rising_done 0 c.args.children.now c.requires.rising)

pub returns-then-go_again-clause-judged : goal.returns-then-go_again-clause-judged
returns-then-go_again-clause-judged c =
    let o = c.args.own in
    let w = c.args.waiting in
    judged_again c.goes_again.result c.args.failmode w o c.args.children.now c.all_bits-bits.result c.in_ok-kept.kept
    (c.all_bits-bits.ensures ∙ ap (λ (k : Kind). all_bits k o.error w.request.canfail c.args.failmode c.bits_of.result) c.kind.ensures
    ∙ ap (λ (b : Bits). all_bits (kind_of w.request.work) o.error w.request.canfail c.args.failmode b) c.bits_of.ensures)
    (c.in_ok-kept.ensures ∙ ap (λ (ks : List Kept). merged (reverse ks) c.as_slice-2.result.now) (c.as_slice.ensures ∙ c.in_ok-finished.ensures)
    ∙ ap (merged (reverse (children_handed (done_in c.args.children.now)))) c.as_slice-2.ensures)
    (sym c.if-go_again.ensures) c.goes_again.ensures.judged

pub returns-clause-judged : goal.returns-clause-judged
returns-clause-judged c =
    let o = c.args.own in
    let w = c.args.waiting in
    judged_ended c.ends.result c.args.failmode w o c.args.children.now c.all_bits-bits.result c.as_slice-else-go_again.result.now
    (c.all_bits-bits.ensures ∙ ap (λ (k : Kind). all_bits k o.error w.request.canfail c.args.failmode c.bits_of.result) c.kind.ensures
    ∙ ap (λ (b : Bits). all_bits (kind_of w.request.work) o.error w.request.canfail c.args.failmode b) c.bits_of.ensures)
    (c.as_slice-else-go_again.ensures ∙ c.in_ok-kept.ensures ∙ ap (λ (ks : List Kept). merged (reverse ks) c.as_slice-2.result.now) (c.as_slice.ensures ∙ c.in_ok-finished.ensures)
    ∙ ap (merged (reverse (children_handed (done_in c.args.children.now)))) c.as_slice-2.ensures)
    (sym c.if-go_again.ensures) c.ends.ensures.judged
