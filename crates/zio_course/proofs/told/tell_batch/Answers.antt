use Rattle.std.proofs.Common.{◌≡◌, ℕ, List, [], ◌∷◌, ◌++◌, reverse, Option, refl, ap, sym, subst, ◌∙◌}
use Rattle.std.proofs.lemmas.List.{reverse-reverse}
use Rattle.zio_types.specs.declared.error.Errno.{Errno}
use Rattle.zio_script.specs.declared.script.Item.{Item}
use Rattle.zio_script.specs.declared.script.Request.{Request}
use Rattle.zio_script.specs.Requests.{requests_of}
use Rattle.zio_gang.specs.declared.tree.Tree.{Tree}
use Rattle.zio_report.specs.declared.report.ReportLine.{ReportLine}
use Rattle.zio_course.specs.declared.runner.RequestEnd.{RequestEnd}
use Rattle.zio_course.specs.Admissions.{error_in}
use Rattle.zio_course.specs.Told.{left_by}
use Rattle.zio_course.proofs.ToldLemmas.{IsTelling, telling_end, telling_next, telling_start}
use Rattle.zio_course.proofs.told.tell_batch.Goals as goal

pub loop-item-init : goal.loop-item-init
loop-item-init c =
    let error : ℕ → Option Errno = error_in c.args.admission.now.slots.entries c.args.admission.now.rules.items in
    let all : reverse c.into_vec-left.result.items ≡ c.args.finished =
    ap reverse (c.into_vec-left.ensures ∙ c.reversed.ensures) ∙ reverse-reverse c.args.finished in (
      [],
      subst (λ (fs : List RequestEnd). IsTelling error c.args.finished (requests_of c.args.batch.now) c.args.bound.now c.args.batch.now fs c.new-lines.result c.args.bound.now []) (sym all)
          (telling_start error c.args.finished c.args.batch.now c.args.bound.now c.new-lines.result c.requires.rising c.requires.finished c.new-lines.ensures),
    )

pub loop-item-preserved : goal.loop-item-preserved
loop-item-preserved c =
    let error : ℕ → Option Errno = error_in c.args.admission.now.slots.entries c.args.admission.now.rules.items in
    let batch : List Request = requests_of c.args.batch.now in
    let old : List (List ℕ × Tree) = c.args.bound.now in
    let fs : List RequestEnd = reverse c.loop-item.left.items in
    let item : Item = c.in-Some.item.now in
    let more : List Item = c.in-Some.more.now in
    let front : List Request = c.loop-item.invariant.0 in
    let h : IsTelling error c.args.finished batch old (item ∷ more) fs c.loop-item.lines c.loop-item.bound front =
    subst (λ (rest : List Item). IsTelling error c.args.finished batch old rest fs c.loop-item.lines c.loop-item.bound front) c.in-Some.ensures.some c.loop-item.invariant.1 in (
      front ++ requests_of (item ∷ []),
      subst (λ (left : List RequestEnd). IsTelling error c.args.finished batch old more left c.tell_line.new.lines c.tell_line.new.bound (front ++ requests_of (item ∷ []))) (sym c.in_ok-tell_line.ensures.left)
          (subst (λ (ls : List ReportLine). IsTelling error c.args.finished batch old more (left_by error fs item) ls c.tell_line.new.bound (front ++ requests_of (item ∷ []))) (sym c.in_ok-tell_line.ensures.lines)
          (telling_next error c.args.finished batch old item more fs c.loop-item.lines c.loop-item.bound c.tell_line.new.bound front h c.in_ok-tell_line.ensures.bound)),
    )

pub returns : goal.returns
returns c =
    let error : ℕ → Option Errno = error_in c.args.admission.now.slots.entries c.args.admission.now.rules.items in
    let batch : List Request = requests_of c.args.batch.now in
    let old : List (List ℕ × Tree) = c.args.bound.now in
    let fs : List RequestEnd = reverse c.loop-item.left.items in
    let front : List Request = c.loop-item.invariant.0 in
    let h : IsTelling error c.args.finished batch old [] fs c.loop-item.lines c.loop-item.bound front =
    subst (λ (rest : List Item). IsTelling error c.args.finished batch old rest fs c.loop-item.lines c.loop-item.bound front) (c.in_default.ensures.none refl) c.loop-item.invariant.1 in
    let whole = telling_end error c.args.finished batch old fs c.loop-item.lines c.loop-item.bound front h in
    record { lines = whole.lines_are; bound = whole.bound_is }
