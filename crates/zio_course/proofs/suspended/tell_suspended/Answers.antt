use Rattle.std.proofs.Common.{◌≡◌, ℕ, ◌+◌, List, [], ◌∷◌, ◌++◌, map, drop, reverse, Option, None, ap, sym, subst, ◌∙◌, Bor, arith}
use Rattle.std.proofs.lemmas.List.{reverse-reverse}
use Rattle.zio_script.specs.declared.script.Item.TheVariants.{Request as RequestLine}
use Rattle.zio_script.specs.declared.script.Request.{Request}
use Rattle.zio_gang.specs.declared.tree.Tree.{Tree}
use Rattle.zio_gang.specs.Rounds.{block_of, bound_after}
use Rattle.zio_report.specs.declared.report.ReportLine.{ReportLine}
use Rattle.zio_course.specs.declared.runner.RequestEnd.{RequestEnd}
use Rattle.zio_course.specs.Forests.{names_of}
use Rattle.zio_course.specs.Told.{ended_by, left_by, line_by, next_of, no_error}
use Rattle.zio_course.proofs.SuspendedLemmas.{as_lines, drop_first, drop_last, telling_first}
use Rattle.zio_course.proofs.ToldLemmas.{IsTelling, telling_end, telling_next}
use Rattle.zio_course.proofs.suspended.tell_suspended.Goals as goal

pub loop-request-init : goal.loop-request-init
loop-request-init c =
    let requests : List Request = map (λ (r : Bor Request). r.now) c.args.unfinished.now in
    let all : reverse c.into_vec-left.result.items ≡ c.args.finished =
    ap reverse (c.into_vec-left.ensures ∙ c.reversed.ensures) ∙ reverse-reverse c.args.finished in (
      [],
      subst (λ (fs : List RequestEnd). IsTelling no_error c.args.finished requests c.args.bound.now (as_lines requests) fs c.new-lines.result c.args.bound.now []) (sym all)
          (telling_first c.args.finished requests c.args.bound.now c.new-lines.result c.requires.rising c.requires.finished c.new-lines.ensures),
    )

pub loop-request-preserved : goal.loop-request-preserved
loop-request-preserved c =
    let requests : List Request = map (λ (r : Bor Request). r.now) c.args.unfinished.now in
    let old : List (List ℕ × Tree) = c.args.bound.now in
    let fs : List RequestEnd = reverse c.loop-request.left.items in
    let r : Request = c.request-item.result.now in
    let more : List Request = drop (c.loop-request.request-index + 1) requests in
    let front : List Request = c.loop-request.invariant.0 in
    let split : drop c.loop-request.request-index requests ≡ r ∷ more = drop_first (λ (q : Bor Request). q.now) c.args.unfinished.now c.loop-request.request-index c.request-item.result (omega arith) c.request-item.is in
    let line : c.in_ok-line.line ≡ line_by None (next_of fs r.number) r =
    c.in_ok-line.ensures.line ∙ ap (λ (f : Option RequestEnd). line_by None f r) c.take_of-finished.ensures.taken in
    let h : IsTelling no_error c.args.finished requests old (RequestLine r ∷ as_lines more) fs c.loop-request.lines c.loop-request.bound front =
    subst (λ (rs : List Request). IsTelling no_error c.args.finished requests old (as_lines rs) fs c.loop-request.lines c.loop-request.bound front) split c.loop-request.invariant.1 in (
      front ++ r ∷ [],
      subst (λ (left : List RequestEnd). IsTelling no_error c.args.finished requests old (as_lines more) left c.push.new.self c.tell_request.new.bound (front ++ r ∷ [])) (sym c.take_of-finished.ensures.left)
          (subst (λ (ls : List ReportLine). IsTelling no_error c.args.finished requests old (as_lines more) (left_by no_error fs (RequestLine r)) ls c.tell_request.new.bound (front ++ r ∷ []))
          (ap (λ (l : ReportLine). c.loop-request.lines ++ l ∷ []) (sym line) ∙ sym c.in_ok-push.ensures.ok)
          (telling_next no_error c.args.finished requests old (RequestLine r) (as_lines more) fs c.loop-request.lines c.loop-request.bound c.tell_request.new.bound front h
          (λ name. c.in_ok-line.ensures.bound name
          ∙ ap (λ (f : Option RequestEnd). block_of (bound_after (ended_by None f r) (names_of c.loop-request.bound)) name) c.take_of-finished.ensures.taken))),
    )

pub returns : goal.returns
returns c =
    let requests : List Request = map (λ (r : Bor Request). r.now) c.args.unfinished.now in
    let old : List (List ℕ × Tree) = c.args.bound.now in
    let fs : List RequestEnd = reverse c.loop-request.left.items in
    let front : List Request = c.loop-request.invariant.0 in
    let none : drop c.loop-request.request-index requests ≡ [] = drop_last (λ (q : Bor Request). q.now) c.args.unfinished.now c.loop-request.request-index (omega arith) in
    let h : IsTelling no_error c.args.finished requests old [] fs c.loop-request.lines c.loop-request.bound front =
    subst (λ (rs : List Request). IsTelling no_error c.args.finished requests old (as_lines rs) fs c.loop-request.lines c.loop-request.bound front) none c.loop-request.invariant.1 in
    let whole = telling_end no_error c.args.finished requests old fs c.loop-request.lines c.loop-request.bound front h in
    record { lines = whole.lines_are; bound = whole.bound_is }
