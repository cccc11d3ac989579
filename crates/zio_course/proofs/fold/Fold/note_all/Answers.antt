use Rattle.std.proofs.Common.{◌≡◌, ℕ, ◌+◌, List, ◌∷◌, ◌++◌, ◌||◌, Bool, drop, map, Bor, sym, ap, ◌∙◌, append_assoc, arith}
use Rattle.zio_script.specs.declared.script.Request.{Request}
use Rattle.zio_report.specs.declared.report.ReportLine.{ReportLine}
use Rattle.zio_course.specs.declared.fold.Tally.{Tally}
use Rattle.zio_course.specs.Names.{is_name_in}
use Rattle.zio_course.specs.Folds.{counted_in, is_named_by, waiting_by, waiting_of}
use Rattle.zio_course.proofs.FoldLemmas.{named_both, or_three, own_first, waits_next}
use Rattle.zio_course.proofs.SuspendedLemmas.{drop_first}
use Rattle.zio_course.proofs.fold.Fold.note_all.Goals as goal

pub loop-i-preserved : goal.loop-i-preserved
loop-i-preserved g c =
    let rs : List Request = map (λ (q : Bor Request). q.now) c.args.requests.now in
    let ls : List ReportLine = c.args.lines.now in
    let i : ℕ = c.loop-i.i in
    let r : Request = c.index-requests-i.result.now in
    let l : ReportLine = c.index-lines-i.result in
    let old = c.loop-i.invariant in
    let noted = c.in_ok-note.ensures in
    let first : drop i rs ≡ r ∷ drop (i + 1) rs = drop_first (λ (q : Bor Request). q.now) c.args.requests.now i c.index-requests-i.result (omega arith) c.index-requests-i.is in
    let this : drop i ls ≡ l ∷ drop (i + 1) ls = own_first ls i l (omega arith) c.index-lines-i.is in
    let now : List Request = waiting_by l.result r in
    let rest : List Request = waiting_of (drop (i + 1) rs) (drop (i + 1) ls) in
    let waits : waiting_of (drop i rs) (drop i ls) ≡ now ++ rest = waits_next rs ls i r l first this in
    let before : List Request = map (λ (q : Bor Request). q.now) c.loop-i.self.unfinished.items in
    record {
      unfinished = ap (λ (xs : List Request). xs ++ rest) noted.unfinished
          ∙ (append_assoc before now rest ∙ (ap (λ (xs : List Request). before ++ xs) (sym waits) ∙ old.unfinished));
      awaited = λ name.
          ap (λ (b : Bool). b || is_named_by rest name) (noted.awaited name)
          ∙ (or_three (is_name_in c.loop-i.self.awaited name) (is_named_by now name) (is_named_by rest name)
          ∙ (ap (λ (b : Bool). is_name_in c.loop-i.self.awaited name || b) (sym (named_both now rest name) ∙ ap (λ (xs : List Request). is_named_by xs name) (sym waits))
          ∙ old.awaited name));
      tally = ap (λ (t : Tally). counted_in (drop (i + 1) ls) t) noted.tally
          ∙ (ap (λ (xs : List ReportLine). counted_in xs c.loop-i.self.tally) (sym this) ∙ old.tally);
      few = let a = noted.few in let b = old.few in omega arith;
      sums = noted.sums;
      bound = noted.bound ∙ old.bound;
      suspended = noted.suspended ∙ old.suspended;
      point = noted.point ∙ old.point;
      panicked = noted.panicked ∙ old.panicked;
    }
