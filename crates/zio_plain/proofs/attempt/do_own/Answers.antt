use Rattle.std.proofs.Common.{List, length, reverse, true, ap, sym, subst, ◌≡◌, ◌∙◌}
use Rattle.std.specs.Prelude.{IfOk}
use Rattle.std.specs.List.{AllByRecursion}
use Rattle.zio_script.specs.Requests.{kind_of}
use Rattle.zio_script.specs.Whys.{is_claim}
use Rattle.zio_cksum.specs.Images.{Images}
use Rattle.zio_gang.specs.Attempts.{Terms, own_work}
use Rattle.zio_plain.specs.declared.waiting.Kept.{Kept}
use Rattle.zio_plain.specs.declared.works.OwnDone.{OwnDone}
use Rattle.zio_plain.specs.Judgments.{children_handed}
use Rattle.zio_plain.specs.OwnEnds.{TellsOwn}
use Rattle.zio_plain.specs.Waits.{HasPointer, merged, pending_of, pointers_in}
use Rattle.zio_plain.proofs.FateLemmas.{children_count, children_have}
use Rattle.zio_plain.proofs.attempt.do_own.Goals as goal

pub own_work-requires-clause-count : goal.own_work-requires-clause-count
own_work-requires-clause-count g c =
    let w = c.args.waiting.now in
    let kids = c.args.children.now in
    ap length (c.as_slice-3.ensures ∙ c.in_ok-all.ensures ∙ ap (λ (ks : List Kept). merged (reverse ks) c.as_slice-2.result.now) (c.as_slice.ensures ∙ c.in_ok-new.ensures)
    ∙ ap (merged (reverse (children_handed kids))) c.as_slice-2.ensures)
    ∙ children_count kids w.kept w.unfinished c.requires.count

pub own_work-requires-clause-pointers : goal.own_work-requires-clause-pointers
own_work-requires-clause-pointers g c =
    let w = c.args.waiting.now in
    let kids = c.args.children.now in
    subst (AllByRecursion HasPointer)
    (sym (c.as_slice-3.ensures ∙ c.in_ok-all.ensures ∙ ap (λ (ks : List Kept). merged (reverse ks) c.as_slice-2.result.now) (c.as_slice.ensures ∙ c.in_ok-new.ensures)
    ∙ ap (merged (reverse (children_handed kids))) c.as_slice-2.ensures))
    (children_have kids w.kept c.requires.pointers c.requires.sound.pointers)

pub returns-clause-told : goal.returns-clause-told
returns-clause-told g c =
    let w = c.args.waiting.now in
    let kids = c.args.children.now in
    subst (λ (ks : List Kept). IfOk c.own_work.result (λ (done : OwnDone). (t : Terms) → g.W.OwnWork.runs c.args.works.now t
    → (is_claim (kind_of w.request.work) ≡ true → g.W.OwnWork.fresh c.args.works.now t) → (images : Images) → g.W.OwnWork.tells c.args.works.now images
    → TellsOwn g.W.OwnWork.tells g.W.OwnWork.given (λ journal. own_work journal t c.args.attempt (pending_of w) w.request.work (pointers_in ks) images) done.end c.args.works.now c.own_work.new.self))
    (c.as_slice-3.ensures ∙ c.in_ok-all.ensures ∙ ap (λ (ks : List Kept). merged (reverse ks) c.as_slice-2.result.now) (c.as_slice.ensures ∙ c.in_ok-new.ensures)
    ∙ ap (merged (reverse (children_handed kids))) c.as_slice-2.ensures)
    c.own_work.ensures.told
