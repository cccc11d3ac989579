use Rattle.std.proofs.Common.{◌≡◌, ℕ, List, [], ◌∷◌, ◌++◌, reverse, Option, refl, ap, sym, ◌∙◌}
use Rattle.std.proofs.lemmas.List.{append-nil}
use Rattle.zio_types.specs.declared.error.Errno.{Errno}
use Rattle.zio_script.specs.declared.script.Item.{Item}
use Rattle.zio_script.specs.declared.script.Request.{Request}
use Rattle.zio_script.specs.Requests.{requests_of}
use Rattle.zio_course.specs.Admissions.{error_in}
use Rattle.zio_course.specs.Answered.{answered_in}
use Rattle.zio_course.proofs.AnsweredLemmas.{answered_next, requests_split}
use Rattle.zio_course.proofs.answered.answered_ends.Goals as goal

pub loop-item-init : goal.loop-item-init
loop-item-init c = ([], record { all = append-nil (requests_of c.args.batch.now); done_are = c.new-done.ensures })

pub loop-item-preserved : goal.loop-item-preserved
loop-item-preserved c =
    let error : ℕ → Option Errno = error_in c.args.admission.now.slots.entries c.args.admission.now.rules.items in
    let item : Item = c.in-Some.item.now in
    let front : List Item = c.in-Some.front.now in
    let past : List Request = c.loop-item.invariant.0 in
    let i = c.loop-item.invariant.1 in (
      requests_of (item ∷ []) ++ past,
      record {
        all = requests_split front item past (requests_of c.args.batch.now) (ap (λ (rest : List Item). requests_of rest ++ past) (sym c.in-Some.ensures.some) ∙ i.all);
        done_are = c.in_ok-answer_line.ensures ∙ answered_next error c.args.round item past c.loop-item.done i.done_are;
      },
    )

pub returns : goal.returns
returns c =
    let error : ℕ → Option Errno = error_in c.args.admission.now.slots.entries c.args.admission.now.rules.items in
    let past : List Request = c.loop-item.invariant.0 in
    let i = c.loop-item.invariant.1 in
    let whole : past ≡ requests_of c.args.batch.now =
    ap (λ (rest : List Item). requests_of rest ++ past) (sym (c.in_default.ensures.none refl)) ∙ i.all in
    i.done_are ∙ ap (λ (rs : List Request). reverse (answered_in error c.args.round rs)) whole
