use Rattle.std.proofs.Common.{◌∙◌, ◌&&◌, ◌∷◌, List, not, sym, ap, subst}
use Rattle.std.specs.List.{AllByRecursion}
use Rattle.zio_groups.specs.declared.waiting.Answered.{Answered}
use Rattle.zio_scrub.specs.Reads.{AreHearable, IsTruthful, is_answered, is_out, mark_at}
use Rattle.zio_scrub.proofs.ReadSteps.{hearable_next, marks_next, none_more}
use Rattle.zio_scrub.proofs.reads.hear_all.Goals as goal

pub loop-answer-init : goal.loop-answer-init
loop-answer-init c =
    let e = c.into_iter-answer-iterator.ensures.into_iter_gives ∙ c.into_rest-answer-items.ensures in
    record {
      heard = c.requires.heard;
      hearable = subst (λ (xs : List Answered). AreHearable c.args.layout.now (mark_at c.args.heard.now) xs) (sym e) c.requires.hearable;
      marks = λ t. ap (λ (xs : List Answered). is_out (mark_at c.args.heard.now t) && not (is_answered t xs)) e;
      told = λ s images truth told. (told, subst (λ (xs : List Answered). AllByRecursion (IsTruthful s images c.args.layout.now) xs) (sym e) truth);
    }

pub hear-requires-clause-hearable : goal.hear-requires-clause-hearable
hear-requires-clause-hearable c =
    (subst (λ (xs : List Answered). AreHearable c.args.layout.now (mark_at c.loop-answer.heard) xs) c.in-Some.ensures.steps c.loop-answer.invariant.hearable).0

pub loop-answer-preserved : goal.loop-answer-preserved
loop-answer-preserved c =
    let a = c.in-Some.answer in
    let rest = c.next.new.self in
    let old = mark_at c.loop-answer.heard in
    let all : AreHearable c.args.layout.now old (a ∷ rest) =
    subst (λ (xs : List Answered). AreHearable c.args.layout.now old xs) c.in-Some.ensures.steps c.loop-answer.invariant.hearable in
    record {
      heard = c.hear.ensures.heard;
      hearable = hearable_next c.args.layout.now old (mark_at c.hear.new.self) a rest c.hear.ensures.marks all.1 all.2;
      marks = λ t.
          marks_next (is_out (old t)) (is_out (mark_at c.hear.new.self t)) a rest t (c.hear.ensures.marks t)
          ∙ ap (λ (xs : List Answered). is_out (old t) && not (is_answered t xs)) (sym c.in-Some.ensures.steps) ∙ c.loop-answer.invariant.marks t;
      told = λ s images truth told.
          let so = c.loop-answer.invariant.told s images truth told in
          let left : AllByRecursion (IsTruthful s images c.args.layout.now) (a ∷ rest) =
          subst (λ (xs : List Answered). AllByRecursion (IsTruthful s images c.args.layout.now) xs) c.in-Some.ensures.steps so.1 in
          (c.hear.ensures.told s images left.0 so.0, left.1);
    }

pub returns-clause-marks : goal.returns-clause-marks
returns-clause-marks c = λ t.
    sym (none_more (is_out (mark_at c.loop-answer.heard t)))
    ∙ ap (λ (xs : List Answered). is_out (mark_at c.loop-answer.heard t) && not (is_answered t xs)) (sym c.in-None.ensures.steps.0)
    ∙ c.loop-answer.invariant.marks t

pub returns-clause-told : goal.returns-clause-told
returns-clause-told c = λ s images truth told. (c.loop-answer.invariant.told s images truth told).0
