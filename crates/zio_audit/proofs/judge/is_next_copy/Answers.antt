use Rattle.std.proofs.Common.{false, refl, sym, ◌∙◌}
use Rattle.std.proofs.lemmas.Bool.{both_ways, not-true, not_from_false, false_from_ne_true}
use Rattle.zio_audit.proofs.JudgeLemmas.{HasNext, next_from, next_has}
use Rattle.zio_audit.proofs.judge.is_next_copy.Goals.{then-not-fits-via-then-not-fits, then-not-fits-via-else-not-fits+then-not-is_open}
use Rattle.zio_audit.proofs.judge.is_next_copy.Goals as goal

pub returns-then-not-fits-clause-copy : goal.returns-then-not-fits-clause-copy
returns-then-not-fits-clause-copy c = λ before same. (
  (λ yes. absurd (both_ways false refl yes)),
  (λ next.
      let has : HasNext c.args.space.now c.args.tops.now c.args.earlier.now c.args.size c.args.place.now =
      next_has c.args.space.now c.args.tops.now before c.args.earlier.now c.args.size c.args.place.now c.requires.sizes same next in
      elim c.then-not-fits.branch [
        | then-not-fits-via-then-not-fits w ↦ absurd (both_ways c.fits.result w.if-not-fits.true (c.fits.ensures ∙ has.fits))
        | then-not-fits-via-else-not-fits+then-not-is_open w ↦ absurd (both_ways w.is_open.result w.if-not-is_open.true (w.is_open.ensures ∙ has.there))
      ]),
)

pub returns-then-not-uses_top-clause-copy : goal.returns-then-not-uses_top-clause-copy
returns-then-not-uses_top-clause-copy c = λ before same. (
  (λ yes. next_from c.args.space.now c.args.tops.now before c.args.earlier.now c.args.size c.args.place.now c.requires.sizes same
      (sym c.fits.ensures ∙ c.if-not-fits.false) (sym c.is_open.ensures ∙ c.if-not-is_open.false)
      (λ uses. absurd (both_ways c.uses_top.result c.if-not-uses_top.true (c.uses_top.ensures ∙ uses)))),
  (λ next. refl),
)

pub returns-clause-copy : goal.returns-clause-copy
returns-clause-copy c = λ before same. (
  (λ yes. next_from c.args.space.now c.args.tops.now before c.args.earlier.now c.args.size c.args.place.now c.requires.sizes same
      (sym c.fits.ensures ∙ c.if-not-fits.false) (sym c.is_open.ensures ∙ c.if-not-is_open.false)
      (λ uses other. both_ways c.has_other_run.result (not-true c.has_other_run.result yes) (c.has_other_run.ensures.1 other))),
  (λ next.
      let has : HasNext c.args.space.now c.args.tops.now c.args.earlier.now c.args.size c.args.place.now =
      next_has c.args.space.now c.args.tops.now before c.args.earlier.now c.args.size c.args.place.now c.requires.sizes same next in
      not_from_false c.has_other_run.result (false_from_ne_true c.has_other_run.result
      (λ other. has.spread (sym c.uses_top.ensures ∙ c.if-not-uses_top.false) (c.has_other_run.ensures.0 other)))),
)
