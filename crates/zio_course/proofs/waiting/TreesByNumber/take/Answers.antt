use Rattle.std.proofs.Common.{◌≡◌, ℕ, List, [], Some, None, eqb, cond, ap, subst, ◌∙◌}
use Rattle.zio_course.proofs.NameLemmas.{listed_with, taken_is}
use Rattle.zio_course.specs.Names.{listed_in}
use Rattle.zio_course.proofs.waiting.TreesByNumber.take.Goals as goal
use Rattle.zio_course.proofs.waiting.TreesByNumber.take.Goals.{in-Some, in-None}

pub returns-clause-taken : goal.returns-clause-taken
returns-clause-taken g c =
    let entries : List (ℕ × List g.row.T.Denot) = c.self.inside.trees.entries in
    let seen = ap (λ (es : List (ℕ × List g.row.T.Denot)). listed_in es c.args.number) c.self.view_is in
    elim c.match-swap_remove.branch [
      | in-Some w ↦ w.result-is ∙ (taken_is {X = g.row.T.Denot} c.args.number entries c.swap_remove.result (Some w.in-Some.trees) c.swap_remove.ensures.value w.in-Some.is ∙ seen)
      | in-None w ↦ w.result-is ∙ (w.new.ensures ∙ (taken_is {X = g.row.T.Denot} c.args.number entries c.swap_remove.result None c.swap_remove.ensures.value w.in-None.is ∙ seen))
    ]

pub returns-clause-left : goal.returns-clause-left
returns-clause-left g c other =
    let new : List (ℕ × List g.row.T.Denot) = c.swap_remove.new.self.entries in
    subst (λ (es : List (ℕ × List g.row.T.Denot)). listed_in new other ≡ cond (eqb c.args.number other) [] (listed_in es other)) c.self.view_is
    (listed_with {X = g.row.T.Denot} c.args.number other None c.self.inside.trees.entries new (c.swap_remove.ensures.updates.0 other))
