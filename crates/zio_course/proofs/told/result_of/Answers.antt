use Rattle.std.proofs.Common.{ℕ, List, Some, None, refl, ap, ◌∙◌}
use Rattle.zio_gang.specs.declared.tree.Tree.{Tree}
use Rattle.zio_course.specs.Names.{named_in}
use Rattle.zio_course.proofs.PlantLemmas.{named_of}
use Rattle.zio_course.proofs.ToldLemmas.{bound_out, bound_put, failed_bound, finish_bound}
use Rattle.zio_course.proofs.told.result_of.Goals as goal
use Rattle.zio_course.proofs.told.result_of.Goals.{in-Some-tree-2+in_ok-bind-in-Claim, in_default-tree-2}

pub returns-in-Some-clause-bound : goal.returns-in-Some-clause-bound
returns-in-Some-clause-bound c r same name = failed_bound r c.args.finished c.args.bound.now name c.in-Some.error c.in-Some.is

pub returns-in_default-tree-clause-bound : goal.returns-in_default-tree-clause-bound
returns-in_default-tree-clause-bound c r same name =
    finish_bound r c.args.finished c.args.bound.now c.args.bound.now name _ None c.in_default.is (same ∙ c.in-Write.is) c.in_default-tree.is (named_of name c.args.bound.now)

pub returns-in-Null-clause-bound : goal.returns-in-Null-clause-bound
returns-in-Null-clause-bound c r same name =
    finish_bound r c.args.finished c.args.bound.now c.args.bound.now name _ c.args.finished.tree c.in_default.is (same ∙ c.in-Null.is) refl (named_of name c.args.bound.now)

pub returns-in-Read-clause-bound : goal.returns-in-Read-clause-bound
returns-in-Read-clause-bound c r same name =
    finish_bound r c.args.finished c.args.bound.now c.args.bound.now name _ c.args.finished.tree c.in_default.is (same ∙ c.in-Read.is) refl (named_of name c.args.bound.now)

pub returns-in_ok-bind-in-Write-clause-bound : goal.returns-in_ok-bind-in-Write-clause-bound
returns-in_ok-bind-in-Write-clause-bound c r same name =
    finish_bound r c.args.finished c.args.bound.now c.bind.new.self name _ (Some c.in-Some-tree.tree) c.in_default.is (same ∙ c.in-Write.is) c.in-Some-tree.is
    (bound_put _ name c.in-Some-tree.tree c.args.bound.now c.bind.new.self (c.in_ok-bind-in-Write.ensures.ok name))

pub returns-in-Free-clause-bound : goal.returns-in-Free-clause-bound
returns-in-Free-clause-bound c r same name =
    finish_bound r c.args.finished c.args.bound.now c.unbind.new.self name _ c.args.finished.tree c.in_default.is (same ∙ c.in-Free.is) refl
    (bound_out _ name c.args.bound.now c.unbind.new.self (c.unbind.ensures name))

pub returns-after-tree-6-clause-bound : goal.returns-after-tree-6-clause-bound
returns-after-tree-6-clause-bound c r same name =
    elim c.match-tree-6.branch [
      | in-Some-tree-2+in_ok-bind-in-Claim w ↦
          ap (λ (es : List (List ℕ × Tree)). named_in es name) w.bound-is
          ∙ finish_bound r c.args.finished c.args.bound.now w.bind-in-Some-tree-2.new.self name _ (Some w.in-Some-tree-2.tree) c.in_default.is (same ∙ c.in-Claim.is) w.in-Some-tree-2.is
          (bound_put _ name w.in-Some-tree-2.tree c.args.bound.now w.bind-in-Some-tree-2.new.self (w.in_ok-bind-in-Claim.ensures.ok name))
      | in_default-tree-2 w ↦
          ap (λ (es : List (List ℕ × Tree)). named_in es name) w.bound-is
          ∙ finish_bound r c.args.finished c.args.bound.now c.args.bound.now name _ None c.in_default.is (same ∙ c.in-Claim.is) w.in_default-tree-2.is (named_of name c.args.bound.now)
    ]
