use Rattle.std.proofs.Common.{◌≡◌, ℕ, List, Some, bytes_eq, cond, subst}
use Rattle.zio_gang.specs.declared.tree.Tree.{Tree}
use Rattle.zio_course.proofs.NameLemmas.{named_with}
use Rattle.zio_course.specs.Names.{named_in}
use Rattle.zio_course.proofs.bound.Bound.bind.Goals as goal

pub returns-clause-ok : goal.returns-clause-ok
returns-clause-ok c other =
    let new : List (List ℕ × Tree) = c.insert.new.self.entries in
    subst (λ (es : List (List ℕ × Tree)). named_in new other ≡ cond (bytes_eq c.args.name other) (Some c.args.tree) (named_in es other)) c.self.view_is
    (named_with {X = Tree} c.args.name other (Some c.args.tree) c.self.inside.trees.entries new (c.in_ok-insert.ensures.updates.0 other))
