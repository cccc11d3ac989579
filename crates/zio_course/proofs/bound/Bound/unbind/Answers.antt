use Rattle.std.proofs.Common.{◌≡◌, ℕ, List, None, bytes_eq, cond, subst}
use Rattle.zio_gang.specs.declared.tree.Tree.{Tree}
use Rattle.zio_course.proofs.NameLemmas.{named_with}
use Rattle.zio_course.specs.Names.{named_in}
use Rattle.zio_course.proofs.bound.Bound.unbind.Goals as goal

pub returns : goal.returns
returns c other =
    let new : List (List ℕ × Tree) = c.swap_remove.new.self.entries in
    subst (λ (es : List (List ℕ × Tree)). named_in new other ≡ cond (bytes_eq c.args.name.now other) None (named_in es other)) c.self.view_is
    (named_with {X = Tree} c.args.name.now other None c.self.inside.trees.entries new (c.swap_remove.ensures.updates.0 other))
