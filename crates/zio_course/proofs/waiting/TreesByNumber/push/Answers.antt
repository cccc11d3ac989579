use Rattle.std.proofs.Common.{◌≡◌, ℕ, List, [], ◌∷◌, ◌++◌, eqb, cond, ap, ◌∙◌}
use Rattle.zio_course.proofs.NameLemmas.{pushed_with}
use Rattle.zio_course.specs.Names.{listed_in}
use Rattle.zio_course.proofs.waiting.TreesByNumber.push.Goals as goal

pub returns : goal.returns
returns g c other =
    let old : List (ℕ × List g.row.T.Denot) = c.args.self.now in
    let mid : List (ℕ × List g.row.T.Denot) = c.self.inside.trees.entries in
    let new : List (ℕ × List g.row.T.Denot) = c.insert.new.self.entries in
    let left : listed_in mid other ≡ cond (eqb c.args.number other) [] (listed_in old other) =
    ap (λ (es : List (ℕ × List g.row.T.Denot)). listed_in es other) c.self.view_is ∙ c.take-trees.ensures.left other in
    pushed_with {X = g.row.T.Denot} c.args.number other c.push.new.self old mid new (c.in_ok-insert.ensures.updates.0 other) left
    ∙ ap (λ (xs : List g.row.T.Denot). cond (eqb c.args.number other) xs (listed_in old other))
    (c.in_ok-push.ensures.ok ∙ ap (λ (xs : List g.row.T.Denot). xs ++ c.args.tree ∷ []) c.take-trees.ensures.taken)
