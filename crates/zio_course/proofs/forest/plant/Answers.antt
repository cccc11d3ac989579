use Rattle.std.proofs.Common.{ℕ, List, ◌∷◌, map, Option, ap, sym, subst, ◌∙◌}
use Rattle.zio_script.specs.declared.script.Request.{Request}
use Rattle.zio_gang.specs.declared.tree.Tree.{Tree}
use Rattle.zio_course.specs.Forests.{IsForest, names_of}
use Rattle.zio_course.specs.Runners.{IsNewTree, fresh, tree_over}
use Rattle.zio_course.proofs.PlantLemmas.{new_tree, planted_child, planted_root, tree_is}
use Rattle.zio_course.proofs.forest.plant.Goals as goal

pub tree-requires-clause-whole : goal.tree-requires-clause-whole
tree-requires-clause-whole g c =
    let seen = g.R.Runner.pending in
    let block : Option Tree = c.in_ok-block.block in
    subst (λ (ts : List g.row.R-Tree.Denot). IsNewTree c.args.request.now c.args.birth block (map seen ts)) (sym c.reversed-children.ensures)
    (new_tree seen c.args.bound.now c.args.birth c.args.request.now c.requires.ready.0 c.args.forest.now.waiting c.args.forest.now.roots c.take.result block
    c.requires.ready.1 c.requires.ready.2 c.take.ensures.taken c.in_ok-block.ensures)

pub returns-in_default-under-clause-planted : goal.returns-in_default-under-clause-planted
returns-in_default-under-clause-planted g c done ready forest =
    let seen = g.R.Runner.pending in
    let r : Request = c.args.request.now in
    let birth : ℕ = c.args.birth in
    let entries : List (List ℕ × Tree) = c.args.bound.now in
    let block : Option Tree = c.in_ok-block.block in
    let taken : List g.row.R-Tree.Denot = c.take.result in
    let tree = c.in-Ok.tree in
    let roots : List g.row.R-Tree.Denot = c.args.forest.now.roots in
    let made = c.in-Ok.ensures.made ∙ ap (λ (ts : List g.row.R-Tree.Denot). tree_over (map seen ts) (fresh r birth block)) c.reversed-children.ensures in
    let is = tree_is seen entries birth r done c.args.forest.now.waiting roots taken block tree ready forest c.take.ensures.taken c.in_ok-block.ensures made in
    subst (λ (ts : List g.row.R-Tree.Denot). IsForest seen (names_of entries) birth (r ∷ done) c.take.new.self ts) (sym c.in_ok-push.ensures.ok)
    (planted_root seen entries birth r done c.args.forest.now.waiting c.take.new.self roots tree c.in_default-under.is forest c.take.ensures.left is)

pub returns-clause-planted : goal.returns-clause-planted
returns-clause-planted g c done ready forest =
    let seen = g.R.Runner.pending in
    let r : Request = c.args.request.now in
    let birth : ℕ = c.args.birth in
    let entries : List (List ℕ × Tree) = c.args.bound.now in
    let block : Option Tree = c.in_ok-block.block in
    let taken : List g.row.R-Tree.Denot = c.take.result in
    let tree = c.in-Ok.tree in
    let roots : List g.row.R-Tree.Denot = c.args.forest.now.roots in
    let made = c.in-Ok.ensures.made ∙ ap (λ (ts : List g.row.R-Tree.Denot). tree_over (map seen ts) (fresh r birth block)) c.reversed-children.ensures in
    let is = tree_is seen entries birth r done c.args.forest.now.waiting roots taken block tree ready forest c.take.ensures.taken c.in_ok-block.ensures made in
    planted_child seen entries birth r done c.in-Some.parent c.args.forest.now.waiting c.take.new.self c.push-2.new.self roots tree c.in-Some.is forest
    c.take.ensures.left c.in_ok-push-2.ensures is
