use Rattle.std.proofs.Common.{◌≡◌, ℕ, List, [], ◌++◌, map, refl, ap, sym, subst, ◌∙◌}
use Rattle.std.proofs.lemmas.List.{append-nil}
use Rattle.zio_script.specs.declared.script.Item.{Item}
use Rattle.zio_script.specs.declared.script.Request.{Request}
use Rattle.zio_gang.specs.declared.tree.Tree.{Tree}
use Rattle.zio_gang.specs.Rounds.{pending_trees, trees_of}
use Rattle.zio_course.specs.declared.admission.Rules.{Rules}
use Rattle.zio_course.specs.Forests.{AreReady, line_runs, names_of, running}
use Rattle.zio_course.proofs.PlantLemmas.{forest_none, forest_whole, ready_back, ready_rising, running_split, stays_itself, stays_then}
use Rattle.zio_course.proofs.forest.trees_to_run.Goals as goal

pub loop-item-init : goal.loop-item-init
loop-item-init g c = (
  [],
  record {
    all = append-nil (running c.args.admission.now.slots.entries c.args.admission.now.rules.items c.args.batch.now);
    forest = forest_none g.R.Runner.pending (names_of c.args.bound.now) c.args.birth c.new.result c.new-2.result c.new.ensures c.new-2.ensures;
    stays = stays_itself (g.R.Runner.standing c.args.runner.now) (g.R.Runner.tells c.args.runner.now);
    can = λ h. h;
    same = g.met.R.Runner.same_itself c.args.runner.now;
  },
)

pub plant_line-requires-clause-ready : goal.plant_line-requires-clause-ready
plant_line-requires-clause-ready g c =
    let slots : List (ℕ × ℕ) = c.args.admission.now.slots.entries in
    let rules : List Rules = c.args.admission.now.rules.items in
    let entries : List (List ℕ × Tree) = c.args.bound.now in
    let item : Item = c.in-Some.item.now in
    let front : List Item = c.in-Some.front.now in
    let done : List Request = c.loop-item.invariant.0 in
    let i = c.loop-item.invariant.1 in
    let all : running slots rules front ++ (line_runs slots rules item ++ done) ≡ running slots rules c.args.batch.now =
    running_split slots rules front item done ∙ (ap (λ (rest : List Item). running slots rules rest ++ done) (sym c.in-Some.ensures.some) ∙ i.all) in (
      done,
      ready_back c.args.birth entries (running slots rules front) (line_runs slots rules item ++ done)
          (subst (AreReady c.args.birth entries) (sym all) c.requires.ready),
      i.forest,
    )

pub loop-item-preserved : goal.loop-item-preserved
loop-item-preserved g c =
    let slots : List (ℕ × ℕ) = c.args.admission.now.slots.entries in
    let rules : List Rules = c.args.admission.now.rules.items in
    let entries : List (List ℕ × Tree) = c.args.bound.now in
    let item : Item = c.in-Some.item.now in
    let front : List Item = c.in-Some.front.now in
    let done : List Request = c.loop-item.invariant.0 in
    let i = c.loop-item.invariant.1 in
    let all : running slots rules front ++ (line_runs slots rules item ++ done) ≡ running slots rules c.args.batch.now =
    running_split slots rules front item done ∙ (ap (λ (rest : List Item). running slots rules rest ++ done) (sym c.in-Some.ensures.some) ∙ i.all) in
    let ready : AreReady c.args.birth entries (line_runs slots rules item ++ done) =
    ready_back c.args.birth entries (running slots rules front) (line_runs slots rules item ++ done)
    (subst (AreReady c.args.birth entries) (sym all) c.requires.ready) in (
      line_runs slots rules item ++ done,
      record {
        all = all;
        forest = c.in_ok-plant_line.ensures.planted done ready i.forest;
        stays = stays_then (g.R.Runner.standing c.args.runner.now) (g.R.Runner.standing c.loop-item.runner) (g.R.Runner.standing c.plant_line.new.runner)
            (g.R.Runner.tells c.args.runner.now) (g.R.Runner.tells c.loop-item.runner) (g.R.Runner.tells c.plant_line.new.runner) i.stays c.in_ok-plant_line.ensures.stays;
        can = λ h. c.in_ok-plant_line.ensures.can (i.can h);
        same = g.met.R.Runner.same_then c.args.runner.now c.loop-item.runner c.plant_line.new.runner i.same c.in_ok-plant_line.ensures.same;
      },
    )

pub returns-clause-trees : goal.returns-clause-trees
returns-clause-trees g c =
    let slots : List (ℕ × ℕ) = c.args.admission.now.slots.entries in
    let rules : List Rules = c.args.admission.now.rules.items in
    let entries : List (List ℕ × Tree) = c.args.bound.now in
    let done : List Request = c.loop-item.invariant.0 in
    let i = c.loop-item.invariant.1 in
    let seen = g.R.Runner.pending in
    let roots : List g.row.R-Tree.Denot = c.loop-item.forest.roots in
    let whole : done ≡ running slots rules c.args.batch.now =
    ap (λ (rest : List Item). running slots rules rest ++ done) (sym (c.in_default.ensures.none refl)) ∙ i.all in
    ap (map seen) c.reversed.ensures
    ∙ (forest_whole seen (names_of entries) c.args.birth done c.loop-item.forest.waiting roots
    (ready_rising c.args.birth entries done (subst (AreReady c.args.birth entries) (sym whole) c.requires.ready)) i.forest
    ∙ ap (λ (rs : List Request). pending_trees (names_of entries) c.args.birth (trees_of rs)) whole)
