use Rattle.std.proofs.Common.{◌≡◌, ◌++◌, [], Err, ap, sym, subst, ◌∙◌}
use Rattle.std.proofs.lemmas.Result.{IfOk-weaker}
use Rattle.zio_cksum.specs.Blocks.{Read, blame}
use Rattle.zio_gang.specs.Trees.{Walk, bodies_read, read_bodies, read_tree, walk_kept}
use Rattle.zio_disks.specs.Disks.{Tell}
use Rattle.zio_disks.proofs.BodyLemmas.{headers_bad, headers_good}
use Rattle.zio_disks.proofs.DiskLemmas.{handles_then}
use Rattle.zio_disks.proofs.bodies.read_tree.Goals as goal

pub returns-then-not-is_empty-clause-told : goal.returns-then-not-is_empty-clause-told
unfolding read_tree
returns-then-not-is_empty-clause-told g c images tell =
    let w : Walk = walk_kept c.args.setting.now c.args.tree.now images in
    let told = c.in_ok-walk_tree.ensures.told images tell in
    let all : c.walk_tree.new.errors ≡ w.errors = told.0 ∙ ap (λ es. es ++ w.errors) c.new-errors.ensures in
    let some : c.walk_tree.new.errors ≡ [] → ⊥ = λ e. (let t = c.is_empty.ensures.1 e in let f = c.if-not-is_empty.true in cc) in
    subst (λ (r : Read). (Err c.blame.result ≡ r.found) × Tell g.D.Disk.image c.walk_tree.new.disks r.images)
    (headers_bad c.args.setting.now w c.walk_tree.new.errors some (sym all))
    (ap Err (c.blame.ensures ∙ ap blame c.as_slice.ensures), told.2)

pub returns-clause-told : goal.returns-clause-told
unfolding read_tree
returns-clause-told g c =
    IfOk-weaker c.join_bodies.result _ _
    (λ found h images tell.
    (let w : Walk = walk_kept c.args.setting.now c.args.tree.now images in
    let told = c.in_ok-walk_tree.ensures.told images tell in
    let all : c.walk_tree.new.errors ≡ w.errors = told.0 ∙ ap (λ es. es ++ w.errors) c.new-errors.ensures in
    let bodies : c.as_slice-2.result.now ≡ w.bodies = c.as_slice-2.ensures ∙ told.1 ∙ ap (λ bs. bs ++ w.bodies) c.new-bodies.ensures in
    let none : c.walk_tree.new.errors ≡ [] = c.is_empty.ensures.0 c.if-not-is_empty.false in
    subst (λ (r : Read). (found ≡ r.found) × Tell g.D.Disk.image c.join_bodies.new.disks r.images)
    (headers_good c.args.setting.now w c.walk_tree.new.errors none (sym all))
    (subst (λ bs. (found ≡ (bodies_read (read_bodies c.args.setting.now bs w.images)).found) × Tell g.D.Disk.image c.join_bodies.new.disks (bodies_read (read_bodies c.args.setting.now bs w.images)).images)
    bodies (h w.images told.2))))
    c.join_bodies.ensures.told

pub returns-clause-handled : goal.returns-clause-handled
returns-clause-handled g c = handles_then c.in_ok-walk_tree.ensures.handled c.join_bodies.ensures.handled
