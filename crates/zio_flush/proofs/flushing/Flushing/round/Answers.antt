use Rattle.std.proofs.Common.{◌≡◌, List, map, true, refl, sym, ap, ◌∙◌, subst}
use Rattle.zio_gang.specs.Attempts.{Pending}
use Rattle.zio_cksum.specs.Images.{Images}
use Rattle.zio_disks.specs.Disks.{AreSameDisks, Tell}
use Rattle.zio_disks.proofs.DiskLemmas.{same_then}
use Rattle.zio_course.specs.Runners.{AnyRose, DiffersInRound, IsRoundEnd, StandsAfter, StoppedAfter, ended_seen}
use Rattle.zio_turns.specs.Wrote.{Wrote}
use Rattle.zio_turns.proofs.StopLemmas.{on_err}
use Rattle.zio_graph.specs.Crashes.{MayWrite, SparesAll}
use Rattle.zio_graph.specs.Ends.{told_of}
use Rattle.zio_graph.specs.Graphs.{SeenGraph, standing_of}
use Rattle.zio_graph.proofs.StableLemmas.{all_synced}
use Rattle.zio_flush.specs.Flushed.{seen_flushing}
use Rattle.zio_flush.proofs.FlushLemmas.{as_graph, blocks_survive, crash_leaves, flushed_stable, images_back, not_failed, rose_flushed, round_flushed, round_lost, stands_flushed, stopped_before, stopped_flushed}
use Rattle.zio_flush.proofs.flushing.Flushing.round.Goals as goal

-- its trees, as they stand between rounds
abbrev as_trees : List (List Pending) → List (List Pending)
as_trees trees = map (λ (tree : List Pending). tree) trees

pub returns-in-Ok-clause-round : goal.returns-in-Ok-clause-round
returns-in-Ok-clause-round g c =
    let m = g.D.Disk in
    let p : SeenGraph _ = c.args.self.now in
    let e : c.self.inside.graph ≡ p = as_graph c.self.inside.graph p c.self.inside.failed c.self.view_is c.requires.runs in
    round_flushed m.faults m.image c.args.job.failmode c.args.job.round c.args.job.point (as_trees c.args.job.trees) (ended_seen (λ (tree : List Pending). tree) told_of c.in_ok-end.end)
    c.self.inside.graph p c.round.new.self.disks c.flush.new.self.disks e c.flush.ensures.images c.in_ok-end.ensures.round

pub returns-in-Ok-clause-end : goal.returns-in-Ok-clause-end
returns-in-Ok-clause-end g c =
    let m = g.D.Disk in
    let p : SeenGraph _ = c.args.self.now in
    let e : c.self.inside.graph ≡ p = as_graph c.self.inside.graph p c.self.inside.failed c.self.view_is c.requires.runs in
    subst (λ (q : SeenGraph _). IsRoundEnd (standing_of m.faults q) c.args.job.round (as_trees c.args.job.trees) (ended_seen (λ (tree : List Pending). tree) told_of c.in_ok-end.end)) e c.in_ok-end.ensures.end

pub returns-in-Ok-clause-stands : goal.returns-in-Ok-clause-stands
returns-in-Ok-clause-stands g c =
    let m = g.D.Disk in
    let p : SeenGraph _ = c.args.self.now in
    let e : c.self.inside.graph ≡ p = as_graph c.self.inside.graph p c.self.inside.failed c.self.view_is c.requires.runs in
    subst (λ (q : SeenGraph _). StandsAfter (standing_of m.faults q)
    (standing_of m.faults (seen_flushing c.flush.new.self c.self.inside.failed)) c.args.job.round (as_trees c.args.job.trees) (ended_seen (λ (tree : List Pending). tree) told_of c.in_ok-end.end)) e
    (stands_flushed m.faults c.self.inside.graph c.round.new.self c.flush.new.self c.args.job.round (as_trees c.args.job.trees) (ended_seen (λ (tree : List Pending). tree) told_of c.in_ok-end.end)
    c.in_ok-end.ensures.stands c.flush.ensures.rest c.self.inside.failed (not_failed c.self.inside.graph p c.self.inside.failed c.self.view_is c.requires.runs)
    c.in-Ok.ensures.steady)

pub returns-in-Ok-clause-stable : goal.returns-in-Ok-clause-stable
returns-in-Ok-clause-stable g c =
    λ images told. c.in-Ok.ensures.stable images (images_back g.D.Disk.image c.round.new.self.disks c.flush.new.self.disks images c.flush.ensures.images told)

pub returns-in-Ok-clause-crash : goal.returns-in-Ok-clause-crash
returns-in-Ok-clause-crash g c =
    let m = g.D.Disk in
    let p : SeenGraph _ = c.args.self.now in
    let e : c.self.inside.graph ≡ p = as_graph c.self.inside.graph p c.self.inside.failed c.self.view_is c.requires.runs in
    crash_leaves m.image m.keeps m.moment m.left_since m.went g.met.D.Disk.went_itself g.met.D.Disk.went_means g.met.D.Disk.kept_image
    (standing_of m.faults p) (as_trees c.args.job.trees) p.disks c.round.new.self.disks c.flush.new.self.disks c.flush.ensures.synced
    (subst (λ (q : SeenGraph _). Wrote m.went (MayWrite (standing_of m.faults q) (as_trees c.args.job.trees)) q.disks c.round.new.self.disks) e c.round.ensures.wrote)

pub returns-in-Ok-clause-survive : goal.returns-in-Ok-clause-survive
returns-in-Ok-clause-survive g c =
    let m = g.D.Disk in
    let p : SeenGraph _ = c.args.self.now in
    let e : c.self.inside.graph ≡ p = as_graph c.self.inside.graph p c.self.inside.failed c.self.view_is c.requires.runs in
    blocks_survive m.image m.keeps m.moment m.left_since m.went g.met.D.Disk.went_itself g.met.D.Disk.went_means g.met.D.Disk.kept_image
    (standing_of m.faults p) (as_trees c.args.job.trees) p.disks c.round.new.self.disks c.flush.new.self.disks c.flush.ensures.synced
    (subst (λ (q : SeenGraph _). SparesAll m.image m.went (standing_of m.faults q) (as_trees c.args.job.trees) q.disks c.round.new.self.disks) e c.round.ensures.spares)

pub returns-in-Ok-clause-same : goal.returns-in-Ok-clause-same
returns-in-Ok-clause-same g c =
    let m = g.D.Disk in
    let p : SeenGraph _ = c.args.self.now in
    let e : c.self.inside.graph ≡ p = as_graph c.self.inside.graph p c.self.inside.failed c.self.view_is c.requires.runs in
    subst (λ (q : SeenGraph _). AreSameDisks m.bytes m.faults m.faults_at_fetch m.home m.image m.sound q.disks c.flush.new.self.disks) e
    (same_then m.bytes m.faults m.faults_at_fetch m.home m.image m.sound c.self.inside.graph.disks c.round.new.self.disks c.flush.new.self.disks
    c.round.ensures.same c.flush.ensures.same)

pub returns-in-Err-clause-crash : goal.returns-in-Err-clause-crash
returns-in-Err-clause-crash g c =
    let m = g.D.Disk in
    let p : SeenGraph _ = c.args.self.now in
    let e : c.self.inside.graph ≡ p = as_graph c.self.inside.graph p c.self.inside.failed c.self.view_is c.requires.runs in
    crash_leaves m.image m.keeps m.moment m.left_since m.went g.met.D.Disk.went_itself g.met.D.Disk.went_means g.met.D.Disk.kept_image
    (standing_of m.faults p) (as_trees c.args.job.trees) p.disks c.round.new.self.disks c.flush.new.self.disks c.flush.ensures.synced
    (subst (λ (q : SeenGraph _). Wrote m.went (MayWrite (standing_of m.faults q) (as_trees c.args.job.trees)) q.disks c.round.new.self.disks) e c.round.ensures.wrote)

pub returns-in-Err-clause-survive : goal.returns-in-Err-clause-survive
returns-in-Err-clause-survive g c =
    let m = g.D.Disk in
    let p : SeenGraph _ = c.args.self.now in
    let e : c.self.inside.graph ≡ p = as_graph c.self.inside.graph p c.self.inside.failed c.self.view_is c.requires.runs in
    blocks_survive m.image m.keeps m.moment m.left_since m.went g.met.D.Disk.went_itself g.met.D.Disk.went_means g.met.D.Disk.kept_image
    (standing_of m.faults p) (as_trees c.args.job.trees) p.disks c.round.new.self.disks c.flush.new.self.disks c.flush.ensures.synced
    (subst (λ (q : SeenGraph _). SparesAll m.image m.went (standing_of m.faults q) (as_trees c.args.job.trees) q.disks c.round.new.self.disks) e c.round.ensures.spares)

pub returns-in-Err-clause-same : goal.returns-in-Err-clause-same
returns-in-Err-clause-same g c =
    let m = g.D.Disk in
    let p : SeenGraph _ = c.args.self.now in
    let e : c.self.inside.graph ≡ p = as_graph c.self.inside.graph p c.self.inside.failed c.self.view_is c.requires.runs in
    subst (λ (q : SeenGraph _). AreSameDisks m.bytes m.faults m.faults_at_fetch m.home m.image m.sound q.disks c.flush.new.self.disks) e
    (same_then m.bytes m.faults m.faults_at_fetch m.home m.image m.sound c.self.inside.graph.disks c.round.new.self.disks c.flush.new.self.disks
    c.round.ensures.same c.flush.ensures.same)

pub returns-in_err-end-clause-crash : goal.returns-in_err-end-clause-crash
returns-in_err-end-clause-crash g c =
    let m = g.D.Disk in
    let p : SeenGraph _ = c.args.self.now in
    let e : c.self.inside.graph ≡ p = as_graph c.self.inside.graph p c.self.inside.failed c.self.view_is c.requires.runs in
    crash_leaves m.image m.keeps m.moment m.left_since m.went g.met.D.Disk.went_itself g.met.D.Disk.went_means g.met.D.Disk.kept_image
    (standing_of m.faults p) (as_trees c.args.job.trees) p.disks c.round.new.self.disks c.round.new.self.disks (all_synced m.went m.moment m.left_since m.image c.round.new.self.disks)
    (subst (λ (q : SeenGraph _). Wrote m.went (MayWrite (standing_of m.faults q) (as_trees c.args.job.trees)) q.disks c.round.new.self.disks) e c.round.ensures.wrote)

pub returns-in_err-end-clause-survive : goal.returns-in_err-end-clause-survive
returns-in_err-end-clause-survive g c =
    let m = g.D.Disk in
    let p : SeenGraph _ = c.args.self.now in
    let e : c.self.inside.graph ≡ p = as_graph c.self.inside.graph p c.self.inside.failed c.self.view_is c.requires.runs in
    blocks_survive m.image m.keeps m.moment m.left_since m.went g.met.D.Disk.went_itself g.met.D.Disk.went_means g.met.D.Disk.kept_image
    (standing_of m.faults p) (as_trees c.args.job.trees) p.disks c.round.new.self.disks c.round.new.self.disks (all_synced m.went m.moment m.left_since m.image c.round.new.self.disks)
    (subst (λ (q : SeenGraph _). SparesAll m.image m.went (standing_of m.faults q) (as_trees c.args.job.trees) q.disks c.round.new.self.disks) e c.round.ensures.spares)

pub returns-in_err-end-clause-same : goal.returns-in_err-end-clause-same
returns-in_err-end-clause-same g c =
    let m = g.D.Disk in
    let p : SeenGraph _ = c.args.self.now in
    let e : c.self.inside.graph ≡ p = as_graph c.self.inside.graph p c.self.inside.failed c.self.view_is c.requires.runs in
    subst (λ (q : SeenGraph _). AreSameDisks m.bytes m.faults m.faults_at_fetch m.home m.image m.sound q.disks c.round.new.self.disks) e
    c.round.ensures.same

pub returns-in_err-end-clause-stopped : goal.returns-in_err-end-clause-stopped
returns-in_err-end-clause-stopped g c =
    let m = g.D.Disk in
    let p : SeenGraph _ = c.args.self.now in
    let e : c.self.inside.graph ≡ p = as_graph c.self.inside.graph p c.self.inside.failed c.self.view_is c.requires.runs in
    on_err c.from_residual.result
    (subst (λ (q : SeenGraph _). StoppedAfter (standing_of m.faults q)
    (standing_of m.faults (seen_flushing c.round.new.self c.self.inside.failed)) c.args.job.round) e
    (stopped_before m.faults c.self.inside.graph c.round.new.self c.args.job.round c.self.inside.failed c.in_err-end.ensures.stopped))

pub returns-in_err-end-clause-images : goal.returns-in_err-end-clause-images
returns-in_err-end-clause-images g c =
    let m = g.D.Disk in
    let p : SeenGraph _ = c.args.self.now in
    let e : c.self.inside.graph ≡ p = as_graph c.self.inside.graph p c.self.inside.failed c.self.view_is c.requires.runs in
    on_err c.from_residual.result
    (subst (λ (q : SeenGraph _). (before : Images) → Tell m.image q.disks before → (after : Images) × Tell m.image c.round.new.self.disks after
    × DiffersInRound (standing_of m.faults q) (as_trees c.args.job.trees) before after) e c.in_err-end.ensures.images)

pub returns-in-Err-clause-stopped : goal.returns-in-Err-clause-stopped
returns-in-Err-clause-stopped g c =
    let m = g.D.Disk in
    let p : SeenGraph _ = c.args.self.now in
    let e : c.self.inside.graph ≡ p = as_graph c.self.inside.graph p c.self.inside.failed c.self.view_is c.requires.runs in
    subst (λ (q : SeenGraph _). StoppedAfter (standing_of m.faults q)
    (standing_of m.faults (seen_flushing c.flush.new.self true)) c.args.job.round) e
    (stopped_flushed m.faults c.self.inside.graph c.round.new.self c.flush.new.self c.args.job.round (as_trees c.args.job.trees) (ended_seen (λ (tree : List Pending). tree) told_of c.in_ok-end.end)
    c.in_ok-end.ensures.stands c.flush.ensures.rest)

pub returns-in-Err-clause-images : goal.returns-in-Err-clause-images
returns-in-Err-clause-images g c =
    let m = g.D.Disk in
    let p : SeenGraph _ = c.args.self.now in
    let e : c.self.inside.graph ≡ p = as_graph c.self.inside.graph p c.self.inside.failed c.self.view_is c.requires.runs in
    round_lost m.faults m.image c.args.job.failmode c.args.job.round c.args.job.point (as_trees c.args.job.trees) (ended_seen (λ (tree : List Pending). tree) told_of c.in_ok-end.end)
    c.self.inside.graph p c.round.new.self.disks c.flush.new.self.disks e c.flush.ensures.images c.in_ok-end.ensures.round

pub returns-in-Err-clause-device : goal.returns-in-Err-clause-device
returns-in-Err-clause-device g c =
    let m = g.D.Disk in
    let p : SeenGraph _ = c.args.self.now in
    let e : c.self.inside.graph ≡ p = as_graph c.self.inside.graph p c.self.inside.failed c.self.view_is c.requires.runs in
    λ is. subst (λ (q : SeenGraph _). AnyRose (map m.faults q.disks) (map m.faults c.flush.new.self.disks)) e
    (rose_flushed m.faults c.self.inside.graph c.round.new.self c.flush.new.self c.args.job.round (as_trees c.args.job.trees) (ended_seen (λ (tree : List Pending). tree) told_of c.in_ok-end.end)
    c.in_ok-end.ensures.stands c.flush.ensures.rest c.in-Err.ensures.failed)

pub invariant_of-self-in-Ok : goal.invariant_of-self-in-Ok
invariant_of-self-in-Ok g c =
    flushed_stable g.D.Disk.image g.D.Disk.keeps c.round.new.self.disks (seen_flushing c.flush.new.self c.self.inside.failed)
    c.flush.ensures.images c.in-Ok.ensures.stable
