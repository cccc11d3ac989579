use Rattle.std.proofs.Common.{List, ◌∙◌, rules}
use Rattle.std.specs.Prelude.{IfSome}
use Rattle.zio_disks.specs.Whole.{IsWholeTree}
use Rattle.zio_course.specs.declared.runner.Stop.TheVariants.{Memory}
use Rattle.zio_gang.specs.Attempts.{Pending}
use Rattle.zio_cksum.proofs.AllLemmas.{all_weaker}
use Rattle.zio_plain.specs.declared.waiting.Waiting.{Waiting}
use Rattle.zio_plain.specs.OwnEnds.{Named}
use Rattle.zio_plain.specs.Settlings.{named_in}
use Rattle.zio_plain.proofs.NamedLemmas.{named_all, named_by}
use Rattle.zio_plain.proofs.SettlingLemmas.{claim_alone, next_all, next_apart, next_named, running_begins, running_ends, running_more, running_next, whole_can}
use Rattle.zio_plain.proofs.trees.settle_trees.Goals as goal

pub loop-tree-init : goal.loop-tree-init
loop-tree-init g c =
    let m = g.W.OwnWork in
    running_begins m.tells m.runs m.fresh m.given (m.moves (named_in c.args.trees)) c.args.failmode c.args.trees c.into_iter-tree-iterator.result c.new-left.result c.args.ends.now.finished c.args.ends.now.freed c.args.works.now
    (c.into_iter-tree-iterator.ensures.into_iter_gives ∙ c.into_rest-tree-items.ensures) c.new-left.ensures (g.met.W.OwnWork.moves_itself (named_in c.args.trees) c.args.works.now)

pub settle-requires-clause-apart : goal.settle-requires-clause-apart
settle-requires-clause-apart g c =
    let m = g.W.OwnWork in
    let ws : List Waiting = c.tree.inside.waiting in
    let i = c.loop-tree.invariant in
    next_apart i.each_run ws c.next.new.self c.args.trees
    (running_next m.tells m.runs m.fresh m.given (m.moves (named_in c.args.trees)) c.args.failmode c.args.trees c.loop-tree.tree-iterator c.loop-tree.left c.next.new.self c.in-Some.tree ws _ _ _ _ _ _ i c.in-Some.ensures.steps c.tree.view_is)
    c.requires.once

pub settle-requires-clause-can : goal.settle-requires-clause-can
settle-requires-clause-can g c =
    let m = g.W.OwnWork in
    let ws : List Waiting = c.tree.inside.waiting in
    let i = c.loop-tree.invariant in
    all_weaker (λ (w : Waiting). m.can c.args.works.now w.block) (λ (w : Waiting). m.can c.loop-tree.works w.block) ws
    (λ w k. g.met.W.OwnWork.moves_can (named_in c.args.trees) c.args.works.now c.loop-tree.works _ w.block i.moved k)
    (whole_can (m.can c.args.works.now) ws
    (next_all (λ (p : Pending). IfSome p.block IsWholeTree → m.can c.args.works.now p.block) i.each_run ws c.next.new.self c.args.trees
    (running_next m.tells m.runs m.fresh m.given (m.moves (named_in c.args.trees)) c.args.failmode c.args.trees c.loop-tree.tree-iterator c.loop-tree.left c.next.new.self c.in-Some.tree ws _ _ _ _ _ _ i c.in-Some.ensures.steps c.tree.view_is)
    c.requires.can) c.tree.invariant.sound)

pub settle-requires-clause-claim : goal.settle-requires-clause-claim
settle-requires-clause-claim g c =
    let m = g.W.OwnWork in
    let ws : List Waiting = c.tree.inside.waiting in
    let i = c.loop-tree.invariant in
    claim_alone i.each_run ws c.next.new.self c.args.trees
    (running_next m.tells m.runs m.fresh m.given (m.moves (named_in c.args.trees)) c.args.failmode c.args.trees c.loop-tree.tree-iterator c.loop-tree.left c.next.new.self c.in-Some.tree ws _ _ _ _ _ _ i c.in-Some.ensures.steps c.tree.view_is)
    c.tree.invariant c.requires.claim

pub loop-tree-preserved : goal.loop-tree-preserved
loop-tree-preserved g c =
    let m = g.W.OwnWork in
    running_more m.tells m.runs m.fresh m.given (m.moves (named_in c.args.trees)) c.args.failmode c.args.trees c.loop-tree.tree-iterator c.loop-tree.left c.note_left.new.left c.next.new.self c.in-Some.tree c.tree.inside.waiting c.in_ok-rest.rest
    c.args.ends.now.finished c.loop-tree.ends.finished c.settle.new.ends.finished c.args.ends.now.freed c.loop-tree.ends.freed c.settle.new.ends.freed c.args.works.now c.loop-tree.works c.settle.new.works
    (g.met.W.OwnWork.moves_then (named_in c.args.trees)) (g.met.W.OwnWork.moves_runs (named_in c.args.trees)) c.requires.once c.requires.claim c.loop-tree.invariant c.in-Some.ensures.steps c.tree.view_is c.tree.invariant
    (c.in_ok-rest.ensures.passes (named_in c.args.trees)
    (next_named c.loop-tree.invariant.each_run c.tree.inside.waiting c.next.new.self c.args.trees
    (running_next m.tells m.runs m.fresh m.given (m.moves (named_in c.args.trees)) c.args.failmode c.args.trees c.loop-tree.tree-iterator c.loop-tree.left c.next.new.self c.in-Some.tree c.tree.inside.waiting _ _ _ _ _ _ c.loop-tree.invariant c.in-Some.ensures.steps c.tree.view_is) c.requires.claim))
    c.in_ok-note_left.ensures

pub note_left-requires : goal.note_left-requires
note_left-requires g c =
    let m = g.W.OwnWork in
    let ws : List Waiting = c.tree.inside.waiting in
    (c.in_ok-rest.ensures.passes (named_by ws) (named_all ws
    (claim_alone c.loop-tree.invariant.each_run ws c.next.new.self c.args.trees
    (running_next m.tells m.runs m.fresh m.given (m.moves (named_in c.args.trees)) c.args.failmode c.args.trees c.loop-tree.tree-iterator c.loop-tree.left c.next.new.self c.in-Some.tree ws _ _ _ _ _ _ c.loop-tree.invariant c.in-Some.ensures.steps c.tree.view_is)
    c.tree.invariant c.requires.claim))).rest

pub returns-in_err-rest-clause-breaks : goal.returns-in_err-rest-clause-breaks
returns-in_err-rest-clause-breaks g c =
    let m = g.W.OwnWork in
    let named : Named = named_in c.args.trees in
    let at = next_named c.loop-tree.invariant.each_run c.tree.inside.waiting c.next.new.self c.args.trees
    (running_next m.tells m.runs m.fresh m.given (m.moves named) c.args.failmode c.args.trees c.loop-tree.tree-iterator c.loop-tree.left c.next.new.self c.in-Some.tree c.tree.inside.waiting _ _ _ _ _ _ c.loop-tree.invariant c.in-Some.ensures.steps c.tree.view_is) c.requires.claim in
    let broke = c.in_err-rest.ensures.breaks named at in
    let all = g.met.W.OwnWork.moves_breaks named c.args.works.now c.loop-tree.works c.settle.new.works _ _ c.loop-tree.invariant.moved broke in
    search rules

pub returns-in_err-note_left-clause-breaks : goal.returns-in_err-note_left-clause-breaks
returns-in_err-note_left-clause-breaks g c =
    let m = g.W.OwnWork in
    let named : Named = named_in c.args.trees in
    let at = next_named c.loop-tree.invariant.each_run c.tree.inside.waiting c.next.new.self c.args.trees
    (running_next m.tells m.runs m.fresh m.given (m.moves named) c.args.failmode c.args.trees c.loop-tree.tree-iterator c.loop-tree.left c.next.new.self c.in-Some.tree c.tree.inside.waiting _ _ _ _ _ _ c.loop-tree.invariant c.in-Some.ensures.steps c.tree.view_is) c.requires.claim in
    let p = c.in_ok-rest.ensures.passes named at in
    let all = g.met.W.OwnWork.moves_breaks named c.args.works.now c.settle.new.works c.settle.new.works _ Memory
    (g.met.W.OwnWork.moves_then named c.args.works.now c.loop-tree.works c.settle.new.works _ _ c.loop-tree.invariant.moved p.moved) (g.met.W.OwnWork.memory_breaks named c.settle.new.works) in
    search rules

pub returns-clause-run : goal.returns-clause-run
returns-clause-run g c =
    let m = g.W.OwnWork in
    running_ends m.tells m.runs m.fresh m.given (m.moves (named_in c.args.trees)) c.args.failmode c.args.trees c.loop-tree.tree-iterator c.loop-tree.left
    c.args.ends.now.finished c.loop-tree.ends.finished c.args.ends.now.freed c.loop-tree.ends.freed c.args.works.now c.loop-tree.works
    c.loop-tree.invariant c.in-None.ensures.steps.0
