use Rattle.std.proofs.Common.{◌≡◌, ◌≤◌, List, [], ◌∷◌, length, map, reverse, ap, sym, subst, ◌∙◌, arith, rules}
use Rattle.std.proofs.lemmas.List.{length-reverse}
use Rattle.zio_plain.specs.declared.waiting.Handed.{Handed}
use Rattle.zio_plain.specs.declared.waiting.Waiting.{Waiting}
use Rattle.std.specs.List.{AllByRecursion}
use Rattle.zio_gang.specs.Attempts.{now_alone, root_bits}
use Rattle.zio_plain.specs.OwnEnds.{AreNamed, Named}
use Rattle.zio_plain.specs.Waits.{return_of}
use Rattle.zio_plain.proofs.PassLemmas.{IsPassing, all_at, passing_begins, passing_ends, passing_enough, passing_more, passing_pointers, passing_rising, waits}
use Rattle.zio_plain.proofs.NamedLemmas.{named_by, named_all}
use Rattle.zio_plain.proofs.attempt.attempt.Goals as goal

pub loop-waiting-init : goal.loop-waiting-init
loop-waiting-init g c named at =
    let m = g.W.OwnWork in
    let all : c.into_iter-waiting-iterator.result ≡ c.args.tree = c.into_iter-waiting-iterator.ensures.into_iter_gives ∙ c.into_rest-waiting-items.ensures in
    let none : reverse c.new-handed.result.items ≡ [] = ap reverse c.new-handed.ensures.items in
    subst (λ (ws : List Waiting). IsPassing m.tells m.runs m.fresh m.given (m.moves named) c.args.failmode c.args.attempt c.args.tree ws (reverse c.new-handed.result.items) c.new-again.result
    c.args.ends.now.finished c.args.ends.now.finished c.args.ends.now.freed c.args.ends.now.freed c.args.works.now c.args.works.now) (sym all)
    (passing_begins m.tells m.runs m.fresh m.given (m.moves named) c.args.failmode c.args.attempt c.args.tree (reverse c.new-handed.result.items) c.new-again.result c.args.ends.now.finished c.args.ends.now.freed c.args.works.now
    c.requires.tree c.requires.apart none c.new-again.ensures (g.met.W.OwnWork.moves_itself named c.args.works.now))

pub attempt_request-requires-clause-can : goal.attempt_request-requires-clause-can
attempt_request-requires-clause-can g c =
    let named : Named = named_by c.args.tree in
    let i = c.loop-waiting.invariant named (named_all c.args.tree c.requires.claim) in
    g.met.W.OwnWork.moves_can named c.args.works.now c.loop-waiting.works _ c.in-Some.waiting.block i.moved
    (all_at (λ (w : Waiting). g.W.OwnWork.can c.args.works.now w.block) i.fates c.in-Some.waiting c.next.new.self c.args.tree
    (i.split ∙ waits i.fates c.in-Some.ensures.steps) c.requires.can)

pub attempt_request-requires-clause-enough : goal.attempt_request-requires-clause-enough
attempt_request-requires-clause-enough g c =
    let m = g.W.OwnWork in
    let named : Named = named_by c.args.tree in
    let hs : List Handed = reverse c.loop-waiting.handed.items in
    let i : IsPassing m.tells m.runs m.fresh m.given (m.moves named) c.args.failmode c.args.attempt c.args.tree (c.in-Some.waiting ∷ c.next.new.self) hs c.loop-waiting.again
    c.args.ends.now.finished c.loop-waiting.ends.finished c.args.ends.now.freed c.loop-waiting.ends.freed c.args.works.now c.loop-waiting.works =
    subst (λ (ws : List Waiting). IsPassing m.tells m.runs m.fresh m.given (m.moves named) c.args.failmode c.args.attempt c.args.tree ws hs c.loop-waiting.again
    c.args.ends.now.finished c.loop-waiting.ends.finished c.args.ends.now.freed c.loop-waiting.ends.freed c.args.works.now c.loop-waiting.works) c.in-Some.ensures.steps (c.loop-waiting.invariant named (named_all c.args.tree c.requires.claim)) in
    let k = c.loop-waiting.handed.ok.0 in
    let n : length hs ≡ length c.loop-waiting.handed.items = length-reverse c.loop-waiting.handed.items in
    let e : c.in-Some.waiting.unfinished ≤ length hs =
    passing_enough m.tells m.runs m.fresh m.given (m.moves named) c.args.failmode c.args.attempt c.args.tree c.in-Some.waiting c.next.new.self hs c.loop-waiting.again _ _ _ _ _ _ i in
    omega arith

pub attempt_request-requires-clause-rising : goal.attempt_request-requires-clause-rising
attempt_request-requires-clause-rising g c =
    let m = g.W.OwnWork in
    let named : Named = named_by c.args.tree in
    let hs : List Handed = reverse c.loop-waiting.handed.items in
    passing_rising m.tells m.runs m.fresh m.given (m.moves named) c.args.failmode c.args.attempt c.args.tree c.in-Some.waiting c.next.new.self hs c.loop-waiting.again _ _ _ _ _ _
    (subst (λ (ws : List Waiting). IsPassing m.tells m.runs m.fresh m.given (m.moves named) c.args.failmode c.args.attempt c.args.tree ws hs c.loop-waiting.again
    c.args.ends.now.finished c.loop-waiting.ends.finished c.args.ends.now.freed c.loop-waiting.ends.freed c.args.works.now c.loop-waiting.works) c.in-Some.ensures.steps (c.loop-waiting.invariant named (named_all c.args.tree c.requires.claim)))

pub attempt_request-requires-clause-pointers : goal.attempt_request-requires-clause-pointers
attempt_request-requires-clause-pointers g c =
    let m = g.W.OwnWork in
    let named : Named = named_by c.args.tree in
    let hs : List Handed = reverse c.loop-waiting.handed.items in
    passing_pointers m.tells m.runs m.fresh m.given (m.moves named) c.args.failmode c.args.attempt c.args.tree c.in-Some.waiting c.next.new.self hs c.loop-waiting.again _ _ _ _ _ _
    (subst (λ (ws : List Waiting). IsPassing m.tells m.runs m.fresh m.given (m.moves named) c.args.failmode c.args.attempt c.args.tree ws hs c.loop-waiting.again
    c.args.ends.now.finished c.loop-waiting.ends.finished c.args.ends.now.freed c.loop-waiting.ends.freed c.args.works.now c.loop-waiting.works) c.in-Some.ensures.steps (c.loop-waiting.invariant named (named_all c.args.tree c.requires.claim)))

pub attempt_request-requires-clause-sound : goal.attempt_request-requires-clause-sound
attempt_request-requires-clause-sound g c =
    let m = g.W.OwnWork in
    let named : Named = named_by c.args.tree in
    let hs : List Handed = reverse c.loop-waiting.handed.items in
    let i : IsPassing m.tells m.runs m.fresh m.given (m.moves named) c.args.failmode c.args.attempt c.args.tree (c.in-Some.waiting ∷ c.next.new.self) hs c.loop-waiting.again
    c.args.ends.now.finished c.loop-waiting.ends.finished c.args.ends.now.freed c.loop-waiting.ends.freed c.args.works.now c.loop-waiting.works =
    subst (λ (ws : List Waiting). IsPassing m.tells m.runs m.fresh m.given (m.moves named) c.args.failmode c.args.attempt c.args.tree ws hs c.loop-waiting.again
    c.args.ends.now.finished c.loop-waiting.ends.finished c.args.ends.now.freed c.loop-waiting.ends.freed c.args.works.now c.loop-waiting.works) c.in-Some.ensures.steps (c.loop-waiting.invariant named (named_all c.args.tree c.requires.claim)) in
    i.sound.0

pub loop-waiting-preserved : goal.loop-waiting-preserved
loop-waiting-preserved g c named at =
    let m = g.W.OwnWork in
    let i = c.loop-waiting.invariant named at in
    let hs : List Handed = reverse c.loop-waiting.handed.items in
    passing_more m.tells m.runs m.fresh m.given (m.moves named) c.args.failmode c.args.attempt c.args.tree c.in-Some.waiting c.next.new.self hs (reverse c.attempt_request.new.handed.items)
    c.loop-waiting.again c.attempt_request.new.again c.args.ends.now.finished c.loop-waiting.ends.finished c.attempt_request.new.ends.finished
    c.args.ends.now.freed c.loop-waiting.ends.freed c.attempt_request.new.ends.freed c.args.works.now c.loop-waiting.works c.attempt_request.new.works
    (g.met.W.OwnWork.moves_then named) (g.met.W.OwnWork.moves_runs named) c.requires.claim c.requires.apart
    (subst (λ (ws : List Waiting). IsPassing m.tells m.runs m.fresh m.given (m.moves named) c.args.failmode c.args.attempt c.args.tree ws hs c.loop-waiting.again
    c.args.ends.now.finished c.loop-waiting.ends.finished c.args.ends.now.freed c.loop-waiting.ends.freed c.args.works.now c.loop-waiting.works) c.in-Some.ensures.steps i)
    (c.in_ok-attempt_request.ensures.step named (all_at (λ (w : Waiting). AreNamed named w.request.work w.block) i.fates c.in-Some.waiting c.next.new.self c.args.tree (i.split ∙ waits i.fates c.in-Some.ensures.steps) at))

pub returns-in_err-attempt_request-clause-breaks : goal.returns-in_err-attempt_request-clause-breaks
returns-in_err-attempt_request-clause-breaks g c =
    let broke = λ (named : Named) (at : AllByRecursion (λ (w : Waiting). AreNamed named w.request.work w.block) c.args.tree).
    (let i = c.loop-waiting.invariant named at in
    let here : AreNamed named c.in-Some.waiting.request.work c.in-Some.waiting.block = all_at (λ (w : Waiting). AreNamed named w.request.work w.block) i.fates c.in-Some.waiting c.next.new.self c.args.tree (i.split ∙ waits i.fates c.in-Some.ensures.steps) at in
    g.met.W.OwnWork.moves_breaks named c.args.works.now c.loop-waiting.works c.attempt_request.new.works _ _ i.moved (c.in_err-attempt_request.ensures.breaks named here)) in
    search rules

pub returns-clause-pass : goal.returns-clause-pass
returns-clause-pass g c named at =
    let m = g.W.OwnWork in
    let hs : List Handed = reverse c.loop-waiting.handed.items in
    passing_ends m.tells m.runs m.fresh m.given (m.moves named) c.args.failmode c.args.attempt c.args.tree hs c.loop-waiting.again c.goes_at_once-at_once.result
    c.args.ends.now.finished c.loop-waiting.ends.finished c.args.ends.now.freed c.loop-waiting.ends.freed c.args.works.now c.loop-waiting.works
    c.requires.tree
    (subst (λ (ws : List Waiting). IsPassing m.tells m.runs m.fresh m.given (m.moves named) c.args.failmode c.args.attempt c.args.tree ws hs c.loop-waiting.again
    c.args.ends.now.finished c.loop-waiting.ends.finished c.args.ends.now.freed c.loop-waiting.ends.freed c.args.works.now c.loop-waiting.works) c.in-None.ensures.steps.0 (c.loop-waiting.invariant named at))
    (c.goes_at_once-at_once.ensures ∙ ap (λ (gs : List Handed). now_alone (root_bits (map return_of (reverse gs)))) c.deref.ensures.value)
