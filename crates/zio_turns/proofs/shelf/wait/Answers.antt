use Rattle.std.proofs.Common.{Bool, [], ◌∷◌, ◌++◌, cond, refl, sym, ap, ◌∙◌}
use Rattle.std.proofs.lemmas.Result.{on_ok_weaker}
use Rattle.zio_turns.proofs.ActLemmas.{are_stalled}
use Rattle.zio_turns.proofs.shelf.wait.Goals as goal

pub returns-then-wait_for : goal.returns-then-wait_for
returns-then-wait_for c =
    are_stalled c.args.ties.now _ c.args.line.now c.args.line.now c.args.key c.args.kind c.args.phase
    c.wait_for.new.self c.wait_for.result c.wait_for.ensures.counts c.wait_for.ensures.waits refl
    (sym (ap (λ (b : Bool). cond b c.args.line.now (c.args.line.now ++ c.args.key ∷ [])) c.if-wait_for.true))

pub returns : goal.returns
returns c =
    on_ok_weaker c.queue_up.result
    (λ q. are_stalled c.args.ties.now _ c.args.line.now c.queue_up.new.line c.args.key c.args.kind
    c.args.phase c.wait_for.new.self c.wait_for.result c.wait_for.ensures.counts
    c.wait_for.ensures.waits refl
    (q ∙ sym (ap (λ (b : Bool). cond b c.args.line.now (c.args.line.now ++ c.args.key ∷ [])) c.if-wait_for.false)))
    c.queue_up.ensures
