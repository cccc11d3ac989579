use Rattle.std.proofs.Common.{Bool, [], ◌∷◌, ◌++◌, cond, refl, sym, ap, ◌∙◌}
use Rattle.std.proofs.lemmas.Result.{on_ok_weaker}
use Rattle.zio_turns.proofs.ActLemmas.{are_counted}
use Rattle.zio_turns.proofs.hear.count.Goals as goal

pub returns-then-woken : goal.returns-then-woken
returns-then-woken c =
    on_ok_weaker c.queue_up.result
    (λ q. are_counted c.args.ties.now _ c.args.line.now c.queue_up.new.line c.args.key c.args.mark.kind
    c.args.mark.phase c.args.mark.error c.args.mark.bits c.notify-woken.new.self c.notify-woken.result refl
    c.notify-woken.ensures.counts c.notify-woken.ensures.woken
    (q ∙ sym (ap (λ (b : Bool). cond b (c.args.line.now ++ c.args.key ∷ []) c.args.line.now) c.if-woken.true)))
    c.queue_up.ensures

pub returns : goal.returns
returns c =
    are_counted c.args.ties.now _ c.args.line.now c.args.line.now c.args.key c.args.mark.kind
    c.args.mark.phase c.args.mark.error c.args.mark.bits c.notify-woken.new.self c.notify-woken.result refl
    c.notify-woken.ensures.counts c.notify-woken.ensures.woken
    (sym (ap (λ (b : Bool). cond b (c.args.line.now ++ c.args.key ∷ []) c.args.line.now) c.if-woken.false))
