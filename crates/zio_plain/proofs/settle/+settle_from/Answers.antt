use Rattle.std.proofs.Common.{◌≡◌, ◌+◌, ◌-◌, List, true, false, ap, sym, subst, ◌∙◌, arith, inl, inr, rules}
use Rattle.std.specs.List.{AllByRecursion}
use Rattle.zio_cksum.proofs.AllLemmas.{all_weaker}
use Rattle.zio_course.specs.Runners.{has_claim}
use Rattle.zio_plain.specs.Passes.{AreNumberedApart, ArePasses, waitings_in}
use Rattle.zio_plain.specs.OwnEnds.{AreNamed, Named}
use Rattle.zio_plain.specs.Posts.{requests_in}
use Rattle.zio_plain.specs.declared.waiting.Waiting.{Waiting}
use Rattle.zio_plain.proofs.SettleLemmas.{go_on, if_err_all, if_ok_all, left_apart, left_can, named_left, no_claim_left, passes_end}
use Rattle.zio_plain.proofs.NamedLemmas.{named_by, named_all}
use Rattle.zio_plain.proofs.settle.+settle_from.Goals as goal
use Rattle.zio_plain.proofs.settle.+settle_from.Goals.{else-at_once-via-then-at_once+else-more-gt0, else-at_once-via-else-at_once}

pub settle_from-requires : goal.settle_from-requires
settle_from-requires g t c κs within =
    let named : Named = named_by c.args.tree in
    let h = c.in_ok-left.ensures.pass named (named_all c.args.tree c.requires.claim) in
    let each = h.each in (
      omega arith,
      (
        search rules,
        (
          omega (arith, c.requires.few),
          (
            h.turns c.if-at_once.true,
            (
              subst AreNumberedApart (sym h.left_are) (left_apart h.fates each (subst AreNumberedApart h.whole c.requires.apart)),
              (
                subst (AllByRecursion (λ (w : Waiting). g.W.OwnWork.can c.attempt.new.works w.block)) (sym h.left_are)
                    (left_can (λ (w : Waiting). w.block) (λ w v e. e) (g.W.OwnWork.can c.attempt.new.works) h.fates each
                    (all_weaker (λ (w : Waiting). g.W.OwnWork.can c.args.works.now w.block) (λ (w : Waiting). g.W.OwnWork.can c.attempt.new.works w.block) (waitings_in h.fates)
                    (λ w k. g.met.W.OwnWork.moves_can named c.args.works.now c.attempt.new.works _ w.block h.moved k)
                    (subst (AllByRecursion (λ (w : Waiting). g.W.OwnWork.can c.args.works.now w.block)) h.whole c.requires.can))),
                λ e. let no : false ≡ true = sym (no_claim_left c.args.tree h.fates h.whole each c.requires.tree c.requires.claim) ∙ ap (λ ws. has_claim (requests_in ws)) (sym h.left_are) ∙ e in absurd (cc),
              ),
            ),
          ),
        ),
      ),
    )

pub returns-then-more-gt0-clause-passes : goal.returns-then-more-gt0-clause-passes
returns-then-more-gt0-clause-passes g t c =
    if_ok_all c.settle_from.result (λ (named : Named). AllByRecursion (λ (w : Waiting). AreNamed named w.request.work w.block) c.in_ok-left.field-0.left)
    (λ (named : Named). AllByRecursion (λ (w : Waiting). AreNamed named w.request.work w.block) c.args.tree)
    (λ named left. ArePasses g.W.OwnWork.tells g.W.OwnWork.runs g.W.OwnWork.fresh g.W.OwnWork.given (g.W.OwnWork.moves named) c.args.failmode (c.args.more - 1) (c.args.number + 1) c.in_ok-left.field-0.left left
    c.attempt.new.ends.finished c.settle_from.new.ends.finished c.attempt.new.ends.freed c.settle_from.new.ends.freed c.attempt.new.works c.settle_from.new.works)
    (λ named left. ArePasses g.W.OwnWork.tells g.W.OwnWork.runs g.W.OwnWork.fresh g.W.OwnWork.given (g.W.OwnWork.moves named) c.args.failmode c.args.more c.args.number c.args.tree left
    c.args.ends.now.finished c.settle_from.new.ends.finished c.args.ends.now.freed c.settle_from.new.ends.freed c.args.works.now c.settle_from.new.works)
    (λ named at. (let h = c.in_ok-left.ensures.pass named at in named_left named c.args.tree c.in_ok-left.field-0.left h.fates h.whole h.left_are h.each at))
    (λ named at left k.
    (let m = g.W.OwnWork in
    let h = c.in_ok-left.ensures.pass named at in
    let none : has_claim (requests_in c.in_ok-left.field-0.left) ≡ false =
    ap (λ (ws : List Waiting). has_claim (requests_in ws)) h.left_are ∙ no_claim_left c.args.tree h.fates h.whole h.each c.requires.tree c.requires.claim in
    go_on m.tells m.runs m.fresh m.given (m.moves named) c.args.failmode c.args.more c.args.number c.args.tree c.in_ok-left.field-0.left c.in_ok-left.field-0.at_once left
    c.args.ends.now.finished c.attempt.new.ends.finished c.settle_from.new.ends.finished c.args.ends.now.freed c.attempt.new.ends.freed c.settle_from.new.ends.freed
    c.args.works.now c.attempt.new.works c.settle_from.new.works c.if-more-gt0.true c.if-at_once.true
    (g.met.W.OwnWork.moves_then named) (g.met.W.OwnWork.moves_runs named) none h k))
    c.settle_from.ensures.passes

pub returns-then-more-gt0-clause-breaks : goal.returns-then-more-gt0-clause-breaks
returns-then-more-gt0-clause-breaks g t c =
    if_err_all c.settle_from.result (λ (named : Named). AllByRecursion (λ (w : Waiting). AreNamed named w.request.work w.block) c.in_ok-left.field-0.left)
    (λ (named : Named). AllByRecursion (λ (w : Waiting). AreNamed named w.request.work w.block) c.args.tree)
    (λ named stop. g.W.OwnWork.breaks named c.attempt.new.works c.settle_from.new.works stop)
    (λ named stop. g.W.OwnWork.breaks named c.args.works.now c.settle_from.new.works stop)
    (λ named at. (let h = c.in_ok-left.ensures.pass named at in named_left named c.args.tree c.in_ok-left.field-0.left h.fates h.whole h.left_are h.each at))
    (λ named at stop k. g.met.W.OwnWork.moves_breaks named c.args.works.now c.attempt.new.works c.settle_from.new.works _ stop (c.in_ok-left.ensures.pass named at).moved k)
    c.settle_from.ensures.breaks

pub returns-else-at_once-clause-passes : goal.returns-else-at_once-clause-passes
returns-else-at_once-clause-passes g t c named at =
    let m = g.W.OwnWork in
    elim c.else-at_once.branch [
      | else-at_once-via-then-at_once+else-more-gt0 w ↦
          passes_end m.tells m.runs m.fresh m.given (m.moves named) c.args.failmode c.args.more c.args.number c.args.tree c.in_ok-left.field-0.left c.in_ok-left.field-0.at_once
          c.args.ends.now.finished c.attempt.new.ends.finished c.args.ends.now.freed c.attempt.new.ends.freed c.args.works.now c.attempt.new.works (inr (omega (arith, w.if-more-gt0.false))) (c.in_ok-left.ensures.pass named at)
      | else-at_once-via-else-at_once w ↦
          passes_end m.tells m.runs m.fresh m.given (m.moves named) c.args.failmode c.args.more c.args.number c.args.tree c.in_ok-left.field-0.left c.in_ok-left.field-0.at_once
          c.args.ends.now.finished c.attempt.new.ends.finished c.args.ends.now.freed c.attempt.new.ends.freed c.args.works.now c.attempt.new.works (inl w.if-at_once.false) (c.in_ok-left.ensures.pass named at)
    ]
