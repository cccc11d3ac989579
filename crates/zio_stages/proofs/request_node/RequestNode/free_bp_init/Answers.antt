use Rattle.std.proofs.Common.{◌≡◌, None, Ok, refl, ap, subst, arith}
use Rattle.zio_stages.specs.RequestNodes.{IsOwnOver, IsRequestNode}
use Rattle.zio_stages.specs.declared.request_node.Own.{Own}
use Rattle.zio_stages.specs.declared.request_node.Own.TheVariants.{Found}
use Rattle.zio_stages.proofs.BehindLemmas.{does_nothing}
use Rattle.zio_stages.proofs.RequestFreeMoves.{FreesBlock, free_begins, free_goes_on, free_work, frees_none}
use Rattle.zio_stages.proofs.RequestReadLemmas.{nothing}
use Rattle.zio_stages.proofs.RequestWriteLemmas.{idle_at, with_own}
use Rattle.zio_stages.proofs.request_node.RequestNode.free_bp_init.Goals as goal

pub returns-in_default-clause-does : goal.returns-in_default-clause-does
returns-in_default-clause-does c = λ t st h.
    let r = c.args.self.now in
    let none : r.waiting.block ≡ None = nothing r.waiting.block c.in_default.not-Some in
    does_nothing t st (IsRequestNode t (with_own r (Found c.failed.result) r.family))
    (frees_none t r st c.failed.result h c.requires.due c.requires.handed c.requires.free none c.failed.ensures)

pub returns-clause-does : goal.returns-clause-does
returns-clause-does c = λ t st h.
    let r = c.args.self.now in
    let tree = c.in-Some.tree in
    let k : FreesBlock r tree = record { all = c.requires.handed; work = free_work r.waiting.request.work c.requires.free; block = c.in-Some.is } in
    let idle = idle_at t r st h c.requires.due in
    let b = c.in_ok-free_bp_init.field-0 in
    free_begins t r st c.new-own.result c.free_bp_init.new.self tree b h k
    (c.new-own.ensures.fresh r.family tree h.kid_asked h.kid_slots st idle.children idle.behind idle.alone)
    (λ e. c.in_ok-free_bp_init.ensures.walks (ap (λ x. Ok x) e) t t.setting.tops r.family tree h.kid_asked h.kid_slots st refl (free_goes_on t t.setting.tops r st tree h refl k)
    (c.new-own.ensures.fresh r.family tree h.kid_asked h.kid_slots st idle.children idle.behind idle.alone))
    (λ e. c.in_ok-free_bp_init.ensures.gang (ap (λ x. Ok x) e))

pub returns-clause-frees : goal.returns-clause-frees
returns-clause-frees c = omega (arith, c.in_ok-free_bp_init.ensures.given, c.new-own.ensures.given)

pub returns-clause-over : goal.returns-clause-over
returns-clause-over c = λ tops over. subst (λ (o : Own). IsOwnOver tops o c.args.self.now.family) c.requires.due over
