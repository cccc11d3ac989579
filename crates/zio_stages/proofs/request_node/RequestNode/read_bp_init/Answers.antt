use Rattle.std.proofs.Common.{◌≡◌, None, Ok, refl, sym, ap, subst}
use Rattle.std.specs.List.{AllByRecursion}
use Rattle.zio_stages.specs.OwnReads.{IsBodyOn, IsOwnOver}
use Rattle.zio_stages.specs.RequestNodes.{IsOwnOver as IsNodeOver, IsRequestNode}
use Rattle.zio_stages.specs.declared.own_read.BodyIo.{BodyIo}
use Rattle.zio_stages.specs.declared.request_node.Own.{Own}
use Rattle.zio_stages.specs.declared.request_node.Own.TheVariants.{Found}
use Rattle.std.specs.Prelude.{IfSome, Option}
use Rattle.zio_gang.specs.declared.tree.Tree.{Tree}
use Rattle.zio_stages.specs.RequestOwns.{IsBlockOn}
use Rattle.zio_stages.proofs.RequestOwnMoves.{ReadsBlock, read_goes_on, read_work}
use Rattle.zio_stages.proofs.RequestReadLemmas.{nothing, read_begins, reads_none}
use Rattle.zio_stages.proofs.RequestWriteLemmas.{idle_at, with_own}
use Rattle.zio_stages.proofs.BehindLemmas.{does_nothing}
use Rattle.std.proofs.Common.{true, false}
use Rattle.zio_stages.specs.RequestKinds.{is_gang_tree}
use Rattle.zio_stages.proofs.ReadCountLemmas.{none_walked, one_body}
use Rattle.zio_stages.proofs.request_node.RequestNode.read_bp_init.Goals as goal

pub returns-in_default-clause-does : goal.returns-in_default-clause-does
returns-in_default-clause-does c = λ t st h.
    let r = c.args.self.now in
    let none : r.waiting.block ≡ None = nothing r.waiting.block c.in_default.not-Some in
    does_nothing t st (IsRequestNode t (with_own r (Found c.found_of.result) r.family))
    (reads_none t r st c.found_of.result h c.requires.due c.requires.handed c.requires.read none c.found_of.ensures)

pub returns-clause-does : goal.returns-clause-does
returns-clause-does c = λ t st h.
    let r = c.args.self.now in
    let tree = c.in-Some.tree in
    let k : ReadsBlock r tree = record { all = c.requires.handed; work = read_work r.waiting.request.work c.requires.read; block = c.in-Some.is } in
    let idle = idle_at t r st h c.requires.due in
    let b = c.in_ok-read_bp_init.field-0 in
    read_begins t r st c.new-own.result c.read_bp_init.new.self tree b h k
    (c.new-own.ensures.fresh t r.family tree h.kid_asked h.kid_slots st refl idle.children idle.behind idle.alone)
    (λ e. c.in_ok-read_bp_init.ensures.walks (ap (λ x. Ok x) e) t t.setting.tops r.family tree h.kid_asked h.kid_slots st refl (read_goes_on t t.setting.tops r st tree h refl k)
    (c.new-own.ensures.fresh t r.family tree h.kid_asked h.kid_slots st refl idle.children idle.behind idle.alone))
    (λ e. c.in_ok-read_bp_init.ensures.gang (ap (λ x. Ok x) e))

pub returns-clause-over : goal.returns-clause-over
returns-clause-over c = λ tops on over.
    let r = c.args.self.now in
    let tree = c.in-Some.tree in
    let lies : IsBlockOn tops tree = subst (λ (o : Option Tree). IfSome o (IsBlockOn tops)) c.in-Some.is on in
    let none = subst (λ (o : Own). IsNodeOver tops o r.family) c.requires.due over in (
      subst (λ (o : Option BodyIo). IsOwnOver tops c.read_bp_init.new.self.tree o r.family) (sym c.in_ok-read_bp_init.ensures.alone) none,
      c.in_ok-read_bp_init.ensures.on tops lies.plain (subst (AllByRecursion (IsBodyOn tops)) (sym c.new-own.ensures.bodies) tt),
    )

pub returns-clause-plain : goal.returns-clause-plain
returns-clause-plain c = λ names.
    let tree = c.in-Some.tree in
    let plain : tree.bp.gang ≡ false = subst (λ (o : Option Tree). is_gang_tree o ≡ false) c.in-Some.is names in
    one_body c.in_ok-read_bp_init.field-0 tree.bp.gang c.new-own.result c.read_bp_init.new.self (λ e. c.in_ok-read_bp_init.ensures.one (ap (λ x. Ok x) e))
    (λ e. c.in_ok-read_bp_init.ensures.asks (ap (λ x. Ok x) e)) plain c.new-own.ensures.unread

pub returns-clause-gang : goal.returns-clause-gang
returns-clause-gang c = λ names.
    let tree = c.in-Some.tree in
    let is : tree.bp.gang ≡ true = subst (λ (o : Option Tree). is_gang_tree o ≡ true) c.in-Some.is names in
    none_walked c.in_ok-read_bp_init.field-0 tree.bp.gang c.new-own.result c.read_bp_init.new.self (λ e. c.in_ok-read_bp_init.ensures.one (ap (λ x. Ok x) e))
    (λ e. c.in_ok-read_bp_init.ensures.gang (ap (λ x. Ok x) e)) is c.new-own.ensures.unread
