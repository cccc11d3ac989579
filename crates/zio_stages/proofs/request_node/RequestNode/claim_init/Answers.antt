use Rattle.std.proofs.Common.{Ok, ap, subst, ◌≡◌, ◌∙◌, false, sym}
use Rattle.zio_stages.specs.RequestNodes.{IsOwnOver}
use Rattle.zio_stages.specs.declared.request_node.Own.{Own}
use Rattle.zio_stages.proofs.RequestClaimMoves.{ClaimsBytes, claim_begins, claim_goes_on, walks_at_once}
use Rattle.zio_stages.proofs.RequestWriteLemmas.{idle_at}
use Rattle.zio_blkptr.specs.Pointers.{pointer_of}
use Rattle.zio_script.specs.declared.script.Work.{Work}
use Rattle.zio_stages.specs.RequestKinds.{has_gang_stages, is_gang_pointer}
use Rattle.zio_stages.proofs.request_node.RequestNode.claim_init.Goals as goal

pub claim_init-requires : goal.claim_init-requires
claim_init-requires c = record { due = c.new-own.ensures.due; over = c.new-own.ensures.over c.args.tops.now }

pub returns-clause-does : goal.returns-clause-does
returns-clause-does c = λ t st tops h.
    let r = c.args.self.now in
    let bytes = c.in-Claim.pointer in
    let k : ClaimsBytes r bytes = record { all = c.requires.handed; name = c.in-Claim.name; work = c.in-Claim.is } in
    let idle = idle_at t r st h c.requires.due in
    let b = c.in_ok-claim_init.field-0 in
    let begun = c.new-own.ensures.fresh r.family h.kid_asked h.kid_slots st idle.children idle.behind idle.alone in
    claim_begins t r st c.new-own.result c.claim_init.new.self bytes b h k begun
    (λ e. c.in_ok-claim_init.ensures.walks (ap (λ x. Ok x) e) t r.family _ h.kid_asked h.kid_slots st (claim_goes_on t c.args.tops.now r st bytes h tops k) begun)
    (λ e. c.in_ok-claim_init.ensures.gang (ap (λ x. Ok x) e))

pub returns-clause-over : goal.returns-clause-over
returns-clause-over c = λ over. (subst (λ (o : Own). IsOwnOver c.args.tops.now o c.args.self.now.family) c.requires.due over, c.in_ok-claim_init.ensures.over)

pub returns-clause-plain : goal.returns-clause-plain
returns-clause-plain c = λ plain.
    let r = c.args.self.now in
    let b = c.in_ok-claim_init.field-0 in
    let no : is_gang_pointer (pointer_of c.in-Claim.pointer) ≡ false = sym (ap (λ (w : Work). has_gang_stages w r.waiting.block) c.in-Claim.is) ∙ plain in
    walks_at_once b c.claim_init.new.self (pointer_of c.in-Claim.pointer) c.new-own.result.block c.new-own.ensures.block no
    (λ e. c.in_ok-claim_init.ensures.past (ap (λ x. Ok x) e)) (λ e. c.in_ok-claim_init.ensures.some (ap (λ x. Ok x) e))
    (λ e. c.in_ok-claim_init.ensures.asks (ap (λ x. Ok x) e))
