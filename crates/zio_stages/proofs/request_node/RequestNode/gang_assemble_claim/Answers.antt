use Rattle.std.proofs.Common.{◌≡◌, length, Some, IsTrue, refl, sym, ap, subst, ◌∙◌, arith}
use Rattle.std.specs.Prelude.{IfSome, IsSome, Option}
use Rattle.zio_blkptr.specs.declared.pointer.Bp.{Bp}
use Rattle.zio_blkptr.specs.Pointers.{pointer_of, valid}
use Rattle.zio_gang.specs.declared.tree.Tree.{Tree}
use Rattle.zio_trace.specs.Tasks.{ByClaim, ReadHeads, Task}
use Rattle.zio_frames.specs.Frames.{fresh_stack}
use Rattle.zio_stages.specs.HeadsNodes.{IsHeadsNode}
use Rattle.zio_stages.specs.OwnClaims.{IsOwnClaim, LiesFound, claim_task}
use Rattle.zio_stages.specs.OwnParts.{GoesOnAs}
use Rattle.zio_trace.specs.Plans.{plan_claim}
use Rattle.zio_stages.specs.RequestNodes.{IsOwnOver}
use Rattle.zio_stages.specs.declared.request_node.Own.{Own}
use Rattle.zio_stages.proofs.RequestClaimMoves.{claim_goes_on, claim_in, claims_bytes, hands_claim, own_claim, pointer_is}
use Rattle.zio_stages.proofs.RequestReadMoves.{count_front}
use Rattle.zio_stages.proofs.request_node.RequestNode.gang_assemble_claim.Goals as goal

pub gang_assemble-requires : goal.gang_assemble-requires
gang_assemble-requires c =
    let d = c.in-Some.ensures.due in
    record { due = d.0; some = subst (λ (b : Option Tree). IsSome b) (sym d.1.1) refl }

pub claimed-requires-clause-depth : goal.claimed-requires-clause-depth
claimed-requires-clause-depth c = let e : length c.headers_name-name.result.path ≡ 0 = ap length c.headers_name-name.ensures in omega (arith, e)

pub claimed-requires-clause-valid : goal.claimed-requires-clause-valid
claimed-requires-clause-valid c =
    let over = subst (λ (o : Own). IsOwnOver c.args.tops.now o c.args.self.now.family) c.in-Claim.is c.requires.over in
    let d = c.in-Some.ensures.due in
    subst (λ (b : Bp). IsTrue (valid b)) d.1.2
    (subst (λ (b : Option Tree). IfSome b (λ tree. IsTrue (valid tree.bp) × LiesFound c.args.tops.now tree c.in-Claim.own.step)) d.1.1 over.1).0

pub returns-clause-hands : goal.returns-clause-hands
returns-clause-hands c = λ t st tops h.
    let r = c.args.self.now in
    let w = c.in-Claim.own in
    let own = claim_in t r st w h c.in-Claim.is in
    let bp = c.in-Some.bp in
    let d = c.in-Some.ensures.due in
    let pointer = pointer_is (pointer_of own.bytes) w.block d.1.0 w.step own.is.asked own.is.slots d.1.1 own.is.claim ∙ ap (λ (b : Bp). Some b) d.1.2 in
    let op : ReadHeads ByClaim 8 c.headers_name-name.result.path bp ≡ claim_task bp = λ i. ReadHeads ByClaim 8 (c.headers_name-name.ensures i) bp in
    hands_claim t r st w c.gang_assemble.new.self c.gang_assemble.new.family bp (λ o. o ≡ claim_task bp) (λ o. IsHeadsNode t c.claimed.result (fresh_stack o)) h own pointer
    (λ o is. subst (λ (q : Task). IsHeadsNode t c.claimed.result (fresh_stack q)) (op ∙ sym is) (c.claimed.ensures.fresh t tops))
    (c.in_ok-gang_assemble.ensures.hands t c.args.tops.now bp h.kid_asked h.kid_slots st (count_front t r st h own.all ∙ sym c.len-front.ensures.count)
    (subst (λ p. GoesOnAs t c.args.tops.now (plan_claim p) h.kid_slots st) pointer (claim_goes_on t c.args.tops.now r st own.bytes h tops (claims_bytes t r st w h own)))
    (subst (λ p. IsOwnClaim w r.family p h.kid_asked h.kid_slots st) pointer (own_claim t r st w h own)))

pub returns-clause-over : goal.returns-clause-over
returns-clause-over c =
    let over = subst (λ (o : Own). IsOwnOver c.args.tops.now o c.args.self.now.family) c.in-Claim.is c.requires.over in
    (c.in_ok-gang_assemble.ensures.sits over.0, c.in_ok-gang_assemble.ensures.over c.args.tops.now over.1)
