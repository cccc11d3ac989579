-- How far a free and a claim in an attempt are once the walk over the block's headers ended, and how often they run then.
use Rattle.std.proofs.Common.{◌≡◌, ℕ, ◌+◌, ◌≤◌, List, take, Bool, Option, Some, None, inl, inr, refl, sym, ap, subst, ◌∙◌, arith}
use Rattle.zio_types.specs.declared.place.Top.{Top}
use Rattle.zio_masks.specs.declared.stage.Stage.{Stage}
use Rattle.zio_masks.specs.declared.stage.Stage.TheVariants.{Start, FreeBpInit, IssueAsync, GangAssemble, GangIssue, DvaFree, DvaClaim, Ready, Done}
use Rattle.zio_gang.specs.declared.tree.Tree.{Tree}
use Rattle.zio_trace.specs.Tasks.{Walked as Walk}
use Rattle.zio_exchange.specs.declared.waiting.UnfinishedRequest.{UnfinishedRequest}
use Rattle.zio_stages.specs.OwnClaims.{HasClaimEnded}
use Rattle.zio_stages.specs.RequestClaims.{IsClaimWith, IsClaimingWith, IsPastDue, IsPastWalk}
use Rattle.zio_stages.specs.RequestFrees.{HasBegun as FreeBegun, HasWalked, IsFreeingWith, freed_by}
use Rattle.zio_stages.specs.RequestKinds.{points_to_gang}
use Rattle.zio_stages.specs.RequestNodes.{IsOwnOver}
use Rattle.zio_stages.specs.RequestStages.{with_own}
use Rattle.zio_stages.specs.StoredBlocks.{block_places}
use Rattle.zio_stages.specs.declared.own_claim.ClaimStep.{ClaimStep}
use Rattle.zio_stages.specs.declared.own_claim.ClaimStep.TheVariants.{Due as StepDue, Out as StepOut, Failed, Found as StepFound, Taken, Refused}
use Rattle.zio_stages.specs.declared.own_claim.OwnClaim.{OwnClaim}
use Rattle.zio_stages.specs.declared.own_free.FreeWalk.TheVariants.{Out as FreeOut, Ended as FreeEnded}
use Rattle.zio_stages.specs.declared.own_free.OwnFree.{OwnFree}
use Rattle.zio_stages.specs.declared.request_node.Own.{Own}
use Rattle.zio_stages.specs.declared.request_node.Own.TheVariants.{Claim as ClaimOwn, Due, Found, Free as FreeOwn, Over, Read as ReadOwn, Stored, Write as WriteOwn}
use Rattle.zio_stages.specs.declared.request_node.RequestNode.{RequestNode}
use Rattle.zio_staged.specs.Stages.{heard_max}
use Rattle.zio_nodes.specs.OwnAts.{HasKeptAll, IsClaimAtStage, IsFreeAtStage, IsGivingFree}
use Rattle.zio_nodes.specs.OwnBounds.{claiming_left, free_walk_left, freeing_left}
use Rattle.zio_nodes.specs.RequestAts.{IsRequestAtOver, freed_so_far, gave_by}
use Rattle.zio_nodes.specs.RequestBounds.{request_left}
use Rattle.zio_nodes.specs.declared.request_at.RequestAt.{RequestAt}
use Rattle.zio_nodes.proofs.ClaimLemmas.{claiming_past}
use Rattle.zio_nodes.proofs.OwnLefts.{claim_less, free_gave_same, free_less}
use Rattle.zio_nodes.proofs.OwnOver.{IsClaim, IsFree, claim_over, claim_stands, free_over, free_stands}
use Rattle.zio_nodes.proofs.OwnHears.{HearsClaimed, HearsFreed}

abbrev at_stage : RequestNode → Stage → Bool → RequestAt
at_stage now stage due = record { node = now; stage = stage; is_due = due }

-- ---- a free

-- so far it goes on
pub record IsFreed (v w : OwnFree) : Type 0 where
  pub walked : HasWalked w
  pub given : w.given ≡ v.given

-- no place went back while the walk was out
kept_still : (v w : OwnFree) (block : Option Tree) → v.walk ≡ FreeOut → IsFreed v w → IsGivingFree block v → HasKeptAll w
kept_still v w block out heard (inl kept) = heard.given ∙ kept
kept_still v w block out heard (inr gives) = absurd (let no : FreeOut ≡ FreeEnded gives.0.0 = sym out ∙ gives.0.1 in cc)

freed_stands : (stage : Stage) (due : Bool) (v w : OwnFree) (block : Option Tree) → v.walk ≡ FreeOut → IsFreed v w → IsFreeAtStage stage due (FreeOwn v) block
    → IsFreeAtStage stage due (FreeOwn w) block
freed_stands FreeBpInit due v w block out heard h = absurd (let no : FreeOwn v ≡ Due = h.0 in cc)
freed_stands IssueAsync due v w block out heard h = (heard.given ∙ h.0, λ plain. heard.walked)
freed_stands GangAssemble due v w block out heard h = (heard.given ∙ h.0, h.1)
freed_stands GangIssue due v w block out heard h = (inl (kept_still v w block out heard h.0), subst FreeBegun (sym heard.walked.1) tt, h.2)
freed_stands DvaFree due v w block out heard h = absurd (let no : FreeOut ≡ FreeEnded h.1.0 = sym out ∙ h.1.1 in cc)
freed_stands Ready due v w block out heard h = absurd (let no : FreeOut ≡ FreeEnded h.0.0 = sym out ∙ h.0.1 in cc)
freed_stands Done due v w block out heard h = absurd (let no : FreeOut ≡ FreeEnded h.0.0 = sym out ∙ h.0.1 in cc)
freed_stands stage due v w block out heard h = absurd h

freeing_is : (P : OwnFree → Type 0) (own : Own) → IsFreeingWith P own → (w : OwnFree) × (own ≡ FreeOwn w) × P w
freeing_is P Due h = absurd h
freeing_is P (WriteOwn w) h = absurd h
freeing_is P (Stored b) h = absurd h
freeing_is P (ReadOwn w) h = absurd h
freeing_is P (FreeOwn w) h = (w, refl, h)
freeing_is P (ClaimOwn w) h = absurd h
freeing_is P (Found own) h = absurd h
freeing_is P Over h = absurd h

freed_as : (own now : Own) (v w : OwnFree) → own ≡ FreeOwn v → now ≡ FreeOwn w → HasWalked w → freed_by now ≡ freed_by own → IsFreed v w
freed_as own now v w was is walked given = record { walked = walked; given = sym (ap freed_by is) ∙ given ∙ ap freed_by was }

pub freed_over : (tops : List Top) (at : RequestAt) (n : ℕ) (now : RequestNode) (x : HearsFreed at n) → IsFree at.node.waiting.request.work → IsRequestAtOver tops at
    → (at.stage ≡ Start → ⊥) → now ≡ with_own at.node now.own now.family → now.waiting ≡ at.node.waiting → IsOwnOver tops now.own now.family
    → IsFreeingWith HasWalked now.own → freed_by now.own ≡ freed_by at.node.own → IsRequestAtOver tops (at_stage now at.stage at.is_due)
freed_over tops at n now x work over behind rest waiting own walked given =
    let on = freeing_is HasWalked now.own walked in
    let heard = freed_as at.node.own now.own x.own on.0 x.is on.1 on.2 given in
    let h = free_stands tops at at.stage work over refl behind in
    let mine = subst (λ (o : Own). IsFreeAtStage at.stage at.is_due o at.node.waiting.block) x.is h in
    let next = freed_stands at.stage at.is_due x.own on.0 at.node.waiting.block x.out heard mine in
    let stood = subst (λ (o : Own). IsFreeAtStage at.stage at.is_due o at.node.waiting.block) (sym on.1) next in
    free_over tops at now at.stage at.is_due work over behind rest own
    (subst (λ (b : Option Tree). IsFreeAtStage at.stage at.is_due now.own b) (sym (ap (λ (q : UnfinishedRequest). q.block) waiting)) stood)

pub freed_left_then : (at : RequestAt) (now : RequestNode) → IsFree at.node.waiting.request.work → (at.stage ≡ Start → ⊥) → now ≡ with_own at.node now.own now.family
    → IsFreeingWith HasWalked now.own → request_left (at_stage now at.stage at.is_due) ≤ request_left at + heard_max
freed_left_then at now work behind rest walked =
    let on = freeing_is HasWalked now.own walked in
    let none : freeing_left now.own ≡ 0 = ap freeing_left on.1 ∙ ap free_walk_left on.2.1 in
    let l = free_less at now at.stage at.is_due 0 work behind behind rest (omega (arith, none)) in
    omega (arith, l)

pub freed_gave : (at : RequestAt) (n : ℕ) (now : RequestNode) (x : HearsFreed at n) → IsFree at.node.waiting.request.work → now ≡ with_own at.node now.own now.family
    → IsFreeingWith HasWalked now.own → freed_by now.own ≡ freed_by at.node.own → gave_by now.waiting.request.work now ≡ gave_by at.node.waiting.request.work at.node
freed_gave at n now x work rest walked given =
    let on = freeing_is HasWalked now.own walked in
    let heard = freed_as at.node.own now.own x.own on.0 x.is on.1 on.2 given in
    let block = at.node.waiting.block in
    free_gave_same at.node now work rest
    (ap (λ (o : Own). freed_so_far o block) on.1 ∙ ap (λ k. take k (block_places block)) heard.given ∙ sym (ap (λ (o : Own). freed_so_far o block) x.is))

-- ---- a claim

not_ended : (block : Option Tree) (step : ClaimStep) (tree : Tree) → block ≡ Some tree → step ≡ StepOut → HasClaimEnded block step → ⊥
not_ended block step tree some out h =
    subst (λ (s : ClaimStep). HasClaimEnded (Some tree) s) out (subst (λ (b : Option Tree). HasClaimEnded b step) some h)

past_due : (block : Option Tree) (step : ClaimStep) → IsPastWalk block step → IsPastDue block step
past_due None step h = tt
past_due (Some tree) StepDue h = h
past_due (Some tree) StepOut h = tt
past_due (Some tree) (Failed e) h = tt
past_due (Some tree) StepFound h = tt
past_due (Some tree) Taken h = tt
past_due (Some tree) Refused h = tt

claimed_stands : (stage : Stage) (due : Bool) (v w : OwnClaim) (tree : Tree) → v.block ≡ Some tree → v.step ≡ StepOut → IsPastWalk w.block w.step
    → (gang : Bool) → IsClaimAtStage stage due (ClaimOwn v) gang → IsClaimAtStage stage due (ClaimOwn w) gang
claimed_stands GangAssemble due v w tree some out past gang h = (inr tt, h.1)
claimed_stands GangIssue due v w tree some out past gang h = (past_due w.block w.step past, h.1)
claimed_stands DvaClaim due v w tree some out past gang h = inr past
claimed_stands Ready due v w tree some out past gang h = absurd (not_ended v.block v.step tree some out h)
claimed_stands Done due v w tree some out past gang h = absurd (not_ended v.block v.step tree some out h)
claimed_stands stage due v w tree some out past gang h = absurd h

-- its walk ended
abbrev pub IsPastIts : OwnClaim → Type 0
IsPastIts w = IsPastWalk w.block w.step

claiming_is : (P : OwnClaim → Type 0) (own : Own) → IsClaimingWith P own → (w : OwnClaim) × (own ≡ ClaimOwn w) × P w
claiming_is P Due h = absurd h
claiming_is P (WriteOwn w) h = absurd h
claiming_is P (Stored b) h = absurd h
claiming_is P (ReadOwn w) h = absurd h
claiming_is P (FreeOwn w) h = absurd h
claiming_is P (ClaimOwn w) h = (w, refl, h)
claiming_is P (Found own) h = absurd h
claiming_is P Over h = absurd h

pub claimed_over : (tops : List Top) (at : RequestAt) (n : ℕ) (now : RequestNode) (walked : Walk) (x : HearsClaimed tops at n walked) → IsClaim at.node.waiting.request.work
    → IsRequestAtOver tops at → (at.stage ≡ Start → ⊥) → now ≡ with_own at.node now.own now.family → IsOwnOver tops now.own now.family
    → IsClaimingWith IsPastIts now.own → IsRequestAtOver tops (at_stage now at.stage at.is_due)
claimed_over tops at n now walked x work over behind rest own past =
    let on = claiming_is IsPastIts now.own past in
    let h = claim_stands tops at at.stage work over refl behind in
    let gang = points_to_gang work.bytes in
    let mine = subst (λ (o : Own). IsClaimAtStage at.stage at.is_due o gang) x.is h in
    let next = claimed_stands at.stage at.is_due x.own on.0 x.tree x.block x.out on.2 gang mine in
    claim_over tops at now at.stage at.is_due work over behind rest own (subst (λ (o : Own). IsClaimAtStage at.stage at.is_due o gang) (sym on.1) next)

pub claimed_left_then : (at : RequestAt) (now : RequestNode) → IsClaim at.node.waiting.request.work → (at.stage ≡ Start → ⊥) → now ≡ with_own at.node now.own now.family
    → IsClaimingWith IsPastIts now.own → request_left (at_stage now at.stage at.is_due) ≤ request_left at + heard_max
claimed_left_then at now work behind rest past =
    let on = claiming_is IsPastIts now.own past in
    let none : claiming_left now.own ≡ 0 =
    claiming_past now.own (subst (IsClaimWith (λ (w : OwnClaim). IsPastDue w.block w.step)) (sym on.1) (past_due on.0.block on.0.step on.2)) in
    let l = claim_less at now at.stage at.is_due 0 work behind behind rest (omega (arith, none)) in
    omega (arith, l)
