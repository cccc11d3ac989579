-- A claim as a node at a stage: how far it is, and how often it runs.
use Rattle.std.proofs.Common.{◌≡◌, ℕ, ◌+◌, ◌≤◌, ◌⊎◌, inl, inr, List, Bool, false, Option, Some, None, refl, sym, ap, subst, ◌∙◌, arith}
use Rattle.zio_types.specs.declared.request.Kind.{Kind}
use Rattle.zio_types.specs.declared.request.Kind.TheVariants.{Claim as ClaimKind}
use Rattle.zio_masks.specs.declared.stage.Stage.{Stage}
use Rattle.zio_masks.specs.declared.stage.Stage.TheVariants.{DvaClaim, Done, GangAssemble, GangIssue, Ready, Start}
use Rattle.zio_script.specs.Requests.{kind_of}
use Rattle.zio_gang.specs.declared.tree.Tree.{Tree}
use Rattle.zio_exchange.specs.SpaceCalls.{IsClaimAtMost, SpaceCall}
use Rattle.zio_staged.specs.Stages.{told_cost}
use Rattle.zio_stages.specs.OwnClaims.{HasClaimEnded}
use Rattle.zio_stages.specs.RequestClaims.{HasEndedClaim, IsClaimWith, IsClaimingWith, IsDueOrClaim, IsPastDue, IsWalkDue}
use Rattle.zio_stages.specs.RequestReads.{HasFound}
use Rattle.zio_stages.specs.RequestStages.{with_own}
use Rattle.zio_stages.specs.declared.request_node.RequestNode.{RequestNode}
use Rattle.zio_stages.specs.declared.own_claim.ClaimStep.{ClaimStep}
use Rattle.zio_stages.specs.declared.own_claim.ClaimStep.TheVariants.{Due as StepDue, Out as StepOut, Failed, Found as StepFound, Taken, Refused}
use Rattle.zio_stages.specs.declared.own_claim.OwnClaim.{OwnClaim}
use Rattle.zio_stages.specs.declared.request_node.Own.{Own}
use Rattle.zio_stages.specs.declared.request_node.Own.TheVariants.{Claim, Due, Found, Free, Over, Read, Stored, Write}
use Rattle.zio_nodes.specs.Bounds.{walk_max}
use Rattle.zio_nodes.specs.OwnAts.{HasClaimWalked, IsAnyClaim, IsClaimAtStage, IsClaimBegun}
use Rattle.zio_nodes.specs.OwnBounds.{claim_stages, claim_walk_left, claiming_left, walk_share}
use Rattle.zio_nodes.specs.StageMoves.{CallsFit, IssueFits}
use Rattle.zio_nodes.specs.Told.{is_told}
use Rattle.zio_nodes.specs.declared.node.Node.TheVariants.{Request}
use Rattle.zio_nodes.specs.declared.request_at.RequestAt.{RequestAt}

-- ---- how far

pub due_or_claim : (own : Own) → own ≡ Due → IsDueOrClaim own
due_or_claim own is = subst IsDueOrClaim (sym is) tt

pub any_claim : (P : OwnClaim → Type 0) (own : Own) → IsClaimWith P own → IsDueOrClaim own
any_claim P Due h = absurd h
any_claim P (Write w) h = absurd h
any_claim P (Stored b) h = absurd h
any_claim P (Read w) h = absurd h
any_claim P (Free w) h = absurd h
any_claim P (Claim w) h = tt
any_claim P (Found own) h = tt
any_claim P Over h = absurd h

pub claiming_with : (P : OwnClaim → Type 0) (own : Own) → IsClaimingWith P own → IsClaimWith P own
claiming_with P Due h = absurd h
claiming_with P (Write w) h = absurd h
claiming_with P (Stored b) h = absurd h
claiming_with P (Read w) h = absurd h
claiming_with P (Free w) h = absurd h
claiming_with P (Claim w) h = h
claiming_with P (Found own) h = absurd h
claiming_with P Over h = absurd h

pub claim_map : (P Q : OwnClaim → Type 0) (own : Own) → ((w : OwnClaim) → P w → Q w) → IsClaimWith P own → IsClaimWith Q own
claim_map P Q Due f h = h
claim_map P Q (Write w) f h = h
claim_map P Q (Stored b) f h = h
claim_map P Q (Read w) f h = h
claim_map P Q (Free w) f h = h
claim_map P Q (Claim w) f h = f w h
claim_map P Q (Found own) f h = tt
claim_map P Q Over f h = h

-- ---- how often

walk_most : (block : Option Tree) (step : ClaimStep) → claim_walk_left block step ≤ walk_share
walk_most None step = omega arith
walk_most (Some tree) StepDue = omega arith
walk_most (Some tree) _ = omega arith

pub claiming_most : (own : Own) → claiming_left own ≤ walk_share
claiming_most Due = omega arith
claiming_most (Claim w) = walk_most w.block w.step
claiming_most (Free w) = omega arith
claiming_most (Read w) = omega arith
claiming_most (Write w) = omega arith
claiming_most (Stored b) = omega arith
claiming_most (Found own) = omega arith
claiming_most Over = omega arith

due_walk : (block : Option Tree) (step : ClaimStep) → IsWalkDue block step → claim_walk_left block step ≡ walk_share
due_walk None step h = absurd h
due_walk (Some tree) StepDue h = refl
due_walk (Some tree) StepOut h = absurd h
due_walk (Some tree) (Failed e) h = absurd h
due_walk (Some tree) StepFound h = absurd h
due_walk (Some tree) Taken h = absurd h
due_walk (Some tree) Refused h = absurd h

past_walk : (block : Option Tree) (step : ClaimStep) → IsPastDue block step → claim_walk_left block step ≡ 0
past_walk None step h = refl
past_walk (Some tree) StepDue h = absurd h
past_walk (Some tree) StepOut h = refl
past_walk (Some tree) (Failed e) h = refl
past_walk (Some tree) StepFound h = refl
past_walk (Some tree) Taken h = refl
past_walk (Some tree) Refused h = refl

pub claiming_due : (own : Own) → IsClaimingWith (λ w. IsWalkDue w.block w.step) own → claiming_left own ≡ walk_share
claiming_due Due h = absurd h
claiming_due (Write w) h = absurd h
claiming_due (Stored b) h = absurd h
claiming_due (Read w) h = absurd h
claiming_due (Free w) h = absurd h
claiming_due (Claim w) h = due_walk w.block w.step h
claiming_due (Found own) h = absurd h
claiming_due Over h = absurd h

pub claiming_past : (own : Own) → IsClaimWith (λ w. IsPastDue w.block w.step) own → claiming_left own ≡ 0
claiming_past Due h = absurd h
claiming_past (Write w) h = absurd h
claiming_past (Stored b) h = absurd h
claiming_past (Read w) h = absurd h
claiming_past (Free w) h = absurd h
claiming_past (Claim w) h = past_walk w.block w.step h
claiming_past (Found own) h = refl
claiming_past Over h = absurd h

ended_past : (block : Option Tree) (step : ClaimStep) → HasClaimEnded block step → IsPastDue block step
ended_past None step h = tt
ended_past (Some tree) StepDue h = absurd h
ended_past (Some tree) StepOut h = absurd h
ended_past (Some tree) (Failed e) h = tt
ended_past (Some tree) StepFound h = absurd h
ended_past (Some tree) Taken h = tt
ended_past (Some tree) Refused h = tt

walk_past : (block : Option Tree) (step : ClaimStep) → IsWalkDue block step → IsPastDue block step → ⊥
walk_past None step due past = due
walk_past (Some tree) StepDue due past = past
walk_past (Some tree) StepOut due past = due
walk_past (Some tree) (Failed error) due past = due
walk_past (Some tree) StepFound due past = due
walk_past (Some tree) Taken due past = due
walk_past (Some tree) Refused due past = due

-- its walk is due or no longer
pub walk_due_past : (own : Own) → IsClaimingWith (λ w. IsWalkDue w.block w.step) own → IsClaimWith (λ w. IsPastDue w.block w.step) own → ⊥
walk_due_past Due due past = due
walk_due_past (Write w) due past = due
walk_due_past (Stored b) due past = due
walk_due_past (Read w) due past = due
walk_due_past (Free w) due past = due
walk_due_past (Claim w) due past = walk_past w.block w.step due past
walk_due_past (Found own) due past = due
walk_due_past Over due past = due

pub claiming_ended : (own : Own) → IsClaimWith HasEndedClaim own → claiming_left own ≡ 0
claiming_ended own h = claiming_past own (claim_map HasEndedClaim IsClaimBegun own (λ w e. ended_past w.block w.step e) h)

-- its walk was begun, which may have been due before, and was handed out
pub walk_less : (old mid new : Own) (stage : Stage) → claiming_left mid ≤ claiming_left old → IsClaimingWith (λ w. IsWalkDue w.block w.step) mid
    → IsClaimingWith (λ w. IsPastDue w.block w.step) new → claiming_left new + claim_stages stage + (walk_max 8 + 1) ≤ claiming_left old + claim_stages stage
unfolding walk_share
walk_less old mid new stage less due past = omega (arith, less, claiming_due mid due, claiming_past new (claiming_with (λ w. IsPastDue w.block w.step) new past))

-- from one stage to a later one
pub stage_less : (old new : Own) (was now : Stage) (a b : ℕ) → claiming_left new ≤ claiming_left old → claim_stages was ≡ a → claim_stages now ≡ b → b + 1 ≤ a
    → claiming_left new + claim_stages now + 1 ≤ claiming_left old + claim_stages was
stage_less old new was now a b most x y less = omega (arith, most, x, y, less)

pub told_less : (own : Own) (was stage : Stage) → claim_stages was ≡ told_cost + told_cost → claim_stages stage ≡ told_cost → claiming_left own + claim_stages stage + told_cost ≤ claiming_left own + claim_stages was
told_less own was stage x y = omega (arith, x, y)

-- ---- it came to its end

pub found_stands : (P : OwnClaim → Type 0) (own : Own) → HasFound own → IsClaimWith P own
found_stands P own f = subst (IsClaimWith P) (sym f.1) tt

pub claiming_found : (own : Own) → HasFound own → claiming_left own ≡ 0
claiming_found own f = ap claiming_left f.1

pub ended_less : (old new : Own) (stage : Stage) → HasFound new → claiming_left new + claim_stages stage + 0 ≤ claiming_left old + claim_stages stage
ended_less old new stage f = omega (arith, claiming_found new f)

-- ---- it begins

pub begun_claim : (due gang : Bool) (own : Own) → IsClaimAtStage GangAssemble due own gang → IsDueOrClaim own
begun_claim due gang own (inl h, is) = due_or_claim own h.0
begun_claim due gang own (inr h, is) = any_claim IsAnyClaim own h

pub begins_most : (due gang : Bool) (r now : RequestNode) → IsClaimAtStage GangAssemble due r.own gang → (IsClaimWith IsAnyClaim r.own → now ≡ r) → claiming_left now.own ≤ claiming_left r.own
begins_most due gang r now (inl h, is) still = omega (arith, claiming_most now.own, ap claiming_left h.0)
begins_most due gang r now (inr h, is) still = omega (arith, ap (λ (x : RequestNode). claiming_left x.own) (still h))

pub rest_then : (r mid now : RequestNode) → mid ≡ with_own r mid.own mid.family → now ≡ with_own mid now.own now.family → now ≡ with_own r now.own now.family
rest_then r mid now first then = then ∙ ap (λ (x : RequestNode). with_own x now.own now.family) first

pub ended_pays : (own : Own) (stage : Stage) → stage ≡ Done → told_cost ≤ claiming_left own + claim_stages stage
ended_pays own stage is = omega (arith, ap claim_stages is)

pub taken_most : (old new : Own) → IsClaimWith HasEndedClaim new → claiming_left new ≤ claiming_left old
taken_most old new h = omega (arith, claiming_ended new h)

-- ---- its places are taken

-- it is to begin, of a plain block, or its walk ended
abbrev pub MayTake : Own → (gang : Bool) → Type 0
MayTake own gang = ((own ≡ Due) × (gang ≡ false)) ⊎ IsClaimWith HasClaimWalked own

pub may_take : (due : Bool) (own : Own) (gang points : Bool) → gang ≡ points → IsClaimAtStage DvaClaim due own points → MayTake own gang
may_take due own gang points same (inl h) = inl (h.0, same ∙ h.2)
may_take due own gang points same (inr h) = inr h

pub taken_claim : (own : Own) (gang : Bool) → MayTake own gang → IsDueOrClaim own
taken_claim own gang (inl h) = due_or_claim own h.0
taken_claim own gang (inr h) = any_claim HasClaimWalked own h

any_walked : (own : Own) → IsClaimWith HasClaimWalked own → IsClaimWith IsAnyClaim own
any_walked own h = claim_map HasClaimWalked IsAnyClaim own (λ w k. tt) h

-- once it has begun its walk ended
pub walked_then : (r now : RequestNode) (gang : Bool) → MayTake r.own gang → (IsClaimWith IsAnyClaim r.own → now ≡ r) → (r.own ≡ Due → gang ≡ false → IsClaimWith HasClaimWalked now.own)
    → IsClaimWith HasClaimWalked now.own
walked_then r now gang (inl h) still begins = begins h.0 h.1
walked_then r now gang (inr h) still begins = subst (λ (x : RequestNode). IsClaimWith HasClaimWalked x.own) (sym (still (any_walked r.own h))) h

pub takes_at : (at : RequestAt) (calls : List SpaceCall) → kind_of at.node.waiting.request.work ≡ ClaimKind → (at.stage ≡ DvaClaim) ⊎ (at.stage ≡ GangIssue) → IsClaimAtMost calls
    → CallsFit at.stage (Request at) calls
takes_at at calls kind (inl is) h = subst (λ (s : Stage). CallsFit s (Request at) calls) (sym is) h
takes_at at calls kind (inr is) h =
    subst (λ (s : Stage). CallsFit s (Request at) calls) (sym is) (subst (λ (k : Kind). IssueFits k calls) (sym kind) h)

pub untold_at : (stage : Stage) → (stage ≡ DvaClaim) ⊎ (stage ≡ GangIssue) → is_told stage ≡ false
untold_at stage (inl is) = ap is_told is
untold_at stage (inr is) = ap is_told is

pub behind_at : (stage : Stage) → (stage ≡ DvaClaim) ⊎ (stage ≡ GangIssue) → stage ≡ Start → ⊥
behind_at stage (inl is) e = let no : DvaClaim ≡ Start = sym is ∙ e in cc
behind_at stage (inr is) e = let no : GangIssue ≡ Start = sym is ∙ e in cc

pub taken_less : (old new : Own) (was stage : Stage) → (was ≡ DvaClaim) ⊎ (was ≡ GangIssue) → stage ≡ Ready → claiming_left new ≤ claiming_left old
    → claiming_left new + claim_stages stage + 1 ≤ claiming_left old + claim_stages was
taken_less old new was stage (inl is) to most = omega (arith, most, ap claim_stages is, ap claim_stages to)
taken_less old new was stage (inr is) to most = omega (arith, most, ap claim_stages is, ap claim_stages to)

-- ---- it stands at no other stage

pub claim_known : (stage : Stage) (due : Bool) (own : Own) (gang : Bool) → IsClaimAtStage stage due own gang → (stage ≡ GangAssemble → ⊥) → (stage ≡ GangIssue → ⊥) → (stage ≡ DvaClaim → ⊥)
    → (stage ≡ Ready → ⊥) → (stage ≡ Done → ⊥) → ⊥
claim_known GangAssemble due own gang h c d e f g = c refl
claim_known GangIssue due own gang h c d e f g = d refl
claim_known DvaClaim due own gang h c d e f g = e refl
claim_known Ready due own gang h c d e f g = f refl
claim_known Done due own gang h c d e f g = g refl
claim_known _ due own gang h c d e f g = h
