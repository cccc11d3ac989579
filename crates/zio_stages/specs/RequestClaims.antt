-- A claim in an attempt: which stage it may be in.
use Rattle.std.specs.Prelude.{Option, Some, None}
use Rattle.zio_script.specs.declared.script.Work.{Work}
use Rattle.zio_script.specs.declared.script.Work.TheVariants.{Null as NullWork, Read as ReadWork, Write as WriteWork, Free as FreeWork, Claim as ClaimWork}
use Rattle.zio_gang.specs.declared.tree.Tree.{Tree}
use Rattle.zio_stages.specs.OwnClaims.{HasClaimEnded}
use Rattle.zio_stages.specs.declared.own_claim.ClaimStep.{ClaimStep}
use Rattle.zio_stages.specs.declared.own_claim.ClaimStep.TheVariants.{Due as StepDue, Out as StepOut}
use Rattle.zio_stages.specs.declared.own_claim.OwnClaim.{OwnClaim}
use Rattle.zio_stages.specs.declared.request_node.Own.{Own}
use Rattle.zio_stages.specs.declared.request_node.Own.TheVariants.{Claim, Due, Found, Free, Over, Read, Stored, Write}

abbrev pub IsClaimWork : Work → Type 0
IsClaimWork NullWork = ⊥
IsClaimWork (ReadWork name prio) = ⊥
IsClaimWork (WriteWork name sum copies prio body) = ⊥
IsClaimWork (FreeWork name) = ⊥
IsClaimWork (ClaimWork name pointer) = Unit {0}

-- its block is claimed, and this holds of that; or it came to its end
abbrev pub IsClaimWith : (OwnClaim → Type 0) → Own → Type 0
IsClaimWith P Due = ⊥
IsClaimWith P (Write w) = ⊥
IsClaimWith P (Stored b) = ⊥
IsClaimWith P (Read w) = ⊥
IsClaimWith P (Free w) = ⊥
IsClaimWith P (Claim w) = P w
IsClaimWith P (Found own) = Unit {0}
IsClaimWith P Over = ⊥

-- its block is claimed, and this holds of that
abbrev pub IsClaimingWith : (OwnClaim → Type 0) → Own → Type 0
IsClaimingWith P Due = ⊥
IsClaimingWith P (Write w) = ⊥
IsClaimingWith P (Stored b) = ⊥
IsClaimingWith P (Read w) = ⊥
IsClaimingWith P (Free w) = ⊥
IsClaimingWith P (Claim w) = P w
IsClaimingWith P (Found own) = ⊥
IsClaimingWith P Over = ⊥

-- nothing of it is asked, or its block is claimed, or it came to its end
abbrev pub IsDueOrClaim : Own → Type 0
IsDueOrClaim Due = Unit {0}
IsDueOrClaim (Write w) = ⊥
IsDueOrClaim (Stored b) = ⊥
IsDueOrClaim (Read w) = ⊥
IsDueOrClaim (Free w) = ⊥
IsDueOrClaim (Claim w) = Unit {0}
IsDueOrClaim (Found own) = Unit {0}
IsDueOrClaim Over = ⊥

-- the walk is due
abbrev pub IsWalkDue : Option Tree → ClaimStep → Type 0
IsWalkDue None step = ⊥
IsWalkDue (Some tree) StepDue = Unit {0}
IsWalkDue (Some tree) _ = ⊥

-- the walk ended, or bytes that are no pointer have none
abbrev pub IsPastWalk : Option Tree → ClaimStep → Type 0
IsPastWalk None step = Unit {0}
IsPastWalk (Some tree) StepDue = ⊥
IsPastWalk (Some tree) StepOut = ⊥
IsPastWalk (Some tree) _ = Unit {0}

-- the walk is no longer due
abbrev pub IsPastDue : Option Tree → ClaimStep → Type 0
IsPastDue None step = Unit {0}
IsPastDue (Some tree) StepDue = ⊥
IsPastDue (Some tree) _ = Unit {0}

abbrev pub HasEndedClaim : OwnClaim → Type 0
HasEndedClaim w = HasClaimEnded w.block w.step
