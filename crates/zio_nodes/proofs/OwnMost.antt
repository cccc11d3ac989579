-- A read, a free and a claim run no more often than their maxima say, at whichever stage.
use Rattle.std.proofs.Common.{◌+◌, ◌*◌, ◌≤◌, Bool, true, false, Option, Some, None, arith}
use Rattle.zio_masks.specs.declared.stage.Stage.{Stage}
use Rattle.zio_masks.specs.declared.stage.Stage.TheVariants.{ReadBpInit, FreeBpInit, IssueAsync, GangAssemble, GangIssue, DvaFree, DvaClaim, Ready, VdevIoStart, VdevIoDone, VdevIoAssess, ChecksumVerify, Done}
use Rattle.zio_gang.specs.declared.tree.Tree.{Tree}
use Rattle.zio_staged.specs.Stages.{told_cost}
use Rattle.zio_parts.specs.declared.tree_read.Phase.{Phase}
use Rattle.zio_parts.specs.declared.tree_read.Phase.TheVariants.{Unread, Out as WalkOut, Failed as WalkFailed, Found as BodiesFound}
use Rattle.zio_stages.specs.declared.own_claim.ClaimStep.{ClaimStep}
use Rattle.zio_stages.specs.declared.own_claim.ClaimStep.TheVariants.{Due as StepDue}
use Rattle.zio_stages.specs.declared.own_free.FreeWalk.{FreeWalk}
use Rattle.zio_stages.specs.declared.own_free.FreeWalk.TheVariants.{Due as FreeDue}
use Rattle.zio_stages.specs.declared.own_read.BodyIo.{BodyIo}
use Rattle.zio_stages.specs.declared.request_node.Own.{Own}
use Rattle.zio_stages.specs.declared.request_node.Own.TheVariants.{Claim, Due, Found, Free, Over, Read, Stored, Write}
use Rattle.zio_nodes.specs.Bounds.{due_left, pass_left}
use Rattle.zio_nodes.specs.OwnBounds.{body_left, body_max, body_share, claim_left, claim_max, claim_stages, claim_walk_left, claiming_left, free_left, free_max, free_stages, free_walk_left, freeing_left, read_left, read_max, read_stages, reading_left, walk_left, walk_share}
use Rattle.zio_nodes.specs.ReadBounds.{bodies_max}
use Rattle.zio_nodes.specs.declared.request_at.RequestAt.{RequestAt}

pass_most : (second : Bool) → pass_left second ≤ 3
pass_most true = omega arith
pass_most false = omega arith

due_most : (due : Bool) → due_left due ≤ 2
due_most true = omega arith
due_most false = omega arith

-- ---- a read

pub walk_most : (phase : Phase) → walk_left phase ≤ walk_share
walk_most Unread = omega arith
walk_most WalkOut = omega arith
walk_most (WalkFailed e) = omega arith
walk_most BodiesFound = omega arith

pub body_most : (b : Option BodyIo) → body_left b ≤ body_max
body_most None = omega arith
body_most (Some b) = omega (arith, pass_most b.io.read.retry)

reading_most : (own : Own) → reading_left own ≤ walk_share + body_share * bodies_max + body_max
reading_most Due = omega arith
reading_most (Read w) = omega (arith, walk_most w.tree.read.phase, body_most w.body)
reading_most (Write w) = omega arith
reading_most (Stored b) = omega arith
reading_most (Free w) = omega arith
reading_most (Claim w) = omega arith
reading_most (Found own) = omega arith
reading_most Over = omega arith

read_stages_most : (stage : Stage) (due : Bool) → read_stages stage due ≤ told_cost + told_cost + 7
read_stages_most ReadBpInit due = omega arith
read_stages_most GangAssemble due = omega arith
read_stages_most GangIssue due = omega arith
read_stages_most Ready due = omega arith
read_stages_most VdevIoStart due = omega (arith, due_most due)
read_stages_most VdevIoDone due = omega (arith, due_most due)
read_stages_most VdevIoAssess due = omega arith
read_stages_most ChecksumVerify due = omega arith
read_stages_most Done due = omega arith
read_stages_most _ due = omega arith

pub read_most : (at : RequestAt) → read_left at ≤ read_max
unfolding read_max
read_most at = omega (arith, reading_most at.node.own, read_stages_most at.stage at.is_due)

-- ---- a free

free_walk_most : (walk : FreeWalk) → free_walk_left walk ≤ walk_share
free_walk_most FreeDue = omega arith
free_walk_most _ = omega arith

freeing_most : (own : Own) → freeing_left own ≤ walk_share
freeing_most Due = omega arith
freeing_most (Free w) = free_walk_most w.walk
freeing_most (Read w) = omega arith
freeing_most (Write w) = omega arith
freeing_most (Stored b) = omega arith
freeing_most (Claim w) = omega arith
freeing_most (Found own) = omega arith
freeing_most Over = omega arith

free_stages_most : (stage : Stage) → free_stages stage ≤ told_cost + told_cost + 5
free_stages_most FreeBpInit = omega arith
free_stages_most IssueAsync = omega arith
free_stages_most GangAssemble = omega arith
free_stages_most GangIssue = omega arith
free_stages_most DvaFree = omega arith
free_stages_most Ready = omega arith
free_stages_most Done = omega arith
free_stages_most _ = omega arith

pub free_most : (at : RequestAt) → free_left at ≤ free_max
unfolding free_max
free_most at = omega (arith, freeing_most at.node.own, free_stages_most at.stage)

-- ---- a claim

claim_walk_most : (block : Option Tree) (step : ClaimStep) → claim_walk_left block step ≤ walk_share
claim_walk_most None step = omega arith
claim_walk_most (Some tree) StepDue = omega arith
claim_walk_most (Some tree) _ = omega arith

claiming_most : (own : Own) → claiming_left own ≤ walk_share
claiming_most Due = omega arith
claiming_most (Claim w) = claim_walk_most w.block w.step
claiming_most (Free w) = omega arith
claiming_most (Read w) = omega arith
claiming_most (Write w) = omega arith
claiming_most (Stored b) = omega arith
claiming_most (Found own) = omega arith
claiming_most Over = omega arith

claim_stages_most : (stage : Stage) → claim_stages stage ≤ told_cost + told_cost + 3
claim_stages_most GangAssemble = omega arith
claim_stages_most GangIssue = omega arith
claim_stages_most DvaClaim = omega arith
claim_stages_most Ready = omega arith
claim_stages_most Done = omega arith
claim_stages_most _ = omega arith

pub claim_most : (at : RequestAt) → claim_left at ≤ claim_max
unfolding claim_max
claim_most at = omega (arith, claiming_most at.node.own, claim_stages_most at.stage)
