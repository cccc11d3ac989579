-- How often a request that is a read, a free or a claim runs at most behind Start, from where it stands.
use Rattle.std.specs.Prelude.{ℕ, ◌+◌, ◌-◌, ◌*◌, length, Bool, false, Option, Some, None}
use Rattle.zio_masks.specs.declared.stage.Stage.{Stage}
use Rattle.zio_masks.specs.declared.stage.Stage.TheVariants.{ReadBpInit, FreeBpInit, IssueAsync, GangAssemble, GangIssue, DvaFree, DvaClaim, Ready, VdevIoStart, VdevIoDone, VdevIoAssess, ChecksumVerify, Done}
use Rattle.zio_gang.specs.declared.tree.Tree.{Tree}
use Rattle.zio_gang.specs.Trees.{header_levels_max}
use Rattle.zio_parts.specs.declared.tree_read.Phase.{Phase}
use Rattle.zio_parts.specs.declared.tree_read.Phase.TheVariants.{Unread, Out as WalkOut, Failed as WalkFailed, Found as BodiesFound}
use Rattle.zio_stages.specs.declared.own_claim.ClaimStep.{ClaimStep}
use Rattle.zio_stages.specs.declared.own_claim.ClaimStep.TheVariants.{Due as StepDue}
use Rattle.zio_stages.specs.declared.own_free.FreeWalk.{FreeWalk}
use Rattle.zio_stages.specs.declared.own_free.FreeWalk.TheVariants.{Due as FreeDue}
use Rattle.zio_stages.specs.declared.own_read.BodyIo.{BodyIo}
use Rattle.zio_stages.specs.declared.request_node.Own.{Own}
use Rattle.zio_stages.specs.declared.request_node.Own.TheVariants.{Claim, Due, Found, Free, Over, Read, Stored, Write}
use Rattle.zio_staged.specs.Stages.{told_cost}
use Rattle.zio_nodes.specs.Bounds.{copies_max, due_left, leaf_share, pass_left, read_asks_max, walk_max}
use Rattle.zio_nodes.specs.ReadBounds.{bodies_max}
use Rattle.zio_nodes.specs.declared.request_at.RequestAt.{RequestAt}

-- the walk over the headers of a whole block, and that stage itself
unfoldable pub walk_share : ℕ
walk_share = walk_max header_levels_max + 1

-- ---- a read

-- the read of a body, by a child or by the node itself, and that stage itself
abbrev pub body_share : ℕ
body_share = copies_max + 1

-- the body that the node reads itself
abbrev pub body_max : ℕ
body_max = leaf_share * read_asks_max + pass_left false

abbrev pub body_left : Option BodyIo → ℕ
body_left None = 0
body_left (Some b) = leaf_share * (read_asks_max - b.io.asked) + pass_left b.io.read.retry

-- its walk
abbrev pub walk_left : Phase → ℕ
walk_left Unread = walk_share
walk_left WalkOut = 0
walk_left (WalkFailed e) = 0
walk_left BodiesFound = 0

-- what is left of its block's read
abbrev pub reading_left : Own → ℕ
reading_left Due = walk_share + body_share * bodies_max
reading_left (Read w) = walk_left w.tree.read.phase + body_share * (bodies_max - length w.tree.read.results) + body_left w.body
reading_left (Write w) = 0
reading_left (Stored b) = 0
reading_left (Free w) = 0
reading_left (Claim w) = 0
reading_left (Found own) = 0
reading_left Over = 0

-- its stages, beside those to which it goes back
abbrev pub read_stages : Stage → Bool → ℕ
read_stages ReadBpInit is_due = told_cost + told_cost + 7
read_stages GangAssemble is_due = told_cost + told_cost + 6
read_stages GangIssue is_due = told_cost + told_cost + 5
read_stages Ready is_due = told_cost + told_cost + 4
read_stages VdevIoStart is_due = told_cost + 2 + due_left is_due
read_stages VdevIoDone is_due = told_cost + 3 + due_left is_due
read_stages VdevIoAssess is_due = told_cost + 2
read_stages ChecksumVerify is_due = told_cost + 1
read_stages Done is_due = told_cost
read_stages _ is_due = 0

abbrev pub read_left : RequestAt → ℕ
read_left at = reading_left at.node.own + read_stages at.stage at.is_due

-- ---- a free

-- its walk
abbrev pub free_walk_left : FreeWalk → ℕ
free_walk_left FreeDue = walk_share
free_walk_left _ = 0

abbrev pub freeing_left : Own → ℕ
freeing_left Due = walk_share
freeing_left (Free w) = free_walk_left w.walk
freeing_left (Read w) = 0
freeing_left (Write w) = 0
freeing_left (Stored b) = 0
freeing_left (Claim w) = 0
freeing_left (Found own) = 0
freeing_left Over = 0

abbrev pub free_stages : Stage → ℕ
free_stages FreeBpInit = told_cost + told_cost + 5
free_stages IssueAsync = told_cost + told_cost + 4
free_stages GangAssemble = told_cost + told_cost + 3
free_stages GangIssue = told_cost + told_cost + 2
free_stages DvaFree = told_cost + told_cost + 1
free_stages Ready = told_cost + told_cost
free_stages Done = told_cost
free_stages _ = 0

abbrev pub free_left : RequestAt → ℕ
free_left at = freeing_left at.node.own + free_stages at.stage

-- ---- a claim

-- its walk
abbrev pub claim_walk_left : Option Tree → ClaimStep → ℕ
claim_walk_left None step = 0
claim_walk_left (Some tree) StepDue = walk_share
claim_walk_left (Some tree) _ = 0

abbrev pub claiming_left : Own → ℕ
claiming_left Due = walk_share
claiming_left (Claim w) = claim_walk_left w.block w.step
claiming_left (Free w) = 0
claiming_left (Read w) = 0
claiming_left (Write w) = 0
claiming_left (Stored b) = 0
claiming_left (Found own) = 0
claiming_left Over = 0

abbrev pub claim_stages : Stage → ℕ
claim_stages GangAssemble = told_cost + told_cost + 3
claim_stages GangIssue = told_cost + told_cost + 2
claim_stages DvaClaim = told_cost + told_cost + 1
claim_stages Ready = told_cost + told_cost
claim_stages Done = told_cost
claim_stages _ = 0

abbrev pub claim_left : RequestAt → ℕ
claim_left at = claiming_left at.node.own + claim_stages at.stage

-- ---- whatever its stage

unfoldable pub read_max : ℕ
read_max = walk_share + body_share * bodies_max + body_max + told_cost + told_cost + 7

unfoldable pub free_max : ℕ
free_max = walk_share + told_cost + told_cost + 5

unfoldable pub claim_max : ℕ
claim_max = walk_share + told_cost + told_cost + 3
