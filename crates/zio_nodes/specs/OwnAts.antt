-- How far the own work of a read, a free and a claim is at each stage.
use Rattle.std.specs.Prelude.{◌≡◌, ℕ, ◌≤◌, ◌⊎◌, List, length, Bool, true, false, Option}
use Rattle.zio_types.specs.declared.place.Top.{Top}
use Rattle.zio_masks.specs.declared.stage.Stage.{Stage}
use Rattle.zio_masks.specs.declared.stage.Stage.TheVariants.{ReadBpInit, FreeBpInit, IssueAsync, GangAssemble, GangIssue, DvaFree, DvaClaim, Ready, VdevIoStart, VdevIoDone, VdevIoAssess, ChecksumVerify, Done}
use Rattle.zio_gang.specs.declared.tree.Tree.{Tree}
use Rattle.zio_stages.specs.ReadCounts.{HasHandedAll, HasOneBody, HasWalkBegun, IsOneDue}
use Rattle.zio_stages.specs.RequestClaims.{HasEndedClaim, IsClaimWith, IsPastDue, IsPastWalk}
use Rattle.zio_stages.specs.RequestFrees.{HasBegun, HasFreed, HasKeptFailed, HasWalked, IsFreeWith, IsFreeing}
use Rattle.zio_stages.specs.RequestKinds.{is_gang_tree, points_to_gang}
use Rattle.zio_stages.specs.RequestReads.{IsAlone, IsBodyDue, IsReadWith, IsReadingWith}
use Rattle.zio_stages.specs.declared.own_claim.OwnClaim.{OwnClaim}
use Rattle.zio_stages.specs.declared.own_free.OwnFree.{OwnFree}
use Rattle.zio_stages.specs.declared.own_read.OwnRead.{OwnRead}
use Rattle.zio_stages.specs.declared.request_node.Own.{Own}
use Rattle.zio_stages.specs.declared.request_node.Own.TheVariants.{Due}
use Rattle.zio_stages.specs.declared.request_node.RequestNode.{RequestNode}
use Rattle.zio_nodes.specs.ReadBounds.{bodies_max}

-- ---- a read

-- its walk came to no more bodies than a block has
abbrev pub HasFewBodies : OwnRead → Type 0
HasFewBodies w = length w.tree.read.bodies ≤ bodies_max

-- no body is read by the node itself, and its walk is to be made, or is
abbrev pub IsWalking : OwnRead → Type 0
IsWalking w = IsAlone w × HasFewBodies w

-- it is made, or was, and bodies are handed out
abbrev pub IsIssuing : OwnRead → Type 0
IsIssuing w = IsAlone w × HasFewBodies w × HasWalkBegun w

-- all of it was handed out, but for the body of a block that has one
abbrev pub MayReadOne : OwnRead → Type 0
MayReadOne w = HasHandedAll w ⊎ HasOneBody w

-- all of it was, and no body is read by the node itself
abbrev pub HasReadAll : OwnRead → Type 0
HasReadAll w = HasHandedAll w × IsAlone w

-- How far the read of this block is at each stage, and whether an operation on a leaf may be due. It stands at no other stage.
abbrev pub IsReadAtStage : List Top → Stage → Bool → Own → Option Tree → Type 0
IsReadAtStage tops ReadBpInit is_due own block = (own ≡ Due) × (is_due ≡ true)
IsReadAtStage tops GangAssemble is_due own block = (is_gang_tree block ≡ true) × IsReadWith IsWalking own
IsReadAtStage tops GangIssue is_due own block = (is_gang_tree block ≡ true) × IsReadWith IsIssuing own
IsReadAtStage tops Ready is_due own block = IsReadWith MayReadOne own × (is_gang_tree block ≡ true → IsReadWith HasReadAll own)
IsReadAtStage tops VdevIoStart is_due own block = IsReadWith MayReadOne own × (is_due ≡ true) × (is_gang_tree block ≡ false)
IsReadAtStage tops VdevIoDone is_due own block =
    IsReadWith HasHandedAll own × (is_due ≡ false → IsReadingWith (IsOneDue tops) own → ⊥) × (is_gang_tree block ≡ false)
IsReadAtStage tops VdevIoAssess is_due own block =
    IsReadWith HasHandedAll own × IsReadWith (IsBodyDue tops) own × (is_gang_tree block ≡ false)
IsReadAtStage tops ChecksumVerify is_due own block = IsReadWith HasReadAll own
IsReadAtStage tops Done is_due own block = IsReadWith HasReadAll own
IsReadAtStage tops _ is_due own block = ⊥

abbrev pub ReadStands : List Top → Stage → Bool → RequestNode → Type 0
ReadStands tops stage is_due r = IsReadAtStage tops stage is_due r.own r.waiting.block

-- ---- a free

-- none of its block's places went back
abbrev pub HasKeptAll : OwnFree → Type 0
HasKeptAll w = w.given ≡ 0

-- Places of a gang's block go back once its walk ended, where no header failed.
abbrev pub IsGivingFree : Option Tree → OwnFree → Type 0
IsGivingFree block w = HasKeptAll w ⊎ (HasWalked w × IsFreeing block w × HasKeptFailed w)

-- its walk is out, or was
abbrev pub HasFreeBegun : OwnFree → Type 0
HasFreeBegun w = HasBegun w.walk

-- How far the free of this block is at each stage. It stands at no other stage.
abbrev pub IsFreeAtStage : Stage → Bool → Own → Option Tree → Type 0
IsFreeAtStage FreeBpInit is_due own block = (own ≡ Due) × (is_due ≡ true)
IsFreeAtStage IssueAsync is_due own block = IsFreeWith HasKeptAll own × (is_gang_tree block ≡ false → IsFreeWith HasWalked own)
IsFreeAtStage GangAssemble is_due own block = IsFreeWith HasKeptAll own × (is_gang_tree block ≡ true)
IsFreeAtStage GangIssue is_due own block = IsFreeWith (IsGivingFree block) own × IsFreeWith HasFreeBegun own × (is_gang_tree block ≡ true)
IsFreeAtStage DvaFree is_due own block = IsFreeWith (IsFreeing block) own × IsFreeWith HasWalked own × IsFreeWith HasKeptFailed own
IsFreeAtStage Ready is_due own block = IsFreeWith (HasFreed block) own × IsFreeWith HasKeptFailed own
IsFreeAtStage Done is_due own block = IsFreeWith (HasFreed block) own × IsFreeWith HasKeptFailed own
IsFreeAtStage _ is_due own block = ⊥

abbrev pub FreeStands : List Top → Stage → Bool → RequestNode → Type 0
FreeStands tops stage is_due r = IsFreeAtStage stage is_due r.own r.waiting.block

-- ---- a claim

-- it was begun
abbrev pub IsAnyClaim : OwnClaim → Type 0
IsAnyClaim w = Unit {0}

-- its walk is out, or was
abbrev pub IsClaimBegun : OwnClaim → Type 0
IsClaimBegun w = IsPastDue w.block w.step

-- its walk ended
abbrev pub HasClaimWalked : OwnClaim → Type 0
HasClaimWalked w = IsPastWalk w.block w.step

-- How far a claim is at each stage, where its bytes point to a gang and where they don't. It stands at no other stage.
abbrev pub IsClaimAtStage : Stage → Bool → Own → (gang : Bool) → Type 0
IsClaimAtStage GangAssemble is_due own gang = (((own ≡ Due) × (is_due ≡ true)) ⊎ IsClaimWith IsAnyClaim own) × (gang ≡ true)
IsClaimAtStage GangIssue is_due own gang = IsClaimWith IsClaimBegun own × (gang ≡ true)
IsClaimAtStage DvaClaim is_due own gang = ((own ≡ Due) × (is_due ≡ true) × (gang ≡ false)) ⊎ IsClaimWith HasClaimWalked own
IsClaimAtStage Ready is_due own gang = IsClaimWith HasEndedClaim own
IsClaimAtStage Done is_due own gang = IsClaimWith HasEndedClaim own
IsClaimAtStage _ is_due own gang = ⊥

abbrev pub ClaimStands : List Top → Stage → Bool → (pointer : List ℕ) → RequestNode → Type 0
ClaimStands tops stage is_due pointer r = IsClaimAtStage stage is_due r.own (points_to_gang pointer)
