-- A request in an attempt as a node at a stage: what holds of it at every stage, and how far its own work is at each.
use Rattle.std.specs.Prelude.{◌≡◌, ◌+◌, ◌<◌, List, [], length, take, Bool, true, false, ◌||◌, ◌&&◌, not, Option, is_none, ◌⊎◌}
use Rattle.std.specs.List.{AllByRecursion, list_all}
use Rattle.zio_types.specs.declared.place.Place.{Place}
use Rattle.zio_types.specs.declared.place.Top.{Top}
use Rattle.zio_types.specs.declared.request.Kind.{Kind}
use Rattle.zio_types.specs.declared.request.Kind.TheVariants.{Null as NullKind, Read as ReadKind, Write as WriteKind, Free as FreeKind, Claim as ClaimKind}
use Rattle.zio_masks.specs.declared.pipeline.TheConstants.{CLAIM, FREE, INTERLOCK, NULL, READ, WRITE}
use Rattle.zio_masks.specs.declared.stage.Stage.{Stage}
use Rattle.zio_masks.specs.declared.stage.Stage.TheVariants.{Start, ReadBpInit, WriteBpInit, FreeBpInit, IssueAsync, WriteCompress, ChecksumGenerate, GangAssemble, GangIssue, DvaAllocate, Ready, VdevIoStart, VdevIoDone, VdevIoAssess, Done}
use Rattle.zio_masks.specs.Stages.{has, is_gang_stage}
use Rattle.zio_script.specs.declared.script.Work.{Work}
use Rattle.zio_script.specs.declared.script.Work.TheVariants.{Null, Read, Write, Free, Claim}
use Rattle.zio_gang.specs.declared.tree.Tree.{Tree}
use Rattle.zio_children.specs.RequestKids.{AreHanded, KidsUnderWay, is_ended}
use Rattle.zio_exchange.specs.Outcomes.{freed_if}
use Rattle.zio_stages.specs.KidLists.{AreMarked}
use Rattle.zio_stages.specs.KidPointers.{HaveValidPointers}
use Rattle.zio_stages.specs.KidTrees.{trees_left}
use Rattle.zio_stages.specs.PartWorks.{HaveUnits}
use Rattle.zio_stages.specs.RequestCounts.{IsMoreDueWrite}
use Rattle.zio_stages.specs.RequestNodes.{IsOwnOver}
use Rattle.zio_stages.specs.RequestOwns.{IsWaitingOver}
use Rattle.zio_stages.specs.RequestStoreds.{IsStoredWith, error_by, given_by, is_well, made_by}
use Rattle.zio_stages.specs.RequestWrites.{IsBegunWrite, IsDueWrite, IsIssuedWrite, IsPlacedWrite, IsReadyWrite, IsWrittenWrite}
use Rattle.zio_stages.specs.StoredBlocks.{IsGoingBack, block_places}
use Rattle.zio_stages.specs.Tops.{AreTops}
use Rattle.zio_stages.specs.declared.request_node.Own.{Own}
use Rattle.zio_stages.specs.declared.request_node.Own.TheVariants.{Claim as ClaimOwn, Due, Found, Free as FreeOwn, Over, Read as ReadOwn, Stored, Write as WriteOwn}
use Rattle.zio_stages.specs.declared.request_node.RequestNode.{RequestNode}
use Rattle.zio_nodes.specs.OwnAts.{ClaimStands, FreeStands, ReadStands}
use Rattle.zio_nodes.specs.TreeAts.{IsSoundOver, IsTreeOver}
use Rattle.zio_nodes.specs.declared.request_at.RequestAt.{RequestAt}

-- ---- at every stage

-- What a request's fields owe to each other and to the tops, whatever its kind.
pub record IsRequestOver (tops : List Top) (r : RequestNode) : Type 0 where
  pub own : IsOwnOver tops r.own r.family
  pub tops_are : AreTops tops
  pub units : HaveUnits tops
  pub few : r.attempt < 4
  pub waiting : IsWaitingOver tops r.waiting
  pub due : AllByRecursion (IsTreeOver tops) r.kids.due
  pub again : AllByRecursion (IsTreeOver tops) (trees_left r.kids.again)
  pub marked : AreMarked r.kids.kids.kids r.kids.again
  pub handed : AreHanded r.kids.kids.handed r.kids.kids.kids
  pub pointers : HaveValidPointers r.kids.kids
  pub kept : r.kids.kids.kept ≡ r.waiting.kept
  pub sound : IsSoundOver (length r.kids.kids.kids + length r.kids.kids.kept) r.waiting

-- ---- its stages

-- its children were all handed out, wherever it stands behind Start
abbrev pub AreOutBehind : Stage → KidsUnderWay → Type 0
AreOutBehind Start x = Unit {0}
AreOutBehind _ x = x.handed ≡ length x.kids

-- a null has no work of its own
abbrev pub NullStands : List Top → Stage → Bool → RequestNode → Type 0
NullStands tops Ready is_due r = r.own ≡ Due
NullStands tops Done is_due r = r.own ≡ Due
NullStands tops _ is_due r = ⊥

-- its block was written and its children ended; where it keeps the block no place of that went back
pub record IsGivingBack (r : RequestNode) : Type 0 where
  pub stored : IsStoredWith IsGoingBack r.own
  pub ended : list_all is_ended r.kids.kids.kids ≡ true
  pub none : is_well r (error_by r.own) ≡ true → given_by r.own ≡ 0

-- How far a write is at each stage, and whether an operation on a leaf may be due. It stands at no other stage.
abbrev pub WriteStands : List Top → Stage → Bool → RequestNode → Type 0
WriteStands tops WriteBpInit is_due r = r.own ≡ Due
WriteStands tops IssueAsync is_due r = r.own ≡ Due
WriteStands tops WriteCompress is_due r = r.own ≡ Due
WriteStands tops ChecksumGenerate is_due r = IsBegunWrite r.own
WriteStands tops DvaAllocate is_due r = IsBegunWrite r.own
WriteStands tops Ready is_due r = IsPlacedWrite r.own
WriteStands tops VdevIoStart is_due r = IsReadyWrite r.own × (is_due ≡ true)
WriteStands tops VdevIoDone is_due r =
    IsReadyWrite r.own × IsIssuedWrite r.own × (is_due ≡ false → IsMoreDueWrite tops r.own → ⊥)
WriteStands tops VdevIoAssess is_due r = IsReadyWrite r.own × IsIssuedWrite r.own × IsDueWrite tops r.own
WriteStands tops Done is_due r = IsWrittenWrite r.own ⊎ IsGivingBack r
WriteStands tops _ is_due r = ⊥

-- behind Start each kind has its own stages
abbrev pub StandsBy : Work → List Top → Stage → Bool → RequestNode → Type 0
StandsBy Null tops stage is_due r = NullStands tops stage is_due r
StandsBy (Read name prio) tops stage is_due r = ReadStands tops stage is_due r
StandsBy (Write name sum copies prio body) tops stage is_due r = WriteStands tops stage is_due r
StandsBy (Free name) tops stage is_due r = FreeStands tops stage is_due r
StandsBy (Claim name pointer) tops stage is_due r = ClaimStands tops stage is_due pointer r

-- at Start nothing of its own work is asked, whatever its kind
abbrev pub StandsAt : Work → List Top → Stage → Bool → RequestNode → Type 0
StandsAt work tops Start is_due r = (r.own ≡ Due) × (is_due ≡ true)
StandsAt work tops stage is_due r = StandsBy work tops stage is_due r

-- How far the request is at a stage: its children, and its own work.
pub record RequestStands (tops : List Top) (stage : Stage) (is_due : Bool) (r : RequestNode) : Type 0 where
  pub out : AreOutBehind stage r.kids.kids
  pub own : StandsAt r.waiting.request.work tops stage is_due r

-- what its fields owe, and how far it is at its stage
pub record IsRequestAtOver (tops : List Top) (at : RequestAt) : Type 0 where
  pub over : IsRequestOver tops at.node
  pub stands : RequestStands tops at.stage at.is_due at.node

-- ---- its pipeline

-- the stages of its mask, with or without the gang stages
abbrev pub masked : Kind → (gang : Bool) → Stage → Bool
masked NullKind gang stage = has NULL stage
masked ReadKind gang stage = has READ stage || (gang && is_gang_stage stage)
masked WriteKind gang stage = has WRITE stage
masked FreeKind gang stage = has FREE stage || (gang && is_gang_stage stage)
masked ClaimKind gang stage = has CLAIM stage || (gang && is_gang_stage stage)

-- GangIssue comes behind it, or it is that
abbrev pub is_up_to_issue : Stage → Bool
is_up_to_issue Start = true
is_up_to_issue ReadBpInit = true
is_up_to_issue WriteBpInit = true
is_up_to_issue FreeBpInit = true
is_up_to_issue IssueAsync = true
is_up_to_issue WriteCompress = true
is_up_to_issue ChecksumGenerate = true
is_up_to_issue GangAssemble = true
is_up_to_issue GangIssue = true
is_up_to_issue stage = false

-- what GangIssue leaves of a gang's pipeline
abbrev pub is_kept : (gang : Bool) → Stage → Bool
is_kept gang stage = has INTERLOCK stage || (is_up_to_issue stage || not gang)

-- which stages a request of this kind takes: a gang those of its mask that GangIssue leaves
abbrev pub takes : Kind → (gang : Bool) → Stage → Bool
takes kind gang stage = masked kind gang stage && is_kept gang stage

-- ---- the places that went back

-- of a free's block: so many while it is under way, all where it came to no error
abbrev pub freed_so_far : Own → Option Tree → List Place
freed_so_far Due block = []
freed_so_far (WriteOwn w) block = []
freed_so_far (Stored b) block = []
freed_so_far (ReadOwn w) block = []
freed_so_far (FreeOwn w) block = take w.given (block_places block)
freed_so_far (ClaimOwn w) block = []
freed_so_far (Found own) block = freed_if (is_none own.error) (block_places block)
freed_so_far Over block = []

-- Those of a write's block, where it loses that, and of the block that a free frees.
abbrev pub gave_by : Work → RequestNode → List Place
gave_by Null r = []
gave_by (Read name prio) r = []
gave_by (Write name sum copies prio body) r = take (given_by r.own) (made_by r.own)
gave_by (Free name) r = freed_so_far r.own r.waiting.block
gave_by (Claim name pointer) r = []
