-- Nodes, and what a thread sees of a round, may be seen by several threads at a time.
use contract.Lifetimes.{Lfts}
use denote.Param.Send.{IsSync, recorded_sync, sendable, shr_slice_sync, shr_sync, struct_sync}
use denote.RattleType.{RattleType}
use denote.Struct.Declared.{shape}
use denote.Struct.Field.{shr_ref_field, shr_slice_field}
use denote.Struct.Tuple.{TupleAt, field_at, type_at}
use mathlib.Core.List.{List, [], ◌∷◌}
use mir.Syntax.{Sym, named}
use Rattle.std.proofs.alloc.Global.TheSendSync.{the_sync as alloc_shared}
use Rattle.std.specs.contracts.alloc.Global as Global
use Rattle.zio_turns.proofs.turns.Turns.TheSendSync.{the_sync as turns_shared}
use Rattle.zio_turns.specs.contracts.turns.Turns as Turns
use Rattle.zio_types.proofs.place.Top.TheSendSync.{the_sync as top_shared}
use Rattle.zio_types.specs.contracts.place.Top as Top
use Rattle.std.proofs.Crossing.{crosses}
use Rattle.zio_exchange.proofs.whole.Whole.TheLaws.TheKnot as TheKnot
use Rattle.zio_exchange.specs.contracts.whole.Whole as Whole
use Rattle.zio_nodes.specs.contracts.node_box.NodeBox as NodeBox
use Rattle.zio_stages.specs.contracts.attempted.RequestKids as RequestKids
use Rattle.zio_stages.specs.contracts.request_node.RequestNode as RequestNode
use Rattle.zio_nodes.specs.contracts.tree_at.TreeAt as TreeAt
use Rattle.zio_nodes.specs.contracts.request_at.RequestAt as RequestAt
use Rattle.zio_nodes.specs.contracts.node.Node as Node
use Rattle.slab.proofs.Entry.TheSendSync as EntryShared
use Rattle.slab.proofs.Slab.TheSendSync as SlabShared
use Rattle.std.proofs.alloc.Global.TheSendSync as GlobalShared
use Rattle.std.proofs.boxed.Box.TheSendSync as BoxShared
use Rattle.std.proofs.collections.VecDeque.TheSendSync as VecDequeShared
use Rattle.std.proofs.option.Option.TheSendSync as OptionShared
use Rattle.std.proofs.result.Result.TheSendSync as ResultShared
use Rattle.std.proofs.rt.Memory.TheSendSync as MemoryShared
use Rattle.std.proofs.sync.Arc.TheSendSync as ArcShared
use Rattle.std.proofs.vec.Vec.TheSendSync as VecShared
use Rattle.zio_blkptr.proofs.pointer.Bp.TheSendSync as BpShared
use Rattle.zio_blkptr.proofs.pointer.SumKind.TheSendSync as SumKindShared
use Rattle.zio_children.proofs.kept.KeptChild.TheSendSync as KeptChildShared
use Rattle.zio_children.proofs.kids.Kid.TheSendSync as KidShared
use Rattle.zio_children.proofs.kids.KidState.TheSendSync as KidStateShared
use Rattle.zio_children.proofs.kids.Kids.TheSendSync as KidsShared
use Rattle.zio_counts.proofs.brood.Brood.TheSendSync as BroodShared
use Rattle.zio_counts.proofs.child.Child.TheSendSync as ChildShared
use Rattle.zio_counts.proofs.counts.Counts.TheSendSync as CountsShared
use Rattle.zio_counts.proofs.counts.Stall.TheSendSync as StallShared
use Rattle.zio_counts.proofs.firsts.Firsts.TheSendSync as FirstsShared
use Rattle.zio_exchange.proofs.summed.Summed.TheSendSync as SummedShared
use Rattle.zio_exchange.proofs.summed.Taken.TheSendSync as TakenShared
use Rattle.zio_exchange.proofs.waiting.UnfinishedRequest.TheSendSync as UnfinishedRequestShared
use Rattle.zio_gang.proofs.tree.Head.TheSendSync as HeadShared
use Rattle.zio_gang.proofs.tree.Tree.TheSendSync as TreeShared
use Rattle.zio_graph.below.zio_shared.proofs.shared.Held.TheSendSync as HeldShared
use Rattle.zio_graph.below.zio_shared.proofs.shared.Shared.TheSendSync as SharedShared
use Rattle.zio_masks.proofs.stage.Stage.TheSendSync as StageShared
use Rattle.zio_mirror.proofs.plan.ReadPlan.TheSendSync as ReadPlanShared
use Rattle.zio_nodes.proofs.ahead.Ahead.TheSendSync as AheadShared
use Rattle.zio_nodes.proofs.copies_at.CopiesAt.TheSendSync as CopiesAtShared
use Rattle.zio_nodes.proofs.heads_at.HeadsAt.TheSendSync as HeadsAtShared
use Rattle.zio_nodes.proofs.leaf_at.LeafAt.TheSendSync as LeafAtShared
use Rattle.zio_nodes.proofs.part_at.PartAt.TheSendSync as PartAtShared
use Rattle.zio_parts.proofs.copy_read.CopyRead.TheSendSync as CopyReadShared
use Rattle.zio_parts.proofs.copy_write.CopyWrite.TheSendSync as CopyWriteShared
use Rattle.zio_parts.proofs.head_walk.HeadWalk.TheSendSync as HeadWalkShared
use Rattle.zio_parts.proofs.head_walk.Header.TheSendSync as HeaderShared
use Rattle.zio_parts.proofs.members.Member.TheSendSync as MemberShared
use Rattle.zio_parts.proofs.part_write.PartWrite.TheSendSync as PartWriteShared
use Rattle.zio_parts.proofs.parts.BlockWrite.TheSendSync as BlockWriteShared
use Rattle.zio_parts.proofs.parts.OwnWrite.TheSendSync as OwnWriteShared
use Rattle.zio_parts.proofs.parts.Placing.TheSendSync as PlacingShared
use Rattle.zio_parts.proofs.tree_read.Phase.TheSendSync as PhaseShared
use Rattle.zio_parts.proofs.tree_read.TreeRead.TheSendSync as TreeReadShared
use Rattle.zio_parts.proofs.walked.Body.TheSendSync as BodyShared
use Rattle.zio_parts.proofs.walked.Walked.TheSendSync as WalkedShared
use Rattle.zio_script.proofs.name.Name.TheSendSync as NameShared
use Rattle.zio_script.proofs.script.Body.TheSendSync as zio_script_BodyShared
use Rattle.zio_script.proofs.script.Failmode.TheSendSync as FailmodeShared
use Rattle.zio_script.proofs.script.Request.TheSendSync as RequestShared
use Rattle.zio_script.proofs.script.Work.TheSendSync as WorkShared
use Rattle.zio_stages.proofs.check.Check.TheSendSync as CheckShared
use Rattle.zio_stages.proofs.check.Wanted.TheSendSync as WantedShared
use Rattle.zio_stages.proofs.copies_node.CopiesNode.TheSendSync as CopiesNodeShared
use Rattle.zio_stages.proofs.family.Family.TheSendSync as FamilyShared
use Rattle.zio_stages.proofs.family.Seat.TheSendSync as SeatShared
use Rattle.zio_stages.proofs.family.Sitting.TheSendSync as SittingShared
use Rattle.zio_stages.proofs.heads.HeadsWork.TheSendSync as HeadsWorkShared
use Rattle.zio_stages.proofs.heads_node.HeadsNode.TheSendSync as HeadsNodeShared
use Rattle.zio_stages.proofs.leaf.Act.TheSendSync as ActShared
use Rattle.zio_stages.proofs.leaf.LeafWork.TheSendSync as LeafWorkShared
use Rattle.zio_stages.proofs.leaf.Progress.TheSendSync as ProgressShared
use Rattle.zio_stages.proofs.named.Named.TheSendSync as NamedShared
use Rattle.zio_stages.proofs.origin.Origin.TheSendSync as OriginShared
use Rattle.zio_stages.proofs.own_claim.ClaimStep.TheSendSync as ClaimStepShared
use Rattle.zio_stages.proofs.own_claim.OwnClaim.TheSendSync as OwnClaimShared
use Rattle.zio_stages.proofs.own_free.FreeWalk.TheSendSync as FreeWalkShared
use Rattle.zio_stages.proofs.own_free.OwnFree.TheSendSync as OwnFreeShared
use Rattle.zio_stages.proofs.own_read.BodyIo.TheSendSync as BodyIoShared
use Rattle.zio_stages.proofs.own_read.OwnRead.TheSendSync as OwnReadShared
use Rattle.zio_stages.proofs.own_write.OwnWrite.TheSendSync as zio_stages_OwnWriteShared
use Rattle.zio_stages.proofs.part.PartOwn.TheSendSync as PartOwnShared
use Rattle.zio_stages.proofs.part_node.PartNode.TheSendSync as PartNodeShared
use Rattle.zio_stages.proofs.part_work.PartWork.TheSendSync as PartWorkShared
use Rattle.zio_stages.proofs.read_io.ReadIo.TheSendSync as ReadIoShared
use Rattle.zio_stages.proofs.request_node.Own.TheSendSync as OwnShared
use Rattle.zio_stages.proofs.request_node.OwnFound.TheSendSync as OwnFoundShared
use Rattle.zio_stages.proofs.request_write.Block.TheSendSync as BlockShared
use Rattle.zio_stages.proofs.stored_block.StoredBlock.TheSendSync as StoredBlockShared
use Rattle.zio_stages.proofs.tree.TreeWork.TheSendSync as TreeWorkShared
use Rattle.zio_stages.proofs.write_io.WriteIo.TheSendSync as WriteIoShared
use Rattle.zio_turns.proofs.entry.Parent.TheSendSync as ParentShared
use Rattle.zio_turns.proofs.entry.TiedNode.TheSendSync as TiedNodeShared
use Rattle.zio_turns.proofs.entry.Ties.TheSendSync as TiesShared
use Rattle.zio_turns.proofs.helper.Wanted.TheSendSync as zio_turns_WantedShared
use Rattle.zio_turns.proofs.line.Line.TheSendSync as LineShared
use Rattle.zio_turns.proofs.table.Table.TheSendSync as TableShared
use Rattle.zio_turns.proofs.turns.Turns.TheSendSync as TurnsShared
use Rattle.zio_types.proofs.error.Errno.TheSendSync as ErrnoShared
use Rattle.zio_types.proofs.journal.Path.TheSendSync as PathShared
use Rattle.zio_types.proofs.journal.Role.TheSendSync as RoleShared
use Rattle.zio_types.proofs.list.List.TheSendSync as ListShared
use Rattle.zio_types.proofs.place.Place.TheSendSync as PlaceShared
use Rattle.zio_types.proofs.place.Top.TheSendSync as TopShared
use Rattle.zio_types.proofs.request.Bits.TheSendSync as BitsShared
use Rattle.zio_types.proofs.request.ChildKind.TheSendSync as ChildKindShared
use Rattle.zio_types.proofs.request.Flags.TheSendSync as FlagsShared
use Rattle.zio_types.proofs.request.Phase.TheSendSync as zio_types_PhaseShared
use Rattle.zio_types.proofs.request.Prio.TheSendSync as PrioShared
use Rattle.zio_vqueue.proofs.op.Op.TheSendSync as OpShared
use Rattle.zio_workers.proofs.crew.Crew.TheSendSync as CrewShared

-- of what a node holds
ruleset parts = (
  OptionShared.the_field_sync,
  OptionShared.the_sync,
  ResultShared.the_field_sync,
  ResultShared.the_sync,
  MemoryShared.the_field_sync,
  MemoryShared.the_sync,
  EntryShared.the_field_sync,
  EntryShared.the_sync,
  SlabShared.the_sync,
  ArcShared.the_sync,
  BoxShared.the_sync,
  VecShared.the_sync,
  VecDequeShared.the_sync,
  GlobalShared.the_field_sync,
  GlobalShared.the_sync,
  BpShared.the_field_sync,
  BpShared.the_sync,
  SumKindShared.the_field_sync,
  SumKindShared.the_sync,
  KeptChildShared.the_field_sync,
  KeptChildShared.the_sync,
  KidShared.the_field_sync,
  KidShared.the_sync,
  KidStateShared.the_field_sync,
  KidStateShared.the_sync,
  KidsShared.the_sync,
  BroodShared.the_sync,
  ChildShared.the_field_sync,
  ChildShared.the_sync,
  CountsShared.the_sync,
  StallShared.the_field_sync,
  StallShared.the_sync,
  FirstsShared.the_field_sync,
  FirstsShared.the_sync,
  SummedShared.the_sync,
  TakenShared.the_field_sync,
  TakenShared.the_sync,
  UnfinishedRequestShared.the_field_sync,
  UnfinishedRequestShared.the_sync,
  HeadShared.the_field_sync,
  HeadShared.the_sync,
  TreeShared.the_field_sync,
  TreeShared.the_sync,
  StageShared.the_field_sync,
  StageShared.the_sync,
  ReadPlanShared.the_sync,
  AheadShared.the_field_sync,
  AheadShared.the_sync,
  CopiesAtShared.the_field_sync,
  CopiesAtShared.the_sync,
  HeadsAtShared.the_field_sync,
  HeadsAtShared.the_sync,
  LeafAtShared.the_field_sync,
  LeafAtShared.the_sync,
  PartAtShared.the_field_sync,
  PartAtShared.the_sync,
  CopyReadShared.the_sync,
  CopyWriteShared.the_sync,
  HeadWalkShared.the_sync,
  HeaderShared.the_field_sync,
  HeaderShared.the_sync,
  MemberShared.the_field_sync,
  MemberShared.the_sync,
  PartWriteShared.the_sync,
  BlockWriteShared.the_field_sync,
  BlockWriteShared.the_sync,
  OwnWriteShared.the_field_sync,
  OwnWriteShared.the_sync,
  PlacingShared.the_field_sync,
  PlacingShared.the_sync,
  PhaseShared.the_field_sync,
  PhaseShared.the_sync,
  TreeReadShared.the_sync,
  BodyShared.the_sync,
  WalkedShared.the_sync,
  NameShared.the_sync,
  zio_script_BodyShared.the_field_sync,
  zio_script_BodyShared.the_sync,
  FailmodeShared.the_field_sync,
  FailmodeShared.the_sync,
  RequestShared.the_field_sync,
  RequestShared.the_sync,
  WorkShared.the_field_sync,
  WorkShared.the_sync,
  HeldShared.the_field_sync,
  HeldShared.the_sync,
  SharedShared.the_sync,
  CheckShared.the_sync,
  WantedShared.the_field_sync,
  WantedShared.the_sync,
  CopiesNodeShared.the_field_sync,
  CopiesNodeShared.the_sync,
  FamilyShared.the_sync,
  SeatShared.the_field_sync,
  SeatShared.the_sync,
  SittingShared.the_field_sync,
  SittingShared.the_sync,
  HeadsWorkShared.the_field_sync,
  HeadsWorkShared.the_sync,
  HeadsNodeShared.the_field_sync,
  HeadsNodeShared.the_sync,
  ActShared.the_field_sync,
  ActShared.the_sync,
  LeafWorkShared.the_field_sync,
  LeafWorkShared.the_sync,
  ProgressShared.the_field_sync,
  ProgressShared.the_sync,
  NamedShared.the_field_sync,
  NamedShared.the_sync,
  OriginShared.the_field_sync,
  OriginShared.the_sync,
  ClaimStepShared.the_field_sync,
  ClaimStepShared.the_sync,
  OwnClaimShared.the_field_sync,
  OwnClaimShared.the_sync,
  FreeWalkShared.the_field_sync,
  FreeWalkShared.the_sync,
  OwnFreeShared.the_field_sync,
  OwnFreeShared.the_sync,
  BodyIoShared.the_field_sync,
  BodyIoShared.the_sync,
  OwnReadShared.the_field_sync,
  OwnReadShared.the_sync,
  zio_stages_OwnWriteShared.the_field_sync,
  zio_stages_OwnWriteShared.the_sync,
  PartOwnShared.the_field_sync,
  PartOwnShared.the_sync,
  PartNodeShared.the_field_sync,
  PartNodeShared.the_sync,
  PartWorkShared.the_field_sync,
  PartWorkShared.the_sync,
  ReadIoShared.the_field_sync,
  ReadIoShared.the_sync,
  OwnShared.the_field_sync,
  OwnShared.the_sync,
  OwnFoundShared.the_field_sync,
  OwnFoundShared.the_sync,
  BlockShared.the_field_sync,
  BlockShared.the_sync,
  StoredBlockShared.the_field_sync,
  StoredBlockShared.the_sync,
  TreeWorkShared.the_field_sync,
  TreeWorkShared.the_sync,
  WriteIoShared.the_field_sync,
  WriteIoShared.the_sync,
  ParentShared.the_field_sync,
  ParentShared.the_sync,
  TiedNodeShared.the_field_sync,
  TiedNodeShared.the_sync,
  TiesShared.the_field_sync,
  TiesShared.the_sync,
  zio_turns_WantedShared.the_field_sync,
  zio_turns_WantedShared.the_sync,
  LineShared.the_sync,
  TableShared.the_sync,
  TurnsShared.the_field_sync,
  TurnsShared.the_sync,
  ErrnoShared.the_field_sync,
  ErrnoShared.the_sync,
  PathShared.the_sync,
  RoleShared.the_field_sync,
  RoleShared.the_sync,
  ListShared.the_sync,
  PlaceShared.the_field_sync,
  PlaceShared.the_sync,
  TopShared.the_field_sync,
  TopShared.the_sync,
  BitsShared.the_field_sync,
  BitsShared.the_sync,
  ChildKindShared.the_field_sync,
  ChildKindShared.the_sync,
  FlagsShared.the_field_sync,
  FlagsShared.the_sync,
  zio_types_PhaseShared.the_field_sync,
  zio_types_PhaseShared.the_sync,
  PrioShared.the_field_sync,
  PrioShared.the_sync,
  OpShared.the_field_sync,
  OpShared.the_sync,
  CrewShared.the_field_sync,
  CrewShared.the_sync,
)

whole_shared : IsSync Whole.the_row
whole_shared = search (parts, crosses, TheKnot.crosses, sendable) depth 60 fits 20000

kids_shared : IsSync RequestKids.the_row
kids_shared = search (parts, whole_shared, crosses, sendable) depth 60 fits 20000

request_field : IsSync (RequestNode.the_field).row
request_field = search (parts, kids_shared, crosses, sendable) depth 60 fits 20000

tree_field : IsSync (TreeAt.the_field).row
tree_field = search (parts, whole_shared, crosses, sendable) depth 60 fits 20000

request_at_field : IsSync (RequestAt.the_field).row
request_at_field = search (parts, request_field, crosses, sendable) depth 60 fits 20000

any_shared : IsSync Node.the_row
any_shared = search (parts, request_at_field, tree_field, crosses, sendable) depth 60 fits 20000

pub node_shared : IsSync NodeBox.the_row
node_shared = search (parts, any_shared, crosses, sendable) depth 60 fits 20000

-- what a thread sees of the round: an allocator, the tops and the nodes
abbrev seen : (κs : Lfts 9) → List RattleType
seen κs =
    (shr_ref_field (record { mir = named 6; lft = κs.1.1.1.1.1.1.0 }) Global.the_row tt).row
    ∷ (shr_slice_field (record { mir = named 7; lft = κs.1.1.1.1.1.1.1.0 }) Top.the_row tt).row
    ∷ (shr_ref_field (record { mir = named 8; lft = κs.1.1.1.1.1.1.1.1.0 }) (Turns.the_row NodeBox.the_row) tt).row ∷ []

pub round_shared : (name : Sym) (κs : Lfts 9) → IsSync (TupleAt name (seen κs))
round_shared name κs =
    recorded_sync (field_at name (seen κs)).row _ _ (type_at name (seen κs)).to_one
    (struct_sync (shape (type_at name (seen κs))) (
      shr_sync _ _ Global.the_row alloc_shared,
      (
        shr_slice_sync _ _ Top.the_row top_shared,
        (shr_sync _ _ (Turns.the_row NodeBox.the_row) (turns_shared NodeBox.the_row node_shared), tt),
      ),
    ))
