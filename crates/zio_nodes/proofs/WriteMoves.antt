-- A write's moves: operations on leaves for its copies, and its members.
use Rattle.std.proofs.Common.{◌≡◌, ℕ, ◌+◌, ◌-◌, ◌*◌, ◌≤◌, ◌<◌, [], length, true, false, Some, refl, sym, ap, subst, ◌∙◌, arith}
use Rattle.zio_types.specs.declared.request.ChildKind.TheVariants.{Vdev}
use Rattle.zio_types.specs.declared.request.Kind.TheVariants.{Write as WriteKind}
use Rattle.zio_masks.specs.declared.stage.Stage.{Stage}
use Rattle.zio_masks.specs.declared.stage.Stage.TheVariants.{DvaAllocate, VdevIoDone, VdevIoStart}
use Rattle.zio_script.specs.Requests.{kind_of}
use Rattle.zio_gang.specs.Attempts.{Terms}
use Rattle.zio_trace.specs.Conflicts.{is_single}
use Rattle.zio_trace.specs.Leaves.{LeafOp}
use Rattle.zio_trace.specs.Tasks.{Leaf as OnLeaf, Task}
use Rattle.zio_frames.specs.Frames.{Stack, asking, fresh_frame, fresh_stack}
use Rattle.zio_frames.specs.Moves.{handed}
use Rattle.zio_exchange.specs.Wholes.{joined}
use Rattle.zio_stages.specs.LeafWorks.{IsLeafWork}
use Rattle.zio_stages.specs.NodeIos.{StartsBy}
use Rattle.zio_stages.specs.OwnParts.{DoesThen}
use Rattle.zio_stages.specs.RequestCounts.{HasNextMember, asked_of, second_of}
use Rattle.zio_stages.specs.RequestNodes.{IsOwnOf, IsRequestNode, front_by}
use Rattle.zio_stages.specs.RequestStages.{with_own}
use Rattle.zio_stages.specs.RequestWrites.{IsReadyWrite, IsWriteWith}
use Rattle.zio_stages.specs.declared.leaf.LeafWork.{LeafWork}
use Rattle.zio_stages.specs.declared.own_write.OwnWrite.{OwnWrite}
use Rattle.zio_stages.specs.declared.part_node.PartNode.{PartNode}
use Rattle.zio_stages.specs.declared.request_node.Own.{Own}
use Rattle.zio_stages.specs.declared.request_node.Own.TheVariants.{Claim as ClaimOwn, Due, Found, Free as FreeOwn, Over, Read as ReadOwn, Stored, Write as WriteOwn}
use Rattle.zio_stages.specs.declared.request_node.RequestNode.{RequestNode}
use Rattle.zio_staged.specs.Stages.{Grows}
use Rattle.zio_nodes.specs.Bounds.{due_left, leaf_max, part_max, pass_left}
use Rattle.zio_nodes.specs.LeafAts.{IsLeafAt}
use Rattle.zio_nodes.specs.Nodes.{gave_of, nodes}
use Rattle.zio_nodes.specs.RequestBounds.{request_left, request_share}
use Rattle.zio_nodes.specs.Told.{is_told}
use Rattle.zio_nodes.specs.declared.leaf_at.LeafAt.{LeafAt}
use Rattle.zio_nodes.specs.declared.node.Node.{Node}
use Rattle.zio_nodes.specs.declared.node.Node.TheVariants.{Leaf, Request}
use Rattle.zio_nodes.specs.declared.request_at.RequestAt.{RequestAt}
use Rattle.zio_nodes.proofs.PartLemmas.{same_asker, within_asks}
use Rattle.zio_nodes.proofs.WriteLemmas.{left_in, next_grows}

-- ---- who asks

own_asks : (t : Terms) (r : RequestNode) (st : Stack) (h : IsRequestNode t r st) (own : Own) → r.own ≡ own → (P : OwnWrite → Type 0) → IsWriteWith P own
    → is_single (asking st).op ≡ false
own_asks t r st h (WriteOwn w) is P written =
    let own = subst (λ (o : Own). IsOwnOf t r r.kids.kids (front_by r h.forest h.kid_asked h.kid_slots) o st h.own_asked h.own_slots) is h.own in
    within_asks t w.work.bytes w.work.own.part (length h.kid_slots) w.work.io st.outer st.inner (ap is_single h.op) own.is.within
own_asks t r st h Due is P written = absurd written
own_asks t r st h (Stored b) is P written = absurd written
own_asks t r st h (ReadOwn w) is P written = absurd written
own_asks t r st h (FreeOwn w) is P written = absurd written
own_asks t r st h (ClaimOwn w) is P written = absurd written
own_asks t r st h (Found own) is P written = absurd written
own_asks t r st h Over is P written = absurd written

-- what asks is the attempt, or the write of its block's copies
asked_write : (t : Terms) (r : RequestNode) (mid : Stack) (op : Task) (P : OwnWrite → Type 0) → IsWriteWith P r.own → IsRequestNode t r (handed mid op)
    → is_single (asking mid).op ≡ false
asked_write t r mid op P written h =
    sym (ap is_single (same_asker mid.outer mid.inner mid.children op)) ∙ own_asks t r (handed mid op) h r.own refl P written

-- ---- the write of a copy is handed to a child

pub write_starts : (t : Terms) (st : Stack) (at after : RequestAt) (work : LeafWork) (child : LeafAt)
    → DoesThen t st [] (λ mid. StartsBy t mid (Some work) (IsRequestNode t after.node))
    → ((act : LeafOp) → IsLeafWork t work (fresh_frame (OnLeaf act)) → IsLeafAt t child (fresh_stack (OnLeaf act)))
    → IsReadyWrite after.node.own → is_told after.stage ≡ is_told at.stage → gave_of (Request after) ≡ gave_of (Request at)
    → Grows {N = Node} nodes gave_of t (Request at) st [] (Request after) (Leaf child) Vdev
write_starts t st at after work child does fresh ready told gave =
    let hands = does.after in
    record {
      dids = does.dids;
      stack = does.stack;
      does = does.does;
      opens = does.opens;
      calls_are = does.calls_are;
      op = OnLeaf hands.act;
      part = asked_write t after.node does.stack (OnLeaf hands.act) _ ready hands.after;
      asks = hands.next;
      is = hands.after;
      told = told;
      gave_same = gave;
      child_is = fresh hands.act hands.child_is;
      child_told = λ no. absurd (cc);
      child_gave = refl;
      of_kind = refl;
    }

-- ---- how often it runs

-- one operation more is one share less
pub io_grows : (at : RequestAt) (now : RequestNode) (child : ℕ) → kind_of at.node.waiting.request.work ≡ WriteKind → kind_of now.waiting.request.work ≡ WriteKind
    → at.stage ≡ VdevIoStart → at.is_due ≡ true → now ≡ with_own at.node now.own now.family → asked_of now.own ≡ asked_of at.node.own + 1 → asked_of now.own ≤ 24
    → second_of now.own ≡ second_of at.node.own → child ≡ leaf_max
    → request_left (record { node = now; stage = at.stage; is_due = at.is_due }) + child < request_left at
io_grows at now child kind same is due rest asked few second leaf =
    let after : RequestAt = record { node = now; stage = at.stage; is_due = at.is_due } in
    omega (
      arith,
      left_in at VdevIoStart kind is tt,
      left_in after VdevIoStart same is tt,
      ap due_left due,
      ap pass_left second,
      asked,
      few,
      leaf,
      ap (λ (r : RequestNode). length (joined r.kids.due) * request_share) rest,
    )

pub io_stays : (at : RequestAt) (now : RequestNode) (next : Stage) → kind_of at.node.waiting.request.work ≡ WriteKind → kind_of now.waiting.request.work ≡ WriteKind
    → at.stage ≡ VdevIoStart → next ≡ VdevIoDone → at.is_due ≡ true → now ≡ with_own at.node now.own now.family → asked_of now.own ≡ asked_of at.node.own
    → second_of now.own ≡ second_of at.node.own → request_left (record { node = now; stage = next; is_due = false }) < request_left at
io_stays at now next kind same is to due rest asked second =
    let after : RequestAt = record { node = now; stage = next; is_due = false } in
    omega (
      arith,
      left_in at VdevIoStart kind is tt,
      left_in after VdevIoDone same to tt,
      ap due_left due,
      ap pass_left second,
      asked,
      ap (λ (r : RequestNode). length (joined r.kids.due) * request_share) rest,
    )

-- so is one member more
pub member_grows : (at : RequestAt) (now : RequestNode) (left : ℕ) (child : PartNode) → kind_of at.node.waiting.request.work ≡ WriteKind
    → kind_of now.waiting.request.work ≡ WriteKind → at.stage ≡ DvaAllocate → now ≡ with_own at.node now.own now.family → HasNextMember child at.node.own now.own
    → left ≡ part_max (8 - length child.work.own.part.path)
    → request_left (record { node = now; stage = at.stage; is_due = at.is_due }) + left < request_left at
member_grows at now left child kind same is rest next most =
    let after : RequestAt = record { node = now; stage = at.stage; is_due = at.is_due } in
    omega (
      arith,
      left_in at DvaAllocate kind is tt,
      left_in after DvaAllocate same is tt,
      next_grows child at.node.own now.own next,
      most,
      ap (λ (r : RequestNode). length (joined r.kids.due) * request_share) rest,
    )
