-- The write of a member as a node: what its stages come to, and its end.
use Rattle.std.proofs.Common.{◌≡◌, ℕ, List, [], ◌∷◌, ◌++◌, append-nil, map, Bool, true, false, nat_le, Option, Some, None, refl, sym, ap, subst, ◌∙◌}
use Rattle.std.specs.List.{flat_map}
use Rattle.std.specs.Prelude.{IsPermutation}
use Rattle.zio_types.specs.declared.place.Place.{Place}
use Rattle.zio_types.specs.declared.request.ChildKind.TheVariants.{Gang as GangKind, Vdev}
use Rattle.zio_types.specs.Places.{sector_size}
use Rattle.zio_masks.specs.declared.stage.Stage.TheVariants.{Done}
use Rattle.zio_blkptr.specs.declared.pointer.Bp.{Bp}
use Rattle.zio_gang.specs.Attempts.{Terms}
use Rattle.zio_trace.specs.Conflicts.{is_single}
use Rattle.zio_trace.specs.Tasks.{Leaf as OnLeaf, StoredAs, Task}
use Rattle.zio_frames.specs.Frames.{Child, Frame, Inner, Stack, asking, asking_in, fresh_stack, kind_of_task, needs_none}
use Rattle.zio_frames.specs.Moves.{IsEnded, WillHave, handed}
use Rattle.zio_parts.specs.Parts.{PartWriting, member_slot, own_slots, refused_slots, slots_at}
use Rattle.zio_parts.specs.declared.members.Member.{Member}
use Rattle.zio_parts.specs.declared.members.Member.TheVariants.{Out as MemberOut, Told, Ended as MemberEnded}
use Rattle.zio_parts.specs.declared.parts.OwnWrite.{OwnWrite}
use Rattle.zio_parts.specs.declared.parts.OwnWrite.TheVariants.{Due, Out as OwnOut, Ended as OwnEnded}
use Rattle.zio_parts.specs.declared.parts.Placing.{Placing}
use Rattle.zio_parts.specs.declared.parts.Placing.TheVariants.{Body, Head as HeadDue, Whole, Gang, Nowhere}
use Rattle.zio_parts.specs.declared.parts.StoredPart.{StoredPart}
use Rattle.zio_exchange.specs.Outcomes.{IsKept, IsPart, held_by, stored_as, stored_in}
use Rattle.zio_exchange.specs.SpaceCalls.{SpaceCall, calls_by}
use Rattle.zio_stages.specs.LeafWorks.{IsLeafWork}
use Rattle.zio_stages.specs.NodeIos.{StartsBy}
use Rattle.zio_stages.specs.OwnParts.{DoesThen, HandsTo}
use Rattle.zio_stages.specs.PartNodes.{IsPartNode}
use Rattle.zio_stages.specs.PartWorks.{IsPartWithin}
use Rattle.zio_stages.specs.declared.closing.Seal.{Seal}
use Rattle.zio_stages.specs.declared.leaf.LeafWork.{LeafWork}
use Rattle.zio_exchange.specs.declared.outcome.Outcome.TheVariants.{Stored}
use Rattle.zio_stages.specs.declared.part_node.PartNode.{PartNode}
use Rattle.zio_stages.specs.declared.write_io.WriteIo.{WriteIo}
use Rattle.zio_staged.specs.Parts.{ended_in, ended_in_slot}
use Rattle.zio_staged.specs.Stages.{Ends, GoesOn, Grows, Tells}
use Rattle.zio_nodes.specs.LeafAts.{IsLeafAt}
use Rattle.zio_nodes.specs.Nodes.{gave_of, nodes}
use Rattle.zio_nodes.specs.Told.{is_told}
use Rattle.zio_nodes.specs.declared.leaf_at.LeafAt.{LeafAt}
use Rattle.zio_nodes.specs.declared.node.Node.{Node}
use Rattle.zio_nodes.specs.declared.node.Node.TheVariants.{Leaf, Part}
use Rattle.zio_nodes.specs.declared.part_at.PartAt.{PartAt}

-- ---- its stages

-- it did some of its part, and goes on
pub part_goes : (t : Terms) (st : Stack) (at after : PartAt) (calls : List SpaceCall) → DoesThen t st calls (IsPartNode t after.node)
    → is_told after.stage ≡ is_told at.stage → GoesOn {N = Node} nodes gave_of t (Part at) st calls (Part after)
part_goes t st at after calls does told = record {
  dids = does.dids;
  gone = [];
  stack = does.stack;
  does = does.does;
  opens = does.opens;
  calls_are = does.calls_are ∙ sym (append-nil (calls_by does.dids));
  is = does.after;
  told = told;
  gave_more = refl;
}

-- a member, of which nothing is done, is handed to a child
pub part_grows : (t : Terms) (st : Stack) (at after child : PartAt) (calls : List SpaceCall) (IsChild : Task → Type 0)
    → DoesThen t st calls (HandsTo t GangKind IsChild (IsPartNode t after.node)) → ((op : Task) → IsChild op → IsPartNode t child.node (fresh_stack op))
    → is_told child.stage ≡ false → is_told after.stage ≡ is_told at.stage → Grows {N = Node} nodes gave_of t (Part at) st calls (Part after) (Part child) GangKind
part_grows t st at after child calls IsChild does fresh untold told =
    let hands = does.after in
    record {
      dids = does.dids;
      stack = does.stack;
      does = does.does;
      opens = does.opens;
      calls_are = does.calls_are;
      op = hands.op;
      part = hands.part;
      asks = hands.asks;
      is = hands.after;
      told = told;
      gave_same = refl;
      child_is = fresh hands.op hands.child_is;
      child_told = λ gang. untold;
      child_gave = refl;
      of_kind = sym hands.of_kind;
    }

-- the part that asks stays the same while it hands something out
pub same_asker : (outer : Frame) (inner : Option Inner) (kids : List Child) (op : Task)
    → (asking (handed (record { outer = outer; inner = inner; children = kids }) op)).op ≡ (asking_in outer inner).op
same_asker outer None kids op = refl
same_asker outer (Some i) kids op = refl

pub within_asks : (t : Terms) (bytes : List ℕ) (x : PartWriting) (front : ℕ) (io : Option WriteIo) (outer : Frame) (inner : Option Inner)
    → is_single outer.op ≡ false → IsPartWithin t bytes x front io inner → is_single (asking_in outer inner).op ≡ false
within_asks t bytes x front None outer inner part h = ap (λ (i : Option Inner). is_single (asking_in outer i).op) h.0 ∙ part
within_asks t bytes x front (Some io) outer inner part h =
    ap (λ (i : Option Inner). is_single (asking_in outer i).op) h.is ∙ ap is_single h.writes.op

-- what asks is the write of the part, or of its copies
pub part_asks : (t : Terms) (node : PartNode) (st : Stack) → IsPartNode t node st → is_single (asking st).op ≡ false
part_asks t node st h = within_asks t node.work.bytes node.work.own.part 0 node.work.io st.outer st.inner (ap is_single h.at.op) h.at.work.within

asked_part : (t : Terms) (node : PartNode) (mid : Stack) (op : Task) → IsPartNode t node (handed mid op) → is_single (asking mid).op ≡ false
asked_part t node mid op h = sym (ap is_single (same_asker mid.outer mid.inner mid.children op)) ∙ part_asks t node (handed mid op) h

-- the write of a copy is handed to a child
pub part_starts : (t : Terms) (st : Stack) (at after : PartAt) (work : LeafWork) (child : LeafAt)
    → DoesThen t st [] (λ mid. StartsBy t mid (Some work) (IsPartNode t after.node))
    → ((act : _) → IsLeafWork t work (record { op = OnLeaf act; asked = []; slots = [] }) → IsLeafAt t child (fresh_stack (OnLeaf act)))
    → is_told after.stage ≡ is_told at.stage → Grows {N = Node} nodes gave_of t (Part at) st [] (Part after) (Leaf child) Vdev
part_starts t st at after work child does fresh told =
    let hands = does.after in
    record {
      dids = does.dids;
      stack = does.stack;
      does = does.does;
      opens = does.opens;
      calls_are = does.calls_are;
      op = OnLeaf hands.act;
      part = asked_part t after.node does.stack (OnLeaf hands.act) hands.after;
      asks = hands.next;
      is = hands.after;
      told = told;
      gave_same = refl;
      child_is = fresh hands.act hands.child_is;
      child_told = λ no. absurd (cc);
      child_gave = refl;
      of_kind = refl;
    }

pub part_tells : (t : Terms) (st : Stack) (at after : PartAt) (pointer : Option Bp) → IsPartNode t at.node st → IsPartNode t after.node st
    → WillHave t st.outer pointer → is_told at.stage ≡ false → is_told after.stage ≡ true
    → Tells {N = Node} nodes gave_of t (Part at) st [] (Part after) pointer
part_tells t st at after pointer was is will before told = record {
  will = will;
  needs = ap (λ (op : Task). needs_none (kind_of_task op)) was.at.op;
  before = before;
  is = is;
  told = told;
  gave_same = refl;
  no_calls = refl;
}

-- ---- its end

own_ended : (own : OwnWrite) → flat_map ended_in_slot (own_slots own) ≡ []
own_ended Due = refl
own_ended OwnOut = refl
own_ended (OwnEnded error) = refl

refused_ended : (b : Bool) → flat_map ended_in_slot (refused_slots b) ≡ []
refused_ended true = refl
refused_ended false = refl

members_ended : (ms : List Member) (own : OwnWrite) → flat_map ended_in_slot (map member_slot ms ++ own_slots own) ≡ []
members_ended [] own = own_ended own
members_ended (MemberOut ∷ ms) own = members_ended ms own
members_ended (Told pointer ∷ ms) own = members_ended ms own
members_ended (MemberEnded error pointer heads ∷ ms) own = members_ended ms own

-- none of its operations is an attempt of a request
pub none_ended : (placing : Placing) (x : PartWriting) → flat_map ended_in_slot (slots_at placing x) ≡ []
none_ended Body x = refl
none_ended HeadDue x = refl
none_ended (Whole places) x = own_ended x.own
none_ended (Gang places) x = members_ended x.members x.own
none_ended Nowhere x = refused_ended (nat_le x.size sector_size)

part_ended : (t : Terms) (node : PartNode) (st : Stack) → IsPartNode t node st → ended_in st ≡ []
part_ended t node st h =
    ap (flat_map ended_in_slot) (h.at.work.behind.slots_are ∙ h.at.work.own.shown) ∙ none_ended node.work.own.part.placing node.work.own.part

pub part_ends : (t : Terms) (at : PartAt) (st : Stack) (stored : StoredPart) → IsPartNode t at.node st → at.stage ≡ Done
    → IsEnded t st (StoredAs (stored_as stored)) → IsKept stored.pointer stored.heads → IsPermutation (held_by st) (stored_in (StoredAs (stored_as stored)))
    → Ends {N = Node} {S = Seal} nodes gave_of t (Part at) st [] (Stored stored)
part_ends t at st stored h done ended kept places = record {
  value = StoredAs (stored_as stored);
  gone = [];
  ended = [];
  ends = ended;
  told = λ no. ap is_told done;
  shows = (subst IsPart (sym h.at.op) tt, refl, kept);
  requests = sym (ap (λ xs. xs ++ []) (part_ended t at.node st h));
  requests_are = refl;
  calls_are = refl;
  places = subst (λ (ps : List Place). IsPermutation ps (stored_in (StoredAs (stored_as stored)))) (sym (append-nil (held_by st))) places;
}
