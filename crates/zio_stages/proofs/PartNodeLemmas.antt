-- A gang's member that is written, as a node: the write of its part with nothing in front.
use Rattle.std.proofs.Common.{◌≡◌, List, ◌++◌, Option, Some, None, Result, Ok, Err, refl, sym, ap, subst, ◌∙◌}
use Rattle.std.specs.Prelude.{OnErr}
use Rattle.zio_types.specs.declared.request.ChildKind.{ChildKind}
use Rattle.zio_blkptr.specs.declared.pointer.Bp.{Bp}
use Rattle.zio_gang.specs.Attempts.{Terms}
use Rattle.zio_trace.specs.Plans.{plan}
use Rattle.zio_trace.specs.Programs.{Ends}
use Rattle.zio_trace.specs.Tasks.{Task, Value}
use Rattle.zio_trace.specs.Underway.{early}
use Rattle.zio_frames.specs.Answering.{EndsAnswered}
use Rattle.zio_frames.specs.Frames.{Stack}
use Rattle.zio_frames.specs.Moves.{IsEnded, WillHave}
use Rattle.zio_frames.specs.Slots.{AllHeard, Slot, left_behind_slots, told_in}
use Rattle.zio_exchange.specs.Outcomes.{held_by, places_in}
use Rattle.zio_exchange.specs.SpaceCalls.{SpaceCall}
use Rattle.zio_stages.specs.NodeIos.{StartsBy}
use Rattle.zio_stages.specs.OwnParts.{DoesThen, HandsTo}
use Rattle.zio_stages.specs.PartNodes.{IsPartNode, no_front}
use Rattle.zio_stages.specs.PartOwns.{WrittenPart, part_plan, part_task}
use Rattle.zio_stages.specs.PartWorks.{IsFront}
use Rattle.zio_stages.specs.declared.leaf.LeafWork.{LeafWork}
use Rattle.zio_stages.specs.declared.part_node.PartNode.{PartNode}
use Rattle.zio_stages.proofs.PartMoves.{does_map, does_then, none_within}

pub own_front : (t : Terms) (o : WrittenPart) → IsFront t (no_front o) o 0
own_front t o = record { whole = refl; count = refl; follows = λ slots op h. h }

-- ---- as the part goes on

pub hands_map : (t : Terms) (kind : ChildKind) (C : Task → Type 0) (P Q : Stack → Type 0) (st : Stack) → ((next : Stack) → P next → Q next) → HandsTo t kind C P st → HandsTo t kind C Q st
hands_map t kind C P Q st f h = record { op = h.op; part = h.part; asks = h.asks; of_kind = h.of_kind; child_is = h.child_is; after = f _ h.after }

pub starts_map : (t : Terms) (st : Stack) (leaf : Option LeafWork) (P Q : Stack → Type 0) → ((next : Stack) → P next → Q next) → StartsBy t st leaf P → StartsBy t st leaf Q
starts_map t st None P Q f h = f st h
starts_map t st (Some child) P Q f h = record { act = h.act; next = h.next; child_is = h.child_is; after = f _ h.after }

-- two asks, and then this
pub asks_twice : (t : Terms) (st : Stack) (first second : List SpaceCall) (A B P : Stack → Type 0) → DoesThen t st first A → ((mid : Stack) → A mid → DoesThen t mid second B) → ((mid : Stack) → B mid → P mid)
    → DoesThen t st (first ++ second) P
asks_twice t st first second A B P h more last = does_then t st first second P (does_map t st first A (λ mid. DoesThen t mid second P) (λ mid a. does_map t mid second B P last (more mid a)) h)

-- ---- its end

pub tells_node : (t : Terms) (node : PartNode) (st : Stack) (pointer : Option Bp) → (h : IsPartNode t node st)
    → EndsAnswered (λ (v : Value). early v ≡ pointer) (told_in h.at.slots) (left_behind_slots h.at.slots (part_plan t h.part)) → WillHave t st.outer pointer
tells_node t node st pointer h ends =
    let slots : st.outer.slots ≡ h.at.slots = h.at.work.behind.slots_are in
    let there : EndsAnswered (λ (v : Value). early v ≡ pointer) (told_in st.outer.slots) (left_behind_slots st.outer.slots (plan t (part_task h.part))) =
    subst (λ (xs : List Slot). EndsAnswered (λ (v : Value). early v ≡ pointer) (told_in xs) (left_behind_slots xs (plan t (part_task h.part)))) (sym slots) ends in
    subst (λ (q : Task). EndsAnswered (λ (v : Value). early v ≡ pointer) (told_in st.outer.slots) (left_behind_slots st.outer.slots (plan t q))) (sym h.at.op) there

pub ends_node : (t : Terms) (node : PartNode) (st : Stack) (v : Value) → node.work.io ≡ None → (h : IsPartNode t node st) → AllHeard h.at.slots × (left_behind_slots h.at.slots (part_plan t h.part) ≡ Ends v) → IsEnded t st v
ends_node t node st v none h ends =
    let slots : st.outer.slots ≡ h.at.slots = h.at.work.behind.slots_are in
    record {
      alone = (none_within t node.work.bytes node.work.own.part 0 node.work.io st.inner none h.at.work.within).0;
      heard = ap told_in slots ∙ ends.0;
      value = ap (λ (q : Task). left_behind_slots st.outer.slots (plan t q)) h.at.op ∙ ap (λ (xs : List Slot). left_behind_slots xs (plan t (part_task h.part))) slots ∙ ends.1;
    }

-- what it came to is what its part came to
pub holds_node : (t : Terms) (node : PartNode) (st : Stack) (h : IsPartNode t node st) → held_by st ≡ places_in h.at.asked h.at.slots
holds_node t node st h =
    ap (λ (qs : List Task). places_in qs st.outer.slots) h.at.work.behind.asked_are ∙ ap (places_in h.at.asked) h.at.work.behind.slots_are

-- ---- where there was no memory

pub err_always : {A E : Type 0} (r : Result A E) (P : Type 0) → P → OnErr r P
err_always (Ok x) P h = tt
err_always (Err e) P h = h
