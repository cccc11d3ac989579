-- A write in an attempt: its children stand in front, and its block behind them.
use Rattle.std.proofs.Common.{◌≡◌, List, ◌++◌, length, map, Option, None, refl, sym, ap, ◌∙◌, subst}
use Rattle.std.specs.Prelude.{IsPermutation}
use Rattle.zio_blkptr.specs.declared.pointer.Bp.{Bp}
use Rattle.zio_script.specs.declared.script.Work.{Work}
use Rattle.zio_gang.specs.Attempts.{Pending, Terms}
use Rattle.zio_trace.specs.Plans.{own_stored, plan}
use Rattle.zio_trace.specs.Programs.{Ends}
use Rattle.zio_trace.specs.Tasks.{Attempt, Stored as Left, StoredAs, Task, Value}
use Rattle.zio_trace.specs.Underway.{early}
use Rattle.zio_children.specs.RequestKids.{child_of, pointers_of}
use Rattle.zio_children.specs.declared.kept.KeptChild.{KeptChild}
use Rattle.zio_frames.specs.Answering.{EndsAnswered}
use Rattle.zio_frames.specs.Frames.{Child, Stack}
use Rattle.zio_frames.specs.Moves.{WillHave}
use Rattle.zio_frames.specs.Slots.{AllHeard, Slot, left_behind_slots, told_in}
use Rattle.zio_exchange.specs.Outcomes.{places_in, stored_places}
use Rattle.zio_stages.specs.NodeIos.{NoneSits}
use Rattle.zio_stages.specs.OwnParts.{AllowsOwn, MayBegin}
use Rattle.zio_stages.specs.OwnWrites.{IsBlockAt, IsIdleAt, IsWriteOwn}
use Rattle.zio_stages.specs.StoredBlocks.{IsStoredOwn}
use Rattle.zio_stages.specs.WrittenBlocks.{HaveAllTold, IsBlockOf}
use Rattle.zio_stages.specs.PartOwns.{WrittenPart, part_plan}
use Rattle.zio_stages.specs.PartWorks.{Front, IsFront, IsIoOver, IsPartAt, IsPartOver, IsPartWithin}
use Rattle.zio_stages.specs.RequestNodes.{IsOwnOf, IsRequestNode, front_by, own_got}
pub use Rattle.zio_stages.specs.RequestStages.{with_own}
use Rattle.zio_exchange.specs.Waits.{pending_of}
use Rattle.zio_stages.specs.RequestWrites.{IsWriteWith}
use Rattle.zio_types.specs.declared.place.Top.{Top}
use Rattle.zio_stages.specs.declared.write_io.WriteIo.{WriteIo}
use Rattle.zio_stages.specs.declared.own_write.OwnWrite.{OwnWrite}
use Rattle.zio_stages.specs.declared.stored_block.StoredBlock.{StoredBlock}
use Rattle.zio_stages.specs.declared.family.Layer.TheVariants.{Within}
use Rattle.zio_stages.specs.declared.request_node.Own.{Own}
use Rattle.zio_stages.specs.declared.request_node.Own.TheVariants.{Claim, Due, Found, Free, Over, Read, Stored, Write}
use Rattle.zio_stages.specs.declared.request_node.RequestNode.{RequestNode}
use Rattle.zio_stages.proofs.KidAsking.{kids_full, kids_out}
use Rattle.zio_stages.proofs.OwnAsks.{follows, foretells}
use Rattle.zio_stages.proofs.OwnWriteLemmas.{follows_block, foretells_block}

-- the front of a node
abbrev pub front_in : (t : Terms) (r : RequestNode) (st : Stack) → IsRequestNode t r st → Front
front_in t r st h = front_by r h.forest h.kid_asked h.kid_slots

pub write_in : (t : Terms) (r : RequestNode) (st : Stack) (w : OwnWrite) (h : IsRequestNode t r st) → r.own ≡ Write w
    → IsWriteOwn t w (front_in t r st h) r.attempt (pending_of r.waiting) r.kids.kids h.own_asked h.own_slots st
write_in t r st w h is = subst (λ (o : Own). IsOwnOf t r r.kids.kids (front_in t r st h) o st h.own_asked h.own_slots) is h.own

pub stored_in : (t : Terms) (r : RequestNode) (st : Stack) (b : StoredBlock) (h : IsRequestNode t r st) → r.own ≡ Stored b
    → IsStoredOwn t (own_got b.own) r.attempt (pending_of r.waiting) r.kids.kids h.own_asked h.own_slots st
stored_in t r st b h is = subst (λ (o : Own). IsOwnOf t r r.kids.kids (front_in t r st h) o st h.own_asked h.own_slots) is h.own

-- ---- behind its children

pub allows : (t : Terms) (r : RequestNode) (st : Stack) (pointers : List (Option Bp)) (part : WrittenPart) (h : IsRequestNode t r st)
    → HaveAllTold r.kids.kids → IsBlockOf r.attempt (pending_of r.waiting) pointers part
    → AllowsOwn r.attempt (pending_of r.waiting) r.kids h.forest h.kid_asked h.kid_slots
allows t r st pointers part h told block = record {
  kids = h.kids;
  all = told.all;
  kept = ap (λ (ks : List KeptChild). map child_of ks) (sym h.kept);
  told = subst (λ (w : Work). MayBegin w r.kids.kids) (sym block.work) told.told;
}

-- so many operations for its children stand in front
pub many_in : (t : Terms) (r : RequestNode) (st : Stack) (h : IsRequestNode t r st) → HaveAllTold r.kids.kids
    → length (front_in t r st h).slots ≡ length r.kids.kids.kids
many_in t r st h told = h.kids.all ∙ told.all

pub is_front : (t : Terms) (r : RequestNode) (st : Stack) (w : OwnWrite) (h : IsRequestNode t r st)
    (own : IsWriteOwn t w (front_in t r st h) r.attempt (pending_of r.waiting) r.kids.kids h.own_asked h.own_slots st)
    → IsFront t (front_in t r st h) own.part (length r.kids.kids.kids)
is_front t r st w h own = record {
  whole = refl;
  count = many_in t r st h own.told;
  follows = follows_block t (Attempt r.attempt (pending_of r.waiting) h.forest) h.kid_slots r.attempt (pending_of r.waiting) (pointers_of r.kids.kids) own.part own.block
      (follows t r.attempt (pending_of r.waiting) r.kids h.forest h.kid_asked h.kid_slots (allows t r st (pointers_of r.kids.kids) own.part h own.told own.block));
}

pub part_at : (t : Terms) (r : RequestNode) (st : Stack) (w : OwnWrite) (h : IsRequestNode t r st)
    (own : IsWriteOwn t w (front_in t r st h) r.attempt (pending_of r.waiting) r.kids.kids h.own_asked h.own_slots st)
    → IsPartAt t w.work r.family (front_in t r st h) own.part st
part_at t r st w h own = record { asked = h.own_asked; slots = h.own_slots; op = h.op; work = own.is; children = h.family }

-- so far in its block, it is so far
pub node_at : (t : Terms) (r : RequestNode) (a b : Stack) (v : OwnWrite) (w : OwnWrite) (family : List Child) (h : IsRequestNode t r a)
    (own : IsWriteOwn t v (front_in t r a h) r.attempt (pending_of r.waiting) r.kids.kids h.own_asked h.own_slots a)
    → IsPartAt t w.work family (front_in t r a h) own.part b → IsRequestNode t (with_own r (Write w) family) b
node_at t r a b v w family h own at = record {
  forest = h.forest;
  kid_asked = h.kid_asked;
  kid_slots = h.kid_slots;
  own_asked = at.asked;
  own_slots = at.slots;
  op = at.op;
  asked = at.work.behind.asked_are;
  slots = at.work.behind.slots_are;
  kids = h.kids;
  kept = h.kept;
  own = record { told = own.told; part = own.part; block = own.block; is = at.work };
  family = at.children;
  round = h.round;
  failmode = h.failmode;
}

-- ---- its content is set

pub idle_at : (t : Terms) (r : RequestNode) (st : Stack) (h : IsRequestNode t r st) → r.own ≡ Due → IsIdleAt r.family (front_in t r st h) st
idle_at t r st h due =
    let own = subst (λ (o : Own). IsOwnOf t r r.kids.kids (front_in t r st h) o st h.own_asked h.own_slots) due h.own in
    record {
      op = h.op;
      alone = own.2;
      behind = record {
        asked_are = h.asked ∙ ap (λ (xs : List Task). h.kid_asked ++ xs) own.0;
        slots_are = h.slots ∙ ap (λ (xs : List Slot). h.kid_slots ++ xs) own.1;
        full = kids_full r.kids r.attempt h.forest h.kid_asked h.kid_slots h.kids;
        parts = kids_out r.kids r.attempt h.forest h.kid_asked h.kid_slots h.kids;
      };
      children = h.family;
    }

pub content_set : (t : Terms) (r : RequestNode) (st : Stack) (w : OwnWrite) (h : IsRequestNode t r st) → HaveAllTold r.kids.kids
    → IsBlockAt t w.work r.family (front_in t r st h) r.attempt (pending_of r.waiting) (pointers_of r.kids.kids) st
    → IsRequestNode t (with_own r (Write w) r.family) st
content_set t r st w h told b = record {
  forest = h.forest;
  kid_asked = h.kid_asked;
  kid_slots = h.kid_slots;
  own_asked = b.at.asked;
  own_slots = b.at.slots;
  op = h.op;
  asked = b.at.work.behind.asked_are;
  slots = b.at.work.behind.slots_are;
  kids = h.kids;
  kept = h.kept;
  own = record { told = told; part = b.part; block = b.block; is = b.at.work };
  family = h.family;
  round = h.round;
  failmode = h.failmode;
}

-- ---- the pointer that it tells

pub will_have : (t : Terms) (r : RequestNode) (st : Stack) (w : OwnWrite) (pointer : Option Bp) (h : IsRequestNode t r st)
    (own : IsWriteOwn t w (front_in t r st h) r.attempt (pending_of r.waiting) r.kids.kids h.own_asked h.own_slots st)
    → EndsAnswered (λ (v : Value). early v ≡ pointer) (told_in h.own_slots) (left_behind_slots h.own_slots (part_plan t own.part))
    → WillHave t st.outer pointer
will_have t r st w pointer h own ends =
    let p : Pending = pending_of r.waiting in
    let op : Task = Attempt r.attempt p h.forest in
    let both : EndsAnswered (λ (v : Value). early v ≡ pointer) (told_in (h.kid_slots ++ h.own_slots)) (left_behind_slots (h.kid_slots ++ h.own_slots) (plan t op)) =
    foretells_block t op h.kid_slots r.attempt p (pointers_of r.kids.kids) own.part own.block
    (foretells t r.attempt p r.kids h.forest h.kid_asked h.kid_slots (allows t r st (pointers_of r.kids.kids) own.part h own.told own.block)) h.own_slots pointer ends in
    subst (λ (slots : List Slot). EndsAnswered (λ (v : Value). early v ≡ pointer) (told_in slots) (left_behind_slots slots (plan t st.outer.op))) (sym h.slots)
    (subst (λ (o : Task). EndsAnswered (λ (v : Value). early v ≡ pointer) (told_in (h.kid_slots ++ h.own_slots)) (left_behind_slots (h.kid_slots ++ h.own_slots) (plan t o))) (sym h.op) both)

-- ---- its stages

pub writes_only : (P : OwnWrite → Type 0) (own : Own) → IsWriteWith P own → ((w : OwnWrite) → own ≡ Write w → ⊥) → ⊥
writes_only P Due h not = h
writes_only P (Write w) h not = not w refl
writes_only P (Stored b) h not = h
writes_only P (Read w) h not = h
writes_only P (Free w) h not = h
writes_only P (Claim w) h not = h
writes_only P (Found own) h not = h
writes_only P Over h not = h

-- what it came to takes the place of its block's write
pub stored_at : (t : Terms) (r : RequestNode) (st : Stack) (w : OwnWrite) (b : StoredBlock) (left : Left) (h : IsRequestNode t r st)
    (own : IsWriteOwn t w (front_in t r st h) r.attempt (pending_of r.waiting) r.kids.kids h.own_asked h.own_slots st) → w.work.io ≡ None
    → AllHeard h.own_slots × (left_behind_slots h.own_slots (part_plan t own.part) ≡ Ends (StoredAs left)) → own_got b.own ≡ own_stored left
    → IsPermutation (places_in h.own_asked h.own_slots) (stored_places left) → IsRequestNode t (with_own r (Stored b) r.family) st
stored_at t r st w b left h own none ended came_to places = record {
  forest = h.forest;
  kid_asked = h.kid_asked;
  kid_slots = h.kid_slots;
  own_asked = h.own_asked;
  own_slots = h.own_slots;
  op = h.op;
  asked = h.asked;
  slots = h.slots;
  kids = h.kids;
  kept = h.kept;
  own = record {
    told = own.told;
    alone = (subst (λ (io : Option WriteIo). IsPartWithin t w.work.bytes w.work.own.part (length h.kid_slots) io st.inner) none own.is.within).0;
    part = own.part;
    block = own.block;
    was = w.work.own;
    is = own.is.own;
    heard = ended.0;
    left = left;
    value = ended.1;
    came_to = came_to;
    places = places;
  };
  family = h.family;
  round = h.round;
  failmode = h.failmode;
}

pub stored_over : (tops : List Top) (w : OwnWrite) (family : List Child) → w.work.io ≡ None → IsPartOver tops w.work family → NoneSits Within family
stored_over tops w family none over = subst (λ (io : Option WriteIo). IsIoOver tops w.work.own.part io family) none over.io
