-- A write whose block was written: its places go back, and it closes.
use Rattle.std.proofs.Common.{◌≡◌, List, refl, sym, ap, ◌∙◌, subst}
use Rattle.zio_gang.specs.Attempts.{Terms}
use Rattle.zio_trace.specs.Programs.{Ends}
use Rattle.zio_trace.specs.Tasks.{Task}
use Rattle.zio_children.specs.RequestKids.{KidsUnderWay, pointers_of}
use Rattle.zio_frames.specs.Frames.{Stack}
use Rattle.zio_frames.specs.Slots.{Slot}
use Rattle.zio_exchange.specs.Waits.{pending_of}
use Rattle.zio_stages.specs.PartWorks.{Front}
use Rattle.zio_stages.specs.RequestNodes.{IsOwnOf, IsRequestNode, OwnEnds, front_by, own_got}
use Rattle.zio_stages.specs.RequestStoreds.{IsStoredWith}
use Rattle.zio_stages.specs.StoredBlocks.{IsStoredOwn}
use Rattle.zio_stages.specs.declared.request_node.Own.{Own}
use Rattle.zio_stages.specs.declared.request_node.Own.TheVariants.{Claim, Due, Found, Free, Over, Read, Stored, Write}
use Rattle.zio_stages.specs.declared.request_node.RequestNode.{RequestNode}
use Rattle.zio_stages.specs.declared.stored_block.StoredBlock.{StoredBlock}
use Rattle.zio_stages.proofs.OwnWriteLemmas.{own_is_stored}

-- with this as its own work
abbrev pub with_own : RequestNode → Own → RequestNode
with_own r own = record {
  waiting = r.waiting;
  kids = r.kids;
  own = own;
  family = r.family;
  round = r.round;
  attempt = r.attempt;
  failmode = r.failmode;
}

pub stored_only : (P : StoredBlock → Type 0) (own : Own) → IsStoredWith P own → ((b : StoredBlock) → own ≡ Stored b → ⊥) → ⊥
stored_only P Due h not = h
stored_only P (Write w) h not = h
stored_only P (Stored b) h not = not b refl
stored_only P (Read w) h not = h
stored_only P (Free w) h not = h
stored_only P (Claim w) h not = h
stored_only P (Found own) h not = h
stored_only P Over h not = h

pub stored_in : (t : Terms) (r : RequestNode) (st : Stack) (b : StoredBlock) (h : IsRequestNode t r st) → r.own ≡ Stored b
    → IsStoredOwn t (own_got b.own) r.attempt (pending_of r.waiting) r.kids.kids h.own_asked h.own_slots st
stored_in t r st b h is = subst (λ (o : Own). IsOwnOf t r r.kids.kids (front_by r h.forest h.kid_asked h.kid_slots) o st h.own_asked h.own_slots) is h.own

pub own_with : (t : Terms) (r : RequestNode) (x : KidsUnderWay) (f : Front) (own o : Own) (st : Stack) (asked : List Task) (slots : List Slot)
    → IsOwnOf t r x f o st asked slots → IsOwnOf t (with_own r own) x f o st asked slots
own_with t r x f own Due st asked slots h = h
own_with t r x f own (Write w) st asked slots h = h
own_with t r x f own (Stored b) st asked slots h = h
own_with t r x f own (Read w) st asked slots h = h
own_with t r x f own (Free w) st asked slots h = h
own_with t r x f own (Claim w) st asked slots h = h
own_with t r x f own (Found v) st asked slots h = h
own_with t r x f own Over st asked slots h = h

-- it is so far with this in place of its own work
abbrev pub with_own_at : (t : Terms) (r : RequestNode) (st : Stack) (own : Own) (h : IsRequestNode t r st)
    → IsOwnOf t r r.kids.kids (front_by r h.forest h.kid_asked h.kid_slots) own st h.own_asked h.own_slots → IsRequestNode t (with_own r own) st
with_own_at t r st own h is = record {
  forest = h.forest;
  kid_asked = h.kid_asked;
  kid_slots = h.kid_slots;
  own_asked = h.own_asked;
  own_slots = h.own_slots;
  op = h.op;
  asked = h.asked;
  slots = h.slots;
  kids = h.kids;
  kept = h.kept;
  own = own_with t r r.kids.kids (front_by r h.forest h.kid_asked h.kid_slots) own own st h.own_asked h.own_slots is;
  family = h.family;
  round = h.round;
  failmode = h.failmode;
}

-- some more of its block's places went back
pub stored_still : (t : Terms) (r : RequestNode) (st : Stack) (b now : StoredBlock) → r.own ≡ Stored b → now.own ≡ b.own → IsRequestNode t r st
    → IsRequestNode t (with_own r (Stored now)) st
stored_still t r st b now is same h =
    let own = stored_in t r st b h is in
    with_own_at t r st (Stored now) h (record {
      told = own.told;
      alone = own.alone;
      part = own.part;
      block = own.block;
      was = own.was;
      is = own.is;
      heard = own.heard;
      left = own.left;
      value = own.value;
      came_to = ap own_got same ∙ own.came_to;
      places = own.places;
    })

-- ---- it closes

-- its own work comes to that in the attempt
pub stored_ends : (t : Terms) (r : RequestNode) (st : Stack) (b : StoredBlock) (h : IsRequestNode t r st) → r.own ≡ Stored b
    → OwnEnds t r st (own_got b.own) h
stored_ends t r st b h is =
    let own = stored_in t r st b h is in
    record {
      alone = own.alone;
      heard = own.heard;
      value = own_is_stored t r.attempt (pending_of r.waiting) (pointers_of r.kids.kids) own.part h.own_slots own.left own.block own.value
          ∙ ap Ends (sym own.came_to);
    }
