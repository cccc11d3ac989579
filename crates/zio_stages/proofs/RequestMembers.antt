-- A write in an attempt goes on with its block: which of the node's children are its members, and which do its copies.
use Rattle.std.proofs.Common.{◌≡◌, ℕ, ◌+◌, ◌-◌, ◌≤◌, List, length, slice_get, Bool, true, false, nat_lt, Option, Some, None, refl, sym, ap, subst, ◌∙◌, arith, ltb-true, ltb-false}
use Rattle.std.specs.Prelude.{IfSome}
use Rattle.zio_types.specs.declared.error.Errno.{Errno}
use Rattle.zio_types.specs.declared.place.Top.{Top}
use Rattle.zio_types.specs.declared.request.ChildKind.{ChildKind}
use Rattle.zio_types.specs.declared.request.ChildKind.TheVariants.{Gang, Logical}
use Rattle.zio_blkptr.specs.declared.pointer.Bp.{Bp}
use Rattle.zio_gang.specs.Attempts.{Pending, Terms}
use Rattle.zio_trace.specs.Families.{Forest}
use Rattle.zio_trace.specs.Tasks.{Attempt, Leaf, Task, Value}
use Rattle.zio_frames.specs.Frames.{Child, OfInner, OfOuter, Seat as SeatOf, Stack, kind_of_task, needs_none}
use Rattle.zio_frames.specs.Running.{FitsTold}
use Rattle.zio_frames.specs.Seats.{HasSeat, ShowsTold, SitsAt, asked_at, slot_at}
use Rattle.zio_frames.proofs.GetLemmas.{all_at}
use Rattle.zio_parts.specs.declared.parts.StoredPart.{StoredPart}
use Rattle.zio_exchange.specs.Outcomes.{IsPart, IsReading}
use Rattle.zio_stages.specs.LeavesOut.{IsLeafTask}
use Rattle.zio_stages.specs.NodeIos.{IsAwaitedAt, IsWriteDue}
use Rattle.zio_stages.specs.PartNodes.{IsAnsweredBy, IsStoredBy}
use Rattle.zio_stages.specs.PartWorks.{Front, IsMemberAt, IsNoLessFar}
use Rattle.zio_stages.specs.RequestHearings.{HearsEarlyOf, HearsValueOf}
use Rattle.zio_stages.specs.RequestNodes.{IsRequestNode}
use Rattle.zio_stages.specs.RequestWrites.{KeepsStages}
use Rattle.zio_stages.specs.declared.family.Layer.TheVariants.{Within}
use Rattle.zio_stages.specs.declared.own_write.OwnWrite.{OwnWrite}
use Rattle.zio_stages.specs.declared.request_node.Own.{Own}
use Rattle.zio_stages.specs.declared.request_node.Own.TheVariants.{Write}
use Rattle.zio_stages.specs.declared.request_node.RequestNode.{RequestNode}
use Rattle.zio_stages.specs.declared.write_io.WriteIo.{WriteIo}
use Rattle.zio_stages.proofs.PartOwed.{own_out}
use Rattle.zio_stages.proofs.PartSeats.{HearsMember, has_told, member_seated, not_told, own_kind, own_seat, part_leaf, reading_own, told_as}
use Rattle.zio_stages.proofs.RequestSits.{asked_there}
use Rattle.zio_stages.proofs.RequestWriteLemmas.{front_in, many_in, part_at, write_in}

-- ---- behind the operations for its children

-- what isn't an attempt is one of its own
pub own_place : (t : Terms) (r : RequestNode) (st : Stack) (m : ℕ) (op : Task) (h : IsRequestNode t r st)
    → slice_get st.outer.asked m ≡ Some op
    → ((attempt : ℕ) (p : Pending) (below : Forest) → op ≡ Attempt attempt p below → ⊥) → (n : ℕ) × (m ≡ length h.kid_slots + n)
own_place t r st m op h asked never = by (nat_lt m (length h.kid_slots)) refl where
  by : (b : Bool) → nat_lt m (length h.kid_slots) ≡ b → (n : ℕ) × (m ≡ length h.kid_slots + n)
  by true e =
      let a = asked_there t r st m op h (ltb-true m (length h.kid_slots) e) asked in
      absurd (never r.attempt a.root a.below a.is)
  by false e =
      let l : length h.kid_slots ≤ m = ltb-false m (length h.kid_slots) e in
      (m - length h.kid_slots, omega (arith, l))

pub gang_attempt : (op : Task) → kind_of_task op ≡ Gang → (attempt : ℕ) (p : Pending) (below : Forest)
    → op ≡ Attempt attempt p below → ⊥
gang_attempt op gang attempt p below is =
    let both : Gang ≡ Logical = sym gang ∙ ap kind_of_task is in cc

gang_leaf : (op : Task) → kind_of_task op ≡ Gang → IsLeafTask op → ⊥
gang_leaf (Leaf act) gang leaf = absurd (cc)
gang_leaf _ gang leaf = leaf

reads_attempt : (op : Task) → IsReading op → (attempt : ℕ) (p : Pending) (below : Forest) → op ≡ Attempt attempt p below → ⊥
reads_attempt op reads attempt p below is = subst IsReading is reads

part_attempt : (op : Task) → IsPart op → (attempt : ℕ) (p : Pending) (below : Forest) → op ≡ Attempt attempt p below → ⊥
part_attempt op part attempt p below is = subst IsPart is part

-- ---- its members

own_member : (t : Terms) (r : RequestNode) (st : Stack) (w : OwnWrite) (k : ℕ) (c : Child) (op : Task) (told : Option (Option Bp))
    → IsRequestNode t r st → r.own ≡ Write w
    → slice_get st.children k ≡ Some c → c.ended ≡ false → SitsAt st c op told → (IsLeafTask op → ⊥)
    → ((attempt : ℕ) (p : Pending) (below : Forest) → op ≡ Attempt attempt p below → ⊥)
    → IsMemberAt w.work r.family (length r.kids.kids.kids) k told
own_member t r st w k c op told h is there goes sits leaf attempt =
    let own = write_in t r st w h is in
    let f : Front = front_in t r st h in
    let at = part_at t r st w h own in
    let seat = own_seat t w.work r.family f own.part st c op told at sits leaf in
    let asked : slice_get st.outer.asked seat.0 ≡ Some op = ap (asked_at st) (sym seat.1) ∙ sits.asked in
    let place = own_place t r st seat.0 op h asked attempt in
    let mine : c.seat ≡ OfOuter (length f.slots + place.0) = seat.1 ∙ ap (λ m. OfOuter m) place.1 in
    subst (λ m. IsMemberAt w.work r.family m k told) (many_in t r st h own.told)
    (member_seated t w.work r.family f own.part st k place.0 c op told at there goes sits mine)

gang_untold : (kind : ChildKind) (told : Bool) (out : Option (Option Bp)) → kind ≡ Gang → told ≡ false
    → ShowsTold (needs_none kind) told out → out ≡ None
gang_untold kind told out gang never h = not_told (needs_none kind) told out (ap needs_none gang) never h

-- a gang child that hasn't told does a member's write
pub own_early : (r : RequestNode) (w : OwnWrite) (k : ℕ) → r.own ≡ Write w → HearsEarlyOf Gang r k
    → IsMemberAt w.work r.family (length r.kids.kids.kids) k None
own_early r w k is h =
    let sits = all_at (HasSeat h.stack) h.stack.children k h.child h.seated.each h.there h.goes in
    let op : Task = sits.0 in
    let gang : kind_of_task op ≡ Gang = sym sits.2.kind ∙ h.of_kind in
    let none : sits.1 ≡ None = gang_untold h.child.kind h.child.told sits.1 h.of_kind h.untold sits.2.shows in
    subst (λ told. IsMemberAt w.work r.family (length r.kids.kids.kids) k told) none
    (own_member h.terms r h.stack w k h.child op sits.1 h.is is h.there h.goes sits.2 (gang_leaf op gang) (gang_attempt op gang))

-- what a member's write that ended has in its slot
pub own_ended : (r : RequestNode) (w : OwnWrite) (k : ℕ) (stored : StoredPart) → r.own ≡ Write w
    → HearsValueOf (IsStoredBy stored) r k
    → HearsMember w.work r.family (length r.kids.kids.kids) k stored
own_ended r w k stored is x =
    let h = x.hears in
    let sits = all_at (HasSeat x.stack) x.stack.children k x.child h.seated.each h.there h.goes in
    let both : Some sits.0 ≡ Some x.op = sym sits.2.asked ∙ h.asked in
    let same : sits.0 ≡ x.op = cc in
    let part : IsPart sits.0 = subst IsPart (sym same) x.heard.0 in
    record {
      told = sits.1;
      at = own_member x.terms r x.stack w k x.child sits.0 sits.1 x.is is h.there h.goes sits.2
          (part_leaf sits.0 part) (part_attempt sits.0 part);
      told_is = told_as (slot_at x.stack x.child.seat) sits.1 stored sits.2.slot
          (subst (λ (v : Value). FitsTold x.stack x.child v) x.heard.1 h.fits_told);
      some = has_told (needs_none x.child.kind) x.child.told sits.1
          (own_kind sits.0 part x.child.kind sits.2.kind) h.told sits.2.shows;
    }

-- ---- its own copies

-- a child that does an operation on a leaf is one of the part within
pub own_leaf : (r : RequestNode) (w : OwnWrite) (k : ℕ) (error : Option Errno) → r.own ≡ Write w
    → HearsValueOf (IsAnsweredBy error) r k → IsAwaitedAt Within r.family k
own_leaf r w k error is x =
    let h = x.hears in
    let sits = all_at (HasSeat x.stack) x.stack.children k x.child h.seated.each h.there h.goes in
    let both : Some sits.0 ≡ Some x.op = sym sits.2.asked ∙ h.asked in
    let same : sits.0 ≡ x.op = cc in
    let reads : IsReading sits.0 = subst IsReading (sym same) x.heard.0 in
    let seat = within sits.0 sits.1 sits.2 reads x.child.seat refl in
    record {
      number = seat.0;
      child = x.child;
      is = ap (λ (cs : List Child). slice_get cs k) x.is.family ∙ h.there;
      seat = seat.1;
      goes = h.goes;
    }
  where
    within : (op : Task) (told : Option (Option Bp)) → SitsAt x.stack x.child op told → IsReading op → (seat : SeatOf)
        → x.child.seat ≡ seat → (n : ℕ) × (x.child.seat ≡ OfInner n)
    within op told sits reads (OfInner n) e = (n, e)
    within op told sits reads (OfOuter m) e =
        let own = write_in x.terms r x.stack w x.is is in
        let asked : slice_get x.stack.outer.asked m ≡ Some op = ap (asked_at x.stack) (sym e) ∙ sits.asked in
        let place = own_place x.terms r x.stack m op x.is asked (reads_attempt op reads) in
        let out = own_out x.terms w.work r.family (front_in x.terms r x.stack x.is) own.part x.stack m place.0 op told
        (part_at x.terms r x.stack w x.is own) place.1 asked
        (ap (slot_at x.stack) (sym e) ∙ sits.slot) in
        absurd (reading_own op reads out.part out.known)

-- ---- which stages stay open

pub keeps_write : (a : Own) (w v : OwnWrite) → a ≡ Write w → IsNoLessFar w.work.own.part v.work.own.part
    → (w.work.io ≡ None → v.work.io ≡ None)
    → ((tops : List Top) → IfSome w.work.io (IsWriteDue tops) → IfSome v.work.io (IsWriteDue tops)) → KeepsStages a (Write v)
keeps_write a w v is far none due = subst (λ (o : Own). KeepsStages o (Write v)) (sym is) (record {
  begun = none;
  placed = λ h. (far.placed h.0, none h.1);
  ready = far.ready;
  issued = far.issued;
  due = due;
  written = λ h. (none h.0, far.issued h.1);
})

-- where what is under way within it is the same
pub keeps_same : (a : Own) (w v : OwnWrite) → a ≡ Write w → IsNoLessFar w.work.own.part v.work.own.part
    → v.work.io ≡ w.work.io → KeepsStages a (Write v)
keeps_same a w v is far same =
    keeps_write a w v is far (λ e. same ∙ e) (λ tops h. subst (λ (io : Option WriteIo). IfSome io (IsWriteDue tops)) (sym same) h)
