-- The children of a part that is written: which does a member, and which an operation on a leaf.
use Rattle.std.proofs.Common.{◌≡◌, ℕ, ◌+◌, List, length, slice_get, Bool, true, false, Option, Some, None, ◌⊎◌, inl, inr, refl, sym, ap, subst, ◌∙◌, arith}
use Rattle.std.proofs.lemmas.Bool.{false≢true}
use Rattle.zio_types.specs.declared.error.Errno.{Errno}
use Rattle.zio_types.specs.declared.request.ChildKind.{ChildKind}
use Rattle.zio_blkptr.specs.declared.pointer.Bp.{Bp}
use Rattle.zio_gang.specs.Attempts.{Terms}
use Rattle.zio_trace.specs.Tasks.{Attempt, Find, Leaf, ReadCopies, ReadHeads, ReadTree, Settle, StoredAs, TakePlaces, Task, Value, WriteCopies, WritePart}
use Rattle.zio_frames.specs.Running.{FitsSlot, FitsTold}
use Rattle.zio_parts.specs.declared.parts.StoredPart.{StoredPart}
use Rattle.zio_frames.specs.Frames.{Child, Inner, OfInner, OfOuter, Seat as SeatOf, Stack, kind_of_task, needs_none}
use Rattle.zio_frames.specs.Seats.{HasSeat, IsInnerSeat, ShowsTold, SitsAt, asked_at, asked_in_inner, slot_at}
use Rattle.zio_frames.specs.Slots.{IsOut, Slot}
use Rattle.zio_frames.proofs.GetLemmas.{all_at}
use Rattle.zio_parts.specs.Parts.{PartWriting, slots_of}
use Rattle.zio_parts.specs.declared.parts.OwnWrite.TheVariants.{Out as OwnOut}
use Rattle.zio_exchange.specs.Outcomes.{IsPart, IsReading, stored_as}
use Rattle.zio_stages.specs.LeavesOut.{IsLeafTask}
use Rattle.zio_stages.specs.NodeIos.{IsAwaitedAt}
use Rattle.zio_stages.specs.PartNodes.{HearsEarlyAt, HearsValueAt, IsAnsweredBy, IsStoredBy, no_front}
use Rattle.zio_stages.specs.PartOwns.{IsOutAs, ForBytes, ForMember, ForOther, PartAsk, WrittenPart, ask_of, asks_in}
use Rattle.zio_stages.specs.PartsOut.{IsPartOp}
use Rattle.zio_stages.specs.PartWorks.{Front, IsIdle, IsMemberAt, IsPartAt, IsPartWithin, IsToldAs}
use Rattle.zio_stages.specs.declared.family.Layer.TheVariants.{Within}
use Rattle.zio_stages.specs.declared.part_node.PartNode.{PartNode}
use Rattle.zio_stages.specs.declared.part_work.PartWork.{PartWork}
use Rattle.zio_stages.specs.declared.write_io.WriteIo.{WriteIo}
use Rattle.zio_stages.proofs.OutPlaces.{write_asks}
use Rattle.zio_stages.proofs.PartAsksLemmas.{own_is_out, own_number}
use Rattle.zio_stages.proofs.PartOwed.{IsOwnOut, member_or_bytes, own_out}

-- ---- which child does a member

-- its own write is the part within, so no child does that
not_bytes : (t : Terms) (bytes : List ℕ) (x : PartWriting) (front k n : ℕ) (io : Option WriteIo) (inner : Option Inner) (told : Option (Option Bp)) → IsPartWithin t bytes x front io inner → k ≡ front + n
    → (IsInnerSeat inner (OfOuter k) → ⊥) → slice_get (asks_in x) n ≡ Some ForBytes → slice_get (slots_of x) n ≡ Some (IsOut told) → ⊥
not_bytes t bytes x front k n None inner told h at beside a e =
    let out : x.own ≡ OwnOut = own_is_out x.placing x n told a e in
    subst IsIdle out h.1
not_bytes t bytes x front k n (Some io) inner told h at beside a e =
    let out : x.own ≡ OwnOut = own_is_out x.placing x n told a e in
    let one : n ≡ h.number = own_number x.placing x n out a ∙ sym (own_number x.placing x h.number out h.asks) in
    let place : k ≡ h.inside.number = omega (arith, at, one, h.at) in
    beside (subst (λ (i : Option Inner). IsInnerSeat i (OfOuter k)) (sym h.is) (ap (λ m. OfOuter m) place))

-- the child of a member
pub member_seated : (t : Terms) (w : PartWork) (family : List Child) (f : Front) (o : WrittenPart) (st : Stack) (k n : ℕ) (c : Child) (op : Task) (told : Option (Option Bp)) → (h : IsPartAt t w family f o st)
    → slice_get st.children k ≡ Some c → c.ended ≡ false → SitsAt st c op told → c.seat ≡ OfOuter (length f.slots + n) → IsMemberAt w family (length f.slots) k told
member_seated t w family f o st k n c op told h there goes sits seat =
    let asked : slice_get st.outer.asked (length f.slots + n) ≡ Some op = ap (asked_at st) (sym seat) ∙ sits.asked in
    let slot : slice_get st.outer.slots (length f.slots + n) ≡ Some (IsOut told) = ap (slot_at st) (sym seat) ∙ sits.slot in
    let own = own_out t w family f o st (length f.slots + n) n op told h refl asked slot in
    let beside : IsInnerSeat st.inner (OfOuter (length f.slots + n)) → ⊥ = λ is. sits.beside (subst (IsInnerSeat st.inner) (sym seat) is) in
    record {
      number = n;
      now = c;
      is = ap (λ (cs : List Child). slice_get cs k) h.children ∙ there;
      seat = seat;
      goes = goes;
      member = by own (member_or_bytes op own.part own.known) beside;
      out = own.out;
    }
  where
    by : IsOwnOut w n op told → (ask_of op ≡ ForMember) ⊎ (ask_of op ≡ ForBytes) → (IsInnerSeat st.inner (OfOuter (length f.slots + n)) → ⊥) → slice_get (asks_in w.own.part) n ≡ Some ForMember
    by own (inl is) beside = own.asks ∙ ap (λ (a : PartAsk). Some a) is
    by own (inr is) beside =
        absurd (not_bytes t w.bytes w.own.part (length f.slots) (length f.slots + n) n w.io st.inner told h.work.within refl beside (own.asks ∙ ap (λ (a : PartAsk). Some a) is) own.out)

-- a child whose operation isn't on a leaf does one of the part itself
pub own_seat : (t : Terms) (w : PartWork) (family : List Child) (f : Front) (o : WrittenPart) (st : Stack) (c : Child) (op : Task) (told : Option (Option Bp)) → IsPartAt t w family f o st → SitsAt st c op told
    → (IsLeafTask op → ⊥) → (m : ℕ) × (c.seat ≡ OfOuter m)
own_seat t w family f o st c op told h sits never = by c.seat refl
  where
    leaf : (m : ℕ) (io : Option WriteIo) (inner : Option Inner) → IsPartWithin t w.bytes w.own.part (length f.slots) io inner → asked_in_inner inner m ≡ Some op → IsLeafTask op
    leaf m None inner within asked =
        let none : asked_in_inner inner m ≡ None = ap (λ (i : Option Inner). asked_in_inner i m) within.0 in
        absurd (cc)
    leaf m (Some io) inner within asked =
        let is : slice_get within.inside.frame.asked m ≡ Some op = sym (ap (λ (i : Option Inner). asked_in_inner i m) within.is) ∙ asked in
        all_at IsLeafTask within.inside.frame.asked m op (write_asks t w.bytes io within.inside.frame within.writes).leaves is

    by : (seat : SeatOf) → c.seat ≡ seat → (m : ℕ) × (c.seat ≡ OfOuter m)
    by (OfOuter m) e = (m, e)
    by (OfInner m) e = absurd (never (leaf m w.io st.inner h.work.within (ap (asked_at st) (sym e) ∙ sits.asked)))

pub reading_own : (op : Task) → IsReading op → IsPartOp op → (ask_of op ≡ ForOther → ⊥) → ⊥
reading_own (Leaf act) h is never = is
reading_own (ReadCopies repair test len places) h is never = never refl
reading_own (Find a) h is never = h
reading_own (WriteCopies bytes places) h is never = h
reading_own (WritePart attempt p sum copies levels path bytes) h is never = h
reading_own (ReadHeads look levels path bp) h is never = h
reading_own (ReadTree tree) h is never = h
reading_own (TakePlaces tree) h is never = h
reading_own (Attempt attempt p kids) h is never = h
reading_own (Settle p kids) h is never = h

-- and one that reads, or does an operation on a leaf, one of the part within, where nothing stands in front
pub leaf_seat : (t : Terms) (w : PartWork) (family : List Child) (f : Front) (o : WrittenPart) (st : Stack) (c : Child) (op : Task) (told : Option (Option Bp)) → IsPartAt t w family f o st → length f.slots ≡ 0
    → SitsAt st c op told → IsReading op → (m : ℕ) × (c.seat ≡ OfInner m)
leaf_seat t w family f o st c op told h none sits reads = by c.seat refl
  where
    by : (seat : SeatOf) → c.seat ≡ seat → (m : ℕ) × (c.seat ≡ OfInner m)
    by (OfInner m) e = (m, e)
    by (OfOuter m) e =
        let own = own_out t w family f o st m m op told h (omega (arith, none)) (ap (asked_at st) (sym e) ∙ sits.asked) (ap (slot_at st) (sym e) ∙ sits.slot) in
        absurd (reading_own op reads own.part own.known)

pub part_leaf : (op : Task) → IsPart op → IsLeafTask op → ⊥
part_leaf (Leaf act) h l = h
part_leaf (Find a) h l = h
part_leaf (ReadCopies repair test len places) h l = h
part_leaf (WriteCopies bytes places) h l = h
part_leaf (WritePart attempt p sum copies levels path bytes) h l = l
part_leaf (ReadHeads look levels path bp) h l = h
part_leaf (ReadTree tree) h l = h
part_leaf (TakePlaces tree) h l = h
part_leaf (Attempt attempt p kids) h l = h
part_leaf (Settle p kids) h l = h

leaf_tells : (op : Task) (kind : ChildKind) (told : Bool) (out : Option (Option Bp)) → kind ≡ kind_of_task op → told ≡ false → ShowsTold (needs_none kind) told out → IsLeafTask op → ⊥
leaf_tells (Leaf act) kind told out k never shows l =
    subst (λ (b : Bool). ShowsTold true b out) never (subst (λ (x : ChildKind). ShowsTold (needs_none x) told out) k shows)
leaf_tells (Find a) kind told out k never shows l = l
leaf_tells (ReadCopies repair test len places) kind told out k never shows l = l
leaf_tells (WriteCopies bytes places) kind told out k never shows l = l
leaf_tells (WritePart attempt p sum copies levels path bytes) kind told out k never shows l = l
leaf_tells (ReadHeads look levels path bp) kind told out k never shows l = l
leaf_tells (ReadTree tree) kind told out k never shows l = l
leaf_tells (TakePlaces tree) kind told out k never shows l = l
leaf_tells (Attempt attempt p kids) kind told out k never shows l = l
leaf_tells (Settle p kids) kind told out k never shows l = l

pub own_kind : (op : Task) → IsPart op → (k : ChildKind) → k ≡ kind_of_task op → needs_none k ≡ false
own_kind (WritePart attempt p sum copies levels path bytes) h k e = ap needs_none e
own_kind (Leaf act) h k e = absurd h
own_kind (Find a) h k e = absurd h
own_kind (ReadCopies repair test len places) h k e = absurd h
own_kind (WriteCopies bytes places) h k e = absurd h
own_kind (ReadHeads look levels path bp) h k e = absurd h
own_kind (ReadTree tree) h k e = absurd h
own_kind (TakePlaces tree) h k e = absurd h
own_kind (Attempt attempt p kids) h k e = absurd h
own_kind (Settle p kids) h k e = absurd h

pub not_told : (b : Bool) (told : Bool) (out : Option (Option Bp)) → b ≡ false → told ≡ false → ShowsTold b told out → out ≡ None
not_told true told out e never h = absurd (false≢true (sym e))
not_told false true out e never h = absurd (false≢true (sym never))
not_told false false None e never h = refl
not_told false false (Some p) e never h = absurd h

pub has_told : (b : Bool) (told : Bool) (out : Option (Option Bp)) → b ≡ false → told ≡ true → ShowsTold b told out → out ≡ None → ⊥
has_told true told out e is h none = false≢true (sym e)
has_told false false out e is h none = false≢true is
has_told false true None e is h none = h
has_told false true (Some p) e is h none = cc

zero_front : (m : ℕ) → m ≡ 0 + m
zero_front m = omega arith

-- a child that hasn't told does a member's write
pub member_early : (node : PartNode) (k : ℕ) → HearsEarlyAt node k → IsMemberAt node.work node.family 0 k None
member_early node k h =
    let sits = all_at (HasSeat h.stack) h.stack.children k h.child h.seated.each h.there h.goes in
    let op : Task = sits.0 in
    let at = h.is.at in
    let f : Front = no_front h.is.part in
    let seat = own_seat h.terms node.work node.family f h.is.part h.stack h.child op sits.1 at sits.2 (leaf_tells op h.child.kind h.child.told sits.1 sits.2.kind h.untold sits.2.shows) in
    let there : h.child.seat ≡ OfOuter (length f.slots + seat.0) = seat.1 ∙ ap (λ m. OfOuter m) (zero_front seat.0) in
    let m = member_seated h.terms node.work node.family f h.is.part h.stack k seat.0 h.child op sits.1 at h.there h.goes sits.2 there in
    let none : sits.1 ≡ None = early_none op h.child.kind h.child.told sits.1 sits.2.kind h.untold sits.2.shows in
    subst (λ (told : Option (Option Bp)). IsMemberAt node.work node.family 0 k told) none m
  where
    early_none : (op : Task) (kind : ChildKind) (told : Bool) (out : Option (Option Bp)) → kind ≡ kind_of_task op → told ≡ false → ShowsTold (needs_none kind) told out → out ≡ None
    early_none op kind told out k never shows = by (needs_none kind) refl where
      by : (b : Bool) → needs_none kind ≡ b → out ≡ None
      by true e = absurd (subst (λ (x : Bool). ShowsTold true x out) never (subst (λ (x : Bool). ShowsTold x told out) e shows))
      by false e = not_told (needs_none kind) told out e never shows

pub told_as : (o : Option Slot) (told : Option (Option Bp)) (stored : StoredPart) → o ≡ Some (IsOut told) → FitsSlot o (StoredAs (stored_as stored)) → IsToldAs stored.pointer told
told_as o None stored e fits = tt
told_as o (Some p) stored e fits = sym (subst (λ (s : Option Slot). FitsSlot s (StoredAs (stored_as stored))) e fits)

pub out_as : (pointer : Option Bp) (told : Option (Option Bp)) (o : Option Slot) → o ≡ Some (IsOut told) → IsToldAs pointer told → IsOutAs pointer o
out_as pointer None o e h = subst (IsOutAs pointer) (sym e) tt
out_as pointer (Some p) o e h = subst (IsOutAs pointer) (sym e) h

-- what a member's write that ended has in its slot
pub record HearsMember (w : PartWork) (family : List Child) (front k : ℕ) (stored : StoredPart) : Type 0 where
  pub told : Option (Option Bp)
  pub at : IsMemberAt w family front k told
  pub told_is : IsToldAs stored.pointer told
  pub some : told ≡ None → ⊥

pub member_ended_at : (node : PartNode) (k : ℕ) (stored : StoredPart) → HearsValueAt (IsStoredBy stored) node k → HearsMember node.work node.family 0 k stored
member_ended_at node k stored x =
    let h = x.hears in
    let sits = all_at (HasSeat x.stack) x.stack.children k x.child h.seated.each h.there h.goes in
    let both : Some sits.0 ≡ Some x.op = sym sits.2.asked ∙ h.asked in
    let same : sits.0 ≡ x.op = cc in
    let at = x.is.at in
    let f : Front = no_front x.is.part in
    let part : IsPart sits.0 = subst IsPart (sym same) x.heard.0 in
    let seat = own_seat x.terms node.work node.family f x.is.part x.stack x.child sits.0 sits.1 at sits.2 (part_leaf sits.0 part) in
    let there : x.child.seat ≡ OfOuter (length f.slots + seat.0) = seat.1 ∙ ap (λ m. OfOuter m) (zero_front seat.0) in
    record {
      told = sits.1;
      at = member_seated x.terms node.work node.family f x.is.part x.stack k seat.0 x.child sits.0 sits.1 at h.there h.goes sits.2 there;
      told_is = told_as (slot_at x.stack x.child.seat) sits.1 stored sits.2.slot (subst (λ (v : Value). FitsTold x.stack x.child v) x.heard.1 h.fits_told);
      some = has_told (needs_none x.child.kind) x.child.told sits.1 (own_kind sits.0 part x.child.kind sits.2.kind) h.told sits.2.shows;
    }

-- a child of its own write
pub leaf_awaited : (node : PartNode) (k : ℕ) (error : Option Errno) → HearsValueAt (IsAnsweredBy error) node k → IsAwaitedAt Within node.family k
leaf_awaited node k error x =
    let h = x.hears in
    let sits = all_at (HasSeat x.stack) x.stack.children k x.child h.seated.each h.there h.goes in
    let both : Some sits.0 ≡ Some x.op = sym sits.2.asked ∙ h.asked in
    let same : sits.0 ≡ x.op = cc in
    let at = x.is.at in
    let seat = leaf_seat x.terms node.work node.family (no_front x.is.part) x.is.part x.stack x.child sits.0 sits.1 at refl sits.2 (subst IsReading (sym same) x.heard.0) in
    record { number = seat.0; child = x.child; is = ap (λ (cs : List Child). slice_get cs k) at.children ∙ h.there; seat = seat.1; goes = h.goes }
