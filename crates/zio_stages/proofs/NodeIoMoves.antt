-- A node whose part that asks is a read or a write of copies: what each call leaves of it.
use Rattle.std.proofs.Common.{◌≡◌, ℕ, zero, suc, ◌<◌, List, [], ◌∷◌, ◌++◌, length, slice_get, slice_set, Bool, true, false, ◌&&◌, ◌||◌, not, cond, Option, Some, None, ◌⊎◌, inl, inr, refl, sym, ap, subst, ◌∙◌, arith}
use Rattle.std.specs.List.{list_any}
use Rattle.zio_types.specs.declared.request.ChildKind.{ChildKind}
use Rattle.zio_types.specs.declared.request.ChildKind.TheVariants.{Vdev, Gang, Logical}
use Rattle.zio_types.specs.declared.request.Phase.TheVariants.{Done}
use Rattle.zio_types.specs.Machine.{same_kind}
use Rattle.zio_blkptr.specs.declared.pointer.Bp.{Bp}
use Rattle.zio_gang.specs.Attempts.{Terms}
use Rattle.zio_trace.specs.Leaves.{Answer}
use Rattle.zio_trace.specs.Tasks.{Attempt, Find, Got, Leaf, ReadCopies, ReadHeads, ReadTree, Settle, TakePlaces, Task, Value, WriteCopies, WritePart}
use Rattle.zio_frames.specs.Frames.{Child, Frame, Inner, Seat as SeatOf, Stack, asking, asking_in, kind_of_task, with_asked, with_slot}
use Rattle.zio_frames.specs.Moves.{child_ended, handed, heard_of, seat_in, set_at}
use Rattle.zio_frames.specs.Seats.{IsInnerSeat, IsSatAt, IsSeated, HasSeat, asked_at, slot_at}
use Rattle.zio_frames.specs.Slots.{Heard, IsOut, Slot, told_in}
use Rattle.zio_frames.proofs.GetLemmas.{all_at}
use Rattle.zio_stages.specs.LeavesOut.{HasAskedLeaves, IsLeafTask, IsWriteIn}
use Rattle.zio_stages.specs.NodeChildren.{first_owing, is_owing, kind_or, layer_seat, new_child}
use Rattle.zio_stages.specs.NodeIos.{HandsLeaf, IsAsking, IsReadAt, IsWriteAt}
use Rattle.zio_stages.specs.ReadIos.{AsksOfRead, IsAskedWhen, IsReadIo}
use Rattle.zio_stages.specs.WriteIos.{AsksOfWrite, IsWriteIo}
use Rattle.zio_stages.specs.declared.family.Layer.{Layer}
use Rattle.zio_stages.specs.declared.family.Layer.TheVariants.{Own, Within}
use Rattle.zio_stages.specs.declared.leaf.LeafWork.{LeafWork}
use Rattle.zio_stages.specs.declared.read_io.ReadIo.{ReadIo}
use Rattle.zio_stages.specs.declared.write_io.WriteIo.{WriteIo}
use Rattle.zio_stages.proofs.OutPlaces.{read_asks, write_asks}

-- ---- the part that asks

next_of : (layer : Layer) (outer : Frame) (inner : Option Inner) (n : ℕ) → IsAsking layer inner → n ≡ length (asking_in outer inner).slots → layer_seat layer n ≡ seat_in outer inner
next_of Own outer None n h e = ap (layer_seat Own) e
next_of Own outer (Some i) n h e = absurd h
next_of Within outer None n h e = absurd h
next_of Within outer (Some i) n h e = ap (layer_seat Within) e

-- it still asks once one more is handed out, and that is out of it
handed_asks : (layer : Layer) (outer : Frame) (inner : Option Inner) (children : List Child) (op : Task) → IsAsking layer inner
    → IsAsking layer (handed (record { outer = outer; inner = inner; children = children }) op).inner
handed_asks Own outer None children op h = tt
handed_asks Own outer (Some i) children op h = absurd h
handed_asks Within outer None children op h = absurd h
handed_asks Within outer (Some i) children op h = tt

handed_frame : (outer : Frame) (inner : Option Inner) (children : List Child) (op : Task)
    → asking (handed (record { outer = outer; inner = inner; children = children }) op) ≡ with_asked (asking_in outer inner) op (IsOut None)
handed_frame outer None children op = refl
handed_frame outer (Some i) children op = refl

-- it still asks once one of its operations ended, and that is heard in it
heard_asks : (layer : Layer) (outer : Frame) (inner : Option Inner) (children : List Child) (n : ℕ) (slot : Slot) → IsAsking layer inner
    → IsAsking layer (set_at (record { outer = outer; inner = inner; children = children }) (layer_seat layer n) slot).inner
heard_asks Own outer None children n slot h = tt
heard_asks Own outer (Some i) children n slot h = absurd h
heard_asks Within outer None children n slot h = absurd h
heard_asks Within outer (Some i) children n slot h = tt

heard_frame : (layer : Layer) (outer : Frame) (inner : Option Inner) (children : List Child) (n : ℕ) (slot : Slot) → IsAsking layer inner
    → asking (set_at (record { outer = outer; inner = inner; children = children }) (layer_seat layer n) slot) ≡ with_slot (asking_in outer inner) n slot
heard_frame Own outer None children n slot h = refl
heard_frame Own outer (Some i) children n slot h = absurd h
heard_frame Within outer None children n slot h = absurd h
heard_frame Within outer (Some i) children n slot h = refl

-- ---- one more is handed out

pub read_starts : (t : Terms) (layer : Layer) (w v : ReadIo) (family more : List Child) (leaf : LeafWork) (st : Stack) → IsReadAt t layer w family st
    → more ≡ family ++ new_child (layer_seat layer w.asked) Vdev ∷ [] → AsksOfRead t (asking st) leaf w
    → ((op : Task) → IsAskedWhen w.read.good w.read.retry op → IsReadIo t v (with_asked (asking st) op (IsOut None)))
    → HandsLeaf t st leaf (IsReadAt t layer v more)
read_starts t layer w v family more leaf st h e asks after =
    let op : Task = Leaf asks.act in
    let seat : layer_seat layer w.asked ≡ seat_in st.outer st.inner = next_of layer st.outer st.inner w.asked h.asks h.part.counted in
    record {
      act = asks.act;
      next = asks.next;
      child_is = asks.child_is;
      after = record {
        children = e ∙ ap (λ cs. cs ++ new_child (layer_seat layer w.asked) Vdev ∷ []) h.children ∙ ap (λ s. st.children ++ new_child s Vdev ∷ []) seat;
        asks = handed_asks layer st.outer st.inner st.children op h.asks;
        part = subst (IsReadIo t v) (sym (handed_frame st.outer st.inner st.children op)) (after op asks.is_now);
      };
    }

pub write_starts : (t : Terms) (bytes : List ℕ) (layer : Layer) (w v : WriteIo) (family more : List Child) (leaf : LeafWork) (st : Stack) → IsWriteAt t bytes layer w family st
    → more ≡ family ++ new_child (layer_seat layer w.asked) Vdev ∷ [] → AsksOfWrite t bytes (asking st) leaf w
    → ((op : Task) → IsWriteIn w.write.retry op → IsWriteIo t bytes v (with_asked (asking st) op (IsOut None)))
    → HandsLeaf t st leaf (IsWriteAt t bytes layer v more)
write_starts t bytes layer w v family more leaf st h e asks after =
    let op : Task = Leaf asks.act in
    let seat : layer_seat layer w.asked ≡ seat_in st.outer st.inner = next_of layer st.outer st.inner w.asked h.asks h.part.counted in
    record {
      act = asks.act;
      next = asks.next;
      child_is = asks.child_is;
      after = record {
        children = e ∙ ap (λ cs. cs ++ new_child (layer_seat layer w.asked) Vdev ∷ []) h.children ∙ ap (λ s. st.children ++ new_child s Vdev ∷ []) seat;
        asks = handed_asks layer st.outer st.inner st.children op h.asks;
        part = subst (IsWriteIo t bytes v) (sym (handed_frame st.outer st.inner st.children op)) (after op asks.is_now);
      };
    }

-- ---- one is heard

heard_with : (layer : Layer) (st : Stack) (k n : ℕ) (c : Child) (v : Value) → IsAsking layer st.inner → c.seat ≡ layer_seat layer n
    → IsAsking layer (heard_of st k c v).inner × (asking (heard_of st k c v) ≡ with_slot (asking st) n (Heard v))
heard_with layer st k n c v h seat = (
  subst (λ (s : SeatOf). IsAsking layer (set_at st s (Heard v)).inner) (sym seat) (heard_asks layer st.outer st.inner st.children n (Heard v) h),
  ap (λ (s : SeatOf). asking (set_at st s (Heard v))) seat ∙ heard_frame layer st.outer st.inner st.children n (Heard v) h,
)

pub read_hears_of : (t : Terms) (layer : Layer) (w v : ReadIo) (family more : List Child) (st : Stack) (k n : ℕ) (c : Child) (a : Answer) → IsReadAt t layer w family st → c.seat ≡ layer_seat layer n
    → more ≡ slice_set family k (child_ended c) → IsReadIo t v (with_slot (asking st) n (Heard (Got a))) → IsReadAt t layer v more (heard_of st k c (Got a))
read_hears_of t layer w v family more st k n c a h seat e after =
    let is = heard_with layer st k n c (Got a) h.asks seat in
    record {
      children = e ∙ ap (λ cs. slice_set cs k (child_ended c)) h.children;
      asks = is.0;
      part = subst (IsReadIo t v) (sym is.1) after;
    }

pub write_hears_of : (t : Terms) (bytes : List ℕ) (layer : Layer) (w v : WriteIo) (family more : List Child) (st : Stack) (k n : ℕ) (c : Child) (a : Answer) → IsWriteAt t bytes layer w family st
    → c.seat ≡ layer_seat layer n → more ≡ slice_set family k (child_ended c) → IsWriteIo t bytes v (with_slot (asking st) n (Heard (Got a)))
    → IsWriteAt t bytes layer v more (heard_of st k c (Got a))
write_hears_of t bytes layer w v family more st k n c a h seat e after =
    let is = heard_with layer st k n c (Got a) h.asks seat in
    record {
      children = e ∙ ap (λ cs. slice_set cs k (child_ended c)) h.children;
      asks = is.0;
      part = subst (IsWriteIo t bytes v) (sym is.1) after;
    }

-- ---- a child is missing

pub some_out : (slots : List Slot) → 0 < length (told_in slots) → (n : ℕ) × (told : Option (Option Bp)) × (slice_get slots n ≡ Some (IsOut told))
some_out [] h = absurd (omega arith)
some_out (IsOut told ∷ slots) h = (0, told, refl)
some_out (Heard v ∷ slots) h =
    let r : (n : ℕ) × (told : Option (Option Bp)) × (slice_get slots n ≡ Some (IsOut told)) = some_out slots h in
    (suc r.0, r.1, r.2)

slot_there : (layer : Layer) (outer : Frame) (inner : Option Inner) (children : List Child) (n : ℕ) → IsAsking layer inner
    → slot_at (record { outer = outer; inner = inner; children = children }) (layer_seat layer n) ≡ slice_get (asking_in outer inner).slots n
slot_there Own outer None children n h = refl
slot_there Own outer (Some i) children n h = absurd h
slot_there Within outer None children n h = absurd h
slot_there Within outer (Some i) children n h = refl

asked_there : (layer : Layer) (outer : Frame) (inner : Option Inner) (children : List Child) (n : ℕ) → IsAsking layer inner
    → asked_at (record { outer = outer; inner = inner; children = children }) (layer_seat layer n) ≡ slice_get (asking_in outer inner).asked n
asked_there Own outer None children n h = refl
asked_there Own outer (Some i) children n h = absurd h
asked_there Within outer None children n h = absurd h
asked_there Within outer (Some i) children n h = refl

not_inner : (layer : Layer) (inner : Option Inner) (n : ℕ) → IsAsking layer inner → IsInnerSeat inner (layer_seat layer n) → ⊥
not_inner Own None n h is = absurd is
not_inner Own (Some i) n h is = absurd h
not_inner Within None n h is = absurd h
not_inner Within (Some i) n h is = cc

leaf_kind : (op : Task) → IsLeafTask op → kind_of_task op ≡ Vdev
leaf_kind (Leaf act) h = refl
leaf_kind (Find a) h = absurd h
leaf_kind (ReadCopies repair test len places) h = absurd h
leaf_kind (WriteCopies others places) h = absurd h
leaf_kind (WritePart attempt p sum copies levels path others) h = absurd h
leaf_kind (ReadHeads look levels path bp) h = absurd h
leaf_kind (ReadTree tree) h = absurd h
leaf_kind (TakePlaces tree) h = absurd h
leaf_kind (Attempt attempt p kids) h = absurd h
leaf_kind (Settle p kids) h = absurd h

either_true : (b : Bool) → b || true ≡ true
either_true true = refl
either_true false = refl

pub any_at : {X : Type 0} (p : X → Bool) (xs : List X) (k : ℕ) (x : X) → slice_get xs k ≡ Some x → p x ≡ true → list_any p xs ≡ true
any_at p [] k x e h = absurd (cc)
any_at p (y ∷ xs) zero x e h =
    let is : y ≡ x = cc in
    ap (λ b. b || list_any p xs) (ap p is ∙ h)
any_at p (y ∷ xs) (suc k) x e h = ap (λ b. p y || b) (any_at p xs k x e h) ∙ either_true (p y)

owes_end : (kind : ChildKind) (ended : Bool) → kind ≡ Vdev → ended ≡ false → same_kind kind Vdev && not ended ≡ true
owes_end kind ended e f = ap (λ (k : ChildKind). same_kind k Vdev && not ended) e ∙ ap (λ b. not b) f

pub owed : (layer : Layer) (st : Stack) → IsSeated st → IsAsking layer st.inner → HasAskedLeaves (asking st) → 0 < length (told_in (asking st).slots)
    → first_owing (Vdev ∷ []) Done st.children ≡ Some Vdev
owed layer st seated h leaves some = by_place (seated.all seat told (slot_there layer st.outer st.inner st.children n h ∙ out.2))
  where
    out : (n : ℕ) × (told : Option (Option Bp)) × (slice_get (asking st).slots n ≡ Some (IsOut told))
    out = some_out (asking st).slots some

    n : ℕ
    n = out.0

    told : Option (Option Bp)
    told = out.1

    seat : SeatOf
    seat = layer_seat layer n

    sat : IsSatAt st seat → first_owing (Vdev ∷ []) Done st.children ≡ Some Vdev
    sat s =
        let sits = all_at (HasSeat st) st.children s.number s.child seated.each s.is s.goes in
        let op : Task = sits.0 in
        let asked : slice_get (asking st).asked n ≡ Some op =
        sym (asked_there layer st.outer st.inner st.children n h) ∙ ap (asked_at st) (sym s.there) ∙ sits.2.asked in
        let kind : s.child.kind ≡ Vdev = sits.2.kind ∙ leaf_kind op (all_at IsLeafTask (asking st).asked n op leaves.leaves asked) in
        let any : list_any (is_owing Vdev Done) st.children ≡ true =
        any_at (is_owing Vdev Done) st.children s.number s.child s.is (owes_end s.child.kind s.child.ended kind s.goes) in
        ap (λ b. cond b (Some Vdev) (kind_or Gang (Vdev ∷ []) Done st.children (kind_or Logical (Vdev ∷ []) Done st.children None))) any

    by_place : IsInnerSeat st.inner seat ⊎ IsSatAt st seat → first_owing (Vdev ∷ []) Done st.children ≡ Some Vdev
    by_place (inl is) = absurd (not_inner layer st.inner n h is)
    by_place (inr s) = sat s

pub read_owed : (t : Terms) (layer : Layer) (w : ReadIo) (family : List Child) (st : Stack) → IsSeated st → IsReadAt t layer w family st → 0 < length (told_in (asking st).slots)
    → first_owing (Vdev ∷ []) Done family ≡ Some Vdev
read_owed t layer w family st seated h some = ap (first_owing (Vdev ∷ []) Done) h.children ∙ owed layer st seated h.asks (read_asks t w (asking st) h.part) some

pub write_owed : (t : Terms) (bytes : List ℕ) (layer : Layer) (w : WriteIo) (family : List Child) (st : Stack) → IsSeated st → IsWriteAt t bytes layer w family st → 0 < length (told_in (asking st).slots)
    → first_owing (Vdev ∷ []) Done family ≡ Some Vdev
write_owed t bytes layer w family st seated h some = ap (first_owing (Vdev ∷ []) Done) h.children ∙ owed layer st seated h.asks (write_asks t bytes w (asking st) h.part) some
