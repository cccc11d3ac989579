-- Each operation of a node that is out has its child, from one move to the next.
use Rattle.std.proofs.Common.{◌≡◌, ◌≢◌, ℕ, zero, suc, List, [], ◌∷◌, ◌++◌, length, slice_get, false, Option, Some, None, ◌⊎◌, inl, inr, refl, sym, ap, ◌∙◌, subst}
use Rattle.zio_blkptr.specs.declared.pointer.Bp.{Bp}
use Rattle.zio_cksum.proofs.AllLemmas.{all_weaker}
use Rattle.zio_trace.specs.Tasks.{Task, Value}
use Rattle.zio_frames.specs.Frames.{Child, Frame, OfInner, OfOuter, Seat, Stack, fresh_frame, fresh_stack}
use Rattle.zio_frames.specs.Moves.{done_at_once, opened}
use Rattle.zio_frames.specs.Seats.{HasSeat, IsInnerSeat, IsSatAt, IsSeated, SitApart, asked_at, slot_at, slot_in_inner}
use Rattle.zio_frames.specs.Slots.{Heard, IsOut, Slot}
use Rattle.zio_frames.proofs.GetLemmas.{all_at, all_by_number, get_last, get_more, get_past}
use Rattle.zio_frames.proofs.SeatMoves.{asked_last, full_more, node, outer_asked, outer_back, outer_slots}

-- ---- parts of it

-- a child that sat sits still
pub sits_still : (a b : Stack) (c : Child) → HasSeat a c
    → ((op : Task) (told : Option (Option Bp)) → slot_at a c.seat ≡ Some (IsOut told) → asked_at a c.seat ≡ Some op
    → (IsInnerSeat a.inner c.seat → ⊥)
    → (slot_at b c.seat ≡ Some (IsOut told)) × (asked_at b c.seat ≡ Some op) × (IsInnerSeat b.inner c.seat → ⊥))
    → HasSeat b c
sits_still a b c h f = λ goes.
    let k = h goes in
    let s = k.2 in
    let g = f k.0 k.1 s.slot s.asked s.beside in
    (k.0, k.1, record { slot = g.0; asked = g.1; kind = s.kind; shows = s.shows; beside = g.2 })

-- the same children sit in the same seats
pub sat_with : (a b : Stack) (seat : Seat) → b.children ≡ a.children → IsSatAt a seat → IsSatAt b seat
sat_with a b seat e h =
    record {
      number = h.number;
      child = h.child;
      is = ap (λ (cs : List Child). slice_get cs h.number) e
          ∙ h.is;
      there = h.there;
      goes = h.goes;
    }

-- and one more
pub sat_more : (a b : Stack) (d : Child) (seat : Seat) → b.children ≡ a.children ++ d ∷ [] → IsSatAt a seat → IsSatAt b seat
sat_more a b d seat e h = record {
  number = h.number;
  child = h.child;
  is = ap (λ (cs : List Child). slice_get cs h.number) e ∙ get_more a.children d h.child h.number h.is;
  there = h.there;
  goes = h.goes;
}

pub apart_at : (cs : List Child) (k m : ℕ) (c d : Child) → SitApart cs → slice_get cs k ≡ Some c → slice_get cs m ≡ Some d
    → k ≢ m → c.ended ≡ false → d.ended ≡ false → c.seat ≢ d.seat
apart_at [] k m c d h e f n = absurd (cc)
apart_at (x ∷ cs) zero zero c d h e f n = absurd (n refl)
apart_at (x ∷ cs) zero (suc m) c d h e f n =
    let is : x ≡ c = cc in
    subst (λ (y : Child). y.ended ≡ false → d.ended ≡ false → y.seat ≢ d.seat) is
    (all_at (λ (y : Child). x.ended ≡ false → y.ended ≡ false → x.seat ≢ y.seat) cs m d h.0 f)
apart_at (x ∷ cs) (suc k) zero c d h e f n = λ g i s.
    let is : x ≡ d = cc in
    subst (λ (y : Child). y.ended ≡ false → c.ended ≡ false → y.seat ≢ c.seat) is
    (all_at (λ (y : Child). x.ended ≡ false → y.ended ≡ false → x.seat ≢ y.seat) cs k c h.0 e) i g (sym s)
apart_at (x ∷ cs) (suc k) (suc m) c d h e f n = apart_at cs k m c d h.1 e f (λ i. n (ap suc i))

pub apart_by_number : (cs : List Child)
    → ((k m : ℕ) (c d : Child) → slice_get cs k ≡ Some c → slice_get cs m ≡ Some d → k ≢ m → c.ended ≡ false → d.ended ≡ false
    → c.seat ≢ d.seat) → SitApart cs
apart_by_number [] h = tt
apart_by_number (x ∷ cs) h = (
  all_by_number (λ (y : Child). x.ended ≡ false → y.ended ≡ false → x.seat ≢ y.seat) cs
      (λ k y e. h 0 (suc k) x y refl e (λ i. cc)),
  apart_by_number cs (λ k m c d e f n. h (suc k) (suc m) c d e f (λ i. n (later k m i))),
)
  where
    later : (k m : ℕ) → suc k ≡ suc m → k ≡ m
    later k m i = cc

-- ---- nothing is done

pub seated_begins : (op : Task) → IsSeated (fresh_stack op)
seated_begins op = record {
  outer = record { lengths = refl };
  inner = tt;
  each = tt;
  apart = tt;
  all = λ seat told e. absurd (no_slot seat told e);
}
  where
    no_slot : (seat : Seat) (told : Option (Option Bp)) → slot_at (fresh_stack op) seat ≡ Some (IsOut told) → ⊥
    no_slot (OfOuter n) told e = cc
    no_slot (OfInner n) told e = cc

-- ---- what it does itself

none_fresh : (op : Task) (k n : ℕ) (x : Slot) → slot_in_inner (Some (record { number = k; frame = fresh_frame op })) n ≡ Some x
    → ⊥
none_fresh op k n x e = cc

pub none_none : (n : ℕ) (x : Slot) → slot_in_inner None n ≡ Some x → ⊥
none_none n x e = cc

-- it isn't the next seat
before_next : (o : Frame) (cs : List Child) (seat : Seat) (x : Slot) → slot_at (node o None cs) seat ≡ Some x
    → seat ≡ OfOuter (length o.slots) → ⊥
before_next o cs seat x e is = get_past o.slots x (subst (λ (s : Seat). slot_at (node o None cs) s ≡ Some x) is e)

pub seated_opened : (o : Frame) (op : Task) (cs : List Child) → IsSeated (node o None cs)
    → IsSeated (opened (node o None cs) op)
seated_opened o op cs h =
    let a : Stack = node o None cs in
    let b : Stack = opened a op in
    record {
      outer = full_more o op (IsOut None) h.outer;
      inner = (record { lengths = refl }, get_last o.slots (IsOut None), asked_last o op (IsOut None) h.outer);
      each = all_weaker (HasSeat a) (HasSeat b) cs (λ c k. sits_still a b c k (λ q told s l n. (
        outer_slots o op (IsOut None) (IsOut told) b.inner cs cs c.seat s,
        outer_asked o op q
            (IsOut None) b.inner cs cs c.seat l,
        before_next o cs c.seat (IsOut told) s,
      ))) h.each;
      apart = h.apart;
      all =
          λ seat told e. by seat told
          (outer_back o op (IsOut None) (IsOut told) b.inner cs cs seat (none_fresh op (length o.slots)) e) (h.all seat told);
    }
  where
    by : (seat : Seat) (told : Option (Option Bp))
        → (slot_at (node o None cs) seat ≡ Some (IsOut told)) ⊎ ((seat ≡ OfOuter (length o.slots)) × (IsOut None ≡ IsOut told))
        → (slot_at (node o None cs) seat ≡ Some (IsOut told) → IsInnerSeat None seat ⊎ IsSatAt (node o None cs) seat)
        → IsInnerSeat (opened (node o None cs) op).inner seat ⊎ IsSatAt (opened (node o None cs) op) seat
    by seat told (inl e) f = old (f e)
      where
        old : IsInnerSeat None seat ⊎ IsSatAt (node o None cs) seat
            → IsInnerSeat (opened (node o None cs) op).inner seat ⊎ IsSatAt (opened (node o None cs) op) seat
        old (inl n) = absurd n
        old (inr s) = inr (sat_with (node o None cs) (opened (node o None cs) op) seat refl s)
    by seat told (inr e) f = inl e.0

pub seated_done : (o : Frame) (op : Task) (v : Value) (cs : List Child) → IsSeated (node o None cs)
    → IsSeated (done_at_once (node o None cs) op v)
seated_done o op v cs h =
    let a : Stack = node o None cs in
    let b : Stack = done_at_once a op v in
    record {
      outer = full_more o op (Heard v) h.outer;
      inner = tt;
      each = all_weaker (HasSeat a) (HasSeat b) cs (λ c k. sits_still a b c k (λ q told s l n. (
        outer_slots o op (Heard v) (IsOut told) None cs cs c.seat s,
        outer_asked o op q
            (Heard v) None cs cs c.seat l,
        λ i. i,
      ))) h.each;
      apart = h.apart;
      all = λ seat told e. by seat told (outer_back o op (Heard v) (IsOut told) None cs cs seat none_none e) (h.all seat told);
    }
  where
    by : (seat : Seat) (told : Option (Option Bp))
        → (slot_at (node o None cs) seat ≡ Some (IsOut told)) ⊎ ((seat ≡ OfOuter (length o.slots)) × (Heard v ≡ IsOut told))
        → (slot_at (node o None cs) seat ≡ Some (IsOut told) → IsInnerSeat None seat ⊎ IsSatAt (node o None cs) seat)
        → IsInnerSeat None seat ⊎ IsSatAt (done_at_once (node o None cs) op v) seat
    by seat told (inl e) f = old (f e)
      where
        old : IsInnerSeat None seat ⊎ IsSatAt (node o None cs) seat
            → IsInnerSeat None seat ⊎ IsSatAt (done_at_once (node o None cs) op v) seat
        old (inl n) = absurd n
        old (inr s) = inr (sat_with (node o None cs) (done_at_once (node o None cs) op v) seat refl s)
    by seat told (inr e) f = let clash : Heard v ≡ IsOut told = e.1 in absurd (cc)
