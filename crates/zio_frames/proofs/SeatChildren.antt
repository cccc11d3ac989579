-- Each operation of a node that is out has its child, where its part within ends, where one is handed out, and where one is
-- heard.
use Rattle.std.proofs.Common.{◌≡◌, ◌≢◌, ℕ, List, [], ◌∷◌, ◌++◌, length, slice_get, slice_set, false, Option, Some, None, ◌⊎◌, inl, inr, refl, sym, ap, ◌∙◌, subst}
use Rattle.std.specs.List.{AllByRecursion}
use Rattle.zio_blkptr.specs.declared.pointer.Bp.{Bp}
use Rattle.zio_types.specs.declared.request.ChildKind.{ChildKind}
use Rattle.zio_types.specs.declared.request.ChildKind.TheVariants.{Vdev, Gang, Logical}
use Rattle.zio_cksum.proofs.AllLemmas.{all_append, all_weaker}
use Rattle.zio_trace.specs.Tasks.{Task, Value}
use Rattle.zio_frames.specs.Frames.{Child, Frame, Inner, OfInner, OfOuter, Seat, Stack, kind_of_task, needs_none}
use Rattle.zio_frames.specs.Moves.{child_for, closed, handed, next_seat, set_at, with_children}
use Rattle.zio_frames.specs.Seats.{HasSeat, IsInnerSeat, IsSatAt, IsSeated, ShowsTold, SitApart, asked_at, slot_at}
use Rattle.zio_frames.specs.Slots.{AllHeard, Heard, IsOut, Slot}
use Rattle.zio_frames.proofs.GetLemmas.{all_at, all_by_number, get_either, get_exchanged, get_last, get_other, get_past, get_set}
use Rattle.zio_frames.proofs.OutLemmas.{heard_there}
use Rattle.zio_frames.proofs.SeatLemmas.{apart_at, apart_by_number, none_none, sat_more, sat_with, sits_still}
use Rattle.zio_frames.proofs.SeatMoves.{asked_last, full_more, full_set, inner_asked, inner_back, inner_slots, node, outer_asked, outer_back, outer_slots, seat_or_not, set_asked, set_fits, set_full, set_other, set_there, set_within}

-- ---- the part within ends

closed_slots : (o : Frame) (i : Inner) (v : Value) (cs : List Child) (seat : Seat) (told : Option (Option Bp))
    → AllHeard i.frame.slots → (seat ≡ OfOuter i.number → ⊥)
    → slot_at (node o (Some i) cs) seat ≡ Some (IsOut told) → slot_at (closed (node o (Some i) cs) i v) seat ≡ Some (IsOut told)
closed_slots o i v cs (OfOuter n) told h b e = get_other o.slots i.number n (Heard v) (λ k. b (ap (λ m. OfOuter m) k)) ∙ e
closed_slots o i v cs (OfInner n) told h b e = absurd (heard_there n i.frame.slots told h e)

closed_asked : (o : Frame) (i : Inner) (v : Value) (cs : List Child) (seat : Seat) (told : Option (Option Bp)) (op : Task)
    → AllHeard i.frame.slots
    → slot_at (node o (Some i) cs) seat ≡ Some (IsOut told) → asked_at (node o (Some i) cs) seat ≡ Some op
    → asked_at (closed (node o (Some i) cs) i v) seat ≡ Some op
closed_asked o i v cs (OfOuter n) told op h e f = f
closed_asked o i v cs (OfInner n) told op h e f = absurd (heard_there n i.frame.slots told h e)

closed_back : (o : Frame) (i : Inner) (v : Value) (cs : List Child) (seat : Seat) (told : Option (Option Bp))
    → slot_at (closed (node o (Some i) cs) i v) seat ≡ Some (IsOut told)
    → (slot_at (node o (Some i) cs) seat ≡ Some (IsOut told)) × (seat ≡ OfOuter i.number → ⊥)
closed_back o i v cs (OfInner n) told e = absurd (cc)
closed_back o i v cs (OfOuter n) told e = by (get_exchanged o.slots i.number n (Heard v) (IsOut told) e)
  where
    by : ((n ≡ i.number) × (Heard v ≡ IsOut told)) ⊎ ((n ≢ i.number) × (slice_get o.slots n ≡ Some (IsOut told)))
        → (slice_get o.slots n ≡ Some (IsOut told)) × (OfOuter n ≡ OfOuter i.number → ⊥)
    by (inl h) = let clash : Heard v ≡ IsOut told = h.1 in absurd (cc)
    by (inr h) = (h.1, λ k. h.0 (cc))

pub seated_closed : (o : Frame) (i : Inner) (v : Value) (cs : List Child) → AllHeard i.frame.slots
    → IsSeated (node o (Some i) cs) → IsSeated (closed (node o (Some i) cs) i v)
seated_closed o i v cs heard h =
    let a : Stack = node o (Some i) cs in
    let b : Stack = closed a i v in
    record {
      outer = full_set o i.number (Heard v) h.outer;
      inner = tt;
      each = all_weaker (HasSeat a) (HasSeat b) cs (λ c k. sits_still a b c k (λ q told s l n.
          (closed_slots o i v cs c.seat told heard n s, closed_asked o i v cs c.seat told q heard s l, λ j. j))) h.each;
      apart = h.apart;
      all = λ seat told e. let k = closed_back o i v cs seat told e in by seat k.1 (h.all seat told k.0);
    }
  where
    by : (seat : Seat) → (seat ≡ OfOuter i.number → ⊥) → IsInnerSeat (Some i) seat ⊎ IsSatAt (node o (Some i) cs) seat
        → IsInnerSeat None seat ⊎ IsSatAt (closed (node o (Some i) cs) i v) seat
    by seat n (inl e) = absurd (n e)
    by seat n (inr s) = inr (sat_with (node o (Some i) cs) (closed (node o (Some i) cs) i v) seat refl s)

-- ---- one is handed out

shows_nothing : (k : ChildKind) → ShowsTold (needs_none k) (needs_none k) None
shows_nothing Vdev = tt
shows_nothing Gang = tt
shows_nothing Logical = tt

-- the new child sits apart from those that sat there
apart_more : (a : Stack) (d : Child) → AllByRecursion (HasSeat a) a.children
    → ((told : Option (Option Bp)) → slot_at a d.seat ≡ Some (IsOut told) → ⊥) → SitApart a.children
    → SitApart (a.children ++ d ∷ [])
apart_more a d each past h =
    apart_by_number (a.children ++ d ∷ [])
    (λ k m x y e f n. by k m x y n (get_either a.children d x k e) (get_either a.children d y m f))
  where
    not_there : (x : Child) (k : ℕ) → slice_get a.children k ≡ Some x → x.ended ≡ false → x.seat ≢ d.seat
    not_there x k e g s =
        let seat = all_at (HasSeat a) a.children k x each e g in
        past seat.1 (subst (λ (r : Seat). slot_at a r ≡ Some (IsOut seat.1)) s seat.2.slot)

    by : (k m : ℕ) (x y : Child) → k ≢ m → (slice_get a.children k ≡ Some x) ⊎ ((k ≡ length a.children) × (d ≡ x))
        → (slice_get a.children m ≡ Some y) ⊎ ((m ≡ length a.children) × (d ≡ y))
        → x.ended ≡ false → y.ended ≡ false → x.seat ≢ y.seat
    by k m x y n (inl e) (inl f) = apart_at a.children k m x y h e f n
    by k m x y n (inl e) (inr f) = λ g i s. not_there x k e g (s ∙ ap (λ (c : Child). c.seat) (sym f.1))
    by k m x y n (inr e) (inl f) = λ g i s. not_there y m f i (sym s ∙ ap (λ (c : Child). c.seat) (sym e.1))
    by k m x y n (inr e) (inr f) = absurd (n (e.0 ∙ sym f.0))

-- it sits there
sat_last : (a b : Stack) (d : Child) (seat : Seat) → b.children ≡ a.children ++ d ∷ [] → d.ended ≡ false → d.seat ≡ seat
    → IsSatAt b seat
sat_last a b d seat e g s =
    record {
      number = length a.children;
      child = d;
      is = ap (λ (cs : List Child). slice_get cs (length a.children)) e
          ∙ get_last a.children d;
      there = s;
      goes = g;
    }

either_sat : (a b : Stack) (d : Child) (seat next : Seat) (told : Option (Option Bp)) → b.children ≡ a.children ++ d ∷ []
    → d.ended ≡ false → d.seat ≡ next
    → (IsInnerSeat a.inner seat → IsInnerSeat b.inner seat)
    → (slot_at a seat ≡ Some (IsOut told)) ⊎ ((seat ≡ next) × (IsOut None ≡ IsOut told))
    → (slot_at a seat ≡ Some (IsOut told) → IsInnerSeat a.inner seat ⊎ IsSatAt a seat)
    → IsInnerSeat b.inner seat ⊎ IsSatAt b seat
either_sat a b d seat next told e g s f (inl h) all = old (all h)
  where
    old : IsInnerSeat a.inner seat ⊎ IsSatAt a seat → IsInnerSeat b.inner seat ⊎ IsSatAt b seat
    old (inl n) = inl (f n)
    old (inr k) = inr (sat_more a b d seat e k)
either_sat a b d seat next told e g s f (inr h) all = inr (sat_last a b d seat e g (s ∙ sym h.0))

seated_handed_outer : (o : Frame) (cs : List Child) (op : Task) → IsSeated (node o None cs)
    → IsSeated (handed (node o None cs) op)
seated_handed_outer o cs op h =
    let a : Stack = node o None cs in
    let b : Stack = handed a op in
    let d : Child = child_for (next_seat a) op in
    record {
      outer = full_more o op (IsOut None) h.outer;
      inner = tt;
      each =
          all_append (HasSeat b) cs (d ∷ []) (all_weaker (HasSeat a) (HasSeat b) cs (λ c k. sits_still a b c k (λ q told s l n. (
            outer_slots o op (IsOut None) (IsOut told) None cs b.children c.seat s,
            outer_asked o op q
                (IsOut None) None cs b.children c.seat l,
            λ i. i,
          ))) h.each) (
            (λ goes. (
              op,
              None,
              record {
                slot = get_last o.slots (IsOut None);
                asked = asked_last o op (IsOut None) h.outer;
                kind = refl;
                shows = shows_nothing (kind_of_task op);
                beside = λ i. i;
              },
            )),
            tt,
          );
      apart = apart_more a d h.each (λ told e. get_past o.slots (IsOut told) e) h.apart;
      all =
          λ seat told e. either_sat a b d seat (next_seat a) told refl refl refl (λ i. i)
          (outer_back o op (IsOut None) (IsOut told) None cs b.children seat none_none e) (h.all seat told);
    }

seated_handed_inner : (o : Frame) (i : Inner) (cs : List Child) (op : Task) → IsSeated (node o (Some i) cs)
    → IsSeated (handed (node o (Some i) cs) op)
seated_handed_inner o i cs op h =
    let a : Stack = node o (Some i) cs in
    let b : Stack = handed a op in
    let d : Child = child_for (next_seat a) op in
    record {
      outer = h.outer;
      inner = (full_more i.frame op (IsOut None) h.inner.0, h.inner.1, h.inner.2);
      each =
          all_append (HasSeat b) cs (d ∷ []) (all_weaker (HasSeat a) (HasSeat b) cs (λ c k. sits_still a b c k (λ q told s l n. (
            inner_slots o i op (IsOut None) (IsOut told) cs b.children c.seat s,
            inner_asked o i op q
                (IsOut None) cs b.children c.seat l,
            n,
          ))) h.each) (
            (λ goes. (
              op,
              None,
              record {
                slot = get_last i.frame.slots (IsOut None);
                asked = asked_last i.frame op (IsOut None) h.inner.0;
                kind = refl;
                shows = shows_nothing (kind_of_task op);
                beside = λ j. cc;
              },
            )),
            tt,
          );
      apart = apart_more a d h.each (λ told e. get_past i.frame.slots (IsOut told) e) h.apart;
      all =
          λ seat told e. either_sat a b d seat (next_seat a) told refl refl refl (λ j. j)
          (inner_back o i op (IsOut None) (IsOut told) cs b.children seat e) (h.all seat told);
    }

pub seated_handed : (o : Frame) (inner : Option Inner) (cs : List Child) (op : Task) → IsSeated (node o inner cs)
    → IsSeated (handed (node o inner cs) op)
seated_handed o None cs op h = seated_handed_outer o cs op h
seated_handed o (Some i) cs op h = seated_handed_inner o i cs op h

-- ---- one is heard

-- the operation of the nth child is so far, and so is the child
abbrev pub set_child : Stack → ℕ → Child → Child → Slot → Stack
set_child st n c d slot = with_children (set_at st c.seat slot) (slice_set st.children n d)

set_apart : (cs : List Child) (n : ℕ) (c d : Child) → SitApart cs → slice_get cs n ≡ Some c → c.ended ≡ false → d.seat ≡ c.seat
    → SitApart (slice_set cs n d)
set_apart cs n c d h there goes seat =
    apart_by_number (slice_set cs n d)
    (λ k m x y e f ne. by k m x y ne (get_exchanged cs n k d x e) (get_exchanged cs n m d y f))
  where
    by : (k m : ℕ) (x y : Child) → k ≢ m → ((k ≡ n) × (d ≡ x)) ⊎ ((k ≢ n) × (slice_get cs k ≡ Some x))
        → ((m ≡ n) × (d ≡ y)) ⊎ ((m ≢ n) × (slice_get cs m ≡ Some y))
        → x.ended ≡ false → y.ended ≡ false → x.seat ≢ y.seat
    by k m x y ne (inl e) (inl f) = absurd (ne (e.0 ∙ sym f.0))
    by k m x y ne (inl e) (inr f) =
        λ g i s. apart_at cs n m c y h there f.1 (λ j. f.0 (sym j)) goes i (sym seat ∙ ap (λ (z : Child). z.seat) e.1 ∙ s)
    by k m x y ne (inr e) (inl f) =
        λ g i s. apart_at cs n k c x h there e.1 (λ j. e.0 (sym j)) goes g (sym seat ∙ ap (λ (z : Child). z.seat) f.1 ∙ sym s)
    by k m x y ne (inr e) (inr f) = apart_at cs k m x y h e.1 f.1 ne

set_each : (o : Frame) (inner : Option Inner) (cs : List Child) (n : ℕ) (c d : Child) (slot : Slot) → IsSeated (node o inner cs)
    → slice_get cs n ≡ Some c → c.ended ≡ false
    → HasSeat (set_child (node o inner cs) n c d slot) d
    → AllByRecursion (HasSeat (set_child (node o inner cs) n c d slot)) (slice_set cs n d)
set_each o inner cs n c d slot h there goes mine =
    all_by_number (HasSeat b) (slice_set cs n d) (λ k x e. by k x (get_exchanged cs n k d x e))
  where
    a : Stack
    a = node o inner cs

    b : Stack
    b = set_child (node o inner cs) n c d slot

    by : (k : ℕ) (x : Child) → ((k ≡ n) × (d ≡ x)) ⊎ ((k ≢ n) × (slice_get cs k ≡ Some x))
        → HasSeat (set_child (node o inner cs) n c d slot) x
    by k x (inl e) = subst (HasSeat (set_child (node o inner cs) n c d slot)) e.1 mine
    by k x (inr e) = λ g.
        let apart : x.seat ≢ c.seat = apart_at cs k n x c h.apart e.1 there e.0 g goes in
        sits_still (node o inner cs) (set_child (node o inner cs) n c d slot) x
        (all_at (HasSeat (node o inner cs)) cs k x h.each e.1)
        (λ q told s l w. (
          set_other o inner cs c.seat x.seat slot apart ∙ s,
          set_asked o inner cs c.seat x.seat slot ∙ l,
          λ j. w (subst (λ (T : Type 0). T) (set_within o inner cs c.seat x.seat slot) j),
        )) g

set_sat : (o : Frame) (inner : Option Inner) (cs : List Child) (n : ℕ) (c d : Child) (slot : Slot) (seat : Seat)
    → slice_get cs n ≡ Some c → seat ≢ c.seat
    → IsInnerSeat inner seat ⊎ IsSatAt (node o inner cs) seat
    → IsInnerSeat (set_child (node o inner cs) n c d slot).inner seat ⊎ IsSatAt (set_child (node o inner cs) n c d slot) seat
set_sat o inner cs n c d slot seat there ne (inl i) =
    inl (subst (λ (T : Type 0). T) (sym (set_within o inner cs c.seat seat slot)) i)
set_sat o inner cs n c d slot seat there ne (inr s) =
    let other : s.number ≢ n =
    λ k. let same : Some s.child ≡ Some c =
    sym s.is ∙ ap (slice_get cs) k ∙ there in let is : s.child ≡ c =
    cc in ne (sym s.there ∙ ap (λ (z : Child). z.seat) is) in
    inr (record {
      number = s.number;
      child = s.child;
      is = get_other cs n s.number d other
          ∙ s.is;
      there = s.there;
      goes = s.goes;
    })

pub seated_set : (o : Frame) (inner : Option Inner) (cs : List Child) (n : ℕ) (c d : Child) (slot : Slot)
    → IsSeated (node o inner cs) → slice_get cs n ≡ Some c → c.ended ≡ false → d.seat ≡ c.seat
    → HasSeat (set_child (node o inner cs) n c d slot) d → ((told : Option (Option Bp)) → slot ≡ IsOut told → d.ended ≡ false)
    → IsSeated (set_child (node o inner cs) n c d slot)
seated_set o inner cs n c d slot h there goes seat mine out =
    let here = all_at (HasSeat (node o inner cs)) cs n c h.each there goes in
    record {
      outer = set_full o inner cs c.seat slot h.outer;
      inner = set_fits o inner cs (slice_set cs n d) c.seat slot h.inner here.2.beside;
      each = set_each o inner cs n c d slot h there goes mine;
      apart = set_apart cs n c d h.apart there goes seat;
      all = λ r told e. by r told here.1 here.2.slot e (seat_or_not r c.seat) (h.all r told);
    }
  where
    by : (r : Seat) (told old : Option (Option Bp)) → slot_at (node o inner cs) c.seat ≡ Some (IsOut old)
        → slot_at (set_child (node o inner cs) n c d slot) r ≡ Some (IsOut told) → (r ≡ c.seat) ⊎ (r ≢ c.seat)
        → (slot_at (node o inner cs) r ≡ Some (IsOut told) → IsInnerSeat inner r ⊎ IsSatAt (node o inner cs) r)
        → IsInnerSeat (set_child (node o inner cs) n c d slot).inner r ⊎ IsSatAt (set_child (node o inner cs) n c d slot) r
    by r told old was e (inl same) all =
        let now : slot_at (set_at (node o inner cs) c.seat slot) r ≡ Some slot =
        subst (λ (s : Seat). slot_at (set_at (node o inner cs) c.seat slot) s ≡ Some slot) (sym same)
        (set_there o inner cs c.seat slot (IsOut old) was) in
        let both : Some slot ≡ Some (IsOut told) = sym now ∙ e in
        let is : slot ≡ IsOut told = cc in
        inr (record { number = n; child = d; is = get_set cs n c d there; there = seat ∙ sym same; goes = out told is })
    by r told old was e (inr ne) all =
        set_sat o inner cs n c d slot r there ne (all (sym (set_other o inner cs c.seat r slot ne) ∙ e))
