-- The places of children, from one move of their parent to the next.
use Rattle.std.proofs.Common.{◌≡◌, ℕ, List, [], ◌∷◌, length, length-append, ◌<◌, slice_get, Bool, true, false, Option, Some, None, refl, sym, ap, ◌∙◌, subst, arith}
use Rattle.zio_blkptr.specs.declared.pointer.Bp.{Bp}
use Rattle.zio_gang.specs.Attempts.{Terms}
use Rattle.zio_trace.specs.Tasks.{Task, Value}
use Rattle.zio_frames.specs.Frames.{Child, Flying, Frame, Inner, OfInner, OfOuter, Seat, Stack, needs_none, place_in, place_of}
use Rattle.zio_frames.specs.Moves.{Chose, Closed, Did, Does, IsEnded, Opened, Took, handed, set_at, with_asking}
use Rattle.zio_frames.specs.Seats.{HasSeat, IsSeated, ShowsTold, slot_at, slot_in_inner}
use Rattle.zio_frames.specs.Slots.{AllHeard, IsOut, Slot}
use Rattle.zio_frames.proofs.GetLemmas.{all_at}
use Rattle.zio_frames.proofs.OutLemmas.{heard_there}
use Rattle.zio_turns.proofs.Links.{Keeps}

-- a child that hasn't ended has its slot
pub seat_out : (st : Stack) (n : ℕ) (c : Child) → IsSeated st → slice_get st.children n ≡ Some c → c.ended ≡ false
    → (told : Option (Option Bp)) × (slot_at st c.seat ≡ Some (IsOut told)) × ShowsTold (needs_none c.kind) c.told told
seat_out st n c seated e goes =
    let k = all_at (HasSeat st) st.children n c seated.each e goes in
    (k.1, k.2.slot, k.2.shows)

-- a child that needs no pointer counts as one that told
pub needless_told : (st : Stack) (n : ℕ) (c : Child) → IsSeated st → slice_get st.children n ≡ Some c → c.ended ≡ false
    → needs_none c.kind ≡ true → c.told ≡ true
needless_told st n c seated e goes none =
    let k = seat_out st n c seated e goes in
    by c.told k.0 (subst (λ (b : Bool). ShowsTold b c.told k.0) none k.2)
  where
    by : (told : Bool) (out : Option (Option Bp)) → ShowsTold true told out → told ≡ true
    by true out h = refl
    by false out h = absurd h

-- one that ended has no child that hasn't
pub none_below : (t : Terms) (st : Stack) (v : Value) (n : ℕ) (c : Child) → IsSeated st → IsEnded t st v
    → slice_get st.children n ≡ Some c
    → c.ended ≡ false → ⊥
none_below t st v n c seated ended e goes =
    let k = seat_out st n c seated e goes in
    by c.seat k.0 k.1
  where
    by : (seat : Seat) (told : Option (Option Bp)) → slot_at st seat ≡ Some (IsOut told) → ⊥
    by (OfOuter m) told f = heard_there m st.outer.slots told ended.heard f
    by (OfInner m) told f =
        let none : None ≡ Some (IsOut told) = sym (ap (λ (i : Option Inner). slot_in_inner i m) ended.alone) ∙ f in
        cc

-- ---- places

-- its children keep their places while it has its part within
abbrev pub SamePlaces : List ℕ → Stack → Stack → Type 0
SamePlaces at a b = (n : ℕ) (c : Child) → slice_get a.children n ≡ Some c → c.ended ≡ false
    → place_in at b.inner c.seat ≡ place_in at a.inner c.seat

pub keeps_with : (at : List ℕ) (a b : Stack) (n : ℕ) → SamePlaces at a b
    → ((c : Child) → slice_get a.children n ≡ Some c → c.ended ≡ false → slice_get b.children n ≡ Some c)
    → Keeps (record { at = at; stack = a }) (record { at = at; stack = b }) n
keeps_with at a b n places same = λ kind told k d. record {
  child = d.child;
  is = same d.child d.is d.goes;
  goes = d.goes;
  there = d.there ∙ sym (places n d.child d.is d.goes);
  of_kind = d.of_kind;
  heard = d.heard;
}

pub place_asking : (at : List ℕ) (st : Stack) (i : Option Inner) (op : Task) (seat : Seat)
    → place_in at (with_asking st i op).inner seat ≡ place_in at i seat
place_asking at st None op (OfOuter n) = refl
place_asking at st None op (OfInner n) = refl
place_asking at st (Some i) op (OfOuter n) = refl
place_asking at st (Some i) op (OfInner n) = refl

pub places_handed : (at : List ℕ) (st : Stack) (op : Task) → SamePlaces at st (handed st op)
places_handed at st op = λ n c e goes. place_asking at st st.inner op c.seat

place_within : (at : List ℕ) (st : Stack) (i : Option Inner) (m : ℕ) (slot : Slot) (seat : Seat) → st.inner ≡ i
    → place_in at (set_at st (OfInner m) slot).inner seat ≡ place_in at st.inner seat
place_within at st i m slot seat e = by st.outer i st.children st.inner (sym e) seat
  where
    by : (o : Frame) (i : Option Inner) (cs : List Child) (j : Option Inner) → i ≡ j → (seat : Seat)
        → place_in at (set_at (record { outer = o; inner = j; children = cs }) (OfInner m) slot).inner seat ≡ place_in at j seat
    by o i cs None e (OfOuter n) = refl
    by o i cs None e (OfInner n) = refl
    by o i cs (Some j) e (OfOuter n) = refl
    by o i cs (Some j) e (OfInner n) = refl

pub place_set : (at : List ℕ) (st : Stack) (own : Seat) (slot : Slot) (seat : Seat)
    → place_in at (set_at st own slot).inner seat ≡ place_in at st.inner seat
place_set at st (OfOuter m) slot seat = refl
place_set at st (OfInner m) slot seat = place_within at st st.inner m slot seat refl

-- ---- what it does itself

alone_place : (at : List ℕ) (a b : Stack) (seat : Seat) (told : Option (Option Bp)) → a.inner ≡ None
    → slot_at a seat ≡ Some (IsOut told) → place_in at b.inner seat ≡ place_in at a.inner seat
alone_place at a b (OfOuter n) told e f = refl
alone_place at a b (OfInner n) told e f =
    let none : None ≡ Some (IsOut told) = sym (ap (λ (i : Option Inner). slot_in_inner i n) e) ∙ f in
    absurd (cc)

closed_place : (at : List ℕ) (a b : Stack) (i : Inner) (seat : Seat) (told : Option (Option Bp)) → a.inner ≡ Some i
    → AllHeard i.frame.slots → slot_at a seat ≡ Some (IsOut told) → place_in at b.inner seat ≡ place_in at a.inner seat
closed_place at a b i (OfOuter n) told e heard f = refl
closed_place at a b i (OfInner n) told e heard f =
    absurd (heard_there n i.frame.slots told heard (sym (ap (λ (j : Option Inner). slot_in_inner j n) e) ∙ f))

pub places_does : (t : Terms) (at : List ℕ) (did : Did) (a b : Stack) → IsSeated a → Does t did a b → SamePlaces at a b
places_does t at (Opened op) a b seated does = λ n c e goes.
    let k = seat_out a n c seated e goes in alone_place at a b c.seat k.0 does.0 k.1
places_does t at (Closed v) a b seated does = λ n c e goes.
    let k = seat_out a n c seated e goes in closed_place at a b does.0 c.seat k.0 does.1 does.2 k.1
places_does t at (Chose c) a b seated does = λ n d e goes.
    let k = seat_out a n d seated e goes in alone_place at a b d.seat k.0 does.0 k.1
places_does t at (Took tree free) a b seated does = λ n c e goes.
    let k = seat_out a n c seated e goes in alone_place at a b c.seat k.0 does.0 k.1

pub children_does : (t : Terms) (did : Did) (a b : Stack) → Does t did a b → b.children ≡ a.children
children_does t (Opened op) a b does = ap (λ (s : Stack). s.children) does.3
children_does t (Closed v) a b does = ap (λ (s : Stack). s.children) does.4
children_does t (Chose c) a b does = ap (λ (s : Stack). s.children) does.2
children_does t (Took tree free) a b does = ap (λ (s : Stack). s.children) does.2

-- a child's place is longer than its parent's
pub place_longer : (x : Flying) (seat : Seat) → length x.at < length (place_of x seat)
place_longer x seat = by x.at x.stack.inner seat
  where
    by : (at : List ℕ) (inner : Option Inner) (seat : Seat) → length at < length (place_in at inner seat)
    by at inner (OfOuter n) = omega (arith, length-append at (n ∷ []))
    by at None (OfInner n) = omega (arith, length-append at (n ∷ []))
    by at (Some i) (OfInner n) = omega (arith, length-append at (i.number ∷ n ∷ []))
