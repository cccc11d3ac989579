-- A node's operations by their seats: one more is asked, and one is so far now.
use Rattle.std.proofs.Common.{◌≡◌, ◌≢◌, ℕ, ◌+◌, List, [], ◌∷◌, ◌++◌, length, slice_get, Option, Some, None, ◌⊎◌, inl, inr, refl, sym, ap, ◌∙◌, subst, arith, length-append}
use Rattle.std.proofs.lemmas.List.{length-set}
use Rattle.zio_trace.specs.Tasks.{Task}
use Rattle.zio_frames.specs.Frames.{Child, Frame, Inner, OfInner, OfOuter, Seat, Stack, with_asked, with_slot}
use Rattle.zio_frames.specs.Moves.{set_at}
use Rattle.zio_frames.specs.Seats.{InnerFits, IsFull, IsInnerSeat, asked_at, slot_at, slot_in_inner}
use Rattle.zio_frames.specs.Slots.{Slot}
use Rattle.zio_frames.proofs.GetLemmas.{get_either, get_last, get_more, get_other, get_set, same_or_not}

abbrev pub node : Frame → Option Inner → List Child → Stack
node o inner cs = record { outer = o; inner = inner; children = cs }

-- ---- seats

pub seat_or_not : (s r : Seat) → (s ≡ r) ⊎ (s ≢ r)
seat_or_not (OfOuter n) (OfOuter m) = by (same_or_not n m)
  where
    by : (n ≡ m) ⊎ (n ≢ m) → (OfOuter n ≡ OfOuter m) ⊎ (OfOuter n ≢ OfOuter m)
    by (inl e) = inl (ap (λ k. OfOuter k) e)
    by (inr h) = inr (λ e. h (cc))
seat_or_not (OfInner n) (OfInner m) = by (same_or_not n m)
  where
    by : (n ≡ m) ⊎ (n ≢ m) → (OfInner n ≡ OfInner m) ⊎ (OfInner n ≢ OfInner m)
    by (inl e) = inl (ap (λ k. OfInner k) e)
    by (inr h) = inr (λ e. h (cc))
seat_or_not (OfOuter n) (OfInner m) = inr (λ e. cc)
seat_or_not (OfInner n) (OfOuter m) = inr (λ e. cc)

-- ---- one more is asked

pub full_more : (x : Frame) (op : Task) (slot : Slot) → IsFull x → IsFull (with_asked x op slot)
full_more x op slot h =
    let e : length x.asked ≡ length x.slots = h.lengths in
    let a : length (x.asked ++ op ∷ []) ≡ length x.asked + 1 = length-append x.asked (op ∷ []) in
    let b : length (x.slots ++ slot ∷ []) ≡ length x.slots + 1 = length-append x.slots (slot ∷ []) in
    record { lengths = omega arith }

pub asked_last : (x : Frame) (op : Task) (slot : Slot) → IsFull x
    → slice_get (with_asked x op slot).asked (length x.slots) ≡ Some op
asked_last x op slot h = subst (λ n. slice_get (x.asked ++ op ∷ []) n ≡ Some op) h.lengths (get_last x.asked op)

-- of the node's own part
pub outer_slots : (o : Frame) (op : Task) (slot old : Slot) (j : Option Inner) (cs ds : List Child) (seat : Seat)
    → slot_at (node o None cs) seat ≡ Some old → slot_at (node (with_asked o op slot) j ds) seat ≡ Some old
outer_slots o op slot old j cs ds (OfOuter n) e = get_more o.slots slot old n e
outer_slots o op slot old j cs ds (OfInner n) e = absurd (cc)

pub outer_asked : (o : Frame) (op q : Task) (slot : Slot) (j : Option Inner) (cs ds : List Child) (seat : Seat)
    → asked_at (node o None cs) seat ≡ Some q → asked_at (node (with_asked o op slot) j ds) seat ≡ Some q
outer_asked o op q slot j cs ds (OfOuter n) e = get_more o.asked op q n e
outer_asked o op q slot j cs ds (OfInner n) e = absurd (cc)

pub outer_back : (o : Frame) (op : Task) (slot found : Slot) (j : Option Inner) (cs ds : List Child) (seat : Seat)
    → ((n : ℕ) (x : Slot) → slot_in_inner j n ≡ Some x → ⊥)
    → slot_at (node (with_asked o op slot) j ds) seat ≡ Some found
    → (slot_at (node o None cs) seat ≡ Some found) ⊎ ((seat ≡ OfOuter (length o.slots)) × (slot ≡ found))
outer_back o op slot found j cs ds (OfOuter n) none e = by (get_either o.slots slot found n e)
  where
    by : (slice_get o.slots n ≡ Some found) ⊎ ((n ≡ length o.slots) × (slot ≡ found))
        → (slice_get o.slots n ≡ Some found) ⊎ ((OfOuter n ≡ OfOuter (length o.slots)) × (slot ≡ found))
    by (inl h) = inl h
    by (inr h) = inr (ap (λ k. OfOuter k) h.0, h.1)
outer_back o op slot found j cs ds (OfInner n) none e = absurd (none n found e)

-- of the part within
abbrev pub more_in : Inner → Task → Slot → Inner
more_in i op slot = record { number = i.number; frame = with_asked i.frame op slot }

pub inner_slots : (o : Frame) (i : Inner) (op : Task) (slot old : Slot) (cs ds : List Child) (seat : Seat)
    → slot_at (node o (Some i) cs) seat ≡ Some old → slot_at (node o (Some (more_in i op slot)) ds) seat ≡ Some old
inner_slots o i op slot old cs ds (OfOuter n) e = e
inner_slots o i op slot old cs ds (OfInner n) e = get_more i.frame.slots slot old n e

pub inner_asked : (o : Frame) (i : Inner) (op q : Task) (slot : Slot) (cs ds : List Child) (seat : Seat)
    → asked_at (node o (Some i) cs) seat ≡ Some q → asked_at (node o (Some (more_in i op slot)) ds) seat ≡ Some q
inner_asked o i op q slot cs ds (OfOuter n) e = e
inner_asked o i op q slot cs ds (OfInner n) e = get_more i.frame.asked op q n e

pub inner_back : (o : Frame) (i : Inner) (op : Task) (slot found : Slot) (cs ds : List Child) (seat : Seat)
    → slot_at (node o (Some (more_in i op slot)) ds) seat ≡ Some found
    → (slot_at (node o (Some i) cs) seat ≡ Some found) ⊎ ((seat ≡ OfInner (length i.frame.slots)) × (slot ≡ found))
inner_back o i op slot found cs ds (OfOuter n) e = inl e
inner_back o i op slot found cs ds (OfInner n) e = by (get_either i.frame.slots slot found n e)
  where
    by : (slice_get i.frame.slots n ≡ Some found) ⊎ ((n ≡ length i.frame.slots) × (slot ≡ found))
        → (slice_get i.frame.slots n ≡ Some found) ⊎ ((OfInner n ≡ OfInner (length i.frame.slots)) × (slot ≡ found))
    by (inl h) = inl h
    by (inr h) = inr (ap (λ k. OfInner k) h.0, h.1)

-- ---- one is so far now

pub full_set : (x : Frame) (n : ℕ) (slot : Slot) → IsFull x → IsFull (with_slot x n slot)
full_set x n slot h = record { lengths = h.lengths ∙ sym (length-set x.slots n slot) }

pub set_there : (o : Frame) (inner : Option Inner) (cs : List Child) (seat : Seat) (slot old : Slot)
    → slot_at (node o inner cs) seat ≡ Some old → slot_at (set_at (node o inner cs) seat slot) seat ≡ Some slot
set_there o inner cs (OfOuter n) slot old e = get_set o.slots n old slot e
set_there o None cs (OfInner n) slot old e = absurd (cc)
set_there o (Some i) cs (OfInner n) slot old e = get_set i.frame.slots n old slot e

pub set_other : (o : Frame) (inner : Option Inner) (cs : List Child) (seat other : Seat) (slot : Slot) → other ≢ seat
    → slot_at (set_at (node o inner cs) seat slot) other ≡ slot_at (node o inner cs) other
set_other o inner cs (OfOuter n) (OfOuter m) slot h = get_other o.slots n m slot (λ e. h (ap (λ k. OfOuter k) e))
set_other o inner cs (OfOuter n) (OfInner m) slot h = refl
set_other o None cs (OfInner n) other slot h = refl
set_other o (Some i) cs (OfInner n) (OfOuter m) slot h = refl
set_other o (Some i) cs (OfInner n) (OfInner m) slot h = get_other i.frame.slots n m slot (λ e. h (ap (λ k. OfInner k) e))

pub set_asked : (o : Frame) (inner : Option Inner) (cs : List Child) (seat other : Seat) (slot : Slot)
    → asked_at (set_at (node o inner cs) seat slot) other ≡ asked_at (node o inner cs) other
set_asked o inner cs (OfOuter n) (OfOuter m) slot = refl
set_asked o inner cs (OfOuter n) (OfInner m) slot = refl
set_asked o None cs (OfInner n) other slot = refl
set_asked o (Some i) cs (OfInner n) (OfOuter m) slot = refl
set_asked o (Some i) cs (OfInner n) (OfInner m) slot = refl

pub set_within : (o : Frame) (inner : Option Inner) (cs : List Child) (seat other : Seat) (slot : Slot)
    → IsInnerSeat (set_at (node o inner cs) seat slot).inner other ≡ IsInnerSeat inner other
set_within o inner cs (OfOuter n) other slot = refl
set_within o None cs (OfInner n) other slot = refl
set_within o (Some i) cs (OfInner n) other slot = refl

pub set_full : (o : Frame) (inner : Option Inner) (cs : List Child) (seat : Seat) (slot : Slot) → IsFull o
    → IsFull (set_at (node o inner cs) seat slot).outer
set_full o inner cs (OfOuter n) slot h = full_set o n slot h
set_full o None cs (OfInner n) slot h = h
set_full o (Some i) cs (OfInner n) slot h = h

pub set_fits : (o : Frame) (inner : Option Inner) (cs ds : List Child) (seat : Seat) (slot : Slot)
    → InnerFits (node o inner cs) inner → (IsInnerSeat inner seat → ⊥)
    → InnerFits (node (set_at (node o inner cs) seat slot).outer (set_at (node o inner cs) seat slot).inner ds)
    (set_at (node o inner cs) seat slot).inner
set_fits o None cs ds (OfOuter n) slot h b = tt
set_fits o None cs ds (OfInner n) slot h b = tt
set_fits o (Some i) cs ds (OfOuter n) slot h b =
    (h.0, get_other o.slots n i.number slot (λ e. b (ap (λ k. OfOuter k) (sym e))) ∙ h.1, h.2)
set_fits o (Some i) cs ds (OfInner n) slot h b = (full_set i.frame n slot h.0, h.1, h.2)
