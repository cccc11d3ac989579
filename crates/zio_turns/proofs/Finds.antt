-- A node of an engine is found by its key, and so is its parent.
use Rattle.std.proofs.Common.{◌≡◌, ◌≢◌, ℕ, ◌<◌, List, ◌∷◌, length, map, cond, Option, Some, None, refl, sym, ap, ◌∙◌, subst, arith}
use Rattle.std.proofs.lemmas.List.Sorted.{IsPermutation-append_right, IsPermutation-cons, IsPermutation-map}
use Rattle.zio_cksum.specs.Images.{Images}
use Rattle.zio_gang.specs.Attempts.{Terms}
use Rattle.zio_trace.specs.Families.{Forest}
use Rattle.zio_trace.specs.Labels.{same_number}
use Rattle.zio_trace.specs.Underway.{State}
use Rattle.zio_frames.specs.Frames.{Child, Flying, place_of}
use Rattle.zio_frames.specs.Slots.{Slot}
use Rattle.zio_turns.specs.Engine.{DoesFor, HasParent, IsKept}
use Rattle.zio_staged.specs.Entries.{Held, Live, OfNode, OfTree, Parent, Shelf, flying_at, flying_of, live_of, OneMore, standing, times_in, top_at}
use Rattle.zio_turns.specs.Found.{IsChildOf, IsFound, IsParentFound, IsTreeFound}
use Rattle.zio_staged.specs.Parts.{Nodes}
use Rattle.zio_turns.proofs.Kept.{all_flying, kept_fronted, kept_now, linked_as, running_as, world}
use Rattle.zio_turns.proofs.Links.{HeldIn, free_there, held_there, in_flight_there, on_shelf_there, some_is}
use Rattle.zio_turns.proofs.Lives.{Fronted, first_at, other_at, to_front}
use Rattle.zio_turns.proofs.MoveOne.{more_some}
use Rattle.zio_turns.proofs.Seated.{place_longer}

module _ {N : Type 0} (nodes : Nodes N) (t : Terms) (sizes : ℕ → ℕ) (f : Forest) (before : Option Images) (trees : List Slot)
    (tops : List (Option Flying))
    (shelf : Shelf N) (queue leaves : List ℕ) (s : State) where
  pub node_found : (lives : List Live) (key : ℕ) (h : Held N)
      → IsKept {N = N} nodes t sizes f before trees tops lives shelf queue leaves s
      → shelf key ≡ Some h → IsFound {N = N} nodes t sizes f before trees tops shelf queue leaves key h s.entries s.images
  node_found lives key h k e =
      let there = in_flight_there nodes t (world {N = N} tops lives shelf queue leaves) key h k.linked e in
      let front : Fronted lives key there.0 = to_front lives key there.0 k.differ there.1 in
      record {
        node = there.0;
        others = front.others;
        kept = kept_fronted t sizes f before trees nodes tops lives shelf queue leaves s key there.0 k front;
        is = record { is = there.2.is; counts = there.2.counts };
      }

  -- ---- its parent

  does_child : (h : Held N) (x q : Flying) (n : ℕ) → (d : DoesFor h.kind (nodes.told h.node) x.at q n)
      → IsChildOf {N = N} nodes h x.at q n d.child
  does_child h x q n d = record { is = d.is; goes = d.goes; there = d.there; of_kind = d.of_kind; heard = d.heard }

  parent_of : (key : ℕ) (x : Flying) (others : List Live) (h : Held N)
      → IsKept {N = N} nodes t sizes f before trees tops (live_of key x ∷ others) shelf queue leaves s → shelf key ≡ Some h
      → (p : Parent) → h.parent ≡ p
      → HasParent (top_at tops) (flying_at (live_of key x ∷ others)) h.kind (nodes.told h.node) x.at p
  parent_of key x others h k e p is =
      let was : HeldIn nodes t (world {N = N} tops (live_of key x ∷ others) shelf queue leaves) key x h =
      held_there nodes t (world {N = N} tops (live_of key x ∷ others) shelf queue leaves) key x h k.linked
      (first_at (live_of key x) others) e in
      subst (λ (q : Parent). HasParent (top_at tops) (flying_at (live_of key x ∷ others)) h.kind
      (nodes.told h.node) x.at q) is was.parent

  pub tree_found : (key tree n : ℕ) (x : Flying) (others : List Live) (h : Held N)
      → IsKept {N = N} nodes t sizes f before trees tops (live_of key x ∷ others) shelf queue leaves s → shelf key ≡ Some h
      → h.parent ≡ OfTree tree n → IsTreeFound {N = N} nodes tops tree n x h
  tree_found key tree n x others h k e is =
      let p = parent_of key x others h k e (OfTree tree n) is in
      record { top = p.above; child = p.for.child; there = p.is; does = does_child h x p.above n p.for }

  -- it isn't its own parent
  not_itself : (x q : Flying) (c : Child) → x.at ≡ place_of q c.seat → q ≡ x → ⊥
  not_itself x q c there same =
      let far : length q.at < length (place_of q c.seat) = place_longer q c.seat in
      let one : length x.at ≡ length (place_of q c.seat) = ap (λ (ns : List ℕ). length ns) there in
      let two : length q.at ≡ length x.at = ap (λ (y : Flying). length y.at) same in
      absurd (omega arith)

  pub parent_found : (key above n : ℕ) (x : Flying) (others : List Live) (h : Held N)
      → IsKept {N = N} nodes t sizes f before trees tops (live_of key x ∷ others) shelf queue leaves s → shelf key ≡ Some h
      → h.parent ≡ OfNode above n
      → IsParentFound {N = N} nodes t sizes f before trees tops shelf queue leaves key above n x h s.entries s.images
  parent_found key above n x others h k e is =
      let p = parent_of key x others h k e (OfNode above n) is in
      let other : above ≢ key = λ same.
      not_itself x p.above p.for.child p.for.there
      (some_is p.above x (sym p.is ∙ ap (flying_at (live_of key x ∷ others)) same ∙ first_at (live_of key x) others)) in
      let key_other : key ≢ above = λ same. other (sym same) in
      let up = on_shelf_there nodes t
      (world {N = N} tops (live_of key x ∷ others) shelf queue leaves) above p.above k.linked p.is in
      let front : Fronted others above p.above =
      to_front others above p.above k.differ.1 (sym (other_at (live_of key x) others above other) ∙ p.is) in
      let lives : List Live = live_of key x ∷ live_of above p.above ∷ front.others in
      record {
        parent = p.above;
        held = up.0;
        child = p.for.child;
        others = front.others;
        kept = kept_now t sizes f before trees nodes tops lives shelf queue leaves s.entries s.images
            (running_as t sizes f before trees (all_flying tops (live_of key x ∷ others)) (all_flying tops lives) s k.running
            (IsPermutation-append_right (standing tops) (map flying_of (live_of key x ∷ others)) (map flying_of lives)
            (IsPermutation-map flying_of (live_of key x ∷ others) lives
            (IsPermutation-cons (live_of key x) others (live_of above p.above ∷ front.others) front.order))))
            k.stand (front.same key ∙ k.differ.0, front.differ)
            (linked_as t sizes f before trees nodes (top_at tops) (flying_at (live_of key x ∷ others))
            (flying_at lives) shelf queue leaves
            (λ i. ap (λ (o : Option Flying). cond (same_number key i) (Some x) o) (front.same i)) k.linked);
        there = up.1;
        is = record { is = up.2.is; counts = up.2.counts };
        does = does_child h x p.above n p.for;
      }

  -- ---- what waits is held

  is_some : (key : ℕ) (lives : List Live) → IsKept {N = N} nodes t sizes f before trees tops lives shelf queue leaves s
      → (times_in key queue ≡ 0 → times_in key leaves ≡ 0 → ⊥) → (o : Option (Held N)) → shelf key ≡ o
      → (h : Held N) × (o ≡ Some h)
  is_some key lives k some (Some h) e = (h, refl)
  is_some key lives k some None e =
      let free = free_there nodes t (world {N = N} tops lives shelf queue leaves) key k.linked e in
      absurd (some free.1 free.2)

  pub queued_held : (key : ℕ) (lives : List Live) (rest : List ℕ)
      → IsKept {N = N} nodes t sizes f before trees tops lives shelf queue leaves s
      → OneMore key rest queue → (h : Held N) × (shelf key ≡ Some h)
  queued_held key lives rest k more = is_some key lives k (λ q e. more_some key rest queue more q) (shelf key) refl

  pub leaf_held : (key : ℕ) (lives : List Live) (rest : List ℕ)
      → IsKept {N = N} nodes t sizes f before trees tops lives shelf queue leaves s
      → OneMore key rest leaves → (h : Held N) × (shelf key ≡ Some h)
  leaf_held key lives rest k more = is_some key lives k (λ q e. more_some key rest leaves more e) (shelf key) refl
