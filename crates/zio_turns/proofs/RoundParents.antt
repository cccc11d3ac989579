-- The parent of a node of a round that an engine keeps.
use Rattle.std.proofs.Common.{◌≡◌, ◌≢◌, ℕ, ◌<◌, List, ◌∷◌, length, cond, Option, Some, None, refl, sym, ap, ◌∙◌, subst, arith}
use Rattle.std.proofs.lemmas.List.Sorted.{IsPermutation-append_right, IsPermutation-cons, IsPermutation-map}
use Rattle.std.proofs.Common.{map}
use Rattle.zio_types.specs.Choices.{Choice}
use Rattle.zio_gang.specs.Attempts.{Terms}
use Rattle.zio_trace.specs.Families.{Forest}
use Rattle.zio_trace.specs.Labels.{same_number}
use Rattle.zio_trace.specs.Underway.{State}
use Rattle.zio_frames.specs.Frames.{Child, Flying, place_of}
use Rattle.zio_frames.specs.OfRound.{IsOfRound}
use Rattle.zio_frames.specs.Running.{Later}
use Rattle.zio_frames.specs.Seats.{IsSeated}
use Rattle.slab.specs.Slab.{Slab, get}
use Rattle.zio_turns.specs.Engine.{HasParent, IsKept, StillKept}
use Rattle.zio_staged.specs.Entries.{CountsAre, Held, Live, OfNode, Parent, flying_at, flying_of, live_of, standing, top_at}
use Rattle.zio_turns.specs.Found.{IsChildOf}
use Rattle.zio_turns.specs.Ledgers.{IsLedger}
use Rattle.zio_staged.specs.Parts.{Nodes}
use Rattle.zio_turns.specs.Rounds.{Before, DoTheirs, SoFar}
use Rattle.zio_turns.specs.Slabs.{AreNumbered, held_if, held_of, shelf_of}
use Rattle.zio_turns.specs.declared.entry.TiedNode.{TiedNode}
use Rattle.zio_turns.proofs.Kept.{all_flying, kept_now, linked_as, running_as, two_forward, world}
use Rattle.zio_turns.proofs.LedgerMoves.{ledger_order}
use Rattle.zio_turns.proofs.Links.{HeldIn, held_there, on_shelf_there, some_is}
use Rattle.zio_turns.proofs.Lives.{Fronted, first_at, other_at, second_at, to_front}
use Rattle.zio_turns.proofs.RoundNodes.{IsThere}
use Rattle.zio_turns.proofs.Seated.{place_longer}

pub from_held : {N : Type 0} (o : Option (TiedNode N)) (h : Held N) → held_if {N = N} o ≡ Some h → (g : TiedNode N) × (o ≡ Some g)
from_held None h e = absurd (cc)
from_held (Some g) h e = (g, refl)

not_itself : (x q : Flying) (c : Child) → x.at ≡ place_of q c.seat → q ≡ x → ⊥
not_itself x q c there same =
    let far : length q.at < length (place_of q c.seat) = place_longer q c.seat in
    let one : length x.at ≡ length (place_of q c.seat) = ap (λ (ns : List ℕ). length ns) there in
    let two : length q.at ≡ length x.at = ap (λ (y : Flying). length y.at) same in
    absurd (omega arith)

module _ {N : Type 0} (nodes : Nodes N) (t : Terms) (sizes : ℕ → ℕ) (f : Forest) (before : Before) (s : SoFar)
    (slab : Slab (TiedNode N)) (queue leaves : List ℕ) (key : ℕ) (e : TiedNode N) where
  abbrev There : Type 0
  There = IsThere {N = N} nodes t sizes f before s slab queue leaves key e

  -- what is in flight as its parent, which is another
  pub record HasAbove (r : IsThere {N = N} nodes t sizes f before s slab queue leaves key e) (above n : ℕ) : Type 0 where
    pub parent : Flying
    pub child : Child
    pub other : above ≢ key
    pub flies : flying_at r.others above ≡ Some parent
    pub does : IsChildOf {N = N} nodes (held_of {N = N} e) r.node.at parent n child
    pub entry : TiedNode N
    pub there : get slab above ≡ Some entry

  pub has_above : (r : There) (above n : ℕ) → (held_of {N = N} e).parent ≡ OfNode above n → HasAbove r above n
  has_above r above n is =
      let lives : List Live = live_of key r.node ∷ r.others in
      let was : HeldIn nodes t (world {N = N} s.tops lives (shelf_of {N = N} slab) queue leaves) key r.node (held_of {N = N} e) =
      held_there nodes t (world {N = N} s.tops lives (shelf_of {N = N} slab) queue leaves) key r.node (held_of {N = N} e)
      r.kept.linked (first_at (live_of key r.node) r.others) r.held in
      let p : HasParent (top_at s.tops) (flying_at lives) e.ties.kind (nodes.told e.node) r.node.at (OfNode above n) =
      subst (λ (q : Parent). HasParent (top_at s.tops) (flying_at lives) e.ties.kind (nodes.told e.node) r.node.at q) is was.parent in
      let other : above ≢ key = λ same.
      not_itself r.node p.above p.for.child p.for.there
      (some_is p.above r.node (sym p.is ∙ ap (flying_at lives) same ∙ first_at (live_of key r.node) r.others)) in
      let up = on_shelf_there nodes t (world {N = N} s.tops lives (shelf_of {N = N} slab) queue leaves) above p.above r.kept.linked
      p.is in
      let held = from_held {N = N} (get slab above) up.0 up.1 in
      record {
        parent = p.above;
        child = p.for.child;
        other = other;
        flies = sym (other_at (live_of key r.node) r.others above other) ∙ p.is;
        does = record {
          is = p.for.is;
          goes = p.for.goes;
          there = p.for.there;
          of_kind = p.for.of_kind;
          heard = p.for.heard;
        };
        entry = held.0;
        there = held.1;
      }

  -- it comes second
  pub record IsAbove (r : IsThere {N = N} nodes t sizes f before s slab queue leaves key e) (above n : ℕ) (q : Flying)
      (g : TiedNode N) : Type 0 where
    pub others : List Live
    pub state : State
    pub kept : IsKept {N = N} nodes t sizes f before s.trees s.tops (live_of key r.node ∷ live_of above q ∷ others)
        (shelf_of {N = N} slab) queue leaves state
    pub entries_are : state.entries ≡ s.entries
    pub images_are : state.images ≡ s.images
    pub held : shelf_of {N = N} slab above ≡ Some (held_of {N = N} g)
    pub is : nodes.Is t g.node q.stack
    pub counts : CountsAre g.ties.counts q.stack.children
    pub seated : IsSeated q.stack
    pub given : g.ties.children ≡ length q.stack.children
    pub numbered : AreNumbered {N = N} slab (flying_at (live_of key r.node ∷ live_of above q ∷ others))
    pub theirs : DoTheirs (flying_at (live_of key r.node ∷ live_of above q ∷ others)) leaves s.ops
    pub flies : flying_at (live_of key r.node ∷ live_of above q ∷ others) above ≡ Some q
    pub ledger : IsLedger {N = N} nodes t f s.books s.entries s.tops s.trees (live_of key r.node ∷ live_of above q ∷ others) slab
    pub seen : List Choice
    pub of_round : IsOfRound t f seen q.stack

  second_seated : (x y : Live) (others : List Live) (state : State)
      → IsKept {N = N} nodes t sizes f before s.trees s.tops (x ∷ y ∷ others) (shelf_of {N = N} slab) queue leaves state
      → IsSeated y.stack
  second_seated x y others state k =
      let r : Later t sizes f before s.trees (flying_of x ∷ flying_of y ∷ all_flying s.tops others) state.entries state.images =
      running_as t sizes f before s.trees (all_flying s.tops (x ∷ y ∷ others)) (flying_of x ∷ flying_of y ∷ all_flying s.tops others)
      state k.running (two_forward s.tops x y others) in
      r.running.seated.1.0

  pub second_of_round : (x y : Live) (others : List Live) (state : State)
      → IsKept {N = N} nodes t sizes f before s.trees s.tops (x ∷ y ∷ others) (shelf_of {N = N} slab) queue leaves state
      → (seen : List Choice) × IsOfRound t f seen y.stack
  second_of_round x y others state k =
      let r : Later t sizes f before s.trees (flying_of x ∷ flying_of y ∷ all_flying s.tops others) state.entries state.images =
      running_as t sizes f before s.trees (all_flying s.tops (x ∷ y ∷ others)) (flying_of x ∷ flying_of y ∷ all_flying s.tops others)
      state k.running (two_forward s.tops x y others) in
      (r.state.entries, r.running.of_round.1.0)

  pub is_above : (r : There) (above n : ℕ) (p : HasAbove r above n) (g : TiedNode N) → get slab above ≡ Some g
      → IsAbove r above n p.parent g
  is_above r above n p g is =
      let front : Fronted r.others above p.parent = to_front r.others above p.parent r.kept.differ.1 p.flies in
      let lives : List Live = live_of key r.node ∷ live_of above p.parent ∷ front.others in
      let same : (k : ℕ) → flying_at lives k ≡ flying_at (live_of key r.node ∷ r.others) k =
      λ k. ap (λ (o : Option Flying). cond (same_number key k) (Some r.node) o) (front.same k) in
      let held : shelf_of {N = N} slab above ≡ Some (held_of {N = N} g) = ap (held_if {N = N}) is in
      let now : StillKept {N = N} nodes t sizes f before s.trees s.tops lives (shelf_of {N = N} slab) queue leaves r.state.entries
      r.state.images =
      kept_now t sizes f before s.trees nodes s.tops lives (shelf_of {N = N} slab) queue leaves r.state.entries r.state.images
      (running_as t sizes f before s.trees (all_flying s.tops (live_of key r.node ∷ r.others)) (all_flying s.tops lives) r.state
      r.kept.running
      (IsPermutation-append_right (standing s.tops) (map flying_of (live_of key r.node ∷ r.others)) (map flying_of lives)
      (IsPermutation-map flying_of (live_of key r.node ∷ r.others) lives
      (IsPermutation-cons (live_of key r.node) r.others (live_of above p.parent ∷ front.others) front.order))))
      r.kept.stand (front.same key ∙ r.kept.differ.0, front.differ)
      (linked_as t sizes f before s.trees nodes (top_at s.tops) (flying_at (live_of key r.node ∷ r.others)) (flying_at lives)
      (shelf_of {N = N} slab) queue leaves same r.kept.linked) in
      let was : HeldIn nodes t (world {N = N} s.tops lives (shelf_of {N = N} slab) queue leaves) above p.parent (held_of {N = N} g) =
      held_there nodes t (world {N = N} s.tops lives (shelf_of {N = N} slab) queue leaves) above p.parent (held_of {N = N} g)
      now.kept.linked (second_at (live_of key r.node) (live_of above p.parent) front.others now.kept.differ) held in
      let numbered : AreNumbered {N = N} slab (flying_at lives) =
      λ k h x there flies. r.numbered k h x there (sym (same k) ∙ flies) in
      let of_round = second_of_round (live_of key r.node) (live_of above p.parent) front.others now.state now.kept in
      record {
        others = front.others;
        state = now.state;
        kept = now.kept;
        entries_are = now.entries_are ∙ r.entries_are;
        images_are = now.images_are ∙ r.images_are;
        held = held;
        is = was.is;
        counts = was.counts;
        seated = second_seated (live_of key r.node) (live_of above p.parent) front.others now.state now.kept;
        given = numbered above g p.parent is (second_at (live_of key r.node) (live_of above p.parent) front.others now.kept.differ);
        numbered = numbered;
        theirs = λ k x flies. r.theirs k x (sym (same k) ∙ flies);
        flies = second_at (live_of key r.node) (live_of above p.parent) front.others now.kept.differ;
        ledger = ledger_order nodes t f s.books s.entries s.tops s.trees slab slab (live_of key r.node ∷ r.others) lives
            (IsPermutation-cons (live_of key r.node) r.others (live_of above p.parent ∷ front.others) front.order) r.ledger;
        seen = of_round.0;
        of_round = of_round.1;
      }
