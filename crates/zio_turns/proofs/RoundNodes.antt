-- The node under a key of a round that an engine keeps.
use Rattle.std.proofs.Common.{◌≡◌, ℕ, List, [], ◌∷◌, length, Option, Some, None, refl, sym, ap, ◌∙◌}
use Rattle.zio_types.specs.Choices.{Choice}
use Rattle.zio_cksum.specs.Images.{Images}
use Rattle.zio_gang.specs.Attempts.{Terms}
use Rattle.zio_trace.specs.Families.{Forest}
use Rattle.zio_trace.specs.Underway.{State}
use Rattle.zio_frames.specs.Frames.{Flying, Stack}
use Rattle.zio_frames.specs.Moves.{Did, DoesAll}
use Rattle.zio_frames.specs.OfRound.{IsOfRound}
use Rattle.zio_frames.specs.Running.{Later}
use Rattle.zio_frames.specs.Seats.{IsSeated}
use Rattle.zio_frames.specs.Slots.{Slot}
use Rattle.slab.specs.Slab.{Slab, get}
use Rattle.zio_turns.specs.Engine.{IsKept, StillKept}
use Rattle.zio_staged.specs.Entries.{CountsAre, IsWith, KeysDiffer, Live, Shelf, flying_at, flying_of, live_of}
use Rattle.zio_turns.specs.Ledgers.{IsLedger}
use Rattle.zio_staged.specs.Parts.{Nodes}
use Rattle.zio_turns.specs.Rounds.{Before, DoTheirs, KeepsRound, SoFar}
use Rattle.zio_turns.specs.Slabs.{AreNumbered, held_if, held_of, shelf_of}
use Rattle.zio_turns.specs.declared.entry.TiedNode.{TiedNode}
use Rattle.zio_turns.proofs.Kept.{all_flying, kept_fronted, one_forward, running_as, world}
use Rattle.zio_turns.proofs.LedgerMoves.{ledger_order}
use Rattle.zio_turns.proofs.Links.{in_flight_there}
use Rattle.zio_turns.proofs.Lives.{Fronted, other_at, to_front}
use Rattle.zio_turns.proofs.Seated.{children_does}

-- what is kept with other words for the entries and the images
pub still_as : {N : Type 0} (nodes : Nodes N) (t : Terms) (sizes : ℕ → ℕ) (f : Forest) (before : Before) (trees : List Slot)
    (tops : List (Option Flying)) (lives : List Live) (shelf : Shelf N) (queue leaves : List ℕ) (entries more : List Choice)
    (images now : Images)
    → StillKept {N = N} nodes t sizes f before trees tops lives shelf queue leaves entries images → entries ≡ more → images ≡ now
    → StillKept {N = N} nodes t sizes f before trees tops lives shelf queue leaves more now
still_as nodes t sizes f before trees tops lives shelf queue leaves entries more images now k e i =
    record { state = k.state; kept = k.kept; entries_are = k.entries_are ∙ e; images_are = k.images_are ∙ i }

-- what it does itself leaves its children
pub does_children : (t : Terms) (dids : List Did) (a b : Stack) → DoesAll t dids a b → b.children ≡ a.children
does_children t [] a b does = ap (λ (st : Stack). st.children) does
does_children t (did ∷ dids) a b does = does_children t dids does.0 b does.2 ∙ children_does t did a does.0 does.1

-- without the first, nothing is under its key
pub without_first : (key : ℕ) (x : Flying) (others : List Live) → KeysDiffer (live_of key x ∷ others)
    → IsWith (flying_at (live_of key x ∷ others)) key None (flying_at others)
without_first key x others d = record { there = d.0; others = λ k n. sym (other_at (live_of key x) others k n) }

module _ {N : Type 0} (nodes : Nodes N) (t : Terms) (sizes : ℕ → ℕ) (f : Forest) (before : Before) (s : SoFar)
    (slab : Slab (TiedNode N)) (queue leaves : List ℕ) where
  -- it is so far, and comes first
  pub record IsThere (key : ℕ) (e : TiedNode N) : Type 0 where
    pub node : Flying
    pub others : List Live
    pub state : State
    pub kept : IsKept {N = N} nodes t sizes f before s.trees s.tops (live_of key node ∷ others) (shelf_of {N = N} slab) queue leaves state
    pub entries_are : state.entries ≡ s.entries
    pub images_are : state.images ≡ s.images
    pub held : shelf_of {N = N} slab key ≡ Some (held_of {N = N} e)
    pub is : nodes.Is t e.node node.stack
    pub counts : CountsAre e.ties.counts node.stack.children
    pub seated : IsSeated node.stack
    pub given : e.ties.children ≡ length node.stack.children
    pub numbered : AreNumbered {N = N} slab (flying_at (live_of key node ∷ others))
    pub theirs : DoTheirs (flying_at (live_of key node ∷ others)) leaves s.ops
    pub there : get slab key ≡ Some e
    pub ledger : IsLedger {N = N} nodes t f s.books s.entries s.tops s.trees (live_of key node ∷ others) slab
    pub seen : List Choice
    pub of_round : IsOfRound t f seen node.stack

  first_seated : (tops : List (Option Flying)) (x : Live) (others : List Live) (state : State)
      → IsKept {N = N} nodes t sizes f before s.trees tops (x ∷ others) (shelf_of {N = N} slab) queue leaves state
      → IsSeated x.stack
  first_seated tops x others state k =
      let r : Later t sizes f before s.trees (flying_of x ∷ all_flying tops others) state.entries state.images =
      running_as t sizes f before s.trees (all_flying tops (x ∷ others)) (flying_of x ∷ all_flying tops others) state k.running
      (one_forward tops x others) in
      r.running.seated.0

  first_of_round : (tops : List (Option Flying)) (x : Live) (others : List Live) (state : State)
      → IsKept {N = N} nodes t sizes f before s.trees tops (x ∷ others) (shelf_of {N = N} slab) queue leaves state
      → (seen : List Choice) × IsOfRound t f seen x.stack
  first_of_round tops x others state k =
      let r : Later t sizes f before s.trees (flying_of x ∷ all_flying tops others) state.entries state.images =
      running_as t sizes f before s.trees (all_flying tops (x ∷ others)) (flying_of x ∷ all_flying tops others) state k.running
      (one_forward tops x others) in
      (r.state.entries, r.running.of_round.0)

  pub it_is_there : (key : ℕ) (e : TiedNode N) → KeepsRound {N = N} nodes t sizes f before s slab queue leaves
      → get slab key ≡ Some e → IsThere key e
  it_is_there key e k is =
      let held : shelf_of {N = N} slab key ≡ Some (held_of {N = N} e) = ap (held_if {N = N}) is in
      let found = in_flight_there nodes t (world {N = N} s.tops k.lives (shelf_of {N = N} slab) queue leaves) key
      (held_of {N = N} e) k.still.kept.linked held in
      let front : Fronted k.lives key found.0 = to_front k.lives key found.0 k.still.kept.differ found.1 in
      let now : StillKept {N = N} nodes t sizes f before s.trees s.tops (live_of key found.0 ∷ front.others)
      (shelf_of {N = N} slab) queue leaves k.still.state.entries k.still.state.images =
      kept_fronted t sizes f before s.trees nodes s.tops k.lives (shelf_of {N = N} slab) queue leaves k.still.state key found.0
      k.still.kept front in
      let of_round = first_of_round s.tops (live_of key found.0) front.others now.state now.kept in
      record {
        node = found.0;
        others = front.others;
        state = now.state;
        kept = now.kept;
        entries_are = now.entries_are ∙ k.still.entries_are;
        images_are = now.images_are ∙ k.still.images_are;
        held = held;
        is = found.2.is;
        counts = found.2.counts;
        seated = first_seated s.tops (live_of key found.0) front.others now.state now.kept;
        given = k.numbered key e found.0 is found.1;
        numbered = λ i g x there flies. k.numbered i g x there (sym (front.same i) ∙ flies);
        theirs = λ i x flies. k.theirs i x (sym (front.same i) ∙ flies);
        there = is;
        ledger = ledger_order nodes t f s.books s.entries s.tops s.trees slab slab k.lives (live_of key found.0 ∷ front.others) front.order
            k.ledger;
        seen = of_round.0;
        of_round = of_round.1;
      }

-- a key that waits has a node
pub held_entry : {N : Type 0} (slab : Slab (TiedNode N)) (key : ℕ) (o : Option (TiedNode N)) → get slab key ≡ o
    → (held_if {N = N} o ≡ None → ⊥) → (e : TiedNode N) × (get slab key ≡ Some e)
held_entry slab key None e some = absurd (some refl)
held_entry slab key (Some g) e some = (g, e)
