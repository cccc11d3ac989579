-- A node of an engine ends, and its parent has its value.
use Rattle.std.proofs.Common.{◌≡◌, ◌≢◌, ℕ, ◌+◌, List, ◌∷◌, slice_get, slice_set, Bool, true, false, Option, Some, None, refl, sym, ap, ◌∙◌, subst}
use Rattle.zio_types.specs.declared.error.Errno.{Errno}
use Rattle.zio_types.specs.declared.request.Bits.{Bits}
use Rattle.zio_types.specs.declared.request.ChildKind.{ChildKind}
use Rattle.zio_types.specs.declared.request.Phase.TheVariants.{Done}
use Rattle.zio_counts.specs.Tallies.{counted, is_last, notified}
use Rattle.zio_cksum.specs.Images.{Images}
use Rattle.zio_gang.specs.Attempts.{Terms}
use Rattle.zio_trace.specs.Families.{Forest}
use Rattle.zio_trace.specs.Keys.{bit}
use Rattle.zio_trace.specs.Tasks.{Value}
use Rattle.zio_trace.specs.Underway.{State}
use Rattle.zio_frames.specs.Frames.{Child, Flying, needs_none, place_of}
use Rattle.zio_frames.specs.Moves.{IsEnded, child_ended, heard_of}
use Rattle.zio_frames.specs.Running.{FitsTold, Later}
use Rattle.zio_frames.specs.Slots.{Heard, Slot}
use Rattle.zio_frames.proofs.NodeMoves.{node_arrives}
use Rattle.zio_turns.specs.Engine.{IsKept, StillKept}
use Rattle.zio_staged.specs.Entries.{AreWith, CountsAre, Held, Live, OfNode, OneMore, OneMoreIf, Shelf, flying_at, heard_as, live_of, owes, times_in, with_both}
use Rattle.zio_staged.specs.Parts.{Nodes}
use Rattle.zio_turns.proofs.Counts.{counted_owes, counts_ended}
use Rattle.zio_turns.proofs.Fates.{ended_fate}
use Rattle.zio_turns.proofs.HearLemmas.{IsChild, child_is, does_here, told_all}
use Rattle.zio_turns.proofs.Kept.{all_flying, kept_now, later_as, one_back, running_as, two_forward, world}
use Rattle.zio_turns.proofs.Links.{HeldIn, World, held_there}
use Rattle.zio_turns.proofs.LinksHear.{ChildMoves, node_hears}
use Rattle.zio_turns.proofs.Lives.{first_at, other_at, second_at, second_other}
use Rattle.zio_turns.proofs.MoveOne.{less_one, queued_now}
use Rattle.zio_turns.proofs.Queues.{more_if_other, more_if_there, more_other, more_there}
use Rattle.zio_turns.proofs.Waits.{rests_notified}

owes_end : (c : Child) → c.ended ≡ false → owes Done c ≡ true
owes_end c e = by c.ended e
  where
    by : (ended : Bool) → ended ≡ false
        → owes Done (record { seat = c.seat; kind = c.kind; told = c.told; ended = ended }) ≡ true
    by true e = absurd (cc)
    by false e = refl

module _ {N : Type 0} (nodes : Nodes N) (t : Terms) (sizes : ℕ → ℕ) (f : Forest) (before : Option Images) (trees : List Slot)
    (tops : List (Option Flying))
    (shelf : Shelf N) (queue leaves : List ℕ) (s : State) where
  -- its value fits what it told, and the parent has it
  pub arrives_on : (x q : Flying) (rest : List Flying) (n : ℕ) (c : Child) (v : Value)
      → Later t sizes f before trees (x ∷ q ∷ rest) s.entries s.images → IsEnded t x.stack v
      → slice_get q.stack.children n ≡ Some c → c.ended ≡ false → x.at ≡ place_of q c.seat
      → FitsTold q.stack c v × Later t sizes f before trees
      (heard_as q n c.seat (Heard v) (child_ended c) ∷ rest) s.entries s.images
  arrives_on x q rest n c v r ended there goes is =
      let both : FitsTold q.stack c v
      × Later t sizes f before trees (heard_as q n c.seat (Heard v) (child_ended c) ∷ rest) r.state.entries r.state.images
      = node_arrives t sizes f before trees x q rest r.state n c v r.running ended there goes is in
      let done = both.1 in (
        both.0,
        record {
          state = done.state;
          running = done.running;
          entries_are = done.entries_are
              ∙ r.entries_are;
          images_are = done.images_are ∙ r.images_are;
        },
      )

  abbrev KeptTwo : ℕ → ℕ → Flying → Flying → List Live → Type 0
  KeptTwo key above x q others =
      IsKept {N = N} nodes t sizes f before trees tops (live_of key x ∷ live_of above q ∷ others) shelf queue leaves s

  pub two_running : (key above : ℕ) (x q : Flying) (others : List Live) → KeptTwo key above x q others
      → Later t sizes f before trees (x ∷ q ∷ all_flying tops others) s.entries s.images
  two_running key above x q others k =
      running_as t sizes f before trees (all_flying tops (live_of key x ∷ live_of above q ∷ others))
      (x ∷ q ∷ all_flying tops others) s k.running
      (two_forward tops (live_of key x) (live_of above q) others)

  pub two_child : (key above : ℕ) (x q : Flying) (others : List Live) (h : Held N) (n : ℕ) (c : Child)
      → KeptTwo key above x q others
      → shelf key ≡ Some h → h.parent ≡ OfNode above n → slice_get q.stack.children n ≡ Some c
      → IsChild h.kind (nodes.told h.node) x.at q n c
  two_child key above x q others h n c k e parent there =
      let lives : List Live = live_of key x ∷ live_of above q ∷ others in
      let a : World N = world {N = N} tops lives shelf queue leaves in
      let was : HeldIn nodes t a key x h = held_there nodes t a key x h k.linked
      (first_at (live_of key x) (live_of above q ∷ others)) e in
      child_is h.kind (nodes.told h.node) x.at q n c
      (does_here a.tops a.lives h.kind (nodes.told h.node) x.at h.parent (OfNode above n) q was.parent parent
      (second_at (live_of key x) (live_of above q) others k.differ)) there

  -- what its parent counts of its kind
  pub one_counts : (key above : ℕ) (x q : Flying) (others : List Live) (h g : Held N) (n : ℕ) (c : Child)
      → KeptTwo key above x q others
      → shelf key ≡ Some h → h.parent ≡ OfNode above n → shelf above ≡ Some g → slice_get q.stack.children n ≡ Some c
      → counted h.kind Done g.tally ≢ 0
  one_counts key above x q others h g n c k e parent eg there =
      let a : World N = world {N = N} tops (live_of key x ∷ live_of above q ∷ others) shelf queue leaves in
      let was_up : HeldIn nodes t a above q g
      = held_there nodes t a above q g k.linked (second_at (live_of key x) (live_of above q) others k.differ) eg in
      let child : IsChild h.kind (nodes.told h.node) x.at q n c = two_child key above x q others h n c k e parent there in
      subst (λ (kind : ChildKind). counted kind Done g.tally ≢ 0) child.of_kind
      (counted_owes g.tally q.stack.children n c Done there (owes_end c child.goes) was_up.counts)

  pub one_fits : (key above : ℕ) (x q : Flying) (others : List Live) (h : Held N) (n : ℕ) (c : Child) (v : Value)
      → KeptTwo key above x q others
      → shelf key ≡ Some h → h.parent ≡ OfNode above n → slice_get q.stack.children n ≡ Some c → IsEnded t x.stack v
      → FitsTold q.stack c v
  one_fits key above x q others h n c v k e parent there ended =
      let child : IsChild h.kind (nodes.told h.node) x.at q n c = two_child key above x q others h n c k e parent there in
      (arrives_on x q (all_flying tops others) n c v (two_running key above x q others k) ended there child.goes child.there).0

  pub one_ends : (key above : ℕ) (x q : Flying) (others : List Live) (h g : Held N) (n : ℕ) (c : Child) (v : Value)
      → KeptTwo key above x q others
      → shelf key ≡ Some h → h.parent ≡ OfNode above n → shelf above ≡ Some g → (rest : List ℕ) → OneMore key rest queue
      → IsEnded t x.stack v → (needs_none h.kind ≡ false → nodes.told h.node ≡ true) → slice_get q.stack.children n ≡ Some c
      → (up : N) → nodes.Is t up (heard_of q.stack n c v) → nodes.told up ≡ nodes.told g.node → (nodes.due g.node → nodes.due up)
      → (error : Option Errno) (bits : Bits)
      → (shelf_now : Shelf N)
      → AreWith shelf key None above (Some (with_both {N = N} g up (notified h.kind Done error bits g.tally))) shelf_now
      → (queue_now : List ℕ) → OneMoreIf (is_last h.kind Done g.tally) above rest queue_now
      → StillKept {N = N} nodes t sizes f before trees tops
      (live_of above (record { at = q.at; stack = heard_of q.stack n c v }) ∷ others) shelf_now
      queue_now leaves s.entries s.images
  one_ends key above x q others h g n c v k e parent eg rest off ended told there up is_up told_up still error bits shelf_now with_two
      queue_now more =
      let lives : List Live = live_of key x ∷ live_of above q ∷ others in
      let y : Flying = heard_as q n c.seat (Heard v) (child_ended c) in
      let now : List Live = live_of above y ∷ others in
      let a : World N = world {N = N} tops lives shelf queue leaves in
      let b : World N = world {N = N} tops now shelf_now queue_now leaves in
      let other : above ≢ key = second_other (live_of key x) (live_of above q) others k.differ in
      let key_other : key ≢ above = λ i. other (sym i) in
      let flies : flying_at lives key ≡ Some x = first_at (live_of key x) (live_of above q ∷ others) in
      let flies_up : flying_at lives above ≡ Some q = second_at (live_of key x) (live_of above q) others k.differ in
      let was_up : HeldIn nodes t a above q g = held_there nodes t a above q g k.linked flies_up eg in
      let waits = queued_now nodes t sizes f before trees tops key x
      (live_of above q ∷ others) shelf queue leaves s h rest k e off in
      let child : IsChild h.kind (nodes.told h.node) x.at q n c = two_child key above x q others h n c k e parent there in
      let has_told : c.told ≡ true = child.heard ∙ told_all h.kind (nodes.told h.node) told in
      let r : Later t sizes f before trees
      (x ∷ q ∷ all_flying tops others) s.entries s.images = two_running key above x q others k in
      let counts : CountsAre (notified h.kind Done error bits g.tally) (slice_set q.stack.children n (child_ended c)) =
      subst (λ (kind : ChildKind). CountsAre (notified kind Done error bits g.tally)
      (slice_set q.stack.children n (child_ended c))) child.of_kind
      (counts_ended g.tally q.stack.children n c error bits there has_told child.goes was_up.counts) in
      let gone : flying_at others key ≡ None = sym (other_at (live_of above q) others key key_other) ∙ k.differ.0 in
      let rest_at : times_in above rest ≡ times_in above queue = sym (more_other key above rest queue off other) in
      let fate : ChildMoves {N = N} nodes t a b key h (OfNode above n) (child_ended c) =
      ended_fate nodes t a b key x h (OfNode above n) q c (Heard v) v
      (record {
        flies = flies;
        held = e;
        parent_is = parent;
        flies_no_more = other_at (live_of above y) others key key_other ∙ gone;
        held_no_more = with_two.there;
        queue = more_if_other (is_last h.kind Done g.tally) above key rest queue_now more key_other
            ∙ less_one (times_in key queue) (times_in key rest) waits.0 (more_there key rest queue off);
        leaves = waits.1;
      }) r.running.seated.0 ended in
      kept_now t sizes f before trees nodes tops now shelf_now queue_now leaves s.entries s.images
      (later_as t sizes f before trees (y ∷ all_flying tops others) (all_flying tops now) s.entries s.images
      (arrives_on x q (all_flying tops others) n c v r ended there child.goes child.there).1
      (one_back tops (live_of above y) others))
      k.stand k.differ.1
      (node_hears nodes t a b key above h q g n c.seat (Heard v) (child_ended c) up (notified h.kind Done error bits g.tally)
      (record {
        flies = flies_up;
        held = eg;
        other = other;
        tops = λ i. refl;
        flies_now = first_at (live_of above y) others;
        held_now = with_two.also;
        lives = λ i m j. other_at (live_of above y) others i j ∙ sym (other_at (live_of above q) others i j)
            ∙ sym (other_at (live_of key x) (live_of above q ∷ others) i m);
        shelf = with_two.others;
        queue = λ i m j. more_if_other (is_last h.kind Done g.tally) above i rest queue_now more j
            ∙ sym (more_other key i rest queue off m);
        leaves = λ i m j. refl;
      }) fate told_up is_up counts
      (rests_notified {N = N} nodes.due (times_in above queue) (times_in above queue_now)
      (times_in above leaves) q.stack y.stack g up h.kind Done error bits n c there
      (one_counts key above x q others h g n c k e parent eg there)
      (more_if_there (is_last h.kind Done g.tally) above rest queue_now more
      ∙ ap (λ i. i + bit (is_last h.kind Done g.tally)) rest_at) still was_up.rests)
      k.linked)
