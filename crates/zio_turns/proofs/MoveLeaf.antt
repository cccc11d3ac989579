-- A node of an engine comes back from a leaf.
use Rattle.std.proofs.Common.{◌≡◌, ℕ, List, [], ◌∷◌, slice_get, Option, Some, refl, sym, ◌∙◌, subst}
use Rattle.zio_cksum.specs.Images.{Images}
use Rattle.zio_gang.specs.Attempts.{Terms}
use Rattle.zio_trace.specs.Entries.{AnswersOnLeaf}
use Rattle.zio_trace.specs.Families.{Forest}
use Rattle.zio_trace.specs.Leaves.{Answer, LeafOp}
use Rattle.zio_trace.specs.SoundRounds.{IsSoundRound}
use Rattle.zio_trace.specs.Tasks.{Got, Leaf}
use Rattle.zio_trace.specs.Underway.{State}
use Rattle.zio_frames.specs.Frames.{Child, Flying, Stack, fresh_stack}
use Rattle.zio_frames.specs.Moves.{done_at_once}
use Rattle.zio_frames.specs.Running.{Later}
use Rattle.zio_frames.specs.Slots.{Slot}
use Rattle.zio_frames.proofs.MoveItself.{leaf_node}
use Rattle.zio_turns.specs.Engine.{IsKept, Queued, StillKept}
use Rattle.zio_staged.specs.Entries.{Held, IsWith, Live, OneMore, Shelf, live_of, times_in, with_node}
use Rattle.zio_staged.specs.Parts.{Nodes}
use Rattle.zio_turns.proofs.Kept.{all_flying, kept_now, later_as, one_back}
use Rattle.zio_turns.proofs.MoveOne.{it_is_held, leaf_now, less_one, more_one, one_linked, running_first}
use Rattle.zio_turns.proofs.Queues.{more_other, more_there}
use Rattle.zio_turns.proofs.Seated.{keeps_with}

-- with what the leaf answered
abbrev pub leaf_done : LeafOp → Answer → Stack
leaf_done act a = done_at_once (fresh_stack (Leaf act)) (Leaf act) (Got a)

no_child : (n : ℕ) (c : Child) → slice_get [] n ≡ Some c → ⊥
no_child n c e = cc

module _ {N : Type 0} (nodes : Nodes N) (t : Terms) (sizes : ℕ → ℕ) (f : Forest) (before : Option Images) (trees : List Slot)
    (tops : List (Option Flying))
    (key : ℕ) (at : List ℕ) (act : LeafOp) (others : List Live) (shelf : Shelf N) (queue leaves : List ℕ) (s : State)
    (h : Held N) where
  abbrev Kept : Type 0
  Kept = IsKept {N = N} nodes t sizes f before trees tops
      (live_of key (record { at = at; stack = fresh_stack (Leaf act) }) ∷ others) shelf queue leaves s

  pub one_comes_back : IsSoundRound t sizes f → Kept → shelf key ≡ Some h → (rest : List ℕ) → OneMore key rest leaves
      → (a : Answer) (after : Images) → AnswersOnLeaf t before act s.images a after
      → (node : N) → nodes.Is t node (leaf_done act a) → nodes.told node ≡ nodes.told h.node → nodes.due node
      → (shelf_now : Shelf N) → IsWith shelf key (Some (with_node {N = N} h node)) shelf_now
      → (queue_now : List ℕ) → OneMore key queue queue_now
      → StillKept {N = N} nodes t sizes f before trees tops
      (live_of key (record { at = at; stack = leaf_done act a }) ∷ others) shelf_now
      queue_now rest s.entries after
  one_comes_back sound k e rest more a after answers node is told due shelf_now with_it queue_now more_queue =
      let x : Flying = record { at = at; stack = fresh_stack (Leaf act) } in
      let y : Flying = record { at = at; stack = leaf_done act a } in
      let waits = leaf_now nodes t sizes f before trees tops key x others shelf queue leaves s h rest k e more in
      let was = it_is_held nodes t sizes f before trees tops key x others shelf queue leaves s h k e in
      let r : Later t sizes f before trees (x ∷ all_flying tops others) s.entries s.images
      = running_first nodes t sizes f before trees tops key x others shelf queue leaves s h k in
      let done : Later t sizes f before trees (y ∷ all_flying tops others) r.state.entries after
      = leaf_node t sizes f before trees (all_flying tops others) r.state sound at act a after r.running
      (subst (λ (i : Images). AnswersOnLeaf t before act i a after) (sym r.images_are) answers) in
      let now : Later t sizes f before trees (y ∷ all_flying tops others) s.entries after =
      record {
        state = done.state;
        running = done.running;
        entries_are = done.entries_are ∙ r.entries_are;
        images_are = done.images_are;
      } in
      kept_now t sizes f before trees nodes tops (live_of key y ∷ others) shelf_now queue_now rest s.entries after
      (later_as t sizes f before trees (y ∷ all_flying tops others) (all_flying tops (live_of key y ∷ others)) s.entries
      after now (one_back tops (live_of key y) others))
      k.stand k.differ
      (one_linked nodes t sizes f before trees tops key x others shelf queue leaves s h
      (leaf_done act a) node h.tally shelf_now queue_now rest k e
      with_it (λ i n. more_other key i queue queue_now more_queue n) (λ i n. sym (more_other key i rest leaves more n)) refl
      (λ n. keeps_with at (fresh_stack (Leaf act)) (leaf_done act a) n (λ m c g goes. absurd (no_child m c g))
      (λ c g goes. g))
      told is was.counts
      (Queued (more_one (times_in key queue_now) (times_in key queue) waits.1 (more_there key queue queue_now more_queue))
      (less_one (times_in key leaves) (times_in key rest) waits.2 (more_there key rest leaves more)) waits.3 due))
