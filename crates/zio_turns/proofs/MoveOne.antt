-- One node of an engine moves: it goes on, waits, goes to a leaf, and comes back.
use Rattle.std.proofs.Common.{◌≡◌, ◌≢◌, ℕ, ◌+◌, List, ◌∷◌, ◌++◌, Option, Some, None, refl, sym, ap, ◌∙◌, subst, arith}
use Rattle.std.specs.List.{AllByRecursion}
use Rattle.zio_types.specs.declared.request.ChildKind.{ChildKind}
use Rattle.zio_types.specs.declared.request.ChildKind.TheVariants.{Vdev, Gang, Logical}
use Rattle.zio_types.specs.declared.request.Phase.{Phase}
use Rattle.zio_types.specs.declared.request.Phase.TheVariants.{Ready, Done}
use Rattle.zio_types.specs.Choices.{Choice}
use Rattle.zio_types.specs.Machine.{Count}
use Rattle.zio_counts.specs.Tallies.{Tally, counted, stalled}
use Rattle.zio_cksum.specs.Images.{Images}
use Rattle.zio_gang.specs.Attempts.{Terms}
use Rattle.zio_gang.specs.Journals.{AreLawful}
use Rattle.zio_gang.specs.Trees.{sizes_of}
use Rattle.zio_trace.specs.Families.{Forest}
use Rattle.zio_trace.specs.Leaves.{LeafOp}
use Rattle.zio_trace.specs.SoundRounds.{IsSoundRound}
use Rattle.zio_trace.specs.Tasks.{Leaf}
use Rattle.zio_trace.specs.Underway.{State}
use Rattle.zio_frames.specs.Frames.{Child, Flying, Stack, fresh_stack}
use Rattle.zio_frames.specs.Moves.{Did, DoesAll, choices_of}
use Rattle.zio_frames.specs.Running.{Later}
use Rattle.zio_frames.specs.Slots.{Slot}
use Rattle.zio_turns.specs.Engine.{IsKept, IsRight, Rests, Queued, AtLeaf, Stalls, StillKept}
use Rattle.zio_staged.specs.Entries.{CountsAre, Held, IsWith, Live, OneMore, Shelf, live_of, times_in, with_both, with_node}
use Rattle.zio_staged.specs.Parts.{Nodes}
use Rattle.zio_turns.proofs.DoesLemmas.{does_all, same_children}
use Rattle.zio_turns.proofs.Kept.{all_flying, kept_now, later_as, one_back, one_forward, running_as, world}
use Rattle.zio_turns.proofs.Links.{HeldIn, Keeps, Linked, World, held_there}
use Rattle.zio_turns.proofs.LinksMove.{one_moves}
use Rattle.zio_turns.proofs.Lives.{first_at, with_first}
use Rattle.zio_turns.proofs.Queues.{more_other, more_there}
use Rattle.zio_turns.proofs.Seated.{keeps_with}

-- one that stands in the queue is queued
queued_rests : {N : Type 0} (due : N → Type 0) (q e : ℕ) (st : Stack) (h : Held N) → q ≢ 0 → Rests {N = N} due q e st h
    → (q ≡ 1) × (e ≡ 0) × (h.tally.stall ≡ None) × due h.node
queued_rests due q e st h n (Queued a b c d) = (a, b, c, d)
queued_rests due q e st h n (AtLeaf act a b c d) = absurd (n a)
queued_rests due q e st h n (Stalls count a b c d f) = absurd (n a)

leaf_rests : {N : Type 0} (due : N → Type 0) (q e : ℕ) (st : Stack) (h : Held N) → e ≢ 0 → Rests {N = N} due q e st h
    → (act : LeafOp) × (q ≡ 0) × (e ≡ 1) × (h.tally.stall ≡ None) × (st ≡ fresh_stack (Leaf act))
leaf_rests due q e st h n (Queued a b c d) = absurd (n b)
leaf_rests due q e st h n (AtLeaf act a b c d) = (act, a, b, c, d)
leaf_rests due q e st h n (Stalls count a b c d f) = absurd (n b)

pub more_some : (key : ℕ) (a b : List ℕ) → OneMore key a b → times_in key b ≢ 0
more_some key a b h z = let e : times_in key b ≡ times_in key a + 1 = more_there key a b h in absurd (omega arith)

counts_stalled : (count : Count) (x : Tally) (cs : List Child) → CountsAre x cs → CountsAre (stalled (Some count) x) cs
counts_stalled count x cs h Vdev Ready = h Vdev Ready
counts_stalled count x cs h Vdev Done = h Vdev Done
counts_stalled count x cs h Gang Ready = h Gang Ready
counts_stalled count x cs h Gang Done = h Gang Done
counts_stalled count x cs h Logical Ready = h Logical Ready
counts_stalled count x cs h Logical Done = h Logical Done

counted_stalled : (kind : ChildKind) (phase : Phase) (count : Count) (x : Tally)
    → counted kind phase (stalled (Some count) x) ≡ counted kind phase x
counted_stalled Vdev Ready count x = refl
counted_stalled Vdev Done count x = refl
counted_stalled Gang Ready count x = refl
counted_stalled Gang Done count x = refl
counted_stalled Logical Ready count x = refl
counted_stalled Logical Done count x = refl

pub less_one : (n m : ℕ) → n ≡ 1 → n ≡ m + 1 → m ≡ 0
less_one n m a b = omega arith

pub more_one : (n m : ℕ) → m ≡ 0 → n ≡ m + 1 → n ≡ 1
more_one n m a b = omega arith

module _ {N : Type 0} (nodes : Nodes N) (t : Terms) (sizes : ℕ → ℕ) (f : Forest) (before : Option Images) (trees : List Slot)
    (tops : List (Option Flying))
    (key : ℕ) (x : Flying) (others : List Live) (shelf : Shelf N) (queue leaves : List ℕ) (s : State) (h : Held N) where
  abbrev Kept : Type 0
  Kept = IsKept {N = N} nodes t sizes f before trees tops (live_of key x ∷ others) shelf queue leaves s

  abbrev World0 : World N
  World0 = world {N = N} tops (live_of key x ∷ others) shelf queue leaves

  pub it_is_held : Kept → shelf key ≡ Some h → HeldIn nodes t World0 key x h
  it_is_held k e = held_there nodes t World0 key x h k.linked (first_at (live_of key x) others) e

  pub queued_now : (rest : List ℕ) → Kept → shelf key ≡ Some h → OneMore key rest queue
      → (times_in key queue ≡ 1) × (times_in key leaves ≡ 0) × (h.tally.stall ≡ None) × nodes.due h.node
  queued_now rest k e more =
      queued_rests {N = N} nodes.due (times_in key queue) (times_in key leaves) x.stack h (more_some key rest queue more)
      (it_is_held k e).rests

  pub leaf_now : (rest : List ℕ) → Kept → shelf key ≡ Some h → OneMore key rest leaves
      → (act : LeafOp) × (times_in key queue ≡ 0) × (times_in key leaves ≡ 1) × (h.tally.stall ≡ None) ×
      (x.stack ≡ fresh_stack (Leaf act))
  leaf_now rest k e more =
      leaf_rests {N = N} nodes.due (times_in key queue) (times_in key leaves) x.stack h (more_some key rest leaves more)
      (it_is_held k e).rests

  pub running_first : Kept → Later t sizes f before trees (x ∷ all_flying tops others) s.entries s.images
  running_first k =
      running_as t sizes f before trees (all_flying tops (live_of key x ∷ others)) (x ∷ all_flying tops others) s k.running
      (one_forward tops (live_of key x) others)

  -- what is known of the links, with another stack, entry, queue and leaves
  pub one_linked : (st : Stack) (node : N) (tally : Tally) (shelf_now : Shelf N) (queue_now leaves_now : List ℕ) → Kept
      → shelf key ≡ Some h
      → IsWith shelf key (Some (with_both {N = N} h node tally)) shelf_now
      → ((k : ℕ) → k ≢ key → times_in k queue_now ≡ times_in k queue)
      → ((k : ℕ) → k ≢ key → times_in k leaves_now ≡ times_in k leaves)
      → st.children ≡ x.stack.children → ((n : ℕ) → Keeps x (record { at = x.at; stack = st }) n)
      → nodes.told node ≡ nodes.told h.node → nodes.Is t node st → CountsAre tally st.children
      → Rests {N = N} nodes.due (times_in key queue_now) (times_in key leaves_now) st (with_both {N = N} h node tally)
      → Linked nodes t (world {N = N} tops
      (live_of key (record { at = x.at; stack = st }) ∷ others) shelf_now queue_now leaves_now)
  one_linked st node tally shelf_now queue_now leaves_now k e with_it q l cs keeps told is counts rests =
      let w : World N = world {N = N} tops
      (live_of key (record { at = x.at; stack = st }) ∷ others) shelf_now queue_now leaves_now in
      one_moves nodes t World0 w key x st h node tally
      (record {
        flies = first_at (live_of key x) others;
        held = e;
        tops = λ n. refl;
        lives = with_first key x (record { at = x.at; stack = st }) others;
        shelf = with_it;
        queue = q;
        leaves = l;
        children = cs;
        keeps = keeps;
      }) told is counts rests k.linked

  -- it does several things itself
  pub one_goes_on : IsSoundRound t sizes f → Kept → shelf key ≡ Some h → (rest : List ℕ) → OneMore key rest queue
      → (dids : List Did) (st : Stack)
      → DoesAll t dids x.stack st → AllByRecursion (IsRight t) dids
      → AreLawful (sizes_of t.setting.tops) t.used (s.entries ++ choices_of dids)
      → (node : N) → nodes.Is t node st → nodes.told node ≡ nodes.told h.node → nodes.due node
      → (shelf_now : Shelf N) → IsWith shelf key (Some (with_node {N = N} h node)) shelf_now
      → StillKept {N = N} nodes t sizes f before trees tops
      (live_of key (record { at = x.at; stack = st }) ∷ others) shelf_now queue leaves
      (s.entries ++ choices_of dids) s.images
  one_goes_on sound k e rest more dids st does right lawful node is told due shelf_now with_it =
      let r : Later t sizes f before trees (x ∷ all_flying tops others) s.entries s.images = running_first k in
      let done = does_all t sizes f before trees x.at
      (all_flying tops others) sound dids x.stack st r.state r.running does right
      (subst (λ (cs : List Choice). AreLawful (sizes_of t.setting.tops) t.used (cs ++ choices_of dids))
      (sym r.entries_are) lawful) in
      let y : Flying = record { at = x.at; stack = st } in
      let now : Later t sizes f before trees (y ∷ all_flying tops others) (s.entries ++ choices_of dids) s.images =
      record {
        state = done.later.state;
        running = done.later.running;
        entries_are = done.later.entries_are ∙ ap (λ (cs : List Choice). cs ++ choices_of dids) r.entries_are;
        images_are = done.later.images_are ∙ r.images_are;
      } in
      let waits = queued_now rest k e more in
      let was : HeldIn nodes t World0 key x h = it_is_held k e in
      kept_now t sizes f before trees nodes tops (live_of key y ∷ others) shelf_now queue leaves
      (s.entries ++ choices_of dids) s.images
      (later_as t sizes f before trees (y ∷ all_flying tops others) (all_flying tops (live_of key y ∷ others))
      (s.entries ++ choices_of dids) s.images
      now (one_back tops (live_of key y) others))
      k.stand k.differ
      (one_linked st node h.tally shelf_now queue leaves k e with_it (λ i n. refl) (λ i n. refl) done.children
      (λ n. keeps_with x.at x.stack st n done.places (λ c g goes. same_children x.stack st n c done.children g))
      told is (subst (λ (cs : List Child). CountsAre h.tally cs) (sym done.children) was.counts)
      (Queued waits.0 waits.1 waits.2 due))

  same_later : Kept → (y : Flying) → y ≡ x → Later t sizes f before trees
      (all_flying tops (live_of key y ∷ others)) s.entries s.images
  same_later k y e =
      subst (λ (z : Flying). Later t sizes f before trees (all_flying tops (live_of key z ∷ others)) s.entries s.images) (sym e)
      (record { state = s; running = k.running; entries_are = refl; images_are = refl })

  -- it stalls on a count that isn't 0
  pub one_waits : Kept → shelf key ≡ Some h → (rest : List ℕ) → OneMore key rest queue → (count : Count)
      → counted count.kind count.phase h.tally ≢ 0 → (node : N) → nodes.Is t node x.stack → nodes.told node ≡ nodes.told h.node
      → nodes.due node
      → (shelf_now : Shelf N) → IsWith shelf key (Some (with_both {N = N} h node (stalled (Some count) h.tally))) shelf_now
      → StillKept {N = N} nodes t sizes f before trees tops (live_of key x ∷ others) shelf_now rest leaves s.entries s.images
  one_waits k e rest more count some node is told due shelf_now with_it =
      let waits = queued_now rest k e more in
      let was : HeldIn nodes t World0 key x h = it_is_held k e in
      kept_now t sizes f before trees nodes tops (live_of key x ∷ others) shelf_now rest leaves s.entries s.images
      (same_later k x refl) k.stand k.differ
      (one_linked x.stack node (stalled (Some count) h.tally) shelf_now rest leaves k e with_it
      (λ i n. sym (more_other key i rest queue more n)) (λ i n. refl) refl (λ n kind w at d. d) told is
      (counts_stalled count h.tally x.stack.children was.counts)
      (Stalls count (less_one (times_in key queue) (times_in key rest) waits.0 (more_there key rest queue more)) waits.1 refl
      (λ z. some (sym (counted_stalled count.kind count.phase count h.tally) ∙ z)) due))

  -- its operation goes to a leaf
  pub one_goes_to_leaf : Kept → shelf key ≡ Some h → (rest : List ℕ) → OneMore key rest queue → (act : LeafOp)
      → x.stack ≡ fresh_stack (Leaf act)
      → (leaves_now : List ℕ) → OneMore key leaves leaves_now → (node : N) → nodes.Is t node x.stack
      → nodes.told node ≡ nodes.told h.node → (shelf_now : Shelf N) → IsWith shelf key (Some (with_node {N = N} h node)) shelf_now
      → StillKept {N = N} nodes t sizes f before trees tops (live_of key x ∷ others) shelf_now rest leaves_now s.entries s.images
  one_goes_to_leaf k e rest more act fresh leaves_now more_leaves node is told shelf_now with_it =
      let waits = queued_now rest k e more in
      let was : HeldIn nodes t World0 key x h = it_is_held k e in
      kept_now t sizes f before trees nodes tops (live_of key x ∷ others) shelf_now rest leaves_now s.entries s.images
      (same_later k x refl) k.stand k.differ
      (one_linked x.stack node h.tally shelf_now rest leaves_now k e with_it
      (λ i n. sym (more_other key i rest queue more n)) (λ i n. more_other key i leaves leaves_now more_leaves n) refl
      (λ n kind w at d. d) told is was.counts
      (AtLeaf act (less_one (times_in key queue) (times_in key rest) waits.0 (more_there key rest queue more))
      (more_one (times_in key leaves_now) (times_in key leaves) waits.1
      (more_there key leaves leaves_now more_leaves)) waits.2 fresh))
