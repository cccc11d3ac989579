-- What waits at the leaves is in flight in the round: what holds of the spot of each write in flight holds of all that wait.
use Rattle.std.proofs.Common.{◌≡◌, ℕ, ◌≤◌, arith, List, [], ◌∷◌, map, filter, cond, Bool, true, false, refl, sym, ap, ◌∙◌, Option, Some, None, subst}
use Rattle.std.specs.List.{AllByRecursion}
use Rattle.zio_types.specs.Choices.{Choice}
use Rattle.zio_cksum.specs.Images.{Spot}
use Rattle.zio_cksum.proofs.AllLemmas.{all_weaker}
use Rattle.zio_gang.specs.Attempts.{Terms}
use Rattle.zio_groups.specs.declared.waiting.QueuedOp.{QueuedOp}
use Rattle.zio_groups.specs.Issued.{spot_of as spot_at, written_spots}
use Rattle.zio_trace.specs.Families.{Forest}
use Rattle.zio_trace.specs.Keys.{bit}
use Rattle.zio_trace.specs.Leaves.{Fetch, LeafOp, Store, spot_of, stores}
use Rattle.zio_trace.specs.Tasks.{Leaf}
use Rattle.zio_trace.specs.Underway.{State}
use Rattle.zio_trace.proofs.LabelLemmas.{number_itself}
use Rattle.zio_frames.specs.Frames.{Flying, Stack, fresh_stack}
use Rattle.zio_frames.specs.Running.{IsRunning, Later}
use Rattle.slab.specs.Slab.{Slab}
use Rattle.zio_exchange.specs.LeafOps.{IsOpAt}
use Rattle.zio_turns.specs.AtLeaves.{WaitsFor, key_of, keyed, keys_at, keys_in, waiting_at}
use Rattle.zio_turns.specs.Engine.{Matches, StillKept}
use Rattle.zio_staged.specs.Entries.{Held, Live, Shelf, flying_at, live_of, times_in, top_at}
use Rattle.zio_staged.specs.Parts.{Nodes}
use Rattle.zio_turns.specs.Rounds.{Before, SoFar}
use Rattle.zio_turns.specs.Slabs.{shelf_of}
use Rattle.zio_turns.specs.UnderTurns.{IsGoingOn}
use Rattle.zio_turns.specs.declared.entry.TiedNode.{TiedNode}
use Rattle.zio_turns.specs.declared.grounds.Grounds.{Grounds}
use Rattle.zio_turns.proofs.Kept.{all_flying, kept_fronted, one_forward, running_as}
use Rattle.zio_turns.proofs.KeyTimes.{times_one}
use Rattle.zio_turns.proofs.Lives.{Fronted, to_front}

-- ---- spots

-- this holds of the spots, where the first operation is one of those that write or not
abbrev WithOne : (Spot → Type 0) → ℕ → QueuedOp → List QueuedOp → Bool → Type 0
WithOne P leaf w ws b = AllByRecursion P (map (λ (x : QueuedOp). spot_at leaf x.op) (cond b (w ∷ filter (λ (x : QueuedOp). x.op.write) ws) (filter (λ (x : QueuedOp). x.op.write) ws)))

-- what holds of the spot of each operation that writes
written_all : (P : Spot → Type 0) (leaf : ℕ) (ws : List QueuedOp) → AllByRecursion (λ (w : QueuedOp). w.op.write ≡ true → P (spot_at leaf w.op)) ws
    → AllByRecursion P (written_spots leaf ws)
written_all P leaf [] h = tt
written_all P leaf (w ∷ ws) h = one (written_all P leaf ws h.1) w.op.write refl
  where
    one : AllByRecursion P (written_spots leaf ws) → (b : Bool) → w.op.write ≡ b → AllByRecursion P (written_spots leaf (w ∷ ws))
    one rest true e = subst (WithOne P leaf w ws) (sym e) (h.0 e, rest)
    one rest false e = subst (WithOne P leaf w ws) (sym e) rest

-- ---- keys

waits_once : (ws : List QueuedOp) → AllByRecursion (λ (w : QueuedOp). 1 ≤ times_in (key_of w) (keys_in ws)) ws
waits_once [] = tt
waits_once (w ∷ ws) = (
  (let itself = ap bit (number_itself (key_of w)) in omega arith),
  all_weaker (λ (x : QueuedOp). 1 ≤ times_in (key_of x) (keys_in ws)) (λ (x : QueuedOp). 1 ≤ times_in (key_of x) (keys_in (w ∷ ws))) ws
      (λ x some. omega arith) (waits_once ws),
)

-- ---- a round that goes on

matched : {N : Type 0} (nodes : Nodes N) (t : Terms) (tops lives : ℕ → Option Flying) (shelf : Shelf N) (queue leaves : List ℕ) (key : ℕ)
    (o : Option Flying) (h : Option (Held N)) → Matches {N = N} nodes t tops lives shelf queue leaves key o h → 1 ≤ times_in key leaves
    → (x : Flying) × (o ≡ Some x)
matched nodes t tops lives shelf queue leaves key None None m some = absurd (let none = m.1 in omega arith)
matched nodes t tops lives shelf queue leaves key None (Some h) m some = absurd m
matched nodes t tops lives shelf queue leaves key (Some x) None m some = absurd m
matched nodes t tops lives shelf queue leaves key (Some x) (Some h) m some = (x, refl)

-- The operation comes first of what is in flight in some state of the round, which has these entries.
pub record FliesFirst (t : Terms) (sizes : ℕ → ℕ) (f : Forest) (before : Before) (s : SoFar) (entries : List Choice) (act : LeafOp)
    : Type 0 where
  pub at : List ℕ
  pub others : List Flying
  pub state : State
  pub running : IsRunning t sizes f before s.trees (record { at = at; stack = fresh_stack (Leaf act) } ∷ others) state
  pub entries_are : state.entries ≡ entries

module _ {N D : Type 0} (nodes : Nodes N) (bytes : D → ℕ) (image : D → List ℕ → Type 0) (t : Terms) (sizes : ℕ → ℕ) (f : Forest)
    (before : Before) (s : SoFar) (slab : Slab (TiedNode N)) (line : List ℕ) (g : Grounds D)
    (going : IsGoingOn {N = N} {D = D} nodes bytes image t sizes f before s slab line g) where
  -- so does that under a key at a leaf
  pub flies_first : (key : ℕ) → 1 ≤ times_in key (keys_at g.queues.leaves.items)
      → FliesFirst t sizes f before s going.keeps.still.state.entries (s.ops key)
  flies_first key some =
      let still : StillKept {N = N} nodes t sizes f before s.trees s.tops going.keeps.lives (shelf_of {N = N} slab) line
      (keys_at g.queues.leaves.items) s.entries s.images = going.keeps.still in
      let lives : List Live = going.keeps.lives in
      let shelf : Shelf N = shelf_of {N = N} slab in
      let leaves : List ℕ = keys_at g.queues.leaves.items in
      let there = matched nodes t (top_at s.tops) (flying_at lives) shelf line leaves key (flying_at lives key) (shelf key)
      (still.kept.linked.each key) some in
      let front : Fronted lives key there.0 = to_front lives key there.0 still.kept.differ there.1 in
      let kept : StillKept {N = N} nodes t sizes f before s.trees s.tops (live_of key there.0 ∷ front.others) shelf line leaves still.state.entries still.state.images =
      kept_fronted t sizes f before s.trees nodes s.tops lives shelf line leaves still.state key there.0 still.kept front in
      let later : Later t sizes f before s.trees (there.0 ∷ all_flying s.tops front.others) kept.state.entries kept.state.images =
      running_as t sizes f before s.trees (all_flying s.tops (live_of key there.0 ∷ front.others))
      (there.0 ∷ all_flying s.tops front.others) kept.state kept.kept.running (one_forward s.tops (live_of key there.0) front.others) in
      let is : there.0.stack ≡ fresh_stack (Leaf (s.ops key)) = going.keeps.theirs key there.0 there.1 (omega arith) in
      record {
        at = there.0.at;
        others = all_flying s.tops front.others;
        state = later.state;
        running =
            subst (λ (st : Stack). IsRunning t sizes f before s.trees (record { at = there.0.at; stack = st } ∷ all_flying s.tops front.others) later.state)
            is later.running;
        entries_are = later.entries_are ∙ kept.entries_are;
      }

  spot_same : (write retry : Bool) (spot : Spot) (leaf : ℕ) (w : QueuedOp) → IsOpAt write retry spot (keyed 0 w.op) leaf → spot_at leaf w.op ≡ spot
  spot_same write retry spot leaf w h = λ i. record { leaf = h.on i; at = h.at i; span = h.len i }

  -- this holds of the spot of each write under a key at a leaf
  module _ (P : Spot → Type 0)
      (each : (key : ℕ) → 1 ≤ times_in key (keys_at g.queues.leaves.items) → stores (s.ops key) ≡ true → P (spot_of (s.ops key))) where
    one_writes : (leaf : ℕ) (w : QueuedOp) (act : LeafOp) → s.ops (key_of w) ≡ act → WaitsFor leaf act w
        → 1 ≤ times_in (key_of w) (keys_at g.queues.leaves.items) → w.op.write ≡ true → P (spot_at leaf w.op)
    one_writes leaf w (Fetch retry len spot) is waits some write = absurd (let no : true ≡ false = sym write ∙ waits.0.direction in cc)
    one_writes leaf w (Store retry stored spot) is waits some write =
        subst P (ap spot_of is ∙ sym (spot_same true retry spot leaf w waits.0)) (each (key_of w) some (ap stores is))

    pub all_waiting : (leaf : ℕ) → AllByRecursion P (written_spots leaf (waiting_at g.queues.leaves.items leaf))
    all_waiting leaf =
        let ws : List QueuedOp = waiting_at g.queues.leaves.items leaf in
        written_all P leaf ws
        (both ws (going.lent.waits leaf)
        (all_weaker (λ (w : QueuedOp). 1 ≤ times_in (key_of w) (keys_in ws)) (λ (w : QueuedOp). 1 ≤ times_in (key_of w) (keys_at g.queues.leaves.items)) ws
        (λ w some. (let most = times_one (key_of w) g.queues.leaves.items leaf in omega arith)) (waits_once ws)))
      where
        both : (ws : List QueuedOp) → AllByRecursion (λ (w : QueuedOp). WaitsFor leaf (s.ops (key_of w)) w) ws
            → AllByRecursion (λ (w : QueuedOp). 1 ≤ times_in (key_of w) (keys_at g.queues.leaves.items)) ws
            → AllByRecursion (λ (w : QueuedOp). w.op.write ≡ true → P (spot_at leaf w.op)) ws
        both [] h k = tt
        both (w ∷ ws) h k = (one_writes leaf w (s.ops (key_of w)) refl h.0 k.0, both ws h.1 k.1)
