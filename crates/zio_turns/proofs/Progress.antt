-- An engine doesn't stand still before its round is settled.
use Rattle.std.proofs.Common.{◌≡◌, ◌≢◌, ℕ, zero, suc, ◌+◌, ◌<◌, ◌≤◌, List, [], ◌∷◌, ◌++◌, length, Option, Some, ◌⊎◌, inl, inr, refl, sym, ap, ◌∙◌, subst, arith}
use Rattle.zio_types.specs.Choices.{Choice}
use Rattle.zio_types.specs.Machine.{Count}
use Rattle.zio_counts.specs.Tallies.{counted}
use Rattle.zio_cksum.specs.Images.{Images}
use Rattle.zio_gang.specs.Attempts.{Terms}
use Rattle.zio_gang.specs.Journals.{AreChoicesOf, choices_in}
use Rattle.zio_gang.specs.Trees.{sizes_of}
use Rattle.zio_trace.specs.Entries.{IsSettledByEntries}
use Rattle.zio_trace.specs.Families.{Forest}
use Rattle.zio_trace.specs.Leaves.{HaveSizes}
use Rattle.zio_trace.specs.RoundRules.{task_ways}
use Rattle.zio_trace.specs.Rounds.{settles}
use Rattle.zio_trace.specs.SoundRounds.{IsSoundRound}
use Rattle.zio_trace.specs.Tasks.{Value}
use Rattle.zio_trace.specs.Together.{round_of}
use Rattle.zio_trace.specs.Underway.{AreAnswered, State}
use Rattle.zio_frames.specs.Frames.{Flying, Seat, Stack, place_of}
use Rattle.zio_frames.specs.Running.{IsRunning, all_heard}
use Rattle.zio_frames.specs.Slots.{Slot}
use Rattle.zio_frames.proofs.MoveTrees.{round_answered, round_ends}
use Rattle.zio_turns.specs.Engine.{IsHeldFor, IsKept, Rests, Queued, AtLeaf, Stalls}
use Rattle.zio_staged.specs.Entries.{Held, Live, OfNode, Shelf, flying_at, flying_of, standing, times_in}
use Rattle.zio_staged.specs.Parts.{Nodes}
use Rattle.zio_turns.proofs.Counts.{Owes, one_owes, owes_goes}
use Rattle.zio_turns.proofs.HearLemmas.{child_is, does_here}
use Rattle.zio_turns.proofs.Kept.{world}
use Rattle.zio_turns.proofs.Links.{HeldIn, Linked, World, in_flight_there, on_shelf_there}
use Rattle.zio_turns.proofs.Lives.{first_at, other_at}
use Rattle.zio_turns.proofs.Seated.{place_longer}
use Rattle.zio_turns.proofs.Tops.{stand_last}
use Rattle.zio_frames.proofs.GetLemmas.{same_or_not}

-- all that are in flight under keys have shorter places than this
abbrev longest : List Live → ℕ
longest [] = 0
longest (x ∷ xs) = suc (length x.at + longest xs)

below_longest : (lives : List Live) (key : ℕ) (p : Flying) → flying_at lives key ≡ Some p → length p.at < longest lives
below_longest [] key p e = absurd (cc)
below_longest (x ∷ xs) key p e = by (same_or_not key x.key) (λ g. below_longest xs key p g)
  where
    by : (key ≡ x.key) ⊎ (key ≢ x.key) → (flying_at xs key ≡ Some p → length p.at < longest xs)
        → length p.at < suc (length x.at + longest xs)
    by (inl i) later =
        let found : Some (flying_of x) ≡ Some p = sym (first_at x xs) ∙ ap (flying_at (x ∷ xs)) (sym i) ∙ e in
        let is : flying_of x ≡ p = cc in
        let same : length x.at ≡ length p.at = ap (λ (y : Flying). length y.at) is in
        omega arith
    by (inr n) later = let h : length p.at < longest xs = later (sym (other_at x xs key n) ∙ e) in omega arith

stalls_alone : {N : Type 0} (due : N → Type 0) (q e : ℕ) (st : Stack) (h : Held N) → q ≡ 0 → e ≡ 0 → Rests {N = N} due q e st h
    → (count : Count) × (counted count.kind count.phase h.tally ≢ 0)
stalls_alone due q e st h qs es (Queued a b c d) = absurd (omega arith)
stalls_alone due q e st h qs es (AtLeaf act a b c d) = absurd (omega arith)
stalls_alone due q e st h qs es (Stalls count a b c d f) = (count, d)

longer_there : (x : Flying) (seat : Seat) (at : List ℕ) → at ≡ place_of x seat → length x.at < length at
longer_there x seat at e = subst (λ (p : List ℕ). length x.at < length p) (sym e) (place_longer x seat)

module _ {N : Type 0} (nodes : Nodes N) (t : Terms) (w : World N) where
  -- one below it, with a longer place
  pub record Below (x : Flying) : Type 0 where
    pub key : ℕ
    pub node : Flying
    pub flies : w.lives key ≡ Some node
    pub longer : length x.at < length node.at

  one_below : Linked nodes t w → w.queue ≡ [] → w.leaves ≡ [] → (key : ℕ) (x : Flying) → w.lives key ≡ Some x → Below x
  one_below l q e key x flies =
      let here = on_shelf_there nodes t w key x l flies in
      let h : Held N = here.0 in
      let held : HeldIn nodes t w key x h = here.2 in
      let waits = stalls_alone {N = N} nodes.due _ _ x.stack h (none_queued q) (none_at e) held.rests in
      let owed : Owes waits.0.kind waits.0.phase x.stack.children =
      one_owes waits.0.kind waits.0.phase x.stack.children (λ z. waits.1 (held.counts waits.0.kind waits.0.phase ∙ z)) in
      let child : IsHeldFor {N = N} w.shelf (OfNode key owed.number) =
      held.children owed.number owed.child owed.is (owes_goes waits.0.phase owed.child owed.owes_it) in
      let there = in_flight_there nodes t w child.key child.held l child.there in
      let is = child_is child.held.kind (nodes.told child.held.node) there.0.at x owed.number owed.child
      (does_here w.tops w.lives child.held.kind (nodes.told child.held.node) there.0.at child.held.parent
      (OfNode key owed.number) x
      there.2.parent child.parent_is flies) owed.is in
      record {
        key = child.key;
        node = there.0;
        flies = there.1;
        longer = longer_there x owed.child.seat there.0.at is.there;
      }
    where
      none_queued : w.queue ≡ [] → times_in key w.queue ≡ 0
      none_queued e = ap (times_in key) e

      none_at : w.leaves ≡ [] → times_in key w.leaves ≡ 0
      none_at e = ap (times_in key) e

  -- one so far below
  far_below : Linked nodes t w → w.queue ≡ [] → w.leaves ≡ [] → (n : ℕ) (key : ℕ) (x : Flying) → w.lives key ≡ Some x
      → (k : ℕ) × (y : Flying) × (w.lives k ≡ Some y) × (n ≤ length y.at)
  far_below l q e zero key x flies = (key, x, flies, omega arith)
  far_below l q e (suc n) key x flies =
      let y = far_below l q e n key x flies in
      let z : Below y.1 = one_below l q e y.0 y.1 y.2 in
      let longer : length y.1.at < length z.node.at = z.longer in
      let so_far : n ≤ length y.1.at = y.3 in
      (z.key, z.node, z.flies, omega arith)

module _ {N : Type 0} (nodes : Nodes N) (t : Terms) (sizes : ℕ → ℕ) (f : Forest) (before : Option Images) (trees : List Slot)
    (tops : List (Option Flying))
    (shelf : Shelf N) (s : State) where
  pub none_left : (lives : List Live) (queue leaves : List ℕ)
      → IsKept {N = N} nodes t sizes f before trees tops lives shelf queue leaves s
      → queue ≡ [] → leaves ≡ [] → lives ≡ []
  none_left [] queue leaves k q e = refl
  none_left (x ∷ xs) queue leaves k q e =
      let w : World N = world {N = N} tops (x ∷ xs) shelf queue leaves in
      let far = far_below nodes t w k.linked q e (longest (x ∷ xs)) x.key (flying_of x) (first_at x xs) in
      let short : length far.1.at < longest (x ∷ xs) = below_longest (x ∷ xs) far.0 far.1 far.2 in
      let long : longest (x ∷ xs) ≤ length far.1.at = far.3 in
      absurd (omega arith)

  -- with no node and no tree left each tree has its value
  pub all_ended : (queue leaves : List ℕ) → IsKept {N = N} nodes t sizes f before trees tops [] shelf queue leaves s
      → standing tops ≡ []
      → (values : List Value) × (trees ≡ all_heard values) × IsRunning t sizes f before (all_heard values) [] s
  all_ended queue leaves k none =
      let last = stand_last 0 tops trees k.stand none in (
        last.0,
        last.1,
        subst (λ (xs : List Slot). IsRunning t sizes f before xs [] s) last.1
            (subst (λ (xs : List Flying). IsRunning t sizes f before trees xs s)
            (ap (λ (xs : List Flying). xs ++ []) none) k.running),
      )

  -- an oracle gives them
  pub all_answers : (journal : List Choice) (queue leaves : List ℕ)
      → IsKept {N = N} nodes t sizes f before trees tops [] shelf queue leaves s → standing tops ≡ []
      → choices_in t.round journal ≡ s.entries
      → (values : List Value) × ((trees ≡ all_heard values) × AreAnswered (task_ways journal t) (settles f) s.deeds values)
  all_answers journal queue leaves k none of_round =
      let last = all_ended queue leaves k none in
      (last.0, (last.1, round_answered t sizes f before journal last.0 s last.2 of_round))

-- and the round is settled
pub all_settles : {N : Type 0} (nodes : Nodes N) (t : Terms) (sizes : ℕ → ℕ) (f : Forest) (before : Images)
    (trees : List Slot) (tops : List (Option Flying)) (shelf : Shelf N) (s : State) (journal : List Choice)
    (queue leaves : List ℕ) → IsSoundRound t sizes f → HaveSizes sizes before
    → IsKept {N = N} nodes t sizes f (Some before) trees tops [] shelf queue leaves s → standing tops ≡ []
    → choices_in t.round journal ≡ s.entries
    → (values : List Value) × ((trees ≡ all_heard values)
    × ((settled : IsSettledByEntries journal t f s.entries (round_of values) before s.images)
    × AreChoicesOf (sizes_of t.setting.tops) t.used settled.asks s.entries))
all_settles {N = N} nodes t sizes f before trees tops shelf s journal queue leaves sound have k none of_round =
    let last = all_ended {N = N} nodes t sizes f (Some before) trees tops shelf s queue leaves k none in
    (last.0, (last.1, round_ends t sizes f before journal last.0 s sound have last.2 of_round))
