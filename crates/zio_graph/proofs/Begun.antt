-- A round of trees begins over steady grounds.
use Rattle.std.proofs.Common.{◌≡◌, ℕ, zero, suc, ◌<◌, ◌≤◌, List, [], ◌∷◌, ◌++◌, length, map, replicate, slice_get, Option, Some, None, IfSome, ◌⊎◌, inl, inr, refl, sym, ap, ◌∙◌, subst, arith}
use Rattle.std.specs.Prelude.{IsPermutation}
use Rattle.std.specs.List.{AllByRecursion}
use Rattle.std.proofs.lemmas.Bool.{cases_lt}
use Rattle.std.proofs.lemmas.List.{append-nil, length-replicate}
use Rattle.std.proofs.lemmas.List.Sorted.{IsPermutation-refl}
use Rattle.zio_types.specs.declared.place.Place.{Place}
use Rattle.zio_types.specs.Choices.{Choice}
use Rattle.zio_types.specs.Places.{SamePlaces}
use Rattle.zio_script.specs.declared.script.Failmode.{Failmode}
use Rattle.zio_cksum.specs.Images.{Images}
use Rattle.zio_gang.specs.Attempts.{Terms}
use Rattle.zio_groups.specs.LeafQueues.{Waits}
use Rattle.zio_groups.specs.declared.waiting.QueuedOp.{QueuedOp as AtLeaf}
use Rattle.zio_trace.specs.Families.{Forest}
use Rattle.zio_trace.specs.SoundRounds.{IsSoundRound}
use Rattle.zio_frames.specs.Frames.{Flying}
use Rattle.zio_frames.specs.Slots.{Slot}
use Rattle.slab.specs.Slab.{Slab}
use Rattle.zio_exchange.specs.Wholes.{AreTrees}
use Rattle.zio_exchange.specs.declared.waiting.UnfinishedRequest.{UnfinishedRequest}
use Rattle.zio_turns.specs.AtLeaves.{WaitsFor, key_of, keys_at, keys_of, waiting_at}
use Rattle.zio_turns.specs.Desks.{IsDeskAt}
use Rattle.zio_staged.specs.Entries.{top_at}
use Rattle.zio_turns.specs.Ledgers.{Books, no_books}
use Rattle.zio_staged.specs.Parts.{Nodes}
use Rattle.zio_turns.specs.Rounds.{Before, KeepsRound, SoFar}
use Rattle.zio_turns.specs.UnderTrees.{AreInStates, AreSettledWith, HaveBegun, IsInState, RunsSome, RunsTrees, StateIn, TreesBegin}
use Rattle.zio_turns.specs.UnderTurns.{AreLent, TellNow}
use Rattle.zio_turns.specs.declared.entry.TiedNode.{TiedNode}
use Rattle.zio_turns.specs.declared.grounds.Grounds.{Grounds}
use Rattle.zio_turns.specs.declared.trees.TreeEnd.{TreeEnd}
use Rattle.zio_turns.specs.declared.trees.TreeState.{TreeState}
use Rattle.zio_turns.specs.declared.trees.TreeState.TheVariants.{Settled, UnderWay}
use Rattle.zio_graph.specs.Jobs.{IsSoundJob, size_at}
use Rattle.zio_graph.specs.SteadyGrounds.{IsSteadyGrounds, terms_on}

-- ---- nothing waits

both_none : {X : Type 0} (xs ys : List X) → xs ++ ys ≡ [] → (xs ≡ []) × (ys ≡ [])
both_none [] ys e = (refl, e)
both_none (x ∷ xs) ys e = absurd (cc)

map_none : {X Y : Type 0} (f : X → Y) (xs : List X) → map f xs ≡ [] → xs ≡ []
map_none f [] e = refl
map_none f (x ∷ xs) e = absurd (cc)

none_at : (leaves : List Waits) (leaf : ℕ) → keys_at leaves ≡ [] → waiting_at leaves leaf ≡ []
none_at [] leaf e = refl
none_at (q ∷ qs) zero e = map_none key_of q.waiting (both_none (keys_of q) (keys_at qs) e).0
none_at (q ∷ qs) (suc leaf) e = none_at qs leaf (both_none (keys_of q) (keys_at qs) e).1

-- ---- the trees' first attempts

get_none : {X : Type 0} (xs : List X) (n : ℕ) → length xs ≤ n → slice_get xs n ≡ None
get_none [] n h = refl
get_none (x ∷ xs) zero h = absurd (omega arith)
get_none (x ∷ xs) (suc n) h = get_none xs n (omega arith)

begun_states : (t : Terms) (tops : List (Option Flying)) (states : List TreeState) → HaveBegun t tops states []
    → AreInStates t tops states
begun_states t tops states h = λ n. by n (cases_lt n (length states))
  where
    by : (n : ℕ) → (n < length states) ⊎ (length states ≤ n) → IsInState t (top_at tops n) (slice_get states n)
    by n (inl less) = h.begun n less
    by n (inr past) =
        subst (λ (o : Option TreeState). IsInState t (top_at tops n) o) (sym (get_none states n past))
        (subst (λ (o : Option Flying). IsInState t o None) (sym (h.past n (omega (arith, past)))) tt)

none_settled : (k n : ℕ) (end : TreeEnd) → slice_get (replicate k (UnderWay 0)) n ≡ Some (Settled end) → ⊥
none_settled zero n end e = cc
none_settled (suc k) zero end e = cc
none_settled (suc k) (suc n) end e = none_settled k n end e

begun_ends : (trees : List Slot) (states : List TreeState) (k : ℕ) → states ≡ replicate k (UnderWay 0)
    → AreSettledWith trees states
begun_ends trees states k are = λ n end is.
    absurd (none_settled k n end (ap (λ (xs : List TreeState). slice_get xs n) (sym are) ∙ is))

pub begun_count : (k : ℕ) (states : List TreeState) → states ≡ replicate k (UnderWay 0) → length states ≡ k
begun_count k states are = ap (λ (xs : List TreeState). length xs) are ∙ length-replicate k (UnderWay 0)

none_within : (Q : List UnfinishedRequest → Type 0) (k : ℕ) → AllByRecursion (StateIn Q) (replicate k (UnderWay 0))
none_within Q zero = tt
none_within Q (suc k) = (tt, none_within Q k)

pub begun_within : (Q : List UnfinishedRequest → Type 0) (k : ℕ) (states : List TreeState) → states ≡ replicate k (UnderWay 0)
    → AllByRecursion (StateIn Q) states
begun_within Q k states are = subst (AllByRecursion (StateIn Q)) (sym are) (none_within Q k)

-- ---- what is lent

same_itself : (ps : List Place) → SamePlaces ps ps
same_itself ps p = ((λ c. c), (λ c. c))

module _ {D : Type 0} (bytes : D → ℕ) (image : D → List ℕ → Type 0) (g : Grounds D) (round : ℕ) (failmode : Failmode)
    (steady : IsSteadyGrounds {D = D} bytes g) where
  desk_first : IsDeskAt (terms_on g failmode round) [] [] [] g.desk.tops g.desk.space
  desk_first =
      let live : List Place = g.desk.space.live in
      let kept : SamePlaces (live ++ g.desk.space.pending) live =
      subst (λ (ps : List Place). SamePlaces (live ++ ps) live) (sym steady.none_pending)
      (subst (λ (ps : List Place). SamePlaces ps live) (sym (append-nil live)) (same_itself live)) in
      record {
        desk = record {
          tops_are = steady.tops_are;
          sizes_are = steady.sizes_are;
          entries_are = steady.none_made;
          used_are = kept;
          lawful = tt;
        };
        either = inl refl;
        claim = record { free = refl; inside = tt };
        live = subst (λ (ps : List Place). IsPermutation (live ++ ps) (live ++ [])) (sym steady.none_pending)
            (IsPermutation-refl (live ++ []));
        pending_are = subst (λ (ps : List Place). SamePlaces ps []) (sym steady.none_pending) (same_itself []);
      }

  lent_first : (before : Before) (images : Images) (now : SoFar) → now.entries ≡ [] → now.images ≡ images → now.books ≡ no_books
      → TellNow {D = D} image before g.disks.items images
      → AreLent {D = D} bytes image (terms_on g failmode round)
      (size_at (map bytes g.disks.items)) before now.entries now.books.claimed
      now.books.back now.images now.ops g
  lent_first before images now none told empty tell = record {
    setting_is = refl;
    desk = subst
        (λ (es : List Choice). IsDeskAt
        (terms_on g failmode round) es now.books.claimed now.books.back g.desk.tops g.desk.space)
        (sym none)
        (subst (λ (b : Books). IsDeskAt (terms_on g failmode round) [] b.claimed b.back g.desk.tops g.desk.space)
        (sym empty) desk_first);
    waits = λ leaf.
        subst (λ (ws : List AtLeaf). AllByRecursion (λ (w : AtLeaf). WaitsFor leaf (now.ops (key_of w)) w) ws)
        (sym (none_at g.queues.leaves.items leaf steady.none_waits)) tt;
    ready = steady.ready;
    fit = λ leaf. omega arith;
    short = steady.short;
    each = steady.each;
    tell = subst (TellNow {D = D} image before g.disks.items) (sym told) tell;
  }

-- ---- the round

-- it has begun over these grounds, and nothing is in its books
pub record HasBegun {N D : Type 0} (nodes : Nodes N) (bytes : D → ℕ) (image : D → List ℕ → Type 0) (g : Grounds D) (round : ℕ)
    (failmode : Failmode) (f : Forest) (before : Before) (slab : Slab (TiedNode N)) (line : List ℕ)
    (states : List TreeState) : Type 0 where
  pub now : SoFar
  pub runs : RunsTrees {N = N} {D = D} nodes bytes image (terms_on g failmode round)
      (size_at (map bytes g.disks.items)) f before now slab
      line g round failmode states
  pub books_are : now.books ≡ no_books

module _ {N D : Type 0} (nodes : Nodes N) (bytes : D → ℕ) (image : D → List ℕ → Type 0) (g : Grounds D) (round : ℕ)
    (failmode : Failmode)
    (steady : IsSteadyGrounds {D = D} bytes g) (slab : Slab (TiedNode N)) (line : List ℕ) (wholes : List (List UnfinishedRequest))
    (states : List TreeState) (begins : TreesBegin {N = N} nodes slab line round failmode wholes states [])
    (are : states ≡ replicate (length wholes) (UnderWay 0)) where
  pub has_begun : (f : Forest) (before : Before) (images : Images)
      → IsSoundRound (terms_on g failmode round) (size_at (map bytes g.disks.items)) f → AreTrees wholes f
      → IfSome before (λ b. b ≡ images)
      → TellNow {D = D} image before g.disks.items images
      → HasBegun {N = N} {D = D} nodes bytes image g round failmode f before slab line states
  has_begun f before images sound trees is tell =
      let t : Terms = terms_on g failmode round in
      let sizes : ℕ → ℕ = size_at (map bytes g.disks.items) in
      let b = begins t sizes f before images sound refl refl is trees in
      record {
        now = b.now;
        runs = record {
          sound = sound;
          round_is = refl;
          failmode_is = refl;
          going = record {
            keeps = subst (KeepsRound {N = N} nodes t sizes f before b.now slab line) (sym steady.none_waits) b.keeps;
            lent = lent_first {D = D} bytes image g round failmode steady before images b.now b.entries_are b.images_are
                b.books_are tell;
          };
          each = begun_states t b.now.tops states b.begun;
          ends = begun_ends b.now.trees states (length wholes) are;
        };
        books_are = b.books_are;
      }

  -- where no image is told
  pub some_runs : IsSoundJob (terms_on g failmode round) (size_at (map bytes g.disks.items)) wholes
      → RunsSome {N = N} {D = D} nodes bytes image slab line g round failmode states
  some_runs job =
      let b = has_begun job.forest None [] job.round job.are tt tt in
      record {
        terms = terms_on g failmode round;
        sizes = size_at (map bytes g.disks.items);
        forest = job.forest;
        before = None;
        so_far = b.now;
        runs = b.runs;
      }
