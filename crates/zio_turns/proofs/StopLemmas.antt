-- What a stop leaves of the images: a round as it goes on, and a group that a disk failed.
use Rattle.std.proofs.Common.{◌≡◌, ℕ, ◌≤◌, List, true, false, refl, sym, Some, Contains, Result, Ok, Err, subst}
use Rattle.std.specs.Prelude.{OnErr}
use Rattle.std.specs.List.{AllByRecursion}
use Rattle.zio_types.specs.declared.place.Place.{Place}
use Rattle.zio_types.specs.Choices.{Choice}
use Rattle.zio_types.specs.Places.{meets}
use Rattle.zio_cksum.specs.Frames.{SameOutside}
use Rattle.zio_cksum.specs.Images.{Images, Spot}
use Rattle.zio_cksum.proofs.AllLemmas.{all_contained, all_contains, all_weaker}
use Rattle.zio_cksum.proofs.FrameLemmas.{same_then}
use Rattle.zio_script.specs.declared.script.Failmode.{Failmode}
use Rattle.zio_disks.specs.Disks.{Tell, TellOutside}
use Rattle.zio_gang.specs.Attempts.{Terms}
use Rattle.zio_groups.specs.Issued.{written_spots}
use Rattle.zio_trace.specs.Families.{Forest}
use Rattle.zio_trace.specs.Leaves.{HaveSizes, spot_of, stores}
use Rattle.zio_trace.specs.SoundRounds.{IsSoundRound, work_of}
use Rattle.zio_trace.specs.Stopped.{places_taken, spots_touched}
use Rattle.zio_trace.specs.Underway.{IsUnderway}
use Rattle.zio_trace.proofs.DoneWithin.{taken_placed}
use Rattle.zio_trace.proofs.RoundTouches.{changed_within}
use Rattle.zio_frames.specs.Moves.{heard_of}
use Rattle.slab.specs.Slab.{Slab}
use Rattle.zio_exchange.specs.declared.outcome.FinishedRequest.{FinishedRequest}
use Rattle.zio_turns.specs.AtLeaves.{keys_at, waiting_at}
use Rattle.zio_turns.specs.Engine.{StillKept}
use Rattle.zio_staged.specs.Entries.{times_in}
use Rattle.zio_staged.specs.Parts.{Nodes}
use Rattle.zio_turns.specs.Rounds.{Before, SoFar, with_done, with_tree}
use Rattle.zio_turns.specs.Slabs.{shelf_of}
use Rattle.zio_turns.specs.Stops.{IsStopped, IsTaken, StopsWith, TellStopped, TreesStopWith}
use Rattle.zio_turns.specs.UnderTrees.{HasRun, RunsTrees}
use Rattle.zio_turns.specs.UnderTurns.{IsGoingOn, RunsToTree}
use Rattle.zio_turns.specs.declared.entry.TiedNode.{TiedNode}
use Rattle.zio_turns.specs.declared.grounds.Grounds.{Grounds}
use Rattle.zio_turns.specs.declared.hearing.Hearing.{Hearing}
use Rattle.zio_turns.specs.declared.trees.TreeState.{TreeState}
use Rattle.zio_turns.proofs.LeafFlights.{FliesFirst, all_waiting, flies_first}
use Rattle.zio_turns.proofs.StopSpots.{writes_at}

-- ---- spots

wider : (small big : List Spot) (old new : Images) → AllByRecursion (Contains big) small → SameOutside small old new → SameOutside big old new
wider small big old new all h = record {
  sizes = h.sizes;
  bytes = λ leaf at out. h.bytes leaf at
      (λ x. out (record { spot = x.spot; listed = all_contains (Contains big) small x.spot all x.listed; same_leaf = x.same_leaf; from = x.from; below = x.below }));
}

-- ---- a round that goes on

module _ {N D : Type 0} (nodes : Nodes N) (bytes : D → ℕ) (image : D → List ℕ → Type 0) (t : Terms) (sizes : ℕ → ℕ) (f : Forest)
    (before : Images) (s : SoFar) (slab : Slab (TiedNode N)) (line : List ℕ) (g : Grounds D) (sound : IsSoundRound t sizes f)
    (going : IsGoingOn {N = N} {D = D} nodes bytes image t sizes f (Some before) s slab line g) where
  abbrev still : StillKept {N = N} nodes t sizes f (Some before) s.trees s.tops going.keeps.lives (shelf_of {N = N} slab) line
      (keys_at g.queues.leaves.items) s.entries s.images
  still = going.keeps.still

  under : IsUnderway (work_of t sizes f) (Some before) still.state
  under = still.kept.running.underway

  taken_so : (p : Place) → Contains (places_taken still.state.entries) p → IsTaken t p
  taken_so p there =
      let placed = taken_placed (work_of t sizes f) (Some before) still.state p under there in
      record { inside = placed.1; apart = λ q used. all_contains (λ (r : Place). meets p r ≡ false) t.used q placed.0 used }

  -- so far it changed these places alone
  pub stands_so : HaveSizes sizes before → IsStopped t f before s.images
  stands_so have = record {
    entries = still.state.entries;
    taken = all_weaker (Contains (places_taken still.state.entries)) (IsTaken t) (places_taken still.state.entries) taken_so
        (all_contained (places_taken still.state.entries));
    same = subst (SameOutside (spots_touched t f still.state.entries) before) still.images_are
        (changed_within t sizes f before still.state under have);
  }

  -- an operation under a key at a leaf writes there
  key_writes : (key : ℕ) → 1 ≤ times_in key (keys_at g.queues.leaves.items) → stores (s.ops key) ≡ true
      → Contains (spots_touched t f still.state.entries) (spot_of (s.ops key))
  key_writes key some stored =
      let first : FliesFirst t sizes f (Some before) s still.state.entries (s.ops key) =
      flies_first nodes bytes image t sizes f (Some before) s slab line g going key some in
      subst (λ (entries : List Choice). Contains (spots_touched t f entries) (spot_of (s.ops key))) first.entries_are
      (writes_at t sizes f (Some before) s.trees first.others first.state first.at (s.ops key) sound first.running stored)

  -- so does what waits for it
  waits_write : (leaf : ℕ) → AllByRecursion (Contains (spots_touched t f still.state.entries)) (written_spots leaf (waiting_at g.queues.leaves.items leaf))
  waits_write leaf =
      all_waiting nodes bytes image t sizes f (Some before) s slab line g going (Contains (spots_touched t f still.state.entries)) key_writes leaf

  -- where the disks are as they were
  pub stops_here : (disks : List D) → disks ≡ g.disks.items → TellStopped {D = D} image t sizes f before disks
  stops_here disks same have =
      (s.images, subst (λ (ds : List D). Tell {D = D} image ds s.images) (sym same) going.lent.tell, stands_so have)

  -- where a leaf's waiting operations were begun
  pub stops_at_leaf : (disks : List D) (leaf : ℕ) → TellOutside {D = D} image (written_spots leaf (waiting_at g.queues.leaves.items leaf)) g.disks.items disks
      → TellStopped {D = D} image t sizes f before disks
  unfolding stands_so
  stops_at_leaf disks leaf outside have =
      let so : IsStopped t f before s.images = stands_so have in
      let told = outside s.images going.lent.tell in (
        told.0,
        told.1,
        record {
          entries = so.entries;
          taken = so.taken;
          same = same_then (spots_touched t f so.entries) before s.images told.0 so.same
              (wider (written_spots leaf (waiting_at g.queues.leaves.items leaf)) (spots_touched t f so.entries) s.images told.0 (waits_write leaf) told.2);
        },
      )

-- ---- over whatever round goes on

-- what holds after an error holds where there is one
pub on_err : {A E P : Type 0} (r : Result A E) → P → OnErr r P
on_err (Ok x) h = tt
on_err (Err e) h = h

module _ {N D : Type 0} (nodes : Nodes N) (bytes : D → ℕ) (image : D → List ℕ → Type 0) where
  pub same_stops : (slab : Slab (TiedNode N)) (line : List ℕ) (g : Grounds D) (disks : List D) → disks ≡ g.disks.items
      → StopsWith {N = N} {D = D} nodes bytes image slab line g disks
  same_stops slab line g disks same = λ t sizes f before s sound going.
      stops_here nodes bytes image t sizes f before s slab line g sound going disks same

  pub leaf_stops : (slab : Slab (TiedNode N)) (line : List ℕ) (g : Grounds D) (disks : List D) (leaf : ℕ)
      → TellOutside {D = D} image (written_spots leaf (waiting_at g.queues.leaves.items leaf)) g.disks.items disks
      → StopsWith {N = N} {D = D} nodes bytes image slab line g disks
  leaf_stops slab line g disks leaf outside = λ t sizes f before s sound going.
      stops_at_leaf nodes bytes image t sizes f before s slab line g sound going disks leaf outside

  -- from the first, where the round went on to these
  pub run_stops : (first slab : Slab (TiedNode N)) (first_line line : List ℕ) (lent g : Grounds D) (disks : List D)
      → ((t : Terms) (sizes : ℕ → ℕ) (f : Forest) (before : Before) (s : SoFar) → IsSoundRound t sizes f
      → IsGoingOn {N = N} {D = D} nodes bytes image t sizes f before s first first_line lent
      → (now : SoFar) × IsGoingOn {N = N} {D = D} nodes bytes image t sizes f before now slab line g)
      → StopsWith {N = N} {D = D} nodes bytes image slab line g disks → StopsWith {N = N} {D = D} nodes bytes image first first_line lent disks
  run_stops first slab first_line line lent g disks gone stops = λ t sizes f before s sound going.
      let so_far = gone t sizes f (Some before) s sound going in
      stops t sizes f before so_far.0 sound so_far.1

  -- a tree heard of its attempt, and nothing more was done
  pub heard_stops : {S : Type 0} (slab slab_now : Slab (TiedNode N)) (line line_now : List ℕ) (g g_now : Grounds D) (ended ended_now : List FinishedRequest)
      (heard : Hearing S) → RunsToTree {N = N} {D = D} nodes bytes image slab line g ended slab_now line_now g_now ended_now (Some heard)
      → StopsWith {N = N} {D = D} nodes bytes image slab line g g_now.disks.items
  heard_stops slab slab_now line line_now g g_now ended ended_now heard to_tree = λ t sizes f before s sound going.
      let e = (to_tree t sizes f (Some before) s sound going).3 in
      stops_here nodes bytes image t sizes f before
      (with_done (with_tree e.now heard.tree (record { at = e.top.at; stack = heard_of e.top.stack e.number e.child e.value })) e.more)
      slab_now line_now g_now sound e.going g_now.disks.items refl

  -- from the first, where the trees ran to these
  pub trees_stop : (first slab : Slab (TiedNode N)) (first_line line : List ℕ) (lent g : Grounds D) (round : ℕ) (failmode : Failmode)
      (begun states : List TreeState) (ended now : List FinishedRequest) (disks : List D)
      → ((t : Terms) (sizes : ℕ → ℕ) (f : Forest) (before : Before) (s : SoFar)
      → RunsTrees {N = N} {D = D} nodes bytes image t sizes f before s first first_line lent round failmode begun
      → HasRun {N = N} {D = D} nodes bytes image t sizes f before s slab line g round failmode states ended now)
      → StopsWith {N = N} {D = D} nodes bytes image slab line g disks
      → TreesStopWith {N = N} {D = D} nodes bytes image first first_line lent round failmode begun disks
  trees_stop first slab first_line line lent g round failmode begun states ended now disks ran stops = λ t sizes f before s runs.
      let r = ran t sizes f (Some before) s runs in
      stops t sizes f before r.now r.runs.sound r.runs.going
