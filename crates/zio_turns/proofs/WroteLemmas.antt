-- What went to the disks: nothing, one call after another, a group of a leaf, and a round as it goes on.
use Rattle.std.proofs.Common.{◌≡◌, ℕ, ◌+◌, ◌<◌, ◌≤◌, List, [], ◌++◌, slice_index_or, true, false, refl, sym, Contains, append_assoc, subst}
use Rattle.std.specs.List.{AllByRecursion}
use Rattle.std.proofs.lemmas.List.{append-nil}
use Rattle.std.proofs.lemmas.List.Elements.{Contains-append_right}
use Rattle.zio_outside.specs.declared.written.Written.{Written}
use Rattle.zio_cksum.specs.Images.{Spot}
use Rattle.zio_cksum.specs.Frames.{IsCovered}
use Rattle.zio_cksum.proofs.AllLemmas.{all_append, all_contains, all_weaker}
use Rattle.zio_script.specs.declared.script.Failmode.{Failmode}
use Rattle.zio_disks.specs.Disks.{WritesWithin}
use Rattle.zio_gang.specs.Attempts.{Terms}
use Rattle.zio_groups.specs.Issued.{written_spots}
use Rattle.zio_trace.specs.Families.{Forest}
use Rattle.zio_trace.specs.Labels.{Labelled}
use Rattle.zio_trace.specs.Leaves.{Fetch, LeafOp, Store, spot_of, stores}
use Rattle.zio_trace.specs.Programs.{Deed}
use Rattle.zio_trace.specs.SoundRounds.{IsSoundRound}
use Rattle.zio_trace.specs.Tasks.{Leaf, Task, Value}
use Rattle.zio_trace.specs.Underway.{Flight}
use Rattle.zio_trace.proofs.ListLemmas.{contains_first}
use Rattle.zio_trace.proofs.PairLemmas.{flat_contains}
use Rattle.zio_spared.specs.Crashes.{IsWrittenIn, written_by}
use Rattle.zio_frames.specs.Frames.{flight_at, flights_of, fresh_frame}
use Rattle.std.specs.List.{flat_map}
use Rattle.slab.specs.Slab.{Slab}
use Rattle.zio_exchange.specs.declared.outcome.FinishedRequest.{FinishedRequest}
use Rattle.zio_turns.specs.AtLeaves.{keys_at, waiting_at}
use Rattle.zio_staged.specs.Entries.{times_in}
use Rattle.zio_staged.specs.Parts.{Nodes}
use Rattle.zio_turns.specs.Rounds.{Before, SoFar}
use Rattle.zio_turns.specs.UnderTrees.{HasRun, RunsTrees}
use Rattle.zio_turns.specs.UnderTurns.{IsGoingOn}
use Rattle.zio_turns.specs.Wrote.{LiesAmong, TellWrote, TreesTellWrote, Wrote}
use Rattle.zio_turns.specs.declared.entry.TiedNode.{TiedNode}
use Rattle.zio_turns.specs.declared.grounds.Grounds.{Grounds}
use Rattle.zio_turns.specs.declared.trees.TreeState.{TreeState}
use Rattle.zio_turns.proofs.LeafFlights.{FliesFirst, all_waiting, flies_first}

-- ---- disks

module _ {D : Type 0} (went : List Written → D → D → Type 0) (Is : ℕ → ℕ → Type 0) where
  pub wrote_nothing : (disks : List D) → Wrote {D = D} went Is disks disks
  wrote_nothing disks = λ leaf other start ranges w.
      ([], subst (λ (rs : List Written). went rs start (slice_index_or disks leaf other)) (sym (append-nil ranges)) w, tt)

  pub wrote_same : (old new : List D) → new ≡ old → Wrote {D = D} went Is old new
  wrote_same old new same = subst (λ (ds : List D). Wrote {D = D} went Is old ds) (sym same) (wrote_nothing old)

  pub wrote_then : (a b c : List D) → Wrote {D = D} went Is a b → Wrote {D = D} went Is b c → Wrote {D = D} went Is a c
  wrote_then a b c h k = λ leaf other start ranges w.
      let one = h leaf other start ranges w in
      let two = k leaf other start (ranges ++ one.0) one.1 in (
        one.0 ++ two.0,
        subst (λ (rs : List Written). went rs start (slice_index_or c leaf other)) (append_assoc ranges one.0 two.0) two.1,
        all_append (LiesAmong Is leaf) one.0 two.0 one.2 two.2,
      )

  -- such bytes are others too
  pub wrote_wider : (Are : ℕ → ℕ → Type 0) (old new : List D) → ((leaf at : ℕ) → Are leaf at → Is leaf at)
      → Wrote {D = D} went Are old new → Wrote {D = D} went Is old new
  wrote_wider Are old new sub h = λ leaf other start ranges w.
      let one = h leaf other start ranges w in (
        one.0,
        one.1,
        all_weaker (LiesAmong Are leaf) (LiesAmong Is leaf) one.0 (λ range lies at from below. sub leaf at (lies at from below)) one.2,
      )

-- ---- a round that goes on

stored_there : (act : LeafOp) → stores act ≡ true → Contains (written_by (Leaf act)) (spot_of act)
stored_there (Store retry bytes spot) stored = contains_first spot []
stored_there (Fetch retry len spot) stored = absurd (let no : false ≡ true = stored in cc)

module _ {N D : Type 0} (nodes : Nodes N) (bytes : D → ℕ) (image : D → List ℕ → Type 0) (went : List Written → D → D → Type 0) where
  module _ (t : Terms) (sizes : ℕ → ℕ) (f : Forest) (before : Before) (s : SoFar) (slab : Slab (TiedNode N)) (line : List ℕ)
      (g : Grounds D) (going : IsGoingOn {N = N} {D = D} nodes bytes image t sizes f before s slab line g) where
    -- each byte of the spot is written in the round
    abbrev AllWritten : Spot → Type 0
    AllWritten spot = (at : ℕ) → spot.at ≤ at → at < spot.at + spot.span → IsWrittenIn t sizes f before spot.leaf at

    key_written : (key : ℕ) → 1 ≤ times_in key (keys_at g.queues.leaves.items) → stores (s.ops key) ≡ true
        → AllWritten (spot_of (s.ops key))
    key_written key some stored = λ at from below.
        let first : FliesFirst t sizes f before s going.keeps.still.state.entries (s.ops key) =
        flies_first nodes bytes image t sizes f before s slab line g going key some in
        let X : Flight = flight_at t first.at (fresh_frame (Leaf (s.ops key))) in
        let flies : Contains first.state.flights X =
        subst (λ (xs : List Flight). Contains xs X) (sym first.running.flights) (contains_first X (flat_map (flights_of t) first.others)) in
        record {
          moment = first.state;
          under = first.running.underway;
          written = record {
            spot = spot_of (s.ops key);
            listed = Contains-append_right (flat_map (λ (d : Deed (Labelled Task) Value). written_by d.op.op) first.state.deeds)
                (flat_map (λ (x : Flight). written_by x.op.op) first.state.flights) (spot_of (s.ops key))
                (flat_contains (λ (x : Flight). written_by x.op.op) first.state.flights X (spot_of (s.ops key)) flies
                (stored_there (s.ops key) stored));
            same_leaf = refl;
            from = from;
            below = below;
          };
        }

    leaf_written : (spots : List Spot) → AllByRecursion AllWritten spots → (leaf at : ℕ) → IsCovered spots leaf at
        → IsWrittenIn t sizes f before leaf at
    leaf_written spots all leaf at c =
        subst (λ (l : ℕ). IsWrittenIn t sizes f before l at) c.same_leaf (all_contains AllWritten spots c.spot all c.listed at c.from c.below)

    -- what waits at the leaf was begun
    pub group_written : (leaf : ℕ) (disks : List D)
        → WritesWithin {D = D} went (written_spots leaf (waiting_at g.queues.leaves.items leaf)) g.disks.items disks
        → Wrote {D = D} went (IsWrittenIn t sizes f before) g.disks.items disks
    group_written leaf disks wrote =
        let spots : List Spot = written_spots leaf (waiting_at g.queues.leaves.items leaf) in
        wrote_wider {D = D} went (IsWrittenIn t sizes f before) (IsCovered spots) g.disks.items disks
        (leaf_written spots (all_waiting nodes bytes image t sizes f before s slab line g going AllWritten key_written leaf)) wrote

  -- ---- over whatever round goes on

  pub leaf_wrote : (slab : Slab (TiedNode N)) (line : List ℕ) (g : Grounds D) (disks : List D) (leaf : ℕ)
      → WritesWithin {D = D} went (written_spots leaf (waiting_at g.queues.leaves.items leaf)) g.disks.items disks
      → TellWrote {N = N} {D = D} nodes bytes image went slab line g disks
  leaf_wrote slab line g disks leaf wrote = λ t sizes f before s sound going.
      group_written t sizes f before s slab line g going leaf disks wrote

  pub none_wrote : (slab : Slab (TiedNode N)) (line : List ℕ) (g : Grounds D) (disks : List D) → disks ≡ g.disks.items
      → TellWrote {N = N} {D = D} nodes bytes image went slab line g disks
  none_wrote slab line g disks same = λ t sizes f before s sound going.
      wrote_same {D = D} went (IsWrittenIn t sizes f before) g.disks.items disks same

  -- from the first, where the round went on to these
  pub run_wrote : (first slab : Slab (TiedNode N)) (first_line line : List ℕ) (lent g : Grounds D) (disks : List D)
      → ((t : Terms) (sizes : ℕ → ℕ) (f : Forest) (before : Before) (s : SoFar) → IsSoundRound t sizes f
      → IsGoingOn {N = N} {D = D} nodes bytes image t sizes f before s first first_line lent
      → (now : SoFar) × IsGoingOn {N = N} {D = D} nodes bytes image t sizes f before now slab line g)
      → TellWrote {N = N} {D = D} nodes bytes image went first first_line lent g.disks.items
      → TellWrote {N = N} {D = D} nodes bytes image went slab line g disks
      → TellWrote {N = N} {D = D} nodes bytes image went first first_line lent disks
  run_wrote first slab first_line line lent g disks gone before_wrote then_wrote = λ t sizes f before s sound going.
      let so_far = gone t sizes f before s sound going in
      wrote_then {D = D} went (IsWrittenIn t sizes f before) lent.disks.items g.disks.items disks
      (before_wrote t sizes f before s sound going) (then_wrote t sizes f before so_far.0 sound so_far.1)

  -- the disks are these now
  pub same_wrote : (slab : Slab (TiedNode N)) (line : List ℕ) (g : Grounds D) (disks now : List D) → now ≡ disks
      → TellWrote {N = N} {D = D} nodes bytes image went slab line g disks
      → TellWrote {N = N} {D = D} nodes bytes image went slab line g now
  same_wrote slab line g disks now same h =
      subst (λ (ds : List D). TellWrote {N = N} {D = D} nodes bytes image went slab line g ds) (sym same) h

  -- ---- over its trees

  pub trees_wrote_nothing : (slab : Slab (TiedNode N)) (line : List ℕ) (g : Grounds D) (round : ℕ) (failmode : Failmode)
      (states : List TreeState) → TreesTellWrote {N = N} {D = D} nodes bytes image went slab line g round failmode states g.disks.items
  trees_wrote_nothing slab line g round failmode states = λ t sizes f before s runs.
      wrote_nothing {D = D} went (IsWrittenIn t sizes f before) g.disks.items

  -- from the first, where the trees ran to these
  pub trees_wrote : (first slab : Slab (TiedNode N)) (first_line line : List ℕ) (lent g : Grounds D) (round : ℕ) (failmode : Failmode)
      (begun states : List TreeState) (ended now : List FinishedRequest) (disks : List D)
      → ((t : Terms) (sizes : ℕ → ℕ) (f : Forest) (before : Before) (s : SoFar)
      → RunsTrees {N = N} {D = D} nodes bytes image t sizes f before s first first_line lent round failmode begun
      → HasRun {N = N} {D = D} nodes bytes image t sizes f before s slab line g round failmode states ended now)
      → TreesTellWrote {N = N} {D = D} nodes bytes image went first first_line lent round failmode begun g.disks.items
      → TellWrote {N = N} {D = D} nodes bytes image went slab line g disks
      → TreesTellWrote {N = N} {D = D} nodes bytes image went first first_line lent round failmode begun disks
  trees_wrote first slab first_line line lent g round failmode begun states ended now disks ran before_wrote then_wrote = λ t sizes f before
      s runs.
      let r = ran t sizes f before s runs in
      wrote_then {D = D} went (IsWrittenIn t sizes f before) lent.disks.items g.disks.items disks
      (before_wrote t sizes f before s runs) (then_wrote t sizes f before r.now r.runs.sound r.runs.going)
