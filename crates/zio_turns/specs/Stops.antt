-- What a round that is stopped leaves of its images.
use Rattle.std.specs.Prelude.{◌≡◌, ℕ, List, false, Some, Contains, IsTrue}
use Rattle.std.specs.List.{AllByRecursion}
use Rattle.zio_types.specs.declared.place.Place.{Place}
use Rattle.zio_types.specs.Choices.{Choice}
use Rattle.zio_types.specs.Places.{is_inside, meets}
use Rattle.zio_script.specs.declared.script.Failmode.{Failmode}
use Rattle.zio_cksum.specs.Frames.{SameOutside}
use Rattle.zio_cksum.specs.Images.{Images}
use Rattle.zio_disks.specs.Disks.{Tell}
use Rattle.zio_gang.specs.Attempts.{Terms}
use Rattle.zio_gang.specs.Trees.{sizes_of}
use Rattle.zio_trace.specs.Families.{Forest}
use Rattle.zio_trace.specs.Leaves.{HaveSizes}
use Rattle.zio_trace.specs.SoundRounds.{IsSoundRound}
use Rattle.zio_trace.specs.Stopped.{places_taken, spots_touched}
use Rattle.slab.specs.Slab.{Slab}
use Rattle.zio_staged.specs.Parts.{Nodes}
use Rattle.zio_turns.specs.Rounds.{SoFar}
use Rattle.zio_turns.specs.UnderTrees.{RunsTrees}
use Rattle.zio_turns.specs.UnderTurns.{IsGoingOn}
use Rattle.zio_turns.specs.declared.entry.TiedNode.{TiedNode}
use Rattle.zio_turns.specs.declared.grounds.Grounds.{Grounds}
use Rattle.zio_turns.specs.declared.trees.TreeState.{TreeState}

-- a place that an entry took lies inside its top, and meets none that is in use
pub record IsTaken (t : Terms) (p : Place) : Type 0 where
  pub inside : IsTrue (is_inside (sizes_of t.setting.tops) p)
  pub apart : (q : Place) → Contains t.used q → meets p q ≡ false

-- They changed at places of blocks that the round's requests name, and at places that some entries took, and nowhere else.
pub record IsStopped (t : Terms) (f : Forest) (before after : Images) : Type 0 where
  pub entries : List Choice
  pub taken : AllByRecursion (IsTaken t) (places_taken entries)
  pub same : SameOutside (spots_touched t f entries) before after

-- the disks tell such images, where each leaf had its size before
abbrev pub TellStopped : {D : Type 0} → (D → List ℕ → Type 0) → Terms → (ℕ → ℕ) → Forest → Images → List D → Type 0
TellStopped {D = D} image t sizes f before disks =
    HaveSizes sizes before → (after : Images) × Tell {D = D} image disks after × IsStopped t f before after

-- each sound round that goes on over these, for images that were told, leaves the disks so
abbrev pub StopsWith : {N D : Type 0} → Nodes N → (D → ℕ) → (D → List ℕ → Type 0) → Slab (TiedNode N) → List ℕ → Grounds D → List D → Type 0
StopsWith {N = N} {D = D} nodes bytes image slab line g disks =
    (t : Terms) (sizes : ℕ → ℕ) (f : Forest) (before : Images) (s : SoFar) → IsSoundRound t sizes f →
    IsGoingOn {N = N} {D = D} nodes bytes image t sizes f (Some before) s slab line g → TellStopped {D = D} image t sizes f before disks

-- so does each round of these terms whose trees run
abbrev pub TreesStopWith : {N D : Type 0} → Nodes N → (D → ℕ) → (D → List ℕ → Type 0) → Slab (TiedNode N) → List ℕ → Grounds D → ℕ
    → Failmode → List TreeState → List D → Type 0
TreesStopWith {N = N} {D = D} nodes bytes image slab line g round failmode states disks =
    (t : Terms) (sizes : ℕ → ℕ) (f : Forest) (before : Images) (s : SoFar) →
    RunsTrees {N = N} {D = D} nodes bytes image t sizes f (Some before) s slab line g round failmode states →
    TellStopped {D = D} image t sizes f before disks
