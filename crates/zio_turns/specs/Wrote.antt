-- What went to the disks of a round, byte by byte.
use Rattle.std.specs.Prelude.{ℕ, ◌+◌, ◌<◌, ◌≤◌, List, ◌++◌, slice_index_or}
use Rattle.std.specs.List.{AllByRecursion}
use Rattle.zio_outside.specs.declared.written.Written.{Written}
use Rattle.zio_script.specs.declared.script.Failmode.{Failmode}
use Rattle.zio_gang.specs.Attempts.{Terms}
use Rattle.zio_trace.specs.Families.{Forest}
use Rattle.zio_trace.specs.SoundRounds.{IsSoundRound}
use Rattle.zio_spared.specs.Crashes.{IsWrittenIn}
use Rattle.slab.specs.Slab.{Slab}
use Rattle.zio_staged.specs.Parts.{Nodes}
use Rattle.zio_turns.specs.Rounds.{Before, SoFar}
use Rattle.zio_turns.specs.UnderTrees.{RunsTrees}
use Rattle.zio_turns.specs.UnderTurns.{IsGoingOn}
use Rattle.zio_turns.specs.declared.entry.TiedNode.{TiedNode}
use Rattle.zio_turns.specs.declared.grounds.Grounds.{Grounds}
use Rattle.zio_turns.specs.declared.trees.TreeState.{TreeState}

-- each byte of the range, on this leaf, is such a byte
abbrev pub LiesAmong : (ℕ → ℕ → Type 0) → ℕ → Written → Type 0
LiesAmong Is leaf range = (at : ℕ) → range.at ≤ at → at < range.at + range.len → Is leaf at

-- what was written of this leaf's disk since any state before, and then more, all of such bytes
abbrev pub WroteOn : {D : Type 0} → (List Written → D → D → Type 0) → (ℕ → ℕ → Type 0) → ℕ → D → D → Type 0
WroteOn {D} went Is leaf old new = (start : D) (ranges : List Written) → went ranges start old →
    (more : List Written) × went (ranges ++ more) start new × AllByRecursion (LiesAmong Is leaf) more

-- so it is with each disk
abbrev pub Wrote : {D : Type 0} → (List Written → D → D → Type 0) → (ℕ → ℕ → Type 0) → List D → List D → Type 0
Wrote {D} went Is old new =
    (leaf : ℕ) (other : D) → WroteOn {D = D} went Is leaf (slice_index_or old leaf other) (slice_index_or new leaf other)

-- each sound round that goes on over these wrote such bytes of its own alone, until the disks were these
abbrev pub TellWrote : {N D : Type 0} → Nodes N → (D → ℕ) → (D → List ℕ → Type 0) → (List Written → D → D → Type 0) → Slab (TiedNode N)
    → List ℕ → Grounds D → List D → Type 0
TellWrote {N = N} {D = D} nodes bytes image went slab line g disks =
    (t : Terms) (sizes : ℕ → ℕ) (f : Forest) (before : Before) (s : SoFar) → IsSoundRound t sizes f →
    IsGoingOn {N = N} {D = D} nodes bytes image t sizes f before s slab line g →
    Wrote {D = D} went (IsWrittenIn t sizes f before) g.disks.items disks

-- so did each round of these terms whose trees run
abbrev pub TreesTellWrote : {N D : Type 0} → Nodes N → (D → ℕ) → (D → List ℕ → Type 0) → (List Written → D → D → Type 0)
    → Slab (TiedNode N) → List ℕ → Grounds D → ℕ → Failmode → List TreeState → List D → Type 0
TreesTellWrote {N = N} {D = D} nodes bytes image went slab line g round failmode states disks =
    (t : Terms) (sizes : ℕ → ℕ) (f : Forest) (before : Before) (s : SoFar) →
    RunsTrees {N = N} {D = D} nodes bytes image t sizes f before s slab line g round failmode states →
    Wrote {D = D} went (IsWrittenIn t sizes f before) g.disks.items disks
