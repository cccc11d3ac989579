-- A round that the engine ran whole.
use Rattle.std.specs.Prelude.{◌≡◌, ℕ, List, map, IfSome}
use Rattle.zio_script.specs.declared.script.Failmode.{Failmode}
use Rattle.zio_cksum.specs.Images.{Images}
use Rattle.zio_disks.specs.Disks.{Tell}
use Rattle.zio_gang.specs.Attempts.{Pending, Terms}
use Rattle.zio_trace.specs.Families.{Forest}
use Rattle.zio_trace.specs.SoundRounds.{IsSoundRound}
use Rattle.zio_course.specs.Runners.{DiffersInRound, Standing}
use Rattle.zio_exchange.specs.Wholes.{AreTrees}
use Rattle.zio_exchange.specs.declared.waiting.UnfinishedRequest.{UnfinishedRequest}
use Rattle.zio_exchange.specs.declared.outcome.FinishedRequest.{FinishedRequest}
use Rattle.slab.specs.Slab.{Slab}
use Rattle.zio_turns.specs.Ledgers.{AreToldAs}
use Rattle.zio_staged.specs.Parts.{Nodes}
use Rattle.zio_turns.specs.Rounds.{Before, SoFar}
use Rattle.zio_turns.specs.UnderTrees.{IsOver, RunsTrees}
use Rattle.zio_turns.specs.UnderTurns.{TellNow}
use Rattle.zio_turns.specs.declared.entry.TiedNode.{TiedNode}
use Rattle.zio_turns.specs.declared.grounds.Grounds.{Grounds}
use Rattle.zio_turns.specs.declared.trees.TreeState.{TreeState}
use Rattle.zio_graph.specs.Jobs.{size_at}
use Rattle.zio_graph.specs.SteadyGrounds.{terms_on}

-- ---- what it came to

-- The round is over. It came to this over what is lent now, with its trees so far, and these requests finished in this order.
pub record HasEnded {N D : Type 0} (nodes : Nodes N) (bytes : D → ℕ) (image : D → List ℕ → Type 0) (t : Terms) (sizes : ℕ → ℕ)
    (f : Forest) (before : Before) (g : Grounds D) (round : ℕ) (failmode : Failmode) (states : List TreeState)
    (ended : List FinishedRequest) : Type 0 where
  pub slab : Slab (TiedNode N)
  pub line : List ℕ
  pub now : SoFar
  pub runs : RunsTrees {N = N} {D = D} nodes bytes image t sizes f before now slab line g round failmode states
  pub over : IsOver {N = N} nodes t sizes f before now slab
  pub told : AreToldAs ended now.books.done

-- so does each sound round of these trees that begins over these grounds
abbrev pub EndsOn : {N D : Type 0} → Nodes N → (D → ℕ) → (D → List ℕ → Type 0) → Grounds D → Grounds D → ℕ → Failmode
    → List (List UnfinishedRequest) → List TreeState → List FinishedRequest → Type 0
EndsOn {N = N} {D = D} nodes bytes image g now round failmode wholes states ended =
    (f : Forest) (before : Before) (images : Images) →
    IsSoundRound (terms_on g failmode round) (size_at (map bytes g.disks.items)) f → AreTrees wholes f →
    IfSome before (λ b. b ≡ images) → TellNow {D = D} image before g.disks.items images →
    HasEnded {N = N} {D = D} nodes bytes image (terms_on g failmode round) (size_at (map bytes g.disks.items)) f before now
    round failmode states ended

-- for images that they told the disks tell images that changed only where nothing in use lies, and in blocks that requests name
abbrev pub TellLoose : {D : Type 0} → (D → List ℕ → Type 0) → Standing → List (List Pending) → List D → List D → Type 0
TellLoose {D = D} image s trees old new = (before : Images) → Tell {D = D} image old before → (after : Images)
    × Tell {D = D} image new after × DiffersInRound s trees before after
