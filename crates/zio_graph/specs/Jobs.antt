-- The trees of a round that the engine is given.
use Rattle.std.specs.Prelude.{◌≡◌, ℕ, List, map, None, slice_index_or}
use Rattle.zio_gang.specs.Attempts.{Terms}
use Rattle.zio_trace.specs.Families.{Forest}
use Rattle.zio_trace.specs.Rounds.{trees_in}
use Rattle.zio_trace.specs.SoundRounds.{IsSoundRound}
use Rattle.zio_sound.specs.Linked.{AreLinked}
use Rattle.zio_exchange.specs.Waits.{pendings}
use Rattle.zio_exchange.specs.Wholes.{AreTrees}
use Rattle.zio_exchange.specs.declared.waiting.UnfinishedRequest.{UnfinishedRequest}
use Rattle.zio_graph.specs.EngineTrees.{AreSound}

-- each leaf is as large as its disk
abbrev pub size_at : List ℕ → ℕ → ℕ
size_at bytes leaf = slice_index_or bytes leaf 0

-- The trees are one forest, whose requests are sound and stand under their parents, and a round of it is sound.
pub record IsSoundJob (t : Terms) (sizes : ℕ → ℕ) (trees : List (List UnfinishedRequest)) : Type 0 where
  pub forest : Forest
  pub are : AreTrees trees forest
  pub lists : trees_in forest ≡ map pendings trees
  pub linked : AreLinked None forest
  pub sound : AreSound forest
  pub round : IsSoundRound t sizes forest
