-- The walk over headers as a node at a stage.
use Rattle.std.specs.Prelude.{List}
use Rattle.zio_types.specs.declared.place.Top.{Top}
use Rattle.zio_masks.specs.declared.stage.Stage.{Stage}
use Rattle.zio_masks.specs.declared.stage.Stage.TheVariants.{Start, GangAssemble, GangIssue, Ready, Done}
use Rattle.zio_parts.specs.HeadWalks.{ShowsWalk, Walking}
use Rattle.zio_parts.specs.declared.head_walk.WalkStep.TheVariants.{End}
use Rattle.zio_stages.specs.HeadsNodes.{IsHeadsOver}
use Rattle.zio_nodes.specs.declared.heads_at.HeadsAt.{HeadsAt}

-- How far the walk is at each stage. It stands at no other stage.
abbrev pub WalkStands : Stage → Walking → Type 0
WalkStands Start walk = Unit {0}
WalkStands GangAssemble walk = Unit {0}
WalkStands GangIssue walk = ShowsWalk walk End
WalkStands Ready walk = ShowsWalk walk End
WalkStands Done walk = ShowsWalk walk End
WalkStands _ walk = ⊥

-- what its fields owe to each other and to the tops
pub record IsHeadsAtOver (tops : List Top) (at : HeadsAt) : Type 0 where
  pub over : IsHeadsOver tops at.node
  pub stands : WalkStands at.stage at.node.work.walk
