-- What a stage of a node comes to, with the node beside it as the stage left it.
use Rattle.zio_staged.specs.declared.staged.Move.{Move}
use Rattle.zio_staged.specs.declared.staged.Move.TheVariants.{End, Grow, Leaf, Next, Ready, Wait}
use Rattle.zio_staged.specs.declared.staged.Turn.{Turn}
use Rattle.zio_staged.specs.declared.staged.Turn.TheVariants.{End as Ended, Grow as Grown, Leaf as Handed, Next as On, Ready as Told, Wait as Waiting}

-- the move of a node that is this one now
abbrev pub moved : {N S : Type 0} → N → Turn N S → Move N S
moved node On = Next node
moved node (Waiting kind phase) = Wait node kind phase
moved node (Grown child kind) = Grow node child kind
moved node (Handed op leaf bytes) = Leaf node op leaf bytes
moved node (Told pointer) = Ready node pointer
moved node (Ended outcome) = End outcome.value
