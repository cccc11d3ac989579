-- A tree has more requests than each of its children's trees.
use Rattle.std.specs.Prelude.{◌+◌, ◌≤◌, List, [], ◌∷◌, length}
use Rattle.std.proofs.Common.{arith, length-append}
use denote.Param.Weighed.{most}
use Rattle.zio_exchange.specs.declared.waiting.UnfinishedRequest.{UnfinishedRequest}
use Rattle.zio_exchange.specs.Wholes.{joined}

-- no tree is longer than all of them together
pub most_joined : (trees : List (List UnfinishedRequest)) → most (λ ws. length ws + 1) trees ≤ length (joined trees) + 1
most_joined [] = omega arith
most_joined (ws ∷ trees) = omega (arith, most_joined trees, length-append ws (joined trees))
