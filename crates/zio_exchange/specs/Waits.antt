-- A request that waits for its end, seen as the definitions have it.
use Rattle.std.specs.Prelude.{ℕ, List, [], map, Option}
use Rattle.zio_script.specs.declared.script.Request.{Request}
use Rattle.zio_gang.specs.declared.tree.Tree.{Tree}
use Rattle.zio_gang.specs.Attempts.{Pending}
use Rattle.zio_children.specs.RequestKids.{child_of}
use Rattle.zio_exchange.specs.declared.waiting.UnfinishedRequest.{UnfinishedRequest}

abbrev pub pending_of : UnfinishedRequest → Pending
pending_of w = record { request = w.request; birth = w.birth; block = w.block; kept = map child_of w.kept }

abbrev pub pendings : List UnfinishedRequest → List Pending
pendings ws = map pending_of ws

-- a request that no round has seen
abbrev pub fresh : Request → ℕ → Option Tree → Pending
fresh r birth block = record { request = r; birth = birth; block = block; kept = [] }
