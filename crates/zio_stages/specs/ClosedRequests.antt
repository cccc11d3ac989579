-- What becomes of a request in an attempt. No value of the program is one, so that none can be made up.
use Rattle.std.specs.Prelude.{List, Option}
use Rattle.zio_types.specs.declared.error.Errno.{Errno}
use Rattle.zio_types.specs.declared.request.Bits.{Bits}
use Rattle.zio_exchange.specs.declared.waiting.UnfinishedRequest.{UnfinishedRequest}
use Rattle.zio_stages.specs.declared.request_node.OwnFound.{OwnFound}

-- it finished with this error or none, or it goes again with these bits, and this tree is left; and what its own work came to
pub data Closed : Type 0 where
  Finished : UnfinishedRequest → Option Errno → OwnFound → Closed
  Again : Bits → List UnfinishedRequest → OwnFound → Closed
