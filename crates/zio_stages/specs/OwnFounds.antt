-- What a request's own work came to.
use Rattle.zio_trace.specs.Tasks.{OwnGot}
use Rattle.zio_stages.specs.declared.request_node.OwnFound.{OwnFound}

abbrev pub own_got : OwnFound → OwnGot
own_got x = record { error = x.error; bytes = x.bytes; tree = x.tree; pointer = x.pointer }
