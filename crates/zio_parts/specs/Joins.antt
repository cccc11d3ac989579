-- Bodies that are joined one by one.
use Rattle.std.specs.Prelude.{[], ◌∷◌, ◌++◌, Option, Some, None, Ok, Err}
use Rattle.zio_trace.specs.Leaves.{Answer}
use Rattle.zio_trace.specs.Plans.{Bodies}

abbrev pub no_bodies : Bodies
no_bodies = record { errors = []; bytes = [] }

-- those before it, and what was read of a body, if it was
abbrev pub then_got : Bodies → Option Answer → Bodies
then_got b None = b
then_got b (Some (Ok bytes)) = record { errors = b.errors; bytes = b.bytes ++ bytes }
then_got b (Some (Err e)) = record { errors = b.errors ++ Some e ∷ []; bytes = b.bytes }
