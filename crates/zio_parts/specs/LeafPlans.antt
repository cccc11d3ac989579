-- The plans of the tasks that read or write a block's copies, by their programs of leaf operations.
use Rattle.std.specs.Prelude.{Option}
use Rattle.zio_types.specs.declared.error.Errno.{Errno}
use Rattle.zio_trace.specs.CopyPrograms.{Program}
use Rattle.zio_trace.specs.Leaves.{Answer}
use Rattle.zio_trace.specs.Plans.{TaskPlan, by_leaves}
use Rattle.zio_trace.specs.Programs.{Ends, ◌>>=◌}
use Rattle.zio_trace.specs.Tasks.{Value, Got, Wrote}

abbrev pub reading_plan : Program Answer → TaskPlan Value
reading_plan p = by_leaves p >>= λ a. Ends (Got a)

abbrev pub writing_plan : Program (Option Errno) → TaskPlan Value
writing_plan p = by_leaves p >>= λ e. Ends (Wrote e)
