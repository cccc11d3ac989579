-- What the fields of `Counts` show.
use Rattle.std.specs.Prelude.{Option, Some, None}
use Rattle.zio_types.specs.Machine.{Count}
use Rattle.zio_counts.specs.declared.counts.Counts.TheInside.{Inside}
use Rattle.zio_counts.specs.declared.counts.Stall.{Stall}
use Rattle.zio_counts.specs.Tallies.{Tally}

abbrev pub stall_of : Option Stall → Option Count
stall_of None = None
stall_of (Some stall) = Some (record { kind = stall.kind; phase = stall.phase })

abbrev pub tally : Inside → Tally
tally counts = record {
  vdev_done = counts.vdev_done;
  gang_ready = counts.gang_ready;
  gang_done = counts.gang_done;
  logical_ready = counts.logical_ready;
  logical_done = counts.logical_done;
  stall = stall_of counts.stall;
  errors = record { vdev = counts.vdev_error; gang = counts.gang_error; logical = counts.logical_error };
  bits = counts.bits;
}
