-- What is kept of a request machine without its children: its counts as numbers.
use Rattle.std.specs.Prelude.{◌≡◌, ℕ, ◌+◌, ◌-◌, ◌^◌, min, List, Bool, true, false, ◌&&◌, not, Option, Some, None, ◌==◌}
use Rattle.std.specs.List.{list_any}
use Rattle.zio_types.specs.declared.error.Errno.{Errno}
use Rattle.zio_types.specs.declared.request.Bits.{Bits}
use Rattle.zio_types.specs.declared.request.ChildKind.{ChildKind}
use Rattle.zio_types.specs.declared.request.ChildKind.TheVariants.{Vdev, Gang, Logical}
use Rattle.zio_types.specs.declared.request.Phase.{Phase}
use Rattle.zio_types.specs.declared.request.Phase.TheVariants.{Ready, Done}
use Rattle.zio_types.specs.Bits.{has_bits, joined_bits}
use Rattle.zio_types.specs.Errors.{worst_error}
use Rattle.zio_types.specs.Machine.{BecameDone, BecameReady, Count, CountEvent, Machine, PerKind, count_of, error_unless, first_if, is_stall, joined_errors, same_kind}

-- the five counts, and the rest of a machine; a vdev child is always ready
pub record Tally : Type 0 where
  pub vdev_done : ℕ
  pub gang_ready : ℕ
  pub gang_done : ℕ
  pub logical_ready : ℕ
  pub logical_done : ℕ
  pub stall : Option Count
  pub errors : PerKind (Option Errno)
  pub bits : Bits

-- what is kept of a machine
abbrev pub tally_of : Machine → Tally
tally_of m = record {
  vdev_done = count_of Vdev Done m.children;
  gang_ready = count_of Gang Ready m.children;
  gang_done = count_of Gang Done m.children;
  logical_ready = count_of Logical Ready m.children;
  logical_done = count_of Logical Done m.children;
  stall = m.stall;
  errors = m.errors;
  bits = m.bits;
}

-- the count of a kind and a phase
abbrev pub counted : ChildKind → Phase → Tally → ℕ
counted Vdev Ready t = 0
counted Vdev Done t = t.vdev_done
counted Gang Ready t = t.gang_ready
counted Gang Done t = t.gang_done
counted Logical Ready t = t.logical_ready
counted Logical Done t = t.logical_done

-- where the count of children that aren't ready stands still
abbrev pub count_end : ℕ
count_end = 2 ^ 64 - 1

-- one child more of the kind
abbrev pub raised : ChildKind → Tally → Tally
raised Vdev t = record t { vdev_done = t.vdev_done + 1 }
raised Gang t = record t { gang_ready = min (t.gang_ready + 1) count_end; gang_done = t.gang_done + 1 }
raised Logical t = record t { logical_ready = min (t.logical_ready + 1) count_end; logical_done = t.logical_done + 1 }

-- one child of the kind less without the mark of the phase
abbrev pub lowered : ChildKind → Phase → Tally → Tally
lowered Vdev Ready t = t
lowered Vdev Done t = record t { vdev_done = t.vdev_done - 1 }
lowered Gang Ready t = record t { gang_ready = t.gang_ready - 1 }
lowered Gang Done t = record t { gang_done = t.gang_done - 1 }
lowered Logical Ready t = record t { logical_ready = t.logical_ready - 1 }
lowered Logical Done t = record t { logical_done = t.logical_done - 1 }

-- a child that is done leaves its error and its bits
abbrev pub joined : Phase → ChildKind → Option Errno → Bits → Tally → Tally
joined Ready kind error bits t = t
joined Done kind error bits t = record t {
  errors = joined_errors kind (error_unless (has_bits bits) error) t.errors;
  bits = joined_bits t.bits bits;
}

-- the next child with the mark is the last for which the request waits
abbrev pub is_last : ChildKind → Phase → Tally → Bool
is_last kind phase t = is_stall kind phase t.stall && (counted kind phase t == 1)

abbrev pub cleared_if : Bool → Tally → Tally
cleared_if true t = record t { stall = None }
cleared_if false t = t

-- a child of the kind got the mark of the phase
abbrev pub notified : ChildKind → Phase → Option Errno → Bits → Tally → Tally
notified kind phase error bits t =
    cleared_if (is_last kind phase t) (joined phase kind error bits (lowered kind phase t))

abbrev pub counted_or : ChildKind → List ChildKind → Phase → Tally → Option Count → Option Count
counted_or kind kinds phase t others =
    first_if (list_any (same_kind kind) kinds && not (counted kind phase t == 0))
    (record { kind = kind; phase = phase }) others

-- the first count of these kinds that isn't 0, in the order vdev, gang, logical
abbrev pub first_counted : List ChildKind → Phase → Tally → Option Count
first_counted kinds phase t =
    counted_or Vdev kinds phase t (counted_or Gang kinds phase t (counted_or Logical kinds phase t None))

-- the request stalls on a count, if there is one
abbrev pub stalled : Option Count → Tally → Tally
stalled None t = t
stalled (Some count) t = record t { stall = Some count }

-- ---- machines

-- the tally is that of a machine, whose vdev children are ready
pub record Shows (t : Tally) (m : Machine) : Type 0 where
  pub tally : tally_of m ≡ t
  pub vdevs : count_of Vdev Ready m.children ≡ 0

-- the event that a parent hears of
abbrev pub event_of : ChildKind → Phase → ℕ → Option Errno → Bits → CountEvent
event_of kind Ready n error bits = BecameReady kind n
event_of kind Done n error bits = BecameDone kind n error bits

-- the own error and those of vdev and gang children
abbrev pub joined_own : Option Errno → PerKind (Option Errno) → Option Errno
joined_own own errors = worst_error (worst_error own errors.vdev) errors.gang
