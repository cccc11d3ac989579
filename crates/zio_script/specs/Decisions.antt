-- The failure decision: how a request goes again whose own work failed.
use Rattle.std.specs.Prelude.{Bool, true, false, ◌||◌, Option, Some, None}
use Rattle.zio_types.specs.declared.error.Errno.{Errno}
use Rattle.zio_types.specs.declared.error.Errno.TheVariants.{Nxio, Nospc}
use Rattle.zio_types.specs.declared.request.Bits.{Bits}
use Rattle.zio_types.specs.declared.request.Kind.{Kind}
use Rattle.zio_types.specs.declared.request.Kind.TheVariants.{Null, Read, Write, Free, Claim}
pub use Rattle.zio_types.specs.Bits.{no_bits, joined_bits, has_bits}
use Rattle.zio_script.specs.declared.script.Failmode.{Failmode}
use Rattle.zio_script.specs.declared.script.Failmode.TheVariants.{Wait, Continue, Panic}

-- a write that may not fail waits where there is no space, and else is tried at once
abbrev pub write_bits : Errno → Bits
write_bits Nospc = record { now = false; suspend = true }
write_bits _ = record { now = true; suspend = false }

-- a read or a free waits for a device that is gone, unless the run goes on without it
abbrev pub gone_bits : Errno → Failmode → Bits
gone_bits Nxio Wait = record { now = false; suspend = true }
gone_bits Nxio Continue = no_bits
gone_bits Nxio Panic = record { now = false; suspend = true }
gone_bits _ mode = no_bits

abbrev pub write_bits_unless : Bool → Errno → Bits
write_bits_unless true e = no_bits
write_bits_unless false e = write_bits e

-- the bits that the error of the own work gives by the kind of work
abbrev pub kind_bits : Kind → Errno → Bool → Failmode → Bits
kind_bits Null e canfail mode = no_bits
kind_bits Read e canfail mode = gone_bits e mode
kind_bits Write e canfail mode = write_bits_unless canfail e
kind_bits Free e canfail mode = gone_bits e mode
kind_bits Claim e canfail mode = no_bits

-- what may not fail and has no bit, of its own or of a child, waits
abbrev pub suspend_unless : Bool → Bits → Bits
suspend_unless true bits = bits
suspend_unless false bits = record { now = bits.now; suspend = true }

-- a claim may always fail, any other request by its flag
abbrev pub may_fail : Kind → Bool → Bool
may_fail Null canfail = canfail
may_fail Read canfail = canfail
may_fail Write canfail = canfail
may_fail Free canfail = canfail
may_fail Claim canfail = true

-- Rule: failure decision.
abbrev pub decided : Bool → Bits → Bits
decided canfail bits = suspend_unless (canfail || has_bits bits) bits

-- all bits of a request: its children's, and those for the error of its own work
-- Rule: failure decision, reexecution.
abbrev pub all_bits : Kind → Option Errno → Bool → Failmode → Bits → Bits
all_bits kind None canfail mode children = children
all_bits kind (Some e) canfail mode children =
    decided (may_fail kind canfail) (joined_bits (kind_bits kind e canfail mode) children)
