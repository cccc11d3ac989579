-- Operations of a write that came to no error, and such that came to one.
use Rattle.std.proofs.Common.{◌≡◌, Some, None, refl}
use Rattle.zio_types.specs.declared.error.Errno.TheVariants.{Io, Nospc}
use Rattle.zio_heal.specs.WholeCases.{AskMayBeRefused, CopiesFailed, CopiesWritten, LeafMayFail, PartFailed, PartWritten, ReadIsNoWrite}

pub copies_written : CopiesWritten
copies_written = refl

pub copies_failed : CopiesFailed
copies_failed h = let e : Some Io ≡ None = h in absurd (cc)

pub part_written : PartWritten
part_written = refl

pub part_failed : PartFailed
part_failed h = let e : Some Nospc ≡ None = h in absurd (cc)

pub leaf_may_fail : LeafMayFail
leaf_may_fail = tt

pub ask_may_be_refused : AskMayBeRefused
ask_may_be_refused = tt

pub read_is_no_write : ReadIsNoWrite
read_is_no_write h = h
