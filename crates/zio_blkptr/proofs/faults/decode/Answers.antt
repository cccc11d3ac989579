use Rattle.std.proofs.Common.{Some, ap, sym, ◌∙◌}
use Rattle.zio_blkptr.proofs.Faultless.{pointer_of-no_fault}
use Rattle.zio_blkptr.proofs.FaultLemmas.{pointer_of-fault}
use Rattle.zio_blkptr.proofs.faults.decode.Goals as goal

pub returns-in-Some-clause-pointer : goal.returns-in-Some-clause-pointer
returns-in-Some-clause-pointer c =
    pointer_of-fault c.args.bytes.now c.in-Some.fault c.fits-bytes (sym c.first_fault.ensures ∙ c.in-Some.is)

pub returns-in-None-clause-pointer : goal.returns-in-None-clause-pointer
returns-in-None-clause-pointer c =
    pointer_of-no_fault c.args.bytes.now c.told-bytes c.fits-bytes (sym c.first_fault.ensures ∙ c.in-None.is) ∙ ap Some (sym c.fields.ensures)
