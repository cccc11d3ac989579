use Rattle.std.proofs.Common.{not, bytes_eq, ◌∙◌, ap}
use Rattle.std.specs.List.{flat_map}
use Rattle.zio_blkptr.specs.Pointers.{word}
use Rattle.zio_gang.specs.HeaderFaults.{has_sum_fault}
use Rattle.zio_gang.proofs.HeaderLemmas.{last_bytes}
use Rattle.zio_gang.proofs.faults.has_sum_fault.Goals as goal

pub returns : goal.returns
unfolding has_sum_fault
returns c =
    let sum = c.as_slice.ensures ∙ c.sum_bytes.ensures ∙ ap (flat_map word) c.gang_sum.ensures in
    let last = last_bytes c.args.bytes.now c.told-bytes in
    c.ne.ensures ∙ (λ j. not (bytes_eq (last j) (sum j)))
