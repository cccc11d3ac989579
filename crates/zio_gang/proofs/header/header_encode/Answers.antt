use Rattle.std.proofs.Common.{rules}
use Rattle.zio_gang.proofs.WriteLemmas.{sum_written}
use Rattle.zio_gang.proofs.header.header_encode.Goals as goal

pub returns : goal.returns
returns c =
    sum_written c.args.members.now c.args.place.now c.args.birth _ _ _ _ (search rules)
    c.header_front-bytes.ensures c.gang_sum.ensures c.sum_bytes-sum.ensures (search rules) c.put.ensures
