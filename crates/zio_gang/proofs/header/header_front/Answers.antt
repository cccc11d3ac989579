use Rattle.zio_gang.proofs.WriteLemmas.{front_written}
use Rattle.zio_gang.proofs.header.header_front.Goals as goal

pub returns : goal.returns
returns c =
    front_written c.args.members.now _ _ _ _ _ _ _ c.told-members
    c.member_bytes.ensures c.member_bytes-2.ensures c.member_bytes-3.ensures
    c.as_flattened.ensures.value c.as_flattened.ensures.len c.to_le_bytes.ensures c.put.ensures c.put-2.ensures
