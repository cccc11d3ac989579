use Rattle.std.proofs.Common.{◌∙◌, ◌++◌, length, ap}
use Rattle.std.specs.List.{flat_map}
use Rattle.zio_cksum.specs.Headers.{member_bytes}
use Rattle.zio_gang.proofs.ContentLemmas.{alone_content, alone_size, joined_size}
use Rattle.zio_gang.proofs.writes.unpadded.Goals as goal

pub returns-then-is_empty-clause-content : goal.returns-then-is_empty-clause-content
returns-then-is_empty-clause-content c =
    alone_content c.args.pointers.now c.in_ok-own.own c.is_empty.result c.is_empty.ensures c.if-is_empty.true ∙ ap (λ bs. flat_map member_bytes c.args.pointers.now ++ bs) c.in_ok-own.ensures

pub returns-then-is_empty-clause-size : goal.returns-then-is_empty-clause-size
returns-then-is_empty-clause-size c = alone_size c.args.pointers.now c.in_ok-own.own c.args.body.now c.is_empty.result c.is_empty.ensures c.if-is_empty.true c.in_ok-own.ensures

pub returns-clause-size : goal.returns-clause-size
returns-clause-size c =
    joined_size _ _ _ c.args.body.now (length c.args.pointers.now) c.in_ok-extend_from_slice.ensures.ok c.in_ok-bytes.ensures.size (c.as_slice.ensures ∙ c.in_ok-own.ensures)
