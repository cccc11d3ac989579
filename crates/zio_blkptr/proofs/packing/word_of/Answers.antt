use Rattle.std.proofs.Common.{[], length, get_or, ◌/◌, ap, ◌∙◌, arith}
use Rattle.std.specs.Int.{w64, from_le_bytes}
use Rattle.zio_blkptr.proofs.Words.{get_or-first_chunks}
use Rattle.zio_blkptr.proofs.packing.word_of.Goals as goal

pub returns : goal.returns
returns c =
    let bytes = c.args.bytes.now in
    c.from_le_bytes.ensures
    ∙ ap (from_le_bytes w64) (ap (λ ws. get_or ws c.args.i []) c.as_chunks.ensures.front ∙ get_or-first_chunks 8 (length bytes / 8) bytes c.args.i (omega arith))
