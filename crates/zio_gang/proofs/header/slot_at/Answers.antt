use Rattle.std.proofs.Common.{ℕ, ◌/◌, List, [], ◌∙◌, ap, get_or, arith}
use Rattle.std.specs.Simd.{first_chunks}
use Rattle.zio_blkptr.proofs.Words.{get_or-first_chunks}
use Rattle.zio_gang.proofs.header.slot_at.Goals as goal

pub returns : goal.returns
returns c =
    let bytes = c.args.bytes.now in
    ap (λ (xs : List (List ℕ)). get_or xs c.args.i [])
    (c.as_chunks.ensures.front ∙ ap (λ n. first_chunks 128 (n / 128) bytes) c.told-bytes)
    ∙ get_or-first_chunks 128 4 bytes c.args.i (omega arith)
