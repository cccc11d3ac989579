use Rattle.std.proofs.Common.{◌≡◌, ◌∷◌, ◌++◌, get_or, ap, ◌∙◌}
use Rattle.std.specs.Prelude.{slice_set}
use Rattle.zio_gang.specs.declared.tree.Head.{Head}
use Rattle.zio_blocks.proofs.TellLemmas.{head_read, head_set}
use Rattle.zio_blocks.proofs.pieces.fill_head.Goals as goal

pub returns : goal.returns
returns c front back head is at =
    let x : Head = c.index_mut.result.now in
    let here : x ≡ head = c.index_mut.ensures.value ∙ ap (λ hs. get_or hs c.args.at x) is ∙ ap (λ n. get_or (front ++ head ∷ back) n x) at ∙ head_read front back head x in
    ap (λ hs. slice_set hs c.args.at (record { path = x.path; bytes = c.args.bytes.now })) is
    ∙ ap (λ n. slice_set (front ++ head ∷ back) n (record { path = x.path; bytes = c.args.bytes.now })) at
    ∙ head_set front back head (record { path = x.path; bytes = c.args.bytes.now })
    ∙ ap (λ (h : Head). front ++ record { path = h.path; bytes = c.args.bytes.now } ∷ back) here
