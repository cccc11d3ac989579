use Rattle.std.proofs.Common.{set, ap, ◌∙◌, arith}
use Rattle.zio_places.specs.Tables.{TopState}
use Rattle.zio_places.proofs.ChangeLemmas.{IsEntered-removed, inside-length, length-inside}
use Rattle.zio_places.proofs.AllocateLemmas.{top_read}
use Rattle.zio_places.proofs.tops.remove.Goals as goal

pub returns : goal.returns
returns c =
    let inside = length-inside c.args.tops.now c.args.place.top c.args.place.sector (omega (arith, c.requires.live, c.requires.filled)) in
    let there = inside-length c.args.tops.now c.args.place.top c.args.place.sector inside in
    let read = top_read c.args.tops.now c.args.place.top c.index-tops-place.result there in
    IsEntered-removed c.args.tops.now c.args.place c.set_length.new.self c.requires.filled c.requires.live
    (c.set_length.ensures.lengths ∙ ap (λ (t : TopState). set t.lengths c.args.place.sector 0) read)
    (c.set_length.ensures.free ∙ ap (λ (t : TopState). t.free) read)
    (c.set_length.ensures.unit ∙ ap (λ (t : TopState). t.unit) read)
