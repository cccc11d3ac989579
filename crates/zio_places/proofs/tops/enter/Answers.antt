use Rattle.std.proofs.Common.{set, ap, ◌∙◌}
use Rattle.zio_places.specs.Tables.{TopState}
use Rattle.zio_places.proofs.ChangeLemmas.{IsEntered-entered, inside-length}
use Rattle.zio_places.proofs.AllocateLemmas.{top_read}
use Rattle.zio_places.proofs.tops.enter.Goals as goal

pub returns : goal.returns
returns c =
    let there = inside-length c.args.tops.now c.args.place.top c.args.place.sector c.requires.inside in
    let read = top_read c.args.tops.now c.args.place.top c.index-tops-place.result there in
    IsEntered-entered c.args.tops.now c.args.place c.set_length.new.self c.requires.filled c.requires.inside c.requires.empty
    (c.set_length.ensures.lengths ∙ ap (λ (t : TopState). set t.lengths c.args.place.sector c.args.place.sectors) read)
    (c.set_length.ensures.free ∙ ap (λ (t : TopState). t.free) read)
    (c.set_length.ensures.unit ∙ ap (λ (t : TopState). t.unit) read)
