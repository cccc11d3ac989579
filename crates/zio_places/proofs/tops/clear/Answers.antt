use Rattle.std.proofs.Common.{ap, subst, ◌∙◌}
use Rattle.std.specs.Prelude.{true, false}
use Rattle.zio_places.specs.Flags.{IsRangeSet}
use Rattle.zio_places.specs.Tables.{TopState}
use Rattle.zio_places.proofs.ChangeLemmas.{HasFlags-top, IsMarkedUsed-cleared}
use Rattle.zio_places.proofs.AllocateLemmas.{top_read}
use Rattle.zio_places.proofs.tops.clear.Goals as goal

pub returns : goal.returns
returns c =
    let there = HasFlags-top c.args.tops.now c.args.place false c.requires in
    let read = top_read c.args.tops.now c.args.place.top c.index-tops-place.result there in
    IsMarkedUsed-cleared c.args.tops.now c.args.place c.set_flag.new.self c.requires
    (subst (λ (t : TopState). IsRangeSet t.free c.set_flag.new.self.free c.args.place.sector c.args.place.sectors true) read c.set_flag.ensures.flags)
    (c.set_flag.ensures.lengths ∙ ap (λ (t : TopState). t.lengths) read)
    (c.set_flag.ensures.unit ∙ ap (λ (t : TopState). t.unit) read)
