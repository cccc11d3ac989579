use Rattle.std.proofs.Common.{◌≡◌, [], List, map, take, ap, ◌∙◌}
use Rattle.std.proofs.lemmas.List.{take_all}
use Rattle.zio_types.specs.declared.place.Place.{Place}
use Rattle.zio_types.specs.Choices.{Choice}
use Rattle.zio_places.specs.Spaces.{SpaceState}
use Rattle.zio_places.specs.Tables.{sizes_of, live_of}
use Rattle.zio_places.proofs.SpaceLemmas.{fresh_top, counted-new, sizes_of-fresh, live_of-fresh}
use Rattle.zio_places.proofs.space.Space.new.Goals as goal

pub invariant_of-result : goal.invariant_of-result
invariant_of-result c =
    let all : take c.loop-top.top-index c.args.tops.now ≡ c.args.tops.now = take_all c.loop-top.top-index c.args.tops.now c.loop-top-test.false in
    rw (c.new-2.ensures.items, c.new-3.ensures.len)
    (counted-new c.args.tops.now c.loop-top.tables.items _ _ (c.loop-top.invariant ∙ ap (map fresh_top) all) c.requires.few)

pub returns : goal.returns
returns c =
    let all : take c.loop-top.top-index c.args.tops.now ≡ c.args.tops.now = take_all c.loop-top.top-index c.args.tops.now c.loop-top-test.false in
    let tops : c.loop-top.tables.items ≡ map fresh_top c.args.tops.now = c.loop-top.invariant ∙ ap (map fresh_top) all in
    let sizes : sizes_of c.loop-top.tables.items ≡ c.args.tops.now = ap sizes_of tops ∙ sizes_of-fresh c.args.tops.now in
    let live : live_of c.loop-top.tables.items ≡ [] = ap live_of tops ∙ live_of-fresh c.args.tops.now in
    let state : List _ → List Place → List Place → List Choice → SpaceState = λ ss ls ps es. record { sizes = ss; live = ls; pending = ps; entries = es; spare = 0 } in
    ap (λ ss. state ss (live_of c.loop-top.tables.items) c.new-2.result.items c.new-3.result.items) sizes
    ∙ ap (λ ls. state c.args.tops.now ls c.new-2.result.items c.new-3.result.items) live
    ∙ ap (λ ps. state c.args.tops.now [] ps c.new-3.result.items) c.new-2.ensures.items
    ∙ ap (λ es. state c.args.tops.now [] [] es) c.new-3.ensures.items
