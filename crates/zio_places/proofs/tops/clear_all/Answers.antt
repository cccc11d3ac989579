use Rattle.std.proofs.Common.{◌≡◌, get_or, take, sym, ap, subst, arith}
use Rattle.std.proofs.lemmas.List.{drop_more, take_more}
use Rattle.zio_types.specs.Choices.{no_place}
use Rattle.zio_places.specs.Tables.{covers, one_if, cover_count, AreMarkedUsed}
use Rattle.zio_places.proofs.AllocateLemmas.{AreMarkedUsed-before, taken-flags}
use Rattle.zio_places.proofs.tops.clear_all.Goals as goal

pub clear-requires : goal.clear-requires
clear-requires c =
    let places = c.args.places.now in
    let i = c.loop-place.place-index in
    let p = get_or places i no_place in
    let rest = drop_more places i no_place c.loop-place-test.true in
    taken-flags c.loop-place.tops p (c.requires.filled i no_place c.loop-place-test.true)
    (λ sector mine.
    let one : one_if (covers p p.top sector) ≡ 1 = ap one_if mine in
    omega (arith, one, ap (λ ps. cover_count ps p.top sector) rest, c.loop-place.invariant.left p.top sector))

pub loop-place-preserved : goal.loop-place-preserved
loop-place-preserved c =
    let places = c.args.places.now in
    let i = c.loop-place.place-index in
    let p = get_or places i no_place in
    let rest = drop_more places i no_place c.loop-place-test.true in
    record {
      cleared =
          subst (λ ps. AreMarkedUsed c.clear.new.tops c.args.tops.now ps) (sym (take_more places i no_place c.loop-place-test.true))
          (AreMarkedUsed-before c.clear.new.tops c.loop-place.tops c.args.tops.now p (take i places) c.clear.ensures c.loop-place.invariant.cleared);
      left = λ top sector. omega (arith, ap (λ ps. cover_count ps top sector) rest, c.loop-place.invariant.left top sector, c.clear.ensures.taken top sector);
    }
