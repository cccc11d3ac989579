use Rattle.std.proofs.Common.{◌≡◌, ◌+◌, ◌∷◌, [], get_or, take, drop, sym, ap, subst, arith}
use Rattle.std.specs.Prelude.{Contains}
use Rattle.std.proofs.lemmas.List.{drop_more, take_more}
use Rattle.zio_types.specs.Choices.{no_place}
use Rattle.zio_places.specs.Tables.{total, live_of, AreAllocated}
use Rattle.zio_places.proofs.PlaceLemmas.{contains-included, Contains-head}
use Rattle.zio_places.proofs.AllocateLemmas.{AreAllocated-before}
use Rattle.zio_places.proofs.tops.release_all.Goals as goal

pub release-requires-clause-live : goal.release-requires-clause-live
release-requires-clause-live c =
    let places = c.args.places.now in
    let i = c.loop-place.place-index in
    let p = get_or places i no_place in
    let rest : drop i places ≡ p ∷ drop (i + 1) places = drop_more places i no_place c.loop-place-test.true in
    contains-included (drop i places) (live_of c.loop-place.tops) c.loop-place.invariant.live p
    (subst (λ ps. Contains ps p) (sym rest) (Contains-head p (drop (i + 1) places)))

pub loop-place-preserved : goal.loop-place-preserved
loop-place-preserved c =
    let places = c.args.places.now in
    let i = c.loop-place.place-index in
    let p = get_or places i no_place in
    let rest : drop i places ≡ p ∷ drop (i + 1) places = drop_more places i no_place c.loop-place-test.true in
    record {
      released =
          subst (λ ps. AreAllocated c.release.new.tops c.args.tops.now ps) (sym (take_more places i no_place c.loop-place-test.true))
          (AreAllocated-before c.release.new.tops c.loop-place.tops c.args.tops.now (p ∷ []) (take i places) c.release.ensures c.loop-place.invariant.released);
      live = λ f. omega (arith, ap (total f) rest, c.loop-place.invariant.live f, c.release.ensures.live f);
    }
