use Rattle.std.proofs.Common.{◌∷◌, [], take, refl, sym, subst, arith}
use Rattle.zio_types.specs.Choices.{no_place}
use Rattle.zio_types.specs.Places.{AreCopies}
use Rattle.zio_types.specs.Filled.{length-take-filled}
use Rattle.zio_places.specs.Tables.{AreAllocated, sizes_of}
use Rattle.zio_places.proofs.AllocateLemmas.{AreAllocated-then}
use Rattle.zio_places.proofs.CountLemmas.{AreBitmapsOf-allocate}
use Rattle.zio_places.proofs.UnitLemmas.{AreAligned-append, AreAligned-copies}
use Rattle.zio_places.proofs.LawLemmas.{found-next, none-refused, AreCopies-push, filled-push}
use Rattle.zio_places.proofs.take.take_copies.Goals as goal

pub returns-in_default-clause-lawful : goal.returns-in_default-clause-lawful
returns-in_default-clause-lawful c used count aligned =
    let i = c.loop-found.invariant in
    let places = take c.loop-found.found c.loop-found.places in
    let long = length-take-filled no_place 3 c.loop-found.found c.loop-found.places i.filled in
    record {
      found = omega (arith, long, c.loop-found-test.true);
      copies = i.lawful used count aligned;
      refused = λ less. none-refused used places (sizes_of c.args.tops.now) c.loop-found.tops c.args.size i.held.sizes (AreBitmapsOf-allocate used c.args.tops.now c.loop-found.tops places count i.held) (i.held.even c.requires.kept.even) c.in_default.ensures;
    }

pub loop-found-preserved : goal.loop-found-preserved
loop-found-preserved c =
    let i = c.loop-found.invariant in
    let places = take c.loop-found.found c.loop-found.places in
    let p = c.in-Some.place in
    let more = filled-push 3 c.loop-found.found c.loop-found.places p (omega (arith, c.loop-found-test.true, c.requires.most)) i.filled in
    record {
      filled = more.0;
      held = subst (λ ps. AreAllocated c.args.tops.now c.allocate.new.tops ps) (sym more.1) (AreAllocated-then c.args.tops.now c.loop-found.tops c.allocate.new.tops places (p ∷ []) i.held c.allocate.ensures);
      lawful = λ used count aligned.
          subst (λ ps. AreCopies (sizes_of c.args.tops.now) used c.args.size [] ps) (sym more.1)
          (AreCopies-push (sizes_of c.args.tops.now) used c.args.size [] places p (i.lawful used count aligned)
          (found-next used places (sizes_of c.args.tops.now) c.loop-found.tops c.args.size p i.held.sizes (AreBitmapsOf-allocate used c.args.tops.now c.loop-found.tops places count i.held)
          (AreAligned-append (sizes_of c.args.tops.now) places used (AreAligned-copies (sizes_of c.args.tops.now) c.args.tops.now used c.args.size [] places refl (i.lawful used count aligned)) aligned)
          (i.held.even c.requires.kept.even) c.in-Some.ensures));
    }
