use Rattle.std.proofs.Common.{sym}
use Rattle.std.specs.Prelude.{false}
use Rattle.zio_places.proofs.TableLemmas.{live-length}
use Rattle.zio_places.proofs.AllocateLemmas.{live-flags, HasFlags-free, AreAllocated-one}
use Rattle.zio_places.proofs.tops.release.Goals as goal

pub remove-requires-clause-filled : goal.remove-requires-clause-filled
remove-requires-clause-filled c = (live-length c.args.tops.now c.args.place c.requires.live).0

pub remove-requires-clause-live : goal.remove-requires-clause-live
remove-requires-clause-live c = (live-length c.args.tops.now c.args.place c.requires.live).1

pub clear-requires : goal.clear-requires
clear-requires c =
    HasFlags-free c.args.tops.now c.remove.new.tops c.args.place false (sym (c.remove.ensures.free c.args.place.top)) (live-flags c.args.tops.now c.args.place c.requires.kept c.requires.live)

pub returns : goal.returns
returns c = AreAllocated-one _ _ _ c.args.place c.clear.ensures c.remove.ensures
