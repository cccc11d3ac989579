use Rattle.std.proofs.Common.{◌≡◌, map, take}
use Rattle.zio_places.proofs.SpaceLemmas.{fresh_top}
use Rattle.zio_places.proofs.space.Space.new.Given as goal

abbrev pub invariant-loop-top : goal.invariant-loop-top
invariant-loop-top l = l.tables.items ≡ map fresh_top (take l.top-index l.tops)
