use Rattle.std.proofs.Common.{◌≡◌, true}
use Rattle.std.specs.List.{list_all}
use Rattle.zio_types.specs.Places.{is_lawful_top}
use Rattle.zio_drawing.proofs.picture.sizes_of.Given as goal

abbrev pub invariant-loop-top : goal.invariant-loop-top
invariant-loop-top l = list_all is_lawful_top l.sizes.items ≡ true
