-- The bytes that are held, by one or by several.
use Rattle.std.specs.Prelude.{ℕ, List}
use Rattle.std.specs.Arc.{arc_value}
use Rattle.zio_shared.specs.declared.shared.Held.{Held}
use Rattle.zio_shared.specs.declared.shared.Held.TheVariants.{Many, One}

abbrev pub items_of : Held → List ℕ
items_of (One items) = items.items
items_of (Many whole) = (arc_value whole).items
