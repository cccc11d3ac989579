-- What work that is stopped in the middle has done, and where it may have changed the images.
use Rattle.std.specs.Prelude.{List, ◌++◌, Option, Contains, option_to_list}
use Rattle.std.specs.List.{flat_map}
use Rattle.zio_types.specs.declared.place.Place.{Place}
use Rattle.zio_types.specs.Choices.{Choice, taken_by}
use Rattle.zio_cksum.specs.Frames.{spots_of}
use Rattle.zio_cksum.specs.Images.{Spot}
use Rattle.zio_gang.specs.declared.tree.Tree.{Tree}
use Rattle.zio_gang.specs.Attempts.{Pending, Terms}
use Rattle.zio_gang.specs.Trees.{tree_places}
use Rattle.zio_trace.specs.Families.{Forest, flat}
use Rattle.zio_trace.specs.Footprints.{Within}
use Rattle.zio_trace.specs.Tasks.{Task}
use Rattle.zio_trace.specs.Underway.{Work}

-- one of the tasks may do it
abbrev pub IsOfTasks : List Choice → Work → Task → Type 0
IsOfTasks journal w d = (q : Task) × Contains w.tasks q × Within journal w.terms q d

-- the places of a block, if there is one
abbrev pub places_of_block : Option Tree → List Place
places_of_block block = flat_map tree_places (option_to_list block)

-- the places of all blocks that the round's requests name
abbrev pub places_named : Forest → List Place
places_named f = flat_map (λ (p : Pending). places_of_block p.block) (flat f)

-- the places that the entries took
abbrev pub places_taken : List Choice → List Place
places_taken entries = flat_map taken_by entries

-- where a round with these entries may have written
abbrev pub spots_touched : Terms → Forest → List Choice → List Spot
spots_touched t f entries = spots_of t.setting (places_named f ++ places_taken entries)
