-- The places in use after a round, by the requests that finished.
use Rattle.std.specs.Prelude.{List, Contains, IsTrue, ◌⊎◌, ◌↔◌}
use Rattle.std.specs.List.{list_all}
use Rattle.zio_types.specs.declared.place.Place.{Place}
use Rattle.zio_types.specs.Places.{are_open, is_inside}
use Rattle.zio_gang.specs.Attempts.{Pending}
use Rattle.zio_gang.specs.Trees.{sizes_of}
use Rattle.zio_course.specs.declared.runner.RequestEnd.{RequestEnd}
use Rattle.zio_course.specs.Runners.{Standing, freed_places, made_places}

-- The places of blocks that were made lie inside the tops and met none in use; and in use are these, and those that were and that
-- no finished free named.
pub record LeavesInUse (s : Standing) (trees : List (List Pending)) (finished : List RequestEnd) (live : List Place) : Type 0 where
  pub inside : IsTrue (list_all (is_inside (sizes_of s.tops)) (made_places finished))
  pub free : IsTrue (are_open s.live (made_places finished))
  pub live_is : (p : Place) → Contains live p
      ↔ ((Contains s.live p × ¬ Contains (freed_places trees finished) p) ⊎ Contains (made_places finished) p)
