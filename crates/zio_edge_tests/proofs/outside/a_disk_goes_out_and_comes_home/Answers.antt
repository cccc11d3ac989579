use Rattle.std.proofs.Common.{[], ◌∷◌, ◌∙◌}
use Rattle.zio_edge_tests.proofs.outside.a_disk_goes_out_and_comes_home.Goals as goal

-- the name is "a"
pub give_back-requires : goal.give_back-requires
give_back-requires g c =
    (97 ∷ [], c.write_at.ensures.home ∙ c.in_ok-disk.ensures.handed.2.home, c.in_ok-disk.ensures.change.changed)
