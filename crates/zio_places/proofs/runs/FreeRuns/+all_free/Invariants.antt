use Rattle.zio_places.proofs.runs.FreeRuns.+all_free.Given as goal

abbrev pub decreases-all_free : goal.decreases-all_free
decreases-all_free l = l.sectors
