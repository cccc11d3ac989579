use Rattle.std.proofs.Common.{length}
use Rattle.zio_thread_tests.proofs.loans.turn_all.Given as goal

abbrev pub ghosts-turn_each : goal.ghosts-turn_each
ghosts-turn_each g a = record { table = a.loans.now.table.shared.table_id; count = length a.home.items }
