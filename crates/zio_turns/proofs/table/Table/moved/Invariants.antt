use Rattle.zio_turns.proofs.TableLemmas.{Moving}
use Rattle.zio_turns.proofs.table.Table.moved.Given as goal

abbrev pub invariant-loop-place : goal.invariant-loop-place
invariant-loop-place l = Moving l.place-items l.place-index l.size l.table
