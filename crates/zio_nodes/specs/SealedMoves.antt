-- The moves of this crate's nodes, whose requests finish under the stages' seal.
use Rattle.zio_stages.specs.declared.closing.Seal.{Seal}
use Rattle.zio_staged.specs.declared.staged.Move.{Move as MoveUnder}

abbrev pub Move : Type 0 → Type 0
Move N = MoveUnder N Seal
