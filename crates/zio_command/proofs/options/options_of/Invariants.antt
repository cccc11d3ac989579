use Rattle.std.proofs.Common.{length, map, string_bytes}
use Rattle.zio_command.proofs.OptionLemmas.{IsFront}
use Rattle.zio_command.proofs.options.options_of.Given as goal

abbrev pub invariant-loop-rest : goal.invariant-loop-rest
invariant-loop-rest l = IsFront l.serial (map string_bytes l.words) l.options (map string_bytes l.rest)

abbrev pub decreases-loop-rest : goal.decreases-loop-rest
decreases-loop-rest l = length l.rest
