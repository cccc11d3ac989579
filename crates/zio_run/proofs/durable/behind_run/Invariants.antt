use Rattle.std.proofs.Common.{◌≡◌, ◌∷◌, map, string_bytes, take}
use Rattle.std.specs.Prelude.{codes}
use Rattle.zio_run.proofs.durable.behind_run.Given as goal

abbrev pub invariant-loop-name : goal.invariant-loop-name
invariant-loop-name l = map string_bytes l.words.items ≡ codes "run" ∷ map string_bytes (take l.name-index l.names)
