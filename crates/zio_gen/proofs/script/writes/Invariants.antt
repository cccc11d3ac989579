use Rattle.std.proofs.Common.{◌≡◌, ◌+◌, ◌++◌}
use Rattle.std.specs.String.{string_bytes}
use Rattle.zio_gen.specs.Generated.{write_line, texts}
use Rattle.zio_gen.proofs.script.writes.Given as goal

-- the lines of the blocks so far
abbrev pub invariant-loop-k : goal.invariant-loop-k
invariant-loop-k l = string_bytes l.out ≡ string_bytes l.initial.out ++ texts (λ k. write_line l.seed (l.number + k) (l.block + k)) l.k
