use Rattle.std.proofs.Common.{◌≡◌, ◌++◌}
use Rattle.std.specs.String.{string_bytes}
use Rattle.zio_gen.specs.Generated.{group_text, head_lines, texts}
use Rattle.zio_gen.proofs.script.gen_.Given as goal

-- the lines of the groups so far
abbrev pub invariant-loop-group : goal.invariant-loop-group
invariant-loop-group l = string_bytes l.out ≡ head_lines ++ texts (group_text l.seed l.n) l.group
