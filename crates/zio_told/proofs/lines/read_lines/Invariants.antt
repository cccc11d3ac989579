use Rattle.std.proofs.Common.{map, take}
use Rattle.std.specs.List.{AllZip}
use Rattle.zio_told.specs.Told.{IsLine}
use Rattle.zio_told.proofs.lines.read_lines.Given as goal

abbrev pub invariant-loop-line : goal.invariant-loop-line
invariant-loop-line l = AllZip (IsLine l.tops) (map (λ line. line.now) (take l.line-index l.lines)) l.told.items
