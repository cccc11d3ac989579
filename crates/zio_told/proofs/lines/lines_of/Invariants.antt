use Rattle.std.proofs.Common.{◌≡◌, ◌++◌, length, map}
use Rattle.zio_script.specs.Words.{lines_of}
use Rattle.zio_told.proofs.lines.lines_of.Given as goal

-- the lines so far and those of the rest are all
abbrev pub invariant-loop-line : goal.invariant-loop-line
invariant-loop-line l = map (λ line. line.now) l.lines.items ++ lines_of l.rest ≡ lines_of l.initial.rest

abbrev pub decreases-loop-line : goal.decreases-loop-line
decreases-loop-line l = length l.rest
