use Rattle.std.proofs.Common.{length}
use Rattle.zio_script.proofs.lines.+add_numbers.Given as goal

-- one word fewer each time
abbrev pub decreases-add_numbers : goal.decreases-add_numbers
decreases-add_numbers l = length l.words.now
