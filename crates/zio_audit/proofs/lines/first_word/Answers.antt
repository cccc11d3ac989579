use Rattle.std.proofs.Common.{ap, rules, sym}
use Rattle.zio_spelled.specs.Spelled.{first_of}
use Rattle.zio_spelled.proofs.PartLemmas.{cut_at, whole_part}
use Rattle.zio_audit.proofs.lines.first_word.Goals as goal

pub returns-in-Some : goal.returns-in-Some
returns-in-Some c = sym (ap first_of (cut_at 32 c.args.line.now c.in-Some.end (search rules) (search rules) (search rules)))

pub returns-in-None : goal.returns-in-None
returns-in-None c = sym (ap first_of (whole_part 32 c.args.line.now (search rules)))
