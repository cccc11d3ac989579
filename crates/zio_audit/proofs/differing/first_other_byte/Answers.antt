use Rattle.std.proofs.Common.{rules, arith}
use Rattle.zio_audit.proofs.DifferLemmas.{end_differs}
use Rattle.zio_audit.proofs.differing.first_other_byte.Goals as goal

pub returns-clause-other : goal.returns-clause-other
returns-clause-other c = end_differs c.args.one.now c.args.other.now (search rules) (λ k less. c.loop-at.invariant k (omega arith))
