use Rattle.std.proofs.Common.{reverse}
use Rattle.std.specs.List.{AllByRecursion}
use Rattle.zio_plain.specs.declared.waiting.Waiting.{Waiting}
use Rattle.zio_plain.specs.OwnEnds.{AreNamed, Named}
use Rattle.zio_plain.proofs.PassLemmas.{IsPassing}
use Rattle.zio_plain.proofs.attempt.attempt.Given as goal

abbrev pub invariant-loop-waiting : goal.invariant-loop-waiting
invariant-loop-waiting g l =
    (named : Named) → AllByRecursion (λ (w : Waiting). AreNamed named w.request.work w.block) l.fn.tree →
    IsPassing g.W.OwnWork.tells g.W.OwnWork.runs g.W.OwnWork.fresh g.W.OwnWork.given (g.W.OwnWork.moves named) l.failmode l.attempt l.fn.tree l.waiting-iterator (reverse l.handed.items) l.again
    l.fn.ends.finished l.ends.finished l.fn.ends.freed l.ends.freed l.fn.works l.works
