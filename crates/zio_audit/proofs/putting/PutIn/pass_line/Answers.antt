use Rattle.std.proofs.Common.{◌++◌, ◌∷◌}
use Rattle.zio_report.specs.Lines.{as_line}
use Rattle.zio_audit.specs.Putting.{rest_of}
use Rattle.zio_audit.proofs.PutLemmas.{line_more, same_text, then_text}
use Rattle.zio_audit.proofs.putting.PutIn.pass_line.Goals as goal

pub returns-clause-passed : goal.returns-clause-passed
returns-clause-passed c = λ more.
    let line = c.args.line.now in
    let old = rest_of c.args.self.now in
    let mid = rest_of c.pass.new.self in
    let new = rest_of c.pass-2.new.self in
    then_text old old new (as_line line ++ more) (line ++ (10 ∷ more)) more (same_text old (as_line line ++ more) (line ++ (10 ∷ more)) (line_more line more))
    (then_text old mid new (line ++ (10 ∷ more)) (10 ∷ more) more (c.pass.ensures.passed (10 ∷ more)) (c.pass-2.ensures.passed more))
