use Rattle.std.proofs.Common.{◌++◌, ◌∷◌, [], sym, ◌∙◌}
use Rattle.zio_report.specs.Lines.{as_line}
use Rattle.zio_spelled.specs.Rounds.{others_of}
use Rattle.zio_spelled.specs.Spelled.{first_of}
use Rattle.zio_audit.specs.Putting.{put_in, rest_of}
use Rattle.zio_audit.proofs.PutLemmas.{put_close, put_plain, put_round, same_text, then_text}
use Rattle.zio_audit.proofs.putting.PutIn.pass_plain.Goals as goal

pub returns-then-is_round-clause-passed : goal.returns-then-is_round-clause-passed
returns-then-is_round-clause-passed c = λ later lines.
    let line = c.args.line.now in
    let held = c.args.held.now in
    let more = put_in (others_of later) (first_of later) lines in
    let old = rest_of c.args.self.now in
    let mid = rest_of c.pass.new.self in
    let new = rest_of c.pass_line.new.self in
    then_text old old new (put_in later held (line ∷ lines)) (held ++ (as_line line ++ more)) more
    (same_text old (put_in later held (line ∷ lines)) (held ++ (as_line line ++ more)) (put_round later held line lines (sym c.is_round.ensures ∙ c.if-is_round.true)))
    (then_text old mid new (held ++ (as_line line ++ more)) (as_line line ++ more) more (c.pass.ensures.passed (as_line line ++ more)) (c.pass_line.ensures.passed more))

pub returns-then-is_close-clause-passed : goal.returns-then-is_close-clause-passed
returns-then-is_close-clause-passed c = λ later lines.
    let line = c.args.line.now in
    let held = c.args.held.now in
    let more = put_in later [] lines in
    let old = rest_of c.args.self.now in
    let mid = rest_of c.pass-then-is_close.new.self in
    let new = rest_of c.pass_line-then-is_close.new.self in
    then_text old old new (put_in later held (line ∷ lines)) (held ++ (as_line line ++ more)) more
    (same_text old (put_in later held (line ∷ lines)) (held ++ (as_line line ++ more))
    (put_close later held line lines (sym c.is_round.ensures ∙ c.if-is_round.false) (sym c.is_close.ensures ∙ c.if-is_close.true)))
    (then_text old mid new (held ++ (as_line line ++ more)) (as_line line ++ more) more (c.pass-then-is_close.ensures.passed (as_line line ++ more))
    (c.pass_line-then-is_close.ensures.passed more))

pub returns-clause-passed : goal.returns-clause-passed
returns-clause-passed c = λ later lines.
    let line = c.args.line.now in
    let held = c.args.held.now in
    let more = put_in later held lines in
    let old = rest_of c.args.self.now in
    let new = rest_of c.pass_line-2.new.self in
    then_text old old new (put_in later held (line ∷ lines)) (as_line line ++ more) more
    (same_text old (put_in later held (line ∷ lines)) (as_line line ++ more)
    (put_plain later held line lines (sym c.is_round.ensures ∙ c.if-is_round.false) (sym c.is_close.ensures ∙ c.if-is_close.false)))
    (c.pass_line-2.ensures.passed more)
