use Rattle.std.proofs.Common.{◌∷◌}
use Rattle.std.proofs.lemmas.Bool.Decides.{Decides-eqb}
use Rattle.std.proofs.lemmas.Slice.Eq.{strip_prefix_is}
use Rattle.zio_audit.specs.PlainMatching.{text_left}
use Rattle.zio_audit.specs.Texts.{plain_text}
use Rattle.zio_audit.proofs.PlainMatchLemmas.{at_end, in_line, off_line, passed_on, past_line}
use Rattle.zio_audit.proofs.plain_matcher.Rest.behind_run.Goals as goal

pub returns-in_err-line-clause-passed : goal.returns-in_err-line-clause-passed
returns-in_err-line-clause-passed c =
    let none = at_end (text_left c.args.self) c.args.piece.now c.in_err-line.ensures c.requires in
    rw c.from_residual.ensures none

pub returns-in_err-rest-in-None-clause-passed : goal.returns-in_err-rest-in-None-clause-passed
returns-in_err-rest-in-None-clause-passed c =
    let line = c.in_ok-line.line.now in
    let past = strip_prefix_is Decides-eqb c.args.piece.now line c.strip_prefix.result c.strip_prefix.ensures.cases in
    let within = strip_prefix_is Decides-eqb line c.args.piece.now c.strip_prefix-in-None.result c.strip_prefix-in-None.ensures.cases in
    let neither = rw c.in-None.is at past in
    let nor = rw c.in_err-rest-in-None.was at within in
    let none = off_line (text_left c.args.self) line (plain_text c.in_ok-line.behind.now) c.args.piece.now c.in_ok-line.ensures neither nor in
    rw c.from_residual-in_err-rest-in-None.ensures none

pub returns-in-Some-clause-passed : goal.returns-in-Some-clause-passed
returns-in-Some-clause-passed c =
    let line = c.in_ok-line.line.now in
    let cut = strip_prefix_is Decides-eqb c.args.piece.now line c.strip_prefix.result c.strip_prefix.ensures.cases in
    let past = rw c.in-Some.is at cut in
    passed_on c.behind_newline.result (λ p. text_left p.0) (λ p. p.1.now) (text_left c.args.self) c.args.piece.now
    (10 ∷ plain_text c.in_ok-line.behind.now) c.in-Some.more.now
    (past_line (text_left c.args.self) line (plain_text c.in_ok-line.behind.now) c.args.piece.now c.in-Some.more.now c.in_ok-line.ensures past)
    c.behind_newline.ensures.passed

pub returns-in_ok-rest-in-None-clause-passed : goal.returns-in_ok-rest-in-None-clause-passed
returns-in_ok-rest-in-None-clause-passed c =
    let line = c.in_ok-line.line.now in
    let cut = strip_prefix_is Decides-eqb line c.args.piece.now c.strip_prefix-in-None.result c.strip_prefix-in-None.ensures.cases in
    let within = rw c.in_ok-rest-in-None.was at cut in
    in_line (text_left c.args.self) line (plain_text c.in_ok-line.behind.now) c.args.piece.now c.in_ok-rest-in-None.rest.now c.in_ok-line.ensures within
