use Rattle.std.proofs.Common.{◌++◌, ap, subst, sym, ◌∙◌}
use Rattle.std.specs.Prelude.{option_map}
use Rattle.zio_audit.specs.PlainMatching.{IsLeftOf, text_left}
use Rattle.zio_audit.proofs.PlainMatchLemmas.{compared_more, others_came, piece_came}
use Rattle.zio_audit.proofs.plain_matcher.PlainMatcherSink.write.Goals as goal

pub returns-in-Some-clause-ok : goal.returns-in-Some-clause-ok
returns-in-Some-clause-ok c = λ held holds.
    let piece = c.args.piece.now in
    let left = subst (λ r. IsLeftOf holds.text (option_map text_left r) holds.came) c.in-Some.is holds.left in
    record {
      text = holds.text;
      came = holds.came ++ piece;
      held_is = ap (λ ns. ns ++ piece) holds.held_is ∙ compared_more holds.text holds.came piece;
      left = piece_came c.behind-self.result text_left holds.text holds.came piece (text_left c.in-Some.rest) left c.behind-self.ensures;
    }

pub returns-in_default-clause-ok : goal.returns-in_default-clause-ok
returns-in_default-clause-ok c = λ held holds.
    let piece = c.args.piece.now in
    let other = subst (λ r. IsLeftOf holds.text (option_map text_left r) holds.came) c.in_default.is holds.left in
    record {
      text = holds.text;
      came = holds.came ++ piece;
      held_is = ap (λ ns. ns ++ piece) holds.held_is ∙ compared_more holds.text holds.came piece;
      left = subst (λ r. IsLeftOf holds.text (option_map text_left r) (holds.came ++ piece)) (sym c.in_default.is) (others_came holds.text holds.came piece other);
    }
