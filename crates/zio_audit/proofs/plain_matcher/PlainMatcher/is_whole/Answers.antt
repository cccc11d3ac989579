use Rattle.std.proofs.Common.{ap, false, refl}
use Rattle.std.specs.Prelude.{option_map}
use Rattle.std.proofs.lemmas.Bool.{both_ways}
use Rattle.zio_audit.specs.PlainMatching.{text_left}
use Rattle.zio_audit.specs.Texts.{plain_text}
use Rattle.zio_audit.proofs.PlainMatchLemmas.{other_compared, whole_compared}
use Rattle.zio_audit.proofs.plain_matcher.PlainMatcher.is_whole.Goals as goal

pub returns-in-Some : goal.returns-in-Some
returns-in-Some c = λ text came holds.
    whole_compared c.next.result (λ p. p.0.now) (λ p. plain_text p.1.now) c.is_none.result c.args.self.now (text_left c.in-Some.rest) text came
    c.is_none.ensures (ap (option_map text_left) c.in-Some.is) holds c.next.ensures

pub returns-in-None : goal.returns-in-None
returns-in-None c = λ text came holds.
    (λ yes. absurd (both_ways false refl yes), λ same. absurd (other_compared c.args.self.now text came (ap (option_map text_left) c.in-None.is) holds same))
