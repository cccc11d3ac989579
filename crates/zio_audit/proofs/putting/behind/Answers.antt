use Rattle.std.proofs.Common.{◌++◌, ap, subst}
use Rattle.std.specs.Prelude.{option_map}
use Rattle.std.proofs.lemmas.Bool.Decides.{Decides-eqb}
use Rattle.std.proofs.lemmas.Slice.Eq.{strip_prefix_is}
use Rattle.zio_audit.specs.Putting.{IsText}
use Rattle.zio_audit.proofs.PutLemmas.{passed_by}
use Rattle.zio_audit.proofs.putting.behind.Goals as goal

pub returns-in-None : goal.returns-in-None
returns-in-None c = λ more.
    let none = ap (option_map (λ t. t.now)) c.in-None.is in
    (λ h. subst (λ p. IsText p (c.args.text.now ++ more)) none h, λ h. absurd h)

pub returns-in-Some : goal.returns-in-Some
returns-in-Some c =
    passed_by (λ t. t.now) (option_map (λ t. t.now) c.args.rest) c.in-Some.rest.now c.args.text.now c.strip_prefix.result (ap (option_map (λ t. t.now)) c.in-Some.is)
    (strip_prefix_is Decides-eqb c.in-Some.rest.now c.args.text.now c.strip_prefix.result c.strip_prefix.ensures.cases)
