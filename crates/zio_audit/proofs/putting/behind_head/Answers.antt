use Rattle.std.proofs.Common.{◌++◌, List, ap, sym, ◌∙◌, ℕ}
use Rattle.std.specs.Prelude.{codes}
use Rattle.std.proofs.lemmas.Bool.Decides.{Decides-eqb}
use Rattle.std.proofs.lemmas.Slice.Eq.{strip_prefix_is}
use Rattle.zio_audit.proofs.PutLemmas.{head_is}
use Rattle.zio_audit.proofs.putting.behind_head.Goals as goal

pub returns : goal.returns
returns c =
    let cut = strip_prefix_is Decides-eqb c.args.round.now (codes "round 0 clear point 0\n") c.strip_prefix.result c.strip_prefix.ensures.cases in
    let here = rw c.in-Some.is at cut in
    here ∙ ap (λ (head : List ℕ). head ++ c.in-Some.journal.now) (sym head_is)

pub unreachable-requires : goal.unreachable-requires
unreachable-requires c =
    let cut = strip_prefix_is Decides-eqb c.args.round.now (codes "round 0 clear point 0\n") c.strip_prefix.result c.strip_prefix.ensures.cases in
    let other = rw c.in_default.is at cut in
    other c.requires.0 (c.requires.1 ∙ ap (λ (head : List ℕ). head ++ c.requires.0) head_is)
