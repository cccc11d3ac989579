use Rattle.std.proofs.Common.{ap, is_eq, ◌∙◌}
use Rattle.zio_audit.specs.Names.{name_cmp}
use Rattle.zio_audit.proofs.NameLemmas.{same_name}
use Rattle.zio_audit.proofs.index.is_same_key.Goals as goal

pub returns : goal.returns
returns c =
    c.is_eq.ensures ∙ ap is_eq (c.cmp.ensures ∙ (λ i. name_cmp (c.name_of.ensures i) (c.name_of-2.ensures i)))
    ∙ same_name c.args.one.now c.args.other.now
