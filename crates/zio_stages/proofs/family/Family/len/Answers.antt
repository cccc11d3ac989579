use Rattle.std.proofs.Common.{◌∙◌, sym, ap, length}
use Rattle.zio_stages.proofs.FamilyLemmas.{length_children}
use Rattle.zio_stages.proofs.family.Family.len.Goals as goal

pub returns : goal.returns
returns c =
    let f = c.self.inside in
    c.len.ensures ∙ sym (length_children f.brood f.sittings.items c.self.invariant.0) ∙ ap length c.self.view_is
