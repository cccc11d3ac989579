use Rattle.std.proofs.Common.{◌≡◌, ◌∙◌, List, true, sym, ap, subst}
use Rattle.std.specs.List.{list_any}
use Rattle.zio_frames.specs.Frames.{Child}
use Rattle.zio_stages.specs.NodeChildren.{is_awaited, is_owing}
use Rattle.zio_stages.proofs.OwingLemmas.{awaited_any, missing_any}
use Rattle.zio_stages.proofs.family.Family.any_missing.Goals as goal

pub returns-clause-missing : goal.returns-clause-missing
returns-clause-missing c =
    let f = c.self.inside in
    missing_any c.args.kind c.args.phase f.brood f.sittings.items c.args.self.now c.missing.result c.is_some.result
    c.self.invariant.0 c.self.view_is c.is_some.ensures c.missing.ensures

pub returns-clause-awaited : goal.returns-clause-awaited
returns-clause-awaited c = λ e.
    let f = c.self.inside in
    let missing = missing_any c.args.kind c.args.phase f.brood f.sittings.items c.args.self.now c.missing.result c.is_some.result
    c.self.invariant.0 c.self.view_is c.is_some.ensures c.missing.ensures in
    subst (λ (xs : List Child). list_any (is_awaited c.args.kind c.args.phase) xs ≡ true) c.self.view_is
    (awaited_any c.args.kind c.args.phase f.brood f.sittings.items c.self.invariant.1
    (ap (list_any (is_owing c.args.kind c.args.phase)) c.self.view_is ∙ sym missing ∙ e))
