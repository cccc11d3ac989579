use Rattle.std.proofs.Common.{◌≡◌, true, subst}
use Rattle.std.specs.List.{list_any}
use Rattle.zio_types.specs.declared.request.ChildKind.{ChildKind}
use Rattle.zio_types.specs.declared.request.ChildKind.TheVariants.{Logical}
use Rattle.zio_stages.specs.NodeChildren.{is_awaited}
use Rattle.zio_stages.proofs.family.Family.missing.Goals as goal

pub returns-then-is_missing-3-clause-awaited : goal.returns-then-is_missing-3-clause-awaited
returns-then-is_missing-3-clause-awaited c = λ kind e.
    let is : Logical ≡ kind = cc in
    subst (λ (k : ChildKind). list_any (is_awaited k c.args.phase) c.args.self.now ≡ true) is
    (c.is_missing-else-is_missing-2.ensures.awaited c.if-is_missing-3.true)
