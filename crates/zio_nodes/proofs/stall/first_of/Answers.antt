use Rattle.std.proofs.Common.{◌≡◌, ◌∙◌, true, sym, subst}
use Rattle.std.specs.List.{list_any}
use Rattle.zio_types.specs.declared.request.ChildKind.{ChildKind}
use Rattle.zio_types.specs.Machine.{same_kind}
use Rattle.zio_stages.specs.NodeChildren.{is_awaited}
use Rattle.zio_stages.proofs.OwingLemmas.{none_owing, some_owing}
use Rattle.zio_nodes.proofs.Stalling.{both_same, none_counts}
use Rattle.zio_nodes.proofs.stall.first_of.Goals as goal

pub returns-in_err-kind-clause-none : goal.returns-in_err-kind-clause-none
returns-in_err-kind-clause-none c = λ e kind there.
    none_counts kind c.args.phase c.args.family.now
    (none_owing c.args.kinds.now c.args.phase c.args.family.now kind (sym c.missing.ensures.first ∙ c.in_err-kind.was) there)

pub returns-clause-some : goal.returns-clause-some
returns-clause-some c = λ kind at e.
    let first = c.in_ok-kind.kind in
    let phase = c.args.phase in
    let both = both_same first kind phase at e in (
      subst (λ (k : ChildKind). list_any (same_kind k) c.args.kinds.now ≡ true) both.0
          (some_owing c.args.kinds.now phase c.args.family.now first (sym c.missing.ensures.first ∙ c.in_ok-kind.was)).0,
      sym both.1,
      subst (λ (k : ChildKind). list_any (is_awaited k phase) c.args.family.now ≡ true) both.0 (c.missing.ensures.awaited first c.in_ok-kind.was),
    )
