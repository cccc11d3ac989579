use Rattle.std.proofs.Common.{◌≡◌, ◌∙◌, true, refl, sym, subst}
use Rattle.std.specs.List.{list_any}
use Rattle.zio_types.specs.declared.request.ChildKind.TheVariants.{Gang}
use Rattle.zio_types.specs.declared.request.Phase.{Phase}
use Rattle.zio_stages.specs.NodeChildren.{is_awaited}
use Rattle.zio_nodes.proofs.Stalling.{both_phases, in_gang}
use Rattle.zio_nodes.proofs.stall.gang_stall.Goals as goal

pub returns-in-Some-clause-some : goal.returns-in-Some-clause-some
returns-in-Some-clause-some c = λ kind phase e.
    let first = c.first_of.ensures.some kind phase (c.in-Some.is ∙ e) in
    (in_gang kind first.0, subst (λ (p : Phase). list_any (is_awaited kind p) c.args.family.now ≡ true) (sym first.1) first.2)

pub returns-in-None-clause-some : goal.returns-in-None-clause-some
returns-in-None-clause-some c = λ kind phase e.
    let first = c.first_of-in-None.ensures.some kind phase e in
    (in_gang kind first.0, subst (λ (p : Phase). list_any (is_awaited kind p) c.args.family.now ≡ true) (sym first.1) first.2)

pub returns-in-None-clause-none : goal.returns-in-None-clause-none
returns-in-None-clause-none c = λ e.
    both_phases Gang c.args.family.now (c.first_of.ensures.none c.in-None.is Gang refl) (c.first_of-in-None.ensures.none e Gang refl)
