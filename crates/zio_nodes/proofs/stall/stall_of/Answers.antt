use Rattle.std.proofs.Common.{◌≡◌, true, sym, subst}
use Rattle.std.specs.List.{list_any}
use Rattle.zio_types.specs.declared.request.Phase.{Phase}
use Rattle.zio_stages.specs.NodeChildren.{is_awaited}
use Rattle.zio_nodes.proofs.Stalling.{done_stalls, leaf_stalls, ready_stalls, told_stalls}
use Rattle.zio_nodes.proofs.stall.stall_of.Goals as goal

pub returns-in-WriteCompress-clause-some : goal.returns-in-WriteCompress-clause-some
returns-in-WriteCompress-clause-some c = λ kind phase e.
    let some = c.first_of.ensures.some kind phase e in (
      told_stalls c.args.stage kind phase c.in-WriteCompress.is some.0 some.1,
      subst (λ (p : Phase). list_any (is_awaited kind p) c.args.family.now ≡ true) (sym some.1) some.2,
    )

pub returns-in-Ready-clause-some : goal.returns-in-Ready-clause-some
returns-in-Ready-clause-some c = λ kind phase e.
    let some = c.first_of-in-Ready.ensures.some kind phase e in (
      ready_stalls c.args.stage kind phase c.in-Ready.is some.0 some.1,
      subst (λ (p : Phase). list_any (is_awaited kind p) c.args.family.now ≡ true) (sym some.1) some.2,
    )

pub returns-in-VdevIoDone-clause-some : goal.returns-in-VdevIoDone-clause-some
returns-in-VdevIoDone-clause-some c = λ kind phase e.
    let some = c.first_of-in-VdevIoDone.ensures.some kind phase e in (
      leaf_stalls c.args.stage kind phase c.in-VdevIoDone.is some.0 some.1,
      subst (λ (p : Phase). list_any (is_awaited kind p) c.args.family.now ≡ true) (sym some.1) some.2,
    )

pub returns-in-Done-clause-some : goal.returns-in-Done-clause-some
returns-in-Done-clause-some c = λ kind phase e.
    let some = c.first_of-in-Done.ensures.some kind phase e in (
      done_stalls c.args.stage kind phase c.in-Done.is some.1,
      subst (λ (p : Phase). list_any (is_awaited kind p) c.args.family.now ≡ true) (sym some.1) some.2,
    )
