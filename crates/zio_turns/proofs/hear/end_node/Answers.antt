use Rattle.std.proofs.Common.{◌≡◌, ◌<◌, Some, sym, subst, ◌∙◌}
use Rattle.slab.specs.Slab.{get}
use Rattle.zio_types.specs.declared.request.Phase.TheVariants.{Done}
use Rattle.zio_counts.specs.Tallies.{counted}
use Rattle.zio_staged.specs.Stages.{HearsSome}
use Rattle.zio_turns.specs.declared.entry.TiedNode.{TiedNode}
use Rattle.zio_turns.proofs.ActLemmas.{has_heard, in_place, lent_there}
use Rattle.zio_turns.proofs.Links.{some_is}
use Rattle.zio_turns.proofs.hear.end_node.Goals as goal

pub arrive-requires-clause-over : goal.arrive-requires-clause-over
arrive-requires-clause-over g c =
    let there : get c.args.nodes.now c.args.key ≡ Some c.in-Some.entry.now = lent_there c.in-Some.is c.get_mut.ensures.value in
    subst (λ (e : TiedNode _). g.N.Staged.over c.args.tops.now e.node)
    (some_is c.requires.can.entry c.in-Some.entry.now (sym c.requires.can.there ∙ there)) c.requires.can.inside

pub arrive-requires-clause-awaited : goal.arrive-requires-clause-awaited
arrive-requires-clause-awaited g c =
    let there : get c.args.nodes.now c.args.key ≡ Some c.in-Some.entry.now = lent_there c.in-Some.is c.get_mut.ensures.value in
    subst (λ (e : TiedNode _). HearsSome g.N.NodeFacts.nodes c.args.tops.now e.node c.args.child c.args.outcome)
    (some_is c.requires.can.entry c.in-Some.entry.now (sym c.requires.can.there ∙ there)) c.requires.can.hears

pub count-requires : goal.count-requires
count-requires g c =
    let there : get c.args.nodes.now c.args.key ≡ Some c.in-Some.entry.now = lent_there c.in-Some.is c.get_mut.ensures.value in
    record {
      owed = subst (λ (e : TiedNode _). 0 < counted c.args.kind Done e.ties.counts)
          (some_is c.requires.can.entry c.in-Some.entry.now (sym c.requires.can.there ∙ there)) c.requires.can.owed;
    }

pub returns-clause-heard : goal.returns-clause-heard
returns-clause-heard g c =
    let there : get c.args.nodes.now c.args.key ≡ Some c.in-Some.entry.now = lent_there c.in-Some.is c.get_mut.ensures.value in
    record {
      was = c.in-Some.entry.now;
      up = c.arrive.new.self;
      error = c.error_of.result;
      bits = c.bits_of.result;
      heard = has_heard g.N.NodeFacts.nodes c.args.nodes.now _ c.args.line.now c.count.new.line
          c.args.kind Done c.error_of.result c.bits_of.result c.args.key c.in-Some.entry.now c.arrive.new.self
          c.count.new.ties there
          (in_place c.args.nodes.now c.args.key c.in-Some.entry.now (record { node = c.arrive.new.self; ties = c.count.new.ties }) there)
          c.in_ok-count.ensures c.in-Ok.ensures.told c.in-Ok.ensures.left c.in-Ok.ensures.gave c.in-Ok.ensures.due;
      is = c.in-Ok.ensures.heard;
      inside = c.in-Ok.ensures.over_still;
    }
