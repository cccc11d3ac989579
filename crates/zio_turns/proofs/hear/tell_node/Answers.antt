use Rattle.std.proofs.Common.{◌≡◌, ◌<◌, Some, None, false, sym, subst, ◌∙◌}
use Rattle.std.proofs.lemmas.Result.{on_ok_weaker}
use Rattle.slab.specs.Slab.{get}
use Rattle.zio_types.specs.declared.request.Phase.TheVariants.{Ready}
use Rattle.zio_counts.specs.Tallies.{counted}
use Rattle.zio_staged.specs.Stages.{HearsSomeEarly}
use Rattle.zio_turns.specs.declared.entry.TiedNode.{TiedNode}
use Rattle.zio_turns.proofs.ActLemmas.{has_heard, in_place, lent_there}
use Rattle.zio_turns.proofs.Links.{some_is}
use Rattle.zio_turns.proofs.hear.tell_node.Goals as goal

pub arrive_ready-requires-clause-awaited : goal.arrive_ready-requires-clause-awaited
arrive_ready-requires-clause-awaited g c =
    let there : get c.args.nodes.now c.args.key ≡ Some c.in-Some.entry.now = lent_there c.in-Some.is c.get_mut.ensures.value in
    subst (λ (e : TiedNode _). HearsSomeEarly g.N.NodeFacts.nodes e.node c.args.child)
    (some_is c.requires.can.entry c.in-Some.entry.now (sym c.requires.can.there ∙ there)) c.requires.can.hears

pub count-requires : goal.count-requires
count-requires g c =
    let there : get c.args.nodes.now c.args.key ≡ Some c.in-Some.entry.now = lent_there c.in-Some.is c.get_mut.ensures.value in
    record {
      owed = subst (λ (e : TiedNode _). 0 < counted c.args.kind Ready e.ties.counts)
          (some_is c.requires.can.entry c.in-Some.entry.now (sym c.requires.can.there ∙ there)) c.requires.can.owed;
    }

pub returns : goal.returns
returns g c =
    let there : get c.args.nodes.now c.args.key ≡ Some c.in-Some.entry.now = lent_there c.in-Some.is c.get_mut.ensures.value in
    on_ok_weaker c.count.result
    (λ has. record {
      was = c.in-Some.entry.now;
      up = c.arrive_ready.new.self;
      error = None;
      bits = record { now = false; suspend = false };
      heard = has_heard g.N.NodeFacts.nodes c.args.nodes.now _ c.args.line.now c.count.new.line
          c.args.kind Ready None (record { now = false; suspend = false }) c.args.key c.in-Some.entry.now c.arrive_ready.new.self
          c.count.new.ties there
          (in_place c.args.nodes.now c.args.key c.in-Some.entry.now (record { node = c.arrive_ready.new.self; ties = c.count.new.ties }) there)
          has c.arrive_ready.ensures.told c.arrive_ready.ensures.left c.arrive_ready.ensures.gave c.arrive_ready.ensures.due;
      is = c.arrive_ready.ensures.heard;
      over_still = c.arrive_ready.ensures.over;
    })
    c.count.ensures
