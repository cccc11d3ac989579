use Rattle.std.specs.Option.{option_copied_mut}
use Rattle.std.proofs.Common.{◌≡◌, Some, ap, sym, ◌∙◌}
use Rattle.std.proofs.lemmas.Result.{on_ok_weaker}
use Rattle.slab.specs.Slab.{get}
use Rattle.zio_turns.specs.Acts.{with_ties}
use Rattle.zio_turns.proofs.ActLemmas.{in_place, lent_there}
use Rattle.zio_turns.proofs.Answered.{answer_comes_back, at_leaf_held, at_leaf_is}
use Rattle.zio_turns.proofs.Loads.{less_answered}
use Rattle.zio_turns.proofs.Shelves.{all_with, none_some}
use Rattle.zio_turns.proofs.turns.Turns.answered.Goals as goal

pub unreachable-requires : goal.unreachable-requires
unreachable-requires g c =
    let held = at_leaf_held g.N.NodeFacts.nodes c.args.self.now.nodes c.args.self.now.line c.args.key c.requires in
    none_some held.0 (sym (ap option_copied_mut c.in_default.is) ∙ (c.get_mut.ensures.value ∙ held.1))

pub answered-requires : goal.answered-requires
answered-requires g c =
    let there : get c.args.self.now.nodes c.args.key ≡ Some c.in-Some.entry.now = lent_there c.in-Some.is c.get_mut.ensures.value in
    at_leaf_is g.N.NodeFacts.nodes c.args.self.now.nodes c.args.self.now.line c.args.key c.requires c.in-Some.entry.now there

pub returns-clause-comes_back : goal.returns-clause-comes_back
returns-clause-comes_back g c =
    let there : get c.args.self.now.nodes c.args.key ≡ Some c.in-Some.entry.now = lent_there c.in-Some.is c.get_mut.ensures.value in
    on_ok_weaker c.queue_up.result
    (λ q. answer_comes_back g.N.NodeFacts.nodes c.args.self.now.nodes c.args.self.now.line c.args.key
    _ c.queue_up.new.line c.args.error c.args.bytes c.in-Some.entry.now c.answered.new.self
    there c.answered.ensures.heard c.answered.ensures.told c.answered.ensures.gave c.answered.ensures.due
    (in_place c.args.self.now.nodes c.args.key c.in-Some.entry.now (with_ties c.answered.new.self c.in-Some.entry.now.ties) there) q)
    c.queue_up.ensures

pub returns-clause-over : goal.returns-clause-over
returns-clause-over g c = λ tops all.
    let there : get c.args.self.now.nodes c.args.key ≡ Some c.in-Some.entry.now = lent_there c.in-Some.is c.get_mut.ensures.value in
    on_ok_weaker c.queue_up.result
    (λ q. all_with (g.N.Staged.over tops) c.args.self.now.nodes _ c.args.key
    (with_ties c.answered.new.self c.in-Some.entry.now.ties)
    (in_place c.args.self.now.nodes c.args.key c.in-Some.entry.now (with_ties c.answered.new.self c.in-Some.entry.now.ties) there)
    (c.answered.ensures.over tops (all c.args.key c.in-Some.entry.now there)) all)
    c.queue_up.ensures

pub returns-clause-less : goal.returns-clause-less
returns-clause-less g c =
    let there : get c.args.self.now.nodes c.args.key ≡ Some c.in-Some.entry.now = lent_there c.in-Some.is c.get_mut.ensures.value in
    on_ok_weaker c.queue_up.result
    (λ q. less_answered g.N.NodeFacts.nodes.left c.args.self.now.nodes _ c.args.self.now.line c.queue_up.new.line
    c.args.key c.in-Some.entry.now c.answered.new.self there
    (in_place c.args.self.now.nodes c.args.key c.in-Some.entry.now (with_ties c.answered.new.self c.in-Some.entry.now.ties) there)
    c.answered.ensures.left q)
    c.queue_up.ensures
