use Rattle.std.proofs.Common.{◌≡◌, Some}
use Rattle.slab.specs.Slab.{get, with_value}
use Rattle.zio_turns.specs.Acts.{with_ties}
use Rattle.zio_turns.proofs.ActLemmas.{in_place, lent_there}
use Rattle.zio_turns.proofs.Helps.{ahead_kept}
use Rattle.zio_turns.proofs.turns.Turns.go_on.Goals as goal

pub returns-clause-kept : goal.returns-clause-kept
returns-clause-kept g c =
    let e = c.in-Some.entry.now in
    let there : get c.args.self.now.nodes c.args.key ≡ Some e = lent_there c.in-Some.is c.get_mut.ensures.value in
    let now = with_ties c.go_on.new.self e.ties in
    ahead_kept g.N.NodeFacts.nodes c.does_its_part.ensures.gives_own c.args.self.now.nodes
    (with_value c.args.self.now.nodes c.args.key now) c.args.key e c.go_on.new.self there c.go_on.ensures.moves c.go_on.ensures.due
    (in_place c.args.self.now.nodes c.args.key e now there)
