use Rattle.std.proofs.Common.{◌≡◌, drop, map}
use Rattle.zio_audit.specs.Marks.{meet_each, named}
use Rattle.zio_audit.proofs.marks.meet_round.Given as goal

abbrev pub invariant-loop-request : goal.invariant-loop-request
invariant-loop-request l =
    meet_each l.parents l.initial.marks (map (named l.round) l.order) ≡ meet_each l.parents l.marks (map (named l.round) (drop l.request-index l.order))
