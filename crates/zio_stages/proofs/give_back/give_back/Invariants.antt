use Rattle.std.proofs.Common.{◌≡◌, ◌-◌, ◌≤◌, length}
use Rattle.zio_exchange.specs.SpaceCalls.{GivesBack}
use Rattle.zio_stages.proofs.give_back.give_back.Given as goal

abbrev pub invariant-loop-given : goal.invariant-loop-given
invariant-loop-given g l = record {
  gives : GivesBack g.S.Services.made l.places l.fn.given l.given l.fn.services l.services;
  within : l.given ≤ length l.places;
  tops : g.S.Services.tops l.services ≡ g.S.Services.tops l.fn.services;
}

abbrev pub decreases-loop-given : goal.decreases-loop-given
decreases-loop-given g l = length l.places - l.given
