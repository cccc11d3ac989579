use Rattle.std.proofs.Common.{[], refl}
use Rattle.zio_stages.proofs.own_free.OwnFree.new.Goals as goal

pub returns-clause-fresh : goal.returns-clause-fresh
returns-clause-fresh c = λ family tree front_asked front st children behind alone. record {
  asked = [];
  slots = [];
  children = children;
  behind = behind;
  walk = (refl, refl);
  alone = alone;
}
