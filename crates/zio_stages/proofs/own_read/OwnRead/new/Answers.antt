use Rattle.std.proofs.Common.{[]}
use Rattle.zio_stages.proofs.own_read.OwnRead.new.Goals as goal

pub returns-clause-fresh : goal.returns-clause-fresh
returns-clause-fresh c = λ t family tree front_asked front st same children behind alone. record {
  asked = [];
  slots = [];
  begun = [];
  children = children;
  behind = behind;
  work = c.new.ensures.fresh tree same;
  told = tt;
  reads = tt;
  body = alone;
}
