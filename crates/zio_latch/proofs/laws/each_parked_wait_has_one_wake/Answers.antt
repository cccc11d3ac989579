use Rattle.zio_latch.proofs.Wakings.{begins_lawful, counted, one_wake, owing}
use Rattle.zio_latch.proofs.laws.each_parked_wait_has_one_wake.Goals as goal

pub returns : goal.returns
returns c = record {
  one = one_wake;
  counted = counted;
  owing = owing;
  beginnings = begins_lawful;
}
