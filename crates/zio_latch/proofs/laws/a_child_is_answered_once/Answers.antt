use Rattle.zio_latch.proofs.Wakings.{answered, only_answer, same_step}
use Rattle.zio_latch.proofs.laws.a_child_is_answered_once.Goals as goal

pub returns : goal.returns
returns c = record { same = same_step; woken = answered; only = only_answer }
