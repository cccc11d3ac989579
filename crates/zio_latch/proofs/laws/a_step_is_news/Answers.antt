use Rattle.zio_latch.proofs.Wakings.{child_news, owner_news}
use Rattle.zio_latch.proofs.laws.a_step_is_news.Goals as goal

pub returns : goal.returns
returns c = record { child = child_news; owner = owner_news }
