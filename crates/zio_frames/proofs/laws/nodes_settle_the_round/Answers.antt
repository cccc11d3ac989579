use Rattle.zio_frames.proofs.MoveTrees.{round_answered, round_ends}
use Rattle.zio_frames.proofs.laws.nodes_settle_the_round.Goals as goal

pub returns : goal.returns
returns c = record {
  settled = λ t sizes f journal before values s sound have r of_round. round_ends t sizes f before journal values s sound have r of_round;
  answered = λ t sizes f journal before values s r of_round. round_answered t sizes f before journal values s r of_round;
}
