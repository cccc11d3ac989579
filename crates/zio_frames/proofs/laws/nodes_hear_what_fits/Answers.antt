use Rattle.zio_trace.proofs.ClaimAlone.{claim_makes_none}
use Rattle.zio_frames.proofs.HeardParts.{child_does, fits_each, lies_at, node_takes_for, value_of_node}
use Rattle.zio_frames.proofs.laws.nodes_hear_what_fits.Goals as goal

pub returns : goal.returns
returns c = record {
  operation = λ t sizes f before trees x q others s n c r there goes is. child_does t sizes f before trees others s x q n c r there goes is;
  value = λ t sizes f before trees x others s v r ended. value_of_node t sizes f before trees others s x v r ended;
  each_journal = λ t entries op v journal none fits. fits_each t entries op v none fits journal;
  on_leaf = λ t sizes f before trees at others s act sound r. lies_at t sizes f before trees others s at act sound r;
  claim = λ t sizes f before trees nodes s sound r claim. claim_makes_none t sizes f before s sound r.underway claim;
  takes = λ t sizes f before trees x others s tree free st sound r does. node_takes_for t sizes f before trees others s x tree free st sound r does;
}
