use Rattle.zio_frames.proofs.MoveChildren.{tell_node}
use Rattle.zio_frames.proofs.MoveItself.{hand_node, leaf_node}
use Rattle.zio_frames.proofs.Moved.{order_kept}
use Rattle.zio_frames.proofs.MoveTrees.{round_begins}
use Rattle.zio_frames.proofs.NodeMoves.{node_arrives, node_chooses, node_closes, node_opens, node_settles, node_takes}
use Rattle.zio_frames.proofs.laws.nodes_go_on.Goals as goal

pub returns : goal.returns
returns c = record {
  begins = λ t sizes f before images sound is. round_begins t sizes f before images sound is;
  opens = λ t sizes f before trees x others s op st sound r does. node_opens t sizes f before trees x others s op st sound r does;
  closes = λ t sizes f before trees x others s v st sound r does. node_closes t sizes f before trees x others s v st r does;
  chooses = λ t sizes f before trees x others s c st sound r does lawful. node_chooses t sizes f before trees x others s c st sound r does lawful;
  takes = λ t sizes f before trees x others s tree free st sound r does is. node_takes t sizes f before trees x others s tree free st sound r does is;
  hands_out = λ t sizes f before trees x others s op sound r many asks.
      hand_node t sizes f before trees others s sound x.at x.stack.outer x.stack.inner x.stack.children op r many asks;
  on_leaf = λ t sizes f before trees at others s act a after sound r answers. leaf_node t sizes f before trees others s sound at act a after r answers;
  tells = λ t sizes f before trees x q others s n c pointer sound r will there nothing goes is.
      tell_node t sizes f before trees others s x.at q.at x.stack.outer q.stack.outer x.stack.inner q.stack.inner x.stack.children q.stack.children n c pointer
      r will there nothing goes is;
  arrives = λ t sizes f before trees x q others s n c v sound r ended there goes is. node_arrives t sizes f before trees x q others s n c v r ended there goes is;
  settles_tree = λ t sizes f before trees x others s n v sound r ended is. node_settles t sizes f before trees x others s n v r ended is;
  in_any_order = λ t sizes f before trees nodes other_order s r p. order_kept t sizes f before trees nodes other_order s r p;
}
