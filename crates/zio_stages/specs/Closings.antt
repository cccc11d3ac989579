-- What a request's node ends with where its attempt closes.
use Rattle.std.specs.Prelude.{◌≡◌, ℕ, List}
use Rattle.zio_script.specs.declared.script.Failmode.{Failmode}
use Rattle.zio_gang.specs.Attempts.{Terms, tree_unless}
use Rattle.zio_frames.specs.Frames.{Child, Stack}
use Rattle.zio_stages.specs.ClosedRequests.{Again, Closed, Finished}
use Rattle.zio_stages.specs.KidLists.{LeavesList}
use Rattle.zio_stages.specs.KidTrees.{KidsHeld}
use Rattle.zio_stages.specs.Labels.{closed_label}
use Rattle.zio_stages.specs.OwnFounds.{own_got}
use Rattle.zio_stages.specs.RequestNodes.{Closes, IsRequestNode, OwnEnds}
use Rattle.zio_stages.specs.RequestStoreds.{is_well, keeps_block, own_in}
use Rattle.zio_stages.specs.Sealed.{Outcome}
use Rattle.zio_exchange.specs.declared.outcome.Outcome.TheVariants.{Again as GoesAgain, Finished as HasFinished}
use Rattle.zio_exchange.specs.declared.waiting.UnfinishedRequest.{UnfinishedRequest}
use Rattle.zio_stages.specs.declared.request_node.Own.{Own}
use Rattle.zio_stages.specs.declared.request_node.OwnFound.{OwnFound}
use Rattle.zio_stages.specs.declared.request_node.RequestNode.{RequestNode}

-- one that finished, under its node's label, with the block that it keeps; or one that goes again
abbrev pub outcome_of : (label : ℕ) → Closed → Outcome
outcome_of label (Finished waiting error own) = HasFinished (record {
  request = waiting.request.number;
  label = label;
  error = error;
  bytes = own.bytes;
  block = tree_unless error own.tree;
  pointer = own.pointer;
})
outcome_of label (Again bits whole own) = GoesAgain whole bits own.pointer

-- a request's node over these children, however far its own work is
abbrev pub node_over : UnfinishedRequest → KidsHeld → Own → List Child → ℕ → ℕ → Failmode → RequestNode
node_over waiting kids own family round attempt failmode = record {
  waiting = waiting;
  kids = kids;
  own = own;
  family = family;
  round = round;
  attempt = attempt;
  failmode = failmode;
}

-- The node's attempt closed, where its own work came to this: it ends with this outcome, under its own label, and finished
-- without error exactly where its own work and its children did.
pub record EndsBy (r : RequestNode) (own : OwnFound) (outcome : Outcome) : Type 0 where
  pub closed : Closed
  pub is : outcome ≡ outcome_of (closed_label r.attempt closed) closed
  pub own_is : own_in closed ≡ own
  pub decides : keeps_block closed ≡ is_well r own.error
  pub closes : (t : Terms) (st : Stack) (h : IsRequestNode t r st) → Closes t r st h closed
  pub list : LeavesList r closed

-- The same, where its own work ended with this.
pub record ClosesBy (r : RequestNode) (own : OwnFound) (outcome : Outcome) : Type 0 where
  pub closed : Closed
  pub is : outcome ≡ outcome_of (closed_label r.attempt closed) closed
  pub own_is : own_in closed ≡ own
  pub decides : keeps_block closed ≡ is_well r own.error
  pub closes : (t : Terms) (st : Stack) (h : IsRequestNode t r st) → OwnEnds t r st (own_got own) h → Closes t r st h closed
  pub list : LeavesList r closed
