use Rattle.zio_turns.proofs.Finds.{leaf_held, node_found, parent_found, queued_held, tree_found}
use Rattle.zio_turns.proofs.Queues.{queued_last}
use Rattle.zio_turns.proofs.Waits.{first_counts}
use Rattle.zio_turns.proofs.laws.engines_find_nodes.Goals as goal

pub returns-clause-finds : goal.returns-clause-finds
returns-clause-finds g c = λ t sizes f before trees tops lives shelf queue leaves s key h k e.
    node_found g.N.NodeFacts.nodes t sizes f before trees tops shelf queue leaves s lives key h k e

pub returns-clause-finds_parent : goal.returns-clause-finds_parent
returns-clause-finds_parent g c = λ t sizes f before trees tops others shelf queue leaves s key above n x h k e is.
    parent_found g.N.NodeFacts.nodes t sizes f before trees tops shelf queue leaves s key above n x others h k e is

pub returns-clause-finds_tree : goal.returns-clause-finds_tree
returns-clause-finds_tree g c = λ t sizes f before trees tops others shelf queue leaves s key tree n x h k e is.
    tree_found g.N.NodeFacts.nodes t sizes f before trees tops shelf queue leaves s key tree n x others h k e is

pub returns-clause-queued_is_held : goal.returns-clause-queued_is_held
returns-clause-queued_is_held g c = λ t sizes f before trees tops lives shelf queue leaves rest s key k more.
    queued_held g.N.NodeFacts.nodes t sizes f before trees tops shelf queue leaves s key lives rest k more

pub returns-clause-at_leaf_is_held : goal.returns-clause-at_leaf_is_held
returns-clause-at_leaf_is_held g c = λ t sizes f before trees tops lives shelf queue leaves rest s key k more.
    leaf_held g.N.NodeFacts.nodes t sizes f before trees tops shelf queue leaves s key lives rest k more

pub returns-clause-queued_last : goal.returns-clause-queued_last
returns-clause-queued_last g c = λ key queue. queued_last key queue

pub returns-clause-first_counts : goal.returns-clause-first_counts
returns-clause-first_counts g c = λ kinds phase x count e. first_counts kinds phase x count e
