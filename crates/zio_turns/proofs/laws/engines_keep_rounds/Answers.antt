use Rattle.zio_trace.proofs.ClaimAlone.{claim_makes_none}
use Rattle.zio_turns.proofs.FoundFits.{one_lies, one_takes}
use Rattle.zio_turns.proofs.MoveGrow.{all_begins, one_grows, tree_begins}
use Rattle.zio_turns.proofs.MoveLeaf.{one_comes_back}
use Rattle.zio_turns.proofs.MoveOne.{leaf_now, one_goes_on, one_goes_to_leaf, one_waits}
use Rattle.zio_turns.proofs.laws.engines_keep_rounds.Goals as goal

pub returns-clause-begins : goal.returns-clause-begins
returns-clause-begins g c = λ t sizes f before images sound is. all_begins g.N.NodeFacts.nodes t sizes f before images sound is

pub returns-clause-tree_begins : goal.returns-clause-tree_begins
returns-clause-tree_begins g c = λ t sizes f before trees tops lives shelf queue leaves s n child top op node shelf_now
    queue_now sound k e many asks is told due free with_it more.
    tree_begins g.N.NodeFacts.nodes t sizes f before trees tops shelf queue leaves s n child top lives sound k e op many asks node is
    told due free shelf_now with_it
    queue_now more

pub returns-clause-goes_on : goal.returns-clause-goes_on
returns-clause-goes_on g c = λ t sizes f before trees tops others shelf queue leaves s key x h rest dids st node shelf_now sound
    k e more does right lawful is told due with_it.
    one_goes_on g.N.NodeFacts.nodes t sizes f before trees tops key x others shelf queue leaves s h sound k e rest more dids st does
    right lawful node is told due
    shelf_now with_it

pub returns-clause-waits : goal.returns-clause-waits
returns-clause-waits g c = λ t sizes f before trees tops others shelf queue leaves s key x h rest count node shelf_now k e more
    some is told due with_it.
    one_waits g.N.NodeFacts.nodes t sizes f before trees tops key x others shelf queue leaves s h k e rest more count some node is
    told due shelf_now with_it

pub returns-clause-grows : goal.returns-clause-grows
returns-clause-grows g c = λ t sizes f before trees tops others shelf queue leaves s key child x h rest dids mid op node new
    shelf_now queue_now sound k e more does right lawful many asks room is told due is_new told_new due_new free with_it
    more_queue.
    one_grows g.N.NodeFacts.nodes t sizes f before trees tops shelf queue leaves s key child x others h sound k e rest more dids mid
    does right lawful op many asks room node new is told due
    is_new told_new due_new free shelf_now with_it queue_now more_queue

pub returns-clause-goes_to_leaf : goal.returns-clause-goes_to_leaf
returns-clause-goes_to_leaf g c = λ t sizes f before trees tops others shelf queue leaves s key x h rest act leaves_now node shelf_now
    k e more fresh more_leaves is told with_it.
    one_goes_to_leaf g.N.NodeFacts.nodes t sizes f before trees tops key x others shelf queue leaves s h k e rest more act fresh
    leaves_now more_leaves node is told shelf_now with_it

pub returns-clause-at_leaf : goal.returns-clause-at_leaf
returns-clause-at_leaf g c = λ t sizes f before trees tops others shelf queue leaves s key x h rest k e more.
    let is = leaf_now g.N.NodeFacts.nodes t sizes f before trees tops key x others shelf queue leaves s h rest k e more in
    (is.0, is.4)

pub returns-clause-comes_back : goal.returns-clause-comes_back
returns-clause-comes_back g c = λ t sizes f before trees tops others shelf queue leaves s key at act a after h rest node
    shelf_now queue_now sound k e more answers is told due with_it more_queue.
    one_comes_back g.N.NodeFacts.nodes t sizes f before trees tops key at act others shelf queue leaves s h sound k e rest more a
    after answers node is told due shelf_now with_it
    queue_now more_queue

pub returns-clause-lies : goal.returns-clause-lies
returns-clause-lies g c = λ t sizes f before trees tops others shelf queue leaves s key x act sound k is.
    one_lies g.N.NodeFacts.nodes t sizes f before trees tops shelf queue leaves s key x others act sound k is

pub returns-clause-claim : goal.returns-clause-claim
returns-clause-claim g c = λ t sizes f before trees tops lives shelf queue leaves s sound k claim.
    claim_makes_none t sizes f before s sound k.running.underway claim

pub returns-clause-takes : goal.returns-clause-takes
returns-clause-takes g c = λ t sizes f before trees tops others shelf queue leaves s key x dids st tree free sound k does lawful
    there.
    one_takes g.N.NodeFacts.nodes t sizes f before trees tops shelf queue leaves s key x others dids st tree free sound k does lawful
    there
