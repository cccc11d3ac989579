use Rattle.zio_counts.specs.Tallies.{counted}
use Rattle.zio_types.specs.declared.request.Phase.TheVariants.{Done, Ready}
use Rattle.zio_frames.proofs.HeardParts.{fits_each}
use Rattle.zio_turns.proofs.FoundFits.{one_asked, one_value, tree_asked, tree_value}
use Rattle.zio_turns.proofs.HearLemmas.{some_more}
use Rattle.zio_turns.proofs.MoveEnd.{one_counts, one_ends, one_fits}
use Rattle.zio_turns.proofs.MoveEndTree.{one_ends_tree, tree_ends, tree_fits}
use Rattle.zio_turns.proofs.MoveTell.{one_tells, one_tells_tree, one_untold}
use Rattle.zio_turns.proofs.laws.engines_hear_of_nodes.Goals as goal

pub returns-clause-tells : goal.returns-clause-tells
returns-clause-tells g c = λ t sizes f before trees tops others shelf queue leaves s key above x q h held n child pointer node
    up error bits shelf_now queue_now k e parent there needs nothing will is_child is told due is_up told_up still
    with_two more.
    one_tells g.N.NodeFacts.nodes t sizes f before trees tops shelf queue leaves s key above x q others h held n child pointer k e
    parent there needs nothing will
    is_child node up is told due is_up told_up still error bits shelf_now with_two queue_now more

pub returns-clause-tells_tree : goal.returns-clause-tells_tree
returns-clause-tells_tree g c = λ t sizes f before trees tops others shelf queue leaves s key tree x q h n child pointer node
    shelf_now k e parent there needs nothing will is_child is told due with_it.
    one_tells_tree g.N.NodeFacts.nodes t sizes f before trees tops shelf queue leaves s key tree x q others h n child pointer k e
    parent there needs nothing will
    is_child node is told due shelf_now with_it

pub returns-clause-tells_fits : goal.returns-clause-tells_fits
returns-clause-tells_fits g c = λ t sizes f before trees tops others shelf queue leaves s key above x q h held n child k e
    parent there needs nothing is_child.
    some_more (counted h.kind Ready held.tally)
    (one_untold g.N.NodeFacts.nodes t sizes f before trees tops shelf queue leaves s key above x q others h held n child k e parent
    there needs nothing is_child)

pub returns-clause-ends : goal.returns-clause-ends
returns-clause-ends g c = λ t sizes f before trees tops others shelf queue leaves s key above x q h held n child v rest up error
    bits shelf_now queue_now k e parent there off ended told is_child is_up told_up still with_two
    more.
    one_ends g.N.NodeFacts.nodes t sizes f before trees tops shelf queue leaves s key above x q others h held n child v k e parent
    there rest off ended told is_child
    up is_up told_up still error bits shelf_now with_two queue_now more

pub returns-clause-ends_fits : goal.returns-clause-ends_fits
returns-clause-ends_fits g c = λ t sizes f before trees tops others shelf queue leaves s key above x q h held n child v k e
    parent there ended is_child. (
      one_fits g.N.NodeFacts.nodes t sizes f before trees tops shelf queue leaves s key above x q others h n child v k e parent is_child
          ended,
      some_more (counted h.kind Done held.tally)
          (one_counts g.N.NodeFacts.nodes t sizes f before trees tops shelf queue leaves s key above x q others h held n child k e parent
          there is_child),
    )

pub returns-clause-tree_hears : goal.returns-clause-tree_hears
returns-clause-tree_hears g c = λ t sizes f before trees tops others shelf queue leaves s key tree x q h n child v rest
    shelf_now k e parent there off ended is_child without.
    one_ends_tree g.N.NodeFacts.nodes t sizes f before trees tops shelf queue leaves s key tree x q others h n child v k e parent
    there rest off ended is_child
    shelf_now without

pub returns-clause-tree_fits : goal.returns-clause-tree_fits
returns-clause-tree_fits g c = λ t sizes f before trees tops others shelf queue leaves s key tree x q h n child v k e parent
    there ended is_child.
    tree_fits g.N.NodeFacts.nodes t sizes f before trees tops shelf queue leaves s key tree x q others h n child v k e parent there
    is_child ended

pub returns-clause-tree_ends : goal.returns-clause-tree_ends
returns-clause-tree_ends g c = λ t sizes f before trees tops lives shelf queue leaves s n top v k e ended.
    tree_ends g.N.NodeFacts.nodes t sizes f before trees tops shelf queue leaves s n top lives v k e ended

pub returns-clause-does_asked : goal.returns-clause-does_asked
returns-clause-does_asked g c = λ t sizes f before trees tops others shelf queue leaves s key above x q h n child k e parent
    there.
    one_asked g.N.NodeFacts.nodes t sizes f before trees tops shelf queue leaves s key above x q others h n child k e parent there

pub returns-clause-tree_asked : goal.returns-clause-tree_asked
returns-clause-tree_asked g c = λ t sizes f before trees tops others shelf queue leaves s key tree x q h n child k e parent eq
    there.
    tree_asked g.N.NodeFacts.nodes t sizes f before trees tops shelf queue leaves s key tree x q others h n child k e parent eq there

pub returns-clause-value_fits : goal.returns-clause-value_fits
returns-clause-value_fits g c = λ t sizes f before trees tops others shelf queue leaves s key x v k ended.
    one_value g.N.NodeFacts.nodes t sizes f before trees tops shelf queue leaves s key x others v k ended

pub returns-clause-each_journal : goal.returns-clause-each_journal
returns-clause-each_journal g c = λ t sizes f before trees tops others shelf queue leaves s key x v journal k ended none.
    fits_each t s.entries x.stack.outer.op v none
    (one_value g.N.NodeFacts.nodes t sizes f before trees tops shelf queue leaves s key x others v k ended) journal

pub returns-clause-tree_value_fits : goal.returns-clause-tree_value_fits
returns-clause-tree_value_fits g c = λ t sizes f before trees tops lives shelf queue leaves s n top v k e ended.
    tree_value g.N.NodeFacts.nodes t sizes f before trees tops shelf queue leaves s n top lives v k e ended
