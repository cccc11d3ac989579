-- A read, a free or a claim whose own work came to something: it is so far then, and closes.
use Rattle.std.proofs.Common.{◌≡◌, List, length, Option, Some, None, subst}
use Rattle.std.specs.List.{AllByRecursion}
use Rattle.zio_types.specs.declared.error.Errno.{Errno}
use Rattle.zio_blkptr.specs.declared.pointer.Bp.{Bp}
use Rattle.zio_script.specs.declared.script.Work.{Work}
use Rattle.zio_script.specs.declared.script.Work.TheVariants.{Null as NullWork, Read as ReadWork, Write as WriteWork, Free as FreeWork, Claim as ClaimWork}
use Rattle.zio_gang.specs.declared.tree.Tree.{Tree}
use Rattle.zio_gang.specs.Attempts.{Terms}
use Rattle.zio_trace.specs.Plans.{plan_own}
use Rattle.zio_trace.specs.Programs.{Ends}
use Rattle.zio_trace.specs.Tasks.{OwnGot}
use Rattle.zio_children.specs.RequestKids.{pointers_of}
use Rattle.zio_frames.specs.Frames.{Stack}
use Rattle.zio_frames.specs.Slots.{AllHeard, left_behind_slots}
use Rattle.zio_exchange.specs.Outcomes.{IsNoAttemptIn, places_in}
use Rattle.zio_exchange.specs.Waits.{pending_of}
use Rattle.zio_stages.specs.OwnParts.{IsNoWrite}
use Rattle.zio_stages.specs.StoredBlocks.{block_places}
use Rattle.zio_stages.specs.RequestNodes.{IsOwnOf, IsRequestNode, OwnEnds, front_by, own_got}
use Rattle.zio_stages.specs.RequestOwns.{IsFoundOwn, IsNoneAfter, MakesBlock}
use Rattle.zio_stages.specs.declared.request_node.Own.{Own}
use Rattle.zio_stages.specs.declared.request_node.Own.TheVariants.{Found}
use Rattle.zio_stages.specs.declared.request_node.OwnFound.{OwnFound}
use Rattle.zio_stages.specs.declared.request_node.RequestNode.{RequestNode}
use Rattle.zio_stages.proofs.RequestStoredLemmas.{with_own, with_own_at}

-- ---- it came to something

none_after : (error : Option Errno) (tree : Option Tree) → tree ≡ None → IsNoneAfter error tree
none_after None tree none = tt
none_after (Some e) tree none = none

-- what makes no block
pub makes_none : (work : Work) (own : OwnGot) → own.tree ≡ None → MakesBlock work own
makes_none NullWork own none = none
makes_none (ReadWork name prio) own none = none
makes_none (WriteWork name sum copies prio body) own none = none
makes_none (FreeWork name) own none = none
makes_none (ClaimWork name bytes) own none = none_after own.error own.tree none

pub found_at : (t : Terms) (r : RequestNode) (st : Stack) (own : OwnFound) (h : IsRequestNode t r st) → r.kids.kids.handed ≡ length r.kids.kids.kids → IsNoWrite r.waiting.request.work → st.inner ≡ None
    → AllHeard h.own_slots → AllByRecursion IsNoAttemptIn h.own_slots → places_in h.own_asked h.own_slots ≡ block_places own.tree → MakesBlock r.waiting.request.work (own_got own)
    → ((pointers : List (Option Bp)) → left_behind_slots h.own_slots (plan_own t r.attempt (pending_of r.waiting) r.waiting.request.work pointers) ≡ Ends (own_got own))
    → IsRequestNode t (with_own r (Found own)) st
found_at t r st own h all other alone heard quiet places block value =
    with_own_at t r st (Found own) h (record { all = all; other = other; alone = alone; heard = heard; quiet = quiet; places = places; block = block; value = value })

pub found_in : (t : Terms) (r : RequestNode) (st : Stack) (own : OwnFound) (h : IsRequestNode t r st) → r.own ≡ Found own
    → IsFoundOwn t (own_got own) r.attempt (pending_of r.waiting) r.kids.kids h.own_asked h.own_slots st
found_in t r st own h is = subst (λ (o : Own). IsOwnOf t r r.kids.kids (front_by r h.forest h.kid_asked h.kid_slots) o st h.own_asked h.own_slots) is h.own

-- ---- it closes

-- its own work comes to that in the attempt
pub found_ends : (t : Terms) (r : RequestNode) (st : Stack) (own : OwnFound) (h : IsRequestNode t r st) → r.own ≡ Found own → OwnEnds t r st (own_got own) h
found_ends t r st own h is =
    let f = found_in t r st own h is in
    record { alone = f.alone; heard = f.heard; value = f.value (pointers_of r.kids.kids) }
