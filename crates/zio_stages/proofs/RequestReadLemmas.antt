-- A read in an attempt: its block's read begins, goes on and ends.
use Rattle.std.proofs.Common.{◌≡◌, List, [], length, Bool, true, false, Option, Some, None, Ok, Err, refl, sym, ap, subst, ◌∙◌}
use Rattle.std.specs.List.{AllByRecursion}
use Rattle.zio_types.specs.declared.error.Errno.TheVariants.{Noent}
use Rattle.zio_types.specs.declared.place.Top.{Top}
use Rattle.zio_blkptr.specs.declared.pointer.Bp.{Bp}
use Rattle.zio_script.specs.declared.script.Work.{Work}
use Rattle.zio_gang.specs.declared.tree.Tree.{Tree}
use Rattle.zio_gang.specs.Attempts.{Pending, Terms}
use Rattle.zio_trace.specs.Leaves.{Answer}
use Rattle.zio_trace.specs.Plans.{own_read_by, plan_own, plan_read, plan_tree}
use Rattle.zio_trace.specs.Programs.{Ends}
use Rattle.zio_trace.specs.Tasks.{Got, OwnGot, Task, Value, got}
use Rattle.zio_frames.specs.Frames.{Child, Stack}
use Rattle.zio_frames.specs.Slots.{AllHeard, Slot, left_behind_slots, told_in}
use Rattle.zio_exchange.specs.Outcomes.{IsNoAttemptIn, places_in}
use Rattle.zio_exchange.specs.Waits.{pending_of}
use Rattle.zio_stages.specs.NodeIos.{NoneSits}
use Rattle.zio_stages.specs.OwnParts.{DoesThen, IsNoWrite}
use Rattle.zio_stages.specs.StoredBlocks.{block_places}
use Rattle.zio_stages.specs.OwnReads.{IsOwnOver, IsOwnRead, IsOwnReadOver}
use Rattle.zio_stages.specs.RequestNodes.{IsOwnOf, IsRequestNode, own_got}
use Rattle.zio_stages.specs.RequestOwns.{IsReadOwn}
use Rattle.zio_stages.specs.RequestReads.{IsReadWith, IsReadWork, IsReadingWith}
use Rattle.zio_stages.specs.declared.family.Layer.TheVariants.{Within}
use Rattle.zio_stages.specs.declared.own_read.BodyIo.{BodyIo}
use Rattle.zio_stages.specs.declared.own_read.OwnRead.{OwnRead}
use Rattle.zio_stages.specs.declared.request_node.Own.{Own}
use Rattle.zio_stages.specs.declared.request_node.Own.TheVariants.{Claim, Due, Found, Free, Over, Read, Stored, Write}
use Rattle.zio_stages.specs.declared.request_node.OwnFound.{OwnFound}
use Rattle.zio_stages.specs.declared.request_node.RequestNode.{RequestNode}
use Rattle.zio_stages.proofs.BehindLemmas.{does_nothing}
use Rattle.zio_stages.proofs.OwnHolds.{read_holds, read_quiet}
use Rattle.zio_stages.proofs.OwnReadLemmas.{alone_in}
use Rattle.zio_stages.proofs.RequestEnds.{left_ends}
use Rattle.zio_stages.proofs.RequestFoundLemmas.{found_at, makes_none}
use Rattle.zio_stages.proofs.RequestOwnMoves.{ReadsBlock, other_read, read_node, read_work, then_does}
use Rattle.zio_stages.proofs.RequestWriteLemmas.{front_in, with_own}

-- ---- it begins

-- at once, or not yet
begins_or : (t : Terms) (st : Stack) (own new : OwnRead) (P : OwnRead → Stack → Type 0) (b : Bool) → (b ≡ true → DoesThen t st [] (P new)) → (b ≡ false → new ≡ own) → P own st → DoesThen t st [] (P new)
begins_or t st own new P true w g h = w refl
begins_or t st own new P false w g h = does_nothing t st (P new) (subst (λ (o : OwnRead). P o st) (sym (g refl)) h)

pub read_begins : (t : Terms) (r : RequestNode) (st : Stack) (own new : OwnRead) (tree : Tree) (b : Bool) (h : IsRequestNode t r st) → ReadsBlock r tree
    → IsOwnRead t own r.family tree h.kid_asked h.kid_slots st
    → (b ≡ true → DoesThen t st [] (IsOwnRead t new r.family tree h.kid_asked h.kid_slots)) → (b ≡ false → new ≡ own)
    → DoesThen t st [] (IsRequestNode t (with_own r (Read new) r.family))
read_begins t r st own new tree b h k begun walks still =
    then_does t st [] (IsOwnRead t new r.family tree h.kid_asked h.kid_slots) (IsRequestNode t (with_own r (Read new) r.family))
    (λ a same is. read_node t r st a new r.family tree h k same is)
    (begins_or t st own new (λ o. IsOwnRead t o r.family tree h.kid_asked h.kid_slots) b walks still begun)

pub due_own : (t : Terms) (r : RequestNode) (st : Stack) (h : IsRequestNode t r st) → r.own ≡ Due → (h.own_asked ≡ []) × (h.own_slots ≡ []) × (st.inner ≡ None)
due_own t r st h due = subst (λ (o : Own). IsOwnOf t r r.kids.kids (front_in t r st h) o st h.own_asked h.own_slots) due h.own

-- nothing was asked, and its plan ends so
pub found_due : (t : Terms) (r : RequestNode) (st : Stack) (own : OwnFound) (h : IsRequestNode t r st) → r.own ≡ Due → r.kids.kids.handed ≡ length r.kids.kids.kids → IsNoWrite r.waiting.request.work
    → own.tree ≡ None → ((pointers : List (Option Bp)) → plan_own t r.attempt (pending_of r.waiting) r.waiting.request.work pointers ≡ Ends (own_got own)) → IsRequestNode t (with_own r (Found own) r.family) st
found_due t r st own h due all other bare ends =
    let none = due_own t r st h due in
    found_at t r st own h all other none.2 (ap told_in none.1) (subst (AllByRecursion IsNoAttemptIn) (sym none.1) tt)
    (ap (λ (qs : List Task). places_in qs h.own_slots) none.0 ∙ ap block_places (sym bare)) (makes_none r.waiting.request.work (own_got own) bare)
    (λ pointers. ap (λ (slots : List Slot). left_behind_slots slots (plan_own t r.attempt (pending_of r.waiting) r.waiting.request.work pointers)) none.1 ∙ ends pointers)

pub nothing : {X : Type 0} (o : Option X) → ((x : X) → o ≡ Some x → ⊥) → o ≡ None
nothing None never = refl
nothing (Some x) never = absurd (never x refl)

-- the request names no block
pub reads_none : (t : Terms) (r : RequestNode) (st : Stack) (own : OwnFound) (h : IsRequestNode t r st) → r.own ≡ Due → r.kids.kids.handed ≡ length r.kids.kids.kids → IsReadWork r.waiting.request.work
    → r.waiting.block ≡ None → own_got own ≡ own_read_by (Err Noent) → IsRequestNode t (with_own r (Found own) r.family) st
reads_none t r st own h due all work none is =
    let w = read_work r.waiting.request.work work in
    found_due t r st own h due all (other_read r.waiting.request.work w) (ap (λ (o : OwnGot). o.tree) is)
    (λ pointers. ap (λ (x : Work). plan_own t r.attempt (pending_of r.waiting) x pointers) w.is ∙ ap plan_read none ∙ ap (λ (o : OwnGot). Ends o) (sym is))

-- ---- it ends

-- a read makes no block
no_tree : (a : Answer) → (own_read_by a).tree ≡ None
no_tree (Ok bytes) = refl
no_tree (Err e) = refl

pub read_found : (t : Terms) (r : RequestNode) (st : Stack) (w : OwnRead) (found : OwnFound) (a : Answer) (h : IsRequestNode t r st)
    (own : IsReadOwn t w (front_in t r st h) (pending_of r.waiting) r.kids.kids h.own_asked h.own_slots st) → w.body ≡ None
    → AllHeard own.is.slots × (left_behind_slots own.is.slots (plan_tree own.tree) ≡ Ends (Got a)) → own_got found ≡ own_read_by a → IsRequestNode t (with_own r (Found found) r.family) st
read_found t r st w found a h own none e is =
    let p : Pending = pending_of r.waiting in
    let heard : AllHeard h.own_slots = subst AllHeard own.slots_are e.0 in
    let left : left_behind_slots h.own_slots (plan_tree own.tree) ≡ Ends (Got a) = subst (λ (slots : List Slot). left_behind_slots slots (plan_tree own.tree) ≡ Ends (Got a)) own.slots_are e.1 in
    found_at t r st found h own.all (other_read r.waiting.request.work (record { name = own.name; prio = own.prio; is = own.work })) (alone_in t w.body (length h.kid_slots) st none own.is.body) heard
    (subst (AllByRecursion IsNoAttemptIn) own.slots_are (read_quiet t w st.children own.tree h.kid_asked h.kid_slots st own.is))
    ((λ i. places_in (sym own.asked_are i) (sym own.slots_are i)) ∙ read_holds t w st.children own.tree h.kid_asked h.kid_slots st own.is ∙ ap block_places (sym (ap (λ (o : OwnGot). o.tree) is ∙ no_tree a)))
    (makes_none r.waiting.request.work (own_got found) (ap (λ (o : OwnGot). o.tree) is ∙ no_tree a))
    (λ pointers.
    ap (λ (x : Work). left_behind_slots h.own_slots (plan_own t r.attempt p x pointers)) own.work
    ∙ ap (λ (b : Option Tree). left_behind_slots h.own_slots (plan_read b)) own.block
    ∙ left_ends (λ (v : Value). own_read_by (got v)) h.own_slots (plan_tree own.tree) (Got a) heard left
    ∙ ap (λ (o : OwnGot). Ends o) (sym is))

pub ended_over : (tops : List Top) (w : OwnRead) (family : List Child) → w.body ≡ None → IsOwnReadOver tops w family → NoneSits Within family
ended_over tops w family none over = subst (λ (o : Option BodyIo). IsOwnOver tops w.tree o family) none over

pub not_read : (P : OwnRead → Type 0) (own : Own) → IsReadWith P own → ((w : OwnRead) → own ≡ Read w → ⊥) → ((f : OwnFound) → own ≡ Found f → ⊥) → ⊥
not_read P Due h never none = h
not_read P (Write w) h never none = h
not_read P (Stored b) h never none = h
not_read P (Read w) h never none = never w refl
not_read P (Free w) h never none = h
not_read P (Claim w) h never none = h
not_read P (Found f) h never none = none f refl
not_read P Over h never none = h

-- ---- what it is

pub reads_only : (P : OwnRead → Type 0) (own : Own) → IsReadingWith P own → ((w : OwnRead) → own ≡ Read w → ⊥) → ⊥
reads_only P Due h not = h
reads_only P (Write w) h not = h
reads_only P (Stored b) h not = h
reads_only P (Read w) h not = not w refl
reads_only P (Free w) h not = h
reads_only P (Claim w) h not = h
reads_only P (Found own) h not = h
reads_only P Over h not = h
