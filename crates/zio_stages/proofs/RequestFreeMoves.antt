-- A free in an attempt: its walk is made, handed out and heard behind the request's children, and it ends.
use Rattle.std.proofs.Common.{◌≡◌, ℕ, List, [], length, Bool, true, false, Option, Some, None, refl, sym, ap, subst, ◌∙◌, arith}
use Rattle.std.specs.List.{AllByRecursion}
use Rattle.zio_types.specs.declared.error.Errno.{Errno}
use Rattle.zio_types.specs.declared.error.Errno.TheVariants.{Noent}
use Rattle.zio_types.specs.declared.place.Top.{Top}
use Rattle.zio_types.specs.declared.request.ChildKind.TheVariants.{Gang}
use Rattle.zio_types.specs.declared.request.Phase.TheVariants.{Done}
use Rattle.zio_blkptr.specs.declared.pointer.Bp.{Bp}
use Rattle.zio_script.specs.declared.script.Work.{Work}
use Rattle.zio_script.specs.declared.script.Work.TheVariants.{Null as NullWork, Read as ReadWork, Write as WriteWork, Free as FreeWork, Claim as ClaimWork}
use Rattle.zio_gang.specs.declared.tree.Tree.{Tree}
use Rattle.zio_gang.specs.Attempts.{Pending, Terms}
use Rattle.zio_trace.specs.Plans.{TaskPlan, only, plan_free, plan_own}
use Rattle.zio_trace.specs.Programs.{Asks, Ends, ◌>>=◌}
use Rattle.zio_trace.specs.Tasks.{OwnGot, Task, Value}
use Rattle.zio_children.specs.RequestKids.{pointers_of}
use Rattle.zio_frames.specs.Frames.{Child, Stack, kind_of_task}
use Rattle.zio_frames.specs.Moves.{heard_early, heard_of}
use Rattle.zio_frames.specs.Seats.{IsSeated}
use Rattle.zio_frames.specs.Slots.{AllHeard, Heard, IsOut, Slot, left_behind_slots, told_in}
use Rattle.zio_exchange.specs.Outcomes.{IsNoAttemptIn, places_in}
use Rattle.zio_exchange.specs.Waits.{pending_of}
use Rattle.zio_stages.specs.OwnFrees.{IsFreeWalk, IsOwnFree}
use Rattle.zio_stages.specs.OwnParts.{DoesThen, GoesOnAs, HandsTo, IsNoWrite, IsOwed}
use Rattle.zio_stages.specs.RequestFrees.{IsFreeWith, IsFreeWork}
use Rattle.zio_stages.specs.RequestNodes.{IsOwnOf, IsRequestNode, own_got}
use Rattle.zio_stages.specs.RequestOwns.{IsFreeOwn}
use Rattle.zio_stages.specs.RequestReads.{HasFound}
use Rattle.zio_stages.specs.StoredBlocks.{block_places}
use Rattle.zio_stages.specs.declared.own_free.FreeWalk.{FreeWalk}
use Rattle.zio_stages.specs.declared.own_free.FreeWalk.TheVariants.{Out}
use Rattle.zio_stages.specs.declared.own_free.OwnFree.{OwnFree}
use Rattle.zio_stages.specs.declared.request_node.Own.{Own}
use Rattle.zio_stages.specs.declared.request_node.Own.TheVariants.{Claim, Due, Found, Free, Over, Read, Stored, Write}
use Rattle.zio_stages.specs.declared.request_node.OwnFound.{OwnFound}
use Rattle.zio_stages.specs.declared.request_node.RequestNode.{RequestNode}
use Rattle.zio_stages.proofs.BehindLemmas.{does_nothing, owed_behind}
use Rattle.zio_stages.proofs.OwnHolds.{free_holds, free_quiet}
use Rattle.zio_stages.proofs.RequestFoundLemmas.{found_at, makes_none}
use Rattle.zio_stages.proofs.RequestOwnMoves.{goes_on, set_op, then_does, then_hands}
use Rattle.zio_stages.proofs.RequestReadLemmas.{found_due}
use Rattle.zio_stages.proofs.RequestWriteLemmas.{front_in, with_own}

-- ---- behind its children

pub record IsFreeOf (w : Work) : Type 0 where
  pub name : List ℕ
  pub is : w ≡ FreeWork name

-- the request frees this block
pub record FreesBlock (r : RequestNode) (tree : Tree) : Type 0 where
  pub all : r.kids.kids.handed ≡ length r.kids.kids.kids
  pub work : IsFreeOf r.waiting.request.work
  pub block : r.waiting.block ≡ Some tree

pub free_work : (w : Work) → IsFreeWork w → IsFreeOf w
free_work NullWork h = absurd h
free_work (ReadWork name prio) h = absurd h
free_work (WriteWork name sum copies prio body) h = absurd h
free_work (FreeWork name) h = record { name = name; is = refl }
free_work (ClaimWork name pointer) h = absurd h

other_free : (w : Work) → IsFreeOf w → IsNoWrite w
other_free w h = subst IsNoWrite (sym h.is) tt

pub then_same : (q : TaskPlan OwnGot) → (q >>= λ x. Ends x) ≡ q
then_same (Ends a) = refl
then_same (Asks op more) = ap (λ k. Asks op k) (λ i v. then_same (more v) i)

pub free_goes_on : (t : Terms) (tops : List Top) (r : RequestNode) (st : Stack) (tree : Tree) (h : IsRequestNode t r st) → t.setting.tops ≡ tops → FreesBlock r tree
    → GoesOnAs t tops (plan_free (Some tree)) h.kid_slots st
free_goes_on t tops r st tree h same k =
    goes_on t tops r st h (plan_free (Some tree)) (λ own. Ends own) same k.all (other_free r.waiting.request.work k.work)
    (ap (λ (w : Work). plan_own t r.attempt (pending_of r.waiting) w (pointers_of r.kids.kids)) k.work.is ∙ ap plan_free k.block ∙ sym (then_same (plan_free (Some tree))))

pub free_in : (t : Terms) (r : RequestNode) (st : Stack) (w : OwnFree) (h : IsRequestNode t r st) → r.own ≡ Free w
    → IsFreeOwn w (front_in t r st h) (pending_of r.waiting) r.kids.kids h.own_asked h.own_slots st
free_in t r st w h is = subst (λ (o : Own). IsOwnOf t r r.kids.kids (front_in t r st h) o st h.own_asked h.own_slots) is h.own

pub frees_block : (t : Terms) (r : RequestNode) (st : Stack) (w : OwnFree) (h : IsRequestNode t r st)
    (own : IsFreeOwn w (front_in t r st h) (pending_of r.waiting) r.kids.kids h.own_asked h.own_slots st) → FreesBlock r own.tree
frees_block t r st w h own = record { all = own.all; work = record { name = own.name; is = own.work }; block = own.block }

pub own_free : (t : Terms) (r : RequestNode) (st : Stack) (w : OwnFree) (h : IsRequestNode t r st)
    (own : IsFreeOwn w (front_in t r st h) (pending_of r.waiting) r.kids.kids h.own_asked h.own_slots st) → IsOwnFree w.walk r.family own.tree h.kid_asked h.kid_slots st
own_free t r st w h own = subst (λ (cs : List Child). IsOwnFree w.walk cs own.tree h.kid_asked h.kid_slots st) (sym h.family) own.is

-- so far in its block's free, it is so far
pub free_node : (t : Terms) (r : RequestNode) (a b : Stack) (v : OwnFree) (family : List Child) (tree : Tree) (h : IsRequestNode t r a) → FreesBlock r tree → b.outer.op ≡ a.outer.op
    → IsOwnFree v.walk family tree h.kid_asked h.kid_slots b → IsRequestNode t (with_own r (Free v) family) b
free_node t r a b v family tree h k same is = record {
  forest = h.forest;
  kid_asked = h.kid_asked;
  kid_slots = h.kid_slots;
  own_asked = is.asked;
  own_slots = is.slots;
  op = same ∙ h.op;
  asked = is.behind.asked_are;
  slots = is.behind.slots_are;
  kids = h.kids;
  kept = h.kept;
  own = record {
    all = k.all;
    name = k.work.name;
    work = k.work.is;
    tree = tree;
    block = k.block;
    is = record { asked = is.asked; slots = is.slots; children = refl; behind = is.behind; walk = is.walk; alone = is.alone };
    asked_are = refl;
    slots_are = refl;
  };
  family = is.children;
  round = h.round;
  failmode = h.failmode;
}

-- ---- it begins

begins_or : (t : Terms) (st : Stack) (own new : OwnFree) (P : FreeWalk → Stack → Type 0) (b : Bool) → (b ≡ true → DoesThen t st [] (P new.walk)) → (b ≡ false → new ≡ own) → P own.walk st
    → DoesThen t st [] (P new.walk)
begins_or t st own new P true w g h = w refl
begins_or t st own new P false w g h = does_nothing t st (P new.walk) (subst (λ (o : OwnFree). P o.walk st) (sym (g refl)) h)

pub free_begins : (t : Terms) (r : RequestNode) (st : Stack) (own new : OwnFree) (tree : Tree) (b : Bool) (h : IsRequestNode t r st) → FreesBlock r tree
    → IsOwnFree own.walk r.family tree h.kid_asked h.kid_slots st
    → (b ≡ true → DoesThen t st [] (IsOwnFree new.walk r.family tree h.kid_asked h.kid_slots)) → (b ≡ false → new ≡ own)
    → DoesThen t st [] (IsRequestNode t (with_own r (Free new) r.family))
free_begins t r st own new tree b h k begun walks still =
    then_does t st [] (IsOwnFree new.walk r.family tree h.kid_asked h.kid_slots) (IsRequestNode t (with_own r (Free new) r.family))
    (λ a same is. free_node t r st a new r.family tree h k same is)
    (begins_or t st own new (λ w. IsOwnFree w r.family tree h.kid_asked h.kid_slots) b walks still begun)

-- the request names no block
pub frees_none : (t : Terms) (r : RequestNode) (st : Stack) (own : OwnFound) (h : IsRequestNode t r st) → r.own ≡ Due → r.kids.kids.handed ≡ length r.kids.kids.kids → IsFreeWork r.waiting.request.work
    → r.waiting.block ≡ None → own_got own ≡ only (Some Noent) → IsRequestNode t (with_own r (Found own) r.family) st
frees_none t r st own h due all work none is =
    let w = free_work r.waiting.request.work work in
    found_due t r st own h due all (other_free r.waiting.request.work w) (ap (λ (o : OwnGot). o.tree) is)
    (λ pointers. ap (λ (x : Work). plan_own t r.attempt (pending_of r.waiting) x pointers) w.is ∙ ap plan_free none ∙ ap (λ (o : OwnGot). Ends o) (sym is))

-- ---- it goes on

pub hands_free : (t : Terms) (r : RequestNode) (st : Stack) (w v : OwnFree) (more : List Child) (C D : Task → Type 0) (h : IsRequestNode t r st)
    (own : IsFreeOwn w (front_in t r st h) (pending_of r.waiting) r.kids.kids h.own_asked h.own_slots st) → ((op : Task) → C op → D op)
    → HandsTo t Gang C (IsOwnFree v.walk more own.tree h.kid_asked h.kid_slots) st → HandsTo t Gang D (IsRequestNode t (with_own r (Free v) more)) st
hands_free t r st w v more C D h own child =
    then_hands t Gang C D (IsOwnFree v.walk more own.tree h.kid_asked h.kid_slots) (IsRequestNode t (with_own r (Free v) more)) st child
    (λ b same is. free_node t r st b v more own.tree h (frees_block t r st w h own) same is)

pub hears_free : (t : Terms) (r : RequestNode) (st : Stack) (w v : OwnFree) (more : List Child) (child : ℕ) (c : Child) (x : Value) (h : IsRequestNode t r st)
    (own : IsFreeOwn w (front_in t r st h) (pending_of r.waiting) r.kids.kids h.own_asked h.own_slots st)
    → IsOwnFree v.walk more own.tree h.kid_asked h.kid_slots (heard_of st child c x) → IsRequestNode t (with_own r (Free v) more) (heard_of st child c x)
hears_free t r st w v more child c x h own is =
    free_node t r st (heard_of st child c x) v more own.tree h (frees_block t r st w h own) (set_op st c.seat (Heard x)) is

pub tells_free : (t : Terms) (r : RequestNode) (st : Stack) (w : OwnFree) (more : List Child) (child : ℕ) (c : Child) (pointer : Option Bp) (h : IsRequestNode t r st)
    (own : IsFreeOwn w (front_in t r st h) (pending_of r.waiting) r.kids.kids h.own_asked h.own_slots st)
    → IsOwnFree w.walk more own.tree h.kid_asked h.kid_slots (heard_early st child c pointer) → IsRequestNode t (with_own r (Free w) more) (heard_early st child c pointer)
tells_free t r st w more child c pointer h own is =
    free_node t r st (heard_early st child c pointer) w more own.tree h (frees_block t r st w h own) (set_op st c.seat (IsOut (Some pointer))) is

pub free_owed : (t : Terms) (r : RequestNode) (st : Stack) (w : OwnFree) (h : IsRequestNode t r st) → r.own ≡ Free w → w.walk ≡ Out → IsSeated st → IsOwed Gang Done st
free_owed t r st w h is out seated =
    let own = free_in t r st w h is in
    let k : IsFreeWalk own.tree Out own.is.asked own.is.slots = subst (λ (x : FreeWalk). IsFreeWalk own.tree x own.is.asked own.is.slots) out own.is.walk in
    let asked : length own.is.asked ≡ 1 = ap length k.1 in
    let slots : length own.is.slots ≡ 1 = ap length k.2 in
    let told : length (told_in own.is.slots) ≡ 1 = ap (λ (xs : List Slot). length (told_in xs)) k.2 in
    owed_behind h.kid_asked h.kid_slots own.is.asked own.is.slots st seated own.is.alone own.is.behind
    (subst (λ (qs : List Task). AllByRecursion (λ (q : Task). kind_of_task q ≡ Gang) qs) (sym k.1) (refl, tt)) (omega (arith, asked, slots)) (omega (arith, told))

-- ---- it ends

pub free_found : (t : Terms) (r : RequestNode) (st : Stack) (w : OwnFree) (found : OwnFound) (error : Option Errno) (h : IsRequestNode t r st)
    (own : IsFreeOwn w (front_in t r st h) (pending_of r.waiting) r.kids.kids h.own_asked h.own_slots st)
    → AllHeard own.is.slots × (left_behind_slots own.is.slots (plan_free (Some own.tree)) ≡ Ends (only error)) → own_got found ≡ only error → IsRequestNode t (with_own r (Found found) r.family) st
free_found t r st w found error h own e is =
    let p : Pending = pending_of r.waiting in
    found_at t r st found h own.all (other_free r.waiting.request.work (record { name = own.name; is = own.work })) own.is.alone (subst AllHeard own.slots_are e.0)
    (subst (AllByRecursion IsNoAttemptIn) own.slots_are (free_quiet own.tree w.walk own.is.asked own.is.slots own.is.walk))
    ((λ i. places_in (sym own.asked_are i) (sym own.slots_are i)) ∙ free_holds own.tree w.walk own.is.asked own.is.slots own.is.walk ∙ ap block_places (sym (ap (λ (o : OwnGot). o.tree) is)))
    (makes_none r.waiting.request.work (own_got found) (ap (λ (o : OwnGot). o.tree) is))
    (λ pointers.
    ap (λ (x : Work). left_behind_slots h.own_slots (plan_own t r.attempt p x pointers)) own.work
    ∙ ap (λ (b : Option Tree). left_behind_slots h.own_slots (plan_free b)) own.block
    ∙ subst (λ (slots : List Slot). left_behind_slots slots (plan_free (Some own.tree)) ≡ Ends (only error)) own.slots_are e.1
    ∙ ap (λ (o : OwnGot). Ends o) (sym is))

pub free_or_found : (P : OwnFree → Type 0) (own : Own) → IsFreeWith P own → ((w : OwnFree) → own ≡ Free w → ⊥) → HasFound own
free_or_found P Due h never = absurd h
free_or_found P (Write w) h never = absurd h
free_or_found P (Stored b) h never = absurd h
free_or_found P (Read w) h never = absurd h
free_or_found P (Free w) h never = absurd (never w refl)
free_or_found P (Claim w) h never = absurd h
free_or_found P (Found f) h never = (f, refl)
free_or_found P Over h never = absurd h
