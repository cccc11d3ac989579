-- A request's own work in an attempt: what it does, hands out and hears behind its children, the attempt does, hands out and hears.
use Rattle.std.proofs.Common.{◌≡◌, ℕ, List, [], ◌∷◌, length, map, Option, Some, None, refl, sym, ap, subst, ◌∙◌}
use Rattle.zio_types.specs.declared.place.Top.{Top}
use Rattle.zio_types.specs.declared.request.ChildKind.{ChildKind}
use Rattle.zio_types.specs.declared.request.Prio.{Prio}
use Rattle.zio_script.specs.declared.script.Work.{Work}
use Rattle.zio_script.specs.declared.script.Work.TheVariants.{Null as NullWork, Read as ReadWork, Write as WriteWork, Free as FreeWork, Claim as ClaimWork}
use Rattle.zio_gang.specs.declared.tree.Tree.{Tree}
use Rattle.zio_gang.specs.Attempts.{Pending, Terms}
use Rattle.zio_trace.specs.Conflicts.{is_single}
use Rattle.zio_trace.specs.Plans.{TaskPlan, plan_own, plan_read, plan_tree}
use Rattle.zio_trace.specs.Programs.{◌>>=◌}
use Rattle.zio_trace.specs.Tasks.{Attempt, Leaf, OwnGot, Task}
use Rattle.zio_children.specs.RequestKids.{KidsUnderWay, child_of, pointers_of}
use Rattle.zio_children.specs.declared.kept.KeptChild.{KeptChild}
use Rattle.zio_frames.specs.Frames.{Child, Inner, OfInner, OfOuter, Seat, Stack}
use Rattle.zio_frames.specs.Moves.{Closed, Chose, Did, Does, DoesAll, Opened, Took, handed, set_at, set_in_inner, with_asking}
use Rattle.zio_frames.specs.Slots.{Slot}
use Rattle.zio_exchange.specs.SpaceCalls.{SpaceCall}
use Rattle.zio_exchange.specs.Waits.{pending_of}
use Rattle.zio_stages.specs.NodeIos.{StartsBy}
use Rattle.zio_stages.specs.OwnParts.{AllowsOwn, DoesThen, Follows, GoesOnAs, HandsTo, IsNoWrite, MayBegin}
use Rattle.zio_stages.specs.OwnReads.{IsOwnRead}
use Rattle.zio_stages.specs.RequestNodes.{IsOwnOf, IsRequestNode}
use Rattle.zio_stages.specs.RequestOwns.{IsReadOwn}
use Rattle.zio_stages.specs.RequestReads.{IsReadWork}
use Rattle.zio_stages.specs.declared.leaf.LeafWork.{LeafWork}
use Rattle.zio_stages.specs.declared.own_read.OwnRead.{OwnRead}
use Rattle.zio_stages.specs.declared.request_node.Own.{Own}
use Rattle.zio_stages.specs.declared.request_node.Own.TheVariants.{Read}
use Rattle.zio_stages.specs.declared.request_node.RequestNode.{RequestNode}
use Rattle.zio_stages.proofs.BehindLemmas.{follows_first}
use Rattle.zio_stages.proofs.OwnAsks.{follows}
use Rattle.zio_stages.proofs.RequestWriteLemmas.{front_in, with_own}

-- ---- its part stays the attempt

does_op : (t : Terms) (did : Did) (a b : Stack) → Does t did a b → b.outer.op ≡ a.outer.op
does_op t (Opened op) a b h = ap (λ (s : Stack). s.outer.op) h.3
does_op t (Closed v) a b h = ap (λ (s : Stack). s.outer.op) h.4
does_op t (Chose x) a b h = ap (λ (s : Stack). s.outer.op) h.2
does_op t (Took tree free) a b h = ap (λ (s : Stack). s.outer.op) h.2

all_op : (t : Terms) (dids : List Did) (a b : Stack) → DoesAll t dids a b → b.outer.op ≡ a.outer.op
all_op t [] a b h = ap (λ (s : Stack). s.outer.op) h
all_op t (did ∷ dids) a b h = all_op t dids h.0 b h.2 ∙ does_op t did a h.0 h.1

asking_op : (st : Stack) (i : Option Inner) (op : Task) → (with_asking st i op).outer.op ≡ st.outer.op
asking_op st None op = refl
asking_op st (Some i) op = refl

pub handed_op : (st : Stack) (op : Task) → (handed st op).outer.op ≡ st.outer.op
handed_op st op = asking_op st st.inner op

inner_op : (st : Stack) (i : Option Inner) (n : ℕ) (slot : Slot) → (set_in_inner st i n slot).outer.op ≡ st.outer.op
inner_op st None n slot = refl
inner_op st (Some i) n slot = refl

pub set_op : (st : Stack) (seat : Seat) (slot : Slot) → (set_at st seat slot).outer.op ≡ st.outer.op
set_op st (OfOuter n) slot = refl
set_op st (OfInner n) slot = inner_op st st.inner n slot

-- ---- what holds behind it holds as this makes it

pub then_does : (t : Terms) (st : Stack) (calls : List SpaceCall) (P Q : Stack → Type 0) → ((b : Stack) → b.outer.op ≡ st.outer.op → P b → Q b) → DoesThen t st calls P → DoesThen t st calls Q
then_does t st calls P Q f h = record {
  dids = h.dids;
  stack = h.stack;
  does = h.does;
  opens = h.opens;
  calls_are = h.calls_are;
  after = f h.stack (all_op t h.dids st h.stack h.does) h.after;
}

pub then_hands : (t : Terms) (kind : ChildKind) (C D : Task → Type 0) (P Q : Stack → Type 0) (st : Stack) → ((op : Task) → C op → D op) → ((b : Stack) → b.outer.op ≡ st.outer.op → P b → Q b)
    → HandsTo t kind C P st → HandsTo t kind D Q st
then_hands t kind C D P Q st g f h = record {
  op = h.op;
  part = h.part;
  asks = h.asks;
  of_kind = h.of_kind;
  child_is = g h.op h.child_is;
  after = f (handed st h.op) (handed_op st h.op) h.after;
}

pub then_starts : (t : Terms) (st : Stack) (leaf : Option LeafWork) (P Q : Stack → Type 0) → ((b : Stack) → b.outer.op ≡ st.outer.op → P b → Q b) → StartsBy t st leaf P → StartsBy t st leaf Q
then_starts t st None P Q f h = f st refl h
then_starts t st (Some child) P Q f h = record { act = h.act; next = h.next; child_is = h.child_is; after = f (handed st (Leaf h.act)) (handed_op st (Leaf h.act)) h.after }

-- ---- it asks behind the children

may_begin : (w : Work) (x : KidsUnderWay) → IsNoWrite w → MayBegin w x
may_begin NullWork x h = tt
may_begin (ReadWork name prio) x h = tt
may_begin (WriteWork name sum copies prio body) x h = absurd h
may_begin (FreeWork name) x h = tt
may_begin (ClaimWork name pointer) x h = tt

pub allows_other : (t : Terms) (r : RequestNode) (st : Stack) (h : IsRequestNode t r st) → r.kids.kids.handed ≡ length r.kids.kids.kids → IsNoWrite r.waiting.request.work
    → AllowsOwn r.attempt (pending_of r.waiting) r.kids h.forest h.kid_asked h.kid_slots
allows_other t r st h all other = record {
  kids = h.kids;
  all = all;
  kept = ap (λ (ks : List KeptChild). map child_of ks) (sym h.kept);
  told = may_begin r.waiting.request.work r.kids.kids other;
}

pub goes_on : {A : Type 0} (t : Terms) (tops : List Top) (r : RequestNode) (st : Stack) (h : IsRequestNode t r st) (q : TaskPlan A) (f : A → TaskPlan OwnGot) → t.setting.tops ≡ tops
    → r.kids.kids.handed ≡ length r.kids.kids.kids → IsNoWrite r.waiting.request.work
    → plan_own t r.attempt (pending_of r.waiting) r.waiting.request.work (pointers_of r.kids.kids) ≡ (q >>= f) → GoesOnAs t tops q h.kid_slots st
goes_on t tops r st h q f same all other is =
    let p : Pending = pending_of r.waiting in
    let op : Task = Attempt r.attempt p h.forest in
    let asks : Follows t op h.kid_slots (plan_own t r.attempt p r.waiting.request.work (pointers_of r.kids.kids)) =
    follows t r.attempt p r.kids h.forest h.kid_asked h.kid_slots (allows_other t r st h all other) in
    record {
      tops_are = same;
      part = ap is_single h.op;
      follows = subst (λ (o : Task). Follows t o h.kid_slots q) (sym h.op) (follows_first t op h.kid_slots q f (subst (λ (o : TaskPlan OwnGot). Follows t op h.kid_slots o) is asks));
    }

-- ---- a read

pub record IsReadOf (w : Work) : Type 0 where
  pub name : List ℕ
  pub prio : Prio
  pub is : w ≡ ReadWork name prio

-- the request reads this block
pub record ReadsBlock (r : RequestNode) (tree : Tree) : Type 0 where
  pub all : r.kids.kids.handed ≡ length r.kids.kids.kids
  pub work : IsReadOf r.waiting.request.work
  pub block : r.waiting.block ≡ Some tree

pub other_read : (w : Work) → IsReadOf w → IsNoWrite w
other_read w h = subst IsNoWrite (sym h.is) tt

pub read_goes_on : (t : Terms) (tops : List Top) (r : RequestNode) (st : Stack) (tree : Tree) (h : IsRequestNode t r st) → t.setting.tops ≡ tops → ReadsBlock r tree
    → GoesOnAs t tops (plan_tree tree) h.kid_slots st
read_goes_on t tops r st tree h same k =
    goes_on t tops r st h (plan_tree tree) _ same k.all (other_read r.waiting.request.work k.work)
    (ap (λ (w : Work). plan_own t r.attempt (pending_of r.waiting) w (pointers_of r.kids.kids)) k.work.is ∙ ap plan_read k.block)

pub read_in : (t : Terms) (r : RequestNode) (st : Stack) (w : OwnRead) (h : IsRequestNode t r st) → r.own ≡ Read w
    → IsReadOwn t w (front_in t r st h) (pending_of r.waiting) r.kids.kids h.own_asked h.own_slots st
read_in t r st w h is = subst (λ (o : Own). IsOwnOf t r r.kids.kids (front_in t r st h) o st h.own_asked h.own_slots) is h.own

pub reads_block : (t : Terms) (r : RequestNode) (st : Stack) (w : OwnRead) (h : IsRequestNode t r st)
    (own : IsReadOwn t w (front_in t r st h) (pending_of r.waiting) r.kids.kids h.own_asked h.own_slots st) → ReadsBlock r own.tree
reads_block t r st w h own = record { all = own.all; work = record { name = own.name; prio = own.prio; is = own.work }; block = own.block }

pub own_read : (t : Terms) (r : RequestNode) (st : Stack) (w : OwnRead) (h : IsRequestNode t r st)
    (own : IsReadOwn t w (front_in t r st h) (pending_of r.waiting) r.kids.kids h.own_asked h.own_slots st) → IsOwnRead t w r.family own.tree h.kid_asked h.kid_slots st
own_read t r st w h own = subst (λ (cs : List Child). IsOwnRead t w cs own.tree h.kid_asked h.kid_slots st) (sym h.family) own.is

pub read_work : (w : Work) → IsReadWork w → IsReadOf w
read_work NullWork h = absurd h
read_work (ReadWork name prio) h = record { name = name; prio = prio; is = refl }
read_work (WriteWork name sum copies prio body) h = absurd h
read_work (FreeWork name) h = absurd h
read_work (ClaimWork name pointer) h = absurd h

-- so far in its block's read, it is so far
pub read_node : (t : Terms) (r : RequestNode) (a b : Stack) (v : OwnRead) (family : List Child) (tree : Tree) (h : IsRequestNode t r a) → ReadsBlock r tree → b.outer.op ≡ a.outer.op
    → IsOwnRead t v family tree h.kid_asked h.kid_slots b → IsRequestNode t (with_own r (Read v) family) b
read_node t r a b v family tree h k same is = record {
  forest = h.forest;
  kid_asked = h.kid_asked;
  kid_slots = h.kid_slots;
  own_asked = is.asked;
  own_slots = is.slots;
  op = same ∙ h.op;
  asked = is.behind.asked_are;
  slots = is.behind.slots_are;
  kids = h.kids;
  kept = h.kept;
  own = record {
    all = k.all;
    name = k.work.name;
    prio = k.work.prio;
    work = k.work.is;
    tree = tree;
    block = k.block;
    is = record {
      asked = is.asked;
      slots = is.slots;
      begun = is.begun;
      children = refl;
      behind = is.behind;
      work = is.work;
      told = is.told;
      reads = is.reads;
      body = is.body;
    };
    asked_are = refl;
    slots_are = refl;
  };
  family = is.children;
  round = h.round;
  failmode = h.failmode;
}
