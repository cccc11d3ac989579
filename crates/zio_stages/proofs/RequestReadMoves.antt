-- A read in an attempt: its walk and its bodies are handed out, done and heard behind the request's children.
use Rattle.std.proofs.Common.{◌≡◌, ℕ, zero, suc, ◌+◌, ◌<◌, List, [], ◌∷◌, length, set, slice_get, Bool, true, false, Option, Some, None, refl, sym, ap, subst, ◌∙◌, arith}
use Rattle.std.specs.Prelude.{IfSome}
use Rattle.std.specs.List.{AllByRecursion}
use Rattle.zio_types.specs.declared.place.Top.{Top}
use Rattle.zio_types.specs.declared.request.ChildKind.TheVariants.{Gang}
use Rattle.zio_blkptr.specs.declared.pointer.Bp.{Bp}
use Rattle.zio_gang.specs.declared.tree.Tree.{Tree}
use Rattle.zio_gang.specs.Attempts.{Terms}
use Rattle.zio_gang.specs.Trees.{unless_errors}
use Rattle.zio_types.specs.declared.error.Errno.{Errno}
use Rattle.zio_trace.specs.Conflicts.{is_single}
use Rattle.zio_trace.specs.Plans.{TaskPlan, plan_tree}
use Rattle.zio_trace.specs.Tasks.{Task, Value, Walked}
use Rattle.zio_frames.specs.Frames.{Child, OfOuter, Stack}
use Rattle.zio_frames.specs.Moves.{child_ended, child_told, heard_early, heard_of}
use Rattle.zio_frames.specs.Slots.{Heard, IsOut, Slot}
use Rattle.zio_exchange.specs.Waits.{pending_of}
use Rattle.zio_stages.specs.NodeIos.{NoneSits, SitsOn, StartsBy}
use Rattle.zio_stages.specs.OwnParts.{DoesThen, Follows, GoesOnAs, HandsTo}
use Rattle.zio_stages.specs.OwnReads.{IsBodyOn, IsBodyOut, IsOwnOver, IsOwnRead, IsOwnReadOver}
use Rattle.zio_stages.specs.ReadIos.{IsReadOutIn}
use Rattle.zio_stages.specs.RequestNodes.{IsRequestNode}
use Rattle.zio_stages.specs.RequestOwns.{IsOwnSeat, IsReadOwn, IsReadingOver}
use Rattle.zio_stages.specs.TreeWorks.{bodies_after, bodies_if}
use Rattle.zio_stages.specs.declared.family.Layer.TheVariants.{Within}
use Rattle.zio_stages.specs.declared.leaf.LeafWork.{LeafWork}
use Rattle.zio_stages.specs.declared.own_read.BodyIo.{BodyIo}
use Rattle.zio_stages.specs.declared.own_read.OwnRead.{OwnRead}
use Rattle.zio_stages.specs.declared.tree.TreeWork.{TreeWork}
use Rattle.zio_stages.specs.declared.request_node.Own.TheVariants.{Read}
use Rattle.zio_stages.specs.declared.request_node.RequestNode.{RequestNode}
use Rattle.zio_stages.proofs.BehindLemmas.{does_nothing}
use Rattle.zio_stages.proofs.NodeIoLemmas.{sits_changed}
use Rattle.zio_stages.proofs.PartMembers.{none_changed}
use Rattle.zio_stages.proofs.RequestHears.{seat_is}
use Rattle.zio_stages.proofs.RequestOwnMoves.{read_goes_on, read_node, reads_block, set_op, then_does, then_hands, then_starts}
use Rattle.zio_stages.proofs.RequestWriteLemmas.{front_in, with_own}

-- ---- behind its children

pub count_front : (t : Terms) (r : RequestNode) (st : Stack) (h : IsRequestNode t r st) → r.kids.kids.handed ≡ length r.kids.kids.kids → length h.kid_slots ≡ length r.kids.kids.kids
count_front t r st h all = h.kids.all ∙ all

pub same_block : (b : Option Tree) (x y : Tree) → b ≡ Some x → b ≡ Some y → x ≡ y
same_block b x y e f = let both : Some x ≡ Some y = sym e ∙ f in cc

pub goes_still : (t : Terms) (tops : List Top) (q : TaskPlan Value) (front : List Slot) (a b : Stack) → b.outer.op ≡ a.outer.op → GoesOnAs t tops q front a → GoesOnAs t tops q front b
goes_still t tops q front a b same h = record {
  tops_are = h.tops_are;
  part = ap is_single same ∙ h.part;
  follows = subst (λ (o : Task). Follows t o front q) (sym same) h.follows;
}

-- ---- it hands out

pub hands_own : (t : Terms) (r : RequestNode) (st : Stack) (w v : OwnRead) (more : List Child) (C D : Task → Type 0) (h : IsRequestNode t r st)
    (own : IsReadOwn t w (front_in t r st h) (pending_of r.waiting) r.kids.kids h.own_asked h.own_slots st) → ((op : Task) → C op → D op)
    → HandsTo t Gang C (IsOwnRead t v more own.tree h.kid_asked h.kid_slots) st → HandsTo t Gang D (IsRequestNode t (with_own r (Read v) more)) st
hands_own t r st w v more C D h own child =
    then_hands t Gang C D (IsOwnRead t v more own.tree h.kid_asked h.kid_slots) (IsRequestNode t (with_own r (Read v) more)) st child
    (λ b same is. read_node t r st b v more own.tree h (reads_block t r st w h own) same is)

pub alone_none : (tops : List Top) (w : OwnRead) (family : List Child) → w.body ≡ None → IsOwnReadOver tops w family → NoneSits Within family
alone_none tops w family alone over = subst (λ (o : Option BodyIo). IsOwnOver tops w.tree o family) alone over

pub none_alone : (tops : List Top) (w : OwnRead) (family : List Child) → w.body ≡ None → NoneSits Within family → IsOwnReadOver tops w family
none_alone tops w family alone over = subst (λ (o : Option BodyIo). IsOwnOver tops w.tree o family) (sym alone) over

-- no body is read by the node itself, and the bodies lie on the tops
pub over_alone : (tops : List Top) (w v : OwnRead) (family more : List Child) → w.body ≡ None → v.body ≡ None → (AllByRecursion (IsBodyOn tops) w.tree.read.bodies → AllByRecursion (IsBodyOn tops) v.tree.read.bodies)
    → (NoneSits Within family → NoneSits Within more) → IsReadingOver tops w family → IsReadingOver tops v more
over_alone tops w v family more alone still bodies sits over = (none_alone tops v more still (sits (alone_none tops w family alone over.0)), bodies over.1)

-- ---- it does

pub does_own : (t : Terms) (r : RequestNode) (st : Stack) (w v : OwnRead) (family : List Child) (h : IsRequestNode t r st)
    (own : IsReadOwn t w (front_in t r st h) (pending_of r.waiting) r.kids.kids h.own_asked h.own_slots st)
    → DoesThen t st [] (IsOwnRead t v family own.tree h.kid_asked h.kid_slots) → DoesThen t st [] (IsRequestNode t (with_own r (Read v) family))
does_own t r st w v family h own d =
    then_does t st [] (IsOwnRead t v family own.tree h.kid_asked h.kid_slots) (IsRequestNode t (with_own r (Read v) family))
    (λ b same is. read_node t r st b v family own.tree h (reads_block t r st w h own) same is) d

-- the second pass begins, or the body's read closes
pub assess_own : (t : Terms) (st : Stack) (P : Stack → Type 0) (b : Bool) → (b ≡ true → P st) → (b ≡ false → DoesThen t st [] P) → DoesThen t st [] P
assess_own t st P true again closes = does_nothing t st P (again refl)
assess_own t st P false again closes = closes refl

-- a body begins, and an operation on a leaf is handed out
pub starts_own : (t : Terms) (tops : List Top) (r : RequestNode) (st : Stack) (w mid v : OwnRead) (more : List Child) (leaf : Option LeafWork) (h : IsRequestNode t r st)
    (own : IsReadOwn t w (front_in t r st h) (pending_of r.waiting) r.kids.kids h.own_asked h.own_slots st) → t.setting.tops ≡ tops
    → DoesThen t st [] (IsOwnRead t mid r.family own.tree h.kid_asked h.kid_slots)
    → ((b : Stack) → GoesOnAs t tops (plan_tree own.tree) h.kid_slots b → IsOwnRead t mid r.family own.tree h.kid_asked h.kid_slots b
    → StartsBy t b leaf (IsOwnRead t v more own.tree h.kid_asked h.kid_slots))
    → DoesThen t st [] (λ b. StartsBy t b leaf (IsRequestNode t (with_own r (Read v) more)))
starts_own t tops r st w mid v more leaf h own same begins starts =
    let k = reads_block t r st w h own in
    then_does t st [] (IsOwnRead t mid r.family own.tree h.kid_asked h.kid_slots) (λ b. StartsBy t b leaf (IsRequestNode t (with_own r (Read v) more)))
    (λ b e is. then_starts t b leaf (IsOwnRead t v more own.tree h.kid_asked h.kid_slots) (IsRequestNode t (with_own r (Read v) more))
    (λ a f on. read_node t r st a v more own.tree h k (f ∙ e) on)
    (starts b (goes_still t tops (plan_tree own.tree) h.kid_slots st b e (read_goes_on t tops r st own.tree h same k)) is)) begins

-- ---- it hears

pub own_seat : (t : Terms) (r : RequestNode) (st : Stack) (child n : ℕ) (c : Child) (h : IsRequestNode t r st) → r.kids.kids.handed ≡ length r.kids.kids.kids → IsOwnSeat r child n
    → slice_get st.children child ≡ Some c → c.seat ≡ OfOuter (length h.kid_slots + n)
own_seat t r st child n c h all seat there =
    seat_is r.family st.children child (length r.kids.kids.kids + n) c h.family seat there ∙ ap (λ m. OfOuter (m + n)) (sym (count_front t r st h all))

pub own_first : (t : Terms) (r : RequestNode) (st : Stack) (child : ℕ) (c : Child) (h : IsRequestNode t r st) → r.kids.kids.handed ≡ length r.kids.kids.kids → IsOwnSeat r child 0
    → slice_get st.children child ≡ Some c → c.seat ≡ OfOuter (length h.kid_slots)
own_first t r st child c h all seat there = own_seat t r st child 0 c h all seat there ∙ ap (λ m. OfOuter m) (let e : length h.kid_slots + 0 ≡ length h.kid_slots = omega arith in e)

pub hears_own : (t : Terms) (r : RequestNode) (st : Stack) (w v : OwnRead) (more : List Child) (child : ℕ) (c : Child) (x : Value) (h : IsRequestNode t r st)
    (own : IsReadOwn t w (front_in t r st h) (pending_of r.waiting) r.kids.kids h.own_asked h.own_slots st)
    → IsOwnRead t v more own.tree h.kid_asked h.kid_slots (heard_of st child c x) → IsRequestNode t (with_own r (Read v) more) (heard_of st child c x)
hears_own t r st w v more child c x h own is =
    read_node t r st (heard_of st child c x) v more own.tree h (reads_block t r st w h own) (set_op st c.seat (Heard x)) is

pub tells_own : (t : Terms) (r : RequestNode) (st : Stack) (w v : OwnRead) (more : List Child) (child : ℕ) (c : Child) (pointer : Option Bp) (h : IsRequestNode t r st)
    (own : IsReadOwn t w (front_in t r st h) (pending_of r.waiting) r.kids.kids h.own_asked h.own_slots st)
    → IsOwnRead t v more own.tree h.kid_asked h.kid_slots (heard_early st child c pointer) → IsRequestNode t (with_own r (Read v) more) (heard_early st child c pointer)
tells_own t r st w v more child c pointer h own is =
    read_node t r st (heard_early st child c pointer) v more own.tree h (reads_block t r st w h own) (set_op st c.seat (IsOut (Some pointer))) is

-- one of its children changed
some_below : {X : Type 0} (xs : List X) (n : ℕ) → n < length xs → (x : X) × (slice_get xs n ≡ Some x)
some_below [] n l = absurd (omega arith)
some_below (x ∷ xs) zero l = (x, refl)
some_below (x ∷ xs) (suc n) l = some_below xs n (omega arith)

pub none_marked : (family more : List Child) (child : ℕ) (mark : Child → Child) → ((c : Child) → (mark c).seat ≡ c.seat) → ((c : Child) → (mark c).ended ≡ false → c.ended ≡ false) → child < length family
    → IfSome (slice_get family child) (λ (c : Child). more ≡ set family child (mark c)) → NoneSits Within family → NoneSits Within more
none_marked family more child mark seat goes less marked none =
    let c = some_below family child less in
    let now : more ≡ set family child (mark c.0) = subst (λ (o : Option Child). IfSome o (λ (x : Child). more ≡ set family child (mark x))) c.1 marked in
    subst (NoneSits Within) (sym now) (none_changed family child c.0 (mark c.0) c.1 (seat c.0) (goes c.0) none)

-- whatever part is within, if it is out still
pub own_over_marked : (tops : List Top) (w v : TreeWork) (o : Option BodyIo) (family more : List Child) (child : ℕ) (mark : Child → Child) → ((c : Child) → (mark c).seat ≡ c.seat)
    → ((c : Child) → (mark c).ended ≡ false → c.ended ≡ false) → child < length family → IfSome (slice_get family child) (λ (c : Child). more ≡ set family child (mark c))
    → ((b : BodyIo) → o ≡ Some b → IsBodyOut w b.number → IsBodyOut v b.number) → IsOwnOver tops w o family → IsOwnOver tops v o more
own_over_marked tops w v None family more child mark seat goes less marked still over = none_marked family more child mark seat goes less marked over
own_over_marked tops w v (Some b) family more child mark seat goes less marked still over =
    let c = some_below family child less in
    let now : more ≡ set family child (mark c.0) = subst (λ (o : Option Child). IfSome o (λ (x : Child). more ≡ set family child (mark x))) c.1 marked in
    record {
      over = over.over;
      sits = subst (SitsOn Within (IsReadOutIn b.io)) (sym now)
          (sits_changed Within (IsReadOutIn b.io) family child c.0 (mark c.0) c.1 (seat c.0) (goes c.0) over.sits);
      out = still b refl over.out;
    }

pub none_ended : (family more : List Child) (child : ℕ) → child < length family → IfSome (slice_get family child) (λ (c : Child). more ≡ set family child (child_ended c)) → NoneSits Within family → NoneSits Within more
none_ended family more child less marked none = none_marked family more child child_ended (λ c. refl) (λ c e. absurd (cc)) less marked none

pub none_told : (family more : List Child) (child : ℕ) → child < length family → IfSome (slice_get family child) (λ (c : Child). more ≡ set family child (child_told c)) → NoneSits Within family → NoneSits Within more
none_told family more child less marked none = none_marked family more child child_told (λ c. refl) (λ c e. e) less marked none

pub all_after : (tops : List Top) (bodies : List Bp) (walked : Walked) → AllByRecursion (IsBodyOn tops) bodies → AllByRecursion (IsBodyOn tops) walked.bodies
    → AllByRecursion (IsBodyOn tops) (bodies_after bodies walked)
all_after tops bodies walked old new = by walked.errors
  where
    by : (es : List (Option Errno)) → AllByRecursion (IsBodyOn tops) (bodies_if (unless_errors es walked.bodies) bodies)
    by [] = new
    by (e ∷ es) = old
