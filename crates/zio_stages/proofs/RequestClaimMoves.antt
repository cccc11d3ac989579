-- A claim in an attempt: its walk is made, handed out and heard behind the request's children, its places are taken, and it ends.
use Rattle.std.proofs.Common.{◌≡◌, ℕ, List, [], ◌∷◌, length, Bool, true, false, Option, Some, None, Result, Ok, Err, refl, sym, ap, subst, ◌∙◌, arith}
use Rattle.std.specs.List.{AllByRecursion}
use Rattle.zio_types.specs.declared.error.Errno.{Errno}
use Rattle.zio_types.specs.declared.place.Top.{Top}
use Rattle.zio_types.specs.declared.request.ChildKind.TheVariants.{Gang}
use Rattle.zio_types.specs.declared.request.Phase.TheVariants.{Done}
use Rattle.zio_blkptr.specs.declared.pointer.Bp.{Bp}
use Rattle.zio_blkptr.specs.Pointers.{pointer_of}
use Rattle.zio_script.specs.declared.script.Work.{Work}
use Rattle.zio_script.specs.declared.script.Work.TheVariants.{Claim as ClaimWork}
use Rattle.zio_gang.specs.declared.tree.Tree.{Tree}
use Rattle.zio_gang.specs.Attempts.{Pending, Terms}
use Rattle.zio_trace.specs.Plans.{plan_claim, plan_own}
use Rattle.zio_trace.specs.Programs.{Ends}
use Rattle.zio_trace.specs.Tasks.{OwnGot, Task, Value}
use Rattle.zio_children.specs.RequestKids.{pointers_of}
use Rattle.zio_frames.specs.Frames.{Child, Stack, kind_of_task}
use Rattle.zio_frames.specs.Moves.{heard_early, heard_of}
use Rattle.zio_frames.specs.Seats.{IsSeated}
use Rattle.zio_frames.specs.Slots.{AllHeard, Heard, IsOut, Slot, left_behind_slots, told_in}
use Rattle.zio_exchange.specs.Outcomes.{IsNoAttemptIn, places_in}
use Rattle.zio_exchange.specs.SpaceCalls.{SpaceCall}
use Rattle.zio_exchange.specs.Waits.{pending_of}
use Rattle.zio_stages.specs.OwnClaims.{IsClaimOf, IsOwnClaim, claim_task, own_claimed, taken_by, IsBlockOf}
use Rattle.zio_stages.specs.OwnParts.{DoesThen, GoesOnAs, HandsTo, IsNoWrite, IsOwed}
use Rattle.zio_stages.specs.RequestNodes.{IsOwnOf, IsRequestNode, own_got}
use Rattle.zio_stages.specs.RequestOwns.{IsClaimOwn, IsNoneAfter, MakesBlock}
use Rattle.zio_stages.specs.StoredBlocks.{block_places}
use Rattle.zio_stages.specs.declared.own_claim.ClaimStep.{ClaimStep}
use Rattle.zio_stages.specs.declared.own_claim.ClaimStep.TheVariants.{Out}
use Rattle.zio_stages.specs.declared.own_claim.OwnClaim.{OwnClaim}
use Rattle.zio_stages.specs.declared.request_node.Own.{Own}
use Rattle.zio_stages.specs.declared.request_node.Own.TheVariants.{Claim, Found}
use Rattle.zio_stages.specs.declared.request_node.OwnFound.{OwnFound}
use Rattle.zio_stages.specs.declared.request_node.RequestNode.{RequestNode}
use Rattle.zio_stages.proofs.BehindLemmas.{does_nothing, owed_behind}
use Rattle.zio_stages.proofs.OwnHolds.{claim_holds, claim_quiet}
use Rattle.zio_stages.proofs.RequestFoundLemmas.{found_at}
use Rattle.zio_stages.proofs.RequestFreeMoves.{then_same}
use Rattle.zio_stages.proofs.RequestOwnMoves.{goes_on, set_op, then_does, then_hands}
use Rattle.std.specs.Prelude.{IfSome, IsSome, OnOk}
use Rattle.zio_stages.specs.RequestClaims.{IsPastWalk}
use Rattle.zio_stages.specs.RequestKinds.{is_gang_pointer}
use Rattle.zio_stages.proofs.RequestWriteLemmas.{front_in, with_own}

-- ---- behind its children

-- the request claims what these bytes point to
pub record ClaimsBytes (r : RequestNode) (bytes : List ℕ) : Type 0 where
  pub all : r.kids.kids.handed ≡ length r.kids.kids.kids
  pub name : List ℕ
  pub work : r.waiting.request.work ≡ ClaimWork name bytes

other_claim : (r : RequestNode) (bytes : List ℕ) → ClaimsBytes r bytes → IsNoWrite r.waiting.request.work
other_claim r bytes k = subst IsNoWrite (sym k.work) tt

pub claim_goes_on : (t : Terms) (tops : List Top) (r : RequestNode) (st : Stack) (bytes : List ℕ) (h : IsRequestNode t r st) → t.setting.tops ≡ tops → ClaimsBytes r bytes
    → GoesOnAs t tops (plan_claim (pointer_of bytes)) h.kid_slots st
claim_goes_on t tops r st bytes h same k =
    goes_on t tops r st h (plan_claim (pointer_of bytes)) (λ own. Ends own) same k.all (other_claim r bytes k)
    (ap (λ (w : Work). plan_own t r.attempt (pending_of r.waiting) w (pointers_of r.kids.kids)) k.work ∙ sym (then_same (plan_claim (pointer_of bytes))))

pub claim_in : (t : Terms) (r : RequestNode) (st : Stack) (w : OwnClaim) (h : IsRequestNode t r st) → r.own ≡ Claim w
    → IsClaimOwn w (front_in t r st h) (pending_of r.waiting) r.kids.kids h.own_asked h.own_slots st
claim_in t r st w h is = subst (λ (o : Own). IsOwnOf t r r.kids.kids (front_in t r st h) o st h.own_asked h.own_slots) is h.own

pub claims_bytes : (t : Terms) (r : RequestNode) (st : Stack) (w : OwnClaim) (h : IsRequestNode t r st)
    (own : IsClaimOwn w (front_in t r st h) (pending_of r.waiting) r.kids.kids h.own_asked h.own_slots st) → ClaimsBytes r own.bytes
claims_bytes t r st w h own = record { all = own.all; name = own.name; work = own.work }

pub own_claim : (t : Terms) (r : RequestNode) (st : Stack) (w : OwnClaim) (h : IsRequestNode t r st)
    (own : IsClaimOwn w (front_in t r st h) (pending_of r.waiting) r.kids.kids h.own_asked h.own_slots st) → IsOwnClaim w r.family (pointer_of own.bytes) h.kid_asked h.kid_slots st
own_claim t r st w h own = subst (λ (cs : List Child). IsOwnClaim w cs (pointer_of own.bytes) h.kid_asked h.kid_slots st) (sym h.family) own.is

-- so far in its block's claim, it is so far
pub claim_node : (t : Terms) (r : RequestNode) (a b : Stack) (v : OwnClaim) (family : List Child) (bytes : List ℕ) (h : IsRequestNode t r a) → ClaimsBytes r bytes → b.outer.op ≡ a.outer.op
    → IsOwnClaim v family (pointer_of bytes) h.kid_asked h.kid_slots b → IsRequestNode t (with_own r (Claim v) family) b
claim_node t r a b v family bytes h k same is = record {
  forest = h.forest;
  kid_asked = h.kid_asked;
  kid_slots = h.kid_slots;
  own_asked = is.asked;
  own_slots = is.slots;
  op = same ∙ h.op;
  asked = is.behind.asked_are;
  slots = is.behind.slots_are;
  kids = h.kids;
  kept = h.kept;
  own = record {
    all = k.all;
    name = k.name;
    bytes = bytes;
    work = k.work;
    is = record { asked = is.asked; slots = is.slots; children = refl; behind = is.behind; claim = is.claim; alone = is.alone };
    asked_are = refl;
    slots_are = refl;
  };
  family = is.children;
  round = h.round;
  failmode = h.failmode;
}

-- ---- it begins

begins_or : (t : Terms) (st : Stack) (own new : OwnClaim) (P : OwnClaim → Stack → Type 0) (b : Bool) → (b ≡ true → DoesThen t st [] (P new)) → (b ≡ false → new ≡ own) → P own st → DoesThen t st [] (P new)
begins_or t st own new P true w g h = w refl
begins_or t st own new P false w g h = does_nothing t st (P new) (subst (λ (o : OwnClaim). P o st) (sym (g refl)) h)

pub does_claim : (t : Terms) (r : RequestNode) (st : Stack) (v : OwnClaim) (family : List Child) (bytes : List ℕ) (calls : List SpaceCall) (h : IsRequestNode t r st) → ClaimsBytes r bytes
    → DoesThen t st calls (IsOwnClaim v family (pointer_of bytes) h.kid_asked h.kid_slots) → DoesThen t st calls (IsRequestNode t (with_own r (Claim v) family))
does_claim t r st v family bytes calls h k d =
    then_does t st calls (IsOwnClaim v family (pointer_of bytes) h.kid_asked h.kid_slots) (IsRequestNode t (with_own r (Claim v) family))
    (λ b same is. claim_node t r st b v family bytes h k same is) d

pub claim_begins : (t : Terms) (r : RequestNode) (st : Stack) (own new : OwnClaim) (bytes : List ℕ) (b : Bool) (h : IsRequestNode t r st) → ClaimsBytes r bytes
    → IsOwnClaim own r.family (pointer_of bytes) h.kid_asked h.kid_slots st
    → (b ≡ true → DoesThen t st [] (IsOwnClaim new r.family (pointer_of bytes) h.kid_asked h.kid_slots)) → (b ≡ false → new ≡ own)
    → DoesThen t st [] (IsRequestNode t (with_own r (Claim new) r.family))
claim_begins t r st own new bytes b h k begun walks still =
    does_claim t r st new r.family bytes [] h k (begins_or t st own new (λ o. IsOwnClaim o r.family (pointer_of bytes) h.kid_asked h.kid_slots) b walks still begun)

-- ---- it goes on

-- where there is a block the bytes are its pointer's
pub pointer_is : (pointer : Option Bp) (block : Option Tree) (tree : Tree) (step : ClaimStep) (asked : List Task) (slots : List Slot) → block ≡ Some tree → IsClaimOf pointer block step asked slots → pointer ≡ Some tree.bp
pointer_is pointer block tree step asked slots is h = by pointer (subst (λ (b : Option Tree). IsClaimOf pointer b step asked slots) is h)
  where
    by : (p : Option Bp) → IsClaimOf p (Some tree) step asked slots → p ≡ Some tree.bp
    by None k = absurd k
    by (Some bp) k = ap (λ (b : Bp). Some b) (sym k.0)

pub hands_claim : (t : Terms) (r : RequestNode) (st : Stack) (w v : OwnClaim) (more : List Child) (bp : Bp) (C D : Task → Type 0) (h : IsRequestNode t r st)
    (own : IsClaimOwn w (front_in t r st h) (pending_of r.waiting) r.kids.kids h.own_asked h.own_slots st) → pointer_of own.bytes ≡ Some bp → ((op : Task) → C op → D op)
    → HandsTo t Gang C (IsOwnClaim v more (Some bp) h.kid_asked h.kid_slots) st → HandsTo t Gang D (IsRequestNode t (with_own r (Claim v) more)) st
hands_claim t r st w v more bp C D h own pointer child =
    then_hands t Gang C D (IsOwnClaim v more (Some bp) h.kid_asked h.kid_slots) (IsRequestNode t (with_own r (Claim v) more)) st child
    (λ b same is. claim_node t r st b v more own.bytes h (claims_bytes t r st w h own) same (subst (λ (p : Option Bp). IsOwnClaim v more p h.kid_asked h.kid_slots b) (sym pointer) is))

pub hears_claim : (t : Terms) (r : RequestNode) (st : Stack) (w v : OwnClaim) (more : List Child) (bp : Bp) (child : ℕ) (c : Child) (x : Value) (h : IsRequestNode t r st)
    (own : IsClaimOwn w (front_in t r st h) (pending_of r.waiting) r.kids.kids h.own_asked h.own_slots st) → pointer_of own.bytes ≡ Some bp
    → IsOwnClaim v more (Some bp) h.kid_asked h.kid_slots (heard_of st child c x) → IsRequestNode t (with_own r (Claim v) more) (heard_of st child c x)
hears_claim t r st w v more bp child c x h own pointer is =
    claim_node t r st (heard_of st child c x) v more own.bytes h (claims_bytes t r st w h own) (set_op st c.seat (Heard x))
    (subst (λ (p : Option Bp). IsOwnClaim v more p h.kid_asked h.kid_slots (heard_of st child c x)) (sym pointer) is)

pub tells_claim : (t : Terms) (r : RequestNode) (st : Stack) (w : OwnClaim) (more : List Child) (bp : Bp) (child : ℕ) (c : Child) (told : Option Bp) (h : IsRequestNode t r st)
    (own : IsClaimOwn w (front_in t r st h) (pending_of r.waiting) r.kids.kids h.own_asked h.own_slots st) → pointer_of own.bytes ≡ Some bp
    → IsOwnClaim w more (Some bp) h.kid_asked h.kid_slots (heard_early st child c told) → IsRequestNode t (with_own r (Claim w) more) (heard_early st child c told)
tells_claim t r st w more bp child c told h own pointer is =
    claim_node t r st (heard_early st child c told) w more own.bytes h (claims_bytes t r st w h own) (set_op st c.seat (IsOut (Some told)))
    (subst (λ (p : Option Bp). IsOwnClaim w more p h.kid_asked h.kid_slots (heard_early st child c told)) (sym pointer) is)

-- a walk that is out stands alone
pub record IsWalkAsked (bp : Bp) (asked : List Task) (slots : List Slot) : Type 0 where
  pub told : Option (Option Bp)
  pub asked_is : asked ≡ claim_task bp ∷ []
  pub slots_is : slots ≡ IsOut told ∷ []

pub out_asked : (pointer : Option Bp) (block : Option Tree) (tree : Tree) (asked : List Task) (slots : List Slot) → block ≡ Some tree → IsClaimOf pointer block Out asked slots → (bp : Bp) × IsWalkAsked bp asked slots
out_asked pointer block tree asked slots is h = by pointer (subst (λ (b : Option Tree). IsClaimOf pointer b Out asked slots) is h)
  where
    by : (p : Option Bp) → IsClaimOf p (Some tree) Out asked slots → (bp : Bp) × IsWalkAsked bp asked slots
    by None k = absurd k
    by (Some bp) k = (bp, record { told = k.1.0; asked_is = k.1.1; slots_is = k.1.2 })

pub claim_owed : (t : Terms) (r : RequestNode) (st : Stack) (w : OwnClaim) (tree : Tree) (h : IsRequestNode t r st) → r.own ≡ Claim w → w.step ≡ Out → w.block ≡ Some tree → IsSeated st → IsOwed Gang Done st
claim_owed t r st w tree h is out block seated =
    let own = claim_in t r st w h is in
    let k = out_asked (pointer_of own.bytes) w.block tree own.is.asked own.is.slots block
    (subst (λ (s : ClaimStep). IsClaimOf (pointer_of own.bytes) w.block s own.is.asked own.is.slots) out own.is.claim) in
    let asked : length own.is.asked ≡ 1 = ap length k.1.asked_is in
    let slots : length own.is.slots ≡ 1 = ap length k.1.slots_is in
    let told : length (told_in own.is.slots) ≡ 1 = ap (λ (xs : List Slot). length (told_in xs)) k.1.slots_is in
    owed_behind h.kid_asked h.kid_slots own.is.asked own.is.slots st seated own.is.alone own.is.behind
    (subst (λ (qs : List Task). AllByRecursion (λ (q : Task). kind_of_task q ≡ Gang) qs) (sym k.1.asked_is) (refl, tt)) (omega (arith, asked, slots)) (omega (arith, told))

-- ---- it ends

pub claimed_none : (found : Result Tree Errno) → IsNoneAfter (own_claimed found).error (own_claimed found).tree
claimed_none (Ok tree) = tt
claimed_none (Err e) = refl

pub claim_found : (t : Terms) (r : RequestNode) (st : Stack) (w : OwnClaim) (found : OwnFound) (came : OwnGot) (h : IsRequestNode t r st)
    (own : IsClaimOwn w (front_in t r st h) (pending_of r.waiting) r.kids.kids h.own_asked h.own_slots st)
    → AllHeard own.is.slots × (left_behind_slots own.is.slots (plan_claim (pointer_of own.bytes)) ≡ Ends came) → taken_by w.block w.step ≡ block_places came.tree → IsNoneAfter came.error came.tree → own_got found ≡ came → IsRequestNode t (with_own r (Found found) r.family) st
claim_found t r st w found came h own e took fails is =
    let p : Pending = pending_of r.waiting in
    found_at t r st found h own.all (other_claim r own.bytes (claims_bytes t r st w h own)) own.is.alone (subst AllHeard own.slots_are e.0)
    (subst (AllByRecursion IsNoAttemptIn) own.slots_are (claim_quiet (pointer_of own.bytes) w.block w.step own.is.asked own.is.slots own.is.claim))
    ((λ i. places_in (sym own.asked_are i) (sym own.slots_are i)) ∙ claim_holds (pointer_of own.bytes) w.block w.step own.is.asked own.is.slots own.is.claim
    ∙ took ∙ ap (λ (o : OwnGot). block_places o.tree) (sym is))
    (subst (λ (k : Work). MakesBlock k (own_got found)) (sym own.work) (subst (λ (o : OwnGot). IsNoneAfter o.error o.tree) (sym is) fails))
    (λ pointers.
    ap (λ (x : Work). left_behind_slots h.own_slots (plan_own t r.attempt p x pointers)) own.work
    ∙ subst (λ (slots : List Slot). left_behind_slots slots (plan_claim (pointer_of own.bytes)) ≡ Ends came) own.slots_are e.1
    ∙ ap (λ (o : OwnGot). Ends o) (sym is))

-- ---- a plain pointer's walk

gang_block : (pointer : Option Bp) (block : Option Tree) → IsBlockOf pointer block → IsSome block → IfSome block (λ (tree : Tree). tree.bp.gang ≡ true)
    → is_gang_pointer pointer ≡ true
gang_block None None h some gang = absurd (let no : false ≡ true = some in cc)
gang_block None (Some tree) h some gang = absurd h
gang_block (Some bp) None h some gang = absurd h
gang_block (Some bp) (Some tree) h some gang = ap (λ (b : Bp). b.gang) (sym h.0) ∙ gang

-- opens and closes at once
pub walks_at_once : (at_once : Bool) (w : OwnClaim) (pointer : Option Bp) (block : Option Tree) → IsBlockOf pointer block → is_gang_pointer pointer ≡ false
    → (at_once ≡ true → IsPastWalk w.block w.step) → (at_once ≡ false → IsSome block) → (at_once ≡ false → IfSome block (λ (tree : Tree). tree.bp.gang ≡ true))
    → IsPastWalk w.block w.step
walks_at_once true w pointer block is plain past some gang = past refl
walks_at_once false w pointer block is plain past some gang =
    absurd (let yes : is_gang_pointer pointer ≡ true = gang_block pointer block is (some refl) (gang refl) in cc)

pub if_due : {T E : Type 0} (P Q : Type 0) (r : Result T E) → OnOk r Q → OnOk r (P → Q)
if_due P Q (Ok x) h = λ p. h
if_due P Q (Err e) h = tt
