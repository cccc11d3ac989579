-- Which operation of its own work a child of a read, a free or a claim does.
use Rattle.std.proofs.Common.{◌≡◌, ℕ, zero, suc, ◌+◌, ◌<◌, List, [], ◌∷◌, ◌++◌, length, map, slice_get, false, Option, Some, None, ◌⊎◌, inl, inr, refl, sym, ap, subst, ◌∙◌, arith}
use Rattle.std.specs.Prelude.{option_map}
use Rattle.zio_types.specs.declared.place.Top.{Top}
use Rattle.zio_types.specs.declared.request.ChildKind.TheVariants.{Gang, Vdev}
use Rattle.zio_types.specs.declared.request.Kind.TheVariants.{Claim as ClaimKind, Free as FreeKind, Read as ReadKind, Write as WriteKind}
use Rattle.zio_blkptr.specs.declared.pointer.Bp.{Bp}
use Rattle.zio_blkptr.specs.Pointers.{pointer_of}
use Rattle.zio_script.specs.Requests.{kind_of}
use Rattle.zio_gang.specs.declared.tree.Tree.{Tree}
use Rattle.zio_gang.specs.Attempts.{Pending, Terms}
use Rattle.zio_trace.specs.Families.{Forest}
use Rattle.zio_trace.specs.Leaves.{Answer}
use Rattle.zio_trace.specs.Tasks.{Attempt, Leaf, ReadCopies, ReadHeads, Task, Value, Walked}
use Rattle.zio_children.specs.RequestKids.{KidsUnderWay}
use Rattle.zio_frames.specs.Frames.{Child, Inner, OfInner, OfOuter, Seat as SeatOf, Stack, kind_of_task}
use Rattle.zio_frames.specs.Seats.{IsInnerSeat, SitsAt, asked_at, asked_in_inner, slot_at}
use Rattle.zio_frames.specs.Slots.{Heard, IsOut, Slot}
use Rattle.zio_frames.proofs.GetLemmas.{all_at}
use Rattle.zio_parts.specs.HeadWalks.{no_walk}
use Rattle.zio_parts.specs.TreeReads.{body_slot, slots_in}
use Rattle.zio_parts.specs.declared.tree_read.Phase.{Phase}
use Rattle.zio_parts.specs.declared.tree_read.Phase.TheVariants.{Unread, Out as WalkOut, Failed as WalkFailed, Found as BodiesFound}
use Rattle.zio_exchange.specs.Outcomes.{IsPart, IsReading, IsWalk}
use Rattle.zio_stages.specs.LeavesOut.{IsLeafTask}
use Rattle.zio_stages.specs.NodeIos.{IsAwaitedAt}
use Rattle.zio_stages.specs.OwnClaims.{IsClaimOf, IsClaimStep, claim_task}
use Rattle.zio_stages.specs.OwnFrees.{IsFreeWalk}
use Rattle.zio_stages.specs.OwnParts.{ToldSince}
use Rattle.zio_stages.specs.OwnReads.{AreReads, IsBeside, IsBodyIn, IsBodyOut, IsBodyTask, IsOwnOver, IsWalkOut}
use Rattle.zio_stages.specs.PartWorks.{Front}
use Rattle.zio_stages.specs.RequestHearings.{IsUnderWay}
use Rattle.zio_stages.specs.RequestNodes.{IsOwnOf, IsRequestNode}
use Rattle.zio_stages.specs.RequestOwns.{IsOwnSeat}
use Rattle.zio_stages.specs.TreeWorks.{heads_task, slots_with, walk_before}
use Rattle.zio_stages.specs.declared.family.Layer.TheVariants.{Within}
use Rattle.zio_stages.specs.declared.own_claim.ClaimStep.{ClaimStep}
use Rattle.zio_stages.specs.declared.own_claim.ClaimStep.TheVariants.{Due as StepDue, Out as StepOut, Failed, Found as StepFound, Taken, Refused}
use Rattle.zio_stages.specs.declared.own_claim.OwnClaim.{OwnClaim}
use Rattle.zio_stages.specs.declared.own_free.FreeWalk.{FreeWalk}
use Rattle.zio_stages.specs.declared.own_free.FreeWalk.TheVariants.{Due as FreeDue, Out as FreeOut, Ended as FreeEnded}
use Rattle.zio_stages.specs.declared.own_free.OwnFree.{OwnFree}
use Rattle.zio_stages.specs.declared.own_read.BodyIo.{BodyIo}
use Rattle.zio_stages.specs.declared.own_read.OwnRead.{OwnRead}
use Rattle.zio_stages.specs.declared.request_node.Own.{Own}
use Rattle.zio_stages.specs.declared.request_node.Own.TheVariants.{Claim as ClaimOwn, Due, Found, Free as FreeOwn, Over, Read as ReadOwn, Stored, Write as WriteOwn}
use Rattle.zio_stages.specs.declared.request_node.RequestNode.{RequestNode}
use Rattle.zio_stages.specs.declared.tree.TreeWork.{TreeWork}
use Rattle.zio_stages.proofs.KidAsking.{kids_full}
use Rattle.zio_stages.proofs.OutPlaces.{get_behind, read_asks}
use Rattle.zio_stages.proofs.RequestClaimMoves.{claim_in}
use Rattle.zio_stages.proofs.RequestFreeMoves.{free_in}
use Rattle.zio_stages.proofs.RequestMembers.{own_place}
use Rattle.zio_stages.proofs.RequestOwnMoves.{read_in}
use Rattle.zio_stages.proofs.RequestReadMoves.{count_front}
use Rattle.zio_stages.proofs.RequestWriteLemmas.{front_in}
use Rattle.zio_stages.proofs.TreeLemmas.{out_body, out_walk}

-- ---- whose own work is under way

read_by : (t : Terms) (r : RequestNode) (st : Stack) (x : KidsUnderWay) (f : Front) (asked : List Task) (slots : List Slot) (own : Own)
    → kind_of r.waiting.request.work ≡ ReadKind → IsOwnOf t r x f own st asked slots → IsUnderWay own → (w : OwnRead) × (own ≡ ReadOwn w)
read_by t r st x f asked slots Due kind k u = absurd u
read_by t r st x f asked slots (WriteOwn w) kind k u = let no : ReadKind ≡ WriteKind = sym kind ∙ ap kind_of k.block.work in absurd (cc)
read_by t r st x f asked slots (Stored b) kind k u = absurd u
read_by t r st x f asked slots (ReadOwn w) kind k u = (w, refl)
read_by t r st x f asked slots (FreeOwn w) kind k u = let no : ReadKind ≡ FreeKind = sym kind ∙ ap kind_of k.work in absurd (cc)
read_by t r st x f asked slots (ClaimOwn w) kind k u = let no : ReadKind ≡ ClaimKind = sym kind ∙ ap kind_of k.work in absurd (cc)
read_by t r st x f asked slots (Found own) kind k u = absurd u
read_by t r st x f asked slots Over kind k u = absurd u

-- a read's is the read of its block
pub own_read : (t : Terms) (r : RequestNode) (st : Stack) → IsRequestNode t r st → kind_of r.waiting.request.work ≡ ReadKind → IsUnderWay r.own
    → (w : OwnRead) × (r.own ≡ ReadOwn w)
own_read t r st h kind u = read_by t r st r.kids.kids (front_in t r st h) h.own_asked h.own_slots r.own kind h.own u

free_by : (t : Terms) (r : RequestNode) (st : Stack) (x : KidsUnderWay) (f : Front) (asked : List Task) (slots : List Slot) (own : Own)
    → kind_of r.waiting.request.work ≡ FreeKind → IsOwnOf t r x f own st asked slots → IsUnderWay own → (w : OwnFree) × (own ≡ FreeOwn w)
free_by t r st x f asked slots Due kind k u = absurd u
free_by t r st x f asked slots (WriteOwn w) kind k u = let no : FreeKind ≡ WriteKind = sym kind ∙ ap kind_of k.block.work in absurd (cc)
free_by t r st x f asked slots (Stored b) kind k u = absurd u
free_by t r st x f asked slots (ReadOwn w) kind k u = let no : FreeKind ≡ ReadKind = sym kind ∙ ap kind_of k.work in absurd (cc)
free_by t r st x f asked slots (FreeOwn w) kind k u = (w, refl)
free_by t r st x f asked slots (ClaimOwn w) kind k u = let no : FreeKind ≡ ClaimKind = sym kind ∙ ap kind_of k.work in absurd (cc)
free_by t r st x f asked slots (Found own) kind k u = absurd u
free_by t r st x f asked slots Over kind k u = absurd u

-- a free's its free
pub own_free : (t : Terms) (r : RequestNode) (st : Stack) → IsRequestNode t r st → kind_of r.waiting.request.work ≡ FreeKind → IsUnderWay r.own
    → (w : OwnFree) × (r.own ≡ FreeOwn w)
own_free t r st h kind u = free_by t r st r.kids.kids (front_in t r st h) h.own_asked h.own_slots r.own kind h.own u

claim_by : (t : Terms) (r : RequestNode) (st : Stack) (x : KidsUnderWay) (f : Front) (asked : List Task) (slots : List Slot) (own : Own)
    → kind_of r.waiting.request.work ≡ ClaimKind → IsOwnOf t r x f own st asked slots → IsUnderWay own → (w : OwnClaim) × (own ≡ ClaimOwn w)
claim_by t r st x f asked slots Due kind k u = absurd u
claim_by t r st x f asked slots (WriteOwn w) kind k u = let no : ClaimKind ≡ WriteKind = sym kind ∙ ap kind_of k.block.work in absurd (cc)
claim_by t r st x f asked slots (Stored b) kind k u = absurd u
claim_by t r st x f asked slots (ReadOwn w) kind k u = let no : ClaimKind ≡ ReadKind = sym kind ∙ ap kind_of k.work in absurd (cc)
claim_by t r st x f asked slots (FreeOwn w) kind k u = let no : ClaimKind ≡ FreeKind = sym kind ∙ ap kind_of k.work in absurd (cc)
claim_by t r st x f asked slots (ClaimOwn w) kind k u = (w, refl)
claim_by t r st x f asked slots (Found own) kind k u = absurd u
claim_by t r st x f asked slots Over kind k u = absurd u

-- and a claim's its claim
pub own_claim : (t : Terms) (r : RequestNode) (st : Stack) → IsRequestNode t r st → kind_of r.waiting.request.work ≡ ClaimKind → IsUnderWay r.own
    → (w : OwnClaim) × (r.own ≡ ClaimOwn w)
own_claim t r st h kind u = claim_by t r st r.kids.kids (front_in t r st h) h.own_asked h.own_slots r.own kind h.own u

-- ---- where a child of it sits

-- it is no attempt of a child's tree
abbrev pub IsNone : Task → Type 0
IsNone op = (attempt : ℕ) (p : Pending) (below : Forest) → op ≡ Attempt attempt p below → ⊥

-- the child does the own work's operation of this number
pub record SitsOwn (t : Terms) (r : RequestNode) (st : Stack) (h : IsRequestNode t r st) (c : Child) (op : Task) (told : Option (Option Bp)) : Type 0 where
  pub number : ℕ
  pub seat : c.seat ≡ OfOuter (length h.kid_slots + number)
  pub asked_is : slice_get h.own_asked number ≡ Some op
  pub slot_is : slice_get h.own_slots number ≡ Some (IsOut told)

outer_own : (t : Terms) (r : RequestNode) (st : Stack) (h : IsRequestNode t r st) (c : Child) (op : Task) (told : Option (Option Bp)) (m : ℕ) → c.seat ≡ OfOuter m
    → SitsAt st c op told → IsNone op → SitsOwn t r st h c op told
outer_own t r st h c op told m e sits never =
    let asked : slice_get st.outer.asked m ≡ Some op = ap (asked_at st) (sym e) ∙ sits.asked in
    let slot : slice_get st.outer.slots m ≡ Some (IsOut told) = ap (slot_at st) (sym e) ∙ sits.slot in
    let place = own_place t r st m op h asked never in
    let full : length h.kid_asked ≡ length h.kid_slots = kids_full r.kids r.attempt h.forest h.kid_asked h.kid_slots h.kids in
    record {
      number = place.0;
      seat = e ∙ ap (λ k. OfOuter k) place.1;
      asked_is =
          sym (get_behind h.kid_asked h.own_asked m place.0 (omega (arith, full, place.1)))
          ∙ ap (λ (xs : List Task). slice_get xs m) (sym h.asked) ∙ asked;
      slot_is =
          sym (get_behind h.kid_slots h.own_slots m place.0 (omega (arith, place.1)))
          ∙ ap (λ (xs : List Slot). slice_get xs m) (sym h.slots) ∙ slot;
    }

-- as the calls of its own work have it
seat_is : (t : Terms) (r : RequestNode) (st : Stack) (h : IsRequestNode t r st) (n : ℕ) (c : Child) (m : ℕ) → r.kids.kids.handed ≡ length r.kids.kids.kids
    → slice_get st.children n ≡ Some c → c.seat ≡ OfOuter (length h.kid_slots + m) → IsOwnSeat r n m
seat_is t r st h n c m all there seat =
    ap (λ (cs : List Child). option_map (λ (x : Child). x.seat) (slice_get cs n)) h.family
    ∙ ap (option_map (λ (x : Child). x.seat)) there ∙ ap (λ s. Some s) (seat ∙ ap (λ k. OfOuter (k + m)) (count_front t r st h all))

pub one_seat : (r : RequestNode) (n a b : ℕ) → IsOwnSeat r n a → IsOwnSeat r n b → a ≡ b
one_seat r n a b x y =
    let both : Some (OfOuter (length r.kids.kids.kids + a)) ≡ Some (OfOuter (length r.kids.kids.kids + b)) = sym x ∙ y in
    let same : length r.kids.kids.kids + a ≡ length r.kids.kids.kids + b = cc in
    omega (arith, same)

none_inner : (st : Stack) (m : ℕ) (op : Task) → st.inner ≡ None → asked_in_inner st.inner m ≡ Some op → ⊥
none_inner st m op none e =
    let both : None ≡ Some op = ap (λ (i : Option Inner). asked_in_inner i m) (sym none) ∙ e in cc

-- where no part is within it is one of the node's part
alone_outer : (st : Stack) (c : Child) (op : Task) (told : Option (Option Bp)) → st.inner ≡ None → SitsAt st c op told → (m : ℕ) × (c.seat ≡ OfOuter m)
alone_outer st c op told alone sits = by c.seat refl where
  by : (seat : SeatOf) → c.seat ≡ seat → (m : ℕ) × (c.seat ≡ OfOuter m)
  by (OfOuter m) e = (m, e)
  by (OfInner m) e = absurd (none_inner st m op alone (ap (asked_at st) (sym e) ∙ sits.asked))

-- ---- what isn't an operation on a leaf, and what is

pub gang_no_leaf : (op : Task) → kind_of_task op ≡ Gang → IsLeafTask op → ⊥
gang_no_leaf (Leaf act) gang leaf = absurd (cc)
gang_no_leaf op gang leaf = leaf

pub reading_none : (op : Task) → IsReading op → IsNone op
reading_none op reads attempt p below is = subst IsReading is reads

pub walk_no_reading : (op : Task) → IsWalk op → IsReading op → ⊥
walk_no_reading (ReadHeads look levels path bp) h l = l
walk_no_reading op h l = h

pub walk_no_part : (op : Task) → IsWalk op → IsPart op → ⊥
walk_no_part (ReadHeads look levels path bp) h p = p
walk_no_part op h p = h

vdev_leaf : (op : Task) → kind_of_task op ≡ Vdev → IsReading op → IsLeafTask op
vdev_leaf (Leaf act) vdev h = tt
vdev_leaf (ReadCopies repair test len places) vdev h = absurd (cc)
vdev_leaf op vdev h = absurd h

-- ---- a read's operations

-- the walk stands first, and the bodies behind it
read_ask : (tree : Tree) (asked : List Task) (n : ℕ) (op : Task) → AreReads tree asked → slice_get asked n ≡ Some op
    → ((n ≡ 0) × (op ≡ heads_task tree)) ⊎ ((0 < n) × IsBodyTask op)
read_ask tree [] n op h e = absurd (cc)
read_ask tree (x ∷ asked) zero op h e = let same : x ≡ op = cc in inl (refl, sym same ∙ h.0)
read_ask tree (x ∷ asked) (suc n) op h e = inr (omega arith, all_at IsBodyTask asked n op h.1 e)

-- what is out was out
since_was : (xs ys : List Slot) (n : ℕ) (told : Option (Option Bp)) → ToldSince xs ys → slice_get ys n ≡ Some (IsOut told)
    → (was : Option (Option Bp)) × (slice_get xs n ≡ Some (IsOut was))
since_was [] [] n told h e = absurd (cc)
since_was [] (y ∷ ys) n told h e = absurd h
since_was (x ∷ xs) [] n told h e = absurd h
since_was (Heard v ∷ xs) (Heard w ∷ ys) zero told h e = absurd (cc)
since_was (Heard v ∷ xs) (Heard w ∷ ys) (suc n) told h e = since_was xs ys n told h.1 e
since_was (Heard v ∷ xs) (IsOut out ∷ ys) n told h e = absurd h
since_was (IsOut out ∷ xs) (Heard w ∷ ys) n told h e = absurd h
since_was (IsOut out ∷ xs) (IsOut out' ∷ ys) zero told h e = (out, refl)
since_was (IsOut None ∷ xs) (IsOut out ∷ ys) (suc n) told h e = since_was xs ys n told h e
since_was (IsOut (Some pointer) ∷ xs) (IsOut out ∷ ys) (suc n) told h e = since_was xs ys n told h.1 e

body_none : (results : List (Option Answer)) (n : ℕ) (was : Option (Option Bp)) → slice_get (map body_slot results) n ≡ Some (IsOut was) → was ≡ None
body_none [] n was e = absurd (cc)
body_none (None ∷ results) zero was e = cc
body_none (Some found ∷ results) zero was e = absurd (cc)
body_none (x ∷ results) (suc n) was e = body_none results n was e

-- no operation of a read tells a pointer that its own work keeps
none_told : (phase : Phase) (walked : Walked) (results : List (Option Answer)) (n : ℕ) (was : Option (Option Bp))
    → slice_get (walk_before phase walked ++ slots_in phase results) n ≡ Some (IsOut was) → was ≡ None
none_told Unread walked results n was e = absurd (cc)
none_told WalkOut walked results zero was e = cc
none_told WalkOut walked results (suc n) was e = absurd (cc)
none_told (WalkFailed x) walked results zero was e = absurd (cc)
none_told (WalkFailed x) walked results (suc n) was e = absurd (cc)
none_told BodiesFound walked results zero was e = absurd (cc)
none_told BodiesFound walked results (suc n) was e = body_none results n was e

-- whatever its walk left
any_walk : (phase : Phase) (a b : Walked) (results : List (Option Answer)) (k : ℕ)
    → slice_get (walk_before phase a ++ slots_in phase results) (suc k) ≡ slice_get (walk_before phase b ++ slots_in phase results) (suc k)
any_walk Unread a b results k = refl
any_walk WalkOut a b results k = refl
any_walk (WalkFailed e) a b results k = refl
any_walk BodiesFound a b results k = refl

body_out : (w : TreeWork) (walked : Walked) (n : ℕ) → 0 < n → slice_get (slots_with walked w.read) n ≡ Some (IsOut None) → IsBodyOut w n
body_out w walked zero some e = absurd (omega arith)
body_out w walked (suc k) some e = record { behind = some; out = λ left. any_walk w.read.phase left walked w.read.results k ∙ e }

pub walk_is_out : (w : TreeWork) → w.read.phase ≡ WalkOut → IsWalkOut w
walk_is_out w out = λ left. ap (λ (p : Phase). slice_get (walk_before p left ++ slots_in p w.read.results) 0) out

-- while its walk is out no body is read by the node itself
pub walks_alone : (tops : List Top) (w : TreeWork) (o : Option BodyIo) (family : List Child) → w.read.phase ≡ WalkOut → IsOwnOver tops w o family → o ≡ None
walks_alone tops w None family out over = refl
walks_alone tops w (Some b) family out over = absurd (behind b.number over.out.behind (over.out.out no_walk))
  where
    behind : (m : ℕ) → 0 < m → slice_get (slots_with no_walk w.read) m ≡ Some (IsOut None) → ⊥
    behind zero some e = omega arith
    behind (suc m) some e =
        let found : w.read.phase ≡ BodiesFound = out_body w.read.phase no_walk w.read.results m e in
        let no : WalkOut ≡ BodiesFound = sym out ∙ found in
        cc

-- ---- which operation of a read a child does

-- its walk or a body's read, which is out
pub record ReadsAt (r : RequestNode) (w : OwnRead) (n : ℕ) (op : Task) : Type 0 where
  pub number : ℕ
  pub seat : IsOwnSeat r n number
  pub tree : Tree
  pub block : r.waiting.block ≡ Some tree
  pub ask : ((number ≡ 0) × (op ≡ heads_task tree)) ⊎ ((0 < number) × IsBodyTask op)
  pub walked : Walked
  pub out : slice_get (slots_with walked w.tree.read) number ≡ Some (IsOut None)
  pub beside : IsBeside number w.body

-- the part within is another one
beside_in : (t : Terms) (o : Option BodyIo) (front n : ℕ) (st : Stack) (c : Child) → c.seat ≡ OfOuter (front + n) → (IsInnerSeat st.inner c.seat → ⊥) → IsBodyIn t o front st
    → IsBeside n o
beside_in t None front n st c seat beside h = tt
beside_in t (Some b) front n st c seat beside h = λ same.
    let at : front + n ≡ h.inner.number = omega (arith, h.number, same) in
    let there : c.seat ≡ OfOuter h.inner.number = seat ∙ ap (λ k. OfOuter k) at in
    beside (subst (λ (i : Option Inner). IsInnerSeat i c.seat) (sym h.is) there)

reads_outer : (t : Terms) (r : RequestNode) (st : Stack) (w : OwnRead) (h : IsRequestNode t r st) (n : ℕ) (c : Child) (op : Task) (told : Option (Option Bp)) (m : ℕ)
    → r.own ≡ ReadOwn w → slice_get st.children n ≡ Some c → SitsAt st c op told → IsNone op → c.seat ≡ OfOuter m → ReadsAt r w n op
reads_outer t r st w h n c op told m is there sits never e =
    let own = read_in t r st w h is in
    let s = outer_own t r st h c op told m e sits never in
    let asked : slice_get own.is.asked s.number ≡ Some op = ap (λ (xs : List Task). slice_get xs s.number) own.asked_are ∙ s.asked_is in
    let slot : slice_get own.is.slots s.number ≡ Some (IsOut told) = ap (λ (xs : List Slot). slice_get xs s.number) own.slots_are ∙ s.slot_is in
    let was = since_was own.is.begun own.is.slots s.number told own.is.told slot in
    let shown : slice_get (slots_with own.is.work.walked w.tree.read) s.number ≡ Some (IsOut was.0) =
    ap (λ (xs : List Slot). slice_get xs s.number) (sym own.is.work.shown) ∙ was.1 in
    let none : was.0 ≡ None = none_told w.tree.read.phase own.is.work.walked w.tree.read.results s.number was.0 shown in
    record {
      number = s.number;
      seat = seat_is t r st h n c s.number own.all there s.seat;
      tree = own.tree;
      block = own.block;
      ask = read_ask own.tree own.is.asked s.number op own.is.reads asked;
      walked = own.is.work.walked;
      out = shown ∙ ap (λ o. Some (IsOut o)) none;
      beside = beside_in t w.body (length h.kid_slots) s.number st c s.seat sits.beside own.is.body;
    }

within_leaf : (t : Terms) (o : Option BodyIo) (front : ℕ) (st : Stack) (m : ℕ) (op : Task) → IsBodyIn t o front st → asked_in_inner st.inner m ≡ Some op → IsLeafTask op
within_leaf t None front st m op h asked = absurd (none_inner st m op h asked)
within_leaf t (Some b) front st m op h asked =
    let there : slice_get h.inner.frame.asked m ≡ Some op = sym (ap (λ (i : Option Inner). asked_in_inner i m) h.is) ∙ asked in
    all_at IsLeafTask h.inner.frame.asked m op (read_asks t b.io h.inner.frame h.part).leaves there

-- what is no operation on a leaf is one of its part
pub reads_at : (t : Terms) (r : RequestNode) (st : Stack) (w : OwnRead) (h : IsRequestNode t r st) (n : ℕ) (c : Child) (op : Task) (told : Option (Option Bp))
    → r.own ≡ ReadOwn w → slice_get st.children n ≡ Some c → SitsAt st c op told → (IsLeafTask op → ⊥) → IsNone op → ReadsAt r w n op
reads_at t r st w h n c op told is there sits leaf never = by c.seat refl where
  by : (seat : SeatOf) → c.seat ≡ seat → ReadsAt r w n op
  by (OfOuter m) e = reads_outer t r st w h n c op told m is there sits never e
  by (OfInner m) e = absurd (leaf (within_leaf t w.body (length h.kid_slots) st m op (read_in t r st w h is).is.body (ap (asked_at st) (sym e) ∙ sits.asked)))

-- the walk over its block's headers
pub record DoesWalk (r : RequestNode) (w : OwnRead) (n : ℕ) (op : Task) : Type 0 where
  pub seat : IsOwnSeat r n 0
  pub out : w.tree.read.phase ≡ WalkOut
  pub tree : Tree
  pub block : r.waiting.block ≡ Some tree
  pub is : op ≡ heads_task tree

pub reads_walk : (r : RequestNode) (w : OwnRead) (n : ℕ) (op : Task) → ReadsAt r w n op → IsWalk op → DoesWalk r w n op
reads_walk r w n op at walk = elim at.ask [
  | inl first ↦
      record {
        seat = subst (IsOwnSeat r n) first.0 at.seat;
        out = out_walk w.tree.read.phase at.walked w.tree.read.results (subst (λ k. slice_get (slots_with at.walked w.tree.read) k ≡ Some (IsOut None)) first.0 at.out);
        tree = at.tree;
        block = at.block;
        is = first.1;
      }
  | inr body ↦ absurd (subst IsWalk body.1.1 walk)
]

-- the read of a body
pub record DoesBody (r : RequestNode) (w : OwnRead) (n : ℕ) : Type 0 where
  pub number : ℕ
  pub seat : IsOwnSeat r n number
  pub out : IsBodyOut w.tree number
  pub beside : IsBeside number w.body

pub reads_body : (r : RequestNode) (w : OwnRead) (n : ℕ) (op : Task) → ReadsAt r w n op → IsReading op → DoesBody r w n
reads_body r w n op at reads = elim at.ask [
  | inl first ↦ absurd (subst IsReading first.1 reads)
  | inr body ↦ record { number = at.number; seat = at.seat; out = body_out w.tree at.walked at.number body.0 at.out; beside = at.beside }
]

-- none of them is the write of a part
pub reads_no_part : (r : RequestNode) (w : OwnRead) (n : ℕ) (op : Task) → ReadsAt r w n op → IsPart op → ⊥
reads_no_part r w n op at part = elim at.ask [ inl first ↦ subst IsPart first.1 part | inr body ↦ subst IsPart body.1.1 part ]

-- an operation on a leaf is one of the part within
pub reads_leaf : (t : Terms) (r : RequestNode) (st : Stack) (w : OwnRead) (h : IsRequestNode t r st) (n : ℕ) (c : Child) (op : Task) (told : Option (Option Bp))
    → r.own ≡ ReadOwn w → slice_get st.children n ≡ Some c → c.ended ≡ false → SitsAt st c op told → IsReading op → kind_of_task op ≡ Vdev → IsAwaitedAt Within r.family n
reads_leaf t r st w h n c op told is there goes sits reads vdev = by c.seat refl where
  leaf : IsLeafTask op
  leaf = vdev_leaf op vdev reads

  other : ReadsAt r w n op → ⊥
  other at = elim at.ask [
    | inl first ↦ subst IsLeafTask first.1 leaf
    | inr body ↦ subst IsLeafTask body.1.1 leaf
  ]

  by : (seat : SeatOf) → c.seat ≡ seat → IsAwaitedAt Within r.family n
  by (OfOuter m) e = absurd (other (reads_outer t r st w h n c op told m is there sits (reading_none op reads) e))
  by (OfInner m) e = record { number = m; child = c; is = ap (λ (cs : List Child). slice_get cs n) h.family ∙ there; seat = e; goes = goes }

-- ---- a free's

-- the walk over its block's headers is out
pub record DoesFree (r : RequestNode) (w : OwnFree) (n : ℕ) (op : Task) : Type 0 where
  pub seat : IsOwnSeat r n 0
  pub out : w.walk ≡ FreeOut
  pub tree : Tree
  pub is : op ≡ heads_task tree

-- the only one that is asked is out
record IsOnlyOut (op first : Task) (n : ℕ) : Type 0 where
  pub number : n ≡ 0
  pub is : op ≡ first

none_out : (slots : List Slot) (n : ℕ) (told : Option (Option Bp)) → slots ≡ [] → slice_get slots n ≡ Some (IsOut told) → ⊥
none_out slots n told none e =
    let both : None ≡ Some (IsOut told) = ap (λ (xs : List Slot). slice_get xs n) (sym none) ∙ e in cc

one_heard : (v : Value) (slots : List Slot) (n : ℕ) (told : Option (Option Bp)) → slots ≡ Heard v ∷ [] → slice_get slots n ≡ Some (IsOut told) → ⊥
one_heard v slots n told is e = at n (ap (λ (xs : List Slot). slice_get xs n) (sym is) ∙ e) where
  at : (k : ℕ) → slice_get (Heard v ∷ []) k ≡ Some (IsOut told) → ⊥
  at zero f = cc
  at (suc k) f = cc

two_heard : (v u : Value) (slots : List Slot) (n : ℕ) (told : Option (Option Bp)) → slots ≡ Heard v ∷ Heard u ∷ [] → slice_get slots n ≡ Some (IsOut told) → ⊥
two_heard v u slots n told is e = at n (ap (λ (xs : List Slot). slice_get xs n) (sym is) ∙ e) where
  at : (k : ℕ) → slice_get (Heard v ∷ Heard u ∷ []) k ≡ Some (IsOut told) → ⊥
  at zero f = cc
  at (suc zero) f = cc
  at (suc (suc k)) f = cc

only_asked : (first : Task) (asked : List Task) (n : ℕ) (op : Task) → asked ≡ first ∷ [] → slice_get asked n ≡ Some op → IsOnlyOut op first n
only_asked first asked n op is e = at n (ap (λ (xs : List Task). slice_get xs n) (sym is) ∙ e) where
  at : (k : ℕ) → slice_get (first ∷ []) k ≡ Some op → IsOnlyOut op first k
  at zero f = let same : first ≡ op = cc in record { number = refl; is = sym same }
  at (suc k) f = absurd (cc)

free_step : (tree : Tree) (walk : FreeWalk) (asked : List Task) (slots : List Slot) (n : ℕ) (op : Task) (told : Option (Option Bp)) → IsFreeWalk tree walk asked slots
    → slice_get asked n ≡ Some op → slice_get slots n ≡ Some (IsOut told) → (walk ≡ FreeOut) × IsOnlyOut op (heads_task tree) n
free_step tree FreeDue asked slots n op told h a e = absurd (none_out slots n told h.1 e)
free_step tree FreeOut asked slots n op told h a e = (refl, only_asked (heads_task tree) asked n op h.1 a)
free_step tree (FreeEnded error) asked slots n op told h a e = absurd (one_heard _ slots n told h.2 e)

pub frees_at : (t : Terms) (r : RequestNode) (st : Stack) (w : OwnFree) (h : IsRequestNode t r st) (n : ℕ) (c : Child) (op : Task) (told : Option (Option Bp))
    → r.own ≡ FreeOwn w → slice_get st.children n ≡ Some c → SitsAt st c op told → IsNone op → DoesFree r w n op
frees_at t r st w h n c op told is there sits never =
    let own = free_in t r st w h is in
    let outer = alone_outer st c op told own.is.alone sits in
    let s = outer_own t r st h c op told outer.0 outer.1 sits never in
    let asked : slice_get own.is.asked s.number ≡ Some op = ap (λ (xs : List Task). slice_get xs s.number) own.asked_are ∙ s.asked_is in
    let slot : slice_get own.is.slots s.number ≡ Some (IsOut told) = ap (λ (xs : List Slot). slice_get xs s.number) own.slots_are ∙ s.slot_is in
    let step = free_step own.tree w.walk own.is.asked own.is.slots s.number op told own.is.walk asked slot in
    record {
      seat = subst (IsOwnSeat r n) step.1.number (seat_is t r st h n c s.number own.all there s.seat);
      out = step.0;
      tree = own.tree;
      is = step.1.is;
    }

-- ---- a claim's

-- the walk over its block's headers is out
pub record DoesClaim (r : RequestNode) (w : OwnClaim) (n : ℕ) (op : Task) : Type 0 where
  pub seat : IsOwnSeat r n 0
  pub out : w.step ≡ StepOut
  pub tree : Tree
  pub block : w.block ≡ Some tree
  pub is : op ≡ claim_task tree.bp

claim_step : (bp : Bp) (tree : Tree) (step : ClaimStep) (asked : List Task) (slots : List Slot) (n : ℕ) (op : Task) (told : Option (Option Bp)) → IsClaimStep bp tree step asked slots
    → slice_get asked n ≡ Some op → slice_get slots n ≡ Some (IsOut told) → (step ≡ StepOut) × IsOnlyOut op (claim_task bp) n
claim_step bp tree StepDue asked slots n op told h a e = absurd (none_out slots n told h.1 e)
claim_step bp tree StepOut asked slots n op told h a e = (refl, only_asked (claim_task bp) asked n op h.1 a)
claim_step bp tree (Failed x) asked slots n op told h a e = absurd (one_heard _ slots n told h.slots_are e)
claim_step bp tree StepFound asked slots n op told h a e = absurd (one_heard _ slots n told h.slots_are e)
claim_step bp tree Taken asked slots n op told h a e = absurd (two_heard _ _ slots n told h.slots_are e)
claim_step bp tree Refused asked slots n op told h a e = absurd (two_heard _ _ slots n told h.slots_are e)

record ClaimsAt (block : Option Tree) (step : ClaimStep) (n : ℕ) (op : Task) : Type 0 where
  pub number : n ≡ 0
  pub out : step ≡ StepOut
  pub tree : Tree
  pub block_is : block ≡ Some tree
  pub is : op ≡ claim_task tree.bp

claim_at : (pointer : Option Bp) (block : Option Tree) (step : ClaimStep) (asked : List Task) (slots : List Slot) (n : ℕ) (op : Task) (told : Option (Option Bp))
    → IsClaimOf pointer block step asked slots → slice_get asked n ≡ Some op → slice_get slots n ≡ Some (IsOut told) → ClaimsAt block step n op
claim_at None None step asked slots n op told h a e = absurd (none_out slots n told h.1 e)
claim_at None (Some tree) step asked slots n op told h a e = absurd h
claim_at (Some bp) None step asked slots n op told h a e = absurd h
claim_at (Some bp) (Some tree) step asked slots n op told h a e =
    let s = claim_step bp tree step asked slots n op told h.1 a e in
    record { number = s.1.number; out = s.0; tree = tree; block_is = refl; is = s.1.is ∙ ap claim_task (sym h.0) }

pub claims_at : (t : Terms) (r : RequestNode) (st : Stack) (w : OwnClaim) (h : IsRequestNode t r st) (n : ℕ) (c : Child) (op : Task) (told : Option (Option Bp))
    → r.own ≡ ClaimOwn w → slice_get st.children n ≡ Some c → SitsAt st c op told → IsNone op → DoesClaim r w n op
claims_at t r st w h n c op told is there sits never =
    let own = claim_in t r st w h is in
    let outer = alone_outer st c op told own.is.alone sits in
    let s = outer_own t r st h c op told outer.0 outer.1 sits never in
    let asked : slice_get own.is.asked s.number ≡ Some op = ap (λ (xs : List Task). slice_get xs s.number) own.asked_are ∙ s.asked_is in
    let slot : slice_get own.is.slots s.number ≡ Some (IsOut told) = ap (λ (xs : List Slot). slice_get xs s.number) own.slots_are ∙ s.slot_is in
    let at = claim_at (pointer_of own.bytes) w.block w.step own.is.asked own.is.slots s.number op told own.is.claim asked slot in
    record {
      seat = subst (IsOwnSeat r n) at.number (seat_is t r st h n c s.number own.all there s.seat);
      out = at.out;
      tree = at.tree;
      block = at.block_is;
      is = at.is;
    }
