-- The walk over headers as a node: it begins, hands out, waits and hears.
use Rattle.std.proofs.Common.{◌≡◌, ◌≢◌, ℕ, zero, suc, ◌<◌, List, [], ◌∷◌, ◌++◌, length, map, set, slice_get, slice_set, Bool, true, false, not, ◌&&◌, Option, Some, None, ◌⊎◌, inl, inr, refl, sym, ap, subst, ◌∙◌, arith}
use Rattle.std.proofs.lemmas.List.{length-map}
use Rattle.zio_types.specs.declared.request.ChildKind.{ChildKind}
use Rattle.zio_types.specs.declared.request.ChildKind.TheVariants.{Gang}
use Rattle.zio_types.specs.declared.request.Phase.TheVariants.{Done}
use Rattle.zio_types.specs.declared.place.Top.{Top}
use Rattle.zio_types.specs.Machine.{same_kind}
use Rattle.zio_blkptr.specs.declared.pointer.Bp.{Bp}
use Rattle.zio_gang.specs.Attempts.{Terms}
use Rattle.zio_trace.specs.Conflicts.{is_single}
use Rattle.zio_trace.specs.Leaves.{Answer}
use Rattle.zio_trace.specs.Plans.{TaskPlan, head_task, plan}
use Rattle.zio_trace.specs.Tasks.{ByClaim, ByKept, Look, Task, Value, Walked}
use Rattle.zio_frames.specs.Answering.{NextAnswered}
use Rattle.zio_frames.specs.Frames.{Child, Frame, Inner, OfInner, OfOuter, Seat as SeatOf, Stack, kind_of_task, left_of, needs_none, with_asked, with_slot}
use Rattle.zio_frames.specs.Moves.{AsksNext, GoesBesideAll, child_ended, child_told, heard_early, heard_of, set_at}
use Rattle.zio_frames.specs.Seats.{HasSeat, IsInnerSeat, IsSatAt, IsSeated, ShowsTold, SitsAt, asked_at, slot_at}
use Rattle.zio_frames.specs.Slots.{Heard, IsOut, Slot, told_in}
use Rattle.zio_frames.proofs.GetLemmas.{all_at, get_either, get_exchanged}
use Rattle.zio_parts.specs.HeadWalks.{look_of, member_slot, named_by, slots_of, walk_slots}
use Rattle.zio_parts.specs.declared.head_walk.Header.{Header}
use Rattle.zio_parts.specs.declared.head_walk.Header.TheVariants.{Unread, Out, Failed, Read}
use Rattle.zio_exchange.specs.Outcomes.{ClaimsInside, IsReading, IsWalk}
use Rattle.zio_stages.specs.HeadsNodes.{HearsBelow, HearsHead, IsHeadsNode, with_slots}
use Rattle.zio_stages.specs.HeadsWorks.{IsAskedOf, IsHeadsWork, read_task, walk_task}
use Rattle.zio_stages.specs.NodeChildren.{is_owing, new_child}
use Rattle.zio_stages.specs.OwnParts.{HandsTo, HearsValue, IsOwed, ToldSince}
use Rattle.zio_stages.specs.declared.heads.HeadRead.{HeadRead}
use Rattle.zio_stages.specs.declared.heads.HeadRead.TheVariants.{Kept, Claimed}
use Rattle.zio_stages.specs.declared.heads.HeadsWork.{HeadsWork}
use Rattle.zio_stages.specs.declared.heads_node.HeadsNode.{HeadsNode}
use Rattle.zio_stages.proofs.NodeIoMoves.{any_at, some_out}
use Rattle.zio_stages.proofs.RequestSits.{get_within}
use Rattle.zio_stages.proofs.ToldLemmas.{next_since, none_since, since_count, since_left, since_length, since_out, since_set, since_told}

-- ---- it hands out

-- a stack with nothing within
abbrev flat : Frame → List Child → Stack
flat outer children = record { outer = outer; inner = None; children = children }

flat_is : (st : Stack) → st.inner ≡ None → flat st.outer st.children ≡ st
flat_is st e = λ i. record { outer = st.outer; inner = sym e i; children = st.children }

single_walk : (look : Look) (w : HeadsWork) (op : Task) → op ≡ walk_task look w → is_single op ≡ false
single_walk look w op e = ap is_single e

beside_since : (op : Task) (asked : List Task) (xs ys : List Slot) → ToldSince xs ys → GoesBesideAll op asked xs → GoesBesideAll op asked ys
beside_since op [] xs ys h b = tt
beside_since op (q ∷ asked) [] [] h b = tt
beside_since op (q ∷ asked) [] (y ∷ ys) h b = absurd h
beside_since op (q ∷ asked) (x ∷ xs) [] h b = absurd h
beside_since op (q ∷ asked) (Heard v ∷ xs) (Heard w ∷ ys) h b = beside_since op asked xs ys h.1 b
beside_since op (q ∷ asked) (Heard v ∷ xs) (IsOut told ∷ ys) h b = absurd h
beside_since op (q ∷ asked) (IsOut out ∷ xs) (Heard w ∷ ys) h b = absurd h
beside_since op (q ∷ asked) (IsOut None ∷ xs) (IsOut told ∷ ys) h b = (b.0, beside_since op asked xs ys h b.1)
beside_since op (q ∷ asked) (IsOut (Some pointer) ∷ xs) (IsOut told ∷ ys) h b = (b.0, beside_since op asked xs ys h.1 b.1)

-- what is asked next is so too where some told since
asks_told : (t : Terms) (x : Frame) (begun : List Slot) (op : Task) → ToldSince begun x.slots → AsksNext t (with_slots x begun) op → AsksNext t x op
asks_told t x begun op since asks = record {
  next = subst (λ (p : TaskPlan Value). NextAnswered (told_in x.slots) p op) (sym (since_left begun x.slots (plan t x.op) since))
      (next_since begun x.slots (left_of t (with_slots x begun)) op since asks.next);
  beside = beside_since op x.asked begun x.slots since asks.beside;
}

-- what it is of a walk, where one more is handed out
hands_flat : (t : Terms) (old new : HeadsNode) (IsChild : Task → Type 0) (op : Task) (o : Frame) (cs : List Child) (h : IsHeadsNode t old (flat o cs))
    → AsksNext t (with_slots o h.begun) op → kind_of_task op ≡ Gang → IsChild op → IsHeadsWork t new.work (with_asked (with_slots o h.begun) op (IsOut None))
    → new.family ≡ old.family ++ new_child (OfOuter (length h.begun)) Gang ∷ []
    → ((n : ℕ) (q : Task) (left : Walked) → slice_get (o.asked ++ op ∷ []) (suc n) ≡ Some q → slice_get new.work.walk.members n ≡ Some (Some left) → ClaimsInside t q left)
    → HandsTo t Gang IsChild (IsHeadsNode t new) (flat o cs)
hands_flat t old new IsChild op o cs h asks kind child part family inside = record {
  op = op;
  part = single_walk (look_of old.work.walk.claim h.part.heads) old.work o.op h.part.op;
  asks = asks_told t o h.begun op h.since asks;
  of_kind = kind;
  child_is = child;
  after = record {
    children = family ∙ ap (λ (xs : List Child). xs ++ new_child (OfOuter (length h.begun)) Gang ∷ []) h.children
        ∙ ap (λ (n : ℕ). cs ++ new_child (OfOuter n) Gang ∷ []) (since_length h.begun o.slots h.since)
        ∙ ap (λ (k : ChildKind). cs ++ new_child (OfOuter (length o.slots)) k ∷ []) (sym kind);
    alone = refl;
    begun = h.begun ++ IsOut None ∷ [];
    since = since_out h.begun o.slots h.since;
    part = part;
    inside = inside;
  };
}

pub hands : (t : Terms) (old new : HeadsNode) (IsChild : Task → Type 0) (op : Task) (st : Stack) (h : IsHeadsNode t old st)
    → AsksNext t (with_slots st.outer h.begun) op → kind_of_task op ≡ Gang → IsChild op → IsHeadsWork t new.work (with_asked (with_slots st.outer h.begun) op (IsOut None))
    → new.family ≡ old.family ++ new_child (OfOuter (length h.begun)) Gang ∷ []
    → ((n : ℕ) (q : Task) (left : Walked) → slice_get (st.outer.asked ++ op ∷ []) (suc n) ≡ Some q → slice_get new.work.walk.members n ≡ Some (Some left) → ClaimsInside t q left)
    → HandsTo t Gang IsChild (IsHeadsNode t new) st
hands t old new IsChild op st h asks kind child part family inside =
    let same : flat st.outer st.children ≡ st = flat_is st h.alone in
    subst (λ (s : Stack). HandsTo t Gang IsChild (IsHeadsNode t new) s) same
    (hands_flat t old new IsChild op st.outer st.children
    (record { children = h.children; alone = refl; begun = h.begun; since = h.since; part = h.part; inside = h.inside }) asks kind child part family inside)

-- nothing stands before the header's read
pub inside_first : (t : Terms) (asked : List Task) (op : Task) (members : List (Option Walked)) → length asked ≡ 0
    → (n : ℕ) (q : Task) (left : Walked) → slice_get (asked ++ op ∷ []) (suc n) ≡ Some q → slice_get members n ≡ Some (Some left) → ClaimsInside t q left
inside_first t [] op members none n q left e is = absurd (cc)
inside_first t (x ∷ asked) op members none n q left e is = absurd (omega (arith, none))

-- what was heard was asked before
pub inside_more : (t : Terms) (asked : List Task) (op : Task) (members : List (Option Walked)) → length asked ≡ suc (length members)
    → ((n : ℕ) (q : Task) (left : Walked) → slice_get asked (suc n) ≡ Some q → slice_get members n ≡ Some (Some left) → ClaimsInside t q left)
    → (n : ℕ) (q : Task) (left : Walked) → slice_get (asked ++ op ∷ []) (suc n) ≡ Some q → slice_get (members ++ None ∷ []) n ≡ Some (Some left) → ClaimsInside t q left
inside_more t asked op members many h n q left e is = by (get_either members None (Some left) n is) (get_either asked op q (suc n) e)
  where
    by : (slice_get members n ≡ Some (Some left)) ⊎ ((n ≡ length members) × (◌≡◌ {A = Option Walked} None (Some left)))
        → (slice_get asked (suc n) ≡ Some q) ⊎ ((suc n ≡ length asked) × (op ≡ q)) → ClaimsInside t q left
    by (inr last) other = absurd (let no : ◌≡◌ {A = Option Walked} None (Some left) = last.1 in cc)
    by (inl old) (inl was) = h n q left was old
    by (inl old) (inr new) = absurd (let l : n < length members = get_within members n (Some left) old in omega (arith, many, new.0))

-- ---- it waits

head_kind : (look : Look) (path : List ℕ) (bp : Bp) → kind_of_task (head_task look path bp) ≡ Gang
head_kind (ByKept heads) path bp = refl
head_kind ByClaim path bp = refl

asked_kind : (look : Look) (path : List ℕ) (bp : Bp) (members : List Bp) (n : ℕ) (op : Task) → IsAskedOf look path bp members n op → kind_of_task op ≡ Gang
asked_kind look path bp members zero op h = ap kind_of_task h ∙ head_kind look path bp
asked_kind look path bp members (suc n) op h = ap kind_of_task h.is

owes_done : (kind : ChildKind) (ended : Bool) → kind ≡ Gang → ended ≡ false → same_kind kind Gang && not ended ≡ true
owes_done kind ended e f = ap (λ (k : ChildKind). same_kind k Gang && not ended) e ∙ ap (λ b. not b) f

not_within : (inner : Option Inner) (seat : SeatOf) → inner ≡ None → IsInnerSeat inner seat → ⊥
not_within inner seat e h = subst (λ (i : Option Inner). IsInnerSeat i seat) e h

pub gang_owed : (t : Terms) (node : HeadsNode) (st : Stack) → (h : IsHeadsNode t node st) → IsSeated st → 0 < length (told_in h.begun) → IsOwed Gang Done st
gang_owed t node st h seated some = by (seated.all (OfOuter out.0) out.1 out.2)
  where
    out : (n : ℕ) × (told : Option (Option Bp)) × (slice_get st.outer.slots n ≡ Some (IsOut told))
    out = some_out st.outer.slots (omega (arith, some, since_count h.begun st.outer.slots h.since))

    by : IsInnerSeat st.inner (OfOuter out.0) ⊎ IsSatAt st (OfOuter out.0) → IsOwed Gang Done st
    by (inl i) = absurd (not_within st.inner (OfOuter out.0) h.alone i)
    by (inr s) =
        let sits = all_at (HasSeat st) st.children s.number s.child seated.each s.is s.goes in
        let op : Task = sits.0 in
        let asked : slice_get st.outer.asked out.0 ≡ Some op = ap (asked_at st) (sym s.there) ∙ sits.2.asked in
        let kind : s.child.kind ≡ Gang =
        sits.2.kind ∙ asked_kind (look_of node.work.walk.claim h.part.heads) node.work.walk.path node.work.walk.bp (named_by node.work.walk.header) out.0 op (h.part.asked out.0 op asked) in
        any_at (is_owing Gang Done) st.children s.number s.child s.is (owes_done s.child.kind s.child.ended kind s.goes)

-- ---- it hears

out_none : (header : Header) (members : List (Option Walked)) (k : ℕ) (told : Option (Option Bp)) → slice_get (walk_slots header members) k ≡ Some (IsOut told)
    → slice_get (walk_slots header members) k ≡ Some (IsOut None)
out_none Unread members k told e = absurd (cc)
out_none Out members zero told e = refl
out_none Out members (suc k) told e = absurd (cc)
out_none (Failed f) members zero told e = absurd (cc)
out_none (Failed f) members (suc k) told e = absurd (cc)
out_none (Read bytes) members zero told e = absurd (cc)
out_none (Read bytes) members (suc k) told e = below members k e
  where
    below : (ms : List (Option Walked)) (n : ℕ) → slice_get (map member_slot ms) n ≡ Some (IsOut told) → slice_get (map member_slot ms) n ≡ Some (IsOut None)
    below [] n e = absurd (cc)
    below (None ∷ ms) zero e = refl
    below (Some w ∷ ms) zero e = absurd (cc)
    below (x ∷ ms) (suc n) e = below ms n e

-- what is out now was out before
out_since : (xs ys : List Slot) (n : ℕ) (told : Option (Option Bp)) → ToldSince xs ys → slice_get ys n ≡ Some (IsOut told)
    → (before : Option (Option Bp)) × (slice_get xs n ≡ Some (IsOut before))
out_since [] [] n told h e = absurd (cc)
out_since [] (y ∷ ys) n told h e = absurd h
out_since (x ∷ xs) [] n told h e = absurd h
out_since (Heard v ∷ xs) (Heard w ∷ ys) zero told h e = absurd (cc)
out_since (Heard v ∷ xs) (Heard w ∷ ys) (suc n) told h e = out_since xs ys n told h.1 e
out_since (Heard v ∷ xs) (IsOut now ∷ ys) n told h e = absurd h
out_since (IsOut out ∷ xs) (Heard w ∷ ys) n told h e = absurd h
out_since (IsOut None ∷ xs) (IsOut now ∷ ys) zero told h e = (None, refl)
out_since (IsOut None ∷ xs) (IsOut now ∷ ys) (suc n) told h e = out_since xs ys n told h e
out_since (IsOut (Some pointer) ∷ xs) (IsOut now ∷ ys) zero told h e = (Some pointer, refl)
out_since (IsOut (Some pointer) ∷ xs) (IsOut now ∷ ys) (suc n) told h e = out_since xs ys n told h.1 e

-- where its child sits, which has that operation
pub record Sits (node : HeadsNode) (st : Stack) (c : Child) (op : Task) : Type 0 where
  pub number : ℕ
  pub seat : c.seat ≡ OfOuter number
  pub out : slice_get (slots_of node.work.walk) number ≡ Some (IsOut None)
  pub asked : slice_get st.outer.asked number ≡ Some op

no_inner : (st : Stack) (n : ℕ) (told : Option (Option Bp)) → st.inner ≡ None → slot_at st (OfInner n) ≡ Some (IsOut told) → ⊥
no_inner st n told e h = by st.inner e h where
  by : (i : Option Inner) → i ≡ None → slot_at (record { outer = st.outer; inner = i; children = st.children }) (OfInner n) ≡ Some (IsOut told) → ⊥
  by None e h = cc
  by (Some i) e h = cc

pub sits : (t : Terms) (tops : List Top) (node : HeadsNode) (st : Stack) (n : ℕ) (c : Child) (op : Task) (v : Value) → IsHeadsNode t node st → HearsValue t tops st n c op v → Sits node st c op
sits t tops node st n c op v h hears = by (all_at (HasSeat st) st.children n c hears.seated.each hears.there hears.goes)
  where
    sit : (seat : SeatOf) (told : Option (Option Bp)) → c.seat ≡ seat → slot_at st seat ≡ Some (IsOut told) → asked_at st seat ≡ Some op → Sits node st c op
    sit (OfInner k) told e slot asked = absurd (no_inner st k told h.alone slot)
    sit (OfOuter k) told e slot asked = record {
      number = k;
      seat = e;
      out = let before = out_since h.begun st.outer.slots k told h.since slot in
          out_none node.work.walk.header node.work.walk.members k before.0 (ap (λ (xs : List Slot). slice_get xs k) (sym h.part.slots) ∙ before.1);
      asked = asked;
    }

    by : (q : Task) × (told : Option (Option Bp)) × SitsAt st c q told → Sits node st c op
    by (q, told, s) = sit c.seat told refl s.slot hears.asked

-- a read of copies is that of the header
first_read : (look : Look) (path : List ℕ) (bp : Bp) (members : List Bp) (n : ℕ) (op : Task) → IsAskedOf look path bp members n op → IsReading op → (n ≡ 0) × (op ≡ head_task look path bp)
first_read look path bp members zero op h r = (refl, h)
first_read look path bp members (suc n) op h r = absurd (subst IsReading h.is r)

-- and a walk that below a member
not_head : (look : Look) (path : List ℕ) (bp : Bp) → IsWalk (head_task look path bp) → ⊥
not_head (ByKept heads) path bp h = h
not_head ByClaim path bp h = h

later_walk : (look : Look) (path : List ℕ) (bp : Bp) (members : List Bp) (n : ℕ) (op : Task) → IsAskedOf look path bp members n op → IsWalk op → 0 < n
later_walk look path bp members zero op h w = absurd (not_head look path bp (subst IsWalk h w))
later_walk look path bp members (suc n) op h w = omega arith

-- the child that reads the header
pub record SitsFirst (t : Terms) (node : HeadsNode) (st : Stack) (c : Child) (op : Task) (h : IsHeadsNode t node st) : Type 0 where
  pub seat : c.seat ≡ OfOuter 0
  pub out : slice_get (slots_of node.work.walk) 0 ≡ Some (IsOut None)
  pub task : op ≡ head_task (look_of node.work.walk.claim h.part.heads) node.work.walk.path node.work.walk.bp

pub sits_first : (t : Terms) (tops : List Top) (node : HeadsNode) (st : Stack) (n : ℕ) (c : Child) (op : Task) (v : Value) (found : Answer) (h : HearsHead t tops node st n c op v found) → SitsFirst t node st c op h.node_is
sits_first t tops node st n c op v found h =
    let s : Sits node st c op = sits t tops node st n c op v h.node_is h.hears in
    let w = node.work.walk in
    let first = first_read (look_of w.claim h.node_is.part.heads) w.path w.bp (named_by w.header) s.number op (h.node_is.part.asked s.number op s.asked) h.of_op in
    record {
      seat = s.seat ∙ ap OfOuter first.0;
      out = ap (λ k. slice_get (slots_of w) k) (sym first.0) ∙ s.out;
      task = first.1;
    }

-- a child that walks below a member
pub record SitsLater (node : HeadsNode) (st : Stack) (c : Child) (op : Task) : Type 0 where
  pub sits : Sits node st c op
  pub later : 0 < sits.number

pub sits_later : (t : Terms) (tops : List Top) (node : HeadsNode) (st : Stack) (n : ℕ) (c : Child) (op : Task) (v : Value) (left : Walked) → HearsBelow t tops node st n c op v left → SitsLater node st c op
sits_later t tops node st n c op v left h =
    let s : Sits node st c op = sits t tops node st n c op v h.node_is h.hears in
    let w = node.work.walk in
    record {
      sits = s;
      later = later_walk (look_of w.claim h.node_is.part.heads) w.path w.bp (named_by w.header) s.number op (h.node_is.part.asked s.number op s.asked) h.of_op;
    }

-- its operation is heard
pub heard_at : (t : Terms) (old new : HeadsNode) (st : Stack) (child k : ℕ) (c : Child) (v : Value) (h : IsHeadsNode t old st) → c.seat ≡ OfOuter k
    → new.family ≡ slice_set old.family child (child_ended c) → IsHeadsWork t new.work (with_slot (with_slots st.outer h.begun) k (Heard v))
    → ((n : ℕ) (op : Task) (left : Walked) → slice_get st.outer.asked (suc n) ≡ Some op → slice_get new.work.walk.members n ≡ Some (Some left) → ClaimsInside t op left)
    → IsHeadsNode t new (heard_of st child c v)
heard_at t old new st child k c v h seat family part inside =
    let P : SeatOf → Type 0 = λ s. IsHeadsNode t new (record { outer = (set_at st s (Heard v)).outer; inner = (set_at st s (Heard v)).inner; children = slice_set st.children child (child_ended c) }) in
    subst P (sym seat) (record {
      children = family ∙ ap (λ (cs : List Child). slice_set cs child (child_ended c)) h.children;
      alone = h.alone;
      begun = slice_set h.begun k (Heard v);
      since = since_set h.begun st.outer.slots k v h.since;
      part = part;
      inside = inside;
    })

-- its child told, and nothing else of it changed
pub told_at : (t : Terms) (old new : HeadsNode) (st : Stack) (child k : ℕ) (c : Child) (pointer : Option Bp) (h : IsHeadsNode t old st) → c.seat ≡ OfOuter k
    → slice_get st.outer.slots k ≡ Some (IsOut None) → new.work ≡ old.work → new.family ≡ slice_set old.family child (child_told c)
    → IsHeadsNode t new (heard_early st child c pointer)
told_at t old new st child k c pointer h seat out work family =
    let P : SeatOf → Type 0 = λ s. IsHeadsNode t new (record { outer = (set_at st s (IsOut (Some pointer))).outer; inner = (set_at st s (IsOut (Some pointer))).inner; children = slice_set st.children child (child_told c) }) in
    subst P (sym seat) (record {
      children = family ∙ ap (λ (cs : List Child). slice_set cs child (child_told c)) h.children;
      alone = h.alone;
      begun = h.begun;
      since = since_told h.begun st.outer.slots k pointer (none_since h.begun st.outer.slots k h.since out) h.since;
      part = subst (λ (w : HeadsWork). IsHeadsWork t w (with_slots st.outer h.begun)) (sym work) h.part;
      inside = subst (λ (w : HeadsWork). (n : ℕ) (op : Task) (left : Walked) → slice_get st.outer.asked (suc n) ≡ Some op → slice_get w.walk.members n ≡ Some (Some left) → ClaimsInside t op left) (sym work) h.inside;
    })

-- where a child sits that told nothing
pub record SitsUntold (st : Stack) (c : Child) : Type 0 where
  pub number : ℕ
  pub seat : c.seat ≡ OfOuter number
  pub out : slice_get st.outer.slots number ≡ Some (IsOut None)

untold_none : (told : Option (Option Bp)) (needs : Bool) → ShowsTold needs false told → told ≡ None
untold_none None needs h = refl
untold_none (Some pointer) true h = absurd h
untold_none (Some pointer) false h = absurd h

pub sits_untold : (t : Terms) (node : HeadsNode) (st : Stack) (n : ℕ) (c : Child) → IsHeadsNode t node st → IsSeated st → slice_get st.children n ≡ Some c
    → c.ended ≡ false → c.told ≡ false → SitsUntold st c
sits_untold t node st n c h seated there goes untold = by (all_at (HasSeat st) st.children n c seated.each there goes)
  where
    sit : (seat : SeatOf) (told : Option (Option Bp)) → c.seat ≡ seat → slot_at st seat ≡ Some (IsOut told) → told ≡ None → SitsUntold st c
    sit (OfInner k) told e slot none = absurd (no_inner st k told h.alone slot)
    sit (OfOuter k) told e slot none = record { number = k; seat = e; out = slot ∙ ap (λ (o : Option (Option Bp)). Some (IsOut o)) none }

    by : (q : Task) × (told : Option (Option Bp)) × SitsAt st c q told → SitsUntold st c
    by (q, told, s) =
        sit c.seat told refl s.slot (untold_none told (needs_none c.kind) (subst (λ (b : Bool). ShowsTold (needs_none c.kind) b told) untold s.shows))

-- the walk below a member is, with what it left
pub inside_heard : (t : Terms) (asked : List Task) (members : List (Option Walked)) (k : ℕ) (op : Task) (walked : Walked) → slice_get asked (suc k) ≡ Some op → ClaimsInside t op walked
    → ((n : ℕ) (q : Task) (left : Walked) → slice_get asked (suc n) ≡ Some q → slice_get members n ≡ Some (Some left) → ClaimsInside t q left)
    → (n : ℕ) (q : Task) (left : Walked) → slice_get asked (suc n) ≡ Some q → slice_get (set members k (Some walked)) n ≡ Some (Some left) → ClaimsInside t q left
inside_heard t asked members k op walked at now h n q left e is = by (get_exchanged members k n (Some walked) (Some left) is)
  where
    by : ((n ≡ k) × (Some walked ≡ Some left)) ⊎ ((n ≢ k) × (slice_get members n ≡ Some (Some left))) → ClaimsInside t q left
    by (inr old) = h n q left e old.1
    by (inl new) =
        let there : slice_get asked (suc k) ≡ Some q = ap (λ m. slice_get asked (suc m)) (sym new.0) ∙ e in
        let same : op ≡ q = let both : Some op ≡ Some q = sym at ∙ there in cc in
        let mine : walked ≡ left = let both : Some walked ≡ Some left = new.1 in cc in
        subst (λ (w : Walked). ClaimsInside t q w) mine (subst (λ (x : Task). ClaimsInside t x walked) same now)

-- ---- numbers

pub read_kind : (r : HeadRead) → kind_of_task (read_task r) ≡ Gang
read_kind (Kept bp bytes) = refl
read_kind (Claimed bp) = refl

-- behind a header that was read stand as many as were handed out
pub member_slots : (header : Header) (members : List (Option Walked)) → 0 < length (named_by header) → length (walk_slots header members) ≡ suc (length members)
member_slots Unread members some = absurd (omega arith)
member_slots Out members some = absurd (omega arith)
member_slots (Failed e) members some = absurd (omega arith)
member_slots (Read bytes) members some = ap suc (length-map members member_slot)

-- the child in the family
pub known : (t : Terms) (tops : List Top) (node : HeadsNode) (st : Stack) (n : ℕ) (c : Child) (op : Task) (v : Value) → IsHeadsNode t node st → HearsValue t tops st n c op v → slice_get node.family n ≡ Some c
known t tops node st n c op v h hears = ap (λ (cs : List Child). slice_get cs n) h.children ∙ hears.there
