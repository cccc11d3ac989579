-- A node's own work behind other operations of its part: what it asks, does at once, opens, closes, hands out and hears.
use Rattle.std.proofs.Common.{◌≡◌, ℕ, suc, ◌+◌, ◌<◌, List, [], ◌∷◌, ◌++◌, length, set, slice_get, true, false, ◌&&◌, not, Option, Some, None, ◌⊎◌, inl, inr, refl, sym, ap, subst, ◌∙◌, arith, append_assoc, length-append, length-set}
use Rattle.std.specs.List.{AllByRecursion}
use Rattle.zio_types.specs.declared.place.Top.{Top}
use Rattle.zio_types.specs.declared.request.ChildKind.{ChildKind}
use Rattle.zio_types.specs.declared.request.ChildKind.TheVariants.{Gang}
use Rattle.zio_types.specs.declared.request.Phase.TheVariants.{Done}
use Rattle.zio_types.specs.Machine.{same_kind}
use Rattle.zio_blkptr.specs.declared.pointer.Bp.{Bp}
use Rattle.zio_gang.specs.Attempts.{Terms}
use Rattle.zio_trace.specs.Conflicts.{is_single}
use Rattle.zio_trace.specs.Plans.{TaskPlan, plan}
use Rattle.zio_trace.specs.Programs.{Ends, ◌>>=◌}
use Rattle.zio_trace.specs.Tasks.{Task, Value}
use Rattle.zio_frames.specs.Answering.{NextAnswered}
use Rattle.zio_frames.specs.Frames.{Child, Frame, Inner, OfOuter, Seat, Stack, asking, asking_in, fresh_frame, kind_of_task, with_asked, with_slot}
use Rattle.zio_frames.specs.Moves.{AsksNext, Closed, DoesAll, GoesBesideAll, Opened, child_for, closed, done_at_once, handed, heard_of, opened, seat_in, set_at, with_asking}
use Rattle.zio_frames.specs.Seats.{HasSeat, IsInnerSeat, IsSatAt, IsSeated, asked_at}
use Rattle.zio_frames.specs.Slots.{Heard, IsOut, Slot, left_behind_slots, told_in}
use Rattle.zio_frames.proofs.GetLemmas.{all_at}
use Rattle.zio_frames.proofs.SlotMoves.{set_end}
use Rattle.zio_exchange.specs.WithinParts.{IsDoneWithin}
use Rattle.zio_stages.specs.NodeChildren.{is_owing}
use Rattle.zio_stages.specs.OwnParts.{DoesThen, Follows, GoesOnAs, HandsTo, IsBehind, IsOwed}
use Rattle.zio_stages.specs.PartsOut.{ArePartsOut}
use Rattle.zio_stages.proofs.KidAsking.{beside_then}
use Rattle.zio_stages.proofs.NodeIoMoves.{any_at}
use Rattle.zio_stages.proofs.PartsOutLemmas.{beside_parts}
use Rattle.zio_stages.proofs.RequestHears.{set_front}
use Rattle.zio_stages.proofs.Within.{next_within}

-- ---- lists

set_past : {X : Type 0} (xs ys : List X) (n : ℕ) (x : X) → set (xs ++ ys) (length xs + n) x ≡ xs ++ set ys n x
set_past [] ys n x = ap (λ k. set ys k x) (let e : 0 + n ≡ n = omega arith in e)
set_past (y ∷ xs) ys n x =
    ap (λ k. set (y ∷ (xs ++ ys)) k x) (let e : length (y ∷ xs) + n ≡ suc (length xs + n) = omega arith in e) ∙ ap (λ zs. y ∷ zs) (set_past xs ys n x)

pub get_past_front : {X : Type 0} (xs ys : List X) (n : ℕ) → slice_get (xs ++ ys) (length xs + n) ≡ slice_get ys n
get_past_front [] ys n = ap (λ k. slice_get ys k) (let e : 0 + n ≡ n = omega arith in e)
get_past_front (y ∷ xs) ys n =
    ap (λ k. slice_get (y ∷ (xs ++ ys)) k) (let e : length (y ∷ xs) + n ≡ suc (length xs + n) = omega arith in e) ∙ get_past_front xs ys n

-- ---- what it asks

-- what its plan asks next, the part asks next
pub asks_behind : {A : Type 0} (t : Terms) (front_asked : List Task) (front : List Slot) (asked : List Task) (slots : List Slot) (st : Stack) (own : TaskPlan A) (op : Task)
    → IsBehind front_asked front asked slots st → ArePartsOut asked slots → Follows t st.outer.op front own
    → NextAnswered (told_in slots) (left_behind_slots slots own) op → AsksNext t st.outer op
asks_behind t front_asked front asked slots st own op h parts follows next = record {
  next = subst (λ (xs : List Slot). NextAnswered (told_in xs) (left_behind_slots xs (plan t st.outer.op)) op) (sym h.slots_are) (follows slots op next);
  beside =
      subst (λ (qs : List Task). GoesBesideAll op qs st.outer.slots) (sym h.asked_are)
      (subst (λ (xs : List Slot). GoesBesideAll op (front_asked ++ asked) xs) (sym h.slots_are)
      (beside_then op front_asked asked front slots h.full (beside_parts op front_asked front h.parts) (beside_parts op asked slots parts)));
}

-- where only its end is turned into another it asks the same
pub follows_first : {A B : Type 0} (t : Terms) (part : Task) (front : List Slot) (own : TaskPlan A) (f : A → TaskPlan B) → Follows t part front (own >>= f) → Follows t part front own
follows_first t part front own f h = λ slots op next. h slots op (next_within slots own f op next)

-- ---- how its list goes on

pub behind_more : (front_asked : List Task) (front : List Slot) (asked : List Task) (slots : List Slot) (st b : Stack) (op : Task) (slot : Slot)
    → IsBehind front_asked front asked slots st → b.outer ≡ with_asked st.outer op slot → IsBehind front_asked front (asked ++ op ∷ []) (slots ++ slot ∷ []) b
behind_more front_asked front asked slots st b op slot h e = record {
  asked_are = ap (λ (x : Frame). x.asked) e ∙ ap (λ (xs : List Task). xs ++ op ∷ []) h.asked_are ∙ append_assoc front_asked asked (op ∷ []);
  slots_are = ap (λ (x : Frame). x.slots) e ∙ ap (λ (xs : List Slot). xs ++ slot ∷ []) h.slots_are ∙ append_assoc front slots (slot ∷ []);
  full = h.full;
  parts = h.parts;
}

pub behind_set : (front_asked : List Task) (front : List Slot) (asked : List Task) (slots : List Slot) (st b : Stack) (n : ℕ) (slot : Slot)
    → IsBehind front_asked front asked slots st → b.outer ≡ with_slot st.outer (length front + n) slot → IsBehind front_asked front asked (set slots n slot) b
behind_set front_asked front asked slots st b n slot h e = record {
  asked_are = ap (λ (x : Frame). x.asked) e ∙ h.asked_are;
  slots_are = ap (λ (x : Frame). x.slots) e ∙ ap (λ (xs : List Slot). set xs (length front + n) slot) h.slots_are ∙ set_past front slots n slot;
  full = h.full;
  parts = h.parts;
}

pub behind_still : (front_asked : List Task) (front : List Slot) (asked : List Task) (slots : List Slot) (st b : Stack)
    → IsBehind front_asked front asked slots st → b.outer ≡ st.outer → IsBehind front_asked front asked slots b
behind_still front_asked front asked slots st b h e = record {
  asked_are = ap (λ (x : Frame). x.asked) e ∙ h.asked_are;
  slots_are = ap (λ (x : Frame). x.slots) e ∙ h.slots_are;
  full = h.full;
  parts = h.parts;
}

-- one of those in front is so far now
pub behind_front : (front_asked : List Task) (front : List Slot) (asked : List Task) (slots : List Slot) (st b : Stack) (n : ℕ) (slot : Slot) → n < length front
    → IsBehind front_asked front asked slots st → b.outer ≡ with_slot st.outer n slot → ArePartsOut front_asked (set front n slot)
    → IsBehind front_asked (set front n slot) asked slots b
behind_front front_asked front asked slots st b n slot less h e parts = record {
  asked_are = ap (λ (x : Frame). x.asked) e ∙ h.asked_are;
  slots_are = ap (λ (x : Frame). x.slots) e ∙ ap (λ (xs : List Slot). set xs n slot) h.slots_are ∙ set_front front slots n slot less;
  full = h.full ∙ sym (length-set front n slot);
  parts = parts;
}

-- the number of its next operation
pub next_number : (front_asked : List Task) (front : List Slot) (asked : List Task) (slots : List Slot) (st : Stack)
    → IsBehind front_asked front asked slots st → length st.outer.slots ≡ length front + length slots
next_number front_asked front asked slots st h = ap length h.slots_are ∙ length-append front slots

-- ---- what it does itself

-- a part within opens and closes at once where its plan asks nothing
pub does_at_once : (t : Terms) (st : Stack) (op : Task) (v : Value) → st.inner ≡ None → is_single op ≡ false → AsksNext t st.outer op → plan t op ≡ Ends v
    → DoesAll t (Opened op ∷ Closed v ∷ []) st (done_at_once st op v)
does_at_once t st op v alone part asks ends =
    let i : Inner = record { number = length st.outer.slots; frame = fresh_frame op } in
    let last : set (st.outer.slots ++ IsOut None ∷ []) (length st.outer.slots) (Heard v) ≡ st.outer.slots ++ Heard v ∷ [] = set_end st.outer.slots (IsOut None) (Heard v) in
    let same : done_at_once st op v ≡ closed (opened st op) i v =
    λ j. record { outer = record { op = st.outer.op; asked = st.outer.asked ++ op ∷ []; slots = sym last j }; inner = None; children = st.children } in
    (opened st op, (alone, part, asks, refl), (closed (opened st op) i v, (i, refl, refl, ends, refl), same))

-- the first operation of its own, that the part does within and at once
pub first_at_once : {A : Type 0} (t : Terms) (tops : List Top) (own : TaskPlan A) (front_asked : List Task) (front : List Slot) (st : Stack) (op : Task) (v : Value) (IsAfter : Stack → Type 0)
    → GoesOnAs t tops own front st → IsBehind front_asked front [] [] st → st.inner ≡ None → is_single op ≡ false
    → IsDoneWithin op → NextAnswered [] own op → plan t op ≡ Ends v
    → ((b : Stack) → IsBehind front_asked front (op ∷ []) (Heard v ∷ []) b → b.inner ≡ None → b.children ≡ st.children → IsAfter b)
    → DoesThen t st [] IsAfter
first_at_once t tops own front_asked front st op v IsAfter goes behind alone part within next ends after =
    let asks : AsksNext t st.outer op = asks_behind t front_asked front [] [] st own op behind tt goes.follows next in
    record {
      dids = Opened op ∷ Closed v ∷ [];
      stack = done_at_once st op v;
      does = does_at_once t st op v alone part asks ends;
      opens = (within, (tt, tt));
      calls_are = refl;
      after = after (done_at_once st op v) (behind_more front_asked front [] [] st (done_at_once st op v) op (Heard v) behind refl) refl refl;
    }

-- nothing was done
pub does_nothing : (t : Terms) (st : Stack) (IsAfter : Stack → Type 0) → IsAfter st → DoesThen t st [] IsAfter
does_nothing t st IsAfter h = record { dids = []; stack = st; does = refl; opens = tt; calls_are = refl; after = h }

-- ---- what it hands out

pub handed_outer : (st : Stack) (op : Task) → st.inner ≡ None → (handed st op).outer ≡ with_asked st.outer op (IsOut None)
handed_outer st op e = ap (λ (i : Option Inner). (with_asking st i op).outer) e

pub handed_inner : (st : Stack) (op : Task) → st.inner ≡ None → (handed st op).inner ≡ None
handed_inner st op e = ap (λ (i : Option Inner). (with_asking st i op).inner) e

pub handed_children : (st : Stack) (op : Task) → st.inner ≡ None → (handed st op).children ≡ st.children ++ child_for (OfOuter (length st.outer.slots)) op ∷ []
handed_children st op e = ap (λ (i : Option Inner). st.children ++ child_for (seat_in st.outer i) op ∷ []) e

pub asking_outer : (st : Stack) → st.inner ≡ None → asking st ≡ st.outer
asking_outer st e = ap (λ (i : Option Inner). asking_in st.outer i) e

pub hands_to : (t : Terms) (st : Stack) (op : Task) (kind : ChildKind) (IsChild : Task → Type 0) (IsAfter : Stack → Type 0) → st.inner ≡ None
    → is_single st.outer.op ≡ false → AsksNext t st.outer op → kind_of_task op ≡ kind → IsChild op → IsAfter (handed st op) → HandsTo t kind IsChild IsAfter st
hands_to t st op kind IsChild IsAfter alone part asks of_kind child after = record {
  op = op;
  part = ap (λ (x : Frame). is_single x.op) (asking_outer st alone) ∙ part;
  asks = subst (λ (x : Frame). AsksNext t x op) (sym (asking_outer st alone)) asks;
  of_kind = of_kind;
  child_is = child;
  after = after;
}

-- ---- what it hears

pub heard_outer : (st : Stack) (k n : ℕ) (c : Child) (v : Value) → c.seat ≡ OfOuter n → (heard_of st k c v).outer ≡ with_slot st.outer n (Heard v)
heard_outer st k n c v e = ap (λ (s : Seat). (set_at st s (Heard v)).outer) e

pub heard_inner : (st : Stack) (k n : ℕ) (c : Child) (v : Value) → c.seat ≡ OfOuter n → (heard_of st k c v).inner ≡ st.inner
heard_inner st k n c v e = ap (λ (s : Seat). (set_at st s (Heard v)).inner) e

-- ---- what it waits for

-- one of them is out
pub record IsOneOut (asked : List Task) (slots : List Slot) : Type 0 where
  pub number : ℕ
  pub op : Task
  pub told : Option (Option Bp)
  pub asked_is : slice_get asked number ≡ Some op
  pub slot_is : slice_get slots number ≡ Some (IsOut told)

pub one_out : (asked : List Task) (slots : List Slot) → length asked ≡ length slots → 0 < length (told_in slots) → IsOneOut asked slots
one_out [] [] e some = absurd (omega arith)
one_out [] (s ∷ slots) e some = absurd (omega arith)
one_out (q ∷ asked) [] e some = absurd (omega arith)
one_out (q ∷ asked) (IsOut told ∷ slots) e some = record { number = 0; op = q; told = told; asked_is = refl; slot_is = refl }
one_out (q ∷ asked) (Heard v ∷ slots) e some =
    let h : IsOneOut asked slots = one_out asked slots (omega arith) some in
    record { number = suc h.number; op = h.op; told = h.told; asked_is = h.asked_is; slot_is = h.slot_is }

owes_gang : (child : Child) → child.kind ≡ Gang → child.ended ≡ false → is_owing Gang Done child ≡ true
owes_gang child kind goes = λ i. same_kind (kind i) Gang && not (goes i)

not_within : (st : Stack) (n : ℕ) → st.inner ≡ None → IsInnerSeat st.inner (OfOuter n) → ⊥
not_within st n e h = subst (λ (i : Option Inner). IsInnerSeat i (OfOuter n)) e h

-- a gang child does one of its operations that are out
pub owed_behind : (front_asked : List Task) (front : List Slot) (asked : List Task) (slots : List Slot) (st : Stack) → IsSeated st → st.inner ≡ None
    → IsBehind front_asked front asked slots st → AllByRecursion (λ (q : Task). kind_of_task q ≡ Gang) asked → length asked ≡ length slots → 0 < length (told_in slots)
    → IsOwed Gang Done st
owed_behind front_asked front asked slots st seated alone h gangs full some = by (seated.all (OfOuter n) out.told slot)
  where
    out : IsOneOut asked slots
    out = one_out asked slots full some

    n : ℕ
    n = length front + out.number

    slot : slice_get st.outer.slots n ≡ Some (IsOut out.told)
    slot = ap (λ (xs : List Slot). slice_get xs n) h.slots_are ∙ get_past_front front slots out.number ∙ out.slot_is

    asked_there : slice_get st.outer.asked n ≡ Some out.op
    asked_there =
        ap (λ (k : ℕ). slice_get st.outer.asked (k + out.number)) (sym h.full)
        ∙ ap (λ (xs : List Task). slice_get xs (length front_asked + out.number)) h.asked_are ∙ get_past_front front_asked asked out.number ∙ out.asked_is

    sat : IsSatAt st (OfOuter n) → IsOwed Gang Done st
    sat s =
        let sits = all_at (HasSeat st) st.children s.number s.child seated.each s.is s.goes in
        let same : Some sits.0 ≡ Some out.op = sym sits.2.asked ∙ ap (asked_at st) s.there ∙ asked_there in
        let op_is : sits.0 ≡ out.op = cc in
        let kind : s.child.kind ≡ Gang = sits.2.kind ∙ ap kind_of_task op_is ∙ all_at (λ (q : Task). kind_of_task q ≡ Gang) asked out.number out.op gangs out.asked_is in
        any_at (is_owing Gang Done) st.children s.number s.child s.is (owes_gang s.child kind s.goes)

    by : IsInnerSeat st.inner (OfOuter n) ⊎ IsSatAt st (OfOuter n) → IsOwed Gang Done st
    by (inl i) = absurd (not_within st n alone i)
    by (inr s) = sat s
