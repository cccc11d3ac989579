-- The write of a part behind other operations of a node's part: what it asks, what the space answers, and its own write as
-- the part within.
use Rattle.std.proofs.Common.{◌≡◌, ℕ, zero, suc, ◌+◌, List, [], ◌∷◌, ◌++◌, length, map, set, slice_get, false, Option, Some, None, refl, sym, ap, subst, ◌∙◌, arith, append_assoc, length-append}
use Rattle.std.proofs.lemmas.Bool.{false≢true}
use Rattle.std.proofs.lemmas.Grind.{flat_map-append}
use Rattle.zio_types.specs.declared.error.Errno.{Errno}
use Rattle.zio_types.specs.declared.place.Place.{Place}
use Rattle.zio_types.specs.declared.place.Top.{Top}
use Rattle.zio_types.specs.Choices.{Choice}
use Rattle.zio_cksum.proofs.AllLemmas.{all_append}
use Rattle.zio_gang.specs.Attempts.{Terms}
use Rattle.zio_gang.specs.Writes.{places_chosen}
use Rattle.zio_trace.specs.Entries.{answer_to}
use Rattle.zio_trace.specs.Plans.{plan}
use Rattle.zio_trace.specs.Programs.{Ends}
use Rattle.zio_trace.specs.Tasks.{Find, Found, Task, WriteCopies, Wrote}
use Rattle.zio_frames.specs.Answering.{NextAnswered}
use Rattle.zio_frames.specs.Frames.{Child, Frame, Inner, Stack, fresh_frame, left_of, with_asked, with_slot}
use Rattle.zio_frames.specs.Moves.{AsksNext, Chose, Closed, Did, DoesAll, Opened, closed, done_at_once, opened}
use Rattle.zio_frames.specs.Slots.{Heard, IsOut, Slot, left_behind_slots, told_in}
use Rattle.zio_parts.specs.Parts.{PartWriting}
use Rattle.zio_parts.specs.PartWrites.{is_due}
use Rattle.zio_parts.specs.declared.parts.OwnWrite.TheVariants.{Ended as OwnEnded}
use Rattle.zio_exchange.specs.WithinParts.{OpensWithin}
use Rattle.zio_exchange.specs.SpaceCalls.{Placed, SpaceCall, call_by, calls_by}
use Rattle.zio_stages.specs.NodeIos.{IsWriteAt}
use Rattle.zio_stages.specs.OwnParts.{DoesThen, IsBehind}
use Rattle.zio_stages.specs.PartOwns.{ForBytes, HandsOut, IsPartOwn, PartAsk, PartAsks, WrittenPart, ask_of, asks_in}
use Rattle.zio_stages.specs.PartsOut.{ArePartsOut}
use Rattle.zio_stages.specs.PartWorks.{Front, IsFront, IsIdle, IsPartAt, IsPartWithin, IsWithin}
use Rattle.zio_stages.specs.WriteIos.{IsWriteIo, IsWriteStep}
use Rattle.zio_stages.specs.declared.family.Layer.TheVariants.{Within}
use Rattle.zio_stages.specs.declared.part.PartOwn.{PartOwn}
use Rattle.zio_stages.specs.declared.part_work.PartWork.{PartWork}
use Rattle.zio_stages.specs.declared.write_io.IoStep.TheVariants.{End}
use Rattle.zio_stages.specs.declared.write_io.WriteIo.{WriteIo}
use Rattle.zio_stages.proofs.NodeIoEnds.{write_closes}
use Rattle.zio_stages.proofs.PartsOutLemmas.{asks_beside}

-- ---- moves that a node makes itself

pub does_nothing : (t : Terms) (st : Stack) (P : Stack → Type 0) → P st → DoesThen t st [] P
does_nothing t st P h = record { dids = []; stack = st; does = refl; opens = tt; calls_are = refl; after = h }

pub does_map : (t : Terms) (st : Stack) (calls : List SpaceCall) (P Q : Stack → Type 0) → ((mid : Stack) → P mid → Q mid) → DoesThen t st calls P → DoesThen t st calls Q
does_map t st calls P Q f h = record { dids = h.dids; stack = h.stack; does = h.does; opens = h.opens; calls_are = h.calls_are; after = f h.stack h.after }

all_then : (t : Terms) (first second : List Did) (a b c : Stack) → DoesAll t first a b → DoesAll t second b c → DoesAll t (first ++ second) a c
all_then t [] second a b c h k = subst (λ x. DoesAll t second x c) h k
all_then t (did ∷ first) second a b c h k = (h.0, h.1, all_then t first second h.0 b c h.2 k)

-- one after another
pub does_then : (t : Terms) (st : Stack) (first second : List SpaceCall) (P : Stack → Type 0) → DoesThen t st first (λ mid. DoesThen t mid second P) → DoesThen t st (first ++ second) P
does_then t st first second P h = record {
  dids = h.dids ++ h.after.dids;
  stack = h.after.stack;
  does = all_then t h.dids h.after.dids st h.stack h.after.stack h.does h.after.does;
  opens = all_append OpensWithin h.dids h.after.dids h.opens h.after.opens;
  calls_are = ap (λ cs. cs ++ second) h.calls_are ∙ ap (λ cs. calls_by h.dids ++ cs) h.after.calls_are ∙ sym (flat_map-append call_by h.dids h.after.dids);
  after = h.after.after;
}

-- ---- behind a front

parts_both : (front_asked asked : List Task) (front_slots slots : List Slot) → length front_asked ≡ length front_slots → ArePartsOut front_asked front_slots → ArePartsOut asked slots
    → ArePartsOut (front_asked ++ asked) (front_slots ++ slots)
parts_both [] asked [] slots full h k = k
parts_both [] asked (s ∷ fs) slots full h k = absurd (omega arith)
parts_both (q ∷ fa) asked [] slots full h k = absurd (omega arith)
parts_both (q ∷ fa) asked (Heard v ∷ fs) slots full h k = parts_both fa asked fs slots (omega arith) h k
parts_both (q ∷ fa) asked (IsOut told ∷ fs) slots full h k = (h.0, parts_both fa asked fs slots (omega arith) h.1 k)

-- what the part's plan asks, the node asks next
pub asks_behind : (t : Terms) (w : PartWork) (family : List Child) (f : Front) (o : WrittenPart) (front : ℕ) (st : Stack) (op : Task) → IsFront t f o front
    → (h : IsPartAt t w family f o st) → PartAsks t o h.slots op → AsksNext t st.outer op
asks_behind t w family f o front st op is h asks =
    let b = h.work.behind in
    let own = h.work.own in
    let parts : ArePartsOut st.outer.asked st.outer.slots =
    subst (λ (qs : List Task). ArePartsOut qs st.outer.slots) (sym b.asked_are) (subst (λ (xs : List Slot). ArePartsOut (f.asked ++ h.asked) xs) (sym b.slots_are)
    (parts_both f.asked h.asked f.slots h.slots b.full b.parts own.out)) in
    let next = is.follows h.slots op asks in
    let there : NextAnswered (told_in st.outer.slots) (left_behind_slots st.outer.slots (plan t f.part)) op =
    subst (λ (xs : List Slot). NextAnswered (told_in xs) (left_behind_slots xs (plan t f.part)) op) (sym b.slots_are) next in
    asks_beside t st.outer op (subst (λ (q : Task). NextAnswered (told_in st.outer.slots) (left_behind_slots st.outer.slots (plan t q)) op) (sym h.op) there) parts

-- one more
pub behind_more : (fa asked : List Task) (fs slots : List Slot) (st next : Stack) (op : Task) (slot : Slot) → IsBehind fa fs asked slots st → next.outer ≡ with_asked st.outer op slot
    → IsBehind fa fs (asked ++ op ∷ []) (slots ++ slot ∷ []) next
behind_more fa asked fs slots st next op slot h e = record {
  asked_are = ap (λ (x : Frame). x.asked) e ∙ ap (λ (qs : List Task). qs ++ op ∷ []) h.asked_are ∙ append_assoc fa asked (op ∷ []);
  slots_are = ap (λ (x : Frame). x.slots) e ∙ ap (λ (xs : List Slot). xs ++ slot ∷ []) h.slots_are ∙ append_assoc fs slots (slot ∷ []);
  full = h.full;
  parts = h.parts;
}

pub set_behind : {X : Type 0} (front xs : List X) (n m : ℕ) (x : X) → n ≡ length front + m → set (front ++ xs) n x ≡ front ++ set xs m x
set_behind [] xs n m x e = let same : n ≡ m = omega arith in ap (λ i. set xs i x) same
set_behind (y ∷ front) xs zero m x e = absurd (omega arith)
set_behind (y ∷ front) xs (suc n) m x e = ap (λ ys. y ∷ ys) (set_behind front xs n m x (omega arith))

-- one of its own goes on
pub behind_set : (fa asked : List Task) (fs slots : List Slot) (st next : Stack) (n m : ℕ) (slot : Slot) → IsBehind fa fs asked slots st → n ≡ length fs + m → next.outer ≡ with_slot st.outer n slot
    → IsBehind fa fs asked (set slots m slot) next
behind_set fa asked fs slots st next n m slot h at e = record {
  asked_are = ap (λ (x : Frame). x.asked) e ∙ h.asked_are;
  slots_are = ap (λ (x : Frame). x.slots) e ∙ ap (λ (xs : List Slot). set xs n slot) h.slots_are ∙ set_behind fs slots n m slot at;
  full = h.full;
  parts = h.parts;
}

pub behind_still : (fa asked : List Task) (fs slots : List Slot) (st next : Stack) → IsBehind fa fs asked slots st → next.outer ≡ st.outer → IsBehind fa fs asked slots next
behind_still fa asked fs slots st next h e = record {
  asked_are = ap (λ (x : Frame). x.asked) e ∙ h.asked_are;
  slots_are = ap (λ (x : Frame). x.slots) e ∙ h.slots_are;
  full = h.full;
  parts = h.parts;
}

-- ---- the part within

pub none_within : (t : Terms) (bytes : List ℕ) (x : PartWriting) (front : ℕ) (io : Option WriteIo) (inner : Option Inner) → io ≡ None → IsPartWithin t bytes x front io inner → (inner ≡ None) × IsIdle x.own
none_within t bytes x front io inner e h = subst (λ (i : Option WriteIo). IsPartWithin t bytes x front i inner) e h

pub within_none : (t : Terms) (bytes : List ℕ) (x : PartWriting) (front : ℕ) (io : Option WriteIo) (inner : Option Inner) → io ≡ None → (inner ≡ None) × IsIdle x.own → IsPartWithin t bytes x front io inner
within_none t bytes x front io inner e h = subst (λ (i : Option WriteIo). IsPartWithin t bytes x front i inner) (sym e) h

pub some_within : (t : Terms) (bytes : List ℕ) (x : PartWriting) (front : ℕ) (now : Option WriteIo) (io : WriteIo) (inner : Option Inner) → now ≡ Some io → IsPartWithin t bytes x front now inner
    → IsWithin t bytes x front io inner
some_within t bytes x front now io inner e h = subst (λ (i : Option WriteIo). IsPartWithin t bytes x front i inner) e h

pub within_some : (t : Terms) (bytes : List ℕ) (x : PartWriting) (front : ℕ) (now : Option WriteIo) (io : WriteIo) (inner : Option Inner) → now ≡ Some io → IsWithin t bytes x front io inner
    → IsPartWithin t bytes x front now inner
within_some t bytes x front now io inner e h = subst (λ (i : Option WriteIo). IsPartWithin t bytes x front i inner) (sym e) h

-- its own write, as a node's part within
pub write_at : (t : Terms) (w : PartWork) (family : List Child) (f : Front) (o : WrittenPart) (st : Stack) (io : WriteIo) → w.io ≡ Some io → IsPartAt t w family f o st → IsWriteAt t w.bytes Within io family st
write_at t w family f o st io e h =
    let i = some_within t w.bytes w.own.part (length f.slots) w.io io st.inner e h.work.within in
    inside st i.inside i.is i.writes h.children
  where
    inside : (x : Stack) (i : Inner) → x.inner ≡ Some i → IsWriteIo t w.bytes io i.frame → family ≡ x.children → IsWriteAt t w.bytes Within io family x
    inside x i is writes children = by x.outer x.inner x.children is children where
      by : (outer : Frame) (inner : Option Inner) (kids : List Child) → inner ≡ Some i → family ≡ kids → IsWriteAt t w.bytes Within io family (record { outer = outer; inner = inner; children = kids })
      by outer None kids is same = absurd (cc)
      by outer (Some j) kids is same =
          let there : i ≡ j = cc in
          record { children = same; asks = tt; part = subst (λ (k : Inner). IsWriteIo t w.bytes io k.frame) there writes }

-- ---- places were asked for

pub chose_at : (t : Terms) (w v : PartWork) (family : List Child) (f : Front) (o : WrittenPart) (front : ℕ) (st : Stack) (entry : Choice) (places : Option (List Place)) → IsFront t f o front
    → (h : IsPartAt t w family f o st) → w.io ≡ None → PartAsks t o h.slots (Find entry.asked) → places ≡ places_chosen entry.asked.copies (Some entry)
    → IsPartOwn t v.own o (h.asked ++ Find entry.asked ∷ []) (h.slots ++ Heard (Found places) ∷ []) → v.bytes ≡ w.bytes → v.io ≡ w.io → v.own.part.own ≡ w.own.part.own
    → DoesThen t st (Placed entry ∷ []) (IsPartAt t v family f o)
chose_at t w v family f o front st entry places is h none asks chosen own bytes io due =
    let idle = none_within t w.bytes w.own.part (length f.slots) w.io st.inner none h.work.within in
    let op : Task = Find entry.asked in
    let slot : Slot = Heard (answer_to entry) in
    let now : IsPartOwn t v.own o (h.asked ++ op ∷ []) (h.slots ++ slot ∷ []) = subst (λ (p : Option (List Place)). IsPartOwn t v.own o (h.asked ++ op ∷ []) (h.slots ++ Heard (Found p) ∷ [])) chosen own in
    let next : Stack = done_at_once st op (answer_to entry) in
    record {
      dids = Chose entry ∷ [];
      stack = next;
      does = (next, (idle.0, asks_behind t w family f o front st op is h asks, refl), refl);
      opens = (tt, tt);
      calls_are = refl;
      after = record {
        asked = h.asked ++ op ∷ [];
        slots = h.slots ++ slot ∷ [];
        op = h.op;
        work = record {
          behind = behind_more f.asked h.asked f.slots h.slots st next op slot h.work.behind refl;
          own = now;
          bytes = λ d. h.work.bytes (ap is_due (sym due) ∙ d) ∙ sym bytes;
          within = within_none t v.bytes v.own.part (length f.slots) v.io None (io ∙ none) (refl, subst IsIdle (sym due) idle.1);
        };
        children = h.children;
      };
    }

-- ---- its own write

last_ask : (asked : List Task) (op : Task) (asks : List PartAsk) (n : ℕ) → map ask_of (asked ++ op ∷ []) ≡ asks → length asked ≡ n → slice_get asks n ≡ Some (ask_of op)
last_ask asked op asks n e full = ap (λ (qs : List PartAsk). slice_get qs n) (sym e) ∙ by asked n full where
  by : (qs : List Task) (m : ℕ) → length qs ≡ m → slice_get (map ask_of (qs ++ op ∷ [])) m ≡ Some (ask_of op)
  by [] zero l = refl
  by [] (suc m) l = absurd (omega arith)
  by (q ∷ qs) zero l = absurd (omega arith)
  by (q ∷ qs) (suc m) l = by qs m (omega arith)

-- it begins
pub begins_at : (t : Terms) (w v : PartWork) (family : List Child) (f : Front) (o : WrittenPart) (front : ℕ) (st : Stack) (bytes : List ℕ) (places : List Place) (io : WriteIo) → IsFront t f o front
    → (h : IsPartAt t w family f o st) → w.io ≡ None → HandsOut t v.own o h.asked h.slots (WriteCopies bytes places) → v.bytes ≡ bytes → v.io ≡ Some io
    → is_due v.own.part.own ≡ false → IsWriteIo t bytes io (fresh_frame (WriteCopies bytes places)) → DoesThen t st [] (IsPartAt t v family f o)
begins_at t w v family f o front st bytes places io is h none out held now over fresh =
    let idle = none_within t w.bytes w.own.part (length f.slots) w.io st.inner none h.work.within in
    let op : Task = WriteCopies bytes places in
    let next : Stack = opened st op in
    let inside : Inner = record { number = length st.outer.slots; frame = fresh_frame op } in
    let long : length st.outer.slots ≡ length f.slots + length h.slots = ap length h.work.behind.slots_are ∙ length-append f.slots h.slots in
    record {
      dids = Opened op ∷ [];
      stack = next;
      does = (next, (idle.0, refl, asks_behind t w family f o front st op is h out.0, refl), refl);
      opens = (tt, tt);
      calls_are = refl;
      after = record {
        asked = h.asked ++ op ∷ [];
        slots = h.slots ++ IsOut None ∷ [];
        op = h.op;
        work = record {
          behind = behind_more f.asked h.asked f.slots h.slots st next op (IsOut None) h.work.behind refl;
          own = out.1;
          bytes = λ d. absurd (false≢true (sym over ∙ d));
          within = within_some t v.bytes v.own.part (length f.slots) v.io io (Some inside) now (record {
            inside = inside;
            is = refl;
            number = length h.slots;
            at = long;
            asks = last_ask h.asked op (asks_in v.own.part) (length h.slots) out.1.asks h.work.own.full;
            writes = subst (λ (bs : List ℕ). IsWriteIo t bs io (fresh_frame op)) (sym held) fresh;
          });
        };
        children = h.children;
      };
    }

-- it ends
pub closes_at : (t : Terms) (tops : List Top) (w v : PartWork) (family : List Child) (f : Front) (o : WrittenPart) (st : Stack) (io : WriteIo) (error : Option Errno) → w.io ≡ Some io
    → (h : IsPartAt t w family f o st) → IsWriteStep tops io End → ((x : Frame) → IsWriteIo t w.bytes io x → left_of t x ≡ Ends (Wrote error))
    → ((n : ℕ) → slice_get (asks_in w.own.part) n ≡ Some ForBytes → IsPartOwn t v.own o h.asked (set h.slots n (Heard (Wrote error))))
    → v.io ≡ None → v.own.part.own ≡ OwnEnded error → DoesThen t st [] (IsPartAt t v family f o)
closes_at t tops w v family f o st io error e h end left heard none over =
    let i = some_within t w.bytes w.own.part (length f.slots) w.io io st.inner e h.work.within in
    let at = write_at t w family f o st io e h in
    let next : Stack = closed st i.inside (Wrote error) in
    record {
      dids = Closed (Wrote error) ∷ [];
      stack = next;
      does = (next, write_closes t w.bytes tops io family st i.inside error i.is at end (left _ at.part), refl);
      opens = (tt, tt);
      calls_are = refl;
      after = record {
        asked = h.asked;
        slots = set h.slots i.number (Heard (Wrote error));
        op = h.op;
        work = record {
          behind = behind_set f.asked h.asked f.slots h.slots st next i.inside.number i.number (Heard (Wrote error)) h.work.behind i.at refl;
          own = heard i.number i.asks;
          bytes = λ d. absurd (false≢true (sym (ap is_due over) ∙ d));
          within = within_none t v.bytes v.own.part (length f.slots) v.io None none (refl, subst IsIdle (sym over) tt);
        };
        children = h.children;
      };
    }

-- it goes on: as a node's part within it is so far now
pub goes_at : (t : Terms) (w v : PartWork) (family more : List Child) (f : Front) (o : WrittenPart) (st next : Stack) (io now : WriteIo) (i : Inner) → w.io ≡ Some io → IsPartAt t w family f o st
    → v.own ≡ w.own → v.bytes ≡ w.bytes → v.io ≡ Some now → next.outer ≡ st.outer → next.inner ≡ Some i → ((j : Inner) → st.inner ≡ Some j → i.number ≡ j.number)
    → IsWriteIo t w.bytes now i.frame → more ≡ next.children → IsPartAt t v more f o next
goes_at t w v family more f o st next io now i e h own bytes is outer inner number writes children =
    let j = some_within t w.bytes w.own.part (length f.slots) w.io io st.inner e h.work.within in
    record {
      asked = h.asked;
      slots = h.slots;
      op = ap (λ (x : Frame). x.op) outer ∙ h.op;
      work = record {
        behind = behind_still f.asked h.asked f.slots h.slots st next h.work.behind outer;
        own = subst (λ (x : PartOwn). IsPartOwn t x o h.asked h.slots) (sym own) h.work.own;
        bytes = λ d. h.work.bytes (ap (λ (x : PartOwn). is_due x.part.own) (sym own) ∙ d) ∙ sym bytes;
        within = within_some t v.bytes v.own.part (length f.slots) v.io now next.inner is (record {
          inside = i;
          is = inner;
          number = j.number;
          at = number j.inside j.is ∙ j.at;
          asks = ap (λ (x : PartOwn). slice_get (asks_in x.part) j.number) own ∙ j.asks;
          writes = subst (λ (bs : List ℕ). IsWriteIo t bs now i.frame) (sym bytes) writes;
        });
      };
      children = children;
    }
