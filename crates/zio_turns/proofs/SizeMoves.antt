-- What a node heard has the sizes that were asked for, move by move.
use Rattle.std.proofs.Common.{◌≡◌, ℕ, zero, suc, List, [], ◌∷◌, ◌++◌, length, length-append, slice_get, slice_set, take, Option, Some, None, refl, sym, ap, ◌∙◌, subst, arith}
use Rattle.std.proofs.lemmas.List.{length-set, length-take}
use Rattle.zio_types.specs.declared.error.Errno.{Errno}
use Rattle.zio_types.specs.Choices.{Choice}
use Rattle.zio_blkptr.specs.declared.pointer.Bp.{Bp}
use Rattle.zio_gang.specs.Attempts.{Terms}
use Rattle.zio_groups.specs.declared.waiting.Answered.{Answered}
use Rattle.zio_groups.specs.declared.waiting.QueuedOp.{QueuedOp}
use Rattle.zio_groups.specs.Issued.{IsWhole}
use Rattle.zio_trace.specs.Entries.{answer_to}
use Rattle.zio_trace.specs.Families.{Forest}
use Rattle.zio_trace.specs.Leaves.{Answer, Fetch, LeafOp, Store}
use Rattle.zio_trace.specs.Plans.{plan}
use Rattle.zio_trace.specs.Programs.{Ends}
use Rattle.zio_trace.specs.Tasks.{Find, Got, Leaf, TakePlaces, Taken, Task, Value}
use Rattle.zio_frames.specs.Frames.{Child, Inner, OfInner, OfOuter, Seat, Stack, fresh_stack, left_of}
use Rattle.zio_frames.specs.Moves.{Chose, Closed, Did, Does, DoesAll, Opened, Took, closed, done_at_once, handed, heard_early, heard_of, opened, set_at, set_in_inner, with_asking}
use Rattle.zio_frames.specs.OfRound.{AreAsked, IsInnerOf, IsOfRound, SlotsFit}
use Rattle.zio_frames.specs.Seats.{InnerFits, IsSeated, asked_at, asked_in_inner}
use Rattle.zio_frames.specs.Slots.{Heard, IsOut, Slot}
use Rattle.zio_frames.proofs.GetLemmas.{get_last}
use Rattle.zio_turns.specs.AtLeaves.{WaitsFor}
use Rattle.zio_turns.specs.Sizes.{HasAskedSize, HasSizes, InnerSized, IsSizedAs, SlotSized, SlotsSized}
use Rattle.zio_staged.specs.Stages.{ShowsAnswer}
use Rattle.zio_turns.proofs.Links.{some_is}
use Rattle.zio_turns.proofs.SizeLemmas.{part_sized}

-- ---- what a leaf answers

-- the first bytes of a whole range are as many as were asked for
pub answers_full : (leaf : ℕ) (act : LeafOp) (w : QueuedOp) (b : Answered) (a : Answer) → WaitsFor leaf act w → IsWhole w b
    → ShowsAnswer act b.error b.bytes a → HasAskedSize act a
answers_full leaf (Store retry stored spot) w b a waits whole shows = tt
answers_full leaf (Fetch retry len spot) w b a waits whole shows = by b.error refl shows
  where
    by : (e : Option Errno) → b.error ≡ e → ShowsAnswer (Fetch retry len spot) e b.bytes a → HasAskedSize (Fetch retry len spot) a
    by (Some e) is shown = subst (HasAskedSize (Fetch retry len spot)) (sym shown) tt
    by None is shown =
        let long : length b.bytes ≡ w.op.len = whole waits.0.direction is in
        let short : length (take len b.bytes) ≡ len = omega (arith, length-take len b.bytes, long, waits.0.len, waits.1) in
        subst (HasAskedSize (Fetch retry len spot)) (sym shown) short

-- ---- slots

pub sized_asked : (asked : List Task) (slots : List Slot) (op : Task) (slot : Slot) → length asked ≡ length slots
    → SlotsSized asked slots → SlotSized op slot → SlotsSized (asked ++ op ∷ []) (slots ++ slot ∷ [])
sized_asked [] [] op slot full h new = (new, tt)
sized_asked [] (x ∷ slots) op slot full h new = absurd (omega (arith, full))
sized_asked (q ∷ asked) [] op slot full h new = absurd (omega (arith, full))
sized_asked (q ∷ asked) (x ∷ slots) op slot full h new = (h.0, sized_asked asked slots op slot (omega (arith, full)) h.1 new)

sized_set : (asked : List Task) (slots : List Slot) (n : ℕ) (op : Task) (slot : Slot) → slice_get asked n ≡ Some op
    → SlotsSized asked slots → SlotSized op slot → SlotsSized asked (slice_set slots n slot)
sized_set [] slots n op slot e h new = tt
sized_set (q ∷ asked) [] n op slot e h new = tt
sized_set (q ∷ asked) (x ∷ slots) zero op slot e h new =
    (subst (λ (y : Task). SlotSized y slot) (sym (some_is q op e)) new, h.1)
sized_set (q ∷ asked) (x ∷ slots) (suc n) op slot e h new = (h.0, sized_set asked slots n op slot e h.1 new)

-- one that is out
sized_out : (asked : List Task) (slots : List Slot) (n : ℕ) (told : Option (Option Bp)) → SlotsSized asked slots
    → SlotsSized asked (slice_set slots n (IsOut told))
sized_out [] slots n told h = tt
sized_out (q ∷ asked) [] n told h = tt
sized_out (q ∷ asked) (x ∷ slots) zero told h = (tt, h.1)
sized_out (q ∷ asked) (x ∷ slots) (suc n) told h = (h.0, sized_out asked slots n told h.1)

-- ---- what it does itself

-- the part within is the operation of its number, and was asked for and answered as its plan
abbrev InnerMeasured : Terms → List Choice → Stack → Option Inner → Type 0
InnerMeasured t entries st None = Unit {0}
InnerMeasured t entries st (Some i) =
    (slice_get st.outer.asked i.number ≡ Some i.frame.op) × (length i.frame.asked ≡ length i.frame.slots)
    × AreAsked i.frame.asked i.frame.slots (plan t i.frame.op) × SlotsFit t entries i.frame.asked i.frame.slots

pub record IsMeasured (t : Terms) (entries : List Choice) (st : Stack) : Type 0 where
  pub full : length st.outer.asked ≡ length st.outer.slots
  pub inner : InnerMeasured t entries st st.inner
  pub sizes : HasSizes st

inner_measured : (t : Terms) (f : Forest) (entries : List Choice) (st : Stack) (o : Option Inner) → InnerFits st o
    → IsInnerOf t f entries o → InnerMeasured t entries st o
inner_measured t f entries st None fits of = tt
inner_measured t f entries st (Some i) fits of = (fits.2, fits.0.lengths, of.asked, of.slots)

pub measured : (t : Terms) (f : Forest) (entries : List Choice) (st : Stack) → IsSeated st → IsOfRound t f entries st
    → HasSizes st → IsMeasured t entries st
measured t f entries st seated of sizes = record {
  full = seated.outer.lengths;
  inner = inner_measured t f entries st st.inner seated.inner of.inner;
  sizes = sizes;
}

module _ (t : Terms) (entries : List Choice) where
  more_long : {X Y : Type 0} (xs : List X) (ys : List Y) (x : X) (y : Y) → length xs ≡ length ys
      → length (xs ++ x ∷ []) ≡ length (ys ++ y ∷ [])
  more_long xs ys x y e = let a = length-append xs (x ∷ []) in let b = length-append ys (y ∷ []) in omega arith

  measured_open : (a : Stack) (op : Task) → IsMeasured t entries a → IsMeasured t entries (opened a op)
  measured_open a op h = record {
    full = more_long a.outer.asked a.outer.slots op (IsOut None) h.full;
    inner = (ap (slice_get (a.outer.asked ++ op ∷ [])) (sym h.full) ∙ get_last a.outer.asked op, refl, tt, tt);
    sizes = record { outer = sized_asked a.outer.asked a.outer.slots op (IsOut None) h.full h.sizes.outer tt; inner = tt };
  }

  measured_close : (a : Stack) (i : Inner) (v : Value) → IsMeasured t entries a → InnerMeasured t entries a (Some i)
      → InnerSized (Some i) → left_of t i.frame ≡ Ends v → IsMeasured t entries (closed a i v)
  measured_close a i v h k sized left = record {
    full = h.full ∙ sym (length-set a.outer.slots i.number (Heard v));
    inner = tt;
    sizes = record {
      outer = sized_set a.outer.asked a.outer.slots i.number i.frame.op (Heard v) k.0 h.sizes.outer
          (part_sized t entries i.frame.op i.frame.asked i.frame.slots v k.2 sized k.3 k.1 left);
      inner = tt;
    };
  }

  measured_single : (a : Stack) (op : Task) (v : Value) → IsMeasured t entries a → IsSizedAs op v
      → IsMeasured t entries (done_at_once a op v)
  measured_single a op v h size = record {
    full = more_long a.outer.asked a.outer.slots op (Heard v) h.full;
    inner = tt;
    sizes = record { outer = sized_asked a.outer.asked a.outer.slots op (Heard v) h.full h.sizes.outer size; inner = tt };
  }

  measured_one : (did : Did) (a b : Stack) → Does t did a b → IsMeasured t entries a → IsMeasured t entries b
  measured_one (Opened op) a b does h = subst (IsMeasured t entries) (sym does.3) (measured_open a op h)
  measured_one (Closed v) a b does h =
      subst (IsMeasured t entries) (sym does.4)
      (measured_close a does.0 v h (subst (InnerMeasured t entries a) does.1 h.inner)
      (subst InnerSized does.1 h.sizes.inner) does.3)
  measured_one (Chose c) a b does h =
      subst (IsMeasured t entries) (sym does.2) (measured_single a (Find c.asked) (answer_to c) h tt)
  measured_one (Took tree free) a b does h =
      subst (IsMeasured t entries) (sym does.2) (measured_single a (TakePlaces tree) (Taken free) h tt)

  pub measured_all : (dids : List Did) (a b : Stack) → DoesAll t dids a b → IsMeasured t entries a → IsMeasured t entries b
  measured_all [] a b does h = subst (IsMeasured t entries) (sym does) h
  measured_all (did ∷ dids) a b does h = measured_all dids does.0 b does.2 (measured_one did a does.0 does.1 h)

  -- it hands out a child
  asking_sizes : (b : Stack) (op : Task) → IsMeasured t entries b → (o : Option Inner) → InnerMeasured t entries b o
      → InnerSized o → HasSizes (with_asking b o op)
  asking_sizes b op h None inner sized =
      record { outer = sized_asked b.outer.asked b.outer.slots op (IsOut None) h.full h.sizes.outer tt; inner = tt }
  asking_sizes b op h (Some i) inner sized = record {
    outer = h.sizes.outer;
    inner = sized_asked i.frame.asked i.frame.slots op (IsOut None) inner.1 sized tt;
  }

  pub handed_sizes : (b : Stack) (op : Task) → IsMeasured t entries b → HasSizes (handed b op)
  handed_sizes b op h =
      let r = asking_sizes b op h b.inner h.inner h.sizes.inner in record { outer = r.outer; inner = r.inner }

-- a read of a leaf that was answered
pub answered_sizes : (act : LeafOp) (a : Answer) → HasAskedSize act a
    → HasSizes (done_at_once (fresh_stack (Leaf act)) (Leaf act) (Got a))
answered_sizes act a full = record { outer = (full, tt); inner = tt }

-- ---- it hears of one

inner_sizes : (q : Stack) (o : Option Inner) (m : ℕ) (op : Task) (v : Value) → asked_in_inner o m ≡ Some op → IsSizedAs op v
    → HasSizes q → InnerSized o → HasSizes (set_in_inner q o m (Heard v))
inner_sizes q None m op v asked size h sized = h
inner_sizes q (Some i) m op v asked size h sized =
    record { outer = h.outer; inner = sized_set i.frame.asked i.frame.slots m op (Heard v) asked sized size }

sizes_at : (q : Stack) (seat : Seat) (op : Task) (v : Value) → asked_at q seat ≡ Some op → IsSizedAs op v → HasSizes q
    → HasSizes (set_at q seat (Heard v))
sizes_at q (OfOuter m) op v asked size h =
    record { outer = sized_set q.outer.asked q.outer.slots m op (Heard v) asked h.outer size; inner = h.inner }
sizes_at q (OfInner m) op v asked size h = inner_sizes q q.inner m op v asked size h h.inner

inner_told : (q : Stack) (o : Option Inner) (m : ℕ) (told : Option (Option Bp)) → HasSizes q → InnerSized o
    → HasSizes (set_in_inner q o m (IsOut told))
inner_told q None m told h sized = h
inner_told q (Some i) m told h sized =
    record { outer = h.outer; inner = sized_out i.frame.asked i.frame.slots m told sized }

sizes_told : (q : Stack) (seat : Seat) (told : Option (Option Bp)) → HasSizes q → HasSizes (set_at q seat (IsOut told))
sizes_told q (OfOuter m) told h =
    record { outer = sized_out q.outer.asked q.outer.slots m told h.outer; inner = h.inner }
sizes_told q (OfInner m) told h = inner_told q q.inner m told h h.inner

pub heard_sizes : (q : Stack) (n : ℕ) (c : Child) (op : Task) (v : Value) → asked_at q c.seat ≡ Some op → IsSizedAs op v
    → HasSizes q → HasSizes (heard_of q n c v)
heard_sizes q n c op v asked size h =
    let r = sizes_at q c.seat op v asked size h in record { outer = r.outer; inner = r.inner }

pub early_sizes : (q : Stack) (n : ℕ) (c : Child) (pointer : Option Bp) → HasSizes q → HasSizes (heard_early q n c pointer)
early_sizes q n c pointer h =
    let r = sizes_told q c.seat (Some pointer) h in record { outer = r.outer; inner = r.inner }
