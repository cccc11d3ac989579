-- The own write of a part that is written, as it goes on: what is handed out and heard, and what its fields owe.
use Rattle.std.proofs.Common.{◌≡◌, ℕ, List, length, false, Option, Some, None, refl, sym, ap, subst, ◌∙◌}
use Rattle.std.proofs.lemmas.Bool.{false≢true}
use Rattle.zio_types.specs.declared.place.Place.{Place}
use Rattle.zio_types.specs.declared.place.Top.{Top}
use Rattle.zio_gang.specs.Attempts.{Terms}
use Rattle.zio_trace.specs.Tasks.{Leaf, Task, Value}
use Rattle.zio_frames.specs.Frames.{Child, Frame, Inner, OfInner, Seat as SeatOf, Stack, asking, asking_in}
use Rattle.zio_frames.specs.Moves.{handed, heard_of, set_at}
use Rattle.zio_frames.specs.Slots.{Heard, Slot}
use Rattle.zio_parts.specs.Parts.{PartWriting, places_at}
use Rattle.zio_parts.specs.PartWrites.{is_due, with_own}
use Rattle.zio_parts.specs.declared.parts.OwnWrite.TheVariants.{Due, Out as OwnOut}
use Rattle.zio_parts.specs.declared.parts.Placing.{Placing}
use Rattle.zio_stages.specs.NodeIos.{IsAsking, IsAwaitedAt, IsWriteAt, NoneSits, SitsOn, StartsBy}
use Rattle.zio_stages.specs.PartOwns.{WrittenPart}
use Rattle.zio_stages.specs.PartWorks.{Front, IsIoOver, IsPartAt, IsPartOver}
use Rattle.zio_stages.specs.WriteIos.{AreIoPlaces, IsOutIn, IsWriteIo, IsWriteOver}
use Rattle.zio_stages.specs.declared.family.Layer.TheVariants.{Within}
use Rattle.zio_stages.specs.declared.leaf.LeafWork.{LeafWork}
use Rattle.zio_stages.specs.declared.part.PartOwn.{PartOwn}
use Rattle.zio_stages.specs.declared.part_work.PartWork.{PartWork}
use Rattle.zio_stages.specs.declared.write_io.WriteIo.{WriteIo}
use Rattle.zio_stages.proofs.NodeIoLemmas.{sits_fresh}
use Rattle.zio_stages.proofs.PartMoves.{goes_at, some_within, write_at}

-- ---- as the part within goes on

abbrev IsAskingWithin : Option Inner → Type 0
IsAskingWithin inner = IsAsking Within inner

number_of : (n : ℕ) (frame : Frame) (j : Inner) → Some (let i : Inner = record { number = n; frame = frame } in i) ≡ Some j → j.number ≡ n
number_of n frame j e =
    let same : (let i : Inner = record { number = n; frame = frame } in i) ≡ j = cc in
    ap (λ (x : Inner). x.number) (sym same)

same_some : {X : Type 0} (o : Option X) (x y : X) → o ≡ Some x → o ≡ Some y → y ≡ x
same_some o x y e g = cc

-- both are the part within of the same operation
abbrev pub IsSameInner : Option Inner → Option Inner → Type 0
IsSameInner now next = (i j : Inner) → now ≡ Some i → next ≡ Some j → j.number ≡ i.number

pub from_write : (t : Terms) (w v : PartWork) (family more : List Child) (f : Front) (o : WrittenPart) (st next : Stack) (io now : WriteIo) → w.io ≡ Some io → IsPartAt t w family f o st
    → v.own ≡ w.own → v.bytes ≡ w.bytes → v.io ≡ Some now → next.outer ≡ st.outer → IsSameInner st.inner next.inner → IsWriteAt t w.bytes Within now more next → IsPartAt t v more f o next
from_write t w v family more f o st next io now e h own bytes is outer same at = by next.inner refl where
  by : (inner : Option Inner) → next.inner ≡ inner → IsPartAt t v more f o next
  by None none = absurd (never (next.inner) none at.asks) where
    never : (inner : Option Inner) → inner ≡ None → IsAskingWithin inner → ⊥
    never None is asks = asks
    never (Some i) is asks = absurd (cc)
  by (Some i) some =
      let frame : asking next ≡ i.frame = ap (λ (inner : Option Inner). asking_in next.outer inner) some in
      goes_at t w v family more f o st next io now i e h own bytes is outer some (λ j there. same j i there some) (subst (λ (x : Frame). IsWriteIo t w.bytes now x) frame at.part) at.children

-- ---- a leaf's operation is handed out

handed_outer : (outer : Frame) (inner : Option Inner) (kids : List Child) (op : Task) (i : Inner) → inner ≡ Some i → (handed (record { outer = outer; inner = inner; children = kids }) op).outer ≡ outer
handed_outer outer None kids op i e = absurd (cc)
handed_outer outer (Some j) kids op i e = refl

handed_same : (outer : Frame) (inner : Option Inner) (kids : List Child) (op : Task) → IsSameInner inner (handed (record { outer = outer; inner = inner; children = kids }) op).inner
handed_same outer None kids op i j e g = absurd (cc)
handed_same outer (Some k) kids op i j e g =
    let one : k ≡ i = cc in
    number_of k.number _ j g ∙ ap (λ (x : Inner). x.number) one

pub starts_at : (t : Terms) (w v : PartWork) (family more : List Child) (f : Front) (o : WrittenPart) (st : Stack) (io now : WriteIo) (leaf : Option LeafWork) (i : Inner) → w.io ≡ Some io → st.inner ≡ Some i
    → IsPartAt t w family f o st → v.own ≡ w.own → v.bytes ≡ w.bytes → v.io ≡ Some now → StartsBy t st leaf (IsWriteAt t w.bytes Within now more) → StartsBy t st leaf (IsPartAt t v more f o)
starts_at t w v family more f o st io now None i e inner h own bytes is at =
    from_write t w v family more f o st st io now e h own bytes is refl (λ k j there here. ap (λ (x : Inner). x.number) (same_some st.inner k j there here)) at
starts_at t w v family more f o st io now (Some child) i e inner h own bytes is at = record {
  act = at.act;
  next = at.next;
  child_is = at.child_is;
  after = from_write t w v family more f o st (handed st (Leaf at.act)) io now e h own bytes is
      (handed_outer st.outer st.inner st.children (Leaf at.act) i inner) (handed_same st.outer st.inner st.children (Leaf at.act)) at.after;
}

-- ---- one is heard

set_outer : (outer : Frame) (inner : Option Inner) (kids : List Child) (n : ℕ) (slot : Slot) → (set_at (record { outer = outer; inner = inner; children = kids }) (OfInner n) slot).outer ≡ outer
set_outer outer None kids n slot = refl
set_outer outer (Some i) kids n slot = refl

set_same : (outer : Frame) (inner : Option Inner) (kids : List Child) (n : ℕ) (slot : Slot) → IsSameInner inner (set_at (record { outer = outer; inner = inner; children = kids }) (OfInner n) slot).inner
set_same outer None kids n slot i j e g = absurd (cc)
set_same outer (Some k) kids n slot i j e g =
    let one : k ≡ i = cc in
    number_of k.number _ j g ∙ ap (λ (x : Inner). x.number) one

pub hears_at : (t : Terms) (w v : PartWork) (family more : List Child) (f : Front) (o : WrittenPart) (st : Stack) (io now : WriteIo) (k n : ℕ) (c : Child) (x : Value) → w.io ≡ Some io
    → IsPartAt t w family f o st → v.own ≡ w.own → v.bytes ≡ w.bytes → v.io ≡ Some now → c.seat ≡ OfInner n → IsWriteAt t w.bytes Within now more (heard_of st k c x) → IsPartAt t v more f o (heard_of st k c x)
hears_at t w v family more f o st io now k n c x e h own bytes is seat at =
    from_write t w v family more f o st (heard_of st k c x) io now e h own bytes is
    (ap (λ (s : SeatOf). (set_at st s (Heard x)).outer) seat ∙ set_outer st.outer st.inner st.children n (Heard x))
    (subst (λ (s : SeatOf). IsSameInner st.inner (set_at st s (Heard x)).inner) (sym seat) (set_same st.outer st.inner st.children n (Heard x)))
    at

-- ---- what its fields owe

pub io_over : (tops : List Top) (x : PartWriting) (now : Option WriteIo) (io : WriteIo) (family : List Child) → now ≡ Some io → IsIoOver tops x now family → (x.own ≡ OwnOut) × IsWriteOver tops io × SitsOn Within (IsOutIn io) family
io_over tops x now io family e h = subst (λ (i : Option WriteIo). IsIoOver tops x i family) e h

pub over_io : (tops : List Top) (x : PartWriting) (now : Option WriteIo) (io : WriteIo) (family : List Child) → now ≡ Some io → x.own ≡ OwnOut → IsWriteOver tops io → SitsOn Within (IsOutIn io) family → IsIoOver tops x now family
over_io tops x now io family e out over sits = subst (λ (i : Option WriteIo). IsIoOver tops x i family) (sym e) (out, over, sits)

pub none_over : (tops : List Top) (x : PartWriting) (now : Option WriteIo) (family : List Child) → now ≡ None → IsIoOver tops x now family → NoneSits Within family
none_over tops x now family e h = subst (λ (i : Option WriteIo). IsIoOver tops x i family) e h

pub over_none : (tops : List Top) (x : PartWriting) (now : Option WriteIo) (family : List Child) → now ≡ None → NoneSits Within family → IsIoOver tops x now family
over_none tops x now family e h = subst (λ (i : Option WriteIo). IsIoOver tops x i family) (sym e) h

-- where its own write isn't out there is none
pub no_io : (tops : List Top) (x : PartWriting) (io : Option WriteIo) (family : List Child) → x.own ≡ Due → IsIoOver tops x io family → io ≡ None
no_io tops x None family due h = refl
no_io tops x (Some io) family due h = let never : Due ≡ OwnOut = sym due ∙ h.0 in absurd (cc)

-- the same write goes on
pub over_goes : (tops : List Top) (w v : PartWork) (family more : List Child) (io now : WriteIo) → w.io ≡ Some io → IsPartOver tops w family → v.own ≡ w.own → v.bytes ≡ w.bytes → v.io ≡ Some now
    → IsWriteOver tops now → SitsOn Within (IsOutIn now) more → IsPartOver tops v more
over_goes tops w v family more io now e h own bytes is over sits = record {
  places = subst (λ (x : PartOwn). AreIoPlaces tops (places_at x.part.placing)) (sym own) h.places;
  bytes = λ d. ap length bytes ∙ h.bytes (ap (λ (x : PartOwn). is_due x.part.own) (sym own) ∙ d) ∙ ap (λ (x : PartOwn). x.part.size) (sym own);
  io = over_io tops v.own.part v.io now more is (ap (λ (x : PartOwn). x.part.own) own ∙ (io_over tops w.own.part w.io io family e h.io).0) over sits;
}

-- it begins
pub over_begins : (tops : List Top) (w v : PartWork) (family : List Child) (io : WriteIo) (places : List Place) → w.io ≡ None → IsPartOver tops w family → v.own.part ≡ with_own w.own.part OwnOut → v.io ≡ Some io
    → places ≡ places_at w.own.part.placing → ((tops : List Top) → AreIoPlaces tops places → IsWriteOver tops io) → IsPartOver tops v family
over_begins tops w v family io places none h own is at over = record {
  places = subst (λ (x : PartWriting). AreIoPlaces tops (places_at x.placing)) (sym own) h.places;
  bytes = λ d. absurd (false≢true (ap (λ (x : PartWriting). is_due x.own) (sym own) ∙ d));
  io = over_io tops v.own.part v.io io family is (ap (λ (x : PartWriting). x.own) own) (over tops (subst (AreIoPlaces tops) (sym at) h.places))
      (sits_fresh Within (IsOutIn io) family (none_over tops w.own.part w.io family none h.io));
}

-- and ends
pub over_ends : (tops : List Top) (w v : PartWork) (family : List Child) → IsPartOver tops w family → v.own.part.placing ≡ w.own.part.placing → is_due v.own.part.own ≡ false → v.io ≡ None → NoneSits Within family
    → IsPartOver tops v family
over_ends tops w v family h placing due none sits = record {
  places = subst (λ (p : Placing). AreIoPlaces tops (places_at p)) (sym placing) h.places;
  bytes = λ d. absurd (false≢true (sym due ∙ d));
  io = over_none tops v.own.part v.io family none sits;
}

-- ---- as the calls of the write say it

-- what a call says of the bytes that it was given holds of those that are the part's
pub starts_with : (t : Terms) (w v : PartWork) (family more : List Child) (f : Front) (o : WrittenPart) (st : Stack) (io now : WriteIo) (leaf : Option LeafWork) (held : List ℕ) → held ≡ w.bytes → w.io ≡ Some io
    → IsPartAt t w family f o st → v.own ≡ w.own → v.bytes ≡ w.bytes → v.io ≡ Some now
    → (IsWriteAt t held Within io family st → StartsBy t st leaf (IsWriteAt t held Within now more)) → StartsBy t st leaf (IsPartAt t v more f o)
starts_with t w v family more f o st io now leaf held same e h own bytes is call =
    let i = some_within t w.bytes w.own.part (length f.slots) w.io io st.inner e h.work.within in
    let there : IsWriteAt t w.bytes Within io family st → StartsBy t st leaf (IsWriteAt t w.bytes Within now more) =
    subst (λ (b : List ℕ). IsWriteAt t b Within io family st → StartsBy t st leaf (IsWriteAt t b Within now more)) same call in
    starts_at t w v family more f o st io now leaf i.inside e i.is h own bytes is (there (write_at t w family f o st io e h))

-- the second pass begins, or the write is as it was
pub still_at : (t : Terms) (w v : PartWork) (family : List Child) (f : Front) (o : WrittenPart) (st : Stack) (io now : WriteIo) → w.io ≡ Some io → IsPartAt t w family f o st → v.own ≡ w.own → v.bytes ≡ w.bytes
    → v.io ≡ Some now → (IsWriteAt t w.bytes Within io family st → IsWriteAt t w.bytes Within now family st) → IsPartAt t v family f o st
still_at t w v family f o st io now e h own bytes is call =
    from_write t w v family family f o st st io now e h own bytes is refl (λ k j there here. ap (λ (x : Inner). x.number) (same_some st.inner k j there here)) (call (write_at t w family f o st io e h))

-- of its children one is awaited, so it writes
pub awaited_some : (tops : List Top) (x : PartWriting) (io : Option WriteIo) (family : List Child) (k : ℕ) → IsIoOver tops x io family → IsAwaitedAt Within family k → ((w : WriteIo) → io ≡ Some w → ⊥) → ⊥
awaited_some tops x None family k h a never = h k a.number a.child a.is a.goes a.seat
awaited_some tops x (Some w) family k h a never = never w refl
