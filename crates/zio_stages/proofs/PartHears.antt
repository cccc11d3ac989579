-- What a part that is written hears of its members.
use Rattle.std.proofs.Common.{◌≡◌, ℕ, ◌+◌, List, length, set, slice_get, slice_set, Option, Some, None, refl, sym, ap, subst, ◌∙◌}
use Rattle.zio_gang.specs.Attempts.{Terms}
use Rattle.zio_frames.specs.Frames.{Child, Frame, Inner, OfOuter, Seat as SeatOf, Stack, with_slot}
use Rattle.zio_frames.specs.Moves.{set_at, with_children}
use Rattle.zio_frames.specs.Slots.{Slot}
use Rattle.zio_parts.specs.Parts.{PartWriting}
use Rattle.zio_parts.specs.PartWrites.{is_due}
use Rattle.zio_stages.specs.PartOwns.{IsPartOwn, PartAsk, WrittenPart, asks_in}
use Rattle.zio_stages.specs.PartWorks.{Front, IsPartAt, IsPartWithin}
use Rattle.zio_stages.specs.declared.part.PartOwn.{PartOwn}
use Rattle.zio_stages.specs.declared.part_work.PartWork.{PartWork}
use Rattle.zio_stages.specs.declared.write_io.WriteIo.{WriteIo}
use Rattle.zio_stages.proofs.PartMoves.{behind_set}
use Rattle.zio_stages.proofs.PartMembers.{idle_with}

-- ---- a member is heard

within_as : (t : Terms) (bytes held : List ℕ) (x y : PartWriting) (front : ℕ) (io now : Option WriteIo) (inner : Option Inner) → held ≡ bytes → now ≡ io → y.own ≡ x.own → asks_in y ≡ asks_in x
    → IsPartWithin t bytes x front io inner → IsPartWithin t held y front now inner
within_as t bytes held x y front io now inner same is own asks h =
    subst (λ (i : Option WriteIo). IsPartWithin t held y front i inner) (sym is) (subst (λ (bs : List ℕ). IsPartWithin t bs y front io inner) (sym same) (by io h))
  where
    by : (i : Option WriteIo) → IsPartWithin t bytes x front i inner → IsPartWithin t bytes y front i inner
    by None k = (k.0, idle_with y.own x.own own k.1)
    by (Some i) k = record { inside = k.inside; is = k.is; number = k.number; at = k.at; asks = ap (λ (qs : List PartAsk). slice_get qs k.number) asks ∙ k.asks; writes = k.writes }

pub member_goes : (t : Terms) (w v : PartWork) (family more : List Child) (f : Front) (o : WrittenPart) (st : Stack) (k n : ℕ) (c : Child) (mark : Child → Child) (slot : Slot) → (h : IsPartAt t w family f o st)
    → c.seat ≡ OfOuter (length f.slots + n) → IsPartOwn t v.own o h.asked (set h.slots n slot) → v.own.part.own ≡ w.own.part.own → v.bytes ≡ w.bytes → v.io ≡ w.io
    → more ≡ slice_set family k (mark c) → IsPartAt t v more f o (with_children (set_at st c.seat slot) (slice_set st.children k (mark c)))
member_goes t w v family more f o st k n c mark slot h seat own due bytes io grown =
    let next : Stack = with_children (set_at st c.seat slot) (slice_set st.children k (mark c)) in
    let outer : next.outer ≡ with_slot st.outer (length f.slots + n) slot = ap (λ (s : SeatOf). (set_at st s slot).outer) seat in
    let inner : next.inner ≡ st.inner = ap (λ (s : SeatOf). (set_at st s slot).inner) seat in
    let asks : asks_in v.own.part ≡ asks_in w.own.part = sym own.asks ∙ h.work.own.asks in
    record {
      asked = h.asked;
      slots = set h.slots n slot;
      op = ap (λ (x : Frame). x.op) outer ∙ h.op;
      work = record {
        behind = behind_set f.asked h.asked f.slots h.slots st next (length f.slots + n) n slot h.work.behind refl outer;
        own = own;
        bytes = λ d. h.work.bytes (ap is_due (sym due) ∙ d) ∙ sym bytes;
        within = subst (IsPartWithin t v.bytes v.own.part (length f.slots) v.io) (sym inner)
            (within_as t w.bytes v.bytes w.own.part v.own.part (length f.slots) w.io v.io st.inner bytes io due asks h.work.within);
      };
      children = grown ∙ ap (λ (cs : List Child). slice_set cs k (mark c)) h.children;
    }

-- ---- the same once more

pub same_at : (t : Terms) (w v : PartWork) (family more : List Child) (f : Front) (o : WrittenPart) (st : Stack) → IsPartAt t w family f o st → v.own ≡ w.own → v.bytes ≡ w.bytes → v.io ≡ w.io → more ≡ family
    → IsPartAt t v more f o st
same_at t w v family more f o st h own bytes io kids = record {
  asked = h.asked;
  slots = h.slots;
  op = h.op;
  work = record {
    behind = h.work.behind;
    own = subst (λ (x : PartOwn). IsPartOwn t x o h.asked h.slots) (sym own) h.work.own;
    bytes = λ d. h.work.bytes (ap (λ (x : PartOwn). is_due x.part.own) (sym own) ∙ d) ∙ sym bytes;
    within = within_as t w.bytes v.bytes w.own.part v.own.part (length f.slots) w.io v.io st.inner bytes io (ap (λ (x : PartOwn). x.part.own) own) (ap (λ (x : PartOwn). asks_in x.part) own) h.work.within;
  };
  children = kids ∙ h.children;
}
