-- Operations of a part that is written which are out: of which kind they are, and what is owed for them.
use Rattle.std.proofs.Common.{◌≡◌, ℕ, zero, suc, ◌+◌, ◌<◌, List, [], ◌∷◌, ◌++◌, length, map, slice_get, Bool, true, false, ◌&&◌, not, nat_le, Option, Some, None, ◌⊎◌, inl, inr, refl, sym, ap, subst, ◌∙◌, arith}
use Rattle.std.specs.Prelude.{Contains, slice_index_or}
use Rattle.zio_types.specs.declared.request.ChildKind.{ChildKind}
use Rattle.zio_types.specs.declared.request.ChildKind.TheVariants.{Gang as GangKind}
use Rattle.zio_types.specs.declared.request.Phase.TheVariants.{Done, Ready}
use Rattle.zio_types.specs.Machine.{same_kind}
use Rattle.zio_types.specs.Places.{sector_size}
use Rattle.zio_blkptr.specs.declared.pointer.Bp.{Bp}
use Rattle.zio_gang.specs.Attempts.{Terms}
use Rattle.zio_trace.specs.Tasks.{Attempt, Find, Leaf, ReadCopies, ReadHeads, ReadTree, Settle, TakePlaces, Task, WriteCopies, WritePart}
use Rattle.zio_frames.specs.Frames.{Child, Inner, OfOuter, Seat as SeatOf, Stack, kind_of_task, needs_none}
use Rattle.zio_frames.specs.Seats.{HasSeat, IsInnerSeat, IsSatAt, IsSeated, ShowsTold, asked_at, slot_at}
use Rattle.zio_frames.specs.Slots.{Heard, IsOut, Slot, told_in}
use Rattle.zio_frames.proofs.GetLemmas.{all_at}
use Rattle.zio_parts.specs.Parts.{PartWriting, slots_of}
use Rattle.zio_parts.specs.declared.members.Member.{Member}
use Rattle.zio_parts.specs.declared.parts.OwnWrite.{OwnWrite}
use Rattle.zio_parts.specs.declared.parts.OwnWrite.TheVariants.{Due, Out as OwnOut, Ended as OwnEnded}
use Rattle.zio_parts.specs.declared.parts.Placing.{Placing}
use Rattle.zio_parts.specs.declared.parts.Placing.TheVariants.{Body, Head as HeadDue, Whole, Gang, Nowhere}
use Rattle.zio_stages.specs.NodeChildren.{is_awaited, is_owing}
use Rattle.zio_stages.specs.OwnParts.{IsOwed}
use Rattle.zio_stages.specs.PartOwns.{ForBytes, ForMember, ForOther, PartAsk, WrittenPart, ask_of, asks_at, asks_in, member_asks, own_asks, refused_asks}
use Rattle.zio_stages.specs.PartsOut.{ArePartsOut, IsPartOp}
use Rattle.zio_stages.specs.PartWorks.{Front, IsPartAt}
use Rattle.zio_stages.specs.declared.part_work.PartWork.{PartWork}
use Rattle.zio_stages.proofs.NodeIoMoves.{any_at, some_out}
use Rattle.zio_stages.proofs.OutPlaces.{get_behind}
use Rattle.zio_stages.proofs.PartMoves.{none_within}

-- ---- which operation it is

own_other : (own : OwnWrite) (n : ℕ) → slice_get (own_asks own) n ≡ Some ForOther → ⊥
own_other Due n e = cc
own_other OwnOut zero e = cc
own_other OwnOut (suc n) e = cc
own_other (OwnEnded error) zero e = cc
own_other (OwnEnded error) (suc n) e = cc

members_other : (members : List Member) (own : OwnWrite) (n : ℕ) → slice_get (member_asks members ++ own_asks own) n ≡ Some ForOther → ⊥
members_other [] own n e = own_other own n e
members_other (m ∷ members) own zero e = cc
members_other (m ∷ members) own (suc n) e = members_other members own n e

refused_other : (b : Bool) (n : ℕ) → slice_get (refused_asks b) n ≡ Some ForOther → ⊥
refused_other true zero e = cc
refused_other true (suc n) e = cc
refused_other false zero e = cc
refused_other false (suc zero) e = cc
refused_other false (suc (suc n)) e = cc

no_other : (placing : Placing) (x : PartWriting) (n : ℕ) → slice_get (asks_at placing x) n ≡ Some ForOther → ⊥
no_other Body x n e = cc
no_other HeadDue x zero e = cc
no_other HeadDue x (suc n) e = cc
no_other (Whole places) x zero e = cc
no_other (Whole places) x (suc n) e = own_other x.own n e
no_other (Gang places) x zero e = cc
no_other (Gang places) x (suc zero) e = cc
no_other (Gang places) x (suc (suc n)) e = members_other x.members x.own n e
no_other Nowhere x n e = refused_other (nat_le x.size sector_size) n e

part_there : (asked : List Task) (slots : List Slot) (n : ℕ) (op : Task) (told : Option (Option Bp)) → ArePartsOut asked slots → slice_get asked n ≡ Some op → slice_get slots n ≡ Some (IsOut told) → IsPartOp op
part_there [] slots n op told h a e = absurd (cc)
part_there (q ∷ asked) [] n op told h a e = absurd (cc)
part_there (q ∷ asked) (Heard v ∷ slots) zero op told h a e = absurd (cc)
part_there (q ∷ asked) (IsOut out ∷ slots) zero op told h a e = let same : q ≡ op = cc in subst IsPartOp same h.0
part_there (q ∷ asked) (Heard v ∷ slots) (suc n) op told h a e = part_there asked slots n op told h a e
part_there (q ∷ asked) (IsOut out ∷ slots) (suc n) op told h a e = part_there asked slots n op told h.1 a e

get_asks : (asked : List Task) (n : ℕ) (op : Task) → slice_get asked n ≡ Some op → slice_get (map ask_of asked) n ≡ Some (ask_of op)
get_asks [] n op e = absurd (cc)
get_asks (q ∷ asked) zero op e = let same : q ≡ op = cc in ap (λ x. Some (ask_of x)) same
get_asks (q ∷ asked) (suc n) op e = get_asks asked n op e

pub gang_kind : (op : Task) → IsPartOp op → (ask_of op ≡ ForOther → ⊥) → kind_of_task op ≡ GangKind
gang_kind (Leaf act) is never = absurd is
gang_kind (Find a) is never = absurd is
gang_kind (ReadCopies repair test len places) is never = absurd (never refl)
gang_kind (WriteCopies bytes places) is never = refl
gang_kind (WritePart attempt p sum copies levels path bytes) is never = refl
gang_kind (ReadHeads look levels path bp) is never = absurd (never refl)
gang_kind (ReadTree tree) is never = absurd (never refl)
gang_kind (TakePlaces tree) is never = absurd is
gang_kind (Attempt attempt p kids) is never = absurd (never refl)
gang_kind (Settle p kids) is never = absurd (never refl)

pub member_or_bytes : (op : Task) → IsPartOp op → (ask_of op ≡ ForOther → ⊥) → (ask_of op ≡ ForMember) ⊎ (ask_of op ≡ ForBytes)
member_or_bytes (Leaf act) is never = absurd is
member_or_bytes (Find a) is never = absurd is
member_or_bytes (ReadCopies repair test len places) is never = absurd (never refl)
member_or_bytes (WriteCopies bytes places) is never = inr refl
member_or_bytes (WritePart attempt p sum copies levels path bytes) is never = inl refl
member_or_bytes (ReadHeads look levels path bp) is never = absurd (never refl)
member_or_bytes (ReadTree tree) is never = absurd (never refl)
member_or_bytes (TakePlaces tree) is never = absurd is
member_or_bytes (Attempt attempt p kids) is never = absurd (never refl)
member_or_bytes (Settle p kids) is never = absurd (never refl)

-- what an operation of the part that is out is
pub record IsOwnOut (w : PartWork) (n : ℕ) (op : Task) (told : Option (Option Bp)) : Type 0 where
  pub part : IsPartOp op
  pub asks : slice_get (asks_in w.own.part) n ≡ Some (ask_of op)
  pub out : slice_get (slots_of w.own.part) n ≡ Some (IsOut told)
  pub known : ask_of op ≡ ForOther → ⊥

pub own_out : (t : Terms) (w : PartWork) (family : List Child) (f : Front) (o : WrittenPart) (st : Stack) (k n : ℕ) (op : Task) (told : Option (Option Bp)) → IsPartAt t w family f o st → k ≡ length f.slots + n
    → slice_get st.outer.asked k ≡ Some op → slice_get st.outer.slots k ≡ Some (IsOut told) → IsOwnOut w n op told
own_out t w family f o st k n op told h at a e =
    let b = h.work.behind in
    let own = h.work.own in
    let before : k ≡ length f.asked + n = omega (arith, at, b.full) in
    let asked : slice_get h.asked n ≡ Some op = sym (get_behind f.asked h.asked k n before) ∙ ap (λ (qs : List Task). slice_get qs k) (sym b.asked_are) ∙ a in
    let slot : slice_get h.slots n ≡ Some (IsOut told) = sym (get_behind f.slots h.slots k n at) ∙ ap (λ (xs : List Slot). slice_get xs k) (sym b.slots_are) ∙ e in
    let asks : slice_get (asks_in w.own.part) n ≡ Some (ask_of op) = ap (λ (qs : List PartAsk). slice_get qs n) (sym own.asks) ∙ get_asks h.asked n op asked in
    record {
      part = part_there h.asked h.slots n op told own.out asked slot;
      asks = asks;
      out = ap (λ (xs : List Slot). slice_get xs n) (sym own.shown) ∙ slot;
      known = λ other. no_other w.own.part.placing w.own.part n (asks ∙ ap (λ (a : PartAsk). Some a) other);
    }

-- ---- what is owed

-- a gang child that hasn't ended does the operation
record IsOwing (st : Stack) (told : Option (Option Bp)) : Type 0 where
  pub number : ℕ
  pub child : Child
  pub is : slice_get st.children number ≡ Some child
  pub gang : child.kind ≡ GangKind
  pub goes : child.ended ≡ false
  pub shows : ShowsTold (needs_none child.kind) child.told told

owing : (t : Terms) (w : PartWork) (family : List Child) (f : Front) (o : WrittenPart) (st : Stack) (n : ℕ) (told : Option (Option Bp)) → IsSeated st → (h : IsPartAt t w family f o st) → st.inner ≡ None
    → slice_get h.slots n ≡ Some (IsOut told) → IsOwing st told
owing t w family f o st n told seated h alone e = by (seated.all seat told there)
  where
    seat : SeatOf
    seat = OfOuter (length f.slots + n)

    there : slot_at st seat ≡ Some (IsOut told)
    there = ap (λ (xs : List Slot). slice_get xs (length f.slots + n)) h.work.behind.slots_are ∙ get_behind f.slots h.slots (length f.slots + n) n refl ∙ e

    not_within : IsInnerSeat st.inner seat → ⊥
    not_within is = subst (λ (i : Option Inner). IsInnerSeat i seat) alone is

    sat : IsSatAt st seat → IsOwing st told
    sat s =
        let sits = all_at (HasSeat st) st.children s.number s.child seated.each s.is s.goes in
        let op : Task = sits.0 in
        let asked : asked_at st seat ≡ Some op = ap (asked_at st) (sym s.there) ∙ sits.2.asked in
        let slot : slot_at st seat ≡ Some (IsOut sits.1) = ap (slot_at st) (sym s.there) ∙ sits.2.slot in
        let both : Some (IsOut sits.1) ≡ Some (IsOut told) = sym slot ∙ there in
        let same : sits.1 ≡ told = cc in
        let own = own_out t w family f o st (length f.slots + n) n op told h refl asked there in
        record {
          number = s.number;
          child = s.child;
          is = s.is;
          gang = sits.2.kind ∙ gang_kind op own.part own.known;
          goes = s.goes;
          shows = subst (ShowsTold (needs_none s.child.kind) s.child.told) same sits.2.shows;
        }

    by : IsInnerSeat st.inner seat ⊎ IsSatAt st seat → IsOwing st told
    by (inl is) = absurd (not_within is)
    by (inr s) = sat s

none_at : (slots : List Slot) (k : ℕ) → k < length (told_in slots) → slice_index_or (told_in slots) k None ≡ None → (n : ℕ) × (slice_get slots n ≡ Some (IsOut None))
none_at [] k l e = absurd (omega (arith, l))
none_at (Heard v ∷ slots) k l e = let r : (n : ℕ) × (slice_get slots n ≡ Some (IsOut None)) = none_at slots k l e in (suc r.0, r.1)
none_at (IsOut told ∷ slots) zero l e = (0, ap (λ x. Some (IsOut x)) e)
none_at (IsOut told ∷ slots) (suc k) l e = let r : (n : ℕ) × (slice_get slots n ≡ Some (IsOut None)) = none_at slots k (omega arith) e in (suc r.0, r.1)

none_in : (slots : List Slot) → Contains (told_in slots) None → (n : ℕ) × (slice_get slots n ≡ Some (IsOut None))
none_in slots h = none_at slots h.0 h.1 h.2

untold : (told : Bool) → ShowsTold false told None → told ≡ false
untold true h = absurd h
untold false h = refl

owes_ready : (kind : ChildKind) (told ended : Bool) → kind ≡ GangKind → ShowsTold (needs_none kind) told None → ended ≡ false
    → (same_kind kind GangKind && not told) && not ended ≡ true
owes_ready kind told ended e h goes =
    let never : told ≡ false = untold told (subst (λ k. ShowsTold (needs_none k) told None) e h) in
    (λ i. (same_kind (e i) GangKind && not (never i)) && not (goes i))

owes_done : (kind : ChildKind) (ended : Bool) → kind ≡ GangKind → ended ≡ false → same_kind kind GangKind && not ended ≡ true
owes_done kind ended e never = ap (λ k. same_kind k GangKind && not ended) e ∙ ap (λ b. not b) never

pub owed_ready : (t : Terms) (w : PartWork) (family : List Child) (f : Front) (o : WrittenPart) (st : Stack) → w.io ≡ None → IsSeated st → (h : IsPartAt t w family f o st) → Contains (told_in h.slots) None → IsOwed GangKind Ready st
owed_ready t w family f o st none seated h some =
    let idle = none_within t w.bytes w.own.part (length f.slots) w.io st.inner none h.work.within in
    let n = none_in h.slots some in
    let c = owing t w family f o st n.0 None seated h idle.0 n.1 in
    any_at (is_awaited GangKind Ready) st.children c.number c.child c.is (owes_ready c.child.kind c.child.told c.child.ended c.gang c.shows c.goes)

pub owed_done : (t : Terms) (w : PartWork) (family : List Child) (f : Front) (o : WrittenPart) (st : Stack) → w.io ≡ None → IsSeated st → (h : IsPartAt t w family f o st) → 0 < length (told_in h.slots) → IsOwed GangKind Done st
owed_done t w family f o st none seated h some =
    let idle = none_within t w.bytes w.own.part (length f.slots) w.io st.inner none h.work.within in
    let n = some_out h.slots some in
    let c = owing t w family f o st n.0 n.1 seated h idle.0 n.2 in
    any_at (is_owing GangKind Done) st.children c.number c.child c.is (owes_done c.child.kind c.child.ended c.gang c.goes)
