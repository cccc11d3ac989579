-- The members of a part that is written: they are handed out, and what its fields owe.
use Rattle.std.proofs.Common.{◌≡◌, ◌≢◌, ℕ, ◌+◌, ◌<◌, List, [], ◌∷◌, ◌++◌, length, map, slice_get, slice_set, true, false, Option, Some, None, ◌⊎◌, inl, inr, refl, sym, ap, subst, ◌∙◌, arith, length-append}
use Rattle.std.proofs.lemmas.List.{length-map}
use Rattle.std.proofs.lemmas.Bool.{false≢true}
use Rattle.zio_types.specs.declared.place.Top.{Top}
use Rattle.zio_types.specs.declared.request.ChildKind.TheVariants.{Gang as GangKind}
use Rattle.zio_cksum.proofs.SplitLemmas.{few_law}
use Rattle.zio_gang.specs.Attempts.{Terms}
use Rattle.zio_trace.specs.Conflicts.{is_single}
use Rattle.zio_trace.specs.Tasks.{Task}
use Rattle.zio_frames.specs.Frames.{Child, Frame, Inner, OfInner, OfOuter, Stack, asking, asking_in, with_asked}
use Rattle.zio_frames.specs.Moves.{AsksNext, child_for, handed}
use Rattle.zio_frames.specs.Slots.{IsOut}
use Rattle.zio_frames.proofs.GetLemmas.{get_either, get_exchanged}
use Rattle.zio_parts.specs.Parts.{PartWriting, is_gang, member_bytes, member_slot, own_slots, places_at, slots_at, slots_of}
use Rattle.zio_parts.specs.PartWrites.{is_due, step_of}
use Rattle.zio_parts.specs.declared.members.Member.TheVariants.{Out as MemberOut}
use Rattle.zio_parts.specs.declared.parts.OwnWrite.{OwnWrite}
use Rattle.zio_parts.specs.declared.parts.OwnWrite.TheVariants.{Due}
use Rattle.zio_parts.specs.declared.parts.PartStep.{PartStep}
use Rattle.zio_parts.specs.declared.parts.PartStep.TheVariants.{AskBody, AskHead, End, Member as MemberStep, Wait, WaitReady, WriteBody, WriteHeader}
use Rattle.zio_parts.specs.declared.parts.Placing.{Placing}
use Rattle.zio_parts.specs.declared.parts.Placing.TheVariants.{Body, Head as HeadDue, Whole, Gang, Nowhere}
use Rattle.zio_stages.specs.NodeChildren.{new_child}
use Rattle.zio_stages.specs.NodeIos.{NoneSits}
use Rattle.zio_stages.specs.OwnParts.{HandsTo}
use Rattle.zio_stages.specs.PartNodes.{IsFreshPart, IsMemberUnder}
use Rattle.zio_stages.specs.PartOwns.{HandsMember, WrittenPart, member_of, part_task}
use Rattle.zio_stages.specs.PartWorks.{Front, IsFront, IsIdle, IsMemberNext, IsIoOver, IsPartAt, IsPartOver}
use Rattle.zio_stages.specs.WriteIos.{AreIoPlaces, IsOutIn}
use Rattle.zio_stages.specs.declared.family.Layer.TheVariants.{Within}
use Rattle.zio_stages.specs.declared.part.PartOwn.{PartOwn}
use Rattle.zio_stages.specs.declared.part_node.PartNode.{PartNode}
use Rattle.zio_stages.specs.declared.part_work.PartWork.{PartWork}
use Rattle.zio_stages.specs.declared.write_io.WriteIo.{WriteIo}
use Rattle.zio_stages.proofs.NodeIoLemmas.{sits_beside, sits_changed}
use Rattle.zio_stages.proofs.PartMoves.{asks_behind, behind_more, none_within, within_none}
use Rattle.zio_stages.proofs.PartSteps.{gang_member}

-- ---- a member is handed out

slots_many : (placing : Placing) (x : PartWriting) → is_gang placing ≡ true → x.own ≡ Due → length (slots_at placing x) ≡ 2 + length x.members
slots_many Body x g due = absurd (false≢true g)
slots_many HeadDue x g due = absurd (false≢true g)
slots_many (Whole places) x g due = absurd (false≢true g)
slots_many (Gang places) x g due =
    let none : length (own_slots x.own) ≡ 0 = ap (λ own. length (own_slots own)) due in
    let many : length (map member_slot x.members ++ own_slots x.own) ≡ length x.members = omega (arith, length-append (map member_slot x.members) (own_slots x.own), length-map x.members member_slot) in
    omega arith
slots_many Nowhere x g due = absurd (false≢true g)

-- how many operations stand before it
pub member_number : (x : PartWriting) (n : ℕ) → MemberStep n ≡ step_of x → x.own ≡ Due → length (slots_of x) ≡ 2 + n
member_number x n is due =
    let g = gang_member x.placing x n is in
    let many : length (slots_at x.placing x) ≡ 2 + length x.members = slots_many x.placing x g.gang due in
    omega (arith, many, g.next.number)

-- what is due is a member
pub member_only : (step : PartStep) → IsMemberNext step → ((n : ℕ) → step ≡ MemberStep n → ⊥) → ⊥
member_only AskBody is never = is
member_only AskHead is never = is
member_only WriteBody is never = is
member_only WriteHeader is never = is
member_only (MemberStep n) is never = never n refl
member_only WaitReady is never = is
member_only Wait is never = is
member_only End is never = is

-- nor is one that is the same
pub idle_with : (a b : OwnWrite) → a ≡ b → IsIdle b → IsIdle a
idle_with a b e h = subst IsIdle (sym e) h

-- how a node that does no part within hands it out
record IsHanded (outer : Frame) (kids : List Child) (op : Task) (next : Stack) : Type 0 where
  pub outer_is : next.outer ≡ with_asked outer op (IsOut None)
  pub inner_is : next.inner ≡ None
  pub children_are : next.children ≡ kids ++ child_for (OfOuter (length outer.slots)) op ∷ []

handed_alone : (outer : Frame) (inner : Option Inner) (kids : List Child) (op : Task) → inner ≡ None → IsHanded outer kids op (handed (record { outer = outer; inner = inner; children = kids }) op)
handed_alone outer None kids op e = record { outer_is = refl; inner_is = refl; children_are = refl }
handed_alone outer (Some i) kids op e = absurd (cc)

pub hands_member : (t : Terms) (w v : PartWork) (family more : List Child) (f : Front) (o : WrittenPart) (front n : ℕ) (st : Stack) (child : PartNode) (begun : PartOwn) → IsFront t f o front
    → (h : IsPartAt t w family f o st) → w.io ≡ None → HandsMember t v.own begun o n h.asked h.slots → length h.slots ≡ 2 + n
    → more ≡ family ++ new_child (OfOuter (front + 2 + n)) GangKind ∷ [] → v.bytes ≡ w.bytes → v.io ≡ w.io → v.own.part.own ≡ w.own.part.own
    → IsFreshPart t child (part_task (member_of o begun.part.path (member_bytes o.bytes n))) → HandsTo t GangKind (IsFreshPart t child) (IsPartAt t v more f o) st
hands_member t w v family more f o front n st child begun is h none hands many grown bytes io own fresh =
    let idle = none_within t w.bytes w.own.part (length f.slots) w.io st.inner none h.work.within in
    let op : Task = part_task (member_of o begun.part.path (member_bytes o.bytes n)) in
    let next : Stack = handed st op in
    let e : IsHanded st.outer st.children op next = handed_alone st.outer st.inner st.children op idle.0 in
    let asker : asking st ≡ st.outer = ap (asking_in st.outer) idle.0 in
    let long : length st.outer.slots ≡ length f.slots + length h.slots = ap length h.work.behind.slots_are ∙ length-append f.slots h.slots in
    let seat : front + 2 + n ≡ length st.outer.slots = omega (arith, is.count, many) in
    record {
      op = op;
      part = ap (λ (x : Frame). is_single x.op) asker ∙ ap is_single h.op ∙ is.whole;
      asks = subst (λ (x : Frame). AsksNext t x op) (sym asker) (asks_behind t w family f o front st op is h hands.out.0);
      of_kind = refl;
      child_is = fresh;
      after = record {
        asked = h.asked ++ op ∷ [];
        slots = h.slots ++ IsOut None ∷ [];
        op = ap (λ (x : Frame). x.op) e.outer_is ∙ h.op;
        work = record {
          behind = behind_more f.asked h.asked f.slots h.slots st next op (IsOut None) h.work.behind e.outer_is;
          own = hands.out.1;
          bytes = λ d. h.work.bytes (ap is_due (sym own) ∙ d) ∙ sym bytes;
          within = within_none t v.bytes v.own.part (length f.slots) v.io next.inner (io ∙ none) (e.inner_is, idle_with v.own.part.own w.own.part.own own idle.1);
        };
        children = grown ∙ ap (λ (cs : List Child). cs ++ new_child (OfOuter (front + 2 + n)) GangKind ∷ []) h.children
            ∙ ap (λ k. st.children ++ new_child (OfOuter k) GangKind ∷ []) seat ∙ sym e.children_are;
      };
    }

-- nothing of it is done, and it is one level below
pub member_under : (x y : PartWriting) (n : ℕ) (child : PartNode) → MemberStep n ≡ step_of x → y.members ≡ x.members ++ MemberOut ∷ [] → y.path ≡ x.path
    → child.work.own.part.path ≡ x.path ++ n ∷ [] → length x.path < 8 → child.work.own.part.members ≡ [] → child.work.io ≡ None → IsMemberUnder y child
member_under x y n child is members path at deep begun none =
    let next = (gang_member x.placing x n is).next in
    let same : length y.path ≡ length x.path = ap length path in
    record {
      below = omega (arith, ap length at, length-append x.path (n ∷ []), same);
      deep = omega (arith, same, deep);
      few = omega (arith, ap length members, length-append x.members (MemberOut ∷ []), next.less, few_law x.size);
      begun = begun;
      none = none;
    }

-- ---- what its fields owe

pub none_beside : (family : List Child) (k : ℕ) → NoneSits Within family → NoneSits Within (family ++ new_child (OfOuter k) GangKind ∷ [])
none_beside family k h = λ j n d e goes at. by j n d goes at (get_either family (new_child (OfOuter k) GangKind) d j e) where
  by : (j n : ℕ) (d : Child) → d.ended ≡ false → d.seat ≡ OfInner n → (slice_get family j ≡ Some d) ⊎ ((j ≡ length family) × (new_child (OfOuter k) GangKind ≡ d)) → ⊥
  by j n d goes at (inl e) = h j n d e goes at
  by j n d goes at (inr e) =
      let never : OfOuter k ≡ OfInner n = ap (λ (x : Child). x.seat) e.1 ∙ at in
      absurd (cc)

io_beside : (tops : List Top) (x : PartWriting) (io : Option WriteIo) (family : List Child) (k : ℕ) → IsIoOver tops x io family → IsIoOver tops x io (family ++ new_child (OfOuter k) GangKind ∷ [])
io_beside tops x None family k h = none_beside family k h
io_beside tops x (Some io) family k h = (h.0, h.1, sits_beside Within (IsOutIn io) family (new_child (OfOuter k) GangKind) (λ n e. cc) h.2)

io_of_part : (tops : List Top) (x y : PartWriting) (io : Option WriteIo) (family : List Child) → y.own ≡ x.own → IsIoOver tops x io family → IsIoOver tops y io family
io_of_part tops x y None family own h = h
io_of_part tops x y (Some io) family own h = (own ∙ h.0, h.1, h.2)

-- the same places, bytes and own write
pub over_with : (tops : List Top) (w v : PartWork) (family more : List Child) → IsPartOver tops w family → v.own.part.placing ≡ w.own.part.placing → v.own.part.own ≡ w.own.part.own
    → v.own.part.size ≡ w.own.part.size → v.bytes ≡ w.bytes → v.io ≡ w.io → IsIoOver tops w.own.part w.io more → IsPartOver tops v more
over_with tops w v family more h placing own size bytes io kids = record {
  places = subst (λ (p : Placing). AreIoPlaces tops (places_at p)) (sym placing) h.places;
  bytes = λ d. ap length bytes ∙ h.bytes (ap is_due (sym own) ∙ d) ∙ sym size;
  io = subst (λ (i : Option WriteIo). IsIoOver tops v.own.part i more) (sym io) (io_of_part tops w.own.part v.own.part w.io more own kids);
}

-- one that changed, and sits where it sat or ended
pub none_changed : (family : List Child) (k : ℕ) (c d : Child) → slice_get family k ≡ Some c → d.seat ≡ c.seat → (d.ended ≡ false → c.ended ≡ false) → NoneSits Within family
    → NoneSits Within (slice_set family k d)
none_changed family k c d is seat goes h = λ j n e at going there. by j n e going there (get_exchanged family k j d e at) where
  by : (j n : ℕ) (e : Child) → e.ended ≡ false → e.seat ≡ OfInner n → ((j ≡ k) × (d ≡ e)) ⊎ ((j ≢ k) × (slice_get family j ≡ Some e)) → ⊥
  by j n e going there (inl same) = h k n c is (goes (ap (λ (x : Child). x.ended) same.1 ∙ going)) (sym seat ∙ ap (λ (x : Child). x.seat) same.1 ∙ there)
  by j n e going there (inr other) = h j n e other.1 going there

pub io_changed : (tops : List Top) (x : PartWriting) (io : Option WriteIo) (family : List Child) (k : ℕ) (c d : Child) → slice_get family k ≡ Some c → d.seat ≡ c.seat → (d.ended ≡ false → c.ended ≡ false)
    → IsIoOver tops x io family → IsIoOver tops x io (slice_set family k d)
io_changed tops x None family k c d is seat goes h = λ j n e at going there. by j n e going there (get_exchanged family k j d e at) where
  by : (j n : ℕ) (e : Child) → e.ended ≡ false → e.seat ≡ OfInner n → ((j ≡ k) × (d ≡ e)) ⊎ ((j ≢ k) × (slice_get family j ≡ Some e)) → ⊥
  by j n e going there (inl same) = h k n c is (goes (ap (λ (x : Child). x.ended) same.1 ∙ going)) (sym seat ∙ ap (λ (x : Child). x.seat) same.1 ∙ there)
  by j n e going there (inr other) = h j n e other.1 going there
io_changed tops x (Some io) family k c d is seat goes h = (h.0, h.1, sits_changed Within (IsOutIn io) family k c d is seat goes h.2)

-- the same, and one more child
pub over_more : (tops : List Top) (w v : PartWork) (family more : List Child) (k : ℕ) → IsPartOver tops w family → v.own.part.placing ≡ w.own.part.placing → v.own.part.own ≡ w.own.part.own
    → v.own.part.size ≡ w.own.part.size → v.bytes ≡ w.bytes → v.io ≡ w.io → more ≡ family ++ new_child (OfOuter k) GangKind ∷ [] → IsPartOver tops v more
over_more tops w v family more k h placing own size bytes io grown =
    over_with tops w v family more h placing own size bytes io
    (subst (IsIoOver tops w.own.part w.io) (sym grown) (io_beside tops w.own.part w.io family k h.io))
