-- The write of a part goes on: which stages it was in stay open to it.
use Rattle.std.proofs.Common.{◌≡◌, ℕ, zero, suc, List, [], ◌∷◌, length, set, Bool, true, false, ◌&&◌, nat_le, nat_lt, Option, Some, None, inl, inr, refl, sym, ap, subst, ◌∙◌, length-set}
use Rattle.std.specs.List.{list_all}
use Rattle.std.proofs.lemmas.Bool.{and_parts, false≢true, le-ltb, leb-true}
use Rattle.zio_types.specs.declared.place.Top.{Top}
use Rattle.zio_frames.specs.Frames.{Child}
use Rattle.zio_parts.specs.Parts.{PartWriting, is_told, member_count}
use Rattle.zio_parts.specs.PartWrites.{headed_step, is_due, is_ready_at, member_step, own_step, step_at, with_members, with_own}
use Rattle.zio_parts.specs.declared.members.Member.{Member}
use Rattle.zio_parts.specs.declared.parts.OwnWrite.{OwnWrite}
use Rattle.zio_parts.specs.declared.parts.OwnWrite.TheVariants.{Due, Out as OwnOut, Ended as OwnEnded}
use Rattle.zio_parts.specs.declared.parts.PartStep.TheVariants.{WriteBody, WriteHeader, End}
use Rattle.zio_parts.specs.declared.parts.Placing.{Placing}
use Rattle.zio_parts.specs.declared.parts.Placing.TheVariants.{Body, Head as HeadDue, Whole, Gang, Nowhere}
use Rattle.zio_stages.specs.PartWorks.{IsIoOver, IsIssued, IsNoLessFar, IsPlaced}
use Rattle.zio_stages.specs.declared.part.PartOwn.{PartOwn}
use Rattle.zio_stages.specs.declared.write_io.WriteIo.{WriteIo}
use Rattle.zio_stages.proofs.PartPlacing.{headed_placed, whole_placed}

-- ---- its own write

-- where its members were handed out they stay so
placed_with : (b : Bool) (members now : List Member) (own own_now : OwnWrite) → IsPlaced (member_step b members own)
    → IsPlaced (member_step b now own_now)
placed_with true members now own own_now h = absurd h
placed_with false members now own own_now h = headed_placed (list_all is_told now) now own_now

placed_own : (placing : Placing) (x : PartWriting) (own : OwnWrite) → IsPlaced (step_at placing x)
    → IsPlaced (step_at placing (with_own x own))
placed_own Body x own h = h
placed_own HeadDue x own h = h
placed_own (Whole places) x own h = whole_placed own
placed_own (Gang places) x own h = placed_with (nat_lt (length x.members) (member_count x)) x.members x.members x.own own h
placed_own Nowhere x own h = tt

ready_own : (placing : Placing) (x : PartWriting) (own : OwnWrite) → is_ready_at placing x ≡ true
    → is_ready_at placing (with_own x own) ≡ true
ready_own Body x own h = h
ready_own HeadDue x own h = h
ready_own (Whole places) x own h = refl
ready_own (Gang places) x own h = h
ready_own Nowhere x own h = refl

issued_own : (x : PartWriting) (own : OwnWrite) → is_due own ≡ false → IsIssued x → IsIssued (with_own x own)
issued_own x own over (inl e) = inl e
issued_own x own over (inr e) = inr over

-- its own write went out, or ended
pub far_own : (x : PartWriting) (own : OwnWrite) → is_due own ≡ false → IsNoLessFar x (with_own x own)
far_own x own over =
    record { placed = placed_own x.placing x own; ready = ready_own x.placing x own; issued = issued_own x own over; many = refl; path = refl }

pub far_same : (x y : PartWriting) → y ≡ x → IsNoLessFar x y
far_same x y e = subst (IsNoLessFar x) (sym e) (record { placed = λ h. h; ready = λ h. h; issued = λ h. h; many = refl; path = refl })

pub far_work : (w v : PartOwn) → v ≡ w → IsNoLessFar w.part v.part
far_work w v e = far_same w.part v.part (ap (λ (x : PartOwn). x.part) e)

pub far_then : (x y z : PartWriting) → IsNoLessFar x y → IsNoLessFar y z → IsNoLessFar x z
far_then x y z h k =
    record {
      placed = λ p. k.placed (h.placed p);
      ready = λ p. k.ready (h.ready p);
      issued = λ p. k.issued (h.issued p);
      many = k.many ∙ h.many;
      path = k.path ∙ h.path;
    }

-- ---- a member told, or ended

told_set : (members : List Member) (n : ℕ) (m : Member) → is_told m ≡ true → list_all is_told members ≡ true
    → list_all is_told (set members n m) ≡ true
told_set [] n m told h = h
told_set (k ∷ members) zero m told h =
    ap (λ b. b && list_all is_told members) told ∙ (and_parts (is_told k) (list_all is_told members) h).1
told_set (k ∷ members) (suc n) m told h =
    let both = and_parts (is_told k) (list_all is_told members) h in
    ap (λ b. b && list_all is_told (set members n m)) both.0 ∙ told_set members n m told both.1

placed_member : (placing : Placing) (x : PartWriting) (n : ℕ) (m : Member) → IsPlaced (step_at placing x)
    → IsPlaced (step_at placing (with_members x (set x.members n m)))
placed_member Body x n m h = h
placed_member HeadDue x n m h = h
placed_member (Whole places) x n m h = h
placed_member (Gang places) x n m h =
    subst (λ k. IsPlaced (member_step (nat_lt k (member_count x)) (set x.members n m) x.own)) (sym (length-set x.members n m))
    (placed_with (nat_lt (length x.members) (member_count x)) x.members (set x.members n m) x.own x.own h)
placed_member Nowhere x n m h = h

ready_member : (placing : Placing) (x : PartWriting) (n : ℕ) (m : Member) → is_told m ≡ true → is_ready_at placing x ≡ true
    → is_ready_at placing (with_members x (set x.members n m)) ≡ true
ready_member Body x n m told h = h
ready_member HeadDue x n m told h = h
ready_member (Whole places) x n m told h = h
ready_member (Gang places) x n m told h =
    let both = and_parts (nat_le (member_count x) (length x.members)) (list_all is_told x.members) h in
    ap (λ k. nat_le (member_count x) k && list_all is_told (set x.members n m)) (length-set x.members n m)
    ∙ ap (λ b. b && list_all is_told (set x.members n m)) both.0 ∙ told_set x.members n m told both.1
ready_member Nowhere x n m told h = h

pub far_member : (x : PartWriting) (n : ℕ) (m : Member) → is_told m ≡ true → IsNoLessFar x (with_members x (set x.members n m))
far_member x n m told =
    record {
      placed = placed_member x.placing x n m;
      ready = ready_member x.placing x n m told;
      issued = λ h. h;
      many = length-set x.members n m;
      path = refl;
    }

-- ---- it begins

own_went : (own : OwnWrite) → (Due ≡ own → ⊥) → is_due own ≡ false
own_went Due never = absurd (never refl)
own_went OwnOut never = refl
own_went (OwnEnded error) never = refl

header_due : (b : Bool) (members : List Member) (own : OwnWrite) → b ≡ false → list_all is_told members ≡ true → Due ≡ own
    → WriteHeader ≡ member_step b members own
header_due b members own less told due =
    ap (λ o. headed_step true members o) due ∙ ap (λ t. headed_step t members own) (sym told)
    ∙ ap (λ c. member_step c members own) (sym less)

-- once its pointer is known its own write is due, or was issued
pub issued_unless : (placing : Placing) (x : PartWriting) → x.placing ≡ placing → is_ready_at placing x ≡ true
    → (WriteBody ≡ step_at placing x → ⊥)
    → (WriteHeader ≡ step_at placing x → ⊥) → IsIssued x
issued_unless Body x at ready body head = absurd (false≢true ready)
issued_unless HeadDue x at ready body head = absurd (false≢true ready)
issued_unless (Whole places) x at ready body head = inr (own_went x.own (λ due. body (ap (λ o. own_step o WriteBody End) due)))
issued_unless (Gang places) x at ready body head =
    let both = and_parts (nat_le (member_count x) (length x.members)) (list_all is_told x.members) ready in
    let less : nat_lt (length x.members) (member_count x) ≡ false =
    le-ltb (length x.members) (member_count x) (leb-true (member_count x) (length x.members) both.0) in
    inr (own_went x.own (λ due. head (header_due (nat_lt (length x.members) (member_count x)) x.members x.own less both.1 due)))
issued_unless Nowhere x at ready body head = inl at

-- one that is under way was issued
pub issued_io : (tops : List Top) (x : PartWriting) (io : Option WriteIo) (family : List Child) → IsIoOver tops x io family
    → (io ≡ None → ⊥) → IsIssued x
issued_io tops x None family h never = absurd (never refl)
issued_io tops x (Some io) family h never = inr (ap is_due h.0)
