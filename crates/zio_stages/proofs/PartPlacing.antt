-- What is left to be asked of the space for a part that is written, and when it can tell its pointer.
use Rattle.std.proofs.Common.{◌≡◌, ℕ, ◌-◌, ◌≤◌, List, [], length, Bool, true, false, ◌&&◌, cond, nat_le, nat_lt, Option, Some, None, ◌⊎◌, inl, inr, refl, sym, ap, subst, ◌∙◌, arith, le-leb, ltb-false}
use Rattle.std.specs.Prelude.{IfSome}
use Rattle.std.specs.List.{list_all}
use Rattle.zio_types.specs.declared.place.Place.{Place}
use Rattle.zio_types.specs.Places.{sector_size}
use Rattle.zio_parts.specs.Parts.{PartWriting, is_told, is_ended, is_head_due, member_count, places_at}
use Rattle.zio_parts.specs.PartWrites.{IsAsk, headed_step, is_ready_at, member_step, own_step, placed_next, placing_without, step_at, step_of, IsLast, is_due, places_heard}
use Rattle.zio_parts.specs.declared.members.Member.{Member}
use Rattle.zio_parts.specs.declared.parts.OwnWrite.{OwnWrite}
use Rattle.zio_parts.specs.declared.parts.OwnWrite.TheVariants.{Due, Out as OwnOut, Ended as OwnEnded}
use Rattle.zio_parts.specs.declared.parts.PartStep.{PartStep}
use Rattle.zio_parts.specs.declared.parts.PartStep.TheVariants.{AskBody, AskHead, WriteBody, WriteHeader, Member as MemberStep, WaitReady, Wait, End}
use Rattle.zio_parts.specs.declared.parts.Placing.{Placing}
use Rattle.zio_parts.specs.declared.parts.Placing.TheVariants.{Body, Head as HeadDue, Whole, Gang, Nowhere}
use Rattle.zio_exchange.specs.SpaceCalls.{IsAnswerFor}
use Rattle.zio_stages.specs.PartWorks.{IsPlaced, asks_left, HaveUnits, IsIoOver, IsPartOver}
use Rattle.zio_types.specs.declared.place.Top.{Top}
use Rattle.zio_types.specs.Choices.{Choice}
use Rattle.zio_gang.specs.Trees.{sizes_of}
use Rattle.zio_gang.specs.Writes.{places_chosen}
use Rattle.zio_frames.specs.Frames.{Child}
use Rattle.zio_stages.specs.Tops.{AreTops}
use Rattle.zio_stages.specs.NodeIos.{NoneSits}
use Rattle.zio_stages.specs.WriteIos.{AreIoPlaces}
use Rattle.zio_stages.specs.declared.family.Layer.TheVariants.{Within}
use Rattle.zio_stages.specs.declared.part_work.PartWork.{PartWork}
use Rattle.zio_stages.specs.declared.write_io.WriteIo.{WriteIo}
use Rattle.zio_stages.proofs.FoundPlaces.{if_chosen, io_places}
use Rattle.zio_stages.proofs.PartSteps.{due_own}

-- ---- how far it is

own_asks_none : (own : OwnWrite) (due over : PartStep) → (IsAsk due → ⊥) → (IsAsk over → ⊥) → IsAsk (own_step own due over) → ⊥
own_asks_none Due due over a b h = a h
own_asks_none OwnOut due over a b h = h
own_asks_none (OwnEnded error) due over a b h = b h

headed_asks_none : (b : Bool) (members : List Member) (own : OwnWrite) → IsAsk (headed_step b members own) → ⊥
headed_asks_none false members own h = h
headed_asks_none true members own h = own_asks_none own WriteHeader (cond (list_all is_ended members) End Wait) (λ k. k) (ended (list_all is_ended members)) h where
  ended : (c : Bool) → IsAsk (cond c End Wait) → ⊥
  ended true k = k
  ended false k = k

gang_asks_none : (b : Bool) (members : List Member) (own : OwnWrite) → IsAsk (member_step b members own) → ⊥
gang_asks_none true members own h = h
gang_asks_none false members own h = headed_asks_none (list_all is_told members) members own h

-- what is asked for is the body's places or a header's
pub ask_due : (placing : Placing) (x : PartWriting) → IsAsk (step_at placing x) → (placing ≡ Body) ⊎ (placing ≡ HeadDue)
ask_due Body x h = inl refl
ask_due HeadDue x h = inr refl
ask_due (Whole places) x h = absurd (own_asks_none x.own WriteBody End (λ k. k) (λ k. k) h)
ask_due (Gang places) x h = absurd (gang_asks_none (nat_lt (length x.members) (member_count x)) x.members x.own h)
ask_due Nowhere x h = absurd h

pub body_due : (x : PartWriting) → AskBody ≡ step_of x → x.placing ≡ Body
body_due x is = by (ask_due x.placing x (subst IsAsk is tt)) where
  by : (x.placing ≡ Body) ⊎ (x.placing ≡ HeadDue) → x.placing ≡ Body
  by (inl e) = e
  by (inr e) = let never : AskBody ≡ AskHead = is ∙ ap (λ p. step_at p x) e in absurd (cc)

pub head_due : (x : PartWriting) → AskHead ≡ step_of x → x.placing ≡ HeadDue
head_due x is = by (ask_due x.placing x (subst IsAsk is tt)) where
  by : (x.placing ≡ Body) ⊎ (x.placing ≡ HeadDue) → x.placing ≡ HeadDue
  by (inl e) = let never : AskHead ≡ AskBody = is ∙ ap (λ p. step_at p x) e in absurd (cc)
  by (inr e) = e

-- where it isn't one of these, nothing is left to ask for
pub none_left : (placing : Placing) (x : PartWriting) → (AskBody ≡ step_at placing x → ⊥) → (AskHead ≡ step_at placing x → ⊥) → asks_left placing ≡ 0
none_left Body x a b = absurd (a refl)
none_left HeadDue x a b = absurd (b refl)
none_left (Whole places) x a b = refl
none_left (Gang places) x a b = refl
none_left Nowhere x a b = refl

placing_left : (b : Bool) → asks_left (placing_without b) ≤ 1
placing_left true = omega arith
placing_left false = omega arith

-- one ask less is left
pub left_less : (placing : Placing) (x : PartWriting) (places : Option (List Place)) → (placing ≡ Body) ⊎ (placing ≡ HeadDue) → asks_left (placed_next (is_head_due placing) x.size places) ≤ asks_left placing - 1
left_less Body x (Some places) h = omega arith
left_less Body x None h = placing_left (nat_le x.size sector_size)
left_less HeadDue x (Some places) h = omega arith
left_less HeadDue x None h = omega arith
left_less (Whole old) x places (inl e) = absurd (cc)
left_less (Whole old) x places (inr e) = absurd (cc)
left_less (Gang old) x places (inl e) = absurd (cc)
left_less (Gang old) x places (inr e) = absurd (cc)
left_less Nowhere x places (inl e) = absurd (cc)
left_less Nowhere x places (inr e) = absurd (cc)

refused_nowhere : (P : List Place → Type 0) (b : Bool) → P [] → P (places_at (placing_without b))
refused_nowhere P true h = h
refused_nowhere P false h = h

-- its places are those that were found, or none
pub places_next : (P : List Place → Type 0) (head : Bool) (size : ℕ) (places : Option (List Place)) → P [] → IfSome places P → P (places_at (placed_next head size places))
places_next P false size (Some places) none h = h
places_next P false size None none h = refused_nowhere P (nat_le size sector_size) none
places_next P true size (Some places) none h = h
places_next P true size None none h = none

own_placed : (own : OwnWrite) (b : Bool) → IsPlaced (own_step own WriteHeader (cond b End Wait))
own_placed Due b = tt
own_placed OwnOut b = tt
own_placed (OwnEnded error) true = tt
own_placed (OwnEnded error) false = tt

pub headed_placed : (b : Bool) (members : List Member) (own : OwnWrite) → IsPlaced (headed_step b members own)
headed_placed true members own = own_placed own (list_all is_ended members)
headed_placed false members own = tt

members_placed : (b : Bool) (members : List Member) (own : OwnWrite) → (member_step b members own ≡ MemberStep (length members) → ⊥) → IsPlaced (member_step b members own)
members_placed true members own never = absurd (never refl)
members_placed false members own never = headed_placed (list_all is_told members) members own

pub whole_placed : (own : OwnWrite) → IsPlaced (own_step own WriteBody End)
whole_placed Due = tt
whole_placed OwnOut = tt
whole_placed (OwnEnded error) = tt

-- no places are to be asked for, and no member is to be handed out
pub placed_by : (placing : Placing) (x : PartWriting) → asks_left placing ≡ 0 → ((n : ℕ) → step_at placing x ≡ MemberStep n → ⊥) → IsPlaced (step_at placing x)
placed_by Body x none never = absurd (cc)
placed_by HeadDue x none never = absurd (cc)
placed_by (Whole places) x none never = whole_placed x.own
placed_by (Gang places) x none never = members_placed (nat_lt (length x.members) (member_count x)) x.members x.own (never (length x.members))
placed_by Nowhere x none never = tt

told_ready : (t : Bool) (members : List Member) (own : OwnWrite) → (headed_step t members own ≡ WaitReady → ⊥) → t ≡ true
told_ready true members own never = refl
told_ready false members own never = absurd (never refl)

gang_ready : (b : Bool) (count : ℕ) (members : List Member) (own : OwnWrite) → nat_lt (length members) count ≡ b → IsPlaced (member_step b members own)
    → (member_step b members own ≡ WaitReady → ⊥) → nat_le count (length members) && list_all is_told members ≡ true
gang_ready true count members own e is never = absurd is
gang_ready false count members own e is never =
    ap (λ b. b && list_all is_told members) (le-leb count (length members) (ltb-false (length members) count e)) ∙ told_ready (list_all is_told members) members own never

-- then it has a pointer to tell, unless a member hasn't told
pub ready_by : (placing : Placing) (x : PartWriting) → IsPlaced (step_at placing x) → (step_at placing x ≡ WaitReady → ⊥) → is_ready_at placing x ≡ true
ready_by Body x is never = absurd is
ready_by HeadDue x is never = absurd is
ready_by (Whole places) x is never = refl
ready_by (Gang places) x is never = gang_ready (nat_lt (length x.members) (member_count x)) (member_count x) x.members x.own refl is never
ready_by Nowhere x is never = refl

-- ---- what its fields owe

pub no_places : (tops : List Top) → AreIoPlaces tops []
no_places tops = record { few = omega arith; mirrored = tt; short = tt }

pub none_within_yet : NoneSits Within []
none_within_yet = λ k n c e goes at. absurd (cc)

idle_placed : (tops : List Top) (x y : PartWriting) (io : Option WriteIo) (family : List Child) → y.own ≡ x.own → IsIoOver tops x io family → IsIoOver tops y io family
idle_placed tops x y None family own h = h
idle_placed tops x y (Some io) family own h = (own ∙ h.0, h.1, h.2)

-- places were found, or none
pub over_placed : (tops : List Top) (w v : PartWork) (family : List Child) (entry : Choice) (places : Option (List Place)) → v.own.part ≡ places_heard w.own.part places → v.bytes ≡ w.bytes → v.io ≡ w.io
    → places ≡ places_chosen entry.asked.copies (Some entry) → AreTops tops → HaveUnits tops → IsAnswerFor (sizes_of tops) entry → entry.asked.size ≤ 1048576 → length entry.places ≤ 3 → IsPartOver tops w family
    → IsPartOver tops v family
over_placed tops w v family entry places now bytes io chosen are units answer small three h =
    let x = w.own.part in
    let found : IfSome places (AreIoPlaces tops) = if_chosen (AreIoPlaces tops) entry places chosen (λ enough. io_places tops entry are units answer small three) in
    let own : v.own.part.own ≡ x.own = ap (λ (y : PartWriting). y.own) now in
    record {
      places = subst (λ (y : PartWriting). AreIoPlaces tops (places_at y.placing)) (sym now) (places_next (AreIoPlaces tops) (is_head_due x.placing) x.size places (no_places tops) found);
      bytes = λ d. ap length bytes ∙ h.bytes (ap is_due (sym own) ∙ d) ∙ ap (λ (y : PartWriting). y.size) (sym now);
      io = subst (λ (i : Option WriteIo). IsIoOver tops v.own.part i family) (sym io) (idle_placed tops x v.own.part w.io family own h.io);
    }

pub asks_less : (w v : PartWork) (places : Option (List Place)) → IsAsk (step_of w.own.part) → v.own.part ≡ places_heard w.own.part places → asks_left v.own.part.placing ≤ asks_left w.own.part.placing - 1
asks_less w v places ask now =
    subst (λ (y : PartWriting). asks_left y.placing ≤ asks_left w.own.part.placing - 1) (sym now) (left_less w.own.part.placing w.own.part places (ask_due w.own.part.placing w.own.part ask))

-- before its own write went out nothing of it did
pub due_unless : (x : PartWriting) (step : PartStep) → (is_due x.own ≡ false → IsLast step) → (IsLast step → ⊥) → x.own ≡ Due
due_unless x step written never = due_own x.own (λ over. never (written over))

pub last_none : (step : PartStep) → IsLast step → (step ≡ Wait → ⊥) → (step ≡ End → ⊥) → ⊥
last_none Wait h wait end = wait refl
last_none End h wait end = end refl
last_none AskBody h wait end = h
last_none AskHead h wait end = h
last_none WriteBody h wait end = h
last_none WriteHeader h wait end = h
last_none (MemberStep n) h wait end = h
last_none WaitReady h wait end = h
