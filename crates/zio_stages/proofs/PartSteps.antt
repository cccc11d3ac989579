-- Which step of the write of a part is next, and what that says of the part.
use Rattle.std.proofs.Common.{◌≡◌, ℕ, ◌<◌, ◌≤◌, List, [], ◌∷◌, ◌++◌, length, Bool, true, false, cond, nat_lt, refl, sym, ap, ltb-true, ltb-false}
use Rattle.std.specs.List.{list_all}
use Rattle.zio_parts.specs.Parts.{PartWriting, is_ended, is_gang, is_told, member_count}
use Rattle.zio_parts.specs.PartWrites.{headed_step, is_due, member_step, own_step, step_at, with_own}
use Rattle.zio_parts.specs.declared.members.Member.{Member}
use Rattle.zio_parts.specs.declared.parts.OwnWrite.{OwnWrite}
use Rattle.zio_parts.specs.declared.parts.OwnWrite.TheVariants.{Due, Out as OwnOut, Ended as OwnEnded}
use Rattle.zio_parts.specs.declared.parts.PartStep.TheVariants.{WriteBody, WriteHeader, Member as MemberStep, Wait, End}
use Rattle.zio_parts.specs.declared.parts.Placing.{Placing}
use Rattle.zio_parts.specs.declared.parts.Placing.TheVariants.{Body, Head as HeadDue, Whole, Gang, Nowhere}
use Rattle.zio_stages.specs.PartOwns.{ForBytes, ForPlaces, asks_at, own_asks}

-- ---- steps of a gang

-- the step is the next member's
pub record NextMember (count : ℕ) (members : List Member) (n : ℕ) : Type 0 where
  pub number : n ≡ length members
  pub less : length members < count

member_next : (b : Bool) (count : ℕ) (members : List Member) (own : OwnWrite) (n : ℕ) → nat_lt (length members) count ≡ b
    → MemberStep n ≡ member_step b members own → NextMember count members n
member_next true count members own n e is = record { number = cc; less = ltb-true (length members) count e }
member_next false count members own n e is = absurd (headed (list_all is_told members) own is) where
  ended : (c : Bool) → MemberStep n ≡ cond c End Wait → ⊥
  ended true is = absurd (cc)
  ended false is = absurd (cc)

  owned : (o : OwnWrite) → MemberStep n ≡ own_step o WriteHeader (cond (list_all is_ended members) End Wait) → ⊥
  owned Due is = absurd (cc)
  owned OwnOut is = absurd (cc)
  owned (OwnEnded error) is = ended (list_all is_ended members) is

  headed : (c : Bool) (o : OwnWrite) → MemberStep n ≡ headed_step c members o → ⊥
  headed true o is = owned o is
  headed false o is = absurd (cc)

pub record IsGangMember (placing : Placing) (x : PartWriting) (n : ℕ) : Type 0 where
  pub gang : is_gang placing ≡ true
  pub next : NextMember (member_count x) x.members n

pub gang_member : (placing : Placing) (x : PartWriting) (n : ℕ) → MemberStep n ≡ step_at placing x → IsGangMember placing x n
gang_member Body x n is = absurd (cc)
gang_member HeadDue x n is = absurd (cc)
gang_member (Whole places) x n is = absurd (owned x.own is) where
  owned : (o : OwnWrite) → MemberStep n ≡ own_step o WriteBody End → ⊥
  owned Due is = absurd (cc)
  owned OwnOut is = absurd (cc)
  owned (OwnEnded error) is = absurd (cc)
gang_member (Gang places) x n is = record { gang = refl; next = member_next (nat_lt (length x.members) (member_count x)) (member_count x) x.members x.own n refl is }
gang_member Nowhere x n is = absurd (cc)

-- the step is the header's
pub record NextHeader (placing : Placing) (x : PartWriting) : Type 0 where
  pub gang : is_gang placing ≡ true
  pub due : x.own ≡ Due
  pub all : member_count x ≤ length x.members

header_next : (b : Bool) (count : ℕ) (members : List Member) (own : OwnWrite) → nat_lt (length members) count ≡ b
    → WriteHeader ≡ member_step b members own → (own ≡ Due) × (count ≤ length members)
header_next true count members own e is = absurd (cc)
header_next false count members own e is = (headed (list_all is_told members) own is, ltb-false (length members) count e) where
  ended : (c : Bool) → WriteHeader ≡ cond c End Wait → ⊥
  ended true is = absurd (cc)
  ended false is = absurd (cc)

  owned : (o : OwnWrite) → WriteHeader ≡ own_step o WriteHeader (cond (list_all is_ended members) End Wait) → o ≡ Due
  owned Due is = refl
  owned OwnOut is = absurd (cc)
  owned (OwnEnded error) is = absurd (ended (list_all is_ended members) is)

  headed : (c : Bool) (o : OwnWrite) → WriteHeader ≡ headed_step c members o → o ≡ Due
  headed true o is = owned o is
  headed false o is = absurd (cc)

pub gang_header : (placing : Placing) (x : PartWriting) → WriteHeader ≡ step_at placing x → NextHeader placing x
gang_header Body x is = absurd (cc)
gang_header HeadDue x is = absurd (cc)
gang_header (Whole places) x is = absurd (owned x.own is) where
  owned : (o : OwnWrite) → WriteHeader ≡ own_step o WriteBody End → ⊥
  owned Due is = absurd (cc)
  owned OwnOut is = absurd (cc)
  owned (OwnEnded error) is = absurd (cc)
gang_header (Gang places) x is =
    let h = header_next (nat_lt (length x.members) (member_count x)) (member_count x) x.members x.own refl is in
    record { gang = refl; due = h.0; all = h.1 }
gang_header Nowhere x is = absurd (cc)

-- the step is the body's
pub record NextBody (placing : Placing) (x : PartWriting) : Type 0 where
  pub whole : is_gang placing ≡ false
  pub due : x.own ≡ Due
  pub asks : asks_at placing (with_own x OwnOut) ≡ asks_at placing x ++ ForBytes ∷ []

no_header : (b : Bool) (members : List Member) (own : OwnWrite) → WriteBody ≡ member_step b members own → ⊥
no_header true members own is = absurd (cc)
no_header false members own is = headed (list_all is_told members) own is where
  ended : (c : Bool) → WriteBody ≡ cond c End Wait → ⊥
  ended true is = absurd (cc)
  ended false is = absurd (cc)

  owned : (o : OwnWrite) → WriteBody ≡ own_step o WriteHeader (cond (list_all is_ended members) End Wait) → ⊥
  owned Due is = absurd (cc)
  owned OwnOut is = absurd (cc)
  owned (OwnEnded error) is = ended (list_all is_ended members) is

  headed : (c : Bool) (o : OwnWrite) → WriteBody ≡ headed_step c members o → ⊥
  headed true o is = owned o is
  headed false o is = absurd (cc)

pub body_next : (placing : Placing) (x : PartWriting) → WriteBody ≡ step_at placing x → NextBody placing x
body_next Body x is = absurd (cc)
body_next HeadDue x is = absurd (cc)
body_next (Whole places) x is =
    let due : x.own ≡ Due = owned x.own is in
    record { whole = refl; due = due; asks = ap (λ o. ForPlaces ∷ own_asks o ++ ForBytes ∷ []) (sym due) } where
      owned : (o : OwnWrite) → WriteBody ≡ own_step o WriteBody End → o ≡ Due
      owned Due is = refl
      owned OwnOut is = absurd (cc)
      owned (OwnEnded error) is = absurd (cc)
body_next (Gang places) x is = absurd (no_header (nat_lt (length x.members) (member_count x)) x.members x.own is)
body_next Nowhere x is = absurd (cc)

-- a write of its own is due, where none went out
pub due_own : (own : OwnWrite) → (is_due own ≡ false → ⊥) → own ≡ Due
due_own Due h = refl
due_own OwnOut h = absurd (h refl)
due_own (OwnEnded error) h = absurd (h refl)
