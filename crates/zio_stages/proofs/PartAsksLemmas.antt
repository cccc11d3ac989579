-- Which operations the write of a part asked, by number: what its steps add to them, and which of them are members.
use Rattle.std.proofs.Common.{◌≡◌, ℕ, zero, suc, ◌-◌, ◌≤◌, List, [], ◌∷◌, ◌++◌, length, map, set, slice_get, Bool, true, false, cond, nat_le, nat_lt, Option, Some, None, refl, sym, ap, ◌∙◌, arith, append-nil}
use Rattle.std.specs.List.{list_all}
use Rattle.std.proofs.lemmas.List.{map-append}
use Rattle.zio_types.specs.declared.error.Errno.{Errno}
use Rattle.zio_types.specs.declared.place.Place.{Place}
use Rattle.zio_types.specs.Places.{sector_size}
use Rattle.zio_blkptr.specs.declared.pointer.Bp.{Bp}
use Rattle.zio_trace.specs.Tasks.{Found}
use Rattle.zio_frames.specs.Slots.{Heard, IsOut}
use Rattle.zio_parts.specs.Parts.{IsOutWith, PartWriting, is_ended, is_gang, is_head_due, is_told, member_count, member_slot, own_slots, slots_at}
use Rattle.zio_parts.specs.PartWrites.{IsAsk, headed_step, member_step, own_step, placed_next, places_heard, placing_without, step_at, with_members, with_own}
use Rattle.zio_parts.specs.declared.members.Member.{Member}
use Rattle.zio_parts.specs.declared.members.Member.TheVariants.{Out as MemberOut, Told, Ended as MemberEnded}
use Rattle.zio_parts.specs.declared.parts.OwnWrite.{OwnWrite}
use Rattle.zio_parts.specs.declared.parts.OwnWrite.TheVariants.{Due, Out as OwnOut, Ended as OwnEnded}
use Rattle.zio_parts.specs.declared.parts.PartStep.TheVariants.{WriteBody, WriteHeader, Wait, End}
use Rattle.zio_parts.specs.declared.parts.Placing.{Placing}
use Rattle.zio_parts.specs.declared.parts.Placing.TheVariants.{Body, Head as HeadDue, Whole, Gang, Nowhere}
use Rattle.zio_stages.specs.PartOwns.{ForBytes, ForMember, ForPlaces, IsOutAs, asks_at, member_asks, own_asks, refused_asks}

-- ---- what is asked by each step

member_more : (members : List Member) (own : OwnWrite) → own ≡ Due
    → member_asks (members ++ MemberOut ∷ []) ++ own_asks own ≡ (member_asks members ++ own_asks own) ++ ForMember ∷ []
member_more members own due =
    ap (λ o. member_asks (members ++ MemberOut ∷ []) ++ own_asks o) due
    ∙ append-nil (member_asks (members ++ MemberOut ∷ []))
    ∙ map-append (λ (m : Member). ForMember) members (MemberOut ∷ [])
    ∙ ap (λ qs. qs ++ ForMember ∷ []) (sym (append-nil (member_asks members)))
    ∙ ap (λ o. (member_asks members ++ own_asks o) ++ ForMember ∷ []) (sym due)

pub member_asked : (placing : Placing) (x : PartWriting) → is_gang placing ≡ true → x.own ≡ Due
    → asks_at placing (with_members x (x.members ++ MemberOut ∷ [])) ≡ asks_at placing x ++ ForMember ∷ []
member_asked Body x g due = absurd (cc)
member_asked HeadDue x g due = absurd (cc)
member_asked (Whole places) x g due = absurd (cc)
member_asked (Gang places) x g due = ap (λ qs. ForPlaces ∷ ForPlaces ∷ qs) (member_more x.members x.own due)
member_asked Nowhere x g due = absurd (cc)

header_more : (members : List Member) (own : OwnWrite) → own ≡ Due
    → member_asks members ++ own_asks OwnOut ≡ (member_asks members ++ own_asks own) ++ ForBytes ∷ []
header_more members own due =
    ap (λ qs. qs ++ ForBytes ∷ []) (sym (append-nil (member_asks members)))
    ∙ ap (λ o. (member_asks members ++ own_asks o) ++ ForBytes ∷ []) (sym due)

pub header_asked : (placing : Placing) (x : PartWriting) → is_gang placing ≡ true → x.own ≡ Due
    → asks_at placing (with_own x OwnOut) ≡ asks_at placing x ++ ForBytes ∷ []
header_asked Body x g due = absurd (cc)
header_asked HeadDue x g due = absurd (cc)
header_asked (Whole places) x g due = absurd (cc)
header_asked (Gang places) x g due = ap (λ qs. ForPlaces ∷ ForPlaces ∷ qs) (header_more x.members x.own due)
header_asked Nowhere x g due = absurd (cc)

-- ---- places that were asked for

none_own : (own : OwnWrite) → own_slots own ≡ [] → own_asks own ≡ []
none_own Due e = refl
none_own OwnOut e = absurd (cc)
none_own (OwnEnded error) e = absurd (cc)

none_asked : (members : List Member) (own : OwnWrite) → map member_slot members ++ own_slots own ≡ [] → member_asks members ++ own_asks own ≡ []
none_asked [] own e = none_own own e
none_asked (m ∷ members) own e = absurd (cc)

-- a part that has its places asks for none
whole_asks_none : (own : OwnWrite) → IsAsk (own_step own WriteBody End) → ⊥
whole_asks_none Due a = a
whole_asks_none OwnOut a = a
whole_asks_none (OwnEnded error) a = a

gang_asks_none : (b : Bool) (members : List Member) (own : OwnWrite) → IsAsk (member_step b members own) → ⊥
gang_asks_none true members own a = a
gang_asks_none false members own a = headed (list_all is_told members) own a where
  ended : (c : Bool) → IsAsk (cond c End Wait) → ⊥
  ended true a = a
  ended false a = a

  owned : (o : OwnWrite) → IsAsk (own_step o WriteHeader (cond (list_all is_ended members) End Wait)) → ⊥
  owned Due a = a
  owned OwnOut a = a
  owned (OwnEnded error) a = ended (list_all is_ended members) a

  headed : (c : Bool) (o : OwnWrite) → IsAsk (headed_step c members o) → ⊥
  headed true o a = owned o a
  headed false o a = a

-- the placing that comes of an ask for places
pub placed_asks : (placing : Placing) (x : PartWriting) (places : Option (List Place)) → IsAsk (step_at placing x)
    → slots_at (placed_next (is_head_due placing) x.size places) (places_heard x places) ≡ slots_at placing x ++ Heard (Found places) ∷ []
    → asks_at (placed_next (is_head_due placing) x.size places) (places_heard x places) ≡ asks_at placing x ++ ForPlaces ∷ []
placed_asks Body x (Some ps) ask e = ap (λ qs. ForPlaces ∷ qs) (none_own x.own (let same : own_slots x.own ≡ [] = cc in same))
placed_asks Body x None ask e = small (nat_le x.size sector_size) refl e where
  small : (b : Bool) → nat_le x.size sector_size ≡ b → slots_at (placed_next false x.size None) (places_heard x None) ≡ Heard (Found None) ∷ []
      → asks_at (placed_next false x.size None) (places_heard x None) ≡ ForPlaces ∷ []
  small true k h = ap (λ b. asks_at (placing_without b) (places_heard x None)) k ∙ ap refused_asks k
  small false k h = ap (λ b. asks_at (placing_without b) (places_heard x None)) k
placed_asks HeadDue x (Some ps) ask e =
    ap (λ qs. ForPlaces ∷ ForPlaces ∷ qs) (none_asked x.members x.own (let same : map member_slot x.members ++ own_slots x.own ≡ [] = cc in same))
placed_asks HeadDue x None ask e = small (nat_le x.size sector_size) refl e where
  small : (b : Bool) → nat_le x.size sector_size ≡ b → slots_at Nowhere x ≡ Heard (Found None) ∷ Heard (Found None) ∷ []
      → refused_asks (nat_le x.size sector_size) ≡ ForPlaces ∷ ForPlaces ∷ []
  small true k h = let no : Heard (Found None) ∷ [] ≡ Heard (Found None) ∷ Heard (Found None) ∷ [] = rw k at h in absurd (cc)
  small false k h = rw k refl
placed_asks (Whole places) x found ask e = absurd (whole_asks_none x.own ask)
placed_asks (Gang places) x found ask e = absurd (gang_asks_none (nat_lt (length x.members) (member_count x)) x.members x.own ask)
placed_asks Nowhere x found ask e = absurd ask

none_out : (members : List Member) (own : OwnWrite) → map member_slot members ++ own_slots own ≡ [] → own ≡ Due
none_out [] Due e = refl
none_out [] OwnOut e = absurd (cc)
none_out [] (OwnEnded error) e = absurd (cc)
none_out (m ∷ members) own e = absurd (cc)

-- nothing of a gang is written where it got its places
pub placed_due : (placing : Placing) (x : PartWriting) (places : Option (List Place)) → IsAsk (step_at placing x)
    → slots_at (placed_next (is_head_due placing) x.size places) (places_heard x places) ≡ slots_at placing x ++ Heard (Found places) ∷ []
    → is_gang (placed_next (is_head_due placing) x.size places) ≡ true → x.own ≡ Due
placed_due Body x (Some ps) ask e g = absurd (cc)
placed_due Body x None ask e g = absurd (small (nat_le x.size sector_size) g) where
  small : (b : Bool) → is_gang (placing_without b) ≡ true → ⊥
  small true k = absurd (cc)
  small false k = absurd (cc)
placed_due HeadDue x (Some ps) ask e g = none_out x.members x.own (let same : map member_slot x.members ++ own_slots x.own ≡ [] = cc in same)
placed_due HeadDue x None ask e g = absurd (cc)
placed_due (Whole places) x found ask e g = absurd (whole_asks_none x.own ask)
placed_due (Gang places) x found ask e g = absurd (gang_asks_none (nat_lt (length x.members) (member_count x)) x.members x.own ask)
placed_due Nowhere x found ask e g = absurd ask

-- ---- one that goes on

pub same_asks : (members : List Member) (n : ℕ) (m : Member) → member_asks (set members n m) ≡ member_asks members
same_asks [] n m = refl
same_asks (x ∷ members) zero m = refl
same_asks (x ∷ members) (suc n) m = ap (λ qs. ForMember ∷ qs) (same_asks members n m)

pub member_set : (placing : Placing) (x : PartWriting) (n : ℕ) (m : Member) → asks_at placing (with_members x (set x.members n m)) ≡ asks_at placing x
member_set Body x n m = refl
member_set HeadDue x n m = refl
member_set (Whole places) x n m = refl
member_set (Gang places) x n m = ap (λ qs. ForPlaces ∷ ForPlaces ∷ (qs ++ own_asks x.own)) (same_asks x.members n m)
member_set Nowhere x n m = refl

pub own_set : (placing : Placing) (x : PartWriting) (error : Option Errno) → x.own ≡ OwnOut
    → asks_at placing (with_own x (OwnEnded error)) ≡ asks_at placing x
own_set Body x error e = refl
own_set HeadDue x error e = refl
own_set (Whole places) x error e = ap (λ o. ForPlaces ∷ own_asks o) (sym e)
own_set (Gang places) x error e = ap (λ o. ForPlaces ∷ ForPlaces ∷ (member_asks x.members ++ own_asks o)) (sym e)
own_set Nowhere x error e = refl

-- ---- which is a member, and which the own write

-- the member of this operation is out
pub record MemberIs (x : PartWriting) (pointer : Option Bp) (n : ℕ) : Type 0 where
  pub behind : 2 ≤ n
  pub out : IsOutWith pointer (slice_get x.members (n - 2))

in_own : (own : OwnWrite) (n : ℕ) → slice_get (own_asks own) n ≡ Some ForMember → ⊥
in_own Due n e = absurd (cc)
in_own OwnOut zero e = absurd (cc)
in_own OwnOut (suc n) e = absurd (cc)
in_own (OwnEnded error) zero e = absurd (cc)
in_own (OwnEnded error) (suc n) e = absurd (cc)

out_with : (pointer : Option Bp) (m : Member) → IsOutAs pointer (Some (member_slot m)) → IsOutWith pointer (Some m)
out_with pointer MemberOut h = tt
out_with pointer (Told told) h = h
out_with pointer (MemberEnded error other heads) h = h

in_members : (members : List Member) (own : OwnWrite) (pointer : Option Bp) (n : ℕ)
    → slice_get (member_asks members ++ own_asks own) n ≡ Some ForMember
    → IsOutAs pointer (slice_get (map member_slot members ++ own_slots own) n) → IsOutWith pointer (slice_get members n)
in_members [] own pointer n e h = absurd (in_own own n e)
in_members (m ∷ members) own pointer zero e h = out_with pointer m h
in_members (m ∷ members) own pointer (suc n) e h = in_members members own pointer n e h

refused_places : (b : Bool) (n : ℕ) → slice_get (refused_asks b) n ≡ Some ForMember → ⊥
refused_places true zero e = absurd (cc)
refused_places true (suc n) e = absurd (cc)
refused_places false zero e = absurd (cc)
refused_places false (suc zero) e = absurd (cc)
refused_places false (suc (suc n)) e = absurd (cc)

pub member_is_out : (placing : Placing) (x : PartWriting) (pointer : Option Bp) (n : ℕ) → slice_get (asks_at placing x) n ≡ Some ForMember
    → IsOutAs pointer (slice_get (slots_at placing x) n) → MemberIs x pointer n
member_is_out Body x pointer n e h = absurd (cc)
member_is_out HeadDue x pointer zero e h = absurd (cc)
member_is_out HeadDue x pointer (suc n) e h = absurd (cc)
member_is_out (Whole places) x pointer zero e h = absurd (cc)
member_is_out (Whole places) x pointer (suc n) e h = absurd (in_own x.own n e)
member_is_out (Gang places) x pointer zero e h = absurd (cc)
member_is_out (Gang places) x pointer (suc zero) e h = absurd (cc)
member_is_out (Gang places) x pointer (suc (suc n)) e h =
    let same : suc (suc n) - 2 ≡ n = omega arith in
    record { behind = omega arith; out = rw same (in_members x.members x.own pointer n e h) }
member_is_out Nowhere x pointer n e h = absurd (refused_places (nat_le x.size sector_size) n e)

untold_at : (members : List Member) (own : OwnWrite) (n : ℕ) → slice_get (member_asks members ++ own_asks own) n ≡ Some ForMember
    → slice_get (map member_slot members ++ own_slots own) n ≡ Some (IsOut None) → slice_get members n ≡ Some MemberOut
untold_at [] own n a e = absurd (in_own own n a)
untold_at (MemberOut ∷ members) own zero a e = refl
untold_at (Told told ∷ members) own zero a e = absurd (cc)
untold_at (MemberEnded error pointer heads ∷ members) own zero a e = absurd (cc)
untold_at (m ∷ members) own (suc n) a e = untold_at members own n a e

-- a member that told nothing
pub member_untold : (placing : Placing) (x : PartWriting) (n : ℕ) → slice_get (asks_at placing x) n ≡ Some ForMember
    → slice_get (slots_at placing x) n ≡ Some (IsOut None) → slice_get x.members (n - 2) ≡ Some MemberOut
member_untold Body x n a e = absurd (cc)
member_untold HeadDue x zero a e = absurd (cc)
member_untold HeadDue x (suc n) a e = absurd (cc)
member_untold (Whole places) x zero a e = absurd (cc)
member_untold (Whole places) x (suc n) a e = absurd (in_own x.own n a)
member_untold (Gang places) x zero a e = absurd (cc)
member_untold (Gang places) x (suc zero) a e = absurd (cc)
member_untold (Gang places) x (suc (suc n)) a e =
    let same : n ≡ suc (suc n) - 2 = omega arith in
    ap (slice_get x.members) (sym same) ∙ untold_at x.members x.own n a e
member_untold Nowhere x n a e = absurd (refused_places (nat_le x.size sector_size) n a)

slot_at_members : (members : List Member) (own : OwnWrite) (n : ℕ) → slice_get members n ≡ Some MemberOut → slice_get (map member_slot members ++ own_slots own) n ≡ Some (IsOut None)
slot_at_members [] own n e = absurd (cc)
slot_at_members (m ∷ members) own zero e = let is : m ≡ MemberOut = cc in ap (λ x. Some (member_slot x)) is
slot_at_members (m ∷ members) own (suc n) e = slot_at_members members own n e

-- and its slot
pub untold_slot : (placing : Placing) (x : PartWriting) (n : ℕ) → slice_get (asks_at placing x) n ≡ Some ForMember
    → slice_get x.members (n - 2) ≡ Some MemberOut → slice_get (slots_at placing x) n ≡ Some (IsOut None)
untold_slot Body x n a e = absurd (cc)
untold_slot HeadDue x zero a e = absurd (cc)
untold_slot HeadDue x (suc n) a e = absurd (cc)
untold_slot (Whole places) x zero a e = absurd (cc)
untold_slot (Whole places) x (suc n) a e = absurd (in_own x.own n a)
untold_slot (Gang places) x zero a e = absurd (cc)
untold_slot (Gang places) x (suc zero) a e = absurd (cc)
untold_slot (Gang places) x (suc (suc n)) a e =
    let same : suc (suc n) - 2 ≡ n = omega arith in
    slot_at_members x.members x.own n (ap (slice_get x.members) (sym same) ∙ e)
untold_slot Nowhere x n a e = absurd (refused_places (nat_le x.size sector_size) n a)

refused_bytes : (b : Bool) (n : ℕ) → slice_get (refused_asks b) n ≡ Some ForBytes → ⊥
refused_bytes true zero e = absurd (cc)
refused_bytes true (suc n) e = absurd (cc)
refused_bytes false zero e = absurd (cc)
refused_bytes false (suc zero) e = absurd (cc)
refused_bytes false (suc (suc n)) e = absurd (cc)

own_goes : (own : OwnWrite) (n : ℕ) (told : Option (Option Bp)) → slice_get (own_asks own) n ≡ Some ForBytes → slice_get (own_slots own) n ≡ Some (IsOut told) → own ≡ OwnOut
own_goes Due n told a e = absurd (cc)
own_goes OwnOut n told a e = refl
own_goes (OwnEnded error) zero told a e = absurd (cc)
own_goes (OwnEnded error) (suc n) told a e = absurd (cc)

own_behind : (members : List Member) (own : OwnWrite) (n : ℕ) (told : Option (Option Bp)) → slice_get (member_asks members ++ own_asks own) n ≡ Some ForBytes
    → slice_get (map member_slot members ++ own_slots own) n ≡ Some (IsOut told) → own ≡ OwnOut
own_behind [] own n told a e = own_goes own n told a e
own_behind (m ∷ members) own zero told a e = absurd (cc)
own_behind (m ∷ members) own (suc n) told a e = own_behind members own n told a e

-- its body or header is being written, where that operation is out
pub own_is_out : (placing : Placing) (x : PartWriting) (n : ℕ) (told : Option (Option Bp)) → slice_get (asks_at placing x) n ≡ Some ForBytes
    → slice_get (slots_at placing x) n ≡ Some (IsOut told) → x.own ≡ OwnOut
own_is_out Body x n told a e = absurd (cc)
own_is_out HeadDue x zero told a e = absurd (cc)
own_is_out HeadDue x (suc n) told a e = absurd (cc)
own_is_out (Whole places) x zero told a e = absurd (cc)
own_is_out (Whole places) x (suc n) told a e = own_goes x.own n told a e
own_is_out (Gang places) x zero told a e = absurd (cc)
own_is_out (Gang places) x (suc zero) told a e = absurd (cc)
own_is_out (Gang places) x (suc (suc n)) told a e = own_behind x.members x.own n told a e
own_is_out Nowhere x n told a e = absurd (refused_bytes (nat_le x.size sector_size) n a)

own_last : (own : OwnWrite) (n : ℕ) → own ≡ OwnOut → slice_get (own_asks own) n ≡ Some ForBytes → suc n ≡ length (own_slots own)
own_last Due n out a = absurd (cc)
own_last OwnOut zero out a = refl
own_last OwnOut (suc n) out a = absurd (cc)
own_last (OwnEnded error) n out a = absurd (cc)

own_end : (members : List Member) (own : OwnWrite) (n : ℕ) → own ≡ OwnOut → slice_get (member_asks members ++ own_asks own) n ≡ Some ForBytes
    → suc n ≡ length (map member_slot members ++ own_slots own)
own_end [] own n out a = own_last own n out a
own_end (m ∷ members) own zero out a = absurd (cc)
own_end (m ∷ members) own (suc n) out a = ap suc (own_end members own n out a)

-- it is the last that was asked
pub own_number : (placing : Placing) (x : PartWriting) (n : ℕ) → x.own ≡ OwnOut → slice_get (asks_at placing x) n ≡ Some ForBytes
    → n ≡ length (slots_at placing x) - 1
own_number Body x n out a = absurd (cc)
own_number HeadDue x zero out a = absurd (cc)
own_number HeadDue x (suc n) out a = absurd (cc)
own_number (Whole places) x zero out a = absurd (cc)
own_number (Whole places) x (suc n) out a = let e : suc n ≡ length (own_slots x.own) = own_last x.own n out a in omega arith
own_number (Gang places) x zero out a = absurd (cc)
own_number (Gang places) x (suc zero) out a = absurd (cc)
own_number (Gang places) x (suc (suc n)) out a =
    let e : suc n ≡ length (map member_slot x.members ++ own_slots x.own) = own_end x.members x.own n out a in omega arith
own_number Nowhere x n out a = absurd (refused_bytes (nat_le x.size sector_size) n a)
