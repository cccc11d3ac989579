-- The write of a part under way: what its calls change of the operations that were asked.
use Rattle.std.proofs.Common.{◌≡◌, ℕ, zero, suc, ◌-◌, ◌<◌, ◌≤◌, List, [], ◌∷◌, ◌++◌, length, map, set, slice_get, Bool, true, false, cond, Option, Some, None, nat_lt, refl, sym, ap, subst, ◌∙◌, arith, append-nil, length-append, le-ltb, ltb-true, ltb-false}
use Rattle.std.specs.List.{AllByRecursion, list_all}
use Rattle.std.proofs.lemmas.List.{map-append}
use Rattle.zio_types.specs.declared.error.Errno.{Errno}
use Rattle.zio_types.specs.declared.place.Place.{Place}
use Rattle.zio_blkptr.specs.declared.pointer.Bp.{Bp}
use Rattle.zio_cksum.specs.Images.{Setting}
use Rattle.zio_gang.specs.declared.tree.Head.{Head}
use Rattle.zio_trace.specs.Calls.{answered_at}
use Rattle.zio_trace.specs.Tasks.{Task, Found, StoredAs, Wrote}
use Rattle.zio_frames.specs.Slots.{Slot, IsOut, Heard, left_behind_slots, outs_before}
use Rattle.zio_parts.specs.Parts.{PartWriting, IsOutWith, is_ended, is_told, left_of_part, member_count, member_slot, own_slots, slots_at, slots_of, whole_plan}
use Rattle.zio_parts.specs.PartWrites.{IsGang, IsHandedOut, IsLast, IsPartWriting, IsPlacedWell, IsSpelled, handed_by, headed_step, is_due, member_at, member_heard, member_step, member_told, own_at, own_heard, own_step, part_handed, step_at, step_of, with_members, with_own}
use Rattle.zio_parts.specs.declared.members.Member.{Member}
use Rattle.zio_parts.specs.declared.members.Member.TheVariants.{Out as MemberOut, Told, Ended as MemberEnded}
use Rattle.zio_parts.specs.declared.parts.OwnWrite.{OwnWrite}
use Rattle.zio_parts.specs.declared.parts.OwnWrite.TheVariants.{Due, Out as OwnOut, Ended as OwnEnded}
use Rattle.zio_parts.specs.declared.parts.PartStep.{PartStep}
use Rattle.zio_parts.specs.declared.parts.PartStep.TheVariants.{AskBody, AskHead, WriteBody, WriteHeader, Member as MemberStep, WaitReady, Wait, End}
use Rattle.zio_parts.specs.declared.parts.Placing.{Placing}
use Rattle.zio_parts.specs.declared.parts.Placing.TheVariants.{Body, Head as HeadDue, Whole, Gang, Nowhere}
use Rattle.zio_frames.proofs.SlotMoves.{IsOutAt, out_last, set_last, slots_heard, slots_more, slots_told}

-- ---- members among the operations

set_mapped : {X Y : Type 0} (f : X → Y) (xs : List X) (ys : List Y) (n : ℕ) (x : X) → n < length xs → set (map f xs ++ ys) n (f x) ≡ map f (set xs n x) ++ ys
set_mapped f [] ys n x h = absurd (omega arith)
set_mapped f (z ∷ xs) ys zero x h = refl
set_mapped f (z ∷ xs) ys (suc n) x h = ap (λ zs. f z ∷ zs) (set_mapped f xs ys n x (omega arith))

out_mapped : (ms : List Member) (ys : List Slot) (n : ℕ) (pointer : Option Bp) → IsOutWith pointer (slice_get ms n) → IsOutAt n (map member_slot ms ++ ys)
out_mapped [] ys n pointer h = absurd h
out_mapped (MemberOut ∷ ms) ys zero pointer h = tt
out_mapped (Told old ∷ ms) ys zero pointer h = tt
out_mapped (MemberEnded e old heads ∷ ms) ys zero pointer h = absurd h
out_mapped (m ∷ ms) ys (suc n) pointer h = out_mapped ms ys n pointer h

pub out_within : (ms : List Member) (n : ℕ) (pointer : Option Bp) → IsOutWith pointer (slice_get ms n) → n < length ms
out_within [] n pointer h = absurd h
out_within (m ∷ ms) zero pointer h = omega arith
out_within (m ∷ ms) (suc n) pointer h = let k : n < length ms = out_within ms n pointer h in omega arith

-- only a gang has members
pub out_none : (ms : List Member) (n : ℕ) (pointer : Option Bp) → ms ≡ [] → IsOutWith pointer (slice_get ms n) → ⊥
out_none ms n pointer e h = subst (λ xs. IsOutWith pointer (slice_get xs n)) e h

member_out : (p : Placing) (x : PartWriting) (n : ℕ) (pointer : Option Bp) → IsPlacedWell p x → IsOutWith pointer (slice_get x.members n) → IsOutAt (member_at n) (slots_at p x)
member_out Body x n pointer is h = absurd (out_none x.members n pointer is.members h)
member_out HeadDue x n pointer is h = absurd (out_none x.members n pointer is.1.members h)
member_out (Whole places) x n pointer is h = absurd (out_none x.members n pointer is.0 h)
member_out (Gang places) x n pointer is h = out_mapped x.members (own_slots x.own) n pointer h
member_out Nowhere x n pointer is h = absurd (out_none x.members n pointer is.members h)

member_set : (p : Placing) (x : PartWriting) (n : ℕ) (pointer : Option Bp) (m : Member) → IsPlacedWell p x → IsOutWith pointer (slice_get x.members n)
    → slots_at p (with_members x (set x.members n m)) ≡ set (slots_at p x) (member_at n) (member_slot m)
member_set Body x n pointer m is h = absurd (out_none x.members n pointer is.members h)
member_set HeadDue x n pointer m is h = absurd (out_none x.members n pointer is.1.members h)
member_set (Whole places) x n pointer m is h = absurd (out_none x.members n pointer is.0 h)
member_set (Gang places) x n pointer m is h =
    ap (λ slots. Heard (Found None) ∷ Heard (Found (Some places)) ∷ slots) (sym (set_mapped member_slot x.members (own_slots x.own) n m (out_within x.members n pointer h)))
member_set Nowhere x n pointer m is h = absurd (out_none x.members n pointer is.members h)

-- ---- a member tells, and ends

pub told_slots : (x : PartWriting) (n : ℕ) (pointer : Option Bp) → IsPartWriting x → slice_get x.members n ≡ Some MemberOut
    → slots_of (member_told x n pointer) ≡ set (slots_of x) (member_at n) (IsOut (Some pointer))
told_slots x n pointer is e = member_set x.placing x n pointer (Told pointer) is.placed (subst (IsOutWith pointer) (sym e) tt)

pub told_left : (s : Setting) (member : List ℕ → List ℕ → Task) (bytes : List ℕ) (x : PartWriting) (n : ℕ) (pointer : Option Bp) → IsPartWriting x → slice_get x.members n ≡ Some MemberOut
    → left_of_part s member bytes (member_told x n pointer) ≡ left_of_part s member bytes x
told_left s member bytes x n pointer is e =
    let out : IsOutWith pointer (slice_get x.members n) = subst (IsOutWith pointer) (sym e) tt in
    ap (λ slots. left_behind_slots slots (whole_plan s member bytes x)) (told_slots x n pointer is e)
    ∙ slots_told (member_at n) (Some pointer) (slots_of x) (whole_plan s member bytes x) (member_out x.placing x n pointer is.placed out)

pub ended_slots : (x : PartWriting) (n : ℕ) (error : Option Errno) (pointer : Option Bp) (heads : List Head) → IsPartWriting x → IsOutWith pointer (slice_get x.members n)
    → slots_of (member_heard x n error pointer heads) ≡ set (slots_of x) (member_at n) (Heard (StoredAs (record { error = error; pointer = pointer; heads = heads })))
ended_slots x n error pointer heads is out = member_set x.placing x n pointer (MemberEnded error pointer heads) is.placed out

pub ended_left : (s : Setting) (member : List ℕ → List ℕ → Task) (bytes : List ℕ) (x : PartWriting) (n : ℕ) (error : Option Errno) (pointer : Option Bp) (heads : List Head) → IsPartWriting x → IsOutWith pointer (slice_get x.members n)
    → left_of_part s member bytes (member_heard x n error pointer heads)
    ≡ answered_at (outs_before (member_at n) (slots_of x)) (StoredAs (record { error = error; pointer = pointer; heads = heads })) (left_of_part s member bytes x)
ended_left s member bytes x n error pointer heads is out =
    ap (λ slots. left_behind_slots slots (whole_plan s member bytes x)) (ended_slots x n error pointer heads is out)
    ∙ sym (slots_heard (member_at n) (StoredAs (record { error = error; pointer = pointer; heads = heads })) (slots_of x) (whole_plan s member bytes x) (member_out x.placing x n pointer is.placed out))

-- ---- the body or the header is written

own_out : (p : Placing) (x : PartWriting) → IsPlacedWell p x → x.own ≡ OwnOut → (front : List Slot) × (slots_at p x ≡ front ++ IsOut None ∷ []) × ((error : Option Errno) → slots_at p (own_heard x error) ≡ front ++ Heard (Wrote error) ∷ [])
own_out Body x is e = let no : Due ≡ OwnOut = sym is.own ∙ e in absurd (cc)
own_out HeadDue x is e = let no : Due ≡ OwnOut = sym is.1.own ∙ e in absurd (cc)
own_out (Whole places) x is e = (Heard (Found (Some places)) ∷ [], ap (λ own. Heard (Found (Some places)) ∷ own_slots own) e, λ error. refl)
own_out (Gang places) x is e = (
  Heard (Found None) ∷ Heard (Found (Some places)) ∷ map member_slot x.members,
  ap (λ own. Heard (Found None) ∷ Heard (Found (Some places)) ∷ map member_slot x.members ++ own_slots own) e,
  λ error. refl,
)
own_out Nowhere x is e = let no : Due ≡ OwnOut = sym is.own ∙ e in absurd (cc)

pub own_heard_slots : (x : PartWriting) (error : Option Errno) → IsPartWriting x → x.own ≡ OwnOut → slots_of (own_heard x error) ≡ set (slots_of x) (own_at x) (Heard (Wrote error))
own_heard_slots x error is e =
    let r = own_out x.placing x is.placed e in
    r.2 error
    ∙ sym (set_last r.0 (IsOut None) (Heard (Wrote error)))
    ∙ ap (λ slots. set slots (length slots - 1) (Heard (Wrote error))) (sym r.1)

pub own_heard_left : (s : Setting) (member : List ℕ → List ℕ → Task) (bytes : List ℕ) (x : PartWriting) (error : Option Errno) → IsPartWriting x → x.own ≡ OwnOut
    → left_of_part s member bytes (own_heard x error) ≡ answered_at (outs_before (own_at x) (slots_of x)) (Wrote error) (left_of_part s member bytes x)
own_heard_left s member bytes x error is e =
    let r = own_out x.placing x is.placed e in
    ap (λ slots. left_behind_slots slots (whole_plan s member bytes x)) (own_heard_slots x error is e)
    ∙ sym (slots_heard (own_at x) (Wrote error) (slots_of x) (whole_plan s member bytes x) (subst (λ slots. IsOutAt (length slots - 1) slots) (sym r.1) (out_last r.0 None)))

-- ---- a step is handed out

mapped_more : (ms : List Member) → map member_slot (ms ++ MemberOut ∷ []) ++ [] ≡ (map member_slot ms ++ []) ++ IsOut None ∷ []
mapped_more ms = append-nil (map member_slot (ms ++ MemberOut ∷ [])) ∙ map-append member_slot ms (MemberOut ∷ []) ∙ ap (λ xs. xs ++ IsOut None ∷ []) (sym (append-nil (map member_slot ms)))

-- of a gang a member is handed out before its header
member_more : (ms : List Member) (own : OwnWrite) → own ≡ Due → map member_slot (ms ++ MemberOut ∷ []) ++ own_slots own ≡ (map member_slot ms ++ own_slots own) ++ IsOut None ∷ []
member_more ms own e = subst (λ o. map member_slot (ms ++ MemberOut ∷ []) ++ own_slots o ≡ (map member_slot ms ++ own_slots o) ++ IsOut None ∷ []) (sym e) (mapped_more ms)

own_more : (ms : List Member) (own : OwnWrite) → own ≡ Due → map member_slot ms ++ IsOut None ∷ [] ≡ (map member_slot ms ++ own_slots own) ++ IsOut None ∷ []
own_more ms own e = subst (λ o. map member_slot ms ++ IsOut None ∷ [] ≡ (map member_slot ms ++ own_slots o) ++ IsOut None ∷ []) (sym e) (ap (λ xs. xs ++ IsOut None ∷ []) (sym (append-nil (map member_slot ms))))

due_or_not : (own : OwnWrite) → (is_due own ≡ false → ⊥) → own ≡ Due
due_or_not Due h = refl
due_or_not OwnOut h = absurd (h refl)
due_or_not (OwnEnded e) h = absurd (h refl)

-- before all members are handed out no header is written
pub own_is_due : (x : PartWriting) (places : List Place) → IsGang x places → length x.members < member_count x → x.own ≡ Due
own_is_due x places is less = due_or_not x.own (λ e. let all : length x.members ≡ member_count x = (is.headed e).0 in omega arith)

pub member_handed_slots : (p : Placing) (x : PartWriting) (places : List Place) → p ≡ Gang places → IsPlacedWell p x → length x.members < member_count x
    → slots_at p (with_members x (x.members ++ MemberOut ∷ [])) ≡ slots_at p x ++ IsOut None ∷ []
member_handed_slots Body x places e is less = absurd (cc)
member_handed_slots HeadDue x places e is less = absurd (cc)
member_handed_slots (Whole old) x places e is less = absurd (cc)
member_handed_slots (Gang old) x places e is less =
    ap (λ slots. Heard (Found None) ∷ Heard (Found (Some old)) ∷ slots) (member_more x.members x.own (own_is_due x old is less))
member_handed_slots Nowhere x places e is less = absurd (cc)

pub own_handed_slots : (p : Placing) (x : PartWriting) → x.own ≡ Due → IsHandedOut (step_at p x) → slots_at p (with_own x OwnOut) ≡ slots_at p x ++ IsOut None ∷ []
own_handed_slots Body x e h = absurd h
own_handed_slots HeadDue x e h = absurd h
own_handed_slots (Whole places) x e h = ap (λ own. Heard (Found (Some places)) ∷ own_slots own ++ IsOut None ∷ []) (sym e)
own_handed_slots (Gang places) x e h = ap (λ slots. Heard (Found None) ∷ Heard (Found (Some places)) ∷ slots) (own_more x.members x.own e)
own_handed_slots Nowhere x e h = absurd h

not_own : (own : OwnWrite) (n : ℕ) (due over : PartStep) → (MemberStep n ≡ due → ⊥) → (MemberStep n ≡ over → ⊥) → MemberStep n ≡ own_step own due over → ⊥
not_own Due n due over a b e = a e
not_own OwnOut n due over a b e = cc
not_own (OwnEnded error) n due over a b e = b e

not_ended : (b : Bool) (n : ℕ) → MemberStep n ≡ cond b End Wait → ⊥
not_ended true n e = cc
not_ended false n e = cc

not_headed : (b : Bool) (ms : List Member) (own : OwnWrite) (n : ℕ) → MemberStep n ≡ headed_step b ms own → ⊥
not_headed false ms own n e = cc
not_headed true ms own n e = not_own own n WriteHeader (cond (list_all is_ended ms) End Wait) (λ f. cc) (not_ended (list_all is_ended ms) n) e

-- which member it is
pub record IsNext (n : ℕ) (ms : List Member) (count : ℕ) : Type 0 where
  pub number : n ≡ length ms
  pub less : length ms < count

next_if : (b : Bool) (ms : List Member) (own : OwnWrite) (n count : ℕ) → nat_lt (length ms) count ≡ b → MemberStep n ≡ member_step b ms own → IsNext n ms count
next_if true ms own n count t e = record { number = cc; less = ltb-true (length ms) count t }
next_if false ms own n count t e = absurd (not_headed (list_all is_told ms) ms own n e)

pub step_member : (p : Placing) (x : PartWriting) (n : ℕ) → MemberStep n ≡ step_at p x → (places : List Place) × (p ≡ Gang places) × IsNext n x.members (member_count x)
step_member Body x n e = absurd (cc)
step_member HeadDue x n e = absurd (cc)
step_member (Whole places) x n e = absurd (not_own x.own n WriteBody End (λ f. cc) (λ f. cc) e)
step_member (Gang places) x n e = (places, refl, next_if (nat_lt (length x.members) (member_count x)) x.members x.own n (member_count x) refl e)
step_member Nowhere x n e = absurd (cc)

-- ---- what is left of a gang whose header isn't due

last_if : (b : Bool) → IsLast (cond b End Wait)
last_if true = tt
last_if false = tt

last_own : (own : OwnWrite) (b : Bool) → is_due own ≡ false → IsLast (own_step own WriteHeader (cond b End Wait))
last_own Due b e = absurd (cc)
last_own OwnOut b e = tt
last_own (OwnEnded error) b e = last_if b

abbrev member_step_by : Bool → Bool → List Member → OwnWrite → PartStep
member_step_by true told ms own = MemberStep (length ms)
member_step_by false told ms own = headed_step told ms own

by_told : (b : Bool) (ms : List Member) (own : OwnWrite) → member_step b ms own ≡ member_step_by b (list_all is_told ms) ms own
by_told true ms own = refl
by_told false ms own = refl

last_headed : (b t : Bool) (ms : List Member) (own : OwnWrite) → b ≡ false → t ≡ true → is_due own ≡ false → IsLast (member_step_by b t ms own)
last_headed true t ms own e f due = absurd (cc)
last_headed false false ms own e f due = absurd (cc)
last_headed false true ms own e f due = last_own own (list_all is_ended ms) due

pub gang_last : (x : PartWriting) (places : List Place) → IsGang x places → is_due x.own ≡ false → IsLast (step_at (Gang places) x)
gang_last x places is due =
    let h = is.headed due in
    let all : member_count x ≤ length x.members = omega (arith, h.0) in
    let at = last_headed (nat_lt (length x.members) (member_count x)) (list_all is_told x.members) x.members x.own (le-ltb (length x.members) (member_count x) all) h.1 due in
    subst IsLast (sym (by_told (nat_lt (length x.members) (member_count x)) x.members x.own)) at

-- and before a member is handed out its own write isn't
pub gang_due : (x : PartWriting) (places : List Place) (n : ℕ) → IsGang x places → MemberStep n ≡ step_at (Gang places) x → x.own ≡ Due
gang_due x places n is e = own_is_due x places is (step_member (Gang places) x n e).2.less

-- the step is for its own write
abbrev pub IsOwn : PartStep → Type 0
IsOwn WriteBody = Unit {0}
IsOwn WriteHeader = Unit {0}
IsOwn _ = ⊥

own_by : (own : OwnWrite) (due over : PartStep) → (IsOwn over → ⊥) → IsOwn (own_step own due over) → own ≡ Due
own_by Due due over h k = refl
own_by OwnOut due over h k = absurd k
own_by (OwnEnded error) due over h k = absurd (h k)

not_over : (b : Bool) → IsOwn (cond b End Wait) → ⊥
not_over true h = h
not_over false h = h

-- its header is due once each member was handed out and told its pointer
pub record IsHeaderDue (x : PartWriting) : Type 0 where
  pub due : x.own ≡ Due
  pub all : member_count x ≤ length x.members
  pub told : list_all is_told x.members ≡ true

headed_by : (b : Bool) (ms : List Member) (own : OwnWrite) → IsOwn (headed_step b ms own) → (own ≡ Due) × (b ≡ true)
headed_by false ms own h = absurd h
headed_by true ms own h = (own_by own WriteHeader (cond (list_all is_ended ms) End Wait) (not_over (list_all is_ended ms)) h, refl)

gang_by : (b : Bool) (x : PartWriting) → nat_lt (length x.members) (member_count x) ≡ b → IsOwn (member_step b x.members x.own) → IsHeaderDue x
gang_by true x t h = absurd h
gang_by false x t h =
    let r = headed_by (list_all is_told x.members) x.members x.own h in
    record { due = r.0; all = ltb-false (length x.members) (member_count x) t; told = r.1 }

pub header_due : (x : PartWriting) (places : List Place) → IsOwn (step_at (Gang places) x) → IsHeaderDue x
header_due x places h = gang_by (nat_lt (length x.members) (member_count x)) x refl h

own_due : (p : Placing) (x : PartWriting) → IsOwn (step_at p x) → x.own ≡ Due
own_due Body x h = absurd h
own_due HeadDue x h = absurd h
own_due (Whole places) x h = own_by x.own WriteBody End (λ k. k) h
own_due (Gang places) x h = (header_due x places h).due
own_due Nowhere x h = absurd h

own_is_out : (s : PartStep) → IsOwn s → IsHandedOut s
own_is_out WriteBody h = tt
own_is_out WriteHeader h = tt
own_is_out AskBody h = absurd h
own_is_out AskHead h = absurd h
own_is_out (MemberStep n) h = absurd h
own_is_out WaitReady h = absurd h
own_is_out Wait h = absurd h
own_is_out End h = absurd h

own_handed_by : (s : PartStep) (x : PartWriting) → IsOwn s → handed_by s x ≡ with_own x OwnOut
own_handed_by WriteBody x h = refl
own_handed_by WriteHeader x h = refl
own_handed_by AskBody x h = absurd h
own_handed_by AskHead x h = absurd h
own_handed_by (MemberStep n) x h = absurd h
own_handed_by WaitReady x h = absurd h
own_handed_by Wait x h = absurd h
own_handed_by End x h = absurd h

-- ---- what the call leaves

-- a member was handed out
pub record IsMemberHanded (x : PartWriting) : Type 0 where
  pub less : length x.members < member_count x
  pub handed : part_handed x ≡ with_members x (x.members ++ MemberOut ∷ [])
  pub slots : slots_of (with_members x (x.members ++ MemberOut ∷ [])) ≡ slots_of x ++ IsOut None ∷ []
  pub is : IsPartWriting (with_members x (x.members ++ MemberOut ∷ []))

all_more : (ms : List Member) → AllByRecursion IsSpelled ms → AllByRecursion IsSpelled (ms ++ MemberOut ∷ [])
all_more [] h = (tt, tt)
all_more (m ∷ ms) h = (h.0, all_more ms h.1)

placed_more : (p : Placing) (x : PartWriting) (places : List Place) → p ≡ Gang places → length x.members < member_count x → IsPlacedWell p x → IsPlacedWell p (with_members x (x.members ++ MemberOut ∷ []))
placed_more Body x places e less is = absurd (cc)
placed_more HeadDue x places e less is = absurd (cc)
placed_more (Whole old) x places e less is = absurd (cc)
placed_more (Gang old) x places e less is = record {
  large = is.large;
  spelled = is.spelled;
  few = omega (arith, less, length-append x.members (MemberOut ∷ []));
  headed = λ f. let all : length x.members ≡ member_count x = (is.headed f).0 in absurd (omega arith);
}
placed_more Nowhere x places e less is = absurd (cc)

pub member_handed : (x : PartWriting) (n : ℕ) → IsPartWriting x → MemberStep n ≡ step_of x → IsMemberHanded x
member_handed x n is e =
    let r = step_member x.placing x n e in
    record {
      less = r.2.less;
      handed = ap (λ s. handed_by s x) (sym e);
      slots = member_handed_slots x.placing x r.0 r.1 is.placed r.2.less;
      is = record {
        some = is.some;
        whole = is.whole;
        most = is.most;
        deep = is.deep;
        one = is.one;
        three = is.three;
        born = is.born;
        placed = placed_more x.placing x r.0 r.1 r.2.less is.placed;
        spelled = all_more x.members is.spelled;
      };
    }

-- its own write was handed out
pub record IsOwnHanded (x : PartWriting) : Type 0 where
  pub handed : part_handed x ≡ with_own x OwnOut
  pub slots : slots_of (with_own x OwnOut) ≡ slots_of x ++ IsOut None ∷ []
  pub is : IsPartWriting (with_own x OwnOut)

placed_own : (p : Placing) (x : PartWriting) → IsOwn (step_at p x) → IsPlacedWell p x → IsPlacedWell p (with_own x OwnOut)
placed_own Body x h is = absurd h
placed_own HeadDue x h is = absurd h
placed_own (Whole places) x h is = is
placed_own (Gang places) x h is =
    let d = header_due x places h in
    record {
      large = is.large;
      spelled = is.spelled;
      few = is.few;
      headed = λ f. (let few = is.few in let all = d.all in omega arith, d.told);
    }
placed_own Nowhere x h is = absurd h

pub own_handed : (x : PartWriting) → IsPartWriting x → IsOwn (step_of x) → IsOwnHanded x
own_handed x is h = record {
  handed = own_handed_by (step_of x) x h;
  slots = own_handed_slots x.placing x (own_due x.placing x h) (own_is_out (step_of x) h);
  is = record {
    some = is.some;
    whole = is.whole;
    most = is.most;
    deep = is.deep;
    one = is.one;
    three = is.three;
    born = is.born;
    placed = placed_own x.placing x h is.placed;
    spelled = is.spelled;
  };
}

-- what is left stays where one more is out
pub handed_left : (s : Setting) (member : List ℕ → List ℕ → Task) (bytes : List ℕ) (x : PartWriting) (slots : List Slot) → slots ≡ slots_of x ++ IsOut None ∷ [] → left_behind_slots slots (whole_plan s member bytes x) ≡ left_of_part s member bytes x
handed_left s member bytes x slots e = ap (λ xs. left_behind_slots xs (whole_plan s member bytes x)) e ∙ slots_more (slots_of x) (whole_plan s member bytes x)
