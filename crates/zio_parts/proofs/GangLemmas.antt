-- A gang that is written: what is left of its plan behind its members, and what each step shows of it.
use Rattle.std.proofs.Common.{◌≡◌, ℕ, zero, suc, ◌+◌, ◌<◌, ◌≤◌, List, [], ◌∷◌, ◌++◌, length, map, slice_get, get_or, Bool, true, false, cond, Option, Some, None, nat_le, nat_lt, refl, sym, ap, subst, ◌∙◌, arith, append-nil, ltb-true, ltb-false}
use Rattle.std.specs.Prelude.{Contains, slice_index_or}
use Rattle.std.specs.List.{flat_map, list_all}
use Rattle.std.proofs.lemmas.Bool.{false≢true, leb-true}
use Rattle.zio_types.specs.declared.error.Errno.{Errno}
use Rattle.zio_types.specs.declared.place.Place.{Place}
use Rattle.zio_types.specs.Choices.{no_place}
use Rattle.zio_types.specs.Errors.{worst_error, worst_of}
use Rattle.zio_types.specs.Filled.{filled_to}
use Rattle.zio_types.specs.Places.{sector_size}
use Rattle.zio_blkptr.specs.declared.pointer.Bp.{Bp}
use Rattle.zio_cksum.specs.Headers.{header_of, members_max, split_sizes}
use Rattle.zio_cksum.specs.Images.{Setting}
use Rattle.zio_cksum.specs.Sums.{sum_of}
use Rattle.zio_gang.specs.Writes.{Writing, cut, pointer_to}
use Rattle.zio_trace.specs.Calls.{NextIs}
use Rattle.zio_trace.specs.Plans.{Kin, TaskPlan, add_kin, gang_stored, header_over, plan_gang, plan_gang_unless, plan_members}
use Rattle.zio_trace.specs.Programs.{Ends, Asks, ◌>>=◌, ask}
use Rattle.zio_trace.specs.Tasks.{Task, Value, Found, Stored, StoredAs, WriteCopies, Wrote, stored, wrote}
use Rattle.zio_trace.specs.Underway.{early}
use Rattle.zio_frames.specs.Slots.{Slot, IsOut, Heard, left_behind_slots, told_in}
use Rattle.zio_parts.specs.Parts.{PartWriting, IsOfBytes, error_in, header_by, heads_in, is_ended, is_told, left_of_part, member_bytes, member_count, member_slot, own_slots, plan_of_part, pointer_in, pointer_over, writing_by}
use Rattle.zio_parts.specs.PartWrites.{EndsAlways, IsGang, ShowsPart, headed_step, member_step, own_step, step_at, stored_pointer}
use Rattle.zio_parts.specs.declared.members.Member.{Member}
use Rattle.zio_parts.specs.declared.members.Member.TheVariants.{Out as MemberOut, Told, Ended as MemberEnded}
use Rattle.zio_parts.specs.declared.parts.BlockWrite.{BlockWrite}
use Rattle.zio_parts.specs.declared.parts.OwnWrite.{OwnWrite}
use Rattle.zio_parts.specs.declared.parts.OwnWrite.TheVariants.{Due, Out as OwnOut, Ended as OwnEnded}
use Rattle.zio_parts.specs.declared.parts.PartStep.TheVariants.{WriteHeader, Member as MemberStep, Wait, End}
use Rattle.zio_parts.specs.declared.parts.Placing.TheVariants.{Gang}
use Rattle.zio_parts.proofs.PartLemmas.{own_is_due}
use Rattle.zio_frames.proofs.SlotMoves.{bind_assoc}

-- ---- behind members

module _ (member : List ℕ → List ℕ → Task) (path : List ℕ) where
  -- the members from the nth on
  abbrev members_from : ℕ → List (List ℕ) → TaskPlan Kin
  members_from n parts = plan_members (λ below part. ask (member below part)) path n parts

  abbrev with_first : Stored → (Kin → TaskPlan Value) → Kin → TaskPlan Value
  with_first v K others = K (add_kin v others)

  behind_first : (n : ℕ) (parts : List (List ℕ)) (K : Kin → TaskPlan Value) (v : Value)
      → ((members_from (n + 1) parts >>= λ others. Ends (add_kin (stored v) others)) >>= K) ≡ (members_from (n + 1) parts >>= with_first (stored v) K)
  behind_first n parts K v = bind_assoc (members_from (n + 1) parts) (λ others. Ends (add_kin (stored v) others)) K

  -- the next member
  pub next_member : (ms : List Member) (n m : ℕ) (parts : List (List ℕ)) (part : List ℕ) (K : Kin → TaskPlan Value) → m ≡ n + length ms → slice_get parts (length ms) ≡ Some part
      → NextIs early (told_in (map member_slot ms)) (left_behind_slots (map member_slot ms) (members_from n parts >>= K)) (member (path ++ m ∷ []) part)
  next_member ms n m [] part K at e = absurd (cc)
  next_member [] n m (q ∷ parts) part K at e =
      let is : q ≡ part = cc in
      let same : n ≡ m = omega arith in
      ap (λ k. member (path ++ k ∷ []) q) same ∙ ap (member (path ++ m ∷ [])) is
  next_member (MemberEnded error pointer heads ∷ ms) n m (q ∷ parts) part K at e =
      let v : Stored = record { error = error; pointer = pointer; heads = heads } in
      subst (λ p. NextIs early (told_in (map member_slot ms)) (left_behind_slots (map member_slot ms) p) (member (path ++ m ∷ []) part)) (sym (behind_first n parts K (StoredAs v)))
      (next_member ms (n + 1) m parts part (with_first v K) (omega arith) e)
  next_member (MemberOut ∷ ms) n m (q ∷ parts) part K at e = λ v fits.
      subst (λ p. NextIs early (told_in (map member_slot ms)) (left_behind_slots (map member_slot ms) p) (member (path ++ m ∷ []) part)) (sym (behind_first n parts K v))
      (next_member ms (n + 1) m parts part (with_first (stored v) K) (omega arith) e)
  next_member (Told pointer ∷ ms) n m (q ∷ parts) part K at e = λ v fits.
      subst (λ p. NextIs early (told_in (map member_slot ms)) (left_behind_slots (map member_slot ms) p) (member (path ++ m ∷ []) part)) (sym (behind_first n parts K v))
      (next_member ms (n + 1) m parts part (with_first (stored v) K) (omega arith) e)

  -- the header, once each member told its pointer
  pub next_header : (ms : List Member) (n : ℕ) (parts : List (List ℕ)) (op : Task) (K : Kin → TaskPlan Value) → length ms ≡ length parts → list_all is_told ms ≡ true
      → ((m : Kin) → m.pointers ≡ map pointer_in ms → NextIs stored_pointer [] (K m) op)
      → NextIs stored_pointer (told_in (map member_slot ms)) (left_behind_slots (map member_slot ms) (members_from n parts >>= K)) op
  next_header [] n [] op K all told h = h (record { errors = []; pointers = []; heads = [] }) refl
  next_header [] n (q ∷ parts) op K all told h = absurd (omega arith)
  next_header (x ∷ ms) n [] op K all told h = absurd (omega arith)
  next_header (MemberOut ∷ ms) n (q ∷ parts) op K all told h = absurd (false≢true told)
  next_header (Told pointer ∷ ms) n (q ∷ parts) op K all told h = λ v fits.
      subst (λ p. NextIs stored_pointer (told_in (map member_slot ms)) (left_behind_slots (map member_slot ms) p) op) (sym (behind_first n parts K v))
      (next_header ms (n + 1) parts op (with_first (stored v) K) (omega arith) told
      (λ m e. h (add_kin (stored v) m) (ap (λ r. r ∷ m.pointers) fits ∙ ap (λ ps. pointer ∷ ps) e)))
  next_header (MemberEnded error pointer heads ∷ ms) n (q ∷ parts) op K all told h =
      let v : Stored = record { error = error; pointer = pointer; heads = heads } in
      subst (λ p. NextIs stored_pointer (told_in (map member_slot ms)) (left_behind_slots (map member_slot ms) p) op) (sym (behind_first n parts K (StoredAs v)))
      (next_header ms (n + 1) parts op (with_first v K) (omega arith) told (λ m e. h (add_kin v m) (ap (λ ps. pointer ∷ ps) e)))

  -- what members left that ended
  abbrev pub kin_of : List Member → Kin
  kin_of ms = record { errors = map error_in ms; pointers = map pointer_in ms; heads = flat_map heads_in ms }

  pub behind_members : (ms : List Member) (slots : List Slot) (n : ℕ) (parts : List (List ℕ)) (K : Kin → TaskPlan Value) → length ms ≡ length parts → list_all is_ended ms ≡ true
      → left_behind_slots (map member_slot ms ++ slots) (members_from n parts >>= K) ≡ left_behind_slots slots (K (kin_of ms))
  behind_members [] slots n [] K all ended = refl
  behind_members [] slots n (q ∷ parts) K all ended = absurd (omega arith)
  behind_members (x ∷ ms) slots n [] K all ended = absurd (omega arith)
  behind_members (MemberOut ∷ ms) slots n (q ∷ parts) K all ended = absurd (false≢true ended)
  behind_members (Told pointer ∷ ms) slots n (q ∷ parts) K all ended = absurd (false≢true ended)
  behind_members (MemberEnded error pointer heads ∷ ms) slots n (q ∷ parts) K all ended =
      let v : Stored = record { error = error; pointer = pointer; heads = heads } in
      ap (left_behind_slots (map member_slot ms ++ slots)) (behind_first n parts K (StoredAs v))
      ∙ behind_members ms slots (n + 1) parts (with_first v K) (omega arith) ended

-- ---- which are out

ended_out : (ms : List Member) (slots : List Slot) → list_all is_ended ms ≡ true → told_in (map member_slot ms ++ slots) ≡ told_in slots
ended_out [] slots h = refl
ended_out (MemberOut ∷ ms) slots h = absurd (false≢true h)
ended_out (Told pointer ∷ ms) slots h = absurd (false≢true h)
ended_out (MemberEnded error pointer heads ∷ ms) slots h = ended_out ms slots h

some_out : (ms : List Member) (slots : List Slot) → list_all is_ended ms ≡ false → 0 < length (told_in (map member_slot ms ++ slots))
some_out [] slots h = absurd (cc)
some_out (MemberOut ∷ ms) slots h = omega arith
some_out (Told pointer ∷ ms) slots h = omega arith
some_out (MemberEnded error pointer heads ∷ ms) slots h = some_out ms slots h

own_is_out : (ms : List Member) → 0 < length (told_in (map member_slot ms ++ IsOut None ∷ []))
own_is_out [] = omega arith
own_is_out (MemberOut ∷ ms) = omega arith
own_is_out (Told pointer ∷ ms) = omega arith
own_is_out (MemberEnded error pointer heads ∷ ms) = own_is_out ms

deeper : {X : Type 0} (xs : List X) (y x : X) → Contains xs x → Contains (y ∷ xs) x
deeper xs y x h = (suc h.0, let k : h.0 < length xs = h.1 in omega arith, h.2)

some_untold : (ms : List Member) (slots : List Slot) → list_all is_told ms ≡ false → Contains (told_in (map member_slot ms ++ slots)) None
some_untold [] slots h = absurd (cc)
some_untold (MemberOut ∷ ms) slots h = (0, omega arith, refl)
some_untold (Told pointer ∷ ms) slots h = deeper (told_in (map member_slot ms ++ slots)) (Some pointer) None (some_untold ms slots h)
some_untold (MemberEnded error pointer heads ∷ ms) slots h = some_untold ms slots h

-- ---- the gang's plan

abbrev below_of : (List ℕ → List ℕ → Task) → List ℕ → List ℕ → TaskPlan Value
below_of member below part = ask (member below part)

abbrev gang_plan : Writing → (List ℕ → List ℕ → Task) → List ℕ → List ℕ → List Place → TaskPlan Value
gang_plan w member path bytes places = plan_gang (Some places) w (below_of member) path bytes

-- behind both asks
pub gang_left : (w : Writing) (member : List ℕ → List ℕ → Task) (path bytes : List ℕ) (places : List Place) (slots : List Slot) → nat_le (length bytes) sector_size ≡ false
    → left_behind_slots (Heard (Found None) ∷ Heard (Found (Some places)) ∷ slots) (plan_of_part w member path bytes) ≡ left_behind_slots slots (gang_plan w member path bytes places)
gang_left w member path bytes places slots e =
    ap (λ b. left_behind_slots (Heard (Found (Some places)) ∷ slots) (plan_gang_unless b w (below_of member) path bytes)) e

-- how it goes on behind its members
abbrev headed : Writing → List ℕ → List ℕ → List Place → Kin → TaskPlan Value
headed w path bytes places m = ask (WriteCopies (header_over w places m) places) >>= λ v. Ends (StoredAs (gang_stored w path bytes places m (wrote v)))

length_cut : (sizes bytes : List ℕ) → length (cut sizes bytes) ≡ length sizes
length_cut [] bytes = refl
length_cut (n ∷ sizes) bytes = ap suc (length_cut sizes _)

get_there : {X : Type 0} (xs : List X) (n : ℕ) (d : X) → n < length xs → slice_get xs n ≡ Some (get_or xs n d)
get_there [] n d h = absurd (omega arith)
get_there (x ∷ xs) zero d h = refl
get_there (x ∷ xs) (suc n) d h = get_there xs n d (omega arith)

not_small : (b : Bool) (n m : ℕ) → nat_le n m ≡ b → m < n → nat_le n m ≡ false
not_small false n m e h = e
not_small true n m e h = let no : n ≤ m = leb-true n m e in absurd (omega arith)

-- the pointer of the bytes
pub pointer_is : (s : Setting) (x : PartWriting) (gang : Bool) (places : List Place) (bytes : List ℕ) → IsOfBytes x bytes → pointer_to (writing_by s x.write) places gang bytes ≡ pointer_over x gang places
pointer_is s x gang places bytes of =
    ap (λ n. let bp : Bp = record { count = length places; places = filled_to no_place 3 places; gang = gang; size = n; sum = x.write.sum; birth = x.write.birth; words = sum_of x.write.sum bytes } in bp) (sym of.size)
    ∙ ap (λ ws. let bp : Bp = record { count = length places; places = filled_to no_place 3 places; gang = gang; size = x.size; sum = x.write.sum; birth = x.write.birth; words = ws } in bp) (sym of.words)

-- ---- whatever is answered

ends_behind : (P : Value → Type 0) (slots : List Slot) (p : TaskPlan Value) → EndsAlways P p → EndsAlways P (left_behind_slots slots p)
ends_behind P [] p h = h
ends_behind P (x ∷ slots) (Ends v) h = h
ends_behind P (Heard v ∷ slots) (Asks op more) h = ends_behind P slots (more v) (h v)
ends_behind P (IsOut told ∷ slots) (Asks op more) h = λ v. ends_behind P slots (more v) (h v)

pub ends_bind : {A : Type 0} (P : Value → Type 0) (p : TaskPlan A) (K : A → TaskPlan Value) → ((a : A) → EndsAlways P (K a)) → EndsAlways P (p >>= K)
ends_bind P (Ends a) K h = h a
ends_bind P (Asks op more) K h = λ v. ends_bind P (more v) K h

-- ---- each step

module _ (s : Setting) (member : List ℕ → List ℕ → Task) (bytes : List ℕ) (write : BlockWrite) (path : List ℕ) (size : ℕ) (words : List ℕ) (places : List Place) where
  abbrev gang_with : List Member → OwnWrite → PartWriting
  gang_with ms own = record { write = write; path = path; size = size; words = words; placing = Gang places; members = ms; own = own }

  abbrev its_plan : TaskPlan Value
  its_plan = gang_plan (writing_by s write) member path bytes places

  abbrev its_parts : List (List ℕ)
  its_parts = cut (split_sizes (length bytes)) bytes

  left_is : (ms : List Member) (own : OwnWrite) → IsGang (gang_with ms own) places → IsOfBytes (gang_with ms own) bytes
      → left_of_part s member bytes (gang_with ms own) ≡ left_behind_slots (map member_slot ms ++ own_slots own) its_plan
  left_is ms own is of =
      let large = is.large in
      let same = of.size in
      gang_left (writing_by s write) member path bytes places (map member_slot ms ++ own_slots own) (not_small (nat_le (length bytes) sector_size) (length bytes) sector_size refl (omega arith))

  as_many : (ms : List Member) (own : OwnWrite) → IsOfBytes (gang_with ms own) bytes → member_count (gang_with ms own) ≡ length its_parts
  as_many ms own of = ap (λ n. length (split_sizes n)) of.size ∙ sym (length_cut (split_sizes (length bytes)) bytes)

  before_own : (ms : List Member) (own : OwnWrite) → own ≡ Due → map member_slot ms ≡ map member_slot ms ++ own_slots own
  before_own ms own e = sym (append-nil (map member_slot ms)) ∙ ap (λ o. map member_slot ms ++ own_slots o) (sym e)

  shows_member : (ms : List Member) (own : OwnWrite) → IsGang (gang_with ms own) places → IsOfBytes (gang_with ms own) bytes → length ms < member_count (gang_with ms own)
      → ShowsPart s member bytes (gang_with ms own) (MemberStep (length ms))
  shows_member ms own is of less =
      let count : member_count (gang_with ms own) ≡ length its_parts = as_many ms own of in
      let op : Task = member (path ++ length ms ∷ []) (member_bytes bytes (length ms)) in
      let first : NextIs early (told_in (map member_slot ms)) (left_behind_slots (map member_slot ms) its_plan) op =
      next_member member path ms 0 (length ms) its_parts (member_bytes bytes (length ms)) (headed (writing_by s write) path bytes places) (omega arith) (get_there its_parts (length ms) [] (omega arith)) in
      let all : NextIs early (told_in (map member_slot ms ++ own_slots own)) (left_behind_slots (map member_slot ms ++ own_slots own) its_plan) op =
      subst (λ slots. NextIs early (told_in slots) (left_behind_slots slots its_plan) op) (before_own ms own (own_is_due (gang_with ms own) places is less)) first in
      (refl, less, subst (λ p. NextIs early (told_in (map member_slot ms ++ own_slots own)) p op) (sym (left_is ms own is of)) all)

  shows_header : (ms : List Member) (own : OwnWrite) → IsGang (gang_with ms own) places → IsOfBytes (gang_with ms own) bytes → length ms ≡ member_count (gang_with ms own) → list_all is_told ms ≡ true → own ≡ Due
      → ShowsPart s member bytes (gang_with ms own) WriteHeader
  shows_header ms own is of all told due =
      let op : Task = WriteCopies (header_by (gang_with ms own) places) places in
      let first : NextIs stored_pointer (told_in (map member_slot ms)) (left_behind_slots (map member_slot ms) its_plan) op =
      next_header member path ms 0 its_parts op (headed (writing_by s write) path bytes places) (all ∙ as_many ms own of) told
      (λ m e. ap (λ ps. WriteCopies (header_of (filled_to None members_max ps) (slice_index_or places 0 no_place) write.birth) places) e) in
      let whole : NextIs stored_pointer (told_in (map member_slot ms ++ own_slots own)) (left_behind_slots (map member_slot ms ++ own_slots own) its_plan) op =
      subst (λ slots. NextIs stored_pointer (told_in slots) (left_behind_slots slots its_plan) op) (before_own ms own due) first in
      (refl, subst (λ p. NextIs stored_pointer (told_in (map member_slot ms ++ own_slots own)) p op) (sym (left_is ms own is of)) whole)

  shows_end : (ms : List Member) (error : Option Errno) → IsGang (gang_with ms (OwnEnded error)) places → IsOfBytes (gang_with ms (OwnEnded error)) bytes → length ms ≡ member_count (gang_with ms (OwnEnded error)) → list_all is_ended ms ≡ true
      → ShowsPart s member bytes (gang_with ms (OwnEnded error)) End
  shows_end ms error is of all ended =
      let w : Writing = writing_by s write in
      let kin : Kin = kin_of member path ms in (
        ended_out ms (Heard (Wrote error) ∷ []) ended,
        left_is ms (OwnEnded error) is of
            ∙ behind_members member path ms (Heard (Wrote error) ∷ []) 0 its_parts (headed w path bytes places) (all ∙ as_many ms (OwnEnded error) of) ended
            ∙ ap (λ bp. Ends (StoredAs (record { error = worst_error (worst_of (map error_in ms)) error; pointer = Some bp; heads = record { path = path; bytes = header_over w places kin } ∷ kin.heads })))
            (pointer_is s (gang_with ms (OwnEnded error)) true places bytes of),
      )

  shows_ended : (b : Bool) (ms : List Member) (error : Option Errno) → list_all is_ended ms ≡ b → IsGang (gang_with ms (OwnEnded error)) places → IsOfBytes (gang_with ms (OwnEnded error)) bytes → length ms ≡ member_count (gang_with ms (OwnEnded error))
      → ShowsPart s member bytes (gang_with ms (OwnEnded error)) (cond b End Wait)
  shows_ended true ms error e is of all = shows_end ms error is of all e
  shows_ended false ms error e is of all = some_out ms (Heard (Wrote error) ∷ []) e

  shows_own : (ms : List Member) (own : OwnWrite) → IsGang (gang_with ms own) places → IsOfBytes (gang_with ms own) bytes → length ms ≡ member_count (gang_with ms own) → list_all is_told ms ≡ true
      → ShowsPart s member bytes (gang_with ms own) (own_step own WriteHeader (cond (list_all is_ended ms) End Wait))
  shows_own ms Due is of all told = shows_header ms Due is of all told refl
  shows_own ms OwnOut is of all told = own_is_out ms
  shows_own ms (OwnEnded error) is of all told = shows_ended (list_all is_ended ms) ms error refl is of all

  shows_headed : (b : Bool) (ms : List Member) (own : OwnWrite) → list_all is_told ms ≡ b → IsGang (gang_with ms own) places → IsOfBytes (gang_with ms own) bytes → length ms ≡ member_count (gang_with ms own)
      → ShowsPart s member bytes (gang_with ms own) (headed_step b ms own)
  shows_headed true ms own e is of all = shows_own ms own is of all e
  shows_headed false ms own e is of all = some_untold ms (own_slots own) e

  shows_gang : (b : Bool) (ms : List Member) (own : OwnWrite) → nat_lt (length ms) (member_count (gang_with ms own)) ≡ b → IsGang (gang_with ms own) places → IsOfBytes (gang_with ms own) bytes
      → ShowsPart s member bytes (gang_with ms own) (member_step b ms own)
  shows_gang true ms own e is of = shows_member ms own is of (ltb-true (length ms) (member_count (gang_with ms own)) e)
  shows_gang false ms own e is of =
      let few = is.few in
      let most : member_count (gang_with ms own) ≤ length ms = ltb-false (length ms) (member_count (gang_with ms own)) e in
      shows_headed (list_all is_told ms) ms own refl is of (omega arith)

  -- the next step of a gang shows what is left
  pub gang_shown : (ms : List Member) (own : OwnWrite) → IsGang (gang_with ms own) places → IsOfBytes (gang_with ms own) bytes → ShowsPart s member bytes (gang_with ms own) (step_at (Gang places) (gang_with ms own))
  gang_shown ms own is of = shows_gang (nat_lt (length ms) (member_count (gang_with ms own))) ms own refl is of

  -- whatever is answered, its pointer is this
  pub gang_pointer : (ms : List Member) (own : OwnWrite) → IsGang (gang_with ms own) places → IsOfBytes (gang_with ms own) bytes
      → EndsAlways (λ v. early v ≡ Some (pointer_over (gang_with ms own) true places)) (left_of_part s member bytes (gang_with ms own))
  gang_pointer ms own is of =
      let Named : Value → Type 0 = λ v. early v ≡ Some (pointer_over (gang_with ms own) true places) in
      subst (EndsAlways Named) (sym (left_is ms own is of))
      (ends_behind Named (map member_slot ms ++ own_slots own) its_plan
      (ends_bind Named (members_from member path 0 its_parts) (headed (writing_by s write) path bytes places)
      (λ m v. ap Some (pointer_is s (gang_with ms own) true places bytes of))))
