-- The header of a gang is asked next, whatever its members that are out are answered; and a part of one sector has none.
use Rattle.std.proofs.Common.{◌≡◌, ℕ, suc, ◌+◌, ◌≤◌, List, [], ◌∷◌, ◌++◌, length, map, Bool, true, false, Option, Some, None, nat_le, refl, sym, ap, subst, ◌∙◌, arith, le-leb, append-nil}
use Rattle.std.specs.List.{AllByRecursion}
use Rattle.std.proofs.lemmas.List.{length-map}
use Rattle.zio_types.specs.declared.place.Place.{Place}
use Rattle.zio_types.specs.Places.{sector_size}
use Rattle.zio_blkptr.specs.declared.pointer.Bp.{Bp}
use Rattle.zio_cksum.specs.Headers.{split_sizes}
use Rattle.zio_cksum.specs.Images.{Setting}
use Rattle.zio_gang.specs.Writes.{Writing, cut}
use Rattle.zio_trace.specs.Calls.{FitsEarly, NextIs}
use Rattle.zio_trace.specs.Plans.{TaskPlan, plan_gang_unless, plan_members}
use Rattle.zio_trace.specs.Programs.{Ends, Asks, ask}
use Rattle.zio_trace.specs.Tasks.{Find, Found, Leaf, ReadCopies, WriteCopies, WritePart, ReadHeads, ReadTree, TakePlaces, Attempt, Settle, Task, Value}
use Rattle.zio_trace.specs.Underway.{early}
use Rattle.zio_frames.specs.Answering.{EndsAnswered, IsAnswerTo, NextAnswered}
use Rattle.zio_frames.specs.Slots.{Heard, IsOut, Slot, left_behind_slots, told_in}
use Rattle.zio_frames.proofs.SlotLemmas.{AsksTasks, asks_then}
use Rattle.zio_parts.specs.PartTasks.{IsPart}
use Rattle.zio_parts.specs.Parts.{PartWriting, is_gang, member_count, member_slot, own_slots, plan_of_part, slots_at, whole_plan, writing_by}
use Rattle.zio_parts.specs.PartWrites.{EndsAlways, stored_pointer}
use Rattle.zio_parts.specs.declared.parts.OwnWrite.TheVariants.{Due}
use Rattle.zio_parts.specs.declared.parts.Placing.{Placing}
use Rattle.zio_parts.specs.declared.parts.Placing.TheVariants.{Body, Head as HeadDue, Whole, Gang, Nowhere}

-- ---- parts that are out

-- those that are out write parts
abbrev PartsFirst : {A : Type 0} → List (Option (Option Bp)) → TaskPlan A → Type 0
PartsFirst outs (Ends a) = Unit {0}
PartsFirst [] (Asks op more) = Unit {0}
PartsFirst (told ∷ outs) (Asks op more) = IsPart op × ((v : Value) → PartsFirst outs (more v))

-- a pointer that one told is the stored one
fits_stored : (told : Option (Option Bp)) (op : Task) (v : Value) → IsPart op → IsAnswerTo op v → FitsEarly early told v
    → FitsEarly stored_pointer told v
fits_stored None op v part kind fits = tt
fits_stored (Some pointer) (WritePart attempt p sum copies levels path bytes) v part kind fits =
    ap stored_pointer kind.1 ∙ ap early (sym kind.1) ∙ fits
fits_stored (Some pointer) (Leaf act) v part kind fits = absurd part
fits_stored (Some pointer) (Find a) v part kind fits = absurd part
fits_stored (Some pointer) (ReadCopies repair test len places) v part kind fits = absurd part
fits_stored (Some pointer) (WriteCopies bytes places) v part kind fits = absurd part
fits_stored (Some pointer) (ReadHeads look levels path bp) v part kind fits = absurd part
fits_stored (Some pointer) (ReadTree tree) v part kind fits = absurd part
fits_stored (Some pointer) (TakePlaces tree) v part kind fits = absurd part
fits_stored (Some pointer) (Attempt attempt p kids) v part kind fits = absurd part
fits_stored (Some pointer) (Settle p kids) v part kind fits = absurd part

by_parts : {A : Type 0} (outs : List (Option (Option Bp))) (p : TaskPlan A) (op : Task) → PartsFirst outs p → NextIs stored_pointer outs p op
    → NextAnswered outs p op
by_parts outs (Ends a) op parts h = absurd h
by_parts [] (Asks next more) op parts h = h
by_parts (told ∷ outs) (Asks next more) op parts h = λ v kind fits. by_parts outs (more v) op (parts.1 v) (h v (fits_stored told next v parts.0 kind fits))

parts_first : {A : Type 0} (ops : List Task) (slots : List Slot) (p : TaskPlan A) → AsksTasks ops p → AllByRecursion IsPart ops
    → length slots ≤ length ops → PartsFirst (told_in slots) (left_behind_slots slots p)
parts_first ops [] (Ends a) asks all l = tt
parts_first ops [] (Asks x more) asks all l = tt
parts_first [] (s ∷ slots) p asks all l = absurd (omega arith)
parts_first (q ∷ ops) (s ∷ slots) (Ends a) asks all l = absurd asks
parts_first (q ∷ ops) (Heard v ∷ slots) (Asks x more) asks all l = parts_first ops slots (more v) (asks.1 v) all.1 (omega arith)
parts_first (q ∷ ops) (IsOut told ∷ slots) (Asks x more) asks all l = (subst IsPart (sym asks.0) all.0, λ v. parts_first ops slots (more v) (asks.1 v) all.1 (omega arith))

-- ---- the members of a gang

module _ (member : List ℕ → List ℕ → Task) (is_part : (path bytes : List ℕ) → IsPart (member path bytes)) where
  member_ops : List ℕ → ℕ → List (List ℕ) → List Task
  member_ops path n [] = []
  member_ops path n (part ∷ parts) = member (path ++ n ∷ []) part ∷ member_ops path (n + 1) parts

  ops_asked : (path : List ℕ) (n : ℕ) (parts : List (List ℕ))
      → AsksTasks (member_ops path n parts) (plan_members (λ below part. ask (member below part)) path n parts)
  unfolding member_ops
  ops_asked path n [] = tt
  ops_asked path n (part ∷ parts) = (refl, λ v. asks_then (member_ops path (n + 1) parts) (plan_members (λ below part. ask (member below part)) path (n + 1) parts) _ (ops_asked path (n + 1) parts))

  ops_parts : (path : List ℕ) (n : ℕ) (parts : List (List ℕ)) → AllByRecursion IsPart (member_ops path n parts)
  unfolding member_ops
  ops_parts path n [] = tt
  ops_parts path n (part ∷ parts) = (is_part (path ++ n ∷ []) part, ops_parts path (n + 1) parts)

  ops_many : (path : List ℕ) (n : ℕ) (parts : List (List ℕ)) → length (member_ops path n parts) ≡ length parts
  unfolding member_ops
  ops_many path n [] = refl
  ops_many path n (part ∷ parts) = ap suc (ops_many path (n + 1) parts)

  length_cut : (sizes bytes : List ℕ) → length (cut sizes bytes) ≡ length sizes
  length_cut [] bytes = refl
  length_cut (n ∷ sizes) bytes = ap suc (length_cut sizes _)

  unless_first : (b : Bool) (w : Writing) (path bytes : List ℕ) (places : List Place) (rest : List Slot)
      → length rest ≤ length (split_sizes (length bytes))
      → PartsFirst (told_in rest) (left_behind_slots (Heard (Found (Some places)) ∷ rest) (plan_gang_unless b w (λ below part. ask (member below part)) path bytes))
  unless_first true w path bytes places rest l = ended (told_in rest) where
    ended : (outs : List (Option (Option Bp))) → PartsFirst outs (left_behind_slots (Heard (Found (Some places)) ∷ rest) (plan_gang_unless true w (λ below part. ask (member below part)) path bytes))
    ended outs = tt
  unless_first false w path bytes places rest l =
      let parts : List (List ℕ) = cut (split_sizes (length bytes)) bytes in
      let many : length (member_ops path 0 parts) ≡ length (split_sizes (length bytes)) = ops_many path 0 parts ∙ length_cut (split_sizes (length bytes)) bytes in
      parts_first (member_ops path 0 parts) rest _
      (asks_then (member_ops path 0 parts) (plan_members (λ below part. ask (member below part)) path 0 parts) _ (ops_asked path 0 parts))
      (ops_parts path 0 parts) (omega arith)

  -- the header, as it is asked behind parts
  pub header_answered : (s : Setting) (bytes : List ℕ) (placing : Placing) (x : PartWriting) (op : Task) → is_gang placing ≡ true → x.own ≡ Due
      → x.size ≡ length bytes → length x.members ≤ member_count x
      → NextIs stored_pointer (told_in (slots_at placing x)) (left_behind_slots (slots_at placing x) (whole_plan s member bytes x)) op
      → NextAnswered (told_in (slots_at placing x)) (left_behind_slots (slots_at placing x) (whole_plan s member bytes x)) op
  header_answered s bytes Body x op g due size few h = absurd (cc)
  header_answered s bytes HeadDue x op g due size few h = absurd (cc)
  header_answered s bytes (Whole places) x op g due size few h = absurd (cc)
  header_answered s bytes (Gang places) x op g due size few h =
      let rest : List Slot = map member_slot x.members ++ own_slots x.own in
      let long : length rest ≡ length x.members = ap (λ o. length (map member_slot x.members ++ own_slots o)) due ∙ ap length (append-nil (map member_slot x.members)) ∙ length-map x.members member_slot in
      let count : member_count x ≡ length (split_sizes (length bytes)) = ap (λ n. length (split_sizes n)) size in
      by_parts (told_in (slots_at (Gang places) x)) (left_behind_slots (slots_at (Gang places) x) (whole_plan s member bytes x)) op
      (unless_first (nat_le (length bytes) sector_size) (writing_by s x.write) x.path bytes places rest (omega arith)) h
  header_answered s bytes Nowhere x op g due size few h = absurd (cc)

-- ---- one sector

unless_none : (b : Bool) (w : Writing) (below : List ℕ → List ℕ → TaskPlan Value) (path bytes : List ℕ) (outs : List (Option (Option Bp))) (slot : Slot) (slots : List Slot) (op : Task)
    → b ≡ true
    → NextIs early outs (left_behind_slots (slot ∷ slots) (plan_gang_unless b w below path bytes)) op → ⊥
unless_none true w below path bytes outs slot slots op e h = h
unless_none false w below path bytes outs slot slots op e h = absurd (cc)

-- a part of one sector asks for nothing as a gang
pub no_member : (w : Writing) (member : List ℕ → List ℕ → Task) (path bytes : List ℕ) (placing : Placing) (x : PartWriting) (op : Task)
    → is_gang placing ≡ true → length bytes ≤ 512
    → NextIs early (told_in (slots_at placing x)) (left_behind_slots (slots_at placing x) (plan_of_part w member path bytes)) op → ⊥
no_member w member path bytes Body x op g small h = absurd (cc)
no_member w member path bytes HeadDue x op g small h = absurd (cc)
no_member w member path bytes (Whole places) x op g small h = absurd (cc)
no_member w member path bytes (Gang places) x op g small h =
    unless_none (nat_le (length bytes) sector_size) w (λ below part. ask (member below part)) path bytes (told_in (slots_at (Gang places) x)) (Heard (Found (Some places)))
    (map member_slot x.members ++ own_slots x.own) op (le-leb (length bytes) 512 small) h
no_member w member path bytes Nowhere x op g small h = absurd (cc)

-- ---- its end

pub always_answered : (P : Value → Type 0) (outs : List (Option (Option Bp))) (p : TaskPlan Value) → EndsAlways P p → EndsAnswered P outs p
always_answered P outs (Ends v) h = h
always_answered P [] (Asks op more) h = λ v kind. always_answered P [] (more v) (h v)
always_answered P (told ∷ outs) (Asks op more) h = λ v kind fits. always_answered P outs (more v) (h v)
