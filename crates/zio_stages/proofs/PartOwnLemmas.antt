-- The write of a part as a node's part: it begins, asks, hands out, and hears.
use Rattle.std.proofs.Common.{◌≡◌, ℕ, zero, suc, ◌*◌, ◌^◌, ◌≤◌, List, [], ◌∷◌, ◌++◌, length, map, true, false, refl, sym, ap, subst, ◌∙◌}
use Rattle.std.specs.List.{AllByRecursion}
use Rattle.std.proofs.lemmas.List.{map-append}
use Rattle.zio_blkptr.specs.declared.pointer.SumKind.{SumKind}
use Rattle.zio_gang.specs.Attempts.{Pending, Terms, writing_of}
use Rattle.zio_gang.specs.Writes.{Writing}
use Rattle.zio_trace.specs.Plans.{plan_write}
use Rattle.zio_trace.specs.Programs.{ask, Ends}
use Rattle.zio_trace.specs.Tasks.{StoredAs, Task, WritePart, nowhere}
use Rattle.zio_frames.specs.Slots.{AsksBehindSlots, Slot, left_behind_slots, told_in}
use Rattle.zio_parts.specs.Parts.{IsOfBytes, PartWriting, is_gang, left_of_part, member_count, plan_of_part, slots_of, whole_plan, writing_by}
use Rattle.zio_parts.specs.PartWrites.{is_due}
use Rattle.zio_parts.specs.declared.members.Member.{Member}
use Rattle.zio_parts.specs.declared.parts.OwnWrite.{OwnWrite}
use Rattle.zio_parts.specs.declared.parts.Placing.{Placing}
use Rattle.zio_parts.proofs.PartTaskLemmas.{part_sector}
use Rattle.zio_stages.specs.PartOwns.{IsKeptMember, IsPartOwn, PartAsks, WrittenPart, ask_of, asks_in, level_below, member_of, part_plan, part_task}
use Rattle.zio_stages.specs.PartsOut.{ArePartsOut}
use Rattle.zio_stages.specs.declared.part.PartOwn.{PartOwn}
use Rattle.zio_stages.proofs.Asking.{next_answered}

-- ---- its plan

-- the write of a member
abbrev pub member_task : WrittenPart → List ℕ → List ℕ → Task
member_task o path bytes = part_task (member_of o path bytes)

written_by : (t : Terms) (attempt : ℕ) (p : Pending) (sum : SumKind) (copies levels : ℕ) (path bytes : List ℕ) → length bytes ≤ 512 * 3 ^ levels
    → plan_write t attempt p sum copies levels path bytes ≡ plan_of_part (writing_of t attempt p sum copies) (WritePart attempt p sum copies (level_below levels)) path bytes
written_by t attempt p sum copies zero path bytes small =
    part_sector (writing_of t attempt p sum copies) (λ below part. Ends (StoredAs nowhere)) (λ below part. ask (WritePart attempt p sum copies zero below part)) path bytes small
written_by t attempt p sum copies (suc levels) path bytes small = refl

pub plan_is : (t : Terms) (w : PartOwn) (o : WrittenPart) (asked : List Task) (slots : List Slot) → IsPartOwn t w o asked slots
    → part_plan t o ≡ whole_plan t.setting (member_task o) o.bytes w.part
plan_is t w o asked slots h =
    written_by t o.attempt o.pending o.sum_kind o.copies o.levels o.path o.bytes h.deep
    ∙ ap (λ (g : Writing). plan_of_part g (member_task o) o.path o.bytes) (sym h.writing)
    ∙ ap (λ (p : List ℕ). plan_of_part (writing_by t.setting w.part.write) (member_task o) p o.bytes) (sym h.path)

pub left_is : (t : Terms) (w : PartOwn) (o : WrittenPart) (asked : List Task) (slots : List Slot) → IsPartOwn t w o asked slots
    → left_behind_slots slots (part_plan t o) ≡ left_of_part t.setting (member_task o) o.bytes w.part
left_is t w o asked slots h = ap (left_behind_slots slots) (plan_is t w o asked slots h) ∙ ap (λ s. left_behind_slots s (whole_plan t.setting (member_task o) o.bytes w.part)) h.shown

pub part_asks : (t : Terms) (w : PartOwn) (o : WrittenPart) (asked : List Task) (slots : List Slot) (op : Task) → IsPartOwn t w o asked slots
    → AsksBehindSlots (slots_of w.part) (whole_plan t.setting (member_task o) o.bytes w.part) op → PartAsks t o slots op
part_asks t w o asked slots op h shows =
    let mine : AsksBehindSlots slots (whole_plan t.setting (member_task o) o.bytes w.part) op = subst (λ s. AsksBehindSlots s (whole_plan t.setting (member_task o) o.bytes w.part) op) (sym h.shown) shows in
    next_answered (told_in slots) (left_behind_slots slots (part_plan t o)) op (subst (λ p. AsksBehindSlots slots p op) (sym (plan_is t w o asked slots h)) mine)

-- ---- it goes on

-- the part with this placing, these members and this write of its body or header
abbrev pub turned_part : PartWriting → Placing → List Member → OwnWrite → PartWriting
turned_part x placing members own = record { write = x.write; path = x.path; size = x.size; words = x.words; placing = placing; members = members; own = own }

pub part_moved : (t : Terms) (old new : PartOwn) (o : WrittenPart) (asked more : List Task) (slots after : List Slot) (placing : Placing) (members : List Member) (own : OwnWrite)
    → IsPartOwn t old o asked slots
    → new.part ≡ turned_part old.part placing members own → after ≡ slots_of new.part → map ask_of more ≡ asks_in new.part → length more ≡ length after
    → ArePartsOut more after
    → length members ≤ member_count old.part → (is_due own ≡ false → is_gang placing ≡ true → member_count old.part ≤ length members)
    → AllByRecursion IsKeptMember members → IsPartOwn t new o more after
part_moved t old new o asked more slots after placing members own h is shown asks full out few headed kept = record {
  writing = ap (λ (x : PartWriting). writing_by t.setting x.write) is ∙ h.writing;
  path = ap (λ (x : PartWriting). x.path) is ∙ h.path;
  of_bytes = subst (λ (x : PartWriting). IsOfBytes x o.bytes) (sym is) (record { size = h.of_bytes.size; words = h.of_bytes.words });
  shown = shown;
  asks = asks;
  full = full;
  out = out;
  levels = h.levels;
  deep = h.deep;
  few = subst (λ (x : PartWriting). length x.members ≤ member_count x) (sym is) few;
  headed = subst (λ (x : PartWriting). is_due x.own ≡ false → is_gang x.placing ≡ true → member_count x ≤ length x.members) (sym is) headed;
  kept = subst (λ (x : PartWriting). AllByRecursion IsKeptMember x.members) (sym is) kept;
}

-- one more is asked
pub asked_more : (asked : List Task) (op : Task) (x y : PartWriting) → map ask_of asked ≡ asks_in x → asks_in y ≡ asks_in x ++ ask_of op ∷ []
    → map ask_of (asked ++ op ∷ []) ≡ asks_in y
asked_more asked op x y same more = map-append ask_of asked (op ∷ []) ∙ ap (λ qs. qs ++ ask_of op ∷ []) same ∙ sym more
