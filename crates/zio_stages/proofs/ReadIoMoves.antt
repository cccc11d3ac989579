-- The read of a block's copies by operations on leaves: what each call leaves of the part's plan.
use Rattle.std.proofs.Common.{◌≡◌, ℕ, ◌+◌, ◌-◌, ◌<◌, List, [], ◌∷◌, ◌++◌, length, Bool, true, false, Option, Some, None, refl, sym, ap, subst, ◌∙◌, arith, length-append}
use Rattle.zio_types.specs.declared.place.Place.{Place}
use Rattle.zio_types.specs.declared.place.Top.{Top}
use Rattle.zio_types.specs.declared.request.Prio.{Prio}
use Rattle.zio_types.specs.declared.request.Prio.TheVariants.{AsyncWrite}
use Rattle.zio_gang.specs.Attempts.{Terms}
use Rattle.zio_trace.specs.Calls.{NextIs}
use Rattle.zio_trace.specs.CopyPrograms.{Program, block_reading}
use Rattle.zio_trace.specs.Leaves.{Answer, Fetch, LeafOp, Store}
use Rattle.zio_trace.specs.Plans.{TaskPlan, plan}
use Rattle.zio_trace.specs.Tasks.{Got, Leaf, ReadCopies, Task, Test, Value, good_by}
use Rattle.zio_trace.specs.Underway.{early}
use Rattle.zio_frames.specs.Answering.{NextAnswered}
use Rattle.zio_frames.specs.Frames.{Frame, fresh_frame, left_of, with_asked}
use Rattle.zio_frames.specs.Slots.{IsOut, told_in}
use Rattle.zio_frames.proofs.SlotMoves.{slots_more}
use Rattle.zio_parts.specs.Answered.{AsksBehind, out_count}
use Rattle.zio_parts.specs.Copies.{spot_at}
use Rattle.zio_parts.specs.CopyReads.{AllowsRead, IsReadyWith, Reading, ShowsRead, fresh_read, handed_with, left_of_read, outs_of, outs_with}
use Rattle.zio_parts.specs.LeafPlans.{reading_plan}
use Rattle.zio_parts.specs.declared.copies.Target.{Target}
use Rattle.zio_parts.specs.declared.copy_read.ReadStep.TheVariants.{Fetch as FetchStep, Repair}
use Rattle.zio_parts.proofs.PlanLemmas.{planned_next}
use Rattle.zio_stages.specs.LeafWorks.{IsLeafWork, IsQueuedAs}
use Rattle.zio_stages.specs.LeavesOut.{AsksLeaves, IsLeafTask, IsWriteIn}
use Rattle.zio_stages.specs.ReadIos.{AsksOfRead, FetchesAtMost, FetchesFirst, IsAskedWhen, IsReadIo, IsReadOver, outs_of_read, outs_when, reads_when}
use Rattle.zio_stages.specs.WriteIos.{AreIoPlaces}
use Rattle.zio_stages.specs.declared.leaf.LeafWork.{LeafWork}
use Rattle.zio_stages.specs.declared.read_io.ReadIo.{ReadIo}
use Rattle.zio_stages.proofs.Asking.{next_answered}
use Rattle.zio_stages.proofs.FetchCounts.{asked_first, block_most}
use Rattle.zio_stages.proofs.OutLemmas.{beside_none, fresh_leaves, leaves_beside, leaves_more}
use Rattle.zio_stages.proofs.ReadIoLemmas.{ReadShown, all_good, read_heard, read_told, ready_none}
use Rattle.zio_stages.proofs.WriteIoLemmas.{setting_over}

-- ---- nothing of it is read

pub read_fresh : (t : Terms) (tops : List Top) (places : List Place) (len : ℕ) (repair : Bool) (check : Test) (prio : Prio)
    → left_of_read t.setting (good_by check) (fresh_read tops places len repair) ≡ block_reading t.setting repair (good_by check) len places
    → IsReadIo t (record { read = fresh_read tops places len repair; check = check; prio = prio; is_reading = false; base = 0; asked = 0 }) (fresh_frame (ReadCopies repair check len places))
read_fresh t tops places len repair check prio left =
    record { op = refl; left = ap reading_plan (sym left); leaves = fresh_leaves IsLeafTask (ReadCopies repair check len places); counted = refl }

pub read_fresh_over : (tops : List Top) (places : List Place) (len : ℕ) (repair : Bool) (check : Test) (prio : Prio) → AreIoPlaces tops places → 0 < length places
    → left_of_read (setting_over tops) all_good (fresh_read tops places len repair) ≡ block_reading (setting_over tops) repair all_good len places
    → IsReadOver tops (record { read = fresh_read tops places len repair; check = check; prio = prio; is_reading = false; base = 0; asked = 0 })
read_fresh_over tops places len repair check prio h some left = record {
  places = h;
  some = some;
  within = omega arith;
  mends = omega arith;
  reading = refl;
  counted = refl;
  tried = omega arith;
  budget = subst (FetchesAtMost 24) (sym left) (block_most (setting_over tops) repair all_good len places h.mirrored h.few);
  fetches = λ e. absurd (cc);
}

-- ---- a read is out

-- with or without good bytes
abbrev pub LeavesWhen : ℕ → Frame → Bool → List Bool → Option (List ℕ) → Bool → Type 0
LeavesWhen base x retry mends good is_out = AsksLeaves (IsAskedWhen good retry) base (outs_when good is_out mends) x

pub out_none : (x : Reading) → x.good ≡ None → x.is_out ≡ false → out_count (outs_of x) ≡ 0
out_none x none idle =
    let P : Option (List ℕ) → Type 0 = λ g. out_count (outs_with g x) ≡ 0 in
    subst P (sym none) (ap (λ b. out_count (outs_with None (record x { is_out = b }))) idle)

asks_of_read : (t : Terms) (w : ReadIo) (x : Frame) (act : LeafOp) → IsReadIo t w x → AsksBehind (out_count (outs_of w.read)) (left_of_read t.setting (good_by w.check) w.read) act → NextAnswered (told_in x.slots) (left_of t x) (Leaf act)
asks_of_read t w x act h shows =
    let p : Program Answer = left_of_read t.setting (good_by w.check) w.read in
    let asks : AsksBehind (length (told_in x.slots)) p act = subst (λ n. AsksBehind n p act) (sym (read_told t w x h)) shows in
    next_answered _ _ _ (subst (λ (q : TaskPlan Value). NextIs early (told_in x.slots) q (Leaf act)) (sym h.left) (planned_next Got (told_in x.slots) p act asks))

pub read_asks_next : (t : Terms) (tops : List Top) (w : ReadIo) (x : Frame) (target : Target) (child : LeafWork) → IsReadIo t w x → AllowsRead tops w.read (FetchStep target)
    → ShowsRead t.setting (good_by w.check) w.read (FetchStep target)
    → IsLeafWork t child (fresh_frame (Leaf (Fetch w.read.retry w.read.len (spot_at target)))) → IsQueuedAs w.prio false child
    → AsksOfRead t x child w
read_asks_next t tops w x target child h allows shows fresh queued =
    let act : LeafOp = Fetch w.read.retry w.read.len (spot_at target) in
    let none : w.read.good ≡ None = allows.1 in
    let idle : w.read.is_out ≡ false = ready_none w.read none allows.0 in
    let P : Option (List ℕ) → Type 0 = λ g. IsAskedWhen g w.read.retry (Leaf act) in
    record {
      act = act;
      next = record { next = asks_of_read t w x act h shows; beside = beside_none (Leaf act) x.asked x.slots (read_heard t w x (out_none w.read none idle) h) };
      child_is = fresh;
      queued = queued;
      is_now = subst P (sym none) tt;
    }

pub read_handed_out : (t : Terms) (tops : List Top) (w : ReadIo) (x : Frame) (target : Target) (op : Task) → IsReadIo t w x → AllowsRead tops w.read (FetchStep target)
    → IsAskedWhen w.read.good w.read.retry op → left_of_read t.setting (good_by w.check) (handed_with None w.read) ≡ left_of_read t.setting (good_by w.check) w.read
    → IsReadIo t (record { read = handed_with None w.read; check = w.check; prio = w.prio; is_reading = true; base = w.base; asked = w.asked + 1 }) (with_asked x op (IsOut None))
read_handed_out t tops w x target op h allows is left =
    let none : w.read.good ≡ None = allows.1 in
    let idle : w.read.is_out ≡ false = ready_none w.read none allows.0 in
    let y : Frame = with_asked x op (IsOut None) in
    let P : Option (List ℕ) → Type 0 = λ g. IsAskedWhen g w.read.retry op in
    let now : LeavesWhen w.base x w.read.retry w.read.mends None false =
    subst (λ b. LeavesWhen w.base x w.read.retry w.read.mends None b) idle (subst (λ g. LeavesWhen w.base x w.read.retry w.read.mends g w.read.is_out) none h.leaves) in
    let more : LeavesWhen w.base y w.read.retry w.read.mends None true = leaves_more IsLeafTask w.base [] x op now (subst P none is) in
    record {
      op = h.op;
      left = slots_more x.slots (plan t x.op) ∙ h.left ∙ ap reading_plan (sym left);
      leaves = subst (λ g. LeavesWhen w.base y w.read.retry w.read.mends g true) (sym none) more;
      counted = ap (λ n. n + 1) h.counted ∙ sym (length-append x.slots (IsOut None ∷ []));
    }

-- one more is out
pub read_one_more : (tops : List Top) (x : Reading) (target : Target) → AllowsRead tops x (FetchStep target) → outs_when (handed_with None x).good true (handed_with None x).mends ≡ outs_when x.good x.is_out x.mends ++ true ∷ []
read_one_more tops x target allows =
    let none : x.good ≡ None = allows.1 in
    let idle : x.is_out ≡ false = ready_none x none allows.0 in
    ap (λ g. outs_when g true x.mends) none ∙ sym (ap (λ os. os ++ true ∷ []) (ap (λ g. outs_when g x.is_out x.mends) none ∙ ap (λ b. outs_when None b x.mends) idle))

pub read_grown_over : (tops : List Top) (w : ReadIo) (target : Target) → IsReadOver tops w → AllowsRead tops w.read (FetchStep target) → ReadShown tops w.read (FetchStep target)
    → left_of_read (setting_over tops) all_good (handed_with None w.read) ≡ left_of_read (setting_over tops) all_good w.read
    → IsReadOver tops (record { read = handed_with None w.read; check = w.check; prio = w.prio; is_reading = true; base = w.base; asked = w.asked + 1 })
read_grown_over tops w target over allows shows left =
    let none : w.read.good ≡ None = allows.1 in
    let idle : w.read.is_out ≡ false = ready_none w.read none allows.0 in
    let were : length (outs_of_read w) ≡ 0 =
    ap (λ g. length (outs_when g w.read.is_out w.read.mends)) none ∙ ap (λ b. length (outs_when None b w.read.mends)) idle in
    let are : length (outs_when w.read.good true w.read.mends) ≡ 1 = ap (λ g. length (outs_when g true w.read.mends)) none in
    let asks : AsksBehind 0 (left_of_read (setting_over tops) all_good w.read) (Fetch w.read.retry w.read.len (spot_at target)) =
    subst (λ n. AsksBehind n (left_of_read (setting_over tops) all_good w.read) (Fetch w.read.retry w.read.len (spot_at target))) (out_none w.read none idle) (shows (setting_over tops) all_good refl) in
    record {
      places = over.places;
      some = over.some;
      within = over.within;
      mends = over.mends;
      reading = sym (ap (λ g. reads_when g true) none);
      counted = omega (arith, over.counted);
      tried = over.tried;
      budget = subst (FetchesAtMost (24 - w.base)) (sym left) over.budget;
      fetches = λ _. subst FetchesFirst (sym left) (asked_first (left_of_read (setting_over tops) all_good w.read) w.read.retry w.read.len (spot_at target) asks);
    }

-- ---- a repair is out

pub repair_asks_next : (t : Terms) (w : ReadIo) (x : Frame) (target : Target) (child : LeafWork) (bytes : List ℕ) → IsReadIo t w x → w.read.good ≡ Some bytes
    → AsksBehind (out_count (outs_of w.read)) (left_of_read t.setting (good_by w.check) w.read) (Store w.read.retry bytes (spot_at target))
    → IsLeafWork t child (fresh_frame (Leaf (Store w.read.retry bytes (spot_at target)))) → IsQueuedAs AsyncWrite true child
    → AsksOfRead t x child w
repair_asks_next t w x target child bytes h some shows fresh queued =
    let act : LeafOp = Store w.read.retry bytes (spot_at target) in
    let now : LeavesWhen w.base x w.read.retry w.read.mends (Some bytes) w.read.is_out = subst (λ g. LeavesWhen w.base x w.read.retry w.read.mends g w.read.is_out) some h.leaves in
    let P : Option (List ℕ) → Type 0 = λ g. IsAskedWhen g w.read.retry (Leaf act) in
    record {
      act = act;
      next = record { next = asks_of_read t w x act h shows; beside = leaves_beside w.read.retry w.base w.read.mends x bytes (spot_at target) now };
      child_is = fresh;
      queued = queued;
      is_now = subst P (sym some) refl;
    }

pub repair_handed_out : (t : Terms) (w : ReadIo) (x : Frame) (op : Task) (bytes : List ℕ) → IsReadIo t w x → w.read.good ≡ Some bytes
    → IsAskedWhen w.read.good w.read.retry op → left_of_read t.setting (good_by w.check) (handed_with (Some bytes) w.read) ≡ left_of_read t.setting (good_by w.check) w.read
    → IsReadIo t (record { read = handed_with (Some bytes) w.read; check = w.check; prio = w.prio; is_reading = w.is_reading; base = w.base; asked = w.asked + 1 }) (with_asked x op (IsOut None))
repair_handed_out t w x op bytes h some is left =
    let y : Frame = with_asked x op (IsOut None) in
    let more : List Bool = w.read.mends ++ true ∷ [] in
    let P : Option (List ℕ) → Type 0 = λ g. IsAskedWhen g w.read.retry op in
    let now : LeavesWhen w.base x w.read.retry w.read.mends (Some bytes) w.read.is_out = subst (λ g. LeavesWhen w.base x w.read.retry w.read.mends g w.read.is_out) some h.leaves in
    let then : LeavesWhen w.base y w.read.retry more (Some bytes) w.read.is_out = leaves_more (IsWriteIn w.read.retry) w.base w.read.mends x op now (subst P some is) in
    record {
      op = h.op;
      left = slots_more x.slots (plan t x.op) ∙ h.left ∙ ap reading_plan (sym left);
      leaves = subst (λ g. LeavesWhen w.base y w.read.retry more g w.read.is_out) (sym some) then;
      counted = ap (λ n. n + 1) h.counted ∙ sym (length-append x.slots (IsOut None ∷ []));
    }

-- one more is out
pub repair_one_more : (x : Reading) (bytes : List ℕ) → x.good ≡ Some bytes → outs_when (handed_with (Some bytes) x).good x.is_out (handed_with (Some bytes) x).mends ≡ outs_when x.good x.is_out x.mends ++ true ∷ []
repair_one_more x bytes some =
    ap (λ g. outs_when g x.is_out (x.mends ++ true ∷ [])) some ∙ sym (ap (λ os. os ++ true ∷ []) (ap (λ g. outs_when g x.is_out x.mends) some))

pub repair_grown_over : (tops : List Top) (w : ReadIo) (target : Target) (bytes : List ℕ) → IsReadOver tops w → w.read.good ≡ Some bytes → AllowsRead tops w.read (Repair target)
    → left_of_read (setting_over tops) all_good (handed_with (Some bytes) w.read) ≡ left_of_read (setting_over tops) all_good w.read
    → IsReadOver tops (record { read = handed_with (Some bytes) w.read; check = w.check; prio = w.prio; is_reading = w.is_reading; base = w.base; asked = w.asked + 1 })
repair_grown_over tops w target bytes over some allows left =
    let more : List Bool = w.read.mends ++ true ∷ [] in
    let one : length more ≡ length w.read.mends + 1 = length-append w.read.mends (true ∷ []) in
    let P : Option (List ℕ) → Type 0 = λ g. IsReadyWith g w.read in
    let room : length w.read.mends < 12 = subst P some allows.0 in
    let were : length (outs_of_read w) ≡ length w.read.mends = ap (λ g. length (outs_when g w.read.is_out w.read.mends)) some in
    let are : length (outs_when w.read.good w.read.is_out more) ≡ length more = ap (λ g. length (outs_when g w.read.is_out more)) some in
    record {
      places = over.places;
      some = over.some;
      within = omega (arith, allows.2);
      mends = omega arith;
      reading = over.reading;
      counted = omega (arith, over.counted);
      tried = over.tried;
      budget = subst (FetchesAtMost (24 - w.base)) (sym left) over.budget;
      fetches = λ e. subst FetchesFirst (sym left) (over.fetches e);
    }
