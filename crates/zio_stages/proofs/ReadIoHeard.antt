-- The read of a block's copies by operations on leaves: what an answer, and the second pass, leave of the part's plan.
use Rattle.std.proofs.Common.{◌≡◌, ℕ, zero, suc, ◌+◌, ◌-◌, ◌<◌, List, [], ◌∷◌, length, map, set, slice_get, Bool, true, false, Option, Some, None, Ok, Err, refl, sym, ap, subst, ◌∙◌, arith, length-set}
use Rattle.zio_types.specs.declared.place.Top.{Top}
use Rattle.zio_cksum.specs.Blocks.{judged}
use Rattle.zio_gang.specs.Attempts.{Terms}
use Rattle.zio_trace.specs.Calls.{answered_at}
use Rattle.zio_trace.specs.CopyPrograms.{Program}
use Rattle.zio_trace.specs.Leaves.{Answer}
use Rattle.zio_trace.specs.Plans.{plan}
use Rattle.zio_trace.specs.Tasks.{Got, ReadCopies, Task, Value, good_by}
use Rattle.zio_frames.specs.Frames.{Frame, with_slot}
use Rattle.zio_frames.specs.Slots.{Heard}
use Rattle.zio_frames.proofs.SlotMoves.{slots_heard}
use Rattle.zio_parts.specs.Answered.{out_before, out_count}
use Rattle.zio_parts.specs.CopyReads.{IsSameRead, Reading, left_of_read, mend_of, outs_of, outs_with, read_again, read_mended}
use Rattle.zio_parts.specs.LeafPlans.{reading_plan}
use Rattle.zio_parts.specs.declared.copy_read.ReadStep.{ReadStep}
use Rattle.zio_parts.specs.declared.copy_read.ReadStep.TheVariants.{Fetch as FetchStep, Repair, Wait as WaitStep, Retry as RetryStep, End as EndStep}
use Rattle.zio_parts.proofs.PlanLemmas.{planned_answered}
use Rattle.zio_stages.specs.LeavesOut.{AsksLeaves, IsLeafTask, IsWriteIn, out_below}
use Rattle.zio_stages.specs.ReadIos.{FetchesAtMost, FetchesFirst, IsAskedWhen, IsReadIo, IsReadOutIn, IsReadOver, IsReadStep, io_of_read, outs_of_read, outs_when, reads_when}
use Rattle.zio_stages.specs.WriteIos.{AreIoPlaces}
use Rattle.zio_stages.specs.declared.read_io.ReadIo.{ReadIo}
use Rattle.zio_stages.specs.declared.write_io.IoStep.TheVariants.{Retry}
use Rattle.zio_stages.proofs.FetchCounts.{at_most_answered, one_less}
use Rattle.zio_stages.proofs.OutLemmas.{leaves_anew, leaves_before, leaves_heard, leaves_out}
use Rattle.zio_stages.proofs.ReadIoLemmas.{ReadShown, all_good, mends_below}
use Rattle.zio_stages.proofs.ReadIoMoves.{LeavesWhen}
use Rattle.zio_stages.proofs.WriteIoLemmas.{setting_over}

-- ---- what is out

-- a copy is being read
reading_when : (good : Option (List ℕ)) (is_out : Bool) → reads_when good is_out ≡ true → (good ≡ None) × (is_out ≡ true)
reading_when None is_out e = (refl, e)
reading_when (Some bytes) is_out e = absurd (cc)

first_only : (m : ℕ) → slice_get (true ∷ []) m ≡ Some true → m ≡ 0
first_only zero e = refl
first_only (suc m) e = absurd (cc)

-- none is: a repair is out
mending_when : (good : Option (List ℕ)) (is_out : Bool) (mends : List Bool) (m : ℕ) → reads_when good is_out ≡ false → slice_get (outs_when good is_out mends) m ≡ Some true
    → (bytes : List ℕ) × (good ≡ Some bytes) × (slice_get mends m ≡ Some true)
mending_when None true mends m e h = absurd (cc)
mending_when None false mends m e h = absurd (cc)
mending_when (Some bytes) is_out mends m e h = (bytes, refl, h)

idle_out : (x : Reading) → out_count (outs_with None x) ≡ 0 → x.is_out ≡ false
idle_out x e = go x.is_out refl
  where
    go : (b : Bool) → x.is_out ≡ b → x.is_out ≡ false
    go true is =
        let one : out_count (outs_with None x) ≡ 1 = ap (λ b. out_count (outs_with None (record x { is_out = b }))) is in
        absurd (omega arith)
    go false is = is

-- nothing is out of it
quiet_when : (good : Option (List ℕ)) (x : Reading) → out_count (outs_with good x) ≡ 0 → x.mends ≡ [] → (outs_when good x.is_out x.mends ≡ []) × (reads_when good x.is_out ≡ false)
quiet_when None x e none = let idle : x.is_out ≡ false = idle_out x e in (ap (λ b. outs_when None b x.mends) idle, idle)
quiet_when (Some bytes) x e none = (none, refl)

-- ---- the answer of a read

any_leaf : (op : Task) → IsLeafTask op → IsLeafTask op
any_leaf op h = h

-- what was left, with the answer of the read that is out
pub read_hears : (t : Terms) (w : ReadIo) (y : Reading) (x : Frame) (n : ℕ) (a : Answer) → IsReadIo t w x → w.is_reading ≡ reads_when w.read.good w.read.is_out → w.is_reading ≡ true → IsReadOutIn w n
    → IsSameRead w.read y → left_of_read t.setting (good_by w.check) y ≡ answered_at 0 a (left_of_read t.setting (good_by w.check) w.read) → out_count (outs_of y) ≡ 0 → y.mends ≡ []
    → IsReadIo t (record { read = y; check = w.check; prio = w.prio; is_reading = false; base = w.asked; asked = w.asked }) (with_slot x n (Heard (Got a)))
read_hears t w y x n a h reading now out same left none mends =
    let facts = reading_when w.read.good w.read.is_out (sym reading ∙ now) in
    let m : ℕ = n - w.base in
    let at : n ≡ w.base + m = omega (arith, out.0) in
    let P : Task → Type 0 = IsLeafTask in
    let v : Value = Got a in
    let z : Frame = with_slot x n (Heard v) in
    let p : Program Answer = left_of_read t.setting (good_by w.check) w.read in
    let outs : outs_of_read w ≡ true ∷ [] = ap (λ g. outs_when g w.read.is_out w.read.mends) facts.0 ∙ ap (λ b. outs_when None b w.read.mends) facts.1 in
    let is_out : slice_get (true ∷ []) m ≡ Some true = ap (λ os. slice_get os m) (sym outs) ∙ out.1 in
    let zeroth : m ≡ 0 = first_only m is_out in
    let leaves : AsksLeaves P w.base (true ∷ []) x =
    subst (λ b. LeavesWhen w.base x w.read.retry w.read.mends None b) facts.1 (subst (λ g. LeavesWhen w.base x w.read.retry w.read.mends g w.read.is_out) facts.0 h.leaves) in
    let heard : AsksLeaves P w.base (false ∷ []) z = subst (λ k. AsksLeaves P w.base (set (true ∷ []) k false) z) zeroth (leaves_heard P w.base (true ∷ []) x n m v at is_out leaves) in
    let many : w.asked ≡ length z.slots = h.counted ∙ sym (length-set x.slots n (Heard v)) in
    let Q : Task → Type 0 = IsAskedWhen y.good y.retry in
    record {
      op = h.op ∙ sym (λ i. ReadCopies (same.repair i) w.check (same.len i) (same.places i));
      left =
          sym (slots_heard n v x.slots (plan t x.op) (leaves_out P w.base (true ∷ []) x n m at is_out leaves))
          ∙ ap (answered_at _ v) h.left
          ∙ ap (λ k. answered_at k v (reading_plan p)) (leaves_before P w.base (true ∷ []) x n m at leaves ∙ ap (λ k. out_below k (true ∷ [])) zeroth)
          ∙ planned_answered Got 0 v p
          ∙ ap reading_plan (sym left);
      leaves = subst (λ os. AsksLeaves Q w.asked os z) (sym (quiet_when y.good y none mends).0) (leaves_anew P Q w.base w.asked (false ∷ []) z any_leaf refl many heard);
      counted = many;
    }

judged_all : (found : Answer) → judged all_good found ≡ found
judged_all (Ok bytes) = refl
judged_all (Err e) = refl

pub read_hears_over : (tops : List Top) (w : ReadIo) (y : Reading) (found : Answer) → IsReadOver tops w → w.is_reading ≡ true → IsSameRead w.read y
    → (judged all_good found ≡ found → left_of_read (setting_over tops) all_good y ≡ answered_at 0 found (left_of_read (setting_over tops) all_good w.read)) → out_count (outs_of y) ≡ 0 → y.mends ≡ []
    → IsReadOver tops (record { read = y; check = w.check; prio = w.prio; is_reading = false; base = w.asked; asked = w.asked })
read_hears_over tops w y found over now same left none mends =
    let facts = reading_when w.read.good w.read.is_out (sym over.reading ∙ now) in
    let were : length (outs_of_read w) ≡ 1 =
    ap (λ g. length (outs_when g w.read.is_out w.read.mends)) facts.0 ∙ ap (λ b. length (outs_when None b w.read.mends)) facts.1 in
    let quiet = quiet_when y.good y none mends in
    let p : Program Answer = left_of_read (setting_over tops) all_good w.read in
    let less : (m : ℕ) × (24 - w.base ≡ suc m) × FetchesAtMost m (answered_at 0 found p) = one_less (24 - w.base) found p (over.fetches now) over.budget in
    let is : 24 - w.asked ≡ less.0 = omega (arith, over.counted, less.1) in
    let no_mends : length y.mends ≡ 0 = ap length mends in
    record {
      places = subst (AreIoPlaces tops) (sym same.places) over.places;
      some = subst (λ ps. 0 < length ps) (sym same.places) over.some;
      within = omega arith;
      mends = omega arith;
      reading = sym quiet.1;
      counted = omega (arith, ap length quiet.0);
      tried = omega (arith, over.counted, less.1);
      budget = subst (λ k. FetchesAtMost k (left_of_read (setting_over tops) all_good y)) (sym is) (subst (FetchesAtMost less.0) (sym (left (judged_all found))) less.2);
      fetches = λ e. absurd (cc);
    }

-- ---- the answer of a repair

pub mend_hears : (t : Terms) (w : ReadIo) (x : Frame) (n : ℕ) (a : Answer) → IsReadIo t w x → w.is_reading ≡ reads_when w.read.good w.read.is_out → w.is_reading ≡ false → IsReadOutIn w n
    → left_of_read t.setting (good_by w.check) (read_mended w.read (n - w.base)) ≡ answered_at (out_before (n - w.base) (outs_of w.read)) a (left_of_read t.setting (good_by w.check) w.read)
    → IsReadIo t (record { read = read_mended w.read (n - w.base); check = w.check; prio = w.prio; is_reading = w.is_reading; base = w.base; asked = w.asked }) (with_slot x n (Heard (Got a)))
mend_hears t w x n a h reading now out left =
    let m : ℕ = n - w.base in
    let at : n ≡ w.base + m = omega (arith, out.0) in
    let facts = mending_when w.read.good w.read.is_out w.read.mends m (sym reading ∙ now) out.1 in
    let bytes : List ℕ = facts.0 in
    let P : Task → Type 0 = IsWriteIn w.read.retry in
    let v : Value = Got a in
    let z : Frame = with_slot x n (Heard v) in
    let p : Program Answer = left_of_read t.setting (good_by w.check) w.read in
    let leaves : AsksLeaves P w.base w.read.mends x = subst (λ g. LeavesWhen w.base x w.read.retry w.read.mends g w.read.is_out) facts.1 h.leaves in
    let heard : AsksLeaves P w.base (set w.read.mends m false) z = leaves_heard P w.base w.read.mends x n m v at facts.2 leaves in
    let before : out_before m (map mend_of w.read.mends) ≡ out_before m (outs_of w.read) = ap (λ g. out_before m (outs_with g w.read)) (sym facts.1) in
    record {
      op = h.op;
      left =
          sym (slots_heard n v x.slots (plan t x.op) (leaves_out P w.base w.read.mends x n m at facts.2 leaves))
          ∙ ap (answered_at _ v) h.left
          ∙ ap (λ k. answered_at k v (reading_plan p)) (leaves_before P w.base w.read.mends x n m at leaves ∙ mends_below m w.read.mends ∙ before)
          ∙ planned_answered Got (out_before m (outs_of w.read)) v p
          ∙ ap reading_plan (sym left);
      leaves = subst (λ g. LeavesWhen w.base z w.read.retry (set w.read.mends m false) g w.read.is_out) (sym facts.1) heard;
      counted = h.counted ∙ sym (length-set x.slots n (Heard v));
    }

outs_long : (good : Option (List ℕ)) (is_out : Bool) (mends : List Bool) (m : ℕ) → length (outs_when good is_out (set mends m false)) ≡ length (outs_when good is_out mends)
outs_long None true mends m = refl
outs_long None false mends m = refl
outs_long (Some bytes) is_out mends m = length-set mends m false

pub mend_hears_over : (tops : List Top) (w : ReadIo) (m k : ℕ) → IsReadOver tops w → w.is_reading ≡ false
    → left_of_read (setting_over tops) all_good (read_mended w.read m) ≡ answered_at k (Ok []) (left_of_read (setting_over tops) all_good w.read)
    → IsReadOver tops (record { read = read_mended w.read m; check = w.check; prio = w.prio; is_reading = w.is_reading; base = w.base; asked = w.asked })
mend_hears_over tops w m k over now left =
    let same : length (set w.read.mends m false) ≡ length w.read.mends = length-set w.read.mends m false in
    record {
      places = over.places;
      some = over.some;
      within = omega (arith, over.within);
      mends = omega (arith, over.mends);
      reading = over.reading;
      counted = over.counted ∙ ap (λ l. w.base + l) (sym (outs_long w.read.good w.read.is_out w.read.mends m));
      tried = over.tried;
      budget = subst (FetchesAtMost (24 - w.base)) (sym left) (at_most_answered (24 - w.base) k (Ok []) (left_of_read (setting_over tops) all_good w.read) over.budget);
      fetches = λ e. absurd (cc);
    }

-- ---- the second pass

read_retry_from : (tops : List Top) (x : Reading) (first : ReadStep) → Retry ≡ io_of_read first → ReadShown tops x first → ReadShown tops x RetryStep
read_retry_from tops x (FetchStep target) e h = absurd (cc)
read_retry_from tops x (Repair target) e h = absurd (cc)
read_retry_from tops x WaitStep e h = absurd (cc)
read_retry_from tops x RetryStep e h = h
read_retry_from tops x (EndStep end) e h = absurd (cc)

idle_none : (x : Reading) → x.good ≡ None → out_count (outs_of x) ≡ 0 → x.is_out ≡ false
idle_none x none e = idle_out x (ap (λ g. out_count (outs_with g x)) (sym none) ∙ e)

pub read_goes_again : (t : Terms) (tops : List Top) (w : ReadIo) (x : Frame) → t.setting.tops ≡ tops → IsReadStep tops w Retry → IsReadIo t w x
    → IsReadIo t (record { read = read_again tops w.read; check = w.check; prio = w.prio; is_reading = w.is_reading; base = w.base; asked = w.asked }) x
read_goes_again t tops w x e step h =
    let due = read_retry_from tops w.read step.step step.is step.shows t.setting (good_by w.check) e in
    let none : w.read.good ≡ None = due.2 in
    let idle : w.read.is_out ≡ false = idle_none w.read none due.0 in
    let again : left_of_read t.setting (good_by w.check) (read_again tops w.read) ≡ left_of_read t.setting (good_by w.check) w.read =
    ap (λ ts. left_of_read t.setting (good_by w.check) (read_again ts w.read)) (sym e) ∙ due.3 in
    record {
      op = h.op;
      left = h.left ∙ ap reading_plan (sym again);
      leaves = subst (λ b. LeavesWhen w.base x w.read.retry w.read.mends None b) idle (subst (λ g. LeavesWhen w.base x w.read.retry w.read.mends g w.read.is_out) none h.leaves);
      counted = h.counted;
    }

pub read_over_again : (tops : List Top) (w : ReadIo) → IsReadOver tops w → IsReadStep tops w Retry
    → IsReadOver tops (record { read = read_again tops w.read; check = w.check; prio = w.prio; is_reading = w.is_reading; base = w.base; asked = w.asked })
read_over_again tops w over step =
    let due = read_retry_from tops w.read step.step step.is step.shows (setting_over tops) all_good refl in
    let none : w.read.good ≡ None = due.2 in
    let idle : w.read.is_out ≡ false = idle_none w.read none due.0 in
    let were : length (outs_of_read w) ≡ 0 = ap (λ g. length (outs_when g w.read.is_out w.read.mends)) none ∙ ap (λ b. length (outs_when None b w.read.mends)) idle in
    record {
      places = over.places;
      some = over.some;
      within = omega arith;
      mends = omega arith;
      reading = over.reading ∙ ap (λ g. reads_when g w.read.is_out) none ∙ idle;
      counted = omega (arith, over.counted);
      tried = over.tried;
      budget = subst (FetchesAtMost (24 - w.base)) (sym due.3) over.budget;
      fetches = λ e. subst FetchesFirst (sym due.3) (over.fetches e);
    }
