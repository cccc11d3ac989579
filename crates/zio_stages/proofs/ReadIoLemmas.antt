-- The read of a block's copies by operations on leaves: what is out, and its steps.
use Rattle.std.proofs.Common.{◌≡◌, ℕ, zero, suc, ◌<◌, List, [], ◌∷◌, length, map, Bool, true, false, Option, Some, None, Ok, Err, refl, sym, ap, subst, ◌∙◌, arith}
use Rattle.zio_types.specs.declared.place.Place.{Place}
use Rattle.zio_types.specs.declared.place.Top.{Top}
use Rattle.zio_cksum.specs.Blocks.{spot_in}
use Rattle.zio_cksum.specs.Images.{Setting, Spot}
use Rattle.zio_cksum.proofs.AllLemmas.{all_true}
use Rattle.zio_gang.specs.Attempts.{Terms}
use Rattle.zio_trace.specs.Leaves.{Fetch, Store}
use Rattle.zio_trace.specs.Tasks.{good_by}
use Rattle.zio_trace.specs.Traces.{AsksOnly}
use Rattle.zio_frames.specs.Frames.{Frame}
use Rattle.zio_frames.specs.Slots.{AllHeard, told_in}
use Rattle.zio_parts.specs.Answered.{AsksBehind, out_before, out_count}
use Rattle.zio_parts.specs.Copies.{AreMirrored, spot_at}
use Rattle.zio_parts.specs.CopyReads.{AllowsRead, IsReady, IsReadyWith, Reading, ShowsRead, WaitsWith, left_of_read, mend_of, outs_of, outs_with, read_again, wanted_of}
use Rattle.zio_parts.specs.declared.copies.Target.{Target}
use Rattle.zio_parts.specs.declared.copy_read.ReadStep.{ReadStep}
use Rattle.zio_parts.specs.declared.copy_read.ReadStep.TheVariants.{Fetch as FetchStep, Repair, Wait as WaitStep, Retry as RetryStep, End as EndStep}
use Rattle.zio_stages.specs.LeafWorks.{IsSpanned}
use Rattle.zio_stages.specs.LeavesOut.{count_out, out_below}
use Rattle.zio_stages.specs.ReadIos.{IsAskedWhen, IsReadIo, IsReadStep, io_of_read, outs_of_read, outs_when}
use Rattle.zio_stages.specs.WriteIos.{AreIoPlaces, AreShort, ShowsOuts}
use Rattle.zio_stages.specs.declared.read_io.ReadIo.{ReadIo}
use Rattle.zio_stages.specs.declared.write_io.IoStep.TheVariants.{Child}
use Rattle.zio_stages.proofs.LeafAsks.{AreRead, IsRead, ended_asks, mending_only, only_next, reading_only}
use Rattle.zio_stages.proofs.OutLemmas.{all_heard, leaves_told}
use Rattle.zio_stages.proofs.WriteIoLemmas.{Fits, OpFits, places_fit, setting_over}

-- ---- which are out

mends_counted : (mends : List Bool) → count_out mends ≡ out_count (map mend_of mends)
mends_counted [] = refl
mends_counted (true ∷ mends) = ap suc (mends_counted mends)
mends_counted (false ∷ mends) = mends_counted mends

pub mends_below : (m : ℕ) (mends : List Bool) → out_below m mends ≡ out_before m (map mend_of mends)
mends_below zero mends = refl
mends_below (suc m) [] = refl
mends_below (suc m) (true ∷ mends) = ap suc (mends_below m mends)
mends_below (suc m) (false ∷ mends) = mends_below m mends

counted_with : (good : Option (List ℕ)) (is_out : Bool) (x : Reading) → is_out ≡ x.is_out → count_out (outs_when good is_out x.mends) ≡ out_count (outs_with good x)
counted_with None true x e = let is : x.is_out ≡ true = sym e in sym (ap (λ b. out_count (outs_with None (record x { is_out = b }))) is)
counted_with None false x e = let is : x.is_out ≡ false = sym e in sym (ap (λ b. out_count (outs_with None (record x { is_out = b }))) is)
counted_with (Some bytes) is_out x e = mends_counted x.mends

-- as many are out as of the read's program
pub read_counted : (w : ReadIo) → count_out (outs_of_read w) ≡ out_count (outs_of w.read)
read_counted w = counted_with w.read.good w.read.is_out w.read refl

pub read_told : (t : Terms) (w : ReadIo) (x : Frame) → IsReadIo t w x → length (told_in x.slots) ≡ out_count (outs_of w.read)
read_told t w x h = leaves_told (IsAskedWhen w.read.good w.read.retry) w.base (outs_of_read w) x h.leaves ∙ read_counted w

pub read_heard : (t : Terms) (w : ReadIo) (x : Frame) → out_count (outs_of w.read) ≡ 0 → IsReadIo t w x → AllHeard x.slots
read_heard t w x none h = all_heard (IsAskedWhen w.read.good w.read.retry) w.base (outs_of_read w) x h.leaves (read_counted w ∙ none)

pub waits_some : (x : Reading) (good : Option (List ℕ)) (tops : List Top) → WaitsWith good tops x → 0 < out_count (outs_with good x)
waits_some x None tops h = subst (λ b. 0 < out_count (outs_with None (record x { is_out = b }))) (sym h) (omega arith)
waits_some x (Some bytes) tops h = h.0

pub read_step_outs : (t : Terms) (w : ReadIo) (x : Frame) (step : ReadStep) → ShowsRead t.setting (good_by w.check) w.read step → IsReadIo t w x → ShowsOuts (io_of_read step) x
read_step_outs t w x (FetchStep target) h is = tt
read_step_outs t w x (Repair target) h is = tt
read_step_outs t w x WaitStep h is = omega (arith, read_told t w x is, waits_some w.read w.read.good t.setting.tops h)
read_step_outs t w x RetryStep h is = read_heard t w x h.0 is
read_step_outs t w x (EndStep (Ok done)) h is = read_heard t w x h.2 is
read_step_outs t w x (EndStep (Err e)) h is = read_heard t w x h.0 is

-- ---- spots

read_fit : (tops : List Top) (places : List Place) (retry : Bool) → AreMirrored tops places → AreShort places → AreRead (λ (r : Bool) (spot : Spot). Fits spot) retry places
read_fit tops [] retry m h = tt
read_fit tops (p ∷ ps) retry m h = (λ leaf. record { at = m.0.fits; len = h.0 }, read_fit tops ps retry m.1 h.1)

abbrev pub ReadShown : List Top → Reading → ReadStep → Type 0
ReadShown tops x step = (s : Setting) (good : List ℕ → Bool) → s.tops ≡ tops → ShowsRead s good x step

abbrev pub all_good : List ℕ → Bool
all_good bytes = true

-- the place of a read that is shown has numbers that fit, and that of a repair
pub fetch_spanned : (tops : List Top) (x : Reading) (target : Target) → AreIoPlaces tops x.places → x.good ≡ None → ReadShown tops x (FetchStep target) → IsSpanned target.place
fetch_spanned tops x target h none k =
    let s : Setting = setting_over tops in
    let Q : Bool → Spot → Type 0 = λ r spot. Fits spot in
    let only : AsksOnly (IsRead Q) (left_of_read s all_good x) = reading_only Q s all_good x none (read_fit tops x.places x.retry h.mirrored h.short) (λ _. read_fit tops x.places true h.mirrored h.short) in
    let fits : Fits (spot_at target) = only_next (IsRead Q) (out_count (outs_of x)) (left_of_read s all_good x) (Fetch x.retry x.len (spot_at target)) only (k s all_good refl) in
    record { at = fits.at; len = fits.len }

pub repair_spanned : (tops : List Top) (x : Reading) (target : Target) → AreIoPlaces tops x.places → ReadShown tops x (Repair target) → IsSpanned target.place
repair_spanned tops x target h k =
    let s : Setting = setting_over tops in
    let shown = k s all_good refl in
    let bytes : List ℕ = shown.0 in
    let only : AsksOnly OpFits (left_of_read s all_good x) =
    mending_only OpFits s all_good x bytes shown.1 (λ leaf. record { at = omega arith; len = omega arith }) (places_fit tops x.places (Store x.retry bytes) (λ spot. refl) h.mirrored h.short) in
    let fits : Fits (spot_at target) = only_next OpFits (out_count (outs_of x)) (left_of_read s all_good x) (Store x.retry bytes (spot_at target)) only shown.2 in
    record { at = fits.at; len = fits.len }

-- ---- each step that is shown is of one kind

-- where the second pass is due the first asks nothing
retry_reads : (tops : List Top) (x : Reading) (n : ℕ) (spot : Spot) → ReadShown tops x RetryStep → AsksBehind n (left_of_read (setting_over tops) all_good x) (Fetch x.retry x.len spot) → ⊥
retry_reads tops x n spot h asks =
    let s : Setting = setting_over tops in
    let due = h s all_good refl in
    let Q : Bool → Spot → Type 0 = λ r at. r ≡ true in
    let are : AreRead Q true x.places = all_true (λ (p : Place). (leaf : ℕ) → Q true (spot_in p leaf)) x.places (λ p leaf. refl) in
    let again : AsksOnly (IsRead Q) (left_of_read s all_good (read_again tops x)) = reading_only Q s all_good (read_again tops x) refl are (λ _. are) in
    let only : AsksOnly (IsRead Q) (left_of_read s all_good x) = subst (AsksOnly (IsRead Q)) due.3 again in
    let is : x.retry ≡ true = only_next (IsRead Q) n (left_of_read s all_good x) (Fetch x.retry x.len spot) only asks in
    let no : x.retry ≡ false = due.1 in
    absurd (cc)

pub ready_none : (x : Reading) → x.good ≡ None → IsReady x → x.is_out ≡ false
ready_none x none h = let P : Option (List ℕ) → Type 0 = λ g. IsReadyWith g x in (subst P none h).0

fetch_same : (tops : List Top) (x : Reading) (target : Target) (step : ReadStep) → AllowsRead tops x (FetchStep target) → ReadShown tops x (FetchStep target) → ReadShown tops x step → Child ≡ io_of_read step
fetch_same tops x target (FetchStep other) a h k = refl
fetch_same tops x target (Repair other) a h k = refl
fetch_same tops x target WaitStep a h k =
    let P : Option (List ℕ) → Type 0 = λ g. WaitsWith g tops x in
    let out : x.is_out ≡ true = subst P a.1 (k (setting_over tops) all_good refl) in
    let idle : x.is_out ≡ false = ready_none x a.1 a.0 in
    absurd (cc)
fetch_same tops x target RetryStep a h k = absurd (retry_reads tops x (out_count (outs_of x)) (spot_at target) k (h (setting_over tops) all_good refl))
fetch_same tops x target (EndStep (Ok done)) a h k =
    let e = k (setting_over tops) all_good refl in
    let some : x.good ≡ Some e.0 = e.1 in
    let none : x.good ≡ None = a.1 in
    absurd (cc)
fetch_same tops x target (EndStep (Err e)) a h k =
    absurd (ended_asks (out_count (outs_of x)) (left_of_read (setting_over tops) all_good x) (Err e) (Fetch x.retry x.len (spot_at target)) (k (setting_over tops) all_good refl).1 (h (setting_over tops) all_good refl))

repair_same : (tops : List Top) (x : Reading) (target : Target) (step : ReadStep) → AllowsRead tops x (Repair target) → ReadShown tops x (Repair target) → ReadShown tops x step → Child ≡ io_of_read step
repair_same tops x target (FetchStep other) a h k = refl
repair_same tops x target (Repair other) a h k = refl
repair_same tops x target WaitStep a h k =
    let shown = h (setting_over tops) all_good refl in
    let P : Option (List ℕ) → Type 0 = λ g. WaitsWith g tops x in
    let all : length x.mends ≡ length (wanted_of tops x) = (subst P shown.1 (k (setting_over tops) all_good refl)).1 in
    absurd (omega (arith, a.2))
repair_same tops x target RetryStep a h k =
    let shown = h (setting_over tops) all_good refl in
    let some : x.good ≡ Some shown.0 = shown.1 in
    let none : x.good ≡ None = (k (setting_over tops) all_good refl).2 in
    absurd (cc)
repair_same tops x target (EndStep (Ok done)) a h k =
    let shown = h (setting_over tops) all_good refl in
    let e = k (setting_over tops) all_good refl in
    absurd (ended_asks (out_count (outs_of x)) (left_of_read (setting_over tops) all_good x) (Ok e.0) (Store x.retry shown.0 (spot_at target)) e.3 shown.2)
repair_same tops x target (EndStep (Err e)) a h k =
    let shown = h (setting_over tops) all_good refl in
    absurd (ended_asks (out_count (outs_of x)) (left_of_read (setting_over tops) all_good x) (Err e) (Store x.retry shown.0 (spot_at target)) (k (setting_over tops) all_good refl).1 shown.2)

read_child_from : (tops : List Top) (x : Reading) (first step : ReadStep) → Child ≡ io_of_read first → AllowsRead tops x first → ReadShown tops x first → ReadShown tops x step → Child ≡ io_of_read step
read_child_from tops x (FetchStep target) step is a h k = fetch_same tops x target step a h k
read_child_from tops x (Repair target) step is a h k = repair_same tops x target step a h k
read_child_from tops x WaitStep step is a h k = absurd (cc)
read_child_from tops x RetryStep step is a h k = absurd (cc)
read_child_from tops x (EndStep e) step is a h k = absurd (cc)

-- where an operation is to be handed out each step that is shown is such
pub read_child_again : (tops : List Top) (w : ReadIo) (step : ReadStep) → IsReadStep tops w Child → ReadShown tops w.read step → Child ≡ io_of_read step
read_child_again tops w step h k = read_child_from tops w.read h.step step h.is h.allows h.shows k
