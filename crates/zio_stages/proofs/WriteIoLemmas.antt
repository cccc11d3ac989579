-- The write of a block's copies by operations on leaves: its steps, and what each call leaves of the part's plan.
use Rattle.std.proofs.Common.{◌≡◌, ℕ, zero, suc, ◌^◌, ◌<◌, List, [], ◌∷◌, ◌++◌, length, map, set, slice_get, Bool, true, false, Option, Some, None, option_map, refl, sym, ap, subst, ◌∙◌, arith}
use Rattle.zio_types.specs.declared.error.Errno.{Errno}
use Rattle.zio_types.specs.declared.place.Place.{Place}
use Rattle.zio_types.specs.declared.place.Top.{Top}
use Rattle.zio_cksum.specs.Blocks.{spot_in}
use Rattle.zio_cksum.specs.Images.{Setting, Spot}
use Rattle.zio_cksum.proofs.AllLemmas.{all_true}
use Rattle.zio_gang.specs.Attempts.{Terms}
use Rattle.zio_trace.specs.Leaves.{Fetch, LeafOp, Store, answer_of, spot_of}
use Rattle.zio_trace.specs.Traces.{AsksOnly}
use Rattle.zio_frames.specs.Frames.{Frame}
use Rattle.zio_frames.specs.Slots.{told_in}
use Rattle.zio_parts.specs.Answered.{AsksBehind, out_before, out_count}
use Rattle.zio_parts.specs.Copies.{AreMirrored, copies_at, spot_at}
use Rattle.zio_parts.specs.CopyWrites.{AllowsWrite, ShowsWrite, Writing, left_of_write, write_again, writes_of, writing_from}
use Rattle.zio_parts.specs.declared.copies.Target.{Target}
use Rattle.zio_parts.specs.declared.copy_write.WriteStep.{WriteStep}
use Rattle.zio_parts.specs.declared.copy_write.WriteStep.TheVariants.{Store as StoreStep, Wait as WaitStep, Retry as RetryStep, End as EndStep}
use Rattle.zio_stages.specs.LeafWorks.{IsSpanned}
use Rattle.zio_stages.specs.LeavesOut.{IsWriteIn, count_out, out_below}
use Rattle.zio_stages.specs.WriteIos.{AreIoPlaces, AreShort, IsWriteIo, IsWriteStep, io_of, outs_in}
use Rattle.zio_stages.specs.declared.write_io.IoStep.TheVariants.{Child}
use Rattle.zio_stages.specs.declared.write_io.WriteIo.{WriteIo}
use Rattle.zio_stages.proofs.LeafAsks.{AreOps, ended_asks, only_filled, only_next, writing_only}
use Rattle.zio_stages.proofs.OutLemmas.{leaves_told}

-- ---- which are out

pub outs_more : (answers : List (Option (Option Errno))) → outs_in (answers ++ None ∷ []) ≡ outs_in answers ++ true ∷ []
outs_more [] = refl
outs_more (None ∷ answers) = ap (λ xs. true ∷ xs) (outs_more answers)
outs_more (Some e ∷ answers) = ap (λ xs. false ∷ xs) (outs_more answers)

pub outs_set : (answers : List (Option (Option Errno))) (m : ℕ) (e : Option Errno) → outs_in (set answers m (Some e)) ≡ set (outs_in answers) m false
outs_set [] m e = refl
outs_set (None ∷ answers) zero e = refl
outs_set (Some f ∷ answers) zero e = refl
outs_set (None ∷ answers) (suc m) e = ap (λ xs. true ∷ xs) (outs_set answers m e)
outs_set (Some f ∷ answers) (suc m) e = ap (λ xs. false ∷ xs) (outs_set answers m e)

pub outs_get : (answers : List (Option (Option Errno))) (m : ℕ) → slice_get answers m ≡ Some None → slice_get (outs_in answers) m ≡ Some true
outs_get [] m h = absurd (cc)
outs_get (None ∷ answers) zero h = refl
outs_get (Some f ∷ answers) zero h = absurd (cc)
outs_get (None ∷ answers) (suc m) h = outs_get answers m h
outs_get (Some f ∷ answers) (suc m) h = outs_get answers m h

pub outs_back : (answers : List (Option (Option Errno))) (m : ℕ) → slice_get (outs_in answers) m ≡ Some true → slice_get answers m ≡ Some None
outs_back [] m h = absurd (cc)
outs_back (None ∷ answers) zero h = refl
outs_back (Some f ∷ answers) zero h = absurd (cc)
outs_back (None ∷ answers) (suc m) h = outs_back answers m h
outs_back (Some f ∷ answers) (suc m) h = outs_back answers m h

pub outs_counted : (answers : List (Option (Option Errno))) → count_out (outs_in answers) ≡ out_count (map (option_map answer_of) answers)
outs_counted [] = refl
outs_counted (None ∷ answers) = ap suc (outs_counted answers)
outs_counted (Some e ∷ answers) = outs_counted answers

pub outs_below : (m : ℕ) (answers : List (Option (Option Errno))) → out_below m (outs_in answers) ≡ out_before m (map (option_map answer_of) answers)
outs_below zero answers = refl
outs_below (suc m) [] = refl
outs_below (suc m) (None ∷ answers) = ap suc (outs_below m answers)
outs_below (suc m) (Some e ∷ answers) = outs_below m answers

-- those of the part that are out are the write's
pub write_told : (t : Terms) (bytes : List ℕ) (w : WriteIo) (x : Frame) → IsWriteIo t bytes w x → length (told_in x.slots) ≡ out_count (writes_of w.write)
write_told t bytes w x h = leaves_told (IsWriteIn w.write.retry) w.base (outs_in w.write.answers) x h.leaves ∙ outs_counted w.write.answers

-- ---- places and spots

-- the spot's numbers fit
pub record Fits (spot : Spot) : Type 0 where
  pub at : spot.at < 2 ^ 64
  pub len : spot.span < 2 ^ 32

abbrev pub OpFits : LeafOp → Type 0
OpFits op = Fits (spot_of op)

pub places_fit : (tops : List Top) (places : List Place) (op : Spot → LeafOp) → ((spot : Spot) → spot_of (op spot) ≡ spot) → AreMirrored tops places → AreShort places → AreOps OpFits op places
places_fit tops [] op same m h = tt
places_fit tops (p ∷ ps) op same m h =
    let here : (leaf : ℕ) → Fits (spot_in p leaf) = λ leaf. record { at = m.0.fits; len = h.0 } in
    (λ leaf. subst Fits (sym (same (spot_in p leaf))) (here leaf), places_fit tops ps op same m.1 h.1)

abbrev pub setting_over : List Top → Setting
setting_over tops = record { tops = tops; rows = []; point = 0 }

-- ---- its steps

abbrev pass_of : LeafOp → Bool
pass_of (Fetch retry len spot) = retry
pass_of (Store retry bytes spot) = retry

abbrev pub Shown : List Top → Writing → WriteStep → Type 0
Shown tops x step = (s : Setting) (bytes : List ℕ) → s.tops ≡ tops → ShowsWrite s bytes x step

-- where the second pass is due the first asks nothing
retry_asks : (tops : List Top) (x : Writing) (n : ℕ) (spot : Spot) → Shown tops x RetryStep → AsksBehind n (left_of_write (setting_over tops) [] x) (Store x.retry [] spot) → ⊥
retry_asks tops x n spot h asks =
    let s : Setting = setting_over tops in
    let due = h s [] refl in
    let P : LeafOp → Type 0 = λ op. pass_of op ≡ true in
    let again : AsksOnly P (left_of_write s [] (write_again x)) =
    writing_only P s [] x.places true (λ e. absurd (cc)) (all_true (λ (p : Place). (leaf : ℕ) → P (Store true [] (spot_in p leaf))) x.places (λ p leaf. refl)) in
    let only : AsksOnly P (left_of_write s [] x) = subst (AsksOnly P) due.2 again in
    let is : x.retry ≡ true = only_next P n (left_of_write s [] x) (Store x.retry [] spot) only asks in
    let no : x.retry ≡ false = due.1 in
    absurd (cc)

same_child : (tops : List Top) (x : Writing) (target : Target) (step : WriteStep) → AllowsWrite tops x (StoreStep target) → Shown tops x (StoreStep target) → Shown tops x step → Child ≡ io_of step
same_child tops x target (StoreStep other) a h k = refl
same_child tops x target WaitStep a h k =
    let all : length x.answers ≡ length (copies_at tops x.places) = (k (setting_over tops) [] refl).1 in
    absurd (omega (arith, a))
same_child tops x target RetryStep a h k = absurd (retry_asks tops x (out_count (writes_of x)) (spot_at target) k (h (setting_over tops) [] refl))
same_child tops x target (EndStep e) a h k =
    absurd (ended_asks (out_count (writes_of x)) (left_of_write (setting_over tops) [] x) e (Store x.retry [] (spot_at target)) (k (setting_over tops) [] refl).1 (h (setting_over tops) [] refl))

child_from : (tops : List Top) (x : Writing) (first step : WriteStep) → Child ≡ io_of first → AllowsWrite tops x first → Shown tops x first → Shown tops x step → Child ≡ io_of step
child_from tops x (StoreStep target) step is a h k = same_child tops x target step a h k
child_from tops x WaitStep step is a h k = absurd (cc)
child_from tops x RetryStep step is a h k = absurd (cc)
child_from tops x (EndStep e) step is a h k = absurd (cc)

-- where an operation is to be handed out each step that is shown is such
pub child_again : (tops : List Top) (w : WriteIo) (step : WriteStep) → IsWriteStep tops w Child → Shown tops w.write step → Child ≡ io_of step
child_again tops w step h k = child_from tops w.write h.step step h.is h.allows h.shows k

-- the place of an operation that is shown has numbers that fit
pub target_spanned : (tops : List Top) (x : Writing) (target : Target) → AreIoPlaces tops x.places → Shown tops x (StoreStep target) → IsSpanned target.place
target_spanned tops x target h k =
    let s : Setting = setting_over tops in
    let are : (again : Bool) → AreOps OpFits (Store again []) x.places = λ again. places_fit tops x.places (Store again []) (λ spot. refl) h.mirrored h.short in
    let only : AsksOnly OpFits (writing_from s [] x.places x.retry) = writing_only OpFits s [] x.places x.retry (λ _. are false) (are true) in
    let fits : Fits (spot_at target) =
    only_next OpFits (out_count (writes_of x)) (left_of_write s [] x) (Store x.retry [] (spot_at target)) (only_filled OpFits (writes_of x) (writing_from s [] x.places x.retry) only) (k s [] refl) in
    record { at = fits.at; len = fits.len }

pub child_stores : (step : WriteStep) → Child ≡ io_of step → ((target : Target) → step ≡ StoreStep target → ⊥) → ⊥
child_stores (StoreStep target) e not = not target refl
child_stores WaitStep e not = absurd (cc)
child_stores RetryStep e not = absurd (cc)
child_stores (EndStep error) e not = absurd (cc)
