-- Which operations of a read or a write are out, from one call to the next.
use Rattle.std.proofs.Common.{◌≡◌, ◌≢◌, ℕ, zero, suc, ◌+◌, ◌-◌, ◌<◌, ◌≤◌, List, [], ◌∷◌, ◌++◌, length, slice_get, slice_set, Bool, true, false, Option, Some, None, Ok, Err, ◌⊎◌, inl, inr, refl, sym, ap, subst, ◌∙◌, arith}
use Rattle.std.proofs.lemmas.Option.{slice_get_within}
use Rattle.zio_types.specs.declared.place.Top.{Top}
use Rattle.zio_frames.proofs.GetLemmas.{get_last, get_more, get_other}
use Rattle.zio_parts.specs.Answered.{out_count}
use Rattle.zio_parts.specs.CopyReads.{Reading, outs_of}
use Rattle.zio_parts.specs.CopyWrites.{Writing, writes_of}
use Rattle.zio_parts.specs.declared.copy_read.ReadStep.{ReadStep}
use Rattle.zio_parts.specs.declared.copy_read.ReadStep.TheVariants.{Fetch as FetchStep, Repair, Wait as WaitReadStep, Retry as RetryReadStep, End as EndReadStep}
use Rattle.zio_parts.specs.declared.copy_write.WriteStep.{WriteStep}
use Rattle.zio_parts.specs.declared.copy_write.WriteStep.TheVariants.{Store as StoreStep, Wait as WaitStep, Retry as RetryStep, End as EndStep}
use Rattle.zio_stages.specs.LeavesOut.{count_out}
use Rattle.zio_stages.specs.NodeIos.{IsReadDue, IsWriteDue}
use Rattle.zio_stages.specs.ReadIos.{IsReadOutIn, IsReadStep, io_of_read, outs_of_read, outs_when, reads_when}
use Rattle.zio_stages.specs.WriteIos.{IsOutIn, IsWriteStep, io_of, outs_in}
use Rattle.zio_stages.specs.declared.read_io.ReadIo.{ReadIo}
use Rattle.zio_stages.specs.declared.write_io.IoStep.{IoStep}
use Rattle.zio_stages.specs.declared.write_io.IoStep.TheVariants.{Child, End, Retry, Wait}
use Rattle.zio_stages.specs.declared.write_io.WriteIo.{WriteIo}
use Rattle.zio_stages.proofs.ReadIoLemmas.{ReadShown, all_good, read_child_again, read_counted, waits_some}
use Rattle.zio_stages.proofs.WriteIoLemmas.{Shown, child_again, outs_counted, outs_get, setting_over}

-- ---- behind so many

-- the nth, counted behind so many, is this
abbrev pub IsIn : {X : Type 0} → ℕ → List X → X → ℕ → Type 0
IsIn base xs x n = (base ≤ n) × (slice_get xs (n - base) ≡ Some x)

pub grown_in : {X : Type 0} (base now : ℕ) (xs ys : List X) (x : X) → now ≡ base → ys ≡ xs ++ x ∷ [] → (n : ℕ) → IsIn base xs x n → IsIn now ys x n
grown_in base now xs ys x b e n h =
    (omega (arith, b, h.0), ap (λ m. slice_get ys (n - m)) b ∙ ap (λ zs. slice_get zs (n - base)) e ∙ get_more xs x x (n - base) h.1)

pub newest_in : {X : Type 0} (base now asked : ℕ) (xs ys : List X) (x : X) → now ≡ base → ys ≡ xs ++ x ∷ [] → asked ≡ base + length xs → IsIn now ys x asked
newest_in base now asked xs ys x b e many =
    let at : asked - base ≡ length xs = omega (arith, many) in
    (omega (arith, b, many), ap (λ m. slice_get ys (asked - m)) b ∙ ap (λ zs. slice_get zs (asked - base)) e ∙ ap (slice_get (xs ++ x ∷ [])) at ∙ get_last xs x)

pub below_in : {X : Type 0} (base asked : ℕ) (xs : List X) (x : X) → asked ≡ base + length xs → (n : ℕ) → IsIn base xs x n → n < asked
below_in base asked xs x many n h = omega (arith, many, h.0, slice_get_within xs (n - base) x h.1)

pub other_in : {X : Type 0} (base : ℕ) (xs : List X) (x y : X) (n m : ℕ) → m ≢ n → base ≤ n → IsIn base xs x m → IsIn base (slice_set xs (n - base) y) x m
other_in base xs x y n m ne low h = (h.0, get_other xs (n - base) (m - base) y (λ e. ne (omega (arith, e, low, h.0))) ∙ h.1)

-- ---- none is

none_in : (outs : List Bool) (k : ℕ) → count_out outs ≡ 0 → slice_get outs k ≡ Some true → ⊥
none_in [] k e h = cc
none_in (true ∷ outs) k e h = let no : suc (count_out outs) ≡ 0 = e in absurd (omega arith)
none_in (false ∷ outs) zero e h = cc
none_in (false ∷ outs) (suc k) e h = none_in outs k e h

-- ---- reads

read_quiet_from : (tops : List Top) (x : Reading) (step : ReadStep) → (Retry ≡ io_of_read step) ⊎ (End ≡ io_of_read step) → ReadShown tops x step → out_count (outs_of x) ≡ 0
read_quiet_from tops x (FetchStep target) (inl e) h = absurd (cc)
read_quiet_from tops x (FetchStep target) (inr e) h = absurd (cc)
read_quiet_from tops x (Repair target) (inl e) h = absurd (cc)
read_quiet_from tops x (Repair target) (inr e) h = absurd (cc)
read_quiet_from tops x WaitReadStep (inl e) h = absurd (cc)
read_quiet_from tops x WaitReadStep (inr e) h = absurd (cc)
read_quiet_from tops x RetryReadStep e h = (h (setting_over tops) all_good refl).0
read_quiet_from tops x (EndReadStep (Ok done)) e h = (h (setting_over tops) all_good refl).2
read_quiet_from tops x (EndReadStep (Err error)) e h = (h (setting_over tops) all_good refl).0

pub read_quiet : (tops : List Top) (w : ReadIo) → IsReadDue tops w → out_count (outs_of w.read) ≡ 0
read_quiet tops w (inl h) = read_quiet_from tops w.read h.step (inl h.is) h.shows
read_quiet tops w (inr h) = read_quiet_from tops w.read h.step (inr h.is) h.shows

-- a read has one step
pub read_one_step : (tops : List Top) (w : ReadIo) (io : IoStep) → IsReadStep tops w io → IsReadStep tops w Child → io ≡ Child
read_one_step tops w io h k = h.is ∙ sym (read_child_again tops w h.step k h.shows)

read_first_from : (tops : List Top) (x : Reading) (step : ReadStep) → Retry ≡ io_of_read step → ReadShown tops x step → x.retry ≡ false
read_first_from tops x (FetchStep target) e h = absurd (cc)
read_first_from tops x (Repair target) e h = absurd (cc)
read_first_from tops x WaitReadStep e h = absurd (cc)
read_first_from tops x RetryReadStep e h = (h (setting_over tops) all_good refl).1
read_first_from tops x (EndReadStep end) e h = absurd (cc)

-- the second pass begins in the first
pub read_first_pass : (tops : List Top) (w : ReadIo) → IsReadStep tops w Retry → w.read.retry ≡ false
read_first_pass tops w h = read_first_from tops w.read h.step h.is h.shows

-- nothing is out where the pass ended
pub read_idle : (tops : List Top) (w : ReadIo) → IsReadDue tops w → (n : ℕ) → IsReadOutIn w n → ⊥
read_idle tops w h n out = none_in (outs_of_read w) (n - w.base) (read_counted w ∙ read_quiet tops w h) out.1

read_wait_some : (tops : List Top) (x : Reading) (step : ReadStep) → Wait ≡ io_of_read step → ReadShown tops x step → 0 < out_count (outs_of x)
read_wait_some tops x (FetchStep target) e h = absurd (cc)
read_wait_some tops x (Repair target) e h = absurd (cc)
read_wait_some tops x WaitReadStep e h = waits_some x x.good tops (h (setting_over tops) all_good refl)
read_wait_some tops x RetryReadStep e h = absurd (cc)
read_wait_some tops x (EndReadStep end) e h = absurd (cc)

read_no_child : (tops : List Top) (w : ReadIo) → IsReadDue tops w → IsReadStep tops w Child → ⊥
read_no_child tops w (inl h) k =
    let one : Child ≡ io_of_read h.step = read_child_again tops w h.step k h.shows in
    let two : Retry ≡ io_of_read h.step = h.is in
    absurd (cc)
read_no_child tops w (inr h) k =
    let one : Child ≡ io_of_read h.step = read_child_again tops w h.step k h.shows in
    let two : End ≡ io_of_read h.step = h.is in
    absurd (cc)

read_no_wait : (tops : List Top) (w : ReadIo) → IsReadDue tops w → IsReadStep tops w Wait → ⊥
read_no_wait tops w h k = absurd (omega (arith, read_quiet tops w h, read_wait_some tops w.read k.step k.is k.shows))

-- and nothing is to be done but to go on
pub read_goes_on : (tops : List Top) (w : ReadIo) (io : IoStep) → IsReadDue tops w → IsReadStep tops w io → (io ≡ Child) ⊎ (io ≡ Wait) → ⊥
read_goes_on tops w io h k (inl e) = read_no_child tops w h (subst (IsReadStep tops w) e k)
read_goes_on tops w io h k (inr e) = read_no_wait tops w h (subst (IsReadStep tops w) e k)

first_of_one : (m : ℕ) → slice_get (true ∷ []) m ≡ Some true → m ≡ 0
first_of_one zero e = refl
first_of_one (suc m) e = absurd (cc)

reads_one : (good : Option (List ℕ)) (is_out : Bool) (mends : List Bool) → reads_when good is_out ≡ true → outs_when good is_out mends ≡ true ∷ []
reads_one None is_out mends e = ap (λ b. outs_when None b mends) e
reads_one (Some bytes) is_out mends e = absurd (cc)

-- while a copy is being read nothing else is out
pub read_alone : (w : ReadIo) (n m : ℕ) → reads_when w.read.good w.read.is_out ≡ true → IsReadOutIn w n → IsReadOutIn w m → m ≡ n
read_alone w n m reads a b =
    let one : outs_of_read w ≡ true ∷ [] = reads_one w.read.good w.read.is_out w.read.mends reads in
    let first : n - w.base ≡ 0 = first_of_one (n - w.base) (ap (λ os. slice_get os (n - w.base)) (sym one) ∙ a.1) in
    let other : m - w.base ≡ 0 = first_of_one (m - w.base) (ap (λ os. slice_get os (m - w.base)) (sym one) ∙ b.1) in
    omega (arith, a.0, b.0)

mends_other : (good : Option (List ℕ)) (is_out : Bool) (mends : List Bool) (base n m : ℕ) → reads_when good is_out ≡ false → m ≢ n → base ≤ n
    → IsIn base (outs_when good is_out mends) true m → IsIn base (outs_when good is_out (slice_set mends (n - base) false)) true m
mends_other None true mends base n m e ne low h = absurd (cc)
mends_other None false mends base n m e ne low h = absurd (cc)
mends_other (Some bytes) is_out mends base n m e ne low h = other_in base mends true false n m ne low h

-- the answer of a repair leaves the others out
pub mended_other : (w : ReadIo) (y : Reading) (n m : ℕ) → reads_when w.read.good w.read.is_out ≡ false → y.good ≡ w.read.good → y.is_out ≡ w.read.is_out → y.mends ≡ slice_set w.read.mends (n - w.base) false
    → IsReadOutIn w n → m ≢ n → IsReadOutIn w m → IsIn w.base (outs_when y.good y.is_out y.mends) true m
mended_other w y n m idle good is_out mends out ne h =
    let Q : List Bool → Type 0 = λ os. IsIn w.base os true m in
    let same : outs_when y.good y.is_out y.mends ≡ outs_when w.read.good w.read.is_out (slice_set w.read.mends (n - w.base) false) =
    λ i. outs_when (good i) (is_out i) (mends i) in
    subst Q (sym same) (mends_other w.read.good w.read.is_out w.read.mends w.base n m idle ne out.0 h)

-- ---- writes

write_quiet_from : (tops : List Top) (x : Writing) (step : WriteStep) → (Retry ≡ io_of step) ⊎ (End ≡ io_of step) → Shown tops x step → out_count (writes_of x) ≡ 0
write_quiet_from tops x (StoreStep target) (inl e) h = absurd (cc)
write_quiet_from tops x (StoreStep target) (inr e) h = absurd (cc)
write_quiet_from tops x WaitStep (inl e) h = absurd (cc)
write_quiet_from tops x WaitStep (inr e) h = absurd (cc)
write_quiet_from tops x RetryStep e h = (h (setting_over tops) [] refl).0
write_quiet_from tops x (EndStep error) e h = (h (setting_over tops) [] refl).0

pub write_quiet : (tops : List Top) (w : WriteIo) → IsWriteDue tops w → out_count (writes_of w.write) ≡ 0
write_quiet tops w (inl h) = write_quiet_from tops w.write h.step (inl h.is) h.shows
write_quiet tops w (inr h) = write_quiet_from tops w.write h.step (inr h.is) h.shows

pub write_idle : (tops : List Top) (w : WriteIo) → IsWriteDue tops w → (n : ℕ) → IsOutIn w n → ⊥
write_idle tops w h n out =
    none_in (outs_in w.write.answers) (n - w.base) (outs_counted w.write.answers ∙ write_quiet tops w h) (outs_get w.write.answers (n - w.base) out.1)

-- a write has one step
pub write_one_step : (tops : List Top) (w : WriteIo) (io : IoStep) → IsWriteStep tops w io → IsWriteStep tops w Child → io ≡ Child
write_one_step tops w io h k = h.is ∙ sym (child_again tops w h.step k h.shows)

write_first_from : (tops : List Top) (x : Writing) (step : WriteStep) → Retry ≡ io_of step → Shown tops x step → x.retry ≡ false
write_first_from tops x (StoreStep target) e h = absurd (cc)
write_first_from tops x WaitStep e h = absurd (cc)
write_first_from tops x RetryStep e h = (h (setting_over tops) [] refl).1
write_first_from tops x (EndStep error) e h = absurd (cc)

-- the second pass begins in the first
pub write_first_pass : (tops : List Top) (w : WriteIo) → IsWriteStep tops w Retry → w.write.retry ≡ false
write_first_pass tops w h = write_first_from tops w.write h.step h.is h.shows

write_wait_some : (tops : List Top) (x : Writing) (step : WriteStep) → Wait ≡ io_of step → Shown tops x step → 0 < out_count (writes_of x)
write_wait_some tops x (StoreStep target) e h = absurd (cc)
write_wait_some tops x WaitStep e h = (h (setting_over tops) [] refl).0
write_wait_some tops x RetryStep e h = absurd (cc)
write_wait_some tops x (EndStep error) e h = absurd (cc)

write_no_child : (tops : List Top) (w : WriteIo) → IsWriteDue tops w → IsWriteStep tops w Child → ⊥
write_no_child tops w (inl h) k =
    let one : Child ≡ io_of h.step = child_again tops w h.step k h.shows in
    let two : Retry ≡ io_of h.step = h.is in
    absurd (cc)
write_no_child tops w (inr h) k =
    let one : Child ≡ io_of h.step = child_again tops w h.step k h.shows in
    let two : End ≡ io_of h.step = h.is in
    absurd (cc)

write_no_wait : (tops : List Top) (w : WriteIo) → IsWriteDue tops w → IsWriteStep tops w Wait → ⊥
write_no_wait tops w h k = absurd (omega (arith, write_quiet tops w h, write_wait_some tops w.write k.step k.is k.shows))

pub write_goes_on : (tops : List Top) (w : WriteIo) (io : IoStep) → IsWriteDue tops w → IsWriteStep tops w io → (io ≡ Child) ⊎ (io ≡ Wait) → ⊥
write_goes_on tops w io h k (inl e) = write_no_child tops w h (subst (IsWriteStep tops w) e k)
write_goes_on tops w io h k (inr e) = write_no_wait tops w h (subst (IsWriteStep tops w) e k)
