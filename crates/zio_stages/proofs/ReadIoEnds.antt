-- The read of a block's copies by operations on leaves: its end.
use Rattle.std.proofs.Common.{◌≡◌, ◌⊎◌, inl, inr, ℕ, ◌<◌, ◌≤◌, List, [], ◌∷◌, length, Bool, true, Some, None, Result, Ok, Err, refl, ap, subst, ◌∙◌, arith}
use Rattle.std.proofs.lemmas.List.{length-map}
use Rattle.zio_types.specs.declared.error.Errno.{Errno}
use Rattle.zio_types.specs.declared.place.Place.{Place}
use Rattle.zio_types.specs.declared.place.Top.{Top}
use Rattle.zio_cksum.specs.Blocks.{Pass, Tried}
use Rattle.zio_cksum.specs.Headers.{offset_of}
use Rattle.zio_cksum.specs.Images.{Setting}
use Rattle.zio_gang.specs.Attempts.{Terms}
use Rattle.zio_mirror.specs.Plans.{children, place_of}
use Rattle.zio_mirror.proofs.PlanLemmas.{length-children}
use Rattle.zio_trace.specs.CopyPrograms.{Program, fetch_in, try_each}
use Rattle.zio_trace.specs.Leaves.{Answer, Fetch, Store}
use Rattle.zio_trace.specs.Programs.{Ends, ◌>>=◌}
use Rattle.zio_trace.specs.Tasks.{Got, good_by}
use Rattle.zio_frames.specs.Frames.{Frame, left_of}
use Rattle.zio_parts.specs.Answered.{out_count}
use Rattle.zio_parts.specs.Copies.{AreMirrored, leaves_at, spot_at}
use Rattle.zio_parts.specs.CopyReads.{Reading, behind_pass, behind_place, leaf_at, leaves_left, left_of_pass, left_of_read, order_at, outs_of, place_so_far, read_again}
use Rattle.zio_parts.specs.LeafPlans.{reading_plan}
use Rattle.zio_parts.specs.declared.copy_read.ReadStep.{ReadStep}
use Rattle.zio_parts.specs.declared.copy_read.ReadStep.TheVariants.{Fetch as FetchStep, Repair, Wait as WaitStep, Retry as RetryStep, End as EndStep}
use Rattle.zio_stages.specs.ReadIos.{IsReadIo, IsReadOver, IsReadStep, io_of_read}
use Rattle.zio_stages.specs.declared.read_io.ReadIo.{ReadIo}
use Rattle.zio_stages.specs.declared.write_io.IoStep.TheVariants.{Child, End}
use Rattle.zio_stages.proofs.FetchCounts.{length-order}
use Rattle.zio_stages.proofs.LeafAsks.{ended_asks}
use Rattle.zio_stages.proofs.ReadIoLemmas.{ReadShown, all_good, waits_some}
use Rattle.zio_stages.proofs.WriteIoLemmas.{setting_over}

-- ---- the second pass asks

tries_ask : (retry : Bool) (len : ℕ) (p : Place) (good : List ℕ → Bool) (so_far : Tried ℕ) (cs : List ℕ) (next : Tried ℕ → Program Pass) (then : Pass → Program Answer) (a : Answer) → 1 ≤ length cs
    → ((try_each (fetch_in retry len p) good so_far cs >>= next) >>= then) ≡ Ends a → ⊥
tries_ask retry len p good so_far [] next then a some e = absurd (omega arith)
tries_ask retry len p good so_far (c ∷ cs) next then a some e = absurd (cc)

again_asks : (s : Setting) (good : List ℕ → Bool) (x : Reading) (places : List Place) (a : Answer) → x.places ≡ places → 0 < length places → AreMirrored s.tops places
    → left_of_read s good (read_again s.tops x) ≡ Ends a → ⊥
again_asks s good x [] a is some m e = absurd (omega arith)
again_asks s good x (p ∷ ps) a is some m e =
    let y : Reading = read_again s.tops x in
    let first : place_of x.places 0 ≡ p = ap (λ qs. place_of qs 0) is in
    let order : length (order_at s.tops (place_of x.places 0)) ≡ length (leaves_at s.tops p) =
    ap (λ q. length (order_at s.tops q)) first ∙ length-order (offset_of p) (children (length (leaves_at s.tops p))) ∙ length-children (length (leaves_at s.tops p)) in
    let some_left : 1 ≤ length (leaves_left s.tops y) =
    omega (arith, length-map (order_at s.tops (place_of x.places 0)) (leaf_at s.tops (place_of x.places 0)), order, m.0.least) in
    let Q : List Place → Type 0 = λ qs. (left_of_pass s good y qs >>= behind_pass s good y true) ≡ Ends a in
    let at : Q (p ∷ ps) = subst Q is e in
    tries_ask true x.len p good (place_so_far s.tops y) (leaves_left s.tops y) (behind_place s good y p ps) (behind_pass s good y true) a some_left at

-- ---- no other step is shown where it ended

-- what an end says
pub record IsEndedWith (tops : List Top) (x : Reading) (a : Answer) : Type 0 where
  pub none : out_count (outs_of x) ≡ 0
  pub left : left_of_read (setting_over tops) all_good x ≡ Ends a

end_is : (tops : List Top) (x : Reading) (end : Result (Unit {0}) Errno) → ReadShown tops x (EndStep end) → (a : Answer) × IsEndedWith tops x a
end_is tops x (Ok done) h = let k = h (setting_over tops) all_good refl in (Ok k.0, record { none = k.2; left = k.3 })
end_is tops x (Err e) h = let k = h (setting_over tops) all_good refl in (Err e, record { none = k.0; left = k.1 })

end_same : (tops : List Top) (x : Reading) (a : Answer) (step : ReadStep) → AreMirrored tops x.places → 0 < length x.places → IsEndedWith tops x a → ReadShown tops x step → End ≡ io_of_read step
end_same tops x a (FetchStep target) m some h k =
    absurd (ended_asks (out_count (outs_of x)) (left_of_read (setting_over tops) all_good x) a (Fetch x.retry x.len (spot_at target)) h.left (k (setting_over tops) all_good refl))
end_same tops x a (Repair target) m some h k =
    let shown = k (setting_over tops) all_good refl in
    absurd (ended_asks (out_count (outs_of x)) (left_of_read (setting_over tops) all_good x) a (Store x.retry shown.0 (spot_at target)) h.left shown.2)
end_same tops x a WaitStep m some h k =
    let out : 0 < out_count (outs_of x) = waits_some x x.good tops (k (setting_over tops) all_good refl) in
    absurd (omega (arith, h.none))
end_same tops x a RetryStep m some h k =
    absurd (again_asks (setting_over tops) all_good x x.places a refl some m ((k (setting_over tops) all_good refl).3 ∙ h.left))
end_same tops x a (EndStep end) m some h k = refl

read_end_from : (tops : List Top) (x : Reading) (first : ReadStep) → End ≡ io_of_read first → ReadShown tops x first → (a : Answer) × IsEndedWith tops x a
read_end_from tops x (FetchStep target) e h = absurd (cc)
read_end_from tops x (Repair target) e h = absurd (cc)
read_end_from tops x WaitStep e h = absurd (cc)
read_end_from tops x RetryStep e h = absurd (cc)
read_end_from tops x (EndStep end) e h = end_is tops x end h

pub read_end_again : (tops : List Top) (w : ReadIo) (step : ReadStep) → IsReadOver tops w → IsReadStep tops w End → ReadShown tops w.read step → End ≡ io_of_read step
read_end_again tops w step over end k =
    let ended = read_end_from tops w.read end.step end.is end.shows in
    end_same tops w.read ended.0 step over.places.mirrored over.some ended.1 k

-- ---- the other steps

pub no_end : (step : ReadStep) → End ≡ io_of_read step → ((end : Result (Unit {0}) Errno) → step ≡ EndStep end → ⊥) → ⊥
no_end (FetchStep target) e not = absurd (cc)
no_end (Repair target) e not = absurd (cc)
no_end WaitStep e not = absurd (cc)
no_end RetryStep e not = absurd (cc)
no_end (EndStep end) e not = not end refl

pub no_child : (step : ReadStep) → Child ≡ io_of_read step → (step ≡ WaitStep) ⊎ ((step ≡ RetryStep) ⊎ ((end : Result (Unit {0}) Errno) × (step ≡ EndStep end))) → ⊥
no_child step e (inl f) = let c = e ∙ ap io_of_read f in absurd (cc)
no_child step e (inr (inl f)) = let c = e ∙ ap io_of_read f in absurd (cc)
no_child step e (inr (inr f)) = let is : step ≡ EndStep f.0 = f.1 in let c : Child ≡ End = e ∙ ap io_of_read is in absurd (cc)

-- ---- its value

pub read_ends_badly : (t : Terms) (tops : List Top) (w : ReadIo) (x : Frame) (end : Result (Unit {0}) Errno) (error : Errno) → t.setting.tops ≡ tops → end ≡ Err error → ReadShown tops w.read (EndStep end) → IsReadIo t w x
    → left_of t x ≡ Ends (Got (Err error))
read_ends_badly t tops w x end error e is k h =
    let shown : ReadShown tops w.read (EndStep (Err error)) = subst (λ r. ReadShown tops w.read (EndStep r)) is k in
    h.left ∙ ap reading_plan (shown t.setting (good_by w.check) e).1

pub read_ends_well : (t : Terms) (tops : List Top) (w : ReadIo) (x : Frame) (end : Result (Unit {0}) Errno) (done : Unit {0}) (bytes : List ℕ) → t.setting.tops ≡ tops → end ≡ Ok done → ReadShown tops w.read (EndStep end) → w.read.good ≡ Some bytes → IsReadIo t w x
    → left_of t x ≡ Ends (Got (Ok bytes))
read_ends_well t tops w x end done bytes e is k some h =
    let shown : ReadShown tops w.read (EndStep (Ok done)) = subst (λ r. ReadShown tops w.read (EndStep r)) is k in
    let ended = shown t.setting (good_by w.check) e in
    let there : w.read.good ≡ Some ended.0 = ended.1 in
    let same : ended.0 ≡ bytes = cc in
    h.left ∙ ap reading_plan ended.3 ∙ ap (λ bs. Ends (Got (Ok bs))) same

pub read_has_good : (tops : List Top) (w : ReadIo) (end : Result (Unit {0}) Errno) (done : Unit {0}) → end ≡ Ok done → ReadShown tops w.read (EndStep end) → w.read.good ≡ None → ⊥
read_has_good tops w end done is k none =
    let shown : ReadShown tops w.read (EndStep (Ok done)) = subst (λ r. ReadShown tops w.read (EndStep r)) is k in
    let ended = shown (setting_over tops) all_good refl in
    let there : w.read.good ≡ Some ended.0 = ended.1 in
    absurd (cc)
