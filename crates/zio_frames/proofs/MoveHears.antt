-- A part tells its pointer to the part that waits for it, or gives it its value.
use Rattle.std.proofs.Common.{◌≡◌, ℕ, zero, suc, ◌+◌, List, [], ◌∷◌, ◌++◌, length, map, slice_get, Bool, true, false, Option, Some, refl, sym, ap, ◌∙◌, subst, arith}
use Rattle.zio_blkptr.specs.declared.pointer.Bp.{Bp}
use Rattle.zio_cksum.specs.Images.{Images}
use Rattle.zio_cksum.proofs.AllLemmas.{all_unmap}
use Rattle.zio_gang.specs.Attempts.{Terms}
use Rattle.zio_gang.specs.Trees.{sizes_of}
use Rattle.zio_trace.specs.Calls.{FitsEarly}
use Rattle.zio_trace.specs.Clearings.{Differ, Seat}
use Rattle.zio_trace.specs.Conflicts.{is_single}
use Rattle.zio_trace.specs.Entries.{any_ways}
use Rattle.zio_trace.specs.Families.{Forest}
use Rattle.zio_trace.specs.Footprints.{FitsTask}
use Rattle.zio_trace.specs.Keys.{FitsLeft}
use Rattle.zio_trace.specs.Labels.{Labelled, ways_at}
use Rattle.zio_trace.specs.Oracles.{Agrees, IsOracle, Oracle, heard}
use Rattle.zio_trace.specs.Plans.{TaskPlan}
use Rattle.zio_trace.specs.Programs.{Asks, Ends, Program}
use Rattle.zio_trace.specs.SoundRounds.{work_of}
use Rattle.zio_trace.specs.Tasks.{Task, Value}
use Rattle.zio_trace.specs.Underway.{Call, Flight, IsFlying, State, Work, early, flying_now, seat_of, told_of, with_told}
use Rattle.zio_trace.specs.Views.{StandFirst, ToldTrue, bare, nth}
use Rattle.zio_trace.proofs.EntryLemmas.{entries_may_come}
use Rattle.zio_trace.proofs.LeftLemmas.{none_out}
use Rattle.zio_trace.proofs.MoreDone.{some_any}
use Rattle.zio_trace.proofs.UnderwayHears.{work_arrives, work_tells}
use Rattle.zio_trace.proofs.ValueFits.{value_fits, value_left}
use Rattle.zio_frames.specs.Answering.{EndsAnswered, IsAnswerTo}
use Rattle.zio_frames.specs.Frames.{Frame, flight_at, left_of, with_slot}
use Rattle.zio_frames.specs.Moves.{WillHave}
use Rattle.zio_frames.specs.OfRound.{FitsWhichever}
use Rattle.zio_frames.specs.Slots.{Heard, IsOut, outs_before, told_in}
use Rattle.zio_frames.proofs.FrameLemmas.{bare_rest, flight_heard, flight_told, rest_ends}
use Rattle.zio_frames.proofs.KnownLemmas.{answers_in_kind, ends_answered}
use Rattle.zio_frames.proofs.LinkedPlaces.{PlacesDiffer, first_is_out}
use Rattle.zio_frames.proofs.Moved.{Goes}
use Rattle.zio_frames.proofs.OutLemmas.{out_at, out_of, out_there, told_outs}
use Rattle.zio_frames.proofs.RoundFrames.{fits_of_any}

pub places_differ : (flights : List Flight) → Differ (map seat_of flights) → PlacesDiffer flights
places_differ [] h = tt
places_differ (x ∷ flights) h =
    (all_unmap (λ (q : Seat Task). x.op.at ≡ q.op.at → ⊥) seat_of flights h.0, places_differ flights h.1)

-- what one that is out told is true of its answer
told_true : (o : Oracle (Labelled Task) Value) (k : ℕ) (outs : List Call) (p : Program (Labelled Task) Value Value) (c : Call)
    → StandFirst o outs p → ToldTrue early o (told_of outs) p
    → nth k outs ≡ Some c → FitsEarly early c.told (o.answer c.op)
told_true o k [] p c first told e = absurd (none_out k c e)
told_true o k (d ∷ outs) (Ends a) c first told e = absurd first
told_true o zero (d ∷ outs) (Asks x more) c first told e =
    let is : d ≡ c = cc in
    subst (λ (y : Call). FitsEarly early y.told (o.answer y.op)) is
    (subst (λ (y : Labelled Task). FitsEarly early d.told (o.answer y)) first.0 told.0)
told_true o (suc k) (d ∷ outs) (Asks x more) c first told e = told_true o k outs (more (o.answer x)) c first.1 told.1 e

module _ (t : Terms) (sizes : ℕ → ℕ) (f : Forest) (before : Option Images) (s : State) where
  abbrev work : Work
  work = work_of t sizes f

  abbrev pub Flies : List Flight → Type 0
  Flies flights = Goes t sizes f before (flying_now s flights)

  pub differ_of : (flights : List Flight) → Flies flights → PlacesDiffer flights
  differ_of flights h =
      let comes = entries_may_come (sizes_of t.setting.tops) t.used s.entries h.distinct h.lawful in
      places_differ flights (h.clear s.entries comes).clear.differ

  -- the first is the operation that is out in its place
  pub is_out : (xat at : List ℕ) (x y : Frame) (n : ℕ) (op : Task) (told : Option (Option Bp)) (rest : List Flight)
      → Flies (flight_at t xat x ∷ flight_at t at y ∷ rest)
      → slice_get y.asked n ≡ Some op → slice_get y.slots n ≡ Some (IsOut told) → xat ≡ at ++ n ∷ []
      → (out_of at (0 + n) op told).op ≡ (flight_at t xat x).op
  is_out xat at x y n op told rest h asked out is =
      let X : Flight = flight_at t xat x in
      let Y : Flight = flight_at t at y in
      let number : n ≡ 0 + n = omega arith in
      first_is_out X (Y ∷ rest) s.outs Y 1 (outs_before n y.slots) (out_of at (0 + n) op told)
      (differ_of (X ∷ Y ∷ rest) h) h.linked refl
      (out_there at 0 n y.asked y.slots op told asked out) (is ∙ ap (λ k. at ++ k ∷ []) number)

  -- ---- it tells

  told_if : (b : Bool) (o : Oracle (Labelled Task) Value) (x : Flight) → is_single x.op.op ≡ b → IsFlying t s.deeds x
      → IsOracle (ways_at (any_ways t)) o → Agrees o s.deeds → ToldTrue early o (told_of x.outs) x.rest
  told_if true o x e h ways agrees =
      subst (λ (outs : List Call). ToldTrue early o (told_of outs) x.rest) (sym (h.single e).0) tt
  told_if false o x e h ways agrees = (h.left e o ways agrees).told

  pub told_out : (xat at : List ℕ) (x y : Frame) (n : ℕ) (op : Task) (told : Option (Option Bp)) (pointer : Option Bp)
      (rest : List Flight) → Flies (flight_at t xat x ∷ flight_at t at y ∷ rest)
      → length x.asked ≡ length x.slots → WillHave t x pointer → slice_get y.asked n ≡ Some op
      → slice_get y.slots n ≡ Some (IsOut told) → xat ≡ at ++ n ∷ []
      → Flies (flight_at t xat x ∷ flight_at t at (with_slot y n (IsOut (Some pointer))) ∷ rest)
  told_out xat at x y n op told pointer rest h full will asked out is =
      let X : Flight = flight_at t xat x in
      let Y : Flight = flight_at t at y in
      let P : Value → Type 0 = λ v. early v ≡ pointer in
      let ends : EndsAnswered P (told_of X.outs) (bare X.rest) =
      subst (λ (r : List _). EndsAnswered P r (bare X.rest)) (sym (told_outs xat 0 x.asked x.slots full))
      (subst (λ (p : TaskPlan Value). EndsAnswered P (told_in x.slots) p) (sym (bare_rest t xat x)) will) in
      let later : Flies (X ∷ with_told Y (outs_before n y.slots) pointer ∷ rest) =
      work_tells work before s X Y rest (outs_before n y.slots) (out_of at (0 + n) op told) pointer h
      (out_there at 0 n y.asked y.slots op told asked out)
      (is_out xat at x y n op told rest h asked out is)
      (λ o ways agrees. ends_answered P o (told_of X.outs) X.rest (answers_in_kind t o ways) ends
      (told_if (is_single x.op) o X refl h.flying.0 ways agrees)) in
      subst (λ (g : Flight). Flies (X ∷ g ∷ rest)) (flight_told t at y n pointer (out_at n y.slots told out)) later

  -- ---- it ended

  -- what is known of its value
  pub known_value : (x : Flight) (v : Value) (rest : List Flight) → Flies (x ∷ rest) → x.rest ≡ Ends v
      → (o : Oracle (Labelled Task) Value) → IsOracle (ways_at (any_ways t)) o → Agrees o s.deeds → o.answer x.op ≡ v
  known_value x v rest h ended o ways agrees = sym (h.going.knows.0 o ways agrees) ∙ ap (heard o) ended

  early_if : (b : Bool) (o : Oracle (Labelled Task) Value) (y : Flight) (k : ℕ) (c : Call) → is_single y.op.op ≡ b
      → IsFlying t s.deeds y → IsOracle (ways_at (any_ways t)) o → Agrees o s.deeds → nth k y.outs ≡ Some c
      → FitsEarly early c.told (o.answer c.op)
  early_if true o y k c e h ways agrees out =
      absurd (none_out k c (subst (λ (cs : List Call). nth k cs ≡ Some c) (h.single e).0 out))
  early_if false o y k c e h ways agrees out =
      let left = h.left e o ways agrees in told_true o k y.outs y.rest c left.first left.told out

  -- the part that waits has it, and it is as it was told, and fits
  pub record HeardOut (at : List ℕ) (x y : Frame) (n : ℕ) (op : Task) (told : Option (Option Bp)) (v : Value)
      (rest : List Flight) : Type 0 where
    pub flies : Flies (flight_at t at (with_slot y n (Heard v)) ∷ rest)
    pub same : op ≡ x.op
    pub early : FitsEarly early told v
    pub fits : FitsWhichever t s.entries op v

  pub heard_out : (xat at : List ℕ) (x y : Frame) (n : ℕ) (op : Task) (told : Option (Option Bp)) (v : Value)
      (rest : List Flight) → Flies (flight_at t xat x ∷ flight_at t at y ∷ rest)
      → left_of t x ≡ Ends v → slice_get y.asked n ≡ Some op → slice_get y.slots n ≡ Some (IsOut told) → xat ≡ at ++ n ∷ []
      → HeardOut at x y n op told v rest
  heard_out xat at x y n op told v rest h left asked out is =
      let X : Flight = flight_at t xat x in
      let Y : Flight = flight_at t at y in
      let k : ℕ = outs_before n y.slots in
      let c : Call = out_of at (0 + n) op told in
      let ended : X.rest ≡ Ends v = rest_ends t xat x v left in
      let there : nth k Y.outs ≡ Some c = out_there at 0 n y.asked y.slots op told asked out in
      let same : c.op ≡ X.op = is_out xat at x y n op told rest h asked out is in
      let task : op ≡ x.op = ap (λ (l : Labelled Task). l.op) same in
      let some = some_any work s.deeds h.going.once h.going.single in
      let answer : some.0.answer X.op ≡ v = known_value X v (Y ∷ rest) h ended some.0 some.1 some.2 in
      record {
        flies =
            subst (λ (g : Flight). Flies (g ∷ rest)) (flight_heard t at y n v (out_at n y.slots told out))
            (work_arrives work before s X Y rest k c v h ended there same);
        same = task;
        early =
            subst (FitsEarly early told) (ap (λ (l : Labelled Task). some.0.answer l) same ∙ answer)
            (early_if (is_single y.op) some.0 Y k c refl h.flying.1.0 some.1 some.2 there);
        fits = fits_of_any t s.entries op v h.lawful h.distinct
            (λ j comes. subst (λ (q : Task). FitsTask j t q v) (sym task)
            (value_fits work before (flying_now s (X ∷ Y ∷ rest)) X (Y ∷ rest) v h refl ended j comes))
            (subst (λ (q : Task). FitsLeft q v) (sym task)
            (value_left work before (flying_now s (X ∷ Y ∷ rest)) X (Y ∷ rest) v h refl ended))
            (subst (λ (q : Task). IsAnswerTo q v) (sym task)
            (subst (IsAnswerTo x.op) answer (answers_in_kind t some.0 some.1 X.op)));
      }
