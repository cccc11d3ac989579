-- A part hands out what it asks next, or does it at once.
use Rattle.std.proofs.Common.{◌≡◌, ℕ, ◌+◌, List, [], ◌∷◌, ◌++◌, length, slice_get, Bool, true, false, cond, Option, Some, None, refl, sym, ap, ◌∙◌, subst, arith}
use Rattle.std.specs.List.{AllByRecursion}
use Rattle.zio_types.specs.Choices.{Choice}
use Rattle.zio_cksum.specs.Images.{Images}
use Rattle.zio_gang.specs.Attempts.{Terms}
use Rattle.zio_trace.specs.Clearings.{Free}
use Rattle.zio_trace.specs.Conflicts.{is_single}
use Rattle.zio_trace.specs.Engines.{reach_in}
use Rattle.zio_trace.specs.Families.{Forest}
use Rattle.zio_trace.specs.Footprints.{FitsTask}
use Rattle.zio_trace.specs.Labels.{labelled}
use Rattle.zio_trace.specs.Plans.{TaskPlan, plan}
use Rattle.zio_trace.specs.Programs.{Ends}
use Rattle.zio_trace.specs.SoundRounds.{IsSoundRound, shared_in, work_of}
use Rattle.zio_trace.specs.Tasks.{Task, Value}
use Rattle.zio_trace.specs.Underway.{Call, Flight, State, Work, after_deed, flight_of, flying_now, part_of, plan_at, told_of, with_answer, with_out}
use Rattle.zio_trace.specs.Views.{bare}
use Rattle.zio_trace.proofs.FlightLemmas.{plan_single}
use Rattle.zio_trace.proofs.UnderwayHears.{work_arrives}
use Rattle.zio_trace.proofs.UnderwayOut.{work_out}
use Rattle.zio_trace.proofs.ValueFits.{value_fits}
use Rattle.zio_frames.specs.Answering.{NextAnswered}
use Rattle.zio_frames.specs.Frames.{Frame, flight_at, fresh_frame, with_asked, with_slot}
use Rattle.zio_frames.specs.Moves.{AsksNext}
use Rattle.zio_frames.specs.OfRound.{IsFrameOf, MayStill}
use Rattle.zio_frames.specs.Slots.{Heard, IsOut, left_behind_slots, outs_before, told_in}
use Rattle.zio_frames.proofs.FrameLemmas.{bare_rest, flight_begins, flight_heard, flight_out, next_whole}
use Rattle.zio_frames.proofs.GetLemmas.{get_last}
use Rattle.zio_frames.proofs.KnownLemmas.{answers_in_kind, asked_answered}
use Rattle.zio_frames.proofs.Moved.{Goes, Moved}
use Rattle.zio_frames.proofs.OfRoundLemmas.{next_is_free}
use Rattle.zio_frames.proofs.OutLemmas.{out_at, out_of, out_there, told_outs}
use Rattle.zio_frames.proofs.SingleLemmas.{single_asks}
use Rattle.zio_frames.proofs.SlotMoves.{set_end}

module _ (t : Terms) (sizes : ℕ → ℕ) (f : Forest) (before : Option Images) (s : State) (sound : IsSoundRound t sizes f) where
  abbrev work : Work
  work = work_of t sizes f

  -- ---- it hands it out

  pub handed_out : (at : List ℕ) (x : Frame) (op : Task) (rest : List Flight)
      → Goes t sizes f before (flying_now s (flight_at t at x ∷ rest)) → is_single x.op ≡ false
      → length x.asked ≡ length x.slots → IsFrameOf t f s.entries x → AsksNext t x op
      → Goes t sizes f before (flying_now s
      (flight_at t (at ++ length x.slots ∷ []) (fresh_frame op) ∷ flight_at t at (with_asked x op (IsOut None)) ∷ rest))
  handed_out at x op rest h many full of_round asks =
      let F : Flight = flight_at t at x in
      let next : NextAnswered (told_of F.outs) (bare F.rest) op =
      subst (λ (r : List _). NextAnswered r (bare F.rest) op) (sym (told_outs at 0 x.asked x.slots full))
      (subst (λ (p : TaskPlan Value). NextAnswered (told_in x.slots) p op) (sym (bare_rest t at x)) asks.next) in
      let out : Goes t sizes f before (flying_now s (flight_of t (part_of at F.next op) ∷ with_out F op ∷ rest)) =
      work_out work before s F rest op h many
      (λ o ways agrees. asked_answered o at (labelled at 0 (plan t x.op)) F.rest F.outs F.next op (answers_in_kind t o ways)
      (h.flying.0.left many o ways agrees) next)
      (λ j comes. subst (λ n. AllByRecursion (λ (c : Call). Free (reach_in j t (shared_in t f)) c.op (part_of at n op)) F.outs)
      (sym (next_whole t at x many))
      (next_is_free t sizes f s.entries at x op j sound of_round full asks comes)) in
      let new : flight_of t (part_of at F.next op) ≡ flight_at t (at ++ length x.slots ∷ []) (fresh_frame op) =
      ap (λ n. flight_of t (part_of at n op)) (next_whole t at x many) ∙ flight_begins t (at ++ length x.slots ∷ []) op in
      subst
      (λ (g : Flight). Goes t sizes f before (flying_now s (g ∷ flight_at t at (with_asked x op (IsOut None)) ∷ rest))) new
      (subst (λ (g : Flight). Goes t sizes f before (flying_now s (flight_of t (part_of at F.next op) ∷ g ∷ rest)))
      (flight_out t at x op many full) out)

  -- ---- it does it at once

  -- the operation, wherever it is the first in flight, has this answer, and leaves these entries and images
  abbrev pub IsDeed : Task → Value → List Choice → Images → Type 0
  IsDeed op v entries images =
      (x : Flight) (rest : List Flight) → Goes t sizes f before (flying_now s (x ∷ rest)) → x.op.op ≡ op → x.rest ≡ plan_at t x.op
      → Goes t sizes f before (after_deed s x rest v entries images)

  -- it was done, and its value fits
  abbrev pub WasDone : Task → Value → List Flight → List Choice → Images → Type 0
  WasDone op v flights entries images =
      Moved t sizes f before s flights entries images × ((j : List Choice) → MayStill t entries j → FitsTask j t op v)

  done_within : (at : List ℕ) (x : Frame) (op : Task) (v : Value) (entries : List Choice) (images : Images) (rest : List Flight)
      → IsDeed op v entries images
      → Goes t sizes f before (flying_now s (flight_at t at x ∷ rest)) → is_single x.op ≡ false
      → length x.asked ≡ length x.slots → IsFrameOf t f s.entries x → AsksNext t x op
      → (length (with_asked x op (IsOut None)).asked ≡ length (with_asked x op (IsOut None)).slots)
      → slice_get (x.asked ++ op ∷ []) (length x.slots) ≡ Some op
      → WasDone op v (flight_at t at (with_asked x op (Heard v)) ∷ rest) entries images
  done_within at x op v entries images rest deed h many full of_round asks longer asked =
      let n : ℕ = length x.slots in
      let y : Frame = with_asked x op (IsOut None) in
      let new : Flight = flight_at t (at ++ n ∷ []) (fresh_frame op) in
      let Q : Flight = flight_at t at y in
      let out = handed_out at x op rest h many full of_round asks in
      let after : State = after_deed s new (Q ∷ rest) v entries images in
      let did : Goes t sizes f before after = deed new (Q ∷ rest) out refl refl in
      let now : Flight = record { op = new.op; rest = Ends v; outs = []; next = new.next } in
      let slot : slice_get y.slots n ≡ Some (IsOut None) = get_last x.slots (IsOut None) in
      let number : 0 + n ≡ n = omega arith in
      let heard : Goes t sizes f before (flying_now after (with_answer Q (outs_before n y.slots) v ∷ rest)) =
      work_arrives work before after now Q rest (outs_before n y.slots) (out_of at (0 + n) op None) v did refl
      (out_there at 0 n y.asked y.slots op None asked slot) (ap (λ k. part_of at k op) number) in
      let set : with_slot y n (Heard v) ≡ with_asked x op (Heard v) =
      λ i. record { op = x.op; asked = x.asked ++ op ∷ []; slots = set_end x.slots (IsOut None) (Heard v) i } in
      let same : with_answer Q (outs_before n y.slots) v ≡ flight_at t at (with_asked x op (Heard v)) =
      flight_heard t at y n v (out_at n y.slots None slot) ∙ ap (flight_at t at) set in (
        record {
          state = flying_now after (flight_at t at (with_asked x op (Heard v)) ∷ rest);
          underway = subst (λ (g : Flight). Goes t sizes f before (flying_now after (g ∷ rest))) same heard;
          flights_are = refl;
          root = refl;
          outs = refl;
          next = refl;
          entries_are = refl;
          images_are = refl;
        },
        λ j comes. value_fits work before after now (Q ∷ rest) v did refl refl j comes,
      )

  done_itself : (at : List ℕ) (op : Task) (v : Value) (entries : List Choice) (images : Images) (rest : List Flight)
      → IsDeed op v entries images → is_single op ≡ true
      → Goes t sizes f before (flying_now s (flight_at t at (fresh_frame op) ∷ rest))
      → WasDone op v (flight_at t at (with_asked (fresh_frame op) op (Heard v)) ∷ rest) entries images
  done_itself at op v entries images rest deed single h =
      let new : Flight = flight_at t at (fresh_frame op) in
      let after : State = after_deed s new rest v entries images in
      let did : Goes t sizes f before after = deed new rest h refl refl in
      let now : Flight = record { op = new.op; rest = Ends v; outs = []; next = new.next } in
      let left : left_behind_slots (Heard v ∷ []) (plan_at t new.op) ≡ Ends v =
      ap (left_behind_slots (Heard v ∷ [])) (plan_single t new.op single) in
      let one : cond (is_single op) 0 (length (Heard v ∷ [])) ≡ 0 =
      ap (λ (b : Bool). cond b 0 (length (Heard v ∷ []))) single in
      let none : cond (is_single op) 0 0 ≡ 0 = ap (λ (b : Bool). cond b 0 0) single in
      let same : now ≡ flight_at t at (with_asked (fresh_frame op) op (Heard v)) =
      λ i. record { op = new.op; rest = sym left i; outs = []; next = (none ∙ sym one) i } in (
        record {
          state = flying_now after (flight_at t at (with_asked (fresh_frame op) op (Heard v)) ∷ rest);
          underway = subst (λ (g : Flight). Goes t sizes f before (flying_now after (g ∷ rest))) same did;
          flights_are = refl;
          root = refl;
          outs = refl;
          next = refl;
          entries_are = refl;
          images_are = refl;
        },
        λ j comes. value_fits work before after now rest v did refl refl j comes,
      )

  done_if : (b : Bool) (at : List ℕ) (x : Frame) (op : Task) (v : Value) (entries : List Choice) (images : Images)
      (rest : List Flight) → is_single x.op ≡ b → IsDeed op v entries images → is_single op ≡ true
      → Goes t sizes f before (flying_now s (flight_at t at x ∷ rest)) → length x.asked ≡ length x.slots
      → IsFrameOf t f s.entries x → AsksNext t x op
      → (length (with_asked x op (IsOut None)).asked ≡ length (with_asked x op (IsOut None)).slots)
      → slice_get (x.asked ++ op ∷ []) (length x.slots) ≡ Some op
      → WasDone op v (flight_at t at (with_asked x op (Heard v)) ∷ rest) entries images
  done_if false at x op v entries images rest many deed single h full of_round asks longer asked =
      done_within at x op v entries images rest deed h many full of_round asks longer asked
  done_if true at x op v entries images rest one deed single h full of_round asks longer asked =
      subst
      (λ (y : Frame). Goes t sizes f before (flying_now s (flight_at t at y ∷ rest))
      → WasDone op v (flight_at t at (with_asked y op (Heard v)) ∷ rest) entries images)
      (single_asks t x op one full asks) (done_itself at op v entries images rest deed single) h

  pub was_done : (at : List ℕ) (x : Frame) (op : Task) (v : Value) (entries : List Choice) (images : Images)
      (rest : List Flight) → IsDeed op v entries images → is_single op ≡ true
      → Goes t sizes f before (flying_now s (flight_at t at x ∷ rest)) → length x.asked ≡ length x.slots
      → IsFrameOf t f s.entries x → AsksNext t x op
      → (length (with_asked x op (IsOut None)).asked ≡ length (with_asked x op (IsOut None)).slots)
      → slice_get (x.asked ++ op ∷ []) (length x.slots) ≡ Some op
      → WasDone op v (flight_at t at (with_asked x op (Heard v)) ∷ rest) entries images
  was_done at x op v entries images rest deed single h full of_round asks longer asked =
      done_if (is_single x.op) at x op v entries images rest refl deed single h full of_round asks longer asked
