-- A round begins, one of its trees settles, and once no node is left the round is settled.
use Rattle.std.proofs.Common.{◌≡◌, ℕ, suc, ◌+◌, List, [], ◌∷◌, ◌++◌, length, slice_get, slice_set, Option, Some, None, IfSome, inl, inr, IsPermutation, refl, sym, ap, ◌∙◌, subst, arith, append-nil, append_assoc, length-append}
use Rattle.std.specs.List.{AllByRecursion, flat_map}
use Rattle.std.proofs.lemmas.Grind.{flat_map-append}
use Rattle.std.proofs.lemmas.List.{length-set}
use Rattle.std.proofs.lemmas.List.Sorted.{IsPermutation-refl, IsPermutation-sym, IsPermutation-to_front}
use Rattle.zio_types.specs.Choices.{Choice}
use Rattle.zio_blkptr.specs.declared.pointer.Bp.{Bp}
use Rattle.zio_cksum.specs.Images.{Images}
use Rattle.zio_gang.specs.Attempts.{Terms}
use Rattle.zio_gang.specs.Journals.{AreChoicesOf, choices_in}
use Rattle.zio_gang.specs.Trees.{sizes_of}
use Rattle.zio_trace.specs.Calls.{answered_at}
use Rattle.zio_trace.specs.Entries.{IsSettledByEntries}
use Rattle.zio_trace.specs.Families.{Forest}
use Rattle.zio_trace.specs.Going.{nth_asked}
use Rattle.zio_trace.specs.Labels.{Labelled, labelled}
use Rattle.zio_trace.specs.Leaves.{HaveSizes}
use Rattle.zio_trace.specs.Oracles.{Oracle}
use Rattle.zio_trace.specs.Programs.{Ends, Program}
use Rattle.zio_trace.specs.RoundRules.{task_ways}
use Rattle.zio_trace.specs.Rounds.{settles}
use Rattle.zio_trace.specs.SoundRounds.{IsSoundRound, work_of}
use Rattle.zio_trace.specs.Tasks.{Task, Value}
use Rattle.zio_trace.specs.Together.{round_of}
use Rattle.zio_trace.specs.Underway.{AreAnswered, Call, Flight, IsUnderway, State, WasHandedOut, Work, after_task, at_start, call_of, flight_of, flying_now, part_of, plan_each, root_out}
use Rattle.zio_trace.specs.Views.{nth, without}
use Rattle.zio_trace.proofs.SoundRoundLemmas.{round_sound}
use Rattle.zio_trace.proofs.UnderwayHears.{work_task_ends}
use Rattle.zio_trace.proofs.UnderwayOut.{work_begins, work_next, work_permuted}
use Rattle.zio_trace.proofs.WentOn.{went_on_by_journal, went_on_settled}
use Rattle.zio_frames.specs.Frames.{Child, Flying, Frame, flight_at, flights_of, fresh_frame, fresh_stack, left_of, outs_from}
use Rattle.zio_frames.specs.OfRound.{IsOfRound, IsTaskOf}
use Rattle.zio_frames.specs.Running.{IsRunning, Later, all_heard, all_out, settling_from}
use Rattle.zio_frames.specs.Slots.{Heard, IsOut, Slot, outs_before}
use Rattle.zio_frames.proofs.FrameLemmas.{flight_begins, rest_ends}
use Rattle.zio_frames.proofs.LinkedPlaces.{IsCalled, all_nth, first_is_called}
use Rattle.zio_frames.proofs.Moved.{Goes, in_flight}
use Rattle.zio_frames.proofs.MoveItself.{flying}
use Rattle.zio_frames.proofs.OfRoundLemmas.{settle_of_round}
use Rattle.zio_frames.proofs.OutLemmas.{out_at, out_gone, out_of, out_there, outs_more}
use Rattle.zio_frames.proofs.RoundFrames.{fresh_of_round}
use Rattle.zio_frames.proofs.SlotMoves.{slots_heard}
use Rattle.zio_frames.proofs.TreeLemmas.{CallsBelow, all_out_more, each_asked, each_heard, flights_below, none_answered, out_from, out_length, outs_length, seated_settling, settling_more}

-- ---- a tree settles

-- no part of a part stands in the place of a tree
too_deep : (first n m : ℕ) (below : List ℕ) → (first ∷ below) ++ m ∷ [] ≡ n ∷ [] → ⊥
too_deep first n m [] e = cc
too_deep first n m (k ∷ below) e = cc

-- the tree in that place is out
pub record IsTreeOut (tasks : List Task) (trees : List Slot) (n : ℕ) (op : Labelled Task) : Type 0 where
  pub task : Task
  pub told : Option (Option Bp)
  pub asked : slice_get tasks n ≡ Some task
  pub out : slice_get trees n ≡ Some (IsOut told)
  pub is : (out_of [] (0 + n) task told).op ≡ op

tree_out : (tasks : List Task) (trees : List Slot) (x : Flight) (flights : List Flight) (next n : ℕ) (outs : List Call)
    → outs ≡ outs_from [] 0 tasks trees → AllByRecursion CallsBelow flights
    → AllByRecursion (λ (q : Flight). WasHandedOut next q.op.at) flights → x.op.at ≡ n ∷ [] → IsCalled flights outs x.op
    → IsTreeOut tasks trees n x.op
tree_out tasks trees x flights next n outs e below handed at (inl (k, q, there, (m, c, out, is))) =
    let l = all_nth CallsBelow k flights q below there m c out in
    let g = all_nth (λ (y : Flight). WasHandedOut next y.op.at) k flights q handed there in
    absurd
    (too_deep g.0 n l.0 g.1 (ap (λ (p : List ℕ). p ++ l.0 ∷ []) (sym g.2) ∙ sym l.1 ∙ ap (λ (o : Labelled Task). o.at) is ∙ at))
tree_out tasks trees x flights next n outs e below handed at (inr (k, c, out, is)) =
    let h = out_from [] 0 k tasks trees c (ap (λ (cs : List Call). nth k cs) (sym e) ∙ out) in
    let place : (0 + h.0) ∷ [] ≡ n ∷ [] = ap (λ (d : Call). d.op.at) (sym h.5) ∙ ap (λ (o : Labelled Task). o.at) is ∙ at in
    let first : 0 + h.0 ≡ n = cc in
    let number : h.0 ≡ n = omega arith in
    record {
      task = h.1;
      told = h.2;
      asked = subst (λ i. slice_get tasks i ≡ Some h.1) number h.3;
      out = subst (λ i. slice_get trees i ≡ Some (IsOut h.2)) number h.4;
      is = ap (λ i. part_of [] (0 + i) h.1) (sym number) ∙ ap (λ (d : Call). d.op) (sym h.5) ∙ is;
    }

module _ (t : Terms) (sizes : ℕ → ℕ) (f : Forest) (before : Option Images) where
  abbrev work : Work
  work = work_of t sizes f

  abbrev whole : Program (Labelled Task) Value (List Value)
  whole = labelled [] 0 (plan_each (settles f))

  pub settle_node : (trees : List Slot) (others : List Flying) (s : State) (at : List ℕ) (o : Frame) (cs : List Child) (n : ℕ)
      (v : Value) → IsRunning t sizes f before trees (flying at o None cs ∷ others) s
      → left_of t o ≡ Ends v → at ≡ n ∷ [] → Later t sizes f before (slice_set trees n (Heard v)) others s.entries s.images
  settle_node trees others s at o cs n v r left is =
      let tasks : List Task = settles f in
      let X : Flight = flight_at t at o in
      let rest : List Flight = flat_map (flights_of t) others in
      let k : ℕ = outs_before n trees in
      let h : Goes t sizes f before (flying_now s (X ∷ rest)) =
      in_flight t sizes f before trees (flying at o None cs ∷ others) s (X ∷ rest) r (IsPermutation-refl (X ∷ rest)) in
      let out : IsTreeOut tasks trees n X.op =
      tree_out tasks trees X (X ∷ rest) s.next n s.outs r.outs (flights_below t (flying at o None cs ∷ others)) h.flown_below is
      (first_is_called X rest s.outs h.linked) in
      let c : Call = out_of [] (0 + n) out.task out.told in
      let there : nth k s.outs ≡ Some c =
      ap (λ (l : List Call). nth k l) r.outs ∙ out_there [] 0 n tasks trees out.task out.told out.asked out.out in
      let after : IsUnderway work before (after_task s rest k v) =
      work_task_ends work before s X rest k c v h (rest_ends t at o v left) there out.is in
      let none = out_at n trees out.told out.out in
      record {
        state = after_task s rest k v;
        running = record {
          underway = after;
          flights = refl;
          root = ap (answered_at k v) r.root ∙ slots_heard n v trees whole none;
          outs = ap (without k) r.outs ∙ out_gone [] 0 n tasks trees v none;
          next = r.next;
          each_tree = length-set trees n (Heard v) ∙ r.each_tree;
          seated = r.seated.1;
          of_round = r.of_round.1;
        };
        entries_are = refl;
        images_are = refl;
      }

  -- ---- the round begins

  -- the first tasks are handed out
  pub record Begun (images : Images) (done : List Task) : Type 0 where
    pub state : State
    pub underway : IsUnderway work before state
    pub flights_are : state.flights ≡ flat_map (flights_of t) (settling_from 0 done)
    pub root : state.root ≡ whole
    pub outs : state.outs ≡ outs_from [] 0 done (all_out done)
    pub next : state.next ≡ length done
    pub entries_are : state.entries ≡ []
    pub images_are : state.images ≡ images

  none_begun : (images : Images) → IfSome before (λ (b : Images). b ≡ images) → Begun images []
  none_begun images is = record {
    state = at_start work images;
    underway = work_begins work before images is;
    flights_are = refl;
    root = refl;
    outs = refl;
    next = refl;
    entries_are = refl;
    images_are = refl;
  }

  one_begun : (images : Images) (done rest : List Task) (q : Task) → IsSoundRound t sizes f → done ++ q ∷ rest ≡ settles f
      → Begun images done → Begun images (done ++ q ∷ [])
  one_begun images done rest q sound all b =
      let s : State = b.state in
      let fs : List Flight = flat_map (flights_of t) (settling_from 0 done) in
      let new : Flight = flight_at t (length done ∷ []) (fresh_frame q) in
      let later : List Flight = flat_map (flights_of t) (settling_from 0 (done ++ q ∷ [])) in
      let count : length s.outs ≡ length done = ap length b.outs ∙ outs_length 0 done in
      let asked :
      (o : Oracle (Labelled Task) Value) → (y : Labelled Task) × (nth_asked o (length s.outs) s.root ≡ Some y) × (y.op ≡ q) =
      λ o.
      let k = each_asked o [] 0 done q rest in (
        k.0,
        (λ i. nth_asked o (count i) (b.root i))
            ∙ ap (λ (tasks : List Task). nth_asked o (length done) (labelled [] 0 (plan_each tasks))) (sym all) ∙ k.1,
        k.2,
      ) in
      let out : IsUnderway work before (root_out work s q) =
      work_next work before s q (round_sound t sizes f sound) b.underway (λ o is agrees. asked o) in
      let first : flight_of t (part_of [] s.next q) ≡ new =
      ap (λ n. flight_of t (part_of [] n q)) b.next ∙ flight_begins t (length done ∷ []) q in
      let number : 0 + length done ≡ length done = omega arith in
      let split : later ≡ fs ++ new ∷ [] =
      ap (flat_map (flights_of t)) (settling_more 0 done q)
      ∙ flat_map-append (flights_of t) (settling_from 0 done)
      (record { at = (0 + length done) ∷ []; stack = fresh_stack q } ∷ [])
      ∙ ap (λ n. fs ++ flight_at t (n ∷ []) (fresh_frame q) ∷ []) number in
      let now : flight_of t (part_of [] s.next q) ∷ s.flights ≡ new ∷ fs = λ i. first i ∷ b.flights_are i in
      let p : IsPermutation (flight_of t (part_of [] s.next q) ∷ s.flights) later =
      subst (λ (l : List Flight). IsPermutation l later) (sym now)
      (subst (λ (l : List Flight). IsPermutation (new ∷ fs) l) (sym split)
      (IsPermutation-sym (fs ++ new ∷ []) (new ∷ fs) (IsPermutation-to_front fs new))) in
      let more : all_out (done ++ q ∷ []) ≡ all_out done ++ IsOut None ∷ [] = all_out_more done q in
      let long : 0 + length (all_out done) ≡ s.next =
      let l : length done ≡ length (all_out done) = out_length done in let e : s.next ≡ length done = b.next in omega arith in
      record {
        state = flying_now (root_out work s q) later;
        underway = work_permuted work before (root_out work s q) later out p;
        flights_are = refl;
        root = b.root;
        outs =
            (λ i. b.outs i ++ call_of [] (sym long i) q ∷ []) ∙ sym (outs_more [] 0 done (all_out done) q (out_length done))
            ∙ ap (outs_from [] 0 (done ++ q ∷ [])) (sym more);
        next = ap suc b.next ∙ longer (length done) (length-append done (q ∷ []));
        entries_are = b.entries_are;
        images_are = b.images_are;
      }
    where
      longer : (n : ℕ) → length (done ++ q ∷ []) ≡ n + 1 → suc n ≡ length (done ++ q ∷ [])
      longer n e = omega arith

  all_begun : (images : Images) (done rest : List Task) → IsSoundRound t sizes f → done ++ rest ≡ settles f → Begun images done
      → Begun images (settles f)
  all_begun images done [] sound all b = subst (Begun images) (sym (append-nil done) ∙ all) b
  all_begun images done (q ∷ rest) sound all b =
      all_begun images (done ++ q ∷ []) rest sound (append_assoc done (q ∷ []) rest ∙ all)
      (one_begun images done rest q sound all b)

  of_round_from : (n : ℕ) (entries : List Choice) (tasks : List Task) → AllByRecursion (IsTaskOf t f entries) tasks
      → AllByRecursion (λ (x : Flying). IsOfRound t f entries x.stack) (settling_from n tasks)
  of_round_from n entries [] h = tt
  of_round_from n entries (q ∷ tasks) h =
      (record { outer = fresh_of_round t f entries q h.0; inner = tt }, of_round_from (suc n) entries tasks h.1)

  pub round_begins : (images : Images) → IsSoundRound t sizes f → IfSome before (λ (b : Images). b ≡ images)
      → Later t sizes f before (all_out (settles f)) (settling_from 0 (settles f)) [] images
  round_begins images sound is =
      let b : Begun images (settles f) = all_begun images [] (settles f) sound refl (none_begun images is) in
      record {
        state = b.state;
        running = record {
          underway = b.underway;
          flights = b.flights_are;
          root = b.root ∙ sym (none_answered (settles f) whole);
          outs = b.outs;
          next = b.next;
          each_tree = sym (out_length (settles f));
          seated = seated_settling 0 (settles f);
          of_round = of_round_from 0 b.state.entries (settles f) (settle_of_round t sizes f b.state.entries sound);
        };
        entries_are = b.entries_are;
        images_are = b.images_are;
      }

-- ---- the round ends

pub round_ends : (t : Terms) (sizes : ℕ → ℕ) (f : Forest) (before : Images) (journal : List Choice) (values : List Value)
    (s : State) → IsSoundRound t sizes f → HaveSizes sizes before → IsRunning t sizes f (Some before) (all_heard values) [] s
    → choices_in t.round journal ≡ s.entries
    → (settled : IsSettledByEntries journal t f s.entries (round_of values) before s.images)
    × AreChoicesOf (sizes_of t.setting.tops) t.used settled.asks s.entries
round_ends t sizes f before journal values s sound have r of_round =
    went_on_settled t sizes f journal before s values sound have r.underway r.flights
    (r.root ∙ each_heard [] 0 (settles f) values r.each_tree) of_round

pub round_answered : (t : Terms) (sizes : ℕ → ℕ) (f : Forest) (before : Option Images) (journal : List Choice)
    (values : List Value) (s : State) → IsRunning t sizes f before (all_heard values) [] s
    → choices_in t.round journal ≡ s.entries → AreAnswered (task_ways journal t) (settles f) s.deeds values
round_answered t sizes f before journal values s r of_round =
    went_on_by_journal (work_of t sizes f) before s journal values r.underway r.flights
    (r.root ∙ each_heard [] 0 (settles f) values r.each_tree) of_round
