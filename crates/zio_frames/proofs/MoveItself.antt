-- A node does something itself, or hands its next operation to a child, and the round goes on.
use Rattle.std.proofs.Common.{◌≡◌, ℕ, List, [], ◌∷◌, ◌++◌, length, true, false, Option, Some, None, refl, subst, append_assoc}
use Rattle.std.specs.List.{flat_map}
use Rattle.std.proofs.lemmas.List.Sorted.{IsPermutation-cons, IsPermutation-refl}
use Rattle.zio_types.specs.Choices.{Choice}
use Rattle.zio_types.specs.Places.{are_open}
use Rattle.zio_cksum.specs.Images.{Images}
use Rattle.zio_cksum.proofs.AllLemmas.{all_weaker}
use Rattle.zio_gang.specs.declared.tree.Tree.{Tree}
use Rattle.zio_gang.specs.Attempts.{Terms}
use Rattle.zio_gang.specs.Journals.{AreLawful, HaveDistinctKeys, asks_of}
use Rattle.zio_gang.specs.Trees.{sizes_of, tree_places}
use Rattle.zio_trace.specs.Conflicts.{is_single}
use Rattle.zio_trace.specs.Entries.{AnswersOnLeaf, answer_to}
use Rattle.zio_trace.specs.Families.{Forest}
use Rattle.zio_trace.specs.Leaves.{Answer, LeafOp}
use Rattle.zio_trace.specs.SoundRounds.{IsSoundRound, work_of}
use Rattle.zio_trace.specs.Tasks.{Find, Got, Leaf, TakePlaces, Taken, Task, Value}
use Rattle.zio_trace.specs.Underway.{Flight, State, flying_now}
use Rattle.zio_trace.proofs.SoundRoundLemmas.{round_sound}
use Rattle.zio_trace.proofs.UnderwayDone.{work_finds, work_on_leaf, work_takes}
use Rattle.zio_frames.specs.Frames.{Child, Flying, Frame, Inner, Stack, asking, flight_at, flights_of, fresh_frame, fresh_stack, place_of, with_asked}
use Rattle.zio_frames.specs.Moves.{AsksNext, done_at_once, handed, next_seat, opened}
use Rattle.zio_frames.specs.OfRound.{FitsWhichever, IsOfRound}
use Rattle.zio_frames.specs.Running.{IsRunning, Later}
use Rattle.zio_frames.specs.Seats.{IsSeated}
use Rattle.zio_frames.specs.Slots.{Heard, IsOut, Slot}
use Rattle.zio_frames.proofs.Moved.{Goes, Moved, goes_on, in_flight, moved_now}
use Rattle.zio_frames.proofs.MoveOut.{IsDeed, WasDone, handed_out, was_done}
use Rattle.zio_frames.proofs.OfRoundLemmas.{part_of_round}
use Rattle.zio_frames.proofs.PermLemmas.{swap_two}
use Rattle.zio_frames.proofs.RoundFrames.{asked_of_round, fits_of_any, fresh_of_round, more_entries}
use Rattle.zio_frames.proofs.SeatChildren.{seated_handed}
use Rattle.zio_frames.proofs.SeatLemmas.{seated_begins, seated_done, seated_opened}
use Rattle.zio_frames.proofs.SeatMoves.{asked_last, full_more, node}
use Rattle.zio_frames.proofs.SingleLemmas.{asks_whole, single_kind, single_left}

-- the node in that place
abbrev pub flying : List ℕ → Frame → Option Inner → List Child → Flying
flying at o inner cs = record { at = at; stack = node o inner cs }

module _ (t : Terms) (sizes : ℕ → ℕ) (f : Forest) (before : Option Images) (trees : List Slot) (others : List Flying) (s : State)
    (sound : IsSoundRound t sizes f) where
  abbrev pub Runs : List Flying → Type 0
  Runs nodes = IsRunning t sizes f before trees nodes s

  abbrev pub rest : List Flight
  rest = flat_map (flights_of t) others

  -- ---- a part within begins

  pub open_node : (at : List ℕ) (o : Frame) (cs : List Child) (op : Task) → Runs (flying at o None cs ∷ others)
      → is_single op ≡ false → AsksNext t o op
      → Later t sizes f before trees (record { at = at; stack = opened (node o None cs) op } ∷ others) s.entries s.images
  open_node at o cs op r many asks =
      let seated : IsSeated (node o None cs) = r.seated.0 in
      let of_round : IsOfRound t f s.entries (node o None cs) = r.of_round.0 in
      let full : length o.asked ≡ length o.slots = seated.outer.lengths in
      let F : Flight = flight_at t at o in
      let new : Flight = flight_at t (at ++ length o.slots ∷ []) (fresh_frame op) in
      let out : Flight = flight_at t at (with_asked o op (IsOut None)) in
      let h : Goes t sizes f before (flying_now s (F ∷ rest)) =
      in_flight t sizes f before trees (flying at o None cs ∷ others) s (F ∷ rest) r (IsPermutation-refl (F ∷ rest)) in
      goes_on t sizes f before trees (flying at o None cs ∷ others)
      (record { at = at; stack = opened (node o None cs) op } ∷ others) s (new ∷ out ∷ rest) s.entries s.images r
      (moved_now t sizes f before s (new ∷ out ∷ rest)
      (handed_out t sizes f before s sound at o op rest h (asks_whole t o op full asks many) full of_round.outer asks))
      (swap_two new out rest)
      (seated_opened o op cs seated, r.seated.1) (
        record {
          outer = asked_of_round t f s.entries o op (IsOut None) of_round.outer full asks tt;
          inner = fresh_of_round t f s.entries op (part_of_round t sizes f s.entries o op sound of_round.outer full asks);
        },
        r.of_round.1,
      )

  -- ---- a single operation is done

  pub done_node : (at : List ℕ) (o : Frame) (cs : List Child) (op : Task) (v : Value) (entries : List Choice) (images : Images)
      → is_single op ≡ true → IsDeed t sizes f before s sound op v entries images
      → ((st : Stack) → IsOfRound t f s.entries st → IsOfRound t f entries st) → Runs (flying at o None cs ∷ others)
      → AsksNext t o op
      → Later t sizes f before trees (record { at = at; stack = done_at_once (node o None cs) op v } ∷ others) entries images
  done_node at o cs op v entries images single deed still r asks =
      let seated : IsSeated (node o None cs) = r.seated.0 in
      let of_round : IsOfRound t f s.entries (node o None cs) = r.of_round.0 in
      let full : length o.asked ≡ length o.slots = seated.outer.lengths in
      let F : Flight = flight_at t at o in
      let later : Flight = flight_at t at (with_asked o op (Heard v)) in
      let h : Goes t sizes f before (flying_now s (F ∷ rest)) =
      in_flight t sizes f before trees (flying at o None cs ∷ others) s (F ∷ rest) r (IsPermutation-refl (F ∷ rest)) in
      let did : WasDone t sizes f before s sound op v (later ∷ rest) entries images =
      was_done t sizes f before s sound at o op v entries images rest deed single h full of_round.outer asks
      (full_more o op (IsOut None) seated.outer).lengths (asked_last o op (IsOut None) seated.outer) in
      let m : Moved t sizes f before s (later ∷ rest) entries images = did.0 in
      let lawful : AreLawful (sizes_of t.setting.tops) t.used entries =
      subst (λ (cs : List Choice). AreLawful (sizes_of t.setting.tops) t.used cs) m.entries_are m.underway.lawful in
      let fits : FitsWhichever t entries op v =
      fits_of_any t entries op v lawful
      (subst (λ (cs : List Choice). HaveDistinctKeys (asks_of cs)) m.entries_are m.underway.distinct) did.1
      (single_left op single v) (single_kind op single v) in
      goes_on t sizes f before trees (flying at o None cs ∷ others)
      (record { at = at; stack = done_at_once (node o None cs) op v } ∷ others) s (later ∷ rest) entries images r m
      (IsPermutation-refl (later ∷ rest))
      (seated_done o op v cs seated, r.seated.1) (
        record {
          outer = asked_of_round t f entries o op (Heard v)
              (still (node o None cs) of_round).outer full asks fits;
          inner = tt;
        },
        all_weaker (λ (x : Flying). IsOfRound t f s.entries x.stack) (λ (x : Flying). IsOfRound t f entries x.stack) others
            (λ x k. still x.stack k) r.of_round.1,
      )

  pub choose_node : (at : List ℕ) (o : Frame) (cs : List Child) (c : Choice) → Runs (flying at o None cs ∷ others)
      → AsksNext t o (Find c.asked)
      → AreLawful (sizes_of t.setting.tops) t.used (s.entries ++ c ∷ [])
      → Later t sizes f before trees
      (record { at = at; stack = done_at_once (node o None cs) (Find c.asked) (answer_to c) } ∷ others)
      (s.entries ++ c ∷ []) s.images
  choose_node at o cs c r asks lawful =
      done_node at o cs (Find c.asked) (answer_to c) (s.entries ++ c ∷ []) s.images refl
      (λ x fs h is fresh. work_finds (work_of t sizes f) before s x fs c.asked c
      (round_sound t sizes f sound) h is fresh refl lawful)
      (λ st k. more_entries t f s.entries c st k) r asks

  pub take_node : (at : List ℕ) (o : Frame) (cs : List Child) (tree : Tree) → Runs (flying at o None cs ∷ others)
      → AsksNext t o (TakePlaces tree)
      → Later t sizes f before trees
      (record {
        at = at;
        stack = done_at_once (node o None cs) (TakePlaces tree)
            (Taken (are_open t.used (tree_places tree)));
      } ∷ others) s.entries s.images
  take_node at o cs tree r asks =
      done_node at o cs (TakePlaces tree) (Taken (are_open t.used (tree_places tree))) s.entries s.images refl
      (λ x fs h is fresh. work_takes (work_of t sizes f) before s x fs tree (round_sound t sizes f sound) h is fresh)
      (λ st k. k) r asks

  pub leaf_node : (at : List ℕ) (act : LeafOp) (a : Answer) (after : Images)
      → Runs (record { at = at; stack = fresh_stack (Leaf act) } ∷ others) → AnswersOnLeaf t before act s.images a after
      → Later t sizes f before trees
      (record { at = at; stack = done_at_once (fresh_stack (Leaf act)) (Leaf act) (Got a) } ∷ others) s.entries after
  leaf_node at act a after r answers =
      done_node at (fresh_frame (Leaf act)) [] (Leaf act) (Got a) s.entries after refl
      (λ x fs h is fresh. work_on_leaf (work_of t sizes f) before s x fs act a after
      (round_sound t sizes f sound) h is fresh answers)
      (λ st k. k) r (record { next = refl; beside = tt })

  -- ---- an operation is handed to a child

  hand_outer : (at : List ℕ) (o : Frame) (cs : List Child) (op : Task) → Runs (flying at o None cs ∷ others)
      → is_single o.op ≡ false → AsksNext t o op
      → Later t sizes f before trees
      (record {
        at = place_of (flying at o None cs)
            (next_seat (node o None cs));
        stack =
            fresh_stack op;
      } ∷ record { at = at; stack = handed (node o None cs) op } ∷ others) s.entries s.images
  hand_outer at o cs op r many asks =
      let seated : IsSeated (node o None cs) = r.seated.0 in
      let of_round : IsOfRound t f s.entries (node o None cs) = r.of_round.0 in
      let full : length o.asked ≡ length o.slots = seated.outer.lengths in
      let F : Flight = flight_at t at o in
      let new : Flight = flight_at t (at ++ length o.slots ∷ []) (fresh_frame op) in
      let out : Flight = flight_at t at (with_asked o op (IsOut None)) in
      let h : Goes t sizes f before (flying_now s (F ∷ rest)) =
      in_flight t sizes f before trees (flying at o None cs ∷ others) s (F ∷ rest) r (IsPermutation-refl (F ∷ rest)) in
      goes_on t sizes f before trees (flying at o None cs ∷ others)
      (record { at = at ++ length o.slots ∷ []; stack = fresh_stack op } ∷ record {
        at = at;
        stack = handed
            (node o None cs) op;
      } ∷ others) s (new ∷ out ∷ rest) s.entries s.images r
      (moved_now t sizes f before s (new ∷ out ∷ rest)
      (handed_out t sizes f before s sound at o op rest h many full of_round.outer asks))
      (IsPermutation-refl (new ∷ out ∷ rest))
      (seated_begins op, (seated_handed o None cs op seated, r.seated.1)) (
        record {
          outer = fresh_of_round t f s.entries op
              (part_of_round t sizes f s.entries o op sound of_round.outer full asks);
          inner = tt;
        },
        (
          record {
            outer = asked_of_round t f s.entries o op
                (IsOut None) of_round.outer full asks tt;
            inner = tt;
          },
          r.of_round.1,
        ),
      )

  hand_inner : (at : List ℕ) (o : Frame) (i : Inner) (cs : List Child) (op : Task) → Runs (flying at o (Some i) cs ∷ others)
      → is_single i.frame.op ≡ false → AsksNext t i.frame op
      → Later t sizes f before trees
      (record {
        at = place_of (flying at o (Some i) cs)
            (next_seat (node o (Some i) cs));
        stack =
            fresh_stack op;
      } ∷ record { at = at; stack = handed (node o (Some i) cs) op } ∷ others) s.entries s.images
  hand_inner at o i cs op r many asks =
      let seated : IsSeated (node o (Some i) cs) = r.seated.0 in
      let of_round : IsOfRound t f s.entries (node o (Some i) cs) = r.of_round.0 in
      let x : Frame = i.frame in
      let full : length x.asked ≡ length x.slots = seated.inner.0.lengths in
      let within : List ℕ = at ++ i.number ∷ [] in
      let O : Flight = flight_at t at o in
      let F : Flight = flight_at t within x in
      let new : Flight = flight_at t (within ++ length x.slots ∷ []) (fresh_frame op) in
      let there : Flight = flight_at t (at ++ i.number ∷ length x.slots ∷ []) (fresh_frame op) in
      let out : Flight = flight_at t within (with_asked x op (IsOut None)) in
      let h : Goes t sizes f before (flying_now s (F ∷ O ∷ rest)) =
      in_flight t sizes f before trees (flying at o (Some i) cs ∷ others) s (F ∷ O ∷ rest) r (swap_two O F rest) in
      let place : within ++ length x.slots ∷ [] ≡ at ++ i.number ∷ length x.slots ∷ [] =
      append_assoc at (i.number ∷ []) (length x.slots ∷ []) in
      let handed_there : Goes t sizes f before (flying_now s (there ∷ out ∷ O ∷ rest)) =
      subst (λ (p : List ℕ). Goes t sizes f before (flying_now s (flight_at t p (fresh_frame op) ∷ out ∷ O ∷ rest))) place
      (handed_out t sizes f before s sound within x op (O ∷ rest) h many full of_round.inner asks) in
      goes_on t sizes f before trees (flying at o (Some i) cs ∷ others)
      (record { at = at ++ i.number ∷ length x.slots ∷ []; stack = fresh_stack op } ∷ record {
        at = at;
        stack = handed
            (node o (Some i) cs) op;
      } ∷ others) s (there ∷ out ∷ O ∷ rest) s.entries s.images r
      (moved_now t sizes f before s (there ∷ out ∷ O ∷ rest) handed_there)
      (IsPermutation-cons there (out ∷ O ∷ rest) (O ∷ out ∷ rest) (swap_two out O rest))
      (seated_begins op, (seated_handed o (Some i) cs op seated, r.seated.1)) (
        record {
          outer = fresh_of_round t f s.entries op
              (part_of_round t sizes f s.entries x op sound of_round.inner full asks);
          inner = tt;
        },
        (
          record {
            outer = of_round.outer;
            inner = asked_of_round t f s.entries x op
                (IsOut None) of_round.inner full asks tt;
          },
          r.of_round.1,
        ),
      )

  pub hand_node : (at : List ℕ) (o : Frame) (inner : Option Inner) (cs : List Child) (op : Task)
      → Runs (flying at o inner cs ∷ others) → is_single (asking (node o inner cs)).op ≡ false
      → AsksNext t (asking (node o inner cs)) op
      → Later t sizes f before trees
      (record {
        at = place_of (flying at o inner cs)
            (next_seat (node o inner cs));
        stack =
            fresh_stack op;
      } ∷ record { at = at; stack = handed (node o inner cs) op } ∷ others) s.entries s.images
  hand_node at o None cs op r many asks = hand_outer at o cs op r many asks
  hand_node at o (Some i) cs op r many asks = hand_inner at o i cs op r many asks
