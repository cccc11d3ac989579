-- A part within ends, a child tells its pointer, and a child ends: the node hears it, and the round goes on.
use Rattle.std.proofs.Common.{◌≡◌, ℕ, List, [], ◌∷◌, ◌++◌, length, slice_get, slice_set, false, Option, Some, None, refl, sym, ◌∙◌, subst, append_assoc}
use Rattle.std.specs.List.{flat_map}
use Rattle.std.proofs.lemmas.List.Sorted.{IsPermutation-cons, IsPermutation-middle, IsPermutation-refl, IsPermutation-sym}
use Rattle.zio_types.specs.Choices.{Choice}
use Rattle.zio_blkptr.specs.declared.pointer.Bp.{Bp}
use Rattle.zio_cksum.specs.Images.{Images}
use Rattle.zio_gang.specs.Attempts.{Terms}
use Rattle.zio_trace.specs.Calls.{FitsEarly}
use Rattle.zio_trace.specs.Families.{Forest}
use Rattle.zio_trace.specs.Programs.{Ends}
use Rattle.zio_trace.specs.Tasks.{Task, Value}
use Rattle.zio_trace.specs.Underway.{Flight, State, early, flying_now}
use Rattle.zio_frames.specs.Frames.{Child, Flying, Frame, Inner, OfInner, OfOuter, Seat, flight_at, flights_of, inner_flights, left_of, place_in, with_slot}
use Rattle.zio_frames.specs.Moves.{WillHave, child_ended, child_told, closed, heard_early, heard_of, set_at, with_children}
use Rattle.zio_frames.specs.OfRound.{FitsWhichever, IsFrameOf, IsOfRound}
use Rattle.zio_frames.specs.Running.{FitsSlot, FitsTold, IsRunning, Later}
use Rattle.zio_frames.specs.Seats.{IsSeated, asked_at, slot_at}
use Rattle.zio_frames.specs.Slots.{AllHeard, Heard, IsOut, Slot}
use Rattle.zio_frames.proofs.Moved.{Goes, Moved, goes_on, in_flight, moved_now, moved_permuted}
use Rattle.zio_frames.proofs.MoveHears.{HeardOut, heard_out, told_out}
use Rattle.zio_frames.proofs.MoveItself.{flying}
use Rattle.zio_frames.proofs.PermLemmas.{dig, swap_two}
use Rattle.zio_frames.proofs.RoundFrames.{heard_of_round, told_of_round}
use Rattle.zio_frames.proofs.SeatChildren.{seated_closed}
use Rattle.zio_frames.proofs.SeatHears.{seat_of, seated_heard, seated_told, told_nothing}
use Rattle.zio_frames.proofs.SeatMoves.{node}

-- ---- the round's parts where one was heard

pub set_of_round : (t : Terms) (f : Forest) (entries : List Choice) (o : Frame) (inner : Option Inner) (cs ds : List Child)
    (seat : Seat) (slot old : Slot) (op : Task) → IsOfRound t f entries (node o inner cs)
    → slot_at (node o inner cs) seat ≡ Some old → asked_at (node o inner cs) seat ≡ Some op
    → ((x : Frame) (n : ℕ) → IsFrameOf t f entries x → slice_get x.slots n ≡ Some old → slice_get x.asked n ≡ Some op
    → IsFrameOf t f entries (with_slot x n slot))
    → IsOfRound t f entries (with_children (set_at (node o inner cs) seat slot) ds)
set_of_round t f entries o inner cs ds (OfOuter n) slot old op h out asked g =
    record { outer = g o n h.outer out asked; inner = h.inner }
set_of_round t f entries o None cs ds (OfInner n) slot old op h out asked g = absurd (cc)
set_of_round t f entries o (Some i) cs ds (OfInner n) slot old op h out asked g =
    record { outer = h.outer; inner = g i.frame n h.inner out asked }

fits_slot : (slot : Option Slot) (told : Option (Option Bp)) (v : Value) → slot ≡ Some (IsOut told) → FitsEarly early told v
    → FitsSlot slot v
fits_slot slot told v e h = subst (λ (x : Option Slot). FitsSlot x v) (sym e) (by told h)
  where
    by : (told : Option (Option Bp)) → FitsEarly early told v → FitsSlot (Some (IsOut told)) v
    by None h = tt
    by (Some pointer) h = h

module _ (t : Terms) (sizes : ℕ → ℕ) (f : Forest) (before : Option Images) (trees : List Slot) (others : List Flying) (s : State) where
  abbrev pub Runs : List Flying → Type 0
  Runs nodes = IsRunning t sizes f before trees nodes s

  abbrev pub rest : List Flight
  rest = flat_map (flights_of t) others

  -- ---- a part within ends

  pub close_node : (at : List ℕ) (o : Frame) (i : Inner) (cs : List Child) (v : Value) → Runs (flying at o (Some i) cs ∷ others)
      → AllHeard i.frame.slots → left_of t i.frame ≡ Ends v
      → Later t sizes f before trees (record { at = at; stack = closed (node o (Some i) cs) i v } ∷ others) s.entries s.images
  close_node at o i cs v r heard left =
      let seated : IsSeated (node o (Some i) cs) = r.seated.0 in
      let of_round : IsOfRound t f s.entries (node o (Some i) cs) = r.of_round.0 in
      let O : Flight = flight_at t at o in
      let I : Flight = flight_at t (at ++ i.number ∷ []) i.frame in
      let later : Flight = flight_at t at (with_slot o i.number (Heard v)) in
      let h : Goes t sizes f before (flying_now s (I ∷ O ∷ rest)) =
      in_flight t sizes f before trees (flying at o (Some i) cs ∷ others) s (I ∷ O ∷ rest) r (swap_two O I rest) in
      let k : HeardOut t sizes f before s at i.frame o i.number i.frame.op None v rest =
      heard_out t sizes f before s
      (at ++ i.number ∷ []) at i.frame o i.number i.frame.op None v rest h left seated.inner.2 seated.inner.1 refl in
      goes_on t sizes f before trees (flying at o (Some i) cs ∷ others)
      (record { at = at; stack = closed (node o (Some i) cs) i v } ∷ others) s (later ∷ rest) s.entries s.images r
      (moved_now t sizes f before s (later ∷ rest) k.flies) (IsPermutation-refl (later ∷ rest))
      (seated_closed o i v cs heard seated, r.seated.1)
      (record { outer = heard_of_round t f s.entries o i.number i.frame.op None v of_round.outer seated.inner.2 seated.inner.1 k.fits k.early; inner = tt }, r.of_round.1)

  -- ---- a child tells its pointer

  told_seat : (xat at : List ℕ) (xo o : Frame) (xi inner : Option Inner) (xs cs ds : List Child) (seat : Seat) (op : Task)
      (told : Option (Option Bp)) (pointer : Option Bp) → length xo.asked ≡ length xo.slots
      → WillHave t xo pointer → slot_at (node o inner cs) seat ≡ Some (IsOut told) → asked_at (node o inner cs) seat ≡ Some op
      → xat ≡ place_in at inner seat → Runs (flying xat xo xi xs ∷ flying at o inner cs ∷ others)
      → Moved t sizes f before s
      (flat_map (flights_of t)
      (flying xat xo xi xs ∷ record {
        at = at;
        stack = with_children
            (set_at (node o inner cs) seat (IsOut (Some pointer))) ds;
      } ∷ others)) s.entries s.images
  told_seat xat at xo o xi inner xs cs ds (OfOuter n) op told pointer full will out asked is r =
      let X : Flight = flight_at t xat xo in
      let Q : Flight = flight_at t at o in
      let within : List Flight = inner_flights t xat xi in
      let behind : List Flight = inner_flights t at inner ++ rest in
      let later : Flight = flight_at t at (with_slot o n (IsOut (Some pointer))) in
      let h : Goes t sizes f before (flying_now s (X ∷ Q ∷ (within ++ behind))) =
      in_flight t sizes f before trees (flying xat xo xi xs ∷ flying at o inner cs ∷ others) s (X ∷ Q ∷ (within ++ behind)) r
      (IsPermutation-cons X (within ++ Q ∷ behind) (Q ∷ (within ++ behind)) (IsPermutation-middle within Q behind)) in
      let k : Goes t sizes f before (flying_now s (X ∷ later ∷ (within ++ behind))) =
      told_out t sizes f before s xat at xo o n op told pointer (within ++ behind) h full will asked out is in
      moved_permuted t sizes f before s (X ∷ later ∷ (within ++ behind)) (X ∷ (within ++ later ∷ behind)) s.entries s.images
      (moved_now t sizes f before s (X ∷ later ∷ (within ++ behind)) k)
      (IsPermutation-cons X (later ∷ (within ++ behind)) (within ++ later ∷ behind)
      (IsPermutation-sym (within ++ later ∷ behind) (later ∷ (within ++ behind)) (IsPermutation-middle within later behind)))
  told_seat xat at xo o xi None xs cs ds (OfInner n) op told pointer full will out asked is r = absurd (cc)
  told_seat xat at xo o xi (Some i) xs cs ds (OfInner n) op told pointer full will out asked is r =
      let X : Flight = flight_at t xat xo in
      let O : Flight = flight_at t at o in
      let Q : Flight = flight_at t (at ++ i.number ∷ []) i.frame in
      let within : List Flight = inner_flights t xat xi in
      let later : Flight = flight_at t (at ++ i.number ∷ []) (with_slot i.frame n (IsOut (Some pointer))) in
      let behind : List Flight = within ++ O ∷ rest in
      let place : xat ≡ (at ++ i.number ∷ []) ++ n ∷ [] = is ∙ sym (append_assoc at (i.number ∷ []) (n ∷ [])) in
      let h : Goes t sizes f before (flying_now s (X ∷ Q ∷ behind)) =
      in_flight t sizes f before trees (flying xat xo xi xs ∷ flying at o (Some i) cs ∷ others) s (X ∷ Q ∷ behind) r
      (IsPermutation-cons X (within ++ O ∷ Q ∷ rest) (Q ∷ behind) (dig within O Q rest)) in
      let k : Goes t sizes f before (flying_now s (X ∷ later ∷ behind)) =
      told_out t sizes f before s xat (at ++ i.number ∷ []) xo i.frame n op told pointer behind h full will asked out place in
      moved_permuted t sizes f before s (X ∷ later ∷ behind) (X ∷ (within ++ O ∷ later ∷ rest)) s.entries s.images
      (moved_now t sizes f before s (X ∷ later ∷ behind) k)
      (IsPermutation-cons X (later ∷ behind) (within ++ O ∷ later ∷ rest)
      (IsPermutation-sym (within ++ O ∷ later ∷ rest) (later ∷ behind) (dig within O later rest)))

  pub tell_node : (xat at : List ℕ) (xo o : Frame) (xi inner : Option Inner) (xs cs : List Child) (n : ℕ) (c : Child)
      (pointer : Option Bp) → Runs (flying xat xo xi xs ∷ flying at o inner cs ∷ others)
      → WillHave t xo pointer → slice_get cs n ≡ Some c → c.told ≡ false → c.ended ≡ false → xat ≡ place_in at inner c.seat
      → Later t sizes f before trees
      (flying xat xo xi xs ∷ record { at = at; stack = heard_early (node o inner cs) n c pointer } ∷ others) s.entries s.images
  tell_node xat at xo o xi inner xs cs n c pointer r will there nothing goes is =
      let seated : IsSeated (node o inner cs) = r.seated.1.0 in
      let of_round : IsOfRound t f s.entries (node o inner cs) = r.of_round.1.0 in
      let here = seat_of o inner cs n c seated there goes in
      let out : slot_at (node o inner cs) c.seat ≡ Some (IsOut None) = told_nothing o inner cs n c seated there nothing goes in
      let ds : List Child = slice_set cs n (child_told c) in
      let later : List Flying =
      flying xat xo xi xs ∷ record { at = at; stack = heard_early (node o inner cs) n c pointer } ∷ others in
      goes_on t sizes f before trees (flying xat xo xi xs ∷ flying at o inner cs ∷ others) later s
      (flat_map (flights_of t) later) s.entries s.images r
      (told_seat xat at xo o xi inner xs cs ds c.seat here.0 None pointer r.seated.0.outer.lengths will out here.2.asked is r)
      (IsPermutation-refl (flat_map (flights_of t) later))
      (r.seated.0, (seated_told o inner cs n c pointer seated there nothing goes, r.seated.1.1)) (
        r.of_round.0,
        (
          set_of_round t f s.entries o inner cs ds c.seat (IsOut (Some pointer)) (IsOut None) here.0 of_round out here.2.asked
              (λ x k h e a. told_of_round t f s.entries x k pointer h e),
          r.of_round.1.1,
        ),
      )

  -- ---- a child ends

  -- it is heard where it sat, as it was told, and its value fits
  pub record HeardSeat (flights : List Flight) (op : Task) (told : Option (Option Bp)) (v : Value) : Type 0 where
    pub moved : Moved t sizes f before s flights s.entries s.images
    pub early : FitsEarly early told v
    pub fits : FitsWhichever t s.entries op v

  heard_seat : (xat at : List ℕ) (xo o : Frame) (inner : Option Inner) (xs cs ds : List Child) (seat : Seat) (op : Task)
      (told : Option (Option Bp)) (v : Value) → left_of t xo ≡ Ends v
      → slot_at (node o inner cs) seat ≡ Some (IsOut told) → asked_at (node o inner cs) seat ≡ Some op
      → xat ≡ place_in at inner seat → Runs (flying xat xo None xs ∷ flying at o inner cs ∷ others)
      → HeardSeat
      (flat_map (flights_of t)
      (record { at = at; stack = with_children (set_at (node o inner cs) seat (Heard v)) ds } ∷ others)) op told v
  heard_seat xat at xo o inner xs cs ds (OfOuter n) op told v left out asked is r =
      let X : Flight = flight_at t xat xo in
      let Q : Flight = flight_at t at o in
      let behind : List Flight = inner_flights t at inner ++ rest in
      let later : Flight = flight_at t at (with_slot o n (Heard v)) in
      let h : Goes t sizes f before (flying_now s (X ∷ Q ∷ behind)) =
      in_flight t sizes f before trees (flying xat xo None xs ∷ flying at o inner cs ∷ others) s (X ∷ Q ∷ behind) r
      (IsPermutation-refl (X ∷ Q ∷ behind)) in
      let k : HeardOut t sizes f before s at xo o n op told v behind =
      heard_out t sizes f before s xat at xo o n op told v behind h left asked out is in
      record { moved = moved_now t sizes f before s (later ∷ behind) k.flies; early = k.early; fits = k.fits }
  heard_seat xat at xo o None xs cs ds (OfInner n) op told v left out asked is r = absurd (cc)
  heard_seat xat at xo o (Some i) xs cs ds (OfInner n) op told v left out asked is r =
      let X : Flight = flight_at t xat xo in
      let O : Flight = flight_at t at o in
      let Q : Flight = flight_at t (at ++ i.number ∷ []) i.frame in
      let later : Flight = flight_at t (at ++ i.number ∷ []) (with_slot i.frame n (Heard v)) in
      let place : xat ≡ (at ++ i.number ∷ []) ++ n ∷ [] = is ∙ sym (append_assoc at (i.number ∷ []) (n ∷ [])) in
      let h : Goes t sizes f before (flying_now s (X ∷ Q ∷ O ∷ rest)) =
      in_flight t sizes f before trees (flying xat xo None xs ∷ flying at o (Some i) cs ∷ others) s (X ∷ Q ∷ O ∷ rest) r
      (IsPermutation-cons X (O ∷ Q ∷ rest) (Q ∷ O ∷ rest) (swap_two O Q rest)) in
      let k : HeardOut t sizes f before s (at ++ i.number ∷ []) xo i.frame n op told v (O ∷ rest) =
      heard_out t sizes f before s xat (at ++ i.number ∷ []) xo i.frame n op told v (O ∷ rest) h left asked out place in
      record {
        moved =
            moved_permuted t sizes f before s (later ∷ O ∷ rest) (O ∷ later ∷ rest) s.entries s.images
            (moved_now t sizes f before s (later ∷ O ∷ rest) k.flies) (swap_two later O rest);
        early = k.early;
        fits = k.fits;
      }

  pub arrive_node : (xat at : List ℕ) (xo o : Frame) (inner : Option Inner) (xs cs : List Child) (n : ℕ) (c : Child) (v : Value)
      → Runs (flying xat xo None xs ∷ flying at o inner cs ∷ others)
      → left_of t xo ≡ Ends v → slice_get cs n ≡ Some c → c.ended ≡ false → xat ≡ place_in at inner c.seat
      → FitsTold (node o inner cs) c v
      × Later t sizes f before trees (record { at = at; stack = heard_of (node o inner cs) n c v } ∷ others) s.entries s.images
  arrive_node xat at xo o inner xs cs n c v r left there goes is =
      let seated : IsSeated (node o inner cs) = r.seated.1.0 in
      let of_round : IsOfRound t f s.entries (node o inner cs) = r.of_round.1.0 in
      let here = seat_of o inner cs n c seated there goes in
      let ds : List Child = slice_set cs n (child_ended c) in
      let later : List Flying = record { at = at; stack = heard_of (node o inner cs) n c v } ∷ others in
      let k : HeardSeat (flat_map (flights_of t) later) here.0 here.1 v =
      heard_seat xat at xo o inner xs cs ds c.seat here.0 here.1 v left here.2.slot here.2.asked is r in (
        fits_slot (slot_at (node o inner cs) c.seat) here.1 v here.2.slot k.early,
        goes_on t sizes f before trees (flying xat xo None xs ∷ flying at o inner cs ∷ others) later s
            (flat_map (flights_of t) later) s.entries s.images r k.moved
            (IsPermutation-refl (flat_map (flights_of t) later))
            (seated_heard o inner cs n c v seated there goes, r.seated.1.1) (
              set_of_round t f s.entries o inner cs ds c.seat (Heard v) (IsOut here.1) here.0 of_round here.2.slot here.2.asked
                  (λ x m h e a. heard_of_round t f s.entries x m here.0 here.1 v h a e k.fits k.early),
              r.of_round.1.1,
            ),
      )
