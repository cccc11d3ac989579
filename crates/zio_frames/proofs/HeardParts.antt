-- What is known of a node that ended, or is at a leaf, before anybody hears of it.
use Rattle.std.proofs.Common.{◌≡◌, ◌≢◌, ℕ, List, [], ◌∷◌, ◌++◌, length, slice_get, Bool, true, false, Option, Some, None, refl, sym, ap, ◌∙◌, subst, append_assoc}
use Rattle.std.specs.List.{flat_map}
use Rattle.std.proofs.lemmas.List.Sorted.{IsPermutation-cons, IsPermutation-middle, IsPermutation-refl}
use Rattle.zio_types.specs.Choices.{Ask, Choice}
use Rattle.zio_blkptr.specs.declared.pointer.Bp.{Bp}
use Rattle.zio_cksum.specs.Images.{Images}
use Rattle.zio_gang.specs.declared.tree.Tree.{Tree}
use Rattle.zio_gang.specs.Attempts.{Terms}
use Rattle.zio_gang.specs.Trees.{sizes_of}
use Rattle.zio_trace.specs.Conflicts.{is_single}
use Rattle.zio_trace.specs.Families.{Forest}
use Rattle.zio_trace.specs.Footprints.{FitsTask}
use Rattle.zio_trace.specs.Labels.{Labelled}
use Rattle.zio_trace.specs.Leaves.{LeafOp, LiesOn}
use Rattle.zio_trace.specs.Programs.{Ends}
use Rattle.zio_trace.specs.SoundRounds.{HasClaim, IsSoundRound, work_of}
use Rattle.zio_trace.specs.Stopped.{IsOfTasks}
use Rattle.zio_trace.specs.Tasks.{Find, Leaf, TakePlaces, Task, Value}
use Rattle.zio_trace.specs.Underway.{Comes, Flight, IsClear, State, Work, flying_now}
use Rattle.zio_trace.proofs.ClaimAlone.{flight_of_tasks, taken_for_claim}
use Rattle.zio_trace.proofs.EntryLemmas.{entries_may_come}
use Rattle.zio_trace.proofs.MoreDone.{comes_at_all, some_any}
use Rattle.zio_trace.proofs.SoundRoundLemmas.{round_sound}
use Rattle.zio_trace.proofs.UnderwayDone.{op_lies}
use Rattle.zio_trace.proofs.ValueFits.{value_fits, value_left}
use Rattle.zio_frames.specs.Answering.{IsAnswerTo}
use Rattle.zio_frames.specs.Frames.{Child, Flying, Frame, Inner, OfInner, OfOuter, Seat, Stack, flight_at, flights_of, fresh_frame, fresh_stack, inner_flights, kind_of_task, place_in, place_of, with_asked}
use Rattle.zio_frames.specs.Moves.{AsksNext, Does, IsEnded, Took}
use Rattle.zio_frames.specs.OfRound.{FitsWhichever, IsFrameOf}
use Rattle.zio_frames.specs.Running.{IsRunning}
use Rattle.zio_frames.specs.Seats.{IsSeated, asked_at, slot_at}
use Rattle.zio_frames.specs.Slots.{IsOut, Slot}
use Rattle.zio_frames.proofs.FrameLemmas.{rest_ends}
use Rattle.zio_frames.proofs.KnownLemmas.{answers_in_kind}
use Rattle.zio_frames.proofs.MoveHears.{is_out, known_value}
use Rattle.zio_frames.proofs.MoveItself.{flying}
use Rattle.zio_frames.proofs.MoveOut.{handed_out}
use Rattle.zio_frames.proofs.Moved.{Goes, in_flight}
use Rattle.zio_frames.proofs.NodeMoves.{with_inner}
use Rattle.zio_frames.proofs.PermLemmas.{dig}
use Rattle.zio_frames.proofs.RoundFrames.{fits_of_any}
use Rattle.zio_frames.proofs.SeatHears.{seat_of}
use Rattle.zio_frames.proofs.SeatMoves.{node}
use Rattle.zio_frames.proofs.SingleLemmas.{single_asks}

module _ (t : Terms) (sizes : ℕ → ℕ) (f : Forest) (before : Option Images) (trees : List Slot) (others : List Flying) (s : State) where
  abbrev Runs : List Flying → Type 0
  Runs nodes = IsRunning t sizes f before trees nodes s

  abbrev rest : List Flight
  rest = flat_map (flights_of t) others

  -- ---- its operation

  -- what sits there does the operation that was asked there
  same_seat : (xat at : List ℕ) (xo o : Frame) (xi inner : Option Inner) (xs cs : List Child) (seat : Seat) (op : Task)
      (told : Option (Option Bp)) → slot_at (node o inner cs) seat ≡ Some (IsOut told)
      → asked_at (node o inner cs) seat ≡ Some op
      → xat ≡ place_in at inner seat → Runs (flying xat xo xi xs ∷ flying at o inner cs ∷ others) → op ≡ xo.op
  same_seat xat at xo o xi inner xs cs (OfOuter n) op told out asked is r =
      let X : Flight = flight_at t xat xo in
      let Q : Flight = flight_at t at o in
      let within : List Flight = inner_flights t xat xi in
      let behind : List Flight = inner_flights t at inner ++ rest in
      let h : Goes t sizes f before (flying_now s (X ∷ Q ∷ (within ++ behind))) =
      in_flight t sizes f before trees (flying xat xo xi xs ∷ flying at o inner cs ∷ others) s (X ∷ Q ∷ (within ++ behind)) r
      (IsPermutation-cons X (within ++ Q ∷ behind) (Q ∷ (within ++ behind)) (IsPermutation-middle within Q behind)) in
      ap (λ (l : Labelled Task). l.op) (is_out t sizes f before s xat at xo o n op told (within ++ behind) h asked out is)
  same_seat xat at xo o xi None xs cs (OfInner n) op told out asked is r = absurd (cc)
  same_seat xat at xo o xi (Some i) xs cs (OfInner n) op told out asked is r =
      let X : Flight = flight_at t xat xo in
      let O : Flight = flight_at t at o in
      let Q : Flight = flight_at t (at ++ i.number ∷ []) i.frame in
      let within : List Flight = inner_flights t xat xi in
      let behind : List Flight = within ++ O ∷ rest in
      let place : xat ≡ (at ++ i.number ∷ []) ++ n ∷ [] = is ∙ sym (append_assoc at (i.number ∷ []) (n ∷ [])) in
      let h : Goes t sizes f before (flying_now s (X ∷ Q ∷ behind)) =
      in_flight t sizes f before trees (flying xat xo xi xs ∷ flying at o (Some i) cs ∷ others) s (X ∷ Q ∷ behind) r
      (IsPermutation-cons X (within ++ O ∷ Q ∷ rest) (Q ∷ behind) (dig within O Q rest)) in
      ap (λ (l : Labelled Task). l.op)
      (is_out t sizes f before s xat (at ++ i.number ∷ []) xo i.frame n op told behind h asked out place)

  -- a child does the operation that was asked at its seat, and has its kind
  pub child_does : (x q : Flying) (n : ℕ) (c : Child) → Runs (x ∷ q ∷ others) → slice_get q.stack.children n ≡ Some c
      → c.ended ≡ false → x.at ≡ place_of q c.seat
      → (asked_at q.stack c.seat ≡ Some x.stack.outer.op) × (c.kind ≡ kind_of_task x.stack.outer.op)
  child_does x q n c r there goes is =
      let seated : IsSeated q.stack = r.seated.1.0 in
      let here = seat_of q.stack.outer q.stack.inner q.stack.children n c seated there goes in
      let same : here.0 ≡ x.stack.outer.op =
      same_seat x.at q.at x.stack.outer q.stack.outer x.stack.inner q.stack.inner x.stack.children q.stack.children c.seat
      here.0 here.1 here.2.slot here.2.asked is r in
      (here.2.asked ∙ ap (λ (op : Task). Some op) same, here.2.kind ∙ ap kind_of_task same)

  -- ---- its value

  pub value_of_node : (x : Flying) (v : Value) → Runs (x ∷ others) → IsEnded t x.stack v
      → FitsWhichever t s.entries x.stack.outer.op v
  value_of_node x v r ended =
      let w : Work = work_of t sizes f in
      let X : Flight = flight_at t x.at x.stack.outer in
      let h : Goes t sizes f before (flying_now s (X ∷ rest)) =
      in_flight t sizes f before trees (flying x.at x.stack.outer None x.stack.children ∷ others) s (X ∷ rest)
      (with_inner t sizes f before trees x None others s ended.alone r) (IsPermutation-refl (X ∷ rest)) in
      let left : X.rest ≡ Ends v = rest_ends t x.at x.stack.outer v ended.value in
      let some = some_any w s.deeds h.going.once h.going.single in
      let answer : some.0.answer X.op ≡ v = known_value t sizes f before s X v rest h left some.0 some.1 some.2 in
      fits_of_any t s.entries x.stack.outer.op v h.lawful h.distinct
      (λ j comes. value_fits w before (flying_now s (X ∷ rest)) X rest v h refl left j comes)
      (value_left w before (flying_now s (X ∷ rest)) X rest v h refl left)
      (subst (IsAnswerTo x.stack.outer.op) answer (answers_in_kind t some.0 some.1 X.op))

  -- ---- at a leaf

  pub lies_at : (at : List ℕ) (act : LeafOp) → IsSoundRound t sizes f
      → Runs (record { at = at; stack = fresh_stack (Leaf act) } ∷ others) → LiesOn sizes act
  lies_at at act sound r =
      let w : Work = work_of t sizes f in
      let X : Flight = flight_at t at (fresh_frame (Leaf act)) in
      let h : Goes t sizes f before (flying_now s (X ∷ rest)) =
      in_flight t sizes f before trees (record { at = at; stack = fresh_stack (Leaf act) } ∷ others) s (X ∷ rest) r
      (IsPermutation-refl (X ∷ rest)) in
      let comes : Comes w s.entries s.entries =
      entries_may_come (sizes_of t.setting.tops) t.used s.entries h.distinct h.lawful in
      let own : IsClear w s.deeds (X ∷ rest) s.entries = h.clear s.entries comes in
      op_lies w before s.entries X (round_sound t sizes f sound) (comes_at_all w s.entries s.entries comes) refl
      own.nested.whole.0

  -- ---- places that it takes

  takes_if : (b : Bool) (at : List ℕ) (o : Frame) (tree : Tree) → IsSoundRound t sizes f
      → Goes t sizes f before (flying_now s (flight_at t at o ∷ rest)) → length o.asked ≡ length o.slots
      → IsFrameOf t f s.entries o → AsksNext t o (TakePlaces tree) → is_single o.op ≡ b
      → IsOfTasks s.entries (work_of t sizes f) (TakePlaces tree)
  takes_if false at o tree sound h full of_round asks many =
      let new : Flight = flight_at t (at ++ length o.slots ∷ []) (fresh_frame (TakePlaces tree)) in
      let out : Flight = flight_at t at (with_asked o (TakePlaces tree) (IsOut None)) in
      flight_of_tasks (work_of t sizes f) before s new (out ∷ rest)
      (handed_out t sizes f before s sound at o (TakePlaces tree) rest h many full of_round asks) refl
  takes_if true at o tree sound h full of_round asks one =
      let same : fresh_frame (TakePlaces tree) ≡ o = single_asks t o (TakePlaces tree) one full asks in
      flight_of_tasks (work_of t sizes f) before s (flight_at t at (fresh_frame (TakePlaces tree))) rest
      (subst (λ (y : Frame). Goes t sizes f before (flying_now s (flight_at t at y ∷ rest))) (sym same) h) refl

  pub node_takes_for : (x : Flying) (tree : Tree) (free : Bool) (st : Stack) → IsSoundRound t sizes f → Runs (x ∷ others)
      → Does t (Took tree free) x.stack st → HasClaim f
  node_takes_for x tree free st sound r does =
      let o : Frame = x.stack.outer in
      let own : Runs (flying x.at o None x.stack.children ∷ others) = with_inner t sizes f before trees x None others s does.0 r in
      let h : Goes t sizes f before (flying_now s (flight_at t x.at o ∷ rest)) =
      in_flight t sizes f before trees (flying x.at o None x.stack.children ∷ others) s (flight_at t x.at o ∷ rest) own
      (IsPermutation-refl (flight_at t x.at o ∷ rest)) in
      taken_for_claim t sizes f s.entries tree
      (takes_if (is_single o.op) x.at o tree sound h r.seated.0.outer.lengths r.of_round.0.outer does.1 refl)

-- whatever isn't asked of the space has a value that fits under each journal
pub fits_each : (t : Terms) (entries : List Choice) (op : Task) (v : Value) → ((a : Ask) → op ≢ Find a)
    → FitsWhichever t entries op v → (journal : List Choice) → FitsTask journal t op v
fits_each t entries (Find a) v none h journal = absurd (none a refl)
fits_each t entries _ v none h journal = h.fits journal tt
