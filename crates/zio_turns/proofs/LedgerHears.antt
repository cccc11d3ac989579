-- What a node holds and heard of, where it hands out a child and hears of one.
use Rattle.std.proofs.Common.{◌≡◌, ℕ, ◌+◌, List, [], ◌++◌, slice_get, false, Option, Some, None, refl, sym, subst, ap, ◌∙◌, arith}
use Rattle.std.specs.Prelude.{IsPermutation}
use Rattle.std.specs.List.{flat_map}
use Rattle.std.proofs.lemmas.List.{append-nil}
use Rattle.zio_types.specs.declared.place.Place.{Place}
use Rattle.zio_blkptr.specs.declared.pointer.Bp.{Bp}
use Rattle.zio_types.specs.Choices.{Choice}
use Rattle.zio_places.specs.Tables.{total}
use Rattle.zio_gang.specs.Attempts.{Ended, Terms}
use Rattle.zio_trace.specs.Families.{Forest}
use Rattle.zio_trace.specs.Tasks.{Attempt, Settle, Task, Value}
use Rattle.zio_frames.specs.Frames.{Child, Frame, Inner, OfInner, OfOuter, Seat, Stack, asking, asking_in}
use Rattle.zio_frames.specs.Moves.{AsksNext, handed, heard_early, heard_of, set_at, set_in_inner, with_asking}
use Rattle.zio_frames.specs.OfRound.{IsFrameOf, IsInnerOf, IsOfRound}
use Rattle.zio_frames.specs.Seats.{HasSeat, IsSeated, asked_at, asked_in_inner, slot_at, slot_in_inner}
use Rattle.zio_frames.specs.Slots.{Heard, IsOut, Slot}
use Rattle.zio_frames.proofs.GetLemmas.{all_at}
use Rattle.zio_frames.proofs.RoundFrames.{asked_of_round}
use Rattle.zio_exchange.specs.Outcomes.{IsOutcome, held_by, places_by, places_in}
use Rattle.zio_exchange.specs.declared.outcome.Outcome.{Outcome}
use Rattle.zio_turns.specs.Claims.{turn_of}
use Rattle.zio_staged.specs.Parts.{ended_by, ended_in, ended_in_slot}
use Rattle.zio_turns.specs.Rests.{HasRests, HasRestsIn, LeavesRests, SlotsRest}
use Rattle.zio_turns.specs.Sizes.{HasSizes, IsSizedAs}
use Rattle.zio_staged.specs.Stages.{AreHandedOut}
use Rattle.zio_turns.proofs.ClaimLedger.{set_op, set_turn}
use Rattle.zio_turns.proofs.LedgerDids.{InnerStands, Stands, ended_more, places_heard, places_more, places_told}
use Rattle.zio_turns.proofs.LedgerEnds.{quiet_value}
use Rattle.zio_turns.proofs.LedgerHands.{hands_told}
use Rattle.zio_turns.proofs.LedgerPerms.{same_moved, set_more, set_same}
use Rattle.zio_turns.proofs.RestLemmas.{last_rests, slots_asked, slots_out, slots_set}
use Rattle.zio_turns.proofs.SizeMoves.{early_sizes, heard_sizes}
use Rattle.zio_turns.proofs.Withins.{IsQuiet, asked_within, asks_quiet, within_quiet}

-- ---- it hands out a child

-- a quiet operation has no tree
no_rests : (f : Forest) (ended : List ℕ) (op : Task) → IsQuiet op → HasRestsIn f ended op
no_rests f ended (Attempt attempt p kids) h = absurd h
no_rests f ended (Settle p kids) h = absurd h
no_rests f ended _ h = tt

module _ (b : Stack) (op : Task) where
  ended_asking : (o : Option Inner) → flat_map ended_in_slot (with_asking b o op).outer.slots ≡ flat_map ended_in_slot b.outer.slots
  ended_asking None = ended_more b.outer.slots (IsOut None) refl
  ended_asking (Some i) = refl

  held_asking : (w : Place → ℕ) → Stands b → (o : Option Inner)
      → total w (held_by (with_asking b o op)) ≡ total w (held_by b)
  held_asking w s None = omega (arith, places_more w b.outer.asked b.outer.slots op (IsOut None) s.full)
  held_asking w s (Some i) = refl

  rests_asking : (f : Forest) (ended : List ℕ) → Stands b → HasRests f ended b → (o : Option Inner)
      → HasRests f ended (with_asking b o op)
  rests_asking f ended s h None =
      record { own = h.own; heard = slots_asked f ended b.outer.asked b.outer.slots op (IsOut None) s.full h.heard tt }
  rests_asking f ended s h (Some i) = record { own = h.own; heard = h.heard }

  -- its part stays of the round
  of_round_asking : (t : Terms) (f : Forest) (entries : List Choice) → Stands b → IsOfRound t f entries b → (o : Option Inner)
      → AsksNext t (asking_in b.outer o) op → IsFrameOf t f entries (with_asking b o op).outer
  of_round_asking t f entries s h None asks = asked_of_round t f entries b.outer op (IsOut None) h.outer s.full asks tt
  of_round_asking t f entries s h (Some i) asks = h.outer

  -- the operation has what is left in it
  op_rests : (t : Terms) (f : Forest) (entries : List Choice) (ended : List ℕ) → Stands b → HasRests f ended b
      → (o : Option Inner) → InnerStands b o → AsksNext t (asking_in b.outer o) op
      → IsFrameOf t f entries (with_asking b o op).outer → HasRestsIn f ended op
  op_rests t f entries ended s h None inner asks of_round = last_rests f ended t entries b.outer op h.own h.heard s.full of_round
  op_rests t f entries ended s h (Some i) inner asks of_round =
      no_rests f ended op (asks_quiet t i.frame op (within_quiet i.frame.op inner.2) asks)

  pub handed_ended : ended_in (handed b op) ≡ ended_in b
  handed_ended = ended_asking b.inner

  pub handed_held : (w : Place → ℕ) → Stands b → total w (held_by (handed b op)) ≡ total w (held_by b)
  handed_held w s = held_asking w s b.inner

  pub handed_rests : (f : Forest) (ended : List ℕ) → Stands b → HasRests f ended b → HasRests f ended (handed b op)
  handed_rests f ended s h = let r = rests_asking f ended s h b.inner in record { own = r.own; heard = r.heard }

  pub handed_of_round : (t : Terms) (f : Forest) (entries : List Choice) → Stands b → AsksNext t (asking b) op
      → IsOfRound t f entries b → IsFrameOf t f entries (handed b op).outer
  handed_of_round t f entries s asks h = of_round_asking t f entries s h b.inner asks

  pub handed_op_rests : (t : Terms) (f : Forest) (entries : List Choice) (ended : List ℕ) → Stands b → HasRests f ended b
      → AsksNext t (asking b) op → IsFrameOf t f entries (handed b op).outer → HasRestsIn f ended op
  handed_op_rests t f entries ended s h asks of_round = op_rests t f entries ended s h b.inner s.inner asks of_round

-- ---- it hears of one

inner_outer : (q : Stack) (o : Option Inner) (m : ℕ) (slot : Slot) → (set_in_inner q o m slot).outer ≡ q.outer
inner_outer q None m slot = refl
inner_outer q (Some i) m slot = refl

same_rests : (f : Forest) (ended : List ℕ) (a b : Stack) → b.outer ≡ a.outer → HasRests f ended a → HasRests f ended b
same_rests f ended a b e h = record {
  own = subst (λ (o : Frame). HasRestsIn f ended o.op) (sym e) h.own;
  heard = subst (λ (o : Frame). SlotsRest f ended o.asked o.slots) (sym e) h.heard;
}

rests_at : (q : Stack) (seat : Seat) (op : Task) (v : Value) → asked_at q seat ≡ Some op → (f : Forest) (ended : List ℕ)
    → LeavesRests f ended op v → HasRests f ended q → HasRests f ended (set_at q seat (Heard v))
rests_at q (OfOuter m) op v asked f ended new h =
    record { own = h.own; heard = slots_set f ended q.outer.asked q.outer.slots m op (Heard v) asked h.heard new }
rests_at q (OfInner m) op v asked f ended new h =
    same_rests f ended q (set_at q (OfInner m) (Heard v)) (inner_outer q q.inner m (Heard v)) h

rests_told : (q : Stack) (seat : Seat) (pointer : Option Bp) (f : Forest) (ended : List ℕ) → HasRests f ended q
    → HasRests f ended (set_at q seat (IsOut (Some pointer)))
rests_told q (OfOuter m) pointer f ended h =
    record { own = h.own; heard = slots_out f ended q.outer.asked q.outer.slots m (Some pointer) h.heard }
rests_told q (OfInner m) pointer f ended h =
    same_rests f ended q (set_at q (OfInner m) (IsOut (Some pointer))) (inner_outer q q.inner m (IsOut (Some pointer))) h

heard_at : (q : Stack) (seat : Seat) (op : Task) (told : Option (Option Bp)) (v : Value) → slot_at q seat ≡ Some (IsOut told)
    → asked_at q seat ≡ Some op → ((m : ℕ) → seat ≡ OfInner m → (ended_by v ≡ []) × (places_by op v ≡ []))
    → IsPermutation (ended_in (set_at q seat (Heard v))) (ended_by v ++ ended_in q)
    × ((w : Place → ℕ) → total w (held_by (set_at q seat (Heard v))) ≡ total w (places_by op v) + total w (held_by q))
heard_at q (OfOuter m) op told v out asked inner = (
  set_more ended_in_slot q.outer.slots m (IsOut told) (Heard v) (ended_by v) out
      (same_moved (ended_by v) (ended_by v ++ []) (sym (append-nil (ended_by v)))),
  λ w. places_heard w q.outer.asked q.outer.slots m op told v asked out,
)
heard_at q (OfInner m) op told v out asked inner =
    let none = inner m refl in
    let same : (set_at q (OfInner m) (Heard v)).outer ≡ q.outer = inner_outer q q.inner m (Heard v) in (
      same_moved (ended_in (set_at q (OfInner m) (Heard v))) (ended_by v ++ ended_in q)
          (ap (λ (o : Frame). flat_map ended_in_slot o.slots) same ∙ ap (λ (es : List Ended). es ++ ended_in q) (sym none.0)),
      λ w.
          let held : total w (held_by (set_at q (OfInner m) (Heard v))) ≡ total w (held_by q) =
          ap (λ (o : Frame). total w (places_in o.asked o.slots)) same in
          let nothing : total w (places_by op v) ≡ 0 = ap (total w) none.1 in
          omega arith,
    )

told_at : (q : Stack) (seat : Seat) (told : Option (Option Bp)) (pointer : Option Bp) → slot_at q seat ≡ Some (IsOut told)
    → (ended_in (set_at q seat (IsOut (Some pointer))) ≡ ended_in q) × (held_by (set_at q seat (IsOut (Some pointer))) ≡ held_by q)
told_at q (OfOuter m) told pointer out = (
  set_same ended_in_slot q.outer.slots m (IsOut told) (IsOut (Some pointer)) out refl,
  places_told q.outer.asked q.outer.slots m told (Some pointer) out,
)
told_at q (OfInner m) told pointer out =
    let same : (set_at q (OfInner m) (IsOut (Some pointer))).outer ≡ q.outer = inner_outer q q.inner m (IsOut (Some pointer)) in (
      ap (λ (o : Frame). flat_map ended_in_slot o.slots) same,
      ap (λ (o : Frame). places_in o.asked o.slots) same,
    )

-- its slot
seat_out : (q : Stack) (n : ℕ) (c : Child) → IsSeated q → slice_get q.children n ≡ Some c → c.ended ≡ false
    → (told : Option (Option Bp)) × (slot_at q c.seat ≡ Some (IsOut told))
seat_out q n c seated is goes = let sits = all_at (HasSeat q) q.children n c seated.each is goes in (sits.1, sits.2.slot)

pub record HasHeardIt (q : Stack) (op : Task) (v : Value) (now : Stack) : Type 0 where
  pub same_op : now.outer.op ≡ q.outer.op
  pub turn : turn_of now ≡ turn_of q
  pub ended : IsPermutation (ended_in now) (ended_by v ++ ended_in q)
  pub held : (w : Place → ℕ) → total w (held_by now) ≡ total w (places_by op v) + total w (held_by q)
  pub rests : (f : Forest) (ended : List ℕ) → LeavesRests f ended op v → HasRests f ended q → HasRests f ended now
  pub sizes : IsSizedAs op v → HasSizes q → HasSizes now

pub hears_it : (q : Stack) (n : ℕ) (c : Child) (op : Task) (v : Value) → IsSeated q → slice_get q.children n ≡ Some c
    → c.ended ≡ false → asked_at q c.seat ≡ Some op
    → ((m : ℕ) → c.seat ≡ OfInner m → (ended_by v ≡ []) × (places_by op v ≡ [])) → HasHeardIt q op v (heard_of q n c v)
hears_it q n c op v seated is goes asked inner =
    let out = seat_out q n c seated is goes in
    let h = heard_at q c.seat op out.0 v out.1 asked inner in
    record {
      same_op = set_op q c.seat (Heard v);
      turn = set_turn q c.seat (Heard v);
      ended = h.0;
      held = h.1;
      rests = λ f ended new has.
          let r = rests_at q c.seat op v asked f ended new has in record { own = r.own; heard = r.heard };
      sizes = λ size has. heard_sizes q n c op v asked size has;
    }

-- an operation that is out within is quiet
inner_quiet : (t : Terms) (f : Forest) (entries : List Choice) (q : Stack) (o : Option Inner) (m : ℕ) (op : Task)
    (told : Option (Option Bp)) → q.inner ≡ o → IsInnerOf t f entries o → AreHandedOut q → asked_in_inner o m ≡ Some op
    → slot_in_inner o m ≡ Some (IsOut told) → IsQuiet op
inner_quiet t f entries q None m op told e of out asked slot = absurd (cc)
inner_quiet t f entries q (Some i) m op told e of out asked slot =
    asked_within t i.frame.op i.frame.asked i.frame.slots (out.within i e) of.asked m op (IsOut told) asked slot

-- the child's value has no request and no place where it is asked within
pub heard_within : {S : Type 0} (t : Terms) (f : Forest) (entries : List Choice) (q : Stack) (n : ℕ) (c : Child) (op : Task) (outcome : Outcome S)
    (v : Value) → IsSeated q → slice_get q.children n ≡ Some c → c.ended ≡ false → asked_at q c.seat ≡ Some op
    → IsInnerOf t f entries q.inner → AreHandedOut q → IsOutcome t op outcome v → (m : ℕ) → c.seat ≡ OfInner m
    → (ended_by v ≡ []) × (places_by op v ≡ [])
heard_within t f entries q n c op outcome v seated is goes asked of out shows m seat =
    let slot = seat_out q n c seated is goes in
    quiet_value t op outcome v
    (inner_quiet t f entries q q.inner m op slot.0 refl of out (ap (asked_at q) (sym seat) ∙ asked)
    (ap (slot_at q) (sym seat) ∙ slot.1)) shows

pub record HasHeardEarly (q now : Stack) : Type 0 where
  pub same_op : now.outer.op ≡ q.outer.op
  pub turn : turn_of now ≡ turn_of q
  pub ended : ended_in now ≡ ended_in q
  pub held : held_by now ≡ held_by q
  pub hands : AreHandedOut q → AreHandedOut now
  pub rests : (f : Forest) (ended : List ℕ) → HasRests f ended q → HasRests f ended now
  pub sizes : HasSizes q → HasSizes now

pub hears_early : (q : Stack) (n : ℕ) (c : Child) (pointer : Option Bp) → IsSeated q → slice_get q.children n ≡ Some c
    → c.ended ≡ false → HasHeardEarly q (heard_early q n c pointer)
hears_early q n c pointer seated is goes =
    let out = seat_out q n c seated is goes in
    let h = told_at q c.seat out.0 pointer out.1 in
    record {
      same_op = set_op q c.seat (IsOut (Some pointer));
      turn = set_turn q c.seat (IsOut (Some pointer));
      ended = h.0;
      held = h.1;
      hands = hands_told q n c pointer is;
      rests = λ f ended has.
          let r = rests_told q c.seat pointer f ended has in record { own = r.own; heard = r.heard };
      sizes = λ has. early_sizes q n c pointer has;
    }
