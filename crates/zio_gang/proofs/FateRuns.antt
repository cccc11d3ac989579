-- From round to round and line to line no request is lost and none is added.
use Rattle.std.proofs.Common.{◌≡◌, ℕ, ◌+◌, List, [], ◌∷◌, ◌++◌, map, Bool, true, false, ◌⊎◌, inl, inr, ⊎_elim, Option, Some, None, refl, sym, ap, subst, ◌∙◌, arith, append_assoc, count_by, cond, fold}
use Rattle.std.specs.List.{AllByRecursion, flat_map}
use Rattle.std.proofs.lemmas.List.{append-nil}
use Rattle.std.proofs.lemmas.List.Recursion.{is_count_by}
use Rattle.zio_types.specs.Choices.{Choice}
use Rattle.zio_cksum.specs.Images.{Images}
use Rattle.zio_script.specs.declared.script.Item.{Item}
use Rattle.zio_script.specs.declared.script.Item.TheVariants.{Request as RequestLine, Go, Clear}
use Rattle.zio_script.specs.declared.script.Request.{Request}
use Rattle.zio_script.specs.declared.script.Script.{Script}
use Rattle.zio_script.specs.Accepted.{AreBehindParents, AreOrderly, AreRising, IsOrderlyBatch, batches_from, batches_of}
use Rattle.zio_script.specs.Requests.{requests_of}
use Rattle.zio_script.specs.Whys.{batch_after}
use Rattle.zio_cksum.proofs.AllLemmas.{all_weaker}
use Rattle.zio_gang.specs.Attempts.{Ended, Pending}
use Rattle.zio_gang.specs.Fates.{ended_requests, held_requests, suspended_requests, unrun, unrun_line, unrun_lines}
use Rattle.zio_gang.specs.Rounds.{Admitted, Ran, admitted, is_bound, pending_trees, settle_each, trees_of}
use Rattle.zio_gang.specs.Runs.{Batch, Course, Event, Plan, Round, State, clear_if, clear_line, go, go_if, go_line, goes_on, has_trees, held_after, held_batch, held_if, line, line_if, plan_of, quiet, rounds_of, run_batch, run_held, run_lines, run_script, run_suspended, start_state, terms_of, then_course}
use Rattle.zio_gang.specs.Runs.Event.{RanRound, HeldBatch}
use Rattle.zio_gang.proofs.FateLemmas.{admitted_sum, batch_held, of_ended, of_pending, of_trees, pending_sum, rising_back, rising_front, sum_flat, sum_map, tally, tally-append, trees_sum}

-- ---- what is counted

abbrev in_events : (Request → ℕ) → List Event → ℕ
in_events f events = of_ended f (flat_map (λ (round : Round). round.ended) (rounds_of events))

abbrev in_batches : (Request → ℕ) → List Batch → ℕ
in_batches f held = tally (λ (b : Batch). tally f b.requests) held

-- of a run between two lines: what stands in its open batch, in suspended trees and in held batches
abbrev in_state : (Request → ℕ) → State → ℕ
in_state f st = tally f st.batch + (of_trees f st.suspended + in_batches f st.held)

events_append : (f : Request → ℕ) (xs ys : List Event) → in_events f (xs ++ ys) ≡ in_events f xs + in_events f ys
events_append f [] ys = omega arith
events_append f (RanRound round ∷ xs) ys =
    let g : Round → List Ended = λ r. r.ended in
    omega (
      arith,
      tally-append (λ (e : Ended). f e.request) round.ended (flat_map g (rounds_of (xs ++ ys))),
      tally-append (λ (e : Ended). f e.request) round.ended (flat_map g (rounds_of xs)),
      events_append f xs ys,
    )
events_append f (HeldBatch n ∷ xs) ys = events_append f xs ys

one_round : (f : Request → ℕ) (round : Round) → in_events f (RanRound round ∷ []) ≡ of_ended f round.ended
one_round f round = ap (of_ended f) (append-nil round.ended)

-- ---- a round

-- a batch whose parents stand before their children, by rising numbers
pub record IsTreed (requests : List Request) : Type 0 where
  pub parents : AreBehindParents [] requests
  pub rising : AreRising requests

batch_sum : (f : Request → ℕ) (plan : Plan) (batch : Batch) (st : State) → IsTreed batch.requests
    → tally f batch.requests + of_trees f st.suspended ≡ in_events f (run_batch plan batch st).events + of_trees f (run_batch plan batch st).state.suspended
batch_sum f plan batch st treed =
    let a : Admitted = admitted st.suspended (is_bound st.bound) (trees_of batch.requests) in
    let trees : List (List Pending) = pending_trees st.bound batch.number a.trees in
    let ran : Ran = settle_each plan.journal (terms_of plan st) trees st.images in
    omega (
      arith,
      batch_held batch.requests treed.parents treed.rising f,
      admitted_sum f st.suspended (is_bound st.bound) (trees_of batch.requests),
      pending_sum f st.bound batch.number a.trees,
      trees_sum f plan.journal (terms_of plan st) trees st.images,
      tally-append (λ (e : Ended). f e.request) a.answered ran.ended,
      tally-append (λ (e : Ended). f e.request) (a.answered ++ ran.ended) [],
      tally-append (of_pending f) st.suspended ran.left,
    )

suspended_sum : (f : Request → ℕ) (plan : Plan) (st : State)
    → of_trees f st.suspended ≡ in_events f (run_suspended plan st).events + of_trees f (run_suspended plan st).state.suspended
suspended_sum f plan st =
    let ran : Ran = settle_each plan.journal (terms_of plan st) st.suspended st.images in
    omega (arith, trees_sum f plan.journal (terms_of plan st) st.suspended st.images, tally-append (λ (e : Ended). f e.request) ran.ended [])

-- ---- held batches

abbrev AreTreed : List Batch → Type 0
AreTreed held = AllByRecursion (λ (b : Batch). IsTreed b.requests) held

-- what running held batches keeps
record HeldRan (f : Request → ℕ) (held : List Batch) (st : State) (c : Course) : Type 0 where
  sum : in_batches f held + of_trees f st.suspended ≡ in_events f c.events + (of_trees f c.state.suspended + in_batches f c.state.held)
  batch : c.state.batch ≡ st.batch
  treed : AreTreed c.state.held

held_step : (stop : Bool) (f : Request → ℕ) (plan : Plan) (batch : Batch) (held : List Batch) (st : State) → AreTreed (batch ∷ held)
    → HeldRan f held (run_batch plan batch st).state (run_held plan held (run_batch plan batch st).state)
    → HeldRan f (batch ∷ held) st (held_if stop (batch ∷ held) st (λ now. then_course (run_batch plan batch now) (run_held plan held)))
held_step true f plan batch held st treed later = record { sum = omega arith; batch = refl; treed = treed }
held_step false f plan batch held st treed later = record {
  sum = omega (arith, later.sum, batch_sum f plan batch st treed.0, events_append f (run_batch plan batch st).events (run_held plan held (run_batch plan batch st).state).events);
  batch = later.batch;
  treed = later.treed;
}

held_sum : (f : Request → ℕ) (plan : Plan) (held : List Batch) (st : State) → AreTreed held → HeldRan f held st (run_held plan held st)
unfolding run_held
held_sum f plan [] st treed = record { sum = omega arith; batch = refl; treed = tt }
held_sum f plan (batch ∷ held) st treed =
    held_step (has_trees st.suspended) f plan batch held st treed (held_sum f plan held (run_batch plan batch st).state treed.1)

-- ---- a line

-- what a line keeps, where the open batch is this one behind it
record LineRan (f : Request → ℕ) (requests open_then : List Request) (st : State) (c : Course) : Type 0 where
  sum : tally f requests + in_state f st ≡ in_events f c.events + in_state f c.state
  batch : c.state.batch ≡ open_then
  treed : AreTreed c.state.held

push_treed : (held : List Batch) (batch : Batch) → AreTreed held → IsTreed batch.requests → AreTreed (held ++ batch ∷ [])
push_treed [] batch h b = (b, tt)
push_treed (x ∷ held) batch h b = (h.0, push_treed held batch h.1 b)

go_ran : (run : Bool) (f : Request → ℕ) (plan : Plan) (batch : Batch) (st now : State) → st.batch ≡ batch.requests → now.batch ≡ [] → now.suspended ≡ st.suspended → now.held ≡ st.held
    → IsTreed batch.requests → AreTreed st.held → LineRan f [] [] st (go_if run plan batch now)
go_ran true f plan batch st now at none suspended held treed all = record {
  sum = (let e : in_state f st ≡ tally f batch.requests + (of_trees f now.suspended + in_batches f now.held) =
      (λ i. tally f (at i) + (of_trees f (sym suspended i) + in_batches f (sym held i))) in
      let b : tally f now.batch ≡ 0 = ap (tally f) none in
      omega (arith, e, b, batch_sum f plan batch now treed));
  batch = none;
  treed = subst AreTreed (sym held) all;
}
go_ran false f plan batch st now at none suspended held treed all = record {
  sum = (let e : in_state f st ≡ tally f batch.requests + (of_trees f now.suspended + in_batches f now.held) =
      (λ i. tally f (at i) + (of_trees f (sym suspended i) + in_batches f (sym held i))) in
      let b : tally f now.batch ≡ 0 = ap (tally f) none in
      omega (arith, e, b, tally-append (λ (x : Batch). tally f x.requests) now.held (batch ∷ [])));
  batch = none;
  treed = push_treed now.held batch (subst AreTreed (sym held) all) treed;
}

clear_ran : (has : Bool) (f : Request → ℕ) (plan : Plan) (st : State) → AreTreed st.held
    → LineRan f [] st.batch st (then_course (clear_if has plan st) (held_after plan))
clear_ran true f plan st treed =
    let first : Course = run_suspended plan st in
    let later : HeldRan f st.held first.state (run_held plan st.held first.state) = held_sum f plan st.held first.state treed in
    record {
      sum = (let b : tally f (run_held plan st.held first.state).state.batch ≡ tally f st.batch = ap (tally f) later.batch in
          omega (arith, b, later.sum, suspended_sum f plan st, events_append f first.events (run_held plan st.held first.state).events));
      batch = later.batch;
      treed = later.treed;
    }
clear_ran false f plan st treed =
    let later : HeldRan f st.held st (run_held plan st.held st) = held_sum f plan st.held st treed in
    record {
      sum = (let b : tally f (run_held plan st.held st).state.batch ≡ tally f st.batch = ap (tally f) later.batch in omega (arith, b, later.sum));
      batch = later.batch;
      treed = later.treed;
    }

-- ---- the lines behind one another

-- what is to be shown of an item and those behind it, where the item's line comes to this
abbrev IsKept : (Request → ℕ) → Plan → Item → List Item → State → Course → List Request → Type 0
IsKept f plan item items st c unrun_here =
    tally f (requests_of (item ∷ items)) + in_state f st
    ≡ (in_events f (then_course c (run_lines plan items)).events + in_state f (then_course c (run_lines plan items)).state)
    + tally f (unrun_here ++ unrun_lines plan items c.state)

-- the same of all lines from here on
abbrev AreKept : (Request → ℕ) → Plan → List Item → State → Type 0
AreKept f plan items st =
    tally f (requests_of items) + in_state f st
    ≡ (in_events f (run_lines plan items st).events + in_state f (run_lines plan items st).state) + tally f (unrun_lines plan items st)

passed_over : (f : Request → ℕ) (plan : Plan) (item : Item) (items : List Item) (st : State) → AreKept f plan items st → IsKept f plan item items st (quiet st) (unrun_line true item)
passed_over f plan (RequestLine r) items st later = omega (arith, later)
passed_over f plan Go items st later = later
passed_over f plan Clear items st later = later

-- behind a panic all requests are unrun
panicked_lines : (f : Request → ℕ) (plan : Plan) (items : List Item) (st : State) → st.panicked ≡ true → AreKept f plan items st
unfolding run_lines unrun_lines
panicked_lines f plan [] st ended = omega arith
panicked_lines f plan (item ∷ items) st ended =
    subst (λ (b : Bool). IsKept f plan item items st (line_if b plan item st) (unrun_line b item)) (sym ended)
    (passed_over f plan item items st (panicked_lines f plan items st ended))

line_ran : (f : Request → ℕ) (plan : Plan) (item : Item) (items : List Item) (st : State) → AllByRecursion (AreBehindParents []) (batches_from st.batch (item ∷ items))
    → AreRising (st.batch ++ requests_of (item ∷ items)) → AreTreed st.held → LineRan f (requests_of (item ∷ [])) (batch_after st.batch item) st (line plan item st)
line_ran f plan (RequestLine r) items st parents rising treed = record {
  sum = omega (arith, tally-append f st.batch (r ∷ []));
  batch = refl;
  treed = treed;
}
line_ran f plan Go items st parents rising treed =
    go_ran _ f plan (record { number = st.batches + 1; requests = st.batch }) st (record st { batch = []; batches = st.batches + 1 }) refl refl refl refl
    (record { parents = parents.0; rising = rising_front st.batch (requests_of items) rising }) treed
line_ran f plan Clear items st parents rising treed =
    let now : State = record st { point = st.point + 1 } in
    let ran : LineRan f [] now.batch now (clear_line plan st) = clear_ran (has_trees st.suspended) f plan now treed in
    record { sum = ran.sum; batch = ran.batch; treed = ran.treed }

parents_behind : (item : Item) (items : List Item) (batch : List Request) → AllByRecursion (AreBehindParents []) (batches_from batch (item ∷ items))
    → AllByRecursion (AreBehindParents []) (batches_from (batch_after batch item) items)
parents_behind (RequestLine r) items batch h = h
parents_behind Go items batch h = h.1
parents_behind Clear items batch h = h

rising_behind : (item : Item) (items : List Item) (batch : List Request) → AreRising (batch ++ requests_of (item ∷ items)) → AreRising (batch_after batch item ++ requests_of items)
rising_behind (RequestLine r) items batch h = subst AreRising (sym (append_assoc batch (r ∷ []) (requests_of items))) h
rising_behind Go items batch h = rising_back batch (requests_of items) h
rising_behind Clear items batch h = h

item_sum : (f : Request → ℕ) (item : Item) (items : List Item) → tally f (requests_of (item ∷ items)) ≡ tally f (requests_of (item ∷ [])) + tally f (requests_of items)
item_sum f (RequestLine r) items = omega arith
item_sum f Go items = omega arith
item_sum f Clear items = omega arith

kept_by_line : (f : Request → ℕ) (plan : Plan) (item : Item) (items : List Item) (st : State) (c : Course) (open_then : List Request) → LineRan f (requests_of (item ∷ [])) open_then st c
    → AreKept f plan items c.state → IsKept f plan item items st c []
kept_by_line f plan item items st c open_then ran later =
    omega (arith, ran.sum, later, item_sum f item items, events_append f c.events (run_lines plan items c.state).events)

either : (b : Bool) → (b ≡ true) ⊎ (b ≡ false)
either true = inl refl
either false = inr refl

-- nothing is lost and nothing is added
pub lines_sum : (f : Request → ℕ) (plan : Plan) (items : List Item) (st : State) → AllByRecursion (AreBehindParents []) (batches_from st.batch items)
    → AreRising (st.batch ++ requests_of items) → AreTreed st.held → AreKept f plan items st
unfolding run_lines unrun_lines
lines_sum f plan [] st parents rising treed = omega arith
lines_sum f plan (item ∷ items) st parents rising treed =
    let ran : LineRan f (requests_of (item ∷ [])) (batch_after st.batch item) st (line plan item st) = line_ran f plan item items st parents rising treed in
    let now : State = (line plan item st).state in
    let later : AreKept f plan items now =
    lines_sum f plan items now
    (subst (λ (b : List Request). AllByRecursion (AreBehindParents []) (batches_from b items)) (sym ran.batch) (parents_behind item items st.batch parents))
    (subst (λ (b : List Request). AreRising (b ++ requests_of items)) (sym ran.batch) (rising_behind item items st.batch rising)) ran.treed in
    ⊎_elim
    (λ (ended : st.panicked ≡ true). panicked_lines f plan (item ∷ items) st ended)
    (λ (goes : st.panicked ≡ false). subst (λ (b : Bool). IsKept f plan item items st (line_if b plan item st) (unrun_line b item)) (sym goes)
    (kept_by_line f plan item items st (line plan item st) (batch_after st.batch item) ran later))
    (either st.panicked)

-- ---- a script

counted : (p : Request → Bool) (xs : List Request) → tally (λ r. cond (p r) 1 0) xs ≡ count_by p xs
counted p xs = is_count_by (tally (λ (r : Request). cond (p r) 1 0)) p refl (λ x ys. step (p x) (tally (λ (r : Request). cond (p r) 1 0) ys)) xs
  where
    step : (b : Bool) (n : ℕ) → cond b 1 0 + n ≡ cond b (1 + n) n
    step true n = refl
    step false n = omega arith

-- each request of an orderly script ended in a round, is left suspended, is in a held batch, or is unrun, and no other is
pub fates_law : (p : Request → Bool) (script : Script) (images : Images) (journal : List Choice) (apart : Bool) → AreOrderly apart script.items
    → count_by p (requests_of script.items)
    ≡ count_by p (ended_requests (run_script script images journal).events) + count_by p (suspended_requests (run_script script images journal).state)
    + count_by p (held_requests (run_script script images journal).state) + count_by p (unrun script images journal)
fates_law p script images journal apart orderly =
    let f : Request → ℕ = λ r. cond (p r) 1 0 in
    let plan : Plan = plan_of script images journal in
    let start : State = start_state images in
    let c : Course = run_script script images journal in
    let of_pending_request : Pending → Request = λ q. q.request in
    let all : AreKept f plan script.items start =
    lines_sum f plan script.items start
    (all_weaker (IsOrderlyBatch apart) (AreBehindParents []) (batches_of script.items) (λ batch b. b.parents) orderly.batches) orderly.rising tt in
    let ended : tally f (ended_requests c.events) ≡ in_events f c.events =
    sum_map f (λ (e : Ended). e.request) (flat_map (λ (round : Round). round.ended) (rounds_of c.events)) in
    let left : tally f (suspended_requests c.state) ≡ of_trees f c.state.suspended =
    sum_flat f (map of_pending_request) c.state.suspended ∙ (λ i. tally (λ tree. sum_map f of_pending_request tree i) c.state.suspended) in
    let held : tally f (held_requests c.state) ≡ in_batches f c.state.held = sum_flat f (λ (b : Batch). b.requests) c.state.held in
    let behind : tally f (unrun script images journal) ≡ tally f c.state.batch + tally f (unrun_lines plan script.items start) =
    tally-append f c.state.batch (unrun_lines plan script.items start) in
    omega (
      arith,
      all,
      ended,
      left,
      held,
      behind,
      counted p (requests_of script.items),
      counted p (ended_requests c.events),
      counted p (suspended_requests c.state),
      counted p (held_requests c.state),
      counted p (unrun script images journal),
    )
