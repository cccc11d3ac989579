-- The rounds of a whole script, one after another: what stands under a request that finished in one finishes in no later.
use Rattle.std.proofs.Common.{◌≡◌, ◌<◌, ◌≤◌, ◌+◌, ◌==◌, ◌++◌, ℕ, List, [], ◌∷◌, map, refl, sym, ap, subst, ◌∙◌, Bool, true, false, ◌||◌, not, arith, ⊎_elim, ◌⊎◌, inl, inr, eqb-true, append_assoc}
use Rattle.std.specs.List.{AllByRecursion}
use Rattle.zio_types.specs.Choices.{Choice}
use Rattle.zio_cksum.specs.Images.{Images}
use Rattle.zio_cksum.proofs.AllLemmas.{all_append}
use Rattle.zio_script.specs.declared.script.Item.{Item}
use Rattle.zio_script.specs.declared.script.Item.TheVariants.{Request as RequestLine, Go, Clear}
use Rattle.zio_script.specs.declared.script.Request.{Request}
use Rattle.zio_script.specs.declared.script.Script.{Script}
use Rattle.zio_script.specs.Accepted.{AreOrderly, AreRising, IsOrderlyBatch, batches_from, batches_of}
use Rattle.zio_script.specs.Requests.{requests_of}
use Rattle.zio_script.specs.Whys.{batch_after}
use Rattle.zio_gang.specs.Runs.{Batch, Course, Plan, State, clear_if, go_if, goes_on, has_trees, held_after, held_if, line, line_if, plan_of, run_batch, run_held, run_lines, run_script, run_suspended, start_state, then_course}
use Rattle.zio_gang.proofs.FateLemmas.{of_trees, rising_back, rising_front, tally, tally-append}
use Rattle.zio_gang.proofs.FateRuns.{IsTreed}
use Rattle.zio_course.specs.Parents.{AreParented}
use Rattle.zio_audit.proofs.TextOrders.{IsClosed, IsFollowed, IsRound, IsSingle, Weight, batch_round, batches_closed, both_closed, counted, followed_as, followed_then, still, suspended_round, under, with_number}

-- ---- held batches

-- held batches whose parents come before their children
abbrev AreTreed : List Batch → Type 0
AreTreed held = AllByRecursion (λ (b : Batch). IsTreed b.requests) held

-- what is counted in held batches
abbrev in_batches : (Request → ℕ) → List Batch → ℕ
in_batches f held = tally (λ (b : Batch). tally f b.requests) held

-- held batches are closed
held_closed : (held : List Batch) → AreTreed held → IsClosed (λ f. in_batches f held)
held_closed held treed n none =
    sym (batches_same (under n) held) ∙ batches_closed (map (λ (b : Batch). b.requests) held) (each held treed) n (batches_same (with_number n) held ∙ none)
  where
    batches_same : (f : Request → ℕ) (bs : List Batch) → tally (tally f) (map (λ (b : Batch). b.requests) bs) ≡ in_batches f bs
    batches_same f [] = refl
    batches_same f (b ∷ bs) = ap (λ m. tally f b.requests + m) (batches_same f bs)

    each : (bs : List Batch) → AreTreed bs → AllByRecursion IsTreed (map (λ (b : Batch). b.requests) bs)
    each [] h = tt
    each (b ∷ bs) h = (h.0, each bs h.1)

-- what stands between two lines of a script: suspended trees, held batches, and so much else
abbrev left_with : State → Weight → Weight
left_with st rest f = (in_batches f st.held + of_trees f st.suspended) + rest f

-- a course whose state keeps parents, and the open batch as it was
record IsRun (before rest : Weight) (open_then : List Request) (c : Course) : Type 0 where
  followed : IsFollowed before (left_with c.state rest) c.events
  parented : AllByRecursion AreParented c.state.suspended
  treed : AreTreed c.state.held
  batch : c.state.batch ≡ open_then

-- no number stands twice among fewer
single_less : (v w : Weight) → IsSingle v → ((f : Request → ℕ) → w f ≤ v f) → IsSingle w
single_less v w single less n = omega (arith, single n, less (with_number n))

-- a held batch that stays or runs, and those behind it
held_step : (stop : Bool) (plan : Plan) (batch : Batch) (held : List Batch) (st : State) (rest : Weight) → AreTreed (batch ∷ held) → AllByRecursion AreParented st.suspended → IsClosed rest
    → IsSingle (λ f. (in_batches f (batch ∷ held) + of_trees f st.suspended) + rest f)
    → ((now : State) → AllByRecursion AreParented now.suspended → IsSingle (λ f. (in_batches f held + of_trees f now.suspended) + rest f)
    → IsRun (λ f. (in_batches f held + of_trees f now.suspended) + rest f) rest now.batch (run_held plan held now))
    → IsRun (λ f. (in_batches f (batch ∷ held) + of_trees f st.suspended) + rest f) rest st.batch (held_if stop (batch ∷ held) st (λ now. then_course (run_batch plan batch now) (run_held plan held)))
held_step true plan batch held st rest treed parented closed single later =
    record { followed = still (λ f. (in_batches f (batch ∷ held) + of_trees f st.suspended) + rest f); parented = parented; treed = treed; batch = refl }
held_step false plan batch held st rest treed parented closed single later =
    let others : Weight = λ f. in_batches f held + rest f in
    let before : Weight = λ f. (in_batches f (batch ∷ held) + of_trees f st.suspended) + rest f in
    let first : IsRound (λ f. (tally f batch.requests + of_trees f st.suspended) + others f) others (run_batch plan batch st) =
    batch_round plan batch st others treed.0 parented (both_closed (λ f. in_batches f held) rest (held_closed held treed.1) closed)
    (single_less before (λ f. (tally f batch.requests + of_trees f st.suspended) + others f) single (λ f. omega arith)) in
    let now : State = (run_batch plan batch st).state in
    let mid : Weight = λ f. (in_batches f held + of_trees f now.suspended) + rest f in
    let followed : IsFollowed before mid (run_batch plan batch st).events =
    followed_as (λ f. (tally f batch.requests + of_trees f st.suspended) + others f) (λ f. of_trees f now.suspended + others f) before mid (run_batch plan batch st).events
    (λ f. omega arith) (λ f. omega arith) first.followed in
    let more : IsRun mid rest now.batch (run_held plan held now) = later now first.parented (single_less before mid single (λ f. omega (arith, followed.sum f))) in
    record {
      followed = followed_then before mid (left_with (run_held plan held now).state rest) (run_batch plan batch st).events (run_held plan held now).events followed more.followed;
      parented = more.parented;
      treed = more.treed;
      batch = more.batch;
    }

-- all held batches
held_run : (plan : Plan) (held : List Batch) (st : State) (rest : Weight) → AreTreed held → AllByRecursion AreParented st.suspended → IsClosed rest
    → IsSingle (λ f. (in_batches f held + of_trees f st.suspended) + rest f) → IsRun (λ f. (in_batches f held + of_trees f st.suspended) + rest f) rest st.batch (run_held plan held st)
unfolding run_held
held_run plan [] st rest treed parented closed single = record { followed = still (λ f. (0 + of_trees f st.suspended) + rest f); parented = parented; treed = tt; batch = refl }
held_run plan (batch ∷ held) st rest treed parented closed single =
    held_step (has_trees st.suspended) plan batch held st rest treed parented closed single (λ now p s. held_run plan held now rest treed.1 p closed s)

-- ---- lines

-- one more held batch
push_treed : (held : List Batch) (batch : Batch) → AreTreed held → IsTreed batch.requests → AreTreed (held ++ batch ∷ [])
push_treed held batch h b = all_append (λ (x : Batch). IsTreed x.requests) held (batch ∷ []) h (b, tt)

-- a batch that runs or is held
go_run : (run : Bool) (plan : Plan) (batch : Batch) (st : State) (rest : Weight) → AreTreed st.held → AllByRecursion AreParented st.suspended → IsTreed batch.requests → IsClosed rest
    → IsSingle (left_with st (λ f. tally f batch.requests + rest f)) → IsRun (left_with st (λ f. tally f batch.requests + rest f)) rest st.batch (go_if run plan batch st)
go_run true plan batch st rest held parented treed closed single =
    let others : Weight = λ f. in_batches f st.held + rest f in
    let before : Weight = left_with st (λ f. tally f batch.requests + rest f) in
    let ran : IsRound (λ f. (tally f batch.requests + of_trees f st.suspended) + others f) others (run_batch plan batch st) =
    batch_round plan batch st others treed parented (both_closed (λ f. in_batches f st.held) rest (held_closed st.held held) closed)
    (single_less before (λ f. (tally f batch.requests + of_trees f st.suspended) + others f) single (λ f. omega arith)) in
    let now : State = (run_batch plan batch st).state in
    record {
      followed = followed_as (λ f. (tally f batch.requests + of_trees f st.suspended) + others f) (λ f. of_trees f now.suspended + others f) before (left_with now rest)
          (run_batch plan batch st).events (λ f. omega arith) (λ f. omega arith) ran.followed;
      parented = ran.parented;
      treed = held;
      batch = refl;
    }
go_run false plan batch st rest held parented treed closed single =
    let before : Weight = left_with st (λ f. tally f batch.requests + rest f) in
    record {
      followed = record {
        sum = λ f. omega (arith, tally-append (λ (b : Batch). tally f b.requests) st.held (batch ∷ []));
        closed = tt;
      };
      parented = parented;
      treed = push_treed st.held batch held treed;
      batch = refl;
    }

-- a clear
clear_run : (has : Bool) (plan : Plan) (st : State) (rest : Weight) → AreTreed st.held → AllByRecursion AreParented st.suspended → IsClosed rest → IsSingle (left_with st rest)
    → IsRun (left_with st rest) rest st.batch (then_course (clear_if has plan st) (held_after plan))
clear_run true plan st rest held parented closed single =
    let others : Weight = λ f. in_batches f st.held + rest f in
    let first : IsRound (λ f. of_trees f st.suspended + others f) others (run_suspended plan st) =
    suspended_round plan st others parented (both_closed (λ f. in_batches f st.held) rest (held_closed st.held held) closed)
    (single_less (left_with st rest) (λ f. of_trees f st.suspended + others f) single (λ f. omega arith)) in
    let now : State = (run_suspended plan st).state in
    let followed : IsFollowed (left_with st rest) (left_with now rest) (run_suspended plan st).events =
    followed_as (λ f. of_trees f st.suspended + others f) (λ f. of_trees f now.suspended + others f) (left_with st rest) (left_with now rest) (run_suspended plan st).events
    (λ f. omega arith) (λ f. omega arith) first.followed in
    let more : IsRun (left_with now rest) rest now.batch (run_held plan now.held now) =
    held_run plan now.held now rest held first.parented closed (single_less (left_with st rest) (left_with now rest) single (λ f. omega (arith, followed.sum f))) in
    record {
      followed = followed_then (left_with st rest) (left_with now rest) (left_with (run_held plan now.held now).state rest) (run_suspended plan st).events (run_held plan now.held now).events followed
          more.followed;
      parented = more.parented;
      treed = more.treed;
      batch = more.batch;
    }
clear_run false plan st rest held parented closed single = held_run plan st.held st rest held parented closed single

-- what the batches that a script has still to run hold
abbrev ahead : List Request → List Item → Weight
ahead batch items f = tally (tally f) (batches_from batch items)

-- a line
line_run : (plan : Plan) (item : Item) (items : List Item) (st : State) → AllByRecursion IsTreed (batches_from st.batch (item ∷ items)) → AreTreed st.held → AllByRecursion AreParented st.suspended
    → IsSingle (left_with st (ahead st.batch (item ∷ items)))
    → IsRun (left_with st (ahead st.batch (item ∷ items))) (ahead (batch_after st.batch item) items) (batch_after st.batch item) (line plan item st)
line_run plan (RequestLine r) items st treed held parented single =
    record { followed = still (left_with st (ahead st.batch (RequestLine r ∷ items))); parented = parented; treed = held; batch = refl }
line_run plan Go items st treed held parented single =
    let now : State = record st { batch = []; batches = st.batches + 1 } in
    let run : IsRun _ (ahead [] items) [] _ =
    go_run (not (has_trees st.suspended) || goes_on plan.failmode) plan (record { number = st.batches + 1; requests = st.batch }) now (ahead [] items) held parented treed.0
    (batches_closed (batches_from [] items) treed.1) single in
    run
line_run plan Clear items st treed held parented single =
    let now : State = record st { point = st.point + 1 } in
    let run : IsRun (left_with now (ahead st.batch items)) (ahead st.batch items) st.batch _ =
    clear_run (has_trees st.suspended) plan now (ahead st.batch items) held parented (batches_closed (batches_from st.batch items) treed) single in
    run

-- the batches behind a line
treed_behind : (item : Item) (items : List Item) (batch : List Request) → AllByRecursion IsTreed (batches_from batch (item ∷ items)) → AllByRecursion IsTreed (batches_from (batch_after batch item) items)
treed_behind (RequestLine r) items batch h = h
treed_behind Go items batch h = h.1
treed_behind Clear items batch h = h

-- behind a panic nothing happens
quiet_lines : (plan : Plan) (items : List Item) (st : State) → st.panicked ≡ true → (run_lines plan items st).events ≡ []
unfolding run_lines
quiet_lines plan [] st ended = refl
quiet_lines plan (item ∷ items) st ended =
    ap (λ (b : Bool). (then_course (line_if b plan item st) (run_lines plan items)).events) ended ∙ quiet_lines plan items st ended

-- it is so or not
either : (b : Bool) → (b ≡ true) ⊎ (b ≡ false)
either true = inl refl
either false = inr refl

-- what a course takes from what there was, whatever it leaves
abbrev pub Follows : Weight → Course → Type 0
Follows before c = (left : Weight) × IsFollowed before left c.events

-- all lines
lines_run : (plan : Plan) (items : List Item) (st : State) → AllByRecursion IsTreed (batches_from st.batch items) → AreTreed st.held → AllByRecursion AreParented st.suspended
    → IsSingle (left_with st (ahead st.batch items)) → Follows (left_with st (ahead st.batch items)) (run_lines plan items st)
unfolding run_lines
lines_run plan [] st treed held parented single = (left_with st (ahead st.batch []), still (left_with st (ahead st.batch [])))
lines_run plan (item ∷ items) st treed held parented single =
    let before : Weight = left_with st (ahead st.batch (item ∷ items)) in
    let first = line_run plan item items st treed held parented single in
    let now : State = (line plan item st).state in
    let mid : Weight = left_with now (ahead (batch_after st.batch item) items) in
    let same : (f : Request → ℕ) → mid f ≡ left_with now (ahead now.batch items) f = λ f. ap (λ batch. left_with now (ahead batch items) f) (sym first.batch) in
    let followed : IsFollowed before (left_with now (ahead now.batch items)) (line plan item st).events =
    followed_as before mid before (left_with now (ahead now.batch items)) (line plan item st).events (λ f. refl) same first.followed in
    let more : Follows (left_with now (ahead now.batch items)) (run_lines plan items now) =
    lines_run plan items now (subst (λ batch. AllByRecursion IsTreed (batches_from batch items)) (sym first.batch) (treed_behind item items st.batch treed)) first.treed first.parented
    (single_less before (left_with now (ahead now.batch items)) single (λ f. omega (arith, followed.sum f))) in
    ⊎_elim
    (λ (ended : st.panicked ≡ true). (before, subst (λ events. IsFollowed before before events) (sym (quiet_lines plan (item ∷ items) st ended)) (still before)))
    (λ (goes : st.panicked ≡ false).
    subst (λ (b : Bool). Follows before (then_course (line_if b plan item st) (run_lines plan items))) (sym goes)
    (more.0, followed_then before (left_with now (ahead now.batch items)) more.0 (line plan item st).events (run_lines plan items now).events followed more.1))
    (either st.panicked)

-- ---- a script

-- a number below all isn't there
above_step : (b : Bool) (n m : ℕ) (q : Request) → (q.number == n) ≡ b → n < q.number → m ≡ 0 → counted b + m ≡ 0
above_step true n m q is above none = absurd (let same : q.number ≡ n = eqb-true q.number n is in omega arith)
above_step false n m q is above none = omega arith

-- nor is it among all that are above
above_none : (n : ℕ) (xs : List Request) → AllByRecursion (λ (q : Request). n < q.number) xs → tally (with_number n) xs ≡ 0
above_none n [] h = refl
above_none n (q ∷ xs) h = above_step (q.number == n) n (tally (with_number n) xs) q refl h.0 (above_none n xs h.1)

-- one in front of others stands once
once_step : (b : Bool) (n : ℕ) (x : Request) (xs : List Request) → (x.number == n) ≡ b → AllByRecursion (λ (q : Request). x.number < q.number) xs → tally (with_number n) xs ≤ 1
    → counted b + tally (with_number n) xs ≤ 1
once_step true n x xs is above most =
    let none : tally (with_number n) xs ≡ 0 = above_none n xs (subst (λ (k : ℕ). AllByRecursion (λ (q : Request). k < q.number) xs) (eqb-true x.number n is) above) in
    omega arith
once_step false n x xs is above most = omega arith

-- of rising numbers none stands twice
pub rising_once : (n : ℕ) (xs : List Request) → AreRising xs → tally (with_number n) xs ≤ 1
rising_once n [] h = omega arith
rising_once n (x ∷ xs) h = once_step (x.number == n) n x xs refl h.0 (rising_once n xs h.1)

-- batches hold no more than the requests of the lines
batches_less : (f : Request → ℕ) (batch : List Request) (items : List Item) → tally (tally f) (batches_from batch items) ≤ tally f batch + tally f (requests_of items)
batches_less f batch [] = omega arith
batches_less f batch (RequestLine r ∷ items) = omega (arith, batches_less f (batch ++ r ∷ []) items, tally-append f batch (r ∷ []))
batches_less f batch (Go ∷ items) = omega (arith, batches_less f [] items)
batches_less f batch (Clear ∷ items) = batches_less f batch items

-- orderly batches have their parents first, and rise
treed_from : (apart : Bool) (batch : List Request) (items : List Item) → AllByRecursion (IsOrderlyBatch apart) (batches_from batch items) → AreRising (batch ++ requests_of items)
    → AllByRecursion IsTreed (batches_from batch items)
treed_from apart batch [] orderly rising = tt
treed_from apart batch (RequestLine r ∷ items) orderly rising =
    treed_from apart (batch ++ r ∷ []) items orderly (subst AreRising (sym (append_assoc batch (r ∷ []) (requests_of items))) rising)
treed_from apart batch (Go ∷ items) orderly rising = (
  record { parents = orderly.0.parents; rising = rising_front batch (requests_of items) rising },
  treed_from apart [] items orderly.1 (rising_back batch (requests_of items) rising),
)
treed_from apart batch (Clear ∷ items) orderly rising = treed_from apart batch items orderly rising

-- what finishes in a script's run was among its requests, and is closed
pub script_follows : (apart : Bool) (script : Script) (images : Images) (entries : List Choice) → AreOrderly apart script.items
    → Follows (λ f. tally (tally f) (batches_of script.items)) (run_script script images entries)
script_follows apart script images entries orderly =
    let start : State = start_state images in
    let whole : Weight = λ f. tally (tally f) (batches_of script.items) in
    let single : IsSingle (left_with start (ahead [] script.items)) =
    λ n. omega (arith, batches_less (with_number n) [] script.items, rising_once n (requests_of script.items) orderly.rising) in
    let all : Follows (left_with start (ahead [] script.items)) (run_script script images entries) =
    lines_run (plan_of script images entries) script.items start (treed_from apart [] script.items orderly.batches orderly.rising) tt tt single in
    (all.0, followed_as (left_with start (ahead [] script.items)) all.0 whole all.0 (run_script script images entries).events (λ f. omega arith) (λ f. refl) all.1)

-- no more of a kind finish than a script has
pub batches_among : (f : Request → ℕ) (items : List Item) → tally (tally f) (batches_of items) ≤ tally f (requests_of items)
batches_among f items = omega (arith, batches_less f [] items)
