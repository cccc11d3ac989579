-- The trees of each round of an accepted script's run are families, and no number stands twice among them.
use Rattle.std.proofs.Common.{◌≡◌, ℕ, ◌+◌, ◌<◌, ◌≤◌, List, [], ◌∷◌, ◌++◌, Bool, true, false, ◌||◌, not, refl, sym, ap, ◌∙◌, subst, append_assoc, arith}
use Rattle.std.specs.List.{AllByRecursion}
use Rattle.zio_types.specs.Choices.{Choice}
use Rattle.zio_script.specs.declared.script.Item.{Item}
use Rattle.zio_script.specs.declared.script.Item.TheVariants.{Request as RequestLine, Go, Clear}
use Rattle.zio_script.specs.declared.script.Request.{Request}
use Rattle.zio_script.specs.declared.script.Script.{Script}
use Rattle.zio_script.specs.Accepted.{AreBehindParents, AreOrderly, AreRising, IsOrderlyBatch, batches_from, batches_of}
use Rattle.zio_script.specs.Grammar.{IsScriptOf}
use Rattle.zio_script.specs.Requests.{requests_of}
use Rattle.zio_script.specs.Whys.{tells_reads_apart}
use Rattle.zio_script.proofs.AcceptedLemmas.{reading_orderly}
use Rattle.zio_cksum.specs.Images.{Images}
use Rattle.zio_cksum.proofs.AllLemmas.{all_append, all_weaker}
use Rattle.zio_gang.specs.Attempts.{Pending}
use Rattle.zio_gang.specs.Rounds.{Admitted, Ran, admitted, is_bound, pending_trees, settle_each, trees_of}
use Rattle.zio_gang.specs.Runs.{Batch, Course, Plan, State, clear_if, go_if, goes_on, has_trees, held_after, held_if, line, line_if, plan_of, run_batch, run_held, run_suspended, start_state, terms_of, then_course}
use Rattle.zio_gang.proofs.FateLemmas.{admitted_sum, batch_held, of_pending, of_trees, pending_sum, rising_back, rising_front, tally, tally-append, trees_sum}
use Rattle.zio_gang.proofs.FateRuns.{IsTreed}
use Rattle.zio_trace.specs.Keys.{bit}
use Rattle.zio_trace.specs.Labels.{same_number}
use Rattle.zio_trace.specs.RunTraces.{AreFamilies, RoundStart, batch_start, clear_starts, held_starts, held_starts_if, line_starts, line_starts_if, starts_from, starts_if, starts_of, suspended_start}
use Rattle.zio_trace.proofs.GraftLemmas.{trees_families}
use Rattle.zio_trace.proofs.LabelLemmas.{number_is}
use Rattle.zio_trace.proofs.LeftFamilies.{Families, admitted_families, each_families, families_are, numbered}

-- ---- rising numbers

above_step : (b : Bool) (n : ℕ) (x : Request) (xs : List Request) → same_number x.number n ≡ b → n < x.number → tally (numbered n) xs ≡ 0 → bit b + tally (numbered n) xs ≡ 0
above_step true n x xs e above none = absurd (let same : x.number ≡ n = number_is x.number n e in omega arith)
above_step false n x xs e above none = omega (arith, none)

above_none : (n : ℕ) (xs : List Request) → AllByRecursion (λ (q : Request). n < q.number) xs → tally (numbered n) xs ≡ 0
above_none n [] h = refl
above_none n (x ∷ xs) h = above_step (same_number x.number n) n x xs refl h.0 (above_none n xs h.1)

once_step : (b : Bool) (n : ℕ) (x : Request) (xs : List Request) → same_number x.number n ≡ b → AllByRecursion (λ (q : Request). x.number < q.number) xs → tally (numbered n) xs ≤ 1 → bit b + tally (numbered n) xs ≤ 1
once_step true n x xs e above most =
    let same : x.number ≡ n = number_is x.number n e in
    let none : tally (numbered n) xs ≡ 0 = above_none n xs (subst (λ (k : ℕ). AllByRecursion (λ (q : Request). k < q.number) xs) same above) in
    omega (arith, none)
once_step false n x xs e above most = omega (arith, most)

rising_once : (n : ℕ) (xs : List Request) → AreRising xs → tally (numbered n) xs ≤ 1
rising_once n [] h = omega arith
rising_once n (x ∷ xs) h = once_step (same_number x.number n) n x xs refl h.0 (rising_once n xs h.1)

-- ---- what stands in a run

abbrev in_batches : (Request → ℕ) → List Batch → ℕ
in_batches f held = tally (λ (b : Batch). tally f b.requests) held

abbrev AreTreed : List Batch → Type 0
AreTreed held = AllByRecursion (λ (b : Batch). IsTreed b.requests) held

abbrev StartsAre : List RoundStart → Type 0
StartsAre starts = AllByRecursion (λ (s : RoundStart). AreFamilies s.trees) starts

module _ (plan : Plan) where
  -- ---- a round, beside so many of each number elsewhere

  record RoundRan (start : RoundStart) (c : Course) (rest : ℕ → ℕ) : Type 0 where
    start_is : AreFamilies start.trees
    families : Families c.state.suspended
    once : (n : ℕ) → of_trees (numbered n) c.state.suspended + rest n ≤ 1

  batch_ran : (batch : Batch) (st : State) (rest : ℕ → ℕ) → IsTreed batch.requests → Families st.suspended → ((n : ℕ) → tally (numbered n) batch.requests + (of_trees (numbered n) st.suspended + rest n) ≤ 1)
      → RoundRan (batch_start plan batch st) (run_batch plan batch st) rest
  batch_ran batch st rest treed families once =
      let a : Admitted = admitted st.suspended (is_bound st.bound) (trees_of batch.requests) in
      let trees : List (List Pending) = pending_trees st.bound batch.number a.trees in
      let ran : Ran = settle_each plan.journal (terms_of plan st) trees st.images in
      let are : Families trees = admitted_families st.bound batch.number st.suspended (is_bound st.bound) (trees_of batch.requests) (trees_families st.bound batch.number batch.requests treed.rising) in
      record {
        start_is = families_are trees are (λ n. let l : tally (numbered n) batch.requests + (of_trees (numbered n) st.suspended + rest n) ≤ 1 = once n in omega (
          arith,
          batch_held batch.requests treed.parents treed.rising (numbered n),
          admitted_sum (numbered n) st.suspended (is_bound st.bound) (trees_of batch.requests),
          pending_sum (numbered n) st.bound batch.number a.trees,
        ));
        families = all_append _ st.suspended ran.left families (each_families plan.journal (terms_of plan st) trees st.images are);
        once = λ n. let l : tally (numbered n) batch.requests + (of_trees (numbered n) st.suspended + rest n) ≤ 1 = once n in omega (
          arith,
          batch_held batch.requests treed.parents treed.rising (numbered n),
          admitted_sum (numbered n) st.suspended (is_bound st.bound) (trees_of batch.requests),
          pending_sum (numbered n) st.bound batch.number a.trees,
          trees_sum (numbered n) plan.journal (terms_of plan st) trees st.images,
          tally-append (of_pending (numbered n)) st.suspended ran.left,
        );
      }

  suspended_ran : (st : State) (rest : ℕ → ℕ) → Families st.suspended → ((n : ℕ) → of_trees (numbered n) st.suspended + rest n ≤ 1) → RoundRan (suspended_start plan st) (run_suspended plan st) rest
  suspended_ran st rest families once = record {
    start_is = families_are st.suspended families (λ n. let l : of_trees (numbered n) st.suspended + rest n ≤ 1 = once n in omega arith);
    families = each_families plan.journal (terms_of plan st) st.suspended st.images families;
    once = λ n. let l : of_trees (numbered n) st.suspended + rest n ≤ 1 = once n in omega (arith, trees_sum (numbered n) plan.journal (terms_of plan st) st.suspended st.images);
  }

  -- ---- held batches

  record HeldRan (st : State) (c : Course) (starts : List RoundStart) (rest : ℕ → ℕ) : Type 0 where
    starts_are : StartsAre starts
    families : Families c.state.suspended
    treed : AreTreed c.state.held
    batch : c.state.batch ≡ st.batch
    once : (n : ℕ) → in_batches (numbered n) c.state.held + (of_trees (numbered n) c.state.suspended + rest n) ≤ 1

  held_step : (stop : Bool) (batch : Batch) (held : List Batch) (st : State) (rest : ℕ → ℕ) → AreTreed (batch ∷ held) → Families st.suspended
      → ((n : ℕ) → in_batches (numbered n) (batch ∷ held) + (of_trees (numbered n) st.suspended + rest n) ≤ 1)
      → RoundRan (batch_start plan batch st) (run_batch plan batch st) (λ n. in_batches (numbered n) held + rest n)
      → HeldRan (run_batch plan batch st).state (run_held plan held (run_batch plan batch st).state) (held_starts plan held (run_batch plan batch st).state) rest
      → HeldRan st (held_if stop (batch ∷ held) st (λ now. then_course (run_batch plan batch now) (run_held plan held))) (held_starts_if stop plan batch st (held_starts plan held)) rest
  held_step true batch held st rest treed families once ran later = record { starts_are = tt; families = families; treed = treed; batch = refl; once = once }
  held_step false batch held st rest treed families once ran later =
      record { starts_are = (ran.start_is, later.starts_are); families = later.families; treed = later.treed; batch = later.batch; once = later.once }

  held_ran : (held : List Batch) (st : State) (rest : ℕ → ℕ) → AreTreed held → Families st.suspended → ((n : ℕ) → in_batches (numbered n) held + (of_trees (numbered n) st.suspended + rest n) ≤ 1)
      → HeldRan st (run_held plan held st) (held_starts plan held st) rest
  unfolding run_held
  held_ran [] st rest treed families once = record { starts_are = tt; families = families; treed = tt; batch = refl; once = once }
  held_ran (batch ∷ held) st rest treed families once =
      let ran : RoundRan (batch_start plan batch st) (run_batch plan batch st) (λ n. in_batches (numbered n) held + rest n) =
      batch_ran batch st (λ n. in_batches (numbered n) held + rest n) treed.0 families
      (λ n. let l : in_batches (numbered n) (batch ∷ held) + (of_trees (numbered n) st.suspended + rest n) ≤ 1 = once n in omega arith) in
      held_step (has_trees st.suspended) batch held st rest treed families once ran
      (held_ran held (run_batch plan batch st).state rest treed.1 ran.families
      (λ n. let l : of_trees (numbered n) (run_batch plan batch st).state.suspended + (in_batches (numbered n) held + rest n) ≤ 1 = ran.once n in omega arith))

  -- ---- a line

  record IsKept (st : State) (items : List Item) : Type 0 where
    families : Families st.suspended
    treed : AreTreed st.held
    parents : AllByRecursion (AreBehindParents []) (batches_from st.batch items)
    rising : AreRising (st.batch ++ requests_of items)
    once : (n : ℕ) → in_batches (numbered n) st.held + (of_trees (numbered n) st.suspended + (tally (numbered n) (requests_of items) + tally (numbered n) st.batch)) ≤ 1

  record LineRan (c : Course) (starts : List RoundStart) (items : List Item) : Type 0 where
    starts_are : StartsAre starts
    kept : IsKept c.state items

  push_treed : (held : List Batch) (batch : Batch) → AreTreed held → IsTreed batch.requests → AreTreed (held ++ batch ∷ [])
  push_treed held batch h b = all_append (λ (x : Batch). IsTreed x.requests) held (batch ∷ []) h (b, tt)

  go_ran : (runs : Bool) (batch : Batch) (st : State) (items : List Item) → st.batch ≡ [] → IsTreed batch.requests → AllByRecursion (AreBehindParents []) (batches_from [] items) → AreRising (requests_of items)
      → Families st.suspended → AreTreed st.held
      → ((n : ℕ) → in_batches (numbered n) st.held + (of_trees (numbered n) st.suspended + (tally (numbered n) (requests_of items) + tally (numbered n) batch.requests)) ≤ 1)
      → LineRan (go_if runs plan batch st) (starts_if runs (batch_start plan batch st)) items
  go_ran true batch st items none treed parents rising families held once =
      let rest : ℕ → ℕ = λ n. in_batches (numbered n) st.held + tally (numbered n) (requests_of items) in
      let ran : RoundRan (batch_start plan batch st) (run_batch plan batch st) rest =
      batch_ran batch st rest treed families
      (λ n. let l : in_batches (numbered n) st.held + (of_trees (numbered n) st.suspended + (tally (numbered n) (requests_of items) + tally (numbered n) batch.requests)) ≤ 1 = once n in omega arith) in
      record {
        starts_are = (ran.start_is, tt);
        kept = record {
          families = ran.families;
          treed = held;
          parents = subst (λ (b : List Request). AllByRecursion (AreBehindParents []) (batches_from b items)) (sym none) parents;
          rising = subst (λ (b : List Request). AreRising (b ++ requests_of items)) (sym none) rising;
          once = λ n.
              let l : of_trees (numbered n) (run_batch plan batch st).state.suspended + rest n ≤ 1 = ran.once n in
              let e : tally (numbered n) st.batch ≡ 0 = ap (tally (numbered n)) none in omega arith;
        };
      }
  go_ran false batch st items none treed parents rising families held once = record {
    starts_are = tt;
    kept = record {
      families = families;
      treed = push_treed st.held batch held treed;
      parents = subst (λ (b : List Request). AllByRecursion (AreBehindParents []) (batches_from b items)) (sym none) parents;
      rising = subst (λ (b : List Request). AreRising (b ++ requests_of items)) (sym none) rising;
      once = λ n.
          let l : in_batches (numbered n) st.held + (of_trees (numbered n) st.suspended + (tally (numbered n) (requests_of items) + tally (numbered n) batch.requests)) ≤ 1 = once n in
          let e : tally (numbered n) st.batch ≡ 0 = ap (tally (numbered n)) none in
          omega (arith, tally-append (λ (x : Batch). tally (numbered n) x.requests) st.held (batch ∷ []));
    };
  }

  -- the suspended trees ran, or none did
  record FirstRan (has : Bool) (st : State) (rest : ℕ → ℕ) : Type 0 where
    starts_are : StartsAre (starts_if has (suspended_start plan st))
    families : Families (clear_if has plan st).state.suspended
    held : (clear_if has plan st).state.held ≡ st.held
    batch : (clear_if has plan st).state.batch ≡ st.batch
    once : (n : ℕ) → of_trees (numbered n) (clear_if has plan st).state.suspended + rest n ≤ 1

  first_ran : (has : Bool) (st : State) (rest : ℕ → ℕ) → Families st.suspended → ((n : ℕ) → of_trees (numbered n) st.suspended + rest n ≤ 1) → FirstRan has st rest
  first_ran true st rest families once =
      let ran : RoundRan (suspended_start plan st) (run_suspended plan st) rest = suspended_ran st rest families once in
      record { starts_are = (ran.start_is, tt); families = ran.families; held = refl; batch = refl; once = ran.once }
  first_ran false st rest families once = record { starts_are = tt; families = families; held = refl; batch = refl; once = once }

  clear_ran : (has : Bool) (st : State) (items : List Item) → IsKept st items → LineRan (then_course (clear_if has plan st) (held_after plan)) (clear_starts has plan st) items
  clear_ran has st items k =
      let rest : ℕ → ℕ = λ n. tally (numbered n) (requests_of items) + tally (numbered n) st.batch in
      let then : State = (clear_if has plan st).state in
      let first : FirstRan has st (λ n. in_batches (numbered n) st.held + rest n) =
      first_ran has st (λ n. in_batches (numbered n) st.held + rest n) k.families
      (λ n. let l : in_batches (numbered n) st.held + (of_trees (numbered n) st.suspended + (tally (numbered n) (requests_of items) + tally (numbered n) st.batch)) ≤ 1 = k.once n in omega arith) in
      let later : HeldRan then (run_held plan then.held then) (held_starts plan then.held then) rest =
      held_ran then.held then rest (subst AreTreed (sym first.held) k.treed) first.families
      (λ n.
      let l : of_trees (numbered n) then.suspended + (in_batches (numbered n) st.held + rest n) ≤ 1 = first.once n in
      let e : in_batches (numbered n) then.held ≡ in_batches (numbered n) st.held = ap (in_batches (numbered n)) first.held in omega arith) in
      let last : State = (run_held plan then.held then).state in
      let same : last.batch ≡ st.batch = later.batch ∙ first.batch in
      record {
        starts_are = all_append (λ (s : RoundStart). AreFamilies s.trees) (starts_if has (suspended_start plan st)) (held_starts plan then.held then) first.starts_are later.starts_are;
        kept = record {
          families = later.families;
          treed = later.treed;
          parents = subst (λ (b : List Request). AllByRecursion (AreBehindParents []) (batches_from b items)) (sym same) k.parents;
          rising = subst (λ (b : List Request). AreRising (b ++ requests_of items)) (sym same) k.rising;
          once = λ n.
              let l : in_batches (numbered n) last.held + (of_trees (numbered n) last.suspended + rest n) ≤ 1 = later.once n in
              let e : tally (numbered n) last.batch ≡ tally (numbered n) st.batch = ap (tally (numbered n)) same in omega arith;
        };
      }

  line_ran : (item : Item) (items : List Item) (st : State) → IsKept st (item ∷ items) → LineRan (line plan item st) (line_starts plan item st) items
  line_ran (RequestLine r) items st k = record {
    starts_are = tt;
    kept = record {
      families = k.families;
      treed = k.treed;
      parents = k.parents;
      rising = subst AreRising (sym (append_assoc st.batch (r ∷ []) (requests_of items))) k.rising;
      once = λ n.
          let l : in_batches (numbered n) st.held + (of_trees (numbered n) st.suspended + (tally (numbered n) (requests_of (RequestLine r ∷ items)) + tally (numbered n) st.batch)) ≤ 1 = k.once n in
          omega (arith, tally-append (numbered n) st.batch (r ∷ []));
    };
  }
  line_ran Go items st k =
      go_ran (not (has_trees st.suspended) || goes_on plan.failmode) (record { number = st.batches + 1; requests = st.batch }) (record st { batch = []; batches = st.batches + 1 }) items refl
      (record { parents = k.parents.0; rising = rising_front st.batch (requests_of items) k.rising }) k.parents.1 (rising_back st.batch (requests_of items) k.rising) k.families k.treed k.once
  line_ran Clear items st k =
      clear_ran (has_trees st.suspended) (record st { point = st.point + 1 }) items
      (record { families = k.families; treed = k.treed; parents = k.parents; rising = k.rising; once = k.once })

  -- ---- the lines behind one another

  none_starts : (items : List Item) (st : State) → st.panicked ≡ true → starts_from plan items st ≡ []
  none_starts [] st ended = refl
  none_starts (item ∷ items) st ended =
      ap (λ (b : Bool). line_starts_if b plan item st ++ starts_from plan items (line_if b plan item st).state) ended ∙ none_starts items st ended

  item_starts : (ended : Bool) (item : Item) (items : List Item) (st : State) → st.panicked ≡ ended → IsKept st (item ∷ items) → (IsKept (line plan item st).state items → StartsAre (starts_from plan items (line plan item st).state))
      → StartsAre (line_starts_if ended plan item st ++ starts_from plan items (line_if ended plan item st).state)
  item_starts true item items st ended k later = subst StartsAre (sym (none_starts items st ended)) tt
  item_starts false item items st ended k later =
      let ran : LineRan (line plan item st) (line_starts plan item st) items = line_ran item items st k in
      all_append (λ (s : RoundStart). AreFamilies s.trees) (line_starts plan item st) (starts_from plan items (line plan item st).state) ran.starts_are (later ran.kept)

  starts_are : (items : List Item) (st : State) → IsKept st items → StartsAre (starts_from plan items st)
  starts_are [] st k = tt
  starts_are (item ∷ items) st k = item_starts st.panicked item items st refl k (λ kept. starts_are items (line plan item st).state kept)

orderly_starts : (apart : Bool) (script : Script) (images : Images) (j : List Choice) → AreOrderly apart script.items → AllByRecursion (λ (s : RoundStart). AreFamilies s.trees) (starts_of script images j)
orderly_starts apart script images j orderly =
    starts_are (plan_of script images j) script.items (start_state images)
    (record {
      families = tt;
      treed = tt;
      parents = all_weaker (IsOrderlyBatch apart) (AreBehindParents []) (batches_of script.items) (λ batch b. b.parents) orderly.batches;
      rising = orderly.rising;
      once = λ n. let l : tally (numbered n) (requests_of script.items) ≤ 1 = rising_once n (requests_of script.items) orderly.rising in omega arith;
    })

pub script_starts : (text : List ℕ) (script : Script) (images : Images) (j : List Choice) → IsScriptOf text script → AllByRecursion (λ (s : RoundStart). AreFamilies s.trees) (starts_of script images j)
script_starts text script images j is = orderly_starts (tells_reads_apart script) script images j (reading_orderly text script is)
