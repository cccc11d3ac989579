-- A run is its rounds from what each begins with, and the traces of these lead from the first images to the last.
use Rattle.std.proofs.Common.{◌≡◌, ◌+◌, Bool, true, false, List, [], ◌∷◌, ◌++◌, map, ◌||◌, not, refl, sym, ap, ◌∙◌, subst}
use Rattle.zio_types.specs.Choices.{Choice}
use Rattle.zio_script.specs.declared.script.Item.{Item}
use Rattle.zio_script.specs.declared.script.Item.TheVariants.{Request as RequestLine, Go, Clear}
use Rattle.zio_script.specs.declared.script.Script.{Script}
use Rattle.zio_cksum.specs.Images.{Images}
use Rattle.zio_gang.specs.Attempts.{Terms}
use Rattle.zio_gang.specs.Runs.{Batch, Course, Event, Plan, Round, State, clear_if, go_if, goes_on, has_trees, held_after, held_if, line, line_if, plan_of, rounds_of, run_batch, run_held, run_lines, run_script, run_suspended, start_state, then_course}
use Rattle.zio_gang.specs.Runs.Event.{RanRound, HeldBatch}
use Rattle.zio_trace.specs.Programs.{Deed, Happen}
use Rattle.zio_trace.specs.RoundTraces.{LeadsBy, StopsAtSingles}
use Rattle.zio_trace.specs.RunTraces.{AreJoined, RoundStart, batch_start, clear_starts, held_starts, held_starts_if, in_round, line_starts, line_starts_if, means_in_rounds, round_from, starts_from, starts_if, starts_of, suspended_start, trace_from, trace_in_rounds, whole_trace}
use Rattle.zio_trace.specs.Tasks.{Task, Value, means}
use Rattle.zio_trace.proofs.RoundTraceLemmas.{round_leads}
use Rattle.zio_trace.proofs.TraceLemmas.{happen_join}

-- ---- the starts of a run

rounds_append : (xs ys : List Event) → rounds_of (xs ++ ys) ≡ rounds_of xs ++ rounds_of ys
rounds_append [] ys = refl
rounds_append (RanRound round ∷ xs) ys = ap (λ (rs : List Round). round ∷ rs) (rounds_append xs ys)
rounds_append (HeldBatch n ∷ xs) ys = rounds_append xs ys

map_append : {X Y : Type 0} (f : X → Y) (xs ys : List X) → map f (xs ++ ys) ≡ map f xs ++ map f ys
map_append f [] ys = refl
map_append f (x ∷ xs) ys = ap (λ (zs : List _). f x ∷ zs) (map_append f xs ys)

joined_append : (j : List Choice) (xs ys : List RoundStart) (before mid after : Images) → AreJoined j xs before mid → AreJoined j ys mid after → AreJoined j (xs ++ ys) before after
joined_append j [] ys before mid after h k = subst (λ (i : Images). AreJoined j ys i after) (sym h) k
joined_append j (x ∷ xs) ys before mid after h k = (h.0, joined_append j xs ys (round_from j x).images mid after h.1 k)

-- the course's rounds come of these starts, from these images on
record Follows (j : List Choice) (c : Course) (starts : List RoundStart) (before : Images) : Type 0 where
  rounds : rounds_of c.events ≡ map (round_from j) starts
  joined : AreJoined j starts before c.state.images

follows_then : (j : List Choice) (c : Course) (later : State → Course) (xs ys : List RoundStart) (before : Images) → Follows j c xs before → Follows j (later c.state) ys c.state.images → Follows j (then_course c later) (xs ++ ys) before
follows_then j c later xs ys before h k = record {
  rounds = rounds_append c.events (later c.state).events ∙ (λ i. h.rounds i ++ k.rounds i) ∙ sym (map_append (round_from j) xs ys);
  joined = joined_append j xs ys before c.state.images (later c.state).state.images h.joined k.joined;
}

module _ (plan : Plan) where
  abbrev F : Course → List RoundStart → Images → Type 0
  F = Follows plan.journal

  batch_follows : (batch : Batch) (st : State) → F (run_batch plan batch st) (batch_start plan batch st ∷ []) st.images
  batch_follows batch st = record { rounds = refl; joined = (refl, refl) }

  suspended_follows : (st : State) → F (run_suspended plan st) (suspended_start plan st ∷ []) st.images
  suspended_follows st = record { rounds = refl; joined = (refl, refl) }

  go_follows : (runs : Bool) (batch : Batch) (st : State) → F (go_if runs plan batch st) (starts_if runs (batch_start plan batch st)) st.images
  go_follows true batch st = batch_follows batch st
  go_follows false batch st = record { rounds = refl; joined = refl }

  held_step : (stop : Bool) (batch : Batch) (held : List Batch) (st : State) → F (run_held plan held (run_batch plan batch st).state) (held_starts plan held (run_batch plan batch st).state) (run_batch plan batch st).state.images
      → F (held_if stop (batch ∷ held) st (λ now. then_course (run_batch plan batch now) (run_held plan held))) (held_starts_if stop plan batch st (held_starts plan held)) st.images
  held_step true batch held st h = record { rounds = refl; joined = refl }
  held_step false batch held st h =
      follows_then plan.journal (run_batch plan batch st) (run_held plan held) (batch_start plan batch st ∷ []) (held_starts plan held (run_batch plan batch st).state) st.images (batch_follows batch st) h

  held_follows : (held : List Batch) (st : State) → F (run_held plan held st) (held_starts plan held st) st.images
  unfolding run_held
  held_follows [] st = record { rounds = refl; joined = refl }
  held_follows (batch ∷ held) st = held_step (has_trees st.suspended) batch held st (held_follows held (run_batch plan batch st).state)

  if_follows : (has : Bool) (st : State) → F (clear_if has plan st) (starts_if has (suspended_start plan st)) st.images
  if_follows true st = suspended_follows st
  if_follows false st = record { rounds = refl; joined = refl }

  clear_follows : (has : Bool) (st : State) → F (then_course (clear_if has plan st) (held_after plan)) (clear_starts has plan st) st.images
  clear_follows has st =
      let then : State = (clear_if has plan st).state in
      follows_then plan.journal (clear_if has plan st) (held_after plan) (starts_if has (suspended_start plan st)) (held_starts plan then.held then) st.images (if_follows has st) (held_follows then.held then)

  line_follows : (item : Item) (st : State) → F (line plan item st) (line_starts plan item st) st.images
  line_follows (RequestLine r) st = record { rounds = refl; joined = refl }
  line_follows Go st =
      go_follows (not (has_trees st.suspended) || goes_on plan.failmode) (record { number = st.batches + 1; requests = st.batch }) (record st { batch = []; batches = st.batches + 1 })
  line_follows Clear st = clear_follows (has_trees st.suspended) (record st { point = st.point + 1 })

  item_follows : (ended : Bool) (item : Item) (st : State) → F (line_if ended plan item st) (line_starts_if ended plan item st) st.images
  item_follows true item st = record { rounds = refl; joined = refl }
  item_follows false item st = line_follows item st

  lines_follow : (items : List Item) (st : State) → F (run_lines plan items st) (starts_from plan items st) st.images
  unfolding run_lines
  lines_follow [] st = record { rounds = refl; joined = refl }
  lines_follow (item ∷ items) st =
      let then : State = (line_if st.panicked plan item st).state in
      follows_then plan.journal (line_if st.panicked plan item st) (run_lines plan items) (line_starts_if st.panicked plan item st) (starts_from plan items then) st.images
      (item_follows st.panicked item st) (lines_follow items then)

pub run_rounds : (script : Script) (images : Images) (j : List Choice) → rounds_of (run_script script images j).events ≡ map (round_from j) (starts_of script images j)
run_rounds script images j = (lines_follow (plan_of script images j) script.items (start_state images)).rounds

pub run_joined : (script : Script) (images : Images) (j : List Choice) → AreJoined j (starts_of script images j) images (run_script script images j).state.images
run_joined script images j = (lines_follow (plan_of script images j) script.items (start_state images)).joined

-- ---- traces

pub start_leads : (stops : Task → Bool) (j : List Choice) (s : RoundStart) → StopsAtSingles stops → LeadsBy stops j s.terms (trace_from stops j s) s.images (round_from j s).images (round_from j s).asks
start_leads stops j s h = round_leads stops j s.terms h s.trees s.images

happen_in : (j : List Choice) (t : Terms) (ds : List (Deed Task Value)) (before after : Images) → Happen (means j t) ds before after → Happen (means_in_rounds j) (map (in_round t) ds) before after
happen_in j t [] before after h = h
happen_in j t (d ∷ ds) before after h = (h.0, happen_in j t ds (means j t d.op before).images after h.1)

starts_lead : (stops : Task → Bool) (j : List Choice) → StopsAtSingles stops → (starts : List RoundStart) (before after : Images) → AreJoined j starts before after → Happen (means_in_rounds j) (trace_in_rounds stops j starts) before after
starts_lead stops j h [] before after joined = joined
starts_lead stops j h (s ∷ starts) before after joined =
    happen_join (means_in_rounds j) (map (in_round s.terms) (trace_from stops j s)) (trace_in_rounds stops j starts) before (round_from j s).images after
    (subst (λ (i : Images). Happen (means_in_rounds j) (map (in_round s.terms) (trace_from stops j s)) i (round_from j s).images) joined.0
    (happen_in j s.terms (trace_from stops j s) s.images (round_from j s).images (start_leads stops j s h).happen))
    (starts_lead stops j h starts (round_from j s).images after joined.1)

pub run_leads : (stops : Task → Bool) (script : Script) (images : Images) (j : List Choice) → StopsAtSingles stops → Happen (means_in_rounds j) (whole_trace stops script images j) images (run_script script images j).state.images
run_leads stops script images j h = starts_lead stops j h (starts_of script images j) images (run_script script images j).state.images (run_joined script images j)
