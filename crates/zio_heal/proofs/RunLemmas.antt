-- In the run of a script whose requests may not fail, no round begins with others or with a child's error.
use Rattle.std.proofs.Common.{◌≡◌, ◌≤◌, ℕ, ◌+◌, List, [], ◌∷◌, ◌++◌, count_by, Bool, true, false, not, ◌&&◌, ◌||◌, nat_le, refl, sym, subst, arith}
use Rattle.std.specs.List.{AllByRecursion, list_all}
use Rattle.zio_types.specs.Choices.{Choice}
use Rattle.zio_faults.specs.declared.table.Row.{Row}
use Rattle.zio_script.specs.declared.script.Item.{Item}
use Rattle.zio_script.specs.declared.script.Item.TheVariants.{Request as RequestLine, Go, Clear}
use Rattle.zio_script.specs.declared.script.Script.{Script}
use Rattle.zio_script.specs.Requests.{requests_of}
use Rattle.zio_script.specs.Whys.{is_clear}
use Rattle.zio_cksum.specs.Images.{Images, Setting}
use Rattle.zio_cksum.proofs.AllLemmas.{all_append, all_weaker}
use Rattle.zio_gang.specs.Rounds.{Admitted, admitted, is_bound, settle_each, trees_of}
use Rattle.zio_gang.specs.Runs.{Batch, Plan, State, clear_if, go_if, goes_on, has_trees, held_if, line, line_if, plan_of, run_batch, run_held, run_suspended, start_state, terms_of}
use Rattle.zio_trace.specs.RunTraces.{RoundStart, batch_start, held_starts, held_starts_if, line_starts, line_starts_if, starts_from, starts_if, starts_of, suspended_start}
use Rattle.zio_heal.specs.Copies.{IsPastFaults, StoresAsGiven}
use Rattle.zio_heal.specs.Discipline.{AreUnfailing, EndWithoutError, IsUnfailing, MayNotFail}
use Rattle.zio_heal.specs.Healed.{IsHealed, IsHealedRequest, heals_after, turns_stored}
use Rattle.zio_heal.proofs.DisciplineLemmas.{begin_fine, healed_must, round_fine}
use Rattle.zio_heal.proofs.TreeLists.{admitted_all, trees_all}

-- ---- batches

-- a batch may not fail as it enters its first round
batch_all : (plan : Plan) (batch : Batch) (st : State) → AllByRecursion MayNotFail batch.requests → AreUnfailing (batch_start plan batch st).trees
batch_all plan batch st h =
    let a : Admitted = admitted st.suspended (is_bound st.bound) (trees_of batch.requests) in
    begin_fine st.bound batch.number a.trees
    (admitted_all (AllByRecursion MayNotFail) (AllByRecursion MayNotFail) st.suspended (is_bound st.bound) (trees_of batch.requests) (λ tree none k. k) (trees_all MayNotFail batch.requests [] h tt))

-- ---- a run between two lines

-- its requests may not fail
record IsStern (st : State) : Type 0 where
  pub suspended : AreUnfailing st.suspended
  pub held : AllByRecursion (λ (b : Batch). AllByRecursion MayNotFail b.requests) st.held
  pub batch : AllByRecursion MayNotFail st.batch

batch_keeps : (plan : Plan) (batch : Batch) (st : State) → IsStern st → AllByRecursion MayNotFail batch.requests → IsStern (run_batch plan batch st).state
batch_keeps plan batch st h hb =
    let start : RoundStart = batch_start plan batch st in
    let ran = round_fine plan.journal start.terms start.trees start.images (batch_all plan batch st hb) in
    record {
      suspended = all_append (AllByRecursion IsUnfailing) st.suspended (settle_each plan.journal start.terms start.trees start.images).left h.suspended ran.1;
      held = h.held;
      batch = h.batch;
    }

suspended_keeps : (plan : Plan) (st : State) → IsStern st → IsStern (run_suspended plan st).state
suspended_keeps plan st h =
    let ran = round_fine plan.journal (terms_of plan st) st.suspended st.images h.suspended in
    record { suspended = ran.1; held = h.held; batch = h.batch }

held_if_keeps : (b : Bool) (plan : Plan) (batch : Batch) (held : List Batch) (st : State) → IsStern st → AllByRecursion (λ (x : Batch). AllByRecursion MayNotFail x.requests) (batch ∷ held)
    → IsStern (run_held plan held (run_batch plan batch st).state).state
    → IsStern (held_if b (batch ∷ held) st (λ now. record { events = (run_batch plan batch now).events ++ (run_held plan held (run_batch plan batch now).state).events; state = (run_held plan held (run_batch plan batch now).state).state })).state
held_if_keeps true plan batch held st h hs later = record { suspended = h.suspended; held = hs; batch = h.batch }
held_if_keeps false plan batch held st h hs later = later

held_keeps : (plan : Plan) (held : List Batch) (st : State) → IsStern st → AllByRecursion (λ (x : Batch). AllByRecursion MayNotFail x.requests) held → IsStern (run_held plan held st).state
unfolding run_held
held_keeps plan [] st h hs = record { suspended = h.suspended; held = tt; batch = h.batch }
held_keeps plan (batch ∷ held) st h hs =
    held_if_keeps (has_trees st.suspended) plan batch held st h hs
    (held_keeps plan held (run_batch plan batch st).state (batch_keeps plan batch st h hs.0) hs.1)

go_keeps : (b : Bool) (plan : Plan) (batch : Batch) (st : State) → IsStern st → AllByRecursion MayNotFail batch.requests → IsStern (go_if b plan batch st).state
go_keeps true plan batch st h hb = batch_keeps plan batch st h hb
go_keeps false plan batch st h hb = record {
  suspended = h.suspended;
  held = all_append (λ (b : Batch). AllByRecursion MayNotFail b.requests) st.held (batch ∷ []) h.held (hb, tt);
  batch = h.batch;
}

clear_keeps : (b : Bool) (plan : Plan) (st : State) → IsStern st → IsStern (clear_if b plan st).state
clear_keeps true plan st h = suspended_keeps plan st h
clear_keeps false plan st h = h

-- a line's request may not fail
abbrev LineMust : Item → Type 0
LineMust item = AllByRecursion MayNotFail (requests_of (item ∷ []))

line_keeps : (plan : Plan) (item : Item) (st : State) → IsStern st → LineMust item → IsStern (line plan item st).state
line_keeps plan (RequestLine r) st h must = record {
  suspended = h.suspended;
  held = h.held;
  batch = all_append MayNotFail st.batch (r ∷ []) h.batch must;
}
line_keeps plan Go st h must =
    go_keeps (not (has_trees st.suspended) || goes_on plan.failmode) plan (record { number = st.batches + 1; requests = st.batch })
    (record st { batch = []; batches = st.batches + 1 }) (record { suspended = h.suspended; held = h.held; batch = tt }) h.batch
line_keeps plan Clear st h must =
    let risen : State = record st { point = st.point + 1 } in
    let now : State = (clear_if (has_trees st.suspended) plan risen).state in
    let stern : IsStern now = clear_keeps (has_trees st.suspended) plan risen (record { suspended = h.suspended; held = h.held; batch = h.batch }) in
    held_keeps plan now.held now stern stern.held

line_if_keeps : (b : Bool) (plan : Plan) (item : Item) (st : State) → IsStern st → LineMust item → IsStern (line_if b plan item st).state
line_if_keeps true plan item st h must = h
line_if_keeps false plan item st h must = line_keeps plan item st h must

-- ---- what rounds begin with

abbrev StartsStern : RoundStart → Type 0
StartsStern s = AreUnfailing s.trees

one_start : (b : Bool) (s : RoundStart) → StartsStern s → AllByRecursion StartsStern (starts_if b s)
one_start true s h = (h, tt)
one_start false s h = tt

held_if_starts : (b : Bool) (plan : Plan) (batch : Batch) (st : State) (later : State → List RoundStart) → StartsStern (batch_start plan batch st) → AllByRecursion StartsStern (later (run_batch plan batch st).state) → AllByRecursion StartsStern (held_starts_if b plan batch st later)
held_if_starts true plan batch st later h hs = tt
held_if_starts false plan batch st later h hs = (h, hs)

all_held_starts : (plan : Plan) (held : List Batch) (st : State) → IsStern st → AllByRecursion (λ (x : Batch). AllByRecursion MayNotFail x.requests) held → AllByRecursion StartsStern (held_starts plan held st)
all_held_starts plan [] st h hs = tt
all_held_starts plan (batch ∷ held) st h hs =
    held_if_starts (has_trees st.suspended) plan batch st (held_starts plan held) (batch_all plan batch st hs.0)
    (all_held_starts plan held (run_batch plan batch st).state (batch_keeps plan batch st h hs.0) hs.1)

line_all : (plan : Plan) (item : Item) (st : State) → IsStern st → AllByRecursion StartsStern (line_starts plan item st)
line_all plan (RequestLine r) st h = tt
line_all plan Go st h =
    let batch : Batch = record { number = st.batches + 1; requests = st.batch } in
    let rest : State = record st { batch = []; batches = st.batches + 1 } in
    one_start (not (has_trees st.suspended) || goes_on plan.failmode) (batch_start plan batch rest) (batch_all plan batch rest h.batch)
line_all plan Clear st h =
    let risen : State = record st { point = st.point + 1 } in
    let now : State = (clear_if (has_trees st.suspended) plan risen).state in
    let stern : IsStern now = clear_keeps (has_trees st.suspended) plan risen (record { suspended = h.suspended; held = h.held; batch = h.batch }) in
    all_append StartsStern (starts_if (has_trees st.suspended) (suspended_start plan risen)) (held_starts plan now.held now)
    (one_start (has_trees st.suspended) (suspended_start plan risen) h.suspended)
    (all_held_starts plan now.held now stern stern.held)

line_if_all : (b : Bool) (plan : Plan) (item : Item) (st : State) → IsStern st → AllByRecursion StartsStern (line_starts_if b plan item st)
line_if_all true plan item st h = tt
line_if_all false plan item st h = line_all plan item st h

first_must : (item : Item) (items : List Item) → AllByRecursion MayNotFail (requests_of (item ∷ items)) → LineMust item × AllByRecursion MayNotFail (requests_of items)
first_must (RequestLine r) items h = ((h.0, tt), h.1)
first_must Go items h = (tt, h)
first_must Clear items h = (tt, h)

all_starts : (plan : Plan) (items : List Item) (st : State) → IsStern st → AllByRecursion MayNotFail (requests_of items) → AllByRecursion StartsStern (starts_from plan items st)
all_starts plan [] st h must = tt
all_starts plan (item ∷ items) st h must =
    let parts = first_must item items must in
    all_append StartsStern (line_starts_if st.panicked plan item st) (starts_from plan items (line_if st.panicked plan item st).state)
    (line_if_all st.panicked plan item st h)
    (all_starts plan items (line_if st.panicked plan item st).state (line_if_keeps st.panicked plan item st h parts.0) parts.1)

-- ---- the law

pub starts_law : (script : Script) (images : Images) (journal : List Choice) → IsHealed script → AllByRecursion (λ (s : RoundStart). AreUnfailing s.trees) (starts_of script images journal)
starts_law script images journal h =
    all_starts (plan_of script images journal) script.items (start_state images)
    (record { suspended = tt; held = tt; batch = tt })
    (all_weaker IsHealedRequest MayNotFail (requests_of script.items) healed_must h.requests)

pub ended_law : (script : Script) (images : Images) (journal : List Choice) → IsHealed script → AllByRecursion (λ (s : RoundStart). EndWithoutError (settle_each journal s.terms s.trees s.images).ended) (starts_of script images journal)
ended_law script images journal h =
    all_weaker (λ (s : RoundStart). AreUnfailing s.trees) (λ (s : RoundStart). EndWithoutError (settle_each journal s.terms s.trees s.images).ended) (starts_of script images journal)
    (λ s stern. (round_fine journal s.terms s.trees s.images stern).0) (starts_law script images journal h)

-- ---- rows

both_true : (a b : Bool) → (a && b) ≡ true → (a ≡ true) × (b ≡ true)
both_true true b h = (refl, h)
both_true false b h = absurd (cc)

not_true : (a : Bool) → not a ≡ true → a ≡ false
not_true true h = absurd (cc)
not_true false h = refl

at_most : (a b : ℕ) → nat_le a b ≡ true → a ≤ b
at_most a b h = grind (arith, h)

quiet_rows : (clears : ℕ) (rows : List Row) → list_all (heals_after clears) rows ≡ true → AllByRecursion (λ (row : Row). turns_stored row ≡ false) rows
quiet_rows clears [] h = tt
quiet_rows clears (row ∷ rows) h =
    let both = both_true (heals_after clears row) (list_all (heals_after clears) rows) h in
    (not_true (turns_stored row) (both_true (not (turns_stored row)) (nat_le row.until clears) both.0).0, quiet_rows clears rows both.1)

past_rows : (clears point : ℕ) (rows : List Row) → clears ≤ point → list_all (heals_after clears) rows ≡ true → AllByRecursion (λ (row : Row). row.until ≤ point) rows
past_rows clears point [] far h = tt
past_rows clears point (row ∷ rows) far h =
    let both = both_true (heals_after clears row) (list_all (heals_after clears) rows) h in
    let until : row.until ≤ clears = at_most row.until clears (both_true (not (turns_stored row)) (nat_le row.until clears) both.0).1 in
    (omega arith, past_rows clears point rows far both.1)

pub stores_law : (script : Script) (s : Setting) → IsHealed script → s.rows ≡ script.faults → StoresAsGiven s
stores_law script s h is =
    subst (λ (rows : List Row). AllByRecursion (λ (row : Row). turns_stored row ≡ false) rows) (sym is) (quiet_rows (count_by is_clear script.items) script.faults h.rows)

pub past_law : (script : Script) (s : Setting) → IsHealed script → s.rows ≡ script.faults → count_by is_clear script.items ≤ s.point → IsPastFaults s
past_law script s h is far =
    subst (λ (rows : List Row). AllByRecursion (λ (row : Row). row.until ≤ s.point) rows) (sym is) (past_rows (count_by is_clear script.items) s.point script.faults far h.rows)
