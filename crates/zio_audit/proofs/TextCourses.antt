-- A script's course depends on a journal by the entries of its own rounds alone.
use Rattle.std.proofs.Common.{◌≡◌, ◌+◌, ◌++◌, ◌≤◌, ℕ, List, [], ◌∷◌, length, Bool, true, false, Some, None, refl, ap, ◌∙◌, arith, length-append}
use Rattle.zio_types.specs.Choices.{Choice}
use Rattle.zio_cksum.specs.Images.{Images}
use Rattle.zio_script.specs.declared.script.Item.{Item}
use Rattle.zio_script.specs.declared.script.Item.TheVariants.{Request as RequestLine, Go, Clear}
use Rattle.zio_script.specs.declared.script.Script.{Script}
use Rattle.zio_gang.specs.Attempts.{Pending}
use Rattle.zio_gang.specs.Journals.{choices_in}
use Rattle.zio_gang.specs.Rounds.{Admitted, Ran, admitted, is_bound, pending_trees, trees_of}
use Rattle.zio_gang.specs.Runs.{Batch, Course, Event, Plan, Round, State, add_events, after_round, clear_if, go_if, has_trees, held_after, held_if, line, line_if, plan_of, quiet, round_of, rounds_of, run_batch, run_held, run_lines, run_script, run_suspended, start_state, terms_of, then_course}
use Rattle.zio_gang.specs.Runs.Event.{RanRound, HeldBatch}
use Rattle.zio_gang.proofs.DependenceLemmas.{choices_law}

-- a plan with other entries
abbrev with_entries : Plan → List Choice → Plan
with_entries plan entries = record plan { journal = entries }

rounds_both : (xs ys : List Event) → rounds_of (xs ++ ys) ≡ rounds_of xs ++ rounds_of ys
rounds_both [] ys = refl
rounds_both (RanRound round ∷ xs) ys = ap (λ (rounds : List Round). round ∷ rounds) (rounds_both xs ys)
rounds_both (HeldBatch batch ∷ xs) ys = rounds_both xs ys

-- A course counts its rounds on from this number, and where it comes to the last at most the other is the same.
record AreAlike (last from : ℕ) (c d : Course) : Type 0 where
  counted : c.state.rounds ≡ from + length (rounds_of c.events)
  same : c.state.rounds ≤ last → c ≡ d

-- where no round is run
quiet_alike : (last : ℕ) (st : State) → AreAlike last st.rounds (quiet st) (quiet st)
quiet_alike last st = record { counted = omega arith; same = λ few. refl }

-- so are courses one after another
then_alike : (last from : ℕ) (c d : Course) (later more : State → Course) → AreAlike last from c d → ((st : State) → AreAlike last st.rounds (later st) (more st))
    → AreAlike last from (then_course c later) (then_course d more)
then_alike last from c d later more h k =
    let behind : AreAlike last c.state.rounds (later c.state) (more c.state) = k c.state in
    let ran : c.state.rounds ≡ from + length (rounds_of c.events) = h.counted in
    let all : (later c.state).state.rounds ≡ c.state.rounds + length (rounds_of (later c.state).events) = behind.counted in
    let both : length (rounds_of (c.events ++ (later c.state).events)) ≡ length (rounds_of c.events) + length (rounds_of (later c.state).events) =
    ap length (rounds_both c.events (later c.state).events) ∙ length-append (rounds_of c.events) (rounds_of (later c.state).events) in
    record {
      counted = omega arith;
      same = λ (few : (later c.state).state.rounds ≤ last).
          ap (add_events c.events) (behind.same few) ∙ ap (λ (first : Course). then_course first more) (h.same (omega arith));
    }

module _ (plan : Plan) (j k : List Choice) (last : ℕ) (same : (number : ℕ) → number ≤ last → choices_in number j ≡ choices_in number k) where
  -- a batch is the same
  batch_alike : (batch : Batch) (st : State) → AreAlike last st.rounds (run_batch (with_entries plan j) batch st) (run_batch (with_entries plan k) batch st)
  batch_alike batch st =
      let a : Admitted = admitted st.suspended (is_bound st.bound) (trees_of batch.requests) in
      let trees : List (List Pending) = pending_trees st.bound batch.number a.trees in
      record {
        counted = refl;
        same = λ few.
            ap (λ (ran : Ran). after_round plan st st.suspended (round_of st (Some batch.number) a.answered ran)) (choices_law j k (terms_of plan st) trees st.images (same (st.rounds + 1) few));
      }

  -- the round of suspended trees is the same
  suspended_alike : (st : State) → AreAlike last st.rounds (run_suspended (with_entries plan j) st) (run_suspended (with_entries plan k) st)
  suspended_alike st = record {
    counted = refl;
    same = λ few. ap (λ (ran : Ran). after_round plan st [] (round_of st None [] ran)) (choices_law j k (terms_of plan st) st.suspended st.images (same (st.rounds + 1) few));
  }

  -- a held batch that stays or runs, and those behind it
  next_alike : (stop : Bool) (batch : Batch) (held : List Batch) (st : State)
      → ((now : State) → AreAlike last now.rounds (run_held (with_entries plan j) held now) (run_held (with_entries plan k) held now))
      → AreAlike last st.rounds (held_if stop (batch ∷ held) st (λ now. then_course (run_batch (with_entries plan j) batch now) (run_held (with_entries plan j) held)))
      (held_if stop (batch ∷ held) st (λ now. then_course (run_batch (with_entries plan k) batch now) (run_held (with_entries plan k) held)))
  next_alike true batch held st later = quiet_alike last (record st { held = batch ∷ held })
  next_alike false batch held st later =
      then_alike last st.rounds (run_batch (with_entries plan j) batch st) (run_batch (with_entries plan k) batch st) (run_held (with_entries plan j) held) (run_held (with_entries plan k) held)
      (batch_alike batch st) later

  -- so are held batches
  held_alike : (held : List Batch) (st : State) → AreAlike last st.rounds (run_held (with_entries plan j) held st) (run_held (with_entries plan k) held st)
  unfolding run_held
  held_alike [] st = quiet_alike last (record st { held = [] })
  held_alike (batch ∷ held) st = next_alike (has_trees st.suspended) batch held st (held_alike held)

  go_alike : (run : Bool) (batch : Batch) (st : State) → AreAlike last st.rounds (go_if run (with_entries plan j) batch st) (go_if run (with_entries plan k) batch st)
  go_alike true batch st = batch_alike batch st
  go_alike false batch st = record { counted = omega arith; same = λ few. refl }

  -- so is what a clear runs first
  clear_alike : (has : Bool) (st : State) → AreAlike last st.rounds (clear_if has (with_entries plan j) st) (clear_if has (with_entries plan k) st)
  clear_alike true st = suspended_alike st
  clear_alike false st = quiet_alike last st

  -- so is what a line does
  line_alike : (item : Item) (st : State) → AreAlike last st.rounds (line (with_entries plan j) item st) (line (with_entries plan k) item st)
  line_alike (RequestLine r) st = quiet_alike last (record st { batch = st.batch ++ r ∷ [] })
  line_alike Go st = go_alike _ _ _
  line_alike Clear st =
      let now : State = record st { point = st.point + 1 } in
      then_alike last st.rounds (clear_if (has_trees st.suspended) (with_entries plan j) now) (clear_if (has_trees st.suspended) (with_entries plan k) now) (held_after (with_entries plan j)) (held_after (with_entries plan k))
      (clear_alike (has_trees st.suspended) now) (λ later. held_alike later.held later)

  -- so is it behind a panic
  line_if_alike : (stop : Bool) (item : Item) (st : State) → AreAlike last st.rounds (line_if stop (with_entries plan j) item st) (line_if stop (with_entries plan k) item st)
  line_if_alike true item st = quiet_alike last st
  line_if_alike false item st = line_alike item st

  -- so is what all lines do
  lines_alike : (items : List Item) (st : State) → AreAlike last st.rounds (run_lines (with_entries plan j) items st) (run_lines (with_entries plan k) items st)
  unfolding run_lines
  lines_alike [] st = quiet_alike last st
  lines_alike (item ∷ items) st =
      then_alike last st.rounds (line_if st.panicked (with_entries plan j) item st) (line_if st.panicked (with_entries plan k) item st) (run_lines (with_entries plan j) items) (run_lines (with_entries plan k) items)
      (line_if_alike st.panicked item st) (lines_alike items)

-- journals with the same entries in each of the course's rounds, which are numbered from 1 on, give the same course
pub course_until : (script : Script) (images : Images) (j k : List Choice)
    → ((number : ℕ) → number ≤ length (rounds_of (run_script script images j).events) → choices_in number j ≡ choices_in number k) → run_script script images j ≡ run_script script images k
course_until script images j k same =
    let course : Course = run_script script images j in
    let alike : AreAlike (length (rounds_of course.events)) 0 course (run_script script images k) =
    lines_alike (plan_of script images j) j k (length (rounds_of course.events)) same script.items (start_state images) in
    let counted : course.state.rounds ≡ 0 + length (rounds_of course.events) = alike.counted in
    alike.same (omega arith)

-- so do journals with the same entries in each round
pub course_same : (script : Script) (images : Images) (j k : List Choice) → ((number : ℕ) → choices_in number j ≡ choices_in number k) → run_script script images j ≡ run_script script images k
course_same script images j k same = course_until script images j k (λ number few. same number)
