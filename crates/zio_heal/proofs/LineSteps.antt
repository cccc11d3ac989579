-- A line of the script keeps what holds of the run, and so do all lines.
use Rattle.std.proofs.Common.{◌≡◌, ℕ, ◌^◌, ◌<◌, ◌≤◌, ◌+◌, List, [], ◌∷◌, ◌++◌, length, fold, ◌||◌, not, Bool, true, false, refl, sym, ap, ◌∙◌, subst, append_assoc, arith}
use Rattle.std.proofs.lemmas.List.{map-append}
use Rattle.std.specs.List.{AllByRecursion}
use Rattle.zio_script.specs.declared.script.Failmode.{Failmode}
use Rattle.zio_script.specs.declared.script.Item.{Item}
use Rattle.zio_script.specs.declared.script.Item.TheVariants.{Request as RequestLine, Go, Clear}
use Rattle.zio_script.specs.declared.script.Request.{Request}
use Rattle.zio_script.specs.Accepted.{batches_from}
use Rattle.zio_script.specs.Whys.{batch_after, is_clear}
use Rattle.zio_cksum.proofs.AllLemmas.{all_append}
use Rattle.zio_gang.specs.Fates.{unrun_line, unrun_lines}
use Rattle.zio_gang.specs.Runs.{Batch, Course, Plan, State, clear_if, go_if, goes_on, has_trees, held_after, line, line_if, quiet, run_batch, run_held, run_lines, run_suspended, then_course}
use Rattle.zio_gang.proofs.FateLemmas.{tally}
use Rattle.zio_trace.specs.RoundTraces.{is_single_or_piece}
use Rattle.zio_trace.specs.RunTraces.{RoundStart, batch_start, clear_starts, held_starts, line_starts, line_starts_if, starts_from, starts_if, suspended_start, trace_in_rounds}
use Rattle.zio_trace.proofs.ListLemmas.{all_front, all_rest}
use Rattle.zio_heal.specs.Given.{AreTrueReads, Deeds}
use Rattle.zio_heal.specs.PlainStore.{Plain}
use Rattle.zio_heal.specs.SafeRounds.{deeds_in}
use Rattle.zio_heal.proofs.BatchSteps.{batch_on, suspended_on}
use Rattle.zio_heal.proofs.TreeKids.{one_if}
use Rattle.zio_heal.proofs.RunStates.{AllAnswered, IsCalm, IsGround, IsLawfulStart, OnAt, RoundOut, safe_at}
use Rattle.zio_heal.proofs.UnderWay.{IsAnswered}
use Rattle.zio_heal.proofs.HeldSteps.{HaveBirths, HeldOut, answered_both, deeds_join, held_on, no_trees, one_deeds, reqs, some_trees}

-- how many of the lines are clears
abbrev pub clears_in : List Item → ℕ
clears_in items = tally (λ (item : Item). one_if (is_clear item)) items

module _ (plan : Plan) (sizes : ℕ → ℕ) (apart : Bool) (requests : List Request) (plain : Plain) (total : ℕ) (ground : IsGround plan sizes) where
  abbrev On : Deeds → State → List (List Request) → Type 0
  On ds st queue = OnAt plan sizes apart requests plain ds st queue

  abbrev Calm : State → Type 0
  Calm st = IsCalm plan sizes apart requests plain st

  abbrev Answered : Course → Type 0
  Answered c = AllAnswered plan sizes apart requests plain c

  abbrev AllLawful : List RoundStart → Type 0
  AllLawful starts = AllByRecursion (IsLawfulStart plan) starts

  abbrev deeds_of : List RoundStart → Deeds
  deeds_of starts = trace_in_rounds is_single_or_piece plan.journal starts

  -- ---- between two lines

  -- where these lines follow
  pub record IsAt (ds : Deeds) (st : State) (items : List Item) : Type 0 where
    pub on : On ds st (reqs st.held ++ batches_from st.batch items)
    pub births : HaveBirths st.held
    pub few : st.batches + length (batches_from st.batch items) < 2 ^ 64
    pub none_held : st.suspended ≡ [] → st.held ≡ []
    pub calm : Calm st
    pub point : st.point + clears_in items ≡ total

  record LineOut (c : Course) (items : List Item) (more : Deeds) (batch : List Request) : Type 0 where
    ds : Deeds
    at : IsAt ds c.state items
    accepts : AreTrueReads ds more
    answered : Answered c
    batch_is : c.state.batch ≡ batch

  -- ---- go

  module _ (items : List Item) (st : State) (ds more : Deeds) (at : IsAt ds st (Go ∷ items)) where
    abbrev batch : Batch
    batch = record { number = st.batches + 1; requests = st.batch }

    abbrev now : State
    now = record st { batch = []; batches = st.batches + 1 }

    held_more : reqs (st.held ++ batch ∷ []) ++ batches_from [] items ≡ reqs st.held ++ (st.batch ∷ batches_from [] items)
    held_more =
        ap (λ (qs : List (List Request)). qs ++ batches_from [] items) (map-append (λ (b : Batch). b.requests) st.held (batch ∷ []))
        ∙ append_assoc (reqs st.held) (st.batch ∷ []) (batches_from [] items)

    go_by : (runs has : Bool) → has_trees st.suspended ≡ has → runs ≡ not has → AllLawful (starts_if runs (batch_start plan batch now)) → AreTrueReads ds (deeds_of (starts_if runs (batch_start plan batch now)) ++ more)
        → LineOut (go_if runs plan batch now) items more []
    go_by true true has is lawful accepts = absurd (let no : true ≡ false = is in cc)
    go_by false false has is lawful accepts = absurd (let no : false ≡ true = is in cc)
    go_by true false has is lawful accepts =
        let none : st.suspended ≡ [] = no_trees st.suspended has in
        let held : st.held ≡ [] = at.none_held none in
        let first : RoundOut plan sizes apart requests plain (run_batch plan batch now) (batches_from [] items) more =
        batch_on plan sizes apart requests plain ground batch (batches_from [] items) now ds more none
        (subst (λ (hs : List Batch). On ds now (reqs hs ++ (st.batch ∷ batches_from [] items))) held at.on) (omega arith) (omega (arith, at.few)) lawful.0
        (subst (AreTrueReads ds) (one_deeds plan sizes apart requests plain ground (batch_start plan batch now) more) accepts) in
        record {
          ds = first.ds;
          at = record {
            on = subst (λ (hs : List Batch). On first.ds (run_batch plan batch now).state (reqs hs ++ batches_from [] items)) (sym held) first.on;
            births = at.births;
            few = omega (arith, at.few);
            none_held = λ e. held;
            calm = first.calm;
            point = omega (arith, at.point);
          };
          accepts = first.accepts;
          answered = first.answered;
          batch_is = refl;
        }
    go_by false true has is lawful accepts = record {
      ds = ds;
      at = record {
        on = subst (On ds now) (sym held_more) at.on;
        births = all_append (λ (b : Batch). (1 ≤ b.number) × (b.number < 2 ^ 64)) st.held (batch ∷ []) at.births ((omega arith, omega (arith, at.few)), tt);
        few = omega (arith, at.few);
        none_held = λ none. absurd (some_trees st.suspended has none);
        calm = at.calm;
        point = omega (arith, at.point);
      };
      accepts = accepts;
      answered = tt;
      batch_is = refl;
    }

  -- ---- clear

  module _ (items : List Item) (st : State) (ds more : Deeds) (at : IsAt ds st (Clear ∷ items)) where
    abbrev risen : State
    risen = record st { point = st.point + 1 }

    abbrev queue : List (List Request)
    queue = batches_from st.batch items

    on_risen : On ds risen (reqs st.held ++ queue)
    on_risen = record {
      contents = at.on.contents;
      store = at.on.store;
      sized = at.on.sized;
      safe = safe_at plan st.point (st.point + 1) st.images ds at.on.contents st.bound at.on.safe;
      under_way = at.on.under_way;
      stands = at.on.stands;
      rest = at.on.rest;
      queued = at.on.queued;
    }

    -- where the suspended trees ran, if there were any
    then_held : (c : Course) → RoundOut plan sizes apart requests plain c (reqs st.held ++ queue) (deeds_of (held_starts plan c.state.held c.state) ++ more) → c.state.held ≡ st.held → c.state.batch ≡ st.batch → c.state.batches ≡ st.batches
        → c.state.point ≡ st.point + 1 → AllLawful (held_starts plan c.state.held c.state) → LineOut (then_course c (held_after plan)) items more st.batch
    then_held c first held batch batches point lawful =
        let last : State = (run_held plan c.state.held c.state).state in
        let rest : HeldOut plan sizes apart requests plain ground c.state (run_held plan c.state.held c.state) queue more =
        held_on plan sizes apart requests plain ground c.state.held queue c.state first.ds more (subst (λ (hs : List Batch). On first.ds c.state (reqs hs ++ queue)) (sym held) first.on) (subst HaveBirths (sym held) at.births) lawful first.accepts first.calm in
        let same : last.batch ≡ st.batch = rest.batch ∙ batch in
        record {
          ds = rest.ds;
          at = record {
            on = subst (λ (b : List Request). On rest.ds last (reqs last.held ++ batches_from b items)) (sym same) rest.on;
            births = rest.births;
            few =
                subst (λ (b : List Request). last.batches + length (batches_from b items) < 2 ^ 64) (sym same)
                (subst (λ (n : ℕ). n + length queue < 2 ^ 64) (sym (rest.batches ∙ batches)) at.few);
            none_held = rest.none_held;
            calm = rest.calm;
            point = omega (arith, rest.point, point, at.point);
          };
          accepts = rest.accepts;
          answered = answered_both (IsAnswered plain.replies requests) c.events (run_held plan c.state.held c.state).events first.answered rest.answered;
          batch_is = same;
        }

    clear_by : (has : Bool) → has_trees st.suspended ≡ has → AllLawful (clear_starts has plan risen) → AreTrueReads ds (deeds_of (clear_starts has plan risen) ++ more)
        → LineOut (then_course (clear_if has plan risen) (held_after plan)) items more st.batch
    clear_by true is lawful accepts =
        let c : Course = run_suspended plan risen in
        let s : RoundStart = suspended_start plan risen in
        let starts : List RoundStart = held_starts plan c.state.held c.state in
        then_held c
        (suspended_on plan sizes apart requests plain ground (reqs st.held ++ queue) risen ds (deeds_of starts ++ more) on_risen lawful.0
        (subst (AreTrueReads ds) (append_assoc (deeds_in plan.journal s) (deeds_of starts) more) accepts))
        refl refl refl refl lawful.1
    clear_by false is lawful accepts =
        then_held (quiet risen) (record { ds = ds; on = on_risen; accepts = accepts; answered = tt; calm = λ past. no_trees st.suspended is }) refl refl refl refl lawful

  -- ---- any line

  runs_is : (has : Bool) → (not has || goes_on plan.failmode) ≡ not has
  runs_is has = ap (λ (mode : Failmode). not has || goes_on mode) ground.waits ∙ or_not (not has)
    where
      or_not : (b : Bool) → (b || false) ≡ b
      or_not true = refl
      or_not false = refl

  line_on : (item : Item) (items : List Item) (st : State) (ds more : Deeds) → IsAt ds st (item ∷ items) → AllLawful (line_starts plan item st) → AreTrueReads ds (deeds_of (line_starts plan item st) ++ more)
      → LineOut (line plan item st) items more (batch_after st.batch item)
  line_on (RequestLine r) items st ds more at lawful accepts = record {
    ds = ds;
    at = record { on = at.on; births = at.births; few = at.few; none_held = at.none_held; calm = at.calm; point = omega (arith, at.point) };
    accepts = accepts;
    answered = tt;
    batch_is = refl;
  }
  line_on Go items st ds more at lawful accepts = go_by items st ds more at (not (has_trees st.suspended) || goes_on plan.failmode) (has_trees st.suspended) refl (runs_is (has_trees st.suspended)) lawful accepts
  line_on Clear items st ds more at lawful accepts = clear_by items st ds more at (has_trees st.suspended) refl lawful accepts

  -- ---- all lines

  pub record LinesOut (c : Course) (unrun : List Request) (batch : List Request) (more : Deeds) : Type 0 where
    pub ds : Deeds
    pub at : IsAt ds c.state []
    pub accepts : AreTrueReads ds more
    pub answered : Answered c
    pub all_run : unrun ≡ []
    pub batch_is : c.state.batch ≡ batch

  pub lines_on : (items : List Item) (st : State) (ds more : Deeds) → IsAt ds st items → AllLawful (starts_from plan items st) → AreTrueReads ds (deeds_of (starts_from plan items st) ++ more)
      → LinesOut (run_lines plan items st) (unrun_lines plan items st) (fold batch_after st.batch items) more
  unfolding run_lines unrun_lines
  lines_on [] st ds more at lawful accepts = record { ds = ds; at = at; accepts = accepts; answered = tt; all_run = refl; batch_is = refl }
  lines_on (item ∷ items) st ds more at lawful accepts =
      let then_batch : List Request = fold batch_after (batch_after st.batch item) items in
      let Claim : Bool → Type 0 =
      λ b. AllLawful (line_starts_if b plan item st ++ starts_from plan items (line_if b plan item st).state)
      → AreTrueReads ds (deeds_of (line_starts_if b plan item st ++ starts_from plan items (line_if b plan item st).state) ++ more)
      → LinesOut (then_course (line_if b plan item st) (run_lines plan items)) (unrun_line b item ++ unrun_lines plan items (line_if b plan item st).state) then_batch more in
      subst Claim (sym at.on.stands)
      (λ l a.
      let now : State = (line plan item st).state in
      let starts : List RoundStart = starts_from plan items now in
      let first : LineOut (line plan item st) items (deeds_of starts ++ more) (batch_after st.batch item) =
      line_on item items st ds (deeds_of starts ++ more) at (all_front (IsLawfulStart plan) (line_starts plan item st) starts l)
      (subst (AreTrueReads ds) (deeds_join plan sizes apart requests plain ground (line_starts plan item st) starts more) a) in
      let rest : LinesOut (run_lines plan items now) (unrun_lines plan items now) (fold batch_after now.batch items) more =
      lines_on items now first.ds more first.at (all_rest (IsLawfulStart plan) (line_starts plan item st) starts l) first.accepts in
      record {
        ds = rest.ds;
        at = rest.at;
        accepts = rest.accepts;
        answered = answered_both (IsAnswered plain.replies requests) (line plan item st).events (run_lines plan items now).events first.answered rest.answered;
        all_run = rest.all_run;
        batch_is = rest.batch_is ∙ ap (λ (b : List Request). fold batch_after b items) first.batch_is;
      })
      lawful accepts
