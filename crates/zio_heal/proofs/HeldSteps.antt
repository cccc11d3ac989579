-- Held batches run in their order while nothing is suspended, and keep what holds of the run.
use Rattle.std.proofs.Common.{◌≡◌, ℕ, ◌^◌, ◌<◌, ◌≤◌, List, [], ◌∷◌, ◌++◌, map, Bool, true, false, refl, sym, ap, ◌∙◌, subst, append_assoc}
use Rattle.std.proofs.lemmas.List.{append-nil}
use Rattle.std.specs.List.{AllByRecursion}
use Rattle.zio_script.specs.declared.script.Request.{Request}
use Rattle.zio_cksum.proofs.AllLemmas.{all_append}
use Rattle.zio_gang.specs.Attempts.{Ended, Pending}
use Rattle.zio_gang.specs.Runs.{Batch, Course, Event, Plan, State, has_trees, held_if, run_batch, run_held, then_course}
use Rattle.zio_gang.specs.Runs.Event.{RanRound, HeldBatch}
use Rattle.zio_report.specs.Reports.{all_ended}
use Rattle.zio_trace.specs.RoundTraces.{is_single_or_piece}
use Rattle.zio_trace.specs.RunTraces.{RoundStart, batch_start, held_starts, held_starts_if, trace_in_rounds}
use Rattle.zio_trace.proofs.ListLemmas.{all_front, all_rest}
use Rattle.zio_heal.specs.Given.{AreTrueReads, Deeds}
use Rattle.zio_heal.specs.PlainStore.{Plain}
use Rattle.zio_heal.specs.SafeRounds.{deeds_in}
use Rattle.zio_heal.proofs.BatchSteps.{batch_on}
use Rattle.zio_heal.proofs.RunStates.{AllAnswered, IsCalm, IsGround, IsLawfulStart, OnAt, RoundOut}
use Rattle.zio_heal.proofs.UnderWay.{IsAnswered}

-- what holds of all that ended in two parts of a course
pub answered_both : (E : Ended → Type 0) (xs ys : List Event) → AllByRecursion E (all_ended xs) → AllByRecursion E (all_ended ys) → AllByRecursion E (all_ended (xs ++ ys))
answered_both E [] ys h k = k
answered_both E (RanRound round ∷ xs) ys h k = all_append E round.ended (all_ended (xs ++ ys)) (all_front E round.ended (all_ended xs) h) (answered_both E xs ys (all_rest E round.ended (all_ended xs) h) k)
answered_both E (HeldBatch n ∷ xs) ys h k = answered_both E xs ys h k

pub no_trees : (trees : List (List Pending)) → has_trees trees ≡ false → trees ≡ []
no_trees [] e = refl
no_trees (tree ∷ trees) e = absurd (let no : true ≡ false = e in cc)

pub some_trees : (trees : List (List Pending)) → has_trees trees ≡ true → trees ≡ [] → ⊥
some_trees trees some none = let no : false ≡ true = ap has_trees (sym none) ∙ some in cc

-- the requests of batches
abbrev pub reqs : List Batch → List (List Request)
reqs held = map (λ (b : Batch). b.requests) held

-- batches whose numbers a pointer can hold
abbrev pub HaveBirths : List Batch → Type 0
HaveBirths held = AllByRecursion (λ (b : Batch). (1 ≤ b.number) × (b.number < 2 ^ 64)) held

module _ (plan : Plan) (sizes : ℕ → ℕ) (apart : Bool) (requests : List Request) (plain : Plain) (ground : IsGround plan sizes) where
  abbrev pub On : Deeds → State → List (List Request) → Type 0
  On ds st queue = OnAt plan sizes apart requests plain ds st queue

  abbrev pub Calm : State → Type 0
  Calm st = IsCalm plan sizes apart requests plain st

  abbrev pub Answered : Course → Type 0
  Answered c = AllAnswered plan sizes apart requests plain c

  abbrev pub AllLawful : List RoundStart → Type 0
  AllLawful starts = AllByRecursion (IsLawfulStart plan) starts

  abbrev pub deeds_of : List RoundStart → Deeds
  deeds_of starts = trace_in_rounds is_single_or_piece plan.journal starts

  pub deeds_join : (xs ys : List RoundStart) (more : Deeds) → deeds_of (xs ++ ys) ++ more ≡ deeds_of xs ++ (deeds_of ys ++ more)
  deeds_join [] ys more = refl
  deeds_join (x ∷ xs) ys more =
      append_assoc (deeds_in plan.journal x) (deeds_of (xs ++ ys)) more ∙ ap (λ (ds : Deeds). deeds_in plan.journal x ++ ds) (deeds_join xs ys more)
      ∙ sym (append_assoc (deeds_in plan.journal x) (deeds_of xs) (deeds_of ys ++ more))

  pub one_deeds : (s : RoundStart) (more : Deeds) → deeds_of (s ∷ []) ++ more ≡ deeds_in plan.journal s ++ more
  one_deeds s more = ap (λ (ds : Deeds). ds ++ more) (append-nil (deeds_in plan.journal s))

  -- ---- held batches

  pub record HeldOut (st : State) (c : Course) (queue : List (List Request)) (more : Deeds) : Type 0 where
    pub ds : Deeds
    pub on : On ds c.state (reqs c.state.held ++ queue)
    pub accepts : AreTrueReads ds more
    pub answered : Answered c
    pub calm : Calm c.state
    pub none_held : c.state.suspended ≡ [] → c.state.held ≡ []
    pub births : HaveBirths c.state.held
    pub point : c.state.point ≡ st.point
    pub batch : c.state.batch ≡ st.batch
    pub batches : c.state.batches ≡ st.batches

  held_step : (stop : Bool) (batch : Batch) (held : List Batch) (queue : List (List Request)) (st : State) (ds more : Deeds) → has_trees st.suspended ≡ stop → On ds st (reqs (batch ∷ held) ++ queue) → HaveBirths (batch ∷ held)
      → AllLawful (held_starts_if stop plan batch st (held_starts plan held)) → AreTrueReads ds (deeds_of (held_starts_if stop plan batch st (held_starts plan held)) ++ more) → Calm st
      → ((now : State) (es : Deeds) → On es now (reqs held ++ queue) → AllLawful (held_starts plan held now) → AreTrueReads es (deeds_of (held_starts plan held now) ++ more) → Calm now → HeldOut now (run_held plan held now) queue more)
      → HeldOut st (held_if stop (batch ∷ held) st (λ now. then_course (run_batch plan batch now) (run_held plan held))) queue more
  held_step true batch held queue st ds more has on births lawful accepts calm later = record {
    ds = ds;
    on = on;
    accepts = accepts;
    answered = tt;
    calm = calm;
    none_held = λ none. absurd (some_trees st.suspended has none);
    births = births;
    point = refl;
    batch = refl;
    batches = refl;
  }
  held_step false batch held queue st ds more has on births lawful accepts calm later =
      let now : State = (run_batch plan batch st).state in
      let first : RoundOut plan sizes apart requests plain (run_batch plan batch st) (reqs held ++ queue) (deeds_of (held_starts plan held now) ++ more) =
      batch_on plan sizes apart requests plain ground batch (reqs held ++ queue) st ds (deeds_of (held_starts plan held now) ++ more) (no_trees st.suspended has) on births.0.0 births.0.1 lawful.0
      (subst (AreTrueReads ds) (append_assoc (deeds_in plan.journal (batch_start plan batch st)) (deeds_of (held_starts plan held now)) more) accepts) in
      let rest : HeldOut now (run_held plan held now) queue more = later now first.ds first.on lawful.1 first.accepts first.calm in
      record {
        ds = rest.ds;
        on = rest.on;
        accepts = rest.accepts;
        answered = answered_both (IsAnswered plain.replies requests) (run_batch plan batch st).events (run_held plan held now).events first.answered rest.answered;
        calm = rest.calm;
        none_held = rest.none_held;
        births = rest.births;
        point = rest.point;
        batch = rest.batch;
        batches = rest.batches;
      }

  pub held_on : (held : List Batch) (queue : List (List Request)) (st : State) (ds more : Deeds) → On ds st (reqs held ++ queue) → HaveBirths held → AllLawful (held_starts plan held st)
      → AreTrueReads ds (deeds_of (held_starts plan held st) ++ more) → Calm st → HeldOut st (run_held plan held st) queue more
  unfolding run_held
  held_on [] queue st ds more on births lawful accepts calm = record {
    ds = ds;
    on = on;
    accepts = accepts;
    answered = tt;
    calm = calm;
    none_held = λ none. refl;
    births = tt;
    point = refl;
    batch = refl;
    batches = refl;
  }
  held_on (batch ∷ held) queue st ds more on births lawful accepts calm =
      held_step (has_trees st.suspended) batch held queue st ds more refl on births lawful accepts calm
      (λ now es o l a k. held_on held queue now es more o births.1 l a k)
