-- A sound round that went on until nothing is in flight is settled.
use Rattle.std.proofs.Common.{◌≡◌, ℕ, true, List, [], Option, Some, refl}
use Rattle.zio_types.specs.Choices.{Choice}
use Rattle.zio_cksum.specs.Images.{Images}
use Rattle.zio_gang.specs.Attempts.{Terms}
use Rattle.zio_gang.specs.Journals.{AreChoicesOf, choices_in}
use Rattle.zio_gang.specs.Trees.{sizes_of}
use Rattle.zio_trace.specs.Entries.{AnsweredBy, IsSettledByEntries, any_ways}
use Rattle.zio_trace.specs.Families.{Forest}
use Rattle.zio_trace.specs.Leaves.{HaveSizes}
use Rattle.zio_trace.specs.Programs.{Ends}
use Rattle.zio_trace.specs.RoundRules.{task_rules, task_ways}
use Rattle.zio_trace.specs.SoundRounds.{IsSoundRound, work_of}
use Rattle.zio_trace.specs.Tasks.{Taken, Value}
use Rattle.zio_trace.specs.Together.{round_of}
use Rattle.zio_trace.specs.Underway.{AreAnswered, IsUnderway, State, Work}
use Rattle.zio_trace.proofs.DoneLemmas.{some_oracle}
use Rattle.zio_trace.proofs.EntryLemmas.{answered_by_journal}
use Rattle.zio_trace.proofs.MoreDone.{some_any}
use Rattle.zio_trace.proofs.RoundDone.{task_laws}
use Rattle.zio_trace.proofs.RoundEnds.{any_oracle, fit_all}
use Rattle.zio_trace.proofs.SharedKeeps.{round_shares}
use Rattle.zio_trace.proofs.TogetherDone.{done_as_in_turn}
use Rattle.zio_trace.proofs.TogetherEnds.{round_as_in_turn}
use Rattle.zio_trace.proofs.UnderwayHears.{work_ends}

pub went_on_settled : (t : Terms) (sizes : ℕ → ℕ) (f : Forest) (journal : List Choice) (before : Images) (s : State) (values : List Value) → IsSoundRound t sizes f → HaveSizes sizes before
    → IsUnderway (work_of t sizes f) (Some before) s → s.flights ≡ [] → s.root ≡ Ends values → choices_in t.round journal ≡ s.entries
    → (settled : IsSettledByEntries journal t f s.entries (round_of values) before s.images) × AreChoicesOf (sizes_of t.setting.tops) t.used settled.asks s.entries
went_on_settled t sizes f journal before s values round have under none ended of_round =
    let w : Work = work_of t sizes f in
    let settled : IsSettledByEntries journal t f s.entries (round_of values) before s.images =
    round_as_in_turn journal w f values before s.images s.entries round.trees refl
    (done_as_in_turn journal w values s.deeds before s.images s.entries (round_shares t sizes f round) (work_ends w (Some before) s values under none ended) have under.pass under.recorded under.distinct under.lawful of_round) in
    (settled, settled.choices under.lawful)

-- what was done is what some oracle answers, and so are the values
pub went_on_answered : (w : Work) (before : Option Images) (s : State) (values : List Value) → IsUnderway w before s → s.flights ≡ [] → s.root ≡ Ends values → AreAnswered (any_ways w.terms) w.tasks s.deeds values
went_on_answered w before s values under none ended =
    let some = some_any w s.deeds under.going.once under.going.single in
    record {
      oracle = some.0;
      is = some.1;
      agrees = some.2;
      values_are = (work_ends w before s values under none ended).known some.0 some.1 some.2;
    }

-- and one that answers what is asked of the space by the journal
pub went_on_by_journal : (w : Work) (before : Option Images) (s : State) (journal : List Choice) (values : List Value) → IsUnderway w before s → s.flights ≡ [] → s.root ≡ Ends values → choices_in w.terms.round journal ≡ s.entries
    → AreAnswered (task_ways journal w.terms) w.tasks s.deeds values
went_on_by_journal w before s journal values under none ended of_round =
    let answered : AnsweredBy journal s.deeds = answered_by_journal w.terms.round journal s.deeds s.entries of_round under.recorded under.distinct in
    let some = some_oracle (task_rules journal w.terms w.sizes) (task_laws journal w.terms w.sizes) s.deeds (λ x. Taken true) under.going.once under.going.single (fit_all journal s.deeds answered) in
    record {
      oracle = some.0;
      is = some.1;
      agrees = some.2;
      values_are = (work_ends w before s values under none ended).known some.0 (any_oracle journal w.terms some.0 some.1) some.2;
    }
