-- No key stands twice among a round's entries.
use Rattle.std.proofs.Common.{◌≡◌, ℕ, ◌+◌, ◌≤◌, Bool, true, false, List, [], ◌∷◌, refl, ap, subst, arith}
use Rattle.std.specs.List.{AllByRecursion}
use Rattle.zio_types.specs.declared.journal.Key.{Key}
use Rattle.zio_types.specs.declared.journal.Role.TheVariants.{Body as BodyRole}
use Rattle.zio_types.specs.Choices.{Ask, Choice, same_key}
use Rattle.zio_gang.specs.Attempts.{Terms}
use Rattle.zio_gang.specs.Journals.{asks_of, HaveDistinctKeys}
use Rattle.zio_gang.proofs.JournalLemmas.{same_key_itself}
use Rattle.zio_trace.specs.Conflicts.{is_single}
use Rattle.zio_trace.specs.Entries.{Recorded, any_rules, any_ways}
use Rattle.zio_trace.specs.Families.{Forest}
use Rattle.zio_trace.specs.Footprints.{Stays}
use Rattle.zio_trace.specs.Keys.{bit, cap, count_in, key_weight, Capped, FitsLeft, NumbersOnce}
use Rattle.zio_trace.specs.Labels.{Labelled, labelled, ways_at}
use Rattle.zio_trace.specs.Oracles.{Oracle, IsOracle, asked_in, weigh, ops_of}
use Rattle.zio_trace.specs.Plans.{plan}
use Rattle.zio_trace.specs.Programs.{Program as ProgramOf, Ends, Asks, Deed}
use Rattle.zio_trace.specs.RoundRules.{asks_in}
use Rattle.zio_trace.specs.Rounds.{Round, plan_round}
use Rattle.zio_trace.specs.Rules.{AreLawful, IsDone}
use Rattle.zio_trace.specs.Tasks.{Task, Leaf, Find, TakePlaces, Value, Taken}
use Rattle.zio_trace.specs.Traces.{asked_by}
use Rattle.zio_trace.proofs.AskLemmas.{asks_recorded}
use Rattle.zio_trace.proofs.CapLemmas.{program_capped, op_capped}
use Rattle.zio_trace.proofs.DoneLemmas.{some_oracle}
use Rattle.zio_trace.proofs.GroundLemmas.{task_ground}
use Rattle.zio_trace.proofs.KeyLemmas.{plans_capped, round_capped}
use Rattle.zio_trace.proofs.RequestLemmas.{plan_run}
use Rattle.zio_trace.proofs.RoundDone.{weigh_asks}
use Rattle.zio_trace.proofs.RoundLemmas.{tasks_commute}

-- ---- the rules that know no journal are lawful

any_stays : {A : Type 0} (P : Task → Type 0) (p : ProgramOf Task Value A) → ((o : Task) → P o) → Stays (λ (task : Task) (v : Value). Unit {0}) P (λ (a : A). Unit {0}) p
any_stays P (Ends a) f = tt
any_stays P (Asks op more) f = (f op, λ answer fits. any_stays P (more answer) f)

pub any_laws : (t : Terms) (sizes : ℕ → ℕ) → AreLawful (any_rules t sizes)
any_laws t sizes = record {
  ground = task_ground t;
  law = plan_run [] t;
  commute = tasks_commute [] t sizes;
  stays = λ o. any_stays (λ q. (d : Task) → Unit {0} → Unit {0}) (plan t o) (λ q d may. tt);
  mended = λ o v e. tt;
}

-- ---- keys

deed_capped : (k : Key) (task : Task) (v : Value) → is_single task ≡ true → (weigh (key_weight k) (asked_by task) ≤ cap k task) × FitsLeft task v
deed_capped k (Leaf act) v e = (omega arith, tt)
deed_capped k (Find a) v e = (omega arith, tt)
deed_capped k (TakePlaces tree) v e = (omega arith, tt)
deed_capped k _ v e = absurd (cc)

-- whatever is answered, an attempt leaves no request that it hadn't
pub fits_left : (t : Terms) (o : Oracle (Labelled Task) Value) → IsOracle (ways_at (any_ways t)) o → (x : Labelled Task) → FitsLeft x.op (o.answer x)
fits_left t o is x =
    let k : Key = record { request = 0; round = 0; attempt = 0; path = []; role = BodyRole } in
    (op_capped FitsLeft (cap k) (λ (y : Labelled Task). weigh (key_weight k) (asked_by y.op)) o (any_ways t) is (plans_capped k t) (λ y e. deed_capped k y.op (o.answer y) e) x.op (task_ground t x.op) x.at).1

-- whatever is answered, a program that is capped by a round's requests asks for a key once at most
pub capped_once : {A : Type 0} (t : Terms) (f : Forest) → NumbersOnce f → (k : Key) (p : ProgramOf Task Value A) → Capped FitsLeft (cap k) (λ (a : A). Unit {0}) (count_in k.request f) p → (o : Oracle (Labelled Task) Value) → IsOracle (ways_at (any_ways t)) o → weigh (λ (x : Labelled Task). weigh (key_weight k) (asked_by x.op)) (asked_in o (labelled [] 0 p)) ≤ 1
capped_once {A} t f numbers k p capped o is =
    let w : Labelled Task → ℕ = λ x. weigh (key_weight k) (asked_by x.op) in
    let h = program_capped FitsLeft (cap k) w o (λ (a : A). Unit {0}) [] 0 (count_in k.request f) p capped
    (λ q m. op_capped FitsLeft (cap k) w o (any_ways t) is (plans_capped k t) (λ x e. deed_capped k x.op (o.answer x) e) q.op (task_ground t q.op) q.at) in
    let l : weigh w (asked_in o (labelled [] 0 p)) ≤ count_in k.request f = h.0 in
    let n : count_in k.request f ≤ 1 = numbers k.request in
    omega arith

-- a round asks for a key as often as its requests have the key's number
pub asked_once : (t : Terms) (f : Forest) → NumbersOnce f → (k : Key) (o : Oracle (Labelled Task) Value) → IsOracle (ways_at (any_ways t)) o → weigh (λ (x : Labelled Task). weigh (key_weight k) (asked_by x.op)) (asked_in o (labelled [] 0 (plan_round f))) ≤ 1
asked_once t f numbers k o is = capped_once t f numbers k (plan_round f) (round_capped k f) o is

false_if : (b : Bool) → (b ≡ true → ⊥) → b ≡ false
false_if true h = absurd (h refl)
false_if false h = refl

no_other : (a : Ask) (bs : List Ask) → ((k : Key) → key_weight k a + weigh (key_weight k) bs ≤ 1) → AllByRecursion (λ (b : Ask). same_key a.key b.key ≡ false) bs
no_other a [] h = tt
no_other a (b ∷ bs) h = (
  false_if (same_key a.key b.key) (λ e.
      let x : key_weight b.key a ≡ 1 = ap bit e in
      let y : key_weight b.key b ≡ 1 = ap bit (same_key_itself b.key) in
      let z : key_weight b.key a + (key_weight b.key b + weigh (key_weight b.key) bs) ≤ 1 = h b.key in
      omega arith),
  no_other a bs (λ k. let z : key_weight k a + (key_weight k b + weigh (key_weight k) bs) ≤ 1 = h k in omega arith),
)

distinct_by_weight : (asks : List Ask) → ((k : Key) → weigh (key_weight k) asks ≤ 1) → HaveDistinctKeys asks
distinct_by_weight [] h = tt
distinct_by_weight (a ∷ asks) h =
    (no_other a asks h, distinct_by_weight asks (λ k. let z : key_weight k a + weigh (key_weight k) asks ≤ 1 = h k in omega arith))

pub recorded_distinct : (ds : List (Deed (Labelled Task) Value)) (cs : List Choice) → Recorded ds cs → ((k : Key) → weigh (λ (x : Labelled Task). weigh (key_weight k) (asked_by x.op)) (ops_of ds) ≤ 1) → HaveDistinctKeys (asks_of cs)
recorded_distinct ds cs recorded h =
    subst HaveDistinctKeys (asks_recorded ds cs recorded)
    (distinct_by_weight (asks_in (ops_of ds)) (λ k. let e : weigh (key_weight k) (asks_in (ops_of ds)) ≡ weigh (λ (x : Labelled Task). weigh (key_weight k) (asked_by x.op)) (ops_of ds) = weigh_asks (key_weight k) (ops_of ds) in let l : weigh (λ (x : Labelled Task). weigh (key_weight k) (asked_by x.op)) (ops_of ds) ≤ 1 = h k in omega arith))

-- at the end
pub done_distinct : (t : Terms) (sizes : ℕ → ℕ) (f : Forest) (history : List (Deed (Labelled Task) Value)) (value : Round) (entries : List Choice) → NumbersOnce f → IsDone (any_rules t sizes) (plan_round f) history value → Recorded history entries → HaveDistinctKeys (asks_of entries)
done_distinct t sizes f history value entries numbers done recorded =
    let some = some_oracle (any_rules t sizes) (any_laws t sizes) history (λ x. Taken true) done.once done.single done.fit in
    recorded_distinct history entries recorded (λ k.
    let l : weigh (λ (x : Labelled Task). weigh (key_weight k) (asked_by x.op)) (asked_in some.0 (labelled [] 0 (plan_round f))) ≤ 1 = asked_once t f numbers k some.0 some.1 in
    let e : weigh (λ (x : Labelled Task). weigh (key_weight k) (asked_by x.op)) (asked_in some.0 (labelled [] 0 (plan_round f))) ≡ weigh (λ (x : Labelled Task). weigh (key_weight k) (asked_by x.op)) (ops_of history) = done.all some.0 some.1 some.2 _ in
    omega arith)
