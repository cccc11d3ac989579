-- What a journal has for the asks whose entries stand in it.
use Rattle.std.proofs.Common.{◌==◌, ◌≡◌, ℕ, List, [], ◌∷◌, Bool, true, false, cond, find, filter, Option, Some, eqb-true, append-nil, refl, sym, ap, ◌∙◌, subst, eq-eqb}
use Rattle.std.specs.List.{AllByRecursion}
use Rattle.zio_types.specs.declared.place.Place.{Place}
use Rattle.zio_types.specs.declared.place.TopSize.{TopSize}
use Rattle.zio_types.specs.Choices.{Ask, Choice, same_ask}
use Rattle.zio_cksum.proofs.AllLemmas.{all_filter, all_true}
use Rattle.zio_gang.specs.Journals.{AreLawful, asks_of, choices_in, HaveDistinctKeys}
use Rattle.zio_gang.specs.Writes.{chosen, places_chosen}
use Rattle.zio_gang.proofs.JournalLemmas.{each_found, entry_for}
use Rattle.zio_trace.specs.Entries.{answer_to, RecordedBy, Recorded, AnswersBy, AnsweredBy, MayCome}
use Rattle.zio_trace.specs.Labels.{Labelled}
use Rattle.zio_trace.specs.Programs.{Deed}
use Rattle.zio_trace.specs.Tasks.{Task, Leaf, Find, ReadCopies, WriteCopies, WritePart, ReadHeads, ReadTree, TakePlaces, Attempt, Settle, Value, Found}
use Rattle.zio_trace.proofs.ChoiceLemmas.{keys_same}
use Rattle.zio_trace.proofs.ListLemmas.{all_front}

one_answered : (j : List Choice) (c : Choice) (a : Ask) (v : Value) → c.asked ≡ a → v ≡ answer_to c → entry_for j c.asked ≡ Some c → v ≡ Found (chosen j a)
one_answered j c a v is at found =
    at ∙ ap (λ (o : Option Choice). Found (places_chosen c.asked.copies o)) (sym found) ∙ ap (λ (b : Ask). Found (chosen j b)) is

abbrev FoundAll : List Choice → List Choice → Type 0
FoundAll j cs = AllByRecursion (λ (c : Choice). entry_for j c.asked ≡ Some c) cs

recorded_by : (j : List Choice) (task : Task) (v : Value) (ds : List (Deed (Labelled Task) Value)) → ((cs : List Choice) → Recorded ds cs → FoundAll j cs → AnsweredBy j ds)
    → (cs : List Choice) → RecordedBy task v (Recorded ds) cs → FoundAll j cs → AnswersBy j task v × AnsweredBy j ds
recorded_by j (Find a) v ds later [] h k = absurd h
recorded_by j (Find a) v ds later (c ∷ cs) h k = (one_answered j c a v h.0 h.1 k.0, later cs h.2 k.1)
recorded_by j (Leaf act) v ds later cs h k = (tt, later cs h k)
recorded_by j (ReadCopies repair test len places) v ds later cs h k = (tt, later cs h k)
recorded_by j (WriteCopies bytes places) v ds later cs h k = (tt, later cs h k)
recorded_by j (WritePart attempt p sum copies levels path bytes) v ds later cs h k = (tt, later cs h k)
recorded_by j (ReadHeads look levels path bp) v ds later cs h k = (tt, later cs h k)
recorded_by j (ReadTree tree) v ds later cs h k = (tt, later cs h k)
recorded_by j (TakePlaces tree) v ds later cs h k = (tt, later cs h k)
recorded_by j (Attempt attempt p kids) v ds later cs h k = (tt, later cs h k)
recorded_by j (Settle p kids) v ds later cs h k = (tt, later cs h k)

recorded_in : (j : List Choice) (ds : List (Deed (Labelled Task) Value)) (cs : List Choice) → Recorded ds cs → FoundAll j cs → AnsweredBy j ds
recorded_in j [] cs h k = tt
recorded_in j (d ∷ ds) cs h k = recorded_by j d.op.op d.answer ds (recorded_in j ds) cs h k

-- at the round's end: the entries themselves answer
pub answered_by_entries : (ds : List (Deed (Labelled Task) Value)) (cs : List Choice) → Recorded ds cs → HaveDistinctKeys (asks_of cs) → AnsweredBy cs ds
answered_by_entries ds cs h distinct = recorded_in cs ds cs h (each_found cs distinct)

-- ---- a round's entries answer as the whole journal does

find_if : (a b : Bool) (c : Choice) (rest : List Choice) (other : Option Choice) (p : Choice → Bool) → p c ≡ a → (a ≡ true → b ≡ true) → find p rest ≡ other → find p (cond b (c ∷ rest) rest) ≡ cond a (Some c) other
find_if true true c rest other p e h k = ap (λ (x : Bool). cond x (Some c) (find p rest)) e
find_if true false c rest other p e h k = absurd (let x : false ≡ true = h refl in cc)
find_if false true c rest other p e h k = ap (λ (x : Bool). cond x (Some c) (find p rest)) e ∙ k
find_if false false c rest other p e h k = k

find_filter : (p q : Choice → Bool) (cs : List Choice) → ((c : Choice) → p c ≡ true → q c ≡ true) → find p (filter q cs) ≡ find p cs
find_filter p q [] h = refl
find_filter p q (c ∷ cs) h = find_if (p c) (q c) c (filter q cs) (find p cs) p refl (h c) (find_filter p q cs h)

-- an ask of the round is answered by the round's entries as by all
pub chosen_in_round : (n : ℕ) (j : List Choice) (a : Ask) → a.key.round ≡ n → chosen (choices_in n j) a ≡ chosen j a
chosen_in_round n j a e =
    ap (places_chosen a.copies)
    (find_filter (λ (c : Choice). same_ask c.asked a) (λ (c : Choice). c.asked.key.round == n) j
    (λ c h. eq-eqb c.asked.key.round n ((keys_same c a h).0 ∙ e)))

abbrev OfRound : ℕ → Task → Type 0
OfRound n (Find a) = a.key.round ≡ n
OfRound n _ = Unit {0}

abbrev AllOf : ℕ → List Choice → Type 0
AllOf n cs = AllByRecursion (λ (c : Choice). c.asked.key.round ≡ n) cs

rounds_by : (n : ℕ) (task : Task) (v : Value) (ds : List (Deed (Labelled Task) Value)) → ((cs : List Choice) → Recorded ds cs → AllOf n cs → AllByRecursion (λ (d : Deed (Labelled Task) Value). OfRound n d.op.op) ds)
    → (cs : List Choice) → RecordedBy task v (Recorded ds) cs → AllOf n cs → OfRound n task × AllByRecursion (λ (d : Deed (Labelled Task) Value). OfRound n d.op.op) ds
rounds_by n (Find a) v ds later [] h k = absurd h
rounds_by n (Find a) v ds later (c ∷ cs) h k = (ap (λ (b : Ask). b.key.round) (sym h.0) ∙ k.0, later cs h.2 k.1)
rounds_by n (Leaf act) v ds later cs h k = (tt, later cs h k)
rounds_by n (ReadCopies repair test len places) v ds later cs h k = (tt, later cs h k)
rounds_by n (WriteCopies bytes places) v ds later cs h k = (tt, later cs h k)
rounds_by n (WritePart attempt p sum copies levels path bytes) v ds later cs h k = (tt, later cs h k)
rounds_by n (ReadHeads look levels path bp) v ds later cs h k = (tt, later cs h k)
rounds_by n (ReadTree tree) v ds later cs h k = (tt, later cs h k)
rounds_by n (TakePlaces tree) v ds later cs h k = (tt, later cs h k)
rounds_by n (Attempt attempt p kids) v ds later cs h k = (tt, later cs h k)
rounds_by n (Settle p kids) v ds later cs h k = (tt, later cs h k)

rounds_in : (n : ℕ) (ds : List (Deed (Labelled Task) Value)) (cs : List Choice) → Recorded ds cs → AllOf n cs → AllByRecursion (λ (d : Deed (Labelled Task) Value). OfRound n d.op.op) ds
rounds_in n [] cs h k = tt
rounds_in n (d ∷ ds) cs h k = rounds_by n d.op.op d.answer ds (rounds_in n ds) cs h k

one_by : (n : ℕ) (j : List Choice) (task : Task) (v : Value) → OfRound n task → AnswersBy (choices_in n j) task v → AnswersBy j task v
one_by n j (Find a) v h k = k ∙ ap (λ (o : Option _). Found o) (chosen_in_round n j a h)
one_by n j (Leaf act) v h k = tt
one_by n j (ReadCopies repair test len places) v h k = tt
one_by n j (WriteCopies bytes places) v h k = tt
one_by n j (WritePart attempt p sum copies levels path bytes) v h k = tt
one_by n j (ReadHeads look levels path bp) v h k = tt
one_by n j (ReadTree tree) v h k = tt
one_by n j (TakePlaces tree) v h k = tt
one_by n j (Attempt attempt p kids) v h k = tt
one_by n j (Settle p kids) v h k = tt

all_by : (n : ℕ) (j : List Choice) (ds : List (Deed (Labelled Task) Value)) → AllByRecursion (λ (d : Deed (Labelled Task) Value). OfRound n d.op.op) ds → AnsweredBy (choices_in n j) ds → AnsweredBy j ds
all_by n j [] h k = tt
all_by n j (d ∷ ds) h k = (one_by n j d.op.op d.answer h.0 k.0, all_by n j ds h.1 k.1)

pub answered_by_journal : (n : ℕ) (j : List Choice) (ds : List (Deed (Labelled Task) Value)) (entries : List Choice) → choices_in n j ≡ entries → Recorded ds entries → HaveDistinctKeys (asks_of entries) → AnsweredBy j ds
answered_by_journal n j ds entries is h distinct =
    let own : AllOf n entries = subst (AllOf n) is (all_filter (λ (c : Choice). c.asked.key.round ≡ n) (λ (c : Choice). c.asked.key.round == n) j (all_true _ j (λ c e. eqb-true c.asked.key.round n e))) in
    all_by n j ds (rounds_in n ds entries h own) (subst (λ (cs : List Choice). AnsweredBy cs ds) (sym is) (answered_by_entries ds entries h distinct))

-- ---- in the middle of a round

-- every journal that may still come has the answers that were given
pub answered_whichever : (sizes : List TopSize) (used : List Place) (ds : List (Deed (Labelled Task) Value)) (cs j : List Choice) → Recorded ds cs → MayCome sizes used cs j → AnsweredBy j ds
answered_whichever sizes used ds cs j h may =
    recorded_in j ds cs h
    (all_front (λ (c : Choice). entry_for j c.asked ≡ Some c) cs may.later
    (subst (λ (xs : List Choice). AllByRecursion (λ (c : Choice). entry_for j c.asked ≡ Some c) xs) may.is (each_found j may.distinct)))

-- the entries are such a journal
pub entries_may_come : (sizes : List TopSize) (used : List Place) (cs : List Choice) → HaveDistinctKeys (asks_of cs) → AreLawful sizes used cs → MayCome sizes used cs cs
entries_may_come sizes used cs distinct lawful = record { later = []; is = sym (append-nil cs); distinct = distinct; lawful = lawful }
