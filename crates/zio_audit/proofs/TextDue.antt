-- Completions that are read back are lawful: round by round they are the run's, and no child is in a later round.
use Rattle.std.proofs.Common.{◌≡◌, ◌<◌, ◌≤◌, ◌+◌, ◌==◌, ◌&&◌, ◌++◌, ℕ, zero, suc, List, [], ◌∷◌, filter, refl, sym, ap, subst, ◌∙◌, Bool, true, false, cond, not, arith, ⊎_elim, eqb-true, eq-eqb, Contains}
use Rattle.std.specs.Prelude.{IsTrue}
use Rattle.std.specs.List.{AllByRecursion, list_any}
use Rattle.std.proofs.lemmas.Bool.{and_parts, false_from_ne_true}
use Rattle.zio_types.specs.declared.journal.Completion.{Completion}
use Rattle.zio_types.specs.declared.journal.Journal.{Journal}
use Rattle.zio_script.specs.declared.script.Request.{Request}
use Rattle.zio_script.specs.Accepted.{AreRising}
use Rattle.zio_script.specs.Requests.{is_under, is_under_number}
use Rattle.zio_cksum.proofs.AllLemmas.{all_append, all_contained, all_contains, all_filter, all_weaker}
use Rattle.zio_gang.specs.Attempts.{Ended}
use Rattle.zio_gang.specs.Journals.{AreCompletions, AreCompletionsOf, CompleteAfterChildren, CompleteOnce, completion_of, completions_in, is_child, is_round_of}
use Rattle.zio_gang.specs.Runs.{Event, Round, rounds_of}
use Rattle.zio_gang.specs.Runs.Event.{RanRound, HeldBatch}
use Rattle.zio_gang.proofs.FateLemmas.{of_ended, tally}
use Rattle.zio_report.specs.Meanings.{records_of}
use Rattle.zio_audit.specs.Completions.{completions_from}
use Rattle.zio_audit.specs.Texts.{journals_from}
use Rattle.zio_audit.specs.Verdicts.{orders_of}
use Rattle.zio_audit.proofs.CompletionLemmas.{IsOfRound, of_round, one_of}
use Rattle.zio_audit.proofs.Members.{any_contained, contained_cases, contains_kept, contains_mapped, none_contained}
use Rattle.zio_audit.proofs.TextLines.{AreToldFrom}
use Rattle.zio_audit.proofs.TextOrders.{AreClosedTo, Weight, counted, in_events, under, with_number}
use Rattle.zio_audit.proofs.TextPrinted.{own_back}
use Rattle.zio_audit.proofs.TextRuns.{rising_once}

-- ---- a later round

-- one that finished is counted
ended_there : (f : Request → ℕ) (ended : List Ended) (e : Ended) → Contains ended e → f e.request ≤ of_ended f ended
ended_there f [] e there = absurd (none_contained e there)
ended_there f (x ∷ ended) e there =
    ⊎_elim
    (λ (here : x ≡ e). let same : f x.request ≡ f e.request = ap (λ (y : Ended). f y.request) here in omega arith)
    (λ (later : Contains ended e). omega (arith, ended_there f ended e later))
    (contained_cases x ended e there)

-- in all rounds too
event_there : (f : Request → ℕ) (events : List Event) (round : Round) (e : Ended) → Contains (rounds_of events) round → Contains round.ended e → f e.request ≤ in_events f events
event_there f [] round e there ended = absurd (none_contained round there)
event_there f (HeldBatch batch ∷ events) round e there ended = event_there f events round e there ended
event_there f (RanRound first ∷ events) round e there ended =
    ⊎_elim
    (λ (here : first ≡ round). omega (arith, ended_there f first.ended e (subst (λ (r : Round). Contains r.ended e) (sym here) ended)))
    (λ (later : Contains (rounds_of events) round). omega (arith, event_there f events round e later ended))
    (contained_cases first (rounds_of events) round there)

-- no round has a lower number than the first
told_low : (first : ℕ) (events : List Event) (round : Round) → AreToldFrom first events → Contains (rounds_of events) round → first ≤ round.number
told_low first [] round told there = absurd (none_contained round there)
told_low first (HeldBatch batch ∷ events) round told there = told_low first events round told there
told_low first (RanRound r ∷ events) round told there =
    ⊎_elim
    (λ (here : r ≡ round). let same : round.number ≡ first = ap (λ (x : Round). x.number) (sym here) ∙ told.0 in omega arith)
    (λ (later : Contains (rounds_of events) round). let low : first + 1 ≤ round.number = told_low (first + 1) events round told.1.1 later in omega arith)
    (contained_cases r (rounds_of events) round there)

-- what finished in a later round stands under nothing that finished in an earlier one
later_apart : (left : Weight) (first : ℕ) (events : List Event) → AreToldFrom first events → AreClosedTo left events
    → (one other : Round) (c d : Ended) → Contains (rounds_of events) one → Contains (rounds_of events) other → one.number < other.number → Contains one.ended c → Contains other.ended d
    → under c.request.number d.request ≡ 0
later_apart left first [] told closed one other c d there also less ended later = absurd (none_contained one there)
later_apart left first (HeldBatch batch ∷ events) told closed one other c d there also less ended later = later_apart left first events told closed one other c d there also less ended later
later_apart left first (RanRound r ∷ events) told closed one other c d there also less ended later =
    ⊎_elim
    (λ (here : r ≡ one).
    ⊎_elim
    (λ (same : r ≡ other). let equal : one.number ≡ other.number = ap (λ (x : Round). x.number) (sym here ∙ same) in absurd (omega arith))
    (λ (behind : Contains (rounds_of events) other).
    let none : in_events (under c.request.number) events + left (under c.request.number) ≡ 0 =
    all_contains (λ (e : Ended). in_events (under e.request.number) events + left (under e.request.number) ≡ 0) r.ended c closed.0 (subst (λ (x : Round). Contains x.ended c) (sym here) ended) in
    omega (arith, event_there (under c.request.number) events other d behind later))
    (contained_cases r (rounds_of events) other also))
    (λ (behind : Contains (rounds_of events) one).
    let low : first + 1 ≤ one.number = told_low (first + 1) events one told.1.1 behind in
    ⊎_elim
    (λ (same : r ≡ other). let equal : other.number ≡ first = ap (λ (x : Round). x.number) (sym same) ∙ told.0 in absurd (omega arith))
    (λ (too : Contains (rounds_of events) other). later_apart left (first + 1) events told.1.1 closed.1 one other c d behind too less ended later)
    (contained_cases r (rounds_of events) other also))
    (contained_cases r (rounds_of events) one there)

-- ---- one request of a number

-- one where a request has the number and stands under the other
abbrev both_if : ℕ → ℕ → Request → ℕ
both_if number n r = counted ((r.number == number) && is_under_number r.under n)

-- one where it has the number and doesn't stand under the other
abbrev but_if : ℕ → ℕ → Request → ℕ
but_if number n r = counted ((r.number == number) && not (is_under_number r.under n))

-- one of both
parts_sum : (a b : Bool) → counted (a && b) + counted (a && not b) ≡ counted a
parts_sum true true = omega arith
parts_sum true false = omega arith
parts_sum false b = omega arith

-- together they are those with the number
tally_parts : (number n : ℕ) (requests : List Request) → tally (both_if number n) requests + tally (but_if number n) requests ≡ tally (with_number number) requests
tally_parts number n [] = omega arith
tally_parts number n (r ∷ requests) = omega (arith, tally_parts number n requests, parts_sum (r.number == number) (is_under_number r.under n))

-- a request is counted
tally_there : (f : Request → ℕ) (requests : List Request) (r : Request) → Contains requests r → f r ≤ tally f requests
tally_there f [] r there = absurd (none_contained r there)
tally_there f (q ∷ requests) r there =
    ⊎_elim
    (λ (here : q ≡ r). let same : f q ≡ f r = ap f here in omega arith)
    (λ (later : Contains requests r). omega (arith, tally_there f requests r later))
    (contained_cases q requests r there)

-- where none is counted it is not so
counted_none : (b : Bool) → counted (not b) ≡ 0 → b ≡ true
counted_none true none = refl
counted_none false none = absurd (omega arith)

-- where one of the number stands under another, each does
same_under : (requests : List Request) (number n : ℕ) (r x : Request) → AreRising requests → Contains requests r → r.number ≡ number → is_under_number r.under n ≡ true
    → ((f : Request → ℕ) → f x ≤ tally f requests) → x.number ≡ number → is_under_number x.under n ≡ true
same_under requests number n r x rising there is stands among same =
    let here : both_if number n r ≡ 1 = (λ i. counted (eq-eqb r.number number is i && stands i)) in
    let most : tally (with_number number) requests ≤ 1 = rising_once number requests rising in
    let none : but_if number n x ≡ 0 = omega (arith, here, tally_there (both_if number n) requests r there, tally_parts number n requests, among (but_if number n)) in
    counted_none (is_under_number x.under n) (ap (λ b. counted (b && not (is_under_number x.under n))) (sym (eq-eqb x.number number same)) ∙ none)

-- ---- pairs

-- it holds of each two of which one stands before the other
abbrev pub Pairs : (Completion → Completion → Type 0) → List Completion → Type 0
Pairs P [] = Unit {0}
Pairs P (c ∷ cs) = AllByRecursion (P c) cs × Pairs P cs

-- two completions are of different requests
abbrev IsApart : Completion → Completion → Type 0
IsApart c d = (c.request == d.request) ≡ false

-- the other isn't that of a child
abbrev IsNoChild : List Request → Completion → Completion → Type 0
IsNoChild requests c d = is_child requests c d ≡ false

-- no request completes twice: of each two
once_pairs : (cs : List Completion) → CompleteOnce cs → Pairs IsApart cs
once_pairs [] h = tt
once_pairs (c ∷ cs) h = (h.0, once_pairs cs h.1)

-- and back
pairs_once : (cs : List Completion) → Pairs IsApart cs → CompleteOnce cs
pairs_once [] h = tt
pairs_once (c ∷ cs) h = (h.0, pairs_once cs h.1)

-- no child completes after its parent: of each two
children_pairs : (requests : List Request) (cs : List Completion) → CompleteAfterChildren requests cs → Pairs (IsNoChild requests) cs
children_pairs requests [] h = tt
children_pairs requests (c ∷ cs) h = (h.0, children_pairs requests cs h.1)

-- and back
pairs_children : (requests : List Request) (cs : List Completion) → Pairs (IsNoChild requests) cs → CompleteAfterChildren requests cs
pairs_children requests [] h = tt
pairs_children requests (c ∷ cs) h = (h.0, pairs_children requests cs h.1)

module _ (P : Completion → Completion → Type 0) where
  -- one that may be kept, in front of those that are
  kept_pair : (test : Completion → Bool) (b : Bool) (c : Completion) (cs : List Completion) → AllByRecursion (P c) cs → Pairs P (filter test cs) → Pairs P (cond b (c ∷ filter test cs) (filter test cs))
  kept_pair test true c cs h k = (all_filter (P c) test cs (all_weaker (P c) (λ d. test d ≡ true → P c d) cs (λ d p is. p) h), k)
  kept_pair test false c cs h k = k

  -- what holds of each two holds of each two that are kept
  kept_pairs : (test : Completion → Bool) (cs : List Completion) → Pairs P cs → Pairs P (filter test cs)
  kept_pairs test [] h = tt
  kept_pairs test (c ∷ cs) h = kept_pair test (test c) c cs h.0 (kept_pairs test cs h.1)

  -- and of two lists where it holds of each two across
  both_pairs : (xs ys : List Completion) → Pairs P xs → Pairs P ys → AllByRecursion (λ x. AllByRecursion (P x) ys) xs → Pairs P (xs ++ ys)
  both_pairs [] ys h k cross = k
  both_pairs (x ∷ xs) ys h k cross = (all_append (P x) xs ys h.0 cross.0, both_pairs xs ys h.1 k cross.1)

-- ---- round by round

-- the completions of so many rounds from this number on
abbrev pub by_rounds : List Completion → ℕ → ℕ → List Completion
by_rounds cs first zero = []
by_rounds cs first (suc rounds) = completions_in first cs ++ by_rounds cs (first + 1) rounds

-- one of these completions, and of this round or a later one
record IsOneFrom (cs : List Completion) (first : ℕ) (c : Completion) : Type 0 where
  there : Contains cs c
  low : first ≤ c.round

-- all are of the first round or a later one
by_rounds_from : (cs : List Completion) (first rounds : ℕ) → AllByRecursion (IsOneFrom cs first) (by_rounds cs first rounds)
by_rounds_from cs first zero = tt
by_rounds_from cs first (suc rounds) =
    all_append (IsOneFrom cs first) (completions_in first cs) (by_rounds cs (first + 1) rounds)
    (all_weaker (Contains (completions_in first cs)) (IsOneFrom cs first) (completions_in first cs)
    (λ c there.
    let kept = contains_kept (λ (d : Completion). d.round == first) cs c there in
    let same : c.round ≡ first = eqb-true c.round first kept.1 in
    record { there = kept.0; low = omega arith })
    (all_contained (completions_in first cs)))
    (all_weaker (IsOneFrom cs (first + 1)) (IsOneFrom cs first) (by_rounds cs (first + 1) rounds)
    (λ c from. let low : first + 1 ≤ c.round = from.low in record { there = from.there; low = omega arith })
    (by_rounds_from cs (first + 1) rounds))

module _ (P : Completion → Completion → Type 0) (cs : List Completion) (pairs : Pairs P cs)
    (cross : (c d : Completion) → Contains cs c → Contains cs d → c.round < d.round → P c d) where
  -- what holds of each two and across rounds holds of each two round by round
  by_rounds_pairs : (first rounds : ℕ) → Pairs P (by_rounds cs first rounds)
  by_rounds_pairs first zero = tt
  by_rounds_pairs first (suc rounds) =
      both_pairs P (completions_in first cs) (by_rounds cs (first + 1) rounds) (kept_pairs P (λ (d : Completion). d.round == first) cs pairs) (by_rounds_pairs (first + 1) rounds)
      (all_weaker (Contains (completions_in first cs)) (λ c. AllByRecursion (P c) (by_rounds cs (first + 1) rounds)) (completions_in first cs)
      (λ c there.
      let kept = contains_kept (λ (d : Completion). d.round == first) cs c there in
      let same : c.round ≡ first = eqb-true c.round first kept.1 in
      all_weaker (IsOneFrom cs (first + 1)) (P c) (by_rounds cs (first + 1) rounds)
      (λ d from. let low : first + 1 ≤ d.round = from.low in cross c d kept.0 from.there (omega arith)) (by_rounds_from cs (first + 1) rounds))
      (all_contained (completions_in first cs)))

-- what is read back is the completions round by round
pub from_by_rounds : (requests : List Request) (ran : List Round) (j : Journal) (first rounds : ℕ) → AreCompletions requests ran j.completions
    → completions_from ran first (orders_of (journals_from (records_of j) first rounds)) ≡ by_rounds j.completions first rounds
from_by_rounds requests ran j first zero are = refl
from_by_rounds requests ran j first (suc rounds) are = λ i. own_back requests ran j.completions first are i ++ from_by_rounds requests ran j (first + 1) rounds are i

-- ---- lawful completions

-- none completes in two rounds
once_cross : (cs : List Completion) → CompleteOnce cs → (c d : Completion) → Contains cs c → Contains cs d → c.round < d.round → IsApart c d
once_cross cs once c d there also less =
    false_from_ne_true (c.request == d.request) (λ is.
    let same : c.round ≡ d.round = ap (λ (x : Completion). x.round) (one_of cs c d once there also (eqb-true c.request d.request is)) in
    absurd (omega arith))

module _ (left : Weight) (events : List Event) (requests : List Request) (told : AreToldFrom 1 events) (closed : AreClosedTo left events) (rising : AreRising requests)
    (among : (f : Request → ℕ) → in_events f events ≤ tally f requests) where
  -- no child completes in a later round than its parent
  children_cross : (cs : List Completion) → AreCompletions requests (rounds_of events) cs → (c d : Completion) → Contains cs c → Contains cs d → c.round < d.round → IsNoChild requests c d
  children_cross cs are c d there also less =
      false_from_ne_true (is_child requests c d) (λ is.
      let one : IsOfRound (rounds_of events) c = of_round requests (rounds_of events) cs c are there in
      let other : IsOfRound (rounds_of events) d = of_round requests (rounds_of events) cs d are also in
      let first = contains_mapped (completion_of one.round.number) one.round.ended c one.ended in
      let second = contains_mapped (completion_of other.round.number) other.round.ended d other.ended in
      let some = any_contained (λ (r : Request). (r.number == d.request) && is_under r c.request) requests is in
      let parts = and_parts (some.0.number == d.request) (is_under some.0 c.request) some.2 in
      let parent : first.0.request.number ≡ c.request = ap (λ (x : Completion). x.request) first.2 in
      let child : second.0.request.number ≡ d.request = ap (λ (x : Completion). x.request) second.2 in
      let stands : is_under_number second.0.request.under c.request ≡ true =
      same_under requests d.request c.request some.0 second.0.request rising some.1 (eqb-true some.0.number d.request parts.0) parts.1
      (λ f. omega (arith, among f, event_there f events other.round second.0 other.there second.1)) child in
      let before : one.round.number < other.round.number = (let a : one.round.number ≡ c.round = one.number in let b : other.round.number ≡ d.round = other.number in omega arith) in
      let none : under first.0.request.number second.0.request ≡ 0 =
      later_apart left 1 events told closed one.round other.round first.0 second.0 one.there other.there before first.1 second.1 in
      let here : under first.0.request.number second.0.request ≡ 1 =
      ap (λ n. counted (is_under_number second.0.request.under n)) parent ∙ ap counted stands in
      absurd (omega arith))

  -- completions that are lawful are so round by round
  pub rounds_lawful : (cs : List Completion) (rounds : ℕ) → AreCompletions requests (rounds_of events) cs → ((number : ℕ) → completions_in number (by_rounds cs 1 rounds) ≡ completions_in number cs)
      → AreCompletions requests (rounds_of events) (by_rounds cs 1 rounds)
  rounds_lawful cs rounds are same = record {
    of_rounds = all_weaker (IsOneFrom cs 1) (λ (c : Completion). IsTrue (list_any (is_round_of c.round) (rounds_of events))) (by_rounds cs 1 rounds)
        (λ c from. all_contains (λ (d : Completion). IsTrue (list_any (is_round_of d.round) (rounds_of events))) cs c are.of_rounds from.there) (by_rounds_from cs 1 rounds);
    each = all_weaker (λ (round : Round). AreCompletionsOf round.number round.ended (completions_in round.number cs))
        (λ (round : Round). AreCompletionsOf round.number round.ended (completions_in round.number (by_rounds cs 1 rounds))) (rounds_of events)
        (λ round of. subst (AreCompletionsOf round.number round.ended) (sym (same round.number)) of) are.each;
    once = pairs_once (by_rounds cs 1 rounds) (by_rounds_pairs IsApart cs (once_pairs cs are.once) (once_cross cs are.once) 1 rounds);
    after_children = pairs_children requests (by_rounds cs 1 rounds)
        (by_rounds_pairs (IsNoChild requests) cs (children_pairs requests cs are.after_children) (children_cross cs are) 1 rounds);
  }
