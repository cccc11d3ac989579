-- The journal of rounds that are run one after another.
use Rattle.std.proofs.Common.{◌≡◌, ℕ, suc, ◌+◌, ◌<◌, ◌≤◌, List, [], ◌∷◌, ◌++◌, filter, Bool, true, false, refl, sym, ap, ◌∙◌, subst, arith, eq-eqb}
use Rattle.std.proofs.lemmas.Bool.{cond-false, cond-true, ne_eqb, or_left, or_right}
use Rattle.std.proofs.lemmas.List.{append-nil}
use Rattle.std.proofs.lemmas.List.Elements.{filter-append}
use Rattle.std.proofs.lemmas.List.Folds.{list_any-append}
use Rattle.std.specs.List.{AllByRecursion, list_any}
use Rattle.std.specs.Prelude.{IsTrue, ◌==◌}
use Rattle.zio_types.specs.declared.journal.Completion.{Completion}
use Rattle.zio_types.specs.declared.place.TopSize.{TopSize}
use Rattle.zio_types.specs.Choices.{Choice}
use Rattle.zio_script.specs.declared.script.Request.{Request}
use Rattle.zio_cksum.proofs.AllLemmas.{all_append, all_weaker}
use Rattle.zio_gang.specs.Journals.{AreChoicesOf, AreCompletions, AreCompletionsOf, CompleteAfterChildren, CompleteOnce, IsLawfulJournal, choices_in, completions_in, is_child, is_round_of}
use Rattle.zio_gang.specs.Runs.{Round}
use Rattle.zio_course.specs.Course.{AreOfRounds}

-- ---- numbers of rounds

-- one item more at the end
pub all_push : {X : Type 0} (P : X → Type 0) (xs : List X) (x : X) → AllByRecursion P xs → P x → AllByRecursion P (xs ++ x ∷ [])
all_push P xs x h last = all_append P xs (x ∷ []) h (last, tt)

pub all_more : {X : Type 0} (number : X → ℕ) (n : ℕ) (xs : List X) → AllByRecursion (λ x. number x ≤ n) xs → AllByRecursion (λ x. number x ≤ n + 1) xs
all_more number n xs h = all_weaker (λ x. number x ≤ n) (λ x. number x ≤ n + 1) xs (λ x le. omega arith) h

-- those of earlier rounds and those of the next
pub all_next : {X : Type 0} (number : X → ℕ) (n : ℕ) (xs new : List X) → AllByRecursion (λ x. number x ≤ n) xs → AllByRecursion (λ x. number x ≡ n + 1) new
    → AllByRecursion (λ x. number x ≤ n + 1) (xs ++ new)
all_next number n xs new h next =
    all_append (λ x. number x ≤ n + 1) xs new (all_more number n xs h)
    (all_weaker (λ x. number x ≡ n + 1) (λ x. number x ≤ n + 1) new (λ x at. omega arith) next)

pub all_both : {X : Type 0} (P Q : X → Type 0) (xs : List X) → AllByRecursion P xs → AllByRecursion Q xs → AllByRecursion (λ x. P x × Q x) xs
all_both P Q [] h k = tt
all_both P Q (x ∷ xs) h k = ((h.0, k.0), all_both P Q xs h.1 k.1)

-- the entries of one round more
pub one_round_more : (such : ℕ → List Choice → Type 0) (rounds n : ℕ) (before last places : List Choice) → AreOfRounds such rounds before → such (rounds + 1) last → n ≡ rounds + 1 → places ≡ before ++ last → AreOfRounds such n places
one_round_more such rounds n before last places h own n_is places_is =
    let on : rounds + 1 ≡ suc rounds = omega arith in
    subst (λ (m : ℕ). AreOfRounds such m places) (sym (n_is ∙ on)) (before, last, places_is, h, subst (λ (m : ℕ). such m last) on own)

filter_none : {X : Type 0} (test : X → Bool) (xs : List X) → AllByRecursion (λ x. test x ≡ false) xs → filter test xs ≡ []
filter_none test [] h = refl
filter_none test (x ∷ xs) h = cond-false (test x) (x ∷ filter test xs) (filter test xs) h.0 ∙ filter_none test xs h.1

pub filter_whole : {X : Type 0} (test : X → Bool) (xs : List X) → AllByRecursion (λ x. test x ≡ true) xs → filter test xs ≡ xs
filter_whole test [] h = refl
filter_whole test (x ∷ xs) h =
    cond-true (test x) (x ∷ filter test xs) (filter test xs) h.0 ∙ ap (λ (ys : List _). x ∷ ys) (filter_whole test xs h.1)

module _ {X : Type 0} (number : X → ℕ) (n k : ℕ) (xs new : List X) where
  -- a round before the next has none of the next
  in_earlier : k ≤ n → AllByRecursion (λ x. number x ≡ n + 1) new → filter (λ x. number x == k) (xs ++ new) ≡ filter (λ x. number x == k) xs
  in_earlier before next =
      filter-append (λ x. number x == k) xs new
      ∙ ap (λ (ys : List X). filter (λ x. number x == k) xs ++ ys)
      (filter_none (λ x. number x == k) new
      (all_weaker (λ x. number x ≡ n + 1) (λ x. (number x == k) ≡ false) new (λ x at. ne_eqb (number x) k (λ same. omega arith)) next))
      ∙ append-nil (filter (λ x. number x == k) xs)

  -- the next round has those of the next alone
  in_next : k ≡ n + 1 → AllByRecursion (λ x. number x ≤ n) xs → AllByRecursion (λ x. number x ≡ n + 1) new → filter (λ x. number x == k) (xs ++ new) ≡ new
  in_next now earlier next =
      filter-append (λ x. number x == k) xs new
      ∙ ap (λ (ys : List X). ys ++ filter (λ x. number x == k) new)
      (filter_none (λ x. number x == k) xs
      (all_weaker (λ x. number x ≤ n) (λ x. (number x == k) ≡ false) xs (λ x le. ne_eqb (number x) k (λ same. omega arith)) earlier))
      ∙ filter_whole (λ x. number x == k) new
      (all_weaker (λ x. number x ≡ n + 1) (λ x. (number x == k) ≡ true) new (λ x at. eq-eqb (number x) k (at ∙ sym now)) next)

-- what later rounds add is none of this round
in_later : {X : Type 0} (number : X → ℕ) (k : ℕ) (xs later : List X) → AllByRecursion (λ x. k < number x) later
    → filter (λ x. number x == k) (xs ++ later) ≡ filter (λ x. number x == k) xs
in_later number k xs later after =
    filter-append (λ x. number x == k) xs later
    ∙ ap (λ (ys : List _). filter (λ x. number x == k) xs ++ ys)
    (filter_none (λ x. number x == k) later
    (all_weaker (λ x. k < number x) (λ x. (number x == k) ≡ false) later (λ x more. ne_eqb (number x) k (λ same. omega arith)) after))
    ∙ append-nil (filter (λ x. number x == k) xs)

-- the next round has those of the next alone, whatever later rounds add
pub in_round : {X : Type 0} (number : X → ℕ) (n : ℕ) (old now new later : List X) → now ≡ old ++ new → AllByRecursion (λ x. number x ≤ n) old
    → AllByRecursion (λ x. number x ≡ n + 1) new → AllByRecursion (λ x. n + 1 < number x) later
    → filter (λ x. number x == n + 1) (now ++ later) ≡ new
in_round number n old now new later is earlier next after =
    in_later number (n + 1) now later after
    ∙ (ap (filter (λ x. number x == n + 1)) is ∙ in_next number n (n + 1) old new refl earlier next)

-- those of the next round and those of later ones come after this one
pub all_after : {X : Type 0} (number : X → ℕ) (n : ℕ) (new later : List X) → AllByRecursion (λ x. number x ≡ n + 1) new → AllByRecursion (λ x. n + 1 < number x) later
    → AllByRecursion (λ x. n < number x) (new ++ later)
all_after number n new later next after =
    all_append (λ x. n < number x) new later
    (all_weaker (λ x. number x ≡ n + 1) (λ x. n < number x) new (λ x at. omega arith) next)
    (all_weaker (λ x. n + 1 < number x) (λ x. n < number x) later (λ x more. omega arith) after)

-- each is of one of the rounds, where each of the new ones is of the next round
of_rounds_next : {X : Type 0} (number : X → ℕ) (n : ℕ) (rounds : List Round) (round : Round) (xs new : List X)
    → AllByRecursion (λ x. IsTrue (list_any (is_round_of (number x)) rounds)) xs → round.number ≡ n + 1 → AllByRecursion (λ x. number x ≡ n + 1) new
    → AllByRecursion (λ x. IsTrue (list_any (is_round_of (number x)) (rounds ++ round ∷ []))) (xs ++ new)
of_rounds_next number n rounds round xs new of at next =
    all_append (λ x. IsTrue (list_any (is_round_of (number x)) (rounds ++ round ∷ []))) xs new
    (all_weaker (λ x. IsTrue (list_any (is_round_of (number x)) rounds)) (λ x. IsTrue (list_any (is_round_of (number x)) (rounds ++ round ∷ []))) xs
    (λ x h. list_any-append (is_round_of (number x)) rounds (round ∷ []) ∙ or_left _ _ h) of)
    (all_weaker (λ x. number x ≡ n + 1) (λ x. IsTrue (list_any (is_round_of (number x)) (rounds ++ round ∷ []))) new
    (λ x h. list_any-append (is_round_of (number x)) rounds (round ∷ [])
    ∙ or_right _ _ (or_left _ _ (eq-eqb round.number (number x) (at ∙ sym h)))) next)

-- ---- choices

pub lawful_none : (sizes : List TopSize) → IsLawfulJournal sizes [] []
lawful_none sizes = record { of_rounds = tt; each = tt }

-- the choices of one round more
pub lawful_next : (sizes : List TopSize) (n : ℕ) (rounds : List Round) (round : Round) (choices new : List Choice)
    → IsLawfulJournal sizes rounds choices
    → AllByRecursion (λ (c : Choice). c.asked.key.round ≤ n) choices
    → AllByRecursion (λ (r : Round). r.number ≤ n) rounds
    → round.number ≡ n + 1
    → AllByRecursion (λ (c : Choice). c.asked.key.round ≡ n + 1) new
    → AreChoicesOf sizes round.used round.asks new
    → IsLawfulJournal sizes (rounds ++ round ∷ []) (choices ++ new)
lawful_next sizes n rounds round choices new lawful earlier before number now of_round =
    let round_of : Choice → ℕ = λ (c : Choice). c.asked.key.round in
    let has : List Choice → Round → Type 0 = λ journal r. AreChoicesOf sizes r.used r.asks (choices_in r.number journal) in
    record {
      of_rounds = of_rounds_next round_of n rounds round choices new lawful.of_rounds number now;
      each = all_push (has (choices ++ new)) rounds round
          (all_weaker (λ (r : Round). has choices r × (r.number ≤ n)) (has (choices ++ new)) rounds
          (λ r h. subst (λ (cs : List Choice). AreChoicesOf sizes r.used r.asks cs) (sym (in_earlier round_of n r.number choices new h.1 now)) h.0)
          (all_both (has choices) (λ (r : Round). r.number ≤ n) rounds lawful.each before))
          (subst (λ (cs : List Choice). AreChoicesOf sizes round.used round.asks cs) (sym (in_next round_of n round.number choices new number earlier now)) of_round);
    }

-- ---- completions

-- ---- completions

pub completions_none : (requests : List Request) → AreCompletions requests [] []
completions_none requests = record { of_rounds = tt; each = tt; once = tt; after_children = tt }

-- lists in which no request completes twice, and none of the first completes in the second
pub once_both : (xs ys : List Completion) → CompleteOnce xs → CompleteOnce ys
    → AllByRecursion (λ (c : Completion). AllByRecursion (λ (d : Completion). (c.request == d.request) ≡ false) ys) xs → CompleteOnce (xs ++ ys)
once_both [] ys h k apart = k
once_both (x ∷ xs) ys h k apart =
    (all_append (λ (d : Completion). (x.request == d.request) ≡ false) xs ys h.0 apart.0, once_both xs ys h.1 k apart.1)

-- the same of children: none of the second completes after its parent in the first
pub after_both : (requests : List Request) (xs ys : List Completion) → CompleteAfterChildren requests xs → CompleteAfterChildren requests ys
    → AllByRecursion (λ (c : Completion). AllByRecursion (λ (d : Completion). is_child requests c d ≡ false) ys) xs → CompleteAfterChildren requests (xs ++ ys)
after_both requests [] ys h k apart = k
after_both requests (x ∷ xs) ys h k apart =
    (all_append (λ (d : Completion). is_child requests x d ≡ false) xs ys h.0 apart.0, after_both requests xs ys h.1 k apart.1)

-- the completions of one round more
pub completions_next : (requests : List Request) (n : ℕ) (rounds : List Round) (round : Round) (cs new : List Completion)
    → AreCompletions requests rounds cs
    → AllByRecursion (λ (c : Completion). c.round ≤ n) cs
    → AllByRecursion (λ (r : Round). r.number ≤ n) rounds
    → AllByRecursion (λ (c : Completion). c.round ≡ n + 1) new
    → round.number ≡ n + 1
    → AreCompletionsOf round.number round.ended new
    → CompleteOnce (cs ++ new)
    → CompleteAfterChildren requests (cs ++ new)
    → AreCompletions requests (rounds ++ round ∷ []) (cs ++ new)
completions_next requests n rounds round cs new are earlier before now number of_round once after =
    let round_of : Completion → ℕ = λ (d : Completion). d.round in
    let has : List Completion → Round → Type 0 = λ all r. AreCompletionsOf r.number r.ended (completions_in r.number all) in
    record {
      of_rounds = of_rounds_next round_of n rounds round cs new are.of_rounds number now;
      each = all_push (has (cs ++ new)) rounds round
          (all_weaker (λ (r : Round). has cs r × (r.number ≤ n)) (has (cs ++ new)) rounds
          (λ r h. subst (λ (ds : List Completion). AreCompletionsOf r.number r.ended ds) (sym (in_earlier round_of n r.number cs new h.1 now)) h.0)
          (all_both (has cs) (λ (r : Round). r.number ≤ n) rounds are.each before))
          (subst (λ (ds : List Completion). AreCompletionsOf round.number round.ended ds)
          (sym (in_next round_of n round.number cs new number earlier now)) of_round);
      once = once;
      after_children = after;
    }
