-- The journal that a report spells has, of each round, what the round's lines spell.
use Rattle.std.proofs.Common.{◌≡◌, ◌≢◌, ◌<◌, ◌≤◌, ◌+◌, ◌==◌, ◌++◌, ℕ, List, [], ◌∷◌, map, filter, refl, sym, ap, ◌∙◌, Bool, cond, arith, eq-eqb, ne_eqb}
use Rattle.std.specs.Prelude.{codes, decimal}
use Rattle.std.specs.List.{AllByRecursion, AllZip, flat_map}
use Rattle.std.proofs.lemmas.List.{append-nil}
use Rattle.std.proofs.lemmas.List.Elements.{filter-append}
use Rattle.zio_types.specs.declared.journal.Completion.{Completion}
use Rattle.zio_types.specs.declared.place.TopSize.{TopSize}
use Rattle.zio_types.specs.Choices.{Choice}
use Rattle.zio_script.specs.Words.{Word}
use Rattle.zio_gang.specs.Journals.{choices_in, completions_in}
use Rattle.zio_gang.specs.Runs.{Round}
use Rattle.zio_report.specs.Lines.{as_line, choice_text, journal_text, order_text, spaced}
use Rattle.zio_report.specs.Reports.{Records}
use Rattle.zio_spelled.specs.declared.rounds.RoundJournal.{RoundJournal}
use Rattle.zio_spelled.specs.Rounds.{AreJournals}
use Rattle.zio_spelled.specs.Spelled.{IsTake}
use Rattle.zio_audit.specs.Completions.{completion_spelled, completions_from}
use Rattle.zio_audit.specs.Marks.{named}
use Rattle.zio_audit.specs.Putting.{text_of}
use Rattle.zio_audit.specs.Verdicts.{entries_of, orders_of}
use Rattle.zio_audit.proofs.TextPuts.{AreTexts, journal_in}

-- ---- items of one round

module _ {X : Type 0} (round_of : X → ℕ) where
  abbrev in_round : ℕ → X → Bool
  in_round number x = round_of x == number

  pub all_of : (number : ℕ) (xs : List X) → AllByRecursion (λ x. round_of x ≡ number) xs → filter (in_round number) xs ≡ xs
  all_of number [] h = refl
  all_of number (x ∷ xs) h =
      ap (λ b. cond b (x ∷ filter (in_round number) xs) (filter (in_round number) xs)) (eq-eqb (round_of x) number h.0)
      ∙ ap (λ (rest : List X). x ∷ rest) (all_of number xs h.1)

  pub none_of : (number other : ℕ) (xs : List X) → number ≢ other → AllByRecursion (λ x. round_of x ≡ number) xs → filter (in_round other) xs ≡ []
  none_of number other [] apart h = refl
  none_of number other (x ∷ xs) apart h =
      ap (λ b. cond b (x ∷ filter (in_round other) xs) (filter (in_round other) xs)) (ne_eqb (round_of x) other (λ same. apart (sym h.0 ∙ same)))
      ∙ none_of number other xs apart h.1

-- the round of an entry
abbrev round_of_choice : Choice → ℕ
round_of_choice c = c.asked.key.round

-- the round of a completion
abbrev round_of_completion : Completion → ℕ
round_of_completion c = c.round

-- ---- entries

-- the entries of each journal are of its round, from this number on
abbrev pub AreInRounds : ℕ → List RoundJournal → Type 0
AreInRounds number [] = Unit {0}
AreInRounds number (j ∷ journals) = AllByRecursion (λ (c : Choice). c.asked.key.round ≡ number) j.entries × AreInRounds (number + 1) journals

-- lines spell entries of their round
takes_in : (tops : List TopSize) (number : ℕ) (lines : List Word) (entries : List Choice) → AllZip (IsTake tops number) lines entries
    → AllByRecursion (λ (c : Choice). c.asked.key.round ≡ number) entries
takes_in tops number [] [] takes = tt
takes_in tops number [] (c ∷ entries) takes = absurd takes
takes_in tops number (line ∷ lines) [] takes = absurd takes
takes_in tops number (line ∷ lines) (c ∷ entries) takes =
    (ap (λ (d : Choice). d.asked.key.round) takes.0.whole, takes_in tops number lines entries takes.1)

-- what a report spells is so
pub spelled_in_rounds : (tops : List TopSize) (number : ℕ) (rounds : List (List Word)) (journals : List RoundJournal) → AreJournals tops number rounds journals → AreInRounds number journals
spelled_in_rounds tops number [] [] are = tt
spelled_in_rounds tops number [] (j ∷ journals) are = absurd are
spelled_in_rounds tops number (lines ∷ rounds) [] are = absurd are
spelled_in_rounds tops number (lines ∷ rounds) (j ∷ journals) are =
    (takes_in tops number _ j.entries are.0.entries, spelled_in_rounds tops (number + 1) rounds journals are.1)

-- no entry is of an earlier round
pub no_earlier : (other number : ℕ) (journals : List RoundJournal) → other < number → AreInRounds number journals → choices_in other (entries_of journals) ≡ []
no_earlier other number [] below are = refl
no_earlier other number (j ∷ journals) below are =
    filter-append (λ (c : Choice). c.asked.key.round == other) j.entries (entries_of journals)
    ∙ (λ i. none_of round_of_choice number other j.entries (λ same. omega arith) are.0 i ++ no_earlier other (number + 1) journals (omega arith) are.1 i)

-- of a round the entries are its own
pub own_entries : (number : ℕ) (j : RoundJournal) (journals : List RoundJournal) → AreInRounds number (j ∷ journals) → choices_in number (entries_of (j ∷ journals)) ≡ j.entries
own_entries number j journals are =
    filter-append (λ (c : Choice). c.asked.key.round == number) j.entries (entries_of journals)
    ∙ (λ i. all_of round_of_choice number j.entries are.0 i ++ no_earlier number (number + 1) journals (omega arith) are.1 i)
    ∙ append-nil j.entries

-- of a later round they are those of the later journals
pub later_entries : (number other : ℕ) (j : RoundJournal) (journals : List RoundJournal) → number < other → AreInRounds number (j ∷ journals)
    → choices_in other (entries_of (j ∷ journals)) ≡ choices_in other (entries_of journals)
later_entries number other j journals above are =
    filter-append (λ (c : Choice). c.asked.key.round == other) j.entries (entries_of journals)
    ∙ ap (λ (front : List Choice). front ++ choices_in other (entries_of journals)) (none_of round_of_choice number other j.entries (λ same. omega arith) are.0)

-- ---- completions

-- completions are spelled in their round
spelled_here : (rounds : List Round) (number : ℕ) (order : List ℕ) → AllByRecursion (λ (c : Completion). c.round ≡ number) (map (completion_spelled rounds number) order)
spelled_here rounds number [] = tt
spelled_here rounds number (n ∷ order) = (refl, spelled_here rounds number order)

-- no completion is of an earlier round
pub no_earlier_completion : (rounds : List Round) (other number : ℕ) (orders : List (List ℕ)) → other < number → completions_in other (completions_from rounds number orders) ≡ []
no_earlier_completion rounds other number [] below = refl
no_earlier_completion rounds other number (order ∷ orders) below =
    let here = map (completion_spelled rounds number) order in
    filter-append (λ (c : Completion). c.round == other) here (completions_from rounds (number + 1) orders)
    ∙ (λ i. none_of round_of_completion number other here (λ same. omega arith) (spelled_here rounds number order) i ++ no_earlier_completion rounds other (number + 1) orders (omega arith) i)

-- of a round the completions are its own
pub own_completions : (rounds : List Round) (number : ℕ) (order : List ℕ) (orders : List (List ℕ))
    → completions_in number (completions_from rounds number (order ∷ orders)) ≡ map (completion_spelled rounds number) order
own_completions rounds number order orders =
    let here = map (completion_spelled rounds number) order in
    filter-append (λ (c : Completion). c.round == number) here (completions_from rounds (number + 1) orders)
    ∙ (λ i. all_of round_of_completion number here (spelled_here rounds number order) i ++ no_earlier_completion rounds number (number + 1) orders (omega arith) i)
    ∙ append-nil here

-- of a later round they are those of the later orders
pub later_completions : (rounds : List Round) (number other : ℕ) (order : List ℕ) (orders : List (List ℕ)) → number < other
    → completions_in other (completions_from rounds number (order ∷ orders)) ≡ completions_in other (completions_from rounds (number + 1) orders)
later_completions rounds number other order orders above =
    let here = map (completion_spelled rounds number) order in
    filter-append (λ (c : Completion). c.round == other) here (completions_from rounds (number + 1) orders)
    ∙ ap (λ (front : List Completion). front ++ completions_in other (completions_from rounds (number + 1) orders))
    (none_of round_of_completion number other here (λ same. omega arith) (spelled_here rounds number order))

-- ---- texts

-- the line of completions shows their requests alone
same_numbers : (f g : ℕ → Completion) → ((n : ℕ) → (f n).request ≡ (g n).request) → (order : List ℕ)
    → flat_map (λ (d : Completion). spaced (decimal d.request)) (map f order) ≡ flat_map (λ (d : Completion). spaced (decimal d.request)) (map g order)
same_numbers f g same [] = refl
same_numbers f g same (n ∷ order) = λ i. spaced (decimal (same n i)) ++ same_numbers f g same order i

-- so is the whole line
same_order : (f g : ℕ → Completion) → ((n : ℕ) → (f n).request ≡ (g n).request) → (order : List ℕ) → order_text (map f order) ≡ order_text (map g order)
same_order f g same [] = refl
same_order f g same (n ∷ order) = ap (λ (numbers : List ℕ). as_line (codes "order" ++ numbers)) (same_numbers f g same (n ∷ order))

-- the records of journals from this round on, where these rounds were run
abbrev pub records_from : List Round → ℕ → List RoundJournal → Records
records_from rounds number journals = record { choices = entries_of journals; completions = completions_from rounds number (orders_of journals) }

-- texts are the same where each round has the same
same_texts : (j k : Records) (number : ℕ) (texts : List (List ℕ)) → ((other : ℕ) → number ≤ other → journal_in j other ≡ journal_in k other) → AreTexts k number texts → AreTexts j number texts
same_texts j k number [] same are = λ other above. same other above ∙ are other above
same_texts j k number (text ∷ texts) same are =
    (same number (omega arith) ∙ are.0, same_texts j k (number + 1) texts (λ other above. same other (omega arith)) are.1)

-- what is printed of each round is the text of its journal
pub spelled_texts : (rounds : List Round) (number : ℕ) (journals : List RoundJournal) → AreInRounds number journals → AreTexts (records_from rounds number journals) number (map text_of journals)
spelled_texts rounds number [] are = λ other above. refl
spelled_texts rounds number (j ∷ journals) are = (
  (λ i. journal_text (own_entries number j journals are i) (own_completions rounds number j.order (orders_of journals) i))
      ∙ ap (λ (order : List ℕ). flat_map choice_text j.entries ++ order) (same_order (completion_spelled rounds number) (named 0) (λ n. refl) j.order),
  same_texts (records_from rounds number (j ∷ journals)) (records_from rounds (number + 1) journals) (number + 1) (map text_of journals)
      (λ other above i. journal_text (later_entries number other j journals (omega arith) are i) (later_completions rounds number other j.order (orders_of journals) (omega arith) i))
      (spelled_texts rounds (number + 1) journals are.1),
)
