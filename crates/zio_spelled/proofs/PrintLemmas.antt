-- What is printed of a round's journal is read back.
use Rattle.std.proofs.Common.{◌≡◌, ◌<◌, ◌+◌, ◌^◌, ◌++◌, ℕ, List, [], ◌∷◌, refl, sym, ap, subst, ◌∙◌, Bool, true, false, arith, append_assoc}
use Rattle.std.specs.Prelude.{codes, decimal}
use Rattle.std.specs.List.{AllByRecursion, AllZip, flat_map}
use Rattle.std.proofs.lemmas.List.{append-nil}
use Rattle.zio_types.specs.declared.journal.Completion.{Completion}
use Rattle.zio_types.specs.declared.place.TopSize.{TopSize}
use Rattle.zio_types.specs.Choices.{Choice, is_refused}
use Rattle.zio_script.specs.Words.{Word, is_word, lines_of}
use Rattle.zio_report.specs.Lines.{choice_text, journal_text, order_text, spaced}
use Rattle.zio_spelled.specs.declared.rounds.RoundJournal.{RoundJournal}
use Rattle.zio_spelled.specs.Rounds.{AreJournals, IsRoundJournal, IsSpelled, lines_of_rounds}
use Rattle.zio_spelled.specs.Laws.{requests_of}
use Rattle.zio_spelled.specs.Spelled.{ChoiceFits, IsOrder, IsTake, completed, first_of, is_order, is_take, order_line, take_text}
use Rattle.zio_spelled.proofs.OrderLemmas.{order_one_line, order_parts}
use Rattle.zio_spelled.proofs.PartLemmas.{line_then}
use Rattle.zio_spelled.proofs.RoundLemmas.{kept_line, other_line, round_read, take_is_no_order}
use Rattle.zio_spelled.proofs.ShapeLemmas.{take_one_line, take_parts}
use Rattle.zio_spelled.proofs.WordLemmas.{some_is}

order_texts : (completions : List Completion) → flat_map (λ (d : Completion). spaced (decimal d.request)) completions ≡ flat_map (λ n. spaced (decimal n)) (requests_of completions)
order_texts [] = refl
order_texts (d ∷ completions) = ap (λ (rest : List ℕ). spaced (decimal d.request) ++ rest) (order_texts completions)

take_line : (marked : Bool) (c : Choice) → ChoiceFits c → is_take (take_text marked c) ≡ true
take_line marked c fits = ap (λ (ws : List Word). is_word (codes "take") (first_of ws)) (take_parts marked c fits)

an_order : (numbers : List ℕ) → AllByRecursion (λ n. n < 2 ^ 32) numbers → is_order (order_line numbers) ≡ true
an_order numbers fits = ap (λ (ws : List Word). is_word (codes "order") (first_of ws)) (order_parts numbers fits)

no_take : (numbers : List ℕ) → AllByRecursion (λ n. n < 2 ^ 32) numbers → is_take (order_line numbers) ≡ false
no_take numbers fits = ap (λ (ws : List Word). is_word (codes "take") (first_of ws)) (order_parts numbers fits)

-- only the line of completions
printed_order : (tops : List TopSize) (round : ℕ) (completions : List Completion) → AllByRecursion (λ n. n < 2 ^ 32) (requests_of completions)
    → IsRoundJournal tops round (lines_of (order_text completions)) (record { entries = []; order = requests_of completions })
printed_order tops round [] fits = record { entries = tt; orders = []; order_lines = tt; order_is = refl }
printed_order tops round (d ∷ completions) fits =
    let numbers = requests_of (d ∷ completions) in
    let line = order_line numbers in
    let lines : lines_of (order_text (d ∷ completions)) ≡ line ∷ [] =
    ap (λ (rest : List ℕ). lines_of ((codes "order" ++ rest) ++ 10 ∷ [])) (order_texts (d ∷ completions)) ∙ line_then line [] (order_one_line numbers fits) in
    let order : IsOrder line numbers = record { text = refl; fits = fits; some = omega arith } in
    let whole : IsRoundJournal tops round (line ∷ []) (record { entries = []; order = numbers }) = record {
      entries = subst (λ (ls : List Word). AllZip (IsTake tops round) ls []) (sym (other_line is_take line [] (no_take numbers fits))) tt;
      orders = numbers ∷ [];
      order_lines = subst (λ (ls : List Word). AllZip IsOrder ls (numbers ∷ [])) (sym (kept_line is_order line [] (an_order numbers fits))) (order, tt);
      order_is = sym (append-nil numbers);
    } in
    subst (λ (ls : List Word). IsRoundJournal tops round ls (record { entries = []; order = numbers })) (sym lines) whole

-- the entries and the completions of a round
pub printed_round : (tops : List TopSize) (round : ℕ) (choices : List Choice) (completions : List Completion)
    → AllByRecursion ChoiceFits choices → AllByRecursion (λ (c : Choice). c ≡ completed tops round c) choices → AllByRecursion (λ n. n < 2 ^ 32) (requests_of completions)
    → IsRoundJournal tops round (lines_of (journal_text choices completions)) (record { entries = choices; order = requests_of completions })
printed_round tops round [] completions fits whole numbers = printed_order tops round completions numbers
printed_round tops round (c ∷ choices) completions fits whole numbers =
    let line = take_text (is_refused c) c in
    let rest = journal_text choices completions in
    let text : journal_text (c ∷ choices) completions ≡ line ++ 10 ∷ rest =
    append_assoc (choice_text c) (flat_map choice_text choices) (order_text completions) ∙ append_assoc line (10 ∷ []) rest in
    let lines : lines_of (journal_text (c ∷ choices) completions) ≡ line ∷ lines_of rest = ap lines_of text ∙ line_then line rest (take_one_line (is_refused c) c fits.0) in
    let others = printed_round tops round choices completions fits.1 whole.1 numbers in
    let take : IsTake tops round line c = record { marked = is_refused c; text = refl; fits = fits.0; whole = whole.0 } in
    let is = take_line (is_refused c) c fits.0 in
    let made : IsRoundJournal tops round (line ∷ lines_of rest) (record { entries = c ∷ choices; order = requests_of completions }) = record {
      entries = subst (λ (ls : List Word). AllZip (IsTake tops round) ls (c ∷ choices)) (sym (kept_line is_take line (lines_of rest) is)) (take, others.entries);
      orders = others.orders;
      order_lines = subst (λ (ls : List Word). AllZip IsOrder ls others.orders) (sym (other_line is_order line (lines_of rest) (take_is_no_order line is))) others.order_lines;
      order_is = others.order_is;
    } in
    subst (λ (ls : List Word). IsRoundJournal tops round ls (record { entries = c ∷ choices; order = requests_of completions })) (sym lines) made

-- ---- one journal at most

pub spells_one : (tops : List TopSize) (round : ℕ) (lines : List Word) (a b : RoundJournal) → IsRoundJournal tops round lines a → IsRoundJournal tops round lines b → a ≡ b
spells_one tops round lines a b first second = some_is a b (sym (round_read tops round lines a first) ∙ round_read tops round lines b second)

journals_one : (tops : List TopSize) (round : ℕ) (rounds : List (List Word)) (a b : List RoundJournal) → AreJournals tops round rounds a → AreJournals tops round rounds b → a ≡ b
journals_one tops round [] [] [] first second = refl
journals_one tops round [] [] (k ∷ ks) first second = absurd second
journals_one tops round [] (j ∷ js) b first second = absurd first
journals_one tops round (lines ∷ rounds) [] b first second = absurd first
journals_one tops round (lines ∷ rounds) (j ∷ js) [] first second = absurd second
journals_one tops round (lines ∷ rounds) (j ∷ js) (k ∷ ks) first second =
    ap (λ (l : RoundJournal). l ∷ js) (spells_one tops round lines j k first.0 second.0)
    ∙ ap (λ (ls : List RoundJournal). k ∷ ls) (journals_one tops (round + 1) rounds js ks first.1 second.1)

pub report_spells_one : (tops : List TopSize) (text : List ℕ) (a b : List RoundJournal) → IsSpelled tops text a → IsSpelled tops text b → a ≡ b
report_spells_one tops text a b first second = journals_one tops 1 (lines_of_rounds text) a b first.rounds second.rounds
