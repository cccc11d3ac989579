-- A report's lines are of their shapes exactly where it spells a journal.
use Rattle.std.proofs.Common.{◌≡◌, ◌+◌, ℕ, List, [], ◌∷◌, cond, filter, refl, sym, ap, Bool, true, false}
use Rattle.std.specs.Prelude.{codes}
use Rattle.std.specs.List.{AllByRecursion, AllZip, concat, list_any, onto_first, slice_split}
use Rattle.std.proofs.lemmas.Bool.{or_parts, true≢false}
use Rattle.std.proofs.lemmas.Slice.Eq.{bytes_eq-Decides}
use Rattle.zio_types.specs.declared.place.TopSize.{TopSize}
use Rattle.zio_types.specs.Choices.{Choice}
use Rattle.zio_script.specs.Words.{Word, is_word, lines_of}
use Rattle.zio_spelled.specs.declared.rounds.RoundJournal.{RoundJournal}
use Rattle.zio_spelled.specs.Rounds.{AreJournals, IsRoundJournal, IsSpelled, lines_before, lines_of_rounds, others_of, parts_by_round}
use Rattle.zio_spelled.specs.Spelled.{IsOrder, IsTake, IsTakeShape, first_of, first_word, is_journal, is_order, is_round, is_take}
use Rattle.zio_spelled.proofs.ShapeLemmas.{shape_spells}
use Rattle.zio_audit.specs.Verdicts.{AreShaped, IsShaped}
use Rattle.zio_audit.proofs.VerdictLemmas.{other_shaped}

-- ---- the parts of a list

module _ {X : Type 0} (P : X → Type 0) (test : X → Bool) where
  all_onto : (x : X) (parts : List (List X)) → P x → AllByRecursion (AllByRecursion P) parts → AllByRecursion (AllByRecursion P) (onto_first x parts)
  all_onto x [] h all = ((h, tt), tt)
  all_onto x (part ∷ parts) h all = ((h, all.0), all.1)

  all_cut : (t : Bool) (x : X) (parts : List (List X)) → P x → AllByRecursion (AllByRecursion P) parts → AllByRecursion (AllByRecursion P) (cond t ([] ∷ parts) (onto_first x parts))
  all_cut true x parts h all = (tt, all)
  all_cut false x parts h all = all_onto x parts h all

  -- what holds of all holds in each part
  all_split : (xs : List X) → AllByRecursion P xs → AllByRecursion (AllByRecursion P) (slice_split test xs)
  all_split [] h = (tt, tt)
  all_split (x ∷ xs) h = all_cut (test x) x (slice_split test xs) h.0 (all_split xs h.1)

  of_onto : (x : X) (parts : List (List X)) → AllByRecursion (AllByRecursion P) (onto_first x parts) → P x × AllByRecursion (AllByRecursion P) parts
  of_onto x [] all = (all.0.0, tt)
  of_onto x (part ∷ parts) all = (all.0.0, (all.0.1, all.1))

  of_cut : (t : Bool) (x : X) (parts : List (List X)) → test x ≡ t → (test x ≡ true → P x) → AllByRecursion (AllByRecursion P) (cond t ([] ∷ parts) (onto_first x parts))
      → P x × AllByRecursion (AllByRecursion P) parts
  of_cut true x parts is at all = (at is, all.1)
  of_cut false x parts is at all = of_onto x parts all

  -- and what holds in each part and where a part ends holds of all
  split_all : (xs : List X) → ((x : X) → test x ≡ true → P x) → AllByRecursion (AllByRecursion P) (slice_split test xs) → AllByRecursion P xs
  split_all [] at all = tt
  split_all (x ∷ xs) at all =
      let both = of_cut (test x) x (slice_split test xs) refl (at x) all in
      (both.0, split_all xs at both.1)

-- ---- the lines of a round

-- the head of a round is no line of the journal
round_shaped : (line : Word) → is_round line ≡ true → IsShaped line
round_shaped line round =
    let word : codes "round" ≡ first_word line = (bytes_eq-Decides (codes "round") (first_word line)).0 round in
    other_shaped line (ap (is_word (codes "take")) (sym word)) (ap (is_word (codes "order")) (sym word))

kept_takes : (tops : List TopSize) (n : ℕ) (t : Bool) (line : Word) (lines : List Word) → (t ≡ true → (c : Choice) × IsTake tops n line c)
    → (cs : List Choice) × AllZip (IsTake tops n) lines cs → (cs : List Choice) × AllZip (IsTake tops n) (cond t (line ∷ lines) lines) cs
kept_takes tops n true line lines here rest = let c = here refl in (c.0 ∷ rest.0, (c.1, rest.1))
kept_takes tops n false line lines here rest = rest

some_takes : (tops : List TopSize) (n : ℕ) (lines : List Word) → AllByRecursion IsShaped lines → (cs : List Choice) × AllZip (IsTake tops n) (filter is_take lines) cs
some_takes tops n [] shaped = ([], tt)
some_takes tops n (line ∷ lines) shaped =
    kept_takes tops n (is_take line) line (filter is_take lines) (λ is. shape_spells tops n line (shaped.0.take is)) (some_takes tops n lines shaped.1)

kept_orders : (t : Bool) (line : Word) (lines : List Word) → (t ≡ true → (numbers : List ℕ) × IsOrder line numbers)
    → (os : List (List ℕ)) × AllZip IsOrder lines os → (os : List (List ℕ)) × AllZip IsOrder (cond t (line ∷ lines) lines) os
kept_orders true line lines here rest = let o = here refl in (o.0 ∷ rest.0, (o.1, rest.1))
kept_orders false line lines here rest = rest

some_orders : (lines : List Word) → AllByRecursion IsShaped lines → (os : List (List ℕ)) × AllZip IsOrder (filter is_order lines) os
some_orders [] shaped = ([], tt)
some_orders (line ∷ lines) shaped = kept_orders (is_order line) line (filter is_order lines) (λ is. shaped.0.order is) (some_orders lines shaped.1)

some_round : (tops : List TopSize) (n : ℕ) (lines : List Word) → AllByRecursion IsShaped lines → (j : RoundJournal) × IsRoundJournal tops n lines j
some_round tops n lines shaped =
    let takes = some_takes tops n lines shaped in
    let orders = some_orders lines shaped in (
      record { entries = takes.0; order = concat orders.0 },
      record { entries = takes.1; orders = orders.0; order_lines = orders.1; order_is = refl },
    )

some_rounds : (tops : List TopSize) (n : ℕ) (rounds : List (List Word)) → AllByRecursion (AllByRecursion IsShaped) rounds → (js : List RoundJournal) × AreJournals tops n rounds js
some_rounds tops n [] shaped = ([], tt)
some_rounds tops n (lines ∷ rounds) shaped =
    let first = some_round tops n lines shaped.0 in
    let rest = some_rounds tops (n + 1) rounds shaped.1 in
    (first.0 ∷ rest.0, (first.1, rest.1))

others_all : {X : Type 0} (P : X → Type 0) (xs : List X) → AllByRecursion P xs → AllByRecursion P (others_of xs)
others_all P [] all = tt
others_all P (x ∷ xs) all = all.1

pub shaped_spelled : (tops : List TopSize) (report : List ℕ) → AreShaped report → (journals : List RoundJournal) × IsSpelled tops report journals
shaped_spelled tops report shaped =
    let parts : AllByRecursion (AllByRecursion IsShaped) (parts_by_round report) = all_split IsShaped is_round (lines_of report) shaped.each in
    let rounds = some_rounds tops 1 (lines_of_rounds report) (others_all (AllByRecursion IsShaped) (parts_by_round report) parts) in
    (rounds.0, record { before = shaped.before; rounds = rounds.1 })

-- ---- back

take_kept : (tops : List TopSize) (n : ℕ) (t : Bool) (line : Word) (lines : List Word) (cs : List Choice) → AllZip (IsTake tops n) (cond t (line ∷ lines) lines) cs
    → (t ≡ true → IsTakeShape line) × ((ds : List Choice) × AllZip (IsTake tops n) lines ds)
take_kept tops n true line lines [] all = absurd all
take_kept tops n true line lines (c ∷ cs) all = (λ e. record { marked = all.0.marked; choice = c; text = all.0.text; fits = all.0.fits }, (cs, all.1))
take_kept tops n false line lines cs all = (λ e. absurd (true≢false (sym e)), (cs, all))

order_kept : (t : Bool) (line : Word) (lines : List Word) (os : List (List ℕ)) → AllZip IsOrder (cond t (line ∷ lines) lines) os
    → (t ≡ true → (numbers : List ℕ) × IsOrder line numbers) × ((ps : List (List ℕ)) × AllZip IsOrder lines ps)
order_kept true line lines [] all = absurd all
order_kept true line lines (o ∷ os) all = (λ e. (o, all.0), (os, all.1))
order_kept false line lines os all = (λ e. absurd (true≢false (sym e)), (os, all))

round_lines : (tops : List TopSize) (n : ℕ) (lines : List Word) (cs : List Choice) (os : List (List ℕ)) → AllZip (IsTake tops n) (filter is_take lines) cs
    → AllZip IsOrder (filter is_order lines) os → AllByRecursion IsShaped lines
round_lines tops n [] cs os takes orders = tt
round_lines tops n (line ∷ lines) cs os takes orders =
    let take = take_kept tops n (is_take line) line (filter is_take lines) cs takes in
    let order = order_kept (is_order line) line (filter is_order lines) os orders in
    (record { take = take.0; order = order.0 }, round_lines tops n lines take.1.0 order.1.0 take.1.1 order.1.1)

rounds_lines : (tops : List TopSize) (n : ℕ) (rounds : List (List Word)) (js : List RoundJournal) → AreJournals tops n rounds js → AllByRecursion (AllByRecursion IsShaped) rounds
rounds_lines tops n [] js are = tt
rounds_lines tops n (lines ∷ rounds) [] are = absurd are
rounds_lines tops n (lines ∷ rounds) (j ∷ js) are =
    (round_lines tops n lines j.entries are.0.orders are.0.entries are.0.order_lines, rounds_lines tops (n + 1) rounds js are.1)

none_lines : (lines : List Word) → list_any is_journal lines ≡ false → AllByRecursion IsShaped lines
none_lines [] none = tt
none_lines (line ∷ lines) none =
    let parts = or_parts (is_journal line) (list_any is_journal lines) none in
    let both = or_parts (is_take line) (is_order line) parts.0 in
    (other_shaped line both.0 both.1, none_lines lines parts.1)

both_parts : (P : List Word → Type 0) (parts : List (List Word)) → P (first_of parts) → AllByRecursion P (others_of parts) → AllByRecursion P parts
both_parts P [] first others = tt
both_parts P (part ∷ parts) first others = (first, others)

pub spelled_shaped : (tops : List TopSize) (report : List ℕ) (journals : List RoundJournal) → IsSpelled tops report journals → AreShaped report
spelled_shaped tops report journals spelled = record {
  before = spelled.before;
  each = split_all IsShaped is_round (lines_of report) round_shaped
      (both_parts (AllByRecursion IsShaped) (parts_by_round report) (none_lines (lines_before report) spelled.before)
      (rounds_lines tops 1 (lines_of_rounds report) journals spelled.rounds));
}
