-- The lines of a round are read exactly where they spell a journal, and a text's rounds are parted by their heads.
use Rattle.std.proofs.Common.{◌≡◌, ◌<◌, ◌++◌, ℕ, List, [], ◌∷◌, length, refl, sym, ap, subst, ◌∙◌, Bool, true, false, Option, Some, None, arith, append_assoc}
use Rattle.std.specs.Prelude.{codes, cond, filter, option_map}
use Rattle.std.specs.List.{AllZip, concat, onto_first, slice_split}
use Rattle.std.proofs.lemmas.List.{append-nil}
use Rattle.std.proofs.lemmas.List.Splits.{length-slice_split, slice_split-cons_no, slice_split-cons_yes}
use Rattle.std.proofs.lemmas.Slice.Eq.{bytes_eq-Decides}
use Rattle.zio_types.specs.declared.place.TopSize.{TopSize}
use Rattle.zio_types.specs.Choices.{Choice}
use Rattle.zio_script.specs.Lines.{◌>>=◌}
use Rattle.zio_script.specs.Words.{Word, is_word, lines_of}
use Rattle.zio_spelled.specs.declared.rounds.JournalFault.{JournalFault}
use Rattle.zio_spelled.specs.declared.rounds.JournalFault.TheVariants.{Faulty, Memory}
use Rattle.zio_spelled.specs.declared.rounds.RoundJournal.{RoundJournal}
use Rattle.zio_spelled.specs.Reading.{line_onto, lines_onto, no_lines, order_in, take_in, with_entry, with_order}
use Rattle.zio_spelled.specs.Rounds.{IfFaulty, IsRoundJournal, lines_before, lines_of_rounds, others_of, parts_by_round}
use Rattle.zio_spelled.specs.Spelled.{IsOrder, IsTake, first_of, first_word, is_order, is_round, is_take}
use Rattle.zio_spelled.proofs.OrderLemmas.{line_is_order, order_line_read}
use Rattle.zio_spelled.proofs.ShapeLemmas.{line_is_take, take_line_read}
use Rattle.zio_spelled.proofs.WordLemmas.{bind_some, map_some, none_is, some_is}

-- ---- the lines of a round

pub take_is_no_order : (line : Word) → is_take line ≡ true → is_order line ≡ false
take_is_no_order line is = ap (is_word (codes "order")) (sym ((bytes_eq-Decides (codes "take") (first_word line)).0 is))

pub kept_line : (p : Word → Bool) (line : Word) (lines : List Word) → p line ≡ true → filter p (line ∷ lines) ≡ line ∷ filter p lines
kept_line p line lines is = ap (λ b. cond b (line ∷ filter p lines) (filter p lines)) is

pub other_line : (p : Word → Bool) (line : Word) (lines : List Word) → p line ≡ false → filter p (line ∷ lines) ≡ filter p lines
other_line p line lines is = ap (λ b. cond b (line ∷ filter p lines) (filter p lines)) is

-- what these lines put behind a journal
record AreLines (tops : List TopSize) (round : ℕ) (before : RoundJournal) (lines : List Word) (j : RoundJournal) : Type 0 where
  entries : List Choice
  orders : List (List ℕ)
  takes : AllZip (IsTake tops round) (filter is_take lines) entries
  order_lines : AllZip IsOrder (filter is_order lines) orders
  entries_are : j.entries ≡ before.entries ++ entries
  order_is : j.order ≡ before.order ++ concat orders

line_by : (tops : List TopSize) (round : ℕ) (before : RoundJournal) (line : Word) (lines : List Word) (next j : RoundJournal) (take order : Bool)
    → is_take line ≡ take → is_order line ≡ order
    → cond take (option_map (with_entry before) (take_in tops round line)) (cond order (option_map (with_order before) (order_in line)) (Some before)) ≡ Some next
    → AreLines tops round next lines j → AreLines tops round before (line ∷ lines) j
line_by tops round before line lines next j true order is_t is_o is are =
    map_some (with_entry before) (take_in tops round line) next is (λ choice found same. record {
      entries = choice ∷ are.entries;
      orders = are.orders;
      takes = subst (λ (ls : List Word). AllZip (IsTake tops round) ls (choice ∷ are.entries)) (sym (kept_line is_take line lines is_t))
          (line_is_take tops round line choice found, are.takes);
      order_lines = subst (λ (ls : List Word). AllZip IsOrder ls are.orders) (sym (other_line is_order line lines (take_is_no_order line is_t))) are.order_lines;
      entries_are = are.entries_are ∙ ap (λ (k : RoundJournal). k.entries ++ are.entries) (sym same) ∙ append_assoc before.entries (choice ∷ []) are.entries;
      order_is = are.order_is ∙ ap (λ (k : RoundJournal). k.order ++ concat are.orders) (sym same);
    })
line_by tops round before line lines next j false true is_t is_o is are =
    map_some (with_order before) (order_in line) next is (λ numbers found same. record {
      entries = are.entries;
      orders = numbers ∷ are.orders;
      takes = subst (λ (ls : List Word). AllZip (IsTake tops round) ls are.entries) (sym (other_line is_take line lines is_t)) are.takes;
      order_lines = subst (λ (ls : List Word). AllZip IsOrder ls (numbers ∷ are.orders)) (sym (kept_line is_order line lines is_o))
          (line_is_order line numbers found, are.order_lines);
      entries_are = are.entries_are ∙ ap (λ (k : RoundJournal). k.entries ++ are.entries) (sym same);
      order_is = are.order_is ∙ ap (λ (k : RoundJournal). k.order ++ concat are.orders) (sym same) ∙ append_assoc before.order numbers (concat are.orders);
    })
line_by tops round before line lines next j false false is_t is_o is are =
    let same : before ≡ next = some_is before next is in
    record {
      entries = are.entries;
      orders = are.orders;
      takes = subst (λ (ls : List Word). AllZip (IsTake tops round) ls are.entries) (sym (other_line is_take line lines is_t)) are.takes;
      order_lines = subst (λ (ls : List Word). AllZip IsOrder ls are.orders) (sym (other_line is_order line lines is_o)) are.order_lines;
      entries_are = are.entries_are ∙ ap (λ (k : RoundJournal). k.entries ++ are.entries) (sym same);
      order_is = are.order_is ∙ ap (λ (k : RoundJournal). k.order ++ concat are.orders) (sym same);
    }

lines_are : (tops : List TopSize) (round : ℕ) (before : RoundJournal) (lines : List Word) (j : RoundJournal) → lines_onto tops round before lines ≡ Some j
    → AreLines tops round before lines j
lines_are tops round before [] j is =
    let same : before ≡ j = some_is before j is in
    record {
      entries = [];
      orders = [];
      takes = tt;
      order_lines = tt;
      entries_are = ap (λ (k : RoundJournal). k.entries) (sym same) ∙ sym (append-nil before.entries);
      order_is = ap (λ (k : RoundJournal). k.order) (sym same) ∙ sym (append-nil before.order);
    }
lines_are tops round before (line ∷ lines) j is =
    bind_some (line_onto tops round before line) (λ next. lines_onto tops round next lines) j is (λ next first rest.
    line_by tops round before line lines next j (is_take line) (is_order line) refl refl first (lines_are tops round next lines j rest))

-- the journal with these entries and completions behind its own
abbrev longer : RoundJournal → List Choice → List (List ℕ) → RoundJournal
longer before entries orders = record { entries = before.entries ++ entries; order = before.order ++ concat orders }

true_is_not_false : true ≡ false → ⊥
true_is_not_false same = cc

read_by : (tops : List TopSize) (round : ℕ) (before : RoundJournal) (line : Word) (lines : List Word) (entries : List Choice) (orders : List (List ℕ)) (take order : Bool)
    → is_take line ≡ take → is_order line ≡ order
    → AllZip (IsTake tops round) (cond take (line ∷ filter is_take lines) (filter is_take lines)) entries
    → AllZip IsOrder (cond order (line ∷ filter is_order lines) (filter is_order lines)) orders
    → ((j : RoundJournal) (es : List Choice) (os : List (List ℕ)) → AllZip (IsTake tops round) (filter is_take lines) es → AllZip IsOrder (filter is_order lines) os
    → lines_onto tops round j lines ≡ Some (longer j es os))
    → (cond take (option_map (with_entry before) (take_in tops round line)) (cond order (option_map (with_order before) (order_in line)) (Some before))
    >>= λ next. lines_onto tops round next lines) ≡ Some (longer before entries orders)
read_by tops round before line lines entries orders true true is_t is_o takes order_lines next =
    absurd (true_is_not_false (sym is_o ∙ take_is_no_order line is_t))
read_by tops round before line lines [] orders true false is_t is_o takes order_lines next = absurd takes
read_by tops round before line lines (choice ∷ entries) orders true false is_t is_o takes order_lines next =
    let found : take_in tops round line ≡ Some choice = take_line_read tops round line takes.0.marked choice takes.0.text takes.0.fits ∙ ap Some (sym takes.0.whole) in
    ap (λ (o : Option Choice). option_map (with_entry before) o >>= λ j. lines_onto tops round j lines) found
    ∙ next (with_entry before choice) entries orders takes.1 order_lines
    ∙ ap (λ (es : List Choice). let made : RoundJournal = record { entries = es; order = before.order ++ concat orders } in Some made) (append_assoc before.entries (choice ∷ []) entries)
read_by tops round before line lines entries [] false true is_t is_o takes order_lines next = absurd order_lines
read_by tops round before line lines entries (numbers ∷ orders) false true is_t is_o takes order_lines next =
    ap (λ (o : Option (List ℕ)). option_map (with_order before) o >>= λ j. lines_onto tops round j lines) (order_line_read line numbers order_lines.0)
    ∙ next (with_order before numbers) entries orders takes order_lines.1
    ∙ ap (λ (ns : List ℕ). let made : RoundJournal = record { entries = before.entries ++ entries; order = ns } in Some made) (append_assoc before.order numbers (concat orders))
read_by tops round before line lines entries orders false false is_t is_o takes order_lines next = next before entries orders takes order_lines

lines_read : (tops : List TopSize) (round : ℕ) (before : RoundJournal) (lines : List Word) (entries : List Choice) (orders : List (List ℕ))
    → AllZip (IsTake tops round) (filter is_take lines) entries → AllZip IsOrder (filter is_order lines) orders
    → lines_onto tops round before lines ≡ Some (longer before entries orders)
lines_read tops round before [] [] [] takes order_lines =
    ap (λ (es : List Choice). let made : RoundJournal = record { entries = es; order = before.order } in Some made) (sym (append-nil before.entries))
    ∙ ap (λ (ns : List ℕ). let made : RoundJournal = record { entries = before.entries ++ []; order = ns } in Some made) (sym (append-nil before.order))
lines_read tops round before [] (choice ∷ entries) orders takes order_lines = absurd takes
lines_read tops round before [] [] (numbers ∷ orders) takes order_lines = absurd order_lines
lines_read tops round before (line ∷ lines) entries orders takes order_lines =
    read_by tops round before line lines entries orders (is_take line) (is_order line) refl refl takes order_lines
    (λ j es os ts ns. lines_read tops round j lines es os ts ns)

-- what is read of a round is what its lines spell
pub round_is : (tops : List TopSize) (round : ℕ) (lines : List Word) (j : RoundJournal) → lines_onto tops round no_lines lines ≡ Some j → IsRoundJournal tops round lines j
round_is tops round lines j is =
    let are = lines_are tops round no_lines lines j is in
    record {
      entries = subst (λ (es : List Choice). AllZip (IsTake tops round) (filter is_take lines) es) (sym are.entries_are) are.takes;
      orders = are.orders;
      order_lines = are.order_lines;
      order_is = are.order_is;
    }

-- what a round's lines spell is read
pub round_read : (tops : List TopSize) (round : ℕ) (lines : List Word) (j : RoundJournal) → IsRoundJournal tops round lines j → lines_onto tops round no_lines lines ≡ Some j
round_read tops round lines j spelled =
    lines_read tops round no_lines lines j.entries spelled.orders spelled.entries spelled.order_lines
    ∙ ap (λ (ns : List ℕ). let made : RoundJournal = record { entries = j.entries; order = ns } in Some made) (sym spelled.order_is)

-- lines that aren't read spell no journal
pub round_is_none : (tops : List TopSize) (round : ℕ) (lines : List Word) → lines_onto tops round no_lines lines ≡ None → (j : RoundJournal) → IsRoundJournal tops round lines j → ⊥
round_is_none tops round lines none j spelled = none_is j (sym none ∙ round_read tops round lines j spelled)

-- ---- rounds

first_onto : (line : Word) (parts : List (List Word)) → first_of (onto_first line parts) ≡ line ∷ first_of parts
first_onto line [] = refl
first_onto line (part ∷ parts) = refl

some_first : (parts : List (List Word)) → 0 < length parts → parts ≡ first_of parts ∷ others_of parts
some_first [] some = absurd (omega arith)
some_first (part ∷ parts) some = refl

parts_there : (text : List ℕ) → parts_by_round text ≡ lines_before text ∷ lines_of_rounds text
parts_there text = some_first (parts_by_round text) (omega (arith, length-slice_split is_round (lines_of text)))

parts_at_head : (rest behind : List ℕ) (line : Word) → lines_of rest ≡ line ∷ lines_of behind → is_round line ≡ true → parts_by_round rest ≡ [] ∷ parts_by_round behind
parts_at_head rest behind line lines is = ap (slice_split is_round) lines ∙ slice_split-cons_yes is_round line (lines_of behind) is

lines_at_other : (rest behind : List ℕ) (line : Word) → lines_of rest ≡ line ∷ lines_of behind → is_round line ≡ false → lines_before rest ≡ line ∷ lines_before behind
lines_at_other rest behind line lines is =
    ap first_of (ap (slice_split is_round) lines ∙ slice_split-cons_no is_round line (lines_of behind) is) ∙ first_onto line (parts_by_round behind)

read_to : (tops : List TopSize) (round : ℕ) (before after : List (List Word)) (text : List ℕ) (j : RoundJournal) → before ≡ parts_by_round text
    → lines_of_rounds text ≡ after → lines_onto tops round no_lines (lines_before text) ≡ Some j → (before ≡ first_of before ∷ after) × IsRoundJournal tops round (first_of before) j
read_to tops round before after text j there left is =
    let parts : before ≡ lines_before text ∷ after = there ∙ parts_there text ∙ ap (λ (ps : List (List Word)). lines_before text ∷ ps) left in
    let first : first_of before ≡ lines_before text = ap first_of parts in (
      parts ∙ ap (λ (ls : List Word). ls ∷ after) (sym first),
      subst (λ (ls : List Word). IsRoundJournal tops round ls j) (sym first) (round_is tops round (lines_before text) j is),
    )

-- the round's lines end at the head of another
pub read_to_head : (tops : List TopSize) (round : ℕ) (before : List (List Word)) (text rest behind : List ℕ) (line : Word) (j : RoundJournal) → before ≡ parts_by_round text
    → lines_onto tops round no_lines (lines_before text) ≡ lines_onto tops round j (lines_before rest) → lines_of_rounds text ≡ lines_of_rounds rest
    → lines_of rest ≡ line ∷ lines_of behind → is_round line ≡ true
    → (before ≡ first_of before ∷ parts_by_round behind) × IsRoundJournal tops round (first_of before) j
read_to_head tops round before text rest behind line j there read left lines is =
    let parts = parts_at_head rest behind line lines is in
    read_to tops round before (parts_by_round behind) text j there (left ∙ ap others_of parts) (read ∙ ap (λ (ps : List (List Word)). lines_onto tops round j (first_of ps)) parts)

-- the round's lines end with the text
pub read_to_end : (tops : List TopSize) (round : ℕ) (before : List (List Word)) (text rest : List ℕ) (j : RoundJournal) → before ≡ parts_by_round text
    → lines_onto tops round no_lines (lines_before text) ≡ lines_onto tops round j (lines_before rest) → lines_of_rounds text ≡ lines_of_rounds rest → rest ≡ []
    → (before ≡ first_of before ∷ []) × IsRoundJournal tops round (first_of before) j
read_to_end tops round before text rest j there read left end =
    read_to tops round before [] text j there (left ∙ ap lines_of_rounds end) (read ∙ ap (λ (t : List ℕ). lines_onto tops round j (lines_before t)) end)

fault_from : (fault : JournalFault) (P Q : Type 0) → (P → Q) → IfFaulty fault P → IfFaulty fault Q
fault_from Faulty P Q turn h = turn h
fault_from Memory P Q turn h = tt

-- a line of the round is at fault
pub read_fault : (tops : List TopSize) (round : ℕ) (before : List (List Word)) (text rest behind : List ℕ) (line : Word) (j : RoundJournal) (fault : JournalFault) → before ≡ parts_by_round text
    → lines_onto tops round no_lines (lines_before text) ≡ lines_onto tops round j (lines_before rest)
    → lines_of rest ≡ line ∷ lines_of behind → is_round line ≡ false → IfFaulty fault (line_onto tops round j line ≡ None)
    → IfFaulty fault ((journal : RoundJournal) → ¬ IsRoundJournal tops round (first_of before) journal)
read_fault tops round before text rest behind line j fault there read lines is h =
    fault_from fault (line_onto tops round j line ≡ None) ((journal : RoundJournal) → ¬ IsRoundJournal tops round (first_of before) journal) (λ none.
    let whole : lines_onto tops round no_lines (lines_before text) ≡ None =
    read ∙ ap (lines_onto tops round j) (lines_at_other rest behind line lines is)
    ∙ ap (λ (o : Option RoundJournal). o >>= λ next. lines_onto tops round next (lines_before behind)) none in
    let first : first_of before ≡ lines_before text = ap first_of there in
    let refused : (journal : RoundJournal) → IsRoundJournal tops round (first_of before) journal → ⊥ =
    λ journal spelled. round_is_none tops round (first_of before) (ap (lines_onto tops round no_lines) first ∙ whole) journal spelled in
    refused) h
