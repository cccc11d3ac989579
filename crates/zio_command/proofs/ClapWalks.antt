-- What clap makes of the words of a command, one after another.
use Rattle.std.proofs.Common.{◌≡◌, ◌≢◌, ◌<◌, ◌^◌, ℕ, List, [], ◌∷◌, ◌++◌, length, Bool, true, false, cond, ◌&&◌, ◌==◌, ◌+◌, min, Option, Some, None, refl, sym, ap, ◌∙◌, arith, inl, inr, ◌≤◌, true≢false}
use Rattle.std.specs.Prelude.{decimal, codes, bytes_eq, fold, option_and_then}
use Rattle.std.specs.List.{AllByRecursion, flat_map}
use Rattle.std.specs.Str.Parse.{AllDigits}
use Rattle.std.proofs.lemmas.Bool.Decides.{eqb_tells}
use Rattle.std.proofs.lemmas.Fmt.{decimal_is_IsNumeral}
use Rattle.std.proofs.lemmas.Str.Parse.{digit_from_value}
use Rattle.clap.specs.Lexer.{usize_max, long_of, long_of_rest, short_of_rest, strip_byte}
use Rattle.clap.specs.Simple.{built, filled, with_index}
use Rattle.clap.specs.Walk.{Held, Row, Rule, Text, Waiting, Walk, Step, idle, option, positional, value, after_step, arg_by_index, is_multiple, is_pending, long_or_other, next_position, plain_word, positional_held, pushed, settled, settled_rows, short_or_plain, subcommand_or_other, takes_several, to_positional, walked, with_values, without}
use Rattle.clap.specs.declared.builder.value_parser.Reading.TheVariants.{AsWritten}
use Rattle.clap.specs.declared.parser.matches.ValueSource.TheVariants.{CommandLine}
use Rattle.clap.proofs.OnLiterals.{clap_on_literals}
use Rattle.zio_command.specs.declared.options.Asked.{Asked}
use Rattle.zio_command.specs.declared.options.Asked.TheVariants.{Journal, Bytes, Picks, Workers}
use Rattle.zio_command.specs.Parses.{image_rule, run_app}
use Rattle.zio_command.specs.Words.{IsImageName, IsOptionOf, option_words}

-- ---- a word that begins with no hyphen

no_hyphen : (x : ℕ) (xs : Text) → (x == 45) ≡ false → strip_byte 45 (x ∷ xs) ≡ None
no_hyphen x xs h = ap (λ (b : Bool). cond b (Some xs) None) h

module _ (c : List Rule) (x : ℕ) (xs : Text) (h : Held) (plain : (x == 45) ≡ false) where
  other_word : (waiting : Waiting) (position : ℕ) → subcommand_or_other c None waiting position (x ∷ xs) h ≡ plain_word c waiting (x ∷ xs) h
  other_word waiting position =
      ap (λ (b : Bool). cond (b && bytes_eq xs (45 ∷ [])) (h, Step.trailing position) (long_or_other c waiting (x ∷ xs) (long_of (x ∷ xs)) h)) plain
      ∙ ap (λ (o : Option Text). long_or_other c waiting (x ∷ xs) (option_and_then long_of_rest (option_and_then (strip_byte 45) o)) h) (no_hyphen x xs plain)
      ∙ ap (λ (o : Option Text). short_or_plain c waiting (x ∷ xs) (option_and_then short_of_rest o) h) (no_hyphen x xs plain)

-- ---- between two words

abbrev pub stand : List Row → Option (Text × List Text) → Waiting → ℕ → Walk
stand rows pending waiting position = record {
  held = record { rows = rows; pending = pending; skip = 0 };
  waiting = waiting;
  position = position;
  is_trailing = false;
  stopped = None;
}

-- the rows once what is pending is settled
abbrev pub settled_at : List Rule → Walk → List Row
settled_at c w = settled_rows c w.held.pending w.held.rows

-- a name is read next as the first one, or as a further one
abbrev pub TakesNames : Waiting → Type 0
TakesNames idle = Unit {0}
TakesNames (option id) = ⊥
TakesNames positional = Unit {0}

-- the argument takes each word behind some others
pub record TakesRest (c : List Rule) (a : Rule) (position : ℕ) : Type 0 where
  pub at : arg_by_index c position ≡ Some a
  pub one : takes_several a ≡ false
  pub more : is_multiple a ≡ true
  pub var : a.trailing_var_arg ≡ false

and_false : (b : Bool) → (b && false) ≡ false
and_false true = refl
and_false false = refl

module _ (c : List Rule) (a : Rule) (position : ℕ) (rest : TakesRest c a position) where
  name_held : (rows : List Row) (p : Option (Text × List Text)) (word : Text)
      → positional_held c a word (record { rows = rows; pending = p; skip = 0 }) ≡ record { rows = settled_rows c p rows; pending = Some (a.id, word ∷ []); skip = 0 }
  name_held rows p word =
      let h : Held = record { rows = rows; pending = p; skip = 0 } in
      ap (λ (b : Bool). pushed a.id word (cond (is_pending a p && b) h (settled c h))) rest.one
      ∙ ap (λ (b : Bool). pushed a.id word (cond b h (settled c h))) (and_false (is_pending a p))

  name_goes : (rows : List Row) (p : Option (Text × List Text)) (waiting : Waiting) (word : Text)
      → after_step c word (stand rows p waiting position) (record { rows = rows; pending = p; skip = 0 }) value
      ≡ stand (settled_rows c p rows) (Some (a.id, word ∷ [])) positional position
  name_goes rows p waiting word =
      let h : Held = record { rows = rows; pending = p; skip = 0 } in
      let w = stand rows p waiting position in
      ap (λ (o : Option Rule). to_positional c o word w h) rest.at
      ∙ ap (λ (k : Held). record { held = k; waiting = cond (is_multiple a) positional idle; position = next_position a position; is_trailing = a.trailing_var_arg; stopped = None }) (name_held rows p word)
      ∙ ap (λ (b : Bool). record { held = record { rows = settled_rows c p rows; pending = Some (a.id, word ∷ []); skip = 0 }; waiting = cond b positional idle; position = cond b position (min (position + 1) usize_max); is_trailing = a.trailing_var_arg; stopped = None }) rest.more
      ∙ ap (λ (b : Bool). record { held = record { rows = settled_rows c p rows; pending = Some (a.id, word ∷ []); skip = 0 }; waiting = positional; position = position; is_trailing = b; stopped = None }) rest.var

  name_met : (rows : List Row) (p : Option (Text × List Text)) (waiting : Waiting) (x : ℕ) (xs : Text) → TakesNames waiting → (x == 45) ≡ false
      → walked c [] (stand rows p waiting position) (x ∷ xs) ≡ stand (settled_rows c p rows) (Some (a.id, (x ∷ xs) ∷ [])) positional position
  unfolding walked
  name_met rows p idle x xs takes plain =
      let h : Held = record { rows = rows; pending = p; skip = 0 } in
      ap (λ (m : Held × Step). after_step c (x ∷ xs) (stand rows p idle position) m.0 m.1) (other_word c x xs h plain idle position) ∙ name_goes rows p idle (x ∷ xs)
  name_met rows p (option id) x xs takes plain = absurd takes
  name_met rows p positional x xs takes plain =
      let h : Held = record { rows = rows; pending = p; skip = 0 } in
      ap (λ (m : Held × Step). after_step c (x ∷ xs) (stand rows p positional position) m.0 m.1) (other_word c x xs h plain positional position) ∙ name_goes rows p positional (x ∷ xs)

-- the argument takes one word, and the next is another's
pub record TakesOne (c : List Rule) (a : Rule) (position : ℕ) : Type 0 where
  pub at : arg_by_index c position ≡ Some a
  pub one : takes_several a ≡ false
  pub single : is_multiple a ≡ false
  pub var : a.trailing_var_arg ≡ false

module _ (c : List Rule) (a : Rule) (position : ℕ) (takes : TakesOne c a position) (next : min (position + 1) usize_max ≡ position + 1) where
  pub one_met : (rows : List Row) (p : Option (Text × List Text)) (x : ℕ) (xs : Text) → (x == 45) ≡ false
      → walked c [] (stand rows p idle position) (x ∷ xs) ≡ stand (settled_rows c p rows) (Some (a.id, (x ∷ xs) ∷ [])) idle (position + 1)
  unfolding walked
  one_met rows p x xs plain =
      let h : Held = record { rows = rows; pending = p; skip = 0 } in
      let w = stand rows p idle position in
      let after : Held = record { rows = settled_rows c p rows; pending = Some (a.id, (x ∷ xs) ∷ []); skip = 0 } in
      let held : positional_held c a (x ∷ xs) h ≡ after =
      ap (λ (b : Bool). pushed a.id (x ∷ xs) (cond (is_pending a p && b) h (settled c h))) takes.one
      ∙ ap (λ (b : Bool). pushed a.id (x ∷ xs) (cond b h (settled c h))) (and_false (is_pending a p)) in
      ap (λ (m : Held × Step). after_step c (x ∷ xs) w m.0 m.1) (other_word c x xs h plain idle position)
      ∙ ap (λ (o : Option Rule). to_positional c o (x ∷ xs) w h) takes.at
      ∙ ap (λ (k : Held). record { held = k; waiting = cond (is_multiple a) positional idle; position = next_position a position; is_trailing = a.trailing_var_arg; stopped = None }) held
      ∙ ap (λ (b : Bool). record { held = after; waiting = cond b positional idle; position = cond b position (min (position + 1) usize_max); is_trailing = a.trailing_var_arg; stopped = None }) takes.single
      ∙ ap (λ (b : Bool). record { held = after; waiting = idle; position = min (position + 1) usize_max; is_trailing = b; stopped = None }) takes.var
      ∙ ap (λ (n : ℕ). stand (settled_rows c p rows) (Some (a.id, (x ∷ xs) ∷ [])) idle n) next

-- ---- names behind other words

abbrev pub AllPlain : List Text → Type 0
AllPlain words = AllByRecursion IsImageName words

pub hyphen_not : (x : ℕ) → x ≢ 45 → (x == 45) ≡ false
hyphen_not x h = elim (eqb_tells x 45) [
  | inl p ↦ absurd (h p.1)
  | inr p ↦ p.0
]

module _ (c : List Rule) (a : Rule) (position : ℕ) (rest : TakesRest c a position) where
  -- one more name
  abbrev pub named : List Row → Text → List Row
  named rows word = settled_rows c (Some (a.id, word ∷ [])) rows

  pub names_met : (words : List Text) (rows : List Row) (p : Option (Text × List Text)) (waiting : Waiting) → TakesNames waiting → AllPlain words
      → settled_at c (fold (walked c []) (stand rows p waiting position) words) ≡ fold named (settled_rows c p rows) words
  names_met [] rows p waiting takes plain = refl
  names_met ([] ∷ words) rows p waiting takes plain = absurd plain.0
  names_met ((x ∷ xs) ∷ words) rows p waiting takes plain =
      ap (λ (w : Walk). settled_at c (fold (walked c []) w words)) (name_met c a position rest rows p waiting x xs takes (hyphen_not x plain.0))
      ∙ names_met words (settled_rows c p rows) (Some (a.id, (x ∷ xs) ∷ [])) positional tt plain.1

-- ---- the options of `run`

abbrev pub run_rules : Bool → List Rule
run_rules serial = (built (run_app serial)).top.rules

-- the flag was used
abbrev pub flagged : Text → List Row → List Row
flagged id rows = with_values id AsWritten CommandLine (codes "true" ∷ []) (without id rows)

-- the option with a value was given with this one
abbrev pub valued : Text → Text → List Row → List Row
valued id word rows = with_values id AsWritten CommandLine (word ∷ []) (without id rows)

abbrev pub opted : List Asked → List Row → List Row
opted [] rows = rows
opted (Journal ∷ asked) rows = opted asked (flagged (codes "journal") rows)
opted (Bytes ∷ asked) rows = opted asked (flagged (codes "data") rows)
opted (Picks seed ∷ asked) rows = opted asked (valued (codes "picks") (decimal seed) rows)
opted (Workers n ∷ asked) rows = opted asked (valued (codes "workers") (decimal n) rows)

-- the option with a value that each program has
abbrev valued_name : Bool → Text
valued_name true = codes "picks"
valued_name false = codes "workers"

abbrev valued_word : Bool → Text
valued_word true = codes "--picks"
valued_word false = codes "--workers"

journal_met : (serial : Bool) (rows : List Row) (p : Option (Text × List Text))
    → walked (run_rules serial) [] (stand rows p idle 1) (codes "--journal") ≡ stand (flagged (codes "journal") (settled_rows (run_rules serial) p rows)) None idle 1
unfolding clap_on_literals
journal_met true rows p = refl
journal_met false rows p = refl

data_met : (serial : Bool) (rows : List Row) (p : Option (Text × List Text))
    → walked (run_rules serial) [] (stand rows p idle 1) (codes "--data") ≡ stand (flagged (codes "data") (settled_rows (run_rules serial) p rows)) None idle 1
unfolding clap_on_literals
data_met true rows p = refl
data_met false rows p = refl

option_met : (serial : Bool) (rows : List Row) (p : Option (Text × List Text))
    → walked (run_rules serial) [] (stand rows p idle 1) (valued_word serial)
    ≡ stand (settled_rows (run_rules serial) p rows) (Some (valued_name serial, [])) (option (valued_name serial)) 1
unfolding clap_on_literals
option_met true rows p = refl
option_met false rows p = refl

value_met : (serial : Bool) (rows : List Row) (x : ℕ) (xs : Text) → (x == 45) ≡ false
    → walked (run_rules serial) [] (stand rows (Some (valued_name serial, [])) (option (valued_name serial)) 1) (x ∷ xs)
    ≡ stand rows (Some (valued_name serial, (x ∷ xs) ∷ [])) idle 1
unfolding walked
value_met true rows x xs plain =
    let h : Held = record { rows = rows; pending = Some (codes "picks", []); skip = 0 } in
    ap (λ (m : Held × Step). after_step (run_rules true) (x ∷ xs) (stand rows (Some (codes "picks", [])) (option (codes "picks")) 1) m.0 m.1)
    (other_word (run_rules true) x xs h plain (option (codes "picks")) 1)
value_met false rows x xs plain =
    let h : Held = record { rows = rows; pending = Some (codes "workers", []); skip = 0 } in
    ap (λ (m : Held × Step). after_step (run_rules false) (x ∷ xs) (stand rows (Some (codes "workers", [])) (option (codes "workers")) 1) m.0 m.1)
    (other_word (run_rules false) x xs h plain (option (codes "workers")) 1)

takes_images : (serial : Bool) → TakesRest (run_rules serial) (with_index 1 (filled image_rule)) 1
takes_images true = record { at = refl; one = refl; more = refl; var = refl }
takes_images false = record { at = refl; one = refl; more = refl; var = refl }

-- one more image was named
abbrev pub imaged : List Row → Text → List Row
imaged rows word = with_values (codes "image") AsWritten CommandLine (word ∷ []) rows

-- a numeral is a word without a hyphen
pub numeral_word : (n : ℕ) → n < 2 ^ 64 → IsImageName (decimal n)
numeral_word n fits = first (decimal n) (decimal_is_IsNumeral n fits).0
  where
    first : (ds : List ℕ) → (0 < length ds) × AllDigits 10 ds → IsImageName ds
    first [] h = absurd (omega arith)
    first (d ∷ ds) h = let range = digit_from_value d h.1.0 in omega arith

number_met : (serial : Bool) (rows : List Row) (p : Option (Text × List Text)) (n : ℕ) → n < 2 ^ 64
    → walked (run_rules serial) [] (walked (run_rules serial) [] (stand rows p idle 1) (valued_word serial)) (decimal n)
    ≡ stand (settled_rows (run_rules serial) p rows) (Some (valued_name serial, decimal n ∷ [])) idle 1
number_met serial rows p n fits = ap (λ (w : Walk). walked (run_rules serial) [] w (decimal n)) (option_met serial rows p) ∙ go (decimal n) (numeral_word n fits)
  where
    go : (word : Text) → IsImageName word
        → walked (run_rules serial) [] (stand (settled_rows (run_rules serial) p rows) (Some (valued_name serial, [])) (option (valued_name serial)) 1) word
        ≡ stand (settled_rows (run_rules serial) p rows) (Some (valued_name serial, word ∷ [])) idle 1
    go [] name = absurd name
    go (x ∷ xs) name = value_met serial (settled_rows (run_rules serial) p rows) x xs (hyphen_not x name)

pub options_met : (serial : Bool) (asked : List Asked) (names : List Text) (rows : List Row) (p : Option (Text × List Text)) → AllByRecursion (IsOptionOf serial) asked → AllPlain names
    → settled_at (run_rules serial) (fold (walked (run_rules serial) []) (stand rows p idle 1) (flat_map option_words asked ++ names))
    ≡ fold imaged (opted asked (settled_rows (run_rules serial) p rows)) names
options_met true [] names rows p known plain = names_met (run_rules true) (with_index 1 (filled image_rule)) 1 (takes_images true) names rows p idle tt plain
options_met false [] names rows p known plain = names_met (run_rules false) (with_index 1 (filled image_rule)) 1 (takes_images false) names rows p idle tt plain
options_met serial (Journal ∷ asked) names rows p known plain =
    let c = run_rules serial in
    ap (λ (w : Walk). settled_at c (fold (walked c []) w (flat_map option_words asked ++ names))) (journal_met serial rows p)
    ∙ options_met serial asked names (flagged (codes "journal") (settled_rows c p rows)) None known.1 plain
options_met serial (Bytes ∷ asked) names rows p known plain =
    let c = run_rules serial in
    ap (λ (w : Walk). settled_at c (fold (walked c []) w (flat_map option_words asked ++ names))) (data_met serial rows p)
    ∙ options_met serial asked names (flagged (codes "data") (settled_rows c p rows)) None known.1 plain
options_met true (Picks seed ∷ asked) names rows p known plain =
    let c = run_rules true in
    ap (λ (w : Walk). settled_at c (fold (walked c []) w (flat_map option_words asked ++ names))) (number_met true rows p seed known.0.1)
    ∙ options_met true asked names (settled_rows c p rows) (Some (codes "picks", decimal seed ∷ [])) known.1 plain
options_met false (Picks seed ∷ asked) names rows p known plain = absurd (true≢false (sym known.0.0))
options_met true (Workers n ∷ asked) names rows p known plain = absurd (true≢false known.0.0)
options_met false (Workers n ∷ asked) names rows p known plain =
    let c = run_rules false in
    let low : n ≤ 16 = known.0.1.high in
    ap (λ (w : Walk). settled_at c (fold (walked c []) w (flat_map option_words asked ++ names))) (number_met false rows p n (omega arith))
    ∙ options_met false asked names (settled_rows c p rows) (Some (codes "workers", decimal n ∷ [])) known.1 plain
