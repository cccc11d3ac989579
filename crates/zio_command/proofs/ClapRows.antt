-- What stands in clap's matches of a command's words.
use Rattle.std.proofs.Common.{◌≡◌, ◌<◌, ◌^◌, ℕ, List, [], ◌∷◌, ◌++◌, Bool, true, false, cond, Option, Some, None, option_map, is_some, unwrap_or, option_and_then, slice_get, ◌||◌, append-nil, append_assoc, refl, sym, ap, ◌∙◌, subst, true≢false}
use Rattle.std.specs.Prelude.{decimal, codes, bytes_eq, find, fold, IfSome}
use Rattle.std.specs.List.{AllByRecursion}
use Rattle.std.proofs.lemmas.Slice.Eq.{bytes_eq-Decides}
use Rattle.clap.specs.Simple.{matches_of}
use Rattle.clap.specs.Walk.{Row, Text, all_of, at_row, first_of, finished, has_row, idle, more_values, one_of, row_text, settled_rows, stronger, walked, Walk, with_values, without}
use Rattle.clap.specs.declared.builder.value_parser.Reading.{Reading}
use Rattle.clap.specs.declared.builder.value_parser.Reading.TheVariants.{AsWritten}
use Rattle.clap.specs.declared.parser.matches.ValueSource.{ValueSource}
use Rattle.clap.specs.declared.parser.matches.ValueSource.TheVariants.{CommandLine, DefaultValue}
use Rattle.zio_command.specs.declared.options.Asked.{Asked}
use Rattle.zio_command.specs.declared.options.Asked.TheVariants.{Journal, Bytes, Picks, Workers}
use Rattle.zio_command.specs.declared.options.Options.{Options}
use Rattle.zio_command.specs.declared.options.TheConstants.{WORKERS_MAX}
use Rattle.zio_command.specs.Parses.{run_app}
use Rattle.zio_command.specs.Words.{AreImages, AreNames, AreNew, IsImageName, IsOptionOf, IsSplit, IsWithin, none_asked, with_options}
use Rattle.zio_command.proofs.ClapWalks.{flagged, imaged, options_met, opted, run_rules, settled_at, stand, valued}

-- ---- the row of an argument

abbrev pub found : Text → List Row → Option Row
found id rows = find (λ (r : Row). bytes_eq r.id id) rows

differ : (id other t : Text) → bytes_eq id other ≡ false → bytes_eq t id ≡ true → bytes_eq t other ≡ false
differ id other t apart same = ap (λ (x : Text). bytes_eq x other) ((bytes_eq-Decides t id).0 same) ∙ apart

module _ (id other : Text) (apart : bytes_eq id other ≡ false) (change : Row → List Row) (missing : List Row)
    (keeps : (r : Row) (rest : List Row) → bytes_eq r.id id ≡ true → found other (change r ++ rest) ≡ found other rest) (no : found other missing ≡ None) where
  other_found : (rows : List Row) → found other (at_row id change missing rows) ≡ found other rows
  other_found [] = no
  other_found (r ∷ rs) = go (bytes_eq r.id id) refl (other_found rs)
    where
      go : (b : Bool) → bytes_eq r.id id ≡ b → found other (at_row id change missing rs) ≡ found other rs
          → found other (cond b (change r ++ rs) (r ∷ at_row id change missing rs)) ≡ cond (bytes_eq r.id other) (Some r) (found other rs)
      go true is more = keeps r rs is ∙ sym (ap (λ (b : Bool). cond b (Some r) (found other rs)) (differ id other r.id apart is))
      go false is more = ap (cond (bytes_eq r.id other) (Some r)) more

others_without : (id other : Text) → bytes_eq id other ≡ false → (rows : List Row) → found other (without id rows) ≡ found other rows
others_without id other apart rows = other_found id other apart (λ (r : Row). []) [] (λ r rest is. refl) refl rows

others_with : (id other : Text) → bytes_eq id other ≡ false → (how : Reading) (s : ValueSource) (values : List Text) (rows : List Row)
    → found other (with_values id how s values rows) ≡ found other rows
others_with id other apart how s values rows =
    let row : Row = record { id = id; values = values; count = None; source = Some s; reading = how } in
    let more : Row → Row = λ r. record r { values = r.values ++ values; source = Some (stronger r.source s) } in
    other_found id other apart (more_values s values) (row ∷ [])
    (λ r rest is. ap (λ (b : Bool). cond b (Some (more r)) (found other rest)) (differ id other r.id apart is))
    (ap (λ (b : Bool). cond b (Some row) None) apart) rows

-- where there is none the new row comes last
module _ (id : Text) (change : Row → List Row) (missing : List Row) where
  none_found : (rows : List Row) → found id rows ≡ None → found id (at_row id change missing rows) ≡ found id missing
  none_found [] none = refl
  none_found (r ∷ rs) none = go (bytes_eq r.id id) refl none (none_found rs)
    where
      go : (b : Bool) → bytes_eq r.id id ≡ b → cond b (Some r) (found id rs) ≡ None → (found id rs ≡ None → found id (at_row id change missing rs) ≡ found id missing)
          → found id (cond b (change r ++ rs) (r ∷ at_row id change missing rs)) ≡ found id missing
      go true is none more = absurd (true≢false (ap is_some none))
      go false is none more = ap (λ (b : Bool). cond b (Some r) (found id (at_row id change missing rs))) is ∙ more none

itself : (id : Text) → bytes_eq id id ≡ true
itself id = (bytes_eq-Decides id id).1 refl

-- the row of what stood on the command line
abbrev pub given_row : Text → List Text → Row
given_row id values = record { id = id; values = values; count = None; source = Some CommandLine; reading = AsWritten }

new_given : (id : Text) (values : List Text) (rows : List Row) → found id rows ≡ None
    → found id (with_values id AsWritten CommandLine values (without id rows)) ≡ Some (given_row id values)
new_given id values rows none =
    none_found id (more_values CommandLine values) (given_row id values ∷ []) (without id rows) (none_found id (λ (r : Row). []) [] rows none) ∙ ap (λ (b : Bool). cond b (Some (given_row id values)) None) (itself id)

pub first_given : (id : Text) (values : List Text) (rows : List Row) → found id rows ≡ None → found id (with_values id AsWritten CommandLine values rows) ≡ Some (given_row id values)
first_given id values rows none = none_found id (more_values CommandLine values) (given_row id values ∷ []) rows none ∙ ap (λ (b : Bool). cond b (Some (given_row id values)) None) (itself id)

-- more values come behind those that stand there
pub more_given : (id : Text) (values more : List Text) (rows : List Row) → found id rows ≡ Some (given_row id values)
    → found id (with_values id AsWritten CommandLine more rows) ≡ Some (given_row id (values ++ more))
more_given id values more [] is = absurd (true≢false (sym (ap is_some is)))
more_given id values more (r ∷ rs) is = go (bytes_eq r.id id) refl is (more_given id values more rs)
  where
    go : (b : Bool) → bytes_eq r.id id ≡ b → cond b (Some r) (found id rs) ≡ Some (given_row id values)
        → (found id rs ≡ Some (given_row id values) → found id (with_values id AsWritten CommandLine more rs) ≡ Some (given_row id (values ++ more)))
        → found id (cond b (more_values CommandLine more r ++ rs) (r ∷ with_values id AsWritten CommandLine more rs)) ≡ Some (given_row id (values ++ more))
    go true same is further =
        let row : r ≡ given_row id values = ap (λ (o : Option Row). unwrap_or o r) is in
        ap (λ (x : Row). found id (more_values CommandLine more x ++ rs)) row ∙ ap (λ (b : Bool). cond b (Some (given_row id (values ++ more))) (found id rs)) (itself id)
    go false same is further = ap (λ (b : Bool). cond b (Some r) (found id (with_values id AsWritten CommandLine more rs))) same ∙ further is

-- ---- what the options leave

pub record IsFound (options : Options) (rows : List Row) : Type 0 where
  pub journal : found (codes "journal") rows ≡ cond options.journal (Some (given_row (codes "journal") (codes "true" ∷ []))) None
  pub bytes : found (codes "data") rows ≡ cond options.bytes (Some (given_row (codes "data") (codes "true" ∷ []))) None
  pub picks : found (codes "picks") rows ≡ option_map (λ n. given_row (codes "picks") (decimal n ∷ [])) options.picks
  pub workers : found (codes "workers") rows ≡ option_map (λ n. given_row (codes "workers") (decimal n ∷ [])) options.workers
  pub images : found (codes "image") rows ≡ None

others_given : (id other : Text) → bytes_eq id other ≡ false → (values : List Text) (rows : List Row)
    → found other (with_values id AsWritten CommandLine values (without id rows)) ≡ found other rows
others_given id other apart values rows = others_with id other apart AsWritten CommandLine values (without id rows) ∙ others_without id other apart rows

not_asked : (b : Bool) (r : Row) → b ≡ false → cond b (Some r) None ≡ None
not_asked b r h = ap (λ (x : Bool). cond x (Some r) None) h

no_value : (o : Option ℕ) (f : ℕ → Row) → is_some o ≡ false → option_map f o ≡ None
no_value None f h = refl
no_value (Some n) f h = absurd (true≢false h)

options_found : (asked : List Asked) (options : Options) (rows : List Row) → AreNew options asked → IsFound options rows → IsFound (with_options options asked) (opted asked rows)
options_found [] options rows new h = h
options_found (Journal ∷ asked) options rows new h =
    options_found asked (record options { journal = true }) (flagged (codes "journal") rows) new.1 (record {
      journal = new_given (codes "journal") (codes "true" ∷ []) rows (h.journal ∙ not_asked options.journal _ new.0);
      bytes = others_given (codes "journal") (codes "data") refl (codes "true" ∷ []) rows ∙ h.bytes;
      picks = others_given (codes "journal") (codes "picks") refl (codes "true" ∷ []) rows ∙ h.picks;
      workers = others_given (codes "journal") (codes "workers") refl (codes "true" ∷ []) rows ∙ h.workers;
      images = others_given (codes "journal") (codes "image") refl (codes "true" ∷ []) rows ∙ h.images;
    })
options_found (Bytes ∷ asked) options rows new h =
    options_found asked (record options { bytes = true }) (flagged (codes "data") rows) new.1 (record {
      journal = others_given (codes "data") (codes "journal") refl (codes "true" ∷ []) rows ∙ h.journal;
      bytes = new_given (codes "data") (codes "true" ∷ []) rows (h.bytes ∙ not_asked options.bytes _ new.0);
      picks = others_given (codes "data") (codes "picks") refl (codes "true" ∷ []) rows ∙ h.picks;
      workers = others_given (codes "data") (codes "workers") refl (codes "true" ∷ []) rows ∙ h.workers;
      images = others_given (codes "data") (codes "image") refl (codes "true" ∷ []) rows ∙ h.images;
    })
options_found (Picks n ∷ asked) options rows new h =
    options_found asked (record options { picks = Some n }) (valued (codes "picks") (decimal n) rows) new.1 (record {
      journal = others_given (codes "picks") (codes "journal") refl (decimal n ∷ []) rows ∙ h.journal;
      bytes = others_given (codes "picks") (codes "data") refl (decimal n ∷ []) rows ∙ h.bytes;
      picks = new_given (codes "picks") (decimal n ∷ []) rows (h.picks ∙ no_value options.picks _ new.0);
      workers = others_given (codes "picks") (codes "workers") refl (decimal n ∷ []) rows ∙ h.workers;
      images = others_given (codes "picks") (codes "image") refl (decimal n ∷ []) rows ∙ h.images;
    })
options_found (Workers n ∷ asked) options rows new h =
    options_found asked (record options { workers = Some n }) (valued (codes "workers") (decimal n) rows) new.1 (record {
      journal = others_given (codes "workers") (codes "journal") refl (decimal n ∷ []) rows ∙ h.journal;
      bytes = others_given (codes "workers") (codes "data") refl (decimal n ∷ []) rows ∙ h.bytes;
      picks = others_given (codes "workers") (codes "picks") refl (decimal n ∷ []) rows ∙ h.picks;
      workers = new_given (codes "workers") (decimal n ∷ []) rows (h.workers ∙ no_value options.workers _ new.0);
      images = others_given (codes "workers") (codes "image") refl (decimal n ∷ []) rows ∙ h.images;
    })

-- ---- what the names leave

pub others_imaged : (other : Text) → bytes_eq (codes "image") other ≡ false → (names : List Text) (rows : List Row) → found other (fold imaged rows names) ≡ found other rows
others_imaged other apart [] rows = refl
others_imaged other apart (name ∷ names) rows =
    others_imaged other apart names (imaged rows name) ∙ others_with (codes "image") other apart AsWritten CommandLine (name ∷ []) rows

pub all_imaged : (names before : List Text) (rows : List Row) → found (codes "image") rows ≡ Some (given_row (codes "image") before)
    → found (codes "image") (fold imaged rows names) ≡ Some (given_row (codes "image") (before ++ names))
all_imaged [] before rows is = is ∙ ap (λ (xs : List Text). Some (given_row (codes "image") xs)) (sym (append-nil before))
all_imaged (name ∷ names) before rows is =
    all_imaged names (before ++ name ∷ []) (imaged rows name) (more_given (codes "image") before (name ∷ []) rows is)
    ∙ ap (λ (xs : List Text). Some (given_row (codes "image") xs)) (append_assoc before (name ∷ []) names)

-- ---- what is read

has_found : (id : Text) (rows : List Row) → has_row id rows ≡ is_some (found id rows)
has_found id [] = refl
has_found id (r ∷ rs) = go (bytes_eq r.id id) (has_found id rs)
  where
    go : (b : Bool) → has_row id rs ≡ is_some (found id rs) → (b || has_row id rs) ≡ is_some (cond b (Some r) (found id rs))
    go true e = refl
    go false e = e

abbrev default_row : Text → Row
default_row id = record { id = id; values = codes "false" ∷ []; count = None; source = Some DefaultValue; reading = AsWritten }

-- a flag that wasn't used has a row that says so
abbrev pub or_default : Text → List Row → List Row
or_default id rows = cond (has_row id rows) rows (with_values id AsWritten DefaultValue (codes "false" ∷ []) rows)

others_default : (id other : Text) → bytes_eq id other ≡ false → (rows : List Row) → found other (or_default id rows) ≡ found other rows
others_default id other apart rows = go (has_row id rows)
  where
    go : (b : Bool) → found other (cond b rows (with_values id AsWritten DefaultValue (codes "false" ∷ []) rows)) ≡ found other rows
    go true = refl
    go false = others_with id other apart AsWritten DefaultValue (codes "false" ∷ []) rows

abbrev pub flag_text : Bool → Text
flag_text asked = cond asked (codes "true") (codes "false")

flag_read : (id : Text) (asked : Bool) (rows : List Row) → found id rows ≡ cond asked (Some (given_row id (codes "true" ∷ []))) None
    → one_of id (or_default id rows) ≡ Some (flag_text asked)
flag_read id true rows is =
    ap (λ (b : Bool). one_of id (cond b rows (with_values id AsWritten DefaultValue (codes "false" ∷ []) rows))) (has_found id rows ∙ ap is_some is)
    ∙ ap (option_and_then row_text) is
flag_read id false rows is =
    ap (λ (b : Bool). one_of id (cond b rows (with_values id AsWritten DefaultValue (codes "false" ∷ []) rows))) (has_found id rows ∙ ap is_some is)
    ∙ ap (option_and_then row_text) (none_found id (more_values DefaultValue (codes "false" ∷ [])) (default_row id ∷ []) rows is ∙ ap (λ (b : Bool). cond b (Some (default_row id)) None) (itself id))

-- What clap's matches say of words that ask for these options and images.
pub record Says (options : Options) (names : List Text) (rows : List Row) : Type 0 where
  pub journal : one_of (codes "journal") rows ≡ Some (flag_text options.journal)
  pub bytes : one_of (codes "data") rows ≡ Some (flag_text options.bytes)
  pub picks : first_of (codes "picks") rows ≡ option_map decimal options.picks
  pub workers : first_of (codes "workers") rows ≡ option_map decimal options.workers
  pub images : all_of (codes "image") rows ≡ Some names

pub same_either : (b : Bool) (rows : List Row) → cond b rows rows ≡ rows
same_either true rows = refl
same_either false rows = refl

finished_run : (serial : Bool) (w : Walk) → finished (run_rules serial) w.held ≡ or_default (codes "data") (or_default (codes "journal") (settled_at (run_rules serial) w))
finished_run true w = same_either _ _ ∙ same_either _ _
finished_run false w = same_either _ _ ∙ same_either _ _

first_numeral : (id : Text) (o : Option ℕ) (rows : List Row) → found id rows ≡ option_map (λ n. given_row id (decimal n ∷ [])) o
    → first_of id rows ≡ option_map decimal o
first_numeral id None rows is = ap (option_and_then (λ (r : Row). slice_get r.values 0)) is
first_numeral id (Some n) rows is = ap (option_and_then (λ (r : Row). slice_get r.values 0)) is

pub names_plain : (words : List Text) → AreNames words → AllByRecursion IsImageName words
names_plain [] h = tt
names_plain (word ∷ words) h = (h.0, names_plain words h.2)

found_all : (options : Options) (name : Text) (names : List Text) (rows : List Row) → IsFound options rows
    → Says options (name ∷ names) (or_default (codes "data") (or_default (codes "journal") (fold imaged rows (name ∷ names))))
found_all options name names rows h =
    let all = fold imaged rows (name ∷ names) in
    let flags = or_default (codes "journal") all in
    record {
      journal = ap (option_and_then row_text) (others_default (codes "data") (codes "journal") refl flags)
          ∙ flag_read (codes "journal") options.journal all (others_imaged (codes "journal") refl (name ∷ names) rows ∙ h.journal);
      bytes = flag_read (codes "data") options.bytes flags (others_default (codes "journal") (codes "data") refl all ∙ others_imaged (codes "data") refl (name ∷ names) rows ∙ h.bytes);
      picks = first_numeral (codes "picks") options.picks (or_default (codes "data") flags) (others_default (codes "data") (codes "picks") refl flags ∙ others_default (codes "journal") (codes "picks") refl all
          ∙ others_imaged (codes "picks") refl (name ∷ names) rows ∙ h.picks);
      workers = first_numeral (codes "workers") options.workers (or_default (codes "data") flags) (others_default (codes "data") (codes "workers") refl flags ∙ others_default (codes "journal") (codes "workers") refl all
          ∙ others_imaged (codes "workers") refl (name ∷ names) rows ∙ h.workers);
      images = ap (option_map (λ (r : Row). r.values)) (others_default (codes "data") (codes "image") refl flags ∙ others_default (codes "journal") (codes "image") refl all
          ∙ all_imaged names (name ∷ []) (imaged rows name) (first_given (codes "image") (name ∷ []) rows h.images));
    }

nothing_found : IsFound none_asked []
nothing_found = record { journal = refl; bytes = refl; picks = refl; workers = refl; images = refl }

abbrev matched : Bool → List Text → List Row
matched serial words = finished (run_rules serial) (fold (walked (run_rules serial) []) (stand [] None idle 1) words).held

matched_is : (serial : Bool) (words : List Text) → matches_of (run_app serial) words ≡ matched serial words
matched_is true words = refl
matched_is false words = refl

settled_none : (serial : Bool) → settled_rows (run_rules serial) None [] ≡ []
settled_none serial = refl

-- the words of `run` are read as they were split
pub run_said : (serial : Bool) (words : List Text) (options : Options) (names : List Text) → IsSplit serial words options names → AreImages names
    → Says options names (matches_of (run_app serial) words)
run_said serial words options [] split images = absurd (images.some refl)
run_said serial words options (name ∷ names) split images =
    let is : matches_of (run_app serial) words ≡ or_default (codes "data") (or_default (codes "journal") (fold imaged (opted split.asked []) (name ∷ names))) =
    matched_is serial words
    ∙ finished_run serial (fold (walked (run_rules serial) []) (stand [] None idle 1) words)
    ∙ ap (λ (rows : List Row). or_default (codes "data") (or_default (codes "journal") rows))
    (ap (λ (ws : List Text). settled_at (run_rules serial) (fold (walked (run_rules serial) []) (stand [] None idle 1) ws)) split.words_are
    ∙ options_met serial split.asked (name ∷ names) [] None split.known (names_plain (name ∷ names) images.names)) in
    subst (Says options (name ∷ names)) (sym is)
    (found_all options name names (opted split.asked [])
    (subst (λ (o : Options). IsFound o (opted split.asked [])) (sym split.options_are) (options_found split.asked none_asked [] split.once nothing_found)))

-- the number of workers is within its bounds
pub workers_within : (serial : Bool) (asked : List Asked) (options : Options) → AllByRecursion (IsOptionOf serial) asked → IfSome options.workers (IsWithin 1 WORKERS_MAX)
    → IfSome (with_options options asked).workers (IsWithin 1 WORKERS_MAX)
workers_within serial [] options known within = within
workers_within serial (Journal ∷ asked) options known within = workers_within serial asked (record options { journal = true }) known.1 within
workers_within serial (Bytes ∷ asked) options known within = workers_within serial asked (record options { bytes = true }) known.1 within
workers_within serial (Picks seed ∷ asked) options known within = workers_within serial asked (record options { picks = Some seed }) known.1 within
workers_within serial (Workers n ∷ asked) options known within = workers_within serial asked (record options { workers = Some n }) known.1 known.0.1

-- and the seed of the picks
pub picks_within : (serial : Bool) (asked : List Asked) (options : Options) → AllByRecursion (IsOptionOf serial) asked → IfSome options.picks (λ n. n < 2 ^ 64)
    → IfSome (with_options options asked).picks (λ n. n < 2 ^ 64)
picks_within serial [] options known within = within
picks_within serial (Journal ∷ asked) options known within = picks_within serial asked (record options { journal = true }) known.1 within
picks_within serial (Bytes ∷ asked) options known within = picks_within serial asked (record options { bytes = true }) known.1 within
picks_within serial (Picks seed ∷ asked) options known within = picks_within serial asked (record options { picks = Some seed }) known.1 known.0.1
picks_within serial (Workers n ∷ asked) options known within = picks_within serial asked (record options { workers = Some n }) known.1 within
