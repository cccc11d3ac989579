-- An entry's line is read exactly where it is the text of an entry.
use Rattle.std.proofs.Common.{◌≡◌, ◌<◌, ◌≤◌, ◌+◌, ◌^◌, ◌++◌, ℕ, List, [], ◌∷◌, length, refl, sym, ap, subst, ◌∙◌, Bool, true, false, Option, Some, None, arith, ltb-true, append_assoc}
use Rattle.std.specs.Prelude.{MatchOption, cond, codes, decimal, map, nat_lt}
use Rattle.std.specs.Bool.{then_some}
use Rattle.std.specs.List.{AllByRecursion, flat_map}
use Rattle.std.proofs.lemmas.Bool.{lt-ltb}
use Rattle.std.proofs.lemmas.List.{append-nil, length_push}
use Rattle.std.proofs.lemmas.Slice.Eq.{bytes_eq-Decides}
use Rattle.zio_types.specs.declared.journal.Key.{Key}
use Rattle.zio_types.specs.declared.journal.Role.{Role}
use Rattle.zio_types.specs.declared.journal.Role.TheVariants.{Body, Head}
use Rattle.zio_types.specs.declared.place.Place.{Place}
use Rattle.zio_types.specs.declared.place.TopSize.{TopSize}
use Rattle.zio_types.specs.Choices.{Choice}
use Rattle.zio_script.specs.Lines.{◌>>=◌}
use Rattle.zio_script.specs.Words.{Word, is_empty, is_word}
use Rattle.zio_report.specs.Lines.{joined_steps, path_text, place_text, role_text, when}
use Rattle.zio_spelled.specs.Spelled.{ChoiceFits, IsTake, IsTakeShape, PlaceFits, completed, parts_of, sized_place, take_text}
use Rattle.zio_spelled.specs.Reading.{Read, bare, behind, key_read, next_read, number_in, path_in, place_in, places_onto, role_in, take_in, take_read, with_place}
use Rattle.zio_spelled.proofs.PartLemmas.{Dark, Free, dark_append, dark_from, free_all, free_append, free_joined, free_of_dark, joined, same_parts, split_joined}
use Rattle.zio_spelled.proofs.NumberLemmas.{IsOther, dark_decimal, decimal_of_number, number_of_decimal, other_word}
use Rattle.zio_spelled.proofs.WordLemmas.{bind_some, cond_some, cons_same, next_is, no_more, none_is, path_is, path_read, place_is, place_read, place_word, role_is, role_read, some_is, then_some_is}

-- ---- the words behind the first

-- the word that marks an entry as refused
abbrev pub mark_words : Bool → List Word
mark_words true = codes "refused" ∷ []
mark_words false = []

-- all words of an entry's line behind the first
abbrev pub take_words : Bool → Choice → List Word
take_words marked c =
    decimal c.asked.key.request ∷ decimal c.asked.key.attempt ∷ path_text c.asked.key.path ∷ role_text c.asked.key.role
    ∷ decimal c.asked.size ∷ decimal c.asked.copies ∷ (map place_word c.places ++ mark_words marked)

places_joined : (places : List Place) (marked : Bool) → flat_map place_text places ++ when marked (codes " refused") ≡ joined 32 (map place_word places ++ mark_words marked)
places_joined [] true = refl
places_joined [] false = refl
places_joined (p ∷ places) marked =
    append_assoc (place_text p) (flat_map place_text places) (when marked (codes " refused"))
    ∙ ap (λ (rest : List ℕ). place_text p ++ rest) (places_joined places marked)

regroup : (t n a p r s c f w : List ℕ) → (((((((t ++ n) ++ (32 ∷ a)) ++ (32 ∷ p)) ++ (32 ∷ r)) ++ (32 ∷ s)) ++ (32 ∷ c)) ++ f) ++ w
    ≡ t ++ (n ++ (32 ∷ (a ++ (32 ∷ (p ++ (32 ∷ (r ++ (32 ∷ (s ++ (32 ∷ (c ++ (f ++ w))))))))))))
regroup t n a p r s c f w =
    let k6 = (((((t ++ n) ++ (32 ∷ a)) ++ (32 ∷ p)) ++ (32 ∷ r)) ++ (32 ∷ s)) ++ (32 ∷ c) in
    let k5 = ((((t ++ n) ++ (32 ∷ a)) ++ (32 ∷ p)) ++ (32 ∷ r)) ++ (32 ∷ s) in
    let k4 = (((t ++ n) ++ (32 ∷ a)) ++ (32 ∷ p)) ++ (32 ∷ r) in
    let k3 = ((t ++ n) ++ (32 ∷ a)) ++ (32 ∷ p) in
    let k2 = (t ++ n) ++ (32 ∷ a) in
    append_assoc k6 f w
    ∙ append_assoc k5 (32 ∷ c) (f ++ w)
    ∙ append_assoc k4 (32 ∷ s) ((32 ∷ c) ++ (f ++ w))
    ∙ append_assoc k3 (32 ∷ r) ((32 ∷ s) ++ ((32 ∷ c) ++ (f ++ w)))
    ∙ append_assoc k2 (32 ∷ p) ((32 ∷ r) ++ ((32 ∷ s) ++ ((32 ∷ c) ++ (f ++ w))))
    ∙ append_assoc (t ++ n) (32 ∷ a) ((32 ∷ p) ++ ((32 ∷ r) ++ ((32 ∷ s) ++ ((32 ∷ c) ++ (f ++ w)))))
    ∙ append_assoc t n ((32 ∷ a) ++ ((32 ∷ p) ++ ((32 ∷ r) ++ ((32 ∷ s) ++ ((32 ∷ c) ++ (f ++ w))))))

take_joined : (marked : Bool) (c : Choice) → take_text marked c ≡ codes "take" ++ joined 32 (take_words marked c)
take_joined marked c =
    let n = decimal c.asked.key.request in
    let a = decimal c.asked.key.attempt in
    let p = path_text c.asked.key.path in
    let r = role_text c.asked.key.role in
    let s = decimal c.asked.size in
    let k = decimal c.asked.copies in
    regroup (codes "take ") n a p r s k (flat_map place_text c.places) (when marked (codes " refused"))
    ∙ ap (λ (rest : List ℕ). codes "take " ++ (n ++ 32 ∷ (a ++ 32 ∷ (p ++ 32 ∷ (r ++ 32 ∷ (s ++ 32 ∷ (k ++ rest))))))) (places_joined c.places marked)

-- ---- no blank and no newline stands in a word

dark_steps : (step : ℕ) (steps : List ℕ) → AllByRecursion (λ s. s < 2 ^ 8) (step ∷ steps) → Dark (joined_steps (step ∷ steps))
dark_steps step [] fits =
    let below : step < 2 ^ 8 = fits.0 in
    dark_decimal step (omega arith)
dark_steps step (next ∷ steps) fits =
    let below : step < 2 ^ 8 = fits.0 in
    dark_append (decimal step ++ codes ".") (joined_steps (next ∷ steps))
    (dark_append (decimal step) (codes ".") (dark_decimal step (omega arith)) (dark_from (codes ".") refl)) (dark_steps next steps fits.1)

dark_path : (path : List ℕ) → AllByRecursion (λ s. s < 2 ^ 8) path → Dark (path_text path)
dark_path [] fits = dark_from (codes "-") refl
dark_path (step ∷ steps) fits = dark_steps step steps fits

dark_role : (role : Role) → Dark (role_text role)
dark_role Body = dark_from (codes "body") refl
dark_role Head = dark_from (codes "head") refl

dark_place : (p : Place) → PlaceFits p → Dark (place_word p)
dark_place p fits =
    let low : p.top < 2 ^ 32 = fits.top in
    dark_append (decimal p.top ++ codes ":") (decimal p.sector)
    (dark_append (decimal p.top) (codes ":") (dark_decimal p.top (omega arith)) (dark_from (codes ":") refl)) (dark_decimal p.sector fits.sector)

dark_places : (places : List Place) (marked : Bool) → AllByRecursion PlaceFits places → AllByRecursion Dark (map place_word places ++ mark_words marked)
dark_places [] true fits = (dark_from (codes "refused") refl, tt)
dark_places [] false fits = tt
dark_places (p ∷ places) marked fits = (dark_place p fits.0, dark_places places marked fits.1)

dark_words : (marked : Bool) (c : Choice) → ChoiceFits c → AllByRecursion Dark (take_words marked c)
dark_words marked c fits =
    let request : c.asked.key.request < 2 ^ 32 = fits.request in
    let attempt : c.asked.key.attempt < 2 ^ 32 = fits.attempt in
    let size : c.asked.size < 2 ^ 32 = fits.size in
    let copies : c.asked.copies < 2 ^ 32 = fits.copies in (
      dark_decimal c.asked.key.request (omega arith),
      (
        dark_decimal c.asked.key.attempt (omega arith),
        (
          dark_path c.asked.key.path fits.steps,
          (
            dark_role c.asked.key.role,
            (
              dark_decimal c.asked.size (omega arith),
              (
                dark_decimal c.asked.copies (omega arith),
                dark_places c.places marked fits.places,
              ),
            ),
          ),
        ),
      ),
    )

-- a newline doesn't occur in an entry's line
pub take_one_line : (marked : Bool) (c : Choice) → ChoiceFits c → Free 10 (take_text marked c)
take_one_line marked c fits =
    subst (λ (line : List ℕ). Free 10 line) (sym (take_joined marked c))
    (free_append 10 (codes "take") (joined 32 (take_words marked c)) (free_of_dark 10 (omega arith) (codes "take") (dark_from (codes "take") refl)) (free_joined (take_words marked c) (dark_words marked c fits)))

-- the parts of an entry's line
pub take_parts : (marked : Bool) (c : Choice) → ChoiceFits c → parts_of (take_text marked c) ≡ codes "take" ∷ take_words marked c
take_parts marked c fits =
    ap parts_of (take_joined marked c)
    ∙ split_joined 32 (codes "take") (take_words marked c) (free_of_dark 32 (omega arith) (codes "take") (dark_from (codes "take") refl)) (free_all 32 (omega arith) (take_words marked c) (dark_words marked c fits))

-- ---- places

abbrev pub with_places : Choice → List Place → Choice
with_places c places = record c { places = c.places ++ places }

-- the places of these words were put behind the entry's own
pub record ArePlaces (tops : List TopSize) (c : Choice) (words : List Word) (d : Choice) : Type 0 where
  pub marked : Bool
  pub places : List Place
  pub words_are : words ≡ map place_word places ++ mark_words marked
  pub whole : d ≡ with_places c places
  pub fits : AllByRecursion PlaceFits places
  pub sized : places ≡ map (sized_place tops c.asked.size) places
  pub found : length c.places + length places ≤ 3

no_places : (c d : Choice) → c ≡ d → d ≡ with_places c []
no_places c d same = sym same ∙ ap (λ (places : List Place). let made : Choice = record c { places = places } in made) (sym (append-nil c.places))

places_same : (p q : Place) (ps qs : List Place) → p ≡ q → ps ≡ qs → p ∷ ps ≡ q ∷ qs
places_same p q ps qs first others = cc

places_by : (tops : List TopSize) (c : Choice) (word : Word) (words : List Word) (d : Choice) (mark : Bool) → length c.places ≤ 3
    → is_word (codes "refused") word ≡ mark
    → cond mark (then_some (is_empty words) c) (place_in tops c.asked.size word >>= λ p. cond (nat_lt (length c.places) 3) (places_onto tops (with_place c p) words) None) ≡ Some d
    → ((p : Place) → length c.places < 3 → places_onto tops (with_place c p) words ≡ Some d → ArePlaces tops (with_place c p) words d)
    → ArePlaces tops c (word ∷ words) d
places_by tops c word words d true few is_mark is next =
    let end = then_some_is (is_empty words) c d is in
    record {
      marked = true;
      places = [];
      words_are = cons_same word (codes "refused") words [] (sym ((bytes_eq-Decides (codes "refused") word).0 is_mark)) (no_more words end.0);
      whole = no_places c d end.1;
      fits = tt;
      sized = refl;
      found = omega arith;
    }
places_by tops c word words d false few is_mark is next =
    bind_some (place_in tops c.asked.size word) (λ p. cond (nat_lt (length c.places) 3) (places_onto tops (with_place c p) words) None) d is (λ p first more.
    let room = cond_some (nat_lt (length c.places) 3) (places_onto tops (with_place c p) words) d more in
    let below : length c.places < 3 = ltb-true (length c.places) 3 room.0 in
    let place = place_is tops c.asked.size word p first in
    let others = next p below room.1 in
    let longer : length (c.places ++ p ∷ []) ≡ length c.places + 1 = length_push c.places p in
    let found : length (c.places ++ p ∷ []) + length others.places ≤ 3 = others.found in
    record {
      marked = others.marked;
      places = p ∷ others.places;
      words_are = cons_same word (place_word p) words (map place_word others.places ++ mark_words others.marked) place.word_is others.words_are;
      whole = others.whole ∙ ap (λ (places : List Place). let made : Choice = record c { places = places } in made) (append_assoc c.places (p ∷ []) others.places);
      fits = (place.fits, others.fits);
      sized = places_same p (sized_place tops c.asked.size p) others.places (map (sized_place tops c.asked.size) others.places) place.sized others.sized;
      found = omega arith;
    })

places_are : (tops : List TopSize) (c : Choice) (words : List Word) (d : Choice) → length c.places ≤ 3 → places_onto tops c words ≡ Some d → ArePlaces tops c words d
places_are tops c [] d few is = record {
  marked = false;
  places = [];
  words_are = refl;
  whole = no_places c d (some_is c d is);
  fits = tt;
  sized = refl;
  found = omega arith;
}
places_are tops c (word ∷ words) d few is =
    places_by tops c word words d (is_word (codes "refused") word) few refl is (λ p below more.
    let longer : length (c.places ++ p ∷ []) ≡ length c.places + 1 = length_push c.places p in
    places_are tops (with_place c p) words d (omega arith) more)

other_r : IsOther 114
other_r c low high same = omega arith

no_mark : (p : Place) → PlaceFits p → is_word (codes "refused") (place_word p) ≡ false
no_mark p fits =
    let low : p.top < 2 ^ 32 = fits.top in
    ap (is_word (codes "refused")) (append_assoc (decimal p.top) (58 ∷ []) (decimal p.sector))
    ∙ other_word 114 (codes "efused") p.top (58 ∷ decimal p.sector) other_r (omega arith)

places_read : (tops : List TopSize) (c : Choice) (places : List Place) (marked : Bool) → AllByRecursion PlaceFits places → length c.places + length places ≤ 3
    → places_onto tops c (map place_word places ++ mark_words marked) ≡ Some (with_places c (map (sized_place tops c.asked.size) places))
places_read tops c [] true fits few = ap Some (no_places c c refl)
places_read tops c [] false fits few = ap Some (no_places c c refl)
places_read tops c (p ∷ places) marked fits few =
    let room : length c.places < 3 = omega arith in
    let words = map place_word places ++ mark_words marked in
    let here = sized_place tops c.asked.size p in
    let longer : length (c.places ++ here ∷ []) ≡ length c.places + 1 = length_push c.places here in
    let next = places_read tops (with_place c here) places marked fits.1 (omega arith) in
    ap (λ b. cond b (then_some (is_empty words) c) (place_in tops c.asked.size (place_word p) >>= λ q. cond (nat_lt (length c.places) 3) (places_onto tops (with_place c q) words) None)) (no_mark p fits.0)
    ∙ ap (λ (o : Option Place). o >>= λ q. cond (nat_lt (length c.places) 3) (places_onto tops (with_place c q) words) None) (place_read tops c.asked.size p fits.0)
    ∙ ap (λ b. cond b (places_onto tops (with_place c here) words) None) (lt-ltb (length c.places) 3 room)
    ∙ next
    ∙ ap (λ (all : List Place). let made : Choice = record c { places = all } in Some made) (append_assoc c.places (here ∷ []) (map (sized_place tops c.asked.size) places))

-- ---- the whole line

-- the words say whose entry it is
pub record IsKey (round : ℕ) (words : List Word) (r : Read Key) : Type 0 where
  pub words_are : words ≡ decimal r.value.request ∷ decimal r.value.attempt ∷ path_text r.value.path ∷ role_text r.value.role ∷ r.rest
  pub request : r.value.request < 2 ^ 32
  pub attempt : r.value.attempt < 2 ^ 32
  pub steps : AllByRecursion (λ step. step < 2 ^ 8) r.value.path
  pub depth : length r.value.path ≤ 8
  pub round_is : r.value.round ≡ round

key_is : (round : ℕ) (words : List Word) (r : Read Key) → key_read round words ≡ Some r → IsKey round words r
key_is round words r is =
    bind_some (next_read number_in words) _ r is (λ request first is_1.
    bind_some (next_read number_in request.rest) _ r is_1 (λ attempt second is_2.
    bind_some (next_read path_in attempt.rest) _ r is_2 (λ path third is_3.
    bind_some (next_read role_in path.rest) _ r is_3 (λ role fourth last.
    let one = next_is number_in words request first in
    let two = next_is number_in request.rest attempt second in
    let three = next_is path_in attempt.rest path third in
    let four = next_is role_in path.rest role fourth in
    let n = decimal_of_number (2 ^ 32) one.part request.value (omega arith) one.value_is in
    let a = decimal_of_number (2 ^ 32) two.part attempt.value (omega arith) two.value_is in
    let p = path_is three.part path.value three.value_is in
    let made : Read Key = record {
      value = record { request = request.value; round = round; attempt = attempt.value; path = path.value; role = role.value };
      rest = role.rest;
    } in
    let are : IsKey round words made = record {
      words_are =
          one.parts_are ∙ cons_same one.part (decimal request.value) request.rest (decimal attempt.value ∷ path_text path.value ∷ role_text role.value ∷ role.rest) n.word_is
          (two.parts_are ∙ cons_same two.part (decimal attempt.value) attempt.rest (path_text path.value ∷ role_text role.value ∷ role.rest) a.word_is
          (three.parts_are ∙ cons_same three.part (path_text path.value) path.rest (role_text role.value ∷ role.rest) p.word_is
          (four.parts_are ∙ cons_same four.part (role_text role.value) role.rest role.rest (role_is four.part role.value four.value_is) refl)));
      request = n.below;
      attempt = a.below;
      steps = p.fits;
      depth = p.depth;
      round_is = refl;
    } in
    subst (λ s. IsKey round words s) (some_is made r last) are))))

-- the words behind the first are those of an entry
pub record IsTakeRead (tops : List TopSize) (round : ℕ) (words : List Word) (d : Choice) : Type 0 where
  pub marked : Bool
  pub words_are : words ≡ take_words marked d
  pub fits : ChoiceFits d
  pub whole : d ≡ completed tops round d

take_is : (tops : List TopSize) (round : ℕ) (words : List Word) (d : Choice) → take_read tops round words ≡ Some d → IsTakeRead tops round words d
take_is tops round words d is =
    bind_some (key_read round words) _ d is (λ key first is_1.
    bind_some (next_read number_in key.rest) _ d is_1 (λ size second is_2.
    bind_some (next_read number_in size.rest) _ d is_2 (λ copies third last.
    let k = key_is round words key first in
    let two = next_is number_in key.rest size second in
    let three = next_is number_in size.rest copies third in
    let s = decimal_of_number (2 ^ 32) two.part size.value (omega arith) two.value_is in
    let c = decimal_of_number (2 ^ 32) three.part copies.value (omega arith) three.value_is in
    let places = places_are tops (bare key.value size.value copies.value) copies.rest d (omega arith) last in
    let made : Choice = record { asked = record { key = key.value; size = size.value; copies = copies.value }; places = places.places } in
    let found : length {A = Place} [] + length places.places ≤ 3 = places.found in
    let rest = map place_word places.places ++ mark_words places.marked in
    let fits : ChoiceFits made = record {
      request = k.request;
      attempt = k.attempt;
      steps = k.steps;
      depth = k.depth;
      size = s.below;
      copies = c.below;
      places = places.fits;
      found = omega arith;
    } in
    let tail : key.rest ≡ decimal size.value ∷ decimal copies.value ∷ rest =
    two.parts_are ∙ cons_same two.part (decimal size.value) size.rest (decimal copies.value ∷ rest) s.word_is
    (three.parts_are ∙ cons_same three.part (decimal copies.value) copies.rest rest c.word_is places.words_are) in
    let in_round : made ≡ record made { asked = record made.asked { key = record key.value { round = round } } } =
    ap (λ n. let turned : Choice = record made { asked = record made.asked { key = record key.value { round = n } } } in turned) k.round_is in
    let sized : record made { asked = record made.asked { key = record key.value { round = round } } } ≡ completed tops round made =
    ap (λ (ps : List Place). let turned : Choice = record { asked = record made.asked { key = record key.value { round = round } }; places = ps } in turned) places.sized in
    let are : IsTakeRead tops round words made = record {
      marked = places.marked;
      words_are = k.words_are ∙ ap (λ (ws : List Word). decimal key.value.request ∷ decimal key.value.attempt ∷ path_text key.value.path ∷ role_text key.value.role ∷ ws) tail;
      fits = fits;
      whole = in_round ∙ sized;
    } in
    subst (λ e. IsTakeRead tops round words e) (sym places.whole) are)))

take_of_words : (tops : List TopSize) (round : ℕ) (marked : Bool) (c : Choice) → ChoiceFits c → take_read tops round (take_words marked c) ≡ Some (completed tops round c)
take_of_words tops round marked c fits =
    let found : length {A = Place} [] + length c.places ≤ 3 = omega (arith, fits.found) in
    let key : Key = record c.asked.key { round = round } in
    rw (
      number_of_decimal (2 ^ 32) c.asked.key.request fits.request (omega arith),
      number_of_decimal (2 ^ 32) c.asked.key.attempt fits.attempt (omega arith),
      path_read c.asked.key.path fits.steps fits.depth,
      role_read c.asked.key.role,
      number_of_decimal (2 ^ 32) c.asked.size fits.size (omega arith),
      number_of_decimal (2 ^ 32) c.asked.copies fits.copies (omega arith),
    ) (places_read tops (bare key c.asked.size c.asked.copies) c.places marked fits.places found)

-- ---- lines

pub behind_by : {X : Type 0} (first : Word) (read : List Word → Option X) (parts : List Word) (x : X) → behind first read parts ≡ Some x
    → (words : List Word) × (parts ≡ first ∷ words) × (read words ≡ Some x)
behind_by first read [] x is = absurd (none_is x is)
behind_by first read (word ∷ words) x is =
    let both = cond_some (is_word first word) (read words) x is in
    (words, cons_same word first words words (sym ((bytes_eq-Decides first word).0 both.0)) refl, both.1)

-- what is read is what the line spells
pub line_is_take : (tops : List TopSize) (round : ℕ) (line : Word) (d : Choice) → take_in tops round line ≡ Some d → IsTake tops round line d
line_is_take tops round line d is =
    let found = behind_by (codes "take") (take_read tops round) (parts_of line) d is in
    let are = take_is tops round found.0 d found.2 in
    record {
      marked = are.marked;
      text = same_parts 32 line (take_text are.marked d) (found.1 ∙ ap (λ (ws : List Word). codes "take" ∷ ws) are.words_are ∙ sym (take_parts are.marked d are.fits));
      fits = are.fits;
      whole = are.whole;
    }

-- a line that is the text of an entry is read
pub take_line_read : (tops : List TopSize) (round : ℕ) (line : Word) (marked : Bool) (c : Choice) → line ≡ take_text marked c → ChoiceFits c
    → take_in tops round line ≡ Some (completed tops round c)
take_line_read tops round line marked c text fits =
    ap (λ (l : Word). behind (codes "take") (take_read tops round) (parts_of l)) text
    ∙ ap (behind (codes "take") (take_read tops round)) (take_parts marked c fits)
    ∙ take_of_words tops round marked c fits

-- a line that isn't read is the text of no entry
pub line_is_no_take : (tops : List TopSize) (round : ℕ) (line : Word) → take_in tops round line ≡ None → IsTakeShape line → ⊥
line_is_no_take tops round line none shape =
    none_is (completed tops round shape.choice) (sym none ∙ take_line_read tops round line shape.marked shape.choice shape.text shape.fits)

-- the line spells the entry that is read, or none
pub take_exact : (tops : List TopSize) (round : ℕ) (line : Word) (o : Option Choice) → o ≡ take_in tops round line
    → MatchOption o (¬ IsTakeShape line) (λ choice. IsTake tops round line choice)
take_exact tops round line None is = line_is_no_take tops round line (sym is)
take_exact tops round line (Some choice) is = line_is_take tops round line choice (sym is)

-- a line of the shape spells an entry
pub shape_spells : (tops : List TopSize) (round : ℕ) (line : Word) → IsTakeShape line → (choice : Choice) × IsTake tops round line choice
shape_spells tops round line shape = (
  completed tops round shape.choice,
  line_is_take tops round line (completed tops round shape.choice) (take_line_read tops round line shape.marked shape.choice shape.text shape.fits),
)
