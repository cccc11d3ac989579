-- The words of an entry's line: each is read exactly where it is the text of what it says.
use Rattle.std.proofs.Common.{◌≡◌, ◌<◌, ◌≤◌, ◌+◌, ◌^◌, ◌++◌, ℕ, List, [], ◌∷◌, length, refl, sym, ap, subst, ◌∙◌, Bool, true, false, Option, Some, None, arith, ltb-true, append_assoc}
use Rattle.std.specs.Prelude.{cond, codes, decimal, map, nat_lt, option_map}
use Rattle.std.specs.Bool.{then_some}
use Rattle.std.specs.List.{AllByRecursion}
use Rattle.std.proofs.lemmas.Bool.{lt-ltb}
use Rattle.std.proofs.lemmas.List.{append-nil, length_push}
use Rattle.std.proofs.lemmas.Slice.Eq.{bytes_eq-Decides}
use Rattle.zio_types.specs.declared.journal.Role.{Role}
use Rattle.zio_types.specs.declared.journal.Role.TheVariants.{Body, Head}
use Rattle.zio_types.specs.declared.place.Place.{Place}
use Rattle.zio_types.specs.declared.place.TopSize.{TopSize}
use Rattle.zio_script.specs.Lines.{◌>>=◌}
use Rattle.zio_script.specs.Words.{Word, is_empty, is_word}
use Rattle.zio_report.specs.Lines.{joined_steps, path_text, role_text}
use Rattle.zio_spelled.specs.Spelled.{PlaceFits, sized_place}
use Rattle.zio_spelled.specs.Reading.{Read, next_read, number_below, number_in, path_in, place_in, role_in, sector_in, steps_onto}
use Rattle.zio_spelled.proofs.PartLemmas.{Free, joined, parts_at, same_parts, some_parts, split_joined}
use Rattle.zio_spelled.proofs.NumberLemmas.{IsOther, decimal_of_number, free_decimal, number_of_decimal, other_word}

-- ---- steps of the reader

pub some_is : {X : Type 0} (x y : X) → Some x ≡ Some y → x ≡ y
some_is x y same = cc

pub none_is : {X : Type 0} (y : X) → None ≡ Some y → ⊥
none_is y same = cc

pub bind_some : {X Y P : Type 0} (o : Option X) (f : X → Option Y) (y : Y) → (o >>= f) ≡ Some y → ((x : X) → o ≡ Some x → f x ≡ Some y → P) → P
bind_some None f y is go = absurd (none_is y is)
bind_some (Some x) f y is go = go x refl is

pub map_some : {X Y P : Type 0} (f : X → Y) (o : Option X) (y : Y) → option_map f o ≡ Some y → ((x : X) → o ≡ Some x → f x ≡ y → P) → P
map_some f None y is go = absurd (none_is y is)
map_some f (Some x) y is go = go x refl (some_is (f x) y is)

pub cond_some : {Y : Type 0} (b : Bool) (o : Option Y) (y : Y) → cond b o None ≡ Some y → (b ≡ true) × (o ≡ Some y)
cond_some true o y is = (refl, is)
cond_some false o y is = absurd (none_is y is)

pub then_some_is : {X : Type 0} (b : Bool) (x y : X) → then_some b x ≡ Some y → (b ≡ true) × (x ≡ y)
then_some_is true x y is = (refl, some_is x y is)
then_some_is false x y is = absurd (none_is y is)

-- the next part was read
pub record IsNext {X : Type 0} (read : Word → Option X) (parts : List Word) (r : Read X) : Type 0 where
  pub part : Word
  pub parts_are : parts ≡ part ∷ r.rest
  pub value_is : read part ≡ Some r.value

pub next_is : {X : Type 0} (read : Word → Option X) (parts : List Word) (r : Read X) → next_read read parts ≡ Some r → IsNext read parts r
next_is read [] r is = absurd (none_is r is)
next_is {X = X} read (part ∷ parts) r is =
    map_some (λ (x : X). let made : Read X = record { value = x; rest = parts } in made) (read part) r is
    (λ x value same. record {
      part = part;
      parts_are = ap (λ (s : Read X). part ∷ s.rest) same;
      value_is = value ∙ ap (λ (s : Read X). Some s.value) same;
    })

pub cons_same : (a b : Word) (tail bs : List Word) → a ≡ b → tail ≡ bs → a ∷ tail ≡ b ∷ bs
cons_same a b tail bs first others = cc

-- ---- roles

role_by : (word : Word) (role : Role) (body head : Bool) → is_word (codes "body") word ≡ body → is_word (codes "head") word ≡ head
    → cond body (Some Body) (cond head (Some Head) None) ≡ Some role → word ≡ role_text role
role_by word role true head is_body is_head is =
    sym ((bytes_eq-Decides (codes "body") word).0 is_body) ∙ ap role_text (some_is Body role is)
role_by word role false true is_body is_head is =
    sym ((bytes_eq-Decides (codes "head") word).0 is_head) ∙ ap role_text (some_is Head role is)
role_by word role false false is_body is_head is = absurd (none_is role is)

pub role_is : (word : Word) (role : Role) → role_in word ≡ Some role → word ≡ role_text role
role_is word role is = role_by word role (is_word (codes "body") word) (is_word (codes "head") word) refl refl is

pub role_read : (role : Role) → role_in (role_text role) ≡ Some role
role_read Body = refl
role_read Head = refl

-- ---- paths

pub steps_joined : (step : ℕ) (steps : List ℕ) → joined_steps (step ∷ steps) ≡ decimal step ++ joined 46 (map decimal steps)
steps_joined step [] = sym (append-nil (decimal step))
steps_joined step (next ∷ steps) =
    append_assoc (decimal step) (46 ∷ []) (joined_steps (next ∷ steps)) ∙ ap (λ (rest : List ℕ). decimal step ++ 46 ∷ rest) (steps_joined next steps)

pub free_numbers : (x : ℕ) (numbers : List ℕ) → IsOther x → AllByRecursion (λ n. n < 2 ^ 64) numbers → AllByRecursion (Free x) (map decimal numbers)
free_numbers x [] other fits = tt
free_numbers x (n ∷ numbers) other fits = (free_decimal x n other fits.0, free_numbers x numbers other fits.1)

pub small_steps : (steps : List ℕ) → AllByRecursion (λ step. step < 2 ^ 8) steps → AllByRecursion (λ n. n < 2 ^ 64) steps
small_steps [] fits = tt
small_steps (step ∷ steps) fits =
    let below : step < 2 ^ 8 = fits.0 in
    (omega arith, small_steps steps fits.1)

-- the steps of these parts were put behind the path
pub record AreSteps (path : List ℕ) (parts : List Word) (whole : List ℕ) : Type 0 where
  pub steps : List ℕ
  pub parts_are : parts ≡ map decimal steps
  pub whole_is : whole ≡ path ++ steps
  pub fits : AllByRecursion (λ step. step < 2 ^ 8) steps
  pub depth : length path + length steps ≤ 8

pub steps_are : (path : List ℕ) (parts : List Word) (whole : List ℕ) → length path ≤ 8 → steps_onto path parts ≡ Some whole → AreSteps path parts whole
steps_are path [] whole short is = record {
  steps = [];
  parts_are = refl;
  whole_is = sym (some_is path whole is) ∙ sym (append-nil path);
  fits = tt;
  depth = omega arith;
}
steps_are path (part ∷ parts) whole short is =
    bind_some (number_below (2 ^ 8) part) (λ step. cond (nat_lt (length path) 8) (steps_onto (path ++ step ∷ []) parts) None) whole is (λ step value more.
    let spelled = decimal_of_number (2 ^ 8) part step (omega arith) value in
    let room = cond_some (nat_lt (length path) 8) (steps_onto (path ++ step ∷ []) parts) whole more in
    let below : length path < 8 = ltb-true (length path) 8 room.0 in
    let longer : length (path ++ step ∷ []) ≡ length path + 1 = length_push path step in
    let others = steps_are (path ++ step ∷ []) parts whole (omega arith) room.1 in
    let deep : length (path ++ step ∷ []) + length others.steps ≤ 8 = others.depth in
    record {
      steps = step ∷ others.steps;
      parts_are = cons_same part (decimal step) parts (map decimal others.steps) spelled.word_is others.parts_are;
      whole_is = others.whole_is ∙ append_assoc path (step ∷ []) others.steps;
      fits = (spelled.below, others.fits);
      depth = omega arith;
    })

pub steps_read : (path steps : List ℕ) → AllByRecursion (λ step. step < 2 ^ 8) steps → length path + length steps ≤ 8 → steps_onto path (map decimal steps) ≡ Some (path ++ steps)
steps_read path [] fits depth = ap Some (sym (append-nil path))
steps_read path (step ∷ steps) fits depth =
    let below : step < 2 ^ 8 = fits.0 in
    let room : length path < 8 = omega arith in
    let longer : length (path ++ step ∷ []) ≡ length path + 1 = length_push path step in
    let next = steps_read (path ++ step ∷ []) steps fits.1 (omega arith) in
    ap (λ (o : Option ℕ). o >>= λ s. cond (nat_lt (length path) 8) (steps_onto (path ++ s ∷ []) (map decimal steps)) None) (number_of_decimal (2 ^ 8) step below (omega arith))
    ∙ ap (λ b. cond b (steps_onto (path ++ step ∷ []) (map decimal steps)) None) (lt-ltb (length path) 8 room)
    ∙ next ∙ ap Some (append_assoc path (step ∷ []) steps)

-- a word that is a path
pub record IsPathOf (word : Word) (path : List ℕ) : Type 0 where
  pub word_is : word ≡ path_text path
  pub fits : AllByRecursion (λ step. step < 2 ^ 8) path
  pub depth : length path ≤ 8

other_point : IsOther 46
other_point c low high same = omega arith

other_dash : IsOther 45
other_dash c low high same = omega arith

pub steps_parts : (step : ℕ) (steps : List ℕ) → AllByRecursion (λ s. s < 2 ^ 8) (step ∷ steps) → parts_at 46 (joined_steps (step ∷ steps)) ≡ map decimal (step ∷ steps)
steps_parts step steps fits =
    let small = small_steps (step ∷ steps) fits in
    ap (parts_at 46) (steps_joined step steps)
    ∙ split_joined 46 (decimal step) (map decimal steps) (free_decimal 46 step other_point small.0) (free_numbers 46 steps other_point small.1)

path_of_steps : (word : Word) (path steps : List ℕ) → parts_at 46 word ≡ map decimal steps → path ≡ [] ++ steps → AllByRecursion (λ step. step < 2 ^ 8) steps
    → length {A = ℕ} [] + length steps ≤ 8 → 0 < length (parts_at 46 word) → IsPathOf word path
path_of_steps word path [] parts same fits depth some =
    let none : length (parts_at 46 word) ≡ 0 = ap length parts in
    absurd (omega arith)
path_of_steps word path (step ∷ steps) parts same fits depth some =
    let text : word ≡ path_text (step ∷ steps) = same_parts 46 word (joined_steps (step ∷ steps)) (parts ∙ sym (steps_parts step steps fits)) in
    let are : IsPathOf word (step ∷ steps) = record { word_is = text; fits = fits; depth = omega arith } in
    subst (λ p. IsPathOf word p) (sym same) are

path_by_steps : (word : Word) (path : List ℕ) → AreSteps [] (parts_at 46 word) path → 0 < length (parts_at 46 word) → IsPathOf word path
path_by_steps word path are some =
    path_of_steps word path are.steps are.parts_are are.whole_is are.fits are.depth some

path_by : (word : Word) (path : List ℕ) (dash : Bool) → is_word (codes "-") word ≡ dash → cond dash (Some []) (steps_onto [] (parts_at 46 word)) ≡ Some path → IsPathOf word path
path_by word path true is_dash is =
    let root : [] ≡ path = some_is [] path is in
    let are : IsPathOf word [] = record { word_is = sym ((bytes_eq-Decides (codes "-") word).0 is_dash); fits = tt; depth = omega arith } in
    subst (λ p. IsPathOf word p) root are
path_by word path false is_dash is =
    path_by_steps word path (steps_are [] (parts_at 46 word) path (omega arith) is) (some_parts 46 word)

pub path_is : (word : Word) (path : List ℕ) → path_in word ≡ Some path → IsPathOf word path
path_is word path is = path_by word path (is_word (codes "-") word) refl is

pub path_read : (path : List ℕ) → AllByRecursion (λ step. step < 2 ^ 8) path → length path ≤ 8 → path_in (path_text path) ≡ Some path
path_read [] fits depth = refl
path_read (step ∷ steps) fits depth =
    let below : step < 2 ^ 8 = fits.0 in
    let dash : is_word (codes "-") (joined_steps (step ∷ steps)) ≡ false =
    ap (is_word (codes "-")) (steps_joined step steps) ∙ other_word 45 [] step (joined 46 (map decimal steps)) other_dash (omega arith) in
    ap (λ b. cond b (Some []) (steps_onto [] (parts_at 46 (joined_steps (step ∷ steps))))) dash
    ∙ ap (steps_onto []) (steps_parts step steps fits)
    ∙ steps_read [] (step ∷ steps) fits (omega arith)

-- ---- places

-- the word of a place
abbrev pub place_word : Place → Word
place_word p = decimal p.top ++ codes ":" ++ decimal p.sector

other_colon : IsOther 58
other_colon c low high same = omega arith

pub place_parts : (p : Place) → PlaceFits p → parts_at 58 (place_word p) ≡ decimal p.top ∷ decimal p.sector ∷ []
place_parts p fits =
    let low : p.top < 2 ^ 32 = fits.top in
    ap (parts_at 58) (append_assoc (decimal p.top) (58 ∷ []) (decimal p.sector) ∙ ap (λ (rest : List ℕ). decimal p.top ++ 58 ∷ rest) (sym (append-nil (decimal p.sector))))
    ∙ split_joined 58 (decimal p.top) (decimal p.sector ∷ []) (free_decimal 58 p.top other_colon (omega arith)) (free_decimal 58 p.sector other_colon fits.sector, tt)

-- a word that is a place with the sectors of its size
pub record IsPlaceOf (tops : List TopSize) (size : ℕ) (word : Word) (p : Place) : Type 0 where
  pub word_is : word ≡ place_word p
  pub fits : PlaceFits p
  pub sized : p ≡ sized_place tops size p

pub no_more : (words : List Word) → is_empty words ≡ true → words ≡ []
no_more [] none = refl
no_more (word ∷ words) none = cc

pub place_is : (tops : List TopSize) (size : ℕ) (word : Word) (p : Place) → place_in tops size word ≡ Some p → IsPlaceOf tops size word p
place_is tops size word p is =
    bind_some (next_read number_in (parts_at 58 word)) _ p is (λ top first more.
    bind_some (next_read sector_in top.rest) _ p more (λ sector second last.
    let end = then_some_is (is_empty sector.rest) (sized_place tops size (record { top = top.value; sector = sector.value; sectors = 0 })) p last in
    let one = next_is number_in (parts_at 58 word) top first in
    let two = next_is sector_in top.rest sector second in
    let low = decimal_of_number (2 ^ 32) one.part top.value (omega arith) one.value_is in
    let high = decimal_of_number (2 ^ 64) two.part sector.value (omega arith) two.value_is in
    let made : Place = sized_place tops size (record { top = top.value; sector = sector.value; sectors = 0 }) in
    let fits : PlaceFits made = record { top = low.below; sector = high.below } in
    let parts : parts_at 58 word ≡ decimal top.value ∷ decimal sector.value ∷ [] =
    one.parts_are ∙ cons_same one.part (decimal top.value) top.rest (decimal sector.value ∷ []) low.word_is
    (two.parts_are ∙ cons_same two.part (decimal sector.value) sector.rest [] high.word_is (no_more sector.rest end.0)) in
    let are : IsPlaceOf tops size word made = record { word_is = same_parts 58 word (place_word made) (parts ∙ sym (place_parts made fits)); fits = fits; sized = refl } in
    subst (λ q. IsPlaceOf tops size word q) end.1 are))

pub place_read : (tops : List TopSize) (size : ℕ) (p : Place) → PlaceFits p → place_in tops size (place_word p) ≡ Some (sized_place tops size p)
place_read tops size p fits =
    rw (place_parts p fits, number_of_decimal (2 ^ 32) p.top fits.top (omega arith), number_of_decimal (2 ^ 64) p.sector fits.sector (omega arith)) refl
