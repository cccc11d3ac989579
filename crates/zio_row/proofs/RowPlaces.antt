-- What a lawful journal has for the write of the worked run: one place, inside the top.
use Rattle.std.proofs.Common.{◌≡◌, ℕ, zero, suc, ◌+◌, ◌%◌, ◌<◌, ◌≤◌, List, [], ◌∷◌, ◌++◌, length, Bool, true, false, cond, filter, find, ◌&&◌, ◌==◌, nat_lt, nat_le, Option, Some, None, Contains, slice_get, refl, sym, ap, subst, ◌∙◌, arith, eqb-true, ltb-true, leb-true}
use Rattle.std.specs.List.{AllByRecursion}
use Rattle.std.proofs.lemmas.Bool.{and_parts}
use Rattle.std.proofs.lemmas.Option.{slice_get_past}
use Rattle.zio_types.specs.declared.journal.Role.TheVariants.{Body}
use Rattle.zio_types.specs.declared.place.Place.{Place}
use Rattle.zio_types.specs.declared.place.TopSize.{TopSize}
use Rattle.zio_types.specs.Choices.{Ask, Choice, same_ask, same_key, taken_by}
use Rattle.zio_types.specs.Places.{AreCopies, HasRun, IsLawfulChoice, fits_on, fits_size, is_below, is_inside}
use Rattle.zio_cksum.proofs.AllLemmas.{all_contains}
use Rattle.zio_gang.specs.Journals.{AreChoicesOf, AreLawful, asks_of, choices_in}
use Rattle.zio_gang.specs.Writes.{chosen, places_chosen, places_unless}
use Rattle.zio_gang.proofs.DependenceLemmas.{chosen_in}

-- one top of 128 sectors
abbrev pub row_sizes : List TopSize
row_sizes = record { sectors = 128; unit = 1 } ∷ []

-- what the write asks for
abbrev pub row_ask : Ask
row_ask = record { key = record { request = 1; round = 1; attempt = 0; path = []; role = Body }; size = 512; copies = 1 }

-- the place of one sector on the top
abbrev pub on_top : ℕ → Place
on_top sector = record { top = 0; sector = sector; sectors = 1 }

-- these are one place of a sector on the top, inside it
pub record IsOne (places : List Place) : Type 0 where
  pub sector : ℕ
  pub are : places ≡ on_top sector ∷ []
  pub inside : sector < 128

-- ---- lists

none_contained : {X : Type 0} (x : X) → Contains [] x → ⊥
none_contained x c = all_contains (λ z. ⊥) [] x tt c

one_contained : {X : Type 0} (x y : X) → Contains (x ∷ []) y → x ≡ y
one_contained x y c = all_contains (λ z. x ≡ z) (x ∷ []) y (refl, tt) c

kept_twice : {X : Type 0} (test : X → Bool) (b : Bool) (x : X) (xs : List X) → test x ≡ b → filter test (filter test xs) ≡ filter test xs
    → filter test (cond b (x ∷ filter test xs) (filter test xs)) ≡ cond b (x ∷ filter test xs) (filter test xs)
kept_twice {X = X} test true x xs is same = ap (λ (t : Bool). cond t (x ∷ filter test (filter test xs)) (filter test (filter test xs))) is ∙ ap (λ (l : List X). x ∷ l) same
kept_twice test false x xs is same = same

filter_twice : {X : Type 0} (test : X → Bool) (xs : List X) → filter test (filter test xs) ≡ filter test xs
filter_twice test [] = refl
filter_twice test (x ∷ xs) = kept_twice test (test x) x xs refl (filter_twice test xs)

-- ---- one choice

zero_top : (top : ℕ) (p : Place) → is_below p (slice_get row_sizes top) ≡ true → top ≡ 0
zero_top zero p e = refl
zero_top (suc top) p e =
    let none : slice_get row_sizes (suc top) ≡ None = slice_get_past row_sizes (suc top) (omega arith) in
    let no : false ≡ true = subst (λ (o : Option TopSize). is_below p o ≡ true) none e in
    absurd (cc)

one_inside : (p : Place) (size : ℕ) → size ≡ 512 → is_inside row_sizes p ≡ true → fits_size row_sizes size p ≡ true → IsOne (p ∷ [])
one_inside p size is inside fits =
    let top : p.top ≡ 0 = zero_top p.top p inside in
    let there : is_below p (slice_get row_sizes 0) ≡ true = subst (λ (n : ℕ). is_below p (slice_get row_sizes n) ≡ true) top inside in
    let fit : fits_on 512 p (slice_get row_sizes 0) ≡ true =
    subst (λ (n : ℕ). fits_on n p (slice_get row_sizes 0) ≡ true) is
    (subst (λ (n : ℕ). fits_on size p (slice_get row_sizes n) ≡ true) top fits) in
    let one : p.sectors ≡ 1 = eqb-true p.sectors 1 (and_parts (p.sector % 1 == 0) (p.sectors == 1) fit).1 in
    let low : p.sector + p.sectors ≤ 128 = leb-true (p.sector + p.sectors) 128 (and_parts (nat_lt 0 p.sectors) (nat_le (p.sector + p.sectors) 128) there).1 in
    record { sector = p.sector; are = λ i. record { top = top i; sector = p.sector; sectors = one i } ∷ []; inside = omega arith }

one_copy : (used : List Place) (size : ℕ) (places : List Place) → size ≡ 512 → AreCopies row_sizes used size [] places → 1 ≤ length places → length places ≤ 1 → IsOne places
one_copy used size [] is copies some most = absurd (omega arith)
one_copy used size (p ∷ []) is copies some most = one_inside p size is copies.0.inside copies.0.fits
one_copy used size (p ∷ q ∷ places) is copies some most = absurd (omega arith)

never_refused : (asked : Ask) (places : List Place) → asked ≡ row_ask → IsLawfulChoice row_sizes [] (record { asked = asked; places = places })
    → length places < 1 → ⊥
never_refused asked (p ∷ places) is lawful short = omega arith
never_refused asked [] is lawful short =
    let same : IsLawfulChoice row_sizes [] (record { asked = row_ask; places = [] }) =
    subst (λ (a : Ask). IsLawfulChoice row_sizes [] (record { asked = a; places = [] })) is lawful in
    same.refused (omega arith) 0 (record { place = on_top 0; there = refl; fits = refl; inside = refl; free = refl })

-- ---- the choices of the first round

abbrev is_for : Choice → Bool
is_for c = same_ask c.asked row_ask

unless_none : (few : Bool) (c : Choice) → places_unless few c ≡ None → few ≡ true
unless_none true c e = refl
unless_none false c e = absurd (cc)

unless_some : (few : Bool) (c : Choice) (places : List Place) → places_unless few c ≡ Some places → (few ≡ false) × (c.places ≡ places)
unless_some true c places e = absurd (cc)
unless_some false c places e = (refl, cc)

not_few : (n : ℕ) → nat_lt n 1 ≡ false → 1 ≤ n
not_few zero e = absurd (cc)
not_few (suc n) e = omega arith

lawful_copies : (used : List Place) (c : Choice) (places : List Place) → IsLawfulChoice row_sizes used c → is_for c ≡ true
    → places_unless (nat_lt (length c.places) 1) c ≡ Some places → IsOne places
lawful_copies used c places lawful asked e =
    let parts = unless_some (nat_lt (length c.places) 1) c places e in
    let same = and_parts (same_key c.asked.key row_ask.key && (c.asked.size == 512)) (c.asked.copies == 1) asked in
    let copies : c.asked.copies ≡ 1 = eqb-true c.asked.copies 1 same.1 in
    let size : c.asked.size ≡ 512 = eqb-true c.asked.size 512 (and_parts (same_key c.asked.key row_ask.key) (c.asked.size == 512) same.0).1 in
    let most : length c.places ≤ c.asked.copies = lawful.found in
    let some : 1 ≤ length c.places = not_few (length c.places) parts.0 in
    subst IsOne parts.1 (one_copy used c.asked.size c.places size lawful.copies some (omega arith))

copies_by : (b : Bool) (used : List Place) (c : Choice) (cs : List Choice) (places : List Place) → is_for c ≡ b → IsLawfulChoice row_sizes used c
    → (places_chosen 1 (find is_for cs) ≡ Some places → IsOne places) → places_chosen 1 (cond b (Some c) (find is_for cs)) ≡ Some places → IsOne places
copies_by true used c cs places is lawful later e = lawful_copies used c places lawful is e
copies_by false used c cs places is lawful later e = later e

chosen_copies : (used : List Place) (cs : List Choice) (places : List Place) → AreLawful row_sizes used cs
    → places_chosen 1 (find is_for cs) ≡ Some places → IsOne places
chosen_copies used [] places lawful e = absurd (cc)
chosen_copies used (c ∷ cs) places lawful e =
    copies_by (is_for c) used c cs places refl lawful.0 (chosen_copies (taken_by c ++ used) cs places lawful.1) e

chosen_none : (asks : List Ask) (cs : List Choice) → AreChoicesOf row_sizes [] asks cs → asks ≡ row_ask ∷ []
    → places_chosen 1 (find is_for cs) ≡ None → ⊥
chosen_none asks [] are only e =
    none_contained row_ask (subst (AllByRecursion (λ ask. Contains [] ask)) only are.answered).0
chosen_none asks (c ∷ cs) are only e =
    let there : Contains (row_ask ∷ []) c.asked = subst (λ (l : List Ask). Contains l c.asked) only are.asked.0 in
    let same : c.asked ≡ row_ask = sym (one_contained row_ask c.asked there) in
    let found : is_for c ≡ true = ap (λ (a : Ask). same_ask a row_ask) same in
    let few : places_unless (nat_lt (length c.places) 1) c ≡ None =
    subst (λ (b : Bool). places_chosen 1 (cond b (Some c) (find is_for cs)) ≡ None) found e in
    never_refused c.asked c.places same are.lawful.0 (ltb-true (length c.places) 1 (unless_none (nat_lt (length c.places) 1) c few))

-- ---- the journal

chosen_first : (journal : List Choice) → chosen journal row_ask ≡ chosen (choices_in 1 journal) row_ask
chosen_first journal = chosen_in journal (choices_in 1 journal) row_ask (sym (filter_twice (λ (c : Choice). c.asked.key.round == 1) journal))

-- the write's one place
pub record HasPlace (journal : List Choice) : Type 0 where
  pub places : List Place
  pub found : chosen journal row_ask ≡ Some places
  pub one : IsOne places

place_by : (o : Option (List Place)) (journal : List Choice) (asks : List Ask) → chosen journal row_ask ≡ o → AreChoicesOf row_sizes [] asks (choices_in 1 journal)
    → (chosen journal row_ask ≡ None → asks ≡ row_ask ∷ []) → HasPlace journal
place_by (Some places) journal asks is are only = record {
  places = places;
  found = is;
  one = chosen_copies [] (choices_in 1 journal) places are.lawful (sym (chosen_first journal) ∙ is);
}
place_by None journal asks is are only = absurd (chosen_none asks (choices_in 1 journal) are (only is) (sym (chosen_first journal) ∙ is))

-- where the first round asks for nothing else if the write was refused, it wasn't refused
pub write_has_place : (journal : List Choice) (asks : List Ask) → AreChoicesOf row_sizes [] asks (choices_in 1 journal)
    → (chosen journal row_ask ≡ None → asks ≡ row_ask ∷ []) → HasPlace journal
write_has_place journal asks are only = place_by (chosen journal row_ask) journal asks refl are only
