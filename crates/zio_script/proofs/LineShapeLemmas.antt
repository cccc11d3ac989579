-- The shapes of lines of any form.
use Rattle.std.proofs.Common.{◌≡◌, ◌<◌, ◌≤◌, ℕ, suc, List, [], ◌∷◌, ◌++◌, map, length, drop, Bool, true, false, Option, Some, None, ◌⊎◌, inl, inr, refl, sym, ap, ◌∙◌, arith, Bor}
use Rattle.std.proofs.lemmas.List.{append_assoc, map-append}
use Rattle.std.specs.Prelude.{codes}
use Rattle.zio_types.specs.declared.request.Kind.TheVariants.{Read as ReadKind}
use Rattle.zio_script.specs.Lines.{TopWords, kind_shape, request_shape, sector_end, top_words, with_leaf}
use Rattle.zio_script.specs.Shapes.{HasNoSector, HasSector}
use Rattle.zio_script.specs.Words.{Word, is_word}

pub short_read : (n : Word) (words : List (Bor (List ℕ))) → length words < 2 → None ≡ kind_shape n ReadKind (map (λ w. w.now) words)
short_read n [] few = refl
short_read n (name ∷ []) few = refl
short_read n (name ∷ class ∷ words) few = absurd (omega arith)

pub short_request : (words : List (Bor (List ℕ))) → length words < 2 → None ≡ request_shape (map (λ w. w.now) words)
short_request [] few = refl
short_request (n ∷ []) few = refl
short_request (n ∷ word ∷ words) few = absurd (omega arith)

-- ---- the words of a top

-- more than two words aren't `sector S`
long_end : (words : List Word) (a b c : Word) → sector_end (a ∷ words ++ b ∷ c ∷ []) ≡ None
long_end [] a b c = refl
long_end (x ∷ []) a b c = refl
long_end (x ∷ y ∷ words) a b c = refl

before_end : (leaves : List Word) (leaf word sector : Word) → is_word (codes "sector") word ≡ true
    → top_words (leaf ∷ leaves ++ word ∷ sector ∷ []) ≡ record { leaves = leaf ∷ leaves; sector = Some sector }
before_end [] leaf word sector is = rw is refl
before_end (next ∷ leaves) leaf word sector is =
    ap (λ (end : Option Word). with_leaf leaf end (top_words (next ∷ leaves ++ word ∷ sector ∷ []))) (long_end leaves next word sector)
    ∙ ap (λ (others : TopWords). with_leaf leaf None others) (before_end leaves next word sector is)

pub top_with_sector : (words leaves : List Word) (sector : Word) → HasSector words leaves sector
    → record { leaves = leaves; sector = Some sector } ≡ top_words words
top_with_sector words [] sector has = absurd (let some : 1 ≤ 0 = has.some in omega arith)
top_with_sector words (leaf ∷ leaves) sector has = rw has.words_are (sym (before_end leaves leaf has.word sector has.is_word))

no_end : (leaf : Word) (words : List Word) → HasNoSector (leaf ∷ words) → sector_end words ≡ None
no_end leaf [] none = refl
no_end leaf (word ∷ []) none = refl
no_end leaf (word ∷ s ∷ []) none = no_word (is_word (codes "sector") word) refl
  where
    no_word : (is : Bool) → is_word (codes "sector") word ≡ is → sector_end (word ∷ s ∷ []) ≡ None
    no_word false is_it = rw is_it refl
    no_word true is_it = absurd (none (leaf ∷ []) s (record { word = word; words_are = refl; some = omega arith; is_word = is_it }))
no_end leaf (word ∷ s ∷ next ∷ words) none = refl

behind_leaf : (leaf : Word) (words : List Word) → HasNoSector (leaf ∷ words) → HasNoSector words
behind_leaf leaf words none = λ leaves sector has. none (leaf ∷ leaves) sector (record {
  word = has.word;
  words_are = ap (λ (rest : List Word). leaf ∷ rest) has.words_are;
  some = omega arith;
  is_word = has.is_word;
})

pub top_without_sector : (words : List Word) → HasNoSector words → record { leaves = words; sector = None } ≡ top_words words
top_without_sector [] none = refl
top_without_sector (leaf ∷ words) none =
    ap (λ (others : TopWords). with_leaf leaf None others) (top_without_sector words (behind_leaf leaf words none))
    ∙ ap (λ (end : Option Word). with_leaf leaf end (top_words words)) (sym (no_end leaf words none))

no_front : (ys : List Word) (c d : Word) → [] ≡ ys ++ c ∷ d ∷ [] → ⊥
no_front [] c d same = cc
no_front (y ∷ ys) c d same = cc

one_front : (ys : List Word) (b c d : Word) → b ∷ [] ≡ ys ++ c ∷ d ∷ [] → ⊥
one_front [] b c d same = cc
one_front (y ∷ ys) b c d same = no_front ys c d (ap (λ (words : List Word). drop 1 words) same)

-- two words at the end, and what stands before them
same_end : (xs ys : List Word) (a b c d : Word) → xs ++ a ∷ b ∷ [] ≡ ys ++ c ∷ d ∷ [] → (length xs ≡ length ys) × (a ≡ c)
same_end [] [] a b c d same = (refl, cc)
same_end [] (y ∷ ys) a b c d same = absurd (one_front ys b c d (ap (λ (words : List Word). drop 1 words) same))
same_end (x ∷ xs) [] a b c d same = absurd (one_front xs d a b (sym (ap (λ (words : List Word). drop 1 words) same)))
same_end (x ∷ xs) (y ∷ ys) a b c d same =
    let rest = same_end xs ys a b c d (ap (λ (words : List Word). drop 1 words) same) in
    (ap suc rest.0, rest.1)

pub no_sector_by : (words leaves : List Word) (word last : Word) → words ≡ leaves ++ word ∷ last ∷ []
    → (length leaves ≡ 0) ⊎ (is_word (codes "sector") word ≡ false) → HasNoSector words
no_sector_by words leaves word last are (inl none) = λ found sector has.
    let ends = same_end leaves found word last has.word sector (sym are ∙ has.words_are) in
    let lengths : length leaves ≡ length found = ends.0 in
    let some : 1 ≤ length found = has.some in
    absurd (omega arith)
no_sector_by words leaves word last are (inr other) = λ found sector has.
    let ends = same_end leaves found word last has.word sector (sym are ∙ has.words_are) in
    let same : word ≡ has.word = ends.1 in
    let is : is_word (codes "sector") has.word ≡ true = has.is_word in
    absurd (let no : false ≡ true = sym other ∙ ap (λ (w : Word). is_word (codes "sector") w) same ∙ is in cc)

pub two_at_end : (words front leaves : List (Bor (List ℕ))) (word last : Bor (List ℕ)) → words ≡ front ++ last ∷ [] → front ≡ leaves ++ word ∷ []
    → map (λ (w : Bor (List ℕ)). w.now) words ≡ map (λ (w : Bor (List ℕ)). w.now) leaves ++ word.now ∷ last.now ∷ []
two_at_end words front leaves word last are front_is =
    let whole : words ≡ leaves ++ word ∷ last ∷ [] = are ∙ ap (λ (xs : List (Bor (List ℕ))). xs ++ last ∷ []) front_is ∙ append_assoc leaves (word ∷ []) (last ∷ []) in
    rw whole (map-append (λ (w : Bor (List ℕ)). w.now) leaves (word ∷ last ∷ []))
