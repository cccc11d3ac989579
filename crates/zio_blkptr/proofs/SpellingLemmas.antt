-- A valid pointer is spelled by sixteen words: those of its three places, where those of an absent one are 0, and
-- then those of its other fields.
use Rattle.std.proofs.Common.{◌≡◌, ℕ, zero, suc, ◌+◌, ◌*◌, ◌^◌, ◌<◌, List, [], ◌∷◌, length, take, drop, get_or, Bool, true, ◌&&◌, ◌==◌, cond, nat_lt, IsTrue, refl, ap, sym, ◌∙◌, arith, ltb-true}
use Rattle.std.proofs.lemmas.Bool.{and_parts, ne_eqb}
use Rattle.std.specs.List.{flat_map, list_all}
use Rattle.zio_types.specs.declared.place.Place.{Place}
use Rattle.zio_blkptr.specs.declared.pointer.Bp.{Bp}
use Rattle.zio_blkptr.specs.declared.pointer.SumKind.{SumKind}
use Rattle.zio_blkptr.specs.declared.pointer.TheConstants.{SECTOR_END, TOP_END}
use Rattle.zio_blkptr.specs.Pointers.{valid, is_absent, is_present, is_rounding_of, sectors_stored, word, bit, properties, spelling}
use Rattle.zio_blkptr.proofs.Fields.{properties_of}
use Rattle.zio_blkptr.proofs.PointerLemmas.{ValidParts, valid_parts, IsInRange, IsInRange-from, IsZero, IsZero-from, bp_with, with_lists, first_of, second_of, spelling-one, spelling-two, spelling-three}

abbrev pub zero_place : Place
zero_place = record { top = 0; sector = 0; sectors = 0 }

-- ---- sectors are in range

-- a place that is counted has a sector below 2 ^ 48, and one that isn't has 0
place_small : (bp : Bp) (n : ℕ) (ps : List Place) → IsTrue (list_all (is_present bp) (take n ps)) → IsTrue (list_all is_absent (drop n ps))
    → (i : ℕ) → (get_or ps i zero_place).sector < 2 ^ 48
place_small bp zero [] h k i = omega arith
place_small bp zero (p ∷ ps) h k zero =
    let at_p = IsZero-from p (and_parts (is_absent p) (list_all is_absent ps) k).0 in
    omega (arith, at_p.sector)
place_small bp zero (p ∷ ps) h k (suc i) = place_small bp zero ps refl (and_parts (is_absent p) (list_all is_absent ps) k).1 i
place_small bp (suc n) [] h k i = omega arith
place_small bp (suc n) (p ∷ ps) h k zero =
    let present = and_parts (is_present bp p) (list_all (is_present bp) (take n ps)) h in
    let front = is_rounding_of p.sectors (sectors_stored bp) && nat_lt p.top TOP_END in
    ltb-true p.sector SECTOR_END (and_parts front (nat_lt p.sector SECTOR_END) present.0).1
place_small bp (suc n) (p ∷ ps) h k (suc i) =
    place_small bp n ps (and_parts (is_present bp p) (list_all (is_present bp) (take n ps)) h).1 k i

-- each place of a valid pointer has a sector below 2 ^ 48
pub sector_small : (bp : Bp) → IsTrue (valid bp) → (i : ℕ) → (get_or bp.places i zero_place).sector < 2 ^ 48
sector_small bp h = let parts = valid_parts bp h in place_small bp bp.count bp.places parts.present parts.absent

-- ---- the words of a place

-- the second word, of a place or of none
abbrev pub second_or_zero : Bool → Place → ℕ
second_or_zero gang p = cond (p.sectors == 0) p.sector (p.sector + bit gang * 2 ^ 63)

second_there : (gang : Bool) (p : Place) → IsInRange p → second_or_zero gang p ≡ second_of gang p
second_there gang p h = ap (λ t. cond t p.sector (second_of gang p)) (ne_eqb p.sectors 0 (λ e. let some : 0 < p.sectors = h.some in omega arith))

first_none : (p : Place) → IsZero p → first_of p ≡ 0
first_none p h = omega (arith, h.sectors, h.top)

second_none : (gang : Bool) (p : Place) → IsZero p → second_or_zero gang p ≡ 0
second_none gang p h = ap (λ n. cond (n == 0) p.sector (second_of gang p)) h.sectors ∙ h.sector

-- ---- the sixteen words

-- the words of three places, and of the other fields
abbrev pub sixteen_of : Place → Place → Place → Bool → ℕ → ℕ → ℕ → ℕ → ℕ → ℕ → List ℕ
sixteen_of p q r gang props birth a b c d =
    first_of p ∷ second_or_zero gang p ∷ first_of q ∷ second_or_zero gang q ∷ first_of r ∷ second_or_zero gang r ∷ props
    ∷ 0 ∷ 0 ∷ 0 ∷ birth ∷ 1 ∷ a ∷ b ∷ c ∷ d ∷ []

one_spelled : (p q r : Place) (gang : Bool) (size : ℕ) (sum : SumKind) (birth a b c d : ℕ)
    → ValidParts (bp_with 1 p q r gang size sum birth a b c d)
    → flat_map word (sixteen_of p q r gang (properties_of size sum) birth a b c d) ≡ spelling (bp_with 1 p q r gang size sum birth a b c d)
one_spelled p q r gang size sum birth a b c d ok =
    let bp = bp_with 1 p q r gang size sum birth a b c d in
    let absent = and_parts (is_absent q) (is_absent r && true) ok.absent in
    let at_p = IsInRange-from bp p ok.size (and_parts (is_present bp p) true ok.present).0 in
    let at_q = IsZero-from q absent.0 in
    let at_r = IsZero-from r (and_parts (is_absent r) true absent.1).0 in
    (λ j. flat_map word (
    first_of p ∷ second_there gang p at_p j ∷ first_none q at_q j ∷ second_none gang q at_q j
    ∷ first_none r at_r j ∷ second_none gang r at_r j ∷ properties_of size sum
    ∷ 0 ∷ 0 ∷ 0 ∷ birth ∷ 1 ∷ a ∷ b ∷ c ∷ d ∷ []
    ))
    ∙ sym (spelling-one p q r gang size sum birth a b c d)

two_spelled : (p q r : Place) (gang : Bool) (size : ℕ) (sum : SumKind) (birth a b c d : ℕ)
    → ValidParts (bp_with 2 p q r gang size sum birth a b c d)
    → flat_map word (sixteen_of p q r gang (properties_of size sum) birth a b c d) ≡ spelling (bp_with 2 p q r gang size sum birth a b c d)
two_spelled p q r gang size sum birth a b c d ok =
    let bp = bp_with 2 p q r gang size sum birth a b c d in
    let present = and_parts (is_present bp p) (is_present bp q && true) ok.present in
    let at_p = IsInRange-from bp p ok.size present.0 in
    let at_q = IsInRange-from bp q ok.size (and_parts (is_present bp q) true present.1).0 in
    let at_r = IsZero-from r (and_parts (is_absent r) true ok.absent).0 in
    (λ j. flat_map word (
    first_of p ∷ second_there gang p at_p j ∷ first_of q ∷ second_there gang q at_q j
    ∷ first_none r at_r j ∷ second_none gang r at_r j ∷ properties_of size sum
    ∷ 0 ∷ 0 ∷ 0 ∷ birth ∷ 1 ∷ a ∷ b ∷ c ∷ d ∷ []
    ))
    ∙ sym (spelling-two p q r gang size sum birth a b c d)

three_spelled : (p q r : Place) (gang : Bool) (size : ℕ) (sum : SumKind) (birth a b c d : ℕ)
    → ValidParts (bp_with 3 p q r gang size sum birth a b c d)
    → flat_map word (sixteen_of p q r gang (properties_of size sum) birth a b c d) ≡ spelling (bp_with 3 p q r gang size sum birth a b c d)
three_spelled p q r gang size sum birth a b c d ok =
    let bp = bp_with 3 p q r gang size sum birth a b c d in
    let first = and_parts (is_present bp p) (is_present bp q && (is_present bp r && true)) ok.present in
    let second = and_parts (is_present bp q) (is_present bp r && true) first.1 in
    let at_p = IsInRange-from bp p ok.size first.0 in
    let at_q = IsInRange-from bp q ok.size second.0 in
    let at_r = IsInRange-from bp r ok.size (and_parts (is_present bp r) true second.1).0 in
    (λ j. flat_map word (
    first_of p ∷ second_there gang p at_p j ∷ first_of q ∷ second_there gang q at_q j
    ∷ first_of r ∷ second_there gang r at_r j ∷ properties_of size sum
    ∷ 0 ∷ 0 ∷ 0 ∷ birth ∷ 1 ∷ a ∷ b ∷ c ∷ d ∷ []
    ))
    ∙ sym (spelling-three p q r gang size sum birth a b c d)

spelled-bp_with : (count : ℕ) (p q r : Place) (gang : Bool) (size : ℕ) (sum : SumKind) (birth a b c d : ℕ)
    → ValidParts (bp_with count p q r gang size sum birth a b c d)
    → flat_map word (sixteen_of p q r gang (properties_of size sum) birth a b c d) ≡ spelling (bp_with count p q r gang size sum birth a b c d)
spelled-bp_with zero p q r gang size sum birth a b c d ok = absurd (omega (arith, ok.low))
spelled-bp_with (suc zero) p q r gang size sum birth a b c d ok = one_spelled p q r gang size sum birth a b c d ok
spelled-bp_with (suc (suc zero)) p q r gang size sum birth a b c d ok = two_spelled p q r gang size sum birth a b c d ok
spelled-bp_with (suc (suc (suc zero))) p q r gang size sum birth a b c d ok = three_spelled p q r gang size sum birth a b c d ok
spelled-bp_with (suc (suc (suc (suc n)))) p q r gang size sum birth a b c d ok = absurd (omega (arith, ok.high))

-- the words of a pointer with these lists
abbrev pub words_of : Bp → List Place → List ℕ → List ℕ
words_of bp places words =
    sixteen_of (get_or places 0 zero_place) (get_or places 1 zero_place) (get_or places 2 zero_place) bp.gang (properties bp)
    bp.birth (get_or words 0 0) (get_or words 1 0) (get_or words 2 0) (get_or words 3 0)

words_spelled : (bp : Bp) (p q r : Place) (words : List ℕ) → length words ≡ 4
    → ValidParts (with_lists bp (p ∷ q ∷ r ∷ []) words)
    → flat_map word (words_of bp (p ∷ q ∷ r ∷ []) words) ≡ spelling (with_lists bp (p ∷ q ∷ r ∷ []) words)
words_spelled bp p q r [] l ok = absurd (omega (arith, l))
words_spelled bp p q r (a ∷ []) l ok = absurd (omega (arith, l))
words_spelled bp p q r (a ∷ b ∷ []) l ok = absurd (omega (arith, l))
words_spelled bp p q r (a ∷ b ∷ c ∷ []) l ok = absurd (omega (arith, l))
words_spelled bp p q r (a ∷ b ∷ c ∷ d ∷ []) l ok = spelled-bp_with bp.count p q r bp.gang bp.size bp.sum bp.birth a b c d ok
words_spelled bp p q r (a ∷ b ∷ c ∷ d ∷ e ∷ words) l ok = absurd (omega (arith, l))

lists_spelled : (bp : Bp) (places : List Place) (words : List ℕ) → length places ≡ 3 → length words ≡ 4
    → ValidParts (with_lists bp places words)
    → flat_map word (words_of bp places words) ≡ spelling (with_lists bp places words)
lists_spelled bp [] words k l ok = absurd (omega (arith, k))
lists_spelled bp (p ∷ []) words k l ok = absurd (omega (arith, k))
lists_spelled bp (p ∷ q ∷ []) words k l ok = absurd (omega (arith, k))
lists_spelled bp (p ∷ q ∷ r ∷ []) words k l ok = words_spelled bp p q r words l ok
lists_spelled bp (p ∷ q ∷ r ∷ s ∷ places) words k l ok = absurd (omega (arith, k))

-- a valid pointer is spelled by its sixteen words
pub spelling-words : (bp : Bp) → length bp.places ≡ 3 → length bp.words ≡ 4 → IsTrue (valid bp)
    → flat_map word (words_of bp bp.places bp.words) ≡ spelling bp
spelling-words bp places words h = lists_spelled bp bp.places bp.words places words (valid_parts bp h)
