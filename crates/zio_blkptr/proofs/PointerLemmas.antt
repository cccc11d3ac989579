-- A valid pointer is what the bytes of its spelling say. First what validity says of each field, then the spelling
-- as sixteen words, by how many places there are, and last the laws.
use Rattle.std.proofs.Common.{◌≡◌, ℕ, zero, suc, ◌+◌, ◌*◌, ◌/◌, ◌%◌, ◌^◌, ◌<◌, ◌≤◌, List, [], ◌∷◌, length, drop, get_or, Bool, true, false, ◌&&◌, ◌==◌, cond, nat_lt, nat_le, IsTrue, Some, take_while, bytes_eq, refl, ap, sym, ◌∙◌, subst, arith, leb-true, ltb-true, eqb-true, lt-ltb}
use Rattle.std.proofs.lemmas.Bool.{and_parts, and_from}
use Rattle.std.proofs.lemmas.Option.{same_Some, none-some}
use Rattle.std.proofs.lemmas.Slice.Eq.{bytes_eq-Decides}
use Rattle.std.specs.Bool.{then_some}
use Rattle.std.specs.List.{flat_map, list_all, prefix_len}
use Rattle.std.proofs.lemmas.List.Folds.{length-prefix_len}
use Rattle.zio_types.specs.declared.place.Place.{Place}
use Rattle.zio_blkptr.specs.declared.pointer.Bp.{Bp}
use Rattle.zio_blkptr.specs.declared.pointer.SumKind.{SumKind}
use Rattle.zio_blkptr.specs.declared.pointer.TheConstants.{BLOCK_SIZE_MAX, SECTOR_END, TOP_END}
use Rattle.zio_blkptr.specs.Pointers.{valid, is_absent, is_present, is_block_size, is_rounding_of, sectors_stored, places_of, word, word_of, bit, has_sectors, place_fields, fields, spells, spelling, pointer_of, sum_of_number, FitsTypes, Spells}
use Rattle.zio_blkptr.proofs.Roundings.{near_by_rounding}
use Rattle.zio_blkptr.proofs.Words.{AllFit, words_read, word_of-fits}
use Rattle.zio_blkptr.proofs.Fields.{PlaceWords, PlaceWords-present, PlaceWords-absent, place_field-words, IsSize, properties_of, properties-fit, size_read, sum_read, gang_read}

-- ---- what validity says

-- What a valid pointer's count, places and size are.
pub record ValidParts (bp : Bp) : Type 0 where
  pub low : 1 ≤ bp.count
  pub high : bp.count ≤ 3
  pub present : IsTrue (list_all (is_present bp) (places_of bp))
  pub absent : IsTrue (list_all is_absent (drop bp.count bp.places))
  pub size : IsSize bp.size

-- a chain of six tests passes where each does
six_parts : (a b c d e f : Bool) → IsTrue (a && b && c && d && e && f)
    → IsTrue a × IsTrue b × IsTrue c × IsTrue d × IsTrue e × IsTrue f
six_parts a b c d e f h =
    let five = and_parts (a && b && c && d && e) f h in
    let four = and_parts (a && b && c && d) e five.0 in
    let three = and_parts (a && b && c) d four.0 in
    let two = and_parts (a && b) c three.0 in
    let one = and_parts a b two.0 in
    (one.0, one.1, two.1, three.1, four.1, five.1)

IsSize-from : (size : ℕ) → IsTrue (is_block_size size) → IsSize size
IsSize-from size h =
    let two = and_parts (size % 512 == 0 && nat_le 512 size) (nat_le size BLOCK_SIZE_MAX) h in
    let one = and_parts (size % 512 == 0) (nat_le 512 size) two.0 in
    record {
      whole = eqb-true (size % 512) 0 one.0;
      low = leb-true 512 size one.1;
      high = leb-true size BLOCK_SIZE_MAX two.1;
    }

pub valid_parts : (bp : Bp) → IsTrue (valid bp) → ValidParts bp
valid_parts bp h =
    let parts = six_parts (nat_le 1 bp.count) (nat_le bp.count 3) (list_all (is_present bp) (places_of bp)) (list_all is_absent (drop bp.count bp.places)) (is_block_size bp.size) (nat_le 1 bp.birth) h in
    record {
      low = leb-true 1 bp.count parts.0;
      high = leb-true bp.count 3 parts.1;
      present = parts.2;
      absent = parts.3;
      size = IsSize-from bp.size parts.4;
    }

-- The place has sectors, and all its fields are in range.
pub record IsInRange (p : Place) : Type 0 where
  pub some : 0 < p.sectors
  pub sectors : p.sectors < 2 ^ 24
  pub top : p.top < 2 ^ 24
  pub sector : p.sector < 2 ^ 48

-- a place has at least one sector, and fewer than its field could hold
sectors_in_range : (gang : Bool) (size n : ℕ) → IsSize size → IsTrue (is_rounding_of n (cond gang 1 (size / 512)))
    → (0 < n) × (n < 2 ^ 24)
sectors_in_range true size n h e = let near = near_by_rounding n 1 e in (omega arith, omega arith)
sectors_in_range false size n h e = let near = near_by_rounding n (size / 512) e in (omega arith, omega arith)

-- a place that a valid pointer counts is in range
pub IsInRange-from : (bp : Bp) (p : Place) → IsSize bp.size → IsTrue (is_present bp p) → IsInRange p
IsInRange-from bp p size h =
    let rounded = is_rounding_of p.sectors (sectors_stored bp) in
    let two = and_parts (rounded && nat_lt p.top TOP_END) (nat_lt p.sector SECTOR_END) h in
    let one = and_parts rounded (nat_lt p.top TOP_END) two.0 in
    let sectors = sectors_in_range bp.gang bp.size p.sectors size one.0 in
    record {
      some = sectors.0;
      sectors = sectors.1;
      top = ltb-true p.top TOP_END one.1;
      sector = ltb-true p.sector SECTOR_END two.1;
    }

-- All the place's fields are 0.
pub record IsZero (p : Place) : Type 0 where
  pub sectors : p.sectors ≡ 0
  pub top : p.top ≡ 0
  pub sector : p.sector ≡ 0

-- a place behind those that it counts is zero
pub IsZero-from : (p : Place) → IsTrue (is_absent p) → IsZero p
IsZero-from p h =
    let two = and_parts (p.sectors == 0 && p.top == 0) (p.sector == 0) h in
    let one = and_parts (p.sectors == 0) (p.top == 0) two.0 in
    record {
      sectors = eqb-true p.sectors 0 one.0;
      top = eqb-true p.top 0 one.1;
      sector = eqb-true p.sector 0 two.1;
    }

-- ---- how many places have sectors

pub length-sectors : (p q r : Place) (n : ℕ) → prefix_len has_sectors (p ∷ q ∷ r ∷ []) ≡ n → length (take_while has_sectors (p ∷ q ∷ r ∷ [])) ≡ n
length-sectors p q r n e = length-prefix_len has_sectors (p ∷ q ∷ r ∷ []) ∙ e

has : (p : Place) → IsInRange p → has_sectors p ≡ true
has p h = lt-ltb 0 p.sectors h.some

has_none : (p : Place) → IsZero p → has_sectors p ≡ false
has_none p h = ap (nat_lt 0) h.sectors

-- of three tests in a row, how many pass from the first on
pub one_passes : (t u v : Bool) → t ≡ true → u ≡ false → cond t (1 + cond u (1 + cond v 1 0) 0) 0 ≡ 1
one_passes t u v h k = ap (λ b. cond b (1 + cond u (1 + cond v 1 0) 0) 0) h ∙ ap (λ b. 1 + cond b (1 + cond v 1 0) 0) k

pub two_pass : (t u v : Bool) → t ≡ true → u ≡ true → v ≡ false → cond t (1 + cond u (1 + cond v 1 0) 0) 0 ≡ 2
two_pass t u v h k l = ap (λ b. cond b (1 + cond u (1 + cond v 1 0) 0) 0) h ∙ ap (λ b. 1 + cond b (1 + cond v 1 0) 0) k ∙ ap (λ b. 1 + (1 + cond b 1 0)) l

pub three_pass : (t u v : Bool) → t ≡ true → u ≡ true → v ≡ true → cond t (1 + cond u (1 + cond v 1 0) 0) 0 ≡ 3
three_pass t u v h k l = ap (λ b. cond b (1 + cond u (1 + cond v 1 0) 0) 0) h ∙ ap (λ b. 1 + cond b (1 + cond v 1 0) 0) k ∙ ap (λ b. 1 + (1 + cond b 1 0)) l

-- the places that have sectors are those that are counted
pub one_has : (p q r : Place) → IsInRange p → IsZero q → length (take_while has_sectors (p ∷ q ∷ r ∷ [])) ≡ 1
one_has p q r at_p at_q = length-sectors p q r 1 (one_passes (has_sectors p) (has_sectors q) (has_sectors r) (has p at_p) (has_none q at_q))

pub two_have : (p q r : Place) → IsInRange p → IsInRange q → IsZero r → length (take_while has_sectors (p ∷ q ∷ r ∷ [])) ≡ 2
two_have p q r at_p at_q at_r = length-sectors p q r 2 (two_pass (has_sectors p) (has_sectors q) (has_sectors r) (has p at_p) (has q at_q) (has_none r at_r))

pub three_have : (p q r : Place) → IsInRange p → IsInRange q → IsInRange r → length (take_while has_sectors (p ∷ q ∷ r ∷ [])) ≡ 3
three_have p q r at_p at_q at_r = length-sectors p q r 3 (three_pass (has_sectors p) (has_sectors q) (has_sectors r) (has p at_p) (has q at_q) (has r at_r))

-- ---- the fields of sixteen words

-- the pointer of these fields
abbrev pub bp_with : ℕ → Place → Place → Place → Bool → ℕ → SumKind → ℕ → ℕ → ℕ → ℕ → ℕ → Bp
bp_with count p q r gang size sum birth a b c d = record {
  count = count;
  places = p ∷ q ∷ r ∷ [];
  gang = gang;
  size = size;
  sum = sum;
  birth = birth;
  words = a ∷ b ∷ c ∷ d ∷ [];
}

-- its words: two for each place, the properties, three of 0, the birth, the fill, and the checksum
abbrev pub sixteen : ℕ → ℕ → ℕ → ℕ → ℕ → ℕ → ℕ → ℕ → ℕ → ℕ → ℕ → ℕ → List ℕ
sixteen u0 v0 u1 v1 u2 v2 props birth a b c d =
    u0 ∷ v0 ∷ u1 ∷ v1 ∷ u2 ∷ v2 ∷ props ∷ 0 ∷ 0 ∷ 0 ∷ birth ∷ 1 ∷ a ∷ b ∷ c ∷ d ∷ []

-- bytes with these sixteen words have the fields that the words hold
fields-words : (bytes : List ℕ) (count : ℕ) (p q r : Place) (gang : Bool) (size : ℕ) (sum : SumKind) (birth a b c d : ℕ) (u0 v0 u1 v1 u2 v2 : ℕ)
    → ((i : ℕ) → i < 16 → word_of bytes i ≡ get_or (sixteen u0 v0 u1 v1 u2 v2 (properties_of size sum) birth a b c d) i 0)
    → PlaceWords p u0 v0 → PlaceWords q u1 v1 → PlaceWords r u2 v2
    → length (take_while has_sectors (p ∷ q ∷ r ∷ [])) ≡ count → (v0 / 2 ^ 63 == 1) ≡ gang → IsSize size
    → fields bytes ≡ bp_with count p q r gang size sum birth a b c d
fields-words bytes count p q r gang size sum birth a b c d u0 v0 u1 v1 u2 v2 at at_p at_q at_r counted gang_is size_ok =
    let p_is = place_field-words bytes 0 p u0 v0 at_p (at 0 (omega arith)) (at 1 (omega arith)) in
    let q_is = place_field-words bytes 1 q u1 v1 at_q (at 2 (omega arith)) (at 3 (omega arith)) in
    let r_is = place_field-words bytes 2 r u2 v2 at_r (at 4 (omega arith)) (at 5 (omega arith)) in
    let places : place_fields bytes ≡ p ∷ q ∷ r ∷ [] = λ j. p_is j ∷ q_is j ∷ r_is j ∷ [] in
    let count_is = ap (λ ps. length (take_while has_sectors ps)) places ∙ counted in
    let gang_reads = ap (λ n. n / 2 ^ 63 == 1) (at 1 (omega arith)) ∙ gang_is in
    let props = at 6 (omega arith) in
    let size_is = ap (λ n. (n % 2 ^ 16 + 1) * 512) props ∙ size_read size sum size_ok in
    let sum_is = ap (λ n. sum_of_number (n / 2 ^ 40 % 2 ^ 8)) props ∙ sum_read size sum size_ok in
    let birth_is = at 10 (omega arith) in
    let a_is = at 12 (omega arith) in
    let b_is = at 13 (omega arith) in
    let c_is = at 14 (omega arith) in
    let d_is = at 15 (omega arith) in
    λ j. record {
      count = count_is j;
      places = places j;
      gang = gang_reads j;
      size = size_is j;
      sum = sum_is j;
      birth = birth_is j;
      words = a_is j ∷ b_is j ∷ c_is j ∷ d_is j ∷ [];
    }

-- ---- a spelling as sixteen words

-- two words of a place fit, and so do those behind them
place_fits : (p : Place) (u v : ℕ) (ws : List ℕ) → PlaceWords p u v → AllFit ws → AllFit (u ∷ v ∷ ws)
place_fits p u v ws h rest = (h.first_fits, (h.second_fits, rest))

-- all sixteen words fit
pub sixteen-fit : (p q r : Place) (size : ℕ) (sum : SumKind) (birth a b c d : ℕ) (u0 v0 u1 v1 u2 v2 : ℕ)
    → PlaceWords p u0 v0 → PlaceWords q u1 v1 → PlaceWords r u2 v2
    → IsSize size → birth < 2 ^ 64 → AllFit (a ∷ b ∷ c ∷ d ∷ [])
    → AllFit (sixteen u0 v0 u1 v1 u2 v2 (properties_of size sum) birth a b c d)
sixteen-fit p q r size sum birth a b c d u0 v0 u1 v1 u2 v2 at_p at_q at_r size_ok birth_fits words_fit =
    let zero_fits : 0 < 2 ^ 64 = omega arith in
    let one_fits : 1 < 2 ^ 64 = omega arith in
    let props = properties_of size sum in
    let props_fit = properties-fit size sum size_ok in
    let rest : AllFit (props ∷ 0 ∷ 0 ∷ 0 ∷ birth ∷ 1 ∷ a ∷ b ∷ c ∷ d ∷ []) = (props_fit, (zero_fits, (zero_fits, (zero_fits, (birth_fits, (one_fits, words_fit)))))) in
    let third = place_fits r u2 v2 (props ∷ 0 ∷ 0 ∷ 0 ∷ birth ∷ 1 ∷ a ∷ b ∷ c ∷ d ∷ []) at_r rest in
    let second = place_fits q u1 v1 (u2 ∷ v2 ∷ props ∷ 0 ∷ 0 ∷ 0 ∷ birth ∷ 1 ∷ a ∷ b ∷ c ∷ d ∷ []) at_q third in
    place_fits p u0 v0 (u1 ∷ v1 ∷ u2 ∷ v2 ∷ props ∷ 0 ∷ 0 ∷ 0 ∷ birth ∷ 1 ∷ a ∷ b ∷ c ∷ d ∷ []) at_p second

-- the fields of bytes that are these sixteen words
fields-sixteen : (count : ℕ) (p q r : Place) (gang : Bool) (size : ℕ) (sum : SumKind) (birth a b c d : ℕ) (u0 v0 u1 v1 u2 v2 : ℕ)
    → PlaceWords p u0 v0 → PlaceWords q u1 v1 → PlaceWords r u2 v2
    → length (take_while has_sectors (p ∷ q ∷ r ∷ [])) ≡ count → (v0 / 2 ^ 63 == 1) ≡ gang → IsSize size
    → birth < 2 ^ 64 → AllFit (a ∷ b ∷ c ∷ d ∷ [])
    → fields (flat_map word (sixteen u0 v0 u1 v1 u2 v2 (properties_of size sum) birth a b c d)) ≡ bp_with count p q r gang size sum birth a b c d
fields-sixteen count p q r gang size sum birth a b c d u0 v0 u1 v1 u2 v2 at_p at_q at_r counted gang_is size_ok birth_fits words_fit =
    let ws = sixteen u0 v0 u1 v1 u2 v2 (properties_of size sum) birth a b c d in
    fields-words (flat_map word ws) count p q r gang size sum birth a b c d u0 v0 u1 v1 u2 v2 (words_read ws (sixteen-fit p q r size sum birth a b c d u0 v0 u1 v1 u2 v2 at_p at_q at_r size_ok birth_fits words_fit)) at_p at_q at_r counted gang_is size_ok

-- the words of a place in range
abbrev pub first_of : Place → ℕ
first_of p = p.sectors + p.top * 2 ^ 32

abbrev pub second_of : Bool → Place → ℕ
second_of gang p = p.sector + bit gang * 2 ^ 63

pub words_of_place : (gang : Bool) (p : Place) → IsInRange p → PlaceWords p (first_of p) (second_of gang p)
words_of_place gang p h = PlaceWords-present gang p h.sectors h.top h.sector

pub words_of_none : (p : Place) → IsZero p → PlaceWords p 0 0
words_of_none p h = PlaceWords-absent p h.sectors h.top h.sector

-- a pointer with one place is spelled by these words
pub spelling-one : (p q r : Place) (gang : Bool) (size : ℕ) (sum : SumKind) (birth a b c d : ℕ)
    → spelling (bp_with 1 p q r gang size sum birth a b c d)
    ≡ flat_map word (sixteen (first_of p) (second_of gang p) 0 0 0 0 (properties_of size sum) birth a b c d)
spelling-one p q r gang size sum birth a b c d = refl

-- with two places
pub spelling-two : (p q r : Place) (gang : Bool) (size : ℕ) (sum : SumKind) (birth a b c d : ℕ)
    → spelling (bp_with 2 p q r gang size sum birth a b c d)
    ≡ flat_map word (sixteen (first_of p) (second_of gang p) (first_of q) (second_of gang q) 0 0 (properties_of size sum) birth a b c d)
spelling-two p q r gang size sum birth a b c d = refl

-- with three places
pub spelling-three : (p q r : Place) (gang : Bool) (size : ℕ) (sum : SumKind) (birth a b c d : ℕ)
    → spelling (bp_with 3 p q r gang size sum birth a b c d)
    ≡ flat_map word (sixteen (first_of p) (second_of gang p) (first_of q) (second_of gang q) (first_of r) (second_of gang r) (properties_of size sum) birth a b c d)
spelling-three p q r gang size sum birth a b c d = refl

-- ---- a valid pointer is what its spelling says

-- The bytes that spell the pointer hold its fields, and are 128.
record IsReadBack (bp : Bp) : Type 0 where
  pub again : fields (spelling bp) ≡ bp
  pub long : length (spelling bp) ≡ 128

read_one : (p q r : Place) (gang : Bool) (size : ℕ) (sum : SumKind) (birth a b c d : ℕ)
    → ValidParts (bp_with 1 p q r gang size sum birth a b c d)
    → birth < 2 ^ 64 → AllFit (a ∷ b ∷ c ∷ d ∷ [])
    → IsReadBack (bp_with 1 p q r gang size sum birth a b c d)
read_one p q r gang size sum birth a b c d ok birth_fits words_fit =
    let bp = bp_with 1 p q r gang size sum birth a b c d in
    let present = and_parts (is_present bp p) true ok.present in
    let absent = and_parts (is_absent q) (is_absent r && true) ok.absent in
    let at_p = IsInRange-from bp p ok.size present.0 in
    let at_q = IsZero-from q absent.0 in
    let at_r = IsZero-from r (and_parts (is_absent r) true absent.1).0 in
    let again = fields-sixteen 1 p q r gang size sum birth a b c d (first_of p) (second_of gang p) 0 0 0 0
    (words_of_place gang p at_p) (words_of_none q at_q) (words_of_none r at_r)
    (one_has p q r at_p at_q) (gang_read p.sector gang at_p.sector) ok.size birth_fits words_fit in
    record { again = ap fields (spelling-one p q r gang size sum birth a b c d) ∙ again; long = refl }

read_two : (p q r : Place) (gang : Bool) (size : ℕ) (sum : SumKind) (birth a b c d : ℕ)
    → ValidParts (bp_with 2 p q r gang size sum birth a b c d)
    → birth < 2 ^ 64 → AllFit (a ∷ b ∷ c ∷ d ∷ [])
    → IsReadBack (bp_with 2 p q r gang size sum birth a b c d)
read_two p q r gang size sum birth a b c d ok birth_fits words_fit =
    let bp = bp_with 2 p q r gang size sum birth a b c d in
    let present = and_parts (is_present bp p) (is_present bp q && true) ok.present in
    let at_p = IsInRange-from bp p ok.size present.0 in
    let at_q = IsInRange-from bp q ok.size (and_parts (is_present bp q) true present.1).0 in
    let at_r = IsZero-from r (and_parts (is_absent r) true ok.absent).0 in
    let again = fields-sixteen 2 p q r gang size sum birth a b c d (first_of p) (second_of gang p) (first_of q) (second_of gang q) 0 0
    (words_of_place gang p at_p) (words_of_place gang q at_q) (words_of_none r at_r)
    (two_have p q r at_p at_q at_r) (gang_read p.sector gang at_p.sector) ok.size birth_fits words_fit in
    record { again = ap fields (spelling-two p q r gang size sum birth a b c d) ∙ again; long = refl }

read_three : (p q r : Place) (gang : Bool) (size : ℕ) (sum : SumKind) (birth a b c d : ℕ)
    → ValidParts (bp_with 3 p q r gang size sum birth a b c d)
    → birth < 2 ^ 64 → AllFit (a ∷ b ∷ c ∷ d ∷ [])
    → IsReadBack (bp_with 3 p q r gang size sum birth a b c d)
read_three p q r gang size sum birth a b c d ok birth_fits words_fit =
    let bp = bp_with 3 p q r gang size sum birth a b c d in
    let first = and_parts (is_present bp p) (is_present bp q && (is_present bp r && true)) ok.present in
    let second = and_parts (is_present bp q) (is_present bp r && true) first.1 in
    let at_p = IsInRange-from bp p ok.size first.0 in
    let at_q = IsInRange-from bp q ok.size second.0 in
    let at_r = IsInRange-from bp r ok.size (and_parts (is_present bp r) true second.1).0 in
    let again = fields-sixteen 3 p q r gang size sum birth a b c d (first_of p) (second_of gang p) (first_of q) (second_of gang q) (first_of r) (second_of gang r)
    (words_of_place gang p at_p) (words_of_place gang q at_q) (words_of_place gang r at_r)
    (three_have p q r at_p at_q at_r) (gang_read p.sector gang at_p.sector) ok.size birth_fits words_fit in
    record { again = ap fields (spelling-three p q r gang size sum birth a b c d) ∙ again; long = refl }

-- a valid pointer has one, two or three places
read-bp_with : (count : ℕ) (p q r : Place) (gang : Bool) (size : ℕ) (sum : SumKind) (birth a b c d : ℕ)
    → ValidParts (bp_with count p q r gang size sum birth a b c d)
    → birth < 2 ^ 64 → AllFit (a ∷ b ∷ c ∷ d ∷ [])
    → IsReadBack (bp_with count p q r gang size sum birth a b c d)
read-bp_with zero p q r gang size sum birth a b c d ok birth_fits words_fit = absurd (omega (arith, ok.low))
read-bp_with (suc zero) p q r gang size sum birth a b c d ok birth_fits words_fit =
    read_one p q r gang size sum birth a b c d ok birth_fits words_fit
read-bp_with (suc (suc zero)) p q r gang size sum birth a b c d ok birth_fits words_fit =
    read_two p q r gang size sum birth a b c d ok birth_fits words_fit
read-bp_with (suc (suc (suc zero))) p q r gang size sum birth a b c d ok birth_fits words_fit =
    read_three p q r gang size sum birth a b c d ok birth_fits words_fit
read-bp_with (suc (suc (suc (suc n)))) p q r gang size sum birth a b c d ok birth_fits words_fit = absurd (omega (arith, ok.high))

-- the pointer with these places and words
abbrev pub with_lists : Bp → List Place → List ℕ → Bp
with_lists bp places words = record bp { places = places; words = words }

-- its checksum has four words
read_words : (bp : Bp) (p q r : Place) (words : List ℕ) → length words ≡ 4
    → ValidParts (with_lists bp (p ∷ q ∷ r ∷ []) words)
    → bp.birth < 2 ^ 64 → AllFit words
    → IsReadBack (with_lists bp (p ∷ q ∷ r ∷ []) words)
read_words bp p q r [] l ok birth_fits words_fit = absurd (omega (arith, l))
read_words bp p q r (a ∷ []) l ok birth_fits words_fit = absurd (omega (arith, l))
read_words bp p q r (a ∷ b ∷ []) l ok birth_fits words_fit = absurd (omega (arith, l))
read_words bp p q r (a ∷ b ∷ c ∷ []) l ok birth_fits words_fit = absurd (omega (arith, l))
read_words bp p q r (a ∷ b ∷ c ∷ d ∷ []) l ok birth_fits words_fit =
    read-bp_with bp.count p q r bp.gang bp.size bp.sum bp.birth a b c d ok birth_fits words_fit
read_words bp p q r (a ∷ b ∷ c ∷ d ∷ e ∷ words) l ok birth_fits words_fit = absurd (omega (arith, l))

-- and it has room for three places
read_lists : (bp : Bp) (places : List Place) (words : List ℕ) → length places ≡ 3 → length words ≡ 4
    → ValidParts (with_lists bp places words)
    → bp.birth < 2 ^ 64 → AllFit words
    → IsReadBack (with_lists bp places words)
read_lists bp [] words k l ok birth_fits words_fit = absurd (omega (arith, k))
read_lists bp (p ∷ []) words k l ok birth_fits words_fit = absurd (omega (arith, k))
read_lists bp (p ∷ q ∷ []) words k l ok birth_fits words_fit = absurd (omega (arith, k))
read_lists bp (p ∷ q ∷ r ∷ []) words k l ok birth_fits words_fit = read_words bp p q r words l ok birth_fits words_fit
read_lists bp (p ∷ q ∷ r ∷ s ∷ places) words k l ok birth_fits words_fit = absurd (omega (arith, k))

-- so each valid pointer is read back
read : (bp : Bp) → FitsTypes bp → IsTrue (valid bp) → IsReadBack bp
read bp types h = read_lists bp bp.places bp.words types.places types.words (valid_parts bp h) types.birth types.each_word

-- ---- the laws

-- the bytes that spell a valid pointer are 128
pub length-spelling : (bp : Bp) → FitsTypes bp → IsTrue (valid bp) → length (spelling bp) ≡ 128
length-spelling bp types h = (read bp types h).long

-- a valid pointer's spelling spells it
spells_itself : (bp : Bp) → IsTrue (valid bp) → IsTrue (spells bp (spelling bp))
spells_itself bp h = and_from (valid bp) (bytes_eq (spelling bp) (spelling bp)) h ((bytes_eq-Decides (spelling bp) (spelling bp)).1 refl)

-- a valid pointer is read back from its spelling
pub pointer_of-spelling : (bp : Bp) → FitsTypes bp → IsTrue (valid bp) → pointer_of (spelling bp) ≡ Some bp
pointer_of-spelling bp types h =
    let again = (read bp types h).again in
    let passed = ap (λ x. spells x (spelling bp)) again ∙ spells_itself bp h in
    ap (λ t. then_some t (fields (spelling bp))) passed ∙ ap Some again

-- one list of bytes spells one pointer
pub one_pointer : (bytes : List ℕ) (a b : Bp) → Spells bytes a → Spells bytes b → a ≡ b
one_pointer bytes a b at_a at_b =
    let same = sym at_a.spelled ∙ at_b.spelled in
    sym (read a at_a.types at_a.valid).again ∙ ap fields same ∙ (read b at_b.types at_b.valid).again

then_some-Some : (t : Bool) (x y : Bp) → then_some t x ≡ Some y → IsTrue t × (x ≡ y)
then_some-Some true x y e = (refl, same_Some x y e)
then_some-Some false x y e = absurd (none-some y e)

-- the fields of bytes that spell a pointer are that pointer's
pub fields-pointer : (bytes : List ℕ) (bp : Bp) → pointer_of bytes ≡ Some bp → fields bytes ≡ bp
fields-pointer bytes bp e = (then_some-Some (spells (fields bytes) bytes) (fields bytes) bp e).1

-- a pointer that is read from bytes is valid, and they are its spelling
pub spelling-pointer : (bytes : List ℕ) (bp : Bp) → pointer_of bytes ≡ Some bp → IsTrue (valid bp) × (spelling bp ≡ bytes)
spelling-pointer bytes bp e =
    let both = then_some-Some (spells (fields bytes) bytes) (fields bytes) bp e in
    let passed = ap (λ x. spells x bytes) (sym both.1) ∙ both.0 in
    let parts = and_parts (valid bp) (bytes_eq (spelling bp) bytes) passed in
    (parts.0, (bytes_eq-Decides (spelling bp) bytes).0 parts.1)

-- a pointer that is read from bytes fits the types of its fields
pub FitsTypes-pointer : (bytes : List ℕ) (bp : Bp) → ((i : ℕ) → get_or bytes i 0 < 2 ^ 8) → pointer_of bytes ≡ Some bp → FitsTypes bp
FitsTypes-pointer bytes bp small e =
    let fit : FitsTypes (fields bytes) = record {
      places = refl;
      birth = word_of-fits bytes 10 small;
      words = refl;
      each_word = (word_of-fits bytes 12 small, (word_of-fits bytes 13 small, (word_of-fits bytes 14 small, (word_of-fits bytes 15 small, tt))));
    } in
    subst FitsTypes (fields-pointer bytes bp e) fit
