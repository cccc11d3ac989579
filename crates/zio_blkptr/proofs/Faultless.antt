-- Bytes without a fault spell the pointer that their fields hold.
use Rattle.std.proofs.Common.{◌≡◌, ℕ, zero, suc, ◌+◌, ◌-◌, ◌*◌, ◌/◌, ◌%◌, ◌^◌, ◌<◌, ◌≤◌, List, [], ◌∷◌, length, drop, get_or, take_while, Bool, true, false, not, ◌&&◌, ◌||◌, ◌==◌, cond, nat_lt, nat_le, IsTrue, Some, None, bytes_eq, refl, ap, sym, ◌∙◌, subst, arith, eqb-true, eq-eqb, lt-ltb}
use Rattle.std.proofs.lemmas.Bool.{and_parts, and_from, le-leb}
use Rattle.std.proofs.lemmas.Slice.Eq.{bytes_eq-Decides}
use Rattle.std.specs.Bool.{then_some}
use Rattle.std.specs.List.{flat_map, list_all}
use Rattle.zio_types.specs.declared.place.Place.{Place}
use Rattle.zio_blkptr.specs.declared.pointer.Bp.{Bp}
use Rattle.zio_blkptr.specs.declared.pointer.SumKind.{SumKind}
use Rattle.zio_blkptr.specs.declared.pointer.TheConstants.{BLOCK_SIZE_MAX, SECTOR_END, TOP_END}
use Rattle.zio_blkptr.specs.Pointers.{bit, valid, places_of, is_absent, is_present, is_block_size, is_rounding_of, sectors_stored, has_sectors, word, word_of, fields, spelling, spells, pointer_of, sum_number, sum_of_number}
use Rattle.zio_blkptr.specs.Faults.{logical_size, checksum, gang_bit, sectors_at, is_place_of, is_no_place, first_fault}
use Rattle.zio_blkptr.proofs.Words.{word_of-fits, bytes_are_words}
use Rattle.zio_blkptr.proofs.Fields.{IsSize, properties_of}
use Rattle.zio_blkptr.proofs.FaultParts.{bits_low, PropertyParts, parts_make, sum_again, IsPlaceOf, IsPlaceOf-from}
use Rattle.zio_blkptr.proofs.PointerLemmas.{bp_with, second_of, length-sectors, one_passes, two_pass, three_pass, spelling-one, spelling-two, spelling-three}
use Rattle.zio_blkptr.proofs.FaultTests.{holds_sectors, is_good, Passes, passes_from}

-- ---- a place by its two words

abbrev pub place_at : ℕ → ℕ → Place
place_at u v = record { top = u / 2 ^ 32 % 2 ^ 24; sector = v % 2 ^ 63; sectors = u % 2 ^ 24 }

has_at : (u v : ℕ) (t : Bool) → holds_sectors u ≡ t → has_sectors (place_at u v) ≡ t
has_at u v t e = ap (nat_lt 0) (sym (bits_low u 24)) ∙ e

-- where one of two tests counts, that passes
cond_first : (t x y : Bool) → t ≡ true → IsTrue (cond t x y) → IsTrue x
cond_first t x y e h = sym (ap (λ b. cond b x y) e) ∙ h

cond_second : (t x y : Bool) → t ≡ false → IsTrue (cond t x y) → IsTrue y
cond_second t x y e h = sym (ap (λ b. cond b x y) e) ∙ h

IsPlaceOf-good : (sectors gang u v : ℕ) → u < 2 ^ 64 → v < 2 ^ 64 → holds_sectors u ≡ true → IsTrue (is_good sectors gang u v) → IsPlaceOf sectors gang u v
IsPlaceOf-good sectors gang u v at_u at_v e h =
    IsPlaceOf-from sectors gang u v at_u at_v (cond_first (holds_sectors u) (is_place_of sectors gang u v) (is_no_place u v) e h)

none_good : (sectors gang u v : ℕ) → holds_sectors u ≡ false → IsTrue (is_good sectors gang u v) → (u ≡ 0) × (v ≡ 0)
none_good sectors gang u v e h =
    let parts = and_parts (u == 0) (v == 0) (cond_second (holds_sectors u) (is_place_of sectors gang u v) (is_no_place u v) e h) in
    (eqb-true u 0 parts.0, eqb-true v 0 parts.1)

-- a place that stores as many sectors as the pointer says is present
present_at : (bp : Bp) (stored gang u v : ℕ) → IsPlaceOf stored gang u v → stored ≡ sectors_stored bp
    → IsTrue (is_present bp (place_at u v))
present_at bp stored gang u v h e =
    let p = place_at u v in
    let rounded = is_rounding_of p.sectors (sectors_stored bp) in
    let counted : IsTrue rounded = subst (λ n. IsTrue (is_rounding_of p.sectors n)) e h.counted in
    and_from (rounded && nat_lt p.top TOP_END) (nat_lt p.sector SECTOR_END)
    (and_from rounded (nat_lt p.top TOP_END) counted (lt-ltb p.top TOP_END (omega arith)))
    (lt-ltb p.sector SECTOR_END h.sector)

-- places with one gang bit store as much
same_stored : (v0 v w : ℕ) → gang_bit v ≡ gang_bit v0 → sectors_at v w ≡ sectors_at v0 w
same_stored v0 v w e = ap (λ b. cond (b == 1) 1 (logical_size w + 1)) e

-- two words of 0 are no place
absent_at : (u v : ℕ) → u ≡ 0 → v ≡ 0 → IsTrue (is_absent (place_at u v))
absent_at u v e f = λ j. is_absent (place_at (e j) (f j))

-- ---- the pointer that words hold

-- what the words hold, where so many places are counted
abbrev pointer_at : ℕ → ℕ → ℕ → ℕ → ℕ → ℕ → ℕ → ℕ → ℕ → ℕ → ℕ → ℕ → ℕ → Bp
pointer_at n u0 v0 u1 v1 u2 v2 w birth a b c d =
    bp_with n (place_at u0 v0) (place_at u1 v1) (place_at u2 v2) (v0 / 2 ^ 63 == 1) ((w % 2 ^ 16 + 1) * 512) (sum_of_number (w / 2 ^ 40 % 2 ^ 8)) birth a b c d

-- its words
abbrev words_at : ℕ → ℕ → ℕ → ℕ → ℕ → ℕ → ℕ → ℕ → ℕ → ℕ → ℕ → ℕ → List ℕ
words_at u0 v0 u1 v1 u2 v2 w birth a b c d = u0 ∷ v0 ∷ u1 ∷ v1 ∷ u2 ∷ v2 ∷ w ∷ 0 ∷ 0 ∷ 0 ∷ birth ∷ 1 ∷ a ∷ b ∷ c ∷ d ∷ []

-- The words hold a valid pointer with so many places, and spell it.
record IsHeld (n u0 v0 u1 v1 u2 v2 w birth a b c d : ℕ) : Type 0 where
  count : length (take_while has_sectors (place_at u0 v0 ∷ place_at u1 v1 ∷ place_at u2 v2 ∷ [])) ≡ n
  valid : IsTrue (valid (pointer_at n u0 v0 u1 v1 u2 v2 w birth a b c d))
  spelled : spelling (pointer_at n u0 v0 u1 v1 u2 v2 w birth a b c d) ≡ flat_map word (words_at u0 v0 u1 v1 u2 v2 w birth a b c d)

-- What the word of properties and the first gang bit hold.
record IsRead (v w : ℕ) : Type 0 where
  size : IsSize ((w % 2 ^ 16 + 1) * 512)
  props : properties_of ((w % 2 ^ 16 + 1) * 512) (sum_of_number (w / 2 ^ 40 % 2 ^ 8)) ≡ w
  each : sectors_at v w ≡ cond (v / 2 ^ 63 == 1) 1 ((w % 2 ^ 16 + 1) * 512 / 512)
  gang : bit (v / 2 ^ 63 == 1) ≡ gang_bit v

one_bit : (n : ℕ) → n < 2 → bit (n == 1) ≡ n
one_bit zero h = refl
one_bit (suc zero) h = refl
one_bit (suc (suc n)) h = absurd (omega arith)

-- a size in sectors less 1 and a checksum make the word of properties
props_by : (size n s : ℕ) (sum : SumKind) → size / 512 - 1 ≡ n → sum_number sum ≡ s
    → properties_of size sum ≡ n + n * 2 ^ 16 + 2 * 2 ^ 32 + s * 2 ^ 40 + 2 ^ 63
props_by size n s sum e f = λ j. e j + e j * 2 ^ 16 + 2 * 2 ^ 32 + f j * 2 ^ 40 + 2 ^ 63

read_from : (u0 v0 u1 v1 u2 v2 w birth : ℕ) → w < 2 ^ 64 → v0 < 2 ^ 64 → Passes u0 v0 u1 v1 u2 v2 w birth → IsRead v0 w
read_from u0 v0 u1 v1 u2 v2 w birth at_w at_v h =
    let n = w % 2 ^ 16 in
    let low : logical_size w ≡ n = bits_low w 16 in
    let parts : PropertyParts w n (checksum w) = record {
      logical = low;
      physical = sym h.same ∙ low;
      compressed = h.fixed.compressed;
      embeds = h.fixed.embeds;
      sum = refl;
      content = h.fixed.content;
      levels = h.fixed.levels;
      encrypts = h.fixed.encrypts;
      dedups = h.fixed.dedups;
      order = h.order;
    } in
    let small : (n + 1) * 512 ≤ BLOCK_SIZE_MAX = subst (λ k. (k + 1) * 512 ≤ BLOCK_SIZE_MAX) low h.small in
    let again : (n + 1) * 512 / 512 - 1 ≡ n = omega arith in
    let top : gang_bit v0 ≡ v0 / 2 ^ 63 = omega arith in
    let sectors : logical_size w + 1 ≡ (n + 1) * 512 / 512 = omega (arith, low) in
    let bit_fits : v0 / 2 ^ 63 < 2 = omega arith in
    record {
      size = record { whole = omega arith; low = omega arith; high = small };
      props = props_by ((n + 1) * 512) n (checksum w) (sum_of_number (checksum w)) again (sum_again (checksum w) h.fixed.sum) ∙ sym (parts_make w n (checksum w) at_w parts);
      each = λ j. cond (top j == 1) 1 (sectors j);
      gang = one_bit (v0 / 2 ^ 63) bit_fits ∙ sym top;
    }

six_from : (a b c d e f : Bool) → IsTrue a → IsTrue b → IsTrue c → IsTrue d → IsTrue e → IsTrue f → IsTrue (a && b && c && d && e && f)
six_from a b c d e f at_a at_b at_c at_d at_e at_f =
    and_from (a && b && c && d && e) f
    (and_from (a && b && c && d) e (and_from (a && b && c) d (and_from (a && b) c (and_from a b at_a at_b) at_c) at_d) at_e) at_f

size_pass : (size : ℕ) → IsSize size → IsTrue (is_block_size size)
size_pass size h =
    and_from (size % 512 == 0 && nat_le 512 size) (nat_le size BLOCK_SIZE_MAX)
    (and_from (size % 512 == 0) (nat_le 512 size) (eq-eqb (size % 512) 0 h.whole) (le-leb 512 size h.low)) (le-leb size BLOCK_SIZE_MAX h.high)

-- a pointer with so many places is valid where each is present or absent
valid_by : (bp : Bp) → IsTrue (nat_le 1 bp.count) → IsTrue (nat_le bp.count 3)
    → IsTrue (list_all (is_present bp) (places_of bp)) → IsTrue (list_all is_absent (drop bp.count bp.places))
    → IsSize bp.size → 0 < bp.birth → IsTrue (valid bp)
valid_by bp low high present absent size born =
    six_from (nat_le 1 bp.count) (nat_le bp.count 3) (list_all (is_present bp) (places_of bp)) (list_all is_absent (drop bp.count bp.places)) (is_block_size bp.size) (nat_le 1 bp.birth)
    low high present absent (size_pass bp.size size) (le-leb 1 bp.birth (omega arith))

-- a place's second word is bp_with of its sector and the pointer's gang bit
second_again : (v0 w sectors u v : ℕ) → IsRead v0 w → IsPlaceOf sectors (gang_bit v0) u v → second_of (v0 / 2 ^ 63 == 1) (place_at u v) ≡ v
second_again v0 w sectors u v r h = ap (λ b. v % 2 ^ 63 + b * 2 ^ 63) r.gang ∙ h.second

held_one : (u0 v0 u1 v1 u2 v2 w birth a b c d : ℕ) → IsRead v0 w → 0 < birth
    → holds_sectors u0 ≡ true → holds_sectors u1 ≡ false
    → IsPlaceOf (sectors_at v0 w) (gang_bit v0) u0 v0 → (u1 ≡ 0) × (v1 ≡ 0) → (u2 ≡ 0) × (v2 ≡ 0)
    → IsHeld 1 u0 v0 u1 v1 u2 v2 w birth a b c d
held_one u0 v0 u1 v1 u2 v2 w birth a b c d r born t0 t1 at_p at_q at_r =
    let p = place_at u0 v0 in
    let q = place_at u1 v1 in
    let s = place_at u2 v2 in
    let bp = pointer_at 1 u0 v0 u1 v1 u2 v2 w birth a b c d in
    let present = and_from (is_present bp p) true (present_at bp (sectors_at v0 w) (gang_bit v0) u0 v0 at_p r.each) refl in
    let absent = and_from (is_absent q) (is_absent s && true) (absent_at u1 v1 at_q.0 at_q.1) (and_from (is_absent s) true (absent_at u2 v2 at_r.0 at_r.1) refl) in
    let second = second_again v0 w (sectors_at v0 w) u0 v0 r at_p in
    record {
      count = length-sectors p q s 1 (one_passes (has_sectors p) (has_sectors q) (has_sectors s) (has_at u0 v0 true t0) (has_at u1 v1 false t1));
      valid = valid_by bp refl refl present absent r.size born;
      spelled = spelling-one p q s (v0 / 2 ^ 63 == 1) bp.size bp.sum birth a b c d
          ∙ (λ j. flat_map word (words_at (at_p.first j) (second j) (sym at_q.0 j) (sym at_q.1 j) (sym at_r.0 j) (sym at_r.1 j) (r.props j) birth a b c d));
    }

held_two : (u0 v0 u1 v1 u2 v2 w birth a b c d : ℕ) → IsRead v0 w → 0 < birth
    → holds_sectors u0 ≡ true → holds_sectors u1 ≡ true → holds_sectors u2 ≡ false
    → IsPlaceOf (sectors_at v0 w) (gang_bit v0) u0 v0 → IsPlaceOf (sectors_at v1 w) (gang_bit v0) u1 v1 → (u2 ≡ 0) × (v2 ≡ 0)
    → IsHeld 2 u0 v0 u1 v1 u2 v2 w birth a b c d
held_two u0 v0 u1 v1 u2 v2 w birth a b c d r born t0 t1 t2 at_p at_q at_r =
    let p = place_at u0 v0 in
    let q = place_at u1 v1 in
    let s = place_at u2 v2 in
    let bp = pointer_at 2 u0 v0 u1 v1 u2 v2 w birth a b c d in
    let present = and_from (is_present bp p) (is_present bp q && true) (present_at bp (sectors_at v0 w) (gang_bit v0) u0 v0 at_p r.each)
    (and_from (is_present bp q) true (present_at bp (sectors_at v1 w) (gang_bit v0) u1 v1 at_q (same_stored v0 v1 w at_q.own ∙ r.each)) refl) in
    let absent = and_from (is_absent s) true (absent_at u2 v2 at_r.0 at_r.1) refl in
    let second = second_again v0 w (sectors_at v0 w) u0 v0 r at_p in
    let fourth = second_again v0 w (sectors_at v1 w) u1 v1 r at_q in
    record {
      count = length-sectors p q s 2 (two_pass (has_sectors p) (has_sectors q) (has_sectors s) (has_at u0 v0 true t0) (has_at u1 v1 true t1) (has_at u2 v2 false t2));
      valid = valid_by bp refl refl present absent r.size born;
      spelled = spelling-two p q s (v0 / 2 ^ 63 == 1) bp.size bp.sum birth a b c d
          ∙ (λ j. flat_map word (words_at (at_p.first j) (second j) (at_q.first j) (fourth j) (sym at_r.0 j) (sym at_r.1 j) (r.props j) birth a b c d));
    }

held_three : (u0 v0 u1 v1 u2 v2 w birth a b c d : ℕ) → IsRead v0 w → 0 < birth
    → holds_sectors u0 ≡ true → holds_sectors u1 ≡ true → holds_sectors u2 ≡ true
    → IsPlaceOf (sectors_at v0 w) (gang_bit v0) u0 v0 → IsPlaceOf (sectors_at v1 w) (gang_bit v0) u1 v1 → IsPlaceOf (sectors_at v2 w) (gang_bit v0) u2 v2
    → IsHeld 3 u0 v0 u1 v1 u2 v2 w birth a b c d
held_three u0 v0 u1 v1 u2 v2 w birth a b c d r born t0 t1 t2 at_p at_q at_r =
    let p = place_at u0 v0 in
    let q = place_at u1 v1 in
    let s = place_at u2 v2 in
    let bp = pointer_at 3 u0 v0 u1 v1 u2 v2 w birth a b c d in
    let last = and_from (is_present bp s) true (present_at bp (sectors_at v2 w) (gang_bit v0) u2 v2 at_r (same_stored v0 v2 w at_r.own ∙ r.each)) refl in
    let present = and_from (is_present bp p) (is_present bp q && (is_present bp s && true)) (present_at bp (sectors_at v0 w) (gang_bit v0) u0 v0 at_p r.each)
    (and_from (is_present bp q) (is_present bp s && true) (present_at bp (sectors_at v1 w) (gang_bit v0) u1 v1 at_q (same_stored v0 v1 w at_q.own ∙ r.each)) last) in
    let second = second_again v0 w (sectors_at v0 w) u0 v0 r at_p in
    let fourth = second_again v0 w (sectors_at v1 w) u1 v1 r at_q in
    let sixth = second_again v0 w (sectors_at v2 w) u2 v2 r at_r in
    record {
      count = length-sectors p q s 3 (three_pass (has_sectors p) (has_sectors q) (has_sectors s) (has_at u0 v0 true t0) (has_at u1 v1 true t1) (has_at u2 v2 true t2));
      valid = valid_by bp refl refl present refl r.size born;
      spelled = spelling-three p q s (v0 / 2 ^ 63 == 1) bp.size bp.sum birth a b c d
          ∙ (λ j. flat_map word (words_at (at_p.first j) (second j) (at_q.first j) (fourth j) (at_r.first j) (sixth j) (r.props j) birth a b c d));
    }

-- Some number of places is held.
record Held (u0 v0 u1 v1 u2 v2 w birth a b c d : ℕ) : Type 0 where
  n : ℕ
  held : IsHeld n u0 v0 u1 v1 u2 v2 w birth a b c d

-- Six words of places fit.
record PlacesFit (u0 v0 u1 v1 u2 v2 : ℕ) : Type 0 where
  first : (u0 < 2 ^ 64) × (v0 < 2 ^ 64)
  second : (u1 < 2 ^ 64) × (v1 < 2 ^ 64)
  third : (u2 < 2 ^ 64) × (v2 < 2 ^ 64)

held_by : (t1 t2 : Bool) (u0 v0 u1 v1 u2 v2 w birth a b c d : ℕ) → IsRead v0 w → PlacesFit u0 v0 u1 v1 u2 v2
    → Passes u0 v0 u1 v1 u2 v2 w birth → holds_sectors u1 ≡ t1 → holds_sectors u2 ≡ t2 → Held u0 v0 u1 v1 u2 v2 w birth a b c d
held_by false false u0 v0 u1 v1 u2 v2 w birth a b c d r fits h e f =
    let t0 = (and_parts (holds_sectors u0) (holds_sectors u1 || not (holds_sectors u2)) h.front).0 in
    record {
      n = 1;
      held = held_one u0 v0 u1 v1 u2 v2 w birth a b c d r h.born t0 e
          (IsPlaceOf-good (sectors_at v0 w) (gang_bit v0) u0 v0 fits.first.0 fits.first.1 t0 h.first)
          (none_good (sectors_at v1 w) (gang_bit v0) u1 v1 e h.second)
          (none_good (sectors_at v2 w) (gang_bit v0) u2 v2 f h.third);
    }
held_by false true u0 v0 u1 v1 u2 v2 w birth a b c d r fits h e f =
    let front = (and_parts (holds_sectors u0) (holds_sectors u1 || not (holds_sectors u2)) h.front).1 in
    let no : false ≡ true = sym (λ j. e j || not (f j)) ∙ front in
    cc
held_by true false u0 v0 u1 v1 u2 v2 w birth a b c d r fits h e f =
    let t0 = (and_parts (holds_sectors u0) (holds_sectors u1 || not (holds_sectors u2)) h.front).0 in
    record {
      n = 2;
      held = held_two u0 v0 u1 v1 u2 v2 w birth a b c d r h.born t0 e f
          (IsPlaceOf-good (sectors_at v0 w) (gang_bit v0) u0 v0 fits.first.0 fits.first.1 t0 h.first)
          (IsPlaceOf-good (sectors_at v1 w) (gang_bit v0) u1 v1 fits.second.0 fits.second.1 e h.second)
          (none_good (sectors_at v2 w) (gang_bit v0) u2 v2 f h.third);
    }
held_by true true u0 v0 u1 v1 u2 v2 w birth a b c d r fits h e f =
    let t0 = (and_parts (holds_sectors u0) (holds_sectors u1 || not (holds_sectors u2)) h.front).0 in
    record {
      n = 3;
      held = held_three u0 v0 u1 v1 u2 v2 w birth a b c d r h.born t0 e f
          (IsPlaceOf-good (sectors_at v0 w) (gang_bit v0) u0 v0 fits.first.0 fits.first.1 t0 h.first)
          (IsPlaceOf-good (sectors_at v1 w) (gang_bit v0) u1 v1 fits.second.0 fits.second.1 e h.second)
          (IsPlaceOf-good (sectors_at v2 w) (gang_bit v0) u2 v2 fits.third.0 fits.third.1 f h.third);
    }

-- words that are held are spelled by what they hold
held_spells : (bytes : List ℕ) (u0 v0 u1 v1 u2 v2 w birth a b c d : ℕ) → Held u0 v0 u1 v1 u2 v2 w birth a b c d
    → flat_map word (words_at u0 v0 u1 v1 u2 v2 w birth a b c d) ≡ bytes
    → IsTrue (spells (pointer_at (length (take_while has_sectors (place_at u0 v0 ∷ place_at u1 v1 ∷ place_at u2 v2 ∷ []))) u0 v0 u1 v1 u2 v2 w birth a b c d) bytes)
held_spells bytes u0 v0 u1 v1 u2 v2 w birth a b c d h e =
    let bp = pointer_at h.n u0 v0 u1 v1 u2 v2 w birth a b c d in
    ap (λ n. spells (pointer_at n u0 v0 u1 v1 u2 v2 w birth a b c d) bytes) h.held.count
    ∙ and_from (valid bp) (bytes_eq (spelling bp) bytes) h.held.valid ((bytes_eq-Decides (spelling bp) bytes).1 (h.held.spelled ∙ e))

-- bytes without a fault spell the pointer of their fields
pub pointer_of-no_fault : (bytes : List ℕ) → length bytes ≡ 128 → ((i : ℕ) → get_or bytes i 0 < 2 ^ 8)
    → first_fault bytes ≡ None → pointer_of bytes ≡ Some (fields bytes)
pointer_of-no_fault bytes long small none =
    let found = passes_from bytes none in
    let at = λ (i : ℕ). word_of-fits bytes i small in
    let fits : PlacesFit (word_of bytes 0) (word_of bytes 1) (word_of bytes 2) (word_of bytes 3) (word_of bytes 4) (word_of bytes 5) =
    record { first = (at 0, at 1); second = (at 2, at 3); third = (at 4, at 5) } in
    let r = read_from (word_of bytes 0) (word_of bytes 1) (word_of bytes 2) (word_of bytes 3) (word_of bytes 4) (word_of bytes 5) (word_of bytes 6) (word_of bytes 10) (at 6) (at 1) found.0 in
    let held = held_by (holds_sectors (word_of bytes 2)) (holds_sectors (word_of bytes 4)) (word_of bytes 0) (word_of bytes 1) (word_of bytes 2) (word_of bytes 3) (word_of bytes 4) (word_of bytes 5) (word_of bytes 6)
    (word_of bytes 10) (word_of bytes 12) (word_of bytes 13) (word_of bytes 14) (word_of bytes 15) r fits found.0 refl refl in
    let fixed = found.1 in
    let same = (λ j. flat_map word (
    word_of bytes 0 ∷ word_of bytes 1 ∷ word_of bytes 2 ∷ word_of bytes 3 ∷ word_of bytes 4 ∷ word_of bytes 5 ∷ word_of bytes 6
    ∷ sym fixed.seven j ∷ sym fixed.eight j ∷ sym fixed.nine j ∷ word_of bytes 10 ∷ sym fixed.fill j
    ∷ word_of bytes 12 ∷ word_of bytes 13 ∷ word_of bytes 14 ∷ word_of bytes 15 ∷ []
    )) ∙ bytes_are_words bytes long small in
    let passed = held_spells bytes (word_of bytes 0) (word_of bytes 1) (word_of bytes 2) (word_of bytes 3) (word_of bytes 4) (word_of bytes 5) (word_of bytes 6)
    (word_of bytes 10) (word_of bytes 12) (word_of bytes 13) (word_of bytes 14) (word_of bytes 15) held same in
    ap (λ t. then_some t (fields bytes)) passed
