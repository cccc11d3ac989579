-- Bytes that spell a pointer have no fault, so bytes have a fault exactly where they spell none.
use Rattle.std.proofs.Common.{◌≡◌, ℕ, zero, suc, ◌+◌, ◌-◌, ◌*◌, ◌/◌, ◌^◌, ◌<◌, ◌≤◌, List, [], ◌∷◌, length, drop, get_or, Bool, true, false, not, ◌&&◌, ◌||◌, ◌==◌, cond, nat_lt, nat_le, IsTrue, Option, Some, None, IsSome, is_some, ◌↔◌, ◌⊎◌, inl, inr, ⊎_elim, refl, ap, sym, ◌∙◌, subst, arith, eq-eqb, lt-ltb, leb-true}
use Rattle.std.proofs.lemmas.Bool.{and_parts, and_from, le-leb}
use Rattle.std.proofs.lemmas.Option.{none-some}
use Rattle.std.specs.List.{flat_map, list_all}
use Rattle.zio_types.specs.declared.place.Place.{Place}
use Rattle.zio_blkptr.specs.declared.pointer.Bp.{Bp}
use Rattle.zio_blkptr.specs.declared.pointer.SumKind.{SumKind}
use Rattle.zio_blkptr.specs.declared.pointer.SumKind.TheVariants.{Off, Fletcher4, Sha256}
use Rattle.zio_blkptr.specs.declared.pointer.BpFault.{BpFault}
use Rattle.zio_blkptr.specs.declared.pointer.TheConstants.{BLOCK_SIZE_MAX, SECTOR_END, TOP_END}
use Rattle.zio_blkptr.specs.Pointers.{valid, places_of, is_absent, is_present, is_block_size, is_rounding_of, sectors_stored, word, word_of, fields, spelling, pointer_of, sum_number}
use Rattle.zio_blkptr.specs.Faults.{logical_size, physical_size, byte_order, place_sectors, gang_bit, sectors_at, is_place_of, is_no_place, has_fixed_properties, are_fixed_words, has_fitting_size, is_sum_number, first_fault}
use Rattle.zio_blkptr.proofs.Words.{AllFit, words_read}
use Rattle.zio_blkptr.proofs.Fields.{PlaceWords, IsSize, properties_of, few_sectors, sum_small, size_again, bit_is_one}
use Rattle.zio_blkptr.proofs.FaultParts.{PropertyParts, parts_read, fixed_pass, sectors_read, gang_read_back, is_place_of-words}
use Rattle.zio_blkptr.proofs.PointerLemmas.{ValidParts, valid_parts, IsInRange, IsInRange-from, IsZero-from, bp_with, sixteen, sixteen-fit, first_of, second_of, words_of_place, words_of_none, spelling-one, spelling-two, spelling-three, spelling-pointer, fields-pointer, FitsTypes-pointer}
use Rattle.zio_blkptr.proofs.FaultTests.{holds_sectors, is_good, in_front, all_good, Passes, first_of_four}
use Rattle.zio_blkptr.proofs.Faultless.{place_at, pointer_of-no_fault}

-- ---- bytes that spell a pointer have no fault

-- words that pass the tests leave no fault
no_fault_words : (bytes : List ℕ) (u0 v0 u1 v1 u2 v2 w birth : ℕ) (rest : List ℕ)
    → ((i : ℕ) → i < 16 → word_of bytes i ≡ get_or (u0 ∷ v0 ∷ u1 ∷ v1 ∷ u2 ∷ v2 ∷ w ∷ 0 ∷ 0 ∷ 0 ∷ birth ∷ 1 ∷ rest) i 0)
    → Passes u0 v0 u1 v1 u2 v2 w birth → first_fault bytes ≡ None
no_fault_words bytes u0 v0 u1 v1 u2 v2 w birth rest at h =
    let e0 = at 0 (omega arith) in
    let e1 = at 1 (omega arith) in
    let e2 = at 2 (omega arith) in
    let e3 = at 3 (omega arith) in
    let e4 = at 4 (omega arith) in
    let e5 = at 5 (omega arith) in
    let e6 = at 6 (omega arith) in
    let e7 = at 7 (omega arith) in
    let e8 = at 8 (omega arith) in
    let e9 = at 9 (omega arith) in
    let e10 = at 10 (omega arith) in
    let e11 = at 11 (omega arith) in
    let order : (byte_order w == 0) ≡ false = ap (λ n. n == 0) h.order in
    let born = and_from (nat_lt 0 birth) true (lt-ltb 0 birth h.born) refl in
    let field : not (has_fixed_properties w && are_fixed_words 0 0 0 birth 1) ≡ false =
    ap not (and_from (has_fixed_properties w) (are_fixed_words 0 0 0 birth 1) (fixed_pass w h.fixed) born) in
    let size : not (has_fitting_size w) ≡ false =
    ap not (and_from (logical_size w == physical_size w) (nat_le ((logical_size w + 1) * 512) BLOCK_SIZE_MAX) (eq-eqb (logical_size w) (physical_size w) h.same) (le-leb ((logical_size w + 1) * 512) BLOCK_SIZE_MAX h.small)) in
    let g0 = is_good (sectors_at v0 w) (gang_bit v0) u0 v0 in
    let g1 = is_good (sectors_at v1 w) (gang_bit v0) u1 v1 in
    let g2 = is_good (sectors_at v2 w) (gang_bit v0) u2 v2 in
    let goods = and_from (g0 && g1) g2 (and_from g0 g1 h.first h.second) h.third in
    let dva : not (in_front u0 u1 u2 && all_good u0 v0 u1 v1 u2 v2 w) ≡ false =
    ap not (and_from (in_front u0 u1 u2) (all_good u0 v0 u1 v1 u2 v2 w) h.front goods) in
    (λ j. first_of_four (byte_order (e6 j) == 0)
    (not (has_fixed_properties (e6 j) && are_fixed_words (e7 j) (e8 j) (e9 j) (e10 j) (e11 j)))
    (not (has_fitting_size (e6 j)))
    (not (in_front (e0 j) (e2 j) (e4 j) && all_good (e0 j) (e1 j) (e2 j) (e3 j) (e4 j) (e5 j) (e6 j))))
    ∙ (λ j. first_of_four (order j) (field j) (size j) (dva j))

number_known : (sum : SumKind) → IsTrue (is_sum_number (sum_number sum))
number_known Off = refl
number_known Fletcher4 = refl
number_known Sha256 = refl

-- the words of a pointer's fields pass, where those of its places do
passes_by : (u0 v0 u1 v1 u2 v2 size birth : ℕ) (sum : SumKind) → IsSize size → 0 < birth → IsTrue (in_front u0 u1 u2)
    → IsTrue (is_good (sectors_at v0 (properties_of size sum)) (gang_bit v0) u0 v0)
    → IsTrue (is_good (sectors_at v1 (properties_of size sum)) (gang_bit v0) u1 v1)
    → IsTrue (is_good (sectors_at v2 (properties_of size sum)) (gang_bit v0) u2 v2)
    → Passes u0 v0 u1 v1 u2 v2 (properties_of size sum) birth
passes_by u0 v0 u1 v1 u2 v2 size birth sum ok born front first second third =
    let parts : PropertyParts (properties_of size sum) (size / 512 - 1) (sum_number sum) =
    parts_read (size / 512 - 1) (sum_number sum) (few_sectors size ok) (sum_small sum) in
    let n : ℕ = size / 512 - 1 in
    let whole : (n + 1) * 512 ≡ size = size_again size ok in
    record {
      order = parts.order;
      fixed = record {
        compressed = parts.compressed;
        embeds = parts.embeds;
        sum = ap is_sum_number parts.sum ∙ number_known sum;
        content = parts.content;
        levels = parts.levels;
        encrypts = parts.encrypts;
        dedups = parts.dedups;
      };
      same = parts.logical ∙ sym parts.physical;
      small = subst (λ k. k ≤ BLOCK_SIZE_MAX) (sym (ap (λ k. (k + 1) * 512) parts.logical ∙ whole)) ok.high;
      born = born;
      front = front;
      first = first;
      second = second;
      third = third;
    }

holds_sectors-first : (gang : Bool) (p : Place) → IsInRange p → holds_sectors (first_of p) ≡ true
holds_sectors-first gang p h = let e = sectors_read gang p h in lt-ltb 0 (place_sectors (first_of p)) (subst (λ n. 0 < n) (sym e) h.some)

-- a place's second word says as many stored sectors as the pointer
stored_is : (gang : Bool) (p : Place) (size : ℕ) (sum : SumKind) → IsInRange p → IsSize size
    → sectors_at (second_of gang p) (properties_of size sum) ≡ cond gang 1 (size / 512)
stored_is gang p size sum h ok =
    let parts : PropertyParts (properties_of size sum) (size / 512 - 1) (sum_number sum) =
    parts_read (size / 512 - 1) (sum_number sum) (few_sectors size ok) (sum_small sum) in
    let is_gang = ap (λ b. b == 1) (gang_read_back gang p h) ∙ bit_is_one gang in
    let low : 512 ≤ size = ok.low in
    let back : size / 512 - 1 + 1 ≡ size / 512 = omega arith in
    let sectors = ap (λ n. n + 1) parts.logical ∙ back in
    λ j. cond (is_gang j) 1 (sectors j)

-- the words of a counted place are good beside the first
good_by : (gang : Bool) (first p : Place) (size : ℕ) (sum : SumKind) → IsInRange first → IsInRange p → IsSize size
    → IsTrue (is_rounding_of p.sectors (cond gang 1 (size / 512)))
    → IsTrue (is_good (sectors_at (second_of gang p) (properties_of size sum)) (gang_bit (second_of gang first)) (first_of p) (second_of gang p))
good_by gang first p size sum h0 h ok counted =
    let stored = sectors_at (second_of gang p) (properties_of size sum) in
    let b = gang_bit (second_of gang first) in
    let is = sym (stored_is gang p size sum h ok) in
    ap (λ t. cond t (is_place_of stored b (first_of p) (second_of gang p)) (is_no_place (first_of p) (second_of gang p))) (holds_sectors-first gang p h)
    ∙ is_place_of-words gang p stored b h (subst (λ n. IsTrue (is_rounding_of p.sectors n)) is counted) (sym (gang_read_back gang first h0))

counted_is : (bp : Bp) (p : Place) → IsTrue (is_present bp p) → IsTrue (is_rounding_of p.sectors (sectors_stored bp))
counted_is bp p h =
    let rounded = is_rounding_of p.sectors (sectors_stored bp) in
    let two = and_parts (rounded && nat_lt p.top TOP_END) (nat_lt p.sector SECTOR_END) h in
    (and_parts rounded (nat_lt p.top TOP_END) two.0).0

-- bytes that are these words have no fault where the words pass
sixteen_no_fault : (bytes : List ℕ) (p q r : Place) (size : ℕ) (sum : SumKind) (birth a b c d u0 v0 u1 v1 u2 v2 : ℕ)
    → bytes ≡ flat_map word (sixteen u0 v0 u1 v1 u2 v2 (properties_of size sum) birth a b c d)
    → PlaceWords p u0 v0 → PlaceWords q u1 v1 → PlaceWords r u2 v2 → IsSize size → birth < 2 ^ 64 → AllFit (a ∷ b ∷ c ∷ d ∷ [])
    → Passes u0 v0 u1 v1 u2 v2 (properties_of size sum) birth → first_fault bytes ≡ None
sixteen_no_fault bytes p q r size sum birth a b c d u0 v0 u1 v1 u2 v2 e at_p at_q at_r ok birth_fits words_fit h =
    let ws = sixteen u0 v0 u1 v1 u2 v2 (properties_of size sum) birth a b c d in
    let fit = sixteen-fit p q r size sum birth a b c d u0 v0 u1 v1 u2 v2 at_p at_q at_r ok birth_fits words_fit in
    no_fault_words bytes u0 v0 u1 v1 u2 v2 (properties_of size sum) birth (a ∷ b ∷ c ∷ d ∷ [])
    (λ i lt. ap (λ xs. word_of xs i) e ∙ words_read ws fit i lt) h

no_fault-bp_with : (bytes : List ℕ) (count : ℕ) (p q r : Place) (gang : Bool) (size : ℕ) (sum : SumKind) (birth a b c d : ℕ)
    → ValidParts (bp_with count p q r gang size sum birth a b c d) → 0 < birth → birth < 2 ^ 64 → AllFit (a ∷ b ∷ c ∷ d ∷ [])
    → bytes ≡ spelling (bp_with count p q r gang size sum birth a b c d) → first_fault bytes ≡ None
no_fault-bp_with bytes zero p q r gang size sum birth a b c d ok born birth_fits words_fit e = absurd (omega (arith, ok.low))
no_fault-bp_with bytes (suc zero) p q r gang size sum birth a b c d ok born birth_fits words_fit e =
    let bp = bp_with 1 p q r gang size sum birth a b c d in
    let present = and_parts (is_present bp p) true ok.present in
    let absent = and_parts (is_absent q) (is_absent r && true) ok.absent in
    let at_p = IsInRange-from bp p ok.size present.0 in
    let at_q = IsZero-from q absent.0 in
    let at_r = IsZero-from r (and_parts (is_absent r) true absent.1).0 in
    let t0 = holds_sectors-first gang p at_p in
    sixteen_no_fault bytes p q r size sum birth a b c d (first_of p) (second_of gang p) 0 0 0 0
    (e ∙ spelling-one p q r gang size sum birth a b c d)
    (words_of_place gang p at_p) (words_of_none q at_q) (words_of_none r at_r) ok.size birth_fits words_fit
    (passes_by (first_of p) (second_of gang p) 0 0 0 0 size birth sum ok.size born (and_from (holds_sectors (first_of p)) true t0 refl)
    (good_by gang p p size sum at_p at_p ok.size (counted_is bp p present.0)) refl refl)
no_fault-bp_with bytes (suc (suc zero)) p q r gang size sum birth a b c d ok born birth_fits words_fit e =
    let bp = bp_with 2 p q r gang size sum birth a b c d in
    let present = and_parts (is_present bp p) (is_present bp q && true) ok.present in
    let second = (and_parts (is_present bp q) true present.1).0 in
    let at_p = IsInRange-from bp p ok.size present.0 in
    let at_q = IsInRange-from bp q ok.size second in
    let at_r = IsZero-from r (and_parts (is_absent r) true ok.absent).0 in
    let t0 = holds_sectors-first gang p at_p in
    let t1 = holds_sectors-first gang q at_q in
    sixteen_no_fault bytes p q r size sum birth a b c d (first_of p) (second_of gang p) (first_of q) (second_of gang q) 0 0
    (e ∙ spelling-two p q r gang size sum birth a b c d)
    (words_of_place gang p at_p) (words_of_place gang q at_q) (words_of_none r at_r) ok.size birth_fits words_fit
    (passes_by (first_of p) (second_of gang p) (first_of q) (second_of gang q) 0 0 size birth sum ok.size born
    (and_from (holds_sectors (first_of p)) (holds_sectors (first_of q) || true) t0 (ap (λ t. t || true) t1))
    (good_by gang p p size sum at_p at_p ok.size (counted_is bp p present.0))
    (good_by gang p q size sum at_p at_q ok.size (counted_is bp q second)) refl)
no_fault-bp_with bytes (suc (suc (suc zero))) p q r gang size sum birth a b c d ok born birth_fits words_fit e =
    let bp = bp_with 3 p q r gang size sum birth a b c d in
    let present = and_parts (is_present bp p) (is_present bp q && (is_present bp r && true)) ok.present in
    let others = and_parts (is_present bp q) (is_present bp r && true) present.1 in
    let third = (and_parts (is_present bp r) true others.1).0 in
    let at_p = IsInRange-from bp p ok.size present.0 in
    let at_q = IsInRange-from bp q ok.size others.0 in
    let at_r = IsInRange-from bp r ok.size third in
    let t0 = holds_sectors-first gang p at_p in
    let t1 = holds_sectors-first gang q at_q in
    sixteen_no_fault bytes p q r size sum birth a b c d (first_of p) (second_of gang p) (first_of q) (second_of gang q) (first_of r) (second_of gang r)
    (e ∙ spelling-three p q r gang size sum birth a b c d)
    (words_of_place gang p at_p) (words_of_place gang q at_q) (words_of_place gang r at_r) ok.size birth_fits words_fit
    (passes_by (first_of p) (second_of gang p) (first_of q) (second_of gang q) (first_of r) (second_of gang r) size birth sum ok.size born
    (and_from (holds_sectors (first_of p)) (holds_sectors (first_of q) || not (holds_sectors (first_of r))) t0 (ap (λ t. t || not (holds_sectors (first_of r))) t1))
    (good_by gang p p size sum at_p at_p ok.size (counted_is bp p present.0))
    (good_by gang p q size sum at_p at_q ok.size (counted_is bp q others.0))
    (good_by gang p r size sum at_p at_r ok.size (counted_is bp r third)))
no_fault-bp_with bytes (suc (suc (suc (suc n)))) p q r gang size sum birth a b c d ok born birth_fits words_fit e = absurd (omega (arith, ok.high))

born_from : (bp : Bp) → IsTrue (valid bp) → 0 < bp.birth
born_from bp h =
    let last = and_parts (nat_le 1 bp.count && nat_le bp.count 3 && list_all (is_present bp) (places_of bp) && list_all is_absent (drop bp.count bp.places) && is_block_size bp.size) (nat_le 1 bp.birth) h in
    leb-true 1 bp.birth last.1

-- bytes that spell a pointer have no fault
pub no_fault-pointer_of : (bytes : List ℕ) (bp : Bp) → ((i : ℕ) → get_or bytes i 0 < 2 ^ 8) → pointer_of bytes ≡ Some bp → first_fault bytes ≡ None
no_fault-pointer_of bytes bp small e =
    let again = fields-pointer bytes bp e in
    let is = e ∙ ap Some (sym again) in
    let spelled = spelling-pointer bytes (fields bytes) is in
    let types = FitsTypes-pointer bytes (fields bytes) small is in
    let found = fields bytes in
    let p = place_at (word_of bytes 0) (word_of bytes 1) in
    let q = place_at (word_of bytes 2) (word_of bytes 3) in
    let r = place_at (word_of bytes 4) (word_of bytes 5) in
    no_fault-bp_with bytes found.count p q r found.gang found.size found.sum (word_of bytes 10) (word_of bytes 12) (word_of bytes 13) (word_of bytes 14) (word_of bytes 15)
    (valid_parts found spelled.0) (born_from found spelled.0) types.birth types.each_word (sym spelled.1)

some_from : (o : Option Bp) → IsSome o → (bp : Bp) × (o ≡ Some bp)
some_from None h = cc
some_from (Some bp) h = (bp, refl)

some_or_none : (o : Option Bp) → ((bp : Bp) × (o ≡ Some bp)) ⊎ (o ≡ None)
some_or_none None = inr refl
some_or_none (Some bp) = inl (bp, refl)

-- bytes with a fault spell no pointer
pub pointer_of-fault : (bytes : List ℕ) (fault : BpFault) → ((i : ℕ) → get_or bytes i 0 < 2 ^ 8) → first_fault bytes ≡ Some fault → pointer_of bytes ≡ None
pointer_of-fault bytes fault small e =
    ⊎_elim (λ w. absurd (none-some fault (sym (no_fault-pointer_of bytes w.0 small w.1) ∙ e))) (λ none. none) (some_or_none (pointer_of bytes))

-- bytes spell a pointer exactly where they have no fault
pub no_fault_law : (bytes : List ℕ) → length bytes ≡ 128 → ((i : ℕ) → get_or bytes i 0 < 2 ^ 8)
    → (first_fault bytes ≡ None) ↔ IsSome (pointer_of bytes)
no_fault_law bytes long small = (
  λ none. ap is_some (pointer_of-no_fault bytes long small none),
  λ some. let w = some_from (pointer_of bytes) some in no_fault-pointer_of bytes w.0 small w.1,
)
