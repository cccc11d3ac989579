-- Bits of a word as flags.
use Rattle.std.proofs.Common.{◌≡◌, ℕ, ◌+◌, ◌-◌, ◌^◌, ◌<◌, ◌≤◌, max, List, length, replicate, sym, ap, ◌∙◌, arith, zero-add, w64, ◌/◌, ◌%◌}
use Rattle.std.specs.Prelude.{Bool, true, false, ◌==◌, ◌⊎◌, bit_and, bit_or}
use Rattle.std.specs.Int.{bit_at}
use Rattle.std.proofs.lemmas.Bool.{cases_lt}
use Rattle.std.proofs.Common.{inl, inr}
use Rattle.std.proofs.lemmas.List.{ext_get_or, get_or-replicate, length-replicate, get_or_past}
use Rattle.std.proofs.lemmas.List.FromFn.{length-map-range_with_len, get_or-map-range_with_len}
use Rattle.std.proofs.lemmas.Nat.Bits.{bit_at_ones, bit_at_or, bit_at_and, bit_at_not, bit_at-lt, bit_at_mask_inside, bit_at_mask_below, bit_at_mask_above}
use Rattle.std.proofs.lemmas.Nat.{pow_pos, pow-add}
use Rattle.std.proofs.Math.Nat.{div-div-eq-div-mul}
use Rattle.std.proofs.Math.Pow.{pow_mono}
use Rattle.zio_places.specs.Flags.{flag_at, AreAll, IsRangeSet}
use Rattle.zio_places.specs.Words.{flags_of}

pub length-flags_of : (bits len : ℕ) → length (flags_of bits len) ≡ len
length-flags_of bits len = length-map-range_with_len (λ k. bit_at bits k == 1) 0 len

pub flag_at-flags_of : (bits len k : ℕ) → k < len → flag_at (flags_of bits len) k ≡ (bit_at bits k == 1)
flag_at-flags_of bits len k h = get_or-map-range_with_len (λ i. bit_at bits i == 1) 0 len k k false h (zero-add k)

pub flag_at-past : (bits len k : ℕ) → len ≤ k → flag_at (flags_of bits len) k ≡ false
flag_at-past bits len k h = get_or_past (flags_of bits len) k false (omega (arith, length-flags_of bits len))

-- the lowest bits, as many as there are flags
pub flags_of-ones : (len : ℕ) → flags_of (2 ^ len - 1) len ≡ replicate len true
flags_of-ones len =
    ext_get_or false (flags_of (2 ^ len - 1) len) (replicate len true) (length-flags_of (2 ^ len - 1) len ∙ sym (length-replicate len true))
    (λ k h.
    let within : k < len = omega (arith, h, length-flags_of (2 ^ len - 1) len) in
    flag_at-flags_of (2 ^ len - 1) len k within ∙ ap (λ b. b == 1) (bit_at_ones len k within) ∙ sym (get_or-replicate len k true false within))

-- what a word of flags says of the number and length behind it
pub word_length : (bits len : ℕ) (flags : List Bool) → flags_of bits len ≡ flags → length flags ≡ len
word_length bits len flags e = ap length (sym e) ∙ length-flags_of bits len

pub word_flag : (bits len : ℕ) (flags : List Bool) (k : ℕ) → flags_of bits len ≡ flags → k < len → flag_at flags k ≡ (bit_at bits k == 1)
word_flag bits len flags k e h = ap (λ fs. flag_at fs k) (sym e) ∙ flag_at-flags_of bits len k h

module _ (bits new len at count : ℕ) (flags : List Bool) (is : flags_of bits len ≡ flags) (flag : Bool)
    (inside : (k : ℕ) → at ≤ k → k < at + count → k < len → (bit_at new k == 1) ≡ flag)
    (outside : (k : ℕ) → k < len → (k < at) ⊎ (at + count ≤ k) → bit_at new k ≡ bit_at bits k) where
  same : (k : ℕ) → (k < at) ⊎ (at + count ≤ k) → flag_at (flags_of new len) k ≡ flag_at flags k
  same k h =
      elim (cases_lt k len) [
        | inl within ↦ flag_at-flags_of new len k within ∙ ap (λ b. b == 1) (outside k within h) ∙ sym (word_flag bits len flags k is within)
        | inr past ↦ flag_at-past new len k past ∙ sym (flag_at-past bits len k past) ∙ ap (λ fs. flag_at fs k) is
      ]

  -- a word gets a flag where its bits do
  pub word_gets : at + count ≤ length flags → IsRangeSet flags (flags_of new len) at count flag
  word_gets fits =
      let long : length flags ≡ len = word_length bits len flags is in
      record {
        length = length-flags_of new len ∙ sym long;
        within = λ k a l. let there : k < len = omega arith in flag_at-flags_of new len k there ∙ inside k a l there;
        before = λ k h. same k (inl h);
        after = λ k h. same k (inr h);
      }

pub word_set : (bits len at count : ℕ) (flags : List Bool) → flags_of bits len ≡ flags → at + count ≤ length flags →
    IsRangeSet flags (flags_of (bit_or bits (2 ^ (at + count) - 2 ^ at)) len) at count true
word_set bits len at count flags is fits =
    word_gets bits (bit_or bits (2 ^ (at + count) - 2 ^ at)) len at count flags is true
    (λ k a l there.
    let one : bit_at (bit_or bits (2 ^ (at + count) - 2 ^ at)) k ≡ 1 =
    bit_at_or bits (2 ^ (at + count) - 2 ^ at) k ∙ ap (λ b. max (bit_at bits k) b) (bit_at_mask_inside at (at + count) k a l) ∙ omega (arith, bit_at-lt bits k) in
    ap (λ b. b == 1) one)
    (λ k there h.
    let zero_there : bit_at (2 ^ (at + count) - 2 ^ at) k ≡ 0 = elim h [ inl b ↦ bit_at_mask_below at (at + count) k b | inr b ↦ bit_at_mask_above at (at + count) k b ] in
    bit_at_or bits (2 ^ (at + count) - 2 ^ at) k ∙ ap (λ b. max (bit_at bits k) b) zero_there ∙ omega arith)
    fits

pub word_clear : (bits len at count : ℕ) (flags : List Bool) → flags_of bits len ≡ flags → at + count ≤ length flags → len ≤ 64 →
    IsRangeSet flags (flags_of (bit_and bits (18446744073709551615 - (2 ^ (at + count) - 2 ^ at))) len) at count false
word_clear bits len at count flags is fits short =
    let long : length flags ≡ len = word_length bits len flags is in
    let small : 2 ^ (at + count) ≤ 2 ^ 64 = pow_mono {i = at + count} {j = 64} (omega arith) in
    let mask_fits : 2 ^ (at + count) - 2 ^ at < 2 ^ 64 = omega (arith, pow_pos at, pow_pos (at + count)) in
    let flip : (k : ℕ) → k < 64 → bit_at (18446744073709551615 - (2 ^ (at + count) - 2 ^ at)) k ≡ 1 - bit_at (2 ^ (at + count) - 2 ^ at) k = λ k h. bit_at_not w64 (2 ^ (at + count) - 2 ^ at) k mask_fits h in
    word_gets bits (bit_and bits (18446744073709551615 - (2 ^ (at + count) - 2 ^ at))) len at count flags is false
    (λ k a l there.
    let none : bit_at (bit_and bits (18446744073709551615 - (2 ^ (at + count) - 2 ^ at))) k ≡ 0 =
    bit_at_and bits (18446744073709551615 - (2 ^ (at + count) - 2 ^ at)) k ∙ omega (arith, flip k (omega arith), bit_at_mask_inside at (at + count) k a l) in
    ap (λ b. b == 1) none)
    (λ k there h.
    let zero_there : bit_at (2 ^ (at + count) - 2 ^ at) k ≡ 0 = elim h [ inl b ↦ bit_at_mask_below at (at + count) k b | inr b ↦ bit_at_mask_above at (at + count) k b ] in
    bit_at_and bits (18446744073709551615 - (2 ^ (at + count) - 2 ^ at)) k ∙ omega (arith, flip k (omega arith), zero_there, bit_at-lt bits k))
    fits

-- the bits of a number that is shifted down
pub bit_at-shifted : (n at i : ℕ) → bit_at (n / 2 ^ at) i ≡ bit_at n (at + i)
bit_at-shifted n at i = ap (λ m. m % 2) (div-div-eq-div-mul n (2 ^ at) (2 ^ i) ∙ ap (λ p. n / p) (sym (pow-add 2 at i)))

-- equal bits are flags of one kind
pub word_run : (bits len at count : ℕ) (flags : List Bool) → flags_of bits len ≡ flags → at + count ≤ len → at < len → ((i : ℕ) → i < count → bit_at (bits / 2 ^ at) i ≡ bit_at (bits / 2 ^ at) 0) → AreAll flags at count (flag_at flags at)
word_run bits len at count flags is fits here equal = record {
  fits = omega (arith, fits, word_length bits len flags is);
  each = λ k a b.
      let split : at + (k - at) ≡ k = omega arith in
      let first : bit_at (bits / 2 ^ at) 0 ≡ bit_at bits at = bit_at-shifted bits at 0 ∙ ap (bit_at bits) (omega arith) in
      let bit : bit_at bits k ≡ bit_at bits at = ap (bit_at bits) (sym split) ∙ sym (bit_at-shifted bits at (k - at)) ∙ equal (k - at) (omega arith) ∙ first in
      word_flag bits len flags k is (omega arith) ∙ ap (λ b. b == 1) bit ∙ sym (word_flag bits len flags at is here);
}
