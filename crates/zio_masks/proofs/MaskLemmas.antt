-- The lowest bit of a number from a place on.
use Rattle.std.proofs.Common.{◌≡◌, ℕ, zero, suc, ◌+◌, ◌-◌, ◌/◌, ◌^◌, ◌%◌, ◌<◌, ◌≤◌, ◌≢◌, ◌||◌, ◌==◌, bit_or, max, refl, ap, sym, ◌∙◌, arith, eq-eqb, eqb-true, inl, inr, w32}
use Rattle.std.proofs.Math.Nat.{div-div-eq-div-mul, div-le_self}
use Rattle.std.proofs.lemmas.Nat.{pow-add}
use Rattle.std.proofs.lemmas.Nat.Bits.{bit_at-zero, bit_at-trailing_zeros, bit_at_or, bit_at-lt}
use Rattle.std.proofs.lemmas.Bool.{cases_lt}
use Rattle.std.specs.Int.{bit_at, trailing_zeros}
use Rattle.zio_masks.specs.declared.pipeline.Pipeline.{Pipeline}
use Rattle.zio_masks.specs.declared.stage.Stage.{Stage}
use Rattle.zio_masks.specs.declared.stage.Stage.TheVariants.{Start, ReadBpInit, WriteBpInit, FreeBpInit, IssueAsync, WriteCompress, ChecksumGenerate, GangAssemble, GangIssue, DvaAllocate, DvaFree, DvaClaim, Ready, VdevIoStart, VdevIoDone, VdevIoAssess, ChecksumVerify, Done}
use Rattle.zio_masks.specs.Stages.{IsNext, gang_bits, is_gang_stage, number_of}

bit_at-shr : (n k i : ℕ) → bit_at (n / 2 ^ k) i ≡ bit_at n (k + i)
bit_at-shr n k i =
    ap (λ x. x % 2) (div-div-eq-div-mul n (2 ^ k) (2 ^ i) ∙ ap (λ d. n / d) (sym (pow-add 2 k i)))

-- the lowest bit of a number from `k` on, where the one at `j` is set
pub record IsLowest (n k j low : ℕ) : Type 0 where
  pub is_set : bit_at n low ≡ 1
  pub from : k ≤ low
  pub within : low ≤ j
  pub below : (i : ℕ) → k ≤ i → i < low → bit_at n i ≡ 0

bit_at-from : (n k i : ℕ) → k ≤ i → bit_at (n / 2 ^ k) (i - k) ≡ bit_at n i
bit_at-from n k i h =
    let e : k + (i - k) ≡ i = omega arith in
    bit_at-shr n k (i - k) ∙ ap (bit_at n) e

not_zero : (m i : ℕ) → bit_at m i ≡ 1 → m ≢ 0
not_zero m i h z =
    let at : bit_at m i ≡ 0 = ap (λ x. bit_at x i) z ∙ bit_at-zero i in
    omega (arith, at, h)

lowest_within : (m low d : ℕ) → bit_at m d ≡ 1 → ((i : ℕ) → i < low → bit_at m i ≡ 0) → low ≤ d
lowest_within m low d one none =
    elim (cases_lt d low) [ inl lt ↦ omega (arith, one, none d lt) | inr le ↦ le ]

pub lowest_from : (n k j : ℕ) → n < 2 ^ 32 → k ≤ j → bit_at n j ≡ 1 → IsLowest n k j (k + trailing_zeros w32 (n / 2 ^ k))
lowest_from n k j range h one =
    let small : n / 2 ^ k < 2 ^ 32 = omega (arith, div-le_self n (2 ^ k), range) in
    let there : bit_at (n / 2 ^ k) (j - k) ≡ 1 = bit_at-from n k j h ∙ one in
    let some : 0 < n / 2 ^ k = let ne : n / 2 ^ k ≢ 0 = not_zero (n / 2 ^ k) (j - k) there in omega (arith, ne) in
    let low = bit_at-trailing_zeros w32 (n / 2 ^ k) some small in
    record {
      is_set = sym (bit_at-shr n k (trailing_zeros w32 (n / 2 ^ k))) ∙ low.1;
      from = omega arith;
      within = let near : trailing_zeros w32 (n / 2 ^ k) ≤ j - k = lowest_within (n / 2 ^ k) (trailing_zeros w32 (n / 2 ^ k)) (j - k) there low.2 in omega (arith, near, h);
      below = λ i a b. sym (bit_at-from n k i a) ∙ low.2 (i - k) (omega (arith, a, b));
    }

-- ---- stages

-- a stage whose number is the lowest bit from the next number on is the next stage
pub is_next : (mask : Pipeline) (stage next : Stage) (j low : ℕ) → IsLowest mask.bits (number_of stage + 1) j low →
    number_of next ≡ low → IsNext mask stage next
is_next mask stage next j low h e = record {
  stands = eq-eqb (bit_at mask.bits (number_of next)) 1 (ap (bit_at mask.bits) e ∙ h.is_set);
  later = omega (arith, h.from, e);
  first = λ other set behind.
      elim (cases_lt (number_of other) (number_of next)) [
        | inl lt ↦ let none : bit_at mask.bits (number_of other) ≡ 0 = h.below (number_of other) (omega (arith, behind)) (omega (arith, lt, e)) in
            omega (arith, none, eqb-true (bit_at mask.bits (number_of other)) 1 set)
        | inr le ↦ le
      ];
}

or_of_bits : (x y : ℕ) → x < 2 → y < 2 → (max x y == 1) ≡ ((x == 1) || (y == 1))
or_of_bits zero zero h k = refl
or_of_bits zero (suc zero) h k = refl
or_of_bits (suc zero) zero h k = refl
or_of_bits (suc zero) (suc zero) h k = refl
or_of_bits zero (suc (suc y)) h k = absurd (omega (arith, k))
or_of_bits (suc zero) (suc (suc y)) h k = absurd (omega (arith, k))
or_of_bits (suc (suc x)) y h k = absurd (omega (arith, h))

gang_bit : (stage : Stage) → (bit_at gang_bits (number_of stage) == 1) ≡ is_gang_stage stage
gang_bit Start = refl
gang_bit ReadBpInit = refl
gang_bit WriteBpInit = refl
gang_bit FreeBpInit = refl
gang_bit IssueAsync = refl
gang_bit WriteCompress = refl
gang_bit ChecksumGenerate = refl
gang_bit GangAssemble = refl
gang_bit GangIssue = refl
gang_bit DvaAllocate = refl
gang_bit DvaFree = refl
gang_bit DvaClaim = refl
gang_bit Ready = refl
gang_bit VdevIoStart = refl
gang_bit VdevIoDone = refl
gang_bit VdevIoAssess = refl
gang_bit ChecksumVerify = refl
gang_bit Done = refl

pub has-with_gang : (bits : ℕ) (stage : Stage) →
    (bit_at (bit_or bits gang_bits) (number_of stage) == 1) ≡ ((bit_at bits (number_of stage) == 1) || is_gang_stage stage)
has-with_gang bits stage =
    ap (λ b. b == 1) (bit_at_or bits gang_bits (number_of stage))
    ∙ (or_of_bits (bit_at bits (number_of stage)) (bit_at gang_bits (number_of stage)) (bit_at-lt bits (number_of stage)) (bit_at-lt gang_bits (number_of stage))
    ∙ ap (λ g. (bit_at bits (number_of stage) == 1) || g) (gang_bit stage))
