-- Each word of a checksum fits in 64 bits.
use Rattle.std.proofs.Common.{◌≡◌, ℕ, zero, suc, ◌+◌, ◌*◌, ◌^◌, ◌<◌, List, [], ◌∷◌, length, take, drop, get_or, refl, arith}
use Rattle.std.specs.Int.{from_le_bytes, to_be_bytes, w32}
use Rattle.std.specs.List.{AllByRecursion}
use Rattle.sha2.specs.Sha256.{digest_bytes, final_hash, initial_hash_256, sha256}
use Rattle.zio_blkptr.specs.declared.pointer.SumKind.{SumKind}
use Rattle.zio_blkptr.specs.declared.pointer.SumKind.TheVariants.{Off, Fletcher4, Sha256}
use Rattle.zio_blkptr.proofs.Words.{AllFit, slice_small, take_small}
use Rattle.zio_cksum.specs.Sums.{Fletcher, digest_words, fletcher4, fletcher_after, fletcher_step, fletcher_words, sha256_words, sum_of}
use Rattle.zio_cksum.proofs.AllLemmas.{all_append}

-- ---- bytes of a digest

abbrev IsByte : ℕ → Type 0
IsByte b = b < 2 ^ 8

all_small : (bytes : List ℕ) → AllByRecursion IsByte bytes → (i : ℕ) → get_or bytes i 0 < 2 ^ 8
all_small [] h i = omega arith
all_small (b ∷ bytes) h zero = h.0
all_small (b ∷ bytes) h (suc i) = all_small bytes h.1 i

four_bytes : (n : ℕ) → AllByRecursion IsByte (to_be_bytes w32 n)
four_bytes n = (omega arith, (omega arith, (omega arith, (omega arith, tt))))

digest_small : (h : List ℕ) (n : ℕ) → AllByRecursion IsByte (digest_bytes h n)
unfolding digest_bytes
digest_small h zero = tt
digest_small h (suc n) = all_append IsByte (digest_bytes h n) _ (digest_small h n) (four_bytes _)

sha_small : (bytes : List ℕ) (i : ℕ) → get_or (sha256 bytes) i 0 < 2 ^ 8
unfolding sha256
sha_small bytes = all_small (digest_bytes (final_hash initial_hash_256 bytes) 8)
    (digest_small (final_hash initial_hash_256 bytes) 8)

-- ---- words

-- eight bytes make a number of 64 bits
eight_fit : (a b c d e f g h : ℕ) → a < 256 → b < 256 → c < 256 → d < 256 → e < 256 → f < 256 → g < 256 → h < 256
    → a * 72057594037927936 + b * 281474976710656 + c * 1099511627776 + d * 4294967296 + e * 16777216
    + f * 65536 + g * 256 + h < 2 ^ 64
eight_fit a b c d e f g h at_a at_b at_c at_d at_e at_f at_g at_h = omega arith

digest_fit : (digest : List ℕ) → ((i : ℕ) → get_or digest i 0 < 2 ^ 8) → AllFit (digest_words digest)
digest_fit digest small =
    let part_fit = λ (bytes : List ℕ) (all : (i : ℕ) → get_or bytes i 0 < 2 ^ 8).
    eight_fit _ _ _ _ _ _ _ _ (all 0) (all 1) (all 2) (all 3) (all 4) (all 5) (all 6) (all 7) in (
      part_fit (take 8 digest) (take_small 8 digest small),
      (
        part_fit (take 8 (drop 8 digest)) (slice_small 8 8 digest small),
        (
          part_fit (take 8 (drop 16 digest)) (slice_small 8 16 digest small),
          (part_fit (take 8 (drop 24 digest)) (slice_small 8 24 digest small), tt),
        ),
      ),
    )

sha_fit : (bytes : List ℕ) → AllFit (sha256_words bytes)
unfolding sha256_words
sha_fit bytes = digest_fit (sha256 bytes) (sha_small bytes)

sha_four : (bytes : List ℕ) → length (sha256_words bytes) ≡ 4
unfolding sha256_words
sha_four bytes = refl

step_fit : (s : Fletcher) (f : ℕ) → AllFit (fletcher_words (fletcher_step s f))
step_fit s f = (omega arith, (omega arith, (omega arith, (omega arith, tt))))

after_fit : (s : Fletcher) (bytes : List ℕ) → AllFit (fletcher_words s) → AllFit (fletcher_words (fletcher_after s bytes))
unfolding fletcher_after
after_fit s (w ∷ x ∷ y ∷ z ∷ bytes) h =
    let f : ℕ = from_le_bytes w32 (w ∷ x ∷ y ∷ z ∷ []) in after_fit (fletcher_step s f) bytes (step_fit s f)
after_fit s (x ∷ y ∷ z ∷ []) h = h
after_fit s (y ∷ z ∷ []) h = h
after_fit s (z ∷ []) h = h
after_fit s [] h = h

fletcher_fit : (bytes : List ℕ) → AllFit (fletcher4 bytes)
unfolding fletcher4
fletcher_fit bytes =
    after_fit (record { a = 0; b = 0; c = 0; d = 0 }) bytes (omega arith, (omega arith, (omega arith, (omega arith, tt))))

fletcher_four : (bytes : List ℕ) → length (fletcher4 bytes) ≡ 4
unfolding fletcher4
fletcher_four bytes = refl

-- ---- by the kind

pub sum_four : (kind : SumKind) (bytes : List ℕ) → length (sum_of kind bytes) ≡ 4
sum_four Off bytes = refl
sum_four Fletcher4 bytes = fletcher_four bytes
sum_four Sha256 bytes = sha_four bytes

pub sum_fit : (kind : SumKind) (bytes : List ℕ) → AllByRecursion (λ w. w < 2 ^ 64) (sum_of kind bytes)
sum_fit Off bytes = (omega arith, (omega arith, (omega arith, (omega arith, tt))))
sum_fit Fletcher4 bytes = fletcher_fit bytes
sum_fit Sha256 bytes = sha_fit bytes
