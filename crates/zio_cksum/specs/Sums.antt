-- The checksums of bytes: four words each. docs/FORMATS.md, "Checksums".
use Rattle.std.specs.Prelude.{ℕ, ◌+◌, ◌%◌, ◌^◌, List, [], ◌∷◌, take, drop, Bool, true, bytes_eq}
use Rattle.std.specs.Int.{w32, w64, from_le_bytes, from_be_bytes}
use Rattle.sha2.specs.Sha256.{sha256}
use Rattle.zio_blkptr.specs.declared.pointer.SumKind.{SumKind}
use Rattle.zio_blkptr.specs.declared.pointer.SumKind.TheVariants.{Off, Fletcher4, Sha256}

-- the four running sums of fletcher4
pub record Fletcher : Type 0 where
  pub a : ℕ
  pub b : ℕ
  pub c : ℕ
  pub d : ℕ

-- each sum takes in the one before it, the first a word of 32 bits
abbrev pub fletcher_step : Fletcher → ℕ → Fletcher
fletcher_step s f = record {
  a = (s.a + f) % 2 ^ 64;
  b = (s.b + s.a + f) % 2 ^ 64;
  c = (s.c + s.b + s.a + f) % 2 ^ 64;
  d = (s.d + s.c + s.b + s.a + f) % 2 ^ 64;
}

-- the sums after the words of the bytes, whose number is a multiple of four
unfoldable pub fletcher_after : Fletcher → List ℕ → Fletcher
fletcher_after s (w ∷ x ∷ y ∷ z ∷ bytes) = fletcher_after (fletcher_step s (from_le_bytes w32 (w ∷ x ∷ y ∷ z ∷ []))) bytes
fletcher_after s (x ∷ y ∷ z ∷ []) = s
fletcher_after s (y ∷ z ∷ []) = s
fletcher_after s (z ∷ []) = s
fletcher_after s [] = s

-- the four sums as words
abbrev pub fletcher_words : Fletcher → List ℕ
fletcher_words s = s.a ∷ s.b ∷ s.c ∷ s.d ∷ []

-- fletcher4 of the bytes, from sums of zero
unfoldable pub fletcher4 : List ℕ → List ℕ
fletcher4 bytes = fletcher_words (fletcher_after (record { a = 0; b = 0; c = 0; d = 0 }) bytes)

-- the digest's parts of eight bytes, each with its highest byte first
abbrev pub digest_words : List ℕ → List ℕ
digest_words digest =
    from_be_bytes w64 (take 8 digest)
    ∷ from_be_bytes w64 (take 8 (drop 8 digest))
    ∷ from_be_bytes w64 (take 8 (drop 16 digest))
    ∷ from_be_bytes w64 (take 8 (drop 24 digest)) ∷ []

-- the digest of FIPS 180-4, as four words
unfoldable pub sha256_words : List ℕ → List ℕ
sha256_words bytes = digest_words (sha256 bytes)

-- the sum of the bytes
abbrev pub sum_of : SumKind → List ℕ → List ℕ
sum_of Off bytes = 0 ∷ 0 ∷ 0 ∷ 0 ∷ []
sum_of Fletcher4 bytes = fletcher4 bytes
sum_of Sha256 bytes = sha256_words bytes

-- the bytes have these words as their sum; without a sum any bytes do
abbrev pub fits : SumKind → List ℕ → List ℕ → Bool
fits Off words bytes = true
fits Fletcher4 words bytes = bytes_eq (fletcher4 bytes) words
fits Sha256 words bytes = bytes_eq (sha256_words bytes) words
