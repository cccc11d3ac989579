-- The checksum of bytes of which the last word isn't whole.
use Rattle.std.proofs.Common.{◌≡◌, ◌+◌, ◌*◌, ◌/◌, ◌≤◌, ◌<◌, ◌∙◌, ℕ, suc, zero, List, [], ◌∷◌, length, take, ap, sym, refl, arith}
use Rattle.zio_blkptr.specs.declared.pointer.SumKind.{SumKind}
use Rattle.zio_blkptr.specs.declared.pointer.SumKind.TheVariants.{Fletcher4}
use Rattle.zio_cksum.specs.Sums.{Fletcher, fletcher4, fletcher_after, fletcher_step, fletcher_words, sum_of}

after_words : (k : ℕ) (bytes : List ℕ) (s : Fletcher) → 4 * k ≤ length bytes → length bytes < 4 * k + 4 → fletcher_after s (take (4 * k) bytes) ≡ fletcher_after s bytes
unfolding fletcher_after
after_words zero [] s low high = refl
after_words zero (x ∷ []) s low high = refl
after_words zero (x ∷ y ∷ []) s low high = refl
after_words zero (x ∷ y ∷ z ∷ []) s low high = refl
after_words zero (w ∷ x ∷ y ∷ z ∷ bytes) s low high = absurd (omega (arith, high))
after_words (suc k) [] s low high = absurd (omega (arith, low))
after_words (suc k) (w ∷ []) s low high = absurd (omega (arith, low))
after_words (suc k) (w ∷ x ∷ []) s low high = absurd (omega (arith, low))
after_words (suc k) (w ∷ x ∷ y ∷ []) s low high = absurd (omega (arith, low))
after_words (suc k) (w ∷ x ∷ y ∷ z ∷ bytes) s low high =
    let four : 4 * suc k ≡ suc (suc (suc (suc (4 * k)))) = omega arith in
    ap (λ n. fletcher_after s (take n (w ∷ x ∷ y ∷ z ∷ bytes))) four ∙ after_words k bytes (fletcher_step s _) (omega (arith, low)) (omega (arith, high))

-- fletcher4 is that of the whole words
whole_words : (n : ℕ) (bytes : List ℕ) → n ≡ length bytes / 4 * 4 → fletcher4 (take n bytes) ≡ fletcher4 bytes
unfolding fletcher4
whole_words n bytes e =
    let k : ℕ = length bytes / 4 in
    let is : n ≡ 4 * k = omega arith in
    let none : Fletcher = record { a = 0; b = 0; c = 0; d = 0 } in
    ap (λ m. fletcher_words (fletcher_after none (take m bytes))) is ∙ ap fletcher_words (after_words k bytes none (omega arith) (omega arith))

pub sum_by_words : (kind : SumKind) (n : ℕ) (bytes : List ℕ) → kind ≡ Fletcher4 → n ≡ length bytes / 4 * 4 → sum_of kind (take n bytes) ≡ sum_of kind bytes
sum_by_words kind n bytes is e = ap (λ k. sum_of k (take n bytes)) is ∙ whole_words n bytes e ∙ sym (ap (λ k. sum_of k bytes) is)
