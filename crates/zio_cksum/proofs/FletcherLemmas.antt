-- The sums of fletcher4 word by word, as a loop over the bytes in pieces of four takes them.
use Rattle.std.proofs.Common.{◌≡◌, ℕ, zero, suc, ◌+◌, ◌*◌, ◌%◌, ◌^◌, ◌<◌, ◌≤◌, ◌/◌, List, [], ◌∷◌, length, drop, get_or, refl, ap, sym, ◌∙◌, arith, add-one, drop-cons}
use Rattle.std.proofs.lemmas.List.{drop_all}
use Rattle.std.specs.Int.{w32, from_le_bytes}
use Rattle.std.specs.Simd.{first_chunks}
use Rattle.zio_cksum.specs.Sums.{Fletcher, fletcher_step, fletcher_after}

-- the sums before the first word
abbrev pub at_start : Fletcher
at_start = record { a = 0; b = 0; c = 0; d = 0 }

-- the sums after words of four bytes
abbrev pub after_words : Fletcher → List (List ℕ) → Fletcher
after_words s [] = s
after_words s (w ∷ ws) = after_words (fletcher_step s (from_le_bytes w32 w)) ws

-- a multiple of four bytes is summed in words
pub fletcher_after-words : (k : ℕ) (bytes : List ℕ) (s : Fletcher) → length bytes ≡ 4 * k
    → fletcher_after s bytes ≡ after_words s (first_chunks 4 k bytes)
unfolding fletcher_after
fletcher_after-words zero [] s e = refl
fletcher_after-words zero (w ∷ bytes) s e = absurd (omega (arith, e))
fletcher_after-words (suc k) [] s e = absurd (omega (arith, e))
fletcher_after-words (suc k) (w ∷ []) s e = absurd (omega (arith, e))
fletcher_after-words (suc k) (w ∷ x ∷ []) s e = absurd (omega (arith, e))
fletcher_after-words (suc k) (w ∷ x ∷ y ∷ []) s e = absurd (omega (arith, e))
fletcher_after-words (suc k) (w ∷ x ∷ y ∷ z ∷ bytes) s e =
    fletcher_after-words k bytes (fletcher_step s (from_le_bytes w32 (w ∷ x ∷ y ∷ z ∷ []))) (omega (arith, e))

-- The sums that the loop adds up, each with the one before it, are those of a step.
pub step_sums : (s : Fletcher) (f a b c d : ℕ)
    → a ≡ (s.a + f) % 2 ^ 64 → b ≡ (s.b + a) % 2 ^ 64 → c ≡ (s.c + b) % 2 ^ 64 → d ≡ (s.d + c) % 2 ^ 64
    → record { a = a; b = b; c = c; d = d } ≡ fletcher_step s f
step_sums s f a b c d at_a at_b at_c at_d =
    let two : b ≡ (s.b + s.a + f) % 2 ^ 64 = omega arith in
    let three : c ≡ (s.c + s.b + s.a + f) % 2 ^ 64 = omega arith in
    let four : d ≡ (s.d + s.c + s.b + s.a + f) % 2 ^ 64 = omega arith in
    λ j. record { a = at_a j; b = two j; c = three j; d = four j }

-- one word more
pub one_more : (start s : Fletcher) (ws : List (List ℕ)) (i f a b c d : ℕ) → i < length ws
    → after_words start ws ≡ after_words s (drop i ws)
    → f ≡ from_le_bytes w32 (get_or ws i [])
    → a ≡ (s.a + f) % 2 ^ 64 → b ≡ (s.b + a) % 2 ^ 64 → c ≡ (s.c + b) % 2 ^ 64 → d ≡ (s.d + c) % 2 ^ 64
    → after_words start ws ≡ after_words (record { a = a; b = b; c = c; d = d }) (drop (i + 1) ws)
one_more start s ws i f a b c d lt before is at_a at_b at_c at_d =
    let next : drop i ws ≡ get_or ws i [] ∷ drop (i + 1) ws = rw (add-one, drop-cons ws i []) refl in
    let stepped = step_sums s f a b c d at_a at_b at_c at_d in
    let by_word : fletcher_step s f ≡ fletcher_step s (from_le_bytes w32 (get_or ws i [])) = ap (fletcher_step s) is in
    before ∙ ap (after_words s) next ∙ ap (λ t. after_words t (drop (i + 1) ws)) (sym (stepped ∙ by_word))

-- after the last word the sums are those of all bytes
pub all_words : (start s : Fletcher) (bytes : List ℕ) (ws : List (List ℕ)) (i : ℕ) → length bytes % 4 ≡ 0
    → ws ≡ first_chunks 4 (length bytes / 4) bytes → length ws ≤ i
    → after_words start ws ≡ after_words s (drop i ws) → fletcher_after start bytes ≡ s
all_words start s bytes ws i whole cut past summed =
    let size : length bytes ≡ 4 * (length bytes / 4) = omega arith in
    fletcher_after-words (length bytes / 4) bytes start size ∙ ap (after_words start) (sym cut) ∙ summed ∙ ap (after_words s) (drop_all i ws past)
