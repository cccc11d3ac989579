-- Bytes that are words of eight, and the words that they give back.
use Rattle.std.proofs.Common.{◌≡◌, ℕ, zero, suc, ◌+◌, ◌*◌, ◌^◌, ◌<◌, List, [], ◌∷◌, ◌++◌, length, take, drop, get_or, refl, ap, sym, ◌∙◌, subst, arith, drop-drop, get_or-drop, length-take, length-drop}
use Rattle.std.proofs.lemmas.Nat.{from_le_bytes-to_le_bytes_8, le_bytes_8}
use Rattle.std.proofs.lemmas.List.{drop_all, take-append-drop}
use Rattle.std.specs.Int.{w64, from_le_bytes}
use Rattle.std.specs.List.{flat_map, AllByRecursion}
use Rattle.std.specs.Simd.{first_chunks}
use Rattle.zio_blkptr.specs.Pointers.{word, word_of}

-- Each of the words fits in 64 bits.
abbrev pub AllFit : List ℕ → Type 0
AllFit ws = AllByRecursion (λ w. w < 2 ^ 64) ws

-- eight bytes from word i on are the bytes of word i
take-words : (ws : List ℕ) (i : ℕ) → i < length ws → take 8 (drop (8 * i) (flat_map word ws)) ≡ word (get_or ws i 0)
take-words [] i h = absurd (omega arith)
take-words (w ∷ ws) zero h = refl
take-words (w ∷ ws) (suc i) h =
    let next : 8 * suc i ≡ 8 + 8 * i = omega arith in
    let skipped : drop (8 + 8 * i) (flat_map word (w ∷ ws)) ≡ drop (8 * i) (flat_map word ws) = sym (drop-drop (8 * i) 8 (flat_map word (w ∷ ws))) in
    ap (λ n. take 8 (drop n (flat_map word (w ∷ ws)))) next ∙ ap (take 8) skipped ∙ take-words ws i (omega arith)

-- word i of the bytes of words is the i-th, where it fits
word_of-words : (ws : List ℕ) (i : ℕ) → i < length ws → get_or ws i 0 < 2 ^ 64 → word_of (flat_map word ws) i ≡ get_or ws i 0
word_of-words ws i h fits = ap (from_le_bytes w64) (take-words ws i h) ∙ from_le_bytes-to_le_bytes_8 (get_or ws i 0) fits

-- the word at each place fits, since past the last it is 0
get_or-fits : (ws : List ℕ) (i : ℕ) → AllFit ws → get_or ws i 0 < 2 ^ 64
get_or-fits [] i h = omega arith
get_or-fits (w ∷ ws) zero h = h.0
get_or-fits (w ∷ ws) (suc i) h = get_or-fits ws i h.1

-- the bytes of words that fit give each of them back
pub words_read : (ws : List ℕ) → AllFit ws → (i : ℕ) → i < length ws → word_of (flat_map word ws) i ≡ get_or ws i 0
words_read ws fits i h = word_of-words ws i h (get_or-fits ws i fits)

-- eight bytes make a number of 64 bits
sum-fits : (a b c d e f g h : ℕ) → a < 256 → b < 256 → c < 256 → d < 256 → e < 256 → f < 256 → g < 256 → h < 256
    → a + b * 256 + c * 65536 + d * 16777216 + e * 4294967296 + f * 1099511627776 + g * 281474976710656 + h * 72057594037927936 < 2 ^ 64
sum-fits a b c d e f g h at_a at_b at_c at_d at_e at_f at_g at_h = omega arith

-- of fewer bytes each is a byte too
pub take_small : (n : ℕ) (xs : List ℕ) → ((i : ℕ) → get_or xs i 0 < 2 ^ 8) → (i : ℕ) → get_or (take n xs) i 0 < 2 ^ 8
take_small zero xs small i = omega arith
take_small (suc n) [] small i = omega arith
take_small (suc n) (x ∷ xs) small zero = small 0
take_small (suc n) (x ∷ xs) small (suc i) = take_small n xs (λ k. small (suc k)) i

-- and so in any part
pub slice_small : (n m : ℕ) (xs : List ℕ) → ((i : ℕ) → get_or xs i 0 < 2 ^ 8) → (i : ℕ) → get_or (take n (drop m xs)) i 0 < 2 ^ 8
slice_small n m xs small = take_small n (drop m xs) (λ i. subst (λ x. x < 2 ^ 8) (sym (get_or-drop m xs i 0)) (small (m + i)))

-- each word of bytes fits
pub word_of-fits : (bytes : List ℕ) (i : ℕ) → ((k : ℕ) → get_or bytes k 0 < 2 ^ 8) → word_of bytes i < 2 ^ 64
word_of-fits bytes i small =
    let at = slice_small 8 (8 * i) bytes small in
    sum-fits _ _ _ _ _ _ _ _ (at 0) (at 1) (at 2) (at 3) (at 4) (at 5) (at 6) (at 7)

-- ---- bytes in pieces of equal length

-- piece i of k pieces of n
pub get_or-first_chunks : (n k : ℕ) (xs : List ℕ) (i : ℕ) → i < k → get_or (first_chunks n k xs) i [] ≡ take n (drop (n * i) xs)
get_or-first_chunks n zero xs i h = absurd (omega arith)
get_or-first_chunks n (suc k) xs zero h = let e : 0 ≡ n * 0 = omega arith in ap (λ m. take n (drop m xs)) e
get_or-first_chunks n (suc k) xs (suc i) h =
    let next : n + n * i ≡ n * suc i = omega arith in
    get_or-first_chunks n k (drop n xs) i (omega arith) ∙ ap (take n) (drop-drop (n * i) n xs) ∙ ap (λ m. take n (drop m xs)) next

-- bytes of a word are those of the number that they are
word-again : (xs : List ℕ) → length xs ≡ 8 → ((i : ℕ) → get_or xs i 0 < 256) → word (from_le_bytes w64 xs) ≡ xs
word-again xs long small = le_bytes_8 xs (from_le_bytes w64 xs) long small refl

-- so many words of bytes, from word i on
abbrev pub words_from : List ℕ → ℕ → ℕ → List ℕ
words_from bytes i zero = []
words_from bytes i (suc n) = word_of bytes i ∷ words_from bytes (i + 1) n

-- bytes are those of their words
words_again : (bytes : List ℕ) (n i : ℕ) → length bytes ≡ 8 * (i + n) → ((k : ℕ) → get_or bytes k 0 < 2 ^ 8)
    → flat_map word (words_from bytes i n) ≡ drop (8 * i) bytes
words_again bytes zero i long small = sym (drop_all (8 * i) bytes (omega arith))
words_again bytes (suc n) i long small =
    let part = take 8 (drop (8 * i) bytes) in
    let room : length part ≡ 8 = omega (arith, length-take 8 (drop (8 * i) bytes), length-drop (8 * i) bytes) in
    let left : length bytes ≡ 8 * (i + 1 + n) = omega arith in
    let next : 8 * i + 8 ≡ 8 * (i + 1) = omega arith in
    let here : word (word_of bytes i) ≡ part = word-again part room (slice_small 8 (8 * i) bytes small) in
    let rest : drop 8 (drop (8 * i) bytes) ≡ drop (8 * (i + 1)) bytes = drop-drop 8 (8 * i) bytes ∙ ap (λ m. drop m bytes) next in
    (λ j. here j ++ words_again bytes n (i + 1) left small j) ∙ ap (λ t. part ++ t) (sym rest) ∙ take-append-drop 8 (drop (8 * i) bytes)

-- the sixteen words of 128 bytes
pub bytes_are_words : (bytes : List ℕ) → length bytes ≡ 128 → ((k : ℕ) → get_or bytes k 0 < 2 ^ 8)
    → flat_map word (words_from bytes 0 16) ≡ bytes
bytes_are_words bytes long small = words_again bytes 16 0 long small
