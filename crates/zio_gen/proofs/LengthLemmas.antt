-- A generated script is no longer than a script may be.
use Rattle.std.proofs.Common.{◌<◌, ◌≤◌, ◌+◌, ◌-◌, ◌*◌, ◌/◌, ◌%◌, ◌^◌, ℕ, zero, suc, List, ◌++◌, length, Bool, true, false, nat_lt, ◌==◌, arith}
use Rattle.std.specs.Prelude.{codes, decimal}
use Rattle.std.proofs.lemmas.Fmt.{length-decimal-le}
use Rattle.std.proofs.lemmas.List.{length-append}
use Rattle.zio_gen.specs.Generated.{batch, clear_line, copies_of, free_line, group_lines, group_max, group_size, group_text, head_lines, prio_of, prio_word, read_line, script_text, size_of, sum_of, sum_word, texts, write_line}
use Rattle.zio_script.specs.declared.read.TheConstants.{SCRIPT_LEN_MAX}
use Rattle.zio_gen.proofs.NumeralLemmas.{short_number}

-- ---- lines

short_sum : (long : Bool) → length (sum_word long) ≤ 9
short_sum true = omega arith
short_sum false = omega arith

short_prio : (sync : Bool) → length (prio_word sync) ≤ 5
short_prio true = omega arith
short_prio false = omega arith

short_words : (n b s c p t l : List ℕ) → length n ≤ 5 → length b ≤ 5 → length s ≤ 9 → length c ≤ 5 → length p ≤ 5 → length t ≤ 10 → length l ≤ 5
    → length ((n ++ codes " write b" ++ b ++ codes " " ++ s) ++ (codes " " ++ c ++ codes " " ++ p) ++ (codes " seq " ++ t ++ codes " " ++ l) ++ codes "\n") ≤ 64
short_words n b s c p t l n_few b_few s_few c_few p_few t_few l_few = simp length-append (omega arith)

-- a line of this kind has at most 64 bytes
abbrev IsShort : (ℕ → ℕ → List ℕ) → Type 0
IsShort line = (n block : ℕ) → n < 10 ^ 5 → block < 10 ^ 5 → length (line n block) ≤ 64

short_write : (seed : ℕ) → seed < 2 ^ 32 → IsShort (write_line seed)
short_write seed small n block n_few block_few =
    short_words (decimal n) (decimal block) (sum_of block) (decimal (copies_of seed block)) (prio_of block) (decimal (seed + block)) (decimal (size_of seed block))
    (short_number n n_few) (short_number block block_few) (short_sum (nat_lt (block % 4) 2)) (short_number (copies_of seed block) (omega arith)) (short_prio (block % 2 == 0))
    (length-decimal-le 10 (seed + block) (omega arith) (omega arith) (omega arith)) (short_number (size_of seed block) (omega arith))

short_read : IsShort read_line
short_read n block n_few block_few =
    let n_short : length (decimal n) ≤ 5 = short_number n n_few in
    let block_short : length (decimal block) ≤ 5 = short_number block block_few in
    let prio_short : length (prio_of block) ≤ 5 = short_prio (block % 2 == 0) in
    simp length-append (omega arith)

short_free : IsShort free_line
short_free n block n_few block_few =
    let n_short : length (decimal n) ≤ 5 = short_number n n_few in
    let block_short : length (decimal block) ≤ 5 = short_number block block_few in
    simp length-append (omega arith)

-- ---- batches and groups

short_texts : (text : ℕ → List ℕ) (most k : ℕ) → ((j : ℕ) → j < k → length (text j) ≤ most) → length (texts text k) ≤ most * k
short_texts text most zero each = omega arith
short_texts text most (suc k) each =
    let here : length (text k) ≤ most = each k (omega arith) in
    let before : length (texts text k) ≤ most * k = short_texts text most k (λ j below. each j (omega arith)) in
    simp length-append (omega arith)

short_batch : (line : ℕ → ℕ → List ℕ) → IsShort line → (number block size : ℕ) → number + size ≤ 10 ^ 5 → block + size ≤ 10 ^ 5 → size ≤ 8
    → length (batch line number block size) ≤ 515
short_batch line short number block size high named few =
    let lines : length (texts (λ k. line (number + k) (block + k)) size) ≤ 64 * size =
    short_texts (λ k. line (number + k) (block + k)) 64 size (λ k below. short (number + k) (block + k) (omega arith) (omega arith)) in
    simp length-append (omega arith)

short_group : (seed number block size : ℕ) → seed < 2 ^ 32 → number + 3 * size ≤ 10 ^ 5 → block + size ≤ 10 ^ 5 → size ≤ 8
    → length (group_lines seed number block size) ≤ 1545
short_group seed number block size small high named few =
    let writes : length (batch (write_line seed) number block size) ≤ 515 = short_batch (write_line seed) (short_write seed small) number block size (omega arith) named few in
    let reads : length (batch read_line (number + size) block size) ≤ 515 = short_batch read_line short_read (number + size) block size (omega arith) named few in
    let frees : length (batch free_line (number + 2 * size) block size) ≤ 515 = short_batch free_line short_free (number + 2 * size) block size (omega arith) named few in
    parts (batch (write_line seed) number block size) (batch read_line (number + size) block size) (batch free_line (number + 2 * size) block size) writes reads frees
  where
    parts : (a b c : List ℕ) → length a ≤ 515 → length b ≤ 515 → length c ≤ 515 → length (a ++ b ++ c) ≤ 1545
    parts a b c a_few b_few c_few = simp length-append (omega arith)

-- ---- the script

pub short_script : (seed n : ℕ) → seed < 2 ^ 32 → n ≤ 20000 → length (script_text seed n) ≤ SCRIPT_LEN_MAX
short_script seed n small most =
    let groups : length (texts (group_text seed n) ((n + group_max - 1) / group_max)) ≤ 1545 * ((n + group_max - 1) / group_max) =
    short_texts (group_text seed n) 1545 ((n + group_max - 1) / group_max)
    (λ g below. short_group seed (3 * group_max * g + 1) (group_max * g + 1) (group_size n g) small (omega arith) (omega arith) (omega arith)) in
    parts (texts (group_text seed n) ((n + group_max - 1) / group_max)) (omega arith)
  where
    parts : (a : List ℕ) → length a ≤ 10000000 → length (head_lines ++ a ++ clear_line ++ clear_line) ≤ SCRIPT_LEN_MAX
    parts a few = simp length-append (omega arith)
