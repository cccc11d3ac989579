-- The script that is generated from a seed and a number of blocks.
use Rattle.std.specs.Prelude.{ℕ, zero, suc, ◌+◌, ◌-◌, ◌*◌, ◌/◌, ◌%◌, min, List, [], ◌++◌, codes, decimal, Bool, true, false, nat_lt, ◌==◌}

-- a text for each of the numbers from 0 on, so many of them, joined
abbrev pub texts : (ℕ → List ℕ) → ℕ → List ℕ
texts text zero = []
texts text (suc k) = texts text k ++ text k

-- a line that ends a batch, and one that clears
abbrev pub go_line : List ℕ
go_line = codes "go\n"

abbrev pub clear_line : List ℕ
clear_line = codes "clear\n"

-- two mirrors of two leaves; the second has no device until the first clear, and leaf 0 can't be read until the second
abbrev pub head_lines : List ℕ
head_lines =
    codes "top 0 1\n" ++ codes "top 2 3\n" ++ codes "fault 2 any 0 268435456 0 1 gone\n"
    ++ codes "fault 3 any 0 268435456 0 1 gone\n" ++ codes "fault 0 read 0 268435456 0 2 eio\n"

abbrev pub sum_word : Bool → List ℕ
sum_word true = codes "sha256"
sum_word false = codes "fletcher4"

abbrev pub prio_word : Bool → List ℕ
prio_word true = codes "sync"
prio_word false = codes "async"

-- two blocks of four have the one sum, the others the other; every other block is synchronous
abbrev pub sum_of : ℕ → List ℕ
sum_of block = sum_word (nat_lt (block % 4) 2)

abbrev pub prio_of : ℕ → List ℕ
prio_of block = prio_word (block % 2 == 0)

abbrev pub copies_of : ℕ → ℕ → ℕ
copies_of seed block = 1 + (block + seed) % 2

-- a block's bytes
abbrev pub size_of : ℕ → ℕ → ℕ
size_of seed block = 512 * (1 + (11 * block + seed) % 32)

-- the words of a write: what is written, how, and from which bytes
abbrev pub write_words : ℕ → ℕ → List ℕ
write_words number block = decimal number ++ codes " write b" ++ decimal block ++ codes " " ++ sum_of block

abbrev pub form_words : ℕ → ℕ → List ℕ
form_words seed block = codes " " ++ decimal (copies_of seed block) ++ codes " " ++ prio_of block

abbrev pub body_words : ℕ → ℕ → List ℕ
body_words seed block = codes " seq " ++ decimal (seed + block) ++ codes " " ++ decimal (size_of seed block)

abbrev pub write_line : ℕ → ℕ → ℕ → List ℕ
write_line seed number block = write_words number block ++ form_words seed block ++ body_words seed block ++ codes "\n"

abbrev pub read_line : ℕ → ℕ → List ℕ
read_line number block = decimal number ++ codes " read b" ++ decimal block ++ codes " " ++ prio_of block ++ codes " must\n"

abbrev pub free_line : ℕ → ℕ → List ℕ
free_line number block = decimal number ++ codes " free b" ++ decimal block ++ codes " must\n"

-- a line for each of some blocks, from a request's number and a block on, and the end of the batch
abbrev pub batch : (ℕ → ℕ → List ℕ) → ℕ → ℕ → ℕ → List ℕ
batch line number block size = texts (λ k. line (number + k) (block + k)) size ++ go_line

-- blocks in a group, at most
abbrev pub group_max : ℕ
group_max = 8

-- some blocks are written, then read, then freed
abbrev pub group_lines : ℕ → ℕ → ℕ → ℕ → List ℕ
group_lines seed number block size =
    batch (write_line seed) number block size ++ batch read_line (number + size) block size ++ batch free_line (number + 2 * size) block size

-- the blocks of a group: eight, and in the last group what is left
abbrev pub group_size : ℕ → ℕ → ℕ
group_size n group = min group_max (n - group_max * group)

-- a group's lines: three requests for each block, and eight blocks in each group before
abbrev pub group_text : ℕ → ℕ → ℕ → List ℕ
group_text seed n group = group_lines seed (3 * group_max * group + 1) (group_max * group + 1) (group_size n group)

-- the whole script
abbrev pub script_text : ℕ → ℕ → List ℕ
script_text seed n = head_lines ++ texts (group_text seed n) ((n + group_max - 1) / group_max) ++ clear_line ++ clear_line
