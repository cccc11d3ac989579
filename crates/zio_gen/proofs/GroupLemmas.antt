-- A batch, a group of three batches, and all groups of a generated script are read without a fault.
use Rattle.std.proofs.Common.{◌≡◌, ◌<◌, ◌≤◌, ◌+◌, ◌-◌, ◌*◌, ◌/◌, ◌^◌, ℕ, zero, suc, List, ◌++◌, refl, subst, arith}
use Rattle.zio_gen.specs.Generated.{batch, free_line, go_line, group_lines, group_max, group_size, group_text, read_line, texts, write_line}
use Rattle.zio_script.specs.Whys.{Before}
use Rattle.zio_gen.proofs.LineLemmas.{GoesOn, free_goes, go_goes, read_goes, write_goes}
use Rattle.zio_gen.proofs.StandLemmas.{Stands, stands_later}
use Rattle.zio_gen.proofs.TextLemmas.{Goes, goes_as, goes_then, reads_none}

-- the same with other words for its numbers
stands_at : (next later block other count more clears : ℕ) (before : Before) → next ≡ later → block ≡ other → count ≡ more
    → Stands next block count clears before → Stands later other more clears before
stands_at next later block other count more clears before later_is other_is more_is stands =
    subst (λ (n : ℕ). Stands later other n clears before) more_is
    (subst (λ (n : ℕ). Stands later n count clears before) other_is
    (subst (λ (n : ℕ). Stands n block count clears before) later_is stands))

-- ---- a batch

-- the first lines of a batch
lines_go : (line : ℕ → ℕ → List ℕ) → GoesOn line → (number block clears : ℕ) (before : Before) → Stands number block 0 clears before → 1 ≤ number
    → (k : ℕ) → k ≤ 1024 → number + k ≤ 65536 → block + k ≤ 10 ^ 5
    → Goes (texts (λ j. line (number + j) (block + j)) k) before (Stands (number + k) (block + k) k clears)
lines_go line goes number block clears before stands low zero few high named = record {
  after = before;
  reads = reads_none before;
  stands = stands_at number (number + 0) block (block + 0) 0 0 clears before (omega arith) (omega arith) refl stands;
}
lines_go line goes number block clears before stands low (suc k) few high named =
    goes_as (texts (λ j. line (number + j) (block + j)) (suc k)) before (Stands (number + k + 1) (block + k + 1) (k + 1) clears) (Stands (number + suc k) (block + suc k) (suc k) clears)
    (λ after. stands_at (number + k + 1) (number + suc k) (block + k + 1) (block + suc k) (k + 1) (suc k) clears after (omega arith) (omega arith) (omega arith))
    (goes_then (texts (λ j. line (number + j) (block + j)) k) (line (number + k) (block + k)) before
    (Stands (number + k) (block + k) k clears) (Stands (number + k + 1) (block + k + 1) (k + 1) clears)
    (lines_go line goes number block clears before stands low k (omega arith) (omega arith) (omega arith))
    (λ middle there. goes (number + k) (block + k) k clears middle there (omega arith) (omega arith) (omega arith) (omega arith)))

batch_goes : (line : ℕ → ℕ → List ℕ) → GoesOn line → (number block size first clears : ℕ) (before : Before) → Stands number block 0 clears before → 1 ≤ number
    → 1 ≤ size → size ≤ 1024 → number + size ≤ 65536 → block + size ≤ 10 ^ 5
    → Goes (batch line number block size) before (Stands (number + size) first 0 clears)
batch_goes line goes number block size first clears before stands low some few high named =
    goes_then (texts (λ j. line (number + j) (block + j)) size) go_line before (Stands (number + size) (block + size) size clears) (Stands (number + size) first 0 clears)
    (lines_go line goes number block clears before stands low size few high named)
    (λ middle there. go_goes (number + size) (block + size) size clears first middle there some)

-- ---- a group

group_goes : (seed number block size first clears : ℕ) (before : Before) → seed < 2 ^ 32 → Stands number block 0 clears before → 1 ≤ number
    → 1 ≤ size → size ≤ 1024 → number + 3 * size ≤ 65536 → block + size ≤ 10 ^ 5
    → Goes (group_lines seed number block size) before (Stands (number + 2 * size + size) first 0 clears)
group_goes seed number block size first clears before small stands low some few high named =
    let writes = batch (write_line seed) number block size in
    let reads = batch read_line (number + size) block size in
    let frees = batch free_line (number + 2 * size) block size in
    goes_then (writes ++ reads) frees before (Stands (number + 2 * size) block 0 clears) (Stands (number + 2 * size + size) first 0 clears)
    (goes_then writes reads before (Stands (number + size) block 0 clears) (Stands (number + 2 * size) block 0 clears)
    (batch_goes (write_line seed) (write_goes seed small) number block size block clears before stands low some few (omega arith) named)
    (λ written there.
    goes_as reads written (Stands (number + size + size) block 0 clears) (Stands (number + 2 * size) block 0 clears)
    (λ after. stands_at (number + size + size) (number + 2 * size) block block 0 0 clears after (omega arith) refl refl)
    (batch_goes read_line read_goes (number + size) block size block clears written there (omega arith) some few (omega arith) named)))
    (λ read left.
    batch_goes free_line free_goes (number + 2 * size) block size first clears read left (omega arith) some few (omega arith) named)

-- ---- all groups

-- the next request and the next block, behind so many groups of eight blocks
abbrev pub StandsAt : ℕ → Before → Type 0
StandsAt group before = Stands (3 * group_max * group + 1) (group_max * group + 1) 0 0 before

pub groups_go : (seed n : ℕ) (before : Before) → seed < 2 ^ 32 → n ≤ 20000 → StandsAt 0 before → (groups : ℕ) → groups ≤ (n + group_max - 1) / group_max
    → Goes (texts (group_text seed n) groups) before (StandsAt groups)
groups_go seed n before small most stands zero few = record { after = before; reads = reads_none before; stands = stands }
groups_go seed n before small most stands (suc g) few =
    let size = group_size n g in
    let number = 3 * group_max * g + 1 in
    let block = group_max * g + 1 in
    let some : 1 ≤ size = omega arith in
    let eight : size ≤ 8 = omega arith in
    let in_all : group_max * g + size ≤ n = omega arith in
    goes_then (texts (group_text seed n) g) (group_text seed n g) before (StandsAt g) (StandsAt (suc g))
    (groups_go seed n before small most stands g (omega arith))
    (λ middle there.
    goes_as (group_text seed n g) middle (Stands (number + 2 * size + size) (group_max * suc g + 1) 0 0) (StandsAt (suc g))
    (λ after. stands_later (number + 2 * size + size) (3 * group_max * suc g + 1) (group_max * suc g + 1) 0 0 after (omega arith))
    (group_goes seed number block size (group_max * suc g + 1) 0 middle small there (omega arith) some (omega arith) (omega arith) (omega arith)))
