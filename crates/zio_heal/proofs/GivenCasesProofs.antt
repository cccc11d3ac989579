-- Copies that hold what was given, and a stale one that nobody read, evaluated.
use Rattle.std.proofs.Common.{◌≡◌, ℕ, List, get_or, replicate, Option, Some, None, refl, sym, ap, ◌∙◌, arith}
use Rattle.zio_gang.specs.Attempts.{attempt_each, settle_from}
use Rattle.zio_gang.specs.Rounds.{settle_each}
use Rattle.zio_gang.specs.Runs.{run_held, run_lines}
use Rattle.zio_gang.specs.Trees.{free_tree, read_tree, walk}
use Rattle.zio_gang.specs.Writes.{place_part}
use Rattle.zio_heal.specs.GivenCases.{AllPlacesCount, BytesOfNobodyArent, ErrorsAreTrue, GivenBytesAreTrue, HeadersAreCompared, LastReadsCount, LastWriteCounts, NobodyReadIt, NothingWasGiven, OtherBytesArent, RunAcceptsWhatWasGiven}

pub last_write_counts : LastWriteCounts
last_write_counts = refl

pub nothing_was_given : NothingWasGiven
nothing_was_given = refl

pub all_places_count : AllPlacesCount
all_places_count = (refl, refl, refl)

pub given_bytes_are_true : GivenBytesAreTrue
given_bytes_are_true = refl

-- the first byte of what was given
first_of : Option (List ℕ) → ℕ
first_of None = 0
first_of (Some bytes) = get_or bytes 0 0

other_first : (given taken : List ℕ) (a b : ℕ) → get_or given 0 0 ≡ a → get_or taken 0 0 ≡ b → (a ≡ b → ⊥) → Some given ≡ Some taken → ⊥
unfolding first_of
other_first given taken a b x y ne e = ne (sym x ∙ ap first_of e ∙ y)

pub other_bytes_arent : OtherBytesArent
other_bytes_arent h = other_first (replicate 512 65) (replicate 512 66) 65 66 refl refl (λ e. omega (arith, e)) h

some_or_none : (bytes : List ℕ) → Some bytes ≡ None → ⊥
some_or_none bytes e = cc

pub bytes_of_nobody_arent : BytesOfNobodyArent
bytes_of_nobody_arent h = some_or_none (replicate 512 65) (sym h)

pub errors_are_true : ErrorsAreTrue
errors_are_true = tt

pub headers_are_compared : HeadersAreCompared
headers_are_compared = tt

pub run_accepts_what_was_given : RunAcceptsWhatWasGiven
unfolding attempt_each settle_from settle_each run_held run_lines walk read_tree free_tree place_part
run_accepts_what_was_given = (tt, (tt, (refl, (refl, tt))))

pub nobody_read_it : NobodyReadIt
unfolding attempt_each settle_from settle_each run_held run_lines walk read_tree free_tree place_part
nobody_read_it = (tt, (tt, tt))

pub last_reads_count : LastReadsCount
unfolding attempt_each settle_from settle_each run_held run_lines walk read_tree free_tree place_part
last_reads_count h = other_first (replicate 512 65) (replicate 512 0) 65 0 refl refl (λ e. omega (arith, e)) h.1.1.0
