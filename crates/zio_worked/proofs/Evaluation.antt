-- The definitions that a run of a script computes with.
use Rattle.std.specs.Fmt.{digits}
use Rattle.hex.specs.Hex.{encode_with, decode_pairs}
use Rattle.sha2.specs.Sha256.{first_words, schedule, rounds, compress, hash_after, digest_bytes, sha256}
use Rattle.zio_script.specs.Bodies.{generated, sequence}
use Rattle.zio_cksum.specs.Sums.{fletcher4, fletcher_after, sha256_words}
use Rattle.zio_gang.specs.Attempts.{attempt_each, settle_from}
use Rattle.zio_gang.specs.Rounds.{settle_each}
use Rattle.zio_gang.specs.Runs.{run_held, run_lines}
use Rattle.zio_gang.specs.Trees.{walk, read_tree, free_tree, claim_tree}
use Rattle.zio_gang.specs.Writes.{place_part}

-- A proof that names this computes with all of them.
unfoldable pub evaluation : Unit {0}
unfolding digits encode_with decode_pairs generated sequence fletcher4 fletcher_after sha256_words first_words schedule rounds compress hash_after digest_bytes sha256 attempt_each settle_from settle_each run_held run_lines walk read_tree free_tree claim_tree place_part
evaluation = tt
