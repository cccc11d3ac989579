-- The definitions that reading a script and running it compute with.
use Rattle.std.specs.Fmt.{digits}
use Rattle.hex.specs.Hex.{encode_with, decode_pairs}
use Rattle.zio_script.specs.Grammar.{read_lines}
use Rattle.zio_cksum.specs.Sums.{fletcher4, fletcher_after}
use Rattle.zio_gang.specs.Attempts.{attempt_each, settle_from}
use Rattle.zio_gang.specs.Rounds.{settle_each}
use Rattle.zio_gang.specs.Runs.{run_held, run_lines}
use Rattle.zio_gang.specs.Trees.{walk, read_tree}
use Rattle.zio_gang.specs.Writes.{place_part}

-- A proof that names this computes with all of them.
unfoldable pub evaluation : Unit {0}
unfolding digits encode_with decode_pairs read_lines fletcher4 fletcher_after attempt_each settle_from settle_each run_held run_lines walk read_tree place_part
evaluation = tt
