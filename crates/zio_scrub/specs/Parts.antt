-- The headers and the bodies under a pointer, as the code holds them.
use Rattle.zio_gang.specs.Pieces.{Parts as Seen}
use Rattle.zio_scrub.specs.declared.blocks.Parts.{Parts}
use Rattle.zio_scrub.specs.Pieces.{all_seen}

abbrev pub seen_parts : Parts → Seen
seen_parts parts = record { heads = all_seen parts.heads; bodies = all_seen parts.bodies }
