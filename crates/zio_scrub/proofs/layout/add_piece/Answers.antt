use Rattle.zio_scrub.proofs.PlaceLemmas.{low_sectors}
use Rattle.zio_scrub.proofs.layout.add_piece.Goals as goal

pub add_places-requires : goal.add_places-requires
add_places-requires c = low_sectors c.args.piece.now.pointer c.requires
