use Rattle.zio_disks.specs.Trees.{IsBodyOf}
use Rattle.zio_disks.proofs.BodyLemmas.{first_of}
use Rattle.zio_disks.proofs.bodies.join_bodies.Goals as goal

pub read_body-requires-clause-listed : goal.read_body-requires-clause-listed
read_body-requires-clause-listed g c = first_of (IsBodyOf c.args.tree.now) c.args.bodies.now _ c.in-len1.len_at_least c.requires.bodies
