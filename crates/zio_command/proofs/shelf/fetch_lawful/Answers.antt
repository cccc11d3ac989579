use Rattle.zio_command.proofs.ShelfLemmas.{StaysHome-after_one}
use Rattle.zio_command.proofs.shelf.fetch_lawful.Goals as goal

pub returns-else-is_lawful_size-clause-stays : goal.returns-else-is_lawful_size-clause-stays
returns-else-is_lawful_size-clause-stays g c tells =
    let handed = c.in-Ok.ensures.disk tells in
    let still = c.in-Ok.ensures.tells.0 tells in
    StaysHome-after_one c.args.name.now handed.0
    (g.H.Shelf.image c.args.shelf.now) (g.H.Shelf.image c.fetch.new.self) (g.H.Shelf.image c.give_back.new.self)
    (g.H.Shelf.out c.args.shelf.now) (g.H.Shelf.out c.fetch.new.self) (g.H.Shelf.out c.give_back.new.self)
    (c.in-Ok.ensures.out tells) (c.give_back.ensures.home still c.args.name.now handed.0 handed.3 handed.2)
    handed.1 (g.met.H.Shelf.one_image c.args.shelf.now) (c.requires.home tells)
