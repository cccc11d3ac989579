use Rattle.std.proofs.Common.{sym, ◌∙◌, subst}
use Rattle.zio_command.specs.Shelves.{AreOut, KeptComeHome}
use Rattle.zio_command.proofs.shelf.give_back_images.Goals as goal

pub returns-clause-home : goal.returns-clause-home
returns-clause-home g c tells names images are =
    c.give_back_rest.ensures.home tells names images
    (subst (λ ds. AreOut g.H.Disk.Disk.home g.H.Disk.Disk.image (g.H.Shelf.out c.args.shelf.now) names images ds)
    (sym (c.into_rest.ensures ∙ c.from_vec.ensures)) are)

pub returns-clause-stable_home : goal.returns-clause-stable_home
returns-clause-stable_home g c tells names images are =
    let same = c.into_rest.ensures ∙ c.from_vec.ensures in
    subst (λ ds. KeptComeHome g.H.Disk.Disk.keeps names ds (g.H.Shelf.keeps c.args.shelf.now) (g.H.Shelf.keeps c.give_back_rest.new.shelf)) same
    (c.give_back_rest.ensures.stable_home tells names images
    (subst (λ ds. AreOut g.H.Disk.Disk.home g.H.Disk.Disk.image (g.H.Shelf.out c.args.shelf.now) names images ds) (sym same) are))
