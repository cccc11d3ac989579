use Rattle.std.proofs.Common.{◌≡◌, Some, slice_get, ap, refl, ◌∙◌, List}
use Rattle.zio_frames.specs.Frames.{Child}
use Rattle.zio_frames.specs.Moves.{child_told}
use Rattle.zio_stages.proofs.OwnGangLemmas.{tells_read, told_is}
use Rattle.zio_stages.proofs.RequestReadMoves.{own_over_marked}
use Rattle.zio_stages.proofs.own_read.OwnRead.arrive_ready.Goals as goal

pub returns-clause-told : goal.returns-clause-told
returns-clause-told c = λ t tree front_asked before st x n pointer there seat seated goes untold h.
    let family = c.args.family.now in
    let mine : slice_get family c.args.child ≡ Some x = ap (λ (cs : List Child). slice_get cs c.args.child) h.children ∙ there in
    tells_read t c.args.self.now family c.tell.new.self tree front_asked before st c.args.child n x pointer seated goes untold there seat
    (told_is family c.tell.new.self c.args.child x mine c.tell.ensures) h

pub returns-clause-over : goal.returns-clause-over
returns-clause-over c = λ tops over.
    let w = c.args.self.now in
    own_over_marked tops w.tree w.tree w.body c.args.family.now c.tell.new.self c.args.child child_told (λ d. refl) (λ d e. e) c.requires.child c.tell.ensures
    (λ b is out. out) over
