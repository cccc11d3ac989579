use Rattle.std.proofs.Common.{◌≡◌, Some, slice_get, ap, sym, subst, ◌∙◌, List}
use Rattle.zio_frames.specs.Frames.{Child}
use Rattle.zio_frames.specs.Moves.{heard_early}
use Rattle.zio_stages.specs.OwnFrees.{IsOwnFree}
use Rattle.zio_stages.specs.declared.own_free.FreeWalk.{FreeWalk}
use Rattle.zio_stages.proofs.OwnFreeLemmas.{free_tells}
use Rattle.zio_stages.proofs.OwnGangLemmas.{told_is}
use Rattle.zio_stages.proofs.RequestReadMoves.{none_told}
use Rattle.zio_stages.proofs.own_free.OwnFree.arrive_ready.Goals as goal

pub returns-clause-told : goal.returns-clause-told
returns-clause-told c = λ tree front_asked before st x pointer there seat h.
    let family = c.args.family.now in
    let mine : slice_get family c.args.child ≡ Some x = ap (λ (cs : List Child). slice_get cs c.args.child) h.children ∙ there in
    subst (λ (w : FreeWalk). IsOwnFree w c.tell.new.self tree front_asked before (heard_early st c.args.child x pointer)) (sym c.requires.out)
    (free_tells family c.tell.new.self tree front_asked before st c.args.child x pointer seat (told_is family c.tell.new.self c.args.child x mine c.tell.ensures)
    (subst (λ (w : FreeWalk). IsOwnFree w family tree front_asked before st) c.requires.out h))

pub returns-clause-sits : goal.returns-clause-sits
returns-clause-sits c = λ none. none_told c.args.family.now c.tell.new.self c.args.child c.requires.child c.tell.ensures none
