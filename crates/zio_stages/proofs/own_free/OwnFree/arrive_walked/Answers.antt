use Rattle.std.proofs.Common.{◌≡◌, Some, slice_get, ap, subst, ◌∙◌, List}
use Rattle.zio_frames.specs.Frames.{Child}
use Rattle.zio_stages.specs.OwnFrees.{IsOwnFree}
use Rattle.zio_stages.specs.declared.own_free.FreeWalk.{FreeWalk}
use Rattle.zio_stages.proofs.NodeIoLemmas.{ended_is}
use Rattle.zio_stages.proofs.OwnFreeLemmas.{free_hears}
use Rattle.zio_stages.proofs.RequestReadMoves.{none_ended}
use Rattle.zio_stages.proofs.own_free.OwnFree.arrive_walked.Goals as goal

pub returns-clause-heard : goal.returns-clause-heard
returns-clause-heard c = λ tree front_asked before st x there seat h.
    let family = c.args.family.now in
    let mine : slice_get family c.args.child ≡ Some x = ap (λ (cs : List Child). slice_get cs c.args.child) h.children ∙ there in
    free_hears family c.end.new.self tree front_asked before st c.args.child x c.args.walked c.error.result seat (ended_is family c.end.new.self c.args.child x mine c.end.ensures) c.error.ensures.worst
    (subst (λ (w : FreeWalk). IsOwnFree w family tree front_asked before st) c.requires.out h)

pub returns-clause-sits : goal.returns-clause-sits
returns-clause-sits c = λ none. none_ended c.args.family.now c.end.new.self c.args.child c.requires.child c.end.ensures none
