use Rattle.std.proofs.Common.{◌≡◌, Some, slice_get, ap, ◌∙◌, List}
use Rattle.zio_frames.specs.Frames.{Child}
use Rattle.zio_stages.proofs.OwnClaimLemmas.{claim_tells}
use Rattle.zio_stages.proofs.OwnGangLemmas.{told_is}
use Rattle.zio_stages.proofs.RequestReadMoves.{none_told}
use Rattle.zio_stages.proofs.own_claim.OwnClaim.arrive_ready.Goals as goal

pub returns-clause-told : goal.returns-clause-told
returns-clause-told c = λ bp front_asked before st x pointer there seat h.
    let family = c.args.family.now in
    let mine : slice_get family c.args.child ≡ Some x = ap (λ (cs : List Child). slice_get cs c.args.child) h.children ∙ there in
    claim_tells c.args.self.now family c.tell.new.self bp front_asked before st c.args.child x pointer c.requires.out seat (told_is family c.tell.new.self c.args.child x mine c.tell.ensures) h

pub returns-clause-sits : goal.returns-clause-sits
returns-clause-sits c = λ none. none_told c.args.family.now c.tell.new.self c.args.child c.requires.child c.tell.ensures none
