use Rattle.std.proofs.Common.{◌≡◌, ◌+◌, Some, slice_get, ap, refl, ◌∙◌, List, length, arith}
use Rattle.zio_trace.specs.Tasks.{WalkedBy}
use Rattle.zio_frames.specs.Frames.{Child, OfOuter}
use Rattle.zio_parts.specs.HeadWalks.{no_walk}
use Rattle.zio_stages.specs.declared.own_read.OwnRead.{OwnRead}
use Rattle.zio_stages.proofs.NodeIoLemmas.{ended_is}
use Rattle.zio_stages.proofs.OwnGangLemmas.{hears_read}
use Rattle.zio_stages.proofs.RequestReadMoves.{none_ended}
use Rattle.zio_stages.proofs.own_read.OwnRead.arrive_walked.Goals as goal

pub hear_walk-requires : goal.hear_walk-requires
hear_walk-requires c = (no_walk, c.requires.out no_walk)

pub returns-clause-heard : goal.returns-clause-heard
returns-clause-heard c = λ t tree front_asked before st x there seat h.
    let old = c.args.self.now in
    let family = c.args.family.now in
    let new : OwnRead = record { tree = c.hear_walk.new.self; body = old.body } in
    let mine : slice_get family c.args.child ≡ Some x = ap (λ (cs : List Child). slice_get cs c.args.child) h.children ∙ there in
    let at : length before ≡ length before + 0 = omega arith in
    hears_read t old new family c.end.new.self tree front_asked before st c.args.child 0 x (WalkedBy c.args.walked) refl there (seat ∙ ap (λ n. OfOuter n) at)
    (ended_is family c.end.new.self c.args.child x mine c.end.ensures) h (c.hear_walk.ensures.heard tree h.asked h.begun h.work)

pub returns-clause-sits : goal.returns-clause-sits
returns-clause-sits c = λ none. none_ended c.args.family.now c.end.new.self c.args.child c.requires.child c.end.ensures none
