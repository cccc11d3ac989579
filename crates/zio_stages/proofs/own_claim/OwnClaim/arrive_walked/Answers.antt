use Rattle.std.proofs.Common.{◌≡◌, Some, Ok, Err, slice_get, refl, sym, ap, ◌∙◌, List, IsTrue}
use Rattle.zio_blkptr.specs.Pointers.{valid}
use Rattle.zio_gang.specs.declared.tree.Tree.{Tree}
use Rattle.zio_frames.specs.Frames.{Child}
use Rattle.zio_stages.specs.OwnClaims.{LiesFound}
use Rattle.zio_stages.specs.declared.own_claim.ClaimStep.TheVariants.{Failed, Found}
use Rattle.zio_stages.specs.declared.own_claim.OwnClaim.{OwnClaim}
use Rattle.zio_stages.proofs.NodeIoLemmas.{ended_is}
use Rattle.zio_stages.proofs.OwnClaimLemmas.{claim_hears, lies_of, walked_over}
use Rattle.zio_stages.proofs.RequestHears.{if_there}
use Rattle.zio_stages.proofs.RequestReadMoves.{none_ended}
use Rattle.zio_stages.proofs.own_claim.OwnClaim.arrive_walked.Goals as goal

pub returns-in-Ok-clause-heard : goal.returns-in-Ok-clause-heard
returns-in-Ok-clause-heard c = λ bp front_asked before st x there seat h.
    let old = c.args.self.now in
    let family = c.args.family.now in
    let new : OwnClaim = record { block = Some c.in-Ok.tree; step = Found } in
    let mine : slice_get family c.args.child ≡ Some x = ap (λ (cs : List Child). slice_get cs c.args.child) h.children ∙ there in
    claim_hears old new c.in-Some.tree family c.end.new.self bp front_asked before st c.args.child x c.args.walked (Ok c.in-Ok.tree) c.in-Some.is c.requires.out (refl, refl)
    c.in-Ok.ensures seat (ended_is family c.end.new.self c.args.child x mine c.end.ensures) h

pub returns-in-Err-clause-heard : goal.returns-in-Err-clause-heard
returns-in-Err-clause-heard c = λ bp front_asked before st x there seat h.
    let old = c.args.self.now in
    let family = c.args.family.now in
    let new : OwnClaim = record { block = old.block; step = Failed c.in-Err.error } in
    let mine : slice_get family c.args.child ≡ Some x = ap (λ (cs : List Child). slice_get cs c.args.child) h.children ∙ there in
    claim_hears old new c.in-Some.tree family c.end.new.self bp front_asked before st c.args.child x c.args.walked (Err c.in-Err.error) c.in-Some.is c.requires.out (c.in-Some.is, refl)
    c.in-Err.ensures seat (ended_is family c.end.new.self c.args.child x mine c.end.ensures) h

pub returns-in-Ok-clause-over : goal.returns-in-Ok-clause-over
returns-in-Ok-clause-over c =
    let block = c.in-Some.tree in
    let Q : Tree → Type 0 = λ tree. IsTrue (valid tree.bp) × LiesFound c.args.tops.now tree c.args.self.now.step in
    let same : Some c.requires.lies.0 ≡ Some block = sym c.requires.lies.1 ∙ c.in-Some.is in
    walked_over c.args.tops.now block.bp c.args.walked c.in-Ok.tree (lies_of c.args.tops.now c.requires.lies.0 block c.args.walked same c.requires.lies.2)
    (if_there c.args.self.now.block Q block c.requires.over c.in-Some.is).0 c.in-Ok.ensures

pub returns-in-Ok-clause-sits : goal.returns-in-Ok-clause-sits
returns-in-Ok-clause-sits c = λ none. none_ended c.args.family.now c.end.new.self c.args.child c.requires.child c.end.ensures none

pub returns-in-Err-clause-sits : goal.returns-in-Err-clause-sits
returns-in-Err-clause-sits c = λ none. none_ended c.args.family.now c.end.new.self c.args.child c.requires.child c.end.ensures none
