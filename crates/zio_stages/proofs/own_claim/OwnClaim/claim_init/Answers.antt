use Rattle.std.proofs.Common.{◌≡◌, [], Some, Ok, Err, refl, sym, subst, IsTrue}
use Rattle.zio_blkptr.specs.declared.pointer.Bp.{Bp}
use Rattle.zio_blkptr.specs.Pointers.{valid}
use Rattle.zio_gang.specs.declared.tree.Tree.{Tree}
use Rattle.zio_gang.specs.Attempts.{Terms}
use Rattle.zio_gang.specs.Trees.{header_levels_max}
use Rattle.zio_trace.specs.Plans.{plan}
use Rattle.zio_trace.specs.Programs.{Ends}
use Rattle.zio_trace.specs.Tasks.{ByClaim, ReadHeads, Walked, WalkedBy}
use Rattle.zio_stages.specs.OwnClaims.{LiesFound}
use Rattle.zio_stages.specs.declared.own_claim.ClaimStep.TheVariants.{Failed, Found}
use Rattle.zio_stages.specs.declared.own_claim.OwnClaim.{OwnClaim}
use Rattle.zio_stages.proofs.OwnClaimLemmas.{claim_walks, found_lies}
use Rattle.zio_stages.proofs.RequestHears.{if_there}
use Rattle.zio_stages.proofs.own_claim.OwnClaim.claim_init.Goals as goal

pub returns-in-Ok-clause-walks : goal.returns-in-Ok-clause-walks
returns-in-Ok-clause-walks c = λ _ t family pointer front_asked front st goes h.
    let old = c.args.self.now in
    let block = c.in-Some.tree in
    let new : OwnClaim = record { block = Some c.in-Ok.tree; step = Found } in
    let P : Walked → Type 0 = λ w. (t : Terms) → t.setting.tops ≡ c.args.tops.now → plan t (ReadHeads ByClaim header_levels_max [] block.bp) ≡ Ends (WalkedBy w) in
    claim_walks t c.args.tops.now old new block family pointer front_asked front st c.in-Some-2.walked (Ok c.in-Ok.tree) c.in-Some.is c.requires.due (refl, refl)
    (if_there c.in_ok-walked.field-0 P c.in-Some-2.walked c.in_ok-walked.ensures.ends c.in-Some-2.is t goes.tops_are) c.in-Ok.ensures goes h

pub returns-in-Ok-clause-over : goal.returns-in-Ok-clause-over
returns-in-Ok-clause-over c =
    let block = c.in-Some.tree in
    let P : Walked → Type 0 = λ w. (t : Terms) → t.setting.tops ≡ c.args.tops.now → plan t (ReadHeads ByClaim header_levels_max [] block.bp) ≡ Ends (WalkedBy w) in
    let lies = found_lies c.args.tops.now block.bp c.in-Some-2.walked c.in-Ok.tree (λ t e. if_there c.in_ok-walked.field-0 P c.in-Some-2.walked c.in_ok-walked.ensures.ends c.in-Some-2.is t e) c.in-Ok.ensures in
    let Q : Tree → Type 0 = λ tree. IsTrue (valid tree.bp) × LiesFound c.args.tops.now tree c.args.self.now.step in
    (subst (λ (b : Bp). IsTrue (valid b)) (sym lies.0) (if_there c.args.self.now.block Q block c.requires.over c.in-Some.is).0, lies.1)

pub returns-in-Err-clause-walks : goal.returns-in-Err-clause-walks
returns-in-Err-clause-walks c = λ _ t family pointer front_asked front st goes h.
    let old = c.args.self.now in
    let block = c.in-Some.tree in
    let new : OwnClaim = record { block = old.block; step = Failed c.in-Err.error } in
    let P : Walked → Type 0 = λ w. (t : Terms) → t.setting.tops ≡ c.args.tops.now → plan t (ReadHeads ByClaim header_levels_max [] block.bp) ≡ Ends (WalkedBy w) in
    claim_walks t c.args.tops.now old new block family pointer front_asked front st c.in-Some-2.walked (Err c.in-Err.error) c.in-Some.is c.requires.due (c.in-Some.is, refl)
    (if_there c.in_ok-walked.field-0 P c.in-Some-2.walked c.in_ok-walked.ensures.ends c.in-Some-2.is t goes.tops_are) c.in-Err.ensures goes h
