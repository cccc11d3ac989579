use Rattle.std.proofs.Common.{refl, sym, subst}
use Rattle.zio_stages.specs.declared.own_claim.ClaimStep.TheVariants.{Out}
use Rattle.zio_stages.specs.declared.own_claim.OwnClaim.{OwnClaim}
use Rattle.zio_stages.proofs.OwnClaimLemmas.{claim_hands, out_over}
use Rattle.zio_stages.specs.NodeIos.{NoneSits}
use Rattle.zio_stages.specs.declared.family.Layer.TheVariants.{Within}
use Rattle.zio_stages.proofs.PartMembers.{none_beside}
use Rattle.zio_stages.proofs.own_claim.OwnClaim.gang_assemble.Goals as goal

pub returns-clause-hands : goal.returns-clause-hands
returns-clause-hands c = λ t tops bp front_asked before st count goes h.
    let old = c.args.self.now in
    let new : OwnClaim = record { block = old.block; step = Out } in
    claim_hands t tops old new c.args.family.now c.add.new.self bp front_asked before st c.args.front count c.requires.due refl refl c.in_ok-add.ensures.ok goes h

pub returns-clause-over : goal.returns-clause-over
returns-clause-over c = λ tops h.
    let old = c.args.self.now in
    let new : OwnClaim = record { block = old.block; step = Out } in
    out_over tops old new refl refl h

pub returns-clause-sits : goal.returns-clause-sits
returns-clause-sits c = λ none. subst (NoneSits Within) (sym c.in_ok-add.ensures.ok) (none_beside c.args.family.now c.args.front none)
