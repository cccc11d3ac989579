use Rattle.std.proofs.Common.{refl}
use Rattle.zio_blkptr.specs.Pointers.{pointer_of}
use Rattle.zio_stages.specs.declared.own_claim.ClaimStep.TheVariants.{Due}
use Rattle.zio_stages.specs.declared.own_claim.OwnClaim.{OwnClaim}
use Rattle.zio_stages.proofs.OwnClaimLemmas.{fresh_claim, fresh_claim_over}
use Rattle.zio_stages.proofs.own_claim.OwnClaim.new.Goals as goal

pub returns-clause-fresh : goal.returns-clause-fresh
returns-clause-fresh c = λ family front_asked front st children behind alone.
    let w : OwnClaim = record { block = c.block_of.result; step = Due } in
    fresh_claim w family (pointer_of c.args.bytes.now) front_asked front st c.block_of.ensures refl children behind alone

pub returns-clause-over : goal.returns-clause-over
returns-clause-over c = λ tops. fresh_claim_over tops (pointer_of c.args.bytes.now) c.block_of.result c.block_of.ensures
