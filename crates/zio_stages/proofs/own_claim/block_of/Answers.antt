use Rattle.std.proofs.Common.{Option, Some, None, sym, subst, IsTrue}
use Rattle.zio_blkptr.specs.declared.pointer.Bp.{Bp}
use Rattle.zio_blkptr.specs.Pointers.{valid}
use Rattle.zio_blkptr.proofs.PointerLemmas.{spelling-pointer}
use Rattle.zio_stages.specs.OwnClaims.{IsBlockOf}
use Rattle.zio_stages.proofs.own_claim.block_of.Goals as goal

pub returns-in-Ok : goal.returns-in-Ok
returns-in-Ok c =
    subst (λ (o : Option Bp). IsBlockOf o (Some c.plain.result)) (sym c.in-Ok.ensures.pointer)
    (c.plain.ensures.bp, subst (λ (b : Bp). IsTrue (valid b)) (sym c.plain.ensures.bp) (spelling-pointer c.args.bytes.now c.in-Ok.bp c.in-Ok.ensures.pointer).0)

pub returns-in-Err : goal.returns-in-Err
returns-in-Err c = subst (λ (o : Option Bp). IsBlockOf o None) (sym c.in-Err.ensures.pointer) tt
