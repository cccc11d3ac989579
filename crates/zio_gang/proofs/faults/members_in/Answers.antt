use Rattle.std.proofs.Common.{arith, refl, ◌∙◌}
use Rattle.std.proofs.lemmas.Result.{err_from_is_err_and}
use Rattle.zio_gang.proofs.HeaderLemmas.{garbled_fault, present_are_members, scattered_fault}
use Rattle.zio_gang.proofs.faults.members_in.Goals as goal

pub returns-in_err-first : goal.returns-in_err-first
returns-in_err-first c =
    let p = err_from_is_err_and c.from_residual.result c.from_residual.ensures.1 in
    rw p.1 (garbled_fault c.args.bytes.now 0 (omega arith) c.in_err-first.ensures.0, p.2 ∙ c.in_err-first.ensures.1)

pub returns-in_err-second : goal.returns-in_err-second
returns-in_err-second c =
    let p = err_from_is_err_and c.from_residual-in_err-second.result c.from_residual-in_err-second.ensures.1 in
    rw p.1 (garbled_fault c.args.bytes.now 1 (omega arith) c.in_err-second.ensures.0, p.2 ∙ c.in_err-second.ensures.1)

pub returns-in_err-third : goal.returns-in_err-third
returns-in_err-third c =
    let p = err_from_is_err_and c.from_residual-in_err-third.result c.from_residual-in_err-third.ensures.1 in
    rw p.1 (garbled_fault c.args.bytes.now 2 (omega arith) c.in_err-third.ensures.0, p.2 ∙ c.in_err-third.ensures.1)

pub returns-in-Some : goal.returns-in-Some
returns-in-Some c =
    present_are_members c.args.bytes.now c.in_ok-first.first c.in_ok-second.second c.in_ok-third.third c.in-Some.header
    c.in_ok-first.ensures c.in_ok-second.ensures c.in_ok-third.ensures c.in-Some.ensures

pub returns-in-None : goal.returns-in-None
returns-in-None c = (
  scattered_fault c.args.bytes.now c.in_ok-first.first c.in_ok-second.second c.in_ok-third.third
      c.in_ok-first.ensures c.in_ok-second.ensures c.in_ok-third.ensures c.in-None.ensures,
  refl,
)
