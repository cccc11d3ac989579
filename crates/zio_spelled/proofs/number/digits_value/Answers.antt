use Rattle.std.proofs.Common.{◌≤◌, rules, arith}
use Rattle.std.specs.Str.Parse.{digits_value}
use Rattle.zio_script.proofs.WordLemmas.{digits_turn}
use Rattle.zio_spelled.proofs.number.digits_value.Goals as goal

pub returns-in_err-checked_mul : goal.returns-in_err-checked_mul
returns-in_err-checked_mul c =
    let turn = digits_turn c.args.digits.now c.loop-digit.digit-index c.loop-digit.value c.requires (search rules) c.loop-digit.invariant in
    let large : 18446744073709551616 ≤ digits_value 10 c.args.digits.now = omega (arith, turn.below, c.in_err-checked_mul.ensures) in
    search rules

pub returns-in_err-value : goal.returns-in_err-value
returns-in_err-value c =
    let turn = digits_turn c.args.digits.now c.loop-digit.digit-index c.loop-digit.value c.requires (search rules) c.loop-digit.invariant in
    let large : 18446744073709551616 ≤ digits_value 10 c.args.digits.now = omega (arith, turn.below, c.in_err-value.ensures, c.in_ok-checked_mul.ensures, c.from.ensures) in
    search rules

pub loop-digit-preserved : goal.loop-digit-preserved
loop-digit-preserved c =
    let turn = digits_turn c.args.digits.now c.loop-digit.digit-index c.loop-digit.value c.requires (search rules) c.loop-digit.invariant in
    let turn_next = turn.next in
    grind arith
