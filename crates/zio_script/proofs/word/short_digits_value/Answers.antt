use Rattle.std.proofs.Common.{◌∙◌, ◌+◌, ◌*◌, arith, sym, ap}
use Rattle.zio_script.proofs.WordLemmas.{short_turn}
use Rattle.zio_script.proofs.word.short_digits_value.Goals as goal

pub overflow_mul-value : goal.overflow_mul-value
overflow_mul-value c =
    let digit = sym c.if-not-is_ascii_digit.ensures.value in
    let turn = short_turn c.args.word.now c.loop-c.c-index c.loop-c.value c.loop-c.invariant.digits c.loop-c.invariant.value c.loop-c-test.true c.requires digit in
    omega (arith, turn.room)

pub overflow_add-value : goal.overflow_add-value
overflow_add-value c =
    let digit = sym c.if-not-is_ascii_digit.ensures.value in
    let turn = short_turn c.args.word.now c.loop-c.c-index c.loop-c.value c.loop-c.invariant.digits c.loop-c.invariant.value c.loop-c-test.true c.requires digit in
    omega (arith, turn.room, turn.digit, c.from.ensures)

pub loop-c-preserved : goal.loop-c-preserved
loop-c-preserved c =
    let digit = sym c.if-not-is_ascii_digit.ensures.value in
    let turn = short_turn c.args.word.now c.loop-c.c-index c.loop-c.value c.loop-c.invariant.digits c.loop-c.invariant.value c.loop-c-test.true c.requires digit in
    record { digits = turn.all; value = ap (λ n. c.loop-c.value * 10 + n) c.from.ensures ∙ turn.next }
