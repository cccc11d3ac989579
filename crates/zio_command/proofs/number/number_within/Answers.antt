use Rattle.std.proofs.Common.{◌≡◌, ◌≤◌, ◌<◌, ◌^◌, sym, ◌∙◌, arith}
use Rattle.std.proofs.lemmas.Fmt.{decimal_injective}
use Rattle.zio_command.proofs.number.number_within.Goals as goal
use Rattle.zio_command.proofs.number.number_within.Goals.{else-from-n-via-then-from-n+else-n-from, else-from-n-via-else-from-n}

pub returns-else-from-n : goal.returns-else-from-n
returns-else-from-n c m within same =
    let low : c.args.least ≤ m = within.low in
    let high : m ≤ c.args.most = within.high in
    let most : c.args.most < 2 ^ 32 = c.ranges.most.fits in
    let is : c.in_ok-n.n ≡ m = decimal_injective c.in_ok-n.n m c.in_ok-n.ensures.1 (omega arith) (sym c.in_ok-n.ensures.0 ∙ same) in
    elim c.else-from-n.branch [
      | else-from-n-via-then-from-n+else-n-from w ↦ omega (arith, w.if-n-from.false, w.from-then-from-n.ensures)
      | else-from-n-via-else-from-n w ↦ omega (arith, w.if-from-n.false, c.from.ensures)
    ]
