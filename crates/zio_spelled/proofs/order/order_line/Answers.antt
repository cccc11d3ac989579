use Rattle.std.proofs.Common.{Option, List, ℕ, Ok, Err, Result, ◌≡◌}
use Rattle.std.specs.Prelude.{IfOk, MatchOption}
use Rattle.zio_script.specs.Words.{Word}
use Rattle.zio_spelled.specs.Spelled.{IsOrder}
use Rattle.zio_spelled.specs.Reading.{order_in}
use Rattle.zio_spelled.proofs.OrderLemmas.{order_exact}
use Rattle.zio_spelled.proofs.order.order_line.Goals as goal

exact : {E : Type 0} (line : Word) (r : Result (Option (List ℕ)) E) → IfOk r (λ numbers. numbers ≡ order_in line)
    → IfOk r (λ numbers. MatchOption numbers ((numbers : List ℕ) → ¬ IsOrder line numbers) (λ numbers. IsOrder line numbers))
exact line (Ok numbers) is = order_exact line numbers is
exact line (Err e) is = is

pub returns : goal.returns
returns c = exact c.args.line.now c.order_in.result c.order_in.ensures
