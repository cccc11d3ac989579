use Rattle.std.proofs.Common.{◌≡◌, ℕ, List, [], ◌∷◌, true, Option, Some, None, refl, sym}
use Rattle.std.specs.Prelude.{codes, is_none}
use Rattle.std.specs.List.{AllByRecursion, list_all}
use Rattle.std.proofs.lemmas.Bool.{and_parts}
use Rattle.zio_script.specs.Words.{Word}
use Rattle.zio_spelled.specs.Reading.{order_in, take_in}
use Rattle.zio_spelled.specs.Spelled.{IsOrder, IsTakeShape}
use Rattle.zio_spelled.specs.Worked.{body_choice, body_line, header_choice, header_line, spoiled_orders, spoiled_takes, two_tops}
use Rattle.zio_spelled.proofs.OrderLemmas.{line_is_order, order_exact}
use Rattle.zio_spelled.proofs.ShapeLemmas.{line_is_no_take, line_is_take}
use Rattle.zio_spelled.proofs.laws.worked_lines.Goals as goal

none_from : {X : Type 0} (o : Option X) → is_none o ≡ true → o ≡ None
none_from None is = refl
none_from (Some x) is = cc

refused_takes : (lines : List Word) → list_all (λ line. is_none (take_in [] 0 line)) lines ≡ true → AllByRecursion (λ line. ¬ IsTakeShape line) lines
refused_takes [] all = tt
refused_takes (line ∷ lines) all =
    let parts = and_parts (is_none (take_in [] 0 line)) (list_all (λ l. is_none (take_in [] 0 l)) lines) all in
    (line_is_no_take [] 0 line (none_from (take_in [] 0 line) parts.0), refused_takes lines parts.1)

refused_order : (line : Word) → order_in line ≡ None → (numbers : List ℕ) → ¬ IsOrder line numbers
refused_order line none = order_exact line None (sym none)

refused_orders : (lines : List Word) → list_all (λ line. is_none (order_in line)) lines ≡ true → AllByRecursion (λ line. (numbers : List ℕ) → ¬ IsOrder line numbers) lines
refused_orders [] all = tt
refused_orders (line ∷ lines) all =
    let parts = and_parts (is_none (order_in line)) (list_all (λ l. is_none (order_in l)) lines) all in
    (refused_order line (none_from (order_in line) parts.0), refused_orders lines parts.1)

pub returns-clause-good : goal.returns-clause-good
returns-clause-good c = record {
  header = line_is_take two_tops 5 header_line header_choice refl;
  body = line_is_take two_tops 5 body_line body_choice refl;
  order = line_is_order (codes "order 3 1 65535") (3 ∷ 1 ∷ 65535 ∷ []) refl;
}

pub returns-clause-takes : goal.returns-clause-takes
returns-clause-takes c = refused_takes spoiled_takes refl

pub returns-clause-orders : goal.returns-clause-orders
returns-clause-orders c = refused_orders spoiled_orders refl
