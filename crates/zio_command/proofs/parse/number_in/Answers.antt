use Rattle.std.proofs.Common.{◌≡◌, ◌∙◌, List, Some, Option, ℕ, ap, sym, arith, option_map, unwrap_or}
use Rattle.std.specs.Prelude.{decimal}
use Rattle.std.proofs.lemmas.Fmt.{decimal_injective}
use Rattle.zio_command.proofs.parse.number_in.Goals as goal

pub returns-in-Some-number_within : goal.returns-in-Some-number_within
returns-in-Some-number_within c n within is =
    let read = c.in-Some-number_within.ensures in
    let same : Some c.in-Some.word.now ≡ Some (decimal n) = sym (ap (option_map (λ s. s.now)) c.in-Some.is) ∙ c.get_str.ensures ∙ is in
    let word : c.in-Some.word.now ≡ decimal n = ap (λ (o : Option (List ℕ)). unwrap_or o (decimal n)) same in
    let low = within.high in
    let high = read.1.high in
    decimal_injective _ _ (omega arith) (omega arith) (sym read.0 ∙ word)
