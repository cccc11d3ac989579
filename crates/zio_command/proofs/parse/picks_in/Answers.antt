use Rattle.std.proofs.Common.{◌≡◌, ◌∙◌, List, Some, Option, ℕ, ap, sym, option_map, unwrap_or}
use Rattle.std.specs.Prelude.{decimal}
use Rattle.zio_command.proofs.NumberLemmas.{number_is}
use Rattle.zio_command.proofs.parse.picks_in.Goals as goal

pub returns-in-Some-clause-given : goal.returns-in-Some-clause-given
returns-in-Some-clause-given c seed fits is =
    let same : Some c.in-Some.word.now ≡ Some (decimal seed) = sym (ap (option_map (λ s. s.now)) c.in-Some.is) ∙ c.get_str.ensures ∙ is in
    let word : c.in-Some.word.now ≡ decimal seed = ap (λ (o : Option (List ℕ)). unwrap_or o (decimal seed)) same in
    number_is c.in-Some.word.now c.number.result seed c.number.ensures fits word
