use Rattle.std.proofs.Common.{List, ℕ, ap, map, string_bytes, subst}
use Rattle.zio_command.specs.Words.{IsSize}
use Rattle.zio_command.proofs.WordLemmas.{is_gen, nothing_behind}
use Rattle.zio_command.proofs.words.read_gen.Goals as goal

pub returns-in-Some-clause-memory : goal.returns-in-Some-clause-memory
returns-in-Some-clause-memory c e =
    let behind = nothing_behind c.in-Some.rest.now c.is_empty.result c.is_empty.ensures c.if-is_empty.true in
    is_gen (map string_bytes c.args.words.now) c.in-Some.field-0-0 c.in-Some.field-0-1
    (subst (λ (ws : List (List ℕ)). IsSize (map string_bytes c.args.words.now) c.in-Some.field-0-0 c.in-Some.field-0-1 ws) (ap (λ xs. map string_bytes xs) behind) c.in-Some.ensures)
