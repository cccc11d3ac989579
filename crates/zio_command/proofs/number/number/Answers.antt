use Rattle.std.proofs.Common.{◌≡◌, ◌<◌, ◌^◌, ◌≢◌, ℕ, sym, ◌∙◌, subst, Option}
use Rattle.std.specs.Prelude.{MatchOption, decimal}
use Rattle.zio_command.proofs.NumberLemmas.{no_digit, read_number, zero_word}
use Rattle.zio_command.proofs.number.number.Goals as goal

pub returns-then-eq : goal.returns-then-eq
returns-then-eq c = zero_word c.args.word.now c.eq.result c.eq.ensures c.if-eq.true

pub returns-then-begins_with_digit : goal.returns-then-begins_with_digit
returns-then-begins_with_digit c =
    subst (λ (o : Option ℕ). MatchOption o ((n : ℕ) → n < 2 ^ 64 → c.args.word.now ≢ decimal n) (λ n. (c.args.word.now ≡ decimal n) × (n < 2 ^ 64))) (sym c.ok.ensures.value)
    (read_number c.args.word.now c.parse.result (sym c.begins_with_digit.ensures ∙ c.if-begins_with_digit.true) c.parse.ensures.value.0)

pub returns-else-begins_with_digit : goal.returns-else-begins_with_digit
returns-else-begins_with_digit c n fits same =
    no_digit c.args.word.now n (sym c.eq.ensures ∙ c.if-eq.false) (sym c.begins_with_digit.ensures ∙ c.if-begins_with_digit.false) fits same
