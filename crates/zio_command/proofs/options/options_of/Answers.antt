use Rattle.std.proofs.Common.{map, string_bytes, sym, ◌∙◌, subst}
use Rattle.zio_command.specs.declared.options.Options.{Options}
use Rattle.zio_command.proofs.OptionLemmas.{IsFront, front_more, refuse_option, refuse_twice}
use Rattle.zio_command.proofs.options.options_of.Goals as goal

pub returns-in_err-asked : goal.returns-in_err-asked
returns-in_err-asked c =
    let none = refuse_option c.args.serial (map string_bytes c.args.words.now) c.loop-rest.options (map string_bytes c.loop-rest.rest.now) c.loop-rest.invariant
    (sym c.begins_option.ensures ∙ c.loop-rest-test.true) c.in_err-asked.ensures in
    rw c.from_residual.ensures none

pub returns-in_err-options : goal.returns-in_err-options
returns-in_err-options c =
    let none = refuse_twice c.args.serial (map string_bytes c.args.words.now) c.loop-rest.options (map string_bytes c.loop-rest.rest.now)
    c.in_ok-asked.asked (map string_bytes c.in_ok-asked.after.now) c.loop-rest.invariant
    (sym c.begins_option.ensures ∙ c.loop-rest-test.true) c.in_ok-asked.ensures c.in_err-options.ensures in
    rw c.from_residual-in_err-options.ensures none

pub loop-rest-preserved : goal.loop-rest-preserved
loop-rest-preserved c =
    subst (λ (o : Options). IsFront c.args.serial (map string_bytes c.args.words.now) o (map string_bytes c.in_ok-asked.after.now)) (sym c.in_ok-options.ensures.1)
    (front_more c.args.serial (map string_bytes c.args.words.now) c.loop-rest.options (map string_bytes c.loop-rest.rest.now)
    c.in_ok-asked.asked (map string_bytes c.in_ok-asked.after.now) c.loop-rest.invariant c.in_ok-asked.ensures c.in_ok-options.ensures.0)
