use Rattle.std.proofs.Common.{rules, ap, ap₂, sym, codes, true, List, ℕ, ◌≡◌, ◌∙◌}
use Rattle.clap.specs.Walk.{rule_of}
use Rattle.clap.specs.Simple.{app_of, app_of_fields, new_app, with_rule, on_top}
use Rattle.clap.specs.declared.builder.command.Command.{Command}
use Rattle.clap.specs.declared.builder.command.Command.TheViews.{out-Command as fields_of}
use Rattle.zio_command.specs.Parses.{bare_app, flag_rule, image_rule, run_alone, run_app, value_rule}
use Rattle.zio_command.proofs.parse.run_parser.Goals.{then-serial, else-serial}
use Rattle.zio_command.proofs.parse.run_parser.Goals as goal

bare_is : (name : List ℕ) (c d e : Command) → app_of c ≡ new_app name → fields_of d ≡ record (fields_of c) { disable_help_flag = true }
    → fields_of e ≡ record (fields_of d) { no_binary_name = true } → app_of e ≡ bare_app name
bare_is name c d e new help words =
    ap app_of_fields words ∙ ap (λ f. app_of_fields (record f { no_binary_name = true })) help
    ∙ ap (on_top (λ s. record s { disable_help_flag = true; no_binary_name = true })) new

pub returns : goal.returns
returns c =
    let journal_is : rule_of c.action-journal.result ≡ flag_rule (codes "journal") = search rules in
    let data_is : rule_of c.action-data.result ≡ flag_rule (codes "data") = search rules in
    let image_is : rule_of c.action-image.result ≡ image_rule = search rules in
    let bare = bare_is (codes "run") c.new-4.result c.disable_help_flag.result c.no_binary_name.result c.new-4.ensures.app c.disable_help_flag.ensures c.no_binary_name.ensures in
    let alone : app_of c.in_ok-parser.parser ≡ run_alone =
    c.in_ok-parser.ensures.shape (search rules)
    ∙ ap₂ with_rule (c.in_ok-arg-2.ensures.shape (search rules) ∙ ap₂ with_rule (c.in_ok-arg.ensures.shape (search rules) ∙ ap₂ with_rule bare journal_is) data_is) image_is in
    let name = c.if-serial.name.now in
    let value_is : rule_of c.long-value.result ≡ value_rule name = search rules in
    let whole : app_of c.in_ok-arg-3.field-0 ≡ with_rule run_alone (value_rule name) = c.in_ok-arg-3.ensures.shape (search rules) ∙ ap₂ with_rule alone value_is in
    elim c.if-serial.branch [
      | then-serial w ↦
          let is : name ≡ codes "picks" = ap (λ s. s.now) w.name-is in
          whole ∙ ap (λ t. with_rule run_alone (value_rule t)) is ∙ ap run_app (sym w.if-serial.true)
      | else-serial w ↦
          let is : name ≡ codes "workers" = ap (λ s. s.now) w.name-is in
          whole ∙ ap (λ t. with_rule run_alone (value_rule t)) is ∙ ap run_app (sym w.if-serial.false)
    ]
