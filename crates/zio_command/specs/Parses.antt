-- What clap is told of the words of a command.
use Rattle.std.specs.Prelude.{ℕ, List, codes, Some, Bool, true, false}
use Rattle.clap.specs.declared.builder.action.ArgAction.TheVariants.{Append, SetTrue}
use Rattle.clap.specs.Walk.{Rule}
use Rattle.clap.specs.Simple.{App, new_app, new_rule, on_top, with_rule}
use Rattle.zio_command.specs.declared.options.Options.{Options}
use Rattle.zio_command.specs.declared.parse.Parsed.{Parsed}
use Rattle.zio_command.specs.Words.{show_of, workers_of}

abbrev pub flag_rule : List ℕ → Rule
flag_rule name = record (new_rule name) { long = Some name; action = Some SetTrue }

abbrev pub image_rule : Rule
image_rule = record (new_rule (codes "image")) { action = Some Append }

-- an option with a value
abbrev pub value_rule : List ℕ → Rule
value_rule name = record (new_rule name) { long = Some name }

-- without help, and with the words alone
abbrev pub bare_app : List ℕ → App
bare_app name = on_top (λ s. record s { disable_help_flag = true; no_binary_name = true }) (new_app name)

-- the options of both programs, and the images
abbrev pub run_alone : App
run_alone = with_rule (with_rule (with_rule (bare_app (codes "run")) (flag_rule (codes "journal"))) (flag_rule (codes "data"))) image_rule

-- beside them the option of each alone
abbrev pub run_app : Bool → App
run_app true = with_rule run_alone (value_rule (codes "picks"))
run_app false = with_rule run_alone (value_rule (codes "workers"))

-- what options and images ask for
abbrev pub parsed_of : Bool → Options → List (List ℕ) → Parsed
parsed_of serial options names =
    record { workers = workers_of serial options; picks = options.picks; show = show_of options; images = names }

-- a seed and a number of blocks
abbrev pub size_app : List ℕ → App
size_app name = with_rule (with_rule (bare_app name) (new_rule (codes "seed"))) (new_rule (codes "n"))

abbrev pub gen_app : App
gen_app = size_app (codes "gen")

abbrev pub load_app : App
load_app = with_rule (size_app (codes "load")) image_rule
