use Rattle.std.proofs.Common.{◌≡◌, ◌<◌, ◌^◌, ◌∙◌, Option, Some, None, ℕ, Bool, true, false, ap, sym, refl, subst, codes, map, string_bytes}
use Rattle.std.specs.Prelude.{decimal, IfSome}
use Rattle.std.specs.Option.{option_map}
use Rattle.clap.specs.Matches.{found_of}
use Rattle.clap.specs.Simple.{is_simple, matches_of}
use Rattle.clap.specs.Walk.{Text, rows_of}
use Rattle.clap.proofs.WalkLemmas.{first_value-rows, one_text-rows, raw_values-rows}
use Rattle.zio_report.specs.declared.report.Show.TheVariants.{Report}
use Rattle.zio_command.specs.declared.options.TheConstants.{WORKERS_MAX}
use Rattle.zio_command.specs.Parses.{run_app}
use Rattle.zio_command.specs.Words.{IsWithin, none_asked, or_usual}
use Rattle.zio_command.proofs.ClapRows.{Says, flag_text, picks_within, run_said, workers_within}
use Rattle.zio_command.proofs.parse.parse_words.Goals as goal

is_simple_run : (serial : Bool) → is_simple (run_app serial) ≡ true
is_simple_run true = refl
is_simple_run false = refl

flag_is : (one : Option Text) (asked result : Bool) → one ≡ Some (flag_text asked) → (one ≡ Some (codes "true") → result ≡ true) → (one ≡ Some (codes "false") → result ≡ false)
    → result ≡ asked
flag_is one true result is on off = on is
flag_is one false result is on off = off is

workers_are : (serial : Bool) (o : Option ℕ) (first : Option Text) (result : ℕ) → first ≡ option_map decimal o → IfSome o (IsWithin 1 WORKERS_MAX)
    → (first ≡ None → result ≡ or_usual serial None) → ((n : ℕ) → IsWithin 1 WORKERS_MAX n → first ≡ Some (decimal n) → result ≡ n) → result ≡ or_usual serial o
workers_are serial None first result is within usual given = usual is
workers_are true (Some n) first result is within usual given = given n within is
workers_are false (Some n) first result is within usual given = given n within is

picks_are : (o : Option ℕ) (first : Option Text) (result : Option ℕ) → first ≡ option_map decimal o → IfSome o (λ n. n < 2 ^ 64)
    → (first ≡ None → result ≡ None) → ((seed : ℕ) → seed < 2 ^ 64 → first ≡ Some (decimal seed) → result ≡ Some seed) → result ≡ o
picks_are None first result is within none given = none is
picks_are (Some seed) first result is within none given = given seed within is

pub returns-clause-ok : goal.returns-clause-ok
returns-clause-ok c options names split images =
    let app = c.in-Ok.ensures in
    let words = map string_bytes c.args.words.now in
    let found = found_of c.in-Ok-try_get_matches_from.matches in
    let matched = c.in-Ok-try_get_matches_from.ensures.matches (ap is_simple app ∙ is_simple_run c.args.serial) in
    let rows : rows_of found ≡ matches_of (run_app c.args.serial) words = matched.0 ∙ ap (λ a. matches_of a words) app in
    let says = subst (Says options names) (sym rows) (run_said c.args.serial words options names split images) in
    let workers = workers_are c.args.serial options.workers _ _ (first_value-rows found (codes "workers") ∙ says.workers)
    (subst (λ o. IfSome o.workers (IsWithin 1 WORKERS_MAX)) (sym split.options_are) (workers_within c.args.serial split.asked none_asked split.known tt))
    c.workers_in-workers.ensures.usual c.workers_in-workers.ensures.given in
    let picks = picks_are options.picks _ _ (first_value-rows found (codes "picks") ∙ says.picks)
    (subst (λ o. IfSome o.picks (λ n. n < 2 ^ 64)) (sym split.options_are) (picks_within c.args.serial split.asked none_asked split.known tt))
    c.picks_in-picks.ensures.none c.picks_in-picks.ensures.given in
    let journal = flag_is _ options.journal _ (one_text-rows found (codes "journal") ∙ says.journal) c.get_flag.ensures.value c.get_flag.ensures.other in
    let bytes = flag_is _ options.bytes _ (one_text-rows found (codes "data") ∙ says.bytes) c.get_flag-2.ensures.value c.get_flag-2.ensures.other in
    let named = c.in_ok-images.ensures.ok names (raw_values-rows found (codes "image") ∙ says.images) in
    λ i. record { workers = workers i; picks = picks i; show = Report (journal i) (bytes i); images = named i }
