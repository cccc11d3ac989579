use Rattle.std.proofs.Common.{◌≡◌, ◌∙◌, ap, sym, refl, subst, arith, codes, true, map, string_bytes}
use Rattle.clap.specs.Matches.{found_of}
use Rattle.clap.specs.Simple.{is_simple, matches_of}
use Rattle.clap.specs.Walk.{rows_of}
use Rattle.clap.proofs.WalkLemmas.{first_value-rows}
use Rattle.zio_command.specs.declared.words.Command.TheVariants.{Gen}
use Rattle.zio_command.specs.Parses.{gen_app}
use Rattle.zio_command.proofs.ClapSizes.{SaysSize, gen_said}
use Rattle.zio_command.proofs.parse.parse_gen.Goals as goal

is_simple_gen : is_simple gen_app ≡ true
is_simple_gen = refl

pub returns-clause-ok : goal.returns-clause-ok
returns-clause-ok c seed n size =
    let app = c.in-Ok.ensures in
    let words = map string_bytes c.args.words.now in
    let found = found_of c.in-Ok-try_get_matches_from.matches in
    let matched = c.in-Ok-try_get_matches_from.ensures.matches (ap is_simple app ∙ is_simple_gen) in
    let rows : rows_of found ≡ matches_of gen_app words = matched.0 ∙ ap (λ a. matches_of a words) app in
    let says = subst (SaysSize seed n) (sym rows) (gen_said words seed n size) in
    let fits = size.seed_fits in
    let seed_is = c.number_in.ensures seed (record { low = omega arith; high = omega arith }) (first_value-rows found (codes "seed") ∙ says.seed_is) in
    let n_is = c.number_in-2.ensures n size.blocks (first_value-rows found (codes "n") ∙ says.n_is) in
    λ i. Gen (seed_is i) (n_is i)
