-- What clap makes of the words of `gen` and `load`.
use Rattle.std.proofs.Common.{◌≡◌, ◌<◌, ◌+◌, ◌^◌, min, ℕ, List, [], ◌∷◌, Option, Some, None, option_map, option_and_then, slice_get, refl, sym, ap, ◌∙◌, subst, arith}
use Rattle.std.specs.Prelude.{decimal, codes, fold}
use Rattle.clap.specs.Lexer.{usize_max}
use Rattle.clap.specs.Simple.{App, built, filled, matches_of, new_rule, with_index}
use Rattle.clap.specs.Walk.{Row, Rule, Text, Walk, all_of, finished, first_of, has_row, idle, settled_rows, walked, with_default}
use Rattle.zio_command.specs.Parses.{gen_app, image_rule, load_app}
use Rattle.zio_command.specs.Words.{AreImages, IsImageName, IsSize}
use Rattle.zio_command.proofs.ClapRows.{all_imaged, first_given, given_row, names_plain, others_imaged, same_either}
use Rattle.zio_command.proofs.ClapWalks.{TakesOne, hyphen_not, imaged, names_met, numeral_word, one_met, settled_at, stand}

abbrev seed_rule : Rule
seed_rule = with_index 1 (filled (new_rule (codes "seed")))

abbrev n_rule : Rule
n_rule = with_index 2 (filled (new_rule (codes "n")))

abbrev rules_of : App → List Rule
rules_of app = (built app).top.rules

-- a numeral that a positional takes
numeral_met : (c : List Rule) (a : Rule) (position : ℕ) (takes : TakesOne c a position) (next : min (position + 1) usize_max ≡ position + 1) (rows : List Row) (p : Option (Text × List Text)) (n : ℕ) → n < 2 ^ 64
    → walked c [] (stand rows p idle position) (decimal n) ≡ stand (settled_rows c p rows) (Some (a.id, decimal n ∷ [])) idle (position + 1)
numeral_met c a position takes next rows p n fits = go (decimal n) (numeral_word n fits)
  where
    go : (word : Text) → IsImageName word → walked c [] (stand rows p idle position) word ≡ stand (settled_rows c p rows) (Some (a.id, word ∷ [])) idle (position + 1)
    go [] name = absurd name
    go (x ∷ xs) name = one_met c a position takes next rows p x xs (hyphen_not x name)

-- the rows of the seed and the number of blocks
abbrev sized : ℕ → ℕ → List Row
sized seed n = given_row (codes "seed") (decimal seed ∷ []) ∷ given_row (codes "n") (decimal n ∷ []) ∷ []

-- What clap's matches say of a seed and a number of blocks.
pub record SaysSize (seed n : ℕ) (rows : List Row) : Type 0 where
  pub seed_is : first_of (codes "seed") rows ≡ Some (decimal seed)
  pub n_is : first_of (codes "n") rows ≡ Some (decimal n)

pub gen_said : (words : List Text) (seed n : ℕ) → IsSize words seed n [] → SaysSize seed n (matches_of gen_app words)
gen_said words seed n size =
    let c = rules_of gen_app in
    let seed_fits : seed < 2 ^ 64 = let low = size.seed_fits in omega arith in
    let fits : n < 2 ^ 64 = let high = size.blocks.high in omega arith in
    let walk : fold (walked c []) (stand [] None idle 1) words ≡ stand (settled_rows c (Some (codes "seed", decimal seed ∷ [])) []) (Some (codes "n", decimal n ∷ [])) idle 3 =
    ap (fold (walked c []) (stand [] None idle 1)) size.words_are
    ∙ ap (λ (w : Walk). walked c [] w (decimal n)) (numeral_met c seed_rule 1 (record { at = refl; one = refl; single = refl; var = refl }) refl [] None seed seed_fits)
    ∙ numeral_met c n_rule 2 (record { at = refl; one = refl; single = refl; var = refl }) refl [] (Some (codes "seed", decimal seed ∷ [])) n fits in
    let is : matches_of gen_app words ≡ sized seed n = ap (λ (w : Walk). finished c w.held) walk in
    subst (SaysSize seed n) (sym is) (record { seed_is = refl; n_is = refl })

-- What they say of the images beside.
pub record SaysLoad (seed n : ℕ) (names : List Text) (rows : List Row) : Type 0 where
  pub size : SaysSize seed n rows
  pub images : all_of (codes "image") rows ≡ Some names

abbrev image_third : Rule
image_third = with_index 3 (filled image_rule)

loaded : (seed n : ℕ) (name : Text) (names : List Text) → SaysLoad seed n (name ∷ names) (fold imaged (sized seed n) (name ∷ names))
loaded seed n name names = record {
  size = record {
    seed_is = ap (option_and_then (λ (r : Row). slice_get r.values 0)) (others_imaged (codes "seed") refl (name ∷ names) (sized seed n));
    n_is = ap (option_and_then (λ (r : Row). slice_get r.values 0)) (others_imaged (codes "n") refl (name ∷ names) (sized seed n));
  };
  images = ap (option_map (λ (r : Row). r.values)) (all_imaged names (name ∷ []) (imaged (sized seed n) name) (first_given (codes "image") (name ∷ []) (sized seed n) refl));
}

finished_load : (w : Walk) → finished (rules_of load_app) w.held ≡ settled_at (rules_of load_app) w
finished_load w =
    let c = rules_of load_app in
    let rows = settled_at c w in
    ap (λ (rs : List Row). fold with_default rs (n_rule ∷ image_third ∷ [])) (same_either (has_row (codes "seed") rows) rows)
    ∙ ap (λ (rs : List Row). fold with_default rs (image_third ∷ [])) (same_either (has_row (codes "n") rows) rows)
    ∙ same_either (has_row (codes "image") rows) rows

pub load_said : (words : List Text) (seed n : ℕ) (names : List Text) → IsSize words seed n names → AreImages names → SaysLoad seed n names (matches_of load_app words)
load_said words seed n [] size images = absurd (images.some refl)
load_said words seed n (name ∷ names) size images =
    let c = rules_of load_app in
    let seed_fits : seed < 2 ^ 64 = let low = size.seed_fits in omega arith in
    let fits : n < 2 ^ 64 = let high = size.blocks.high in omega arith in
    let rest = name ∷ names in
    let walk : settled_at c (fold (walked c []) (stand [] None idle 1) words) ≡ fold imaged (sized seed n) rest =
    ap (λ (ws : List Text). settled_at c (fold (walked c []) (stand [] None idle 1) ws)) size.words_are
    ∙ ap (λ (w : Walk). settled_at c (fold (walked c []) (walked c [] w (decimal n)) rest)) (numeral_met c seed_rule 1 (record { at = refl; one = refl; single = refl; var = refl }) refl [] None seed seed_fits)
    ∙ ap (λ (w : Walk). settled_at c (fold (walked c []) w rest)) (numeral_met c n_rule 2 (record { at = refl; one = refl; single = refl; var = refl }) refl [] (Some (codes "seed", decimal seed ∷ [])) n fits)
    ∙ names_met c image_third 3 (record { at = refl; one = refl; more = refl; var = refl }) rest (settled_rows c (Some (codes "seed", decimal seed ∷ [])) []) (Some (codes "n", decimal n ∷ [])) idle tt (names_plain rest images.names) in
    let is : matches_of load_app words ≡ fold imaged (sized seed n) rest = finished_load (fold (walked c []) (stand [] None idle 1) words) ∙ walk in
    subst (SaysLoad seed n rest) (sym is) (loaded seed n name names)
