-- Words that are no command, and that words are one command at most.
use Rattle.std.proofs.Common.{◌≡◌, ◌≢◌, ◌<◌, ◌≤◌, ◌^◌, ℕ, List, [], ◌∷◌, Bool, true, false, Option, suc, length, ◌==◌, refl, sym, ap, ◌∙◌, subst, arith, bytes_eq}
use Rattle.std.proofs.lemmas.Bool.{eqb-true}
use Rattle.std.specs.Prelude.{decimal, codes}
use Rattle.std.proofs.lemmas.Fmt.{decimal_injective}
use Rattle.zio_gen.specs.declared.script.TheConstants.{BLOCKS_MAX}
use Rattle.zio_report.specs.declared.report.Show.{Show}
use Rattle.zio_command.specs.declared.options.Options.{Options}
use Rattle.zio_command.specs.declared.words.Command.{Command}
use Rattle.zio_command.specs.declared.words.Command.TheVariants.{Run, Scrub, Gen, Load}
use Rattle.zio_command.specs.Words.{AreImages, IsCommandOf, IsGenOf, IsLawfulCommand, IsLoadOf, IsNoCommandOf, IsPlain, IsRunOf, IsScrubOf, IsSize, IsSplit, NoSplit, show_of, workers_of}
use Rattle.zio_command.proofs.OptionLemmas.{differ, heads, one_split}

no_true : (b : Bool) → b ≡ false → b ≡ true → ⊥
no_true b h k = let bad : false ≡ true = sym h ∙ k in cc

-- ---- no words, and another first word

pub no_words : (serial : Bool) → IsNoCommandOf serial []
no_words serial (Run workers picks show images) h = let e = h.words_are in cc
no_words serial (Scrub picks images) h = let e = h.1.words_are in cc
no_words serial (Gen seed n) h = let e = h.1.words_are in cc
no_words serial (Load seed n images) h = let e = h.1.words_are in cc

pub no_verb : (serial : Bool) (verb : List ℕ) (rest : List (List ℕ)) → verb ≢ codes "run" → (serial ≡ true → verb ≢ codes "scrub")
    → (serial ≡ true → verb ≢ codes "gen") → (serial ≡ true → verb ≢ codes "load") → IsNoCommandOf serial (verb ∷ rest)
no_verb serial verb rest run scrub gen load (Run workers picks show images) h = run (heads _ _ rest h.rest h.words_are).0
no_verb serial verb rest run scrub gen load (Scrub picks images) h = scrub h.0 (heads _ _ rest h.1.rest h.1.words_are).0
no_verb serial verb rest run scrub gen load (Gen seed n) h = gen h.0 (heads _ _ rest h.1.rest h.1.words_are).0
no_verb serial verb rest run scrub gen load (Load seed n images) h = load h.0 (heads _ _ rest h.1.rest h.1.words_are).0

-- ---- behind `run`

pub no_run : (serial : Bool) (rest : List (List ℕ)) → NoSplit serial rest → IsNoCommandOf serial (codes "run" ∷ rest)
no_run serial rest none (Run workers picks show images) h =
    none h.options images (subst (λ (ws : List (List ℕ)). IsSplit serial ws h.options images) (sym (heads _ _ rest h.rest h.words_are).1) h.split)
no_run serial rest none (Scrub picks images) h = differ (codes "run") (codes "scrub") refl (heads _ _ rest h.1.rest h.1.words_are).0
no_run serial rest none (Gen seed n) h = differ (codes "run") (codes "gen") refl (heads _ _ rest h.1.rest h.1.words_are).0
no_run serial rest none (Load seed n images) h = differ (codes "run") (codes "load") refl (heads _ _ rest h.1.rest h.1.words_are).0

pub no_run_images : (serial : Bool) (rest : List (List ℕ)) (options : Options) (names : List (List ℕ)) → IsSplit serial rest options names
    → ¬ AreImages names → IsNoCommandOf serial (codes "run" ∷ rest)
no_run_images serial rest options names split bad (Run workers picks show images) h =
    let other : IsSplit serial rest h.options images = subst (λ (ws : List (List ℕ)). IsSplit serial ws h.options images) (sym (heads _ _ rest h.rest h.words_are).1) h.split in
    bad (subst AreImages (sym (one_split serial rest options h.options names images split other).1) h.named)
no_run_images serial rest options names split bad (Scrub picks images) h = differ (codes "run") (codes "scrub") refl (heads _ _ rest h.1.rest h.1.words_are).0
no_run_images serial rest options names split bad (Gen seed n) h = differ (codes "run") (codes "gen") refl (heads _ _ rest h.1.rest h.1.words_are).0
no_run_images serial rest options names split bad (Load seed n images) h = differ (codes "run") (codes "load") refl (heads _ _ rest h.1.rest h.1.words_are).0

-- ---- behind `scrub`

pub no_scrub : (rest : List (List ℕ)) → ((options : Options) (names : List (List ℕ)) → IsSplit true rest options names → IsPlain options → ¬ AreImages names)
    → IsNoCommandOf true (codes "scrub" ∷ rest)
no_scrub rest none (Run workers picks show images) h = differ (codes "scrub") (codes "run") refl (heads _ _ rest h.rest h.words_are).0
no_scrub rest none (Scrub picks images) h =
    none h.1.options images (subst (λ (ws : List (List ℕ)). IsSplit true ws h.1.options images) (sym (heads _ _ rest h.1.rest h.1.words_are).1) h.1.split)
    h.1.plain h.1.named
no_scrub rest none (Gen seed n) h = differ (codes "scrub") (codes "gen") refl (heads _ _ rest h.1.rest h.1.words_are).0
no_scrub rest none (Load seed n images) h = differ (codes "scrub") (codes "load") refl (heads _ _ rest h.1.rest h.1.words_are).0

-- words that are split in one way, with other options or without images
pub no_scrub_images : (rest : List (List ℕ)) (options : Options) (names : List (List ℕ)) → IsSplit true rest options names
    → (IsPlain options → ¬ AreImages names) → IsNoCommandOf true (codes "scrub" ∷ rest)
no_scrub_images rest options names split bad =
    no_scrub rest (λ all others other plain named.
    (let one = one_split true rest options all names others split other in
    bad (subst IsPlain (sym one.0) plain) (subst AreImages (sym one.1) named)))

-- ---- behind `gen` and `load`

pub one_size : (words : List (List ℕ)) (seed n : ℕ) (rest : List (List ℕ)) (other m : ℕ) (ends : List (List ℕ)) → IsSize words seed n rest → IsSize words other m ends
    → (seed ≡ other) × (n ≡ m) × (rest ≡ ends)
one_size words seed n rest other m ends first second =
    let e = heads _ _ (decimal n ∷ rest) (decimal m ∷ ends) (sym first.words_are ∙ second.words_are) in
    let more = heads _ _ rest ends e.1 in
    let low : seed < 2 ^ 32 = first.seed_fits in
    let high : other < 2 ^ 32 = second.seed_fits in
    let few : n ≤ BLOCKS_MAX = first.blocks.high in
    let few_too : m ≤ BLOCKS_MAX = second.blocks.high in
    (decimal_injective seed other (omega arith) (omega arith) e.0, decimal_injective n m (omega arith) (omega arith) more.0, more.1)

pub no_gen : (rest : List (List ℕ)) → ((seed n : ℕ) → ¬ IsSize rest seed n []) → IsNoCommandOf true (codes "gen" ∷ rest)
no_gen rest none (Run workers picks show images) h = differ (codes "gen") (codes "run") refl (heads _ _ rest h.rest h.words_are).0
no_gen rest none (Scrub picks images) h = differ (codes "gen") (codes "scrub") refl (heads _ _ rest h.1.rest h.1.words_are).0
no_gen rest none (Gen seed n) h = none seed n (subst (λ (ws : List (List ℕ)). IsSize ws seed n []) (sym (heads _ _ rest h.1.rest h.1.words_are).1) h.1.size)
no_gen rest none (Load seed n images) h = differ (codes "gen") (codes "load") refl (heads _ _ rest h.1.rest h.1.words_are).0

pub no_load : (rest : List (List ℕ)) → ((seed n : ℕ) (names : List (List ℕ)) → IsSize rest seed n names → ¬ AreImages names) → IsNoCommandOf true (codes "load" ∷ rest)
no_load rest none (Run workers picks show images) h = differ (codes "load") (codes "run") refl (heads _ _ rest h.rest h.words_are).0
no_load rest none (Scrub picks images) h = differ (codes "load") (codes "scrub") refl (heads _ _ rest h.1.rest h.1.words_are).0
no_load rest none (Gen seed n) h = differ (codes "load") (codes "gen") refl (heads _ _ rest h.1.rest h.1.words_are).0
no_load rest none (Load seed n images) h =
    none seed n images (subst (λ (ws : List (List ℕ)). IsSize ws seed n images) (sym (heads _ _ rest h.1.rest h.1.words_are).1) h.1.size) h.1.named

-- ---- the words are one command at most

run_same : (serial : Bool) (words : List (List ℕ)) (workers others : ℕ) (picks more : Option ℕ) (show shown : Show) (images names : List (List ℕ))
    → IsRunOf serial words workers picks show images → IsRunOf serial words others more shown names
    → Run workers picks show images ≡ Run others more shown names
run_same serial words workers others picks more show shown images names h k =
    let rest = (heads _ _ h.rest k.rest (sym h.words_are ∙ k.words_are)).1 in
    let split : IsSplit serial k.rest h.options images = subst (λ (ws : List (List ℕ)). IsSplit serial ws h.options images) rest h.split in
    let one = one_split serial k.rest h.options k.options images names split k.split in
    let both : workers ≡ others = h.workers_are ∙ (ap (workers_of serial) one.0 ∙ sym k.workers_are) in
    let seed : picks ≡ more = h.picks_are ∙ (ap (λ (o : Options). o.picks) one.0 ∙ sym k.picks_are) in
    let seen : show ≡ shown = h.show_is ∙ (ap show_of one.0 ∙ sym k.show_is) in
    let there : images ≡ names = one.1 in
    cc

scrub_same : (words : List (List ℕ)) (picks more : Option ℕ) (images names : List (List ℕ)) → IsScrubOf words picks images → IsScrubOf words more names
    → Scrub picks images ≡ Scrub more names
scrub_same words picks more images names h k =
    let rest = (heads _ _ h.rest k.rest (sym h.words_are ∙ k.words_are)).1 in
    let split : IsSplit true k.rest h.options images = subst (λ (ws : List (List ℕ)). IsSplit true ws h.options images) rest h.split in
    let one = one_split true k.rest h.options k.options images names split k.split in
    let seed : picks ≡ more = h.picks_are ∙ (ap (λ (o : Options). o.picks) one.0 ∙ sym k.picks_are) in
    let there : images ≡ names = one.1 in
    cc

gen_same : (words : List (List ℕ)) (seed other n m : ℕ) → IsGenOf words seed n → IsGenOf words other m → Gen seed n ≡ Gen other m
gen_same words seed other n m h k =
    let rest = (heads _ _ h.rest k.rest (sym h.words_are ∙ k.words_are)).1 in
    let one = one_size k.rest seed n [] other m [] (subst (λ (ws : List (List ℕ)). IsSize ws seed n []) rest h.size) k.size in
    let first : seed ≡ other = one.0 in
    let second : n ≡ m = one.1 in
    cc

load_same : (words : List (List ℕ)) (seed other n m : ℕ) (images names : List (List ℕ)) → IsLoadOf words seed n images → IsLoadOf words other m names
    → Load seed n images ≡ Load other m names
load_same words seed other n m images names h k =
    let rest = (heads _ _ h.rest k.rest (sym h.words_are ∙ k.words_are)).1 in
    let one = one_size k.rest seed n images other m names (subst (λ (ws : List (List ℕ)). IsSize ws seed n images) rest h.size) k.size in
    let first : seed ≡ other = one.0 in
    let second : n ≡ m = one.1 in
    let third : images ≡ names = one.2 in
    cc

verbs_differ : (a b : List ℕ) (words xs ys : List (List ℕ)) → bytes_eq a b ≡ false → words ≡ a ∷ xs → words ≡ b ∷ ys → ⊥
verbs_differ a b words xs ys other h k = differ a b other (heads a b xs ys (sym h ∙ k)).0

pub one_command_of : (serial : Bool) (words : List (List ℕ)) (a b : Command) → IsCommandOf serial words a → IsCommandOf serial words b → a ≡ b
one_command_of serial words (Run workers picks show images) (Run others more shown names) h k =
    run_same serial words workers others picks more show shown images names h k
one_command_of serial words (Run workers picks show images) (Scrub more names) h k = absurd (verbs_differ (codes "run") (codes "scrub") words h.rest k.1.rest refl h.words_are k.1.words_are)
one_command_of serial words (Run workers picks show images) (Gen seed n) h k = absurd (verbs_differ (codes "run") (codes "gen") words h.rest k.1.rest refl h.words_are k.1.words_are)
one_command_of serial words (Run workers picks show images) (Load seed n names) h k = absurd (verbs_differ (codes "run") (codes "load") words h.rest k.1.rest refl h.words_are k.1.words_are)
one_command_of serial words (Scrub picks images) (Run workers more show names) h k = absurd (verbs_differ (codes "scrub") (codes "run") words h.1.rest k.rest refl h.1.words_are k.words_are)
one_command_of serial words (Scrub picks images) (Scrub more names) h k = scrub_same words picks more images names h.1 k.1
one_command_of serial words (Scrub picks images) (Gen seed n) h k = absurd (verbs_differ (codes "scrub") (codes "gen") words h.1.rest k.1.rest refl h.1.words_are k.1.words_are)
one_command_of serial words (Scrub picks images) (Load seed n names) h k = absurd (verbs_differ (codes "scrub") (codes "load") words h.1.rest k.1.rest refl h.1.words_are k.1.words_are)
one_command_of serial words (Gen seed n) (Run workers picks show images) h k = absurd (verbs_differ (codes "gen") (codes "run") words h.1.rest k.rest refl h.1.words_are k.words_are)
one_command_of serial words (Gen seed n) (Scrub picks names) h k = absurd (verbs_differ (codes "gen") (codes "scrub") words h.1.rest k.1.rest refl h.1.words_are k.1.words_are)
one_command_of serial words (Gen seed n) (Gen other m) h k = gen_same words seed other n m h.1 k.1
one_command_of serial words (Gen seed n) (Load other m names) h k = absurd (verbs_differ (codes "gen") (codes "load") words h.1.rest k.1.rest refl h.1.words_are k.1.words_are)
one_command_of serial words (Load seed n images) (Run workers picks show names) h k = absurd (verbs_differ (codes "load") (codes "run") words h.1.rest k.rest refl h.1.words_are k.words_are)
one_command_of serial words (Load seed n images) (Scrub picks names) h k = absurd (verbs_differ (codes "load") (codes "scrub") words h.1.rest k.1.rest refl h.1.words_are k.1.words_are)
one_command_of serial words (Load seed n images) (Gen other m) h k = absurd (verbs_differ (codes "load") (codes "gen") words h.1.rest k.1.rest refl h.1.words_are k.1.words_are)
one_command_of serial words (Load seed n images) (Load other m names) h k = load_same words seed other n m images names h.1 k.1

-- ---- a command

pub is_run : (serial : Bool) (rest : List (List ℕ)) (options : Options) (names : List (List ℕ)) → IsSplit serial rest options names → AreImages names
    → (command : Command) × IsCommandOf serial (codes "run" ∷ rest) command
is_run serial rest options names split named = (
  Run (workers_of serial options) options.picks (show_of options) names,
  record {
    rest = rest;
    options = options;
    words_are = refl;
    split = split;
    workers_are = refl;
    picks_are = refl;
    show_is = refl;
    named = named;
  },
)

pub is_scrub : (rest : List (List ℕ)) (options : Options) (names : List (List ℕ)) → IsSplit true rest options names → IsPlain options → AreImages names
    → (command : Command) × IsCommandOf true (codes "scrub" ∷ rest) command
is_scrub rest options names split plain named = (
  Scrub options.picks names,
  (
    refl,
    record {
      rest = rest;
      options = options;
      words_are = refl;
      split = split;
      plain = plain;
      picks_are = refl;
      named = named;
    },
  ),
)

pub is_gen : (rest : List (List ℕ)) (seed n : ℕ) → IsSize rest seed n [] → (command : Command) × IsCommandOf true (codes "gen" ∷ rest) command
is_gen rest seed n size = (Gen seed n, (refl, record { rest = rest; words_are = refl; size = size }))

pub is_load : (rest : List (List ℕ)) (seed n : ℕ) (names : List (List ℕ)) → IsSize rest seed n names → AreImages names
    → (command : Command) × IsCommandOf true (codes "load" ∷ rest) command
is_load rest seed n names size named = (Load seed n names, (refl, record { rest = rest; words_are = refl; size = size; named = named }))

-- the names and numbers of a command are lawful
pub lawful_command : (serial : Bool) (words : List (List ℕ)) (command : Command) → IsCommandOf serial words command → IsLawfulCommand command
lawful_command serial words (Run workers picks show images) h = h.named
lawful_command serial words (Scrub picks images) h = h.1.named
lawful_command serial words (Gen seed n) h = h.1.size.blocks
lawful_command serial words (Load seed n images) h = (h.1.size.blocks, h.1.named)

-- nothing stands behind
pub nothing_behind : {X : Type 0} (xs : List X) (b : Bool) → b ≡ (length xs == 0) → b ≡ true → xs ≡ []
nothing_behind [] b is full = refl
nothing_behind (x ∷ xs) b is full = let e : suc (length xs) ≡ 0 = eqb-true (suc (length xs)) 0 (sym is ∙ full) in absurd (omega arith)
