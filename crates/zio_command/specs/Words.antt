-- The words of a command, behind the program's name: docs/FORMATS.md, "Words of a command".
use Rattle.std.specs.Prelude.{◌≡◌, ◌≢◌, ◌<◌, ◌≤◌, ◌^◌, ℕ, List, [], ◌∷◌, ◌++◌, length, Bool, true, false, ◌&&◌, ◌==◌, nat_le, Option, Some, None, is_some, bytes_eq, codes, decimal}
use Rattle.std.specs.List.{AllByRecursion, flat_map, list_any}
use Rattle.zio_report.specs.declared.report.Show.{Show}
use Rattle.zio_report.specs.declared.report.Show.TheVariants.{Report}
use Rattle.zio_gen.specs.declared.script.TheConstants.{BLOCKS_MAX}
use Rattle.zio_command.specs.declared.names.TheConstants.{IMAGES_MAX}
use Rattle.zio_command.specs.declared.options.TheConstants.{WORKERS_MAX, WORKERS_USUAL}
use Rattle.zio_command.specs.declared.options.Asked.{Asked}
use Rattle.zio_command.specs.declared.options.Asked.TheVariants.{Journal, Bytes, Picks, Workers}
use Rattle.zio_command.specs.declared.options.Options.{Options}
use Rattle.zio_command.specs.declared.words.Command.{Command}
use Rattle.zio_command.specs.declared.words.Command.TheVariants.{Run, Scrub, Gen, Load}

-- ---- numbers, which are spelled in decimal digits without a sign or a leading zero

pub record IsWithin (least most n : ℕ) : Type 0 where
  pub low : least ≤ n
  pub high : n ≤ most

-- the word begins with a digit other than 0
abbrev pub begins_with_digit : List ℕ → Bool
begins_with_digit [] = false
begins_with_digit (c ∷ cs) = nat_le 49 c && nat_le c 57

-- ---- images

-- a name isn't empty, and doesn't begin with `-`
abbrev pub IsImageName : List ℕ → Type 0
IsImageName [] = ⊥
IsImageName (c ∷ cs) = c ≢ 45

-- the word is one of these
abbrev pub is_among : List (List ℕ) → List ℕ → Bool
is_among words word = list_any (bytes_eq word) words

-- each is a name, and no two are the same
abbrev pub AreNames : List (List ℕ) → Type 0
AreNames [] = Unit {0}
AreNames (word ∷ words) = IsImageName word × (is_among words word ≡ false) × AreNames words

-- 1 to 16 names
pub record AreImages (words : List (List ℕ)) : Type 0 where
  pub some : words ≢ []
  pub most : length words ≤ IMAGES_MAX
  pub names : AreNames words

-- ---- options

-- how an option is spelled, with its value in a word of its own
abbrev pub option_words : Asked → List (List ℕ)
option_words Journal = codes "--journal" ∷ []
option_words Bytes = codes "--data" ∷ []
option_words (Picks seed) = codes "--picks" ∷ decimal seed ∷ []
option_words (Workers n) = codes "--workers" ∷ decimal n ∷ []

-- both programs have the options of the report, the one on one thread the seed of its picks, and the one with workers their number
abbrev pub IsOptionOf : Bool → Asked → Type 0
IsOptionOf serial Journal = Unit {0}
IsOptionOf serial Bytes = Unit {0}
IsOptionOf serial (Picks seed) = (serial ≡ true) × (seed < 2 ^ 64)
IsOptionOf serial (Workers n) = (serial ≡ false) × IsWithin 1 WORKERS_MAX n

abbrev pub none_asked : Options
none_asked = record { journal = false; bytes = false; picks = None; workers = None }

abbrev pub is_asked : Options → Asked → Bool
is_asked options Journal = options.journal
is_asked options Bytes = options.bytes
is_asked options (Picks seed) = is_some options.picks
is_asked options (Workers n) = is_some options.workers

abbrev pub with_option : Options → Asked → Options
with_option options Journal = record options { journal = true }
with_option options Bytes = record options { bytes = true }
with_option options (Picks seed) = record options { picks = Some seed }
with_option options (Workers n) = record options { workers = Some n }

-- what some options ask for beside these
abbrev pub with_options : Options → List Asked → Options
with_options options [] = options
with_options options (asked ∷ more) = with_options (with_option options asked) more

-- each asks for something that wasn't asked for before it
abbrev pub AreNew : Options → List Asked → Type 0
AreNew options [] = Unit {0}
AreNew options (asked ∷ more) = (is_asked options asked ≡ false) × AreNew (with_option options asked) more

abbrev pub begins_with_dash : List ℕ → Bool
begins_with_dash [] = false
begins_with_dash (c ∷ cs) = c == 45

-- the first word begins as an option does
abbrev pub begins_option : List (List ℕ) → Bool
begins_option [] = false
begins_option (word ∷ words) = begins_with_dash word

-- the words are options of the program, each at most once, in any order, and behind them others, which begin with none
pub record IsSplit (serial : Bool) (words : List (List ℕ)) (options : Options) (rest : List (List ℕ)) : Type 0 where
  pub asked : List Asked
  pub words_are : words ≡ flat_map option_words asked ++ rest
  pub known : AllByRecursion (IsOptionOf serial) asked
  pub once : AreNew none_asked asked
  pub options_are : options ≡ with_options none_asked asked
  pub ends : begins_option rest ≡ false

abbrev pub NoSplit : Bool → List (List ℕ) → Type 0
NoSplit serial words = (options : Options) (rest : List (List ℕ)) → ¬ IsSplit serial words options rest

-- an option of the program, and behind it others
pub record IsNext (serial : Bool) (words : List (List ℕ)) (asked : Asked) (rest : List (List ℕ)) : Type 0 where
  pub words_are : words ≡ option_words asked ++ rest
  pub known : IsOptionOf serial asked

abbrev pub NoNext : Bool → List (List ℕ) → Type 0
NoNext serial words = (asked : Asked) (rest : List (List ℕ)) → ¬ IsNext serial words asked rest

-- the same of the words behind `--picks`
abbrev pub ArePicks : List (List ℕ) → Asked → List (List ℕ) → Type 0
ArePicks words asked rest = IsNext true (codes "--picks" ∷ words) asked rest

abbrev pub NoPicks : List (List ℕ) → Type 0
NoPicks words = NoNext true (codes "--picks" ∷ words)

-- and of those behind `--workers`
abbrev pub AreWorkers : List (List ℕ) → Asked → List (List ℕ) → Type 0
AreWorkers words asked rest = IsNext false (codes "--workers" ∷ words) asked rest

abbrev pub NoWorkers : List (List ℕ) → Type 0
NoWorkers words = NoNext false (codes "--workers" ∷ words)

-- ---- what the options ask for

abbrev pub or_usual : Bool → Option ℕ → ℕ
or_usual true None = 1
or_usual false None = WORKERS_USUAL
or_usual serial (Some n) = n

abbrev pub workers_of : Bool → Options → ℕ
workers_of serial options = or_usual serial options.workers

abbrev pub show_of : Options → Show
show_of options = Report options.journal options.bytes

-- they add nothing to a report
pub record IsPlain (options : Options) : Type 0 where
  pub no_journal : options.journal ≡ false
  pub no_bytes : options.bytes ≡ false

-- ---- commands

-- `run`, options and images
pub record IsRunOf (serial : Bool) (words : List (List ℕ)) (workers : ℕ) (picks : Option ℕ) (show : Show) (images : List (List ℕ)) : Type 0 where
  pub rest : List (List ℕ)
  pub options : Options
  pub words_are : words ≡ codes "run" ∷ rest
  pub split : IsSplit serial rest options images
  pub workers_are : workers ≡ workers_of serial options
  pub picks_are : picks ≡ options.picks
  pub show_is : show ≡ show_of options
  pub named : AreImages images

-- `scrub`, at most the seed of the picks, and images
pub record IsScrubOf (words : List (List ℕ)) (picks : Option ℕ) (images : List (List ℕ)) : Type 0 where
  pub rest : List (List ℕ)
  pub options : Options
  pub words_are : words ≡ codes "scrub" ∷ rest
  pub split : IsSplit true rest options images
  pub plain : IsPlain options
  pub picks_are : picks ≡ options.picks
  pub named : AreImages images

-- a seed, a number of blocks, and behind them others
pub record IsSize (words : List (List ℕ)) (seed n : ℕ) (rest : List (List ℕ)) : Type 0 where
  pub words_are : words ≡ decimal seed ∷ decimal n ∷ rest
  pub seed_fits : seed < 2 ^ 32
  pub blocks : IsWithin 1 BLOCKS_MAX n

abbrev pub NoSize : List (List ℕ) → Type 0
NoSize words = (seed n : ℕ) (rest : List (List ℕ)) → ¬ IsSize words seed n rest

-- `gen`, a seed and a number of blocks
pub record IsGenOf (words : List (List ℕ)) (seed n : ℕ) : Type 0 where
  pub rest : List (List ℕ)
  pub words_are : words ≡ codes "gen" ∷ rest
  pub size : IsSize rest seed n []

-- `load`, the same, and images
pub record IsLoadOf (words : List (List ℕ)) (seed n : ℕ) (images : List (List ℕ)) : Type 0 where
  pub rest : List (List ℕ)
  pub words_are : words ≡ codes "load" ∷ rest
  pub size : IsSize rest seed n images
  pub named : AreImages images

-- a command of the program on one thread, or of that with workers
abbrev pub IsCommandOf : Bool → List (List ℕ) → Command → Type 0
IsCommandOf serial words (Run workers picks show images) = IsRunOf serial words workers picks show images
IsCommandOf serial words (Scrub picks images) = (serial ≡ true) × IsScrubOf words picks images
IsCommandOf serial words (Gen seed n) = (serial ≡ true) × IsGenOf words seed n
IsCommandOf serial words (Load seed n images) = (serial ≡ true) × IsLoadOf words seed n images

abbrev pub IsNoCommandOf : Bool → List (List ℕ) → Type 0
IsNoCommandOf serial words = (command : Command) → ¬ IsCommandOf serial words command

-- what its names and numbers are within
abbrev pub IsLawfulCommand : Command → Type 0
IsLawfulCommand (Run workers picks show images) = AreImages images
IsLawfulCommand (Scrub picks images) = AreImages images
IsLawfulCommand (Gen seed n) = IsWithin 1 BLOCKS_MAX n
IsLawfulCommand (Load seed n images) = IsWithin 1 BLOCKS_MAX n × AreImages images
