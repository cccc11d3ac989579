-- Lines of a journal, and lines that are spoiled in one place.
use Rattle.std.specs.Prelude.{ℕ, List, [], ◌∷◌, codes}
use Rattle.std.specs.List.{AllByRecursion}
use Rattle.zio_types.specs.declared.journal.Role.TheVariants.{Body, Head}
use Rattle.zio_types.specs.declared.place.TopSize.{TopSize}
use Rattle.zio_types.specs.Choices.{Choice}
use Rattle.zio_script.specs.Words.{Word}
use Rattle.zio_spelled.specs.Spelled.{IsOrder, IsTake, IsTakeShape}

-- two tops, the second with units of four sectors
abbrev pub two_tops : List TopSize
two_tops = record { sectors = 128; unit = 1 } ∷ record { sectors = 128; unit = 4 } ∷ []

-- a header that found one place too few
abbrev pub header_line : Word
header_line = codes "take 3 1 0.2 head 512 3 0:7 1:8 refused"

-- the place on the second top has a whole unit
abbrev pub header_choice : Choice
header_choice = record {
  asked = record {
    key = record { request = 3; round = 5; attempt = 1; path = 0 ∷ 2 ∷ []; role = Head };
    size = 512;
    copies = 3;
  };
  places = record { top = 0; sector = 7; sectors = 1 } ∷ record { top = 1; sector = 8; sectors = 4 } ∷ [];
}

-- a top that isn't there has the unit 1
abbrev pub body_line : Word
body_line = codes "take 65535 0 - body 1536 1 9:18446744073709551615"

-- three sectors there
abbrev pub body_choice : Choice
body_choice = record {
  asked = record {
    key = record { request = 65535; round = 5; attempt = 0; path = []; role = Body };
    size = 1536;
    copies = 1;
  };
  places = record { top = 9; sector = 18446744073709551615; sectors = 3 } ∷ [];
}

-- both lines spell their entries
pub record GoodLinesAreRead : Type 0 where
  pub header : IsTake two_tops 5 header_line header_choice
  pub body : IsTake two_tops 5 body_line body_choice
  pub order : IsOrder (codes "order 3 1 65535") (3 ∷ 1 ∷ 65535 ∷ [])

-- a double blank, a blank behind, a leading zero, numbers and steps outside their types, nine steps, no step, four
-- places, a place behind the mark, another role, a word too few
abbrev pub spoiled_takes : List Word
spoiled_takes =
    codes "take 3 1  0.2 head 512 3 0:7"
    ∷ codes "take 3 1 0.2 head 512 3 0:7 "
    ∷ codes "take 03 1 0.2 head 512 3 0:7"
    ∷ codes "take 3 4294967296 0.2 head 512 3 0:7"
    ∷ codes "take 3 1 0.256 head 512 3 0:7"
    ∷ codes "take 3 1 0.0.0.0.0.0.0.0.0 head 512 3 0:7"
    ∷ codes "take 3 1 0. head 512 3 0:7"
    ∷ codes "take 3 1 0.2 head 512 3 0:7 0:8 0:9 0:10"
    ∷ codes "take 3 1 0.2 head 512 3 refused 0:7"
    ∷ codes "take 3 1 0.2 tail 512 3 0:7"
    ∷ codes "take 3 1 0.2 head 512"
    ∷ codes "take 3 1 0.2 head 512 3 0:18446744073709551616"
    ∷ codes " take 3 1 0.2 head 512 3 0:7" ∷ []

-- no number, a double blank, a leading zero, a number outside its type, a word
abbrev pub spoiled_orders : List Word
spoiled_orders =
    codes "order" ∷ codes "order  3" ∷ codes "order 03" ∷ codes "order 4294967296" ∷ codes "order 3 x" ∷ []

-- none of them is of the shape
abbrev pub SpoiledTakesAreRefused : Type 0
SpoiledTakesAreRefused = AllByRecursion (λ line. ¬ IsTakeShape line) spoiled_takes

abbrev pub SpoiledOrdersAreRefused : Type 0
SpoiledOrdersAreRefused = AllByRecursion (λ line. (numbers : List ℕ) → ¬ IsOrder line numbers) spoiled_orders
