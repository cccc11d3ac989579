-- Which choices a journal may have for what a run asks.
use Rattle.std.specs.Prelude.{List, [], ◌∷◌, ◌++◌, codes}
use Rattle.zio_types.specs.declared.journal.Role.TheVariants.{Body, Head}
use Rattle.zio_types.specs.declared.place.Place.{Place}
use Rattle.zio_types.specs.Choices.{Choice}
use Rattle.zio_blkptr.specs.declared.pointer.SumKind.TheVariants.{Off}
use Rattle.zio_script.specs.declared.script.Failmode.TheVariants.{Wait}
use Rattle.zio_script.specs.declared.script.Item.TheVariants.{Go, Clear}
use Rattle.zio_script.specs.declared.script.Script.{Script}
use Rattle.zio_cksum.specs.Images.{Images}
use Rattle.zio_gang.specs.Journals.{IsLawfulJournal}
use Rattle.zio_gang.specs.Runs.{plan_of}
use Rattle.zio_gang.specs.Trees.{sizes_of}
use Rattle.zio_worked.specs.Families.{refused_script, refused_choices}
use Rattle.zio_worked.specs.Scripts.{script, script_over, write, free, choice, place, zeros, rounds_in}
use Rattle.zio_worked.specs.Suspension.{broken_script, four_attempts, gang_script, gang_choices}

-- the choices are lawful for the run that they give
abbrev pub IsLawful : Script → Images → List Choice → Type 0
IsLawful s images choices =
    IsLawfulJournal (sizes_of ((plan_of s images choices).tops)) (rounds_in s images choices) choices

-- ---- two writes in a batch, on a top of eight sectors

abbrev pub pair_script : Script
pair_script = script Wait ((0 ∷ []) ∷ []) [] (
    write 1 (codes "x") Off 1 65 512 ∷ write 2 (codes "y") Off 1 66 1024 ∷ Go ∷ [])

abbrev pub for_x : Choice
for_x = choice 1 1 0 [] Body 512 1 (place 0 0 1 ∷ [])

abbrev pub for_y : Choice
for_y = choice 2 1 0 [] Body 1024 1 (place 0 3 2 ∷ [])

abbrev pub IsLawfulPair : List Choice → Type 0
IsLawfulPair choices = IsLawful pair_script (zeros 4096 ∷ []) choices

abbrev pub PairIsLawful : Type 0
PairIsLawful = IsLawfulPair (for_x ∷ for_y ∷ [])

-- a batch's trees may ask in any order
abbrev pub OtherOrderIsLawful : Type 0
OtherOrderIsLawful = IsLawfulPair (for_y ∷ for_x ∷ [])

-- there was one attempt, and no second
abbrev pub second_attempt : Choice
second_attempt = choice 1 1 1 [] Body 512 1 (place 0 6 1 ∷ [])

abbrev pub KeyNotAskedFor : Type 0
KeyNotAskedFor = ¬ IsLawfulPair (for_x ∷ for_y ∷ second_attempt ∷ [])

abbrev pub KeyTwice : Type 0
KeyTwice = ¬ IsLawfulPair (for_x ∷ for_y ∷ choice 1 1 0 [] Body 512 1 (place 0 6 1 ∷ []) ∷ [])

abbrev pub AskWithoutChoice : Type 0
AskWithoutChoice = ¬ IsLawfulPair (for_x ∷ [])

-- a choice is for the size that was asked for
abbrev pub half_of_y : Choice
half_of_y = choice 2 1 0 [] Body 512 1 (place 0 3 1 ∷ [])

abbrev pub OtherSize : Type 0
OtherSize = ¬ IsLawfulPair (for_x ∷ half_of_y ∷ [])

abbrev pub RoundThatWasNotRun : Type 0
RoundThatWasNotRun = ¬ IsLawfulPair (for_x ∷ for_y ∷ choice 1 2 0 [] Body 512 1 (place 0 6 1 ∷ []) ∷ [])

-- the sector of x is the second of y
abbrev pub PlaceOfAnother : Type 0
PlaceOfAnother = ¬ IsLawfulPair (choice 1 1 0 [] Body 512 1 (place 0 4 1 ∷ []) ∷ for_y ∷ [])

-- the second sector is behind the last of the top
abbrev pub PlaceOutside : Type 0
PlaceOutside = ¬ IsLawfulPair (for_x ∷ choice 2 1 0 [] Body 1024 1 (place 0 7 2 ∷ []) ∷ [])

abbrev pub PlaceTooShort : Type 0
PlaceTooShort = ¬ IsLawfulPair (for_x ∷ choice 2 1 0 [] Body 1024 1 (place 0 3 1 ∷ []) ∷ [])

abbrev pub TooManyPlaces : Type 0
TooManyPlaces = ¬ IsLawfulPair (choice 1 1 0 [] Body 512 1 (place 0 0 1 ∷ place 0 6 1 ∷ []) ∷ for_y ∷ [])

-- y is made a gang, though a run for the whole of it is free
abbrev pub RefusedWithRoom : Type 0
RefusedWithRoom = ¬ IsLawfulPair (
    for_x
    ∷ choice 2 1 0 [] Body 1024 1 []
    ∷ choice 2 1 0 [] Head 512 2 (place 0 1 1 ∷ place 0 2 1 ∷ [])
    ∷ choice 2 1 0 (0 ∷ []) Body 512 1 (place 0 3 1 ∷ [])
    ∷ choice 2 1 0 (1 ∷ []) Body 512 1 (place 0 4 1 ∷ []) ∷ [])

-- ---- places of other rounds and attempts

abbrev pub PlaceOfBoundBlock : Type 0
PlaceOfBoundBlock =
    ¬ IsLawful
    (script Wait ((0 ∷ []) ∷ []) [] (write 1 (codes "x") Off 1 65 512 ∷ Go ∷ write 2 (codes "y") Off 1 66 512 ∷ Go ∷ []))
    (zeros 4096 ∷ [])
    (choice 1 1 0 [] Body 512 1 (place 0 0 1 ∷ []) ∷ choice 2 2 0 [] Body 512 1 (place 0 0 1 ∷ []) ∷ [])

-- what is freed in a round is free only after it
abbrev pub PlaceFreedInTheRound : Type 0
PlaceFreedInTheRound =
    ¬ IsLawful
    (script Wait ((0 ∷ []) ∷ []) [] (
    write 1 (codes "x") Off 1 65 512 ∷ Go ∷ free 2 (codes "x") ∷ write 3 (codes "y") Off 1 66 512 ∷ Go ∷ []))
    (zeros 4096 ∷ [])
    (choice 1 1 0 [] Body 512 1 (place 0 0 1 ∷ []) ∷ choice 3 2 0 [] Body 512 1 (place 0 0 1 ∷ []) ∷ [])

-- a write that fails gives its place back, but not to the next attempt
abbrev pub PlaceOfEarlierAttempt : Type 0
PlaceOfEarlierAttempt =
    ¬ IsLawful (broken_script Wait []) (zeros 4096 ∷ [])
    (choice 1 1 0 [] Body 512 1 (place 0 0 1 ∷ [])
    ∷ choice 1 1 1 [] Body 512 1 (place 0 0 1 ∷ [])
    ∷ choice 1 1 2 [] Body 512 1 (place 0 2 1 ∷ [])
    ∷ choice 1 1 3 [] Body 512 1 (place 0 3 1 ∷ []) ∷ [])

-- in the next round it is free again
abbrev pub GivenBackIsLawful : Type 0
GivenBackIsLawful =
    IsLawful (broken_script Wait (Clear ∷ [])) (zeros 4096 ∷ [])
    (four_attempts ++ choice 1 2 0 [] Body 512 1 (place 0 0 1 ∷ []) ∷ [])

-- ---- copies on several tops

abbrev pub two_copies : Script
two_copies = script Wait ((0 ∷ []) ∷ (1 ∷ []) ∷ []) [] (write 1 (codes "x") Off 2 65 512 ∷ Go ∷ [])

abbrev pub CopyOnUsedTop : Type 0
CopyOnUsedTop =
    ¬ IsLawful two_copies (zeros 4096 ∷ zeros 4096 ∷ [])
    (choice 1 1 0 [] Body 512 2 (place 0 0 1 ∷ place 0 4 1 ∷ []) ∷ [])

-- on one top the second copy of a block may not meet its first
abbrev pub CopiesThatMeet : Type 0
CopiesThatMeet =
    ¬ IsLawful (script Wait ((0 ∷ []) ∷ []) [] (write 1 (codes "x") Off 2 65 512 ∷ Go ∷ [])) (zeros 4096 ∷ [])
    (choice 1 1 0 [] Body 512 2 (place 0 3 1 ∷ place 0 3 1 ∷ []) ∷ [])

-- the other top is full
abbrev pub SecondCopyIsLawful : Type 0
SecondCopyIsLawful =
    IsLawful
    (script Wait ((0 ∷ []) ∷ (1 ∷ []) ∷ []) [] (
    write 1 (codes "full") Off 1 0 4096 ∷ Go ∷ write 2 (codes "x") Off 2 65 512 ∷ Go ∷ []))
    (zeros 4096 ∷ zeros 4096 ∷ [])
    (choice 1 1 0 [] Body 4096 1 (place 1 0 8 ∷ [])
    ∷ choice 2 2 0 [] Body 512 2 (place 0 0 1 ∷ place 0 4 1 ∷ []) ∷ [])

-- ---- refused choices

-- no run of two sectors is free, and not two sectors for the headers; what was found for these the parent has
abbrev pub RefusedIsLawful : Type 0
RefusedIsLawful = IsLawful refused_script (zeros 4096 ∷ []) refused_choices

-- every other sector is full: the block finds no run, and becomes a gang with two headers and two members
abbrev pub GangIsLawful : Type 0
GangIsLawful = IsLawful (gang_script Wait []) (zeros 4096 ∷ []) gang_choices

-- a refused choice has the places that are found for its first copies
abbrev pub RefusedBeforeTheLast : Type 0
RefusedBeforeTheLast =
    ¬ IsLawful refused_script (zeros 4096 ∷ [])
    (choice 1 1 0 [] Body 3584 1 (place 0 0 7 ∷ [])
    ∷ choice 3 2 0 [] Body 1024 1 []
    ∷ choice 3 2 0 [] Head 512 2 []
    ∷ choice 2 2 0 [] Body 512 1 (place 0 7 1 ∷ [])
    ∷ choice 5 4 0 [] Body 512 1 (place 0 7 1 ∷ []) ∷ [])

-- a choice is refused behind its first copy, though there is room for the second
abbrev pub RefusedBehindACopy : Type 0
RefusedBehindACopy =
    ¬ IsLawful (script Wait ((0 ∷ []) ∷ []) [] (write 1 (codes "x") Off 2 65 512 ∷ Go ∷ [])) (zeros 4096 ∷ [])
    (choice 1 1 0 [] Body 512 2 (place 0 3 1 ∷ []) ∷ [])

-- ---- a top of two places of eight sectors

abbrev pub IsLawfulUnit : Place → Type 0
IsLawfulUnit p =
    IsLawful (script_over Wait (record { leaves = 0 ∷ []; unit = 8 } ∷ []) [] (write 1 (codes "x") Off 1 65 512 ∷ Go ∷ []))
    (zeros 8192 ∷ []) (choice 1 1 0 [] Body 512 1 (p ∷ []) ∷ [])

-- one sector takes a whole unit
abbrev pub WholeUnitIsLawful : Type 0
WholeUnitIsLawful = IsLawfulUnit (place 0 8 8)

-- a place begins at a unit
abbrev pub PlaceBetweenUnits : Type 0
PlaceBetweenUnits = ¬ IsLawfulUnit (place 0 4 8)

abbrev pub PlaceOfPartOfAUnit : Type 0
PlaceOfPartOfAUnit = ¬ IsLawfulUnit (place 0 8 1)

abbrev pub PlaceOfTwoUnits : Type 0
PlaceOfTwoUnits = ¬ IsLawfulUnit (place 0 0 16)
