use Rattle.std.proofs.Common.{◌≡◌, ◌∷◌, [], length, get_or, ◌∙◌, rules}
use Rattle.std.specs.List.{flat_map}
use Rattle.zio_blkptr.specs.Pointers.{word}
use Rattle.zio_blkptr.proofs.SpellingLemmas.{sector_small, spelling-words}
use Rattle.zio_blkptr.proofs.spelling.encode.Goals as goal

pub second_word-requires-2 : goal.second_word-requires-2
second_word-requires-2 c = sector_small c.args.bp.now c.requires 1

pub second_word-requires-3 : goal.second_word-requires-3
second_word-requires-3 c = sector_small c.args.bp.now c.requires 2

pub returns : goal.returns
returns c =
    let k : length c.args.bp.now.places ≡ 3 = search rules in
    let l : length c.args.bp.now.words ≡ 4 = search rules in
    c.bytes_of.ensures
    ∙ (λ j. flat_map word (
    c.first_word.ensures j ∷ c.second_word.ensures j ∷ c.first_word-2.ensures j ∷ c.second_word-2.ensures j
    ∷ c.first_word-3.ensures j ∷ c.second_word-3.ensures j ∷ c.properties.ensures j
    ∷ 0 ∷ 0 ∷ 0 ∷ c.args.bp.now.birth ∷ 1 ∷ get_or c.args.bp.now.words 0 0 ∷ get_or c.args.bp.now.words 1 0
    ∷ get_or c.args.bp.now.words 2 0 ∷ get_or c.args.bp.now.words 3 0 ∷ []
    ))
    ∙ spelling-words c.args.bp.now k l c.requires
