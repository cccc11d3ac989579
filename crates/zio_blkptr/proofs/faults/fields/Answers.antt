use Rattle.std.proofs.Common.{◌+◌, ◌*◌, ◌/◌, ◌%◌, ◌^◌, ◌∷◌, [], length, take_while, ◌==◌, ap, ◌∙◌}
use Rattle.zio_blkptr.specs.Pointers.{has_sectors, sum_of_number}
use Rattle.zio_blkptr.specs.Faults.{bits}
use Rattle.zio_blkptr.proofs.FaultParts.{bits_low}
use Rattle.zio_blkptr.proofs.faults.fields.Goals as goal

pub returns : goal.returns
returns c =
    let p = c.place_field.ensures in
    let q = c.place_field-2.ensures in
    let r = c.place_field-3.ensures in
    let properties = c.word_of-properties.ensures in
    let count = c.count_present.ensures ∙ (λ j. length (take_while has_sectors (p j ∷ q j ∷ r j ∷ []))) in
    let gang = ap (λ n. n == 1) (c.gang_bit.ensures.highest ∙ ap (λ w. w / 2 ^ 63) c.word_of.ensures) in
    let size = ap (λ n. (n + 1) * 512) (c.logical_size.ensures ∙ bits_low c.word_of-properties.result 16 ∙ ap (λ w. w % 2 ^ 16) properties) in
    let sum = c.sum_of_number.ensures ∙ ap sum_of_number (c.checksum.ensures ∙ ap (λ w. bits w 40 8) properties) in
    λ j. record {
      count = count j;
      places = p j ∷ q j ∷ r j ∷ [];
      gang = gang j;
      size = size j;
      sum = sum j;
      birth = c.word_of-2.ensures j;
      words = c.word_of-3.ensures j ∷ c.word_of-4.ensures j ∷ c.word_of-5.ensures j ∷ c.word_of-6.ensures j ∷ [];
    }
