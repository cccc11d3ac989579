use Rattle.std.proofs.Common.{◌≡◌, ◌≤◌, length, true, rules, arith}
use Rattle.zio_script.specs.Words.{is_name}
use Rattle.zio_script.proofs.KeyLemmas.{filled_name, filled_word}
use Rattle.zio_script.proofs.name.Name.from_word.Goals as goal

pub invariant_of-result : goal.invariant_of-result
invariant_of-result c =
    let fits : length c.args.word.now ≤ 16 = omega arith in
    let named : is_name c.args.word.now ≡ true = search rules in
    (filled_word c.args.word.now c.copy_from_slice.new.self c.copy_from_slice.ensures.after fits, filled_name c.args.word.now c.copy_from_slice.new.self _ c.copy_from_slice.ensures.after named)
