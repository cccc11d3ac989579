use Rattle.std.proofs.Common.{◌≡◌, map}
use Rattle.std.specs.Prelude.{filter, not}
use Rattle.zio_script.specs.Words.{is_empty}
use Rattle.zio_script.proofs.word.split_words.Given as goal

abbrev pub invariant-loop-part : goal.invariant-loop-part
invariant-loop-part l = map (λ w. w.now) l.words.items ≡ filter (λ part. not (is_empty part)) (map (λ w. w.now) l.yielded)
