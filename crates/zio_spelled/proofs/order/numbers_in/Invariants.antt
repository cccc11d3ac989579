use Rattle.std.proofs.Common.{◌≡◌, [], length}
use Rattle.zio_spelled.specs.Reading.{numbers_onto, unread}
use Rattle.zio_spelled.proofs.order.numbers_in.Given as goal

abbrev pub invariant-loop-word : goal.invariant-loop-word
invariant-loop-word l = numbers_onto [] (unread l.initial.words) ≡ numbers_onto l.numbers (unread l.words)

abbrev pub decreases-loop-word : goal.decreases-loop-word
decreases-loop-word l = length (unread l.words)
