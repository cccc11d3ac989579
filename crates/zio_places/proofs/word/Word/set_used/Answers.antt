use Rattle.std.proofs.Common.{◌+◌, ◌≤◌, arith}
use Rattle.zio_places.proofs.WordLemmas.{word_length, word_clear}
use Rattle.zio_places.proofs.word.Word.set_used.Goals as goal

pub overflow_add-at : goal.overflow_add-at
overflow_add-at c = let most : c.args.at + c.args.count ≤ 64 = omega (arith, word_length _ _ _ c.self.view_is, c.requires, c.self.invariant) in omega arith

pub ones-requires-clause-most : goal.ones-requires-clause-most
ones-requires-clause-most c = omega (arith, word_length _ _ _ c.self.view_is, c.requires, c.self.invariant)

pub returns : goal.returns
returns c = rw c.ones.ensures (word_clear _ _ _ _ _ c.self.view_is c.requires c.self.invariant)
