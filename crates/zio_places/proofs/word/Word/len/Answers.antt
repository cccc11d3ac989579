use Rattle.std.proofs.Common.{sym}
use Rattle.zio_places.proofs.WordLemmas.{word_length}
use Rattle.zio_places.proofs.word.Word.len.Goals as goal

pub returns-clause-size : goal.returns-clause-size
returns-clause-size c = sym (word_length _ _ _ c.self.view_is)
