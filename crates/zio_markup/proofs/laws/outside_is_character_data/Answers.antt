use Rattle.std.proofs.Common.{map}
use Rattle.zio_markup.specs.Escapes.{escape_of}
use Rattle.zio_markup.proofs.EscapeLemmas.{clean, each_datum, pieces}
use Rattle.zio_markup.proofs.laws.outside_is_character_data.Goals as goal

pub returns-clause-data : goal.returns-clause-data
returns-clause-data c = λ text. record { pieces = map escape_of text; joined = pieces text; each = each_datum text }

pub returns-clause-markup : goal.returns-clause-markup
returns-clause-markup c = clean
