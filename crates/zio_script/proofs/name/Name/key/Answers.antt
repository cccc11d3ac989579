use Rattle.std.proofs.Common.{◌∙◌, ap}
use Rattle.zio_script.specs.Keys.{name_key}
use Rattle.zio_script.proofs.KeyLemmas.{key_of_filled}
use Rattle.zio_script.proofs.name.Name.key.Goals as goal

pub returns : goal.returns
returns c = c.from_le_bytes.ensures ∙ key_of_filled c.self.inside.len c.self.inside.bytes c.self.invariant.0 ∙ ap name_key c.self.view_is
