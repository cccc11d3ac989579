-- What the sink tells that takes every piece.
use Rattle.std.specs.Prelude.{◌≡◌, ℕ, List, true}
use Rattle.zio_row.specs.declared.kept.GrowingSink.{GrowingSink}

-- it holds these bytes, if memory was granted for all pieces
abbrev pub holds : GrowingSink → List ℕ → Type 0
holds sink text = sink.is_whole ≡ true → text ≡ sink.bytes.items
