use Rattle.std.proofs.Common.{◌≤◌, ◌*◌, length, arith}
use Rattle.zio_parts.specs.Copies.{copies_at}
use Rattle.zio_parts.proofs.WantedLemmas.{copies_few}
use Rattle.zio_parts.proofs.laws.copies_are_few.Goals as goal

pub returns : goal.returns
returns c = λ tops places mirrored few. let h : length (copies_at tops places) ≤ 4 * length places = copies_few tops places mirrored in omega arith
