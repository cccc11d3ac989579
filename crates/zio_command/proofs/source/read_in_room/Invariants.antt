use Rattle.std.proofs.Common.{◌≡◌, ◌+◌, ◌-◌, ◌≤◌, ℕ, List, vec_len}
use Rattle.zio_script.specs.declared.read.TheConstants.{SCRIPT_LEN_MAX}
use Rattle.zio_command.specs.declared.source.TheConstants.{PIECE_LEN}
use Rattle.zio_command.proofs.ReadLemmas.{HasRead}
use Rattle.zio_command.proofs.source.read_in_room.Given as goal

abbrev pub invariant-loop-bytes : goal.invariant-loop-bytes
invariant-loop-bytes g l = record {
  piece : vec_len l.piece ≡ PIECE_LEN;
  short : vec_len l.bytes ≤ SCRIPT_LEN_MAX + 1;
  count : g.S.Source.faults l.source ≡ g.S.Source.faults l.fn.source;
  sound : g.S.Source.sound l.fn.source → g.S.Source.sound l.source;
  told : (text : List ℕ) → g.S.Source.left l.fn.source text → HasRead (g.S.Source.left l.source) text l.bytes.items;
}

abbrev pub decreases-loop-bytes : goal.decreases-loop-bytes
decreases-loop-bytes g l = (SCRIPT_LEN_MAX + 1) - vec_len l.bytes
