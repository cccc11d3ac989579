use Rattle.std.proofs.Common.{◌≡◌, ℕ, ◌-◌, ◌<◌, ◌≤◌, length}
use Rattle.std.specs.Prelude.{true}
use Rattle.zio_places.specs.Flags.{flag_at}
use Rattle.zio_places.proofs.word.Word.front_from.Given as goal

abbrev pub invariant-loop-end : goal.invariant-loop-end
invariant-loop-end l = record {
  from : l.at ≤ l.end;
  within : l.end ≤ length l.self;
  free : (k : ℕ) → l.at ≤ k → k < l.end → flag_at l.self k ≡ true;
}

abbrev pub decreases-loop-end : goal.decreases-loop-end
decreases-loop-end l = length l.self - l.end
