use Rattle.std.proofs.Common.{◌≡◌, ◌&&◌, ℕ, not}
use Rattle.std.specs.List.{AllByRecursion}
use Rattle.zio_cksum.specs.Images.{Images, Setting}
use Rattle.zio_scrub.specs.Reads.{AreHearable, IsHeard, IsTrueOf, IsTruthful, is_answered, is_out, mark_at}
use Rattle.zio_scrub.proofs.reads.hear_all.Given as goal

abbrev pub invariant-loop-answer : goal.invariant-loop-answer
invariant-loop-answer l = record {
  heard : IsHeard l.layout l.heard;
  hearable : AreHearable l.layout (mark_at l.heard) l.answer-iterator;
  marks : (ticket : ℕ) → (is_out (mark_at l.heard ticket) && not (is_answered ticket l.answer-iterator))
      ≡ (is_out (mark_at l.initial.heard ticket) && not (is_answered ticket l.fn.answers));
  told : (s : Setting) (images : Images) → AllByRecursion (IsTruthful s images l.layout) l.fn.answers → IsTrueOf s images l.layout l.initial.heard
      → IsTrueOf s images l.layout l.heard × AllByRecursion (IsTruthful s images l.layout) l.answer-iterator;
}
