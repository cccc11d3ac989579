-- What becomes of a request in an attempt.
use Rattle.std.specs.Prelude.{◌≡◌, ℕ, List, [], ◌∷◌, map, filter, count_by, Option, Some, None, not}
use Rattle.zio_types.specs.declared.error.Errno.{Errno}
use Rattle.zio_types.specs.Choices.{Ask}
use Rattle.zio_script.specs.declared.script.Work.{Work}
use Rattle.zio_script.specs.declared.script.Work.TheVariants.{Null, Read, Write, Free, Claim}
use Rattle.zio_cksum.specs.Images.{Images}
use Rattle.zio_gang.specs.declared.tree.Tree.{Tree}
use Rattle.zio_gang.specs.Attempts.{Attempted, Own, has_bits}
use Rattle.zio_course.specs.declared.runner.RequestEnd.{RequestEnd}
use Rattle.zio_course.specs.Runners.{finished_of}
use Rattle.zio_plain.specs.declared.judge.Fate.{Fate}
use Rattle.zio_plain.specs.declared.judge.Fate.TheVariants.{Ends, Again}
use Rattle.zio_plain.specs.declared.judge.Judged.{Judged}
use Rattle.zio_plain.specs.declared.owns.OwnEnd.{OwnEnd}
use Rattle.zio_plain.specs.declared.waiting.Handed.{Handed}
use Rattle.zio_plain.specs.declared.waiting.Kept.{Kept}
use Rattle.zio_plain.specs.declared.waiting.Waiting.{Waiting}
use Rattle.zio_plain.specs.Waits.{pendings, return_of}

-- the own work that asked for this and left these images
abbrev pub own_of : OwnEnd → List Ask → Images → Own
own_of own asks images = record {
  error = own.error;
  bytes = own.bytes;
  tree = own.tree;
  pointer = own.pointer;
  asks = asks;
  images = images;
}

abbrev pub children_handed : List Handed → List Kept
children_handed handed = map (λ (h : Handed). h.child) handed

-- what was handed on by those that don't go again
abbrev pub done_in : List Handed → List Handed
done_in handed = filter (λ (h : Handed). not (has_bits h.bits)) handed

-- how many go again
abbrev pub again_in : List Handed → ℕ
again_in handed = count_by (λ (h : Handed). has_bits h.bits) handed

abbrev pub ends_of : Fate → List RequestEnd
ends_of (Ends f) = f ∷ []
ends_of (Again w) = []

abbrev pub again_of : Fate → List Waiting
again_of (Ends f) = []
again_of (Again w) = w ∷ []

-- it became what the definition says
pub record IsJudged (judged : Judged) (one : Attempted) : Type 0 where
  pub return_is : return_of judged.handed ≡ one.return
  pub ended_is : ends_of judged.fate ≡ map finished_of one.ended
  pub again_is : pendings (again_of judged.fate) ≡ one.again

-- the block that such work frees
abbrev pub freed_block : Work → Option Tree → Option Tree
freed_block Null block = None
freed_block (Read name prio) block = None
freed_block (Write name sum copies prio body) block = None
freed_block (Free name) block = block
freed_block (Claim name pointer) block = None

abbrev pub unused_unless : Option Errno → Option Tree → Option Tree → Option Tree
unused_unless None made freed = freed
unused_unless (Some e) made freed = made

-- The block whose places aren't used from then on: the one that was made, where it ends with an error or goes again, else
-- the one that was freed.
abbrev pub unused_in : Fate → Option Tree → Option Tree → Option Tree
unused_in (Ends f) made freed = unused_unless f.error made freed
unused_in (Again w) made freed = made
