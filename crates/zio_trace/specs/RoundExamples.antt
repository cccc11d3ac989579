-- A round on a mirror of two leaves, in which one block is read twice and another written.
use Rattle.std.specs.Prelude.{ℕ, [], ◌∷◌, codes, replicate, false, Option, Some, None}
use Rattle.zio_types.specs.declared.place.Place.{Place}
use Rattle.zio_types.specs.declared.request.Prio.TheVariants.{SyncRead, SyncWrite}
use Rattle.zio_types.specs.Choices.{no_place}
use Rattle.zio_blkptr.specs.declared.pointer.SumKind.TheVariants.{Off}
use Rattle.zio_script.specs.declared.script.Body.TheVariants.{Fill}
use Rattle.zio_script.specs.declared.script.Failmode.TheVariants.{Wait}
use Rattle.zio_script.specs.declared.script.Work.{Work}
use Rattle.zio_script.specs.declared.script.Work.TheVariants.{Read, Write}
use Rattle.zio_gang.specs.declared.tree.Tree.{Tree}
use Rattle.zio_gang.specs.Attempts.{Pending, Terms}
use Rattle.zio_trace.specs.Families.{Forest, NoTrees, TreeOf}

-- the block's copies are the first sectors of both leaves, which have four
abbrev pub first_sector : Place
first_sector = record { top = 0; sector = 0; sectors = 1 }

abbrev pub block_of_x : Tree
block_of_x = record {
  bp = record {
    count = 1;
    places = first_sector ∷ no_place ∷ no_place ∷ [];
    gang = false;
    size = 512;
    sum = Off;
    birth = 1;
    words = replicate 4 0;
  };
  heads = [];
}

abbrev pub mirror_of_two : Terms
mirror_of_two = record {
  setting = record { tops = record { leaves = 0 ∷ 1 ∷ []; sectors = 4; unit = 1 } ∷ []; rows = []; point = 0 };
  failmode = Wait;
  round = 2;
  used = first_sector ∷ [];
}

abbrev pub leaves_of_four : ℕ → ℕ
leaves_of_four leaf = 2048

abbrev pub asking : ℕ → Work → Option Tree → Pending
asking number work block = record {
  request = record { number = number; work = work; under = None; canfail = false };
  birth = 2;
  block = block;
  kept = [];
}

abbrev pub alone : Pending → Forest → Forest
alone p others = TreeOf p NoTrees others

abbrev pub two_reads_and_a_write : Forest
two_reads_and_a_write =
    alone (asking 1 (Read (codes "x") SyncRead) (Some block_of_x))
    (alone (asking 2 (Read (codes "x") SyncRead) (Some block_of_x))
    (alone (asking 3 (Write (codes "y") Off 2 SyncWrite (Fill 65 512)) None) NoTrees))
