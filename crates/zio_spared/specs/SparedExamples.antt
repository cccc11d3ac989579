-- A block on a mirror of two leaves, of which one has a bad copy, and a read of it.
use Rattle.std.specs.Prelude.{◌≡◌, ℕ, List, [], ◌∷◌, codes, map, replicate, false, Some, None, Contains, Ok, Err}
use Rattle.zio_types.specs.declared.error.Errno.TheVariants.{Io}
use Rattle.zio_types.specs.declared.place.Place.{Place}
use Rattle.zio_types.specs.declared.request.Prio.TheVariants.{SyncRead}
use Rattle.zio_types.specs.Choices.{no_place}
use Rattle.zio_blkptr.specs.declared.pointer.Bp.{Bp}
use Rattle.zio_blkptr.specs.declared.pointer.SumKind.TheVariants.{Fletcher4}
use Rattle.zio_faults.specs.declared.table.FaultKind.{FaultKind}
use Rattle.zio_faults.specs.declared.table.FaultKind.TheVariants.{Eio, Flip}
use Rattle.zio_faults.specs.declared.table.On.TheVariants.{Read as OnRead}
use Rattle.zio_faults.specs.declared.table.Row.{Row}
use Rattle.zio_script.specs.declared.script.Failmode.TheVariants.{Wait}
use Rattle.zio_script.specs.declared.script.Work.TheVariants.{Read}
use Rattle.zio_cksum.specs.Images.{Images, Setting, Spot}
use Rattle.zio_gang.specs.declared.tree.Tree.{Tree}
use Rattle.zio_gang.specs.Attempts.{Pending, Terms}
use Rattle.zio_trace.specs.BlockCopies.{Copies, body_copies}
use Rattle.zio_trace.specs.Families.{Forest, NoTrees, TreeOf}
use Rattle.zio_trace.specs.Leaves.{Answer, Fetch, LeafOp, Store}
use Rattle.zio_trace.specs.Programs.{Deed}
use Rattle.zio_trace.specs.SoundRounds.{work_of}
use Rattle.zio_trace.specs.Tasks.{Leaf, Task, Value}
use Rattle.zio_trace.specs.Labels.{Labelled}
use Rattle.zio_trace.specs.Underway.{Flight, IsUnderway, State}

-- a place of one sector, on leaves that have one
abbrev pub only_sector : Place
only_sector = record { top = 0; sector = 0; sectors = 1 }

-- a sector of bytes, with their sum
abbrev pub pointer_of_x : Bp
pointer_of_x = record {
  count = 1;
  places = only_sector ∷ no_place ∷ no_place ∷ [];
  gang = false;
  size = 512;
  sum = Fletcher4;
  birth = 1;
  words = 1 ∷ 128 ∷ 8256 ∷ 357760 ∷ [];
}

abbrev pub block_of_x : Tree
block_of_x = record { bp = pointer_of_x; heads = [] }

abbrev pub piece_of_x : Copies
piece_of_x = body_copies pointer_of_x

abbrev pub copy_on : ℕ → Spot
copy_on leaf = record { leaf = leaf; at = 0; span = 512 }

abbrev pub good_bytes : List ℕ
good_bytes = 1 ∷ replicate 511 0

abbrev pub bad_bytes : List ℕ
bad_bytes = replicate 512 0

-- ---- a repair in flight

abbrev pub mirror_of_two : Terms
mirror_of_two = record {
  setting = record { tops = record { leaves = 0 ∷ 1 ∷ []; sectors = 1; unit = 1 } ∷ []; rows = []; point = 0 };
  failmode = Wait;
  round = 2;
  used = only_sector ∷ [];
}

abbrev pub leaves_of_one : ℕ → ℕ
leaves_of_one leaf = 512

abbrev pub read_of_x : Pending
read_of_x = record {
  request = record { number = 1; work = Read (codes "x") SyncRead; under = None; canfail = false };
  birth = 2;
  block = Some block_of_x;
  kept = [];
}

abbrev pub one_read : Forest
one_read = TreeOf read_of_x NoTrees NoTrees

-- the first leaf has a bad copy, the second a good one
abbrev pub first_is_bad : Images
first_is_bad = bad_bytes ∷ good_bytes ∷ []

abbrev pub read_on : ℕ → Task
read_on leaf = Leaf (Fetch false 512 (copy_on leaf))

-- both copies were read, and the repair of the first is in flight
pub record IsRepairing (s : State) : Type 0 where
  pub under : IsUnderway (work_of mirror_of_two leaves_of_one one_read) (Some first_is_bad) s
  pub reads : map (λ (d : Deed (Labelled Task) Value). d.op.op) s.deeds ≡ read_on 0 ∷ read_on 1 ∷ []
  pub writes : Contains (map (λ (x : Flight). x.op.op) s.flights) (Leaf (Store false good_bytes (copy_on 0)))

-- ---- a row that turns bytes

-- reads of the first leaf fail, and those of the second are turned
abbrev pub fault_on : ℕ → FaultKind → Row
fault_on leaf kind = record {
  leaf = leaf;
  on = OnRead;
  at = 0;
  len = 512;
  from = 0;
  until = 9;
  kind = kind;
  first = false;
}

abbrev pub turned_mirror : Setting
turned_mirror = record { tops = mirror_of_two.setting.tops; rows = fault_on 0 Eio ∷ fault_on 1 Flip ∷ []; point = 0 }

-- the first leaf has the only good copy
abbrev pub second_is_bad : Images
second_is_bad = good_bytes ∷ (254 ∷ replicate 511 255) ∷ []

-- a read takes the turned bytes, and writes to the good copy
abbrev pub reads_turned : List (Deed LeafOp Answer)
reads_turned =
    record { op = Fetch false 512 (copy_on 0); answer = Err Io }
    ∷ record { op = Fetch false 512 (copy_on 1); answer = Ok good_bytes }
    ∷ record { op = Store false good_bytes (copy_on 0); answer = Ok [] } ∷ []
