-- Blocks that are safe and requests that may run, and such that aren't or may not.
use Rattle.std.specs.Prelude.{ℕ, ◌-◌, List, [], ◌∷◌, length, codes, replicate, false, Option, Some, None}
use Rattle.zio_types.specs.declared.error.Errno.{Errno}
use Rattle.zio_types.specs.declared.error.Errno.TheVariants.{Io}
use Rattle.zio_types.specs.declared.request.Prio.TheVariants.{SyncRead, SyncWrite}
use Rattle.zio_blkptr.specs.declared.pointer.SumKind.TheVariants.{Off}
use Rattle.zio_script.specs.declared.script.Body.TheVariants.{Fill}
use Rattle.zio_script.specs.declared.script.Work.{Work}
use Rattle.zio_script.specs.declared.script.Work.TheVariants.{Null, Read, Write, Free}
use Rattle.zio_cksum.specs.Images.{Images, image_of}
use Rattle.zio_gang.specs.Attempts.{Ended, Pending}
use Rattle.zio_gang.specs.Rounds.{Bound}
use Rattle.zio_trace.specs.BlockCopies.{body_copies}
use Rattle.zio_trace.specs.RoundExamples.{asking, block_of_x, first_sector, mirror_of_two}
use Rattle.zio_trace.specs.RunTraces.{RoundStart}
use Rattle.zio_heal.specs.ContentCases.{letters}
use Rattle.zio_heal.specs.Given.{Deeds}
use Rattle.zio_heal.specs.GivenCases.{wrote_at}
use Rattle.zio_heal.specs.SafeBlocks.{AreSafe, Contents, IsSafe}
use Rattle.zio_heal.specs.SafeRounds.{EndsWell, FitsWrite, HaveChildren, IsSafeEnd, IsSafeStart, NamesApart, NamesWell}

-- ---- blocks

-- two leaves of four sectors
abbrev pub zeros : Images
zeros = replicate 2048 0 ∷ replicate 2048 0 ∷ []

-- zeros were written to the first sector
abbrev pub wrote_zeros : Deeds
wrote_zeros = wrote_at (first_sector ∷ []) 0 []

abbrev pub ZerosAreSafe : Type 0
ZerosAreSafe = IsSafe mirror_of_two.setting zeros wrote_zeros (body_copies block_of_x.bp) (letters 0)

-- nobody gave them
abbrev pub FoundZerosArent : Type 0
FoundZerosArent = IsSafe mirror_of_two.setting zeros [] (body_copies block_of_x.bp) (letters 0) → ⊥

abbrev pub x_bound : Bound
x_bound = record { name = codes "x"; tree = block_of_x } ∷ []

abbrev pub are_safe : Contents → Bound → Type 0
are_safe contents bound = AreSafe mirror_of_two.setting zeros wrote_zeros contents bound

abbrev pub XIsSafe : Type 0
XIsSafe = are_safe (λ name. letters 0) x_bound

-- with another content it isn't
abbrev pub OtherContentIsnt : Type 0
OtherContentIsnt = are_safe (λ name. letters 65) x_bound → ⊥

-- nor is one block under two names
abbrev pub TwoNamesArent : Type 0
TwoNamesArent = are_safe (λ name. letters 0) (record { name = codes "y"; tree = block_of_x } ∷ x_bound) → ⊥

-- ---- requests

abbrev pub reads_x : Work
reads_x = Read (codes "x") SyncRead

abbrev pub writes_of : ℕ → Work
writes_of size = Write (codes "x") Off 1 SyncWrite (Fill 65 size)

abbrev pub ReadHasItsBlock : Type 0
ReadHasItsBlock = NamesWell x_bound reads_x (Some block_of_x)

abbrev pub ReadOfNobodyHasnt : Type 0
ReadOfNobodyHasnt = NamesWell [] reads_x None → ⊥

-- a write's name isn't bound
abbrev pub WriteOfBoundMayNot : Type 0
WriteOfBoundMayNot = NamesWell x_bound (writes_of 512) None → ⊥

-- a child's pointer makes a sector of nothing
abbrev pub PointerFits : Type 0
PointerFits = FitsWrite (asking 1 (writes_of 0) None) 1 (writes_of 0)

abbrev pub NothingDoesnt : Type 0
NothingDoesnt = FitsWrite (asking 1 (writes_of 0) None) 0 (writes_of 0) → ⊥

-- request 2 under request 1
abbrev pub child : Pending
child = record {
  request = record { number = 2; work = writes_of 512; under = Some 1; canfail = false };
  birth = 2;
  block = None;
  kept = [];
}

abbrev pub one_child : ℕ → ℕ
one_child number = 2 - number

abbrev pub ChildIsInFront : Type 0
ChildIsInFront = HaveChildren one_child [] (child ∷ asking 1 Null None ∷ [])

abbrev pub ParentInFrontHasnt : Type 0
ParentInFrontHasnt = HaveChildren one_child [] (asking 1 Null None ∷ child ∷ []) → ⊥

abbrev pub TwoReadsShare : Type 0
TwoReadsShare = NamesApart (asking 1 reads_x (Some block_of_x)) (asking 2 reads_x (Some block_of_x))

abbrev pub ReadAndFreeDont : Type 0
ReadAndFreeDont = NamesApart (asking 1 reads_x (Some block_of_x)) (asking 2 (Free (codes "x")) (Some block_of_x)) → ⊥

-- ---- answers

abbrev pub read_as : Option Errno → List ℕ → Ended
read_as error bytes = record { request = (asking 1 reads_x None).request; error = error; bytes = bytes; tree = None }

abbrev pub GaveContent : Type 0
GaveContent = EndsWell (λ name. letters 0) one_child (read_as None (letters 0))

abbrev pub GaveOther : Type 0
GaveOther = EndsWell (λ name. letters 0) one_child (read_as None (letters 65)) → ⊥

abbrev pub GaveError : Type 0
GaveError = EndsWell (λ name. letters 0) one_child (read_as (Some Io) (letters 0)) → ⊥

-- a write without a block
abbrev pub MadeNothing : Type 0
MadeNothing =
    EndsWell (λ name. letters 0) one_child
    (record { request = child.request; error = None; bytes = []; tree = None }) → ⊥

-- ---- rounds

abbrev pub sizes_of_zeros : ℕ → ℕ
sizes_of_zeros leaf = length (image_of zeros leaf)

-- a round of nothing over the block
abbrev pub idle : RoundStart
idle = record { terms = mirror_of_two; batch = None; answered = []; trees = []; images = zeros; bound = x_bound }

abbrev pub IdleStartsSafely : Type 0
IdleStartsSafely = IsSafeStart [] sizes_of_zeros wrote_zeros (λ name. letters 0) one_child idle

-- the block's places are in use
abbrev pub UnusedDoesnt : Type 0
UnusedDoesnt =
    IsSafeStart [] sizes_of_zeros wrote_zeros (λ name. letters 0) one_child
    (record idle { terms = record mirror_of_two { used = [] } })
    → ⊥

-- what it ends as
abbrev pub ends_safely : RoundStart → Type 0
ends_safely s = IsSafeEnd [] sizes_of_zeros wrote_zeros (λ name. letters 0) one_child s

abbrev pub IdleEndsSafely : Type 0
IdleEndsSafely = ends_safely idle

-- a read without its block goes on, though no row is met
abbrev pub OrphanIsLeft : Type 0
OrphanIsLeft = ends_safely (record idle { trees = (asking 1 reads_x None ∷ []) ∷ [] }) → ⊥
