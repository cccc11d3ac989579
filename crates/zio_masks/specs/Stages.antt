-- The order of the stages, and which of them a pipeline has.
use Rattle.std.specs.Prelude.{◌≡◌, ℕ, ◌+◌, ◌^◌, ◌<◌, ◌≤◌, List, [], ◌∷◌, filter, Bool, true, false, IsTrue, ◌==◌}
use Rattle.std.specs.Int.{bit_at}
use Rattle.zio_masks.specs.declared.pipeline.Pipeline.{Pipeline}
use Rattle.zio_masks.specs.declared.stage.Stage.{Stage}
use Rattle.zio_masks.specs.declared.stage.Stage.TheVariants.{Start, ReadBpInit, WriteBpInit, FreeBpInit, IssueAsync, WriteCompress, ChecksumGenerate, GangAssemble, GangIssue, DvaAllocate, DvaFree, DvaClaim, Ready, VdevIoStart, VdevIoDone, VdevIoAssess, ChecksumVerify, Done}

-- the place of a stage in the order, and its bit in a pipeline
abbrev pub number_of : Stage → ℕ
number_of Start = 0
number_of ReadBpInit = 1
number_of WriteBpInit = 2
number_of FreeBpInit = 3
number_of IssueAsync = 4
number_of WriteCompress = 5
number_of ChecksumGenerate = 6
number_of GangAssemble = 7
number_of GangIssue = 8
number_of DvaAllocate = 9
number_of DvaFree = 10
number_of DvaClaim = 11
number_of Ready = 12
number_of VdevIoStart = 13
number_of VdevIoDone = 14
number_of VdevIoAssess = 15
number_of ChecksumVerify = 16
number_of Done = 17

-- all stages in their order
abbrev pub all_stages : List Stage
all_stages =
    Start ∷ ReadBpInit ∷ WriteBpInit ∷ FreeBpInit ∷ IssueAsync ∷ WriteCompress ∷ ChecksumGenerate ∷ GangAssemble ∷ GangIssue
    ∷ DvaAllocate ∷ DvaFree ∷ DvaClaim ∷ Ready ∷ VdevIoStart ∷ VdevIoDone ∷ VdevIoAssess ∷ ChecksumVerify ∷ Done ∷ []

-- the pipeline has the stage: its bit is 1
abbrev pub has : Pipeline → Stage → Bool
has mask stage = bit_at mask.bits (number_of stage) == 1

-- a pipeline of these stages, in their order, without a bit that is no stage's
pub record IsPipelineOf (mask : Pipeline) (stages : List Stage) : Type 0 where
  pub having : filter (has mask) all_stages ≡ stages
  pub no_more : mask.bits < 2 ^ 18

-- the first stage of a pipeline after another
pub record IsNext (mask : Pipeline) (stage next : Stage) : Type 0 where
  pub stands : IsTrue (has mask next)
  pub later : number_of stage < number_of next
  pub first : (other : Stage) → IsTrue (has mask other) → number_of stage < number_of other → number_of next ≤ number_of other

abbrev pub is_gang_stage : Stage → Bool
is_gang_stage GangAssemble = true
is_gang_stage GangIssue = true
is_gang_stage _ = false

-- the bits of the gang stages
abbrev pub gang_bits : ℕ
gang_bits = 2 ^ 7 + 2 ^ 8
