-- How often a node of each kind runs at most, from where it stands.
use Rattle.std.specs.Prelude.{ℕ, zero, suc, ◌+◌, ◌-◌, ◌*◌, length, Bool, true, false, Option}
use Rattle.zio_masks.specs.declared.stage.Stage.{Stage}
use Rattle.zio_masks.specs.declared.stage.Stage.TheVariants.{Start, ReadBpInit, WriteBpInit, IssueAsync, WriteCompress, ChecksumGenerate, GangAssemble, GangIssue, DvaAllocate, Ready, VdevIoStart, VdevIoDone, VdevIoAssess, ChecksumVerify, Done}
use Rattle.zio_stages.specs.HeadsNodes.{walk_kids_max}
use Rattle.zio_staged.specs.Stages.{told_cost}
use Rattle.zio_nodes.specs.declared.copies_at.CopiesAt.{CopiesAt}
use Rattle.zio_stages.specs.PartWorks.{asked_by, is_second}
use Rattle.zio_stages.specs.declared.write_io.WriteIo.{WriteIo}
use Rattle.zio_nodes.specs.declared.heads_at.HeadsAt.{HeadsAt}
use Rattle.zio_nodes.specs.declared.part_at.PartAt.{PartAt}

-- ---- an operation on a leaf

-- at each stage, while its leaf has it or not; its end pays for what its parent hears
abbrev pub leaf_left : Stage → Bool → ℕ
leaf_left VdevIoStart false = told_cost + 3
leaf_left VdevIoStart true = told_cost + 2
leaf_left VdevIoDone is_out = told_cost + 2
leaf_left VdevIoAssess is_out = told_cost + 1
leaf_left Done is_out = told_cost
leaf_left _ is_out = 0

-- one of which nothing is done
abbrev pub leaf_max : ℕ
leaf_max = 9

-- ---- a read of copies

-- two passes over twelve copies, and a repair of each
abbrev pub read_asks_max : ℕ
read_asks_max = 36

-- the operation that it hands out next, and the step from one to the next
abbrev pub leaf_share : ℕ
leaf_share = leaf_max + 1

-- the pass that is left, which goes back from VdevIoAssess to VdevIoStart
abbrev pub pass_left : Bool → ℕ
pass_left true = 0
pass_left false = 3

-- an operation may be due, for which it goes back from VdevIoDone to VdevIoStart
abbrev pub due_left : Bool → ℕ
due_left true = 2
due_left false = 0

-- the stages that are left, beside those to which it goes back
abbrev pub copies_stages : Stage → ℕ
copies_stages Start = told_cost + 10
copies_stages ReadBpInit = told_cost + 9
copies_stages Ready = told_cost + 8
copies_stages VdevIoStart = told_cost + 2
copies_stages VdevIoDone = told_cost + 3
copies_stages VdevIoAssess = told_cost + 2
copies_stages ChecksumVerify = told_cost + 1
copies_stages Done = told_cost
copies_stages _ = 0

abbrev pub copies_left : CopiesAt → ℕ
copies_left at =
    leaf_share * (read_asks_max - at.node.io.asked) + pass_left at.node.io.read.retry + due_left at.is_due + copies_stages at.stage

-- one of which nothing is done
abbrev pub copies_max : ℕ
copies_max = 381

-- ---- a walk over headers

-- its stages
abbrev pub walk_stages : Stage → ℕ
walk_stages Start = told_cost + 9
walk_stages GangAssemble = told_cost + 8
walk_stages GangIssue = told_cost + 7
walk_stages Ready = told_cost + 6
walk_stages Done = told_cost
walk_stages _ = 0

-- one of so many levels of which nothing is done
abbrev pub walk_max : (levels : ℕ) → ℕ
walk_max zero = (copies_max + 1) * walk_kids_max + 15
walk_max (suc levels) = (copies_max + walk_max levels + 1) * walk_kids_max + 15

-- the child that it hands out next, be it the read of the header or the walk below a member, and that stage itself
abbrev pub kid_share : (levels : ℕ) → ℕ
kid_share zero = copies_max + 1
kid_share (suc levels) = copies_max + walk_max levels + 1

abbrev pub heads_left : HeadsAt → ℕ
heads_left at = kid_share at.node.work.walk.levels * (walk_kids_max - length at.node.family) + walk_stages at.stage

-- ---- a gang's member that is written

-- two passes over twelve copies
abbrev pub write_asks_max : ℕ
write_asks_max = 24

-- the writes of copies that are left, until they are over
abbrev pub write_left : Stage → Option WriteIo → ℕ
write_left Done io = 0
write_left _ io = leaf_share * (write_asks_max - asked_by io) + pass_left (is_second io)

-- the stages that are left, beside those to which it goes back
abbrev pub part_stages : Stage → ℕ
part_stages Start = told_cost + 14
part_stages WriteBpInit = told_cost + 13
part_stages IssueAsync = told_cost + 12
part_stages WriteCompress = told_cost + 11
part_stages ChecksumGenerate = told_cost + 10
part_stages DvaAllocate = told_cost + 9
part_stages Ready = told_cost + 8
part_stages VdevIoStart = told_cost + 2
part_stages VdevIoDone = told_cost + 3
part_stages VdevIoAssess = told_cost + 2
part_stages Done = told_cost
part_stages _ = 0

-- how many members a gang hands out at most
abbrev pub members_max : ℕ
members_max = 3

-- one with so many levels below it of which nothing is done: its members, which are one level lower, and its own work
abbrev pub part_max : (levels : ℕ) → ℕ
part_max zero = 265
part_max (suc levels) = (part_max levels + 1) * members_max + 265

-- the member that it hands out next, and that stage itself
abbrev pub member_share : (levels : ℕ) → ℕ
member_share zero = 0
member_share (suc levels) = part_max levels + 1

-- a path has eight steps at most
abbrev pub part_left : PartAt → ℕ
part_left at =
    member_share (8 - length at.node.work.own.part.path) * (members_max - length at.node.work.own.part.members)
    + write_left at.stage at.node.work.io + due_left at.is_due + part_stages at.stage
