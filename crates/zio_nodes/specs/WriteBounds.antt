-- How often a write runs at most behind Start, from where it stands.
use Rattle.std.specs.Prelude.{ℕ, ◌+◌, ◌-◌, ◌*◌, length, Bool, true, false}
use Rattle.zio_masks.specs.declared.stage.Stage.{Stage}
use Rattle.zio_masks.specs.declared.stage.Stage.TheVariants.{WriteBpInit, IssueAsync, WriteCompress, ChecksumGenerate, DvaAllocate, Ready, VdevIoStart, VdevIoDone, VdevIoAssess, Done}
use Rattle.zio_stages.specs.RequestCounts.{asked_of, members_of, path_of, second_of}
use Rattle.zio_stages.specs.RequestKinds.{is_stored}
use Rattle.zio_stages.specs.declared.request_node.Own.{Own}
use Rattle.zio_staged.specs.Stages.{told_cost}
use Rattle.zio_nodes.specs.Bounds.{due_left, leaf_share, member_share, members_max, pass_left, write_asks_max}
use Rattle.zio_nodes.specs.declared.request_at.RequestAt.{RequestAt}

-- its operations on leaves
abbrev pub io_left : Own → ℕ
io_left own = leaf_share * (write_asks_max - asked_of own) + pass_left (second_of own)

-- before the first
abbrev pub io_max : ℕ
io_max = leaf_share * write_asks_max + pass_left false

-- its members
abbrev pub members_left : Own → ℕ
members_left own = member_share (8 - length (path_of own)) * (members_max - length (members_of own))

-- those of a whole block before the first
unfoldable pub whole_left : ℕ
whole_left = member_share 8 * members_max

-- what is left once its members were handed out, up to its pointer
abbrev pub ready_left : ℕ
ready_left = io_max + told_cost + told_cost + 4

-- what its block came to is yet to be told
abbrev pub end_left : Bool → ℕ
end_left true = 0
end_left false = 1

abbrev pub write_at : Stage → Bool → Own → ℕ
write_at WriteBpInit is_due own = whole_left + ready_left + 5
write_at IssueAsync is_due own = whole_left + ready_left + 4
write_at WriteCompress is_due own = whole_left + ready_left + 3
write_at ChecksumGenerate is_due own = whole_left + ready_left + 2
write_at DvaAllocate is_due own = members_left own + ready_left + 1
write_at Ready is_due own = ready_left
write_at VdevIoStart is_due own = io_left own + due_left is_due + told_cost + 2
write_at VdevIoDone is_due own = io_left own + due_left is_due + told_cost + 3
write_at VdevIoAssess is_due own = io_left own + told_cost + 2
write_at Done is_due own = told_cost + end_left (is_stored own)
write_at _ is_due own = 0

abbrev pub request_write_left : RequestAt → ℕ
request_write_left at = write_at at.stage at.is_due at.node.own

unfoldable pub write_max : ℕ
write_max = whole_left + ready_left + 5
