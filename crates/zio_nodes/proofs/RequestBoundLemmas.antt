-- How often a request runs, from stage to stage.
use Rattle.std.proofs.Common.{◌≡◌, ℕ, ◌+◌, ◌-◌, ◌*◌, ◌≤◌, ◌<◌, List, length, Bool, true, false, refl, ap, ◌∙◌, arith, add-suc, add-zero, zero, suc}
use Rattle.std.proofs.Math.Nat.{mul-le-mul_left, mul-le-mul_right}
use Rattle.zio_masks.specs.declared.stage.Stage.{Stage}
use Rattle.zio_masks.specs.declared.stage.Stage.TheVariants.{WriteBpInit, IssueAsync, WriteCompress, ChecksumGenerate, DvaAllocate, Ready, VdevIoStart, VdevIoDone, VdevIoAssess, Done}
use Rattle.zio_script.specs.declared.script.Work.{Work}
use Rattle.zio_script.specs.declared.script.Work.TheVariants.{Null, Read, Write, Free, Claim}
use Rattle.zio_exchange.specs.Wholes.{joined}
use Rattle.zio_exchange.specs.declared.waiting.UnfinishedRequest.{UnfinishedRequest}
use Rattle.zio_stages.specs.RequestCounts.{members_of, path_of, second_of}
use Rattle.zio_stages.specs.RequestKinds.{is_stored, points_to_gang}
use Rattle.zio_stages.specs.declared.request_node.Own.{Own}
use Rattle.zio_nodes.specs.Bounds.{due_left, member_share, members_max, pass_left}
use Rattle.zio_nodes.specs.RequestBounds.{left_by, null_left, null_max, own_at, own_left, own_max, request_share}
use Rattle.zio_nodes.specs.WriteBounds.{end_left, io_left, io_max, members_left, whole_left, write_at, write_max}
use Rattle.zio_nodes.specs.declared.request_at.RequestAt.{RequestAt}
use Rattle.zio_nodes.proofs.FirstStages.{claim_first, first_of}
use Rattle.zio_nodes.proofs.OwnMost.{claim_most, free_most, read_most}

-- ---- no more often than its kind says

null_most : (stage : Stage) → null_left stage ≤ null_max
null_most Ready = omega arith
null_most Done = omega arith
null_most _ = omega arith

pass_most : (second : Bool) → pass_left second ≤ 3
pass_most true = omega arith
pass_most false = omega arith

due_most : (due : Bool) → due_left due ≤ 2
due_most true = omega arith
due_most false = omega arith

pub io_most : (own : Own) → io_left own ≤ io_max
io_most own = omega (arith, pass_most (second_of own))

share_step : (levels : ℕ) → member_share levels ≤ member_share (suc levels)
share_step zero = omega arith
share_step (suc levels) = omega arith

share_up : (levels more : ℕ) → member_share levels ≤ member_share (levels + more)
share_up levels zero = omega (arith, ap member_share (add-zero levels))
share_up levels (suc more) = omega (arith, share_up levels more, share_step (levels + more), ap member_share (add-suc levels more))

share_most : (steps : ℕ) → member_share (8 - steps) ≤ member_share 8
share_most steps =
    let more : ℕ = 8 - (8 - steps) in
    let whole : (8 - steps) + more ≡ 8 = omega arith in
    omega (arith, share_up (8 - steps) more, ap member_share whole)

pub members_most : (own : Own) → members_left own ≤ whole_left
unfolding whole_left
members_most own =
    let share : ℕ = member_share (8 - length (path_of own)) in
    let left : ℕ = members_max - length (members_of own) in
    let first : share * left ≤ share * members_max = mul-le-mul_left share (omega arith) in
    let second : share * members_max ≤ member_share 8 * members_max = mul-le-mul_right members_max (share_most (length (path_of own))) in
    omega (arith, first, second)

pub end_most : (stored : Bool) → end_left stored ≤ 1
end_most true = omega arith
end_most false = omega arith

pub write_most : (stage : Stage) (due : Bool) (own : Own) → write_at stage due own ≤ write_max
unfolding write_max
write_most WriteBpInit due own = omega arith
write_most IssueAsync due own = omega arith
write_most WriteCompress due own = omega arith
write_most ChecksumGenerate due own = omega arith
write_most DvaAllocate due own = omega (arith, members_most own)
write_most Ready due own = omega arith
write_most VdevIoStart due own = omega (arith, io_most own, due_most due)
write_most VdevIoDone due own = omega (arith, io_most own, due_most due)
write_most VdevIoAssess due own = omega (arith, io_most own)
write_most Done due own = omega (arith, end_most (is_stored own))
write_most _ due own = omega arith

pub kind_most : (work : Work) (at : RequestAt) → left_by work at < own_max
unfolding own_max
kind_most Null at = omega (arith, null_most at.stage)
kind_most (Read name prio) at = omega (arith, read_most at)
kind_most (Write name sum copies prio body) at = omega (arith, write_most at.stage at.is_due at.node.own)
kind_most (Free name) at = omega (arith, free_most at)
kind_most (Claim name pointer) at = omega (arith, claim_most at)

-- ---- behind Start

claim_at : (gang : Bool) (other : Work) (at : RequestAt) → own_at (claim_first gang) other at ≡ left_by other at
claim_at true other at = refl
claim_at false other at = refl

first_at : (work other : Work) (at : RequestAt) → own_at (first_of work) other at ≡ left_by other at
first_at Null other at = refl
first_at (Read name prio) other at = refl
first_at (Write name sum copies prio body) other at = refl
first_at (Free name) other at = refl
first_at (Claim name pointer) other at = claim_at (points_to_gang pointer) other at

pub first_less : (at : RequestAt) → at.stage ≡ first_of at.node.waiting.request.work → own_left at < own_max
first_less at is =
    let work = at.node.waiting.request.work in
    let e : own_left at ≡ left_by work at = ap (λ (s : Stage). own_at s work at) is ∙ first_at work work at in
    omega (arith, e, kind_most work at)

-- with the same trees due it is as its own work
pub same_due_less : (old new : List (List UnfinishedRequest)) (m n : ℕ) → new ≡ old → m < n → length (joined new) * request_share + m < length (joined old) * request_share + n
same_due_less old new m n same less = omega (arith, ap (λ (ts : List (List UnfinishedRequest)). length (joined ts) * request_share) same, less)
