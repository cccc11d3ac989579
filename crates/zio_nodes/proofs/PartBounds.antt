-- How often the write of a member runs, from stage to stage.
use Rattle.std.proofs.Common.{◌≡◌, ℕ, zero, suc, ◌+◌, ◌-◌, ◌*◌, ◌<◌, ◌≤◌, List, [], ◌∷◌, ◌++◌, length, Bool, Option, Some, None, mul-suc, refl, sym, ap, subst, ◌∙◌, arith, length-append}
use Rattle.zio_types.specs.declared.place.Top.{Top}
use Rattle.zio_masks.specs.declared.pipeline.TheConstants.{WRITE}
use Rattle.zio_masks.specs.declared.stage.Stage.{Stage}
use Rattle.zio_masks.specs.declared.stage.Stage.TheVariants.{ChecksumGenerate, Done, IssueAsync, Start, WriteBpInit, WriteCompress}
use Rattle.zio_masks.specs.Stages.{IsNext}
use Rattle.zio_frames.specs.Frames.{Child}
use Rattle.zio_parts.specs.Parts.{PartWriting}
use Rattle.zio_parts.proofs.WantedLemmas.{copies_few}
use Rattle.zio_parts.specs.declared.members.Member.TheVariants.{Out as MemberOut}
use Rattle.zio_stages.specs.PartNodes.{IsMemberUnder}
use Rattle.zio_stages.specs.PartWorks.{IsIoOver, IsPartOver, asked_by, is_second}
use Rattle.zio_stages.specs.declared.part_node.PartNode.{PartNode}
use Rattle.zio_stages.specs.declared.part_work.PartWork.{PartWork}
use Rattle.zio_stages.specs.declared.write_io.WriteIo.{WriteIo}
use Rattle.zio_nodes.specs.Bounds.{leaf_share, member_share, members_max, part_max, part_stages, pass_left, write_asks_max, write_left}
use Rattle.zio_nodes.specs.PartAts.{IsBeforePlaces, PartStands}
use Rattle.zio_nodes.specs.Told.{is_told}
use Rattle.zio_nodes.proofs.StageLemmas.{write_init, write_issued, write_set, write_start, write_summed}

-- ---- the stages in front of the ask for places

-- the next one takes the write as the first does
pub record IsOneOn (stage next : Stage) : Type 0 where
  pub told : is_told next ≡ is_told stage
  pub stands : (tops : List Top) (due : Bool) (w : PartWork) → PartStands tops stage due w → PartStands tops next due w
  pub less : part_stages next < part_stages stage
  pub write : (io : Option WriteIo) → write_left next io ≡ write_left stage io

pub one_on : (stage next : Stage) → IsBeforePlaces stage → IsNext WRITE stage next → IsOneOn stage next
one_on Start next h is =
    subst (IsOneOn Start) (sym (write_start next is)) (record { told = refl; stands = λ tops due w k. k; less = omega arith; write = λ io. refl })
one_on WriteBpInit next h is =
    subst (IsOneOn WriteBpInit) (sym (write_init next is)) (record { told = refl; stands = λ tops due w k. k; less = omega arith; write = λ io. refl })
one_on IssueAsync next h is =
    subst (IsOneOn IssueAsync) (sym (write_issued next is)) (record { told = refl; stands = λ tops due w k. k; less = omega arith; write = λ io. refl })
one_on WriteCompress next h is =
    subst (IsOneOn WriteCompress) (sym (write_set next is)) (record { told = refl; stands = λ tops due w k. k; less = omega arith; write = λ io. refl })
one_on ChecksumGenerate next h is =
    subst (IsOneOn ChecksumGenerate) (sym (write_summed next is)) (record { told = refl; stands = λ tops due w k. k; less = omega arith; write = λ io. refl })
one_on stage next h is = absurd h

-- ---- its members

-- what is left for those that weren't handed out
abbrev pub part_share : PartWriting → ℕ
part_share x = member_share (8 - length x.path) * (members_max - length x.members)

pub same_share : (x y : PartWriting) → length y.members ≡ length x.members → y.path ≡ x.path → part_share y ≡ part_share x
same_share x y many path = λ i. member_share (8 - length (path i)) * (members_max - many i)

-- one that is handed out takes its share
pub share_grows : (x y : PartWriting) (child : PartNode) → y.members ≡ x.members ++ MemberOut ∷ [] → y.path ≡ x.path → IsMemberUnder y child
    → part_share y + part_max (8 - length child.work.own.part.path) + 1 ≡ part_share x
share_grows x y child members path under =
    let m : ℕ = members_max - length y.members in
    let l : ℕ = 8 - length child.work.own.part.path in
    let same : length y.path ≡ length x.path = ap length path in
    let longer : length y.members ≡ length x.members + 1 = ap length members ∙ length-append x.members (MemberOut ∷ []) in
    let left : members_max - length x.members ≡ suc m = omega (arith, longer, under.few) in
    let level : 8 - length x.path ≡ suc l = omega (arith, under.below, under.deep, same) in
    let old : part_share x ≡ member_share (suc l) * suc m = λ i. member_share (level i) * left i in
    let level_now : 8 - length y.path ≡ suc l = omega (arith, under.below, under.deep) in
    let new : part_share y ≡ member_share (suc l) * m = ap (λ k. member_share k * m) level_now in
    omega (arith, old, new, mul-suc (member_share (suc l)) m)

-- before any is
pub share_fresh : (levels : ℕ) → member_share levels * members_max + 265 ≡ part_max levels
share_fresh zero = refl
share_fresh (suc levels) = refl

-- ---- its own write

pub io_few : (tops : List Top) (x : PartWriting) (io : Option WriteIo) (family : List Child) → IsIoOver tops x io family → asked_by io ≤ 24
io_few tops x None family h = omega arith
io_few tops x (Some io) family h =
    omega (arith, h.1.counted, h.1.passes, h.1.within, h.1.places.few, copies_few tops io.write.places h.1.places.mirrored)

-- two passes over twelve copies
pub write_few : (tops : List Top) (w : PartWork) (family : List Child) → IsPartOver tops w family → asked_by w.io ≤ 24
write_few tops w family h = io_few tops w.own.part w.io family h.io

-- as many operations, in the same pass
pub same_write : (stage : Stage) (old new : Option WriteIo) → asked_by new ≡ asked_by old → is_second new ≡ is_second old
    → write_left stage new ≡ write_left stage old
same_write stage old new asked pass = by stage where
  by : (s : Stage) → write_left s new ≡ write_left s old
  by Done = refl
  by s = λ i. leaf_share * (write_asks_max - asked i) + pass_left (pass i)
