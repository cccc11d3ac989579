-- The write of a gang's member as a node at a stage.
use Rattle.std.specs.Prelude.{◌≡◌, List, Bool, true, false, None, IfSome}
use Rattle.zio_types.specs.declared.place.Top.{Top}
use Rattle.zio_masks.specs.declared.stage.Stage.{Stage}
use Rattle.zio_masks.specs.declared.stage.Stage.TheVariants.{Start, WriteBpInit, IssueAsync, WriteCompress, ChecksumGenerate, DvaAllocate, Ready, VdevIoStart, VdevIoDone, VdevIoAssess, Done}
use Rattle.zio_parts.specs.PartWrites.{is_ready, step_of}
use Rattle.zio_stages.specs.NodeIos.{IsWriteDue}
use Rattle.zio_stages.specs.PartNodes.{IsPartNodeOver}
use Rattle.zio_stages.specs.PartWorks.{HaveUnits, IsIssued, IsMoreDue, IsPlaced, IsWritten}
use Rattle.zio_stages.specs.Tops.{AreTops}
use Rattle.zio_stages.specs.declared.part_work.PartWork.{PartWork}
use Rattle.zio_nodes.specs.declared.part_at.PartAt.{PartAt}

-- it stands in front of the stage that asks for places
abbrev pub IsBeforePlaces : Stage → Type 0
IsBeforePlaces Start = Unit {0}
IsBeforePlaces WriteBpInit = Unit {0}
IsBeforePlaces IssueAsync = Unit {0}
IsBeforePlaces WriteCompress = Unit {0}
IsBeforePlaces ChecksumGenerate = Unit {0}
IsBeforePlaces _ = ⊥

-- nothing of its own write is begun
abbrev pub IsUnbegun : Bool → PartWork → Type 0
IsUnbegun is_due w = (is_due ≡ true) × (w.io ≡ None)

-- Over these tops, how far the write is at each stage, and whether an operation on a leaf may be due. It stands at no other
-- stage.
abbrev pub PartStands : List Top → Stage → Bool → PartWork → Type 0
PartStands tops Start is_due w = IsUnbegun is_due w
PartStands tops WriteBpInit is_due w = IsUnbegun is_due w
PartStands tops IssueAsync is_due w = IsUnbegun is_due w
PartStands tops WriteCompress is_due w = IsUnbegun is_due w
PartStands tops ChecksumGenerate is_due w = IsUnbegun is_due w
PartStands tops DvaAllocate is_due w = IsUnbegun is_due w
PartStands tops Ready is_due w = (is_due ≡ true) × (w.io ≡ None) × IsPlaced (step_of w.own.part)
PartStands tops VdevIoStart is_due w = (is_due ≡ true) × (is_ready w.own.part ≡ true)
PartStands tops VdevIoDone is_due w =
    (is_ready w.own.part ≡ true) × IsIssued w.own.part × (is_due ≡ false → IsMoreDue tops w.io → ⊥)
PartStands tops VdevIoAssess is_due w = (is_ready w.own.part ≡ true) × IsIssued w.own.part × IfSome w.io (IsWriteDue tops)
PartStands tops Done is_due w = IsWritten w
PartStands tops _ is_due w = ⊥

-- what its fields owe to each other and to the tops
pub record IsPartAtOver (tops : List Top) (at : PartAt) : Type 0 where
  pub tops_are : AreTops tops
  pub units : HaveUnits tops
  pub over : IsPartNodeOver tops at.node
  pub stands : PartStands tops at.stage at.is_due at.node.work
