-- An operation as a leaf's queue takes it.
use Rattle.std.specs.Prelude.{◌≡◌, ℕ, List, [], Bool, true, false}
use Rattle.zio_cksum.specs.Images.{Spot}
use Rattle.zio_vqueue.specs.declared.op.Op.{Op}
use Rattle.zio_trace.specs.Leaves.{Fetch, LeafOp, Store}

-- over the whole place; in the second pass it is a group alone
pub record IsOpAt (write retry : Bool) (spot : Spot) (op : Op) (leaf : ℕ) : Type 0 where
  pub ticket : op.ticket ≡ 0
  pub direction : op.write ≡ write
  pub on : leaf ≡ spot.leaf
  pub at : op.at ≡ spot.at
  pub len : op.len ≡ spot.span
  pub pass : op.flags.retry ≡ retry
  pub alone : op.flags.dont_aggregate ≡ retry

-- with the bytes of a write
abbrev pub IsOpFor : LeafOp → Op → ℕ → List ℕ → Type 0
IsOpFor (Fetch retry len spot) op leaf bytes = IsOpAt false retry spot op leaf × (bytes ≡ [])
IsOpFor (Store retry stored spot) op leaf bytes = IsOpAt true retry spot op leaf × (bytes ≡ stored)
