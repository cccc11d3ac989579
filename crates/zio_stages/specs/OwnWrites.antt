-- A write's own work behind its children: the write of its block.
use Rattle.std.specs.Prelude.{◌≡◌, ℕ, List, [], length, Option, None}
use Rattle.zio_blkptr.specs.declared.pointer.Bp.{Bp}
use Rattle.zio_gang.specs.Attempts.{Pending, Terms}
use Rattle.zio_trace.specs.Tasks.{Task}
use Rattle.zio_children.specs.RequestKids.{KidsUnderWay, pointers_of}
use Rattle.zio_frames.specs.Frames.{Child, Stack}
use Rattle.zio_frames.specs.Slots.{Slot}
use Rattle.zio_stages.specs.OwnParts.{IsBehind}
use Rattle.zio_stages.specs.PartOwns.{WrittenPart}
use Rattle.zio_stages.specs.PartWorks.{Front, IsPartAt, IsPartWork}
use Rattle.zio_stages.specs.WrittenBlocks.{HaveAllTold, IsBlockOf}
use Rattle.zio_stages.specs.declared.own_write.OwnWrite.{OwnWrite}
use Rattle.zio_stages.specs.declared.part_work.PartWork.{PartWork}

-- ---- how far it is

-- behind the front nothing is asked, and these are the node's children
pub record IsIdleAt (family : List Child) (f : Front) (st : Stack) : Type 0 where
  pub op : st.outer.op ≡ f.part
  pub alone : st.inner ≡ None
  pub behind : IsBehind f.asked f.slots [] [] st
  pub children : family ≡ st.children

-- the block of the request is written so far
pub record IsBlockAt (t : Terms) (work : PartWork) (family : List Child) (f : Front) (attempt : ℕ) (p : Pending) (pointers : List (Option Bp))
    (st : Stack) : Type 0 where
  pub part : WrittenPart
  pub block : IsBlockOf attempt p pointers part
  pub at : IsPartAt t work family f part st

-- What its children told settled its content, and behind them its block is written so far.
pub record IsWriteOwn (t : Terms) (w : OwnWrite) (f : Front) (attempt : ℕ) (p : Pending) (x : KidsUnderWay) (asked : List Task)
    (slots : List Slot) (st : Stack) : Type 0 where
  pub told : HaveAllTold x
  pub part : WrittenPart
  pub block : IsBlockOf attempt p (pointers_of x) part
  pub is : IsPartWork t w.work part f.asked f.slots asked slots st
