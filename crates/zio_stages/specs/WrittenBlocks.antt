-- The block of a write: a part at no step, whose content begins with its children's pointers.
use Rattle.std.specs.Prelude.{◌≡◌, ℕ, ◌≤◌, List, [], length, true, Option}
use Rattle.std.specs.List.{list_all}
use Rattle.zio_types.specs.declared.request.Prio.{Prio}
use Rattle.zio_types.specs.Paths.{path_steps_max}
use Rattle.zio_blkptr.specs.declared.pointer.Bp.{Bp}
use Rattle.zio_blkptr.specs.declared.pointer.SumKind.{SumKind}
use Rattle.zio_blkptr.specs.declared.pointer.TheConstants.{BLOCK_SIZE_MAX}
use Rattle.zio_script.specs.declared.script.Body.{Body}
use Rattle.zio_script.specs.declared.script.Work.TheVariants.{Write}
use Rattle.zio_script.specs.Bodies.{body_of}
use Rattle.zio_script.specs.Requests.{kind_of}
use Rattle.zio_script.specs.Whys.{fits_work, is_write, size_with}
use Rattle.zio_gang.specs.Attempts.{Pending}
use Rattle.zio_gang.specs.Writes.{content_of}
use Rattle.zio_children.specs.RequestKids.{KidsUnderWay, is_told}
use Rattle.zio_exchange.specs.declared.waiting.UnfinishedRequest.{UnfinishedRequest}
use Rattle.zio_stages.specs.PartOwns.{WrittenPart}

-- ---- its block

-- the whole block as a part
abbrev pub whole_part : ℕ → Pending → SumKind → ℕ → List ℕ → WrittenPart
whole_part attempt p sum copies bytes = record {
  attempt = attempt;
  pending = p;
  sum_kind = sum;
  copies = copies;
  levels = path_steps_max;
  path = [];
  bytes = bytes;
}

-- The part is the block of this write, whose children have these pointers.
pub record IsBlockOf (attempt : ℕ) (p : Pending) (pointers : List (Option Bp)) (o : WrittenPart) : Type 0 where
  pub name : List ℕ
  pub sum : SumKind
  pub copies : ℕ
  pub prio : Prio
  pub body : Body
  pub work : p.request.work ≡ Write name sum copies prio body
  pub part : o ≡ whole_part attempt p sum copies (content_of pointers (body_of body))

-- The request is a write in its ranges, and no larger than a block with a pointer for each of so many children.
pub record IsSoundWrite (children : ℕ) (w : UnfinishedRequest) : Type 0 where
  pub kind : is_write (kind_of w.request.work) ≡ true
  pub range : fits_work w.request.work ≡ true
  pub size : size_with children w.request.work ≤ BLOCK_SIZE_MAX
  pub born : 1 ≤ w.birth

-- ---- its children

-- each child was handed out, and told which pointer it will have
pub record HaveAllTold (x : KidsUnderWay) : Type 0 where
  pub all : x.handed ≡ length x.kids
  pub told : list_all is_told x.kids ≡ true
