-- The pointers that a request's children told, now and in earlier attempts: each is none, or valid.
use Rattle.std.specs.List.{AllByRecursion}
use Rattle.zio_children.specs.declared.kept.KeptChild.{KeptChild}
use Rattle.zio_children.specs.declared.kids.Kid.{Kid}
use Rattle.zio_children.specs.RequestKids.{KidsUnderWay, pointer_by}
use Rattle.zio_gang.specs.Pointers.{IsNoneOrValid}

-- what the child told
abbrev pub HasToldValid : Kid → Type 0
HasToldValid k = IsNoneOrValid (pointer_by k.state)

-- the pointer of one that finished
abbrev pub HasValid : KeptChild → Type 0
HasValid k = IsNoneOrValid k.pointer

-- those of all children
pub record HaveValidPointers (x : KidsUnderWay) : Type 0 where
  pub told : AllByRecursion HasToldValid x.kids
  pub kept : AllByRecursion HasValid x.kept
