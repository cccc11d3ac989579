-- What the fields of a walk over headers owe.
use Rattle.std.specs.Prelude.{◌≡◌, ℕ, ◌+◌, ◌≤◌, List, [], ◌∷◌, length, drop, Bool, true, Option, None}
use Rattle.zio_types.specs.declared.error.Errno.{Errno}
use Rattle.zio_blkptr.specs.declared.pointer.Bp.{Bp}
use Rattle.zio_trace.specs.Tasks.{Walked}
use Rattle.zio_parts.specs.HeadWalks.{is_followed, named_by}
use Rattle.zio_parts.specs.declared.head_walk.Header.{Header}
use Rattle.zio_parts.specs.declared.head_walk.Header.TheVariants.{Unread, Read}

-- nothing is asked of a header that isn't followed
abbrev pub IsAskedFor : Bool → Header → Type 0
IsAskedFor followed Unread = Unit {0}
IsAskedFor followed _ = followed ≡ true

abbrev pub IsRead : Header → Type 0
IsRead (Read bytes) = Unit {0}
IsRead _ = ⊥

-- none of them left anything
abbrev pub AreNone : List (Option Walked) → Type 0
AreNone [] = Unit {0}
AreNone (x ∷ left) = (x ≡ None) × AreNone left

-- Those that weren't handed out left nothing.
pub record WalkFields (levels : ℕ) (path : List ℕ) (bp : Bp) (judged : Option Errno) (header : Header) (members : List Bp) (handed : ℕ) (left : List (Option Walked)) : Type 0 where
  pub depth : length path + levels ≤ 8
  pub asked : IsAskedFor (is_followed judged bp.gang levels) header
  pub named : members ≡ named_by header
  pub within : handed ≤ length members
  pub three : length left ≡ 3
  pub behind : AreNone (drop handed left)
