-- The rounds that may be run with all their trees under way together, and their work.
use Rattle.std.specs.Prelude.{◌≡◌, ◌≢◌, ℕ, zero, suc, cond, slice_get, map, take, List, [], ◌++◌, Bool, true, false, ◌&&◌, not, Option, Some, None, IfSome, Contains, ◌⊎◌}
use Rattle.std.specs.List.{AllByRecursion, flat_map, list_all}
use Rattle.zio_types.specs.declared.place.Place.{Place}
use Rattle.zio_types.specs.declared.place.Top.{Top}
use Rattle.zio_types.specs.declared.place.TopSize.{TopSize}
use Rattle.zio_types.specs.Places.{are_apart}
use Rattle.zio_types.specs.Choices.{Choice}
use Rattle.zio_faults.specs.declared.table.Row.{Row}
use Rattle.zio_faults.specs.declared.table.FaultKind.{FaultKind}
use Rattle.zio_faults.specs.declared.table.FaultKind.TheVariants.{Eio, Gone, Flip}
use Rattle.zio_script.specs.declared.script.Work.{Work as Order}
use Rattle.zio_script.specs.declared.script.Work.TheVariants.{Read as WorkRead, Write, Free}
use Rattle.zio_cksum.specs.Blocks.{leaves_of, leaves_of_top, read_order, spot_in}
use Rattle.zio_cksum.specs.Frames.{spots_of}
use Rattle.zio_cksum.specs.Headers.{offset_of}
use Rattle.zio_cksum.specs.Images.{Setting, Spot}
use Rattle.zio_gang.specs.declared.tree.Tree.{Tree}
use Rattle.zio_gang.specs.Attempts.{Pending, Terms}
use Rattle.zio_gang.specs.Trees.{sizes_of, tree_places}
use Rattle.zio_trace.specs.BlockCopies.{Copies, copies_of}
use Rattle.zio_trace.specs.Clearings.{Free as FreeOf}
use Rattle.zio_trace.specs.Engines.{reach_in}
use Rattle.zio_trace.specs.Families.{Forest, NoTrees, TreeOf, flat}
use Rattle.zio_trace.specs.Keys.{NumbersOnce}
use Rattle.zio_trace.specs.Readers.{RowsArePlain}
use Rattle.zio_trace.specs.Rounds.{AreTrees, settles}
use Rattle.zio_trace.specs.Separate.{BlocksApart, IsNoClaim, IsSoundBlock, LeavesHold, LeavesOnce}
use Rattle.zio_trace.specs.Tasks.{Task}
use Rattle.zio_trace.specs.TreeOrders.{Pairs, Root}
use Rattle.zio_trace.specs.Underway.{Work, part_of}

-- ---- sound rounds

-- no top has a leaf twice
abbrev pub LeavesDiffer : List Top → Type 0
LeavesDiffer tops = (i : ℕ) → Pairs (λ (l m : ℕ). l ≢ m) (leaves_of_top (slice_get tops i))

-- a block of the round: sound, and no two of its own places meet
pub record IsOwnBlock (sizes : List TopSize) (used : List Place) (tree : Tree) : Type 0 where
  pub sound : IsSoundBlock sizes used tree
  pub own : are_apart (tree_places tree) ≡ true

abbrev pub IsRead : Order → Type 0
IsRead (WorkRead name prio) = Unit {0}
IsRead _ = ⊥

abbrev pub IsWrite : Order → Type 0
IsWrite (Write name sum copies prio body) = Unit {0}
IsWrite _ = ⊥

abbrev pub IsFree : Order → Type 0
IsFree (Free name) = Unit {0}
IsFree _ = ⊥

-- both read one block, and no row is for first passes alone or turns bytes
pub record ReadOneBlock (t : Terms) (p q : Pending) : Type 0 where
  pub first : IsRead p.request.work
  pub second : IsRead q.request.work
  pub same : p.block ≡ q.block
  pub rows : RowsArePlain t.setting.rows

-- Tops hold their leaves, which stand once. Each request's block is sound; two requests are over different blocks, or both
-- read the same one; and a claim is alone.
pub record IsSoundRound (t : Terms) (sizes : ℕ → ℕ) (f : Forest) : Type 0 where
  pub trees : AreTrees f
  pub numbers : NumbersOnce f
  pub once : LeavesOnce t.setting.tops
  pub twice : LeavesDiffer t.setting.tops
  pub hold : LeavesHold sizes t.setting.tops
  pub blocks : AllByRecursion (λ (p : Pending). IfSome p.block (IsOwnBlock (sizes_of t.setting.tops) t.used)) (flat f)
  pub different : (p q : Pending) → Contains (flat f) p → Contains (flat f) q → p.request.number ≢ q.request.number →
      BlocksApart p.block q.block ⊎ ReadOneBlock t p q
  pub claims : AllByRecursion (λ (p : Pending). IsNoClaim p.request.work) (flat f) ⊎ ((p : Pending) × (f ≡ TreeOf p NoTrees NoTrees))

-- one of its requests is a claim
abbrev pub HasClaim : Forest → Type 0
HasClaim f = (p : Pending) × Contains (flat f) p × (IsNoClaim p.request.work → ⊥)

-- a block of one of the round's requests
abbrev pub IsBlockIn : Forest → Tree → Type 0
IsBlockIn f tree = (p : Pending) × Contains (flat f) p × (p.block ≡ Some tree)

-- the requests of the one have other numbers than those of the other
abbrev pub DifferentNumbers : List Pending → List Pending → Type 0
DifferentNumbers ps qs = (p q : Pending) → Contains ps p → Contains qs q → p.request.number ≢ q.request.number

-- the nth of some trees
abbrev pub nth_tree : ℕ → Forest → Option Root
nth_tree n NoTrees = None
nth_tree zero (TreeOf p kids others) = Some (record { p = p; kids = kids })
nth_tree (suc n) (TreeOf p kids others) = nth_tree n others

-- ---- their work

abbrev pub turns_no_bytes : FaultKind → Bool
turns_no_bytes Eio = true
turns_no_bytes Gone = true
turns_no_bytes Flip = false

-- no row is for first passes alone, and none turns bytes
abbrev pub are_plain : List Row → Bool
are_plain rows = list_all (λ (row : Row). not row.first && turns_no_bytes row.kind) rows

abbrev pub copies_if : Option Tree → List Copies
copies_if None = []
copies_if (Some tree) = copies_of tree

-- the pieces that the request's own work reads with repairs
abbrev pub copies_read : Option Tree → Order → List Copies
copies_read block (WorkRead name prio) = copies_if block
copies_read block (Free name) = copies_if block
copies_read block _ = []

-- the pieces of all blocks that are read, where several may read them
abbrev pub shared_in : Terms → Forest → List Copies
shared_in t f = cond (are_plain t.setting.rows) (flat_map (λ (p : Pending). copies_read p.block p.request.work) (flat f)) []

abbrev pub work_of : Terms → (ℕ → ℕ) → Forest → Work
work_of t sizes f = record { terms = t; sizes = sizes; shared = shared_in t f; tasks = settles f }

-- what a read rewrites that found no good copy at the places in front, and then one behind so many tries at the next place
abbrev pub repairs_after : Setting → List Place → Place → ℕ → List Spot
repairs_after s front p tried =
    spots_of s front ++ map (spot_in p) (take tried (read_order (offset_of p) (leaves_of s p)))

-- Under this journal the operations at these numbers of one part of the round's work may be out together: all that the
-- second may do may pass all that the first may do.
abbrev pub AreFreeParts : List Choice → Terms → Forest → List ℕ → ℕ → Task → ℕ → Task → Type 0
AreFreeParts journal t f at i first k second =
    FreeOf (reach_in journal t (shared_in t f)) (part_of at i first) (part_of at k second)
