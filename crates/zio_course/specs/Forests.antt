-- The trees of a batch, made from its last request to its first, so that children are made before their parents.
use Rattle.std.specs.Prelude.{◌≡◌, ℕ, ◌<◌, ◌≤◌, List, [], ◌∷◌, ◌++◌, map, filter, reverse, Bool, true, false, Option, Some, None, is_some, is_none, ◌==◌}
use Rattle.std.specs.List.{AllByRecursion, flat_map}
use Rattle.zio_blkptr.specs.declared.pointer.TheConstants.{BLOCK_SIZE_MAX}
use Rattle.zio_script.specs.declared.limits.TheConstants.{CHILDREN_MAX}
use Rattle.zio_script.specs.declared.script.Item.{Item}
use Rattle.zio_script.specs.declared.script.Request.{Request}
use Rattle.zio_script.specs.declared.script.Work.{Work}
use Rattle.zio_script.specs.declared.script.Work.TheVariants.{Null, Read, Write, Free, Claim}
use Rattle.zio_script.specs.Accepted.{AreRising, IsInRange}
use Rattle.zio_script.specs.Requests.{kind_of, needs_block, requests_of}
use Rattle.zio_script.specs.Whys.{children_in, may_have, size_with, writes_under}
use Rattle.zio_gang.specs.declared.tree.Tree.{Tree}
use Rattle.zio_gang.specs.Attempts.{Pending}
use Rattle.zio_gang.specs.Rounds.{Bound, pending_trees}
use Rattle.zio_course.specs.declared.admission.Rules.{Rules}
use Rattle.zio_course.specs.Admissions.{error_in}
use Rattle.zio_course.specs.Names.{listed_in, named_in}

-- both stand under none, or under the same number
abbrev pub same_parent : Option ℕ → Option ℕ → Bool
same_parent None None = true
same_parent None (Some n) = false
same_parent (Some p) None = false
same_parent (Some p) (Some n) = n == p

abbrev pub add_tree_if : Bool → List Request → List (List Request) → List (List Request)
add_tree_if true tree trees = tree ∷ trees
add_tree_if false tree trees = trees

abbrev pub joined : List (List Request) → List Request
joined trees = flat_map (λ (tree : List Request). tree) trees

-- the trees of those requests that stand under a number, or under none: the trees of a request's children, and then the
-- request
abbrev pub trees_under : List Request → Option ℕ → List (List Request)
trees_under [] under = []
trees_under (r ∷ rs) under =
    add_tree_if (same_parent r.under under) (joined (trees_under rs (Some r.number)) ++ r ∷ []) (trees_under rs under)

-- ---- what a batch has to be

-- the block that a read or a free names
abbrev pub block_by : List (List ℕ × Tree) → Work → Option Tree
block_by bound Null = None
block_by bound (Read name prio) = named_in bound name
block_by bound (Write name sum copies prio body) = None
block_by bound (Free name) = named_in bound name
block_by bound (Claim name pointer) = None

-- the bound names that these entries are
abbrev pub names_of : List (List ℕ × Tree) → Bound
names_of entries = map (λ (e : List ℕ × Tree). record { name = e.0; tree = e.1 }) entries

-- A request before these: it is in its ranges, its block is there exactly where it needs one, and it may have those under it
-- as children, with their count and its size within the limits.
pub record IsReady (birth : ℕ) (bound : List (List ℕ × Tree)) (r : Request) (behind : List Request) : Type 0 where
  pub some : 1 ≤ birth
  pub range : IsInRange r
  pub block_is : is_some (block_by bound r.work) ≡ needs_block r.work
  pub below : AllByRecursion (λ (q : Request). r.number < q.number) behind
  pub rising : AreRising behind
  pub kinds : AllByRecursion (λ (q : Request). q.under ≡ Some r.number → may_have (kind_of r.work) (kind_of q.work) ≡ true) behind
  pub few : children_in behind r.number ≤ CHILDREN_MAX
  pub size : size_with (writes_under behind r.number) r.work ≤ BLOCK_SIZE_MAX

-- the same of each of these
abbrev pub AreReady : ℕ → List (List ℕ × Tree) → List Request → Type 0
AreReady birth bound [] = Unit {0}
AreReady birth bound (r ∷ rs) = IsReady birth bound r rs × AreReady birth bound rs

-- the requests among these lines that admission lets run
abbrev pub running : List (ℕ × ℕ) → List Rules → List Item → List Request
running slots rules items = filter (λ (r : Request). is_none (error_in slots rules r.number)) (requests_of items)

-- a line's request, if it is one that runs
abbrev pub line_runs : List (ℕ × ℕ) → List Rules → Item → List Request
line_runs slots rules item = running slots rules (item ∷ [])

-- ---- a forest

-- The trees of these requests: of those under a number that stands before them, and of their roots, the last first.
pub record IsForest {T : Type 0} (pending : T → List Pending) (names : Bound) (birth : ℕ) (done : List Request) (waiting : List (ℕ × List T)) (roots : List T) : Type 0 where
  pub under : (n : ℕ) → AllByRecursion (λ (q : Request). n < q.number) done
      → map pending (listed_in waiting n) ≡ reverse (pending_trees names birth (trees_under done (Some n)))
  pub none : map pending roots ≡ reverse (pending_trees names birth (trees_under done None))
