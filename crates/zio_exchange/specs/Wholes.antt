-- Whole trees of requests: a list in the order of attempts, and the trees that it is.
use Rattle.std.specs.Prelude.{◌≡◌, ℕ, zero, suc, List, [], ◌∷◌, ◌++◌, length, map, Option, Some, None, option_map}
use Rattle.std.specs.List.{AllByRecursion, flat_map}
use Rattle.zio_gang.specs.Attempts.{Pending}
use Rattle.zio_trace.specs.Families.{Forest, NoTrees, TreeOf, flat}
use Rattle.zio_trace.specs.Tasks.{One}
use Rattle.zio_children.specs.RequestKids.{RiseFrom, root_numbers}
use Rattle.zio_exchange.specs.declared.waiting.UnfinishedRequest.{UnfinishedRequest}
use Rattle.zio_exchange.specs.Waits.{pending_of}

-- a request, and how many trees stand under it
pub record Shape : Type 0 where
  pub pending : Pending
  pub unfinished : ℕ

abbrev pub shape_of : UnfinishedRequest → Shape
shape_of w = record { pending = pending_of w; unfinished = w.unfinished }

-- how many trees these are
abbrev pub trees_in : Forest → ℕ
trees_in NoTrees = zero
trees_in (TreeOf p kids others) = suc (trees_in others)

-- in the order of attempts: each request right behind the trees under it
abbrev pub shapes : Forest → List Shape
shapes NoTrees = []
shapes (TreeOf p kids others) =
    shapes kids ++ record { pending = p; unfinished = trees_in kids } ∷ shapes others

-- the list is these trees, and no others: a list is one forest at most
abbrev pub IsForestOf : List UnfinishedRequest → Forest → Type 0
IsForestOf ws f = map shape_of ws ≡ shapes f

-- it is one tree
abbrev pub IsTreeOf : List UnfinishedRequest → Pending → Forest → Type 0
IsTreeOf ws p kids = IsForestOf ws (TreeOf p kids NoTrees)

-- the trees one by one
abbrev pub AreTrees : List (List UnfinishedRequest) → Forest → Type 0
AreTrees [] NoTrees = Unit {0}
AreTrees [] (TreeOf p kids others) = ⊥
AreTrees (ws ∷ trees) NoTrees = ⊥
AreTrees (ws ∷ trees) (TreeOf p kids others) = IsTreeOf ws p kids × AreTrees trees others

-- under each request the numbers of its children rise
abbrev pub RiseEach : Forest → Type 0
RiseEach NoTrees = Unit {0}
RiseEach (TreeOf p kids others) = RiseFrom 0 (root_numbers kids) × RiseEach kids × RiseEach others

-- One tree, whose root is attempted last.
pub record IsWhole (ws : List UnfinishedRequest) : Type 0 where
  pub root : Pending
  pub kids : Forest
  pub is : IsTreeOf ws root kids
  pub rising : RiseEach (TreeOf root kids NoTrees)

-- one tree after another
abbrev pub joined : List (List UnfinishedRequest) → List UnfinishedRequest
joined trees = flat_map (λ (ws : List UnfinishedRequest). ws) trees

-- the request, over so many trees
abbrev pub counted : UnfinishedRequest → ℕ → UnfinishedRequest
counted w unfinished = record { request = w.request; birth = w.birth; block = w.block; kept = w.kept; unfinished = unfinished }

-- the request that is attempted last
abbrev pub root_of : List UnfinishedRequest → Option UnfinishedRequest
root_of [] = None
root_of (w ∷ []) = Some w
root_of (w ∷ v ∷ ws) = root_of (v ∷ ws)

abbrev pub root_number : List UnfinishedRequest → Option ℕ
root_number ws = option_map (λ (w : UnfinishedRequest). w.request.number) (root_of ws)

abbrev pub number_or : Option ℕ → List ℕ → List ℕ
number_or None ns = ns
number_or (Some n) ns = n ∷ ns

-- those of some trees
abbrev pub roots_in : List (List UnfinishedRequest) → List ℕ
roots_in [] = []
roots_in (ws ∷ trees) = number_or (root_number ws) (roots_in trees)

-- These are the trees of the request's children, which haven't finished.
pub record AreOver (trees : List (List UnfinishedRequest)) (root : UnfinishedRequest) : Type 0 where
  pub each : AllByRecursion IsWhole trees
  pub rising : RiseFrom 0 (roots_in trees)
  pub count : root.unfinished ≡ length trees

-- what an attempt left of a tree that goes again is this list
pub record IsLeft (ws : List UnfinishedRequest) (one : One) : Type 0 where
  pub tree : IsForestOf ws one.left
  pub list : one.again ≡ flat one.left
