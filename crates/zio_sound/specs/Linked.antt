-- Trees of requests that stand under their parents.
use Rattle.std.specs.Prelude.{◌≡◌, ℕ, List, Option, Some}
use Rattle.std.specs.List.{AllByRecursion}
use Rattle.zio_trace.specs.Families.{Forest, NoTrees, TreeOf}
use Rattle.zio_trace.specs.Tasks.{Value, settled}

-- each root stands under this request or none, and each request under its parent
abbrev pub AreLinked : Option ℕ → Forest → Type 0
AreLinked under NoTrees = Unit {0}
AreLinked under (TreeOf p kids others) = (p.request.under ≡ under) × AreLinked (Some p.request.number) kids × AreLinked under others

-- so do those that are left of the trees with these values
abbrev pub LeaveLinked : Option ℕ → List Value → Type 0
LeaveLinked under values = AllByRecursion (λ (v : Value). AreLinked under (settled v).left) values
