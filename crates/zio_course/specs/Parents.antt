-- Parents wait for their children.
use Rattle.std.specs.Prelude.{◌≡◌, ℕ, List, [], ◌∷◌, Bool, true, Some, ◌==◌}
use Rattle.std.specs.List.{list_any}
use Rattle.zio_gang.specs.Attempts.{Pending}

-- one of the requests has the number
abbrev pub has_numbered : ℕ → List Pending → Bool
has_numbered n ps = list_any (λ (p : Pending). p.request.number == n) ps

-- the parent of each request that stands under one comes behind it
abbrev pub AreParented : List Pending → Type 0
AreParented [] = Unit {0}
AreParented (p ∷ ps) = ((n : ℕ) → p.request.under ≡ Some n → has_numbered n ps ≡ true) × AreParented ps
