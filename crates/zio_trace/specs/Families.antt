-- An attempt by families: each request after its children, of whom alone it hears.
use Rattle.std.specs.Prelude.{◌≡◌, ◌≢◌, ℕ, List, [], ◌∷◌, ◌++◌, filter, Option, Some}
use Rattle.std.specs.List.{AllByRecursion}
use Rattle.zio_types.specs.Choices.{Ask, Choice}
use Rattle.zio_script.specs.Requests.{is_under_number}
use Rattle.zio_cksum.specs.Images.{Images}
use Rattle.zio_gang.specs.Attempts.{Terms, Pending, Return, Ended, Attempt, Attempted, attempt_with}

-- some trees, the first with its root and the trees under it
pub data Forest : Type 0 where
  NoTrees : Forest
  TreeOf : (p : Pending) (kids others : Forest) → Forest

-- in the order of attempts
abbrev pub flat : Forest → List Pending
flat NoTrees = []
flat (TreeOf p kids others) = flat kids ++ p ∷ flat others

-- what an attempt of some trees leaves: what their roots hand on, the last first, what goes again as trees, and the rest
-- as in an attempt
pub record Grown : Type 0 where
  pub returns : List Return
  pub ended : List Ended
  pub again : List Pending
  pub left : Forest
  pub asks : List Ask
  pub images : Images

-- and of one tree
pub record Rooted : Type 0 where
  pub return : Return
  pub ended : List Ended
  pub again : List Pending
  pub left : Forest
  pub asks : List Ask
  pub images : Images

-- a root that goes again keeps the trees under it that do
abbrev pub root_left : List Pending → Forest → Forest
root_left [] kids = NoTrees
root_left (p ∷ ps) kids = TreeOf p kids NoTrees

abbrev pub before : Forest → Forest → Forest
before NoTrees others = others
before (TreeOf p kids more) others = TreeOf p kids (before more others)

abbrev pub rooted : Grown → Attempted → Rooted
rooted k one = record {
  return = one.return;
  ended = k.ended ++ one.ended;
  again = k.again ++ one.again;
  left = root_left one.again k.left;
  asks = k.asks ++ one.asks;
  images = one.images;
}

abbrev pub add_root : Rooted → Grown → Grown
add_root r o = record {
  returns = o.returns ++ r.return ∷ [];
  ended = r.ended ++ o.ended;
  again = r.again ++ o.again;
  left = before r.left o.left;
  asks = r.asks ++ o.asks;
  images = o.images;
}

abbrev pub then_others : Rooted → (Images → Grown) → Grown
then_others r others = add_root r (others r.images)

-- a root hears what its children's trees left
abbrev pub root_after : List Choice → Terms → ℕ → Pending → Grown → Rooted
root_after journal t attempt p k = rooted k (attempt_with journal t attempt p k.returns k.images)

abbrev pub attempt_forest : List Choice → Terms → ℕ → Forest → Images → Grown
attempt_forest journal t attempt NoTrees images =
    record { returns = []; ended = []; again = []; left = NoTrees; asks = []; images = images }
attempt_forest journal t attempt (TreeOf p kids others) images =
    then_others (root_after journal t attempt p (attempt_forest journal t attempt kids images)) (attempt_forest journal t attempt others)

-- one tree
abbrev pub attempt_root : List Choice → Terms → ℕ → Pending → Forest → Images → Rooted
attempt_root journal t attempt p kids images = root_after journal t attempt p (attempt_forest journal t attempt kids images)

-- no request has the number
abbrev pub NotIn : ℕ → List Pending → Type 0
NotIn n ps = AllByRecursion (λ (p : Pending). p.request.number ≢ n) ps

-- each root is under this one, each request under its parent, and no number stands twice
abbrev pub AreUnder : Option ℕ → Forest → Type 0
AreUnder under NoTrees = Unit {0}
AreUnder under (TreeOf p kids others) =
    (p.request.under ≡ under) × AreUnder (Some p.request.number) kids × AreUnder under others
    × NotIn p.request.number (flat kids)
    × AllByRecursion (λ (q : Pending). (under ≢ Some q.request.number) × (p.request.number ≢ q.request.number) × NotIn q.request.number (flat kids)) (flat others)

-- what was handed to a request by its number
abbrev pub handed_to : ℕ → List Return → List Return
handed_to n returns = filter (λ (r : Return). is_under_number r.under n) returns

-- as an attempt of the flat list, which handed these on
abbrev pub attempted_as : List Return → Grown → Attempt
attempted_as returns g = record { returns = returns; ended = g.ended; again = g.again; asks = g.asks; images = g.images }
