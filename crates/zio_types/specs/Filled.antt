-- Arrays of a fixed length of which only the front is used. All behind it is the filler.
use Rattle.std.specs.Prelude.{◌≡◌, ℕ, ◌-◌, ◌≤◌, min, List, ◌++◌, length, take, replicate}
use Rattle.std.proofs.Common.{arith, length-append, length-take, ap, ◌∙◌}
use Rattle.std.proofs.lemmas.List.{length-replicate}

-- the items, and the filler up to this length
abbrev pub filled_to : {X : Type 0} → X → ℕ → List X → List X
filled_to filler len items = items ++ replicate (len - length items) filler

-- an array of this length uses its first items, and has the filler behind them
pub record IsFilled {X : Type 0} (filler : X) (len used : ℕ) (items : List X) : Type 0 where
  pub fits : used ≤ len
  pub rest : items ≡ filled_to filler len (take used items)

pub length-filled_to : {X : Type 0} (filler : X) (len : ℕ) (items : List X) → length items ≤ len → length (filled_to filler len items) ≡ len
length-filled_to filler len items h =
    omega (arith, length-append items (replicate (len - length items) filler), length-replicate (len - length items) filler)

-- as many items are taken as are used
pub length-take-filled : {X : Type 0} (filler : X) (len used : ℕ) (items : List X) → IsFilled filler len used items → length (take used items) ≡ used
length-take-filled filler len used items h =
    let taken : length (take used items) ≡ min used (length items) = length-take used items in
    let short : length (take used items) ≤ len = omega (arith, h.fits) in
    let whole : length items ≡ len = ap length h.rest ∙ length-filled_to filler len (take used items) short in
    omega (arith, h.fits)

-- such an array has its length
pub length-filled : {X : Type 0} (filler : X) (len used : ℕ) (items : List X) → IsFilled filler len used items → length items ≡ len
length-filled filler len used items h =
    let taken : length (take used items) ≡ used = length-take-filled filler len used items h in
    ap length h.rest ∙ length-filled_to filler len (take used items) (omega (arith, h.fits))
