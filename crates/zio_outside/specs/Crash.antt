-- What a crash leaves of a disk with a volatile cache: any image that equals the stable one outside the ranges that were
-- written since it was stable.
use Rattle.std.specs.Prelude.{◌≡◌, ◌≢◌, ℕ, ◌+◌, ◌<◌, ◌≤◌, List, [], ◌∷◌, ◌++◌, length, take, slice_index, ◌⊎◌, ◌↔◌}
use Rattle.zio_outside.specs.declared.written.Written.{Written}

-- the range of one write
abbrev pub written_of : ℕ → ℕ → List Written
written_of at len = record { at = at; len = len } ∷ []

-- the byte at this place lies in one of the ranges
abbrev pub IsWritten : List Written → ℕ → Type 0
IsWritten [] place = ⊥
IsWritten (range ∷ ranges) place =
    ((range.at ≤ place) × (place < range.at + range.len)) ⊎ IsWritten ranges place

-- an image of the stable one's size that equals it outside the ranges
pub record IsCrash (stable : List ℕ) (ranges : List Written) (image : List ℕ) : Type 0 where
  pub size : length image ≡ length stable
  pub outside : (place : ℕ) → ¬ IsWritten ranges place → slice_index image place ≡ slice_index stable place

-- the first list is the second with some items left out
abbrev pub IsPart : List Written → List Written → Type 0
IsPart [] whole = Unit {0}
IsPart (x ∷ part) [] = ⊥
IsPart (x ∷ part) (y ∷ whole) = ((x ≡ y) × IsPart part whole) ⊎ IsPart (x ∷ part) whole

-- What a disk that kept a stable image and ranges tells after writes of these ranges. A failed write that changed
-- nothing may be left out. A crash at a moment since leaves what the writes made by then allow.
pub record AfterWrites {D : Type 0} (keeps : D → List ℕ → List Written → Type 0) (moment : D → ℕ)
    (left_since : D → ℕ → List ℕ → Type 0) (stable : List ℕ) (ranges asked : List Written) (old new : D)
    : Type 0 where
  pub written : List Written
  pub part : IsPart written asked
  pub kept : keeps new stable (ranges ++ written)
  pub later : moment old ≤ moment new
  pub since : (image : List ℕ) → left_since new (moment old) image →
      (n : ℕ) × IsCrash stable (ranges ++ take n written) image
  pub earlier : (t : ℕ) (image : List ℕ) → left_since old t image → left_since new t image

-- ---- a shelf

-- what the disk of a name keeps leaves the shelf with it
abbrev pub KeptGoesOut : List ℕ → (List ℕ → List ℕ → List Written → Type 0)
    → (List ℕ → List ℕ → List Written → Type 0) → Type 0
KeptGoesOut name old new = (other stable : List ℕ) (ranges : List Written) →
    new other stable ranges ↔ (old other stable ranges × (other ≢ name))

-- what a disk keeps comes home under its name
abbrev pub KeptComesHome : List ℕ → (List ℕ → List Written → Type 0) → (List ℕ → List ℕ → List Written → Type 0)
    → (List ℕ → List ℕ → List Written → Type 0) → Type 0
KeptComesHome name disk old new = (other stable : List ℕ) (ranges : List Written) →
    new other stable ranges ↔ ((old other stable ranges × (other ≢ name)) ⊎ ((other ≡ name) × disk stable ranges))

-- the same is kept under each name
abbrev pub KeptStays : (List ℕ → List ℕ → List Written → Type 0) → (List ℕ → List ℕ → List Written → Type 0)
    → Type 0
KeptStays old new = (name stable : List ℕ) (ranges : List Written) → new name stable ranges ↔ old name stable ranges
