-- What a call of the outside answers and leaves: counts of faults, bytes that are read and written, and disks that are
-- fetched and given back.
--
-- What an object tells of its content is a relation between it and that content: in memory it holds of the one content
-- that is there, and where an object tells nothing it holds of none.
use Rattle.std.specs.Prelude.{◌≡◌, ◌≢◌, ℕ, ◌+◌, ◌-◌, ◌^◌, ◌<◌, ◌≤◌, min, List, [], ◌∷◌, ◌++◌, length, take, drop, ◌⊎◌, ◌↔◌, Result, OnOk, OnErr}
use Rattle.zio_types.specs.Bytes.{overwritten}

-- ---- counts of faults

-- where a count of faults stops
abbrev pub count_max : ℕ
count_max = 2 ^ 64 - 1

-- a count rose, or stands at its last value
abbrev pub Rose : ℕ → ℕ → Type 0
Rose old new = (old < new) ⊎ (new ≡ count_max)

-- one of the counts rose
abbrev pub AnyRose : List ℕ → List ℕ → Type 0
AnyRose [] [] = ⊥
AnyRose [] (new ∷ news) = ⊥
AnyRose (old ∷ olds) [] = ⊥
AnyRose (old ∷ olds) (new ∷ news) = Rose old new ⊎ AnyRose olds news

-- a count that rises at its last value stays there
abbrev pub Raised : ℕ → ℕ → Type 0
Raised old new = (old < new) ⊎ ((old ≡ count_max) × (new ≡ count_max))

-- The count of an object round one of its calls: it never falls, an answer without a fault leaves it, and a fault is
-- answered only where it rose.
pub record CountsFault {A E : Type 0} (answer : Result A E) (old new : ℕ) : Type 0 where
  pub kept : old ≤ new
  pub last : new ≤ count_max
  pub ok : OnOk answer (new ≡ old)
  pub failed : OnErr answer (Rose old new)

-- ---- a source

-- So many bytes moved from the front of what was left to the front of the buffer. None move into a buffer that isn't
-- empty only where nothing was left.
pub record Moves (left : List ℕ) (buffer moved : List ℕ) (n : ℕ) : Type 0 where
  pub there : n ≤ length left
  pub front : take n moved ≡ take n left
  pub at_end : 0 < length buffer → n ≡ 0 → left ≡ []

-- ---- a sink

-- for each content that it told before, it tells that and this piece after it
abbrev pub Appends : (List ℕ → Type 0) → (List ℕ → Type 0) → List ℕ → Type 0
Appends old new piece = (held : List ℕ) → old held → new (held ++ piece)

-- the same of a front of the piece
abbrev pub AppendsFront : (List ℕ → Type 0) → (List ℕ → Type 0) → List ℕ → Type 0
AppendsFront old new piece = (held : List ℕ) → old held → (n : ℕ) × new (held ++ take n piece)

-- ---- a disk

-- it tells what it told
abbrev pub Keeps : (List ℕ → Type 0) → (List ℕ → Type 0) → Type 0
Keeps old new = (x : List ℕ) → old x ↔ new x

-- for each image that it told before, these are the image's bytes from there on
abbrev pub ReadsAt : (List ℕ → Type 0) → ℕ → List ℕ → Type 0
ReadsAt old at bytes = (image : List ℕ) → old image → bytes ≡ take (length bytes) (drop at image)

-- for each image that it told before, it tells that with the piece in its place
abbrev pub WritesAt : (List ℕ → Type 0) → (List ℕ → Type 0) → ℕ → List ℕ → Type 0
WritesAt old new at piece = (image : List ℕ) → old image → new (overwritten image at piece)

-- a write that failed may have left any bytes in its range, and no others
abbrev pub TearsAt : (List ℕ → Type 0) → (List ℕ → Type 0) → ℕ → List ℕ → Type 0
TearsAt old new at piece = (image : List ℕ) → old image →
    (torn : List ℕ) × (length torn ≡ length piece) × new (overwritten image at torn)

-- ---- a shelf

-- the disk of a name leaves the shelf
pub record GoesOut (name : List ℕ) (old new : List ℕ → List ℕ → Type 0) (old_out new_out : List ℕ → Type 0)
    : Type 0 where
  pub images : (other image : List ℕ) → new other image ↔ (old other image × (other ≢ name))
  pub out : (other : List ℕ) → new_out other ↔ (old_out other ⊎ (other ≡ name))

-- the disk of a name comes home with this image
pub record ComesHome (name image : List ℕ) (old new : List ℕ → List ℕ → Type 0)
    (old_out new_out : List ℕ → Type 0) : Type 0 where
  pub images : (other bytes : List ℕ) →
      new other bytes ↔ ((old other bytes × (other ≢ name)) ⊎ ((other ≡ name) × (bytes ≡ image)))
  pub out : (other : List ℕ) → new_out other ↔ (old_out other × (other ≢ name))

-- nothing left the shelf or came home
pub record StaysHome (old new : List ℕ → List ℕ → Type 0) (old_out new_out : List ℕ → Type 0) : Type 0 where
  pub images : (name image : List ℕ) → new name image ↔ old name image
  pub out : (name : List ℕ) → new_out name ↔ old_out name

-- a count that goes up by one, to its last value
abbrev pub counted : ℕ → ℕ
counted n = min (n + 1) count_max
