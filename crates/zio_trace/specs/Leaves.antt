-- Operations on leaves: what each gives, which bytes it concerns, and which of them conflict.
use Rattle.std.specs.Prelude.{◌≡◌, ◌≢◌, ℕ, ◌+◌, ◌≤◌, List, [], length, Bool, true, false, Option, Some, None, Result, Ok, Err, Contains, ◌⊎◌}
use Rattle.zio_types.specs.declared.error.Errno.{Errno}
use Rattle.zio_cksum.specs.Images.{Images, Setting, Spot, Written, image_of, read_leaf, write_leaf}
use Rattle.zio_trace.specs.Programs.{Done, Meaning, Program, run}

-- a read of the first bytes of a place, or a write of its whole place
pub data LeafOp : Type 0 where
  Fetch : (retry : Bool) (len : ℕ) (spot : Spot) → LeafOp
  Store : (retry : Bool) (bytes : List ℕ) (spot : Spot) → LeafOp

-- bytes or an error; a write's answer has no bytes
abbrev pub Answer : Type 0
Answer = Result (List ℕ) Errno

abbrev pub answer_of : Option Errno → Answer
answer_of None = Ok []
answer_of (Some e) = Err e

abbrev pub error_of : Answer → Option Errno
error_of (Ok bytes) = None
error_of (Err e) = Some e

abbrev pub stored_as : Written → Done Answer
stored_as w = record { value = answer_of w.error; asks = []; images = w.images }

-- what an operation gives over some images
abbrev pub on_leaf : Setting → Meaning LeafOp Answer
on_leaf s (Fetch retry len spot) images = record { value = read_leaf s retry images len spot; asks = []; images = images }
on_leaf s (Store retry bytes spot) images = stored_as (write_leaf s retry bytes images spot)

-- a program of leaf operations, run alone, ends with the value and leaves these images
abbrev pub Gives : {A : Type 0} → Setting → Program LeafOp Answer A → Images → A → Images → Type 0
Gives s p before value after = run (on_leaf s) p before ≡ record { value = value; asks = []; images = after }

-- ---- which operations conflict

abbrev pub spot_of : LeafOp → Spot
spot_of (Fetch retry len spot) = spot
spot_of (Store retry bytes spot) = spot

-- how many bytes a read asks for; a write gets none
abbrev pub asked_of : LeafOp → ℕ
asked_of (Fetch retry len spot) = len
asked_of (Store retry bytes spot) = 0

abbrev pub stores : LeafOp → Bool
stores (Fetch retry len spot) = false
stores (Store retry bytes spot) = true

-- two places on leaves have no byte in common
abbrev pub AreClear : Spot → Spot → Type 0
AreClear t u = (t.leaf ≢ u.leaf) ⊎ ((t.at + t.span ≤ u.at) ⊎ (u.at + u.span ≤ t.at))

-- both read, or their places don't meet: they don't conflict
abbrev pub AreApart : LeafOp → LeafOp → Type 0
AreApart a b = ((stores a ≡ false) × (stores b ≡ false)) ⊎ AreClear (spot_of a) (spot_of b)

-- each leaf's image is so long
abbrev pub HaveSizes : (ℕ → ℕ) → Images → Type 0
HaveSizes sizes images = (leaf : ℕ) → length (image_of images leaf) ≡ sizes leaf

-- the operation's place lies on its leaf, and a read asks for no more bytes than the place has
pub record LiesOn (sizes : ℕ → ℕ) (a : LeafOp) : Type 0 where
  pub room : asked_of a ≤ (spot_of a).span
  pub lies : (spot_of a).at + (spot_of a).span ≤ sizes (spot_of a).leaf

-- an operation on one of these spots, which asks for at most so many bytes
pub record IsAmong (spots : List Spot) (len : ℕ) (a : LeafOp) : Type 0 where
  pub listed : Contains spots (spot_of a)
  pub at_most : asked_of a ≤ len
