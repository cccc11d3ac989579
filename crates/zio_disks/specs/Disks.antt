-- Several disks by their numbers: what they tell, and what operations on them keep.
use Rattle.std.specs.Prelude.{◌≡◌, ◌≢◌, ℕ, zero, suc, ◌+◌, ◌<◌, ◌≤◌, List, [], ◌∷◌, ◌++◌, map, slice_index_or, Bool, true, false, Option, Some, None, Result, Ok, Err, OnOk}
use Rattle.std.specs.List.{AllByRecursion}
use Rattle.zio_types.specs.declared.error.Errno.{Errno}
use Rattle.zio_types.specs.declared.place.Place.{Place}
use Rattle.zio_types.specs.Errors.{worst_error}
use Rattle.zio_outside.specs.declared.written.Written.{Written}
use Rattle.zio_outside.specs.Outside.{Keeps}
pub use Rattle.zio_outside.specs.Outside.{AnyRose}
use Rattle.zio_cksum.specs.Blocks.{leaves_of, spot_in}
use Rattle.zio_cksum.specs.Frames.{IsCovered, SameOutside, spots_of}
use Rattle.zio_cksum.specs.Images.{Images, Setting, Spot}
use Rattle.zio_disks.specs.declared.read.Good.{Good}
use Rattle.zio_disks.specs.declared.setting.Stop.{Stop}
use Rattle.zio_disks.specs.declared.setting.Stop.TheVariants.{Device}

-- each disk tells its image
abbrev pub Tell : {D : Type 0} → (D → List ℕ → Type 0) → List D → Images → Type 0
Tell image [] [] = Unit {0}
Tell image [] (bytes ∷ images) = ⊥
Tell image (disk ∷ disks) [] = ⊥
Tell image (disk ∷ disks) (bytes ∷ images) = image disk bytes × Tell image disks images

-- each disk tells of its home what it told
abbrev pub KeepHomes : {D : Type 0} → (D → List ℕ → Type 0) → List D → List D → Type 0
KeepHomes home [] [] = Unit {0}
KeepHomes home [] (disk ∷ disks) = ⊥
KeepHomes home (disk ∷ disks) [] = ⊥
KeepHomes home (old ∷ olds) (new ∷ news) = Keeps (home old) (home new) × KeepHomes home olds news

-- each disk that told an image tells one
abbrev pub StillTell : {D : Type 0} → (D → List ℕ → Type 0) → List D → List D → Type 0
StillTell image [] [] = Unit {0}
StillTell image [] (disk ∷ disks) = ⊥
StillTell image (disk ∷ disks) [] = ⊥
StillTell image (old ∷ olds) (new ∷ news) =
    ((content : List ℕ) → image old content → (after : List ℕ) × image new after) × StillTell image olds news

-- each disk that was sound is sound, and its count of faults stayed
abbrev pub StaySound : {D : Type 0} → (D → Type 0) → (D → ℕ) → List D → List D → Type 0
StaySound sound faults [] [] = Unit {0}
StaySound sound faults [] (disk ∷ disks) = ⊥
StaySound sound faults (disk ∷ disks) [] = ⊥
StaySound sound faults (old ∷ olds) (new ∷ news) =
    (sound old → sound new × (faults new ≡ faults old)) × StaySound sound faults olds news

-- What no operation changes of the disks: their sizes, their counts at fetch and their homes, that they tell an image,
-- and that they are sound.
pub record AreSameDisks {D : Type 0} (bytes faults faults_at_fetch : D → ℕ) (home image : D → List ℕ → Type 0) (sound : D → Type 0) (old new : List D) : Type 0 where
  pub sizes : map bytes new ≡ map bytes old
  pub at_fetch : map faults_at_fetch new ≡ map faults_at_fetch old
  pub homes : KeepHomes home old new
  pub told : StillTell image old new
  pub stay : StaySound sound faults old new

-- the spot has room for so many bytes, and lies on the disk of its leaf, where the disks have these sizes
abbrev pub Lies : List ℕ → ℕ → Spot → Type 0
Lies sizes len spot = (len ≤ spot.span) × (spot.at + spot.span ≤ slice_index_or sizes spot.leaf 0)

abbrev pub LieOn : List ℕ → ℕ → List Spot → Type 0
LieOn sizes len spots = AllByRecursion (Lies sizes len) spots

-- the copies of a block of so many bytes at these places lie on the disks
abbrev pub AreOnDisks : Setting → List ℕ → ℕ → List Place → Type 0
AreOnDisks s sizes len places = LieOn sizes len (spots_of s places)

-- for images that they told they tell images that are the same outside these spots
abbrev pub TellOutside : {D : Type 0} → (D → List ℕ → Type 0) → List Spot → List D → List D → Type 0
TellOutside image spots old new =
    (before : Images) → Tell image old before → (after : Images) × Tell image new after × SameOutside spots before after

-- each byte of the range is one of a spot on this leaf
abbrev pub LiesWithin : List Spot → ℕ → Written → Type 0
LiesWithin spots leaf range = (at : ℕ) → range.at ≤ at → at < range.at + range.len → IsCovered spots leaf at

-- what was written of this leaf's disk since any state before, and then more, which lies within the spots
abbrev pub WritesOn : {D : Type 0} → (List Written → D → D → Type 0) → List Spot → ℕ → D → D → Type 0
WritesOn {D} went spots leaf old new = (start : D) (ranges : List Written) → went ranges start old →
    (more : List Written) × went (ranges ++ more) start new × AllByRecursion (LiesWithin spots leaf) more

-- so it is with each disk
abbrev pub WritesWithin : {D : Type 0} → (List Written → D → D → Type 0) → List Spot → List D → List D → Type 0
WritesWithin {D} went spots old new =
    (leaf : ℕ) (other : D) → WritesOn went spots leaf (slice_index_or old leaf other) (slice_index_or new leaf other)

-- What an operation on the disks leaves, whatever they tell and however it ends: it is stopped by a device exactly where a
-- count of their faults rose, nothing changes outside its spots, and it writes nowhere else.
pub record Handles {D A : Type 0} (bytes faults faults_at_fetch : D → ℕ) (home image : D → List ℕ → Type 0) (sound : D → Type 0) (went : List Written → D → D → Type 0) (spots : List Spot) (answer : Result A Stop) (old new : List D) : Type 0 where
  pub same : AreSameDisks bytes faults faults_at_fetch home image sound old new
  pub steady : OnOk answer (map faults new ≡ map faults old)
  pub device : answer ≡ Err Device → AnyRose (map faults old) (map faults new)
  pub calm : answer ≢ Err Device → map faults new ≡ map faults old
  pub outside : TellOutside image spots old new
  pub wrote : WritesWithin went spots old new

-- what a read of a block may rewrite: its copies, and nothing without repairs
abbrev pub touched : Bool → Setting → List Place → List Spot
touched true s places = spots_of s places
touched false s places = []

-- bytes in a buffer, or the error in their place
abbrev pub found_with : Option Errno → List ℕ → Result (List ℕ) Errno
found_with None bytes = Ok bytes
found_with (Some e) bytes = Err e

-- the error in place of a read's bytes, if any
abbrev pub read_error : Result (List ℕ) Errno → Option Errno
read_error (Ok bytes) = None
read_error (Err e) = Some e

abbrev pub found_if : Bool → List ℕ → Option (List ℕ)
found_if true bytes = Some bytes
found_if false bytes = None

-- the error of two parts that fail only together: the worse one, and none where one of the parts is good
abbrev pub both_failed : Option Errno → Option Errno → Option Errno
both_failed None b = None
both_failed (Some e) None = None
both_failed (Some e) (Some f) = worst_error (Some e) (Some f)

-- What a good read rewrites: all leaves of each place before that of the good leaf, and of that place those that failed.
abbrev pub repairs_in : Setting → List Place → ℕ → List ℕ → List Spot
repairs_in s [] before failed = []
repairs_in s (p ∷ ps) zero failed = map (spot_in p) failed
repairs_in s (p ∷ ps) (suc before) failed = map (spot_in p) (leaves_of s p) ++ repairs_in s ps before failed

-- what the places behind one give that has no good leaf
abbrev pub good_behind : Errno → Result Good (Option Errno) → Result Good (Option Errno)
good_behind error (Ok good) = Ok (record good { before = good.before + 1 })
good_behind error (Err others) = Err (worst_error (Some error) others)
