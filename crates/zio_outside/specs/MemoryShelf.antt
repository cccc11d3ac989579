-- What a clause sees of a shelf in memory.
use Rattle.std.specs.Prelude.{◌≡◌, ◌≢◌, ◌<◌, ℕ, Bool, cond, nat_eq, List, [], ◌∷◌, Option, Some, None}
use Rattle.std.specs.Cmp.Lexicographic.{pointwise}
use Rattle.std.proofs.Common.{arith, subst}
use Rattle.zio_outside.specs.Memory.{told, disk_image, IsSoundDisk, IsSteady, IsSteady-below_max}
use Rattle.zio_outside.specs.Outside.{count_max}
use Rattle.zio_outside.specs.declared.mem_disk.MemDisk.{MemDisk}
use Rattle.zio_outside.specs.declared.mem_shelf.Slot.{Slot}
use Rattle.zio_outside.specs.declared.mem_shelf.MemShelf.{MemShelf}
use Rattle.zio_outside.specs.declared.written.Written.{Written}

abbrev pub is_named : {D : Type 0} → List ℕ → Slot D → Bool
is_named name s = pointwise nat_eq s.name name

-- the first slot of a name
abbrev pub slot_of : {D : Type 0} → List (Slot D) → List ℕ → Option (Option D)
slot_of [] name = None
slot_of (s ∷ rest) name = cond (is_named name s) (Some s.disk) (slot_of rest name)

-- what the shelf has under a name: none where no disk was put, and within it none where the disk is out
abbrev pub shelf_slot : {D : Type 0} → MemShelf D → List ℕ → Option (Option D)
shelf_slot s = slot_of s.slots.items

-- the disk of a slot, if it is at home
abbrev pub at_home : {D : Type 0} → Option (Option D) → Option D
at_home None = None
at_home (Some disk) = disk

-- a disk of this name is at home, and tells these bytes
abbrev pub image_under : {D : Type 0} → (D → List ℕ → Type 0) → (List ℕ → Option (Option D)) → List ℕ → List ℕ → Type 0
image_under {D} image slots name bytes = (disk : D) × (slots name ≡ Some (Some disk)) × image disk bytes

-- the same of a shelf of disks without a cache
abbrev pub image_of : (List ℕ → Option (Option MemDisk)) → List ℕ → List ℕ → Type 0
image_of slots = image_under (λ (disk : MemDisk). told (disk_image disk)) slots

-- a disk of this name is at home, and keeps this stable image and these ranges
abbrev pub kept_under : {D : Type 0} → (D → List ℕ → List Written → Type 0) → (List ℕ → Option (Option D))
    → List ℕ → List ℕ → List Written → Type 0
kept_under {D} keeps slots name stable ranges =
    (disk : D) × (slots name ≡ Some (Some disk)) × keeps disk stable ranges

-- the disk of this name is out
abbrev pub out_of : {D : Type 0} → (List ℕ → Option (Option D)) → List ℕ → Type 0
out_of slots name = slots name ≡ Some None

-- what is under one name changed, and nothing else
pub record ChangesOnly {D : Type 0} (old new : List ℕ → Option (Option D)) (name : List ℕ) (disk : Option D)
    : Type 0 where
  pub changed : new name ≡ Some disk
  pub others : (other : List ℕ) → other ≢ name → new other ≡ old other

abbrev pub shelf_faults : {D : Type 0} → MemShelf D → ℕ
shelf_faults s = s.calls.faults

abbrev pub shelf_disk_faults : {D : Type 0} → MemShelf D → ℕ
shelf_disk_faults s = s.disk_faults

abbrev pub shelf_fetches : {D : Type 0} → MemShelf D → ℕ
shelf_fetches s = s.fetches

-- the numbers of its fetches that fail
abbrev pub shelf_fails : {D : Type 0} → MemShelf D → List ℕ
shelf_fails s = s.calls.fails

-- how many disks were given back
abbrev pub shelf_returns : {D : Type 0} → MemShelf D → ℕ
shelf_returns s = s.returns

-- the size of the disk that was handed out last
abbrev pub shelf_last_size : {D : Type 0} → MemShelf D → ℕ
shelf_last_size s = s.last_size

-- how many fetches were made
abbrev pub shelf_calls : {D : Type 0} → MemShelf D → ℕ
shelf_calls s = s.calls.made

-- a disk was put there, and is sound if it is at home
abbrev pub IsSoundUnder : {D : Type 0} → (D → Type 0) → Option (Option D) → Type 0
IsSoundUnder sound None = ⊥
IsSoundUnder sound (Some None) = Unit {0}
IsSoundUnder sound (Some (Some disk)) = sound disk

abbrev pub IsSoundSlot : Option (Option MemDisk) → Type 0
IsSoundSlot = IsSoundUnder IsSoundDisk

-- no fetch of this name is to fail, and none has failed, nor has a disk
pub record IsSoundShelfOf {D : Type 0} (sound : D → Type 0) (s : MemShelf D) (name : List ℕ) : Type 0 where
  pub steady : IsSteady (shelf_fails s) (shelf_faults s)
  pub disks : shelf_disk_faults s ≡ 0
  pub kept : IsSoundUnder sound (shelf_slot s name)

abbrev pub IsSoundShelf : MemShelf MemDisk → List ℕ → Type 0
IsSoundShelf = IsSoundShelfOf IsSoundDisk

pub IsSoundShelf-counts : {D : Type 0} (sound : D → Type 0) (s : MemShelf D) (name : List ℕ)
    → IsSoundShelfOf sound s name → (shelf_faults s < count_max) × (shelf_disk_faults s < count_max)
IsSoundShelf-counts sound s name is_sound =
    (IsSteady-below_max (shelf_fails s) (shelf_faults s) is_sound.steady, let none = is_sound.disks in omega arith)

-- a shelf in memory tells one image of a disk that tells one
pub image_under-one : {D : Type 0} (image : D → List ℕ → Type 0) (slots : List ℕ → Option (Option D)) (name a b : List ℕ)
    → ((disk : D) (x y : List ℕ) → image disk x → image disk y → x ≡ y)
    → image_under image slots name a → image_under image slots name b → a ≡ b
image_under-one {D} image slots name a b one p q =
    let there : slots name ≡ Some (Some p.0) = p.1 in
    let other : slots name ≡ Some (Some q.0) = q.1 in
    let same : q.0 ≡ p.0 = cc in
    one p.0 a b p.2 (subst (λ (disk : D). image disk b) same q.2)

-- the same of what the disk keeps
pub kept_under-one : {D : Type 0} (keeps : D → List ℕ → List Written → Type 0) (slots : List ℕ → Option (Option D))
    (name a b : List ℕ) (xs ys : List Written)
    → ((disk : D) (x y : List ℕ) (us vs : List Written) → keeps disk x us → keeps disk y vs → (x ≡ y) × (us ≡ vs))
    → kept_under keeps slots name a xs → kept_under keeps slots name b ys → (a ≡ b) × (xs ≡ ys)
kept_under-one {D} keeps slots name a b xs ys one p q =
    let there : slots name ≡ Some (Some p.0) = p.1 in
    let other : slots name ≡ Some (Some q.0) = q.1 in
    let same : q.0 ≡ p.0 = cc in
    one p.0 a b xs ys p.2 (subst (λ (disk : D). keeps disk b ys) same q.2)
