-- Headers that are found by their paths, from a pointer down.
use Rattle.std.specs.Prelude.{◌≡◌, ℕ, zero, suc, ◌+◌, List, [], ◌∷◌, ◌++◌, Bool, true, false, Some}
use Rattle.std.specs.List.{sum_by}
use Rattle.zio_blkptr.specs.declared.pointer.Bp.{Bp}
use Rattle.zio_cksum.specs.Headers.{members_of}
use Rattle.zio_gang.specs.declared.tree.Head.{Head}
use Rattle.zio_gang.specs.Trees.{kept_at}

-- how many bytes some pointers say that they have, together
abbrev pub bytes_of_all : List Bp → ℕ
bytes_of_all bps = sum_by (λ (bp : Bp). bp.size) bps

-- of the members in order, numbered from n
abbrev pub AreKept : (List ℕ → Bp → Type 0) → List ℕ → ℕ → List Bp → Type 0
AreKept kept path n [] = Unit {0}
AreKept kept path n (m ∷ ms) = kept (path ++ n ∷ []) m × AreKept kept path (n + 1) ms

-- A header is kept at the gang's path, and it names members of as many bytes as the gang has.
pub record IsKeptGang (kept : List ℕ → Bp → Type 0) (heads : List Head) (path : List ℕ) (bp : Bp) : Type 0 where
  pub bytes : List ℕ
  pub found : kept_at heads path ≡ Some bytes
  pub sizes : bytes_of_all (members_of bytes) ≡ bp.size
  pub members : AreKept kept path 0 (members_of bytes)

-- The members are those that the header names which is kept at this path.
pub record AreNamedAt (heads : List Head) (path : List ℕ) (members : List Bp) : Type 0 where
  pub header : List ℕ
  pub found : kept_at heads path ≡ Some header
  pub named : members ≡ members_of header

-- a pointer that is no gang needs no header
abbrev pub IsKeptIf : Bool → Type 0 → Type 0
IsKeptIf true gang = gang
IsKeptIf false gang = Unit {0}

-- Of the pointer at this path, and of all below, each gang has its header. As many levels may follow as the first argument
-- says.
unfoldable pub IsKept : ℕ → List Head → List ℕ → Bp → Type 0
IsKept zero heads path bp = IsKeptIf bp.gang ⊥
IsKept (suc levels) heads path bp = IsKeptIf bp.gang (IsKeptGang (IsKept levels heads) heads path bp)
