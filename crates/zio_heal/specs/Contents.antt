-- A block's content, piece by piece: which bytes belong to each header and to each body below a pointer.
use Rattle.std.specs.Prelude.{◌≡◌, ℕ, zero, suc, ◌+◌, List, [], ◌∷◌, ◌++◌, length, take, drop, Bool, true, false, Some}
use Rattle.zio_blkptr.specs.declared.pointer.Bp.{Bp}
use Rattle.zio_cksum.specs.Frames.{spots_of}
use Rattle.zio_cksum.specs.Headers.{members_of}
use Rattle.zio_cksum.specs.Images.{Images, Setting}
use Rattle.zio_gang.specs.declared.tree.Head.{Head}
use Rattle.zio_gang.specs.declared.tree.Tree.{Tree}
use Rattle.zio_gang.specs.Trees.{header_levels_max, kept_at}
use Rattle.zio_trace.specs.BlockCopies.{Copies, body_copies, head_copies}
use Rattle.zio_trace.specs.Tasks.{good_by}
use Rattle.zio_heal.specs.Copies.{HasCopy}
use Rattle.zio_heal.specs.Given.{Deeds, given_in}

-- ---- a block's pieces

-- the header of a gang at this path is kept, it holds of that header, and its members are so
pub record IsGangOf (Holds : Copies → List ℕ → Type 0) (Below : List Bp → Type 0) (heads : List Head) (path : List ℕ) (bp : Bp) : Type 0 where
  pub header : List ℕ
  pub kept : kept_at heads path ≡ Some header
  pub own : Holds (head_copies heads path bp) header
  pub members : Below (members_of header)

-- members in order, numbered from n, each with as many bytes as it has, and nothing behind them
abbrev pub HaveBytes : (List ℕ → Bp → List ℕ → Type 0) → List ℕ → ℕ → List Bp → List ℕ → Type 0
HaveBytes one path n [] bytes = bytes ≡ []
HaveBytes one path n (m ∷ ms) bytes =
    one (path ++ n ∷ []) m (take m.size bytes) × HaveBytes one path (n + 1) ms (drop m.size bytes)

-- a gang's, or a body's
abbrev pub IfGang : Bool → Type 0 → Type 0 → Type 0
IfGang true gang body = gang
IfGang false gang body = body

-- From a pointer at a path down, over the kept headers: it holds of each body with the bytes that are its part of the
-- content, and of each header with the bytes that are kept. As many levels of headers may follow as the number says.
unfoldable pub HasPieces : (Copies → List ℕ → Type 0) → ℕ → List Head → List ℕ → Bp → List ℕ → Type 0
HasPieces Holds zero heads path bp bytes = IfGang bp.gang ⊥ (Holds (body_copies bp) bytes)
HasPieces Holds (suc levels) heads path bp bytes =
    IfGang bp.gang
    (IsGangOf Holds (λ members. HaveBytes (HasPieces Holds levels heads) path 0 members bytes) heads path bp)
    (Holds (body_copies bp) bytes)

-- the block is whole, its bodies join to the content, and it holds of each of its pieces
abbrev pub EachPiece : (Copies → List ℕ → Type 0) → Tree → List ℕ → Type 0
EachPiece Holds tree content = HasPieces Holds header_levels_max tree.heads [] tree.bp content

-- ---- what may hold of a piece

-- these bytes are as many as are read of each copy, and good
pub record IsGood (c : Copies) (bytes : List ℕ) : Type 0 where
  pub size : length bytes ≡ c.len
  pub good : good_by c.test bytes ≡ true

-- they are good, and one of the copies has them
pub record IsHeld (s : Setting) (images : Images) (c : Copies) (bytes : List ℕ) : Type 0 where
  pub is_good : IsGood c bytes
  pub copy : HasCopy (spots_of s c.places) bytes images

-- they are what these deeds gave last for the places of the copies
abbrev pub IsGivenIn : Deeds → Copies → List ℕ → Type 0
IsGivenIn ds c bytes = given_in ds c.places ≡ Some bytes

-- they are good, and what these deeds gave last
pub record IsGivenGood (ds : Deeds) (c : Copies) (bytes : List ℕ) : Type 0 where
  pub is_good : IsGood c bytes
  pub given : IsGivenIn ds c bytes
