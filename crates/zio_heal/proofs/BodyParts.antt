-- A walk over a block's kept headers comes to its bodies, which share its content; reads of these that give what was given
-- join to the content.
use Rattle.std.proofs.Common.{◌≡◌, ℕ, zero, suc, ◌+◌, ◌≤◌, List, [], ◌∷◌, ◌++◌, length, take, drop, Bool, true, false, Option, Some, None, Result, Ok, Err, IfOk, IsTrue, refl, sym, ap, ◌∙◌, subst, length-take, arith}
use Rattle.std.proofs.lemmas.List.{take-append-drop, take-append-le, drop-append-le}
use Rattle.std.proofs.lemmas.Slice.Eq.{bytes_eq-Decides}
use Rattle.zio_types.specs.declared.error.Errno.{Errno}
use Rattle.zio_types.specs.Places.{sector_size}
use Rattle.zio_blkptr.specs.declared.pointer.Bp.{Bp}
use Rattle.zio_blkptr.specs.Pointers.{places_of}
use Rattle.zio_cksum.specs.Blocks.{Read, good_kept, read_block}
use Rattle.zio_cksum.specs.Headers.{members_of}
use Rattle.zio_cksum.specs.Images.{Images, Setting}
use Rattle.zio_cksum.proofs.ReadLemmas.{good_law}
use Rattle.zio_gang.specs.declared.tree.Head.{Head}
use Rattle.zio_gang.specs.declared.tree.Tree.{Tree}
use Rattle.zio_gang.specs.Trees.{Walk, header_levels_max, kept_at, kept_visit, walk, walk_found, walk_kept, walk_members, walk_pointer, walk_read}
use Rattle.zio_trace.specs.BlockCopies.{Copies, body_copies}
use Rattle.zio_heal.specs.Contents.{EachPiece, HasPieces, HaveBytes, IfGang, IsGood}

-- each body has the bytes of its size, and nothing is left behind them
abbrev pub HaveParts : (Copies → List ℕ → Type 0) → List Bp → List ℕ → Type 0
HaveParts P [] bytes = bytes ≡ []
HaveParts P (bp ∷ bps) bytes = P (body_copies bp) (take bp.size bytes) × HaveParts P bps (drop bp.size bytes)

-- pieces of which good bytes are told
abbrev pub TellsGood : (Copies → List ℕ → Type 0) → Type 0
TellsGood P = (c : Copies) (bytes : List ℕ) → P c bytes → IsGood c bytes

all_of_it : (n : ℕ) (bytes : List ℕ) → length bytes ≡ n → take n bytes ≡ bytes
all_of_it zero [] e = refl
all_of_it zero (b ∷ bytes) e = absurd (omega arith)
all_of_it (suc n) [] e = refl
all_of_it (suc n) (b ∷ bytes) e = ap (λ (xs : List ℕ). b ∷ xs) (all_of_it n bytes (omega arith))

none_behind : (n : ℕ) (bytes : List ℕ) → length bytes ≡ n → drop n bytes ≡ []
none_behind zero [] e = refl
none_behind zero (b ∷ bytes) e = absurd (omega arith)
none_behind (suc n) [] e = refl
none_behind (suc n) (b ∷ bytes) e = none_behind n bytes (omega arith)

module _ (P : Copies → List ℕ → Type 0) (good : TellsGood P) where
  one_part : (bp : Bp) (bytes : List ℕ) → P (body_copies bp) bytes → HaveParts P (bp ∷ []) bytes
  one_part bp bytes h =
      let long : length bytes ≡ bp.size = (good (body_copies bp) bytes h).size in
      (subst (P (body_copies bp)) (sym (all_of_it bp.size bytes long)) h, none_behind bp.size bytes long)

  -- bodies behind others
  parts_append : (bps more : List Bp) (x y : List ℕ) → HaveParts P bps x → HaveParts P more y → HaveParts P (bps ++ more) (x ++ y)
  parts_append [] more x y h k = subst (λ (xs : List ℕ). HaveParts P more (xs ++ y)) (sym h) k
  parts_append (bp ∷ bps) more x y h k =
      let long : length (take bp.size x) ≡ bp.size = (good (body_copies bp) (take bp.size x) h.0).size in
      let room : bp.size ≤ length x = (let e = length-take bp.size x in omega arith) in (
        subst (P (body_copies bp)) (sym (take-append-le bp.size x y room)) h.0,
        subst (HaveParts P (bps ++ more)) (sym (drop-append-le bp.size x y room)) (parts_append bps more (drop bp.size x) y h.1 k),
      )

  -- ---- the walk

  none_left : {X : Type 0} (xs ys : List X) → xs ++ ys ≡ [] → (xs ≡ []) × (ys ≡ [])
  none_left [] ys e = (refl, e)
  none_left (x ∷ xs) ys e = let no : ⊥ = cc in absurd no

  kept_is : (kept : Option (List ℕ)) (bytes : List ℕ) → IsTrue (good_kept kept bytes) → kept ≡ Some bytes
  kept_is None bytes h = let no : ⊥ = cc in absurd no
  kept_is (Some k) bytes h = ap Some ((bytes_eq-Decides k bytes).0 h)

  -- without an error the bodies of a walk share the content
  abbrev ComesTo : Walk → List ℕ → Type 0
  ComesTo w bytes = w.errors ≡ [] → HaveParts P w.bodies bytes

  members_come : (one : List ℕ → Bp → Images → Walk) (has : List ℕ → Bp → List ℕ → Type 0) → ((path : List ℕ) (bp : Bp) (bytes : List ℕ) (images : Images) → has path bp bytes → ComesTo (one path bp images) bytes)
      → (path : List ℕ) (n : ℕ) (ms : List Bp) (bytes : List ℕ) (images : Images) → HaveBytes has path n ms bytes → ComesTo (walk_members one path n ms images) bytes
  members_come one has each path n [] bytes images h none = h
  members_come one has each path n (m ∷ ms) bytes images h none =
      let first : Walk = one (path ++ n ∷ []) m images in
      let rest : Walk = walk_members one path (n + 1) ms first.images in
      let both = none_left first.errors rest.errors none in
      subst (HaveParts P (first.bodies ++ rest.bodies)) (take-append-drop m.size bytes)
      (parts_append first.bodies rest.bodies (take m.size bytes) (drop m.size bytes)
      (each (path ++ n ∷ []) m (take m.size bytes) images h.0 both.0) (members_come one has each path (n + 1) ms (drop m.size bytes) first.images h.1 both.1))

  found_comes : (one : List ℕ → Bp → Images → Walk) (has : List ℕ → Bp → List ℕ → Type 0) → ((path : List ℕ) (bp : Bp) (bytes : List ℕ) (images : Images) → has path bp bytes → ComesTo (one path bp images) bytes)
      → (path header bytes : List ℕ) (found : Result (List ℕ) Errno) (images : Images) → IfOk found (λ (b : List ℕ). Some header ≡ Some b) → HaveBytes has path 0 (members_of header) bytes → ComesTo (walk_found one path images found) bytes
  found_comes one has each path header bytes (Err e) images is h none = let no : ⊥ = cc in absurd no
  found_comes one has each path header bytes (Ok b) images is h none =
      let same : header ≡ b = cc in
      members_come one has each path 0 (members_of b) bytes images (subst (λ (x : List ℕ). HaveBytes has path 0 (members_of x) bytes) same h) none

  if_comes : (gang : Bool) (bp : Bp) (bytes : List ℕ) (follow : Images → Walk) (images : Images) (A : Type 0) → (A → ComesTo (follow images) bytes) → IfGang gang A (P (body_copies bp) bytes) → ComesTo (walk_pointer None gang bp follow images) bytes
  if_comes true bp bytes follow images A f h none = f h none
  if_comes false bp bytes follow images A f h none = one_part bp bytes h

  if_ok : {X : Type 0} (Q R : X → Type 0) (r : Result X Errno) → ((x : X) → Q x → R x) → IfOk r Q → IfOk r R
  if_ok Q R (Ok x) f h = f x h
  if_ok Q R (Err e) f h = h

  walk_comes : (s : Setting) (levels : ℕ) (heads : List Head) (path : List ℕ) (bp : Bp) (bytes : List ℕ) (images : Images) → HasPieces P levels heads path bp bytes → ComesTo (walk levels (kept_visit s heads) path bp images) bytes
  unfolding walk HasPieces
  walk_comes s zero heads path bp bytes images h = if_comes bp.gang bp bytes _ images ⊥ (λ no. absurd no) h
  walk_comes s (suc levels) heads path bp bytes images h =
      let read : Read = read_block s true (good_kept (kept_at heads path)) images sector_size (places_of bp) in
      if_comes bp.gang bp bytes (λ now. walk_read (walk levels (kept_visit s heads)) path (read_block s true (good_kept (kept_at heads path)) now sector_size (places_of bp))) images _
      (λ g. found_comes (walk levels (kept_visit s heads)) (HasPieces P levels heads) (λ at m part now k. walk_comes s levels heads at m part now k) path g.header bytes read.found read.images
      (if_ok (λ (b : List ℕ). IsTrue (good_kept (kept_at heads path) b)) (λ (b : List ℕ). Some g.header ≡ Some b) read.found
      (λ b k. sym g.kept ∙ kept_is (kept_at heads path) b k)
      (good_law s true (good_kept (kept_at heads path)) images sector_size (places_of bp)))
      g.members)
      h

  pub bodies_come : (s : Setting) (tree : Tree) (content : List ℕ) (images : Images) → EachPiece P tree content → (walk_kept s tree images).errors ≡ [] → HaveParts P (walk_kept s tree images).bodies content
  bodies_come s tree content images h = walk_comes s header_levels_max tree.heads [] tree.bp content images h
