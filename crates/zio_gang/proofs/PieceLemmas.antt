-- A walk over kept headers without an error comes to the pieces of the block.
use Rattle.std.proofs.Common.{◌≡◌, ℕ, zero, suc, ◌+◌, List, [], ◌∷◌, ◌++◌, map, Bool, true, false, Option, Some, None, Result, Ok, Err, IfOk, IsTrue, bytes_eq, refl, sym, ap, subst, ◌∙◌}
use Rattle.std.proofs.lemmas.Slice.Eq.{bytes_eq-Decides}
use Rattle.std.proofs.lemmas.List.{map-append}
use Rattle.zio_types.specs.declared.error.Errno.{Errno}
use Rattle.zio_types.specs.Places.{sector_size}
use Rattle.zio_blkptr.specs.declared.pointer.Bp.{Bp}
use Rattle.zio_blkptr.specs.Pointers.{places_of}
use Rattle.zio_cksum.specs.Blocks.{Read, good_kept, read_block}
use Rattle.zio_cksum.specs.Headers.{members_of}
use Rattle.zio_cksum.specs.Images.{Images, Setting}
use Rattle.zio_cksum.proofs.ReadLemmas.{good_law}
use Rattle.zio_gang.specs.declared.tree.Head.{Head}
use Rattle.zio_gang.specs.declared.tree.Tree.{Tree}
use Rattle.zio_gang.specs.Trees.{Walk, kept_at, kept_visit, walk, walk_found, walk_kept, walk_members, walk_pointer, walk_read, header_levels_max}
use Rattle.zio_gang.specs.Pieces.{Parts, Piece, body_piece, members_kept, parts_from, parts_if, parts_of, parts_of_members}

-- the walk came to these bodies, and each of its headers is the kept one
abbrev ComesTo : List (Option Errno) → List Bp → Parts → Type 0
ComesTo errors bodies parts = errors ≡ [] → map body_piece bodies ≡ parts.bodies

none_left : {X : Type 0} (xs ys : List X) → xs ++ ys ≡ [] → (xs ≡ []) × (ys ≡ [])
none_left [] ys e = (refl, e)
none_left (x ∷ xs) ys e = let no : ⊥ = cc in absurd no

kept_is : (kept : Option (List ℕ)) (bytes : List ℕ) → IsTrue (good_kept kept bytes) → kept ≡ Some bytes
kept_is None bytes h = let no : ⊥ = cc in absurd no
kept_is (Some k) bytes h = ap Some ((bytes_eq-Decides k bytes).0 h)

members_come : (walk_one : List ℕ → Bp → Images → Walk) (parts_one : List ℕ → Bp → Parts)
    → ((path : List ℕ) (bp : Bp) (images : Images) → ComesTo (walk_one path bp images).errors (walk_one path bp images).bodies (parts_one path bp))
    → (path : List ℕ) (n : ℕ) (ms : List Bp) (images : Images)
    → ComesTo (walk_members walk_one path n ms images).errors (walk_members walk_one path n ms images).bodies (parts_of_members parts_one path n ms)
members_come walk_one parts_one one path n [] images none = refl
members_come walk_one parts_one one path n (m ∷ ms) images none =
    let first : Walk = walk_one (path ++ n ∷ []) m images in
    let rest : Walk = walk_members walk_one path (n + 1) ms first.images in
    let parts = none_left first.errors rest.errors none in
    map-append body_piece first.bodies rest.bodies
    ∙ (λ i. one (path ++ n ∷ []) m images parts.0 i ++ members_come walk_one parts_one one path (n + 1) ms first.images parts.1 i)

found_comes : (walk_one : List ℕ → Bp → Images → Walk) (parts_one : List ℕ → Bp → Parts)
    → ((path : List ℕ) (bp : Bp) (images : Images) → ComesTo (walk_one path bp images).errors (walk_one path bp images).bodies (parts_one path bp))
    → (path : List ℕ) (kept : Option (List ℕ)) (found : Result (List ℕ) Errno) (images : Images) → IfOk found (λ bytes. IsTrue (good_kept kept bytes))
    → ComesTo (walk_found walk_one path images found).errors (walk_found walk_one path images found).bodies (parts_of_members parts_one path 0 (members_kept kept))
found_comes walk_one parts_one one path kept (Err e) images good none = let no : ⊥ = cc in absurd no
found_comes walk_one parts_one one path kept (Ok bytes) images good none =
    members_come walk_one parts_one one path 0 (members_of bytes) images none
    ∙ ap (λ (k : Option (List ℕ)). (parts_of_members parts_one path 0 (members_kept k)).bodies) (sym (kept_is kept bytes good))

pointer_comes : (gang : Bool) (bp : Bp) (follow : Images → Walk) (images : Images) (parts : Parts)
    → ComesTo (follow images).errors (follow images).bodies parts
    → ComesTo (walk_pointer None gang bp follow images).errors (walk_pointer None gang bp follow images).bodies (parts_if gang bp parts)
pointer_comes true bp follow images parts h = h
pointer_comes false bp follow images parts h = λ none. refl

walk_comes : (levels : ℕ) (s : Setting) (heads : List Head) (path : List ℕ) (bp : Bp) (images : Images)
    → ComesTo (walk levels (kept_visit s heads) path bp images).errors (walk levels (kept_visit s heads) path bp images).bodies (parts_from levels heads path bp)
unfolding walk parts_from
walk_comes zero s heads path bp images = pointer_comes bp.gang bp _ images _ (λ none. let no : ⊥ = cc in absurd no)
walk_comes (suc levels) s heads path bp images =
    let v = kept_visit s heads in
    let read : Read = v.read_head path bp images in
    pointer_comes bp.gang bp (λ now. walk_read (walk levels v) path (v.read_head path bp now)) images _
    (found_comes (walk levels v) (parts_from levels heads) (walk_comes levels s heads) path (kept_at heads path) read.found read.images
    (good_law s true (good_kept (kept_at heads path)) images sector_size (places_of bp)))

pub kept_walk_comes : (s : Setting) (tree : Tree) (images : Images) → (walk_kept s tree images).errors ≡ []
    → map body_piece (walk_kept s tree images).bodies ≡ (parts_of tree).bodies
kept_walk_comes s tree images = walk_comes header_levels_max s tree.heads [] tree.bp images
