-- The copies that are read of a block are those of its pieces.
use Rattle.std.proofs.Common.{ℕ, zero, suc, ◌+◌, List, [], ◌∷◌, ◌++◌, Bool, true, false}
use Rattle.std.specs.List.{AllByRecursion}
use Rattle.zio_types.specs.declared.place.Place.{Place}
use Rattle.zio_blkptr.specs.declared.pointer.Bp.{Bp}
use Rattle.zio_blkptr.specs.Pointers.{places_of}
use Rattle.zio_cksum.proofs.AllLemmas.{all_append}
use Rattle.zio_gang.specs.declared.tree.Head.{Head}
use Rattle.zio_gang.specs.declared.tree.Tree.{Tree}
use Rattle.zio_gang.specs.Pieces.{Parts, Piece, below_piece, head_piece, members_kept, no_parts, parts_from, parts_if, parts_of, parts_of_members, pieces_of}
use Rattle.zio_gang.specs.Trees.{header_levels_max, kept_at}
use Rattle.zio_trace.specs.BlockCopies.{Copies, Groups, below_copies, copies_from, copies_of, groups_if, groups_of, groups_of_members, head_copies, no_groups}
use Rattle.zio_trace.proofs.ListLemmas.{all_front, all_rest}

module _ (P : ℕ → List Place → Type 0) where
  abbrev OfPieces : List Piece → Type 0
  OfPieces xs = AllByRecursion (λ (x : Piece). P x.size (places_of x.pointer)) xs

  abbrev OfCopies : List Copies → Type 0
  OfCopies cs = AllByRecursion (λ (c : Copies). P c.len c.places) cs

  -- what holds of the pieces holds of the copies
  abbrev Follow : Parts → Groups → Type 0
  Follow parts groups = (OfPieces parts.heads → OfCopies groups.heads) × (OfPieces parts.bodies → OfCopies groups.bodies)

  if_follow : (gang : Bool) (bp : Bp) (parts : Parts) (groups : Groups) → Follow parts groups → Follow (parts_if gang bp parts) (groups_if gang bp groups)
  if_follow true bp parts groups h = h
  if_follow false bp parts groups h = ((λ k. tt), λ k. (k.0, tt))

  both_follow : (xs ys : List Piece) (cs ds : List Copies) → (OfPieces xs → OfCopies cs) → (OfPieces ys → OfCopies ds) → OfPieces (xs ++ ys) → OfCopies (cs ++ ds)
  both_follow xs ys cs ds f g h = all_append _ cs ds (f (all_front _ xs ys h)) (g (all_rest _ xs ys h))

  members_follow : (parts : List ℕ → Bp → Parts) (groups : List ℕ → Bp → Groups) → ((path : List ℕ) (bp : Bp) → Follow (parts path bp) (groups path bp)) → (path : List ℕ) (n : ℕ) (ms : List Bp) → Follow (parts_of_members parts path n ms) (groups_of_members groups path n ms)
  members_follow parts groups one path n [] = ((λ k. tt), λ k. tt)
  members_follow parts groups one path n (m ∷ ms) =
      let first = one (path ++ n ∷ []) m in
      let rest = members_follow parts groups one path (n + 1) ms in
      (both_follow _ _ (groups (path ++ n ∷ []) m).heads _ first.0 rest.0, both_follow _ _ (groups (path ++ n ∷ []) m).bodies _ first.1 rest.1)

  from_follow : (levels : ℕ) (heads : List Head) (path : List ℕ) (bp : Bp) → Follow (parts_from levels heads path bp) (copies_from levels heads path bp)
  unfolding parts_from copies_from
  from_follow zero heads path bp = if_follow bp.gang bp no_parts no_groups ((λ k. tt), λ k. tt)
  from_follow (suc levels) heads path bp =
      let members : List Bp = members_kept (kept_at heads path) in
      let h = members_follow (parts_from levels heads) (copies_from levels heads) (from_follow levels heads) path 0 members in
      if_follow bp.gang bp (below_piece (head_piece heads path bp) (parts_of_members (parts_from levels heads) path 0 members)) (below_copies (head_copies heads path bp) (groups_of_members (copies_from levels heads) path 0 members))
      ((λ k. (k.0, h.0 k.1)), λ k. h.1 k)

  pub copies_follow : (tree : Tree) → OfPieces (pieces_of tree) → OfCopies (copies_of tree)
  copies_follow tree h =
      let f = from_follow header_levels_max tree.heads [] tree.bp in
      both_follow (parts_of tree).heads (parts_of tree).bodies (groups_of tree).heads (groups_of tree).bodies f.0 f.1 h
