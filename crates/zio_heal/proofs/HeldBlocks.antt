-- A block of which each piece is held is read without error once no row is met any more.
use Rattle.std.proofs.Common.{◌≡◌, ℕ, ◌+◌, ◌≤◌, List, [], ◌∷◌, length, true, None, IsOk, IsTrue, Contains, sym, ◌∙◌, subst, arith}
use Rattle.std.specs.List.{AllByRecursion}
use Rattle.zio_types.specs.declared.place.Place.{Place}
use Rattle.zio_types.specs.Places.{is_inside}
use Rattle.zio_blkptr.specs.Pointers.{places_of}
use Rattle.zio_cksum.specs.Blocks.{read_block}
use Rattle.zio_cksum.specs.Frames.{FitSpots, HaveRoom, spots_of}
use Rattle.zio_cksum.specs.Images.{Images, Setting, Spot, image_of}
use Rattle.zio_cksum.proofs.AllLemmas.{all_contains, all_weaker}
use Rattle.zio_cksum.proofs.ReadLemmas.{reads_law}
use Rattle.zio_gang.specs.declared.tree.Tree.{Tree}
use Rattle.zio_gang.specs.Pieces.{Piece, pieces_of}
use Rattle.zio_gang.specs.Trees.{free_tree, read_tree, sizes_of, tree_places, tree_pointers}
use Rattle.zio_trace.specs.BlockCopies.{Copies, copies_of}
use Rattle.zio_trace.specs.Leaves.{HaveSizes}
use Rattle.zio_trace.specs.Separate.{HaveRoomFor}
use Rattle.zio_trace.specs.SoundRounds.{IsOwnBlock}
use Rattle.zio_trace.specs.Tasks.{good_by}
use Rattle.zio_trace.specs.TreeOrders.{Pairs}
use Rattle.zio_trace.proofs.BlockPieces.{CopiesApart as PiecesApart}
use Rattle.zio_trace.proofs.CopiesLemmas.{copies_follow}
use Rattle.zio_trace.proofs.ListLemmas.{all_lists}
use Rattle.zio_trace.proofs.OwnBlocks.{block_apart, piece_own}
use Rattle.zio_trace.proofs.PairLemmas.{all_of, flat_contains}
use Rattle.zio_trace.proofs.SeparateLemmas.{pieces_among}
use Rattle.zio_trace.proofs.SpotLemmas.{AllInside, NoneTouch, touch_turned}
use Rattle.zio_heal.specs.Contents.{EachPiece, IsHeld}
use Rattle.zio_heal.specs.Copies.{IsPastFaults}
use Rattle.zio_heal.specs.Pools.{IsPool}
use Rattle.zio_heal.proofs.CopyLemmas.{reads_keep}
use Rattle.zio_heal.proofs.FoundLemmas.{found_law}
use Rattle.zio_heal.proofs.HeldLemmas.{elsewhere, have_room, lie_on}
use Rattle.zio_heal.proofs.ReadsInTurn.{AllHave, AreGoodReads, Has, IsReadWell, all_have, read_copies, read_well}
use Rattle.zio_heal.proofs.WrittenPieces.{AreUsable}

-- what is known of the pieces of a sound block
pub sound_pieces : (s : Setting) (used : List Place) (tree : Tree) → IsOwnBlock (sizes_of s.tops) used tree → AllByRecursion (λ (c : Copies). AreUsable s c.len c.places) (copies_of tree)
sound_pieces s used tree own =
    let among : AllByRecursion (λ (x : Piece). Contains (tree_pointers tree) x.pointer) (pieces_of tree) = pieces_among tree in
    let inside : AllByRecursion (λ (c : Copies). AllInside s c.places) (copies_of tree) =
    copies_follow (λ len places. AllInside s places) tree
    (all_weaker (λ (x : Piece). Contains (tree_pointers tree) x.pointer) (λ (x : Piece). AllInside s (places_of x.pointer)) (pieces_of tree)
    (λ x k. all_of (λ (p : Place). IsTrue (is_inside (sizes_of s.tops) p)) (places_of x.pointer)
    (λ p c. all_contains (λ (q : Place). IsTrue (is_inside (sizes_of s.tops) q)) (tree_places tree) p own.sound.inside (flat_contains places_of (tree_pointers tree) x.pointer p k c))) among) in
    let room : AllByRecursion (λ (c : Copies). HaveRoomFor c.len c.places) (copies_of tree) = copies_follow (λ len places. HaveRoomFor len places) tree own.sound.room in
    all_of (λ (c : Copies). AreUsable s c.len c.places) (copies_of tree)
    (λ c listed. record {
      inside = all_contains (λ (x : Copies). AllInside s x.places) (copies_of tree) c inside listed;
      room = all_contains (λ (x : Copies). HaveRoomFor x.len x.places) (copies_of tree) c room listed;
      own = piece_own s tree own.sound.inside own.own c listed;
    })

module _ (s : Setting) (sizes : ℕ → ℕ) (pool : IsPool sizes s.tops) where
  fits : (places : List Place) (images : Images) → AllInside s places → HaveSizes sizes images → FitSpots (spots_of s places) images
  fits places images inside have =
      all_weaker (λ (u : Spot). u.at + u.span ≤ sizes u.leaf) (λ (u : Spot). u.at + u.span ≤ length (image_of images u.leaf)) (spots_of s places)
      (λ u on. let is : length (image_of images u.leaf) ≡ sizes u.leaf = have u.leaf in omega arith) (lie_on s sizes pool places inside)

  -- a read of other copies keeps a piece
  held_beside : (images : Images) (c d : Copies) (bytes : List ℕ) → AllInside s c.places → AreUsable s d.len d.places → NoneTouch c.places d.places → HaveSizes sizes images → IsHeld s images d bytes → IsHeld s (read_copies s images c).images d bytes
  held_beside images c d bytes inside apart none have h = record {
    is_good = h.is_good;
    copy =
        reads_keep s true (good_by c.test) c.len c.places (spots_of s d.places) bytes images (fits c.places images inside have)
        (subst (λ (n : ℕ). HaveRoom n (spots_of s d.places)) (sym h.is_good.size) (have_room s sizes pool d.len d.places apart))
        (elsewhere s sizes pool d.places c.places (touch_turned c.places d.places none)) h.copy;
  }

  sized : (images : Images) (c : Copies) → AllInside s c.places → HaveSizes sizes images → HaveSizes sizes (read_copies s images c).images
  sized images c inside have leaf = (reads_law s true (good_by c.test) images c.len c.places (fits c.places images inside have)).sizes leaf ∙ have leaf

  all_good : (cs : List Copies) (images : Images) → IsPastFaults s → HaveSizes sizes images → AllByRecursion (λ (c : Copies). AreUsable s c.len c.places) cs → Pairs PiecesApart cs → AllHave (IsHeld s images) cs → AreGoodReads s cs images
  all_good [] images past have apart pairs held = tt
  all_good (c ∷ cs) images past have apart pairs held =
      let bytes : List ℕ = held.0.bytes in
      let h : IsHeld s images c bytes = held.0.holds in
      let now : Images = (read_copies s images c).images in (
        subst (λ (n : ℕ). IsOk (read_block s true (good_by c.test) images n c.places).found) h.is_good.size (found_law s true (good_by c.test) images bytes c.places past h.copy h.is_good.good),
        all_good cs now past (sized images c apart.0.inside have) apart.1 pairs.1
            (all_lists (Has (IsHeld s images)) (λ (d : Copies). AreUsable s d.len d.places × PiecesApart c d) (Has (IsHeld s now)) cs
            (λ d k a. record { bytes = k.bytes; holds = held_beside images c d k.bytes apart.0.inside a.0 a.1 have k.holds }) held.1
            (all_lists (λ (d : Copies). AreUsable s d.len d.places) (PiecesApart c) (λ (d : Copies). AreUsable s d.len d.places × PiecesApart c d) cs (λ d a b. (a, b)) apart.1 pairs.0)),
      )

  pub well_law : (used : List Place) (tree : Tree) (content : List ℕ) (images : Images) → IsPastFaults s → IsOwnBlock (sizes_of s.tops) used tree → HaveSizes sizes images → EachPiece (IsHeld s images) tree content → IsReadWell s tree images
  well_law used tree content images past own have h =
      read_well s (IsHeld s images) tree content images h
      (all_good (copies_of tree) images past have (sound_pieces s used tree own) (block_apart s tree own.sound.inside own.own) (all_have (IsHeld s images) tree content h))

pub read_law : (s : Setting) (sizes : ℕ → ℕ) (used : List Place) (tree : Tree) (content : List ℕ) (images : Images) → IsPool sizes s.tops → IsPastFaults s → IsOwnBlock (sizes_of s.tops) used tree → HaveSizes sizes images → EachPiece (IsHeld s images) tree content → IsOk (read_tree s tree images).found
read_law s sizes used tree content images pool past own have h = (well_law s sizes pool used tree content images past own have h).read

pub free_law : (s : Setting) (sizes : ℕ → ℕ) (used : List Place) (tree : Tree) (content : List ℕ) (images : Images) → IsPool sizes s.tops → IsPastFaults s → IsOwnBlock (sizes_of s.tops) used tree → HaveSizes sizes images → EachPiece (IsHeld s images) tree content → (free_tree s tree images).error ≡ None
free_law s sizes used tree content images pool past own have h = (well_law s sizes pool used tree content images past own have h).free
