-- The pieces of a block of a round don't touch each other, nor do those below two members of a gang.
use Rattle.std.proofs.Common.{◌≡◌, ◌≢◌, ℕ, List, [], ◌∷◌, ◌++◌, true, false, Some, Contains, ◌⊎◌, ⊎_elim, ap, subst}
use Rattle.std.proofs.lemmas.Bool.{and_parts}
use Rattle.std.specs.List.{flat_map}
use Rattle.zio_types.specs.declared.place.Place.{Place}
use Rattle.zio_types.specs.Places.{are_apart, is_free, meets}
use Rattle.zio_blkptr.specs.declared.pointer.Bp.{Bp}
use Rattle.zio_blkptr.specs.Pointers.{places_of}
use Rattle.zio_cksum.specs.Headers.{members_of}
use Rattle.zio_cksum.specs.Images.{Setting}
use Rattle.zio_cksum.proofs.AllLemmas.{all_contains, all_weaker}
use Rattle.zio_gang.specs.declared.tree.Head.{Head}
use Rattle.zio_gang.specs.declared.tree.Tree.{Tree}
use Rattle.zio_gang.specs.Pieces.{Piece, pieces_of}
use Rattle.zio_gang.specs.Trees.{header_levels_max, kept_at, tree_places, tree_pointers}
use Rattle.zio_trace.specs.BlockCopies.{Copies, copies_from, copies_of, groups_of}
use Rattle.zio_trace.specs.TreeOrders.{Pairs}
use Rattle.zio_trace.specs.Views.{nth}
use Rattle.zio_trace.proofs.BlockPieces.{AtOrBelow, Below, CopiesApart, GroupsApart, IsKept, across, forks_clear, from_apart, from_within, kept_head, member_places}
use Rattle.zio_trace.proofs.ChoiceLemmas.{meets_none}
use Rattle.zio_trace.proofs.CopiesLemmas.{copies_follow}
use Rattle.zio_trace.proofs.PairLemmas.{Across, contains_flat, flat_contains, nth_contained, pairs_append, pairs_each, pairs_lists, pairs_nth, pairs_stronger, pairs_two}
use Rattle.zio_trace.proofs.PlaceLemmas.{DontMeet, inside_dont}
use Rattle.zio_trace.proofs.SeparateLemmas.{pieces_among}
use Rattle.zio_trace.proofs.SpotLemmas.{AllInside, NoneTouch, touch_turned}

apart_pairs : (ps : List Place) → are_apart ps ≡ true → Pairs (λ (p q : Place). meets p q ≡ false) ps
apart_pairs [] h = tt
apart_pairs (p ∷ ps) h = let both = and_parts (is_free ps p) (are_apart ps) h in (meets_none ps p both.0, apart_pairs ps both.1)

module _ (s : Setting) (tree : Tree) (inside : AllInside s (tree_places tree)) (own : are_apart (tree_places tree) ≡ true) where
  abbrev PointersApart : Bp → Bp → Type 0
  PointersApart m n = NoneTouch (places_of m) (places_of n)

  abbrev members : Head → List Bp
  members h = members_of h.bytes

  all_places : Pairs DontMeet (tree_places tree)
  all_places =
      pairs_stronger DontMeet (λ (p q : Place). meets p q ≡ false) (tree_places tree)
      (λ p q cp cq none. inside_dont s p q (all_contains _ (tree_places tree) p inside cp) (all_contains _ (tree_places tree) q inside cq) none)
      (apart_pairs (tree_places tree) own)

  pointers : Pairs PointersApart (tree_pointers tree)
  pointers = pairs_lists DontMeet places_of (tree_pointers tree) all_places

  -- the places of one piece
  pub piece_own : (c : Copies) → Contains (copies_of tree) c → Pairs DontMeet c.places
  piece_own c is =
      all_contains (λ (x : Copies). Pairs DontMeet x.places) (copies_of tree) c
      (copies_follow (λ len places. Pairs DontMeet places) tree
      (all_weaker (λ (x : Piece). Contains (tree_pointers tree) x.pointer) (λ (x : Piece). Pairs DontMeet (places_of x.pointer)) (pieces_of tree)
      (λ x k. all_contains (λ (b : Bp). Pairs DontMeet (places_of b)) (tree_pointers tree) x.pointer (pairs_each DontMeet places_of (tree_pointers tree) all_places) k) (pieces_among tree))) is

  members_touch : (h k : Head) → Across PointersApart members h k → NoneTouch (member_places h) (member_places k)
  members_touch h k f p q cp cq =
      let m = contains_flat places_of (members h) p cp in
      let n = contains_flat places_of (members k) q cq in
      f m.0 n.0 m.1 n.1 p q m.2 n.2

  pub others : (h k : Head) → Contains tree.heads h → Contains tree.heads k → h.path ≢ k.path → NoneTouch (member_places h) (member_places k)
  others h k ch ck ne =
      ⊎_elim
      (λ (e : h ≡ k). absurd (ne (ap (λ (x : Head). x.path) e)))
      (λ (either : Across PointersApart members h k ⊎ Across PointersApart members k h).
      ⊎_elim
      (λ (one : Across PointersApart members h k). members_touch h k one)
      (λ (two : Across PointersApart members k h). touch_turned (member_places k) (member_places h) (members_touch k h two))
      either)
      (pairs_two (Across PointersApart members) tree.heads h k (pairs_lists PointersApart members tree.heads pointers.1) ch ck)

  pub each_own : (h : Head) → Contains tree.heads h → Pairs PointersApart (members_of h.bytes)
  each_own h c = all_contains (λ (x : Head). Pairs PointersApart (members x)) tree.heads h (pairs_each PointersApart members tree.heads pointers.1) c

  root_clear : (p q : Place) → Contains (places_of tree.bp) p → Below tree.heads others each_own [] q → DontMeet p q
  root_clear p q cp b =
      let m = contains_flat places_of (members b.head) q b.place in
      all_contains (PointersApart tree.bp) (flat_map members tree.heads) m.0 pointers.0 (flat_contains members tree.heads b.head m.0 b.listed m.1) p q cp m.2

  groups_apart : GroupsApart (groups_of tree)
  groups_apart = from_apart tree.heads others each_own header_levels_max [] tree.bp root_clear

  pub block_apart : Pairs CopiesApart (copies_of tree)
  block_apart = pairs_append CopiesApart (groups_of tree).heads (groups_of tree).bodies groups_apart.heads groups_apart.bodies groups_apart.both

  pub bodies_apart : Pairs CopiesApart (groups_of tree).bodies
  bodies_apart = groups_apart.bodies

  -- what is below two members of a header
  pub walks_apart : (levels more : ℕ) (path bytes : List ℕ) (i k : ℕ) (m n : Bp) (c d : Copies) → kept_at tree.heads path ≡ Some bytes → nth i (members_of bytes) ≡ Some m → nth k (members_of bytes) ≡ Some n → i ≢ k
      → Contains (copies_from levels tree.heads (path ++ i ∷ []) m).heads c → Contains (copies_from more tree.heads (path ++ k ∷ []) n).heads d → CopiesApart c d
  walks_apart levels more path bytes i k m n c d e em en ne cc dd =
      let kept : IsKept tree.heads path bytes = kept_head tree.heads path bytes e in
      let pairs : Pairs PointersApart (members_of bytes) = subst (λ (b : List ℕ). Pairs PointersApart (members_of b)) kept.is (each_own kept.head kept.listed) in
      let cm : Contains (members_of bytes) m = nth_contained i (members_of bytes) m em in
      let cn : Contains (members_of bytes) n = nth_contained k (members_of bytes) n en in
      let none : PointersApart m n =
      ⊎_elim (λ (h : PointersApart m n). h) (λ (h : PointersApart n m). touch_turned (places_of n) (places_of m) h) (pairs_nth PointersApart (members_of bytes) i k m n pairs em en ne) in
      across (AtOrBelow tree.heads others each_own (path ++ i ∷ []) m) (AtOrBelow tree.heads others each_own (path ++ k ∷ []) n)
      (copies_from levels tree.heads (path ++ i ∷ []) m).heads (copies_from more tree.heads (path ++ k ∷ []) n).heads
      (λ p q a b. forks_clear tree.heads others each_own path bytes kept m n i k p q ne cm cn none a b)
      (from_within tree.heads others each_own levels (path ++ i ∷ []) m).0 (from_within tree.heads others each_own more (path ++ k ∷ []) n).0 c d cc dd
