-- Trees over different blocks don't conflict.
use Rattle.std.proofs.Common.{◌≡◌, ◌≢◌, map, ℕ, zero, suc, ◌+◌, List, [], ◌∷◌, ◌++◌, Bool, true, false, cond, bytes_eq, find, Option, Some, None, option_map, IfSome, IsTrue, Contains, ◌⊎◌, inl, inr, ⊎_elim, refl, sym, ◌∙◌, subst, arith}
use Rattle.std.specs.List.{AllByRecursion, flat_map}
use Rattle.std.specs.Prelude.{IsPermutation}
use Rattle.zio_types.specs.declared.place.Place.{Place}
use Rattle.zio_types.specs.Choices.{Ask, Choice}
use Rattle.zio_types.specs.Places.{is_inside, meets}
use Rattle.zio_blkptr.specs.declared.pointer.Bp.{Bp}
use Rattle.zio_blkptr.specs.Pointers.{places_of}
use Rattle.zio_script.specs.declared.script.Work.{Work}
use Rattle.zio_script.specs.declared.script.Work.TheVariants.{Null, Read as WorkRead, Write, Free, Claim}
use Rattle.zio_cksum.specs.Frames.{spots_of}
use Rattle.zio_cksum.specs.Headers.{members_of}
use Rattle.zio_cksum.specs.Images.{Images}
use Rattle.zio_cksum.proofs.AllLemmas.{all_append, all_contained, all_contains, all_parts, all_true, all_weaker}
use Rattle.zio_gang.specs.declared.tree.Head.{Head}
use Rattle.zio_gang.specs.declared.tree.Tree.{Tree}
use Rattle.zio_gang.specs.Attempts.{Terms, Pending}
use Rattle.zio_gang.specs.Rounds.{settle_each}
use Rattle.zio_gang.specs.Pieces.{Parts, Piece, below_piece, head_piece, members_kept, no_parts, parts_from, parts_if, parts_of, parts_of_members, pieces_of}
use Rattle.zio_gang.specs.Trees.{header_levels_max, kept_at, sizes_of, tree_places, tree_pointers}
use Rattle.zio_gang.specs.Writes.{chosen}
use Rattle.zio_trace.specs.BlockCopies.{Copies, copies_of}
use Rattle.zio_trace.specs.Conflicts.{TaskLies, TasksApart}
use Rattle.zio_trace.specs.Footprints.{OfBlock, OfPart, OfRequest, OfWork, OnCopies, OnOneOf}
use Rattle.zio_trace.specs.Leaves.{IsAmong, LeafOp, HaveSizes}
use Rattle.zio_trace.specs.Separate.{AreOverDifferentBlocks, AreSeparate, BlocksApart, HaveRoomFor, IsNoClaim, IsSoundBlock, IsSoundRequest, LeavesHold, LeavesOnce, NoneMeet, requests_in}
use Rattle.zio_trace.specs.Tasks.{Find, Leaf, Task}
use Rattle.zio_trace.specs.TreeOrders.{Pairs, Root, TreeLies, TreesApart, AreAlike, IsTree, flat_root}
use Rattle.zio_trace.proofs.ChoiceLemmas.{Answers, IsPlaced, answers_in_round, chosen_apart, chosen_placed}
use Rattle.zio_trace.proofs.LeafLemmas.{apart_sym}
use Rattle.zio_trace.proofs.CopiesLemmas.{copies_follow}
use Rattle.zio_trace.proofs.ListLemmas.{all_front, all_lists, all_rest, contains_first, contains_later}
use Rattle.zio_trace.proofs.PlaceLemmas.{blocks_apart, copies_lie}
use Rattle.zio_trace.proofs.TreeOrderLemmas.{trees_in_any_order}

-- ---- the pointers of a block's pieces

module _ (all : List Bp) (heads : List Head) (known : AllByRecursion (λ (h : Head). AllByRecursion (Contains all) (members_of h.bytes)) heads) where
  kept_if : (b : Bool) (h : Head) (rest : Option Head) → AllByRecursion (Contains all) (members_of h.bytes) → AllByRecursion (Contains all) (members_kept (option_map (λ (x : Head). x.bytes) rest))
      → AllByRecursion (Contains all) (members_kept (option_map (λ (x : Head). x.bytes) (cond b (Some h) rest)))
  kept_if true h rest mine others = mine
  kept_if false h rest mine others = others

  kept_known : (hs : List Head) (path : List ℕ) → AllByRecursion (λ (h : Head). AllByRecursion (Contains all) (members_of h.bytes)) hs → AllByRecursion (Contains all) (members_kept (kept_at hs path))
  kept_known [] path k = tt
  kept_known (h ∷ hs) path k = kept_if (bytes_eq h.path path) h (find (λ (x : Head). bytes_eq x.path path) hs) k.0 (kept_known hs path k.1)

  abbrev Among : List Piece → Type 0
  Among xs = AllByRecursion (λ (x : Piece). Contains all x.pointer) xs

  abbrev BothAmong : Parts → Type 0
  BothAmong parts = Among parts.heads × Among parts.bodies

  if_among : (gang : Bool) (bp : Bp) (parts : Parts) → Contains all bp → BothAmong parts → BothAmong (parts_if gang bp parts)
  if_among true bp parts c h = h
  if_among false bp parts c h = (tt, (c, tt))

  members_among : (parts : List ℕ → Bp → Parts) → ((path : List ℕ) (bp : Bp) → Contains all bp → BothAmong (parts path bp)) → (path : List ℕ) (n : ℕ) (ms : List Bp) → AllByRecursion (Contains all) ms → BothAmong (parts_of_members parts path n ms)
  members_among parts one path n [] k = (tt, tt)
  members_among parts one path n (m ∷ ms) k =
      let first = one (path ++ n ∷ []) m k.0 in
      let rest = members_among parts one path (n + 1) ms k.1 in
      (all_append _ (parts (path ++ n ∷ []) m).heads (parts_of_members parts path (n + 1) ms).heads first.0 rest.0, all_append _ (parts (path ++ n ∷ []) m).bodies (parts_of_members parts path (n + 1) ms).bodies first.1 rest.1)

  from_among : (levels : ℕ) (path : List ℕ) (bp : Bp) → Contains all bp → BothAmong (parts_from levels heads path bp)
  unfolding parts_from
  from_among zero path bp c = if_among bp.gang bp no_parts c (tt, tt)
  from_among (suc levels) path bp c =
      let below : Parts = parts_of_members (parts_from levels heads) path 0 (members_kept (kept_at heads path)) in
      let b = members_among (parts_from levels heads) (from_among levels) path 0 (members_kept (kept_at heads path)) (kept_known heads path known) in
      if_among bp.gang bp (below_piece (head_piece heads path bp) below) c ((c, b.0), b.1)

-- the pointers of a block's pieces are its own and those of members in its headers
pub pieces_among : (tree : Tree) → AllByRecursion (λ (x : Piece). Contains (tree_pointers tree) x.pointer) (pieces_of tree)
pieces_among tree =
    let members : List Bp = flat_map (λ (h : Head). members_of h.bytes) tree.heads in
    let known : AllByRecursion (λ (h : Head). AllByRecursion (Contains (tree_pointers tree)) (members_of h.bytes)) tree.heads =
    all_weaker (λ (h : Head). AllByRecursion (Contains members) (members_of h.bytes)) _ tree.heads
    (λ h k. all_weaker (Contains members) (Contains (tree_pointers tree)) (members_of h.bytes) (λ m c. contains_later tree.bp members m c) k)
    (all_parts (λ (h : Head). members_of h.bytes) tree.heads) in
    let both = from_among (tree_pointers tree) tree.heads known header_levels_max [] tree.bp (contains_first tree.bp members) in
    all_append _ (parts_of tree).heads (parts_of tree).bodies both.0 both.1

all_unflat : {X Y : Type 0} (P : Y → Type 0) (f : X → List Y) (xs : List X) → AllByRecursion P (flat_map f xs) → AllByRecursion (λ (x : X). AllByRecursion P (f x)) xs
all_unflat P f [] h = tt
all_unflat P f (x ∷ xs) h = (all_front P (f x) (flat_map f xs) h, all_unflat P f xs (all_rest P (f x) (flat_map f xs) h))

-- what holds of a block's places holds of those of each piece
pub copies_places : (P : Place → Type 0) (tree : Tree) (c : Copies) → AllByRecursion P (tree_places tree) → Contains (copies_of tree) c → AllByRecursion P c.places
copies_places P tree c h is =
    all_contains (λ (x : Copies). AllByRecursion P x.places) (copies_of tree) c
    (copies_follow (λ len places. AllByRecursion P places) tree
    (all_weaker (λ (x : Piece). Contains (tree_pointers tree) x.pointer) (λ (x : Piece). AllByRecursion P (places_of x.pointer)) (pieces_of tree)
    (λ x k. all_contains (λ (b : Bp). AllByRecursion P (places_of b)) (tree_pointers tree) x.pointer (all_unflat P places_of (tree_pointers tree) h) k) (pieces_among tree))) is

-- ---- what a request touches

module _ (j : List Choice) (t : Terms) where
  abbrev pub Inside : Place → Type 0
  Inside p = IsTrue (is_inside (sizes_of t.setting.tops) p)

  -- the places of its block, or those that the journal has for one of its keys
  abbrev pub Origin : Pending → List Place → Type 0
  Origin p places =
      ((tree : Tree) × (p.block ≡ Some tree) × AllByRecursion (Contains (tree_places tree)) places)
      ⊎ ((a : Ask) × (a.key.round ≡ t.round) × (a.key.request ≡ p.request.number) × (chosen j a ≡ Some places))

  pub record Touches (p : Pending) (op : LeafOp) : Type 0 where
    pub places : List Place
    pub len : ℕ
    pub among : IsAmong (spots_of t.setting places) len op
    pub inside : AllByRecursion Inside places
    pub room : HaveRoomFor len places
    pub origin : Origin p places

  abbrev pub TouchesIn : Pending → Task → Type 0
  TouchesIn p (Leaf op) = Touches p op
  TouchesIn p (Find a) = Unit {0}
  TouchesIn p _ = ⊥

  piece_touches : (p : Pending) (tree : Tree) → p.block ≡ Some tree → IsSoundBlock (sizes_of t.setting.tops) t.used tree → (d : Task) → OnOneOf (OnCopies t.setting) (copies_of tree) d → TouchesIn p d
  piece_touches p tree is sound (Leaf op) h = record {
    places = h.0.places;
    len = h.0.len;
    among = h.2;
    inside = copies_places Inside tree h.0 sound.inside h.1;
    room = all_contains (λ (c : Copies). HaveRoomFor c.len c.places) (copies_of tree) h.0 (copies_follow HaveRoomFor tree sound.room) h.1;
    origin = inl (tree, is, copies_places (Contains (tree_places tree)) tree h.0 (all_contained (tree_places tree)) h.1);
  }
  piece_touches p tree is sound _ h = absurd h.2

  block_touches : (p : Pending) (block : Option Tree) → p.block ≡ block → IfSome block (λ (tree : Tree). IsSoundBlock (sizes_of t.setting.tops) t.used tree) → (d : Task) → OfBlock (OnCopies t.setting) block d → TouchesIn p d
  block_touches p None is sound d h = absurd h
  block_touches p (Some tree) is sound d h = piece_touches p tree is sound d h

  abbrev pub Lawful : Type 0
  Lawful = Answers j (sizes_of t.setting.tops) t.used t.round

  part_touches : Lawful → (p : Pending) (attempt : ℕ) (d : Task) → OfPart j t p.request.number attempt [] d → TouchesIn p d
  part_touches lawful p attempt (Find a) h = tt
  part_touches lawful p attempt (Leaf op) h =
      let placed : AllByRecursion (IsPlaced (sizes_of t.setting.tops) t.used) h.1 = chosen_placed j (sizes_of t.setting.tops) t.used t.round lawful h.0 h.1 h.2.now h.3 in
      record {
        places = h.1;
        len = 0;
        among = h.4;
        inside = all_weaker (IsPlaced (sizes_of t.setting.tops) t.used) Inside h.1 (λ p k. k.1) placed;
        room = all_true _ h.1 (λ p. omega arith);
        origin = inr (h.0, h.2.now, h.2.by, h.3);
      }
  part_touches lawful p attempt _ h = absurd h

  work_touches : Lawful → (p : Pending) → IfSome p.block (λ (tree : Tree). IsSoundBlock (sizes_of t.setting.tops) t.used tree) → (work : Work) → IsNoClaim work → (d : Task) → OfWork (OnCopies t.setting) j t p work d → TouchesIn p d
  work_touches lawful p sound Null none d h = absurd h
  work_touches lawful p sound (WorkRead name prio) none d h = block_touches p p.block refl sound d h
  work_touches lawful p sound (Write name sum copies prio body) none d h = part_touches lawful p h.0 d h.1
  work_touches lawful p sound (Free name) none d h = block_touches p p.block refl sound d h
  work_touches lawful p sound (Claim name pointer) none d h = absurd none

  -- ---- two requests

  in_use : (p : Pending) (tree : Tree) (places : List Place) → p.block ≡ Some tree → IsSoundRequest t p → AllByRecursion (Contains (tree_places tree)) places → AllByRecursion (Contains t.used) places
  in_use p tree places is sound h =
      let block : IsSoundBlock (sizes_of t.setting.tops) t.used tree = subst (λ (b : Option Tree). IfSome b (λ (x : Tree). IsSoundBlock (sizes_of t.setting.tops) t.used x)) is sound.block in
      all_weaker (Contains (tree_places tree)) (Contains t.used) places (λ q c. all_contains (Contains t.used) (tree_places tree) q block.in_use c) h

  -- places that are free beside those in use meet none of them
  free_meets : (ps qs : List Place) → AllByRecursion (IsPlaced (sizes_of t.setting.tops) t.used) ps → AllByRecursion (Contains t.used) qs → NoneMeet ps qs
  free_meets ps qs h k =
      all_weaker (IsPlaced (sizes_of t.setting.tops) t.used) (λ (p : Place). AllByRecursion (λ (q : Place). meets p q ≡ false) qs) ps
      (λ p placed. all_weaker (Contains t.used) (λ (q : Place). meets p q ≡ false) qs (λ q c. all_contains (λ (r : Place). meets p r ≡ false) t.used q placed.0 c) k) h

  blocks_meet : (x y : Tree) (ps qs : List Place) → NoneMeet (tree_places x) (tree_places y) → AllByRecursion (Contains (tree_places x)) ps → AllByRecursion (Contains (tree_places y)) qs → NoneMeet ps qs
  blocks_meet x y ps qs none hp hq =
      all_weaker (Contains (tree_places x)) (λ (p : Place). AllByRecursion (λ (q : Place). meets p q ≡ false) qs) ps
      (λ p cp. all_weaker (Contains (tree_places y)) (λ (q : Place). meets p q ≡ false) qs
      (λ q cq. all_contains (λ (r : Place). meets p r ≡ false) (tree_places y) q (all_contains (λ (r : Place). AllByRecursion (λ (o : Place). meets r o ≡ false) (tree_places y)) (tree_places x) p none cp) cq) hq) hp

  apart_blocks : (b c : Option Tree) (x y : Tree) → b ≡ Some x → c ≡ Some y → BlocksApart b c → NoneMeet (tree_places x) (tree_places y)
  apart_blocks b c x y eb ec h = subst (λ (o : Option Tree). BlocksApart (Some x) o) ec (subst (λ (o : Option Tree). BlocksApart o c) eb h)

  origins_apart : Lawful → (p q : Pending) (ps qs : List Place) → IsSoundRequest t p → IsSoundRequest t q → p.request.number ≢ q.request.number → BlocksApart p.block q.block → Origin p ps → Origin q qs → NoneMeet ps qs ⊎ NoneMeet qs ps
  origins_apart lawful p q ps qs sp sq ne blocks (inl x) (inl y) = inl (blocks_meet x.0 y.0 ps qs (apart_blocks p.block q.block x.0 y.0 x.1 y.1 blocks) x.2 y.2)
  origins_apart lawful p q ps qs sp sq ne blocks (inl x) (inr b) =
      inr (free_meets qs ps (chosen_placed j (sizes_of t.setting.tops) t.used t.round lawful b.0 qs b.1 b.3) (in_use p x.0 ps x.1 sp x.2))
  origins_apart lawful p q ps qs sp sq ne blocks (inr a) (inl y) =
      inl (free_meets ps qs (chosen_placed j (sizes_of t.setting.tops) t.used t.round lawful a.0 ps a.1 a.3) (in_use q y.0 qs y.1 sq y.2))
  origins_apart lawful p q ps qs sp sq ne blocks (inr a) (inr b) =
      chosen_apart j (sizes_of t.setting.tops) t.used t.round lawful a.0 b.0 ps qs a.1 b.1 (λ e. ne (sym a.2 ∙ e.request ∙ b.2)) a.3 b.3

  pub touches_apart : Lawful → LeavesOnce t.setting.tops → (p q : Pending) → IsSoundRequest t p → IsSoundRequest t q → p.request.number ≢ q.request.number → BlocksApart p.block q.block → (d e : Task) → TouchesIn p d → TouchesIn q e → TasksApart d e
  touches_apart lawful once p q sp sq ne blocks (Leaf a) (Leaf b) x y =
      ⊎_elim
      (λ (none : NoneMeet x.places y.places). blocks_apart t.setting x.places y.places x.len y.len a b once x.inside y.inside none x.among y.among)
      (λ (none : NoneMeet y.places x.places). apart_sym b a (blocks_apart t.setting y.places x.places y.len x.len b a once y.inside x.inside none y.among x.among))
      (origins_apart lawful p q x.places y.places sp sq ne blocks x.origin y.origin)
  touches_apart lawful once p q sp sq ne blocks (Leaf a) (Find b) x y = tt
  touches_apart lawful once p q sp sq ne blocks (Find a) (Leaf b) x y = tt
  touches_apart lawful once p q sp sq ne blocks (Find a) (Find b) x y = tt
  touches_apart lawful once p q sp sq ne blocks (Leaf a) _ x y = absurd y
  touches_apart lawful once p q sp sq ne blocks (Find a) _ x y = absurd y
  touches_apart lawful once p q sp sq ne blocks _ _ x y = absurd x

  pub request_touches : Lawful → (p : Pending) → IsSoundRequest t p → (d : Task) → OfRequest j t p d → TouchesIn p d
  request_touches lawful p sound d h = work_touches lawful p sound.block p.request.work sound.no_claim d h

  -- ---- two trees

  pub separate_apart : Lawful → LeavesOnce t.setting.tops → (a b : Root) → AllByRecursion (IsSoundRequest t) (requests_in a) → AllByRecursion (IsSoundRequest t) (requests_in b) → AreOverDifferentBlocks a b → TreesApart j t a b
  separate_apart lawful once a b sa sb different d e hd he =
      let p : Pending = hd.0 in
      let q : Pending = he.0 in
      let sp : IsSoundRequest t p = all_contains (IsSoundRequest t) (requests_in a) p sa hd.1 in
      let sq : IsSoundRequest t q = all_contains (IsSoundRequest t) (requests_in b) q sb he.1 in
      let two : (p.request.number ≢ q.request.number) × BlocksApart p.block q.block =
      all_contains (λ (y : Pending). (p.request.number ≢ y.request.number) × BlocksApart p.block y.block) (requests_in b) q
      (all_contains (λ (x : Pending). AllByRecursion (λ (y : Pending). (x.request.number ≢ y.request.number) × BlocksApart x.block y.block) (requests_in b)) (requests_in a) p different hd.1) he.1 in
      touches_apart lawful once p q sp sq two.0 two.1 d e (request_touches lawful p sp d hd.2) (request_touches lawful q sq e he.2)

  pub touches_lie : (sizes : ℕ → ℕ) → LeavesHold sizes t.setting.tops → (p : Pending) (d : Task) → TouchesIn p d → TaskLies sizes d
  touches_lie sizes hold p (Leaf op) x = copies_lie t.setting sizes x.len x.places op hold x.inside x.room x.among
  touches_lie sizes hold p (Find a) x = tt
  touches_lie sizes hold p _ x = absurd x

  pub separate_lies : (sizes : ℕ → ℕ) → Lawful → LeavesHold sizes t.setting.tops → (a : Root) → AllByRecursion (IsSoundRequest t) (requests_in a) → TreeLies j t sizes a
  separate_lies sizes lawful hold a sa d single hd =
      let sp : IsSoundRequest t hd.0 = all_contains (IsSoundRequest t) (requests_in a) hd.0 sa hd.1 in
      touches_lie sizes hold hd.0 d (request_touches lawful hd.0 sp d hd.2)

all_apart : (j : List Choice) (t : Terms) → Answers j (sizes_of t.setting.tops) t.used t.round → LeavesOnce t.setting.tops → (trees : List Root) → AllByRecursion (λ (r : Root). AllByRecursion (IsSoundRequest t) (requests_in r)) trees → Pairs AreOverDifferentBlocks trees → Pairs (TreesApart j t) trees
all_apart j t lawful once [] sound different = tt
all_apart j t lawful once (a ∷ trees) sound different = (
  all_lists (λ (r : Root). AllByRecursion (IsSoundRequest t) (requests_in r)) (AreOverDifferentBlocks a) (TreesApart j t a) trees
      (λ b sb d. separate_apart j t lawful once a b sound.0 sb d) sound.1 different.0,
  all_apart j t lawful once trees sound.1 different.1,
)

-- Trees over different blocks may be run in any order.
pub separate_trees_in_any_order : (j : List Choice) (t : Terms) (sizes : ℕ → ℕ) (trees others : List Root) (images : Images) → IsPermutation trees others → AllByRecursion IsTree trees → AreSeparate j t sizes trees → HaveSizes sizes images
    → AreAlike (settle_each j t (map flat_root trees) images) (settle_each j t (map flat_root others) images)
separate_trees_in_any_order j t sizes trees others images perm are separate have =
    let lawful : Answers j (sizes_of t.setting.tops) t.used t.round = answers_in_round j (sizes_of t.setting.tops) t.used t.round separate.lawful in
    trees_in_any_order j t sizes trees others images perm are (all_apart j t lawful separate.once trees separate.sound separate.different)
    (all_weaker (λ (r : Root). AllByRecursion (IsSoundRequest t) (requests_in r)) (TreeLies j t sizes) trees (λ r sound. separate_lies j t sizes lawful separate.hold r sound) separate.sound) have
