-- Which operations of one part of a sound round's work are free of each other.
use Rattle.std.proofs.Common.{◌≡◌, ◌≢◌, ℕ, zero, suc, List, [], ◌∷◌, ◌++◌, map, Bool, false, Some, Contains, ◌⊎◌, inl, inr, ⊎_elim, refl, sym, ap, ◌∙◌, subst}
use Rattle.std.specs.List.{AllByRecursion}
use Rattle.zio_types.specs.declared.place.Place.{Place}
use Rattle.zio_types.specs.Choices.{Ask, Choice}
use Rattle.zio_types.specs.Places.{meets}
use Rattle.zio_blkptr.specs.declared.pointer.Bp.{Bp}
use Rattle.zio_blkptr.specs.declared.pointer.SumKind.{SumKind}
use Rattle.zio_cksum.specs.Frames.{spots_of}
use Rattle.zio_cksum.specs.Headers.{members_of}
use Rattle.zio_cksum.specs.Images.{Setting, Spot}
use Rattle.zio_cksum.proofs.AllLemmas.{all_contains, all_weaker}
use Rattle.zio_gang.specs.declared.tree.Tree.{Tree}
use Rattle.zio_gang.specs.Attempts.{Pending, Terms}
use Rattle.zio_gang.specs.Trees.{kept_at, sizes_of}
use Rattle.zio_gang.specs.Writes.{chosen}
use Rattle.zio_trace.specs.BlockCopies.{Copies, body_copies, copies_of, groups_of, reading_of}
use Rattle.zio_trace.specs.Clearings.{Free}
use Rattle.zio_trace.specs.Conflicts.{TasksApart}
use Rattle.zio_trace.specs.Engines.{reach_in}
use Rattle.zio_trace.specs.Families.{Forest, NoTrees, TreeOf, flat}
use Rattle.zio_trace.specs.Footprints.{AreFrom, OfPart, OnCopies, OnSpots, ReadsHeader}
use Rattle.zio_trace.specs.Keys.{NumbersOnce}
use Rattle.zio_trace.specs.Leaves.{AreClear, Store, spot_of}
use Rattle.zio_trace.specs.SoundRounds.{DifferentNumbers, IsBlockIn, IsOwnBlock, IsSoundRound, nth_tree, repairs_after, shared_in}
use Rattle.zio_trace.specs.Tasks.{Attempt, ByClaim, ByKept, Find, Leaf, ReadHeads, Task, WriteCopies, WritePart}
use Rattle.zio_trace.specs.TreeOrders.{Pairs, Root}
use Rattle.zio_trace.specs.Underway.{part_of}
use Rattle.zio_trace.specs.Views.{nth}
use Rattle.zio_trace.proofs.BlockPieces.{CopiesApart, forks_differ, longer_differs}
use Rattle.zio_trace.proofs.ChoiceLemmas.{Answers, IsPlaced, MeetsNone, chosen_apart, chosen_own, chosen_placed}
use Rattle.zio_trace.proofs.FreeLemmas.{parts_free, stores_free}
use Rattle.zio_trace.proofs.OwnBlocks.{bodies_apart, piece_own, walks_apart}
use Rattle.zio_trace.proofs.PairLemmas.{all_of, pairs_nth, pairs_stronger, pairs_two}
use Rattle.zio_trace.proofs.PathLemmas.{SameParts}
use Rattle.zio_trace.proofs.PlaceLemmas.{DontMeet, inside_dont}
use Rattle.zio_trace.proofs.RoundLemmas.{tasks_commute}
use Rattle.zio_trace.proofs.SoundLemmas.{own_of, trees_together}
use Rattle.zio_trace.proofs.SoundRoundLemmas.{first_differs, first_tree, other_trees, others_once}
use Rattle.zio_trace.proofs.SpotLemmas.{AllInside, NoneTouch, clear_turned, dont_turned, none_touch, own_spots, repairs_differ, spots_clear, touch_turned}

-- ---- attempts

from_some : (ps qs rs : List Pending) → ((q : Pending) → Contains rs q → Contains qs q) → AreFrom ps qs → AreFrom ps rs
from_some ps qs rs f h = all_of _ rs (λ q c. all_contains _ qs q h (f q c))

nth_in : (n : ℕ) (g : Forest) (a : Root) → nth_tree n g ≡ Some a → (q : Pending) → Contains (a.p ∷ flat a.kids) q → Contains (flat g) q
nth_in n NoTrees a e q c = absurd (cc)
nth_in zero (TreeOf p kids others) a e q c =
    let is : record { p = p; kids = kids } ≡ a = cc in
    first_tree p kids others q (subst (λ (r : Root). Contains (r.p ∷ flat r.kids) q) (sym is) c)
nth_in (suc n) (TreeOf p kids others) a e q c = other_trees p kids others q (nth_in n others a e q c)

nth_differ : (n m : ℕ) (g : Forest) (a b : Root) → NumbersOnce g → nth_tree n g ≡ Some a → nth_tree m g ≡ Some b → n ≢ m → DifferentNumbers (a.p ∷ flat a.kids) (b.p ∷ flat b.kids)
nth_differ n m NoTrees a b once ea eb ne x y cx cy = absurd (cc)
nth_differ zero zero (TreeOf p kids others) a b once ea eb ne x y cx cy = absurd (ne refl)
nth_differ zero (suc m) (TreeOf p kids others) a b once ea eb ne x y cx cy =
    let is : record { p = p; kids = kids } ≡ a = cc in
    first_differs p kids others once x y (subst (λ (r : Root). Contains (r.p ∷ flat r.kids) x) (sym is) cx) (nth_in m others b eb y cy)
nth_differ (suc n) zero (TreeOf p kids others) a b once ea eb ne x y cx cy =
    let is : record { p = p; kids = kids } ≡ b = cc in
    λ same. first_differs p kids others once y x (subst (λ (r : Root). Contains (r.p ∷ flat r.kids) y) (sym is) cy) (nth_in n others a ea x cx) (sym same)
nth_differ (suc n) (suc m) (TreeOf p kids others) a b once ea eb ne x y cx cy = nth_differ n m others a b (others_once p kids others once) ea eb (λ e. ne (ap suc e)) x y cx cy

nth_mapped : (n : ℕ) (bs : List Bp) (b : Bp) → nth n bs ≡ Some b → nth n (map body_copies bs) ≡ Some (body_copies b)
nth_mapped n [] b e = absurd (cc)
nth_mapped zero (x ∷ xs) b e = let is : x ≡ b = cc in ap (λ (y : Bp). Some (body_copies y)) is
nth_mapped (suc n) (x ∷ xs) b e = nth_mapped n xs b e

module _ (t : Terms) (sizes : ℕ → ℕ) (f : Forest) (journal : List Choice) (at : List ℕ) (i k : ℕ) (round : IsSoundRound t sizes f) where
  abbrev pub shared : List Copies
  shared = shared_in t f

  abbrev pub FreeHere : Task → Task → Type 0
  FreeHere q r = Free (reach_in journal t shared) (part_of at i q) (part_of at k r)

  abbrev pub Lawful : Type 0
  Lawful = Answers journal (sizes_of t.setting.tops) t.used t.round

  pub attempts : Lawful → (attempt more : ℕ) (p q : Pending) (kids others : Forest) → i ≢ k → AreFrom (flat f) (p ∷ flat kids) → AreFrom (flat f) (q ∷ flat others) → DifferentNumbers (p ∷ flat kids) (q ∷ flat others)
      → FreeHere (Attempt attempt p kids) (Attempt more q others)
  attempts answers attempt more p q kids others ne fp fq differ =
      parts_free journal t shared at i k (Attempt attempt p kids) (Attempt more q others) ne refl refl
      (λ d e md me. trees_together t sizes f round journal answers (q ∷ flat others) (p ∷ flat kids) d e fq fp (λ x y cx cy same. differ y x cy cx (sym same)) md me)

  pub forest : Lawful → (attempt more n m : ℕ) (g : Forest) (a b : Root) → i ≢ k → AreFrom (flat f) (flat g) → NumbersOnce g → nth_tree n g ≡ Some a → nth_tree m g ≡ Some b → n ≢ m
      → FreeHere (Attempt attempt a.p a.kids) (Attempt more b.p b.kids)
  forest answers attempt more n m g a b ne from once ea eb differ =
      attempts answers attempt more a.p b.p a.kids b.kids ne (from_some (flat f) (flat g) (a.p ∷ flat a.kids) (nth_in n g a ea) from) (from_some (flat f) (flat g) (b.p ∷ flat b.kids) (nth_in m g b eb) from)
      (nth_differ n m g a b once ea eb differ)

  -- ---- what is written

  -- places for two asks with different keys
  asks_touch : Lawful → (a b : Ask) (ps qs : List Place) → a.key.round ≡ t.round → b.key.round ≡ t.round → (SameParts a.key b.key → ⊥) → chosen journal a ≡ Some ps → chosen journal b ≡ Some qs → NoneTouch ps qs
  asks_touch answers a b ps qs na nb ne ha hb =
      let ip : AllInside t.setting ps = all_weaker (IsPlaced (sizes_of t.setting.tops) t.used) _ ps (λ p h. h.1) (chosen_placed journal (sizes_of t.setting.tops) t.used t.round answers a ps na ha) in
      let iq : AllInside t.setting qs = all_weaker (IsPlaced (sizes_of t.setting.tops) t.used) _ qs (λ p h. h.1) (chosen_placed journal (sizes_of t.setting.tops) t.used t.round answers b qs nb hb) in
      ⊎_elim
      (λ (h : AllByRecursion (MeetsNone qs) ps). none_touch t.setting ps qs ip iq h)
      (λ (h : AllByRecursion (MeetsNone ps) qs). touch_turned qs ps (none_touch t.setting qs ps iq ip h))
      (chosen_apart journal (sizes_of t.setting.tops) t.used t.round answers a b ps qs na nb ne ha hb)

  parts_apart : Lawful → (request attempt other more : ℕ) (path others : List ℕ) → ((b c : List ℕ) → path ++ b ≢ others ++ c) → (d e : Task) → OfPart journal t request attempt path d → OfPart journal t other more others e → TasksApart d e
  parts_apart answers request attempt other more path others ne (Leaf x) (Leaf y) h k =
      inr (spots_clear t.setting h.1 k.1 (spot_of x) (spot_of y) round.once
      (asks_touch answers h.0 k.0 h.1 k.1 h.2.now k.2.now (λ same. ne h.2.below k.2.below (sym h.2.at ∙ same.path ∙ k.2.at)) h.3 k.3) h.4.listed k.4.listed)
  parts_apart answers request attempt other more path others ne (Leaf x) (Find b) h k = tt
  parts_apart answers request attempt other more path others ne (Find a) (Leaf y) h k = tt
  parts_apart answers request attempt other more path others ne (Find a) (Find b) h k = tt
  parts_apart answers request attempt other more path others ne (Leaf x) _ h k = absurd k
  parts_apart answers request attempt other more path others ne (Find a) _ h k = absurd k
  parts_apart answers request attempt other more path others ne _ _ h k = absurd h

  pub members : Lawful → (attempt n m : ℕ) (p : Pending) (sum : SumKind) (copies levels : ℕ) (path bytes others : List ℕ) → i ≢ k → n ≢ m
      → FreeHere (WritePart attempt p sum copies levels (path ++ n ∷ []) bytes) (WritePart attempt p sum copies levels (path ++ m ∷ []) others)
  members answers attempt n m p sum copies levels path bytes others ne differ =
      parts_free journal t shared at i k (WritePart attempt p sum copies levels (path ++ n ∷ []) bytes) (WritePart attempt p sum copies levels (path ++ m ∷ []) others) ne refl refl
      (λ d e md me. inl (parts_apart answers p.request.number attempt p.request.number attempt (path ++ m ∷ []) (path ++ n ∷ []) (λ b c. forks_differ path b c m n (λ same. differ (sym same))) d e md me))

  -- the header's places and those of a member
  header_apart : Lawful → (request attempt n : ℕ) (path : List ℕ) (a : Ask) (places : List Place) → a.key.round ≡ t.round → a.key.path ≡ path → chosen journal a ≡ Some places
      → (d e : Task) → OnSpots (spots_of t.setting places) 0 d → OfPart journal t request attempt (path ++ n ∷ []) e → TasksApart d e
  header_apart answers request attempt n path a places now is there (Leaf x) (Leaf y) h k =
      inr (spots_clear t.setting places k.1 (spot_of x) (spot_of y) round.once
      (asks_touch answers a k.0 places k.1 now k.2.now (λ same. longer_differs path k.2.below n (sym is ∙ same.path ∙ k.2.at)) there k.3) h.listed k.4.listed)
  header_apart answers request attempt n path a places now is there (Leaf x) (Find b) h k = tt
  header_apart answers request attempt n path a places now is there (Leaf x) _ h k = absurd k
  header_apart answers request attempt n path a places now is there _ _ h k = absurd h

  apart_turned : (d e : Task) → TasksApart d e → TasksApart e d
  apart_turned d e h = (tasks_commute [] t sizes).turned d e h

  pub header_first : Lawful → (attempt n : ℕ) (p : Pending) (sum : SumKind) (copies levels : ℕ) (path bytes header : List ℕ) (a : Ask) (places : List Place) → i ≢ k → a.key.round ≡ t.round → a.key.path ≡ path → chosen journal a ≡ Some places
      → FreeHere (WriteCopies header places) (WritePart attempt p sum copies levels (path ++ n ∷ []) bytes)
  header_first answers attempt n p sum copies levels path bytes header a places ne now is there =
      parts_free journal t shared at i k (WriteCopies header places) (WritePart attempt p sum copies levels (path ++ n ∷ []) bytes) ne refl refl
      (λ d e md me. inl (apart_turned e d (header_apart answers p.request.number attempt n path a places now is there e d me md)))

  pub member_first : Lawful → (attempt n : ℕ) (p : Pending) (sum : SumKind) (copies levels : ℕ) (path bytes header : List ℕ) (a : Ask) (places : List Place) → i ≢ k → a.key.round ≡ t.round → a.key.path ≡ path → chosen journal a ≡ Some places
      → FreeHere (WritePart attempt p sum copies levels (path ++ n ∷ []) bytes) (WriteCopies header places)
  member_first answers attempt n p sum copies levels path bytes header a places ne now is there =
      parts_free journal t shared at i k (WritePart attempt p sum copies levels (path ++ n ∷ []) bytes) (WriteCopies header places) ne refl refl
      (λ d e md me. inl (header_apart answers p.request.number attempt n path a places now is there d e md me))

  stores_apart : (u v : Spot) (retry again : Bool) (bytes others : List ℕ) → AreClear u v → FreeHere (Leaf (Store retry bytes u)) (Leaf (Store again others v))
  stores_apart u v retry again bytes others clear =
      stores_free journal t shared at i k (Store retry bytes u) (Store again others v) refl refl (inr (clear_turned u v clear))

  -- copies at different numbers, and different copies
  numbers_clear : (ps : List Place) (n m : ℕ) (u v : Spot) → Pairs DontMeet ps → nth n (spots_of t.setting ps) ≡ Some u → nth m (spots_of t.setting ps) ≡ Some v → n ≢ m → AreClear u v
  numbers_clear ps n m u v own eu ev ne =
      ⊎_elim (λ (h : AreClear u v). h) (λ (h : AreClear v u). clear_turned v u h)
      (pairs_nth AreClear (spots_of t.setting ps) n m u v (own_spots t.setting ps round.once round.twice own) eu ev ne)

  copies_clear : (ps : List Place) (u v : Spot) → Pairs DontMeet ps → Contains (spots_of t.setting ps) u → Contains (spots_of t.setting ps) v → u ≢ v → AreClear u v
  copies_clear ps u v own cu cv ne =
      ⊎_elim (λ (e : u ≡ v). absurd (ne e))
      (λ (either : AreClear u v ⊎ AreClear v u). ⊎_elim (λ (h : AreClear u v). h) (λ (h : AreClear v u). clear_turned v u h) either)
      (pairs_two AreClear (spots_of t.setting ps) u v (own_spots t.setting ps round.once round.twice own) cu cv)

  own_places : Lawful → (a : Ask) (places : List Place) → a.key.round ≡ t.round → chosen journal a ≡ Some places → Pairs DontMeet places
  own_places answers a places now h =
      let inside : AllInside t.setting places = all_weaker (IsPlaced (sizes_of t.setting.tops) t.used) _ places (λ p k. k.1) (chosen_placed journal (sizes_of t.setting.tops) t.used t.round answers a places now h) in
      pairs_stronger DontMeet (λ (p q : Place). meets q p ≡ false) places
      (λ p q cp cq none. dont_turned q p (inside_dont t.setting q p (all_contains _ places q inside cq) (all_contains _ places p inside cp) none))
      (chosen_own journal (sizes_of t.setting.tops) t.used t.round answers a places now h)

  pub writes : Lawful → (n m : ℕ) (a : Ask) (places : List Place) (u v : Spot) (retry again : Bool) (bytes others : List ℕ) → a.key.round ≡ t.round → chosen journal a ≡ Some places
      → nth n (spots_of t.setting places) ≡ Some u → nth m (spots_of t.setting places) ≡ Some v → n ≢ m → FreeHere (Leaf (Store retry bytes u)) (Leaf (Store again others v))
  writes answers n m a places u v retry again bytes others now h eu ev ne =
      stores_apart u v retry again bytes others (numbers_clear places n m u v (own_places answers a places now h) eu ev ne)

  -- ---- what is read

  -- the block is sound, and no two of its places meet
  block_in : (tree : Tree) → IsBlockIn f tree → IsOwnBlock (sizes_of t.setting.tops) t.used tree
  block_in tree b = own_of t sizes f round b.0 tree b.1 b.2

  piece_places : (tree : Tree) (c : Copies) → IsBlockIn f tree → Contains (copies_of tree) c → Pairs DontMeet c.places
  piece_places tree c b cc = let own = block_in tree b in piece_own t.setting tree own.sound.inside own.own c cc

  pub numbered_repairs : (n m : ℕ) (tree : Tree) (c : Copies) (u v : Spot) (retry again : Bool) (bytes others : List ℕ) → IsBlockIn f tree → Contains (copies_of tree) c
      → nth n (spots_of t.setting c.places) ≡ Some u → nth m (spots_of t.setting c.places) ≡ Some v → n ≢ m → FreeHere (Leaf (Store retry bytes u)) (Leaf (Store again others v))
  numbered_repairs n m tree c u v retry again bytes others b cc eu ev ne =
      stores_apart u v retry again bytes others (numbers_clear c.places n m u v (piece_places tree c b cc) eu ev ne)

  pub repairs : (tree : Tree) (c : Copies) (u v : Spot) (retry again : Bool) (bytes others : List ℕ) → IsBlockIn f tree → Contains (copies_of tree) c
      → Contains (spots_of t.setting c.places) u → Contains (spots_of t.setting c.places) v → u ≢ v → FreeHere (Leaf (Store retry bytes u)) (Leaf (Store again others v))
  repairs tree c u v retry again bytes others b cc cu cv ne =
      stores_apart u v retry again bytes others (copies_clear c.places u v (piece_places tree c b cc) cu cv ne)

  pub pass_repairs : (n m tried : ℕ) (tree : Tree) (c : Copies) (front rest : List Place) (p : Place) (u v : Spot) (retry again : Bool) (bytes others : List ℕ) → IsBlockIn f tree → Contains (copies_of tree) c → c.places ≡ front ++ p ∷ rest
      → nth n (repairs_after t.setting front p tried) ≡ Some u → nth m (repairs_after t.setting front p tried) ≡ Some v → n ≢ m → FreeHere (Leaf (Store retry bytes u)) (Leaf (Store again others v))
  pass_repairs n m tried tree c front rest p u v retry again bytes others b cc is eu ev ne =
      let own : Pairs DontMeet (front ++ p ∷ rest) = subst (Pairs DontMeet) is (piece_places tree c b cc) in
      stores_apart u v retry again bytes others
      (⊎_elim (λ (h : AreClear u v). h) (λ (h : AreClear v u). clear_turned v u h)
      (pairs_nth AreClear (repairs_after t.setting front p tried) n m u v (repairs_differ t.setting front rest p tried round.once round.twice own) eu ev ne))

  copies_apart : (c d : Copies) → CopiesApart c d → (x y : Task) → OnCopies t.setting c x → OnCopies t.setting d y → TasksApart x y
  copies_apart c d none (Leaf a) (Leaf b) h k = inr (spots_clear t.setting c.places d.places (spot_of a) (spot_of b) round.once none h.listed k.listed)
  copies_apart c d none (Leaf a) _ h k = absurd k
  copies_apart c d none _ _ h k = absurd h

  pub bodies : (n m : ℕ) (tree : Tree) (c d : Copies) → IsBlockIn f tree → i ≢ k → nth n (groups_of tree).bodies ≡ Some c → nth m (groups_of tree).bodies ≡ Some d → n ≢ m → FreeHere (reading_of c) (reading_of d)
  bodies n m tree c d b ne ec ed differ =
      let own = block_in tree b in
      let none : CopiesApart d c =
      ⊎_elim (λ (h : CopiesApart c d). touch_turned c.places d.places h) (λ (h : CopiesApart d c). h)
      (pairs_nth CopiesApart (groups_of tree).bodies n m c d (bodies_apart t.setting tree own.sound.inside own.own) ec ed differ) in
      parts_free journal t shared at i k (reading_of c) (reading_of d) ne refl refl (λ x y mx my. inl (copies_apart d c none x y mx my))

  -- bodies that a walk came to
  pub found_bodies : (n m : ℕ) (tree : Tree) (pointers : List Bp) (a b : Bp) → IsBlockIn f tree → i ≢ k → map body_copies pointers ≡ (groups_of tree).bodies → nth n pointers ≡ Some a → nth m pointers ≡ Some b → n ≢ m
      → FreeHere (reading_of (body_copies a)) (reading_of (body_copies b))
  found_bodies n m tree pointers a b block ne is ea eb differ =
      bodies n m tree (body_copies a) (body_copies b) block ne (subst (λ (cs : List Copies). nth n cs ≡ Some (body_copies a)) is (nth_mapped n pointers a ea)) (subst (λ (cs : List Copies). nth m cs ≡ Some (body_copies b)) is (nth_mapped m pointers b eb)) differ

  pub kept_walks : (levels more n m : ℕ) (tree : Tree) (path bytes : List ℕ) (a b : Bp) → IsBlockIn f tree → i ≢ k → kept_at tree.heads path ≡ Some bytes → nth n (members_of bytes) ≡ Some a → nth m (members_of bytes) ≡ Some b → n ≢ m
      → FreeHere (ReadHeads (ByKept tree.heads) levels (path ++ n ∷ []) a) (ReadHeads (ByKept tree.heads) more (path ++ m ∷ []) b)
  kept_walks levels more n m tree path bytes a b block ne kept ea eb differ =
      let own = block_in tree block in
      parts_free journal t shared at i k (ReadHeads (ByKept tree.heads) levels (path ++ n ∷ []) a) (ReadHeads (ByKept tree.heads) more (path ++ m ∷ []) b) ne refl refl
      (λ x y mx my. inl (copies_apart mx.0 my.0 (touch_turned my.0.places mx.0.places
      (walks_apart t.setting tree own.sound.inside own.own levels more path bytes n m a b my.0 mx.0 kept ea eb differ my.1 mx.1)) x y mx.2 my.2))

-- headers that a claim reads
headers_apart : (s : Setting) (x y : Task) → ReadsHeader s x → ReadsHeader s y → TasksApart x y
headers_apart s (Leaf a) (Leaf b) h k = inl (h.0, k.0)
headers_apart s (Leaf a) _ h k = absurd k
headers_apart s _ _ h k = absurd h

pub claimed_walks : (t : Terms) (journal : List Choice) (shared : List Copies) (at : List ℕ) (i k levels more : ℕ) (path others : List ℕ) (a b : Bp) → i ≢ k
    → Free (reach_in journal t shared) (part_of at i (ReadHeads ByClaim levels path a)) (part_of at k (ReadHeads ByClaim more others b))
claimed_walks t journal shared at i k levels more path others a b ne =
    parts_free journal t shared at i k (ReadHeads ByClaim levels path a) (ReadHeads ByClaim more others b) ne refl refl (λ x y mx my. inl (headers_apart t.setting x y mx my))
