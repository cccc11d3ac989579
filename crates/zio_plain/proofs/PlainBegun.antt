-- A round as it begins: what own work stands on then, and what blocks it may be given.
use Rattle.std.proofs.Common.{◌≡◌, ℕ, List, [], ◌∷◌, ◌++◌, map, refl, sym, subst}
use Rattle.std.specs.Prelude.{Contains, IfSome, IsTrue, Option, Some, None}
use Rattle.std.specs.List.{AllByRecursion, flat_map}
use Rattle.std.proofs.lemmas.Bool.{and_parts}
use Rattle.std.proofs.lemmas.List.{append-nil}
use Rattle.zio_types.specs.declared.place.Place.{Place}
use Rattle.zio_types.specs.declared.place.TopSize.{TopSize}
use Rattle.zio_types.specs.Choices.{Choice}
use Rattle.zio_types.specs.Places.{is_aligned, is_inside}
use Rattle.zio_blkptr.specs.declared.pointer.Bp.{Bp}
use Rattle.zio_blkptr.specs.Pointers.{places_of, valid}
use Rattle.zio_cksum.specs.Headers.{members_of}
use Rattle.zio_cksum.proofs.AllLemmas.{all_append, all_contains, all_weaker}
use Rattle.zio_places.specs.Spaces.{is_on_top}
use Rattle.zio_gang.specs.declared.tree.Head.{Head}
use Rattle.zio_gang.specs.declared.tree.Tree.{Tree}
use Rattle.zio_gang.specs.Attempts.{Pending}
use Rattle.zio_gang.specs.Trees.{sizes_of, tree_places, tree_pointers}
use Rattle.zio_disks.specs.Trees.{IsPlacedIn, IsPlacedTree}
use Rattle.zio_disks.specs.Whole.{IsWholeTree}
use Rattle.zio_disks.proofs.ClaimLemmas.{members_valid}
use Rattle.zio_disks.proofs.DiskLemmas.{same_itself}
use Rattle.zio_blocks.specs.Choosers.{AreHeld, EntryLaw, HoldsOfNone}
use Rattle.zio_cksum.proofs.PlaceSets.{all_pass, pass_all}
use Rattle.zio_course.specs.Runners.{joined_trees, named_places, places_of_block}
use Rattle.zio_plain.specs.declared.ground.Ground.{Ground}
use Rattle.zio_plain.specs.Grounds.{CanRun, HasMoved, Moves, SeenGround, seen}
use Rattle.zio_plain.specs.Grounds.Moves.{Itself, Moved}
use Rattle.zio_plain.specs.OwnEnds.{Named}
use Rattle.zio_plain.specs.Plains.{IsSteady, SeenPlain}

-- ---- blocks that lie on the tops

pub parts_all : {X Y : Type 0} (f : X → List Y) (P : Y → Type 0) (xs : List X) → AllByRecursion P (flat_map f xs) → AllByRecursion (λ x. AllByRecursion P (f x)) xs
parts_all f P [] h = tt
parts_all f P (x ∷ xs) h = (front (f x) h, parts_all f P xs (back (f x) h))
  where
    front : (ys : List _) → AllByRecursion P (ys ++ flat_map f xs) → AllByRecursion P ys
    front [] k = tt
    front (y ∷ ys) k = (k.0, front ys k.1)

    back : (ys : List _) → AllByRecursion P (ys ++ flat_map f xs) → AllByRecursion P (flat_map f xs)
    back [] k = k
    back (y ∷ ys) k = back ys k.1

heads_valid : (heads : List Head) → AllByRecursion (λ m. IsTrue (valid m)) (flat_map (λ (h : Head). members_of h.bytes) heads)
heads_valid [] = tt
heads_valid (h ∷ heads) = all_append (λ m. IsTrue (valid m)) (members_of h.bytes) (flat_map (λ (x : Head). members_of x.bytes) heads) (members_valid h.bytes) (heads_valid heads)

placed_each : (tops : List TopSize) (bps : List Bp) → AllByRecursion (λ m. IsTrue (valid m)) bps → AllByRecursion (λ bp. AllByRecursion (λ p. IsTrue (is_inside tops p)) (places_of bp)) bps → AllByRecursion (IsPlacedIn tops) bps
placed_each tops [] h k = tt
placed_each tops (bp ∷ bps) h k = (record { ok = h.0; inside = pass_all (is_inside tops) (places_of bp) k.0 }, placed_each tops bps h.1 k.1)

-- a whole block whose places lie inside the tops
placed_tree : (tops : List TopSize) (tree : Tree) → IsTrue (valid tree.bp) → AllByRecursion (λ p. IsTrue (is_inside tops p)) (tree_places tree) → IsPlacedTree tops tree
placed_tree tops tree ok inside =
    placed_each tops (tree_pointers tree) (ok, heads_valid tree.heads) (parts_all places_of (λ p. IsTrue (is_inside tops p)) (tree_pointers tree) inside)

pub whole_valid : (tree : Tree) → IsWholeTree tree → IsTrue (valid tree.bp)
whole_valid tree whole = whole.0

-- what is in use lies inside the tops
pub live_inside : (sizes : List TopSize) (used live : List Place) (p : Place) → AreHeld sizes used live → Contains live p → IsTrue (is_inside sizes p)
live_inside sizes used live p held there =
    (and_parts (is_inside sizes p) (is_aligned sizes p) (all_contains (λ q. IsTrue (is_on_top sizes q)) used p (all_pass (is_on_top sizes) used held.inside) (held.among p there))).0

-- ---- the ground

module _ {D C : Type 0} (bytes faults faults_at_fetch : D → ℕ) (home image : D → List ℕ → Type 0) (sound : D → Type 0) (Lawful : EntryLaw)
    (sizes : C → List TopSize) (used live : C → List Place) (given : C → List Choice) where
  -- what own work stands on as a round begins
  abbrev pub begun : SeenPlain D C → ℕ → ℕ → SeenGround D
  begun p round point = record {
    setting = record { tops = p.setting.tops; rows = p.setting.rows; point = point };
    round = round;
    disks = p.disks;
    sizes = sizes p.chooser;
    used = used p.chooser;
    live = live p.chooser;
    given = given p.chooser;
  }

  abbrev pub SteadyPlain : SeenPlain D C → Type 0
  SteadyPlain p = IsSteady p.setting (map bytes p.disks) (sizes p.chooser) (used p.chooser) (live p.chooser) (given p.chooser)

  pub record HasBegun (p : SeenPlain D C) (number point : ℕ) (g : Ground D C) : Type 0 where
    pub setting : g.setting ≡ record { tops = p.setting.tops; rows = p.setting.rows; point = point }
    pub round : g.round ≡ number
    pub disks : g.disks.items ≡ p.disks
    pub tops_are : sizes g.chooser ≡ sizes p.chooser
    pub used_are : used g.chooser ≡ used p.chooser
    pub live_are : live g.chooser ≡ live p.chooser
    pub given_are : given g.chooser ≡ given p.chooser

  pub sees_begun : (p : SeenPlain D C) (round point : ℕ) (g : Ground D C) → HasBegun p round point g → seen sizes used live given g ≡ begun p round point
  sees_begun p round point g h = λ i. record {
    setting = h.setting i;
    round = h.round i;
    disks = h.disks i;
    sizes = h.tops_are i;
    used = h.used_are i;
    live = h.live_are i;
    given = h.given_are i;
  }

  block_can : (p : SeenPlain D C) (round point : ℕ) (block : Option Tree) → SteadyPlain p → AllByRecursion (Contains (live p.chooser)) (places_of_block block) → IfSome block IsWholeTree → CanRun bytes (begun p round point) block
  block_can p round point block steady within whole = record {
    bears = record { rows = steady.bears.rows; tops = steady.bears.tops };
    tops = steady.tops;
    sizes = steady.sizes_are;
    held = steady.held;
    placed = placed block within whole;
  }
    where
      placed : (b : Option Tree) → AllByRecursion (Contains (live p.chooser)) (places_of_block b) → IfSome b IsWholeTree → IfSome b (IsPlacedTree (sizes_of p.setting.tops))
      placed None h k = tt
      placed (Some tree) h k =
          placed_tree (sizes_of p.setting.tops) tree (whole_valid tree k)
          (all_weaker (Contains (live p.chooser)) (λ q. IsTrue (is_inside (sizes_of p.setting.tops) q)) (tree_places tree)
          (λ q c. subst (λ ts. IsTrue (is_inside ts q)) steady.sizes_are (live_inside (sizes p.chooser) (used p.chooser) (live p.chooser) q steady.held c))
          (subst (AllByRecursion (Contains (live p.chooser))) (append-nil (tree_places tree)) h))

  -- own work may be given all whole blocks that trees name, where these are in use
  pub all_can : (p : SeenPlain D C) (round point : ℕ) (g : Ground D C) (trees : List (List Pending)) → SteadyPlain p → HasBegun p round point g → AllByRecursion (Contains (live p.chooser)) (named_places trees)
      → AllByRecursion (λ (q : Pending). IfSome q.block IsWholeTree → CanRun bytes (seen sizes used live given g) q.block) (joined_trees trees)
  all_can p round point g trees steady h within =
      all_weaker (λ (q : Pending). AllByRecursion (Contains (live p.chooser)) (places_of_block q.block)) (λ (q : Pending). IfSome q.block IsWholeTree → CanRun bytes (seen sizes used live given g) q.block) (joined_trees trees)
      (λ q k whole. subst (λ (s : SeenGround D). CanRun bytes s q.block) (sym (sees_begun p round point g h)) (block_can p round point q.block steady k whole))
      (parts_all (λ (q : Pending). places_of_block q.block) (Contains (live p.chooser)) (joined_trees trees) within)

  -- also where nothing was done
  pub has_moved : HoldsOfNone Lawful → (p : SeenPlain D C) (round point : ℕ) (named : Named) (new : SeenGround D) (stay : List Place) → SteadyPlain p
      → Moves bytes faults faults_at_fetch home image sound Lawful named (begun p round point) new stay → HasMoved bytes faults faults_at_fetch home image sound Lawful named (begun p round point) new stay
  has_moved empty p round point named new stay steady (Moved held h) = h
  has_moved empty p round point named new stay steady (Itself same none) =
      subst (λ (s : SeenGround D). HasMoved bytes faults faults_at_fetch home image sound Lawful named (begun p round point) s stay) (sym same)
      (subst (HasMoved bytes faults faults_at_fetch home image sound Lawful named (begun p round point) (begun p round point)) (sym none) (record {
        setting = refl;
        round = refl;
        sizes = refl;
        disks = same_itself bytes faults faults_at_fetch home image sound p.disks;
        steady = refl;
        outside = λ before told. (
          before,
          told,
          record { places = []; inside = refl; may = tt; same = record { sizes = λ leaf. refl; bytes = λ leaf at out. refl } },
        );
        more = [];
        claimed = [];
        given = sym (append-nil (given p.chooser));
        rounds = tt;
        used = λ q. (λ c. c, λ c. c);
        lawful = empty (sizes p.chooser) (used p.chooser);
        unclaimed = λ e. refl;
        unasked = λ e. refl;
        live = λ q. (λ c. c, λ c. c);
        held = steady.held;
        were_open = refl;
        inside = refl;
      }))
