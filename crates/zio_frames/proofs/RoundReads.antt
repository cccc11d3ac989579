-- What is asked for headers from a pointer down, and for a block that is read, freed or claimed.
use Rattle.std.proofs.Common.{◌≡◌, ◌≢◌, ℕ, zero, suc, ◌+◌, ◌<◌, List, [], ◌∷◌, ◌++◌, length, Bool, true, false, Option, Some, None, Ok, Err, IfOk, IsTrue, Contains, ◌⊎◌, inl, inr, ⊎_elim, refl, sym, ap, ◌∙◌, subst, arith, append_assoc, length-append}
use Rattle.std.specs.List.{AllByRecursion}
use Rattle.std.proofs.lemmas.List.Elements.{Contains-append_left, Contains-append_right}
use Rattle.std.proofs.lemmas.Slice.Eq.{bytes_eq-Decides}
use Rattle.std.specs.Prelude.{map}
use Rattle.zio_types.specs.declared.error.Errno.{Errno}
use Rattle.zio_types.specs.Choices.{Choice}
use Rattle.zio_blkptr.specs.declared.pointer.Bp.{Bp}
use Rattle.zio_cksum.specs.Blocks.{good_kept}
use Rattle.zio_cksum.specs.Headers.{members_of}
use Rattle.zio_cksum.proofs.AllLemmas.{all_contains, all_weaker}
use Rattle.zio_gang.specs.declared.tree.Head.{Head}
use Rattle.zio_gang.specs.declared.tree.Tree.{Tree}
use Rattle.zio_gang.specs.Attempts.{Terms}
use Rattle.zio_gang.specs.Pieces.{members_kept}
use Rattle.zio_gang.specs.Trees.{header_levels_max, kept_at}
use Rattle.zio_trace.specs.BlockCopies.{Copies, Groups, body_copies, copies_from, copies_of, groups_if, groups_of, groups_of_members, head_copies, reading_of}
use Rattle.zio_trace.specs.Families.{Forest}
use Rattle.zio_trace.specs.Footprints.{FindsBodies}
use Rattle.zio_trace.specs.Leaves.{Answer}
use Rattle.zio_trace.specs.Plans.{Bodies, TaskPlan, plan, plan_after, plan_below, plan_bodies, plan_claim, plan_found, plan_free, plan_pointer, plan_read, plan_taken, plan_tree}
use Rattle.zio_trace.specs.SoundRounds.{IsBlockIn, IsSoundRound, shared_in}
use Rattle.zio_trace.specs.Tasks.{ByClaim, ByKept, Look, ReadHeads, TakePlaces, Task, Value, Walked, got, walked}
use Rattle.zio_trace.specs.Views.{nth}
use Rattle.zio_trace.proofs.FreeParts.{claimed_walks, found_bodies, kept_walks}
use Rattle.zio_trace.proofs.ListLemmas.{contains_first, contains_later}
use Rattle.zio_trace.proofs.PairLemmas.{nth_contained}
use Rattle.zio_frames.specs.OfRound.{AreHeadsOf, IsLookOf, IsTaskOf}
use Rattle.zio_frames.proofs.RoundLeaves.{nth_seam}
use Rattle.zio_frames.proofs.RoundWalks.{Goes, IsFreeBeside, Walks, goes_then}

-- ---- the headers of a block

-- a gang's own header
head_in : (levels : ℕ) (heads : List Head) (path : List ℕ) (bp : Bp) → bp.gang ≡ true
    → Contains (copies_from (suc levels) heads path bp).heads (head_copies heads path bp)
unfolding copies_from
head_in levels heads path bp e =
    let below : Groups = groups_of_members (copies_from levels heads) path 0 (members_kept (kept_at heads path)) in
    subst (λ (b : Bool). Contains (groups_if b bp
    (record { heads = head_copies heads path bp ∷ below.heads; bodies = below.bodies })).heads (head_copies heads path bp))
    (sym e)
    (contains_first (head_copies heads path bp) below.heads)

-- those of the nth member from this number on
member_in : (groups : List ℕ → Bp → Groups) (path : List ℕ) (n k : ℕ) (ms : List Bp) (m : Bp) (c : Copies) → nth k ms ≡ Some m
    → Contains (groups (path ++ (n + k) ∷ []) m).heads c → Contains (groups_of_members groups path n ms).heads c
member_in groups path n k [] m c e h = absurd (cc)
member_in groups path n zero (x ∷ ms) m c e h =
    let is : m ≡ x = cc in
    let none : n + 0 ≡ n = omega arith in
    Contains-append_left (groups (path ++ n ∷ []) x).heads (groups_of_members groups path (n + 1) ms).heads c
    (subst (λ (k : ℕ). Contains (groups (path ++ k ∷ []) x).heads c) none
    (subst (λ (y : Bp). Contains (groups (path ++ (n + 0) ∷ []) y).heads c) is h))
member_in groups path n (suc k) (x ∷ ms) m c e h =
    let next : n + suc k ≡ (n + 1) + k = omega arith in
    Contains-append_right (groups (path ++ n ∷ []) x).heads (groups_of_members groups path (n + 1) ms).heads c
    (member_in groups path (n + 1) k ms m c e (subst (λ (i : ℕ). Contains (groups (path ++ i ∷ []) m).heads c) next h))

below_in : (levels : ℕ) (heads : List Head) (path : List ℕ) (bp m : Bp) (bytes : List ℕ) (n : ℕ) (c : Copies) → bp.gang ≡ true
    → kept_at heads path ≡ Some bytes
    → nth n (members_of bytes) ≡ Some m → Contains (copies_from levels heads (path ++ n ∷ []) m).heads c
    → Contains (copies_from (suc levels) heads path bp).heads c
unfolding copies_from
below_in levels heads path bp m bytes n c e kept is h =
    let groups : Option (List ℕ) → Groups = λ k. groups_of_members (copies_from levels heads) path 0 (members_kept k) in
    let none : n ≡ 0 + n = omega arith in
    let member : Contains (copies_from levels heads (path ++ (0 + n) ∷ []) m).heads c = subst
    (λ (k : ℕ). Contains (copies_from levels heads (path ++ k ∷ []) m).heads c) none h in
    let there : Contains (groups (Some bytes)).heads c = member_in (copies_from levels heads) path 0 n (members_of bytes) m c is member in
    let here : Contains (groups (kept_at heads path)).heads c = subst (λ (k : Option (List ℕ)). Contains (groups k).heads c)
    (sym kept) there in
    let below : Groups = groups (kept_at heads path) in
    subst (λ (b : Bool). Contains (groups_if b bp
    (record { heads = head_copies heads path bp ∷ below.heads; bodies = below.bodies })).heads c) (sym e)
    (contains_later (head_copies heads path bp) below.heads c here)

kept_is : (kept : Option (List ℕ)) (bytes : List ℕ) → IsTrue (good_kept kept bytes) → kept ≡ Some bytes
kept_is None bytes h = let no : ⊥ = cc in absurd no
kept_is (Some k) bytes h = ap (λ x. Some x) ((bytes_eq-Decides k bytes).0 h)

-- what may be out while a block is read, by its headers and then its bodies
pub record IsBesideReads (t : Terms) (f : Forest) (entries : List Choice) (tree : Tree) (q : Task) : Type 0 where
  pub walk : IsFreeBeside t f entries q (ReadHeads (ByKept tree.heads) header_levels_max [] tree.bp)
  pub bodies : (c : Copies) → Contains (copies_of tree) c → IsFreeBeside t f entries q (reading_of c)

module _ (t : Terms) (sizes : ℕ → ℕ) (f : Forest) (entries : List Choice) (round : IsSoundRound t sizes f) where
  -- ---- walks over headers

  module _ (down : List ℕ → Bp → Task) (path : List ℕ) (all : List Bp)
      (of : (n : ℕ) (m : Bp) → nth n all ≡ Some m → IsTaskOf t f entries (down (path ++ n ∷ []) m))
      (free : (k n : ℕ) (b m : Bp) → nth k all ≡ Some b → nth n all ≡ Some m → k ≢ n → IsFreeBeside t f entries
      (down (path ++ k ∷ []) b) (down (path ++ n ∷ []) m)) where
    abbrev IsWalkBelow : ℕ → Task → Type 0
    IsWalkBelow n q = (k : ℕ) × (k < n) × (b : Bp) × (nth k all ≡ Some b) × (q ≡ down (path ++ k ∷ []) b)

    below_go : (n : ℕ) (front ms : List Bp) (outs : List Task) → all ≡ front ++ ms → n ≡ length front
        → AllByRecursion (IsWalkBelow n) outs
        → Walks t f entries (λ os (w : Walked). Unit {0}) outs (plan_below down path n ms)
    below_go n front [] outs is len h = tt
    below_go n front (m ∷ ms) outs is len h =
        let op : Task = down (path ++ n ∷ []) m in
        let here : nth n all ≡ Some m = subst (λ (xs : List Bp). nth n xs ≡ Some m) (sym is)
        (subst (λ (k : ℕ). nth k (front ++ m ∷ ms) ≡ Some m) (sym len) (nth_seam front ms m)) in
        let split : all ≡ (front ++ m ∷ []) ++ ms = is ∙ sym (append_assoc front (m ∷ []) ms) in
        let next : n + 1 ≡ length (front ++ m ∷ []) = omega (arith, length-append front (m ∷ [])) in
        let more : AllByRecursion (IsWalkBelow (n + 1)) outs = all_weaker (IsWalkBelow n) (IsWalkBelow (n + 1)) outs
        (λ q w. (w.0, (let less : w.0 < n = w.1 in omega arith), w.2, w.3, w.4)) h in (
          of n m here,
          all_weaker (IsWalkBelow n) (λ (q : Task). IsFreeBeside t f entries q op) outs
              (λ q w. subst (λ (x : Task). IsFreeBeside t f entries x op) (sym w.4)
              (free w.0 n w.2 m w.3 here (λ same. absurd (let less : w.0 < n = w.1 in omega arith)))) h,
          λ v fits. goes_then t f entries outs (plan_below down path (n + 1) ms) _
              (below_go (n + 1) (front ++ m ∷ []) ms outs split next more) (λ os w. tt),
          λ beside b told. goes_then t f entries (op ∷ outs) (plan_below down path (n + 1) ms) _
              (below_go (n + 1) (front ++ m ∷ []) ms (op ∷ outs) split next ((n, omega arith, m, here, refl), more)) (λ os w. tt),
        )

  -- only below a gang pointer without an error something is read
  pointer_go : (judged : Option Errno) (gang : Bool) (bp : Bp) (follow : TaskPlan Value)
      → (gang ≡ true → Goes t f entries [] follow)
      → Goes t f entries [] (plan_pointer judged gang bp follow)
  pointer_go (Some e) gang bp follow h = tt
  pointer_go None false bp follow h = tt
  pointer_go None true bp follow h = h refl

  found_go : (look : Look) (levels : ℕ) (path : List ℕ) (answer : Answer)
      → ((bytes : List ℕ) → answer ≡ Ok bytes → Goes t f entries [] (plan_below (ReadHeads look levels) path 0 (members_of bytes)))
      → Goes t f entries [] (plan_found (ReadHeads look levels) path answer)
  found_go look levels path (Err e) h = tt
  found_go look levels path (Ok bytes) h =
      goes_then t f entries [] (plan_below (ReadHeads look levels) path 0 (members_of bytes)) _ (h bytes refl) (λ os w. tt)

  kept_go : (tree : Tree) (levels : ℕ) (path : List ℕ) (bp : Bp) → IsBlockIn f tree → AreHeadsOf tree levels path bp
      → Goes t f entries [] (plan t (ReadHeads (ByKept tree.heads) levels path bp))
  kept_go tree zero path bp block of = pointer_go None bp.gang bp _ (λ e. tt)
  kept_go tree (suc levels) path bp block of =
      pointer_go None bp.gang bp _ (λ gang. (
        (
          tree,
          block,
          Contains-append_left (groups_of tree).heads (groups_of tree).bodies (head_copies tree.heads path bp)
              (of (head_copies tree.heads path bp) (head_in levels tree.heads path bp gang)),
        ),
        tt,
        λ v fits. found_go (ByKept tree.heads) levels path (got v) (λ bytes is.
            let good : IsTrue (good_kept (kept_at tree.heads path) bytes) = subst
            (λ (a : Answer). IfOk a (λ bs. IsTrue (good_kept (kept_at tree.heads path) bs))) is (fits.fits entries tt) in
            let kept : kept_at tree.heads path ≡ Some bytes = kept_is (kept_at tree.heads path) bytes good in
            below_go (ReadHeads (ByKept tree.heads) levels) path (members_of bytes)
            (λ n m e. (tree, block, refl, λ c h. of c (below_in levels tree.heads path bp m bytes n c gang kept e h)))
            (λ k n b m ek en ne beside journal still at i j differ.
            kept_walks t sizes f journal at i j round levels levels k n tree path bytes b m block differ kept ek en ne)
            0 [] (members_of bytes) [] refl refl tt),
        λ beside b told. tt,
      ))

  claimed_go : (levels : ℕ) (path : List ℕ) (bp : Bp) → Goes t f entries [] (plan t (ReadHeads ByClaim levels path bp))
  claimed_go zero path bp = pointer_go _ bp.gang bp _ (λ e. tt)
  claimed_go (suc levels) path bp =
      pointer_go _ bp.gang bp _ (λ gang. (
        tt,
        tt,
        λ v fits. found_go ByClaim levels path (got v) (λ bytes is.
            below_go (ReadHeads ByClaim levels) path (members_of bytes) (λ n m e. tt)
            (λ k n b m ek en ne beside journal still at i j differ. claimed_walks t journal (shared_in t f) at i j levels levels
            (path ++ k ∷ []) (path ++ n ∷ []) b m differ)
            0 [] (members_of bytes) [] refl refl tt),
        λ beside b told. tt,
      ))

  pub read_heads_go : (look : Look) (levels : ℕ) (path : List ℕ) (bp : Bp) → IsLookOf f look levels path bp
      → Goes t f entries [] (plan t (ReadHeads look levels path bp))
  read_heads_go (ByKept heads) levels path bp h =
      subst (λ (hs : List Head). Goes t f entries [] (plan t (ReadHeads (ByKept hs) levels path bp))) (sym h.2)
      (kept_go h.0 levels path bp h.1 h.3)
  read_heads_go ByClaim levels path bp h = claimed_go levels path bp

  -- ---- a block

  module _ (tree : Tree) (block : IsBlockIn f tree) where
    abbrev Beside : Task → Type 0
    Beside q = IsBesideReads t f entries tree q

    -- its headers from the pointer down
    whole_walk : IsTaskOf t f entries (ReadHeads (ByKept tree.heads) header_levels_max [] tree.bp)
    whole_walk = (tree, block, refl, λ c h. h)

    walk_free : (outs : List Task) → AllByRecursion Beside outs
        → AllByRecursion (λ (q : Task). IsFreeBeside t f entries q (ReadHeads (ByKept tree.heads) header_levels_max [] tree.bp)) outs
    walk_free outs h =
        all_weaker Beside (λ (q : Task). IsFreeBeside t f entries q (ReadHeads
        (ByKept tree.heads) header_levels_max [] tree.bp)) outs (λ q b. b.walk) h

    abbrev IsBodyBelow : List Bp → ℕ → Task → Type 0
    IsBodyBelow pointers n q = (k : ℕ) × (k < n) × (b : Bp) × (nth k pointers ≡ Some b) × (q ≡ reading_of (body_copies b))

    bodies_go : (pointers : List Bp) → AllByRecursion (λ (b : Bp). Contains (groups_of tree).bodies (body_copies b)) pointers
        → map body_copies pointers ≡ (groups_of tree).bodies
        → (front ps : List Bp) (outs : List Task) → pointers ≡ front ++ ps
        → AllByRecursion (λ (q : Task). Beside q ⊎ IsBodyBelow pointers (length front) q) outs
        → Walks t f entries (λ os (b : Bodies). Unit {0}) outs (plan_bodies ps)
    bodies_go pointers among all front [] outs is h = tt
    bodies_go pointers among all front (bp ∷ ps) outs is h =
        let n : ℕ = length front in
        let op : Task = reading_of (body_copies bp) in
        let here : nth n pointers ≡ Some bp = subst (λ (xs : List Bp). nth n xs ≡ Some bp) (sym is) (nth_seam front ps bp) in
        let piece : Contains (copies_of tree) (body_copies bp) = Contains-append_right (groups_of tree).heads
        (groups_of tree).bodies (body_copies bp)
        (all_contains (λ (b : Bp). Contains (groups_of tree).bodies (body_copies b)) pointers bp among
        (nth_contained n pointers bp here)) in
        let split : pointers ≡ (front ++ bp ∷ []) ++ ps = is ∙ sym (append_assoc front (bp ∷ []) ps) in
        let next : length (front ++ bp ∷ []) ≡ n + 1 = omega (arith, length-append front (bp ∷ [])) in
        let Now : Task → Type 0 = λ q. Beside q ⊎ IsBodyBelow pointers n q in
        let Then : Task → Type 0 = λ q. Beside q ⊎ IsBodyBelow pointers (length (front ++ bp ∷ [])) q in
        let more : AllByRecursion Then outs = all_weaker Now Then outs
        (λ q either. ⊎_elim (λ (b : Beside q). inl b)
        (λ (w : IsBodyBelow pointers n q). inr (w.0, (let less : w.0 < n = w.1 in omega (arith, next)), w.2, w.3, w.4)) either) h in (
          (tree, block, piece),
          all_weaker Now (λ (q : Task). IsFreeBeside t f entries q op) outs
              (λ q either. ⊎_elim (λ (b : Beside q). b.bodies (body_copies bp) piece)
              (λ (w : IsBodyBelow pointers n q). subst (λ (x : Task). IsFreeBeside t f entries x op) (sym w.4)
              (λ beside journal still at i k differ.
              found_bodies t sizes f journal at i k round w.0 n tree pointers w.2 bp block differ all w.3 here
              (λ same. absurd (let less : w.0 < n = w.1 in omega arith)))) either) h,
          λ v fits. goes_then t f entries outs (plan_bodies ps) _ (bodies_go pointers among all
              (front ++ bp ∷ []) ps outs split more) (λ os b. tt),
          λ beside b told. goes_then t f entries (op ∷ outs) (plan_bodies ps) _
              (bodies_go pointers among all (front ++ bp ∷ []) ps (op ∷ outs) split
              (inr (n, omega (arith, next), bp, here, refl), more)) (λ os b. tt),
        )

    after_go : (errors : List (Option Errno)) (bodies : List Bp) (outs : List Task)
        → AllByRecursion (λ (b : Bp). Contains (groups_of tree).bodies (body_copies b)) bodies
        → (errors ≡ [] → map body_copies bodies ≡ (groups_of tree).bodies) → AllByRecursion Beside outs
        → Goes t f entries outs (plan_after errors bodies)
    after_go [] bodies outs among all h =
        goes_then t f entries outs (plan_bodies bodies) _
        (bodies_go bodies among (all refl) [] bodies outs refl (all_weaker Beside
        (λ (q : Task). Beside q ⊎ IsBodyBelow bodies 0 q) outs (λ q b. inl b) h)) (λ os b. tt)
    after_go (e ∷ errors) bodies outs among all h = tt

    pub tree_go : (outs : List Task) → AllByRecursion Beside outs → Goes t f entries outs (plan_tree tree)
    tree_go outs h = (
      whole_walk,
      walk_free outs h,
      λ v fits.
          let finds : FindsBodies (groups_of tree).bodies (walked v) = fits.fits entries tt in
          after_go (walked v).errors (walked v).bodies outs finds.0 finds.1 h,
      λ beside b told. tt,
    )

    pub read_go : (outs : List Task) → AllByRecursion Beside outs → Goes t f entries outs (plan_read (Some tree))
    read_go outs h = goes_then t f entries outs (plan_tree tree) _ (tree_go outs h) (λ os v. tt)

    pub free_go : (outs : List Task)
        → AllByRecursion (λ (q : Task). IsFreeBeside t f entries q (ReadHeads (ByKept tree.heads) header_levels_max [] tree.bp)) outs
        → Goes t f entries outs (plan_free (Some tree))
    free_go outs h = (whole_walk, h, λ v fits. tt, λ beside b told. tt)

  taken_go : (errors : List (Option Errno)) (tree : Tree) (outs : List Task)
      → AllByRecursion (λ (q : Task). (op : Task) → IsFreeBeside t f entries q op) outs
      → Goes t f entries outs (plan_taken errors tree)
  taken_go [] tree outs h = (
    tt,
    all_weaker (λ (q : Task). (op : Task) → IsFreeBeside t f entries q op)
        (λ (q : Task). IsFreeBeside t f entries q (TakePlaces tree)) outs (λ q b. b (TakePlaces tree)) h,
    λ v fits.
        tt,
    λ beside b told. tt,
  )
  taken_go (e ∷ errors) tree outs h = tt

  -- beside what is free of anything
  pub claim_go : (pointer : Option Bp) (outs : List Task)
      → AllByRecursion (λ (q : Task). (op : Task) → IsFreeBeside t f entries q op) outs
      → Goes t f entries outs (plan_claim pointer)
  claim_go None outs h = tt
  claim_go (Some bp) outs h = (
    tt,
    all_weaker (λ (q : Task). (op : Task) → IsFreeBeside t f entries q op)
        (λ (q : Task). IsFreeBeside t f entries q (ReadHeads ByClaim header_levels_max [] bp)) outs
        (λ q b. b (ReadHeads ByClaim header_levels_max [] bp)) h,
    λ v fits. taken_go (walked v).errors (record { bp = bp; heads = (walked v).heads }) outs h,
    λ beside b told. tt,
  )
