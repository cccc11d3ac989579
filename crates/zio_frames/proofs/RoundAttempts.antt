-- What is asked for an attempt of a request and of the trees under it, and for all attempts of a tree.
use Rattle.std.proofs.Common.{◌≡◌, ◌≢◌, ℕ, zero, suc, ◌+◌, ◌≤◌, List, [], ◌∷◌, Bool, true, false, Option, Some, None, Contains, ⊎_elim, refl, sym, ap, ◌∙◌, subst, arith}
use Rattle.std.specs.List.{AllByRecursion}
use Rattle.zio_types.specs.Choices.{Choice}
use Rattle.zio_types.specs.Paths.{path_steps_max}
use Rattle.zio_blkptr.specs.declared.pointer.Bp.{Bp}
use Rattle.zio_blkptr.specs.Pointers.{pointer_of}
use Rattle.zio_script.specs.declared.script.Work.{Work}
use Rattle.zio_script.specs.declared.script.Work.TheVariants.{Claim, Free, Null, Read as WorkRead, Write}
use Rattle.zio_script.specs.Bodies.{body_of}
use Rattle.zio_cksum.proofs.AllLemmas.{all_contains, all_weaker}
use Rattle.zio_gang.specs.declared.tree.Tree.{Tree}
use Rattle.zio_gang.specs.Attempts.{Child, Pending, Terms, children_of, insert_children, now_alone, reexecutions_max}
use Rattle.std.specs.Prelude.{map}
use Rattle.zio_gang.specs.Trees.{header_levels_max}
use Rattle.zio_gang.specs.Writes.{content_of}
use Rattle.zio_trace.specs.Families.{Forest, NoTrees, NotIn, TreeOf, flat}
use Rattle.zio_trace.specs.Footprints.{AreFrom}
use Rattle.zio_trace.specs.Keys.{NumbersOnce, bit, count_in}
use Rattle.zio_trace.specs.Labels.{same_number}
use Rattle.zio_trace.specs.Plans.{Kids, TaskPlan, plan, plan_again, plan_free, plan_kids, plan_left, plan_own, plan_read, plan_settle, plan_write}
use Rattle.zio_trace.specs.Rounds.{settles}
use Rattle.zio_trace.specs.Separate.{IsNoClaim}
use Rattle.zio_trace.specs.SoundRounds.{DifferentNumbers, IsBlockIn, IsFree, IsRead, IsSoundRound, IsWrite, shared_in}
use Rattle.zio_trace.specs.Tasks.{Attempt, ByKept, One, ReadHeads, Settle, Settled, Task, Value, attempted}
use Rattle.zio_trace.proofs.ChoiceLemmas.{contained_cases}
use Rattle.zio_trace.proofs.FreeLemmas.{ask_free}
use Rattle.zio_trace.proofs.FreeParts.{attempts}
use Rattle.zio_trace.proofs.LabelLemmas.{number_itself}
use Rattle.zio_trace.proofs.ListLemmas.{contains_first, contains_later}
use Rattle.zio_trace.proofs.OwnWork.{own_bodies, own_copies, own_free_walk, own_parts, own_walk}
use Rattle.zio_trace.proofs.PairLemmas.{all_of}
use Rattle.zio_trace.proofs.RequestFootprints.{from_from}
use Rattle.zio_trace.proofs.SoundRoundLemmas.{counted, first_differs, first_tree, from_contained, kids_once, left_once, other_trees, others_once, tree_once}
use Rattle.zio_frames.specs.OfRound.{FitsWhichever, IsTaskOf, IsTreeOf}
use Rattle.zio_frames.proofs.RoundReads.{IsBesideReads, claim_go, free_go, read_go}
use Rattle.zio_frames.proofs.RoundWalks.{Goes, IsFreeBeside, Walks, goes_then, stand_in, walks_then}
use Rattle.zio_frames.proofs.RoundWrites.{IsBesideWrite, answers, write_go}

-- ---- requests

from_some : (ps qs rs : List Pending) → ((q : Pending) → Contains rs q → Contains qs q) → AreFrom ps qs → AreFrom ps rs
from_some ps qs rs f h = all_of _ rs (λ q c. all_contains _ qs q h (f q c))

-- no request under a root has its number
kids_differ : (p : Pending) (kids : Forest) → NumbersOnce (TreeOf p kids NoTrees) → (x : Pending) → Contains (flat kids) x
    → x.request.number ≢ p.request.number
kids_differ p kids once x c same =
    let n : ℕ = p.request.number in
    let some : 1 ≤ count_in n kids = subst (λ (m : ℕ). 1 ≤ count_in m kids) same (counted kids x c) in
    let one : bit (same_number p.request.number n) ≡ 1 = ap bit (number_itself n) in
    let all : bit (same_number p.request.number n) + (count_in n kids + 0) ≤ 1 = once n in
    absurd (omega arith)

-- the round's request that it is
request_in : (f : Forest) (p : Pending) (qs : List Pending) → AreFrom (flat f) qs → Contains qs p
    → (r : Pending) × Contains (flat f) r × (r.request ≡ p.request) × (r.block ≡ p.block)
request_in f p qs from c =
    all_contains (λ (q : Pending). (r : Pending) × Contains (flat f) r × (r.request ≡ q.request) ×
    (r.block ≡ q.block)) qs p from c

only_one : (f : Forest) (one p : Pending) → f ≡ TreeOf one NoTrees NoTrees → Contains (flat f) p → one ≡ p
only_one f one p is c =
    ⊎_elim (λ (e : one ≡ p). e) (λ (none : Contains [] p). absurd (all_contains (λ (x : Pending). ⊥) [] p tt none))
    (contained_cases one [] p (subst (λ (g : Forest). Contains (flat g) p) is c))

module _ (t : Terms) (sizes : ℕ → ℕ) (f : Forest) (entries : List Choice) (round : IsSoundRound t sizes f) where
  -- ---- the trees under a request

  -- an attempt of one of the trees
  abbrev IsKid : ℕ → Forest → Task → Type 0
  IsKid attempt all q =
      (r : Pending) × (kids : Forest) × (q ≡ Attempt attempt r kids) ×
      ((x : Pending) → Contains (r ∷ flat kids) x → Contains (flat all) x)

  -- that is none of these
  abbrev IsOtherKid : ℕ → Forest → Forest → Task → Type 0
  IsOtherKid attempt all g q =
      (r : Pending) × (kids : Forest) × (q ≡ Attempt attempt r kids) × ((x : Pending) → Contains (r ∷ flat kids) x → Contains (flat all) x)
      × DifferentNumbers (r ∷ flat kids) (flat g)

  kids_walk : (attempt : ℕ) (all g : Forest) (outs : List Task) → AreFrom (flat f) (flat all)
      → ((x : Pending) → Contains (flat g) x → Contains (flat all) x) → NumbersOnce g
      → AllByRecursion (IsOtherKid attempt all g) outs
      → Walks t f entries (λ os (k : Kids). AllByRecursion (IsKid attempt all) os) outs (plan_kids attempt g)
  kids_walk attempt all NoTrees outs from inside once h =
      all_weaker (IsOtherKid attempt all NoTrees) (IsKid attempt all) outs (λ q k. (k.0, k.1, k.2, k.3)) h
  kids_walk attempt all (TreeOf p kids others) outs from inside once h =
      let op : Task = Attempt attempt p kids in
      let mine : (x : Pending) → Contains (p ∷ flat kids) x → Contains (flat all) x = λ x c. inside x (first_tree p kids others x c) in
      let later : (x : Pending) → Contains (flat others) x → Contains (flat all) x = λ x c. inside x (other_trees p kids others x c) in
      let here : AreFrom (flat f) (p ∷ flat kids) = from_some (flat f) (flat all) (p ∷ flat kids) mine from in
      let End : List Task → Kids → Type 0 = λ os k. AllByRecursion (IsKid attempt all) os in
      let more : AllByRecursion (IsOtherKid attempt all others) outs = all_weaker (IsOtherKid attempt all (TreeOf p kids others))
      (IsOtherKid attempt all others) outs
      (λ q k. (k.0, k.1, k.2, k.3, λ x y cx cy. k.4 x y cx (other_trees p kids others y cy))) h in (
        record { from = here; once = tree_once p kids others once },
        all_weaker (IsOtherKid attempt all (TreeOf p kids others)) (λ (q : Task). IsFreeBeside t f entries q op) outs
            (λ q k. subst (λ (x : Task). IsFreeBeside t f entries x op) (sym k.2)
            (λ beside journal still at i j differ. attempts t sizes f journal at i j round
            (answers t entries journal still) attempt attempt k.0 p k.1 kids differ
            (from_some (flat f) (flat all) (k.0 ∷ flat k.1) k.3 from) here (λ x y cx cy. k.4 x y cx (first_tree p kids others y cy)))) h,
        λ v fits. walks_then t f entries End End outs (plan_kids attempt others) _
            (kids_walk attempt all others outs from later (others_once p kids others once) more) (λ os k e. e),
        λ beside b told. walks_then t f entries End End (op ∷ outs) (plan_kids attempt others) _
            (kids_walk attempt all others (op ∷ outs) from later (others_once p kids others once)
            ((p, kids, refl, mine, first_differs p kids others once), more)) (λ os k e. e),
      )

  -- ---- its own work

  module _ (attempt : ℕ) (p : Pending) (kids : Forest) (tree : IsTreeOf f p kids) where
    mine_in : (r : Pending) × Contains (flat f) r × (r.request ≡ p.request) × (r.block ≡ p.block)
    mine_in = request_in f p (p ∷ flat kids) tree.from (contains_first p (flat kids))

    block_in : (block : Tree) → p.block ≡ Some block → IsBlockIn f block
    block_in block is = (mine_in.0, mine_in.1, mine_in.3 ∙ is)

    module _ (r : Pending) (under : Forest) (inside : (x : Pending) → Contains (r ∷ flat under) x → Contains (flat kids) x) where
      from_three : AreFrom (flat f) (p ∷ r ∷ flat under)
      from_three = (tree.from.0, from_some (flat f) (flat kids) (r ∷ flat under) inside tree.from.1)

      not_mine : NotIn p.request.number (r ∷ flat under)
      not_mine = all_of _ (r ∷ flat under) (λ x c. kids_differ p kids tree.once x (inside x c))

      -- a request that claims has no trees under it
      no_claim : (name : List ℕ) (pointer : _) → p.request.work ≡ Claim name pointer → ⊥
      no_claim name pointer is =
          ⊎_elim
          (λ (none : AllByRecursion (λ (q : Pending). IsNoClaim q.request.work) (flat f)).
          let work : mine_in.0.request.work ≡ Claim name pointer = ap (λ x. x.work) mine_in.2 ∙ is in
          subst IsNoClaim work (all_contains (λ (q : Pending). IsNoClaim q.request.work) (flat f) mine_in.0 none mine_in.1))
          (λ (alone : (q : Pending) × (f ≡ TreeOf q NoTrees NoTrees)).
          let other = request_in f r (p ∷ r ∷ flat under) from_three (contains_later p (r ∷ flat under) r
          (contains_first r (flat under))) in
          let a : alone.0 ≡ mine_in.0 = only_one f alone.0 mine_in.0 alone.1 mine_in.1 in
          let b : alone.0 ≡ other.0 = only_one f alone.0 other.0 alone.1 other.1 in
          let same : other.0 ≡ mine_in.0 = sym b ∙ a in
          let numbers : r.request.number ≡ p.request.number =
          sym (ap (λ x. x.number) other.2) ∙ ap (λ (x : Pending). x.request.number) same ∙ ap (λ x. x.number) mine_in.2 in
          absurd (not_mine.0 numbers))
          round.claims

      beside_write : IsWrite p.request.work → IsBesideWrite t f entries p (Attempt attempt r under)
      beside_write w = record {
        asks = λ a beside journal still at i k differ. ask_free journal t (shared_in t f) at i k (Attempt attempt r under) a differ refl;
        parts = λ more sum copies levels path bytes beside journal still at i k differ.
            own_parts t sizes f journal at i k round
            (answers t entries journal still) p r under differ from_three not_mine attempt more sum copies levels path bytes w;
        copies = λ bytes a places now by chosen beside journal still at i k differ.
            own_copies t sizes f journal at i k round
            (answers t entries journal still) p r under differ from_three not_mine attempt bytes a places w now by
            (sym (chosen journal still));
      }

      beside_reads : (block : Tree) → IsRead p.request.work → p.block ≡ Some block
          → IsBesideReads t f entries block (Attempt attempt r under)
      beside_reads block reads is = record {
        walk = λ beside journal still at i k differ.
            own_walk t sizes f journal at i k round
            (answers t entries journal still) p r under differ from_three not_mine attempt block reads is;
        bodies = λ c piece beside journal still at i k differ.
            own_bodies t sizes f journal at i k round
            (answers t entries journal still) p r under differ from_three not_mine attempt block c reads is piece;
      }

      beside_free : (block : Tree) → IsFree p.request.work → p.block ≡ Some block
          → IsFreeBeside t f entries (Attempt attempt r under) (ReadHeads (ByKept block.heads) header_levels_max [] block.bp)
      beside_free block frees is = λ beside journal still at i k differ.
          own_free_walk t sizes f journal at i k round
          (answers t entries journal still) p r under differ from_three not_mine attempt block frees is

    -- what holds beside each of the trees under it
    beside_kids : (P : Task → Type 0) (outs : List Task)
        → ((r : Pending) (under : Forest) → ((x : Pending) → Contains (r ∷ flat under) x → Contains (flat kids) x) → P
        (Attempt attempt r under))
        → AllByRecursion (IsKid attempt kids) outs → AllByRecursion P outs
    beside_kids P outs h all = all_weaker (IsKid attempt kids) P outs (λ q k. subst P (sym k.2) (h k.0 k.1 k.3)) all

    read_on : (block : Option Tree) → p.block ≡ block → IsRead p.request.work → (outs : List Task)
        → AllByRecursion (IsKid attempt kids) outs → Goes t f entries outs (plan_read block)
    read_on None is reads outs all = tt
    read_on (Some block) is reads outs all =
        read_go t sizes f entries round block (block_in block is) outs
        (beside_kids (IsBesideReads t f entries block) outs (λ r under inside. beside_reads r under inside block reads is) all)

    free_on : (block : Option Tree) → p.block ≡ block → IsFree p.request.work → (outs : List Task)
        → AllByRecursion (IsKid attempt kids) outs → Goes t f entries outs (plan_free block)
    free_on None is frees outs all = tt
    free_on (Some block) is frees outs all =
        free_go t sizes f entries round block (block_in block is) outs
        (beside_kids (λ (q : Task). IsFreeBeside t f entries q (ReadHeads
        (ByKept block.heads) header_levels_max [] block.bp)) outs (λ r under inside.
        beside_free r under inside block frees is) all)

    own_go : (work : Work) → p.request.work ≡ work → (pointers : List (Option Bp)) (outs : List Task)
        → AllByRecursion (IsKid attempt kids) outs
        → Goes t f entries outs (plan_own t attempt p work pointers)
    own_go Null is pointers outs all = tt
    own_go (WorkRead name prio) is pointers outs all = read_on p.block refl (subst IsRead (sym is) tt) outs all
    own_go (Write name sum copies prio body) is pointers outs all =
        let write : IsWrite p.request.work = subst IsWrite (sym is) tt in
        goes_then t f entries outs (plan_write t attempt p sum copies path_steps_max [] (content_of pointers (body_of body))) _
        (write_go t sizes f entries round attempt p sum copies
        (record { from = (tree.from.0, tt); write = write }) path_steps_max [] (content_of pointers (body_of body)) outs
        (beside_kids (IsBesideWrite t f entries p) outs (λ r under inside. beside_write r under inside write) all))
        (λ os v. tt)
    own_go (Free name) is pointers outs all = free_on p.block refl (subst IsFree (sym is) tt) outs all
    own_go (Claim name pointer) is pointers outs all =
        claim_go t sizes f entries round (pointer_of pointer) outs
        (beside_kids (λ (q : Task). (op : Task) → IsFreeBeside t f entries q op) outs
        (λ r under inside op. absurd (no_claim r under inside name pointer is)) all)

    pub attempt_go : Goes t f entries [] (plan t (Attempt attempt p kids))
    attempt_go =
        walks_then t f entries (λ os (k : Kids). AllByRecursion (IsKid attempt kids) os) (λ os v. Unit {0}) [] (plan_kids attempt kids) _
        (kids_walk attempt kids kids [] tree.from.1 (λ x c. c) (kids_once p kids NoTrees tree.once) tt)
        (λ os k all. goes_then t f entries os (plan_own t attempt p p.request.work
        (map (λ (c : Child). c.pointer) (insert_children (children_of k.returns) p.kept))) _
        (own_go p.request.work refl (map (λ (c : Child). c.pointer) (insert_children (children_of k.returns) p.kept)) os all)
        (λ os own. tt))

  -- ---- all attempts

  left_go : (one : One) (left : Forest) (outs : List Task) (again : Pending → Forest → TaskPlan Settled)
      → ((p : Pending) (kids others : Forest) → left ≡ TreeOf p kids others → Goes t f entries outs (again p kids))
      → Goes t f entries outs (plan_left one left again)
  left_go one NoTrees outs again h = tt
  left_go one (TreeOf p kids others) outs again h = goes_then t f entries outs (again p kids) _ (h p kids others refl) (λ os later. tt)

  again_go : (alone : Bool) (one : One) (outs : List Task) (again : Pending → Forest → TaskPlan Settled)
      → ((p : Pending) (kids others : Forest) → one.left ≡ TreeOf p kids others → Goes t f entries outs (again p kids))
      → Goes t f entries outs (plan_again alone one again)
  again_go true one outs again h = left_go one one.left outs again h
  again_go false one outs again h = tt

  -- what is left of a tree of the round is one
  left_of_tree : (attempt : ℕ) (p : Pending) (kids : Forest) (v : Value) (q : Pending) (under others : Forest) → IsTreeOf f p kids
      → FitsWhichever t entries (Attempt attempt p kids) v
      → (attempted v).left ≡ TreeOf q under others → IsTreeOf f q under
  left_of_tree attempt p kids v q under others tree fits is =
      let whole : AreFrom (flat f) (flat (attempted v).left) = from_from (flat f) (p ∷ flat kids)
      (flat (attempted v).left) tree.from (fits.fits entries tt) in
      record {
        from = from_some (flat f) (flat (TreeOf q under others)) (q ∷ flat under) (first_tree q under others)
            (subst (λ (g : Forest). AreFrom (flat f) (flat g)) is whole);
        once = tree_once q under others (subst NumbersOnce is (left_once attempt p kids v fits.left tree.once));
      }

  settle_go : (more attempt : ℕ) (p : Pending) (kids : Forest) → IsTreeOf f p kids
      → Goes t f entries [] (plan_settle more attempt p kids)
  settle_go zero attempt p kids tree = (tree, tt, λ v fits. tt, λ beside b told. tt)
  settle_go (suc more) attempt p kids tree = (
    tree,
    tt,
    λ v fits. again_go (now_alone (attempted v).return.bits) (attempted v) [] (plan_settle more (attempt + 1))
        (λ q under others is. settle_go more (attempt + 1) q under (left_of_tree attempt p kids v q under others tree fits is)),
    λ beside b told.
        let v : Value = stand_in (Attempt attempt p kids) told in
        again_go (now_alone (attempted v).return.bits) (attempted v) (Attempt attempt p kids ∷ []) (plan_settle more (attempt + 1))
        (λ q under others is. absurd (let no : NoTrees ≡ TreeOf q under others = is in cc)),
  )

  pub settles_go : (p : Pending) (kids : Forest) → IsTreeOf f p kids → Goes t f entries [] (plan t (Settle p kids))
  settles_go p kids tree =
      goes_then t f entries [] (plan_settle reexecutions_max 0 p kids) _ (settle_go reexecutions_max 0 p kids tree) (λ os x. tt)

  pub trees_of_round : (g : Forest) → NumbersOnce g → ((q : Pending) → Contains (flat g) q → Contains (flat f) q)
      → AllByRecursion (IsTaskOf t f entries) (settles g)
  trees_of_round NoTrees once inside = tt
  trees_of_round (TreeOf p kids others) once inside = (
    record {
      from =
          from_contained (flat f) (p ∷ flat kids) (λ q c. inside q
          (first_tree p kids others q c));
      once = tree_once p kids others once;
    },
    trees_of_round others (others_once p kids others once) (λ q c. inside q (other_trees p kids others q c)),
  )
