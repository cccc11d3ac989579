-- The trees of an orderly batch are runnable.
use Rattle.std.proofs.Common.{◌≡◌, ℕ, ◌+◌, ◌≤◌, List, [], ◌∷◌, ◌++◌, length, map, filter, count_by, Bool, true, false, ◌&&◌, ◌||◌, not, cond, Option, Some, None, IfSome, is_none, bytes_eq, eqb, eq-eqb, refl, sym, ap, ◌∙◌, subst, inl, inr, ◌⊎◌, arith, Contains}
use Rattle.std.proofs.lemmas.Slice.Eq.{bytes_eq-Decides}
use Rattle.std.proofs.lemmas.Bool.{false_from_ne_true}
use Rattle.std.specs.List.{AllByRecursion, flat_map, list_any}
use Rattle.zio_types.specs.declared.error.Errno.{Errno}
use Rattle.zio_types.specs.declared.place.Place.{Place}
use Rattle.zio_script.specs.declared.script.Item.{Item}
use Rattle.zio_script.specs.declared.script.Request.{Request}
use Rattle.zio_script.specs.declared.script.Work.{Work}
use Rattle.zio_script.specs.Accepted.{AreRising, IsOrderlyBatch, NameApart}
use Rattle.zio_script.specs.Requests.{kind_of, name_of, names_it, needs_block, requests_of}
use Rattle.zio_script.specs.Whys.{clashes, is_claim, is_read, may_share}
use Rattle.zio_cksum.proofs.AllLemmas.{all_append, all_map}
use Rattle.zio_gang.specs.declared.tree.Tree.{Tree}
use Rattle.zio_gang.specs.Attempts.{Pending}
use Rattle.zio_gang.specs.Rounds.{Admitted, Bound, admitted, block_if, pending, pending_trees, trees_of}
use Rattle.zio_gang.specs.Runs.{has_trees}
use Rattle.zio_gang.specs.Trees.{tree_places}
use Rattle.zio_gang.proofs.FateLemmas.{admitted_sum, batch_held, of_ended, of_trees, pending_sum, sum_flat, sum_map, tally}
use Rattle.zio_course.specs.declared.admission.Rules.{Rules}
use Rattle.zio_course.specs.Admissions.{IsAdmission, error_in}
use Rattle.zio_course.specs.Admitted.{AreAwaited}
use Rattle.zio_course.specs.Forests.{names_of, running, same_parent, trees_under}
use Rattle.zio_course.specs.Live.{IsLive}
use Rattle.zio_course.specs.Names.{is_some_name, named_in}
use Rattle.zio_course.specs.Runners.{AreRisingFrom, AreRunnable, Standing, joined_trees, named_places, numbers_of, places_of_block, requests_in, roots_of, rows_tell_apart}
use Rattle.zio_course.proofs.AdmittedLemmas.{rising_kept, trees_admitted}
use Rattle.zio_course.proofs.BlockLemmas.{named_between, named_own}
use Rattle.zio_course.proofs.ClearLemmas.{times_if}
use Rattle.zio_course.proofs.CourseLemmas.{once_counted, trees_all}
use Rattle.zio_course.proofs.EndLemmas.{all_in_trees}
use Rattle.zio_course.proofs.ForestLemmas.{trees_from_back}
use Rattle.zio_course.proofs.FreedLemmas.{batch_blocks}
use Rattle.zio_course.proofs.PlantLemmas.{all_low, each_root, named_of, rising_are, roots_are}
use Rattle.zio_course.proofs.RanLemmas.{AreTreesOf}
use Rattle.zio_course.proofs.ReadyLemmas.{counting, counting_is}
use Rattle.zio_course.proofs.SortLemmas.{IsOneOf, all_one, counted, one_all, one_if, one_itself}
use Rattle.zio_course.proofs.TouchLemmas.{two_apart}

-- ---- names

pub eq_swap : (a b : List ℕ) → bytes_eq a b ≡ bytes_eq b a
eq_swap a b = go (bytes_eq a b) refl (bytes_eq b a) refl
  where
    go : (x : Bool) → bytes_eq a b ≡ x → (y : Bool) → bytes_eq b a ≡ y → bytes_eq a b ≡ bytes_eq b a
    go true e true f = e ∙ sym f
    go false e false f = e ∙ sym f
    go true e false f = absurd (let g = sym f ∙ (bytes_eq-Decides b a).1 (sym ((bytes_eq-Decides a b).0 e)) in cc)
    go false e true f = absurd (let g = sym e ∙ (bytes_eq-Decides a b).1 (sym ((bytes_eq-Decides b a).0 f)) in cc)

names_swap : (a b : Option (List ℕ)) → names_it a b ≡ names_it b a
names_swap None None = refl
names_swap None (Some b) = refl
names_swap (Some a) None = refl
names_swap (Some a) (Some b) = eq_swap a b

and_swap : (p a b : Bool) → (p && a && b) ≡ (p && b && a)
and_swap true true true = refl
and_swap true true false = refl
and_swap true false true = refl
and_swap true false false = refl
and_swap false a b = refl

pub clash_swap : (apart : Bool) (v w : Work) → clashes apart v w ≡ clashes apart w v
clash_swap apart v w =
    ap (λ (b : Bool). b && not (may_share apart v w)) (names_swap (name_of v) (name_of w))
    ∙ ap (λ (b : Bool). names_it (name_of w) (name_of v) && not b) (and_swap (not apart) (is_read (kind_of v)) (is_read (kind_of w)))

none_numbered : (n : ℕ) (rs : List Request) → counted (λ (r : Request). r.number) n rs ≡ 0 → AllByRecursion (λ (r : Request). eqb r.number n ≡ false) rs
none_numbered n [] h = tt
none_numbered n (r ∷ rs) h = (
  false_from_ne_true (eqb r.number n) (λ same. let here : one_if (eqb r.number n) ≡ 1 = ap one_if same in omega arith),
  none_numbered n rs (omega arith),
)

-- Of requests that are apart by names some, each number once, are so in any order.
pub apart_of : (apart : Bool) (rs ys : List Request) → NameApart apart rs → AllByRecursion (λ (y : Request). IsOneOf y rs) ys
    → ((n : ℕ) → counted (λ (r : Request). r.number) n ys ≤ 1) → NameApart apart ys
apart_of apart rs [] names among once = tt
apart_of apart rs (y ∷ ys) names among once =
    let own : one_if (eqb y.number y.number) ≡ 1 = ap one_if (eq-eqb y.number y.number refl) in
    let first : counted (λ (r : Request). r.number) y.number (y ∷ ys) ≤ 1 = once y.number in
    let none : AllByRecursion (λ (r : Request). eqb r.number y.number ≡ false) ys = none_numbered y.number ys (omega arith) in (
      all_one (λ (q : Request). clashes apart q.work y.work ≡ false) ys
          (λ q at. differ q (one_all (λ (r : Request). eqb r.number y.number ≡ false) q ys none at) (two_apart apart rs q y names (one_all (λ (r : Request). IsOneOf r rs) q ys among.1 at) among.0)),
      apart_of apart rs ys names among.1 (λ n. let whole : counted (λ (r : Request). r.number) n (y ∷ ys) ≤ 1 = once n in omega arith),
    )
  where
    differ : (q : Request) → eqb q.number y.number ≡ false → (q ≡ y) ⊎ ((clashes apart q.work y.work ≡ false) ⊎ (clashes apart y.work q.work ≡ false)) → clashes apart q.work y.work ≡ false
    differ q other (inl same) = absurd (let f = sym other ∙ eq-eqb q.number y.number (ap (λ (r : Request). r.number) same) in cc)
    differ q other (inr (inl free)) = free
    differ q other (inr (inr free)) = clash_swap apart q.work y.work ∙ free

-- ---- counts

pub counted_by : (n : ℕ) (rs : List Request) → count_by (λ (r : Request). eqb r.number n) rs ≡ counted (λ (r : Request). r.number) n rs
counted_by n rs = sym (counting_is (λ (r : Request). eqb r.number n) rs) ∙ go rs
  where
    go : (qs : List Request) → counting (λ (r : Request). eqb r.number n) qs ≡ counted (λ (r : Request). r.number) n qs
    go [] = refl
    go (q ∷ qs) = times_if (eqb q.number n) (counting (λ (r : Request). eqb r.number n) qs) ∙ ap (λ (k : ℕ). one_if (eqb q.number n) + k) (go qs)

all_counted : (rs : List Request) → tally (λ (r : Request). 1) rs ≡ length rs
all_counted [] = refl
all_counted (r ∷ rs) = (let later : tally (λ (q : Request). 1) rs ≡ length rs = all_counted rs in omega arith)

pub trees_of_tally : (f : Request → ℕ) (trees : List (List Pending)) → tally f (requests_in trees) ≡ of_trees f trees
trees_of_tally f trees =
    sum_map f (λ (p : Pending). p.request) (joined_trees trees) ∙ sum_flat (λ (p : Pending). f p.request) (λ (tree : List Pending). tree) trees

pub joined_all : (P : Request → Type 0) (trees : List (List Pending)) → AreTreesOf P trees → AllByRecursion P (requests_in trees)
joined_all P trees h = all_map P (λ (p : Pending). p.request) (joined_trees trees) (flat trees h)
  where
    flat : (ts : List (List Pending)) → AreTreesOf P ts → AllByRecursion (λ (p : Pending). P p.request) (joined_trees ts)
    flat [] k = tt
    flat (t ∷ ts) k = all_append (λ (p : Pending). P p.request) t (joined_trees ts) k.0 (flat ts k.1)

-- ---- a claim

or_true : (b : Bool) → (b || true) ≡ true
or_true true = refl
or_true false = refl

pub one_passes : (test : Request → Bool) (y : Request) (qs : List Request) → IsOneOf y qs → test y ≡ true → list_any test qs ≡ true
one_passes test y [] at is = absurd at
one_passes test y (q ∷ qs) (inl same) is = ap (λ (b : Bool). b || list_any test qs) (ap test same ∙ is)
one_passes test y (q ∷ qs) (inr at) is = ap (λ (b : Bool). test q || b) (one_passes test y qs at is) ∙ or_true (test q)

pub any_among : (test : Request → Bool) (rs ys : List Request) → AllByRecursion (λ (y : Request). IsOneOf y rs) ys → list_any test ys ≡ true → list_any test rs ≡ true
any_among test rs [] among e = absurd (let f = e in cc)
any_among test rs (y ∷ ys) among e = go (test y) refl e (any_among test rs ys among.1)
  where
    go : (b : Bool) → test y ≡ b → (b || list_any test ys) ≡ true → (list_any test ys ≡ true → list_any test rs ≡ true) → list_any test rs ≡ true
    go true is k later = one_passes test y rs among.0 is
    go false is k later = later k

some_there : (test : Request → Bool) (ys : List Request) → list_any test ys ≡ true → 1 ≤ length ys
some_there test [] e = absurd (let f = e in cc)
some_there test (y ∷ ys) e = omega arith

-- ---- places in use

pub block_live : (live : List Place) (bound : List (List ℕ × Tree)) (needs : Bool) (name : Option (List ℕ))
    → ((n : List ℕ) → IfSome (named_in bound n) (λ tree. AllByRecursion (Contains live) (tree_places tree)))
    → AllByRecursion (Contains live) (places_of_block (block_if needs name (names_of bound)))
block_live live bound true (Some name) h =
    subst (λ (o : Option Tree). AllByRecursion (Contains live) (places_of_block o)) (named_of name bound) (go (named_in bound name) (h name))
  where
    append_none : (ps : List Place) → AllByRecursion (Contains live) ps → AllByRecursion (Contains live) (ps ++ [])
    append_none ps k = all_append (Contains live) ps [] k tt

    go : (o : Option Tree) → IfSome o (λ tree. AllByRecursion (Contains live) (tree_places tree)) → AllByRecursion (Contains live) (places_of_block o)
    go None k = tt
    go (Some tree) k = append_none (tree_places tree) k
block_live live bound true None h = tt
block_live live bound false name h = tt

module _ (live : List Place) (bound : List (List ℕ × Tree)) (birth : ℕ) (h : (n : List ℕ) → IfSome (named_in bound n) (λ tree. AllByRecursion (Contains live) (tree_places tree))) where
  abbrev IsInUse : Pending → Type 0
  IsInUse p = AllByRecursion (Contains live) (places_of_block p.block)

  tree_live : (rs : List Request) (others : List Pending) → AllByRecursion IsInUse others → AllByRecursion IsInUse (map (pending (names_of bound) birth) rs ++ others)
  tree_live [] others k = k
  tree_live (r ∷ rs) others k = (block_live live bound (needs_block r.work) (name_of r.work) h, tree_live rs others k)

  each_live : (ts : List (List Request)) → AllByRecursion IsInUse (joined_trees (pending_trees (names_of bound) birth ts))
  each_live [] = tt
  each_live (t ∷ ts) = tree_live t (joined_trees (pending_trees (names_of bound) birth ts)) (each_live ts)

  flat_live : (ps : List Pending) → AllByRecursion IsInUse ps → AllByRecursion (Contains live) (flat_map (λ (p : Pending). places_of_block p.block) ps)
  flat_live [] k = tt
  flat_live (p ∷ ps) k = all_append (Contains live) (places_of_block p.block) (flat_map (λ (q : Pending). places_of_block q.block) ps) k.0 (flat_live ps k.1)

  trees_live : (trees : List (List Request)) → AllByRecursion (Contains live) (named_places (pending_trees (names_of bound) birth trees))
  trees_live trees = flat_live (joined_trees (pending_trees (names_of bound) birth trees)) (each_live trees)

-- ---- roots

under_none : (under : Option ℕ) → same_parent under None ≡ true → under ≡ None
under_none None e = refl
under_none (Some n) e = absurd (let f = e in cc)

all_under_none : (rs : List Request) → AllByRecursion (λ (r : Request). r.under ≡ None) (filter (λ (q : Request). same_parent q.under None) rs)
all_under_none [] = tt
all_under_none (r ∷ rs) = go (same_parent r.under None) refl (all_under_none rs)
  where
    go : (b : Bool) → same_parent r.under None ≡ b → AllByRecursion (λ (q : Request). q.under ≡ None) (filter (λ (q : Request). same_parent q.under None) rs)
        → AllByRecursion (λ (q : Request). q.under ≡ None) (cond b (r ∷ filter (λ (q : Request). same_parent q.under None) rs) (filter (λ (q : Request). same_parent q.under None) rs))
    go true e later = (under_none r.under e, later)
    go false e later = later

-- ---- all together

pub kept : (P : Request → Type 0) (test : Request → Bool) (qs : List Request) → AllByRecursion P qs → AllByRecursion P (filter test qs)
kept P test [] h = tt
kept P test (q ∷ qs) h = go (test q) (kept P test qs h.1)
  where
    go : (b : Bool) → AllByRecursion P (filter test qs) → AllByRecursion P (cond b (q ∷ filter test qs) (filter test qs))
    go true rest = (h.0, rest)
    go false rest = rest

pub batch_runnable : (s : Standing) (apart : Bool) (suspended : List (List Pending)) (awaited : List ℕ → Bool) (bound : List (List ℕ × Tree)) (number : ℕ) (items : List Item) (slots : List (ℕ × ℕ)) (rules : List Rules)
    → rows_tell_apart s.rows ≡ apart → AreRising (requests_of items) → IsOrderlyBatch apart (requests_of items) → AreAwaited suspended awaited
    → IsAdmission (has_trees suspended) awaited (is_some_name bound) (trees_of (requests_of items)) slots rules
    → IsLive s.live bound → AreRunnable s (pending_trees (names_of bound) number (trees_of (running slots rules items)))
batch_runnable s apart suspended awaited bound number items slots rules rows rising orderly waits admission_is live =
    let requests : List Request = requests_of items in
    let error : ℕ → Option Errno = error_in slots rules in
    let names : Bound = names_of bound in
    let rs : List Request = running slots rules items in
    let rising_rs : AreRising rs = rising_kept (λ (r : Request). is_none (error r.number)) requests rising in
    let under : trees_under rs None ≡ trees_of rs = sym (trees_from_back rs rising_rs) in
    let trees : List (List Pending) = pending_trees names number (trees_of rs) in
    let a : Admitted = admitted suspended (is_some_name bound) (trees_of requests) in
    let trees_are : trees_of rs ≡ a.trees = trees_admitted suspended awaited (is_some_name bound) items slots rules rising waits admission_is in
    let sums : (f : Request → ℕ) → of_ended f a.answered + tally f (requests_in trees) ≡ tally f requests = λ f.
    (let one : tally f (requests_in trees) ≡ of_trees f trees = trees_of_tally f trees in
    let two : of_trees f trees ≡ tally (tally f) (trees_of rs) = pending_sum f names number (trees_of rs) in
    let three : tally (tally f) (trees_of rs) ≡ tally (tally f) a.trees = ap (tally (tally f)) trees_are in
    let four : of_ended f a.answered + tally (tally f) a.trees ≡ tally (tally f) (trees_of requests) = admitted_sum f suspended (is_some_name bound) (trees_of requests) in
    let five : tally (tally f) (trees_of requests) ≡ tally f requests = batch_held requests orderly.parents rising f in omega arith) in
    let once : (n : ℕ) → counted (λ (r : Request). r.number) n (requests_in trees) ≤ 1 = λ n.
    (let sum = sums (λ (r : Request). one_if (eqb r.number n)) in
    let most : counted (λ (r : Request). r.number) n requests ≤ 1 = once_counted n requests rising in omega arith) in
    let among_rs : AllByRecursion (λ (t : List Request). AllByRecursion (λ (r : Request). IsOneOf r requests) t) (trees_of rs) =
    all_in_trees (λ (r : Request). IsOneOf r requests) rs (kept (λ (r : Request). IsOneOf r requests) (λ (r : Request). is_none (error r.number)) requests (one_itself requests)) in
    let among : AllByRecursion (λ (r : Request). IsOneOf r requests) (requests_in trees) =
    joined_all (λ (r : Request). IsOneOf r requests) trees (trees_all (λ (r : Request). IsOneOf r requests) names number (trees_of rs) among_rs) in
    let names_apart : NameApart apart (requests_in trees) = apart_of apart requests (requests_in trees) orderly.names among once in
    record {
      each = subst (λ (ts : List (List Request)). length (roots_of (pending_trees names number ts)) ≡ length (pending_trees names number ts)) under (each_root names number rs None);
      rising = subst (λ (ts : List (List Request)). AreRisingFrom 0 (numbers_of (roots_of (pending_trees names number ts)))) under
          (subst (λ (qs : List Request). AreRisingFrom 0 (numbers_of qs)) (sym (roots_are names number rs None))
          (rising_are (λ (q : Request). same_parent q.under None) 0 rs (all_low rs) rising_rs));
      once = λ n. subst (λ (k : ℕ). k ≤ 1) (sym (counted_by n (requests_in trees))) (once n);
      apart = subst (λ (b : Bool). NameApart b (requests_in trees)) (sym rows) names_apart;
      claim = λ has.
          (let alone : length requests ≡ 1 = orderly.claim (any_among (λ (r : Request). is_claim (kind_of r.work)) requests (requests_in trees) among has) in
          let some : 1 ≤ length (requests_in trees) = some_there (λ (r : Request). is_claim (kind_of r.work)) (requests_in trees) has in
          let sum = sums (λ (r : Request). 1) in
          let left : tally (λ (r : Request). 1) (requests_in trees) ≡ length (requests_in trees) = all_counted (requests_in trees) in
          let right : tally (λ (r : Request). 1) requests ≡ length requests = all_counted requests in omega arith);
      live = trees_live s.live bound number live.there (trees_of rs);
      under = subst (λ (ts : List (List Request)). AllByRecursion (λ (r : Request). r.under ≡ None) (roots_of (pending_trees names number ts))) under
          (subst (AllByRecursion (λ (r : Request). r.under ≡ None)) (sym (roots_are names number rs None)) (all_under_none rs));
      own = named_own s.live bound live (joined_trees trees) (batch_blocks bound number (trees_of rs));
      between = named_between s.live bound live (joined_trees trees) (batch_blocks bound number (trees_of rs));
    }

-- what holds of each request that has no error holds of those that are kept for having none
pub kept_none : (P : Request → Type 0) (error : ℕ → Option Errno) (qs : List Request) → AllByRecursion (λ (r : Request). error r.number ≡ None → P r) qs
    → AllByRecursion P (filter (λ (r : Request). is_none (error r.number)) qs)
kept_none P error [] h = tt
kept_none P error (q ∷ qs) h = go (error q.number) refl (kept_none P error qs h.1)
  where
    go : (o : Option Errno) → error q.number ≡ o → AllByRecursion P (filter (λ (r : Request). is_none (error r.number)) qs)
        → AllByRecursion P (cond (is_none (error q.number)) (q ∷ filter (λ (r : Request). is_none (error r.number)) qs) (filter (λ (r : Request). is_none (error r.number)) qs))
    go None is rest = subst (λ (e : Option Errno). AllByRecursion P (cond (is_none e) (q ∷ filter (λ (r : Request). is_none (error r.number)) qs) (filter (λ (r : Request). is_none (error r.number)) qs))) (sym is) (h.0 is, rest)
    go (Some x) is rest = subst (λ (e : Option Errno). AllByRecursion P (cond (is_none e) (q ∷ filter (λ (r : Request). is_none (error r.number)) qs) (filter (λ (r : Request). is_none (error r.number)) qs))) (sym is) rest
