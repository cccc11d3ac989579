-- What a round leaves of runnable trees is runnable.
use Rattle.std.proofs.Common.{◌≡◌, ℕ, suc, ◌+◌, ◌≤◌, List, [], ◌∷◌, ◌++◌, length, map, count_by, Bool, true, false, cond, Option, Some, None, eqb, eq-eqb, refl, sym, ap, ◌∙◌, subst, inl, inr, arith, Contains}
use Rattle.std.specs.Prelude.{option_to_list}
use Rattle.std.specs.List.{AllByRecursion}
use Rattle.zio_faults.specs.declared.table.Row.{Row}
use Rattle.zio_script.specs.declared.script.Request.{Request}
use Rattle.zio_script.specs.Accepted.{NameApart}
use Rattle.zio_cksum.proofs.AllLemmas.{all_map, all_weaker}
use Rattle.zio_gang.specs.Attempts.{Pending}
use Rattle.zio_course.specs.Runners.{AreRestsOf, AreRisingFrom, AreRunnable, IsRestOf, IsRoundEnd, IsSamePending, SeenEnd, Standing, StandsAfter, has_claim, is_numbered, joined_trees, named_places, numbers_of, requests_in, root_of, roots_of, rows_tell_apart}
use Rattle.zio_course.proofs.AdmittedLemmas.{not_both}
use Rattle.zio_course.proofs.BlockLemmas.{AreBetween, IsOwnApart, still_between, still_own}
use Rattle.zio_course.proofs.DoneLemmas.{contains_one, one_contains}
use Rattle.zio_course.proofs.EndLemmas.{times, times_is}
use Rattle.zio_course.proofs.RunnableLemmas.{apart_of, counted_by}
use Rattle.zio_course.proofs.SortLemmas.{IsOneOf, counted, one_all, one_left, one_map, one_right}
use Rattle.zio_course.proofs.ClearLemmas.{times_tally}

-- ---- rests

-- a request that is left, and the one that it was
pub record RestIn (tree : List Pending) (q : Pending) : Type 0 where
  pub old : Pending
  pub at : IsOneOf old tree
  pub same : IsSamePending old q

further : (p : Pending) (ps : List Pending) (qs : List Pending) → AllByRecursion (RestIn ps) qs → AllByRecursion (RestIn (p ∷ ps)) qs
further p ps qs h = all_weaker (RestIn ps) (RestIn (p ∷ ps)) qs (λ q r. record { old = r.old; at = inr r.at; same = r.same }) h

rest_in : (tree left : List Pending) → IsRestOf tree left → AllByRecursion (RestIn tree) left
rest_in [] left h = absurd h
rest_in (p ∷ []) [] h = absurd h
rest_in (p ∷ []) (q ∷ qs) h = subst (λ (xs : List Pending). AllByRecursion (RestIn (p ∷ [])) (q ∷ xs)) (sym h.1) (record { old = p; at = inl refl; same = h.0 }, tt)
rest_in (p ∷ r ∷ ps) [] (inl h) = absurd h
rest_in (p ∷ r ∷ ps) (q ∷ qs) (inl h) = (record { old = p; at = inl refl; same = h.0 }, further p (r ∷ ps) qs (rest_in (r ∷ ps) qs h.1))
rest_in (p ∷ r ∷ ps) left (inr h) = further p (r ∷ ps) left (rest_in (r ∷ ps) left h)

-- the root of what is left is the tree's
record SameRoot (tree left : List Pending) : Type 0 where
  old : Pending
  now : Pending
  old_is : root_of tree ≡ Some old
  now_is : root_of left ≡ Some now
  same : now.request ≡ old.request

root_push : (p : Pending) (ps : List Pending) (q : Pending) → root_of ps ≡ Some q → root_of (p ∷ ps) ≡ Some q
root_push p [] q e = absurd (let no_root = e in cc)
root_push p (r ∷ ps) q e = e

same_root : (tree left : List Pending) → IsRestOf tree left → SameRoot tree left
same_root [] left h = absurd h
same_root (p ∷ []) [] h = absurd h
same_root (p ∷ []) (q ∷ qs) h = record {
  old = p;
  now = q;
  old_is = refl;
  now_is = ap (λ (xs : List Pending). root_of (q ∷ xs)) h.1;
  same = h.0.request;
}
same_root (p ∷ r ∷ ps) [] (inl h) = absurd h
same_root (p ∷ r ∷ ps) (q ∷ qs) (inl h) =
    let s = same_root (r ∷ ps) qs h.1 in record { old = s.old; now = s.now; old_is = s.old_is; now_is = root_push q qs s.now s.now_is; same = s.same }
same_root (p ∷ r ∷ ps) left (inr h) =
    let s = same_root (r ∷ ps) left h in record { old = s.old; now = s.now; old_is = s.old_is; now_is = s.now_is; same = s.same }

-- ---- roots

roots_first : (tree : List Pending) (trees : List (List Pending)) (p : Pending) → root_of tree ≡ Some p → roots_of (tree ∷ trees) ≡ p.request ∷ roots_of trees
roots_first tree trees p is = ap (λ (o : Option Pending). map (λ (q : Pending). q.request) (option_to_list o) ++ roots_of trees) is

least_lower : (least more : ℕ) (ns : List ℕ) → least ≤ more → AreRisingFrom more ns → AreRisingFrom least ns
least_lower least more [] h rising = tt
least_lower least more (n ∷ ns) h rising = (let up : more ≤ n = rising.0 in omega arith, rising.1)

pub rests_each : (trees left : List (List Pending)) → AreRestsOf trees left → length (roots_of left) ≡ length left
rests_each [] [] h = refl
rests_each [] (l ∷ left) h = absurd h
rests_each (tree ∷ trees) [] h = refl
rests_each (tree ∷ trees) (l ∷ left) (inl h) =
    let s = same_root tree l h.0 in
    let first : length (roots_of (l ∷ left)) ≡ length (s.now.request ∷ roots_of left) = ap length (roots_first l left s.now s.now_is) in
    let later : length (roots_of left) ≡ length left = rests_each trees left h.1 in
    first ∙ ap (λ (n : ℕ). suc n) later
rests_each (tree ∷ trees) (l ∷ left) (inr h) = rests_each trees (l ∷ left) h

-- the numbers of the roots rise
pub rests_rising : (trees left : List (List Pending)) (least : ℕ) → AllByRecursion (λ (tree : List Pending). (p : Pending) × (root_of tree ≡ Some p)) trees → AreRestsOf trees left
    → AreRisingFrom least (numbers_of (roots_of trees)) → AreRisingFrom least (numbers_of (roots_of left))
rests_rising [] [] least roots h rising = tt
rests_rising [] (l ∷ left) least roots h rising = absurd h
rests_rising (tree ∷ trees) [] least roots h rising = tt
rests_rising (tree ∷ trees) (l ∷ left) least roots (inl h) rising =
    let s = same_root tree l h.0 in
    let up = subst (λ (rs : List Request). AreRisingFrom least (numbers_of rs)) (roots_first tree trees s.old s.old_is) rising in
    subst (λ (rs : List Request). AreRisingFrom least (numbers_of rs)) (sym (roots_first l left s.now s.now_is))
    (subst (λ (r : Request). AreRisingFrom least (r.number ∷ numbers_of (roots_of left))) (sym s.same)
    (up.0, rests_rising trees left (s.old.request.number + 1) roots.1 h.1 up.1))
rests_rising (tree ∷ trees) (l ∷ left) least roots (inr h) rising =
    let up = subst (λ (rs : List Request). AreRisingFrom least (numbers_of rs)) (roots_first tree trees roots.0.0 roots.0.1) rising in
    rests_rising trees (l ∷ left) least roots.1 h (least_lower least (roots.0.0.request.number + 1) (numbers_of (roots_of trees)) (let low : least ≤ roots.0.0.request.number = up.0 in omega arith) up.1)

-- what holds of the roots holds of those that are left
pub rests_roots : (P : Request → Type 0) (trees left : List (List Pending)) → AllByRecursion (λ (tree : List Pending). (p : Pending) × (root_of tree ≡ Some p)) trees → AreRestsOf trees left
    → AllByRecursion P (roots_of trees) → AllByRecursion P (roots_of left)
rests_roots P [] [] roots h all = tt
rests_roots P [] (l ∷ left) roots h all = absurd h
rests_roots P (tree ∷ trees) [] roots h all = tt
rests_roots P (tree ∷ trees) (l ∷ left) roots (inl h) all =
    let s = same_root tree l h.0 in
    let each = subst (AllByRecursion P) (roots_first tree trees s.old s.old_is) all in
    subst (AllByRecursion P) (sym (roots_first l left s.now s.now_is)) (subst P (sym s.same) each.0, rests_roots P trees left roots.1 h.1 each.1)
rests_roots P (tree ∷ trees) (l ∷ left) roots (inr h) all =
    let each = subst (AllByRecursion P) (roots_first tree trees roots.0.0 roots.0.1) all in rests_roots P trees (l ∷ left) roots.1 h each.1

roots_less : (trees : List (List Pending)) → length (roots_of trees) ≤ length trees
roots_less [] = omega arith
roots_less (tree ∷ trees) = go (root_of tree) (roots_less trees)
  where
    go : (o : Option Pending) → length (roots_of trees) ≤ length trees → length (map (λ (q : Pending). q.request) (option_to_list o) ++ roots_of trees) ≤ length (tree ∷ trees)
    go None later = omega arith
    go (Some q) later = omega arith

-- where there are as many roots as trees, each has one
pub roots_there : (trees : List (List Pending)) → length (roots_of trees) ≡ length trees → AllByRecursion (λ (tree : List Pending). (p : Pending) × (root_of tree ≡ Some p)) trees
roots_there [] h = tt
roots_there (tree ∷ trees) h = go (root_of tree) refl h (roots_less trees) (roots_there trees)
  where
    go : (o : Option Pending) → root_of tree ≡ o → length (map (λ (q : Pending). q.request) (option_to_list o) ++ roots_of trees) ≡ length (tree ∷ trees) → length (roots_of trees) ≤ length trees
        → (length (roots_of trees) ≡ length trees → AllByRecursion (λ (t : List Pending). (p : Pending) × (root_of t ≡ Some p)) trees)
        → AllByRecursion (λ (t : List Pending). (p : Pending) × (root_of t ≡ Some p)) (tree ∷ trees)
    go None is same less later = absurd (omega arith)
    go (Some q) is same less later = ((q, is), later (omega arith))

-- ---- requests

-- each request that is left was in the trees
pub rests_in : (trees left : List (List Pending)) → AreRestsOf trees left → AllByRecursion (RestIn (joined_trees trees)) (joined_trees left)
rests_in [] [] h = tt
rests_in [] (l ∷ left) h = absurd h
rests_in (tree ∷ trees) [] h = tt
rests_in (tree ∷ trees) (l ∷ left) (inl h) =
    both l (joined_trees left)
    (all_weaker (RestIn tree) (RestIn (tree ++ joined_trees trees)) l (λ q r. record { old = r.old; at = one_left r.old tree (joined_trees trees) r.at; same = r.same }) (rest_in tree l h.0))
    (all_weaker (RestIn (joined_trees trees)) (RestIn (tree ++ joined_trees trees)) (joined_trees left)
    (λ q r. record { old = r.old; at = one_right r.old tree (joined_trees trees) r.at; same = r.same }) (rests_in trees left h.1))
  where
    both : (xs ys : List Pending) → AllByRecursion (RestIn (tree ++ joined_trees trees)) xs → AllByRecursion (RestIn (tree ++ joined_trees trees)) ys
        → AllByRecursion (RestIn (tree ++ joined_trees trees)) (xs ++ ys)
    both [] ys hx hy = hy
    both (x ∷ xs) ys hx hy = (hx.0, both xs ys hx.1 hy)
rests_in (tree ∷ trees) (l ∷ left) (inr h) =
    all_weaker (RestIn (joined_trees trees)) (RestIn (tree ++ joined_trees trees)) (joined_trees (l ∷ left))
    (λ q r. record { old = r.old; at = one_right r.old tree (joined_trees trees) r.at; same = r.same }) (rests_in trees (l ∷ left) h)

-- ---- how often

pub counted_left : (n : ℕ) (rs : List Request) → counted (λ (r : Request). r.number) n rs ≡ count_by (is_numbered n) (numbers_of rs)
counted_left n rs = sym (times_tally n rs) ∙ times_is n (numbers_of rs)

pub once_in : (n : ℕ) (trees : List (List Pending)) → count_by (λ (r : Request). eqb r.number n) (requests_in trees) ≡ count_by (is_numbered n) (numbers_of (requests_in trees))
once_in n trees = counted_by n (requests_in trees) ∙ counted_left n (requests_in trees)

-- a request that is left didn't finish
pub left_times : (q : Pending) (ps : List Pending) → IsOneOf q ps → 1 ≤ times q.request.number (numbers_of (map (λ (p : Pending). p.request) ps))
left_times q [] at = absurd at
left_times q (p ∷ ps) (inl same) =
    let k : ℕ = times q.request.number (numbers_of (map (λ (x : Pending). x.request) ps)) in
    let own : cond (eqb p.request.number q.request.number) (1 + k) k ≡ 1 + k = ap (λ (b : Bool). cond b (1 + k) k) (eq-eqb p.request.number q.request.number (ap (λ (x : Pending). x.request.number) same)) in
    subst (λ (m : ℕ). 1 ≤ m) (sym own) (omega arith)
left_times q (p ∷ ps) (inr at) = go (eqb p.request.number q.request.number) (left_times q ps at)
  where
    go : (b : Bool) → 1 ≤ times q.request.number (numbers_of (map (λ (x : Pending). x.request) ps))
        → 1 ≤ cond b (1 + times q.request.number (numbers_of (map (λ (x : Pending). x.request) ps))) (times q.request.number (numbers_of (map (λ (x : Pending). x.request) ps)))
    go true h = omega arith
    go false h = h

-- ---- blocks

left_between : (ps qs : List Pending) → AllByRecursion (RestIn ps) qs → AreBetween ps → AreBetween qs
left_between ps qs rests between p q at here differ =
    let a = one_all (RestIn ps) p qs rests (contains_one p qs at) in
    let b = one_all (RestIn ps) q qs rests (contains_one q qs here) in
    still_between a.old p b.old q a.same b.same
    (between a.old b.old (one_contains a.old ps a.at) (one_contains b.old ps b.at)
    (λ same. differ (ap (λ (r : Request). r.number) a.same.request ∙ (same ∙ ap (λ (r : Request). r.number) (sym b.same.request)))))

-- ---- all together

pub left_runnable : (s new : Standing) (round : ℕ) (trees : List (List Pending)) (end : SeenEnd)
    → AreRunnable s trees → IsRoundEnd s round trees end → StandsAfter s new round trees end
    → AllByRecursion (Contains new.live) (named_places end.left)
    → AreRunnable new end.left
left_runnable s new round trees end runs over stands live =
    let once : (n : ℕ) → counted (λ (r : Request). r.number) n (requests_in end.left) ≤ 1 = λ n.
    (let all : count_by (λ (r : Request). eqb r.number n) (requests_in trees) ≤ 1 = runs.once n in
    let same = once_in n trees in
    let each = over.each n in
    let left = counted_left n (requests_in end.left) in omega arith) in
    let rests : AllByRecursion (RestIn (joined_trees trees)) (joined_trees end.left) = rests_in trees end.left over.rests in
    record {
      each = rests_each trees end.left over.rests;
      rising = rests_rising trees end.left 0 (roots_there trees runs.each) over.rests runs.rising;
      once = λ n. subst (λ (k : ℕ). k ≤ 1) (sym (counted_by n (requests_in end.left))) (once n);
      apart = subst (λ (rows : List Row). NameApart (rows_tell_apart rows) (requests_in end.left)) (sym stands.rows)
          (apart_of (rows_tell_apart s.rows) (requests_in trees) (requests_in end.left) runs.apart
          (all_map (λ (r : Request). IsOneOf r (requests_in trees)) (λ (p : Pending). p.request) (joined_trees end.left)
          (all_weaker (RestIn (joined_trees trees)) (λ (q : Pending). IsOneOf q.request (requests_in trees)) (joined_trees end.left)
          (λ q r. subst (λ (x : Request). IsOneOf x (requests_in trees)) (sym r.same.request) (one_map (λ (p : Pending). p.request) r.old (joined_trees trees) r.at)) rests)) once);
      claim = λ has. not_both (has_claim (requests_in end.left)) has over.claims;
      live = live;
      under = rests_roots (λ (r : Request). r.under ≡ None) trees end.left (roots_there trees runs.each) over.rests runs.under;
      own = all_weaker (RestIn (joined_trees trees)) IsOwnApart (joined_trees end.left)
          (λ q r. still_own r.old q r.same (one_all IsOwnApart r.old (joined_trees trees) runs.own r.at)) rests;
      between = left_between (joined_trees trees) (joined_trees end.left) rests runs.between;
    }
