-- In the trees of a batch each request stands behind all its children.
use Rattle.std.proofs.Common.{◌≡◌, ℕ, ◌+◌, ◌<◌, List, [], ◌∷◌, ◌++◌, map, count_by, Bool, true, false, cond, ◌==◌, Option, Some, None, ⊎_elim, refl, sym, ap, ◌∙◌, subst, append_assoc, arith}
use Rattle.std.proofs.lemmas.Bool.{cases_Bool, eqb-true}
use Rattle.std.proofs.lemmas.List.{append-nil, map-append}
use Rattle.std.proofs.lemmas.List.Recursion.{is_count_by}
use Rattle.std.specs.List.{AllByRecursion}
use Rattle.zio_script.specs.declared.script.Request.{Request}
use Rattle.zio_script.specs.Accepted.{AreBehindParents, AreRising}
use Rattle.zio_script.specs.Requests.{is_under, kind_of}
use Rattle.zio_script.proofs.AcceptedLemmas.{not_under}
use Rattle.zio_cksum.proofs.AllLemmas.{all_append, all_map, all_weaker}
use Rattle.zio_gang.specs.Attempts.{Pending}
use Rattle.zio_gang.specs.Rounds.{Bound, admitted, pending, put_before, put_if, trees_of, with_request, with_requests}
use Rattle.zio_gang.proofs.FateLemmas.{sum_map, tally, tally-append}
use Rattle.zio_trace.proofs.ListLemmas.{all_rest}
use Rattle.zio_heal.specs.SafeRounds.{HaveChildren, is_child_of}
use Rattle.zio_heal.proofs.TreeLists.{admitted_all, one_all}

abbrev pub one_if : Bool → ℕ
one_if b = cond b 1 0

-- how many of the requests stand under the one of this number
abbrev pub kids_in : List Request → ℕ → ℕ
kids_in rs n = tally (λ (q : Request). one_if (is_under q n)) rs

pub count_is : {X : Type 0} (p : X → Bool) (xs : List X) → tally (λ x. cond (p x) 1 0) xs ≡ count_by p xs
count_is p xs = is_count_by (tally (λ x. cond (p x) 1 0)) p refl (λ x ys. step (p x) (tally (λ y. cond (p y) 1 0) ys)) xs
  where
    step : (b : Bool) (n : ℕ) → cond b 1 0 + n ≡ cond b (1 + n) n
    step true n = refl
    step false n = omega arith

-- behind these requests each has so many in front that stand under it
abbrev HaveKids : (ℕ → ℕ) → List Request → List Request → Type 0
HaveKids kids front [] = Unit {0}
HaveKids kids front (r ∷ rs) = (kids_in front r.number ≡ kids r.number) × HaveKids kids (front ++ r ∷ []) rs

kids_last : (n : ℕ) (front : List Request) (r : Request) → kids_in (front ++ r ∷ []) n ≡ kids_in front n + one_if (is_under r n)
kids_last n front r = omega (arith, tally-append (λ (q : Request). one_if (is_under q n)) front (r ∷ []))

more_kids : (kids new more : ℕ → ℕ) (front wider rs : List Request) → ((n : ℕ) → kids_in wider n ≡ kids_in front n + more n) → ((n : ℕ) → new n ≡ kids n + more n) → HaveKids kids front rs → HaveKids new wider rs
more_kids kids new more front wider [] wide is h = tt
more_kids kids new more front wider (r ∷ rs) wide is h = (
  omega (arith, wide r.number, is r.number, h.0),
  more_kids kids new more (front ++ r ∷ []) (wider ++ r ∷ []) rs (λ n. omega (arith, wide n, kids_last n front r, kids_last n wider r)) is h.1,
)

pub none_if : (b : Bool) → b ≡ false → one_if b ≡ 0
none_if b e = ap one_if e

no_kids : (n : ℕ) (rs : List Request) → AllByRecursion (λ (q : Request). is_under q n ≡ false) rs → kids_in rs n ≡ 0
no_kids n [] h = refl
no_kids n (q ∷ qs) h = omega (arith, none_if (is_under q n) h.0, no_kids n qs h.1)

module _ (kids new : ℕ → ℕ) (x : Request) (parent : ℕ) (more : (n : ℕ) → new n ≡ kids n + one_if (is_under x n)) (under : x.under ≡ Some parent) (none : new x.number ≡ 0) where
  not_this : (q : Request) → (q.number == parent) ≡ false → is_under x q.number ≡ false
  not_this q differs = ⊎_elim (λ (yes_ : is_under x q.number ≡ true). absurd (no yes_)) (λ (k : is_under x q.number ≡ false). k) (cases_Bool (is_under x q.number))
    where
      no : is_under x q.number ≡ true → ⊥
      no yes_ =
          let here : (parent == q.number) ≡ true = ap (λ (u : Option ℕ). is_under (record x { under = u }) q.number) (sym under) ∙ yes_ in
          let same : parent ≡ q.number = eqb-true parent q.number here in
          let e : (q.number == q.number) ≡ false = ap (λ (n : ℕ). q.number == n) (sym same) ∙ differs in
          grind (arith, e)

  put_by : (same : Bool) (q : Request) (qs placed front : List Request) → (q.number == parent) ≡ same → HaveKids kids front (q ∷ qs) → kids_in front x.number ≡ 0 → HaveKids new (front ++ q ∷ []) placed
      → HaveKids new front (put_if same x q qs placed)
  put_by true q qs placed front is h zero later =
      (zero ∙ sym none, more_kids kids new (λ n. one_if (is_under x n)) front (front ++ x ∷ []) (q ∷ qs) (λ n. kids_last n front x) more h)
  put_by false q qs placed front is h zero later = (omega (arith, h.0, more q.number, none_if (is_under x q.number) (not_this q is)), later)

  put_kids : (front tree : List Request) → HaveKids kids front tree → kids_in front x.number ≡ 0 → AllByRecursion (λ (q : Request). is_under q x.number ≡ false) tree → HaveKids new front (put_before parent x tree)
  put_kids front [] h zero all = tt
  put_kids front (q ∷ qs) h zero all =
      put_by (q.number == parent) q qs (put_before parent x qs) front refl h zero
      (put_kids (front ++ q ∷ []) qs h.1 (omega (arith, zero, kids_last x.number front q, none_if (is_under q x.number) all.0)) all.1)

-- no request stands under itself or one of these
abbrev IsUnderNone : List Request → Request → Type 0
IsUnderNone rs q = AllByRecursion (λ (r : Request). is_under q r.number ≡ false) rs

abbrev NoneUnder : List Request → Type 0
NoneUnder [] = Unit {0}
NoneUnder (r ∷ rs) = IsUnderNone (r ∷ rs) r × NoneUnder rs

root_kids : (under : Option ℕ) (r : Request) (before : List Request) (trees : List (List Request)) → r.under ≡ under → kids_in (before ++ r ∷ []) r.number ≡ 0
    → AllByRecursion (AllByRecursion (λ (q : Request). is_under q r.number ≡ false)) trees → AllByRecursion (HaveKids (kids_in before) []) trees → AllByRecursion (HaveKids (kids_in (before ++ r ∷ [])) []) (with_request under r trees)
root_kids None r before trees is zero all h =
    let root : (n : ℕ) → is_under r n ≡ false = λ n. ap (λ (u : Option ℕ). is_under (record r { under = u }) n) is in
    all_append (HaveKids (kids_in (before ++ r ∷ [])) []) trees ((r ∷ []) ∷ [])
    (all_weaker (HaveKids (kids_in before) []) (HaveKids (kids_in (before ++ r ∷ [])) []) trees
    (λ tree k. more_kids (kids_in before) (kids_in (before ++ r ∷ [])) (λ n. 0) [] [] tree (λ n. omega arith) (λ n. omega (arith, kids_last n before r, none_if (is_under r n) (root n))) k) h)
    ((sym zero, tt), tt)
root_kids (Some parent) r before trees is zero all h =
    all_map (HaveKids (kids_in (before ++ r ∷ [])) []) (put_before parent r) trees
    (both trees all h)
  where
    both : (ts : List (List Request)) → AllByRecursion (AllByRecursion (λ (q : Request). is_under q r.number ≡ false)) ts → AllByRecursion (HaveKids (kids_in before) []) ts
        → AllByRecursion (λ (tree : List Request). HaveKids (kids_in (before ++ r ∷ [])) [] (put_before parent r tree)) ts
    both [] a k = tt
    both (t ∷ ts) a k = (put_kids (kids_in before) (kids_in (before ++ r ∷ [])) r parent (λ n. kids_last n before r) is zero [] t k.0 refl a.0, both ts a.1 k.1)

batch_kids : (requests before : List Request) (trees : List (List Request)) → NoneUnder requests → AllByRecursion (IsUnderNone requests) before → AllByRecursion (AllByRecursion (IsUnderNone requests)) trees
    → AllByRecursion (HaveKids (kids_in before) []) trees → AllByRecursion (HaveKids (kids_in (before ++ requests)) []) (with_requests requests trees)
batch_kids [] before trees none front all h = subst (λ (rs : List Request). AllByRecursion (HaveKids (kids_in rs) []) trees) (sym (append-nil before)) h
batch_kids (r ∷ rs) before trees none front all h =
    let zero : kids_in before r.number ≡ 0 = no_kids r.number before (all_weaker (IsUnderNone (r ∷ rs)) (λ (q : Request). is_under q r.number ≡ false) before (λ q k. k.0) front) in
    subst (λ (qs : List Request). AllByRecursion (HaveKids (kids_in qs) []) (with_requests rs (with_request r.under r trees))) (append_assoc before (r ∷ []) rs)
    (batch_kids rs (before ++ r ∷ []) (with_request r.under r trees) none.1
    (all_append (IsUnderNone rs) before (r ∷ []) (all_weaker (IsUnderNone (r ∷ rs)) (IsUnderNone rs) before (λ q k. k.1) front) (none.0.1, tt))
    (one_all (IsUnderNone rs) r.under r trees none.0.1 (all_weaker (AllByRecursion (IsUnderNone (r ∷ rs))) (AllByRecursion (IsUnderNone rs)) trees (λ tree k. all_weaker (IsUnderNone (r ∷ rs)) (IsUnderNone rs) tree (λ q u. u.1) k) all))
    (root_kids r.under r before trees refl (omega (arith, zero, kids_last r.number before r, none_if (is_under r r.number) none.0.0))
    (all_weaker (AllByRecursion (IsUnderNone (r ∷ rs))) (AllByRecursion (λ (q : Request). is_under q r.number ≡ false)) trees (λ tree k. all_weaker (IsUnderNone (r ∷ rs)) (λ (q : Request). is_under q r.number ≡ false) tree (λ q u. u.0) k) all) h))

below_next : (before : List Request) (r : Request) (rs : List Request) → AreRising (before ++ r ∷ rs) → AllByRecursion (λ (q : Request). q.number < r.number) before
below_next [] r rs h = tt
below_next (q ∷ qs) r rs h = ((all_rest (λ (x : Request). q.number < x.number) qs (r ∷ rs) h.0).0, below_next qs r rs h.1)

rising_rest : (before rs : List Request) → AreRising (before ++ rs) → AreRising rs
rising_rest [] rs h = h
rising_rest (q ∷ qs) rs h = rising_rest qs rs h.1

none_under : (requests before : List Request) → AreBehindParents before requests → AreRising (before ++ requests) → NoneUnder requests
none_under [] before parents rising = tt
none_under (r ∷ rs) before parents rising =
    let low : AllByRecursion (λ (q : Request). q.number < r.number) before = below_next before r rs rising in
    let above : AllByRecursion (λ (q : Request). r.number < q.number) rs = (rising_rest before (r ∷ rs) rising).0 in (
      (
        not_under (kind_of r.work) r.under before r.number parents.0 low,
        all_weaker (λ (q : Request). r.number < q.number) (λ (q : Request). is_under r q.number ≡ false) rs
            (λ q more. not_under (kind_of r.work) r.under before q.number parents.0
            (all_weaker (λ (x : Request). x.number < r.number) (λ (x : Request). x.number < q.number) before (λ x less. omega (arith, less, more)) low)) above,
      ),
      none_under rs (before ++ r ∷ []) parents.1 (subst AreRising (sym (append_assoc before (r ∷ []) rs)) rising),
    )

-- as they enter their first round
enter_kids : (bound : Bound) (birth : ℕ) (kids : ℕ → ℕ) (front tree : List Request) → HaveKids kids front tree → HaveChildren kids (map (pending bound birth) front) (map (pending bound birth) tree)
enter_kids bound birth kids front [] h = tt
enter_kids bound birth kids front (r ∷ rs) h = (
  (let many : tally (λ (p : Pending). one_if (is_child_of (pending bound birth r) p)) (map (pending bound birth) front) ≡ count_by (is_child_of (pending bound birth r)) (map (pending bound birth) front) =
      count_is (is_child_of (pending bound birth r)) (map (pending bound birth) front) in
      let mapped : tally (λ (p : Pending). one_if (is_child_of (pending bound birth r) p)) (map (pending bound birth) front) ≡ kids_in front r.number =
      sum_map (λ (p : Pending). one_if (is_child_of (pending bound birth r) p)) (pending bound birth) front in
      omega (arith, many, mapped, h.0)),
  subst (λ (ps : List Pending). HaveChildren kids ps (map (pending bound birth) rs)) (map-append (pending bound birth) front (r ∷ []))
      (enter_kids bound birth kids (front ++ r ∷ []) rs h.1),
)

-- In the trees of a batch that run, each request is behind its children.
pub trees_kids : (batch : List Request) (suspended : List (List Pending)) (test : List ℕ → Bool) (bound : Bound) (birth : ℕ) → AreBehindParents [] batch → AreRising batch
    → AllByRecursion (λ (tree : List Request). HaveChildren (kids_in batch) [] (map (pending bound birth) tree)) (admitted suspended test (trees_of batch)).trees
trees_kids batch suspended test bound birth parents rising =
    admitted_all (HaveKids (kids_in batch) []) (λ (tree : List Request). HaveChildren (kids_in batch) [] (map (pending bound birth) tree)) suspended test (trees_of batch)
    (λ tree none k. enter_kids bound birth (kids_in batch) [] tree k) (batch_kids batch [] [] (none_under batch [] parents rising) tt tt tt)
