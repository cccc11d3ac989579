-- Which requests of a batch run, and which are answered.
use Rattle.std.proofs.Common.{◌≡◌, ℕ, suc, ◌<◌, List, [], ◌∷◌, ◌++◌, map, filter, Bool, true, false, ◌&&◌, ◌||◌, not, cond, Option, Some, None, is_none, eqb, eq-eqb, refl, sym, ap, ◌∙◌, subst}
use Rattle.std.proofs.lemmas.Bool.{false_from_ne_true}
use Rattle.std.specs.List.{AllByRecursion, list_any}
use Rattle.std.specs.Option.{option_map}
use Rattle.zio_types.specs.declared.error.Errno.{Errno}
use Rattle.zio_script.specs.declared.script.Item.{Item}
use Rattle.zio_script.specs.declared.script.Request.{Request}
use Rattle.zio_script.specs.Accepted.{AreRising}
use Rattle.zio_script.specs.Requests.{changes_pool, makes_block, name_of, names_it, needs_block, requests_of}
use Rattle.zio_gang.specs.Attempts.{Pending}
use Rattle.zio_gang.specs.Rounds.{Admitted, admission, admit_with, admitted, first_rule, is_awaited, is_blocked, passes, trees_of}
use Rattle.zio_gang.specs.Runs.{has_trees}
use Rattle.zio_course.specs.declared.admission.Rules.{Rules}
use Rattle.zio_course.specs.Admissions.{IsAdmission, StandsOnce, error_at, error_by, error_in, has_number, rules_in, slot_if, slot_of}
use Rattle.zio_course.specs.Admitted.{AreAwaited}
use Rattle.zio_course.specs.Forests.{add_tree_if, joined, running, same_parent, trees_under}
use Rattle.zio_course.proofs.AdmissionLemmas.{stand_once}
use Rattle.zio_course.proofs.ForestLemmas.{all_then, trees_from_back}

-- ---- the rules

pub any_same : (P Q : Request → Bool) (tree : List Request) → ((r : Request) → P r ≡ Q r) → list_any P tree ≡ list_any Q tree
any_same P Q [] same = refl
any_same P Q (r ∷ rs) same = ap (λ (b : Bool). b || list_any P rs) (same r) ∙ ap (λ (b : Bool). Q r || b) (any_same P Q rs same)

any_never : (tree : List Request) → list_any (λ (r : Request). false) tree ≡ false
any_never [] = refl
any_never (r ∷ rs) = any_never rs

none_named : (tree : List Pending) → list_any (λ (p : Pending). names_it None (name_of p.request.work)) tree ≡ false
none_named [] = refl
none_named (p ∷ ps) = none_named ps

none_awaited : (suspended : List (List Pending)) → list_any (λ tree. list_any (λ (p : Pending). names_it None (name_of p.request.work)) tree) suspended ≡ false
none_awaited [] = refl
none_awaited (t ∷ ts) =
    ap (λ (b : Bool). b || list_any (λ tree. list_any (λ (p : Pending). names_it None (name_of p.request.work)) tree) ts) (none_named t) ∙ none_awaited ts

awaited_named : (suspended : List (List Pending)) (awaited : List ℕ → Bool) (name : Option (List ℕ)) → AreAwaited suspended awaited
    → passes awaited name ≡ list_any (λ tree. list_any (λ (p : Pending). names_it name (name_of p.request.work)) tree) suspended
awaited_named suspended awaited None h = sym (none_awaited suspended)
awaited_named suspended awaited (Some name) h = h name

blocked_is : (suspended : List (List Pending)) (awaited : List ℕ → Bool) (tree : List Request) → AreAwaited suspended awaited
    → list_any (λ (r : Request). has_trees suspended && (changes_pool r.work || passes awaited (name_of r.work))) tree ≡ is_blocked suspended tree
blocked_is [] awaited tree h = any_never tree
blocked_is (t ∷ ts) awaited tree h =
    any_same (λ (r : Request). changes_pool r.work || passes awaited (name_of r.work)) (λ (r : Request). changes_pool r.work || is_awaited (t ∷ ts) r) tree
    (λ r. ap (λ (b : Bool). changes_pool r.work || b) (awaited_named (t ∷ ts) awaited (name_of r.work) h))

-- what is found in a tree gives its error
pub rules_admit : (suspended : List (List Pending)) (awaited bound : List ℕ → Bool) (tree : List Request) → AreAwaited suspended awaited
    → error_by (rules_in (has_trees suspended) awaited bound tree) ≡ admission suspended bound tree
rules_admit suspended awaited bound tree h =
    ap (λ (b : Bool). first_rule b (list_any (λ (r : Request). needs_block r.work && not (passes bound (name_of r.work))) tree)
    (list_any (λ (r : Request). makes_block r.work && passes bound (name_of r.work)) tree)) (blocked_is suspended awaited tree h)

-- ---- each request has the error of its tree

abbrev pub Judge : (ℕ → Option Errno) → (List Request → Option Errno) → List (List Request) → Type 0
Judge error judged trees = AllByRecursion (λ tree. AllByRecursion (λ (q : Request). error q.number ≡ judged tree) tree) trees

or_true : (b : Bool) → b || true ≡ true
or_true true = refl
or_true false = refl

own_numbers : (tree : List Request) → AllByRecursion (λ (q : Request). has_number q.number tree ≡ true) tree
own_numbers [] = tt
own_numbers (x ∷ xs) = (
  ap (λ (b : Bool). b || has_number x.number xs) (eq-eqb x.number x.number refl),
  all_then (λ (y : Request). has_number y.number xs ≡ true) (λ (y : Request). has_number y.number (x ∷ xs) ≡ true) xs
      (λ y h. ap (λ (b : Bool). eqb x.number y.number || b) h ∙ or_true (eqb x.number y.number)) (own_numbers xs),
)

pub not_both : {X : Type 0} (b : Bool) → b ≡ true → b ≡ false → X
not_both b e f = absurd (let g = sym e ∙ f in cc)

not_before : (t : List Request) (ts : List (List Request)) → ((n : ℕ) → has_number n t ≡ true → AllByRecursion (λ u. has_number n u ≡ false) ts)
    → AllByRecursion (λ tree. AllByRecursion (λ (q : Request). has_number q.number t ≡ false) tree) ts
not_before t [] once = tt
not_before t (u ∷ us) once = (
  all_then (λ (q : Request). has_number q.number u ≡ true) (λ (q : Request). has_number q.number t ≡ false) u
      (λ q h. false_from_ne_true (has_number q.number t) (λ e. not_both (has_number q.number u) h (once q.number e).0)) (own_numbers u),
  not_before t us (λ n e. (once n e).1),
)

pub all_both : {X : Type 0} (P Q R : X → Type 0) (xs : List X) → ((x : X) → P x → Q x → R x) → AllByRecursion P xs → AllByRecursion Q xs → AllByRecursion R xs
all_both P Q R [] f p q = tt
all_both P Q R (x ∷ xs) f p q = (f x p.0 q.0, all_both P Q R xs f p.1 q.1)

later_slot : (x : Rules) (xs : List Rules) (o : Option ℕ) → error_at (x ∷ xs) (option_map suc o) ≡ error_at xs o
later_slot x xs None = refl
later_slot x xs (Some s) = refl

module _ (find_in : List Request → Rules) where
  judged_all : (trees : List (List Request)) → ((n : ℕ) → StandsOnce n trees)
      → Judge (λ n. error_at (map find_in trees) (slot_of trees n)) (λ tree. error_by (find_in tree)) trees
  judged_all [] once = tt
  judged_all (t ∷ ts) once = (
    all_then (λ (q : Request). has_number q.number t ≡ true)
        (λ (q : Request). error_at (find_in t ∷ map find_in ts) (slot_if (has_number q.number t) (slot_of ts q.number)) ≡ error_by (find_in t)) t
        (λ q h. ap (λ (b : Bool). error_at (find_in t ∷ map find_in ts) (slot_if b (slot_of ts q.number))) h) (own_numbers t),
    all_both (λ tree. AllByRecursion (λ (q : Request). error_at (map find_in ts) (slot_of ts q.number) ≡ error_by (find_in tree)) tree)
        (λ tree. AllByRecursion (λ (q : Request). has_number q.number t ≡ false) tree)
        (λ tree. AllByRecursion (λ (q : Request). error_at (find_in t ∷ map find_in ts) (slot_if (has_number q.number t) (slot_of ts q.number)) ≡ error_by (find_in tree)) tree) ts
        (λ tree p n. all_both (λ (q : Request). error_at (map find_in ts) (slot_of ts q.number) ≡ error_by (find_in tree))
        (λ (q : Request). has_number q.number t ≡ false)
        (λ (q : Request). error_at (find_in t ∷ map find_in ts) (slot_if (has_number q.number t) (slot_of ts q.number)) ≡ error_by (find_in tree)) tree
        (λ q e f. ap (λ (b : Bool). error_at (find_in t ∷ map find_in ts) (slot_if b (slot_of ts q.number))) f
        ∙ (later_slot (find_in t) (map find_in ts) (slot_of ts q.number) ∙ e)) p n)
        (judged_all ts (λ n. (once n).1)) (not_before t ts (λ n. (once n).0)),
  )

judge_as : (e f : ℕ → Option Errno) (j k : List Request → Option Errno) (trees : List (List Request)) → ((n : ℕ) → e n ≡ f n)
    → ((tree : List Request) → j tree ≡ k tree) → Judge f j trees → Judge e k trees
judge_as e f j k trees same alike h =
    all_then (λ tree. AllByRecursion (λ (q : Request). f q.number ≡ j tree) tree) (λ tree. AllByRecursion (λ (q : Request). e q.number ≡ k tree) tree) trees
    (λ tree p. all_then (λ (q : Request). f q.number ≡ j tree) (λ (q : Request). e q.number ≡ k tree) tree (λ q is. same q.number ∙ (is ∙ alike tree)) p) h

pub judged_by : (suspended : List (List Pending)) (awaited bound : List ℕ → Bool) (trees : List (List Request)) (slots : List (ℕ × ℕ)) (rules : List Rules)
    → AreAwaited suspended awaited → ((n : ℕ) → StandsOnce n trees) → IsAdmission (has_trees suspended) awaited bound trees slots rules
    → Judge (error_in slots rules) (admission suspended bound) trees
judged_by suspended awaited bound trees slots rules waits once is =
    let find_in : List Request → Rules = rules_in (has_trees suspended) awaited bound in
    judge_as (error_in slots rules) (λ n. error_at (map find_in trees) (slot_of trees n)) (λ tree. error_by (find_in tree)) (admission suspended bound) trees
    (λ n. ap (error_at rules) (is.slots_are n) ∙ ap (λ (rs : List Rules). error_at rs (slot_of trees n)) is.rules_are)
    (λ tree. rules_admit suspended awaited bound tree waits) (judged_all find_in trees once)

-- ---- the trees that run

all_split : {X : Type 0} (P : X → Type 0) (xs ys : List X) → AllByRecursion P (xs ++ ys) → AllByRecursion P xs × AllByRecursion P ys
all_split P [] ys h = (tt, h)
all_split P (x ∷ xs) ys h = let rest = all_split P xs ys h.1 in ((h.0, rest.0), rest.1)

all_joined : (P : Request → Type 0) (trees : List (List Request)) → AllByRecursion P (joined trees) → AllByRecursion (λ tree. AllByRecursion P tree) trees
all_joined P [] h = tt
all_joined P (t ∷ ts) h = let both = all_split P t (joined ts) h in (both.0, all_joined P ts both.1)

module _ (error : ℕ → Option Errno) where
  abbrev keeps : Request → Bool
  keeps r = is_none (error r.number)

  abbrev Free : List (List Request) → Type 0
  Free trees = AllByRecursion (λ tree. AllByRecursion (λ (q : Request). error q.number ≡ None) tree) trees

  skip_if : (b c : Bool) (r : Request) (rs kept : List Request) (under : Option ℕ) (trees : List (List Request)) → same_parent r.under under ≡ b → b ≡ false
      → trees_under kept under ≡ trees → trees_under (cond c (r ∷ kept) kept) under ≡ trees
  skip_if b true r rs kept under trees is none later =
      ap (λ (x : Bool). add_tree_if x (joined (trees_under kept (Some r.number)) ++ r ∷ []) (trees_under kept under)) (is ∙ none) ∙ later
  skip_if b false r rs kept under trees is none later = later

  take_if : (c : Bool) (r : Request) (kept : List Request) (under : Option ℕ) (front trees : List (List Request)) → same_parent r.under under ≡ true → c ≡ true
      → trees_under kept (Some r.number) ≡ front → trees_under kept under ≡ trees
      → trees_under (cond c (r ∷ kept) kept) under ≡ (joined front ++ r ∷ []) ∷ trees
  take_if true r kept under front trees is it first later =
      ap (λ (x : Bool). add_tree_if x (joined (trees_under kept (Some r.number)) ++ r ∷ []) (trees_under kept under)) is
      ∙ (ap (λ (xs : List (List Request)). (joined xs ++ r ∷ []) ∷ trees_under kept under) first
      ∙ ap (λ (xs : List (List Request)). (joined front ++ r ∷ []) ∷ xs) later)
  take_if false r kept under front trees is it first later = absurd (let f = it in cc)

  all_kept_if : (b : Bool) (r : Request) (rs : List Request) (under : Option ℕ) → same_parent r.under under ≡ b
      → Free (add_tree_if b (joined (trees_under rs (Some r.number)) ++ r ∷ []) (trees_under rs under))
      → ((u : Option ℕ) → Free (trees_under rs u) → trees_under (filter keeps rs) u ≡ trees_under rs u)
      → trees_under (cond (keeps r) (r ∷ filter keeps rs) (filter keeps rs)) under
      ≡ add_tree_if b (joined (trees_under rs (Some r.number)) ++ r ∷ []) (trees_under rs under)
  all_kept_if true r rs under is free later =
      let both = all_split (λ (q : Request). error q.number ≡ None) (joined (trees_under rs (Some r.number))) (r ∷ []) free.0 in
      take_if (keeps r) r (filter keeps rs) under (trees_under rs (Some r.number)) (trees_under rs under) is (ap is_none both.1.0)
      (later (Some r.number) (all_joined (λ (q : Request). error q.number ≡ None) (trees_under rs (Some r.number)) both.0)) (later under free.1)
  all_kept_if false r rs under is free later =
      skip_if false (keeps r) r rs (filter keeps rs) under (trees_under rs under) is refl (later under free)

  all_kept : (rs : List Request) (under : Option ℕ) → Free (trees_under rs under) → trees_under (filter keeps rs) under ≡ trees_under rs under
  all_kept [] under free = refl
  all_kept (r ∷ rs) under free = all_kept_if (same_parent r.under under) r rs under refl free (λ u f. all_kept rs u f)

  module _ (suspended : List (List Pending)) (bound : List ℕ → Bool) where
    root_runs : (e : Option Errno) (r : Request) (rs : List Request) (whole : List Request) (others : Admitted) → error r.number ≡ e
        → same_parent r.under None ≡ true → joined (trees_under rs (Some r.number)) ++ r ∷ [] ≡ whole
        → AllByRecursion (λ (q : Request). error q.number ≡ admission suspended bound whole) (joined (trees_under rs (Some r.number)))
        → error r.number ≡ admission suspended bound whole
        → trees_under (filter keeps rs) None ≡ others.trees
        → trees_under (cond (keeps r) (r ∷ filter keeps rs) (filter keeps rs)) None ≡ (admit_with (admission suspended bound whole) whole others).trees
    root_runs None r rs whole others e is whole_is all same later =
        let runs : admission suspended bound whole ≡ None = sym same ∙ e in
        let free : AllByRecursion (λ (q : Request). error q.number ≡ None) (joined (trees_under rs (Some r.number))) =
        all_then (λ (q : Request). error q.number ≡ admission suspended bound whole) (λ (q : Request). error q.number ≡ None)
        (joined (trees_under rs (Some r.number))) (λ q h. h ∙ runs) all in
        take_if (keeps r) r (filter keeps rs) None (trees_under rs (Some r.number)) others.trees is (ap is_none e)
        (all_kept rs (Some r.number) (all_joined (λ (q : Request). error q.number ≡ None) (trees_under rs (Some r.number)) free)) later
        ∙ (ap (λ (t : List Request). t ∷ others.trees) whole_is ∙ ap (λ (o : Option Errno). (admit_with o whole others).trees) (sym runs))
    root_runs (Some x) r rs whole others e is whole_is all same later =
        let answered : admission suspended bound whole ≡ Some x = sym same ∙ e in
        ap (λ (o : Option Errno). trees_under (cond (is_none o) (r ∷ filter keeps rs) (filter keeps rs)) None) e
        ∙ (later ∙ ap (λ (o : Option Errno). (admit_with o whole others).trees) (sym answered))

    runs_if : (b : Bool) (r : Request) (rs : List Request) → same_parent r.under None ≡ b
        → Judge error (admission suspended bound) (add_tree_if b (joined (trees_under rs (Some r.number)) ++ r ∷ []) (trees_under rs None))
        → (Judge error (admission suspended bound) (trees_under rs None) → trees_under (filter keeps rs) None ≡ (admitted suspended bound (trees_under rs None)).trees)
        → trees_under (cond (keeps r) (r ∷ filter keeps rs) (filter keeps rs)) None
        ≡ (admitted suspended bound (add_tree_if b (joined (trees_under rs (Some r.number)) ++ r ∷ []) (trees_under rs None))).trees
    runs_if true r rs is judge later =
        let whole : List Request = joined (trees_under rs (Some r.number)) ++ r ∷ [] in
        let both = all_split (λ (q : Request). error q.number ≡ admission suspended bound whole) (joined (trees_under rs (Some r.number))) (r ∷ []) judge.0 in
        root_runs (error r.number) r rs whole (admitted suspended bound (trees_under rs None)) refl is refl both.0 both.1.0 (later judge.1)
    runs_if false r rs is judge later =
        skip_if false (keeps r) r rs (filter keeps rs) None (admitted suspended bound (trees_under rs None)).trees is refl (later judge)

    runs_are : (rs : List Request) → Judge error (admission suspended bound) (trees_under rs None)
        → trees_under (filter keeps rs) None ≡ (admitted suspended bound (trees_under rs None)).trees
    runs_are [] judge = refl
    runs_are (r ∷ rs) judge = runs_if (same_parent r.under None) r rs refl judge (λ h. runs_are rs h)

pub rising_if : (P : Request → Bool) (n : ℕ) (rs : List Request) → AllByRecursion (λ (q : Request). n < q.number) rs → AllByRecursion (λ (q : Request). n < q.number) (filter P rs)
rising_if P n [] h = tt
rising_if P n (r ∷ rs) h = go (P r) (rising_if P n rs h.1)
  where
    go : (b : Bool) → AllByRecursion (λ (q : Request). n < q.number) (filter P rs) → AllByRecursion (λ (q : Request). n < q.number) (cond b (r ∷ filter P rs) (filter P rs))
    go true rest = (h.0, rest)
    go false rest = rest

pub rising_kept : (P : Request → Bool) (rs : List Request) → AreRising rs → AreRising (filter P rs)
rising_kept P [] h = tt
rising_kept P (r ∷ rs) h = go (P r) (rising_kept P rs h.1)
  where
    go : (b : Bool) → AreRising (filter P rs) → AreRising (cond b (r ∷ filter P rs) (filter P rs))
    go true rest = (rising_if P r.number rs h.0, rest)
    go false rest = rest

-- the trees of the requests that run are those that admission lets run
pub trees_admitted : (suspended : List (List Pending)) (awaited bound : List ℕ → Bool) (items : List Item) (slots : List (ℕ × ℕ)) (rules : List Rules)
    → AreRising (requests_of items) → AreAwaited suspended awaited
    → IsAdmission (has_trees suspended) awaited bound (trees_of (requests_of items)) slots rules
    → trees_of (running slots rules items) ≡ (admitted suspended bound (trees_of (requests_of items))).trees
trees_admitted suspended awaited bound items slots rules rising waits is =
    let requests : List Request = requests_of items in
    let from_back : trees_of requests ≡ trees_under requests None = trees_from_back requests rising in
    let judge : Judge (error_in slots rules) (admission suspended bound) (trees_under requests None) =
    subst (Judge (error_in slots rules) (admission suspended bound)) from_back
    (judged_by suspended awaited bound (trees_of requests) slots rules waits (stand_once items rising) is) in
    trees_from_back (running slots rules items) (rising_kept (λ (r : Request). is_none (error_in slots rules r.number)) requests rising)
    ∙ (runs_are (error_in slots rules) suspended bound requests judge
    ∙ ap (λ (ts : List (List Request)). (admitted suspended bound ts).trees) (sym from_back))
