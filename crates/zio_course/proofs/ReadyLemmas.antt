-- The requests of an orderly batch that admission lets run are ready: blocks are there where they are needed, and children
-- and sizes are within the limits.
use Rattle.std.proofs.Common.{◌≡◌, ℕ, ◌+◌, ◌<◌, ◌≤◌, List, [], ◌∷◌, ◌++◌, filter, count_by, find, Bool, true, false, ◌&&◌, ◌||◌, not, cond, Option, Some, None, is_none, is_some, eqb, eqb-true, refl, sym, ap, ◌∙◌, subst, inl, inr, arith, append_assoc}
use Rattle.std.proofs.lemmas.List.Recursion.{is_count_by}
use Rattle.std.specs.List.{AllByRecursion, list_any}
use Rattle.zio_types.specs.declared.error.Errno.{Errno}
use Rattle.zio_types.specs.declared.request.Kind.{Kind}
use Rattle.zio_blkptr.specs.declared.pointer.TheConstants.{BLOCK_SIZE_MAX}
use Rattle.zio_script.specs.declared.limits.TheConstants.{CHILDREN_MAX}
use Rattle.zio_script.specs.declared.script.Item.{Item}
use Rattle.zio_script.specs.declared.script.Request.{Request}
use Rattle.zio_script.specs.declared.script.Work.{Work}
use Rattle.zio_script.specs.declared.script.Work.TheVariants.{Null, Read, Write, Free, Claim}
use Rattle.zio_script.specs.Accepted.{AreBehindParents, AreRising, HasParentIn, IsInRange, IsOrderlyBatch}
use Rattle.zio_script.specs.Requests.{is_under, is_under_number, kind_of, makes_block, name_of, needs_block, requests_of}
use Rattle.zio_script.specs.Whys.{children_in, is_write, may_have, rounded_up, size_with, writes_under}
use Rattle.zio_cksum.proofs.AllLemmas.{all_unmap, all_weaker}
use Rattle.zio_gang.specs.declared.tree.Tree.{Tree}
use Rattle.zio_gang.specs.Attempts.{Pending}
use Rattle.zio_gang.specs.Rounds.{admission, first_rule, is_blocked, lacks_block, passes, takes_bound, trees_of}
use Rattle.zio_gang.specs.Runs.{has_trees}
use Rattle.zio_gang.proofs.FateLemmas.{rising_front}
use Rattle.zio_course.specs.declared.admission.Rules.{Rules}
use Rattle.zio_course.specs.Admissions.{IsAdmission, error_in}
use Rattle.zio_course.specs.Admitted.{AreAwaited}
use Rattle.zio_course.specs.Forests.{AreReady, IsReady, block_by, running}
use Rattle.zio_course.specs.Names.{is_some_name}
use Rattle.zio_course.proofs.AdmissionLemmas.{stand_once}
use Rattle.zio_course.proofs.AdmittedLemmas.{Judge, all_both, judged_by, rising_kept}
use Rattle.zio_course.proofs.SortLemmas.{IsOneOf, one_left, one_right}
use Rattle.zio_course.proofs.StepLemmas.{from_trees, one_number, some_same}

-- ---- blocks

-- a block is bound where the request needs one, and none where it makes one
abbrev pub IsFit : (List ℕ → Bool) → Request → Type 0
IsFit test r = (needs_block r.work ≡ true → passes test (name_of r.work) ≡ true) × (makes_block r.work ≡ true → passes test (name_of r.work) ≡ false)

no_rule : (blocked lacks takes : Bool) → first_rule blocked lacks takes ≡ None → (lacks ≡ false) × (takes ≡ false)
no_rule true lacks takes e = absurd (let f = e in cc)
no_rule false true takes e = absurd (let f = e in cc)
no_rule false false true e = absurd (let f = e in cc)
no_rule false false false e = (refl, refl)

none_passes : (test : Request → Bool) (rs : List Request) → list_any test rs ≡ false → AllByRecursion (λ r. test r ≡ false) rs
none_passes test [] h = tt
none_passes test (r ∷ rs) h = go (test r) refl h (none_passes test rs)
  where
    go : (b : Bool) → test r ≡ b → (b || list_any test rs) ≡ false → (list_any test rs ≡ false → AllByRecursion (λ x. test x ≡ false) rs)
        → (test r ≡ false) × AllByRecursion (λ x. test x ≡ false) rs
    go true e k later = absurd (let f = k in cc)
    go false e k later = (e, later k)

needs_it : (needs p : Bool) → (needs && not p) ≡ false → needs ≡ true → p ≡ true
needs_it true true e is = refl
needs_it true false e is = absurd (let f = e in cc)
needs_it false p e is = absurd (let f = is in cc)

makes_it : (makes p : Bool) → (makes && p) ≡ false → makes ≡ true → p ≡ false
makes_it true p e is = e
makes_it false p e is = absurd (let f = is in cc)

fit_tree : (suspended : List (List Pending)) (test : List ℕ → Bool) (tree : List Request) → admission suspended test tree ≡ None → AllByRecursion (IsFit test) tree
fit_tree suspended test tree runs =
    let rules = no_rule (is_blocked suspended tree) (lacks_block test tree) (takes_bound test tree) runs in
    all_both (λ (r : Request). (needs_block r.work && not (passes test (name_of r.work))) ≡ false) (λ (r : Request). (makes_block r.work && passes test (name_of r.work)) ≡ false)
    (IsFit test) tree
    (λ r lacks takes. (
      λ needs. needs_it (needs_block r.work) (passes test (name_of r.work)) lacks needs,
      λ makes. makes_it (makes_block r.work) (passes test (name_of r.work)) takes makes,
    ))
    (none_passes (λ (r : Request). needs_block r.work && not (passes test (name_of r.work))) tree rules.0)
    (none_passes (λ (r : Request). makes_block r.work && passes test (name_of r.work)) tree rules.1)

-- each request that isn't answered fits
abbrev pub IsFitUnless : (ℕ → Option Errno) → (List ℕ → Bool) → Request → Type 0
IsFitUnless error test r = error r.number ≡ None → IsFit test r

fit_if : (error : ℕ → Option Errno) (test : List ℕ → Bool) (e : Option Errno) (tree : List Request) → (e ≡ None → AllByRecursion (IsFit test) tree)
    → AllByRecursion (λ (q : Request). error q.number ≡ e) tree → AllByRecursion (IsFitUnless error test) tree
fit_if error test None tree fit h = all_weaker (IsFit test) (IsFitUnless error test) tree (λ r f is. f) (fit refl)
fit_if error test (Some x) tree fit h =
    all_weaker (λ (q : Request). error q.number ≡ Some x) (IsFitUnless error test) tree (λ r is none. absurd (let f = sym is ∙ none in cc)) h

fit_trees : (error : ℕ → Option Errno) (suspended : List (List Pending)) (test : List ℕ → Bool) (trees : List (List Request)) → Judge error (admission suspended test) trees
    → AllByRecursion (λ tree. AllByRecursion (IsFitUnless error test) tree) trees
fit_trees error suspended test [] judge = tt
fit_trees error suspended test (tree ∷ trees) judge =
    (fit_if error test (admission suspended test tree) tree (fit_tree suspended test tree) judge.0, fit_trees error suspended test trees judge.1)

-- Of a batch each request that isn't answered before its round fits.
pub all_fit : (suspended : List (List Pending)) (awaited test : List ℕ → Bool) (items : List Item) (slots : List (ℕ × ℕ)) (rules : List Rules)
    → AreRising (requests_of items) → AreBehindParents [] (requests_of items) → AreAwaited suspended awaited
    → IsAdmission (has_trees suspended) awaited test (trees_of (requests_of items)) slots rules
    → AllByRecursion (IsFitUnless (error_in slots rules) test) (requests_of items)
all_fit suspended awaited test items slots rules rising behind waits admission_is =
    from_trees (IsFitUnless (error_in slots rules) test) (requests_of items) rising behind
    (fit_trees (error_in slots rules) suspended test (trees_of (requests_of items))
    (judged_by suspended awaited test (trees_of (requests_of items)) slots rules waits (stand_once items rising) admission_is))

block_there : (bound : List (List ℕ × Tree)) (work : Work) → (needs_block work ≡ true → passes (is_some_name bound) (name_of work) ≡ true) → is_some (block_by bound work) ≡ needs_block work
block_there bound Null fit = refl
block_there bound (Read name prio) fit = fit refl
block_there bound (Write name sum copies prio body) fit = refl
block_there bound (Free name) fit = fit refl
block_there bound (Claim name pointer) fit = refl

-- ---- children

pub found_one : (n : ℕ) (rs : List Request) (q : Request) → find (λ (r : Request). eqb r.number n) rs ≡ Some q → IsOneOf q rs × (q.number ≡ n)
found_one n [] q is = absurd (let f = is in cc)
found_one n (r ∷ rs) q is = go (eqb r.number n) refl is (found_one n rs q)
  where
    go : (b : Bool) → eqb r.number n ≡ b → cond b (Some r) (find (λ (x : Request). eqb x.number n) rs) ≡ Some q
        → (find (λ (x : Request). eqb x.number n) rs ≡ Some q → IsOneOf q rs × (q.number ≡ n)) → IsOneOf q (r ∷ rs) × (q.number ≡ n)
    go true e k later = let same : r ≡ q = some_same r q k in (inl same, ap (λ (x : Request). x.number) (sym same) ∙ eqb-true r.number n e)
    go false e k later = let rest = later k in (inr rest.0, rest.1)

-- a child of a request may stand under it
abbrev pub MayStand : Request → Request → Type 0
MayStand r q = q.under ≡ Some r.number → may_have (kind_of r.work) (kind_of q.work) ≡ true

child_may : (r q : Request) (before : List Request) → IsOneOf r before → AreRising before → HasParentIn before (kind_of q.work) q.under → MayStand r q
child_may r q before at rising parent under =
    let child = subst (HasParentIn before (kind_of q.work)) under parent in
    let found = found_one r.number before child.parent child.found in
    let same : child.parent ≡ r = one_number before child.parent r rising found.0 at found.1 in
    subst (λ (x : Request). may_have (kind_of x.work) (kind_of q.work) ≡ true) same child.may

children_may : (r : Request) (before rs : List Request) → IsOneOf r before → AreRising (before ++ rs) → AreBehindParents before rs → AllByRecursion (MayStand r) rs
children_may r before [] at rising h = tt
children_may r before (q ∷ rs) at rising h = (
  child_may r q before at (rising_front before (q ∷ rs) rising) h.0,
  children_may r (before ++ q ∷ []) rs (one_left r before (q ∷ []) at) (subst AreRising (sym (append_assoc before (q ∷ []) rs)) rising) h.1,
)

-- so it is behind each request
abbrev AllMayStand : List Request → Type 0
AllMayStand [] = Unit {0}
AllMayStand (r ∷ rs) = AllByRecursion (MayStand r) rs × AllMayStand rs

all_may : (before rs : List Request) → AreRising (before ++ rs) → AreBehindParents before rs → AllMayStand rs
all_may before [] rising h = tt
all_may before (r ∷ rs) rising h =
    let next : AreRising ((before ++ r ∷ []) ++ rs) = subst AreRising (sym (append_assoc before (r ∷ []) rs)) rising in (
      children_may r (before ++ r ∷ []) rs (one_right r before (r ∷ []) (inl refl)) next h.1,
      all_may (before ++ r ∷ []) rs next h.1,
    )

-- ---- counts

abbrev pub counting : (Request → Bool) → List Request → ℕ
counting test [] = 0
counting test (r ∷ rs) = cond (test r) (1 + counting test rs) (counting test rs)

pub counting_is : (test : Request → Bool) (rs : List Request) → counting test rs ≡ count_by test rs
counting_is test rs = is_count_by (counting test) test refl (λ r qs. refl) rs

more_if : (b : Bool) (n m : ℕ) → n ≤ m → n ≤ cond b (1 + m) m
more_if true n m h = omega arith
more_if false n m h = h

both_if : (b : Bool) (n m : ℕ) → n ≤ m → cond b (1 + n) n ≤ cond b (1 + m) m
both_if true n m h = omega arith
both_if false n m h = h

fewer_kept : (test keep : Request → Bool) (rs : List Request) → counting test (filter keep rs) ≤ counting test rs
fewer_kept test keep [] = omega arith
fewer_kept test keep (r ∷ rs) = go (keep r) (fewer_kept test keep rs)
  where
    go : (b : Bool) → counting test (filter keep rs) ≤ counting test rs → counting test (cond b (r ∷ filter keep rs) (filter keep rs)) ≤ cond (test r) (1 + counting test rs) (counting test rs)
    go true later = both_if (test r) (counting test (filter keep rs)) (counting test rs) later
    go false later = more_if (test r) (counting test (filter keep rs)) (counting test rs) later

counting_push : (test : Request → Bool) (xs : List Request) (q : Request) → counting test (xs ++ q ∷ []) ≡ cond (test q) (1 + counting test xs) (counting test xs)
counting_push test [] q = refl
counting_push test (x ∷ xs) q = ap (λ (n : ℕ). cond (test x) (1 + n) n) (counting_push test xs q) ∙ swap (test x) (test q) (counting test xs)
  where
    swap : (a b : Bool) (n : ℕ) → cond a (1 + cond b (1 + n) n) (cond b (1 + n) n) ≡ cond b (1 + cond a (1 + n) n) (cond a (1 + n) n)
    swap true true n = refl
    swap true false n = refl
    swap false true n = refl
    swap false false n = refl

room_if : (n : ℕ) (before : List Request) (kind : Kind) (under : Option ℕ) → HasParentIn before kind under → is_under_number under n ≡ true
    → counting (λ (r : Request). is_under r n) before < CHILDREN_MAX
room_if n before kind None parent is = absurd (let f = is in cc)
room_if n before kind (Some p) parent is =
    let same : p ≡ n = eqb-true p n is in
    let found = found_one p before parent.parent parent.found in
    let room : children_in before parent.parent.number < CHILDREN_MAX = parent.room in
    let at : parent.parent.number ≡ n = found.1 ∙ same in
    let count : counting (λ (r : Request). is_under r n) before ≡ children_in before n = counting_is (λ (r : Request). is_under r n) before in
    let here : children_in before n < CHILDREN_MAX = subst (λ (k : ℕ). children_in before k < CHILDREN_MAX) at room in
    omega arith

few_step : (b : Bool) (count : ℕ) → count ≤ CHILDREN_MAX → (b ≡ true → count < CHILDREN_MAX) → cond b (1 + count) count ≤ CHILDREN_MAX
few_step true count h room = let below : count < CHILDREN_MAX = room refl in omega arith
few_step false count h room = h

few_children : (n : ℕ) (before rs : List Request) → AreBehindParents before rs → counting (λ (r : Request). is_under r n) before ≤ CHILDREN_MAX
    → counting (λ (r : Request). is_under r n) (before ++ rs) ≤ CHILDREN_MAX
few_children n before [] h few = subst (λ (xs : List Request). counting (λ (r : Request). is_under r n) xs ≤ CHILDREN_MAX) (sym (append_none before)) few
  where
    append_none : (xs : List Request) → xs ++ [] ≡ xs
    append_none [] = refl
    append_none (x ∷ xs) = ap (λ (ys : List Request). x ∷ ys) (append_none xs)
few_children n before (q ∷ rs) h few =
    subst (λ (xs : List Request). counting (λ (r : Request). is_under r n) xs ≤ CHILDREN_MAX) (append_assoc before (q ∷ []) rs)
    (few_children n (before ++ q ∷ []) rs h.1
    (subst (λ (k : ℕ). k ≤ CHILDREN_MAX) (sym (counting_push (λ (r : Request). is_under r n) before q))
    (few_step (is_under q n) (counting (λ (r : Request). is_under r n) before) few (λ is. room_if n before (kind_of q.work) q.under h.0 is))))

rounded_more : (n m : ℕ) → n ≤ m → rounded_up n ≤ rounded_up m
rounded_more n m h = omega arith

size_more : (n m : ℕ) (work : Work) → n ≤ m → size_with n work ≤ size_with m work
size_more n m Null h = omega arith
size_more n m (Read name prio) h = omega arith
size_more n m (Write name sum copies prio body) h = rounded_more _ _ (omega arith)
size_more n m (Free name) h = omega arith
size_more n m (Claim name pointer) h = omega arith

-- ---- all of a batch

-- what is known of each request beside the whole batch
record IsSound (test : List ℕ → Bool) (error : ℕ → Option Errno) (batch : List Request) (r : Request) : Type 0 where
  range : IsInRange r
  fit : IsFitUnless error test r
  size : size_with (writes_under batch r.number) r.work ≤ BLOCK_SIZE_MAX

module _ (number : ℕ) (some : 1 ≤ number) (bound : List (List ℕ × Tree)) (error : ℕ → Option Errno) (batch : List Request)
    (few : (n : ℕ) → counting (λ (r : Request). is_under r n) batch ≤ CHILDREN_MAX) where
  abbrev keep : Request → Bool
  keep r = is_none (error r.number)

  all_kept : (P : Request → Type 0) (rs : List Request) → AllByRecursion P rs → AllByRecursion P (filter keep rs)
  all_kept P [] h = tt
  all_kept P (r ∷ rs) h = go (keep r) (all_kept P rs h.1)
    where
      go : (b : Bool) → AllByRecursion P (filter keep rs) → AllByRecursion P (cond b (r ∷ filter keep rs) (filter keep rs))
      go true rest = (h.0, rest)
      go false rest = rest

  one_ready : (r : Request) (rs : List Request) → ((test : Request → Bool) → counting test rs ≤ counting test batch) → keep r ≡ true
      → AreRising (r ∷ rs) → AllByRecursion (MayStand r) rs → IsSound (is_some_name bound) error batch r → IsReady number bound r (filter keep rs)
  one_ready r rs within kept rising may sound =
      let writes : Request → Bool = λ (q : Request). is_under q r.number && is_write (kind_of q.work) in
      let free : error r.number ≡ None = is_none_none (error r.number) kept in
      record {
        some = some;
        range = sound.range;
        block_is = block_there bound r.work (sound.fit free).0;
        below = all_kept (λ (q : Request). r.number < q.number) rs rising.0;
        rising = rising_kept keep rs rising.1;
        kinds = all_kept (MayStand r) rs may;
        few = (let a : counting (λ (q : Request). is_under q r.number) (filter keep rs) ≤ counting (λ (q : Request). is_under q r.number) rs = fewer_kept (λ (q : Request). is_under q r.number) keep rs in
            let b : counting (λ (q : Request). is_under q r.number) rs ≤ counting (λ (q : Request). is_under q r.number) batch = within (λ (q : Request). is_under q r.number) in
            let c : counting (λ (q : Request). is_under q r.number) batch ≤ CHILDREN_MAX = few r.number in
            let d : counting (λ (q : Request). is_under q r.number) (filter keep rs) ≡ children_in (filter keep rs) r.number = counting_is (λ (q : Request). is_under q r.number) (filter keep rs) in
            omega arith);
        size = (let a : counting writes (filter keep rs) ≤ counting writes rs = fewer_kept writes keep rs in
            let b : counting writes rs ≤ counting writes batch = within writes in
            let c : counting writes (filter keep rs) ≡ writes_under (filter keep rs) r.number = counting_is writes (filter keep rs) in
            let d : counting writes batch ≡ writes_under batch r.number = counting_is writes batch in
            let e : writes_under (filter keep rs) r.number ≤ writes_under batch r.number = omega arith in
            let f : size_with (writes_under (filter keep rs) r.number) r.work ≤ size_with (writes_under batch r.number) r.work = size_more _ _ r.work e in
            let g = sound.size in omega arith);
      }
    where
      is_none_none : (o : Option Errno) → is_none o ≡ true → o ≡ None
      is_none_none None e = refl
      is_none_none (Some x) e = absurd (let f = e in cc)

  ready_all : (rs : List Request) → ((test : Request → Bool) → counting test rs ≤ counting test batch) → AreRising rs → AllMayStand rs
      → AllByRecursion (IsSound (is_some_name bound) error batch) rs → AreReady number bound (filter keep rs)
  ready_all [] within rising may sound = tt
  ready_all (r ∷ rs) within rising may sound =
      go (keep r) refl (ready_all rs (λ test. (let w : cond (test r) (1 + counting test rs) (counting test rs) ≤ counting test batch = within test in
      let m : counting test rs ≤ cond (test r) (1 + counting test rs) (counting test rs) = more_if (test r) (counting test rs) (counting test rs) (omega arith) in omega arith)) rising.1 may.1 sound.1)
    where
      go : (b : Bool) → keep r ≡ b → AreReady number bound (filter keep rs) → AreReady number bound (cond b (r ∷ filter keep rs) (filter keep rs))
      go true kept later = (
        one_ready r rs (λ test. (let w : cond (test r) (1 + counting test rs) (counting test rs) ≤ counting test batch = within test in
            let m : counting test rs ≤ cond (test r) (1 + counting test rs) (counting test rs) = more_if (test r) (counting test rs) (counting test rs) (omega arith) in omega arith)) kept rising may.0 sound.0,
        later,
      )
      go false kept later = later

-- The requests of an orderly batch that run are ready.
pub batch_ready : (apart : Bool) (suspended : List (List Pending)) (awaited : List ℕ → Bool) (bound : List (List ℕ × Tree)) (number : ℕ) (items : List Item) (slots : List (ℕ × ℕ)) (rules : List Rules)
    → 1 ≤ number → AreRising (requests_of items) → IsOrderlyBatch apart (requests_of items) → AreAwaited suspended awaited
    → IsAdmission (has_trees suspended) awaited (is_some_name bound) (trees_of (requests_of items)) slots rules
    → AreReady number bound (running slots rules items)
batch_ready apart suspended awaited bound number items slots rules some rising orderly waits admission_is =
    let batch : List Request = requests_of items in
    let error : ℕ → Option Errno = error_in slots rules in
    let sizes : AllByRecursion (λ (q : Request). size_with (writes_under batch q.number) q.work ≤ BLOCK_SIZE_MAX) batch =
    all_unmap (λ n. n ≤ BLOCK_SIZE_MAX) (λ (q : Request). size_with (writes_under batch q.number) q.work) batch orderly.sizes in
    let fit = all_fit suspended awaited (is_some_name bound) items slots rules rising orderly.parents waits admission_is in
    ready_all number some bound error batch
    (λ n. few_children n [] batch orderly.parents (let zero_few : 0 ≤ CHILDREN_MAX = omega arith in zero_few))
    batch (λ test. (let same : counting test batch ≤ counting test batch = omega arith in same)) rising (all_may [] batch rising orderly.parents)
    (all_both (λ (q : Request). IsInRange q × IsFitUnless error (is_some_name bound) q) (λ (q : Request). size_with (writes_under batch q.number) q.work ≤ BLOCK_SIZE_MAX)
    (IsSound (is_some_name bound) error batch) batch (λ q both size. record { range = both.0; fit = both.1; size = size })
    (all_both IsInRange (IsFitUnless error (is_some_name bound)) (λ (q : Request). IsInRange q × IsFitUnless error (is_some_name bound) q) batch (λ q a b. (a, b)) orderly.ranges fit) sizes)
