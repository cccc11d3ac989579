-- What completes in a round: each request once, behind its children, and none of it comes later.
use Rattle.std.proofs.Common.{◌≡◌, ℕ, ◌<◌, ◌≤◌, List, [], ◌∷◌, ◌++◌, map, filter, reverse, find, Bool, true, false, ◌&&◌, ◌||◌, ◌==◌, cond, Option, Some, None, eqb, eqb-true, eq-eqb, refl, sym, ap, ◌∙◌, subst, inl, inr, arith, Contains, append_assoc}
use Rattle.std.specs.Prelude.{is_none}
use Rattle.std.specs.List.{AllByRecursion, list_any}
use Rattle.std.proofs.lemmas.Bool.{false_from_ne_true}
use Rattle.std.proofs.lemmas.List.{reverse-append}
use Rattle.zio_types.specs.declared.error.Errno.{Errno}
use Rattle.zio_types.specs.declared.journal.Completion.{Completion}
use Rattle.zio_types.specs.declared.request.Kind.{Kind}
use Rattle.zio_script.specs.declared.script.Request.{Request}
use Rattle.zio_script.specs.Accepted.{AreBehindParents, AreRising, HasParentIn}
use Rattle.zio_script.specs.Requests.{is_under, is_under_number, kind_of}
use Rattle.zio_cksum.proofs.AllLemmas.{all_append, all_filter, all_weaker}
use Rattle.zio_gang.specs.Attempts.{Pending}
use Rattle.zio_gang.specs.Journals.{CompleteAfterChildren, CompleteOnce, is_child}
use Rattle.zio_gang.specs.declared.tree.Tree.{Tree}
use Rattle.zio_course.specs.declared.runner.RequestEnd.{RequestEnd}
use Rattle.zio_course.specs.Answered.{answer_of, answered_in}
use Rattle.zio_course.specs.Live.{IsRoundOver}
use Rattle.zio_course.specs.Parents.{AreParented, has_numbered}
use Rattle.zio_course.specs.Runners.{IsRoundEnd, SeenEnd, Standing, completion_for, joined_trees, numbers_of, requests_in}
use Rattle.zio_course.specs.Steps.{AreUnfinished}
use Rattle.zio_course.specs.Told.{finish_of}
use Rattle.zio_course.proofs.AdmittedLemmas.{not_both}
use Rattle.zio_course.proofs.DoneLemmas.{contains_one}
use Rattle.zio_course.proofs.EndLemmas.{own_times, times, times_is}
use Rattle.zio_course.proofs.JoinLemmas.{rising_both, times_has, unfinished_in}
use Rattle.zio_course.proofs.JournalLemmas.{after_both, once_both}
use Rattle.zio_course.proofs.LineLemmas.{found_at}
use Rattle.zio_course.proofs.MadeLemmas.{one_filtered}
use Rattle.zio_course.proofs.SortLemmas.{IsOneOf, all_one, one_all, one_left, one_map, one_right}
use Rattle.zio_course.proofs.StepLemmas.{one_number, some_same}
use Rattle.zio_course.proofs.WaitLemmas.{is_left}

-- ---- parents among requests

-- the parent of each of these requests is among those
abbrev pub Kin : List Request → List Request → Type 0
Kin whole rs = AllByRecursion (λ (q : Request). (n : ℕ) → q.under ≡ Some n → (p : Request) × IsOneOf p whole × (p.number ≡ n)) rs

-- a parent's number is below its child's
abbrev pub AreBelow : List Request → Type 0
AreBelow rs = AllByRecursion (λ (q : Request). (n : ℕ) → q.under ≡ Some n → n < q.number) rs

find_number : (n : ℕ) (rs : List Request) (p : Request) → find (λ (r : Request). r.number == n) rs ≡ Some p → IsOneOf p rs × (p.number ≡ n)
find_number n [] p e = absurd (let no = e in cc)
find_number n (r ∷ rs) p e = go (eqb r.number n) refl e (find_number n rs p)
  where
    go : (b : Bool) → eqb r.number n ≡ b → cond b (Some r) (find (λ (q : Request). q.number == n) rs) ≡ Some p
        → (find (λ (q : Request). q.number == n) rs ≡ Some p → IsOneOf p rs × (p.number ≡ n)) → IsOneOf p (r ∷ rs) × (p.number ≡ n)
    go true is k later = let same : r ≡ p = some_same r p k in (inl same, ap (λ (q : Request). q.number) (sym same) ∙ eqb-true r.number n is)
    go false is k later = let found = later k in (inr found.0, found.1)

parent_before : (before : List Request) (kind : Kind) (under : Option ℕ) (n : ℕ) → HasParentIn before kind under → under ≡ Some n → (p : Request) × IsOneOf p before × (p.number ≡ n)
parent_before before kind None n h e = absurd (let no = e in cc)
parent_before before kind (Some m) n h e =
    let found = find_number m before h.parent h.found in
    let same : m ≡ n = some_same m n e in (h.parent, found.0, found.1 ∙ same)

kin_from : (before rs : List Request) → AreBehindParents before rs → Kin (before ++ rs) rs
kin_from before [] h = tt
kin_from before (r ∷ rs) h = (
  λ n e. (let p = parent_before before (kind_of r.work) r.under n h.0 e in (p.0, one_left p.0 before (r ∷ rs) p.1, p.2)),
  subst (λ (xs : List Request). Kin xs rs) (append_assoc before (r ∷ []) rs) (kin_from (before ++ r ∷ []) rs h.1),
)

pub kin_batch : (rs : List Request) → AreBehindParents [] rs → Kin rs rs
kin_batch rs h = kin_from [] rs h

below_from : (before rs : List Request) → AreRising (before ++ rs) → AreBehindParents before rs → AreBelow rs
below_from before [] up h = tt
below_from before (r ∷ rs) up h = (
  λ n e.
      (let p = parent_before before (kind_of r.work) r.under n h.0 e in
      let low : p.0.number < r.number =
      one_all (λ (y : Request). p.0.number < y.number) r (r ∷ rs) (one_all (λ (x : Request). AllByRecursion (λ (y : Request). x.number < y.number) (r ∷ rs)) p.0 before (rising_both before (r ∷ rs) up).2 p.1) (inl refl) in
      subst (λ (k : ℕ). k < r.number) p.2 low),
  below_from (before ++ r ∷ []) rs (subst AreRising (sym (append_assoc before (r ∷ []) rs)) up) h.1,
)

pub below_batch : (rs : List Request) → AreRising rs → AreBehindParents [] rs → AreBelow rs
below_batch rs up h = below_from [] rs up h

pub kin_more : (whole more rs : List Request) → ((p : Request) → IsOneOf p whole → IsOneOf p more) → Kin whole rs → Kin more rs
kin_more whole more rs in_more h =
    all_weaker (λ (q : Request). (n : ℕ) → q.under ≡ Some n → (p : Request) × IsOneOf p whole × (p.number ≡ n))
    (λ (q : Request). (n : ℕ) → q.under ≡ Some n → (p : Request) × IsOneOf p more × (p.number ≡ n)) rs
    (λ q k n e. let p = k n e in (p.0, in_more p.0 p.1, p.2)) h

pub kin_both : (xs ys : List Request) → Kin xs xs → Kin ys ys → Kin (xs ++ ys) (xs ++ ys)
kin_both xs ys h k =
    all_append (λ (q : Request). (n : ℕ) → q.under ≡ Some n → (p : Request) × IsOneOf p (xs ++ ys) × (p.number ≡ n)) xs ys
    (kin_more xs (xs ++ ys) xs (λ p at. one_left p xs ys at) h) (kin_more ys (xs ++ ys) ys (λ p at. one_right p xs ys at) k)

numbered_one : (n : ℕ) (ps : List Pending) → has_numbered n ps ≡ true → (p : Pending) × IsOneOf p ps × (p.request.number ≡ n)
numbered_one n [] e = absurd (let no = e in cc)
numbered_one n (q ∷ ps) e = go (eqb q.request.number n) refl e (numbered_one n ps)
  where
    go : (b : Bool) → eqb q.request.number n ≡ b → (b || has_numbered n ps) ≡ true → (has_numbered n ps ≡ true → (p : Pending) × IsOneOf p ps × (p.request.number ≡ n))
        → (p : Pending) × IsOneOf p (q ∷ ps) × (p.request.number ≡ n)
    go true is k later = (q, inl refl, eqb-true q.request.number n is)
    go false is k later = let found = later k in (found.0, inr found.1, found.2)

tree_kin : (ps : List Pending) → AreParented ps → AllByRecursion (λ (q : Pending). (n : ℕ) → q.request.under ≡ Some n → (p : Pending) × IsOneOf p ps × (p.request.number ≡ n)) ps
tree_kin [] h = tt
tree_kin (q ∷ ps) h = (
  λ n e. (let p = numbered_one n ps (h.0 n e) in (p.0, inr p.1, p.2)),
  all_weaker (λ (x : Pending). (n : ℕ) → x.request.under ≡ Some n → (p : Pending) × IsOneOf p ps × (p.request.number ≡ n))
      (λ (x : Pending). (n : ℕ) → x.request.under ≡ Some n → (p : Pending) × IsOneOf p (q ∷ ps) × (p.request.number ≡ n)) ps
      (λ x k n e. let p = k n e in (p.0, inr p.1, p.2)) (tree_kin ps h.1),
)

trees_kin : (trees : List (List Pending)) → AllByRecursion AreParented trees
    → AllByRecursion (λ (q : Pending). (n : ℕ) → q.request.under ≡ Some n → (p : Pending) × IsOneOf p (joined_trees trees) × (p.request.number ≡ n)) (joined_trees trees)
trees_kin [] h = tt
trees_kin (tree ∷ trees) h =
    all_append (λ (q : Pending). (n : ℕ) → q.request.under ≡ Some n → (p : Pending) × IsOneOf p (tree ++ joined_trees trees) × (p.request.number ≡ n)) tree (joined_trees trees)
    (all_weaker (λ (x : Pending). (n : ℕ) → x.request.under ≡ Some n → (p : Pending) × IsOneOf p tree × (p.request.number ≡ n))
    (λ (q : Pending). (n : ℕ) → q.request.under ≡ Some n → (p : Pending) × IsOneOf p (tree ++ joined_trees trees) × (p.request.number ≡ n)) tree
    (λ x k n e. let p = k n e in (p.0, one_left p.0 tree (joined_trees trees) p.1, p.2)) (tree_kin tree h.0))
    (all_weaker (λ (x : Pending). (n : ℕ) → x.request.under ≡ Some n → (p : Pending) × IsOneOf p (joined_trees trees) × (p.request.number ≡ n))
    (λ (q : Pending). (n : ℕ) → q.request.under ≡ Some n → (p : Pending) × IsOneOf p (tree ++ joined_trees trees) × (p.request.number ≡ n)) (joined_trees trees)
    (λ x k n e. let p = k n e in (p.0, one_right p.0 tree (joined_trees trees) p.1, p.2)) (trees_kin trees h.1))

-- in trees whose requests come before their parents
pub kin_trees : (trees : List (List Pending)) → AllByRecursion AreParented trees → Kin (requests_in trees) (requests_in trees)
kin_trees trees h = go (joined_trees trees) (trees_kin trees h)
  where
    go : (ps : List Pending) → AllByRecursion (λ (q : Pending). (n : ℕ) → q.request.under ≡ Some n → (p : Pending) × IsOneOf p (joined_trees trees) × (p.request.number ≡ n)) ps
        → Kin (requests_in trees) (map (λ (p : Pending). p.request) ps)
    go [] k = tt
    go (x ∷ ps) k = (λ n e. (let p = k.0 n e in (p.0.request, one_map (λ (y : Pending). y.request) p.0 (joined_trees trees) p.1, p.2)), go ps k.1)

pub kin_unfinished : (suspended : List (List Pending)) (unfinished : List Request) → AreUnfinished suspended unfinished → AllByRecursion AreParented suspended → Kin unfinished unfinished
kin_unfinished suspended unfinished h parents =
    let kin : Kin (requests_in suspended) (requests_in suspended) = kin_trees suspended parents in
    all_one (λ (q : Request). (n : ℕ) → q.under ≡ Some n → (p : Request) × IsOneOf p unfinished × (p.number ≡ n)) unfinished (λ u at n e.
    (let there : IsOneOf u (requests_in suspended) = one_all (λ (x : Request). IsOneOf x (requests_in suspended)) u unfinished (unfinished_in suspended unfinished h) at in
    let p = one_all (λ (q : Request). (m : ℕ) → q.under ≡ Some m → (p : Request) × IsOneOf p (requests_in suspended) × (p.number ≡ m)) u (requests_in suspended) kin there n e in
    (p.0, contains_one p.0 unfinished (one_all (Contains unfinished) p.0 (requests_in suspended) h.among p.1), p.2)))

-- ---- behind the completions of the rounds before

-- the completion is of one of these requests
abbrev pub IsOf : List Request → Completion → Type 0
IsOf rs c = (q : Request) × IsOneOf q rs × (q.number ≡ c.request)

-- no request completes there that is one of these
abbrev pub IsPast : List Request → Completion → Type 0
IsPast rs c = AllByRecursion (λ (r : Request). (r.number == c.request) ≡ false) rs

pub any_one : {X : Type 0} (P : X → Bool) (xs : List X) → list_any P xs ≡ true → (x : X) × IsOneOf x xs × (P x ≡ true)
any_one P [] e = absurd (let no = e in cc)
any_one P (x ∷ xs) e = go (P x) refl e (any_one P xs)
  where
    go : (b : Bool) → P x ≡ b → (b || list_any P xs) ≡ true → (list_any P xs ≡ true → (y : _) × IsOneOf y xs × (P y ≡ true)) → (y : _) × IsOneOf y (x ∷ xs) × (P y ≡ true)
    go true is k later = (x, inl refl, is)
    go false is k later = let found = later k in (found.0, inr found.1, found.2)

under_some : (under : Option ℕ) (n : ℕ) → is_under_number under n ≡ true → under ≡ Some n
under_some None n e = absurd (let no = e in cc)
under_some (Some m) n e = ap Some (eqb-true m n e)

some_under : (under : Option ℕ) (n : ℕ) → under ≡ Some n → is_under_number under n ≡ true
some_under None n e = absurd (let no = e in cc)
some_under (Some m) n e = eq-eqb m n (some_same m n e)

two_true : (a b : Bool) → (a && b) ≡ true → (a ≡ true) × (b ≡ true)
two_true true b e = (refl, e)
two_true false b e = absurd (let no = e in cc)

-- a child that completes there is one of these requests, where it is of their number
child_is : (all rs : List Request) (c d : Completion) → AreRising all → AllByRecursion (λ (q : Request). IsOneOf q all) rs → IsOf rs d → is_child all c d ≡ true
    → (q : Request) × IsOneOf q rs × (q.number ≡ d.request) × (q.under ≡ Some c.request)
child_is all rs c d up among of e =
    let found = any_one (λ (r : Request). (r.number == d.request) && is_under r c.request) all e in
    let both = two_true (found.0.number == d.request) (is_under found.0 c.request) found.2 in
    let same : found.0 ≡ of.0 = one_number all found.0 of.0 up found.1 (one_all (λ (q : Request). IsOneOf q all) of.0 rs among of.1) (eqb-true found.0.number d.request both.0 ∙ sym of.2) in
    (of.0, of.1, of.2, ap (λ (r : Request). r.under) (sym same) ∙ under_some found.0.under c.request both.1)

-- One round more behind the rounds before.
pub complete_next : (all coming : List Request) (old done : List Completion) → AreRising all → AllByRecursion (λ (q : Request). IsOneOf q all) coming → Kin coming coming
    → AllByRecursion (IsPast coming) old → AllByRecursion (IsOf coming) done
    → CompleteOnce old → CompleteAfterChildren all old → CompleteOnce done → CompleteAfterChildren all done
    → CompleteOnce (old ++ done) × CompleteAfterChildren all (old ++ done)
complete_next all coming old done up among kin past of once after once_done after_done = (
  once_both old done once once_done
      (all_weaker (IsPast coming) (λ (c : Completion). AllByRecursion (λ (d : Completion). (c.request == d.request) ≡ false) done) old
      (λ c p. all_weaker (IsOf coming) (λ (d : Completion). (c.request == d.request) ≡ false) done (λ d o. differ c d p o) of) past),
  after_both all old done after after_done
      (all_weaker (IsPast coming) (λ (c : Completion). AllByRecursion (λ (d : Completion). is_child all c d ≡ false) done) old
      (λ c p. all_weaker (IsOf coming) (λ (d : Completion). is_child all c d ≡ false) done (λ d o. no_child c d p o) of) past),
)
  where
    absent : {Z : Type 0} (c : Completion) (q : Request) → IsPast coming c → IsOneOf q coming → q.number ≡ c.request → Z
    absent c q p at same = not_both (q.number == c.request) (eq-eqb q.number c.request same) (one_all (λ (r : Request). (r.number == c.request) ≡ false) q coming p at)

    differ : (c d : Completion) → IsPast coming c → IsOf coming d → (c.request == d.request) ≡ false
    differ c d p o = false_from_ne_true (c.request == d.request) (λ same. absent c o.0 p o.1 (o.2 ∙ sym (eqb-true c.request d.request same)))

    no_child : (c d : Completion) → IsPast coming c → IsOf coming d → is_child all c d ≡ false
    no_child c d p o = false_from_ne_true (is_child all c d) (λ is.
        (let child = child_is all coming c d up among o is in
        let parent = one_all (λ (q : Request). (n : ℕ) → q.under ≡ Some n → (r : Request) × IsOneOf r coming × (r.number ≡ n)) child.0 coming kin child.1 c.request child.3 in
        absent c parent.0 p parent.1 parent.2))

-- ---- what is yet to come

number_apart : (n m : ℕ) → (n ≡ m → ⊥) → (n == m) ≡ false
number_apart n m h = false_from_ne_true (n == m) (λ e. h (eqb-true n m e))

-- a request of the round that is neither left nor yet to run is none of those that come later
pub past_next : (front own back : List Request) (test : Request → Bool) (q : Request) → AreRising (front ++ (own ++ back)) → IsOneOf q own → test q ≡ false
    → AllByRecursion (λ (r : Request). (r.number == q.number) ≡ false) (front ++ (filter test own ++ back))
past_next front own back test q up at gone =
    let outer = rising_both front (own ++ back) up in
    let inner = rising_both own back outer.1 in
    let own_in : IsOneOf q (own ++ back) = one_left q own back at in
    all_append (λ (r : Request). (r.number == q.number) ≡ false) front (filter test own ++ back)
    (all_weaker (λ (x : Request). AllByRecursion (λ (y : Request). x.number < y.number) (own ++ back)) (λ (r : Request). (r.number == q.number) ≡ false) front
    (λ x low. number_apart x.number q.number (λ same. (let less : x.number < q.number = one_all (λ (y : Request). x.number < y.number) q (own ++ back) low own_in in omega arith))) outer.2)
    (all_append (λ (r : Request). (r.number == q.number) ≡ false) (filter test own) back
    (all_one (λ (r : Request). (r.number == q.number) ≡ false) (filter test own) (λ r here.
    (let there = one_filtered test own r here in
    number_apart r.number q.number (λ same. not_both (test r) there.1 (ap test (one_number own r q inner.0 there.0 at same) ∙ gone)))))
    (all_weaker (λ (y : Request). q.number < y.number) (λ (r : Request). (r.number == q.number) ≡ false) back (λ y more. number_apart y.number q.number (λ same. omega arith))
    (one_all (λ (x : Request). AllByRecursion (λ (y : Request). x.number < y.number) back) q own inner.2 at)))

-- what was past stays so
pub past_stays : (P : Request → Type 0) (front own back : List Request) (test : Request → Bool) → AllByRecursion P (front ++ (own ++ back)) → AllByRecursion P (front ++ (filter test own ++ back))
past_stays P front own back test h =
    let outer = parts front (own ++ back) h in
    let inner = parts own back outer.1 in
    all_append P front (filter test own ++ back) outer.0 (all_append P (filter test own) back (all_filter P test own (all_weaker P (λ x. test x ≡ true → P x) own (λ x p e. p) inner.0)) inner.1)
  where
    parts : (xs ys : List Request) → AllByRecursion P (xs ++ ys) → AllByRecursion P xs × AllByRecursion P ys
    parts [] ys k = (tt, k)
    parts (x ∷ xs) ys k = let rest = parts xs ys k.1 in ((k.0, rest.0), rest.1)

-- ---- what completes in a round

-- a request of the round that was answered or finished
abbrev pub IsDone : (ℕ → Option Errno) → List RequestEnd → List Request → Completion → Type 0
IsDone error finished rs c = (q : Request) × IsOneOf q rs × (q.number ≡ c.request) × (is_left error finished q ≡ false)

-- what finished is of a request in the trees
pub finished_done : (s : Standing) (round : ℕ) (apart : Bool) (trees : List (List Pending)) (end : SeenEnd) (requests : List Request) (error : ℕ → Option Errno) (bound : List (List ℕ × Tree))
    → IsRoundEnd s round trees end → IsRoundOver apart bound error requests trees
    → AllByRecursion (λ (c : Completion). (q : Request) × IsOneOf q (requests_in trees) × (q.number ≡ c.request) × (finish_of end.finished q.number ≡ None → ⊥)) end.completions
finished_done s round apart trees end requests error bound over known =
    all_one (λ (c : Completion). (q : Request) × IsOneOf q (requests_in trees) × (q.number ≡ c.request) × (finish_of end.finished q.number ≡ None → ⊥)) end.completions (λ c at.
    (let there : IsOneOf c (map (completion_for round) end.finished) =
    contains_one c (map (completion_for round) end.finished) (one_all (λ d. Contains (map (completion_for round) end.finished) d) c end.completions over.completed at) in
    let f = mapped (completion_for round) end.finished c there in
    let number : f.0.request ≡ c.request = ap (λ (d : Completion). d.request) f.2 in
    let some : 1 ≤ times f.0.request (map (λ (g : RequestEnd). g.request) end.finished) =
    one_all (λ n. 1 ≤ times n (map (λ (g : RequestEnd). g.request) end.finished)) f.0.request (map (λ (g : RequestEnd). g.request) end.finished) (own_times (map (λ (g : RequestEnd). g.request) end.finished))
    (one_map (λ (g : RequestEnd). g.request) f.0 end.finished f.1) in
    let a = times_is f.0.request (map (λ (g : RequestEnd). g.request) end.finished) in
    let b = times_is f.0.request (numbers_of (requests_in trees)) in
    let split = over.each f.0.request in
    let q = times_has f.0.request (requests_in trees) (omega arith) in
    (q.0, q.1, q.2 ∙ number, λ none. (let found = found_at 0 end.finished f.0 over.rising f.1 in let no = sym (ap (finish_of end.finished) q.2) ∙ none in cc))))
  where
    mapped : {X Y : Type 0} (g : X → Y) (xs : List X) (y : Y) → IsOneOf y (map g xs) → (x : X) × IsOneOf x xs × (g x ≡ y)
    mapped g [] y at = absurd at
    mapped g (x ∷ xs) y (inl same) = (x, inl refl, same)
    mapped g (x ∷ xs) y (inr at) = let found = mapped g xs y at in (found.0, inr found.1, found.2)

-- the completions of what was answered are of requests with an error
pub answered_of : (error : ℕ → Option Errno) (round : ℕ) (rs : List Request)
    → AllByRecursion (λ (c : Completion). (q : Request) × IsOneOf q rs × (q.number ≡ c.request) × (is_none (error q.number) ≡ false)) (answered_in error round rs)
answered_of error round [] = tt
answered_of error round (r ∷ rs) =
    all_append (λ (c : Completion). (q : Request) × IsOneOf q (r ∷ rs) × (q.number ≡ c.request) × (is_none (error q.number) ≡ false)) (answer_of (error r.number) round r) (answered_in error round rs)
    (own (error r.number) refl)
    (all_weaker (λ (c : Completion). (q : Request) × IsOneOf q rs × (q.number ≡ c.request) × (is_none (error q.number) ≡ false))
    (λ (c : Completion). (q : Request) × IsOneOf q (r ∷ rs) × (q.number ≡ c.request) × (is_none (error q.number) ≡ false)) (answered_in error round rs)
    (λ c h. (h.0, inr h.1, h.2, h.3)) (answered_of error round rs))
  where
    own : (o : Option Errno) → error r.number ≡ o → AllByRecursion (λ (c : Completion). (q : Request) × IsOneOf q (r ∷ rs) × (q.number ≡ c.request) × (is_none (error q.number) ≡ false)) (answer_of o round r)
    own None is = tt
    own (Some x) is = ((r, inl refl, refl, ap is_none is), tt)

answer_number : (o : Option Errno) (round : ℕ) (r : Request) → AllByRecursion (λ (c : Completion). c.request ≡ r.number) (reverse (answer_of o round r))
answer_number None round r = tt
answer_number (Some x) round r = (refl, tt)

answer_once : (o : Option Errno) (round : ℕ) (r : Request) → CompleteOnce (reverse (answer_of o round r))
answer_once None round r = tt
answer_once (Some x) round r = (tt, tt)

answer_after : (all : List Request) (o : Option Errno) (round : ℕ) (r : Request) → CompleteAfterChildren all (reverse (answer_of o round r))
answer_after all None round r = tt
answer_after all (Some x) round r = (tt, tt)

-- the last comes first, so each stands behind its children
answered_in_order : (all : List Request) (error : ℕ → Option Errno) (round : ℕ) (rs : List Request) → AreRising all → AllByRecursion (λ (q : Request). IsOneOf q all) rs → AreRising rs → AreBelow rs
    → CompleteOnce (reverse (answered_in error round rs)) × CompleteAfterChildren all (reverse (answered_in error round rs))
answered_in_order all error round [] up_all among up low = (tt, tt)
answered_in_order all error round (r ∷ rs) up_all among up low =
    let front : List Completion = reverse (answered_in error round rs) in
    let own : List Completion = reverse (answer_of (error r.number) round r) in
    let rest = answered_in_order all error round rs up_all among.1 up.1 low.1 in
    let is : reverse (answer_of (error r.number) round r ++ answered_in error round rs) ≡ front ++ own = reverse-append (answer_of (error r.number) round r) (answered_in error round rs) in
    let above : AllByRecursion (λ (c : Completion). r.number < c.request) front =
    all_back (λ (c : Completion). r.number < c.request) (answered_in error round rs)
    (all_weaker (λ (c : Completion). (q : Request) × IsOneOf q rs × (q.number ≡ c.request) × (is_none (error q.number) ≡ false)) (λ (c : Completion). r.number < c.request) (answered_in error round rs)
    (λ c h. subst (λ (n : ℕ). r.number < n) h.2 (one_all (λ (y : Request). r.number < y.number) h.0 rs up.0 h.1)) (answered_of error round rs)) in
    let mine : AllByRecursion (λ (d : Completion). d.request ≡ r.number) own = answer_number (error r.number) round r in (
      subst CompleteOnce (sym is)
          (once_both front own rest.0 (answer_once (error r.number) round r)
          (all_weaker (λ (c : Completion). r.number < c.request) (λ (c : Completion). AllByRecursion (λ (d : Completion). (c.request == d.request) ≡ false) own) front
          (λ c more. all_weaker (λ (d : Completion). d.request ≡ r.number) (λ (d : Completion). (c.request == d.request) ≡ false) own (λ d same. number_apart c.request d.request (λ e. omega arith)) mine) above)),
      subst (CompleteAfterChildren all) (sym is)
          (after_both all front own rest.1 (answer_after all (error r.number) round r)
          (all_weaker (λ (c : Completion). r.number < c.request) (λ (c : Completion). AllByRecursion (λ (d : Completion). is_child all c d ≡ false) own) front
          (λ c more. all_weaker (λ (d : Completion). d.request ≡ r.number) (λ (d : Completion). is_child all c d ≡ false) own (λ d same. false_from_ne_true (is_child all c d) (λ child.
          (let q = child_is all (r ∷ rs) c d up_all among (r, inl refl, sym same) child in
          let under : c.request < q.0.number = one_all (λ (x : Request). (n : ℕ) → x.under ≡ Some n → n < x.number) q.0 (r ∷ rs) low q.1 c.request q.3 in
          let at : q.0.number ≡ d.request = q.2 in
          omega arith))) mine) above)),
    )
  where
    all_back : (P : Completion → Type 0) (xs : List Completion) → AllByRecursion P xs → AllByRecursion P (reverse xs)
    all_back P [] h = tt
    all_back P (x ∷ xs) h = subst (AllByRecursion P) (sym (reverse-append (x ∷ []) xs)) (all_append P (reverse xs) (x ∷ []) (all_back P xs h.1) (h.0, tt))

pub back_all : (P : Completion → Type 0) (xs : List Completion) → AllByRecursion P xs → AllByRecursion P (reverse xs)
back_all P [] h = tt
back_all P (x ∷ xs) h = subst (AllByRecursion P) (sym (reverse-append (x ∷ []) xs)) (all_append P (reverse xs) (x ∷ []) (back_all P xs h.1) (h.0, tt))

-- children of requests in the trees are in the trees
after_in : (all rs : List Request) (cs : List Completion) → AreRising all → AllByRecursion (λ (q : Request). IsOneOf q all) rs → AllByRecursion (IsOf rs) cs → CompleteAfterChildren rs cs → CompleteAfterChildren all cs
after_in all rs [] up among of h = tt
after_in all rs (c ∷ cs) up among of h = (
  all_one (λ (d : Completion). is_child all c d ≡ false) cs (λ d at. false_from_ne_true (is_child all c d) (λ child.
      (let q = child_is all rs c d up among (one_all (IsOf rs) d cs of.1 at) child in
      not_both (is_child rs c d) (some_any (λ (r : Request). (r.number == d.request) && is_under r c.request) rs q.0 q.1
      (ap (λ (b : Bool). b && is_under q.0 c.request) (eq-eqb q.0.number d.request q.2) ∙ some_under q.0.under c.request q.3))
      (one_all (λ (x : Completion). is_child rs c x ≡ false) d cs h.0 at)))),
  after_in all rs cs up among of.1 h.1,
)
  where
    or_right : (a : Bool) → (a || true) ≡ true
    or_right true = refl
    or_right false = refl

    some_any : (P : Request → Bool) (xs : List Request) (x : Request) → IsOneOf x xs → P x ≡ true → list_any P xs ≡ true
    some_any P [] x at is = absurd at
    some_any P (y ∷ xs) x (inl same) is = ap (λ (b : Bool). b || list_any P xs) (ap P same ∙ is)
    some_any P (y ∷ xs) x (inr at) is = ap (λ (b : Bool). P y || b) (some_any P xs x at is) ∙ or_right (P y)

-- ---- the completions of a round

-- What a round adds to the completions: each request once, behind its children, and each of a request of the round that is done.
pub record Completes (all : List Request) (error : ℕ → Option Errno) (finished : List RequestEnd) (rs : List Request) (done : List Completion) : Type 0 where
  pub once : CompleteOnce done
  pub after : CompleteAfterChildren all done
  pub of : AllByRecursion (IsDone error finished rs) done

left_if : (a b : Bool) → a ≡ false → (a && b) ≡ false
left_if a b e = ap (λ (x : Bool). x && b) e

right_if : (a b : Bool) → b ≡ false → (a && b) ≡ false
right_if true b e = e
right_if false b e = refl

some_left : (o : Option RequestEnd) → (o ≡ None → ⊥) → is_none o ≡ false
some_left None h = absurd (h refl)
some_left (Some f) h = refl

-- where nothing was answered
pub ends_complete : (s : Standing) (round : ℕ) (apart : Bool) (all : List Request) (trees : List (List Pending)) (end : SeenEnd) (requests : List Request) (error : ℕ → Option Errno) (bound : List (List ℕ × Tree))
    → AreRising all → AllByRecursion (λ (q : Request). IsOneOf q all) requests → IsRoundEnd s round trees end → IsRoundOver apart bound error requests trees
    → Completes all error end.finished requests end.completions
ends_complete s round apart all trees end requests error bound up_all among over known =
    let ran = finished_done s round apart trees end requests error bound over known in
    let inside : AllByRecursion (λ (q : Request). IsOneOf q requests) (requests_in trees) =
    in_requests (λ (q : Request). IsOneOf q requests) (joined_trees trees)
    (all_weaker (λ (p : Pending). Contains requests p.request) (λ (p : Pending). IsOneOf p.request requests) (joined_trees trees) (λ p h. contains_one p.request requests h) known.inside) in
    let in_all : AllByRecursion (λ (q : Request). IsOneOf q all) (requests_in trees) =
    all_weaker (λ (q : Request). IsOneOf q requests) (λ (q : Request). IsOneOf q all) (requests_in trees) (λ q at. one_all (λ (x : Request). IsOneOf x all) q requests among at) inside in
    let of_ran : AllByRecursion (IsOf (requests_in trees)) end.completions =
    all_weaker (λ (c : Completion). (q : Request) × IsOneOf q (requests_in trees) × (q.number ≡ c.request) × (finish_of end.finished q.number ≡ None → ⊥)) (IsOf (requests_in trees)) end.completions (λ c h. (h.0, h.1, h.2)) ran in
    record {
      once = over.once;
      after = after_in all (requests_in trees) end.completions up_all in_all of_ran over.after_children;
      of = all_weaker (λ (c : Completion). (q : Request) × IsOneOf q (requests_in trees) × (q.number ≡ c.request) × (finish_of end.finished q.number ≡ None → ⊥)) (IsDone error end.finished requests) end.completions
          (λ c h. (
            h.0,
            one_all (λ (q : Request). IsOneOf q requests) h.0 (requests_in trees) inside h.1,
            h.2,
            right_if (is_none (error h.0.number)) (is_none (finish_of end.finished h.0.number)) (some_left (finish_of end.finished h.0.number) h.3),
          )) ran;
    }
  where
    in_requests : (P : Request → Type 0) (ps : List Pending) → AllByRecursion (λ (p : Pending). P p.request) ps → AllByRecursion P (map (λ (p : Pending). p.request) ps)
    in_requests P [] h = tt
    in_requests P (p ∷ ps) h = (h.0, in_requests P ps h.1)

pub round_completes : (s : Standing) (round : ℕ) (apart : Bool) (all : List Request) (trees : List (List Pending)) (end : SeenEnd) (requests : List Request) (error : ℕ → Option Errno) (bound : List (List ℕ × Tree))
    → AreRising all → AllByRecursion (λ (q : Request). IsOneOf q all) requests → AreRising requests → AreBelow requests → AllByRecursion AreParented trees
    → IsRoundEnd s round trees end → IsRoundOver apart bound error requests trees
    → Completes all error end.finished requests (reverse (answered_in error round requests) ++ end.completions)
round_completes s round apart all trees end requests error bound up_all among up low parents over known =
    let given : List Completion = reverse (answered_in error round requests) in
    let answered = answered_in_order all error round requests up_all among up low in
    let of_answered = back_all (λ (c : Completion). (q : Request) × IsOneOf q requests × (q.number ≡ c.request) × (is_none (error q.number) ≡ false)) (answered_in error round requests) (answered_of error round requests) in
    let ran = finished_done s round apart trees end requests error bound over known in
    let inside : AllByRecursion (λ (q : Request). IsOneOf q requests) (requests_in trees) =
    all_requests (λ (q : Request). IsOneOf q requests) (joined_trees trees)
    (all_weaker (λ (p : Pending). Contains requests p.request) (λ (p : Pending). IsOneOf p.request requests) (joined_trees trees) (λ p h. contains_one p.request requests h) known.inside) in
    let free : AllByRecursion (λ (q : Request). error q.number ≡ None) (requests_in trees) = all_requests (λ (q : Request). error q.number ≡ None) (joined_trees trees) known.free in
    let in_all : AllByRecursion (λ (q : Request). IsOneOf q all) (requests_in trees) =
    all_weaker (λ (q : Request). IsOneOf q requests) (λ (q : Request). IsOneOf q all) (requests_in trees) (λ q at. one_all (λ (x : Request). IsOneOf x all) q requests among at) inside in
    let of_ran : AllByRecursion (IsOf (requests_in trees)) end.completions =
    all_weaker (λ (c : Completion). (q : Request) × IsOneOf q (requests_in trees) × (q.number ≡ c.request) × (finish_of end.finished q.number ≡ None → ⊥)) (IsOf (requests_in trees)) end.completions (λ c h. (h.0, h.1, h.2)) ran in
    let kin : Kin (requests_in trees) (requests_in trees) = kin_trees trees parents in
    record {
      once = once_both given end.completions answered.0 over.once
          (all_weaker (λ (c : Completion). (q : Request) × IsOneOf q requests × (q.number ≡ c.request) × (is_none (error q.number) ≡ false))
          (λ (c : Completion). AllByRecursion (λ (d : Completion). (c.request == d.request) ≡ false) end.completions) given
          (λ c h. all_weaker (IsOf (requests_in trees)) (λ (d : Completion). (c.request == d.request) ≡ false) end.completions
          (λ d o. number_apart c.request d.request (λ same. not_error h.0 o.0 h.3 (one_all (λ (q : Request). error q.number ≡ None) o.0 (requests_in trees) free o.1) (h.2 ∙ (same ∙ sym o.2)))) of_ran) of_answered);
      after = after_both all given end.completions answered.1 (after_in all (requests_in trees) end.completions up_all in_all of_ran over.after_children)
          (all_weaker (λ (c : Completion). (q : Request) × IsOneOf q requests × (q.number ≡ c.request) × (is_none (error q.number) ≡ false))
          (λ (c : Completion). AllByRecursion (λ (d : Completion). is_child all c d ≡ false) end.completions) given
          (λ c h. all_weaker (IsOf (requests_in trees)) (λ (d : Completion). is_child all c d ≡ false) end.completions
          (λ d o. false_from_ne_true (is_child all c d) (λ child.
          (let q = child_is all (requests_in trees) c d up_all in_all o child in
          let p = one_all (λ (x : Request). (n : ℕ) → x.under ≡ Some n → (y : Request) × IsOneOf y (requests_in trees) × (y.number ≡ n)) q.0 (requests_in trees) kin q.1 c.request q.3 in
          not_error h.0 p.0 h.3 (one_all (λ (x : Request). error x.number ≡ None) p.0 (requests_in trees) free p.1) (h.2 ∙ sym p.2)))) of_ran) of_answered);
      of = all_append (IsDone error end.finished requests) given end.completions
          (all_weaker (λ (c : Completion). (q : Request) × IsOneOf q requests × (q.number ≡ c.request) × (is_none (error q.number) ≡ false)) (IsDone error end.finished requests) given
          (λ c h. (h.0, h.1, h.2, left_if (is_none (error h.0.number)) (is_none (finish_of end.finished h.0.number)) h.3)) of_answered)
          (all_weaker (λ (c : Completion). (q : Request) × IsOneOf q (requests_in trees) × (q.number ≡ c.request) × (finish_of end.finished q.number ≡ None → ⊥)) (IsDone error end.finished requests) end.completions
          (λ c h. (
            h.0,
            one_all (λ (q : Request). IsOneOf q requests) h.0 (requests_in trees) inside h.1,
            h.2,
            right_if (is_none (error h.0.number)) (is_none (finish_of end.finished h.0.number)) (some_left (finish_of end.finished h.0.number) h.3),
          )) ran);
    }
  where
    all_requests : (P : Request → Type 0) (ps : List Pending) → AllByRecursion (λ (p : Pending). P p.request) ps → AllByRecursion P (map (λ (p : Pending). p.request) ps)
    all_requests P [] h = tt
    all_requests P (p ∷ ps) h = (h.0, all_requests P ps h.1)

    not_error : (q r : Request) → is_none (error q.number) ≡ false → error r.number ≡ None → q.number ≡ r.number → ⊥
    not_error q r some none same = (let no = sym some ∙ ap is_none (ap error same ∙ none) in cc)
