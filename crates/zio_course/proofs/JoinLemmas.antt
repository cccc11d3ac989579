-- Trees of a batch that wait beside those that wait already.
use Rattle.std.proofs.Common.{◌≡◌, ℕ, ◌+◌, ◌<◌, ◌≤◌, List, [], ◌∷◌, ◌++◌, length, map, filter, count_by, Bool, true, false, ◌&&◌, ◌||◌, not, cond, Option, Some, None, eqb, eqb-true, eq-eqb, refl, sym, ap, ◌∙◌, subst, inl, inr, arith, Contains, append_assoc, length-append}
use Rattle.std.specs.Prelude.{is_none, is_some, option_to_list}
use Rattle.std.specs.List.{AllByRecursion, list_any}
use Rattle.std.proofs.lemmas.Bool.{false_from_ne_true}
use Rattle.std.proofs.lemmas.List.Elements.{Contains-append_left, Contains-append_right}
use Rattle.std.proofs.lemmas.List.Folds.{list_any-append}
use Rattle.zio_types.specs.declared.error.Errno.{Errno}
use Rattle.zio_script.specs.declared.script.Item.{Item}
use Rattle.zio_script.specs.declared.script.Request.{Request}
use Rattle.zio_script.specs.declared.script.Work.{Work}
use Rattle.zio_script.specs.declared.script.Work.TheVariants.{Null, Read, Write, Free, Claim}
use Rattle.zio_script.specs.Accepted.{AreRising, IsOrderlyBatch, NameApart}
use Rattle.zio_script.specs.Requests.{changes_pool, kind_of, makes_block, name_of, names_it, needs_block, requests_of}
use Rattle.zio_script.specs.Whys.{clashes, is_claim, may_share}
use Rattle.zio_cksum.proofs.AllLemmas.{all_append, all_true, all_weaker}
use Rattle.zio_gang.specs.declared.tree.Tree.{Tree}
use Rattle.zio_gang.specs.Attempts.{Ended, Pending}
use Rattle.zio_gang.specs.Rounds.{Admitted, admission, admitted, block_if, block_of, bound_after, first_rule, is_awaited, is_blocked, lacks_block, passes, pending_trees, takes_bound, trees_of}
use Rattle.zio_gang.specs.Runs.{has_trees}
use Rattle.zio_gang.proofs.FateLemmas.{admitted_sum, batch_held, of_ended, of_trees, pending_sum, tally}
use Rattle.zio_course.specs.declared.admission.Rules.{Rules}
use Rattle.zio_course.specs.declared.runner.RequestEnd.{RequestEnd}
use Rattle.zio_course.specs.Admissions.{IsAdmission, error_in}
use Rattle.zio_course.specs.Admitted.{AreAwaited}
use Rattle.zio_course.specs.Folds.{AreSuspended, is_named_by}
use Rattle.zio_course.specs.Forests.{names_of, running}
use Rattle.zio_course.specs.Live.{IsLive, IsRoundOver}
use Rattle.zio_course.specs.Names.{is_some_name, named_in}
use Rattle.zio_course.specs.Runners.{AreRisingFrom, AreRunnable, IsRoundEnd, SeenEnd, Standing, has_claim, is_numbered, joined_trees, numbers_of, requests_in, root_of, roots_of, rows_tell_apart}
use Rattle.zio_course.specs.Steps.{AreUnfinished}
use Rattle.zio_course.specs.Told.{ended_by, ended_told, finish_of, no_error}
use Rattle.zio_course.proofs.AdmissionLemmas.{stand_once}
use Rattle.zio_course.proofs.AdmittedLemmas.{Judge, judged_by, rising_kept, trees_admitted}
use Rattle.zio_course.proofs.ClearLemmas.{times_tally}
use Rattle.zio_course.proofs.DoneLemmas.{IsAnswered, contains_one}
use Rattle.zio_course.proofs.EndLemmas.{times, times_is}
use Rattle.zio_course.proofs.MadeLemmas.{one_filtered}
use Rattle.zio_course.proofs.OverLemmas.{batch_over}
use Rattle.zio_course.proofs.PlantLemmas.{named_of}
use Rattle.zio_course.proofs.RunnableLemmas.{any_among, batch_runnable, kept, kept_none, trees_of_tally}
use Rattle.zio_course.proofs.SortLemmas.{IsOneOf, all_one, one_all, one_if, one_left, one_map, one_right}
use Rattle.zio_course.proofs.StepLemmas.{are_answered, from_trees, one_number}
use Rattle.zio_course.proofs.SuspendedLemmas.{all_kept}
use Rattle.zio_course.proofs.ToldLemmas.{kept_of}
use Rattle.zio_course.proofs.TouchLemmas.{Changes, after_untouched, changes, touch}
use Rattle.zio_course.proofs.WaitLemmas.{is_left, left_suspended, suspended_runnable}

-- ---- numbers that rise

pub rising_both : (xs ys : List Request) → AreRising (xs ++ ys) → AreRising xs × AreRising ys × AllByRecursion (λ (x : Request). AllByRecursion (λ (y : Request). x.number < y.number) ys) xs
rising_both [] ys h = (tt, h, tt)
rising_both (x ∷ xs) ys h =
    let rest = rising_both xs ys h.1 in
    let parts = split xs h.0 in ((parts.0, rest.0), rest.1, (parts.1, rest.2))
  where
    split : (zs : List Request) → AllByRecursion (λ (y : Request). x.number < y.number) (zs ++ ys)
        → AllByRecursion (λ (y : Request). x.number < y.number) zs × AllByRecursion (λ (y : Request). x.number < y.number) ys
    split [] k = (tt, k)
    split (z ∷ zs) k = let more = split zs k.1 in ((k.0, more.0), more.1)

pub rising_join : (xs ys : List Request) → AreRising xs → AreRising ys → AllByRecursion (λ (x : Request). AllByRecursion (λ (y : Request). x.number < y.number) ys) xs → AreRising (xs ++ ys)
rising_join [] ys h k cross = k
rising_join (x ∷ xs) ys h k cross = (all_append (λ (y : Request). x.number < y.number) xs ys h.0 cross.0, rising_join xs ys h.1 k cross.1)

-- ---- how often numbers stand in a batch's trees

answered_none : (error : ℕ → Option Errno) (n : ℕ) (es : List Ended) → AllByRecursion (IsAnswered error) es → error n ≡ None → of_ended (λ (r : Request). one_if (eqb r.number n)) es ≡ 0
answered_none error n [] h none = refl
answered_none error n (e ∷ es) h none =
    let other : eqb e.request.number n ≡ false = false_from_ne_true (eqb e.request.number n) (λ same.
    (let at : e.request.number ≡ n = eqb-true e.request.number n same in
    let is : error n ≡ Some h.0.0 = sym (ap error at) ∙ h.0.1 in
    (let no = sym none ∙ is in cc))) in
    let here : one_if (eqb e.request.number n) ≡ 0 = ap one_if other in
    let there : of_ended (λ (r : Request). one_if (eqb r.number n)) es ≡ 0 = answered_none error n es h.1 none in omega arith

free_none : (error : ℕ → Option Errno) (n : ℕ) (x : Errno) (rs : List Request) → AllByRecursion (λ (r : Request). error r.number ≡ None) rs → error n ≡ Some x
    → tally (λ (r : Request). one_if (eqb r.number n)) rs ≡ 0
free_none error n x [] h some = refl
free_none error n x (r ∷ rs) h some =
    let other : eqb r.number n ≡ false = false_from_ne_true (eqb r.number n) (λ same.
    (let at : r.number ≡ n = eqb-true r.number n same in
    let is : error n ≡ None = sym (ap error at) ∙ h.0 in
    (let no = sym is ∙ some in cc))) in
    let here : one_if (eqb r.number n) ≡ 0 = ap one_if other in
    let there : tally (λ (q : Request). one_if (eqb q.number n)) rs ≡ 0 = free_none error n x rs h.1 some in omega arith

kept_tally : (error : ℕ → Option Errno) (n : ℕ) (rs : List Request) → error n ≡ None
    → tally (λ (r : Request). one_if (eqb r.number n)) (kept_of error rs) ≡ tally (λ (r : Request). one_if (eqb r.number n)) rs
kept_tally error n [] none = refl
kept_tally error n (r ∷ rs) none = go (eqb r.number n) refl (error r.number) refl (kept_tally error n rs none)
  where
    go : (own : Bool) → eqb r.number n ≡ own → (o : Option Errno) → error r.number ≡ o
        → tally (λ (q : Request). one_if (eqb q.number n)) (kept_of error rs) ≡ tally (λ (q : Request). one_if (eqb q.number n)) rs
        → tally (λ (q : Request). one_if (eqb q.number n)) (cond (is_none (error r.number)) (r ∷ kept_of error rs) (kept_of error rs))
        ≡ one_if (eqb r.number n) + tally (λ (q : Request). one_if (eqb q.number n)) rs
    go own e None is h =
        subst (λ (o : Option Errno). tally (λ (q : Request). one_if (eqb q.number n)) (cond (is_none o) (r ∷ kept_of error rs) (kept_of error rs))
        ≡ one_if (eqb r.number n) + tally (λ (q : Request). one_if (eqb q.number n)) rs) (sym is) (ap (λ (k : ℕ). one_if (eqb r.number n) + k) h)
    go true e (Some x) is h = absurd (let at : r.number ≡ n = eqb-true r.number n e in let no = sym none ∙ (sym (ap error at) ∙ is) in cc)
    go false e (Some x) is h =
        subst (λ (o : Option Errno). tally (λ (q : Request). one_if (eqb q.number n)) (cond (is_none o) (r ∷ kept_of error rs) (kept_of error rs))
        ≡ one_if (eqb r.number n) + tally (λ (q : Request). one_if (eqb q.number n)) rs) (sym is)
        (let none_here : one_if (eqb r.number n) ≡ 0 = ap one_if e in let same = h in omega arith)

all_requests_in : (P : Request → Type 0) (ps : List Pending) → AllByRecursion (λ (p : Pending). P p.request) ps → AllByRecursion P (map (λ (p : Pending). p.request) ps)
all_requests_in P [] h = tt
all_requests_in P (p ∷ ps) h = (h.0, all_requests_in P ps h.1)

-- a batch's trees have those of its requests that were not answered
pub batch_numbers : (apart : Bool) (suspended : List (List Pending)) (awaited : List ℕ → Bool) (bound : List (List ℕ × Tree)) (number : ℕ) (items : List Item) (slots : List (ℕ × ℕ)) (rules : List Rules)
    → AreRising (requests_of items) → IsOrderlyBatch apart (requests_of items) → AreAwaited suspended awaited
    → IsAdmission (has_trees suspended) awaited (is_some_name bound) (trees_of (requests_of items)) slots rules
    → (n : ℕ) → count_by (is_numbered n) (numbers_of (requests_in (pending_trees (names_of bound) number (trees_of (running slots rules items)))))
    ≡ count_by (is_numbered n) (numbers_of (kept_of (error_in slots rules) (requests_of items)))
batch_numbers apart suspended awaited bound number items slots rules rising orderly waits admission_is n =
    let requests : List Request = requests_of items in
    let error : ℕ → Option Errno = error_in slots rules in
    let f : Request → ℕ = λ (r : Request). one_if (eqb r.number n) in
    let trees : List (List Pending) = pending_trees (names_of bound) number (trees_of (running slots rules items)) in
    let a : Admitted = admitted suspended (is_some_name bound) (trees_of requests) in
    let one : tally f (requests_in trees) ≡ of_trees f trees = trees_of_tally f trees in
    let two : of_trees f trees ≡ tally (tally f) (trees_of (running slots rules items)) = pending_sum f (names_of bound) number (trees_of (running slots rules items)) in
    let three : tally (tally f) (trees_of (running slots rules items)) ≡ tally (tally f) a.trees =
    ap (tally (tally f)) (trees_admitted suspended awaited (is_some_name bound) items slots rules rising waits admission_is) in
    let four : of_ended f a.answered + tally (tally f) a.trees ≡ tally (tally f) (trees_of requests) = admitted_sum f suspended (is_some_name bound) (trees_of requests) in
    let five : tally (tally f) (trees_of requests) ≡ tally f requests = batch_held requests orderly.parents rising f in
    let judge : Judge error (admission suspended (is_some_name bound)) (trees_of requests) =
    judged_by suspended awaited (is_some_name bound) (trees_of requests) slots rules waits (stand_once items rising) admission_is in
    let answered = are_answered error suspended (is_some_name bound) (trees_of requests) judge in
    let sum : of_ended f a.answered + tally f (requests_in trees) ≡ tally f requests = omega arith in
    let t = times_is n (numbers_of (requests_in trees)) in
    let u = times_tally n (requests_in trees) in
    let v = times_is n (numbers_of (kept_of error requests)) in
    let w = times_tally n (kept_of error requests) in
    let same : tally f (requests_in trees) ≡ tally f (kept_of error requests) = go (error n) refl sum answered in
    omega arith
  where
    go : (o : Option Errno) → error_in slots rules n ≡ o
        → of_ended (λ (r : Request). one_if (eqb r.number n)) (admitted suspended (is_some_name bound) (trees_of (requests_of items))).answered
        + tally (λ (r : Request). one_if (eqb r.number n)) (requests_in (pending_trees (names_of bound) number (trees_of (running slots rules items))))
        ≡ tally (λ (r : Request). one_if (eqb r.number n)) (requests_of items)
        → AllByRecursion (IsAnswered (error_in slots rules)) (admitted suspended (is_some_name bound) (trees_of (requests_of items))).answered
        → tally (λ (r : Request). one_if (eqb r.number n)) (requests_in (pending_trees (names_of bound) number (trees_of (running slots rules items))))
        ≡ tally (λ (r : Request). one_if (eqb r.number n)) (kept_of (error_in slots rules) (requests_of items))
    go None none sum answered =
        let zero_answered = answered_none (error_in slots rules) n (admitted suspended (is_some_name bound) (trees_of (requests_of items))).answered answered none in
        let kept = kept_tally (error_in slots rules) n (requests_of items) none in omega arith
    go (Some x) some sum answered =
        free_none (error_in slots rules) n x (requests_in (pending_trees (names_of bound) number (trees_of (running slots rules items))))
        (all_requests_in (λ (r : Request). error_in slots rules r.number ≡ None) (joined_trees (pending_trees (names_of bound) number (trees_of (running slots rules items))))
        (batch_over apart suspended awaited bound number items slots rules rising orderly waits admission_is).free) some
        ∙ sym (free_none (error_in slots rules) n x (kept_of (error_in slots rules) (requests_of items))
        (kept_none (λ (r : Request). error_in slots rules r.number ≡ None) (error_in slots rules) (requests_of items) (all_true (λ (r : Request). error_in slots rules r.number ≡ None → error_in slots rules r.number ≡ None) (requests_of items) (λ r e. e))) some)

-- ---- what admission lets run beside trees that wait

not_blocked : (b lacks takes : Bool) → first_rule b lacks takes ≡ None → b ≡ false
not_blocked true lacks takes e = absurd (let no = e in cc)
not_blocked false lacks takes e = refl

none_any : {X : Type 0} (P : X → Bool) (xs : List X) → list_any P xs ≡ false → AllByRecursion (λ x. P x ≡ false) xs
none_any P [] h = tt
none_any P (x ∷ xs) h = go (P x) refl h (none_any P xs)
  where
    go : (b : Bool) → P x ≡ b → (b || list_any P xs) ≡ false → (list_any P xs ≡ false → AllByRecursion (λ y. P y ≡ false) xs) → AllByRecursion (λ y. P y ≡ false) (x ∷ xs)
    go true is e later = absurd (let no = e in cc)
    go false is e later = (is, later e)

neither : (a b : Bool) → (a || b) ≡ false → (a ≡ false) × (b ≡ false)
neither true b e = absurd (let no = e in cc)
neither false b e = (refl, e)

-- neither changes it the pool nor names it a block that is awaited
abbrev pub GoesBeside : (ℕ → Option Errno) → List (List Pending) → Request → Type 0
GoesBeside error suspended r = error r.number ≡ None → (changes_pool r.work ≡ false) × (is_awaited suspended r ≡ false)

all_beside : (error : ℕ → Option Errno) (s : List Pending) (ss : List (List Pending)) (test : List ℕ → Bool) (trees : List (List Request)) → Judge error (admission (s ∷ ss) test) trees
    → AllByRecursion (λ tree. AllByRecursion (GoesBeside error (s ∷ ss)) tree) trees
all_beside error s ss test [] h = tt
all_beside error s ss test (tree ∷ trees) h = (
  all_one (GoesBeside error (s ∷ ss)) tree (λ r at none.
      (let free : admission (s ∷ ss) test tree ≡ None = sym (one_all (λ (q : Request). error q.number ≡ admission (s ∷ ss) test tree) r tree h.0 at) ∙ none in
      let open_to : is_blocked (s ∷ ss) tree ≡ false = not_blocked (is_blocked (s ∷ ss) tree) (lacks_block test tree) (takes_bound test tree) free in
      neither (changes_pool r.work) (is_awaited (s ∷ ss) r)
      (one_all (λ (q : Request). (changes_pool q.work || is_awaited (s ∷ ss) q) ≡ false) r tree
      (none_any (λ (q : Request). changes_pool q.work || is_awaited (s ∷ ss) q) tree open_to) at))),
  all_beside error s ss test trees h.1,
)

no_change : {Z : Type 0} (work : Work) (name : List ℕ) → changes_pool work ≡ false → Changes work name → Z
no_change Null name free c = absurd (let no = c.names in cc)
no_change (Read n prio) name free c = absurd (let no = c.reads in cc)
no_change (Write n sum copies prio body) name free c = absurd (let no = free in cc)
no_change (Free n) name free c = absurd (let no = free in cc)
no_change (Claim n pointer) name free c = absurd (let no = free in cc)

ended_free : (error : ℕ → Option Errno) (finished : List RequestEnd) (P : Request → Type 0) (rs : List Request) → AllByRecursion (λ (r : Request). error r.number ≡ None → P r) rs
    → AllByRecursion (λ (e : Ended). P e.request) (ended_told error finished rs)
ended_free error finished P [] h = tt
ended_free error finished P (r ∷ rs) h =
    all_append (λ (e : Ended). P e.request) (ended_by (error r.number) (finish_of finished r.number) r) (ended_told error finished rs)
    (go (error r.number) (finish_of finished r.number) refl) (ended_free error finished P rs h.1)
  where
    go : (o : Option Errno) (f : Option RequestEnd) → error r.number ≡ o → AllByRecursion (λ (e : Ended). P e.request) (ended_by o f r)
    go (Some x) f is = tt
    go None None is = tt
    go None (Some f) is = (h.0 is, tt)

-- the bound names stay as they are
names_stay : (error : ℕ → Option Errno) (finished : List RequestEnd) (suspended : List (List Pending)) (rs : List Request) (bound after : List (List ℕ × Tree))
    → AllByRecursion (GoesBeside error suspended) rs
    → ((name : List ℕ) → named_in after name ≡ block_of (bound_after (ended_told error finished rs) (names_of bound)) name)
    → (name : List ℕ) → named_in after name ≡ named_in bound name
names_stay error finished suspended rs bound after beside told name =
    told name
    ∙ (after_untouched (ended_told error finished rs) (names_of bound) name
    (all_weaker (λ (e : Ended). changes_pool e.request.work ≡ false) (λ (e : Ended). touch name e ≡ None) (ended_told error finished rs) (λ e free. leaves e free (touch name e) refl)
    (ended_free error finished (λ (r : Request). changes_pool r.work ≡ false) rs
    (all_weaker (GoesBeside error suspended) (λ (r : Request). error r.number ≡ None → changes_pool r.work ≡ false) rs (λ r h none. (h none).0) beside)))
    ∙ sym (named_of name bound))
  where
    leaves : (e : Ended) → changes_pool e.request.work ≡ false → (o : Option (Option Tree)) → touch name e ≡ o → o ≡ None
    leaves e free None is = refl
    leaves e free (Some made) is = no_change e.request.work name free (changes e name made is)

-- ---- requests of trees that wait

has_times : (u : Request) (rs : List Request) → IsOneOf u rs → 1 ≤ times u.number (numbers_of rs)
has_times u [] at = absurd at
has_times u (r ∷ rs) (inl same) =
    let k : ℕ = times u.number (numbers_of rs) in
    let own : cond (eqb r.number u.number) (1 + k) k ≡ 1 + k = ap (λ (b : Bool). cond b (1 + k) k) (eq-eqb r.number u.number (ap (λ (q : Request). q.number) same)) in
    subst (λ (m : ℕ). 1 ≤ m) (sym own) (omega arith)
has_times u (r ∷ rs) (inr at) = go (eqb r.number u.number) (has_times u rs at)
  where
    go : (b : Bool) → 1 ≤ times u.number (numbers_of rs) → 1 ≤ cond b (1 + times u.number (numbers_of rs)) (times u.number (numbers_of rs))
    go true h = omega arith
    go false h = h

pub times_has : (n : ℕ) (rs : List Request) → 1 ≤ times n (numbers_of rs) → (r : Request) × IsOneOf r rs × (r.number ≡ n)
times_has n [] h = absurd (omega arith)
times_has n (r ∷ rs) h = go (eqb r.number n) refl h (times_has n rs)
  where
    go : (b : Bool) → eqb r.number n ≡ b → 1 ≤ cond b (1 + times n (numbers_of rs)) (times n (numbers_of rs))
        → (1 ≤ times n (numbers_of rs) → (q : Request) × IsOneOf q rs × (q.number ≡ n)) → (q : Request) × IsOneOf q (r ∷ rs) × (q.number ≡ n)
    go true e some later = (r, inl refl, eqb-true r.number n e)
    go false e some later = let found = later some in (found.0, inr found.1, found.2)

-- each of them is in the trees
pub unfinished_in : (suspended : List (List Pending)) (unfinished : List Request) → AreUnfinished suspended unfinished → AllByRecursion (λ (u : Request). IsOneOf u (requests_in suspended)) unfinished
unfinished_in suspended unfinished h = all_one (λ (u : Request). IsOneOf u (requests_in suspended)) unfinished (λ u at.
    (let a = times_is u.number (numbers_of (requests_in suspended)) in
    let b = times_is u.number (numbers_of unfinished) in
    let c = h.each u.number in
    let some = has_times u unfinished at in
    let r = times_has u.number (requests_in suspended) (omega arith) in
    let same : r.0 ≡ u = one_number unfinished r.0 u h.rising (contains_one r.0 unfinished (one_all (Contains unfinished) r.0 (requests_in suspended) h.among r.1)) at r.2 in
    subst (λ (q : Request). IsOneOf q (requests_in suspended)) same r.1))

pub none_unfinished : (unfinished : List Request) → AreUnfinished [] unfinished → unfinished ≡ []
none_unfinished [] h = refl
none_unfinished (u ∷ us) h = absurd (unfinished_in [] (u ∷ us) h).0

any_flat : (P : Pending → Bool) (trees : List (List Pending)) → list_any (λ tree. list_any P tree) trees ≡ list_any P (joined_trees trees)
any_flat P [] = refl
any_flat P (tree ∷ trees) = ap (λ (b : Bool). list_any P tree || b) (any_flat P trees) ∙ sym (list_any-append P tree (joined_trees trees))

any_map : (P : Request → Bool) (ps : List Pending) → list_any (λ (p : Pending). P p.request) ps ≡ list_any P (map (λ (p : Pending). p.request) ps)
any_map P [] = refl
any_map P (p ∷ ps) = ap (λ (b : Bool). P p.request || b) (any_map P ps)

any_same_set : (P : Request → Bool) (xs ys : List Request) → AllByRecursion (λ (x : Request). IsOneOf x ys) xs → AllByRecursion (λ (y : Request). IsOneOf y xs) ys → list_any P xs ≡ list_any P ys
any_same_set P xs ys there back = go (list_any P xs) refl (list_any P ys) refl
  where
    go : (a : Bool) → list_any P xs ≡ a → (b : Bool) → list_any P ys ≡ b → list_any P xs ≡ list_any P ys
    go true e true f = e ∙ sym f
    go false e false f = e ∙ sym f
    go true e false f = absurd (let no = sym f ∙ any_among P ys xs there e in cc)
    go false e true f = absurd (let no = sym e ∙ any_among P xs ys back f in cc)

-- the names that suspended trees name are those of their requests
pub names_awaited : (suspended : List (List Pending)) (unfinished : List Request) (awaited : List ℕ → Bool) → AreUnfinished suspended unfinished
    → ((name : List ℕ) → awaited name ≡ is_named_by unfinished name) → AreAwaited suspended awaited
names_awaited suspended unfinished awaited h is name =
    is name
    ∙ sym (any_flat (λ (p : Pending). names_it (Some name) (name_of p.request.work)) suspended
    ∙ (any_map (λ (r : Request). names_it (Some name) (name_of r.work)) (joined_trees suspended)
    ∙ any_same_set (λ (r : Request). names_it (Some name) (name_of r.work)) (requests_in suspended) unfinished
    (all_weaker (Contains unfinished) (λ (r : Request). IsOneOf r unfinished) (requests_in suspended) (λ r k. contains_one r unfinished k) h.among) (unfinished_in suspended unfinished h)))

-- ---- side by side

joined_both : (xs ys : List (List Pending)) → joined_trees (xs ++ ys) ≡ joined_trees xs ++ joined_trees ys
joined_both [] ys = refl
joined_both (x ∷ xs) ys = ap (λ (ps : List Pending). x ++ ps) (joined_both xs ys) ∙ sym (append_assoc x (joined_trees xs) (joined_trees ys))

requests_both : (ps qs : List Pending) → map (λ (p : Pending). p.request) (ps ++ qs) ≡ map (λ (p : Pending). p.request) ps ++ map (λ (p : Pending). p.request) qs
requests_both [] qs = refl
requests_both (p ∷ ps) qs = ap (λ (rs : List Request). p.request ∷ rs) (requests_both ps qs)

pub requests_in_both : (xs ys : List (List Pending)) → requests_in (xs ++ ys) ≡ requests_in xs ++ requests_in ys
requests_in_both xs ys = ap (map (λ (p : Pending). p.request)) (joined_both xs ys) ∙ requests_both (joined_trees xs) (joined_trees ys)

roots_both : (xs ys : List (List Pending)) → roots_of (xs ++ ys) ≡ roots_of xs ++ roots_of ys
roots_both [] ys = refl
roots_both (x ∷ xs) ys =
    ap (λ (rs : List Request). map (λ (p : Pending). p.request) (option_to_list (root_of x)) ++ rs) (roots_both xs ys)
    ∙ sym (append_assoc (map (λ (p : Pending). p.request) (option_to_list (root_of x))) (roots_of xs) (roots_of ys))

times_both : (n : ℕ) (xs ys : List Request) → times n (numbers_of (xs ++ ys)) ≡ times n (numbers_of xs) + times n (numbers_of ys)
times_both n [] ys = let e : times n (numbers_of ys) ≡ 0 + times n (numbers_of ys) = omega arith in e
times_both n (x ∷ xs) ys = go (eqb x.number n) (times_both n xs ys)
  where
    go : (b : Bool) → times n (numbers_of (xs ++ ys)) ≡ times n (numbers_of xs) + times n (numbers_of ys)
        → cond b (1 + times n (numbers_of (xs ++ ys))) (times n (numbers_of (xs ++ ys))) ≡ cond b (1 + times n (numbers_of xs)) (times n (numbers_of xs)) + times n (numbers_of ys)
    go true h = let same = h in omega arith
    go false h = h

count_both : (n : ℕ) (xs ys : List Request) → count_by (is_numbered n) (numbers_of (xs ++ ys)) ≡ count_by (is_numbered n) (numbers_of xs) + count_by (is_numbered n) (numbers_of ys)
count_both n xs ys =
    let a = times_is n (numbers_of (xs ++ ys)) in
    let b = times_is n (numbers_of xs) in
    let d = times_is n (numbers_of ys) in
    let e = times_both n xs ys in omega arith

rising_from_both : (least : ℕ) (ns ms : List ℕ) → AreRisingFrom least ns → AreRisingFrom 0 ms → AllByRecursion (λ m. least ≤ m) ms → AllByRecursion (λ n. AllByRecursion (λ m. n < m) ms) ns → AreRisingFrom least (ns ++ ms)
rising_from_both least [] [] h k low cross = tt
rising_from_both least [] (m ∷ ms) h k low cross = (low.0, k.1)
rising_from_both least (n ∷ ns) ms h k low cross = (h.0, rising_from_both (n + 1) ns ms h.1 k (all_weaker (λ m. n < m) (λ m. n + 1 ≤ m) ms (λ m lt. omega arith) cross.0) cross.1)

last_one : (tree : List Pending) (p : Pending) → root_of tree ≡ Some p → IsOneOf p tree
last_one [] p e = absurd (let no = e in cc)
last_one (q ∷ []) p e = inl (some_is q p e)
  where
    some_is : (x y : Pending) → Some x ≡ Some y → x ≡ y
    some_is x y k = cc
last_one (q ∷ r ∷ ps) p e = inr (last_one (r ∷ ps) p e)

-- each root is a request of the trees
roots_in : (trees : List (List Pending)) → AllByRecursion (λ (r : Request). IsOneOf r (requests_in trees)) (roots_of trees)
roots_in [] = tt
roots_in (tree ∷ trees) =
    all_append (λ (r : Request). IsOneOf r (requests_in (tree ∷ trees))) (map (λ (p : Pending). p.request) (option_to_list (root_of tree))) (roots_of trees)
    (own (root_of tree) refl)
    (all_weaker (λ (r : Request). IsOneOf r (requests_in trees)) (λ (r : Request). IsOneOf r (requests_in (tree ∷ trees))) (roots_of trees)
    (λ r at. subst (λ (rs : List Request). IsOneOf r rs) (sym (requests_both tree (joined_trees trees))) (one_right r (map (λ (p : Pending). p.request) tree) (requests_in trees) at)) (roots_in trees))
  where
    own : (o : Option Pending) → root_of tree ≡ o → AllByRecursion (λ (r : Request). IsOneOf r (requests_in (tree ∷ trees))) (map (λ (p : Pending). p.request) (option_to_list o))
    own None is = tt
    own (Some p) is = (
      subst (λ (rs : List Request). IsOneOf p.request rs) (sym (requests_both tree (joined_trees trees)))
          (one_left p.request (map (λ (q : Pending). q.request) tree) (requests_in trees) (one_map (λ (q : Pending). q.request) p tree (last_one tree p is))),
      tt,
    )

all_numbers : (P : ℕ → Type 0) (rs : List Request) → AllByRecursion (λ (r : Request). P r.number) rs → AllByRecursion P (numbers_of rs)
all_numbers P [] h = tt
all_numbers P (r ∷ rs) h = (h.0, all_numbers P rs h.1)

numbers_both : (xs ys : List Request) → numbers_of (xs ++ ys) ≡ numbers_of xs ++ numbers_of ys
numbers_both [] ys = refl
numbers_both (x ∷ xs) ys = ap (λ (ns : List ℕ). x.number ∷ ns) (numbers_both xs ys)

names_join : (apart : Bool) (xs ys : List Request) → NameApart apart xs → NameApart apart ys → AllByRecursion (λ (x : Request). AllByRecursion (λ (y : Request). clashes apart y.work x.work ≡ false) ys) xs
    → NameApart apart (xs ++ ys)
names_join apart [] ys h k cross = k
names_join apart (x ∷ xs) ys h k cross = (all_append (λ (y : Request). clashes apart y.work x.work ≡ false) xs ys h.0 cross.0, names_join apart xs ys h.1 k cross.1)

moved_block : (needs : Bool) (name : Option (List ℕ)) (a b : List (List ℕ × Tree)) → ((n : List ℕ) → named_in b n ≡ named_in a n) → block_if needs name (names_of a) ≡ block_if needs name (names_of b)
moved_block true (Some name) a b same = sym (named_of name a) ∙ (sym (same name) ∙ named_of name b)
moved_block true None a b same = refl
moved_block false name a b same = refl

moved_passes : (name : Option (List ℕ)) (a b : List (List ℕ × Tree)) → ((n : List ℕ) → named_in b n ≡ named_in a n) → passes (is_some_name b) name ≡ passes (is_some_name a) name
moved_passes None a b same = refl
moved_passes (Some n) a b same = ap is_some (same n)

-- Trees of a later batch that wait beside trees that wait already, where bound names stay as they are and no block is named on
-- both sides.
pub suspended_join : (apart : Bool) (bound after : List (List ℕ × Tree)) (suspended left : List (List Pending)) (unfinished more : List Request)
    → AreSuspended apart bound suspended unfinished → AreSuspended apart after left more
    → ((name : List ℕ) → named_in after name ≡ named_in bound name)
    → AreRising (unfinished ++ more) → AllByRecursion (λ (u : Request). AllByRecursion (λ (m : Request). clashes apart m.work u.work ≡ false) more) unfinished
    → AreSuspended apart after (suspended ++ left) (unfinished ++ more)
suspended_join apart bound after suspended left unfinished more w v stay rising cross =
    let all : List Request = unfinished ++ more in
    let both : (P : Pending → Type 0) → AllByRecursion P (joined_trees suspended) → AllByRecursion P (joined_trees left) → AllByRecursion P (joined_trees (suspended ++ left)) = λ P h k.
    subst (AllByRecursion P) (sym (joined_both suspended left)) (all_append P (joined_trees suspended) (joined_trees left) h k) in
    let below : AllByRecursion (λ (u : Request). AllByRecursion (λ (m : Request). u.number < m.number) more) unfinished = (rising_both unfinished more rising).2 in
    record {
      over = record {
        rising = rising;
        names = names_join apart unfinished more w.over.names v.over.names cross;
        inside = both (λ (p : Pending). Contains all p.request)
            (all_weaker (λ (p : Pending). Contains unfinished p.request) (λ (p : Pending). Contains all p.request) (joined_trees suspended) (λ p c. Contains-append_left unfinished more p.request c) w.over.inside)
            (all_weaker (λ (p : Pending). Contains more p.request) (λ (p : Pending). Contains all p.request) (joined_trees left) (λ p c. Contains-append_right unfinished more p.request c) v.over.inside);
        free = all_true (λ (p : Pending). no_error p.request.number ≡ None) (joined_trees (suspended ++ left)) (λ p. refl);
        blocks = both (λ (p : Pending). p.block ≡ block_if (needs_block p.request.work) (name_of p.request.work) (names_of after))
            (all_weaker (λ (p : Pending). p.block ≡ block_if (needs_block p.request.work) (name_of p.request.work) (names_of bound))
            (λ (p : Pending). p.block ≡ block_if (needs_block p.request.work) (name_of p.request.work) (names_of after)) (joined_trees suspended)
            (λ p is. is ∙ moved_block (needs_block p.request.work) (name_of p.request.work) bound after stay) w.over.blocks) v.over.blocks;
        lacks = both (λ (p : Pending). makes_block p.request.work ≡ true → passes (is_some_name after) (name_of p.request.work) ≡ false)
            (all_weaker (λ (p : Pending). makes_block p.request.work ≡ true → passes (is_some_name bound) (name_of p.request.work) ≡ false)
            (λ (p : Pending). makes_block p.request.work ≡ true → passes (is_some_name after) (name_of p.request.work) ≡ false) (joined_trees suspended)
            (λ p is makes. moved_passes (name_of p.request.work) bound after stay ∙ is makes) w.over.lacks) v.over.lacks;
      };
      numbers = record {
        rising = rising;
        among = subst (AllByRecursion (Contains all)) (sym (requests_in_both suspended left))
            (all_append (Contains all) (requests_in suspended) (requests_in left)
            (all_weaker (Contains unfinished) (Contains all) (requests_in suspended) (λ r c. Contains-append_left unfinished more r c) w.numbers.among)
            (all_weaker (Contains more) (Contains all) (requests_in left) (λ r c. Contains-append_right unfinished more r c) v.numbers.among));
        each = λ n.
            (let a : count_by (is_numbered n) (numbers_of (requests_in (suspended ++ left))) ≡ count_by (is_numbered n) (numbers_of (requests_in suspended ++ requests_in left)) =
            ap (λ (rs : List Request). count_by (is_numbered n) (numbers_of rs)) (requests_in_both suspended left) in
            let b = count_both n (requests_in suspended) (requests_in left) in
            let d = count_both n unfinished more in
            let e = w.numbers.each n in
            let f = v.numbers.each n in omega arith);
      };
      each =
          (let a : length (roots_of (suspended ++ left)) ≡ length (roots_of suspended ++ roots_of left) = ap length (roots_both suspended left) in
          let b = length-append (roots_of suspended) (roots_of left) in
          let d = length-append suspended left in
          let e = w.each in
          let f = v.each in omega arith);
      rising = subst (λ (rs : List Request). AreRisingFrom 0 (numbers_of rs)) (sym (roots_both suspended left))
          (subst (AreRisingFrom 0) (sym (numbers_both (roots_of suspended) (roots_of left)))
          (rising_from_both 0 (numbers_of (roots_of suspended)) (numbers_of (roots_of left)) w.rising v.rising
          (all_true (λ m. 0 ≤ m) (numbers_of (roots_of left)) (λ m. omega arith))
          (all_numbers (λ n. AllByRecursion (λ m. n < m) (numbers_of (roots_of left))) (roots_of suspended)
          (all_one (λ (r : Request). AllByRecursion (λ m. r.number < m) (numbers_of (roots_of left))) (roots_of suspended) (λ r at.
          all_numbers (λ m. r.number < m) (roots_of left) (all_one (λ (q : Request). r.number < q.number) (roots_of left) (λ q here.
          one_all (λ (m : Request). r.number < m.number) q more
          (one_all (λ (u : Request). AllByRecursion (λ (m : Request). u.number < m.number) more) r unfinished below
          (root_among suspended unfinished r w.numbers at)) (root_among left more q v.numbers here))))))));
      under = subst (AllByRecursion (λ (r : Request). r.under ≡ None)) (sym (roots_both suspended left)) (all_append (λ (r : Request). r.under ≡ None) (roots_of suspended) (roots_of left) w.under v.under);
      claims = list_any-claims;
    }
  where
    root_among : (trees : List (List Pending)) (rs : List Request) (r : Request) → AreUnfinished trees rs → IsOneOf r (roots_of trees) → IsOneOf r rs
    root_among trees rs r h at =
        contains_one r rs (one_all (Contains rs) r (requests_in trees) h.among (one_all (λ (q : Request). IsOneOf q (requests_in trees)) r (roots_of trees) (roots_in trees) at))

    both_false : (a b : Bool) → a ≡ false → b ≡ false → (a || b) ≡ false
    both_false a b e f = ap (λ (x : Bool). x || b) e ∙ f

    list_any-claims : has_claim (requests_in (suspended ++ left)) ≡ false
    list_any-claims =
        ap has_claim (requests_in_both suspended left)
        ∙ (list_any-append (λ (r : Request). is_claim (kind_of r.work)) (requests_in suspended) (requests_in left)
        ∙ both_false (has_claim (requests_in suspended)) (has_claim (requests_in left)) w.claims v.claims)

-- ---- after the round of a batch

not_named : (suspended : List (List Pending)) (m : Request) → is_awaited suspended m ≡ false → AllByRecursion (λ (r : Request). names_it (name_of m.work) (name_of r.work) ≡ false) (requests_in suspended)
not_named suspended m none =
    all_requests_in (λ (r : Request). names_it (name_of m.work) (name_of r.work) ≡ false) (joined_trees suspended)
    (none_any (λ (p : Pending). names_it (name_of m.work) (name_of p.request.work)) (joined_trees suspended)
    (sym (any_flat (λ (p : Pending). names_it (name_of m.work) (name_of p.request.work)) suspended) ∙ none))

rising_some : (xs ys : List Request) (test : Request → Bool) → AreRising (xs ++ ys) → AreRising (xs ++ filter test ys)
rising_some xs ys test h =
    let parts = rising_both xs ys h in
    rising_join xs (filter test ys) parts.0 (rising_kept test ys parts.1)
    (all_weaker (λ (x : Request). AllByRecursion (λ (y : Request). x.number < y.number) ys) (λ (x : Request). AllByRecursion (λ (y : Request). x.number < y.number) (filter test ys)) xs
    (λ x k. kept (λ (y : Request). x.number < y.number) test ys k) parts.2)

none_of : (o : Option Errno) (b : Bool) → (is_none o && b) ≡ true → o ≡ None
none_of None b e = refl
none_of (Some x) b e = absurd (let no = e in cc)

pub batch_suspended : (s : Standing) (round number : ℕ) (awaited : List ℕ → Bool) (suspended : List (List Pending)) (unfinished : List Request) (bound after : List (List ℕ × Tree)) (items : List Item) (slots : List (ℕ × ℕ)) (rules : List Rules) (end : SeenEnd)
    → AreSuspended (rows_tell_apart s.rows) bound suspended unfinished → IsLive s.live bound → AreAwaited suspended awaited
    → AreRising (unfinished ++ requests_of items) → IsOrderlyBatch (rows_tell_apart s.rows) (requests_of items)
    → IsAdmission (has_trees suspended) awaited (is_some_name bound) (trees_of (requests_of items)) slots rules
    → IsRoundEnd s round (pending_trees (names_of bound) number (trees_of (running slots rules items))) end
    → ((name : List ℕ) → named_in after name ≡ block_of (bound_after (ended_told (error_in slots rules) end.finished (requests_of items)) (names_of bound)) name)
    → AreSuspended (rows_tell_apart s.rows) after (suspended ++ end.left) (unfinished ++ filter (is_left (error_in slots rules) end.finished) (requests_of items))
batch_suspended s round number awaited suspended unfinished bound after items slots rules end w live waits rising orderly admission_is over told =
    let apart : Bool = rows_tell_apart s.rows in
    let requests : List Request = requests_of items in
    let error : ℕ → Option Errno = error_in slots rules in
    let trees : List (List Pending) = pending_trees (names_of bound) number (trees_of (running slots rules items)) in
    let up : AreRising requests = (rising_both unfinished requests rising).1 in
    let runs : AreRunnable s trees = batch_runnable s apart suspended awaited bound number items slots rules refl up orderly waits admission_is live in
    let known : IsRoundOver apart bound error requests trees = batch_over apart suspended awaited bound number items slots rules up orderly waits admission_is in
    let left : AreSuspended apart after end.left (filter (is_left error end.finished) requests) =
    left_suspended s round apart trees end requests error bound after runs over known (batch_numbers apart suspended awaited bound number items slots rules up orderly waits admission_is) told in
    go suspended w (judged_by suspended awaited (is_some_name bound) (trees_of requests) slots rules waits (stand_once items up) admission_is) left
  where
    go : (ts : List (List Pending)) → AreSuspended (rows_tell_apart s.rows) bound ts unfinished → Judge (error_in slots rules) (admission ts (is_some_name bound)) (trees_of (requests_of items))
        → AreSuspended (rows_tell_apart s.rows) after end.left (filter (is_left (error_in slots rules) end.finished) (requests_of items))
        → AreSuspended (rows_tell_apart s.rows) after (ts ++ end.left) (unfinished ++ filter (is_left (error_in slots rules) end.finished) (requests_of items))
    go [] v judge left =
        subst (λ (us : List Request). AreSuspended (rows_tell_apart s.rows) after end.left (us ++ filter (is_left (error_in slots rules) end.finished) (requests_of items)))
        (sym (none_unfinished unfinished v.numbers)) left
    go (t ∷ ts) v judge left =
        let apart : Bool = rows_tell_apart s.rows in
        let requests : List Request = requests_of items in
        let error : ℕ → Option Errno = error_in slots rules in
        let beside : AllByRecursion (GoesBeside error (t ∷ ts)) requests =
        from_trees (GoesBeside error (t ∷ ts)) requests (rising_both unfinished requests rising).1 orderly.parents (all_beside error t ts (is_some_name bound) (trees_of requests) judge) in
        suspended_join apart bound after (t ∷ ts) end.left unfinished (filter (is_left error end.finished) requests) v left
        (names_stay error end.finished (t ∷ ts) requests bound after beside told)
        (rising_some unfinished requests (is_left error end.finished) rising)
        (all_one (λ (u : Request). AllByRecursion (λ (m : Request). clashes apart m.work u.work ≡ false) (filter (is_left error end.finished) requests)) unfinished (λ u at.
        all_one (λ (m : Request). clashes apart m.work u.work ≡ false) (filter (is_left error end.finished) requests) (λ m here.
        (let there = one_filtered (is_left error end.finished) requests m here in
        let free : error m.number ≡ None = none_of (error m.number) (is_none (finish_of end.finished m.number)) there.1 in
        let apart_names = not_named (t ∷ ts) m (one_all (GoesBeside error (t ∷ ts)) m requests beside there.0 free).1 in
        let differs : names_it (name_of m.work) (name_of u.work) ≡ false =
        one_all (λ (r : Request). names_it (name_of m.work) (name_of r.work) ≡ false) u (requests_in (t ∷ ts)) apart_names
        (one_all (λ (x : Request). IsOneOf x (requests_in (t ∷ ts))) u unfinished (unfinished_in (t ∷ ts) unfinished v.numbers) at) in
        ap (λ (b : Bool). b && not (may_share apart m.work u.work)) differs))))

-- What the round of a `clear` leaves waits for the next one.
pub clear_suspended : (s : Standing) (round : ℕ) (suspended : List (List Pending)) (unfinished : List Request) (bound after : List (List ℕ × Tree)) (end : SeenEnd)
    → AreSuspended (rows_tell_apart s.rows) bound suspended unfinished → IsLive s.live bound → IsRoundEnd s round suspended end
    → ((name : List ℕ) → named_in after name ≡ block_of (bound_after (ended_told no_error end.finished unfinished) (names_of bound)) name)
    → AreSuspended (rows_tell_apart s.rows) after end.left (filter (is_left no_error end.finished) unfinished)
clear_suspended s round suspended unfinished bound after end w live over told =
    left_suspended s round (rows_tell_apart s.rows) suspended end unfinished no_error bound after (suspended_runnable s bound suspended unfinished w live) over w.over
    (λ n. w.numbers.each n ∙ ap (λ (rs : List Request). count_by (is_numbered n) (numbers_of rs)) (sym (all_kept unfinished))) told
