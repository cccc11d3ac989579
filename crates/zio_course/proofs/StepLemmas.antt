-- The round of a batch is the next round of the course.
use Rattle.std.proofs.Common.{◌≡◌, ℕ, ◌+◌, ◌<◌, List, [], ◌∷◌, ◌++◌, map, reverse, Bool, true, false, cond, Option, Some, None, is_some, eqb, eqb-true, refl, sym, ap, ◌∙◌, subst, inl, inr, arith, Contains}
use Rattle.std.specs.List.{AllByRecursion, flat_map}
use Rattle.zio_types.specs.declared.error.Errno.{Errno}
use Rattle.zio_types.specs.declared.journal.Journal.{Journal}
use Rattle.zio_types.specs.Choices.{Ask, Choice}
use Rattle.zio_script.specs.declared.script.Failmode.{Failmode}
use Rattle.zio_script.specs.declared.script.Item.{Item}
use Rattle.zio_script.specs.declared.script.Request.{Request}
use Rattle.zio_script.specs.Accepted.{AreBehindParents, AreRising, NameApart}
use Rattle.zio_script.specs.Requests.{requests_of}
use Rattle.zio_cksum.specs.Images.{Images}
use Rattle.zio_cksum.proofs.AllLemmas.{all_weaker}
use Rattle.zio_gang.specs.declared.tree.Tree.{Tree}
use Rattle.zio_gang.specs.Attempts.{Ended, Pending, Terms}
use Rattle.zio_gang.specs.Journals.{AreChoicesOf, AreCompletionsOf, choices_in}
use Rattle.zio_gang.specs.Rounds.{Admitted, Bound, Ran, admission, admit_with, admitted, answered_with, block_of, bound_after, is_bound, pending_trees, settle_each, trees_of, used_places}
use Rattle.zio_gang.specs.Runs.{Plan, Round, State, after_round, has_trees, round_of, run_batch, terms_of}
use Rattle.zio_gang.specs.Trees.{sizes_of}
use Rattle.zio_gang.proofs.FateLemmas.{batch_held, tally, tally-append}
use Rattle.zio_report.specs.declared.report.ReportLine.{ReportLine}
use Rattle.zio_report.specs.Reports.{by_number, line_of_ended, line_of_pending}
use Rattle.zio_course.specs.declared.admission.Rules.{Rules}
use Rattle.zio_course.specs.declared.runner.RequestEnd.{RequestEnd}
use Rattle.zio_course.specs.Admissions.{IsAdmission, error_in}
use Rattle.zio_course.specs.Admitted.{AreAwaited}
use Rattle.zio_course.specs.Answered.{answered_in}
use Rattle.zio_course.specs.Entered.{IsBatchRun}
use Rattle.zio_course.specs.Forests.{names_of, running}
use Rattle.zio_course.specs.Names.{is_some_name}
use Rattle.zio_course.specs.Runners.{AreRisingFrom, IsRound, IsRoundEnd, SeenEnd, Standing, completion_for, finished_by_number, finished_of, terms_at}
use Rattle.zio_course.specs.Steps.{IsAt, IsNextRound, IsPlanOf}
use Rattle.zio_course.specs.Told.{ended_as, ended_by, ended_told, finish_of, line_told}
use Rattle.zio_course.proofs.AdmissionLemmas.{stand_once}
use Rattle.zio_course.proofs.AdmittedLemmas.{Judge, judged_by, trees_admitted}
use Rattle.zio_course.proofs.CourseLemmas.{admit_all, admitted_same, batch_lines, judged_lines, pending_same, settled_at, trees_all}
use Rattle.zio_course.proofs.DoneLemmas.{IsAmongAnswered, IsAnswered, round_completions}
use Rattle.zio_course.proofs.EndLemmas.{all_in_trees}
use Rattle.zio_course.proofs.LineLemmas.{ended_found, rising_by}
use Rattle.zio_course.proofs.PlaceLemmas.{SamePlaces-back, choices_same}
use Rattle.zio_course.proofs.PlantLemmas.{named_of}
use Rattle.zio_course.proofs.RanLemmas.{AreTreesOf, ran_of}
use Rattle.zio_course.proofs.SortLemmas.{IsOneOf, all_merge, all_one, one_all, one_if, one_itself, one_left, one_map, one_right, sorted_is}
use Rattle.zio_course.proofs.TouchLemmas.{after_same, apart_alike}

-- ---- what finished

pub some_same : {X : Type 0} (x y : X) → Some x ≡ Some y → x ≡ y
some_same x y e = cc

-- what is found by its number is there and has it
pub record Found (fs : List RequestEnd) (n : ℕ) (f : RequestEnd) : Type 0 where
  pub at : IsOneOf f fs
  pub number : f.request ≡ n

found_if : (b : Bool) (g : RequestEnd) (fs : List RequestEnd) (n : ℕ) (f : RequestEnd) → eqb g.request n ≡ b → cond b (Some g) (finish_of fs n) ≡ Some f
    → (finish_of fs n ≡ Some f → Found fs n f) → Found (g ∷ fs) n f
found_if true g fs n f e is later =
    let same : g ≡ f = some_same g f is in
    record { at = inl same; number = ap (λ (x : RequestEnd). x.request) (sym same) ∙ eqb-true g.request n e }
found_if false g fs n f e is later = let rest = later is in record { at = inr rest.at; number = rest.number }

pub found_there : (fs : List RequestEnd) (n : ℕ) (f : RequestEnd) → finish_of fs n ≡ Some f → Found fs n f
found_there [] n f is = absurd (let no = is in cc)
found_there (g ∷ fs) n f is = found_if (eqb g.request n) g fs n f refl is (λ later. found_there fs n f later)

-- what finished is of a request that ended
record EndOf (ended : List Ended) (f : RequestEnd) : Type 0 where
  end : Ended
  at : IsOneOf end ended
  same : finished_of end ≡ f

ends_of : (ended : List Ended) → AllByRecursion (EndOf ended) (finished_by_number ended)
ends_of ended =
    all_merge (λ (f : RequestEnd). f.request) (EndOf ended) (map finished_of ended)
    (all_one (EndOf ended) (map finished_of ended) (λ f at. made ended f (λ e here. here) at))
  where
    made : (es : List Ended) (f : RequestEnd) → ((e : Ended) → IsOneOf e es → IsOneOf e ended) → IsOneOf f (map finished_of es) → EndOf ended f
    made [] f within at = absurd at
    made (e ∷ es) f within (inl same) = record { end = e; at = within e (inl refl); same = same }
    made (e ∷ es) f within (inr at) = made es f (λ x here. within x (inr here)) at

-- where numbers rise, two requests of one number are one
pub one_number : (rs : List Request) (q r : Request) → AreRising rs → IsOneOf q rs → IsOneOf r rs → q.number ≡ r.number → q ≡ r
one_number [] q r rising at here same = absurd at
one_number (x ∷ rs) q r rising (inl a) (inl b) same = sym a ∙ b
one_number (x ∷ rs) q r rising (inl a) (inr b) same =
    absurd (let low : x.number < r.number = one_all (λ (y : Request). x.number < y.number) r rs rising.0 b in
    let is : x.number ≡ q.number = ap (λ (y : Request). y.number) a in omega arith)
one_number (x ∷ rs) q r rising (inr a) (inl b) same =
    absurd (let low : x.number < q.number = one_all (λ (y : Request). x.number < y.number) q rs rising.0 a in
    let is : x.number ≡ r.number = ap (λ (y : Request). y.number) b in omega arith)
one_number (x ∷ rs) q r rising (inr a) (inr b) same = one_number rs q r rising.1 a b same

-- ---- the bound names

module _ (error : ℕ → Option Errno) (requests : List Request) (ended : List Ended) (rising : AreRising requests)
    (inside : AllByRecursion (λ (e : Ended). IsOneOf e.request requests) ended) (free : AllByRecursion (λ (e : Ended). error e.request.number ≡ None) ended)
    (up : AreRisingFrom 0 (map (λ (f : RequestEnd). f.request) (finished_by_number ended))) where
  told_one_if : (o : Option Errno) (found : Option RequestEnd) (r : Request) → IsOneOf r requests → finish_of (finished_by_number ended) r.number ≡ found
      → AllByRecursion (λ (e : Ended). IsOneOf e ended) (ended_by o found r)
  told_one_if (Some x) found r at is = tt
  told_one_if None None r at is = tt
  told_one_if None (Some f) r at is =
      let found : Found (finished_by_number ended) r.number f = found_there (finished_by_number ended) r.number f is in
      let end : EndOf ended f = one_all (EndOf ended) f (finished_by_number ended) (ends_of ended) found.at in
      let number : end.end.request.number ≡ r.number = ap (λ (x : RequestEnd). x.request) end.same ∙ found.number in
      let request : end.end.request ≡ r =
      one_number requests end.end.request r rising (one_all (λ (e : Ended). IsOneOf e.request requests) end.end ended inside end.at) at number in
      let same : end.end ≡ ended_as r f = ap (λ (q : Request). ended_as q (finished_of end.end)) request ∙ ap (ended_as r) end.same in
      (subst (λ (e : Ended). IsOneOf e ended) same end.at, tt)

  told_ended_among : (rs : List Request) → AllByRecursion (λ (r : Request). IsOneOf r requests) rs
      → AllByRecursion (λ (e : Ended). IsOneOf e ended) (ended_told error (finished_by_number ended) rs)
  told_ended_among [] h = tt
  told_ended_among (r ∷ rs) h =
      append (ended_by (error r.number) (finish_of (finished_by_number ended) r.number) r) (ended_told error (finished_by_number ended) rs)
      (told_one_if (error r.number) (finish_of (finished_by_number ended) r.number) r h.0 refl) (told_ended_among rs h.1)
    where
      append : (xs ys : List Ended) → AllByRecursion (λ (e : Ended). IsOneOf e ended) xs → AllByRecursion (λ (e : Ended). IsOneOf e ended) ys
          → AllByRecursion (λ (e : Ended). IsOneOf e ended) (xs ++ ys)
      append [] ys hx hy = hy
      append (x ∷ xs) ys hx hy = (hx.0, append xs ys hx.1 hy)

  ended_told_one : (rs : List Request) (e : Ended) → IsOneOf e ended → IsOneOf e.request rs → IsOneOf e (ended_told error (finished_by_number ended) rs)
  ended_told_one [] e at here = absurd here
  ended_told_one (r ∷ rs) e at (inl same) =
      let none : error r.number ≡ None = ap (λ (q : Request). error q.number) same ∙ one_all (λ (x : Ended). error x.request.number ≡ None) e ended free at in
      let found : finish_of (finished_by_number ended) r.number ≡ Some (finished_of e) =
      ap (λ (q : Request). finish_of (finished_by_number ended) q.number) same ∙ ended_found ended e up at in
      let is : ended_by (error r.number) (finish_of (finished_by_number ended) r.number) r ≡ ended_as r (finished_of e) ∷ [] =
      ap (λ (o : Option Errno). ended_by o (finish_of (finished_by_number ended) r.number) r) none ∙ ap (λ (f : Option RequestEnd). ended_by None f r) found in
      one_left e (ended_by (error r.number) (finish_of (finished_by_number ended) r.number) r) (ended_told error (finished_by_number ended) rs)
      (subst (IsOneOf e) (sym is) (inl (ap (λ (q : Request). ended_as q (finished_of e)) same)))
  ended_told_one (r ∷ rs) e at (inr here) =
      one_right e (ended_by (error r.number) (finish_of (finished_by_number ended) r.number) r) (ended_told error (finished_by_number ended) rs) (ended_told_one rs e at here)

  ended_once : (e f : Ended) → IsOneOf e ended → IsOneOf f ended → e.request ≡ f.request → e ≡ f
  ended_once e f at here same =
      let both : finished_of e ≡ finished_of f =
      some_same (finished_of e) (finished_of f)
      (sym (ended_found ended e up at) ∙ (ap (λ (q : Request). finish_of (finished_by_number ended) q.number) same ∙ ended_found ended f up here)) in
      ap (λ (q : Request). ended_as q (finished_of e)) same ∙ ap (ended_as f.request) both

  -- the bound names after a round are those that are told, whichever came first
  pub ran_names : (apart : Bool) (a b : Bound) (name : List ℕ) → NameApart apart requests → block_of a name ≡ block_of b name
      → block_of (bound_after ended a) name ≡ block_of (bound_after (ended_told error (finished_by_number ended) requests) b) name
  ran_names apart a b name names same =
      after_same ended (ended_told error (finished_by_number ended) requests) a b name
      (apart_alike apart requests ended name names inside ended_once)
      (told_ended_among requests (one_itself requests))
      (all_one (λ (e : Ended). IsOneOf e (ended_told error (finished_by_number ended) requests)) ended
      (λ e at. ended_told_one requests e at (one_all (λ (x : Ended). IsOneOf x.request requests) e ended inside at)))
      same

-- ---- what was answered

answered_if : (error : ℕ → Option Errno) (e : Option Errno) (tree : List Request) (others : Admitted) → AllByRecursion (λ (q : Request). error q.number ≡ e) tree
    → AllByRecursion (IsAnswered error) others.answered → AllByRecursion (IsAnswered error) (admit_with e tree others).answered
answered_if error (Some x) tree others h rest = go tree h
  where
    go : (rs : List Request) → AllByRecursion (λ (q : Request). error q.number ≡ Some x) rs → AllByRecursion (IsAnswered error) (map (answered_with x) rs ++ others.answered)
    go [] hs = rest
    go (r ∷ rs) hs = ((x, hs.0, refl), go rs hs.1)
answered_if error None tree others h rest = rest

pub are_answered : (error : ℕ → Option Errno) (suspended : List (List Pending)) (bound : List ℕ → Bool) (trees : List (List Request))
    → Judge error (admission suspended bound) trees → AllByRecursion (IsAnswered error) (admitted suspended bound trees).answered
are_answered error suspended bound [] judge = tt
are_answered error suspended bound (tree ∷ trees) judge =
    answered_if error (admission suspended bound tree) tree (admitted suspended bound trees) judge.0 (are_answered error suspended bound trees judge.1)

-- each request of these trees that has an error was answered
all_answered : (error : ℕ → Option Errno) (suspended : List (List Pending)) (bound : List ℕ → Bool) (trees : List (List Request))
    → Judge error (admission suspended bound) trees
    → AllByRecursion (λ tree. AllByRecursion (IsAmongAnswered error (admitted suspended bound trees).answered) tree) trees
all_answered error suspended bound [] judge = tt
all_answered error suspended bound (tree ∷ trees) judge = (
  here (admission suspended bound tree) tree (admitted suspended bound trees) judge.0,
  all_weaker (λ t. AllByRecursion (IsAmongAnswered error (admitted suspended bound trees).answered) t)
      (λ t. AllByRecursion (IsAmongAnswered error (admitted suspended bound (tree ∷ trees)).answered) t) trees
      (λ t h. all_weaker (IsAmongAnswered error (admitted suspended bound trees).answered) (IsAmongAnswered error (admitted suspended bound (tree ∷ trees)).answered) t
      (λ r k x is. later (admission suspended bound tree) (answered_with x r) (k x is)) h) (all_answered error suspended bound trees judge.1),
)
  where
    later : (e : Option Errno) (x : Ended) → IsOneOf x (admitted suspended bound trees).answered → IsOneOf x (admit_with e tree (admitted suspended bound trees)).answered
    later (Some y) x at = one_right x (map (answered_with y) tree) (admitted suspended bound trees).answered at
    later None x at = at

    here : (e : Option Errno) (t : List Request) (others : Admitted) → AllByRecursion (λ (q : Request). error q.number ≡ e) t
        → AllByRecursion (IsAmongAnswered error (admit_with e t others).answered) t
    here (Some y) t others h = all_one (IsAmongAnswered error (map (answered_with y) t ++ others.answered)) t (λ r at x is.
        (let same : y ≡ x = some_same y x (sym (one_all (λ (q : Request). error q.number ≡ Some y) r t h at) ∙ is) in
        subst (λ (z : Errno). IsOneOf (answered_with z r) (map (answered_with y) t ++ others.answered)) same
        (one_left (answered_with y r) (map (answered_with y) t) others.answered (one_map (answered_with y) r t at))))
    here None t others h = all_one (IsAmongAnswered error others.answered) t (λ r at x is.
        absurd (let no = sym (one_all (λ (q : Request). error q.number ≡ None) r t h at) ∙ is in cc))

-- what holds of all requests of a batch's trees holds of the batch's
abbrev pub joined_requests : List (List Request) → List Request
joined_requests trees = flat_map (λ (tree : List Request). tree) trees

pub flat_all : (P : Request → Type 0) (trees : List (List Request)) → AllByRecursion (λ tree. AllByRecursion P tree) trees → AllByRecursion P (joined_requests trees)
flat_all P [] h = tt
flat_all P (tree ∷ trees) h = append tree h.0 (flat_all P trees h.1)
  where
    append : (rs : List Request) → AllByRecursion P rs → AllByRecursion P (joined_requests trees) → AllByRecursion P (rs ++ joined_requests trees)
    append [] hs rest = rest
    append (r ∷ rs) hs rest = (hs.0, append rs hs.1 rest)

pub flat_tally : (f : Request → ℕ) (trees : List (List Request)) → tally f (joined_requests trees) ≡ tally (tally f) trees
flat_tally f [] = refl
flat_tally f (tree ∷ trees) =
    let here : tally f (tree ++ joined_requests trees) ≡ tally f tree + tally f (joined_requests trees) = tally-append f tree (joined_requests trees) in
    let rest : tally f (joined_requests trees) ≡ tally (tally f) trees = flat_tally f trees in
    omega arith

pub from_trees : (P : Request → Type 0) (requests : List Request) → AreRising requests → AreBehindParents [] requests
    → AllByRecursion (λ tree. AllByRecursion P tree) (trees_of requests) → AllByRecursion P requests
from_trees P requests rising behind h =
    let joined : List Request = joined_requests (trees_of requests) in
    subst (AllByRecursion P)
    (sorted_is (λ (r : Request). r.number) requests joined (rising_by requests rising)
    (flat_all (λ (r : Request). IsOneOf r requests) (trees_of requests) (all_in_trees (λ (r : Request). IsOneOf r requests) requests (one_itself requests)))
    (λ n. flat_tally (λ (r : Request). one_if (eqb r.number n)) (trees_of requests) ∙ batch_held requests behind rising (λ (r : Request). one_if (eqb r.number n))))
    (all_merge (λ (r : Request). r.number) P joined (flat_all P (trees_of requests) h))

-- ---- the round of a batch

pub batch_round : (apart : Bool) (plan : Plan) (st : State) (s : Standing) (failmode : Failmode) (bound new_bound : List (List ℕ × Tree)) (suspended : List (List Pending)) (awaited : List ℕ → Bool)
    (number point : ℕ) (items : List Item) (slots : List (ℕ × ℕ)) (rules : List Rules) (before after : Images) (old new : Journal) (end : SeenEnd) (lines : List ReportLine) (left : List (List Pending))
    → let requests : List Request = requests_of items in
    let trees : List (List Pending) = pending_trees (names_of bound) number (trees_of (running slots rules items)) in
    IsPlanOf s failmode plan → IsAt s bound suspended old.rounds point before st
    → AreRising requests → AreBehindParents [] requests → NameApart apart requests
    → AreAwaited suspended awaited → IsAdmission (has_trees suspended) awaited (is_some_name bound) (trees_of requests) slots rules
    → IsBatchRun (error_in slots rules) requests bound new_bound old new end lines left
    → IsRoundEnd s (old.rounds + 1) trees end
    → IsRound (terms_at s failmode (old.rounds + 1) point) trees before after end
    → choices_in (old.rounds + 1) plan.journal ≡ choices_in (old.rounds + 1) end.entries
    → (round : Round) × (run_batch plan (record { number = number; requests = requests }) st ≡ after_round plan st st.suspended round)
    × IsNextRound s (old.rounds + 1) point (Some number) lines end.entries (reverse (answered_in (error_in slots rules) (old.rounds + 1) requests) ++ end.completions) left after new_bound round
batch_round apart plan st s failmode bound new_bound suspended awaited number point items slots rules before after old new end lines left plan_is at rising behind names waits admission_is ran over round_is own =
    let requests : List Request = requests_of items in
    let error : ℕ → Option Errno = error_in slots rules in
    let test : List ℕ → Bool = is_some_name bound in
    let trees : List (List Pending) = pending_trees (names_of bound) number (trees_of (running slots rules items)) in
    let t : Terms = terms_at s failmode (old.rounds + 1) point in
    let a : Admitted = admitted suspended test (trees_of requests) in
    let a_st : Admitted = admitted st.suspended (is_bound st.bound) (trees_of requests) in
    let judge : Judge error (admission suspended test) (trees_of requests) =
    judged_by suspended awaited test (trees_of requests) slots rules waits (stand_once items rising) admission_is in
    let a_same : a_st ≡ a =
    ap (λ (ts : List (List Pending)). admitted ts (is_bound st.bound) (trees_of requests)) at.suspended_is
    ∙ admitted_same suspended (is_bound st.bound) test (trees_of requests) (λ name. ap is_some (at.names name)) in
    let trees_are : pending_trees (names_of bound) number a.trees ≡ trees =
    ap (pending_trees (names_of bound) number) (sym (trees_admitted suspended awaited test items slots rules rising waits admission_is)) in
    let trees_same : pending_trees st.bound number a_st.trees ≡ trees =
    ap (λ (x : Admitted). pending_trees st.bound number x.trees) a_same
    ∙ (pending_same st.bound (names_of bound) number a.trees (λ name. at.names name ∙ named_of name bound) ∙ trees_are) in
    let ran_st : Ran = settle_each plan.journal (terms_of plan st) (pending_trees st.bound number a_st.trees) st.images in
    let ran_now : Ran = settle_each end.entries t trees before in
    let ran_is : ran_st ≡ ran_now =
    ap (λ (ts : List (List Pending)). settle_each plan.journal (terms_of plan st) ts st.images) trees_same
    ∙ settled_at plan st s failmode (old.rounds + 1) point end.entries trees before plan_is at.point_is (ap (λ (n : ℕ). n + 1) at.rounds_is) at.used at.images_are own in
    let finished_is : end.finished ≡ finished_by_number ran_now.ended = round_is.finished_is in
    let up : AreRisingFrom 0 (map (λ (f : RequestEnd). f.request) (finished_by_number ran_now.ended)) =
    subst (λ (fs : List RequestEnd). AreRisingFrom 0 (map (λ (f : RequestEnd). f.request) fs)) finished_is over.rising in
    let inside_a = admit_all (λ (r : Request). IsOneOf r requests) suspended test (trees_of requests) (all_in_trees (λ (r : Request). IsOneOf r requests) requests (one_itself requests)) in
    let judged = judged_lines error (finished_by_number ran_now.ended) suspended test (trees_of requests) judge in
    let inside : AreTreesOf (λ (r : Request). IsOneOf r requests) trees =
    subst (AreTreesOf (λ (r : Request). IsOneOf r requests)) trees_are (trees_all (λ (r : Request). IsOneOf r requests) (names_of bound) number a.trees inside_a.1) in
    let free : AreTreesOf (λ (r : Request). error r.number ≡ None) trees =
    subst (AreTreesOf (λ (r : Request). error r.number ≡ None)) trees_are (trees_all (λ (r : Request). error r.number ≡ None) (names_of bound) number a.trees judged.1) in
    let round : Round = round_of st (Some number) a_st.answered ran_st in
    let lines_same : by_number (map line_of_ended (a.answered ++ ran_now.ended) ++ flat_map (map line_of_pending) ran_now.left) ≡ lines =
    batch_lines_over error suspended test requests (names_of bound) number trees end.entries t before rising behind judge trees_are up
    ∙ (ap (λ (fs : List RequestEnd). map (line_told error fs) requests) (sym finished_is) ∙ sym ran.lines_are) in (
      round,
      refl,
      record {
        head = ap (λ (n : ℕ). record { round = n + 1; batch = Some number; point = st.point }) at.rounds_is
            ∙ ap (λ (n : ℕ). record { round = old.rounds + 1; batch = Some number; point = n }) at.point_is;
        lines_are = ap (λ (x : Admitted). by_number (map line_of_ended (x.answered ++ ran_st.ended) ++ flat_map (map line_of_pending) ran_st.left)) a_same
            ∙ (ap (λ (x : Ran). by_number (map line_of_ended (a.answered ++ x.ended) ++ flat_map (map line_of_pending) x.left)) ran_is ∙ lines_same);
        left_is = ap (λ (x : Ran). x.left) ran_is ∙ (sym round_is.left_is ∙ sym ran.journal.left_is);
        images_are = ap (λ (x : Ran). x.images) ran_is ∙ sym round_is.images_are;
        names = λ name.
            ap (λ (x : Ran). block_of (bound_after x.ended st.bound) name) ran_is
            ∙ (ran_names error requests ran_now.ended rising (ran_of (λ (r : Request). IsOneOf r requests) end.entries t trees before inside).0
            (ran_of (λ (r : Request). error r.number ≡ None) end.entries t trees before free).0 up apart st.bound (names_of bound) name names (at.names name ∙ named_of name bound)
            ∙ (ap (λ (fs : List RequestEnd). block_of (bound_after (ended_told error fs requests) (names_of bound)) name) (sym finished_is) ∙ sym (ran.bound_is name)));
        choices_are = subst (λ (asks : List Ask). AreChoicesOf (sizes_of s.tops) (used_places st.bound) asks end.entries) (ap (λ (x : Ran). x.asks) (sym ran_is))
            (choices_same (sizes_of s.tops) s.live (used_places st.bound) ran_now.asks end.entries (SamePlaces-back (used_places st.bound) s.live at.used) round_is.choices);
        completions_are = subst (λ (n : ℕ). AreCompletionsOf (n + 1) (a_st.answered ++ ran_st.ended) (reverse (answered_in error (old.rounds + 1) requests) ++ end.completions)) (sym at.rounds_is)
            (subst (λ (x : Admitted). AreCompletionsOf (old.rounds + 1) (x.answered ++ ran_st.ended) (reverse (answered_in error (old.rounds + 1) requests) ++ end.completions)) (sym a_same)
            (subst (λ (x : Ran). AreCompletionsOf (old.rounds + 1) (a.answered ++ x.ended) (reverse (answered_in error (old.rounds + 1) requests) ++ end.completions)) (sym ran_is)
            (done finished_is inside_a.0 judge)));
      },
    )
  where
    done : end.finished ≡ finished_by_number (settle_each end.entries (terms_at s failmode (old.rounds + 1) point) (pending_trees (names_of bound) number (trees_of (running slots rules items))) before).ended
        → AllByRecursion (λ (e : Ended). IsOneOf e.request (requests_of items)) (admitted suspended (is_some_name bound) (trees_of (requests_of items))).answered
        → Judge (error_in slots rules) (admission suspended (is_some_name bound)) (trees_of (requests_of items))
        → AreCompletionsOf (old.rounds + 1)
        ((admitted suspended (is_some_name bound) (trees_of (requests_of items))).answered
        ++ (settle_each end.entries (terms_at s failmode (old.rounds + 1) point) (pending_trees (names_of bound) number (trees_of (running slots rules items))) before).ended)
        (reverse (answered_in (error_in slots rules) (old.rounds + 1) (requests_of items)) ++ end.completions)
    done finished_is among judge =
        let answered : List Ended = (admitted suspended (is_some_name bound) (trees_of (requests_of items))).answered in
        let ended : List Ended =
        (settle_each end.entries (terms_at s failmode (old.rounds + 1) point) (pending_trees (names_of bound) number (trees_of (running slots rules items))) before).ended in
        round_completions (error_in slots rules) (old.rounds + 1) (requests_of items) answered ended end.completions
        (are_answered (error_in slots rules) suspended (is_some_name bound) (trees_of (requests_of items)) judge) among
        (from_trees (IsAmongAnswered (error_in slots rules) answered) (requests_of items) rising behind
        (all_answered (error_in slots rules) suspended (is_some_name bound) (trees_of (requests_of items)) judge))
        (subst (λ (fs : List RequestEnd). AllByRecursion (λ c. Contains (map (completion_for (old.rounds + 1)) fs) c) end.completions) finished_is over.completed)
        (subst (λ (fs : List RequestEnd). AllByRecursion (λ c. Contains end.completions c) (map (completion_for (old.rounds + 1)) fs)) finished_is over.all_completed)

    batch_lines_over : (error : ℕ → Option Errno) (suspended : List (List Pending)) (test : List ℕ → Bool) (requests : List Request) (names : Bound) (birth : ℕ) (trees : List (List Pending)) (j : List Choice) (t : Terms) (images : Images)
        → AreRising requests → AreBehindParents [] requests → Judge error (admission suspended test) (trees_of requests)
        → pending_trees names birth (admitted suspended test (trees_of requests)).trees ≡ trees
        → AreRisingFrom 0 (map (λ (f : RequestEnd). f.request) (finished_by_number (settle_each j t trees images).ended))
        → by_number (map line_of_ended ((admitted suspended test (trees_of requests)).answered ++ (settle_each j t trees images).ended) ++ flat_map (map line_of_pending) (settle_each j t trees images).left)
        ≡ map (line_told error (finished_by_number (settle_each j t trees images).ended)) requests
    batch_lines_over error suspended test requests names birth trees j t images rising behind judge is up =
        subst (λ (ts : List (List Pending)). AreRisingFrom 0 (map (λ (f : RequestEnd). f.request) (finished_by_number (settle_each j t ts images).ended))
        → by_number (map line_of_ended ((admitted suspended test (trees_of requests)).answered ++ (settle_each j t ts images).ended) ++ flat_map (map line_of_pending) (settle_each j t ts images).left)
        ≡ map (line_told error (finished_by_number (settle_each j t ts images).ended)) requests) is
        (λ over. batch_lines error suspended test requests names birth j t images rising behind judge over) up
