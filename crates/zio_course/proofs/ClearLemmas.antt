-- The round of suspended trees is the next round of the course.
use Rattle.std.proofs.Common.{◌≡◌, ℕ, ◌+◌, List, [], ◌∷◌, ◌++◌, map, reverse, Bool, true, false, cond, None, eqb, refl, sym, ap, ◌∙◌, subst, arith, Contains}
use Rattle.std.specs.List.{AllByRecursion, flat_map}
use Rattle.zio_types.specs.declared.journal.Completion.{Completion}
use Rattle.zio_types.specs.declared.journal.Journal.{Journal}
use Rattle.zio_types.specs.Choices.{Ask}
use Rattle.zio_script.specs.declared.script.Failmode.{Failmode}
use Rattle.zio_script.specs.declared.script.Request.{Request}
use Rattle.zio_script.specs.Accepted.{NameApart}
use Rattle.zio_cksum.specs.Images.{Images}
use Rattle.zio_cksum.proofs.AllLemmas.{all_true, all_unmap, all_weaker}
use Rattle.zio_gang.specs.declared.tree.Tree.{Tree}
use Rattle.zio_gang.specs.Attempts.{Ended, Pending, Terms}
use Rattle.zio_gang.specs.Journals.{AreChoicesOf, AreCompletionsOf, choices_in}
use Rattle.zio_gang.specs.Rounds.{Ran, block_of, bound_after, settle_each, used_places}
use Rattle.zio_gang.specs.Runs.{Plan, Round, State, after_round, round_of, run_suspended, terms_of}
use Rattle.zio_gang.specs.Trees.{sizes_of}
use Rattle.zio_gang.proofs.FateLemmas.{of_trees, sum_flat, sum_map, tally}
use Rattle.zio_report.specs.declared.report.ReportLine.{ReportLine}
use Rattle.zio_report.specs.Reports.{by_number, line_of_ended, line_of_pending}
use Rattle.zio_course.specs.declared.runner.RequestEnd.{RequestEnd}
use Rattle.zio_course.specs.Entered.{IsBatchRun}
use Rattle.zio_course.specs.Forests.{names_of}
use Rattle.zio_course.specs.Runners.{AreRisingFrom, IsRound, IsRoundEnd, SeenEnd, Standing, completion_for, finished_by_number, joined_trees, numbers_of, requests_in, terms_at}
use Rattle.zio_course.specs.Steps.{AreUnfinished, IsAt, IsNextRound, IsPlanOf}
use Rattle.zio_course.specs.Told.{ended_told, line_told, no_error}
use Rattle.zio_course.proofs.CourseLemmas.{ran_lines, settled_at}
use Rattle.zio_course.proofs.DoneLemmas.{IsAmongAnswered, contains_one, round_completions}
use Rattle.zio_course.proofs.EndLemmas.{times, times_is}
use Rattle.zio_course.proofs.PlaceLemmas.{SamePlaces-back, choices_same}
use Rattle.zio_course.proofs.PlantLemmas.{named_of}
use Rattle.zio_course.proofs.RanLemmas.{AreTreesOf, ran_of}
use Rattle.zio_course.proofs.SortLemmas.{IsOneOf, one_if}
use Rattle.zio_course.proofs.StepLemmas.{ran_names}
use Rattle.zio_course.proofs.SuspendedLemmas.{none_answered}

-- what holds of all requests holds of each tree's
all_front : (P : Pending → Type 0) (xs ys : List Pending) → AllByRecursion P (xs ++ ys) → AllByRecursion P xs × AllByRecursion P ys
all_front P [] ys h = (tt, h)
all_front P (x ∷ xs) ys h = let rest = all_front P xs ys h.1 in ((h.0, rest.0), rest.1)

by_trees : (P : Pending → Type 0) (trees : List (List Pending)) → AllByRecursion P (joined_trees trees) → AllByRecursion (λ (tree : List Pending). AllByRecursion P tree) trees
by_trees P [] h = tt
by_trees P (tree ∷ trees) h = let parts = all_front P tree (joined_trees trees) h in (parts.0, by_trees P trees parts.1)

pub among_trees : (suspended : List (List Pending)) (unfinished : List Request) → AllByRecursion (Contains unfinished) (requests_in suspended)
    → AreTreesOf (λ (r : Request). IsOneOf r unfinished) suspended
among_trees suspended unfinished h =
    by_trees (λ (p : Pending). IsOneOf p.request unfinished) suspended
    (all_weaker (λ (p : Pending). Contains unfinished p.request) (λ (p : Pending). IsOneOf p.request unfinished) (joined_trees suspended)
    (λ p there. contains_one p.request unfinished there)
    (all_unmap (Contains unfinished) (λ (p : Pending). p.request) (joined_trees suspended) h))

all_free : (suspended : List (List Pending)) → AreTreesOf (λ (r : Request). no_error r.number ≡ None) suspended
all_free suspended =
    all_true (λ (tree : List Pending). AllByRecursion (λ (p : Pending). no_error p.request.number ≡ None) tree) suspended
    (λ tree. all_true (λ (p : Pending). no_error p.request.number ≡ None) tree (λ p. refl))

pub times_if : (b : Bool) (n : ℕ) → cond b (1 + n) n ≡ one_if b + n
times_if true n = refl
times_if false n = let zero_and : n ≡ 0 + n = omega arith in zero_and

pub times_tally : (n : ℕ) (rs : List Request) → times n (numbers_of rs) ≡ tally (λ (r : Request). one_if (eqb r.number n)) rs
times_tally n [] = refl
times_tally n (r ∷ rs) = times_if (eqb r.number n) (times n (numbers_of rs)) ∙ ap (λ (k : ℕ). one_if (eqb r.number n) + k) (times_tally n rs)

pub trees_tally : (n : ℕ) (trees : List (List Pending)) → tally (λ (r : Request). one_if (eqb r.number n)) (requests_in trees) ≡ of_trees (λ (r : Request). one_if (eqb r.number n)) trees
trees_tally n trees =
    sum_map (λ (r : Request). one_if (eqb r.number n)) (λ (p : Pending). p.request) (joined_trees trees)
    ∙ sum_flat (λ (p : Pending). one_if (eqb p.request.number n)) (λ (tree : List Pending). tree) trees

-- The round of the suspended trees, whose requests come by number, is the course's.
pub suspended_round : (apart : Bool) (plan : Plan) (st : State) (s : Standing) (failmode : Failmode) (bound new_bound : List (List ℕ × Tree)) (suspended : List (List Pending)) (unfinished : List Request)
    (point : ℕ) (before after : Images) (old new : Journal) (end : SeenEnd) (lines : List ReportLine) (left : List (List Pending))
    → IsPlanOf s failmode plan → IsAt s bound suspended old.rounds point before st
    → AreUnfinished suspended unfinished → NameApart apart unfinished
    → IsBatchRun no_error unfinished bound new_bound old new end lines left
    → IsRoundEnd s (old.rounds + 1) suspended end
    → IsRound (terms_at s failmode (old.rounds + 1) point) suspended before after end
    → choices_in (old.rounds + 1) plan.journal ≡ choices_in (old.rounds + 1) end.entries
    → (round : Round) × (run_suspended plan st ≡ after_round plan st [] round)
    × IsNextRound s (old.rounds + 1) point None lines end.entries end.completions left after new_bound round
suspended_round apart plan st s failmode bound new_bound suspended unfinished point before after old new end lines left plan_is at whole names ran over round_is own =
    let t : Terms = terms_at s failmode (old.rounds + 1) point in
    let ran_st : Ran = settle_each plan.journal (terms_of plan st) st.suspended st.images in
    let ran_now : Ran = settle_each end.entries t suspended before in
    let ran_is : ran_st ≡ ran_now =
    ap (λ (ts : List (List Pending)). settle_each plan.journal (terms_of plan st) ts st.images) at.suspended_is
    ∙ settled_at plan st s failmode (old.rounds + 1) point end.entries suspended before plan_is at.point_is (ap (λ (n : ℕ). n + 1) at.rounds_is) at.used at.images_are own in
    let finished_is : end.finished ≡ finished_by_number ran_now.ended = round_is.finished_is in
    let up : AreRisingFrom 0 (map (λ (f : RequestEnd). f.request) (finished_by_number ran_now.ended)) =
    subst (λ (fs : List RequestEnd). AreRisingFrom 0 (map (λ (f : RequestEnd). f.request) fs)) finished_is over.rising in
    let inside : AreTreesOf (λ (r : Request). IsOneOf r unfinished) suspended = among_trees suspended unfinished whole.among in
    let free : AreTreesOf (λ (r : Request). no_error r.number ≡ None) suspended = all_free suspended in
    let none : List Ended = [] in
    let told : by_number (map line_of_ended ran_now.ended ++ flat_map (map line_of_pending) ran_now.left) ≡ map (line_told no_error (finished_by_number ran_now.ended)) unfinished =
    ran_lines no_error unfinished none suspended end.entries t before whole.rising tt tt inside free
    (λ n.
    (let each = whole.each n in
    let a = times_is n (numbers_of (requests_in suspended)) in
    let b = times_is n (numbers_of unfinished) in
    let c = times_tally n (requests_in suspended) in
    let d = times_tally n unfinished in
    let e = trees_tally n suspended in omega arith)) up in
    let lines_same : by_number (map line_of_ended ran_now.ended ++ flat_map (map line_of_pending) ran_now.left) ≡ lines =
    told ∙ (ap (λ (fs : List RequestEnd). map (line_told no_error fs) unfinished) (sym finished_is) ∙ sym ran.lines_are) in
    let round : Round = round_of st None none ran_st in (
      round,
      refl,
      record {
        head = ap (λ (n : ℕ). record { round = n + 1; batch = None; point = st.point }) at.rounds_is
            ∙ ap (λ (n : ℕ). record { round = old.rounds + 1; batch = None; point = n }) at.point_is;
        lines_are = ap (λ (x : Ran). by_number (map line_of_ended x.ended ++ flat_map (map line_of_pending) x.left)) ran_is ∙ lines_same;
        left_is = ap (λ (x : Ran). x.left) ran_is ∙ (sym round_is.left_is ∙ sym ran.journal.left_is);
        images_are = ap (λ (x : Ran). x.images) ran_is ∙ sym round_is.images_are;
        names = λ name.
            ap (λ (x : Ran). block_of (bound_after x.ended st.bound) name) ran_is
            ∙ (ran_names no_error unfinished ran_now.ended whole.rising (ran_of (λ (r : Request). IsOneOf r unfinished) end.entries t suspended before inside).0
            (ran_of (λ (r : Request). no_error r.number ≡ None) end.entries t suspended before free).0 up apart st.bound (names_of bound) name names (at.names name ∙ named_of name bound)
            ∙ (ap (λ (fs : List RequestEnd). block_of (bound_after (ended_told no_error fs unfinished) (names_of bound)) name) (sym finished_is) ∙ sym (ran.bound_is name)));
        choices_are = subst (λ (asks : List Ask). AreChoicesOf (sizes_of s.tops) (used_places st.bound) asks end.entries) (ap (λ (x : Ran). x.asks) (sym ran_is))
            (choices_same (sizes_of s.tops) s.live (used_places st.bound) ran_now.asks end.entries (SamePlaces-back (used_places st.bound) s.live at.used) round_is.choices);
        completions_are = subst (λ (n : ℕ). AreCompletionsOf (n + 1) ran_st.ended end.completions) (sym at.rounds_is)
            (subst (λ (x : Ran). AreCompletionsOf (old.rounds + 1) x.ended end.completions) (sym ran_is) (done finished_is));
      },
    )
  where
    done : end.finished ≡ finished_by_number (settle_each end.entries (terms_at s failmode (old.rounds + 1) point) suspended before).ended
        → AreCompletionsOf (old.rounds + 1) (settle_each end.entries (terms_at s failmode (old.rounds + 1) point) suspended before).ended end.completions
    done finished_is =
        let ended : List Ended = (settle_each end.entries (terms_at s failmode (old.rounds + 1) point) suspended before).ended in
        let nobody : List Ended = [] in
        subst (λ (given : List Completion). AreCompletionsOf (old.rounds + 1) ended (given ++ end.completions)) (ap reverse (none_answered (old.rounds + 1) unfinished))
        (round_completions no_error (old.rounds + 1) unfinished nobody ended end.completions tt tt
        (all_true (IsAmongAnswered no_error nobody) unfinished (λ r x is. absurd (let never = is in cc)))
        (subst (λ (fs : List RequestEnd). AllByRecursion (λ c. Contains (map (completion_for (old.rounds + 1)) fs) c) end.completions) finished_is over.completed)
        (subst (λ (fs : List RequestEnd). AllByRecursion (λ c. Contains end.completions c) (map (completion_for (old.rounds + 1)) fs)) finished_is over.all_completed))
