-- Whether spelled completions are lawful beside others that are: both have the same requests in the same rounds.
use Rattle.std.proofs.Common.{◌≡◌, ◌<◌, ◌+◌, ◌^◌, ℕ, zero, suc, List, [], ◌∷◌, ◌++◌, length, set, take, drop, cond, map, filter, refl, sym, ap, subst, ◌∙◌, arith, Bool, Option, Some, None, true, false, ⊎_elim, ◌==◌, ◌&&◌, ◌||◌, Contains}
use Rattle.std.specs.Prelude.{IsTrue, fold, not, slice_get, ◌↔◌}
use Rattle.std.specs.List.{AllByRecursion, list_all, list_any}
use Rattle.std.proofs.lemmas.Bool.{and_from, and_parts, both_ways, eq-eqb, eqb-true, ne_eqb, not-true, not_from_false, or_parts, true_from_ne_false, true≢false}
use Rattle.std.proofs.lemmas.List.{append-nil, drop_all, map-append, take_all}
use Rattle.std.proofs.lemmas.List.Folds.{list_any-append}
use Rattle.std.proofs.lemmas.Option.{same_Some, slice_get_within}
use Rattle.zio_types.specs.declared.error.Errno.{Errno}
use Rattle.zio_types.specs.declared.journal.Completion.{Completion}
use Rattle.zio_cksum.proofs.AllLemmas.{all_append, all_contains, all_weaker}
use Rattle.zio_script.specs.declared.script.Item.{Item}
use Rattle.zio_script.specs.declared.script.Item.TheVariants.{Request as RequestLine, Go, Clear}
use Rattle.zio_script.specs.declared.script.Request.{Request}
use Rattle.zio_script.specs.Accepted.{AreRising}
use Rattle.zio_script.specs.Requests.{is_under, is_under_number, requests_of}
use Rattle.zio_gang.specs.Attempts.{Ended}
use Rattle.zio_gang.specs.Journals.{AreCompletions, AreCompletionsOf, CompleteAfterChildren, CompleteOnce, completion_of, completions_in, is_child, is_round_of}
use Rattle.zio_gang.specs.Runs.{Round}
use Rattle.zio_audit.specs.declared.marks.Mark.{Mark}
use Rattle.zio_audit.specs.declared.marks.Mark.TheVariants.{Never, Due, Met}
use Rattle.zio_audit.specs.Marks.{AreMarksOf, AreParentsOf, due_in, is_due_with, is_settled, may_meet, meet_each, named, parent_after, parent_of}
use Rattle.zio_audit.specs.Completions.{completion_spelled, completions_from, ended_in, first_error}
use Rattle.zio_audit.proofs.MeetLemmas.{HasMet, IsDueFor, IsMetAs, are_good, due_for, due_is, is_among, is_good, mark_of, meets, parent_done, requests_in}
use Rattle.zio_audit.proofs.Members.{all_of, any_contained, contained_any, contained_cases, contains_flat, contains_kept, contains_mapped, flat_contains, kept_contains, map_contains, none_contained}

-- ---- parents

-- no later request has the number of the first
none_later : (n : ℕ) (parent : Option ℕ) (items : List Item) → AllByRecursion (λ (q : Request). n < q.number) (requests_of items) → fold (parent_after n) parent items ≡ parent
none_later n parent [] above = refl
none_later n parent (RequestLine r ∷ items) above =
    let high : n < r.number = above.0 in
    ap (λ t. fold (parent_after n) (cond t r.under parent) items) (ne_eqb r.number n (λ e. absurd (omega arith))) ∙ none_later n parent items above.1
none_later n parent (Go ∷ items) above = none_later n parent items above
none_later n parent (Clear ∷ items) above = none_later n parent items above

none_under : (n p : ℕ) (rs : List Request) → AllByRecursion (λ (q : Request). n < q.number) rs → list_any (λ (r : Request). (r.number == n) && is_under r p) rs ≡ false
none_under n p [] above = refl
none_under n p (r ∷ rs) above =
    let high : n < r.number = above.0 in
    ap (λ t. (t && is_under r p) || list_any (λ (q : Request). (q.number == n) && is_under q p) rs) (ne_eqb r.number n (λ e. absurd (omega arith))) ∙ none_under n p rs above.1

or_nothing : (t u : Bool) → u ≡ false → (t || u) ≡ t
or_nothing true u e = refl
or_nothing false u e = e

under_with : (n p : ℕ) (parent : Option ℕ) (r : Request) (items : List Item) (t : Bool) → (r.number == n) ≡ t → AreRising (r ∷ requests_of items)
    → is_under_number (fold (parent_after n) parent items) p ≡ list_any (λ (q : Request). (q.number == n) && is_under q p) (requests_of items)
    → is_under_number (fold (parent_after n) (cond t r.under parent) items) p ≡ (t && is_under r p) || list_any (λ (q : Request). (q.number == n) && is_under q p) (requests_of items)
under_with n p parent r items true is rising rest =
    let same : r.number ≡ n = eqb-true r.number n is in
    let above : AllByRecursion (λ (q : Request). n < q.number) (requests_of items) =
    subst (λ m. AllByRecursion (λ (q : Request). m < q.number) (requests_of items)) same rising.0 in
    ap (λ parent. is_under_number parent p) (none_later n r.under items above)
    ∙ sym (or_nothing (is_under r p) (list_any (λ (q : Request). (q.number == n) && is_under q p) (requests_of items)) (none_under n p (requests_of items) above))
under_with n p parent r items false is rising rest = rest

under_from : (n p : ℕ) (parent : Option ℕ) (items : List Item) → AreRising (requests_of items) → is_under_number parent p ≡ false
    → is_under_number (fold (parent_after n) parent items) p ≡ list_any (λ (r : Request). (r.number == n) && is_under r p) (requests_of items)
under_from n p parent [] rising other = other
under_from n p parent (RequestLine r ∷ items) rising other =
    under_with n p parent r items (r.number == n) refl rising (under_from n p parent items rising.1 other)
under_from n p parent (Go ∷ items) rising other = under_from n p parent items rising other
under_from n p parent (Clear ∷ items) rising other = under_from n p parent items rising other

-- the parent among the lines is the one of which a request is a child
child_is : (items : List Item) (c d : Completion) → AreRising (requests_of items) → is_child (requests_of items) c d ≡ is_under_number (parent_of items d.request) c.request
child_is items c d rising = sym (under_from d.request c.request None items rising refl)

-- ---- what is good

parent_among : (done : List ℕ) (parent : Option ℕ) (n : ℕ) → is_among done n ≡ true → is_under_number parent n ≡ true → parent_done done parent ≡ true
parent_among done None n there under = absurd (true≢false (sym under))
parent_among done (Some p) n there under = subst (λ m. is_among done m ≡ true) (sym (eqb-true p n under)) there

-- neither the request nor its parent is among these
pub record IsApart (items : List Item) (done : List ℕ) (c : Completion) : Type 0 where
  pub itself : is_among done c.request ≡ false
  pub parent : parent_done done (parent_of items c.request) ≡ false

-- each is due in its round, comes once and after its children
pub record AreMet (due : List Completion) (items : List Item) (cs : List Completion) : Type 0 where
  pub each : AllByRecursion (λ (c : Completion). due_in due c.request ≡ Due c.round) cs
  pub once : CompleteOnce cs
  pub children : CompleteAfterChildren (requests_of items) cs

not_met : (round : ℕ) (t : Bool) (mark : Mark) → is_due_with round (Some (cond t Met mark)) ≡ true → (t ≡ false) × (is_due_with round (Some mark) ≡ true)
not_met round true mark e = absurd (true≢false (sym e))
not_met round false mark e = (refl, e)

due_then : (round : ℕ) (mark : Mark) → is_due_with round (Some mark) ≡ true → mark ≡ Due round
due_then round Never e = absurd (true≢false (sym e))
due_then round (Due due) e = ap Due (eqb-true due round e)
due_then round Met e = absurd (true≢false (sym e))

good_parts : (due : List Completion) (items : List Item) (done : List ℕ) (c : Completion) → is_good due items done c ≡ true → IsApart items done c × (due_in due c.request ≡ Due c.round)
good_parts due items done c good =
    let parts = and_parts (is_due_with c.round (Some (mark_of due done c.request))) (not (parent_done done (parent_of items c.request))) good in
    let here = not_met c.round (is_among done c.request) (due_in due c.request) parts.0 in
    (record { itself = here.0; parent = not-true (parent_done done (parent_of items c.request)) parts.1 }, due_then c.round (due_in due c.request) here.1)

good_from : (due : List Completion) (items : List Item) (done : List ℕ) (c : Completion) → IsApart items done c → due_in due c.request ≡ Due c.round → is_good due items done c ≡ true
good_from due items done c apart is =
    and_from (is_due_with c.round (Some (mark_of due done c.request))) (not (parent_done done (parent_of items c.request)))
    (ap (λ t. is_due_with c.round (Some (cond t Met (due_in due c.request)))) apart.itself ∙ ap (λ mark. is_due_with c.round (Some mark)) is ∙ eq-eqb c.round c.round refl)
    (not_from_false (parent_done done (parent_of items c.request)) apart.parent)

among_parts : (done : List ℕ) (n m : ℕ) → is_among (done ++ n ∷ []) m ≡ false → (is_among done m ≡ false) × ((n == m) ≡ false)
among_parts done n m e =
    let both = or_parts (is_among done m) (is_among (n ∷ []) m) (sym (list_any-append (λ k. k == m) done (n ∷ [])) ∙ e) in
    (both.0, (or_parts (n == m) false both.1).0)

parent_parts : (done : List ℕ) (n : ℕ) (parent : Option ℕ) → parent_done (done ++ n ∷ []) parent ≡ false → (parent_done done parent ≡ false) × (is_under_number parent n ≡ false)
parent_parts done n None e = (refl, refl)
parent_parts done n (Some p) e =
    let parts = among_parts done n p e in
    (parts.0, ne_eqb p n (λ same. both_ways (n == p) parts.1 (eq-eqb n p (sym same))))

among_both : (done : List ℕ) (n m : ℕ) → is_among done m ≡ false → (n == m) ≡ false → is_among (done ++ n ∷ []) m ≡ false
among_both done n m e f = list_any-append (λ k. k == m) done (n ∷ []) ∙ or_none (is_among done m) (n == m) e f
  where
    or_none : (t u : Bool) → t ≡ false → u ≡ false → (t || (u || false)) ≡ false
    or_none true u e f = absurd (true≢false e)
    or_none false true e f = absurd (true≢false f)
    or_none false false e f = refl

parent_both : (done : List ℕ) (n : ℕ) (parent : Option ℕ) → parent_done done parent ≡ false → is_under_number parent n ≡ false → parent_done (done ++ n ∷ []) parent ≡ false
parent_both done n None e f = refl
parent_both done n (Some p) e f = among_both done n p e (ne_eqb n p (λ same. both_ways (p == n) f (eq-eqb p n (sym same))))

pub good_met : (due : List Completion) (items : List Item) (done : List ℕ) (cs : List Completion) → AreRising (requests_of items) → are_good due items done cs ≡ true
    → AllByRecursion (IsApart items done) cs × AreMet due items cs
good_met due items done [] rising good = (tt, record { each = tt; once = tt; children = tt })
good_met due items done (c ∷ cs) rising good =
    let parts = and_parts (is_good due items done c) (are_good due items (done ++ c.request ∷ []) cs) good in
    let here = good_parts due items done c parts.0 in
    let rest = good_met due items (done ++ c.request ∷ []) cs rising parts.1 in (
      (
        here.0,
        all_weaker (IsApart items (done ++ c.request ∷ [])) (IsApart items done) cs
            (λ d apart. record { itself = (among_parts done c.request d.request apart.itself).0; parent = (parent_parts done c.request (parent_of items d.request) apart.parent).0 }) rest.0,
      ),
      record {
        each = (here.1, rest.1.each);
        once = (
          all_weaker (IsApart items (done ++ c.request ∷ [])) (λ (d : Completion). (c.request == d.request) ≡ false) cs
              (λ d apart. (among_parts done c.request d.request apart.itself).1) rest.0,
          rest.1.once,
        );
        children = (
          all_weaker (IsApart items (done ++ c.request ∷ [])) (λ (d : Completion). is_child (requests_of items) c d ≡ false) cs
              (λ d apart. child_is items c d rising ∙ (parent_parts done c.request (parent_of items d.request) apart.parent).1) rest.0,
          rest.1.children,
        );
      },
    )

apart_next : (items : List Item) (done : List ℕ) (c : Completion) (cs : List Completion) → AreRising (requests_of items) → AllByRecursion (IsApart items done) cs
    → AllByRecursion (λ (d : Completion). (c.request == d.request) ≡ false) cs → AllByRecursion (λ d. is_child (requests_of items) c d ≡ false) cs
    → AllByRecursion (IsApart items (done ++ c.request ∷ [])) cs
apart_next items done c [] rising apart once children = tt
apart_next items done c (d ∷ cs) rising apart once children = (
  record {
    itself = among_both done c.request d.request apart.0.itself once.0;
    parent = parent_both done c.request (parent_of items d.request) apart.0.parent (sym (child_is items c d rising) ∙ children.0);
  },
  apart_next items done c cs rising apart.1 once.1 children.1,
)

pub met_good : (due : List Completion) (items : List Item) (done : List ℕ) (cs : List Completion) → AreRising (requests_of items) → AllByRecursion (IsApart items done) cs
    → AllByRecursion (λ (c : Completion). due_in due c.request ≡ Due c.round) cs → CompleteOnce cs → CompleteAfterChildren (requests_of items) cs
    → are_good due items done cs ≡ true
met_good due items done [] rising apart each once children = refl
met_good due items done (c ∷ cs) rising apart each once children =
    and_from (is_good due items done c) (are_good due items (done ++ c.request ∷ []) cs) (good_from due items done c apart.0 each.0)
    (met_good due items (done ++ c.request ∷ []) cs rising (apart_next items done c cs rising apart.1 once.0 children.0) each.1 once.1 children.1)

-- ---- the completions of the rounds

pub one_of : (cs : List Completion) (c d : Completion) → CompleteOnce cs → Contains cs c → Contains cs d → c.request ≡ d.request → c ≡ d
one_of [] c d once there also same = absurd (none_contained c there)
one_of (e ∷ cs) c d once there also same =
    ⊎_elim
    (λ (is : e ≡ c).
    ⊎_elim (λ (so : e ≡ d). sym is ∙ so)
    (λ (later : Contains cs d). absurd (both_ways (e.request == d.request) (all_contains (λ (x : Completion). (e.request == x.request) ≡ false) cs d once.0 later)
    (eq-eqb e.request d.request (ap (λ (x : Completion). x.request) is ∙ same))))
    (contained_cases e cs d also))
    (λ (behind : Contains cs c).
    ⊎_elim (λ (so : e ≡ d). absurd (both_ways (e.request == c.request) (all_contains (λ (x : Completion). (e.request == x.request) ≡ false) cs c once.0 behind)
    (eq-eqb e.request c.request (ap (λ (x : Completion). x.request) so ∙ sym same))))
    (λ (later : Contains cs d). one_of cs c d once.1 behind later same)
    (contained_cases e cs d also))
    (contained_cases e cs c there)

-- the round that a completion belongs to, and the request that finished in it
pub record IsOfRound (rounds : List Round) (c : Completion) : Type 0 where
  pub round : Round
  pub there : Contains rounds round
  pub number : round.number ≡ c.round
  pub ended : Contains (map (completion_of round.number) round.ended) c

pub of_round : (requests : List Request) (rounds : List Round) (cs : List Completion) (c : Completion) → AreCompletions requests rounds cs → Contains cs c → IsOfRound rounds c
of_round requests rounds cs c are there =
    let some = any_contained (is_round_of c.round) rounds (all_contains (λ (d : Completion). IsTrue (list_any (is_round_of d.round) rounds)) cs c are.of_rounds there) in
    let number : some.0.number ≡ c.round = eqb-true some.0.number c.round some.2 in
    let of : AreCompletionsOf some.0.number some.0.ended (completions_in some.0.number cs) =
    all_contains (λ (round : Round). AreCompletionsOf round.number round.ended (completions_in round.number cs)) rounds some.0 are.each some.1 in
    record {
      round = some.0;
      there = some.1;
      number = number;
      ended = all_contains (λ d. Contains (map (completion_of some.0.number) some.0.ended) d) (completions_in some.0.number cs) c of.finished
          (kept_contains (λ (d : Completion). d.round == some.0.number) cs c there (eq-eqb c.round some.0.number (sym number)));
    }

-- what finished in a round completes
completes : (requests : List Request) (rounds : List Round) (cs : List Completion) (round : Round) (c : Completion) → AreCompletions requests rounds cs → Contains rounds round
    → Contains (map (completion_of round.number) round.ended) c → Contains cs c
completes requests rounds cs round c are there ended =
    let of : AreCompletionsOf round.number round.ended (completions_in round.number cs) =
    all_contains (λ (r : Round). AreCompletionsOf r.number r.ended (completions_in r.number cs)) rounds round are.each there in
    (contains_kept (λ (d : Completion). d.round == round.number) cs c (all_contains (Contains (completions_in round.number cs)) (map (completion_of round.number) round.ended) c of.all ended)).0

-- lawful completions of the same rounds are the same, but for their order
same_completions : (requests : List Request) (rounds : List Round) (xs ys : List Completion) (c : Completion) → AreCompletions requests rounds xs → AreCompletions requests rounds ys
    → Contains xs c → Contains ys c
same_completions requests rounds xs ys c are also there =
    let of = of_round requests rounds xs c are there in
    completes requests rounds ys of.round c also of.there of.ended

in_round : (n : ℕ) (round : Round) (c : Completion) → Contains (map (completion_of round.number) round.ended) c → c.round ≡ round.number
in_round n round c there =
    let some = contains_mapped (completion_of round.number) round.ended c there in
    ap (λ (d : Completion). d.round) (sym some.2)

-- others with the same items that come once and after their children are lawful too
lawful_from : (requests : List Request) (rounds : List Round) (xs ys : List Completion) → AreCompletions requests rounds xs
    → ((c : Completion) → Contains xs c → Contains ys c) → ((c : Completion) → Contains ys c → Contains xs c)
    → CompleteOnce ys → CompleteAfterChildren requests ys → AreCompletions requests rounds ys
lawful_from requests rounds xs ys are on back once children = record {
  of_rounds = all_of (λ (c : Completion). IsTrue (list_any (is_round_of c.round) rounds)) ys
      (λ c there. all_contains (λ (d : Completion). IsTrue (list_any (is_round_of d.round) rounds)) xs c are.of_rounds (back c there));
  each = all_of (λ (round : Round). AreCompletionsOf round.number round.ended (completions_in round.number ys)) rounds
      (λ round there.
      let of : AreCompletionsOf round.number round.ended (completions_in round.number xs) =
      all_contains (λ (r : Round). AreCompletionsOf r.number r.ended (completions_in r.number xs)) rounds round are.each there in
      record {
        finished = all_of (Contains (map (completion_of round.number) round.ended)) (completions_in round.number ys)
            (λ c kept.
            let k = contains_kept (λ (d : Completion). d.round == round.number) ys c kept in
            all_contains (Contains (map (completion_of round.number) round.ended)) (completions_in round.number xs) c of.finished
            (kept_contains (λ (d : Completion). d.round == round.number) xs c (back c k.0) k.1));
        all = all_of (Contains (completions_in round.number ys)) (map (completion_of round.number) round.ended)
            (λ c ended.
            kept_contains (λ (d : Completion). d.round == round.number) ys c (on c (completes requests rounds xs round c are there ended))
            (eq-eqb c.round round.number (in_round 0 round c ended)));
      });
  once = once;
  after_children = children;
}

-- ---- errors

error_first : (es : List Ended) (error : Option Errno) (e : Ended) → Contains es e → AllByRecursion (λ (d : Ended). d.error ≡ error) es → first_error es ≡ error
error_first [] error e there all = absurd (none_contained e there)
error_first (d ∷ es) error e there all = all.0

-- a completion is spelled by its request and its round
pub spelled_is : (requests : List Request) (rounds : List Round) (due : List Completion) (c : Completion) → AreCompletions requests rounds due → Contains due c
    → completion_spelled rounds c.round c.request ≡ c
spelled_is requests rounds due c are there =
    let of = of_round requests rounds due c are there in
    let some = contains_mapped (completion_of of.round.number) of.round.ended c of.ended in
    let request : some.0.request.number ≡ c.request = ap (λ (d : Completion). d.request) some.2 in
    let among : Contains (ended_in c.round rounds) some.0 =
    flat_contains (λ (r : Round). r.ended) (filter (is_round_of c.round) rounds) of.round some.0
    (kept_contains (is_round_of c.round) rounds of.round of.there (eq-eqb of.round.number c.round of.number)) some.1 in
    let kept = kept_contains (λ (e : Ended). e.request.number == c.request) (ended_in c.round rounds) some.0 among (eq-eqb some.0.request.number c.request request) in
    ap (λ (error : Option Errno). record { request = c.request; round = c.round; error = error })
    (error_first (filter (λ (e : Ended). e.request.number == c.request) (ended_in c.round rounds)) c.error some.0 kept
    (all_of (λ (d : Ended). d.error ≡ c.error) (filter (λ (e : Ended). e.request.number == c.request) (ended_in c.round rounds)) error_is))
  where
    error_is : (e : Ended) → Contains (filter (λ (d : Ended). d.request.number == c.request) (ended_in c.round rounds)) e → e.error ≡ c.error
    error_is e kept =
        let k = contains_kept (λ (d : Ended). d.request.number == c.request) (ended_in c.round rounds) e kept in
        let from = contains_flat (λ (r : Round). r.ended) (filter (is_round_of c.round) rounds) e k.0 in
        let round = contains_kept (is_round_of c.round) rounds from.0 from.1 in
        let done = completes requests rounds due from.0 (completion_of from.0.number e) are round.0 (map_contains (completion_of from.0.number) from.0.ended e from.2) in
        ap (λ (d : Completion). d.error) (one_of due (completion_of from.0.number e) c are.once done there (eqb-true e.request.number c.request k.1))

-- each of those that a report spells has the error of its round
spelled_each : (rounds : List Round) (n : ℕ) (order : List ℕ) → AllByRecursion (λ (c : Completion). c ≡ completion_spelled rounds c.round c.request) (map (completion_spelled rounds n) order)
spelled_each rounds n [] = tt
spelled_each rounds n (request ∷ order) = (refl, spelled_each rounds n order)

spelled_all : (rounds : List Round) (n : ℕ) (orders : List (List ℕ)) → AllByRecursion (λ (c : Completion). c ≡ completion_spelled rounds c.round c.request) (completions_from rounds n orders)
spelled_all rounds n [] = tt
spelled_all rounds n (order ∷ orders) =
    all_append (λ (c : Completion). c ≡ completion_spelled rounds c.round c.request) (map (completion_spelled rounds n) order) (completions_from rounds (n + 1) orders)
    (spelled_each rounds n order) (spelled_all rounds (n + 1) orders)

-- ---- both

-- all that are due are among these
abbrev pub AllMet : List Completion → List Completion → Type 0
AllMet due cs = AllByRecursion (λ (c : Completion). is_among (requests_in cs) c.request ≡ true) due

-- one that is due in the round is one of those that are due
due_contained : (requests : List Request) (rounds : List Round) (due : List Completion) (c : Completion) → AreCompletions requests rounds due
    → c ≡ completion_spelled rounds c.round c.request → due_in due c.request ≡ Due c.round → Contains due c
due_contained requests rounds due c are spelled is =
    let by : IsDueFor due c.request c.round = due_for due c.request c.round is in
    let same : by.completion ≡ c =
    sym (spelled_is requests rounds due by.completion are by.there)
    ∙ ap (λ n. completion_spelled rounds n by.completion.request) by.round_is ∙ ap (completion_spelled rounds c.round) by.request ∙ sym spelled in
    subst (Contains due) same by.there

-- where all that are due were met, all of them are there
all_there : (due cs : List Completion) → CompleteOnce due → ((c : Completion) → Contains cs c → Contains due c) → AllMet due cs → (c : Completion) → Contains due c → Contains cs c
all_there due cs once back all c there =
    let some = any_contained (λ n. n == c.request) (requests_in cs) (all_contains (λ (d : Completion). is_among (requests_in cs) d.request ≡ true) due c all there) in
    let named = contains_mapped (λ (d : Completion). d.request) cs some.0 some.1 in
    let same : named.0.request ≡ c.request = named.2 ∙ eqb-true some.0 c.request some.2 in
    subst (Contains cs) (one_of due named.0 c once (back named.0 named.1) there same) named.1

pub matched_lawful : (items : List Item) (rounds : List Round) (due : List Completion) (orders : List (List ℕ)) → AreRising (requests_of items)
    → AreCompletions (requests_of items) rounds due → are_good due items [] (completions_from rounds 1 orders) ≡ true → AllMet due (completions_from rounds 1 orders)
    → AreCompletions (requests_of items) rounds (completions_from rounds 1 orders)
matched_lawful items rounds due orders rising are good all =
    let cs : List Completion = completions_from rounds 1 orders in
    let met = (good_met due items [] cs rising good).1 in
    let back : (c : Completion) → Contains cs c → Contains due c =
    λ c there.
    due_contained (requests_of items) rounds due c are
    (all_contains (λ (d : Completion). d ≡ completion_spelled rounds d.round d.request) cs c (spelled_all rounds 1 orders) there)
    (all_contains (λ (d : Completion). due_in due d.request ≡ Due d.round) cs c met.each there) in
    lawful_from (requests_of items) rounds due cs are (λ c there. all_there due cs are.once back all c there) back met.once met.children

pub lawful_matched : (items : List Item) (rounds : List Round) (due : List Completion) (cs : List Completion) → AreRising (requests_of items)
    → AreCompletions (requests_of items) rounds due → AreCompletions (requests_of items) rounds cs
    → (are_good due items [] cs ≡ true) × AllMet due cs
lawful_matched items rounds due cs rising are also = (
  met_good due items [] cs rising (all_of (IsApart items []) cs (λ c there. record { itself = refl; parent = nothing (parent_of items c.request) }))
      (all_of (λ (c : Completion). due_in due c.request ≡ Due c.round) cs
      (λ c there. due_is due c are.once (same_completions (requests_of items) rounds cs due c also are there)))
      also.once also.after_children,
  all_of (λ (c : Completion). is_among (requests_in cs) c.request ≡ true) due
      (λ c there.
      contained_any (λ n. n == c.request) (requests_in cs) c.request
      (map_contains (λ (d : Completion). d.request) cs c (same_completions (requests_of items) rounds due cs c are also there)) (eq-eqb c.request c.request refl)),
)
  where
    nothing : (parent : Option ℕ) → parent_done [] parent ≡ false
    nothing None = refl
    nothing (Some p) = refl

-- ---- the marks at the end

settled_at : (marks : List Mark) (n : ℕ) (mark : Mark) → list_all is_settled marks ≡ true → slice_get marks n ≡ Some mark → is_settled mark ≡ true
settled_at [] n mark all there = cc
settled_at (m ∷ marks) zero mark all there =
    let same : m ≡ mark = cc in
    ap is_settled (sym same) ∙ (and_parts (is_settled m) (list_all is_settled marks) all).0
settled_at (m ∷ marks) (suc n) mark all there = settled_at marks n mark (and_parts (is_settled m) (list_all is_settled marks) all).1 there

settled_all : (marks : List Mark) → ((n : ℕ) (mark : Mark) → slice_get marks n ≡ Some mark → is_settled mark ≡ true) → list_all is_settled marks ≡ true
settled_all [] each = refl
settled_all (m ∷ marks) each = and_from (is_settled m) (list_all is_settled marks) (each zero m refl) (settled_all marks (λ n mark there. each (suc n) mark there))

met_where : (t : Bool) (round : ℕ) → is_settled (cond t Met (Due round)) ≡ true → t ≡ true
met_where true round e = refl
met_where false round e = absurd (true≢false (sym e))

all_met : (due cs : List Completion) (len : ℕ) (next : List Mark) → CompleteOnce due → AllByRecursion (λ (d : Completion). d.request < len) due → HasMet due len (requests_in cs) next
    → list_all is_settled next ≡ true → AllMet due cs
all_met due cs len next once below has all =
    all_of (λ (c : Completion). is_among (requests_in cs) c.request ≡ true) due
    (λ c there.
    let small : c.request < len = all_contains (λ (d : Completion). d.request < len) due c below there in
    let mark : slice_get next c.request ≡ Some (cond (is_among (requests_in cs) c.request) Met (Due c.round)) =
    has.each c.request small ∙ ap (λ (m : Mark). Some (cond (is_among (requests_in cs) c.request) Met m)) (due_is due c once there) in
    met_where (is_among (requests_in cs) c.request) c.round (settled_at next c.request (cond (is_among (requests_in cs) c.request) Met (Due c.round)) all mark))

not_due : (mark : Mark) → ((round : ℕ) → mark ≡ Due round → ⊥) → is_settled mark ≡ true
not_due Never none = refl
not_due (Due round) none = absurd (none round refl)
not_due Met none = refl

settled_with : (t : Bool) (mark : Mark) → (t ≡ false → is_settled mark ≡ true) → is_settled (cond t Met mark) ≡ true
settled_with true mark e = refl
settled_with false mark e = e refl

met_all : (due cs : List Completion) (len : ℕ) (next : List Mark) → HasMet due len (requests_in cs) next → AllMet due cs → list_all is_settled next ≡ true
met_all due cs len next has all =
    settled_all next
    (λ n mark there.
    let long : length next ≡ len = has.long in
    let inside : n < length next = slice_get_within next n mark there in
    let is : Some mark ≡ Some (mark_of due (requests_in cs) n) = sym there ∙ has.each n (omega arith) in
    ap is_settled (same_Some mark (mark_of due (requests_in cs) n) is)
    ∙ settled_with (is_among (requests_in cs) n) (due_in due n) (λ absent. not_due (due_in due n) (λ round e.
    let by : IsDueFor due n round = due_for due n round e in
    let met = all_contains (λ (c : Completion). is_among (requests_in cs) c.request ≡ true) due by.completion all by.there in
    both_ways (is_among (requests_in cs) n) absent (subst (λ m. is_among (requests_in cs) m ≡ true) by.request met))))

-- ---- without errors

meet_bare : (parents : List (Option ℕ)) (marks : List Mark) (cs : List Completion) → meet_each parents marks (map (λ (c : Completion). named c.round c.request) cs) ≡ meet_each parents marks cs
meet_bare parents marks [] = refl
meet_bare parents marks (c ∷ cs) = ap (λ o. cond (may_meet marks parents c.round c.request) o None) (meet_bare parents (set marks c.request Met) cs)

bare_order : (rounds : List Round) (n : ℕ) (order : List ℕ) → map (λ (c : Completion). named c.round c.request) (map (completion_spelled rounds n) order) ≡ map (completion_spelled [] n) order
bare_order rounds n [] = refl
bare_order rounds n (request ∷ order) = ap (λ (cs : List Completion). named n request ∷ cs) (bare_order rounds n order)

bare_from : (rounds : List Round) (n : ℕ) (orders : List (List ℕ)) → map (λ (c : Completion). named c.round c.request) (completions_from rounds n orders) ≡ completions_from [] n orders
bare_from rounds n [] = refl
bare_from rounds n (order ∷ orders) =
    map-append (λ (c : Completion). named c.round c.request) (map (completion_spelled rounds n) order) (completions_from rounds (n + 1) orders)
    ∙ ap (λ (cs : List Completion). cs ++ map (λ (c : Completion). named c.round c.request) (completions_from rounds (n + 1) orders)) (bare_order rounds n order)
    ∙ ap (λ (cs : List Completion). map (completion_spelled [] n) order ++ cs) (bare_from rounds (n + 1) orders)

same_meeting : (parents : List (Option ℕ)) (marks : List Mark) (rounds : List Round) (orders : List (List ℕ))
    → meet_each parents marks (completions_from rounds 1 orders) ≡ meet_each parents marks (completions_from [] 1 orders)
same_meeting parents marks rounds orders =
    sym (meet_bare parents marks (completions_from rounds 1 orders)) ∙ ap (meet_each parents marks) (bare_from rounds 1 orders)

-- ---- the comparer

-- the tables that the comparer makes
pub record AreTables (items : List Item) (due : List Completion) (len : ℕ) (marks : List Mark) (parents : List (Option ℕ)) : Type 0 where
  pub below : AllByRecursion (λ (d : Completion). d.request < len) due
  pub long : length marks ≡ len
  pub each : AreMarksOf due marks len
  pub known : AreParentsOf items parents len

meets_as : (items : List Item) (due : List Completion) (len : ℕ) (marks : List Mark) (parents : List (Option ℕ)) (cs : List Completion) → AreTables items due len marks parents
    → IsMetAs due len [] parents marks cs (are_good due items [] cs)
meets_as items due len marks parents cs tables =
    meets due items len [] marks parents cs tables.below tables.known (record { long = tables.long; each = tables.each; below = tt })

some_none : {X : Type 0} (x : X) → Some x ≡ None → ⊥
some_none x e = cc

-- what the comparer answers is exact
abbrev pub IsExact : List Item → List Completion → List (List ℕ) → Bool → Type 0
IsExact items due orders matched =
    (rounds : List Round) → AreCompletions (requests_of items) rounds due
    → (IsTrue matched ↔ AreCompletions (requests_of items) rounds (completions_from rounds 1 orders))

-- where one can't be met they aren't lawful
pub unmet : (items : List Item) (due : List Completion) (len : ℕ) (marks : List Mark) (parents : List (Option ℕ)) (orders : List (List ℕ)) → AreRising (requests_of items)
    → AreTables items due len marks parents → meet_each parents marks (completions_from [] 1 orders) ≡ None → IsExact items due orders false
unmet items due len marks parents orders rising tables none = λ rounds are.
    let cs : List Completion = completions_from rounds 1 orders in
    let stopped : meet_each parents marks cs ≡ None = same_meeting parents marks rounds orders ∙ none in (
      (λ yes. absurd (true≢false (sym yes))),
      (λ lawful.
          let good = (lawful_matched items rounds due cs rising are lawful).0 in
          let next = (meets_as items due len marks parents cs tables).on good in
          absurd (some_none next.0 (sym next.1 ∙ stopped))),
    )

-- where each is met they are lawful exactly where nothing is due any more
pub all_settled_is : (items : List Item) (due : List Completion) (len : ℕ) (marks next : List Mark) (parents : List (Option ℕ)) (orders : List (List ℕ)) → AreRising (requests_of items)
    → AreTables items due len marks parents → meet_each parents marks (completions_from [] 1 orders) ≡ Some next → IsExact items due orders (list_all is_settled next)
all_settled_is items due len marks next parents orders rising tables met = λ rounds are. go rounds are
  where
    go : (rounds : List Round) → AreCompletions (requests_of items) rounds due
        → IsTrue (list_all is_settled next) ↔ AreCompletions (requests_of items) rounds (completions_from rounds 1 orders)
    go rounds are =
        let cs : List Completion = completions_from rounds 1 orders in
        let came = meets_as items due len marks parents cs tables in
        let here : meet_each parents marks cs ≡ Some next = same_meeting parents marks rounds orders ∙ met in
        let good : are_good due items [] cs ≡ true =
        true_from_ne_false (are_good due items [] cs) (λ bad. some_none next (sym here ∙ came.off bad)) in
        let then = came.on good in
        let same : then.0 ≡ next = same_Some then.0 next (sym then.1 ∙ here) in
        let has : HasMet due len (requests_in cs) next = subst (HasMet due len (requests_in cs)) same then.2 in (
          (λ all. matched_lawful items rounds due orders rising are good (all_met due cs len next are.once tables.below has all)),
          (λ lawful. met_all due cs len next has (lawful_matched items rounds due cs rising are lawful).1),
        )

-- ---- round by round

-- a round whose orders were met, and those behind it
next_with : (t : Bool) (first second third : Option (List Mark)) (next : List Mark) → cond t first None ≡ Some next → (first ≡ Some next → second ≡ third) → cond t second None ≡ third
next_with true first second third next met then = then met
next_with false first second third next met then = absurd (some_none next (sym met))

pub round_next : (parents : List (Option ℕ)) (marks next : List Mark) (n : ℕ) (order : List ℕ) (rest : List Completion)
    → meet_each parents marks (map (named n) order) ≡ Some next → meet_each parents marks (map (named n) order ++ rest) ≡ meet_each parents next rest
round_next parents marks next n [] rest met = ap (λ ms. meet_each parents ms rest) (same_Some marks next met)
round_next parents marks next n (request ∷ order) rest met =
    next_with (may_meet marks parents n request) (meet_each parents (set marks request Met) (map (named n) order)) (meet_each parents (set marks request Met) (map (named n) order ++ rest))
    (meet_each parents next rest) next met (λ further. round_next parents (set marks request Met) next n order rest further)

stops_with : (t : Bool) (first second : Option (List Mark)) → cond t first None ≡ None → (first ≡ None → second ≡ None) → cond t second None ≡ None
stops_with true first second none then = then none
stops_with false first second none then = refl

pub round_stops : (parents : List (Option ℕ)) (marks : List Mark) (n : ℕ) (order : List ℕ) (rest : List Completion)
    → meet_each parents marks (map (named n) order) ≡ None → meet_each parents marks (map (named n) order ++ rest) ≡ None
round_stops parents marks n [] rest none = absurd (some_none marks none)
round_stops parents marks n (request ∷ order) rest none =
    stops_with (may_meet marks parents n request) (meet_each parents (set marks request Met) (map (named n) order)) (meet_each parents (set marks request Met) (map (named n) order ++ rest))
    none (λ further. round_stops parents (set marks request Met) n order rest further)

-- a round that was met, before these orders
pub step_met : (parents : List (Option ℕ)) (marks next : List Mark) (order : List ℕ) (orders : List (List ℕ)) (round : ℕ) → meet_each parents marks (map (named (round + 1)) order) ≡ Some next
    → meet_each parents marks (completions_from [] (round + 1) (order ∷ orders)) ≡ meet_each parents next (completions_from [] (round + 1 + 1) orders)
step_met parents marks next order orders round met = round_next parents marks next (round + 1) order (completions_from [] (round + 1 + 1) orders) met

-- a round that wasn't
pub step_unmet : (parents : List (Option ℕ)) (marks : List Mark) (order : List ℕ) (orders : List (List ℕ)) (round : ℕ) → meet_each parents marks (map (named (round + 1)) order) ≡ None
    → meet_each parents marks (completions_from [] (round + 1) (order ∷ orders)) ≡ None
step_unmet parents marks order orders round none = round_stops parents marks (round + 1) order (completions_from [] (round + 1 + 1) orders) none

-- what is written through a slice of all of a table
pub written : (len : ℕ) (new old : List Mark) → length new ≡ length old → length old ≡ len → take len (new ++ drop (length new) old) ≡ new
written len new old long is =
    ap (λ ms. take len (new ++ ms)) (drop_all (length new) old (omega arith)) ∙ ap (take len) (append-nil new) ∙ take_all len new (omega arith)

-- the same of a table and a list that are read through slices
pub met_by : (read parents : List (Option ℕ)) (old marks next : List Mark) (seen order : List ℕ) (n : ℕ) → read ≡ parents → old ≡ marks → seen ≡ order
    → meet_each read old (map (named n) seen) ≡ Some next → meet_each parents marks (map (named n) order) ≡ Some next
met_by read parents old marks next seen order n is same so met =
    ap (λ (ps : List (Option ℕ)). meet_each ps marks (map (named n) order)) (sym is) ∙ ap (λ (ms : List Mark). meet_each read ms (map (named n) order)) (sym same)
    ∙ ap (λ (ns : List ℕ). meet_each read old (map (named n) ns)) (sym so) ∙ met

pub unmet_by : (read parents : List (Option ℕ)) (old marks : List Mark) (seen order : List ℕ) (n : ℕ) → read ≡ parents → old ≡ marks → seen ≡ order
    → meet_each read old (map (named n) seen) ≡ None → meet_each parents marks (map (named n) order) ≡ None
unmet_by read parents old marks seen order n is same so none =
    ap (λ (ps : List (Option ℕ)). meet_each ps marks (map (named n) order)) (sym is) ∙ ap (λ (ms : List Mark). meet_each read ms (map (named n) order)) (sym same)
    ∙ ap (λ (ns : List ℕ). meet_each read old (map (named n) ns)) (sym so) ∙ none

-- ---- how many rounds are left

-- so many were read of them and so many are left: where those that are left are few, all are
pub few_rounds : (read left all : ℕ) → read + left ≡ all → left < 2 ^ 32 → (0 < read → all < 2 ^ 32) → all < 2 ^ 32
few_rounds zero left all is few before = omega arith
few_rounds (suc read) left all is few before = before (omega arith)
