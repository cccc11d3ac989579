-- The completions of a batch's round are those of the requests that finished in it.
use Rattle.std.proofs.Common.{◌≡◌, ℕ, List, [], ◌∷◌, ◌++◌, map, reverse, Option, Some, None, refl, sym, ap, ◌∙◌, subst, inl, inr, Contains}
use Rattle.std.proofs.lemmas.List.{reverse-append}
use Rattle.std.specs.List.{AllByRecursion}
use Rattle.zio_types.specs.declared.error.Errno.{Errno}
use Rattle.zio_types.specs.declared.journal.Completion.{Completion}
use Rattle.zio_script.specs.declared.script.Request.{Request}
use Rattle.zio_cksum.proofs.AllLemmas.{all_append, all_contained, all_contains, all_map, all_weaker}
use Rattle.zio_gang.specs.Attempts.{Ended}
use Rattle.zio_gang.specs.Journals.{AreCompletionsOf, completion_of}
use Rattle.zio_gang.specs.Rounds.{answered_with}
use Rattle.zio_course.specs.declared.runner.RequestEnd.{RequestEnd}
use Rattle.zio_course.specs.Answered.{answer_of, answered_in}
use Rattle.zio_course.specs.Runners.{completion_for, finished_by_number, finished_of}
use Rattle.zio_course.proofs.SortLemmas.{IsOneOf, all_merge, all_one, one_all, one_itself, one_left, one_map, one_merge, one_right}

pub contains_one : {X : Type 0} (x : X) (xs : List X) → Contains xs x → IsOneOf x xs
contains_one x xs there = all_contains (λ y. IsOneOf y xs) xs x (one_itself xs) there

pub one_contains : {X : Type 0} (x : X) (xs : List X) → IsOneOf x xs → Contains xs x
one_contains x xs at = one_all (Contains xs) x xs (all_contained xs) at

-- ---- what was answered

-- each of these was answered with its number's error
abbrev pub IsAnswered : (ℕ → Option Errno) → Ended → Type 0
IsAnswered error e = (x : Errno) × (error e.request.number ≡ Some x) × (e ≡ answered_with x e.request)

-- each request that has an error was answered
abbrev pub IsAmongAnswered : (ℕ → Option Errno) → List Ended → Request → Type 0
IsAmongAnswered error answered r = (x : Errno) → error r.number ≡ Some x → IsOneOf (answered_with x r) answered

answer_in : (error : ℕ → Option Errno) (round : ℕ) (answered : List Ended) (o : Option Errno) (r : Request) → error r.number ≡ o
    → IsAmongAnswered error answered r → AllByRecursion (λ c. IsOneOf c (map (completion_of round) answered)) (answer_of o round r)
answer_in error round answered None r is among = tt
answer_in error round answered (Some x) r is among = (one_map (completion_of round) (answered_with x r) answered (among x is), tt)

answers_in : (error : ℕ → Option Errno) (round : ℕ) (answered : List Ended) (requests : List Request) → AllByRecursion (IsAmongAnswered error answered) requests
    → AllByRecursion (λ c. IsOneOf c (map (completion_of round) answered)) (answered_in error round requests)
answers_in error round answered [] h = tt
answers_in error round answered (r ∷ rs) h =
    all_append (λ c. IsOneOf c (map (completion_of round) answered)) (answer_of (error r.number) round r) (answered_in error round rs)
    (answer_in error round answered (error r.number) r refl h.0) (answers_in error round answered rs h.1)

one_answer : (error : ℕ → Option Errno) (round : ℕ) (requests : List Request) (r : Request) (x : Errno) → IsOneOf r requests → error r.number ≡ Some x
    → IsOneOf (completion_of round (answered_with x r)) (answered_in error round requests)
one_answer error round [] r x at is = absurd at
one_answer error round (q ∷ rs) r x (inl same) is =
    one_left (completion_of round (answered_with x r)) (answer_of (error q.number) round q) (answered_in error round rs)
    (subst (λ (o : Option Errno). IsOneOf (completion_of round (answered_with x r)) (answer_of o round q)) (sym (ap (λ (y : Request). error y.number) same ∙ is))
    (inl (ap (λ (y : Request). completion_of round (answered_with x y)) same)))
one_answer error round (q ∷ rs) r x (inr at) is =
    one_right (completion_of round (answered_with x r)) (answer_of (error q.number) round q) (answered_in error round rs) (one_answer error round rs r x at is)

all_reverse : {X : Type 0} (P : X → Type 0) (xs : List X) → AllByRecursion P xs → AllByRecursion P (reverse xs)
all_reverse P [] h = tt
all_reverse P (x ∷ xs) h = subst (AllByRecursion P) (sym (reverse-append (x ∷ []) xs)) (all_append P (reverse xs) (x ∷ []) (all_reverse P xs h.1) (h.0, tt))

one_reverse : {X : Type 0} (x : X) (xs : List X) → IsOneOf x xs → IsOneOf x (reverse xs)
one_reverse x [] at = absurd at
one_reverse x (y ∷ ys) (inl same) = subst (IsOneOf x) (sym (reverse-append (y ∷ []) ys)) (one_right x (reverse ys) (y ∷ []) (inl same))
one_reverse x (y ∷ ys) (inr at) = subst (IsOneOf x) (sym (reverse-append (y ∷ []) ys)) (one_left x (reverse ys) (y ∷ []) (one_reverse x ys at))

-- ---- what finished

map_both : {X Y : Type 0} (f : X → Y) (xs ys : List X) → map f (xs ++ ys) ≡ map f xs ++ map f ys
map_both f [] ys = refl
map_both f (x ∷ xs) ys = ap (λ (zs : List _). f x ∷ zs) (map_both f xs ys)

finish_in : (round : ℕ) (ended : List Ended) → AllByRecursion (λ (f : RequestEnd). IsOneOf (completion_for round f) (map (completion_of round) ended)) (finished_by_number ended)
finish_in round ended =
    all_merge (λ (f : RequestEnd). f.request) (λ (f : RequestEnd). IsOneOf (completion_for round f) (map (completion_of round) ended)) (map finished_of ended)
    (all_map (λ (f : RequestEnd). IsOneOf (completion_for round f) (map (completion_of round) ended)) finished_of ended
    (all_one (λ (e : Ended). IsOneOf (completion_for round (finished_of e)) (map (completion_of round) ended)) ended
    (λ e at. one_map (completion_of round) e ended at)))

-- The completions of a round: those of what was answered, the last first, and then those of what finished.
pub round_completions : (error : ℕ → Option Errno) (round : ℕ) (requests : List Request) (answered ended : List Ended) (done : List Completion)
    → AllByRecursion (IsAnswered error) answered → AllByRecursion (λ (e : Ended). IsOneOf e.request requests) answered
    → AllByRecursion (IsAmongAnswered error answered) requests
    → AllByRecursion (λ c. Contains (map (completion_for round) (finished_by_number ended)) c) done
    → AllByRecursion (λ c. Contains done c) (map (completion_for round) (finished_by_number ended))
    → AreCompletionsOf round (answered ++ ended) (reverse (answered_in error round requests) ++ done)
round_completions error round requests answered ended done are among all completed every =
    let ends : List Completion = map (completion_of round) (answered ++ ended) in
    let ends_are : ends ≡ map (completion_of round) answered ++ map (completion_of round) ended = map_both (completion_of round) answered ended in
    let given : List Completion = reverse (answered_in error round requests) in
    let here : (c : Completion) → IsOneOf c (map (completion_of round) answered) → Contains ends c = λ c at.
    one_contains c ends (subst (IsOneOf c) (sym ends_are) (one_left c (map (completion_of round) answered) (map (completion_of round) ended) at)) in
    let there : (c : Completion) → IsOneOf c (map (completion_of round) ended) → Contains ends c = λ c at.
    one_contains c ends (subst (IsOneOf c) (sym ends_are) (one_right c (map (completion_of round) answered) (map (completion_of round) ended) at)) in
    let finish : AllByRecursion (λ c. IsOneOf c (map (completion_of round) ended)) (map (completion_for round) (finished_by_number ended)) =
    all_map (λ c. IsOneOf c (map (completion_of round) ended)) (completion_for round) (finished_by_number ended) (finish_in round ended) in
    record {
      finished = all_append (λ c. Contains ends c) given done
          (all_reverse (λ c. Contains ends c) (answered_in error round requests)
          (all_weaker (λ c. IsOneOf c (map (completion_of round) answered)) (λ c. Contains ends c) (answered_in error round requests) here
          (answers_in error round answered requests all)))
          (all_weaker (λ c. Contains (map (completion_for round) (finished_by_number ended)) c) (λ c. Contains ends c) done
          (λ c has. there c (one_all (λ d. IsOneOf d (map (completion_of round) ended)) c (map (completion_for round) (finished_by_number ended)) finish
          (contains_one c (map (completion_for round) (finished_by_number ended)) has))) completed);
      all = subst (AllByRecursion (λ c. Contains (given ++ done) c)) (sym ends_are)
          (all_append (λ c. Contains (given ++ done) c) (map (completion_of round) answered) (map (completion_of round) ended)
          (all_map (λ c. Contains (given ++ done) c) (completion_of round) answered
          (all_one (λ (e : Ended). Contains (given ++ done) (completion_of round e)) answered (λ e at.
          (let is = one_all (IsAnswered error) e answered are at in
          let member : IsOneOf e.request requests = one_all (λ (x : Ended). IsOneOf x.request requests) e answered among at in
          subst (λ (x : Ended). Contains (given ++ done) (completion_of round x)) (sym is.2)
          (one_contains _ (given ++ done) (one_left _ given done
          (one_reverse _ (answered_in error round requests) (one_answer error round requests e.request is.0 member is.1))))))))
          (all_map (λ c. Contains (given ++ done) c) (completion_of round) ended
          (all_one (λ (e : Ended). Contains (given ++ done) (completion_of round e)) ended (λ e at.
          one_contains (completion_of round e) (given ++ done) (one_right (completion_of round e) given done
          (contains_one (completion_of round e) done
          (one_all (λ c. Contains done c) (completion_of round e) (map (completion_for round) (finished_by_number ended)) every
          (one_map (completion_for round) (finished_of e) (finished_by_number ended)
          (one_merge (λ (f : RequestEnd). f.request) (finished_of e) (map finished_of ended) (one_map finished_of e ended at))))))))));
    }
