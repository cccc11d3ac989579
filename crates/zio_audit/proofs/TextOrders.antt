-- In a script's run no request finishes in a later round than the one that it stands under.
use Rattle.std.proofs.Common.{◌≡◌, ◌≤◌, ◌+◌, ◌==◌, ◌||◌, ◌++◌, ℕ, List, [], ◌∷◌, map, refl, ap, ◌∙◌, Bool, true, false, cond, find, arith, eqb-true, eq-eqb, Option, Some, None}
use Rattle.std.specs.List.{AllByRecursion}
use Rattle.zio_types.specs.declared.request.Kind.{Kind}
use Rattle.zio_types.specs.declared.error.Errno.{Errno}
use Rattle.zio_cksum.proofs.AllLemmas.{all_append, all_map, all_unmap, all_weaker}
use Rattle.zio_script.specs.declared.script.Request.{Request}
use Rattle.zio_script.specs.Accepted.{AreBehindParents, HasParentIn}
use Rattle.zio_script.specs.Requests.{is_under_number, kind_of}
use Rattle.zio_gang.specs.Attempts.{Ended, Pending}
use Rattle.zio_gang.specs.Rounds.{Admitted, Bound, Ran, admission, admit_with, admitted, is_bound, pending, pending_trees, settle_each, trees_of}
use Rattle.zio_gang.specs.Runs.{Batch, Course, Event, Plan, Round, State, run_batch, run_suspended, terms_of}
use Rattle.zio_gang.specs.Runs.Event.{RanRound, HeldBatch}
use Rattle.zio_gang.proofs.FateLemmas.{admitted_sum, batch_held, of_ended, of_pending, of_trees, pending_sum, tally, tally-append, trees_sum}
use Rattle.zio_gang.proofs.FateRuns.{IsTreed}
use Rattle.zio_course.specs.Parents.{AreParented, has_numbered}
use Rattle.zio_course.proofs.ParentLemmas.{batch_parented, ran_parented}

-- ---- what is counted of requests

-- of the requests that a run has still to do with: what is counted of each, summed up
abbrev pub Weight : Type 0
Weight = (Request → ℕ) → ℕ

-- one where it is so
abbrev pub counted : Bool → ℕ
counted true = 1
counted false = 0

-- one where the request has the number
abbrev pub with_number : ℕ → Request → ℕ
with_number n r = counted (r.number == n)

-- one where it stands under the number
abbrev pub under : ℕ → Request → ℕ
under n r = counted (is_under_number r.under n)

-- where none has a number, none stands under it
abbrev pub IsClosed : Weight → Type 0
IsClosed w = (n : ℕ) → w (with_number n) ≡ 0 → w (under n) ≡ 0

-- no number stands twice
abbrev pub IsSingle : Weight → Type 0
IsSingle w = (n : ℕ) → w (with_number n) ≤ 1

-- ---- parents

-- what isn't under a number isn't counted
none_under : (o : Option ℕ) (n : ℕ) → (o ≡ Some n → ⊥) → counted (is_under_number o n) ≡ 0
none_under None n other = refl
none_under (Some p) n other = go (p == n) refl
  where
    go : (b : Bool) → (p == n) ≡ b → counted b ≡ 0
    go true is = absurd (other (ap Some (eqb-true p n is)))
    go false is = refl

-- one of two is counted
some_step : (b rest : Bool) (m : ℕ) → (b || rest) ≡ true → (rest ≡ true → 1 ≤ m) → 1 ≤ counted b + m
some_step true rest m is later = omega arith
some_step false rest m is later = let more : 1 ≤ m = later is in omega arith

-- one with the number is counted
some_numbered : (n : ℕ) (ps : List Pending) → has_numbered n ps ≡ true → 1 ≤ of_pending (with_number n) ps
some_numbered n [] is = absurd (let none = is in cc)
some_numbered n (p ∷ ps) is = some_step (p.request.number == n) (has_numbered n ps) (of_pending (with_number n) ps) is (some_numbered n ps)

-- a tree in which parents come behind children is closed
tree_closed : (tree : List Pending) → AreParented tree → IsClosed (λ f. of_pending f tree)
tree_closed [] parented n none = refl
tree_closed (p ∷ ps) parented n none =
    let rest : of_pending (with_number n) ps ≡ 0 = omega arith in
    let later : of_pending (under n) ps ≡ 0 = tree_closed ps parented.1 n rest in
    let here : under n p.request ≡ 0 =
    none_under p.request.under n (λ is. let some : 1 ≤ of_pending (with_number n) ps = some_numbered n ps (parented.0 n is) in absurd (omega arith)) in
    omega arith

-- trees in which parents come behind children are closed
pub trees_closed : (trees : List (List Pending)) → AllByRecursion AreParented trees → IsClosed (λ f. of_trees f trees)
trees_closed [] parented n none = refl
trees_closed (tree ∷ trees) parented n none =
    let first : of_pending (with_number n) tree ≡ 0 = omega arith in
    let rest : of_trees (with_number n) trees ≡ 0 = omega arith in
    omega (arith, tree_closed tree parented.0 n first, trees_closed trees parented.1 n rest)

-- one that is found is counted, or one behind it
found_step : (b : Bool) (n m : ℕ) (x : Request) (xs : List Request) (p : Request) → cond b (Some x) (find (λ (r : Request). r.number == n) xs) ≡ Some p
    → (find (λ (r : Request). r.number == n) xs ≡ Some p → 1 ≤ m) → 1 ≤ counted b + m
found_step true n m x xs p is later = omega arith
found_step false n m x xs p is later = let more : 1 ≤ m = later is in omega arith

-- one that is found is counted
some_found : (n : ℕ) (xs : List Request) (p : Request) → find (λ (r : Request). r.number == n) xs ≡ Some p → 1 ≤ tally (with_number n) xs
some_found n [] p is = absurd (let none = is in cc)
some_found n (x ∷ xs) p is = found_step (x.number == n) n (tally (with_number n) xs) x xs p is (some_found n xs p)

-- a request whose parent would have the number is not there
parent_zero : (before : List Request) (kind : Kind) (o : Option ℕ) (n : ℕ) → HasParentIn before kind o → tally (with_number n) before ≡ 0 → counted (is_under_number o n) ≡ 0
parent_zero before kind None n parent none = refl
parent_zero before kind (Some p) n parent none =
    none_under (Some p) n (λ is.
    let same : p ≡ n = (let e = is in cc) in
    let some : 1 ≤ tally (with_number p) before = some_found p before parent.parent parent.found in
    let here : tally (with_number p) before ≡ 0 = ap (λ m. tally (with_number m) before) same ∙ none in
    absurd (omega arith))

-- nor are those behind it
behind_closed : (before requests : List Request) (n : ℕ) → AreBehindParents before requests → tally (with_number n) before ≡ 0 → tally (with_number n) requests ≡ 0 → tally (under n) requests ≡ 0
behind_closed before [] n parents none also = refl
behind_closed before (r ∷ requests) n parents none also =
    let here : with_number n r ≡ 0 = omega arith in
    let rest : tally (with_number n) requests ≡ 0 = omega arith in
    let one : under n r ≡ 0 = parent_zero before (kind_of r.work) r.under n parents.0 none in
    let both : tally (with_number n) (before ++ r ∷ []) ≡ 0 = omega (arith, tally-append (with_number n) before (r ∷ [])) in
    omega (arith, behind_closed (before ++ r ∷ []) requests n parents.1 both rest)

-- a batch in which parents come before children is closed
batch_closed : (batch : List Request) → AreBehindParents [] batch → IsClosed (λ f. tally f batch)
batch_closed batch parents n none = behind_closed [] batch n parents refl none

-- so are batches in which they come before them
pub batches_closed : (batches : List (List Request)) → AllByRecursion IsTreed batches → IsClosed (λ f. tally (tally f) batches)
batches_closed [] treed n none = refl
batches_closed (batch ∷ batches) treed n none =
    let first : tally (with_number n) batch ≡ 0 = omega arith in
    let rest : tally (tally (with_number n)) batches ≡ 0 = omega arith in
    omega (arith, batch_closed batch treed.0.parents n first, batches_closed batches treed.1 n rest)

-- and both together
pub both_closed : (v w : Weight) → IsClosed v → IsClosed w → IsClosed (λ f. v f + w f)
both_closed v w h k n none =
    let first : v (with_number n) ≡ 0 = omega arith in
    let second : w (with_number n) ≡ 0 = omega arith in
    omega (arith, h n first, k n second)

-- ---- courses

-- of the requests that finished in these rounds
abbrev pub in_events : (Request → ℕ) → List Event → ℕ
in_events f [] = 0
in_events f (RanRound round ∷ events) = of_ended f round.ended + in_events f events
in_events f (HeldBatch batch ∷ events) = in_events f events

-- what is counted in both
events_both : (f : Request → ℕ) (xs ys : List Event) → in_events f (xs ++ ys) ≡ in_events f xs + in_events f ys
events_both f [] ys = omega arith
events_both f (RanRound round ∷ xs) ys = omega (arith, events_both f xs ys)
events_both f (HeldBatch batch ∷ xs) ys = events_both f xs ys

-- what stands under a request that finished in a round doesn't finish in a later one, and isn't among what is left
abbrev pub AreClosedTo : Weight → List Event → Type 0
AreClosedTo left [] = Unit {0}
AreClosedTo left (RanRound round ∷ events) =
    AllByRecursion (λ (e : Ended). in_events (under e.request.number) events + left (under e.request.number) ≡ 0) round.ended × AreClosedTo left events
AreClosedTo left (HeldBatch batch ∷ events) = AreClosedTo left events

-- a course takes what finishes in it from what there was
pub record IsFollowed (before left : Weight) (events : List Event) : Type 0 where
  pub sum : (f : Request → ℕ) → before f ≡ in_events f events + left f
  pub closed : AreClosedTo left events

-- the same where what is left is the same
closed_as : (v w : Weight) (events : List Event) → ((f : Request → ℕ) → v f ≡ w f) → AreClosedTo v events → AreClosedTo w events
closed_as v w [] same h = tt
closed_as v w (RanRound round ∷ events) same h = (
  all_weaker (λ (e : Ended). in_events (under e.request.number) events + v (under e.request.number) ≡ 0) (λ (e : Ended). in_events (under e.request.number) events + w (under e.request.number) ≡ 0)
      round.ended (λ e none. omega (arith, same (under e.request.number))) h.0,
  closed_as v w events same h.1,
)
closed_as v w (HeldBatch batch ∷ events) same h = closed_as v w events same h

-- the same of weights that are the same
pub followed_as : (before left other last : Weight) (events : List Event) → ((f : Request → ℕ) → other f ≡ before f) → ((f : Request → ℕ) → left f ≡ last f) → IsFollowed before left events
    → IsFollowed other last events
followed_as before left other last events first second h = record {
  sum = λ f. omega (arith, first f, second f, h.sum f);
  closed = closed_as left last events second h.closed;
}

-- and where more rounds follow
closed_then : (mid left : Weight) (xs ys : List Event) → ((f : Request → ℕ) → mid f ≡ in_events f ys + left f) → AreClosedTo mid xs → AreClosedTo left ys → AreClosedTo left (xs ++ ys)
closed_then mid left [] ys sum h k = k
closed_then mid left (RanRound round ∷ xs) ys sum h k = (
  all_weaker (λ (e : Ended). in_events (under e.request.number) xs + mid (under e.request.number) ≡ 0) (λ (e : Ended). in_events (under e.request.number) (xs ++ ys) + left (under e.request.number) ≡ 0)
      round.ended (λ e none. omega (arith, sum (under e.request.number), events_both (under e.request.number) xs ys)) h.0,
  closed_then mid left xs ys sum h.1 k,
)
closed_then mid left (HeldBatch batch ∷ xs) ys sum h k = closed_then mid left xs ys sum h k

-- one course behind another
pub followed_then : (before mid left : Weight) (xs ys : List Event) → IsFollowed before mid xs → IsFollowed mid left ys → IsFollowed before left (xs ++ ys)
followed_then before mid left xs ys h k = record {
  sum = λ f. omega (arith, h.sum f, k.sum f, events_both f xs ys);
  closed = closed_then mid left xs ys k.sum h.closed k.closed;
}

-- no round
pub still : (w : Weight) → IsFollowed w w []
still w = record { sum = λ f. omega arith; closed = tt }

-- each that finished is counted
each_there : (ended : List Ended) → AllByRecursion (λ (e : Ended). 1 ≤ of_ended (with_number e.request.number) ended) ended
each_there [] = tt
each_there (e ∷ ended) = (
  (let one : with_number e.request.number e.request ≡ 1 = ap counted (eq-eqb e.request.number e.request.number refl) in omega arith),
  all_weaker (λ (x : Ended). 1 ≤ of_ended (with_number x.request.number) ended) (λ (x : Ended). 1 ≤ of_ended (with_number x.request.number) (e ∷ ended)) ended
      (λ x there. omega arith) (each_there ended),
)

-- one round: a number that finished in it isn't left, so nothing that is left stands under it
pub one_followed : (before left : Weight) (round : Round) → IsSingle before → IsClosed left → ((f : Request → ℕ) → before f ≡ of_ended f round.ended + left f) → IsFollowed before left (RanRound round ∷ [])
one_followed before left round single closed sum = record {
  sum = λ f. omega (arith, sum f);
  closed = (
    all_weaker (λ (e : Ended). 1 ≤ of_ended (with_number e.request.number) round.ended) (λ (e : Ended). 0 + left (under e.request.number) ≡ 0) round.ended
        (λ e there.
        let none : left (with_number e.request.number) ≡ 0 = omega (arith, single e.request.number, sum (with_number e.request.number)) in
        omega (arith, closed e.request.number none))
        (each_there round.ended),
    tt,
  );
}

-- ---- rounds

-- what holds of trees holds of one that is let run
admit_all : (P : List Request → Type 0) (answer : Option Errno) (tree : List Request) (others : Admitted) → P tree → AllByRecursion P others.trees → AllByRecursion P (admit_with answer tree others).trees
admit_all P (Some e) tree others h k = k
admit_all P None tree others h k = (h, k)

-- and of all that are let run
admitted_all : (P : List Request → Type 0) (suspended : List (List Pending)) (bound : List ℕ → Bool) (trees : List (List Request)) → AllByRecursion P trees → AllByRecursion P (admitted suspended bound trees).trees
admitted_all P suspended bound [] h = tt
admitted_all P suspended bound (tree ∷ trees) h =
    admit_all P (admission suspended bound tree) tree (admitted suspended bound trees) h.0 (admitted_all P suspended bound trees h.1)

-- in those parents come behind children
admitted_parented : (suspended : List (List Pending)) (bound : Bound) (birth : ℕ) (requests : List Request)
    → AllByRecursion AreParented (pending_trees bound birth (admitted suspended (is_bound bound) (trees_of requests)).trees)
admitted_parented suspended bound birth requests =
    all_map AreParented (map (pending bound birth)) (admitted suspended (is_bound bound) (trees_of requests)).trees
    (admitted_all (λ tree. AreParented (map (pending bound birth) tree)) suspended (is_bound bound) (trees_of requests)
    (all_unmap AreParented (map (pending bound birth)) (trees_of requests) (batch_parented bound birth requests)))

-- a course from a state where this much else is left: what is suspended keeps its parents
pub record IsRound (before : Weight) (rest : Weight) (c : Course) : Type 0 where
  pub followed : IsFollowed before (λ f. of_trees f c.state.suspended + rest f) c.events
  pub parented : AllByRecursion AreParented c.state.suspended

-- a batch that runs
pub batch_round : (plan : Plan) (batch : Batch) (st : State) (rest : Weight) → IsTreed batch.requests → AllByRecursion AreParented st.suspended → IsClosed rest
    → IsSingle (λ f. (tally f batch.requests + of_trees f st.suspended) + rest f) → IsRound (λ f. (tally f batch.requests + of_trees f st.suspended) + rest f) rest (run_batch plan batch st)
batch_round plan batch st rest treed parented closed single =
    let a : Admitted = admitted st.suspended (is_bound st.bound) (trees_of batch.requests) in
    let trees : List (List Pending) = pending_trees st.bound batch.number a.trees in
    let ran : Ran = settle_each plan.journal (terms_of plan st) trees st.images in
    let left : AllByRecursion AreParented (st.suspended ++ ran.left) =
    all_append AreParented st.suspended ran.left parented
    (ran_parented plan.journal (terms_of plan st) trees st.images (admitted_parented st.suspended st.bound batch.number batch.requests)) in
    record {
      followed = one_followed (λ f. (tally f batch.requests + of_trees f st.suspended) + rest f) (λ f. of_trees f (st.suspended ++ ran.left) + rest f) _ single
          (both_closed (λ f. of_trees f (st.suspended ++ ran.left)) rest (trees_closed (st.suspended ++ ran.left) left) closed)
          (λ f. omega (
            arith,
            batch_held batch.requests treed.parents treed.rising f,
            admitted_sum f st.suspended (is_bound st.bound) (trees_of batch.requests),
            pending_sum f st.bound batch.number a.trees,
            trees_sum f plan.journal (terms_of plan st) trees st.images,
            tally-append (λ (e : Ended). f e.request) a.answered ran.ended,
            tally-append (of_pending f) st.suspended ran.left,
          ));
      parented = left;
    }

-- the suspended trees run
pub suspended_round : (plan : Plan) (st : State) (rest : Weight) → AllByRecursion AreParented st.suspended → IsClosed rest → IsSingle (λ f. of_trees f st.suspended + rest f)
    → IsRound (λ f. of_trees f st.suspended + rest f) rest (run_suspended plan st)
suspended_round plan st rest parented closed single =
    let ran : Ran = settle_each plan.journal (terms_of plan st) st.suspended st.images in
    let left : AllByRecursion AreParented ran.left = ran_parented plan.journal (terms_of plan st) st.suspended st.images parented in
    record {
      followed = one_followed (λ f. of_trees f st.suspended + rest f) (λ f. of_trees f ran.left + rest f) _ single
          (both_closed (λ f. of_trees f ran.left) rest (trees_closed ran.left left) closed) (λ f. omega (arith, trees_sum f plan.journal (terms_of plan st) st.suspended st.images));
      parented = left;
    }
