-- The round of a batch, or of the suspended trees, is that of the course: its lines are those of its report.
use Rattle.std.proofs.Common.{◌≡◌, ℕ, ◌+◌, ◌<◌, ◌≤◌, List, [], ◌∷◌, ◌++◌, map, Bool, true, false, ◌&&◌, not, cond, Option, Some, None, eqb, eqb-true, eq-eqb, refl, sym, ap, ◌∙◌, subst, inl, inr, arith}
use Rattle.std.proofs.lemmas.Bool.{false_from_ne_true}
use Rattle.std.specs.List.{AllByRecursion, flat_map}
use Rattle.zio_types.specs.declared.error.Errno.{Errno}
use Rattle.zio_types.specs.declared.place.Place.{Place}
use Rattle.zio_types.specs.declared.place.Top.{Top}
use Rattle.zio_types.specs.Choices.{Choice}
use Rattle.zio_types.specs.Places.{SamePlaces}
use Rattle.zio_faults.specs.declared.table.Row.{Row}
use Rattle.zio_script.specs.declared.script.Failmode.{Failmode}
use Rattle.zio_script.specs.declared.script.Request.{Request}
use Rattle.zio_script.specs.Accepted.{AreBehindParents, AreRising}
use Rattle.zio_script.specs.Requests.{makes_block, name_of, needs_block}
use Rattle.zio_cksum.specs.Images.{Images}
use Rattle.zio_cksum.proofs.AllLemmas.{all_append, all_map, all_weaker}
use Rattle.zio_gang.specs.declared.tree.Tree.{Tree}
use Rattle.zio_gang.specs.Attempts.{Ended, Pending, Terms}
use Rattle.zio_gang.specs.Journals.{choices_in}
use Rattle.zio_gang.specs.Rounds.{Admitted, Bound, Ran, admission, admit_with, admitted, answered_with, block_if, block_of, first_rule, is_blocked, lacks_block, passes, pending, pending_trees, settle_each, takes_bound, trees_of, used_places}
use Rattle.zio_gang.specs.Runs.{Plan, State, terms_of}
use Rattle.zio_gang.proofs.DependenceLemmas.{choices_law, used_law}
use Rattle.zio_gang.proofs.FateLemmas.{admitted_sum, batch_held, of_ended, of_trees, pending_sum, sum_flat, sum_map, tally, tally-append, trees_sum}
use Rattle.zio_report.specs.Reports.{by_number, line_of_ended, line_of_pending}
use Rattle.zio_course.specs.declared.runner.RequestEnd.{RequestEnd}
use Rattle.zio_course.specs.Runners.{AreRisingFrom, Standing, finished_by_number, finished_of, joined_trees, requests_in, terms_at}
use Rattle.zio_course.specs.Steps.{IsPlanOf}
use Rattle.zio_course.specs.Told.{finish_of, line_told}
use Rattle.zio_course.proofs.AdmittedLemmas.{Judge, any_same}
use Rattle.zio_course.proofs.EndLemmas.{all_in_trees}
use Rattle.zio_course.proofs.LineLemmas.{IsTold, IsToldWaiting, all_requests, ended_found, lines_are_told, told_answered, told_ended, told_waiting}
use Rattle.zio_course.proofs.RanLemmas.{AreTreesOf, ran_of}
use Rattle.zio_course.proofs.SortLemmas.{IsOneOf, all_merge, all_one, counted, one_all, one_if, one_itself}

-- ---- what a round depends on

terms_with : List Place → List Top → List Row → ℕ → Failmode → ℕ → Terms
terms_with used tops rows point failmode round = record {
  setting = record { tops = tops; rows = rows; point = point };
  failmode = failmode;
  round = round;
  used = used;
}

-- The course's next round is the runner's, where the bound blocks have the places in use, and the journal's choices of
-- the round are its own.
pub settled_at : (plan : Plan) (st : State) (s : Standing) (failmode : Failmode) (round point : ℕ) (entries : List Choice) (trees : List (List Pending)) (before : Images)
    → IsPlanOf s failmode plan → st.point ≡ point → st.rounds + 1 ≡ round → SamePlaces (used_places st.bound) s.live → st.images ≡ before
    → choices_in round plan.journal ≡ choices_in round entries
    → settle_each plan.journal (terms_of plan st) trees st.images ≡ settle_each entries (terms_at s failmode round point) trees before
unfolding terms_with
settled_at plan st s failmode round point entries trees before plan_is point_is round_is used images_is own =
    let t : Terms = terms_of plan st in
    let chosen : choices_in t.round plan.journal ≡ choices_in t.round entries =
    ap (λ (n : ℕ). choices_in n plan.journal) round_is ∙ (own ∙ ap (λ (n : ℕ). choices_in n entries) (sym round_is)) in
    choices_law plan.journal entries t trees st.images chosen
    ∙ (used_law entries t s.live trees st.images used
    ∙ (ap (λ (tops : List Top). settle_each entries (terms_with s.live tops plan.rows st.point plan.failmode (st.rounds + 1)) trees st.images) plan_is.tops
    ∙ (ap (λ (rows : List Row). settle_each entries (terms_with s.live s.tops rows st.point plan.failmode (st.rounds + 1)) trees st.images) plan_is.rows
    ∙ (ap (λ (n : ℕ). settle_each entries (terms_with s.live s.tops s.rows n plan.failmode (st.rounds + 1)) trees st.images) point_is
    ∙ (ap (λ (mode : Failmode). settle_each entries (terms_with s.live s.tops s.rows point mode (st.rounds + 1)) trees st.images) plan_is.failmode_is
    ∙ (ap (λ (n : ℕ). settle_each entries (terms_with s.live s.tops s.rows point failmode n) trees st.images) round_is
    ∙ ap (λ (images : Images). settle_each entries (terms_at s failmode round point) trees images) images_is))))))

-- ---- bound names that agree

block_same : (needs : Bool) (name : Option (List ℕ)) (a b : Bound) → ((n : List ℕ) → block_of a n ≡ block_of b n) → block_if needs name a ≡ block_if needs name b
block_same true (Some name) a b same = same name
block_same true None a b same = refl
block_same false name a b same = refl

tree_same : (a b : Bound) (birth : ℕ) (tree : List Request) → ((n : List ℕ) → block_of a n ≡ block_of b n) → map (pending a birth) tree ≡ map (pending b birth) tree
tree_same a b birth [] same = refl
tree_same a b birth (r ∷ rs) same =
    ap (λ (block : Option Tree). record { request = r; birth = birth; block = block; kept = [] } ∷ map (pending a birth) rs) (block_same (needs_block r.work) (name_of r.work) a b same)
    ∙ ap (λ (ps : List Pending). pending b birth r ∷ ps) (tree_same a b birth rs same)

-- trees enter a round with the same blocks
pub pending_same : (a b : Bound) (birth : ℕ) (trees : List (List Request)) → ((n : List ℕ) → block_of a n ≡ block_of b n)
    → pending_trees a birth trees ≡ pending_trees b birth trees
pending_same a b birth [] same = refl
pending_same a b birth (tree ∷ trees) same =
    ap (λ (ps : List Pending). ps ∷ pending_trees a birth trees) (tree_same a b birth tree same)
    ∙ ap (λ (ts : List (List Pending)). map (pending b birth) tree ∷ ts) (pending_same a b birth trees same)

passes_same : (p q : List ℕ → Bool) (name : Option (List ℕ)) → ((n : List ℕ) → p n ≡ q n) → passes p name ≡ passes q name
passes_same p q None same = refl
passes_same p q (Some name) same = same name

admission_same : (suspended : List (List Pending)) (p q : List ℕ → Bool) (tree : List Request) → ((n : List ℕ) → p n ≡ q n)
    → admission suspended p tree ≡ admission suspended q tree
admission_same suspended p q tree same =
    ap (λ (b : Bool). first_rule (is_blocked suspended tree) b (takes_bound p tree))
    (any_same (λ (r : Request). needs_block r.work && not (passes p (name_of r.work))) (λ (r : Request). needs_block r.work && not (passes q (name_of r.work))) tree
    (λ r. ap (λ (b : Bool). needs_block r.work && not b) (passes_same p q (name_of r.work) same)))
    ∙ ap (λ (b : Bool). first_rule (is_blocked suspended tree) (lacks_block q tree) b)
    (any_same (λ (r : Request). makes_block r.work && passes p (name_of r.work)) (λ (r : Request). makes_block r.work && passes q (name_of r.work)) tree
    (λ r. ap (λ (b : Bool). makes_block r.work && b) (passes_same p q (name_of r.work) same)))

-- admission depends on which names are bound, and not on how that is told
pub admitted_same : (suspended : List (List Pending)) (p q : List ℕ → Bool) (trees : List (List Request)) → ((n : List ℕ) → p n ≡ q n)
    → admitted suspended p trees ≡ admitted suspended q trees
admitted_same suspended p q [] same = refl
admitted_same suspended p q (tree ∷ trees) same =
    ap (λ (e : Option Errno). admit_with e tree (admitted suspended p trees)) (admission_same suspended p q tree same)
    ∙ ap (λ (others : Admitted). admit_with (admission suspended q tree) tree others) (admitted_same suspended p q trees same)

-- ---- which requests a round has

admit_all_if : (P : Request → Type 0) (e : Option Errno) (tree : List Request) (others : Admitted) → AllByRecursion P tree
    → AllByRecursion (λ (x : Ended). P x.request) others.answered × AllByRecursion (λ t. AllByRecursion P t) others.trees
    → AllByRecursion (λ (x : Ended). P x.request) (admit_with e tree others).answered × AllByRecursion (λ t. AllByRecursion P t) (admit_with e tree others).trees
admit_all_if P (Some e) tree others h rest = (
  all_append (λ (x : Ended). P x.request) (map (answered_with e) tree) others.answered (all_map (λ (x : Ended). P x.request) (answered_with e) tree h) rest.0,
  rest.1,
)
admit_all_if P None tree others h rest = (rest.0, (h, rest.1))

pub admit_all : (P : Request → Type 0) (suspended : List (List Pending)) (bound : List ℕ → Bool) (trees : List (List Request)) → AllByRecursion (λ t. AllByRecursion P t) trees
    → AllByRecursion (λ (x : Ended). P x.request) (admitted suspended bound trees).answered × AllByRecursion (λ t. AllByRecursion P t) (admitted suspended bound trees).trees
admit_all P suspended bound [] h = (tt, tt)
admit_all P suspended bound (tree ∷ trees) h =
    admit_all_if P (admission suspended bound tree) tree (admitted suspended bound trees) h.0 (admit_all P suspended bound trees h.1)

pub trees_all : (P : Request → Type 0) (names : Bound) (birth : ℕ) (trees : List (List Request)) → AllByRecursion (λ t. AllByRecursion P t) trees → AreTreesOf P (pending_trees names birth trees)
trees_all P names birth [] h = tt
trees_all P names birth (tree ∷ trees) h =
    (all_map (λ (p : Pending). P p.request) (pending names birth) tree h.0, trees_all P names birth trees h.1)

judge_if : (error : ℕ → Option Errno) (finished : List RequestEnd) (e : Option Errno) (tree : List Request) (others : Admitted)
    → AllByRecursion (λ (q : Request). error q.number ≡ e) tree
    → AllByRecursion (IsTold error finished) others.answered × AllByRecursion (λ t. AllByRecursion (λ (q : Request). error q.number ≡ None) t) others.trees
    → AllByRecursion (IsTold error finished) (admit_with e tree others).answered
    × AllByRecursion (λ t. AllByRecursion (λ (q : Request). error q.number ≡ None) t) (admit_with e tree others).trees
judge_if error finished (Some e) tree others h rest = (
  all_append (IsTold error finished) (map (answered_with e) tree) others.answered
      (all_map (IsTold error finished) (answered_with e) tree
      (all_weaker (λ (q : Request). error q.number ≡ Some e) (λ (q : Request). IsTold error finished (answered_with e q)) tree (λ q is. told_answered error finished q e is) h)) rest.0,
  rest.1,
)
judge_if error finished None tree others h rest = (rest.0, (h, rest.1))

-- what was answered has its error's line, and what runs was not answered
pub judged_lines : (error : ℕ → Option Errno) (finished : List RequestEnd) (suspended : List (List Pending)) (bound : List ℕ → Bool) (trees : List (List Request))
    → Judge error (admission suspended bound) trees
    → AllByRecursion (IsTold error finished) (admitted suspended bound trees).answered
    × AllByRecursion (λ t. AllByRecursion (λ (q : Request). error q.number ≡ None) t) (admitted suspended bound trees).trees
judged_lines error finished suspended bound [] judge = (tt, tt)
judged_lines error finished suspended bound (tree ∷ trees) judge =
    judge_if error finished (admission suspended bound tree) tree (admitted suspended bound trees) judge.0 (judged_lines error finished suspended bound trees judge.1)

-- ---- how often a number stands

request_tally : (f : Request → ℕ) (ended : List Ended) (left : List (List Pending)) → tally f (all_requests ended left) ≡ of_ended f ended + of_trees f left
request_tally f ended left =
    let front : tally f (map (λ (e : Ended). e.request) ended) ≡ of_ended f ended = sum_map f (λ (e : Ended). e.request) ended in
    let joined : tally f (requests_in left) ≡ tally (λ (p : Pending). f p.request) (joined_trees left) = sum_map f (λ (p : Pending). p.request) (joined_trees left) in
    let trees : tally (λ (p : Pending). f p.request) (joined_trees left) ≡ of_trees f left = sum_flat (λ (p : Pending). f p.request) (λ (tree : List Pending). tree) left in
    let both : tally f (all_requests ended left) ≡ tally f (map (λ (e : Ended). e.request) ended) + tally f (requests_in left) =
    tally-append f (map (λ (e : Ended). e.request) ended) (requests_in left) in
    omega arith

none_counted : (n : ℕ) (rs : List Request) → AllByRecursion (λ (q : Request). n < q.number) rs → counted (λ (r : Request). r.number) n rs ≡ 0
none_counted n [] h = refl
none_counted n (r ∷ rs) h =
    let other : eqb r.number n ≡ false = false_from_ne_true (eqb r.number n) (λ e. let is : r.number ≡ n = eqb-true r.number n e in let low : n < r.number = h.0 in omega arith) in
    let here : one_if (eqb r.number n) ≡ 0 = ap (λ (b : Bool). one_if b) other in
    let there : counted (λ (q : Request). q.number) n rs ≡ 0 = none_counted n rs h.1 in
    omega arith

once_if : (b : Bool) (n : ℕ) (r : Request) (rs : List Request) → eqb r.number n ≡ b → AllByRecursion (λ (q : Request). r.number < q.number) rs
    → counted (λ (q : Request). q.number) n rs ≤ 1 → one_if b + counted (λ (q : Request). q.number) n rs ≤ 1
once_if true n r rs e above later =
    let same : r.number ≡ n = eqb-true r.number n e in
    let none : counted (λ (q : Request). q.number) n rs ≡ 0 = none_counted n rs (subst (λ (k : ℕ). AllByRecursion (λ (q : Request). k < q.number) rs) same above) in
    omega arith
once_if false n r rs e above later = omega arith

-- where numbers rise, each stands once at most
pub once_counted : (n : ℕ) (rs : List Request) → AreRising rs → counted (λ (r : Request). r.number) n rs ≤ 1
once_counted n [] h = omega arith
once_counted n (r ∷ rs) h = once_if (eqb r.number n) n r rs refl h.0 (once_counted n rs h.1)

none_numbered : (n : ℕ) (es : List Ended) → tally (λ (e : Ended). one_if (eqb e.request.number n)) es ≡ 0 → AllByRecursion (λ (e : Ended). eqb e.request.number n ≡ false) es
none_numbered n [] h = tt
none_numbered n (e ∷ es) h = (
  false_from_ne_true (eqb e.request.number n) (λ same. let here : one_if (eqb e.request.number n) ≡ 1 = ap (λ (b : Bool). one_if b) same in omega arith),
  none_numbered n es (let some : one_if (eqb e.request.number n) + tally (λ (x : Ended). one_if (eqb x.request.number n)) es ≡ 0 = h in omega arith),
)

lacks_all : (n : ℕ) (fs : List RequestEnd) → AllByRecursion (λ (f : RequestEnd). eqb f.request n ≡ false) fs → finish_of fs n ≡ None
lacks_all n [] h = refl
lacks_all n (f ∷ fs) h = ap (λ (b : Bool). cond b (Some f) (finish_of fs n)) h.0 ∙ lacks_all n fs h.1

-- nothing finished with a number that no request that ended has
pub ended_lacks : (n : ℕ) (es : List Ended) → of_ended (λ (r : Request). one_if (eqb r.number n)) es ≡ 0 → finish_of (finished_by_number es) n ≡ None
ended_lacks n es none =
    lacks_all n (finished_by_number es) (all_merge (λ (f : RequestEnd). f.request) (λ (f : RequestEnd). eqb f.request n ≡ false) (map finished_of es)
    (all_map (λ (f : RequestEnd). eqb f.request n ≡ false) finished_of es (none_numbered n es none)))

one_weighed : (p : Pending) (tree : List Pending) → IsOneOf p tree → 1 ≤ tally (λ (q : Pending). one_if (eqb q.request.number p.request.number)) tree
one_weighed p [] at = absurd at
one_weighed p (q ∷ tree) (inl same) =
    let here : one_if (eqb q.request.number p.request.number) ≡ 1 = ap one_if (eq-eqb q.request.number p.request.number (ap (λ (x : Pending). x.request.number) same)) in
    omega arith
one_weighed p (q ∷ tree) (inr there) = let more : 1 ≤ tally (λ (x : Pending). one_if (eqb x.request.number p.request.number)) tree = one_weighed p tree there in omega arith

left_weighed : (p : Pending) (tree : List Pending) (left : List (List Pending)) → IsOneOf tree left → IsOneOf p tree
    → 1 ≤ of_trees (λ (r : Request). one_if (eqb r.number p.request.number)) left
left_weighed p tree [] at here = absurd at
left_weighed p tree (t ∷ left) (inl same) here =
    let own : 1 ≤ tally (λ (q : Pending). one_if (eqb q.request.number p.request.number)) t = one_weighed p t (subst (λ (x : List Pending). IsOneOf p x) (sym same) here) in omega arith
left_weighed p tree (t ∷ left) (inr there) here =
    let more : 1 ≤ of_trees (λ (r : Request). one_if (eqb r.number p.request.number)) left = left_weighed p tree left there here in omega arith

-- ---- the lines

-- The lines of a round over some trees, beside those that were answered.
pub ran_lines : (error : ℕ → Option Errno) (requests : List Request) (answered : List Ended) (trees : List (List Pending)) (j : List Choice) (t : Terms) (images : Images)
    → let ran : Ran = settle_each j t trees images in
    AreRising requests
    → AllByRecursion (IsTold error (finished_by_number ran.ended)) answered
    → AllByRecursion (λ (e : Ended). IsOneOf e.request requests) answered
    → AreTreesOf (λ (r : Request). IsOneOf r requests) trees
    → AreTreesOf (λ (r : Request). error r.number ≡ None) trees
    → ((n : ℕ) → of_ended (λ (r : Request). one_if (eqb r.number n)) answered + of_trees (λ (r : Request). one_if (eqb r.number n)) trees
    ≡ tally (λ (r : Request). one_if (eqb r.number n)) requests)
    → AreRisingFrom 0 (map (λ (f : RequestEnd). f.request) (finished_by_number ran.ended))
    → by_number (map line_of_ended (answered ++ ran.ended) ++ flat_map (map line_of_pending) ran.left) ≡ map (line_told error (finished_by_number ran.ended)) requests
ran_lines error requests answered trees j t images rising told among tree_among none sums up =
    let ran : Ran = settle_each j t trees images in
    let finished : List RequestEnd = finished_by_number ran.ended in
    let inside = ran_of (λ (r : Request). IsOneOf r requests) j t trees images tree_among in
    let free = ran_of (λ (r : Request). error r.number ≡ None) j t trees images none in
    let ended_told : AllByRecursion (IsTold error finished) ran.ended = all_one (IsTold error finished) ran.ended
    (λ e at. told_ended error finished e (one_all (λ (x : Ended). error x.request.number ≡ None) e ran.ended free.0 at) (ended_found ran.ended e up at)) in
    let waiting : AllByRecursion (λ (tree : List Pending). AllByRecursion (IsToldWaiting error finished) tree) ran.left =
    all_one (λ (tree : List Pending). AllByRecursion (IsToldWaiting error finished) tree) ran.left (λ tree at.
    all_one (IsToldWaiting error finished) tree (λ p here.
    told_waiting error finished p
    (one_all (λ (x : Pending). error x.request.number ≡ None) p tree (one_all (λ (x : List Pending). AllByRecursion (λ (y : Pending). error y.request.number ≡ None) x) tree ran.left free.1 at) here)
    (ended_lacks p.request.number ran.ended
    (let f : Request → ℕ = λ (r : Request). one_if (eqb r.number p.request.number) in
    let some : 1 ≤ of_trees f ran.left = left_weighed p tree ran.left at here in
    let split : of_ended f ran.ended + of_trees f ran.left ≡ of_trees f trees = trees_sum f j t trees images in
    let whole : of_ended f answered + of_trees f trees ≡ tally f requests = sums p.request.number in
    let once : tally f requests ≤ 1 = once_counted p.request.number requests rising in
    omega arith)))) in
    lines_are_told error finished requests (answered ++ ran.ended) ran.left rising
    (all_append (IsTold error finished) answered ran.ended told ended_told) waiting
    (all_append (λ (r : Request). IsOneOf r requests) (map (λ (e : Ended). e.request) (answered ++ ran.ended)) (requests_in ran.left)
    (all_map (λ (r : Request). IsOneOf r requests) (λ (e : Ended). e.request) (answered ++ ran.ended)
    (all_append (λ (e : Ended). IsOneOf e.request requests) answered ran.ended among inside.0))
    (all_map (λ (r : Request). IsOneOf r requests) (λ (p : Pending). p.request) (joined_trees ran.left) (all_flat (λ (p : Pending). IsOneOf p.request requests) ran.left inside.1)))
    (λ n.
    (let f : Request → ℕ = λ (r : Request). one_if (eqb r.number n) in
    let all : tally f (all_requests (answered ++ ran.ended) ran.left) ≡ of_ended f (answered ++ ran.ended) + of_trees f ran.left = request_tally f (answered ++ ran.ended) ran.left in
    let parts : of_ended f (answered ++ ran.ended) ≡ of_ended f answered + of_ended f ran.ended = tally-append (λ (e : Ended). f e.request) answered ran.ended in
    let split : of_ended f ran.ended + of_trees f ran.left ≡ of_trees f trees = trees_sum f j t trees images in
    let whole : of_ended f answered + of_trees f trees ≡ tally f requests = sums n in
    omega arith))
  where
    all_flat : (P : Pending → Type 0) (left : List (List Pending)) → AllByRecursion (λ (tree : List Pending). AllByRecursion P tree) left → AllByRecursion P (joined_trees left)
    all_flat P [] h = tt
    all_flat P (tree ∷ left) h = all_append P tree (joined_trees left) h.0 (all_flat P left h.1)

-- The lines of a batch's round, where each request is answered as admission says.
pub batch_lines : (error : ℕ → Option Errno) (suspended : List (List Pending)) (bound : List ℕ → Bool) (requests : List Request) (names : Bound) (birth : ℕ) (j : List Choice) (t : Terms) (images : Images)
    → let a : Admitted = admitted suspended bound (trees_of requests) in
    let ran : Ran = settle_each j t (pending_trees names birth a.trees) images in
    AreRising requests → AreBehindParents [] requests → Judge error (admission suspended bound) (trees_of requests)
    → AreRisingFrom 0 (map (λ (f : RequestEnd). f.request) (finished_by_number ran.ended))
    → by_number (map line_of_ended (a.answered ++ ran.ended) ++ flat_map (map line_of_pending) ran.left) ≡ map (line_told error (finished_by_number ran.ended)) requests
batch_lines error suspended bound requests names birth j t images rising behind judge up =
    let a : Admitted = admitted suspended bound (trees_of requests) in
    let trees : List (List Pending) = pending_trees names birth a.trees in
    let finished : List RequestEnd = finished_by_number (settle_each j t trees images).ended in
    let inside = admit_all (λ (r : Request). IsOneOf r requests) suspended bound (trees_of requests) (all_in_trees (λ (r : Request). IsOneOf r requests) requests (one_itself requests)) in
    let judged = judged_lines error finished suspended bound (trees_of requests) judge in
    ran_lines error requests a.answered trees j t images rising judged.0 inside.0
    (trees_all (λ (r : Request). IsOneOf r requests) names birth a.trees inside.1)
    (trees_all (λ (r : Request). error r.number ≡ None) names birth a.trees judged.1)
    (λ n.
    (let f : Request → ℕ = λ (r : Request). one_if (eqb r.number n) in
    let batch : tally (tally f) (trees_of requests) ≡ tally f requests = batch_held requests behind rising f in
    let split : of_ended f a.answered + tally (tally f) a.trees ≡ tally (tally f) (trees_of requests) = admitted_sum f suspended bound (trees_of requests) in
    let runs : of_trees f trees ≡ tally (tally f) a.trees = pending_sum f names birth a.trees in
    omega arith)) up
