-- The read of a block under way, while no copy is good: what its plans show, and what is left by each call.
use Rattle.std.proofs.Common.{◌≡◌, ℕ, ◌+◌, ◌<◌, ◌≤◌, List, [], ◌∷◌, ◌++◌, length, map, get_or, take, drop, Bool, true, false, Option, Some, None, Result, Ok, Err, IsTrue, slice_get, nat_lt, refl, sym, ap, ◌∙◌, subst, arith, ltb-true, ltb-false}
use Rattle.std.proofs.lemmas.List.{map-append, drop_all, drop_more, flat_map_more, length_push, take_more}
use Rattle.std.proofs.lemmas.Option.{slice_get-get_or, slice_get_past}
use Rattle.zio_types.specs.declared.error.Errno.{Errno}
use Rattle.zio_types.specs.declared.place.Place.{Place}
use Rattle.zio_types.specs.declared.place.Top.{Top}
use Rattle.zio_types.specs.Choices.{no_place}
use Rattle.zio_cksum.specs.Blocks.{all_errors, blame, judged, leaves_of, read_order, spot_in}
use Rattle.zio_cksum.specs.Headers.{offset_of}
use Rattle.zio_cksum.specs.Images.{Setting, Spot}
use Rattle.zio_mirror.specs.declared.plan.PlanStep.{PlanStep}
use Rattle.zio_mirror.specs.declared.plan.PlanStep.TheVariants.{Bad, Try}
use Rattle.zio_mirror.specs.Plans.{Tries, good_child, is_try, step_of, step_with}
use Rattle.zio_mirror.proofs.ChildLemmas.{order_of}
use Rattle.zio_trace.specs.Calls.{answered_at}
use Rattle.zio_trace.specs.CopyPrograms.{Program, block_reading, fetch_in, found_by, none_tried, pass_each, try_each, try_on}
use Rattle.zio_trace.specs.Leaves.{LeafOp, Answer, Fetch}
use Rattle.zio_trace.specs.Programs.{Ends, Asks, ◌>>=◌}
use Rattle.zio_parts.specs.Copies.{copies_at, leaves_at, spot_at}
use Rattle.zio_parts.specs.Answered.{AsksBehind, out_count}
use Rattle.zio_parts.specs.declared.copies.Target.{Target}
use Rattle.zio_parts.specs.declared.copy_read.ReadStep.TheVariants.{Fetch as FetchStep}
use Rattle.zio_parts.specs.CopyReads.{IsReady, IsReadyWith, Reading, ShowsRead, outs_of, outs_with, read_outs, behind_pass, behind_place, child_in, error_in, fresh_read, leaf_at, leaves_failed, leaves_left, left_of_pass, left_of_read, left_with, order_at, pass_found, pass_so_far, place_in, place_so_far, read_again, tried_of}

-- ---- plans

no_good : (order : List ℕ) (answers : List (Option Errno)) → all_errors answers ≡ true → good_child order answers ≡ None
no_good [] answers h = refl
no_good (c ∷ cs) [] h = refl
no_good (c ∷ cs) (None ∷ answers) h = absurd (cc)
no_good (c ∷ cs) (Some e ∷ answers) h = no_good cs answers h

pub errors_more : (answers : List (Option Errno)) (e : Errno) → all_errors answers ≡ true → all_errors (answers ++ Some e ∷ []) ≡ true
errors_more [] e h = refl
errors_more (None ∷ answers) e h = absurd (cc)
errors_more (Some f ∷ answers) e h = errors_more answers e h

step_try : (plan : Tries) → all_errors plan.answers ≡ true → length plan.answers < length plan.order → step_of plan ≡ Try (get_or plan.order (length plan.answers) 0)
step_try plan h l =
    ap (λ g. step_with g (slice_get plan.order (length plan.answers)) plan.answers) (no_good plan.order plan.answers h)
    ∙ ap (λ u. step_with None u plan.answers) (slice_get-get_or plan.order (length plan.answers) 0 l)

step_bad : (plan : Tries) → all_errors plan.answers ≡ true → length plan.order ≤ length plan.answers → step_of plan ≡ Bad (blame plan.answers)
step_bad plan h l =
    ap (λ g. step_with g (slice_get plan.order (length plan.answers)) plan.answers) (no_good plan.order plan.answers h)
    ∙ ap (λ u. step_with None u plan.answers) (slice_get_past plan.order (length plan.answers) l)

-- a child is left: it is tried next
pub may_try : (plan : Tries) → all_errors plan.answers ≡ true → length plan.answers < length plan.order → IsTrue (is_try (step_of plan))
may_try plan h l = subst (λ (step : PlanStep). IsTrue (is_try step)) (sym (step_try plan h l)) refl

pub child_is : (plan : Tries) → all_errors plan.answers ≡ true → length plan.answers < length plan.order → child_in (step_of plan) ≡ get_or plan.order (length plan.answers) 0
child_is plan h l = ap child_in (step_try plan h l)

pub more_left : (plan : Tries) → all_errors plan.answers ≡ true → error_in (step_of plan) ≡ None → length plan.answers < length plan.order
more_left plan h e = go (nat_lt (length plan.answers) (length plan.order)) refl
  where
    go : (t : Bool) → nat_lt (length plan.answers) (length plan.order) ≡ t → length plan.answers < length plan.order
    go true is = ltb-true (length plan.answers) (length plan.order) is
    go false is =
        let bad : step_of plan ≡ Bad (blame plan.answers) = step_bad plan h (ltb-false (length plan.answers) (length plan.order) is) in
        let some : Some (blame plan.answers) ≡ None = sym (ap error_in bad) ∙ e in
        absurd (cc)

pub none_left : (plan : Tries) (e : Errno) → all_errors plan.answers ≡ true → error_in (step_of plan) ≡ Some e → (length plan.order ≤ length plan.answers) × (e ≡ blame plan.answers)
none_left plan e h is = go (nat_lt (length plan.answers) (length plan.order)) refl
  where
    go : (t : Bool) → nat_lt (length plan.answers) (length plan.order) ≡ t → (length plan.order ≤ length plan.answers) × (e ≡ blame plan.answers)
    go true t =
        let try_ : step_of plan ≡ Try (get_or plan.order (length plan.answers) 0) = step_try plan h (ltb-true (length plan.answers) (length plan.order) t) in
        let none : None ≡ Some e = sym (ap error_in try_) ∙ is in
        absurd (cc)
    go false t =
        let l : length plan.order ≤ length plan.answers = ltb-false (length plan.answers) (length plan.order) t in
        let some : Some e ≡ Some (blame plan.answers) = sym is ∙ ap error_in (step_bad plan h l) in
        (l, cc)

-- ---- a place is begun

places_more : (tops : List Top) (places : List Place) (i : ℕ) → i < length places →
    copies_at tops (take (i + 1) places) ≡ copies_at tops (take i places) ++ map (spot_in (get_or places i no_place)) (leaves_at tops (get_or places i no_place))
places_more tops places i h =
    ap (copies_at tops) (take_more places i no_place h)
    ∙ sym (flat_map_more (λ p. map (spot_in p) (leaves_at tops p)) [] (take i places) (get_or places i no_place))

-- a pass whose next place is new
begun : (s : Setting) (good : List ℕ → Bool) (y : Reading) → y.leaves.answers ≡ [] → (tried_of y < length y.places → y.leaves.order ≡ order_at s.tops (place_in y)) →
    left_of_pass s good y (drop (tried_of y) y.places) ≡ pass_each s y.retry good y.len (pass_so_far s.tops y) (drop (tried_of y) y.places)
begun s good y none order = go (nat_lt (tried_of y) (length y.places)) refl
  where
    i : ℕ
    i = length y.copies.answers

    go : (t : Bool) → nat_lt (tried_of y) (length y.places) ≡ t →
        left_of_pass s good y (drop (tried_of y) y.places) ≡ pass_each s y.retry good y.len (pass_so_far s.tops y) (drop (tried_of y) y.places)
    go true t =
        let h : tried_of y < length y.places = ltb-true (tried_of y) (length y.places) t in
        let p : Place = place_in y in
        let ps : List Place = drop (tried_of y + 1) y.places in
        let d : drop (tried_of y) y.places ≡ p ∷ ps = drop_more y.places (tried_of y) no_place h in
        let leaves : map (leaf_at s.tops p) y.leaves.order ≡ read_order (offset_of p) (leaves_at s.tops p) =
        ap (map (leaf_at s.tops p)) (order h) ∙ order_of (offset_of p) (leaves_at s.tops p) in
        ap (left_of_pass s good y) d
        ∙ ap (λ (as_ : List (Option Errno)). try_each (fetch_in y.retry y.len p) good
        (record { found = None; failed = map (leaf_at s.tops p) (take (length as_) y.leaves.order); errors = as_ }) (map (leaf_at s.tops p) (drop (length as_) y.leaves.order))
        >>= behind_place s good y p ps) none
        ∙ ap (λ (cs : List ℕ). try_each (fetch_in y.retry y.len p) good none_tried cs >>= behind_place s good y p ps) leaves
        ∙ ap (pass_each s y.retry good y.len (pass_so_far s.tops y)) (sym d)
    go false t =
        let d : drop (tried_of y) y.places ≡ [] = drop_all (tried_of y) y.places (ltb-false (tried_of y) (length y.places) t) in
        ap (left_of_pass s good y) d ∙ ap (pass_each s y.retry good y.len (pass_so_far s.tops y)) (sym d)

pub fresh_left : (s : Setting) (tops : List Top) (good : List ℕ → Bool) (places : List Place) (len : ℕ) (repair : Bool) → s.tops ≡ tops →
    left_of_read s good (fresh_read tops places len repair) ≡ block_reading s repair good len places
fresh_left s tops good places len repair e =
    let y : Reading = fresh_read s.tops places len repair in
    ap (λ ts. left_of_read s good (fresh_read ts places len repair)) (sym e)
    ∙ ap (λ p. p >>= behind_pass s good y false) (begun s good y refl (λ _. refl))

-- ---- the pass is over

pass_over : (s : Setting) (good : List ℕ → Bool) (x : Reading) → x.good ≡ None → length x.places ≤ tried_of x →
    left_of_read s good x ≡ behind_pass s good x x.retry (pass_so_far s.tops x)
pass_over s good x none l =
    ap (left_with s good x) none
    ∙ ap (λ ps. left_of_pass s good x ps >>= behind_pass s good x x.retry) (drop_all (tried_of x) x.places l)

pub again_left : (s : Setting) (good : List ℕ → Bool) (x : Reading) → x.good ≡ None → length x.places ≤ tried_of x → x.retry ≡ false →
    left_of_read s good (read_again s.tops x) ≡ left_of_read s good x
again_left s good x none l first =
    let y : Reading = read_again s.tops x in
    ap (λ p. p >>= behind_pass s good y true) (begun s good y refl (λ _. refl))
    ∙ ap (λ r. behind_pass s good x r (pass_so_far s.tops x)) (sym first)
    ∙ sym (pass_over s good x none l)

pub bad_left : (s : Setting) (good : List ℕ → Bool) (x : Reading) (e : Errno) → x.good ≡ None → length x.places ≤ tried_of x → x.retry ≡ true → e ≡ blame x.copies.answers →
    left_of_read s good x ≡ Ends (Err e)
bad_left s good x e none l last is =
    pass_over s good x none l
    ∙ ap (λ r. behind_pass s good x r (pass_so_far s.tops x)) last
    ∙ ap (λ f. Ends (Err f)) (sym is)

-- ---- a copy is read

-- the child that is tried
abbrev pub child_of : Reading → ℕ
child_of x = get_or x.leaves.order (length x.leaves.answers) 0

-- how the read of the next leaf goes on
abbrev fetched : Setting → (List ℕ → Bool) → Reading → Result (List ℕ) Errno → Program Answer
fetched s good x r =
    try_on (leaf_at s.tops (place_in x) (child_of x)) r (place_so_far s.tops x)
    (λ now. try_each (fetch_in x.retry x.len (place_in x)) good now (map (leaf_at s.tops (place_in x)) (drop (length x.leaves.answers + 1) x.leaves.order)))
    >>= behind_place s good x (place_in x) (drop (tried_of x + 1) x.places)
    >>= behind_pass s good x x.retry

-- a place is tried, and a leaf of it is left
pub record IsTrying (x : Reading) : Type 0 where
  pub none_good : x.good ≡ None
  pub place_left : tried_of x < length x.places
  pub leaf_left : length x.leaves.answers < length x.leaves.order

pub opened : (s : Setting) (good : List ℕ → Bool) (x : Reading) → IsTrying x →
    left_of_read s good x ≡ Asks (fetch_in x.retry x.len (place_in x) (leaf_at s.tops (place_in x) (child_of x))) (λ answer. fetched s good x (judged good answer))
opened s good x h =
    let p : Place = place_in x in
    let ps : List Place = drop (tried_of x + 1) x.places in
    ap (left_with s good x) h.none_good
    ∙ ap (λ qs. left_of_pass s good x qs >>= behind_pass s good x x.retry) (drop_more x.places (tried_of x) no_place h.place_left)
    ∙ ap (λ (cs : List ℕ). try_each (fetch_in x.retry x.len p) good (place_so_far s.tops x) (map (leaf_at s.tops p) cs) >>= behind_place s good x p ps >>= behind_pass s good x x.retry)
    (drop_more x.leaves.order (length x.leaves.answers) 0 h.leaf_left)

answered_by : (s : Setting) (good : List ℕ → Bool) (x : Reading) (answer : Answer) (r : Result (List ℕ) Errno) → IsTrying x → judged good answer ≡ r →
    answered_at 0 answer (left_of_read s good x) ≡ fetched s good x r
answered_by s good x answer r h e = ap (answered_at 0 answer) (opened s good x h) ∙ ap (fetched s good x) e

-- it is good
behind_good : (s : Setting) (good : List ℕ → Bool) (x : Reading) (bytes : List ℕ) (retry : Bool) → behind_pass s good x retry (pass_found s.tops x bytes) ≡ found_by x.repair retry (pass_found s.tops x bytes) bytes
behind_good s good x bytes true = refl
behind_good s good x bytes false = refl

abbrev pub good_read : Reading → List ℕ → Reading
good_read x bytes = record {
  places = x.places;
  len = x.len;
  repair = x.repair;
  retry = x.retry;
  copies = x.copies;
  leaves = x.leaves;
  is_out = false;
  good = Some bytes;
  mends = [];
}

pub good_heard : (s : Setting) (good : List ℕ → Bool) (x : Reading) (answer : Answer) (bytes : List ℕ) → IsTrying x → judged good answer ≡ Ok bytes →
    left_of_read s good (good_read x bytes) ≡ answered_at 0 answer (left_of_read s good x)
good_heard s good x answer bytes h e = sym (behind_good s good x bytes x.retry) ∙ sym (answered_by s good x answer (Ok bytes) h e)

-- it is bad, and the place has more leaves
abbrev pub leaf_failed : Reading → Errno → Reading
leaf_failed x e = record {
  places = x.places;
  len = x.len;
  repair = x.repair;
  retry = x.retry;
  copies = x.copies;
  leaves = record { order = x.leaves.order; answers = x.leaves.answers ++ Some e ∷ [] };
  is_out = false;
  good = x.good;
  mends = x.mends;
}

leaf_passed : (s : Setting) (good : List ℕ → Bool) (x : Reading) (e : Errno) → IsTrying x →
    try_each (fetch_in x.retry x.len (place_in x)) good (place_so_far s.tops (leaf_failed x e)) (leaves_left s.tops (leaf_failed x e))
    >>= behind_place s good x (place_in x) (drop (tried_of x + 1) x.places) >>= behind_pass s good x x.retry
    ≡ fetched s good x (Err e)
leaf_passed s good x e h =
    let p : Place = place_in x in
    let ps : List Place = drop (tried_of x + 1) x.places in
    let k : ℕ = length x.leaves.answers in
    let order : List ℕ = x.leaves.order in
    let answers : List (Option Errno) = x.leaves.answers ++ Some e ∷ [] in
    ap (λ n. try_each (fetch_in x.retry x.len p) good (record { found = None; failed = map (leaf_at s.tops p) (take n order); errors = answers }) (map (leaf_at s.tops p) (drop n order))
    >>= behind_place s good x p ps >>= behind_pass s good x x.retry) (length_push x.leaves.answers (Some e))
    ∙ ap (λ (fs : List ℕ). try_each (fetch_in x.retry x.len p) good (record { found = None; failed = fs; errors = answers }) (map (leaf_at s.tops p) (drop (k + 1) order))
    >>= behind_place s good x p ps >>= behind_pass s good x x.retry)
    (ap (map (leaf_at s.tops p)) (take_more order k 0 h.leaf_left) ∙ map-append (leaf_at s.tops p) (take k order) (get_or order k 0 ∷ []))

pub leaf_heard : (s : Setting) (good : List ℕ → Bool) (x : Reading) (answer : Answer) (e : Errno) → IsTrying x → judged good answer ≡ Err e →
    left_of_read s good (leaf_failed x e) ≡ answered_at 0 answer (left_of_read s good x)
leaf_heard s good x answer e h is =
    let y : Reading = leaf_failed x e in
    ap (left_with s good y) h.none_good
    ∙ ap (λ qs. left_of_pass s good y qs >>= behind_pass s good y y.retry) (drop_more x.places (tried_of x) no_place h.place_left)
    ∙ leaf_passed s good x e h
    ∙ sym (answered_by s good x answer (Err e) h is)

-- it is bad, and was the place's last leaf
abbrev pub place_failed : Reading → Errno → List ℕ → Reading
place_failed x worst order = record {
  places = x.places;
  len = x.len;
  repair = x.repair;
  retry = x.retry;
  copies = record { order = x.copies.order; answers = x.copies.answers ++ Some worst ∷ [] };
  leaves = record { order = order; answers = [] };
  is_out = false;
  good = x.good;
  mends = x.mends;
}

pub place_heard : (s : Setting) (good : List ℕ → Bool) (x : Reading) (answer : Answer) (e worst : Errno) (order : List ℕ) → IsTrying x → judged good answer ≡ Err e →
    length x.leaves.order ≤ length x.leaves.answers + 1 → worst ≡ blame (x.leaves.answers ++ Some e ∷ []) →
    (tried_of x + 1 < length x.places → order ≡ order_at s.tops (get_or x.places (tried_of x + 1) no_place)) →
    left_of_read s good (place_failed x worst order) ≡ answered_at 0 answer (left_of_read s good x)
place_heard s good x answer e worst order h is all w o =
    let y : Reading = place_failed x worst order in
    let p : Place = place_in x in
    let i : ℕ = tried_of x in
    let ps : List Place = drop (i + 1) x.places in
    let errors : List (Option Errno) = x.copies.answers ++ Some worst ∷ [] in
    let next : length errors ≡ i + 1 = length_push x.copies.answers (Some worst) in
    let o' : tried_of y < length y.places → y.leaves.order ≡ order_at s.tops (place_in y) =
    λ l. let l' : i + 1 < length x.places = omega arith in o l' ∙ ap (λ n. order_at s.tops (get_or x.places n no_place)) (sym next) in
    ap (left_with s good y) h.none_good
    ∙ ap (λ q. q >>= behind_pass s good y y.retry) (begun s good y refl o')
    ∙ ap (λ n. pass_each s x.retry good x.len (record { found = None; repairs = copies_at s.tops (take n x.places); errors = errors }) (drop n x.places) >>= behind_pass s good x x.retry) next
    ∙ ap (λ (r : List Spot). pass_each s x.retry good x.len (record { found = None; repairs = r; errors = errors }) ps >>= behind_pass s good x x.retry) (places_more s.tops x.places i h.place_left)
    ∙ ap (λ (f : Errno). pass_each s x.retry good x.len
    (record { found = None; repairs = copies_at s.tops (take i x.places) ++ map (spot_in p) (leaves_of s p); errors = x.copies.answers ++ Some f ∷ [] }) ps >>= behind_pass s good x x.retry) w
    ∙ ap (λ (cs : List ℕ). try_each (fetch_in x.retry x.len p) good
    (record { found = None; failed = leaves_failed s.tops x ++ leaf_at s.tops p (child_of x) ∷ []; errors = x.leaves.answers ++ Some e ∷ [] }) (map (leaf_at s.tops p) cs)
    >>= behind_place s good x p ps >>= behind_pass s good x x.retry) (sym (drop_all (length x.leaves.answers + 1) x.leaves.order all))
    ∙ sym (answered_by s good x answer (Err e) h is)

-- ---- a copy that goes out

abbrev pub with_out : Reading → Bool → Reading
with_out x out = record {
  places = x.places;
  len = x.len;
  repair = x.repair;
  retry = x.retry;
  copies = x.copies;
  leaves = x.leaves;
  is_out = out;
  good = x.good;
  mends = x.mends;
}

pass_alike : (s : Setting) (good : List ℕ → Bool) (x : Reading) (out : Bool) (ps : List Place) → left_of_pass s good (with_out x out) ps ≡ left_of_pass s good x ps
pass_alike s good x out [] = refl
pass_alike s good x out (p ∷ ps) = refl

behind_alike : (s : Setting) (good : List ℕ → Bool) (x : Reading) (out retry : Bool) → behind_pass s good (with_out x out) retry ≡ behind_pass s good x retry
behind_alike s good x out true = refl
behind_alike s good x out false = refl

pub out_left : (s : Setting) (good : List ℕ → Bool) (x : Reading) (out : Bool) → x.good ≡ None → left_of_read s good (with_out x out) ≡ left_of_read s good x
out_left s good x out none =
    ap (left_with s good (with_out x out)) none
    ∙ ap (λ p. p >>= behind_pass s good (with_out x out) x.retry) (pass_alike s good x out (drop (tried_of x) x.places))
    ∙ ap (λ k. left_of_pass s good x (drop (tried_of x) x.places) >>= k) (behind_alike s good x out x.retry)
    ∙ ap (left_with s good x) (sym none)

pub fetch_shown : (s : Setting) (tops : List Top) (good : List ℕ → Bool) (x : Reading) (target : Target) → IsTrying x → x.is_out ≡ false → s.tops ≡ tops →
    target.place ≡ place_in x → target.leaf ≡ leaf_at tops (place_in x) (child_of x) → ShowsRead s good x (FetchStep target)
fetch_shown s tops good x target h quiet e p l =
    let op : LeafOp = Fetch x.retry x.len (spot_at target) in
    let leaf : target.leaf ≡ leaf_at s.tops (place_in x) (child_of x) = l ∙ ap (λ ts. leaf_at ts (place_in x) (child_of x)) (sym e) in
    let is : fetch_in x.retry x.len (place_in x) (leaf_at s.tops (place_in x) (child_of x)) ≡ op =
    ap (fetch_in x.retry x.len (place_in x)) (sym leaf) ∙ ap (λ q. fetch_in x.retry x.len q target.leaf) (sym p) in
    let asks : AsksBehind 0 (left_of_read s good x) op = subst (λ q. AsksBehind 0 q op) (sym (opened s good x h)) is in
    let outs : outs_of x ≡ [] = ap (λ g. outs_with g x) h.none_good ∙ ap read_outs quiet in
    subst (λ as_. AsksBehind (out_count as_) (left_of_read s good x) op) (sym outs) asks

pub fetch_allowed : (x : Reading) → IsTrying x → x.is_out ≡ false → IsReady x × (x.good ≡ None)
fetch_allowed x h quiet = (subst (λ g. IsReadyWith g x) (sym h.none_good) (quiet, h.place_left), h.none_good)

pub quiet_out : (x : Reading) → x.good ≡ None → x.is_out ≡ false → out_count (outs_of x) ≡ 0
quiet_out x none quiet = ap (λ g. out_count (outs_with g x)) none ∙ ap (λ b. out_count (read_outs b)) quiet
