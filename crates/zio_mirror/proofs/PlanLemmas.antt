-- What the calls of a plan and a write come to.
use Rattle.std.proofs.Common.{◌≡◌, ℕ, zero, suc, map, ◌+◌, ◌-◌, ◌<◌, ◌≤◌, List, [], ◌∷◌, ◌++◌, length, get_or, take, drop, set, Bool, true, false, cond, Option, Some, None, Result, Ok, Err, IsTrue, slice_get, nat_lt, refl, sym, ap, ◌∙◌, true≢false, arith, length-append, length-drop, length-take, get_or-set_same, get_or-set_other, drop_of_length-le, le-ltb, lt-ltb, ltb-true, ltb-false}
use Rattle.std.proofs.lemmas.List.{get_or_append_left, get_or-append_right, get_or-drop, get_or-take, ext_get_or}
use Rattle.std.proofs.lemmas.List.FromFn.{get_or-range_with_len, length-range_with_len}
use Rattle.std.proofs.lemmas.Option.{slice_get_past, slice_get_within}
use Rattle.zio_types.specs.declared.error.Errno.{Errno}
use Rattle.zio_types.specs.declared.place.Place.{Place}
use Rattle.zio_cksum.specs.Blocks.{blame, first_good, then_others, rotated, Tried, Pass, read_pass, read_place, passed_with, found_or, spot_in, leaves_of}
use Rattle.zio_cksum.specs.Images.{Images, Setting}
use Rattle.zio_mirror.specs.declared.plan.PlanStep.TheVariants.{Good, Bad}
use Rattle.zio_mirror.specs.Plans.{answers_of, then_answers, place_answer, children, good_child, failed_children, is_try, round_to, step_of, step_with, to_repair}

-- ---- the order of leaves

pub round_to_low : (n i : ℕ) → i < n → round_to n i ≡ i
round_to_low n i h = ap (λ t. cond t i (i - n)) (lt-ltb i n h)

pub round_to_high : (n i : ℕ) → n ≤ i → round_to n i ≡ i - n
round_to_high n i h = ap (λ t. cond t i (i - n)) (le-ltb i n h)

pub length-children : (n : ℕ) → length (children n) ≡ n
length-children n = length-range_with_len 0 n

pub length-rotated : (f n : ℕ) → f ≤ n → length (rotated f (children n)) ≡ n
length-rotated f n h =
    omega (arith, length-append (drop f (children n)) (take f (children n)), length-drop f (children n), length-take f (children n), length-children n)

get_or-rotated-low : (n f k : ℕ) → f < n → f + k < n → get_or (rotated f (children n)) k 0 ≡ f + k
get_or-rotated-low n f k fn below =
    get_or_append_left (drop f (children n)) (take f (children n)) 0 k (omega (arith, length-drop f (children n), length-children n))
    ∙ get_or-drop f (children n) k 0
    ∙ get_or-range_with_len 0 n (f + k) 0 below
    ∙ omega arith

get_or-rotated-high : (n f k : ℕ) → f < n → k < n → n ≤ f + k → get_or (rotated f (children n)) k 0 ≡ f + k - n
get_or-rotated-high n f k fn kn above =
    get_or-append_right (drop f (children n)) (take f (children n)) (n - f) k 0 (omega (arith, length-drop f (children n), length-children n)) (omega arith)
    ∙ get_or-take f (children n) (k - (n - f)) 0 (omega arith)
    ∙ get_or-range_with_len 0 n (k - (n - f)) 0 (omega arith)
    ∙ omega arith

-- the child at place k of the order that begins at f
pub get_or-rotated : (n f k : ℕ) → f < n → k < n → get_or (rotated f (children n)) k 0 ≡ round_to n (f + k)
get_or-rotated n f k fn kn = go (nat_lt (f + k) n) refl
  where
    go : (t : Bool) → nat_lt (f + k) n ≡ t → get_or (rotated f (children n)) k 0 ≡ round_to n (f + k)
    go true e = let h : f + k < n = ltb-true (f + k) n e in get_or-rotated-low n f k fn h ∙ sym (round_to_low n (f + k) h)
    go false e = let h : n ≤ f + k = ltb-false (f + k) n e in get_or-rotated-high n f k fn kn h ∙ sym (round_to_high n (f + k) h)

-- an array that has each child at its place is the order
pub rotated_from_each : (n f : ℕ) (order : List ℕ) → length order ≡ 4 → n ≤ 4 → f < n →
    ((k : ℕ) → k < n → get_or order k 0 ≡ round_to n (f + k)) → take n order ≡ rotated f (children n)
rotated_from_each n f order len few fn each =
    ext_get_or 0 (take n order) (rotated f (children n))
    (omega (arith, length-take n order, length-rotated f n (omega arith)))
    (λ k h. let kn : k < n = omega (arith, h, length-take n order) in get_or-take n order k 0 kn ∙ each k kn ∙ sym (get_or-rotated n f k fn kn))

-- one more child stands at its place
pub order_more : (n f i : ℕ) (order : List ℕ) → i < length order →
    ((k : ℕ) → k < i → get_or order k 0 ≡ round_to n (f + k)) →
    (k : ℕ) → k < i + 1 → get_or (set order i (round_to n (f + i))) k 0 ≡ round_to n (f + k)
order_more n f i order inside before k h = go (nat_lt k i) refl
  where
    go : (t : Bool) → nat_lt k i ≡ t → get_or (set order i (round_to n (f + i))) k 0 ≡ round_to n (f + k)
    go true e =
        let lt : k < i = ltb-true k i e in
        let ne : k ≡ i → ⊥ = λ same. absurd (omega arith) in
        get_or-set_other order i k (round_to n (f + i)) 0 ne ∙ before k lt
    go false e =
        let ge : i ≤ k = ltb-false k i e in
        let same : k ≡ i = omega arith in
        rw same (get_or-set_same order i (round_to n (f + i)) 0 inside)

-- the first n of four
pub first_children : (n : ℕ) → n ≤ 4 → take n (0 ∷ 1 ∷ 2 ∷ 3 ∷ []) ≡ children n
first_children zero h = refl
first_children (suc zero) h = refl
first_children (suc (suc zero)) h = refl
first_children (suc (suc (suc zero))) h = refl
first_children (suc (suc (suc (suc zero)))) h = refl
first_children (suc (suc (suc (suc (suc n))))) h = absurd (omega arith)

-- ---- answers so far

-- a failed answer is passed over
pub good_child_later : (i : ℕ) (os : List ℕ) (ans : List (Option Errno)) (d : Option Errno) (x : Errno) → i < length ans → length ans ≤ length os →
    get_or ans i d ≡ Some x → good_child (drop (suc i) os) (drop (suc i) ans) ≡ good_child (drop i os) (drop i ans)
good_child_later i [] [] d x h g e = absurd (omega arith)
good_child_later i [] (a ∷ ans) d x h g e = absurd (omega arith)
good_child_later i (o ∷ os) [] d x h g e = absurd (omega arith)
good_child_later zero (o ∷ os) (None ∷ ans) d x h g e = absurd (cc)
good_child_later zero (o ∷ os) (Some a ∷ ans) d x h g e = refl
good_child_later (suc i) (o ∷ os) (a ∷ ans) d x h g e = good_child_later i os ans d x (omega arith) (omega arith) e

pub good_child_done : (os : List ℕ) → good_child os [] ≡ None
good_child_done [] = refl
good_child_done (o ∷ os) = refl

pub good_child_here : (i : ℕ) (os : List ℕ) (ans : List (Option Errno)) (d : Option Errno) → i < length ans → length ans ≤ length os →
    get_or ans i d ≡ None → good_child (drop i os) (drop i ans) ≡ Some (get_or os i 0)
good_child_here i [] [] d h g e = absurd (omega arith)
good_child_here i [] (a ∷ ans) d h g e = absurd (omega arith)
good_child_here i (o ∷ os) [] d h g e = absurd (omega arith)
good_child_here zero (o ∷ os) (None ∷ ans) d h g e = refl
good_child_here zero (o ∷ os) (Some a ∷ ans) d h g e = absurd (cc)
good_child_here (suc i) (o ∷ os) (a ∷ ans) d h g e = good_child_here i os ans d (omega arith) (omega arith) e

pub failed_children_done : (os : List ℕ) → failed_children os [] ≡ []
failed_children_done [] = refl
failed_children_done (o ∷ os) = refl

pub failed_children_good : (i : ℕ) (os : List ℕ) (ans : List (Option Errno)) (d : Option Errno) → i < length ans → length ans ≤ length os →
    get_or ans i d ≡ None → failed_children (drop i os) (drop i ans) ≡ []
failed_children_good i [] [] d h g e = absurd (omega arith)
failed_children_good i [] (a ∷ ans) d h g e = absurd (omega arith)
failed_children_good i (o ∷ os) [] d h g e = absurd (omega arith)
failed_children_good zero (o ∷ os) (None ∷ ans) d h g e = refl
failed_children_good zero (o ∷ os) (Some a ∷ ans) d h g e = absurd (cc)
failed_children_good (suc i) (o ∷ os) (a ∷ ans) d h g e = failed_children_good i os ans d (omega arith) (omega arith) e

pub failed_children_here : (i : ℕ) (os : List ℕ) (ans : List (Option Errno)) (d : Option Errno) (x : Errno) → i < length ans → length ans ≤ length os →
    get_or ans i d ≡ Some x → failed_children (drop i os) (drop i ans) ≡ get_or os i 0 ∷ failed_children (drop (suc i) os) (drop (suc i) ans)
failed_children_here i [] [] d x h g e = absurd (omega arith)
failed_children_here i [] (a ∷ ans) d x h g e = absurd (omega arith)
failed_children_here i (o ∷ os) [] d x h g e = absurd (omega arith)
failed_children_here zero (o ∷ os) (None ∷ ans) d x h g e = absurd (cc)
failed_children_here zero (o ∷ os) (Some a ∷ ans) d x h g e = refl
failed_children_here (suc i) (o ∷ os) (a ∷ ans) d x h g e = failed_children_here i os ans d x (omega arith) (omega arith) e

-- ---- a plan that is answered by reads

length-then_answers : (r : Result (List ℕ) Errno) (answers : List (Option Errno)) (n : ℕ) → length answers ≤ n → length (then_answers r answers) ≤ suc n
length-then_answers (Ok bytes) answers n h = omega arith
length-then_answers (Err e) answers n h = omega arith

pub length-answers_of : (read : ℕ → Result (List ℕ) Errno) (order : List ℕ) → length (answers_of read order) ≤ length order
length-answers_of read [] = omega arith
length-answers_of read (c ∷ cs) = length-then_answers (read c) (answers_of read cs) (length cs) (length-answers_of read cs)

-- ---- past all answers

pub good_child_past : (i : ℕ) (os : List ℕ) (ans : List (Option Errno)) → length ans ≤ i → good_child (drop i os) (drop i ans) ≡ None
good_child_past i os ans h = ap (good_child (drop i os)) (drop_of_length-le ans h) ∙ good_child_done (drop i os)

pub failed_children_past : (i : ℕ) (os : List ℕ) (ans : List (Option Errno)) → length ans ≤ i → failed_children (drop i os) (drop i ans) ≡ []
failed_children_past i os ans h = ap (failed_children (drop i os)) (drop_of_length-le ans h) ∙ failed_children_done (drop i os)

-- ---- one more answer

pub answered_more : (i : ℕ) (ans : List (Option Errno)) (x : Option Errno) → i < length ans → take (suc i) (set ans i x) ≡ take i ans ++ x ∷ []
answered_more i [] x h = absurd (omega arith)
answered_more zero (a ∷ ans) x h = refl
answered_more (suc i) (a ∷ ans) x h = ap (λ r. a ∷ r) (answered_more i ans x (omega arith))

-- ---- the law

pub good_of_reads : (read : ℕ → Result (List ℕ) Errno) (order : List ℕ) (bytes : List ℕ) → (first_good read order).found ≡ Some bytes →
    (child : ℕ) × (good_child order (answers_of read order) ≡ Some child) × (read child ≡ Ok bytes)
good_of_reads read [] bytes e = absurd (cc)
good_of_reads read (c ∷ cs) bytes e = go (read c) refl (good_of_reads read cs bytes) e
  where
    go : (r : Result (List ℕ) Errno) → read c ≡ r →
        ((first_good read cs).found ≡ Some bytes → (child : ℕ) × (good_child cs (answers_of read cs) ≡ Some child) × (read child ≡ Ok bytes)) →
        (then_others c r (first_good read cs)).found ≡ Some bytes →
        (child : ℕ) × (good_child (c ∷ cs) (then_answers r (answers_of read cs)) ≡ Some child) × (read child ≡ Ok bytes)
    go (Ok b) is later e = (c, refl, is ∙ ap Ok (some_same b bytes e))
      where
        some_same : (x y : List ℕ) → Some x ≡ Some y → x ≡ y
        some_same x y e = cc
    go (Err b) is later e = later e

pub step_of_good : (order : List ℕ) (answers : List (Option Errno)) (child : ℕ) → good_child order answers ≡ Some child →
    step_of (record { order = order; answers = answers }) ≡ Good child
step_of_good order answers child e = rw e

pub repairs_of_reads : (read : ℕ → Result (List ℕ) Errno) (order : List ℕ) (bytes : List ℕ) → (first_good read order).found ≡ Some bytes →
    failed_children order (answers_of read order) ≡ (first_good read order).failed
repairs_of_reads read [] bytes e = refl
repairs_of_reads read (c ∷ cs) bytes e = go (read c) (repairs_of_reads read cs bytes) e
  where
    go : (r : Result (List ℕ) Errno) →
        ((first_good read cs).found ≡ Some bytes → failed_children cs (answers_of read cs) ≡ (first_good read cs).failed) →
        (then_others c r (first_good read cs)).found ≡ Some bytes →
        failed_children (c ∷ cs) (then_answers r (answers_of read cs)) ≡ (then_others c r (first_good read cs)).failed
    go (Ok b) later e = refl
    go (Err b) later e = ap (λ r. c ∷ r) (later e)

-- where none is good every child has its error
pub bad_of_reads : (read : ℕ → Result (List ℕ) Errno) (order : List ℕ) → (first_good read order).found ≡ None →
    (good_child order (answers_of read order) ≡ None) × (length (answers_of read order) ≡ length order) × (answers_of read order ≡ (first_good read order).errors)
bad_of_reads read [] e = (refl, refl, refl)
bad_of_reads read (c ∷ cs) e = go (read c) (bad_of_reads read cs) e
  where
    go : (r : Result (List ℕ) Errno) →
        ((first_good read cs).found ≡ None → (good_child cs (answers_of read cs) ≡ None) × (length (answers_of read cs) ≡ length cs) × (answers_of read cs ≡ (first_good read cs).errors)) →
        (then_others c r (first_good read cs)).found ≡ None →
        (good_child (c ∷ cs) (then_answers r (answers_of read cs)) ≡ None) × (length (then_answers r (answers_of read cs)) ≡ suc (length cs))
        × (then_answers r (answers_of read cs) ≡ (then_others c r (first_good read cs)).errors)
    go (Ok b) later e = absurd (cc)
    go (Err b) later e = let h = later e in (h.0, ap suc h.1, ap (λ r. Some b ∷ r) h.2)

pub step_of_bad : (order : List ℕ) (answers : List (Option Errno)) → good_child order answers ≡ None → length answers ≡ length order →
    step_of (record { order = order; answers = answers }) ≡ Bad (blame answers)
step_of_bad order answers e len = rw (e, slice_get_past order (length answers) (omega arith))

pub to_repair_good : (order : List ℕ) (answers : List (Option Errno)) (child : ℕ) → good_child order answers ≡ Some child →
    to_repair (record { order = order; answers = answers }) ≡ failed_children order answers
to_repair_good order answers child e = rw e

-- where a child is to be tried there is one without an answer
pub room_to_try : (order : List ℕ) (answers : List (Option Errno)) → IsTrue (is_try (step_of (record { order = order; answers = answers }))) →
    length answers < length order
room_to_try order answers h = go (good_child order answers) (slice_get order (length answers)) refl h
  where
    go : (good untried : Option ℕ) → slice_get order (length answers) ≡ untried → IsTrue (is_try (step_with good untried answers)) → length answers < length order
    go (Some g) untried e h = absurd (true≢false (sym h))
    go None (Some u) e h = slice_get_within order (length answers) u e
    go None None e h = absurd (true≢false (sym h))

-- ---- a pass over the places

pub pass_tries : (s : Setting) (retry : Bool) (good : List ℕ → Bool) (images : Images) (len : ℕ) (places : List Place) →
    ((read_pass s retry good images len places).found ≡ (first_good (place_answer s retry good images len) places).found)
    × ((read_pass s retry good images len places).errors ≡ (first_good (place_answer s retry good images len) places).errors)
pass_tries s retry good images len [] = (refl, refl)
pass_tries s retry good images len (p ∷ ps) =
    go ((read_place s retry good images len p).found) (pass_tries s retry good images len ps)
  where
    tried : Tried ℕ
    tried = read_place s retry good images len p

    others : Pass
    others = read_pass s retry good images len ps

    rest : Tried Place
    rest = first_good (place_answer s retry good images len) ps

    go : (found : Option (List ℕ)) → (others.found ≡ rest.found) × (others.errors ≡ rest.errors) →
        ((passed_with found (map (spot_in p) tried.failed) (map (spot_in p) (leaves_of s p)) tried others).found
        ≡ (then_others p (found_or found tried.errors) rest).found)
        × ((passed_with found (map (spot_in p) tried.failed) (map (spot_in p) (leaves_of s p)) tried others).errors
        ≡ (then_others p (found_or found tried.errors) rest).errors)
    go (Some bytes) h = (refl, refl)
    go None h = (h.0, ap (λ errors. Some (blame tried.errors) ∷ errors) h.1)
