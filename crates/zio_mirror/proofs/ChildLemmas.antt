-- A place's leaves and a block's places as the children of plans.
use Rattle.std.proofs.Common.{◌≡◌, ℕ, zero, suc, ◌%◌, ◌/◌, ◌<◌, List, [], ◌∷◌, ◌++◌, length, map, get_or, take, drop, Bool, Option, Some, None, Result, Ok, Err, slice_get, refl, sym, ap, subst, ◌∙◌, arith, append_assoc}
use Rattle.std.proofs.lemmas.List.{map-append}
use Rattle.std.proofs.lemmas.List.FromFn.{fill_by_all}
use Rattle.zio_types.specs.declared.error.Errno.{Errno}
use Rattle.zio_types.specs.declared.place.Place.{Place}
use Rattle.zio_types.specs.Choices.{no_place}
use Rattle.zio_cksum.specs.Blocks.{Pass, Tried, blame, first_good, found_or, leaves_of, passed_with, read_order, read_pass, read_place, rotated, spot_in, then_others, turn_size}
use Rattle.zio_cksum.specs.Frames.{spots_of}
use Rattle.zio_cksum.specs.Images.{Images, Setting, Spot}
use Rattle.zio_mirror.specs.declared.plan.PlanStep.TheVariants.{Bad, Try}
use Rattle.zio_mirror.specs.Plans.{answered_by, answers_of, children, failed_children, good_child, place_answer, place_of, read_copy, step_of, step_with, then_answers}
use Rattle.zio_mirror.proofs.PlanLemmas.{bad_of_reads, length-children, pass_tries, step_of_bad}

-- ---- the step before the end

none_before : (read : ℕ → Result (List ℕ) Errno) (order : List ℕ) (k : ℕ) → k < length (answers_of read order) →
    good_child order (take k (answers_of read order)) ≡ None
none_before read [] k h = absurd (omega arith)
none_before read (c ∷ cs) zero h = refl
none_before read (c ∷ cs) (suc k) h = go (read c) h (none_before read cs k)
  where
    go : (r : Result (List ℕ) Errno) → suc k < length (then_answers r (answers_of read cs)) →
        (k < length (answers_of read cs) → good_child cs (take k (answers_of read cs)) ≡ None) →
        good_child (c ∷ cs) (take (suc k) (then_answers r (answers_of read cs))) ≡ None
    go (Ok bytes) h later = absurd (omega arith)
    go (Err e) h later = later (omega arith)

next_untried : (read : ℕ → Result (List ℕ) Errno) (order : List ℕ) (k : ℕ) → k < length (answers_of read order) →
    slice_get order (length (take k (answers_of read order))) ≡ Some (get_or order k 0)
next_untried read [] k h = absurd (omega arith)
next_untried read (c ∷ cs) zero h = refl
next_untried read (c ∷ cs) (suc k) h = go (read c) h (next_untried read cs k)
  where
    go : (r : Result (List ℕ) Errno) → suc k < length (then_answers r (answers_of read cs)) →
        (k < length (answers_of read cs) → slice_get cs (length (take k (answers_of read cs))) ≡ Some (get_or cs k 0)) →
        slice_get (c ∷ cs) (length (take (suc k) (then_answers r (answers_of read cs)))) ≡ Some (get_or (c ∷ cs) (suc k) 0)
    go (Ok bytes) h later = absurd (omega arith)
    go (Err e) h later = later (omega arith)

pub tries_next : (read : ℕ → Result (List ℕ) Errno) (order : List ℕ) (k : ℕ) → k < length (answers_of read order) →
    step_of (record { order = order; answers = take k (answers_of read order) }) ≡ Try (get_or order k 0)
tries_next read order k h =
    let answers : List (Option Errno) = take k (answers_of read order) in
    ap (λ g. step_with g (slice_get order (length answers)) answers) (none_before read order k h)
    ∙ ap (λ u. step_with None u answers) (next_untried read order k h)

-- ---- items by their numbers

map_drop : {X Y : Type 0} (f : X → Y) (n : ℕ) (xs : List X) → map f (drop n xs) ≡ drop n (map f xs)
map_drop f zero xs = refl
map_drop f (suc n) [] = refl
map_drop f (suc n) (x ∷ xs) = map_drop f n xs

map_take : {X Y : Type 0} (f : X → Y) (n : ℕ) (xs : List X) → map f (take n xs) ≡ take n (map f xs)
map_take f zero xs = refl
map_take f (suc n) [] = refl
map_take f (suc n) (x ∷ xs) = ap (λ ys. f x ∷ ys) (map_take f n xs)

map_rotated : (f : ℕ → ℕ) (n : ℕ) (xs : List ℕ) → map f (rotated n xs) ≡ rotated n (map f xs)
map_rotated f n xs =
    map-append f (drop n xs) (take n xs) ∙ ap (λ a. a ++ map f (take n xs)) (map_drop f n xs)
    ∙ ap (λ b. drop n (map f xs) ++ b) (map_take f n xs)

pub children_of : {X : Type 0} (xs : List X) (d : X) → map (λ i. get_or xs i d) (children (length xs)) ≡ xs
children_of xs d = sym (fill_by_all (λ i. get_or xs i d) xs (length xs) d refl (λ k h. refl))

-- ---- tried by their numbers

pub tried_by : {C : Type 0} (f : ℕ → C) (read : C → Result (List ℕ) Errno) (cs : List ℕ) →
    ((first_good read (map f cs)).found ≡ (first_good (λ c. read (f c)) cs).found)
    × ((first_good read (map f cs)).failed ≡ map f (first_good (λ c. read (f c)) cs).failed)
    × ((first_good read (map f cs)).errors ≡ (first_good (λ c. read (f c)) cs).errors)
tried_by f read [] = (refl, refl, refl)
tried_by {C} f read (c ∷ cs) = go (read (f c)) (tried_by f read cs)
  where
    here : Tried C
    here = first_good read (map f cs)

    there : Tried ℕ
    there = first_good (λ c. read (f c)) cs

    go : (r : Result (List ℕ) Errno) → (here.found ≡ there.found) × (here.failed ≡ map f there.failed) × (here.errors ≡ there.errors) →
        ((then_others (f c) r here).found ≡ (then_others c r there).found)
        × ((then_others (f c) r here).failed ≡ map f (then_others c r there).failed)
        × ((then_others (f c) r here).errors ≡ (then_others c r there).errors)
    go (Ok bytes) h = (refl, refl, refl)
    go (Err e) h = (h.0, ap (λ xs. f c ∷ xs) h.1, ap (λ xs. Some e ∷ xs) h.2)

-- the leaves in the order of reads, by their numbers
pub order_of : (offset : ℕ) (leaves : List ℕ) → map (λ i. get_or leaves i 0) (read_order offset (children (length leaves))) ≡ read_order offset leaves
order_of offset leaves =
    let n : ℕ = length leaves in
    map_rotated (λ i. get_or leaves i 0) (offset / turn_size % length (children n)) (children n)
    ∙ ap (λ k. rotated (offset / turn_size % k) (map (λ i. get_or leaves i 0) (children n))) (length-children n)
    ∙ ap (rotated (offset / turn_size % n)) (children_of leaves 0)

-- ---- what a pass rewrites

-- the good child, what its read gave and what is rewritten
pub record Repaired (s : Setting) (retry : Bool) (good : List ℕ → Bool) (images : Images) (len : ℕ) (f : ℕ → Place) (cs : List ℕ) (bytes : List ℕ) (repairs : List Spot) : Type 0 where
  pub child : ℕ
  pub is_good : good_child cs (answers_of (λ c. place_answer s retry good images len (f c)) cs) ≡ Some child
  pub gave : place_answer s retry good images len (f child) ≡ Ok bytes
  pub rewritten : repairs
      ≡ spots_of s (map f (failed_children cs (answers_of (λ c. place_answer s retry good images len (f c)) cs)))
      ++ map (spot_in (f child)) (read_place s retry good images len (f child)).failed

pub pass_repairs : (s : Setting) (retry : Bool) (good : List ℕ → Bool) (images : Images) (len : ℕ) (f : ℕ → Place) (cs : List ℕ) (bytes : List ℕ) →
    (read_pass s retry good images len (map f cs)).found ≡ Some bytes →
    Repaired s retry good images len f cs bytes (read_pass s retry good images len (map f cs)).repairs
pass_repairs s retry good images len f [] bytes e = absurd (cc)
pass_repairs s retry good images len f (c ∷ cs) bytes e = go tried.found refl (pass_repairs s retry good images len f cs bytes) e
  where
    tried : Tried ℕ
    tried = read_place s retry good images len (f c)

    others : Pass
    others = read_pass s retry good images len (map f cs)

    read : ℕ → Result (List ℕ) Errno
    read c = place_answer s retry good images len (f c)

    pass : Option (List ℕ) → Pass
    pass found = passed_with found (map (spot_in (f c)) tried.failed) (map (spot_in (f c)) (leaves_of s (f c))) tried others

    go : (found : Option (List ℕ)) → tried.found ≡ found →
        (others.found ≡ Some bytes → Repaired s retry good images len f cs bytes others.repairs) →
        (pass found).found ≡ Some bytes → Repaired s retry good images len f (c ∷ cs) bytes (pass found).repairs
    go (Some b) is later e =
        let answer : read c ≡ Ok b = ap (λ o. found_or o tried.errors) is in
        let same : b ≡ bytes = cc in
        record {
          child = c;
          is_good = ap (λ r. good_child (c ∷ cs) (then_answers r (answers_of read cs))) answer;
          gave = answer ∙ ap Ok same;
          rewritten = ap (λ r. spots_of s (map f (failed_children (c ∷ cs) (then_answers r (answers_of read cs)))) ++ map (spot_in (f c)) tried.failed) (sym answer);
        }
    go None is later e =
        let answer : read c ≡ Err (blame tried.errors) = ap (λ o. found_or o tried.errors) is in
        let rest : Repaired s retry good images len f cs bytes others.repairs = later e in
        let all : List Spot = map (spot_in (f c)) (leaves_of s (f c)) in
        let last : List Spot = map (spot_in (f rest.child)) (read_place s retry good images len (f rest.child)).failed in
        record {
          child = rest.child;
          is_good = ap (λ r. good_child (c ∷ cs) (then_answers r (answers_of read cs))) answer ∙ rest.is_good;
          gave = rest.gave;
          rewritten =
              ap (λ r. all ++ r) rest.rewritten
              ∙ sym (append_assoc all (spots_of s (map f (failed_children cs (answers_of read cs)))) last)
              ∙ ap (λ r. spots_of s (map f (failed_children (c ∷ cs) (then_answers r (answers_of read cs)))) ++ last) (sym answer);
        }

pub copies_good : (s : Setting) (retry : Bool) (good : List ℕ → Bool) (images : Images) (len : ℕ) (places : List Place) (bytes : List ℕ) →
    (read_pass s retry good images len places).found ≡ Some bytes →
    Repaired s retry good images len (place_of places) (children (length places)) bytes (read_pass s retry good images len places).repairs
copies_good s retry good images len places bytes e =
    let P : List Place → Type 0 = λ ps. (read_pass s retry good images len ps).found ≡ Some bytes →
    Repaired s retry good images len (place_of places) (children (length places)) bytes (read_pass s retry good images len ps).repairs in
    subst P (children_of places no_place) (pass_repairs s retry good images len (place_of places) (children (length places)) bytes) e

pub copies_bad : (s : Setting) (retry : Bool) (good : List ℕ → Bool) (images : Images) (len : ℕ) (places : List Place) →
    (read_pass s retry good images len places).found ≡ None →
    step_of (answered_by (read_copy s retry good images len places) (children (length places))) ≡ Bad (blame (read_pass s retry good images len places).errors)
copies_bad s retry good images len places e =
    let cs : List ℕ = children (length places) in
    let read : Place → Result (List ℕ) Errno = place_answer s retry good images len in
    let passed = pass_tries s retry good images len places in
    let tried = tried_by (place_of places) read cs in
    let all : map (place_of places) cs ≡ places = children_of places no_place in
    let found : (first_good (read_copy s retry good images len places) cs).found ≡ None =
    sym tried.0 ∙ ap (λ ps. (first_good read ps).found) all ∙ sym passed.0 ∙ e in
    let errors : (first_good (read_copy s retry good images len places) cs).errors ≡ (read_pass s retry good images len places).errors =
    sym tried.2 ∙ ap (λ ps. (first_good read ps).errors) all ∙ sym passed.1 in
    let bad = bad_of_reads (read_copy s retry good images len places) cs found in
    step_of_bad cs (answers_of (read_copy s retry good images len places) cs) bad.0 bad.1
    ∙ ap (λ errors. Bad (blame errors)) (bad.2 ∙ errors)
