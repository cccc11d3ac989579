-- A place's leaves that are tried in order, and repairs, as a program makes them one by one.
use Rattle.std.proofs.Common.{◌≡◌, ℕ, zero, suc, ◌+◌, ◌-◌, ◌/◌, ◌%◌, ◌<◌, ◌≤◌, List, [], ◌∷◌, ◌++◌, length, map, get_or, take, drop, Bool, Option, Some, Result, Ok, Err, IfOk, Contains, refl, sym, ap, subst, ◌∙◌, arith}
use Rattle.std.specs.List.{AllByRecursion}
use Rattle.zio_types.specs.declared.error.Errno.{Errno}
use Rattle.zio_types.specs.declared.place.Place.{Place}
use Rattle.zio_types.specs.Errors.{worst_error, worst_of}
use Rattle.zio_cksum.specs.Blocks.{Pass, Tried, passed_with, read_pass, read_place, first_good, then_others, in_turn, leaves_of, spot_in, read_order, repaired, turn_size}
use Rattle.zio_cksum.specs.Frames.{spots_of}
use Rattle.zio_cksum.specs.Images.{Images, Setting, Spot, write_leaf}
use Rattle.zio_cksum.proofs.AllLemmas.{all_append, all_contained, all_take, all_drop, all_map, all_unmap}
use Rattle.zio_disks.specs.Disks.{LieOn, good_behind, repairs_in}
use Rattle.zio_disks.specs.declared.read.Good.{Good}
use Rattle.zio_disks.proofs.WriteLemmas.{all_left, all_right, among_then, contains_left, contains_right, first_place_among, lies, other_places_among, rest_of}

-- ---- leaves in order

-- what is known once the first leaf failed and the others are tried
pub record FirstTold (read : ℕ → Result (List ℕ) Errno) (leaves : List ℕ) (bytes : Option (List ℕ)) (count : ℕ) (error : Option Errno) : Type 0 where
  pub found : bytes ≡ (first_good read leaves).found
  pub failed : take count leaves ≡ (first_good read leaves).failed
  pub worst : error ≡ worst_of (first_good read leaves).errors

first_step : (read : ℕ → Result (List ℕ) Errno) (leaf : ℕ) (leaves : List ℕ) (error : Errno) (found : Option (List ℕ)) (failed : ℕ) (worst : Option Errno)
    → Err error ≡ read leaf → FirstTold read leaves found failed worst → FirstTold read (leaf ∷ leaves) found (failed + 1) (worst_error (Some error) worst)
first_step read leaf leaves error found failed worst e h =
    let others : Tried ℕ = first_good read leaves in
    let more : failed + 1 ≡ suc failed = omega arith in
    record {
      found = h.found ∙ ap (λ r. (then_others leaf r others).found) e;
      failed = ap (λ n. take n (leaf ∷ leaves)) more ∙ ap (λ l. leaf ∷ l) h.failed ∙ ap (λ r. (then_others leaf r others).failed) e;
      worst = ap (worst_error (Some error)) h.worst ∙ ap (λ r. worst_of (then_others leaf r others).errors) e;
    }

pub first_told : (read : ℕ → Result (List ℕ) Errno) (leaves : List ℕ) (error : Errno) (found : Option (List ℕ)) (failed : ℕ) (worst : Option Errno)
    → 1 ≤ length leaves → Err error ≡ read (get_or leaves 0 0) → FirstTold read (take (length leaves - 1) (drop 1 leaves)) found failed worst → FirstTold read leaves found (failed + 1) (worst_error (Some error) worst)
first_told read [] error found failed worst some e h = absurd (omega arith)
first_told read (leaf ∷ leaves) error found failed worst some e h =
    first_step read leaf leaves error found failed worst e (subst (λ ls. FirstTold read ls found failed worst) (rest_of leaf leaves) h)

-- ---- repairs

-- writes in turn whose errors are passed over
turn_repaired : (s : Setting) (retry : Bool) (bytes : List ℕ) (spots : List Spot) (images : Images) → (in_turn (write_leaf s retry bytes) spots images).images ≡ repaired s retry bytes spots images
turn_repaired s retry bytes [] images = refl
turn_repaired s retry bytes (spot ∷ spots) images = turn_repaired s retry bytes spots (write_leaf s retry bytes images spot).images

repaired_append : (s : Setting) (retry : Bool) (bytes : List ℕ) (xs ys : List Spot) (images : Images) → repaired s retry bytes ys (repaired s retry bytes xs images) ≡ repaired s retry bytes (xs ++ ys) images
repaired_append s retry bytes [] ys images = refl
repaired_append s retry bytes (x ∷ xs) ys images = repaired_append s retry bytes xs ys (write_leaf s retry bytes images x).images

repairs_first : (s : Setting) (places : List Place) (any : Place) (before : ℕ) (failed : List ℕ) → 1 ≤ length places → before ≡ 0 → map (spot_in (get_or places 0 any)) failed ≡ repairs_in s places before failed
repairs_first s [] any before failed some e = absurd (omega arith)
repairs_first s (p ∷ ps) any zero failed some e = refl
repairs_first s (p ∷ ps) any (suc before) failed some e = absurd (omega arith)

repairs_later : (s : Setting) (places : List Place) (any : Place) (before : ℕ) (failed : List ℕ) → 1 ≤ length places → 0 < before
    → repairs_in s places before failed ≡ map (spot_in (get_or places 0 any)) (leaves_of s (get_or places 0 any)) ++ repairs_in s (take (length places - 1) (drop 1 places)) (before - 1) failed
repairs_later s [] any before failed some h = absurd (omega arith)
repairs_later s (p ∷ ps) any zero failed some h = absurd (omega arith)
repairs_later s (p ∷ ps) any (suc before) failed some h =
    let less : before ≡ suc before - 1 = omega arith in
    ap (λ n. map (spot_in p) (leaves_of s p) ++ repairs_in s ps n failed) less
    ∙ ap (λ rest. map (spot_in p) (leaves_of s p) ++ repairs_in s rest (suc before - 1) failed) (sym (rest_of p ps))

-- in the place of the good leaf
pub first_repaired : (s : Setting) (retry : Bool) (bytes : List ℕ) (places : List Place) (any : Place) (before : ℕ) (failed : List ℕ) (images : Images) → 1 ≤ length places → before ≡ 0
    → (in_turn (write_leaf s retry bytes) (map (spot_in (get_or places 0 any)) failed) images).images ≡ repaired s retry bytes (repairs_in s places before failed) images
first_repaired s retry bytes places any before failed images some e =
    turn_repaired s retry bytes (map (spot_in (get_or places 0 any)) failed) images
    ∙ ap (λ spots. repaired s retry bytes spots images) (repairs_first s places any before failed some e)

-- in a place before it, and then in the others
pub later_repaired : (s : Setting) (retry : Bool) (bytes : List ℕ) (places : List Place) (any : Place) (before : ℕ) (failed : List ℕ) (images : Images) → 1 ≤ length places → 0 < before
    → repaired s retry bytes (repairs_in s (take (length places - 1) (drop 1 places)) (before - 1) failed)
    (in_turn (write_leaf s retry bytes) (map (spot_in (get_or places 0 any)) (leaves_of s (get_or places 0 any))) images).images
    ≡ repaired s retry bytes (repairs_in s places before failed) images
later_repaired s retry bytes places any before failed images some h =
    let p : Place = get_or places 0 any in
    let first : List Spot = map (spot_in p) (leaves_of s p) in
    let rest : List Spot = repairs_in s (take (length places - 1) (drop 1 places)) (before - 1) failed in
    ap (λ i. repaired s retry bytes rest i) (turn_repaired s retry bytes first images)
    ∙ repaired_append s retry bytes first rest images
    ∙ ap (λ spots. repaired s retry bytes spots images) (sym (repairs_later s places any before failed some h))

-- where the repairs lie
pub first_repairs_lie : (s : Setting) (sizes : List ℕ) (len : ℕ) (places : List Place) (any : Place) (before : ℕ) (failed : List ℕ) → 1 ≤ length places → 0 < before
    → LieOn sizes len (repairs_in s places before failed) → LieOn sizes len (map (spot_in (get_or places 0 any)) (leaves_of s (get_or places 0 any)))
first_repairs_lie s sizes len places any before failed some h all =
    all_left (lies sizes len) _ (repairs_in s (take (length places - 1) (drop 1 places)) (before - 1) failed)
    (subst (LieOn sizes len) (repairs_later s places any before failed some h) all)

pub later_repairs_lie : (s : Setting) (old new : List ℕ) (len : ℕ) (places : List Place) (any : Place) (before : ℕ) (failed : List ℕ) → 1 ≤ length places → 0 < before → new ≡ old
    → LieOn old len (repairs_in s places before failed) → LieOn new len (repairs_in s (take (length places - 1) (drop 1 places)) (before - 1) failed)
later_repairs_lie s old new len places any before failed some h e all =
    let rest : List Spot = repairs_in s (take (length places - 1) (drop 1 places)) (before - 1) failed in
    subst (λ sizes. LieOn sizes len rest) (sym e)
    (all_right (lies old len) (map (spot_in (get_or places 0 any)) (leaves_of s (get_or places 0 any))) rest
    (subst (LieOn old len) (repairs_later s places any before failed some h) all))

-- the repairs of the first place, and of those behind it, are among all
pub here_among : (s : Setting) (places : List Place) (any : Place) (before : ℕ) (failed : List ℕ) → 1 ≤ length places → before ≡ 0
    → AllByRecursion (Contains (repairs_in s places before failed)) (map (spot_in (get_or places 0 any)) failed)
here_among s places any before failed some e =
    subst (λ spots. AllByRecursion (Contains spots) (map (spot_in (get_or places 0 any)) failed)) (repairs_first s places any before failed some e)
    (all_contained (map (spot_in (get_or places 0 any)) failed))

pub first_among : (s : Setting) (places : List Place) (any : Place) (before : ℕ) (failed : List ℕ) → 1 ≤ length places → 0 < before
    → AllByRecursion (Contains (repairs_in s places before failed)) (map (spot_in (get_or places 0 any)) (leaves_of s (get_or places 0 any)))
first_among s places any before failed some h =
    let first : List Spot = map (spot_in (get_or places 0 any)) (leaves_of s (get_or places 0 any)) in
    subst (λ spots. AllByRecursion (Contains spots) first) (sym (repairs_later s places any before failed some h))
    (contains_left first (repairs_in s (take (length places - 1) (drop 1 places)) (before - 1) failed))

pub later_among : (s : Setting) (places : List Place) (any : Place) (before : ℕ) (failed : List ℕ) → 1 ≤ length places → 0 < before
    → AllByRecursion (Contains (repairs_in s places before failed)) (repairs_in s (take (length places - 1) (drop 1 places)) (before - 1) failed)
later_among s places any before failed some h =
    let first : List Spot = map (spot_in (get_or places 0 any)) (leaves_of s (get_or places 0 any)) in
    let rest : List Spot = repairs_in s (take (length places - 1) (drop 1 places)) (before - 1) failed in
    subst (λ spots. AllByRecursion (Contains spots) rest) (sym (repairs_later s places any before failed some h))
    (contains_right first rest)

-- ---- the order of reads

-- of the leaves in the order of reads all holds that holds of each leaf
all_ordered : (P : Spot → Type 0) (place : Place) (offset : ℕ) (leaves : List ℕ) → AllByRecursion P (map (spot_in place) leaves) → AllByRecursion P (map (spot_in place) (read_order offset leaves))
all_ordered P place offset leaves h =
    let n : ℕ = offset / turn_size % length leaves in
    let Q : ℕ → Type 0 = λ leaf. P (spot_in place leaf) in
    let each : AllByRecursion Q leaves = all_unmap P (spot_in place) leaves h in
    all_map P (spot_in place) (read_order offset leaves)
    (all_append Q (drop n leaves) (take n leaves) (all_drop Q n leaves each) (all_take Q n leaves each))

pub order_lies : (sizes : List ℕ) (len : ℕ) (place : Place) (offset : ℕ) (leaves : List ℕ) → LieOn sizes len (map (spot_in place) leaves) → LieOn sizes len (map (spot_in place) (read_order offset leaves))
order_lies sizes len place offset leaves h = all_ordered (lies sizes len) place offset leaves h

-- the first leaves in that order are among the place's
pub taken_among : (place : Place) (count offset : ℕ) (leaves : List ℕ) → AllByRecursion (Contains (map (spot_in place) leaves)) (map (spot_in place) (take count (read_order offset leaves)))
taken_among place count offset leaves =
    let all : List Spot = map (spot_in place) leaves in
    let P : ℕ → Type 0 = λ leaf. Contains all (spot_in place leaf) in
    all_map (Contains all) (spot_in place) (take count (read_order offset leaves))
    (all_take P count (read_order offset leaves)
    (all_unmap (Contains all) (spot_in place) (read_order offset leaves) (all_ordered (Contains all) place offset leaves (all_contained all))))

-- ---- places in order

-- the repairs of a pass are among the spots of its places
pub here_repairs_among : (s : Setting) (places : List Place) (any : Place) (before : ℕ) (failed : List ℕ) → 1 ≤ length places → before ≡ 0
    → AllByRecursion (Contains (map (spot_in (get_or places 0 any)) (leaves_of s (get_or places 0 any)))) (map (spot_in (get_or places 0 any)) failed)
    → AllByRecursion (Contains (spots_of s places)) (repairs_in s places before failed)
here_repairs_among s places any before failed some e h =
    let first : List Spot = map (spot_in (get_or places 0 any)) (leaves_of s (get_or places 0 any)) in
    subst (AllByRecursion (Contains (spots_of s places))) (repairs_first s places any before failed some e)
    (among_then (map (spot_in (get_or places 0 any)) failed) first (spots_of s places) h (first_place_among s places any some))

behind_among : (s : Setting) (places : List Place) (any : Place) (before : ℕ) (failed : List ℕ) → 1 ≤ length places
    → AllByRecursion (Contains (spots_of s (take (length places - 1) (drop 1 places)))) (repairs_in s (take (length places - 1) (drop 1 places)) before failed)
    → AllByRecursion (Contains (spots_of s places)) (repairs_in s places (before + 1) failed)
behind_among s places any before failed some h =
    let others : List Place = take (length places - 1) (drop 1 places) in
    let first : List Spot = map (spot_in (get_or places 0 any)) (leaves_of s (get_or places 0 any)) in
    let all : List Spot = spots_of s places in
    let less : before + 1 - 1 ≡ before = omega arith in
    let more : 0 < before + 1 = omega arith in
    subst (AllByRecursion (Contains all)) (sym (repairs_later s places any (before + 1) failed some more))
    (all_append (Contains all) first (repairs_in s others (before + 1 - 1) failed) (first_place_among s places any some)
    (subst (λ n. AllByRecursion (Contains all) (repairs_in s others n failed)) (sym less)
    (among_then (repairs_in s others before failed) (spots_of s others) all h (other_places_among s places some))))

pub good_behind_among : (s : Setting) (places : List Place) (any : Place) (error : Errno) (others result : Result Good (Option Errno)) → 1 ≤ length places
    → result ≡ good_behind error others
    → IfOk others (λ good. AllByRecursion (Contains (spots_of s (take (length places - 1) (drop 1 places)))) (repairs_in s (take (length places - 1) (drop 1 places)) good.before good.failed))
    → IfOk result (λ good. AllByRecursion (Contains (spots_of s places)) (repairs_in s places good.before good.failed))
good_behind_among s places any error (Ok good) result some is h =
    subst (λ r. IfOk r (λ g. AllByRecursion (Contains (spots_of s places)) (repairs_in s places g.before g.failed))) (sym is)
    (behind_among s places any good.before good.failed some h)
good_behind_among s places any error (Err worst) result some is h =
    subst (λ r. IfOk r (λ g. AllByRecursion (Contains (spots_of s places)) (repairs_in s places g.before g.failed))) (sym is) tt

-- good bytes behind a place are good bytes
pub good_behind_good : (P : Type 0) (error : Errno) (others result : Result Good (Option Errno)) → result ≡ good_behind error others → IfOk others (λ _. P) → IfOk result (λ _. P)
good_behind_good P error (Ok good) result is h = subst (λ r. IfOk r (λ _. P)) (sym is) h
good_behind_good P error (Err worst) result is h = subst (λ r. IfOk r (λ _. P)) (sym is) tt

-- the first place has a good leaf
pub first_taken : (s : Setting) (retry : Bool) (good : List ℕ → Bool) (images : Images) (len : ℕ) (places : List Place) (any : Place) (bytes : List ℕ) (before : ℕ) (failed : List ℕ) → 1 ≤ length places → before ≡ 0
    → Some bytes ≡ (read_place s retry good images len (get_or places 0 any)).found → failed ≡ (read_place s retry good images len (get_or places 0 any)).failed
    → (Some bytes ≡ (read_pass s retry good images len places).found) × (repairs_in s places before failed ≡ (read_pass s retry good images len places).repairs)
first_taken s retry good images len [] any bytes before failed some e found is = absurd (omega arith)
first_taken s retry good images len (p ∷ ps) any bytes (suc before) failed some e found is = absurd (omega arith)
first_taken s retry good images len (p ∷ ps) any bytes zero failed some e found is =
    let tried : Tried ℕ = read_place s retry good images len p in
    let others : Pass = read_pass s retry good images len ps in
    let bad : List Spot = map (spot_in p) tried.failed in
    let all : List Spot = map (spot_in p) (leaves_of s p) in
    (ap (λ f. (passed_with f bad all tried others).found) found, ap (map (spot_in p)) is ∙ ap (λ f. (passed_with f bad all tried others).repairs) found)
