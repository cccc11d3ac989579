-- A read leaves the images as they were outside what it repairs, and what it finds is good and as long as was asked.
use Rattle.std.proofs.Common.{◌≡◌, ℕ, ◌+◌, ◌/◌, ◌%◌, ◌≤◌, List, [], ◌∷◌, length, map, take, drop, Bool, true, false, Option, Some, None, Result, Ok, Err, IfOk, IfSome, IsTrue, Contains, subst, sym, refl, arith, length-take, length-drop}
use Rattle.std.specs.List.{AllByRecursion}
use Rattle.zio_types.specs.declared.error.Errno.{Errno}
use Rattle.zio_types.specs.declared.place.Place.{Place}
use Rattle.zio_faults.specs.declared.table.Hit.{Hit}
use Rattle.zio_faults.specs.declared.table.FaultKind.{FaultKind}
use Rattle.zio_faults.specs.declared.table.FaultKind.TheVariants.{Eio, Gone, Flip}
use Rattle.zio_cksum.specs.Headers.{offset_of}
use Rattle.zio_cksum.specs.Images.{Images, Setting, Spot, image_of, bytes_at, met, faulty_read, read_met, read_leaf, write_leaf}
use Rattle.zio_cksum.specs.Blocks.{Tried, Pass, spot_in, leaves_of, read_order, judged, judged_by, first_good, then_others, read_place, passed_with, read_pass, repaired, repaired_if, last_pass_with, first_pass_with, read_block, turn_size}
use Rattle.zio_cksum.specs.Frames.{FitSpots, HaveRoom, SameOutside, spots_of}
use Rattle.zio_cksum.proofs.AllLemmas.{all_contains, all_weaker, all_append, all_take, all_drop, all_map, all_unmap, all_contained, all_true}
use Rattle.zio_cksum.proofs.ByteLemmas.{length-flipped}
use Rattle.zio_cksum.proofs.FrameLemmas.{AreAmong, places_among, same_itself, same_then, fit_same, spot_fits, write_same}

-- ---- one leaf

-- where they lie on the image, as many bytes are there as were asked
length-bytes_at : (images : Images) (spot : Spot) (len : ℕ) → len ≤ spot.span → spot.at + spot.span ≤ length (image_of images spot.leaf) → length (bytes_at images spot len) ≡ len
length-bytes_at images spot len room fit =
    omega (arith, length-take len (drop spot.at (image_of images spot.leaf)), length-drop spot.at (image_of images spot.leaf))

-- an answer with bytes has as many as the image gave
faulty_has : (N : ℕ → Type 0) (kind : FaultKind) (hit : Hit) (at : ℕ) (bytes : List ℕ) → N (length bytes) → IfOk (faulty_read kind hit at bytes) (λ b. N (length b))
faulty_has N Eio hit at bytes h = tt
faulty_has N Gone hit at bytes h = tt
faulty_has N Flip hit at bytes h = subst N (sym (length-flipped at hit bytes)) h

met_has : (N : ℕ → Type 0) (hit : Option Hit) (at : ℕ) (bytes : List ℕ) → N (length bytes) → IfOk (read_met hit at bytes) (λ b. N (length b))
met_has N None at bytes h = h
met_has N (Some hit) at bytes h = faulty_has N hit.kind hit at bytes h

-- whatever row it meets, what a leaf answers is as long as was asked
leaf_length : (s : Setting) (retry : Bool) (images : Images) (len : ℕ) (spot : Spot) → len ≤ spot.span → spot.at + spot.span ≤ length (image_of images spot.leaf) → IfOk (read_leaf s retry images len spot) (λ b. length b ≡ len)
leaf_length s retry images len spot room fit =
    met_has (λ n. n ≡ len) (met s retry false spot) spot.at (bytes_at images spot len) (length-bytes_at images spot len room fit)

-- past the image's end it is shorter
leaf_at_most : (s : Setting) (retry : Bool) (images : Images) (len : ℕ) (spot : Spot) → IfOk (read_leaf s retry images len spot) (λ b. length b ≤ len)
leaf_at_most s retry images len spot =
    met_has (λ n. n ≤ len) (met s retry false spot) spot.at (bytes_at images spot len)
    (omega (arith, length-take len (drop spot.at (image_of images spot.leaf))))

judged_by_keeps : (Q : List ℕ → Type 0) (t : Bool) (bytes : List ℕ) → Q bytes → IfOk (judged_by t bytes) Q
judged_by_keeps Q true bytes h = h
judged_by_keeps Q false bytes h = tt

-- a verdict changes no bytes
judged_keeps : (Q : List ℕ → Type 0) (good : List ℕ → Bool) (r : Result (List ℕ) Errno) → IfOk r Q → IfOk (judged good r) Q
judged_keeps Q good (Ok bytes) h = judged_by_keeps Q (good bytes) bytes h
judged_keeps Q good (Err e) h = tt

judged_by_good : (Q : List ℕ → Type 0) (t : Bool) (bytes : List ℕ) → (t ≡ true → Q bytes) → IfOk (judged_by t bytes) Q
judged_by_good Q true bytes h = h refl
judged_by_good Q false bytes h = tt

-- what is judged good is good
judged_good : (good : List ℕ → Bool) (r : Result (List ℕ) Errno) → IfOk (judged good r) (λ b. IsTrue (good b))
judged_good good (Ok bytes) = judged_by_good (λ b. IsTrue (good b)) (good bytes) bytes (λ e. e)
judged_good good (Err e) = tt

-- ---- candidates in turn

then_found : {C : Type 0} (Q : List ℕ → Type 0) (c : C) (r : Result (List ℕ) Errno) (others : Tried C) → IfOk r Q → IfSome others.found Q → IfSome ((then_others c r others).found) Q
then_found Q c (Ok bytes) others h k = h
then_found Q c (Err e) others h k = k

-- what is found has what each candidate's answer has
found_has : {C : Type 0} (Q : List ℕ → Type 0) (read : C → Result (List ℕ) Errno) (cs : List C) → AllByRecursion (λ c. IfOk (read c) Q) cs → IfSome ((first_good read cs).found) Q
found_has Q read [] h = tt
found_has Q read (c ∷ cs) h = then_found Q c (read c) (first_good read cs) h.0 (found_has Q read cs h.1)

then_failed : {C : Type 0} (P : C → Type 0) (c : C) (r : Result (List ℕ) Errno) (others : Tried C) → P c → AllByRecursion P others.failed → AllByRecursion P ((then_others c r others).failed)
then_failed P c (Ok bytes) others h k = tt
then_failed P c (Err e) others h k = (h, k)

-- those that failed are candidates
failed_has : {C : Type 0} (P : C → Type 0) (read : C → Result (List ℕ) Errno) (cs : List C) → AllByRecursion P cs → AllByRecursion P ((first_good read cs).failed)
failed_has P read [] h = tt
failed_has P read (c ∷ cs) h = then_failed P c (read c) (first_good read cs) h.0 (failed_has P read cs h.1)

-- ---- one place

-- the order of reads has no other leaves
order_has : (P : ℕ → Type 0) (offset : ℕ) (leaves : List ℕ) → AllByRecursion P leaves → AllByRecursion P (read_order offset leaves)
order_has P offset leaves h =
    let n : ℕ = offset / turn_size % length leaves in
    all_append P (drop n leaves) (take n leaves) (all_drop P n leaves h) (all_take P n leaves h)

leaves_among : (spots : List Spot) (s : Setting) (p : Place) → AreAmong spots s p → AllByRecursion (λ leaf. Contains spots (spot_in p leaf)) (leaves_of s p)
leaves_among spots s p h = all_unmap (Contains spots) (spot_in p) (leaves_of s p) h

-- where its copies lie on their leaves, a place gives as many bytes as were asked
place_length : (spots : List Spot) (s : Setting) (retry : Bool) (good : List ℕ → Bool) (images : Images) (len : ℕ) (p : Place) → HaveRoom len spots → FitSpots spots images → AreAmong spots s p → IfSome ((read_place s retry good images len p).found) (λ b. length b ≡ len)
place_length spots s retry good images len p room fit among =
    found_has (λ b. length b ≡ len) (λ leaf. judged good (read_leaf s retry images len (spot_in p leaf))) (read_order (offset_of p) (leaves_of s p))
    (order_has (λ leaf. IfOk (judged good (read_leaf s retry images len (spot_in p leaf))) (λ b. length b ≡ len)) (offset_of p) (leaves_of s p)
    (all_weaker (λ leaf. Contains spots (spot_in p leaf)) (λ leaf. IfOk (judged good (read_leaf s retry images len (spot_in p leaf))) (λ b. length b ≡ len)) (leaves_of s p)
    (λ leaf c. judged_keeps (λ b. length b ≡ len) good (read_leaf s retry images len (spot_in p leaf))
    (leaf_length s retry images len (spot_in p leaf)
    (all_contains (λ (t : Spot). len ≤ t.span) spots (spot_in p leaf) room c)
    (spot_fits spots images (spot_in p leaf) fit c)))
    (leaves_among spots s p among)))

-- what a place gives is good
place_good : (s : Setting) (retry : Bool) (good : List ℕ → Bool) (images : Images) (len : ℕ) (p : Place) → IfSome ((read_place s retry good images len p).found) (λ b. IsTrue (good b))
place_good s retry good images len p =
    found_has (λ b. IsTrue (good b)) (λ leaf. judged good (read_leaf s retry images len (spot_in p leaf))) (read_order (offset_of p) (leaves_of s p))
    (all_true (λ leaf. IfOk (judged good (read_leaf s retry images len (spot_in p leaf))) (λ b. IsTrue (good b))) (read_order (offset_of p) (leaves_of s p))
    (λ leaf. judged_good good (read_leaf s retry images len (spot_in p leaf))))

-- a place gives at most as many bytes as were asked
place_at_most : (s : Setting) (retry : Bool) (good : List ℕ → Bool) (images : Images) (len : ℕ) (p : Place) → IfSome ((read_place s retry good images len p).found) (λ b. length b ≤ len)
place_at_most s retry good images len p =
    found_has (λ b. length b ≤ len) (λ leaf. judged good (read_leaf s retry images len (spot_in p leaf))) (read_order (offset_of p) (leaves_of s p))
    (all_true (λ leaf. IfOk (judged good (read_leaf s retry images len (spot_in p leaf))) (λ b. length b ≤ len)) (read_order (offset_of p) (leaves_of s p))
    (λ leaf. judged_keeps (λ b. length b ≤ len) good (read_leaf s retry images len (spot_in p leaf)) (leaf_at_most s retry images len (spot_in p leaf))))

-- leaves that failed lie at the place's spots
place_failed : (spots : List Spot) (s : Setting) (retry : Bool) (good : List ℕ → Bool) (images : Images) (len : ℕ) (p : Place) → AreAmong spots s p → AllByRecursion (Contains spots) (map (spot_in p) ((read_place s retry good images len p).failed))
place_failed spots s retry good images len p among =
    all_map (Contains spots) (spot_in p) ((read_place s retry good images len p).failed)
    (failed_has (λ leaf. Contains spots (spot_in p leaf)) (λ leaf. judged good (read_leaf s retry images len (spot_in p leaf))) (read_order (offset_of p) (leaves_of s p))
    (order_has (λ leaf. Contains spots (spot_in p leaf)) (offset_of p) (leaves_of s p) (leaves_among spots s p among)))

-- ---- one pass

passed_found : (Q : List ℕ → Type 0) (found : Option (List ℕ)) (bad all : List Spot) (tried : Tried ℕ) (others : Pass) → IfSome found Q → IfSome others.found Q → IfSome ((passed_with found bad all tried others).found) Q
passed_found Q (Some bytes) bad all tried others h k = h
passed_found Q None bad all tried others h k = k

-- what a pass finds has what each place's finding has
pass_found : (Q : List ℕ → Type 0) (s : Setting) (retry : Bool) (good : List ℕ → Bool) (images : Images) (len : ℕ) (places : List Place) → AllByRecursion (λ p. IfSome ((read_place s retry good images len p).found) Q) places → IfSome ((read_pass s retry good images len places).found) Q
pass_found Q s retry good images len [] h = tt
pass_found Q s retry good images len (p ∷ ps) h =
    let tried : Tried ℕ = read_place s retry good images len p in
    passed_found Q tried.found (map (spot_in p) tried.failed) (map (spot_in p) (leaves_of s p)) tried (read_pass s retry good images len ps) h.0
    (pass_found Q s retry good images len ps h.1)

passed_repairs : (P : Spot → Type 0) (found : Option (List ℕ)) (bad all : List Spot) (tried : Tried ℕ) (others : Pass) → AllByRecursion P bad → AllByRecursion P all → AllByRecursion P others.repairs → AllByRecursion P ((passed_with found bad all tried others).repairs)
passed_repairs P (Some bytes) bad all tried others b a h = b
passed_repairs P None bad all tried others b a h = all_append P all others.repairs a h

-- a pass repairs the places' spots alone
pass_repairs : (spots : List Spot) (s : Setting) (retry : Bool) (good : List ℕ → Bool) (images : Images) (len : ℕ) (places : List Place) → AllByRecursion (AreAmong spots s) places → AllByRecursion (Contains spots) ((read_pass s retry good images len places).repairs)
pass_repairs spots s retry good images len [] h = tt
pass_repairs spots s retry good images len (p ∷ ps) h =
    let tried : Tried ℕ = read_place s retry good images len p in
    passed_repairs (Contains spots) tried.found (map (spot_in p) tried.failed) (map (spot_in p) (leaves_of s p)) tried (read_pass s retry good images len ps)
    (place_failed spots s retry good images len p h.0) h.0 (pass_repairs spots s retry good images len ps h.1)

-- ---- repairs

-- repairs at some of the spots change nothing outside the spots
repaired_same : (all : List Spot) (s : Setting) (retry : Bool) (bytes : List ℕ) (spots : List Spot) (images : Images) → AllByRecursion (Contains all) spots → FitSpots all images → SameOutside all images (repaired s retry bytes spots images)
repaired_same all s retry bytes [] images h fit = same_itself all images
repaired_same all s retry bytes (spot ∷ spots) images h fit =
    let now : Images = (write_leaf s retry bytes images spot).images in
    let first : SameOutside all images now = write_same all s retry bytes images spot fit h.0 in
    same_then all images now _ first
    (repaired_same all s retry bytes spots now h.1 (fit_same all all images now first fit))

repaired_if_same : (repair : Bool) (all : List Spot) (s : Setting) (retry : Bool) (bytes : List ℕ) (spots : List Spot) (images : Images) → AllByRecursion (Contains all) spots → FitSpots all images → SameOutside all images (repaired_if repair s retry bytes spots images)
repaired_if_same true all s retry bytes spots images h fit = repaired_same all s retry bytes spots images h fit
repaired_if_same false all s retry bytes spots images h fit = same_itself all images

-- ---- a read of one or two passes

last_found : (Q : List ℕ → Type 0) (found : Option (List ℕ)) (s : Setting) (repair : Bool) (images : Images) (pass : Pass) → IfSome found Q → IfOk ((last_pass_with found s repair images pass).found) Q
last_found Q (Some bytes) s repair images pass h = h
last_found Q None s repair images pass h = tt

first_found : (Q : List ℕ → Type 0) (found : Option (List ℕ)) (s : Setting) (repair : Bool) (images : Images) (pass : Pass) (pass_in : Bool → Pass) → IfSome found Q → IfSome (pass_in true).found Q → IfOk ((first_pass_with found s repair images pass pass_in).found) Q
first_found Q (Some bytes) s repair images pass pass_in h k = h
first_found Q None s repair images pass pass_in h k = last_found Q (pass_in true).found s repair images (pass_in true) k

-- what a read finds has what each place's finding has, in either pass
block_found : (Q : List ℕ → Type 0) (s : Setting) (repair : Bool) (good : List ℕ → Bool) (images : Images) (len : ℕ) (places : List Place) → ((retry : Bool) → AllByRecursion (λ p. IfSome ((read_place s retry good images len p).found) Q) places) → IfOk ((read_block s repair good images len places).found) Q
block_found Q s repair good images len places h =
    first_found Q (read_pass s false good images len places).found s repair images (read_pass s false good images len places) (λ retry. read_pass s retry good images len places)
    (pass_found Q s false good images len places (h false)) (pass_found Q s true good images len places (h true))

-- a read changes nothing outside the spots, where each pass repairs these alone
last_same : (found : Option (List ℕ)) (all : List Spot) (s : Setting) (repair : Bool) (images : Images) (pass : Pass) → AllByRecursion (Contains all) pass.repairs → FitSpots all images → SameOutside all images ((last_pass_with found s repair images pass).images)
last_same (Some bytes) all s repair images pass h fit = repaired_if_same repair all s true bytes pass.repairs images h fit
last_same None all s repair images pass h fit = same_itself all images

first_same : (found : Option (List ℕ)) (all : List Spot) (s : Setting) (repair : Bool) (images : Images) (pass : Pass) (pass_in : Bool → Pass) → AllByRecursion (Contains all) pass.repairs → AllByRecursion (Contains all) (pass_in true).repairs → FitSpots all images → SameOutside all images ((first_pass_with found s repair images pass pass_in).images)
first_same (Some bytes) all s repair images pass pass_in h h2 fit = repaired_if_same repair all s false bytes pass.repairs images h fit
first_same None all s repair images pass pass_in h h2 fit = last_same (pass_in true).found all s repair images (pass_in true) h2 fit

-- without repair a read changes nothing
last_without : (found : Option (List ℕ)) (s : Setting) (images : Images) (pass : Pass) → (last_pass_with found s false images pass).images ≡ images
last_without (Some bytes) s images pass = refl
last_without None s images pass = refl

first_without : (found : Option (List ℕ)) (s : Setting) (images : Images) (pass : Pass) (pass_in : Bool → Pass) → (first_pass_with found s false images pass pass_in).images ≡ images
first_without (Some bytes) s images pass pass_in = refl
first_without None s images pass pass_in = last_without (pass_in true).found s images (pass_in true)

-- ---- the law's clauses

pub repairs_law : (s : Setting) (retry : Bool) (bytes : List ℕ) (spots : List Spot) (images : Images) → FitSpots spots images → SameOutside spots images (repaired s retry bytes spots images)
repairs_law s retry bytes spots images fit = repaired_same spots s retry bytes spots images (all_contained spots) fit

places_length : (s : Setting) (good : List ℕ → Bool) (images : Images) (len : ℕ) (places : List Place) → HaveRoom len (spots_of s places) → FitSpots (spots_of s places) images → (retry : Bool) → AllByRecursion (λ p. IfSome ((read_place s retry good images len p).found) (λ b. length b ≡ len)) places
places_length s good images len places room fit retry =
    all_weaker (AreAmong (spots_of s places) s) (λ p. IfSome ((read_place s retry good images len p).found) (λ b. length b ≡ len)) places
    (λ p among. place_length (spots_of s places) s retry good images len p room fit among) (places_among s places)

pub reads_law : (s : Setting) (repair : Bool) (good : List ℕ → Bool) (images : Images) (len : ℕ) (places : List Place) → FitSpots (spots_of s places) images → SameOutside (spots_of s places) images ((read_block s repair good images len places).images)
reads_law s repair good images len places fit =
    let all : List Spot = spots_of s places in
    let among : AllByRecursion (AreAmong all s) places = places_among s places in
    first_same (read_pass s false good images len places).found all s repair images (read_pass s false good images len places) (λ retry. read_pass s retry good images len places)
    (pass_repairs all s false good images len places among) (pass_repairs all s true good images len places among) fit

pub without_law : (s : Setting) (good : List ℕ → Bool) (images : Images) (len : ℕ) (places : List Place) → (read_block s false good images len places).images ≡ images
without_law s good images len places =
    first_without (read_pass s false good images len places).found s images (read_pass s false good images len places) (λ retry. read_pass s retry good images len places)

pub size_law : (s : Setting) (repair : Bool) (good : List ℕ → Bool) (images : Images) (len : ℕ) (places : List Place) → HaveRoom len (spots_of s places) → FitSpots (spots_of s places) images → IfOk ((read_block s repair good images len places).found) (λ bytes. length bytes ≡ len)
size_law s repair good images len places room fit =
    block_found (λ b. length b ≡ len) s repair good images len places (places_length s good images len places room fit)

pub at_most_law : (s : Setting) (repair : Bool) (good : List ℕ → Bool) (images : Images) (len : ℕ) (places : List Place) → IfOk ((read_block s repair good images len places).found) (λ bytes. length bytes ≤ len)
at_most_law s repair good images len places =
    block_found (λ b. length b ≤ len) s repair good images len places
    (λ retry. all_true (λ p. IfSome ((read_place s retry good images len p).found) (λ b. length b ≤ len)) places (λ p. place_at_most s retry good images len p))

pub good_law : (s : Setting) (repair : Bool) (good : List ℕ → Bool) (images : Images) (len : ℕ) (places : List Place) → IfOk ((read_block s repair good images len places).found) (λ bytes. IsTrue (good bytes))
good_law s repair good images len places =
    block_found (λ b. IsTrue (good b)) s repair good images len places
    (λ retry. all_true (λ p. IfSome ((read_place s retry good images len p).found) (λ b. IsTrue (good b))) places (λ p. place_good s retry good images len p))
