-- A read that gives the bytes of a copy, or an error, keeps the copy: what it rewrites has these bytes.
use Rattle.std.proofs.Common.{◌≡◌, ℕ, ◌/◌, ◌%◌, List, [], ◌∷◌, length, map, take, drop, Bool, true, false, Option, Some, None, Result, Ok, Err, IfOk, Contains, sym, subst}
use Rattle.std.specs.List.{AllByRecursion}
use Rattle.zio_types.specs.declared.error.Errno.{Errno}
use Rattle.zio_types.specs.declared.place.Place.{Place}
use Rattle.zio_cksum.specs.Blocks.{Pass, Tried, first_good, first_pass_with, judged, last_pass_with, leaves_of, read_block, read_order, read_pass, read_place, repaired, repaired_if, spot_in, then_others, turn_size}
use Rattle.zio_cksum.specs.Frames.{FitSpots, HaveRoom, spots_of}
use Rattle.zio_cksum.specs.Headers.{offset_of}
use Rattle.zio_cksum.specs.Images.{Images, Setting, Spot, read_leaf, write_leaf}
use Rattle.zio_cksum.proofs.AllLemmas.{all_append, all_drop, all_map, all_take, all_unmap}
use Rattle.zio_cksum.proofs.FrameLemmas.{AreAmong, places_among}
use Rattle.zio_trace.specs.Readers.{CopiesApart}
use Rattle.zio_trace.proofs.ReaderLemmas.{pass_on_among}
use Rattle.zio_heal.specs.Copies.{HasCopy, StoresAsGiven, spots_in}
use Rattle.zio_heal.proofs.WrittenLemmas.{IsAt, IsGround, leaf_fits, leaf_keeps}

-- ---- what a pass repairs

on_failed : (P : ℕ → Type 0) (leaf : ℕ) (r : Result (List ℕ) Errno) (others : Tried ℕ) → P leaf → AllByRecursion P others.failed → AllByRecursion P (then_others leaf r others).failed
on_failed P leaf (Ok bytes) others h k = tt
on_failed P leaf (Err e) others h k = (h, k)

all_failed : (P : ℕ → Type 0) (read : ℕ → Result (List ℕ) Errno) (leaves : List ℕ) → AllByRecursion P leaves → AllByRecursion P (first_good read leaves).failed
all_failed P read [] h = tt
all_failed P read (leaf ∷ leaves) h = on_failed P leaf (read leaf) (first_good read leaves) h.0 (all_failed P read leaves h.1)

-- the leaves of a place that failed lie at its spots
failed_among : (all : List Spot) (s : Setting) (retry : Bool) (good : List ℕ → Bool) (images : Images) (len : ℕ) (p : Place) → AreAmong all s p → AllByRecursion (Contains all) (map (spot_in p) (read_place s retry good images len p).failed)
failed_among all s retry good images len p among =
    let leaves : List ℕ = leaves_of s p in
    let turn : ℕ = offset_of p / turn_size % length leaves in
    let lie : AllByRecursion (λ (leaf : ℕ). Contains all (spot_in p leaf)) leaves = all_unmap (Contains all) (spot_in p) leaves among in
    all_map (Contains all) (spot_in p) (read_place s retry good images len p).failed
    (all_failed (λ (leaf : ℕ). Contains all (spot_in p leaf)) (λ (leaf : ℕ). judged good (read_leaf s retry images len (spot_in p leaf))) (read_order (offset_of p) leaves)
    (all_append (λ (leaf : ℕ). Contains all (spot_in p leaf)) (drop turn leaves) (take turn leaves)
    (all_drop (λ (leaf : ℕ). Contains all (spot_in p leaf)) turn leaves lie) (all_take (λ (leaf : ℕ). Contains all (spot_in p leaf)) turn leaves lie)))

repairs_among : (all : List Spot) (s : Setting) (retry : Bool) (good : List ℕ → Bool) (images : Images) (len : ℕ) (ps : List Place) → AllByRecursion (AreAmong all s) ps → AllByRecursion (Contains all) (read_pass s retry good images len ps).repairs
repairs_among all s retry good images len [] among = tt
repairs_among all s retry good images len (p ∷ ps) among =
    let tried : Tried ℕ = read_place s retry good images len p in
    pass_on_among all tried.found (map (spot_in p) tried.failed) (spots_in s p) tried (read_pass s retry good images len ps)
    (failed_among all s retry good images len p among.0) among.0 (repairs_among all s retry good images len ps among.1)

-- ---- repairs

repaired_keeps : (s : Setting) (bytes : List ℕ) (all : List Spot) (retry : Bool) (t : Spot) (xs : List Spot) (images : Images) → IsGround s bytes all → Contains all t → AllByRecursion (Contains all) xs → FitSpots all images → IsAt bytes t images → IsAt bytes t (repaired s retry bytes xs images)
repaired_keeps s bytes all retry t [] images g ct among fit at = at
repaired_keeps s bytes all retry t (x ∷ xs) images g ct among fit at =
    repaired_keeps s bytes all retry t xs (write_leaf s retry bytes images x).images g ct among.1
    (leaf_fits s bytes all retry images x fit among.0)
    (leaf_keeps s bytes all retry images t x g fit ct among.0 at)

-- a good read with these bytes, with or without repairs
mends : (repair : Bool) (s : Setting) (bytes : List ℕ) (all : List Spot) (retry : Bool) (given : List ℕ) (xs : List Spot) (images : Images) → IsGround s bytes all → AllByRecursion (Contains all) xs → FitSpots all images → given ≡ bytes → HasCopy all bytes images → HasCopy all bytes (repaired_if repair s retry given xs images)
mends false s bytes all retry given xs images g among fit is copy = copy
mends true s bytes all retry given xs images g among fit is copy = record {
  spot = copy.spot;
  listed = copy.listed;
  there =
      subst (λ (b : List ℕ). IsAt bytes copy.spot (repaired s retry b xs images)) (sym is)
      (repaired_keeps s bytes all retry copy.spot xs images g copy.listed among fit copy.there);
}

-- ---- the read

last_keeps : (found : Option (List ℕ)) (s : Setting) (bytes : List ℕ) (all : List Spot) (repair : Bool) (images : Images) (pass : Pass) → IsGround s bytes all → AllByRecursion (Contains all) pass.repairs → FitSpots all images → IfOk (last_pass_with found s repair images pass).found (λ (b : List ℕ). b ≡ bytes) → HasCopy all bytes images → HasCopy all bytes (last_pass_with found s repair images pass).images
last_keeps (Some b) s bytes all repair images pass g among fit is copy = mends repair s bytes all true b pass.repairs images g among fit is copy
last_keeps None s bytes all repair images pass g among fit is copy = copy

first_keeps : (found : Option (List ℕ)) (s : Setting) (bytes : List ℕ) (all : List Spot) (repair : Bool) (images : Images) (pass : Pass) (pass_in : Bool → Pass) → IsGround s bytes all → AllByRecursion (Contains all) pass.repairs → AllByRecursion (Contains all) (pass_in true).repairs → FitSpots all images → IfOk (first_pass_with found s repair images pass pass_in).found (λ (b : List ℕ). b ≡ bytes) → HasCopy all bytes images → HasCopy all bytes (first_pass_with found s repair images pass pass_in).images
first_keeps (Some b) s bytes all repair images pass pass_in g among last fit is copy = mends repair s bytes all false b pass.repairs images g among fit is copy
first_keeps None s bytes all repair images pass pass_in g among last fit is copy =
    last_keeps (pass_in true).found s bytes all repair images (pass_in true) g last fit is copy

pub same_law : (s : Setting) (repair : Bool) (good : List ℕ → Bool) (len : ℕ) (places : List Place) (bytes : List ℕ) (images : Images) → StoresAsGiven s → FitSpots (spots_of s places) images → HaveRoom (length bytes) (spots_of s places) → CopiesApart (spots_of s places) → IfOk (read_block s repair good images len places).found (λ (b : List ℕ). b ≡ bytes) → HasCopy (spots_of s places) bytes images → HasCopy (spots_of s places) bytes (read_block s repair good images len places).images
same_law s repair good len places bytes images given fit room apart is copy =
    let all : List Spot = spots_of s places in
    let pass : Pass = read_pass s false good images len places in
    first_keeps pass.found s bytes all repair images pass (λ retry. read_pass s retry good images len places)
    (record { given = given; room = room; apart = apart })
    (repairs_among all s false good images len places (places_among s places))
    (repairs_among all s true good images len places (places_among s places)) fit is copy
