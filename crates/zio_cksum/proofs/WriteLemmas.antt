-- A write leaves the images as they were outside its places.
use Rattle.std.proofs.Common.{◌≡◌, ℕ, List, [], ◌∷◌, length, map, Bool, true, false, Option, Some, None, Contains, refl}
use Rattle.std.specs.List.{AllByRecursion}
use Rattle.zio_types.specs.declared.error.Errno.{Errno}
use Rattle.zio_types.specs.declared.place.Place.{Place}
use Rattle.zio_cksum.specs.Images.{Images, Setting, Spot, Written, write_leaf}
use Rattle.zio_cksum.specs.Blocks.{spot_in, leaves_of, in_turn, write_place, write_pass, write_piece, again_with}
use Rattle.zio_cksum.specs.Frames.{FitSpots, SameOutside, spots_of}
use Rattle.zio_cksum.proofs.FrameLemmas.{AreAmong, places_among, same_itself, same_then, fit_same, write_same}

-- writes in turn change nothing outside the spots, where each of them changes nothing there
turn_same : {X : Type 0} (P : X → Type 0) (spots : List Spot) (write : Images → X → Written) (xs : List X) (images : Images) → ((x : X) (now : Images) → P x → FitSpots spots now → SameOutside spots now ((write now x).images)) → AllByRecursion P xs → FitSpots spots images → SameOutside spots images ((in_turn write xs images).images)
turn_same P spots write [] images one h fit = same_itself spots images
turn_same P spots write (x ∷ xs) images one h fit =
    let now : Images = (write images x).images in
    let first : SameOutside spots images now = one x images h.0 fit in
    same_then spots images now _ first
    (turn_same P spots write xs now one h.1 (fit_same spots spots images now first fit))

-- the writes of one place
place_same : (spots : List Spot) (s : Setting) (retry : Bool) (bytes : List ℕ) (p : Place) (images : Images) → AreAmong spots s p → FitSpots spots images → SameOutside spots images ((write_place s retry bytes images p).images)
place_same spots s retry bytes p images among fit =
    turn_same (Contains spots) spots (write_leaf s retry bytes) (map (spot_in p) (leaves_of s p)) images
    (λ spot now c f. write_same spots s retry bytes now spot f c) among fit

-- the writes of all places
pass_same : (spots : List Spot) (s : Setting) (retry : Bool) (bytes : List ℕ) (places : List Place) (images : Images) → AllByRecursion (AreAmong spots s) places → FitSpots spots images → SameOutside spots images ((write_pass s retry bytes places images).images)
pass_same spots s retry bytes places images among fit =
    turn_same (AreAmong spots s) spots (write_place s retry bytes) places images
    (λ p now a f. place_same spots s retry bytes p now a f) among fit

-- what is written again after an error
again_same : (error : Option Errno) (spots : List Spot) (images : Images) (w : Written) (again : Images → Written) → SameOutside spots images w.images → ((now : Images) → SameOutside spots images now → SameOutside spots now ((again now).images)) → SameOutside spots images ((again_with error w again).images)
again_same None spots images w again h more = h
again_same (Some e) spots images w again h more = same_then spots images w.images _ h (more w.images h)

pub writes_law : (s : Setting) (bytes : List ℕ) (places : List Place) (images : Images) → FitSpots (spots_of s places) images → SameOutside (spots_of s places) images ((write_piece s bytes places images).images)
writes_law s bytes places images fit =
    let spots : List Spot = spots_of s places in
    let among : AllByRecursion (AreAmong spots s) places = places_among s places in
    let w : Written = write_pass s false bytes places images in
    again_same w.error spots images w (write_pass s true bytes places)
    (pass_same spots s false bytes places images among fit)
    (λ now h. pass_same spots s true bytes places now among (fit_same spots spots images now h fit))
