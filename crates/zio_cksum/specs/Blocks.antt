-- Reads and writes of the copies of one block: which leaf's bytes are taken, which are rewritten, and which error
-- comes where none is good.
use Rattle.std.specs.Prelude.{ℕ, ◌*◌, ◌/◌, ◌%◌, List, [], ◌∷◌, ◌++◌, length, map, take, drop, slice_get, Bool, true, false, Option, Some, None, Result, Ok, Err, unwrap_or, bytes_eq}
use Rattle.zio_types.specs.declared.error.Errno.{Errno}
use Rattle.zio_types.specs.declared.error.Errno.TheVariants.{Cksum, Nxio}
use Rattle.zio_types.specs.declared.place.Place.{Place}
use Rattle.zio_types.specs.declared.place.Top.{Top}
use Rattle.zio_types.specs.Errors.{worst_of}
use Rattle.zio_types.specs.Places.{sector_size}
use Rattle.zio_blkptr.specs.declared.pointer.Bp.{Bp}
use Rattle.zio_blkptr.specs.Pointers.{places_of}
use Rattle.zio_cksum.specs.Headers.{offset_of, is_header}
use Rattle.zio_cksum.specs.Images.{Images, Setting, Spot, Written, read_leaf, write_leaf}
use Rattle.zio_cksum.specs.Sums.{fits}

-- ---- good copies

-- bytes of a block's body have the sum that its pointer has
abbrev pub good_body : Bp → List ℕ → Bool
good_body bp bytes = fits bp.sum bp.words bytes

-- bytes of a header that is kept equal the kept ones
-- Rule: header goodness.
abbrev pub good_kept : Option (List ℕ) → List ℕ → Bool
good_kept None bytes = false
good_kept (Some kept) bytes = bytes_eq kept bytes

-- the same, where the pointer has a first place
abbrev pub good_claimed_at : Option Place → Bp → List ℕ → Bool
good_claimed_at None bp bytes = false
good_claimed_at (Some place) bp bytes = is_header place bp.birth bp.size bytes

-- bytes of a claimed header are the header of some members, for the gang pointer's first place, birth and size
-- Rule: header goodness.
abbrev pub good_claimed : Bp → List ℕ → Bool
good_claimed bp bytes = good_claimed_at (slice_get (places_of bp) 0) bp bytes

-- ---- the leaves of a place, in the order of reads

-- a top's leaves, none where there is no such top
abbrev pub leaves_of_top : Option Top → List ℕ
leaves_of_top None = []
leaves_of_top (Some top) = top.leaves

-- the place's leaves, in the order of the top
abbrev pub leaves_of : Setting → Place → List ℕ
leaves_of s p = leaves_of_top (slice_get s.tops p.top)

-- how many bytes of a top are read from one leaf first, before it is the next one's turn
abbrev pub turn_size : ℕ
turn_size = 2097152

-- a list begun at its item n, the items before that behind it
abbrev pub rotated : ℕ → List ℕ → List ℕ
rotated n xs = drop n xs ++ take n xs

-- the first leaf changes with each turn along the top
-- Rule: read order.
abbrev pub read_order : ℕ → List ℕ → List ℕ
read_order offset leaves = rotated (offset / turn_size % length leaves) leaves

-- ---- trying candidates until one is good

-- what the first good candidate gave, and those that were tried before it with their errors
pub record Tried (C : Type 0) : Type 0 where
  pub found : Option (List ℕ)
  pub failed : List C
  pub errors : List (Option Errno)

-- a candidate that was read, before those behind it
abbrev pub then_others : {C : Type 0} → C → Result (List ℕ) Errno → Tried C → Tried C
then_others c (Ok bytes) others = record { found = Some bytes; failed = []; errors = [] }
then_others c (Err e) others = record { found = others.found; failed = c ∷ others.failed; errors = Some e ∷ others.errors }

-- candidates are tried in order, until one is good
abbrev pub first_good : {C : Type 0} → (C → Result (List ℕ) Errno) → List C → Tried C
first_good read [] = record { found = None; failed = []; errors = [] }
first_good read (c ∷ cs) = then_others c (read c) (first_good read cs)

-- the worst error of what failed; where there was nothing to try, no device is there
abbrev pub blame : List (Option Errno) → Errno
blame errors = unwrap_or (worst_of errors) Nxio

-- the bytes, or the worst of the errors
abbrev pub found_or : Option (List ℕ) → List (Option Errno) → Result (List ℕ) Errno
found_or (Some bytes) errors = Ok bytes
found_or None errors = Err (blame errors)

-- ---- reading a place

-- bytes that passed their test, or a checksum error
abbrev pub judged_by : Bool → List ℕ → Result (List ℕ) Errno
judged_by true bytes = Ok bytes
judged_by false bytes = Err Cksum

-- a read that isn't good counts as a checksum error
abbrev pub judged : (List ℕ → Bool) → Result (List ℕ) Errno → Result (List ℕ) Errno
judged good (Ok bytes) = judged_by (good bytes) bytes
judged good (Err e) = Err e

-- the whole place, on one of its leaves
abbrev pub spot_in : Place → ℕ → Spot
spot_in p leaf = record { leaf = leaf; at = offset_of p; span = p.sectors * sector_size }

-- the place's leaves are tried in the order of reads
abbrev pub read_place : Setting → Bool → (List ℕ → Bool) → Images → ℕ → Place → Tried ℕ
read_place s retry good images len p =
    first_good (λ leaf. judged good (read_leaf s retry images len (spot_in p leaf)))
    (read_order (offset_of p) (leaves_of s p))

-- ---- reading a block

-- one pass over the places: the bytes of the first that has a good leaf, what a good read rewrites, and the errors
-- of the places that have none
pub record Pass : Type 0 where
  pub found : Option (List ℕ)
  pub repairs : List Spot
  pub errors : List (Option Errno)

-- one place of a pass, by whether one of its leaves was good, before the places behind it
abbrev pub passed_with : Option (List ℕ) → List Spot → List Spot → Tried ℕ → Pass → Pass
passed_with (Some bytes) bad all tried others = record { found = Some bytes; repairs = bad; errors = [] }
passed_with None bad all tried others = record {
  found = others.found;
  repairs = all ++ others.repairs;
  errors = Some (blame tried.errors) ∷ others.errors;
}

-- in the good place those leaves are rewritten that were tried and failed, in each place before it all leaves
-- Rule: read repair.
abbrev pub then_places : Setting → Place → Tried ℕ → Pass → Pass
then_places s p tried others =
    passed_with tried.found (map (spot_in p) tried.failed) (map (spot_in p) (leaves_of s p)) tried others

-- the places of a piece in order, up to the first that has a good leaf
-- Rule: read order.
abbrev pub read_pass : Setting → Bool → (List ℕ → Bool) → Images → ℕ → List Place → Pass
read_pass s retry good images len [] = record { found = None; repairs = []; errors = [] }
read_pass s retry good images len (p ∷ ps) =
    then_places s p (read_place s retry good images len p) (read_pass s retry good images len ps)

-- the bytes there or an error, and the images after
pub record Read : Type 0 where
  pub found : Result (List ℕ) Errno
  pub images : Images

-- rewrites each spot; a write that fails changes nothing and is passed over
-- Rule: read repair.
abbrev pub repaired : Setting → Bool → List ℕ → List Spot → Images → Images
repaired s retry bytes [] images = images
repaired s retry bytes (spot ∷ spots) images = repaired s retry bytes spots ((write_leaf s retry bytes images spot).images)

-- whether a good read rewrites the copies that were tried and failed
abbrev pub repaired_if : Bool → Setting → Bool → List ℕ → List Spot → Images → Images
repaired_if true s retry bytes spots images = repaired s retry bytes spots images
repaired_if false s retry bytes spots images = images

-- what a pass found, with its repairs made
abbrev pub found_in : Setting → Bool → Bool → Images → Pass → List ℕ → Read
found_in s repair retry images pass bytes = record {
  found = Ok bytes;
  images = repaired_if repair s retry bytes pass.repairs images;
}

-- the read after the retry pass, by what that pass found
abbrev pub last_pass_with : Option (List ℕ) → Setting → Bool → Images → Pass → Read
last_pass_with (Some bytes) s repair images pass = found_in s repair true images pass bytes
last_pass_with None s repair images pass = record { found = Err (blame pass.errors); images = images }

-- the read after the retry pass, whose error counts
abbrev pub last_pass : Setting → Bool → Images → Pass → Read
last_pass s repair images pass = last_pass_with pass.found s repair images pass

-- the read after the first pass, by what that pass found
abbrev pub first_pass_with : Option (List ℕ) → Setting → Bool → Images → Pass → (Bool → Pass) → Read
first_pass_with (Some bytes) s repair images pass pass_in = found_in s repair false images pass bytes
first_pass_with None s repair images pass pass_in = last_pass s repair images (pass_in true)

-- the read after the first pass, with the retry pass behind it where nothing was good
abbrev pub first_pass : Setting → Bool → Images → Pass → (Bool → Pass) → Read
first_pass s repair images pass pass_in = first_pass_with pass.found s repair images pass pass_in

-- The places are tried in order, and where none is good once more in the retry pass, whose error counts. Repairs are
-- made in the pass of the good read.
-- Rule: read order.
abbrev pub read_block : Setting → Bool → (List ℕ → Bool) → Images → ℕ → List Place → Read
read_block s repair good images len places =
    first_pass s repair images (read_pass s false good images len places)
    (λ retry. read_pass s retry good images len places)

-- ---- writing a piece

-- the errors of writes in turn, and the images after all
pub record Writes : Type 0 where
  pub errors : List (Option Errno)
  pub images : Images

-- a write's error in front of those behind it
abbrev pub add_write : Option Errno → Writes → Writes
add_write error others = record { errors = error ∷ others.errors; images = others.images }

-- a write, and those behind it over the images that it left
abbrev pub then_writes : Written → (Images → Writes) → Writes
then_writes w others = add_write w.error (others w.images)

-- one write after another
abbrev pub in_turn : {X : Type 0} → (Images → X → Written) → List X → Images → Writes
in_turn write [] images = record { errors = []; images = images }
in_turn write (x ∷ xs) images = then_writes (write images x) (in_turn write xs)

-- each of the writes failed
abbrev pub all_errors : List (Option Errno) → Bool
all_errors [] = true
all_errors (None ∷ errors) = false
all_errors (Some e ∷ errors) = all_errors errors

-- the error where the test says so
abbrev pub error_if : Bool → Option Errno → Option Errno
error_if true error = error
error_if false error = None

-- a place is good where one of its leaves is; else its error is the worst of them
abbrev pub place_written : Writes → Written
place_written w = record { error = error_if (all_errors w.errors) (Some (blame w.errors)); images = w.images }

-- every leaf of one place is written
-- Rule: mirrored write.
abbrev pub write_place : Setting → Bool → List ℕ → Images → Place → Written
write_place s retry bytes images p =
    place_written (in_turn (write_leaf s retry bytes) (map (spot_in p) (leaves_of s p)) images)

-- every leaf of every place is written; the error is the worst of the failed places
abbrev pub pass_written : Writes → Written
pass_written w = record { error = worst_of w.errors; images = w.images }

-- every place of a piece is written, in one pass
-- Rule: mirrored write.
abbrev pub write_pass : Setting → Bool → List ℕ → List Place → Images → Written
write_pass s retry bytes places images = pass_written (in_turn (write_place s retry bytes) places images)

-- what was written first, or where it has an error what is written again
abbrev pub again_with : Option Errno → Written → (Images → Written) → Written
again_with None w again = w
again_with (Some e) w again = again w.images

-- what was written, and after an error what is written again
abbrev pub again_on_error : Written → (Images → Written) → Written
again_on_error w again = again_with w.error w again

-- The bytes go to each leaf of each place. After an error all is written once more in the retry pass, whose error
-- counts.
-- Rule: mirrored write.
abbrev pub write_piece : Setting → List ℕ → List Place → Images → Written
write_piece s bytes places images =
    again_on_error (write_pass s false bytes places images) (write_pass s true bytes places)
