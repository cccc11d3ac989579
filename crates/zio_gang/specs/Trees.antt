-- A block's tree: its pointer and the gang headers under it, how it is read, and what a claim of one answers.
use Rattle.std.specs.Prelude.{ℕ, zero, suc, ◌+◌, List, [], ◌∷◌, ◌++◌, map, find, Bool, true, false, ◌&&◌, if◌then◌else◌, Option, Some, None, option_map, Result, Ok, Err, bytes_eq}
use Rattle.std.specs.List.{flat_map, list_all}
use Rattle.zio_types.specs.declared.error.Errno.{Errno}
use Rattle.zio_types.specs.declared.error.Errno.TheVariants.{Cksum, Inval, Exist}
use Rattle.zio_types.specs.declared.place.Place.{Place}
use Rattle.zio_types.specs.declared.place.Top.{Top}
use Rattle.zio_types.specs.declared.place.TopSize.{TopSize}
use Rattle.zio_types.specs.Errors.{worst_of}
use Rattle.zio_types.specs.Places.{sector_size, is_inside, fits_size, are_open}
use Rattle.zio_blkptr.specs.declared.pointer.Bp.{Bp}
use Rattle.zio_blkptr.specs.Pointers.{places_of, pointer_of}
use Rattle.zio_cksum.specs.Blocks.{Read, read_block, good_body, good_kept, good_claimed, blame}
use Rattle.zio_cksum.specs.Headers.{members_of}
use Rattle.zio_cksum.specs.Images.{Images, Setting, Written}
use Rattle.zio_gang.specs.declared.tree.Head.{Head}
use Rattle.zio_gang.specs.declared.tree.Tree.{Tree}

-- ---- what a tree holds

-- the bytes of the header at this path
abbrev pub kept_at : List Head → List ℕ → Option (List ℕ)
kept_at heads path = option_map (λ (h : Head). h.bytes) (find (λ (h : Head). bytes_eq h.path path) heads)

-- the block's pointer, and those of all members in its headers
abbrev pub tree_pointers : Tree → List Bp
tree_pointers tree = tree.bp ∷ flat_map (λ (h : Head). members_of h.bytes) tree.heads

-- the places of all these pointers
abbrev pub tree_places : Tree → List Place
tree_places tree = flat_map places_of (tree_pointers tree)

-- ---- a walk over the headers

-- the errors of a walk, the pointers to bodies that it came to, the headers that it read and the images after it
pub record Walk : Type 0 where
  pub errors : List (Option Errno)
  pub bodies : List Bp
  pub heads : List Head
  pub images : Images

-- what a walk does: an error of a pointer, or none, and the read of the header of a gang at a path
pub record Visit : Type 0 where
  pub judge : Bp → Option Errno
  pub read_head : List ℕ → Bp → Images → Read

-- a walk that met nothing
abbrev pub ended_walk : Images → Walk
ended_walk images = record { errors = []; bodies = []; heads = []; images = images }

-- a walk that ends with an error
abbrev pub stopped_walk : Errno → Images → Walk
stopped_walk e images = record { errors = Some e ∷ []; bodies = []; heads = []; images = images }

-- a walk that came to one body
abbrev pub body_walk : Bp → Images → Walk
body_walk bp images = record { errors = []; bodies = bp ∷ []; heads = []; images = images }

-- a walk and the one after it
abbrev pub joined_walk : Walk → Walk → Walk
joined_walk w others = record {
  errors = w.errors ++ others.errors;
  bodies = w.bodies ++ others.bodies;
  heads = w.heads ++ others.heads;
  images = others.images;
}

-- a walk, and those behind it over the images that it left
abbrev pub then_walk : Walk → (Images → Walk) → Walk
then_walk w others = joined_walk w (others w.images)

-- what was met below a header, with that header in front
abbrev pub below_head : List ℕ → List ℕ → Walk → Walk
below_head path bytes w = record {
  errors = w.errors;
  bodies = w.bodies;
  heads = record { path = path; bytes = bytes } ∷ w.heads;
  images = w.images;
}

-- the members in order, numbered from n
abbrev pub walk_members : (List ℕ → Bp → Images → Walk) → List ℕ → ℕ → List Bp → Images → Walk
walk_members walk path n [] images = ended_walk images
walk_members walk path n (m ∷ ms) images = then_walk (walk (path ++ n ∷ []) m images) (walk_members walk path (n + 1) ms)

-- below a header that failed nothing is read
abbrev pub walk_found : (List ℕ → Bp → Images → Walk) → List ℕ → Images → Result (List ℕ) Errno → Walk
walk_found walk path images (Err e) = stopped_walk e images
walk_found walk path images (Ok bytes) = below_head path bytes (walk_members walk path 0 (members_of bytes) images)

-- what is met from a header on that was read
abbrev pub walk_read : (List ℕ → Bp → Images → Walk) → List ℕ → Read → Walk
walk_read walk path read = walk_found walk path read.images read.found

-- a pointer with an error ends the walk there, one to a body is noted, and a gang's is followed
-- Rule: gang read.
abbrev pub walk_pointer : Option Errno → Bool → Bp → (Images → Walk) → Images → Walk
walk_pointer (Some e) gang bp follow images = stopped_walk e images
walk_pointer None false bp follow images = body_walk bp images
walk_pointer None true bp follow images = follow images

-- From a pointer at a path down. As many levels of headers may follow as the first argument says; a header below them
-- is a checksum error and isn't read.
unfoldable pub walk : ℕ → Visit → List ℕ → Bp → Images → Walk
walk zero v path bp images = walk_pointer (v.judge bp) bp.gang bp (stopped_walk Cksum) images
walk (suc levels) v path bp images =
    walk_pointer (v.judge bp) bp.gang bp (λ now. walk_read (walk levels v) path (v.read_head path bp now)) images

-- how many levels of headers a tree has at most: depths 0 to 7
abbrev pub header_levels_max : ℕ
header_levels_max = 8

-- the walk of a whole tree
abbrev pub walk_tree : Visit → Bp → Images → Walk
walk_tree v bp images = walk header_levels_max v [] bp images

-- ---- reading a tree

-- any pointer will do, and a header is good where it equals the kept one
abbrev pub kept_visit : Setting → List Head → Visit
kept_visit s heads = record {
  judge = λ bp. None;
  read_head = λ path bp images. read_block s true (good_kept (kept_at heads path)) images sector_size (places_of bp);
}

-- the walk of a block whose headers are kept
abbrev pub walk_kept : Setting → Tree → Images → Walk
walk_kept s tree images = walk_tree (kept_visit s tree.heads) tree.bp images

-- the bodies of some pointers: their errors, what was read, and the images after
pub record BodiesRead : Type 0 where
  pub errors : List (Option Errno)
  pub bytes : List ℕ
  pub images : Images

-- a body that was read, in front of those behind it
abbrev pub add_body : Result (List ℕ) Errno → BodiesRead → BodiesRead
add_body (Ok bytes) others = record { errors = others.errors; bytes = bytes ++ others.bytes; images = others.images }
add_body (Err e) others = record { errors = Some e ∷ others.errors; bytes = others.bytes; images = others.images }

-- a body, and those behind it over the images that its read left
abbrev pub then_bodies : Read → (Images → BodiesRead) → BodiesRead
then_bodies read others = add_body read.found (others read.images)

-- each body in order, good where it has its sum
-- Rule: gang read.
abbrev pub read_bodies : Setting → List Bp → Images → BodiesRead
read_bodies s [] images = record { errors = []; bytes = []; images = images }
read_bodies s (bp ∷ bps) images =
    then_bodies (read_block s true (good_body bp) images bp.size (places_of bp)) (read_bodies s bps)

-- the value, or the worst of the errors if there are any
abbrev pub unless_errors : {X : Type 0} → List (Option Errno) → X → Result X Errno
unless_errors [] x = Ok x
unless_errors (e ∷ errors) x = Err (blame (e ∷ errors))

-- the bodies joined, or the worst of their errors
abbrev pub bodies_read : BodiesRead → Read
bodies_read b = record { found = unless_errors b.errors b.bytes; images = b.images }

-- the bodies after a walk, or the worst of the walk's errors
abbrev pub bodies_unless : List (Option Errno) → Setting → Walk → Read
bodies_unless [] s w = bodies_read (read_bodies s w.bodies w.images)
bodies_unless (e ∷ errors) s w = record { found = Err (blame (e ∷ errors)); images = w.images }

-- the read of a block after the walk over its headers
abbrev pub after_walk : Setting → Walk → Read
after_walk s w = bodies_unless w.errors s w

-- The headers are read first. Where one failed no body is read, and the error is the worst of those that failed;
-- else the bodies are read in order and joined.
-- Rule: gang read.
unfoldable pub read_tree : Setting → Tree → Images → Read
read_tree s tree images = after_walk s (walk_kept s tree images)

-- ---- freeing a tree

-- a walk's worst error or none, and the images after it
abbrev pub walk_error : Walk → Written
walk_error w = record { error = worst_of w.errors; images = w.images }

-- a free reads the headers, with repairs, and has their error or none
-- Rule: gang free.
unfoldable pub free_tree : Setting → Tree → Images → Written
free_tree s tree images = walk_error (walk_kept s tree images)

-- ---- claiming a tree

-- the sectors and the unit of a top
abbrev pub size_of : Top → TopSize
size_of top = record { sectors = top.sectors; unit = top.unit }

-- the sectors and units of all tops
abbrev pub sizes_of : List Top → List TopSize
sizes_of tops = map size_of tops

-- how many bytes each place of the pointer holds: a header, or the whole block
abbrev pub piece_size : Bp → ℕ
piece_size bp = if bp.gang then sector_size else bp.size

-- no error where the test holds, else EINVAL
abbrev pub inval_unless : Bool → Option Errno
inval_unless true = None
inval_unless false = Some Inval

-- the place is inside its top and fits the size
abbrev pub is_claimable : List TopSize → ℕ → Place → Bool
is_claimable tops size p = is_inside tops p && fits_size tops size p

-- every place has to be inside its top and to fit its piece, and a header is good where it is the header of some
-- members; nothing is repaired
-- Rule: claim.
abbrev pub claim_visit : Setting → Visit
claim_visit s = record {
  judge = λ bp. inval_unless (list_all (is_claimable (sizes_of s.tops) (piece_size bp)) (places_of bp));
  read_head = λ path bp images. read_block s false (good_claimed bp) images sector_size (places_of bp);
}

-- the tree that is claimed, or an error
pub record Claimed : Type 0 where
  pub tree : Result Tree Errno
  pub images : Images

-- the tree where its places are open, else EEXIST
abbrev pub claimed_if : Bool → Tree → Result Tree Errno
claimed_if true tree = Ok tree
claimed_if false tree = Err Exist

-- the tree, if its places are free and don't meet
abbrev pub claimed_free : List Place → Tree → Result Tree Errno
claimed_free used tree = claimed_if (are_open used (tree_places tree)) tree

-- the tree, or the worst of the errors of its walk
abbrev pub claimed_found : List Place → List (Option Errno) → Tree → Result Tree Errno
claimed_found used [] tree = claimed_free used tree
claimed_found used (e ∷ errors) tree = Err (blame (e ∷ errors))

-- what a claim comes to after the walk of its tree
abbrev pub claimed_walk : List Place → Bp → Walk → Claimed
claimed_walk used bp w = record {
  tree = claimed_found used w.errors (record { bp = bp; heads = w.heads });
  images = w.images;
}

-- the claim of the pointer that the bytes spell, EINVAL where they spell none
abbrev pub claim_pointer : Setting → List Place → Option Bp → Images → Claimed
claim_pointer s used None images = record { tree = Err Inval; images = images }
claim_pointer s used (Some bp) images = claimed_walk used bp (walk_tree (claim_visit s) bp images)

-- A claim's bytes have to spell a pointer. Then the errors of the tree join to the worst, and where there is none two
-- places that meet, or one that isn't free, make it EEXIST.
-- Rule: claim.
unfoldable pub claim_tree : Setting → List Place → List ℕ → Images → Claimed
claim_tree s used bytes images = claim_pointer s used (pointer_of bytes) images
