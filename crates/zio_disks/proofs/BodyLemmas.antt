-- Bodies read one by one and joined.
use Rattle.std.proofs.Common.{◌≡◌, ℕ, ◌-◌, ◌≤◌, List, [], ◌∷◌, ◌++◌, length, get_or, slice_index_or, take, drop, true, Option, Result, Ok, Err, refl, sym, ap, subst, ◌∙◌, arith, append_assoc}
use Rattle.std.specs.List.{AllByRecursion}
use Rattle.zio_types.specs.declared.error.Errno.{Errno}
use Rattle.zio_blkptr.specs.declared.pointer.Bp.{Bp}
use Rattle.zio_blkptr.specs.Pointers.{places_of}
use Rattle.zio_cksum.specs.Blocks.{Read, blame, good_body, read_block}
use Rattle.zio_cksum.specs.Images.{Images, Setting}
use Rattle.zio_gang.specs.Trees.{BodiesRead, Walk, add_body, after_walk, bodies_read, bodies_unless, read_bodies, then_bodies}
use Rattle.zio_disks.specs.Disks.{Tell}
use Rattle.zio_disks.specs.Trees.{bytes_in, errors_in}
use Rattle.zio_disks.proofs.WriteLemmas.{rest_of}

-- the first body, and then the others
pub bodies_first : (s : Setting) (bodies : List Bp) (any : Bp) (images : Images) → 1 ≤ length bodies
    → read_bodies s bodies images
    ≡ then_bodies (read_block s true (good_body (get_or bodies 0 any)) images (get_or bodies 0 any).size (places_of (get_or bodies 0 any))) (read_bodies s (take (length bodies - 1) (drop 1 bodies)))
bodies_first s [] any images some = absurd (omega arith)
bodies_first s (bp ∷ bps) any images some =
    ap (λ rest. then_bodies (read_block s true (good_body bp) images bp.size (places_of bp)) (read_bodies s rest)) (sym (rest_of bp bps))

-- what a body adds, and then the others
pub record Adds (found : Result (List ℕ) Errno) (others : BodiesRead) : Type 0 where
  pub errors : (add_body found others).errors ≡ errors_in found ++ others.errors
  pub bytes : (add_body found others).bytes ≡ bytes_in found ++ others.bytes
  pub images : (add_body found others).images ≡ others.images

pub body_adds : (found : Result (List ℕ) Errno) (others : BodiesRead) → Adds found others
body_adds (Ok bytes) others = record { errors = refl; bytes = refl; images = refl }
body_adds (Err e) others = record { errors = refl; bytes = refl; images = refl }

pub bodies_step : {D : Type 0} (image : D → List ℕ → Type 0) (s : Setting) (bodies : List Bp) (any : Bp) (images : Images) (errors mid_errors end_errors : List (Option Errno)) (bytes mid_bytes end_bytes : List ℕ) (mid end : List D) → 1 ≤ length bodies
    → (mid_errors ≡ errors ++ errors_in (read_block s true (good_body (get_or bodies 0 any)) images (get_or bodies 0 any).size (places_of (get_or bodies 0 any))).found)
    × (mid_bytes ≡ bytes ++ bytes_in (read_block s true (good_body (get_or bodies 0 any)) images (get_or bodies 0 any).size (places_of (get_or bodies 0 any))).found)
    × Tell image mid (read_block s true (good_body (get_or bodies 0 any)) images (get_or bodies 0 any).size (places_of (get_or bodies 0 any))).images
    → ((now : Images) → Tell image mid now → (end_errors ≡ mid_errors ++ (read_bodies s (take (length bodies - 1) (drop 1 bodies)) now).errors)
    × (end_bytes ≡ mid_bytes ++ (read_bodies s (take (length bodies - 1) (drop 1 bodies)) now).bytes) × Tell image end (read_bodies s (take (length bodies - 1) (drop 1 bodies)) now).images)
    → (end_errors ≡ errors ++ (read_bodies s bodies images).errors) × (end_bytes ≡ bytes ++ (read_bodies s bodies images).bytes) × Tell image end (read_bodies s bodies images).images
bodies_step {D} image s bodies any images errors mid_errors end_errors bytes mid_bytes end_bytes mid end some first others =
    let read : Read = read_block s true (good_body (get_or bodies 0 any)) images (get_or bodies 0 any).size (places_of (get_or bodies 0 any)) in
    let rest : BodiesRead = read_bodies s (take (length bodies - 1) (drop 1 bodies)) read.images in
    let a : Adds read.found rest = body_adds read.found rest in
    let r = others read.images first.2 in
    subst (λ (b : BodiesRead). (end_errors ≡ errors ++ b.errors) × (end_bytes ≡ bytes ++ b.bytes) × Tell image end b.images) (sym (bodies_first s bodies any images some)) (
      r.0 ∙ ap (λ es. es ++ rest.errors) first.0 ∙ append_assoc errors (errors_in read.found) rest.errors ∙ ap (λ es. errors ++ es) (sym a.errors),
      r.1 ∙ ap (λ bs. bs ++ rest.bytes) first.1 ∙ append_assoc bytes (bytes_in read.found) rest.bytes ∙ ap (λ bs. bytes ++ bs) (sym a.bytes),
      subst (Tell image end) (sym a.images) r.2,
    )

-- the headers' errors count, and where there are none the bodies
pub headers_bad : (s : Setting) (w : Walk) (errors : List (Option Errno)) → (errors ≡ [] → ⊥) → w.errors ≡ errors
    → record { found = Err (blame errors); images = w.images } ≡ after_walk s w
headers_bad s w [] some e = absurd (some refl)
headers_bad s w (x ∷ xs) some e = ap (λ es. bodies_unless es s w) (sym e)

pub headers_good : (s : Setting) (w : Walk) (errors : List (Option Errno)) → errors ≡ [] → w.errors ≡ errors
    → bodies_read (read_bodies s w.bodies w.images) ≡ after_walk s w
headers_good s w errors none e = ap (λ es. bodies_unless es s w) (sym (e ∙ none))

-- what all have the first has
pub first_of : (P : Bp → Type 0) (xs : List Bp) (any : Bp) → 1 ≤ length xs → AllByRecursion P xs → P (slice_index_or xs 0 any)
first_of P [] any some h = absurd (omega arith)
first_of P (x ∷ xs) any some h = h.0
