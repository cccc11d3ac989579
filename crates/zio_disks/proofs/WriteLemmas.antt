-- Writes in turn, as a program makes them one by one, and the errors that they come to.
use Rattle.std.proofs.Common.{◌≡◌, ℕ, ◌+◌, ◌-◌, ◌*◌, ◌≤◌, ◌==◌, Contains, List, [], ◌∷◌, ◌++◌, length, map, get_or, take, drop, Bool, true, false, Option, Some, None, unwrap_or, refl, sym, ap, subst, ◌∙◌, arith}
use Rattle.std.specs.List.{AllByRecursion}
use Rattle.zio_types.specs.declared.error.Errno.{Errno}
use Rattle.zio_types.specs.declared.error.Errno.TheVariants.{Nxio, Cksum, Io, Nospc, Inval, Exist, Noent}
use Rattle.zio_types.specs.declared.place.Place.{Place}
use Rattle.zio_types.specs.Errors.{second_if, worst_error, worst_of}
use Rattle.zio_cksum.specs.Blocks.{Writes, add_write, then_writes, in_turn, all_errors, error_if, blame, place_written, spot_in, leaves_of}
use Rattle.zio_cksum.specs.Frames.{spots_of}
use Rattle.zio_cksum.specs.Images.{Images, Setting, Spot, Written, met, padded_to, write_leaf, write_met}
use Rattle.zio_cksum.proofs.AllLemmas.{all_contained, all_contains, all_weaker}
use Rattle.zio_cksum.proofs.ByteLemmas.{length-padded_to}
use Rattle.std.proofs.lemmas.List.Elements.{Contains-append_left, Contains-append_right}
use Rattle.zio_types.specs.Places.{sector_size}
use Rattle.zio_disks.proofs.DiskLemmas.{padded_whole}
use Rattle.zio_disks.specs.Disks.{LieOn, Tell, both_failed}

-- ---- errors

-- no device is the mildest error
worst_nxio : (e : Errno) → worst_error (Some e) None ≡ worst_error (Some e) (Some Nxio)
worst_nxio Nxio = refl
worst_nxio Cksum = refl
worst_nxio Io = refl
worst_nxio Nospc = refl
worst_nxio Inval = refl
worst_nxio Exist = refl
worst_nxio Noent = refl

pub worst_or_nxio : (e : Errno) (o : Option Errno) → worst_error (Some e) o ≡ worst_error (Some e) (Some (unwrap_or o Nxio))
worst_or_nxio e None = worst_nxio e
worst_or_nxio e (Some f) = refl

worst_second : (t : Bool) (e f : Errno) → Some (unwrap_or (second_if t (Some e) (Some f)) Nxio) ≡ second_if t (Some e) (Some f)
worst_second true e f = refl
worst_second false e f = refl

pub worst_there : (e : Errno) (o : Option Errno) → Some (unwrap_or (worst_error (Some e) o) Nxio) ≡ worst_error (Some e) o
worst_there Nxio None = refl
worst_there Cksum None = refl
worst_there Io None = refl
worst_there Nospc None = refl
worst_there Inval None = refl
worst_there Exist None = refl
worst_there Noent None = refl
worst_there e (Some f) = worst_second _ e f

-- one write more: its place is good where the write is
both_errors : (e : Errno) (all : Bool) (worst : Option Errno) → error_if all (Some (unwrap_or (worst_error (Some e) worst) Nxio)) ≡ both_failed (Some e) (error_if all (Some (unwrap_or worst Nxio)))
both_errors e false worst = refl
both_errors e true worst = worst_there e worst ∙ worst_or_nxio e worst

pub place_error : (error : Option Errno) (errors : List (Option Errno)) → error_if (all_errors (error ∷ errors)) (Some (blame (error ∷ errors))) ≡ both_failed error (error_if (all_errors errors) (Some (blame errors)))
place_error None errors = refl
place_error (Some e) errors = both_errors e (all_errors errors) (worst_of errors)

-- ---- where the copies lie

pub all_left : {X : Type 0} (P : X → Type 0) (xs ys : List X) → AllByRecursion P (xs ++ ys) → AllByRecursion P xs
all_left P [] ys h = tt
all_left P (x ∷ xs) ys h = (h.0, all_left P xs ys h.1)

pub all_right : {X : Type 0} (P : X → Type 0) (xs ys : List X) → AllByRecursion P (xs ++ ys) → AllByRecursion P ys
all_right P [] ys h = h
all_right P (x ∷ xs) ys h = all_right P xs ys h.1

abbrev pub lies : List ℕ → ℕ → Spot → Type 0
lies sizes len spot = (len ≤ spot.span) × (spot.at + spot.span ≤ get_or sizes spot.leaf 0)

-- the first place's leaves, and the other places
pub first_lies : (s : Setting) (sizes : List ℕ) (len : ℕ) (place : Place) (places : List Place) → LieOn sizes len (spots_of s (place ∷ places)) → LieOn sizes len (map (spot_in place) (leaves_of s place))
first_lies s sizes len place places h = all_left (lies sizes len) (map (spot_in place) (leaves_of s place)) (spots_of s places) h

pub head_lies : (s : Setting) (sizes : List ℕ) (len : ℕ) (places : List Place) (any : Place) → 1 ≤ length places → LieOn sizes len (spots_of s places) → LieOn sizes len (map (spot_in (get_or places 0 any)) (leaves_of s (get_or places 0 any)))
head_lies s sizes len [] any some h = absurd (omega arith)
head_lies s sizes len (place ∷ places) any some h = first_lies s sizes len place places h

pub others_lie : (s : Setting) (sizes : List ℕ) (len : ℕ) (place : Place) (places : List Place) → LieOn sizes len (spots_of s (place ∷ places)) → LieOn sizes len (spots_of s places)
others_lie s sizes len place places h = all_right (lies sizes len) (map (spot_in place) (leaves_of s place)) (spots_of s places) h

-- ---- a list that a program takes apart

pub rest_of : {X : Type 0} (x : X) (xs : List X) → take (length (x ∷ xs) - 1) (drop 1 (x ∷ xs)) ≡ xs
rest_of x xs = let e : length (x ∷ xs) - 1 ≡ length xs = omega arith in ap (λ n. take n xs) e ∙ take_all xs
  where
    take_all : {X : Type 0} (xs : List X) → take (length xs) xs ≡ xs
    take_all [] = refl
    take_all (x ∷ xs) = ap (λ ys. x ∷ ys) (take_all xs)

-- the other places of a list lie on disks of the same sizes
pub rest_lies : (s : Setting) (old new : List ℕ) (len : ℕ) (places : List Place) → 1 ≤ length places → new ≡ old → LieOn old len (spots_of s places) → LieOn new len (spots_of s (take (length places - 1) (drop 1 places)))
rest_lies s old new len [] some e h = absurd (omega arith)
rest_lies s old new len (place ∷ places) some e h =
    subst (λ sizes. LieOn sizes len (spots_of s (take (length (place ∷ places) - 1) (drop 1 (place ∷ places))))) (sym e)
    (subst (λ ps. LieOn old len (spots_of s ps)) (sym (rest_of place places)) (others_lie s old len place places h))

-- ---- spots among others

pub contains_left : {X : Type 0} (xs ys : List X) → AllByRecursion (Contains (xs ++ ys)) xs
contains_left xs ys = all_weaker (Contains xs) (Contains (xs ++ ys)) xs (λ x c. Contains-append_left xs ys x c) (all_contained xs)

pub contains_right : {X : Type 0} (xs ys : List X) → AllByRecursion (Contains (xs ++ ys)) ys
contains_right xs ys = all_weaker (Contains ys) (Contains (xs ++ ys)) ys (λ y c. Contains-append_right xs ys y c) (all_contained ys)

-- what is among some is among more
pub among_then : {X : Type 0} (xs ys zs : List X) → AllByRecursion (Contains ys) xs → AllByRecursion (Contains zs) ys → AllByRecursion (Contains zs) xs
among_then xs ys zs h k = all_weaker (Contains ys) (Contains zs) xs (λ x c. all_contains (Contains zs) ys x k c) h

-- the first leaf's spot, and those of the other leaves
pub first_leaf_among : (place : Place) (leaves : List ℕ) (spot : Spot) → 1 ≤ length leaves → spot ≡ spot_in place (get_or leaves 0 0)
    → AllByRecursion (Contains (map (spot_in place) leaves)) (spot ∷ [])
first_leaf_among place [] spot some e = absurd (omega arith)
first_leaf_among place (leaf ∷ leaves) spot some e =
    subst (λ (s : Spot). AllByRecursion (Contains (map (spot_in place) (leaf ∷ leaves))) (s ∷ [])) (sym e)
    (contains_left (spot_in place leaf ∷ []) (map (spot_in place) leaves))

pub other_leaves_among : (place : Place) (leaves : List ℕ) → 1 ≤ length leaves
    → AllByRecursion (Contains (map (spot_in place) leaves)) (map (spot_in place) (take (length leaves - 1) (drop 1 leaves)))
other_leaves_among place [] some = absurd (omega arith)
other_leaves_among place (leaf ∷ leaves) some =
    subst (λ ls. AllByRecursion (Contains (map (spot_in place) (leaf ∷ leaves))) (map (spot_in place) ls)) (sym (rest_of leaf leaves))
    (contains_right (spot_in place leaf ∷ []) (map (spot_in place) leaves))

-- the first place's spots, and those of the other places
pub first_place_among : (s : Setting) (places : List Place) (any : Place) → 1 ≤ length places
    → AllByRecursion (Contains (spots_of s places)) (map (spot_in (get_or places 0 any)) (leaves_of s (get_or places 0 any)))
first_place_among s [] any some = absurd (omega arith)
first_place_among s (place ∷ places) any some = contains_left (map (spot_in place) (leaves_of s place)) (spots_of s places)

pub other_places_among : (s : Setting) (places : List Place) → 1 ≤ length places
    → AllByRecursion (Contains (spots_of s places)) (spots_of s (take (length places - 1) (drop 1 places)))
other_places_among s [] some = absurd (omega arith)
other_places_among s (place ∷ places) some =
    subst (λ ps. AllByRecursion (Contains (spots_of s (place ∷ places))) (spots_of s ps)) (sym (rest_of place places))
    (contains_right (map (spot_in place) (leaves_of s place)) (spots_of s places))

-- spots among those that lie on the disks lie on them
pub among_lie : (sizes : List ℕ) (len : ℕ) (spots all : List Spot) → AllByRecursion (Contains all) spots → LieOn sizes len all → LieOn sizes len spots
among_lie sizes len spots all h lie = all_weaker (Contains all) (lies sizes len) spots (λ spot c. all_contains (lies sizes len) all spot lie c) h

-- ---- bytes that are padded once for a place

pub room_of : (sizes : List ℕ) (len : ℕ) (place : Place) (leaves : List ℕ) → false ≡ (length leaves == 0) → LieOn sizes len (map (spot_in place) leaves) → len ≤ place.sectors * sector_size
room_of sizes len place [] some h = absurd (let e = some in cc)
room_of sizes len place (leaf ∷ leaves) some h = h.0.0

pub whole_lies : (sizes : List ℕ) (len all : ℕ) (place : Place) (leaves : List ℕ) → all ≡ place.sectors * sector_size → LieOn sizes len (map (spot_in place) leaves) → LieOn sizes all (map (spot_in place) leaves)
whole_lies sizes len all place [] e h = tt
whole_lies sizes len all place (leaf ∷ leaves) e h = ((omega arith, h.0.1), whole_lies sizes len all place leaves e h.1)

pub padded_write : (s : Setting) (retry : Bool) (spot : Spot) (bytes whole : List ℕ) (images : Images) → whole ≡ padded_to spot.span bytes → write_leaf s retry whole images spot ≡ write_leaf s retry bytes images spot
padded_write s retry spot bytes whole images e =
    ap (write_met (met s retry true spot) images spot)
    (ap (padded_to spot.span) e ∙ padded_whole spot.span (padded_to spot.span bytes) (length-padded_to spot.span bytes))

pub turn_padded : (s : Setting) (retry : Bool) (place : Place) (leaves : List ℕ) (bytes whole : List ℕ) (images : Images) → whole ≡ padded_to (place.sectors * sector_size) bytes
    → in_turn (write_leaf s retry whole) (map (spot_in place) leaves) images ≡ in_turn (write_leaf s retry bytes) (map (spot_in place) leaves) images
turn_padded s retry place [] bytes whole images e = refl
turn_padded s retry place (leaf ∷ leaves) bytes whole images e =
    let spot : Spot = spot_in place leaf in
    let w : Written = write_leaf s retry bytes images spot in
    ap (λ v. then_writes v (in_turn (write_leaf s retry whole) (map (spot_in place) leaves))) (padded_write s retry spot bytes whole images e)
    ∙ ap (add_write w.error) (turn_padded s retry place leaves bytes whole w.images e)

-- ---- writes to the leaves of a place

-- the error and the disks after writes to these leaves in turn
abbrev pub LeavesTold : {D : Type 0} → (D → List ℕ → Type 0) → (Images → Spot → Written) → Place → List ℕ → Images → Option Errno → List D → Type 0
LeavesTold image write place leaves images error after =
    (error ≡ (place_written (in_turn write (map (spot_in place) leaves) images)).error)
    × Tell image after (in_turn write (map (spot_in place) leaves) images).images

leaves_step : {D : Type 0} (image : D → List ℕ → Type 0) (write : Images → Spot → Written) (place : Place) (leaf : ℕ) (leaves : List ℕ) (images : Images) (error others result : Option Errno) (after : List D)
    → error ≡ (write images (spot_in place leaf)).error → LeavesTold image write place leaves (write images (spot_in place leaf)).images others after → result ≡ both_failed error others
    → LeavesTold image write place (leaf ∷ leaves) images result after
leaves_step image write place leaf leaves images error others result after e o r =
    let w : Written = write images (spot_in place leaf) in
    let ws : Writes = in_turn write (map (spot_in place) leaves) w.images in
    (r ∙ ap (λ a. both_failed a others) e ∙ ap (both_failed w.error) o.0 ∙ sym (place_error w.error ws.errors), o.1)

pub leaves_told : {D : Type 0} (image : D → List ℕ → Type 0) (write : Images → Spot → Written) (place : Place) (leaves : List ℕ) (images : Images) (spot : Spot) (error others result : Option Errno) (after : List D)
    → 1 ≤ length leaves → spot ≡ spot_in place (get_or leaves 0 0) → error ≡ (write images spot).error
    → LeavesTold image write place (take (length leaves - 1) (drop 1 leaves)) (write images spot).images others after → result ≡ both_failed error others
    → LeavesTold image write place leaves images result after
leaves_told image write place [] images spot error others result after some is e o r = absurd (omega arith)
leaves_told image write place (leaf ∷ leaves) images spot error others result after some is e o r =
    let P : Spot → Type 0 = λ t. error ≡ (write images t).error → LeavesTold image write place leaves (write images t).images others after → LeavesTold image write place (leaf ∷ leaves) images result after in
    let step : P (spot_in place leaf) = λ first rest. leaves_step image write place leaf leaves images error others result after first rest r in
    subst P (sym is) step e
    (subst (λ xs. LeavesTold image write place xs (write images spot).images others after) (rest_of leaf leaves) o)
