-- A write without error leaves a copy in each of its places.
use Rattle.std.proofs.Common.{◌≡◌, ℕ, ◌+◌, ◌<◌, ◌≤◌, List, [], ◌∷◌, length, take, drop, Bool, true, false, nat_lt, Option, Some, None, Contains, ◌⊎◌, inl, inr, ⊎_elim, refl, sym, ap, ◌∙◌, subst, arith}
use Rattle.std.proofs.lemmas.Bool.{cases_lt}
use Rattle.std.proofs.lemmas.List.{get_or_past}
use Rattle.std.specs.List.{AllByRecursion}
use Rattle.zio_types.specs.declared.error.Errno.{Errno}
use Rattle.zio_types.specs.declared.error.Errno.TheVariants.{Nxio, Cksum, Io, Nospc, Inval, Exist, Noent}
use Rattle.zio_types.specs.declared.place.Place.{Place}
use Rattle.zio_types.specs.Errors.{rank, second_if, worst_error, worst_of}
use Rattle.zio_faults.specs.declared.table.FaultKind.{FaultKind}
use Rattle.zio_faults.specs.declared.table.FaultKind.TheVariants.{Eio, Gone, Flip}
use Rattle.zio_faults.specs.declared.table.Hit.{Hit}
use Rattle.zio_script.specs.Whys.{is_flip}
use Rattle.zio_cksum.specs.Blocks.{Writes, again_with, all_errors, blame, error_if, in_turn, write_pass, write_piece, write_place}
use Rattle.zio_cksum.specs.Frames.{FitSpots, HaveRoom, spots_of}
use Rattle.zio_cksum.specs.Images.{Images, Setting, Spot, Written, bytes_at, faulty_write, image_of, met, overwritten, padded_to, with_bytes, write_leaf, write_met}
use Rattle.zio_cksum.proofs.AllLemmas.{all_contains}
use Rattle.zio_cksum.proofs.ByteLemmas.{image_of_same, length-padded_to}
use Rattle.zio_cksum.proofs.FrameLemmas.{AreAmong, fit_same, places_among, spot_fits, write_same}
use Rattle.zio_trace.specs.Leaves.{AreClear}
use Rattle.zio_trace.specs.Readers.{CopiesApart}
use Rattle.zio_trace.proofs.ByteLemmas.{front_padded, read_written}
use Rattle.zio_trace.proofs.ListLemmas.{contains_first, contains_later}
use Rattle.zio_heal.specs.Copies.{HasCopy, StoresAsGiven, spots_in}
use Rattle.zio_heal.proofs.CopyLemmas.{kept_there}
use Rattle.zio_heal.proofs.FaultLemmas.{TurnsNothing, stores_quiet}

-- ---- errors of several writes

none_first : (e : Errno) → worst_error None (Some e) ≡ Some e
none_first Nxio = refl
none_first Cksum = refl
none_first Io = refl
none_first Nospc = refl
none_first Inval = refl
none_first Exist = refl
none_first Noent = refl

none_last : (e : Errno) → worst_error (Some e) None ≡ Some e
none_last Nxio = refl
none_last Cksum = refl
none_last Io = refl
none_last Nospc = refl
none_last Inval = refl
none_last Exist = refl
none_last Noent = refl

one_of : (b : Bool) (e f : Errno) → second_if b (Some e) (Some f) ≡ None → ⊥
one_of true e f h = cc
one_of false e f h = cc

-- where the worse of two is none, both are
pub both_none : (a b : Option Errno) → worst_error a b ≡ None → (a ≡ None) × (b ≡ None)
both_none None None h = (refl, refl)
both_none None (Some e) h = absurd (let is : Some e ≡ None = sym (none_first e) ∙ h in cc)
both_none (Some e) None h = absurd (let is : Some e ≡ None = sym (none_last e) ∙ h in cc)
both_none (Some e) (Some f) h = absurd (one_of (nat_lt (rank (Some e)) (rank (Some f))) e f h)

-- ---- one write to a leaf

-- these bytes are at the front of the spot
abbrev pub IsAt : List ℕ → Spot → Images → Type 0
IsAt bytes t images = bytes_at images t (length bytes) ≡ bytes

fails : (kind : FaultKind) (hit : Hit) (images : Images) (t : Spot) (vs : List ℕ) → is_flip kind ≡ false → (faulty_write kind hit images t vs).error ≡ None → ⊥
fails Eio hit images t vs quiet h = cc
fails Gone hit images t vs quiet h = cc
fails Flip hit images t vs quiet h = cc

changes_nothing : (kind : FaultKind) (hit : Hit) (images : Images) (t : Spot) (vs : List ℕ) → is_flip kind ≡ false → (faulty_write kind hit images t vs).images ≡ images
changes_nothing Eio hit images t vs quiet = refl
changes_nothing Gone hit images t vs quiet = refl
changes_nothing Flip hit images t vs quiet = absurd (cc)

-- without error the bytes are stored
met_stored : (m : Option Hit) (images : Images) (t : Spot) (vs : List ℕ) → TurnsNothing m → (write_met m images t vs).error ≡ None → (write_met m images t vs).images ≡ with_bytes images t vs
met_stored None images t vs quiet h = refl
met_stored (Some hit) images t vs quiet h = absurd (fails hit.kind hit images t vs quiet h)

-- the bytes are stored, or nothing is changed
met_either : (m : Option Hit) (images : Images) (t : Spot) (vs : List ℕ) → TurnsNothing m → ((write_met m images t vs).images ≡ with_bytes images t vs) ⊎ ((write_met m images t vs).images ≡ images)
met_either None images t vs quiet = inl refl
met_either (Some hit) images t vs quiet = inr (changes_nothing hit.kind hit images t vs quiet)

-- what is stored is there
stored_there : (images : Images) (t : Spot) (bytes : List ℕ) → length bytes ≤ t.span → t.at + t.span ≤ length (image_of images t.leaf) → IsAt bytes t (with_bytes images t (padded_to t.span bytes))
stored_there images t [] room fit = refl
stored_there images t (b ∷ bs) room fit =
    let vs : List ℕ = padded_to t.span (b ∷ bs) in
    let full : length vs ≡ t.span = length-padded_to t.span (b ∷ bs) in
    ⊎_elim
    (λ (there : t.leaf < length images).
    ap (λ (i : List ℕ). take (length (b ∷ bs)) (drop t.at i)) (image_of_same images t.leaf (overwritten (image_of images t.leaf) t.at vs) there)
    ∙ read_written (image_of images t.leaf) vs t.at (length (b ∷ bs)) (omega arith) (omega arith)
    ∙ front_padded t.span (b ∷ bs) room)
    (λ (past : length images ≤ t.leaf).
    let none : length (image_of images t.leaf) ≡ 0 = ap (λ (i : List ℕ). length i) (get_or_past images t.leaf [] past) in
    absurd (omega arith))
    (cases_lt t.leaf (length images))

-- What holds of the spots of a write: the rows store as given, the bytes have room, and the spots are apart.
pub record IsGround (s : Setting) (bytes : List ℕ) (all : List Spot) : Type 0 where
  pub given : StoresAsGiven s
  pub room : HaveRoom (length bytes) all
  pub apart : CopiesApart all

has_room : (s : Setting) (bytes : List ℕ) (all : List Spot) (t : Spot) → IsGround s bytes all → Contains all t → length bytes ≤ t.span
has_room s bytes all t g c = all_contains (λ (u : Spot). length bytes ≤ u.span) all t g.room c

-- a write without error leaves its bytes
leaf_made : (s : Setting) (bytes : List ℕ) (all : List Spot) (retry : Bool) (images : Images) (t : Spot) → IsGround s bytes all → FitSpots all images → Contains all t → (write_leaf s retry bytes images t).error ≡ None → IsAt bytes t (write_leaf s retry bytes images t).images
leaf_made s bytes all retry images t g fit c h =
    ap (λ (i : Images). bytes_at i t (length bytes)) (met_stored (met s retry true t) images t (padded_to t.span bytes) (stores_quiet s retry t g.given) h)
    ∙ stored_there images t bytes (has_room s bytes all t g c) (spot_fits all images t fit c)

-- a write of the same bytes to the same spot keeps them
leaf_again : (s : Setting) (bytes : List ℕ) (all : List Spot) (retry : Bool) (images : Images) (t : Spot) → IsGround s bytes all → FitSpots all images → Contains all t → IsAt bytes t images → IsAt bytes t (write_leaf s retry bytes images t).images
leaf_again s bytes all retry images t g fit c at =
    let vs : List ℕ = padded_to t.span bytes in
    ⊎_elim
    (λ (e : (write_met (met s retry true t) images t vs).images ≡ with_bytes images t vs).
    ap (λ (i : Images). bytes_at i t (length bytes)) e
    ∙ stored_there images t bytes (has_room s bytes all t g c) (spot_fits all images t fit c))
    (λ (e : (write_met (met s retry true t) images t vs).images ≡ images). ap (λ (i : Images). bytes_at i t (length bytes)) e ∙ at)
    (met_either (met s retry true t) images t vs (stores_quiet s retry t g.given))

-- and so does one to another of the spots
pub leaf_keeps : (s : Setting) (bytes : List ℕ) (all : List Spot) (retry : Bool) (images : Images) (t u : Spot) → IsGround s bytes all → FitSpots all images → Contains all t → Contains all u → IsAt bytes t images → IsAt bytes t (write_leaf s retry bytes images u).images
leaf_keeps s bytes all retry images t u g fit ct cu at =
    ⊎_elim
    (λ (e : t ≡ u). subst (λ (v : Spot). IsAt bytes t (write_leaf s retry bytes images v).images) e (leaf_again s bytes all retry images t g fit ct at))
    (λ (clear : AreClear t u).
    kept_there (u ∷ []) images (write_leaf s retry bytes images u).images t (length bytes)
    (write_same (u ∷ []) s retry bytes images u (spot_fits all images u fit cu, tt) (contains_first u []))
    (clear, tt) (has_room s bytes all t g ct)
    ∙ at)
    (g.apart t u ct cu)

pub leaf_fits : (s : Setting) (bytes : List ℕ) (all : List Spot) (retry : Bool) (images : Images) (u : Spot) → FitSpots all images → Contains all u → FitSpots all (write_leaf s retry bytes images u).images
leaf_fits s bytes all retry images u fit cu =
    fit_same all all images (write_leaf s retry bytes images u).images (write_same all s retry bytes images u fit cu) fit

-- ---- writes to leaves in turn

turn_fits : (s : Setting) (bytes : List ℕ) (all : List Spot) (retry : Bool) (xs : List Spot) (images : Images) → AllByRecursion (Contains all) xs → FitSpots all images → FitSpots all (in_turn (write_leaf s retry bytes) xs images).images
turn_fits s bytes all retry [] images among fit = fit
turn_fits s bytes all retry (x ∷ xs) images among fit =
    turn_fits s bytes all retry xs (write_leaf s retry bytes images x).images among.1 (leaf_fits s bytes all retry images x fit among.0)

turn_keeps : (s : Setting) (bytes : List ℕ) (all : List Spot) (retry : Bool) (t : Spot) (xs : List Spot) (images : Images) → IsGround s bytes all → Contains all t → AllByRecursion (Contains all) xs → FitSpots all images → IsAt bytes t images → IsAt bytes t (in_turn (write_leaf s retry bytes) xs images).images
turn_keeps s bytes all retry t [] images g ct among fit at = at
turn_keeps s bytes all retry t (x ∷ xs) images g ct among fit at =
    turn_keeps s bytes all retry t xs (write_leaf s retry bytes images x).images g ct among.1
    (leaf_fits s bytes all retry images x fit among.0)
    (leaf_keeps s bytes all retry images t x g fit ct among.0 at)

-- the first write has left the bytes, or a later one has
first_or : (e : Option Errno) (bytes : List ℕ) (x : Spot) (xs : List Spot) (rest : Writes) → (e ≡ None → IsAt bytes x rest.images) → (all_errors rest.errors ≡ false → HasCopy xs bytes rest.images) → all_errors (e ∷ rest.errors) ≡ false → HasCopy (x ∷ xs) bytes rest.images
first_or None bytes x xs rest first later h = record { spot = x; listed = contains_first x xs; there = first refl }
first_or (Some e) bytes x xs rest first later h =
    let copy : HasCopy xs bytes rest.images = later h in
    record { spot = copy.spot; listed = contains_later x xs copy.spot copy.listed; there = copy.there }

-- where not all failed, one of the spots has a copy
turn_makes : (s : Setting) (bytes : List ℕ) (all : List Spot) (retry : Bool) (xs : List Spot) (images : Images) → IsGround s bytes all → AllByRecursion (Contains all) xs → FitSpots all images → all_errors (in_turn (write_leaf s retry bytes) xs images).errors ≡ false → HasCopy xs bytes (in_turn (write_leaf s retry bytes) xs images).images
turn_makes s bytes all retry [] images g among fit h = absurd (cc)
turn_makes s bytes all retry (x ∷ xs) images g among fit h =
    let w : Written = write_leaf s retry bytes images x in
    let fits : FitSpots all w.images = leaf_fits s bytes all retry images x fit among.0 in
    first_or w.error bytes x xs (in_turn (write_leaf s retry bytes) xs w.images)
    (λ none. turn_keeps s bytes all retry x xs w.images g among.0 among.1 fits (leaf_made s bytes all retry images x g fit among.0 none))
    (λ some. turn_makes s bytes all retry xs w.images g among.1 fits some) h

-- ---- writes to places in turn

not_all : (b : Bool) (e : Errno) → error_if b (Some e) ≡ None → b ≡ false
not_all true e h = absurd (cc)
not_all false e h = refl

place_makes : (s : Setting) (bytes : List ℕ) (all : List Spot) (retry : Bool) (p : Place) (images : Images) → IsGround s bytes all → AreAmong all s p → FitSpots all images → (write_place s retry bytes images p).error ≡ None → HasCopy (spots_in s p) bytes (write_place s retry bytes images p).images
place_makes s bytes all retry p images g among fit h =
    let w : Writes = in_turn (write_leaf s retry bytes) (spots_in s p) images in
    turn_makes s bytes all retry (spots_in s p) images g among fit (not_all (all_errors w.errors) (blame w.errors) h)

pass_fits : (s : Setting) (bytes : List ℕ) (all : List Spot) (retry : Bool) (ps : List Place) (images : Images) → AllByRecursion (AreAmong all s) ps → FitSpots all images → FitSpots all (in_turn (write_place s retry bytes) ps images).images
pass_fits s bytes all retry [] images among fit = fit
pass_fits s bytes all retry (p ∷ ps) images among fit =
    pass_fits s bytes all retry ps (write_place s retry bytes images p).images among.1 (turn_fits s bytes all retry (spots_in s p) images among.0 fit)

pass_keeps : (s : Setting) (bytes : List ℕ) (all : List Spot) (retry : Bool) (t : Spot) (ps : List Place) (images : Images) → IsGround s bytes all → Contains all t → AllByRecursion (AreAmong all s) ps → FitSpots all images → IsAt bytes t images → IsAt bytes t (in_turn (write_place s retry bytes) ps images).images
pass_keeps s bytes all retry t [] images g ct among fit at = at
pass_keeps s bytes all retry t (p ∷ ps) images g ct among fit at =
    pass_keeps s bytes all retry t ps (write_place s retry bytes images p).images g ct among.1
    (turn_fits s bytes all retry (spots_in s p) images among.0 fit)
    (turn_keeps s bytes all retry t (spots_in s p) images g ct among.0 fit at)

-- a pass without error leaves a copy in each place
pass_makes : (s : Setting) (bytes : List ℕ) (all : List Spot) (retry : Bool) (ps : List Place) (images : Images) → IsGround s bytes all → AllByRecursion (AreAmong all s) ps → FitSpots all images → worst_of (in_turn (write_place s retry bytes) ps images).errors ≡ None → AllByRecursion (λ (p : Place). HasCopy (spots_in s p) bytes (in_turn (write_place s retry bytes) ps images).images) ps
pass_makes s bytes all retry [] images g among fit h = tt
pass_makes s bytes all retry (p ∷ ps) images g among fit h =
    let w : Written = write_place s retry bytes images p in
    let rest : Writes = in_turn (write_place s retry bytes) ps w.images in
    let none = both_none w.error (worst_of rest.errors) h in
    let fits : FitSpots all w.images = turn_fits s bytes all retry (spots_in s p) images among.0 fit in
    let copy : HasCopy (spots_in s p) bytes w.images = place_makes s bytes all retry p images g among.0 fit none.0 in
    let later : IsAt bytes copy.spot rest.images =
    pass_keeps s bytes all retry copy.spot ps w.images g (all_contains (Contains all) (spots_in s p) copy.spot among.0 copy.listed) among.1 fits copy.there in
    (record { spot = copy.spot; listed = copy.listed; there = later }, pass_makes s bytes all retry ps w.images g among.1 fits none.1)

-- ---- both passes

last_counts : (P : Images → Type 0) (e : Option Errno) (w : Written) (again : Images → Written) → w.error ≡ e → (w.error ≡ None → P w.images) → ((again w.images).error ≡ None → P (again w.images).images) → (again_with e w again).error ≡ None → P (again_with e w again).images
last_counts P None w again is first second h = first h
last_counts P (Some e) w again is first second h = second h

pub made_law : (s : Setting) (bytes : List ℕ) (places : List Place) (images : Images) → StoresAsGiven s → FitSpots (spots_of s places) images → HaveRoom (length bytes) (spots_of s places) → CopiesApart (spots_of s places) → (write_piece s bytes places images).error ≡ None → AllByRecursion (λ (p : Place). HasCopy (spots_in s p) bytes (write_piece s bytes places images).images) places
made_law s bytes places images given fit room apart h =
    let all : List Spot = spots_of s places in
    let among : AllByRecursion (AreAmong all s) places = places_among s places in
    let g : IsGround s bytes all = record { given = given; room = room; apart = apart } in
    let w : Written = write_pass s false bytes places images in
    last_counts (λ (now : Images). AllByRecursion (λ (p : Place). HasCopy (spots_in s p) bytes now) places) w.error w (write_pass s true bytes places) refl
    (λ none. pass_makes s bytes all false places images g among fit none)
    (λ none. pass_makes s bytes all true places w.images g among (pass_fits s bytes all false places images among fit) none) h

-- ---- one of several places

pub any_law : (s : Setting) (bytes : List ℕ) (places : List Place) (p : Place) (images : Images) → Contains places p → HasCopy (spots_in s p) bytes images → HasCopy (spots_of s places) bytes images
any_law s bytes places p images listed copy =
    let among : AllByRecursion (Contains (spots_of s places)) (spots_in s p) = all_contains (AreAmong (spots_of s places) s) places p (places_among s places) listed in
    record {
      spot = copy.spot;
      listed = all_contains (Contains (spots_of s places)) (spots_in s p) copy.spot among copy.listed;
      there = copy.there;
    }
