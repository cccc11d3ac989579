-- The programs of a block's copies, run alone, are the definitions.
use Rattle.std.proofs.Common.{◌≡◌, ℕ, List, [], ◌∷◌, ◌++◌, map, Bool, true, false, Option, Some, None, Result, Ok, Err, refl, sym, ap, ◌∙◌, arith, subst, append_assoc, append-nil}
use Rattle.zio_types.specs.declared.error.Errno.{Errno}
use Rattle.zio_types.specs.declared.place.Place.{Place}
use Rattle.zio_types.specs.Errors.{worst_error, worst_of}
use Rattle.zio_types.proofs.ErrorLemmas.{same_rank, rank-worst_error, worst_error_assoc, worst_error_comm}
use Rattle.zio_cksum.specs.Blocks.{Tried, first_good, then_others, judged, spot_in, leaves_of, read_order, read_place, Pass, passed_with, read_pass, blame, repaired, repaired_if, last_pass_with, first_pass_with, read_block, Writes, in_turn, write_place, write_pass, again_with, write_piece}
use Rattle.zio_cksum.specs.Headers.{offset_of}
use Rattle.zio_cksum.specs.Images.{Images, Setting, Spot, Written, read_leaf, write_leaf}
use Rattle.zio_trace.specs.CopyPrograms.{Program, with_failure, try_on, try_each, fetch_in, place_reading, pass_on, pass_each, pass_reading, none_tried, none_passed, store_each, found_by, last_on, first_on, block_reading, place_error, place_writing, places_writing, pass_writing, again_on, piece_writing}
use Rattle.zio_trace.specs.Leaves.{answer_of, error_of, on_leaf, Gives}
use Rattle.zio_trace.specs.Programs.{Ends, ◌>>=◌}
use Rattle.zio_trace.proofs.ProgramLemmas.{gives_then as then_gives}

gives_then : {A B : Type 0} (s : Setting) (p : Program A) (next : A → Program B) (before : Images) (a : A) (mid : Images) (b : B) (after : Images) → Gives s p before a mid → Gives s (next a) mid b after → Gives s (p >>= next) before b after
gives_then s p next before a mid b after h k = then_gives (on_leaf s) p next before _ _ h k

-- another name of what a program gives
gives_as : {A : Type 0} (s : Setting) (p : Program A) (before : Images) (a b : A) (after : Images) → a ≡ b → Gives s p before a after → Gives s p before b after
gives_as s p before a b after e h = subst (λ (x : _). Gives s p before x after) e h

-- ---- reading a place

-- what failed so far, and then what the tries come to
abbrev joined_tried : {C : Type 0} → Tried C → Tried C → Tried C
joined_tried so_far later = record {
  found = later.found;
  failed = so_far.failed ++ later.failed;
  errors = so_far.errors ++ later.errors;
}

tried_more : {C : Type 0} (c : C) (e : Errno) (so_far later : Tried C) → joined_tried (with_failure c e so_far) later ≡ joined_tried so_far (then_others c (Err e) later)
tried_more c e so_far later i = record {
  found = later.found;
  failed = append_assoc so_far.failed (c ∷ []) later.failed i;
  errors = append_assoc so_far.errors (Some e ∷ []) later.errors i;
}

tried_nothing : {C : Type 0} (found : Option (List ℕ)) (so_far : Tried C) → ◌≡◌ {A = Tried C} (record { found = found; failed = so_far.failed; errors = so_far.errors }) (joined_tried so_far (record { found = found; failed = []; errors = [] }))
tried_nothing found so_far i = record { found = found; failed = sym (append-nil so_far.failed) i; errors = sym (append-nil so_far.errors) i }

try_on_run : {C : Type 0} (s : Setting) (c : C) (r : Result (List ℕ) Errno) (so_far later : Tried C) (on : Tried C → Program (Tried C)) (images : Images)
    → ((now : Tried C) → now.found ≡ None → Gives s (on now) images (joined_tried now later) images) → Gives s (try_on c r so_far on) images (joined_tried so_far (then_others c r later)) images
try_on_run s c (Ok bytes) so_far later on images h =
    gives_as s (Ends (record { found = Some bytes; failed = so_far.failed; errors = so_far.errors })) images _ _ images (tried_nothing (Some bytes) so_far) refl
try_on_run s c (Err e) so_far later on images h =
    gives_as s (on (with_failure c e so_far)) images _ _ images (tried_more c e so_far later) (h (with_failure c e so_far) refl)

tries_run : (s : Setting) (retry : Bool) (good : List ℕ → Bool) (len : ℕ) (p : Place) (leaves : List ℕ) (images : Images) (so_far : Tried ℕ) → so_far.found ≡ None
    → Gives s (try_each (fetch_in retry len p) good so_far leaves) images (joined_tried so_far (first_good (λ leaf. judged good (read_leaf s retry images len (spot_in p leaf))) leaves)) images
tries_run s retry good len p [] images so_far none =
    gives_as s (Ends so_far) images _ _ images ((λ i. record { found = none i; failed = so_far.failed; errors = so_far.errors }) ∙ tried_nothing None so_far) refl
tries_run s retry good len p (leaf ∷ leaves) images so_far none =
    try_on_run s leaf (judged good (read_leaf s retry images len (spot_in p leaf))) so_far _ (λ now. try_each (fetch_in retry len p) good now leaves) images
    (λ now is. tries_run s retry good len p leaves images now is)

pub place_run : (s : Setting) (retry : Bool) (good : List ℕ → Bool) (len : ℕ) (p : Place) (images : Images) → Gives s (place_reading s retry good len p) images (read_place s retry good images len p) images
place_run s retry good len p images = tries_run s retry good len p (read_order (offset_of p) (leaves_of s p)) images none_tried refl

-- ---- reading a block

abbrev joined_pass : Pass → Pass → Pass
joined_pass so_far later = record {
  found = later.found;
  repairs = so_far.repairs ++ later.repairs;
  errors = so_far.errors ++ later.errors;
}

passed_nothing : (so_far : Pass) (found : Option (List ℕ)) (bad : List Spot) → ◌≡◌ {A = Pass} (record { found = found; repairs = so_far.repairs ++ bad; errors = so_far.errors }) (joined_pass so_far (record { found = found; repairs = bad; errors = [] }))
passed_nothing so_far found bad i = record { found = found; repairs = so_far.repairs ++ bad; errors = sym (append-nil so_far.errors) i }

passed_more : (so_far later : Pass) (all bad : List Spot) (tried : Tried ℕ)
    → joined_pass (record { found = None; repairs = so_far.repairs ++ all; errors = so_far.errors ++ Some (blame tried.errors) ∷ [] }) later ≡ joined_pass so_far (passed_with None bad all tried later)
passed_more so_far later all bad tried i = record {
  found = later.found;
  repairs = append_assoc so_far.repairs all later.repairs i;
  errors = append_assoc so_far.errors (Some (blame tried.errors) ∷ []) later.errors i;
}

pass_on_run : (s : Setting) (found : Option (List ℕ)) (bad all : List Spot) (tried : Tried ℕ) (so_far later : Pass) (on : Pass → Program Pass) (images : Images)
    → ((now : Pass) → now.found ≡ None → Gives s (on now) images (joined_pass now later) images) → Gives s (pass_on found bad all tried so_far on) images (joined_pass so_far (passed_with found bad all tried later)) images
pass_on_run s (Some bytes) bad all tried so_far later on images h =
    gives_as s (Ends (record { found = Some bytes; repairs = so_far.repairs ++ bad; errors = so_far.errors })) images _ _ images (passed_nothing so_far (Some bytes) bad) refl
pass_on_run s None bad all tried so_far later on images h =
    gives_as s (on (record { found = None; repairs = so_far.repairs ++ all; errors = so_far.errors ++ Some (blame tried.errors) ∷ [] })) images _ _ images
    (passed_more so_far later all bad tried) (h _ refl)

pass_each_run : (s : Setting) (retry : Bool) (good : List ℕ → Bool) (len : ℕ) (places : List Place) (images : Images) (so_far : Pass) → so_far.found ≡ None
    → Gives s (pass_each s retry good len so_far places) images (joined_pass so_far (read_pass s retry good images len places)) images
pass_each_run s retry good len [] images so_far none =
    gives_as s (Ends so_far) images _ _ images
    (λ i. record { found = none i; repairs = sym (append-nil so_far.repairs) i; errors = sym (append-nil so_far.errors) i }) refl
pass_each_run s retry good len (p ∷ ps) images so_far none =
    let tried : Tried ℕ = read_place s retry good images len p in
    gives_then s (place_reading s retry good len p) _ images tried images _ images (place_run s retry good len p images)
    (pass_on_run s tried.found (map (spot_in p) tried.failed) (map (spot_in p) (leaves_of s p)) tried so_far (read_pass s retry good images len ps) (λ now. pass_each s retry good len now ps) images
    (λ now is. pass_each_run s retry good len ps images now is))

pub pass_run : (s : Setting) (retry : Bool) (good : List ℕ → Bool) (len : ℕ) (places : List Place) (images : Images) → Gives s (pass_reading s retry good len places) images (read_pass s retry good images len places) images
pass_run s retry good len places images = pass_each_run s retry good len places images none_passed refl

-- ---- stores in turn

error_back : (error : Option Errno) → error_of (answer_of error) ≡ error
error_back None = refl
error_back (Some e) = refl

store_run : (s : Setting) (retry : Bool) (bytes : List ℕ) (spots : List Spot) (images : Images) (so_far : List (Option Errno))
    → Gives s (store_each retry bytes so_far spots) images (so_far ++ (in_turn (write_leaf s retry bytes) spots images).errors) (in_turn (write_leaf s retry bytes) spots images).images
store_run s retry bytes [] images so_far = gives_as s (Ends so_far) images _ _ images (sym (append-nil so_far)) refl
store_run s retry bytes (spot ∷ spots) images so_far =
    let w : Written = write_leaf s retry bytes images spot in
    let ws : Writes = in_turn (write_leaf s retry bytes) spots w.images in
    let now : List (Option Errno) = so_far ++ error_of (answer_of w.error) ∷ [] in
    let joined : now ++ ws.errors ≡ so_far ++ (w.error ∷ ws.errors) =
    append_assoc so_far (error_of (answer_of w.error) ∷ []) ws.errors ∙ ap (λ (e : Option Errno). so_far ++ (e ∷ ws.errors)) (error_back w.error) in
    gives_as s (store_each retry bytes now spots) w.images _ _ ws.images joined (store_run s retry bytes spots w.images now)

-- ---- repairs

repaired_turn : (s : Setting) (retry : Bool) (bytes : List ℕ) (spots : List Spot) (images : Images) → (in_turn (write_leaf s retry bytes) spots images).images ≡ repaired s retry bytes spots images
repaired_turn s retry bytes [] images = refl
repaired_turn s retry bytes (spot ∷ spots) images = repaired_turn s retry bytes spots ((write_leaf s retry bytes images spot).images)

found_run : (s : Setting) (repair retry : Bool) (pass : Pass) (bytes : List ℕ) (images : Images) → Gives s (found_by repair retry pass bytes) images (Ok bytes) (repaired_if repair s retry bytes pass.repairs images)
found_run s true retry pass bytes images =
    let ws : Writes = in_turn (write_leaf s retry bytes) pass.repairs images in
    gives_then s (store_each retry bytes [] pass.repairs) (λ errors. Ends (Ok bytes)) images ws.errors ws.images (Ok bytes) (repaired s retry bytes pass.repairs images)
    (store_run s retry bytes pass.repairs images [])
    (ap (λ (i : Images). record { value = Ok bytes; asks = []; images = i }) (repaired_turn s retry bytes pass.repairs images))
found_run s false retry pass bytes images = refl

last_run : (s : Setting) (found : Option (List ℕ)) (repair : Bool) (pass : Pass) (images : Images) → Gives s (last_on found repair pass) images (last_pass_with found s repair images pass).found (last_pass_with found s repair images pass).images
last_run s (Some bytes) repair pass images = found_run s repair true pass bytes images
last_run s None repair pass images = refl

first_run : (s : Setting) (found : Option (List ℕ)) (repair : Bool) (pass : Pass) (again : Program Pass) (pass_in : Bool → Pass) (images : Images) → Gives s again images (pass_in true) images → Gives s (first_on found repair pass again) images (first_pass_with found s repair images pass pass_in).found (first_pass_with found s repair images pass pass_in).images
first_run s (Some bytes) repair pass again pass_in images h = found_run s repair false pass bytes images
first_run s None repair pass again pass_in images h =
    gives_then s again (λ last. last_on last.found repair last) images (pass_in true) images _ _ h (last_run s (pass_in true).found repair (pass_in true) images)

-- A block's read is its program, run alone.
pub block_run : (s : Setting) (repair : Bool) (good : List ℕ → Bool) (len : ℕ) (places : List Place) (images : Images) → Gives s (block_reading s repair good len places) images (read_block s repair good images len places).found (read_block s repair good images len places).images
block_run s repair good len places images =
    let pass : Pass = read_pass s false good images len places in
    gives_then s (pass_reading s false good len places) (λ pass. first_on pass.found repair pass (pass_reading s true good len places)) images pass images _ _
    (pass_run s false good len places images)
    (first_run s pass.found repair pass (pass_reading s true good len places) (λ retry. read_pass s retry good images len places) images (pass_run s true good len places images))

-- ---- writing

place_write_run : (s : Setting) (retry : Bool) (bytes : List ℕ) (p : Place) (images : Images) → Gives s (place_writing s retry bytes p) images (write_place s retry bytes images p).error (write_place s retry bytes images p).images
place_write_run s retry bytes p images =
    let spots : List Spot = map (spot_in p) (leaves_of s p) in
    let ws : Writes = in_turn (write_leaf s retry bytes) spots images in
    gives_then s (store_each retry bytes [] spots) (λ errors. Ends (place_error errors)) images ws.errors ws.images (place_error ws.errors) ws.images
    (store_run s retry bytes spots images []) refl

worst_after : (worst error : Option Errno) (errors : List (Option Errno)) → worst_error (worst_error worst error) (worst_of errors) ≡ worst_error worst (worst_of (error ∷ errors))
worst_after worst error errors = sym (worst_error_assoc worst error (worst_of errors))

worst_none : (error : Option Errno) → worst_error error None ≡ error
worst_none error = same_rank _ _ (omega (arith, rank-worst_error error None))

places_write_run : (s : Setting) (retry : Bool) (bytes : List ℕ) (places : List Place) (images : Images) (worst : Option Errno)
    → Gives s (places_writing s retry bytes worst places) images (worst_error worst (worst_of (in_turn (write_place s retry bytes) places images).errors)) (in_turn (write_place s retry bytes) places images).images
places_write_run s retry bytes [] images worst = gives_as s (Ends worst) images _ _ images (sym (worst_none worst)) refl
places_write_run s retry bytes (p ∷ ps) images worst =
    let w : Written = write_place s retry bytes images p in
    let ws : Writes = in_turn (write_place s retry bytes) ps w.images in
    gives_then s (place_writing s retry bytes p) _ images w.error w.images _ ws.images (place_write_run s retry bytes p images)
    (gives_as s (places_writing s retry bytes (worst_error worst w.error) ps) w.images _ _ ws.images (worst_after worst w.error ws.errors)
    (places_write_run s retry bytes ps w.images (worst_error worst w.error)))

pass_write_run : (s : Setting) (retry : Bool) (bytes : List ℕ) (places : List Place) (images : Images) → Gives s (pass_writing s retry bytes places) images (write_pass s retry bytes places images).error (write_pass s retry bytes places images).images
pass_write_run s retry bytes places images =
    let ws : Writes = in_turn (write_place s retry bytes) places images in
    gives_as s (places_writing s retry bytes None places) images _ _ ws.images (worst_error_comm None (worst_of ws.errors) ∙ worst_none (worst_of ws.errors))
    (places_write_run s retry bytes places images None)

again_run : (s : Setting) (error : Option Errno) (w : Written) (again : Program (Option Errno)) (later : Images → Written) → w.error ≡ error → ((now : Images) → Gives s again now (later now).error (later now).images) → Gives s (again_on error again) w.images (again_with error w later).error (again_with error w later).images
again_run s None w again later e h = ap (λ (x : Option Errno). record { value = x; asks = []; images = w.images }) (sym e)
again_run s (Some e) w again later is h = h w.images

-- A piece's write is its program, run alone.
pub piece_run : (s : Setting) (bytes : List ℕ) (places : List Place) (images : Images) → Gives s (piece_writing s bytes places) images (write_piece s bytes places images).error (write_piece s bytes places images).images
piece_run s bytes places images =
    let w : Written = write_pass s false bytes places images in
    gives_then s (pass_writing s false bytes places) (λ error. again_on error (pass_writing s true bytes places)) images w.error w.images _ _
    (pass_write_run s false bytes places images)
    (again_run s w.error w (pass_writing s true bytes places) (write_pass s true bytes places) refl (λ now. pass_write_run s true bytes places now))
