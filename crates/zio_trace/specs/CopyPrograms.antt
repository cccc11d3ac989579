-- The reads and writes of the copies of a block as programs of leaf operations. Each loop carries what it has so far,
-- so that what is left of a program can be told at every operation from a few values.
use Rattle.std.specs.Prelude.{ℕ, List, [], ◌∷◌, ◌++◌, map, Bool, true, false, Option, Some, None, Result, Ok, Err}
use Rattle.zio_types.specs.declared.error.Errno.{Errno}
use Rattle.zio_types.specs.declared.place.Place.{Place}
use Rattle.zio_types.specs.Errors.{worst_error}
use Rattle.zio_cksum.specs.Blocks.{Tried, judged, spot_in, leaves_of, read_order, Pass, blame, all_errors, error_if}
use Rattle.zio_cksum.specs.Headers.{offset_of}
use Rattle.zio_cksum.specs.Images.{Setting, Spot}
use Rattle.zio_trace.specs.Leaves.{LeafOp, Fetch, Store, Answer, error_of}
use Rattle.zio_trace.specs.Programs.{Program as ProgramOf, Ends, Asks, ◌>>=◌}

-- a program of leaf operations
abbrev pub Program : Type 0 → Type 0
Program A = ProgramOf LeafOp Answer A

-- ---- reading a place

abbrev pub none_tried : {C : Type 0} → Tried C
none_tried = record { found = None; failed = []; errors = [] }

-- one more has failed
abbrev pub with_failure : {C : Type 0} → C → Errno → Tried C → Tried C
with_failure c e so_far = record {
  found = None;
  failed = so_far.failed ++ c ∷ [];
  errors = so_far.errors ++ Some e ∷ [];
}

-- a good answer ends the tries
abbrev pub try_on : {C : Type 0} → C → Result (List ℕ) Errno → Tried C → (Tried C → Program (Tried C)) → Program (Tried C)
try_on c (Ok bytes) so_far on = Ends (record { found = Some bytes; failed = so_far.failed; errors = so_far.errors })
try_on c (Err e) so_far on = on (with_failure c e so_far)

-- these are still to be tried, behind those that failed so far
abbrev pub try_each : {C : Type 0} → (C → LeafOp) → (List ℕ → Bool) → Tried C → List C → Program (Tried C)
try_each op good so_far [] = Ends so_far
try_each op good so_far (c ∷ cs) =
    Asks (op c) (λ answer. try_on c (judged good answer) so_far (λ now. try_each op good now cs))

abbrev pub fetch_in : Bool → ℕ → Place → ℕ → LeafOp
fetch_in retry len p leaf = Fetch retry len (spot_in p leaf)

abbrev pub place_reading : Setting → Bool → (List ℕ → Bool) → ℕ → Place → Program (Tried ℕ)
place_reading s retry good len p = try_each (fetch_in retry len p) good none_tried (read_order (offset_of p) (leaves_of s p))

-- ---- reading a block

abbrev pub none_passed : Pass
none_passed = record { found = None; repairs = []; errors = [] }

-- a place with a good leaf ends the pass; else all its leaves are to be repaired, and its error counts
abbrev pub pass_on : Option (List ℕ) → List Spot → List Spot → Tried ℕ → Pass → (Pass → Program Pass) → Program Pass
pass_on (Some bytes) bad all tried so_far on =
    Ends (record { found = Some bytes; repairs = so_far.repairs ++ bad; errors = so_far.errors })
pass_on None bad all tried so_far on =
    on (record { found = None; repairs = so_far.repairs ++ all; errors = so_far.errors ++ Some (blame tried.errors) ∷ [] })

-- these places are still to be tried, behind those that failed so far
abbrev pub pass_each : Setting → Bool → (List ℕ → Bool) → ℕ → Pass → List Place → Program Pass
pass_each s retry good len so_far [] = Ends so_far
pass_each s retry good len so_far (p ∷ ps) =
    place_reading s retry good len p
    >>= λ tried. pass_on tried.found (map (spot_in p) tried.failed) (map (spot_in p) (leaves_of s p)) tried so_far (λ now. pass_each s retry good len now ps)

abbrev pub pass_reading : Setting → Bool → (List ℕ → Bool) → ℕ → List Place → Program Pass
pass_reading s retry good len places = pass_each s retry good len none_passed places

-- each is stored, whatever becomes of the others, behind those with these errors
abbrev pub store_each : Bool → List ℕ → List (Option Errno) → List Spot → Program (List (Option Errno))
store_each retry bytes so_far [] = Ends so_far
store_each retry bytes so_far (spot ∷ spots) =
    Asks (Store retry bytes spot) (λ answer. store_each retry bytes (so_far ++ error_of answer ∷ []) spots)

abbrev pub repair_if : Bool → Bool → List ℕ → List Spot → Program (List (Option Errno))
repair_if true retry bytes spots = store_each retry bytes [] spots
repair_if false retry bytes spots = Ends []

-- a repair that fails is passed over
abbrev pub found_by : Bool → Bool → Pass → List ℕ → Program Answer
found_by repair retry pass bytes = repair_if repair retry bytes pass.repairs >>= λ errors. Ends (Ok bytes)

abbrev pub last_on : Option (List ℕ) → Bool → Pass → Program Answer
last_on (Some bytes) repair pass = found_by repair true pass bytes
last_on None repair pass = Ends (Err (blame pass.errors))

abbrev pub first_on : Option (List ℕ) → Bool → Pass → Program Pass → Program Answer
first_on (Some bytes) repair pass again = found_by repair false pass bytes
first_on None repair pass again = again >>= λ last. last_on last.found repair last

abbrev pub block_reading : Setting → Bool → (List ℕ → Bool) → ℕ → List Place → Program Answer
block_reading s repair good len places =
    pass_reading s false good len places >>= λ pass. first_on pass.found repair pass (pass_reading s true good len places)

-- ---- writing a piece

abbrev pub place_error : List (Option Errno) → Option Errno
place_error errors = error_if (all_errors errors) (Some (blame errors))

abbrev pub place_writing : Setting → Bool → List ℕ → Place → Program (Option Errno)
place_writing s retry bytes p =
    store_each retry bytes [] (map (spot_in p) (leaves_of s p)) >>= λ errors. Ends (place_error errors)

-- these places are still to be written, behind those whose worst error is this
abbrev pub places_writing : Setting → Bool → List ℕ → Option Errno → List Place → Program (Option Errno)
places_writing s retry bytes worst [] = Ends worst
places_writing s retry bytes worst (p ∷ ps) =
    place_writing s retry bytes p >>= λ error. places_writing s retry bytes (worst_error worst error) ps

abbrev pub pass_writing : Setting → Bool → List ℕ → List Place → Program (Option Errno)
pass_writing s retry bytes places = places_writing s retry bytes None places

abbrev pub again_on : Option Errno → Program (Option Errno) → Program (Option Errno)
again_on None again = Ends None
again_on (Some e) again = again

abbrev pub piece_writing : Setting → List ℕ → List Place → Program (Option Errno)
piece_writing s bytes places =
    pass_writing s false bytes places >>= λ error. again_on error (pass_writing s true bytes places)
