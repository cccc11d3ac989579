-- Where the programs of a block's copies stay, and that what they find is good.
use Rattle.std.proofs.Common.{◌≡◌, ℕ, ◌/◌, ◌%◌, List, [], ◌∷◌, ◌++◌, length, map, take, drop, Bool, true, false, Option, Some, None, Result, Ok, Err, IfOk, IfSome, IsTrue, Contains, refl, sym, ◌∙◌, arith}
use Rattle.std.specs.List.{AllByRecursion}
use Rattle.zio_types.specs.declared.error.Errno.{Errno}
use Rattle.zio_types.specs.declared.place.Place.{Place}
use Rattle.zio_types.specs.Errors.{worst_error}
use Rattle.zio_cksum.specs.Blocks.{Tried, judged, judged_by, spot_in, leaves_of, read_order, Pass, blame, turn_size}
use Rattle.zio_cksum.specs.Frames.{spots_of}
use Rattle.zio_cksum.specs.Headers.{offset_of}
use Rattle.zio_cksum.specs.Images.{Setting, Spot}
use Rattle.zio_cksum.proofs.AllLemmas.{all_append, all_take, all_drop, all_map, all_unmap}
use Rattle.zio_cksum.proofs.FrameLemmas.{AreAmong, places_among}
use Rattle.zio_trace.specs.CopyPrograms.{Program, with_failure, try_on, try_each, fetch_in, place_reading, pass_on, pass_each, pass_reading, none_tried, none_passed, store_each, found_by, last_on, first_on, block_reading, place_writing, places_writing, pass_writing, again_on, piece_writing}
use Rattle.zio_trace.specs.Footprints.{Stays}
use Rattle.zio_trace.specs.Leaves.{LeafOp, Fetch, Store, Answer, IsAmong, stores, error_of}
use Rattle.zio_trace.specs.Programs.{Program as ProgramOf, Ends, Asks, ◌>>=◌}

-- ---- any programs

pub stays-then : {Op Ans A B : Type 0} (Fits : Op → Ans → Type 0) (P : Op → Type 0) (Q : A → Type 0) (R : B → Type 0) (p : ProgramOf Op Ans A) (next : A → ProgramOf Op Ans B) → Stays Fits P Q p → ((a : A) → Q a → Stays Fits P R (next a)) → Stays Fits P R (p >>= next)
stays-then Fits P Q R (Ends a) next h k = k a h
stays-then Fits P Q R (Asks op more) next h k = (h.0, λ answer fits. stays-then Fits P Q R (more answer) next (h.1 answer fits) k)

-- any answer of a leaf will do
abbrev pub Anything : LeafOp → Answer → Type 0
Anything op answer = Unit {0}

abbrev pub Any : {A : Type 0} → A → Type 0
Any a = Unit {0}

-- ---- a block's reads

module _ (s : Setting) (spots : List Spot) (len : ℕ) (good : List ℕ → Bool) (repair : Bool) (P : LeafOp → Type 0)
    (fetched : (retry : Bool) (spot : Spot) → Contains spots spot → P (Fetch retry len spot))
    (stored : repair ≡ true → (retry : Bool) (bytes : List ℕ) (spot : Spot) → Contains spots spot → P (Store retry bytes spot)) where
  abbrev On : {A : Type 0} → (A → Type 0) → Program A → Type 0
  On Q p = Stays Anything P Q p

  abbrev Good : List ℕ → Type 0
  Good bytes = IsTrue (good bytes)

  abbrev TriedWell : Place → Tried ℕ → Type 0
  TriedWell p t = IfSome t.found Good × AllByRecursion (λ leaf. Contains spots (spot_in p leaf)) t.failed

  judged_by_good : (b : Bool) (bytes : List ℕ) → good bytes ≡ b → IfOk (judged_by b bytes) Good
  judged_by_good true bytes h = h
  judged_by_good false bytes h = tt

  judged_good : (answer : Answer) → IfOk (judged good answer) Good
  judged_good (Ok bytes) = judged_by_good (good bytes) bytes refl
  judged_good (Err e) = tt

  try_stays : (p : Place) (leaf : ℕ) (r : Result (List ℕ) Errno) (so_far : Tried ℕ) (on : Tried ℕ → Program (Tried ℕ)) → IfOk r Good → Contains spots (spot_in p leaf) → TriedWell p so_far
      → ((now : Tried ℕ) → TriedWell p now → On (TriedWell p) (on now)) → On (TriedWell p) (try_on leaf r so_far on)
  try_stays p leaf (Ok bytes) so_far on fit c well h = (fit, well.1)
  try_stays p leaf (Err e) so_far on fit c well h =
      h (with_failure leaf e so_far) (tt, all_append (λ l. Contains spots (spot_in p l)) so_far.failed (leaf ∷ []) well.1 (c, tt))

  tries_stay : (retry : Bool) (p : Place) (so_far : Tried ℕ) (leaves : List ℕ) → AllByRecursion (λ leaf. Contains spots (spot_in p leaf)) leaves → TriedWell p so_far → On (TriedWell p) (try_each (fetch_in retry len p) good so_far leaves)
  tries_stay retry p so_far [] h well = well
  tries_stay retry p so_far (leaf ∷ leaves) h well = (
    fetched retry (spot_in p leaf) h.0,
    λ answer any. try_stays p leaf (judged good answer) so_far _ (judged_good answer) h.0 well (λ now w. tries_stay retry p now leaves h.1 w),
  )

  place_stays : (retry : Bool) (p : Place) → AreAmong spots s p → On (TriedWell p) (place_reading s retry good len p)
  place_stays retry p h =
      let n : ℕ = offset_of p / turn_size % length (leaves_of s p) in
      let each : AllByRecursion (λ leaf. Contains spots (spot_in p leaf)) (leaves_of s p) = all_unmap (Contains spots) (spot_in p) (leaves_of s p) h in
      tries_stay retry p none_tried (read_order (offset_of p) (leaves_of s p))
      (all_append _ (drop n (leaves_of s p)) (take n (leaves_of s p)) (all_drop _ n (leaves_of s p) each) (all_take _ n (leaves_of s p) each))
      (tt, tt)

  abbrev PassedWell : Pass → Type 0
  PassedWell pass = IfSome pass.found Good × AllByRecursion (Contains spots) pass.repairs

  pass_on_stays : (found : Option (List ℕ)) (bad all : List Spot) (tried : Tried ℕ) (so_far : Pass) (on : Pass → Program Pass) → IfSome found Good → AllByRecursion (Contains spots) bad → AllByRecursion (Contains spots) all → PassedWell so_far
      → ((now : Pass) → PassedWell now → On PassedWell (on now)) → On PassedWell (pass_on found bad all tried so_far on)
  pass_on_stays (Some bytes) bad all tried so_far on fit hb ha well h = (fit, all_append (Contains spots) so_far.repairs bad well.1 hb)
  pass_on_stays None bad all tried so_far on fit hb ha well h =
      h (record { found = None; repairs = so_far.repairs ++ all; errors = so_far.errors ++ Some (blame tried.errors) ∷ [] })
      (tt, all_append (Contains spots) so_far.repairs all well.1 ha)

  pass_each_stays : (retry : Bool) (so_far : Pass) (places : List Place) → AllByRecursion (AreAmong spots s) places → PassedWell so_far → On PassedWell (pass_each s retry good len so_far places)
  pass_each_stays retry so_far [] h well = well
  pass_each_stays retry so_far (p ∷ ps) h well =
      stays-then Anything P (TriedWell p) PassedWell (place_reading s retry good len p) _ (place_stays retry p h.0)
      (λ tried k. pass_on_stays tried.found (map (spot_in p) tried.failed) (map (spot_in p) (leaves_of s p)) tried so_far _ k.0
      (all_map (Contains spots) (spot_in p) tried.failed k.1) h.0 well (λ now w. pass_each_stays retry now ps h.1 w))

  stores_stay : repair ≡ true → (retry : Bool) (bytes : List ℕ) (so_far : List (Option Errno)) (those : List Spot) → AllByRecursion (Contains spots) those → On Any (store_each retry bytes so_far those)
  stores_stay e retry bytes so_far [] h = tt
  stores_stay e retry bytes so_far (spot ∷ those) h =
      (stored e retry bytes spot h.0, λ answer any. stores_stay e retry bytes (so_far ++ error_of answer ∷ []) those h.1)

  found_stays : (mend : Bool) → mend ≡ repair → (retry : Bool) (pass : Pass) (bytes : List ℕ) → Good bytes → AllByRecursion (Contains spots) pass.repairs → On (λ (a : Answer). IfOk a Good) (found_by mend retry pass bytes)
  found_stays true e retry pass bytes fit h = stays-then Anything P Any (λ (a : Answer). IfOk a Good) (store_each retry bytes [] pass.repairs) _ (stores_stay (sym e) retry bytes [] pass.repairs h) (λ errors k. fit)
  found_stays false e retry pass bytes fit h = fit

  last_stays : (found : Option (List ℕ)) (pass : Pass) → IfSome found Good → AllByRecursion (Contains spots) pass.repairs → On (λ (a : Answer). IfOk a Good) (last_on found repair pass)
  last_stays (Some bytes) pass fit h = found_stays repair refl true pass bytes fit h
  last_stays None pass fit h = tt

  first_stays : (found : Option (List ℕ)) (pass : Pass) (again : Program Pass) → IfSome found Good → AllByRecursion (Contains spots) pass.repairs → On PassedWell again → On (λ (a : Answer). IfOk a Good) (first_on found repair pass again)
  first_stays (Some bytes) pass again fit h k = found_stays repair refl false pass bytes fit h
  first_stays None pass again fit h k =
      stays-then Anything P PassedWell (λ (a : Answer). IfOk a Good) again _ k (λ last w. last_stays last.found last w.0 w.1)

  block_stays : (places : List Place) → AllByRecursion (AreAmong spots s) places → On (λ (a : Answer). IfOk a Good) (block_reading s repair good len places)
  block_stays places h =
      stays-then Anything P PassedWell (λ (a : Answer). IfOk a Good) (pass_reading s false good len places) _ (pass_each_stays false none_passed places h (tt, tt))
      (λ pass k. first_stays pass.found pass (pass_reading s true good len places) k.0 k.1 (pass_each_stays true none_passed places h (tt, tt)))

  -- ---- and writes

  place_write_stays : repair ≡ true → (retry : Bool) (bytes : List ℕ) (p : Place) → AreAmong spots s p → On Any (place_writing s retry bytes p)
  place_write_stays e retry bytes p h = stays-then Anything P Any Any (store_each retry bytes [] (map (spot_in p) (leaves_of s p))) _ (stores_stay e retry bytes [] _ h) (λ errors k. tt)

  places_write_stay : repair ≡ true → (retry : Bool) (bytes : List ℕ) (worst : Option Errno) (places : List Place) → AllByRecursion (AreAmong spots s) places → On Any (places_writing s retry bytes worst places)
  places_write_stay e retry bytes worst [] h = tt
  places_write_stay e retry bytes worst (p ∷ ps) h =
      stays-then Anything P Any Any (place_writing s retry bytes p) _ (place_write_stays e retry bytes p h.0)
      (λ error k. places_write_stay e retry bytes (worst_error worst error) ps h.1)

  again_stays : (error : Option Errno) (again : Program (Option Errno)) → On Any again → On Any (again_on error again)
  again_stays None again h = tt
  again_stays (Some e) again h = h

  piece_stays : repair ≡ true → (bytes : List ℕ) (places : List Place) → AllByRecursion (AreAmong spots s) places → On Any (piece_writing s bytes places)
  piece_stays e bytes places h =
      stays-then Anything P Any Any (pass_writing s false bytes places) _ (places_write_stay e false bytes None places h)
      (λ error k. again_stays error (pass_writing s true bytes places) (places_write_stay e true bytes None places h))

-- on the spots, and a read where nothing is repaired
abbrev pub ReadsOn : List Spot → ℕ → Bool → LeafOp → Type 0
ReadsOn spots len repair op = IsAmong spots len op × (repair ≡ false → stores op ≡ false)

-- A block's read stays on its copies, and what it finds is good.
pub read_stays : (s : Setting) (repair : Bool) (good : List ℕ → Bool) (len : ℕ) (places : List Place) → Stays Anything (ReadsOn (spots_of s places) len repair) (λ (a : Answer). IfOk a (λ bytes. IsTrue (good bytes))) (block_reading s repair good len places)
read_stays s repair good len places =
    block_stays s (spots_of s places) len good repair (ReadsOn (spots_of s places) len repair)
    (λ retry spot c. (record { listed = c; at_most = (omega arith) }, λ e. refl))
    (λ e retry bytes spot c. (record { listed = c; at_most = (omega arith) }, λ f. absurd (let no : true ≡ false = sym e ∙ f in cc)))
    places (places_among s places)

pub write_stays : (s : Setting) (bytes : List ℕ) (places : List Place) → Stays Anything (IsAmong (spots_of s places) 0) (λ (e : Option Errno). Unit {0}) (piece_writing s bytes places)
write_stays s bytes places =
    piece_stays s (spots_of s places) 0 (λ b. true) true (IsAmong (spots_of s places) 0)
    (λ retry spot c. record { listed = c; at_most = (omega arith) })
    (λ e retry bytes spot c. record { listed = c; at_most = (omega arith) })
    refl bytes places (places_among s places)
