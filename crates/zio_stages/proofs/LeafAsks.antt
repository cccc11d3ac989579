-- On which leaves, and in which pass, the reads and writes of a block's copies ask operations.
use Rattle.std.proofs.Common.{◌≡◌, ℕ, zero, suc, List, [], ◌∷◌, ◌++◌, length, map, take, drop, Bool, true, false, Option, Some, None, Result, Ok, Err, refl, sym, subst}
use Rattle.std.specs.List.{AllByRecursion}
use Rattle.zio_types.specs.declared.error.Errno.{Errno}
use Rattle.zio_types.specs.declared.place.Place.{Place}
use Rattle.zio_types.specs.declared.place.Top.{Top}
use Rattle.zio_types.specs.Choices.{no_place}
use Rattle.zio_types.specs.Errors.{worst_error}
use Rattle.zio_cksum.specs.Blocks.{Pass, Tried, judged, leaves_of, read_order, spot_in}
use Rattle.zio_cksum.specs.Headers.{offset_of}
use Rattle.zio_cksum.specs.Images.{Setting, Spot}
use Rattle.zio_cksum.proofs.AllLemmas.{all_append, all_drop, all_take, all_true}
use Rattle.zio_mirror.specs.Plans.{place_of}
use Rattle.zio_trace.specs.CopyPrograms.{Program, again_on, fetch_in, first_on, found_by, last_on, none_passed, pass_each, pass_on, pass_reading, pass_writing, place_error, place_reading, places_writing, store_each, try_each, try_on}
use Rattle.zio_trace.specs.Leaves.{Answer, Fetch, LeafOp, Store, error_of}
use Rattle.zio_trace.specs.Programs.{Asks, Ends, ◌>>=◌}
use Rattle.zio_trace.specs.Traces.{AsksOnly}
use Rattle.zio_trace.proofs.GroundLemmas.{only-then}
use Rattle.zio_parts.specs.Answered.{AsksBehind, filled}
use Rattle.zio_parts.specs.CopyReads.{Reading, behind_pass, behind_place, leaf_at, leaves_left, left_of_pass, left_of_read, left_with, mend_of, pass_found, pass_so_far, place_so_far}
use Rattle.zio_parts.specs.CopyWrites.{writing_from}
use Rattle.zio_parts.specs.Copies.{copies_at, leaves_at}

-- ---- any program

-- what it asks behind some is one of those that it asks
pub only_next : {A : Type 0} (P : LeafOp → Type 0) (n : ℕ) (p : Program A) (op : LeafOp) → AsksOnly P p → AsksBehind n p op → P op
only_next P zero (Ends a) op h e = absurd e
only_next P (suc n) (Ends a) op h e = absurd e
only_next P zero (Asks x more) op h e = subst P e h.0
only_next P (suc n) (Asks x more) op h e = let a : Answer = Ok [] in only_next P n (more a) op (h.1 a) (e a tt)

pub only_filled : {A : Type 0} (P : LeafOp → Type 0) (answers : List (Option Answer)) (p : Program A) → AsksOnly P p → AsksOnly P (filled answers p)
only_filled P [] p h = h
only_filled P (x ∷ answers) (Ends a) h = tt
only_filled P (Some v ∷ answers) (Asks op more) h = only_filled P answers (more v) (h.1 v)
only_filled P (None ∷ answers) (Asks op more) h = (h.0, λ v. only_filled P answers (more v) (h.1 v))

-- a program that ended asks nothing
pub ended_asks : {A : Type 0} (n : ℕ) (p : Program A) (a : A) (op : LeafOp) → p ≡ Ends a → AsksBehind n p op → ⊥
ended_asks {A} zero p a op e h = let Q : Program A → Type 0 = λ q. AsksBehind zero q op in subst Q e h
ended_asks {A} (suc n) p a op e h = let Q : Program A → Type 0 = λ q. AsksBehind (suc n) q op in subst Q e h

-- ---- writes

pub stores_only : (P : LeafOp → Type 0) (retry : Bool) (bytes : List ℕ) (spots : List Spot) (so_far : List (Option Errno)) → AllByRecursion (λ (spot : Spot). P (Store retry bytes spot)) spots
    → AsksOnly P (store_each retry bytes so_far spots)
stores_only P retry bytes [] so_far h = tt
stores_only P retry bytes (spot ∷ spots) so_far h = (h.0, λ v. stores_only P retry bytes spots (so_far ++ error_of v ∷ []) h.1)

-- whichever leaf, it is so at each of the places
abbrev pub AreOps : (LeafOp → Type 0) → (Spot → LeafOp) → List Place → Type 0
AreOps P op places = AllByRecursion (λ (p : Place). (leaf : ℕ) → P (op (spot_in p leaf))) places

leaves_are : (P : LeafOp → Type 0) (op : Spot → LeafOp) (p : Place) (leaves : List ℕ) → ((leaf : ℕ) → P (op (spot_in p leaf))) → AllByRecursion (λ (spot : Spot). P (op spot)) (map (spot_in p) leaves)
leaves_are P op p [] h = tt
leaves_are P op p (leaf ∷ leaves) h = (h leaf, leaves_are P op p leaves h)

places_only : (P : LeafOp → Type 0) (s : Setting) (retry : Bool) (bytes : List ℕ) (places : List Place) (worst : Option Errno) → AreOps P (Store retry bytes) places
    → AsksOnly P (places_writing s retry bytes worst places)
places_only P s retry bytes [] worst h = tt
places_only P s retry bytes (p ∷ ps) worst h =
    let spots : List Spot = map (spot_in p) (leaves_of s p) in
    let one : AsksOnly P (store_each retry bytes [] spots) = stores_only P retry bytes spots [] (leaves_are P (Store retry bytes) p (leaves_of s p) h.0) in
    only-then P (store_each retry bytes [] spots >>= λ errors. Ends (place_error errors)) (λ error. places_writing s retry bytes (worst_error worst error) ps)
    (only-then P (store_each retry bytes [] spots) (λ errors. Ends (place_error errors)) one (λ errors. tt))
    (λ error. places_only P s retry bytes ps (worst_error worst error) h.1)

again_only : (P : LeafOp → Type 0) (error : Option Errno) (again : Program (Option Errno)) → AsksOnly P again → AsksOnly P (again_on error again)
again_only P None again h = tt
again_only P (Some e) again h = h

-- a pass asks in its pass, and the first pass in the second too
pub writing_only : (P : LeafOp → Type 0) (s : Setting) (bytes : List ℕ) (places : List Place) (retry : Bool) → (retry ≡ false → AreOps P (Store false bytes) places) → AreOps P (Store true bytes) places
    → AsksOnly P (writing_from s bytes places retry)
writing_only P s bytes places false first last =
    only-then P (pass_writing s false bytes places) (λ error. again_on error (pass_writing s true bytes places)) (places_only P s false bytes places None (first refl))
    (λ error. again_only P error (pass_writing s true bytes places) (places_only P s true bytes places None last))
writing_only P s bytes places true first last = places_only P s true bytes places None last

-- ---- reads

-- of a read, its pass and its place are such
abbrev pub IsRead : (Bool → Spot → Type 0) → LeafOp → Type 0
IsRead Q (Fetch retry len spot) = Q retry spot
IsRead Q (Store retry bytes spot) = Unit {0}

abbrev pub AreRead : (Bool → Spot → Type 0) → Bool → List Place → Type 0
AreRead Q retry places = AllByRecursion (λ (p : Place). (leaf : ℕ) → Q retry (spot_in p leaf)) places

repairs_only : (Q : Bool → Spot → Type 0) (repair retry : Bool) (bytes : List ℕ) (pass : Pass) → AsksOnly (IsRead Q) (found_by repair retry pass bytes)
repairs_only Q true retry bytes pass =
    only-then (IsRead Q) (store_each retry bytes [] pass.repairs) (λ errors. Ends (Ok bytes))
    (stores_only (IsRead Q) retry bytes pass.repairs [] (all_true (λ (spot : Spot). Unit {0}) pass.repairs (λ _. tt))) (λ errors. tt)
repairs_only Q false retry bytes pass = tt

last_only : (Q : Bool → Spot → Type 0) (found : Option (List ℕ)) (repair : Bool) (pass : Pass) → AsksOnly (IsRead Q) (last_on found repair pass)
last_only Q (Some bytes) repair pass = repairs_only Q repair true bytes pass
last_only Q None repair pass = tt

first_only : (Q : Bool → Spot → Type 0) (found : Option (List ℕ)) (repair : Bool) (pass : Pass) (again : Program Pass) → AsksOnly (IsRead Q) again → AsksOnly (IsRead Q) (first_on found repair pass again)
first_only Q (Some bytes) repair pass again h = repairs_only Q repair false bytes pass
first_only Q None repair pass again h = only-then (IsRead Q) again (λ last. last_on last.found repair last) h (λ last. last_only Q last.found repair last)

tried_only : (P : LeafOp → Type 0) (c : ℕ) (r : Result (List ℕ) Errno) (so_far : Tried ℕ) (on : Tried ℕ → Program (Tried ℕ)) → ((now : Tried ℕ) → AsksOnly P (on now)) → AsksOnly P (try_on c r so_far on)
tried_only P c (Ok bytes) so_far on h = tt
tried_only P c (Err e) so_far on h = h _

tries_only : (P : LeafOp → Type 0) (op : ℕ → LeafOp) (good : List ℕ → Bool) (cs : List ℕ) (so_far : Tried ℕ) → ((c : ℕ) → P (op c)) → AsksOnly P (try_each op good so_far cs)
tries_only P op good [] so_far h = tt
tries_only P op good (c ∷ cs) so_far h = (h c, λ v. tried_only P c (judged good v) so_far (λ now. try_each op good now cs) (λ now. tries_only P op good cs now h))

passed_only : (P : LeafOp → Type 0) (found : Option (List ℕ)) (bad all : List Spot) (tried : Tried ℕ) (so_far : Pass) (on : Pass → Program Pass) → ((now : Pass) → AsksOnly P (on now)) → AsksOnly P (pass_on found bad all tried so_far on)
passed_only P (Some bytes) bad all tried so_far on h = tt
passed_only P None bad all tried so_far on h = h _

passes_only : (Q : Bool → Spot → Type 0) (s : Setting) (retry : Bool) (good : List ℕ → Bool) (len : ℕ) (places : List Place) (so_far : Pass) → AreRead Q retry places → AsksOnly (IsRead Q) (pass_each s retry good len so_far places)
passes_only Q s retry good len [] so_far h = tt
passes_only Q s retry good len (p ∷ ps) so_far h =
    only-then (IsRead Q) (place_reading s retry good len p)
    (λ tried. pass_on tried.found (map (spot_in p) tried.failed) (map (spot_in p) (leaves_of s p)) tried so_far (λ now. pass_each s retry good len now ps))
    (tries_only (IsRead Q) (fetch_in retry len p) good (read_order (offset_of p) (leaves_of s p)) _ h.0)
    (λ tried. passed_only (IsRead Q) tried.found _ _ tried so_far (λ now. pass_each s retry good len now ps) (λ now. passes_only Q s retry good len ps now h.1))

behind_only : (Q : Bool → Spot → Type 0) (s : Setting) (good : List ℕ → Bool) (x : Reading) (retry : Bool) (pass : Pass) → (retry ≡ false → AreRead Q true x.places) → AsksOnly (IsRead Q) (behind_pass s good x retry pass)
behind_only Q s good x false pass h = first_only Q pass.found x.repair pass (pass_reading s true good x.len x.places) (passes_only Q s true good x.len x.places none_passed (h refl))
behind_only Q s good x true pass h = last_only Q pass.found x.repair pass

rest_only : (Q : Bool → Spot → Type 0) (s : Setting) (good : List ℕ → Bool) (x : Reading) (places : List Place) → AreRead Q x.retry places → AsksOnly (IsRead Q) (left_of_pass s good x places)
rest_only Q s good x [] h = tt
rest_only Q s good x (p ∷ ps) h =
    only-then (IsRead Q) (try_each (fetch_in x.retry x.len p) good (place_so_far s.tops x) (leaves_left s.tops x)) (behind_place s good x p ps)
    (tries_only (IsRead Q) (fetch_in x.retry x.len p) good (leaves_left s.tops x) (place_so_far s.tops x) h.0)
    (λ tried. passed_only (IsRead Q) tried.found _ _ tried (pass_so_far s.tops x) (λ now. pass_each s x.retry good x.len now ps) (λ now. passes_only Q s x.retry good x.len ps now h.1))

-- a read without good bytes asks in its pass, and in the first pass in the second too
pub reading_only : (Q : Bool → Spot → Type 0) (s : Setting) (good : List ℕ → Bool) (x : Reading) → x.good ≡ None → AreRead Q x.retry x.places → (x.retry ≡ false → AreRead Q true x.places)
    → AsksOnly (IsRead Q) (left_of_read s good x)
reading_only Q s good x none now later =
    let left : List Place = drop (length x.copies.answers) x.places in
    let P : Option (List ℕ) → Type 0 = λ g. AsksOnly (IsRead Q) (left_with s good x g) in
    subst P (sym none)
    (only-then (IsRead Q) (left_of_pass s good x left) (behind_pass s good x x.retry)
    (rest_only Q s good x left (all_drop (λ (p : Place). (leaf : ℕ) → Q x.retry (spot_in p leaf)) (length x.copies.answers) x.places now))
    (λ pass. behind_only Q s good x x.retry pass later))

-- ---- repairs

-- the copies at the places are such, whichever leaf
copies_are : (P : LeafOp → Type 0) (op : Spot → LeafOp) (tops : List Top) (places : List Place) → AreOps P op places → AllByRecursion (λ (spot : Spot). P (op spot)) (copies_at tops places)
copies_are P op tops [] h = tt
copies_are P op tops (p ∷ ps) h =
    all_append (λ (spot : Spot). P (op spot)) (map (spot_in p) (leaves_at tops p)) (copies_at tops ps) (leaves_are P op p (leaves_at tops p) h.0) (copies_are P op tops ps h.1)

nth_place : (P : Place → Type 0) (places : List Place) (n : ℕ) → P no_place → AllByRecursion P places → P (place_of places n)
nth_place P [] n d h = d
nth_place P (p ∷ ps) zero d h = h.0
nth_place P (p ∷ ps) (suc n) d h = nth_place P ps n d h.1

mends_only : (P : LeafOp → Type 0) (repair retry : Bool) (bytes : List ℕ) (pass : Pass) → AllByRecursion (λ (spot : Spot). P (Store retry bytes spot)) pass.repairs → AsksOnly P (found_by repair retry pass bytes)
mends_only P true retry bytes pass h =
    only-then P (store_each retry bytes [] pass.repairs) (λ errors. Ends (Ok bytes)) (stores_only P retry bytes pass.repairs [] h) (λ errors. tt)
mends_only P false retry bytes pass h = tt

-- the repairs of a read are such where its places are, and no place
pub mending_only : (P : LeafOp → Type 0) (s : Setting) (good : List ℕ → Bool) (x : Reading) (bytes : List ℕ) → x.good ≡ Some bytes → ((leaf : ℕ) → P (Store x.retry bytes (spot_in no_place leaf)))
    → AreOps P (Store x.retry bytes) x.places → AsksOnly P (left_of_read s good x)
mending_only P s good x bytes some none are =
    let tried : ℕ = length x.copies.answers in
    let p : Place = place_of x.places tried in
    let AtPlace : Place → Type 0 = λ q. (leaf : ℕ) → P (Store x.retry bytes (spot_in q leaf)) in
    let before : List Spot = copies_at s.tops (take tried x.places) in
    let here : List ℕ = map (leaf_at s.tops p) (take (length x.leaves.answers) x.leaves.order) in
    let all : AllByRecursion (λ (spot : Spot). P (Store x.retry bytes spot)) (before ++ map (spot_in p) here) =
    all_append (λ (spot : Spot). P (Store x.retry bytes spot)) before (map (spot_in p) here) (copies_are P (Store x.retry bytes) s.tops (take tried x.places) (all_take AtPlace tried x.places are))
    (leaves_are P (Store x.retry bytes) p here (nth_place AtPlace x.places tried none are)) in
    let Q : Option (List ℕ) → Type 0 = λ g. AsksOnly P (left_with s good x g) in
    subst Q (sym some) (only_filled P (map mend_of x.mends) (found_by x.repair x.retry (pass_found s.tops x bytes) bytes) (mends_only P x.repair x.retry bytes (pass_found s.tops x bytes) all))
