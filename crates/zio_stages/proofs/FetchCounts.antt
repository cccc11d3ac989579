-- How many reads the program of a block's read asks at most: each copy once in each of its passes.
use Rattle.std.proofs.Common.{◌≡◌, ℕ, zero, suc, ◌+◌, ◌*◌, ◌≤◌, List, [], ◌∷◌, ◌++◌, length, map, take, drop, Bool, true, false, Option, Some, None, Result, Ok, Err, refl, arith, length-append, length-drop, length-take}
use Rattle.zio_types.specs.declared.error.Errno.{Errno}
use Rattle.zio_types.specs.declared.place.Place.{Place}
use Rattle.zio_cksum.specs.Blocks.{Pass, Tried, judged, leaves_of, read_order, rotated, spot_in}
use Rattle.zio_cksum.specs.Headers.{offset_of}
use Rattle.zio_cksum.specs.Images.{Setting, Spot}
use Rattle.zio_trace.specs.Calls.{answered_at}
use Rattle.zio_trace.specs.CopyPrograms.{Program, block_reading, fetch_in, first_on, found_by, last_on, none_passed, none_tried, pass_each, pass_on, pass_reading, place_reading, store_each, try_each, try_on}
use Rattle.zio_trace.specs.Leaves.{Answer, Fetch, LeafOp, Store, error_of}
use Rattle.zio_trace.specs.Programs.{Asks, Ends, ◌>>=◌}
use Rattle.zio_parts.specs.Answered.{AsksBehind}
use Rattle.zio_parts.specs.Copies.{AreMirrored}
use Rattle.zio_stages.specs.ReadIos.{FetchesAtMost, FetchesFirst}

-- ---- any program

pub at_most_more : {A : Type 0} (n m : ℕ) (p : Program A) → n ≤ m → FetchesAtMost n p → FetchesAtMost m p
at_most_more n m (Ends a) le h = tt
at_most_more n zero (Asks (Fetch retry len spot) more) le h = absurd (omega (arith, h.1))
at_most_more n (suc m) (Asks (Fetch retry len spot) more) le h = (m, refl, λ v. at_most_more h.0 m (more v) (omega (arith, h.1)) (h.2 v))
at_most_more n m (Asks (Store retry bytes spot) more) le h = λ v. at_most_more n m (more v) le (h v)

at_most_then : {A B : Type 0} (n m : ℕ) (p : Program A) (next : A → Program B) → FetchesAtMost n p → ((a : A) → FetchesAtMost m (next a)) → FetchesAtMost (n + m) (p >>= next)
at_most_then n m (Ends a) next h k = at_most_more m (n + m) (next a) (omega arith) (k a)
at_most_then n m (Asks (Fetch retry len spot) more) next h k = (h.0 + m, omega (arith, h.1), λ v. at_most_then h.0 m (more v) next (h.2 v) k)
at_most_then n m (Asks (Store retry bytes spot) more) next h k = λ v. at_most_then n m (more v) next (h v) k

-- an answer that is put in adds none
pub at_most_answered : {A : Type 0} (n k : ℕ) (a : Answer) (p : Program A) → FetchesAtMost n p → FetchesAtMost n (answered_at k a p)
at_most_answered n zero a (Ends b) h = tt
at_most_answered n (suc k) a (Ends b) h = tt
at_most_answered n zero a (Asks (Fetch retry len spot) more) h = at_most_more h.0 n (more a) (omega (arith, h.1)) (h.2 a)
at_most_answered n zero a (Asks (Store retry bytes spot) more) h = h a
at_most_answered n (suc k) a (Asks (Fetch retry len spot) more) h = (h.0, h.1, λ v. at_most_answered h.0 k a (more v) (h.2 v))
at_most_answered n (suc k) a (Asks (Store retry bytes spot) more) h = λ v. at_most_answered n k a (more v) (h v)

-- the answer of a read that stands first leaves one less
pub one_less : {A : Type 0} (n : ℕ) (a : Answer) (p : Program A) → FetchesFirst p → FetchesAtMost n p → (m : ℕ) × (n ≡ suc m) × FetchesAtMost m (answered_at 0 a p)
one_less n a (Ends b) first h = absurd first
one_less n a (Asks (Fetch retry len spot) more) first h = (h.0, h.1, h.2 a)
one_less n a (Asks (Store retry bytes spot) more) first h = absurd first

op_first : {A : Type 0} (op : LeafOp) (retry : Bool) (len : ℕ) (spot : Spot) (more : Answer → Program A) → op ≡ Fetch retry len spot → FetchesFirst (Asks op more)
op_first (Fetch again n at) retry len spot more e = tt
op_first (Store again bytes at) retry len spot more e = absurd (cc)

-- a read that is asked at once stands first
pub asked_first : {A : Type 0} (p : Program A) (retry : Bool) (len : ℕ) (spot : Spot) → AsksBehind 0 p (Fetch retry len spot) → FetchesFirst p
asked_first (Ends a) retry len spot h = absurd h
asked_first (Asks op more) retry len spot h = op_first op retry len spot more h

-- ---- the read of a block

stores_none : (retry : Bool) (bytes : List ℕ) (spots : List Spot) (so_far : List (Option Errno)) → FetchesAtMost 0 (store_each retry bytes so_far spots)
stores_none retry bytes [] so_far = tt
stores_none retry bytes (spot ∷ spots) so_far = λ v. stores_none retry bytes spots (so_far ++ error_of v ∷ [])

repairs_none : (repair retry : Bool) (pass : Pass) (bytes : List ℕ) → FetchesAtMost 0 (found_by repair retry pass bytes)
repairs_none true retry pass bytes = at_most_then 0 0 (store_each retry bytes [] pass.repairs) (λ errors. Ends (Ok bytes)) (stores_none retry bytes pass.repairs []) (λ errors. tt)
repairs_none false retry pass bytes = tt

last_none : (found : Option (List ℕ)) (repair : Bool) (pass : Pass) → FetchesAtMost 0 (last_on found repair pass)
last_none (Some bytes) repair pass = repairs_none repair true pass bytes
last_none None repair pass = tt

tried_most : (n c : ℕ) (r : Result (List ℕ) Errno) (so_far : Tried ℕ) (on : Tried ℕ → Program (Tried ℕ)) → ((now : Tried ℕ) → FetchesAtMost n (on now)) → FetchesAtMost n (try_on c r so_far on)
tried_most n c (Ok bytes) so_far on h = tt
tried_most n c (Err e) so_far on h = h _

tries_most : (retry : Bool) (len : ℕ) (p : Place) (good : List ℕ → Bool) (cs : List ℕ) (so_far : Tried ℕ) → FetchesAtMost (length cs) (try_each (fetch_in retry len p) good so_far cs)
tries_most retry len p good [] so_far = tt
tries_most retry len p good (c ∷ cs) so_far =
    (length cs, refl, λ v. tried_most (length cs) c (judged good v) so_far (λ now. try_each (fetch_in retry len p) good now cs) (λ now. tries_most retry len p good cs now))

length-rotated : (n : ℕ) (xs : List ℕ) → length (rotated n xs) ≡ length xs
length-rotated n xs = omega (arith, length-append (drop n xs) (take n xs), length-drop n xs, length-take n xs)

pub length-order : (offset : ℕ) (xs : List ℕ) → length (read_order offset xs) ≡ length xs
length-order offset xs = length-rotated _ xs

passed_most : (n : ℕ) (found : Option (List ℕ)) (bad all : List Spot) (tried : Tried ℕ) (so_far : Pass) (on : Pass → Program Pass) → ((now : Pass) → FetchesAtMost n (on now)) → FetchesAtMost n (pass_on found bad all tried so_far on)
passed_most n (Some bytes) bad all tried so_far on h = tt
passed_most n None bad all tried so_far on h = h _

passes_most : (s : Setting) (retry : Bool) (good : List ℕ → Bool) (len : ℕ) (places : List Place) (so_far : Pass) → AreMirrored s.tops places → FetchesAtMost (4 * length places) (pass_each s retry good len so_far places)
passes_most s retry good len [] so_far m = tt
passes_most s retry good len (p ∷ ps) so_far m =
    let leaves : List ℕ = read_order (offset_of p) (leaves_of s p) in
    let few : length leaves ≤ 4 = omega (arith, length-order (offset_of p) (leaves_of s p), m.0.most) in
    let one : FetchesAtMost (length leaves) (place_reading s retry good len p) = tries_most retry len p good leaves none_tried in
    at_most_more (length leaves + 4 * length ps) (4 * length (p ∷ ps)) (pass_each s retry good len so_far (p ∷ ps)) (omega arith)
    (at_most_then (length leaves) (4 * length ps) (place_reading s retry good len p)
    (λ tried. pass_on tried.found (map (spot_in p) tried.failed) (map (spot_in p) (leaves_of s p)) tried so_far (λ now. pass_each s retry good len now ps)) one
    (λ tried. passed_most (4 * length ps) tried.found _ _ tried so_far (λ now. pass_each s retry good len now ps) (λ now. passes_most s retry good len ps now m.1)))

first_most : (n : ℕ) (found : Option (List ℕ)) (repair : Bool) (pass : Pass) (again : Program Pass) → FetchesAtMost n again → FetchesAtMost n (first_on found repair pass again)
first_most n (Some bytes) repair pass again h = at_most_more 0 n (found_by repair false pass bytes) (omega arith) (repairs_none repair false pass bytes)
first_most n None repair pass again h =
    at_most_more (n + 0) n (again >>= λ last. last_on last.found repair last) (omega arith) (at_most_then n 0 again (λ last. last_on last.found repair last) h (λ last. last_none last.found repair last))

pub block_most : (s : Setting) (repair : Bool) (good : List ℕ → Bool) (len : ℕ) (places : List Place) → AreMirrored s.tops places → length places ≤ 3 → FetchesAtMost 24 (block_reading s repair good len places)
block_most s repair good len places m few =
    let n : ℕ = 4 * length places in
    let pass : (retry : Bool) → FetchesAtMost n (pass_reading s retry good len places) = λ retry. passes_most s retry good len places none_passed m in
    at_most_more (n + n) 24 (block_reading s repair good len places) (omega arith)
    (at_most_then n n (pass_reading s false good len places) (λ pass. first_on pass.found repair pass (pass_reading s true good len places)) (pass false)
    (λ p. first_most n p.found repair p (pass_reading s true good len places) (pass true)))
