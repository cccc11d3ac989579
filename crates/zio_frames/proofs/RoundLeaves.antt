-- Which writes of copies are asked together: those of one pass, to places on leaves at different numbers.
use Rattle.std.proofs.Common.{◌≡◌, ◌≢◌, ℕ, zero, suc, List, [], ◌∷◌, ◌++◌, length, map, take, Bool, true, false, Option, Some, None, Ok, Err, IfSome, ◌⊎◌, inl, inr, ⊎_elim, refl, sym, ap, ◌∙◌, subst, append_assoc, append-nil}
use Rattle.std.specs.List.{AllByRecursion}
use Rattle.std.proofs.Math.Seq.{take-append_seam}
use Rattle.std.proofs.lemmas.Grind.{flat_map-append}
use Rattle.zio_types.specs.declared.error.Errno.{Errno}
use Rattle.zio_types.specs.declared.error.Errno.TheVariants.{Io}
use Rattle.zio_types.specs.declared.place.Place.{Place}
use Rattle.zio_types.specs.Choices.{Choice}
use Rattle.zio_types.specs.Errors.{worst_error}
use Rattle.zio_cksum.specs.Blocks.{Pass, Tried, blame, judged, leaves_of, read_order, spot_in}
use Rattle.zio_cksum.specs.Frames.{spots_of}
use Rattle.zio_cksum.specs.Headers.{offset_of}
use Rattle.zio_cksum.specs.Images.{Setting, Spot}
use Rattle.zio_cksum.proofs.AllLemmas.{all_map, all_weaker}
use Rattle.zio_gang.specs.Attempts.{Terms}
use Rattle.zio_trace.specs.CopyPrograms.{Program, again_on, block_reading, fetch_in, first_on, found_by, last_on, none_passed, none_tried, pass_each, pass_on, pass_reading, pass_writing, piece_writing, place_reading, place_writing, places_writing, store_each, try_each, try_on, with_failure}
use Rattle.zio_trace.specs.Families.{Forest}
use Rattle.zio_trace.specs.Footprints.{Stays}
use Rattle.zio_trace.specs.Leaves.{Answer, Fetch, LeafOp, Store, error_of, stores}
use Rattle.zio_trace.specs.Plans.{by_leaves}
use Rattle.zio_trace.specs.Programs.{Asks, Ends, ◌>>=◌}
use Rattle.zio_trace.specs.SoundRounds.{repairs_after}
use Rattle.zio_trace.specs.Tasks.{Leaf, Task, got}
use Rattle.zio_trace.specs.Views.{nth}
use Rattle.zio_trace.proofs.FootprintLemmas.{Anything, stays-then}
use Rattle.zio_frames.specs.Moves.{GoesBeside}
use Rattle.zio_frames.proofs.RoundWalks.{IsFreeBeside, Walks}

-- ---- numbers

nth_front : {X : Type 0} (n : ℕ) (xs ys : List X) (x : X) → nth n xs ≡ Some x → nth n (xs ++ ys) ≡ Some x
nth_front n [] ys x e = absurd (cc)
nth_front zero (y ∷ xs) ys x e = e
nth_front (suc n) (y ∷ xs) ys x e = nth_front n xs ys x e

pub nth_seam : {X : Type 0} (xs ys : List X) (x : X) → nth (length xs) (xs ++ x ∷ ys) ≡ Some x
nth_seam [] ys x = refl
nth_seam (y ∷ xs) ys x = nth_seam xs ys x

nth_below : {X : Type 0} (n : ℕ) (xs : List X) (x : X) → nth n xs ≡ Some x → n ≢ length xs
nth_below n [] x e = absurd (cc)
nth_below zero (y ∷ xs) x e = λ same. absurd (cc)
nth_below (suc n) (y ∷ xs) x e = λ same. nth_below n xs x e (let less : n ≡ length xs = cc in less)

stores_beside : (act : LeafOp) (beside : Task) → GoesBeside (Leaf act) beside → stores act ≡ true
stores_beside (Store retry bytes u) beside b = refl
stores_beside (Fetch retry len u) beside b = absurd b

-- a read
abbrev pub IsFetch : LeafOp → Type 0
IsFetch act = stores act ≡ false

module _ (t : Terms) (f : Forest) (entries : List Choice) where
  abbrev pub AreFreeLeaves : LeafOp → LeafOp → Type 0
  AreFreeLeaves b act = IsFreeBeside t f entries (Leaf b) (Leaf act)

  -- ---- walks along programs of leaf operations

  abbrev pub LeafWalks : {A : Type 0} → (List LeafOp → A → Type 0) → List LeafOp → Program A → Type 0
  LeafWalks Q outs (Ends a) = Q outs a
  LeafWalks Q outs (Asks act more) =
      AllByRecursion (λ (b : LeafOp). AreFreeLeaves b act) outs
      × ((answer : Answer) → LeafWalks Q outs (more answer))
      × (stores act ≡ true → LeafWalks Q (act ∷ outs) (more (Err Io)))

  leaves_then : {A B : Type 0} (Q : List LeafOp → A → Type 0) (R : List LeafOp → B → Type 0) (outs : List LeafOp) (p : Program A)
      (next : A → Program B)
      → LeafWalks Q outs p → ((outs : List LeafOp) (a : A) → Q outs a → LeafWalks R outs (next a)) → LeafWalks R outs (p >>= next)
  leaves_then Q R outs (Ends a) next h k = k outs a h
  leaves_then Q R outs (Asks act more) next h k = (
    h.0,
    λ answer. leaves_then Q R outs (more answer) next (h.1 answer) k,
    λ s. leaves_then Q R (act ∷ outs)
        (more (Err Io)) next (h.2 s) k,
  )

  leaves_any : {A : Type 0} (Q : List LeafOp → A → Type 0) (outs : List LeafOp) (p : Program A) → LeafWalks Q outs p
      → LeafWalks (λ os a. Unit {0}) outs p
  leaves_any Q outs (Ends a) h = tt
  leaves_any Q outs (Asks act more) h =
      (h.0, λ answer. leaves_any Q outs (more answer) (h.1 answer), λ s. leaves_any Q (act ∷ outs) (more (Err Io)) (h.2 s))

  -- reads come one after another
  reads_then : {A B : Type 0} (Q : A → Type 0) (R : List LeafOp → B → Type 0) (p : Program A) (next : A → Program B)
      → Stays Anything IsFetch Q p
      → ((a : A) → Q a → LeafWalks R [] (next a)) → LeafWalks R [] (p >>= next)
  reads_then Q R (Ends a) next h k = k a h
  reads_then Q R (Asks act more) next h k =
      (tt, λ answer. reads_then Q R (more answer) next (h.1 answer tt) k, λ s. absurd (let no : stores act ≡ false = h.0 in cc))

  pub leaves_walk : {A : Type 0} (Q : List LeafOp → A → Type 0) (outs : List LeafOp) (p : Program A) → LeafWalks Q outs p
      → Walks t f entries (λ os a. Unit {0}) (map Leaf outs) (by_leaves p)
  leaves_walk Q outs (Ends a) h = tt
  leaves_walk Q outs (Asks act more) h = (
    tt,
    all_map (λ (q : Task). IsFreeBeside t f entries q (Leaf act)) Leaf outs h.0,
    λ v fits. leaves_walk Q outs (more (got v)) (h.1 (got v)),
    λ beside b told. leaves_walk Q (act ∷ outs) (more (Err Io)) (h.2 (stores_beside act beside b)),
  )

  -- ---- writes

  -- writes of one pass to two of these
  abbrev pub AreStoredApart : List Spot → Type 0
  AreStoredApart spots =
      (n m : ℕ) (u v : Spot) (retry : Bool) (bytes others : List ℕ) → nth n spots ≡ Some u → nth m spots ≡ Some v → n ≢ m
      → AreFreeLeaves (Store retry bytes u) (Store retry others v)

  -- a write of this pass to one of these
  abbrev IsStored : Bool → List Spot → LeafOp → Type 0
  IsStored retry front (Fetch again len u) = ⊥
  IsStored retry front (Store again others u) = (again ≡ retry) × (m : ℕ) × (nth m front ≡ Some u)

  stored_more : (retry : Bool) (front more : List Spot) (b : LeafOp) → IsStored retry front b → IsStored retry (front ++ more) b
  stored_more retry front more (Fetch again len u) h = absurd h
  stored_more retry front more (Store again others u) h = (h.0, h.1, nth_front h.1 front more u h.2)

  module _ (retry : Bool) (spots : List Spot) (Old : LeafOp → Type 0)
      (old : (b : LeafOp) → Old b → (bytes : List ℕ) (u : Spot) → AreFreeLeaves b (Store retry bytes u)) (apart : AreStoredApart spots) where
    abbrev WasAsked : List Spot → LeafOp → Type 0
    WasAsked front b = Old b ⊎ IsStored retry front b

    was_more : (front more : List Spot) (b : LeafOp) → WasAsked front b → WasAsked (front ++ more) b
    was_more front more b h = ⊎_elim (λ (o : Old b). inl o) (λ (s : IsStored retry front b). inr (stored_more retry front more b s)) h

    stored_free : (front rest : List Spot) (b : LeafOp) (bytes : List ℕ) (u : Spot) → spots ≡ front ++ u ∷ rest
        → IsStored retry front b → AreFreeLeaves b (Store retry bytes u)
    stored_free front rest (Fetch again len w) bytes u is h = absurd h
    stored_free front rest (Store again others w) bytes u is h =
        subst (λ (r : Bool). AreFreeLeaves (Store r others w) (Store retry bytes u)) (sym h.0)
        (apart h.1 (length front) w u retry others bytes
        (subst (λ (all : List Spot). nth h.1 all ≡ Some w) (sym is) (nth_front h.1 front (u ∷ rest) w h.2))
        (subst (λ (all : List Spot). nth (length front) all ≡ Some u) (sym is) (nth_seam front rest u))
        (nth_below h.1 front w h.2))

    stores_walk : (bytes : List ℕ) (so_far : List (Option Errno)) (front those rest : List Spot) (outs : List LeafOp)
        → spots ≡ front ++ (those ++ rest)
        → AllByRecursion (WasAsked front) outs
        → LeafWalks (λ os errors. AllByRecursion (WasAsked (front ++ those)) os) outs (store_each retry bytes so_far those)
    stores_walk bytes so_far front [] rest outs is h =
        subst (λ (all : List Spot). AllByRecursion (WasAsked all) outs) (sym (append-nil {A = Spot} front)) h
    stores_walk bytes so_far front (u ∷ those) rest outs is h =
        let now : List Spot = front ++ u ∷ [] in
        let split : spots ≡ now ++ (those ++ rest) = is ∙ sym (append_assoc front (u ∷ []) (those ++ rest)) in
        let all : now ++ those ≡ front ++ (u ∷ those) = append_assoc front (u ∷ []) those in
        let asked : AllByRecursion (WasAsked now) outs = all_weaker (WasAsked front) (WasAsked now) outs
        (λ b w. was_more front (u ∷ []) b w) h in
        let here : WasAsked now (Store retry bytes u) = inr (refl, length front, nth_seam front [] u) in (
          all_weaker (WasAsked front) (λ (b : LeafOp). AreFreeLeaves b (Store retry bytes u)) outs
              (λ b w. ⊎_elim (λ (o : Old b). old b o bytes u) (λ (s : IsStored retry front b). stored_free front
              (those ++ rest) b bytes u is s) w) h,
          λ answer. subst (λ (xs : List Spot). LeafWalks (λ os errors. AllByRecursion (WasAsked xs) os) outs
              (store_each retry bytes (so_far ++ error_of answer ∷ []) those)) all
              (stores_walk bytes (so_far ++ error_of answer ∷ []) now those rest outs split asked),
          λ s. subst (λ (xs : List Spot). LeafWalks (λ os errors. AllByRecursion (WasAsked xs) os) (Store retry bytes u ∷ outs)
              (store_each retry bytes (so_far ++ Some Io ∷ []) those)) all
              (stores_walk bytes (so_far ++ Some Io ∷ []) now those rest (Store retry bytes u ∷ outs) split (here, asked)),
        )

    places_walk : (s : Setting) (bytes : List ℕ) (worst : Option Errno) (front : List Spot) (places : List Place) (outs : List LeafOp)
        → spots ≡ front ++ spots_of s places
        → AllByRecursion (WasAsked front) outs
        → LeafWalks (λ os error. AllByRecursion (WasAsked spots) os) outs (places_writing s retry bytes worst places)
    places_walk s bytes worst front [] outs is h =
        subst (λ (all : List Spot). AllByRecursion (WasAsked all) outs) (sym (is ∙ append-nil {A = Spot} front)) h
    places_walk s bytes worst front (p ∷ ps) outs is h =
        let those : List Spot = map (spot_in p) (leaves_of s p) in
        let now : List Spot = front ++ those in
        leaves_then (λ os error. AllByRecursion (WasAsked now) os) (λ os error. AllByRecursion (WasAsked spots) os) outs
        (place_writing s retry bytes p) _
        (leaves_then (λ os errors. AllByRecursion (WasAsked now) os) (λ os error. AllByRecursion (WasAsked now) os) outs
        (store_each retry bytes [] those) _
        (stores_walk bytes [] front those (spots_of s ps) outs is h) (λ os errors k. k))
        (λ os error k. places_walk s bytes (worst_error worst error) now ps os (is ∙ sym (append_assoc front those (spots_of s ps))) k)

  passes_differ : (spots : List Spot) (b : LeafOp) → IsStored false spots b → (bytes : List ℕ) (u : Spot)
      → AreFreeLeaves b (Store true bytes u)
  passes_differ spots (Fetch again len w) h bytes u = absurd h
  passes_differ spots (Store again others w) h bytes u =
      λ beside. absurd (let is : again ≡ false = h.0 in let not_so : again ≡ true = beside in cc)

  again_walk : (spots : List Spot) (error : Option Errno) (outs : List LeafOp) (again : Program (Option Errno))
      → LeafWalks (λ os e. Unit {0}) outs again → LeafWalks (λ os e. Unit {0}) outs (again_on error again)
  again_walk spots None outs again h = tt
  again_walk spots (Some e) outs again h = h

  pub write_walk : (s : Setting) (bytes : List ℕ) (places : List Place) → AreStoredApart (spots_of s places)
      → LeafWalks (λ os e. Unit {0}) [] (piece_writing s bytes places)
  write_walk s bytes places apart =
      let spots : List Spot = spots_of s places in
      leaves_then (λ os e. AllByRecursion (λ (b : LeafOp). ⊥ ⊎ IsStored false spots b) os) (λ os e. Unit {0}) []
      (pass_writing s false bytes places) _
      (places_walk false spots (λ b. ⊥) (λ b none bytes u. absurd none) apart s bytes None [] places [] refl tt)
      (λ os e k. again_walk spots e os (pass_writing s true bytes places)
      (leaves_any (λ os e. AllByRecursion (λ (b : LeafOp). IsStored false spots b ⊎ IsStored true spots b) os) os
      (pass_writing s true bytes places)
      (places_walk true spots (IsStored false spots) (λ b h others u. passes_differ spots b h others u) apart s bytes None [] places os refl
      (all_weaker (λ (b : LeafOp). ⊥ ⊎ IsStored false spots b) (λ (b : LeafOp). IsStored false spots b ⊎ IsStored true [] b) os
      (λ b w. ⊎_elim (λ (none : ⊥). absurd none) (λ (h : IsStored false spots b). inl h) w) k))))

  -- ---- reads with repairs

  -- those that failed in front of the first good one
  abbrev FailedFirst : List ℕ → Tried ℕ → Type 0
  FailedFirst order tried = IfSome tried.found (λ bytes. (n : ℕ) × (tried.failed ≡ take n order))

  try_walk : (leaf : ℕ) (r : Answer) (order leaves : List ℕ) (so_far : Tried ℕ) (on : Tried ℕ → Program (Tried ℕ))
      → order ≡ so_far.failed ++ leaf ∷ leaves
      → ((e : Errno) → Stays Anything IsFetch (FailedFirst order) (on (with_failure leaf e so_far)))
      → Stays Anything IsFetch (FailedFirst order) (try_on leaf r so_far on)
  try_walk leaf (Ok bytes) order leaves so_far on is h =
      (length so_far.failed, sym (ap (take (length so_far.failed)) is ∙ take-append_seam so_far.failed (leaf ∷ leaves)))
  try_walk leaf (Err e) order leaves so_far on is h = h e

  tries_walk : (retry : Bool) (len : ℕ) (good : List ℕ → Bool) (p : Place) (order leaves : List ℕ) (so_far : Tried ℕ)
      → order ≡ so_far.failed ++ leaves → so_far.found ≡ None
      → Stays Anything IsFetch (FailedFirst order) (try_each (fetch_in retry len p) good so_far leaves)
  tries_walk retry len good p order [] so_far is none =
      subst (λ (found : Option (List ℕ)). IfSome found (λ bytes. (n : ℕ) × (so_far.failed ≡ take n order))) (sym none) tt
  tries_walk retry len good p order (leaf ∷ leaves) so_far is none = (
    refl,
    λ answer any. try_walk leaf (judged good answer) order leaves so_far _ is
        (λ e. tries_walk retry len good p order leaves (with_failure leaf e so_far)
        (is ∙ sym (append_assoc so_far.failed (leaf ∷ []) leaves)) refl),
  )

  -- what is repaired is what a pass came past
  abbrev Mends : Setting → List Place → List Spot → Type 0
  Mends s places spots =
      (front : List Place) × (rest : List Place) × (p : Place) × (tried : ℕ) × (places ≡ front ++ p ∷ rest) ×
      (spots ≡ repairs_after s front p tried)

  abbrev PassMends : Setting → List Place → Pass → Type 0
  PassMends s places pass = IfSome pass.found (λ bytes. Mends s places pass.repairs)

  mend_on : (s : Setting) (places front rest : List Place) (p : Place) (found : Option (List ℕ)) (tried : Tried ℕ) (so_far : Pass)
      (on : Pass → Program Pass)
      → places ≡ front ++ p ∷ rest → so_far.repairs ≡ spots_of s front
      → IfSome found (λ bytes. (n : ℕ) × (tried.failed ≡ take n (read_order (offset_of p) (leaves_of s p))))
      → ((now : Pass) → now.found ≡ None → now.repairs ≡ spots_of s (front ++ p ∷ []) → Stays Anything IsFetch
      (PassMends s places) (on now))
      → Stays Anything IsFetch (PassMends s places) (pass_on found (map (spot_in p) tried.failed)
      (map (spot_in p) (leaves_of s p)) tried so_far on)
  mend_on s places front rest p (Some bytes) tried so_far on is repairs failed h =
      (front, rest, p, failed.0, is, (λ i. repairs i ++ map (spot_in p) (failed.1 i)))
  mend_on s places front rest p None tried so_far on is repairs failed h =
      let last : spots_of s (p ∷ []) ≡ map (spot_in p) (leaves_of s p) = append-nil {A = Spot} (map (spot_in p) (leaves_of s p)) in
      let all : spots_of s (front ++ p ∷ []) ≡ spots_of s front ++ spots_of s (p ∷ []) = flat_map-append
      (λ q. map (spot_in q) (leaves_of s q)) front (p ∷ []) in
      h (record {
        found =
            None;
        repairs = so_far.repairs ++ map (spot_in p) (leaves_of s p);
        errors = so_far.errors ++ Some
            (blame tried.errors) ∷ [];
      }) refl
      ((λ i. repairs i ++ sym last i) ∙ sym all)

  pass_walk : (s : Setting) (retry : Bool) (good : List ℕ → Bool) (len : ℕ) (places front ps : List Place) (so_far : Pass)
      → places ≡ front ++ ps → so_far.found ≡ None
      → so_far.repairs ≡ spots_of s front → Stays Anything IsFetch (PassMends s places) (pass_each s retry good len so_far ps)
  pass_walk s retry good len places front [] so_far is none repairs =
      subst (λ (found : Option (List ℕ)). IfSome found (λ bytes. Mends s places so_far.repairs)) (sym none) tt
  pass_walk s retry good len places front (p ∷ ps) so_far is none repairs =
      let order : List ℕ = read_order (offset_of p) (leaves_of s p) in
      stays-then Anything IsFetch (FailedFirst order) (PassMends s places) (place_reading s retry good len p) _
      (tries_walk retry len good p order order none_tried refl refl)
      (λ tried k. mend_on s places front ps p tried.found tried so_far _ is repairs k
      (λ now found r. pass_walk s retry good len places (front ++ p ∷ []) ps now (is ∙ sym (append_assoc front (p ∷ []) ps)) found r))

  -- writes of one pass to what is repaired
  abbrev pub AreMendedApart : Setting → List Place → Type 0
  AreMendedApart s places =
      (front rest : List Place) (p : Place) (tried : ℕ) → places ≡ front ++ p ∷ rest → AreStoredApart
      (repairs_after s front p tried)

  found_walk : (s : Setting) (places : List Place) (repair retry : Bool) (pass : Pass) (bytes : List ℕ)
      → (repair ≡ true → AreMendedApart s places) → Mends s places pass.repairs
      → LeafWalks (λ os a. Unit {0}) [] (found_by repair retry pass bytes)
  found_walk s places false retry pass bytes apart m = tt
  found_walk s places true retry pass bytes apart m =
      let here : AreStoredApart pass.repairs = subst AreStoredApart (sym m.5) (apart refl m.0 m.1 m.2 m.3 m.4) in
      leaves_then (λ os errors. AllByRecursion (λ (b : LeafOp). ⊥ ⊎ IsStored retry pass.repairs b) os) (λ os a. Unit {0}) []
      (store_each retry bytes [] pass.repairs) _
      (stores_walk retry pass.repairs (λ b. ⊥) (λ b none others u. absurd none) here bytes [] [] pass.repairs [] []
      (sym (append-nil {A = Spot} pass.repairs)) tt)
      (λ os errors k. tt)

  last_walk : (s : Setting) (places : List Place) (repair : Bool) (found : Option (List ℕ)) (pass : Pass)
      → (repair ≡ true → AreMendedApart s places) → IfSome found (λ bytes. Mends s places pass.repairs)
      → LeafWalks (λ os a. Unit {0}) [] (last_on found repair pass)
  last_walk s places repair (Some bytes) pass apart m = found_walk s places repair true pass bytes apart m
  last_walk s places repair None pass apart m = tt

  first_walk : (s : Setting) (places : List Place) (repair : Bool) (found : Option (List ℕ)) (pass : Pass) (again : Program Pass)
      → (repair ≡ true → AreMendedApart s places)
      → IfSome found (λ bytes. Mends s places pass.repairs) → Stays Anything IsFetch (PassMends s places) again
      → LeafWalks (λ os a. Unit {0}) [] (first_on found repair pass again)
  first_walk s places repair (Some bytes) pass again apart m h = found_walk s places repair false pass bytes apart m
  first_walk s places repair None pass again apart m h =
      reads_then (PassMends s places) (λ os a. Unit {0}) again _ h (λ last k. last_walk s places repair last.found last apart k)

  pub read_walk : (s : Setting) (repair : Bool) (good : List ℕ → Bool) (len : ℕ) (places : List Place)
      → (repair ≡ true → AreMendedApart s places)
      → LeafWalks (λ os a. Unit {0}) [] (block_reading s repair good len places)
  read_walk s repair good len places apart =
      reads_then (PassMends s places) (λ os a. Unit {0}) (pass_reading s false good len places) _
      (pass_walk s false good len places [] places none_passed refl refl refl)
      (λ pass k. first_walk s places repair pass.found pass (pass_reading s true good len places) apart k
      (pass_walk s true good len places [] places none_passed refl refl refl))
