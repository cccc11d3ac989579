-- A reader of a block that finds each copy as it was, or repaired with the good bytes: it finds these bytes, and repairs
-- no copy but those that the first reader would.
use Rattle.std.proofs.Common.{◌≡◌, ℕ, ◌/◌, ◌%◌, List, [], ◌∷◌, ◌++◌, length, map, take, drop, Bool, true, false, Option, Some, None, Result, Ok, Err, Contains, ◌⊎◌, inl, inr, ⊎_elim, refl, sym, ap, ◌∙◌, subst}
use Rattle.std.specs.List.{AllByRecursion}
use Rattle.zio_types.specs.declared.error.Errno.{Errno}
use Rattle.zio_types.specs.declared.place.Place.{Place}
use Rattle.zio_cksum.specs.Blocks.{Pass, Tried, blame, first_good, judged, leaves_of, passed_with, read_order, read_pass, read_place, spot_in, then_others, turn_size}
use Rattle.zio_cksum.specs.Headers.{offset_of}
use Rattle.zio_cksum.specs.Images.{Images, Setting, Spot, read_leaf}
use Rattle.zio_cksum.proofs.AllLemmas.{all_append, all_drop, all_map, all_take, all_unmap}
use Rattle.zio_cksum.proofs.FrameLemmas.{AreAmong}
use Rattle.zio_trace.specs.CopyPrograms.{Program, block_reading, fetch_in, first_on, found_by, none_passed, none_tried, pass_each, pass_on, pass_reading, place_reading, store_each, try_each, try_on, with_failure}
use Rattle.zio_trace.specs.Leaves.{Answer, Fetch, Store, error_of}
use Rattle.zio_trace.specs.Programs.{Asks, Ends, ◌>>=◌}
use Rattle.zio_trace.proofs.ListLemmas.{all_front, all_rest}

module _ (s : Setting) (spots : List Spot) (len : ℕ) (good : List ℕ → Bool) (before : Images) (mended : List Spot) (bytes : List ℕ) where
  -- what a copy gives as it was
  abbrev pub at_first : Spot → Result (List ℕ) Errno
  at_first t = judged good (read_leaf s false before len t)

  -- as it was, or repaired
  abbrev pub May : Spot → Result (List ℕ) Errno → Type 0
  May t r = (r ≡ at_first t) ⊎ ((r ≡ Ok bytes) × Contains mended t)

  -- nothing but repairs with the good bytes is left
  abbrev pub Repairs : Program Answer → Type 0
  Repairs (Ends a) = a ≡ Ok bytes
  Repairs (Asks (Fetch retry n t) more) = ⊥
  Repairs (Asks (Store retry b t) more) = (retry ≡ false) × (b ≡ bytes) × Contains mended t × ((answer : Answer) → Repairs (more answer))

  -- reads of the first pass, and then repairs
  abbrev pub Fine : Program Answer → Type 0
  Fine (Ends a) = a ≡ Ok bytes
  Fine (Asks (Fetch retry n t) more) = (retry ≡ false) × (n ≡ len) × Contains spots t × ((answer : Answer) → May t (judged good answer) → Fine (more answer))
  Fine (Asks (Store retry b t) more) = Repairs (Asks (Store retry b t) more)

  -- reads of the first pass alone
  abbrev Looks : {A : Type 0} → (A → Type 0) → Program A → Type 0
  Looks Q (Ends a) = Q a
  Looks Q (Asks (Fetch retry n t) more) = (retry ≡ false) × (n ≡ len) × Contains spots t × ((answer : Answer) → May t (judged good answer) → Looks Q (more answer))
  Looks Q (Asks (Store retry b t) more) = ⊥

  looks_then : {A B : Type 0} (Q : A → Type 0) (R : B → Type 0) (p : Program A) (next : A → Program B) → Looks Q p → ((a : A) → Q a → Looks R (next a)) → Looks R (p >>= next)
  looks_then Q R (Ends a) next h k = k a h
  looks_then Q R (Asks (Fetch retry n t) more) next h k = (h.0, h.1, h.2, λ answer may. looks_then Q R (more answer) next (h.3 answer may) k)
  looks_then Q R (Asks (Store retry b t) more) next h k = absurd h

  looks_fine : {A : Type 0} (Q : A → Type 0) (p : Program A) (next : A → Program Answer) → Looks Q p → ((a : A) → Q a → Fine (next a)) → Fine (p >>= next)
  looks_fine Q (Ends a) next h k = k a h
  looks_fine Q (Asks (Fetch retry n t) more) next h k = (h.0, h.1, h.2, λ answer may. looks_fine Q (more answer) next (h.3 answer may) k)
  looks_fine Q (Asks (Store retry b t) more) next h k = absurd h

  pub repairs_fine : (p : Program Answer) → Repairs p → Fine p
  repairs_fine (Ends a) h = h
  repairs_fine (Asks (Fetch retry n t) more) h = absurd h
  repairs_fine (Asks (Store retry b t) more) h = h

  -- ---- a place

  abbrev Mended : Place → List ℕ → Type 0
  Mended p leaves = AllByRecursion (λ (l : ℕ). Contains mended (spot_in p l)) leaves

  -- the good bytes were found, or nothing was, and neither at first
  abbrev TriedAs : Place → Option (List ℕ) → Tried ℕ → Type 0
  TriedAs p first t = ((t.found ≡ Some bytes) × Mended p t.failed) ⊎ ((t.found ≡ None) × (first ≡ None))

  abbrev IsBytes : Option (List ℕ) → Type 0
  IsBytes found = (x : List ℕ) → found ≡ Some x → x ≡ bytes

  abbrev GoesOn : Place → Tried ℕ → (Tried ℕ → Program (Tried ℕ)) → Type 0
  GoesOn p rest on = (now : Tried ℕ) → now.found ≡ None → Mended p now.failed → Looks (TriedAs p rest.found) (on now)

  as_first : (p : Place) (leaf : ℕ) (o : Result (List ℕ) Errno) (rest so_far : Tried ℕ) (on : Tried ℕ → Program (Tried ℕ)) → Mended p (then_others leaf o rest).failed → IsBytes (then_others leaf o rest).found → Mended p so_far.failed
      → (Mended p rest.failed → IsBytes rest.found → GoesOn p rest on) → Looks (TriedAs p (then_others leaf o rest).found) (try_on leaf o so_far on)
  as_first p leaf (Ok b) rest so_far on failed is so_failed go = inl (ap (λ (x : List ℕ). Some x) (is b refl), so_failed)
  as_first p leaf (Err e) rest so_far on failed is so_failed go =
      go failed.1 is (with_failure leaf e so_far) refl (all_append (λ (l : ℕ). Contains mended (spot_in p l)) so_far.failed (leaf ∷ []) so_failed (failed.0, tt))

  one_looks : (p : Place) (leaf : ℕ) (r o : Result (List ℕ) Errno) (rest so_far : Tried ℕ) (on : Tried ℕ → Program (Tried ℕ)) (c : Type 0) → (r ≡ o) ⊎ ((r ≡ Ok bytes) × c) → Mended p (then_others leaf o rest).failed → IsBytes (then_others leaf o rest).found → Mended p so_far.failed
      → (Mended p rest.failed → IsBytes rest.found → GoesOn p rest on) → Looks (TriedAs p (then_others leaf o rest).found) (try_on leaf r so_far on)
  one_looks p leaf r o rest so_far on c (inl e) failed is so_failed go =
      subst (λ (x : Result (List ℕ) Errno). Looks (TriedAs p (then_others leaf o rest).found) (try_on leaf x so_far on)) (sym e) (as_first p leaf o rest so_far on failed is so_failed go)
  one_looks p leaf r o rest so_far on c (inr m) failed is so_failed go =
      subst (λ (x : Result (List ℕ) Errno). Looks (TriedAs p (then_others leaf o rest).found) (try_on leaf x so_far on)) (sym m.0) (inl (refl, so_failed))

  abbrev tried_first : Place → List ℕ → Tried ℕ
  tried_first p leaves = first_good (λ (l : ℕ). at_first (spot_in p l)) leaves

  tries_look : (p : Place) (so_far : Tried ℕ) (leaves : List ℕ) → AllByRecursion (λ (l : ℕ). Contains spots (spot_in p l)) leaves → Mended p (tried_first p leaves).failed → IsBytes (tried_first p leaves).found → so_far.found ≡ None → Mended p so_far.failed
      → Looks (TriedAs p (tried_first p leaves).found) (try_each (fetch_in false len p) good so_far leaves)
  tries_look p so_far [] among failed is none so_failed = inr (none, refl)
  tries_look p so_far (leaf ∷ leaves) among failed is none so_failed = (
    refl,
    refl,
    among.0,
    λ answer may. one_looks p leaf (judged good answer) (at_first (spot_in p leaf)) (tried_first p leaves) so_far (λ now. try_each (fetch_in false len p) good now leaves) (Contains mended (spot_in p leaf)) may failed is so_failed
        (λ f i now n m. tries_look p now leaves among.1 f i n m),
  )

  failed_if : (P : ℕ → Type 0) (leaf : ℕ) (r : Result (List ℕ) Errno) (rest : Tried ℕ) → P leaf → AllByRecursion P rest.failed → AllByRecursion P (then_others leaf r rest).failed
  failed_if P leaf (Ok b) rest h k = tt
  failed_if P leaf (Err e) rest h k = (h, k)

  pub failed_among : (P : ℕ → Type 0) (p : Place) (leaves : List ℕ) → AllByRecursion P leaves → AllByRecursion P (tried_first p leaves).failed
  failed_among P p [] h = tt
  failed_among P p (leaf ∷ leaves) h = failed_if P leaf (at_first (spot_in p leaf)) (tried_first p leaves) h.0 (failed_among P p leaves h.1)

  pub in_order : (P : ℕ → Type 0) (p : Place) → AllByRecursion P (leaves_of s p) → AllByRecursion P (read_order (offset_of p) (leaves_of s p))
  in_order P p h =
      let n : ℕ = offset_of p / turn_size % length (leaves_of s p) in
      all_append P (drop n (leaves_of s p)) (take n (leaves_of s p)) (all_drop P n (leaves_of s p) h) (all_take P n (leaves_of s p) h)

  -- ---- a block

  abbrev AllMended : List Spot → Type 0
  AllMended xs = AllByRecursion (Contains mended) xs

  abbrev PassedAs : Pass → Type 0
  PassedAs pass = (pass.found ≡ Some bytes) × AllMended pass.repairs

  pass_on_looks : (found : Option (List ℕ)) (bad all : List Spot) (tried : Tried ℕ) (so_far : Pass) (on : Pass → Program Pass) → AllMended so_far.repairs
      → ((found ≡ Some bytes) × AllMended bad) ⊎ ((found ≡ None) × Looks PassedAs (on (record { found = None; repairs = so_far.repairs ++ all; errors = so_far.errors ++ Some (blame tried.errors) ∷ [] }))) → Looks PassedAs (pass_on found bad all tried so_far on)
  pass_on_looks (Some b) bad all tried so_far on so (inl h) = (h.0, all_append (Contains mended) so_far.repairs bad so h.1)
  pass_on_looks (Some b) bad all tried so_far on so (inr h) = absurd (let no : Some b ≡ None = h.0 in cc)
  pass_on_looks None bad all tried so_far on so (inl h) = absurd (let no : ◌≡◌ {A = Option (List ℕ)} None (Some bytes) = h.0 in cc)
  pass_on_looks None bad all tried so_far on so (inr h) = h.1

  some_bytes : (found : Option (List ℕ)) (b : List ℕ) → found ≡ Some b → Some b ≡ Some bytes → IsBytes found
  some_bytes found b e f x g = let same : Some x ≡ Some bytes = sym g ∙ e ∙ f in cc

  none_bytes : (found : Option (List ℕ)) → found ≡ None → IsBytes found
  none_bytes found e x g = absurd (let no : Some x ≡ None = sym g ∙ e in cc)

  place_looks : (p : Place) (so_far : Pass) (on : Pass → Program Pass) (rest : Pass) (o : Option (List ℕ)) → AreAmong spots s p → (read_place s false good before len p).found ≡ o
      → (passed_with o (map (spot_in p) (read_place s false good before len p).failed) (map (spot_in p) (leaves_of s p)) (read_place s false good before len p) rest).found ≡ Some bytes
      → AllMended (passed_with o (map (spot_in p) (read_place s false good before len p).failed) (map (spot_in p) (leaves_of s p)) (read_place s false good before len p) rest).repairs
      → AllMended so_far.repairs → ((now : Pass) → rest.found ≡ Some bytes → AllMended rest.repairs → AllMended now.repairs → Looks PassedAs (on now))
      → Looks PassedAs (place_reading s false good len p >>= λ tried. pass_on tried.found (map (spot_in p) tried.failed) (map (spot_in p) (leaves_of s p)) tried so_far on)
  place_looks p so_far on rest (Some b) among is found repairs so go =
      let first : Tried ℕ = read_place s false good before len p in
      looks_then (TriedAs p first.found) PassedAs (place_reading s false good len p) _
      (tries_look p none_tried (read_order (offset_of p) (leaves_of s p)) (in_order _ p (all_unmap (Contains spots) (spot_in p) (leaves_of s p) among))
      (all_unmap (Contains mended) (spot_in p) first.failed repairs) (some_bytes first.found b is found) refl tt)
      (λ tried h. pass_on_looks tried.found (map (spot_in p) tried.failed) (map (spot_in p) (leaves_of s p)) tried so_far on so
      (⊎_elim (λ good_one. inl (good_one.0, all_map (Contains mended) (spot_in p) tried.failed good_one.1)) (λ none. absurd (let no : Some b ≡ None = sym is ∙ none.1 in cc)) h))
  place_looks p so_far on rest None among is found repairs so go =
      let first : Tried ℕ = read_place s false good before len p in
      let all : List Spot = map (spot_in p) (leaves_of s p) in
      let here : AllMended all = all_front (Contains mended) all rest.repairs repairs in
      let later : AllMended rest.repairs = all_rest (Contains mended) all rest.repairs repairs in
      let leaves : Mended p (read_order (offset_of p) (leaves_of s p)) = in_order _ p (all_unmap (Contains mended) (spot_in p) (leaves_of s p) here) in
      looks_then (TriedAs p first.found) PassedAs (place_reading s false good len p) _
      (tries_look p none_tried (read_order (offset_of p) (leaves_of s p)) (in_order _ p (all_unmap (Contains spots) (spot_in p) (leaves_of s p) among))
      (failed_among (λ (l : ℕ). Contains mended (spot_in p l)) p (read_order (offset_of p) (leaves_of s p)) leaves) (none_bytes first.found is) refl tt)
      (λ tried h. pass_on_looks tried.found (map (spot_in p) tried.failed) all tried so_far on so
      (⊎_elim (λ good_one. inl (good_one.0, all_map (Contains mended) (spot_in p) tried.failed good_one.1))
      (λ none. inr (none.0, go _ found later (all_append (Contains mended) so_far.repairs all so here))) h))

  pass_looks : (so_far : Pass) (places : List Place) → AllByRecursion (AreAmong spots s) places → (read_pass s false good before len places).found ≡ Some bytes → AllMended (read_pass s false good before len places).repairs → AllMended so_far.repairs
      → Looks PassedAs (pass_each s false good len so_far places)
  pass_looks so_far [] among found repairs so = absurd (let no : ◌≡◌ {A = Option (List ℕ)} None (Some bytes) = found in cc)
  pass_looks so_far (p ∷ ps) among found repairs so =
      place_looks p so_far (λ now. pass_each s false good len now ps) (read_pass s false good before len ps) (read_place s false good before len p).found among.0 refl found repairs so
      (λ now f r m. pass_looks now ps among.1 f r m)

  stores_repair : (so_far : List (Option Errno)) (those : List Spot) → AllMended those → Repairs (store_each false bytes so_far those >>= λ errors. Ends (Ok bytes))
  stores_repair so_far [] h = refl
  stores_repair so_far (t ∷ those) h = (refl, refl, h.0, λ answer. stores_repair (so_far ++ error_of answer ∷ []) those h.1)

  found_fine : (b : List ℕ) (pass : Pass) → Some b ≡ Some bytes → AllMended pass.repairs → Fine (found_by true false pass b)
  found_fine b pass e h =
      let is : b ≡ bytes = cc in
      subst (λ (x : List ℕ). Fine (found_by true false pass x)) (sym is) (repairs_fine (found_by true false pass bytes) (stores_repair [] pass.repairs h))

  first_fine : (found : Option (List ℕ)) (pass : Pass) (again : Program Pass) → found ≡ Some bytes → AllMended pass.repairs → Fine (first_on found true pass again)
  first_fine (Some b) pass again e h = found_fine b pass e h
  first_fine None pass again e h = absurd (let no : ◌≡◌ {A = Option (List ℕ)} None (Some bytes) = e in cc)

  -- Where the first pass found these bytes, and its repairs are these, a reader is fine.
  pub block_fine : (places : List Place) → AllByRecursion (AreAmong spots s) places → (read_pass s false good before len places).found ≡ Some bytes → AllMended (read_pass s false good before len places).repairs → Fine (block_reading s true good len places)
  block_fine places among found repairs =
      looks_fine PassedAs (pass_reading s false good len places) _ (pass_looks none_passed places among found repairs tt)
      (λ pass h. first_fine pass.found pass (pass_reading s true good len places) h.0 h.1)
