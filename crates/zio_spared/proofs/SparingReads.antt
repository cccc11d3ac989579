-- A reader of a piece some of whose copies are at risk, those in front of a copy that is good: where each copy that is
-- clear of them gives what it gave at first, it writes to none but those at risk.
use Rattle.std.proofs.Common.{◌≡◌, ℕ, List, [], ◌∷◌, ◌++◌, map, Bool, true, false, Option, Some, None, Result, Ok, Err, Contains, ◌⊎◌, inl, inr, ⊎_elim, refl, sym, ap, ◌∙◌, subst}
use Rattle.std.specs.List.{AllByRecursion}
use Rattle.zio_types.specs.declared.error.Errno.{Errno}
use Rattle.zio_types.specs.declared.place.Place.{Place}
use Rattle.zio_cksum.specs.Blocks.{Pass, Tried, blame, judged, leaves_of, read_order, spot_in}
use Rattle.zio_cksum.specs.Headers.{offset_of}
use Rattle.zio_cksum.specs.Images.{Images, Setting, Spot, read_leaf}
use Rattle.zio_cksum.proofs.AllLemmas.{all_append, all_map}
use Rattle.zio_trace.specs.CopyPrograms.{Program, block_reading, fetch_in, first_on, last_on, none_passed, none_tried, pass_each, pass_on, pass_reading, place_reading, store_each, try_each, try_on, with_failure}
use Rattle.zio_trace.specs.Leaves.{Answer, AreClear, Fetch, Store, error_of}
use Rattle.zio_trace.specs.Programs.{Asks, Ends, ◌>>=◌}

module _ (s : Setting) (spots : List Spot) (len : ℕ) (good : List ℕ → Bool) (before : Images) (risked : List Spot) where
  -- it is clear of those at risk
  abbrev pub IsSafe : Spot → Type 0
  IsSafe t = AllByRecursion (AreClear t) risked

  -- if it is, the read gives what it gave at first
  abbrev pub GivesAsBefore : Bool → ℕ → Spot → Answer → Type 0
  GivesAsBefore retry n t answer = IsSafe t → answer ≡ read_leaf s retry before n t

  -- it reads copies, writes to those at risk alone, and ends so
  abbrev pub Spares : {A : Type 0} → (A → Type 0) → Program A → Type 0
  Spares Q (Ends a) = Q a
  Spares Q (Asks (Fetch retry n t) more) = (n ≡ len) × Contains spots t × ((answer : Answer) → GivesAsBefore retry n t answer → Spares Q (more answer))
  Spares Q (Asks (Store retry b t) more) = Contains risked t × ((answer : Answer) → Spares Q (more answer))

  spares_then : {A B : Type 0} (Q : A → Type 0) (R : B → Type 0) (p : Program A) (next : A → Program B) → Spares Q p → ((a : A) → Q a → Spares R (next a)) → Spares R (p >>= next)
  spares_then Q R (Ends a) next h k = k a h
  spares_then Q R (Asks (Fetch retry n t) more) next h k = (h.0, h.1, λ answer gives. spares_then Q R (more answer) next (h.2 answer gives) k)
  spares_then Q R (Asks (Store retry b t) more) next h k = (h.0, λ answer. spares_then Q R (more answer) next (h.1 answer) k)

  -- ---- copies of one place

  abbrev pub OnSpots : Place → List ℕ → Type 0
  OnSpots p leaves = AllByRecursion (λ (l : ℕ). Contains spots (spot_in p l)) leaves

  abbrev pub Risked : Place → List ℕ → Type 0
  Risked p leaves = AllByRecursion (λ (l : ℕ). Contains risked (spot_in p l)) leaves

  abbrev pub at_first : Bool → Spot → Result (List ℕ) Errno
  at_first retry t = judged good (read_leaf s retry before len t)

  abbrev pub NotGood : Result (List ℕ) Errno → Type 0
  NotGood r = (b : List ℕ) → r ≡ Ok b → ⊥

  -- it is safe, and no read of it succeeds
  abbrev pub Fails : Bool → Place → List ℕ → Type 0
  Fails retry p leaves = AllByRecursion (λ (l : ℕ). IsSafe (spot_in p l) × NotGood (at_first retry (spot_in p l))) leaves

  gives_judged : (retry : Bool) (t : Spot) (answer : Answer) → IsSafe t → GivesAsBefore retry len t answer → judged good answer ≡ at_first retry t
  gives_judged retry t answer safe gives = ap (judged good) (gives safe)

  -- a copy at risk
  risk_on : (Q : Tried ℕ → Type 0) (leaf : ℕ) (r : Result (List ℕ) Errno) (so_far : Tried ℕ) (on : Tried ℕ → Program (Tried ℕ)) → ((b : List ℕ) → Q (record { found = Some b; failed = so_far.failed; errors = so_far.errors }))
      → ((e : Errno) → Spares Q (on (with_failure leaf e so_far))) → Spares Q (try_on leaf r so_far on)
  risk_on Q leaf (Ok b) so_far on found failed = found b
  risk_on Q leaf (Err e) so_far on found failed = failed e

  -- a copy that fails
  fail_on : (Q : Tried ℕ → Type 0) (leaf : ℕ) (r : Result (List ℕ) Errno) (so_far : Tried ℕ) (on : Tried ℕ → Program (Tried ℕ)) → NotGood r → ((e : Errno) → Spares Q (on (with_failure leaf e so_far))) → Spares Q (try_on leaf r so_far on)
  fail_on Q leaf (Ok b) so_far on none failed = absurd (none b refl)
  fail_on Q leaf (Err e) so_far on none failed = failed e

  -- a copy that is good
  good_on : (Q : Tried ℕ → Type 0) (leaf : ℕ) (r : Result (List ℕ) Errno) (b : List ℕ) (so_far : Tried ℕ) (on : Tried ℕ → Program (Tried ℕ)) → r ≡ Ok b → Q (record { found = Some b; failed = so_far.failed; errors = so_far.errors }) → Spares Q (try_on leaf r so_far on)
  good_on Q leaf r b so_far on e found = subst (λ (x : Result (List ℕ) Errno). Spares Q (try_on leaf x so_far on)) (sym e) found

  one_more : (p : Place) (leaf : ℕ) (e : Errno) (so_far : Tried ℕ) → Risked p so_far.failed → Contains risked (spot_in p leaf) → Risked p (with_failure leaf e so_far).failed
  one_more p leaf e so_far so c = all_append (λ (l : ℕ). Contains risked (spot_in p l)) so_far.failed (leaf ∷ []) so (c, tt)

  -- all of them are at risk
  tries_risked : (retry : Bool) (p : Place) (so_far : Tried ℕ) (leaves : List ℕ) → OnSpots p leaves → Risked p leaves → Risked p so_far.failed → Spares (λ (tried : Tried ℕ). Risked p tried.failed) (try_each (fetch_in retry len p) good so_far leaves)
  tries_risked retry p so_far [] on risk so = so
  tries_risked retry p so_far (leaf ∷ leaves) on risk so = (
    refl,
    on.0,
    λ answer gives. risk_on (λ (tried : Tried ℕ). Risked p tried.failed) leaf (judged good answer) so_far _ (λ b. so)
        (λ e. tries_risked retry p (with_failure leaf e so_far) leaves on.1 risk.1 (one_more p leaf e so_far so risk.0)),
  )

  -- all of them fail
  tries_fail : (retry : Bool) (p : Place) (so_far : Tried ℕ) (leaves : List ℕ) → OnSpots p leaves → Fails retry p leaves → so_far.found ≡ None → Spares (λ (tried : Tried ℕ). tried.found ≡ None) (try_each (fetch_in retry len p) good so_far leaves)
  tries_fail retry p so_far [] on fails none = none
  tries_fail retry p so_far (leaf ∷ leaves) on fails none = (
    refl,
    on.0,
    λ answer gives. fail_on (λ (tried : Tried ℕ). tried.found ≡ None) leaf (judged good answer) so_far _
        (λ b e. fails.0.1 b (sym (gives_judged retry (spot_in p leaf) answer fails.0.0 gives) ∙ e))
        (λ e. tries_fail retry p (with_failure leaf e so_far) leaves on.1 fails.1 refl),
  )

  abbrev NoneOrRisked : Place → Tried ℕ → Type 0
  NoneOrRisked p tried = (tried.found ≡ None) ⊎ Risked p tried.failed

  weaker : {A : Type 0} (Q R : A → Type 0) (p : Program A) → ((a : A) → Q a → R a) → Spares Q p → Spares R p
  weaker Q R (Ends a) f h = f a h
  weaker Q R (Asks (Fetch retry n t) more) f h = (h.0, h.1, λ answer gives. weaker Q R (more answer) f (h.2 answer gives))
  weaker Q R (Asks (Store retry b t) more) f h = (h.0, λ answer. weaker Q R (more answer) f (h.1 answer))

  -- first some at risk, and then those that fail
  tries_front : (retry : Bool) (p : Place) (so_far : Tried ℕ) (first later : List ℕ) → OnSpots p (first ++ later) → Risked p first → Fails retry p later → Risked p so_far.failed → so_far.found ≡ None
      → Spares (NoneOrRisked p) (try_each (fetch_in retry len p) good so_far (first ++ later))
  tries_front retry p so_far [] later on risk fails so none =
      weaker (λ (tried : Tried ℕ). tried.found ≡ None) (NoneOrRisked p) _ (λ tried e. inl e) (tries_fail retry p so_far later on fails none)
  tries_front retry p so_far (leaf ∷ first) later on risk fails so none = (
    refl,
    on.0,
    λ answer gives. risk_on (NoneOrRisked p) leaf (judged good answer) so_far _ (λ b. inr so)
        (λ e. tries_front retry p (with_failure leaf e so_far) first later on.1 risk.1 fails (one_more p leaf e so_far so risk.0) refl),
  )

  abbrev SomeAndRisked : Place → Tried ℕ → Type 0
  SomeAndRisked p tried = ((b : List ℕ) × (tried.found ≡ Some b)) × Risked p tried.failed

  -- first some at risk, and then one that is good
  tries_take : (retry : Bool) (p : Place) (so_far : Tried ℕ) (first later : List ℕ) (leaf : ℕ) (b : List ℕ) → OnSpots p (first ++ leaf ∷ later) → Risked p first → IsSafe (spot_in p leaf) → at_first retry (spot_in p leaf) ≡ Ok b → Risked p so_far.failed
      → Spares (SomeAndRisked p) (try_each (fetch_in retry len p) good so_far (first ++ leaf ∷ later))
  tries_take retry p so_far [] later leaf b on risk safe takes so = (
    refl,
    on.0,
    λ answer gives. good_on (SomeAndRisked p) leaf (judged good answer) b so_far _ (gives_judged retry (spot_in p leaf) answer safe gives ∙ takes) ((b, refl), so),
  )
  tries_take retry p so_far (l ∷ first) later leaf b on risk safe takes so = (
    refl,
    on.0,
    λ answer gives. risk_on (SomeAndRisked p) l (judged good answer) so_far _ (λ x. ((x, refl), so))
        (λ e. tries_take retry p (with_failure l e so_far) first later leaf b on.1 risk.1 safe takes (one_more p l e so_far so risk.0)),
  )

  -- ---- places

  abbrev order : Place → List ℕ
  order p = read_order (offset_of p) (leaves_of s p)

  abbrev AllRisked : List Spot → Type 0
  AllRisked xs = AllByRecursion (Contains risked) xs

  abbrev next_pass : List Spot → Tried ℕ → Pass → Pass
  next_pass all tried so_far = record { found = None; repairs = so_far.repairs ++ all; errors = so_far.errors ++ Some (blame tried.errors) ∷ [] }

  on_by : (Q : Pass → Type 0) (found : Option (List ℕ)) (bad all : List Spot) (tried : Tried ℕ) (so_far : Pass) (on : Pass → Program Pass) → ((b : List ℕ) → found ≡ Some b → Q (record { found = Some b; repairs = so_far.repairs ++ bad; errors = so_far.errors }))
      → (found ≡ None → Spares Q (on (next_pass all tried so_far))) → Spares Q (pass_on found bad all tried so_far on)
  on_by Q (Some b) bad all tried so_far on some none = some b refl
  on_by Q None bad all tried so_far on some none = none refl

  some_none : (found : Option (List ℕ)) (b : List ℕ) → found ≡ Some b → found ≡ None → ⊥
  some_none found b e f = let no : Some b ≡ None = sym e ∙ f in cc

  abbrev PlaceFails : Bool → Place → Type 0
  PlaceFails retry p = OnSpots p (order p) × Fails retry p (order p)

  -- no place has a copy that is good
  pass_fails : (retry : Bool) (so_far : Pass) (places : List Place) → AllByRecursion (PlaceFails retry) places → so_far.found ≡ None → Spares (λ (pass : Pass). pass.found ≡ None) (pass_each s retry good len so_far places)
  pass_fails retry so_far [] fails none = none
  pass_fails retry so_far (p ∷ ps) fails none =
      spares_then (λ (tried : Tried ℕ). tried.found ≡ None) (λ (pass : Pass). pass.found ≡ None) (place_reading s retry good len p) _
      (tries_fail retry p none_tried (order p) fails.0.0 fails.0.1 refl)
      (λ tried e. on_by (λ (pass : Pass). pass.found ≡ None) tried.found (map (spot_in p) tried.failed) (map (spot_in p) (leaves_of s p)) tried so_far _
      (λ b f. absurd (some_none tried.found b f e))
      (λ f. pass_fails retry (next_pass (map (spot_in p) (leaves_of s p)) tried so_far) ps fails.1 refl))

  -- all copies at the place are at risk
  abbrev pub PlaceRisked : Place → Type 0
  PlaceRisked p = OnSpots p (order p) × Risked p (order p) × AllRisked (map (spot_in p) (leaves_of s p))

  more_risked : (so_far : Pass) (xs : List Spot) → AllRisked so_far.repairs → AllRisked xs → AllRisked (so_far.repairs ++ xs)
  more_risked so_far xs so h = all_append (Contains risked) so_far.repairs xs so h

  failed_risked : (p : Place) (tried : Tried ℕ) → Risked p tried.failed → AllRisked (map (spot_in p) tried.failed)
  failed_risked p tried h = all_map (Contains risked) (spot_in p) tried.failed h

  -- Of the last place in which a copy is at risk: in the order of reads some of its copies are, and then comes one that
  -- is safe.
  pub record IsLast (p : Place) : Type 0 where
    pub first : List ℕ
    pub leaf : ℕ
    pub later : List ℕ
    pub order_is : order p ≡ first ++ leaf ∷ later
    pub on_spots : OnSpots p (order p)
    pub risk : Risked p first
    pub safe : IsSafe (spot_in p leaf)

  abbrev NoneOrAllRisked : Pass → Type 0
  NoneOrAllRisked pass = (pass.found ≡ None) ⊎ AllRisked pass.repairs

  -- nothing is found, or by copies at risk
  pass_front : (retry : Bool) (so_far : Pass) (front rest : List Place) (p : Place) (last : IsLast p) → AllByRecursion PlaceRisked front → Fails retry p (last.leaf ∷ last.later) → AllByRecursion (PlaceFails retry) rest → AllRisked so_far.repairs → so_far.found ≡ None
      → Spares NoneOrAllRisked (pass_each s retry good len so_far (front ++ p ∷ rest))
  pass_front retry so_far [] rest p last risk fails others so none =
      spares_then (NoneOrRisked p) NoneOrAllRisked (place_reading s retry good len p) _
      (subst (λ (ls : List ℕ). Spares (NoneOrRisked p) (try_each (fetch_in retry len p) good none_tried ls)) (sym last.order_is)
      (tries_front retry p none_tried last.first (last.leaf ∷ last.later) (subst (OnSpots p) last.order_is last.on_spots) last.risk fails tt refl))
      (λ tried h. on_by NoneOrAllRisked tried.found (map (spot_in p) tried.failed) (map (spot_in p) (leaves_of s p)) tried so_far _
      (λ b f. ⊎_elim (λ (e : tried.found ≡ None). absurd (some_none tried.found b f e)) (λ (k : Risked p tried.failed). inr (more_risked so_far (map (spot_in p) tried.failed) so (failed_risked p tried k))) h)
      (λ f. weaker (λ (pass : Pass). pass.found ≡ None) NoneOrAllRisked _ (λ pass e. inl e) (pass_fails retry (next_pass (map (spot_in p) (leaves_of s p)) tried so_far) rest others refl)))
  pass_front retry so_far (q ∷ front) rest p last risk fails others so none =
      spares_then (λ (tried : Tried ℕ). Risked q tried.failed) NoneOrAllRisked (place_reading s retry good len q) _
      (tries_risked retry q none_tried (order q) risk.0.0 risk.0.1 tt)
      (λ tried h. on_by NoneOrAllRisked tried.found (map (spot_in q) tried.failed) (map (spot_in q) (leaves_of s q)) tried so_far _
      (λ b f. inr (more_risked so_far (map (spot_in q) tried.failed) so (failed_risked q tried h)))
      (λ f. pass_front retry (next_pass (map (spot_in q) (leaves_of s q)) tried so_far) front rest p last risk.1 fails others (more_risked so_far (map (spot_in q) (leaves_of s q)) so risk.0.2) refl))

  abbrev SomeAndAllRisked : Pass → Type 0
  SomeAndAllRisked pass = ((b : List ℕ) × (pass.found ≡ Some b)) × AllRisked pass.repairs

  -- something is found
  pass_takes : (retry : Bool) (so_far : Pass) (front rest : List Place) (p : Place) (last : IsLast p) (b : List ℕ) → AllByRecursion PlaceRisked front → at_first retry (spot_in p last.leaf) ≡ Ok b → AllRisked so_far.repairs
      → Spares SomeAndAllRisked (pass_each s retry good len so_far (front ++ p ∷ rest))
  pass_takes retry so_far [] rest p last b risk takes so =
      spares_then (SomeAndRisked p) SomeAndAllRisked (place_reading s retry good len p) _
      (subst (λ (ls : List ℕ). Spares (SomeAndRisked p) (try_each (fetch_in retry len p) good none_tried ls)) (sym last.order_is)
      (tries_take retry p none_tried last.first last.later last.leaf b (subst (OnSpots p) last.order_is last.on_spots) last.risk last.safe takes tt))
      (λ tried h. on_by SomeAndAllRisked tried.found (map (spot_in p) tried.failed) (map (spot_in p) (leaves_of s p)) tried so_far _
      (λ x f. ((x, refl), more_risked so_far (map (spot_in p) tried.failed) so (failed_risked p tried h.1)))
      (λ f. absurd (some_none tried.found h.0.0 h.0.1 f)))
  pass_takes retry so_far (q ∷ front) rest p last b risk takes so =
      spares_then (λ (tried : Tried ℕ). Risked q tried.failed) SomeAndAllRisked (place_reading s retry good len q) _
      (tries_risked retry q none_tried (order q) risk.0.0 risk.0.1 tt)
      (λ tried h. on_by SomeAndAllRisked tried.found (map (spot_in q) tried.failed) (map (spot_in q) (leaves_of s q)) tried so_far _
      (λ x f. ((x, refl), more_risked so_far (map (spot_in q) tried.failed) so (failed_risked q tried h)))
      (λ f. pass_takes retry (next_pass (map (spot_in q) (leaves_of s q)) tried so_far) front rest p last b risk.1 takes (more_risked so_far (map (spot_in q) (leaves_of s q)) so risk.0.2)))

  -- ---- a block

  abbrev Anyhow : Answer → Type 0
  Anyhow a = Unit {0}

  stores_spare : (retry : Bool) (bytes : List ℕ) (so_far : List (Option Errno)) (those : List Spot) → AllRisked those → Spares Anyhow (store_each retry bytes so_far those >>= λ errors. Ends (Ok bytes))
  stores_spare retry bytes so_far [] h = tt
  stores_spare retry bytes so_far (t ∷ those) h = (h.0, λ answer. stores_spare retry bytes (so_far ++ error_of answer ∷ []) those h.1)

  last_spares : (found : Option (List ℕ)) (pass : Pass) → (found ≡ None) ⊎ AllRisked pass.repairs → Spares Anyhow (last_on found true pass)
  last_spares (Some b) pass (inl e) = absurd (let no : Some b ≡ None = e in cc)
  last_spares (Some b) pass (inr h) = stores_spare true b [] pass.repairs h
  last_spares None pass h = tt

  first_spares : (found : Option (List ℕ)) (pass : Pass) (again : Program Pass) → (found ≡ None) ⊎ AllRisked pass.repairs → (found ≡ None → Spares NoneOrAllRisked again) → Spares Anyhow (first_on found true pass again)
  first_spares (Some b) pass again (inl e) more = absurd (let no : Some b ≡ None = e in cc)
  first_spares (Some b) pass again (inr h) more = stores_spare false b [] pass.repairs h
  first_spares None pass again h more = spares_then NoneOrAllRisked Anyhow again _ (more refl) (λ last k. last_spares last.found last k)

  -- where the first pass found a copy
  pub block_takes_first : (front rest : List Place) (p : Place) (last : IsLast p) (b : List ℕ) → AllByRecursion PlaceRisked front → at_first false (spot_in p last.leaf) ≡ Ok b → Spares Anyhow (block_reading s true good len (front ++ p ∷ rest))
  block_takes_first front rest p last b risk takes =
      spares_then SomeAndAllRisked Anyhow (pass_reading s false good len (front ++ p ∷ rest)) _ (pass_takes false none_passed front rest p last b risk takes tt)
      (λ pass h. first_spares pass.found pass (pass_reading s true good len (front ++ p ∷ rest)) (inr h.1) (λ e. absurd (some_none pass.found h.0.0 h.0.1 e)))

  -- where the retry pass did
  pub block_takes_last : (front rest : List Place) (p : Place) (last : IsLast p) (b : List ℕ) → AllByRecursion PlaceRisked front → Fails false p (last.leaf ∷ last.later) → AllByRecursion (PlaceFails false) rest → at_first true (spot_in p last.leaf) ≡ Ok b
      → Spares Anyhow (block_reading s true good len (front ++ p ∷ rest))
  block_takes_last front rest p last b risk fails others takes =
      spares_then NoneOrAllRisked Anyhow (pass_reading s false good len (front ++ p ∷ rest)) _ (pass_front false none_passed front rest p last risk fails others tt refl)
      (λ pass h. first_spares pass.found pass (pass_reading s true good len (front ++ p ∷ rest)) h
      (λ e. weaker SomeAndAllRisked NoneOrAllRisked _ (λ x k. inr k.1) (pass_takes true none_passed front rest p last b risk takes tt)))

  -- where neither did
  pub block_fails : (places : List Place) → AllByRecursion (PlaceFails false) places → AllByRecursion (PlaceFails true) places → Spares Anyhow (block_reading s true good len places)
  block_fails places first again =
      spares_then (λ (pass : Pass). pass.found ≡ None) Anyhow (pass_reading s false good len places) _ (pass_fails false none_passed places first refl)
      (λ pass e. first_spares pass.found pass (pass_reading s true good len places) (inl e)
      (λ f. weaker (λ (x : Pass). x.found ≡ None) NoneOrAllRisked _ (λ x k. inl k) (pass_fails true none_passed places again refl)))
