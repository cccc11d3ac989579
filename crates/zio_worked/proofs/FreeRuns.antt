-- Whether a top has a free run for a size, by a test of each start.
use Rattle.std.proofs.Common.{◌≡◌, ℕ, zero, suc, ◌+◌, ◌<◌, ◌≤◌, List, length, slice_get, Bool, true, false, ◌&&◌, ◌||◌, not, Option, Some, None, Decides, ⊎_elim, subst, ap, sym, ◌∙◌, ◌%◌, ◌==◌, refl, arith, eqb-true, leb-true, below_more, nat_lt}
use Rattle.std.proofs.lemmas.Bool.{both_ways, and_parts, and_from, or_cases, or_parts, not_from_false, true_from_ne_false, cases_lt}
use Rattle.std.proofs.lemmas.Option.{slice_get_past}
use Rattle.zio_types.specs.declared.place.Place.{Place}
use Rattle.zio_types.specs.declared.place.TopSize.{TopSize}
use Rattle.zio_types.specs.Places.{HasRun, fits_on, fits_size, is_inside, is_below, is_free, sectors_on}

-- ---- numbers below a bound

-- one of the numbers below passes the test
abbrev pub any_below : (ℕ → Bool) → ℕ → Bool
any_below test zero = false
any_below test (suc n) = test n || any_below test n

pub any_below-true : (test : ℕ → Bool) (n : ℕ) → any_below test n ≡ true → (k : ℕ) × (test k ≡ true)
any_below-true test zero e = absurd (both_ways false refl e)
any_below-true test (suc n) e = ⊎_elim (λ here. (n, here)) (any_below-true test n) (or_cases _ _ e)

pub any_below-false : (test : ℕ → Bool) (n : ℕ) → any_below test n ≡ false → (k : ℕ) → k < n → test k ≡ false
any_below-false test zero e k h = absurd (omega (arith, h))
any_below-false test (suc n) e k h =
    let parts = or_parts _ _ e in below_more _ n (any_below-false test n parts.1) parts.0 k (omega (arith, h))

-- ---- the runs of one top

-- the place for a size that begins at this sector of a top
abbrev pub place_at : ℕ → ℕ → TopSize → ℕ → Place
place_at top size t sector = record { top = top; sector = sector; sectors = sectors_on t size }

-- the place fits the size, is inside and is free
abbrev pub is_run : List TopSize → List Place → ℕ → Place → Bool
is_run tops used size p = fits_size tops size p && (is_inside tops p && is_free used p)

abbrev pub has_run_on : List TopSize → List Place → ℕ → ℕ → Option TopSize → Bool
has_run_on tops used top size None = false
has_run_on tops used top size (Some t) = any_below (λ sector. is_run tops used size (place_at top size t sector)) (t.sectors + 1)

abbrev pub has_run : List TopSize → List Place → ℕ → ℕ → Bool
has_run tops used top size = has_run_on tops used top size (slice_get tops top)

run_from : (tops : List TopSize) (used : List Place) (top size : ℕ) (o : Option TopSize) → has_run_on tops used top size o ≡ true → HasRun tops used top size
run_from tops used top size None e = absurd (both_ways false refl e)
run_from tops used top size (Some t) e =
    let found = any_below-true (λ sector. is_run tops used size (place_at top size t sector)) (t.sectors + 1) e in
    let fit = and_parts _ _ found.1 in
    let within = and_parts _ _ fit.1 in
    record { place = place_at top size t found.0; there = refl; fits = fit.0; inside = within.0; free = within.1 }

-- a place that fits there is one of those that are tried
tried : (tops : List TopSize) (used : List Place) (top size : ℕ) (t : TopSize) (p : Place) → slice_get tops top ≡ Some t → p.top ≡ top
    → fits_size tops size p ≡ true → is_inside tops p ≡ true → is_free used p ≡ true → any_below (λ sector. is_run tops used size (place_at top size t sector)) (t.sectors + 1) ≡ false → ⊥
tried tops used top size t p at there fits inside free e =
    let found : slice_get tops p.top ≡ Some t = ap (slice_get tops) there ∙ at in
    let fit : fits_on size p (Some t) ≡ true = subst (λ (o : Option TopSize). fits_on size p o ≡ true) found fits in
    let within : is_below p (Some t) ≡ true = subst (λ (o : Option TopSize). is_below p o ≡ true) found inside in
    let long : p.sectors ≡ sectors_on t size = eqb-true _ _ (and_parts (p.sector % t.unit == 0) _ fit).1 in
    let same : p ≡ place_at top size t p.sector = λ i. record { top = there i; sector = p.sector; sectors = long i } in
    let low : p.sector < t.sectors + 1 = omega (arith, leb-true (p.sector + p.sectors) t.sectors ((and_parts (nat_lt 0 p.sectors) _ within).1)) in
    both_ways (is_run tops used size p) (subst (λ (q : Place). is_run tops used size q ≡ false) (sym same) (any_below-false _ (t.sectors + 1) e p.sector low))
    (and_from _ _ fits (and_from _ _ inside free))

run_is_found : (tops : List TopSize) (used : List Place) (top size : ℕ) (o : Option TopSize) → slice_get tops top ≡ o → HasRun tops used top size → has_run_on tops used top size o ≡ false → ⊥
run_is_found tops used top size None at h e =
    let none : fits_on size h.place None ≡ true = subst (λ (o : Option TopSize). fits_on size h.place o ≡ true) (ap (slice_get tops) h.there ∙ at) h.fits in
    both_ways false refl none
run_is_found tops used top size (Some t) at h e = tried tops used top size t h.place at h.there h.fits h.inside h.free e

-- the test tells whether there is a run
pub has_run-decides : (tops : List TopSize) (used : List Place) (top size : ℕ) → Decides (has_run tops used top size) (HasRun tops used top size)
has_run-decides tops used top size =
    (λ e. run_from tops used top size (slice_get tops top) e, λ h. true_from_ne_false _ (run_is_found tops used top size (slice_get tops top) refl h))

-- ---- the runs of all tops

-- a top that isn't passed over has a free run
abbrev pub has_room : List TopSize → List Place → ℕ → (ℕ → Bool) → Bool
has_room tops used size passed = any_below (λ top. not (passed top) && has_run tops used top size) (length tops)

past_the_tops : (tops : List TopSize) (used : List Place) (top size : ℕ) → length tops ≤ top → ¬ HasRun tops used top size
past_the_tops tops used top size past h =
    both_ways false refl
    (subst (λ (o : Option TopSize). fits_on size h.place o ≡ true) (ap (slice_get tops) h.there ∙ slice_get_past tops top past) h.fits)

run_is_on_a_top : (tops : List TopSize) (used : List Place) (top size : ℕ) → HasRun tops used top size → top < length tops
run_is_on_a_top tops used top size h =
    ⊎_elim (λ on. on) (λ past. absurd (past_the_tops tops used top size past h)) (cases_lt top (length tops))

-- where the test finds none, no top has a run but for those that are passed over
pub no_room : (tops : List TopSize) (used : List Place) (size : ℕ) (passed : ℕ → Bool) → has_room tops used size passed ≡ false → (top : ℕ) → passed top ≡ false → ¬ HasRun tops used top size
no_room tops used size passed e top counted h =
    both_ways _
    (any_below-false (λ t. not (passed t) && has_run tops used t size) (length tops) e top (run_is_on_a_top tops used top size h))
    (and_from _ _ (not_from_false _ counted) ((has_run-decides tops used top size).1 h))
