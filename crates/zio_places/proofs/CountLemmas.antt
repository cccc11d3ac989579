-- Tables that count the used places answer for them: whether a place is inside, whether it is free.
use Rattle.std.proofs.Common.{◌≡◌, ℕ, zero, suc, ◌+◌, ◌<◌, ◌≤◌, List, [], ◌∷◌, ◌++◌, length, get_or, take, drop, refl, sym, ap, ◌∙◌, arith}
use Rattle.std.specs.Prelude.{Bool, true, not, ◌&&◌, slice_get, nat_lt, nat_le}
use Rattle.std.specs.List.{list_all}
use Rattle.std.proofs.lemmas.Bool.{false≢true, and_parts, and_from, lt-ltb, ltb-true, le-leb, leb-true}
use Rattle.std.proofs.lemmas.List.{take-append-drop, drop_more}
use Rattle.std.proofs.lemmas.List.Folds.{list_all-append}
use Rattle.zio_types.specs.declared.place.Place.{Place}
use Rattle.zio_types.specs.Places.{end_of, meets, is_below, is_inside, is_free, are_apart, are_open}
use Rattle.zio_places.specs.Tables.{TopState, top_at, sizes_of, covers, one_if, AreBitmapsOf, HaveEqualLengths, HasFlags, AreAllocated}
use Rattle.zio_places.proofs.PlaceLemmas.{total-append, covers-from, covers-parts, is_free-from_counts, counts-from_is_free, meets-symmetric}
use Rattle.zio_places.proofs.ChangeLemmas.{taken_in-free, taken_in-zero}

below-parts : (p : Place) (tops : List TopState) (top : ℕ) → is_below p (slice_get (sizes_of tops) top) ≡ true → (0 < p.sectors) × (end_of p ≤ length (top_at tops top).lengths)
below-parts p [] top h = absurd (false≢true h)
below-parts p (t ∷ tops) zero h =
    let parts = and_parts (nat_lt 0 p.sectors) (nat_le (end_of p) (length t.lengths)) h in
    (ltb-true 0 p.sectors parts.0, leb-true (end_of p) (length t.lengths) parts.1)
below-parts p (t ∷ tops) (suc top) h = below-parts p tops top h

below-from : (p : Place) (tops : List TopState) (top : ℕ) → 0 < p.sectors → end_of p ≤ length (top_at tops top).lengths → is_below p (slice_get (sizes_of tops) top) ≡ true
below-from p [] top filled h = absurd (omega (arith, filled, h))
below-from p (t ∷ tops) zero filled h = and_from (nat_lt 0 p.sectors) (nat_le (end_of p) (length t.lengths)) (lt-ltb 0 p.sectors filled) (le-leb (end_of p) (length t.lengths) h)
below-from p (t ∷ tops) (suc top) filled h = below-from p tops top filled h

-- a place inside has sectors, all of its top
pub inside-parts : (tops : List TopState) (p : Place) → is_inside (sizes_of tops) p ≡ true → (0 < p.sectors) × (end_of p ≤ length (top_at tops p.top).lengths)
inside-parts tops p h = below-parts p tops p.top h

pub inside-from : (tops : List TopState) (p : Place) → 0 < p.sectors → end_of p ≤ length (top_at tops p.top).lengths → is_inside (sizes_of tops) p ≡ true
inside-from tops p filled h = below-from p tops p.top filled h

-- ---- free flags and free places
pub is_free-from_flags : (used : List Place) (tops : List TopState) (p : Place) → AreBitmapsOf used tops → HasFlags tops p true → is_free used p ≡ true
is_free-from_flags used tops p count h =
    is_free-from_counts used p (λ sector mine.
    let c = covers-parts p p.top sector mine in
    count p.top sector ∙ taken_in-free (top_at tops p.top).free sector (h.flags.each sector c.from c.to))

pub flags-from_is_free : (used : List Place) (tops : List TopState) (p : Place) → AreBitmapsOf used tops → HaveEqualLengths tops → is_inside (sizes_of tops) p ≡ true → is_free used p ≡ true → HasFlags tops p true
flags-from_is_free used tops p count even inside free =
    let parts = inside-parts tops p inside in
    let fits : p.sector + p.sectors ≤ length (top_at tops p.top).free = omega (arith, parts.1, even p.top) in
    record {
      filled = parts.0;
      flags = record {
        fits = fits;
        each = λ k a b.
            taken_in-zero (top_at tops p.top).free k (omega (arith, fits, b))
            (sym (count p.top k) ∙ counts-from_is_free used p k free (covers-from p p.top k refl a b));
      };
    }

pub inside-from_flags : (tops : List TopState) (p : Place) (flag : Bool) → HaveEqualLengths tops → HasFlags tops p flag → is_inside (sizes_of tops) p ≡ true
inside-from_flags tops p flag even h = inside-from tops p h.filled (omega (arith, h.flags.fits, even p.top))

pub AreBitmapsOf-allocate : (used : List Place) (old new : List TopState) (places : List Place) → AreBitmapsOf used old → AreAllocated old new places → AreBitmapsOf (places ++ used) new
AreBitmapsOf-allocate used old new places count h top sector =
    omega (arith, total-append (λ p. one_if (covers p top sector)) places used, count top sector, h.taken top sector)

-- ---- places that are free one after another
is_free-append : (xs ys : List Place) (p : Place) → is_free (xs ++ ys) p ≡ (is_free xs p && is_free ys p)
is_free-append xs ys p = list_all-append (λ q. not (meets p q)) xs ys

apart-push : (xs : List Place) (p : Place) → are_apart xs ≡ true → is_free xs p ≡ true → are_apart (xs ++ p ∷ []) ≡ true
apart-push [] p h free = refl
apart-push (x ∷ xs) p h free =
    let parts = and_parts (is_free xs x) (are_apart xs) h in
    let both = and_parts (not (meets p x)) (is_free xs p) free in
    let turned : not (meets x p) ≡ true = ap not (meets-symmetric x p) ∙ both.0 in
    and_from (is_free (xs ++ p ∷ []) x) (are_apart (xs ++ p ∷ []))
    (is_free-append xs (p ∷ []) x ∙ and_from (is_free xs x) (is_free (p ∷ []) x) parts.0 (and_from (not (meets x p)) true turned refl))
    (apart-push xs p parts.1 both.1)

-- one more is free beside the used ones and those before it
pub are_open-push : (used xs : List Place) (p : Place) → are_open used xs ≡ true → is_free (xs ++ used) p ≡ true → are_open used (xs ++ p ∷ []) ≡ true
are_open-push used xs p h free =
    let parts = and_parts (list_all (is_free used) xs) (are_apart xs) h in
    let both = and_parts (is_free xs p) (is_free used p) (sym (is_free-append xs used p) ∙ free) in
    and_from (list_all (is_free used) (xs ++ p ∷ [])) (are_apart (xs ++ p ∷ []))
    (list_all-append (is_free used) xs (p ∷ []) ∙ and_from (list_all (is_free used) xs) (list_all (is_free used) (p ∷ [])) parts.0 (and_from (is_free used p) true both.1 refl))
    (apart-push xs p parts.1 both.0)

apart-front : (xs ys : List Place) (p : Place) → are_apart (xs ++ p ∷ ys) ≡ true → is_free xs p ≡ true
apart-front [] ys p h = refl
apart-front (x ∷ xs) ys p h =
    let parts = and_parts (is_free (xs ++ p ∷ ys) x) (are_apart (xs ++ p ∷ ys)) h in
    let ends = and_parts (is_free xs x) (is_free (p ∷ ys) x) (sym (is_free-append xs (p ∷ ys) x) ∙ parts.0) in
    let mine = and_parts (not (meets x p)) (is_free ys x) ends.1 in
    and_from (not (meets p x)) (is_free xs p) (ap not (meets-symmetric p x) ∙ mine.0) (apart-front xs ys p parts.1)

-- where all are open, so is each beside those before it
pub are_open-front : (used xs ys : List Place) (p : Place) → are_open used (xs ++ p ∷ ys) ≡ true → is_free (xs ++ used) p ≡ true
are_open-front used xs ys p h =
    let parts = and_parts (list_all (is_free used) (xs ++ p ∷ ys)) (are_apart (xs ++ p ∷ ys)) h in
    let free = and_parts (list_all (is_free used) xs) (list_all (is_free used) (p ∷ ys)) (sym (list_all-append (is_free used) xs (p ∷ ys)) ∙ parts.0) in
    let mine = and_parts (is_free used p) (list_all (is_free used) ys) free.1 in
    is_free-append xs used p ∙ and_from (is_free xs p) (is_free used p) (apart-front xs ys p parts.1) mine.0

-- a list in front of, at and behind one of its places
pub places-at : (xs : List Place) (i : ℕ) (d : Place) → i < length xs → xs ≡ take i xs ++ get_or xs i d ∷ drop (i + 1) xs
places-at xs i d h = sym (take-append-drop i xs) ∙ ap (λ ys. take i xs ++ ys) (drop_more xs i d h)

pub list_all-at : (test : Place → Bool) (xs : List Place) (i : ℕ) (d : Place) → i < length xs → list_all test xs ≡ true → test (get_or xs i d) ≡ true
list_all-at test xs i d h all =
    let split : list_all test (take i xs ++ get_or xs i d ∷ drop (i + 1) xs) ≡ true = ap (list_all test) (sym (places-at xs i d h)) ∙ all in
    let parts = and_parts (list_all test (take i xs)) (list_all test (get_or xs i d ∷ drop (i + 1) xs)) (sym (list_all-append test (take i xs) (get_or xs i d ∷ drop (i + 1) xs)) ∙ split) in
    (and_parts (test (get_or xs i d)) (list_all test (drop (i + 1) xs)) parts.1).0
