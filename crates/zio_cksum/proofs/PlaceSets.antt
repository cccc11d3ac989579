-- Lists of the same places, with others behind them.
use Rattle.std.proofs.Common.{◌≡◌, ℕ, List, [], ◌∷◌, ◌++◌, inl, inr, Bool, not, refl, sym, subst}
use Rattle.zio_types.specs.declared.place.TopSize.{TopSize}
use Rattle.std.specs.List.{AllByRecursion, list_all}
use Rattle.std.proofs.lemmas.Bool.{and_from, and_parts}
use Rattle.zio_cksum.proofs.AllLemmas.{all_contained, all_contains, all_weaker}
use Rattle.zio_types.specs.Choices.{Choice}
use Rattle.zio_types.specs.Places.{AreCopies, HasRun, IsLawfulChoice, is_free, meets}
use Rattle.std.specs.Prelude.{Contains, IsPermutation, IsTrue}
use Rattle.std.proofs.lemmas.List.Sorted.{Contains-permutation, IsPermutation-sym}
use Rattle.std.proofs.lemmas.List.Elements.{Contains-append_left, Contains-append_right, Contains-append_cases}
use Rattle.zio_types.specs.declared.place.Place.{Place}
use Rattle.zio_types.specs.Places.{SamePlaces}

one_way : (xs ys zs : List Place) → ((p : Place) → Contains xs p → Contains ys p) → (p : Place) → Contains (xs ++ zs) p → Contains (ys ++ zs) p
one_way xs ys zs h p there = elim (Contains-append_cases xs zs p there) [
  | inl front ↦ Contains-append_left ys zs p (h p front)
  | inr back ↦ Contains-append_right ys zs p back
]

pub SamePlaces-append : (xs ys zs : List Place) → SamePlaces xs ys → SamePlaces (xs ++ zs) (ys ++ zs)
SamePlaces-append xs ys zs h p =
    (one_way xs ys zs (λ q. (h q).0) p, one_way ys xs zs (λ q. (h q).1) p)

behind_one_way : (xs ys zs : List Place) → ((p : Place) → Contains xs p → Contains ys p) → (p : Place) → Contains (zs ++ xs) p → Contains (zs ++ ys) p
behind_one_way xs ys zs h p there = elim (Contains-append_cases zs xs p there) [
  | inl front ↦ Contains-append_left zs ys p front
  | inr back ↦ Contains-append_right zs ys p (h p back)
]

-- lists of the same places behind others
pub SamePlaces-behind : (xs ys zs : List Place) → SamePlaces xs ys → SamePlaces (zs ++ xs) (zs ++ ys)
SamePlaces-behind xs ys zs h p =
    (behind_one_way xs ys zs (λ q. (h q).0) p, behind_one_way ys xs zs (λ q. (h q).1) p)

pub SamePlaces-then : (xs ys zs : List Place) → SamePlaces xs ys → SamePlaces ys zs → SamePlaces xs zs
SamePlaces-then xs ys zs h k p = (λ c. (k p).0 ((h p).0 c), λ c. (h p).1 ((k p).1 c))

pub SamePlaces-back : (xs ys : List Place) → SamePlaces xs ys → SamePlaces ys xs
SamePlaces-back xs ys h p = ((h p).1, (h p).0)

pub SamePlaces-equal : (xs ys : List Place) → xs ≡ ys → SamePlaces xs ys
SamePlaces-equal xs ys e p = (λ c. subst (λ (zs : List Place). Contains zs p) e c, λ c. subst (λ (zs : List Place). Contains zs p) (sym e) c)

-- the same in another order
pub SamePlaces-moved : (xs ys : List Place) → IsPermutation xs ys → SamePlaces xs ys
SamePlaces-moved xs ys moved p = (Contains-permutation xs ys p moved, Contains-permutation ys xs p (IsPermutation-sym xs ys moved))

-- ---- the law of a choice beside the same places

pub all_pass : (test : Place → Bool) (xs : List Place) → IsTrue (list_all test xs) → AllByRecursion (λ p. IsTrue (test p)) xs
all_pass test [] h = tt
all_pass test (x ∷ xs) h = let parts = and_parts (test x) (list_all test xs) h in (parts.0, all_pass test xs parts.1)

pub pass_all : (test : Place → Bool) (xs : List Place) → AllByRecursion (λ p. IsTrue (test p)) xs → IsTrue (list_all test xs)
pass_all test [] h = refl
pass_all test (x ∷ xs) h = and_from (test x) (list_all test xs) h.0 (pass_all test xs h.1)

passes_each : (test : Place → Bool) (used xs : List Place) → IsTrue (list_all test used) → AllByRecursion (Contains used) xs → AllByRecursion (λ p. IsTrue (test p)) xs
passes_each test used xs h within =
    all_weaker (Contains used) (λ p. IsTrue (test p)) xs (λ p there. all_contains (λ q. IsTrue (test q)) used p (all_pass test used h) there) within

pub contained_all : (xs ys : List Place) → SamePlaces xs ys → AllByRecursion (Contains xs) ys
contained_all xs ys h = all_weaker (Contains ys) (Contains xs) ys (λ p there. (h p).1 there) (all_contained ys)

pub free_same : (xs ys : List Place) (p : Place) → SamePlaces xs ys → IsTrue (is_free xs p) → IsTrue (is_free ys p)
free_same xs ys p same h =
    pass_all (λ q. not (meets p q)) ys (passes_each (λ q. not (meets p q)) xs ys h (contained_all xs ys same))

run_same : (tops : List TopSize) (xs ys : List Place) (top size : ℕ) → SamePlaces xs ys → HasRun tops xs top size → HasRun tops ys top size
run_same tops xs ys top size same run = record {
  place = run.place;
  there = run.there;
  fits = run.fits;
  inside = run.inside;
  free = free_same xs ys run.place same run.free;
}

copies_same : (tops : List TopSize) (xs ys : List Place) (size : ℕ) (earlier places : List Place) → SamePlaces xs ys
    → AreCopies tops xs size earlier places → AreCopies tops ys size earlier places
copies_same tops xs ys size earlier [] same h = tt
copies_same tops xs ys size earlier (p ∷ places) same h = (
  record {
    fits = h.0.fits;
    inside = h.0.inside;
    free = free_same (earlier ++ xs) (earlier ++ ys) p (SamePlaces-behind xs ys earlier same) h.0.free;
    spread = λ uses top unused run. h.0.spread uses top unused
        (run_same tops (earlier ++ ys) (earlier ++ xs) top size (SamePlaces-back (earlier ++ xs) (earlier ++ ys) (SamePlaces-behind xs ys earlier same)) run);
  },
  copies_same tops xs ys size (earlier ++ p ∷ []) places same h.1,
)

pub lawful_same : (tops : List TopSize) (xs ys : List Place) (c : Choice) → SamePlaces xs ys → IsLawfulChoice tops xs c → IsLawfulChoice tops ys c
lawful_same tops xs ys c same lawful = record {
  found = lawful.found;
  copies = copies_same tops xs ys c.asked.size [] c.places same lawful.copies;
  refused = λ few top run. lawful.refused few top
      (run_same tops (c.places ++ ys) (c.places ++ xs) top c.asked.size (SamePlaces-back (c.places ++ xs) (c.places ++ ys) (SamePlaces-behind xs ys c.places same)) run);
}
