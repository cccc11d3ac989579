-- Which places are open beside those in use, by how many of them have each sector; so are those that a round found.
use Rattle.std.proofs.Common.{◌≡◌, ℕ, zero, suc, ◌+◌, ◌<◌, ◌≤◌, List, [], ◌∷◌, ◌++◌, Option, Some, None, inl, inr, refl, sym, ap, ◌∙◌, subst, arith}
use Rattle.std.specs.Prelude.{Bool, true, false, cond, ◌⊎◌, nat_le, nat_lt, slice_get, Contains, IsTrue}
use Rattle.std.specs.List.{AllByRecursion, list_all}
use Rattle.std.proofs.lemmas.Bool.{and_from, and_parts, false≢true, ltb-true}
use Rattle.std.proofs.lemmas.List.{append-nil}
use Rattle.zio_types.specs.declared.place.Place.{Place}
use Rattle.zio_types.specs.declared.place.TopSize.{TopSize}
use Rattle.zio_types.specs.Choices.{Choice, is_refused, taken_by}
use Rattle.zio_types.specs.Places.{AreCopies, are_apart, are_open, end_of, is_below, is_aligned, is_free, is_inside}
use Rattle.zio_places.specs.Ordered.{is_same_place}
use Rattle.zio_places.specs.Spaces.{SpaceState}
use Rattle.zio_places.specs.Tables.{cover_count, covers, one_if, total}
use Rattle.zio_places.proofs.PlaceLemmas.{contains-place_count, counts-from_is_free, covers-from, covers-parts, is_free-from_counts, is_same_place-true, place_count, total-append}
use Rattle.zio_cksum.proofs.AllLemmas.{all_append, all_contained, all_contains, all_weaker}
use Rattle.zio_gang.specs.Attempts.{Terms}
use Rattle.zio_gang.specs.Journals.{AreLawful}
use Rattle.zio_gang.specs.Trees.{sizes_of}
use Rattle.zio_types.specs.declared.place.Top.{Top}
use Rattle.zio_turns.specs.Desks.{IsDeskAt, taken_by_all}
use Rattle.zio_turns.specs.Ledgers.{AreOnce, found_so_far}
use Rattle.zio_turns.proofs.DeskCalls.{lawful_answers}
use Rattle.zio_turns.proofs.PlaceTotals.{contained}

-- ---- sector by sector

-- of these places at most one has the sector, and none where one in use has it
pub record IsClear (used xs : List Place) (top sector : ℕ) : Type 0 where
  pub few : cover_count xs top sector ≤ 1
  pub apart : (cover_count xs top sector ≡ 0) ⊎ (cover_count used top sector ≡ 0)

abbrev pub AreClear : List Place → List Place → Type 0
AreClear used xs = (top sector : ℕ) → IsClear used xs top sector

none_clear : (used : List Place) → AreClear used []
none_clear used top sector = record { few = omega arith; apart = inl refl }

-- a place that is free has none of the sectors
free_none : (used : List Place) (p : Place) (top sector : ℕ) → is_free used p ≡ true → covers p top sector ≡ true
    → cover_count used top sector ≡ 0
free_none used p top sector free on =
    let c = covers-parts p top sector on in
    subst (λ (t : ℕ). cover_count used t sector ≡ 0) c.top
    (counts-from_is_free used p sector free (subst (λ (t : ℕ). covers p t sector ≡ true) (sym c.top) on))

clear_more : (used xs : List Place) (p : Place) (top sector : ℕ)
    → (covers p top sector ≡ true → (cover_count used top sector ≡ 0) × (cover_count xs top sector ≡ 0))
    → IsClear used xs top sector → IsClear used (p ∷ xs) top sector
clear_more used xs p top sector h k = by (covers p top sector) refl
  where
    by : (b : Bool) → covers p top sector ≡ b → IsClear used (p ∷ xs) top sector
    by true on =
        let both = h on in
        let one : one_if (covers p top sector) ≡ 1 = ap one_if on in
        record { few = omega (arith, both.1, one); apart = inr both.0 }
    by false off =
        let none : one_if (covers p top sector) ≡ 0 = ap one_if off in
        record {
          few = omega (arith, none, k.few);
          apart = elim k.apart [ inl a ↦ inl (omega (arith, none, a)) | inr b ↦ inr b ];
        }

-- so are fewer
pub fewer_clear : (used xs ys : List Place) → ((w : Place → ℕ) → total w xs ≤ total w ys) → AreClear used ys → AreClear used xs
fewer_clear used xs ys less h top sector =
    let l : cover_count xs top sector ≤ cover_count ys top sector = less (λ p. one_if (covers p top sector)) in
    let c = h top sector in
    record {
      few = omega (arith, l, c.few);
      apart = elim c.apart [ inl none ↦ inl (omega (arith, l, none)) | inr none ↦ inr none ];
    }

both_clear : (used xs ys : List Place) (top sector : ℕ) → IsClear used xs top sector → IsClear (xs ++ used) ys top sector
    → IsClear used (xs ++ ys) top sector
both_clear used xs ys top sector h k =
    let w : Place → ℕ = λ p. one_if (covers p top sector) in
    let all : cover_count (xs ++ ys) top sector ≡ cover_count xs top sector + cover_count ys top sector = total-append w xs ys in
    let beside : cover_count (xs ++ used) top sector ≡ cover_count xs top sector + cover_count used top sector =
    total-append w xs used in
    elim k.apart [
      | inl none ↦ record {
        few = omega (arith, all, none, h.few);
        apart = elim h.apart [ inl own ↦ inl (omega (arith, all, none, own)) | inr free ↦ inr free ];
      }
      | inr none ↦ record { few = omega (arith, all, beside, none, k.few); apart = inr (omega (arith, beside, none)) }
    ]

-- ---- open places

pub open_clear : (used xs : List Place) → are_open used xs ≡ true → AreClear used xs
open_clear used [] h = none_clear used
open_clear used (x ∷ xs) h = λ top sector.
    let parts = and_parts (list_all (is_free used) (x ∷ xs)) (are_apart (x ∷ xs)) h in
    let own = and_parts (is_free used x) (list_all (is_free used) xs) parts.0 in
    let apart = and_parts (is_free xs x) (are_apart xs) parts.1 in
    clear_more used xs x top sector (λ on. (free_none used x top sector own.0 on, free_none xs x top sector apart.0 on))
    (open_clear used xs (and_from (list_all (is_free used) xs) (are_apart xs) own.1 apart.1) top sector)

clear_free : (used xs : List Place) (x : Place) → AreClear used (x ∷ xs) → (is_free used x ≡ true) × (is_free xs x ≡ true)
clear_free used xs x h = (
  is_free-from_counts used x (λ sector on.
      let c = h x.top sector in
      let one : one_if (covers x x.top sector) ≡ 1 = ap one_if on in
      elim c.apart [ inl none ↦ absurd (omega (arith, none, one)) | inr none ↦ none ]),
  is_free-from_counts xs x (λ sector on.
      let c = h x.top sector in
      let one : one_if (covers x x.top sector) ≡ 1 = ap one_if on in
      omega (arith, c.few, one)),
)

pub clear_open : (used xs : List Place) → AreClear used xs → are_open used xs ≡ true
clear_open used [] h = refl
clear_open used (x ∷ xs) h =
    let rest = clear_open used xs (fewer_clear used xs (x ∷ xs) (λ w. omega arith) h) in
    let parts = and_parts (list_all (is_free used) xs) (are_apart xs) rest in
    let own = clear_free used xs x h in
    and_from (list_all (is_free used) (x ∷ xs)) (are_apart (x ∷ xs))
    (and_from (is_free used x) (list_all (is_free used) xs) own.0 parts.0)
    (and_from (is_free xs x) (are_apart xs) own.1 parts.1)

-- ---- what lawful entries took

copies_clear : (tops : List TopSize) (used : List Place) (size : ℕ) (earlier places : List Place) → AreCopies tops used size earlier places
    → AreClear (earlier ++ used) places
copies_clear tops used size earlier [] h = none_clear (earlier ++ used)
copies_clear tops used size earlier (p ∷ places) h = λ top sector.
    let w : Place → ℕ = λ q. one_if (covers q top sector) in
    let rest : IsClear ((earlier ++ p ∷ []) ++ used) places top sector =
    copies_clear tops used size (earlier ++ p ∷ []) places h.1 top sector in
    let all : cover_count ((earlier ++ p ∷ []) ++ used) top sector ≡ cover_count (earlier ++ used) top sector + one_if (covers p top sector) =
    omega (arith, total-append w (earlier ++ p ∷ []) used, total-append w earlier (p ∷ []), total-append w earlier used) in
    clear_more (earlier ++ used) places p top sector
    (λ on. (
      free_none (earlier ++ used) p top sector h.0.free on,
      elim rest.apart [
        | inl none ↦ none
        | inr none ↦ let one : one_if (covers p top sector) ≡ 1 = ap one_if on in absurd (omega (arith, all, none, one))
      ],
    ))
    (record {
      few = rest.few;
      apart = elim rest.apart [ inl none ↦ inl none | inr none ↦ inr (omega (arith, all, none)) ];
    })

taken_clear : (refused : Bool) (used places : List Place) → AreClear used places → AreClear used (cond refused [] places)
taken_clear true used places h = none_clear used
taken_clear false used places h = h

lawful_clear : (tops : List TopSize) (used : List Place) (es : List Choice) → AreLawful tops used es → AreClear used (taken_by_all es)
lawful_clear tops used [] h = none_clear used
lawful_clear tops used (e ∷ es) h = λ top sector.
    both_clear used (taken_by e) (taken_by_all es) top sector
    (taken_clear (is_refused e) used e.places (copies_clear tops used e.asked.size [] e.places h.0.copies) top sector)
    (lawful_clear tops (taken_by e ++ used) es h.1 top sector)

abbrev IsIn : List TopSize → Place → Type 0
IsIn tops p = IsTrue (is_inside tops p)

taken_inside : (refused : Bool) (tops : List TopSize) (places : List Place) → AllByRecursion (IsIn tops) places
    → AllByRecursion (IsIn tops) (cond refused [] places)
taken_inside true tops places h = tt
taken_inside false tops places h = h

lawful_inside : (tops : List TopSize) (used : List Place) (es : List Choice) → AreLawful tops used es
    → AllByRecursion (IsIn tops) (taken_by_all es)
lawful_inside tops used [] h = tt
lawful_inside tops used (e ∷ es) h =
    all_append (IsIn tops) (taken_by e) (taken_by_all es)
    (taken_inside (is_refused e) tops e.places (lawful_answers tops tops used e refl h.0).inside)
    (lawful_inside tops (taken_by e ++ used) es h.1)

-- ---- what a round found

pub found_clear : (t : Terms) (entries : List Choice) (claimed back : List Place) (tops : List Top) (st : SpaceState)
    → IsDeskAt t entries claimed back tops st → AreClear t.used (found_so_far entries claimed)
found_clear t entries claimed back tops st h = elim h.either [
  | inl none ↦ subst (λ (ps : List Place). AreClear t.used ps)
      (sym (ap (λ (es : List Choice). claimed ++ taken_by_all es) none ∙ append-nil claimed)) (open_clear t.used claimed h.claim.free)
  | inr none ↦ subst (λ (ps : List Place). AreClear t.used (ps ++ taken_by_all entries)) (sym none)
      (lawful_clear (sizes_of t.setting.tops) t.used entries h.desk.lawful)
]

pub found_inside : (t : Terms) (entries : List Choice) (claimed back : List Place) (tops : List Top) (st : SpaceState)
    → IsDeskAt t entries claimed back tops st
    → AllByRecursion (λ (p : Place). IsTrue (is_inside (sizes_of t.setting.tops) p)) (found_so_far entries claimed)
found_inside t entries claimed back tops st h =
    let sizes : List TopSize = sizes_of t.setting.tops in
    all_append (IsIn sizes) claimed (taken_by_all entries)
    (all_weaker (λ (p : Place). IsTrue (is_inside sizes p) × IsTrue (is_aligned sizes p)) (IsIn sizes) claimed (λ p both. both.0) h.claim.inside)
    (lawful_inside sizes t.used entries h.desk.lawful)

-- ---- none of them stands twice

some_below : (p : Place) (o : Option TopSize) → IsTrue (is_below p o) → 0 < p.sectors
some_below p None h = absurd (false≢true h)
some_below p (Some top) h = ltb-true 0 p.sectors (and_parts (nat_lt 0 p.sectors) (nat_le (end_of p) top.sectors) h).0

same_less : (p : Place) (xs : List Place) (top sector : ℕ) → covers p top sector ≡ true → place_count p xs ≤ cover_count xs top sector
same_less p [] top sector on = omega arith
same_less p (x ∷ xs) top sector on = by (is_same_place p x) refl (same_less p xs top sector on)
  where
    by : (b : Bool) → is_same_place p x ≡ b → place_count p xs ≤ cover_count xs top sector
        → place_count p (x ∷ xs) ≤ cover_count (x ∷ xs) top sector
    by true same rest =
        let here : one_if (is_same_place p x) ≡ 1 = ap one_if same in
        let there : one_if (covers x top sector) ≡ 1 =
        ap one_if (subst (λ (q : Place). covers q top sector ≡ true) (is_same_place-true p x same) on) in
        omega (arith, here, there, rest)
    by false other rest =
        let here : one_if (is_same_place p x) ≡ 0 = ap one_if other in omega (arith, here, rest)

pub once_all : (tops : List TopSize) (used found : List Place) → AreOnce used → AreClear used found
    → AllByRecursion (λ (p : Place). IsTrue (is_inside tops p)) found → AreOnce (used ++ found)
once_all tops used found once clear inside p = by (place_count p found) refl
  where
    w : Place → ℕ
    w = λ q. one_if (is_same_place p q)

    both : place_count p (used ++ found) ≡ place_count p used + place_count p found
    both = total-append w used found

    by : (n : ℕ) → place_count p found ≡ n → place_count p (used ++ found) ≤ 1
    by zero e = let o : place_count p used ≤ 1 = once p in let all = both in omega arith
    by (suc n) e =
        let all = both in
        let there : Contains found p = contains-place_count p found (omega (arith, e)) in
        let some : 0 < p.sectors = some_below p (slice_get tops p.top) (all_contains (IsIn tops) found p inside there) in
        let on : covers p p.top p.sector ≡ true = covers-from p p.top p.sector refl (omega arith) (omega (arith, some)) in
        let c = clear p.top p.sector in
        let few = c.few in
        let mine = same_less p found p.top p.sector on in
        let theirs = same_less p used p.top p.sector on in
        elim c.apart [ inl none ↦ absurd (omega arith) | inr none ↦ omega arith ]

-- what was made of what was found is inside the tops
pub made_inside : (tops : List TopSize) (made found : List Place) → ((w : Place → ℕ) → total w made ≤ total w found)
    → AllByRecursion (λ (p : Place). IsTrue (is_inside tops p)) found → AllByRecursion (λ (p : Place). IsTrue (is_inside tops p)) made
made_inside tops made found less h =
    all_weaker (Contains made) (IsIn tops) made (λ p c. all_contains (IsIn tops) found p h (contained made found less p c)) (all_contained made)
