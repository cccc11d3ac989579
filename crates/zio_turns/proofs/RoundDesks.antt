-- What the space of a round holds after some calls.
use Rattle.std.proofs.Common.{◌≡◌, ◌≤◌, List, [], ◌∷◌, ◌++◌, append_assoc, refl, sym, ap, subst, ◌∙◌, arith}
use Rattle.std.specs.Prelude.{Bool, true, false, ◌&&◌, not, Contains, IsTrue}
use Rattle.std.specs.List.{AllByRecursion, list_all}
use Rattle.std.proofs.lemmas.Bool.{and_from, and_parts}
use Rattle.std.proofs.lemmas.List.{append-nil}
use Rattle.std.proofs.lemmas.List.Concat.{flat_map-append}
use Rattle.zio_types.specs.declared.place.Place.{Place}
use Rattle.zio_types.specs.declared.place.Top.{Top}
use Rattle.zio_types.specs.declared.place.TopSize.{TopSize}
use Rattle.zio_types.specs.Choices.{Choice, taken_by}
use Rattle.zio_types.specs.Places.{SamePlaces, are_apart, are_open, is_free, meets}
use Rattle.zio_places.specs.Spaces.{SpaceState, used}
use Rattle.zio_places.specs.Tables.{total}
use Rattle.zio_places.proofs.PlaceLemmas.{total-append}
use Rattle.zio_cksum.proofs.AllLemmas.{all_contained, all_contains, all_weaker}
use Rattle.zio_gang.specs.Attempts.{Terms}
use Rattle.zio_gang.specs.Journals.{AreLawful}
use Rattle.zio_gang.specs.Trees.{sizes_of}
use Rattle.zio_course.proofs.PlaceLemmas.{SamePlaces-behind, lawful_same}
use Rattle.zio_exchange.specs.SpaceCalls.{Claimed, GaveBack, Placed, SpaceCall}
use Rattle.zio_turns.specs.Desks.{AreAnswered, AreMade, AreRight, IsDeskOf, IsRightCall, MayAsk, after_call, after_calls, bare, choices_in, claims_asked, claims_in, found_by, found_in, taken_by_all}
use Rattle.zio_turns.specs.Desks.MayAsk.{Backs, Claims, Places}
use Rattle.zio_turns.proofs.DeskLemmas.{split_in, used_after, used_call}
use Rattle.zio_turns.proofs.PlaceTotals.{SameTotals, same_by_totals}

-- ---- beside the same places

same_then : (xs ys zs : List Place) → SamePlaces xs ys → SamePlaces ys zs → SamePlaces xs zs
same_then xs ys zs h k p = (λ c. (k p).0 ((h p).0 c), λ c. (h p).1 ((k p).1 c))

all_lawful_same : (sizes : List TopSize) (xs ys : List Place) (cs : List Choice) → SamePlaces xs ys → AreLawful sizes xs cs
    → AreLawful sizes ys cs
all_lawful_same sizes xs ys [] same h = tt
all_lawful_same sizes xs ys (c ∷ cs) same h = (
  lawful_same sizes xs ys c same h.0,
  all_lawful_same sizes (taken_by c ++ xs) (taken_by c ++ ys) cs (SamePlaces-behind xs ys (taken_by c) same) h.1,
)

-- choices that are lawful beside what others took
lawful_then : (sizes : List TopSize) (u now : List Place) (es cs : List Choice) → AreLawful sizes u es → SamePlaces now
    (taken_by_all es ++ u)
    → AreLawful sizes now cs → AreLawful sizes u (es ++ cs)
lawful_then sizes u now [] cs h same k = all_lawful_same sizes now u cs same k
lawful_then sizes u now (e ∷ es) cs h same k =
    let turned : SameTotals ((taken_by e ++ taken_by_all es) ++ u) (taken_by_all es ++ (taken_by e ++ u)) =
    λ f. omega (
      arith,
      total-append f (taken_by e ++ taken_by_all es) u,
      total-append f (taken_by e) (taken_by_all es),
      total-append f (taken_by_all es) (taken_by e ++ u),
      total-append f (taken_by e) u,
    ) in (
      h.0,
      lawful_then sizes (taken_by e ++ u) now es cs h.1
          (same_then now ((taken_by e ++ taken_by_all es) ++ u) (taken_by_all es ++ (taken_by e ++ u)) same
          (same_by_totals ((taken_by e ++ taken_by_all es) ++ u) (taken_by_all es ++ (taken_by e ++ u)) turned)) k,
    )

bool_same : (a b : Bool) → (a ≡ true → b ≡ true) → (b ≡ true → a ≡ true) → a ≡ b
bool_same true b h k = sym (h refl)
bool_same false true h k = k refl
bool_same false false h k = refl

all_pass : (test : Place → Bool) (xs : List Place) → list_all test xs ≡ true → AllByRecursion (λ x. IsTrue (test x)) xs
all_pass test [] h = tt
all_pass test (x ∷ xs) h = let parts = and_parts (test x) (list_all test xs) h in (parts.0, all_pass test xs parts.1)

pass_all : (test : Place → Bool) (xs : List Place) → AllByRecursion (λ x. IsTrue (test x)) xs → list_all test xs ≡ true
pass_all test [] h = refl
pass_all test (x ∷ xs) h = and_from (test x) (list_all test xs) h.0 (pass_all test xs h.1)

free_from : (xs ys : List Place) (p : Place) → ((q : Place) → Contains ys q → Contains xs q) → is_free xs p ≡ true
    → is_free ys p ≡ true
free_from xs ys p within h =
    let apart : Place → Bool = λ q. not (meets p q) in
    pass_all apart ys
    (all_weaker (Contains ys) (λ q. IsTrue (apart q)) ys (λ q c. all_contains (λ q. IsTrue (apart q)) xs q
    (all_pass apart xs h) (within q c)) (all_contained ys))

free_same : (xs ys : List Place) (p : Place) → SamePlaces xs ys → is_free xs p ≡ is_free ys p
free_same xs ys p same =
    bool_same (is_free xs p) (is_free ys p) (free_from xs ys p (λ q. (same q).1)) (free_from ys xs p (λ q. (same q).0))

open_same : (xs ys places : List Place) → SamePlaces xs ys → are_open xs places ≡ are_open ys places
open_same xs ys places same = λ i. list_all (λ p. free_same xs ys p same i) places && are_apart places

-- ---- what is in use

used_in_round : (t : Terms) (entries : List Choice) (claimed : List Place) (tops : List Top) (old new : SpaceState)
    (calls : List SpaceCall)
    → IsDeskOf t entries claimed tops old → AreMade calls old new
    → SamePlaces (used new) ((claimed ++ claims_in calls) ++ (taken_by_all (entries ++ choices_in calls) ++ t.used))
used_in_round t entries claimed tops old new calls h m =
    let rest = taken_by_all entries ++ t.used in
    let after = (claimed ++ claims_in calls) ++ (taken_by_all (entries ++ choices_in calls) ++ t.used) in
    let first : SameTotals (used new) (found_in calls ++ used old) =
    λ f. used_after f calls old new m ∙ sym (total-append f (found_in calls) (used old)) in
    let last : SameTotals (found_in calls ++ (claimed ++ rest)) after =
    λ f. let taken : total f (taken_by_all (entries ++ choices_in calls)) ≡ total f
    (taken_by_all entries ++ taken_by_all (choices_in calls)) =
    ap (total f) (flat_map-append taken_by entries (choices_in calls)) in
    omega (
      arith,
      taken,
      split_in f calls,
      total-append f (found_in calls) (claimed ++ rest),
      total-append f claimed rest,
      total-append f (taken_by_all entries) t.used,
      total-append f (claimed ++ claims_in calls) (taken_by_all (entries ++ choices_in calls) ++ t.used),
      total-append f claimed (claims_in calls),
      total-append f (taken_by_all (entries ++ choices_in calls)) t.used,
      total-append f (taken_by_all entries) (taken_by_all (choices_in calls)),
    ) in
    same_then (used new) (found_in calls ++ used old) after (same_by_totals (used new) (found_in calls ++ used old) first)
    (same_then (found_in calls ++ used old) (found_in calls ++ (claimed ++ rest)) after
    (SamePlaces-behind (used old) (claimed ++ rest) (found_in calls) h.used_are)
    (same_by_totals (found_in calls ++ (claimed ++ rest)) after last))

-- ---- entries and sizes

sizes_call : (call : SpaceCall) (st : SpaceState) → (after_call call st).sizes ≡ st.sizes
sizes_call (Placed c) st = refl
sizes_call (GaveBack p) st = refl
sizes_call (Claimed places free) st = refl

sizes_calls : (calls : List SpaceCall) (st : SpaceState) → (after_calls calls st).sizes ≡ st.sizes
sizes_calls [] st = refl
sizes_calls (call ∷ calls) st = sizes_calls calls (after_call call st) ∙ sizes_call call st

entries_calls : (calls : List SpaceCall) (st : SpaceState) → (after_calls calls st).entries ≡ st.entries ++ choices_in calls
entries_calls [] st = sym (append-nil st.entries)
entries_calls (Placed c ∷ calls) st = entries_calls calls (after_call (Placed c) st) ∙ append_assoc st.entries (c ∷ [])
    (choices_in calls)
entries_calls (GaveBack p ∷ calls) st = entries_calls calls (after_call (GaveBack p) st)
entries_calls (Claimed places free ∷ calls) st = entries_calls calls (after_call (Claimed places free) st)

-- the round's space goes on
pub desk_kept : (t : Terms) (entries : List Choice) (claimed : List Place) (tops : List Top) (old new : SpaceState)
    (calls : List SpaceCall)
    → IsDeskOf t entries claimed tops old → AreMade calls old new
    → AreLawful (sizes_of t.setting.tops) t.used (entries ++ choices_in calls)
    → IsDeskOf t (entries ++ choices_in calls) (claimed ++ claims_in calls) tops new
desk_kept t entries claimed tops old new calls h m lawful = record {
  tops_are = h.tops_are;
  sizes_are = ap (λ (s : SpaceState). s.sizes) m.made ∙ (sizes_calls calls (bare old) ∙ h.sizes_are);
  entries_are = ap (λ (s : SpaceState). s.entries) m.made
      ∙ (entries_calls calls (bare old) ∙ ap (λ (es : List Choice). es ++ choices_in calls) h.entries_are);
  used_are = used_in_round t entries claimed tops old new calls h m;
  lawful = lawful;
}

-- ---- which choices are lawful

-- a call that finds no places leaves the same in use
none_found : (call : SpaceCall) (st : SpaceState) → found_by call ≡ [] → SamePlaces (used (after_call call st)) (used st)
none_found call st none = same_by_totals (used (after_call call st)) (used st)
    (λ f. let all : total f (found_by call) ≡ total f [] = ap (total f) none in omega (arith, used_call f call st, all))

found_same : (c : Choice) (st : SpaceState) → SamePlaces (used (after_call (Placed c) st)) (taken_by c ++ used st)
found_same c st = same_by_totals (used (after_call (Placed c) st)) (taken_by c ++ used st)
    (λ f. omega (arith, used_call f (Placed c) st, total-append f (taken_by c) (used st)))

lawful_calls : (calls : List SpaceCall) (st : SpaceState) → AreAnswered calls st → claims_asked calls ≡ 0
    → AreLawful st.sizes (used st) (choices_in calls)
lawful_calls [] st h none = tt
lawful_calls (Placed c ∷ calls) st h none =
    let mid = after_call (Placed c) st in (
      h.0,
      all_lawful_same st.sizes (used mid) (taken_by c ++ used st) (choices_in calls) (found_same c st)
          (lawful_calls calls mid h.1 (omega arith)),
    )
lawful_calls (GaveBack p ∷ calls) st h none =
    let mid = after_call (GaveBack p) st in
    all_lawful_same st.sizes (used mid) (used st) (choices_in calls) (none_found (GaveBack p) st refl)
    (lawful_calls calls mid h.1 (omega arith))
lawful_calls (Claimed places free ∷ calls) st h none = absurd (omega arith)

-- ---- whether claimed places were free

none_asked : (t : Terms) (calls : List SpaceCall) → claims_asked calls ≡ 0 → AllByRecursion (IsRightCall t) calls
none_asked t [] h = tt
none_asked t (Placed c ∷ calls) h = (tt, none_asked t calls (omega arith))
none_asked t (GaveBack p ∷ calls) h = (tt, none_asked t calls (omega arith))
none_asked t (Claimed places free ∷ calls) h = absurd (omega arith)

no_choice : (c : Choice) (cs : List Choice) → c ∷ cs ≡ [] → ⊥
no_choice c cs e = cc

claims_right : (t : Terms) (calls : List SpaceCall) (st : SpaceState) → AreAnswered calls st → SamePlaces (used st) t.used
    → choices_in calls ≡ []
    → claims_asked calls ≤ 1 → AllByRecursion (IsRightCall t) calls
claims_right t [] st h same none few = tt
claims_right t (Placed c ∷ calls) st h same none few = absurd (no_choice c (choices_in calls) none)
claims_right t (GaveBack p ∷ calls) st h same none few = (
  tt,
  claims_right t calls (after_call (GaveBack p) st) h.1
      (same_then (used (after_call (GaveBack p) st)) (used st) t.used (none_found (GaveBack p) st refl) same) none
      (omega arith),
)
claims_right t (Claimed places free ∷ calls) st h same none few =
    (h.0.0 ∙ open_same (used st) t.used places same, none_asked t calls (omega arith))

-- ---- calls are right

-- none of them asked for places for a block
no_choices : (t : Terms) (entries : List Choice) (calls : List SpaceCall) → choices_in calls ≡ [] → AreLawful
    (sizes_of t.setting.tops) t.used entries
    → AreLawful (sizes_of t.setting.tops) t.used (entries ++ choices_in calls)
no_choices t entries calls none lawful =
    subst (AreLawful (sizes_of t.setting.tops) t.used) (sym
    (ap (λ (cs : List Choice). entries ++ cs) none ∙ append-nil entries)) lawful

pub calls_right : (t : Terms) (entries : List Choice) (claimed : List Place) (tops : List Top) (old new : SpaceState)
    (calls : List SpaceCall)
    → IsDeskOf t entries claimed tops old → AreMade calls old new → MayAsk entries claimed calls → AreRight t entries calls
calls_right t entries claimed tops old new calls h m (Places none no_claims) =
    let same : SamePlaces (used old) (taken_by_all entries ++ t.used) =
    subst (λ (ps : List Place). SamePlaces (used old) (ps ++ (taken_by_all entries ++ t.used))) none h.used_are in
    let here : AreLawful (sizes_of t.setting.tops) (used old) (choices_in calls) =
    subst (λ (sizes : List TopSize). AreLawful sizes (used old) (choices_in calls)) h.sizes_are
    (lawful_calls calls (bare old) m.answered no_claims) in
    record {
      claims = none_asked t calls no_claims;
      lawful = lawful_then (sizes_of t.setting.tops) t.used (used old) entries (choices_in calls) h.lawful same here;
    }
calls_right t entries claimed tops old new calls h m (Claims no_entries none no_choices_in few) =
    let same : SamePlaces (used old) t.used =
    subst (λ (es : List Choice). SamePlaces (used old) (taken_by_all es ++ t.used)) no_entries
    (subst (λ (ps : List Place). SamePlaces (used old) (ps ++ (taken_by_all entries ++ t.used))) none h.used_are) in
    record {
      claims = claims_right t calls (bare old) m.answered same no_choices_in few;
      lawful = no_choices t entries calls no_choices_in h.lawful;
    }
calls_right t entries claimed tops old new calls h m (Backs no_choices_in no_claims) = record {
  claims = none_asked t calls no_claims;
  lawful = no_choices t entries calls no_choices_in h.lawful;
}
