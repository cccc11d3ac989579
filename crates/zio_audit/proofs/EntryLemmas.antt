-- Entries that answer asks: what they take, and when all of them were asked for.
use Rattle.std.proofs.Common.{◌≡◌, ◌+◌, ◌≤◌, ℕ, List, [], ◌∷◌, ◌++◌, ◌⊎◌, inl, inr, Bool, true, false, cond, length, find, Contains, Some, refl, sym, ap, subst, ◌∙◌, arith, length-append}
use Rattle.std.specs.Prelude.{IsTrue, OnErr, OnOk, Result, Ok, Err}
use Rattle.std.specs.List.{AllByRecursion}
use Rattle.std.proofs.lemmas.Bool.{and_from, both_ways}
use Rattle.std.proofs.lemmas.List.Elements.{Contains-append_cases, Contains-append_left, Contains-append_right}
use Rattle.zio_types.specs.declared.place.Place.{Place}
use Rattle.zio_types.specs.declared.place.TopSize.{TopSize}
use Rattle.zio_types.specs.Choices.{Ask, Choice, is_refused, same_key, taken_by}
use Rattle.zio_types.specs.Places.{are_apart, is_aligned, is_inside}
use Rattle.zio_places.specs.Spaces.{IsSound, SpaceState, are_on_tops, is_on_top, used}
use Rattle.zio_cksum.proofs.AllLemmas.{all_contains, all_map, all_unmap, all_weaker}
use Rattle.zio_cksum.proofs.PlaceSets.{pass_all}
use Rattle.zio_gang.specs.Journals.{AreChoicesOf, AreLawful, HaveDistinctKeys, asks_of}
use Rattle.zio_gang.proofs.JournalLemmas.{same_key_itself}
use Rattle.zio_blocks.proofs.KeyLemmas.{answered_by_distinct}
use Rattle.zio_blocks.specs.Blocks.{AnswersBy}
use Rattle.zio_blocks.specs.Choosers.{IsFound, IsFoundEntry}
use Rattle.zio_audit.specs.Replays.{unplaced}
use Rattle.zio_audit.proofs.JudgeLemmas.{aligned}
use Rattle.zio_audit.proofs.Members.{all_of, contained_cases, contains_first, contains_later, map_contains, none_contained}

-- ---- what an entry takes

found_top : (tops : List TopSize) (size : ℕ) (p : Place) → IsFound tops size p → IsTrue (is_on_top tops p)
found_top tops size p h = and_from (is_inside tops p) (is_aligned tops p) h.inside (aligned tops size p h.fits)

-- it lies on the tops
pub taken_on : (tops : List TopSize) (c : Choice) → IsFoundEntry tops c → are_on_tops tops (taken_by c) ≡ true
taken_on tops c h = by (is_refused c)
  where
    by : (t : Bool) → are_on_tops tops (cond t [] c.places) ≡ true
    by true = refl
    by false = pass_all (is_on_top tops) c.places (all_weaker (IsFound tops c.asked.size) (λ p. IsTrue (is_on_top tops p)) c.places (found_top tops c.asked.size) h.each)

pub taken_unplaced : (ask : Ask) → taken_by (unplaced ask) ≡ []
taken_unplaced ask = by (is_refused (unplaced ask)) (unplaced ask).places refl
  where
    by : (t : Bool) (places : List Place) → places ≡ [] → cond t [] places ≡ []
    by true places none = refl
    by false places none = none

pub unplaced_found : (tops : List TopSize) (ask : Ask) → IsFoundEntry tops (unplaced ask)
unplaced_found tops ask = record { most = omega arith; each = tt }

-- ---- an entry that is found

found_step : (test : Choice → Bool) (y x : Choice) (ys : List Choice) (t : Bool) → test y ≡ t → cond t (Some y) (find test ys) ≡ Some x → (find test ys ≡ Some x → Contains ys x × (test x ≡ true))
    → Contains (y ∷ ys) x × (test x ≡ true)
found_step test y x ys true is e later = let same : y ≡ x = cc in (subst (Contains (y ∷ ys)) same (contains_first y ys), ap test (sym same) ∙ is)
found_step test y x ys false is e later = let k = later e in (contains_later y ys x k.0, k.1)

pub found_here : (test : Choice → Bool) (xs : List Choice) (x : Choice) → find test xs ≡ Some x → Contains xs x × (test x ≡ true)
found_here test [] x h = absurd (cc)
found_here test (y ∷ ys) x h = found_step test y x ys (test y) refl h (found_here test ys x)

-- ---- either way

-- a space that uses the same places
pub sound_same : (old new : SpaceState) → IsSound old → new.sizes ≡ old.sizes → used new ≡ used old → IsSound new
sound_same old new sound sizes same = record {
  inside = (λ i. are_on_tops (sizes i) (same i)) ∙ sound.inside;
  apart = ap are_apart same ∙ sound.apart;
}

pub either_way : {X Y A : Type 0} (r : Result X Y) → OnOk r A → OnErr r A → A
either_way (Ok x) h k = h
either_way (Err e) h k = k

-- ---- all were asked for

-- the answers of a round are these entries, in whatever order
pub record AreAllAsked (entries given : List Choice) : Type 0 where
  pub answered : AllByRecursion (Contains entries) given
  pub asked : AllByRecursion (Contains given) entries

record IsSplit (x : Choice) (xs : List Choice) : Type 0 where
  front : List Choice
  back : List Choice
  is : xs ≡ front ++ x ∷ back

split_at : (x : Choice) (xs : List Choice) → Contains xs x → IsSplit x xs
split_at x [] there = absurd (none_contained x there)
split_at x (y ∷ ys) there =
    elim (contained_cases y ys x there) [
      | inl same ↦ record { front = []; back = ys; is = ap (λ z. z ∷ ys) same }
      | inr later ↦ let s = split_at x ys later in record { front = y ∷ s.front; back = s.back; is = ap (λ zs. y ∷ zs) s.is }
    ]

split_cases : (x y : Choice) (front back : List Choice) → Contains (front ++ x ∷ back) y → (x ≡ y) ⊎ Contains (front ++ back) y
split_cases x y front back there =
    elim (Contains-append_cases front (x ∷ back) y there) [
      | inl early ↦ inr (Contains-append_left front back y early)
      | inr late ↦ elim (contained_cases x back y late) [ inl same ↦ inl same | inr later ↦ inr (Contains-append_right front back y later) ]
    ]

pub keys_differ : (x y : Choice) (xs : List Choice) → AllByRecursion (λ (a : Ask). same_key x.asked.key a.key ≡ false) (asks_of xs) → Contains xs y → x ≡ y → ⊥
keys_differ x y xs apart there same =
    both_ways (same_key x.asked.key y.asked.key)
    (all_contains (λ (c : Choice). same_key x.asked.key c.asked.key ≡ false) xs y (all_unmap (λ (a : Ask). same_key x.asked.key a.key ≡ false) (λ (c : Choice). c.asked) xs apart) there)
    (subst (λ (c : Choice). same_key x.asked.key c.asked.key ≡ true) same (same_key_itself x.asked.key))

one_less : (x : Choice) (xs : List Choice) (s : IsSplit x xs) → length xs ≡ length (s.front ++ s.back) + 1
one_less x xs s = ap length s.is ∙ length-append s.front (x ∷ s.back) ∙ omega (arith, length-append s.front s.back)

inside_rest : (g : Choice) (given entries : List Choice) (s : IsSplit g entries) → AllByRecursion (λ (a : Ask). same_key g.asked.key a.key ≡ false) (asks_of given) → AllByRecursion (Contains entries) given
    → AllByRecursion (Contains (s.front ++ s.back)) given
inside_rest g given entries s apart within =
    all_of (Contains (s.front ++ s.back)) given (λ y here.
    elim (split_cases g y s.front s.back (subst (λ zs. Contains zs y) s.is (all_contains (Contains entries) given y within here))) [
      | inl same ↦ absurd (keys_differ g y given apart here same)
      | inr other ↦ other
    ])

-- some of the entries, with no key twice, are no more than there are
pub no_more : (given entries : List Choice) → HaveDistinctKeys (asks_of given) → AllByRecursion (Contains entries) given → length given ≤ length entries
no_more [] entries distinct within = omega arith
no_more (g ∷ given) entries distinct within =
    let s = split_at g entries within.0 in
    let less : length entries ≡ length (s.front ++ s.back) + 1 = one_less g entries s in
    let few : length given ≤ length (s.front ++ s.back) = no_more given (s.front ++ s.back) distinct.1 (inside_rest g given entries s distinct.0 within.1) in
    omega arith

-- and as many as there are, all of them
pub each_given : (given entries : List Choice) → HaveDistinctKeys (asks_of given) → AllByRecursion (Contains entries) given → length entries ≤ length given
    → (x : Choice) → Contains entries x → Contains given x
each_given [] [] distinct within few x there = there
each_given [] (e ∷ entries) distinct within few x there = absurd (omega arith)
each_given (g ∷ given) entries distinct within few x there =
    let s = split_at g entries within.0 in
    let less : length entries ≡ length (s.front ++ s.back) + 1 = one_less g entries s in
    let inside = inside_rest g given entries s distinct.0 within.1 in
    elim (split_cases g x s.front s.back (subst (λ zs. Contains zs x) s.is there)) [
      | inl same ↦ subst (Contains (g ∷ given)) same (contains_first g given)
      | inr other ↦ contains_later g given x (each_given given (s.front ++ s.back) distinct.1 inside (omega arith) x other)
    ]

-- then the entries are what the round's choices are to be for its asks, and they answer them
pub all_choices : (sizes : List TopSize) (u : List Place) (entries given : List Choice) → HaveDistinctKeys (asks_of entries) → AreLawful sizes u entries → AreAllAsked entries given
    → AreChoicesOf sizes u (asks_of given) entries × AnswersBy entries given
all_choices sizes u entries given distinct lawful all = (
  record {
    distinct = distinct;
    asked = all_map (Contains (asks_of given)) (λ (c : Choice). c.asked) entries
        (all_weaker (Contains given) (λ (c : Choice). Contains (asks_of given) c.asked) entries (λ c. map_contains (λ (d : Choice). d.asked) given c) all.asked);
    answered = all_map (Contains (asks_of entries)) (λ (c : Choice). c.asked) given
        (all_weaker (Contains entries) (λ (c : Choice). Contains (asks_of entries) c.asked) given (λ c. map_contains (λ (d : Choice). d.asked) entries c) all.answered);
    lawful = lawful;
  },
  answered_by_distinct entries given distinct all.answered,
)
