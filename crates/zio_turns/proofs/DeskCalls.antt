-- What each call of a space makes of it.
use Rattle.std.proofs.Common.{◌≡◌, ℕ, List, [], ◌∷◌, ◌++◌, ◌||◌, inl, inr, refl, sym, ap, subst, ◌∙◌}
use Rattle.std.specs.Prelude.{Bool, true, false, cond, Contains, IsTrue}
use Rattle.std.specs.List.{AllByRecursion, list_all, list_any}
use Rattle.std.proofs.lemmas.Bool.{and_from, or_left, or_right}
use Rattle.std.proofs.lemmas.List.{append-nil}
use Rattle.zio_types.specs.declared.place.Place.{Place}
use Rattle.zio_types.specs.declared.place.TopSize.{TopSize}
use Rattle.zio_types.specs.Choices.{Choice, taken_by}
use Rattle.zio_types.specs.Places.{AreCopies, IsLawfulChoice, are_open, fits_size, is_aligned, is_inside}
use Rattle.zio_places.specs.Ordered.{all_placed_in, is_same_place, without}
use Rattle.zio_places.specs.Spaces.{SpaceState, are_on_tops, is_on_top, used}
use Rattle.zio_places.proofs.PlaceLemmas.{Contains-cases, Contains-head, Contains-nothing, Contains-tail, is_same_place-refl, is_same_place-true}
use Rattle.zio_exchange.specs.SpaceCalls.{Claimed, GaveBack, IsAnswerFor, LieOnTops, Placed}
use Rattle.zio_turns.specs.Desks.{AreMade, after_call, bare}

-- nothing was made
pub nothing_made : (old new : SpaceState) → new ≡ old → AreMade [] old new
nothing_made old new same = record { answered = tt; made = ap bare same }

-- ---- places that are asked for

pub placed_made : (old mid new : SpaceState) (entry : Choice) → bare mid ≡ bare old → IsLawfulChoice mid.sizes (used mid) entry
    → new.live ≡ all_placed_in (taken_by entry) mid.live → new.pending ≡ mid.pending → new.entries ≡ mid.entries ++ entry ∷ []
    → new.sizes ≡ mid.sizes
    → AreMade (Placed entry ∷ []) old new
placed_made old mid new entry same lawful live pending entries sizes = record {
  answered = (subst (λ (s : SpaceState). IsLawfulChoice s.sizes (used s) entry) same lawful, tt);
  made = now ∙ ap (after_call (Placed entry)) same;
}
  where
    now : bare new ≡ after_call (Placed entry) (bare mid)
    now = λ i. record { sizes = sizes i; live = live i; pending = pending i; entries = entries i; spare = 0 }

copies_inside : (tops : List TopSize) (used : List Place) (size : ℕ) (earlier places : List Place)
    → AreCopies tops used size earlier places
    → AllByRecursion (λ (p : Place). IsTrue (is_inside tops p)) places
copies_inside tops used size earlier [] h = tt
copies_inside tops used size earlier (p ∷ ps) h = (h.0.inside, copies_inside tops used size (earlier ++ p ∷ []) ps h.1)

copies_fit : (tops : List TopSize) (used : List Place) (size : ℕ) (earlier places : List Place)
    → AreCopies tops used size earlier places
    → AllByRecursion (λ (p : Place). IsTrue (fits_size tops size p)) places
copies_fit tops used size earlier [] h = tt
copies_fit tops used size earlier (p ∷ ps) h = (h.0.fits, copies_fit tops used size (earlier ++ p ∷ []) ps h.1)

pub lawful_answers : (sizes tops : List TopSize) (used : List Place) (c : Choice) → sizes ≡ tops → IsLawfulChoice sizes used c
    → IsAnswerFor tops c
lawful_answers sizes tops used c same h = subst (λ (all : List TopSize). IsAnswerFor all c) same (record {
  few = h.found;
  inside = copies_inside sizes used c.asked.size [] c.places h.copies;
  fit = copies_fit sizes used c.asked.size [] c.places h.copies;
})

-- ---- a place that is given back

any_live : (p : Place) (live : List Place) → Contains live p → list_any (is_same_place p) live ≡ true
any_live p [] there = absurd (Contains-nothing p there)
any_live p (q ∷ live) there = elim (Contains-cases q p live there) [
  | inl is ↦ or_left (is_same_place p q) (list_any (is_same_place p) live) (ap (is_same_place p) is ∙ is_same_place-refl p)
  | inr later ↦ or_right (is_same_place p q) (list_any (is_same_place p) live) (any_live p live later)
]

pub back_made : (old new : SpaceState) (p : Place) → Contains old.live p → new.live ≡ without p old.live
    → new.pending ≡ old.pending ++ p ∷ []
    → new.sizes ≡ old.sizes → new.entries ≡ old.entries → AreMade (GaveBack p ∷ []) old new
back_made old new p there live pending sizes entries = record {
  answered = (tt, tt);
  made = λ i. record {
    sizes = sizes i;
    live = live i;
    pending = (pending ∙ ap (λ (b : Bool). old.pending ++ cond b (p ∷ []) []) (sym (any_live p old.live there))) i;
    entries = entries i;
    spare = 0;
  };
}

none_step : (p q : Place) (live : List Place) (t : Bool) → is_same_place p q ≡ t → ¬ Contains (q ∷ live) p → t ≡ false
none_step p q live true same none = absurd (none (subst (λ (x : Place). Contains (q ∷ live) x)
    (sym (is_same_place-true p q same)) (Contains-head q live)))
none_step p q live false same none = refl

none_live : (p : Place) (live : List Place) → ¬ Contains live p → list_any (is_same_place p) live ≡ false
none_live p [] none = refl
none_live p (q ∷ live) none =
    let here : is_same_place p q ≡ false = none_step p q live (is_same_place p q) refl none in
    ap (λ (b : Bool). b || list_any (is_same_place p) live) here ∙ none_live p live
    (λ there. none (Contains-tail q p live there))

without_none : (p : Place) (live : List Place) → ¬ Contains live p → without p live ≡ live
without_none p [] none = refl
without_none p (q ∷ live) none =
    let here : is_same_place p q ≡ false = none_step p q live (is_same_place p q) refl none in
    ap (λ (b : Bool). cond b live (q ∷ without p live)) here
    ∙ ap (λ (ps : List Place). q ∷ ps) (without_none p live (λ there. none (Contains-tail q p live there)))

-- one that isn't live stays as it is
pub stays_made : (st : SpaceState) (p : Place) → ¬ Contains st.live p → AreMade (GaveBack p ∷ []) st st
stays_made st p none = record {
  answered = (tt, tt);
  made = λ i. record {
    sizes = st.sizes;
    live = sym (without_none p st.live none) i;
    pending = (sym (append-nil st.pending) ∙ ap (λ (b : Bool). st.pending ++ cond b (p ∷ []) [])
        (sym (none_live p st.live none))) i;
    entries = st.entries;
    spare = 0;
  };
}

-- ---- places that are claimed

pub all_on_tops : (sizes : List TopSize) (places : List Place) → LieOnTops sizes places → are_on_tops sizes places ≡ true
all_on_tops sizes [] h = refl
all_on_tops sizes (p ∷ ps) h =
    and_from (is_on_top sizes p) (list_all (is_on_top sizes) ps) (and_from (is_inside sizes p) (is_aligned sizes p) h.0.0 h.0.1)
    (all_on_tops sizes ps h.1)

pub claimed_made : (old new : SpaceState) (places : List Place) → new ≡ record old { live = all_placed_in places old.live }
    → are_open (used old) places ≡ true → LieOnTops old.sizes places → AreMade (Claimed places true ∷ []) old new
claimed_made old new places is are on = record { answered = ((sym are, on), tt); made = ap bare is }

pub taken_made : (old new : SpaceState) (places : List Place) → new ≡ old → are_open (used old) places ≡ false
    → LieOnTops old.sizes places → AreMade (Claimed places false ∷ []) old new
taken_made old new places is are on = record { answered = ((sym are, on), tt); made = ap bare is }

-- what isn't refused was free
pub open_unless : (b : Bool) → (b ≡ false → ⊥) → b ≡ true
open_unless true h = refl
open_unless false h = absurd (h refl)
