-- Calls that a round may make of its space are right for it, and it is the round's still.
use Rattle.std.proofs.Common.{◌≡◌, ◌≤◌, List, [], ◌∷◌, ◌++◌, Bool, true, false, cond, ◌⊎◌, inl, inr, refl, sym, ap, subst, ◌∙◌, arith}
use Rattle.std.specs.List.{AllByRecursion}
use Rattle.std.specs.Prelude.{Contains}
use Rattle.std.proofs.lemmas.List.{append-nil}
use Rattle.zio_types.specs.declared.place.Place.{Place}
use Rattle.zio_types.specs.declared.place.Top.{Top}
use Rattle.zio_types.specs.declared.place.TopSize.{TopSize}
use Rattle.zio_types.specs.Choices.{Choice}
use Rattle.zio_types.specs.Places.{are_open}
use Rattle.zio_places.specs.Spaces.{SpaceState}
use Rattle.zio_gang.specs.Attempts.{Terms}
use Rattle.zio_gang.specs.Trees.{sizes_of}
use Rattle.zio_exchange.specs.SpaceCalls.{Claimed, GaveBack, LieOnTops, Placed, SpaceCall}
use Rattle.zio_turns.specs.Desks.{AreAnswered, AreMade, AreRight, GivesLast, IsClaim, IsDeskAt, IsRightCall, MayAsk, after_call, backs_in, bare, choices_in, claims_asked, claims_in}
use Rattle.zio_turns.specs.Desks.MayAsk.{Backs, Claims, Places}
use Rattle.zio_turns.specs.Ledgers.{found_so_far}
use Rattle.zio_turns.proofs.DeskLive.{live_kept, pending_kept}
use Rattle.zio_turns.proofs.RoundDesks.{calls_right, desk_kept}

-- ---- what was claimed

no_claims : (calls : List SpaceCall) → claims_asked calls ≡ 0 → claims_in calls ≡ []
no_claims [] none = refl
no_claims (Placed c ∷ calls) none = no_claims calls (omega arith)
no_claims (GaveBack p ∷ calls) none = no_claims calls (omega arith)
no_claims (Claimed places free ∷ calls) none = absurd (omega arith)

none_more : {X : Type 0} (xs ys : List X) → ys ≡ [] → xs ++ ys ≡ xs
none_more xs ys e = ap (λ (zs : List _). xs ++ zs) e ∙ append-nil xs

claim_same : (t : Terms) (claimed others : List Place) → others ≡ claimed → IsClaim t claimed → IsClaim t others
claim_same t claimed others e h = subst (IsClaim t) (sym e) h

claim_if : (t : Terms) (free : Bool) (places rest : List Place) → rest ≡ [] → free ≡ are_open t.used places
    → LieOnTops (sizes_of t.setting.tops) places → IsClaim t (cond free places [] ++ rest)
claim_if t true places rest none are on =
    claim_same t places (places ++ rest) (none_more places rest none) (record { free = sym are; inside = on })
claim_if t false places rest none are on = claim_same t [] rest none (record { free = refl; inside = tt })

-- one claim
claim_in : (t : Terms) (calls : List SpaceCall) (st : SpaceState) → AreAnswered calls st → AllByRecursion (IsRightCall t) calls
    → claims_asked calls ≤ 1 → st.sizes ≡ sizes_of t.setting.tops → IsClaim t (claims_in calls)
claim_in t [] st answered right few sizes = record { free = refl; inside = tt }
claim_in t (Placed c ∷ calls) st answered right few sizes =
    claim_in t calls (after_call (Placed c) st) answered.1 right.1 (omega arith) sizes
claim_in t (GaveBack p ∷ calls) st answered right few sizes =
    claim_in t calls (after_call (GaveBack p) st) answered.1 right.1 (omega arith) sizes
claim_in t (Claimed places free ∷ calls) st answered right few sizes =
    claim_if t free places (claims_in calls) (no_claims calls (omega arith)) right.0
    (subst (λ (tops : List TopSize). LieOnTops tops places) sizes answered.0.1)

claim_after : (t : Terms) (entries : List Choice) (claimed : List Place) (calls : List SpaceCall) (st : SpaceState)
    → MayAsk entries claimed calls → AreAnswered calls st → AllByRecursion (IsRightCall t) calls → st.sizes ≡ sizes_of t.setting.tops
    → IsClaim t claimed → IsClaim t (claimed ++ claims_in calls)
claim_after t entries claimed calls st (Places empty none) answered right sizes h =
    claim_same t claimed (claimed ++ claims_in calls) (none_more claimed (claims_in calls) (no_claims calls none)) h
claim_after t entries claimed calls st (Claims no_entries empty no_choices few) answered right sizes h =
    claim_same t (claims_in calls) (claimed ++ claims_in calls) (ap (λ (ps : List Place). ps ++ claims_in calls) empty)
    (claim_in t calls st answered right few sizes)
claim_after t entries claimed calls st (Backs no_choices none) answered right sizes h =
    claim_same t claimed (claimed ++ claims_in calls) (none_more claimed (claims_in calls) (no_claims calls none)) h

-- ---- only one of the two are any

either_after : (entries : List Choice) (claimed : List Place) (calls : List SpaceCall) → MayAsk entries claimed calls
    → (entries ≡ []) ⊎ (claimed ≡ []) → (entries ++ choices_in calls ≡ []) ⊎ (claimed ++ claims_in calls ≡ [])
either_after entries claimed calls (Places empty none) h =
    inr (none_more claimed (claims_in calls) (no_claims calls none) ∙ empty)
either_after entries claimed calls (Claims no_entries empty no_choices few) h =
    inl (none_more entries (choices_in calls) no_choices ∙ no_entries)
either_after entries claimed calls (Backs no_choices none) h = elim h [
  | inl e ↦ inl (none_more entries (choices_in calls) no_choices ∙ e)
  | inr e ↦ inr (none_more claimed (claims_in calls) (no_claims calls none) ∙ e)
]

-- ---- all of them

-- the calls are right, and the space goes on where what was given back was in use or found
pub record ServesOn (t : Terms) (entries : List Choice) (claimed back : List Place) (tops : List Top) (new : SpaceState)
    (calls : List SpaceCall) : Type 0 where
  pub right : AreRight t entries calls
  pub desk : AllByRecursion (Contains (t.used ++ found_so_far (entries ++ choices_in calls) (claimed ++ claims_in calls)))
      (back ++ backs_in calls)
      → IsDeskAt t (entries ++ choices_in calls) (claimed ++ claims_in calls) (back ++ backs_in calls) tops new

pub desk_serves : (t : Terms) (entries : List Choice) (claimed back : List Place) (tops : List Top) (old new : SpaceState)
    (calls : List SpaceCall) → IsDeskAt t entries claimed back tops old → AreMade calls old new → MayAsk entries claimed calls
    → GivesLast calls → ServesOn t entries claimed back tops new calls
desk_serves t entries claimed back tops old new calls h made may last =
    let right = calls_right t entries claimed tops old new calls h.desk made may in
    let live = live_kept t.used entries claimed old new calls h.live made in
    record {
      right = right;
      desk = λ backs. record {
        desk = desk_kept t entries claimed tops old new calls h.desk made right.lawful;
        either = either_after entries claimed calls may h.either;
        claim = claim_after t entries claimed calls (bare old) may made.answered right.claims h.desk.sizes_are h.claim;
        live = live;
        pending_are = pending_kept t.used entries claimed back old new calls live h.pending_are made last backs;
      };
    }
