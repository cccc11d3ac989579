-- What calls of a space leave live and in use.
use Rattle.std.proofs.Common.{◌≡◌, ℕ, ◌+◌, List, [], ◌∷◌, ◌++◌, refl, sym, ap, ◌∙◌, arith}
use Rattle.std.specs.Prelude.{true, false, Contains, IsPermutation}
use Rattle.zio_types.specs.declared.place.Place.{Place}
use Rattle.zio_types.specs.Choices.{taken_by}
use Rattle.zio_places.specs.Ordered.{without}
use Rattle.zio_places.specs.Spaces.{SpaceState, used}
use Rattle.zio_places.specs.Tables.{total}
use Rattle.zio_places.proofs.OrderLemmas.{total-all_placed, total-without}
use Rattle.zio_places.proofs.PlaceLemmas.{Contains-head, contains-same, total-append}
use Rattle.zio_gang.specs.Trees.{tree_places}
use Rattle.zio_frames.specs.Moves.{Chose, Closed, Did, Opened, Took}
use Rattle.zio_exchange.specs.SpaceCalls.{Claimed, GaveBack, Placed, SpaceCall, call_by, calls_back, calls_by}
use Rattle.zio_turns.specs.Desks.{AreMade, after_call, after_calls, bare, choices_by, choices_in, claims_by, claims_in, found_by, found_in, live_again, taken_by_all}
use Rattle.zio_turns.specs.DeskLaws.{after_both}
use Rattle.zio_turns.proofs.PlaceTotals.{SameTotals, again_total, moved_by_totals, totals_moved}

-- ---- what is in use

pub used_call : (f : Place → ℕ) (call : SpaceCall) (st : SpaceState) → total f (used (after_call call st)) ≡ total f
    (found_by call) + total f (used st)
used_call f (Placed c) st =
    let now = after_call (Placed c) st in
    omega (
      arith,
      total-all_placed f (taken_by c) st.live,
      total-append f now.live st.pending,
      total-append f st.live st.pending,
    )
used_call f (GaveBack p) st =
    omega (
      arith,
      total-append f (without p st.live) (st.pending ++ live_again p st.live),
      total-append f st.pending (live_again p st.live),
      total-append f st.live st.pending,
      again_total f p st.live,
    )
used_call f (Claimed places true) st =
    let now = after_call (Claimed places true) st in
    omega (
      arith,
      total-all_placed f places st.live,
      total-append f now.live st.pending,
      total-append f st.live st.pending,
    )
used_call f (Claimed places false) st = omega arith

-- what was in use, and what was found or claimed
used_calls : (f : Place → ℕ) (calls : List SpaceCall) (st : SpaceState)
    → total f (used (after_calls calls st)) ≡ total f (found_in calls) + total f (used st)
used_calls f [] st = omega arith
used_calls f (call ∷ calls) st =
    let mid = after_call call st in
    let first : total f (used mid) ≡ total f (found_by call) + total f (used st) = used_call f call st in
    omega (arith, used_calls f calls mid, first, total-append f (found_by call) (found_in calls))

pub used_after : (f : Place → ℕ) (calls : List SpaceCall) (old new : SpaceState) → AreMade calls old new
    → total f (used new) ≡ total f (found_in calls) + total f (used old)
used_after f calls old new m = ap (λ (s : SpaceState). total f (used s)) m.made ∙ used_calls f calls (bare old)

-- ---- what was found was claimed, or taken by the choices

split_by : (f : Place → ℕ) (call : SpaceCall) → total f (found_by call) ≡ total f (claims_by call) + total f
    (taken_by_all (choices_by call))
split_by f (Placed c) = omega (arith, total-append f (taken_by c) [])
split_by f (GaveBack p) = refl
split_by f (Claimed places free) = omega arith

taken_append : (f : Place → ℕ) (call : SpaceCall) (calls : List SpaceCall)
    → total f (taken_by_all (choices_by call ++ choices_in calls)) ≡ total f (taken_by_all (choices_by call)) + total f
    (taken_by_all (choices_in calls))
taken_append f (Placed c) calls = omega (
  arith,
  total-append f (taken_by c) (taken_by_all (choices_in calls)),
  total-append f
      (taken_by c) [],
)
taken_append f (GaveBack p) calls = omega arith
taken_append f (Claimed places free) calls = omega arith

pub split_in : (f : Place → ℕ) (calls : List SpaceCall)
    → total f (found_in calls) ≡ total f (claims_in calls) + total f (taken_by_all (choices_in calls))
split_in f [] = refl
split_in f (call ∷ calls) =
    omega (
      arith,
      split_in f calls,
      split_by f call,
      total-append f (found_by call) (found_in calls),
      total-append f (claims_by call) (claims_in calls),
      taken_append f call calls,
    )

-- ---- what is live

live_did : (f : Place → ℕ) (did : Did) (st : SpaceState)
    → total f (after_calls (call_by did) st).live ≡ total f (found_in (call_by did)) + total f st.live
live_did f (Opened op) st = omega arith
live_did f (Closed v) st = omega arith
live_did f (Chose c) st = omega (arith, total-all_placed f (taken_by c) st.live, total-append f (taken_by c) [])
live_did f (Took tree true) st = omega (
  arith,
  total-all_placed f (tree_places tree) st.live,
  total-append f
      (tree_places tree) [],
)
live_did f (Took tree false) st = omega arith

pub found_both : (f : Place → ℕ) (first second : List SpaceCall) → total f (found_in (first ++ second)) ≡ total f
    (found_in first) + total f (found_in second)
found_both f [] second = omega arith
found_both f (call ∷ first) second =
    omega (
      arith,
      found_both f first second,
      total-append f (found_by call) (found_in (first ++ second)),
      total-append f
          (found_by call) (found_in first),
    )

live_by : (f : Place → ℕ) (dids : List Did) (st : SpaceState)
    → total f (after_calls (calls_by dids) st).live ≡ total f (found_in (calls_by dids)) + total f st.live
live_by f [] st = omega arith
live_by f (did ∷ dids) st =
    let mid = after_calls (call_by did) st in
    let first : total f mid.live ≡ total f (found_in (call_by did)) + total f st.live = live_did f did st in
    let both : total f (after_calls (calls_by (did ∷ dids)) st).live ≡ total f (after_calls (calls_by dids) mid).live =
    ap (λ (s : SpaceState). total f s.live) (after_both (call_by did) (calls_by dids) st) in
    omega (arith, both, live_by f dids mid, first, found_both f (call_by did) (calls_by dids))

live_back : (gone rest : List Place) (st : SpaceState) → SameTotals st.live (gone ++ rest) → SameTotals
    (after_calls (calls_back gone) st).live rest
live_back [] rest st h f = h f
live_back (p ∷ gone) rest st h f =
    let there : Contains st.live p = contains-same (p ∷ (gone ++ rest)) st.live (λ g. sym (h g)) p
    (Contains-head p (gone ++ rest)) in
    live_back gone rest (after_call (GaveBack p) st) (λ g. omega (arith, h g, total-without g p st.live there)) f

-- live are those that were live, and those that were found or claimed, without those that were given back
pub live_after : (dids : List Did) (gone rest : List Place) (old new : SpaceState) → AreMade
    (calls_by dids ++ calls_back gone) old new
    → IsPermutation (found_in (calls_by dids) ++ old.live) (gone ++ rest) → IsPermutation new.live rest
live_after dids gone rest old new m h =
    let mid = after_calls (calls_by dids) (bare old) in
    let before : SameTotals mid.live (gone ++ rest) =
    λ f. live_by f dids (bare old)
    ∙ (sym (total-append f (found_in (calls_by dids)) old.live) ∙ totals_moved (found_in (calls_by dids) ++ old.live)
    (gone ++ rest) h f) in
    let is : new.live ≡ (after_calls (calls_back gone) mid).live =
    ap (λ (s : SpaceState). s.live) (m.made ∙ after_both (calls_by dids) (calls_back gone) (bare old)) in
    moved_by_totals new.live rest (λ f. ap (total f) is ∙ live_back gone rest mid before f)
