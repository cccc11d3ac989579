-- Live or pending in a round's space are the places that were in use, and those that were found; pending are those that were given
-- back.
use Rattle.std.proofs.Common.{◌≡◌, ℕ, List, [], ◌∷◌, ◌++◌, inl, inr, ◌||◌, append_assoc, refl, sym, ap, ◌∙◌, subst, arith}
use Rattle.std.specs.Prelude.{Bool, true, false, cond, Contains, IsPermutation}
use Rattle.std.specs.List.{AllByRecursion, list_any}
use Rattle.std.proofs.lemmas.Bool.{false≢true}
use Rattle.std.proofs.lemmas.List.{append-nil}
use Rattle.std.proofs.lemmas.List.Concat.{flat_map-append}
use Rattle.std.proofs.lemmas.List.Elements.{Contains-append_cases, Contains-append_left, Contains-append_right}
use Rattle.std.proofs.lemmas.List.Sorted.{Contains-permutation, IsPermutation-sym}
use Rattle.zio_types.specs.declared.place.Place.{Place}
use Rattle.zio_types.specs.Choices.{Choice}
use Rattle.zio_types.specs.Places.{SamePlaces}
use Rattle.zio_places.specs.Ordered.{is_same_place}
use Rattle.zio_places.specs.Spaces.{SpaceState, used}
use Rattle.zio_places.specs.Tables.{total}
use Rattle.zio_places.proofs.PlaceLemmas.{Contains-cases, Contains-nothing, contains-same, is_same_place-refl, total-append}
use Rattle.zio_cksum.proofs.AllLemmas.{all_contained, all_contains, all_weaker}
use Rattle.zio_exchange.specs.SpaceCalls.{Claimed, GaveBack, Placed, SpaceCall, calls_back}
use Rattle.zio_turns.specs.Desks.{AreMade, GivesLast, after_call, after_calls, backs_by, backs_in, bare, choices_in, claims_in, taken_by_all}
use Rattle.zio_turns.specs.DeskLaws.{after_both}
use Rattle.zio_turns.specs.Ledgers.{found_so_far}
use Rattle.zio_turns.proofs.DeskLemmas.{used_after, used_call}
use Rattle.zio_turns.proofs.LedgerMoves.{back_are, found_more}
use Rattle.zio_turns.proofs.PlaceTotals.{moved_by_totals, totals_moved}

-- calls keep that
pub live_kept : (start : List Place) (entries : List Choice) (claimed : List Place) (old new : SpaceState) (calls : List SpaceCall)
    → IsPermutation (old.live ++ old.pending) (start ++ (claimed ++ taken_by_all entries)) → AreMade calls old new
    → IsPermutation (new.live ++ new.pending) (start ++ ((claimed ++ claims_in calls) ++ taken_by_all (entries ++ choices_in calls)))
live_kept start entries claimed old new calls h m =
    moved_by_totals (new.live ++ new.pending) (start ++ ((claimed ++ claims_in calls) ++ taken_by_all (entries ++ choices_in calls))) (λ w.
    omega (
      arith,
      used_after w calls old new m,
      totals_moved (old.live ++ old.pending) (start ++ (claimed ++ taken_by_all entries)) h w,
      found_more w entries claimed calls,
      total-append w start (found_so_far entries claimed),
      total-append w start (found_so_far (entries ++ choices_in calls) (claimed ++ claims_in calls)),
    ))

-- ---- what is pending

-- calls that give nothing back leave it
pending_first : (calls : List SpaceCall) (st : SpaceState) → backs_in calls ≡ [] → (after_calls calls st).pending ≡ st.pending
pending_first [] st none = refl
pending_first (Placed c ∷ calls) st none = pending_first calls (after_call (Placed c) st) none
pending_first (GaveBack p ∷ calls) st none = absurd (some_back p (backs_in calls) none)
  where
    some_back : (p : Place) (ps : List Place) → p ∷ ps ≡ [] → ⊥
    some_back p ps e = cc
pending_first (Claimed places free ∷ calls) st none = pending_first calls (after_call (Claimed places free) st) none

not_live : (p : Place) (live : List Place) → list_any (is_same_place p) live ≡ false → Contains live p → ⊥
not_live p [] e c = Contains-nothing p c
not_live p (q ∷ live) e c = by (is_same_place p q) refl e (λ none later. not_live p live none later)
  where
    by : (b : Bool) → is_same_place p q ≡ b → (b || list_any (is_same_place p) live) ≡ false
        → (list_any (is_same_place p) live ≡ false → Contains live p → ⊥) → ⊥
    by true same e rest = false≢true (sym e)
    by false same e rest = elim (Contains-cases q p live c) [
      | inl is ↦ false≢true (sym same ∙ (ap (is_same_place p) is ∙ is_same_place-refl p))
      | inr later ↦ rest e later
    ]

only : (p q : Place) → Contains (p ∷ []) q → p ≡ q
only p q c = elim (Contains-cases p q [] c) [ inl is ↦ is | inr later ↦ absurd (Contains-nothing q later) ]

-- a place in use that is given back is pending then, whether it was before or not
back_one : (p : Place) (st : SpaceState) → Contains (used st) p → SamePlaces (after_call (GaveBack p) st).pending (st.pending ++ p ∷ [])
back_one p st there = by (list_any (is_same_place p) st.live) refl
  where
    by : (b : Bool) → list_any (is_same_place p) st.live ≡ b
        → SamePlaces (st.pending ++ cond (list_any (is_same_place p) st.live) (p ∷ []) []) (st.pending ++ p ∷ [])
    by true e = λ q.
        let same : st.pending ++ cond (list_any (is_same_place p) st.live) (p ∷ []) [] ≡ st.pending ++ p ∷ [] =
        ap (λ (b : Bool). st.pending ++ cond b (p ∷ []) []) e in (
          λ c. subst (λ (ps : List Place). Contains ps q) same c,
          λ c. subst (λ (ps : List Place). Contains ps q) (sym same) c,
        )
    by false e = λ q.
        let same : st.pending ++ cond (list_any (is_same_place p) st.live) (p ∷ []) [] ≡ st.pending =
        ap (λ (b : Bool). st.pending ++ cond b (p ∷ []) []) e ∙ append-nil st.pending in
        let own : Contains st.pending p = elim (Contains-append_cases st.live st.pending p there) [
          | inl live ↦ absurd (not_live p st.live e live)
          | inr pending ↦ pending
        ] in (
          λ c. Contains-append_left st.pending (p ∷ []) q (subst (λ (ps : List Place). Contains ps q) same c),
          λ c. subst (λ (ps : List Place). Contains ps q) (sym same) (elim (Contains-append_cases st.pending (p ∷ []) q c) [
            | inl old ↦ old
            | inr new ↦ subst (Contains st.pending) (only p q new) own
          ]),
        )

same_then : (xs ys zs : List Place) → SamePlaces xs ys → SamePlaces ys zs → SamePlaces xs zs
same_then xs ys zs h k p = (λ c. (k p).0 ((h p).0 c), λ c. (h p).1 ((k p).1 c))

same_more : (xs ys more : List Place) → SamePlaces xs ys → SamePlaces (xs ++ more) (ys ++ more)
same_more xs ys more h p = (
  λ c. elim (Contains-append_cases xs more p c) [
    | inl here ↦ Contains-append_left ys more p ((h p).0 here)
    | inr later ↦ Contains-append_right ys more p later
  ],
  λ c. elim (Contains-append_cases ys more p c) [
    | inl here ↦ Contains-append_left xs more p ((h p).1 here)
    | inr later ↦ Contains-append_right xs more p later
  ],
)

still_used : (p q : Place) (st : SpaceState) → Contains (used st) q → Contains (used (after_call (GaveBack p) st)) q
still_used p q st c =
    contains-same (used st) (used (after_call (GaveBack p) st)) (λ w. let u = used_call w (GaveBack p) st in omega arith) q c

back_all : (gone : List Place) (st : SpaceState) → AllByRecursion (Contains (used st)) gone
    → SamePlaces (after_calls (calls_back gone) st).pending (st.pending ++ gone)
back_all [] st h = λ q. (
  λ c. Contains-append_left st.pending [] q c,
  λ c. subst (λ (ps : List Place). Contains ps q) (append-nil st.pending) c,
)
back_all (p ∷ gone) st h =
    let mid : SpaceState = after_call (GaveBack p) st in
    let rest : SamePlaces (after_calls (calls_back gone) mid).pending (mid.pending ++ gone) =
    back_all gone mid (all_weaker (Contains (used st)) (Contains (used mid)) gone (λ q. still_used p q st) h.1) in
    same_then (after_calls (calls_back gone) mid).pending (mid.pending ++ gone) (st.pending ++ p ∷ gone) rest
    (subst (SamePlaces (mid.pending ++ gone)) (append_assoc st.pending (p ∷ []) gone)
    (same_more mid.pending (st.pending ++ p ∷ []) gone (back_one p st h.0)))

used_back : (w : Place → ℕ) (gone : List Place) (st : SpaceState) → total w (used (after_calls (calls_back gone) st)) ≡ total w (used st)
used_back w [] st = refl
used_back w (p ∷ gone) st =
    let one = used_call w (GaveBack p) st in
    let rest = used_back w gone (after_call (GaveBack p) st) in
    omega arith

-- what is given back was in use or found
pub pending_kept : (start : List Place) (entries : List Choice) (claimed back : List Place) (old new : SpaceState) (calls : List SpaceCall)
    → IsPermutation (new.live ++ new.pending) (start ++ found_so_far (entries ++ choices_in calls) (claimed ++ claims_in calls))
    → SamePlaces old.pending back → AreMade calls old new → GivesLast calls
    → AllByRecursion (Contains (start ++ found_so_far (entries ++ choices_in calls) (claimed ++ claims_in calls))) (back ++ backs_in calls)
    → SamePlaces new.pending (back ++ backs_in calls)
pending_kept start entries claimed back old new calls live same m last backs =
    let mid : SpaceState = after_calls last.first (bare old) in
    let now : List Place = start ++ found_so_far (entries ++ choices_in calls) (claimed ++ claims_in calls) in
    let gone_are : backs_in calls ≡ last.gone =
    ap backs_in last.are ∙ (flat_map-append backs_by last.first (calls_back last.gone)
    ∙ (ap (λ (ps : List Place). ps ++ backs_in (calls_back last.gone)) last.none ∙ back_are last.gone)) in
    let made : bare new ≡ after_calls (calls_back last.gone) mid =
    m.made ∙ (ap (λ (cs : List SpaceCall). after_calls cs (bare old)) last.are ∙ after_both last.first (calls_back last.gone) (bare old)) in
    let ends : new.pending ≡ (after_calls (calls_back last.gone) mid).pending = ap (λ (s : SpaceState). s.pending) made in
    let in_use : (p : Place) → Contains (back ++ backs_in calls) p → Contains (used mid) p = λ p c.
    contains-same (used new) (used mid) (λ w.
    let moved = used_back w last.gone mid in
    let same : total w (used new) ≡ total w (used (after_calls (calls_back last.gone) mid)) =
    ap (λ (s : SpaceState). total w (used s)) made in
    omega arith) p
    (Contains-permutation now (used new) p (IsPermutation-sym (used new) now live)
    (all_contains (Contains now) (back ++ backs_in calls) p backs c)) in
    let gone_used : AllByRecursion (Contains (used mid)) last.gone =
    all_weaker (Contains last.gone) (Contains (used mid)) last.gone
    (λ p c. in_use p (Contains-append_right back (backs_in calls) p (subst (λ (ps : List Place). Contains ps p) (sym gone_are) c)))
    (all_contained last.gone) in
    let first : SamePlaces (mid.pending ++ last.gone) (back ++ last.gone) =
    same_more mid.pending back last.gone
    (subst (λ (ps : List Place). SamePlaces ps back) (sym (pending_first last.first (bare old) last.none)) same) in
    subst (λ (ps : List Place). SamePlaces ps (back ++ backs_in calls)) (sym ends)
    (subst (λ (ps : List Place). SamePlaces (after_calls (calls_back last.gone) mid).pending (back ++ ps)) (sym gone_are)
    (same_then (after_calls (calls_back last.gone) mid).pending (mid.pending ++ last.gone) (back ++ last.gone)
    (back_all last.gone mid gone_used) first))
