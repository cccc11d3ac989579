-- What a round's books tell once no node is left and no tree stands.
use Rattle.std.proofs.Common.{◌≡◌, ℕ, ◌<◌, ◌≤◌, List, [], ◌∷◌, ◌++◌, Option, Some, None, refl, ap, ◌∙◌, subst, arith, zero, suc, ◌+◌, ◌⊎◌, inl, inr, sym}
use Rattle.std.specs.Prelude.{Contains, IsPermutation, IsTrue, Bool, true, false, is_none, ◌↔◌}
use Rattle.std.specs.List.{flat_map, AllByRecursion}
use Rattle.std.proofs.lemmas.List.Sorted.{IsPermutation-cons, IsPermutation-refl, IsPermutation-sym, IsPermutation-trans}
use Rattle.zio_types.specs.declared.place.Place.{Place}
use Rattle.zio_places.specs.Ordered.{is_same_place, without}
use Rattle.zio_places.specs.Tables.{one_if, total}
use Rattle.zio_places.proofs.OrderLemmas.{total-without}
use Rattle.zio_places.proofs.PlaceLemmas.{Contains-head, contains-place_count, place_count, place_count-contains, total-append, Contains-nothing}
use Rattle.zio_gang.specs.Attempts.{Ended, Terms}
use Rattle.zio_trace.specs.Families.{Forest}
use Rattle.zio_trace.specs.Tasks.{Value, settled}
use Rattle.zio_trace.specs.Together.{round_of}
use Rattle.zio_trace.specs.Underway.{State}
use Rattle.zio_frames.specs.Frames.{Flying}
use Rattle.zio_frames.specs.Running.{all_heard}
use Rattle.slab.specs.Slab.{Slab, get}
use Rattle.zio_exchange.specs.Outcomes.{freed_if, freed_of}
use Rattle.zio_turns.specs.Engine.{IsKept}
use Rattle.zio_staged.specs.Entries.{Held, standing}
use Rattle.zio_turns.specs.Ledgers.{IsLedger, all_ended, ended_of_top, ended_of_tree, found_so_far, freed_in, gave_over, made_in, AreOnce, Ending, IsEnding, freed_for}
use Rattle.zio_staged.specs.Parts.{Nodes}
use Rattle.zio_turns.specs.Rounds.{Before, SoFar}
use Rattle.zio_turns.specs.Slabs.{held_if, left_in, shelf_of}
use Rattle.zio_turns.specs.declared.entry.TiedNode.{TiedNode}
use Rattle.zio_turns.proofs.Kept.{world}
use Rattle.zio_turns.proofs.Links.{in_flight_there}
use Rattle.zio_turns.proofs.PlaceTotals.{contained, moved_by_totals, without_moved, totals_moved}
use Rattle.zio_turns.proofs.Shelves.{sum_none}
use Rattle.zio_places.specs.Spaces.{SpaceState}
use Rattle.zio_turns.specs.Desks.{IsDeskAt, taken_by_all}
use Rattle.zio_turns.proofs.OpenCounts.{clear_open, fewer_clear, found_clear, found_inside, made_inside, once_all}
use Rattle.zio_turns.proofs.LedgerOwns.{request_used}
use Rattle.zio_trace.specs.SoundRounds.{IsSoundRound}
use Rattle.zio_types.specs.declared.place.Top.{Top}
use Rattle.zio_types.specs.Places.{SamePlaces, are_open, is_inside}
use Rattle.zio_gang.specs.Trees.{sizes_of}
use Rattle.zio_exchange.specs.Outcomes.{freed_if, freed_of}
use Rattle.std.proofs.lemmas.List.Elements.{Contains-append_cases}

-- ---- the requests

none_stands : (tops : List (Option Flying)) → standing tops ≡ [] → flat_map ended_of_top tops ≡ []
none_stands [] e = refl
none_stands (None ∷ tops) e = none_stands tops e
none_stands (Some x ∷ tops) e = absurd (cc)

heard_ended : (values : List Value) → flat_map ended_of_tree (all_heard values) ≡ (round_of values).ended
heard_ended [] = refl
heard_ended (v ∷ values) = ap (λ (es : List Ended). (settled v).ended ++ es) (heard_ended values)

pub requests_are : {N : Type 0} (nodes : Nodes N) (t : Terms) (f : Forest) (s : SoFar) (slab : Slab (TiedNode N)) (values : List Value)
    → IsLedger {N = N} nodes t f s.books s.entries s.tops s.trees [] slab → s.trees ≡ all_heard values → standing s.tops ≡ []
    → IsPermutation (all_ended s.books.done) (round_of values).ended
requests_are nodes t f s slab values l heard none =
    subst (IsPermutation (all_ended s.books.done))
    (ap (λ (es : List Ended). es ++ flat_map ended_of_tree s.trees) (none_stands s.tops none)
    ∙ (ap (flat_map ended_of_tree) heard ∙ heard_ended values)) l.requests

-- ---- no node is left

none_there : {N : Type 0} (o : Option (TiedNode N)) → ((h : Held N) → held_if {N = N} o ≡ Some h → ⊥) → o ≡ None
none_there None none = refl
none_there (Some e) none = absurd (none _ refl)

none_flies : (x : Flying) → None ≡ Some x → ⊥
none_flies x e = cc

gave_none : {N : Type 0} (nodes : Nodes N) (t : Terms) (sizes : ℕ → ℕ) (f : Forest) (before : Before) (s : SoFar) (slab : Slab (TiedNode N))
    (state : State) → IsKept {N = N} nodes t sizes f before s.trees s.tops [] (shelf_of {N = N} slab) [] [] state → (w : Place → ℕ)
    → gave_over {N = N} nodes w slab ≡ 0
gave_none {N} nodes t sizes f before s slab state k w =
    sum_none (left_in {N = N} (λ (n : N). total w (nodes.gave n))) refl slab.slots (λ key.
    none_there {N = N} (get slab key) (λ h there.
    let flies = in_flight_there nodes t (world {N = N} s.tops [] (shelf_of {N = N} slab) [] []) key h k.linked there in
    none_flies flies.0 flies.1))

-- ---- the places

pub found_are : {N : Type 0} (nodes : Nodes N) (t : Terms) (sizes : ℕ → ℕ) (f : Forest) (before : Before) (s : SoFar)
    (slab : Slab (TiedNode N)) (state : State)
    → IsKept {N = N} nodes t sizes f before s.trees s.tops [] (shelf_of {N = N} slab) [] [] state
    → IsLedger {N = N} nodes t f s.books s.entries s.tops s.trees [] slab
    → IsPermutation (found_so_far s.entries s.books.claimed ++ freed_in s.books.done) (s.books.back ++ made_in s.books.done)
found_are {N} nodes t sizes f before s slab state k l =
    moved_by_totals (found_so_far s.entries s.books.claimed ++ freed_in s.books.done) (s.books.back ++ made_in s.books.done) (λ w.
    omega (
      arith,
      l.places w,
      gave_none {N = N} nodes t sizes f before s slab state k w,
      total-append w (found_so_far s.entries s.books.claimed) (freed_in s.books.done),
      total-append w s.books.back (made_in s.books.done),
    ))

-- places of which each stands at most as often in another list are a part of it
within_totals : (xs ys : List Place) → ((w : Place → ℕ) → total w xs ≤ total w ys) → (rest : List Place) × IsPermutation ys (xs ++ rest)
within_totals [] ys h = (ys, IsPermutation-refl ys)
within_totals (x ∷ xs) ys h =
    let there : Contains ys x = contained (x ∷ xs) ys h x (Contains-head x xs) in
    let rest = within_totals xs (without x ys) (λ w. let all = h w in let e = total-without w x ys there in omega arith) in (
      rest.0,
      IsPermutation-trans ys (x ∷ without x ys) (x ∷ (xs ++ rest.0))
          (IsPermutation-sym (x ∷ without x ys) ys (without_moved x ys there))
          (IsPermutation-cons x (without x ys) (xs ++ rest.0) rest.1),
    )

pub made_found : {N : Type 0} (nodes : Nodes N) (t : Terms) (f : Forest) (s : SoFar) (slab : Slab (TiedNode N))
    → IsLedger {N = N} nodes t f s.books s.entries s.tops s.trees [] slab
    → (others : List Place) × IsPermutation (found_so_far s.entries s.books.claimed) (made_in s.books.done ++ others)
made_found nodes t f s slab l =
    within_totals (made_in s.books.done) (found_so_far s.entries s.books.claimed) (λ w. let m = l.made w in omega arith)

made_less : {N : Type 0} (nodes : Nodes N) (t : Terms) (f : Forest) (s : SoFar) (slab : Slab (TiedNode N))
    → IsLedger {N = N} nodes t f s.books s.entries s.tops s.trees [] slab → (w : Place → ℕ)
    → total w (made_in s.books.done) ≤ total w (found_so_far s.entries s.books.claimed)
made_less nodes t f s slab l w = let m = l.made w in omega arith

pub made_open : {N : Type 0} (nodes : Nodes N) (t : Terms) (f : Forest) (s : SoFar) (slab : Slab (TiedNode N)) (tops : List Top)
    (st : SpaceState) → IsLedger {N = N} nodes t f s.books s.entries s.tops s.trees [] slab
    → IsDeskAt t s.entries s.books.claimed s.books.back tops st → are_open t.used (made_in s.books.done) ≡ true
made_open {N} nodes t f s slab tops st l desk =
    clear_open t.used (made_in s.books.done)
    (fewer_clear t.used (made_in s.books.done) (found_so_far s.entries s.books.claimed) (made_less {N = N} nodes t f s slab l)
    (found_clear t s.entries s.books.claimed s.books.back tops st desk))

pub made_within : {N : Type 0} (nodes : Nodes N) (t : Terms) (f : Forest) (s : SoFar) (slab : Slab (TiedNode N)) (tops : List Top)
    (st : SpaceState) → IsLedger {N = N} nodes t f s.books s.entries s.tops s.trees [] slab
    → IsDeskAt t s.entries s.books.claimed s.books.back tops st
    → AllByRecursion (λ (p : Place). IsTrue (is_inside (sizes_of t.setting.tops) p)) (made_in s.books.done)
made_within {N} nodes t f s slab tops st l desk =
    made_inside (sizes_of t.setting.tops) (made_in s.books.done) (found_so_far s.entries s.books.claimed)
    (made_less {N = N} nodes t f s slab l) (found_inside t s.entries s.books.claimed s.books.back tops st desk)

-- no place stands twice among those in use and those found
pub found_once : (t : Terms) (s : SoFar) (tops : List Top) (st : SpaceState)
    → IsDeskAt t s.entries s.books.claimed s.books.back tops st → AreOnce t.used
    → AreOnce (t.used ++ found_so_far s.entries s.books.claimed)
found_once t s tops st desk once =
    once_all (sizes_of t.setting.tops) t.used (found_so_far s.entries s.books.claimed) once
    (found_clear t s.entries s.books.claimed s.books.back tops st desk)
    (found_inside t s.entries s.books.claimed s.books.back tops st desk)

-- ---- which are live

-- what was freed was in use
freed_used : (t : Terms) (sizes : ℕ → ℕ) (f : Forest) (done : List Ending) → IsSoundRound t sizes f → AllByRecursion (IsEnding t f) done
    → (p : Place) → Contains (freed_in done) p → Contains t.used p
freed_used t sizes f [] sound each p c = absurd (Contains-nothing p c)
freed_used t sizes f (x ∷ done) sound each p c = elim (Contains-append_cases (freed_for x) (freed_in done) p c) [
  | inl own ↦ request_used t sizes f x.request each.0.kids sound each.0.from p
      (freed_if_some (is_none x.ended.error) (freed_of x.request.request.work x.request.block) p own)
  | inr later ↦ freed_used t sizes f done sound each.1 p later
]
  where
    freed_if_some : (b : Bool) (places : List Place) (p : Place) → Contains (freed_if b places) p → Contains places p
    freed_if_some true places p c = c
    freed_if_some false places p c = absurd (Contains-nothing p c)

none_counted : (p : Place) (places : List Place) → (Contains places p → ⊥) → place_count p places ≡ 0
none_counted p places none = by (place_count p places) refl
  where
    by : (n : ℕ) → place_count p places ≡ n → place_count p places ≡ 0
    by zero e = e
    by (suc n) e = absurd (none (contains-place_count p places (omega (arith, e))))

-- by how often a place stands in each of these
module _ (p : Place) (used found freed back made live pending : List Place)
    (all : place_count p live + place_count p pending ≡ place_count p used + place_count p found)
    (ends : place_count p found + place_count p freed ≡ place_count p back + place_count p made)
    (once : place_count p used + place_count p found ≤ 1) (few : place_count p made ≤ place_count p found)
    (same : Contains pending p ↔ Contains back p) (in_use : Contains freed p → Contains used p) where
  -- where it was given back it is pending
  none_pending : place_count p back ≡ 0 → place_count p pending ≡ 0
  none_pending none = none_counted p pending (λ c.
      let some : 0 < place_count p back = place_count-contains p back (same.0 c) in absurd (omega arith))

  live_there : Contains live p → (Contains used p × ¬ Contains freed p) ⊎ Contains made p
  live_there c = by (place_count p made) refl
    where
      some : 0 < place_count p live
      some = place_count-contains p live c

      none_back : place_count p back ≡ 0
      none_back = none_counted p back (λ b.
          let pend : 0 < place_count p pending = place_count-contains p pending (same.1 b) in
          let here = some in
          absurd (omega arith))

      by : (n : ℕ) → place_count p made ≡ n → (Contains used p × ¬ Contains freed p) ⊎ Contains made p
      by zero e = let none = none_back in let here = some in inl (
        contains-place_count p used (omega arith),
        λ f. let gone : 0 < place_count p freed = place_count-contains p freed f in omega arith,
      )
      by (suc n) e = inr (contains-place_count p made (omega arith))

  live_back : (Contains used p × ¬ Contains freed p) ⊎ Contains made p → Contains live p
  live_back (inl kept) =
      let some : 0 < place_count p used = place_count-contains p used kept.0 in
      let none : place_count p freed ≡ 0 = none_counted p freed kept.1 in
      let pend : place_count p pending ≡ 0 = none_pending (omega arith) in
      contains-place_count p live (omega arith)
  live_back (inr m) =
      let some : 0 < place_count p made = place_count-contains p made m in
      let none : place_count p freed ≡ 0 = none_counted p freed (λ f.
      let used_too : 0 < place_count p used = place_count-contains p used (in_use f) in absurd (omega arith)) in
      let pend : place_count p pending ≡ 0 = none_pending (omega arith) in
      contains-place_count p live (omega arith)

pub live_where : {N : Type 0} (nodes : Nodes N) (t : Terms) (sizes : ℕ → ℕ) (f : Forest) (s : SoFar) (slab : Slab (TiedNode N)) (st : SpaceState)
    → IsSoundRound t sizes f → IsLedger {N = N} nodes t f s.books s.entries s.tops s.trees [] slab
    → IsPermutation (st.live ++ st.pending) (t.used ++ (s.books.claimed ++ taken_by_all s.entries)) → SamePlaces st.pending s.books.back
    → IsPermutation (found_so_far s.entries s.books.claimed ++ freed_in s.books.done) (s.books.back ++ made_in s.books.done)
    → AreOnce (t.used ++ found_so_far s.entries s.books.claimed) → (p : Place)
    → Contains st.live p ↔ ((Contains t.used p × ¬ Contains (freed_in s.books.done) p) ⊎ Contains (made_in s.books.done) p)
live_where nodes t sizes f s slab st sound l live pending found once p =
    let w : Place → ℕ = λ q. one_if (is_same_place p q) in
    let found_all : List Place = found_so_far s.entries s.books.claimed in
    let freed : List Place = freed_in s.books.done in
    let made : List Place = made_in s.books.done in
    let all : place_count p st.live + place_count p st.pending ≡ place_count p t.used + place_count p found_all =
    sym (total-append w st.live st.pending)
    ∙ (totals_moved (st.live ++ st.pending) (t.used ++ found_all) live w ∙ total-append w t.used found_all) in
    let ends : place_count p found_all + place_count p freed ≡ place_count p s.books.back + place_count p made =
    sym (total-append w found_all freed)
    ∙ (totals_moved (found_all ++ freed) (s.books.back ++ made) found w ∙ total-append w s.books.back made) in
    let one : place_count p t.used + place_count p found_all ≤ 1 =
    let both = total-append w t.used found_all in let h = once p in omega arith in
    let few : place_count p made ≤ place_count p found_all = let h = l.made w in omega arith in (
      live_there p t.used found_all freed s.books.back made st.live st.pending all ends one few (pending p)
          (freed_used t sizes f s.books.done sound l.each p),
      live_back p t.used found_all freed s.books.back made st.live st.pending all ends one few (pending p)
          (freed_used t sizes f s.books.done sound l.each p),
    )
