-- A step of one of a pass's tokens changes the hand of that queue alone.
use Rattle.std.proofs.Common.{◌≡◌, ℕ, zero, suc, ◌<◌, List, [], ◌∷◌, map, length, set, get_or, slice_index_or, slice_set, refl, sym, ap, ◌∙◌, arith, subst, Option, Some, None, Result, Ok, Err, MatchResult, MatchOption}
use Rattle.std.proofs.lemmas.List.{map-set, get_or-set_same, get_or-set_other, get_or_default, length-set, set-get_or}
use Rattle.std.specs.Vec.{with_item}
use native.Mathlib.Decide.{ℕ_discrete}
use Rattle.crossbeam_queue.specs.Passes.{Pass, view, IsPassOf as IsSeatOf, ruled_capacity}
use Rattle.zio_tasks.specs.declared.hand.Hand.{Hand}
use Rattle.zio_tasks.specs.declared.hand.Pile.{Pile}
use Rattle.zio_tasks.specs.declared.tasks.TaskPass.{TaskPass}
use Rattle.zio_tasks.specs.declared.tasks.Tasks.{Tasks}
use Rattle.zio_tasks.specs.Hands.{WasHolding, WasOldest}
use Rattle.zio_tasks.specs.Rule.{pile, with_first, after_put, after_take, OldestTake, WasFull}
use Rattle.zio_tasks.specs.Team.{no_hand, first_hand, hands_of, hand_at, IsPartOf, IsPassOf}

module _ {T : Type 0} where
  -- the pass with another token at one queue
  abbrev pub with_part : TaskPass T → ℕ → Pass T (Pile T) → TaskPass T
  with_part pass i p = record { number = pass.number; parts = with_item pass.parts i p }

  abbrev pub shown : Pass T (Pile T) → Hand T
  shown s = first_hand (view s).hands

  at_map : (xs : List (Pass T (Pile T))) (i : ℕ) (p : Pass T (Pile T)) (d : Hand T) → i < length xs → p ≡ get_or xs i p → get_or (map shown xs) i d ≡ shown p
  at_map [] i p d h e = absurd (omega arith)
  at_map (x ∷ xs) zero p d h e = ap shown (sym e)
  at_map (x ∷ xs) (suc i) p d h e = at_map xs i p d (omega arith) e

  -- a pass's token is its hand's
  pub own_hand : (tasks : Tasks T) (pass : TaskPass T) (i : ℕ) (q : _) (p : Pass T (Pile T)) → IsPassOf tasks pass → i < 10 → q ≡ get_or tasks.queues.items i q → p ≡ get_or pass.parts.items i p
      → (view p ≡ pile (hand_at i pass ∷ []) tasks.passes) × ((hand_at i pass).number ≡ pass.number) × IsSeatOf q p × (ruled_capacity q ≡ tasks.room)
  own_hand tasks pass i q p is at e f =
      let part = is.each i q p at in
      let here : hand_at i pass ≡ shown p = at_map pass.parts.items i p no_hand (let l = is.parts in omega arith) f in
      let v : view p ≡ pile (part.own.0 ∷ []) tasks.passes = ap view f ∙ part.own.1 in
      let h : hand_at i pass ≡ part.own.0 = here ∙ ap (λ (y : Pile T). first_hand y.hands) v in (
        v ∙ ap (λ (y : Hand T). pile (y ∷ []) tasks.passes) (sym h),
        ap (λ (y : Hand T). y.number) h ∙ part.own.2,
        subst (λ y. IsSeatOf y p) (sym e) (subst (λ y. IsSeatOf (get_or tasks.queues.items i q) y) (sym f) part.seat),
        ap ruled_capacity e ∙ part.sized,
      )

  pub changed : (tasks : Tasks T) (pass : TaskPass T) (i : ℕ) (q : _) (p : Pass T (Pile T)) (h : Hand T) → IsPassOf tasks pass → i < 10 → q ≡ get_or tasks.queues.items i q
      → IsSeatOf q p → view p ≡ pile (h ∷ []) tasks.passes → h.number ≡ pass.number → IsPassOf tasks (with_part pass i p)
  changed tasks pass i q p h is at e seat v number = record {
    queues = is.queues;
    parts = length-set pass.parts.items i p ∙ is.parts;
    each = λ j r s within. other j r s within (ℕ_discrete j i);
  } where
    other : (j : ℕ) (r : _) (s : Pass T (Pile T)) → j < 10 → Dec (j ≡ i) → IsPartOf tasks.room tasks.passes pass.number (slice_index_or tasks.queues.items j r) (slice_index_or (set pass.parts.items i p) j s)
    other j r s within (no apart) =
        subst (λ y. IsPartOf tasks.room tasks.passes pass.number (slice_index_or tasks.queues.items j r) y) (sym (get_or-set_other pass.parts.items i j p s apart)) (is.each j r s within)
    other j r s within (yes same) =
        let old = is.each i q p at in
        let mine : IsPartOf tasks.room tasks.passes pass.number q p = record { sized = ap ruled_capacity e ∙ old.sized; seat = seat; own = (h, v, number) } in
        let there : slice_index_or tasks.queues.items j r ≡ q = ap (λ k. get_or tasks.queues.items k r) same ∙ get_or_default tasks.queues.items i r q (let l = is.queues in omega arith) ∙ sym e in
        let now : slice_index_or (set pass.parts.items i p) j s ≡ p = ap (λ k. get_or (set pass.parts.items i p) k s) same ∙ get_or-set_same pass.parts.items i p s (let l = is.parts in omega arith) in
        subst (λ y. IsPartOf tasks.room tasks.passes pass.number y (slice_index_or (set pass.parts.items i p) j s)) (sym there) (subst (λ y. IsPartOf tasks.room tasks.passes pass.number q y) (sym now) mine)

  pub hands_after : (pass : TaskPass T) (i : ℕ) (p : Pass T (Pile T)) (h : Hand T) (passes : ℕ) → view p ≡ pile (h ∷ []) passes → hands_of (with_part pass i p) ≡ slice_set (hands_of pass) i h
  hands_after pass i p h passes v = map-set shown pass.parts.items i p ∙ ap (λ (y : Pile T). set (map shown pass.parts.items) i (first_hand y.hands)) v

  pub hands_same : (pass : TaskPass T) (i : ℕ) (p : Pass T (Pile T)) (h : Hand T) (passes : ℕ) → view p ≡ pile (h ∷ []) passes → hand_at i pass ≡ h → hands_of (with_part pass i p) ≡ hands_of pass
  hands_same pass i p h passes v same = hands_after pass i p h passes v ∙ ap (λ (y : Hand T). set (hands_of pass) i y) (sym same) ∙ set-get_or (hands_of pass) i no_hand

  -- what a pass shows after the call of its token
  module _ (tasks : Tasks T) (pass : TaskPass T) (i : ℕ) (q : _) (p p' : Pass T (Pile T)) (is : IsPassOf tasks pass) (at : i < 10) (e : q ≡ get_or tasks.queues.items i q) (f : p ≡ get_or pass.parts.items i p) (seat : IsSeatOf q p') where
    pub same_view : view p' ≡ view p → IsPassOf tasks (with_part pass i p') × (hands_of (with_part pass i p') ≡ hands_of pass)
    same_view v =
        let own = own_hand tasks pass i q p is at e f in
        let now : view p' ≡ pile (hand_at i pass ∷ []) tasks.passes = v ∙ own.0 in
        (changed tasks pass i q p' (hand_at i pass) is at e seat now own.1, hands_same pass i p' (hand_at i pass) tasks.passes now refl)

    pub new_view : (change : Hand T → Hand T) → ((h : Hand T) → (change h).number ≡ h.number) → view p' ≡ pile (with_first change (view p).hands) (view p).passes
        → IsPassOf tasks (with_part pass i p') × (hands_of (with_part pass i p') ≡ slice_set (hands_of pass) i (change (hand_at i pass)))
    new_view change keeps v =
        let own = own_hand tasks pass i q p is at e f in
        let now : view p' ≡ pile (change (hand_at i pass) ∷ []) tasks.passes = v ∙ ap (λ (y : Pile T). pile (with_first change y.hands) y.passes) own.0 in
        (changed tasks pass i q p' (change (hand_at i pass)) is at e seat now (keeps (hand_at i pass) ∙ own.1), hands_after pass i p' (change (hand_at i pass)) tasks.passes now)

    was_holding : (n : ℕ) → WasFull n (view p) → WasHolding n tasks.passes (hand_at i pass)
    was_holding n was =
        let own = own_hand tasks pass i q p is at e f in
        let w = was (hand_at i pass) [] (ap (λ (y : Pile T). y.hands) own.0) in
        subst (λ m. WasHolding n m (hand_at i pass)) (ap (λ (y : Pile T). y.passes) own.0) w

    was_oldest : (k : ℕ) (x : T) → ((h : Hand T) (hs : List (Hand T)) → (view p).hands ≡ h ∷ hs → WasOldest k x (view p).passes h) → WasOldest k x tasks.passes (hand_at i pass)
    was_oldest k x was =
        let own = own_hand tasks pass i q p is at e f in
        let w = was (hand_at i pass) [] (ap (λ (y : Pile T). y.hands) own.0) in
        subst (λ m. WasOldest k x m (hand_at i pass)) (ap (λ (y : Pile T). y.passes) own.0) w

    pub put_pass : (r : Result (Unit {0}) T) (x : T) → MatchResult r (λ _. view p' ≡ pile (with_first (after_put x) (view p).hands) (view p).passes) (λ y. (y ≡ x) × (view p' ≡ view p) × WasFull (ruled_capacity q) (view p))
        → IsPassOf tasks (with_part pass i p')
    put_pass (Ok u) x h = (new_view (after_put x) (λ k. refl) h).0
    put_pass (Err y) x h = (same_view h.1).0

    pub put_task : (r : Result (Unit {0}) T) (x : T) → MatchResult r (λ _. view p' ≡ pile (with_first (after_put x) (view p).hands) (view p).passes) (λ y. (y ≡ x) × (view p' ≡ view p) × WasFull (ruled_capacity q) (view p))
        → MatchResult r (λ _. hands_of (with_part pass i p') ≡ slice_set (hands_of pass) i (after_put x (hand_at i pass)))
        (λ y. (y ≡ x) × (hands_of (with_part pass i p') ≡ hands_of pass) × WasHolding tasks.room tasks.passes (hand_at i pass))
    put_task (Ok u) x h = (new_view (after_put x) (λ k. refl) h).1
    put_task (Err y) x h = (h.0, (same_view h.1).1, was_holding tasks.room (subst (λ n. WasFull n (view p)) (own_hand tasks pass i q p is at e f).3 h.2))

    pub take_pass : (r : Option T) → MatchOption r ((view p' ≡ view p) × WasFull 0 (view p)) (λ x. OldestTake (view p) x (view p'))
        → IsPassOf tasks (with_part pass i p')
    take_pass None h = (same_view h.0).0
    take_pass (Some x) h = (new_view (after_take h.0 x) (λ k. refl) h.1).0

    pub take_task : (r : Option T) → MatchOption r ((view p' ≡ view p) × WasFull 0 (view p)) (λ x. OldestTake (view p) x (view p'))
        → MatchOption r ((hands_of (with_part pass i p') ≡ hands_of pass) × WasHolding 0 tasks.passes (hand_at i pass))
        (λ x. (k : ℕ) × (hands_of (with_part pass i p') ≡ slice_set (hands_of pass) i (after_take k x (hand_at i pass))) × WasOldest k x tasks.passes (hand_at i pass))
    take_task None h = ((same_view h.0).1, was_holding 0 h.1)
    take_task (Some x) h = (h.0, (new_view (after_take h.0 x) (λ k. refl) h.1).1, was_oldest h.0 x h.2)
