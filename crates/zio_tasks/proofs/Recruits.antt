-- How the passes get their tokens.
use Rattle.std.proofs.Common.{◌≡◌, ℕ, zero, suc, ◌+◌, ◌-◌, ◌<◌, ◌≤◌, List, [], ◌∷◌, ◌++◌, map, length, set, take, drop, get_or, slice_index_or, replicate, refl, sym, ap, ◌∙◌, arith, subst, Option}
use Rattle.std.proofs.lemmas.List.{get_or-set_same, get_or-set_other, get_or_default, length-append}
use native.Mathlib.Decide.{ℕ_discrete}
use Rattle.crossbeam_queue.specs.declared.array_queue.Doing.{Doing}
use Rattle.crossbeam_queue.specs.declared.array_queue.Slotted.{Slotted}
use Rattle.crossbeam_queue.specs.Passes.{Pass, view, ruled_capacity}
use Rattle.zio_tasks.specs.declared.hand.Pile.{Pile}
use Rattle.zio_tasks.specs.declared.tasks.TaskPass.{TaskPass}
use Rattle.zio_tasks.specs.declared.tasks.Tasks.{Tasks}
use Rattle.zio_tasks.specs.Hands.{hand}
use Rattle.zio_tasks.specs.Rule.{pile, newcomers}
use Rattle.zio_tasks.specs.Team.{first_hand, IsNewPart, IsRecruit, IsNew, Joins}
use Rattle.zio_tasks.proofs.Moves.{next_newcomer}

pub at_old : {A : Type 0} (xs ys : List A) (i : ℕ) (d : A) → i < length xs → get_or (xs ++ ys) i d ≡ get_or xs i d
at_old [] ys i d h = absurd (omega arith)
at_old (x ∷ xs) ys zero d h = refl
at_old (x ∷ xs) ys (suc i) d h = at_old xs ys i d (omega arith)

pub at_new : {A : Type 0} (xs : List A) (y : A) (i : ℕ) (d : A) → i ≡ length xs → get_or (xs ++ y ∷ []) i d ≡ y
at_new [] y zero d h = refl
at_new [] y (suc i) d h = absurd (omega arith)
at_new (x ∷ xs) y zero d h = absurd (omega arith)
at_new (x ∷ xs) y (suc i) d h = at_new xs y i d (omega arith)

-- a slice of the whole of a list, written back
pub written_back : {A : Type 0} (new old : List A) → length new ≡ length old → take (length old) (new ++ drop (length new) old) ≡ new
written_back [] [] e = refl
written_back [] (y ∷ ys) e = absurd (omega arith)
written_back (x ∷ xs) [] e = absurd (omega arith)
written_back (x ∷ xs) (y ∷ ys) e = ap (λ l. x ∷ l) (written_back xs ys (omega arith))

pub dealt_view : (T : Type 0) (k n : ℕ) (v : Pile T) → k < n → v ≡ pile (newcomers k (n - k)) n → v ≡ pile (hand k [] [] ∷ newcomers (k + 1) (n - (k + 1))) n
dealt_view T k n v h e = e ∙ ap (λ l. pile l n) (next_newcomer T k n h)

module _ {T Q A : Type 0} (n k : ℕ) (queue : Slotted (Option T) (Doing T (Pile T)) Q A) (initial team : List (TaskPass T)) (item after : TaskPass T) (within : k < length team) (is : item ≡ get_or team k item)
    (before : (j : ℕ) (d : TaskPass T) → j < k → Joins n j queue (slice_index_or initial j d) (slice_index_or team j d))
    (rest : (j : ℕ) (d : TaskPass T) → k ≤ j → slice_index_or team j d ≡ slice_index_or initial j d)
    (joins : Joins n k queue (get_or team k item) after) where
  joined : (j : ℕ) (d : TaskPass T) → j < k + 1 → Dec (j ≡ k) → Joins n j queue (slice_index_or initial j d) (slice_index_or (set team k after) j d)
  joined j d h (no apart) = subst (λ y. Joins n j queue (slice_index_or initial j d) y) (sym (get_or-set_other team k j after d apart)) (before j d (omega arith))
  joined j d h (yes same) =
      let now : slice_index_or (set team k after) j d ≡ after = ap (λ i. get_or (set team k after) i d) same ∙ get_or-set_same team k after d within in
      let was : get_or team k item ≡ slice_index_or initial j d = get_or_default team k item d within ∙ ap (λ i. get_or team i d) (sym same) ∙ rest j d (omega arith) in
      subst (λ y. Joins n j queue (slice_index_or initial j d) y) (sym now) (subst (λ y. Joins n j queue y after) was (subst (λ i. Joins n i queue (get_or team k item) after) (sym same) joins))

  pub join_step : (j : ℕ) (d : TaskPass T) → j < k + 1 → Joins n j queue (slice_index_or initial j d) (slice_index_or (set team k after) j d)
  join_step j d h = joined j d h (ℕ_discrete j k)

  pub join_rest : (j : ℕ) (d : TaskPass T) → k + 1 ≤ j → slice_index_or (set team k after) j d ≡ slice_index_or initial j d
  join_rest j d h = get_or-set_other team k j after d (λ e. omega arith) ∙ rest j d (omega arith)

-- one more queue for all
module _ {T Q A : Type 0} (room n count number : ℕ) (queues : List (Slotted (Option T) (Doing T (Pile T)) Q A)) (queue : Slotted (Option T) (Doing T (Pile T)) Q A) (before after : TaskPass T)
    (sized : ruled_capacity queue ≡ room) (many : length queues ≡ count) (is : IsRecruit room n count number queues before) (joins : Joins n number queue before after) where
  each_more : (i : ℕ) (q : Slotted (Option T) (Doing T (Pile T)) Q A) (s : Pass T (Pile T)) → i < count + 1 → Dec (i ≡ count) → IsNewPart room n number (slice_index_or (queues ++ queue ∷ []) i q) (slice_index_or after.parts.items i s)
  each_more i q s h (no apart) =
      let l = is.parts in
      let a : slice_index_or (queues ++ queue ∷ []) i q ≡ slice_index_or queues i q = at_old queues (queue ∷ []) i q (omega arith) in
      let b : slice_index_or after.parts.items i s ≡ slice_index_or before.parts.items i s = ap (λ l. get_or l i s) joins.parts ∙ at_old before.parts.items (joins.part ∷ []) i s (omega arith) in
      subst (λ y. IsNewPart room n number y (slice_index_or after.parts.items i s)) (sym a) (subst (λ y. IsNewPart room n number (slice_index_or queues i q) y) (sym b) (is.each i q s (omega arith)))
  each_more i q s h (yes same) =
      let l = is.parts in
      let a : slice_index_or (queues ++ queue ∷ []) i q ≡ queue = at_new queues queue i q (omega arith) in
      let b : slice_index_or after.parts.items i s ≡ joins.part = ap (λ l. get_or l i s) joins.parts ∙ at_new before.parts.items joins.part i s (omega arith) in
      subst (λ y. IsNewPart room n number y (slice_index_or after.parts.items i s)) (sym a) (subst (λ y. IsNewPart room n number queue y) (sym b) (record { sized = sized; seat = joins.seat; fresh = joins.fresh }))

  pub one_more_queue : IsRecruit room n (count + 1) number (queues ++ queue ∷ []) after
  one_more_queue = record {
    numbered = joins.same ∙ is.numbered;
    parts = ap length joins.parts ∙ (let l = is.parts in omega (arith, length-append before.parts.items (joins.part ∷ [])));
    each = λ i q s h. each_more i q s h (ℕ_discrete i count);
  }

-- with all ten the pass is ready
hands_idle : {T : Type 0} (number passes n : ℕ) (parts : List (Pass T (Pile T))) → length parts ≡ n → ((i : ℕ) (s : Pass T (Pile T)) → i < n → view (get_or parts i s) ≡ pile (hand number [] [] ∷ []) passes)
    → map (λ (s : Pass T (Pile T)). first_hand (view s).hands) parts ≡ replicate n (hand number [] [])
hands_idle number passes zero [] l f = refl
hands_idle number passes (suc n) [] l f = absurd (omega arith)
hands_idle number passes zero (p ∷ ps) l f = absurd (omega arith)
hands_idle {T} number passes (suc n) (p ∷ ps) l f = λ k. ap (λ (y : Pile T). first_hand y.hands) (f 0 p (omega arith)) k ∷ hands_idle number passes n ps (omega arith) (λ i s h. f (suc i) s (omega arith)) k

pub ready : {T : Type 0} (tasks : Tasks T) (number : ℕ) (pass : TaskPass T) → length tasks.queues.items ≡ 10 → IsRecruit tasks.room tasks.passes 10 number tasks.queues.items pass → IsNew tasks number pass
ready tasks number pass ten is = record {
  own = record {
    queues = ten;
    parts = is.parts;
    each = λ i q s h. (let e = is.each i q s h in record { sized = e.sized; seat = e.seat; own = (hand number [] [], e.fresh, sym is.numbered) });
  };
  numbered = is.numbered;
  idle = hands_idle number tasks.passes 10 pass.parts.items is.parts (λ i s h. (is.each i (get_or tasks.queues.items 0 (queue_there tasks.queues.items ten)) s h).fresh);
} where
  queue_there : {B : Type 0} (l : List B) → length l ≡ 10 → B
  queue_there [] e = absurd (omega arith)
  queue_there (x ∷ xs) e = x

-- a turn of the loop over the queues
pub queue_joined : {T Q A : Type 0} (room n count : ℕ) (queues queues' : List (Slotted (Option T) (Doing T (Pile T)) Q A)) (queue : Slotted (Option T) (Doing T (Pile T)) Q A) (team before after now : List (TaskPass T)) → ruled_capacity queue ≡ room → length queues ≡ count → length team ≡ n
    → before ≡ team → queues' ≡ queues ++ queue ∷ [] → now ≡ after → length after ≡ length before
    → ((j : ℕ) (d : TaskPass T) → j < n → IsRecruit room n count j queues (slice_index_or team j d))
    → ((j : ℕ) (d : TaskPass T) → j < length before → Joins (length before) j queue (slice_index_or before j d) (slice_index_or after j d))
    → (length queues' ≡ count + 1) × (length now ≡ n) × ((j : ℕ) (d : TaskPass T) → j < n → IsRecruit room n (count + 1) j queues' (slice_index_or now j d))
queue_joined room n count queues queues' queue team before after now sized many size same more is same_length each joins = (
  ap length more ∙ omega (arith, length-append queues (queue ∷ []), many),
  ap length is ∙ same_length ∙ ap length same ∙ size,
  λ j d h.
      let all : length before ≡ n = ap length same ∙ size in
      let old = subst (λ l. IsRecruit room n count j queues (slice_index_or l j d)) (sym same) (each j d h) in
      let join = subst (λ m. Joins m j queue (slice_index_or before j d) (slice_index_or after j d)) all (joins j d (omega arith)) in
      subst (λ l. IsRecruit room n (count + 1) j l (slice_index_or now j d)) (sym more)
      (subst (λ l. IsRecruit room n (count + 1) j (queues ++ queue ∷ []) (slice_index_or l j d)) (sym is)
      (one_more_queue room n count j queues queue (slice_index_or before j d) (slice_index_or after j d) sized many old join)),
)
