-- How `settle` gathers the hands of all passes and deals them out again.
use Rattle.std.proofs.Common.{◌≡◌, ℕ, zero, suc, ◌+◌, ◌<◌, ◌≤◌, List, [], ◌∷◌, ◌++◌, map, length, set, take, drop, get_or, slice_index_or, slice_set, refl, sym, ap, ◌∙◌, arith, subst, Option, Some, None, MatchOption, All}
use Rattle.std.proofs.lemmas.List.{map-set, get_or-set_same, get_or-set_other, get_or_default, length-set, set-get_or, map-append}
use Rattle.std.proofs.lemmas.List.Elements.{All-set, All-get_or, All-nil, All-cons, All-head, All-tail}
use native.Mathlib.Decide.{ℕ_discrete}
use Rattle.crossbeam_queue.specs.Fifo.{Forks}
use Rattle.crossbeam_queue.specs.Passes.{Pass, view, IsPassOf as IsSeatOf}
use Rattle.zio_tasks.specs.declared.hand.Hand.{Hand}
use Rattle.zio_tasks.specs.declared.hand.Pile.{Pile}
use Rattle.zio_tasks.specs.declared.tasks.TaskPass.{TaskPass}
use Rattle.zio_tasks.specs.declared.tasks.Tasks.{Tasks}
use Rattle.zio_tasks.specs.Hands.{Stands}
use Rattle.zio_tasks.specs.Rule.{pile, first_of, rest_of, with_first, after_take, Fair, EmptyWith, WholeTake}
use Rattle.zio_tasks.specs.Team.{no_hand, first_hand, hands_of, hand_at, hands_at, team_hands, first_takes, number_of, IsPartOf, IsPassOf, AreAll, IsSettled, TakesOldest, Lent, Given}
use Rattle.zio_tasks.proofs.Moves.{deals}
use Rattle.zio_tasks.proofs.Passes.{own_hand, shown}
use Rattle.zio_tasks.proofs.Order.{all_taken}

module _ {X : Type 0} where
  pub set_set : (xs : List X) (i : ℕ) (a b : X) → set (set xs i a) i b ≡ set xs i b
  set_set [] i a b = refl
  set_set (x ∷ xs) zero a b = refl
  set_set (x ∷ xs) (suc i) a b = ap (λ l. x ∷ l) (set_set xs i a b)

  take_next : (xs : List X) (k : ℕ) (d : X) → k < length xs → take (suc k) xs ≡ take k xs ++ get_or xs k d ∷ []
  take_next [] k d h = absurd (omega arith)
  take_next (x ∷ xs) zero d h = refl
  take_next (x ∷ xs) (suc k) d h = ap (λ l. x ∷ l) (take_next xs k d (omega arith))

  take_all : (xs : List X) (k : ℕ) → length xs ≤ k → take k xs ≡ xs
  take_all [] zero h = refl
  take_all [] (suc k) h = refl
  take_all (x ∷ xs) zero h = absurd (omega arith)
  take_all (x ∷ xs) (suc k) h = ap (λ l. x ∷ l) (take_all xs k (omega arith))

  -- what holds of each item up to k, and of the next
  module _ (R : ℕ → X → X → Type 0) (k : ℕ) (initial team : List X) (item after : X) (within : k < length team)
      (before : (j : ℕ) (d : X) → j < k → R j (slice_index_or initial j d) (slice_index_or team j d))
      (rest : (j : ℕ) (d : X) → k ≤ j → slice_index_or team j d ≡ slice_index_or initial j d)
      (now : R k (get_or team k item) after) where
    at_turn : (j : ℕ) (d : X) → j < k + 1 → Dec (j ≡ k) → R j (slice_index_or initial j d) (slice_index_or (set team k after) j d)
    at_turn j d h (no apart) = subst (λ y. R j (slice_index_or initial j d) y) (sym (get_or-set_other team k j after d apart)) (before j d (omega arith))
    at_turn j d h (yes same) =
        let there : slice_index_or (set team k after) j d ≡ after = ap (λ i. get_or (set team k after) i d) same ∙ get_or-set_same team k after d within in
        let was : get_or team k item ≡ slice_index_or initial j d = get_or_default team k item d within ∙ ap (λ i. get_or team i d) (sym same) ∙ rest j d (omega arith) in
        subst (λ y. R j (slice_index_or initial j d) y) (sym there) (subst (λ y. R j y after) was (subst (λ i. R i (get_or team k item) after) (sym same) now))

    pub turn : (j : ℕ) (d : X) → j < k + 1 → R j (slice_index_or initial j d) (slice_index_or (set team k after) j d)
    turn j d h = at_turn j d h (ℕ_discrete j k)

    pub turn_rest : (j : ℕ) (d : X) → k + 1 ≤ j → slice_index_or (set team k after) j d ≡ slice_index_or initial j d
    turn_rest j d h = get_or-set_other team k j after d (λ e. omega arith) ∙ rest j d (omega arith)

item_there : {A : Type 0} (l : List A) → 0 < length l → A
item_there [] h = absurd (omega arith)
item_there (x ∷ xs) h = x

at_map_any : {A B : Type 0} (f : A → B) (xs : List A) (i : ℕ) (d : B) (e : A) → i < length xs → get_or (map f xs) i d ≡ f (get_or xs i e)
at_map_any f [] i d e h = absurd (omega arith)
at_map_any f (x ∷ xs) zero d e h = refl
at_map_any f (x ∷ xs) (suc i) d e h = at_map_any f xs i d e (omega arith)

module _ {T : Type 0} where
  deal_list : (port : ℕ) (hs : List (Hand T)) (passes : ℕ) → 0 < length hs → Forks Fair port (pile hs passes) (pile (rest_of hs) passes) (pile (first_of hs) passes)
  deal_list port [] passes some_hand = absurd (omega arith)
  deal_list port (h ∷ hs) passes some_hand = deals port h hs passes

  pub deal_any : (port : ℕ) (v : Pile T) → 0 < length v.hands → Forks Fair port v (pile (rest_of v.hands) v.passes) (pile (first_of v.hands) v.passes)
  deal_any port v some_hand = deal_list port v.hands v.passes some_hand

  pub hand_lent : (tasks : Tasks T) (pass : TaskPass T) (i : ℕ) (q : _) (p s : Pass T (Pile T)) → IsPassOf tasks pass → i < 10 → q ≡ get_or tasks.queues.items i q → p ≡ get_or pass.parts.items i p → s ≡ p → 0 < length (view s).hands
  hand_lent tasks pass i q p s is at e f same = subst (λ (y : Pile T). 0 < length y.hands) (sym (ap view same ∙ (own_hand tasks pass i q p is at e f).0)) (omega arith)

  -- a pass with another token, which has this hand
  pub given_pass : (tasks : Tasks T) (pass after : TaskPass T) (i : ℕ) (h : Hand T) → IsPassOf tasks pass → i < 10 → h.number ≡ pass.number → Given tasks i h pass after
      → IsPassOf tasks after × (hands_of after ≡ slice_set (hands_of pass) i h)
  given_pass tasks pass after i h is at number given = (
    record {
      queues = is.queues;
      parts = ap length given.2 ∙ length-set pass.parts.items i given.1 ∙ is.parts;
      each = λ j q s within. subst (λ l. IsPartOf tasks.room tasks.passes after.number (slice_index_or tasks.queues.items j q) (slice_index_or l j s)) (sym given.2)
          (subst (λ n. IsPartOf tasks.room tasks.passes n (slice_index_or tasks.queues.items j q) (slice_index_or (set pass.parts.items i given.1) j s)) (sym given.0) (part j q s within (ℕ_discrete j i)));
    },
    ap (map shown) given.2 ∙ map-set shown pass.parts.items i given.1 ∙ ap (λ (y : Pile T). set (map shown pass.parts.items) i (first_hand y.hands)) given.4,
  ) where
    part : (j : ℕ) (q : _) (s : Pass T (Pile T)) → j < 10 → Dec (j ≡ i) → IsPartOf tasks.room tasks.passes pass.number (slice_index_or tasks.queues.items j q) (slice_index_or (set pass.parts.items i given.1) j s)
    part j q s within (no apart) = subst (λ y. IsPartOf tasks.room tasks.passes pass.number (slice_index_or tasks.queues.items j q) y) (sym (get_or-set_other pass.parts.items i j given.1 s apart)) (is.each j q s within)
    part j q s within (yes same) =
        let now : slice_index_or (set pass.parts.items i given.1) j s ≡ given.1 = ap (λ k. get_or (set pass.parts.items i given.1) k s) same ∙ get_or-set_same pass.parts.items i given.1 s (let l = is.parts in omega arith) in
        let queue : slice_index_or tasks.queues.items j q ≡ slice_index_or tasks.queues.items i q = ap (λ k. get_or tasks.queues.items k q) same in
        subst (λ y. IsPartOf tasks.room tasks.passes pass.number (slice_index_or tasks.queues.items j q) y) (sym now)
        (record { sized = (is.each j q s within).sized; seat = subst (λ y. IsSeatOf y given.1) (sym queue) (given.3 q); own = (h, given.4, number) })

  pub own_number : (tasks : Tasks T) (pass : TaskPass T) (i : ℕ) → IsPassOf tasks pass → i < 10 → (hand_at i pass).number ≡ pass.number
  own_number tasks pass i is at =
      let l = is.queues in let m = is.parts in
      let q = item_there tasks.queues.items (omega arith) in
      let p = item_there pass.parts.items (omega arith) in
      (own_hand tasks pass i (get_or tasks.queues.items i q) (get_or pass.parts.items i p) is at (get_or_default tasks.queues.items i q (get_or tasks.queues.items i q) (omega arith)) (get_or_default pass.parts.items i p (get_or pass.parts.items i p) (omega arith))).1

  pub lent_again : (i : ℕ) (a b c : TaskPass T) → Lent i a b → Lent i b c → Lent i a c
  lent_again i a b c one two = (two.0 ∙ one.0, two.1, two.2 ∙ ap (λ l. set l i two.1) one.2 ∙ set_set a.parts.items i one.1 two.1)

  pub given_lent : (tasks : Tasks T) (i : ℕ) (h : Hand T) (a b : TaskPass T) → Given tasks i h a b → Lent i a b
  given_lent tasks i h a b given = (given.0, given.1, given.2)

  pub lent_given : (tasks : Tasks T) (i : ℕ) (h : Hand T) (a b c : TaskPass T) → Lent i a b → Given tasks i h b c → Given tasks i h a c
  lent_given tasks i h a b c one two = (two.0 ∙ one.0, two.1, two.2 ∙ ap (λ l. set l i two.1) one.2 ∙ set_set a.parts.items i one.1 two.1, two.3, two.4)

  -- the passes once the first has given a spare token
  module _ (tasks : Tasks T) (passes : List (TaskPass T)) (i : ℕ) (first spared : TaskPass T) (are : AreAll tasks passes) (at : i < 10) (is : first ≡ get_or passes 0 first) (given : Given tasks i (hand_at i first) first spared) where
    first_own : IsPassOf tasks first
    first_own = subst (IsPassOf tasks) (sym is) (All-get_or (IsPassOf tasks) passes 0 first are.some are.own)

    pub spared_all : All (IsPassOf tasks) (set passes 0 spared)
    spared_all = All-set (IsPassOf tasks) passes 0 spared (given_pass tasks first spared i (hand_at i first) first_own at (own_number tasks first i first_own at) given).0 are.own

    -- whose hands at this queue are what they were
    pub spared_hands : hands_at i (set passes 0 spared) ≡ hands_at i passes
    spared_hands =
        let l = first_own.parts in
        let whole = (given_pass tasks first spared i (hand_at i first) first_own at (own_number tasks first i first_own at) given).1 in
        let same : hand_at i spared ≡ hand_at i first = ap (λ hs. get_or hs i no_hand) whole ∙ ap (λ hs. get_or hs i no_hand) (set-get_or (hands_of first) i no_hand) in
        map-set (hand_at i) passes 0 spared ∙ ap (λ h. set (map (hand_at i) passes) 0 h) (same ∙ ap (hand_at i) is ∙ sym (at_map_any (hand_at i) passes 0 (hand_at i first) first are.some)) ∙ set-get_or (map (hand_at i) passes) 0 (hand_at i first)

    -- what was lent of them is lent of the passes
    pub spared_lent : (final : List (TaskPass T)) → ((j : ℕ) (d : TaskPass T) → j < length passes → Lent i (slice_index_or (set passes 0 spared) j d) (slice_index_or final j d))
        → (j : ℕ) (d : TaskPass T) → j < length passes → Lent i (slice_index_or passes j d) (slice_index_or final j d)
    spared_lent final lent j d h = at_first j d h (ℕ_discrete j 0) where
      at_first : (j : ℕ) (d : TaskPass T) → j < length passes → Dec (j ≡ 0) → Lent i (slice_index_or passes j d) (slice_index_or final j d)
      at_first j d h (no apart) = subst (λ y. Lent i y (slice_index_or final j d)) (get_or-set_other passes 0 j spared d apart) (lent j d h)
      at_first j d h (yes same) =
          let now : slice_index_or (set passes 0 spared) j d ≡ spared = ap (λ k. get_or (set passes 0 spared) k d) same ∙ get_or-set_same passes 0 spared d are.some in
          let was : slice_index_or passes j d ≡ first = ap (λ k. get_or passes k d) same ∙ get_or_default passes 0 d first are.some ∙ sym is in
          subst (λ y. Lent i y (slice_index_or final j d)) (sym was) (lent_again i first spared (slice_index_or final j d) (given_lent tasks i (hand_at i first) first spared given) (subst (λ y. Lent i y (slice_index_or final j d)) now (lent j d h)))

  -- one more hand on the pile
  pub gathered : (i k n : ℕ) (init team : List (TaskPass T)) (item : TaskPass T) (hands : List (Hand T)) → k < length init → get_or team k item ≡ get_or init k item → hands ≡ hands_at i (take k init)
      → hands ++ hand_at i (get_or team k item) ∷ [] ≡ hands_at i (take (k + 1) init)
  gathered i k n init team item hands h same e =
      ap (λ l. l ++ hand_at i (get_or team k item) ∷ []) e ∙ ap (λ y. hands_at i (take k init) ++ hand_at i y ∷ []) same ∙ sym (map-append (hand_at i) (take k init) (get_or init k item ∷ [])) ∙ ap (hands_at i) (sym (take_next init k item h)) ∙ ap (λ m. hands_at i (take m init)) (let s : suc k ≡ k + 1 = omega arith in s)

  pub all_gathered : (i k : ℕ) (init : List (TaskPass T)) → length init ≤ k → hands_at i (take k init) ≡ hands_at i init
  all_gathered i k init h = ap (hands_at i) (take_all init k h)

  length_hands : (i : ℕ) (ps : List (TaskPass T)) → length (hands_at i ps) ≡ length ps
  length_hands i [] = refl
  length_hands i (p ∷ ps) = ap suc (length_hands i ps)

  rest_drop : (hs : List (Hand T)) (k : ℕ) → k < length hs → rest_of (drop k hs) ≡ drop (suc k) hs
  rest_drop [] k h = absurd (omega arith)
  rest_drop (x ∷ xs) zero h = refl
  rest_drop (x ∷ xs) (suc k) h = rest_drop xs k (omega arith)

  first_drop : (hs : List (Hand T)) (k : ℕ) (d : Hand T) → k < length hs → first_hand (drop k hs) ≡ get_or hs k d
  first_drop [] k d h = absurd (omega arith)
  first_drop (x ∷ xs) zero d h = refl
  first_drop (x ∷ xs) (suc k) d h = first_drop xs k d (omega arith)

  pub pile_dealt : (hs : List (Hand T)) (k n : ℕ) (v w : Pile T) → k < length hs → v ≡ pile (drop k hs) n → w ≡ pile (rest_of v.hands) n → w ≡ pile (drop (k + 1) hs) n
  pile_dealt hs k n v w h e f = f ∙ ap (λ (y : Pile T). pile (rest_of y.hands) n) e ∙ ap (λ l. pile l n) (rest_drop hs k h ∙ ap (λ m. drop m hs) (let s : suc k ≡ k + 1 = omega arith in s))

  pub hand_dealt : (hs : List (Hand T)) (k n : ℕ) (v : Pile T) (d : Hand T) → k < length hs → v ≡ pile (drop k hs) n → first_hand v.hands ≡ get_or hs k d
  hand_dealt hs k n v d h e = ap (λ (y : Pile T). first_hand y.hands) e ∙ first_drop hs k d h

  number : Hand T → ℕ
  number h = h.number

  -- each pass's hands with the new one at this queue
  each_set : ℕ → List (Hand T) → List (List (Hand T)) → List (List (Hand T))
  each_set i [] ts = []
  each_set i (h ∷ hs) [] = []
  each_set i (h ∷ hs) (t ∷ ts) = slice_set t i h ∷ each_set i hs ts

  final_list : (tasks : Tasks T) (i : ℕ) (hs : List (Hand T)) (ps qs : List (TaskPass T)) → i < 10 → length qs ≡ length ps → map (λ (h : Hand T). h.number) hs ≡ map number_of ps → All (IsPassOf tasks) ps
      → ((j : ℕ) (d : TaskPass T) (h : Hand T) → j < length ps → Given tasks i (slice_index_or hs j h) (slice_index_or ps j d) (slice_index_or qs j d))
      → All (IsPassOf tasks) qs × (map number_of qs ≡ map number_of ps) × (team_hands qs ≡ each_set i hs (team_hands ps))
  unfolding each_set
  final_list tasks i [] [] [] at l e own given = (All-nil (IsPassOf tasks), refl, refl)
  final_list tasks i [] [] (q ∷ qs) at l e own given = absurd (omega arith)
  final_list tasks i [] (p ∷ ps) qs at l e own given = absurd (cc)
  final_list tasks i (h ∷ hs) [] qs at l e own given = absurd (cc)
  final_list tasks i (h ∷ hs) (p ∷ ps) [] at l e own given = absurd (omega arith)
  final_list tasks i (h ∷ hs) (p ∷ ps) (q ∷ qs) at l e own given =
      let mine : h.number ≡ p.number = cc in
      let theirs : map (λ (y : Hand T). y.number) hs ≡ map number_of ps = cc in
      let one = given 0 p h (omega arith) in
      let first = given_pass tasks p q i h (All-head (IsPassOf tasks) p ps own) at mine one in
      let more = final_list tasks i hs ps qs at (omega arith) theirs (All-tail (IsPassOf tasks) p ps own) (λ j d y h. given (suc j) d y (omega arith)) in (
        All-cons (IsPassOf tasks) q qs first.0 more.0,
        (λ k. one.0 k ∷ more.1 k),
        (λ k. first.1 k ∷ more.2 k),
      )

  same_numbers : (tasks : Tasks T) (i : ℕ) (ps : List (TaskPass T)) → i < 10 → All (IsPassOf tasks) ps → map (λ (h : Hand T). h.number) (hands_at i ps) ≡ map number_of ps
  same_numbers tasks i [] at own = refl
  same_numbers tasks i (p ∷ ps) at own = λ k. own_number tasks p i (All-head (IsPassOf tasks) p ps own) at k ∷ same_numbers tasks i ps at (All-tail (IsPassOf tasks) p ps own) k

  same_set : (i : ℕ) (ps : List (TaskPass T)) → each_set i (hands_at i ps) (team_hands ps) ≡ team_hands ps
  unfolding each_set
  same_set i [] = refl
  same_set i (p ∷ ps) = λ k. set-get_or (hands_of p) i no_hand k ∷ same_set i ps k

  first_set : (i by : ℕ) (x : T) (ps : List (TaskPass T)) → each_set i (with_first (after_take by x) (hands_at i ps)) (team_hands ps) ≡ first_takes i by x (team_hands ps)
  unfolding each_set
  first_set i by x [] = refl
  first_set i by x (p ∷ ps) = λ k. slice_set (hands_of p) i (after_take by x (hand_at i p)) ∷ same_set i ps k

  first_numbers : (by : ℕ) (x : T) (hs : List (Hand T)) → map (λ (h : Hand T). h.number) (with_first (after_take by x) hs) ≡ map (λ (h : Hand T). h.number) hs
  first_numbers by x [] = refl
  first_numbers by x (h ∷ hs) = refl

  pub first_length : (by : ℕ) (x : T) (hs : List (Hand T)) → length (with_first (after_take by x) hs) ≡ length hs
  first_length by x [] = refl
  first_length by x (h ∷ hs) = refl

  -- what the passes show after `settle`
  module _ (tasks : Tasks T) (i : ℕ) (ps lent qs : List (TaskPass T)) (are : AreAll tasks ps) (at : i < 10) (all done : Pass T (Pile T)) (before : view all ≡ pile (hands_at i ps) tasks.passes)
      (long : length lent ≡ length ps) (long' : length qs ≡ length lent)
      (lends : (j : ℕ) (d : TaskPass T) → j < length ps → Lent i (slice_index_or ps j d) (slice_index_or lent j d))
      (given : (j : ℕ) (d : TaskPass T) (h : Hand T) → j < length lent → Given tasks i (slice_index_or (view done).hands j h) (slice_index_or lent j d) (slice_index_or qs j d)) where
    finals : (hs : List (Hand T)) → (view done).hands ≡ hs → map (λ (h : Hand T). h.number) hs ≡ map number_of ps → All (IsPassOf tasks) qs × (map number_of qs ≡ map number_of ps) × (team_hands qs ≡ each_set i hs (team_hands ps))
    finals hs e numbers = final_list tasks i hs ps qs at (long' ∙ long) numbers are.own
        (λ j d h within. lent_given tasks i (slice_index_or hs j h) (slice_index_or ps j d) (slice_index_or lent j d) (slice_index_or qs j d) (lends j d within)
        (subst (λ l. Given tasks i (slice_index_or l j h) (slice_index_or lent j d) (slice_index_or qs j d)) e (given j d h (subst (λ n. j < n) (sym long) within))))

    hands_before : (view all).hands ≡ hands_at i ps
    hands_before = ap (λ (y : Pile T). y.hands) before

    all_again : All (IsPassOf tasks) qs → AreAll tasks qs
    all_again own = record { some = (let s = are.some in omega arith); counted = long' ∙ long ∙ are.counted; own = own }

    pub settled_passes : (r : Option T) → MatchOption r ((view done ≡ view all) × EmptyWith (view all)) (λ x. WholeTake (view all) x (view done)) → AreAll tasks qs × (map number_of qs ≡ map number_of ps)
    settled_passes None h = let f = finals (hands_at i ps) (ap (λ (y : Pile T). y.hands) h.0 ∙ hands_before) (same_numbers tasks i ps at are.own) in (all_again f.0, f.1)
    settled_passes (Some x) h =
        let f = finals (with_first (after_take h.1 x) (hands_at i ps)) (ap (λ (y : Pile T). y.hands) h.4 ∙ ap (with_first (after_take h.1 x)) hands_before) (first_numbers h.1 x (hands_at i ps) ∙ same_numbers tasks i ps at are.own) in
        (all_again f.0, f.1)

    pub settled_task : (r : Option T) → MatchOption r ((view done ≡ view all) × EmptyWith (view all)) (λ x. WholeTake (view all) x (view done))
        → MatchOption r (IsSettled tasks.passes i ps qs) (λ x. TakesOldest tasks.passes i x ps qs)
    settled_task None h =
        let f = finals (hands_at i ps) (ap (λ (y : Pile T). y.hands) h.0 ∙ hands_before) (same_numbers tasks i ps at are.own) in
        (f.2 ∙ same_set i ps, all_taken tasks.passes (hands_at i ps) h.1.0 (subst (λ (y : Pile T). Stands y.passes y.hands h.1.0 []) before h.1.1))
    settled_task (Some x) h =
        let f = finals (with_first (after_take h.1 x) (hands_at i ps)) (ap (λ (y : Pile T). y.hands) h.4 ∙ ap (with_first (after_take h.1 x)) hands_before) (first_numbers h.1 x (hands_at i ps) ∙ same_numbers tasks i ps at are.own) in
        (h.1, h.0, h.2, subst (λ (y : Pile T). Stands y.passes y.hands h.0 ((h.1, x) ∷ h.2)) before h.3, f.2 ∙ first_set i h.1 x ps)

    pub done_length : (r : Option T) → MatchOption r ((view done ≡ view all) × EmptyWith (view all)) (λ x. WholeTake (view all) x (view done)) → (length (view done).hands ≡ length lent) × ((view done).passes ≡ tasks.passes)
    done_length None h = let l = ap (λ (y : Pile T). length y.hands) (h.0 ∙ before) in (l ∙ length_hands i ps ∙ sym long, ap (λ (y : Pile T). y.passes) (h.0 ∙ before))
    done_length (Some x) h = (ap (λ (y : Pile T). length y.hands) h.4 ∙ first_length h.1 x (view all).hands ∙ ap length hands_before ∙ length_hands i ps ∙ sym long, ap (λ (y : Pile T). y.passes) h.4 ∙ ap (λ (y : Pile T). y.passes) before)

  pub lent_parts : (tasks : Tasks T) (i : ℕ) (ps lent : List (TaskPass T)) → AreAll tasks ps → i < 10 → length lent ≡ length ps
      → ((j : ℕ) (d : TaskPass T) → j < length ps → Lent i (slice_index_or ps j d) (slice_index_or lent j d))
      → (i < length tasks.queues.items) × ((j : ℕ) (d : TaskPass T) → j < length lent → i < length (slice_index_or lent j d).parts.items)
  lent_parts tasks i ps lent are at long lends = (
    (let p = All-head-of tasks ps are.some are.own in let l = p.1.queues in omega arith),
    λ j d h.
        let is = All-get_or (IsPassOf tasks) ps j d (omega arith) are.own in
        let n = is.parts in
        let lend = lends j d (omega arith) in
        let m = ap length lend.2 ∙ length-set (slice_index_or ps j d).parts.items i lend.1 in omega arith,
  ) where
    All-head-of : (tasks : Tasks T) (ps : List (TaskPass T)) → 0 < length ps → All (IsPassOf tasks) ps → (p : TaskPass T) × IsPassOf tasks p
    All-head-of tasks [] some own = absurd (omega arith)
    All-head-of tasks (p ∷ ps) some own = (p, All-head (IsPassOf tasks) p ps own)
