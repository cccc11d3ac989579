-- Each call keeps the rule of its queue.
use Rattle.std.proofs.Common.{◌≡◌, ◌≢◌, ℕ, zero, suc, ◌+◌, ◌-◌, ◌<◌, ◌≤◌, cond, eqb, true, false, ne_eqb, eqb-true, List, [], ◌∷◌, ◌++◌, length, set, refl, sym, ap, ◌∙◌, ⊎_elim, append_assoc, arith, All, Contains, subst}
use Rattle.std.proofs.lemmas.List.{append-nil}
use Rattle.std.proofs.lemmas.List.Elements.{All-nil, All-cons, All-head, All-tail, All-append}
use mathlib.Core.Option.{some, some-injective, some-ne-none}
use lib.ListN.{get_elem?}
use Rattle.crossbeam_queue.specs.Fifo.{Pushes, Pops, Forks, Merges, Learns}
use Rattle.crossbeam_queue.proofs.Lists.{at_set, at_snoc, set_again}
use Rattle.zio_tasks.specs.declared.hand.Hand.{Hand}
use Rattle.zio_tasks.specs.declared.hand.Pile.{Pile}
use Rattle.zio_tasks.specs.Hands.{hand, total, taken, is_number, put_weight, take_weight, Fits, Stands, WasHolding}
use Rattle.zio_tasks.specs.Rule.{WasFull, EmptyWith, newcomers, pile, all_hands, first_of, rest_of, after_put, after_take, with_first, Fair, OldestTake, WasIn, Whole, WholeTake}
use Rattle.zio_tasks.proofs.Lists.{total_append, taken_append, all_left, all_right, all_map}
use Rattle.zio_tasks.proofs.Stays.{put_stands, take_stands}

newcomer : (before after : ℕ) (b : _) → after ≡ before + (cond b 1 0 + 0) → before ≤ 1 → (b ≡ true → before ≡ 0) → after ≤ 1
newcomer before after true a most free = let zero' = free refl in omega arith
newcomer before after false a most free = omega arith

module _ {T : Type 0} where
  -- the hands before and after those of one pile
  cut : (views : List (Pile T)) (port : ℕ) (v : Pile T) → get_elem? views port ≡ some v
      → (pre : List (Hand T)) × (post : List (Hand T)) × (all_hands views ≡ pre ++ (v.hands ++ post)) × ((w : Pile T) → all_hands (set views port w) ≡ pre ++ (w.hands ++ post))
  cut [] port v at = absurd (some-ne-none v (sym at))
  cut (u ∷ us) zero v at = ([], all_hands us, ap (λ (y : Pile T). y.hands ++ all_hands us) (some-injective u v at), λ w. refl)
  cut (u ∷ us) (suc port) v at = let r = cut us port v at in (
    u.hands ++ r.0,
    r.1,
    ap (λ l. u.hands ++ l) r.2 ∙ sym (append_assoc u.hands r.0 (v.hands ++ r.1)),
    λ w. ap (λ l. u.hands ++ l) (r.3 w) ∙ sym (append_assoc u.hands r.0 (w.hands ++ r.1)),
  )

  hands_snoc : (views : List (Pile T)) (w : Pile T) → all_hands (views ++ w ∷ []) ≡ all_hands views ++ w.hands
  hands_snoc [] w = append-nil w.hands
  hands_snoc (v ∷ vs) w = ap (λ l. v.hands ++ l) (hands_snoc vs w) ∙ sym (append_assoc v.hands (all_hands vs) w.hands)

  -- how many passes there are stays known to those who have a hand
  told_set : (views : List (Pile T)) (port passes : ℕ) (w : Pile T) → (0 < length w.hands → w.passes ≡ passes)
      → ((j : ℕ) (u : Pile T) → get_elem? views j ≡ some u → 0 < length u.hands → u.passes ≡ passes)
      → (j : ℕ) (u : Pile T) → get_elem? (set views port w) j ≡ some u → 0 < length u.hands → u.passes ≡ passes
  told_set views port passes w mine told j u at some_hand =
      ⊎_elim (λ (t : (j ≡ port) × (w ≡ u)). subst (λ (y : Pile T). 0 < length y.hands → y.passes ≡ passes) t.1 mine some_hand)
      (λ (t : (j ≢ port) × (get_elem? views j ≡ some u)). told j u t.1 some_hand) (at_set views port j w u at)

  told_snoc : (views : List (Pile T)) (passes : ℕ) (w : Pile T) → (0 < length w.hands → w.passes ≡ passes)
      → ((j : ℕ) (u : Pile T) → get_elem? views j ≡ some u → 0 < length u.hands → u.passes ≡ passes)
      → (j : ℕ) (u : Pile T) → get_elem? (views ++ w ∷ []) j ≡ some u → 0 < length u.hands → u.passes ≡ passes
  told_snoc views passes w mine told j u at some_hand =
      ⊎_elim (λ (t : get_elem? views j ≡ some u). told j u t some_hand)
      (λ (t : w ≡ u). subst (λ (y : Pile T). 0 < length y.hands → y.passes ≡ passes) t mine some_hand) (at_snoc views w u j at)

  taken_tail : (rest : List (ℕ × T)) (x : T) (items : List T) → taken rest ≡ x ∷ items → (k : ℕ) × (more : List (ℕ × T)) × (rest ≡ (k, x) ∷ more) × (taken more ≡ items)
  taken_tail [] x items e = absurd (cc)
  taken_tail (r ∷ rs) x items e = let a : r.1 ≡ x = cc in let b : taken rs ≡ items = cc in (r.0, rs, ap (λ (y : T). (r.0, y) ∷ rs) a, b)

  -- in the rule's words: the hands of a pass whose pile begins with h stand between those before and after
  module _ (views : List (Pile T)) (port : ℕ) (v : Pile T) (at : get_elem? views port ≡ some v) (h : Hand T) (hs : List (Hand T)) (is : v.hands ≡ h ∷ hs) where
    spread : all_hands views ≡ (cut views port v at).0 ++ h ∷ (hs ++ (cut views port v at).1)
    spread = let r = cut views port v at in r.2 ∙ ap (λ l. r.0 ++ (l ++ r.1)) is

  puts_at : (views : List (Pile T)) (port n : ℕ) (h : Hand T) (hs : List (Hand T)) (passes : ℕ) (x : T) (items : List T)
      → Fair items views → get_elem? views port ≡ some (pile (h ∷ hs) passes)
      → Fair (items ++ x ∷ []) (set views port (pile (after_put x h ∷ hs) passes))
  puts_at views port n h hs passes x items b at =
      let r = cut views port (pile (h ∷ hs) passes) at in
      let w : Pile T = pile (after_put x h ∷ hs) passes in
      record {
        passes = b.passes;
        log = b.log;
        rest = b.rest ++ (h.number, x) ∷ [];
        held = taken_append b.rest ((h.number, x) ∷ []) ∙ ap (λ l. l ++ x ∷ []) b.held;
        stands = subst (λ l. Stands b.passes l b.log (b.rest ++ (h.number, x) ∷ [])) (sym (r.3 w))
            (put_stands b.passes r.0 (hs ++ r.1) h x b.log b.rest (subst (λ l. Stands b.passes l b.log b.rest) r.2 b.stands));
        told = told_set views port b.passes w (λ _. b.told port (pile (h ∷ hs) passes) at (omega arith)) b.told;
      }

  takes_at : (views : List (Pile T)) (port : ℕ) (h : Hand T) (hs : List (Hand T)) (passes k : ℕ) (x : T) (items : List T) (log : List (ℕ × (ℕ × T))) (more : List (ℕ × T)) (all : ℕ)
      → taken more ≡ items → Stands all (all_hands views) log ((k, x) ∷ more)
      → ((j : ℕ) (u : Pile T) → get_elem? views j ≡ some u → 0 < length u.hands → u.passes ≡ all)
      → get_elem? views port ≡ some (pile (h ∷ hs) passes)
      → Fair items (set views port (pile (after_take k x h ∷ hs) passes))
  takes_at views port h hs passes k x items log more all held stands told at =
      let r = cut views port (pile (h ∷ hs) passes) at in
      let w : Pile T = pile (after_take k x h ∷ hs) passes in
      record {
        passes = all;
        log = log ++ (h.number, (k, x)) ∷ [];
        rest = more;
        held = held;
        stands = subst (λ l. Stands all l (log ++ (h.number, (k, x)) ∷ []) more) (sym (r.3 w))
            (take_stands all r.0 (hs ++ r.1) h k x log more (subst (λ l. Stands all l log ((k, x) ∷ more)) r.2 stands));
        told = told_set views port all w (λ _. told port (pile (h ∷ hs) passes) at (omega arith)) told;
      }

  pub puts : (n port : ℕ) (h : Hand T) (hs : List (Hand T)) (passes : ℕ) (x : T)
      → Pushes Fair n port (pile (h ∷ hs) passes) x (λ w. w ≡ pile (after_put x h ∷ hs) passes)
  puts n port h hs passes x items views _ b at = (pile (after_put x h ∷ hs) passes, puts_at views port n h hs passes x items b at, refl)

  contains_in : (pre more : List (Hand T)) (h : Hand T) → Contains (pre ++ h ∷ more) h
  contains_in [] more h = (0, omega arith, refl)
  contains_in (x ∷ xs) more h = let r = contains_in xs more h in (suc r.0, omega arith, r.2)

  -- the first hand of a pile is one of all
  has_first : (views : List (Pile T)) (port : ℕ) (v : Pile T) (h : Hand T) (hs : List (Hand T)) → get_elem? views port ≡ some v → v.hands ≡ h ∷ hs → Contains (all_hands views) h
  has_first views port v h hs at is =
      let r = cut views port v at in
      subst (λ l. Contains l h) (sym (r.2 ∙ ap (λ l. r.0 ++ (l ++ r.1)) is)) (contains_in r.0 (hs ++ r.1) h)

  pub takes : (port : ℕ) (h : Hand T) (hs : List (Hand T)) (passes : ℕ)
      → Pops Fair port (pile (h ∷ hs) passes) (OldestTake (pile (h ∷ hs) passes))
  takes port h hs passes x items views b at =
      let v : Pile T = pile (h ∷ hs) passes in
      let t = taken_tail b.rest x items b.held in
      let s : Stands b.passes (all_hands views) b.log ((t.0, x) ∷ t.1) = subst (λ l. Stands b.passes (all_hands views) b.log l) t.2 b.stands in
      let known : passes ≡ b.passes = b.told port v at (omega arith) in (
        pile (after_take t.0 x h ∷ hs) passes,
        takes_at views port h hs passes t.0 x items b.log t.1 b.passes t.3 s b.told at,
        (
          t.0,
          refl,
          λ g gs is. (all_hands views, b.log, t.1, subst (λ n. Stands n (all_hands views) b.log ((t.0, x) ∷ t.1)) (sym known) s, has_first views port v g gs at is),
        ),
      )

  count : List (Hand T) → ℕ
  count hs = total (λ (h : Hand T). 1) hs

  count_is : (hs : List (Hand T)) → count hs ≡ length hs
  unfolding count
  count_is [] = refl
  count_is (h ∷ hs) = let more = count_is hs in omega arith

  none : (hs : List (Hand T)) → count hs ≡ 0 → hs ≡ []
  unfolding count
  none [] e = refl
  none (h ∷ hs) e = absurd (omega arith)

  count_append : (xs ys : List (Hand T)) → count (xs ++ ys) ≡ count xs + count ys
  unfolding count
  count_append xs ys = total_append (λ (h : Hand T). 1) xs ys

  one_pile : (views : List (Pile T)) (j : ℕ) (u : Pile T) → get_elem? views j ≡ some u → count u.hands ≤ count (all_hands views)
  one_pile views j u at = let r = cut views j u at in let e = ap count r.2 in let a = count_append r.0 (u.hands ++ r.1) in let b = count_append u.hands r.1 in omega arith

  two_piles : (views : List (Pile T)) (i j : ℕ) (v u : Pile T) → get_elem? views i ≡ some v → get_elem? views j ≡ some u → j ≢ i → count v.hands + count u.hands ≤ count (all_hands views)
  two_piles [] i j v u at at' ne = absurd (some-ne-none v (sym at))
  two_piles (x ∷ xs) zero zero v u at at' ne = absurd (ne refl)
  two_piles (x ∷ xs) zero (suc j) v u at at' ne =
      let one = one_pile xs j u at' in let e = ap (λ (y : Pile T). count y.hands) (some-injective x v at) in let a = count_append x.hands (all_hands xs) in omega arith
  two_piles (x ∷ xs) (suc i) zero v u at at' ne =
      let one = one_pile xs i v at in let e = ap (λ (y : Pile T). count y.hands) (some-injective x u at') in let a = count_append x.hands (all_hands xs) in omega arith
  two_piles (x ∷ xs) (suc i) (suc j) v u at at' ne =
      let one = two_piles xs i j v u at at' (λ e. ne (ap suc e)) in let a = count_append x.hands (all_hands xs) in omega arith

  -- who has all hands has the hands of all piles
  all_of : (views : List (Pile T)) (port : ℕ) (v : Pile T) (passes : ℕ) → get_elem? views port ≡ some v → count v.hands ≡ passes → count (all_hands views) ≡ passes
      → (all_hands views ≡ v.hands) × ((w : Pile T) → all_hands (set views port w) ≡ w.hands)
  all_of views port v passes at own all =
      let r = cut views port v at in
      let e = ap count r.2 in
      let a = count_append r.0 (v.hands ++ r.1) in
      let b = count_append v.hands r.1 in
      let p : r.0 ≡ [] = none r.0 (omega arith) in
      let q : r.1 ≡ [] = none r.1 (omega arith) in (
        r.2 ∙ ap (λ l. l ++ (v.hands ++ r.1)) p ∙ ap (λ l. v.hands ++ l) q ∙ append-nil v.hands,
        λ w. r.3 w ∙ ap (λ l. l ++ (w.hands ++ r.1)) p ∙ ap (λ l. w.hands ++ l) q ∙ append-nil w.hands,
      )

  whole_of : (items : List T) (views : List (Pile T)) (b : Fair items views) (port : ℕ) (v : Pile T) → get_elem? views port ≡ some v → count v.hands ≡ v.passes → 0 < v.passes
      → (v.passes ≡ b.passes) × (all_hands views ≡ v.hands) × ((w : Pile T) → all_hands (set views port w) ≡ w.hands)
  unfolding count
  whole_of items views b port v at own some_hand =
      let n = count_is v.hands in
      let known : v.passes ≡ b.passes = b.told port v at (omega arith) in
      let r = all_of views port v v.passes at own (b.stands.counted ∙ sym known) in (known, r.0, r.1)

  unknown : (k passes : ℕ) (log : List (ℕ × (ℕ × T))) (rest : List (ℕ × T)) (hs : List (Hand T)) → passes ≤ k → All (Fits passes log rest) hs → total (is_number k) hs ≡ 0
  unknown k passes log rest [] far each = refl
  unknown k passes log rest (h ∷ hs) far each =
      let known = (All-head (Fits passes log rest) h hs each).known in
      let more = unknown k passes log rest hs far (All-tail (Fits passes log rest) h hs each) in
      let zero' : is_number k h ≡ 0 = rw (ne_eqb k h.number (λ e. omega arith)) refl in omega arith

  grow_stands : (passes : ℕ) (hands : List (Hand T)) (log : List (ℕ × (ℕ × T))) (rest : List (ℕ × T)) → Stands passes hands log rest → Stands (passes + 1) (hands ++ hand passes [] [] ∷ []) log rest
  grow_stands passes hands log rest s =
      let new : Hand T = hand passes [] [] in
      record {
        counted = (let a = total_append (λ (h : Hand T). 1) hands (new ∷ []) in let b = s.counted in omega arith);
        once = λ k. (let a = total_append (is_number k) hands (new ∷ []) in let b = s.once k in newcomer (total (is_number k) hands) (total (is_number k) (hands ++ new ∷ [])) (eqb k passes) a b (λ is. let e = eqb-true k passes is in unknown k passes log rest hands (omega arith) s.each));
        each = All-append (Fits (passes + 1) log rest) hands (new ∷ [])
            (all_map (Fits passes log rest) (Fits (passes + 1) log rest) hands s.each (λ h f. record { known = (let k = f.known in omega arith); puts = f.puts; takes = f.takes }))
            (All-cons (Fits (passes + 1) log rest) new [] (record { known = omega arith; puts = sym (s.strangers passes (omega arith)).0; takes = sym (s.strangers passes (omega arith)).1 }) (All-nil (Fits (passes + 1) log rest)));
        strangers = λ k far. s.strangers k (omega arith);
        weighed = λ w. (let a = total_append (put_weight w) hands (new ∷ []) in let b = total_append (take_weight w) hands (new ∷ []) in let c = s.weighed w in omega arith);
      }

  rearranged : (passes : ℕ) (xs ys : List (Hand T)) (log : List (ℕ × (ℕ × T))) (rest : List (ℕ × T)) → ((P : Hand T → Type 0) → All P xs → All P ys) → ((f : Hand T → ℕ) → total f ys ≡ total f xs)
      → Stands passes xs log rest → Stands passes ys log rest
  rearranged passes xs ys log rest move sum s = record {
    counted = sum (λ (h : Hand T). 1) ∙ s.counted;
    once = λ k. subst (λ n. n ≤ 1) (sym (sum (is_number k))) (s.once k);
    each = move (Fits passes log rest) s.each;
    strangers = s.strangers;
    weighed = λ w. (let a = sum (put_weight w) in let b = sum (take_weight w) in let c = s.weighed w in omega arith);
  }

  pub grows : (port : ℕ) (v : Pile T) → length v.hands ≡ v.passes → 0 < v.passes → Forks Fair port v (pile (v.hands ++ hand v.passes [] [] ∷ []) (v.passes + 1)) (pile [] 0)
  unfolding count
  grows port v own some_hand items views b at =
      let n = count_is v.hands in
      let r = whole_of items views b port v at (omega arith) some_hand in
      let left : Pile T = pile (v.hands ++ hand v.passes [] [] ∷ []) (v.passes + 1) in
      let none_else : (j : ℕ) (u : Pile T) → j ≢ port → get_elem? views j ≡ some u → 0 < length u.hands → u.passes ≡ v.passes + 1 =
      λ j u ne at' some'. (let two = two_piles views port j v u at at' ne in let c = count_is u.hands in let all = b.stands.counted in absurd (omega arith)) in
      record {
        passes = v.passes + 1;
        log = b.log;
        rest = b.rest;
        held = b.held;
        stands = subst (λ l. Stands (v.passes + 1) l b.log b.rest) (sym (hands_snoc (set views port left) (pile [] 0) ∙ append-nil (all_hands (set views port left)) ∙ r.2 left))
            (grow_stands v.passes v.hands b.log b.rest (subst (λ (y : List (Hand T) × ℕ). Stands y.1 y.0 b.log b.rest) (λ i. (r.1 i, sym r.0 i)) b.stands));
        told = told_snoc (set views port left) (v.passes + 1) (pile [] 0) (λ e. absurd (omega arith))
            (λ j u at' some'. ⊎_elim (λ (t : (j ≡ port) × (left ≡ u)). ap (λ (y : Pile T). y.passes) (sym t.1)) (λ (t : (j ≢ port) × (get_elem? views j ≡ some u)). none_else j u t.0 t.1 some') (at_set views port j left u at'));
      }

  pub spares : (port : ℕ) (v : Pile T) → Forks Fair port v v (pile [] 0)
  spares port v items views b at = record {
    passes = b.passes;
    log = b.log;
    rest = b.rest;
    held = b.held;
    stands = subst (λ l. Stands b.passes l b.log b.rest) (sym (hands_snoc (set views port v) (pile [] 0) ∙ append-nil (all_hands (set views port v)) ∙ ap all_hands (set_again views port v at))) b.stands;
    told = told_snoc (set views port v) b.passes (pile [] 0) (λ e. absurd (omega arith)) (subst (λ l. (j : ℕ) (u : Pile T) → get_elem? l j ≡ some u → 0 < length u.hands → u.passes ≡ b.passes) (sym (set_again views port v at)) b.told);
  }

  pub deals : (port : ℕ) (h : Hand T) (hs : List (Hand T)) (passes : ℕ) → Forks Fair port (pile (h ∷ hs) passes) (pile hs passes) (pile (h ∷ []) passes)
  deals port h hs passes items views b at =
      let v : Pile T = pile (h ∷ hs) passes in
      let left : Pile T = pile hs passes in
      let right : Pile T = pile (h ∷ []) passes in
      let r = cut views port v at in
      let known : passes ≡ b.passes = b.told port v at (omega arith) in
      let now : all_hands (set views port left ++ right ∷ []) ≡ (r.0 ++ (hs ++ r.1)) ++ h ∷ [] = hands_snoc (set views port left) right ∙ ap (λ l. l ++ h ∷ []) (r.3 left) in
      record {
        passes = b.passes;
        log = b.log;
        rest = b.rest;
        held = b.held;
        stands = subst (λ l. Stands b.passes l b.log b.rest) (sym now)
            (rearranged b.passes (r.0 ++ h ∷ (hs ++ r.1)) ((r.0 ++ (hs ++ r.1)) ++ h ∷ []) b.log b.rest
            (λ P all. (let more = all_right P r.0 (h ∷ (hs ++ r.1)) all in
            All-append P (r.0 ++ (hs ++ r.1)) (h ∷ []) (All-append P r.0 (hs ++ r.1) (all_left P r.0 (h ∷ (hs ++ r.1)) all) (All-tail P h (hs ++ r.1) more)) (All-cons P h [] (All-head P h (hs ++ r.1) more) (All-nil P))))
            (λ f. (let a = total_append f r.0 (h ∷ (hs ++ r.1)) in let c = total_append f (r.0 ++ (hs ++ r.1)) (h ∷ []) in let d = total_append f r.0 (hs ++ r.1) in omega arith))
            (subst (λ l. Stands b.passes l b.log b.rest) r.2 b.stands));
        told = told_snoc (set views port left) b.passes right (λ _. known) (told_set views port b.passes left (λ _. known) b.told);
      }

  pub gathers : (port : ℕ) (v : Pile T) (other : ℕ) (w : Pile T) → 0 < length w.hands → Merges Fair port v other w (pile (v.hands ++ w.hands) w.passes) (pile [] 0)
  gathers port v other w some_hand items views b at ne at' =
      let both : Pile T = pile (v.hands ++ w.hands) w.passes in
      let spent : Pile T = pile [] 0 in
      let was : get_elem? views other ≡ some w = ⊎_elim (λ (t : (other ≡ port) × (both ≡ w)). absurd (ne t.0)) (λ (t : (other ≢ port) × (get_elem? views other ≡ some w)). t.1) (at_set views port other both w at') in
      let known : w.passes ≡ b.passes = b.told other w was some_hand in
      let r = cut views port v at in
      let s = cut (set views port both) other w at' in
      let theirs = cut views other w was in
      let mid : r.0 ++ ((v.hands ++ w.hands) ++ r.1) ≡ s.0 ++ (w.hands ++ s.1) = sym (r.3 both) ∙ s.2 in
      record {
        passes = b.passes;
        log = b.log;
        rest = b.rest;
        held = b.held;
        stands = subst (λ l. Stands b.passes l b.log b.rest) (sym (s.3 spent))
            (rearranged b.passes (all_hands views) (s.0 ++ s.1) b.log b.rest
            (λ P all. (
            let mine : All P (r.0 ++ (v.hands ++ r.1)) = subst (All P) r.2 all in
            let mine' = all_right P r.0 (v.hands ++ r.1) mine in
            let its : All P w.hands = all_left P w.hands theirs.1 (all_right P theirs.0 (w.hands ++ theirs.1) (subst (All P) theirs.2 all)) in
            let now : All P (s.0 ++ (w.hands ++ s.1)) = subst (All P) mid
            (All-append P r.0 ((v.hands ++ w.hands) ++ r.1) (all_left P r.0 (v.hands ++ r.1) mine)
            (All-append P (v.hands ++ w.hands) r.1 (All-append P v.hands w.hands (all_left P v.hands r.1 mine') its) (all_right P v.hands r.1 mine'))) in
            All-append P s.0 s.1 (all_left P s.0 (w.hands ++ s.1) now) (all_right P w.hands s.1 (all_right P s.0 (w.hands ++ s.1) now))))
            (λ f. (
            let a = ap (total f) r.2 ∙ total_append f r.0 (v.hands ++ r.1) in
            let c = total_append f v.hands r.1 in
            let d = ap (total f) mid in
            let e = total_append f r.0 ((v.hands ++ w.hands) ++ r.1) in
            let g = total_append f (v.hands ++ w.hands) r.1 in
            let i = total_append f v.hands w.hands in
            let j = total_append f s.0 (w.hands ++ s.1) in
            let k = total_append f w.hands s.1 in
            let l = total_append f s.0 s.1 in
            omega arith))
            b.stands);
        told = told_set (set views port both) other b.passes spent (λ e. absurd (omega arith)) (told_set views port b.passes both (λ _. known) b.told);
      }

  length_taken : (rest : List (ℕ × T)) → length (taken rest) ≡ length rest
  length_taken [] = refl
  length_taken (r ∷ rs) = let more = length_taken rs in omega arith

  pub learns : (port : ℕ) (v : Pile T) → Learns Fair port v (WasIn v)
  learns port v items views b at h hs is =
      let known : v.passes ≡ b.passes = b.told port v at (subst (λ l. 0 < length l) (sym is) (omega arith)) in (
        all_hands views,
        b.log,
        b.rest,
        subst (λ n. Stands n (all_hands views) b.log b.rest) (sym known) b.stands,
        has_first views port v h hs at is,
        sym (length_taken b.rest) ∙ ap length b.held,
      )

  pub learns_whole : (port : ℕ) (v : Pile T) → length v.hands ≡ v.passes → 0 < v.passes → Learns Fair port v (Whole v)
  unfolding count
  learns_whole port v own some_hand items views b at =
      let n = count_is v.hands in
      let r = whole_of items views b port v at (omega arith) some_hand in
      (b.log, b.rest, b.held, subst (λ (y : List (Hand T) × ℕ). Stands y.1 y.0 b.log b.rest) (λ i. (r.1 i, sym r.0 i)) b.stands)

  pub whole_takes : (port : ℕ) (h : Hand T) (hs : List (Hand T)) (passes : ℕ) → length (h ∷ hs) ≡ passes → Pops Fair port (pile (h ∷ hs) passes) (WholeTake (pile (h ∷ hs) passes))
  unfolding count
  whole_takes port h hs passes own x items views b at =
      let v : Pile T = pile (h ∷ hs) passes in
      let n = count_is (h ∷ hs) in
      let r = whole_of (x ∷ items) views b port v at (omega arith) (omega arith) in
      let t = taken_tail b.rest x items b.held in
      let s : Stands b.passes (all_hands views) b.log ((t.0, x) ∷ t.1) = subst (λ l. Stands b.passes (all_hands views) b.log l) t.2 b.stands in (
        pile (after_take t.0 x h ∷ hs) passes,
        takes_at views port h hs passes t.0 x items b.log t.1 b.passes t.3 s b.told at,
        (b.log, t.0, t.1, subst (λ (y : List (Hand T) × ℕ). Stands y.1 y.0 b.log ((t.0, x) ∷ t.1)) (λ i. (r.1 i, sym r.0 i)) s, refl),
      )

  pub begins : Fair {T = T} [] (pile (hand 0 [] [] ∷ []) 1 ∷ [])
  begins = record {
    passes = 1;
    log = [];
    rest = [];
    held = refl;
    stands = record {
      counted = refl;
      once = λ k. newcomer 0 (cond (eqb k 0) 1 0 + 0) (eqb k 0) (omega arith) (omega arith) (λ e. refl);
      each = All-cons (Fits 1 [] []) (hand 0 [] []) [] (record { known = omega arith; puts = refl; takes = refl }) (All-nil (Fits 1 [] []));
      strangers = λ k far. (refl, refl);
      weighed = λ w. refl;
    };
    told = opened;
  } where
    opened : (port : ℕ) (v : Pile T) → get_elem? (pile (hand {T = T} 0 [] [] ∷ []) 1 ∷ []) port ≡ some v → 0 < length v.hands → v.passes ≡ 1
    opened zero v at some_hand = ap (λ (y : Pile T). y.passes) (sym (some-injective _ v at))
    opened (suc port) v at some_hand = absurd (some-ne-none v (sym at))

  -- the same of any pile that has a hand
  puts_first : (hs : List (Hand T)) (n port passes : ℕ) (x : T) → 0 < length hs → Pushes Fair n port (pile hs passes) x (λ w. w ≡ pile (with_first (after_put x) hs) passes)
  puts_first [] n port passes x some_hand = absurd (omega arith)
  puts_first (h ∷ hs) n port passes x some_hand = puts n port h hs passes x

  takes_first : (hs : List (Hand T)) (port passes : ℕ) → 0 < length hs → Pops Fair port (pile hs passes) (OldestTake (pile hs passes))
  takes_first [] port passes some_hand = absurd (omega arith)
  takes_first (h ∷ hs) port passes some_hand = takes port h hs passes

  whole_first : (hs : List (Hand T)) (port passes : ℕ) → length hs ≡ passes → 0 < passes → Pops Fair port (pile hs passes) (WholeTake (pile hs passes))
  whole_first [] port passes own some_hand = absurd (omega arith)
  whole_first (h ∷ hs) port passes own some_hand = whole_takes port h hs passes own

  pub put_goes : (n port : ℕ) (v : Pile T) (x : T) → 0 < length v.hands
      → Pushes Fair n port v x (λ w. w ≡ pile (with_first (after_put x) v.hands) v.passes) × Learns Fair port v (WasIn v)
  put_goes n port v x some_hand = (puts_first v.hands n port v.passes x some_hand, learns port v)

  pub take_goes : (port : ℕ) (v : Pile T) → 0 < length v.hands
      → Pops Fair port v (OldestTake v) × Learns Fair port v (WasIn v)
  take_goes port v some_hand = (takes_first v.hands port v.passes some_hand, learns port v)

  pub whole_goes : (port : ℕ) (v : Pile T) → length v.hands ≡ v.passes → 0 < v.passes
      → Pops Fair port v (WholeTake v) × Learns Fair port v (Whole v)
  whole_goes port v own some_hand = (whole_first v.hands port v.passes own some_hand, learns_whole port v own some_hand)

  pub was_full : (n : ℕ) (v : Pile T) (items : List T) → length items ≡ n → WasIn v items → WasFull n v
  was_full n v items e was h hs is = subst (λ m. WasHolding m v.passes h) e (was h hs is)

  no_rest : (rest : List (ℕ × T)) → length (taken rest) ≡ 0 → rest ≡ []
  no_rest [] e = refl
  no_rest (r ∷ rs) e = absurd (omega arith)

  pub empty_with : (v : Pile T) (items : List T) → length items ≡ 0 → Whole v items → EmptyWith v
  empty_with v items e w = (w.0, subst (λ l. Stands v.passes v.hands w.0 l) (no_rest w.1 (ap length w.2 ∙ e)) w.3)

pub length_newcomers : (T : Type 0) (k n : ℕ) → length (newcomers {T = T} k n) ≡ n
length_newcomers T k zero = refl
length_newcomers T k (suc n) = omega (arith, length_newcomers T (suc k) n)

-- one more, at the end
pub more_newcomers : (T : Type 0) (k n m : ℕ) → m ≡ k + n → newcomers {T = T} k n ++ hand m [] [] ∷ [] ≡ newcomers k (suc n)
more_newcomers T k zero m e = ap (λ (j : ℕ). hand {T = T} j [] [] ∷ []) (let i : m ≡ k = omega arith in i)
more_newcomers T k (suc n) m e = ap (λ l. hand {T = T} k [] [] ∷ l) (more_newcomers T (suc k) n m (omega (arith, e)))

pub one_more : (T : Type 0) (k : ℕ) → newcomers {T = T} 0 k ++ hand k [] [] ∷ [] ≡ newcomers 0 (k + 1)
one_more T k = more_newcomers T 0 k k (omega arith) ∙ ap (newcomers 0) (let e : suc k ≡ k + 1 = omega arith in e)

pub grow_goes : {T : Type 0} (port : ℕ) (v : Pile T) (k : ℕ) → v ≡ pile (newcomers 0 k) k → 0 < k → Forks Fair port v (pile (v.hands ++ hand v.passes [] [] ∷ []) (v.passes + 1)) (pile [] 0)
grow_goes {T} port v k e some_hand = grows port v (ap (λ (y : Pile T). length y.hands) e ∙ length_newcomers T 0 k ∙ ap (λ (y : Pile T). y.passes) (sym e)) (subst (λ (y : Pile T). 0 < y.passes) (sym e) some_hand)

-- the next of the hands from k on, of n in all
pub next_newcomer : (T : Type 0) (k n : ℕ) → k < n → newcomers {T = T} k (n - k) ≡ hand k [] [] ∷ newcomers (k + 1) (n - (k + 1))
next_newcomer T k n h = ap (newcomers k) (let e : n - k ≡ suc (n - (k + 1)) = omega arith in e) ∙ ap (λ (j : ℕ). hand {T = T} k [] [] ∷ newcomers j (n - (k + 1))) (let e : suc k ≡ k + 1 = omega arith in e)

pub deal_goes : {T : Type 0} (port : ℕ) (v : Pile T) (h : Hand T) (hs : List (Hand T)) (passes : ℕ) → v ≡ pile (h ∷ hs) passes → Forks Fair port v (pile (rest_of v.hands) v.passes) (pile (first_of v.hands) v.passes)
deal_goes {T} port v h hs passes e = subst (λ (y : Pile T). Forks Fair port y (pile (rest_of y.hands) y.passes) (pile (first_of y.hands) y.passes)) (sym e) (deals port h hs passes)

pub grown : {T : Type 0} (v w : Pile T) (k : ℕ) → v ≡ pile (newcomers 0 k) k → w ≡ pile (v.hands ++ hand v.passes [] [] ∷ []) (v.passes + 1) → w ≡ pile (newcomers 0 (k + 1)) (k + 1)
grown {T} v w k e f = f ∙ ap (λ (y : Pile T). pile (y.hands ++ hand y.passes [] [] ∷ []) (y.passes + 1)) e ∙ ap (λ l. pile l (k + 1)) (one_more T k)
