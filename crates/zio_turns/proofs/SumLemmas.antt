-- What a node has of the places below it, and how a sum finds its place.
use Rattle.std.proofs.Common.{◌≡◌, ◌≢◌, ◌⊎◌, inl, inr, ℕ, zero, suc, ◌+◌, ◌-◌, ◌*◌, ◌/◌, ◌<◌, ◌≤◌, ◌∙◌, List, [], ◌∷◌, length, take, drop, slice_index, refl, ap, sym, subst, arith, length-drop}
use Rattle.std.proofs.Math.Nat.{zero-add, suc-add}
use Rattle.std.proofs.lemmas.Bool.{cases_eq}
use Rattle.std.proofs.lemmas.List.{get_or-drop}
use Rattle.zio_turns.specs.LineSums.{AreSums, sum_of, width, size, places_of}

some_width : (h : ℕ) → 0 < width h
some_width zero = omega arith
some_width (suc h) = omega (arith, some_width h)

-- sums of parts of a list
take_none : (n : ℕ) → take n (let none : List ℕ = [] in none) ≡ []
take_none zero = refl
take_none (suc n) = refl

drop_none : (n : ℕ) → drop n (let none : List ℕ = [] in none) ≡ []
drop_none zero = refl
drop_none (suc n) = refl

sum_split : (a b : ℕ) (xs : List ℕ) → sum_of (take (a + b) xs) ≡ sum_of (take a xs) + sum_of (take b (drop a xs))
sum_split zero b xs = omega (arith, ap (λ n. sum_of (take n xs)) (zero-add b))
sum_split (suc a) b [] = omega (arith, ap sum_of (take_none (suc a + b)), ap sum_of (take_none b))
sum_split (suc a) b (x ∷ xs) = omega (arith, sum_split a b xs, ap (λ n. sum_of (take n (x ∷ xs))) (suc-add a b))

sum_one : (xs : List ℕ) (i : ℕ) → i < length xs → sum_of (take 1 (drop i xs)) ≡ slice_index xs i
sum_one [] i p = absurd (omega arith)
sum_one (x ∷ xs) zero p = omega arith
sum_one (x ∷ xs) (suc i) p = sum_one xs i (omega arith)

sum_all : (n : ℕ) (xs : List ℕ) → length xs ≤ n → sum_of (take n xs) ≡ sum_of xs
sum_all n [] p = ap sum_of (take_none n)
sum_all zero (x ∷ xs) p = absurd (omega arith)
sum_all (suc n) (x ∷ xs) p = omega (arith, sum_all n xs (omega arith))

drop_drop : (a b : ℕ) (xs : List ℕ) → drop a (drop b xs) ≡ drop (b + a) xs
drop_drop a zero xs = sym (ap (λ n. drop n xs) (zero-add a))
drop_drop a (suc b) [] = drop_none a ∙ sym (drop_none (suc b + a))
drop_drop a (suc b) (x ∷ xs) = drop_drop a b xs ∙ sym (ap (λ n. drop n (x ∷ xs)) (suc-add b a))

-- products with a width
double : (i w : ℕ) → (2 * i) * w ≡ i * (w + w)
double zero w = omega arith
double (suc i) w = omega (arith, double i w)

double_more : (i w : ℕ) → (2 * i + 1) * w ≡ i * (w + w) + w
double_more zero w = omega arith
double_more (suc i) w = omega (arith, double_more i w)

twice_below : (i w : ℕ) → 0 < w → 2 * i ≤ i * (w + w)
twice_below zero w p = omega arith
twice_below (suc i) w p = omega (arith, twice_below i w p)

pub length_places : (nodes : List ℕ) → AreSums nodes → length (places_of nodes) ≡ length nodes / 2
length_places nodes s = omega (arith, length-drop (length nodes / 2) nodes, s.halves)

above_none : (i w half first : ℕ) → i * (w + w) ≡ half + first → 0 < half → 0 < i
above_none zero w half first e p = absurd (omega arith)
above_none (suc i) w half first e p = omega arith

-- a node has the sum of the places below it
covered : (nodes : List ℕ) → AreSums nodes → (h i first : ℕ) → i * width h ≡ length nodes / 2 + first
    → first + width h ≤ length nodes / 2 → slice_index nodes i ≡ sum_of (take (width h) (drop first (places_of nodes)))
covered nodes s zero i first lies fits =
    let at : i ≡ length nodes / 2 + first = omega arith in
    ap (slice_index nodes) at
    ∙ (sym (get_or-drop (length nodes / 2) nodes first 0)
    ∙ sym (sum_one (places_of nodes) first (omega (arith, length_places nodes s))))
covered nodes s (suc h) i first lies fits =
    let places : List ℕ = places_of nodes in
    let w : 0 < width h = some_width h in
    let t : 2 * i ≤ i * (width h + width h) = twice_below i (width h) w in
    let positive : 0 < i = above_none i (width h) (length nodes / 2) first lies (omega arith) in
    let l : slice_index nodes (2 * i) ≡ sum_of (take (width h) (drop first places)) =
    covered nodes s h (2 * i) first (double i (width h) ∙ lies) (omega arith) in
    let r : slice_index nodes (2 * i + 1) ≡ sum_of (take (width h) (drop (first + width h) places)) =
    covered nodes s h (2 * i + 1) (first + width h) (omega (arith, double_more i (width h))) (omega arith) in
    let d : sum_of (take (width h) (drop (width h) (drop first places))) ≡ sum_of (take (width h) (drop (first + width h) places)) =
    ap (λ xs. sum_of (take (width h) xs)) (drop_drop (width h) first places) in
    omega (arith, s.sums i positive (omega arith), l, r, d, sum_split (width h) (width h) (drop first places))

height_of : (n : ℕ) → 0 < n → (h : ℕ) → n ≡ size h → (k : ℕ) × (n ≡ width k)
height_of n p zero e = absurd (omega arith)
height_of n p (suc h) e = (h, e)

-- and the root that of all places
pub root_has_all : (nodes : List ℕ) → AreSums nodes → 0 < length nodes / 2 → slice_index nodes 1 ≡ sum_of (places_of nodes)
root_has_all nodes s p =
    let h = height_of (length nodes / 2) p s.sized.0 s.sized.1 in
    let e : length nodes / 2 ≡ width h.0 = h.1 in
    covered nodes s h.0 1 0 (omega arith) (omega arith) ∙ sum_all (width h.0) (places_of nodes) (omega (arith, length_places nodes s))

pub whole_sum : (nodes : List ℕ) → AreSums nodes → length nodes ≢ 0 → slice_index nodes 1 ≡ sum_of (places_of nodes)
whole_sum nodes s p = root_has_all nodes s (positive (length nodes) p s.halves)
  where
    positive : (n : ℕ) → n ≢ 0 → n ≡ 2 * (n / 2) → 0 < n / 2
    positive zero p e = absurd (p refl)
    positive (suc n) p e = omega arith

-- no node has more than the root
odd_is : (i : ℕ) → (i ≡ 2 * (i / 2) → ⊥) → i ≡ 2 * (i / 2) + 1
odd_is i n = omega arith

child_has_less : (nodes : List ℕ) (i : ℕ) → AreSums nodes → 1 < i → i < length nodes → (i ≡ 2 * (i / 2)) ⊎ (i ≡ 2 * (i / 2) → ⊥)
    → slice_index nodes i ≤ slice_index nodes (i / 2)
child_has_less nodes i s p l (inl even) =
    let e : slice_index nodes i ≡ slice_index nodes (2 * (i / 2)) = ap (slice_index nodes) even in
    omega (arith, e, s.sums (i / 2) (omega arith) (omega (arith, s.halves)))
child_has_less nodes i s p l (inr odd) =
    let e : slice_index nodes i ≡ slice_index nodes (2 * (i / 2) + 1) = ap (slice_index nodes) (odd_is i odd) in
    omega (arith, e, s.sums (i / 2) (omega arith) (omega (arith, s.halves)))

no_more_than : (root : ℕ) (f : ℕ → ℕ) (length : ℕ) → f 1 ≡ root → ((i : ℕ) → 1 < i → i < length → f i ≤ f (i / 2))
    → (most i : ℕ) → i ≤ most → 0 < i → i < length → f i ≤ root
no_more_than root f length e below zero i m p l = absurd (omega arith)
no_more_than root f length e below (suc most) zero m p l = absurd (omega arith)
no_more_than root f length e below (suc most) (suc zero) m p l = omega arith
no_more_than root f length e below (suc most) (suc (suc i)) m p l =
    let parent : f (suc (suc i) / 2) ≤ root =
    no_more_than root f length e below most (suc (suc i) / 2) (omega arith) (omega arith) (omega arith) in
    omega (arith, below (suc (suc i)) (omega arith) l)

root_has_most : (nodes : List ℕ) (i : ℕ) → AreSums nodes → 0 < i → i < length nodes → slice_index nodes i ≤ slice_index nodes 1
root_has_most nodes i s p l =
    no_more_than (slice_index nodes 1) (slice_index nodes) (length nodes) refl
    (λ j q m. child_has_less nodes j s q m (cases_eq j (2 * (j / 2)))) i i (omega arith) p l

pub no_node_above : (nodes : List ℕ) (i : ℕ) → AreSums nodes → 0 < i → i < length nodes → slice_index nodes i ≤ sum_of (places_of nodes)
no_node_above nodes i s p l = omega (arith, root_has_most nodes i s p l, root_has_all nodes s (omega (arith, s.halves)))

-- the way from the root to the place at which a sum passes k: the place is below this node, and that much is left to pass
pub record Finding (nodes : List ℕ) (k rest node : ℕ) : Type 0 where
  pub height : ℕ
  pub start : ℕ
  pub lies : node * width height ≡ length nodes / 2 + start
  pub fits : start + width height ≤ length nodes / 2
  pub before : sum_of (take start (places_of nodes)) + rest ≡ k
  pub here : rest < slice_index nodes node

some_places : (nodes : List ℕ) (k : ℕ) → AreSums nodes → k < sum_of (places_of nodes) → 0 < length nodes / 2
some_places [] k s p = absurd (omega arith)
some_places (node ∷ nodes) k s p = omega (arith, s.halves)

pub find_root : (nodes : List ℕ) (k : ℕ) → AreSums nodes → k < sum_of (places_of nodes) → Finding nodes k k 1
find_root nodes k s p =
    let some : 0 < length nodes / 2 = some_places nodes k s p in
    let h = height_of (length nodes / 2) some s.sized.0 s.sized.1 in
    let e : length nodes / 2 ≡ width h.0 = h.1 in
    record { height = h.0; start = 0; lies = omega arith; fits = omega arith; before = omega arith; here = omega (arith, root_has_all nodes s some) }

-- the two ways down
lower_height : (h node half start : ℕ) → node * width h ≡ half + start → start + width h ≤ half → node < half → (g : ℕ) × (h ≡ suc g)
lower_height zero node half start lies fits p = absurd (omega arith)
lower_height (suc h) node half start lies fits p = (h, refl)

pub find_left : {nodes : List ℕ} {k rest node next : ℕ} → node < length nodes / 2 → Finding nodes k rest node → next ≡ 2 * node
    → rest < slice_index nodes next → Finding nodes k rest next
find_left {nodes = nodes} {node = node} p f is l =
    let half : ℕ = length nodes / 2 in
    let g = lower_height f.height node half f.start f.lies f.fits p in
    let lies : node * (width g.0 + width g.0) ≡ half + f.start = subst (λ h. node * width h ≡ half + f.start) g.1 f.lies in
    let fits : f.start + (width g.0 + width g.0) ≤ half = subst (λ h. f.start + width h ≤ half) g.1 f.fits in
    record {
      height = g.0;
      start = f.start;
      lies = ap (λ n. n * width g.0) is ∙ (double node (width g.0) ∙ lies);
      fits = omega arith;
      before = f.before;
      here = l;
    }

pub find_right : {nodes : List ℕ} {k rest node next : ℕ} → AreSums nodes → 0 < node → node < length nodes / 2
    → Finding nodes k rest node → next ≡ 2 * node → slice_index nodes next ≤ rest
    → Finding nodes k (rest - slice_index nodes next) (next + 1)
find_right {nodes = nodes} {rest = rest} {node = node} {next = next} s positive p f is l =
    let half : ℕ = length nodes / 2 in
    let places : List ℕ = places_of nodes in
    let g = lower_height f.height node half f.start f.lies f.fits p in
    let lies : node * (width g.0 + width g.0) ≡ half + f.start = subst (λ h. node * width h ≡ half + f.start) g.1 f.lies in
    let fits : f.start + (width g.0 + width g.0) ≤ half = subst (λ h. f.start + width h ≤ half) g.1 f.fits in
    let skipped : slice_index nodes (2 * node) ≡ sum_of (take (width g.0) (drop f.start places)) =
    covered nodes s g.0 (2 * node) f.start (double node (width g.0) ∙ lies) (omega arith) in
    let left : slice_index nodes next ≡ slice_index nodes (2 * node) = ap (slice_index nodes) is in
    let right : slice_index nodes (next + 1) ≡ slice_index nodes (2 * node + 1) = ap (λ n. slice_index nodes (n + 1)) is in
    record {
      height = g.0;
      start = f.start + width g.0;
      lies = ap (λ n. (n + 1) * width g.0) is ∙ omega (arith, double_more node (width g.0));
      fits = omega arith;
      before = omega (arith, sum_split f.start (width g.0) places, f.before);
      here = omega (arith, s.sums node positive p, f.here);
    }

-- at a leaf the place is found
pub record Found (places : List ℕ) (k place : ℕ) : Type 0 where
  pub within : place < length places
  pub before : sum_of (take place places) ≤ k
  pub passes : k < sum_of (take (place + 1) places)

pub find_leaf : {nodes : List ℕ} {k rest node : ℕ} → AreSums nodes → length nodes / 2 ≤ node → Finding nodes k rest node
    → Found (places_of nodes) k (node - length nodes / 2)
find_leaf {nodes = nodes} {k = k} {node = node} s p f =
    let half : ℕ = length nodes / 2 in
    let start_is : f.start ≡ node - half = at_leaf f.height node half f.start f.lies f.fits p in
    let within : f.start < length (places_of nodes) = omega (arith, length_places nodes s, f.fits, some_width f.height) in
    let node_is : node ≡ half + f.start = omega arith in
    let here : slice_index nodes node ≡ slice_index (places_of nodes) f.start =
    ap (slice_index nodes) node_is ∙ sym (get_or-drop half nodes f.start 0) in
    subst (Found (places_of nodes) k) start_is
    record {
      within = within;
      before = omega (arith, f.before);
      passes = omega (arith, f.before, f.here, here, sum_split f.start 1 (places_of nodes), sum_one (places_of nodes) f.start within);
    }
  where
    at_leaf : (h node half start : ℕ) → node * width h ≡ half + start → start + width h ≤ half → half ≤ node → start ≡ node - half
    at_leaf zero node half start lies fits p = omega arith
    at_leaf (suc h) node half start lies fits p = absurd (omega (arith, twice_below node (width h) (some_width h), some_width h))
