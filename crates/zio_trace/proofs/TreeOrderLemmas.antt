-- Trees whose operations don't conflict may be run in any order.
use Rattle.std.proofs.Common.{◌≡◌, ℕ, zero, suc, ◌<◌, List, [], ◌∷◌, ◌++◌, length, map, set, get_or, swap, refl, sym, ap, ◌∙◌, subst, append_assoc, arith}
use Rattle.std.specs.List.{AllByRecursion}
use Rattle.std.specs.Prelude.{IsPermutation}
use Rattle.std.proofs.lemmas.List.Edits.{swap_is}
use Rattle.std.proofs.lemmas.List.Sorted.{IsPermutation-refl, IsPermutation-trans, IsPermutation-append, IsPermutation-append_comm, IsPermutation-cons, IsPermutation-keeps}
use Rattle.zio_types.specs.Choices.{Choice}
use Rattle.zio_cksum.specs.Images.{Images}
use Rattle.zio_gang.specs.Attempts.{Terms, Pending, Settled as TreeSettled, reexecutions_max}
use Rattle.zio_gang.specs.Rounds.{Ran, add_left, add_settled, settle_each, then_trees}
use Rattle.zio_trace.specs.Leaves.{HaveSizes}
use Rattle.zio_trace.specs.Programs.{Done}
use Rattle.zio_trace.specs.Tasks.{Settle, Value, means, settled}
use Rattle.zio_trace.specs.TreeOrders.{AreAlike, IsTree, Pairs, Root, TreeLies, TreesApart, flat_root}
use Rattle.zio_trace.proofs.RoundLemmas.{tasks_commute}
use Rattle.zio_trace.proofs.SettleLemmas.{tree_settles}
use Rattle.zio_trace.proofs.WholeTraces.{Commutes, task_sizes, tasks_swap}

-- ---- lists in another order

-- neighbours change places, time and again
data Reordered {X : Type 0} : List X → List X → Type 0 where
  Same : {xs : List X} → Reordered xs xs
  Swapped : {x y : X} {xs : List X} → Reordered (x ∷ y ∷ xs) (y ∷ x ∷ xs)
  Behind : {x : X} {xs ys : List X} → Reordered xs ys → Reordered (x ∷ xs) (x ∷ ys)
  Then : {xs ys zs : List X} → Reordered xs ys → Reordered ys zs → Reordered xs zs

-- the first item and one behind it change places
far : {X : Type 0} (x d : X) (xs : List X) (i : ℕ) → i < length xs → Reordered (x ∷ xs) (get_or xs i d ∷ set xs i x)
far x d [] i h = absurd (omega arith)
far x d (y ∷ xs) zero h = Swapped
far x d (y ∷ xs) (suc i) h = Then Swapped (Then (Behind (far x d xs i (omega arith))) Swapped)

swap_reorders : {X : Type 0} (d : X) (xs : List X) (i k : ℕ) → i < length xs → k < length xs → Reordered xs (set (set xs i (get_or xs k d)) k (get_or xs i d))
swap_reorders d [] i k p q = absurd (omega arith)
swap_reorders d (x ∷ xs) zero zero p q = Same
swap_reorders d (x ∷ xs) zero (suc k) p q = far x d xs k (omega arith)
swap_reorders d (x ∷ xs) (suc i) zero p q = far x d xs i (omega arith)
swap_reorders d (x ∷ xs) (suc i) (suc k) p q = Behind (swap_reorders d xs i k (omega arith) (omega arith))

all_reordered : {X : Type 0} (P : X → Type 0) (xs ys : List X) → Reordered xs ys → AllByRecursion P xs → AllByRecursion P ys
all_reordered P xs ys Same h = h
all_reordered P xs ys Swapped h = (h.1.0, (h.0, h.1.1))
all_reordered P xs ys (Behind {x = x} {xs = us} {ys = vs} r) h = (h.0, all_reordered P us vs r h.1)
all_reordered P xs ys (Then {xs = us} {ys = vs} {zs = ws} r s) h = all_reordered P vs ws s (all_reordered P us vs r h)

pairs_reordered : {X : Type 0} (R : X → X → Type 0) → ((x y : X) → R x y → R y x) → (xs ys : List X) → Reordered xs ys → Pairs R xs → Pairs R ys
pairs_reordered R turn xs ys Same h = h
pairs_reordered R turn xs ys (Swapped {x = x} {y = y}) h = ((turn x y h.0.0, h.1.0), (h.0.1, h.1.1))
pairs_reordered R turn xs ys (Behind {x = x} {xs = us} {ys = vs} r) h = (all_reordered (R x) us vs r h.0, pairs_reordered R turn us vs r h.1)
pairs_reordered R turn xs ys (Then {xs = us} {ys = vs} {zs = ws} r s) h = pairs_reordered R turn vs ws s (pairs_reordered R turn us vs r h)

-- ---- what trees leave

-- a tree that was settled, as the flat lists have it
abbrev settled_done : Done Value → TreeSettled
settled_done d = record { left = (settled d.value).again; ended = (settled d.value).ended; asks = d.asks; images = d.images }

module _ (j : List Choice) (t : Terms) where
  abbrev done : Root → Images → Done Value
  done r images = means j t (Settle r.p r.kids) images

  abbrev ran : List Root → Images → Ran
  ran [] images = record { left = []; ended = []; asks = []; images = images }
  ran (r ∷ rs) images = add_settled (settled_done (done r images)) (ran rs (done r images).images)

  trees_ran : (rs : List Root) (images : Images) → AllByRecursion IsTree rs → settle_each j t (map flat_root rs) images ≡ ran rs images
  unfolding settle_each
  trees_ran [] images h = refl
  trees_ran (r ∷ rs) images h =
      ap (λ (s : TreeSettled). then_trees s (settle_each j t (map flat_root rs))) (tree_settles reexecutions_max j t 0 r.p r.kids images h.0)
      ∙ ap (add_settled (settled_done (done r images))) (trees_ran rs (done r images).images h.1)

-- ---- alike

alike_itself : (a : Ran) → AreAlike a a
alike_itself a = record { images = refl; ended = IsPermutation-refl a.ended; left = IsPermutation-refl a.left; asks = IsPermutation-refl a.asks }

alike_then : (a b c : Ran) → AreAlike a b → AreAlike b c → AreAlike a c
alike_then a b c h k = record {
  images = k.images ∙ h.images;
  ended = IsPermutation-trans a.ended b.ended c.ended h.ended k.ended;
  left = IsPermutation-trans a.left b.left c.left h.left k.left;
  asks = IsPermutation-trans a.asks b.asks c.asks h.asks k.asks;
}

left_behind : (ps : List Pending) (xs ys : List (List Pending)) → IsPermutation xs ys → IsPermutation (add_left ps xs) (add_left ps ys)
left_behind [] xs ys h = h
left_behind (p ∷ ps) xs ys h = IsPermutation-cons (p ∷ ps) xs ys h

alike_behind : (s : TreeSettled) (a b : Ran) → AreAlike a b → AreAlike (add_settled s a) (add_settled s b)
alike_behind s a b h = record {
  images = h.images;
  ended = IsPermutation-append s.ended s.ended a.ended b.ended (IsPermutation-refl s.ended) h.ended;
  left = left_behind s.left a.left b.left h.left;
  asks = IsPermutation-append s.asks s.asks a.asks b.asks (IsPermutation-refl s.asks) h.asks;
}

fronts_swap : {X : Type 0} (xs ys zs : List X) → IsPermutation (xs ++ (ys ++ zs)) (ys ++ (xs ++ zs))
fronts_swap xs ys zs =
    subst (λ (l : List _). IsPermutation l (ys ++ (xs ++ zs))) (append_assoc xs ys zs)
    (subst (λ (l : List _). IsPermutation ((xs ++ ys) ++ zs) l) (append_assoc ys xs zs)
    (IsPermutation-append (xs ++ ys) (ys ++ xs) zs zs (IsPermutation-append_comm xs ys) (IsPermutation-refl zs)))

lefts_swap : (ps qs : List Pending) (xs : List (List Pending)) → IsPermutation (add_left ps (add_left qs xs)) (add_left qs (add_left ps xs))
lefts_swap [] qs xs = IsPermutation-refl (add_left qs xs)
lefts_swap (p ∷ ps) [] xs = IsPermutation-refl ((p ∷ ps) ∷ xs)
lefts_swap (p ∷ ps) (q ∷ qs) xs = fronts_swap ((p ∷ ps) ∷ []) ((q ∷ qs) ∷ []) xs

swapped_alike : (x y : TreeSettled) (a : Ran) → AreAlike (add_settled x (add_settled y a)) (add_settled y (add_settled x a))
swapped_alike x y a = record {
  images = refl;
  ended = fronts_swap x.ended y.ended a.ended;
  left = lefts_swap x.left y.left a.left;
  asks = fronts_swap x.asks y.asks a.asks;
}

-- ---- any order

module _ (j : List Choice) (t : Terms) (sizes : ℕ → ℕ) where
  turned : (a b : Root) → TreesApart j t a b → TreesApart j t b a
  turned a b h d e hd he = (tasks_commute j t sizes).turned e d (h e d he hd)

  two_swap : (a b : Root) (rs : List Root) (images : Images) → TreesApart j t a b → TreeLies j t sizes a → TreeLies j t sizes b → HaveSizes sizes images → AreAlike (ran j t (a ∷ b ∷ rs) images) (ran j t (b ∷ a ∷ rs) images)
  two_swap a b rs images apart la lb have =
      let x : Done Value = done j t a images in
      let y : Done Value = done j t b x.images in
      let z : Done Value = done j t b images in
      let law : Commutes j t sizes (Settle a.p a.kids) (Settle b.p b.kids) images = tasks_swap j t sizes (Settle a.p a.kids) (Settle b.p b.kids) images apart la lb have in
      let first : done j t a z.images ≡ record { value = x.value; asks = x.asks; images = y.images } = law.first in
      let second : settled_done z ≡ record { left = (settled y.value).again; ended = (settled y.value).ended; asks = y.asks; images = z.images } =
      λ i. record { left = (settled (sym law.value i)).again; ended = (settled (sym law.value i)).ended; asks = sym law.asks i; images = z.images } in
      subst (AreAlike (ran j t (a ∷ b ∷ rs) images))
      (sym (ap (λ (d : Done Value). add_settled (settled_done z) (add_settled (settled_done d) (ran j t rs d.images))) first
      ∙ ap (λ (s : TreeSettled). add_settled s (add_settled (settled_done x) (ran j t rs y.images))) second))
      (swapped_alike (settled_done x) (settled_done y) (ran j t rs y.images))

  reordered_alike : (rs qs : List Root) (images : Images) → Reordered rs qs → Pairs (TreesApart j t) rs → AllByRecursion (TreeLies j t sizes) rs → HaveSizes sizes images → AreAlike (ran j t rs images) (ran j t qs images)
  reordered_alike rs qs images (Same {xs = us}) apart lie have = alike_itself (ran j t us images)
  reordered_alike rs qs images (Swapped {x = a} {y = b} {xs = us}) apart lie have = two_swap a b us images apart.0.0 lie.0 lie.1.0 have
  reordered_alike rs qs images (Behind {x = a} {xs = us} {ys = vs} r) apart lie have =
      let x : Done Value = done j t a images in
      alike_behind (settled_done x) (ran j t us x.images) (ran j t vs x.images)
      (reordered_alike us vs x.images r apart.1 lie.1 (task_sizes j t sizes (Settle a.p a.kids) images lie.0 have))
  reordered_alike rs qs images (Then {xs = us} {ys = vs} {zs = ws} r s) apart lie have =
      alike_then (ran j t us images) (ran j t vs images) (ran j t ws images) (reordered_alike us vs images r apart lie have)
      (reordered_alike vs ws images s (pairs_reordered (TreesApart j t) turned us vs r apart) (all_reordered (TreeLies j t sizes) us vs r lie) have)

  -- Trees whose operations don't conflict may be run in any order.
  pub trees_in_any_order : (rs qs : List Root) (images : Images) → IsPermutation rs qs → AllByRecursion IsTree rs → Pairs (TreesApart j t) rs → AllByRecursion (TreeLies j t sizes) rs → HaveSizes sizes images
      → AreAlike (settle_each j t (map flat_root rs) images) (settle_each j t (map flat_root qs) images)
  trees_in_any_order rs qs images perm trees apart lie have =
      let r : Reordered rs qs = reorders rs qs perm in
      subst (λ (a : Ran). AreAlike a (settle_each j t (map flat_root qs) images)) (sym (trees_ran j t rs images trees))
      (subst (AreAlike (ran j t rs images)) (sym (trees_ran j t qs images (all_reordered IsTree rs qs r trees)))
      (reordered_alike rs qs images r apart lie have))
    where
      reorders : (xs ys : List Root) → IsPermutation xs ys → Reordered xs ys
      reorders xs = IsPermutation-keeps xs (λ l. Reordered xs l) Same (λ l i k p q h. Then h (one l i k p q))
        where
          one : (l : List Root) (i k : ℕ) → i < length l → k < length l → Reordered l (swap l i k)
          one [] i k p q = absurd (omega arith)
          one (d ∷ l) i k p q = subst (Reordered (d ∷ l)) (swap_is (d ∷ l) i k d p q) (swap_reorders d (d ∷ l) i k p q)
