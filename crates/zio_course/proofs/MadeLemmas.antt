-- Which requests made the blocks of places, and which changed a name.
use Rattle.std.proofs.Common.{◌≡◌, ℕ, List, [], ◌∷◌, ◌++◌, filter, Bool, true, false, ◌&&◌, ◌||◌, cond, Option, Some, None, is_none, bytes_eq, eqb, eqb-true, eq-eqb, refl, sym, ap, ◌∙◌, subst, inl, inr, ◌⊎◌}
use Rattle.std.specs.Prelude.{option_to_list}
use Rattle.std.proofs.lemmas.Slice.Eq.{bytes_eq-Decides}
use Rattle.std.specs.List.{flat_map}
use Rattle.zio_types.specs.declared.error.Errno.{Errno}
use Rattle.zio_types.specs.declared.place.Place.{Place}
use Rattle.zio_types.specs.Places.{are_apart, meets}
use Rattle.zio_script.specs.declared.script.Work.{Work}
use Rattle.zio_script.specs.declared.script.Work.TheVariants.{Null, Read, Write, Free, Claim}
use Rattle.zio_script.specs.Requests.{makes_block, name_of}
use Rattle.zio_gang.specs.declared.tree.Tree.{Tree}
use Rattle.zio_gang.specs.Attempts.{Ended}
use Rattle.zio_gang.specs.Trees.{tree_places}
use Rattle.zio_course.specs.declared.runner.RequestEnd.{RequestEnd}
use Rattle.zio_course.specs.Runners.{freed_by, is_good_in, made_places, made_trees, places_of_block}
use Rattle.zio_course.proofs.AdmittedLemmas.{not_both}
use Rattle.zio_course.proofs.ApartLemmas.{apart_behind, apart_front, meets_swap, parts_apart}
use Rattle.zio_course.proofs.SortLemmas.{IsOneOf, one_left, one_right}
use Rattle.zio_course.proofs.StepLemmas.{some_same}
use Rattle.zio_course.proofs.TouchLemmas.{made_if, touch, touch_by, touch_unless}

-- ---- items of lists of lists

pub one_either : {X : Type 0} (x : X) (xs ys : List X) → IsOneOf x (xs ++ ys) → IsOneOf x xs ⊎ IsOneOf x ys
one_either x [] ys at = inr at
one_either x (z ∷ xs) ys (inl same) = inl (inl same)
one_either x (z ∷ xs) ys (inr at) = go (one_either x xs ys at)
  where
    go : IsOneOf x xs ⊎ IsOneOf x ys → IsOneOf x (z ∷ xs) ⊎ IsOneOf x ys
    go (inl front) = inl (inr front)
    go (inr back) = inr back

-- the item that it stands in
pub record CameFrom {X Y : Type 0} (g : X → List Y) (xs : List X) (y : Y) : Type 0 where
  pub item : X
  pub at : IsOneOf item xs
  pub there : IsOneOf y (g item)

pub one_within : {X Y : Type 0} (g : X → List Y) (xs : List X) (y : Y) → IsOneOf y (flat_map g xs) → CameFrom g xs y
one_within g [] y at = absurd at
one_within g (x ∷ xs) y at = go (one_either y (g x) (flat_map g xs) at) (one_within g xs y)
  where
    go : IsOneOf y (g x) ⊎ IsOneOf y (flat_map g xs) → (IsOneOf y (flat_map g xs) → CameFrom g xs y) → CameFrom g (x ∷ xs) y
    go (inl here) later = record { item = x; at = inl refl; there = here }
    go (inr back) later = let w = later back in record { item = w.item; at = inr w.at; there = w.there }

pub within_one : {X Y : Type 0} (g : X → List Y) (xs : List X) (x : X) (y : Y) → IsOneOf x xs → IsOneOf y (g x) → IsOneOf y (flat_map g xs)
within_one g [] x y at there = absurd at
within_one g (z ∷ xs) x y (inl same) there = one_left y (g z) (flat_map g xs) (subst (λ (w : _). IsOneOf y (g w)) (sym same) there)
within_one g (z ∷ xs) x y (inr at) there = one_right y (g z) (flat_map g xs) (within_one g xs x y at there)

pub one_filtered : {X : Type 0} (test : X → Bool) (xs : List X) (x : X) → IsOneOf x (filter test xs) → IsOneOf x xs × (test x ≡ true)
one_filtered test [] x at = absurd at
one_filtered test (z ∷ xs) x at = go (test z) refl at (one_filtered test xs x)
  where
    go : (b : Bool) → test z ≡ b → IsOneOf x (cond b (z ∷ filter test xs) (filter test xs)) → (IsOneOf x (filter test xs) → IsOneOf x xs × (test x ≡ true)) → IsOneOf x (z ∷ xs) × (test x ≡ true)
    go true e (inl same) later = (inl same, ap test (sym same) ∙ e)
    go true e (inr back) later = let rest = later back in (inr rest.0, rest.1)
    go false e back later = let rest = later back in (inr rest.0, rest.1)

pub filtered_one : {X : Type 0} (test : X → Bool) (xs : List X) (x : X) → IsOneOf x xs → test x ≡ true → IsOneOf x (filter test xs)
filtered_one test [] x at is = absurd at
filtered_one test (z ∷ xs) x (inl same) is = subst (λ (b : Bool). IsOneOf x (cond b (z ∷ filter test xs) (filter test xs))) (sym (ap test same ∙ is)) (inl same)
filtered_one test (z ∷ xs) x (inr at) is = go (test z) (filtered_one test xs x at is)
  where
    go : (b : Bool) → IsOneOf x (filter test xs) → IsOneOf x (cond b (z ∷ filter test xs) (filter test xs))
    go true later = inr later
    go false later = later

-- ---- blocks that were made

flat_front : (tree : Option Tree) (trees : List Tree) → flat_map tree_places (option_to_list tree ++ trees) ≡ places_of_block tree ++ flat_map tree_places trees
flat_front None trees = refl
flat_front (Some tree) trees = ap (λ (ps : List Place). ps ++ flat_map tree_places trees) (sym (append_none (tree_places tree)))
  where
    append_none : (ps : List Place) → ps ++ [] ≡ ps
    append_none [] = refl
    append_none (p ∷ ps) = ap (λ (qs : List Place). p ∷ qs) (append_none ps)

made_front : (f : RequestEnd) (fs : List RequestEnd) → made_places (f ∷ fs) ≡ places_of_block f.tree ++ made_places fs
made_front f fs = flat_front f.tree (made_trees fs)

pub tree_one : (tree : Option Tree) (t : Tree) (p : Place) → tree ≡ Some t → IsOneOf p (tree_places t) → IsOneOf p (places_of_block tree)
tree_one tree t p is at = subst (λ (o : Option Tree). IsOneOf p (places_of_block o)) (sym is) (one_left p (tree_places t) [] at)

pub made_one : (fs : List RequestEnd) (f : RequestEnd) (t : Tree) (p : Place) → IsOneOf f fs → f.tree ≡ Some t → IsOneOf p (tree_places t) → IsOneOf p (made_places fs)
made_one [] f t p at is there = absurd at
made_one (g ∷ fs) f t p (inl same) is there =
    subst (IsOneOf p) (sym (made_front g fs)) (one_left p (places_of_block g.tree) (made_places fs) (tree_one g.tree t p (ap (λ (x : RequestEnd). x.tree) same ∙ is) there))
made_one (g ∷ fs) f t p (inr at) is there =
    subst (IsOneOf p) (sym (made_front g fs)) (one_right p (places_of_block g.tree) (made_places fs) (made_one fs f t p at is there))

-- what made the block of a place
pub record Made (fs : List RequestEnd) (p : Place) : Type 0 where
  pub end : RequestEnd
  pub tree : Tree
  pub at : IsOneOf end fs
  pub is : end.tree ≡ Some tree
  pub there : IsOneOf p (tree_places tree)

pub one_made : (fs : List RequestEnd) (p : Place) → IsOneOf p (made_places fs) → Made fs p
one_made fs p at =
    let t = one_within tree_places (made_trees fs) p at in
    let f = one_within (λ (x : RequestEnd). option_to_list x.tree) fs t.item t.at in
    record { end = f.item; tree = t.item; at = f.at; is = of_option f.item.tree t.item f.there; there = t.there }
  where
    of_option : (o : Option Tree) (x : Tree) → IsOneOf x (option_to_list o) → o ≡ Some x
    of_option None x here = absurd here
    of_option (Some y) x (inl same) = ap Some same
    of_option (Some y) x (inr never) = absurd never

-- two that made blocks with places that meet are one
pub one_maker : (fs : List RequestEnd) (f g : RequestEnd) (t u : Tree) (p q : Place) → meets p q ≡ true → are_apart (made_places fs) ≡ true
    → IsOneOf f fs → IsOneOf g fs → f.tree ≡ Some t → g.tree ≡ Some u → IsOneOf p (tree_places t) → IsOneOf q (tree_places u) → f ≡ g
one_maker [] f g t u p q met apart a b ft gt pt qu = absurd a
one_maker (h ∷ fs) f g t u p q met apart (inl a) (inl b) ft gt pt qu = sym a ∙ b
one_maker (h ∷ fs) f g t u p q met apart (inl a) (inr b) ft gt pt qu =
    not_both (meets p q) met
    (parts_apart (places_of_block h.tree) (made_places fs) p q (ap are_apart (sym (made_front h fs)) ∙ apart)
    (tree_one h.tree t p (ap (λ (x : RequestEnd). x.tree) a ∙ ft) pt) (made_one fs g u q b gt qu))
one_maker (h ∷ fs) f g t u p q met apart (inr a) (inl b) ft gt pt qu =
    not_both (meets p q) met
    (meets_swap p q
    ∙ parts_apart (places_of_block h.tree) (made_places fs) q p (ap are_apart (sym (made_front h fs)) ∙ apart)
    (tree_one h.tree u q (ap (λ (x : RequestEnd). x.tree) b ∙ gt) qu) (made_one fs f t p a ft pt))
one_maker (h ∷ fs) f g t u p q met apart (inr a) (inr b) ft gt pt qu =
    one_maker fs f g t u p q met (apart_behind (places_of_block h.tree) (made_places fs) (ap are_apart (sym (made_front h fs)) ∙ apart)) a b ft gt pt qu

-- no two places of a block that was made meet
pub made_apart : (fs : List RequestEnd) (f : RequestEnd) (t : Tree) → are_apart (made_places fs) ≡ true → IsOneOf f fs → f.tree ≡ Some t → are_apart (tree_places t) ≡ true
made_apart [] f t apart at is = absurd at
made_apart (g ∷ fs) f t apart (inl same) is =
    let own : are_apart (places_of_block g.tree) ≡ true = apart_front (places_of_block g.tree) (made_places fs) (ap are_apart (sym (made_front g fs)) ∙ apart) in
    apart_front (tree_places t) [] (subst (λ (o : Option Tree). are_apart (places_of_block o) ≡ true) (ap (λ (x : RequestEnd). x.tree) same ∙ is) own)
made_apart (g ∷ fs) f t apart (inr at) is =
    made_apart fs f t (apart_behind (places_of_block g.tree) (made_places fs) (ap are_apart (sym (made_front g fs)) ∙ apart)) at is

-- ---- what changes a name

-- a request that made a name's block, or freed it
pub data Change (work : Work) (tree after : Option Tree) (name : List ℕ) : Type 0 where
  Makes : (t : Tree) → makes_block work ≡ true → name_of work ≡ Some name → tree ≡ Some t → after ≡ Some t → Change work tree after name
  Frees : work ≡ Free name → after ≡ None → Change work tree after name

name_is : (n name : List ℕ) → bytes_eq n name ≡ true → n ≡ name
name_is n name e = (bytes_eq-Decides n name).0 e

made_change : (tree : Option Tree) (b : Bool) (after : Option Tree) → cond b (made_if tree) None ≡ Some after → (t : Tree) × (b ≡ true) × (tree ≡ Some t) × (after ≡ Some t)
made_change None true after e = absurd (let f = e in cc)
made_change None false after e = absurd (let f = e in cc)
made_change (Some t) true after e = (t, refl, refl, sym (some_same (Some t) after e))
made_change (Some t) false after e = absurd (let f = e in cc)

freed_change : (b : Bool) (after : Option Tree) → cond b (Some None) None ≡ Some after → (b ≡ true) × (after ≡ None)
freed_change true after e = (refl, sym (some_same None after e))
freed_change false after e = absurd (let f = e in cc)

change_of : (work : Work) (tree after : Option Tree) (name : List ℕ) → touch_by work tree name ≡ Some after → Change work tree after name
change_of Null tree after name e = absurd (let f = e in cc)
change_of (Read n prio) tree after name e = absurd (let f = e in cc)
change_of (Write n sum copies prio body) tree after name e =
    let m = made_change tree (bytes_eq n name) after e in Makes m.0 refl (ap Some (name_is n name m.1)) m.2 m.3
change_of (Free n) tree after name e = let m = freed_change (bytes_eq n name) after e in Frees (ap Free (name_is n name m.0)) m.1
change_of (Claim n pointer) tree after name e =
    let m = made_change tree (bytes_eq n name) after e in Makes m.0 refl (ap Some (name_is n name m.1)) m.2 m.3

pub good_touch : (e : Ended) (after : Option Tree) (name : List ℕ) → touch name e ≡ Some after → (e.error ≡ None) × Change e.request.work e.tree after name
good_touch e after name is = go e.error refl
  where
    go : (error : Option Errno) → e.error ≡ error → (e.error ≡ None) × Change e.request.work e.tree after name
    go None none = (none, change_of e.request.work e.tree after name (sym (ap (λ (o : Option Errno). touch_unless o e name) none) ∙ is))
    go (Some x) some = absurd (let f = sym (ap (λ (o : Option Errno). touch_unless o e name) some) ∙ is in cc)

pub same_bytes : (name : List ℕ) → bytes_eq name name ≡ true
same_bytes name = (bytes_eq-Decides name name).1 refl

-- a request that makes a block makes it of its name
pub makes_touch : (work : Work) (t : Tree) → makes_block work ≡ true → (name : List ℕ) × (name_of work ≡ Some name) × (touch_by work (Some t) name ≡ Some (Some t))
makes_touch Null t e = absurd (let f = e in cc)
makes_touch (Read n prio) t e = absurd (let f = e in cc)
makes_touch (Write n sum copies prio body) t e = (n, refl, ap (λ (b : Bool). cond b (Some (Some t)) None) (same_bytes n))
makes_touch (Free n) t e = absurd (let f = e in cc)
makes_touch (Claim n pointer) t e = (n, refl, ap (λ (b : Bool). cond b (Some (Some t)) None) (same_bytes n))

-- what is freed is freed of the name
pub freed_of : (work : Work) (block : Option Tree) (p : Place) → IsOneOf p (freed_by work block) → (name : List ℕ) × (work ≡ Free name) × IsOneOf p (places_of_block block)
freed_of Null block p at = absurd at
freed_of (Read n prio) block p at = absurd at
freed_of (Write n sum copies prio body) block p at = absurd at
freed_of (Free n) block p at = (n, refl, at)
freed_of (Claim n pointer) block p at = absurd at

pub block_tree : (block : Option Tree) (p : Place) → IsOneOf p (places_of_block block) → (t : Tree) × (block ≡ Some t) × IsOneOf p (tree_places t)
block_tree None p at = absurd at
block_tree (Some t) p at = (t, refl, go (one_either p (tree_places t) [] at))
  where
    go : IsOneOf p (tree_places t) ⊎ IsOneOf p [] → IsOneOf p (tree_places t)
    go (inl here) = here
    go (inr never) = absurd never

pub good_found : (fs : List RequestEnd) (n : ℕ) → is_good_in fs n ≡ true → (f : RequestEnd) × IsOneOf f fs × (f.request ≡ n) × (f.error ≡ None)
good_found [] n e = absurd (let f = e in cc)
good_found (g ∷ fs) n e = go (eqb g.request n) refl (is_none g.error) refl e (good_found fs n)
  where
    none_of : (o : Option Errno) → is_none o ≡ true → o ≡ None
    none_of None k = refl
    none_of (Some x) k = absurd (let f = k in cc)

    go : (a : Bool) → eqb g.request n ≡ a → (b : Bool) → is_none g.error ≡ b → ((a && b) || is_good_in fs n) ≡ true
        → (is_good_in fs n ≡ true → (f : RequestEnd) × IsOneOf f fs × (f.request ≡ n) × (f.error ≡ None)) → (f : RequestEnd) × IsOneOf f (g ∷ fs) × (f.request ≡ n) × (f.error ≡ None)
    go true same true none k later = (g, inl refl, eqb-true g.request n same, none_of g.error none)
    go true same false none k later = let rest = later k in (rest.0, inr rest.1, rest.2, rest.3)
    go false same b none k later = let rest = later k in (rest.0, inr rest.1, rest.2, rest.3)

pub found_good : (fs : List RequestEnd) (f : RequestEnd) → IsOneOf f fs → f.error ≡ None → is_good_in fs f.request ≡ true
found_good [] f at none = absurd at
found_good (g ∷ fs) f (inl same) none =
    ap (λ (b : Bool). (b && is_none g.error) || is_good_in fs f.request) (eq-eqb g.request f.request (ap (λ (x : RequestEnd). x.request) same))
    ∙ ap (λ (o : Option Errno). is_none o || is_good_in fs f.request) (ap (λ (x : RequestEnd). x.error) same ∙ none)
found_good (g ∷ fs) f (inr at) none =
    ap (λ (b : Bool). ((eqb g.request f.request) && is_none g.error) || b) (found_good fs f at none) ∙ or_true ((eqb g.request f.request) && is_none g.error)
  where
    or_true : (b : Bool) → (b || true) ≡ true
    or_true true = refl
    or_true false = refl
