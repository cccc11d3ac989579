-- A shelf's entries are its operations in their order.
use Rattle.std.proofs.Common.{◌≡◌, ℕ, ◌<◌, ◌≤◌, List, [], ◌∷◌, Bool, true, false, cond, ◌&&◌, ◌||◌, not, ◌==◌, nat_le, nat_lt, Option, Some, None, refl, sym, ap, ◌∙◌, arith, filter, subst, true≢false}
use Rattle.std.proofs.lemmas.Bool.Decides.{nat_tests}
use Rattle.std.proofs.lemmas.Map.Entries.{lookup-filter-keys}
use Rattle.std.specs.Bool.{beq}
use Rattle.std.specs.BTreeMap.{is_at}
use Rattle.std.specs.List.{AllByRecursion}
use Rattle.std.specs.List.Sorted.{IsStrictlySortedBy}
use Rattle.std.specs.Map.{keys_of, values_of}
use Rattle.std.specs.Ordering.{is_eq, nat_cmp}
use Rattle.std.specs.declared.cmp.Ordering.{Ordering}
use Rattle.std.specs.declared.cmp.Ordering.TheVariants.{Less, Equal, Greater}
use Rattle.zio_types.specs.declared.request.Prio.{Prio}
use Rattle.zio_types.specs.declared.request.Prio.TheVariants.{SyncRead, SyncWrite, AsyncRead, AsyncWrite, Scrub}
use Rattle.zio_vqueue.specs.declared.op.Op.{Op}
use Rattle.zio_vqueue.specs.declared.spots.Spot.{Spot}
use Rattle.zio_vqueue.specs.Classes.{class_number, is_sync}
use Rattle.zio_vqueue.specs.Queues.{arranged, in_turn, is_in_class, put_before, turn_in}
use Rattle.zio_vqueue.specs.Groups.{candidates, may_join}
use Rattle.zio_vqueue.specs.Spots.{IsShelved, at_spot, at_time, is_sought_at, join_shelf, kept_at, spot_cmp}
use Rattle.zio_vqueue.proofs.EntryLemmas.{same_entries}
use Rattle.zio_vqueue.proofs.SpotLemmas.{is_at-spot, spot_exact, spot_total}

-- ---- the order of spots on one shelf

lower_rank : (s r t x u : ℕ) → r < x → spot_cmp (record { shelf = s; rank = r; time = t }) (record { shelf = s; rank = x; time = u }) ≡ Less
lower_rank s r t x u h = grind (arith, nat_tests)

same_rank : (s r t u : ℕ) → t < u → spot_cmp (record { shelf = s; rank = r; time = t }) (record { shelf = s; rank = r; time = u }) ≡ Less
same_rank s r t u h = grind (arith, nat_tests)

earlier : (s r t x u : ℕ) → nat_le r x ≡ true → t < u → spot_cmp (record { shelf = s; rank = r; time = t }) (record { shelf = s; rank = x; time = u }) ≡ Less
earlier s r t x u h l = go (nat_lt r x) refl
  where
    go : (b : Bool) → nat_lt r x ≡ b → spot_cmp (record { shelf = s; rank = r; time = t }) (record { shelf = s; rank = x; time = u }) ≡ Less
    go true e = lower_rank s r t x u (grind (arith, nat_tests))
    go false e = let same : x ≡ r = grind (arith, nat_tests) in
        subst (λ y. spot_cmp (record { shelf = s; rank = r; time = t }) (record { shelf = s; rank = y; time = u }) ≡ Less) (sym same) (same_rank s r t u l)

-- ---- entries of one shelf, put in from the last on

-- an entry put in before the first that isn't below it by rank
abbrev pub put_entry : (Op → ℕ) → Spot × Op → List (Spot × Op) → List (Spot × Op)
put_entry r e [] = e ∷ []
put_entry r e (f ∷ fs) = cond (nat_le (r e.1) (r f.1)) (e ∷ f ∷ fs) (f ∷ put_entry r e fs)

abbrev pub entry_on : ℕ → (Op → ℕ) → ℕ × Op → Spot × Op
entry_on s r e = (record { shelf = s; rank = r e.1; time = e.0 }, e.1)

abbrev pub arranged_on : ℕ → (Op → Bool) → (Op → ℕ) → List (ℕ × Op) → List (Spot × Op)
arranged_on s p r [] = []
arranged_on s p r (e ∷ es) = cond (p e.1) (put_entry r (entry_on s r e) (arranged_on s p r es)) (arranged_on s p r es)

values-put_entry : (r : Op → ℕ) (e : Spot × Op) (fs : List (Spot × Op)) → values_of (put_entry r e fs) ≡ put_before r e.1 (values_of fs)
values-put_entry r e [] = refl
values-put_entry r e (f ∷ fs) = go (nat_le (r e.1) (r f.1)) (values-put_entry r e fs)
  where
    go : (b : Bool) → values_of (put_entry r e fs) ≡ put_before r e.1 (values_of fs) →
        values_of (cond b (e ∷ f ∷ fs) (f ∷ put_entry r e fs)) ≡ cond b (e.1 ∷ f.1 ∷ values_of fs) (f.1 ∷ put_before r e.1 (values_of fs))
    go true h = refl
    go false h = ap (λ x. f.1 ∷ x) h

pub values-arranged_on : (s : ℕ) (p : Op → Bool) (r : Op → ℕ) (es : List (ℕ × Op)) → values_of (arranged_on s p r es) ≡ arranged r (filter p (values_of es))
values-arranged_on s p r [] = refl
values-arranged_on s p r (e ∷ es) = go (p e.1) (values-arranged_on s p r es)
  where
    go : (b : Bool) → values_of (arranged_on s p r es) ≡ arranged r (filter p (values_of es)) →
        values_of (cond b (put_entry r (entry_on s r e) (arranged_on s p r es)) (arranged_on s p r es)) ≡ arranged r (cond b (e.1 ∷ filter p (values_of es)) (filter p (values_of es)))
    go true h = values-put_entry r (entry_on s r e) (arranged_on s p r es) ∙ ap (put_before r e.1) h
    go false h = h

-- ---- they stand on the shelf by their ranks, and later

abbrev AreLater : ℕ → (Op → ℕ) → ℕ → List (Spot × Op) → Type 0
AreLater s r t [] = Unit {0}
AreLater s r t (f ∷ fs) = (f.0 ≡ record { shelf = s; rank = r f.1; time = f.0.time }) × (t < f.0.time) × AreLater s r t fs

later_yet : (s : ℕ) (r : Op → ℕ) (t u : ℕ) (fs : List (Spot × Op)) → t < u → AreLater s r u fs → AreLater s r t fs
later_yet s r t u [] l h = tt
later_yet s r t u (f ∷ fs) l h = (h.0, omega (arith, l, h.1), later_yet s r t u fs l h.2)

later-put_entry : (s : ℕ) (r : Op → ℕ) (t : ℕ) (e : ℕ × Op) (fs : List (Spot × Op)) → t < e.0 → AreLater s r t fs → AreLater s r t (put_entry r (entry_on s r e) fs)
later-put_entry s r t e [] l h = (refl, l, tt)
later-put_entry s r t e (f ∷ fs) l h = go (nat_le (r e.1) (r f.1)) (later-put_entry s r t e fs l h.2)
  where
    go : (b : Bool) → AreLater s r t (put_entry r (entry_on s r e) fs) → AreLater s r t (cond b (entry_on s r e ∷ f ∷ fs) (f ∷ put_entry r (entry_on s r e) fs))
    go true k = (refl, l, h)
    go false k = (h.0, h.1, k)

later-arranged_on : (s : ℕ) (p : Op → Bool) (r : Op → ℕ) (t : ℕ) (es : List (ℕ × Op)) → AllByRecursion (λ u. nat_cmp t u ≡ Less) (keys_of es) → AreLater s r t (arranged_on s p r es)
later-arranged_on s p r t [] h = tt
later-arranged_on s p r t (e ∷ es) h = go (p e.1) (later-arranged_on s p r t es h.1)
  where
    l : t < e.0
    l = grind (arith, nat_tests, h.0)

    go : (b : Bool) → AreLater s r t (arranged_on s p r es) → AreLater s r t (cond b (put_entry r (entry_on s r e) (arranged_on s p r es)) (arranged_on s p r es))
    go true k = later-put_entry s r t e (arranged_on s p r es) l k
    go false k = k

-- ---- they are in order

abbrev pub AllAfter : Spot → List Spot → Type 0
AllAfter a ks = AllByRecursion (λ k. spot_cmp a k ≡ Less) ks

pub after_yet : (a b : Spot) (ks : List Spot) → spot_cmp a b ≡ Less → AllAfter b ks → AllAfter a ks
after_yet a b [] l h = tt
after_yet a b (k ∷ ks) l h = (spot_total.trans a b k l h.0, after_yet a b ks l h.1)

after-put_entry : (r : Op → ℕ) (a : Spot) (e : Spot × Op) (fs : List (Spot × Op)) → spot_cmp a e.0 ≡ Less → AllAfter a (keys_of fs) → AllAfter a (keys_of (put_entry r e fs))
after-put_entry r a e [] l h = (l, tt)
after-put_entry r a e (f ∷ fs) l h = go (nat_le (r e.1) (r f.1)) (after-put_entry r a e fs l h.1)
  where
    go : (b : Bool) → AllAfter a (keys_of (put_entry r e fs)) → AllAfter a (keys_of (cond b (e ∷ f ∷ fs) (f ∷ put_entry r e fs)))
    go true k = (l, h)
    go false k = (h.0, k)

sorted-put_entry : (s : ℕ) (r : Op → ℕ) (e : ℕ × Op) (fs : List (Spot × Op)) → AreLater s r e.0 fs → IsStrictlySortedBy spot_cmp (keys_of fs) →
    IsStrictlySortedBy spot_cmp (keys_of (put_entry r (entry_on s r e) fs))
unfolding IsStrictlySortedBy
sorted-put_entry s r e [] later h = (tt, tt)
sorted-put_entry s r e (f ∷ fs) later h = go (nat_le (r e.1) (r f.1)) refl (sorted-put_entry s r e fs later.2 h.1)
  where
    go : (b : Bool) → nat_le (r e.1) (r f.1) ≡ b → IsStrictlySortedBy spot_cmp (keys_of (put_entry r (entry_on s r e) fs)) →
        IsStrictlySortedBy spot_cmp (keys_of (cond b (entry_on s r e ∷ f ∷ fs) (f ∷ put_entry r (entry_on s r e) fs)))
    go true is k =
        let l : spot_cmp (record { shelf = s; rank = r e.1; time = e.0 }) f.0 ≡ Less =
        subst (λ x. spot_cmp (record { shelf = s; rank = r e.1; time = e.0 }) x ≡ Less) (sym later.0) (earlier s (r e.1) e.0 (r f.1) f.0.time is later.1) in
        ((l, after_yet _ f.0 (keys_of fs) l h.0), h)
    go false is k =
        let l : spot_cmp f.0 (record { shelf = s; rank = r e.1; time = e.0 }) ≡ Less =
        subst (λ x. spot_cmp x (record { shelf = s; rank = r e.1; time = e.0 }) ≡ Less) (sym later.0) (lower_rank s (r f.1) f.0.time (r e.1) e.0 (grind (arith, nat_tests, is))) in
        (after-put_entry r f.0 (entry_on s r e) fs l h.0, k)

sorted-arranged_on : (s : ℕ) (p : Op → Bool) (r : Op → ℕ) (es : List (ℕ × Op)) → IsStrictlySortedBy nat_cmp (keys_of es) → IsStrictlySortedBy spot_cmp (keys_of (arranged_on s p r es))
unfolding IsStrictlySortedBy
sorted-arranged_on s p r [] h = tt
sorted-arranged_on s p r (e ∷ es) h = go (p e.1) (sorted-arranged_on s p r es h.1)
  where
    go : (b : Bool) → IsStrictlySortedBy spot_cmp (keys_of (arranged_on s p r es)) →
        IsStrictlySortedBy spot_cmp (keys_of (cond b (put_entry r (entry_on s r e) (arranged_on s p r es)) (arranged_on s p r es)))
    go true k = sorted-put_entry s r e (arranged_on s p r es) (later-arranged_on s p r e.0 es h.0) k
    go false k = k

-- ---- what is found at a spot among them

apart_in_time : (q f : Spot) (s x t : ℕ) → t < f.time → is_at (spot_cmp q) f ≡ true → is_at (spot_cmp q) (record { shelf = s; rank = x; time = t }) ≡ true → ⊥
apart_in_time q f s x t l a b =
    let i : q ≡ f = spot_exact q f (equal_is _ a) in
    let j : q ≡ record { shelf = s; rank = x; time = t } = spot_exact q _ (equal_is _ b) in
    let k : f.time ≡ t = ap (λ z. z.time) (sym i ∙ j) in
    absurd (omega (arith, k, l))
  where
    equal_is : (o : Ordering) → is_eq o ≡ true → o ≡ Equal
    equal_is Less e = absurd (true≢false (sym e))
    equal_is Equal e = refl
    equal_is Greater e = absurd (true≢false (sym e))

pub swapped : (a b : Bool) (x y : Op) (z : Option Op) → (a ≡ true → b ≡ true → ⊥) → cond a (Some x) (cond b (Some y) z) ≡ cond b (Some y) (cond a (Some x) z)
swapped true true x y z h = absurd (h refl refl)
swapped true false x y z h = refl
swapped false true x y z h = refl
swapped false false x y z h = refl

at_spot-put_entry : (s : ℕ) (r : Op → ℕ) (e : ℕ × Op) (q : Spot) (fs : List (Spot × Op)) → AreLater s r e.0 fs →
    at_spot (put_entry r (entry_on s r e) fs) q ≡ cond (is_at (spot_cmp q) (record { shelf = s; rank = r e.1; time = e.0 })) (Some e.1) (at_spot fs q)
at_spot-put_entry s r e q [] later = refl
at_spot-put_entry s r e q (f ∷ fs) later = go (nat_le (r e.1) (r f.1)) (at_spot-put_entry s r e q fs later.2)
  where
    go : (b : Bool) → at_spot (put_entry r (entry_on s r e) fs) q ≡ cond (is_at (spot_cmp q) (record { shelf = s; rank = r e.1; time = e.0 })) (Some e.1) (at_spot fs q) →
        at_spot (cond b (entry_on s r e ∷ f ∷ fs) (f ∷ put_entry r (entry_on s r e) fs)) q
        ≡ cond (is_at (spot_cmp q) (record { shelf = s; rank = r e.1; time = e.0 })) (Some e.1) (cond (is_at (spot_cmp q) f.0) (Some f.1) (at_spot fs q))
    go true h = refl
    go false h = ap (λ z. cond (is_at (spot_cmp q) f.0) (Some f.1) z) h
        ∙ swapped (is_at (spot_cmp q) f.0) (is_at (spot_cmp q) (record { shelf = s; rank = r e.1; time = e.0 })) f.1 e.1 (at_spot fs q)
        (apart_in_time q f.0 s (r e.1) e.0 later.1)

-- ---- what the operations by time say of a spot on the shelf

abbrev pub IsShelfOf : ℕ → (Op → Bool) → (Op → ℕ) → Type 0
IsShelfOf s p r = (o : Op) (rank time : ℕ) → is_sought_at time o (record { shelf = s; rank = rank; time = time }) ≡ (p o && r o == rank)

abbrev on_shelf : ℕ → List (ℕ × Op) → Spot → Option Op
on_shelf s es q = cond (q.shelf == s) (kept_at q (at_time es q.time)) None

none_later : (t : ℕ) (es : List (ℕ × Op)) → AllByRecursion (λ u. nat_cmp t u ≡ Less) (keys_of es) → at_time es t ≡ None
none_later t [] h = refl
none_later t (e ∷ es) h = ap (λ o. cond (is_eq o) (Some e.1) (at_time es t)) h.0 ∙ none_later t es h.1

same_spot_on : (s rank t : ℕ) (q : Spot) → is_at (spot_cmp q) (record { shelf = s; rank = rank; time = t }) ≡ (q.shelf == s && (q.rank == rank && q.time == t))
same_spot_on s rank t q = is_at-spot q (record { shelf = s; rank = rank; time = t })

is_at_time : (a b : ℕ) → is_eq (nat_cmp a b) ≡ (a == b)
is_at_time a b = grind (arith, nat_tests)

kept_on : (s : ℕ) (p : Op → Bool) (r : Op → ℕ) → IsShelfOf s p r → (q : Spot) (o : Op) → (q.shelf == s) ≡ true → kept_at q (Some o) ≡ cond (p o && r o == q.rank) (Some o) None
kept_on s p r shelf q o is =
    let same : s ≡ q.shelf = grind (arith, nat_tests) in
    ap (λ b. cond b (Some o) None) (subst (λ x. is_sought_at q.time o (record { shelf = x; rank = q.rank; time = q.time }) ≡ (p o && r o == q.rank)) same (shelf o q.rank q.time))

-- one more operation, before all others
on_shelf-more : (s : ℕ) (p : Op → Bool) (r : Op → ℕ) → IsShelfOf s p r → (e : ℕ × Op) (es : List (ℕ × Op)) (q : Spot) → at_time es e.0 ≡ None →
    on_shelf s (e ∷ es) q ≡ cond (p e.1 && is_at (spot_cmp q) (record { shelf = s; rank = r e.1; time = e.0 })) (Some e.1) (on_shelf s es q)
on_shelf-more s p r shelf e es q none = go (q.shelf == s) refl (q.time == e.0) refl
  where
    go : (a : Bool) → (q.shelf == s) ≡ a → (b : Bool) → (q.time == e.0) ≡ b →
        cond a (kept_at q (cond (is_eq (nat_cmp q.time e.0)) (Some e.1) (at_time es q.time))) None
        ≡ cond (p e.1 && is_at (spot_cmp q) (record { shelf = s; rank = r e.1; time = e.0 })) (Some e.1) (cond a (kept_at q (at_time es q.time)) None)
    go false is b time = rw (same_spot_on s (r e.1) e.0 q, is) (off (p e.1))
      where
        off : (x : Bool) → None ≡ cond {A = Option Op} (x && (false && (q.rank == r e.1 && q.time == e.0))) (Some e.1) None
        off true = refl
        off false = refl
    go true is false time = rw (same_spot_on s (r e.1) e.0 q, is_at_time q.time e.0, is, time) (off (p e.1) (q.rank == r e.1))
      where
        off : (x y : Bool) → kept_at q (at_time es q.time) ≡ cond (x && (true && (y && false))) (Some e.1) (kept_at q (at_time es q.time))
        off true true = refl
        off true false = refl
        off false y = refl
    go true is true time =
        let at : at_time es q.time ≡ None = subst (λ t. at_time es t ≡ None) (grind (arith, nat_tests, time)) none in
        rw (same_spot_on s (r e.1) e.0 q, is_at_time q.time e.0, is, time, at)
        (kept_on s p r shelf q e.1 is ∙ on (p e.1) (r e.1 == q.rank) (q.rank == r e.1) (grind (arith, nat_tests)))
      where
        on : (x y z : Bool) → y ≡ z → cond {A = Option Op} (x && y) (Some e.1) None ≡ cond (x && (true && (z && true))) (Some e.1) None
        on true true z h = ap (λ w. cond {A = Option Op} (true && (true && (w && true))) (Some e.1) None) h
        on true false z h = ap (λ w. cond {A = Option Op} (true && (true && (w && true))) (Some e.1) None) h
        on false y z h = refl

at_spot-arranged_on : (s : ℕ) (p : Op → Bool) (r : Op → ℕ) → IsShelfOf s p r → (es : List (ℕ × Op)) → IsStrictlySortedBy nat_cmp (keys_of es) → (q : Spot) →
    at_spot (arranged_on s p r es) q ≡ on_shelf s es q
unfolding IsStrictlySortedBy
at_spot-arranged_on s p r shelf [] sorted q = off (q.shelf == s)
  where
    off : (b : Bool) → None ≡ cond {A = Option Op} b None None
    off true = refl
    off false = refl
at_spot-arranged_on s p r shelf (e ∷ es) sorted q =
    go (p e.1) (at_spot-arranged_on s p r shelf es sorted.1 q) ∙ sym (on_shelf-more s p r shelf e es q (none_later e.0 es sorted.0))
  where
    go : (b : Bool) → at_spot (arranged_on s p r es) q ≡ on_shelf s es q →
        at_spot (cond b (put_entry r (entry_on s r e) (arranged_on s p r es)) (arranged_on s p r es)) q
        ≡ cond (b && is_at (spot_cmp q) (record { shelf = s; rank = r e.1; time = e.0 })) (Some e.1) (on_shelf s es q)
    go true h =
        at_spot-put_entry s r e q (arranged_on s p r es) (later-arranged_on s p r e.0 es sorted.0)
        ∙ ap (λ z. cond (is_at (spot_cmp q) (record { shelf = s; rank = r e.1; time = e.0 })) (Some e.1) z) h
    go false h = h

-- ---- the shelf itself

abbrev pub shelf_of : ℕ → List (Spot × Op) → List (Spot × Op)
shelf_of s fs = filter (λ f. f.0.shelf == s) fs

after-filter : (a : Spot) (p : Spot × Op → Bool) (fs : List (Spot × Op)) → AllAfter a (keys_of fs) → AllAfter a (keys_of (filter p fs))
after-filter a p [] h = tt
after-filter a p (f ∷ fs) h = go (p f) (after-filter a p fs h.1)
  where
    go : (b : Bool) → AllAfter a (keys_of (filter p fs)) → AllAfter a (keys_of (cond b (f ∷ filter p fs) (filter p fs)))
    go true k = (h.0, k)
    go false k = k

pub sorted-filter : (p : Spot × Op → Bool) (fs : List (Spot × Op)) → IsStrictlySortedBy spot_cmp (keys_of fs) → IsStrictlySortedBy spot_cmp (keys_of (filter p fs))
unfolding IsStrictlySortedBy
sorted-filter p [] h = tt
sorted-filter p (f ∷ fs) h = go (p f) (sorted-filter p fs h.1)
  where
    go : (b : Bool) → IsStrictlySortedBy spot_cmp (keys_of (filter p fs)) → IsStrictlySortedBy spot_cmp (keys_of (cond b (f ∷ filter p fs) (filter p fs)))
    go true k = (after-filter f.0 p fs h.0, k)
    go false k = k

pub equal_itself : (a : ℕ) → (a == a) ≡ true
equal_itself a = grind (arith, nat_tests)

pub none_after : (a : Spot) (fs : List (Spot × Op)) → AllAfter a (keys_of fs) → at_spot fs a ≡ None
none_after a [] h = refl
none_after a (f ∷ fs) h = ap (λ o. cond (is_eq o) (Some f.1) (at_spot fs a)) h.0 ∙ none_after a fs h.1

pub self_equal : (a : Spot) → is_eq (spot_cmp a a) ≡ true
self_equal a = is_at-spot a a ∙ rw (equal_itself a.shelf, equal_itself a.rank, equal_itself a.time) refl

pub equal_is : (o : Ordering) → is_eq o ≡ true → o ≡ Equal
equal_is Less e = absurd (true≢false (sym e))
equal_is Equal e = refl
equal_is Greater e = absurd (true≢false (sym e))

-- the shelf's entries are the operations that are kept there, by rank and by time
pub shelf_is : (s : ℕ) (p : Op → Bool) (r : Op → ℕ) → IsShelfOf s p r → (es : List (ℕ × Op)) (fs : List (Spot × Op)) → IsStrictlySortedBy nat_cmp (keys_of es) →
    IsStrictlySortedBy spot_cmp (keys_of fs) → IsShelved es fs → shelf_of s fs ≡ arranged_on s p r es
shelf_is s p r shelf es fs timed sorted shelved =
    same_entries spot_total spot_exact (shelf_of s fs) (arranged_on s p r es) (sorted-filter (λ f. f.0.shelf == s) fs sorted) (sorted-arranged_on s p r es timed) found
  where
    found : (q : Spot) → at_spot (shelf_of s fs) q ≡ at_spot (arranged_on s p r es) q
    found q =
        lookup-filter-keys (is_at (spot_cmp q)) (λ k. k.shelf == s) (q.shelf == s) (λ k same. ap (λ (z : Spot). z.shelf == s) (sym (spot_exact q k (equal_is _ same)))) fs
        ∙ ap (λ z. cond (q.shelf == s) z None) (shelved q)
        ∙ sym (at_spot-arranged_on s p r shelf es timed q)

pub values-shelf_of : (s : ℕ) (p : Op → Bool) (r : Op → ℕ) → IsShelfOf s p r → (es : List (ℕ × Op)) (fs : List (Spot × Op)) → IsStrictlySortedBy nat_cmp (keys_of es) →
    IsStrictlySortedBy spot_cmp (keys_of fs) → IsShelved es fs → values_of (shelf_of s fs) ≡ arranged r (filter p (values_of es))
values-shelf_of s p r shelf es fs timed sorted shelved = ap values_of (shelf_is s p r shelf es fs timed sorted shelved) ∙ values-arranged_on s p r es

-- ---- the shelves of classes, and those of operations that may be joined

same_join : (a b c d : Bool) → (join_shelf a b == join_shelf c d) ≡ (beq a c && beq b d)
same_join false false false false = refl
same_join false false false true = refl
same_join false false true false = refl
same_join false false true true = refl
same_join false true false false = refl
same_join false true false true = refl
same_join false true true false = refl
same_join false true true true = refl
same_join true false false false = refl
same_join true false false true = refl
same_join true false true false = refl
same_join true false true true = refl
same_join true true false false = refl
same_join true true false true = refl
same_join true true true false = refl
same_join true true true true = refl

pub class_below : (c : Prio) → class_number c < 5
class_below SyncRead = omega arith
class_below SyncWrite = omega arith
class_below AsyncRead = omega arith
class_below AsyncWrite = omega arith
class_below Scrub = omega arith

pub join_between : (a b : Bool) → (5 ≤ join_shelf a b) × (join_shelf a b < 9)
join_between false false = (omega arith, omega arith)
join_between false true = (omega arith, omega arith)
join_between true false = (omega arith, omega arith)
join_between true true = (omega arith, omega arith)

sync_by_number : (c : Prio) → is_sync c ≡ nat_lt (class_number c) 2
sync_by_number SyncRead = refl
sync_by_number SyncWrite = refl
sync_by_number AsyncRead = refl
sync_by_number AsyncWrite = refl
sync_by_number Scrub = refl

pub not_equal : (a b : ℕ) → a < b → (a == b) ≡ false
not_equal a b l = grind (arith, nat_tests)

pub not_equal_back : (a b : ℕ) → b < a → (a == b) ≡ false
not_equal_back a b l = grind (arith, nat_tests)

join_alone : (a c d n x : Bool) (y w v : Bool) → a ≡ false → x ≡ (c && d) → v ≡ true → ((a && (y && v)) || (not n && (x && (w && v)))) ≡ ((c && d && not n) && w)
join_alone false c d n x y w true p r t = rw r (go c d n w)
  where
    go : (c d n w : Bool) → (not n && ((c && d) && (w && true))) ≡ ((c && d && not n) && w)
    go true true true w = refl
    go true true false true = refl
    go true true false false = refl
    go true false true w = refl
    go true false false w = refl
    go false d true w = refl
    go false d false w = refl
join_alone true c d n x y w v p r t = absurd (true≢false p)
join_alone false c d n x y w false p r t = absurd (true≢false (sym t))

join_is_shelf : (first : Op) → IsShelfOf (join_shelf first.write first.flags.repair) (may_join first) (λ o. o.at)
join_is_shelf first o rank time =
    join_alone _ (beq o.write first.write) (beq o.flags.repair first.flags.repair) o.flags.dont_aggregate _ _ (o.at == rank) (time == time)
    (not_equal _ _ (omega (arith, class_below o.prio, (join_between first.write first.flags.repair).0)))
    (same_join o.write o.flags.repair first.write first.flags.repair) (equal_itself time)

class_alone : (a c n y v w : Bool) → c ≡ false → v ≡ true → ((a && (y && v)) || (not n && (c && w))) ≡ (a && y)
class_alone true false true true true w q t = refl
class_alone true false true false true w q t = refl
class_alone true false false true true w q t = refl
class_alone true false false false true w q t = refl
class_alone false false true y true w q t = refl
class_alone false false false y true w q t = refl
class_alone a true n y v w q t = absurd (true≢false q)
class_alone a false n y false w q t = absurd (true≢false (sym t))

pub class_is_shelf : (c : Prio) → IsShelfOf (class_number c) (is_in_class c) (turn_in (is_sync c))
class_is_shelf c o rank time =
    class_alone (class_number o.prio == class_number c) (join_shelf o.write o.flags.repair == class_number c) o.flags.dont_aggregate
    (turn_in (is_sync o.prio) o == rank) (time == time) _
    (not_equal_back _ (class_number c) (omega (arith, class_below c, (join_between o.write o.flags.repair).0))) (equal_itself time)
    ∙ go (class_number o.prio == class_number c) refl
  where
    go : (b : Bool) → (class_number o.prio == class_number c) ≡ b → (b && (turn_in (is_sync o.prio) o == rank)) ≡ (b && (turn_in (is_sync c) o == rank))
    go true e =
        let same : class_number o.prio ≡ class_number c = grind (arith, nat_tests, e) in
        ap (λ s. turn_in s o == rank) (sync_by_number o.prio ∙ ap (λ n. nat_lt n 2) same ∙ sym (sync_by_number c))
    go false e = refl

-- the candidates of a first operation are its shelf
pub values-join_shelf : (first : Op) (es : List (ℕ × Op)) (fs : List (Spot × Op)) → IsStrictlySortedBy nat_cmp (keys_of es) →
    IsStrictlySortedBy spot_cmp (keys_of fs) → IsShelved es fs → values_of (shelf_of (join_shelf first.write first.flags.repair) fs) ≡ candidates first (values_of es)
values-join_shelf first es fs timed sorted shelved = values-shelf_of _ (may_join first) (λ o. o.at) (join_is_shelf first) es fs timed sorted shelved

-- the operations of a class, in the order in which they are served, are its shelf
pub values-class_shelf : (c : Prio) (es : List (ℕ × Op)) (fs : List (Spot × Op)) → IsStrictlySortedBy nat_cmp (keys_of es) →
    IsStrictlySortedBy spot_cmp (keys_of fs) → IsShelved es fs → values_of (shelf_of (class_number c) fs) ≡ in_turn c (values_of es)
values-class_shelf c es fs timed sorted shelved = values-shelf_of _ (is_in_class c) (turn_in (is_sync c)) (class_is_shelf c) es fs timed sorted shelved

-- each entry of a shelf stands at its operation's rank
abbrev pub AreRanked : (Op → ℕ) → List (Spot × Op) → Type 0
AreRanked r [] = Unit {0}
AreRanked r (f ∷ fs) = (f.0.rank ≡ r f.1) × AreRanked r fs

ranked-put_entry : (s : ℕ) (r : Op → ℕ) (e : ℕ × Op) (fs : List (Spot × Op)) → AreRanked r fs → AreRanked r (put_entry r (entry_on s r e) fs)
ranked-put_entry s r e [] h = (refl, tt)
ranked-put_entry s r e (f ∷ fs) h = go (nat_le (r e.1) (r f.1)) (ranked-put_entry s r e fs h.1)
  where
    go : (b : Bool) → AreRanked r (put_entry r (entry_on s r e) fs) → AreRanked r (cond b (entry_on s r e ∷ f ∷ fs) (f ∷ put_entry r (entry_on s r e) fs))
    go true k = (refl, h)
    go false k = (h.0, k)

pub ranked-arranged_on : (s : ℕ) (p : Op → Bool) (r : Op → ℕ) (es : List (ℕ × Op)) → AreRanked r (arranged_on s p r es)
ranked-arranged_on s p r [] = tt
ranked-arranged_on s p r (e ∷ es) = go (p e.1) (ranked-arranged_on s p r es)
  where
    go : (b : Bool) → AreRanked r (arranged_on s p r es) → AreRanked r (cond b (put_entry r (entry_on s r e) (arranged_on s p r es)) (arranged_on s p r es))
    go true k = ranked-put_entry s r e (arranged_on s p r es) k
    go false k = k
