-- The operations by time, as their spots tell them.
use Rattle.std.proofs.Common.{◌≡◌, ℕ, List, [], ◌∷◌, ◌++◌, Bool, true, false, cond, not, ◌&&◌, ◌||◌, ◌==◌, Option, Some, None, is_some, refl, sym, ap, ◌∙◌, arith, All, subst, true≢false, get_or}
use Rattle.std.proofs.lemmas.Bool.Decides.{nat_tests}
use Rattle.std.proofs.lemmas.Cmp.{eq_by_cmp_equiv, nat_cmp_total}
use Rattle.std.proofs.lemmas.Map.{lookup-remove_entry}
use Rattle.std.proofs.lemmas.Map.Keys.{IsDistinct-from_sorted}
use Rattle.std.proofs.lemmas.Map.Lookups.{exact_unsigned}
use Rattle.std.specs.BTreeMap.{insert_entry, is_at}
use Rattle.std.specs.List.{AllByRecursion}
use Rattle.std.specs.List.Sorted.{IsStrictlySortedBy}
use Rattle.std.specs.Map.{keys_of, remove_entry, values_of}
use Rattle.std.specs.Ordering.{is_eq, match_ordering, nat_cmp}
use Rattle.std.specs.declared.cmp.Ordering.{Ordering}
use Rattle.std.specs.declared.cmp.Ordering.TheVariants.{Less, Equal, Greater}
use Rattle.zio_types.specs.declared.request.Prio.{Prio}
use Rattle.zio_types.specs.declared.request.Prio.TheVariants.{SyncRead, SyncWrite, AsyncRead, AsyncWrite, Scrub}
use Rattle.zio_vqueue.specs.declared.op.Op.{Op}
use Rattle.zio_vqueue.specs.declared.spots.Spot.{Spot}
use Rattle.zio_vqueue.specs.Classes.{class_number}
use Rattle.zio_vqueue.specs.Queues.{AreApart, FitsDevice, is_queued}
use Rattle.zio_vqueue.specs.Spots.{AreBefore, AreThere, IsIndexed, IsKept, at_spot, at_time, class_spot, is_sought_at, is_spot, join_spot, kept_at, spot_cmp, timed_of, timed_over}
use Rattle.zio_vqueue.proofs.EntryLemmas.{same_entries}
use Rattle.zio_vqueue.proofs.GatherLemmas.{values-append}
use Rattle.zio_vqueue.proofs.IndexLemmas.{all_fit-filter, all_fit_push, apart-filter, apart_push, entered_shelved, equal_flip, equal_from, insert_last, is_eq-nat, taken_shelved, undone_shelved, values-remove_entry}
use Rattle.zio_vqueue.proofs.ServeLemmas.{there_all}
use Rattle.zio_vqueue.proofs.ShelfLemmas.{equal_is, equal_itself, swapped}
use Rattle.zio_vqueue.proofs.SpotLemmas.{spot_exact}

-- ---- what is found at a time once one is put in

flip : (a b : ℕ) → is_eq (nat_cmp a b) ≡ is_eq (nat_cmp b a)
flip a b = is_eq-nat a b ∙ equal_flip a b ∙ sym (is_eq-nat b a)

twice : (a b : Bool) (x y : Op) (z : Option Op) → b ≡ a → cond a (Some x) z ≡ cond b (Some x) (cond a (Some y) z)
twice true true x y z e = refl
twice false false x y z e = refl
twice true false x y z e = absurd (true≢false (sym e))
twice false true x y z e = absurd (true≢false e)

not_both : (t time k : ℕ) → nat_cmp time k ≡ Greater → is_eq (nat_cmp t k) ≡ true → is_eq (nat_cmp time t) ≡ true → ⊥
not_both t time k over a b = grind (arith, nat_tests)

pub at_time-insert : (time : ℕ) (op : Op) (t : ℕ) (es : List (ℕ × Op)) → at_time (insert_entry nat_cmp es time op) t ≡ cond (is_eq (nat_cmp time t)) (Some op) (at_time es t)
at_time-insert time op t [] = ap (λ b. cond b (Some op) None) (flip t time)
at_time-insert time op t (e ∷ es) = go (nat_cmp time e.0) refl (at_time-insert time op t es)
  where
    go : (o : Ordering) → nat_cmp time e.0 ≡ o → at_time (insert_entry nat_cmp es time op) t ≡ cond (is_eq (nat_cmp time t)) (Some op) (at_time es t) →
        at_time (match_ordering o ((time, op) ∷ e ∷ es) ((e.0, op) ∷ es) (e ∷ insert_entry nat_cmp es time op)) t
        ≡ cond (is_eq (nat_cmp time t)) (Some op) (cond (is_eq (nat_cmp t e.0)) (Some e.1) (at_time es t))
    go Less is h = ap (λ b. cond b (Some op) (cond (is_eq (nat_cmp t e.0)) (Some e.1) (at_time es t))) (flip t time)
    go Equal is h =
        twice (is_eq (nat_cmp t e.0)) (is_eq (nat_cmp time t)) op e.1 (at_time es t)
        (flip time t ∙ ap (λ k. is_eq (nat_cmp t k)) (exact_unsigned time e.0 is))
    go Greater is h =
        ap (λ r. cond (is_eq (nat_cmp t e.0)) (Some e.1) r) h
        ∙ swapped (is_eq (nat_cmp t e.0)) (is_eq (nat_cmp time t)) e.1 op (at_time es t) (not_both t time e.0 is)

pub at_time-remove : (time t : ℕ) (es : List (ℕ × Op)) → IsStrictlySortedBy nat_cmp (keys_of es) →
    at_time (remove_entry (is_at (nat_cmp time)) es) t ≡ cond (is_eq (nat_cmp time t)) None (at_time es t)
at_time-remove time t es h =
    lookup-remove_entry (eq_by_cmp_equiv nat_cmp_total) (is_at (nat_cmp time)) one t es (IsDistinct-from_sorted nat_cmp (keys_of es) h)
  where
    one : (x y : ℕ) → is_eq (nat_cmp time x) ≡ true → is_eq (nat_cmp time y) ≡ is_eq (nat_cmp x y)
    one x y e = ap (λ k. is_eq (nat_cmp k y)) (equal_from time x (sym (is_eq-nat time x) ∙ e))

-- ---- the times stay in order

abbrev AllLater : ℕ → List ℕ → Type 0
AllLater a ks = AllByRecursion (λ k. nat_cmp a k ≡ Less) ks

later_yet : (a b : ℕ) (ks : List ℕ) → nat_cmp a b ≡ Less → AllLater b ks → AllLater a ks
later_yet a b [] l h = tt
later_yet a b (k ∷ ks) l h = (nat_cmp_total.trans a b k l h.0, later_yet a b ks l h.1)

later-insert : (a time : ℕ) (op : Op) (es : List (ℕ × Op)) → nat_cmp a time ≡ Less → AllLater a (keys_of es) → AllLater a (keys_of (insert_entry nat_cmp es time op))
later-insert a time op [] l h = (l, tt)
later-insert a time op (e ∷ es) l h = go (nat_cmp time e.0) (later-insert a time op es l h.1)
  where
    go : (o : Ordering) → AllLater a (keys_of (insert_entry nat_cmp es time op)) →
        AllLater a (keys_of (match_ordering o ((time, op) ∷ e ∷ es) ((e.0, op) ∷ es) (e ∷ insert_entry nat_cmp es time op)))
    go Less k = (l, h)
    go Equal k = h
    go Greater k = (h.0, k)

later-remove : (a : ℕ) (test : ℕ → Bool) (es : List (ℕ × Op)) → AllLater a (keys_of es) → AllLater a (keys_of (remove_entry test es))
later-remove a test [] h = tt
later-remove a test (e ∷ es) h = go (test e.0) (later-remove a test es h.1)
  where
    go : (b : Bool) → AllLater a (keys_of (remove_entry test es)) → AllLater a (keys_of (cond b es (e ∷ remove_entry test es)))
    go true k = h.1
    go false k = (h.0, k)

pub sorted-insert : (time : ℕ) (op : Op) (es : List (ℕ × Op)) → IsStrictlySortedBy nat_cmp (keys_of es) → IsStrictlySortedBy nat_cmp (keys_of (insert_entry nat_cmp es time op))
unfolding IsStrictlySortedBy
sorted-insert time op [] h = (tt, tt)
sorted-insert time op (e ∷ es) h = go (nat_cmp time e.0) refl (sorted-insert time op es h.1)
  where
    go : (o : Ordering) → nat_cmp time e.0 ≡ o → IsStrictlySortedBy nat_cmp (keys_of (insert_entry nat_cmp es time op)) →
        IsStrictlySortedBy nat_cmp (keys_of (match_ordering o ((time, op) ∷ e ∷ es) ((e.0, op) ∷ es) (e ∷ insert_entry nat_cmp es time op)))
    go Less is k = ((is, later_yet time e.0 (keys_of es) is h.0), h)
    go Equal is k = h
    go Greater is k =
        let l : nat_cmp e.0 time ≡ Less = grind (arith, nat_tests, is) in
        (later-insert e.0 time op es l h.0, k)

pub sorted-remove : (test : ℕ → Bool) (es : List (ℕ × Op)) → IsStrictlySortedBy nat_cmp (keys_of es) → IsStrictlySortedBy nat_cmp (keys_of (remove_entry test es))
unfolding IsStrictlySortedBy
sorted-remove test [] h = tt
sorted-remove test (e ∷ es) h = go (test e.0) (sorted-remove test es h.1)
  where
    go : (b : Bool) → IsStrictlySortedBy nat_cmp (keys_of (remove_entry test es)) → IsStrictlySortedBy nat_cmp (keys_of (cond b es (e ∷ remove_entry test es)))
    go true k = h.1
    go false k = (later-remove e.0 test es h.0, k)

sorted-over : (fs : List (Spot × Op)) (es : List (ℕ × Op)) → IsStrictlySortedBy nat_cmp (keys_of es) → IsStrictlySortedBy nat_cmp (keys_of (timed_over fs es))
sorted-over [] es h = h
sorted-over (f ∷ fs) es h = sorted-over fs (insert_entry nat_cmp es f.0.time f.1) (sorted-insert f.0.time f.1 es h)

sorted_none : IsStrictlySortedBy nat_cmp []
unfolding IsStrictlySortedBy
sorted_none = tt

-- ---- the spots tell the operations by time

-- what is told stands there
told_there : (xs : List (ℕ × Op)) (fs : List (Spot × Op)) (es : List (ℕ × Op)) (t : ℕ) (o : Op) → AreThere xs fs →
    ((u : ℕ) (p : Op) → at_time es u ≡ Some p → at_time xs u ≡ Some p) → at_time (timed_over fs es) t ≡ Some o → at_time xs t ≡ Some o
told_there xs [] es t o h k e = k t o e
told_there xs (f ∷ fs) es t o h k e =
    told_there xs fs (insert_entry nat_cmp es f.0.time f.1) t o h.1
    (λ u p i. step u p (is_eq (nat_cmp f.0.time u)) refl (sym (at_time-insert f.0.time f.1 u es) ∙ i)) e
  where
    step : (u : ℕ) (p : Op) (b : Bool) → is_eq (nat_cmp f.0.time u) ≡ b → cond b (Some f.1) (at_time es u) ≡ Some p → at_time xs u ≡ Some p
    step u p true is i = ap (at_time xs) (sym (equal_from f.0.time u (sym (is_eq-nat f.0.time u) ∙ is))) ∙ h.0 ∙ i
    step u p false is i = k u p i

some-over : (fs : List (Spot × Op)) (es : List (ℕ × Op)) (t : ℕ) → is_some (at_time es t) ≡ true → is_some (at_time (timed_over fs es) t) ≡ true
some-over [] es t h = h
some-over (f ∷ fs) es t h = some-over fs (insert_entry nat_cmp es f.0.time f.1) t (ap (λ (r : Option Op). is_some r) (at_time-insert f.0.time f.1 t es) ∙ go (is_eq (nat_cmp f.0.time t)))
  where
    go : (b : Bool) → is_some (cond b (Some f.1) (at_time es t)) ≡ true
    go true = refl
    go false = h

-- what stands anywhere is told
stands_told : (fs : List (Spot × Op)) (es : List (ℕ × Op)) (q : Spot) → is_some (at_spot fs q) ≡ true → is_some (at_time (timed_over fs es) q.time) ≡ true
stands_told [] es q h = absurd (true≢false (sym h))
stands_told (f ∷ fs) es q h = go (is_at (spot_cmp q) f.0) refl h (stands_told fs (insert_entry nat_cmp es f.0.time f.1) q)
  where
    go : (b : Bool) → is_at (spot_cmp q) f.0 ≡ b → is_some (cond b (Some f.1) (at_spot fs q)) ≡ true →
        (is_some (at_spot fs q) ≡ true → is_some (at_time (timed_over fs (insert_entry nat_cmp es f.0.time f.1)) q.time) ≡ true) →
        is_some (at_time (timed_over fs (insert_entry nat_cmp es f.0.time f.1)) q.time) ≡ true
    go true is k later =
        let same : f.0.time ≡ q.time = ap (λ (z : Spot). z.time) (sym (spot_exact q f.0 (equal_is _ is))) in
        let here : is_eq (nat_cmp f.0.time q.time) ≡ true = is_eq-nat f.0.time q.time ∙ ap (λ n. n == q.time) same ∙ equal_itself q.time in
        some-over fs (insert_entry nat_cmp es f.0.time f.1) q.time
        (ap (λ (r : Option Op). is_some r) (at_time-insert f.0.time f.1 q.time es) ∙ ap (λ b. is_some (cond b (Some f.1) (at_time es q.time))) here)
    go false is k later = later k

sought_here : (t : ℕ) (o : Op) → is_sought_at t o (class_spot t o) ≡ true
sought_here t o = here (not o.flags.dont_aggregate && is_spot (join_spot t o) (class_spot t o))
  where
    self : is_spot (class_spot t o) (class_spot t o) ≡ true
    self = rw (equal_itself (class_spot t o).shelf, equal_itself (class_spot t o).rank, equal_itself t) refl

    here : (b : Bool) → (is_spot (class_spot t o) (class_spot t o) || b) ≡ true
    here b = ap (λ a. a || b) self

pub timed_is : (es : List (ℕ × Op)) (fs : List (Spot × Op)) → IsIndexed es fs → timed_of fs ≡ es
timed_is es fs h = same_entries nat_cmp_total exact_unsigned (timed_of fs) es (sorted-over fs [] sorted_none) h.timed found
  where
    none_some : (o : Op) → None ≡ Some o → ⊥
    none_some o e = cc

    class : (t : ℕ) (o : Op) → at_time es t ≡ Some o → is_some (at_time (timed_of fs) t) ≡ true
    class t o e =
        stands_told fs [] (class_spot t o)
        (ap (λ (r : Option Op). is_some r)
        (h.shelved (class_spot t o) ∙ ap (kept_at (class_spot t o)) e ∙ ap (λ b. cond b (Some o) None) (sought_here t o)))

    none : (t : ℕ) (r : Option Op) → at_time es t ≡ r → at_time (timed_of fs) t ≡ None → None ≡ r
    none t None e is = refl
    none t (Some o) e is = absurd (true≢false (sym (class t o e) ∙ ap (λ (r : Option Op). is_some r) is))

    one : (t : ℕ) (r : Option Op) → at_time (timed_of fs) t ≡ r → r ≡ at_time es t
    one t None is = none t (at_time es t) refl is
    one t (Some o) is = sym (told_there es fs [] t o (there_all es fs h) (λ u p i. absurd (none_some p i)) is)

    found : (t : ℕ) → at_time (timed_of fs) t ≡ at_time es t
    found t = one t (at_time (timed_of fs) t) refl

pub indexed_timed : (es : List (ℕ × Op)) (fs : List (Spot × Op)) → IsIndexed es fs → IsIndexed (timed_of fs) fs
indexed_timed es fs h = subst (λ xs. IsIndexed xs fs) (sym (timed_is es fs h)) h

-- ---- putting

pub indexed_put : (es : List (ℕ × Op)) (fs gs : List (Spot × Op)) (time : ℕ) (op : Op) → IsIndexed es fs → FitsDevice op → is_queued op.ticket (values_of es) ≡ false → AreBefore time es →
    IsStrictlySortedBy spot_cmp (keys_of gs) → ((q : Spot) → at_spot gs q ≡ cond (is_sought_at time op q) (Some op) (at_spot fs q)) → IsIndexed (es ++ (time, op) ∷ []) gs
indexed_put es fs gs time op h fits alone later sorted stands = record {
  timed = subst (λ (xs : List (ℕ × Op)). IsStrictlySortedBy nat_cmp (keys_of xs)) (insert_last time op es later) (sorted-insert time op es h.timed);
  sorted = sorted;
  shelved = entered_shelved es (es ++ (time, op) ∷ []) gs time op later
      (λ q. stands q ∙ ap (λ r. cond (is_sought_at time op q) (Some op) r) (h.shelved q))
      (λ t. ap (λ (xs : List (ℕ × Op)). at_time xs t) (sym (insert_last time op es later)) ∙ at_time-insert time op t es);
  apart = subst AreApart (sym (values-append es ((time, op) ∷ []))) (apart_push (values_of es) op h.apart alone);
  fit = all_fit_push es time op h.fit fits;
}

pub indexed_undone : (es : List (ℕ × Op)) (fs mid gs : List (Spot × Op)) (time : ℕ) (op : Op) → IsIndexed es fs → AreBefore time es → IsStrictlySortedBy spot_cmp (keys_of gs) →
    ((q : Spot) → is_sought_at time op q ≡ false → at_spot mid q ≡ at_spot fs q) → ((q : Spot) → at_spot gs q ≡ cond (is_sought_at time op q) None (at_spot mid q)) → IsIndexed es gs
indexed_undone es fs mid gs time op h later sorted others cleared = record {
  timed = h.timed;
  sorted = sorted;
  shelved = undone_shelved es mid gs time op later (λ q out. others q out ∙ h.shelved q) cleared;
  apart = h.apart;
  fit = h.fit;
}

-- ---- taking one

pub indexed_taken : (es : List (ℕ × Op)) (fs gs : List (Spot × Op)) (time : ℕ) (op : Op) → IsIndexed es fs → at_time es time ≡ Some op → IsStrictlySortedBy spot_cmp (keys_of gs) →
    ((q : Spot) → at_spot gs q ≡ cond (is_sought_at time op q) None (at_spot fs q)) → IsIndexed (remove_entry (is_at (nat_cmp time)) es) gs
indexed_taken es fs gs time op h there sorted cleared =
    let left = values-remove_entry es time op h.apart there in
    record {
      timed = sorted-remove (is_at (nat_cmp time)) es h.timed;
      sorted = sorted;
      shelved = taken_shelved es (remove_entry (is_at (nat_cmp time)) es) fs gs time op there h.shelved cleared (λ t. at_time-remove time t es h.timed);
      apart = subst AreApart (sym left) (apart-filter _ _ h.apart);
      fit = subst (All FitsDevice) (sym left) (all_fit-filter _ _ h.fit);
    }

-- ---- nothing is queued

pub indexed_none : IsIndexed [] []
unfolding IsStrictlySortedBy
indexed_none = record {
  timed = tt;
  sorted = tt;
  shelved = λ q. refl;
  apart = tt;
  fit = λ k d l. absurd (omega arith);
}

abbrev zeros : List ℕ
zeros = 0 ∷ 0 ∷ 0 ∷ 0 ∷ 0 ∷ []

zero_at : (c : Prio) → get_or zeros (class_number c) 0 ≡ 0
zero_at SyncRead = refl
zero_at SyncWrite = refl
zero_at AsyncRead = refl
zero_at AsyncWrite = refl
zero_at Scrub = refl

pub kept_none : IsKept [] zeros 0 zeros
kept_none = record {
  indexed = indexed_none;
  counted = record { room = refl; counts = zero_at };
  before = tt;
  admitted = record { room = refl; below = λ c. omega (arith, zero_at c) };
}
