-- What putting and taking an operation does to the entries by time and by spots.
use Rattle.std.proofs.Common.{◌≡◌, ℕ, ◌+◌, ◌<◌, ◌≤◌, List, [], ◌∷◌, ◌++◌, Bool, true, false, cond, ◌&&◌, ◌||◌, not, ◌==◌, Some, None, refl, sym, ap, ◌∙◌, arith, filter, All, subst, true≢false, length, drop, get_or, suc, drop-cons, drop_of_length-le, find}
use Rattle.std.proofs.lemmas.Bool.Decides.{nat_tests}
use Rattle.std.proofs.lemmas.List.Elements.{All-cons, All-head, All-tail, All-append}
use Rattle.std.specs.BTreeMap.{insert_entry, is_at}
use Rattle.std.specs.Map.{remove_entry, values_of}
use Rattle.std.specs.Ordering.{is_eq, match_ordering, nat_cmp}
use Rattle.std.specs.declared.cmp.Ordering.TheVariants.{Greater}
use Rattle.zio_vqueue.specs.declared.op.Op.{Op}
use Rattle.zio_vqueue.specs.declared.spots.Spot.{Spot}
use Rattle.zio_vqueue.specs.Queues.{AreApart, FitsDevice, is_queued, without}
use Rattle.zio_vqueue.specs.Spots.{AreBefore, AreThere, IsShelved, at_spot, at_time, class_spot, is_sought_at, is_spot, join_spot, kept_at}
use Rattle.zio_vqueue.proofs.GatherLemmas.{values-append}

-- ---- times

pub is_eq-nat : (a b : ℕ) → is_eq (nat_cmp a b) ≡ (a == b)
is_eq-nat a b = grind (arith, nat_tests)

pub equal_from : (a b : ℕ) → (a == b) ≡ true → a ≡ b
equal_from a b e = grind (arith, nat_tests)

pub insert_last : (time : ℕ) (op : Op) (es : List (ℕ × Op)) → AreBefore time es → insert_entry nat_cmp es time op ≡ es ++ (time, op) ∷ []
insert_last time op [] h = refl
insert_last time op (e ∷ es) h =
    let over : nat_cmp time e.0 ≡ Greater = grind (arith, nat_tests, h.0) in
    ap (λ o. match_ordering o ((time, op) ∷ e ∷ es) ((e.0, op) ∷ es) (e ∷ insert_entry nat_cmp es time op)) over ∙ ap (λ r. e ∷ r) (insert_last time op es h.1)

at_time-none : (time : ℕ) (es : List (ℕ × Op)) → AreBefore time es → at_time es time ≡ None
at_time-none time [] h = refl
at_time-none time (e ∷ es) h =
    let over : nat_cmp time e.0 ≡ Greater = grind (arith, nat_tests, h.0) in
    ap (λ o. cond (is_eq o) (Some e.1) (at_time es time)) over ∙ at_time-none time es h.1

pub before_next : (time : ℕ) (op : Op) (es : List (ℕ × Op)) → AreBefore time es → AreBefore (time + 1) (es ++ (time, op) ∷ [])
before_next time op [] h = (omega arith, tt)
before_next time op (e ∷ es) h = (omega (arith, h.0), before_next time op es h.1)

pub before-remove_entry : (test : ℕ → Bool) (time : ℕ) (es : List (ℕ × Op)) → AreBefore time es → AreBefore time (remove_entry test es)
before-remove_entry test time [] h = tt
before-remove_entry test time (e ∷ es) h = go (test e.0) (before-remove_entry test time es h.1)
  where
    go : (b : Bool) → AreBefore time (remove_entry test es) → AreBefore time (cond b es (e ∷ remove_entry test es))
    go true k = h.1
    go false k = (h.0, k)

-- ---- an operation's spots bear its time

spot_time : (a q : Spot) → is_spot a q ≡ true → (a.time == q.time) ≡ true
spot_time a q e = go (a.shelf == q.shelf) (a.rank == q.rank) (a.time == q.time) e
  where
    go : (x y z : Bool) → (x && (y && z)) ≡ true → z ≡ true
    go true true z e = e
    go true false z e = absurd (true≢false (sym e))
    go false y z e = absurd (true≢false (sym e))

sought_time : (time : ℕ) (o : Op) (q : Spot) → is_sought_at time o q ≡ true → (time == q.time) ≡ true
sought_time time o q e = go (is_spot (class_spot time o) q) (not o.flags.dont_aggregate) (is_spot (join_spot time o) q)
    (spot_time (class_spot time o) q) (spot_time (join_spot time o) q) e
  where
    go : (a n d : Bool) → (a ≡ true → (time == q.time) ≡ true) → (d ≡ true → (time == q.time) ≡ true) → (a || (n && d)) ≡ true → (time == q.time) ≡ true
    go true n d f g e = f refl
    go false true true f g e = g refl
    go false true false f g e = absurd (true≢false (sym e))
    go false false d f g e = absurd (true≢false (sym e))

-- ---- putting

pub entered_shelved : (es fresh : List (ℕ × Op)) (fs : List (Spot × Op)) (time : ℕ) (op : Op) → AreBefore time es →
    ((q : Spot) → at_spot fs q ≡ cond (is_sought_at time op q) (Some op) (kept_at q (at_time es q.time))) →
    ((t : ℕ) → at_time fresh t ≡ cond (is_eq (nat_cmp time t)) (Some op) (at_time es t)) → IsShelved fresh fs
entered_shelved es fresh fs time op before stands fresh_is q =
    stands q ∙ go (is_sought_at time op q) refl (time == q.time) refl ∙ sym (ap (kept_at q) (fresh_is q.time ∙ ap (λ b. cond b (Some op) (at_time es q.time)) (is_eq-nat time q.time)))
  where
    go : (s : Bool) → is_sought_at time op q ≡ s → (t : Bool) → (time == q.time) ≡ t → cond s (Some op) (kept_at q (at_time es q.time)) ≡ kept_at q (cond t (Some op) (at_time es q.time))
    go true is true same = sym (ap (λ b. cond b (Some op) None) (ap (λ x. is_sought_at x op q) (sym (equal_from time q.time same)) ∙ is))
    go true is false same = absurd (true≢false (sym (sought_time time op q is) ∙ same))
    go false is true same =
        let here : time ≡ q.time = equal_from time q.time same in
        ap (kept_at q) (ap (at_time es) (sym here) ∙ at_time-none time es before)
        ∙ sym (ap (λ b. cond b (Some op) None) (ap (λ x. is_sought_at x op q) (sym here) ∙ is))
    go false is false same = refl

pub undone_shelved : (es : List (ℕ × Op)) (mid fs : List (Spot × Op)) (time : ℕ) (op : Op) → AreBefore time es →
    ((q : Spot) → is_sought_at time op q ≡ false → at_spot mid q ≡ kept_at q (at_time es q.time)) →
    ((q : Spot) → at_spot fs q ≡ cond (is_sought_at time op q) None (at_spot mid q)) → IsShelved es fs
undone_shelved es mid fs time op before others cleared q = cleared q ∙ go (is_sought_at time op q) refl
  where
    go : (s : Bool) → is_sought_at time op q ≡ s → cond s None (at_spot mid q) ≡ kept_at q (at_time es q.time)
    go true is = sym (ap (kept_at q) (ap (at_time es) (sym (equal_from time q.time (sought_time time op q is))) ∙ at_time-none time es before))
    go false is = others q is

any-append : (t : ℕ) (xs ys : List Op) → is_queued t (xs ++ ys) ≡ (is_queued t xs || is_queued t ys)
any-append t [] ys = refl
any-append t (x ∷ xs) ys = ap (λ b. (x.ticket == t) || b) (any-append t xs ys) ∙ go (x.ticket == t) (is_queued t xs) (is_queued t ys)
  where
    go : (a b c : Bool) → (a || (b || c)) ≡ ((a || b) || c)
    go true b c = refl
    go false b c = refl

pub neither : (a b : Bool) → (a || b) ≡ false → (a ≡ false) × (b ≡ false)
neither true b e = absurd (true≢false e)
neither false b e = (refl, e)

pub equal_flip : (a b : ℕ) → (a == b) ≡ (b == a)
equal_flip a b = grind (arith, nat_tests)

pub apart_push : (xs : List Op) (o : Op) → AreApart xs → is_queued o.ticket xs ≡ false → AreApart (xs ++ o ∷ [])
apart_push [] o h e = (refl, tt)
apart_push (x ∷ xs) o h e =
    let n = neither (x.ticket == o.ticket) (is_queued o.ticket xs) e in
    (any-append x.ticket xs (o ∷ []) ∙ rw (h.0, equal_flip o.ticket x.ticket, n.0) refl, apart_push xs o h.1 n.1)

pub all_fit_push : (es : List (ℕ × Op)) (time : ℕ) (o : Op) → All FitsDevice (values_of es) → FitsDevice o → All FitsDevice (values_of (es ++ (time, o) ∷ []))
all_fit_push es time o h f =
    subst (All FitsDevice) (sym (values-append es ((time, o) ∷ []))) (All-append FitsDevice (values_of es) (o ∷ []) h (All-cons FitsDevice o [] f (λ k d l. absurd (omega arith))))

-- ---- taking one

pub at_time-queued : (es : List (ℕ × Op)) (t : ℕ) (o : Op) → at_time es t ≡ Some o → is_queued o.ticket (values_of es) ≡ true
at_time-queued [] t o e = absurd (none_some o e)
  where
    none_some : (o : Op) → None ≡ Some o → ⊥
    none_some o e = cc
at_time-queued (e ∷ es) t o h = go (is_eq (nat_cmp t e.0)) h (at_time-queued es t o)
  where
    some_same : (x y : Op) → Some x ≡ Some y → x ≡ y
    some_same x y e = cc

    go : (b : Bool) → cond b (Some e.1) (at_time es t) ≡ Some o → (at_time es t ≡ Some o → is_queued o.ticket (values_of es) ≡ true) → ((e.1).ticket == o.ticket || is_queued o.ticket (values_of es)) ≡ true
    go true k later = rw (ap (λ (x : Op). x.ticket == o.ticket) (some_same e.1 o k), self o.ticket) refl
      where
        self : (n : ℕ) → (n == n) ≡ true
        self n = grind (arith, nat_tests)
    go false k later = rw (later k) (or_yes ((e.1).ticket == o.ticket))
      where
        or_yes : (a : Bool) → (a || true) ≡ true
        or_yes true = refl
        or_yes false = refl

-- those with another ticket
abbrev pub others_than : ℕ → List Op → List Op
others_than t os = filter (λ x. not (x.ticket == t)) os

pub others_all : (t : ℕ) (os : List Op) → is_queued t os ≡ false → others_than t os ≡ os
others_all t [] h = refl
others_all t (o ∷ os) h =
    let n = neither (o.ticket == t) (is_queued t os) h in
    ap (λ b. cond (not b) (o ∷ others_than t os) (others_than t os)) n.0 ∙ ap (λ r. o ∷ r) (others_all t os n.1)

pub values-remove_entry : (es : List (ℕ × Op)) (t : ℕ) (o : Op) → AreApart (values_of es) → at_time es t ≡ Some o → values_of (remove_entry (is_at (nat_cmp t)) es) ≡ others_than o.ticket (values_of es)
values-remove_entry [] t o apart h = refl
values-remove_entry (e ∷ es) t o apart h = go (is_eq (nat_cmp t e.0)) h (values-remove_entry es t o apart.1)
  where
    some_same : (x y : Op) → Some x ≡ Some y → x ≡ y
    some_same x y e = cc

    self : (n : ℕ) → (n == n) ≡ true
    self n = grind (arith, nat_tests)

    tickets : (b : Bool) → ((e.1).ticket == o.ticket) ≡ b → is_queued o.ticket (values_of es) ≡ true → b ≡ false
    tickets true same there = absurd (true≢false (sym there ∙ ap (λ n. is_queued n (values_of es)) (sym (equal_from (e.1).ticket o.ticket same)) ∙ apart.0))
    tickets false same there = refl

    go : (b : Bool) → cond b (Some e.1) (at_time es t) ≡ Some o →
        (at_time es t ≡ Some o → values_of (remove_entry (is_at (nat_cmp t)) es) ≡ others_than o.ticket (values_of es)) →
        values_of (cond b es (e ∷ remove_entry (is_at (nat_cmp t)) es)) ≡ cond (not ((e.1).ticket == o.ticket)) (e.1 ∷ others_than o.ticket (values_of es)) (others_than o.ticket (values_of es))
    go true k later =
        let same : (e.1).ticket ≡ o.ticket = ap (λ (x : Op). x.ticket) (some_same e.1 o k) in
        sym (ap (λ b. cond (not b) (e.1 ∷ others_than o.ticket (values_of es)) (others_than o.ticket (values_of es))) (ap (λ n. n == o.ticket) same ∙ self o.ticket)
        ∙ others_all o.ticket (values_of es) (ap (λ n. is_queued n (values_of es)) (sym same) ∙ apart.0))
    go false k later =
        ap (λ r. e.1 ∷ r) (later k)
        ∙ sym (ap (λ b. cond (not b) (e.1 ∷ others_than o.ticket (values_of es)) (others_than o.ticket (values_of es))) (tickets ((e.1).ticket == o.ticket) refl (at_time-queued es t o k)))

pub taken_shelved : (es fresh : List (ℕ × Op)) (fs gs : List (Spot × Op)) (time : ℕ) (op : Op) → at_time es time ≡ Some op → IsShelved es fs →
    ((q : Spot) → at_spot gs q ≡ cond (is_sought_at time op q) None (at_spot fs q)) →
    ((t : ℕ) → at_time fresh t ≡ cond (is_eq (nat_cmp time t)) None (at_time es t)) → IsShelved fresh gs
taken_shelved es fresh fs gs time op there shelved cleared fresh_is q =
    cleared q ∙ go (is_sought_at time op q) refl (time == q.time) refl ∙ sym (ap (kept_at q) (fresh_is q.time ∙ ap (λ b. cond b None (at_time es q.time)) (is_eq-nat time q.time)))
  where
    go : (s : Bool) → is_sought_at time op q ≡ s → (t : Bool) → (time == q.time) ≡ t → cond s None (at_spot fs q) ≡ kept_at q (cond t None (at_time es q.time))
    go true is true same = refl
    go true is false same = absurd (true≢false (sym (sought_time time op q is) ∙ same))
    go false is true same =
        let here : time ≡ q.time = equal_from time q.time same in
        shelved q ∙ ap (kept_at q) (ap (at_time es) (sym here) ∙ there) ∙ ap (λ b. cond b (Some op) None) (ap (λ x. is_sought_at x op q) (sym here) ∙ is)
    go false is false same = shelved q

queued-filter : (t : ℕ) (p : Op → Bool) (os : List Op) → is_queued t os ≡ false → is_queued t (filter p os) ≡ false
queued-filter t p [] h = refl
queued-filter t p (o ∷ os) h = go (p o) (queued-filter t p os (neither (o.ticket == t) (is_queued t os) h).1)
  where
    go : (b : Bool) → is_queued t (filter p os) ≡ false → is_queued t (cond b (o ∷ filter p os) (filter p os)) ≡ false
    go true k = rw ((neither (o.ticket == t) (is_queued t os) h).0, k) refl
    go false k = k

-- a ticket that isn't queued isn't once another is put, or some are taken
pub queued_push : (t : ℕ) (os : List Op) (o : Op) → is_queued t os ≡ false → (o.ticket == t) ≡ false → is_queued t (os ++ o ∷ []) ≡ false
queued_push t os o e f = any-append t os (o ∷ []) ∙ rw (e, f) refl

pub queued_without : (t : ℕ) (ms os : List Op) → is_queued t os ≡ false → is_queued t (without ms os) ≡ false
queued_without t [] os e = e
queued_without t (m ∷ ms) os e = queued_without t ms (filter (λ o. not (o.ticket == m.ticket)) os) (queued-filter t (λ o. not (o.ticket == m.ticket)) os e)

pub apart-filter : (p : Op → Bool) (os : List Op) → AreApart os → AreApart (filter p os)
apart-filter p [] h = tt
apart-filter p (o ∷ os) h = go (p o) (apart-filter p os h.1)
  where
    go : (b : Bool) → AreApart (filter p os) → AreApart (cond b (o ∷ filter p os) (filter p os))
    go true k = (queued-filter o.ticket p os h.0, k)
    go false k = k

pub all_fit-filter : (p : Op → Bool) (os : List Op) → All FitsDevice os → All FitsDevice (filter p os)
all_fit-filter p [] h = h
all_fit-filter p (o ∷ os) h = go (p o) (all_fit-filter p os (All-tail FitsDevice o os h))
  where
    go : (b : Bool) → All FitsDevice (filter p os) → All FitsDevice (cond b (o ∷ filter p os) (filter p os))
    go true k = All-cons FitsDevice o (filter p os) (All-head FitsDevice o os h) k
    go false k = k

-- ---- taking several

pub there_rest : (es fresh : List (ℕ × Op)) (m : Spot × Op) (ms : List (Spot × Op)) → at_time es m.0.time ≡ Some m.1 →
    ((t : ℕ) → at_time fresh t ≡ cond (is_eq (nat_cmp m.0.time t)) None (at_time es t)) → is_queued (m.1).ticket (values_of ms) ≡ false → AreThere es ms → AreThere fresh ms
there_rest es fresh m [] there fresh_is apart h = tt
there_rest es fresh m (n ∷ ns) there fresh_is apart h =
    let both = neither ((n.1).ticket == (m.1).ticket) (is_queued (m.1).ticket (values_of ns)) apart in
    (fresh_is n.0.time ∙ go (is_eq (nat_cmp m.0.time n.0.time)) refl both.0, there_rest es fresh m ns there fresh_is both.1 h.1)
  where
    some_same : (x y : Op) → Some x ≡ Some y → x ≡ y
    some_same x y e = cc

    self : (k : ℕ) → (k == k) ≡ true
    self k = grind (arith, nat_tests)

    go : (b : Bool) → is_eq (nat_cmp m.0.time n.0.time) ≡ b → ((n.1).ticket == (m.1).ticket) ≡ false → cond b None (at_time es n.0.time) ≡ Some n.1
    go true same other =
        let here : m.0.time ≡ n.0.time = equal_from _ _ (sym (is_eq-nat m.0.time n.0.time) ∙ same) in
        let op : n.1 ≡ m.1 = some_same n.1 m.1 (sym h.0 ∙ ap (at_time es) (sym here) ∙ there) in
        absurd (true≢false (sym (self (m.1).ticket) ∙ ap (λ (x : Op). x.ticket == (m.1).ticket) (sym op) ∙ other))
    go false same other = h.0

pub drop_here : {X : Type 0} (k : ℕ) (xs : List X) (x : X) → k < length xs → x ≡ get_or xs k x → drop k xs ≡ x ∷ drop (k + 1) xs
drop_here k xs x l e = drop-cons xs k x l ∙ ap (λ y. y ∷ drop (suc k) xs) (sym e) ∙ ap (λ n. x ∷ drop n xs) (suc_is k)
  where
    suc_is : (n : ℕ) → suc n ≡ n + 1
    suc_is n = omega arith

pub drop_at : {X : Type 0} (k : ℕ) (xs : List X) (d : X) → k < length xs → drop k xs ≡ get_or xs k d ∷ drop (k + 1) xs
drop_at k xs d l = drop-cons xs k d l ∙ ap (λ n. get_or xs k d ∷ drop n xs) (suc_is k)
  where
    suc_is : (n : ℕ) → suc n ≡ n + 1
    suc_is n = omega arith

pub find_later : {X : Type 0} (p : X → Bool) (k : ℕ) (xs : List X) (d : X) → k < length xs → p (get_or xs k d) ≡ false → find p (drop (k + 1) xs) ≡ find p (drop k xs)
find_later p k xs d l e = sym (ap (find p) (drop_at k xs d l) ∙ ap (λ b. cond b (Some (get_or xs k d)) (find p (drop (k + 1) xs))) e)

pub find_here : {X : Type 0} (p : X → Bool) (k : ℕ) (xs : List X) (d : X) → k < length xs → p (get_or xs k d) ≡ true → Some (get_or xs k d) ≡ find p (drop k xs)
find_here p k xs d l e = sym (ap (find p) (drop_at k xs d l) ∙ ap (λ b. cond b (Some (get_or xs k d)) (find p (drop (k + 1) xs))) e)

pub find_past : {X : Type 0} (p : X → Bool) (k : ℕ) (xs : List X) → length xs ≤ k → None ≡ find p (drop k xs)
find_past p k xs l = sym (ap (find p) (drop_of_length-le xs l))

-- the member at k is there, and once it is out the others are
pub there_at : (es : List (ℕ × Op)) (ms : List (Spot × Op)) (k : ℕ) (d : Spot × Op) → k < length ms → AreThere es (drop k ms) → at_time es (get_or ms k d).0.time ≡ Some (get_or ms k d).1
there_at es ms k d l h = (subst (AreThere es) (drop_at k ms d l) h).0

pub there_after : (es fresh : List (ℕ × Op)) (ms : List (Spot × Op)) (k : ℕ) (d : Spot × Op) → k < length ms → AreThere es (drop k ms) → AreApart (values_of (drop k ms)) →
    ((t : ℕ) → at_time fresh t ≡ cond (is_eq (nat_cmp (get_or ms k d).0.time t)) None (at_time es t)) → AreThere fresh (drop (k + 1) ms)
there_after es fresh ms k d l h apart fresh_is =
    let there = subst (AreThere es) (drop_at k ms d l) h in
    let alone = subst (λ (xs : List (Spot × Op)). AreApart (values_of xs)) (drop_at k ms d l) apart in
    there_rest es fresh (get_or ms k d) (drop (k + 1) ms) there.0 fresh_is alone.0 there.1

pub apart_after : (ms : List (Spot × Op)) (k : ℕ) (d : Spot × Op) → k < length ms → AreApart (values_of (drop k ms)) → AreApart (values_of (drop (k + 1) ms))
apart_after ms k d l apart = (subst (λ (xs : List (Spot × Op)). AreApart (values_of xs)) (drop_at k ms d l) apart).1

pub without_after : (ms : List (Spot × Op)) (k : ℕ) (d : Spot × Op) (os left all : List Op) → k < length ms → left ≡ others_than ((get_or ms k d).1).ticket os →
    without (values_of (drop k ms)) os ≡ all → without (values_of (drop (k + 1) ms)) left ≡ all
without_after ms k d os left all l out h =
    ap (without (values_of (drop (k + 1) ms))) out ∙ sym (ap (λ (xs : List (Spot × Op)). without (values_of xs) os) (drop_at k ms d l)) ∙ h

pub without_done : (ms : List (Spot × Op)) (k : ℕ) (os all : List Op) → length ms ≤ k → without (values_of (drop k ms)) os ≡ all → os ≡ all
without_done ms k os all l h = sym (ap (λ (xs : List (Spot × Op)). without (values_of xs) os) (drop_of_length-le ms l)) ∙ h
