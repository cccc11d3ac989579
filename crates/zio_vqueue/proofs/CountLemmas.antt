-- How many operations of each class are queued, as one is put or taken.
use Rattle.std.proofs.Common.{◌≡◌, ℕ, suc, ◌+◌, ◌-◌, ◌<◌, ◌≤◌, List, [], ◌∷◌, ◌++◌, Bool, true, false, cond, not, ◌||◌, ◌==◌, nat_lt, Some, None, refl, sym, ap, ◌∙◌, arith, true≢false, length, get_or, set, length-set, get_or-set_same, get_or-set_other, count_by, All}
use Rattle.std.proofs.lemmas.Bool.Decides.{nat_tests}
use Rattle.std.proofs.lemmas.List.Elements.{All-cons}
use Rattle.std.proofs.lemmas.List.Sums.{sum_by-append, sum_by-cons, count_by-le-length}
use Rattle.std.proofs.lemmas.Map.Views.{length-le_from_below}
use Rattle.std.specs.List.{list_any}
use Rattle.std.specs.List.Sorted.{IsStrictlySortedBy}
use Rattle.std.specs.Map.{keys_of, values_of}
use Rattle.std.specs.Ordering.{is_eq, nat_cmp}
use Rattle.zio_types.specs.declared.request.Prio.{Prio}
use Rattle.zio_types.specs.declared.request.Prio.TheVariants.{SyncRead, SyncWrite, AsyncRead, AsyncWrite, Scrub}
use Rattle.zio_vqueue.specs.declared.op.Op.{Op}
use Rattle.zio_vqueue.specs.Classes.{class_number}
use Rattle.zio_vqueue.specs.Queues.{AreApart, is_in_class, is_queued}
use Rattle.zio_vqueue.specs.Spots.{AreBefore, AreCounted, at_time}
use Rattle.zio_vqueue.proofs.IndexLemmas.{at_time-queued, others_all, others_than}

equal_from : (a b : ℕ) → (a == b) ≡ true → a ≡ b
equal_from a b e = grind (arith, nat_tests)

self_equal : (n : ℕ) → (n == n) ≡ true
self_equal n = grind (arith, nat_tests)

apart_from : (a b : ℕ) → (a == b) ≡ false → (a ≡ b → ⊥)
apart_from a b e same = grind (arith, nat_tests)

class_in : (c : Prio) → class_number c < 5
class_in SyncRead = omega arith
class_in SyncWrite = omega arith
class_in AsyncRead = omega arith
class_in AsyncWrite = omega arith
class_in Scrub = omega arith

-- one for an operation of the class, and none for another
abbrev one_in : Prio → Op → ℕ
one_in c o = cond (is_in_class c o) 1 0

abbrev count_in : Prio → List Op → ℕ
count_in c os = count_by (is_in_class c) os

count-cons : (c : Prio) (o : Op) (os : List Op) → count_in c (o ∷ os) ≡ one_in c o + count_in c os
count-cons c o os = sum_by-cons (λ (x : Op). cond (is_in_class c x) 1 0) o os

count-append : (c : Prio) (os : List Op) (o : Op) → count_in c (os ++ o ∷ []) ≡ count_in c os + one_in c o
count-append c os o =
    let a = sum_by-append (λ (x : Op). cond (is_in_class c x) 1 0) os (o ∷ []) in
    let b = count-cons c o [] in
    omega (arith, a, b)

-- ---- without one that is queued

some_same : (x y : Op) → Some x ≡ Some y → x ≡ y
some_same x y e = cc

count-others : (c : Prio) (es : List (ℕ × Op)) (t : ℕ) (m : Op) → AreApart (values_of es) → at_time es t ≡ Some m →
    count_in c (others_than m.ticket (values_of es)) + one_in c m ≡ count_in c (values_of es)
count-others c [] t m apart h = absurd (none_some m h)
  where
    none_some : (o : Op) → None ≡ Some o → ⊥
    none_some o e = cc
count-others c (e ∷ es) t m apart h = go (is_eq (nat_cmp t e.0)) h (count-others c es t m apart.1)
  where
    tickets : (b : Bool) → ((e.1).ticket == m.ticket) ≡ b → is_queued m.ticket (values_of es) ≡ true → b ≡ false
    tickets true same there = absurd (true≢false (sym there ∙ ap (λ n. is_queued n (values_of es)) (sym (equal_from (e.1).ticket m.ticket same)) ∙ apart.0))
    tickets false same there = refl

    others_is : (b : Bool) → ((e.1).ticket == m.ticket) ≡ b → others_than m.ticket (e.1 ∷ values_of es) ≡ cond (not b) (e.1 ∷ others_than m.ticket (values_of es)) (others_than m.ticket (values_of es))
    others_is b is = ap (λ x. cond (not x) (e.1 ∷ others_than m.ticket (values_of es)) (others_than m.ticket (values_of es))) is

    go : (b : Bool) → cond b (Some e.1) (at_time es t) ≡ Some m →
        (at_time es t ≡ Some m → count_in c (others_than m.ticket (values_of es)) + one_in c m ≡ count_in c (values_of es)) →
        count_in c (others_than m.ticket (e.1 ∷ values_of es)) + one_in c m ≡ count_in c (e.1 ∷ values_of es)
    go true k later =
        let same : e.1 ≡ m = some_same e.1 m k in
        let gone : others_than m.ticket (e.1 ∷ values_of es) ≡ values_of es =
        others_is true (ap (λ (x : Op). x.ticket == m.ticket) same ∙ self_equal m.ticket)
        ∙ others_all m.ticket (values_of es) (ap (λ (x : Op). is_queued x.ticket (values_of es)) (sym same) ∙ apart.0) in
        let a = ap (count_in c) gone in
        let b = ap (one_in c) same in
        let d = count-cons c e.1 (values_of es) in
        omega (arith, a, b, d)
    go false k later =
        let kept : others_than m.ticket (e.1 ∷ values_of es) ≡ e.1 ∷ others_than m.ticket (values_of es) =
        others_is false (tickets ((e.1).ticket == m.ticket) refl (at_time-queued es t m k)) in
        let a = ap (count_in c) kept in
        let b = count-cons c e.1 (others_than m.ticket (values_of es)) in
        let d = count-cons c e.1 (values_of es) in
        let f = later k in
        omega (arith, a, b, d, f)

-- ---- counts by class

in_own : (m : Op) → one_in m.prio m ≡ 1
in_own m = ap (λ b. cond b 1 0) (self_equal (class_number m.prio))

pub counted_some : (waiting : List ℕ) (es : List (ℕ × Op)) (t : ℕ) (m : Op) → AreCounted waiting (values_of es) → AreApart (values_of es) → at_time es t ≡ Some m →
    1 ≤ get_or waiting (class_number m.prio) 0
counted_some waiting es t m h apart there = omega (arith, h.counts m.prio, count-others m.prio es t m apart there, in_own m)

pub counted_out : (waiting : List ℕ) (es fresh : List (ℕ × Op)) (t : ℕ) (m : Op) → AreCounted waiting (values_of es) → AreApart (values_of es) → at_time es t ≡ Some m →
    values_of fresh ≡ others_than m.ticket (values_of es) →
    AreCounted (set waiting (class_number m.prio) (get_or waiting (class_number m.prio) 0 - 1)) (values_of fresh)
counted_out waiting es fresh t m h apart there left = record {
  room = length-set waiting (class_number m.prio) (get_or waiting (class_number m.prio) 0 - 1) ∙ h.room;
  counts = λ d. go d (class_number m.prio == class_number d) refl;
}
  where
    go : (d : Prio) (b : Bool) → (class_number m.prio == class_number d) ≡ b →
        get_or (set waiting (class_number m.prio) (get_or waiting (class_number m.prio) 0 - 1)) (class_number d) 0 ≡ count_in d (values_of fresh)
    go d true e =
        let same : class_number m.prio ≡ class_number d = equal_from _ _ e in
        let here : get_or (set waiting (class_number m.prio) (get_or waiting (class_number m.prio) 0 - 1)) (class_number d) 0 ≡ get_or waiting (class_number m.prio) 0 - 1 =
        ap (λ k. get_or (set waiting (class_number m.prio) (get_or waiting (class_number m.prio) 0 - 1)) k 0) (sym same)
        ∙ get_or-set_same waiting (class_number m.prio) (get_or waiting (class_number m.prio) 0 - 1) 0 (omega (arith, class_in m.prio, h.room)) in
        let was : get_or waiting (class_number m.prio) 0 ≡ get_or waiting (class_number d) 0 = ap (λ k. get_or waiting k 0) same in
        let one : one_in d m ≡ 1 = ap (λ b. cond b 1 0) e in
        let kept = ap (count_in d) left in
        omega (arith, here, was, one, kept, h.counts d, count-others d es t m apart there)
    go d false e =
        let one : one_in d m ≡ 0 = ap (λ b. cond b 1 0) e in
        let kept = ap (count_in d) left in
        let other = get_or-set_other waiting (class_number m.prio) (class_number d) (get_or waiting (class_number m.prio) 0 - 1) 0 (λ same. apart_from _ _ e (sym same)) in
        omega (arith, other, one, kept, h.counts d, count-others d es t m apart there)

pub counted_in : (waiting : List ℕ) (os fresh : List Op) (o : Op) → AreCounted waiting os → fresh ≡ os ++ o ∷ [] →
    AreCounted (set waiting (class_number o.prio) (get_or waiting (class_number o.prio) 0 + 1)) fresh
counted_in waiting os fresh o h is = record {
  room = length-set waiting (class_number o.prio) (get_or waiting (class_number o.prio) 0 + 1) ∙ h.room;
  counts = λ d. go d (class_number o.prio == class_number d) refl;
}
  where
    go : (d : Prio) (b : Bool) → (class_number o.prio == class_number d) ≡ b →
        get_or (set waiting (class_number o.prio) (get_or waiting (class_number o.prio) 0 + 1)) (class_number d) 0 ≡ count_in d fresh
    go d true e =
        let same : class_number o.prio ≡ class_number d = equal_from _ _ e in
        let here : get_or (set waiting (class_number o.prio) (get_or waiting (class_number o.prio) 0 + 1)) (class_number d) 0 ≡ get_or waiting (class_number o.prio) 0 + 1 =
        ap (λ k. get_or (set waiting (class_number o.prio) (get_or waiting (class_number o.prio) 0 + 1)) k 0) (sym same)
        ∙ get_or-set_same waiting (class_number o.prio) (get_or waiting (class_number o.prio) 0 + 1) 0 (omega (arith, class_in o.prio, h.room)) in
        let was : get_or waiting (class_number o.prio) 0 ≡ get_or waiting (class_number d) 0 = ap (λ k. get_or waiting k 0) same in
        let one : one_in d o ≡ 1 = ap (λ b. cond b 1 0) e in
        let all = ap (count_in d) is in
        omega (arith, here, was, one, all, h.counts d, count-append d os o)
    go d false e =
        let one : one_in d o ≡ 0 = ap (λ b. cond b 1 0) e in
        let all = ap (count_in d) is in
        let other = get_or-set_other waiting (class_number o.prio) (class_number d) (get_or waiting (class_number o.prio) 0 + 1) 0 (λ same. apart_from _ _ e (sym same)) in
        omega (arith, other, one, all, h.counts d, count-append d os o)

-- ---- there are fewer than times

keys_before : (time : ℕ) (es : List (ℕ × Op)) → AreBefore time es → All (λ k. k < time) (keys_of es)
keys_before time [] h = λ k d l. absurd (omega arith)
keys_before time (e ∷ es) h = All-cons (λ k. k < time) e.0 (keys_of es) h.0 (keys_before time es h.1)

as_many : (es : List (ℕ × Op)) → length (values_of es) ≡ length (keys_of es)
as_many [] = refl
as_many (e ∷ es) = ap suc (as_many es)

pub counted_below : (time : ℕ) (waiting : List ℕ) (es : List (ℕ × Op)) (c : Prio) → AreCounted waiting (values_of es) → IsStrictlySortedBy nat_cmp (keys_of es) → AreBefore time es →
    get_or waiting (class_number c) 0 ≤ time
counted_below time waiting es c h sorted before =
    omega (arith, h.counts c, count_by-le-length (is_in_class c) (values_of es), as_many es, length-le_from_below time (keys_of es) sorted (keys_before time es before))

-- ---- a class that has some

any_counted : (c : Prio) (os : List Op) → nat_lt 0 (count_in c os) ≡ list_any (is_in_class c) os
any_counted c [] = refl
any_counted c (o ∷ os) = ap (nat_lt 0) (count-cons c o os) ∙ go (is_in_class c o) (any_counted c os)
  where
    go : (b : Bool) → nat_lt 0 (count_in c os) ≡ list_any (is_in_class c) os → nat_lt 0 (cond b 1 0 + count_in c os) ≡ (b || list_any (is_in_class c) os)
    go true h = grind (arith, nat_tests)
    go false h = ap (nat_lt 0) (omega arith) ∙ h

pub class_counted : (c : Prio) (waiting : List ℕ) (os : List Op) → AreCounted waiting os → nat_lt 0 (get_or waiting (class_number c) 0) ≡ list_any (is_in_class c) os
class_counted c waiting os h = ap (nat_lt 0) (h.counts c) ∙ any_counted c os
