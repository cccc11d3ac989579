-- What taking the group around the first operation of the eligible class owes and gives.
use Rattle.std.proofs.Common.{◌≡◌, ℕ, ◌<◌, ◌≤◌, List, [], ◌∷◌, ◌++◌, Bool, true, false, cond, ◌&&◌, ◌==◌, Option, Some, None, refl, sym, ap, ◌∙◌, arith, subst, true≢false, get_or, length, All, find, is_some, option_map, set, length-set, length-append, get_or-set_same, get_or-set_other, ltb-true}
use Rattle.std.proofs.lemmas.Bool.Decides.{nat_tests}
use Rattle.std.proofs.lemmas.List.Elements.{All-cons, All-head, All-tail}
use Rattle.std.specs.List.{list_any}
use Rattle.std.specs.Map.{values_of}
use Rattle.std.specs.Ordering.{is_eq, nat_cmp}
use Rattle.zio_types.specs.declared.request.Prio.{Prio}
use Rattle.zio_types.specs.declared.request.Prio.TheVariants.{SyncRead, SyncWrite, AsyncRead, AsyncWrite, Scrub}
use Rattle.zio_vqueue.specs.declared.op.Op.{Op}
use Rattle.zio_vqueue.specs.declared.op.Group.{Group}
use Rattle.zio_vqueue.specs.declared.spots.Spot.{Spot}
use Rattle.zio_vqueue.specs.Classes.{class_number, classes, maximum_of, minimum_of}
use Rattle.zio_vqueue.specs.Groups.{AreTakenWith, IsNextGroup, IsSpanOf}
use Rattle.zio_vqueue.specs.Queues.{FitsDevice, Queue, active_of, eligible, first_in, is_due, is_in_class, or_else}
use Rattle.zio_vqueue.specs.Spots.{AllFit, AreAdmitted, AreGathered, AreThere, IsIndexed, at_time, first_on, first_served, join_spot}
use Rattle.zio_vqueue.proofs.MemberLemmas.{by_flag, taken_with}
use Rattle.zio_vqueue.proofs.ServeLemmas.{class_waits, first_served_is, maximum_at, there_served}

-- ---- what is there ends on the device

pub fit_there : (es : List (ℕ × Op)) (t : ℕ) (o : Op) → All FitsDevice (values_of es) → at_time es t ≡ Some o → FitsDevice o
fit_there [] t o h e = absurd (none_some o e)
  where
    none_some : (o : Op) → None ≡ Some o → ⊥
    none_some o e = cc
fit_there (x ∷ xs) t o h e = go (is_eq (nat_cmp t x.0)) e (fit_there xs t o (All-tail FitsDevice x.1 (values_of xs) h))
  where
    some_same : (x y : Op) → Some x ≡ Some y → x ≡ y
    some_same x y e = cc

    go : (b : Bool) → cond b (Some x.1) (at_time xs t) ≡ Some o → (at_time xs t ≡ Some o → FitsDevice o) → FitsDevice o
    go true k later = subst FitsDevice (some_same x.1 o k) (All-head FitsDevice x.1 (values_of xs) h)
    go false k later = later k

pub all_fit_there : (es : List (ℕ × Op)) (gs : List (Spot × Op)) → All FitsDevice (values_of es) → AreThere es gs → AllFit gs
all_fit_there es [] h there = λ k d l. absurd (omega arith)
all_fit_there es (g ∷ gs) h there = All-cons FitsDevice g.1 (values_of gs) (fit_there es g.0.time g.1 h there.0) (all_fit_there es gs h there.1)

pub members_some : (fs members : List (Spot × Op)) (time : ℕ) (first : Op) → AreGathered time first fs members → 0 < length members
members_some fs members time first g = by_flag first.flags.dont_aggregate
    (λ e. subst (λ (ms : List (Spot × Op)). 0 < length ms) (sym (g.alone e)) (omega arith))
    (λ e. let j = g.joined e in
    subst (λ (ms : List (Spot × Op)). 0 < length ms) (sym j.upward.found_is)
    (some_in j.lower j.upward.more (join_spot time first, first)))
  where
    some_in : (xs ys : List (Spot × Op)) (x : Spot × Op) → 0 < length ((xs ++ x ∷ []) ++ ys)
    some_in xs ys x = omega (arith, length-append (xs ++ x ∷ []) ys, length-append xs (x ∷ []))

-- ---- the eligible class has room

option_same : {X : Type 0} (x y : X) → Some x ≡ Some y → x ≡ y
option_same x y e = cc

found_passes : {X : Type 0} (p : X → Bool) (xs : List X) (x : X) → find p xs ≡ Some x → p x ≡ true
found_passes p [] x e = absurd (cc)
found_passes p (y ∷ ys) x e = go (p y) refl e (found_passes p ys x)
  where
    go : (b : Bool) → p y ≡ b → cond b (Some y) (find p ys) ≡ Some x → (find p ys ≡ Some x → p x ≡ true) → p x ≡ true
    go true is k later = sym (ap p (option_same y x k)) ∙ is
    go false is k later = later k

minimum_below : (c : Prio) → minimum_of c ≤ maximum_of c
minimum_below SyncRead = omega arith
minimum_below SyncWrite = omega arith
minimum_below AsyncRead = omega arith
minimum_below AsyncWrite = omega arith
minimum_below Scrub = omega arith

both : (x y : Bool) → (x && y) ≡ true → (x ≡ true) × (y ≡ true)
both true y e = (refl, e)
both false y e = absurd (true≢false (sym e))

pub eligible_due : (q : Queue) (c : Prio) → eligible q ≡ Some c → (list_any (is_in_class c) q.queued ≡ true) × (active_of q c < maximum_of c)
eligible_due q c e = go (find (is_due minimum_of q) classes) refl e
  where
    some_same : (a b : Prio) → Some a ≡ Some b → a ≡ b
    some_same a b e = cc

    go : (r : Option Prio) → find (is_due minimum_of q) classes ≡ r → or_else r (find (is_due maximum_of q) classes) ≡ Some c → (list_any (is_in_class c) q.queued ≡ true) × (active_of q c < maximum_of c)
    go (Some d) is k =
        let b = both _ _ (found_passes (is_due minimum_of q) classes c (is ∙ k)) in
        (b.0, omega (arith, ltb-true (active_of q c) (minimum_of c) b.1, minimum_below c))
    go None is k =
        let b = both _ _ (found_passes (is_due maximum_of q) classes c k) in
        (b.0, ltb-true (active_of q c) (maximum_of c) b.1)

equal_from : (a b : ℕ) → (a == b) ≡ true → a ≡ b
equal_from a b e = grind (arith, nat_tests)

apart_from : (a b : ℕ) → (a == b) ≡ false → (a ≡ b → ⊥)
apart_from a b e same = grind (arith, nat_tests)

class_in : (c : Prio) → class_number c < 5
class_in SyncRead = omega arith
class_in SyncWrite = omega arith
class_in AsyncRead = omega arith
class_in AsyncWrite = omega arith
class_in Scrub = omega arith

pub admitted_set : (active : List ℕ) (c : Prio) (n : ℕ) → n ≤ maximum_of c → AreAdmitted active → AreAdmitted (set active (class_number c) n)
admitted_set active c n l h = record {
  room = length-set active (class_number c) n ∙ h.room;
  below = λ d. go d (class_number c == class_number d) refl;
}
  where
    go : (d : Prio) (b : Bool) → (class_number c == class_number d) ≡ b → get_or (set active (class_number c) n) (class_number d) 0 ≤ maximum_of d
    go d true e =
        let same : class_number c ≡ class_number d = equal_from _ _ e in
        let most : maximum_of c ≡ maximum_of d = sym (maximum_at c) ∙ ap (λ k. get_or (10 ∷ 10 ∷ 3 ∷ 10 ∷ 3 ∷ []) k 0) same ∙ maximum_at d in
        let here : get_or (set active (class_number c) n) (class_number d) 0 ≡ n =
        ap (λ k. get_or (set active (class_number c) n) k 0) (sym same) ∙ get_or-set_same active (class_number c) n 0 (omega (arith, class_in c, h.room)) in
        omega (arith, here, most, l)
    go d false e = omega (arith, get_or-set_other active (class_number c) (class_number d) n 0 (λ same. apart_from _ _ e (sym same)), h.below d)

-- ---- its first operation is on its shelf

or_some : (a b : Option (Spot × Op)) → is_some b ≡ true → or_else a b ≡ None → ⊥
or_some (Some a) b h e = cc
or_some None (Some b) h e = cc
or_some None None h e = absurd (true≢false (sym h))

pub served_some : (q : Queue) (c : Prio) (es : List (ℕ × Op)) (fs : List (Spot × Op)) → q.queued ≡ values_of es → IsIndexed es fs → eligible q ≡ Some c → first_served c q.last fs ≡ None → ⊥
served_some q c es fs queued h e none =
    or_some _ (first_on (class_number c) 0 fs) (class_waits c es fs h ∙ ap (list_any (is_in_class c)) (sym queued) ∙ (eligible_due q c e).0) none

-- ---- the group

pub next_group : (q : Queue) (es : List (ℕ × Op)) (fs members : List (Spot × Op)) (spot : Spot) (first : Op) (group : Group) → q.queued ≡ values_of es → IsIndexed es fs →
    eligible q ≡ Some group.prio → first_served group.prio q.last fs ≡ Some (spot, first) → AreGathered spot.time first fs members → group.ops ≡ values_of members → IsSpanOf group (values_of members) →
    IsNextGroup q group
next_group q es fs members spot first group queued h e served g ops span = record {
  first = first;
  class = e;
  first_is = ap (first_in group.prio q.last) queued ∙ sym (first_served_is group.prio q.last es fs h) ∙ ap (option_map (λ (f : Spot × Op). f.1)) served;
  members = subst (λ os. AreTakenWith os first group.ops) (sym queued)
      (subst (AreTakenWith (values_of es) first) (sym ops) (taken_with es fs members spot.time first h (there_served group.prio q.last es fs (spot, first) h served) g));
  span = subst (IsSpanOf group) (sym ops) span;
}
