-- How the counts of the request machine follow its children's marks, and when its wakes come.
use Rattle.std.proofs.Common.{◌≡◌, ℕ, zero, suc, ◌+◌, List, [], ◌∷◌, ◌++◌, Bool, true, false, ◌&&◌, not, ◌==◌, Option, Some, None, IsTrue, refl, ap, sym, ◌∙◌, arith, ◌≢◌, eq-eqb, ne_eqb}
use Rattle.std.proofs.lemmas.Bool.{false≢true}
use Rattle.std.proofs.Math.Bool.{and-false, and-true}
use Rattle.zio_types.specs.declared.request.ChildKind.{ChildKind}
use Rattle.zio_types.specs.declared.request.ChildKind.TheVariants.{Vdev, Gang, Logical}
use Rattle.zio_types.specs.declared.request.Phase.{Phase}
use Rattle.zio_types.specs.declared.request.Phase.TheVariants.{Ready, Done}
use Rattle.zio_types.specs.Machine.{Added, BecameDone, BecameReady, Child, Count, CountEvent, Machine, Waited, after, count_of, happened, is_count, is_open, is_stall, marked, marked_at, may_happen, new_child, one_if, owes, owes_at, same_kind, same_phase, stall_is_open, stalled_unless, wakes, woken_if}

-- nothing follows from what never holds but everything
no_false : {X : Type 0} → false ≡ true → X
no_false h = absurd (false≢true h)

same_kind-eq : (a b : ChildKind) → IsTrue (same_kind a b) → a ≡ b
same_kind-eq Vdev Vdev h = refl
same_kind-eq Vdev Gang h = no_false h
same_kind-eq Vdev Logical h = no_false h
same_kind-eq Gang Vdev h = no_false h
same_kind-eq Gang Gang h = refl
same_kind-eq Gang Logical h = no_false h
same_kind-eq Logical Vdev h = no_false h
same_kind-eq Logical Gang h = no_false h
same_kind-eq Logical Logical h = refl

same_kind-sym : (a b : ChildKind) → same_kind a b ≡ same_kind b a
same_kind-sym Vdev Vdev = refl
same_kind-sym Vdev Gang = refl
same_kind-sym Vdev Logical = refl
same_kind-sym Gang Vdev = refl
same_kind-sym Gang Gang = refl
same_kind-sym Gang Logical = refl
same_kind-sym Logical Vdev = refl
same_kind-sym Logical Gang = refl
same_kind-sym Logical Logical = refl

front_true : (a b : Bool) → IsTrue (a && b) → IsTrue a
front_true true b h = refl
front_true false b h = h

-- ---- counts

owes-marked : (kind : ChildKind) (phase : Phase) (child : Child) → owes kind phase (marked phase child) ≡ false
owes-marked kind Ready child = and-false (same_kind child.kind kind)
owes-marked kind Done child = and-false (same_kind child.kind kind)

falls_here : (a b : Bool) (rest : ℕ) → IsTrue a → b ≡ false → one_if a + rest ≡ (one_if b + rest) + 1
falls_here true true rest h e = no_false (sym e)
falls_here true false rest h e = omega arith
falls_here false b rest h e = no_false h

pub count_of-marked_at : (kind : ChildKind) (phase : Phase) (n : ℕ) (children : List Child) →
    IsTrue (owes_at kind phase n children) → count_of kind phase children ≡ count_of kind phase (marked_at phase n children) + 1
count_of-marked_at kind phase n [] h = no_false h
count_of-marked_at kind phase zero (child ∷ children) h =
    falls_here (owes kind phase child) (owes kind phase (marked phase child)) (count_of kind phase children) h (owes-marked kind phase child)
count_of-marked_at kind phase (suc n) (child ∷ children) h =
    omega (arith, count_of-marked_at kind phase n children h)

-- a child of one kind is of no other
of_no_other : (a kind other : ChildKind) → IsTrue (same_kind a kind) → same_kind other kind ≡ false → same_kind a other ≡ false
of_no_other a kind other h e =
    ap (λ k. same_kind k other) (same_kind-eq a kind h) ∙ (same_kind-sym kind other ∙ e)

both_false : (a b c : Bool) → a ≡ false → (a && b) ≡ (a && c)
both_false true b c e = no_false (sym e)
both_false false b c e = refl

owes-marked_other : (kind : ChildKind) (phase : Phase) (other : ChildKind) (mark : Phase) (child : Child) →
    IsTrue (owes kind phase child) → is_count kind phase (record { kind = other; phase = mark }) ≡ false →
    owes other mark (marked phase child) ≡ owes other mark child
owes-marked_other kind Ready other Done child h e = refl
owes-marked_other kind Done other Ready child h e = refl
owes-marked_other kind Ready other Ready child h e =
    both_false (same_kind child.kind other) false (not child.ready)
    (of_no_other child.kind kind other (front_true (same_kind child.kind kind) (not child.ready) h) (sym (and-true (same_kind other kind)) ∙ e))
owes-marked_other kind Done other Done child h e =
    both_false (same_kind child.kind other) false (not child.done)
    (of_no_other child.kind kind other (front_true (same_kind child.kind kind) (not child.done) h) (sym (and-true (same_kind other kind)) ∙ e))

pub count_of-marked_other : (kind : ChildKind) (phase : Phase) (n : ℕ) (children : List Child) →
    IsTrue (owes_at kind phase n children) → (other : ChildKind) (mark : Phase) →
    is_count kind phase (record { kind = other; phase = mark }) ≡ false →
    count_of other mark (marked_at phase n children) ≡ count_of other mark children
count_of-marked_other kind phase n [] h other mark e = no_false h
count_of-marked_other kind phase zero (child ∷ children) h other mark e =
    ap (λ b. one_if b + count_of other mark children) (owes-marked_other kind phase other mark child h e)
count_of-marked_other kind phase (suc n) (child ∷ children) h other mark e =
    ap (λ k. one_if (owes other mark child) + k) (count_of-marked_other kind phase n children h other mark e)

pub count_of-append : (kind : ChildKind) (phase : Phase) (front back : List Child) →
    count_of kind phase (front ++ back) ≡ count_of kind phase front + count_of kind phase back
count_of-append kind phase [] back = omega arith
count_of-append kind phase (child ∷ front) back = omega (arith, count_of-append kind phase front back)

pub count_of-new_child : (kind other : ChildKind) (mark : Phase) (children : List Child) →
    count_of other mark (children ++ new_child kind ∷ []) ≡ count_of other mark children + one_if (owes other mark (new_child kind))
count_of-new_child kind other mark children = omega (arith, count_of-append other mark children (new_child kind ∷ []))

-- ---- wakes

-- the last step to 0 is the step from 1
last_step : (before later : ℕ) → before ≡ later + 1 → (later == 0) ≡ (before == 1)
last_step before zero e = sym (eq-eqb before 1 (omega arith))
last_step before (suc later) e = ne_eqb (suc later) 0 (omega arith) ∙ sym (ne_eqb before 1 (omega arith))

pub is_over-marked_at : (kind : ChildKind) (phase : Phase) (n : ℕ) (children : List Child) (stall : Option Count) →
    IsTrue (owes_at kind phase n children) →
    (is_stall kind phase stall && (count_of kind phase (marked_at phase n children) == 0))
    ≡ (is_stall kind phase stall && (count_of kind phase children == 1))
is_over-marked_at kind phase n children stall h =
    ap (λ b. is_stall kind phase stall && b)
    (last_step (count_of kind phase children) (count_of kind phase (marked_at phase n children)) (count_of-marked_at kind phase n children h))

-- ---- no stall is left at 0

same_phase-eq : (a b : Phase) → IsTrue (same_phase a b) → a ≡ b
same_phase-eq Ready Ready h = refl
same_phase-eq Ready Done h = no_false h
same_phase-eq Done Ready h = no_false h
same_phase-eq Done Done h = refl

both_true : (a b : Bool) → (a && b) ≡ true → (a ≡ true) × (b ≡ true)
both_true true b h = (refl, h)
both_true false b h = no_false h

is_count-eq : (kind : ChildKind) (phase : Phase) (count : Count) → is_count kind phase count ≡ true →
    (count.kind ≡ kind) × (count.phase ≡ phase)
is_count-eq kind phase count h =
    let both = both_true (same_kind count.kind kind) (same_phase count.phase phase) h in
    (same_kind-eq count.kind kind both.0, same_phase-eq count.phase phase both.1)

not_zero : (n : ℕ) → not (n == 0) ≡ true → n ≢ 0
not_zero n h e = no_false (sym (ap not (eq-eqb n 0 e)) ∙ h)

is_not_zero : (n : ℕ) → n ≢ 0 → not (n == 0) ≡ true
is_not_zero n h = ap not (ne_eqb n 0 h)

open_by_case : (b : Bool) (kind : ChildKind) (phase : Phase) (n : ℕ) (children : List Child) (count : Count) →
    is_count kind phase count ≡ b → IsTrue (owes_at kind phase n children) → is_open children (Some count) ≡ true →
    (b && (count_of kind phase (marked_at phase n children) == 0)) ≡ false →
    is_open (marked_at phase n children) (Some count) ≡ true
open_by_case true kind phase n children count e h o z =
    let same = is_count-eq kind phase count e in
    ap (λ k. not (count_of k count.phase (marked_at phase n children) == 0)) same.0
    ∙ (ap (λ p. not (count_of kind p (marked_at phase n children) == 0)) same.1 ∙ ap not z)
open_by_case false kind phase n children count e h o z =
    ap (λ k. not (k == 0)) (count_of-marked_other kind phase n children h count.kind count.phase e) ∙ o

-- where the event doesn't bring the stalled count to 0, that is still to come
is_open-marked_at : (kind : ChildKind) (phase : Phase) (n : ℕ) (children : List Child) (stall : Option Count) →
    IsTrue (owes_at kind phase n children) → is_open children stall ≡ true →
    (is_stall kind phase stall && (count_of kind phase (marked_at phase n children) == 0)) ≡ false →
    is_open (marked_at phase n children) stall ≡ true
is_open-marked_at kind phase n children None h o z = refl
is_open-marked_at kind phase n children (Some count) h o z =
    open_by_case (is_count kind phase count) kind phase n children count refl h o z

is_open-append : (children : List Child) (child : Child) (stall : Option Count) →
    is_open children stall ≡ true → is_open (children ++ child ∷ []) stall ≡ true
is_open-append children child None o = refl
is_open-append children child (Some count) o =
    let here : count_of count.kind count.phase children ≢ 0 = not_zero (count_of count.kind count.phase children) o in
    is_not_zero (count_of count.kind count.phase (children ++ child ∷ []))
    (omega (arith, count_of-append count.kind count.phase children (child ∷ [])))

open_unless_woken : (b : Bool) (m : Machine) → (b ≡ false → stall_is_open m ≡ true) → stall_is_open (woken_if b m) ≡ true
open_unless_woken true m h = refl
open_unless_woken false m h = h refl

open_by_wait : (b : Bool) (count : Count) (m : Machine) → (count_of count.kind count.phase m.children == 0) ≡ b →
    stall_is_open m ≡ true → stall_is_open (stalled_unless b count m) ≡ true
open_by_wait true count m e o = o
open_by_wait false count m e o = ap not e

pub stall_is_open-after : (m : Machine) (event : CountEvent) → IsTrue (may_happen event m) → stall_is_open m ≡ true →
    stall_is_open (after event m) ≡ true
stall_is_open-after m (Added kind) h o = is_open-append m.children (new_child kind) m.stall o
stall_is_open-after m (BecameReady kind n) h o =
    open_unless_woken (wakes (BecameReady kind n) m) (happened (BecameReady kind n) m) (is_open-marked_at kind Ready n m.children m.stall h o)
stall_is_open-after m (BecameDone kind n error bits) h o =
    open_unless_woken (wakes (BecameDone kind n error bits) m) (happened (BecameDone kind n error bits) m) (is_open-marked_at kind Done n m.children m.stall h o)
stall_is_open-after m (Waited kind phase) h o =
    open_by_wait (count_of kind phase m.children == 0) (record { kind = kind; phase = phase }) m refl o
