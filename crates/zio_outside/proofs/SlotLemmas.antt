-- What is under a name, round a look-up, a change and a push of the slots.
use Rattle.std.proofs.Common.{◌≡◌, ◌≢◌, ℕ, zero, suc, ◌+◌, ◌<◌, Bool, true, false, cond, nat_eq, List, [], ◌∷◌, ◌++◌, length, get_or, set, position, Option, Some, None, IfNone, refl, ap, sym, ◌∙◌, subst, arith}
use Rattle.std.specs.Cmp.Lexicographic.{pointwise, same_text, other_text}
use Rattle.std.specs.List.{position_from}
use Rattle.std.specs.Option.{option_and_then}
use Rattle.std.proofs.lemmas.List.Quantifiers.{position-Some}
use Rattle.std.proofs.lemmas.Iterator.Adapters.{position_from-zero}
use Rattle.zio_outside.specs.MemoryShelf.{is_named, slot_of, at_home, ChangesOnly}
use Rattle.zio_outside.specs.declared.mem_shelf.Slot.{Slot}

-- ---- names

test_false : (xs ys : List ℕ) → xs ≢ ys → (b : Bool) → b ≡ pointwise nat_eq xs ys → pointwise nat_eq xs ys ≡ false
test_false xs ys differ true e = absurd (differ (same_text xs ys e))
test_false xs ys differ false e = sym e

test_true : (xs ys : List ℕ) → xs ≡ ys → (b : Bool) → b ≡ pointwise nat_eq xs ys → pointwise nat_eq xs ys ≡ true
test_true xs ys same true e = sym e
test_true xs ys same false e = absurd (other_text xs ys e same)

pub is_named-same : {D : Type 0} (name : List ℕ) (s : Slot D) → s.name ≡ name → is_named name s ≡ true
is_named-same name s same = test_true s.name name same (pointwise nat_eq s.name name) refl

pub is_named-other : {D : Type 0} (name : List ℕ) (s : Slot D) → s.name ≢ name → is_named name s ≡ false
is_named-other name s differ = test_false s.name name differ (pointwise nat_eq s.name name) refl

pub name_from_is_named : {D : Type 0} (name : List ℕ) (s : Slot D) → is_named name s ≡ true → s.name ≡ name
name_from_is_named name s e = same_text s.name name (sym e)

-- ---- a look-up

slot_of-at : {D : Type 0} (name : List ℕ) (slots : List (Slot D)) (k : ℕ) (d : Slot D) → k < length slots → is_named name (get_or slots k d) ≡ true
    → ((j : ℕ) → j < k → is_named name (get_or slots j d) ≡ false) → slot_of slots name ≡ Some (get_or slots k d).disk
slot_of-at name [] k d within here before = absurd (omega arith)
slot_of-at name (x ∷ xs) zero d within here before = rw here refl
slot_of-at name (x ∷ xs) (suc k) d within here before =
    rw (before 0 (omega arith)) (slot_of-at name xs k d (omega arith) here (λ j h. before (suc j) (omega arith)))

none_step : {D : Type 0} (b : Bool) (disk : Option D) (i : ℕ) (r : Option ℕ) (q : Option (Option D)) → (r ≡ None → q ≡ None)
    → cond b (Some i) r ≡ None → cond b (Some disk) q ≡ None
none_step true disk i r q rest e = cc
none_step false disk i r q rest e = rest e

none_from : {D : Type 0} (name : List ℕ) (i : ℕ) (slots : List (Slot D)) → position_from (is_named name) i slots ≡ None → slot_of slots name ≡ None
none_from name i [] e = refl
none_from name i (x ∷ xs) e =
    none_step (is_named name x) x.disk i (position_from (is_named name) (i + 1) xs) (slot_of xs name) (none_from name (i + 1) xs) e

pub slot_of-none : {D : Type 0} (name : List ℕ) (slots : List (Slot D)) → position (is_named name) slots ≡ None → slot_of slots name ≡ None
slot_of-none name slots e = none_from name 0 slots (sym (position_from-zero (is_named name) slots) ∙ e)

-- ---- a change

set_same : {D : Type 0} (name : List ℕ) (slots : List (Slot D)) (k : ℕ) (s : Slot D) → k < length slots → s.name ≡ name
    → ((j : ℕ) → j < k → is_named name (get_or slots j s) ≡ false) → slot_of (set slots k s) name ≡ Some s.disk
set_same name [] k s within named before = absurd (omega arith)
set_same name (x ∷ xs) zero s within named before = rw (is_named-same name s named) refl
set_same name (x ∷ xs) (suc k) s within named before =
    rw (before 0 (omega arith)) (set_same name xs k s (omega arith) named (λ j h. before (suc j) (omega arith)))

set_other : {D : Type 0} (name other : List ℕ) (slots : List (Slot D)) (k : ℕ) (s : Slot D) → s.name ≡ name → is_named name (get_or slots k s) ≡ true
    → other ≢ name → slot_of (set slots k s) other ≡ slot_of slots other
set_other name other [] k s named here differ = refl
set_other name other (x ∷ xs) zero s named here differ =
    let old : x.name ≢ other = λ e. differ (sym e ∙ name_from_is_named name x here) in
    let new : s.name ≢ other = λ e. differ (sym e ∙ named) in
    rw (is_named-other other x old, is_named-other other s new) refl
set_other {D} name other (x ∷ xs) (suc k) s named here differ =
    ap (λ (q : Option (Option D)). cond (is_named other x) (Some x.disk) q) (set_other name other xs k s named here differ)

-- ---- a push

push_same : {D : Type 0} (name : List ℕ) (slots : List (Slot D)) (s : Slot D) → s.name ≡ name → slot_of slots name ≡ None → slot_of (slots ++ s ∷ []) name ≡ Some s.disk
push_same name [] s named none = rw (is_named-same name s named) refl
push_same name (x ∷ xs) s named none = push_step (is_named name x) x.disk (slot_of xs name) (slot_of (xs ++ s ∷ []) name) s.disk (push_same name xs s named) none
  where
    push_step : {D : Type 0} (b : Bool) (disk : Option D) (old new : Option (Option D)) (pushed : Option D)
        → (old ≡ None → new ≡ Some pushed) → cond b (Some disk) old ≡ None → cond b (Some disk) new ≡ Some pushed
    push_step true disk old new pushed rest e = cc
    push_step false disk old new pushed rest e = rest e

push_other : {D : Type 0} (name other : List ℕ) (slots : List (Slot D)) (s : Slot D) → s.name ≡ name → other ≢ name → slot_of (slots ++ s ∷ []) other ≡ slot_of slots other
push_other name other [] s named differ = rw (is_named-other other s (λ e. differ (sym e ∙ named))) refl
push_other {D} name other (x ∷ xs) s named differ =
    ap (λ (q : Option (Option D)). cond (is_named other x) (Some x.disk) q) (push_other name other xs s named differ)

pub ChangesOnly-push : {D : Type 0} (slots : List (Slot D)) (s : Slot D) → slot_of slots s.name ≡ None → ChangesOnly (slot_of slots) (slot_of (slots ++ s ∷ [])) s.name s.disk
ChangesOnly-push slots s none = record {
  changed = push_same s.name slots s refl none;
  others = λ other differ. push_other s.name other slots s refl differ;
}

-- ---- the place of a name

pub record IsPlaceOf {D : Type 0} (slots : List (Slot D)) (name : List ℕ) (k : ℕ) : Type 0 where
  pub named : (d : Slot D) → (get_or slots k d).name ≡ name
  pub found : (d : Slot D) → slot_of slots name ≡ Some (get_or slots k d).disk
  pub set : (s : Slot D) → s.name ≡ name → ChangesOnly (slot_of slots) (slot_of (set slots k s)) name s.disk

pub place_from_position : {D : Type 0} (name : List ℕ) (slots : List (Slot D)) (k : ℕ) → position (is_named name) slots ≡ Some k → IsPlaceOf slots name k
place_from_position name slots k e = record {
  named = λ d. name_from_is_named name (get_or slots k d) (position-Some (is_named name) slots k d e).1;
  found = λ d. let p = position-Some (is_named name) slots k d e in slot_of-at name slots k d p.0 p.1 p.2;
  set = λ s named. let p = position-Some (is_named name) slots k s e in record {
    changed = set_same name slots k s p.0 named p.2;
    others = λ other differ. set_other name other slots k s named p.1 differ;
  };
}

pub change_at : {D : Type 0} (slots : List (Slot D)) (name : List ℕ) (k : ℕ) (s : Slot D) (disk : Option D) → IsPlaceOf slots name k → s.name ≡ name → s.disk ≡ disk
    → ChangesOnly (slot_of slots) (slot_of (set slots k s)) name disk
change_at {D} slots name k s disk place named e = subst (λ (d : Option D). ChangesOnly (slot_of slots) (slot_of (set slots k s)) name d) e (place.set s named)

-- the disk in the slot that was found
pub disk_found : {D : Type 0} (slots : List (Slot D)) (name : List ℕ) (k : ℕ) (s : Slot D) → IsPlaceOf slots name k → s ≡ get_or slots k s → slot_of slots name ≡ Some s.disk
disk_found {D} slots name k s place is = place.found s ∙ ap (λ (t : Slot D). Some t.disk) (sym is)

pub name_found : {D : Type 0} (slots : List (Slot D)) (name : List ℕ) (k : ℕ) (s : Slot D) → IsPlaceOf slots name k → s ≡ get_or slots k s → s.name ≡ name
name_found {D} slots name k s place is = ap (λ (t : Slot D). t.name) is ∙ place.named s

none_or : {X P : Type 0} (o : Option X) → (o ≡ None → P) → (q : Option X) → o ≡ q → IfNone q P
none_or o holds None e = holds e
none_or o holds (Some x) e = tt

pub if_none : {X P : Type 0} (o : Option X) → (o ≡ None → P) → IfNone o P
if_none o holds = none_or o holds o refl

pub at_home-some : {D : Type 0} (under : Option (Option D)) (disk : D) → Some disk ≡ at_home under → under ≡ Some (Some disk)
at_home-some None disk e = cc
at_home-some (Some here) disk e = ap Some (sym e)

-- ---- the place of a home

pub home_place : {D : Type 0} (slots : List (Slot D)) (home : Option (List ℕ)) (name : List ℕ) (place : Option ℕ) → home ≡ Some name
    → place ≡ option_and_then (λ n. position (is_named n) slots) home → position (is_named name) slots ≡ place
home_place slots home name place e is =
    sym (is ∙ ap (λ (h : Option (List ℕ)). option_and_then (λ n. position (is_named n) slots) h) e)
