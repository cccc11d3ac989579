-- Which of a node's children are missing.
use Rattle.std.proofs.Common.{◌≡◌, ℕ, suc, ◌+◌, List, [], ◌∷◌, length, Bool, true, false, ◌&&◌, ◌||◌, not, cond, Option, Some, None, is_some, ◌⊎◌, inl, inr, ltb, lt-ltb, le-ltb, refl, sym, ap, ◌∙◌, subst, arith}
use Rattle.std.proofs.lemmas.Bool.{cases_lt}
use Rattle.std.specs.List.{list_any, position, position_or_len}
use Rattle.zio_types.specs.declared.request.ChildKind.{ChildKind}
use Rattle.zio_types.specs.declared.request.ChildKind.TheVariants.{Vdev, Gang, Logical}
use Rattle.zio_types.specs.declared.request.Phase.{Phase}
use Rattle.zio_types.specs.declared.request.Phase.TheVariants.{Ready, Done}
use Rattle.zio_types.specs.Machine.{same_kind}
use Rattle.zio_counts.specs.Broods.{misses}
use Rattle.zio_counts.specs.declared.child.Child.{Child as Kept}
use Rattle.zio_frames.specs.Frames.{Child, needs_none}
use Rattle.zio_stages.specs.declared.family.Seat.{Seat}
use Rattle.zio_stages.specs.declared.family.Sitting.{Sitting}
use Rattle.zio_stages.specs.NodeChildren.{AllToldIfEnded, AreBeside, child_by, children_by, first_owing, is_awaited, is_owing, kind_or}
use Rattle.zio_stages.proofs.FamilyLemmas.{length_children}

-- ---- the first that is missing

owes_same : {R V : Type 0} (kind : ChildKind) (phase : Phase) (of : ChildKind) (ready : Option R) (done : Option V)
    (seat : Seat) (label : ℕ)
    → misses kind phase (record { kind = of; label = label; ready = ready; done = done }) ≡ is_owing kind phase
    (child_by (record { kind = of; label = label; ready = ready; done = done }) seat)
owes_same Vdev Ready Vdev ready end seat label = refl
owes_same Vdev Ready Gang ready end seat label = refl
owes_same Vdev Ready Logical ready end seat label = refl
owes_same Gang Ready Vdev ready end seat label = refl
owes_same Gang Ready Gang None end seat label = refl
owes_same Gang Ready Gang (Some r) end seat label = refl
owes_same Gang Ready Logical ready end seat label = refl
owes_same Logical Ready Vdev ready end seat label = refl
owes_same Logical Ready Gang ready end seat label = refl
owes_same Logical Ready Logical None end seat label = refl
owes_same Logical Ready Logical (Some r) end seat label = refl
owes_same kind Done of ready None seat label = refl
owes_same kind Done of ready (Some v) seat label = refl

any_same : {R V : Type 0} (kind : ChildKind) (phase : Phase) (cs : List (Kept R V)) (ss : List Sitting) → AreBeside cs ss
    → list_any (misses kind phase) cs ≡ list_any (is_owing kind phase) (children_by cs ss)
any_same kind phase [] [] h = refl
any_same kind phase [] (s ∷ ss) h = absurd h
any_same kind phase (c ∷ cs) [] h = absurd h
any_same kind phase (c ∷ cs) (s ∷ ss) h =
    ap (λ (b : Bool). b || list_any (misses kind phase) cs) (owes_same kind phase c.kind c.ready c.done s.seat c.label)
    ∙ ap (λ (b : Bool). is_owing kind phase (child_by c s.seat) || b) (any_same kind phase cs ss h.1)

some_if : (b : Bool) (n : ℕ) → is_some (cond b (Some n) None) ≡ b
some_if true n = refl
some_if false n = refl

one_more_lt : (k n : ℕ) → ltb (1 + k) (suc n) ≡ ltb k n
one_more_lt k n = elim (cases_lt k n) [
  | inl l ↦ lt-ltb (1 + k) (suc n) (omega (arith, l)) ∙ sym (lt-ltb k n l)
  | inr l ↦ le-ltb (1 + k) (suc n) (omega (arith, l)) ∙ sym (le-ltb k n l)
]

first_within : (b : Bool) (k n : ℕ) → ltb (cond (not b) (1 + k) 0) (suc n) ≡ b || ltb k n
first_within true k n = lt-ltb 0 (suc n) (omega arith)
first_within false k n = one_more_lt k n

within_any : {X : Type 0} (p : X → Bool) (xs : List X) → ltb (position_or_len p xs) (length xs) ≡ list_any p xs
within_any p [] = refl
within_any p (x ∷ xs) = first_within (p x) (position_or_len p xs) (length xs) ∙ ap (λ (b : Bool). p x || b) (within_any p xs)

-- one is missing where the list has one
pub missing_any : {R V : Type 0} (kind : ChildKind) (phase : Phase) (cs : List (Kept R V)) (ss : List Sitting)
    (seen : List Child) (first : Option ℕ) (b : Bool)
    → AreBeside cs ss → children_by cs ss ≡ seen
    → b ≡ is_some first → first ≡ position (misses kind phase) cs → b ≡ list_any (is_owing kind phase) seen
missing_any kind phase cs ss seen first b h es eb e =
    eb ∙ ap (λ (o : Option ℕ). is_some o) e
    ∙ some_if (ltb (position_or_len (misses kind phase) cs) (length cs)) (position_or_len (misses kind phase) cs)
    ∙ within_any (misses kind phase) cs ∙ any_same kind phase cs ss h ∙ ap (list_any (is_owing kind phase)) es

position_same : {R V : Type 0} (kind : ChildKind) (phase : Phase) (cs : List (Kept R V)) (ss : List Sitting) → AreBeside cs ss
    → position_or_len (misses kind phase) cs ≡ position_or_len (is_owing kind phase) (children_by cs ss)
position_same kind phase [] [] h = refl
position_same kind phase [] (s ∷ ss) h = absurd h
position_same kind phase (c ∷ cs) [] h = absurd h
position_same kind phase (c ∷ cs) (s ∷ ss) h =
    ap (λ (b : Bool). cond (not b) (1 + position_or_len (misses kind phase) cs) 0) (owes_same kind phase c.kind c.ready c.done s.seat c.label)
    ∙ ap (λ (n : ℕ). cond (not (is_owing kind phase (child_by c s.seat))) (1 + n) 0) (position_same kind phase cs ss h.1)

-- the first that is missing is the first in the list
pub missing_first : {R V : Type 0} (kind : ChildKind) (phase : Phase) (cs : List (Kept R V)) (ss : List Sitting)
    (seen : List Child) (first : Option ℕ)
    → AreBeside cs ss → children_by cs ss ≡ seen → first ≡ position (misses kind phase) cs → first ≡ position (is_owing kind phase) seen
missing_first kind phase cs ss seen first h es e =
    let at = position_or_len (is_owing kind phase) (children_by cs ss) in
    e ∙ ap (λ (k : ℕ). cond (ltb k (length cs)) (Some k) None) (position_same kind phase cs ss h)
    ∙ ap (λ (n : ℕ). cond (ltb at n) (Some at) None) (sym (length_children cs ss h)) ∙ ap (position (is_owing kind phase)) es

-- ---- one that is missing hasn't ended

still_on : (s told ended : Bool) → (ended ≡ true → told ≡ true) → s && not told ≡ true → (s && not told) && not ended ≡ true
still_on true false false h e = refl
still_on true false true h e = absurd (not_true (h refl))
  where
    not_true : false ≡ true → ⊥
    not_true e = cc
still_on true true ended h e = absurd (cc)
still_on false told ended h e = absurd (cc)

either_too : (b rest c more : Bool) → (b ≡ true → c ≡ true) → (rest ≡ true → more ≡ true) → b || rest ≡ true → c || more ≡ true
either_too true rest c more first second e = ap (λ (x : Bool). x || more) (first refl)
either_too false rest true more first second e = refl
either_too false rest false more first second e = second e

pub awaited_any : {R V : Type 0} (kind : ChildKind) (phase : Phase) (cs : List (Kept R V)) (ss : List Sitting) → AllToldIfEnded cs
    → list_any (is_owing kind phase) (children_by cs ss) ≡ true → list_any (is_awaited kind phase) (children_by cs ss) ≡ true
awaited_any kind phase [] ss h e = absurd (cc)
awaited_any kind phase (c ∷ cs) [] h e = absurd (cc)
awaited_any kind phase (c ∷ cs) (s ∷ ss) h e =
    either_too (is_owing kind phase (child_by c s.seat)) (list_any (is_owing kind phase) (children_by cs ss)) (is_awaited kind phase (child_by c s.seat))
    (list_any (is_awaited kind phase) (children_by cs ss)) (one phase) (awaited_any kind phase cs ss h.1) e
  where
    one : (p : Phase) → is_owing kind p (child_by c s.seat) ≡ true → is_awaited kind p (child_by c s.seat) ≡ true
    one Ready e = still_on (same_kind c.kind kind) (needs_none c.kind || is_some c.ready) (is_some c.done) h.0 e
    one Done e = e

-- ---- what a missing child says

if_none : (kind : ChildKind) (b : Bool) (others : Option ChildKind) → cond b (Some kind) others ≡ None
    → (b ≡ false) × (others ≡ None)
if_none kind true others e = absurd (cc)
if_none kind false others e = (refl, e)

and_none : (a b : Bool) → a && b ≡ false → a ≡ true → b ≡ false
and_none true b e t = e
and_none false b e t = absurd (cc)

-- where none of these kinds is missing, each child of them told, or ended
pub none_owing : (kinds : List ChildKind) (phase : Phase) (cs : List Child) (kind : ChildKind)
    → first_owing kinds phase cs ≡ None → list_any (same_kind kind) kinds ≡ true → list_any (is_owing kind phase) cs ≡ false
none_owing kinds phase cs kind e there = by_kind kind there
  where
    vdev : (list_any (same_kind Vdev) kinds && list_any (is_owing Vdev phase) cs ≡ false)
        × (kind_or Gang kinds phase cs (kind_or Logical kinds phase cs None) ≡ None)
    vdev = if_none Vdev (list_any (same_kind Vdev) kinds && list_any (is_owing Vdev phase) cs)
        (kind_or Gang kinds phase cs (kind_or Logical kinds phase cs None)) e

    gang : (list_any (same_kind Gang) kinds && list_any (is_owing Gang phase) cs ≡ false) × (kind_or Logical kinds phase cs None ≡ None)
    gang = if_none Gang (list_any (same_kind Gang) kinds && list_any (is_owing Gang phase) cs) (kind_or Logical kinds phase cs None) vdev.1

    logical : (list_any (same_kind Logical) kinds && list_any (is_owing Logical phase) cs ≡ false) × (◌≡◌ {A = Option ChildKind} None None)
    logical = if_none Logical (list_any (same_kind Logical) kinds && list_any (is_owing Logical phase) cs) None gang.1

    by_kind : (k : ChildKind) → list_any (same_kind k) kinds ≡ true → list_any (is_owing k phase) cs ≡ false
    by_kind Vdev t = and_none (list_any (same_kind Vdev) kinds) (list_any (is_owing Vdev phase) cs) vdev.0 t
    by_kind Gang t = and_none (list_any (same_kind Gang) kinds) (list_any (is_owing Gang phase) cs) gang.0 t
    by_kind Logical t = and_none (list_any (same_kind Logical) kinds) (list_any (is_owing Logical phase) cs) logical.0 t

if_some : (kind found : ChildKind) (b : Bool) (others : Option ChildKind) → cond b (Some kind) others ≡ Some found
    → ((b ≡ true) × (kind ≡ found)) ⊎ (others ≡ Some found)
if_some kind found true others e = inl (refl, cc)
if_some kind found false others e = inr e

and_both : (a b : Bool) → a && b ≡ true → (a ≡ true) × (b ≡ true)
and_both true b e = (refl, e)
and_both false b e = absurd (cc)

-- and where one is, there is a child of the kind that hasn't
pub some_owing : (kinds : List ChildKind) (phase : Phase) (cs : List Child) (kind : ChildKind)
    → first_owing kinds phase cs ≡ Some kind
    → (list_any (same_kind kind) kinds ≡ true) × (list_any (is_owing kind phase) cs ≡ true)
some_owing kinds phase cs kind e =
    vdev (if_some Vdev kind (test Vdev) (kind_or Gang kinds phase cs (kind_or Logical kinds phase cs None)) e)
  where
    test : ChildKind → Bool
    test k = list_any (same_kind k) kinds && list_any (is_owing k phase) cs

    Has : ChildKind → Type 0
    Has k = (list_any (same_kind k) kinds ≡ true) × (list_any (is_owing k phase) cs ≡ true)

    both : (k : ChildKind) → (test k ≡ true) × (k ≡ kind) → Has kind
    both k h = subst Has h.1 (and_both (list_any (same_kind k) kinds) (list_any (is_owing k phase) cs) h.0)

    logical : ((test Logical ≡ true) × (Logical ≡ kind)) ⊎ (◌≡◌ {A = Option ChildKind} None (Some kind)) → Has kind
    logical (inl h) = both Logical h
    logical (inr n) = absurd (cc)

    gang : ((test Gang ≡ true) × (Gang ≡ kind)) ⊎ (kind_or Logical kinds phase cs None ≡ Some kind) → Has kind
    gang (inl h) = both Gang h
    gang (inr n) = logical (if_some Logical kind (test Logical) None n)

    vdev : ((test Vdev ≡ true) × (Vdev ≡ kind)) ⊎ (kind_or Gang kinds phase cs (kind_or Logical kinds phase cs None) ≡ Some kind) → Has kind
    vdev (inl h) = both Vdev h
    vdev (inr n) = gang (if_some Gang kind (test Gang) (kind_or Logical kinds phase cs None) n)
