-- How the first children without a value follow what a brood takes in.
use Rattle.std.proofs.Common.{◌≡◌, ◌≢◌, ℕ, ◌+◌, ◌<◌, ◌≤◌, List, [], ◌∷◌, ◌++◌, length, get_or, set, Bool, false, cond, Some, None, refl, ap, sym, ◌∙◌, inl, inr, arith, lt-ltb, le-ltb}
use Rattle.std.proofs.lemmas.Bool.{cases_lt}
use Rattle.std.proofs.lemmas.List.{get_or-set_same, get_or-set_other, length-set}
use Rattle.std.proofs.lemmas.List.Folds.{position_or_len-set, position_or_len_push}
use Rattle.std.proofs.lemmas.List.Sums.{position_or_len_is, fails_before_first, passes_at_first}
use Rattle.std.specs.List.{position, position_or_len}
use Rattle.zio_types.specs.declared.request.ChildKind.{ChildKind}
use Rattle.zio_types.specs.declared.request.ChildKind.TheVariants.{Vdev, Gang, Logical}
use Rattle.zio_types.specs.declared.request.Phase.{Phase}
use Rattle.zio_types.specs.declared.request.Phase.TheVariants.{Ready, Done}
use Rattle.zio_types.specs.Machine.{is_count, same_kind}
use Rattle.std.proofs.Math.Bool.{and-false, and-true}
use Rattle.zio_counts.specs.declared.child.Child.{Child}
use Rattle.zio_counts.specs.declared.firsts.Firsts.{Firsts}
use Rattle.zio_counts.specs.Broods.{IsPassed, all_stepped, first_of, firsts_of, misses, new_child, stepped, with_first}

-- ---- the first that passes

-- a change behind the first that passes leaves it there
position_or_len-set_behind : {X : Type 0} (p : X → Bool) (xs : List X) (i : ℕ) (y : X) → position_or_len p xs < i → i < length xs →
    position_or_len p (set xs i y) ≡ position_or_len p xs
position_or_len-set_behind p xs i y before within =
    position_or_len_is p (set xs i y) (position_or_len p xs) y
    (omega (arith, before, within, length-set xs i y))
    (λ k lt. let apart : k ≢ i = omega (arith, lt, before) in ap p (get_or-set_other xs i k y y apart) ∙ fails_before_first p xs k y lt)
    (λ lt. let apart : position_or_len p xs ≢ i = omega (arith, before) in
    ap p (get_or-set_other xs i (position_or_len p xs) y y apart) ∙ passes_at_first p xs y (omega (arith, before, within)))

-- an element that is not the first to pass stops passing: the first stays
position_or_len-set_other : {X : Type 0} (p : X → Bool) (xs : List X) (i : ℕ) (y : X) → i < length xs → p y ≡ false →
    position_or_len p xs ≢ i → position_or_len p (set xs i y) ≡ position_or_len p xs
position_or_len-set_other p xs i y within fails other =
    elim (cases_lt i (position_or_len p xs)) [
      | inl lt ↦ position_or_len-set p xs i y y (fails ∙ sym (fails_before_first p xs i y lt))
      | inr le ↦ position_or_len-set_behind p xs i y (omega (arith, le, other)) within
    ]

position_or_len-none : {X : Type 0} (p : X → Bool) (xs : List X) (d : X) → ((x : X) → p x ≡ false) → position_or_len p xs ≡ length xs
position_or_len-none p xs d fails = position_or_len_is p xs (length xs) d (omega arith) (λ k lt. fails (get_or xs k d)) (λ lt. absurd (omega (arith, lt)))

first_of-firsts_of : {R V : Type 0} (kind : ChildKind) (phase : Phase) (children : List (Child R V)) →
    first_of kind phase (length children) (firsts_of children) ≡ position_or_len (misses kind phase) children
first_of-firsts_of Vdev Ready children =
    sym (position_or_len-none (misses Vdev Ready) children (new_child Vdev 0) (λ child. and-false (same_kind child.kind Vdev)))
first_of-firsts_of Vdev Done children = refl
first_of-firsts_of Gang Ready children = refl
first_of-firsts_of Gang Done children = refl
first_of-firsts_of Logical Ready children = refl
first_of-firsts_of Logical Done children = refl

-- the first that is kept is the first without a value
pub kept_first : {R V : Type 0} (kind : ChildKind) (phase : Phase) (children : List (Child R V)) (firsts : Firsts) (count at : ℕ) →
    firsts ≡ firsts_of children → count ≡ length children → at ≡ first_of kind phase count firsts →
    at ≡ position_or_len (misses kind phase) children
kept_first kind phase children firsts count at kept all e =
    e ∙ (ap (λ n. first_of kind phase n firsts) all ∙ (ap (first_of kind phase (length children)) kept ∙ first_of-firsts_of kind phase children))

pub position-at : {X : Type 0} (p : X → Bool) (xs : List X) (i : ℕ) → i ≡ position_or_len p xs → i < length xs → position p xs ≡ Some i
position-at p xs i e lt =
    ap (λ b. cond b (Some (position_or_len p xs)) None) (lt-ltb (position_or_len p xs) (length xs) (omega (arith, e, lt))) ∙ ap Some (sym e)

pub position-none : {X : Type 0} (p : X → Bool) (xs : List X) (i : ℕ) → i ≡ position_or_len p xs → length xs ≤ i → position p xs ≡ None
position-none p xs i e le =
    ap (λ b. cond b (Some (position_or_len p xs)) None) (le-ltb (position_or_len p xs) (length xs) (omega (arith, e, le)))

-- ---- a value that comes in

length-passed : {R V : Type 0} {kind : ChildKind} {phase : Phase} {at : ℕ} {firsts : Firsts} {children : List (Child R V)} →
    (p : IsPassed kind phase at firsts children) → length children ≡ length p.before
length-passed {at = at} p = ap length p.now ∙ length-set p.before at p.child

-- the first before the value came
first_before : {R V : Type 0} (kind : ChildKind) (phase : Phase) (at : ℕ) (firsts : Firsts) (children : List (Child R V)) →
    (p : IsPassed kind phase at firsts children) → first_of kind phase (length children) firsts ≡ position_or_len (misses kind phase) p.before
first_before kind phase at firsts children p =
    kept_first kind phase p.before firsts (length children) (first_of kind phase (length children) firsts) p.was (length-passed p) refl

none_before_set : {X : Type 0} (test : X → Bool) (xs : List X) (at : ℕ) (y : X) → at < length xs → test y ≡ false → at ≡ position_or_len test xs →
    (k : ℕ) (d : X) → k < at + 1 → test (get_or (set xs at y) k d) ≡ false
none_before_set test xs at y within got e k d lt =
    elim (cases_lt k at) [
      | inl less ↦ let apart : k ≢ at = omega (arith, less) in
          ap test (get_or-set_other xs at k y d apart) ∙ fails_before_first test xs k d (omega (arith, less, e))
      | inr le ↦ let same : k ≡ at = omega (arith, le, lt) in
          ap (λ i. test (get_or (set xs at y) i d)) same ∙ (ap test (get_or-set_same xs at y d within) ∙ got)
    ]

pub none_before : {R V : Type 0} (kind : ChildKind) (phase : Phase) (at : ℕ) (firsts : Firsts) (children : List (Child R V)) →
    IsPassed kind phase at firsts children → first_of kind phase (length children) firsts ≡ at →
    (k : ℕ) (d : Child R V) → k < at + 1 → misses kind phase (get_or children k d) ≡ false
none_before kind phase at firsts children p e k d lt =
    ap (λ cs. misses kind phase (get_or cs k d)) p.now
    ∙ none_before_set (misses kind phase) p.before at p.child p.within p.got (sym e ∙ first_before kind phase at firsts children p) k d lt

same_firsts : {a b c d e a' b' c' d' e' : ℕ} → a ≡ a' → b ≡ b' → c ≡ c' → d ≡ d' → e ≡ e' →
    ◌≡◌ {A = Firsts} (record { vdev_done = a; gang_ready = b; gang_done = c; logical_ready = d; logical_done = e })
    (record { vdev_done = a'; gang_ready = b'; gang_done = c'; logical_ready = d'; logical_done = e' })
same_firsts ea eb ec ed ee = cc

-- the other firsts stay
kept_other : {R V : Type 0} (kind : ChildKind) (phase : Phase) (at : ℕ) (firsts : Firsts) (children : List (Child R V)) →
    (p : IsPassed kind phase at firsts children) → (other : ChildKind) (mark : Phase) →
    is_count kind phase (record { kind = other; phase = mark }) ≡ false →
    position_or_len (misses other mark) p.before ≡ position_or_len (misses other mark) children
kept_other kind phase at firsts children p other mark e =
    sym (ap (position_or_len (misses other mark)) p.now
    ∙ position_or_len-set (misses other mark) p.before at p.child p.child (p.others other mark e))

pub firsts_after : {R V : Type 0} (kind : ChildKind) (phase : Phase) (at first : ℕ) (firsts : Firsts) (children : List (Child R V)) →
    IsPassed kind phase at firsts children → first ≡ position_or_len (misses kind phase) children →
    with_first kind phase first firsts ≡ firsts_of children
firsts_after Vdev Ready at first firsts children p e =
    let keep = kept_other Vdev Ready at firsts children p in
    p.was ∙ same_firsts (keep Vdev Done refl) (keep Gang Ready refl) (keep Gang Done refl) (keep Logical Ready refl) (keep Logical Done refl)
firsts_after Vdev Done at first firsts children p e =
    let keep = kept_other Vdev Done at firsts children p in
    ap (with_first Vdev Done first) p.was
    ∙ same_firsts e (keep Gang Ready refl) (keep Gang Done refl) (keep Logical Ready refl) (keep Logical Done refl)
firsts_after Gang Ready at first firsts children p e =
    let keep = kept_other Gang Ready at firsts children p in
    ap (with_first Gang Ready first) p.was
    ∙ same_firsts (keep Vdev Done refl) e (keep Gang Done refl) (keep Logical Ready refl) (keep Logical Done refl)
firsts_after Gang Done at first firsts children p e =
    let keep = kept_other Gang Done at firsts children p in
    ap (with_first Gang Done first) p.was
    ∙ same_firsts (keep Vdev Done refl) (keep Gang Ready refl) e (keep Logical Ready refl) (keep Logical Done refl)
firsts_after Logical Ready at first firsts children p e =
    let keep = kept_other Logical Ready at firsts children p in
    ap (with_first Logical Ready first) p.was
    ∙ same_firsts (keep Vdev Done refl) (keep Gang Ready refl) (keep Gang Done refl) e (keep Logical Done refl)
firsts_after Logical Done at first firsts children p e =
    let keep = kept_other Logical Done at firsts children p in
    ap (with_first Logical Done first) p.was
    ∙ same_firsts (keep Vdev Done refl) (keep Gang Ready refl) (keep Gang Done refl) (keep Logical Ready refl) e

with_first-same : (kind : ChildKind) (phase : Phase) (count : ℕ) (firsts : Firsts) →
    with_first kind phase (first_of kind phase count firsts) firsts ≡ firsts
with_first-same Vdev Ready count firsts = refl
with_first-same Vdev Done count firsts = refl
with_first-same Gang Ready count firsts = refl
with_first-same Gang Done count firsts = refl
with_first-same Logical Ready count firsts = refl
with_first-same Logical Done count firsts = refl

-- a value of another child than the first leaves all
pub firsts_stay : {R V : Type 0} (kind : ChildKind) (phase : Phase) (at : ℕ) (firsts : Firsts) (children : List (Child R V)) →
    IsPassed kind phase at firsts children → first_of kind phase (length children) firsts ≢ at → firsts ≡ firsts_of children
firsts_stay kind phase at firsts children p other =
    let was = first_before kind phase at firsts children p in
    let apart : position_or_len (misses kind phase) p.before ≢ at = λ e. other (was ∙ e) in
    let stays : first_of kind phase (length children) firsts ≡ position_or_len (misses kind phase) children =
    was ∙ sym (ap (position_or_len (misses kind phase)) p.now
    ∙ position_or_len-set_other (misses kind phase) p.before at p.child p.within p.got apart) in
    sym (with_first-same kind phase (length children) firsts)
    ∙ firsts_after kind phase at (first_of kind phase (length children) firsts) firsts children p stays

-- ---- a child that is added

stepped-push : {X : Type 0} (p : X → Bool) (xs : List X) (y : X) (fails : Bool) (count first : ℕ) →
    fails ≡ p y → count ≡ length xs → first ≡ position_or_len p xs →
    stepped fails count first ≡ position_or_len p (xs ++ y ∷ [])
stepped-push p xs y fails count first ef ec e =
    ap (λ b. stepped b count first) ef ∙ (ap (λ n. stepped (p y) n first) ec
    ∙ (ap (stepped (p y) (length xs)) e ∙ sym (position_or_len_push p xs y)))

firsts_of-push : {R V : Type 0} (kind : ChildKind) (label : ℕ) (children : List (Child R V)) (firsts : Firsts) (count : ℕ) →
    firsts ≡ firsts_of children → count ≡ length children →
    all_stepped kind count firsts ≡ firsts_of (children ++ new_child kind label ∷ [])
firsts_of-push {R} {V} kind label children firsts count e all =
    let child : Child R V = new_child kind label in
    same_firsts
    (stepped-push (misses Vdev Done) children child (same_kind kind Vdev) count firsts.vdev_done (sym (and-true (same_kind kind Vdev))) all (ap (λ f. f.vdev_done) e))
    (stepped-push (misses Gang Ready) children child (same_kind kind Gang) count firsts.gang_ready (sym (and-true (same_kind kind Gang))) all (ap (λ f. f.gang_ready) e))
    (stepped-push (misses Gang Done) children child (same_kind kind Gang) count firsts.gang_done (sym (and-true (same_kind kind Gang))) all (ap (λ f. f.gang_done) e))
    (stepped-push (misses Logical Ready) children child (same_kind kind Logical) count firsts.logical_ready (sym (and-true (same_kind kind Logical))) all (ap (λ f. f.logical_ready) e))
    (stepped-push (misses Logical Done) children child (same_kind kind Logical) count firsts.logical_done (sym (and-true (same_kind kind Logical))) all (ap (λ f. f.logical_done) e))

pub pushed_as : {X : Type 0} (xs ys : List X) (x y : X) → ys ≡ xs ++ x ∷ [] → x ≡ y → ys ≡ xs ++ y ∷ []
pushed_as xs ys x y e same = e ∙ ap (λ z. xs ++ z ∷ []) same

pub firsts_pushed : {R V : Type 0} (kind : ChildKind) (label : ℕ) (children pushed : List (Child R V)) (firsts after : Firsts) (count : ℕ) →
    pushed ≡ children ++ new_child kind label ∷ [] → firsts ≡ firsts_of children → count ≡ length children →
    after ≡ all_stepped kind count firsts → after ≡ firsts_of pushed
firsts_pushed kind label children pushed firsts after count p e all a =
    a ∙ (firsts_of-push kind label children firsts count e all ∙ ap firsts_of (sym p))
