-- What a node waits for, once a child of it told its pointer or ended.
use Rattle.std.proofs.Common.{◌≡◌, ◌≢◌, ℕ, zero, suc, ◌+◌, ◌-◌, slice_get, Bool, true, false, ◌&&◌, ◌==◌, Option, Some, None, cond, refl, sym, ap, ◌∙◌, subst, arith, not, List}
use Rattle.std.specs.List.{list_any}
use Rattle.zio_types.specs.declared.error.Errno.{Errno}
use Rattle.zio_types.specs.declared.request.Bits.{Bits}
use Rattle.zio_types.specs.declared.request.ChildKind.{ChildKind}
use Rattle.zio_types.specs.declared.request.ChildKind.TheVariants.{Vdev, Gang, Logical}
use Rattle.zio_types.specs.declared.request.Phase.{Phase}
use Rattle.zio_types.specs.declared.request.Phase.TheVariants.{Ready, Done}
use Rattle.zio_types.specs.Machine.{Count, first_if, is_count, is_stall, same_kind, same_phase}
use Rattle.zio_counts.specs.Tallies.{Tally, counted, counted_or, first_counted, is_last, notified}
use Rattle.zio_trace.specs.Keys.{bit}
use Rattle.zio_trace.specs.Leaves.{LeafOp}
use Rattle.zio_trace.specs.Tasks.{Leaf}
use Rattle.zio_frames.specs.Frames.{Child, Stack, fresh_stack}
use Rattle.zio_turns.specs.Engine.{Rests, Queued, AtLeaf, Stalls}
use Rattle.zio_staged.specs.Entries.{Held, with_both}
use Rattle.zio_turns.proofs.Counts.{counted_notified, less_if, same_count, stall_notified}

kind_is : (a b : ChildKind) → same_kind a b ≡ true → a ≡ b
kind_is Vdev Vdev h = refl
kind_is Vdev Gang h = absurd (cc)
kind_is Vdev Logical h = absurd (cc)
kind_is Gang Vdev h = absurd (cc)
kind_is Gang Gang h = refl
kind_is Gang Logical h = absurd (cc)
kind_is Logical Vdev h = absurd (cc)
kind_is Logical Gang h = absurd (cc)
kind_is Logical Logical h = refl

phase_is : (a b : Phase) → same_phase a b ≡ true → a ≡ b
phase_is Ready Ready h = refl
phase_is Ready Done h = absurd (cc)
phase_is Done Ready h = absurd (cc)
phase_is Done Done h = refl

count_itself : (kind : ChildKind) (phase : Phase) → is_count kind phase (record { kind = kind; phase = phase }) ≡ true
count_itself Vdev Ready = refl
count_itself Vdev Done = refl
count_itself Gang Ready = refl
count_itself Gang Done = refl
count_itself Logical Ready = refl
count_itself Logical Done = refl

count_is : (kind own : ChildKind) (phase mark : Phase) → same_count kind phase own mark ≡ true → (own ≡ kind) × (mark ≡ phase)
count_is kind own phase mark h = by (same_kind own kind) refl h
  where
    by : (b : Bool) → same_kind own kind ≡ b → cond b (same_phase mark phase) false ≡ true → (own ≡ kind) × (mark ≡ phase)
    by true e h = (kind_is own kind e, phase_is mark phase h)
    by false e h = absurd (cc)

one_is_last : (b : Bool) (n : ℕ) → b ≡ true → (b && (n == 1)) ≡ false → n ≡ 1 → ⊥
one_is_last b n e f is =
    let a : (true && (1 == 1)) ≡ false = subst (λ m. (true && (m == 1)) ≡ false) is
    (subst (λ c. (c && (n == 1)) ≡ false) e f) in
    cc

one_less : (n : ℕ) → n ≢ 0 → (n ≡ 1 → ⊥) → n - 1 ≢ 0
one_less n a b z = by n a b z
  where
    by : (n : ℕ) → n ≢ 0 → (n ≡ 1 → ⊥) → n - 1 ≢ 0
    by zero a b z = a refl
    by (suc zero) a b z = b refl
    by (suc (suc n)) a b z = absurd (omega arith)

-- it stalls on this count still, unless it was notified of the last
still_counted : (own : ChildKind) (mark : Phase) (error : Option Errno) (bits : Bits) (x : Tally) (count : Count)
    → x.stall ≡ Some count → counted count.kind count.phase x ≢ 0 → counted own mark x ≢ 0 → is_last own mark x ≡ false
    → counted count.kind count.phase (notified own mark error bits x) ≢ 0
still_counted own mark error bits x count stalls more owed last =
    by (same_count count.kind count.phase own mark) refl (counted_notified count.kind count.phase mark own error bits x)
  where
    here : (own ≡ count.kind) × (mark ≡ count.phase) → is_stall own mark x.stall ≡ true
    here h =
        let itself : is_count own mark (record { kind = own; phase = mark }) ≡ true = count_itself own mark in
        ap (is_stall own mark) stalls
        ∙ (λ i. is_count own mark (record { kind = sym h.0 i; phase = sym h.1 i })) ∙ itself

    by : (b : Bool) → same_count count.kind count.phase own mark ≡ b
        → counted count.kind count.phase (notified own mark error bits x) ≡ less_if b (counted count.kind count.phase x)
        → counted count.kind count.phase (notified own mark error bits x) ≢ 0
    by false e f z = more (sym f ∙ z)
    by true e f z =
        let h : (own ≡ count.kind) × (mark ≡ count.phase) = count_is count.kind own count.phase mark e in
        let same : counted own mark x ≡ counted count.kind count.phase x = λ i. counted (h.0 i) (h.1 i) x in
        one_less (counted count.kind count.phase x) more
        (λ one. one_is_last (is_stall own mark x.stall) (counted own mark x) (here h) last (same ∙ one)) (sym f ∙ z)

not_last : (own : ChildKind) (mark : Phase) (x : Tally) → x.stall ≡ None → is_last own mark x ≡ false
not_last own mark x e = ap (λ (s : Option Count). is_stall own mark s && (counted own mark x == 1)) e

no_child : (act : LeafOp) (st : Stack) (n : ℕ) (c : Child) → st ≡ fresh_stack (Leaf act) → slice_get st.children n ≡ Some c → ⊥
no_child act st n c e is =
    let none : None ≡ Some c = sym (ap (λ (s : Stack). slice_get s.children n) e) ∙ is in
    cc

-- a child of the node told or ended: it is queued once more where that was the last for which it stalled
pub rests_notified : {N : Type 0} (due : N → Type 0) (queued later at_leaf : ℕ) (st other : Stack) (h : Held N) (node : N) (own : ChildKind)
    (mark : Phase)
    (error : Option Errno) (bits : Bits) (n : ℕ) (c : Child) → slice_get st.children n ≡ Some c → counted own mark h.tally ≢ 0
    → later ≡ queued + bit (is_last own mark h.tally) → (due h.node → due node) → Rests {N = N} due queued at_leaf st h
    → Rests {N = N} due later at_leaf other (with_both {N = N} h node (notified own mark error bits h.tally))
rests_notified {N} due queued later at_leaf st other h node own mark error bits n c is owed more still (Queued q e none d) =
    let b : is_last own mark h.tally ≡ false = not_last own mark h.tally none in
    let f : bit (is_last own mark h.tally) ≡ 0 = ap bit b in
    Queued (omega arith) e (stall_notified mark own error bits h.tally ∙ ap (λ (x : Bool). cond x None h.tally.stall) b ∙ none) (still d)
rests_notified {N} due queued later at_leaf st other h node own mark error bits n c is owed more still (AtLeaf act q e none fresh) =
    absurd (no_child act st n c fresh is)
rests_notified {N} due queued later at_leaf st other h node own mark error bits n c is owed more still
    (Stalls count q e stalls counts d) =
    by (is_last own mark h.tally) refl more
  where
    by : (b : Bool) → is_last own mark h.tally ≡ b → later ≡ queued + bit b
        → Rests {N = N} due later at_leaf other (with_both {N = N} h node (notified own mark error bits h.tally))
    by true l more =
        Queued (omega arith) e (stall_notified mark own error bits h.tally ∙ ap (λ (x : Bool). cond x None h.tally.stall) l) (still d)
    by false l more =
        Stalls count (omega arith) e
        (stall_notified mark own error bits h.tally ∙ ap (λ (x : Bool). cond x None h.tally.stall) l ∙ stalls)
        (still_counted own mark error bits h.tally count stalls counts owed l) (still d)

-- ---- the first count that isn't 0

first_of_two : (kind : ChildKind) (kinds : List ChildKind) (phase : Phase) (x : Tally) (others : Option Count) (count : Count)
    → (others ≡ Some count → counted count.kind count.phase x ≢ 0) → counted_or kind kinds phase x others ≡ Some count
    → counted count.kind count.phase x ≢ 0
first_of_two kind kinds phase x others count later e = by (list_any (same_kind kind) kinds) (counted kind phase x == 0) refl e
  where
    by : (b z : Bool) → (counted kind phase x == 0) ≡ z
        → first_if (b && not z) (record { kind = kind; phase = phase }) others ≡ Some count
        → counted count.kind count.phase x ≢ 0
    by true false f e = λ none.
        let is : record { kind = kind; phase = phase } ≡ count = cc in
        let zero_there : counted kind phase x ≡ 0 = ap (λ (c : Count). counted c.kind c.phase x) is ∙ none in
        let same : (0 == 0) ≡ false = subst (λ n. (n == 0) ≡ false) zero_there f in
        cc
    by true true f e = later e
    by false true f e = later e
    by false false f e = later e

pub first_counts : (kinds : List ChildKind) (phase : Phase) (x : Tally) (count : Count)
    → first_counted kinds phase x ≡ Some count
    → counted count.kind count.phase x ≢ 0
first_counts kinds phase x count e =
    first_of_two Vdev kinds phase x (counted_or Gang kinds phase x (counted_or Logical kinds phase x None)) count
    (first_of_two Gang kinds phase x (counted_or Logical kinds phase x None) count
    (first_of_two Logical kinds phase x None count (λ f. absurd (clash f)))) e
  where
    clash : None ≡ Some count → ⊥
    clash f = cc
