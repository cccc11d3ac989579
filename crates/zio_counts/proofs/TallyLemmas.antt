-- What an event leaves of a machine's tally.
use Rattle.std.proofs.Common.{◌≡◌, ℕ, zero, suc, ◌*◌, ◌+◌, ◌-◌, ◌<◌, List, ◌++◌, ◌∷◌, [], Bool, true, false, ◌&&◌, not, ◌==◌, IsTrue, Option, Some, None, refl, ap, ◌∙◌, arith}
use Rattle.std.proofs.lemmas.Bool.{false≢true}
use Rattle.std.specs.List.{list_any}
use Rattle.zio_types.specs.declared.error.Errno.{Errno}
use Rattle.zio_types.specs.declared.request.Bits.{Bits}
use Rattle.zio_types.specs.declared.request.ChildKind.{ChildKind}
use Rattle.zio_types.specs.declared.request.ChildKind.TheVariants.{Vdev, Gang, Logical}
use Rattle.zio_types.specs.declared.request.Phase.{Phase}
use Rattle.zio_types.specs.declared.request.Phase.TheVariants.{Ready, Done}
use Rattle.zio_types.specs.Bits.{has_bits, joined_bits}
use Rattle.zio_types.specs.Machine.{Added, Child, Count, Machine, PerKind, after, after_wait, count_of, count_or, error_unless, first_count, first_if, happened, joined_errors, may_happen, new_child, one_if, owes, owes_at, same_kind, stalled_unless, waited_on, wakes, woken_if}
use Rattle.zio_types.proofs.MachineLemmas.{count_of-append, count_of-marked_at, count_of-marked_other, count_of-new_child, is_over-marked_at}
use Rattle.zio_counts.specs.Tallies.{Shows, Tally, cleared_if, count_end, counted, event_of, first_counted, is_last, joined, lowered, notified, raised, stalled, tally_of}

-- a tally of these counts
abbrev tallied : (stall : Option Count) (errors : PerKind (Option Errno)) (bits : Bits) → ℕ → ℕ → ℕ → ℕ → ℕ → Tally
tallied stall errors bits a b c d e = record {
  vdev_done = a;
  gang_ready = b;
  gang_done = c;
  logical_ready = d;
  logical_done = e;
  stall = stall;
  errors = errors;
  bits = bits;
}

same_counts : (stall : Option Count) (errors : PerKind (Option Errno)) (bits : Bits) {a b c d e a' b' c' d' e' : ℕ} →
    a ≡ a' → b ≡ b' → c ≡ c' → d ≡ d' → e ≡ e' → tallied stall errors bits a b c d e ≡ tallied stall errors bits a' b' c' d' e'
same_counts stall errors bits ea eb ec ed ee = cc

pub tally_of-added : (kind : ChildKind) (m : Machine) → count_of kind Ready m.children < count_end →
    tally_of (after (Added kind) m) ≡ raised kind (tally_of m)
tally_of-added Vdev m room =
    same_counts m.stall m.errors m.bits
    (count_of-new_child Vdev Vdev Done m.children)
    (omega (arith, count_of-new_child Vdev Gang Ready m.children))
    (omega (arith, count_of-new_child Vdev Gang Done m.children))
    (omega (arith, count_of-new_child Vdev Logical Ready m.children))
    (omega (arith, count_of-new_child Vdev Logical Done m.children))
tally_of-added Gang m room =
    same_counts m.stall m.errors m.bits
    (omega (arith, count_of-new_child Gang Vdev Done m.children))
    (omega (arith, room, count_of-new_child Gang Gang Ready m.children))
    (count_of-new_child Gang Gang Done m.children)
    (omega (arith, count_of-new_child Gang Logical Ready m.children))
    (omega (arith, count_of-new_child Gang Logical Done m.children))
tally_of-added Logical m room =
    same_counts m.stall m.errors m.bits
    (omega (arith, count_of-new_child Logical Vdev Done m.children))
    (omega (arith, count_of-new_child Logical Gang Ready m.children))
    (omega (arith, count_of-new_child Logical Gang Done m.children))
    (omega (arith, room, count_of-new_child Logical Logical Ready m.children))
    (count_of-new_child Logical Logical Done m.children)

vdevs-added : (kind : ChildKind) (m : Machine) → count_of Vdev Ready m.children ≡ 0 →
    count_of Vdev Ready (m.children ++ new_child kind ∷ []) ≡ 0
vdevs-added Vdev m none = omega (arith, none, count_of-new_child Vdev Vdev Ready m.children)
vdevs-added Gang m none = omega (arith, none, count_of-new_child Gang Vdev Ready m.children)
vdevs-added Logical m none = omega (arith, none, count_of-new_child Logical Vdev Ready m.children)

pub Shows-raised : (kind : ChildKind) (t : Tally) (m : Machine) → Shows t m → count_of kind Ready m.children < count_end →
    Shows (raised kind t) (after (Added kind) m)
Shows-raised kind t m s room = record {
  tally = tally_of-added kind m room ∙ ap (raised kind) s.tally;
  vdevs = vdevs-added kind m s.vdevs;
}

-- ---- a child that became ready or done

-- one less
less : (a b : ℕ) → a ≡ b + 1 → b ≡ a - 1
less a b e = omega (arith, e)

no_ready_vdev : {X : Type 0} (n : ℕ) (m : Machine) → count_of Vdev Ready m.children ≡ 0 → IsTrue (owes_at Vdev Ready n m.children) → X
no_ready_vdev n m none h = absurd (omega (arith, none, count_of-marked_at Vdev Ready n m.children h))

tally_of-happened : (kind : ChildKind) (phase : Phase) (n : ℕ) (error : Option Errno) (bits : Bits) (m : Machine) →
    count_of Vdev Ready m.children ≡ 0 → IsTrue (owes_at kind phase n m.children) →
    tally_of (happened (event_of kind phase n error bits) m) ≡ joined phase kind error bits (lowered kind phase (tally_of m))
tally_of-happened Vdev Ready n error bits m none h = no_ready_vdev n m none h
tally_of-happened Vdev Done n error bits m none h =
    let keeps = count_of-marked_other Vdev Done n m.children h in
    same_counts m.stall (joined_errors Vdev (error_unless (has_bits bits) error) m.errors) (joined_bits m.bits bits)
    (less _ _ (count_of-marked_at Vdev Done n m.children h)) (keeps Gang Ready refl) (keeps Gang Done refl) (keeps Logical Ready refl) (keeps Logical Done refl)
tally_of-happened Gang Ready n error bits m none h =
    let keeps = count_of-marked_other Gang Ready n m.children h in
    same_counts m.stall m.errors m.bits
    (keeps Vdev Done refl) (less _ _ (count_of-marked_at Gang Ready n m.children h)) (keeps Gang Done refl) (keeps Logical Ready refl) (keeps Logical Done refl)
tally_of-happened Gang Done n error bits m none h =
    let keeps = count_of-marked_other Gang Done n m.children h in
    same_counts m.stall (joined_errors Gang (error_unless (has_bits bits) error) m.errors) (joined_bits m.bits bits)
    (keeps Vdev Done refl) (keeps Gang Ready refl) (less _ _ (count_of-marked_at Gang Done n m.children h)) (keeps Logical Ready refl) (keeps Logical Done refl)
tally_of-happened Logical Ready n error bits m none h =
    let keeps = count_of-marked_other Logical Ready n m.children h in
    same_counts m.stall m.errors m.bits
    (keeps Vdev Done refl) (keeps Gang Ready refl) (keeps Gang Done refl) (less _ _ (count_of-marked_at Logical Ready n m.children h)) (keeps Logical Done refl)
tally_of-happened Logical Done n error bits m none h =
    let keeps = count_of-marked_other Logical Done n m.children h in
    same_counts m.stall (joined_errors Logical (error_unless (has_bits bits) error) m.errors) (joined_bits m.bits bits)
    (keeps Vdev Done refl) (keeps Gang Ready refl) (keeps Gang Done refl) (keeps Logical Ready refl) (less _ _ (count_of-marked_at Logical Done n m.children h))

wakes-is_last : (kind : ChildKind) (phase : Phase) (n : ℕ) (error : Option Errno) (bits : Bits) (m : Machine) →
    count_of Vdev Ready m.children ≡ 0 → IsTrue (owes_at kind phase n m.children) →
    wakes (event_of kind phase n error bits) m ≡ is_last kind phase (tally_of m)
wakes-is_last Vdev Ready n error bits m none h = no_ready_vdev n m none h
wakes-is_last Vdev Done n error bits m none h = is_over-marked_at Vdev Done n m.children m.stall h
wakes-is_last Gang Ready n error bits m none h = is_over-marked_at Gang Ready n m.children m.stall h
wakes-is_last Gang Done n error bits m none h = is_over-marked_at Gang Done n m.children m.stall h
wakes-is_last Logical Ready n error bits m none h = is_over-marked_at Logical Ready n m.children m.stall h
wakes-is_last Logical Done n error bits m none h = is_over-marked_at Logical Done n m.children m.stall h

vdevs-happened : (kind : ChildKind) (phase : Phase) (n : ℕ) (error : Option Errno) (bits : Bits) (m : Machine) →
    count_of Vdev Ready m.children ≡ 0 → IsTrue (owes_at kind phase n m.children) →
    count_of Vdev Ready (happened (event_of kind phase n error bits) m).children ≡ 0
vdevs-happened Vdev Ready n error bits m none h = no_ready_vdev n m none h
vdevs-happened Vdev Done n error bits m none h = count_of-marked_other Vdev Done n m.children h Vdev Ready refl ∙ none
vdevs-happened Gang Ready n error bits m none h = count_of-marked_other Gang Ready n m.children h Vdev Ready refl ∙ none
vdevs-happened Gang Done n error bits m none h = count_of-marked_other Gang Done n m.children h Vdev Ready refl ∙ none
vdevs-happened Logical Ready n error bits m none h = count_of-marked_other Logical Ready n m.children h Vdev Ready refl ∙ none
vdevs-happened Logical Done n error bits m none h = count_of-marked_other Logical Done n m.children h Vdev Ready refl ∙ none

tally_of-woken_if : (b : Bool) (m : Machine) → tally_of (woken_if b m) ≡ cleared_if b (tally_of m)
tally_of-woken_if true m = refl
tally_of-woken_if false m = refl

children-woken_if : (b : Bool) (m : Machine) → (woken_if b m).children ≡ m.children
children-woken_if true m = refl
children-woken_if false m = refl

owed : (kind : ChildKind) (phase : Phase) (n : ℕ) (error : Option Errno) (bits : Bits) (m : Machine) →
    IsTrue (may_happen (event_of kind phase n error bits) m) → IsTrue (owes_at kind phase n m.children)
owed kind Ready n error bits m h = h
owed kind Done n error bits m h = h

pub wakes-notified : (kind : ChildKind) (phase : Phase) (n : ℕ) (error : Option Errno) (bits : Bits) (t : Tally) (m : Machine) →
    Shows t m → IsTrue (may_happen (event_of kind phase n error bits) m) →
    wakes (event_of kind phase n error bits) m ≡ is_last kind phase t
wakes-notified kind phase n error bits t m s h =
    wakes-is_last kind phase n error bits m s.vdevs (owed kind phase n error bits m h) ∙ ap (is_last kind phase) s.tally

pub Shows-notified : (kind : ChildKind) (phase : Phase) (n : ℕ) (error : Option Errno) (bits : Bits) (t : Tally) (m : Machine) →
    Shows t m → IsTrue (may_happen (event_of kind phase n error bits) m) →
    Shows (notified kind phase error bits t) (after (event_of kind phase n error bits) m)
Shows-notified kind phase n error bits t m s h =
    let event = event_of kind phase n error bits in
    let owes = owed kind phase n error bits m h in
    record {
      tally = tally_of-woken_if (wakes event m) (happened event m)
          ∙ (ap (λ b. cleared_if b (tally_of (happened event m))) (wakes-is_last kind phase n error bits m s.vdevs owes)
          ∙ (ap (cleared_if (is_last kind phase (tally_of m))) (tally_of-happened kind phase n error bits m s.vdevs owes)
          ∙ ap (notified kind phase error bits) s.tally));
      vdevs = ap (count_of Vdev Ready) (children-woken_if (wakes event m) (happened event m))
          ∙ vdevs-happened kind phase n error bits m s.vdevs owes;
    }

-- ---- a wait

first_counted-tally_of : (kinds : List ChildKind) (phase : Phase) (m : Machine) → count_of Vdev Ready m.children ≡ 0 →
    first_count kinds phase m.children ≡ first_counted kinds phase (tally_of m)
first_counted-tally_of kinds Done m none = refl
first_counted-tally_of kinds Ready m none =
    ap (λ n. first_if (list_any (same_kind Vdev) kinds && not (n == 0)) (record { kind = Vdev; phase = Ready })
    (count_or Gang kinds Ready m.children (count_or Logical kinds Ready m.children None))) none

back_true : (a b : Bool) → (a && b) ≡ true → b ≡ true
back_true true b h = h
back_true false b h = absurd (false≢true h)

not_true : (b : Bool) → not b ≡ true → b ≡ false
not_true true h = absurd (false≢true h)
not_true false h = refl

-- a wait on the chosen count stalls, since it isn't 0
waited_first : (b : Bool) (count : Count) (others : Option Count) (m : Machine) →
    (b ≡ true → not (count_of count.kind count.phase m.children == 0) ≡ true) →
    tally_of (waited_on others m) ≡ stalled others (tally_of m) →
    tally_of (waited_on (first_if b count others) m) ≡ stalled (first_if b count others) (tally_of m)
waited_first true count others m none rest =
    ap (λ z. tally_of (stalled_unless z count m)) (not_true (count_of count.kind count.phase m.children == 0) (none refl))
waited_first false count others m none rest = rest

waited_or : (kind : ChildKind) (kinds : List ChildKind) (phase : Phase) (others : Option Count) (m : Machine) →
    tally_of (waited_on others m) ≡ stalled others (tally_of m) →
    tally_of (waited_on (count_or kind kinds phase m.children others) m) ≡ stalled (count_or kind kinds phase m.children others) (tally_of m)
waited_or kind kinds phase others m rest =
    waited_first (list_any (same_kind kind) kinds && not (count_of kind phase m.children == 0)) (record { kind = kind; phase = phase }) others m
    (back_true (list_any (same_kind kind) kinds) (not (count_of kind phase m.children == 0))) rest

tally_of-after_wait : (kinds : List ChildKind) (phase : Phase) (m : Machine) →
    tally_of (after_wait kinds phase m) ≡ stalled (first_count kinds phase m.children) (tally_of m)
tally_of-after_wait kinds phase m =
    let logical = count_or Logical kinds phase m.children None in
    let gang = count_or Gang kinds phase m.children logical in
    waited_or Vdev kinds phase gang m (waited_or Gang kinds phase logical m (waited_or Logical kinds phase None m refl))

children_stalled : (b : Bool) (count : Count) (m : Machine) → (stalled_unless b count m).children ≡ m.children
children_stalled true count m = refl
children_stalled false count m = refl

children-waited_on : (o : Option Count) (m : Machine) → (waited_on o m).children ≡ m.children
children-waited_on None m = refl
children-waited_on (Some count) m = children_stalled (count_of count.kind count.phase m.children == 0) count m

pub Shows-stalled : (kinds : List ChildKind) (phase : Phase) (t : Tally) (m : Machine) → Shows t m →
    Shows (stalled (first_counted kinds phase t) t) (after_wait kinds phase m)
Shows-stalled kinds phase t m s = record {
  tally = tally_of-after_wait kinds phase m
      ∙ (ap (λ o. stalled o (tally_of m)) (first_counted-tally_of kinds phase m s.vdevs)
      ∙ ap (λ u. stalled (first_counted kinds phase u) u) s.tally);
  vdevs = ap (count_of Vdev Ready) (children-waited_on (first_count kinds phase m.children) m) ∙ s.vdevs;
}

-- ---- a machine for each tally

-- so many children alike
abbrev alike : ℕ → Child → List Child
alike zero child = []
alike (suc n) child = child ∷ alike n child

count_of-alike : (kind : ChildKind) (phase : Phase) (n : ℕ) (child : Child) →
    count_of kind phase (alike n child) ≡ n * one_if (owes kind phase child)
count_of-alike kind phase zero child = omega arith
count_of-alike kind phase (suc n) child = omega (arith, count_of-alike kind phase n child)

-- a child of this kind with these marks
abbrev child_with : ChildKind → Bool → Bool → Child
child_with kind ready done = record { kind = kind; ready = ready; done = done }

abbrev children_for : Tally → List Child
children_for t =
    alike t.vdev_done (child_with Vdev true false)
    ++ (alike t.gang_ready (child_with Gang false true) ++ (alike t.gang_done (child_with Gang true false)
    ++ (alike t.logical_ready (child_with Logical false true) ++ alike t.logical_done (child_with Logical true false))))

count_of-children_for : (kind : ChildKind) (phase : Phase) (t : Tally) →
    count_of kind phase (children_for t) ≡
    t.vdev_done * one_if (owes kind phase (child_with Vdev true false))
    + (t.gang_ready * one_if (owes kind phase (child_with Gang false true)) + (t.gang_done * one_if (owes kind phase (child_with Gang true false))
    + (t.logical_ready * one_if (owes kind phase (child_with Logical false true)) + t.logical_done * one_if (owes kind phase (child_with Logical true false)))))
count_of-children_for kind phase t =
    let v = alike t.vdev_done (child_with Vdev true false) in
    let gr = alike t.gang_ready (child_with Gang false true) in
    let gd = alike t.gang_done (child_with Gang true false) in
    let lr = alike t.logical_ready (child_with Logical false true) in
    let ld = alike t.logical_done (child_with Logical true false) in
    omega (
      arith,
      count_of-append kind phase v (gr ++ (gd ++ (lr ++ ld))),
      count_of-append kind phase gr (gd ++ (lr ++ ld)),
      count_of-append kind phase gd (lr ++ ld),
      count_of-append kind phase lr ld,
      count_of-alike kind phase t.vdev_done (child_with Vdev true false),
      count_of-alike kind phase t.gang_ready (child_with Gang false true),
      count_of-alike kind phase t.gang_done (child_with Gang true false),
      count_of-alike kind phase t.logical_ready (child_with Logical false true),
      count_of-alike kind phase t.logical_done (child_with Logical true false),
    )

abbrev machine_for : Tally → Machine
machine_for t = record { children = children_for t; stall = t.stall; errors = t.errors; bits = t.bits }

pub shows_machine : (t : Tally) → (m : Machine) × Shows t m
shows_machine t = (
  machine_for t,
  record {
    tally = same_counts t.stall t.errors t.bits
        (omega (arith, count_of-children_for Vdev Done t)) (omega (arith, count_of-children_for Gang Ready t)) (omega (arith, count_of-children_for Gang Done t))
        (omega (arith, count_of-children_for Logical Ready t)) (omega (arith, count_of-children_for Logical Done t));
    vdevs = omega (arith, count_of-children_for Vdev Ready t);
  },
)

one_owes : (kind : ChildKind) (phase : Phase) (b : Bool) (child : Child) (children : List Child) → owes kind phase child ≡ b →
    (0 < count_of kind phase children → (n : ℕ) × IsTrue (owes_at kind phase n children)) →
    0 < one_if b + count_of kind phase children → (n : ℕ) × IsTrue (owes_at kind phase n (child ∷ children))
one_owes kind phase true child children e rest h = (0, e)
one_owes kind phase false child children e rest h = let found = rest (omega (arith, h)) in (suc found.0, found.1)

some_owes : (kind : ChildKind) (phase : Phase) (children : List Child) → 0 < count_of kind phase children →
    (n : ℕ) × IsTrue (owes_at kind phase n children)
some_owes kind phase [] h = absurd (omega (arith, h))
some_owes kind phase (child ∷ children) h = one_owes kind phase (owes kind phase child) child children refl (some_owes kind phase children) h

counted-tally_of : (kind : ChildKind) (phase : Phase) (m : Machine) → count_of Vdev Ready m.children ≡ 0 →
    count_of kind phase m.children ≡ counted kind phase (tally_of m)
counted-tally_of Vdev Ready m none = none
counted-tally_of Vdev Done m none = refl
counted-tally_of Gang Ready m none = refl
counted-tally_of Gang Done m none = refl
counted-tally_of Logical Ready m none = refl
counted-tally_of Logical Done m none = refl

pub shows_child : (t : Tally) (m : Machine) → Shows t m → (kind : ChildKind) (phase : Phase) → 0 < counted kind phase t →
    (n : ℕ) × IsTrue (owes_at kind phase n m.children)
shows_child t m s kind phase h =
    some_owes kind phase m.children (omega (arith, h, counted-tally_of kind phase m s.vdevs, ap (counted kind phase) s.tally))
