-- Operations on leaves that a part asked: one more goes out, one is answered, and all were heard before the next ones.
use Rattle.std.proofs.Common.{◌≡◌, ℕ, zero, suc, ◌+◌, ◌-◌, ◌≤◌, List, [], ◌∷◌, ◌++◌, length, set, slice_get, Bool, true, false, Option, Some, None, refl, sym, ap, subst, ◌∙◌, arith, append_assoc, append-nil, length-append, length-set}
use Rattle.std.specs.List.{AllByRecursion}
use Rattle.zio_cksum.proofs.AllLemmas.{all_append, all_weaker}
use Rattle.zio_blkptr.specs.declared.pointer.Bp.{Bp}
use Rattle.zio_cksum.specs.Images.{Spot}
use Rattle.zio_trace.specs.Leaves.{Fetch, Store}
use Rattle.zio_trace.specs.Tasks.{Attempt, Find, Leaf, ReadCopies, ReadHeads, ReadTree, Settle, TakePlaces, Task, Value, WriteCopies, WritePart}
use Rattle.zio_frames.specs.Frames.{Frame, fresh_frame, with_asked, with_slot}
use Rattle.zio_frames.specs.Moves.{GoesBeside, GoesBesideAll}
use Rattle.zio_frames.specs.Slots.{AllHeard, Heard, IsOut, Slot, outs_before, told_in}
use Rattle.zio_frames.proofs.SlotMoves.{IsOutAt}
use Rattle.zio_stages.specs.LeavesOut.{AreOut, AsksLeaves, IsLeafTask, IsWriteIn, count_out, out_below}

-- ---- slots behind a front that is heard

told_behind : (front slots : List Slot) → AllHeard front → told_in (front ++ slots) ≡ told_in slots
told_behind [] slots h = refl
told_behind (Heard v ∷ front) slots h = told_behind front slots h
told_behind (IsOut told ∷ front) slots h = absurd (cc)

before_behind : (front slots : List Slot) (m : ℕ) → AllHeard front → outs_before (length front + m) (front ++ slots) ≡ outs_before m slots
before_behind [] slots m h = let e : 0 + m ≡ m = omega arith in ap (λ n. outs_before n slots) e
before_behind (Heard v ∷ front) slots m h =
    let e : suc (length front) + m ≡ suc (length front + m) = omega arith in
    ap (λ n. outs_before n (Heard v ∷ (front ++ slots))) e ∙ before_behind front slots m h
before_behind (IsOut told ∷ front) slots m h = absurd (cc)

out_behind : (front slots : List Slot) (m : ℕ) → IsOutAt m slots → IsOutAt (length front + m) (front ++ slots)
out_behind [] slots m h = let e : m ≡ 0 + m = omega arith in subst (λ n. IsOutAt n slots) e h
out_behind (x ∷ front) slots m h =
    let e : suc (length front + m) ≡ suc (length front) + m = omega arith in
    subst (λ n. IsOutAt n (x ∷ (front ++ slots))) e (out_behind front slots m h)

set_behind : {X : Type 0} (front xs : List X) (m : ℕ) (y : X) → set (front ++ xs) (length front + m) y ≡ front ++ set xs m y
set_behind [] xs m y = let e : 0 + m ≡ m = omega arith in ap (λ n. set xs n y) e
set_behind (x ∷ front) xs m y =
    let e : suc (length front) + m ≡ suc (length front + m) = omega arith in
    ap (λ n. set (x ∷ (front ++ xs)) n y) e ∙ ap (λ ys. x ∷ ys) (set_behind front xs m y)

-- ---- those that are out

more_out : (outs : List Bool) (slots : List Slot) → AreOut outs slots → AreOut (outs ++ true ∷ []) (slots ++ IsOut None ∷ [])
more_out [] [] h = (refl, tt)
more_out [] (x ∷ slots) h = absurd h
more_out (out ∷ outs) [] h = absurd h
more_out (true ∷ outs) (IsOut told ∷ slots) h = (h.0, more_out outs slots h.1)
more_out (true ∷ outs) (Heard v ∷ slots) h = absurd h
more_out (false ∷ outs) (IsOut told ∷ slots) h = absurd h
more_out (false ∷ outs) (Heard v ∷ slots) h = more_out outs slots h

heard_out : (outs : List Bool) (slots : List Slot) (m : ℕ) (v : Value) → AreOut outs slots → slice_get outs m ≡ Some true → AreOut (set outs m false) (set slots m (Heard v))
heard_out [] slots m v h e = absurd (cc)
heard_out (out ∷ outs) [] m v h e = absurd h
heard_out (true ∷ outs) (IsOut told ∷ slots) zero v h e = h.1
heard_out (true ∷ outs) (IsOut told ∷ slots) (suc m) v h e = (h.0, heard_out outs slots m v h.1 e)
heard_out (true ∷ outs) (Heard w ∷ slots) m v h e = absurd h
heard_out (false ∷ outs) (IsOut told ∷ slots) m v h e = absurd h
heard_out (false ∷ outs) (Heard w ∷ slots) zero v h e = absurd (cc)
heard_out (false ∷ outs) (Heard w ∷ slots) (suc m) v h e = heard_out outs slots m v h e

at_out : (outs : List Bool) (slots : List Slot) (m : ℕ) → AreOut outs slots → slice_get outs m ≡ Some true → IsOutAt m slots
at_out [] slots m h e = absurd (cc)
at_out (out ∷ outs) [] m h e = absurd h
at_out (true ∷ outs) (IsOut told ∷ slots) zero h e = tt
at_out (true ∷ outs) (IsOut told ∷ slots) (suc m) h e = at_out outs slots m h.1 e
at_out (true ∷ outs) (Heard w ∷ slots) m h e = absurd h
at_out (false ∷ outs) (IsOut told ∷ slots) m h e = absurd h
at_out (false ∷ outs) (Heard w ∷ slots) zero h e = absurd (cc)
at_out (false ∷ outs) (Heard w ∷ slots) (suc m) h e = at_out outs slots m h e

out_from : (outs : List Bool) (slots : List Slot) (m : ℕ) (told : Option (Option Bp)) → AreOut outs slots → slice_get slots m ≡ Some (IsOut told) → slice_get outs m ≡ Some true
out_from [] [] m told h e = absurd (cc)
out_from [] (x ∷ slots) m told h e = absurd h
out_from (out ∷ outs) [] m told h e = absurd h
out_from (true ∷ outs) (IsOut was ∷ slots) zero told h e = refl
out_from (true ∷ outs) (IsOut was ∷ slots) (suc m) told h e = out_from outs slots m told h.1 e
out_from (true ∷ outs) (Heard w ∷ slots) m told h e = absurd h
out_from (false ∷ outs) (IsOut was ∷ slots) m told h e = absurd h
out_from (false ∷ outs) (Heard w ∷ slots) zero told h e = absurd (cc)
out_from (false ∷ outs) (Heard w ∷ slots) (suc m) told h e = out_from outs slots m told h e

counted : (outs : List Bool) (slots : List Slot) → AreOut outs slots → length (told_in slots) ≡ count_out outs
counted [] [] h = refl
counted [] (x ∷ slots) h = absurd h
counted (out ∷ outs) [] h = absurd h
counted (true ∷ outs) (IsOut told ∷ slots) h = ap suc (counted outs slots h.1)
counted (true ∷ outs) (Heard v ∷ slots) h = absurd h
counted (false ∷ outs) (IsOut told ∷ slots) h = absurd h
counted (false ∷ outs) (Heard v ∷ slots) h = counted outs slots h

counted_below : (m : ℕ) (outs : List Bool) (slots : List Slot) → AreOut outs slots → outs_before m slots ≡ out_below m outs
counted_below zero outs slots h = refl
counted_below (suc m) [] [] h = refl
counted_below (suc m) [] (x ∷ slots) h = absurd h
counted_below (suc m) (out ∷ outs) [] h = absurd h
counted_below (suc m) (true ∷ outs) (IsOut told ∷ slots) h = ap suc (counted_below m outs slots h.1)
counted_below (suc m) (true ∷ outs) (Heard v ∷ slots) h = absurd h
counted_below (suc m) (false ∷ outs) (IsOut told ∷ slots) h = absurd h
counted_below (suc m) (false ∷ outs) (Heard v ∷ slots) h = counted_below m outs slots h

-- ---- a part's operations

pub fresh_leaves : (P : Task → Type 0) (op : Task) → AsksLeaves P 0 [] (fresh_frame op)
fresh_leaves P op = record {
  front = [];
  slots = [];
  before = [];
  now = [];
  slots_are = refl;
  asked_are = refl;
  many = refl;
  full = refl;
  full_now = refl;
  heard = refl;
  outs_are = tt;
  leaves = tt;
  are_now = tt;
}

pub leaves_more : (P : Task → Type 0) (base : ℕ) (outs : List Bool) (x : Frame) (op : Task) → AsksLeaves P base outs x → P op → AsksLeaves P base (outs ++ true ∷ []) (with_asked x op (IsOut None))
leaves_more P base outs x op h is = record {
  front = h.front;
  slots = h.slots ++ IsOut None ∷ [];
  before = h.before;
  now = h.now ++ op ∷ [];
  slots_are = ap (λ xs. xs ++ IsOut None ∷ []) h.slots_are ∙ append_assoc h.front h.slots (IsOut None ∷ []);
  asked_are = ap (λ xs. xs ++ op ∷ []) h.asked_are ∙ append_assoc h.before h.now (op ∷ []);
  many = h.many;
  full = h.full;
  full_now = length-append h.now (op ∷ []) ∙ ap (λ n. n + 1) h.full_now ∙ sym (length-append h.slots (IsOut None ∷ []));
  heard = h.heard;
  outs_are = more_out outs h.slots h.outs_are;
  leaves = h.leaves;
  are_now = all_append P h.now (op ∷ []) h.are_now (is, tt);
}

pub leaves_heard : (P : Task → Type 0) (base : ℕ) (outs : List Bool) (x : Frame) (n m : ℕ) (v : Value) → n ≡ base + m → slice_get outs m ≡ Some true → AsksLeaves P base outs x
    → AsksLeaves P base (set outs m false) (with_slot x n (Heard v))
leaves_heard P base outs x n m v e is h =
    let at : n ≡ length h.front + m = omega (arith, h.many) in
    record {
      front = h.front;
      slots = set h.slots m (Heard v);
      before = h.before;
      now = h.now;
      slots_are = ap (λ xs. set xs n (Heard v)) h.slots_are ∙ ap (λ k. set (h.front ++ h.slots) k (Heard v)) at ∙ set_behind h.front h.slots m (Heard v);
      asked_are = h.asked_are;
      many = h.many;
      full = h.full;
      full_now = h.full_now ∙ sym (length-set h.slots m (Heard v));
      heard = h.heard;
      outs_are = heard_out outs h.slots m v h.outs_are is;
      leaves = h.leaves;
      are_now = h.are_now;
    }

pub leaves_full : (P : Task → Type 0) (base : ℕ) (outs : List Bool) (x : Frame) → AsksLeaves P base outs x → length x.asked ≡ length x.slots
leaves_full P base outs x h =
    let one : length x.asked ≡ length h.before + length h.now = ap length h.asked_are ∙ length-append h.before h.now in
    let two : length x.slots ≡ length h.front + length h.slots = ap length h.slots_are ∙ length-append h.front h.slots in
    omega (arith, h.full, h.full_now)

-- all of them are operations on leaves
pub leaves_all : (P : Task → Type 0) (base : ℕ) (outs : List Bool) (x : Frame) → ((op : Task) → P op → IsLeafTask op) → AsksLeaves P base outs x → AllByRecursion IsLeafTask x.asked
leaves_all P base outs x k h =
    subst (AllByRecursion IsLeafTask) (sym h.asked_are) (all_append IsLeafTask h.before h.now h.leaves (all_weaker P IsLeafTask h.now k h.are_now))

pub leaves_told : (P : Task → Type 0) (base : ℕ) (outs : List Bool) (x : Frame) → AsksLeaves P base outs x → length (told_in x.slots) ≡ count_out outs
leaves_told P base outs x h = ap (λ xs. length (told_in xs)) h.slots_are ∙ ap length (told_behind h.front h.slots h.heard) ∙ counted outs h.slots h.outs_are

none_told : (xs : List (Option (Option Bp))) → length xs ≡ 0 → xs ≡ []
none_told [] e = refl
none_told (x ∷ xs) e = absurd (omega arith)

pub all_heard : (P : Task → Type 0) (base : ℕ) (outs : List Bool) (x : Frame) → AsksLeaves P base outs x → count_out outs ≡ 0 → AllHeard x.slots
all_heard P base outs x h none = none_told (told_in x.slots) (leaves_told P base outs x h ∙ none)

pub leaves_before : (P : Task → Type 0) (base : ℕ) (outs : List Bool) (x : Frame) (n m : ℕ) → n ≡ base + m → AsksLeaves P base outs x → outs_before n x.slots ≡ out_below m outs
leaves_before P base outs x n m e h =
    let at : n ≡ length h.front + m = omega (arith, h.many) in
    ap (λ xs. outs_before n xs) h.slots_are
    ∙ ap (λ k. outs_before k (h.front ++ h.slots)) at
    ∙ before_behind h.front h.slots m h.heard
    ∙ counted_below m outs h.slots h.outs_are

pub leaves_out : (P : Task → Type 0) (base : ℕ) (outs : List Bool) (x : Frame) (n m : ℕ) → n ≡ base + m → slice_get outs m ≡ Some true → AsksLeaves P base outs x → IsOutAt n x.slots
leaves_out P base outs x n m e is h =
    let at : length h.front + m ≡ n = omega (arith, h.many) in
    let Q : List Slot → Type 0 = λ xs. IsOutAt n xs in
    subst Q (sym h.slots_are) (subst (λ k. IsOutAt k (h.front ++ h.slots)) at (out_behind h.front h.slots m (at_out outs h.slots m h.outs_are is)))

-- what is out in the part is out behind the front
heard_front : (front slots : List Slot) (n : ℕ) (told : Option (Option Bp)) → AllHeard front → slice_get (front ++ slots) n ≡ Some (IsOut told)
    → (m : ℕ) × (n ≡ length front + m) × (slice_get slots m ≡ Some (IsOut told))
heard_front [] slots n told h e = (n, omega arith, e)
heard_front (IsOut was ∷ front) slots n told h e = absurd (cc)
heard_front (Heard v ∷ front) slots zero told h e = absurd (cc)
heard_front (Heard v ∷ front) slots (suc n) told h e =
    let r : (m : ℕ) × (n ≡ length front + m) × (slice_get slots m ≡ Some (IsOut told)) = heard_front front slots n told h e in
    (r.0, omega (arith, r.1), r.2)

pub leaves_where : (P : Task → Type 0) (base : ℕ) (outs : List Bool) (x : Frame) (n : ℕ) (told : Option (Option Bp)) → AsksLeaves P base outs x → slice_get x.slots n ≡ Some (IsOut told)
    → (base ≤ n) × (slice_get outs (n - base) ≡ Some true)
leaves_where P base outs x n told h e =
    let r : (m : ℕ) × (n ≡ length h.front + m) × (slice_get h.slots m ≡ Some (IsOut told)) = heard_front h.front h.slots n told h.heard (ap (λ xs. slice_get xs n) (sym h.slots_are) ∙ e) in
    let same : r.0 ≡ n - base = omega (arith, r.1, h.many) in
    (omega (arith, r.1, h.many), ap (λ m. slice_get outs m) (sym same) ∙ out_from outs h.slots r.0 told h.outs_are r.2)

-- once all are heard the next ones begin
pub leaves_anew : (P Q : Task → Type 0) (base more : ℕ) (outs : List Bool) (x : Frame) → ((op : Task) → P op → IsLeafTask op) → count_out outs ≡ 0 → more ≡ length x.slots
    → AsksLeaves P base outs x → AsksLeaves Q more [] x
leaves_anew P Q base more outs x k none e h = record {
  front = x.slots;
  slots = [];
  before = x.asked;
  now = [];
  slots_are = sym (append-nil x.slots);
  asked_are = sym (append-nil x.asked);
  many = sym e;
  full = leaves_full P base outs x h;
  full_now = refl;
  heard = all_heard P base outs x h none;
  outs_are = tt;
  leaves = leaves_all P base outs x k h;
  are_now = tt;
}

-- ---- what goes beside them

pub beside_none : (op : Task) (asked : List Task) (slots : List Slot) → AllHeard slots → GoesBesideAll op asked slots
beside_none op [] slots h = tt
beside_none op (q ∷ asked) [] h = tt
beside_none op (q ∷ asked) (Heard v ∷ slots) h = beside_none op asked slots h
beside_none op (q ∷ asked) (IsOut told ∷ slots) h = absurd (cc)

beside_front : (op : Task) (before now : List Task) (front slots : List Slot) → length before ≡ length front → AllHeard front → GoesBesideAll op now slots → GoesBesideAll op (before ++ now) (front ++ slots)
beside_front op [] now [] slots e h k = k
beside_front op [] now (x ∷ front) slots e h k = absurd (omega arith)
beside_front op (q ∷ before) now [] slots e h k = absurd (omega arith)
beside_front op (q ∷ before) now (Heard v ∷ front) slots e h k = beside_front op before now front slots (omega arith) h k
beside_front op (q ∷ before) now (IsOut told ∷ front) slots e h k = absurd (cc)

write_beside : (retry : Bool) (bytes : List ℕ) (spot : Spot) (q : Task) → IsWriteIn retry q → GoesBeside q (Leaf (Store retry bytes spot))
write_beside retry bytes spot (Leaf (Store again others at)) h = h
write_beside retry bytes spot (Leaf (Fetch again len at)) h = absurd h
write_beside retry bytes spot (Find a) h = absurd h
write_beside retry bytes spot (ReadCopies repair test len places) h = absurd h
write_beside retry bytes spot (WriteCopies others places) h = absurd h
write_beside retry bytes spot (WritePart attempt p sum copies levels path others) h = absurd h
write_beside retry bytes spot (ReadHeads look levels path bp) h = absurd h
write_beside retry bytes spot (ReadTree tree) h = absurd h
write_beside retry bytes spot (TakePlaces tree) h = absurd h
write_beside retry bytes spot (Attempt attempt p kids) h = absurd h
write_beside retry bytes spot (Settle p kids) h = absurd h

beside_writes : (retry : Bool) (bytes : List ℕ) (spot : Spot) (now : List Task) (slots : List Slot) → AllByRecursion (IsWriteIn retry) now → GoesBesideAll (Leaf (Store retry bytes spot)) now slots
beside_writes retry bytes spot [] slots h = tt
beside_writes retry bytes spot (q ∷ now) [] h = tt
beside_writes retry bytes spot (q ∷ now) (Heard v ∷ slots) h = beside_writes retry bytes spot now slots h.1
beside_writes retry bytes spot (q ∷ now) (IsOut told ∷ slots) h = (write_beside retry bytes spot q h.0, beside_writes retry bytes spot now slots h.1)

-- writes of one pass go beside one another
pub leaves_beside : (retry : Bool) (base : ℕ) (outs : List Bool) (x : Frame) (bytes : List ℕ) (spot : Spot) → AsksLeaves (IsWriteIn retry) base outs x → GoesBesideAll (Leaf (Store retry bytes spot)) x.asked x.slots
leaves_beside retry base outs x bytes spot h =
    let op : Task = Leaf (Store retry bytes spot) in
    let all : GoesBesideAll op (h.before ++ h.now) (h.front ++ h.slots) = beside_front op h.before h.now h.front h.slots h.full h.heard (beside_writes retry bytes spot h.now h.slots h.are_now) in
    subst (λ as_. GoesBesideAll op as_ x.slots) (sym h.asked_are) (subst (GoesBesideAll op (h.before ++ h.now)) (sym h.slots_are) all)

pub write_leaf : (retry : Bool) (q : Task) → IsWriteIn retry q → IsLeafTask q
write_leaf retry (Leaf act) h = tt
write_leaf retry (Find a) h = absurd h
write_leaf retry (ReadCopies repair test len places) h = absurd h
write_leaf retry (WriteCopies others places) h = absurd h
write_leaf retry (WritePart attempt p sum copies levels path others) h = absurd h
write_leaf retry (ReadHeads look levels path bp) h = absurd h
write_leaf retry (ReadTree tree) h = absurd h
write_leaf retry (TakePlaces tree) h = absurd h
write_leaf retry (Attempt attempt p kids) h = absurd h
write_leaf retry (Settle p kids) h = absurd h
