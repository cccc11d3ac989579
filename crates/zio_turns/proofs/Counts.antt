-- The counts of children: one more, and one that became ready or ended.
use Rattle.std.proofs.Common.{◌≡◌, ◌≢◌, ℕ, zero, suc, ◌+◌, ◌-◌, ◌<◌, min, List, [], ◌∷◌, ◌++◌, slice_get, slice_set, Bool, true, false, Option, Some, None, cond, refl, sym, ap, ◌∙◌, arith}
use Rattle.zio_types.specs.declared.error.Errno.{Errno}
use Rattle.zio_types.specs.declared.request.Bits.{Bits}
use Rattle.zio_types.specs.declared.request.ChildKind.{ChildKind}
use Rattle.zio_types.specs.declared.request.ChildKind.TheVariants.{Vdev, Gang, Logical}
use Rattle.zio_types.specs.declared.request.Phase.{Phase}
use Rattle.zio_types.specs.declared.request.Phase.TheVariants.{Ready, Done}
use Rattle.zio_types.specs.Machine.{same_kind, same_phase}
use Rattle.zio_counts.specs.Tallies.{Tally, cleared_if, count_end, counted, is_last, joined, lowered, notified, raised}
use Rattle.zio_frames.specs.Frames.{Child, Seat, needs_none}
use Rattle.zio_frames.specs.Moves.{child_ended, child_told}
use Rattle.zio_trace.specs.Keys.{bit}
use Rattle.zio_staged.specs.Entries.{CountsAre, count_owing, owes, owing}

-- ---- the children

pub owing_more : (kind : ChildKind) (phase : Phase) (cs : List Child) (c : Child)
    → count_owing kind phase (cs ++ c ∷ []) ≡ count_owing kind phase cs + owing kind phase c
owing_more kind phase [] c = omega arith
owing_more kind phase (d ∷ cs) c = let e = owing_more kind phase cs c in omega arith

-- of one exchanged the count changes as what that one owes
pub owing_set : (kind : ChildKind) (phase : Phase) (cs : List Child) (n : ℕ) (c d : Child) → slice_get cs n ≡ Some c
    → count_owing kind phase (slice_set cs n d) + owing kind phase c ≡ count_owing kind phase cs + owing kind phase d
owing_set kind phase [] n c d e = absurd (cc)
owing_set kind phase (x ∷ cs) zero c d e =
    let is : x ≡ c = cc in
    let same : owing kind phase x ≡ owing kind phase c = ap (owing kind phase) is in
    omega arith
owing_set kind phase (x ∷ cs) (suc n) c d e = let k = owing_set kind phase cs n c d e in omega arith

-- where the count isn't 0 a child owes
pub record Owes (kind : ChildKind) (phase : Phase) (cs : List Child) : Type 0 where
  pub number : ℕ
  pub child : Child
  pub is : slice_get cs number ≡ Some child
  pub owes_it : owes phase child ≡ true

owes_behind : (kind : ChildKind) (phase : Phase) (c : Child) (cs : List Child) → Owes kind phase cs → Owes kind phase (c ∷ cs)
owes_behind kind phase c cs o = record { number = suc o.number; child = o.child; is = o.is; owes_it = o.owes_it }

owes_head : (kind : ChildKind) (phase : Phase) (c : Child) (cs : List Child) (b o : Bool) → owes phase c ≡ o
    → (count_owing kind phase cs ≢ 0 → Owes kind phase cs) → cond b (bit o) 0 + count_owing kind phase cs ≢ 0
    → Owes kind phase (c ∷ cs)
owes_head kind phase c cs true true e later h = record { number = 0; child = c; is = refl; owes_it = e }
owes_head kind phase c cs true false e later h = owes_behind kind phase c cs (later (λ z. h (omega arith)))
owes_head kind phase c cs false o e later h = owes_behind kind phase c cs (later (λ z. h (omega arith)))

pub one_owes : (kind : ChildKind) (phase : Phase) (cs : List Child) → count_owing kind phase cs ≢ 0 → Owes kind phase cs
one_owes kind phase [] h = absurd (h refl)
one_owes kind phase (c ∷ cs) h = owes_head kind phase c cs (same_kind c.kind kind) (owes phase c) refl
    (λ g. one_owes kind phase cs g) h

pub owes_goes : (phase : Phase) (c : Child) → owes phase c ≡ true → c.ended ≡ false
owes_goes Ready c h = by c.told c.ended h
  where
    by : (told ended : Bool) → cond told false (cond ended false true) ≡ true → ended ≡ false
    by true ended h = absurd (cc)
    by false true h = absurd (cc)
    by false false h = refl
owes_goes Done c h = by c.ended h
  where
    by : (ended : Bool) → cond ended false true ≡ true → ended ≡ false
    by true h = absurd (cc)
    by false h = refl

-- ---- the tallies

counted_cleared : (kind : ChildKind) (phase : Phase) (b : Bool) (x : Tally)
    → counted kind phase (cleared_if b x) ≡ counted kind phase x
counted_cleared Vdev Ready b x = refl
counted_cleared Vdev Done true x = refl
counted_cleared Vdev Done false x = refl
counted_cleared Gang Ready true x = refl
counted_cleared Gang Ready false x = refl
counted_cleared Gang Done true x = refl
counted_cleared Gang Done false x = refl
counted_cleared Logical Ready true x = refl
counted_cleared Logical Ready false x = refl
counted_cleared Logical Done true x = refl
counted_cleared Logical Done false x = refl

counted_joined : (kind : ChildKind) (phase mark : Phase) (own : ChildKind) (error : Option Errno) (bits : Bits) (x : Tally)
    → counted kind phase (joined mark own error bits x) ≡ counted kind phase x
counted_joined Vdev Ready Ready own error bits x = refl
counted_joined Vdev Ready Done own error bits x = refl
counted_joined Vdev Done Ready own error bits x = refl
counted_joined Vdev Done Done own error bits x = refl
counted_joined Gang Ready Ready own error bits x = refl
counted_joined Gang Ready Done own error bits x = refl
counted_joined Gang Done Ready own error bits x = refl
counted_joined Gang Done Done own error bits x = refl
counted_joined Logical Ready Ready own error bits x = refl
counted_joined Logical Ready Done own error bits x = refl
counted_joined Logical Done Ready own error bits x = refl
counted_joined Logical Done Done own error bits x = refl

-- of this kind and phase one less
abbrev pub less_if : Bool → ℕ → ℕ
less_if true n = n - 1
less_if false n = n

abbrev pub same_count : ChildKind → Phase → ChildKind → Phase → Bool
same_count kind phase own mark = cond (same_kind own kind) (same_phase mark phase) false

counted_lowered : (kind : ChildKind) (phase mark : Phase) (own : ChildKind) (x : Tally)
    → counted kind phase (lowered own mark x) ≡ less_if (same_count kind phase own mark) (counted kind phase x)
counted_lowered Vdev Ready Ready Vdev x = refl
counted_lowered Vdev Ready Done Vdev x = refl
counted_lowered Vdev Done Ready Vdev x = refl
counted_lowered Vdev Done Done Vdev x = refl
counted_lowered Vdev Ready Ready Gang x = refl
counted_lowered Vdev Ready Done Gang x = refl
counted_lowered Vdev Done Ready Gang x = refl
counted_lowered Vdev Done Done Gang x = refl
counted_lowered Vdev Ready Ready Logical x = refl
counted_lowered Vdev Ready Done Logical x = refl
counted_lowered Vdev Done Ready Logical x = refl
counted_lowered Vdev Done Done Logical x = refl
counted_lowered Gang Ready Ready Vdev x = refl
counted_lowered Gang Ready Done Vdev x = refl
counted_lowered Gang Done Ready Vdev x = refl
counted_lowered Gang Done Done Vdev x = refl
counted_lowered Gang Ready Ready Gang x = refl
counted_lowered Gang Ready Done Gang x = refl
counted_lowered Gang Done Ready Gang x = refl
counted_lowered Gang Done Done Gang x = refl
counted_lowered Gang Ready Ready Logical x = refl
counted_lowered Gang Ready Done Logical x = refl
counted_lowered Gang Done Ready Logical x = refl
counted_lowered Gang Done Done Logical x = refl
counted_lowered Logical Ready Ready Vdev x = refl
counted_lowered Logical Ready Done Vdev x = refl
counted_lowered Logical Done Ready Vdev x = refl
counted_lowered Logical Done Done Vdev x = refl
counted_lowered Logical Ready Ready Gang x = refl
counted_lowered Logical Ready Done Gang x = refl
counted_lowered Logical Done Ready Gang x = refl
counted_lowered Logical Done Done Gang x = refl
counted_lowered Logical Ready Ready Logical x = refl
counted_lowered Logical Ready Done Logical x = refl
counted_lowered Logical Done Ready Logical x = refl
counted_lowered Logical Done Done Logical x = refl

pub counted_notified : (kind : ChildKind) (phase mark : Phase) (own : ChildKind) (error : Option Errno) (bits : Bits)
    (x : Tally)
    → counted kind phase (notified own mark error bits x) ≡ less_if (same_count kind phase own mark) (counted kind phase x)
counted_notified kind phase mark own error bits x =
    counted_cleared kind phase (is_last own mark x) (joined mark own error bits (lowered own mark x))
    ∙ counted_joined kind phase mark own error bits (lowered own mark x) ∙ counted_lowered kind phase mark own x

stall_joined : (mark : Phase) (own : ChildKind) (error : Option Errno) (bits : Bits) (x : Tally)
    → (joined mark own error bits (lowered own mark x)).stall ≡ x.stall
stall_joined Ready Vdev error bits x = refl
stall_joined Ready Gang error bits x = refl
stall_joined Ready Logical error bits x = refl
stall_joined Done Vdev error bits x = refl
stall_joined Done Gang error bits x = refl
stall_joined Done Logical error bits x = refl

-- one that was the last for which it stalls clears the stall
pub stall_notified : (mark : Phase) (own : ChildKind) (error : Option Errno) (bits : Bits) (x : Tally)
    → (notified own mark error bits x).stall ≡ cond (is_last own mark x) None x.stall
stall_notified mark own error bits x = by (is_last own mark x)
  where
    by : (b : Bool) → (cleared_if b (joined mark own error bits (lowered own mark x))).stall ≡ cond b None x.stall
    by true = refl
    by false = stall_joined mark own error bits x

-- ---- one count with another

less_by : (b : Bool) (n later a d : ℕ) → later + a ≡ n + d → a ≡ d + bit b → less_if b n ≡ later
less_by true n later a d e f = omega arith
less_by false n later a d e f = omega arith

-- one child that owed in this way owes no more, and in no other way less
counts_less : (x : Tally) (cs : List Child) (n : ℕ) (c d : Child) (mark : Phase) (error : Option Errno) (bits : Bits)
    → slice_get cs n ≡ Some c
    → ((kind : ChildKind) (phase : Phase) → owing kind phase c ≡ owing kind phase d + bit (same_count kind phase c.kind mark))
    → CountsAre x cs → CountsAre (notified c.kind mark error bits x) (slice_set cs n d)
counts_less x cs n c d mark error bits e less are = λ kind phase.
    let a : counted kind phase (notified c.kind mark error bits x) ≡ less_if (same_count kind phase c.kind mark)
    (counted kind phase x)
    = counted_notified kind phase mark c.kind error bits x in
    let b : counted kind phase x ≡ count_owing kind phase cs = are kind phase in
    a ∙ ap (less_if (same_count kind phase c.kind mark)) b
    ∙ less_by (same_count kind phase c.kind mark) (count_owing kind phase cs) (count_owing kind phase (slice_set cs n d))
    (owing kind phase c) (owing kind phase d) (owing_set kind phase cs n c d e) (less kind phase)

told_less : (kind : ChildKind) (phase : Phase) (c : Child) → c.told ≡ false → c.ended ≡ false
    → owing kind phase c ≡ owing kind phase (child_told c) + bit (same_count kind phase c.kind Ready)
told_less kind phase c t e = by (same_kind c.kind kind) phase c.told c.ended t e
  where
    by : (b : Bool) (phase : Phase) (told ended : Bool) → told ≡ false → ended ≡ false
        → cond b (bit (owes phase (record { seat = c.seat; kind = c.kind; told = told; ended = ended }))) 0
        ≡ cond b (bit (owes phase (record { seat = c.seat; kind = c.kind; told = true; ended = ended }))) 0 + bit
        (cond b (same_phase Ready phase) false)
    by true Ready true ended t e = absurd (cc)
    by true Ready false true t e = absurd (cc)
    by true Ready false false t e = refl
    by true Done told true t e = absurd (cc)
    by true Done told false t e = refl
    by false phase told ended t e = refl

ended_less : (kind : ChildKind) (phase : Phase) (c : Child) → c.told ≡ true → c.ended ≡ false
    → owing kind phase c ≡ owing kind phase (child_ended c) + bit (same_count kind phase c.kind Done)
ended_less kind phase c t e = by (same_kind c.kind kind) phase c.told c.ended t e
  where
    by : (b : Bool) (phase : Phase) (told ended : Bool) → told ≡ true → ended ≡ false
        → cond b (bit (owes phase (record { seat = c.seat; kind = c.kind; told = told; ended = ended }))) 0
        ≡ cond b (bit (owes phase (record { seat = c.seat; kind = c.kind; told = true; ended = true }))) 0 + bit
        (cond b (same_phase Done phase) false)
    by true Ready true ended t e = refl
    by true Ready false ended t e = absurd (cc)
    by true Done told true t e = absurd (cc)
    by true Done told false t e = refl
    by false phase told ended t e = refl

pub counts_told : (x : Tally) (cs : List Child) (n : ℕ) (c : Child) (error : Option Errno) (bits : Bits)
    → slice_get cs n ≡ Some c
    → c.told ≡ false → c.ended ≡ false → CountsAre x cs → CountsAre (notified c.kind Ready error bits x)
    (slice_set cs n (child_told c))
counts_told x cs n c error bits is t e are =
    counts_less x cs n c (child_told c) Ready error bits is (λ kind phase. told_less kind phase c t e) are

pub counts_ended : (x : Tally) (cs : List Child) (n : ℕ) (c : Child) (error : Option Errno) (bits : Bits)
    → slice_get cs n ≡ Some c
    → c.told ≡ true → c.ended ≡ false → CountsAre x cs → CountsAre (notified c.kind Done error bits x)
    (slice_set cs n (child_ended c))
counts_ended x cs n c error bits is t e are =
    counts_less x cs n c (child_ended c) Done error bits is (λ kind phase. ended_less kind phase c t e) are

-- ---- one more child

room : (n end : ℕ) → n < end → min (n + 1) end ≡ n + 1
room n end h = omega arith

counted_raised : (seat : Seat) (own kind : ChildKind) (phase : Phase) (x : Tally) → counted own Ready x < count_end
    → counted kind phase (raised own x) ≡ counted kind phase x + owing kind phase
    (record { seat = seat; kind = own; told = needs_none own; ended = false })
counted_raised seat Vdev Vdev Ready x h = refl
counted_raised seat Vdev Vdev Done x h = refl
counted_raised seat Vdev Gang Ready x h = omega arith
counted_raised seat Vdev Gang Done x h = omega arith
counted_raised seat Vdev Logical Ready x h = omega arith
counted_raised seat Vdev Logical Done x h = omega arith
counted_raised seat Gang Vdev Ready x h = refl
counted_raised seat Gang Vdev Done x h = omega arith
counted_raised seat Gang Gang Ready x h = room x.gang_ready count_end h
counted_raised seat Gang Gang Done x h = refl
counted_raised seat Gang Logical Ready x h = omega arith
counted_raised seat Gang Logical Done x h = omega arith
counted_raised seat Logical Vdev Ready x h = refl
counted_raised seat Logical Vdev Done x h = omega arith
counted_raised seat Logical Gang Ready x h = omega arith
counted_raised seat Logical Gang Done x h = omega arith
counted_raised seat Logical Logical Ready x h = room x.logical_ready count_end h
counted_raised seat Logical Logical Done x h = refl

pub counts_raised : (x : Tally) (cs : List Child) (seat : Seat) (own : ChildKind) → counted own Ready x < count_end
    → CountsAre x cs
    → CountsAre (raised own x) (cs ++ record { seat = seat; kind = own; told = needs_none own; ended = false } ∷ [])
counts_raised x cs seat own h are = λ kind phase.
    let d : Child = record { seat = seat; kind = own; told = needs_none own; ended = false } in
    counted_raised seat own kind phase x h ∙ ap (λ n. n + owing kind phase d) (are kind phase)
    ∙ sym (owing_more kind phase cs d)

pub stall_raised : (own : ChildKind) (x : Tally) → (raised own x).stall ≡ x.stall
stall_raised Vdev x = refl
stall_raised Gang x = refl
stall_raised Logical x = refl

-- one that owes is counted
pub counted_owes : (x : Tally) (cs : List Child) (n : ℕ) (c : Child) (phase : Phase) → slice_get cs n ≡ Some c
    → owes phase c ≡ true
    → CountsAre x cs → counted c.kind phase x ≢ 0
counted_owes x cs n c phase e o are = λ z. not_none cs n e (sym (are c.kind phase) ∙ z)
  where
    same : (k : ChildKind) → same_kind k k ≡ true
    same Vdev = refl
    same Gang = refl
    same Logical = refl

    one : owing c.kind phase c ≡ 1
    one = ap (λ (b : Bool). cond b (bit (owes phase c)) 0) (same c.kind) ∙ ap bit o

    not_none : (cs : List Child) (n : ℕ) → slice_get cs n ≡ Some c → count_owing c.kind phase cs ≡ 0 → ⊥
    not_none [] n e z = cc
    not_none (d ∷ cs) zero e z =
        let is : d ≡ c = cc in
        let k : owing c.kind phase d ≡ 1 = ap (owing c.kind phase) is ∙ one in
        omega arith
    not_none (d ∷ cs) (suc n) e z = not_none cs n e (omega arith)
