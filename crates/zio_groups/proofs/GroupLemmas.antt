-- The members of a group: they are queued, do the same, and lie in the span one behind another.
use Rattle.std.proofs.Common.{◌≡◌, ℕ, ◌+◌, ◌<◌, ◌≤◌, List, [], ◌∷◌, ◌++◌, length, filter, find, nat_le, Bool, true, false, ◌&&◌, ◌||◌, cond, Option, Some, None, refl, sym, ap, subst, ◌∙◌, append_assoc, arith}
use Rattle.std.specs.Bool.{beq}
use Rattle.std.specs.List.{AllByRecursion}
use Rattle.zio_types.specs.declared.request.Prio.{Prio}
use Rattle.zio_vqueue.specs.declared.op.Op.{Op}
use Rattle.zio_vqueue.specs.declared.op.Group.{Group}
use Rattle.zio_vqueue.specs.Classes.{is_sync}
use Rattle.zio_vqueue.specs.Members.{LiesIn}
use Rattle.zio_vqueue.specs.Queues.{AreApart, arranged, end_of, first_in, in_turn, is_in_class, or_else, put_before, turn_in}
use Rattle.zio_vqueue.specs.Groups.{AreTakenWith, IsChain, IsLongestRun, IsRun, IsSpanOf, candidates, gap_max, last_of, may_join}
use Rattle.zio_vqueue.proofs.IndexLemmas.{apart-filter}
use Rattle.zio_vqueue.proofs.MemberLemmas.{apart-arranged, apart_parts, by_flag}
use Rattle.zio_cksum.proofs.AllLemmas.{all_filter, all_true, all_weaker}
use Rattle.zio_disks.proofs.WriteLemmas.{all_left, all_right}

-- ---- operations that are arranged

all_put : (P : Op → Type 0) (r : Op → ℕ) (o : Op) (os : List Op) → P o → AllByRecursion P os → AllByRecursion P (put_before r o os)
all_put P r o [] p h = (p, tt)
all_put P r o (q ∷ qs) p h = go (nat_le (r o) (r q)) (all_put P r o qs p h.1)
  where
    go : (b : Bool) → AllByRecursion P (put_before r o qs) → AllByRecursion P (cond b (o ∷ q ∷ qs) (q ∷ put_before r o qs))
    go true k = (p, h)
    go false k = (h.0, k)

all_arranged : (P : Op → Type 0) (r : Op → ℕ) (os : List Op) → AllByRecursion P os → AllByRecursion P (arranged r os)
all_arranged P r [] h = tt
all_arranged P r (o ∷ os) h = all_put P r o (arranged r os) h.0 (all_arranged P r os h.1)

all_kept : (P : Op → Type 0) (test : Op → Bool) (os : List Op) → AllByRecursion P os → AllByRecursion P (filter test os)
all_kept P test os h = all_filter P test os (all_weaker P (λ o. test o ≡ true → P o) os (λ o p e. p) h)

-- ---- the first of a class

same_op : (x y : Op) → Some x ≡ Some y → x ≡ y
same_op x y k = cc

found_step : (P : Op → Type 0) (b : Bool) (p o : Op) (rest : Option Op) → P p → (rest ≡ Some o → P o) → cond b (Some p) rest ≡ Some o → P o
found_step P true p o rest h k e = subst P (same_op p o e) h
found_step P false p o rest h k e = k e

found_has : (P : Op → Type 0) (test : Op → Bool) (os : List Op) (o : Op) → AllByRecursion P os → find test os ≡ Some o → P o
found_has P test [] o h e = absurd (cc)
found_has P test (p ∷ ps) o h e = found_step P (test p) p o (find test ps) h.0 (found_has P test ps o h.1) e

pub first_has : (P : Op → Type 0) (prio : Prio) (last : ℕ) (os : List Op) (o : Op) → AllByRecursion P os → first_in prio last os ≡ Some o → P o
first_has P prio last os o h e = go (find (λ (x : Op). is_sync prio || nat_le last x.at) turn) refl e
  where
    turn : List Op
    turn = in_turn prio os

    all : AllByRecursion P turn
    all = all_arranged P (turn_in (is_sync prio)) (filter (is_in_class prio) os) (all_kept P (is_in_class prio) os h)

    go : (r : Option Op) → find (λ (x : Op). is_sync prio || nat_le last x.at) turn ≡ r → or_else r (find (λ (x : Op). true) turn) ≡ Some o → P o
    go (Some x) is k = found_has P (λ (y : Op). is_sync prio || nat_le last y.at) turn o all (is ∙ k)
    go None is k = found_has P (λ (y : Op). true) turn o all k

-- ---- members of the longest run

inner : (below lower upper above : List Op) (first : Op) → (below ++ lower) ++ first ∷ (upper ++ above) ≡ below ++ ((lower ++ first ∷ upper) ++ above)
inner below lower upper above first =
    append_assoc below lower (first ∷ (upper ++ above)) ∙ ap (λ (xs : List Op). below ++ xs) (sym (append_assoc lower (first ∷ upper) above))

run_has : (P : Op → Type 0) (ops : List Op) (first : Op) (members : List Op) → IsLongestRun ops first members → AllByRecursion P (candidates first ops) → AllByRecursion P members
run_has P ops first members run h =
    let all : AllByRecursion P (run.below ++ ((run.lower ++ first ∷ run.upper) ++ run.above)) = subst (AllByRecursion P) (run.around ∙ inner run.below run.lower run.upper run.above first) h in
    subst (AllByRecursion P) (sym run.members_are)
    (all_left P (run.lower ++ first ∷ run.upper) run.above (all_right P run.below ((run.lower ++ first ∷ run.upper) ++ run.above) all))

pub members_have : (P : Op → Type 0) (ops : List Op) (first : Op) (members : List Op) → AreTakenWith ops first members → AllByRecursion P ops → P first → AllByRecursion P members
members_have P ops first members taken h p = by_flag first.flags.dont_aggregate
    (λ e. subst (AllByRecursion P) (sym (taken.alone e)) (p, tt))
    (λ e. run_has P ops first members (taken.joined e) (all_arranged P (λ o. o.at) (filter (may_join first) ops) (all_kept P (may_join first) ops h)))

same_bool : (a b : Bool) → beq a b ≡ true → a ≡ b
same_bool true true e = refl
same_bool true false e = absurd (let f = e in cc)
same_bool false true e = absurd (let f = e in cc)
same_bool false false e = refl

left_true : (a b : Bool) → a && b ≡ true → a ≡ true
left_true true b e = refl
left_true false b e = absurd (let f = e in cc)

pub members_alike : (ops : List Op) (first : Op) (members : List Op) → AreTakenWith ops first members → AllByRecursion (λ (o : Op). o.write ≡ first.write) members
members_alike ops first members taken = by_flag first.flags.dont_aggregate
    (λ e. subst (AllByRecursion (λ (o : Op). o.write ≡ first.write)) (sym (taken.alone e)) (refl, tt))
    (λ e.
    run_has (λ (o : Op). o.write ≡ first.write) ops first members (taken.joined e)
    (all_arranged (λ (o : Op). o.write ≡ first.write) (λ o. o.at) (filter (may_join first) ops)
    (all_filter (λ (o : Op). o.write ≡ first.write) (may_join first) ops
    (all_true (λ (o : Op). may_join first o ≡ true → o.write ≡ first.write) ops (λ o k. same_bool o.write first.write (left_true _ _ (left_true _ _ k)))))))

pub members_run : (ops : List Op) (first : Op) (members : List Op) → AreTakenWith ops first members → IsRun (gap_max first.write) members
members_run ops first members taken = by_flag first.flags.dont_aggregate
    (λ e. subst (IsRun (gap_max first.write)) (sym (taken.alone e)) (tt, tt))
    (λ e. (taken.joined e).run)

pub members_apart : (ops : List Op) (first : Op) (members : List Op) → AreTakenWith ops first members → AreApart ops → AreApart members
members_apart ops first members taken h = by_flag first.flags.dont_aggregate
    (λ e. subst AreApart (sym (taken.alone e)) (refl, tt))
    (λ e.
    let run : IsLongestRun ops first members = taken.joined e in
    let all : AreApart (run.below ++ ((run.lower ++ first ∷ run.upper) ++ run.above)) =
    subst AreApart (run.around ∙ inner run.below run.lower run.upper run.above first)
    (apart-arranged (λ o. o.at) (filter (may_join first) ops) (apart-filter (may_join first) ops h)) in
    subst AreApart (sym run.members_are) (apart_parts (run.lower ++ first ∷ run.upper) run.above (apart_parts run.below ((run.lower ++ first ∷ run.upper) ++ run.above) all).1).0)

-- ---- where members lie

chain_end : (gap : ℕ) (o : Op) (os : List Op) → IsChain gap o os → end_of o ≤ end_of (last_of o os)
chain_end gap o [] h = omega arith
chain_end gap o (p ∷ ps) h = let rest = chain_end gap p ps h.1 in let step = h.0.0 in omega arith

chain_within : (gap low high : ℕ) (o : Op) (os : List Op) → IsChain gap o os → low ≤ o.at → end_of (last_of o os) ≤ high → AllByRecursion (λ (p : Op). (low ≤ p.at) × (end_of p ≤ high)) (o ∷ os)
chain_within gap low high o [] h l k = ((l, k), tt)
chain_within gap low high o (p ∷ ps) h l k =
    let end = chain_end gap o (p ∷ ps) h in
    let step = h.0.0 in
    ((l, omega arith), chain_within gap low high p ps h.1 (omega arith) k)

pub run_within : (gap : ℕ) (group : Group) (ops : List Op) → IsRun gap ops → IsSpanOf group ops → AllByRecursion (LiesIn group) ops
run_within gap group [] run span = tt
run_within gap group (o ∷ os) run span =
    let from = span.0 in
    let to = span.1 in
    chain_within gap group.at (group.at + group.len) o os run.0 (omega arith) (omega arith)

pub last_has : (P : Op → Type 0) (o : Op) (os : List Op) → AllByRecursion P (o ∷ os) → P (last_of o os)
last_has P o [] h = h.0
last_has P o (p ∷ ps) h = last_has P p ps h.1

pub span_some : (group : Group) (ops : List Op) → IsSpanOf group ops → 0 < length ops
span_some group [] span = absurd span
span_some group (o ∷ os) span = omega arith

-- the span ends where one of them does
pub span_ends : (most : ℕ) (group : Group) (ops : List Op) → IsSpanOf group ops → AllByRecursion (λ (o : Op). end_of o ≤ most) ops → group.at + group.len ≤ most
span_ends most group [] span h = absurd span
span_ends most group (o ∷ os) span h =
    let last = last_has (λ (p : Op). end_of p ≤ most) o os h in
    let to = span.1 in
    omega arith
