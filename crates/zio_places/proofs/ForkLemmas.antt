-- Flags of a fork: runs in one side or over both, and what a change of a side changes.
use Rattle.std.proofs.Common.{◌≡◌, ℕ, ◌+◌, ◌-◌, ◌^◌, ◌<◌, ◌≤◌, ◌≢◌, List, ◌++◌, length, drop, refl, sym, ap, subst, ◌∙◌, arith, length-append, Box}
use Rattle.std.specs.Prelude.{Bool, true, false}
use Rattle.std.proofs.Common.{inl, inr}
use Rattle.std.specs.declared.alloc.Global.{Global}
use Rattle.std.proofs.lemmas.Bool.{cases_lt}
use Rattle.std.proofs.lemmas.List.{get_or_append_left, get_or-append_right, length-drop, drop-append-le, drop-drop, drop_at}
use Rattle.zio_places.specs.declared.summary.Summary.{Summary}
use Rattle.zio_places.specs.declared.runs.FreeRuns.{FreeRuns}
use Rattle.zio_places.specs.declared.runs.RunNode.{RunNode}
use Rattle.zio_places.specs.declared.runs.RunNode.TheVariants.{Leaf, Fork}
use Rattle.zio_places.specs.Flags.{flag_at, front_run, back_run, best_run, summary_of, joined, AreAll, IsFreeRun, IsRangeSet}
use Rattle.zio_places.specs.FreeRuns.{flags_in, IsSummed, IsFork, IsLeaf}
use Rattle.zio_places.proofs.FlagLemmas.{front_run-append, front_run-le, front_run-free, front_run-most, back_run-le, back_run-free, back_run-stop, best_run-append, extended_on, extended_off, summary_of-append}

pub record AtFork (flags left right : List Bool) (summary : Summary) : Type 0 where
  pub is : flags ≡ left ++ right
  pub kept : IsFork left right summary
  pub length : length flags ≡ length left + length right

pub at_Fork : {n : RunNode} {flags : List Bool} {l r : Box FreeRuns Global} {s : Summary} → flags_in n ≡ flags → IsSummed n → n ≡ Fork l r s → AtFork flags l.value r.value s
at_Fork {n} {flags} {l} {r} {s} view_is summed is =
    let e : flags ≡ l.value ++ r.value = sym view_is ∙ ap flags_in is in
    record { is = e; kept = subst IsSummed is summed; length = ap length e ∙ length-append l.value r.value }

pub record AtLeaf (flags word : List Bool) (summary : Summary) : Type 0 where
  pub is : flags ≡ word
  pub kept : IsLeaf word summary

pub at_Leaf : {n : RunNode} {flags word : List Bool} {s : Summary} → flags_in n ≡ flags → IsSummed n → n ≡ Leaf word s → AtLeaf flags word s
at_Leaf {n} {flags} {word} {s} view_is summed is = record { is = sym view_is ∙ ap flags_in is; kept = subst IsSummed is summed }

pub flag_at-left : (l r : List Bool) (k : ℕ) → k < length l → flag_at (l ++ r) k ≡ flag_at l k
flag_at-left l r k h = get_or_append_left l r false k h

pub flag_at-right : (l r : List Bool) (k : ℕ) → length l ≤ k → flag_at (l ++ r) k ≡ flag_at r (k - length l)
flag_at-right l r k h = get_or-append_right l r (length l) k false refl h

pub AreAll-left : (l r : List Bool) (at count : ℕ) (flag : Bool) → AreAll l at count flag → AreAll (l ++ r) at count flag
AreAll-left l r at count flag h = record {
  fits = omega (arith, h.fits, length-append l r);
  each = λ k a b. flag_at-left l r k (omega (arith, h.fits)) ∙ h.each k a b;
}

pub AreAll-right : (l r : List Bool) (at count : ℕ) (flag : Bool) → AreAll r at count flag → AreAll (l ++ r) (length l + at) count flag
AreAll-right l r at count flag h = record {
  fits = omega (arith, h.fits, length-append l r);
  each = λ k a b. flag_at-right l r k (omega arith) ∙ h.each (k - length l) (omega arith) (omega arith);
}

-- a run from the back of the left side into the right one
pub AreAll-over : (l r : List Bool) (count : ℕ) → count ≤ back_run l + front_run r → AreAll (l ++ r) (length l - back_run l) count true
AreAll-over l r count h = record {
  fits = omega (arith, h, length-append l r, back_run-le l, front_run-le r);
  each = λ k a b.
      elim (cases_lt k (length l)) [
        | inl here ↦ flag_at-left l r k here ∙ back_run-free l k here (omega (arith, back_run-le l))
        | inr there ↦ flag_at-right l r k there ∙ front_run-free r (k - length l) (omega (arith, h, back_run-le l, there))
      ];
}

-- the same for runs that begin at a boundary
pub IsFreeRun-left : (l r : List Bool) (at count : ℕ) → IsFreeRun l at count → IsFreeRun (l ++ r) at count
IsFreeRun-left l r at count h = record {
  all = AreAll-left l r at count true h.all;
  start = λ k first. flag_at-left l r k (omega (arith, first, h.all.fits)) ∙ h.start k first;
}

pub IsFreeRun-over : (l r : List Bool) (count : ℕ) → count ≤ back_run l + front_run r → IsFreeRun (l ++ r) (length l - back_run l) count
IsFreeRun-over l r count h = record {
  all = AreAll-over l r count h;
  start = λ k first. flag_at-left l r k (omega (arith, first)) ∙ back_run-stop l k (omega (arith, first, back_run-le l));
}

-- a run of the right side is longer than its front, so it doesn't begin there
pub IsFreeRun-right : (l r : List Bool) (at count : ℕ) → back_run l + front_run r < count → IsFreeRun r at count → IsFreeRun (l ++ r) (length l + at) count
IsFreeRun-right l r at count less h =
    let behind : 0 < at =
    elim (cases_lt 0 at) [
      | inl some ↦ some
      | inr none ↦
          let most : count ≤ front_run r = front_run-most r count (λ k below. h.all.each k (omega (arith, none)) (omega (arith, none, below))) in
          absurd (omega (arith, less, most))
    ] in
    record {
      all = AreAll-right l r at count true h.all;
      start = λ k first. flag_at-right l r k (omega (arith, first, behind)) ∙ h.start (k - length l) (omega (arith, first, behind));
    }

-- a run that is neither in the left side nor over the middle is in the right side
pub best_run-right : (l r : List Bool) (count : ℕ) → count ≤ best_run (l ++ r) → best_run l < count → back_run l + front_run r < count → count ≤ best_run r
best_run-right l r count h a b = omega (arith, h, a, b, best_run-append l r)

-- how many are free from a sector of the left side on
pub front_run-left-whole : (l r : List Bool) (at : ℕ) → at ≤ length l → at + front_run (drop at l) ≡ length l → front_run (drop at l) + front_run r ≡ front_run (drop at (l ++ r))
front_run-left-whole l r at h e =
    let long : length (drop at l) ≡ length l - at = length-drop at l in
    sym (ap front_run (drop-append-le at l r h) ∙ front_run-append (drop at l) r ∙ extended_on (front_run (drop at l)) (length (drop at l)) (front_run r) (omega arith))

pub front_run-left-part : (l r : List Bool) (at : ℕ) → at ≤ length l → at + front_run (drop at l) ≢ length l → front_run (drop at l) ≡ front_run (drop at (l ++ r))
front_run-left-part l r at h e =
    let long : length (drop at l) ≡ length l - at = length-drop at l in
    sym (ap front_run (drop-append-le at l r h) ∙ front_run-append (drop at l) r ∙ extended_off (front_run (drop at l)) (length (drop at l)) (front_run r) (λ s. e (omega arith)))

pub drop-append-right : (l r : List Bool) (at : ℕ) → length l ≤ at → drop at (l ++ r) ≡ drop (at - length l) r
drop-append-right l r at h =
    let split : length l + (at - length l) ≡ at = omega arith in
    ap (λ n. drop n (l ++ r)) (sym split) ∙ sym (drop-drop (at - length l) (length l) (l ++ r)) ∙ ap (drop (at - length l)) (drop_at l r (length l) refl)

-- a change of one side, or of both
pub IsRangeSet-left : (l r new : List Bool) (at count : ℕ) (flag : Bool) → IsRangeSet l new at count flag → at + count ≤ length l → IsRangeSet (l ++ r) (new ++ r) at count flag
IsRangeSet-left l r new at count flag h fits = record {
  length = length-append new r ∙ ap (λ n. n + length r) h.length ∙ sym (length-append l r);
  within = λ k a b. flag_at-left new r k (omega (arith, h.length)) ∙ h.within k a b;
  before = λ k a. flag_at-left new r k (omega (arith, h.length)) ∙ h.before k a ∙ sym (flag_at-left l r k (omega arith));
  after = λ k a.
      elim (cases_lt k (length l)) [
        | inl here ↦ flag_at-left new r k (omega (arith, h.length)) ∙ h.after k a ∙ sym (flag_at-left l r k here)
        | inr there ↦ flag_at-right new r k (omega (arith, h.length)) ∙ ap (λ n. flag_at r (k - n)) h.length ∙ sym (flag_at-right l r k there)
      ];
}

pub IsRangeSet-right : (l r new : List Bool) (at count : ℕ) (flag : Bool) → IsRangeSet r new (at - length l) count flag → length l ≤ at → IsRangeSet (l ++ r) (l ++ new) at count flag
IsRangeSet-right l r new at count flag h from = record {
  length = length-append l new ∙ ap (λ n. length l + n) h.length ∙ sym (length-append l r);
  within = λ k a b. flag_at-right l new k (omega arith) ∙ h.within (k - length l) (omega arith) (omega arith);
  before = λ k a.
      elim (cases_lt k (length l)) [
        | inl here ↦ flag_at-left l new k here ∙ sym (flag_at-left l r k here)
        | inr there ↦ flag_at-right l new k there ∙ h.before (k - length l) (omega arith) ∙ sym (flag_at-right l r k there)
      ];
  after = λ k a. flag_at-right l new k (omega arith) ∙ h.after (k - length l) (omega arith) ∙ sym (flag_at-right l r k (omega arith));
}

pub IsRangeSet-over : (l r new_l new_r : List Bool) (at count : ℕ) (flag : Bool) → at ≤ length l → length l ≤ at + count →
    IsRangeSet l new_l at (length l - at) flag → IsRangeSet r new_r 0 (at + count - length l) flag → IsRangeSet (l ++ r) (new_l ++ new_r) at count flag
IsRangeSet-over l r new_l new_r at count flag a b hl hr = record {
  length = length-append new_l new_r ∙ ap (λ n. n + length new_r) hl.length ∙ ap (λ n. length l + n) hr.length ∙ sym (length-append l r);
  within = λ k from to.
      elim (cases_lt k (length l)) [
        | inl here ↦ flag_at-left new_l new_r k (omega (arith, hl.length)) ∙ hl.within k from (omega arith)
        | inr there ↦ flag_at-right new_l new_r k (omega (arith, hl.length)) ∙ ap (λ n. flag_at new_r (k - n)) hl.length ∙ hr.within (k - length l) (omega arith) (omega arith)
      ];
  before = λ k to. flag_at-left new_l new_r k (omega (arith, hl.length)) ∙ hl.before k to ∙ sym (flag_at-left l r k (omega arith));
  after = λ k from. flag_at-right new_l new_r k (omega (arith, hl.length)) ∙ ap (λ n. flag_at new_r (k - n)) hl.length ∙ hr.after (k - length l) (omega arith) ∙ sym (flag_at-right l r k (omega arith));
}

-- the summary that a changed fork gets
pub IsFork-from : (l r : List Bool) (s a b : Summary) → s ≡ joined a b → a ≡ summary_of l → b ≡ summary_of r → 0 < length l → 0 < length r → length l + length r < 2 ^ 64 → IsFork l r s
IsFork-from l r s a b e ea eb lf rf fits = record {
  summed = e ∙ ap (λ x. joined x b) ea ∙ ap (λ x. joined (summary_of l) x) eb ∙ sym (summary_of-append l r);
  left_filled = lf;
  right_filled = rf;
  fits = fits;
}

-- a change of the sides as one of the fork's flags
pub record SidesChange (flags l r new_l new_r : List Bool) (at count : ℕ) (flag : Bool) : Type 0 where
  pub whole : IsRangeSet flags (new_l ++ new_r) at count flag
  pub left : length new_l ≡ length l
  pub right : length new_r ≡ length r

pub left_changes : (flags l r side new : List Bool) (at count : ℕ) (flag : Bool) → flags ≡ l ++ r → side ≡ l →
    IsRangeSet side new at count flag → at + count ≤ length l → SidesChange flags l r new r at count flag
left_changes flags l r side new at count flag is same h fits =
    let on : IsRangeSet l new at count flag = subst (λ s. IsRangeSet s new at count flag) same h in
    record { whole = subst (λ fs. IsRangeSet fs (new ++ r) at count flag) (sym is) (IsRangeSet-left l r new at count flag on fits); left = on.length; right = refl }

pub right_changes : (flags l r side new : List Bool) (at from count : ℕ) (flag : Bool) → flags ≡ l ++ r → side ≡ r →
    IsRangeSet side new from count flag → from ≡ at - length l → length l ≤ at → SidesChange flags l r l new at count flag
right_changes flags l r side new at from count flag is same h e past =
    let on : IsRangeSet r new from count flag = subst (λ s. IsRangeSet s new from count flag) same h in
    let there : IsRangeSet r new (at - length l) count flag = subst (λ n. IsRangeSet r new n count flag) e on in
    record { whole = subst (λ fs. IsRangeSet fs (l ++ new) at count flag) (sym is) (IsRangeSet-right l r new at count flag there past); left = refl; right = on.length }

pub both_change : (flags l r side_l side_r new_l new_r : List Bool) (at count front back : ℕ) (flag : Bool) → flags ≡ l ++ r → side_l ≡ l → side_r ≡ r →
    IsRangeSet side_l new_l at front flag → IsRangeSet side_r new_r 0 back flag → front ≡ length l - at → back ≡ at + count - length l → at ≤ length l → length l ≤ at + count →
    SidesChange flags l r new_l new_r at count flag
both_change flags l r side_l side_r new_l new_r at count front back flag is same_l same_r hl hr ef eb a b =
    let on_l : IsRangeSet l new_l at front flag = subst (λ s. IsRangeSet s new_l at front flag) same_l hl in
    let on_r : IsRangeSet r new_r 0 back flag = subst (λ s. IsRangeSet s new_r 0 back flag) same_r hr in
    let here : IsRangeSet l new_l at (length l - at) flag = subst (λ n. IsRangeSet l new_l at n flag) ef on_l in
    let there : IsRangeSet r new_r 0 (at + count - length l) flag = subst (λ n. IsRangeSet r new_r 0 n flag) eb on_r in
    record { whole = subst (λ fs. IsRangeSet fs (new_l ++ new_r) at count flag) (sym is) (IsRangeSet-over l r new_l new_r at count flag a b here there); left = on_l.length; right = on_r.length }

-- the fork's summary after it
pub IsFork-changed : (flags l r new_l new_r : List Bool) (at count : ℕ) (flag : Bool) (old s a b : Summary) → SidesChange flags l r new_l new_r at count flag → IsFork l r old →
    s ≡ joined a b → a ≡ summary_of new_l → b ≡ summary_of new_r → IsFork new_l new_r s
IsFork-changed flags l r new_l new_r at count flag old s a b change fork e ea eb =
    IsFork-from new_l new_r s a b e ea eb (omega (arith, change.left, fork.left_filled)) (omega (arith, change.right, fork.right_filled)) (omega (arith, change.left, change.right, fork.fits))
