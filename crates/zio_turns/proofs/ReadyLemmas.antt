-- What holds of all that waits at the leaves, after one is put and after a group is issued.
use Rattle.std.proofs.Common.{◌≡◌, ◌≢◌, ℕ, List, [], ◌∷◌, Result, Ok, Err, IfOk, inl, inr, ◌⊎◌, sym, subst, Contains}
use Rattle.std.specs.Prelude.{OnOk}
use Rattle.std.specs.List.{AllByRecursion}
use Rattle.std.proofs.lemmas.Bool.{cases_eq}
use Rattle.zio_faults.specs.declared.table.Row.{Row}
use Rattle.zio_cksum.specs.Images.{Setting}
use Rattle.zio_cksum.proofs.AllLemmas.{all_append, all_contains, all_weaker}
use Rattle.zio_groups.specs.declared.waiting.Answered.{Answered}
use Rattle.zio_groups.specs.declared.waiting.QueuedOp.{QueuedOp}
use Rattle.zio_groups.specs.Issued.{EndsOn}
use Rattle.zio_groups.specs.LeafQueues.{Waits}
use Rattle.zio_turns.specs.AtLeaves.{AllWait, AreInOrder, AreIssued, IsPut, waiting_at}
use Rattle.zio_turns.specs.Grounds.{AreReady}

same_or_other : (m n : ℕ) → (m ≡ n) ⊎ (m ≢ n)
same_or_other m n = cases_eq m n

pub all_put : (P : ℕ → QueuedOp → Type 0) (leaf : ℕ) (w : QueuedOp) (old new : List Waits) → IsPut leaf w old new → P leaf w
    → AllWait P old → AllWait P new
all_put P leaf w old new put p h other = elim (same_or_other other leaf) [
  | inl same ↦
      subst (λ (l : ℕ). AllByRecursion (P l) (waiting_at new l)) (sym same)
      (subst (AllByRecursion (P leaf)) (sym put.here)
      (all_append (P leaf) (waiting_at old leaf) (w ∷ []) (h leaf) (p, tt)))
  | inr apart ↦ subst (AllByRecursion (P other)) (sym (put.others other apart)) (h other)
]

-- of what was issued it held too
pub all_members : {D : Type 0} (P : ℕ → QueuedOp → Type 0) (image : D → List ℕ → Type 0) (s : Setting) (leaf : ℕ)
    (old new : List Waits) (before after : List D) (answers : List Answered)
    (issued : AreIssued image s leaf old new before after answers) → AllWait P old → AllByRecursion (P leaf) issued.members
all_members P image s leaf old new before after answers issued h =
    all_weaker (Contains (waiting_at old leaf)) (P leaf) issued.members
    (λ w there. all_contains (P leaf) (waiting_at old leaf) w (h leaf) there) issued.among

pub all_issued : {D : Type 0} (P : ℕ → QueuedOp → Type 0) (image : D → List ℕ → Type 0) (s : Setting) (leaf : ℕ)
    (old new : List Waits) (before after : List D) (answers : List Answered)
    → AreIssued image s leaf old new before after answers → AllWait P old → AllWait P new
all_issued P image s leaf old new before after answers issued h other = elim (same_or_other other leaf) [
  | inl same ↦
      subst (λ (l : ℕ). AllByRecursion (P l) (waiting_at new l)) (sym same)
      (all_weaker (Contains (waiting_at old leaf)) (P leaf) (waiting_at new leaf)
      (λ w there. all_contains (P leaf) (waiting_at old leaf) w (h leaf) there) issued.stay)
  | inr apart ↦ subst (AllByRecursion (P other)) (sym (issued.others other apart)) (h other)
]

-- ---- it lies on the disks

pub ready_put : (rows : List Row) (sizes : List ℕ) (leaf : ℕ) (w : QueuedOp) (old new : List Waits) → IsPut leaf w old new
    → EndsOn sizes leaf w → AreInOrder new → AreReady rows sizes old → AreReady rows sizes new
ready_put rows sizes leaf w old new put ends order h =
    record { order = order; fit = h.fit; lie = all_put (EndsOn sizes) leaf w old new put ends h.lie }

pub ready_issued_if : {D E : Type 0} (image : D → List ℕ → Type 0) (s : Setting) (rows : List Row) (sizes later : List ℕ)
    (leaf : ℕ) (old new : List Waits) (before after : List D) (r : Result (List Answered) E)
    → IfOk r (AreIssued image s leaf old new before after) → OnOk r (AreInOrder new) → later ≡ sizes
    → AreReady rows sizes old → OnOk r (AreReady rows later new)
ready_issued_if image s rows sizes later leaf old new before after (Ok answers) issued order same h =
    subst (λ (all : List ℕ). AreReady rows all new) (sym same) (record {
      order = order;
      fit = h.fit;
      lie = all_issued (EndsOn sizes) image s leaf old new before after answers issued h.lie;
    })
ready_issued_if image s rows sizes later leaf old new before after (Err e) issued order same h = tt
