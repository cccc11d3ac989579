-- What putting and issuing leave of the leaves' queues.
use Rattle.std.proofs.Common.{◌≡◌, ℕ, ◌+◌, ◌<◌, List, [], ◌∷◌, ◌++◌, length, take, Result, Ok, Err, IfOk, refl, sym, ap, subst, ◌∙◌, arith}
use Rattle.std.specs.Prelude.{OnErr, OnOk, false, slice_index_or, slice_set}
use Rattle.std.proofs.lemmas.List.{length-set}
use Rattle.zio_cksum.specs.Images.{Setting}
use Rattle.zio_vqueue.specs.declared.op.Op.{Op}
use Rattle.zio_vqueue.specs.Queues.{is_queued}
use Rattle.zio_groups.specs.declared.waiting.Answered.{Answered}
use Rattle.zio_groups.specs.declared.waiting.QueuedOp.{QueuedOp}
use Rattle.zio_groups.specs.LeafQueues.{IsIssued, Waits, ops_of, waiting_with}
use Rattle.zio_turns.specs.AtLeaves.{AreInOrder, AreIssued, IsPut, key_of, keyed, keys_at, keys_in, keys_of, no_waits, put_as, waiting_at}
use Rattle.zio_staged.specs.Entries.{times_in}
use Rattle.zio_turns.proofs.GroupsDone.{group_done}
use Rattle.zio_turns.proofs.KeyTimes.{not_queued, order_fewer, order_put, put_done, times_one, times_set}

-- ---- one that is put

pub unqueued_at : (leaves : List Waits) (leaf key : ℕ) (was : Waits) → was ≡ slice_index_or leaves leaf no_waits → times_in key
    (keys_at leaves) ≡ 0
    → is_queued key (ops_of was.waiting) ≡ false
unqueued_at leaves leaf key was is none =
    subst (λ (q : Waits). is_queued key (ops_of q.waiting) ≡ false) (sym is)
    (not_queued key (waiting_at leaves leaf) (omega (arith, none, times_one key leaves leaf)))

-- the queue that it was put in has it as its last
pub put_now : (leaves : List Waits) (leaf : ℕ) (was now : Waits) (w v : QueuedOp) → leaf < length leaves
    → was ≡ slice_index_or leaves leaf no_waits
    → w ≡ v → now ≡ record was { waiting = was.waiting ++ w ∷ [] } → IsPut leaf v leaves (slice_set leaves leaf now)
put_now leaves leaf was now w v there is same put =
    put_done leaves leaf now v there
    (ap (λ (q : Waits). q.waiting) put ∙ (λ i. (is i).waiting ++ same i ∷ []))
    (length-set leaves leaf now)

pub cut_as : (key : ℕ) (op : Op) (cut bytes : List ℕ) → cut ≡ take op.len bytes → waiting_with
    (keyed key op) cut ≡ put_as key op bytes
cut_as key op cut bytes is = ap (waiting_with (keyed key op)) is

pub order_after : {E : Type 0} (r : Result (Unit {0}) E) (leaves : List Waits) (leaf : ℕ) (was now : Waits) (w v : QueuedOp)
    → leaf < length leaves
    → was ≡ slice_index_or leaves leaf no_waits → w ≡ v → times_in (key_of v) (keys_at leaves) ≡ 0
    → OnOk r (now ≡ record was { waiting = was.waiting ++ w ∷ [] }) → OnErr r (now ≡ was) → AreInOrder leaves → AreInOrder
    (slice_set leaves leaf now)
order_after (Ok done) leaves leaf was now w v there is same none ok err h =
    order_put leaves leaf now v there (ap (λ (q : Waits). q.active) ok ∙ ap (λ (q : Waits). q.active) is) none
    (put_now leaves leaf was now w v there is same ok) h
order_after (Err e) leaves leaf was now w v there is same none ok err h =
    order_fewer leaves leaf now there (ap (λ (q : Waits). q.active) (err ∙ is))
    (λ key.
    let set : times_in key (keys_at (slice_set leaves leaf now)) + times_in key
    (keys_in (waiting_at leaves leaf)) ≡ times_in key (keys_at leaves) + times_in key (keys_of now) =
    times_set key leaves leaf now there in
    let kept : times_in key (keys_of now) ≡ times_in key (keys_in (waiting_at leaves leaf)) =
    ap (λ (q : Waits). times_in key (keys_of q)) (err ∙ is) in
    omega (arith, set, kept)) h

-- ---- a group that was issued

-- the queue there is the one that it was issued from
pub issued_now : {D : Type 0} (image : D → List ℕ → Type 0) (s : Setting) (leaves : List Waits) (leaf k : ℕ) (was now : Waits)
    (before after : List D)
    (answers : List Answered) → leaf < length leaves → was ≡ slice_index_or leaves leaf no_waits → leaf ≡ k → AreInOrder leaves
    → IsIssued image s leaf was now before after answers → AreIssued image s k leaves
    (slice_set leaves leaf now) before after answers
issued_now image s leaves leaf k was now before after answers there is number order h =
    subst (λ (l : ℕ). AreIssued image s l leaves (slice_set leaves leaf now) before after answers) number
    (group_done image s leaves leaf now before after answers there order.once
    (subst (λ (q : Waits). IsIssued image s leaf q now before after answers) is h) (length-set leaves leaf now))

order_issued : {D : Type 0} (image : D → List ℕ → Type 0) (s : Setting) (leaves : List Waits) (leaf : ℕ) (was now : Waits)
    (before after : List D)
    (answers : List Answered) → leaf < length leaves → was ≡ slice_index_or leaves leaf no_waits → AreInOrder leaves
    → IsIssued image s leaf was now before after answers → AreInOrder (slice_set leaves leaf now)
order_issued image s leaves leaf was now before after answers there is order h =
    let all = issued_now image s leaves leaf leaf was now before after answers there is refl order h in
    order_fewer leaves leaf now there (ap (λ (q : Waits). q.active) h.left ∙ ap (λ (q : Waits). q.active) is)
    (λ key. omega (arith, all.leave key)) order

pub order_issued_if : {D E : Type 0} (image : D → List ℕ → Type 0) (s : Setting) (leaves : List Waits) (leaf : ℕ)
    (was now : Waits) (before after : List D)
    (r : Result (List Answered) E) → leaf < length leaves → was ≡ slice_index_or leaves leaf no_waits → AreInOrder leaves
    → IfOk r (IsIssued image s leaf was now before after) → OnOk r (AreInOrder (slice_set leaves leaf now))
order_issued_if image s leaves leaf was now before after (Ok answers) there is order h =
    order_issued image s leaves leaf was now before after answers there is order h
order_issued_if image s leaves leaf was now before after (Err e) there is order h = tt
