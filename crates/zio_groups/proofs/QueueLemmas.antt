-- What stays of the waiting operations, and in order, when some are queued or taken.
use Rattle.std.proofs.Common.{◌≡◌, ◌≢◌, ℕ, ◌+◌, ◌-◌, ◌<◌, ◌≤◌, List, [], ◌∷◌, ◌++◌, length, map, filter, set, Bool, true, false, not, ◌==◌, cond, Option, unwrap_or, Result, Ok, Err, OnOk, OnErr, refl, sym, ap, subst, ◌∙◌, arith, length-set, get_or-set_same}
use Rattle.std.proofs.lemmas.List.{map-append, set-get_or, set-set}
use Rattle.std.proofs.lemmas.Bool.Decides.{nat_tests}
use Rattle.std.specs.List.{AllByRecursion}
use Rattle.zio_vqueue.specs.declared.op.Op.{Op}
use Rattle.zio_types.specs.declared.request.Prio.{Prio}
use Rattle.zio_types.specs.declared.request.Prio.TheVariants.{SyncRead, SyncWrite, AsyncRead, AsyncWrite, Scrub}
use Rattle.zio_vqueue.specs.declared.op.Group.{Group}
use Rattle.zio_vqueue.specs.Classes.{class_number}
use Rattle.zio_vqueue.specs.Groups.{after_take}
use Rattle.zio_vqueue.specs.Queues.{AreApart, FitsDevice, Queue, active_of, is_queued, without}
use Rattle.zio_vqueue.proofs.IndexLemmas.{apart-filter, apart_push, neither}
use Rattle.zio_cksum.proofs.AllLemmas.{all_append, all_filter, all_map, all_true, all_unmap, all_weaker}
use Rattle.zio_groups.specs.declared.waiting.QueuedOp.{QueuedOp}
use Rattle.zio_groups.specs.Issued.{IsFit}
use Rattle.zio_groups.specs.LeafQueues.{IsInOrder, Waits, after_issue, kept_with, ops_of, queue_of, waiting_with, waiting_without, waits_of}

abbrev pub Kept : Type 0
Kept = ℕ → Option (List ℕ)

-- ---- operations with their bytes

pub ops_kept : (f : Kept) (os : List Op) → ops_of (map (kept_with f) os) ≡ os
ops_kept f [] = refl
ops_kept f (o ∷ os) = ap (λ (rest : List Op). o ∷ rest) (ops_kept f os)

-- what is kept for their tickets is all that counts
pub kept_same : (f g : Kept) (os : List Op) → AllByRecursion (λ (o : Op). g o.ticket ≡ f o.ticket) os → map (kept_with g) os ≡ map (kept_with f) os
kept_same f g [] h = refl
kept_same f g (o ∷ os) h =
    ap (λ (bytes : Option (List ℕ)). waiting_with o (unwrap_or bytes []) ∷ map (kept_with g) os) h.0
    ∙ ap (λ (ws : List QueuedOp). kept_with f o ∷ ws) (kept_same f g os h.1)

-- ---- those that are left

filter_kept : (f : Kept) (t : ℕ) (os : List Op) → filter (λ (w : QueuedOp). not (w.op.ticket == t)) (map (kept_with f) os) ≡ map (kept_with f) (filter (λ (o : Op). not (o.ticket == t)) os)
filter_kept f t [] = refl
filter_kept f t (o ∷ os) = step (not (o.ticket == t)) (kept_with f o) (filter (λ (w : QueuedOp). not (w.op.ticket == t)) (map (kept_with f) os)) o (filter (λ (p : Op). not (p.ticket == t)) os) (filter_kept f t os) refl
  where
    step : (b : Bool) (w : QueuedOp) (xs : List QueuedOp) (p : Op) (ps : List Op) → xs ≡ map (kept_with f) ps → w ≡ kept_with f p → cond b (w ∷ xs) xs ≡ map (kept_with f) (cond b (p ∷ ps) ps)
    step true w xs p ps e k = ap (λ (v : QueuedOp). v ∷ xs) k ∙ ap (λ (vs : List QueuedOp). kept_with f p ∷ vs) e
    step false w xs p ps e k = e

pub without_kept : (f : Kept) (ms os : List Op) → map (kept_with f) (without ms os) ≡ waiting_without ms (map (kept_with f) os)
without_kept f [] os = refl
without_kept f (m ∷ ms) os =
    without_kept f ms (filter (λ (o : Op). not (o.ticket == m.ticket)) os)
    ∙ ap (waiting_without ms) (sym (filter_kept f m.ticket os))

all_without : (P : Op → Type 0) (ms os : List Op) → AllByRecursion P os → AllByRecursion P (without ms os)
all_without P [] os h = h
all_without P (m ∷ ms) os h =
    all_without P ms (filter (λ (o : Op). not (o.ticket == m.ticket)) os)
    (all_filter P (λ (o : Op). not (o.ticket == m.ticket)) os (all_weaker P (λ o. not (o.ticket == m.ticket) ≡ true → P o) os (λ o p e. p) h))

pub apart_without : (ms os : List Op) → AreApart os → AreApart (without ms os)
apart_without [] os h = h
apart_without (m ∷ ms) os h = apart_without ms (filter (λ (o : Op). not (o.ticket == m.ticket)) os) (apart-filter (λ (o : Op). not (o.ticket == m.ticket)) os h)

-- none of them has a ticket of those that were taken
pub unlisted : (ms os : List Op) → AllByRecursion (λ (o : Op). is_queued o.ticket ms ≡ false) (without ms os)
unlisted [] os = all_true (λ (o : Op). is_queued o.ticket [] ≡ false) os (λ o. refl)
unlisted (m ∷ ms) os = join _ others (unlisted ms (filter (λ (o : Op). not (o.ticket == m.ticket)) os))
  where
    other : (o : Op) → not (o.ticket == m.ticket) ≡ true → (m.ticket == o.ticket) ≡ false
    other o e = grind (arith, nat_tests)

    others : AllByRecursion (λ (o : Op). (m.ticket == o.ticket) ≡ false) (without (m ∷ ms) os)
    others =
        all_without (λ (o : Op). (m.ticket == o.ticket) ≡ false) ms (filter (λ (o : Op). not (o.ticket == m.ticket)) os)
        (all_filter (λ (o : Op). (m.ticket == o.ticket) ≡ false) (λ (o : Op). not (o.ticket == m.ticket)) os (all_true (λ (o : Op). not (o.ticket == m.ticket) ≡ true → (m.ticket == o.ticket) ≡ false) os (λ o e. other o e)))

    join : (xs : List Op) → AllByRecursion (λ (o : Op). (m.ticket == o.ticket) ≡ false) xs → AllByRecursion (λ (o : Op). is_queued o.ticket ms ≡ false) xs → AllByRecursion (λ (o : Op). is_queued o.ticket (m ∷ ms) ≡ false) xs
    join [] h k = tt
    join (x ∷ xs) h k = (rw (h.0, k.0) refl, join xs h.1 k.1)

-- where less is kept, the bytes still have room
pub fit_fewer : (f g : Kept) (os : List Op) → ((t : ℕ) → length (unwrap_or (g t) []) ≤ length (unwrap_or (f t) [])) → AllByRecursion IsFit (map (kept_with f) os) → AllByRecursion IsFit (map (kept_with g) os)
fit_fewer f g [] less h = tt
fit_fewer f g (o ∷ os) less h =
    (record { device = h.0.device; room = room o.write (less o.ticket) h.0.room }, fit_fewer f g os less h.1)
  where
    room : (b : Bool) → length (unwrap_or (g o.ticket) []) ≤ length (unwrap_or (f o.ticket) []) → length (cond b (unwrap_or (f o.ticket) []) []) ≤ o.len → length (cond b (unwrap_or (g o.ticket) []) []) ≤ o.len
    room true l k = omega arith
    room false l k = k

pub fit_without : (f : Kept) (ms os : List Op) → AllByRecursion IsFit (map (kept_with f) os) → AllByRecursion IsFit (map (kept_with f) (without ms os))
fit_without f ms os h =
    all_map IsFit (kept_with f) (without ms os) (all_without (λ (o : Op). IsFit (kept_with f o)) ms os (all_unmap IsFit (kept_with f) os h))

-- ---- the queue seen with the bytes

pub queue_kept : (f : Kept) (q : Queue) → queue_of (waits_of f q) ≡ q
queue_kept f q = ap (λ (os : List Op). record { queued = os; active = q.active; last = q.last }) (ops_kept f q.queued)

apart_from : (a b : ℕ) → (a == b) ≡ false → a ≢ b
apart_from a b e same = grind (arith, nat_tests)

-- what is kept for a ticket that isn't queued doesn't count
pub unqueued : (f g : Kept) (t : ℕ) (os : List Op) → is_queued t os ≡ false → ((u : ℕ) → u ≢ t → g u ≡ f u) → AllByRecursion (λ (o : Op). g o.ticket ≡ f o.ticket) os
unqueued f g t [] e h = tt
unqueued f g t (o ∷ os) e h =
    let n = neither (o.ticket == t) (is_queued t os) e in
    (h o.ticket (apart_from o.ticket t n.0), unqueued f g t os n.1 h)

pub waits_same : (f g : Kept) (q : Queue) → AllByRecursion (λ (o : Op). g o.ticket ≡ f o.ticket) q.queued → waits_of g q ≡ waits_of f q
waits_same f g q h = ap (λ (ws : List QueuedOp). record { waiting = ws; active = q.active; last = q.last }) (kept_same f g q.queued h)

abbrev pub pushed : Queue → Op → Queue
pushed q o = record { queued = q.queued ++ o ∷ []; active = q.active; last = q.last }

-- one operation more
pub waits_pushed : (f g : Kept) (q : Queue) (o : Op) (bytes : List ℕ) → is_queued o.ticket q.queued ≡ false → ((u : ℕ) → u ≢ o.ticket → g u ≡ f u) → kept_with g o ≡ waiting_with o bytes
    → waits_of g (pushed q o) ≡ record { waiting = map (kept_with f) q.queued ++ waiting_with o bytes ∷ []; active = q.active; last = q.last }
waits_pushed f g q o bytes new others here =
    ap (λ (ws : List QueuedOp). record { waiting = ws; active = q.active; last = q.last })
    (map-append (kept_with g) q.queued (o ∷ [])
    ∙ ap (λ (ws : List QueuedOp). ws ++ kept_with g o ∷ []) (kept_same f g q.queued (unqueued f g o.ticket q.queued new others))
    ∙ ap (λ (w : QueuedOp). map (kept_with f) q.queued ++ w ∷ []) here)

room_of : (b : Bool) (bytes : List ℕ) (len : ℕ) → length bytes ≤ len → length (cond b bytes []) ≤ len
room_of true bytes len h = h
room_of false bytes len h = omega arith

pub order_pushed : (f g : Kept) (q : Queue) (o : Op) (bytes : List ℕ) → is_queued o.ticket q.queued ≡ false → ((u : ℕ) → u ≢ o.ticket → g u ≡ f u) → kept_with g o ≡ waiting_with o bytes
    → FitsDevice o → length bytes ≤ o.len → IsInOrder (waits_of f q) → IsInOrder (waits_of g (pushed q o))
order_pushed f g q o bytes new others here fits room h =
    subst IsInOrder (sym (waits_pushed f g q o bytes new others here))
    (record {
      room = h.room;
      fit = all_append IsFit (map (kept_with f) q.queued) (waiting_with o bytes ∷ []) h.fit (record { device = fits; room = room_of o.write bytes o.len room }, tt);
      apart = subst AreApart (sym (map-append (λ (w : QueuedOp). w.op) (map (kept_with f) q.queued) (waiting_with o bytes ∷ []) ∙ ap (λ (os : List Op). os ++ o ∷ []) (ops_kept f q.queued)))
          (apart_push q.queued o (subst AreApart (ops_kept f q.queued) h.apart) new);
    })

-- put, or refused
pub order_put : {E : Type 0} (f g : Kept) (q new : Queue) (o : Op) (bytes : List ℕ) (r : Result (Unit {0}) E) → is_queued o.ticket q.queued ≡ false → ((u : ℕ) → u ≢ o.ticket → g u ≡ f u) → kept_with g o ≡ waiting_with o bytes
    → FitsDevice o → length bytes ≤ o.len → OnOk r (new ≡ pushed q o) → OnErr r (new ≡ q) → IsInOrder (waits_of f q) → IsInOrder (waits_of g new)
order_put f g q new o bytes (Ok x) apart others here fits room ok err h = subst (λ (p : Queue). IsInOrder (waits_of g p)) (sym ok) (order_pushed f g q o bytes apart others here fits room h)
order_put f g q new o bytes (Err e) apart others here fits room ok err h =
    subst (λ (p : Queue). IsInOrder (waits_of g p)) (sym err) (subst IsInOrder (sym (waits_same f g q (unqueued f g o.ticket q.queued apart others))) h)

-- a ticket that isn't seen queued isn't
pub unseen : (f : Kept) (q : Queue) (w : Waits) (t : ℕ) → waits_of f q ≡ w → is_queued t (ops_of w.waiting) ≡ false → is_queued t q.queued ≡ false
unseen f q w t view e = ap (is_queued t) (sym (ops_kept f q.queued)) ∙ ap (λ (v : Waits). is_queued t (ops_of v.waiting)) view ∙ e

-- a group is taken, and less is kept
pub order_taken : (f g : Kept) (q : Queue) (group : Group) → ((t : ℕ) → length (unwrap_or (g t) []) ≤ length (unwrap_or (f t) [])) → IsInOrder (waits_of f q) → IsInOrder (waits_of g (after_take q group))
order_taken f g q group less h = record {
  room = length-set q.active (class_number group.prio) (active_of q group.prio + 1) ∙ h.room;
  fit = fit_fewer f g (without group.ops q.queued) less (fit_without f group.ops q.queued h.fit);
  apart = subst AreApart (sym (ops_kept g (without group.ops q.queued))) (apart_without group.ops q.queued (subst AreApart (ops_kept f q.queued) h.apart));
}

class_in : (c : Prio) → class_number c < 5
class_in SyncRead = omega arith
class_in SyncWrite = omega arith
class_in AsyncRead = omega arith
class_in AsyncWrite = omega arith
class_in Scrub = omega arith

-- it is one of the active, and then no more
pub taken_active : (q : Queue) (group : Group) → length q.active ≡ 5 → active_of (after_take q group) group.prio ≡ active_of q group.prio + 1
taken_active q group room = get_or-set_same q.active (class_number group.prio) (active_of q group.prio + 1) 0 (omega (arith, class_in group.prio))

abbrev pub after_done : Queue → Group → Queue
after_done q group = record { queued = q.queued; active = set q.active (class_number group.prio) (active_of q group.prio - 1); last = q.last }

active_again : (q : Queue) (group : Group) → length q.active ≡ 5 → set (set q.active (class_number group.prio) (active_of q group.prio + 1)) (class_number group.prio) (active_of (after_take q group) group.prio - 1) ≡ q.active
active_again q group room =
    let n : ℕ = class_number group.prio in
    let a : ℕ = active_of q group.prio in
    let e : active_of (after_take q group) group.prio - 1 ≡ a = omega (arith, taken_active q group room) in
    ap (set (set q.active n (a + 1)) n) e ∙ set-set q.active n (a + 1) a ∙ set-get_or q.active n 0

pub waits_done : (f g : Kept) (q : Queue) (group : Group) → ((t : ℕ) → is_queued t group.ops ≡ false → g t ≡ f t) → length q.active ≡ 5 → waits_of g (after_done (after_take q group) group) ≡ after_issue (waits_of f q) group
waits_done f g q group others room =
    ap (λ (ws : List QueuedOp). record { waiting = ws; active = (after_done (after_take q group) group).active; last = group.at + group.len })
    (kept_same f g (without group.ops q.queued) (all_weaker (λ (o : Op). is_queued o.ticket group.ops ≡ false) (λ (o : Op). g o.ticket ≡ f o.ticket) (without group.ops q.queued) (λ o h. others o.ticket h) (unlisted group.ops q.queued))
    ∙ without_kept f group.ops q.queued)
    ∙ ap (λ (active : List ℕ). record { waiting = waiting_without group.ops (map (kept_with f) q.queued); active = active; last = group.at + group.len }) (active_again q group room)

pub order_done : (q : Queue) (group : Group) (g : Kept) → IsInOrder (waits_of g q) → IsInOrder (waits_of g (after_done q group))
order_done q group g h = record {
  room = length-set q.active (class_number group.prio) (active_of q group.prio - 1) ∙ h.room;
  fit = h.fit;
  apart = h.apart;
}
