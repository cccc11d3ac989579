-- Which leaves have a group to issue.
use Rattle.std.proofs.Common.{◌≡◌, ℕ, suc, ◌+◌, ◌<◌, List, [], ◌∷◌, ◌++◌, length, drop, get_or, map, Bool, true, false, ◌&&◌, ◌||◌, cond, Option, Some, None, find, refl, sym, ap, subst, ◌∙◌, arith}
use Rattle.std.specs.Prelude.{◌==◌, is_some, nat_lt, slice_index_or}
use Rattle.std.specs.List.{list_any}
use Rattle.std.proofs.lemmas.Bool.{false≢true}
use Rattle.zio_types.specs.declared.request.Prio.{Prio}
use Rattle.zio_types.specs.declared.request.Prio.TheVariants.{SyncRead, SyncWrite, AsyncRead, AsyncWrite, Scrub}
use Rattle.zio_vqueue.specs.declared.op.Op.{Op}
use Rattle.zio_vqueue.specs.Classes.{class_number, classes, maximum_of, minimum_of}
use Rattle.zio_vqueue.specs.Queues.{Queue, eligible, is_due, is_in_class, or_else}
use Rattle.zio_vqueue.proofs.IndexLemmas.{drop_at}
use Rattle.zio_groups.specs.declared.waiting.QueuedOp.{QueuedOp}
use Rattle.zio_groups.specs.LeafQueues.{Waits, ops_of}
use Rattle.zio_turns.specs.AtLeaves.{IsIdle, eligible_from, has_group, keys_at, no_waits}

-- ---- where something waits

this_one : (b : Bool) (c : Prio) (rest : Option Prio) → b ≡ true → is_some (cond b (Some c) rest) ≡ true
this_one true c rest e = refl
this_one false c rest e = absurd (false≢true e)

a_later : (b : Bool) (c : Prio) (rest : Option Prio) → is_some rest ≡ true → is_some (cond b (Some c) rest) ≡ true
a_later true c rest e = refl
a_later false c rest e = e

-- of the classes one passes the test
one_found : (test : Prio → Bool) (c : Prio) → test c ≡ true → is_some (find test classes) ≡ true
one_found test SyncRead e = this_one (test SyncRead) SyncRead _ e
one_found test SyncWrite e = a_later (test SyncRead) SyncRead _ (this_one (test SyncWrite) SyncWrite _ e)
one_found test AsyncRead e =
    a_later (test SyncRead) SyncRead _ (a_later (test SyncWrite) SyncWrite _ (this_one (test AsyncRead) AsyncRead _ e))
one_found test AsyncWrite e =
    a_later (test SyncRead) SyncRead _ (a_later (test SyncWrite) SyncWrite _
    (a_later (test AsyncRead) AsyncRead _ (this_one (test AsyncWrite) AsyncWrite _ e)))
one_found test Scrub e =
    a_later (test SyncRead) SyncRead _ (a_later (test SyncWrite) SyncWrite _
    (a_later (test AsyncRead) AsyncRead _ (a_later (test AsyncWrite) AsyncWrite _ (this_one (test Scrub) Scrub _ e))))

abbrev idle_queue : Op → List Op → ℕ → Queue
idle_queue o os last = record { queued = o ∷ os; active = 0 ∷ 0 ∷ 0 ∷ 0 ∷ 0 ∷ []; last = last }

-- the class of an operation that waits in an idle queue is due
due_by : (prio : Prio) (rest : Bool) → (((class_number prio == class_number prio) || rest) && nat_lt
    (get_or (0 ∷ 0 ∷ 0 ∷ 0 ∷ 0 ∷ []) (class_number prio) 0) (minimum_of prio)) ≡ true
due_by SyncRead rest = refl
due_by SyncWrite rest = refl
due_by AsyncRead rest = refl
due_by AsyncWrite rest = refl
due_by Scrub rest = refl

either : (a b : Option Prio) → is_some a ≡ true → is_some (or_else a b) ≡ true
either (Some c) b e = refl
either None b e = absurd (false≢true e)

idle_has : (o : Op) (os : List Op) (last : ℕ) → is_some (eligible (idle_queue o os last)) ≡ true
idle_has o os last =
    either (find (is_due minimum_of (idle_queue o os last)) classes) (find (is_due maximum_of (idle_queue o os last)) classes)
    (one_found (is_due minimum_of (idle_queue o os last)) o.prio (due_by o.prio (list_any (is_in_class o.prio) os)))

-- an idle queue without a group has nothing waiting
none_waits : (waiting : List QueuedOp) (active : List ℕ) (last : ℕ) → active ≡ 0 ∷ 0 ∷ 0 ∷ 0 ∷ 0 ∷ []
    → is_some (eligible (record { queued = ops_of waiting; active = active; last = last })) ≡ false → waiting ≡ []
none_waits [] active last idle none = refl
none_waits (w ∷ ws) active last idle none =
    let has : is_some (eligible (record { queued = ops_of (w ∷ ws); active = active; last = last })) ≡ true =
    subst (λ (a : List ℕ). is_some (eligible (record { queued = ops_of (w ∷ ws); active = a; last = last })) ≡ true) (sym idle)
    (idle_has w.op (ops_of ws) last) in
    absurd (false≢true (sym none ∙ has))

-- ---- leaves one after another

some_length : (b : Bool) (n : ℕ) (ns : List ℕ) → length (cond b (n ∷ ns) ns) ≡ 0 → (b ≡ false) × (length ns ≡ 0)
some_length true n ns h = absurd (omega arith)
some_length false n ns h = (refl, h)

pub none_eligible : (n : ℕ) (leaves : List Waits) → ((leaf : ℕ) → IsIdle (slice_index_or leaves leaf no_waits)) → length
    (eligible_from n leaves) ≡ 0 → keys_at leaves ≡ []
none_eligible n [] idle h = refl
none_eligible n (q ∷ qs) idle h =
    let both = some_length (has_group q) n (eligible_from (n + 1) qs) h in
    let here : q.waiting ≡ [] = none_waits q.waiting q.active q.last (idle 0) both.0 in
    let rest : keys_at qs ≡ [] = none_eligible (n + 1) qs (λ leaf. idle (suc leaf)) both.1 in
    λ i. map (λ (w : QueuedOp). w.op.ticket) (here i) ++ rest i

-- from the next leaf on
pub eligible_next : (leaves : List Waits) (leaf : ℕ) → leaf < length leaves
    → eligible_from leaf (drop leaf leaves) ≡ cond (has_group (get_or leaves leaf no_waits))
    (leaf ∷ eligible_from (leaf + 1) (drop (leaf + 1) leaves)) (eligible_from (leaf + 1) (drop (leaf + 1) leaves))
eligible_next leaves leaf h = ap (eligible_from leaf) (drop_at leaf leaves no_waits h)
