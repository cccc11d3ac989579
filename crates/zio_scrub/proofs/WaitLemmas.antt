-- Which tickets wait at a leaf once an operation was put or a group was issued.
use Rattle.std.proofs.Common.{◌≡◌, ◌≢◌, ℕ, zero, suc, ◌+◌, ◌<◌, ◌≤◌, List, [], ◌∷◌, ◌++◌, length, get_or, get_or-set_same, get_or-set_other, length-set, set, Bool, true, false, ◌&&◌, ◌||◌, not, cond, filter, ◌⊎◌, find, Option, Some, None, replicate, Result, Ok, Err, IfOk, OnOk, inl, inr, refl, sym, ap, subst, ◌∙◌, arith, Contains, ⊎_elim}
use Rattle.std.specs.Prelude.{◌==◌, is_some, nat_lt}
use Rattle.std.specs.List.{AllByRecursion, list_any}
use Rattle.std.proofs.lemmas.Bool.{cases_eq, cases_lt, false≢true}
use Rattle.std.proofs.lemmas.List.{get_or_read, length-map, map-append}
use Rattle.zio_types.specs.declared.request.Prio.{Prio}
use Rattle.zio_types.specs.declared.request.Prio.TheVariants.{SyncRead, SyncWrite, AsyncRead, AsyncWrite, Scrub}
use Rattle.std.proofs.lemmas.Bool.Decides.{nat_tests}
use Rattle.zio_vqueue.specs.declared.op.Op.{Op}
use Rattle.zio_vqueue.specs.Classes.{class_number, classes, maximum_of, minimum_of}
use Rattle.zio_vqueue.specs.Queues.{AreApart, Queue, eligible, is_due, is_in_class, is_queued, or_else}
use Rattle.zio_cksum.specs.Images.{Setting}
use Rattle.zio_cksum.proofs.AllLemmas.{all_append, all_contained, all_contains, all_filter, all_weaker}
use Rattle.zio_groups.specs.declared.waiting.QueuedOp.{QueuedOp}
use Rattle.zio_groups.specs.declared.waiting.Answered.{Answered}
use Rattle.zio_groups.specs.LeafQueues.{IsIssued, Waits, ops_of, queue_of, waiting_without}
use Rattle.zio_groups.proofs.GroupLemmas.{members_apart, span_some}
use Rattle.zio_disks.specs.declared.setting.Stop.{Stop}
use Rattle.zio_scrub.specs.Queues.{AllWait, AreIssued, HaveAll, IsOrdered, IsPut, no_waits, waiting_at, waits_at}
use Rattle.zio_scrub.proofs.PickLemmas.{all_got}
use Rattle.zio_scrub.specs.Scrubs.{total}

-- ---- without the tickets of some

abbrev others_than : ℕ → List QueuedOp → List QueuedOp
others_than ticket ws = filter (λ (w : QueuedOp). not (w.op.ticket == ticket)) ws

queued_if : (b : Bool) (t : ℕ) (w : QueuedOp) (ws : List QueuedOp)
    → is_queued t (ops_of (cond b (w ∷ ws) ws)) ≡ ((b && (w.op.ticket == t)) || is_queued t (ops_of ws))
queued_if true t w ws = refl
queued_if false t w ws = refl

drop_test : (w m t : ℕ) (q : Bool) → ((not (w == m) && (w == t)) || (q && not (m == t))) ≡ (((w == t) || q) && not (m == t))
drop_test w m t q = grind (arith, nat_tests)

queued_others : (t m : ℕ) (ws : List QueuedOp)
    → is_queued t (ops_of (others_than m ws)) ≡ (is_queued t (ops_of ws) && not (m == t))
queued_others t m [] = refl
queued_others t m (w ∷ ws) =
    queued_if (not (w.op.ticket == m)) t w (others_than m ws)
    ∙ ap (λ (q : Bool). (not (w.op.ticket == m) && (w.op.ticket == t)) || q) (queued_others t m ws)
    ∙ drop_test w.op.ticket m t (is_queued t (ops_of ws))

both_gone : (q a b : Bool) → ((q && not a) && not b) ≡ (q && not (a || b))
both_gone true true b = refl
both_gone true false b = refl
both_gone false a b = refl

pub queued_without : (t : ℕ) (ms ws : List QueuedOp)
    → is_queued t (ops_of (waiting_without (ops_of ms) ws)) ≡ (is_queued t (ops_of ws) && not (is_queued t (ops_of ms)))
queued_without t [] ws = by (is_queued t (ops_of ws))
  where
    by : (q : Bool) → q ≡ (q && not false)
    by true = refl
    by false = refl
queued_without t (m ∷ ms) ws =
    queued_without t ms (others_than m.op.ticket ws)
    ∙ ap (λ (q : Bool). q && not (is_queued t (ops_of ms))) (queued_others t m.op.ticket ws)
    ∙ both_gone (is_queued t (ops_of ws)) (m.op.ticket == t) (is_queued t (ops_of ms))

all_without : (P : QueuedOp → Type 0) (ms ws : List QueuedOp) → AllByRecursion P ws → AllByRecursion P
    (waiting_without (ops_of ms) ws)
all_without P [] ws h = h
all_without P (m ∷ ms) ws h =
    all_without P ms (others_than m.op.ticket ws)
    (all_filter P (λ (w : QueuedOp). not (w.op.ticket == m.op.ticket)) ws
    (all_weaker P (λ (w : QueuedOp). not (w.op.ticket == m.op.ticket) ≡ true → P w) ws (λ w p e. p) h))

pub still_among : (ms ws : List QueuedOp) → AllByRecursion (Contains ws) (waiting_without (ops_of ms) ws)
still_among ms ws = all_without (Contains ws) ms ws (all_contained ws)

-- ---- how many wait

length_if : (b : Bool) (w : QueuedOp) (ws : List QueuedOp) → length (cond b (w ∷ ws) ws) ≡ cond b 1 0 + length ws
length_if true w ws = omega arith
length_if false w ws = omega arith

one_most : (b : Bool) → cond b 1 0 ≤ 1
one_most true = omega arith
one_most false = omega arith

others_most : (t : ℕ) (ws : List QueuedOp) → length (others_than t ws) ≤ length ws
others_most t [] = omega arith
others_most t (w ∷ ws) =
    omega (arith, length_if (not (w.op.ticket == t)) w (others_than t ws), one_most (not (w.op.ticket == t)), others_most t ws)

without_most : (ms ws : List QueuedOp) → length (waiting_without (ops_of ms) ws) ≤ length ws
without_most [] ws = omega arith
without_most (m ∷ ms) ws = omega (arith, without_most ms (others_than m.op.ticket ws), others_most m.op.ticket ws)

itself : (t : ℕ) → (t == t) ≡ true
itself t = grind (arith, nat_tests)

others_less : (m : QueuedOp) (ws : List QueuedOp) → Contains ws m → length (others_than m.op.ticket ws) < length ws
others_less m ws c = all_contains (λ (v : QueuedOp). length (others_than v.op.ticket ws) < length ws) ws m (all ws) c
  where
    gone : (w : QueuedOp) (vs : List QueuedOp) → length (others_than w.op.ticket (w ∷ vs)) < length (w ∷ vs)
    gone w vs =
        let e : not (w.op.ticket == w.op.ticket) ≡ false = ap not (itself w.op.ticket) in
        let f : length (others_than w.op.ticket (w ∷ vs)) ≡ length (others_than w.op.ticket vs) =
        ap (λ (b : Bool). length (cond b (w ∷ others_than w.op.ticket vs) (others_than w.op.ticket vs))) e in
        omega (arith, f, others_most w.op.ticket vs)

    more : (w : QueuedOp) (vs : List QueuedOp) (v : QueuedOp) → length (others_than v.op.ticket vs) < length vs
        → length (others_than v.op.ticket (w ∷ vs)) < length (w ∷ vs)
    more w vs v h = omega (arith, length_if (not (w.op.ticket == v.op.ticket)) w (others_than v.op.ticket vs), one_most (not (w.op.ticket == v.op.ticket)), h)

    all : (vs : List QueuedOp) → AllByRecursion (λ (v : QueuedOp). length (others_than v.op.ticket vs) < length vs) vs
    all [] = tt
    all (w ∷ vs) = (
      gone w vs,
      all_weaker (λ (v : QueuedOp). length (others_than v.op.ticket vs) < length vs)
          (λ (v : QueuedOp). length (others_than v.op.ticket (w ∷ vs)) < length (w ∷ vs)) vs (λ v h. more w vs v h) (all vs),
    )

pub without_less : (ms ws : List QueuedOp) → 0 < length ms → AllByRecursion (Contains ws) ms
    → length (waiting_without (ops_of ms) ws) < length ws
without_less [] ws some among = absurd (omega arith)
without_less (m ∷ ms) ws some among = omega (arith, without_most ms (others_than m.op.ticket ws), others_less m ws among.0)

pub total_set : {X : Type 0} (f : X → ℕ) (xs : List X) (i : ℕ) (x y : X) → i < length xs → get_or xs i x ≡ x
    → total f (set xs i y) + f x ≡ total f xs + f y
total_set f [] i x y l e = absurd (omega arith)
total_set f (z ∷ zs) zero x y l e = let h : f z ≡ f x = ap f e in omega (arith, h)
total_set f (z ∷ zs) (suc i) x y l e = omega (arith, total_set f zs i x y (omega arith) e)

-- ---- what an operation that is put adds

apart_push : (os : List Op) (o : Op) → AreApart os → is_queued o.ticket os ≡ false → AreApart (os ++ o ∷ [])
apart_push [] o h e = (refl, tt)
apart_push (p ∷ os) o h e =
    let here = neither (p.ticket == o.ticket) (is_queued o.ticket os) e in
    (queued_push p.ticket os o h.0 (turned p.ticket o.ticket here.0), apart_push os o h.1 here.1)
  where
    neither : (a b : Bool) → (a || b) ≡ false → (a ≡ false) × (b ≡ false)
    neither true b e = let no : ⊥ = cc in absurd no
    neither false b e = (refl, e)

    turned : (a b : ℕ) → (a == b) ≡ false → (b == a) ≡ false
    turned a b e = grind (arith, nat_tests)

    queued_push : (t : ℕ) (os : List Op) (o : Op) → is_queued t os ≡ false → (o.ticket == t) ≡ false → is_queued t (os ++ o ∷ []) ≡ false
    queued_push t [] o h e = ap (λ (b : Bool). b || false) e
    queued_push t (p ∷ os) o h e =
        let here = neither (p.ticket == t) (is_queued t os) h in
        ap (λ (b : Bool). b || is_queued t (os ++ o ∷ [])) here.0 ∙ queued_push t os o here.1 e

-- ---- leaves of a list

pub ordered_at : (leaves : List Waits) (i : ℕ) (q : Waits) → i < length leaves → get_or leaves i q ≡ q → AllByRecursion IsOrdered leaves → IsOrdered q
ordered_at leaves i q l e h = all_got IsOrdered leaves i q l e h

pub all_set : {X : Type 0} (P : X → Type 0) (xs : List X) (i : ℕ) (y : X) → P y → AllByRecursion P xs → AllByRecursion P (set xs i y)
all_set P [] i y p h = tt
all_set P (x ∷ xs) zero y p h = (p, h.1)
all_set P (x ∷ xs) (suc i) y p h = (h.0, all_set P xs i y p h.1)

pub put_now : (leaves : List Waits) (leaf : ℕ) (q new : Waits) (w : QueuedOp) → leaf < length leaves → get_or leaves leaf q ≡ q
    → new ≡ record q { waiting = q.waiting ++ w ∷ [] } → IsPut leaf w leaves (set leaves leaf new)
put_now leaves leaf q new w l e is =
    let here : get_or (set leaves leaf new) leaf no_waits ≡ new = get_or-set_same leaves leaf new no_waits l in
    let was : get_or leaves leaf no_waits ≡ q = sym (get_or_read leaves leaf q l (sym e) no_waits) in
    record {
      here = ap (λ (x : Waits). x.waiting) here ∙ ap (λ (x : Waits). x.waiting) is ∙ ap (λ (x : Waits). x.waiting ++ w ∷ []) (sym was);
      others = λ other ne. ap (λ (x : Waits). x.waiting) (get_or-set_other leaves leaf other new no_waits ne);
      count = length-set leaves leaf new;
    }

pub put_order : (leaves : List Waits) (leaf : ℕ) (q new : Waits) (w : QueuedOp) → leaf < length leaves → get_or leaves leaf q ≡ q
    → new ≡ record q { waiting = q.waiting ++ w ∷ [] } → AllByRecursion IsOrdered leaves → waits_at leaves leaf w.op.ticket ≡ false
    → AllByRecursion IsOrdered (set leaves leaf new)
put_order leaves leaf q new w l e is order apart =
    let was : get_or leaves leaf no_waits ≡ q = sym (get_or_read leaves leaf q l (sym e) no_waits) in
    let o : IsOrdered q = ordered_at leaves leaf q l e order in
    let free : is_queued w.op.ticket (ops_of q.waiting) ≡ false = subst (λ (x : Waits). is_queued w.op.ticket (ops_of x.waiting) ≡ false) was apart in
    let pushed : AreApart (ops_of (q.waiting ++ w ∷ [])) =
    subst AreApart (sym (map-append (λ (v : QueuedOp). v.op) q.waiting (w ∷ []))) (apart_push (ops_of q.waiting) w.op o.apart free) in
    all_set IsOrdered leaves leaf new
    (subst IsOrdered (sym is) (record { idle = o.idle; apart = pushed }))
    order

pub fresh_order : (n : ℕ) → AllByRecursion IsOrdered (replicate n no_waits)
fresh_order zero = tt
fresh_order (suc n) = (record { idle = refl; apart = tt }, fresh_order n)

-- ---- a group that is issued

apart_if : (b : Bool) (w : QueuedOp) (ws : List QueuedOp) → AreApart (ops_of (w ∷ ws)) → AreApart (ops_of (cond b (w ∷ ws) ws))
apart_if true w ws h = h
apart_if false w ws h = h.1

apart_others : (t : ℕ) (ws : List QueuedOp) → AreApart (ops_of ws) → AreApart (ops_of (others_than t ws))
apart_others t [] h = tt
apart_others t (w ∷ ws) h =
    apart_if (not (w.op.ticket == t)) w (others_than t ws)
    (queued_others w.op.ticket t ws ∙ ap (λ (q : Bool). q && not (t == w.op.ticket)) h.0, apart_others t ws h.1)

apart_left : (ms ws : List QueuedOp) → AreApart (ops_of ws) → AreApart (ops_of (waiting_without (ops_of ms) ws))
apart_left [] ws h = h
apart_left (m ∷ ms) ws h = apart_left ms (others_than m.op.ticket ws) (apart_others m.op.ticket ws h)

-- what the queue holds after
left_is : {D : Type 0} (image : D → List ℕ → Type 0) (s : Setting) (leaf : ℕ) (q new : Waits) (before after : List D) (answers : List Answered)
    → (h : IsIssued image s leaf q new before after answers) → new.waiting ≡ waiting_without (ops_of h.members) q.waiting
left_is image s leaf q new before after answers h =
    ap (λ (x : Waits). x.waiting) h.left ∙ ap (λ (os : List Op). waiting_without os q.waiting) (sym h.ops)

pub issued_now : {D : Type 0} (image : D → List ℕ → Type 0) (s : Setting) (leaves : List Waits) (leaf : ℕ) (q new : Waits)
    (before after : List D) (answers : List Answered) → leaf < length leaves → get_or leaves leaf q ≡ q → AllByRecursion IsOrdered leaves
    → IsIssued image s leaf q new before after answers → AreIssued image s leaf leaves (set leaves leaf new) before after answers
issued_now {D} image s leaves leaf q new before after answers l e order h =
    let here : get_or (set leaves leaf new) leaf no_waits ≡ new = get_or-set_same leaves leaf new no_waits l in
    let was : get_or leaves leaf no_waits ≡ q = sym (get_or_read leaves leaf q l (sym e) no_waits) in
    let o : IsOrdered q = ordered_at leaves leaf q l e order in
    let some_ops : 0 < length h.group.ops = span_some h.group h.group.ops h.next.span in
    let some : 0 < length h.members =
    omega (arith, ap (λ (os : List Op). length os) h.ops, length-map h.members (λ (w : QueuedOp). w.op)) in
    let left : new.waiting ≡ waiting_without (ops_of h.members) q.waiting = left_is image s leaf q new before after answers h in
    let at_new : waiting_at (set leaves leaf new) leaf ≡ waiting_without (ops_of h.members) q.waiting =
    ap (λ (x : Waits). x.waiting) here ∙ left in
    let at_old : q.waiting ≡ waiting_at leaves leaf = ap (λ (x : Waits). x.waiting) (sym was) in
    let among : AllByRecursion (Contains (waiting_at leaves leaf)) h.members =
    subst (λ (ws : List QueuedOp). AllByRecursion (Contains ws) h.members) at_old h.among in
    record {
      members = h.members;
      among = among;
      apart = subst AreApart (sym h.ops) (members_apart (ops_of q.waiting) h.next.first h.group.ops h.next.members o.apart);
      left = λ t. ap (λ (ws : List QueuedOp). is_queued t (ops_of ws)) at_new ∙ queued_without t h.members q.waiting
          ∙ ap (λ (ws : List QueuedOp). is_queued t (ops_of ws) && not (is_queued t (ops_of h.members))) at_old;
      stay = subst (λ (ws : List QueuedOp). AllByRecursion (Contains (waiting_at leaves leaf)) ws) (sym at_new)
          (subst (λ (ws : List QueuedOp). AllByRecursion (Contains ws) (waiting_without (ops_of h.members) q.waiting)) at_old
          (still_among h.members q.waiting));
      others = λ other ne. ap (λ (x : Waits). x.waiting) (get_or-set_other leaves leaf other new no_waits ne);
      count = length-set leaves leaf new;
      fewer = let less = without_less h.members q.waiting some h.among in
          let same : length new.waiting ≡ length (waiting_without (ops_of h.members) q.waiting) = ap (λ (ws : List QueuedOp). length ws) left in
          let both = total_set (λ (x : Waits). length x.waiting) leaves leaf q new l e in
          omega (arith, both, less, same);
      told = h.told;
      heads = h.heads;
      whole = h.whole;
    }

pub issued_order : {D : Type 0} (image : D → List ℕ → Type 0) (s : Setting) (leaves : List Waits) (leaf : ℕ) (q new : Waits)
    (before after : List D) (answers : List Answered) → leaf < length leaves → get_or leaves leaf q ≡ q → AllByRecursion IsOrdered leaves
    → IsIssued image s leaf q new before after answers → AllByRecursion IsOrdered (set leaves leaf new)
issued_order {D} image s leaves leaf q new before after answers l e order h =
    let o : IsOrdered q = ordered_at leaves leaf q l e order in
    all_set IsOrdered leaves leaf new
    (record {
      idle = ap (λ (x : Waits). x.active) h.left ∙ o.idle;
      apart = subst (λ (ws : List QueuedOp). AreApart (ops_of ws)) (sym (left_is image s leaf q new before after answers h))
          (apart_left h.members q.waiting o.apart);
    }) order

-- ---- where nothing is eligible

this_one : (b : Bool) (c : Prio) (rest : Option Prio) → b ≡ true → is_some (cond b (Some c) rest) ≡ true
this_one true c rest e = refl
this_one false c rest e = absurd (false≢true e)

a_later : (b : Bool) (c : Prio) (rest : Option Prio) → is_some rest ≡ true → is_some (cond b (Some c) rest) ≡ true
a_later true c rest e = refl
a_later false c rest e = e

-- of the classes one passes the test
one_found : (test : Prio → Bool) (c : Prio) → test c ≡ true → is_some (find test classes) ≡ true
one_found test SyncRead e = this_one (test SyncRead) SyncRead _ e
one_found test SyncWrite e = a_later (test SyncRead) SyncRead _ (this_one (test SyncWrite) SyncWrite _ e)
one_found test AsyncRead e =
    a_later (test SyncRead) SyncRead _ (a_later (test SyncWrite) SyncWrite _ (this_one (test AsyncRead) AsyncRead _ e))
one_found test AsyncWrite e =
    a_later (test SyncRead) SyncRead _ (a_later (test SyncWrite) SyncWrite _
    (a_later (test AsyncRead) AsyncRead _ (this_one (test AsyncWrite) AsyncWrite _ e)))
one_found test Scrub e =
    a_later (test SyncRead) SyncRead _ (a_later (test SyncWrite) SyncWrite _
    (a_later (test AsyncRead) AsyncRead _ (a_later (test AsyncWrite) AsyncWrite _ (this_one (test Scrub) Scrub _ e))))

abbrev idle_queue : Op → List Op → ℕ → Queue
idle_queue o os last = record { queued = o ∷ os; active = 0 ∷ 0 ∷ 0 ∷ 0 ∷ 0 ∷ []; last = last }

-- the class of an operation that waits in an idle queue is due
due_by : (prio : Prio) (rest : Bool) → (((class_number prio == class_number prio) || rest) && nat_lt
    (get_or (0 ∷ 0 ∷ 0 ∷ 0 ∷ 0 ∷ []) (class_number prio) 0) (minimum_of prio)) ≡ true
due_by SyncRead rest = refl
due_by SyncWrite rest = refl
due_by AsyncRead rest = refl
due_by AsyncWrite rest = refl
due_by Scrub rest = refl

either : (a b : Option Prio) → is_some a ≡ true → is_some (or_else a b) ≡ true
either (Some c) b e = refl
either None b e = absurd (false≢true e)

idle_has : (o : Op) (os : List Op) (last : ℕ) → is_some (eligible (idle_queue o os last)) ≡ true
idle_has o os last =
    either (find (is_due minimum_of (idle_queue o os last)) classes) (find (is_due maximum_of (idle_queue o os last)) classes)
    (one_found (is_due minimum_of (idle_queue o os last)) o.prio (due_by o.prio (list_any (is_in_class o.prio) os)))

-- an idle queue without a group has nothing waiting
none_waits : (waiting : List QueuedOp) (active : List ℕ) (last : ℕ) → active ≡ 0 ∷ 0 ∷ 0 ∷ 0 ∷ 0 ∷ []
    → is_some (eligible (record { queued = ops_of waiting; active = active; last = last })) ≡ false → waiting ≡ []
none_waits [] active last idle none = refl
none_waits (w ∷ ws) active last idle none =
    let has : is_some (eligible (record { queued = ops_of (w ∷ ws); active = active; last = last })) ≡ true =
    subst (λ (a : List ℕ). is_some (eligible (record { queued = ops_of (w ∷ ws); active = a; last = last })) ≡ true) (sym idle)
    (idle_has w.op (ops_of ws) last) in
    absurd (false≢true (sym none ∙ has))

abbrev pub has_group : Waits → Bool
has_group q = is_some (eligible (queue_of q))

pub none_anywhere : (leaves : List Waits) → AllByRecursion IsOrdered leaves
    → ((leaf : ℕ) → leaf < length leaves → has_group (get_or leaves leaf no_waits) ≡ false)
    → (leaf : ℕ) → waiting_at leaves leaf ≡ []
none_anywhere [] order none leaf = refl
none_anywhere (q ∷ qs) order none zero = none_waits q.waiting q.active q.last order.0.idle (none 0 (omega arith))
none_anywhere (q ∷ qs) order none (suc leaf) = none_anywhere qs order.1 (λ k l. none (suc k) (omega arith)) leaf

pub order_if : {D : Type 0} (image : D → List ℕ → Type 0) (s : Setting) (leaves : List Waits) (leaf : ℕ) (q new : Waits)
    (before after : List D) (answer : Result (List Answered) Stop) → leaf < length leaves → get_or leaves leaf q ≡ q → AllByRecursion IsOrdered leaves
    → IfOk answer (IsIssued image s leaf q new before after) → OnOk answer (AllByRecursion IsOrdered (set leaves leaf new))
order_if image s leaves leaf q new before after (Ok answers) l e order h = issued_order image s leaves leaf q new before after answers l e order h
order_if image s leaves leaf q new before after (Err stop) l e order h = tt

-- ---- what waits, by numbers

all_empty : (P : ℕ → QueuedOp → Type 0) (n leaf : ℕ) → AllByRecursion (P leaf) (waiting_at (replicate n no_waits) leaf)
all_empty P zero leaf = tt
all_empty P (suc n) zero = tt
all_empty P (suc n) (suc leaf) = all_empty (λ (k : ℕ). P (suc k)) n leaf

none_queued : (n leaf t : ℕ) → waits_at (replicate n no_waits) leaf t ≡ false
none_queued zero leaf t = refl
none_queued (suc n) zero t = refl
none_queued (suc n) (suc leaf) t = none_queued n leaf t

pub have_none : (P : ℕ → QueuedOp → Type 0) (leaf_of : ℕ → ℕ) (n : ℕ) (leaves : List Waits) → leaves ≡ replicate n no_waits → HaveAll P leaf_of 0 leaves
have_none P leaf_of n leaves is = subst (HaveAll P leaf_of 0) (sym is) (record {
  all = λ leaf. all_empty P n leaf;
  wait = λ t l. absurd (omega arith);
  no_other = λ leaf t l. none_queued n leaf t;
})

queued_end : (t : ℕ) (ws : List QueuedOp) (w : QueuedOp) → is_queued t (ops_of (ws ++ w ∷ [])) ≡ (is_queued t (ops_of ws) || (w.op.ticket == t))
queued_end t [] w = by (w.op.ticket == t)
  where
    by : (b : Bool) → (b || false) ≡ b
    by true = refl
    by false = refl
queued_end t (v ∷ ws) w = ap (λ (b : Bool). (v.op.ticket == t) || b) (queued_end t ws w) ∙ by (v.op.ticket == t) (is_queued t (ops_of ws)) (w.op.ticket == t)
  where
    by : (a b c : Bool) → (a || (b || c)) ≡ ((a || b) || c)
    by true b c = refl
    by false b c = refl

pub have_more : (P : ℕ → QueuedOp → Type 0) (leaf_of : ℕ → ℕ) (n m leaf : ℕ) (w : QueuedOp) (old new : List Waits) → HaveAll P leaf_of n old
    → IsPut leaf w old new → w.op.ticket ≡ n → leaf_of n ≡ leaf → m ≡ n + 1 → P leaf w → HaveAll P leaf_of m new
have_more P leaf_of n m leaf w old new h put ticket at more p = record {
  all = λ other. by_leaf (λ (k : ℕ). AllByRecursion (P k) (waiting_at new k)) other leaf
      (subst (AllByRecursion (P leaf)) (sym put.here) (all_append (P leaf) (waiting_at old leaf) (w ∷ []) (h.all leaf) (p, tt)))
      (λ ne. subst (AllByRecursion (P other)) (sym (put.others other ne)) (h.all other));
  wait = λ t l. waits t l (cases_lt t n);
  no_other = λ other t l. by_leaf (λ (k : ℕ). waits_at new k t ≡ false) other leaf
      (ap (λ (ws : List QueuedOp). is_queued t (ops_of ws)) put.here ∙ queued_end t (waiting_at old leaf) w
      ∙ neither (is_queued t (ops_of (waiting_at old leaf))) (w.op.ticket == t) (h.no_other leaf t (omega arith)) (differ w.op.ticket t (omega arith)))
      (λ ne. ap (λ (ws : List QueuedOp). is_queued t (ops_of ws)) (put.others other ne) ∙ h.no_other other t (omega arith));
}
  where
    by_leaf : (Q : ℕ → Type 0) (other leaf : ℕ) → Q leaf → (other ≢ leaf → Q other) → Q other
    by_leaf Q other leaf here there = ⊎_elim (λ (e : other ≡ leaf). subst Q (sym e) here) (λ (ne : other ≢ leaf). there ne) (cases_eq other leaf)

    neither : (a b : Bool) → a ≡ false → b ≡ false → (a || b) ≡ false
    neither a b e f = ap (λ (x : Bool). x || b) e ∙ f

    differ : (a b : ℕ) → a < b → (a == b) ≡ false
    differ a b l = grind (arith, nat_tests)

    same : (a b : ℕ) → a ≡ b → (a == b) ≡ true
    same a b l = grind (arith, nat_tests)

    or_left : (a b : Bool) → a ≡ true → (a || b) ≡ true
    or_left a b e = ap (λ (x : Bool). x || b) e

    or_right : (a b : Bool) → b ≡ true → (a || b) ≡ true
    or_right true b e = refl
    or_right false b e = e

    still : (t k : ℕ) → waits_at old k t ≡ true → waits_at new k t ≡ true
    still t k e = by_leaf2 k (ap (λ (ws : List QueuedOp). is_queued t (ops_of ws)) put.here ∙ queued_end t (waiting_at old leaf) w) e
      where
        by_leaf2 : (k : ℕ) → waits_at new leaf t ≡ (waits_at old leaf t || (w.op.ticket == t)) → waits_at old k t ≡ true → waits_at new k t ≡ true
        by_leaf2 k here e =
            ⊎_elim
            (λ (q : k ≡ leaf). subst (λ (j : ℕ). waits_at new j t ≡ true) (sym q)
            (here ∙ or_left (waits_at old leaf t) (w.op.ticket == t) (subst (λ (j : ℕ). waits_at old j t ≡ true) q e)))
            (λ (ne : k ≢ leaf). ap (λ (ws : List QueuedOp). is_queued t (ops_of ws)) (put.others k ne) ∙ e)
            (cases_eq k leaf)

    waits : (t : ℕ) → t < m → (t < n) ⊎ (n ≤ t) → waits_at new (leaf_of t) t ≡ true
    waits t l (inl early) = still t (leaf_of t) (h.wait t early)
    waits t l (inr late) =
        let e : n ≡ t = omega arith in
        subst (λ (k : ℕ). waits_at new (leaf_of k) k ≡ true) e
        (subst (λ (k : ℕ). waits_at new k n ≡ true) (sym at)
        (ap (λ (ws : List QueuedOp). is_queued n (ops_of ws)) put.here ∙ queued_end n (waiting_at old leaf) w
        ∙ or_right (is_queued n (ops_of (waiting_at old leaf))) (w.op.ticket == n) (same w.op.ticket n ticket)))

-- what waits still is what waited, but for the group
pub still_waits : {D : Type 0} (image : D → List ℕ → Type 0) (s : Setting) (P : ℕ → QueuedOp → Type 0) (leaf : ℕ) (old new : List Waits)
    (before after : List D) (answers : List Answered) → AllWait P old → AreIssued image s leaf old new before after answers → AllWait P new
still_waits image s P leaf old new before after answers all h = λ other.
    ⊎_elim
    (λ (q : other ≡ leaf). subst (λ (k : ℕ). AllByRecursion (P k) (waiting_at new k)) (sym q)
    (all_weaker (Contains (waiting_at old leaf)) (P leaf) (waiting_at new leaf) (λ w c. all_contains (P leaf) (waiting_at old leaf) w (all leaf) c) h.stay))
    (λ (ne : other ≢ leaf). subst (AllByRecursion (P other)) (sym (h.others other ne)) (all other))
    (cases_eq other leaf)

elsewhere : (leaf_of : ℕ → ℕ) (leaf t : ℕ) (ws : List QueuedOp) → AllByRecursion (λ (w : QueuedOp). leaf_of w.op.ticket ≡ leaf) ws
    → (leaf_of t ≡ leaf → ⊥) → is_queued t (ops_of ws) ≡ false
elsewhere leaf_of leaf t [] h ne = refl
elsewhere leaf_of leaf t (w ∷ ws) h ne =
    ap (λ (b : Bool). b || is_queued t (ops_of ws)) (differ w.op.ticket t (λ e. ne (subst (λ (k : ℕ). leaf_of k ≡ leaf) e h.0)))
    ∙ elsewhere leaf_of leaf t ws h.1 ne
  where
    differ : (a b : ℕ) → (a ≡ b → ⊥) → (a == b) ≡ false
    differ a b l = grind (arith, nat_tests)

-- by its number each waits as before, but for the group
pub numbers_left : {D : Type 0} (image : D → List ℕ → Type 0) (s : Setting) (leaf_of : ℕ → ℕ) (leaf : ℕ) (old new : List Waits)
    (before after : List D) (answers : List Answered) → (h : AreIssued image s leaf old new before after answers)
    → AllByRecursion (λ (w : QueuedOp). leaf_of w.op.ticket ≡ leaf) h.members
    → (t : ℕ) → waits_at new (leaf_of t) t ≡ (waits_at old (leaf_of t) t && not (is_queued t (ops_of h.members)))
numbers_left image s leaf_of leaf old new before after answers h at t =
    ⊎_elim
    (λ (q : leaf_of t ≡ leaf). subst (λ (k : ℕ). waits_at new k t ≡ (waits_at old k t && not (is_queued t (ops_of h.members)))) (sym q) (h.left t))
    (λ (ne : leaf_of t ≢ leaf).
    ap (λ (ws : List QueuedOp). is_queued t (ops_of ws)) (h.others (leaf_of t) ne)
    ∙ by (waits_at old (leaf_of t) t) (is_queued t (ops_of h.members)) (elsewhere leaf_of leaf t h.members at ne))
    (cases_eq (leaf_of t) leaf)
  where
    by : (a b : Bool) → b ≡ false → a ≡ (a && not b)
    by true b e = sym (ap not e)
    by false b e = refl

pub fresh_length : (n : ℕ) (leaves : List Waits) → leaves ≡ replicate n no_waits → length leaves ≡ n
fresh_length n leaves is = ap (λ (xs : List Waits). length xs) is ∙ count n
  where
    count : (n : ℕ) → length (replicate n no_waits) ≡ n
    count zero = refl
    count (suc n) = ap (λ (k : ℕ). suc k) (count n)

-- what waits is queued under its ticket
pub picked_waits : (ws : List QueuedOp) (w : QueuedOp) → Contains ws w → is_queued w.op.ticket (ops_of ws) ≡ true
picked_waits ws w c = all_contains (λ (v : QueuedOp). is_queued v.op.ticket (ops_of ws) ≡ true) ws w (each ws) c
  where
    or_right : (a b : Bool) → b ≡ true → (a || b) ≡ true
    or_right true b e = refl
    or_right false b e = e

    each : (vs : List QueuedOp) → AllByRecursion (λ (v : QueuedOp). is_queued v.op.ticket (ops_of vs) ≡ true) vs
    each [] = tt
    each (v ∷ vs) = (
      ap (λ (b : Bool). b || is_queued v.op.ticket (ops_of vs)) (itself v.op.ticket),
      all_weaker (λ (x : QueuedOp). is_queued x.op.ticket (ops_of vs) ≡ true) (λ (x : QueuedOp). is_queued x.op.ticket (ops_of (v ∷ vs)) ≡ true) vs
          (λ x e. or_right (v.op.ticket == x.op.ticket) (is_queued x.op.ticket (ops_of vs)) e) (each vs),
    )
