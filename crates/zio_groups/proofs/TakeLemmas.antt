-- The group that is taken, with the bytes that are kept for its members.
use Rattle.std.proofs.Common.{◌≡◌, ℕ, ◌<◌, List, [], ◌∷◌, ◌++◌, length, map, take, get_or, zero, suc, ◌+◌, ◌≢◌, Option, unwrap_or, Bool, false, ◌==◌, Contains, refl, sym, ap, subst, ◌∙◌, arith}
use Rattle.std.proofs.lemmas.Bool.Decides.{nat_tests}
use Rattle.std.proofs.lemmas.List.{map-append, take_more}
use Rattle.std.specs.List.{AllByRecursion}
use Rattle.zio_vqueue.specs.declared.op.Op.{Op}
use Rattle.zio_vqueue.specs.declared.op.Group.{Group}
use Rattle.zio_vqueue.specs.Queues.{AreApart, Queue, is_queued}
use Rattle.zio_vqueue.specs.Groups.{IsNextGroup, IsRun, IsSpanOf, gap_max}
use Rattle.zio_vqueue.proofs.IndexLemmas.{equal_flip, neither}
use Rattle.zio_cksum.proofs.AllLemmas.{all_contained, all_contains, all_map, all_unmap, all_weaker}
use Rattle.zio_groups.specs.declared.waiting.QueuedOp.{QueuedOp}
use Rattle.zio_groups.specs.LeafQueues.{AreMembers, IsInOrder, kept_with, ops_of, waiting_with, waits_of}
use Rattle.zio_groups.proofs.GroupLemmas.{first_has, members_alike, members_apart, members_have, members_run}
use Rattle.zio_groups.proofs.QueueLemmas.{Kept, ops_kept}

-- ---- the members

pub next_members : (f : Kept) (q : Queue) (group : Group) → IsNextGroup q group → (write : Bool) × AreMembers group write (map (kept_with f) group.ops)
next_members f q group next =
    let same : ops_of (map (kept_with f) group.ops) ≡ group.ops = ops_kept f group.ops in (
      next.first.write,
      record {
        ops = same;
        alike = all_map (λ (w : QueuedOp). w.op.write ≡ next.first.write) (kept_with f) group.ops (members_alike q.queued next.first group.ops next.members);
        run = subst (IsRun (gap_max next.first.write)) (sym same) (members_run q.queued next.first group.ops next.members);
        span = subst (IsSpanOf group) (sym same) next.span;
      },
    )

-- they wait
pub next_among : (f : Kept) (q : Queue) (group : Group) → IsNextGroup q group → AllByRecursion (Contains (map (kept_with f) q.queued)) (map (kept_with f) group.ops)
next_among f q group next =
    let P : Op → Type 0 = λ o. Contains (map (kept_with f) q.queued) (kept_with f o) in
    let all : AllByRecursion P q.queued = all_unmap (Contains (map (kept_with f) q.queued)) (kept_with f) q.queued (all_contained (map (kept_with f) q.queued)) in
    all_map (Contains (map (kept_with f) q.queued)) (kept_with f) group.ops
    (members_have P q.queued next.first group.ops next.members all (first_has P group.prio q.last q.queued next.first all next.first_is))

pub next_apart : (f : Kept) (q : Queue) (group : Group) → IsNextGroup q group → IsInOrder (waits_of f q) → AreApart group.ops
next_apart f q group next h = members_apart q.queued next.first group.ops next.members (subst AreApart (ops_kept f q.queued) h.apart)

pub all_among : (P : QueuedOp → Type 0) (all ws : List QueuedOp) → AllByRecursion (Contains all) ws → AllByRecursion P all → AllByRecursion P ws
all_among P all ws among h = all_weaker (Contains all) P ws (λ w c. all_contains P all w h c) among

-- ---- tickets one after another

queued_front : (t : ℕ) (os : List Op) (i : ℕ) (d : Op) → i < length os → is_queued t os ≡ false → ((get_or os i d).ticket == t) ≡ false
queued_front t [] i d below e = absurd (omega arith)
queued_front t (o ∷ os) zero d below e = (neither (o.ticket == t) (is_queued t os) e).0
queued_front t (o ∷ os) (suc i) d below e = queued_front t os i d (omega arith) (neither (o.ticket == t) (is_queued t os) e).1

-- those before one have other tickets
pub apart_before : (os : List Op) (i : ℕ) (d : Op) → i < length os → AreApart os → is_queued (get_or os i d).ticket (take i os) ≡ false
apart_before [] i d below h = absurd (omega arith)
apart_before (o ∷ os) zero d below h = refl
apart_before (o ∷ os) (suc i) d below h =
    rw (equal_flip o.ticket (get_or os i d).ticket, queued_front o.ticket os i d (omega arith) h.0, apart_before os i d (omega arith) h.1) refl

pub queued_push : (t : ℕ) (os : List Op) (o : Op) → is_queued t (os ++ o ∷ []) ≡ false → (is_queued t os ≡ false) × ((o.ticket == t) ≡ false)
queued_push t [] o e = (refl, (neither (o.ticket == t) false e).0)
queued_push t (p ∷ ps) o e =
    let n = neither (p.ticket == t) (is_queued t (ps ++ o ∷ [])) e in
    let rest = queued_push t ps o n.1 in
    (rw (n.0, rest.0) refl, rest.1)

queued_take : (t : ℕ) (os : List Op) (n : ℕ) → is_queued t os ≡ false → is_queued t (take n os) ≡ false
queued_take t os zero e = refl
queued_take t [] (suc n) e = refl
queued_take t (o ∷ os) (suc n) e =
    let k = neither (o.ticket == t) (is_queued t os) e in
    rw (k.0, queued_take t os n k.1) refl

not_equal : (a b : ℕ) → (a == b) ≡ false → b ≢ a
not_equal a b e same = grind (arith, nat_tests)

-- ---- one member more

pub members_more : (f g : Kept) (os : List Op) (i : ℕ) (d : Op) (old new : List QueuedOp) (w : QueuedOp) → i < length os → AreApart os → new ≡ old ++ w ∷ [] → old ≡ map (kept_with f) (take i os) → w ≡ kept_with g (get_or os i d)
    → ((t : ℕ) → is_queued t (take i os) ≡ false → g t ≡ f t) → new ≡ map (kept_with f) (take (i + 1) os)
members_more f g os i d old new w below apart push so_far here others =
    let o : Op = get_or os i d in
    let same : kept_with g o ≡ kept_with f o = ap (λ (bytes : Option (List ℕ)). waiting_with o (unwrap_or bytes [])) (others o.ticket (apart_before os i d below apart)) in
    push
    ∙ ap (λ (ws : List QueuedOp). ws ++ w ∷ []) so_far
    ∙ ap (λ (v : QueuedOp). map (kept_with f) (take i os) ++ v ∷ []) (here ∙ same)
    ∙ sym (map-append (kept_with f) (take i os) (o ∷ []))
    ∙ ap (map (kept_with f)) (sym (take_more os i d below))

pub kept_more : (f g h : Kept) (os : List Op) (i : ℕ) (d : Op) → i < length os → ((t : ℕ) → is_queued t (take i os) ≡ false → g t ≡ f t) → ((t : ℕ) → t ≢ (get_or os i d).ticket → h t ≡ g t)
    → (t : ℕ) → is_queued t (take (i + 1) os) ≡ false → h t ≡ f t
kept_more f g h os i d below others step t e =
    let n = queued_push t (take i os) (get_or os i d) (subst (λ (xs : List Op). is_queued t xs ≡ false) (take_more os i d below) e) in
    step t (not_equal (get_or os i d).ticket t n.1) ∙ others t n.0

pub kept_then : (f g h : Kept) (os : List Op) (i : ℕ) (d : Op) → i < length os → ((t : ℕ) → is_queued t (take i os) ≡ false → g t ≡ f t) → ((t : ℕ) → t ≢ (get_or os i d).ticket → h t ≡ g t)
    → (t : ℕ) → is_queued t os ≡ false → h t ≡ f t
kept_then f g h os i d below others step t e = kept_more f g h os i d below others step t (queued_take t os (i + 1) e)
