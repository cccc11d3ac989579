-- A read as a node at a stage: how far it is, and how often it runs.
use Rattle.std.proofs.Common.{◌≡◌, ℕ, ◌+◌, ◌-◌, ◌*◌, ◌≤◌, List, [], length, Bool, true, false, Option, Some, None, inl, inr, refl, sym, ap, subst, ◌∙◌, arith}
use Rattle.zio_types.specs.declared.place.Top.{Top}
use Rattle.zio_blkptr.specs.declared.pointer.Bp.{Bp}
use Rattle.zio_trace.specs.Leaves.{Answer}
use Rattle.zio_frames.specs.Slots.{told_in}
use Rattle.zio_parts.specs.TreeReads.{ShowsRead, slots_in}
use Rattle.zio_parts.specs.declared.tree_read.Phase.{Phase}
use Rattle.zio_parts.specs.declared.tree_read.Phase.TheVariants.{Unread, Out as WalkOut, Failed as WalkFailed, Found as BodiesFound}
use Rattle.zio_parts.specs.declared.tree_read.TreeStep.{TreeStep}
use Rattle.zio_parts.specs.declared.tree_read.TreeStep.TheVariants.{Walk, Body, Wait, End}
use Rattle.zio_stages.specs.NodeIos.{with_one}
use Rattle.zio_stages.specs.ReadCounts.{AreHandedOut, BeginsAgain, BeginsBody, ClosesBody, CountsTheSame, HandsOutBody, HandsOutWalk, HasHandedAll, IsAgain, IsAskedMore, IsNoBody, IsNoneDue, IsNoneDueIn, StartsBody}
use Rattle.zio_stages.specs.RequestReads.{IsAlone, IsReadWith, IsReadingWith, ReadsOn}
use Rattle.zio_stages.specs.declared.leaf.LeafWork.{LeafWork}
use Rattle.zio_stages.specs.declared.own_read.BodyIo.{BodyIo}
use Rattle.zio_stages.specs.declared.own_read.OwnRead.{OwnRead}
use Rattle.zio_stages.specs.declared.request_node.Own.{Own}
use Rattle.zio_stages.specs.declared.request_node.Own.TheVariants.{Claim, Due, Found, Free, Over, Read, Stored, Write}
use Rattle.zio_stages.proofs.ReadCountLemmas.{ended_all}
use Rattle.zio_nodes.specs.Bounds.{copies_max, leaf_share, pass_left, read_asks_max, walk_max}
use Rattle.zio_nodes.specs.OwnAts.{MayReadOne}
use Rattle.zio_nodes.specs.OwnBounds.{body_left, body_share, reading_left, walk_left, walk_share}
use Rattle.zio_nodes.specs.ReadBounds.{bodies_max}

-- ---- its own work

-- what holds of a read that goes on so holds of it then
pub read_map : (P Q : OwnRead → Type 0) (R : OwnRead → OwnRead → Type 0) (own now : Own) → ((v w : OwnRead) → P v → R v w → Q w) → IsReadWith P own → ReadsOn R own now → IsReadWith Q now
read_map P Q R Due now f h on = absurd h
read_map P Q R (Write w) now f h on = absurd h
read_map P Q R (Stored b) now f h on = absurd h
read_map P Q R (Read v) Due f h on = absurd on
read_map P Q R (Read v) (Write w) f h on = absurd on
read_map P Q R (Read v) (Stored b) f h on = absurd on
read_map P Q R (Read v) (Read w) f h on = f v w h on
read_map P Q R (Read v) (Free w) f h on = absurd on
read_map P Q R (Read v) (Claim w) f h on = absurd on
read_map P Q R (Read v) (Found own) f h on = absurd on
read_map P Q R (Read v) Over f h on = absurd on
read_map P Q R (Free w) now f h on = absurd h
read_map P Q R (Claim w) now f h on = absurd h
read_map P Q R (Found own) now f h on = subst (IsReadWith Q) (sym on) tt
read_map P Q R Over now f h on = absurd h

pub read_both : (P Q S : OwnRead → Type 0) (own : Own) → ((w : OwnRead) → P w → Q w → S w) → IsReadWith P own → IsReadWith Q own → IsReadWith S own
read_both P Q S Due f h k = h
read_both P Q S (Write w) f h k = h
read_both P Q S (Stored b) f h k = h
read_both P Q S (Read w) f h k = f w h k
read_both P Q S (Free w) f h k = h
read_both P Q S (Claim w) f h k = h
read_both P Q S (Found own) f h k = tt
read_both P Q S Over f h k = h

-- how often it runs
pub reading_less : (R : OwnRead → OwnRead → Type 0) (P : OwnRead → Type 0) (n : ℕ) (own now : Own) → ((v w : OwnRead) → P v → R v w → reading_left (Read w) + n ≤ reading_left (Read v))
    → IsReadingWith P own → ReadsOn R own now → reading_left now + n ≤ reading_left own
reading_less R P n Due now f h on = absurd h
reading_less R P n (Write w) now f h on = absurd h
reading_less R P n (Stored b) now f h on = absurd h
reading_less R P n (Read v) Due f h on = absurd on
reading_less R P n (Read v) (Write w) f h on = absurd on
reading_less R P n (Read v) (Stored b) f h on = absurd on
reading_less R P n (Read v) (Read w) f h on = f v w h on
reading_less R P n (Read v) (Free w) f h on = absurd on
reading_less R P n (Read v) (Claim w) f h on = absurd on
reading_less R P n (Read v) (Found own) f h on = absurd on
reading_less R P n (Read v) Over f h on = absurd on
reading_less R P n (Free w) now f h on = absurd h
reading_less R P n (Claim w) now f h on = absurd h
reading_less R P n (Found own) now f h on = absurd h
reading_less R P n Over now f h on = absurd h

-- ---- which bodies are left

one_in : (phase : Phase) (bodies : List Bp) (results : List (Option Answer)) → phase ≡ BodiesFound → length bodies ≤ length results → AreHandedOut phase bodies results
one_in phase bodies results is l = subst (λ (p : Phase). AreHandedOut p bodies results) (sym is) l

same_in : (p q : Phase) (bs cs : List Bp) (xs ys : List (Option Answer)) → q ≡ p → cs ≡ bs → length ys ≡ length xs → AreHandedOut p bs xs → AreHandedOut q cs ys
same_in p q bs cs xs ys phase bodies many h =
    subst (λ (k : Phase). AreHandedOut k cs ys) (sym phase) (subst (λ (zs : List Bp). AreHandedOut p zs ys) (sym bodies) (by p h))
  where
    by : (k : Phase) → AreHandedOut k bs xs → AreHandedOut k bs ys
    by Unread k = k
    by WalkOut k = k
    by (WalkFailed e) k = tt
    by BodiesFound k = omega (arith, k, many)

pub counts_all : (v w : OwnRead) → HasHandedAll v → CountsTheSame v w → HasHandedAll w
counts_all v w h c =
    same_in v.tree.read.phase w.tree.read.phase v.tree.read.bodies w.tree.read.bodies v.tree.read.results w.tree.read.results c.phase c.bodies c.handed h

pub tree_all : (v w : OwnRead) → HasHandedAll v → w.tree ≡ v.tree → HasHandedAll w
tree_all v w h same = subst (λ t. AreHandedOut t.read.phase t.read.bodies t.read.results) (sym same) h

-- no body more can begin behind the last
more_in : (phase : Phase) (bodies : List Bp) (n m : ℕ) (xs : List (Option Answer)) → AreHandedOut phase bodies xs → phase ≡ BodiesFound → m ≡ length xs + 1 → m ≤ length bodies → ⊥
more_in phase bodies n m xs h is one within =
    let all : length bodies ≤ length xs = subst (λ (p : Phase). AreHandedOut p bodies xs) is h in
    omega (arith, all, one, within)

hands_in : (p q : Phase) (bs cs : List Bp) (xs ys : List (Option Answer)) → q ≡ p → cs ≡ bs → length ys ≡ length xs + 1 → AreHandedOut p bs xs → AreHandedOut q cs ys
hands_in p q bs cs xs ys phase bodies many h =
    subst (λ (k : Phase). AreHandedOut k cs ys) (sym phase) (subst (λ (zs : List Bp). AreHandedOut p zs ys) (sym bodies) (by p h))
  where
    by : (k : Phase) → AreHandedOut k bs xs → AreHandedOut k bs ys
    by Unread k = k
    by WalkOut k = k
    by (WalkFailed e) k = tt
    by BodiesFound k = omega (arith, k, many)

asked_none : (leaf : Option LeafWork) (m b : Option BodyIo) → m ≡ None → IsAskedMore leaf m b → (b ≡ None) × (leaf ≡ None)
asked_none leaf m b none h = by b (subst (λ (o : Option BodyIo). IsAskedMore leaf o b) none h)
  where
    by : (o : Option BodyIo) → IsAskedMore leaf None o → (o ≡ None) × (leaf ≡ None)
    by None k = (refl, k)
    by (Some d) k = absurd k

none_step : (bp : Bp) (phase : Phase) (bodies : List Bp) (results : List (Option Answer)) (step : TreeStep) → phase ≡ BodiesFound → results ≡ [] → IsNoBody step
    → ShowsRead (record { bp = bp; phase = phase; bodies = bodies; results = results }) step → AreHandedOut phase bodies results
none_step bp phase bodies results Walk found none nobody h = absurd (let e : Unread ≡ BodiesFound = sym h.0 ∙ found in cc)
none_step bp phase bodies results (Body b) found none nobody h = absurd nobody
none_step bp phase bodies results Wait found none nobody h =
    let e : length (told_in (slots_in phase results)) ≡ 0 = (λ i. length (told_in (slots_in (found i) (none i)))) in
    absurd (omega (arith, h.0, e))
none_step bp phase bodies results End found none nobody h = ended_all (record { bp = bp; phase = phase; bodies = bodies; results = results }) h

-- once an operation on a leaf was handed out, or none was due, nothing is left
pub started_all : (tops : List Top) (leaf : Option LeafWork) (v w : OwnRead) → MayReadOne v → StartsBody leaf v w → (leaf ≡ None → IsNoneDue tops w) → HasHandedAll w
started_all tops leaf v w (inl all) s none = elim s.begins [
  | inl same ↦ tree_all v w all (s.asks.tree ∙ ap (λ (x : OwnRead). x.tree) same)
  | inr begun ↦ tree_all s.mid w
      (hands_in v.tree.read.phase s.mid.tree.read.phase v.tree.read.bodies s.mid.tree.read.bodies v.tree.read.results s.mid.tree.read.results begun.hands.phase begun.hands.bodies begun.hands.handed all)
      s.asks.tree
]
started_all tops leaf v w (inr one) s none = elim s.begins [
  | inl same ↦
      let tree : w.tree ≡ v.tree = s.asks.tree ∙ ap (λ (x : OwnRead). x.tree) same in
      let body = asked_none leaf s.mid.body w.body (ap (λ (x : OwnRead). x.body) same ∙ one.alone) s.asks.body in
      let due = subst (IsNoneDueIn tops w.tree) body.0 (none body.1) in
      none_step w.tree.read.bp w.tree.read.phase w.tree.read.bodies w.tree.read.results due.0 (ap (λ t. t.read.phase) tree ∙ one.found) (ap (λ t. t.read.results) tree ∙ one.none) due.1 due.2
  | inr begun ↦ tree_all s.mid w
      (one_in s.mid.tree.read.phase s.mid.tree.read.bodies s.mid.tree.read.results (begun.hands.phase ∙ one.found)
      (let bodies : length s.mid.tree.read.bodies ≡ 1 = ap length begun.hands.bodies ∙ one.one in omega (arith, bodies, begun.hands.handed)))
      s.asks.tree
]

-- ---- how often

pass_most : (second : Bool) → pass_left second ≤ 3
pass_most true = omega arith
pass_most false = omega arith

-- an operation on a leaf, and that stage itself
abbrev pub leaf_cost : Option LeafWork → ℕ
leaf_cost None = 0
leaf_cost (Some leaf) = leaf_share

-- no more is asked of leaves than two passes and the repairs
abbrev pub HasFewAsked : Option BodyIo → Type 0
HasFewAsked None = Unit {0}
HasFewAsked (Some b) = b.io.asked ≤ read_asks_max

leaf_less : (leaf : Option LeafWork) (m n p : ℕ) → n ≡ with_one leaf m → n ≤ read_asks_max → leaf_share * (read_asks_max - n) + p + leaf_cost leaf ≤ leaf_share * (read_asks_max - m) + p
leaf_less None m n p is few = omega (arith, is)
leaf_less (Some leaf) m n p is few = omega (arith, is, few)

asked_less : (leaf : Option LeafWork) (b d : Option BodyIo) → IsAskedMore leaf b d → HasFewAsked d → body_left d + leaf_cost leaf ≤ body_left b
asked_less leaf None None h few = omega (arith, ap leaf_cost h)
asked_less leaf None (Some d) h few = absurd h
asked_less leaf (Some b) None h few = absurd h
asked_less leaf (Some b) (Some d) h few =
    let l = leaf_less leaf b.io.asked d.io.asked (pass_left d.io.read.retry) h.0 few in
    omega (arith, l, ap pass_left h.1)

body_most : (b : Option BodyIo) → body_left b ≤ 363
body_most None = omega arith
body_most (Some b) = omega (arith, pass_most b.io.read.retry)

asked_most : (leaf : Option LeafWork) (b d : Option BodyIo) → IsAskedMore leaf b d → HasFewAsked d → body_left d + leaf_cost leaf ≤ 363
asked_most leaf b d h few = omega (arith, asked_less leaf b d h few, body_most b)

share_less : (n m a b k : ℕ) → m ≡ n + 1 → m ≤ bodies_max → b ≡ 0 → a + k ≤ 363 → body_share * (bodies_max - m) + a + k ≤ body_share * (bodies_max - n) + b
share_less n m a b k one few none most = omega (arith, one, few, none, most)

same_cost : (v w : OwnRead) → w.tree ≡ v.tree → walk_left w.tree.read.phase + body_share * (bodies_max - length w.tree.read.results) ≡ walk_left v.tree.read.phase + body_share * (bodies_max - length v.tree.read.results)
same_cost v w same = ap (λ t. walk_left t.read.phase + body_share * (bodies_max - length t.read.results)) same

begun_few : (v m : OwnRead) → MayReadOne v → BeginsBody v m → length m.tree.read.results ≤ bodies_max
begun_few v m (inl all) b =
    absurd (more_in v.tree.read.phase v.tree.read.bodies 0 (length m.tree.read.results) v.tree.read.results all b.hands.found b.hands.handed
    (subst (λ bs. length m.tree.read.results ≤ length bs) b.hands.bodies b.hands.within))
begun_few v m (inr one) b =
    let bodies : length m.tree.read.bodies ≡ 1 = ap length b.hands.bodies ∙ one.one in
    omega (arith, b.hands.within, bodies)

pub start_less : (leaf : Option LeafWork) (v w : OwnRead) → MayReadOne v → HasFewAsked w.body → StartsBody leaf v w → reading_left (Read w) + leaf_cost leaf ≤ reading_left (Read v)
start_less leaf v w may few s = elim s.begins [
  | inl same ↦
      let tree : w.tree ≡ v.tree = s.asks.tree ∙ ap (λ (x : OwnRead). x.tree) same in
      let l = asked_less leaf s.mid.body w.body s.asks.body few in
      omega (arith, same_cost v w tree, l, ap (λ (x : OwnRead). body_left x.body) same)
  | inr begun ↦
      let l = asked_most leaf s.mid.body w.body s.asks.body few in
      let share = share_less (length v.tree.read.results) (length s.mid.tree.read.results) (body_left w.body) (body_left v.body) (leaf_cost leaf) begun.hands.handed (begun_few v s.mid may begun) (ap body_left begun.alone) l in
      omega (arith, same_cost s.mid w s.asks.tree, ap walk_left begun.hands.phase, share)
]

-- the second pass begins
again_less : (b d : Option BodyIo) → IsAgain b d → body_left d + 3 ≤ body_left b
again_less None d h = absurd h
again_less (Some b) None h = absurd h
again_less (Some b) (Some d) h = omega (arith, ap (λ n. leaf_share * (read_asks_max - n)) h.0, ap pass_left h.1, ap pass_left h.2)

pub second_less : (v w : OwnRead) → BeginsAgain v w → reading_left (Read w) + 3 ≤ reading_left (Read v)
second_less v w h = omega (arith, same_cost v w h.tree, again_less v.body w.body h.body)

pub closes_less : (v w : OwnRead) → ClosesBody v w → reading_left (Read w) + 0 ≤ reading_left (Read v)
closes_less v w h =
    omega (arith, ap walk_left h.counts.phase, ap (λ n. body_share * (bodies_max - n)) h.counts.handed, ap body_left h.alone)

-- the walk is handed out, or a body
pub walk_out_less : (v w : OwnRead) → IsAlone w → HandsOutWalk v w → reading_left (Read w) + (walk_max 8 + 1) ≤ reading_left (Read v)
unfolding walk_share
walk_out_less v w alone h =
    omega (arith, ap walk_left h.due, ap walk_left h.out, ap (λ xs. body_share * (bodies_max - length xs)) h.results, ap body_left alone)

pub body_out_less : (v w : OwnRead) → IsAlone w → length v.tree.read.bodies ≤ bodies_max → HandsOutBody v w → reading_left (Read w) + (copies_max + 1) ≤ reading_left (Read v)
body_out_less v w alone few h =
    let within : length w.tree.read.results ≤ length v.tree.read.bodies = subst (λ bs. length w.tree.read.results ≤ length bs) h.bodies h.within in
    omega (arith, ap walk_left h.phase, h.handed, within, few, ap body_left alone)
