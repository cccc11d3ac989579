-- A read that hands an operation on a leaf to a child: who asks it, and how often the read runs then.
use Rattle.std.proofs.Common.{◌≡◌, ℕ, ◌≤◌, List, [], length, Bool, true, false, Option, Some, None, inl, refl, sym, ap, subst, ◌∙◌, arith}
use Rattle.zio_types.specs.declared.place.Top.{Top}
use Rattle.zio_types.specs.declared.request.ChildKind.TheVariants.{Vdev}
use Rattle.zio_gang.specs.Attempts.{Terms}
use Rattle.zio_trace.specs.Conflicts.{is_single}
use Rattle.zio_trace.specs.Tasks.{Leaf as OnLeaf, Task}
use Rattle.zio_frames.specs.Frames.{Child, Inner, Stack, asking, asking_in, fresh_frame, fresh_stack}
use Rattle.zio_frames.specs.Moves.{handed}
use Rattle.zio_stages.specs.LeafWorks.{IsLeafWork}
use Rattle.zio_stages.specs.NodeIos.{StartsBy}
use Rattle.zio_stages.specs.OwnParts.{DoesThen}
use Rattle.zio_stages.specs.OwnReads.{IsBodyIn, IsOwnOver as IsBodyOwnOver}
use Rattle.zio_stages.specs.ReadCounts.{IsAskedMore, IsNoneDue, IsNoneDueIn, IsOneDue, IsOneDueIn, StartsBody}
use Rattle.zio_stages.specs.ReadIos.{IsReadOver, outs_when}
use Rattle.zio_stages.specs.RequestNodes.{IsOwnOf, IsOwnOver, IsRequestNode, front_by}
use Rattle.zio_stages.specs.RequestReads.{IsReadWith, IsReadingWith, ReadsOn}
use Rattle.zio_stages.specs.declared.leaf.LeafWork.{LeafWork}
use Rattle.zio_stages.specs.declared.own_read.BodyIo.{BodyIo}
use Rattle.zio_stages.specs.declared.own_read.OwnRead.{OwnRead}
use Rattle.zio_stages.specs.declared.read_io.ReadIo.{ReadIo}
use Rattle.zio_stages.specs.declared.request_node.Own.{Own}
use Rattle.zio_stages.specs.declared.request_node.Own.TheVariants.{Claim, Due, Found, Free, Over, Read, Stored, Write}
use Rattle.zio_stages.specs.declared.request_node.RequestNode.{RequestNode}
use Rattle.zio_trace.specs.Leaves.{LeafOp}
use Rattle.zio_staged.specs.Stages.{Grows}
use Rattle.zio_nodes.specs.Bounds.{read_asks_max}
use Rattle.zio_nodes.specs.LeafAts.{IsLeafAt}
use Rattle.zio_nodes.specs.Nodes.{gave_of, nodes}
use Rattle.zio_nodes.specs.Told.{is_told}
use Rattle.zio_nodes.specs.declared.leaf_at.LeafAt.{LeafAt}
use Rattle.zio_nodes.specs.declared.node.Node.{Node}
use Rattle.zio_nodes.specs.declared.node.Node.TheVariants.{Leaf, Request}
use Rattle.zio_nodes.specs.declared.request_at.RequestAt.{RequestAt}
use Rattle.zio_nodes.proofs.PartLemmas.{same_asker}
use Rattle.zio_nodes.proofs.ReadLemmas.{HasFewAsked}

-- ---- who asks

body_asks : (t : Terms) (b : Option BodyIo) (front : ℕ) (st : Stack) → is_single st.outer.op ≡ false → IsBodyIn t b front st → is_single (asking st).op ≡ false
body_asks t None front st outer h = ap (λ (i : Option Inner). is_single (asking_in st.outer i).op) h ∙ outer
body_asks t (Some b) front st outer h = ap (λ (i : Option Inner). is_single (asking_in st.outer i).op) h.is ∙ ap is_single h.part.op

own_reads : (t : Terms) (r : RequestNode) (st : Stack) (h : IsRequestNode t r st) (own : Own) → r.own ≡ own → IsReadingWith (λ w. Unit {0}) own → is_single (asking st).op ≡ false
own_reads t r st h (Read w) is reading =
    let own = subst (λ (o : Own). IsOwnOf t r r.kids.kids (front_by r h.forest h.kid_asked h.kid_slots) o st h.own_asked h.own_slots) is h.own in
    body_asks t w.body (length h.kid_slots) st (ap is_single h.op) own.is.body
own_reads t r st h Due is reading = absurd reading
own_reads t r st h (Write w) is reading = absurd reading
own_reads t r st h (Stored b) is reading = absurd reading
own_reads t r st h (Free w) is reading = absurd reading
own_reads t r st h (Claim w) is reading = absurd reading
own_reads t r st h (Found own) is reading = absurd reading
own_reads t r st h Over is reading = absurd reading

asked_read : (t : Terms) (r : RequestNode) (mid : Stack) (op : Task) → IsReadingWith (λ w. Unit {0}) r.own → IsRequestNode t r (handed mid op) → is_single (asking mid).op ≡ false
asked_read t r mid op reading h = sym (ap is_single (same_asker mid.outer mid.inner mid.children op)) ∙ own_reads t r (handed mid op) h r.own refl reading

pub still_reading : (R : OwnRead → OwnRead → Type 0) (own now : Own) → IsReadingWith (λ w. Unit {0}) own → ReadsOn R own now → IsReadingWith (λ w. Unit {0}) now
still_reading R Due now h on = absurd h
still_reading R (Write w) now h on = absurd h
still_reading R (Stored b) now h on = absurd h
still_reading R (Read v) Due h on = absurd on
still_reading R (Read v) (Write w) h on = absurd on
still_reading R (Read v) (Stored b) h on = absurd on
still_reading R (Read v) (Read w) h on = tt
still_reading R (Read v) (Free w) h on = absurd on
still_reading R (Read v) (Claim w) h on = absurd on
still_reading R (Read v) (Found own) h on = absurd on
still_reading R (Read v) Over h on = absurd on
still_reading R (Free w) now h on = absurd h
still_reading R (Claim w) now h on = absurd h
still_reading R (Found own) now h on = absurd h
still_reading R Over now h on = absurd h

-- ---- none is due

asked_none : (b : Option BodyIo) → IsAskedMore None b b
asked_none None = refl
asked_none (Some b) = (refl, refl)

-- nothing changes
pub starts_none : (own : Own) → ReadsOn (StartsBody None) own own
starts_none Due = refl
starts_none (Write w) = refl
starts_none (Stored b) = refl
starts_none (Read w) = record { mid = w; begins = inl refl; asks = record { tree = refl; body = asked_none w.body } }
starts_none (Free w) = refl
starts_none (Claim w) = refl
starts_none (Found own) = refl
starts_none Over = refl

-- ---- the operation is handed to a child

pub read_starts : (t : Terms) (st : Stack) (at after : RequestAt) (work : LeafWork) (child : LeafAt) → DoesThen t st [] (λ mid. StartsBy t mid (Some work) (IsRequestNode t after.node))
    → ((act : LeafOp) → IsLeafWork t work (fresh_frame (OnLeaf act)) → IsLeafAt t child (fresh_stack (OnLeaf act)))
    → IsReadingWith (λ w. Unit {0}) after.node.own → is_told after.stage ≡ is_told at.stage → gave_of (Request after) ≡ gave_of (Request at)
    → Grows {N = Node} nodes gave_of t (Request at) st [] (Request after) (Leaf child) Vdev
read_starts t st at after work child does fresh reading told gave =
    let hands = does.after in
    record {
      dids = does.dids;
      stack = does.stack;
      does = does.does;
      opens = does.opens;
      calls_are = does.calls_are;
      op = OnLeaf hands.act;
      part = asked_read t after.node does.stack (OnLeaf hands.act) reading hands.after;
      asks = hands.next;
      is = hands.after;
      told = told;
      gave_same = gave;
      child_is = fresh hands.act hands.child_is;
      child_told = λ no. absurd (cc);
      child_gave = refl;
      of_kind = refl;
    }

-- ---- no more is asked than two passes and the repairs

outs_most : (good : Option (List ℕ)) (is_out : Bool) (mends : List Bool) → length mends ≤ 12 → length (outs_when good is_out mends) ≤ 12
outs_most None true mends few = omega arith
outs_most None false mends few = omega arith
outs_most (Some bytes) is_out mends few = few

few_io : (tops : List Top) (io : ReadIo) → IsReadOver tops io → io.asked ≤ read_asks_max
few_io tops io h = omega (arith, h.counted, h.tried, outs_most io.read.good io.read.is_out io.read.mends h.mends)

few_body : (tops : List Top) (w : OwnRead) (family : List Child) (body : Option BodyIo) → w.body ≡ body → IsOwnOver tops (Read w) family → HasFewAsked body
few_body tops w family None is h = tt
few_body tops w family (Some b) is h = few_io tops b.io (subst (λ (o : Option BodyIo). IsBodyOwnOver tops w.tree o family) is h.0).over

-- and of the read that goes on
pub few_after : (R : OwnRead → OwnRead → Type 0) (tops : List Top) (own now : Own) (family : List Child) → ReadsOn R own now → IsOwnOver tops now family
    → ReadsOn (λ v w. R v w × HasFewAsked w.body) own now
few_after R tops Due now family on h = on
few_after R tops (Write w) now family on h = on
few_after R tops (Stored b) now family on h = on
few_after R tops (Read v) Due family on h = absurd on
few_after R tops (Read v) (Write w) family on h = absurd on
few_after R tops (Read v) (Stored b) family on h = absurd on
few_after R tops (Read v) (Read w) family on h = (on, few_body tops w family w.body refl h)
few_after R tops (Read v) (Free w) family on h = absurd on
few_after R tops (Read v) (Claim w) family on h = absurd on
few_after R tops (Read v) (Found own) family on h = absurd on
few_after R tops (Read v) Over family on h = absurd on
few_after R tops (Free w) now family on h = on
few_after R tops (Claim w) now family on h = on
few_after R tops (Found own) now family on h = on
few_after R tops Over now family on h = on

-- ---- none is due

none_body : (tops : List Top) (w : OwnRead) (body : Option BodyIo) → w.body ≡ body → IsNoneDue tops w → IsOneDueIn tops body → ⊥
none_body tops w None is none one = one
none_body tops w (Some b) is none one = subst (λ (o : Option BodyIo). IsNoneDueIn tops w.tree o) is none one

pub none_one : (tops : List Top) (own : Own) → IsReadWith (IsNoneDue tops) own → IsReadingWith (IsOneDue tops) own → ⊥
none_one tops Due h m = m
none_one tops (Write w) h m = m
none_one tops (Stored b) h m = m
none_one tops (Read w) h m = none_body tops w w.body refl h m
none_one tops (Free w) h m = m
none_one tops (Claim w) h m = m
none_one tops (Found own) h m = m
none_one tops Over h m = m
