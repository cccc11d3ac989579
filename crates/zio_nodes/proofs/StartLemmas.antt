-- A request at Start: its children's trees are handed out, and then its own stages begin.
use Rattle.std.proofs.Common.{◌≡◌, ◌≤◌, List, [], ◌∷◌, length, Bool, true, false, Option, Some, None, refl, sym, ap, subst, ◌∙◌, arith, inl}
use Rattle.zio_types.specs.declared.place.Top.{Top}
use Rattle.zio_types.specs.declared.request.ChildKind.TheVariants.{Logical}
use Rattle.zio_masks.specs.declared.stage.Stage.{Stage}
use Rattle.zio_masks.specs.declared.stage.Stage.TheVariants.{Start}
use Rattle.zio_script.specs.declared.script.Work.{Work}
use Rattle.zio_script.specs.declared.script.Work.TheVariants.{Null, Read, Write, Free, Claim}
use Rattle.zio_gang.specs.Attempts.{Pending, Terms}
use Rattle.zio_trace.specs.Conflicts.{is_single}
use Rattle.zio_trace.specs.Families.{Forest}
use Rattle.zio_trace.specs.Tasks.{Attempt, Task}
use Rattle.zio_children.specs.RequestKids.{KidsUnderWay}
use Rattle.zio_frames.specs.Frames.{Inner, Stack, asking, asking_in, fresh_stack}
use Rattle.zio_exchange.specs.Wholes.{IsTreeOf, root_of}
use Rattle.zio_exchange.specs.declared.waiting.UnfinishedRequest.{UnfinishedRequest}
use Rattle.zio_stages.specs.OwnParts.{DoesThen, HandsTo}
use Rattle.zio_stages.specs.RequestKinds.{points_to_gang}
use Rattle.zio_stages.specs.RequestNodes.{HandsKid, IsOwnOf, IsRequestNode, front_by}
use Rattle.zio_stages.specs.declared.request_node.Own.{Own}
use Rattle.zio_stages.specs.declared.request_node.Own.TheVariants.{Due}
use Rattle.zio_stages.specs.declared.request_node.RequestNode.{RequestNode}
use Rattle.zio_nodes.specs.OwnAts.{IsClaimAtStage}
use Rattle.zio_nodes.specs.RequestAts.{AreOutBehind, RequestStands, StandsAt}
use Rattle.zio_nodes.specs.Told.{is_told}
use Rattle.zio_nodes.specs.TreeAts.{IsTreeAt}
use Rattle.zio_nodes.specs.declared.tree_at.TreeAt.{TreeAt}
use Rattle.zio_nodes.proofs.FirstStages.{claim_first, first_of}
use Rattle.zio_nodes.proofs.OwnOver.{into_claim}

-- ---- its children

-- nothing of its own work is asked: no part is within, and none of its operations was asked
pub own_due : (t : Terms) (r : RequestNode) (st : Stack) (h : IsRequestNode t r st) → r.own ≡ Due
    → (h.own_asked ≡ []) × (h.own_slots ≡ []) × (st.inner ≡ None)
own_due t r st h due =
    subst (λ (o : Own). IsOwnOf t r r.kids.kids (front_by r h.forest h.kid_asked h.kid_slots) o st h.own_asked h.own_slots) due h.own

pub attempt_asks : (t : Terms) (r : RequestNode) (st : Stack) → IsRequestNode t r st → st.inner ≡ None → is_single (asking st).op ≡ false
attempt_asks t r st h none = ap (λ (i : Option Inner). is_single (asking_in st.outer i).op) none ∙ ap is_single h.op

pub kid_grows : (t : Terms) (st : Stack) (r now : RequestNode) (child : TreeAt) (ws : List UnfinishedRequest) → IsRequestNode t r st → r.own ≡ Due → HandsKid t now ws st
    → ((p : Pending) (forest : Forest) → IsTreeOf ws p forest → IsTreeAt t child (fresh_stack (Attempt now.attempt p forest)))
    → DoesThen t st [] (HandsTo t Logical (λ (op : Task). IsTreeAt t child (fresh_stack op)) (IsRequestNode t now))
kid_grows t st r now child ws h due hands fresh = record {
  dids = [];
  stack = st;
  does = refl;
  opens = tt;
  calls_are = refl;
  after = record {
    op = Attempt now.attempt hands.root hands.below;
    part = attempt_asks t r st h (own_due t r st h due).2;
    asks = hands.asks;
    of_kind = refl;
    child_is = fresh hands.root hands.below hands.tree;
    after = hands.after;
  };
}

pub some_root : (ws : List UnfinishedRequest) (w : UnfinishedRequest) → root_of ws ≡ Some w → 1 ≤ length ws
some_root [] w h = absurd (cc)
some_root (v ∷ ws) w h = omega arith

-- at Start
pub start_due : (tops : List Top) (stage : Stage) (due : Bool) (r : RequestNode) → stage ≡ Start → RequestStands tops stage due r → r.own ≡ Due
start_due tops stage due r is h =
    let at : StandsAt r.waiting.request.work tops Start due r = subst (λ (s : Stage). StandsAt r.waiting.request.work tops s due r) is h.own in
    at.0

-- it stays there while the next child's tree is handed out
pub start_stays : (tops : List Top) (stage : Stage) (due : Bool) (r now : RequestNode) → stage ≡ Start → now.own ≡ r.own → RequestStands tops stage due r
    → RequestStands tops stage due now
start_stays tops stage due r now is same h =
    let at : StandsAt r.waiting.request.work tops Start due r = subst (λ (s : Stage). StandsAt r.waiting.request.work tops s due r) is h.own in
    let own : StandsAt now.waiting.request.work tops Start due now = (same ∙ at.0, at.1) in
    record {
      out = subst (λ (s : Stage). AreOutBehind s now.kids.kids) (sym is) tt;
      own = subst (λ (s : Stage). StandsAt now.waiting.request.work tops s due now) (sym is) own;
    }

-- ---- its own stages begin

claim_told : (gang : Bool) → is_told (claim_first gang) ≡ false
claim_told true = refl
claim_told false = refl

pub first_told : (work : Work) → is_told (first_of work) ≡ false
first_told Null = refl
first_told (Read name prio) = refl
first_told (Write name sum copies prio body) = refl
first_told (Free name) = refl
first_told (Claim name pointer) = claim_told (points_to_gang pointer)

claim_at : (gang : Bool) (own : Own) → own ≡ Due → IsClaimAtStage (claim_first gang) true own gang
claim_at true own due = (inl (due, refl), refl)
claim_at false own due = inl (due, refl, refl)

first_at : (work : Work) (tops : List Top) (r : RequestNode) → r.own ≡ Due → StandsAt work tops (first_of work) true r
first_at Null tops r due = due
first_at (Read name prio) tops r due = (due, refl)
first_at (Write name sum copies prio body) tops r due = due
first_at (Free name) tops r due = (due, refl)
first_at (Claim name pointer) tops r due =
    into_claim (claim_first (points_to_gang pointer)) name pointer tops true r (claim_at (points_to_gang pointer) r.own due)

claim_out : (gang : Bool) (x : KidsUnderWay) → x.handed ≡ length x.kids → AreOutBehind (claim_first gang) x
claim_out true x all = all
claim_out false x all = all

first_out : (work : Work) (x : KidsUnderWay) → x.handed ≡ length x.kids → AreOutBehind (first_of work) x
first_out Null x all = all
first_out (Read name prio) x all = all
first_out (Write name sum copies prio body) x all = all
first_out (Free name) x all = all
first_out (Claim name pointer) x all = claim_out (points_to_gang pointer) x all

pub first_stands : (tops : List Top) (next : Stage) (r : RequestNode) → next ≡ first_of r.waiting.request.work → r.own ≡ Due
    → r.kids.kids.handed ≡ length r.kids.kids.kids → RequestStands tops next true r
first_stands tops next r is due all = record {
  out = subst (λ (s : Stage). AreOutBehind s r.kids.kids) (sym is) (first_out r.waiting.request.work r.kids.kids all);
  own = subst (λ (s : Stage). StandsAt r.waiting.request.work tops s true r) (sym is) (first_at r.waiting.request.work tops r due);
}
