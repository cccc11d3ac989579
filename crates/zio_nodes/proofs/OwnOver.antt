-- A read, a free and a claim at a stage: how far each is there, and that one whose own work went on is one at its next stage.
use Rattle.std.proofs.Common.{◌≡◌, ℕ, List, length, Bool, refl, sym, ap, subst, ◌∙◌}
use Rattle.zio_types.specs.declared.place.Top.{Top}
use Rattle.zio_types.specs.declared.request.Kind.TheVariants.{Read as ReadKind, Free as FreeKind, Claim as ClaimKind}
use Rattle.zio_types.specs.declared.request.Prio.{Prio}
use Rattle.zio_masks.specs.declared.stage.Stage.{Stage}
use Rattle.zio_masks.specs.declared.stage.Stage.TheVariants.{Start}
use Rattle.zio_script.specs.Requests.{kind_of}
use Rattle.zio_script.specs.declared.script.Work.{Work}
use Rattle.zio_script.specs.declared.script.Work.TheVariants.{Null, Read, Write, Free, Claim}
use Rattle.zio_children.specs.RequestKids.{KidsUnderWay}
use Rattle.zio_stages.specs.OwnParts.{IsNoWrite}
use Rattle.zio_stages.specs.RequestClaims.{IsClaimWork}
use Rattle.zio_stages.specs.RequestFrees.{IsFreeWork}
use Rattle.zio_stages.specs.RequestKinds.{points_to_gang}
use Rattle.zio_stages.specs.RequestNodes.{IsOwnOver}
use Rattle.zio_stages.specs.RequestReads.{IsReadWork}
use Rattle.zio_stages.specs.RequestStages.{with_own}
use Rattle.zio_stages.specs.declared.request_node.RequestNode.{RequestNode}
use Rattle.zio_nodes.specs.OwnAts.{IsClaimAtStage, IsFreeAtStage, IsReadAtStage}
use Rattle.zio_nodes.specs.RequestAts.{AreOutBehind, IsRequestAtOver, StandsAt}
use Rattle.zio_nodes.specs.declared.request_at.RequestAt.{RequestAt}
use Rattle.zio_nodes.proofs.KidMarks.{over_with_own}

-- ---- its kind

pub record IsRead (w : Work) : Type 0 where
  pub name : List ℕ
  pub prio : Prio
  pub is : w ≡ Read name prio

pub record IsFree (w : Work) : Type 0 where
  pub name : List ℕ
  pub is : w ≡ Free name

pub record IsClaim (w : Work) : Type 0 where
  pub name : List ℕ
  pub bytes : List ℕ
  pub is : w ≡ Claim name bytes

pub is_read : (w : Work) → kind_of w ≡ ReadKind → IsRead w
is_read Null e = absurd (cc)
is_read (Read name prio) e = record { name = name; prio = prio; is = refl }
is_read (Write name sum copies prio body) e = absurd (cc)
is_read (Free name) e = absurd (cc)
is_read (Claim name pointer) e = absurd (cc)

pub is_free : (w : Work) → kind_of w ≡ FreeKind → IsFree w
is_free Null e = absurd (cc)
is_free (Read name prio) e = absurd (cc)
is_free (Write name sum copies prio body) e = absurd (cc)
is_free (Free name) e = record { name = name; is = refl }
is_free (Claim name pointer) e = absurd (cc)

pub is_claim : (w : Work) → kind_of w ≡ ClaimKind → IsClaim w
is_claim Null e = absurd (cc)
is_claim (Read name prio) e = absurd (cc)
is_claim (Write name sum copies prio body) e = absurd (cc)
is_claim (Free name) e = absurd (cc)
is_claim (Claim name pointer) e = record { name = name; bytes = pointer; is = refl }

pub read_work : (w : Work) → IsRead w → IsReadWork w
read_work w h = subst IsReadWork (sym h.is) tt

pub free_work : (w : Work) → IsFree w → IsFreeWork w
free_work w h = subst IsFreeWork (sym h.is) tt

pub claim_work : (w : Work) → IsClaim w → IsClaimWork w
claim_work w h = subst IsClaimWork (sym h.is) tt

pub read_no_write : (w : Work) → IsRead w → IsNoWrite w
read_no_write w h = subst IsNoWrite (sym h.is) tt

pub free_no_write : (w : Work) → IsFree w → IsNoWrite w
free_no_write w h = subst IsNoWrite (sym h.is) tt

pub claim_no_write : (w : Work) → IsClaim w → IsNoWrite w
claim_no_write w h = subst IsNoWrite (sym h.is) tt

-- ---- its children were all handed out

out_of : (stage : Stage) (x : KidsUnderWay) → (stage ≡ Start → ⊥) → AreOutBehind stage x → x.handed ≡ length x.kids
out_of Start x behind h = absurd (behind refl)
out_of _ x behind h = h

into_out : (stage : Stage) (x : KidsUnderWay) → x.handed ≡ length x.kids → AreOutBehind stage x
into_out Start x h = tt
into_out _ x h = h

pub handed_at : (tops : List Top) (at : RequestAt) → IsRequestAtOver tops at → (at.stage ≡ Start → ⊥) → at.node.kids.kids.handed ≡ length at.node.kids.kids.kids
handed_at tops at h behind = out_of at.stage at.node.kids.kids behind h.stands.out

pub not_start : (stage to : Stage) → stage ≡ to → (to ≡ Start → ⊥) → stage ≡ Start → ⊥
not_start stage to is never e = never (sym is ∙ e)

-- ---- where it stands

from_read : (stage : Stage) (name : List ℕ) (prio : Prio) (tops : List Top) (due : Bool) (r : RequestNode) → (stage ≡ Start → ⊥) → StandsAt (Read name prio) tops stage due r
    → IsReadAtStage tops stage due r.own r.waiting.block
from_read Start name prio tops due r behind h = absurd (behind refl)
from_read _ name prio tops due r behind h = h

from_free : (stage : Stage) (name : List ℕ) (tops : List Top) (due : Bool) (r : RequestNode) → (stage ≡ Start → ⊥) → StandsAt (Free name) tops stage due r
    → IsFreeAtStage stage due r.own r.waiting.block
from_free Start name tops due r behind h = absurd (behind refl)
from_free _ name tops due r behind h = h

from_claim : (stage : Stage) (name bytes : List ℕ) (tops : List Top) (due : Bool) (r : RequestNode) → (stage ≡ Start → ⊥) → StandsAt (Claim name bytes) tops stage due r
    → IsClaimAtStage stage due r.own (points_to_gang bytes)
from_claim Start name bytes tops due r behind h = absurd (behind refl)
from_claim _ name bytes tops due r behind h = h

into_read : (stage : Stage) (name : List ℕ) (prio : Prio) (tops : List Top) (due : Bool) (r : RequestNode) → IsReadAtStage tops stage due r.own r.waiting.block
    → StandsAt (Read name prio) tops stage due r
into_read Start name prio tops due r h = absurd h
into_read _ name prio tops due r h = h

into_free : (stage : Stage) (name : List ℕ) (tops : List Top) (due : Bool) (r : RequestNode) → IsFreeAtStage stage due r.own r.waiting.block
    → StandsAt (Free name) tops stage due r
into_free Start name tops due r h = absurd h
into_free _ name tops due r h = h

pub into_claim : (stage : Stage) (name bytes : List ℕ) (tops : List Top) (due : Bool) (r : RequestNode) → IsClaimAtStage stage due r.own (points_to_gang bytes)
    → StandsAt (Claim name bytes) tops stage due r
into_claim Start name bytes tops due r h = absurd h
into_claim _ name bytes tops due r h = h

-- at this stage it is so far
pub read_stands : (tops : List Top) (at : RequestAt) (stage : Stage) → IsRead at.node.waiting.request.work → IsRequestAtOver tops at → at.stage ≡ stage → (stage ≡ Start → ⊥)
    → IsReadAtStage tops stage at.is_due at.node.own at.node.waiting.block
read_stands tops at stage work h is behind =
    from_read stage work.name work.prio tops at.is_due at.node behind
    (subst (λ (w : Work). StandsAt w tops stage at.is_due at.node) work.is
    (subst (λ (s : Stage). StandsAt at.node.waiting.request.work tops s at.is_due at.node) is h.stands.own))

pub free_stands : (tops : List Top) (at : RequestAt) (stage : Stage) → IsFree at.node.waiting.request.work → IsRequestAtOver tops at → at.stage ≡ stage → (stage ≡ Start → ⊥)
    → IsFreeAtStage stage at.is_due at.node.own at.node.waiting.block
free_stands tops at stage work h is behind =
    from_free stage work.name tops at.is_due at.node behind
    (subst (λ (w : Work). StandsAt w tops stage at.is_due at.node) work.is
    (subst (λ (s : Stage). StandsAt at.node.waiting.request.work tops s at.is_due at.node) is h.stands.own))

pub claim_stands : (tops : List Top) (at : RequestAt) (stage : Stage) (work : IsClaim at.node.waiting.request.work) → IsRequestAtOver tops at → at.stage ≡ stage → (stage ≡ Start → ⊥)
    → IsClaimAtStage stage at.is_due at.node.own (points_to_gang work.bytes)
claim_stands tops at stage work h is behind =
    from_claim stage work.name work.bytes tops at.is_due at.node behind
    (subst (λ (w : Work). StandsAt w tops stage at.is_due at.node) work.is
    (subst (λ (s : Stage). StandsAt at.node.waiting.request.work tops s at.is_due at.node) is h.stands.own))

-- ---- its own work went on

abbrev at_stage : RequestNode → Stage → Bool → RequestAt
at_stage now stage due = record { node = now; stage = stage; is_due = due }

goes_over : (tops : List Top) (at : RequestAt) (now : RequestNode) (stage : Stage) (due : Bool) → IsRequestAtOver tops at → (at.stage ≡ Start → ⊥)
    → now ≡ with_own at.node now.own now.family → IsOwnOver tops now.own now.family → StandsAt now.waiting.request.work tops stage due now
    → IsRequestAtOver tops (at_stage now stage due)
goes_over tops at now stage due h behind rest own stands =
    let handed : now.kids.kids.handed ≡ length now.kids.kids.kids =
    ap (λ (x : RequestNode). x.kids.kids.handed) rest ∙ handed_at tops at h behind ∙ sym (ap (λ (x : RequestNode). length x.kids.kids.kids) rest) in
    record {
      over = over_with_own tops at.node now rest h.over own;
      stands = record { out = into_out stage now.kids.kids handed; own = stands };
    }

pub read_over : (tops : List Top) (at : RequestAt) (now : RequestNode) (stage : Stage) (due : Bool) → IsRead at.node.waiting.request.work → IsRequestAtOver tops at
    → (at.stage ≡ Start → ⊥) → now ≡ with_own at.node now.own now.family → IsOwnOver tops now.own now.family
    → IsReadAtStage tops stage due now.own now.waiting.block → IsRequestAtOver tops (at_stage now stage due)
read_over tops at now stage due work h behind rest own is =
    let same : now.waiting.request.work ≡ Read work.name work.prio = ap (λ (x : RequestNode). x.waiting.request.work) rest ∙ work.is in
    goes_over tops at now stage due h behind rest own
    (subst (λ (w : Work). StandsAt w tops stage due now) (sym same) (into_read stage work.name work.prio tops due now is))

pub free_over : (tops : List Top) (at : RequestAt) (now : RequestNode) (stage : Stage) (due : Bool) → IsFree at.node.waiting.request.work → IsRequestAtOver tops at
    → (at.stage ≡ Start → ⊥) → now ≡ with_own at.node now.own now.family → IsOwnOver tops now.own now.family
    → IsFreeAtStage stage due now.own now.waiting.block → IsRequestAtOver tops (at_stage now stage due)
free_over tops at now stage due work h behind rest own is =
    let same : now.waiting.request.work ≡ Free work.name = ap (λ (x : RequestNode). x.waiting.request.work) rest ∙ work.is in
    goes_over tops at now stage due h behind rest own
    (subst (λ (w : Work). StandsAt w tops stage due now) (sym same) (into_free stage work.name tops due now is))

pub claim_over : (tops : List Top) (at : RequestAt) (now : RequestNode) (stage : Stage) (due : Bool) (work : IsClaim at.node.waiting.request.work) → IsRequestAtOver tops at
    → (at.stage ≡ Start → ⊥) → now ≡ with_own at.node now.own now.family → IsOwnOver tops now.own now.family
    → IsClaimAtStage stage due now.own (points_to_gang work.bytes) → IsRequestAtOver tops (at_stage now stage due)
claim_over tops at now stage due work h behind rest own is =
    let same : now.waiting.request.work ≡ Claim work.name work.bytes = ap (λ (x : RequestNode). x.waiting.request.work) rest ∙ work.is in
    goes_over tops at now stage due h behind rest own
    (subst (λ (w : Work). StandsAt w tops stage due now) (sym same) (into_claim stage work.name work.bytes tops due now is))
