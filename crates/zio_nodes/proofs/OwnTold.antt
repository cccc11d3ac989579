-- A request whose own work stays as far as it is while a child of it tells.
use Rattle.std.proofs.Common.{◌≡◌, ◌≢◌, ◌+◌, ◌*◌, List, length, Bool, refl, sym, ap, subst, ◌∙◌}
use Rattle.zio_types.specs.declared.place.Top.{Top}
use Rattle.zio_types.specs.declared.request.Kind.TheVariants.{Write as WriteKind}
use Rattle.zio_masks.specs.declared.stage.Stage.{Stage}
use Rattle.zio_masks.specs.declared.stage.Stage.TheVariants.{Start, Ready, Done}
use Rattle.zio_script.specs.Requests.{kind_of}
use Rattle.zio_script.specs.declared.script.Work.{Work}
use Rattle.zio_script.specs.declared.script.Work.TheVariants.{Null, Read, Write, Free, Claim}
use Rattle.zio_frames.specs.Frames.{Child}
use Rattle.zio_exchange.specs.Wholes.{joined}
use Rattle.zio_stages.specs.RequestNodes.{IsOwnOver}
use Rattle.zio_stages.specs.RequestStages.{with_own}
use Rattle.zio_stages.specs.declared.request_node.Own.{Own}
use Rattle.zio_stages.specs.declared.request_node.RequestNode.{RequestNode}
use Rattle.zio_nodes.specs.RequestAts.{IsRequestAtOver, NullStands, RequestStands, StandsAt, StandsBy, gave_by}
use Rattle.zio_nodes.specs.RequestBounds.{left_by, own_at, request_left, request_share}
use Rattle.zio_nodes.specs.declared.request_at.RequestAt.{RequestAt}
use Rattle.zio_nodes.proofs.KidMarks.{over_own}

abbrev at_stage : RequestNode → Stage → Bool → RequestAt
at_stage r stage due = record { node = r; stage = stage; is_due = due }

-- the same own work, and its children as they are now
abbrev pub IsSameOwn : RequestNode → RequestNode → Type 0
IsSameOwn r now = now ≡ with_own r r.own now.family

pub same_own : (r now : RequestNode) → now ≡ with_own r now.own now.family → now.own ≡ r.own → IsSameOwn r now
same_own r now rest own = rest ∙ ap (λ (o : Own). with_own r o now.family) own

-- ---- what it gave back

work_gave : (work : Work) (r : RequestNode) (family : List Child) → gave_by work (with_own r r.own family) ≡ gave_by work r
work_gave Null r family = refl
work_gave (Read name prio) r family = refl
work_gave (Write name sum copies prio body) r family = refl
work_gave (Free name) r family = refl
work_gave (Claim name pointer) r family = refl

pub told_gave : (r now : RequestNode) → IsSameOwn r now → gave_by now.waiting.request.work now ≡ gave_by r.waiting.request.work r
told_gave r now same = ap (λ (x : RequestNode). gave_by x.waiting.request.work x) same ∙ work_gave r.waiting.request.work r now.family

-- ---- how often it runs

work_left : (work : Work) (stage : Stage) (due : Bool) (r : RequestNode) (family : List Child)
    → left_by work (at_stage (with_own r r.own family) stage due) ≡ left_by work (at_stage r stage due)
work_left Null stage due r family = refl
work_left (Read name prio) stage due r family = refl
work_left (Write name sum copies prio body) stage due r family = refl
work_left (Free name) stage due r family = refl
work_left (Claim name pointer) stage due r family = refl

stage_left : (work : Work) (stage : Stage) (due : Bool) (r : RequestNode) (family : List Child)
    → own_at stage work (at_stage (with_own r r.own family) stage due) ≡ own_at stage work (at_stage r stage due)
stage_left work Start due r family = refl
stage_left work stage due r family = work_left work stage due r family

pub told_left : (stage : Stage) (due : Bool) (r now : RequestNode) → IsSameOwn r now → request_left (at_stage now stage due) ≡ request_left (at_stage r stage due)
told_left stage due r now same =
    ap (λ (x : RequestNode). request_left (at_stage x stage due)) same
    ∙ ap (λ n. length (joined r.kids.due) * request_share + n) (stage_left r.waiting.request.work stage due r now.family)

-- ---- how far it is

null_stands : (tops : List Top) (stage : Stage) (due : Bool) (r : RequestNode) (family : List Child) → NullStands tops stage due r → NullStands tops stage due (with_own r r.own family)
null_stands tops Ready due r family h = h
null_stands tops Done due r family h = h
null_stands tops stage due r family h = absurd h

work_stands : (work : Work) (tops : List Top) (stage : Stage) (due : Bool) (r : RequestNode) (family : List Child) → kind_of work ≢ WriteKind → StandsBy work tops stage due r
    → StandsBy work tops stage due (with_own r r.own family)
work_stands Null tops stage due r family kind h = null_stands tops stage due r family h
work_stands (Read name prio) tops stage due r family kind h = h
work_stands (Write name sum copies prio body) tops stage due r family kind h = absurd (kind refl)
work_stands (Free name) tops stage due r family kind h = h
work_stands (Claim name pointer) tops stage due r family kind h = h

stage_stands : (work : Work) (tops : List Top) (stage : Stage) (due : Bool) (r : RequestNode) (family : List Child) → kind_of work ≢ WriteKind → StandsAt work tops stage due r
    → StandsAt work tops stage due (with_own r r.own family)
stage_stands work tops Start due r family kind h = h
stage_stands work tops stage due r family kind h = work_stands work tops stage due r family kind h

told_stands : (tops : List Top) (stage : Stage) (due : Bool) (r now : RequestNode) → kind_of r.waiting.request.work ≢ WriteKind → IsSameOwn r now → RequestStands tops stage due r
    → RequestStands tops stage due now
told_stands tops stage due r now kind same h =
    subst (RequestStands tops stage due) (sym same) (record { out = h.out; own = stage_stands r.waiting.request.work tops stage due r now.family kind h.own })

pub told_over : (tops : List Top) (at : RequestAt) (now : RequestNode) → kind_of at.node.waiting.request.work ≢ WriteKind → now ≡ with_own at.node now.own now.family → now.own ≡ at.node.own
    → (IsOwnOver tops at.node.own at.node.family → IsOwnOver tops now.own now.family) → IsRequestAtOver tops at → IsRequestAtOver tops (at_stage now at.stage at.is_due)
told_over tops at now kind rest own over h = record {
  over = over_own tops at.node now now.family rest h.over (over h.over.own);
  stands = told_stands tops at.stage at.is_due at.node now kind (same_own at.node now rest own) h.stands;
}
