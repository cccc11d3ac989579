-- How far a read, a free and a claim are, and how often they run, stays while their children's trees go on.
use Rattle.std.proofs.Common.{◌≡◌, ℕ, ◌+◌, List, Bool, true, Option, sym, ap, subst}
use Rattle.std.specs.List.{list_all}
use Rattle.zio_types.specs.declared.place.Top.{Top}
use Rattle.zio_masks.specs.declared.stage.Stage.{Stage}
use Rattle.zio_gang.specs.declared.tree.Tree.{Tree}
use Rattle.zio_children.specs.RequestKids.{is_ended}
use Rattle.zio_stages.specs.RequestKinds.{points_to_gang}
use Rattle.zio_stages.specs.RequestStages.{with_kids}
use Rattle.zio_stages.specs.declared.request_node.Own.{Own}
use Rattle.zio_stages.specs.declared.request_node.RequestNode.{RequestNode}
use Rattle.zio_nodes.specs.OwnAts.{ClaimStands, FreeStands, IsClaimAtStage, IsFreeAtStage, IsReadAtStage, ReadStands}
use Rattle.zio_nodes.specs.OwnBounds.{claim_left, claim_stages, claiming_left, free_left, free_stages, freeing_left, read_left, read_stages, reading_left}

-- ---- what stays

own_same : (r now : RequestNode) → now ≡ with_kids r now.kids now.family → r.own ≡ now.own
own_same r now rest = sym (ap (λ (x : RequestNode). x.own) rest)

block_same : (r now : RequestNode) → now ≡ with_kids r now.kids now.family → r.waiting.block ≡ now.waiting.block
block_same r now rest = sym (ap (λ (x : RequestNode). x.waiting.block) rest)

-- ---- how far

-- while a child's attempt hasn't ended
pub read_still : (tops : List Top) (stage : Stage) (due : Bool) (r now : RequestNode) → now ≡ with_kids r now.kids now.family
    → (list_all is_ended r.kids.kids.kids ≡ true → ⊥) → ReadStands tops stage due r → ReadStands tops stage due now
read_still tops stage due r now rest going h =
    subst (λ (o : Own). IsReadAtStage tops stage due o now.waiting.block) (own_same r now rest)
    (subst (λ (b : Option Tree). IsReadAtStage tops stage due r.own b) (block_same r now rest) h)

pub free_still : (tops : List Top) (stage : Stage) (due : Bool) (r now : RequestNode) → now ≡ with_kids r now.kids now.family
    → (list_all is_ended r.kids.kids.kids ≡ true → ⊥) → FreeStands tops stage due r → FreeStands tops stage due now
free_still tops stage due r now rest going h =
    subst (λ (o : Own). IsFreeAtStage stage due o now.waiting.block) (own_same r now rest)
    (subst (λ (b : Option Tree). IsFreeAtStage stage due r.own b) (block_same r now rest) h)

pub claim_still : (tops : List Top) (stage : Stage) (due : Bool) (pointer : List ℕ) (r now : RequestNode) → now ≡ with_kids r now.kids now.family
    → (list_all is_ended r.kids.kids.kids ≡ true → ⊥) → ClaimStands tops stage due pointer r → ClaimStands tops stage due pointer now
claim_still tops stage due pointer r now rest going h = subst (λ (o : Own). IsClaimAtStage stage due o (points_to_gang pointer)) (own_same r now rest) h

-- ---- how often

pub read_left_still : (stage : Stage) (due : Bool) (r now : RequestNode) → now ≡ with_kids r now.kids now.family
    → read_left (record { node = now; stage = stage; is_due = due }) ≡ read_left (record { node = r; stage = stage; is_due = due })
read_left_still stage due r now rest = ap (λ (o : Own). reading_left o + read_stages stage due) (sym (own_same r now rest))

pub free_left_still : (stage : Stage) (due : Bool) (r now : RequestNode) → now ≡ with_kids r now.kids now.family
    → free_left (record { node = now; stage = stage; is_due = due }) ≡ free_left (record { node = r; stage = stage; is_due = due })
free_left_still stage due r now rest = ap (λ (o : Own). freeing_left o + free_stages stage) (sym (own_same r now rest))

pub claim_left_still : (stage : Stage) (due : Bool) (r now : RequestNode) → now ≡ with_kids r now.kids now.family
    → claim_left (record { node = now; stage = stage; is_due = due }) ≡ claim_left (record { node = r; stage = stage; is_due = due })
claim_left_still stage due r now rest = ap (λ (o : Own). claiming_left o + claim_stages stage) (sym (own_same r now rest))
