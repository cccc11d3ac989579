-- How often a read, a free and a claim run once their own work went on, and what they gave back so far.
use Rattle.std.proofs.Common.{◌≡◌, ℕ, ◌+◌, ◌*◌, ◌≤◌, List, [], ◌++◌, length, take, Bool, Option, Some, is_none, refl, sym, ap, subst, ◌∙◌, arith}
use Rattle.zio_types.specs.declared.error.Errno.{Errno}
use Rattle.zio_types.specs.declared.place.Place.{Place}
use Rattle.zio_masks.specs.declared.stage.Stage.{Stage}
use Rattle.zio_masks.specs.declared.stage.Stage.TheVariants.{Start}
use Rattle.zio_script.specs.declared.script.Work.{Work}
use Rattle.zio_gang.specs.declared.tree.Tree.{Tree}
use Rattle.zio_exchange.specs.Outcomes.{freed_if}
use Rattle.zio_exchange.specs.Wholes.{joined}
use Rattle.zio_stages.specs.RequestFrees.{freed_by}
use Rattle.zio_stages.specs.RequestReads.{HasFound, found_error}
use Rattle.zio_stages.specs.RequestStages.{with_own}
use Rattle.zio_stages.specs.StoredBlocks.{block_places}
use Rattle.zio_stages.specs.declared.request_node.Own.{Own}
use Rattle.zio_stages.specs.declared.request_node.Own.TheVariants.{Claim as ClaimOwn, Due, Found, Free as FreeOwn, Over, Read as ReadOwn, Stored, Write as WriteOwn}
use Rattle.zio_stages.specs.declared.request_node.RequestNode.{RequestNode}
use Rattle.zio_nodes.specs.OwnBounds.{claim_left, free_left, read_left}
use Rattle.zio_nodes.specs.RequestAts.{freed_so_far, gave_by}
use Rattle.zio_nodes.specs.RequestBounds.{left_by, own_at, own_left, request_left, request_share}
use Rattle.zio_nodes.specs.declared.request_at.RequestAt.{RequestAt}
use Rattle.zio_nodes.proofs.OwnOver.{IsClaim, IsFree, IsRead}

abbrev at_stage : RequestNode → Stage → Bool → RequestAt
at_stage now stage due = record { node = now; stage = stage; is_due = due }

-- ---- how often

behind_start : (stage : Stage) (work : Work) (at : RequestAt) → (stage ≡ Start → ⊥) → own_at stage work at ≡ left_by work at
behind_start Start work at behind = absurd (behind refl)
behind_start _ work at behind = refl

pub read_own_left : (at : RequestAt) → IsRead at.node.waiting.request.work → (at.stage ≡ Start → ⊥) → own_left at ≡ read_left at
read_own_left at work behind = behind_start at.stage at.node.waiting.request.work at behind ∙ ap (λ (w : Work). left_by w at) work.is

pub free_own_left : (at : RequestAt) → IsFree at.node.waiting.request.work → (at.stage ≡ Start → ⊥) → own_left at ≡ free_left at
free_own_left at work behind = behind_start at.stage at.node.waiting.request.work at behind ∙ ap (λ (w : Work). left_by w at) work.is

pub claim_own_left : (at : RequestAt) → IsClaim at.node.waiting.request.work → (at.stage ≡ Start → ⊥) → own_left at ≡ claim_left at
claim_own_left at work behind = behind_start at.stage at.node.waiting.request.work at behind ∙ ap (λ (w : Work). left_by w at) work.is

same_due : (r now : RequestNode) → now ≡ with_own r now.own now.family → length (joined now.kids.due) * request_share ≡ length (joined r.kids.due) * request_share
same_due r now rest = ap (λ (x : RequestNode). length (joined x.kids.due) * request_share) rest

less_by : (due due' old new n : ℕ) → due' ≡ due → new + n ≤ old → due' + new + n ≤ due + old
less_by due due' old new n same h = omega (arith, same, h)

work_still : (r now : RequestNode) → now ≡ with_own r now.own now.family → now.waiting.request.work ≡ r.waiting.request.work
work_still r now rest = ap (λ (x : RequestNode). x.waiting.request.work) rest

pub still_read : (r now : RequestNode) → now ≡ with_own r now.own now.family → IsRead r.waiting.request.work → IsRead now.waiting.request.work
still_read r now rest h = subst IsRead (sym (work_still r now rest)) h

pub still_free : (r now : RequestNode) → now ≡ with_own r now.own now.family → IsFree r.waiting.request.work → IsFree now.waiting.request.work
still_free r now rest h = subst IsFree (sym (work_still r now rest)) h

pub still_claim : (r now : RequestNode) → now ≡ with_own r now.own now.family → IsClaim r.waiting.request.work → IsClaim now.waiting.request.work
still_claim r now rest h = subst IsClaim (sym (work_still r now rest)) h

pub read_less : (at : RequestAt) (now : RequestNode) (stage : Stage) (due : Bool) (n : ℕ) → IsRead at.node.waiting.request.work → (at.stage ≡ Start → ⊥) → (stage ≡ Start → ⊥)
    → now ≡ with_own at.node now.own now.family → read_left (at_stage now stage due) + n ≤ read_left at → request_left (at_stage now stage due) + n ≤ request_left at
read_less at now stage due n work was behind rest h =
    let a : own_left at ≡ read_left at = read_own_left at work was in
    let b : own_left (at_stage now stage due) ≡ read_left (at_stage now stage due) = read_own_left (at_stage now stage due) (still_read at.node now rest work) behind in
    less_by (length (joined at.node.kids.due) * request_share) (length (joined now.kids.due) * request_share) (own_left at) (own_left (at_stage now stage due)) n
    (same_due at.node now rest) (subst (λ m. m + n ≤ own_left at) (sym b) (subst (λ m. read_left (at_stage now stage due) + n ≤ m) (sym a) h))

pub free_less : (at : RequestAt) (now : RequestNode) (stage : Stage) (due : Bool) (n : ℕ) → IsFree at.node.waiting.request.work → (at.stage ≡ Start → ⊥) → (stage ≡ Start → ⊥)
    → now ≡ with_own at.node now.own now.family → free_left (at_stage now stage due) + n ≤ free_left at → request_left (at_stage now stage due) + n ≤ request_left at
free_less at now stage due n work was behind rest h =
    let a : own_left at ≡ free_left at = free_own_left at work was in
    let b : own_left (at_stage now stage due) ≡ free_left (at_stage now stage due) = free_own_left (at_stage now stage due) (still_free at.node now rest work) behind in
    less_by (length (joined at.node.kids.due) * request_share) (length (joined now.kids.due) * request_share) (own_left at) (own_left (at_stage now stage due)) n
    (same_due at.node now rest) (subst (λ m. m + n ≤ own_left at) (sym b) (subst (λ m. free_left (at_stage now stage due) + n ≤ m) (sym a) h))

pub claim_less : (at : RequestAt) (now : RequestNode) (stage : Stage) (due : Bool) (n : ℕ) → IsClaim at.node.waiting.request.work → (at.stage ≡ Start → ⊥) → (stage ≡ Start → ⊥)
    → now ≡ with_own at.node now.own now.family → claim_left (at_stage now stage due) + n ≤ claim_left at → request_left (at_stage now stage due) + n ≤ request_left at
claim_less at now stage due n work was behind rest h =
    let a : own_left at ≡ claim_left at = claim_own_left at work was in
    let b : own_left (at_stage now stage due) ≡ claim_left (at_stage now stage due) = claim_own_left (at_stage now stage due) (still_claim at.node now rest work) behind in
    less_by (length (joined at.node.kids.due) * request_share) (length (joined now.kids.due) * request_share) (own_left at) (own_left (at_stage now stage due)) n
    (same_due at.node now rest) (subst (λ m. m + n ≤ own_left at) (sym b) (subst (λ m. claim_left (at_stage now stage due) + n ≤ m) (sym a) h))

-- at its end it pays for what its parent hears
pub own_pays : (at : RequestAt) (n m : ℕ) → own_left at ≡ m → n ≤ m → n ≤ request_left at
own_pays at n m is h = omega (arith, is, h)

-- ---- what it gave back

pub read_gave : (r : RequestNode) → IsRead r.waiting.request.work → gave_by r.waiting.request.work r ≡ []
read_gave r work = ap (λ (w : Work). gave_by w r) work.is

pub claim_gave : (r : RequestNode) → IsClaim r.waiting.request.work → gave_by r.waiting.request.work r ≡ []
claim_gave r work = ap (λ (w : Work). gave_by w r) work.is

pub free_gave : (r : RequestNode) → IsFree r.waiting.request.work → gave_by r.waiting.request.work r ≡ freed_so_far r.own r.waiting.block
free_gave r work = ap (λ (w : Work). gave_by w r) work.is

pub read_gave_same : (r now : RequestNode) → IsRead r.waiting.request.work → now ≡ with_own r now.own now.family → gave_by now.waiting.request.work now ≡ gave_by r.waiting.request.work r
read_gave_same r now work rest = read_gave now (still_read r now rest work) ∙ sym (read_gave r work)

pub claim_gave_same : (r now : RequestNode) → IsClaim r.waiting.request.work → now ≡ with_own r now.own now.family → gave_by now.waiting.request.work now ≡ gave_by r.waiting.request.work r
claim_gave_same r now work rest = claim_gave now (still_claim r now rest work) ∙ sym (claim_gave r work)

block_still : (r now : RequestNode) → now ≡ with_own r now.own now.family → now.waiting.block ≡ r.waiting.block
block_still r now rest = ap (λ (x : RequestNode). x.waiting.block) rest

pub free_gave_same : (r now : RequestNode) → IsFree r.waiting.request.work → now ≡ with_own r now.own now.family
    → freed_so_far now.own r.waiting.block ≡ freed_so_far r.own r.waiting.block → gave_by now.waiting.request.work now ≡ gave_by r.waiting.request.work r
free_gave_same r now work rest h =
    free_gave now (still_free r now rest work) ∙ ap (λ (b : Option Tree). freed_so_far now.own b) (block_still r now rest) ∙ h ∙ sym (free_gave r work)

-- none went back
pub none_freed : (own : Own) (block : Option Tree) → freed_by own ≡ 0 → (HasFound own → (e : Errno) × (found_error own ≡ Some e)) → freed_so_far own block ≡ []
none_freed Due block given failed = refl
none_freed (WriteOwn w) block given failed = refl
none_freed (Stored b) block given failed = refl
none_freed (ReadOwn w) block given failed = refl
none_freed (FreeOwn w) block given failed = ap (λ n. take n (block_places block)) given
none_freed (ClaimOwn w) block given failed = refl
none_freed (Found own) block given failed = let e = failed (own, refl) in ap (λ (x : Option Errno). freed_if (is_none x) (block_places block)) e.1
none_freed Over block given failed = refl

pub free_gave_more : (r now : RequestNode) → IsFree r.waiting.request.work → now ≡ with_own r now.own now.family → (gone : List Place)
    → freed_so_far now.own r.waiting.block ≡ freed_so_far r.own r.waiting.block ++ gone → gave_by now.waiting.request.work now ≡ gave_by r.waiting.request.work r ++ gone
free_gave_more r now work rest gone h =
    free_gave now (still_free r now rest work) ∙ ap (λ (b : Option Tree). freed_so_far now.own b) (block_still r now rest) ∙ h ∙ ap (λ ps. ps ++ gone) (sym (free_gave r work))
