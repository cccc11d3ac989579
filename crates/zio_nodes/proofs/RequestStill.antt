-- What of a request stays while its children's trees go on: how far its own work is, how often it runs, and what it gave back.
use Rattle.std.proofs.Common.{◌≡◌, ℕ, ◌+◌, ◌*◌, List, [], ◌∷◌, length, Bool, true, false, ◌&&◌, Some, inl, inr, refl, sym, ap, subst, ◌∙◌, zero, suc}
use Rattle.std.specs.List.{list_all}
use Rattle.zio_types.specs.declared.place.Top.{Top}
use Rattle.zio_masks.specs.declared.stage.Stage.{Stage}
use Rattle.zio_masks.specs.declared.stage.Stage.TheVariants.{Start, WriteBpInit, IssueAsync, WriteCompress, ChecksumGenerate, DvaAllocate, Ready, VdevIoStart, VdevIoDone, VdevIoAssess, Done}
use Rattle.zio_script.specs.declared.script.Work.{Work}
use Rattle.zio_script.specs.declared.script.Work.TheVariants.{Null, Read, Write, Free, Claim}
use Rattle.zio_children.specs.RequestKids.{KidsUnderWay, has_ended, is_ended, state_at}
use Rattle.zio_children.specs.declared.kids.Kid.{Kid}
use Rattle.zio_children.specs.declared.kids.KidState.{KidState}
use Rattle.zio_frames.specs.Frames.{Child}
use Rattle.zio_exchange.specs.Wholes.{joined}
use Rattle.zio_stages.specs.KidTrees.{KidsHeld}
use Rattle.zio_stages.specs.RequestCounts.{IsMoreDueWrite}
use Rattle.zio_stages.specs.RequestStages.{with_kids}
use Rattle.zio_stages.specs.RequestWrites.{IsBegunWrite, IsDueWrite, IsIssuedWrite, IsPlacedWrite, IsReadyWrite, IsWrittenWrite}
use Rattle.zio_stages.specs.declared.request_node.RequestNode.{RequestNode}
use Rattle.zio_nodes.specs.RequestAts.{AreOutBehind, NullStands, RequestStands, StandsAt, StandsBy, WriteStands, gave_by}
use Rattle.zio_nodes.specs.RequestBounds.{left_by, own_at, own_left, request_left, request_share}
use Rattle.zio_nodes.specs.WriteBounds.{write_at}
use Rattle.zio_nodes.specs.declared.request_at.RequestAt.{RequestAt}
use Rattle.zio_nodes.proofs.OwnStill.{claim_left_still, claim_still, free_left_still, free_still, read_left_still, read_still}

-- ---- a child is out

and_left : (a b : Bool) → a && b ≡ true → a ≡ true
and_left true b e = refl
and_left false b e = absurd (cc)

and_right : (a b : Bool) → a && b ≡ true → b ≡ true
and_right true b e = e
and_right false b e = absurd (cc)

-- so not all have ended
pub still_going : (kids : List Kid) (n : ℕ) (s : KidState) → state_at kids n ≡ Some s → has_ended s ≡ false → list_all is_ended kids ≡ true → ⊥
still_going [] n s e goes all = absurd (cc)
still_going (k ∷ kids) zero s e goes all =
    let is : k.state ≡ s = cc in
    let ended : has_ended k.state ≡ true = and_left (is_ended k) (list_all is_ended kids) all in
    let no : true ≡ false = sym ended ∙ ap has_ended is ∙ goes in
    cc
still_going (k ∷ kids) (suc n) s e goes all = still_going kids n s e goes (and_right (is_ended k) (list_all is_ended kids) all)

-- ---- how far

null_still : (tops : List Top) (stage : Stage) (due : Bool) (r now : RequestNode) → now.own ≡ r.own → NullStands tops stage due r → NullStands tops stage due now
null_still tops Ready due r now own h = own ∙ h
null_still tops Done due r now own h = own ∙ h
null_still tops stage due r now own h = absurd h

write_still : (tops : List Top) (stage : Stage) (due : Bool) (r now : RequestNode) → now.own ≡ r.own → (list_all is_ended r.kids.kids.kids ≡ true → ⊥)
    → WriteStands tops stage due r → WriteStands tops stage due now
write_still tops WriteBpInit due r now own going h = own ∙ h
write_still tops IssueAsync due r now own going h = own ∙ h
write_still tops WriteCompress due r now own going h = own ∙ h
write_still tops ChecksumGenerate due r now own going h = subst IsBegunWrite (sym own) h
write_still tops DvaAllocate due r now own going h = subst IsBegunWrite (sym own) h
write_still tops Ready due r now own going h = subst IsPlacedWrite (sym own) h
write_still tops VdevIoStart due r now own going h = (subst IsReadyWrite (sym own) h.0, h.1)
write_still tops VdevIoDone due r now own going h =
    (subst IsReadyWrite (sym own) h.0, subst IsIssuedWrite (sym own) h.1, λ never more. h.2 never (subst (IsMoreDueWrite tops) own more))
write_still tops VdevIoAssess due r now own going h =
    (subst IsReadyWrite (sym own) h.0, subst IsIssuedWrite (sym own) h.1, subst (IsDueWrite tops) (sym own) h.2)
write_still tops Done due r now own going (inl h) = inl (subst IsWrittenWrite (sym own) h)
write_still tops Done due r now own going (inr h) = absurd (going h.ended)
write_still tops stage due r now own going h = absurd h

kind_still : (work : Work) (tops : List Top) (stage : Stage) (due : Bool) (r now : RequestNode) → now ≡ with_kids r now.kids now.family
    → (list_all is_ended r.kids.kids.kids ≡ true → ⊥) → StandsBy work tops stage due r → StandsBy work tops stage due now
kind_still Null tops stage due r now rest going h = null_still tops stage due r now (ap (λ (x : RequestNode). x.own) rest) h
kind_still (Read name prio) tops stage due r now rest going h = read_still tops stage due r now rest going h
kind_still (Write name sum copies prio body) tops stage due r now rest going h = write_still tops stage due r now (ap (λ (x : RequestNode). x.own) rest) going h
kind_still (Free name) tops stage due r now rest going h = free_still tops stage due r now rest going h
kind_still (Claim name pointer) tops stage due r now rest going h = claim_still tops stage due pointer r now rest going h

at_still : (work : Work) (tops : List Top) (stage : Stage) (due : Bool) (r now : RequestNode) → now ≡ with_kids r now.kids now.family
    → (list_all is_ended r.kids.kids.kids ≡ true → ⊥) → StandsAt work tops stage due r → StandsAt work tops stage due now
at_still work tops Start due r now rest going h = (ap (λ (x : RequestNode). x.own) rest ∙ h.0, h.1)
at_still work tops stage due r now rest going h = kind_still work tops stage due r now rest going h

out_still : (stage : Stage) (x y : KidsUnderWay) → y.handed ≡ x.handed → length y.kids ≡ length x.kids → AreOutBehind stage x → AreOutBehind stage y
out_still Start x y handed many h = tt
out_still stage x y handed many h = handed ∙ h ∙ sym many

-- as far as before
pub stands_still : (tops : List Top) (stage : Stage) (due : Bool) (r now : RequestNode) → now ≡ with_kids r now.kids now.family
    → now.kids.kids.handed ≡ r.kids.kids.handed → length now.kids.kids.kids ≡ length r.kids.kids.kids
    → (list_all is_ended r.kids.kids.kids ≡ true → ⊥) → RequestStands tops stage due r → RequestStands tops stage due now
stands_still tops stage due r now rest handed many going h = record {
  out = out_still stage r.kids.kids now.kids.kids handed many h.out;
  own = subst (λ (w : Work). StandsAt w tops stage due now) (sym (ap (λ (x : RequestNode). x.waiting.request.work) rest))
      (at_still r.waiting.request.work tops stage due r now rest going h.own);
}

-- ---- what went back

kids_gave : (work : Work) (r : RequestNode) (kids : KidsHeld) (family : List Child) → gave_by work (with_kids r kids family) ≡ gave_by work r
kids_gave Null r kids family = refl
kids_gave (Read name prio) r kids family = refl
kids_gave (Write name sum copies prio body) r kids family = refl
kids_gave (Free name) r kids family = refl
kids_gave (Claim name pointer) r kids family = refl

pub gave_still : (r now : RequestNode) → now ≡ with_kids r now.kids now.family → gave_by now.waiting.request.work now ≡ gave_by r.waiting.request.work r
gave_still r now rest =
    ap (λ (x : RequestNode). gave_by x.waiting.request.work x) rest ∙ kids_gave r.waiting.request.work r now.kids now.family

-- ---- how often

kind_left : (work : Work) (stage : Stage) (due : Bool) (r now : RequestNode) → now ≡ with_kids r now.kids now.family
    → left_by work (record { node = now; stage = stage; is_due = due }) ≡ left_by work (record { node = r; stage = stage; is_due = due })
kind_left Null stage due r now rest = refl
kind_left (Read name prio) stage due r now rest = read_left_still stage due r now rest
kind_left (Write name sum copies prio body) stage due r now rest = ap (λ (x : RequestNode). write_at stage due x.own) rest
kind_left (Free name) stage due r now rest = free_left_still stage due r now rest
kind_left (Claim name pointer) stage due r now rest = claim_left_still stage due r now rest

at_left : (work : Work) (stage : Stage) (due : Bool) (r now : RequestNode) → now ≡ with_kids r now.kids now.family
    → own_at stage work (record { node = now; stage = stage; is_due = due }) ≡ own_at stage work (record { node = r; stage = stage; is_due = due })
at_left work Start due r now rest = refl
at_left work stage due r now rest = kind_left work stage due r now rest

pub left_still : (stage : Stage) (due : Bool) (r now : RequestNode) → now ≡ with_kids r now.kids now.family → now.kids.due ≡ r.kids.due
    → request_left (record { node = now; stage = stage; is_due = due }) ≡ request_left (record { node = r; stage = stage; is_due = due })
left_still stage due r now rest same =
    let was : RequestAt = record { node = r; stage = stage; is_due = due } in
    let is : RequestAt = record { node = now; stage = stage; is_due = due } in
    let own : own_left is ≡ own_left was =
    ap (λ (w : Work). own_at stage w is) (ap (λ (x : RequestNode). x.waiting.request.work) rest) ∙ at_left r.waiting.request.work stage due r now rest in
    (λ i. length (joined (same i)) * request_share + own i)
