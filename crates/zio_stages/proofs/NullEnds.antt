-- A null's own work, which asks nothing and comes to nothing.
use Rattle.std.proofs.Common.{◌≡◌, ℕ, List, [], ◌∷◌, None, sym, ap, ◌∙◌}
use Rattle.zio_types.specs.declared.request.Prio.{Prio}
use Rattle.zio_blkptr.specs.declared.pointer.SumKind.{SumKind}
use Rattle.zio_script.specs.declared.script.Body.{Body}
use Rattle.zio_script.specs.declared.script.Work.{Work}
use Rattle.zio_script.specs.declared.script.Work.TheVariants.{Null, Read as ReadWork, Write as WriteWork, Free as FreeWork, Claim as ClaimWork}
use Rattle.zio_gang.specs.Attempts.{Terms}
use Rattle.zio_trace.specs.Plans.{TaskPlan, only, plan_own}
use Rattle.zio_trace.specs.Programs.{Ends}
use Rattle.zio_trace.specs.Tasks.{OwnGot, Task}
use Rattle.zio_children.specs.RequestKids.{KidsUnderWay, pointers_of}
use Rattle.zio_frames.specs.Frames.{Stack}
use Rattle.zio_frames.specs.Slots.{AllHeard, Slot, left_behind_slots, told_in}
use Rattle.zio_exchange.specs.Waits.{pending_of}
use Rattle.zio_stages.specs.PartWorks.{Front}
use Rattle.zio_stages.specs.RequestNodes.{IsOwnOf, IsRequestNode, OwnEnds, front_by}
use Rattle.zio_stages.specs.declared.request_node.Own.{Own}
use Rattle.zio_stages.specs.declared.request_node.Own.TheVariants.{Claim, Due, Found, Free, Over, Read, Stored, Write}
use Rattle.zio_stages.specs.declared.request_node.RequestNode.{RequestNode}

left_of_end : (slots : List Slot) (own : OwnGot) (p : TaskPlan OwnGot) → p ≡ Ends own → left_behind_slots slots p ≡ Ends own
left_of_end [] own p e = e
left_of_end (s ∷ slots) own p e = ap (left_behind_slots (s ∷ slots)) e

no_write : (w : Work) (name : List ℕ) (sum : SumKind) (copies : ℕ) (prio : Prio) (body : Body) → w ≡ Null → w ≡ WriteWork name sum copies prio body → ⊥
no_write w name sum copies prio body a b = let e : Null ≡ WriteWork name sum copies prio body = sym a ∙ b in absurd (cc)

no_read : (w : Work) (name : List ℕ) (prio : Prio) → w ≡ Null → w ≡ ReadWork name prio → ⊥
no_read w name prio a b = let e : Null ≡ ReadWork name prio = sym a ∙ b in absurd (cc)

no_free : (w : Work) (name : List ℕ) → w ≡ Null → w ≡ FreeWork name → ⊥
no_free w name a b = let e : Null ≡ FreeWork name = sym a ∙ b in absurd (cc)

no_claim : (w : Work) (name bytes : List ℕ) → w ≡ Null → w ≡ ClaimWork name bytes → ⊥
no_claim w name bytes a b = let e : Null ≡ ClaimWork name bytes = sym a ∙ b in absurd (cc)

-- nothing of a null's is out
pub all_heard : (t : Terms) (r : RequestNode) (x : KidsUnderWay) (f : Front) (own : Own) (st : Stack) (asked : List Task) (slots : List Slot)
    → IsOwnOf t r x f own st asked slots → r.waiting.request.work ≡ Null → (st.inner ≡ None) × AllHeard slots
all_heard t r x f Due st asked slots h null = (h.2, ap told_in h.1)
all_heard t r x f (Write w) st asked slots h null =
    absurd (no_write r.waiting.request.work h.block.name h.block.sum h.block.copies h.block.prio h.block.body null h.block.work)
all_heard t r x f (Stored b) st asked slots h null = (h.alone, h.heard)
all_heard t r x f (Read w) st asked slots h null = absurd (no_read r.waiting.request.work h.name h.prio null h.work)
all_heard t r x f (Free w) st asked slots h null = absurd (no_free r.waiting.request.work h.name null h.work)
all_heard t r x f (Claim w) st asked slots h null = absurd (no_claim r.waiting.request.work h.name h.bytes null h.work)
all_heard t r x f (Found v) st asked slots h null = (h.alone, h.heard)
all_heard t r x f Over st asked slots h null = (h.alone, h.heard)

pub null_ends : (t : Terms) (r : RequestNode) (st : Stack) (h : IsRequestNode t r st) (own : OwnGot) → r.waiting.request.work ≡ Null
    → own ≡ only None → OwnEnds t r st own h
null_ends t r st h own null is =
    let heard = all_heard t r r.kids.kids (front_by r h.forest h.kid_asked h.kid_slots) r.own st h.own_asked h.own_slots h.own null in
    record {
      alone = heard.0;
      heard = heard.1;
      value = left_of_end h.own_slots own (plan_own t r.attempt (pending_of r.waiting) (pending_of r.waiting).request.work (pointers_of r.kids.kids))
          (ap (λ (w : Work). plan_own t r.attempt (pending_of r.waiting) w (pointers_of r.kids.kids)) null ∙ ap (λ (o : OwnGot). Ends o) (sym is));
    }
