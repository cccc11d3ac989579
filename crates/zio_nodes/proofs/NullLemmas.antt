-- A null in an attempt, stage by stage.
use Rattle.std.proofs.Common.{◌≡◌, ℕ, List, [], ◌++◌, Bool, true, false, Option, Some, None, refl, sym, ap, subst, ◌∙◌}
use Rattle.std.specs.List.{flat_map}
use Rattle.std.specs.Prelude.{IsPermutation, is_none}
use Rattle.std.proofs.lemmas.List.Sorted.{IsPermutation-refl}
use Rattle.zio_types.specs.declared.place.Place.{Place}
use Rattle.zio_types.specs.declared.place.Top.{Top}
use Rattle.zio_types.specs.declared.error.Errno.{Errno}
use Rattle.zio_types.specs.declared.request.Kind.TheVariants.{Null as NullKind}
use Rattle.zio_masks.specs.declared.stage.Stage.{Stage}
use Rattle.zio_masks.specs.declared.stage.Stage.TheVariants.{Done, Ready, Start}
use Rattle.zio_script.specs.Requests.{kind_of}
use Rattle.zio_script.specs.declared.script.Work.{Work}
use Rattle.zio_script.specs.declared.script.Work.TheVariants.{Null, Read, Write, Free, Claim}
use Rattle.zio_gang.specs.declared.tree.Tree.{Tree}
use Rattle.zio_gang.specs.Attempts.{Terms, tree_unless}
use Rattle.zio_frames.specs.Frames.{Stack}
use Rattle.zio_exchange.specs.Outcomes.{freed_by, freed_if, freed_of, held_by, made_by, places_in}
use Rattle.zio_stages.specs.ClosedRequests.{Again, Closed, Finished}
use Rattle.zio_stages.specs.Closings.{outcome_of}
use Rattle.zio_stages.specs.OwnParts.{IsNoWrite}
use Rattle.zio_stages.specs.RequestNodes.{IsRequestNode}
use Rattle.zio_stages.specs.RequestStoreds.{own_in}
use Rattle.zio_stages.specs.StoredBlocks.{block_places}
use Rattle.zio_stages.specs.declared.request_node.Own.TheVariants.{Due}
use Rattle.zio_stages.specs.declared.request_node.RequestNode.{RequestNode}
use Rattle.zio_stages.proofs.KidAsking.{kids_full}
use Rattle.zio_staged.specs.Parts.{ended_in_slot}
use Rattle.zio_nodes.specs.RequestAts.{AreOutBehind, NullStands, RequestStands, StandsAt, gave_by}
use Rattle.zio_nodes.specs.RequestBounds.{left_by, null_left, own_at, own_left}
use Rattle.zio_nodes.specs.declared.request_at.RequestAt.{RequestAt}
use Rattle.zio_nodes.proofs.RequestEndings.{held_by_own}
use Rattle.zio_nodes.proofs.StartLemmas.{own_due}

-- ---- its kind

pub null_work : (work : Work) → kind_of work ≡ NullKind → work ≡ Null
null_work Null e = refl
null_work (Read name prio) e = absurd (cc)
null_work (Write name sum copies prio body) e = absurd (cc)
null_work (Free name) e = absurd (cc)
null_work (Claim name pointer) e = absurd (cc)

pub null_no_write : (work : Work) → kind_of work ≡ NullKind → IsNoWrite work
null_no_write work e = subst IsNoWrite (sym (null_work work e)) tt

pub null_gave : (work : Work) (r : RequestNode) → kind_of work ≡ NullKind → gave_by work r ≡ []
null_gave work r e = ap (λ (w : Work). gave_by w r) (null_work work e)

-- ---- how often it runs

pub null_runs : (at : RequestAt) → kind_of at.node.waiting.request.work ≡ NullKind → at.stage ≡ Ready → own_left at ≡ 12
null_runs at kind is =
    ap (λ (s : Stage). own_at s at.node.waiting.request.work at) is ∙ ap (λ (w : Work). left_by w at) (null_work at.node.waiting.request.work kind)
    ∙ ap null_left is

pub null_ends_left : (at : RequestAt) → kind_of at.node.waiting.request.work ≡ NullKind → at.stage ≡ Done → own_left at ≡ 6
null_ends_left at kind is =
    ap (λ (s : Stage). own_at s at.node.waiting.request.work at) is ∙ ap (λ (w : Work). left_by w at) (null_work at.node.waiting.request.work kind)
    ∙ ap null_left is

-- ---- how far it is

pub null_due : (tops : List Top) (stage : Stage) (due : Bool) (r : RequestNode) → NullStands tops stage due r → r.own ≡ Due
null_due tops Ready due r h = h
null_due tops Done due r h = h
null_due tops stage due r h = absurd h

-- ---- it ends, and no place is in it

freed_none : (b : Bool) → freed_if b [] ≡ []
freed_none true = refl
freed_none false = refl

-- of what is no free
pub freed_nothing : (t : Terms) (r : RequestNode) (st : Stack) (label : ℕ) (closed : Closed) → IsRequestNode t r st
    → ((block : Option Tree) → freed_of r.waiting.request.work block ≡ []) → freed_by st.outer.op (outcome_of label closed) ≡ []
freed_nothing t r st label (Finished waiting error own) h none =
    ap (λ op. freed_by op (outcome_of label (Finished waiting error own))) h.op
    ∙ ap (λ ps. freed_if (is_none error) ps) (none r.waiting.block) ∙ freed_none (is_none error)
freed_nothing t r st label (Again bits whole own) h none = refl

made_unless : (error : Option Errno) (tree : Option Tree) → tree ≡ None → tree_unless error tree ≡ None
made_unless None tree none = none
made_unless (Some e) tree none = refl

pub made_nothing : (label : ℕ) (closed : Closed) → (own_in closed).tree ≡ None → made_by (outcome_of label closed) ≡ []
made_nothing label (Finished waiting error own) none = ap (λ (tree : Option Tree). block_places tree) (made_unless error own.tree none)
made_nothing label (Again bits whole own) none = refl

null_freed : (work : Work) (block : Option Tree) → kind_of work ≡ NullKind → freed_of work block ≡ []
null_freed work block e = ap (λ (w : Work). freed_of w block) (null_work work e)

pub no_places : (held freed gave made : List Place) → held ≡ [] → freed ≡ [] → gave ≡ [] → made ≡ [] → IsPermutation (held ++ freed) (gave ++ [] ++ made ++ [])
no_places held freed gave made a b c d =
    subst (λ (ps : List Place). IsPermutation (ps ++ freed) (gave ++ [] ++ made ++ [])) (sym a)
    (subst (λ (ps : List Place). IsPermutation ([] ++ ps) (gave ++ [] ++ made ++ [])) (sym b)
    (subst (λ (ps : List Place). IsPermutation [] (ps ++ [] ++ made ++ [])) (sym c)
    (subst (λ (ps : List Place). IsPermutation [] ([] ++ [] ++ ps ++ [])) (sym d) (IsPermutation-refl []))))

pub null_places : (t : Terms) (r : RequestNode) (st : Stack) (label : ℕ) (closed : Closed) (h : IsRequestNode t r st) → kind_of r.waiting.request.work ≡ NullKind
    → r.own ≡ Due → (own_in closed).tree ≡ None
    → IsPermutation (held_by st ++ freed_by st.outer.op (outcome_of label closed)) (gave_by r.waiting.request.work r ++ [] ++ made_by (outcome_of label closed) ++ [])
null_places t r st label closed h kind due none =
    let own = own_due t r st h due in
    no_places (held_by st) (freed_by st.outer.op (outcome_of label closed)) (gave_by r.waiting.request.work r) (made_by (outcome_of label closed))
    (held_by_own t r st h (kids_full r.kids r.attempt h.forest h.kid_asked h.kid_slots h.kids) ∙ ap (λ asked. places_in asked h.own_slots) own.0)
    (freed_nothing t r st label closed h (λ block. null_freed r.waiting.request.work block kind))
    (null_gave r.waiting.request.work r kind) (made_nothing label closed none)

-- ---- its stages

pub null_at_due : (tops : List Top) (stage : Stage) (due : Bool) (r : RequestNode) → kind_of r.waiting.request.work ≡ NullKind → stage ≡ Ready
    → RequestStands tops stage due r → r.own ≡ Due
null_at_due tops stage due r kind is h =
    let at : StandsAt Null tops Ready due r =
    subst (λ (w : Work). StandsAt w tops Ready due r) (null_work r.waiting.request.work kind) (subst (λ (s : Stage). StandsAt r.waiting.request.work tops s due r) is h.own) in
    at

pub null_done_due : (tops : List Top) (stage : Stage) (due : Bool) (r : RequestNode) → kind_of r.waiting.request.work ≡ NullKind → stage ≡ Done
    → RequestStands tops stage due r → r.own ≡ Due
null_done_due tops stage due r kind is h =
    let at : StandsAt Null tops Done due r =
    subst (λ (w : Work). StandsAt w tops Done due r) (null_work r.waiting.request.work kind) (subst (λ (s : Stage). StandsAt r.waiting.request.work tops s due r) is h.own) in
    at

at_ready : (tops : List Top) (stage : Stage) (due : Bool) (r : RequestNode) → (stage ≡ Start → ⊥) → (stage ≡ Done → ⊥)
    → StandsAt Null tops stage due r → stage ≡ Ready
at_ready tops Start due r behind before h = absurd (behind refl)
at_ready tops Ready due r behind before h = refl
at_ready tops Done due r behind before h = absurd (before refl)
at_ready tops stage due r behind before h = absurd h

-- between Start and Done it stands at Ready
pub null_is_ready : (tops : List Top) (stage : Stage) (due : Bool) (r : RequestNode) → kind_of r.waiting.request.work ≡ NullKind → (stage ≡ Start → ⊥)
    → (stage ≡ Done → ⊥) → RequestStands tops stage due r → stage ≡ Ready
null_is_ready tops stage due r kind behind before h =
    at_ready tops stage due r behind before (subst (λ (w : Work). StandsAt w tops stage due r) (null_work r.waiting.request.work kind) h.own)

-- from Ready to Done
pub null_goes : (tops : List Top) (stage next : Stage) (due : Bool) (r : RequestNode) → kind_of r.waiting.request.work ≡ NullKind → stage ≡ Ready → next ≡ Done
    → RequestStands tops stage due r → RequestStands tops next due r
null_goes tops stage next due r kind is after h =
    let own : StandsAt Null tops Done due r = null_at_due tops stage due r kind is h in
    record {
      out = subst (λ (s : Stage). AreOutBehind s r.kids.kids) (sym after) (subst (λ (s : Stage). AreOutBehind s r.kids.kids) is h.out);
      own = subst (λ (s : Stage). StandsAt r.waiting.request.work tops s due r) (sym after)
          (subst (λ (w : Work). StandsAt w tops Done due r) (sym (null_work r.waiting.request.work kind)) own);
    }

-- none of its own operations is there, so none has a request that finished
pub null_none_ended : (t : Terms) (r : RequestNode) (st : Stack) (h : IsRequestNode t r st) → r.own ≡ Due → flat_map ended_in_slot h.own_slots ≡ []
null_none_ended t r st h due = ap (flat_map ended_in_slot) (own_due t r st h due).1
