-- A read, a free and a claim that end: the places that they took, gave back and made are in balance.
use Rattle.std.proofs.Common.{◌≡◌, ℕ, ◌+◌, List, [], ◌∷◌, ◌++◌, length, map, reverse, Bool, true, false, ◌&&◌, not, Option, Some, None, is_none, refl, sym, ap, subst, ◌∙◌, append-nil, arith}
use Rattle.std.specs.List.{AllByRecursion, flat_map}
use Rattle.std.specs.Prelude.{IsPermutation}
use Rattle.std.proofs.lemmas.List.Sorted.{IsPermutation-refl}
use Rattle.zio_types.specs.declared.error.Errno.{Errno}
use Rattle.zio_types.specs.declared.error.Errno.TheVariants.{Nxio, Cksum, Io, Nospc, Inval, Exist, Noent}
use Rattle.zio_types.specs.declared.place.Place.{Place}
use Rattle.zio_types.specs.declared.place.Top.{Top}
use Rattle.zio_types.specs.Errors.{second_if, worst_error, worst_of}
use Rattle.zio_script.specs.Requests.{kind_of}
use Rattle.zio_script.specs.declared.script.Work.{Work}
use Rattle.zio_script.specs.declared.script.Work.TheVariants.{Null, Read, Write, Free, Claim}
use Rattle.zio_gang.specs.Attempts.{Child, Terms, all_bits, bits_of, children_of, finished_of, has_bits, insert_children}
use Rattle.zio_trace.specs.Tasks.{AttemptedBy}
use Rattle.zio_children.specs.RequestKids.{child_of, finished_in, return_by, returns_in}
use Rattle.zio_children.specs.declared.kept.KeptChild.{KeptChild}
use Rattle.zio_children.specs.declared.kids.Kid.{Kid}
use Rattle.zio_frames.specs.Frames.{Stack}
use Rattle.zio_frames.specs.Slots.{Heard, IsOut, Slot}
use Rattle.zio_exchange.specs.Outcomes.{IsNoAttemptIn, freed_by, freed_if, freed_of, held_by, made_by}
use Rattle.zio_stages.specs.ClosedRequests.{Again, Closed, Finished}
use Rattle.zio_stages.specs.Closings.{outcome_of}
use Rattle.zio_stages.specs.OwnFounds.{own_got}
use Rattle.zio_stages.specs.OwnParts.{IsNoWrite}
use Rattle.zio_stages.specs.RequestNodes.{Closes, IsRequestNode}
use Rattle.zio_stages.specs.RequestOwns.{IsNoneAfter, MakesBlock}
use Rattle.zio_stages.specs.RequestStoreds.{is_well, keeps_block, own_in}
use Rattle.zio_stages.specs.StoredBlocks.{block_places}
use Rattle.zio_stages.specs.declared.request_node.Own.{Own}
use Rattle.zio_stages.specs.Sealed.{Outcome}
use Rattle.zio_stages.specs.declared.request_node.Own.TheVariants.{Due, Found}
use Rattle.zio_stages.specs.declared.request_node.OwnFound.{OwnFound}
use Rattle.zio_stages.specs.declared.request_node.RequestNode.{RequestNode}
use Rattle.zio_stages.proofs.KidAsking.{kids_full}
use Rattle.zio_stages.proofs.RequestFoundLemmas.{found_in}
use Rattle.zio_staged.specs.Parts.{ended_in_slot}
use Rattle.zio_staged.specs.Stages.{Ends}
use Rattle.zio_staged.specs.declared.staged.Move.TheVariants.{End}
use Rattle.zio_masks.specs.declared.stage.Stage.{Stage}
use Rattle.zio_masks.specs.declared.stage.Stage.TheVariants.{Done}
use Rattle.zio_nodes.specs.Nodes.{MovesBare, gave_of, nodes}
use Rattle.zio_nodes.specs.RequestAts.{IsRequestAtOver, IsRequestOver, StandsAt, freed_so_far, gave_by}
use Rattle.zio_nodes.specs.Told.{is_told}
use Rattle.zio_nodes.specs.declared.node.Node.{Node}
use Rattle.zio_nodes.specs.declared.node.Node.TheVariants.{Request}
use Rattle.zio_nodes.specs.declared.request_at.RequestAt.{RequestAt}
use Rattle.zio_nodes.specs.TreeAts.{is_childless}
use Rattle.zio_nodes.proofs.NullLemmas.{freed_nothing, made_nothing, no_places}
use Rattle.zio_nodes.proofs.OwnOver.{IsClaim, IsFree, IsRead}
use Rattle.zio_nodes.proofs.RequestEndings.{held_by_own}
use Rattle.zio_nodes.proofs.RequestMoves.{request_ends}

-- ---- its own work's operations are no attempts

quiet_slot : (slot : Slot) → IsNoAttemptIn slot → ended_in_slot slot ≡ []
quiet_slot (IsOut told) h = refl
quiet_slot (Heard (AttemptedBy one)) h = absurd h
quiet_slot (Heard v) h = refl

pub quiet_ended : (slots : List Slot) → AllByRecursion IsNoAttemptIn slots → flat_map ended_in_slot slots ≡ []
quiet_ended [] h = refl
quiet_ended (slot ∷ slots) h = ap (λ es. es ++ flat_map ended_in_slot slots) (quiet_slot slot h.0) ∙ quiet_ended slots h.1

-- ---- where it has no children it is well if its own work is

empty : {X : Type 0} (xs : List X) → length xs ≡ 0 → xs ≡ []
empty [] e = refl
empty (x ∷ xs) e = absurd (omega (arith, e))

-- it has none
pub record IsChildless (r : RequestNode) : Type 0 where
  pub kids : r.kids.kids.kids ≡ []
  pub kept : r.kids.kids.kept ≡ []

pub childless : (r : RequestNode) → length r.kids.kids.kids + length r.kids.kids.kept ≡ 0 → IsChildless r
childless r none = record { kids = empty r.kids.kids.kids (omega (arith, none)); kept = empty r.kids.kids.kept (omega (arith, none)) }

pub free_childless : (tops : List Top) (r : RequestNode) → IsFree r.waiting.request.work → IsRequestOver tops r → IsChildless r
free_childless tops r work h = childless r (h.sound.alone (ap (λ (w : Work). is_childless (kind_of w)) work.is))

pub claim_childless : (tops : List Top) (r : RequestNode) → IsClaim r.waiting.request.work → IsRequestOver tops r → IsChildless r
claim_childless tops r work h = childless r (h.sound.alone (ap (λ (w : Work). is_childless (kind_of w)) work.is))

well_alone : (r : RequestNode) → IsChildless r → is_well r None ≡ true
well_alone r h =
    let returns : returns_in r.kids.kids ≡ [] = ap (λ (ks : List Kid). reverse (map return_by ks)) h.kids in
    let finished : finished_in r.kids.kids ≡ [] =
    ap (λ rs. insert_children (children_of (finished_of rs)) (map child_of r.kids.kids.kept)) returns
    ∙ ap (λ (ks : List KeptChild). insert_children (children_of (finished_of [])) (map child_of ks)) h.kept in
    λ i. not (has_bits (bits_of (returns i))) && is_none (worst_error None (worst_of (map (λ (c : Child). c.error) (finished i))))

none_of : (a b : Bool) → b ≡ false → a && b ≡ false
none_of true b e = e
none_of false b e = refl

-- the worst of an error and another is one
none_second : (t : Bool) (e f : Errno) → is_none (second_if t (Some e) (Some f)) ≡ false
none_second true e f = refl
none_second false e f = refl

none_worst : (e : Errno) (o : Option Errno) → is_none (worst_error (Some e) o) ≡ false
none_worst Nxio None = refl
none_worst Cksum None = refl
none_worst Io None = refl
none_worst Nospc None = refl
none_worst Inval None = refl
none_worst Exist None = refl
none_worst Noent None = refl
none_worst e (Some f) = none_second _ e f

not_well : (r : RequestNode) (e : Errno) → is_well r (Some e) ≡ false
not_well r e =
    let w : Option Errno = worst_of (map (λ (c : Child). c.error) (finished_in r.kids.kids)) in
    none_of (not (has_bits (all_bits (kind_of r.waiting.request.work) (Some e) r.waiting.request.canfail r.failmode (bits_of (returns_in r.kids.kids))))) (is_none (worst_error (Some e) w))
    (none_worst e w)

-- ---- the block that it made

tree_in : (closed : Closed) (own : OwnFound) → own_in closed ≡ own → (own_in closed).tree ≡ own.tree
tree_in closed own is = ap (λ (o : OwnFound). o.tree) is

-- one that is well keeps it
made_kept : (label : ℕ) (closed : Closed) → keeps_block closed ≡ true → made_by (outcome_of label closed) ≡ block_places ((own_in closed).tree)
made_kept label (Finished waiting None own) keeps = refl
made_kept label (Finished waiting (Some e) own) keeps = absurd (cc)
made_kept label (Again bits whole own) keeps = absurd (cc)

-- ---- the places that it freed

frees_all : (t : Terms) (r : RequestNode) (st : Stack) (label : ℕ) (closed : Closed) → IsRequestNode t r st → keeps_block closed ≡ true
    → freed_by st.outer.op (outcome_of label closed) ≡ freed_of r.waiting.request.work r.waiting.block
frees_all t r st label (Finished waiting None own) h keeps = ap (λ op. freed_by op (outcome_of label (Finished waiting None own))) h.op
frees_all t r st label (Finished waiting (Some e) own) h keeps = absurd (cc)
frees_all t r st label (Again bits whole own) h keeps = absurd (cc)

frees_not : (t : Terms) (r : RequestNode) (st : Stack) (label : ℕ) (closed : Closed) → IsRequestNode t r st → keeps_block closed ≡ false
    → freed_by st.outer.op (outcome_of label closed) ≡ []
frees_not t r st label (Finished waiting None own) h keeps = absurd (cc)
frees_not t r st label (Finished waiting (Some e) own) h keeps = ap (λ op. freed_by op (outcome_of label (Finished waiting (Some e) own))) h.op
frees_not t r st label (Again bits whole own) h keeps = refl

-- ---- in balance

balanced : (held freed gave made : List Place) → held ++ freed ≡ gave ++ made → IsPermutation (held ++ freed) (gave ++ [] ++ made ++ [])
balanced held freed gave made e =
    let right : gave ++ [] ++ made ++ [] ≡ gave ++ made = append-nil (gave ++ [] ++ made) ∙ ap (λ ps. ps ++ made) (append-nil gave) in
    subst (λ ps. IsPermutation (held ++ freed) ps) (e ∙ sym right) (IsPermutation-refl (held ++ freed))

held_found : (t : Terms) (r : RequestNode) (st : Stack) (own : OwnFound) (h : IsRequestNode t r st) → r.own ≡ Found own → held_by st ≡ block_places own.tree
held_found t r st own h is = held_by_own t r st h (kids_full r.kids r.attempt h.forest h.kid_asked h.kid_slots h.kids) ∙ (found_in t r st own h is).places

abbrev Balance : Stack → RequestNode → ℕ → Closed → Type 0
Balance st r label closed =
    IsPermutation (held_by st ++ freed_by st.outer.op (outcome_of label closed)) (gave_by r.waiting.request.work r ++ [] ++ made_by (outcome_of label closed) ++ [])

pub read_balance : (t : Terms) (r : RequestNode) (st : Stack) (label : ℕ) (closed : Closed) (own : OwnFound) (h : IsRequestNode t r st) → IsRead r.waiting.request.work
    → r.own ≡ Found own → own_in closed ≡ own → Balance st r label closed
read_balance t r st label closed own h work is same =
    let none : own.tree ≡ None = subst (λ (w : Work). MakesBlock w (own_got own)) work.is (found_in t r st own h is).block in
    no_places (held_by st) (freed_by st.outer.op (outcome_of label closed)) (gave_by r.waiting.request.work r) (made_by (outcome_of label closed))
    (held_found t r st own h is ∙ ap block_places none) (freed_nothing t r st label closed h (λ block. ap (λ (w : Work). freed_of w block) work.is))
    (ap (λ (w : Work). gave_by w r) work.is) (made_nothing label closed (tree_in closed own same ∙ none))

claim_by : (t : Terms) (r : RequestNode) (st : Stack) (label : ℕ) (closed : Closed) (own : OwnFound) (h : IsRequestNode t r st) (error : Option Errno) → IsClaim r.waiting.request.work
    → IsChildless r → r.own ≡ Found own → own_in closed ≡ own → keeps_block closed ≡ is_well r own.error → own.error ≡ error → IsNoneAfter error own.tree → Balance st r label closed
claim_by t r st label closed own h None work alone is same keeps error none =
    let well : keeps_block closed ≡ true = keeps ∙ ap (is_well r) error ∙ well_alone r alone in
    balanced (held_by st) (freed_by st.outer.op (outcome_of label closed)) (gave_by r.waiting.request.work r) (made_by (outcome_of label closed))
    ((λ i. held_found t r st own h is i ++ freed_nothing t r st label closed h (λ block. ap (λ (w : Work). freed_of w block) work.is) i)
    ∙ append-nil (block_places own.tree)
    ∙ sym ((λ i. gave_by (work.is i) r ++ made_kept label closed well i) ∙ ap block_places (tree_in closed own same)))
claim_by t r st label closed own h (Some e) work alone is same keeps error none =
    no_places (held_by st) (freed_by st.outer.op (outcome_of label closed)) (gave_by r.waiting.request.work r) (made_by (outcome_of label closed))
    (held_found t r st own h is ∙ ap block_places none) (freed_nothing t r st label closed h (λ block. ap (λ (w : Work). freed_of w block) work.is))
    (ap (λ (w : Work). gave_by w r) work.is) (made_nothing label closed (tree_in closed own same ∙ none))

pub claim_balance : (t : Terms) (r : RequestNode) (st : Stack) (label : ℕ) (closed : Closed) (own : OwnFound) (h : IsRequestNode t r st) → IsClaim r.waiting.request.work
    → IsChildless r → r.own ≡ Found own → own_in closed ≡ own → keeps_block closed ≡ is_well r own.error → Balance st r label closed
claim_balance t r st label closed own h work alone is same keeps =
    claim_by t r st label closed own h own.error work alone is same keeps refl (subst (λ (w : Work). MakesBlock w (own_got own)) work.is (found_in t r st own h is).block)

free_gave_now : (r : RequestNode) (own : OwnFound) (error : Option Errno) → IsFree r.waiting.request.work → r.own ≡ Found own → own.error ≡ error
    → gave_by r.waiting.request.work r ≡ freed_if (is_none error) (block_places r.waiting.block)
free_gave_now r own error work is e =
    ap (λ (w : Work). gave_by w r) work.is ∙ ap (λ (o : Own). freed_so_far o r.waiting.block) is ∙ ap (λ (x : Option Errno). freed_if (is_none x) (block_places r.waiting.block)) e

free_by : (t : Terms) (r : RequestNode) (st : Stack) (label : ℕ) (closed : Closed) (own : OwnFound) (h : IsRequestNode t r st) (error : Option Errno) → IsFree r.waiting.request.work
    → IsChildless r → r.own ≡ Found own → own_in closed ≡ own → keeps_block closed ≡ is_well r own.error → own.error ≡ error → own.tree ≡ None → Balance st r label closed
free_by t r st label closed own h None work alone is same keeps error none =
    let well : keeps_block closed ≡ true = keeps ∙ ap (is_well r) error ∙ well_alone r alone in
    let held : held_by st ≡ [] = held_found t r st own h is ∙ ap block_places none in
    let freed : freed_by st.outer.op (outcome_of label closed) ≡ block_places r.waiting.block =
    frees_all t r st label closed h well ∙ ap (λ (w : Work). freed_of w r.waiting.block) work.is in
    let gave : gave_by r.waiting.request.work r ≡ block_places r.waiting.block = free_gave_now r own None work is error in
    let made : made_by (outcome_of label closed) ≡ [] = made_nothing label closed (tree_in closed own same ∙ none) in
    balanced (held_by st) (freed_by st.outer.op (outcome_of label closed)) (gave_by r.waiting.request.work r) (made_by (outcome_of label closed))
    ((λ i. held i ++ freed i) ∙ sym (append-nil (block_places r.waiting.block)) ∙ sym (λ i. gave i ++ made i))
free_by t r st label closed own h (Some e) work alone is same keeps error none =
    let ill : keeps_block closed ≡ false = keeps ∙ ap (is_well r) error ∙ not_well r e in
    no_places (held_by st) (freed_by st.outer.op (outcome_of label closed)) (gave_by r.waiting.request.work r) (made_by (outcome_of label closed))
    (held_found t r st own h is ∙ ap block_places none) (frees_not t r st label closed h ill)
    (free_gave_now r own (Some e) work is error) (made_nothing label closed (tree_in closed own same ∙ none))

pub free_balance : (t : Terms) (r : RequestNode) (st : Stack) (label : ℕ) (closed : Closed) (own : OwnFound) (h : IsRequestNode t r st) → IsFree r.waiting.request.work
    → IsChildless r → r.own ≡ Found own → own_in closed ≡ own → keeps_block closed ≡ is_well r own.error → Balance st r label closed
free_balance t r st label closed own h work alone is same keeps =
    free_by t r st label closed own h own.error work alone is same keeps refl (subst (λ (w : Work). MakesBlock w (own_got own)) work.is (found_in t r st own h is).block)

-- ---- it ends

null_is_due : (tops : List Top) (at : RequestAt) → at.node.waiting.request.work ≡ Null → at.stage ≡ Done → IsRequestAtOver tops at → at.node.own ≡ Due
null_is_due tops at work is h =
    let own : StandsAt Null tops Done at.is_due at.node =
    subst (λ (w : Work). StandsAt w tops Done at.is_due at.node) work (subst (λ (s : Stage). StandsAt at.node.waiting.request.work tops s at.is_due at.node) is h.stands.own) in
    own

found_balance : (tops : List Top) (at : RequestAt) (own : OwnFound) (closed : Closed) (label : ℕ) (t : Terms) (st : Stack) (h : IsRequestNode t at.node st) (work : Work)
    → at.node.waiting.request.work ≡ work → IsNoWrite work → at.stage ≡ Done → IsRequestAtOver tops at → at.node.own ≡ Found own → own_in closed ≡ own
    → keeps_block closed ≡ is_well at.node own.error → Balance st at.node label closed
found_balance tops at own closed label t st h Null work other stage over is same keeps = absurd (let no = sym (null_is_due tops at work stage over) ∙ is in cc)
found_balance tops at own closed label t st h (Read name prio) work other stage over is same keeps =
    read_balance t at.node st label closed own h (record { name = name; prio = prio; is = work }) is same
found_balance tops at own closed label t st h (Write name sum copies prio body) work other stage over is same keeps = absurd other
found_balance tops at own closed label t st h (Free name) work other stage over is same keeps =
    let free : IsFree at.node.waiting.request.work = record { name = name; is = work } in
    free_balance t at.node st label closed own h free (free_childless tops at.node free over.over) is same keeps
found_balance tops at own closed label t st h (Claim name bytes) work other stage over is same keeps =
    let claim : IsClaim at.node.waiting.request.work = record { name = name; bytes = bytes; is = work } in
    claim_balance t at.node st label closed own h claim (claim_childless tops at.node claim over.over) is same keeps

pub ends_found : (tops seen : List Top) (at : RequestAt) (own : OwnFound) (closed : Closed) (outcome : Outcome) → (label : ℕ) × (outcome ≡ outcome_of label closed)
    → IsNoWrite at.node.waiting.request.work → at.stage ≡ Done → IsRequestAtOver seen at → at.node.own ≡ Found own → own_in closed ≡ own
    → keeps_block closed ≡ is_well at.node own.error → ((t : Terms) (st : Stack) (h : IsRequestNode t at.node st) → Closes t at.node st h closed)
    → MovesBare tops (Request at) (End outcome)
ends_found tops seen at own closed outcome out other stage over is same keeps closes = λ t st n.
    subst (λ (o : Outcome). Ends {N = Node} nodes gave_of t (Request at) st [] o) (sym out.1)
    (request_ends t st at at.node closed out.0 [] n.is (closes t st n.is) (ap is_told stage) (quiet_ended n.is.own_slots (found_in t at.node st own n.is is).quiet)
    (found_balance seen at own closed out.0 t st n.is at.node.waiting.request.work refl other stage over is same keeps))
