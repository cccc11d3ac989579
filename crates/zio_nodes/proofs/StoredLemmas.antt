-- A write whose block was written: whether it keeps that, and the places that go back.
use Rattle.std.proofs.Common.{◌≡◌, ℕ, List, [], ◌∷◌, ◌++◌, length, take, Bool, true, false, ◌⊎◌, inl, inr, Option, Some, None, refl, sym, ap, subst, ◌∙◌, append-nil}
use Rattle.std.specs.List.{flat_map}
use Rattle.std.specs.Prelude.{IsPermutation}
use Rattle.zio_types.specs.declared.place.Place.{Place}
use Rattle.zio_types.specs.declared.request.Kind.TheVariants.{Write as WriteKind}
use Rattle.zio_script.specs.Requests.{kind_of}
use Rattle.zio_script.specs.declared.script.Work.{Work}
use Rattle.zio_gang.specs.declared.tree.Tree.{Tree}
use Rattle.zio_gang.specs.Attempts.{Terms}
use Rattle.zio_frames.specs.Frames.{Stack}
use Rattle.zio_exchange.specs.Outcomes.{freed_by, freed_of, held_by, made_by as made_in, places_in, stored_places}
use Rattle.zio_exchange.specs.Waits.{pending_of}
use Rattle.zio_stages.specs.ClosedRequests.{Again, Closed, Finished}
use Rattle.zio_stages.specs.Closings.{outcome_of}
use Rattle.zio_stages.specs.RequestKinds.{is_stored}
use Rattle.zio_stages.specs.RequestNodes.{IsOwnOf, IsRequestNode, front_by, own_got}
use Rattle.zio_stages.specs.RequestStages.{with_own}
use Rattle.zio_stages.specs.RequestStoreds.{IsStoredWith, error_by, found_by, given_by, is_well, keeps_block, made_by, own_in}
use Rattle.zio_stages.specs.RequestWrites.{IsWriteWith, IsWrittenWrite}
use Rattle.zio_stages.specs.StoredBlocks.{IsGoingBack, IsStoredOwn, block_places}
use Rattle.zio_stages.specs.declared.own_write.OwnWrite.{OwnWrite}
use Rattle.zio_stages.specs.declared.request_node.Own.{Own}
use Rattle.zio_stages.specs.declared.request_node.Own.TheVariants.{Claim as ClaimOwn, Due, Found, Free as FreeOwn, Over, Read as ReadOwn, Stored, Write as WriteOwn}
use Rattle.zio_stages.specs.declared.request_node.OwnFound.{OwnFound}
use Rattle.zio_stages.specs.declared.request_node.RequestNode.{RequestNode}
use Rattle.zio_stages.specs.declared.stored_block.StoredBlock.{StoredBlock}
use Rattle.zio_stages.proofs.KidAsking.{kids_full}
use Rattle.zio_staged.specs.Parts.{ended_in_slot}
use Rattle.zio_nodes.specs.RequestAts.{IsGivingBack, gave_by}
use Rattle.zio_nodes.proofs.NullLemmas.{freed_nothing}
use Rattle.zio_nodes.proofs.PartLemmas.{none_ended}
use Rattle.zio_nodes.proofs.RequestEndings.{held_by_own}
use Rattle.zio_nodes.proofs.WriteLemmas.{write_gave, write_work}

-- ---- how far it is

pub is_stored_with : (P : StoredBlock → Type 0) (own : Own) → IsStoredWith P own → is_stored own ≡ true
is_stored_with P (Stored b) h = refl
is_stored_with P Due h = absurd h
is_stored_with P (WriteOwn w) h = absurd h
is_stored_with P (ReadOwn w) h = absurd h
is_stored_with P (FreeOwn w) h = absurd h
is_stored_with P (ClaimOwn w) h = absurd h
is_stored_with P (Found own) h = absurd h
is_stored_with P Over h = absurd h

no_both : (b : Bool) → b ≡ true → b ≡ false → ⊥
no_both b t f = let no : true ≡ false = sym t ∙ f in cc

pub still_written : (r : RequestNode) → IsWrittenWrite r.own ⊎ IsGivingBack r → is_stored r.own ≡ false → IsWrittenWrite r.own
still_written r (inl h) un = h
still_written r (inr k) un = absurd (no_both (is_stored r.own) (is_stored_with IsGoingBack r.own k.stored) un)

written_not : (P : OwnWrite → Type 0) (own : Own) → IsWriteWith P own → is_stored own ≡ true → ⊥
written_not P (WriteOwn w) h e = cc
written_not P Due h e = h
written_not P (Stored b) h e = h
written_not P (ReadOwn w) h e = h
written_not P (FreeOwn w) h e = h
written_not P (ClaimOwn w) h e = h
written_not P (Found own) h e = h
written_not P Over h e = h

pub giving_back : (r : RequestNode) → IsWrittenWrite r.own ⊎ IsGivingBack r → is_stored r.own ≡ true → IsGivingBack r
giving_back r (inl h) e = absurd (written_not _ r.own h e)
giving_back r (inr k) e = k

-- ---- what it came to

pub stored_own : (t : Terms) (r : RequestNode) (st : Stack) (h : IsRequestNode t r st) (b : StoredBlock) → r.own ≡ Stored b
    → IsStoredOwn t (own_got b.own) r.attempt (pending_of r.waiting) r.kids.kids h.own_asked h.own_slots st
stored_own t r st h b is =
    subst (λ (o : Own). IsOwnOf t r r.kids.kids (front_by r h.forest h.kid_asked h.kid_slots) o st h.own_asked h.own_slots) is h.own

-- the block itself
pub stored_block : (P : StoredBlock → Type 0) (own : Own) → IsStoredWith P own → (b : StoredBlock) × (own ≡ Stored b)
stored_block P (Stored b) h = (b, refl)
stored_block P Due h = absurd h
stored_block P (WriteOwn w) h = absurd h
stored_block P (ReadOwn w) h = absurd h
stored_block P (FreeOwn w) h = absurd h
stored_block P (ClaimOwn w) h = absurd h
stored_block P (Found own) h = absurd h
stored_block P Over h = absurd h

same_found : (a b : StoredBlock) → found_by (Stored b) ≡ found_by (Stored a) → b.own ≡ a.own
same_found a b e = let is : Some b.own ≡ Some a.own = e in cc

pub made_same : (a b : Own) → IsStoredWith IsGoingBack a → IsStoredWith IsGoingBack b → found_by b ≡ found_by a → made_by b ≡ made_by a
made_same a b h k e =
    let x = stored_block IsGoingBack a h in
    let y = stored_block IsGoingBack b k in
    let same : y.0.own ≡ x.0.own = same_found x.0 y.0 (ap found_by (sym y.1) ∙ e ∙ ap found_by x.1) in
    ap made_by y.1 ∙ ap (λ (o : OwnFound). block_places o.tree) same ∙ ap made_by (sym x.1)

pub error_same : (a b : Own) → IsStoredWith IsGoingBack a → IsStoredWith IsGoingBack b → found_by b ≡ found_by a → error_by b ≡ error_by a
error_same a b h k e =
    let x = stored_block IsGoingBack a h in
    let y = stored_block IsGoingBack b k in
    let same : y.0.own ≡ x.0.own = same_found x.0 y.0 (ap found_by (sym y.1) ∙ e ∙ ap found_by x.1) in
    ap error_by y.1 ∙ ap (λ (o : OwnFound). o.error) same ∙ ap error_by (sym x.1)

-- none of its operations is an attempt of a request
pub stored_ended : (t : Terms) (r : RequestNode) (st : Stack) (h : IsRequestNode t r st) → IsStoredWith IsGoingBack r.own → flat_map ended_in_slot h.own_slots ≡ []
stored_ended t r st h k =
    let b = stored_block IsGoingBack r.own k in
    let own = stored_own t r st h b.0 b.1 in
    ap (flat_map ended_in_slot) own.is.shown ∙ none_ended own.was.part.placing own.was.part

-- the places that its attempt came to are those of its block
pub block_held : (t : Terms) (r : RequestNode) (st : Stack) (h : IsRequestNode t r st) (b : StoredBlock) → r.own ≡ Stored b
    → IsPermutation (held_by st) (made_by r.own)
block_held t r st h b is =
    let own = stored_own t r st h b is in
    let made : stored_places own.left ≡ made_by r.own = ap (λ o. block_places o.tree) (sym own.came_to) ∙ ap made_by (sym is) in
    subst (λ (ps : List Place). IsPermutation ps (made_by r.own)) (sym (held_by_own t r st h (kids_full r.kids r.attempt h.forest h.kid_asked h.kid_slots h.kids)))
    (subst (λ (ps : List Place). IsPermutation (places_in h.own_asked h.own_slots) ps) made own.places)

pub stored_held : (t : Terms) (r : RequestNode) (st : Stack) → IsRequestNode t r st → IsStoredWith IsGoingBack r.own
    → IsPermutation (held_by st) (made_by r.own)
stored_held t r st h k = let b = stored_block IsGoingBack r.own k in block_held t r st h b.0 b.1

-- ---- it closes

made_kept : (label : ℕ) (closed : Closed) → keeps_block closed ≡ true → made_in (outcome_of label closed) ≡ block_places (own_in closed).tree
made_kept label (Finished waiting None own) e = refl
made_kept label (Finished waiting (Some x) own) e = absurd (cc)
made_kept label (Again bits whole own) e = absurd (cc)

made_lost : (label : ℕ) (closed : Closed) → keeps_block closed ≡ false → made_in (outcome_of label closed) ≡ []
made_lost label (Finished waiting None own) e = absurd (cc)
made_lost label (Finished waiting (Some x) own) e = refl
made_lost label (Again bits whole own) e = refl

take_all : (ps : List Place) → take (length ps) ps ≡ ps
take_all [] = refl
take_all (p ∷ ps) = ap (λ qs. p ∷ qs) (take_all ps)

-- what it held is what went back, before and now, or what it keeps
pub all_places : (held freed gave gone back out all : List Place) → IsPermutation held all → freed ≡ [] → gave ++ gone ≡ back
    → ((back ≡ []) × (out ≡ all)) ⊎ ((back ≡ all) × (out ≡ [])) → IsPermutation (held ++ freed) (gave ++ gone ++ out ++ [])
all_places held freed gave gone back out all h none are which =
    let left : held ++ freed ≡ held = ap (λ (ps : List Place). held ++ ps) none ∙ append-nil held in
    let right : gave ++ gone ++ out ++ [] ≡ all = append-nil (gave ++ gone ++ out) ∙ ap (λ (ps : List Place). ps ++ out) are ∙ by which in
    subst (λ (ps : List Place). IsPermutation ps (gave ++ gone ++ out ++ [])) (sym left) (subst (IsPermutation held) (sym right) h)
  where
    by : ((back ≡ []) × (out ≡ all)) ⊎ ((back ≡ all) × (out ≡ [])) → back ++ out ≡ all
    by (inl k) = ap (λ (ps : List Place). ps ++ out) k.0 ∙ k.1
    by (inr k) = ap (λ (ps : List Place). ps ++ out) k.0 ∙ ap (λ (ps : List Place). all ++ ps) k.1 ∙ append-nil all

-- where it keeps its block nothing went back, and else all of it did
pub back_or_kept : (well : Bool) (label : ℕ) (closed : Closed) (given : ℕ) (all : List Place) → keeps_block closed ≡ well → block_places (own_in closed).tree ≡ all
    → (well ≡ true → given ≡ 0) → (well ≡ false → given ≡ length all)
    → ((take given all ≡ []) × (made_in (outcome_of label closed) ≡ all)) ⊎ ((take given all ≡ all) × (made_in (outcome_of label closed) ≡ []))
back_or_kept true label closed given all keeps own kept lost =
    inl (ap (λ n. take n all) (kept refl), made_kept label closed keeps ∙ own)
back_or_kept false label closed given all keeps own kept lost =
    inr (ap (λ n. take n all) (lost refl) ∙ take_all all, made_lost label closed keeps)

pub write_freed : (work : Work) (block : Option Tree) → kind_of work ≡ WriteKind → freed_of work block ≡ []
write_freed work block e = ap (λ (w : Work). freed_of w block) (write_work work e).is

-- ---- some places went back

-- the same block, of which more places went back
pub record HasGivenMore (r now : RequestNode) (gone : List Place) : Type 0 where
  pub rest : now ≡ with_own r now.own r.family
  pub was : IsStoredWith IsGoingBack r.own
  pub is : IsStoredWith IsGoingBack now.own
  pub found : found_by now.own ≡ found_by r.own
  pub are : take (given_by r.own) (made_by r.own) ++ gone ≡ take (given_by now.own) (made_by r.own)

pub more_gave : (r now : RequestNode) (gone : List Place) → kind_of r.waiting.request.work ≡ WriteKind → HasGivenMore r now gone
    → gave_by now.waiting.request.work now ≡ gave_by r.waiting.request.work r ++ gone
more_gave r now gone kind h =
    let same : kind_of now.waiting.request.work ≡ WriteKind = ap (λ (x : RequestNode). kind_of x.waiting.request.work) h.rest ∙ kind in
    write_gave now same ∙ ap (take (given_by now.own)) (made_same r.own now.own h.was h.is h.found) ∙ sym h.are
    ∙ ap (λ (ps : List Place). ps ++ gone) (sym (write_gave r kind))

well_same : (r now : RequestNode) (gone : List Place) → HasGivenMore r now gone → is_well now (error_by now.own) ≡ is_well r (error_by r.own)
well_same r now gone h =
    ap (λ (x : RequestNode). is_well x (error_by now.own)) h.rest ∙ ap (is_well r) (error_same r.own now.own h.was h.is h.found)

-- what it came to has its error
pub found_error : (own : Own) (found : OwnFound) → IsStoredWith IsGoingBack own → found_by own ≡ Some found → found.error ≡ error_by own
found_error own found h is =
    let b = stored_block IsGoingBack own h in
    let some : Some found ≡ Some b.0.own = sym is ∙ ap found_by b.1 in
    let same : found ≡ b.0.own = cc in
    ap (λ (o : OwnFound). o.error) same ∙ ap error_by (sym b.1)

closed_own : (closed : Closed) (own : Own) → IsStoredWith IsGoingBack own → Some (own_in closed) ≡ found_by own → block_places (own_in closed).tree ≡ made_by own
closed_own closed own h e =
    let b = stored_block IsGoingBack own h in
    let some : Some (own_in closed) ≡ Some b.0.own = e ∙ ap found_by b.1 in
    let is : own_in closed ≡ b.0.own = cc in
    ap (λ (o : OwnFound). block_places o.tree) is ∙ ap made_by (sym b.1)

pub closes_places : (t : Terms) (r now : RequestNode) (st : Stack) (h : IsRequestNode t now st) (label : ℕ) (closed : Closed) (gone : List Place)
    → kind_of r.waiting.request.work ≡ WriteKind → HasGivenMore r now gone → (is_well r (error_by r.own) ≡ true → given_by r.own ≡ 0)
    → (is_well r (error_by r.own) ≡ true → given_by now.own ≡ given_by r.own) → (is_well r (error_by r.own) ≡ false → given_by now.own ≡ length (made_by r.own))
    → keeps_block closed ≡ is_well now (error_by now.own) → Some (own_in closed) ≡ found_by now.own
    → IsPermutation (held_by st ++ freed_by st.outer.op (outcome_of label closed)) (gave_by r.waiting.request.work r ++ gone ++ made_in (outcome_of label closed) ++ [])
closes_places t r now st h label closed gone kind more none kept lost keeps own =
    let same : kind_of now.waiting.request.work ≡ WriteKind = ap (λ (x : RequestNode). kind_of x.waiting.request.work) more.rest ∙ kind in
    let well : is_well now (error_by now.own) ≡ is_well r (error_by r.own) = well_same r now gone more in
    let made : made_by now.own ≡ made_by r.own = made_same r.own now.own more.was more.is more.found in
    all_places (held_by st) (freed_by st.outer.op (outcome_of label closed)) (gave_by r.waiting.request.work r) gone (take (given_by now.own) (made_by now.own))
    (made_in (outcome_of label closed)) (made_by now.own) (stored_held t now st h more.is)
    (freed_nothing t now st label closed h (λ block. write_freed now.waiting.request.work block same))
    (sym (more_gave r now gone kind more) ∙ write_gave now same)
    (back_or_kept (is_well now (error_by now.own)) label closed (given_by now.own) (made_by now.own) keeps (closed_own closed now.own more.is own)
    (λ yes. kept (sym well ∙ yes) ∙ none (sym well ∙ yes)) (λ no. lost (sym well ∙ no) ∙ ap (λ (ps : List Place). length ps) (sym made)))
