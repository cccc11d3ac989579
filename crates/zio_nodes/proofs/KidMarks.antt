-- A request whose children go on: what its fields owe still holds.
use Rattle.std.proofs.Common.{◌≡◌, ◌≢◌, ℕ, zero, suc, ◌+◌, ◌<◌, List, [], ◌∷◌, length, slice_set, true, Option, Some, None, refl, sym, ap, subst, ◌∙◌, add-one, arith}
use Rattle.std.specs.List.{AllByRecursion}
use Rattle.zio_types.specs.declared.place.Top.{Top}
use Rattle.zio_gang.specs.Attempts.{has_bits}
use Rattle.zio_children.specs.RequestKids.{AreHanded, KidsUnderWay, bits_by, kid_handed, kid_is, state_at, state_set}
use Rattle.zio_children.specs.declared.kids.Kid.{Kid}
use Rattle.zio_children.specs.declared.kids.KidState.{KidState}
use Rattle.zio_children.specs.declared.kids.KidState.TheVariants.{Due, Out}
use Rattle.zio_children.proofs.KidFields.{handed_more, handed_set}
use Rattle.zio_exchange.specs.declared.waiting.UnfinishedRequest.{UnfinishedRequest}
use Rattle.zio_stages.specs.KidLists.{AreMarked, HoldsBut}
use Rattle.zio_stages.specs.KidPointers.{HaveValidPointers}
use Rattle.zio_stages.specs.KidTrees.{trees_left}
use Rattle.zio_frames.specs.Frames.{Child}
use Rattle.zio_stages.specs.RequestNodes.{IsOwnOver}
use Rattle.zio_stages.specs.RequestOwns.{IsWaitingOver}
use Rattle.zio_stages.specs.RequestStages.{with_kids, with_own}
use Rattle.zio_stages.specs.declared.request_node.RequestNode.{RequestNode}
use Rattle.zio_nodes.specs.RequestAts.{IsRequestOver}
use Rattle.zio_nodes.specs.TreeAts.{IsSoundOver, IsTreeOver}

-- ---- the children's states

pub count_set : (kids : List Kid) (n : ℕ) (s : KidState) → length (state_set kids n s) ≡ length kids
count_set [] n s = refl
count_set (k ∷ kids) zero s = refl
count_set (k ∷ kids) (suc n) s = ap suc (count_set kids n s)

-- one that has the same bits as before, if any
pub marked_same : (kids : List Kid) (again : List (Option (List UnfinishedRequest))) (n : ℕ) (old new : KidState) → state_at kids n ≡ Some old
    → has_bits (bits_by new) ≡ has_bits (bits_by old) → AreMarked kids again → AreMarked (state_set kids n new) again
marked_same [] [] n old new e same h = tt
marked_same [] (a ∷ again) n old new e same h = absurd h
marked_same (k ∷ kids) [] n old new e same h = absurd h
marked_same (k ∷ kids) (a ∷ again) zero old new e same h =
    let is : k.state ≡ old = cc in
    (same ∙ ap (λ (s : KidState). has_bits (bits_by s)) (sym is) ∙ h.0, h.1)
marked_same (k ∷ kids) (a ∷ again) (suc n) old new e same h = (h.0, marked_same kids again n old new e same h.1)

-- one that goes again, and what is left of it
pub marked_left : (kids : List Kid) (again : List (Option (List UnfinishedRequest))) (n : ℕ) (new : KidState) (ws : List UnfinishedRequest)
    → has_bits (bits_by new) ≡ true → AreMarked kids again → AreMarked (state_set kids n new) (slice_set again n (Some ws))
marked_left [] [] n new ws bits h = tt
marked_left [] (a ∷ again) n new ws bits h = absurd h
marked_left (k ∷ kids) [] n new ws bits h = absurd h
marked_left (k ∷ kids) (a ∷ again) zero new ws bits h = (bits, h.1)
marked_left (k ∷ kids) (a ∷ again) (suc n) new ws bits h = (h.0, marked_left kids again n new ws bits h.1)

pub all_left_set : (P : List UnfinishedRequest → Type 0) (again : List (Option (List UnfinishedRequest))) (n : ℕ) (ws : List UnfinishedRequest) → P ws
    → AllByRecursion P (trees_left again) → AllByRecursion P (trees_left (slice_set again n (Some ws)))
all_left_set P [] n ws p h = tt
all_left_set P (None ∷ again) zero ws p h = (p, h)
all_left_set P (Some vs ∷ again) zero ws p h = (p, h.1)
all_left_set P (None ∷ again) (suc n) ws p h = all_left_set P again n ws p h
all_left_set P (Some vs ∷ again) (suc n) ws p h = (h.0, all_left_set P again n ws p h.1)

state_next : (kids : List Kid) (n : ℕ) → AreHanded n kids → n < length kids → state_at kids n ≡ Some Due
state_next [] zero h l = absurd (omega arith)
state_next (k ∷ kids) zero h l = ap (λ s. Some s) h.0
state_next [] (suc n) h l = absurd h
state_next (k ∷ kids) (suc n) h l = state_next kids n h.1 (omega arith)

-- ---- the whole request

-- with other children's trees
pub over_with_kids : (tops : List Top) (r now : RequestNode) → now ≡ with_kids r now.kids now.family → IsRequestOver tops r → IsOwnOver tops now.own now.family
    → AllByRecursion (IsTreeOver tops) now.kids.due → AllByRecursion (IsTreeOver tops) (trees_left now.kids.again) → AreMarked now.kids.kids.kids now.kids.again
    → AreHanded now.kids.kids.handed now.kids.kids.kids → HaveValidPointers now.kids.kids → length now.kids.kids.kids ≡ length r.kids.kids.kids
    → now.kids.kids.kept ≡ r.kids.kids.kept → IsRequestOver tops now
over_with_kids tops r now rest h own due again marked handed pointers many kept =
    let same : now.waiting ≡ r.waiting = ap (λ (x : RequestNode). x.waiting) rest in
    record {
      own = own;
      tops_are = h.tops_are;
      units = h.units;
      few = subst (λ n. n < 4) (sym (ap (λ (x : RequestNode). x.attempt) rest)) h.few;
      waiting = subst (IsWaitingOver tops) (sym same) h.waiting;
      due = due;
      again = again;
      marked = marked;
      handed = handed;
      pointers = pointers;
      kept = kept ∙ h.kept ∙ ap (λ (w : UnfinishedRequest). w.kept) (sym same);
      sound = subst (λ (w : UnfinishedRequest). IsSoundOver (length now.kids.kids.kids + length now.kids.kids.kept) w) (sym same)
          (subst (λ n. IsSoundOver n r.waiting) (λ i. sym many i + length (sym kept i)) h.sound);
    }

-- with more of its own work done
pub over_with_own : (tops : List Top) (r now : RequestNode) → now ≡ with_own r now.own now.family → IsRequestOver tops r → IsOwnOver tops now.own now.family
    → IsRequestOver tops now
over_with_own tops r now rest h own =
    let back : with_own r now.own now.family ≡ now = sym rest in
    subst (IsRequestOver tops) back (record {
      own = own;
      tops_are = h.tops_are;
      units = h.units;
      few = h.few;
      waiting = h.waiting;
      due = h.due;
      again = h.again;
      marked = h.marked;
      handed = h.handed;
      pointers = h.pointers;
      kept = h.kept;
      sound = h.sound;
    })

-- whose next child is handed out
pub over_handed : (tops : List Top) (r now : RequestNode) (ws : List UnfinishedRequest) → now ≡ with_kids r now.kids now.family → IsRequestOver tops r
    → IsOwnOver tops now.own now.family → now.kids.kids ≡ kid_handed r.kids.kids → HoldsBut ws r.kids now.kids → r.kids.kids.handed < length r.kids.kids.kids
    → HaveValidPointers now.kids.kids → IsRequestOver tops now × IsTreeOver tops ws
over_handed tops r now ws rest h own kids holds less valid =
    let x = r.kids.kids in
    let next : state_at x.kids x.handed ≡ Some Due = state_next x.kids x.handed h.handed less in
    let all : AllByRecursion (IsTreeOver tops) (ws ∷ now.kids.due) = subst (AllByRecursion (IsTreeOver tops)) holds.due h.due in
    let marked : AreMarked (kid_handed x).kids r.kids.again = marked_same x.kids r.kids.again x.handed Due Out next refl h.marked in
    let handed : AreHanded (kid_handed x).handed (kid_handed x).kids =
    subst (λ n. AreHanded n (kid_handed x).kids) (sym (add-one x.handed)) (handed_more x.handed x.kids h.handed less) in (
      over_with_kids tops r now rest h own all.1 (subst (λ again. AllByRecursion (IsTreeOver tops) (trees_left again)) (sym holds.again) h.again)
          (subst (λ again. AreMarked now.kids.kids.kids again) (sym holds.again) (subst (λ (y : KidsUnderWay). AreMarked y.kids r.kids.again) (sym kids) marked))
          (subst (λ (y : KidsUnderWay). AreHanded y.handed y.kids) (sym kids) handed) valid
          (ap (λ (y : KidsUnderWay). length y.kids) kids ∙ count_set x.kids x.handed Out) (ap (λ (y : KidsUnderWay). y.kept) kids),
      all.0,
    )

-- whose child of this place told, or ended
pub over_heard : (tops : List Top) (r now : RequestNode) (place : ℕ) (old new : KidState) → now ≡ with_kids r now.kids now.family → IsRequestOver tops r
    → IsOwnOver tops now.own now.family → now.kids.kids ≡ kid_is r.kids.kids place new → state_at r.kids.kids.kids place ≡ Some old → old ≢ Due → new ≢ Due
    → AllByRecursion (IsTreeOver tops) now.kids.due → AllByRecursion (IsTreeOver tops) (trees_left now.kids.again)
    → AreMarked (state_set r.kids.kids.kids place new) now.kids.again → HaveValidPointers now.kids.kids → IsRequestOver tops now
over_heard tops r now place old new rest h own kids state was is due again marked valid =
    let x = r.kids.kids in
    let handed : AreHanded x.handed (state_set x.kids place new) = handed_set x.handed x.kids place old new h.handed state was is in
    over_with_kids tops r now rest h own due again (subst (λ (y : KidsUnderWay). AreMarked y.kids now.kids.again) (sym kids) marked)
    (subst (λ (y : KidsUnderWay). AreHanded y.handed y.kids) (sym kids) handed) valid
    (ap (λ (y : KidsUnderWay). length y.kids) kids ∙ count_set x.kids place new) (ap (λ (y : KidsUnderWay). y.kept) kids)

-- the same, where these are its children
pub over_own : (tops : List Top) (r now : RequestNode) (family : List Child) → now ≡ with_own r now.own family → IsRequestOver tops r → IsOwnOver tops now.own now.family
    → IsRequestOver tops now
over_own tops r now family rest h own =
    over_with_own tops r now (rest ∙ ap (with_own r now.own) (sym (ap (λ (x : RequestNode). x.family) rest))) h own
