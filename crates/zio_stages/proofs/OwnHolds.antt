-- What the own work of a read, a free and a claim took of the space, and that it heard of no attempt.
use Rattle.std.proofs.Common.{◌≡◌, List, [], ◌∷◌, ◌++◌, Option, Some, None, refl, sym, ap, subst, ◌∙◌}
use Rattle.std.specs.List.{AllByRecursion}
use Rattle.zio_blkptr.specs.declared.pointer.Bp.{Bp}
use Rattle.zio_gang.specs.declared.tree.Tree.{Tree}
use Rattle.zio_gang.specs.Attempts.{Terms}
use Rattle.zio_trace.specs.Leaves.{Answer}
use Rattle.zio_trace.specs.Tasks.{TakePlaces, Task, Value, Walked}
use Rattle.zio_frames.specs.Frames.{Child, Stack}
use Rattle.zio_frames.specs.Slots.{Heard, IsOut, Slot}
use Rattle.zio_parts.specs.TreeReads.{slots_in}
use Rattle.zio_parts.specs.declared.tree_read.Phase.{Phase}
use Rattle.zio_parts.specs.declared.tree_read.Phase.TheVariants.{Unread as NoneRead, Out as WalkOut, Failed as WalkFailed, Found as BodiesFound}
use Rattle.zio_exchange.specs.Outcomes.{IsNoAttemptIn, places_by, places_in, places_with}
use Rattle.zio_stages.specs.OwnClaims.{IsClaimOf, IsClaimStep, claim_task, taken_by}
use Rattle.zio_stages.specs.OwnFrees.{IsFreeWalk}
use Rattle.zio_stages.specs.OwnParts.{ToldSince}
use Rattle.zio_stages.specs.OwnReads.{AreReads, IsBodyTask, IsOwnRead}
use Rattle.zio_stages.specs.TreeWorks.{heads_task, walk_before}
use Rattle.zio_stages.specs.declared.own_claim.ClaimStep.{ClaimStep}
use Rattle.zio_stages.specs.declared.own_claim.ClaimStep.TheVariants.{Due as StepDue, Failed, Found, Out as StepOut, Refused, Taken as TakenStep}
use Rattle.zio_stages.specs.declared.own_free.FreeWalk.{FreeWalk}
use Rattle.zio_stages.specs.declared.own_free.FreeWalk.TheVariants.{Due, Out, Ended}
use Rattle.zio_stages.specs.declared.own_read.OwnRead.{OwnRead}

-- ---- a read

none_held : (op : Task) (slot : Slot) → ((v : Value) → places_by op v ≡ []) → places_with op slot ≡ []
none_held op (IsOut told) h = refl
none_held op (Heard v) h = h v

bodies_hold : (asked : List Task) (slots : List Slot) → AllByRecursion IsBodyTask asked → places_in asked slots ≡ []
bodies_hold [] slots h = refl
bodies_hold (op ∷ asked) [] h = refl
bodies_hold (op ∷ asked) (slot ∷ slots) h =
    ap (λ ps. ps ++ places_in asked slots) (none_held op slot (λ v. ap (λ (q : Task). places_by q v) h.0.1)) ∙ bodies_hold asked slots h.1

reads_hold : (tree : Tree) (asked : List Task) (slots : List Slot) → AreReads tree asked → places_in asked slots ≡ []
reads_hold tree [] slots h = refl
reads_hold tree (op ∷ asked) [] h = refl
reads_hold tree (op ∷ asked) (slot ∷ slots) h =
    ap (λ ps. ps ++ places_in asked slots) (none_held op slot (λ v. ap (λ (q : Task). places_by q v) h.0)) ∙ bodies_hold asked slots h.1

pub read_holds : (t : Terms) (w : OwnRead) (family : List Child) (tree : Tree) (front_asked : List Task) (front : List Slot) (st : Stack)
    (h : IsOwnRead t w family tree front_asked front st) → places_in h.asked h.slots ≡ []
read_holds t w family tree front_asked front st h = reads_hold tree h.asked h.slots h.reads

quiet_results : (results : List (Option Answer)) → AllByRecursion IsNoAttemptIn (slots_in BodiesFound results)
quiet_results [] = tt
quiet_results (None ∷ results) = (tt, quiet_results results)
quiet_results (Some a ∷ results) = (tt, quiet_results results)

quiet_read : (phase : Phase) (walked : Walked) (results : List (Option Answer)) → AllByRecursion IsNoAttemptIn (walk_before phase walked ++ slots_in phase results)
quiet_read NoneRead walked results = tt
quiet_read WalkOut walked results = (tt, tt)
quiet_read (WalkFailed e) walked results = (tt, tt)
quiet_read BodiesFound walked results = (tt, quiet_results results)

quiet_since : (xs ys : List Slot) → ToldSince xs ys → AllByRecursion IsNoAttemptIn xs → AllByRecursion IsNoAttemptIn ys
quiet_since [] [] told h = tt
quiet_since [] (y ∷ ys) told h = absurd told
quiet_since (x ∷ xs) [] told h = absurd told
quiet_since (Heard v ∷ xs) (Heard w ∷ ys) told h = (subst (λ (u : Value). IsNoAttemptIn (Heard u)) told.0 h.0, quiet_since xs ys told.1 h.1)
quiet_since (Heard v ∷ xs) (IsOut out ∷ ys) told h = absurd told
quiet_since (IsOut out ∷ xs) (Heard w ∷ ys) told h = absurd told
quiet_since (IsOut None ∷ xs) (IsOut out ∷ ys) told h = (tt, quiet_since xs ys told h.1)
quiet_since (IsOut (Some pointer) ∷ xs) (IsOut out ∷ ys) told h = (tt, quiet_since xs ys told.1 h.1)

pub read_quiet : (t : Terms) (w : OwnRead) (family : List Child) (tree : Tree) (front_asked : List Task) (front : List Slot) (st : Stack)
    (h : IsOwnRead t w family tree front_asked front st) → AllByRecursion IsNoAttemptIn h.slots
read_quiet t w family tree front_asked front st h =
    quiet_since h.begun h.slots h.told (subst (AllByRecursion IsNoAttemptIn) (sym h.work.shown) (quiet_read w.tree.read.phase h.work.walked w.tree.read.results))

-- ---- a free

pub free_holds : (tree : Tree) (walk : FreeWalk) (asked : List Task) (slots : List Slot) → IsFreeWalk tree walk asked slots → places_in asked slots ≡ []
free_holds tree Due asked slots h = ap (λ (qs : List Task). places_in qs slots) h.0
free_holds tree Out asked slots h = ap (λ (qs : List Task). places_in qs slots) h.1 ∙ ap (places_in (heads_task tree ∷ [])) h.2
free_holds tree (Ended error) asked slots h = ap (λ (qs : List Task). places_in qs slots) h.1 ∙ ap (places_in (heads_task tree ∷ [])) h.2

pub free_quiet : (tree : Tree) (walk : FreeWalk) (asked : List Task) (slots : List Slot) → IsFreeWalk tree walk asked slots → AllByRecursion IsNoAttemptIn slots
free_quiet tree Due asked slots h = subst (AllByRecursion IsNoAttemptIn) (sym h.1) tt
free_quiet tree Out asked slots h = subst (AllByRecursion IsNoAttemptIn) (sym h.2) (tt, tt)
free_quiet tree (Ended error) asked slots h = subst (AllByRecursion IsNoAttemptIn) (sym h.2) (tt, tt)

-- ---- a claim

step_holds : (bp : Bp) (tree : Tree) (step : ClaimStep) (asked : List Task) (slots : List Slot) → IsClaimStep bp tree step asked slots → places_in asked slots ≡ taken_by (Some tree) step
step_holds bp tree StepDue asked slots h = ap (λ (qs : List Task). places_in qs slots) h.0
step_holds bp tree StepOut asked slots h = ap (λ (qs : List Task). places_in qs slots) h.1 ∙ ap (places_in (claim_task bp ∷ [])) h.2
step_holds bp tree (Failed e) asked slots h = ap (λ (qs : List Task). places_in qs slots) h.asked_are ∙ ap (places_in (claim_task bp ∷ [])) h.slots_are
step_holds bp tree Found asked slots h = ap (λ (qs : List Task). places_in qs slots) h.asked_are ∙ ap (places_in (claim_task bp ∷ [])) h.slots_are
step_holds bp tree TakenStep asked slots h =
    ap (λ (qs : List Task). places_in qs slots) h.asked_are ∙ ap (places_in (claim_task bp ∷ TakePlaces tree ∷ [])) h.slots_are
step_holds bp tree Refused asked slots h = ap (λ (qs : List Task). places_in qs slots) h.asked_are ∙ ap (places_in (claim_task bp ∷ TakePlaces tree ∷ [])) h.slots_are

pub claim_holds : (pointer : Option Bp) (block : Option Tree) (step : ClaimStep) (asked : List Task) (slots : List Slot) → IsClaimOf pointer block step asked slots
    → places_in asked slots ≡ taken_by block step
claim_holds None None step asked slots h = ap (λ (qs : List Task). places_in qs slots) h.0
claim_holds None (Some tree) step asked slots h = absurd h
claim_holds (Some bp) None step asked slots h = absurd h
claim_holds (Some bp) (Some tree) step asked slots h = step_holds bp tree step asked slots h.1

step_quiet : (bp : Bp) (tree : Tree) (step : ClaimStep) (asked : List Task) (slots : List Slot) → IsClaimStep bp tree step asked slots → AllByRecursion IsNoAttemptIn slots
step_quiet bp tree StepDue asked slots h = subst (AllByRecursion IsNoAttemptIn) (sym h.1) tt
step_quiet bp tree StepOut asked slots h = subst (AllByRecursion IsNoAttemptIn) (sym h.2) (tt, tt)
step_quiet bp tree (Failed e) asked slots h = subst (AllByRecursion IsNoAttemptIn) (sym h.slots_are) (tt, tt)
step_quiet bp tree Found asked slots h = subst (AllByRecursion IsNoAttemptIn) (sym h.slots_are) (tt, tt)
step_quiet bp tree TakenStep asked slots h = subst (AllByRecursion IsNoAttemptIn) (sym h.slots_are) (tt, (tt, tt))
step_quiet bp tree Refused asked slots h = subst (AllByRecursion IsNoAttemptIn) (sym h.slots_are) (tt, (tt, tt))

pub claim_quiet : (pointer : Option Bp) (block : Option Tree) (step : ClaimStep) (asked : List Task) (slots : List Slot) → IsClaimOf pointer block step asked slots
    → AllByRecursion IsNoAttemptIn slots
claim_quiet None None step asked slots h = subst (AllByRecursion IsNoAttemptIn) (sym h.1) tt
claim_quiet None (Some tree) step asked slots h = absurd h
claim_quiet (Some bp) None step asked slots h = absurd h
claim_quiet (Some bp) (Some tree) step asked slots h = step_quiet bp tree step asked slots h.1
