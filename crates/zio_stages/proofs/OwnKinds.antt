-- What a read, a free or a claim asks itself is done by gang children, or by itself.
use Rattle.std.proofs.Common.{◌≡◌, ℕ, zero, suc, List, [], ◌∷◌, slice_get, Option, Some, None, refl, sym, ap, ◌∙◌}
use Rattle.zio_types.specs.declared.request.ChildKind.TheVariants.{Gang}
use Rattle.zio_blkptr.specs.declared.pointer.Bp.{Bp}
use Rattle.zio_gang.specs.declared.tree.Tree.{Tree}
use Rattle.zio_trace.specs.Tasks.{TakePlaces, Task}
use Rattle.zio_frames.specs.Frames.{kind_of_task}
use Rattle.zio_frames.specs.Slots.{Slot}
use Rattle.zio_frames.proofs.GetLemmas.{all_at}
use Rattle.zio_stages.specs.OwnClaims.{IsClaimOf, IsClaimStep, claim_task}
use Rattle.zio_stages.specs.OwnFrees.{IsFreeWalk}
use Rattle.zio_stages.specs.OwnReads.{AreReads, IsBodyTask}
use Rattle.zio_stages.specs.TreeWorks.{heads_task}
use Rattle.zio_stages.specs.declared.own_claim.ClaimStep.{ClaimStep}
use Rattle.zio_stages.specs.declared.own_claim.ClaimStep.TheVariants.{Due as ClaimDue, Failed, Found, Out as ClaimOut, Refused, Taken}
use Rattle.zio_stages.specs.declared.own_free.FreeWalk.{FreeWalk}
use Rattle.zio_stages.specs.declared.own_free.FreeWalk.TheVariants.{Due, Ended, Out}

none_gang : (asked : List Task) (n : ℕ) (op : Task) → asked ≡ [] → slice_get asked n ≡ Some op → kind_of_task op ≡ Gang
none_gang asked n op is e =
    let both : None ≡ Some op = ap (λ (xs : List Task). slice_get xs n) (sym is) ∙ e in cc

one_gang : (x : Task) (asked : List Task) (n : ℕ) (op : Task) → kind_of_task x ≡ Gang → asked ≡ x ∷ [] → slice_get asked n ≡ Some op
    → kind_of_task op ≡ Gang
one_gang x asked n op gang is e = at n (ap (λ (xs : List Task). slice_get xs n) (sym is) ∙ e) where
  at : (k : ℕ) → slice_get (x ∷ []) k ≡ Some op → kind_of_task op ≡ Gang
  at zero f = let same : x ≡ op = cc in ap kind_of_task (sym same) ∙ gang
  at (suc k) f = cc

two_gang : (x y : Task) (asked : List Task) (n : ℕ) (op : Task) → kind_of_task x ≡ Gang → kind_of_task y ≡ Gang → asked ≡ x ∷ y ∷ []
    → slice_get asked n ≡ Some op → kind_of_task op ≡ Gang
two_gang x y asked n op first second is e = at n (ap (λ (xs : List Task). slice_get xs n) (sym is) ∙ e) where
  at : (k : ℕ) → slice_get (x ∷ y ∷ []) k ≡ Some op → kind_of_task op ≡ Gang
  at zero f = let same : x ≡ op = cc in ap kind_of_task (sym same) ∙ first
  at (suc k) f = one_gang y (y ∷ []) k op second refl f

-- a read's are
pub reads_gang : (tree : Tree) (asked : List Task) (n : ℕ) (op : Task) → AreReads tree asked → slice_get asked n ≡ Some op → kind_of_task op ≡ Gang
reads_gang tree [] n op h e = cc
reads_gang tree (x ∷ asked) zero op h e = let same : x ≡ op = cc in ap kind_of_task (sym same ∙ h.0)
reads_gang tree (x ∷ asked) (suc n) op h e =
    let body : IsBodyTask op = all_at IsBodyTask asked n op h.1 e in ap kind_of_task body.1

-- so are a free's
pub frees_gang : (tree : Tree) (walk : FreeWalk) (asked : List Task) (slots : List Slot) (n : ℕ) (op : Task) → IsFreeWalk tree walk asked slots
    → slice_get asked n ≡ Some op → kind_of_task op ≡ Gang
frees_gang tree Due asked slots n op h e = none_gang asked n op h.0 e
frees_gang tree Out asked slots n op h e = one_gang (heads_task tree) asked n op refl h.1 e
frees_gang tree (Ended error) asked slots n op h e = one_gang (heads_task tree) asked n op refl h.1 e

walked_gang : (bp : Bp) (tree : Tree) (step : ClaimStep) (asked : List Task) (slots : List Slot) (n : ℕ) (op : Task)
    → IsClaimStep bp tree step asked slots → slice_get asked n ≡ Some op → kind_of_task op ≡ Gang
walked_gang bp tree ClaimDue asked slots n op h e = none_gang asked n op h.0 e
walked_gang bp tree ClaimOut asked slots n op h e = one_gang (claim_task bp) asked n op refl h.1 e
walked_gang bp tree (Failed x) asked slots n op h e = one_gang (claim_task bp) asked n op refl h.asked_are e
walked_gang bp tree Found asked slots n op h e = one_gang (claim_task bp) asked n op refl h.asked_are e
walked_gang bp tree Taken asked slots n op h e = two_gang (claim_task bp) (TakePlaces tree) asked n op refl refl h.asked_are e
walked_gang bp tree Refused asked slots n op h e = two_gang (claim_task bp) (TakePlaces tree) asked n op refl refl h.asked_are e

-- and a claim's
pub claims_gang : (pointer : Option Bp) (block : Option Tree) (step : ClaimStep) (asked : List Task) (slots : List Slot) (n : ℕ) (op : Task)
    → IsClaimOf pointer block step asked slots → slice_get asked n ≡ Some op → kind_of_task op ≡ Gang
claims_gang None None step asked slots n op h e = none_gang asked n op h.0 e
claims_gang None (Some tree) step asked slots n op h e = absurd h
claims_gang (Some bp) None step asked slots n op h e = absurd h
claims_gang (Some bp) (Some tree) step asked slots n op h e = walked_gang bp tree step asked slots n op h.1 e
