-- A free as a node at a stage: how far it is, how often it runs, and what went back.
use Rattle.std.proofs.Common.{◌≡◌, ℕ, ◌+◌, ◌≤◌, List, [], ◌∷◌, ◌++◌, append-nil, length, take, ◌⊎◌, inl, inr, Bool, true, false, Option, Some, None, is_none, refl, sym, ap, subst, ◌∙◌, arith}
use Rattle.zio_types.specs.declared.error.Errno.{Errno}
use Rattle.zio_types.specs.declared.place.Place.{Place}
use Rattle.zio_types.specs.declared.request.Kind.{Kind}
use Rattle.zio_types.specs.declared.request.Kind.TheVariants.{Free as FreeKind}
use Rattle.zio_masks.specs.declared.pipeline.Pipeline.{Pipeline}
use Rattle.zio_masks.specs.declared.stage.Stage.{Stage}
use Rattle.zio_masks.specs.declared.stage.Stage.TheVariants.{Start, FreeBpInit, IssueAsync, GangAssemble, GangIssue, DvaFree, Ready, Done}
use Rattle.zio_masks.specs.Stages.{has}
use Rattle.zio_script.specs.Requests.{kind_of}
use Rattle.zio_script.specs.declared.script.Work.{Work}
use Rattle.zio_gang.specs.declared.tree.Tree.{Tree}
use Rattle.zio_exchange.specs.Outcomes.{freed_if}
use Rattle.zio_exchange.specs.SpaceCalls.{calls_back}
use Rattle.zio_staged.specs.Stages.{told_cost}
use Rattle.zio_stages.specs.RequestFrees.{FreesOn, HasBegun, HasFreed, HasKeptFailed, HasWalked, IsFreeWith, IsFreeing, IsFreeingWith, freed_by}
use Rattle.zio_stages.specs.RequestKinds.{has_gang_stages, is_gang_tree}
use Rattle.zio_stages.specs.RequestReads.{HasFound, found_error}
use Rattle.zio_stages.specs.StoredBlocks.{block_places}
use Rattle.zio_stages.specs.declared.own_free.FreeWalk.{FreeWalk}
use Rattle.zio_stages.specs.declared.own_free.FreeWalk.TheVariants.{Due as FreeDue, Out, Ended}
use Rattle.zio_stages.specs.declared.own_free.OwnFree.{OwnFree}
use Rattle.zio_stages.specs.declared.request_node.Own.{Own}
use Rattle.zio_stages.specs.declared.request_node.Own.TheVariants.{Claim, Due, Found, Free, Over, Read, Stored, Write}
use Rattle.zio_nodes.specs.Bounds.{walk_max}
use Rattle.zio_nodes.specs.OwnAts.{HasKeptAll, IsFreeAtStage, IsGivingFree}
use Rattle.zio_nodes.specs.OwnBounds.{free_stages, free_walk_left, freeing_left, walk_share}
use Rattle.zio_nodes.specs.RequestAts.{freed_so_far, is_kept, masked}
use Rattle.zio_nodes.specs.StageMoves.{CallsFit, IssueFits}
use Rattle.zio_nodes.specs.Told.{is_told}
use Rattle.zio_nodes.specs.declared.node.Node.TheVariants.{Request}
use Rattle.zio_nodes.specs.declared.request_at.RequestAt.{RequestAt}
use Rattle.zio_nodes.proofs.NodeLemmas.{all_returns}
use Rattle.zio_nodes.proofs.OwnOver.{IsFree}
use Rattle.zio_nodes.proofs.OwnStages.{behind_issue}
use Rattle.zio_nodes.proofs.StageLeads.{gang_of}

-- ---- how far

pub free_map : (P Q : OwnFree → Type 0) (own : Own) → ((w : OwnFree) → P w → Q w) → IsFreeWith P own → IsFreeWith Q own
free_map P Q Due f h = h
free_map P Q (Write w) f h = h
free_map P Q (Stored b) f h = h
free_map P Q (Read w) f h = h
free_map P Q (Free w) f h = f w h
free_map P Q (Claim w) f h = h
free_map P Q (Found own) f h = tt
free_map P Q Over f h = h

pub kept_all : (P : OwnFree → Type 0) (own : Own) → IsFreeWith P own → freed_by own ≡ 0 → IsFreeWith HasKeptAll own
kept_all P Due h none = h
kept_all P (Write w) h none = h
kept_all P (Stored b) h none = h
kept_all P (Read w) h none = h
kept_all P (Free w) h none = none
kept_all P (Claim w) h none = h
kept_all P (Found own) h none = tt
kept_all P Over h none = h

pub none_given : (own : Own) → IsFreeWith HasKeptAll own → freed_by own ≡ 0
none_given Due h = refl
none_given (Write w) h = refl
none_given (Stored b) h = refl
none_given (Read w) h = refl
none_given (Free w) h = h
none_given (Claim w) h = refl
none_given (Found own) h = refl
none_given Over h = refl

zero_least : (m n : ℕ) → m ≡ 0 → m ≤ n
zero_least m n e = omega (arith, e)

pub may_give : (block : Option Tree) (own : Own) → IsFreeWith HasKeptAll own → IsFreeWith (IsFreeing block) own
may_give block own h = free_map HasKeptAll (IsFreeing block) own (λ w none. zero_least w.given (length (block_places block)) none) h

pub kept_failed : (own : Own) → IsFreeWith HasKeptAll own → IsFreeWith HasKeptFailed own
kept_failed own h = free_map HasKeptAll HasKeptFailed own (λ w none e is. none) h

-- ---- how often

pub freeing_most : (own : Own) → freeing_left own ≤ walk_share
freeing_most Due = omega arith
freeing_most (Free w) = by w.walk
  where
    by : (walk : FreeWalk) → free_walk_left walk ≤ walk_share
    by FreeDue = omega arith
    by Out = omega arith
    by (Ended e) = omega arith
freeing_most (Read w) = omega arith
freeing_most (Write w) = omega arith
freeing_most (Stored b) = omega arith
freeing_most (Claim w) = omega arith
freeing_most (Found own) = omega arith
freeing_most Over = omega arith

pub freeing_out : (own : Own) → IsFreeingWith (λ w. w.walk ≡ Out) own → freeing_left own ≡ 0
freeing_out Due h = absurd h
freeing_out (Write w) h = absurd h
freeing_out (Stored b) h = absurd h
freeing_out (Read w) h = absurd h
freeing_out (Free w) h = ap free_walk_left h
freeing_out (Claim w) h = absurd h
freeing_out (Found own) h = absurd h
freeing_out Over h = absurd h

pub freeing_due : (own : Own) → IsFreeingWith (λ w. w.walk ≡ FreeDue) own → freeing_left own ≡ walk_share
freeing_due Due h = absurd h
freeing_due (Write w) h = absurd h
freeing_due (Stored b) h = absurd h
freeing_due (Read w) h = absurd h
freeing_due (Free w) h = ap free_walk_left h
freeing_due (Claim w) h = absurd h
freeing_due (Found own) h = absurd h
freeing_due Over h = absurd h

pub freeing_walked : (own : Own) → IsFreeWith (λ w. (e : Option Errno) × (w.walk ≡ Ended e)) own → freeing_left own ≡ 0
freeing_walked Due h = absurd h
freeing_walked (Write w) h = absurd h
freeing_walked (Stored b) h = absurd h
freeing_walked (Read w) h = absurd h
freeing_walked (Free w) h = ap free_walk_left h.1
freeing_walked (Claim w) h = absurd h
freeing_walked (Found own) h = refl
freeing_walked Over h = absurd h

-- behind its first stage
pub begins_less : (old new : Own) (was now : Stage) → old ≡ Due → now ≡ IssueAsync → was ≡ FreeBpInit → freeing_left new + free_stages now + 1 ≤ freeing_left old + free_stages was
begins_less old new was now due is before = omega (arith, freeing_most new, ap freeing_left due, ap free_stages is, ap free_stages before)

-- from one stage to a later one with the same work
pub stage_less : (own : Own) (was now : Stage) (a b : ℕ) → free_stages was ≡ a → free_stages now ≡ b → b + 1 ≤ a → freeing_left own + free_stages now + 1 ≤ freeing_left own + free_stages was
stage_less own was now a b x y less = omega (arith, x, y, less)

-- its walk is due or has begun
pub walk_due_begun : (own : Own) → IsFreeingWith (λ w. w.walk ≡ FreeDue) own → IsFreeWith (λ w. HasBegun w.walk) own → ⊥
walk_due_begun Due due begun = due
walk_due_begun (Write w) due begun = due
walk_due_begun (Stored b) due begun = due
walk_due_begun (Read w) due begun = due
walk_due_begun (Free w) due begun = subst HasBegun due begun
walk_due_begun (Claim w) due begun = due
walk_due_begun (Found own) due begun = due
walk_due_begun Over due begun = due

-- the walk was handed out
pub walk_less : (old new : Own) (stage : Stage) → IsFreeingWith (λ w. w.walk ≡ FreeDue) old → IsFreeingWith (λ w. w.walk ≡ Out) new
    → freeing_left new + free_stages stage + (walk_max 8 + 1) ≤ freeing_left old + free_stages stage
unfolding walk_share
walk_less old new stage due out = omega (arith, freeing_due old due, freeing_out new out)

-- ---- what went back

found_so : (now : Own) (block : Option Tree) (e : Option Errno) → HasFound now → found_error now ≡ e → freed_so_far now block ≡ freed_if (is_none e) (block_places block)
found_so now block e f is =
    ap (λ (o : Own). freed_so_far o block) f.1 ∙ ap (λ (x : Option Errno). freed_if (is_none x) (block_places block)) (sym (ap found_error f.1) ∙ is)

take_all : (ps : List Place) → take (length ps) ps ≡ ps
take_all [] = refl
take_all (p ∷ ps) = ap (λ qs. p ∷ qs) (take_all ps)

by_error : (e : Option Errno) (n : ℕ) (ps : List Place) → (e ≡ None → n ≡ length ps) → ((x : Errno) → e ≡ Some x → n ≡ 0) → freed_if (is_none e) ps ≡ take n ps
by_error None n ps all none = sym (ap (λ m. take m ps) (all refl) ∙ take_all ps)
by_error (Some x) n ps all none = sym (ap (λ m. take m ps) (none x refl))

-- once what it came to is told, it gave back what it did
pub ended_same : (own now : Own) (block : Option Tree) → IsFreeWith (HasFreed block) own → IsFreeWith HasKeptFailed own
    → IsFreeWith (λ w. (e : Option Errno) → w.walk ≡ Ended e → found_error now ≡ e) own → HasFound now → (HasFound own → now ≡ own) → freed_so_far now block ≡ freed_so_far own block
ended_same Due now block freed kept error found still = absurd freed
ended_same (Write w) now block freed kept error found still = absurd freed
ended_same (Stored b) now block freed kept error found still = absurd freed
ended_same (Read w) now block freed kept error found still = absurd freed
ended_same (Free w) now block freed kept error found still =
    found_so now block freed.0 found (error freed.0 freed.1) ∙ by_error freed.0 w.given (block_places block) freed.2 (λ x is. kept x (freed.1 ∙ ap (λ o. Ended o) is))
ended_same (Claim w) now block freed kept error found still = absurd freed
ended_same (Found f) now block freed kept error found still = ap (λ (o : Own). freed_so_far o block) (still (f, refl))
ended_same Over now block freed kept error found still = absurd freed

-- ---- behind IssueAsync

pub free_mask : (work : Work) (block : Option Tree) (mask : Pipeline) → IsFree work → ((s : Stage) → has mask s ≡ masked (kind_of work) (has_gang_stages work block) s)
    → (s : Stage) → has mask s ≡ masked FreeKind (is_gang_tree block) s
free_mask work block mask is same = λ s. same s ∙ ap (λ (w : Work). masked (kind_of w) (has_gang_stages w block) s) is.is

pub issue_untold : (gang : Bool) → is_told (behind_issue gang) ≡ false
issue_untold true = refl
issue_untold false = refl

pub issue_behind : (gang : Bool) → behind_issue gang ≡ Start → ⊥
issue_behind true e = cc
issue_behind false e = cc

pub issue_stands : (gang due : Bool) (own : Own) (block : Option Tree) → is_gang_tree block ≡ gang → IsFreeWith HasKeptAll own → (is_gang_tree block ≡ false → IsFreeWith HasWalked own)
    → IsFreeAtStage (behind_issue gang) due own block
issue_stands true due own block is kept walked = (kept, is)
issue_stands false due own block is kept walked = (may_give block own kept, walked is, kept_failed own kept)

-- GangIssue leaves it
issue_kept : (gang : Bool) → is_kept gang (behind_issue gang) ≡ true
issue_kept true = refl
issue_kept false = refl

pub issue_leads : (at : RequestAt) (next : Stage) (gang : Bool) → gang_of at ≡ gang → next ≡ behind_issue gang → is_kept (gang_of at) next ≡ true
issue_leads at next gang is then = ap (λ g. is_kept g next) is ∙ ap (is_kept gang) then ∙ issue_kept gang

pub issue_stages : (gang : Bool) → free_stages (behind_issue gang) + 1 ≤ told_cost + told_cost + 4
issue_stages true = omega arith
issue_stages false = omega arith

-- ---- it is under way

pub not_found : (P : OwnFree → Type 0) (own : Own) → IsFreeingWith P own → HasFound own → ⊥
not_found P Due h f = h
not_found P (Write w) h f = h
not_found P (Stored b) h f = h
not_found P (Read w) h f = h
not_found P (Free w) h f = cc
not_found P (Claim w) h f = h
not_found P (Found own) h f = h
not_found P Over h f = h

-- what goes back is of its block
none_gone : (gone : List Place) → [] ++ gone ≡ [] → gone ≡ []
none_gone gone e = e

pub gives_more : (own now : Own) (block : Option Tree) (gone : List Place) → FreesOn own now → take (freed_by own) (block_places block) ++ gone ≡ take (freed_by now) (block_places block)
    → freed_so_far now block ≡ freed_so_far own block ++ gone
gives_more Due now block gone on e = ap (λ (o : Own). freed_so_far o block) on ∙ sym (none_gone gone (e ∙ ap (λ (o : Own). take (freed_by o) (block_places block)) on))
gives_more (Write w) now block gone on e = ap (λ (o : Own). freed_so_far o block) on ∙ sym (none_gone gone (e ∙ ap (λ (o : Own). take (freed_by o) (block_places block)) on))
gives_more (Stored x) now block gone on e = ap (λ (o : Own). freed_so_far o block) on ∙ sym (none_gone gone (e ∙ ap (λ (o : Own). take (freed_by o) (block_places block)) on))
gives_more (Read w) now block gone on e = ap (λ (o : Own). freed_so_far o block) on ∙ sym (none_gone gone (e ∙ ap (λ (o : Own). take (freed_by o) (block_places block)) on))
gives_more (Free w) Due block gone on e = absurd on
gives_more (Free w) (Write v) block gone on e = absurd on
gives_more (Free w) (Stored x) block gone on e = absurd on
gives_more (Free w) (Read v) block gone on e = absurd on
gives_more (Free w) (Free v) block gone on e = sym e
gives_more (Free w) (Claim v) block gone on e = absurd on
gives_more (Free w) (Found own) block gone on e = absurd on
gives_more (Free w) Over block gone on e = absurd on
gives_more (Claim w) now block gone on e = ap (λ (o : Own). freed_so_far o block) on ∙ sym (none_gone gone (e ∙ ap (λ (o : Own). take (freed_by o) (block_places block)) on))
gives_more (Found own) now block gone on e =
    let none : gone ≡ [] = none_gone gone (e ∙ ap (λ (o : Own). take (freed_by o) (block_places block)) on) in
    ap (λ (o : Own). freed_so_far o block) on ∙ sym (append-nil (freed_so_far (Found own) block)) ∙ ap (λ ps. freed_so_far (Found own) block ++ ps) (sym none)
gives_more Over now block gone on e = ap (λ (o : Own). freed_so_far o block) on ∙ sym (none_gone gone (e ∙ ap (λ (o : Own). take (freed_by o) (block_places block)) on))

-- it was walked over before
pub still_walked : (own now : Own) → FreesOn own now → IsFreeWith HasWalked own → freeing_left now ≡ freeing_left own
still_walked Due now on h = absurd h
still_walked (Write w) now on h = absurd h
still_walked (Stored x) now on h = absurd h
still_walked (Read w) now on h = absurd h
still_walked (Free w) Due on h = absurd on
still_walked (Free w) (Write v) on h = absurd on
still_walked (Free w) (Stored x) on h = absurd on
still_walked (Free w) (Read v) on h = absurd on
still_walked (Free w) (Free v) on h = ap free_walk_left on
still_walked (Free w) (Claim v) on h = absurd on
still_walked (Free w) (Found own) on h = absurd on
still_walked (Free w) Over on h = absurd on
still_walked (Claim w) now on h = absurd h
still_walked (Found own) now on h = ap freeing_left on
still_walked Over now on h = absurd h

pub stage_less_same : (own now : Own) (was stage : Stage) (a b : ℕ) → now ≡ own → free_stages was ≡ a → free_stages stage ≡ b → b + 1 ≤ a
    → freeing_left now + free_stages stage + 1 ≤ freeing_left own + free_stages was
stage_less_same own now was stage a b same x y less = omega (arith, ap freeing_left same, x, y, less)

pub stage_less_walked : (own now : Own) (was stage : Stage) (a b : ℕ) → freeing_left now ≡ freeing_left own → free_stages was ≡ a → free_stages stage ≡ b → b + 1 ≤ a
    → freeing_left now + free_stages stage + 1 ≤ freeing_left own + free_stages was
stage_less_walked own now was stage a b same x y less = omega (arith, same, x, y, less)

pub told_less : (own : Own) (was stage : Stage) → free_stages was ≡ told_cost + told_cost → free_stages stage ≡ told_cost → freeing_left own + free_stages stage + told_cost ≤ freeing_left own + free_stages was
told_less own was stage x y = omega (arith, x, y)

-- ---- a gang's walk ended

-- what its places need to go back
pub record MayGoBack (block : Option Tree) (own : Own) : Type 0 where
  pub walked : IsFreeWith HasWalked own
  pub frees : IsFreeWith (IsFreeing block) own
  pub failed : IsFreeWith HasKeptFailed own

giving : (block : Option Tree) (w : OwnFree) → HasWalked w → IsGivingFree block w → IsFreeing block w × HasKeptFailed w
giving block w walked (inl kept) = (zero_least w.given (length (block_places block)) kept, λ e is. kept)
giving block w walked (inr gives) = (gives.1, gives.2)

pub may_go_back : (block : Option Tree) (own : Own) → IsFreeWith HasWalked own → IsFreeWith (IsGivingFree block) own → MayGoBack block own
may_go_back block Due walked h = absurd h
may_go_back block (Write w) walked h = absurd h
may_go_back block (Stored b) walked h = absurd h
may_go_back block (Read w) walked h = absurd h
may_go_back block (Free w) walked h = let both = giving block w walked h in record { walked = walked; frees = both.0; failed = both.1 }
may_go_back block (Claim w) walked h = absurd h
may_go_back block (Found own) walked h = record { walked = tt; frees = tt; failed = tt }
may_go_back block Over walked h = absurd h

-- none went back before
pub none_yet : (block : Option Tree) (own : Own) → IsFreeWith HasKeptAll own → IsFreeWith (IsGivingFree block) own
none_yet block own h = free_map HasKeptAll (IsGivingFree block) own (λ w kept. inl kept) h

-- ---- the stage at which they go back

pub gives_at : (at : RequestAt) (gone : List Place) → kind_of at.node.waiting.request.work ≡ FreeKind → (at.stage ≡ DvaFree) ⊎ (at.stage ≡ GangIssue)
    → CallsFit at.stage (Request at) (calls_back gone)
gives_at at gone kind (inl is) = subst (λ (s : Stage). CallsFit s (Request at) (calls_back gone)) (sym is) (all_returns gone)
gives_at at gone kind (inr is) =
    subst (λ (s : Stage). CallsFit s (Request at) (calls_back gone)) (sym is)
    (subst (λ (k : Kind). IssueFits k (calls_back gone)) (sym kind) (all_returns gone))

pub untold_at : (stage : Stage) → (stage ≡ DvaFree) ⊎ (stage ≡ GangIssue) → is_told stage ≡ false
untold_at stage (inl is) = ap is_told is
untold_at stage (inr is) = ap is_told is

pub behind_at : (stage : Stage) → (stage ≡ DvaFree) ⊎ (stage ≡ GangIssue) → stage ≡ Start → ⊥
behind_at stage (inl is) e = let no : DvaFree ≡ Start = sym is ∙ e in cc
behind_at stage (inr is) e = let no : GangIssue ≡ Start = sym is ∙ e in cc

pub given_less : (own now : Own) (was stage : Stage) → (was ≡ DvaFree) ⊎ (was ≡ GangIssue) → stage ≡ Ready → freeing_left now ≡ freeing_left own
    → freeing_left now + free_stages stage + 1 ≤ freeing_left own + free_stages was
given_less own now was stage (inl is) to same = omega (arith, same, ap free_stages is, ap free_stages to)
given_less own now was stage (inr is) to same = omega (arith, same, ap free_stages is, ap free_stages to)

-- ---- it came to its end

pub found_stands : (P : OwnFree → Type 0) (own : Own) → HasFound own → IsFreeWith P own
found_stands P own f = subst (IsFreeWith P) (sym f.1) tt

pub freeing_found : (own : Own) → HasFound own → freeing_left own ≡ 0
freeing_found own f = ap freeing_left f.1

pub ended_less : (old new : Own) (stage : Stage) → HasFound new → freeing_left new + free_stages stage + 0 ≤ freeing_left old + free_stages stage
ended_less old new stage f = omega (arith, freeing_found new f)

pub ended_pays : (own : Own) (stage : Stage) → stage ≡ Done → told_cost ≤ freeing_left own + free_stages stage
ended_pays own stage is = omega (arith, ap free_stages is)

-- ---- it stands at no other stage

pub free_known : (stage : Stage) (due : Bool) (own : Own) (block : Option Tree) → IsFreeAtStage stage due own block → (stage ≡ FreeBpInit → ⊥) → (stage ≡ IssueAsync → ⊥)
    → (stage ≡ GangAssemble → ⊥) → (stage ≡ GangIssue → ⊥) → (stage ≡ DvaFree → ⊥) → (stage ≡ Ready → ⊥) → (stage ≡ Done → ⊥) → ⊥
free_known FreeBpInit due own block h a b c d e f g = a refl
free_known IssueAsync due own block h a b c d e f g = b refl
free_known GangAssemble due own block h a b c d e f g = c refl
free_known GangIssue due own block h a b c d e f g = d refl
free_known DvaFree due own block h a b c d e f g = e refl
free_known Ready due own block h a b c d e f g = f refl
free_known Done due own block h a b c d e f g = g refl
free_known _ due own block h a b c d e f g = h
