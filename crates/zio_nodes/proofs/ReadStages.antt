-- A read as a node at a stage: where it stands behind each of its calls.
use Rattle.std.proofs.Common.{◌≡◌, ℕ, ◌+◌, ◌*◌, ◌≤◌, List, length, Bool, true, false, Option, inr, refl, sym, ap, subst, ◌∙◌, arith, lit<}
use Rattle.zio_types.specs.declared.place.Top.{Top}
use Rattle.zio_types.specs.declared.request.Kind.TheVariants.{Read as ReadKind}
use Rattle.zio_masks.specs.declared.pipeline.Pipeline.{Pipeline}
use Rattle.zio_masks.specs.declared.stage.Stage.{Stage}
use Rattle.zio_masks.specs.declared.stage.Stage.TheVariants.{ReadBpInit, GangAssemble, GangIssue, Ready, VdevIoStart, VdevIoDone, VdevIoAssess, ChecksumVerify, Done, Start}
use Rattle.zio_masks.specs.declared.pipeline.TheConstants.{READ}
use Rattle.zio_masks.specs.Stages.{IsNext, has}
use Rattle.zio_script.specs.Requests.{kind_of}
use Rattle.zio_script.specs.declared.script.Work.{Work}
use Rattle.zio_gang.specs.declared.tree.Tree.{Tree}
use Rattle.zio_parts.specs.declared.tree_read.TreeStep.TheVariants.{Walk, Body, Wait, End}
use Rattle.zio_parts.specs.declared.tree_read.Phase.{Phase}
use Rattle.zio_parts.specs.declared.tree_read.Phase.TheVariants.{Unread, Out as WalkOut, Failed as WalkFailed, Found as BodiesFound}
use Rattle.zio_staged.specs.Stages.{told_cost}
use Rattle.zio_stages.specs.ReadCounts.{HandsOutBody, HandsOutWalk, HasBegun, HasHandedAll, HasOneBody, HasWalkBegun, IsMoreToRead, IsUnread, IsWalkDue, AreHandedOut}
use Rattle.zio_stages.specs.RequestKinds.{has_gang_stages, is_gang_tree}
use Rattle.zio_stages.specs.RequestReads.{HasFound, IsAlone, IsReadWith, IsReadingWith, ReadsOn}
use Rattle.zio_stages.specs.declared.own_read.OwnRead.{OwnRead}
use Rattle.zio_stages.specs.declared.request_node.Own.{Own}
use Rattle.zio_stages.specs.declared.request_node.Own.TheVariants.{Claim, Due, Found, Free, Over, Read, Stored, Write}
use Rattle.zio_nodes.specs.OwnAts.{HasFewBodies, HasReadAll, IsIssuing, IsReadAtStage, IsWalking, MayReadOne}
use Rattle.zio_nodes.specs.OwnBounds.{body_left, body_share, read_stages, reading_left, walk_left, walk_share}
use Rattle.zio_nodes.specs.Bounds.{copies_max, walk_max}
use Rattle.zio_nodes.specs.ReadBounds.{bodies_max}
use Rattle.zio_nodes.specs.RequestAts.{is_kept, masked}
use Rattle.zio_nodes.specs.Told.{is_told}
use Rattle.zio_nodes.proofs.OwnOver.{IsRead}
use Rattle.zio_nodes.proofs.OwnStages.{behind_init}
use Rattle.zio_nodes.specs.declared.request_at.RequestAt.{RequestAt}
use Rattle.zio_nodes.proofs.StageLeads.{gang_of}
use Rattle.zio_nodes.proofs.StageLemmas.{next_is}
use Rattle.zio_nodes.proofs.ReadLemmas.{body_out_less, read_both, read_map, reading_less, walk_out_less}

-- ---- whatever holds of it

pub with_map : (P Q : OwnRead → Type 0) (own : Own) → ((w : OwnRead) → P w → Q w) → IsReadWith P own → IsReadWith Q own
with_map P Q Due f h = h
with_map P Q (Write w) f h = h
with_map P Q (Stored b) f h = h
with_map P Q (Read w) f h = f w h
with_map P Q (Free w) f h = h
with_map P Q (Claim w) f h = h
with_map P Q (Found own) f h = tt
with_map P Q Over f h = h

pub any_reading : (P : OwnRead → Type 0) (own : Own) → IsReadingWith P own → IsReadingWith (λ w. Unit {0}) own
any_reading P Due h = h
any_reading P (Write w) h = h
any_reading P (Stored b) h = h
any_reading P (Read w) h = tt
any_reading P (Free w) h = h
any_reading P (Claim w) h = h
any_reading P (Found own) h = h
any_reading P Over h = h

-- its walk is due or has begun
pub walk_due_begun : (own : Own) → IsReadingWith IsWalkDue own → IsReadWith HasWalkBegun own → ⊥
walk_due_begun Due due begun = due
walk_due_begun (Write w) due begun = due
walk_due_begun (Stored b) due begun = due
walk_due_begun (Read w) due begun = subst HasBegun due begun
walk_due_begun (Free w) due begun = due
walk_due_begun (Claim w) due begun = due
walk_due_begun (Found own) due begun = due
walk_due_begun Over due begun = due

pub reading_with : (P : OwnRead → Type 0) (own : Own) → IsReadingWith P own → IsReadWith P own
reading_with P Due h = absurd h
reading_with P (Write w) h = absurd h
reading_with P (Stored b) h = absurd h
reading_with P (Read w) h = h
reading_with P (Free w) h = absurd h
reading_with P (Claim w) h = absurd h
reading_with P (Found own) h = absurd h
reading_with P Over h = absurd h

pub reading_found : (own : Own) → HasFound own → reading_left own ≡ 0
reading_found own f = ap reading_left f.1

pub found_stands : (P : OwnRead → Type 0) (own : Own) → HasFound own → IsReadWith P own
found_stands P own f = subst (IsReadWith P) (sym f.1) tt

-- and this holds of it then
pub both_after : (R : OwnRead → OwnRead → Type 0) (S : OwnRead → Type 0) (own now : Own) → IsReadWith S now → ReadsOn R own now → ReadsOn (λ v w. R v w × S w) own now
both_after R S Due now s on = on
both_after R S (Write w) now s on = on
both_after R S (Stored b) now s on = on
both_after R S (Read v) Due s on = absurd on
both_after R S (Read v) (Write w) s on = absurd on
both_after R S (Read v) (Stored b) s on = absurd on
both_after R S (Read v) (Read w) s on = (on, s)
both_after R S (Read v) (Free w) s on = absurd on
both_after R S (Read v) (Claim w) s on = absurd on
both_after R S (Read v) (Found own) s on = absurd on
both_after R S (Read v) Over s on = absurd on
both_after R S (Free w) now s on = on
both_after R S (Claim w) now s on = on
both_after R S (Found own) now s on = on
both_after R S Over now s on = on

-- it is under way, and this holds of it
pub reading_and : (P : OwnRead → Type 0) (own : Own) → IsReadingWith (λ w. Unit {0}) own → IsReadWith P own → IsReadingWith P own
reading_and P Due r h = r
reading_and P (Write w) r h = r
reading_and P (Stored b) r h = r
reading_and P (Read w) r h = h
reading_and P (Free w) r h = r
reading_and P (Claim w) r h = r
reading_and P (Found own) r h = r
reading_and P Over r h = r

-- whether it is under way or came to its end
pub reading_most : (R : OwnRead → OwnRead → Type 0) (P : OwnRead → Type 0) (own now : Own) → ((v w : OwnRead) → P v → R v w → reading_left (Read w) + 0 ≤ reading_left (Read v))
    → IsReadWith P own → ReadsOn R own now → reading_left now ≤ reading_left own
reading_most R P Due now f h on = absurd h
reading_most R P (Write w) now f h on = absurd h
reading_most R P (Stored b) now f h on = absurd h
reading_most R P (Read v) now f h on = let l = reading_less R P 0 (Read v) now f h on in omega (arith, l)
reading_most R P (Free w) now f h on = absurd h
reading_most R P (Claim w) now f h on = absurd h
reading_most R P (Found own) now f h on = omega (arith, ap reading_left on)
reading_most R P Over now f h on = absurd h

-- ---- behind ReadBpInit

pub read_mask : (work : Work) (block : Option Tree) (mask : Pipeline) → IsRead work → ((s : Stage) → has mask s ≡ masked (kind_of work) (has_gang_stages work block) s)
    → (s : Stage) → has mask s ≡ masked ReadKind (is_gang_tree block) s
read_mask work block mask is same = λ s. same s ∙ ap (λ (w : Work). masked (kind_of w) (has_gang_stages w block) s) is.is

pub init_untold : (gang : Bool) → is_told (behind_init gang) ≡ false
init_untold true = refl
init_untold false = refl

pub init_behind : (gang : Bool) → behind_init gang ≡ Start → ⊥
init_behind true e = cc
init_behind false e = cc

unread_walks : (w : OwnRead) → IsUnread w → IsWalking w
unread_walks w u = (u.alone, omega (arith, ap length u.bodies))

pub init_stands : (tops : List Top) (gang due : Bool) (own : Own) (block : Option Tree) → is_gang_tree block ≡ gang → (is_gang_tree block ≡ false → IsReadWith HasOneBody own)
    → (is_gang_tree block ≡ true → IsReadWith IsUnread own) → IsReadAtStage tops (behind_init gang) due own block
init_stands tops true due own block is plain gang = (is, with_map IsUnread IsWalking own unread_walks (gang is))
init_stands tops false due own block is plain gang = (with_map HasOneBody MayReadOne own (λ w o. inr o) (plain is), λ yes. absurd (let no : true ≡ false = sym yes ∙ is in cc))

-- GangIssue leaves it
init_kept : (gang : Bool) → is_kept gang (behind_init gang) ≡ true
init_kept true = refl
init_kept false = refl

pub init_leads : (at : RequestAt) (next : Stage) (gang : Bool) → gang_of at ≡ gang → next ≡ behind_init gang → is_kept (gang_of at) next ≡ true
init_leads at next gang is then = ap (λ g. is_kept g next) is ∙ ap (is_kept gang) then ∙ init_kept gang

init_stages : (gang due : Bool) → read_stages (behind_init gang) due + 1 ≤ told_cost + told_cost + 7
init_stages true due = omega arith
init_stages false due = omega arith

walk_most : (phase : Phase) → walk_left phase ≤ walk_share
walk_most Unread = omega arith
walk_most WalkOut = omega arith
walk_most (WalkFailed e) = omega arith
walk_most BodiesFound = omega arith

alone_most : (own : Own) → IsReadWith IsAlone own → reading_left own ≤ walk_share + body_share * bodies_max
alone_most Due h = absurd h
alone_most (Write w) h = absurd h
alone_most (Stored b) h = absurd h
alone_most (Read w) h = omega (arith, walk_most w.tree.read.phase, ap body_left h)
alone_most (Free w) h = absurd h
alone_most (Claim w) h = absurd h
alone_most (Found own) h = omega arith
alone_most Over h = absurd h

pub init_less : (old new : Own) (was next : Stage) (due : Bool) (gang : Bool) → old ≡ Due → IsReadWith IsAlone new → was ≡ ReadBpInit → next ≡ behind_init gang
    → reading_left new + read_stages next due + 1 ≤ reading_left old + read_stages was due
init_less old new was next due gang due_is alone is then =
    omega (arith, ap reading_left due_is, alone_most new alone, ap (λ s. read_stages s due) is, ap (λ s. read_stages s due) then, init_stages gang due)

-- ---- from one stage to a later one

pub stage_less : (old new : Own) (was now : Stage) (before after : Bool) (n a b : ℕ) → reading_left new ≤ reading_left old → read_stages was before ≡ a → read_stages now after ≡ b → b + n ≤ a
    → reading_left new + read_stages now after + n ≤ reading_left old + read_stages was before
stage_less old new was now before after n a b most x y less = omega (arith, most, x, y, less)

-- at the same stage
pub same_less : (old new : Own) (stage was : Stage) (due : Bool) (n : ℕ) → reading_left new + n ≤ reading_left old → was ≡ stage
    → reading_left new + read_stages stage due + n ≤ reading_left old + read_stages was due
same_less old new stage was due n less is = omega (arith, less, ap (λ s. read_stages s due) is)

-- ---- it stands at no other stage

pub read_known : (tops : List Top) (stage : Stage) (due : Bool) (own : Own) (block : Option Tree) → IsReadAtStage tops stage due own block → (stage ≡ ReadBpInit → ⊥) → (stage ≡ GangAssemble → ⊥)
    → (stage ≡ GangIssue → ⊥) → (stage ≡ Ready → ⊥) → (stage ≡ VdevIoStart → ⊥) → (stage ≡ VdevIoDone → ⊥) → (stage ≡ VdevIoAssess → ⊥) → (stage ≡ ChecksumVerify → ⊥)
    → (stage ≡ Done → ⊥) → ⊥
read_known tops ReadBpInit due own block h a b c d e f g i j = a refl
read_known tops GangAssemble due own block h a b c d e f g i j = b refl
read_known tops GangIssue due own block h a b c d e f g i j = c refl
read_known tops Ready due own block h a b c d e f g i j = d refl
read_known tops VdevIoStart due own block h a b c d e f g i j = e refl
read_known tops VdevIoDone due own block h a b c d e f g i j = f refl
read_known tops VdevIoAssess due own block h a b c d e f g i j = g refl
read_known tops ChecksumVerify due own block h a b c d e f g i j = i refl
read_known tops Done due own block h a b c d e f g i j = j refl
read_known tops _ due own block h a b c d e f g i j = h

-- ---- behind Ready, and up to Done

pub read_told : (next : Stage) → IsNext READ Ready next → next ≡ VdevIoStart
read_told next h = next_is (has READ) READ Ready VdevIoStart next (λ s. refl) h refl (lit< tt) refl

pub read_started : (next : Stage) → IsNext READ VdevIoStart next → next ≡ VdevIoDone
read_started next h = next_is (has READ) READ VdevIoStart VdevIoDone next (λ s. refl) h refl (lit< tt) refl

pub read_issued_all : (next : Stage) → IsNext READ VdevIoDone next → next ≡ VdevIoAssess
read_issued_all next h = next_is (has READ) READ VdevIoDone VdevIoAssess next (λ s. refl) h refl (lit< tt) refl

pub read_assessed : (next : Stage) → IsNext READ VdevIoAssess next → next ≡ ChecksumVerify
read_assessed next h = next_is (has READ) READ VdevIoAssess ChecksumVerify next (λ s. refl) h refl (lit< tt) refl

pub read_verified : (next : Stage) → IsNext READ ChecksumVerify next → next ≡ Done
read_verified next h = next_is (has READ) READ ChecksumVerify Done next (λ s. refl) h refl (lit< tt) refl

-- ---- the walk and the bodies are handed out

pub walks_still : (own now : Own) → IsReadWith IsWalking own → IsReadWith IsAlone now → ReadsOn HandsOutWalk own now → IsReadWith IsWalking now
walks_still own now h alone on =
    read_both IsAlone HasFewBodies IsWalking now (λ w a f. (a, f)) alone
    (read_map IsWalking HasFewBodies HandsOutWalk own now (λ v w k hands. subst (λ bs. length bs ≤ bodies_max) (sym hands.bodies) k.1) h on)

pub walking_less : (own now : Own) (P : OwnRead → Type 0) → IsReadingWith P own → IsReadWith IsAlone now → ReadsOn HandsOutWalk own now → reading_left now + (walk_max 8 + 1) ≤ reading_left own
walking_less own now P reading alone on =
    reading_less (λ v w. HandsOutWalk v w × IsAlone w) P (walk_max 8 + 1) own now (λ v w p h. walk_out_less v w h.1 h.0) reading (both_after HandsOutWalk IsAlone own now alone on)

pub issues_still : (own now : Own) → IsReadWith IsIssuing own → IsReadWith IsAlone now → ReadsOn HandsOutBody own now → IsReadWith IsIssuing now
issues_still own now h alone on =
    read_both IsAlone (λ w. HasFewBodies w × HasWalkBegun w) IsIssuing now (λ w a f. (a, f.0, f.1)) alone
    (read_map IsIssuing (λ w. HasFewBodies w × HasWalkBegun w) HandsOutBody own now
    (λ v w k hands. (subst (λ bs. length bs ≤ bodies_max) (sym hands.bodies) k.1, subst HasBegun (sym hands.phase) k.2)) h on)

pub issuing_less : (own now : Own) → IsReadingWith (λ w. Unit {0}) own → IsReadWith IsIssuing own → IsReadWith IsAlone now → ReadsOn HandsOutBody own now
    → reading_left now + (copies_max + 1) ≤ reading_left own
issuing_less own now reading h alone on =
    reading_less (λ v w. HandsOutBody v w × IsAlone w) HasFewBodies (copies_max + 1) own now (λ v w few x. body_out_less v w x.1 few x.0)
    (reading_and HasFewBodies own reading (with_map IsIssuing HasFewBodies own (λ w k. k.1) h)) (both_after HandsOutBody IsAlone own now alone on)

-- ---- it goes back

pub due_again : (due : Bool) → (due ≡ false → ⊥) → due ≡ true
due_again true h = refl
due_again false h = absurd (h refl)

pub again_less_by : (old new : Own) (was stage : Stage) (due : Bool) → reading_left new + 3 ≤ reading_left old → was ≡ VdevIoAssess → stage ≡ VdevIoStart
    → reading_left new + read_stages stage true + 1 ≤ reading_left old + read_stages was due
again_less_by old new was stage due less is then = omega (arith, less, ap (λ s. read_stages s due) is, ap (λ s. read_stages s true) then)

-- ---- nothing more is to be read

pub none_more : (w : OwnRead) → HasHandedAll w → IsMoreToRead w → ⊥
none_more w all (Walk, more, shows) = subst (λ (p : Phase). AreHandedOut p w.tree.read.bodies w.tree.read.results) shows.0 all
none_more w all (Body b, more, shows) =
    let many : length w.tree.read.bodies ≤ length w.tree.read.results = subst (λ (p : Phase). AreHandedOut p w.tree.read.bodies w.tree.read.results) shows.0 all in
    omega (arith, many, shows.1, shows.2)
none_more w all (Wait, more, shows) = absurd more
none_more w all (End, more, shows) = absurd more

pub none_more_own : (own : Own) → IsReadWith HasReadAll own → IsReadingWith IsMoreToRead own → ⊥
none_more_own Due h m = m
none_more_own (Write w) h m = m
none_more_own (Stored b) h m = m
none_more_own (Read w) h m = none_more w h.0 m
none_more_own (Free w) h m = m
none_more_own (Claim w) h m = m
none_more_own (Found own) h m = m
none_more_own Over h m = m

-- ---- it came to its end

pub ended_less : (old new : Own) (stage : Stage) (due : Bool) → HasFound new → reading_left new + read_stages stage due + 0 ≤ reading_left old + read_stages stage due
ended_less old new stage due f = omega (arith, reading_found new f)

pub ended_pays : (own : Own) (stage : Stage) (due : Bool) → stage ≡ Done → told_cost ≤ reading_left own + read_stages stage due
ended_pays own stage due is = omega (arith, ap (λ s. read_stages s due) is)

-- ---- an operation on a leaf is handed out

pub any_read : (P : OwnRead → Type 0) (own : Own) → IsReadWith P own → IsReadWith (λ w. Unit {0}) own
any_read P own h = with_map P (λ w. Unit {0}) own (λ w p. tt) h
