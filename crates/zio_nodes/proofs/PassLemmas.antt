-- A node's pass: it stays where operations on leaves are handed out and waited for.
use Rattle.std.proofs.Common.{◌≡◌, ◌∙◌, ap, refl, subst, sym, false, inl, inr, true, None, Option, Some, Result, Ok, Err}
use Rattle.std.specs.Prelude.{IfOk}
use Rattle.zio_masks.specs.declared.stage.Stage.{Stage}
use Rattle.zio_masks.specs.declared.stage.Stage.TheVariants.{
  Start,
  ReadBpInit,
  WriteBpInit,
  FreeBpInit,
  IssueAsync,
  WriteCompress,
  ChecksumGenerate,
  GangAssemble,
  GangIssue,
  DvaAllocate,
  DvaFree,
  DvaClaim,
  Ready,
  VdevIoStart,
  VdevIoDone,
  VdevIoAssess,
  ChecksumVerify,
  Done,
}
use Rattle.zio_stages.specs.ReadCounts.{AsksMore, HearsBody, IsAskedMore, IsFreshBody, MayBegin, StartsBody}
use Rattle.zio_stages.specs.RequestClaims.{IsClaimingWith}
use Rattle.zio_stages.specs.RequestCounts.{second_of}
use Rattle.zio_stages.specs.RequestFrees.{IsFreeingWith}
use Rattle.zio_stages.specs.RequestReads.{IsAlone, IsReadWith, ReadsOn}
use Rattle.zio_stages.specs.RequestWrites.{IsWriteWith}
use Rattle.zio_stages.specs.declared.leaf.LeafWork.{LeafWork}
use Rattle.zio_stages.specs.declared.own_claim.OwnClaim.{OwnClaim}
use Rattle.zio_stages.specs.declared.own_free.OwnFree.{OwnFree}
use Rattle.zio_stages.specs.declared.own_read.BodyIo.{BodyIo}
use Rattle.zio_stages.specs.declared.own_read.OwnRead.{OwnRead}
use Rattle.zio_stages.specs.declared.own_write.OwnWrite.{OwnWrite}
use Rattle.zio_stages.specs.declared.request_node.Own.{Own}
use Rattle.zio_stages.specs.declared.request_node.Own.TheVariants.{Claim, Due, Found, Free, Over, Read, Stored, Write}
use Rattle.zio_nodes.specs.SealedMoves.{Move}
use Rattle.zio_nodes.specs.Nodes.{is_tree, moved}
use Rattle.zio_nodes.specs.Passes.{IsInPassOf, KeepsPass, KeepsPassAt, LeavesInPassOf}
use Rattle.zio_nodes.specs.StageMoves.{is_second_of, retries_body}
use Rattle.zio_nodes.specs.declared.heads_at.HeadsAt.{HeadsAt}
use Rattle.zio_nodes.specs.declared.leaf_at.LeafAt.{LeafAt}
use Rattle.zio_nodes.specs.declared.node.Node.{Node}
use Rattle.zio_nodes.specs.declared.node.Node.TheVariants.{Copies, Empty, Heads, Leaf, Part, Request, Tree}
use Rattle.zio_nodes.specs.declared.turn.Turn.{Turn}
use Rattle.zio_nodes.specs.declared.turn.Turn.TheVariants.{Ask as Asked, End as Ended, Grow as Grown, Leaf as Handed, Next as On, Ready as Told, Wait as Waiting}

-- no operation on a leaf is handed out or waited for there
abbrev pub IsApart : Stage → Type 0
IsApart VdevIoStart = ⊥
IsApart VdevIoDone = ⊥
IsApart _ = Unit {0}

apart_at : (stage : Stage) (node : Node) (move : Move Node) → IsApart stage → KeepsPassAt stage node move
apart_at Start node move apart = tt
apart_at ReadBpInit node move apart = tt
apart_at WriteBpInit node move apart = tt
apart_at FreeBpInit node move apart = tt
apart_at IssueAsync node move apart = tt
apart_at WriteCompress node move apart = tt
apart_at ChecksumGenerate node move apart = tt
apart_at GangAssemble node move apart = tt
apart_at GangIssue node move apart = tt
apart_at DvaAllocate node move apart = tt
apart_at DvaFree node move apart = tt
apart_at DvaClaim node move apart = tt
apart_at Ready node move apart = tt
apart_at VdevIoStart node move apart = absurd apart
apart_at VdevIoDone node move apart = absurd apart
apart_at VdevIoAssess node move apart = tt
apart_at ChecksumVerify node move apart = tt
apart_at Done node move apart = tt

-- a stage that is one of the others says nothing
pub other_stage : (stage at : Stage) (node : Node) (move : Move Node) → stage ≡ at → IsApart at → KeepsPassAt stage node move
other_stage stage at node move is apart = subst (λ (s : Stage). KeepsPassAt s node move) (sym is) (apart_at at node move apart)

pub other_turn : {E : Type 0} (stage at : Stage) (node after : Node) (result : Result Turn E) → stage ≡ at → IsApart at
    → IfOk result (λ turn. KeepsPassAt stage node (moved after turn))
other_turn stage at node after (Ok turn) is apart = other_stage stage at node (moved after turn) is apart
other_turn stage at node after (Err e) is apart = tt

-- it is in its pass, whatever stage it is
pub any_stage : (stage : Stage) (node : Node) (move : Move Node) → LeavesInPassOf node move → KeepsPassAt stage node move
any_stage Start node move keeps = tt
any_stage ReadBpInit node move keeps = tt
any_stage WriteBpInit node move keeps = tt
any_stage FreeBpInit node move keeps = tt
any_stage IssueAsync node move keeps = tt
any_stage WriteCompress node move keeps = tt
any_stage ChecksumGenerate node move keeps = tt
any_stage GangAssemble node move keeps = tt
any_stage GangIssue node move keeps = tt
any_stage DvaAllocate node move keeps = tt
any_stage DvaFree node move keeps = tt
any_stage DvaClaim node move keeps = tt
any_stage Ready node move keeps = tt
any_stage VdevIoStart node move keeps = keeps
any_stage VdevIoDone node move keeps = keeps
any_stage VdevIoAssess node move keeps = tt
any_stage ChecksumVerify node move keeps = tt
any_stage Done node move keeps = tt

in_pass : (node after : Node) (turn : Turn) → IsInPassOf node after → LeavesInPassOf node (moved after turn)
in_pass node after On keeps = keeps
in_pass node after (Waiting kind phase) keeps = keeps
in_pass node after (Grown child kind) keeps = keeps
in_pass node after (Asked at) keeps = keeps
in_pass node after (Handed op leaf bytes) keeps = keeps
in_pass node after (Told pointer) keeps = tt
in_pass node after (Ended outcome) keeps = tt

-- a node in the same pass as before has kept it
pub same_pass : (stage : Stage) (node after : Node) (turn : Turn) → IsInPassOf node after → KeepsPassAt stage node (moved after turn)
same_pass stage node after turn keeps = any_stage stage node (moved after turn) (in_pass node after turn keeps)

pub same_turn : {E : Type 0} (stage : Stage) (node after : Node) (result : Result Turn E) → IsInPassOf node after
    → IfOk result (λ turn. KeepsPassAt stage node (moved after turn))
same_turn stage node after (Ok turn) keeps = same_pass stage node after turn keeps
same_turn stage node after (Err e) keeps = tt

-- ---- of each kind

-- an operation on a leaf has one pass, and so has a walk
pub leaf_turn : (node : Node) (at now : LeafAt) (turn : Turn) → node ≡ Leaf at → KeepsPass node (moved (Leaf now) turn)
leaf_turn node at now turn is =
    subst (λ (n : Node). KeepsPass n (moved (Leaf now) turn)) (sym is) (same_pass at.stage (Leaf at) (Leaf now) turn refl)

pub heads_turn : {E : Type 0} (node : Node) (at now : HeadsAt) (result : Result Turn E) → node ≡ Heads at → IfOk result (λ turn. KeepsPass node (moved (Heads now) turn))
heads_turn node at now result is =
    subst (λ (n : Node). IfOk result (λ turn. KeepsPass n (moved (Heads now) turn))) (sym is) (same_turn at.stage (Heads at) (Heads now) result refl)

-- a tree that starts
pub tree_turn : {E : Type 0} (node after : Node) (result : Result Turn E) → is_tree node ≡ true → IfOk result (λ turn. KeepsPass node (moved after turn))
tree_turn (Tree at) after result is = other_turn Start Start (Tree at) after result refl tt
tree_turn (Leaf at) after result is = absurd (cc)
tree_turn (Copies at) after result is = absurd (cc)
tree_turn (Heads at) after result is = absurd (cc)
tree_turn (Part at) after result is = absurd (cc)
tree_turn (Request at) after result is = absurd (cc)
tree_turn Empty after result is = absurd (cc)

-- ---- of a request's own read

asked_in_pass : (leaf : Option LeafWork) (v w : Option BodyIo) → IsAskedMore leaf v w → retries_body w ≡ retries_body v
asked_in_pass leaf None None h = refl
asked_in_pass leaf None (Some d) h = absurd h
asked_in_pass leaf (Some b) None h = absurd h
asked_in_pass leaf (Some b) (Some d) h = h.1

fresh_in_pass : (b : Option BodyIo) → IsFreshBody b → retries_body b ≡ false
fresh_in_pass None h = absurd h
fresh_in_pass (Some b) h = h.1

begins_in_pass : (v w : OwnRead) → MayBegin v w → retries_body w.body ≡ retries_body v.body
begins_in_pass v w (inl same) = ap (λ (x : OwnRead). retries_body x.body) same
begins_in_pass v w (inr b) = fresh_in_pass w.body b.fresh ∙ sym (ap retries_body b.alone)

starts_in_pass : (leaf : Option LeafWork) (v w : OwnRead) → StartsBody leaf v w → retries_body w.body ≡ retries_body v.body
starts_in_pass leaf v w h = asked_in_pass leaf h.mid.body w.body h.asks.body ∙ begins_in_pass v h.mid h.begins

reads_in_pass : (P : OwnRead → OwnRead → Type 0) (v w : Own) → ((a b : OwnRead) → P a b → retries_body b.body ≡ retries_body a.body) → ReadsOn P v w
    → is_second_of w ≡ is_second_of v
reads_in_pass P (Read v) (Read w) f h = f v w h
reads_in_pass P (Read v) Due f h = absurd h
reads_in_pass P (Read v) (Write w) f h = absurd h
reads_in_pass P (Read v) (Stored w) f h = absurd h
reads_in_pass P (Read v) (Free w) f h = absurd h
reads_in_pass P (Read v) (Claim w) f h = absurd h
reads_in_pass P (Read v) (Found w) f h = absurd h
reads_in_pass P (Read v) Over f h = absurd h
reads_in_pass P Due w f h = ap is_second_of h
reads_in_pass P (Write v) w f h = ap is_second_of h
reads_in_pass P (Stored v) w f h = ap is_second_of h
reads_in_pass P (Free v) w f h = ap is_second_of h
reads_in_pass P (Claim v) w f h = ap is_second_of h
reads_in_pass P (Found v) w f h = ap is_second_of h
reads_in_pass P Over w f h = ap is_second_of h

-- the next operation of its body was handed out
pub read_in_pass : (leaf : Option LeafWork) (v w : Own) → ReadsOn (StartsBody leaf) v w → is_second_of w ≡ is_second_of v
read_in_pass leaf v w h = reads_in_pass (StartsBody leaf) v w (λ a b. starts_in_pass leaf a b) h

-- what an operation on a leaf read was heard
pub leaf_in_pass : (v w : Own) → ReadsOn (AsksMore None) v w → is_second_of w ≡ is_second_of v
leaf_in_pass v w h = reads_in_pass (AsksMore None) v w (λ a b asks. asked_in_pass None a.body b.body asks.body) h

-- a body that a child read was heard
pub body_in_pass : (v w : Own) → ReadsOn HearsBody v w → is_second_of w ≡ is_second_of v
body_in_pass v w h = reads_in_pass HearsBody v w (λ a b hears. ap retries_body hears.body) h

-- the walk was heard, and no body is read by the node itself
from_walk : (P : OwnRead → OwnRead → Type 0) (own : OwnRead) (w : Own) → IsAlone own → IsReadWith IsAlone w → ReadsOn P (Read own) w
    → is_second_of w ≡ is_second_of (Read own)
from_walk P own (Read b) alone also goes = ap retries_body also ∙ sym (ap retries_body alone)
from_walk P own Due alone also goes = absurd goes
from_walk P own (Write w) alone also goes = absurd goes
from_walk P own (Stored w) alone also goes = absurd goes
from_walk P own (Free w) alone also goes = absurd goes
from_walk P own (Claim w) alone also goes = absurd goes
from_walk P own (Found w) alone also goes = absurd goes
from_walk P own Over alone also goes = absurd goes

pub walk_in_pass : (P : OwnRead → OwnRead → Type 0) (v w : Own) (own : OwnRead) → v ≡ Read own → IsAlone own → IsReadWith IsAlone w → ReadsOn P v w
    → is_second_of w ≡ is_second_of v
walk_in_pass P v w own is alone also goes =
    subst (λ (o : Own). ReadsOn P o w → is_second_of w ≡ is_second_of o) (sym is) (from_walk P own w alone also) goes

-- ---- of a request's own walk

free_once : (P : OwnFree → Type 0) (w : Own) → IsFreeingWith P w → is_second_of w ≡ false
free_once P (Free w) h = refl
free_once P Due h = absurd h
free_once P (Write w) h = absurd h
free_once P (Stored w) h = absurd h
free_once P (Read w) h = absurd h
free_once P (Claim w) h = absurd h
free_once P (Found w) h = absurd h
free_once P Over h = absurd h

pub free_in_pass : (P : OwnFree → Type 0) (v w : Own) (own : OwnFree) → v ≡ Free own → IsFreeingWith P w → is_second_of w ≡ is_second_of v
free_in_pass P v w own is h = free_once P w h ∙ sym (ap is_second_of is)

claim_once : (P : OwnClaim → Type 0) (w : Own) → IsClaimingWith P w → is_second_of w ≡ false
claim_once P (Claim w) h = refl
claim_once P Due h = absurd h
claim_once P (Write w) h = absurd h
claim_once P (Stored w) h = absurd h
claim_once P (Read w) h = absurd h
claim_once P (Free w) h = absurd h
claim_once P (Found w) h = absurd h
claim_once P Over h = absurd h

pub claim_in_pass : (P : OwnClaim → Type 0) (v w : Own) (own : OwnClaim) → v ≡ Claim own → IsClaimingWith P w → is_second_of w ≡ is_second_of v
claim_in_pass P v w own is h = claim_once P w h ∙ sym (ap is_second_of is)

-- ---- of a request's own write

second_written : (P : OwnWrite → Type 0) (v : Own) → IsWriteWith P v → is_second_of v ≡ second_of v
second_written P (Write w) h = refl
second_written P Due h = absurd h
second_written P (Stored w) h = absurd h
second_written P (Read w) h = absurd h
second_written P (Free w) h = absurd h
second_written P (Claim w) h = absurd h
second_written P (Found w) h = absurd h
second_written P Over h = absurd h

pub write_in_pass : (P Q : OwnWrite → Type 0) (v w : Own) → IsWriteWith P v → IsWriteWith Q w → second_of w ≡ second_of v → is_second_of w ≡ is_second_of v
write_in_pass P Q v w h k same = second_written Q w k ∙ same ∙ sym (second_written P v h)
