-- What a stage allows: for whom it waits, whom it hands out, and when it goes back.
use Rattle.std.proofs.Common.{◌≡◌, ◌∙◌, ◌∷◌, [], List, Option, Some, None, ◌+◌, ◌<◌, ◌≤◌, length, true, false, refl, sym, ap, subst, arith, length-append}
use Rattle.zio_types.specs.declared.place.Top.{Top}
use Rattle.zio_types.specs.declared.request.ChildKind.{ChildKind}
use Rattle.zio_types.specs.declared.request.Phase.{Phase}
use Rattle.zio_masks.specs.declared.stage.Stage.{Stage}
use Rattle.zio_masks.specs.declared.stage.Stage.TheVariants.{DvaAllocate, Start, VdevIoAssess, VdevIoDone}
use Rattle.zio_parts.specs.declared.members.Member.{Member}
use Rattle.zio_parts.specs.declared.members.Member.TheVariants.{Out as MemberOut}
use Rattle.zio_stages.specs.PartNodes.{IsMemberUnder, with_member}
use Rattle.zio_stages.specs.ReadCounts.{BeginsAgain, IsAgain}
use Rattle.zio_stages.specs.RequestCounts.{members_of, second_of}
use Rattle.zio_stages.specs.RequestReads.{ReadsOn}
use Rattle.zio_stages.specs.RequestWrites.{IsWriteWith}
use Rattle.zio_stages.specs.RequestReads.{IsReadingWith}
use Rattle.zio_stages.specs.declared.own_read.BodyIo.{BodyIo}
use Rattle.zio_stages.specs.declared.own_read.OwnRead.{OwnRead}
use Rattle.zio_stages.specs.declared.own_write.OwnWrite.{OwnWrite}
use Rattle.zio_stages.specs.declared.part_node.PartNode.{PartNode}
use Rattle.zio_stages.specs.declared.request_node.Own.{Own}
use Rattle.zio_stages.specs.declared.request_node.Own.TheVariants.{Claim, Due, Found, Free, Over, Read, Stored, Write}
use Rattle.zio_nodes.specs.StageMoves.{GoesBack, HasKidsLeft, HasMembersLeft, IsLeafDue, grows_at, is_last_pass, is_second_of, retries_body, stage_of, stalls_at}
use Rattle.zio_nodes.specs.declared.node.Node.{Node}

-- ---- it waits, or hands out

pub stalls_so : (at stage : Stage) (kind : ChildKind) (phase : Phase) → at ≡ stage → stalls_at stage kind phase ≡ true → stalls_at at kind phase ≡ true
stalls_so at stage kind phase is h = ap (λ (s : Stage). stalls_at s kind phase) is ∙ h

-- no node asks for places where it starts
pub starts_not : DvaAllocate ≡ Start → ⊥
starts_not e = cc

pub grows_so : (node : Node) (stage : Stage) (kind : ChildKind) → stage_of node ≡ stage → grows_at stage kind ≡ true → (stage ≡ DvaAllocate → ⊥)
    → (stage ≡ Start → ⊥) → (grows_at (stage_of node) kind ≡ true) × HasMembersLeft node × HasKidsLeft node
grows_so node stage kind is h other behind =
    (ap (λ (s : Stage). grows_at s kind) is ∙ h, λ there. absurd (other (sym is ∙ there)), λ there. absurd (behind (sym is ∙ there)))

-- ---- members

pub one_more_few : (old new : List Member) → new ≡ with_member old → length new ≤ 3 → length old < 3
one_more_few old new e few =
    let longer : length new ≡ length old + 1 = ap length e ∙ length-append old (MemberOut ∷ []) in
    omega (arith, longer, few)

pub few_under : (own : Own) (child : PartNode) → IsWriteWith (λ (w : OwnWrite). IsMemberUnder w.work.own.part child) own → length (members_of own) ≤ 3
few_under Due child h = absurd h
few_under (Write w) child h = h.few
few_under (Stored b) child h = absurd h
few_under (Read w) child h = absurd h
few_under (Free w) child h = absurd h
few_under (Claim w) child h = absurd h
few_under (Found own) child h = absurd h
few_under Over child h = absurd h

-- ---- it goes back

pub goes_back : (tops : List Top) (node after : Node) → stage_of node ≡ VdevIoDone → IsLeafDue tops after → GoesBack (stage_of node) node after
goes_back tops node after is due = subst (λ (s : Stage). GoesBack s node after) (sym is) (tops, due)

pub goes_again : (node after : Node) → stage_of node ≡ VdevIoAssess → is_last_pass node ≡ false → is_last_pass after ≡ true → GoesBack (stage_of node) node after
goes_again node after is was now = subst (λ (s : Stage). GoesBack s node after) (sym is) (was, now)

-- the pass of a block's own write
pub write_pass : (P : OwnWrite → Type 0) (own : Own) → IsWriteWith P own → is_second_of own ≡ second_of own
write_pass P Due h = absurd h
write_pass P (Write w) h = refl
write_pass P (Stored b) h = absurd h
write_pass P (Read w) h = absurd h
write_pass P (Free w) h = absurd h
write_pass P (Claim w) h = absurd h
write_pass P (Found own) h = absurd h
write_pass P Over h = absurd h

-- and of a body that a read reads by itself
body_again : (b d : Option BodyIo) → IsAgain b d → (retries_body b ≡ false) × (retries_body d ≡ true)
body_again None d h = absurd h
body_again (Some b) None h = absurd h
body_again (Some b) (Some d) h = (h.1, h.2)

pub read_again : (own now : Own) → IsReadingWith (λ (w : OwnRead). Unit {0}) own → ReadsOn BeginsAgain own now → (is_second_of own ≡ false) × (is_second_of now ≡ true)
read_again Due now h on = absurd h
read_again (Write w) now h on = absurd h
read_again (Stored b) now h on = absurd h
read_again (Read v) Due h on = absurd on
read_again (Read v) (Write w) h on = absurd on
read_again (Read v) (Stored b) h on = absurd on
read_again (Read v) (Read w) h on = body_again v.body w.body on.body
read_again (Read v) (Free w) h on = absurd on
read_again (Read v) (Claim w) h on = absurd on
read_again (Read v) (Found own) h on = absurd on
read_again (Read v) Over h on = absurd on
read_again (Free w) now h on = absurd h
read_again (Claim w) now h on = absurd h
read_again (Found own) now h on = absurd h
read_again Over now h on = absurd h
