-- The next stage of a mask is the next of a node's pipeline.
use Rattle.std.proofs.Common.{◌≡◌, ℕ, ◌<◌, ◌≤◌, List, Bool, true, false, not, Option, ◌&&◌, ◌||◌, refl, sym, ap, subst, ◌∙◌, arith}
use Rattle.std.specs.Prelude.{IsTrue}
use Rattle.zio_types.specs.declared.request.Kind.{Kind}
use Rattle.zio_types.specs.declared.request.Kind.TheVariants.{Null as NullKind, Read as ReadKind, Write as WriteKind, Free as FreeKind, Claim as ClaimKind}
use Rattle.zio_masks.specs.Stages.{IsNext, has, is_gang_stage, number_of}
use Rattle.zio_masks.specs.declared.pipeline.Pipeline.{Pipeline}
use Rattle.zio_masks.specs.declared.pipeline.TheConstants.{CLAIM, FREE, INTERLOCK, NULL, READ, WRITE}
use Rattle.zio_masks.specs.declared.stage.Stage.{Stage}
use Rattle.zio_masks.specs.declared.stage.Stage.TheVariants.{Start, ReadBpInit, WriteBpInit, FreeBpInit, IssueAsync, WriteCompress, ChecksumGenerate, GangAssemble, GangIssue, DvaAllocate, DvaFree, DvaClaim, Ready, VdevIoStart, VdevIoDone, VdevIoAssess, ChecksumVerify, Done}
use Rattle.zio_script.specs.Requests.{kind_of}
use Rattle.zio_script.specs.declared.script.Work.{Work}
use Rattle.zio_script.specs.declared.script.Work.TheVariants.{Null, Read, Write, Free, Claim}
use Rattle.zio_gang.specs.declared.tree.Tree.{Tree}
use Rattle.zio_stages.specs.RequestKinds.{has_gang_stages, is_gang_tree, points_to_gang}
use Rattle.zio_nodes.specs.RequestAts.{is_kept, is_up_to_issue, masked, takes}
use Rattle.zio_nodes.specs.StageMoves.{IsNextOf, takes_stage}
use Rattle.zio_nodes.specs.declared.node.Node.TheVariants.{Request}
use Rattle.zio_nodes.specs.declared.request_at.RequestAt.{RequestAt}

-- the two have the same stages behind this one
pub next_of : (mask : Pipeline) (takes_it : Stage → Bool) (from stage next : Stage) → from ≡ stage
    → ((s : Stage) → number_of stage < number_of s → has mask s ≡ takes_it s) → IsNext mask stage next → IsNextOf takes_it from next
next_of mask takes_it from stage next is same h = subst (λ (s : Stage). IsNextOf takes_it s next) (sym is) there
  where
    there : IsNextOf takes_it stage next
    there = record {
      stands = subst IsTrue (same next h.later) h.stands;
      later = h.later;
      first = λ other it lt. h.first other (subst IsTrue (sym (same other lt)) it) lt;
    }

-- ---- what GangIssue leaves

or_true : (a b : Bool) → a || (b || true) ≡ true
or_true true b = refl
or_true false true = refl
or_true false false = refl

or_first : (a b : Bool) → a ≡ true → a || b ≡ true
or_first true b e = refl
or_first false b e = absurd (cc)

or_only : (a b c : Bool) → b ≡ false → c ≡ false → a || (b || c) ≡ true → a ≡ true
or_only true b c x y e = refl
or_only false true c x y e = absurd (cc)
or_only false false true x y e = absurd (cc)
or_only false false false x y e = absurd (cc)

both_true : (a b : Bool) → a ≡ true → b ≡ true → a && b ≡ true
both_true true b x y = y
both_true false b x y = absurd (cc)

first_true : (a b : Bool) → a && b ≡ true → a ≡ true
first_true true b e = refl
first_true false b e = e

second_true : (a b : Bool) → a && b ≡ true → b ≡ true
second_true true b e = e
second_true false b e = absurd (cc)

-- of a plain block's pipeline all
pub plain_kept : (gang : Bool) (s : Stage) → gang ≡ false → is_kept gang s ≡ true
plain_kept gang s plain = ap (λ g. is_kept g s) plain ∙ or_true (has INTERLOCK s) (is_up_to_issue s)

-- of any the last two
pub last_kept : (gang : Bool) (s to : Stage) → s ≡ to → has INTERLOCK to ≡ true → is_kept gang s ≡ true
last_kept gang s to is last = ap (is_kept gang) is ∙ or_first (has INTERLOCK to) (is_up_to_issue to || not gang) last

pub up_to_kept : (gang : Bool) (s to : Stage) → s ≡ to → is_up_to_issue to ≡ true → is_kept gang s ≡ true
up_to_kept gang s to is before = ap (is_kept gang) is ∙ up (has INTERLOCK to) (is_up_to_issue to) before
  where
    up : (a b : Bool) → b ≡ true → a || (b || not gang) ≡ true
    up true b e = refl
    up false true e = refl
    up false false e = absurd (cc)

behind_issue_none : (s : Stage) → number_of GangIssue < number_of s → is_up_to_issue s ≡ false
behind_issue_none Start lt = absurd (omega (arith, lt))
behind_issue_none ReadBpInit lt = absurd (omega (arith, lt))
behind_issue_none WriteBpInit lt = absurd (omega (arith, lt))
behind_issue_none FreeBpInit lt = absurd (omega (arith, lt))
behind_issue_none IssueAsync lt = absurd (omega (arith, lt))
behind_issue_none WriteCompress lt = absurd (omega (arith, lt))
behind_issue_none ChecksumGenerate lt = absurd (omega (arith, lt))
behind_issue_none GangAssemble lt = absurd (omega (arith, lt))
behind_issue_none GangIssue lt = absurd (omega (arith, lt))
behind_issue_none DvaAllocate lt = refl
behind_issue_none DvaFree lt = refl
behind_issue_none DvaClaim lt = refl
behind_issue_none Ready lt = refl
behind_issue_none VdevIoStart lt = refl
behind_issue_none VdevIoDone lt = refl
behind_issue_none VdevIoAssess lt = refl
behind_issue_none ChecksumVerify lt = refl
behind_issue_none Done lt = refl

-- each mask has the last two
last_masked : (k : Kind) (gang : Bool) (s : Stage) → has INTERLOCK s ≡ true → masked k gang s ≡ true
last_masked k gang Start e = absurd (cc)
last_masked k gang ReadBpInit e = absurd (cc)
last_masked k gang WriteBpInit e = absurd (cc)
last_masked k gang FreeBpInit e = absurd (cc)
last_masked k gang IssueAsync e = absurd (cc)
last_masked k gang WriteCompress e = absurd (cc)
last_masked k gang ChecksumGenerate e = absurd (cc)
last_masked k gang GangAssemble e = absurd (cc)
last_masked k gang GangIssue e = absurd (cc)
last_masked k gang DvaAllocate e = absurd (cc)
last_masked k gang DvaFree e = absurd (cc)
last_masked k gang DvaClaim e = absurd (cc)
last_masked NullKind gang Ready e = refl
last_masked ReadKind gang Ready e = refl
last_masked WriteKind gang Ready e = refl
last_masked FreeKind gang Ready e = refl
last_masked ClaimKind gang Ready e = refl
last_masked k gang VdevIoStart e = absurd (cc)
last_masked k gang VdevIoDone e = absurd (cc)
last_masked k gang VdevIoAssess e = absurd (cc)
last_masked k gang ChecksumVerify e = absurd (cc)
last_masked NullKind gang Done e = refl
last_masked ReadKind gang Done e = refl
last_masked WriteKind gang Done e = refl
last_masked FreeKind gang Done e = refl
last_masked ClaimKind gang Done e = refl

-- ---- the gang stages

no_gang : (x gang : Bool) → x ≡ (x || (gang && false))
no_gang true gang = refl
no_gang false true = refl
no_gang false false = refl

-- behind them it is all one
pub behind_gang : (mask : Pipeline) (gang : Bool) (s : Stage) → number_of GangIssue < number_of s → has mask s ≡ (has mask s || (gang && is_gang_stage s))
behind_gang mask gang Start lt = absurd (omega (arith, lt))
behind_gang mask gang ReadBpInit lt = absurd (omega (arith, lt))
behind_gang mask gang WriteBpInit lt = absurd (omega (arith, lt))
behind_gang mask gang FreeBpInit lt = absurd (omega (arith, lt))
behind_gang mask gang IssueAsync lt = absurd (omega (arith, lt))
behind_gang mask gang WriteCompress lt = absurd (omega (arith, lt))
behind_gang mask gang ChecksumGenerate lt = absurd (omega (arith, lt))
behind_gang mask gang GangAssemble lt = absurd (omega (arith, lt))
behind_gang mask gang GangIssue lt = absurd (omega (arith, lt))
behind_gang mask gang DvaAllocate lt = no_gang (has mask DvaAllocate) gang
behind_gang mask gang DvaFree lt = no_gang (has mask DvaFree) gang
behind_gang mask gang DvaClaim lt = no_gang (has mask DvaClaim) gang
behind_gang mask gang Ready lt = no_gang (has mask Ready) gang
behind_gang mask gang VdevIoStart lt = no_gang (has mask VdevIoStart) gang
behind_gang mask gang VdevIoDone lt = no_gang (has mask VdevIoDone) gang
behind_gang mask gang VdevIoAssess lt = no_gang (has mask VdevIoAssess) gang
behind_gang mask gang ChecksumVerify lt = no_gang (has mask ChecksumVerify) gang
behind_gang mask gang Done lt = no_gang (has mask Done) gang

-- ---- a request's

-- whether it has them
abbrev pub gang_of : RequestAt → Bool
gang_of at = has_gang_stages at.node.waiting.request.work at.node.waiting.block

abbrev kind_in : RequestAt → Kind
kind_in at = kind_of at.node.waiting.request.work

-- by the stages that its kind takes
pub leads_by : (at : RequestAt) (kind : Kind) (mask : Pipeline) (stage next : Stage) → kind_in at ≡ kind → at.stage ≡ stage
    → ((s : Stage) → number_of stage < number_of s → has mask s ≡ masked kind (gang_of at) s) → is_kept (gang_of at) next ≡ true → IsNext mask stage next
    → IsNextOf (takes_stage (Request at)) at.stage next
leads_by at kind mask stage next is stands same kept h = subst (λ (s : Stage). IsNextOf (takes_stage (Request at)) s next) (sym stands) there
  where
    as_kind : (s : Stage) → takes (kind_in at) (gang_of at) s ≡ takes kind (gang_of at) s
    as_kind s = ap (λ (k : Kind). takes k (gang_of at) s) is

    there : IsNextOf (takes_stage (Request at)) stage next
    there = record {
      stands = as_kind next ∙ both_true (masked kind (gang_of at) next) (is_kept (gang_of at) next) (sym (same next h.later) ∙ h.stands) kept;
      later = h.later;
      first = λ other it lt.
          h.first other (same other lt ∙ first_true (masked kind (gang_of at) other) (is_kept (gang_of at) other) (sym (as_kind other) ∙ it)) lt;
    }

plain_write : (w : Work) (block : Option Tree) → kind_of w ≡ WriteKind → has_gang_stages w block ≡ false
plain_write Null block e = absurd (cc)
plain_write (Read name prio) block e = absurd (cc)
plain_write (Write name sum copies prio body) block e = refl
plain_write (Free name) block e = absurd (cc)
plain_write (Claim name pointer) block e = absurd (cc)

plain_null : (w : Work) (block : Option Tree) → kind_of w ≡ NullKind → has_gang_stages w block ≡ false
plain_null Null block e = refl
plain_null (Read name prio) block e = absurd (cc)
plain_null (Write name sum copies prio body) block e = absurd (cc)
plain_null (Free name) block e = absurd (cc)
plain_null (Claim name pointer) block e = absurd (cc)

pub write_leads : (at : RequestAt) (stage next : Stage) → kind_in at ≡ WriteKind → at.stage ≡ stage → IsNext WRITE stage next
    → IsNextOf (takes_stage (Request at)) at.stage next
write_leads at stage next is stands h =
    leads_by at WriteKind WRITE stage next is stands (λ s lt. refl) (plain_kept (gang_of at) next (plain_write at.node.waiting.request.work at.node.waiting.block is)) h

pub null_leads : (at : RequestAt) (stage next : Stage) → kind_in at ≡ NullKind → at.stage ≡ stage → IsNext NULL stage next
    → IsNextOf (takes_stage (Request at)) at.stage next
null_leads at stage next is stands h =
    leads_by at NullKind NULL stage next is stands (λ s lt. refl) (plain_kept (gang_of at) next (plain_null at.node.waiting.request.work at.node.waiting.block is)) h

-- behind the gang stages
behind : (mask : Pipeline) (gang : Bool) (stage : Stage) → number_of GangIssue ≤ number_of stage
    → (s : Stage) → number_of stage < number_of s → has mask s ≡ (has mask s || (gang && is_gang_stage s))
behind mask gang stage past s lt = behind_gang mask gang s (omega (arith, past, lt))

pub read_leads : (at : RequestAt) (stage next : Stage) → kind_in at ≡ ReadKind → at.stage ≡ stage
    → number_of GangIssue ≤ number_of stage → is_kept (gang_of at) next ≡ true → IsNext READ stage next → IsNextOf (takes_stage (Request at)) at.stage next
read_leads at stage next is stands past kept h = leads_by at ReadKind READ stage next is stands (behind READ (gang_of at) stage past) kept h

pub free_leads : (at : RequestAt) (stage next : Stage) → kind_in at ≡ FreeKind → at.stage ≡ stage
    → number_of GangIssue ≤ number_of stage → is_kept (gang_of at) next ≡ true → IsNext FREE stage next → IsNextOf (takes_stage (Request at)) at.stage next
free_leads at stage next is stands past kept h = leads_by at FreeKind FREE stage next is stands (behind FREE (gang_of at) stage past) kept h

pub claim_leads : (at : RequestAt) (stage next : Stage) → kind_in at ≡ ClaimKind → at.stage ≡ stage
    → number_of GangIssue ≤ number_of stage → is_kept (gang_of at) next ≡ true → IsNext CLAIM stage next → IsNextOf (takes_stage (Request at)) at.stage next
claim_leads at stage next is stands past kept h = leads_by at ClaimKind CLAIM stage next is stands (behind CLAIM (gang_of at) stage past) kept h

-- by its own mask
pub mask_leads : (at : RequestAt) (mask : Pipeline) (stage next : Stage) → at.stage ≡ stage
    → ((s : Stage) → has mask s ≡ masked (kind_in at) (gang_of at) s) → is_kept (gang_of at) next ≡ true → IsNext mask stage next
    → IsNextOf (takes_stage (Request at)) at.stage next
mask_leads at mask stage next stands same kept h = leads_by at (kind_in at) mask stage next refl stands (λ s lt. same s) kept h

-- ---- with the gang stages

-- at the first of them, where it has them
pub gang_leads : (at : RequestAt) (kind : Kind) (own mask : Pipeline) (stage next : Stage) → kind_in at ≡ kind → at.stage ≡ stage
    → gang_of at ≡ true → ((s : Stage) → masked kind (gang_of at) s ≡ (has own s || (gang_of at && is_gang_stage s)))
    → ((s : Stage) → has mask s ≡ (has own s || is_gang_stage s)) → is_kept (gang_of at) next ≡ true → IsNext mask stage next
    → IsNextOf (takes_stage (Request at)) at.stage next
gang_leads at kind own mask stage next is stands gang both masks kept h =
    leads_by at kind mask stage next is stands (λ s lt. masks s ∙ ap (λ g. has own s || (g && is_gang_stage s)) (sym gang) ∙ sym (both s)) kept h

-- at the second and behind it a gang goes on to the last two
pub cut_leads : (at : RequestAt) (stage next : Stage) → at.stage ≡ stage → gang_of at ≡ true → number_of GangIssue ≤ number_of stage → IsNext INTERLOCK stage next
    → IsNextOf (takes_stage (Request at)) at.stage next
cut_leads at stage next stands gang past h = subst (λ (s : Stage). IsNextOf (takes_stage (Request at)) s next) (sym stands) there
  where
    there : IsNextOf (takes_stage (Request at)) stage next
    there = record {
      stands = both_true (masked (kind_in at) (gang_of at) next) (is_kept (gang_of at) next) (last_masked (kind_in at) (gang_of at) next h.stands)
          (or_first (has INTERLOCK next) (is_up_to_issue next || not (gang_of at)) h.stands);
      later = h.later;
      first = λ other it lt.
          h.first other (or_only (has INTERLOCK other) (is_up_to_issue other) (not (gang_of at)) (behind_issue_none other (omega (arith, past, lt))) (ap not gang)
          (second_true (masked (kind_in at) (gang_of at) other) (is_kept (gang_of at) other) it)) lt;
    }

pub gang_of_read : (w : Work) (block : Option Tree) → kind_of w ≡ ReadKind → has_gang_stages w block ≡ is_gang_tree block
gang_of_read Null block e = absurd (cc)
gang_of_read (Read name prio) block e = refl
gang_of_read (Write name sum copies prio body) block e = absurd (cc)
gang_of_read (Free name) block e = absurd (cc)
gang_of_read (Claim name pointer) block e = absurd (cc)

pub gang_of_free : (w : Work) (block : Option Tree) → kind_of w ≡ FreeKind → has_gang_stages w block ≡ is_gang_tree block
gang_of_free Null block e = absurd (cc)
gang_of_free (Read name prio) block e = absurd (cc)
gang_of_free (Write name sum copies prio body) block e = absurd (cc)
gang_of_free (Free name) block e = refl
gang_of_free (Claim name pointer) block e = absurd (cc)

pub gang_of_claim : (w : Work) (block : Option Tree) (name bytes : List ℕ) → w ≡ Claim name bytes → has_gang_stages w block ≡ points_to_gang bytes
gang_of_claim w block name bytes is = ap (λ (x : Work). has_gang_stages x block) is

-- to the first stage that can come
pub queued_leads : (at : RequestAt) (next : Stage) → kind_of at.node.waiting.request.work ≡ FreeKind → at.stage ≡ FreeBpInit → next ≡ IssueAsync
    → IsNextOf (takes_stage (Request at)) at.stage next
queued_leads at next is stands comes = record {
  stands = subst (λ (s : Stage). IsTrue (takes_stage (Request at) s)) (sym comes)
      (subst (λ (k : Kind). IsTrue (takes k (gang_of at) IssueAsync)) (sym is) refl);
  later = omega (arith, ap number_of stands, ap number_of comes);
  first = λ other it lt. omega (arith, ap number_of stands, ap number_of comes, lt);
}
