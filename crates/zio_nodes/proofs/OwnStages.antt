-- Which stage is next behind each stage of a read, a free and a claim.
use Rattle.std.proofs.Common.{◌≡◌, Bool, true, false, ◌||◌, refl, lit<}
use Rattle.zio_types.specs.declared.request.Kind.TheVariants.{Read as ReadKind, Free as FreeKind}
use Rattle.zio_masks.specs.declared.pipeline.Pipeline.{Pipeline}
use Rattle.zio_masks.specs.declared.pipeline.TheConstants.{CLAIM, FREE, INTERLOCK, READ}
use Rattle.zio_masks.specs.declared.stage.Stage.{Stage}
use Rattle.zio_masks.specs.declared.stage.Stage.TheVariants.{ReadBpInit, FreeBpInit, IssueAsync, GangAssemble, GangIssue, DvaFree, DvaClaim, Ready, Done}
use Rattle.zio_masks.specs.Stages.{IsNext, has, is_gang_stage}
use Rattle.zio_nodes.specs.RequestAts.{masked}
use Rattle.zio_nodes.proofs.StageLemmas.{next_is}

-- ---- of a read

-- a gang's headers are read first
abbrev pub behind_init : Bool → Stage
behind_init true = GangAssemble
behind_init false = Ready

pub read_begun : (gang : Bool) (mask : Pipeline) (next : Stage) → ((s : Stage) → has mask s ≡ masked ReadKind gang s) → IsNext mask ReadBpInit next → next ≡ behind_init gang
read_begun true mask next same h = next_is (masked ReadKind true) mask ReadBpInit GangAssemble next same h refl (lit< tt) refl
read_begun false mask next same h = next_is (masked ReadKind false) mask ReadBpInit Ready next same h refl (lit< tt) refl

abbrev with_gangs : Pipeline → Stage → Bool
with_gangs mask s = has mask s || is_gang_stage s

pub read_assembled : (mask : Pipeline) (next : Stage) → ((s : Stage) → has mask s ≡ (has READ s || is_gang_stage s)) → IsNext mask GangAssemble next → next ≡ GangIssue
read_assembled mask next same h = next_is (with_gangs READ) mask GangAssemble GangIssue next same h refl (lit< tt) refl

-- of any gang
pub gang_issued : (next : Stage) → IsNext INTERLOCK GangIssue next → next ≡ Ready
gang_issued next h = next_is (has INTERLOCK) INTERLOCK GangIssue Ready next (λ s. refl) h refl (lit< tt) refl

-- ---- of a free

pub free_begun : (next : Stage) → IsNext FREE FreeBpInit next → next ≡ IssueAsync
free_begun next h = next_is (has FREE) FREE FreeBpInit IssueAsync next (λ s. refl) h refl (lit< tt) refl

abbrev pub behind_issue : Bool → Stage
behind_issue true = GangAssemble
behind_issue false = DvaFree

pub free_queued : (gang : Bool) (mask : Pipeline) (next : Stage) → ((s : Stage) → has mask s ≡ masked FreeKind gang s) → IsNext mask IssueAsync next → next ≡ behind_issue gang
free_queued true mask next same h = next_is (masked FreeKind true) mask IssueAsync GangAssemble next same h refl (lit< tt) refl
free_queued false mask next same h = next_is (masked FreeKind false) mask IssueAsync DvaFree next same h refl (lit< tt) refl

pub free_assembled : (mask : Pipeline) (next : Stage) → ((s : Stage) → has mask s ≡ (has FREE s || is_gang_stage s)) → IsNext mask GangAssemble next → next ≡ GangIssue
free_assembled mask next same h = next_is (with_gangs FREE) mask GangAssemble GangIssue next same h refl (lit< tt) refl

pub free_given : (next : Stage) → IsNext FREE DvaFree next → next ≡ Ready
free_given next h = next_is (has FREE) FREE DvaFree Ready next (λ s. refl) h refl (lit< tt) refl

pub free_told : (next : Stage) → IsNext FREE Ready next → next ≡ Done
free_told next h = next_is (has FREE) FREE Ready Done next (λ s. refl) h refl (lit< tt) refl

-- ---- of a claim

pub claim_assembled : (mask : Pipeline) (next : Stage) → ((s : Stage) → has mask s ≡ (has CLAIM s || is_gang_stage s)) → IsNext mask GangAssemble next → next ≡ GangIssue
claim_assembled mask next same h = next_is (with_gangs CLAIM) mask GangAssemble GangIssue next same h refl (lit< tt) refl

pub claim_taken : (next : Stage) → IsNext CLAIM DvaClaim next → next ≡ Ready
claim_taken next h = next_is (has CLAIM) CLAIM DvaClaim Ready next (λ s. refl) h refl (lit< tt) refl

pub claim_told : (next : Stage) → IsNext CLAIM Ready next → next ≡ Done
claim_told next h = next_is (has CLAIM) CLAIM Ready Done next (λ s. refl) h refl (lit< tt) refl
