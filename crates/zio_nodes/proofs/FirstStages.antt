-- Which stage a request takes behind Start, and a null behind Ready.
use Rattle.std.proofs.Common.{◌≡◌, Bool, true, false, Option, refl, ◌∙◌, lit<}
use Rattle.zio_types.specs.declared.request.Kind.TheVariants.{Null as NullKind, Read as ReadKind, Write as WriteKind, Free as FreeKind, Claim as ClaimKind}
use Rattle.zio_masks.specs.declared.pipeline.Pipeline.{Pipeline}
use Rattle.zio_masks.specs.declared.pipeline.TheConstants.{NULL}
use Rattle.zio_masks.specs.declared.stage.Stage.{Stage}
use Rattle.zio_masks.specs.declared.stage.Stage.TheVariants.{Start, ReadBpInit, WriteBpInit, FreeBpInit, GangAssemble, DvaClaim, Ready, Done}
use Rattle.zio_masks.specs.Stages.{IsNext, has}
use Rattle.zio_script.specs.Requests.{kind_of}
use Rattle.zio_script.specs.declared.script.Work.{Work}
use Rattle.zio_script.specs.declared.script.Work.TheVariants.{Null, Read, Write, Free, Claim}
use Rattle.zio_gang.specs.declared.tree.Tree.{Tree}
use Rattle.zio_stages.specs.RequestKinds.{has_gang_stages, points_to_gang}
use Rattle.zio_nodes.specs.RequestAts.{is_kept, masked}
use Rattle.zio_nodes.proofs.StageLemmas.{next_is}

-- ---- behind Start

-- of a claim it depends on what its bytes point to
abbrev pub claim_first : (gang : Bool) → Stage
claim_first true = GangAssemble
claim_first false = DvaClaim

-- the first stage of each kind
abbrev pub first_of : Work → Stage
first_of Null = Ready
first_of (Read name prio) = ReadBpInit
first_of (Write name sum copies prio body) = WriteBpInit
first_of (Free name) = FreeBpInit
first_of (Claim name pointer) = claim_first (points_to_gang pointer)

first_read : (gang : Bool) (mask : Pipeline) (next : Stage) → ((s : Stage) → has mask s ≡ masked ReadKind gang s) → IsNext mask Start next → next ≡ ReadBpInit
first_read true mask next same h = next_is (masked ReadKind true) mask Start ReadBpInit next same h refl (lit< tt) refl
first_read false mask next same h = next_is (masked ReadKind false) mask Start ReadBpInit next same h refl (lit< tt) refl

first_free : (gang : Bool) (mask : Pipeline) (next : Stage) → ((s : Stage) → has mask s ≡ masked FreeKind gang s) → IsNext mask Start next → next ≡ FreeBpInit
first_free true mask next same h = next_is (masked FreeKind true) mask Start FreeBpInit next same h refl (lit< tt) refl
first_free false mask next same h = next_is (masked FreeKind false) mask Start FreeBpInit next same h refl (lit< tt) refl

first_claim : (gang : Bool) (mask : Pipeline) (next : Stage) → ((s : Stage) → has mask s ≡ masked ClaimKind gang s) → IsNext mask Start next → next ≡ claim_first gang
first_claim true mask next same h = next_is (masked ClaimKind true) mask Start GangAssemble next same h refl (lit< tt) refl
first_claim false mask next same h = next_is (masked ClaimKind false) mask Start DvaClaim next same h refl (lit< tt) refl

pub first_stage : (work : Work) (block : Option Tree) (mask : Pipeline) (next : Stage) → ((s : Stage) → has mask s ≡ masked (kind_of work) (has_gang_stages work block) s)
    → IsNext mask Start next → next ≡ first_of work
first_stage Null block mask next same h = next_is (masked NullKind false) mask Start Ready next same h refl (lit< tt) refl
first_stage (Read name prio) block mask next same h = first_read (has_gang_stages (Read name prio) block) mask next same h
first_stage (Write name sum copies prio body) block mask next same h = next_is (masked WriteKind false) mask Start WriteBpInit next same h refl (lit< tt) refl
first_stage (Free name) block mask next same h = first_free (has_gang_stages (Free name) block) mask next same h
first_stage (Claim name pointer) block mask next same h = first_claim (points_to_gang pointer) mask next same h

claim_kept : (gang : Bool) → is_kept gang (claim_first gang) ≡ true
claim_kept true = refl
claim_kept false = refl

-- GangIssue leaves it
pub first_kept : (work : Work) (block : Option Tree) → is_kept (has_gang_stages work block) (first_of work) ≡ true
first_kept Null block = refl
first_kept (Read name prio) block = refl
first_kept (Write name sum copies prio body) block = refl
first_kept (Free name) block = refl
first_kept (Claim name pointer) block = claim_kept (points_to_gang pointer)

takes_done : (work : Work) (gang : Bool) → masked (kind_of work) gang Done ≡ true
takes_done Null gang = refl
takes_done (Read name prio) gang = refl
takes_done (Write name sum copies prio body) gang = refl
takes_done (Free name) gang = refl
takes_done (Claim name pointer) gang = refl

-- each pipeline has Done
pub has_done : (work : Work) (gang : Bool) (mask : Pipeline) → ((s : Stage) → has mask s ≡ masked (kind_of work) gang s) → has mask Done ≡ true
has_done work gang mask same = same Done ∙ takes_done work gang

-- ---- of a null

pub null_told : (next : Stage) → IsNext NULL Ready next → next ≡ Done
null_told next h = next_is (has NULL) NULL Ready Done next (λ s. refl) h refl (lit< tt) refl
