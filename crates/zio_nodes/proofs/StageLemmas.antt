-- Which stage of a pipeline is next.
use Rattle.std.proofs.Common.{◌≡◌, ◌<◌, ◌≤◌, slice_get, Bool, true, false, ◌&&◌, ◌||◌, Some, ltb, lt-ltb, refl, sym, ap, ◌∙◌, arith, inl, inr, lit<}
use Rattle.std.specs.List.{list_any}
use Rattle.std.proofs.lemmas.Bool.{cases_lt}
use Rattle.zio_masks.specs.declared.pipeline.Pipeline.{Pipeline}
use Rattle.zio_masks.specs.declared.pipeline.TheConstants.{INTERLOCK, READ, VDEV_CHILD, WRITE}
use Rattle.zio_masks.specs.declared.stage.Stage.{Stage}
use Rattle.zio_masks.specs.declared.stage.Stage.TheVariants.{Start, ReadBpInit, WriteBpInit, FreeBpInit, IssueAsync, WriteCompress, ChecksumGenerate, GangAssemble, GangIssue, DvaAllocate, DvaFree, DvaClaim, Ready, VdevIoStart, VdevIoDone, VdevIoAssess, ChecksumVerify, Done}
use Rattle.zio_masks.specs.Stages.{IsNext, all_stages, has, is_gang_stage, number_of}
use Rattle.zio_stages.proofs.NodeIoMoves.{any_at}

in_order : (s : Stage) → slice_get all_stages (number_of s) ≡ Some s
in_order Start = refl
in_order ReadBpInit = refl
in_order WriteBpInit = refl
in_order FreeBpInit = refl
in_order IssueAsync = refl
in_order WriteCompress = refl
in_order ChecksumGenerate = refl
in_order GangAssemble = refl
in_order GangIssue = refl
in_order DvaAllocate = refl
in_order DvaFree = refl
in_order DvaClaim = refl
in_order Ready = refl
in_order VdevIoStart = refl
in_order VdevIoDone = refl
in_order VdevIoAssess = refl
in_order ChecksumVerify = refl
in_order Done = refl

same_stage : (a b : Stage) → number_of a ≡ number_of b → a ≡ b
same_stage a b e =
    let at : slice_get all_stages (number_of a) ≡ slice_get all_stages (number_of b) = ap (slice_get all_stages) e in
    let one : Some a ≡ Some b = sym (in_order a) ∙ at ∙ in_order b in
    cc

-- it is one of these, and stands between those
abbrev pub is_between : (Stage → Bool) → Stage → Stage → Stage → Bool
is_between has_it from to s = has_it s && (ltb (number_of from) (number_of s) && ltb (number_of s) (number_of to))

both_true : (a b : Bool) → a ≡ true → b ≡ true → a && b ≡ true
both_true a b h k = cc

-- the next stage is the one with none of the pipeline's between
pub next_is : (has_it : Stage → Bool) (mask : Pipeline) (stage to next : Stage) → ((s : Stage) → has mask s ≡ has_it s) → IsNext mask stage next → has_it to ≡ true
    → number_of stage < number_of to → list_any (is_between has_it stage to) all_stages ≡ false → next ≡ to
next_is has_it mask stage to next same h there later none =
    elim (cases_lt (number_of next) (number_of to)) [
      | inl lt ↦
          let stands : has mask next ≡ true = h.stands in
          let behind : ltb (number_of stage) (number_of next) ≡ true = lt-ltb (number_of stage) (number_of next) h.later in
          let before : ltb (number_of next) (number_of to) ≡ true = lt-ltb (number_of next) (number_of to) lt in
          let is : is_between has_it stage to next ≡ true =
          both_true (has_it next) (ltb (number_of stage) (number_of next) && ltb (number_of next) (number_of to)) (sym (same next) ∙ stands)
          (both_true (ltb (number_of stage) (number_of next)) (ltb (number_of next) (number_of to)) behind before) in
          let any : list_any (is_between has_it stage to) all_stages ≡ true = any_at (is_between has_it stage to) all_stages (number_of next) next (in_order next) is in
          absurd (let no : true ≡ false = sym any ∙ none in cc)
      | inr le ↦ same_stage next to (omega (arith, le, h.first to (same to ∙ there) later))
    ]

pub is_next : (mask : Pipeline) (stage to : Stage) → has mask to ≡ true → number_of stage < number_of to → list_any (is_between (has mask) stage to) all_stages ≡ false
    → IsNext mask stage to
is_next mask stage to there later none = record { stands = there; later = later; first = first }
  where
    first : (other : Stage) → has mask other ≡ true → number_of stage < number_of other → number_of to ≤ number_of other
    first other it lt =
        elim (cases_lt (number_of other) (number_of to)) [
          | inl before ↦
              let is : is_between (has mask) stage to other ≡ true =
              both_true (has mask other) (ltb (number_of stage) (number_of other) && ltb (number_of other) (number_of to)) it
              (both_true (ltb (number_of stage) (number_of other)) (ltb (number_of other) (number_of to)) (lt-ltb (number_of stage) (number_of other) lt)
              (lt-ltb (number_of other) (number_of to) before)) in
              let any : list_any (is_between (has mask) stage to) all_stages ≡ true =
              any_at (is_between (has mask) stage to) all_stages (number_of other) other (in_order other) is in
              absurd (let no : true ≡ false = sym any ∙ none in cc)
          | inr le ↦ le
        ]

-- ---- of an operation on a leaf

pub leaf_start : (next : Stage) → IsNext VDEV_CHILD Start next → next ≡ VdevIoStart
leaf_start next h = next_is (has VDEV_CHILD) VDEV_CHILD Start VdevIoStart next (λ s. refl) h refl (lit< tt) refl

pub leaf_out : (next : Stage) → IsNext VDEV_CHILD VdevIoStart next → next ≡ VdevIoDone
leaf_out next h = next_is (has VDEV_CHILD) VDEV_CHILD VdevIoStart VdevIoDone next (λ s. refl) h refl (lit< tt) refl

pub leaf_done : (next : Stage) → IsNext VDEV_CHILD VdevIoDone next → next ≡ VdevIoAssess
leaf_done next h = next_is (has VDEV_CHILD) VDEV_CHILD VdevIoDone VdevIoAssess next (λ s. refl) h refl (lit< tt) refl

pub leaf_assessed : (next : Stage) → IsNext VDEV_CHILD VdevIoAssess next → next ≡ Done
leaf_assessed next h = next_is (has VDEV_CHILD) VDEV_CHILD VdevIoAssess Done next (λ s. refl) h refl (lit< tt) refl

-- ---- of a read

pub read_start : (next : Stage) → IsNext READ Start next → next ≡ ReadBpInit
read_start next h = next_is (has READ) READ Start ReadBpInit next (λ s. refl) h refl (lit< tt) refl

pub read_init : (next : Stage) → IsNext READ ReadBpInit next → next ≡ Ready
read_init next h = next_is (has READ) READ ReadBpInit Ready next (λ s. refl) h refl (lit< tt) refl

pub read_ready : (next : Stage) → IsNext READ Ready next → next ≡ VdevIoStart
read_ready next h = next_is (has READ) READ Ready VdevIoStart next (λ s. refl) h refl (lit< tt) refl

pub read_out : (next : Stage) → IsNext READ VdevIoStart next → next ≡ VdevIoDone
read_out next h = next_is (has READ) READ VdevIoStart VdevIoDone next (λ s. refl) h refl (lit< tt) refl

pub read_done : (next : Stage) → IsNext READ VdevIoDone next → next ≡ VdevIoAssess
read_done next h = next_is (has READ) READ VdevIoDone VdevIoAssess next (λ s. refl) h refl (lit< tt) refl

pub read_assessed : (next : Stage) → IsNext READ VdevIoAssess next → next ≡ ChecksumVerify
read_assessed next h = next_is (has READ) READ VdevIoAssess ChecksumVerify next (λ s. refl) h refl (lit< tt) refl

pub read_verified : (next : Stage) → IsNext READ ChecksumVerify next → next ≡ Done
read_verified next h = next_is (has READ) READ ChecksumVerify Done next (λ s. refl) h refl (lit< tt) refl

-- ---- of a walk

abbrev pub is_walked : Stage → Bool
is_walked s = has INTERLOCK s || is_gang_stage s

pub walk_start : (mask : Pipeline) (next : Stage) → ((s : Stage) → has mask s ≡ is_walked s) → IsNext mask Start next → next ≡ GangAssemble
walk_start mask next same h = next_is is_walked mask Start GangAssemble next same h refl (lit< tt) refl

pub walk_assembled : (mask : Pipeline) (next : Stage) → ((s : Stage) → has mask s ≡ is_walked s) → IsNext mask GangAssemble next → next ≡ GangIssue
walk_assembled mask next same h = next_is is_walked mask GangAssemble GangIssue next same h refl (lit< tt) refl

pub walk_issued : (mask : Pipeline) (next : Stage) → ((s : Stage) → has mask s ≡ is_walked s) → IsNext mask GangIssue next → next ≡ Ready
walk_issued mask next same h = next_is is_walked mask GangIssue Ready next same h refl (lit< tt) refl

pub walk_ready : (mask : Pipeline) (next : Stage) → ((s : Stage) → has mask s ≡ is_walked s) → IsNext mask Ready next → next ≡ Done
walk_ready mask next same h = next_is is_walked mask Ready Done next same h refl (lit< tt) refl

-- ---- of a write

pub write_start : (next : Stage) → IsNext WRITE Start next → next ≡ WriteBpInit
write_start next h = next_is (has WRITE) WRITE Start WriteBpInit next (λ s. refl) h refl (lit< tt) refl

pub write_init : (next : Stage) → IsNext WRITE WriteBpInit next → next ≡ IssueAsync
write_init next h = next_is (has WRITE) WRITE WriteBpInit IssueAsync next (λ s. refl) h refl (lit< tt) refl

pub write_issued : (next : Stage) → IsNext WRITE IssueAsync next → next ≡ WriteCompress
write_issued next h = next_is (has WRITE) WRITE IssueAsync WriteCompress next (λ s. refl) h refl (lit< tt) refl

pub write_set : (next : Stage) → IsNext WRITE WriteCompress next → next ≡ ChecksumGenerate
write_set next h = next_is (has WRITE) WRITE WriteCompress ChecksumGenerate next (λ s. refl) h refl (lit< tt) refl

pub write_summed : (next : Stage) → IsNext WRITE ChecksumGenerate next → next ≡ DvaAllocate
write_summed next h = next_is (has WRITE) WRITE ChecksumGenerate DvaAllocate next (λ s. refl) h refl (lit< tt) refl

pub write_placed : (next : Stage) → IsNext WRITE DvaAllocate next → next ≡ Ready
write_placed next h = next_is (has WRITE) WRITE DvaAllocate Ready next (λ s. refl) h refl (lit< tt) refl

pub write_ready : (next : Stage) → IsNext WRITE Ready next → next ≡ VdevIoStart
write_ready next h = next_is (has WRITE) WRITE Ready VdevIoStart next (λ s. refl) h refl (lit< tt) refl

pub write_out : (next : Stage) → IsNext WRITE VdevIoStart next → next ≡ VdevIoDone
write_out next h = next_is (has WRITE) WRITE VdevIoStart VdevIoDone next (λ s. refl) h refl (lit< tt) refl

pub write_done : (next : Stage) → IsNext WRITE VdevIoDone next → next ≡ VdevIoAssess
write_done next h = next_is (has WRITE) WRITE VdevIoDone VdevIoAssess next (λ s. refl) h refl (lit< tt) refl

pub write_assessed : (next : Stage) → IsNext WRITE VdevIoAssess next → next ≡ Done
write_assessed next h = next_is (has WRITE) WRITE VdevIoAssess Done next (λ s. refl) h refl (lit< tt) refl
