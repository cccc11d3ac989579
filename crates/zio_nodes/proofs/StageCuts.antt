-- Where a read goes behind Ready and behind VdevIoAssess: on, or to its end.
use Rattle.std.proofs.Common.{◌≡◌, ℕ, ◌+◌, ◌-◌, ◌*◌, ◌≤◌, Bool, true, false, List, Option, refl, sym, subst, arith, inl, inr, lit<, lit≤}
use Rattle.zio_types.specs.declared.place.Top.{Top}
use Rattle.zio_types.specs.declared.request.Kind.TheVariants.{Read as ReadKind}
use Rattle.zio_masks.specs.Stages.{IsNext}
use Rattle.zio_masks.specs.declared.pipeline.TheConstants.{INTERLOCK, READ}
use Rattle.zio_masks.specs.declared.stage.Stage.{Stage}
use Rattle.zio_masks.specs.declared.stage.Stage.TheVariants.{Start, Ready, VdevIoStart, VdevIoAssess, ChecksumVerify, Done}
use Rattle.zio_script.specs.Requests.{kind_of}
use Rattle.zio_gang.specs.declared.tree.Tree.{Tree}
use Rattle.zio_stages.specs.RequestKinds.{is_gang_tree}
use Rattle.zio_stages.specs.RequestReads.{IsReadWith}
use Rattle.zio_stages.specs.ReadIos.{IsReadStep}
use Rattle.zio_stages.specs.declared.read_io.ReadIo.{ReadIo}
use Rattle.zio_stages.specs.declared.request_node.Own.{Own}
use Rattle.zio_stages.specs.declared.write_io.IoStep.TheVariants.{End}
use Rattle.zio_staged.specs.Stages.{told_cost}
use Rattle.zio_nodes.specs.Bounds.{copies_stages, leaf_share, pass_left, read_asks_max}
use Rattle.zio_nodes.specs.CopiesAts.{ReadStands}
use Rattle.zio_nodes.specs.OwnAts.{HasReadAll, IsReadAtStage}
use Rattle.zio_nodes.specs.OwnBounds.{read_stages}
use Rattle.zio_nodes.specs.StageMoves.{IsNextOf, LeadsTo, has_read_error, stage_of, takes_stage}
use Rattle.zio_nodes.specs.Told.{is_told}
use Rattle.zio_nodes.specs.declared.node.Node.{Node}
use Rattle.zio_nodes.specs.declared.node.Node.TheVariants.{Request}
use Rattle.zio_nodes.specs.declared.request_at.RequestAt.{RequestAt}
use Rattle.zio_nodes.proofs.StageLeads.{cut_leads, gang_of, plain_kept, read_leads}
use Rattle.zio_nodes.proofs.StageLemmas.{is_next}

-- ---- behind Ready

abbrev pub ready_to : (gang : Bool) → Stage
ready_to true = Done
ready_to false = VdevIoStart

pub ready_is : (gang : Bool) (next : Stage) → (gang ≡ true → next ≡ Done) → (gang ≡ false → next ≡ VdevIoStart) → next ≡ ready_to gang
ready_is true next cut on = cut refl
ready_is false next cut on = on refl

pub ready_told : (gang : Bool) → is_told (ready_to gang) ≡ true
ready_told true = refl
ready_told false = refl

pub ready_behind : (gang : Bool) → ready_to gang ≡ Start → ⊥
ready_behind true e = cc
ready_behind false e = cc

pub ready_stands : (tops : List Top) (gang due : Bool) (own : Own) (block : Option Tree) → is_gang_tree block ≡ gang → IsReadAtStage tops Ready due own block
    → IsReadAtStage tops (ready_to gang) true own block
ready_stands tops true due own block is h = h.1 is
ready_stands tops false due own block is h = (h.0, refl, is)

pub ready_stages : (gang : Bool) → read_stages (ready_to gang) true + told_cost ≤ told_cost + told_cost + 4
ready_stages true = omega arith
ready_stages false = omega arith

pub ready_leads : (at : RequestAt) (gang : Bool) → kind_of at.node.waiting.request.work ≡ ReadKind → at.stage ≡ Ready → gang_of at ≡ gang
    → IsNextOf (takes_stage (Request at)) at.stage (ready_to gang)
ready_leads at true is stands gang = cut_leads at Ready Done stands gang (lit≤ tt) (is_next INTERLOCK Ready Done refl (lit< tt) refl)
ready_leads at false is stands plain =
    read_leads at Ready VdevIoStart is stands (lit≤ tt) (plain_kept (gang_of at) VdevIoStart plain) (is_next READ Ready VdevIoStart refl (lit< tt) refl)

-- ---- behind VdevIoAssess

abbrev pub assessed_to : (failed : Bool) → Stage
assessed_to true = Done
assessed_to false = ChecksumVerify

pub assessed_is : (failed : Bool) (next : Stage) → (failed ≡ true → next ≡ Done) → (failed ≡ false → next ≡ ChecksumVerify) → next ≡ assessed_to failed
assessed_is true next cut on = cut refl
assessed_is false next cut on = on refl

pub assessed_told : (failed : Bool) → is_told (assessed_to failed) ≡ true
assessed_told true = refl
assessed_told false = refl

pub assessed_behind : (failed : Bool) → assessed_to failed ≡ Start → ⊥
assessed_behind true e = cc
assessed_behind false e = cc

pub assessed_stands : (tops : List Top) (failed : Bool) (own : Own) (block : Option Tree) → IsReadWith HasReadAll own → IsReadAtStage tops (assessed_to failed) false own block
assessed_stands tops true own block h = h
assessed_stands tops false own block h = h

pub assessed_stages : (failed : Bool) → read_stages (assessed_to failed) false ≤ told_cost + 1
assessed_stages true = omega arith
assessed_stages false = omega arith

-- an error cuts it short, whatever node it is
pub cut_by : (node after : Node) (failed : Bool) → stage_of node ≡ VdevIoAssess → has_read_error node ≡ failed → stage_of after ≡ assessed_to failed
    → (failed ≡ false → IsNextOf (takes_stage node) (stage_of node) (stage_of after)) → LeadsTo node after
cut_by node after true at error to on = inr (inr (at, error, to))
cut_by node after false at error to on = inl (on refl)

pub verify_next : IsNext READ VdevIoAssess ChecksumVerify
verify_next = is_next READ VdevIoAssess ChecksumVerify refl (lit< tt) refl

pub verify_leads : (at : RequestAt) (next : Stage) → kind_of at.node.waiting.request.work ≡ ReadKind → at.stage ≡ VdevIoAssess → gang_of at ≡ false → next ≡ ChecksumVerify
    → IsNextOf (takes_stage (Request at)) at.stage next
verify_leads at next is stands plain to =
    subst (λ (s : Stage). IsNextOf (takes_stage (Request at)) at.stage s) (sym to)
    (read_leads at VdevIoAssess ChecksumVerify is stands (lit≤ tt) (plain_kept (gang_of at) ChecksumVerify plain) verify_next)

-- ---- of a read of copies

pub copies_after : (tops : List Top) (failed : Bool) (io : ReadIo) → IsReadStep tops io End → ReadStands tops (assessed_to failed) false io
copies_after tops true io h = h
copies_after tops false io h = h

pub copies_assessed : (failed : Bool) → copies_stages (assessed_to failed) ≤ told_cost + 1
copies_assessed true = omega arith
copies_assessed false = omega arith

-- what its operations leave to run
abbrev pub io_left : ReadIo → ℕ
io_left io = leaf_share * (read_asks_max - io.asked) + pass_left io.read.retry
