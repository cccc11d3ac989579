use Rattle.std.proofs.Common.{◌≡◌, List, [], ap, ◌∙◌}
use Rattle.zio_blkptr.specs.declared.pointer.Bp.{Bp}
use Rattle.zio_gang.specs.declared.tree.Head.{Head}
use Rattle.zio_gang.specs.Attempts.{Terms}
use Rattle.zio_gang.specs.Trees.{header_levels_max}
use Rattle.zio_trace.specs.Plans.{plan}
use Rattle.zio_trace.specs.Programs.{Ends}
use Rattle.zio_trace.specs.Tasks.{ByKept, ReadHeads, Walked, WalkedBy}
use Rattle.zio_stages.specs.TreeWorks.{heads_task}
use Rattle.zio_stages.specs.declared.own_free.FreeWalk.TheVariants.{Ended}
use Rattle.zio_stages.proofs.OwnFreeLemmas.{free_walks}
use Rattle.zio_stages.proofs.RequestHears.{if_there}
use Rattle.zio_stages.proofs.own_free.OwnFree.free_bp_init.Goals as goal

pub returns-clause-walks : goal.returns-clause-walks
returns-clause-walks c = λ _ t tops family tree front_asked front st same goes h.
    let walked = c.in-Some.walked in
    let P : Walked → Type 0 = λ w. (t : Terms) (heads : List Head) → plan t (ReadHeads (ByKept heads) header_levels_max [] c.args.bp) ≡ Ends (WalkedBy w) in
    let whole : plan t (heads_task tree) ≡ Ends (WalkedBy walked) =
    ap (λ (b : Bp). plan t (ReadHeads (ByKept tree.heads) header_levels_max [] b)) same ∙ if_there c.in_ok-walked.field-0 P walked c.in_ok-walked.ensures.ends c.in-Some.is t tree.heads in
    free_walks t tops c.args.self.now.walk (Ended c.error.result) family tree front_asked front st walked c.requires (ap (λ e. Ended e) c.error.ensures.worst) whole goes h
