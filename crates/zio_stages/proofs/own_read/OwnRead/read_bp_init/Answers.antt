use Rattle.std.proofs.Common.{◌≡◌, false, List, [], sym, ap, subst, ◌∙◌}
use Rattle.std.specs.List.{AllByRecursion}
use Rattle.zio_blkptr.specs.declared.pointer.Bp.{Bp}
use Rattle.zio_gang.specs.declared.tree.Head.{Head}
use Rattle.zio_gang.specs.Attempts.{Terms}
use Rattle.zio_gang.specs.Trees.{header_levels_max}
use Rattle.zio_trace.specs.Plans.{plan}
use Rattle.zio_trace.specs.Programs.{Ends}
use Rattle.zio_trace.specs.Tasks.{ByKept, ReadHeads, Walked, WalkedBy}
use Rattle.zio_parts.specs.HeadWalks.{body_of}
use Rattle.zio_stages.specs.OwnReads.{IsBodyOn}
use Rattle.zio_stages.specs.TreeWorks.{bodies_after, heads_task}
use Rattle.zio_stages.specs.declared.own_read.OwnRead.{OwnRead}
use Rattle.zio_stages.proofs.OwnReadLemmas.{walks}
use Rattle.zio_stages.proofs.RequestHears.{if_there}
use Rattle.zio_stages.proofs.own_read.OwnRead.read_bp_init.Goals as goal

pub returns-clause-on : goal.returns-clause-on
returns-clause-on c = λ tops on before.
    let is = if_there c.in_ok-walked.field-0 (λ (w : Walked). (w ≡ body_of c.args.bp) × (c.args.bp.gang ≡ false)) c.in-Some.walked c.in_ok-walked.ensures.body c.in-Some.is in
    let bodies = c.walk_at_once.ensures.bodies ∙ ap (bodies_after c.args.self.now.tree.read.bodies) is.0 in
    subst (AllByRecursion (IsBodyOn tops)) (sym bodies) (on is.1, tt)

pub returns-clause-walks : goal.returns-clause-walks
returns-clause-walks c = λ _ t tops family tree front_asked front st same goes h.
    let old = c.args.self.now in
    let new : OwnRead = record { tree = c.walk_at_once.new.self; body = old.body } in
    let P : Walked → Type 0 = λ w. (t : Terms) (heads : List Head) → plan t (ReadHeads (ByKept heads) header_levels_max [] c.args.bp) ≡ Ends (WalkedBy w) in
    let whole : plan t (heads_task tree) ≡ Ends (WalkedBy c.in-Some.walked) =
    ap (λ (b : Bp). plan t (ReadHeads (ByKept tree.heads) header_levels_max [] b)) same ∙ if_there c.in_ok-walked.field-0 P c.in-Some.walked c.in_ok-walked.ensures.ends c.in-Some.is t tree.heads in
    walks t tops old new family tree front_asked front st c.in-Some.walked c.requires.alone c.requires.alone
    (λ asked slots is. c.walk_at_once.ensures.walks tree asked slots is) whole goes h
