use Rattle.std.proofs.Common.{◌≡◌, ◌∙◌, List, Option, Some, IfSome, length, length-set, slice_get, slice_set, ap, refl, subst}
use Rattle.zio_frames.specs.Frames.{Child}
use Rattle.zio_frames.specs.Moves.{child_told}
use Rattle.zio_stages.specs.declared.heads_node.HeadsNode.{HeadsNode}
use Rattle.zio_stages.proofs.HeadsNodeLemmas.{sits_untold, told_at}
use Rattle.zio_stages.proofs.RequestSits.{get_within}
use Rattle.zio_stages.proofs.heads_node.HeadsNode.arrive_ready.Goals as goal

pub tell-requires : goal.tell-requires
tell-requires c =
    let r = c.requires in
    get_within c.args.self.now.family c.args.child r.child (ap (λ (cs : List Child). slice_get cs c.args.child) r.is.children ∙ r.there)

pub returns-clause-told : goal.returns-clause-told
returns-clause-told c = λ t st x pointer h seated there goes untold.
    let old = c.args.self.now in
    let new : HeadsNode = record { work = old.work; family = c.tell.new.self; name = old.name; prio = old.prio } in
    let sits = sits_untold t old st c.args.child x h seated there goes untold in
    let known : slice_get old.family c.args.child ≡ Some x = ap (λ (cs : List Child). slice_get cs c.args.child) h.children ∙ there in
    told_at t old new st c.args.child sits.number x pointer h sits.seat sits.out refl
    (subst (λ (o : Option Child). IfSome o (λ (d : Child). c.tell.new.self ≡ slice_set old.family c.args.child (child_told d))) known c.tell.ensures)

pub returns-clause-count : goal.returns-clause-count
returns-clause-count c =
    let r = c.requires in
    let old = c.args.self.now in
    let known : slice_get old.family c.args.child ≡ Some r.child = ap (λ (cs : List Child). slice_get cs c.args.child) r.is.children ∙ r.there in
    ap (λ (cs : List Child). length cs) (subst (λ (o : Option Child). IfSome o (λ (d : Child). c.tell.new.self ≡ slice_set old.family c.args.child (child_told d))) known c.tell.ensures)
    ∙ length-set old.family c.args.child (child_told r.child)

pub returns-clause-over : goal.returns-clause-over
returns-clause-over c = λ tops h. record { valid = h.valid; walk = h.walk; named = h.named; count = returns-clause-count c ∙ h.count }
