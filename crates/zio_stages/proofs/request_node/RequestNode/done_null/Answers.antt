use Rattle.std.proofs.Common.{◌≡◌, ◌∙◌, false, true, sym, ap, subst}
use Rattle.std.specs.List.{list_all, list_any}
use Rattle.zio_types.specs.declared.request.ChildKind.{ChildKind}
use Rattle.zio_types.specs.declared.request.ChildKind.TheVariants.{Logical}
use Rattle.zio_types.specs.declared.request.Phase.TheVariants.{Done}
use Rattle.zio_children.specs.RequestKids.{KidsUnderWay, is_ended}
use Rattle.zio_stages.specs.NodeChildren.{is_owing}
use Rattle.zio_stages.proofs.RequestSits.{waits_done}
use Rattle.zio_stages.proofs.request_node.RequestNode.done_null.Goals as goal

pub returns-else-all_ended-clause-wait : goal.returns-else-all_ended-clause-wait
returns-else-all_ended-clause-wait c = λ kind e t st seated h all.
    let r = c.args.self.now in
    let is : Logical ≡ kind = cc in
    let none : list_all is_ended r.kids.kids.kids ≡ false =
    ap (λ (k : KidsUnderWay). list_all is_ended k.kids) (sym c.kids.ensures) ∙ sym c.all_ended.ensures ∙ c.if-all_ended.false in
    subst (λ (k : ChildKind). list_any (is_owing k Done) st.children ≡ true) is
    (waits_done t r st h seated all none)
