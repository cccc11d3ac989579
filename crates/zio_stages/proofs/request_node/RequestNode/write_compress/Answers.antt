use Rattle.std.proofs.Common.{◌≡◌, false, sym, ap, subst, ◌∙◌}
use Rattle.std.specs.List.{list_all}
use Rattle.zio_types.specs.declared.request.ChildKind.{ChildKind}
use Rattle.zio_types.specs.declared.request.ChildKind.TheVariants.{Logical}
use Rattle.zio_types.specs.declared.request.Phase.TheVariants.{Ready}
use Rattle.zio_children.specs.RequestKids.{KidsUnderWay, is_told}
use Rattle.zio_stages.specs.OwnParts.{IsOwed}
use Rattle.zio_stages.proofs.RequestSits.{waits_ready}
use Rattle.zio_stages.proofs.RequestWriteLemmas.{idle_at}
use Rattle.zio_stages.proofs.request_node.RequestNode.write_compress.Goals as goal

pub block-requires-clause-told : goal.block-requires-clause-told
block-requires-clause-told c = record {
  all = c.requires.handed;
  told = ap (λ (k : KidsUnderWay). list_all is_told k.kids) (sym c.kids.ensures) ∙ sym c.all_told.ensures ∙ c.if-not-all_told.false;
}

pub returns-then-not-all_told-clause-wait : goal.returns-then-not-all_told-clause-wait
returns-then-not-all_told-clause-wait c = λ kind e t st seated h.
    let r = c.args.self.now in
    let is : Logical ≡ kind = cc in
    let none : list_all is_told r.kids.kids.kids ≡ false =
    ap (λ (k : KidsUnderWay). list_all is_told k.kids) (sym c.kids.ensures) ∙ sym c.all_told.ensures ∙ c.if-not-all_told.true in
    subst (λ (k : ChildKind). IsOwed k Ready st) is
    (waits_ready t r st h seated (idle_at t r st h c.requires.due).alone c.requires.handed none)
