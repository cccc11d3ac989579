use Rattle.std.proofs.Common.{◌≡◌, ◌∙◌, sym, ap, subst, filter, map, reverse}
use Rattle.std.proofs.lemmas.Result.{IfOk-weaker}
use Rattle.zio_children.specs.KeptChildren.{merged, numbers_in}
use Rattle.zio_children.specs.RequestKids.{RiseFrom, child_of, finished_in, kept_as}
use Rattle.zio_children.proofs.KeptErrors.{goes_not_again, kept_end, rising_finished}
use Rattle.zio_children.proofs.kids.Kids.finished.Goals as goal

pub merged-requires : goal.merged-requires
merged-requires c =
    let x = c.self.inside in
    let children : c.as_slice.result.now ≡ map kept_as (filter goes_not_again x.kids.items) =
    c.as_slice.ensures ∙ c.in_ok-finished.ensures ∙ ap (λ ks. map kept_as (filter goes_not_again ks)) c.deref.ensures.value in
    subst (λ ks. RiseFrom 0 (numbers_in ks)) (sym children) (rising_finished 0 x.kids.items c.self.invariant.rising)

pub returns : goal.returns
returns c =
    let x = c.self.inside in
    let children : c.as_slice.result.now ≡ map kept_as (filter goes_not_again x.kids.items) =
    c.as_slice.ensures ∙ c.in_ok-finished.ensures ∙ ap (λ ks. map kept_as (filter goes_not_again ks)) c.deref.ensures.value in
    IfOk-weaker c.merged.result _ _
    (λ ks is. ap (map child_of) (is ∙ ap (λ cs. merged (reverse cs) c.as_slice-2.result.now) children ∙ ap (merged (reverse (map kept_as (filter goes_not_again x.kids.items)))) c.as_slice-2.ensures)
    ∙ kept_end x.kids.items x.kept ∙ ap finished_in c.self.view_is)
    c.merged.ensures
