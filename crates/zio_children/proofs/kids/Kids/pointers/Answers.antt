use Rattle.std.proofs.Common.{◌≡◌, ◌∙◌, sym, ap, subst, map, reverse}
use Rattle.std.proofs.lemmas.Result.{IfOk-weaker}
use Rattle.zio_children.specs.KeptChildren.{merged, numbers_in}
use Rattle.zio_children.specs.RequestKids.{RiseFrom, kept_as, pointers_of}
use Rattle.zio_children.specs.declared.kept.KeptChild.{KeptChild}
use Rattle.zio_children.proofs.KeptErrors.{pointers_end, rising_kids}
use Rattle.zio_children.proofs.kids.Kids.pointers.Goals as goal

pub merged-requires : goal.merged-requires
merged-requires c =
    let x = c.self.inside in
    let children : c.as_slice.result.now ≡ map kept_as x.kids.items = c.as_slice.ensures ∙ c.in_ok-children.ensures ∙ ap (map kept_as) c.deref.ensures.value in
    subst (λ ks. RiseFrom 0 (numbers_in ks)) (sym children) (rising_kids x.kids.items c.self.invariant.rising)

pub returns : goal.returns
returns c =
    let x = c.self.inside in
    let children : c.as_slice.result.now ≡ map kept_as x.kids.items = c.as_slice.ensures ∙ c.in_ok-children.ensures ∙ ap (map kept_as) c.deref.ensures.value in
    let all : c.as_slice-3.result.now ≡ merged (reverse (map kept_as x.kids.items)) x.kept =
    c.as_slice-3.ensures ∙ c.in_ok-all.ensures ∙ ap (λ ks. merged (reverse ks) c.as_slice-2.result.now) children ∙ ap (merged (reverse (map kept_as x.kids.items))) c.as_slice-2.ensures in
    IfOk-weaker c.pointers_in.result _ _
    (λ ps is. is ∙ ap (map (λ (k : KeptChild). k.pointer)) all ∙ pointers_end x.kids.items x.kept ∙ ap pointers_of c.self.view_is)
    c.pointers_in.ensures
