use Rattle.std.proofs.Common.{◌≡◌, ◌∙◌, ap, map}
use Rattle.zio_types.specs.Errors.{worst_error, worst_of}
use Rattle.zio_gang.specs.Attempts.{Child}
use Rattle.zio_children.specs.RequestKids.{KidsUnderWay, done_error, finished_in}
use Rattle.zio_children.specs.declared.kept.KeptChild.{KeptChild}
use Rattle.zio_children.proofs.KeptErrors.{worst_finished}
use Rattle.zio_children.proofs.kids.Kids.worst.Goals as goal

pub returns : goal.returns
returns c =
    let x = c.self.inside in
    let now : c.worst_finished.result ≡ worst_of (map done_error x.kids.items) = c.worst_finished.ensures ∙ ap (λ ks. worst_of (map done_error ks)) c.deref.ensures.value in
    let earlier : c.worst_of.result ≡ worst_of (map (λ (k : KeptChild). k.error) x.kept) = c.worst_of.ensures ∙ ap (λ ks. worst_of (map (λ (k : KeptChild). k.error) ks)) c.as_slice.ensures in
    c.worst.ensures ∙ ap (λ e. worst_error e c.worst_of.result) now ∙ ap (worst_error (worst_of (map done_error x.kids.items))) earlier
    ∙ worst_finished x.kids.items x.kept
    ∙ ap (λ (y : KidsUnderWay). worst_of (map (λ (k : Child). k.error) (finished_in y))) c.self.view_is
