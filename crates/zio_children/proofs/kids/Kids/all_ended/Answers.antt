use Rattle.std.proofs.Common.{◌∙◌, ap}
use Rattle.std.specs.List.{list_all}
use Rattle.zio_children.specs.RequestKids.{KidsUnderWay, is_ended}
use Rattle.zio_children.proofs.KidFields.{all_ended}
use Rattle.zio_children.proofs.kids.Kids.all_ended.Goals as goal

pub returns : goal.returns
returns c =
    let x = c.self.inside in
    all_ended x.kids.items x.handed x.told x.ended c.len.result c.self.invariant (c.len.ensures ∙ x.kids.ok.0) ∙ ap (λ (y : KidsUnderWay). list_all is_ended y.kids) c.self.view_is
