use Rattle.std.proofs.Common.{Err, ap, sym, subst, ◌∙◌}
use Rattle.std.specs.Prelude.{List}
use Rattle.std.proofs.lemmas.Bool.{false≢true}
use Rattle.zio_types.specs.declared.place.TopSize.{TopSize}
use Rattle.zio_exchange.specs.SpaceCalls.{LieOnTops}
use Rattle.zio_turns.proofs.DeskCalls.{all_on_tops}
use Rattle.zio_turns.proofs.desk.DeskServices.claim.Goals as goal

pub unreachable-requires : goal.unreachable-requires
unreachable-requires c =
    let space = c.args.self.now.space in
    let on = all_on_tops space.sizes c.args.places.now
    (subst (λ (sizes : List TopSize). LieOnTops sizes c.args.places.now) (sym c.args.self.now.sizes) c.requires) in
    false≢true (sym (c.claim.ensures.outside.0 (c.in-Err-Outside.is ∙ ap Err c.in-Err-Outside.field-0-is)) ∙ on)
