use Rattle.std.proofs.Common.{Err, ap, subst, ◌∙◌}
use Rattle.std.specs.Prelude.{IfSome, option_copied}
use Rattle.std.proofs.lemmas.Bool.{both_ways}
use Rattle.zio_places.specs.Spaces.{are_on_tops}
use Rattle.zio_blocks.specs.Choosers.{IsFoundEntry}
use Rattle.zio_audit.proofs.EntryLemmas.{taken_on}
use Rattle.zio_audit.proofs.taking.take_entry.Goals as goal

pub unreachable-requires : goal.unreachable-requires
unreachable-requires c =
    let sizes = c.args.space.now.sizes in
    let found : IsFoundEntry sizes c.in-Some.entry.now = subst (λ o. IfSome (option_copied o) (IsFoundEntry sizes)) c.in-Some.is c.requires.found in
    both_ways (are_on_tops sizes c.taken_places.result.now)
    (c.claim.ensures.outside.0 (c.in-Err-Outside.is ∙ ap Err c.in-Err-Outside.field-0-is))
    (ap (are_on_tops sizes) c.taken_places.ensures ∙ taken_on sizes c.in-Some.entry.now found)
