use Rattle.std.proofs.Common.{List, subst, sym, ◌∙◌}
use Rattle.zio_types.specs.declared.place.TopSize.{TopSize}
use Rattle.zio_blocks.specs.Choosers.{IsFoundEntry}
use Rattle.zio_audit.proofs.ReplyLemmas.{is_found_entry}
use Rattle.zio_audit.proofs.taking.take_found.Goals as goal

pub take_entry-requires-clause-found : goal.take_entry-requires-clause-found
take_entry-requires-clause-found c =
    subst (λ (ts : List TopSize). IsFoundEntry ts c.in-Some.entry.now) c.requires.sizes
    (is_found_entry c.args.tops.now c.in-Some.entry.now (sym c.is_found.ensures ∙ c.if-not-is_found.false))
