use Rattle.std.proofs.Common.{◌≡◌, ap, sym, ◌∙◌}
use Rattle.std.specs.Prelude.{option_copied, slice_get}
use Rattle.zio_audit.specs.Names.{at_name, entry_at}
use Rattle.zio_audit.proofs.NameLemmas.{entry_read}
use Rattle.zio_audit.proofs.index.entry_with.Goals as goal

pub returns-in-Some : goal.returns-in-Some
returns-in-Some c =
    let got : option_copied c.get-in-Some.result ≡ slice_get c.args.entries.now c.in-Some.at.now = entry_read c.args.entries.now c.in-Some.at.now c.get-in-Some.result c.get-in-Some.ensures.lookup.0 c.get-in-Some.ensures.lookup.1 in
    got ∙ ap (entry_at c.args.entries.now) (sym (ap option_copied c.in-Some.is) ∙ c.get.ensures.value ∙ ap (at_name c.args.index.now.entries) c.name_of.ensures)
    ∙ c.requires.found c.args.key.now

pub returns-in-None : goal.returns-in-None
returns-in-None c =
    ap (entry_at c.args.entries.now) (sym (ap option_copied c.in-None.is) ∙ c.get.ensures.value ∙ ap (at_name c.args.index.now.entries) c.name_of.ensures)
    ∙ c.requires.found c.args.key.now
