use Rattle.std.proofs.Common.{sym, ◌∙◌}
use Rattle.zio_stages.proofs.ReadIoEnds.{no_end, read_end_again, read_ends_badly, read_ends_well, read_has_good}
use Rattle.zio_stages.proofs.read_io.ReadIo.into_found.Goals as goal

pub unreachable-requires : goal.unreachable-requires
unreachable-requires c =
    no_end c.next.result (read_end_again c.args.tops.now c.args.self c.next.result c.requires.over c.requires.step c.next.ensures.shows) c.in_default.not-End

pub unreachable-requires-in-None : goal.unreachable-requires-in-None
unreachable-requires-in-None c =
    read_has_good c.args.tops.now c.args.self c.in-End.end c.in-Ok.field-0 c.in-Ok.is c.in-End.ensures.shows (sym c.into_bytes.ensures ∙ c.in-None.is)

pub returns-in-Err : goal.returns-in-Err
returns-in-Err c = λ t x e h. read_ends_badly t c.args.tops.now c.args.self x c.in-End.end c.in-Err.error e c.in-Err.is c.in-End.ensures.shows h

pub returns-in-Some : goal.returns-in-Some
returns-in-Some c = λ t x e h.
    read_ends_well t c.args.tops.now c.args.self x c.in-End.end c.in-Ok.field-0 c.in-Some.bytes e c.in-Ok.is c.in-End.ensures.shows (sym c.into_bytes.ensures ∙ c.in-Some.is) h
