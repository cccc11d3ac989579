use Rattle.std.proofs.Common.{◌∙◌, sym, arith}
use Rattle.zio_nodes.proofs.Stalling.{window_none, window_some}
use Rattle.zio_nodes.proofs.stall.gang_window.Goals as goal

pub returns-in-Some : goal.returns-in-Some
returns-in-Some c =
    omega (arith, window_some c.args.family.now c.in-Some.first (sym c.in-Some.is ∙ c.first_missing.ensures), c.len.ensures)

pub returns-in-None : goal.returns-in-None
returns-in-None c = window_none c.args.family.now (sym c.in-None.is ∙ c.first_missing.ensures)
