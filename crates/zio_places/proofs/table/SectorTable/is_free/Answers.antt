use Rattle.std.proofs.Common.{◌≡◌, drop, ap, ◌∙◌, arith}
use Rattle.std.proofs.lemmas.Bool.{leb-true, le-leb}
use Rattle.zio_places.specs.Flags.{front_run}
use Rattle.zio_places.specs.Tables.{TopState}
use Rattle.zio_places.proofs.FlagLemmas.{AreAll-from_front_run, front_run-from_AreAll}
use Rattle.zio_places.proofs.table.SectorTable.is_free.Goals as goal

pub returns : goal.returns
returns c =
    let run : c.front_from.result ≡ front_run (drop c.args.at c.args.self.now.free) =
    c.front_from.ensures ∙ ap (λ (t : TopState). front_run (drop c.args.at t.free)) c.self.view_is in
    let count : c.from.result ≡ c.args.sectors = c.from.ensures in (
      (λ h. AreAll-from_front_run c.args.self.now.free c.args.at c.args.sectors c.requires (omega (arith, run, count, leb-true c.from.result c.front_from.result h))),
      (λ h. le-leb c.from.result c.front_from.result (omega (arith, run, count, front_run-from_AreAll c.args.self.now.free c.args.at c.args.sectors h))),
    )
