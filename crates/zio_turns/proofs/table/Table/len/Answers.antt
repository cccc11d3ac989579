use Rattle.std.proofs.Common.{arith, length, ap, ◌∙◌}
use Rattle.zio_turns.specs.LineSums.{places_of, sum_of}
use Rattle.zio_turns.proofs.TableLemmas.{kept_sum, standing_used}
use Rattle.zio_turns.proofs.table.Table.len.Goals as goal

pub returns-clause-len : goal.returns-clause-len
returns-clause-len c =
    c.whole.ensures
    ∙ (ap (λ ns. sum_of (places_of ns)) c.deref.ensures.value
    ∙ (kept_sum c.self.inside.nodes.items c.self.inside.places.items c.self.inside.used c.self.invariant
    ∙ ap (λ h. length h.waiting) c.self.view_is))

pub returns-clause-few : goal.returns-clause-few
returns-clause-few c =
    omega (
      arith,
      returns-clause-len c,
      ap (λ h. length h.waiting) c.self.view_is,
      standing_used c.self.inside.places.items c.self.inside.used c.self.invariant.unused,
      ap (λ h. h.used) c.self.view_is,
    )

pub returns-clause-fits : goal.returns-clause-fits
returns-clause-fits c =
    let used = ap (λ h. h.used) c.self.view_is in
    let size = ap (λ h. h.size) c.self.view_is in
    (omega (arith, used, size, c.self.invariant.fits), omega (arith, size, c.self.inside.places.small, c.self.inside.places.ok.0))
