use Rattle.std.proofs.Common.{[], inr, refl, ⊎_elim, arith}
use Rattle.zio_row.proofs.row.write_then_read.Goals as goal

pub returns-in-Ok : goal.returns-in-Ok
returns-in-Ok c = record {
  codes = c.run_over-status.ensures.codes (λ rose. ⊎_elim (λ above. omega (arith, above)) (λ last. omega (arith, last)) rose);
  report = λ zero. c.run_over-status.ensures.report zero [] c.new-out.ensures;
  image = c.run_over-status.ensures.image;
}

pub returns-in-Err : goal.returns-in-Err
returns-in-Err c = record {
  codes = inr refl;
  report = λ zero. absurd (omega (arith, zero));
  image = λ zero. absurd (omega (arith, zero));
}
