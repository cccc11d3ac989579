-- What the worked run prints, in whatever sector its block is.
use Rattle.std.proofs.Common.{◌≡◌, ℕ, List, false, refl}
use Rattle.std.specs.Fmt.{digits}
use Rattle.zio_cksum.specs.Sums.{fletcher4, fletcher_after}
use Rattle.zio_gang.specs.Runs.{ending}
use Rattle.zio_report.specs.declared.report.Show.TheVariants.{Report}
use Rattle.zio_report.specs.Reports.{Records, run_text}
use Rattle.zio_row.specs.Row.{row_report}
use Rattle.zio_row.proofs.RowRun.{course_at}

pub report_is : (sector : ℕ) (image : List ℕ) (records : Records)
    → run_text (Report false false) (record { tops = 1; images = 1; requests = 2 }) records ((course_at sector image).events) (ending ((course_at sector image).state)) ≡ row_report
unfolding digits fletcher4 fletcher_after
report_is sector image records = refl
