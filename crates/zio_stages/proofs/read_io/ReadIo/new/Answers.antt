use Rattle.std.proofs.Common.{ap, false, refl, sym, subst, ◌∙◌}
use Rattle.zio_trace.specs.Tasks.{ReadCopies, good_by}
use Rattle.zio_frames.specs.Frames.{fresh_frame}
use Rattle.zio_parts.specs.CopyReads.{Reading, left_of_read}
use Rattle.zio_stages.specs.ReadIos.{IsReadIo, IsReadOver}
use Rattle.zio_stages.proofs.ReadIoLemmas.{all_good}
use Rattle.zio_stages.proofs.ReadIoMoves.{read_fresh, read_fresh_over}
use Rattle.zio_stages.proofs.WriteIoLemmas.{setting_over}
use Rattle.zio_stages.proofs.read_io.ReadIo.new.Goals as goal

pub returns-clause-fresh : goal.returns-clause-fresh
returns-clause-fresh c = λ t e.
    let a = c.args in
    subst (λ (y : Reading). IsReadIo t (record { read = y; check = a.check; prio = a.prio; is_reading = false; base = 0; asked = 0 }) (fresh_frame (ReadCopies a.repair a.check a.len a.places))) (sym c.new.ensures.fresh)
    (read_fresh t a.tops.now a.places a.len a.repair a.check a.prio (ap (left_of_read t.setting (good_by a.check)) (sym c.new.ensures.fresh) ∙ c.new.ensures.left t.setting (good_by a.check) e))

pub returns-clause-over : goal.returns-clause-over
returns-clause-over c =
    let a = c.args in
    subst (λ (y : Reading). IsReadOver a.tops.now (record { read = y; check = a.check; prio = a.prio; is_reading = false; base = 0; asked = 0 })) (sym c.new.ensures.fresh)
    (read_fresh_over a.tops.now a.places a.len a.repair a.check a.prio c.requires.places c.requires.some
    (ap (left_of_read (setting_over a.tops.now) all_good) (sym c.new.ensures.fresh) ∙ c.new.ensures.left (setting_over a.tops.now) all_good refl))
