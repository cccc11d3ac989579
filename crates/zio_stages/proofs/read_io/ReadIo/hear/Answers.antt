use Rattle.std.proofs.Common.{◌-◌, Ok, [], ap, refl, sym, subst, ◌∙◌}
use Rattle.zio_cksum.specs.Blocks.{judged}
use Rattle.zio_trace.specs.Tasks.{Got, good_by}
use Rattle.zio_frames.specs.Frames.{with_slot}
use Rattle.zio_frames.specs.Slots.{Heard}
use Rattle.zio_parts.specs.CopyReads.{Reading, left_of_read}
use Rattle.zio_stages.specs.ReadIos.{IsReadIo, IsReadOver}
use Rattle.zio_stages.proofs.ReadIoHeard.{mend_hears, mend_hears_over, read_hears, read_hears_over}
use Rattle.zio_stages.proofs.ReadIoLemmas.{all_good}
use Rattle.zio_stages.proofs.WriteIoLemmas.{setting_over}
use Rattle.zio_stages.proofs.read_io.ReadIo.hear.Goals as goal

pub returns-then-self-clause-heard : goal.returns-then-self-clause-heard
returns-then-self-clause-heard c = λ t x a e found h.
    let w = c.args.self.now in
    let k = c.hear_read.ensures in
    read_hears t w c.hear_read.new.self x c.args.n a h c.requires.over.reading c.if-self.true c.requires.out k.same (k.left t.setting (good_by w.check) a e (sym (c.judged-judged.ensures ∙ ap (judged (good_by w.check)) found))) k.out k.mends

pub returns-then-self-clause-over : goal.returns-then-self-clause-over
returns-then-self-clause-over c =
    let k = c.hear_read.ensures in
    read_hears_over c.args.tops.now c.args.self.now c.hear_read.new.self c.judged-judged.result c.requires.over c.if-self.true k.same (k.left (setting_over c.args.tops.now) all_good c.judged-judged.result refl) k.out k.mends

pub returns-clause-heard : goal.returns-clause-heard
returns-clause-heard c = λ t x a e found h.
    let w = c.args.self.now in
    let k = c.hear_repair.ensures in
    subst (λ (y : Reading). IsReadIo t (record { read = y; check = w.check; prio = w.prio; is_reading = w.is_reading; base = w.base; asked = w.asked }) (with_slot x c.args.n (Heard (Got a)))) (sym k.mended)
    (mend_hears t w x c.args.n a h c.requires.over.reading c.if-self.false c.requires.out (ap (left_of_read t.setting (good_by w.check)) (sym k.mended) ∙ k.left t.setting (good_by w.check) a))

pub returns-clause-over : goal.returns-clause-over
returns-clause-over c =
    let w = c.args.self.now in
    let k = c.hear_repair.ensures in
    subst (λ (y : Reading). IsReadOver c.args.tops.now (record { read = y; check = w.check; prio = w.prio; is_reading = w.is_reading; base = w.base; asked = w.asked })) (sym k.mended)
    (mend_hears_over c.args.tops.now w (c.args.n - w.base) _ c.requires.over c.if-self.false
    (ap (left_of_read (setting_over c.args.tops.now) all_good) (sym k.mended) ∙ k.left (setting_over c.args.tops.now) all_good (Ok [])))
