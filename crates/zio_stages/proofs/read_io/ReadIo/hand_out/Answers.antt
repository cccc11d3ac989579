use Rattle.std.proofs.Common.{◌≡◌, ◌+◌, ℕ, true, List, Option, None, Some, ap, refl, sym, subst, ◌∙◌}
use Rattle.zio_trace.specs.Tasks.{good_by}
use Rattle.zio_frames.specs.Frames.{with_asked}
use Rattle.zio_frames.specs.Slots.{IsOut}
use Rattle.zio_parts.specs.CopyReads.{Reading, handed_with, left_of_read}
use Rattle.zio_stages.specs.ReadIos.{IsReadIo, IsReadOver, outs_when}
use Rattle.zio_stages.proofs.ReadIoEnds.{no_child}
use Rattle.zio_stages.proofs.ReadIoLemmas.{all_good, read_child_again}
use Rattle.zio_stages.proofs.ReadIoMoves.{read_grown_over, read_handed_out, read_one_more, repair_grown_over, repair_handed_out, repair_one_more}
use Rattle.zio_stages.proofs.WriteIoLemmas.{setting_over}
use Rattle.zio_stages.proofs.read_io.ReadIo.hand_out.Goals as goal

pub unreachable-requires : goal.unreachable-requires
unreachable-requires c =
    no_child c.next.result (read_child_again c.args.tops.now c.args.self.now c.next.result c.requires.step c.next.ensures.shows) c.in-Wait.is

pub returns-in-Fetch-clause-handed : goal.returns-in-Fetch-clause-handed
returns-in-Fetch-clause-handed c = λ t x op e h is.
    let w = c.args.self.now in
    let allows = c.in-Fetch.ensures.allows in
    let handed : c.hand_out.new.self ≡ handed_with None w.read = c.hand_out.ensures.handed ∙ ap (λ (g : Option (List ℕ)). handed_with g w.read) allows.1 in
    subst (λ (y : Reading). IsReadIo t (record { read = y; check = w.check; prio = w.prio; is_reading = true; base = w.base; asked = w.asked + 1 }) (with_asked x op (IsOut None))) (sym handed)
    (read_handed_out t c.args.tops.now w x c.in-Fetch.field-0 op h allows is
    (ap (left_of_read t.setting (good_by w.check)) (sym handed) ∙ c.hand_out.ensures.left t.setting (good_by w.check)))

pub returns-in-Fetch-clause-over : goal.returns-in-Fetch-clause-over
returns-in-Fetch-clause-over c =
    let w = c.args.self.now in
    let tops = c.args.tops.now in
    let allows = c.in-Fetch.ensures.allows in
    let handed : c.hand_out.new.self ≡ handed_with None w.read = c.hand_out.ensures.handed ∙ ap (λ (g : Option (List ℕ)). handed_with g w.read) allows.1 in
    subst (λ (y : Reading). IsReadOver tops (record { read = y; check = w.check; prio = w.prio; is_reading = true; base = w.base; asked = w.asked + 1 })) (sym handed)
    (read_grown_over tops w c.in-Fetch.field-0 c.requires.over allows c.in-Fetch.ensures.shows
    (ap (left_of_read (setting_over tops) all_good) (sym handed) ∙ c.hand_out.ensures.left (setting_over tops) all_good))

pub returns-in-Fetch-clause-outs : goal.returns-in-Fetch-clause-outs
returns-in-Fetch-clause-outs c =
    let w = c.args.self.now in
    let allows = c.in-Fetch.ensures.allows in
    let handed : c.hand_out.new.self ≡ handed_with None w.read = c.hand_out.ensures.handed ∙ ap (λ (g : Option (List ℕ)). handed_with g w.read) allows.1 in
    ap (λ (y : Reading). outs_when y.good y.is_out y.mends) handed ∙ read_one_more c.args.tops.now w.read c.in-Fetch.field-0 allows

pub returns-in-Repair-clause-handed : goal.returns-in-Repair-clause-handed
returns-in-Repair-clause-handed c = λ t x op e h is.
    let w = c.args.self.now in
    let shown = c.in-Repair.ensures.shows t.setting (good_by w.check) e in
    let bytes : List ℕ = shown.0 in
    let handed : c.hand_out-in-Repair.new.self ≡ handed_with (Some bytes) w.read = c.hand_out-in-Repair.ensures.handed ∙ ap (λ (g : Option (List ℕ)). handed_with g w.read) shown.1 in
    subst (λ (y : Reading). IsReadIo t (record { read = y; check = w.check; prio = w.prio; is_reading = w.is_reading; base = w.base; asked = w.asked + 1 }) (with_asked x op (IsOut None))) (sym handed)
    (repair_handed_out t w x op bytes h shown.1 is
    (ap (left_of_read t.setting (good_by w.check)) (sym handed) ∙ c.hand_out-in-Repair.ensures.left t.setting (good_by w.check)))

pub returns-in-Repair-clause-over : goal.returns-in-Repair-clause-over
returns-in-Repair-clause-over c =
    let w = c.args.self.now in
    let tops = c.args.tops.now in
    let shown = c.in-Repair.ensures.shows (setting_over tops) all_good refl in
    let bytes : List ℕ = shown.0 in
    let handed : c.hand_out-in-Repair.new.self ≡ handed_with (Some bytes) w.read = c.hand_out-in-Repair.ensures.handed ∙ ap (λ (g : Option (List ℕ)). handed_with g w.read) shown.1 in
    subst (λ (y : Reading). IsReadOver tops (record { read = y; check = w.check; prio = w.prio; is_reading = w.is_reading; base = w.base; asked = w.asked + 1 })) (sym handed)
    (repair_grown_over tops w c.in-Repair.field-0 bytes c.requires.over shown.1 c.in-Repair.ensures.allows
    (ap (left_of_read (setting_over tops) all_good) (sym handed) ∙ c.hand_out-in-Repair.ensures.left (setting_over tops) all_good))

pub returns-in-Repair-clause-outs : goal.returns-in-Repair-clause-outs
returns-in-Repair-clause-outs c =
    let w = c.args.self.now in
    let tops = c.args.tops.now in
    let shown = c.in-Repair.ensures.shows (setting_over tops) all_good refl in
    let bytes : List ℕ = shown.0 in
    let handed : c.hand_out-in-Repair.new.self ≡ handed_with (Some bytes) w.read = c.hand_out-in-Repair.ensures.handed ∙ ap (λ (g : Option (List ℕ)). handed_with g w.read) shown.1 in
    ap (λ (y : Reading). outs_when y.good y.is_out y.mends) handed ∙ repair_one_more w.read bytes shown.1

pub returns-in-Fetch-clause-pass : goal.returns-in-Fetch-clause-pass
returns-in-Fetch-clause-pass c =
    let w = c.args.self.now in
    let handed : c.hand_out.new.self ≡ handed_with None w.read = c.hand_out.ensures.handed ∙ ap (λ (g : Option (List ℕ)). handed_with g w.read) c.in-Fetch.ensures.allows.1 in
    ap (λ (y : Reading). y.retry) handed

pub returns-in-Repair-clause-pass : goal.returns-in-Repair-clause-pass
returns-in-Repair-clause-pass c =
    let w = c.args.self.now in
    let shown = c.in-Repair.ensures.shows (setting_over c.args.tops.now) all_good refl in
    let bytes : List ℕ = shown.0 in
    let handed : c.hand_out-in-Repair.new.self ≡ handed_with (Some bytes) w.read = c.hand_out-in-Repair.ensures.handed ∙ ap (λ (g : Option (List ℕ)). handed_with g w.read) shown.1 in
    ap (λ (y : Reading). y.retry) handed
