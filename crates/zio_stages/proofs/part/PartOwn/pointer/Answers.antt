use Rattle.std.proofs.Common.{◌≡◌, sym, subst}
use Rattle.zio_trace.specs.Tasks.{Value}
use Rattle.zio_trace.specs.Underway.{early}
use Rattle.zio_frames.specs.Slots.{left_behind_slots, told_in}
use Rattle.zio_parts.specs.PartWrites.{EndsAlways}
use Rattle.zio_stages.specs.PartOwns.{part_plan}
use Rattle.zio_stages.proofs.PartHeader.{always_answered}
use Rattle.zio_stages.proofs.PartOwnLemmas.{left_is, member_task}
use Rattle.zio_stages.proofs.part.PartOwn.pointer.Goals as goal

pub returns-clause-early : goal.returns-clause-early
returns-clause-early c = λ ready t o asked slots h.
    always_answered (λ (v : Value). early v ≡ c.pointer.result) (told_in slots) (left_behind_slots slots (part_plan t o))
    (subst (EndsAlways (λ (v : Value). early v ≡ c.pointer.result)) (sym (left_is t c.args.self.now o asked slots h)) (c.pointer.ensures.early ready t.setting (member_task o) o.bytes h.of_bytes))
