use Rattle.std.proofs.Common.{subst, sym}
use Rattle.zio_trace.specs.Tasks.{Find}
use Rattle.zio_stages.specs.PartOwns.{PartAsks}
use Rattle.zio_stages.proofs.PartOwnLemmas.{member_task, part_asks}
use Rattle.zio_stages.proofs.part.PartOwn.body_ask.Goals as goal

pub returns-clause-asks : goal.returns-clause-asks
returns-clause-asks c = λ t o asked slots h.
    subst (λ a. PartAsks t o slots (Find a)) (sym (c.body_ask.ensures.ask t.setting o.bytes (sym h.of_bytes.size)))
    (part_asks t c.args.self.now o asked slots _ h (c.requires.shows t.setting (member_task o) o.bytes h.of_bytes))
