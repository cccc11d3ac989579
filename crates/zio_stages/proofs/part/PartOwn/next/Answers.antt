use Rattle.std.proofs.Common.{◌<◌, sym, subst, length, None}
use Rattle.std.specs.Prelude.{Contains}
use Rattle.zio_frames.specs.Slots.{told_in}
use Rattle.zio_parts.specs.PartWrites.{ShowsPart}
use Rattle.zio_stages.proofs.PartOwnLemmas.{member_task}
use Rattle.zio_stages.proofs.part.PartOwn.next.Goals as goal

pub returns-clause-waits : goal.returns-clause-waits
returns-clause-waits c = λ is t o asked slots h.
    subst (λ s. 0 < length (told_in s)) (sym h.shown)
    (subst (ShowsPart t.setting (member_task o) o.bytes c.args.self.now.part) is (c.next.ensures.shows t.setting (member_task o) o.bytes h.of_bytes))

pub returns-clause-waits_ready : goal.returns-clause-waits_ready
returns-clause-waits_ready c = λ is t o asked slots h.
    subst (λ s. Contains (told_in s) None) (sym h.shown)
    (subst (ShowsPart t.setting (member_task o) o.bytes c.args.self.now.part) is (c.next.ensures.shows t.setting (member_task o) o.bytes h.of_bytes))
