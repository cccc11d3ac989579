use Rattle.std.proofs.Common.{sym, subst}
use Rattle.zio_trace.specs.Calls.{NextIs}
use Rattle.zio_trace.specs.Tasks.{WriteCopies}
use Rattle.zio_frames.specs.Slots.{told_in}
use Rattle.zio_parts.specs.Parts.{left_of_part, places_at, slots_of}
use Rattle.zio_parts.specs.PartWrites.{stored_pointer}
use Rattle.zio_stages.specs.declared.part.PartOwn.{PartOwn}
use Rattle.zio_stages.proofs.PartOwnLemmas.{member_task}
use Rattle.zio_stages.proofs.PartOwnMoves.{header_handed}
use Rattle.zio_stages.proofs.part.PartOwn.hand_out_header.Goals as goal

pub returns-clause-out : goal.returns-clause-out
returns-clause-out c = λ t o asked slots h.
    let old = c.args.self.now in
    let now : PartOwn = record { part = c.hand_out.new.self } in
    let shows = c.requires.shows t.setting (member_task o) o.bytes h.of_bytes in
    header_handed t old now o asked slots c.header-bytes.result c.requires h c.hand_out.ensures.handed c.hand_out.ensures.slots
    (subst (λ bytes. NextIs stored_pointer (told_in (slots_of old.part)) (left_of_part t.setting (member_task o) o.bytes old.part) (WriteCopies bytes (places_at old.part.placing))) (sym c.header-bytes.ensures) shows.1)
