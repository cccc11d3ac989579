use Rattle.std.proofs.Common.{◌≡◌, ◌*◌, ◌-◌, List, Option, ap, arith, length, refl}
use Rattle.zio_parts.specs.declared.members.Member.{Member}
use Rattle.zio_stages.specs.PartWorks.{asked_by, is_second}
use Rattle.zio_stages.specs.declared.write_io.WriteIo.{WriteIo}
use Rattle.zio_nodes.specs.Bounds.{member_share, members_max, pass_left}
use Rattle.zio_nodes.proofs.PartBounds.{share_fresh}
use Rattle.zio_nodes.proofs.part_at.PartAt.new.Goals as goal

pub returns-clause-over : goal.returns-clause-over
returns-clause-over c = λ tops are units over. record { tops_are = are; units = units; over = over; stands = (refl, c.requires.none) }

pub returns-clause-left : goal.returns-clause-left
returns-clause-left c =
    let w = c.args.node.work in
    let levels = 8 - length w.own.part.path in
    let share : member_share levels * (members_max - length w.own.part.members) ≡ member_share levels * members_max =
    ap (λ (ms : List Member). member_share levels * (members_max - length ms)) c.requires.begun in
    let asked : asked_by w.io ≡ 0 = ap asked_by c.requires.none in
    let pass : pass_left (is_second w.io) ≡ 3 = ap (λ (io : Option WriteIo). pass_left (is_second io)) c.requires.none in
    omega (arith, share, asked, pass, share_fresh levels)
