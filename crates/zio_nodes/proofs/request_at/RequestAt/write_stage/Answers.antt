use Rattle.std.proofs.Common.{refl}
use Rattle.zio_nodes.specs.Nodes.{moved}
use Rattle.zio_nodes.specs.declared.node.Node.TheVariants.{Request}
use Rattle.zio_nodes.proofs.NodeLemmas.{bare_move, turn_moves, turn_stays}
use Rattle.zio_masks.specs.declared.stage.Stage.TheVariants.{WriteBpInit, IssueAsync, WriteCompress, ChecksumGenerate, DvaAllocate, Ready, VdevIoAssess}
use Rattle.zio_nodes.proofs.PassLemmas.{other_stage, other_turn}
use Rattle.zio_nodes.proofs.request_at.RequestAt.write_stage.Goals as goal

pub returns-in-WriteBpInit-clause-moves : goal.returns-in-WriteBpInit-clause-moves
returns-in-WriteBpInit-clause-moves g c =
    let tops = g.S.Services.tops c.args.services.now in
    bare_move g.S.Services.made tops tops c.args.services.now (Request c.args.self.now) (moved (Request c.write_bp_init.new.self) c.write_bp_init.result) refl (g.met.S.Services.made_none c.args.services.now) (c.write_bp_init.ensures.moves tops)

pub returns-in-IssueAsync-clause-moves : goal.returns-in-IssueAsync-clause-moves
returns-in-IssueAsync-clause-moves g c =
    let tops = g.S.Services.tops c.args.services.now in
    bare_move g.S.Services.made tops tops c.args.services.now (Request c.args.self.now) (moved (Request c.issue_async.new.self) c.issue_async.result) refl (g.met.S.Services.made_none c.args.services.now) (c.issue_async.ensures.moves tops)

pub returns-in-ChecksumGenerate-clause-moves : goal.returns-in-ChecksumGenerate-clause-moves
returns-in-ChecksumGenerate-clause-moves g c =
    let tops = g.S.Services.tops c.args.services.now in
    bare_move g.S.Services.made tops tops c.args.services.now (Request c.args.self.now) (moved (Request c.checksum_generate.new.self) c.checksum_generate.result) refl (g.met.S.Services.made_none c.args.services.now) (c.checksum_generate.ensures.moves tops)

pub returns-in-Ready-clause-moves : goal.returns-in-Ready-clause-moves
returns-in-Ready-clause-moves g c =
    let tops = g.S.Services.tops c.args.services.now in
    bare_move g.S.Services.made tops tops c.args.services.now (Request c.args.self.now) (moved (Request c.write_ready.new.self) c.write_ready.result) refl (g.met.S.Services.made_none c.args.services.now) (c.write_ready.ensures.moves tops)

pub returns-in-WriteCompress-clause-moves : goal.returns-in-WriteCompress-clause-moves
returns-in-WriteCompress-clause-moves g c =
    let tops = g.S.Services.tops c.args.services.now in
    turn_moves g.S.Services.made tops tops c.args.services.now (Request c.args.self.now) (Request c.write_compress.new.self) c.write_compress.result refl (g.met.S.Services.made_none c.args.services.now) (c.write_compress.ensures.moves tops)

pub returns-in-WriteCompress-clause-refused : goal.returns-in-WriteCompress-clause-refused
returns-in-WriteCompress-clause-refused g c =
    let tops = g.S.Services.tops c.args.services.now in
    turn_stays g.S.Services.made tops tops c.args.services.now (Request c.args.self.now) (Request c.write_compress.new.self) c.write_compress.result refl (g.met.S.Services.made_none c.args.services.now) (c.write_compress.ensures.refused tops)

pub returns-in-VdevIoStart-clause-moves : goal.returns-in-VdevIoStart-clause-moves
returns-in-VdevIoStart-clause-moves g c =
    turn_moves g.S.Services.made (g.S.Services.tops c.args.services.now) c.tops.result.now c.args.services.now (Request c.args.self.now) (Request c.write_io_start.new.self) c.write_io_start.result c.tops.ensures
    (g.met.S.Services.made_none c.args.services.now) c.write_io_start.ensures.moves

pub returns-in-VdevIoStart-clause-refused : goal.returns-in-VdevIoStart-clause-refused
returns-in-VdevIoStart-clause-refused g c =
    turn_stays g.S.Services.made (g.S.Services.tops c.args.services.now) c.tops.result.now c.args.services.now (Request c.args.self.now) (Request c.write_io_start.new.self) c.write_io_start.result c.tops.ensures
    (g.met.S.Services.made_none c.args.services.now) c.write_io_start.ensures.refused

pub returns-in-VdevIoDone-clause-moves : goal.returns-in-VdevIoDone-clause-moves
returns-in-VdevIoDone-clause-moves g c =
    bare_move g.S.Services.made (g.S.Services.tops c.args.services.now) c.tops-in-VdevIoDone.result.now c.args.services.now (Request c.args.self.now) (moved (Request c.write_io_done.new.self) c.write_io_done.result)
    c.tops-in-VdevIoDone.ensures (g.met.S.Services.made_none c.args.services.now) c.write_io_done.ensures.moves

pub returns-in-VdevIoAssess-clause-moves : goal.returns-in-VdevIoAssess-clause-moves
returns-in-VdevIoAssess-clause-moves g c =
    bare_move g.S.Services.made (g.S.Services.tops c.args.services.now) c.tops-in-VdevIoAssess.result.now c.args.services.now (Request c.args.self.now) (moved (Request c.write_io_assess.new.self) c.write_io_assess.result)
    c.tops-in-VdevIoAssess.ensures (g.met.S.Services.made_none c.args.services.now) c.write_io_assess.ensures.moves

pub returns-in-WriteBpInit-clause-pass : goal.returns-in-WriteBpInit-clause-pass
returns-in-WriteBpInit-clause-pass g c = other_stage _ WriteBpInit (Request c.args.self.now) (moved (Request c.write_bp_init.new.self) c.write_bp_init.result) c.in-WriteBpInit.is tt

pub returns-in-IssueAsync-clause-pass : goal.returns-in-IssueAsync-clause-pass
returns-in-IssueAsync-clause-pass g c = other_stage _ IssueAsync (Request c.args.self.now) (moved (Request c.issue_async.new.self) c.issue_async.result) c.in-IssueAsync.is tt

pub returns-in-WriteCompress-clause-pass : goal.returns-in-WriteCompress-clause-pass
returns-in-WriteCompress-clause-pass g c = other_turn _ WriteCompress (Request c.args.self.now) (Request c.write_compress.new.self) c.write_compress.result c.in-WriteCompress.is tt

pub returns-in-ChecksumGenerate-clause-pass : goal.returns-in-ChecksumGenerate-clause-pass
returns-in-ChecksumGenerate-clause-pass g c = other_stage _ ChecksumGenerate (Request c.args.self.now) (moved (Request c.checksum_generate.new.self) c.checksum_generate.result) c.in-ChecksumGenerate.is tt

pub returns-in-DvaAllocate-clause-pass : goal.returns-in-DvaAllocate-clause-pass
returns-in-DvaAllocate-clause-pass g c = other_turn _ DvaAllocate (Request c.args.self.now) (Request c.dva_allocate.new.self) c.dva_allocate.result c.in-DvaAllocate.is tt

pub returns-in-Ready-clause-pass : goal.returns-in-Ready-clause-pass
returns-in-Ready-clause-pass g c = other_stage _ Ready (Request c.args.self.now) (moved (Request c.write_ready.new.self) c.write_ready.result) c.in-Ready.is tt

pub returns-in-VdevIoAssess-clause-pass : goal.returns-in-VdevIoAssess-clause-pass
returns-in-VdevIoAssess-clause-pass g c = other_stage _ VdevIoAssess (Request c.args.self.now) (moved (Request c.write_io_assess.new.self) c.write_io_assess.result) c.in-VdevIoAssess.is tt
