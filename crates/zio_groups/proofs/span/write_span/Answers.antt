use Rattle.std.proofs.Common.{◌≡◌, ◌+◌, ◌≤◌, ◌∷◌, [], length, map, slice_index_or, ap, sym, subst, ◌∙◌, arith}
use Rattle.zio_cksum.specs.Images.{Spot}
use Rattle.zio_disks.proofs.DiskLemmas.{handles_none, not_device}
use Rattle.zio_groups.specs.Spans.{span_spot}
use Rattle.zio_groups.proofs.CoverLemmas.{memory_on}
use Rattle.zio_groups.proofs.SpanLemmas.{joined_long}
use Rattle.zio_groups.proofs.span.write_span.Goals as goal

pub returns-in_err-whole-clause-handled : goal.returns-in_err-whole-clause-handled
returns-in_err-whole-clause-handled g c =
    handles_none g.D.Disk.bytes g.D.Disk.faults g.D.Disk.faults_at_fetch g.D.Disk.home g.D.Disk.image g.D.Disk.sound g.D.Disk.went (span_spot c.args.leaf c.args.group.now ∷ []) c.from_residual.result c.args.disks.now
    (not_device c.from_residual.result (memory_on c.from_residual.result _ c.from_residual.ensures.1 c.in_err-whole.ensures.err))

pub returns-in_err-join_all-clause-handled : goal.returns-in_err-join_all-clause-handled
returns-in_err-join_all-clause-handled g c =
    handles_none g.D.Disk.bytes g.D.Disk.faults g.D.Disk.faults_at_fetch g.D.Disk.home g.D.Disk.image g.D.Disk.sound g.D.Disk.went (span_spot c.args.leaf c.args.group.now ∷ []) c.from_residual-in_err-join_all.result c.args.disks.now
    (not_device c.from_residual-in_err-join_all.result (memory_on c.from_residual-in_err-join_all.result _ c.from_residual-in_err-join_all.ensures.1 c.in_err-join_all.ensures.err))

pub store-requires-clause-whole : goal.store-requires-clause-whole
store-requires-clause-whole g c =
    ap length (c.as_slice.ensures.value ∙ c.in_ok-join_all.ensures.ok)
    ∙ joined_long c.args.group.now c.args.members.now c.requires.members.run c.requires.members.span
    ∙ ap (λ (spot : Spot). spot.span) (sym c.span_spot.ensures)

pub store-requires-clause-lies : goal.store-requires-clause-lies
store-requires-clause-lies g c =
    let long : length c.as_slice.result.now ≡ c.args.group.now.len =
    ap length (c.as_slice.ensures.value ∙ c.in_ok-join_all.ensures.ok) ∙ joined_long c.args.group.now c.args.members.now c.requires.members.run c.requires.members.span in
    subst (λ (spot : Spot). spot.at + length c.as_slice.result.now ≤ slice_index_or (map g.D.Disk.bytes c.args.disks.now) spot.leaf 0) (sym c.span_spot.ensures) (omega arith)
