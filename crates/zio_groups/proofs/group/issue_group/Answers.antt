use Rattle.std.proofs.Common.{◌≡◌, ℕ, ◌+◌, ◌≤◌, ◌^◌, List, Bool, true, false, None, length, map, slice_index_or, ap, sym, subst, ◌∙◌, arith}
use Rattle.std.proofs.lemmas.Result.{IfOk-weaker}
use Rattle.zio_cksum.specs.Images.{Images, Setting, image_of, met, with_bytes}
use Rattle.zio_cksum.proofs.AllLemmas.{all_weaker}
use Rattle.zio_disks.specs.Disks.{Tell}
use Rattle.zio_disks.proofs.DiskLemmas.{handles_wider}
use Rattle.zio_vqueue.specs.declared.op.Group.{Group}
use Rattle.zio_vqueue.specs.Queues.{end_of}
use Rattle.zio_groups.specs.declared.waiting.QueuedOp.{QueuedOp}
use Rattle.zio_groups.specs.declared.waiting.Answered.{Answered}
use Rattle.zio_groups.specs.Issued.{AreWhole, IsFit, all_issued, head_of, written_spots}
use Rattle.zio_groups.specs.LeafQueues.{AreMembers}
use Rattle.zio_groups.specs.Spans.{AreParts, joined, span_spot, stored_answered}
use Rattle.zio_groups.proofs.CoverLemmas.{handles_span, told_size}
use Rattle.zio_groups.proofs.IssueLemmas.{ok_both}
use Rattle.zio_groups.proofs.SpanLemmas.{group_ends, group_within, group_writes, not_lone, parts_heads_told, parts_told, parts_whole, span_written, stored_whole, writes_stored}
use Rattle.zio_groups.proofs.group.issue_group.Goals as goal

pub lone-requires-clause-span : goal.lone-requires-clause-span
lone-requires-clause-span g c =
    let ends : c.args.group.now.at + c.args.group.now.len ≤ 2 ^ 48 =
    group_ends (2 ^ 48) c.args.group.now c.requires.members.0 c.args.members.now c.requires.members.1 (all_weaker IsFit (λ (w : QueuedOp). end_of w.op ≤ 2 ^ 48) c.args.members.now (λ w fit. fit.device) c.requires.fit) in
    omega arith

pub write_span-requires-clause-members : goal.write_span-requires-clause-members
write_span-requires-clause-members g c =
    let write : c.requires.members.0 ≡ true = sym (group_writes c.args.group.now c.requires.members.0 c.args.members.now c.requires.members.1) ∙ sym c.is_write.ensures ∙ c.if-is_write.true in
    subst (λ (b : Bool). AreMembers c.args.group.now b c.args.members.now) write c.requires.members.1

pub write_span-requires-clause-lies : goal.write_span-requires-clause-lies
write_span-requires-clause-lies g c =
    group_ends (slice_index_or (map g.D.Disk.bytes c.args.disks.now) c.args.leaf 0) c.args.group.now c.requires.members.0 c.args.members.now c.requires.members.1 c.requires.lies

pub read_span-requires-clause-inside : goal.read_span-requires-clause-inside
read_span-requires-clause-inside g c = group_within c.args.group.now c.requires.members.0 c.args.members.now c.requires.members.1

pub read_span-requires-clause-lies : goal.read_span-requires-clause-lies
read_span-requires-clause-lies g c =
    group_ends (slice_index_or (map g.D.Disk.bytes c.args.disks.now) c.args.leaf 0) c.args.group.now c.requires.members.0 c.args.members.now c.requires.members.1 c.requires.lies

pub returns-then-is_write-clause-told : goal.returns-then-is_write-clause-told
returns-then-is_write-clause-told g c =
    let s : Setting = c.args.setting.now in
    let leaf : ℕ = c.args.leaf in
    let group : Group = c.args.group.now in
    let ws : List QueuedOp = c.args.members.now in
    let is : c.requires.members.0 ≡ true = sym (group_writes group c.requires.members.0 ws c.requires.members.1) ∙ sym c.is_write.ensures ∙ c.if-is_write.true in
    let members : AreMembers group true ws = subst (λ (b : Bool). AreMembers group b ws) is c.requires.members.1 in
    let none : met s false true (span_spot leaf group) ≡ None =
    not_lone s (record { tops = c.setting.inside.tops; rows = c.setting.inside.table.rows; point = c.setting.inside.point }) leaf group true c.lone.result c.setting.view_is (group_writes group true ws members) c.if-lone.false c.lone.ensures in
    let ends : group.at + group.len ≤ slice_index_or (map g.D.Disk.bytes c.args.disks.now) leaf 0 = group_ends (slice_index_or (map g.D.Disk.bytes c.args.disks.now) leaf 0) group true ws members c.requires.lies in
    ok_both
    (λ (answers : List Answered). (images : Images) → Tell g.D.Disk.image c.args.disks.now images → Tell g.D.Disk.image c.write_span.new.disks (with_bytes images (span_spot leaf group) (joined ws)))
    (λ (answers : List Answered). answers ≡ map stored_answered ws)
    (λ (answers : List Answered). (images : Images) → Tell g.D.Disk.image c.args.disks.now images → (answers ≡ (all_issued s leaf ws images).answers) × Tell g.D.Disk.image c.write_span.new.disks (all_issued s leaf ws images).images)
    c.write_span.result
    (λ answers told stored images before.
    let size : length (image_of images leaf) ≡ slice_index_or (map g.D.Disk.bytes c.args.disks.now) leaf 0 = told_size g.D.Disk.bytes g.D.Disk.image g.met.D.Disk.has_size c.args.disks.now images leaf before in (
      stored ∙ sym (writes_stored s leaf group images ws members.alike (group_within group true ws members) none),
      subst (Tell g.D.Disk.image c.write_span.new.disks) (span_written s leaf group images ws members.alike (group_within group true ws members) none members.run members.span (omega arith)) (told images before),
    ))
    c.write_span.ensures.told c.write_span.ensures.answers

pub returns-then-is_write-clause-heads : goal.returns-then-is_write-clause-heads
returns-then-is_write-clause-heads g c =
    let s : Setting = c.args.setting.now in
    let leaf : ℕ = c.args.leaf in
    let group : Group = c.args.group.now in
    let ws : List QueuedOp = c.args.members.now in
    let is : c.requires.members.0 ≡ true = sym (group_writes group c.requires.members.0 ws c.requires.members.1) ∙ sym c.is_write.ensures ∙ c.if-is_write.true in
    let members : AreMembers group true ws = subst (λ (b : Bool). AreMembers group b ws) is c.requires.members.1 in
    let none : met s false true (span_spot leaf group) ≡ None =
    not_lone s (record { tops = c.setting.inside.tops; rows = c.setting.inside.table.rows; point = c.setting.inside.point }) leaf group true c.lone.result c.setting.view_is (group_writes group true ws members) c.if-lone.false c.lone.ensures in
    IfOk-weaker c.write_span.result
    (λ (answers : List Answered). answers ≡ map stored_answered ws)
    (λ (answers : List Answered). (images : Images) → map head_of answers ≡ map head_of ((all_issued s leaf ws images).answers))
    (λ answers stored images. ap (map head_of) (stored ∙ sym (writes_stored s leaf group images ws members.alike (group_within group true ws members) none)))
    c.write_span.ensures.answers

pub returns-then-is_write-clause-whole : goal.returns-then-is_write-clause-whole
returns-then-is_write-clause-whole g c =
    let ws : List QueuedOp = c.args.members.now in
    let is : c.requires.members.0 ≡ true = sym (group_writes c.args.group.now c.requires.members.0 ws c.requires.members.1) ∙ sym c.is_write.ensures ∙ c.if-is_write.true in
    let members : AreMembers c.args.group.now true ws = subst (λ (b : Bool). AreMembers c.args.group.now b ws) is c.requires.members.1 in
    IfOk-weaker c.write_span.result (λ (answers : List Answered). answers ≡ map stored_answered ws) (AreWhole ws) (λ answers stored. subst (AreWhole ws) (sym stored) (stored_whole ws members.alike)) c.write_span.ensures.answers

pub returns-then-is_write-clause-handled : goal.returns-then-is_write-clause-handled
returns-then-is_write-clause-handled g c =
    let ws : List QueuedOp = c.args.members.now in
    let is : c.requires.members.0 ≡ true = sym (group_writes c.args.group.now c.requires.members.0 ws c.requires.members.1) ∙ sym c.is_write.ensures ∙ c.if-is_write.true in
    let members : AreMembers c.args.group.now true ws = subst (λ (b : Bool). AreMembers c.args.group.now b ws) is c.requires.members.1 in
    handles_span c.args.leaf c.args.group.now ws members.alike members.run members.span c.write_span.ensures.handled

pub returns-clause-told : goal.returns-clause-told
returns-clause-told g c =
    let s : Setting = c.args.setting.now in
    let leaf : ℕ = c.args.leaf in
    let group : Group = c.args.group.now in
    let ws : List QueuedOp = c.args.members.now in
    let is : c.requires.members.0 ≡ false = sym (group_writes group c.requires.members.0 ws c.requires.members.1) ∙ sym c.is_write.ensures ∙ c.if-is_write.false in
    let members : AreMembers group false ws = subst (λ (b : Bool). AreMembers group b ws) is c.requires.members.1 in
    let none : met s false false (span_spot leaf group) ≡ None =
    not_lone s (record { tops = c.setting.inside.tops; rows = c.setting.inside.table.rows; point = c.setting.inside.point }) leaf group false c.lone.result c.setting.view_is (group_writes group false ws members) c.if-lone.false c.lone.ensures in
    IfOk-weaker c.read_span.result (AreParts g.D.Disk.image leaf group ws c.args.disks.now c.read_span.new.disks)
    (λ (answers : List Answered). (images : Images) → Tell g.D.Disk.image c.args.disks.now images → (answers ≡ (all_issued s leaf ws images).answers) × Tell g.D.Disk.image c.read_span.new.disks (all_issued s leaf ws images).images)
    (λ answers parts. parts_told g.D.Disk.image s leaf group ws c.args.disks.now c.read_span.new.disks answers members none parts) c.read_span.ensures.parts

pub returns-clause-heads : goal.returns-clause-heads
returns-clause-heads g c =
    let s : Setting = c.args.setting.now in
    let leaf : ℕ = c.args.leaf in
    let group : Group = c.args.group.now in
    let ws : List QueuedOp = c.args.members.now in
    let is : c.requires.members.0 ≡ false = sym (group_writes group c.requires.members.0 ws c.requires.members.1) ∙ sym c.is_write.ensures ∙ c.if-is_write.false in
    let members : AreMembers group false ws = subst (λ (b : Bool). AreMembers group b ws) is c.requires.members.1 in
    let none : met s false false (span_spot leaf group) ≡ None =
    not_lone s (record { tops = c.setting.inside.tops; rows = c.setting.inside.table.rows; point = c.setting.inside.point }) leaf group false c.lone.result c.setting.view_is (group_writes group false ws members) c.if-lone.false c.lone.ensures in
    IfOk-weaker c.read_span.result (AreParts g.D.Disk.image leaf group ws c.args.disks.now c.read_span.new.disks)
    (λ (answers : List Answered). (images : Images) → map head_of answers ≡ map head_of ((all_issued s leaf ws images).answers))
    (λ answers parts. parts_heads_told g.D.Disk.image s leaf group ws c.args.disks.now c.read_span.new.disks answers members none parts) c.read_span.ensures.parts

pub returns-clause-whole : goal.returns-clause-whole
returns-clause-whole g c =
    let ws : List QueuedOp = c.args.members.now in
    IfOk-weaker c.read_span.result (AreParts g.D.Disk.image c.args.leaf c.args.group.now ws c.args.disks.now c.read_span.new.disks) (AreWhole ws)
    (λ answers parts. subst (AreWhole ws) (sym parts.parts) (parts_whole c.args.group.now parts.bytes ws (group_within c.args.group.now c.requires.members.0 ws c.requires.members.1) parts.long))
    c.read_span.ensures.parts

pub returns-clause-handled : goal.returns-clause-handled
returns-clause-handled g c = handles_wider (written_spots c.args.leaf c.args.members.now) tt c.read_span.ensures.handled
