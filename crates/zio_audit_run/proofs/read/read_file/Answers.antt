use Rattle.std.proofs.Common.{◌≡◌, [], get_or, length, map, take, drop, refl, sym, ap, ◌∙◌, arith}
use Rattle.std.proofs.lemmas.List.{take_all}
use Rattle.zio_cksum.specs.Images.{image_of}
use Rattle.zio_disks.proofs.DiskLemmas.{handles_none, handles_one, kept_outside, map_at, tell_at, tell_kept, writes_ranges}
use Rattle.zio_audit_run.proofs.ReadLemmas.{front_all}
use Rattle.zio_audit_run.proofs.read.read_file.Goals as goal

pub returns-in-Err-clause-handled : goal.returns-in-Err-clause-handled
returns-in-Err-clause-handled g c =
    handles_none g.D.Disk.bytes g.D.Disk.faults g.D.Disk.faults_at_fetch g.D.Disk.home g.D.Disk.image g.D.Disk.sound g.D.Disk.went [] _ c.args.disks.now (λ e. cc)

pub returns-in-Ok-read_at-clause-told : goal.returns-in-Ok-read_at-clause-told
returns-in-Ok-read_at-clause-told g c images tell =
    let k = c.args.k in
    let disks = c.args.disks.now in
    let any = c.index-disks-k-2.result in
    let there = image_of images k in
    let buffer = c.read_at.new.buffer in
    let told = tell_at g.D.Disk.image disks images k any tell c.requires in
    let size : length there ≡ g.D.Disk.bytes (get_or disks k any) = g.met.D.Disk.has_size (get_or disks k any) there told in
    let asked : c.size-len.result ≡ g.D.Disk.bytes (get_or disks k c.index-disks-k.result) = c.size-len.ensures in
    let here : get_or (map g.D.Disk.bytes disks) k 0 ≡ g.D.Disk.bytes (get_or disks k any) = map_at g.D.Disk.bytes disks k any c.requires in
    let same : get_or (map g.D.Disk.bytes disks) k 0 ≡ g.D.Disk.bytes (get_or disks k c.index-disks-k.result) =
    map_at g.D.Disk.bytes disks k c.index-disks-k.result c.requires in
    let made : c.in-Ok.bytes.len ≡ c.size-len.result = c.in-Ok.ensures.len in
    let items : c.in-Ok.bytes.len ≡ length c.in-Ok.bytes.items = c.in-Ok.bytes.ok.0 in
    let lent : length c.deref_mut.result.now ≡ length c.in-Ok.bytes.items = ap length c.deref_mut.ensures.value in
    let kept : length buffer ≡ length c.deref_mut.result.now = c.read_at.auto.buffer in
    let whole : length buffer ≡ c.in-Ok.bytes.len = kept ∙ (lent ∙ sym items) in
    let all : length buffer ≡ length there = whole ∙ (made ∙ (asked ∙ (sym same ∙ (here ∙ sym size)))) in
    let read : buffer ≡ take (length buffer) there = c.in-Ok-read_at.ensures.read there told in
    c.from_vec.ensures
    ∙ (front_all c.in-Ok.bytes.len buffer (drop (length buffer) c.in-Ok.bytes.items) whole ∙ (read ∙ take_all (length buffer) there (omega arith)))

pub returns-in-Ok-read_at-clause-still : goal.returns-in-Ok-read_at-clause-still
returns-in-Ok-read_at-clause-still g c images tell =
    tell_kept g.D.Disk.image c.args.disks.now images c.args.k c.index-disks-k-2.result c.read_at.new.self c.in-Ok-read_at.ensures.image tell

pub returns-in-Ok-read_at-clause-handled : goal.returns-in-Ok-read_at-clause-handled
returns-in-Ok-read_at-clause-handled g c =
    handles_one g.D.Disk.bytes g.D.Disk.faults g.D.Disk.faults_at_fetch g.D.Disk.home g.D.Disk.image g.D.Disk.sound g.D.Disk.went [] _ c.args.disks.now c.args.k c.index-disks-k-2.result c.read_at.new.self
    c.requires c.in-Ok-read_at.ensures.bytes c.in-Ok-read_at.ensures.at_fetch c.in-Ok-read_at.ensures.home (λ content told. (content, (c.in-Ok-read_at.ensures.image content).0 told))
    c.in-Ok-read_at.ensures.sound c.in-Ok-read_at.ensures.count.ok (λ e. cc) (λ other. c.in-Ok-read_at.ensures.count.ok)
    (kept_outside g.D.Disk.image [] c.args.disks.now c.args.k c.index-disks-k-2.result c.read_at.new.self c.in-Ok-read_at.ensures.image)
    (writes_ranges g.D.Disk.went [] c.args.k [] (get_or c.args.disks.now c.args.k c.index-disks-k-2.result) c.read_at.new.self g.met.D.Disk.went_then c.in-Ok-read_at.ensures.went tt)

pub returns-in-Err-read_at-clause-still : goal.returns-in-Err-read_at-clause-still
returns-in-Err-read_at-clause-still g c images tell =
    tell_kept g.D.Disk.image c.args.disks.now images c.args.k c.index-disks-k-2.result c.read_at.new.self c.in-Err-read_at.ensures.image tell

pub returns-in-Err-read_at-clause-handled : goal.returns-in-Err-read_at-clause-handled
returns-in-Err-read_at-clause-handled g c =
    handles_one g.D.Disk.bytes g.D.Disk.faults g.D.Disk.faults_at_fetch g.D.Disk.home g.D.Disk.image g.D.Disk.sound g.D.Disk.went [] _ c.args.disks.now c.args.k c.index-disks-k-2.result c.read_at.new.self
    c.requires c.in-Err-read_at.ensures.bytes c.in-Err-read_at.ensures.at_fetch c.in-Err-read_at.ensures.home (λ content told. (content, (c.in-Err-read_at.ensures.image content).0 told))
    c.in-Err-read_at.ensures.sound tt (λ e. c.in-Err-read_at.ensures.count.failed) (λ other. absurd (other refl))
    (kept_outside g.D.Disk.image [] c.args.disks.now c.args.k c.index-disks-k-2.result c.read_at.new.self c.in-Err-read_at.ensures.image)
    (writes_ranges g.D.Disk.went [] c.args.k [] (get_or c.args.disks.now c.args.k c.index-disks-k-2.result) c.read_at.new.self g.met.D.Disk.went_then c.in-Err-read_at.ensures.went tt)
