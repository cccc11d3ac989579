use Rattle.std.proofs.Common.{◌≡◌, ℕ, List, ap, arith, length, map, ◌∙◌}
use Rattle.std.proofs.lemmas.List.{take_at}
use Rattle.std.proofs.lemmas.Result.{IfOk-weaker}
use Rattle.zio_cksum.specs.Images.{Images, Spot, bytes_at}
use Rattle.zio_disks.specs.Disks.{Tell}
use Rattle.zio_groups.specs.Spans.{AreParts, part_answered, span_spot}
use Rattle.zio_groups.specs.declared.waiting.Answered.{Answered}
use Rattle.zio_groups.proofs.span.read_parts.Goals as goal

pub returns-clause-parts : goal.returns-clause-parts
returns-clause-parts g c =
    let group = c.args.group.now in
    let members = c.args.members.now in
    let bytes : List ℕ = c.fetch_any.new.buffer in
    let whole : length bytes ≡ c.args.room.len = omega (arith, c.fetch_any.auto.buffer, c.as_mut_slice.ensures.len) in
    let long : length bytes ≡ group.len = omega (arith, whole, c.requires.long) in
    let held : c.alone.result ≡ bytes = c.alone.ensures ∙ (c.from_vec.ensures ∙ take_at bytes _ c.args.room.len whole) in
    let asked : length c.as_mut_slice.result.now ≡ group.len = omega (arith, long, c.fetch_any.auto.buffer) in
    IfOk-weaker c.parts_of.result
    (λ (answers : List Answered). answers ≡ map (part_answered group.at c.alone.result) members)
    (AreParts g.D.Disk.image c.args.leaf group members c.args.disks.now c.fetch_any.new.disks)
    (λ answers are. record {
      bytes = bytes;
      long = long;
      parts = are ∙ ap (λ (now : List ℕ). map (part_answered group.at now) members) held;
      told = λ images before. (
        (c.in_ok-fetch_any.ensures.told images before).0 ∙ (ap (λ (spot : Spot). bytes_at images spot (length c.as_mut_slice.result.now)) c.span_spot.ensures ∙ ap (bytes_at images (span_spot c.args.leaf group)) asked),
        (c.in_ok-fetch_any.ensures.told images before).1,
      );
    })
    c.parts_of.ensures.ok
