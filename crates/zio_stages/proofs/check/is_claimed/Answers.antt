use Rattle.std.proofs.Common.{◌≡◌, length, get_or, true, refl, sym, ap, ◌∙◌, rules}
use Rattle.zio_types.specs.Choices.{no_place}
use Rattle.zio_blkptr.specs.declared.pointer.Bp.{Bp}
use Rattle.zio_cksum.specs.Headers.{is_header}
use Rattle.zio_stages.proofs.CheckLemmas.{block_size, claimed_at_first, fails, first_sector, other_long, taken_whole}
use Rattle.zio_stages.proofs.check.is_claimed.Goals as goal

pub returns-then-bytes-ne512 : goal.returns-then-bytes-ne512
returns-then-bytes-ne512 c =
    let bp : Bp = c.args.bp.now in
    let three : length bp.places ≡ 3 = search rules in
    sym (claimed_at_first bp c.args.bytes.now three c.requires ∙ other_long (get_or bp.places 0 no_place) bp.birth bp.size c.args.bytes.now (search rules))

pub header_decode-requires-clause-sector : goal.header_decode-requires-clause-sector
header_decode-requires-clause-sector c =
    let three : length c.args.bp.now.places ≡ 3 = search rules in
    first_sector c.args.bp.now three c.requires

pub header_decode-requires-clause-positive : goal.header_decode-requires-clause-positive
header_decode-requires-clause-positive c = (block_size c.args.bp.now c.requires).some

pub header_decode-requires-clause-whole : goal.header_decode-requires-clause-whole
header_decode-requires-clause-whole c = (block_size c.args.bp.now c.requires).whole

pub header_decode-requires-clause-most : goal.header_decode-requires-clause-most
header_decode-requires-clause-most c = (block_size c.args.bp.now c.requires).most

pub returns-in-Ok : goal.returns-in-Ok
returns-in-Ok c =
    let bp : Bp = c.args.bp.now in
    let three : length bp.places ≡ 3 = search rules in
    let len : length c.args.bytes.now ≡ 512 = search rules in
    let whole : c.in-Some.header.now ≡ c.args.bytes.now = taken_whole 512 c.args.bytes.now c.in-Some.header.now len c.in-Some.ensures.cases.same in
    let here : is_header (get_or bp.places 0 no_place) bp.birth bp.size c.in-Some.header.now ≡ true = c.in-Ok.ensures.accepted.0 refl in
    sym (claimed_at_first bp c.args.bytes.now three c.requires ∙ ap (is_header (get_or bp.places 0 no_place) bp.birth bp.size) (sym whole) ∙ here)

pub returns-in-Err : goal.returns-in-Err
returns-in-Err c =
    let bp : Bp = c.args.bp.now in
    let three : length bp.places ≡ 3 = search rules in
    let len : length c.args.bytes.now ≡ 512 = search rules in
    let whole : c.in-Some.header.now ≡ c.args.bytes.now = taken_whole 512 c.args.bytes.now c.in-Some.header.now len c.in-Some.ensures.cases.same in
    fails (is_header (get_or bp.places 0 no_place) bp.birth bp.size c.in-Some.header.now) (λ h. let f = c.in-Err.ensures.accepted.1 h in cc)
    ∙ ap (is_header (get_or bp.places 0 no_place) bp.birth bp.size) whole
    ∙ sym (claimed_at_first bp c.args.bytes.now three c.requires)
