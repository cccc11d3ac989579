use Rattle.std.proofs.Common.{◌≤◌, length, ap, rules, ◌∙◌}
use Rattle.zio_course.specs.Names.{byte_order}
use Rattle.zio_course.proofs.NameLemmas.{order_of}
use Rattle.zio_course.proofs.bound.rank.Goals as goal

pub returns : goal.returns
returns c =
    let text = c.as_bytes-text.result.now in
    let fits : length text ≤ 16 = search rules in
    c.from_be_bytes.ensures ∙ order_of text c.copy_from_slice.new.self c.copy_from_slice.ensures.after fits
    ∙ ap byte_order c.as_bytes-text.ensures.text
