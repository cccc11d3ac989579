use Rattle.std.proofs.Common.{rules, ◌≡◌, ◌*◌, length, replicate, None, refl, ap, ◌∙◌}
use Rattle.std.proofs.lemmas.List.{length-replicate}
use Rattle.zio_turns.proofs.TableLemmas.{kept_new, stands_none, same_held}
use Rattle.zio_turns.proofs.table.Table.with_size.Goals as goal

pub invariant_of-result : goal.invariant_of-result
invariant_of-result c =
    let nodes : c.in_ok-vec.field-0.items ≡ replicate (2 * c.args.size) 0 = search rules in
    let places : c.in_ok-vec-2.field-0.items ≡ replicate c.args.size None = search rules in
    kept_new c.args.size c.in_ok-vec.field-0.items c.in_ok-vec-2.field-0.items c.requires.sized nodes places

pub returns : goal.returns
returns c =
    let places : c.in_ok-vec-2.field-0.items ≡ replicate c.args.size None = search rules in
    same_held (stands_none c.args.size c.in_ok-vec-2.field-0.items places) (ap length places ∙ length-replicate c.args.size None) refl
